-- The sections of an image whose lengths agree.
use Rattle.std.specs.Prelude.{◌≡◌, ℕ, ◌+◌, ◌≤◌, Bool, List, length, nat_le}
use Rattle.edd_image.specs.Contents.{Span}
use Rattle.edd_image.specs.Fields.{header_length, sections_end}

-- the bytes have a header, and the sections after it fill them
pub record AreSectionsOf (b : List ℕ) : Type 0 where
  pub header : header_length ≤ length b
  pub filled : sections_end b ≡ length b

-- a span ends at the end at the latest
abbrev pub lies_within : ℕ → Span → Bool
lies_within end span = nat_le (span.start + span.size) end
