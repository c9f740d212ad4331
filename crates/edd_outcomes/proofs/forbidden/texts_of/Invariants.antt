use Rattle.std.proofs.Common.{◌≡◌, ℕ, List, ◌||◌, drop, is_some}
use Rattle.std.specs.HashMap.{get_by}
use Rattle.std.specs.Str.{bytes_eq}
use Rattle.edd_outcomes.specs.Expected.{is_printed, texts}
use Rattle.edd_outcomes.proofs.forbidden.texts_of.Given as goal

-- a text is in the map, or it is printed in one of the lines that are left
abbrev pub invariant-loop-line : goal.invariant-loop-line
invariant-loop-line l = (text : List ℕ)
    → (is_some (get_by (λ k. bytes_eq text k.now) l.printed) || is_printed (texts (drop l.line-index l.seen)) text)
    ≡ is_printed (texts l.seen) text
