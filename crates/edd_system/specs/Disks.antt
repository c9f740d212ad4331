-- What the writing of a file changes.
use Rattle.std.specs.Prelude.{◌≡◌, ℕ, Bool, true, false, List, ◌++◌, Option, Some, None, if◌then◌else◌}
use Rattle.std.specs.Option.{option_map}
use Rattle.std.specs.Str.{bytes_eq}
use Rattle.edd_system.specs.declared.way.Identity.{Identity}
use Rattle.edd_system.specs.declared.way.Standing.{Standing}
use Rattle.edd_system.specs.declared.way.Way.{Way}
use Rattle.edd_system.specs.declared.way.Way.TheVariants.{Beside, AsItIs, Refused}
use Rattle.edd_system.specs.Ways.{IsWay}

-- a new file: its bytes, and whether they outlast a loss of power
pub record NewFile : Type 0 where
  pub bytes : List ℕ
  pub is_lasting : Bool

-- the plain files of a disk, and one that has no place yet
pub record PlainFiles : Type 0 where
  -- the place to which a name leads, its links followed
  pub place : List ℕ → List ℕ
  -- the bytes of the plain file at a place
  pub bytes : List ℕ → Option (List ℕ)
  -- the new file, which is beside a place
  pub beside : Option NewFile

-- with a new file of these bytes, which were written just now
abbrev pub with_beside : List ℕ → PlainFiles → PlainFiles
with_beside bytes files = record files {
  beside = Some (record { bytes = bytes; is_lasting = false });
}

-- with a new file of these bytes, which last
abbrev pub with_lasting : List ℕ → PlainFiles → PlainFiles
with_lasting bytes files = record files {
  beside = Some (record { bytes = bytes; is_lasting = true });
}

-- without a new file
abbrev pub without_beside : PlainFiles → PlainFiles
without_beside files = record files { beside = None }

-- there is no new file beside a place
abbrev pub HasNoneBeside : Option PlainFiles → Type 0
HasNoneBeside files = option_map without_beside files ≡ files

-- the same file, whose bytes last
abbrev pub lasting : NewFile → NewFile
lasting new = record new { is_lasting = true }

-- the new file has been made to last
abbrev pub synced : PlainFiles → PlainFiles
synced files = record files { beside = option_map lasting files.beside }

-- what is known of the bytes of a new file whatever happens: nothing where they need not last
abbrev pub lasting_bytes : Option NewFile → Option (List ℕ)
lasting_bytes None = None
lasting_bytes (Some new) = if new.is_lasting then Some new.bytes else None

-- the new file has taken the place, and all others are where they were
abbrev pub moved : List ℕ → PlainFiles → PlainFiles
moved place files = record files {
  bytes = λ other. if bytes_eq other place then lasting_bytes files.beside else
      files.bytes other;
  beside = None;
}

-- the file at the place has these bytes, which last, all others have what they had, and no new file
-- is left
abbrev pub replaced : List ℕ → List ℕ → PlainFiles → PlainFiles
replaced place bytes files = moved place (with_lasting bytes files)

-- what became of the plain files and of what streams were given, where the bytes were written that
-- way
abbrev pub Wrote : Way → List ℕ → List ℕ → PlainFiles → Option PlainFiles → Option (List ℕ)
    → Option (List ℕ) → Type 0
Wrote Beside place bytes files after given given_after = (after ≡ Some (replaced place bytes files))
    × (given_after ≡ given)
Wrote AsItIs place bytes files after given given_after = (after ≡ Some files)
    × (given_after ≡ option_map (λ before. before ++ bytes) given)
Wrote Refused place bytes files after given given_after = ⊥

-- the bytes were written under the name in the way that is right for what is at the place to which
-- it leads
abbrev pub Saved : List Identity → List ℕ → List ℕ → (List ℕ → Standing) → PlainFiles
    → Option PlainFiles → Option (List ℕ) → Option (List ℕ) → Type 0
Saved opened name bytes standing files after given given_after =
    (way : Way) × IsWay (standing (files.place name)) opened way × Wrote way (files.place name)
    bytes files after given given_after
