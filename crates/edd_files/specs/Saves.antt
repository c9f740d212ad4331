-- What the program may save.
use Rattle.std.specs.Prelude.{◌≡◌, ◌⊎◌, ℕ, List, [], ◌∷◌, ◌++◌, Option, Some, None, IfSome, length, option_map}
use Rattle.std.specs.List.{Contains}
use Rattle.edd_compiler.specs.Faults.{Explains}
use Rattle.edd_compiler.specs.Images.{IsImageOf}
use Rattle.edd_layout.specs.Comments.{KeepsComments}
use Rattle.edd_layout.specs.Same.{HaveSameBytes, SameTokens}
use Rattle.edd_files.specs.declared.compiling.Compiled.{Compiled}
use Rattle.edd_files.specs.declared.compiling.Compiled.TheVariants.{Saved, Refused}
use Rattle.edd_files.specs.declared.layouts.Layout.{Layout}
use Rattle.edd_files.specs.declared.reading.Source.{Source}
use Rattle.edd_files.specs.Names.{input_name, output_name, record_word, record_word_of, update_word}

-- bytes that were saved under a name
pub record Saving : Type 0 where
  pub name : List ℕ
  pub bytes : List ℕ

-- an account of files: what was saved, in order, and what the file of each name gives whoever reads
-- it, where that is known
pub record Account : Type 0 where
  pub saved : List Saving
  pub held : List ℕ → Option (List ℕ)

-- after one more saving; what any file gives is no longer known then
abbrev pub with_saving : Saving → Account → Account
with_saving s account = record { saved = account.saved ++ s ∷ []; held = λ _. None }

-- the file of this name gave these bytes, where it is known what it gives
abbrev pub Gave : Option Account → (name bytes : List ℕ) → Type 0
Gave account name bytes = IfSome account (λ it. IfSome (it.held name) (λ known. bytes ≡ known))

-- the file of a script gave these bytes; no script is an empty one
abbrev pub GaveScript : Option Account → (name : Option (List ℕ)) → (bytes : List ℕ) → Type 0
GaveScript account None bytes = bytes ≡ []
GaveScript account (Some name) bytes = Gave account (input_name name) bytes

-- ---- which savings were made

-- one such saving, or none
abbrev pub SavesOne : (Saving → Type 0) → (before after : Option Account) → Type 0
SavesOne P before after = IfSome before
    (λ account. (after ≡ Some account)
    ⊎ ((s : Saving) × (after ≡ Some (with_saving s account)) × P s))

-- ---- what a saving is

-- these bytes in the place of the file that the name is read from
abbrev pub saving_in_place : (name bytes : List ℕ) → Saving
saving_in_place name bytes = record { name = input_name name; bytes = bytes }

-- a layout in the place of its source
abbrev pub saving_of : Layout → Saving
saving_of layout = saving_in_place layout.name.now layout.bytes.items

-- bytes under the name of an image
abbrev pub image_saving : (image bytes : List ℕ) → Saving
image_saving image bytes = record { name = output_name image; bytes = bytes }

-- the image of what the source gave, under the name of the image
abbrev pub IsImageSaving : Option Account → (source image : List ℕ) → Saving → Type 0
IsImageSaving account source image s = (s.name ≡ output_name image)
    × (text : List ℕ) × Gave account (input_name source) text × IsImageOf text s.bytes

-- What became of a source: the image of what its file gave was saved, which has so many bytes; or its
-- file gave this text, which is refused for this fault, and nothing was saved.
abbrev pub IsTold : (before after : Option Account) → (source image : List ℕ) → Compiled → Type 0
IsTold before after source image (Saved count) = (text bytes : List ℕ)
    × Gave before (input_name source) text × IsImageOf text bytes × (length bytes ≡ count)
    × (after ≡ option_map (with_saving (image_saving image bytes)) before)
IsTold before after source image (Refused text fault) =
    Gave before (input_name source) text.items × Explains text.items fault × (after ≡ before)

-- a layout of what a file gave, which has one of these names, in its place
abbrev pub IsLayoutSaving : Option Account → (names : List (List ℕ)) → Saving → Type 0
IsLayoutSaving account names s = (name : List ℕ) × Contains names name
    × (s.name ≡ input_name name) × (text : List ℕ) × Gave account (input_name name) text
    × SameTokens text s.bytes × HaveSameBytes text s.bytes × KeepsComments text s.bytes

-- ---- what the words of a command line let the program save

-- the words of the option for a record and its file
abbrev pub NameRecord : (words : List (List ℕ)) → (name : List ℕ) → Type 0
NameRecord words name = Contains words (record_word_of name)
    ⊎ (Contains words record_word × Contains words name)

-- a word is the first name, and one after it the second
abbrev pub AreInOrder : (words : List (List ℕ)) → (first second : List ℕ) → Type 0
AreInOrder [] first second = ⊥
AreInOrder (word ∷ rest) first second =
    ((word ≡ first) × Contains rest second) ⊎ AreInOrder rest first second

-- the image of a file that a word names, under the name that a word after it is
abbrev pub IsNamedImage : (words : List (List ℕ)) → Option Account → Saving → Type 0
IsNamedImage words account s = (source image : List ℕ) × AreInOrder words source image
    × IsImageSaving account source image s

-- a file of tests that is among the words, where they say `--update`
abbrev pub IsNamedUpdate : (words : List (List ℕ)) → Saving → Type 0
IsNamedUpdate words s = Contains words update_word × Contains words s.name

-- ---- what was read to be laid out

-- a source of one of these names, with what its file gave
abbrev pub IsRead : Option Account → (names : List (List ℕ)) → Source → Type 0
IsRead account names source = Contains names source.name.now
    × Gave account (input_name source.name.now) source.text.items
