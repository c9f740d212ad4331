-- What a program in C looks up in an image.
use Rattle.std.specs.Prelude.{ℕ, true, false, Bool, List, [], if◌then◌else◌}
use Rattle.std.specs.Str.{is_utf8}
use Rattle.edd_syntax.specs.declared.numbers.ItemNo.{ItemNo}
use Rattle.edd_syntax.specs.Numbers.{kind_number, kind_of, index_of}
use Rattle.edd_syntax.specs.DeviceValues.{VariableType}
use Rattle.edd_syntax.specs.Words.{Words as Text}
use Rattle.edd_image.specs.Layout.{type_code}
use Rattle.edd_loader.specs.Texts.{given}
use Rattle.edd_embed.specs.declared.lookups.PlainItem.{PlainItem}
use Rattle.edd_embed.specs.declared.lookups.PlainType.{PlainType}
use Rattle.edd_embed.specs.declared.lookups.Words.{Words}

-- an item by the number of its kind and its own
abbrev pub plain_item : ItemNo → PlainItem
plain_item i = record { number = index_of i; kind = kind_number (kind_of i) }

-- the type of a variable by its number, and its size
abbrev pub plain_type : VariableType → PlainType
plain_type t = record { var_type = type_code t.type; size = t.size }

-- 1 for a key, 0 for a text
abbrev pub key_number : Bool → ℕ
key_number false = 0
key_number true = 1

-- whether it is a key, as a number, and the bytes
abbrev pub shown : Words → ℕ × List ℕ
shown w = (w.is_key, w.bytes.now)

-- a code that isn't UTF-8 is that of no language
abbrev pub language_of : (code : List ℕ) → List ℕ
language_of code = if is_utf8 code then code else []

-- the same of the text for a language
abbrev pub plain_given : Text → (code : List ℕ) → ℕ × List ℕ
plain_given words code = (key_number (given words code).0, (given words code).1)
