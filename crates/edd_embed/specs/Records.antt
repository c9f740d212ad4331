-- Records as a program in C has them.
use Rattle.std.specs.Prelude.{ℕ, pos, Option, Some, None, List, ◌++◌, length, drop}
use Rattle.edd_syntax.specs.declared.numbers.ItemNo.{ItemNo}
use Rattle.edd_syntax.specs.declared.numbers.ItemNo.TheVariants.{Variable}
use Rattle.edd_syntax.specs.declared.numbers.StrNo.{StrNo}
use Rattle.edd_syntax.specs.Numbers.{kind_number, kind_of, index_of}
use Rattle.edd_instructions.specs.declared.records.Record.{Record}
use Rattle.edd_instructions.specs.declared.records.Record.TheVariants as records
use Rattle.edd_embed.specs.declared.records.PlainRecord.{PlainRecord}

-- no string has this number, since an image has at most 65,535 of them
abbrev pub no_string : ℕ
no_string = 65535

-- the number of a string that may be missing
abbrev pub string_or_none : Option StrNo → ℕ
string_or_none None = no_string
string_or_none (Some s) = s.0

-- a record with this tag and nothing else
abbrev pub bare : (tag : ℕ) → PlainRecord
bare tag = record {
  value = pos 0;
  number = 0;
  item = 0;
  qualifiers = 0;
  text = no_string;
  label = no_string;
  help = no_string;
  tag = tag;
  kind = 0;
  class = 0;
}

-- it names an item, by its kind and its number
abbrev pub naming : ItemNo → PlainRecord → PlainRecord
naming i r = record r { kind = kind_number (kind_of i); item = index_of i }

-- what a record is in C: a tag from 1 to 9, and in the fields of its sort what it has
abbrev pub plain_of : Record → PlainRecord
plain_of (records.Words s) = record (bare 1) { text = s.0 }
plain_of (records.Number z) = record (bare 2) { value = z }
plain_of (records.Entry item quals) = naming item (record (bare 3) { qualifiers = quals })
plain_of (records.DataConst n) = record (bare 4) { value = pos n }
plain_of (records.DataVar v mask quals) =
    naming (Variable v) (record (bare 5) { number = mask; qualifiers = quals })
plain_of (records.Enumerator z text help) =
    record (bare 6) { value = z; text = text.0; help = string_or_none help }
plain_of (records.Response n class text) =
    record (bare 7) { number = n; class = class; text = text.0 }
plain_of (records.Member name item label help) = naming item (record (bare 8) {
  text = name.0;
  label = string_or_none label;
  help = string_or_none help;
})
plain_of (records.Element n v label help) = naming (Variable v) (record (bare 9) {
  number = n;
  label = string_or_none label;
  help = string_or_none help;
})

-- a list of the caller's after these were written at its front: what is past them is as before
abbrev pub written_over : {A : Type 0} → (front room : List A) → List A
written_over front room = front ++ drop (length front) room
