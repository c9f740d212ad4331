-- Lines, words, numbers and scripts, computed.
use Rattle.std.proofs.Common.{◌≡◌, refl, ℕ, pos, negsuc, List, [], ◌∷◌, ◌++◌, Some, None, Ok, Err}
use Rattle.std.specs.Prelude.{codes}
use Rattle.std.specs.Str.{is_utf8, chars}
use Rattle.edd_syntax.specs.Answers.{Go, Abort}
use Rattle.edd_image.specs.declared.versions.Version.TheVariants.{One}
use Rattle.edd_image.specs.Contents.{Contents}
use Rattle.edd_script.specs.Lines.{lines}
use Rattle.edd_script.specs.Words.{words}
use Rattle.edd_script.specs.Numbers.{decimal_of}
use Rattle.edd_script.specs.Named.{variable_named, variables_in}
use Rattle.edd_script.specs.Scripts.{script_of, given_by, answering}

abbrev ended : List ℕ → List ℕ
ended text = text ++ (10 ∷ [])

-- ---- lines, words and numbers

two_lines : lines (ended (codes "a") ++ codes "b") ≡ ended (codes "a") ∷ codes "b" ∷ []
two_lines = refl

an_empty_line : lines (ended []) ≡ ended [] ∷ []
an_empty_line = refl

no_line : lines [] ≡ []
no_line = refl

three_words : words (codes " set  x 1 ") ≡ codes "set" ∷ codes "x" ∷ codes "1" ∷ []
three_words = refl

no_word : words (codes "  ") ≡ []
no_word = refl

negative : decimal_of 64 (codes "-12") ≡ Some (negsuc 11)
negative = refl

a_plus : decimal_of 64 (codes "+12") ≡ None
a_plus = refl

a_minus_alone : decimal_of 64 (codes "-") ≡ None
a_minus_alone = refl

least : decimal_of 32 (codes "-2147483648") ≡ Some (negsuc 2147483647)
least = refl

past_the_greatest : decimal_of 32 (codes "2147483648") ≡ None
past_the_greatest = refl

-- ---- scripts of an image with the variables `x` and `yz`, and the command `c`

abbrev image : Contents
image = record {
  version = One;
  padding = 0;
  counts = record {
    manufacturer = 1;
    device_type = 2;
    device_revision = 3;
    dd_revision = 4;
    variables = 2;
    commands = 1;
    menus = 0;
    collections = 0;
    methods = 0;
    arrays = 0;
    strings = 0;
  };
  variables = [];
  names = record { span = record { start = 0; size = 1 }; padding = 0 }
      ∷ record { span = record { start = 1; size = 2 }; padding = 0 }
      ∷ record { span = record { start = 3; size = 1 }; padding = 0 } ∷ [];
  attributes = [];
  elements = [];
  code = [];
  strings = [];
  name_bytes = codes "xyzc";
  string_bytes = [];
}

second : variable_named (variables_in image) (codes "yz") ≡ Some (record { 0 = 1 })
second = refl

a_command : variable_named (variables_in image) (codes "c") ≡ None
a_command = refl

abbrev script : List ℕ
script = ended (codes "set x 1") ++ (ended (codes "answer 7 yz=5 x=6")
    ++ (ended [] ++ (ended (codes "set x 3") ++ codes "abort")))

read : script_of (variables_in image) script ≡ Ok (record {
  values = pos 3 ∷ pos 0 ∷ [];
  answers = Go (pos 7) (record { variable = record { 0 = 1 }; value = pos 5 }
      ∷ record { variable = record { 0 = 0 }; value = pos 6 } ∷ []) ∷ Abort ∷ [];
})
unfolding is_utf8 chars lib.Utf8.encode
read = refl

set : given_by (variables_in image) script ≡ Ok (Some (pos 3) ∷ None ∷ [])
unfolding is_utf8 chars lib.Utf8.encode
set = refl

answered : answering (variables_in image) 1 (lines script) ≡ 2 ∷ 5 ∷ []
unfolding is_utf8 chars lib.Utf8.encode
answered = refl

-- the third line has a word too many
refused : script_of (variables_in image) (ended (codes "abort") ++ (ended [] ++ codes "abort 1")) ≡ Err 3
unfolding is_utf8 chars lib.Utf8.encode
refused = refl
