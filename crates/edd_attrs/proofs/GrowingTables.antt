-- What may be in an attribute still may when the table of strings grows.
use Rattle.std.proofs.Common.{◌≡◌, refl, Bool, true, ℕ, List, [], ◌∷◌, ◌++◌, length, Option, Some, None, arith, length-append}
use Rattle.std.specs.Prelude.{nat_lt}
use Rattle.std.proofs.lemmas.Bool.{lt-ltb, ltb-true}
use Rattle.edd_syntax.specs.declared.numbers.StrNo.{StrNo}
use Rattle.edd_syntax.specs.declared.reference.Target.{Target}
use Rattle.edd_syntax.specs.declared.numbers.ItemNo.{ItemNo}
use Rattle.edd_syntax.specs.declared.numbers.ItemNo.TheVariants as items
use Rattle.edd_syntax.specs.Item.{Description}
use Rattle.edd_syntax.specs.Words.{Words}
use Rattle.edd_instructions.specs.declared.instruction.Ask.{Ask}
use Rattle.edd_syntax.specs.Builtins.{request_parameters}
use Rattle.edd_syntax.specs.declared.operators.Parameter.{Parameter}
use Rattle.edd_syntax.specs.declared.operators.Parameter.TheVariants as parameter
use Rattle.edd_instructions.specs.declared.instruction.Instruction.{Instruction}
use Rattle.edd_instructions.specs.declared.instruction.Instruction.TheVariants as instruction
use Rattle.edd_image.specs.Existing.{optional_string_exists, variable_exists, item_exists}
use Rattle.edd_instructions.specs.References.{named_exist, request_exists, names_exist}
use Rattle.edd_instructions.specs.declared.unit.Sort.TheVariants.{Attribute}
use Rattle.edd_instructions.specs.Agreement.{attribute_context}
use Rattle.edd_instructions.specs.Units.{is_allowed}
use Rattle.edd_code.specs.Blocks as block
use Rattle.edd_code.specs.Blocks.{Block}
use Rattle.edd_code.specs.Flow.{all_straight, may_stand}
use Rattle.edd_code.proofs.BothTests.{both_of, both_true}

pub all_weaker : (f g : Instruction → Bool) → ((i : Instruction) → f i ≡ true → g i ≡ true)
    → (b : Block) → all_straight f b ≡ true → all_straight g b ≡ true
all_weaker f g weaker block.Nothing h = refl
all_weaker f g weaker (block.Straight i) h = weaker i h
all_weaker f g weaker (block.Then x y) h =
    let parts = both_of (all_straight f x) (all_straight f y) h in both_true
    (all_weaker f g weaker x parts.0) (all_weaker f g weaker y parts.1)
all_weaker f g weaker (block.WhenNotZero x) h = all_weaker f g weaker x h
all_weaker f g weaker (block.WhenZero x) h = all_weaker f g weaker x h
all_weaker f g weaker (block.Either x y) h =
    let parts = both_of (all_straight f x) (all_straight f y) h in both_true
    (all_weaker f g weaker x parts.0) (all_weaker f g weaker y parts.1)
all_weaker f g weaker (block.Match label x y) h =
    let parts = both_of (all_straight f x) (all_straight f y) h in both_true
    (all_weaker f g weaker x parts.0) (all_weaker f g weaker y parts.1)

module _ (unit : Description Target) (strings later : List Words) where
  abbrev now : Instruction → Bool
  now i = names_exist (attribute_context unit strings) i

  abbrev then : Instruction → Bool
  then i = names_exist (attribute_context unit (strings ++ later)) i

  string_still : (s : StrNo) → nat_lt s.0 (length strings) ≡ true
      → nat_lt s.0 (length (strings ++ later)) ≡ true
  string_still s h = lt-ltb s.0 (length (strings ++ later))
      (omega (arith, ltb-true s.0 (length strings) h, length-append strings later))

  optional_still : (o : Option StrNo)
      → optional_string_exists (attribute_context unit strings).counts o ≡ true
      → optional_string_exists (attribute_context unit (strings ++ later)).counts o ≡ true
  optional_still None h = refl
  optional_still (Some s) h = string_still s h

  item_still : (i : ItemNo) → item_exists (attribute_context unit strings).counts i ≡ true
      → item_exists (attribute_context unit (strings ++ later)).counts i ≡ true
  item_still (items.Variable n) h = h
  item_still _ h = h

  named_still : (ps : List Parameter) (s t : ℕ)
      → named_exist (attribute_context unit strings).counts ps s t ≡ true
      → named_exist (attribute_context unit (strings ++ later)).counts ps s t ≡ true
  named_still [] s t h = refl
  named_still (parameter.Text ∷ ps) s t h =
      let parts = both_of (nat_lt s (length strings)) _ h in
      both_true (string_still (record { 0 = s }) parts.0) (named_still ps t 0 parts.1)
  named_still (parameter.DeviceVariable ∷ ps) s t h =
      let parts = both_of (variable_exists (attribute_context unit strings).counts
      (record { 0 = s })) _ h in
      both_true parts.0 (named_still ps t 0 parts.1)
  named_still (parameter.Number ∷ ps) s t h = named_still ps s t h
  named_still (parameter.Method ∷ ps) s t h = named_still ps s t h

  request_still : (a : Ask) → request_exists (attribute_context unit strings).counts a ≡ true
      → request_exists (attribute_context unit (strings ++ later)).counts a ≡ true
  request_still a h = named_still (request_parameters a.kind) a.first a.second h

  names_still : (i : Instruction) → now i ≡ true → then i ≡ true
  names_still (instruction.Variable v) h = h
  names_still (instruction.Store v) h = h
  names_still (instruction.GetLocal slot) h = h
  names_still (instruction.SetLocal slot) h = h
  names_still (instruction.ReadElement array) h = h
  names_still (instruction.Text s) h = string_still s h
  names_still (instruction.Item item quals) h = item_still item h
  names_still (instruction.DataVar v mask quals) h = h
  names_still (instruction.Enumerator n text help) h =
      let parts = both_of (nat_lt text.0 (length strings)) _ h in both_true
      (string_still text parts.0) (optional_still help parts.1)
  names_still (instruction.Response n class text) h = string_still text h
  names_still (instruction.Member name item label help) h =
      let named = both_of (nat_lt name.0 (length strings)) _ h in
      let found = both_of (item_exists (attribute_context unit strings).counts item) _ named.1 in
      let told = both_of (optional_string_exists (attribute_context unit strings).counts label) _
      found.1 in
      both_true (string_still name named.0)
      (both_true (item_still item found.0)
      (both_true (optional_still label told.0) (optional_still help told.1)))
  names_still (instruction.Element n v label help) h =
      let found = both_of (variable_exists (attribute_context unit strings).counts v) _ h in
      let told = both_of (optional_string_exists (attribute_context unit strings).counts label) _
      found.1 in
      both_true found.0 (both_true (optional_still label told.0) (optional_still help told.1))
  names_still (instruction.Ask request) h = request_still request h
  names_still (instruction.AddAbortMethod m) h = h
  names_still _ h = refl

  stands_still : (i : Instruction) → may_stand (attribute_context unit strings) i ≡ true
      → may_stand (attribute_context unit (strings ++ later)) i ≡ true
  stands_still i h =
      let parts = both_of (is_allowed (attribute_context unit strings).version Attribute i)
      (names_exist (attribute_context unit strings) i) h in
      both_true parts.0 (names_still i parts.1)

  pub still_exist : (b : Block) → all_straight (may_stand (attribute_context unit strings)) b ≡ true
      → all_straight (may_stand (attribute_context unit (strings ++ later))) b ≡ true
  still_exist b h = all_weaker (may_stand (attribute_context unit strings))
      (may_stand (attribute_context unit (strings ++ later))) stands_still b h
