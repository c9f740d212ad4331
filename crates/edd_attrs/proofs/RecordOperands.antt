-- The operands of the instructions that give a record fit, and its names exist.
use Rattle.std.proofs.Common.{◌-◌, ◌%◌, cond, ltb, ◌≡◌, refl, sym, ap, subst, ◌∙◌, ℕ, suc, ◌<◌, ◌≤◌, ◌^◌, Bool, true, false, ℤ, pos, negsuc, List, length, Option, Some, None, arith}
use Rattle.std.specs.Prelude.{nat_lt, ◌&&◌, FitsSigned}
use Rattle.std.specs.Int.{w64}
use Rattle.std.specs.List.{AllByRecursion, list_all}
use Rattle.std.proofs.lemmas.Int.{ints}
use Rattle.std.proofs.lemmas.Option.{slice_get_within}
use Rattle.std.proofs.lemmas.Bool.{ltb-true, lt-ltb}
use Rattle.std.proofs.Math.Nat.{mod-eq_of_lt}
use Rattle.edd_syntax.specs.TwosComplement.{wrap, as_signed}
use Rattle.edd_syntax.specs.declared.numbers.Kind.{Kind}
use Rattle.edd_syntax.specs.declared.numbers.Kind.TheVariants as kind
use Rattle.edd_syntax.specs.declared.numbers.StrNo.{StrNo}
use Rattle.edd_syntax.specs.declared.numbers.ItemNo.{ItemNo}
use Rattle.edd_syntax.specs.declared.numbers.ItemNo.TheVariants as items
use Rattle.edd_syntax.specs.declared.types.ResponseClass.{ResponseClass}
use Rattle.edd_syntax.specs.declared.types.ResponseClass.TheVariants as class
use Rattle.edd_syntax.specs.declared.item.MenuQualifiers.{MenuQualifiers}
use Rattle.edd_syntax.specs.declared.item.DataQualifiers.{DataQualifiers}
use Rattle.edd_syntax.specs.declared.reference.Target.{Target}
use Rattle.edd_syntax.specs.Words.{Words}
use Rattle.edd_syntax.specs.Item.{Description}
use Rattle.edd_syntax.specs.Resolution.{count_of}
use Rattle.edd_syntax.specs.Attributes as source
use Rattle.edd_syntax.specs.Attributes.{bit, menu_bits, data_bits}
use Rattle.edd_instructions.specs.declared.records.Record.{Record}
use Rattle.edd_instructions.specs.declared.records.Record.TheVariants as records
use Rattle.edd_instructions.specs.declared.unit.Context.{Context}
use Rattle.edd_instructions.specs.Spelling.{IsListed, IsSpelled, IsOptional}
use Rattle.edd_image.specs.Existing.{item_exists, variable_exists, optional_string_exists}
use Rattle.edd_instructions.specs.Agreement.{class_number, mask_number, IsString, IsOptionalString, SameRecord, string_of_table, attribute_context}
use Rattle.edd_code.specs.Flow.{may_stand}
use Rattle.edd_attrs.specs.Code.{giving}
use Rattle.edd_attrs.specs.Records.{is_number, is_label, is_listed, counts_in, is_fine}
use Rattle.edd_code.proofs.BothTests.{both_of}

-- what a record needs so that its code gives it: a number is one of 32 bits
abbrev pub IsSayable : Record → Type 0
IsSayable (records.Number z) = (n : ℕ) × (z ≡ pos n) × (n < 2 ^ 32)
IsSayable (records.Words s) = Unit {0}
IsSayable (records.Entry item quals) = Unit {0}
IsSayable (records.DataConst n) = Unit {0}
IsSayable (records.DataVar v mask quals) = Unit {0}
IsSayable (records.Enumerator n text help) = Unit {0}
IsSayable (records.Response n class text) = Unit {0}
IsSayable (records.Member name item label help) = Unit {0}
IsSayable (records.Element n v label help) = Unit {0}

-- a number of 32 bits stays itself in 64
pub wrap_small : (n : ℕ) → n < 2 ^ 32 → wrap 64 (pos n) ≡ pos n
unfolding wrap
wrap_small n lt =
    let same : n % (2 ^ 64) ≡ n = mod-eq_of_lt (omega arith) in
    let small : ltb n (2 ^ 63) ≡ true = lt-ltb n (2 ^ 63) (omega arith) in
    ap (as_signed 64) same ∙ ap (λ b. cond b (pos n) (negsuc (2 ^ 64 - suc n))) small

-- ---- operands

bit_small : (b : Bool) → bit b ≤ 1
bit_small true = omega arith
bit_small false = omega arith

menu_small : (q : MenuQualifiers) → menu_bits q < 16
menu_small q = omega (
  arith,
  bit_small q.display_value,
  bit_small q.read_only,
  bit_small q.hidden,
  bit_small q.review,
)

data_small : (q : DataQualifiers) → data_bits q < 4
data_small q = omega (arith, bit_small q.info, bit_small q.index)

class_small : (c : ResponseClass) → class_number c < 7
class_small class.Success = omega arith
class_small _ = omega arith

pub label_fits : (z : ℤ) → is_label z ≡ true → FitsSigned w64 z
label_fits (pos n) h = let lt = ltb-true n (2 ^ 32) h in omega (arith, ints)
label_fits (negsuc n) h = let lt = ltb-true (suc n) (2 ^ 32) h in omega (arith, ints)

pub number_is : (z : ℤ) → is_number z ≡ true → (n : ℕ) × (z ≡ pos n) × (n < 2 ^ 32)
number_is (pos n) h = (n, refl, ltb-true n (2 ^ 32) h)
number_is (negsuc n) h = absurd cc

-- ---- what the records of a tree say of the records that the code gives

module _ (unit : Description Target) (few : (k : Kind) → count_of k unit.items ≤ 4096) where
  entry_listed : (item : ItemNo) → is_listed item ≡ true → item_exists (counts_in unit) item ≡ true
      → IsListed item
  entry_listed (items.Variable n) listed h =
      omega (arith, ltb-true n.0 (count_of kind.Variable unit.items) h, few kind.Variable)
  entry_listed (items.Command n) listed h = omega (
    arith,
    ltb-true n.0 (count_of kind.Command unit.items) h,
    few kind.Command,
  )
  entry_listed (items.Menu n) listed h = omega (
    arith,
    ltb-true n.0 (count_of kind.Menu unit.items) h,
    few kind.Menu,
  )
  entry_listed (items.Collection n) listed h =
      omega (arith, ltb-true n.0 (count_of kind.Collection unit.items) h, few kind.Collection)
  entry_listed (items.Method n) listed h = omega (
    arith,
    ltb-true n.0 (count_of kind.Method unit.items) h,
    few kind.Method,
  )
  entry_listed (items.Array n) listed h = absurd cc

  module _ (strings : List Words) (few_strings : length strings ≤ 65535) where
    string_small : (w : Words) (s : StrNo) → IsString (string_of_table strings) w s → s.0 < 65535
    string_small w s is = omega (arith, slice_get_within strings s.0 w is, few_strings)

    optional_small : (o : Option Words) (s : Option StrNo)
        → IsOptionalString (string_of_table strings) o s → IsOptional s
    optional_small None None is = tt
    optional_small None (Some s) is = absurd is
    optional_small (Some w) None is = absurd is
    optional_small (Some w) (Some s) is = string_small w s is

    abbrev IsSpelledRecord : Record → Type 0
    IsSpelledRecord r = AllByRecursion IsSpelled (giving r) × IsSayable r

    pub record_spelled : (x : source.Record) (r : Record) → is_fine unit x ≡ true
        → SameRecord (string_of_table strings) x r → IsSpelledRecord r
    record_spelled (source.Words w) r fine same =
        subst IsSpelledRecord (sym same.1) ((omega (arith, string_small w same.0 same.2), tt), tt)
    record_spelled (source.Number z) r fine same =
        let n = number_is z fine in
        subst IsSpelledRecord (sym (same ∙ ap records.Number n.1))
        ((n.2, (tt, tt)), (n.0, refl, n.2))
    record_spelled (source.Entry item quals) r fine same =
        let parts = both_of (is_listed item) (item_exists (counts_in unit) item) fine in
        subst IsSpelledRecord (sym same)
        (((entry_listed item parts.0 parts.1, menu_small quals), tt), tt)
    record_spelled (source.DataConst n) r fine same =
        subst IsSpelledRecord (sym same) ((ltb-true n 256 fine, tt), tt)
    record_spelled (source.DataVar v mask quals) r fine same =
        let parts = both_of (variable_exists (counts_in unit) v)
        (nat_lt (mask_number mask) (2 ^ 32)) fine in
        subst IsSpelledRecord (sym same) (
          (
            (
              entry_listed (items.Variable v) refl parts.0,
              ltb-true (mask_number mask) (2 ^ 32) parts.1,
              data_small quals,
            ),
            tt,
          ),
          tt,
        )
    record_spelled (source.Enumerator value text help) r fine same =
        subst IsSpelledRecord (sym same.2) (
          (
            (
              label_fits value fine,
              omega (arith, string_small text same.0 same.3),
              optional_small help same.1 same.4,
            ),
            tt,
          ),
          tt,
        )
    record_spelled (source.Response number class text) r fine same =
        subst IsSpelledRecord (sym same.1) (
          (
            (
              ltb-true number (2 ^ 32) fine,
              class_small class,
              omega (arith, string_small text same.0 same.2),
            ),
            tt,
          ),
          tt,
        )
    record_spelled (source.Member name item label help) r fine same =
        let parts = both_of (is_listed item) (item_exists (counts_in unit) item) fine in
        subst IsSpelledRecord (sym same.3) (
          (
            (
              omega (arith, string_small name same.0 same.4),
              entry_listed item parts.0 parts.1,
              optional_small label same.1 same.5,
              optional_small help same.2 same.6,
            ),
            tt,
          ),
          tt,
        )
    record_spelled (source.Element number var label help) r fine same =
        let parts = both_of (nat_lt number (2 ^ 32) && variable_exists (counts_in unit) var)
        (nat_lt 0 (counts_in unit).arrays) fine in
        let front = both_of (nat_lt number (2 ^ 32)) (variable_exists (counts_in unit) var) parts.0
        in
        subst IsSpelledRecord (sym same.2) (
          (
            (
              ltb-true number (2 ^ 32) front.0,
              entry_listed (items.Variable var) refl front.1,
              optional_small label same.0 same.3,
              optional_small help same.1 same.4,
            ),
            tt,
          ),
          tt,
        )

  module _ (strings : List Words) where
    abbrev context : Context
    context = attribute_context unit strings

    string_there : (w : Words) (s : StrNo) → IsString (string_of_table strings) w s
        → nat_lt s.0 (length strings) ≡ true
    string_there w s is = lt-ltb s.0 (length strings) (slice_get_within strings s.0 w is)

    optional_there : (o : Option Words) (s : Option StrNo)
        → IsOptionalString (string_of_table strings) o s → optional_string_exists context.counts s
        ≡ true
    optional_there None None is = refl
    optional_there None (Some s) is = absurd is
    optional_there (Some w) None is = absurd is
    optional_there (Some w) (Some s) is = string_there w s is

    -- that an item exists has nothing to do with the strings
    item_there : (item : ItemNo) → item_exists (counts_in unit) item ≡ true
        → item_exists context.counts item ≡ true
    item_there (items.Variable n) h = h
    item_there _ h = h

    abbrev Exists : Record → Type 0
    Exists r = list_all (may_stand context) (giving r) ≡ true

    pub record_exists : (x : source.Record) (r : Record) → is_fine unit x ≡ true
        → SameRecord (string_of_table strings) x r → Exists r
    record_exists (source.Words w) r fine same =
        subst Exists (sym same.1) (rw (string_there w same.0 same.2) refl)
    record_exists (source.Entry item quals) r fine same =
        subst Exists (sym same)
        (rw (item_there item (both_of (is_listed item) (item_exists (counts_in unit) item) fine).1)
        refl)
    record_exists (source.DataVar v mask quals) r fine same =
        subst Exists (sym same) (rw
        ((both_of (variable_exists (counts_in unit) v) (nat_lt (mask_number mask) (2 ^ 32)) fine).0)
        refl)
    record_exists (source.Enumerator value text help) r fine same =
        subst Exists (sym same.2)
        (rw (string_there text same.0 same.3, optional_there help same.1 same.4) refl)
    record_exists (source.Response number class text) r fine same =
        subst Exists (sym same.1) (rw (string_there text same.0 same.2) refl)
    record_exists (source.Member name item label help) r fine same =
        subst Exists (sym same.3)
        (rw (
          string_there name same.0 same.4,
          item_there item (both_of (is_listed item) (item_exists (counts_in unit) item) fine).1,
          optional_there label same.1
              same.5,
          optional_there help same.2 same.6,
        ) refl)
    record_exists (source.Element number var label help) r fine same =
        let parts = both_of (nat_lt number (2 ^ 32) && variable_exists (counts_in unit) var)
        (nat_lt 0 (counts_in unit).arrays) fine in
        let front = both_of (nat_lt number (2 ^ 32)) (variable_exists (counts_in unit) var) parts.0
        in
        subst Exists (sym same.2)
        (rw (
          parts.1,
          front.1,
          optional_there label same.0 same.3,
          optional_there help same.1 same.4,
        ) refl)
    record_exists _ r fine same = subst Exists (sym same) refl
