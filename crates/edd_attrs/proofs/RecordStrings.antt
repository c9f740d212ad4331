-- The strings of a record are in the table that has them by number.
use Rattle.std.proofs.Common.{◌≡◌, subst, ◌⊎◌, inl, inr, zero, suc, List, [], ◌∷◌, ◌++◌, Option, Some, None, arith}
use Rattle.std.specs.List.{Contains}
use Rattle.std.specs.Option.{option_to_list}
use Rattle.std.proofs.lemmas.List.Elements.{Contains-append_cases}
use Rattle.edd_syntax.specs.declared.numbers.StrNo.{StrNo}
use Rattle.edd_syntax.specs.Words.{Words}
use Rattle.edd_syntax.specs.Attributes as source
use Rattle.edd_instructions.specs.declared.records.Record.{Record}
use Rattle.edd_instructions.specs.Agreement.{SameRecord, IsString, IsOptionalString, string_of_table}
use Rattle.std.proofs.lemmas.Option.{get_or_from_slice_get, slice_get_within}
use Rattle.edd_attrs.specs.Records.{strings_of_record}

contains_cases : {X : Type 0} (x : X) (xs : List X) (w : X) → Contains (x ∷ xs) w
    → (x ≡ w) ⊎ Contains xs w
contains_cases x xs w (zero, below, is) = inl is
contains_cases x xs w (suc k, below, is) = inr (k, omega arith, is)

module _ (strings : List Words) where
  string_held : (w : Words) (s : StrNo) → IsString (string_of_table strings) w s
      → Contains strings w
  string_held w s is = (
    s.0,
    slice_get_within strings s.0 w is,
    get_or_from_slice_get strings s.0 w
        w is,
  )

  one_held : (w : Words) (s : StrNo) → IsString (string_of_table strings) w s → (v : Words)
      → Contains (w ∷ []) v → Contains strings v
  one_held w s is v held = elim (contains_cases w [] v held) [
    | inl same ↦ subst (Contains strings) same (string_held w s is)
    | inr none ↦ absurd (omega (arith, none.1))
  ]

  optional_held : (o : Option Words) (s : Option StrNo)
      → IsOptionalString (string_of_table strings) o s → (v : Words) → Contains (option_to_list o) v
      → Contains strings v
  optional_held None s is v held = absurd (omega (arith, held.1))
  optional_held (Some w) None is v held = absurd is
  optional_held (Some w) (Some s) is v held = one_held w s is v held

  first_held : (w : Words) (ws : List Words) (s : StrNo) → IsString (string_of_table strings) w s
      → ((v : Words) → Contains ws v → Contains strings v) → (v : Words) → Contains (w ∷ ws) v
      → Contains strings v
  first_held w ws s is others v held = elim (contains_cases w ws v held) [
    | inl same ↦ subst (Contains strings) same (string_held w s is)
    | inr rest ↦ others v rest
  ]

  pub both_held : (vs ws : List Words) → ((v : Words) → Contains vs v → Contains strings v)
      → ((v : Words) → Contains ws v → Contains strings v) → (v : Words) → Contains (vs ++ ws) v
      → Contains strings v
  both_held vs ws p q v held = elim (Contains-append_cases vs ws v held) [
    | inl h ↦ p v h
    | inr h ↦ q v h
  ]

  pub record_held : (x : source.Record) (r : Record) → SameRecord (string_of_table strings) x r
      → (v : Words) → Contains (strings_of_record x) v → Contains strings v
  record_held (source.Words w) r same v held = one_held w same.0 same.2 v held
  record_held (source.Enumerator value text help) r same v held =
      first_held text (option_to_list help) same.0 same.3 (optional_held help same.1 same.4) v held
  record_held (source.Response number class text) r same v held = one_held text same.0 same.2 v held
  record_held (source.Member name item label help) r same v held =
      first_held name (option_to_list label ++ option_to_list help) same.0 same.4
      (both_held (option_to_list label) (option_to_list help)
      (optional_held label same.1 same.5) (optional_held help same.2 same.6)) v held
  record_held (source.Element number var label help) r same v held =
      both_held (option_to_list label) (option_to_list help) (optional_held label same.0 same.3)
      (optional_held help same.1 same.4) v held
  record_held _ r same v held = absurd (omega (arith, held.1))
