-- The first item of a name is a variable where a variable has this name.
use Rattle.std.proofs.Common.{◌≡◌, ℕ, zero, suc, ◌+◌, ◌<◌, ◌≤◌, Bool, true, false, Option, Some, None, refl, ap, sym, ◌∙◌, arith, inl, inr}
use Rattle.std.specs.Str.{bytes_eq}
use Rattle.std.proofs.lemmas.Bool.{cases_Bool, cases_eq, ltb-true, false≢true}
use Rattle.std.specs.Prelude.{nat_lt, if◌then◌else◌}
use Rattle.std.proofs.lemmas.Slice.Eq.{bytes_eq-Decides}
use Rattle.edd_syntax.specs.declared.numbers.VarNo.{VarNo}
use Rattle.edd_syntax.specs.declared.numbers.ItemNo.{ItemNo}
use Rattle.edd_syntax.specs.declared.numbers.ItemNo.TheVariants as items
use Rattle.edd_syntax.specs.Text.{Name}
use Rattle.edd_image.specs.declared.parts.Counts.{Counts}
use Rattle.edd_image.specs.Contents.{Contents}
use Rattle.edd_instructions.specs.Agreement.{name_numbered, place_of_item}
use Rattle.edd_loader.specs.Lookups.{IsFirstNamed}
use Rattle.edd_script.specs.Named.{is_named, first_named, variable_named, variables_in}

-- the variable of a number
abbrev numbered : ℕ → ItemNo
numbered k = items.Variable (record { 0 = k })

-- whether what was found is this name
abbrev is_it : Name → Option Name → Bool
is_it name found = elim found as (λ _. Bool) [ None ↦ false | Some its ↦ bytes_eq its name ]

its_name : (name : Name) (found : Option Name) → is_it name found ≡ true → found ≡ Some name
its_name name None e = absurd (false≢true e)
its_name name (Some its) e = ap Some ((bytes_eq-Decides its name).0 e)

there : {A : Type 0} (b : Bool) (o : Option A) (x : A) → (if b then o else None) ≡ Some x → b ≡ true
there true o x e = refl
there false o x e = absurd cc

behind : (counts : Counts) (item : ItemNo) → ((n : VarNo) → item ≡ items.Variable n → ⊥)
    → counts.variables ≤ place_of_item counts item
behind counts (items.Variable n) other = absurd (other n refl)
behind counts _ other = omega arith

module _ (c : Contents) (name : Name) where
  named : (k : ℕ) → name_numbered c (numbered k) ≡ Some name → is_named (variables_in c) name k ≡ true
  named k e = ap (is_it name) e ∙ (bytes_eq-Decides name name).1 refl

  unnamed : (k : ℕ) → (name_numbered c (numbered k) ≡ Some name → ⊥) → is_named (variables_in c) name k ≡ false
  unnamed k other = elim (cases_Bool (is_named (variables_in c) name k)) [
    | inl is ↦ absurd (other (its_name name (name_numbered c (numbered k)) is))
    | inr not ↦ not
  ]

  here : (count number : ℕ) → is_named (variables_in c) name number ≡ true
      → first_named (variables_in c) name (suc count) number ≡ Some (record { 0 = number })
  here count number is = ap (λ b. elim b as (λ _. Option VarNo) [
    | true ↦ Some (record { 0 = number })
    | false ↦ first_named (variables_in c) name count (suc number)
  ]) is

  later : (count number : ℕ) → is_named (variables_in c) name number ≡ false
      → first_named (variables_in c) name (suc count) number ≡ first_named (variables_in c) name count (suc number)
  later count number other = ap (λ b. elim b as (λ _. Option VarNo) [
    | true ↦ Some (record { 0 = number })
    | false ↦ first_named (variables_in c) name count (suc number)
  ]) other

  none_named : (count number : ℕ)
      → ((k : ℕ) → number ≤ k → k < number + count → is_named (variables_in c) name k ≡ false)
      → first_named (variables_in c) name count number ≡ None
  none_named zero number other = refl
  none_named (suc count) number other = later count number (other number (omega arith) (omega arith))
      ∙ none_named count (suc number) (λ k from below. other k (omega (arith, from)) (omega (arith, below)))

  one_named : (count number k : ℕ) → number ≤ k → k < number + count → is_named (variables_in c) name k ≡ true
      → ((j : ℕ) → number ≤ j → j < k → is_named (variables_in c) name j ≡ false)
      → first_named (variables_in c) name count number ≡ Some (record { 0 = k })
  one_named zero number k from below is other = absurd (omega (arith, from, below))
  one_named (suc count) number k from below is other = elim (cases_eq number k) [
    | inl same ↦ here count number (ap (is_named (variables_in c) name) same ∙ is)
        ∙ ap (λ (n : ℕ). Some (record { 0 = n })) same
    | inr past ↦
        let next : suc number ≤ k = omega (arith, from, past) in
        later count number (other number (omega arith) (omega (arith, next)))
        ∙ one_named count (suc number) k next (omega (arith, below)) is
        (λ j at small. other j (omega (arith, at)) small)
  ]

  pub variable_found : (n : VarNo) → name_numbered c (items.Variable n) ≡ Some name
      → IsFirstNamed c name (items.Variable n) → Some n ≡ variable_named (variables_in c) name
  variable_found n is first =
      let below : n.0 < c.counts.variables = ltb-true n.0 c.counts.variables
      (there (nat_lt n.0 c.counts.variables) _ name is) in
      sym (one_named c.counts.variables 0 n.0 (omega arith) (omega (arith, below)) (named n.0 is)
      (λ j from small. unnamed j (λ too. omega (arith, small, first (numbered j) too))))

  pub none_found : ((item : ItemNo) → name_numbered c item ≡ Some name → ⊥)
      → None ≡ variable_named (variables_in c) name
  none_found none = sym (none_named c.counts.variables 0
      (λ k from below. unnamed k (none (numbered k))))

  pub other_found : (item : ItemNo) → ((n : VarNo) → item ≡ items.Variable n → ⊥)
      → IsFirstNamed c name item → None ≡ variable_named (variables_in c) name
  other_found item other first = sym (none_named c.counts.variables 0
      (λ k from below. unnamed k (λ is. omega (
        arith,
        below,
        first (numbered k) is,
        behind c.counts item other,
      ))))
