-- What is broken, where breaches were told.
use Rattle.std.proofs.Common.{◌≡◌, refl, sym, ap, ◌∙◌, List, [], ◌∷◌, ◌++◌, map, Option, Some, None, subst, arith}
use Rattle.std.specs.Prelude.{IfSome, option_map, slice_get}
use Rattle.std.proofs.lemmas.Grind.{common_steps}
use Rattle.edd_syntax.specs.Refusal.{Refusal, first_of}
use Rattle.edd_breaches.specs.declared.breach.Breach.{Breach}
use Rattle.edd_breaches.specs.declared.fault.RuleFault.{RuleFault}
use Rattle.edd_breaches.specs.Faults.{refusal_of_fault, IsFirstOf}
use Rattle.edd_breaches.specs.Told.{Told, Tells, told_of, refusal_of, refusals, broken}
use Rattle.edd_breaches.proofs.TellLaws.{refusals_append}

broken_is : (bs : List Breach) → broken bs ≡ refusals (map told_of bs)
broken_is [] = refl
broken_is (b ∷ bs) = ap (λ rs. refusal_of b.rule ∷ rs) (broken_is bs)

pub told_broken : (xs : List Told) (old new : List Breach) → Tells xs old new
    → broken new ≡ broken old ++ refusals xs
unfolding Tells
told_broken xs old new h = broken_is new ∙ ap refusals h ∙ refusals_append (map told_of old) xs
    ∙ ap (λ rs. rs ++ refusals xs) (sym (broken_is old))

-- ---- the first that was told

pub none_broken : (bs : List Breach) → None ≡ slice_get bs 0 → broken bs ≡ []
none_broken [] h = refl
none_broken (b ∷ bs) h = grind (arith, common_steps)

pub first_broken : (bs : List Breach) (b : Breach) → Some b ≡ slice_get bs 0
    → first_of (broken bs) ≡ Some (refusal_of b.rule)
first_broken [] b h = grind (arith, common_steps)
first_broken (c ∷ bs) b h = sym (ap (option_map (λ d. refusal_of d.rule)) h)

pub is_first_of : (all : List Refusal) (f : RuleFault) (why : Refusal)
    → refusal_of_fault f ≡ Some why → first_of all ≡ Some why → IsFirstOf all f
is_first_of all f why is first =
    subst (λ o. IfSome o (λ w. first_of all ≡ Some w)) (sym is) first

-- ---- these rules are broken, and the first breach was looked for

pub broken_all : (xs : List Told) (rules : List Refusal) (old new : List Breach) → old ≡ []
    → Tells xs old new → refusals xs ≡ rules → broken new ≡ rules
broken_all xs rules old new none h are = told_broken xs old new h
    ∙ ap (λ bs. broken bs ++ refusals xs) none ∙ are

module _ (rules : List Refusal) (all seen : List Breach) (copied : Option Breach)
    (same : seen ≡ all) (is : broken all ≡ rules) (first : copied ≡ slice_get seen 0) where
  got_is : (found : Option Breach) → copied ≡ found → found ≡ slice_get all 0
  got_is found h = sym h ∙ first ∙ ap (λ bs. slice_get bs 0) same

  pub nothing_broken : copied ≡ None → rules ≡ []
  nothing_broken h = sym is ∙ none_broken all (got_is None h)

  pub first_of_rules : (b : Breach) → copied ≡ Some b → first_of rules ≡ Some (refusal_of b.rule)
  first_of_rules b h = ap first_of (sym is) ∙ first_broken all b (got_is (Some b) h)

  pub first_is : (b : Breach) (f : RuleFault) → copied ≡ Some b
      → refusal_of_fault f ≡ Some (refusal_of b.rule) → IsFirstOf rules f
  first_is b f h says = is_first_of rules f (refusal_of b.rule) says (first_of_rules b h)
