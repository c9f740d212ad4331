-- What is told of conditionals without the places: what the rules of the profile say.
use Rattle.std.proofs.Common.{◌≡◌, refl, sym, ap, ◌∙◌, ℤ, Bool, true, false, List, [], ◌∷◌, ◌++◌, map}
use Rattle.std.specs.List.{flat_map}
use Rattle.std.proofs.lemmas.Grind.{flat_map-append}
use Rattle.std.proofs.lemmas.List.{append_assoc}
use Rattle.edd_breaches.specs.Told.{Told, refusals}
use Rattle.edd_syntax.specs.declared.numbers.TokenNo.{TokenNo}
use Rattle.edd_syntax.specs.declared.reference.Target.{Target}
use Rattle.edd_syntax.specs.declared.expr.Expr as declared
use Rattle.edd_syntax.specs.declared.cond.Cond as code
use Rattle.edd_syntax.specs.declared.cond.Cond.{Row_of-Cond, end_of-Cond, more_of-Cond, Row_of-Arm, end_of-Arm, more_of-Arm}
use Rattle.edd_syntax.specs.declared.cond.Cond.TheVariants as c
use Rattle.edd_syntax.specs.declared.cond.Arm.TheVariants as a
use Rattle.edd_syntax.specs.Expression.{Expr}
use Rattle.edd_syntax.specs.Conditional as cond
use Rattle.edd_syntax.specs.Conditional.{Cond, Value, If, Select, Conds, Arms, NoArms, ConsArm, Case, Default, conds_from, arms_from}
use Rattle.edd_syntax.specs.TreeView.{numbered_expr}
use Rattle.edd_syntax.specs.ItemView.{cond_of, conds_in, arms_in, numbered_cond}
use Rattle.edd_syntax.specs.Refusal.{Refusal, refused_if, DuplicateCase}
use Rattle.edd_syntax.specs.SubsetRules.{Placed, cond_expressions, conds_expressions, arms_expressions, values_in, values_of, values_under, cond_defaults, conds_defaults, arms_defaults}
use Rattle.edd_types.specs.declared.sought.Sought.{Sought}
use Rattle.edd_types.specs.Expressions.{condition_told}
use Rattle.edd_types.specs.Conditionals.{default_told, cond_told, conds_told_in, arms_told_in}
use Rattle.edd_types.proofs.PlacesForgotten.{joined}

-- ---- what is gathered from the parts of a conditional, in their order

pub record Gathers {W : Type 0} (in_cond : Cond Target W → List Refusal)
    (in_conds : Conds Target W → List Refusal) (in_arms : Bool → Arms Target W → List Refusal)
    (in_test : Expr Target → List Refusal) (in_default : Bool → List Refusal) : Type 0 where
  pub of_if : (test : Expr Target) (first otherwise : Conds Target W)
      → in_cond (If test first otherwise) ≡ in_test test ++ (in_conds first ++ in_conds otherwise)
  pub of_select : (on : Expr Target) (arms : Arms Target W)
      → in_cond (Select on arms) ≡ in_test on ++ in_arms false arms
  pub of_none : in_conds cond.Nil ≡ []
  pub of_more : (first : Cond Target W) (rest : Conds Target W)
      → in_conds (cond.Cons first rest) ≡ in_cond first ++ in_conds rest
  pub of_no_arms : (had : Bool) → in_arms had NoArms ≡ []
  pub of_case : (had : Bool) (label : ℤ) (body : Conds Target W) (rest : Arms Target W)
      → in_arms had (ConsArm (Case label body) rest) ≡ in_conds body ++ in_arms had rest
  pub of_default : (had : Bool) (body : Conds Target W) (rest : Arms Target W)
      → in_arms had (ConsArm (Default body) rest)
      ≡ in_default had ++ (in_conds body ++ in_arms true rest)

-- what is told of the parts and is that without places, is told of the whole
module _ {V W : Type 0} (s : Sought) (of : V → List Told) (g : V → W)
    {in_cond : Cond Target W → List Refusal} {in_conds : Conds Target W → List Refusal}
    {in_arms : Bool → Arms Target W → List Refusal} {in_test : Expr Target → List Refusal}
    {in_default : Bool → List Refusal}
    (laws : Gathers in_cond in_conds in_arms in_test in_default)
    (tests : (e : declared.Expr Target) → refusals (condition_told s e)
    ≡ in_test (numbered_expr e)) (defaults : (had : Bool) (at : TokenNo)
    → refusals (default_told s had at) ≡ in_default had)
    (values : (v : V) → refusals (of v) ≡ in_cond (Value (g v))) where
  mutual
    unfolding cond_of cond_told

    pub cond_is : (x : code.Cond Target V) → refusals (cond_told s of x)
        ≡ in_cond (numbered_cond g x)
    cond_is (c.Value v) = values v
    cond_is (c.If' test shape first shape' otherwise) =
        joined _ _ _ _ (tests test)
        (joined _ _ _ _ (conds_are _ first) (conds_are _ otherwise)) ∙ sym (laws.of_if _ _ _)
    cond_is (c.Select' on shape arms) = joined _ _ _ _ (tests on) (arms_are _ arms false)
        ∙ sym (laws.of_select _ _)

    conds_are : (n : _) (row : Row_of-Cond Target V n) → refusals (conds_told_in s of row)
        ≡ in_conds (conds_from (conds_in (λ r. r) g row))
    conds_are n end_of-Cond = sym laws.of_none
    conds_are n (more_of-Cond first rest) = joined _ _ _ _ (cond_is first) (conds_are _ rest)
        ∙ sym (laws.of_more _ _)

    arms_are : (n : _) (row : Row_of-Arm Target V n) (had : Bool)
        → refusals (arms_told_in s of had row)
        ≡ in_arms had (arms_from (arms_in (λ r. r) g row))
    arms_are n end_of-Arm had = sym (laws.of_no_arms had)
    arms_are n (more_of-Arm (a.Case' label shape body) rest) had =
        joined _ _ _ _ (conds_are _ body) (arms_are _ rest had) ∙ sym (laws.of_case had label _ _)
    arms_are n (more_of-Arm (a.Default' at shape body) rest) had =
        joined _ _ _ _ (joined _ _ _ _ (defaults had at) (conds_are _ body))
        (arms_are _ rest true) ∙ append_assoc (in_default had) _ _ ∙ sym (laws.of_default had _ _)

  pub list_is : (all : List (code.Cond Target V)) → refusals (flat_map (cond_told s of) all)
      ≡ in_conds (conds_from (map (numbered_cond g) all))
  list_is [] = sym laws.of_none
  list_is (x ∷ rest) = joined _ _ _ _ (cond_is x) (list_is rest) ∙ sym (laws.of_more _ _)

-- ---- what the rules of the profile gather

-- expressions
pub gathered_expressions : {W : Type 0} (f : Placed Target → List Refusal)
    (parts : W → List (Placed Target))
    → Gathers (λ x. flat_map f (cond_expressions parts x))
    (λ all. flat_map f (conds_expressions parts all))
    (λ had arms. flat_map f (arms_expressions parts arms))
    (λ e. f (record { is_statement = false; expression = e })) (λ had. [])
gathered_expressions f parts = record {
  of_if = λ test first otherwise. ap (λ xs. f (record { is_statement = false; expression = test })
      ++ xs)
      (flat_map-append f (conds_expressions parts first) (conds_expressions parts otherwise));
  of_select = λ on arms. refl;
  of_none = refl;
  of_more = λ first rest. flat_map-append f (cond_expressions parts first)
      (conds_expressions parts rest);
  of_no_arms = λ had. refl;
  of_case = λ had label body rest. flat_map-append f (conds_expressions parts body)
      (arms_expressions parts rest);
  of_default = λ had body rest. flat_map-append f (conds_expressions parts body)
      (arms_expressions parts rest);
}

-- values
pub gathered_values : {W : Type 0} (f : W → List Refusal)
    → Gathers (λ x. flat_map f (values_in {R = Target} x)) (λ all. flat_map f (values_of all))
    (λ had arms. flat_map f (values_under arms)) (λ e. []) (λ had. [])
gathered_values f = record {
  of_if = λ test first otherwise. flat_map-append f (values_of first) (values_of otherwise);
  of_select = λ on arms. refl;
  of_none = refl;
  of_more = λ first rest. flat_map-append f (values_in first) (values_of rest);
  of_no_arms = λ had. refl;
  of_case = λ had label body rest. flat_map-append f (values_of body) (values_under rest);
  of_default = λ had body rest. flat_map-append f (values_of body) (values_under rest);
}

-- a second DEFAULT
pub gathered_defaults : {W : Type 0}
    → Gathers {W = W} cond_defaults conds_defaults arms_defaults (λ e. [])
    (λ had. refused_if had DuplicateCase)
gathered_defaults = record {
  of_if = λ test first otherwise. refl;
  of_select = λ on arms. refl;
  of_none = refl;
  of_more = λ first rest. refl;
  of_no_arms = λ had. refl;
  of_case = λ had label body rest. refl;
  of_default = λ had body rest. refl;
}
