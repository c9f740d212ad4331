-- What a conditional gives is what its values give, of those that are chosen.
use Rattle.std.proofs.Common.{◌≡◌, refl, sym, ap, ◌∙◌, Bool, true, false, ℤ, List, [], ◌∷◌, ◌++◌}
use Rattle.std.specs.Prelude.{Ok, Err}
use Rattle.std.specs.Ordering.{int_eq}
use Rattle.std.proofs.lemmas.List.{append-nil, map-append}
use Rattle.edd_syntax.specs.declared.reference.Target.{Target}
use Rattle.edd_syntax.specs.Expression.{Expr}
use Rattle.edd_syntax.specs.Conditional.{Cond, Value, If, Select, Conds, Nil, Cons, Arms, NoArms, ConsArm, Case, Default}
use Rattle.edd_syntax.specs.AttributeValue.{Trapping, ◌>>=◌, value, chosen, all_chosen, case_chosen, default_chosen}
use Rattle.edd_syntax.specs.TwosComplement.{is_zero}
use Rattle.edd_syntax.specs.Device.{Environment}
use Rattle.edd_syntax.specs.Attributes as source
use Rattle.edd_syntax.specs.Attributes.{each, all_values}
use Rattle.edd_syntax.specs.WellFormed.{is_single, is_one, is_at_most_one, are_single_arms}
use Rattle.edd_code.proofs.BothTests.{both_of}

module _ (there : Environment) (d : List ℤ) where
  -- what a conditional gives, its expressions and its values taken in turn
  module _ {V : Type 0} (gives : V → Trapping (List source.Record)) where
    abbrev mutual
      pub given : Cond Target V → Trapping (List source.Record)
      given (Value v) = gives v
      given (If condition first otherwise) = value there d condition
          >>= λ a. elim (is_zero a) [ true ↦ all_given otherwise | false ↦ all_given first ]
      given (Select on arms) = value there d on >>= λ a. case_given a arms (default_given arms)

      pub all_given : Conds Target V → Trapping (List source.Record)
      all_given Nil = Ok []
      all_given (Cons first rest) = given first >>= λ xs. all_given rest >>= λ ys. Ok (xs ++ ys)

      pub case_given : ℤ → Arms Target V → Trapping (List source.Record)
          → Trapping (List source.Record)
      case_given a NoArms otherwise = otherwise
      case_given a (ConsArm (Case label body) rest) otherwise =
          elim (int_eq a label) [ true ↦ all_given body | false ↦ case_given a rest otherwise ]
      case_given a (ConsArm (Default body) rest) otherwise = case_given a rest otherwise

      pub default_given : Arms Target V → Trapping (List source.Record)
      default_given NoArms = Ok []
      default_given (ConsArm (Case label body) rest) = default_given rest
      default_given (ConsArm (Default body) rest) = all_given body

  -- what is given where the value is this
  abbrev by_value : {A : Type 0} → Trapping ℤ → (ℤ → Trapping A) → Trapping A
  by_value v next = v >>= next

  -- ---- values with a record each

  module _ {V : Type 0} (f : V → source.Record) where
    abbrev one_given : V → Trapping (List source.Record)
    one_given v = Ok (f v ∷ [])

    -- taken apart by the value of an expression
    through : (v : Trapping ℤ) (k : ℤ → Trapping (List source.Record)) (l : ℤ → Trapping (List V))
        → ((a : ℤ) → k a ≡ each f (l a)) → (v >>= k) ≡ each f (v >>= l)
    through (Err why) k l h = refl
    through (Ok a) k l h = h a

    by_test : (b : Bool) (s t : Trapping (List source.Record)) (u v : Trapping (List V))
        → s ≡ each f u → t ≡ each f v
        → elim b as (λ _. Trapping (List source.Record)) [ true ↦ s | false ↦ t ]
        ≡ each f (elim b as (λ _. Trapping (List V)) [ true ↦ u | false ↦ v ])
    by_test true s t u v h k = h
    by_test false s t u v h k = k

    appended : (t : Trapping (List V)) (u : Trapping (List V))
        → (each f t >>= λ xs. each f u >>= λ ys. Ok (xs ++ ys))
        ≡ each f (t >>= λ xs. u >>= λ ys. Ok (xs ++ ys))
    appended (Err why) u = refl
    appended (Ok xs) (Err why) = refl
    appended (Ok xs) (Ok ys) = ap Ok (sym (map-append f xs ys))

    mutual
      unfolding chosen all_chosen case_chosen default_chosen

      pub given_are_chosen : (c : Cond Target V) → given one_given c ≡ each f (chosen there d c)
      given_are_chosen (Value v) = refl
      given_are_chosen (If condition first otherwise) =
          through (value there d condition) _ _
          (λ a. by_test (is_zero a) _ _ _ _ (all_are_chosen otherwise) (all_are_chosen first))
      given_are_chosen (Select on arms) =
          through (value there d on) _ _
          (λ a. case_is_chosen a arms (default_chosen there d arms) (default_is_chosen arms))

      pub all_are_chosen : (c : Conds Target V) → all_given one_given c
          ≡ each f (all_chosen there d c)
      all_are_chosen Nil = refl
      all_are_chosen (Cons first rest) =
          rw (given_are_chosen first, all_are_chosen rest)
          (appended (chosen there d first) (all_chosen there d rest))

      case_is_chosen : (a : ℤ) (arms : Arms Target V) {s : Trapping (List source.Record)}
          (t : Trapping (List V)) → s ≡ each f t
          → case_given one_given a arms s ≡ each f (case_chosen there d a arms t)
      case_is_chosen a NoArms t h = h
      case_is_chosen a (ConsArm (Case label body) rest) {s} t h =
          by_test (int_eq a label) _ _ _ _ (all_are_chosen body) (case_is_chosen a rest t h)
      case_is_chosen a (ConsArm (Default body) rest) {s} t h = case_is_chosen a rest t h

      default_is_chosen : (arms : Arms Target V) → default_given one_given arms
          ≡ each f (default_chosen there d arms)
      default_is_chosen NoArms = refl
      default_is_chosen (ConsArm (Case label body) rest) = default_is_chosen rest
      default_is_chosen (ConsArm (Default body) rest) = all_are_chosen body

  -- ---- expressions, of which one is chosen

  abbrev pub expression_given : Expr Target → Trapping (List source.Record)
  expression_given e = value there d e >>= λ z. Ok (source.Number z ∷ [])

  abbrev all_of : Trapping (List (Expr Target)) → Trapping (List source.Record)
  all_of t = t >>= all_values there d

  then_all : (v : Trapping ℤ) (k : ℤ → Trapping (List source.Record)) (l : ℤ
      → Trapping (List (Expr Target))) → ((a : ℤ) → k a ≡ all_of (l a))
      → (v >>= k) ≡ all_of (v >>= l)
  then_all (Err why) k l h = refl
  then_all (Ok a) k l h = h a

  all_by_test : (b : Bool) (s t : Trapping (List source.Record))
      (u v : Trapping (List (Expr Target))) → s ≡ all_of u → t ≡ all_of v
      → elim b as (λ _. Trapping (List source.Record)) [ true ↦ s | false ↦ t ]
      ≡ all_of (elim b as (λ _. Trapping (List (Expr Target))) [ true ↦ u | false ↦ v ])
  all_by_test true s t u v h k = h
  all_by_test false s t u v h k = k

  -- nothing after it
  alone_given : (t : Trapping (List source.Record)) → (t >>= λ xs. Ok (xs ++ [])) ≡ t
  alone_given (Err why) = refl
  alone_given (Ok xs) = ap Ok (append-nil xs)

  alone_chosen : (t : Trapping (List (Expr Target))) → all_of (t >>= λ xs. Ok (xs ++ [])) ≡ all_of t
  alone_chosen (Err why) = refl
  alone_chosen (Ok xs) = ap (all_values there d) (append-nil xs)

  module _ (reads : Target → Bool) where
    mutual
      unfolding chosen all_chosen case_chosen default_chosen

      pub expression_is_chosen : (c : Cond Target (Expr Target)) → is_single reads reads c ≡ true
          → given expression_given c ≡ all_of (chosen there d c)
      expression_is_chosen (Value e) h = refl
      expression_is_chosen (If condition first otherwise) h =
          let parts = both_of (is_one reads reads first) (is_at_most_one reads reads otherwise) h in
          then_all (value there d condition) _ _
          (λ a. all_by_test (is_zero a) _ _ _ _ (at_most_one_is_chosen otherwise parts.1)
          (one_is_chosen first parts.0))
      expression_is_chosen (Select on arms) h =
          then_all (value there d on) _ _
          (λ a. case_of_chosen a arms h (default_chosen there d arms) (default_of_chosen arms h))

      one_is_chosen : (c : Conds Target (Expr Target)) → is_one reads reads c ≡ true
          → all_given expression_given c ≡ all_of (all_chosen there d c)
      one_is_chosen Nil h = absurd (cc h)
      one_is_chosen (Cons first Nil) h = alone_given (given expression_given first)
          ∙ expression_is_chosen first h ∙ sym (alone_chosen (chosen there d first))
      one_is_chosen (Cons first (Cons second rest)) h = absurd (cc h)

      at_most_one_is_chosen : (c : Conds Target (Expr Target)) → is_at_most_one reads reads c ≡ true
          → all_given expression_given c ≡ all_of (all_chosen there d c)
      at_most_one_is_chosen Nil h = refl
      at_most_one_is_chosen (Cons first Nil) h = alone_given (given expression_given first)
          ∙ expression_is_chosen first h ∙ sym (alone_chosen (chosen there d first))
      at_most_one_is_chosen (Cons first (Cons second rest)) h = absurd (cc h)

      case_of_chosen : (a : ℤ) (arms : Arms Target (Expr Target)) → are_single_arms reads reads arms
          ≡ true → {s : Trapping (List source.Record)} (t : Trapping (List (Expr Target))) → s
          ≡ all_of t → case_given expression_given a arms s ≡ all_of (case_chosen there d a arms t)
      case_of_chosen a NoArms h t k = k
      case_of_chosen a (ConsArm (Case label body) rest) h {s} t k =
          let parts = both_of (is_one reads reads body) (are_single_arms reads reads rest) h in
          all_by_test (int_eq a label) _ _ _ _ (one_is_chosen body parts.0)
          (case_of_chosen a rest parts.1 t k)
      case_of_chosen a (ConsArm (Default body) rest) h {s} t k =
          case_of_chosen a rest
          (both_of (is_one reads reads body) (are_single_arms reads reads rest) h).1 t k

      default_of_chosen : (arms : Arms Target (Expr Target)) → are_single_arms reads reads arms
          ≡ true → default_given expression_given arms ≡ all_of (default_chosen there d arms)
      default_of_chosen NoArms h = refl
      default_of_chosen (ConsArm (Case label body) rest) h =
          default_of_chosen rest (both_of (is_one reads reads body)
          (are_single_arms reads reads rest) h).1
      default_of_chosen (ConsArm (Default body) rest) h =
          one_is_chosen body (both_of (is_one reads reads body) (are_single_arms reads reads rest)
          h).0
