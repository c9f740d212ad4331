-- The values of lists of conditionals and arms, one element after the other.
use Rattle.std.proofs.Common.{◌≡◌, refl, sym, ap, subst, ◌∙◌, ℕ, zero, suc, ◌<◌, Bool, true, false, List, [], ◌∷◌, ◌++◌, length, get_or, arith}
use Rattle.std.specs.Prelude.{◌&&◌, Some}
use Rattle.std.specs.List.{flat_map, list_all}
use Rattle.std.proofs.lemmas.Grind.{flat_map-append}
use Rattle.std.proofs.lemmas.List.{append-nil, append_assoc}
use Rattle.edd_syntax.specs.declared.reference.Target.{Target}
use Rattle.edd_syntax.specs.Conditional.{Cond, Conds, Arm, Arms, NoArms, ConsArm, Case, Default, conds_from, arms_from}
use Rattle.edd_syntax.specs.Item as item
use Rattle.edd_syntax.specs.Item.{TypePart}
use Rattle.edd_syntax.specs.SubsetRules.{values_in, values_of, values_under}
use Rattle.edd_syntax.specs.Words.{Words}
use Rattle.edd_attrs.specs.Records.{kept_enumerator}
use Rattle.edd_attrs.specs.TreeBlocks.{elements}
use Rattle.edd_attrs.specs.Writing.{cond_strings, conds_strings, arms_strings, default_of, element_strings, enumerator_strings, is_kept_part}
use Rattle.edd_attrs.proofs.Among.{Within, within_left, within_right}

-- ---- tests

pub both_parts : (a b : Bool) → (a && b) ≡ true → (a ≡ true) × (b ≡ true)
both_parts true b h = (refl, h)
both_parts false b h = absurd cc

module _ {A : Type 0} (p : A → Bool) where
  pub all_parts : (xs ys : List A) → list_all p (xs ++ ys) ≡ true → (list_all p xs ≡ true)
      × (list_all p ys ≡ true)
  all_parts [] ys h = (refl, h)
  all_parts (x ∷ xs) ys h =
      let here = both_parts (p x) (list_all p (xs ++ ys)) h in
      let rest = all_parts xs ys here.1 in
      (rw here.0 rest.0, rest.1)

  pub alone : (x : A) → list_all p (x ∷ []) ≡ true → p x ≡ true
  alone x h = (both_parts (p x) true h).0

  pub each : (xs : List A) (i : ℕ) {x : A} → i < length xs → x ≡ get_or xs i x
      → list_all p xs ≡ true → p x ≡ true
  each [] i h is all = absurd (omega arith)
  each (y ∷ xs) zero h is all =
      subst (λ (z : A). p z ≡ true) (sym is) (both_parts (p y) (list_all p xs) all).0
  each (y ∷ xs) (suc i) {x} h is all =
      each xs i (omega arith) is (both_parts (p y) (list_all p xs) all).1

  -- what passes of all elements of a list of lists passes of one of them
  pub each_flat : {X : Type 0} (f : X → List A) (xs : List X) (i : ℕ) (x : X) → i < length xs
      → x ≡ get_or xs i x → list_all p (flat_map f xs) ≡ true → list_all p (f x) ≡ true
  each_flat f [] i x h is all = absurd (omega arith)
  each_flat {X} f (y ∷ xs) zero x h is all = subst (λ (z : X). list_all p (f z) ≡ true) (sym is)
      (all_parts (f y) (flat_map f xs) all).0
  each_flat f (y ∷ xs) (suc i) x h is all = each_flat f xs i x (omega arith) is
      (all_parts (f y) (flat_map f xs) all).1

-- ---- values

module _ {V : Type 0} where
  abbrev pub values_at : Arm Target V → List V
  values_at arm = values_under (ConsArm arm NoArms)

  pub conds_flat : (xs : List (Cond Target V)) → flat_map values_in xs ≡ values_of (conds_from xs)
  conds_flat [] = refl
  conds_flat (x ∷ xs) = ap (λ (vs : List V). values_in x ++ vs) (conds_flat xs)

  arm_first : (arm : Arm Target V) (rest : Arms Target V) → values_under (ConsArm arm rest)
      ≡ values_at arm ++ values_under rest
  arm_first (Case label body) rest = ap (λ (vs : List V). vs ++ values_under rest)
      (sym (append-nil (values_of body)))
  arm_first (Default body) rest = ap (λ (vs : List V). vs ++ values_under rest)
      (sym (append-nil (values_of body)))

  pub arms_flat : (arms : List (Arm Target V)) → flat_map values_at arms
      ≡ values_under (arms_from arms)
  arms_flat [] = refl
  arms_flat (arm ∷ rest) = ap (λ (vs : List V). values_at arm ++ vs) (arms_flat rest)
      ∙ sym (arm_first arm (arms_from rest))

  -- the first DEFAULT is among the values
  pub default_parts : (arms : Arms Target V) {body : Conds Target V} → default_of arms ≡ Some body
      → (front : List V) × (back : List V) × (values_under arms ≡ front ++ (values_of body ++ back))
  default_parts NoArms e = absurd cc
  default_parts (ConsArm (Case label x) rest) {body} e =
      let more = default_parts rest e in (
        values_of x ++ more.0,
        more.1,
        ap (λ (vs : List V). values_of x ++ vs) more.2
            ∙ simp append_assoc,
      )
  default_parts (ConsArm (Default x) rest) {body} e = (
    [],
    values_under rest,
    ap (λ (c : Conds Target V). values_of c ++ values_under rest)
        (same x body e),
  )
    where
      same : (x y : Conds Target V) → Some x ≡ Some y → x ≡ y
      same x y e = cc

module _ {X V A : Type 0} (f : V → List A) (g : X → List V) where
  pub flat_twice : (xs : List X) → flat_map (λ x. flat_map f (g x)) xs ≡ flat_map f (flat_map g xs)
  flat_twice [] = refl
  flat_twice (x ∷ xs) = ap (λ (ys : List A). flat_map f (g x) ++ ys) (flat_twice xs)
      ∙ sym (flat_map-append f (g x) (flat_map g xs))

module _ {V : Type 0} (strings : V → List Words) where
  pub conds_strings_are : (xs : List (Cond Target V)) → flat_map (cond_strings strings) xs
      ≡ conds_strings strings (conds_from xs)
  conds_strings_are xs = flat_twice strings values_in xs ∙ ap (flat_map strings) (conds_flat xs)

  abbrev pub strings_at_arm : Arm Target V → List Words
  strings_at_arm arm = arms_strings strings (ConsArm arm NoArms)

  pub arms_strings_are : (arms : List (Arm Target V)) → flat_map strings_at_arm arms
      ≡ arms_strings strings (arms_from arms)
  arms_strings_are arms = flat_twice strings values_at arms ∙ ap (flat_map strings) (arms_flat arms)

  pub default_within : (arms : Arms Target V) (body : Conds Target V) → default_of arms ≡ Some body
      → Within (conds_strings strings body) (arms_strings strings arms)
  default_within arms body e w held =
      let parts = default_parts arms e in
      let one : arms_strings strings arms ≡ flat_map strings parts.0
      ++ flat_map strings (values_of body ++ parts.1) = ap (flat_map strings) parts.2
      ∙ flat_map-append strings parts.0 (values_of body ++ parts.1) in
      let two : flat_map strings (values_of body ++ parts.1) ≡ conds_strings strings body
      ++ flat_map strings parts.1 = flat_map-append strings (values_of body) parts.1 in
      within_right (flat_map strings parts.0) (flat_map strings (values_of body ++ parts.1)) one w
      (within_left (conds_strings strings body) (flat_map strings parts.1) two w held)

-- ---- what is kept

module _ {V : Type 0} (p : V → Bool) where
  pub element_kept : (xs : List (Cond Target V)) (i : ℕ) {x : Cond Target V} → i < length xs
      → x ≡ get_or xs i x → list_all p (values_of (conds_from xs)) ≡ true
      → list_all p (values_in x) ≡ true
  element_kept xs i {x} h is all =
      each_flat p values_in xs i x h is (ap (list_all p) (conds_flat xs) ∙ all)

  pub arm_kept : (arms : List (Arm Target V)) (i : ℕ) (arm : Arm Target V) → i < length arms
      → arm ≡ get_or arms i arm → list_all p (values_under (arms_from arms)) ≡ true
      → list_all p (values_at arm) ≡ true
  arm_kept arms i arm h is all = each_flat p values_at arms i arm h is
      (ap (list_all p) (arms_flat arms) ∙ all)

  pub default_kept : (arms : Arms Target V) {body : Conds Target V} → default_of arms ≡ Some body
      → list_all p (values_under arms) ≡ true → list_all p (values_of body) ≡ true
  default_kept arms {body} e all =
      let parts = default_parts arms e in
      let one = all_parts p parts.0 (values_of body ++ parts.1) (ap (list_all p) (sym parts.2)
      ∙ all) in
      (all_parts p (values_of body) parts.1 one.1).0

-- ---- the elements of a type's list

part_values : (q : TypePart Target) (rest : List (TypePart Target))
    → conds_strings enumerator_strings (elements (q ∷ rest)) ≡ element_strings q
    ++ conds_strings enumerator_strings (elements rest)
part_values (item.Element c) rest = flat_map-append enumerator_strings (values_in c)
    (values_of (elements rest))
part_values _ rest = refl

pub element_strings_are : (parts : List (TypePart Target)) → flat_map element_strings parts
    ≡ conds_strings enumerator_strings (elements parts)
element_strings_are [] = refl
element_strings_are (q ∷ rest) = ap (λ (ws : List Words). element_strings q ++ ws)
    (element_strings_are rest) ∙ sym (part_values q rest)

parts_kept : (parts : List (TypePart Target))
    → list_all kept_enumerator (values_of (elements parts)) ≡ true → list_all is_kept_part parts
    ≡ true
parts_kept [] h = refl
parts_kept (item.Element c ∷ rest) h = let both = all_parts kept_enumerator (values_in c)
    (values_of (elements rest)) h in rw both.0 (parts_kept rest both.1)
parts_kept (_ ∷ rest) h = parts_kept rest h

pub part_kept : (parts : List (TypePart Target)) (i : ℕ) {q : TypePart Target} → i < length parts
    → q ≡ get_or parts i q → list_all kept_enumerator (values_of (elements parts)) ≡ true
    → is_kept_part q ≡ true
part_kept parts i {q} h is all = each is_kept_part parts i h is (parts_kept parts all)
