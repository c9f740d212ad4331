-- Numbers of operands may be entered in any order.
use Rattle.std.proofs.Common.{◌≡◌, ◌≢◌, ℕ, ◌+◌, ◌<◌, Bool, true, false, cond, length, set, Option, Some, None, refl, sym, ap, ◌∙◌, inl, inr, get_or-set_same, get_or-set_other, subst}
use Rattle.std.specs.Prelude.{◌==◌, nat_lt, option_map}
use Rattle.std.proofs.lemmas.Bool.{cases_Bool, cases_eq, eqb-true}
use Rattle.std.proofs.lemmas.List.{set_comm}
use Rattle.edd_image.specs.Front.{◌>>=◌}
use Rattle.edd_unit_rules.specs.Depths.{Table, known, settle, enter}

abbrev pub brought_by : ℕ → Option ℕ → Option ℕ
brought_by rest left = option_map (λ n. rest + n) left

-- ---- tools

then_none : {A B : Type 0} (o : Option A) (f : A → Option B) → ((x : A) → f x ≡ None)
    → (o >>= f) ≡ None
then_none None f h = refl
then_none (Some x) f h = h x

-- ---- the order of two entries is free

entered : (t : Table) (a x : ℕ) (o : Option ℕ) → nat_lt 128 x ≡ false → known t a ≡ o
    → enter t a x ≡ settle t a x o
unfolding enter
entered t a x o small e = rw (small, e) refl

no_entry : (t : Table) (a x : ℕ) → nat_lt 128 x ≡ true → enter t a x ≡ None
unfolding enter
no_entry t a x big = rw big refl

choices : {A : Type 0} (p q : Bool) (x : A) → (cond p (Some x) None >>= λ y. cond q (Some y) None)
    ≡ (cond q (Some x) None >>= λ y. cond p (Some y) None)
choices true true x = refl
choices true false x = refl
choices false true x = refl
choices false false x = refl

either_order : (t : Table) (a x y : ℕ) → (cond (x == y) (Some (set t a (Some x))) None)
    ≡ (cond (y == x) (Some (set t a (Some y))) None)
either_order t a x y = elim (cases_eq x y) [
  | inl same ↦ subst (λ (z : ℕ). (cond (x == z) (Some (set t a (Some x))) None)
      ≡ (cond (z == x) (Some (set t a (Some z))) None)) same refl
  | inr other ↦ rw (differs x y other, differs y x (λ e. other (sym e))) refl
]
  where
    differs : (m n : ℕ) → m ≢ n → (m == n) ≡ false
    differs m n ne = elim (cases_Bool (m == n)) [ inl e ↦ absurd (ne (eqb-true m n e)) | inr e ↦ e ]

module _ (t : Table) (x y : ℕ) (small_x : nat_lt 128 x ≡ false) (small_y : nat_lt 128 y ≡ false)
  where
    at_one : (a : ℕ) (o : Option ℕ) → a < length t → known t a ≡ o
        → (enter t a x >>= λ u. enter u a y) ≡ (enter t a y >>= λ u. enter u a x)
    at_one a None inside e =
        let left : enter (set t a (Some x)) a y ≡ cond (x == y) (Some (set t a (Some x))) None =
        entered (set t a (Some x)) a y (Some x) small_y (get_or-set_same t a (Some x) None inside)
        in
        let right : enter (set t a (Some y)) a x ≡ cond (y == x) (Some (set t a (Some y))) None =
        entered (set t a (Some y)) a x (Some y) small_x (get_or-set_same t a (Some y) None inside)
        in
        rw (entered t a x None small_x e, entered t a y None small_y e) (left ∙ either_order t a x y
        ∙ sym right)
    at_one a (Some n) inside e =
        let f : ℕ → Table → Option Table = λ z u. enter u a z in
        rw (entered t a x (Some n) small_x e, entered t a y (Some n) small_y e)
        (on_choice (n == x) (λ u. enter u a y) ∙ ap (λ (o : Option Table). cond (n == x) o None)
        (entered t a y (Some n) small_y e)
        ∙ both (n == x) (n == y)
        ∙ sym (on_choice (n == y) (λ u. enter u a x)
        ∙ ap (λ (o : Option Table). cond (n == y) o None)
        (entered t a x (Some n) small_x e)))
      where
        on_choice : (p : Bool) (g : Table → Option Table) → (cond p (Some t) None >>= g)
            ≡ cond p (g t) None
        on_choice true g = refl
        on_choice false g = refl

        both : (p q : Bool) → cond p (cond q (Some t) None) None ≡ cond q (cond p (Some t) None)
            None
        both true true = refl
        both true false = refl
        both false true = refl
        both false false = refl

    at_two : (a b : ℕ) (o p : Option ℕ) → a ≢ b → known t a ≡ o → known t b ≡ p
        → (enter t a x >>= λ u. enter u b y) ≡ (enter t b y >>= λ u. enter u a x)
    at_two a b None None ne e f =
        let left = entered (set t a (Some x)) b y None small_y
        (get_or-set_other t a b (Some x) None (λ s. ne (sym s)) ∙ f) in
        let right = entered (set t b (Some y)) a x None small_x
        (get_or-set_other t b a (Some y) None ne ∙ e) in
        rw (entered t a x None small_x e, entered t b y None small_y f)
        (left ∙ ap (λ (u : Table). Some u) (set_comm t a b (Some x) (Some y) ne) ∙ sym right)
    at_two a b None (Some n) ne e f =
        let left = entered (set t a (Some x)) b y (Some n) small_y
        (get_or-set_other t a b (Some x) None (λ s. ne (sym s)) ∙ f) in
        rw (entered t a x None small_x e, entered t b y (Some n) small_y f)
        (left ∙ sym (on_choice (n == y)))
      where
        on_choice : (q : Bool) → (cond q (Some t) None >>= λ u. enter u a x)
            ≡ cond q (Some (set t a (Some x))) None
        on_choice true = entered t a x None small_x e
        on_choice false = refl
    at_two a b (Some m) None ne e f =
        let right = entered (set t b (Some y)) a x (Some m) small_x
        (get_or-set_other t b a (Some y) None ne ∙ e) in
        rw (entered t a x (Some m) small_x e, entered t b y None small_y f)
        (on_choice (m == x) ∙ sym right)
      where
        on_choice : (q : Bool) → (cond q (Some t) None >>= λ u. enter u b y)
            ≡ cond q (Some (set t b (Some y))) None
        on_choice true = entered t b y None small_y f
        on_choice false = refl
    at_two a b (Some m) (Some n) ne e f =
        rw (entered t a x (Some m) small_x e, entered t b y (Some n) small_y f)
        (one (m == x) ∙ choices (m == x) (n == y) t ∙ sym (two (n == y)))
      where
        one : (q : Bool) → (cond q (Some t) None >>= λ u. enter u b y)
            ≡ (cond q (Some t) None >>= λ u. cond (n == y) (Some u) None)
        one true = entered t b y (Some n) small_y f
        one false = refl

        two : (q : Bool) → (cond q (Some t) None >>= λ u. enter u a x)
            ≡ (cond q (Some t) None >>= λ u. cond (m == x) (Some u) None)
        two true = entered t a x (Some m) small_x e
        two false = refl

pub entries_commute : (t : Table) (a x b y : ℕ) → b < length t → (enter t a x >>= λ u. enter u b y)
    ≡ (enter t b y >>= λ u. enter u a x)
entries_commute t a x b y inside = elim (cases_Bool (nat_lt 128 x)) [
  | inl big ↦ rw (no_entry t a x big)
      (sym (then_none (enter t b y) (λ u. enter u a x) (λ u. no_entry u a x big)))
  | inr small_x ↦ elim (cases_Bool (nat_lt 128 y)) [
    | inl big ↦ then_none (enter t a x) (λ u. enter u b y) (λ u. no_entry u b y big)
        ∙ sym (rw (no_entry t b y big) refl)
    | inr small_y ↦ elim (cases_eq a b) [
      | inl same ↦ subst (λ (c : ℕ). (enter t c x >>= λ u. enter u b y)
          ≡ (enter t b y >>= λ u. enter u c x)) (sym same)
          (at_one t x y small_x small_y b (known t b) inside refl)
      | inr other ↦ at_two t x y small_x small_y a b (known t a) (known t b) other refl refl
    ]
  ]
]
