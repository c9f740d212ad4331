-- The pass over a unit succeeds exactly where there are numbers of operands that fit its
-- instructions.
use Rattle.std.proofs.Common.{◌≡◌, ◌≢◌, ℕ, ◌+◌, ◌-◌, ◌<◌, ◌≤◌, Bool, true, false, cond, List, [], ◌∷◌, ◌++◌, length, set, replicate, Option, Some, None, refl, sym, ap, subst, ◌∙◌, arith, inl, inr, length-set, get_or-set_same, get_or-set_other}
use Rattle.std.proofs.lemmas.List.{get_or-replicate, get_or_past, length-replicate}
use Rattle.std.specs.Prelude.{unwrap_or, nat_lt, ◌==◌}
use Rattle.std.specs.List.{AllByRecursion, list_any}
use Rattle.std.specs.Option.{option_to_list}
use Rattle.std.proofs.lemmas.Bool.{cases_eq, cases_lt, cases_Bool, ltb-false, le-ltb, lt-ltb, eqb-true, eq-eqb, or_parts, or_cases}
use Rattle.edd_instructions.specs.declared.unit.Way.{Way}
use Rattle.edd_image.specs.Front.{◌>>=◌}
use Rattle.edd_instructions.specs.Units.{Placed, takes, ways, onward, jump, leads_to, IsFresh, AreDepths, HasDepths}
use Rattle.edd_unit_rules.specs.Depths.{Table, known, settle, enter, enter_ways, visit_at, visit, visit_all}

-- ---- tools

pub each : {X : Type 0} {P Q : X → Type 0} (xs : List X) → ((x : X) → P x → Q x)
    → AllByRecursion P xs → AllByRecursion Q xs
each [] f h = tt
each (x ∷ xs) f h = (f x h.0, each xs f h.1)

pub each_two : {X : Type 0} {P Q R : X → Type 0} (xs : List X) → ((x : X) → P x → Q x → R x)
    → AllByRecursion P xs → AllByRecursion Q xs → AllByRecursion R xs
each_two [] f g h = tt
each_two (x ∷ xs) f g h = (f x g.0 h.0, each_two xs f g.1 h.1)

pub bind_some : {A B : Type 0} (o : Option A) (f : A → Option B) (y : B) → (o >>= f) ≡ Some y
    → (x : A) × (o ≡ Some x) × (f x ≡ Some y)
bind_some None f y e = absurd cc
bind_some (Some x) f y e = (x, refl, e)

choice_none : {A : Type 0} (b : Bool) (o : Option A) (y : A) → cond b None o ≡ Some y
    → (b ≡ false) × (o ≡ Some y)
choice_none true o y e = absurd cc
choice_none false o y e = (refl, e)

choice_some : {A : Type 0} (b : Bool) (x y : A) → cond b (Some x) None ≡ Some y
    → (b ≡ true) × (x ≡ y)
choice_some true x y e = (refl, cc)
choice_some false x y e = absurd cc

-- ---- what an entry leaves

-- t says what table says, and may say more
pub record Extends (table t : Table) : Type 0 where
  pub same_length : length t ≡ length table
  pub keeps : (q d : ℕ) → known table q ≡ Some d → known t q ≡ Some d

pub extends_refl : (t : Table) → Extends t t
extends_refl t = record { same_length = refl; keeps = λ q d e. e }

pub extends_trans : (a b c : Table) → Extends a b → Extends b c → Extends a c
extends_trans a b c p q =
    record {
      same_length = q.same_length ∙ p.same_length;
      keeps = λ k d e. q.keeps k d
          (p.keeps k d e);
    }

-- no number in the table is above the capacity
abbrev pub AreSmall : Table → Type 0
AreSmall table = (q d : ℕ) → known table q ≡ Some d → d ≤ 128

-- t is table with this number at the place
pub record Enters (table : Table) (place depth : ℕ) (t : Table) : Type 0 where
  pub extends : Extends table t
  pub here : known t place ≡ Some depth
  pub small : depth ≤ 128
  pub elsewhere : (q : ℕ) → q ≢ place → known t q ≡ known table q

set_enters : (table : Table) (place depth : ℕ) → place < length table → depth ≤ 128
    → ((d : ℕ) → known table place ≡ Some d → d ≡ depth)
    → Enters table place depth (set table place (Some depth))
set_enters table place depth inside small agrees = record {
  extends = record {
    same_length = length-set table place (Some depth);
    keeps = λ q d e. elim (cases_eq q place) [
      | inl same ↦
          let at : known table place ≡ Some d = subst (λ (k : ℕ). known table k ≡ Some d) same e in
          let is : d ≡ depth = agrees d at in
          subst (λ (k : ℕ). known (set table place (Some depth)) k ≡ Some d) (sym same)
          (get_or-set_same table place (Some depth) None inside ∙ ap Some (sym is))
      | inr other ↦ get_or-set_other table place q (Some depth) None other ∙ e
    ];
  };
  here = get_or-set_same table place (Some depth) None inside;
  small = small;
  elsewhere = λ q other. get_or-set_other table place q (Some depth) None other;
}

settle_enters : (table : Table) (place depth : ℕ) (o : Option ℕ) (t : Table) → place < length table
    → depth ≤ 128 → known table place ≡ o → settle table place depth o ≡ Some t
    → Enters table place depth t
settle_enters table place depth None t inside small k e =
    let same : set table place (Some depth) ≡ t = cc in
    subst (λ (x : Table). Enters table place depth x) same
    (set_enters table place depth inside small (λ d h. let no : None
    ≡ Some d = cc in absurd cc))
settle_enters table place depth (Some before) t inside small k e =
    let c = choice_some (before == depth) table t e in
    let is : before ≡ depth = eqb-true before depth c.0 in
    subst (λ (x : Table). Enters table place depth x) c.1
    (record {
      extends = extends_refl table;
      here = k ∙ ap Some is;
      small = small;
      elsewhere = λ q other. refl;
    })

enter_enters : (table : Table) (place depth : ℕ) (t : Table) → place < length table
    → enter table place depth ≡ Some t → Enters table place depth t
unfolding enter
enter_enters table place depth t inside e =
    let c = choice_none (nat_lt 128 depth) (settle table place depth (known table place)) t e in
    settle_enters table place depth (known table place) t inside (ltb-false 128 depth c.0) refl c.1

-- t is table with a number at each way's place
pub record EntersWays (table : Table) (rest : ℕ) (ws : List Way) (t : Table) : Type 0 where
  pub extends : Extends table t
  pub each_way : AllByRecursion (λ w. known t w.to ≡ Some (rest + w.leaves)) ws
  pub elsewhere : (q : ℕ) → list_any (λ w. w.to == q) ws ≡ false → known t q ≡ known table q
  pub small : AreSmall table → AreSmall t

entered_small : (table : Table) (place depth : ℕ) (t : Table) → Enters table place depth t
    → AreSmall table → AreSmall t
entered_small table place depth t entered small q d e = elim (cases_eq q place) [
  | inl same ↦
      let at : known t place ≡ Some d = subst (λ (k : ℕ). known t k ≡ Some d) same e in
      let is : Some depth ≡ Some d = sym entered.here ∙ at in
      let is' : depth ≡ d = cc in
      omega (arith, entered.small)
  | inr other ↦ small q d (sym (entered.elsewhere q other) ∙ e)
]

differs : (a b : ℕ) → (a == b) ≡ false → b ≢ a
differs a b e same = let t : (a == b) ≡ true = eq-eqb a b (sym same) in let no : true ≡ false =
    sym t ∙ e in cc

enter_ways_enters : (ws : List Way) (table : Table) (rest : ℕ) (t : Table)
    → AllByRecursion (λ w. w.to < length table) ws → enter_ways table rest ws ≡ Some t
    → EntersWays table rest ws t
unfolding enter_ways
enter_ways_enters [] table rest t inside e =
    let same : table ≡ t = cc in
    subst (λ (x : Table). EntersWays table rest [] x) same
    (record {
      extends = extends_refl table;
      each_way = tt;
      elsewhere = λ q _. refl;
      small = λ s. s;
    })
enter_ways_enters (w ∷ ws) table rest t inside e =
    let b = bind_some (enter table w.to (rest + w.leaves)) (λ entered. enter_ways entered rest ws) t
    e in
    let first = enter_enters table w.to (rest + w.leaves) b.0 inside.0 b.1 in
    let inside' : AllByRecursion (λ v. v.to < length b.0) ws =
    rw first.extends.same_length inside.1 in
    let others = enter_ways_enters ws b.0 rest t inside' b.2 in
    record {
      extends = extends_trans table b.0 t first.extends others.extends;
      each_way = (others.extends.keeps w.to (rest + w.leaves) first.here, others.each_way);
      elsewhere = λ q none.
          let parts = or_parts (w.to == q) (list_any (λ v. v.to == q) ws) none in
          others.elsewhere q parts.1 ∙ first.elsewhere q (differs w.to q parts.0);
      small = λ s. others.small (entered_small table w.to (rest + w.leaves) b.0 first s);
    }

-- t is table after an instruction before which there are so many operands
pub record Visits (table : Table) (x : Placed) (depth : ℕ) (t : Table) : Type 0 where
  pub extends : Extends table t
  pub here : known t x.place ≡ Some depth
  pub enough : takes x.instruction ≤ depth
  pub each_way : AllByRecursion (λ w. known t w.to ≡ Some (depth - takes x.instruction + w.leaves))
      (ways x)
  pub elsewhere : (q : ℕ) → q ≢ x.place → leads_to x q ≡ false → known t q ≡ known table q
  pub small : AreSmall table → AreSmall t

-- an instruction whose places lie inside the table
abbrev pub LiesInside : ℕ → Placed → Type 0
LiesInside size x = (x.place < size) × AllByRecursion (λ w. w.to < size) (ways x)

visit_at_visits : (table : Table) (x : Placed) (depth : ℕ) (t : Table) → LiesInside (length table) x
    → ((d : ℕ) → known table x.place ≡ Some d → d ≡ depth) → (AreSmall table → depth ≤ 128)
    → visit_at table x depth ≡ Some t → Visits table x depth t
unfolding visit_at
visit_at_visits table x depth t inside agrees bounded e =
    let rest = depth - takes x.instruction in
    let c = choice_none (nat_lt depth (takes x.instruction))
    (enter_ways (set table x.place (Some depth)) rest (ways x)) t e in
    let size : length (set table x.place (Some depth)) ≡ length table =
    length-set table x.place (Some depth) in
    let inside' : AllByRecursion (λ w. w.to < length (set table x.place (Some depth))) (ways x) =
    rw size inside.1 in
    let others = enter_ways_enters (ways x) (set table x.place (Some depth)) rest t inside' c.1 in
    let first : Extends table (set table x.place (Some depth)) = record {
      same_length = size;
      keeps = λ q d e. elim (cases_eq q x.place) [
        | inl same ↦
            let at : known table x.place ≡ Some d = subst (λ (k : ℕ). known table k ≡ Some d) same
            e in
            subst (λ (k : ℕ). known (set table x.place (Some depth)) k ≡ Some d) (sym same)
            (get_or-set_same table x.place (Some depth) None inside.0
            ∙ ap Some (sym (agrees d at)))
        | inr other ↦ get_or-set_other table x.place q (Some depth) None other ∙ e
      ];
    } in
    record {
      extends = extends_trans table (set table x.place (Some depth)) t first others.extends;
      here = others.extends.keeps x.place depth
          (get_or-set_same table x.place (Some depth) None inside.0);
      enough = ltb-false depth (takes x.instruction) c.0;
      each_way = others.each_way;
      elsewhere = λ q other none. others.elsewhere q none ∙ get_or-set_other table x.place q
          (Some depth) None other;
      small = λ s. others.small (λ q d k. elim (cases_eq q x.place) [
        | inl same ↦
            let at : known (set table x.place (Some depth)) x.place ≡ Some d =
            subst (λ (j : ℕ). known (set table x.place (Some depth)) j ≡ Some d) same k in
            let is : Some depth ≡ Some d =
            sym (get_or-set_same table x.place (Some depth) None inside.0) ∙ at in
            let is' : depth ≡ d = cc in
            omega (arith, bounded s)
        | inr other ↦ s q d (sym (get_or-set_other table x.place q (Some depth) None other) ∙ k)
      ]);
    }

-- what the pass takes for the number at a place
abbrev pub depth_in : Table → ℕ → ℕ
depth_in table place = unwrap_or (known table place) 0

depth_from_known : (table : Table) (q d : ℕ) → known table q ≡ Some d → depth_in table q ≡ d
depth_from_known table q d e = rw e refl

agrees_with_known : (o : Option ℕ) (d : ℕ) → o ≡ Some d → d ≡ unwrap_or o 0
agrees_with_known None d e = absurd cc
agrees_with_known (Some x) d e = cc

bounded_unwrap : (o : Option ℕ) → ((d : ℕ) → o ≡ Some d → d ≤ 128) → unwrap_or o 0 ≤ 128
bounded_unwrap None h = omega arith
bounded_unwrap (Some d) h = h d refl

pub visit_visits : (table : Table) (x : Placed) (t : Table) → LiesInside (length table) x
    → visit table x ≡ Some t → Visits table x (depth_in table x.place) t
visit_visits table x t inside e = visit_at_visits table x (depth_in table x.place) t inside
    (λ d k. agrees_with_known (known table x.place) d k)
    (λ s. bounded_unwrap (known table x.place) (λ d k. s x.place d k)) e

-- ---- instructions one after the other

-- the places rise, each instruction beginning where the one before it ends
abbrev pub Rising : ℕ → List Placed → Type 0
Rising place [] = Unit {0}
Rising place (x ∷ xs) = (x.place ≡ place) × (place < x.next) × Rising x.next xs

later : (xs : List Placed) (low place : ℕ) → low ≤ place → Rising place xs
    → AllByRecursion (λ z. low ≤ z.place) xs
later [] low place le r = tt
later (x ∷ xs) low place le r = (omega (arith, r.0), later xs low x.next (omega (arith, r.1)) r.2)

-- ---- where the pass succeeds, its numbers fit

-- what one instruction asks of the numbers
abbrev pub Suits : Table → Placed → Type 0
Suits final x = (takes x.instruction ≤ depth_in final x.place)
    × AllByRecursion (λ w. depth_in final w.to ≡ depth_in final x.place - takes x.instruction
    + w.leaves) (ways x)

pub record Sound (table : Table) (xs : List Placed) (final : Table) : Type 0 where
  pub extends : Extends table final
  pub small : AreSmall table → AreSmall final
  pub suits : AllByRecursion (Suits final) xs
  pub fresh : AllByRecursion (λ x. known table x.place ≡ None → IsFresh xs x.place
      → depth_in final x.place ≡ 0) xs

visited_suits : (table : Table) (x : Placed) (depth : ℕ) (t final : Table) → Visits table x depth t
    → Extends t final → Suits final x
visited_suits table x depth t final v ext =
    let here : depth_in final x.place ≡ depth = depth_from_known final x.place depth
    (ext.keeps x.place depth v.here) in
    rw here (
      v.enough,
      each (ways x)
          (λ w k. depth_from_known final w.to (depth - takes x.instruction + w.leaves)
          (ext.keeps w.to (depth - takes x.instruction + w.leaves) k)) v.each_way,
    )

sound_from : (xs : List Placed) (place : ℕ) (table final : Table) → Rising place xs
    → AllByRecursion (LiesInside (length table)) xs → visit_all table xs ≡ Some final
    → Sound table xs final
unfolding visit_all
sound_from [] place table final rising inside e =
    let same : table ≡ final = cc in
    subst (λ (t : Table). Sound table [] t) same
    (record { extends = extends_refl table; small = λ s. s; suits = tt; fresh = tt })
sound_from (x ∷ xs) place table final rising inside e =
    let b = bind_some (visit table x) (λ visited. visit_all visited xs) final e in
    let first = visit_visits table x b.0 inside.0 b.1 in
    let inside' : AllByRecursion (LiesInside (length b.0)) xs =
    rw first.extends.same_length inside.1 in
    let others = sound_from xs x.next b.0 final rising.2 inside' b.2 in
    let depth = depth_in table x.place in
    record {
      extends = extends_trans table b.0 final first.extends others.extends;
      small = λ s. others.small (first.small s);
      suits = (visited_suits table x depth b.0 final first others.extends, others.suits);
      fresh = (
        (λ none _. depth_from_known final x.place depth
            (others.extends.keeps x.place depth first.here) ∙ ap (λ (o : Option ℕ). unwrap_or o 0)
            none),
        each_two xs (λ z above old none is_fresh.
            let lt : x.place < z.place = omega (arith, rising.0, rising.1, above) in
            let ne : z.place ≢ x.place = omega (arith, lt) in
            old (first.elsewhere z.place ne (is_fresh.0 lt) ∙ none) is_fresh.1)
            (later xs x.next x.next (omega arith) rising.2) others.fresh,
      );
    }

known_none : (n q : ℕ) → known (replicate n None) q ≡ None
known_none n q = elim (cases_lt q n) [
  | inl lt ↦ get_or-replicate n q None None lt
  | inr le ↦ get_or_past (replicate n None) q None
      (omega (arith, length-replicate {A = Option ℕ} n None))
]

pub sound : (xs : List Placed) (n : ℕ) (final : Table) → Rising 0 xs
    → AllByRecursion (LiesInside n) xs → visit_all (replicate n None) xs ≡ Some final
    → AreDepths xs (depth_in final)
sound xs n final rising inside e =
    let size : length (replicate n None) ≡ n = length-replicate {A = Option ℕ} n None in
    let inside' : AllByRecursion (LiesInside (length (replicate {A = Option ℕ} n None))) xs =
    rw size inside in
    let s = sound_from xs 0 (replicate n None) final rising inside' e in
    let small : AreSmall final = s.small (λ q d k. let no : None ≡ Some d = sym (known_none n q)
    ∙ k in absurd cc) in
    record {
      enough = each xs (λ x h. h.0) s.suits;
      bounded = each xs (λ x h. bounded_unwrap (known final x.place) (λ d k. small x.place d k))
          s.suits;
      agree = each xs (λ x h. h.1) s.suits;
      fresh = each xs (λ x h is_fresh. h (known_none n x.place) is_fresh) s.fresh;
    }

-- ---- where there are numbers that fit, the pass succeeds

-- the table says nothing else than these numbers
abbrev pub Agrees : (ℕ → ℕ) → Table → Type 0
Agrees depth table = (q d : ℕ) → known table q ≡ Some d → depth q ≡ d

module _ (depth : ℕ → ℕ) where
  agrees_after : (table : Table) (place n : ℕ) (t : Table) → Agrees depth table → depth place ≡ n
      → Enters table place n t → Agrees depth t
  agrees_after table place n t agrees is entered q d e = elim (cases_eq q place) [
    | inl same ↦
        let at : known t place ≡ Some d = subst (λ (k : ℕ). known t k ≡ Some d) same e in
        let both : Some n ≡ Some d = sym entered.here ∙ at in
        let n_is : n ≡ d = cc in
        ap depth same ∙ is ∙ n_is
    | inr other ↦ agrees q d (sym (entered.elsewhere q other) ∙ e)
  ]

  settle_succeeds : (table : Table) (place n : ℕ) (o : Option ℕ) → known table place ≡ o
      → Agrees depth table → depth place ≡ n → (t : Table) × (settle table place n o ≡ Some t)
  settle_succeeds table place n None k agrees is = (set table place (Some n), refl)
  settle_succeeds table place n (Some before) k agrees is =
      let same : before ≡ n = sym (agrees place before k) ∙ is in
      (table, rw (eq-eqb before n same) refl)

  enter_succeeds : (table : Table) (place n : ℕ) → place < length table → Agrees depth table
      → depth place ≡ n → n ≤ 128 → (t : Table) × (enter table place n ≡ Some t)
  unfolding enter
  enter_succeeds table place n inside agrees is small =
      let s = settle_succeeds table place n (known table place) refl agrees is in
      (s.0, rw (le-ltb 128 n small) s.1)

  enter_ways_succeeds : (ws : List Way) (table : Table) (rest : ℕ)
      → AllByRecursion (λ w. w.to < length table) ws → Agrees depth table
      → AllByRecursion (λ w. depth w.to ≡ rest + w.leaves) ws
      → AllByRecursion (λ w. depth w.to ≤ 128) ws
      → (t : Table) × (enter_ways table rest ws ≡ Some t) × Agrees depth t
  unfolding enter_ways
  enter_ways_succeeds [] table rest inside agrees is small = (table, refl, agrees)
  enter_ways_succeeds (w ∷ ws) table rest inside agrees is small =
      let n = rest + w.leaves in
      let first = enter_succeeds table w.to n inside.0 agrees is.0 (omega (arith, is.0, small.0)) in
      let entered = enter_enters table w.to n first.0 inside.0 first.1 in
      let inside' : AllByRecursion (λ v. v.to < length first.0) ws =
      rw entered.extends.same_length inside.1 in
      let others = enter_ways_succeeds ws first.0 rest inside'
      (agrees_after table w.to n first.0 agrees is.0 entered) is.1 small.1 in
      (others.0, rw first.1 others.1, others.2)

  visit_at_succeeds : (table : Table) (x : Placed) (n : ℕ) → LiesInside (length table) x
      → Agrees depth table → depth x.place ≡ n → takes x.instruction ≤ n → n ≤ 128
      → AllByRecursion (λ w. depth w.to ≡ n - takes x.instruction + w.leaves) (ways x)
      → AllByRecursion (λ w. depth w.to ≤ 128) (ways x)
      → (t : Table) × (visit_at table x n ≡ Some t) × Agrees depth t
  unfolding visit_at
  visit_at_succeeds table x n inside agrees is enough small agree ways_small =
      let started = set table x.place (Some n) in
      let size : length started ≡ length table = length-set table x.place (Some n) in
      let inside' : AllByRecursion (λ w. w.to < length started) (ways x) = rw size inside.1 in
      let entered = set_enters table x.place n inside.0 small (λ d k. sym (agrees x.place d k) ∙ is)
      in
      let others = enter_ways_succeeds (ways x) started (n - takes x.instruction) inside'
      (agrees_after table x.place n started agrees is entered) agree ways_small in
      (others.0, rw (le-ltb n (takes x.instruction) enough) others.1, others.2)

-- the number at a place, from what the table says of it
number_is : (o : Option ℕ) (n : ℕ) → (o ≡ None → n ≡ 0) → ((d : ℕ) → o ≡ Some d → n ≡ d)
    → n ≡ unwrap_or o 0
number_is None n h k = h refl
number_is (Some d) n h k = k d refl

-- where a way leads, something is known
led_to : (t : Table) (rest : ℕ) (ws : List Way) (q : ℕ) → list_any (λ w. w.to == q) ws ≡ true
    → AllByRecursion (λ w. known t w.to ≡ Some (rest + w.leaves)) ws
    → (d : ℕ) × (known t q ≡ Some d)
led_to t rest [] q e h = absurd cc
led_to t rest (w ∷ ws) q e h = elim (or_cases (w.to == q) (list_any (λ v. v.to == q) ws) e) [
  | inl here ↦ (
    rest + w.leaves,
    subst (λ (k : ℕ). known t k ≡ Some (rest + w.leaves))
        (eqb-true w.to q here) h.0,
  )
  | inr there ↦ led_to t rest ws q there h.1
]

not_led : (table : Table) (x : Placed) (depth : ℕ) (t : Table) (q : ℕ) → Visits table x depth t
    → known t q ≡ None → leads_to x q ≡ false
not_led table x depth t q v none = elim (cases_Bool (leads_to x q)) [
  | inl leads ↦
      let d = led_to t (depth - takes x.instruction) (ways x) q leads v.each_way in
      let no : None ≡ Some d.0 = sym none ∙ d.1 in
      absurd cc
  | inr leads ↦ leads
]

none_before : (table t : Table) (q : ℕ) (o : Option ℕ) → known table q ≡ o → Extends table t
    → known t q ≡ None → known table q ≡ None
none_before table t q None k ext none = k
none_before table t q (Some d) k ext none = let no : None ≡ Some d = sym none
    ∙ ext.keeps q d k in absurd cc

-- nothing before a place that the others follow leads to it
first_is_fresh : (x : Placed) (xs : List Placed) (place : ℕ) → Rising place (x ∷ xs)
    → IsFresh (x ∷ xs) x.place
first_is_fresh x xs place rising = (
  (λ lt. absurd (omega (arith, lt))),
  each xs (λ y above lt. absurd (omega (arith, lt, above, rising.0, rising.1)))
      (later xs x.next x.next (omega arith) rising.2),
)

module _ (depth : ℕ → ℕ) where
  complete_from : (xs : List Placed) (place : ℕ) (table : Table) → Rising place xs
      → AllByRecursion (LiesInside (length table)) xs → Agrees depth table
      → AllByRecursion (λ x. takes x.instruction ≤ depth x.place) xs
      → AllByRecursion (λ x. depth x.place ≤ 128) xs
      → AllByRecursion (λ x. AllByRecursion (λ w. depth w.to ≡ depth x.place - takes x.instruction
      + w.leaves) (ways x)) xs
      → AllByRecursion (λ x. AllByRecursion (λ w. depth w.to ≤ 128) (ways x)) xs
      → AllByRecursion (λ x. known table x.place ≡ None → IsFresh xs x.place → depth x.place ≡ 0) xs
      → (final : Table) × (visit_all table xs ≡ Some final)
  unfolding visit_all
  complete_from [] place table rising inside agrees enough bounded agree ways_small fresh =
      (table, refl)
  complete_from (x ∷ xs) place table rising inside agrees enough bounded agree ways_small fresh =
      let n = depth_in table x.place in
      let is : depth x.place ≡ n = number_is (known table x.place) (depth x.place)
      (λ none. fresh.0 none (first_is_fresh x xs place rising)) (λ d k. agrees x.place d k) in
      let enough' : takes x.instruction ≤ n = omega (arith, is, enough.0) in
      let small' : n ≤ 128 = omega (arith, is, bounded.0) in
      let agree' : AllByRecursion (λ w. depth w.to ≡ n - takes x.instruction + w.leaves) (ways x) =
      subst (λ (m : ℕ). AllByRecursion (λ w. depth w.to ≡ m - takes x.instruction + w.leaves)
      (ways x)) is agree.0 in
      let first = visit_at_succeeds depth table x n inside.0 agrees is enough' small' agree'
      ways_small.0 in
      let v = visit_visits table x first.0 inside.0 first.1 in
      let inside' : AllByRecursion (LiesInside (length first.0)) xs =
      rw v.extends.same_length inside.1 in
      let fresh' = each_two {R = λ z. known first.0 z.place ≡ None → IsFresh xs z.place
      → depth z.place ≡ 0} xs
      (λ z above old none is_fresh. old (none_before table first.0 z.place (known table z.place)
      refl v.extends none) ((λ _. not_led table x n first.0 z.place v none), is_fresh))
      (later xs x.next x.next (omega arith) rising.2) fresh.1 in
      let others = complete_from xs x.next first.0 rising.2 inside' first.2 enough.1 bounded.1
      agree.1 ways_small.1 fresh' in
      (others.0, rw first.1 others.1)

pub complete : (xs : List Placed) (n : ℕ) → Rising 0 xs → AllByRecursion (LiesInside n) xs
    → ((depth : ℕ → ℕ) → AllByRecursion (λ x. depth x.place ≤ 128) xs
    → AllByRecursion (λ x. AllByRecursion (λ w. depth w.to ≤ 128) (ways x)) xs)
    → HasDepths xs → (final : Table) × (visit_all (replicate n None) xs ≡ Some final)
complete xs n rising inside landing h =
    let size : length (replicate n None) ≡ n = length-replicate {A = Option ℕ} n None in
    let inside' : AllByRecursion (LiesInside (length (replicate {A = Option ℕ} n None))) xs =
    rw size inside in
    let depth = h.0 in
    let d = h.1 in
    complete_from depth xs 0 (replicate n None) rising inside' (λ q k e. let no : None
    ≡ Some k = sym (known_none n q) ∙ e in absurd cc) d.enough d.bounded d.agree
    (landing depth d.bounded) (each xs (λ x f none is_fresh. f is_fresh) d.fresh)

-- ---- the pass in parts, as the code makes it

append_after : (o : Option Table) (rest : ℕ) (ws ys : List Way)
    → ((t : Table) → enter_ways t rest (ws ++ ys)
    ≡ (enter_ways t rest ws >>= λ u. enter_ways u rest ys))
    → (o >>= λ t. enter_ways t rest (ws ++ ys))
    ≡ ((o >>= λ t. enter_ways t rest ws) >>= λ u. enter_ways u rest ys)
append_after None rest ws ys h = refl
append_after (Some t) rest ws ys h = h t

enter_ways_append : (table : Table) (rest : ℕ) (xs ys : List Way) → enter_ways table rest (xs ++ ys)
    ≡ (enter_ways table rest xs >>= λ t. enter_ways t rest ys)
unfolding enter_ways
enter_ways_append table rest [] ys = refl
enter_ways_append table rest (w ∷ ws) ys = append_after (enter table w.to (rest + w.leaves)) rest ws
    ys (λ t. enter_ways_append t rest ws ys)

pub visit_short : (table : Table) (x : Placed) (depth taken : ℕ) → taken ≡ takes x.instruction
    → depth < taken → None ≡ visit_at table x depth
unfolding visit_at
visit_short table x depth taken e lt =
    rw (lt-ltb depth (takes x.instruction) (omega (arith, e, lt))) refl

pub visit_is : (table : Table) (x : Placed) (depth taken : ℕ) (o j : Option Way)
    → taken ≡ takes x.instruction → taken ≤ depth → o ≡ onward x.instruction x.next
    → j ≡ jump x.instruction
    → visit_at table x depth
    ≡ (enter_ways (set table x.place (Some depth)) (depth - taken) (option_to_list o)
    >>= λ t. enter_ways t (depth - taken) (option_to_list j))
unfolding visit_at
visit_is table x depth taken o j e le eo ej =
    rw (eo, ej, e) (rw (le-ltb depth (takes x.instruction) (omega (arith, e, le)))
    (enter_ways_append (set table x.place (Some depth)) (depth - takes x.instruction)
    (option_to_list (onward x.instruction x.next)) (option_to_list (jump x.instruction))))
