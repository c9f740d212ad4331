-- A single conditional value: what is read is spelled, and what is spelled is read.
use Rattle.std.proofs.Common.{◌≡◌, ℕ, zero, suc, ◌≤◌, ◌<◌, max, true, List, ◌∷◌, length, Some, refl, sym, ap, subst, ◌∙◌, inl, inr, arith}
use Rattle.std.proofs.lemmas.Option.{some_pair_parts}
use Rattle.edd_syntax.specs.declared.symbols.Keyword.TheVariants as word
use Rattle.edd_syntax.specs.declared.symbols.Symbol.TheVariants as sign
use Rattle.edd_syntax.specs.Token.{Token, Sign}
use Rattle.edd_syntax.specs.Reference.{Path}
use Rattle.edd_syntax.specs.Conditional as cond
use Rattle.edd_syntax.specs.Conditional.{Cond, Value, Select, Conds, Arms, NoArms, ConsArm, Case, Default}
use Rattle.edd_syntax.specs.Grammar.{InAttribute}
use Rattle.edd_syntax.specs.StatementGrammar.{IsIf, OneHere, OnlyHere, ElseHere, SingleValueArmsHere}
use Rattle.edd_syntax.specs.Size.{cond_height, conds_height}
use Rattle.edd_grammar.specs.Reading.{Read, expect, at_word}
use Rattle.edd_grammar.specs.ConditionalReading.{ended, only, one_at}
use Rattle.edd_grammar.specs.Following.{SingleValue, EndsBranch}
use Rattle.edd_grammar.proofs.Steps.{bind_some, as_read, expect_is, expect_again}
use Rattle.edd_grammar.proofs.Labels.{label_shorter, condition_shorter}
use Rattle.edd_grammar.proofs.Branches.{Spelling, ElseOf, ArmsOf, CondOf, SoundOf, cond_sound, reads_if}
use Rattle.edd_grammar.proofs.BranchesAgain.{CondFollows, ReadsIf, cond_again}

module _ {V : Type 0} (Here : Spelling V) where
  -- a value and its semicolon
  abbrev pub Ended : Spelling V
  Ended v here rest = Here v here (Sign sign.Semicolon ∷ rest)

  -- the IF after an ELSE
  abbrev pub IfAgain : Spelling (Conds Path V)
  IfAgain cond.Nil here rest = ⊥
  IfAgain (cond.Cons c cond.Nil) here rest = IsIf c × OneHere Here c here rest
  IfAgain (cond.Cons c (cond.Cons d more)) here rest = ⊥

  arms_one : (arms : Arms Path V) (here rest : List Token) → ArmsOf (OnlyHere Here) arms here rest
      → SingleValueArmsHere Here arms here rest
  arms_one NoArms here rest h = h
  arms_one (ConsArm (Case label body) arms) here rest h =
      (h.0, h.1, h.2, h.3, arms_one arms h.1 rest h.4)
  arms_one (ConsArm (Default body) arms) here rest h =
      (h.0, h.1, h.2, h.3, arms_one arms h.1 rest h.4)

  one_arms : (arms : Arms Path V) (here rest : List Token) → SingleValueArmsHere Here arms here rest
      → ArmsOf (OnlyHere Here) arms here rest
  one_arms NoArms here rest h = h
  one_arms (ConsArm (Case label body) arms) here rest h =
      (h.0, h.1, h.2, h.3, one_arms arms h.1 rest h.4)
  one_arms (ConsArm (Default body) arms) here rest h =
      (h.0, h.1, h.2, h.3, one_arms arms h.1 rest h.4)

  else_one : (otherwise : Conds Path V) (here rest : List Token)
      → ElseOf (OnlyHere Here) IfAgain otherwise here rest → ElseHere Here otherwise here rest
  else_one otherwise here rest (inl h) = rw h.0 h.1
  else_one cond.Nil here rest (inr (inl h)) = absurd h.4
  else_one (cond.Cons c cond.Nil) here rest (inr (inl h)) = (h.0, h.2, inl (h.1, h.3, h.4))
  else_one (cond.Cons c (cond.Cons d more)) here rest (inr (inl h)) = absurd h.4
  else_one cond.Nil here rest (inr (inr h)) = absurd h.2
  else_one (cond.Cons c cond.Nil) here rest (inr (inr h)) = (h.0, h.1, inr h.2)
  else_one (cond.Cons c (cond.Cons d more)) here rest (inr (inr h)) = absurd h.2

  one_else : (otherwise : Conds Path V) (here rest : List Token) → ElseHere Here otherwise here rest
      → ElseOf (OnlyHere Here) IfAgain otherwise here rest
  one_else cond.Nil here rest h = inl (refl, h)
  one_else (cond.Cons c cond.Nil) here rest (from, e, inl h) = inr (inl (from, h.0, e, h.1, h.2))
  one_else (cond.Cons c cond.Nil) here rest (from, e, inr h) = inr (inr (from, e, h))
  one_else (cond.Cons c (cond.Cons d more)) here rest h = absurd h

  of_one : (x : Cond Path V) (here rest : List Token)
      → CondOf (OnlyHere Here) Ended IfAgain x here rest → OneHere Here x here rest
  of_one (Value v) here rest h = h
  of_one (cond.If condition first otherwise) here rest h =
      (h.0, h.1, h.2, h.3, h.4, h.5, h.6, h.7, else_one otherwise h.3 rest h.8)
  of_one (Select on arms) here rest h = (h.0, h.1, h.2, h.3, h.4, h.5, arms_one arms h.2 _ h.6)

  one_of : (x : Cond Path V) (here rest : List Token) → OneHere Here x here rest
      → CondOf (OnlyHere Here) Ended IfAgain x here rest
  one_of (Value v) here rest h = h
  one_of (cond.If condition first otherwise) here rest h =
      (h.0, h.1, h.2, h.3, h.4, h.5, h.6, h.7, one_else otherwise h.3 rest h.8)
  one_of (Select on arms) here rest h = (h.0, h.1, h.2, h.3, h.4, h.5, one_arms arms h.2 _ h.6)

module _ {V : Type 0} (of : V → ℕ) (Here : Spelling V) (value : ℕ → List Token → Read V) where
  module _ (sound : (height_left : ℕ) → SoundOf Here of height_left (value height_left)) where
    ended_sound : (height_left : ℕ)
        → SoundOf (Ended Here) of height_left (ended (value height_left))
    unfolding ended
    ended_sound height_left here v rest e =
        let a = bind_some (value height_left here) _ (v, rest) e in
        let b = bind_some (expect sign.Semicolon a.0.1) _ (v, rest) a.2 in
        let s = sound height_left here a.0.0 a.0.1 a.1 in
        as_read (λ v r. Ended Here v here r × (of v ≤ height_left)) _ v _ rest b.2
        (subst (λ t. Here a.0.0 here t) (expect_is sign.Semicolon a.0.1 b.0 b.1) s.0, s.1)

    only_sound : (height_left : ℕ) (inner : List Token → Read (Cond Path V))
        → SoundOf (OneHere Here) (cond_height of) height_left inner
        → SoundOf (OnlyHere Here) (conds_height of) height_left (only inner)
    unfolding only
    only_sound height_left inner s here all rest e =
        let a = bind_some (inner here) _ (all, rest) e in
        let t = s here a.0.0 a.0.1 a.1 in
        as_read (λ all r. OnlyHere Here all here r × (conds_height of all ≤ height_left)) _ all _
        rest a.2 (t.0, omega (arith, t.1))

    -- a single value that is read, and whether it is an IF
    record Stands (height_left : ℕ) (here : List Token) (x : Cond Path V) (rest : List Token) : Type
        0 where
      pub spelled : OneHere Here x here rest
      pub low : cond_height of x ≤ height_left
      pub if : at_word word.If here ≡ true → IsIf x

    stands : (height_left : ℕ) (here : List Token) (x : Cond Path V) (rest : List Token)
        → one_at value height_left here ≡ Some (x, rest) → Stands height_left here x rest
    unfolding one_at
    stands zero here x rest e = absurd cc
    stands (suc height_left) here x rest e =
        let branches : SoundOf (OnlyHere Here) (conds_height of) height_left
        (only (one_at value height_left)) =
        only_sound height_left (one_at value height_left)
        (λ here c rest e. let s = stands height_left here c rest e in (s.spelled, s.low)) in
        let again : (here : List Token) (c : Cond Path V) (rest : List Token)
        → at_word word.If here ≡ true → one_at value height_left here ≡ Some (c, rest)
        → IfAgain Here (cond.Cons c cond.Nil) here rest × (cond_height of c ≤ height_left) =
        λ here c rest t e. let s = stands height_left here c rest e in ((s.if t, s.spelled), s.low)
        in
        let s = cond_sound of (Ended Here) (OnlyHere Here) (IfAgain Here) height_left
        (ended (value height_left)) (only (one_at value height_left)) (one_at value height_left)
        (ended_sound height_left) branches again here x rest e in
        record {
          spelled = of_one Here x here rest s.0;
          low = s.1;
          if = λ t. reads_if of (Ended Here) (OnlyHere Here) (IfAgain Here) height_left
              (ended (value height_left)) (only (one_at value height_left))
              (one_at value height_left) (ended_sound height_left) branches again here x rest t e;
        }

    pub one_sound : (height_left : ℕ) → SoundOf (OneHere Here) (cond_height of) height_left
        (one_at value height_left)
    one_sound height_left here x rest e = let s =
        stands height_left here x rest e in (s.spelled, s.low)

  module _ (values : SingleValue of Here value) where
    mutual
      pub one_shorter : (x : Cond Path V) (here rest : List Token) → OneHere Here x here rest
          → length rest < length here
      one_shorter (Value v) here rest h = omega (arith, values.shorter v here _ h)
      one_shorter (cond.If condition first otherwise) here rest h =
          omega (
            arith,
            ap length h.4,
            condition_shorter InAttribute condition h.0 h.1 h.5,
            ap length h.6,
            only_shorter first h.2 _ h.7,
            else_shorter otherwise h.3 rest h.8,
          )
      one_shorter (Select on arms) here rest h =
          omega (
            arith,
            ap length h.3,
            condition_shorter InAttribute on h.0 h.1 h.4,
            ap length h.5,
            arms_shorter arms h.2 _ h.6,
          )

      only_shorter : (all : Conds Path V) (here rest : List Token) → OnlyHere Here all here rest
          → length rest ≤ length here
      only_shorter cond.Nil here rest h = absurd h
      only_shorter (cond.Cons c cond.Nil) here rest h = omega (arith, one_shorter c here rest h)
      only_shorter (cond.Cons c (cond.Cons d more)) here rest h = absurd h

      else_shorter : (all : Conds Path V) (here rest : List Token) → ElseHere Here all here rest
          → length rest ≤ length here
      else_shorter cond.Nil here rest h = omega (arith, ap length h.0)
      else_shorter (cond.Cons c cond.Nil) here rest (from, e, inl h) =
          omega (arith, ap length e, ap length h.1, one_shorter c h.0 _ h.2)
      else_shorter (cond.Cons c cond.Nil) here rest (from, e, inr h) =
          omega (arith, ap length e, one_shorter c from rest h.1)
      else_shorter (cond.Cons c (cond.Cons d more)) here rest h = absurd h

      arms_shorter : (arms : Arms Path V) (here rest : List Token)
          → SingleValueArmsHere Here arms here rest
          → length rest ≤ length here
      arms_shorter NoArms here rest h = omega (arith, ap length h)
      arms_shorter (ConsArm (Case label body) arms) here rest h =
          omega (
            arith,
            ap length h.2.2,
            label_shorter label h.2.0 h.2.1 h.2.3,
            ap length h.2.4,
            only_shorter body h.0 h.1 h.3,
            arms_shorter arms h.1 rest h.4,
          )
      arms_shorter (ConsArm (Default body) arms) here rest h =
          omega (
            arith,
            ap length h.2,
            only_shorter body h.0 h.1 h.3,
            arms_shorter arms h.1 rest
                h.4,
          )

    ended_again : (height_left : ℕ) (v : V) (here rest : List Token) → Ended Here v here rest
        → of v ≤ height_left → Unit {0} → ended (value height_left) here ≡ Some (v, rest)
    unfolding ended
    ended_again height_left v here rest h low f =
        rw (values.again height_left v here rest h low, expect_again sign.Semicolon rest) refl

    abbrev Complete : ℕ → (List Token → Read (Cond Path V)) → Type 0
    Complete height_left inner = (x : Cond Path V) (here rest : List Token)
        → OneHere Here x here rest → cond_height of x ≤ height_left → inner here ≡ Some (x, rest)

    only_again : (height_left : ℕ) (inner : List Token → Read (Cond Path V))
        → Complete height_left inner
        → (all : Conds Path V) (here rest : List Token) → OnlyHere Here all here rest
        → conds_height of all ≤ height_left → EndsBranch rest
        → only inner here ≡ Some (all, rest)
    unfolding only
    only_again height_left inner c cond.Nil here rest h low f = absurd h
    only_again height_left inner c (cond.Cons x cond.Nil) here rest h low f =
        rw (c x here rest h (omega arith)) refl
    only_again height_left inner c (cond.Cons x (cond.Cons d more)) here rest h low f = absurd h

    begins_if : (c : Cond Path V) (here rest : List Token) → IsIf c → OneHere Here c here rest
        → at_word word.If here ≡ true
    begins_if (cond.If condition first otherwise) here rest i h = ap (at_word word.If) h.4
    begins_if _ here rest i h = absurd i

    again_again : (height_left : ℕ) (inner : List Token → Read (Cond Path V))
        → Complete height_left inner
        → (otherwise : Conds Path V) (here rest : List Token) → IfAgain Here otherwise here rest
        → conds_height of otherwise ≤ height_left → ReadsIf inner otherwise here rest
    again_again height_left inner c cond.Nil here rest h low = absurd h
    again_again height_left inner c (cond.Cons x cond.Nil) here rest h low =
        record {
          only = x;
          is_one = refl;
          is_if = begins_if x here rest h.0 h.1;
          again = c x here rest h.1 (omega arith);
        }
    again_again height_left inner c (cond.Cons x (cond.Cons d more)) here rest h low = absurd h

    some_height : (x : Cond Path V) → 0 < cond_height of x
    some_height (Value v) = omega arith
    some_height _ = omega arith

    follows : (x : Cond Path V) (rest : List Token) → CondFollows (λ t. Unit {0}) x rest
    follows (Value v) rest = tt
    follows _ rest = tt

    pub one_again : (height_left : ℕ) → Complete height_left (one_at value height_left)
    unfolding one_at
    one_again zero x here rest h low = absurd (let some = some_height x in omega arith)
    one_again (suc height_left) x here rest h low =
        cond_again of (Ended Here) (OnlyHere Here) (IfAgain Here) (λ t. Unit {0}) height_left
        (ended (value height_left)) (only (one_at value height_left)) (one_at value height_left)
        (ended_again height_left) (λ v here rest h. values.starts v here _ h)
        (only_again height_left (one_at value height_left) (one_again height_left)) only_shorter
        (again_again height_left (one_at value height_left) (one_again height_left)) x here rest
        (one_of Here x here rest h) low (follows x rest)

    pub one_unique : (x y : Cond Path V) (here rest behind : List Token) → OneHere Here x here rest
        → OneHere Here y here behind → (x ≡ y) × (rest ≡ behind)
    one_unique x y here rest behind h k =
        let height_left = max (cond_height of x) (cond_height of y) in
        some_pair_parts x y rest behind (sym (one_again height_left x here rest h (omega arith))
        ∙ one_again height_left y here behind k (omega arith))
