-- Lists of conditionals: what is read is spelled, and what is spelled is read.
use Rattle.std.proofs.Common.{◌≡◌, ℕ, zero, suc, ◌≤◌, true, List, ◌∷◌, drop, length, Some, refl, ap, ◌∙◌, inl, inr, arith}
use Rattle.edd_syntax.specs.declared.symbols.Keyword.TheVariants as word
use Rattle.edd_syntax.specs.declared.symbols.Symbol.TheVariants as sign
use Rattle.edd_syntax.specs.Token.{Token, Sign}
use Rattle.edd_syntax.specs.Reference.{Path}
use Rattle.edd_syntax.specs.Conditional as cond
use Rattle.edd_syntax.specs.Conditional.{Cond, Select, Arms, NoArms, ConsArm, Case, Default}
use Rattle.edd_syntax.specs.Grammar.{OptionalSign}
use Rattle.edd_syntax.specs.StatementGrammar.{IsIf, ListHere, ElementHere, ElseIfHere, ListArmsHere}
use Rattle.edd_syntax.specs.Size.{cond_height, conds_height}
use Rattle.edd_grammar.specs.Reading.{Read, at, at_word}
use Rattle.edd_grammar.specs.ConditionalReading.{list_ends, skip_comma, elements_at, listed, element_at, list_at}
use Rattle.edd_grammar.proofs.Steps.{bind_some, as_read, chosen, at_is}
use Rattle.edd_grammar.proofs.Branches.{Spelling, ArmsOf, CondOf, SoundOf, cond_sound, reads_if}

module _ {V : Type 0} (Here : Spelling V) where
  arms_list : (arms : Arms Path V) (here rest : List Token) → ArmsOf (ListHere Here) arms here rest
      → ListArmsHere Here arms here rest
  arms_list NoArms here rest h = h
  arms_list (ConsArm (Case label body) arms) here rest h =
      (h.0, h.1, h.2, h.3, arms_list arms h.1 rest h.4)
  arms_list (ConsArm (Default body) arms) here rest h =
      (h.0, h.1, h.2, h.3, arms_list arms h.1 rest h.4)

  list_arms : (arms : Arms Path V) (here rest : List Token) → ListArmsHere Here arms here rest
      → ArmsOf (ListHere Here) arms here rest
  list_arms NoArms here rest h = h
  list_arms (ConsArm (Case label body) arms) here rest h =
      (h.0, h.1, h.2, h.3, list_arms arms h.1 rest h.4)
  list_arms (ConsArm (Default body) arms) here rest h =
      (h.0, h.1, h.2, h.3, list_arms arms h.1 rest h.4)

  of_element : (x : Cond Path V) (here rest : List Token)
      → CondOf (ListHere Here) Here (ElseIfHere Here) x here rest → ElementHere Here x here rest
  of_element (Select on arms) here rest h = (h.0, h.1, h.2, h.3, h.4, h.5, arms_list arms h.2 _ h.6)
  of_element _ here rest h = h

  pub element_of : (x : Cond Path V) (here rest : List Token) → ElementHere Here x here rest
      → CondOf (ListHere Here) Here (ElseIfHere Here) x here rest
  element_of (Select on arms) here rest h = (h.0, h.1, h.2, h.3, h.4, h.5, list_arms arms h.2 _ h.6)
  element_of _ here rest h = h

pub skip_sound : (here : List Token) → OptionalSign sign.Comma here (skip_comma here)
skip_sound here =
    elim (chosen (at sign.Comma here) (drop 1 here) here _ refl) [
      | inl (t, e) ↦ inr (at_is sign.Comma here t ∙ ap (λ r. Sign sign.Comma ∷ r) e)
      | inr (_, e) ↦ inl e
    ]

module _ {V : Type 0} (of : V → ℕ) (Here : Spelling V) (value : ℕ → List Token → Read V) where
  module _ (sound : (height_left : ℕ) → SoundOf Here of height_left (value height_left)) where
    elements_sound : (height_left : ℕ) (inner : List Token → Read (Cond Path V))
        → SoundOf (ElementHere Here) (cond_height of) height_left inner
        → (n : ℕ) → SoundOf (ListHere Here) (conds_height of) height_left (elements_at inner n)
    unfolding elements_at
    elements_sound height_left inner s zero here all rest e = absurd cc
    elements_sound height_left inner s (suc n) here all rest e =
        elim (chosen (list_ends here) _ _ _ e) [
          | inl (_, y) ↦ as_read (λ all r. ListHere Here all here r
              × (conds_height of all ≤ height_left)) cond.Nil all here rest y (refl, omega arith)
          | inr (_, y) ↦
              let a = bind_some (inner here) _ (all, rest) y in
              let m = bind_some (elements_at inner n (skip_comma a.0.1)) _ (all, rest) a.2 in
              let first = s here a.0.0 a.0.1 a.1 in
              let more = elements_sound height_left inner s n (skip_comma a.0.1) m.0.0 m.0.1 m.1 in
              as_read (λ all r. ListHere Here all here r × (conds_height of all ≤ height_left)) _
              all _ rest m.2 (
                (a.0.1, skip_comma a.0.1, first.0, skip_sound a.0.1, more.0),
                omega (arith, first.1, more.1),
              )
        ]

    listed_sound : (height_left : ℕ) (inner : List Token → Read (Cond Path V))
        → SoundOf (ElementHere Here) (cond_height of) height_left inner
        → SoundOf (ListHere Here) (conds_height of) height_left (listed inner)
    unfolding listed
    listed_sound height_left inner s here all rest e = elements_sound height_left inner s
        (suc (length here)) here all rest e

    -- an element that is read, and whether it is an IF
    record Stands (height_left : ℕ) (here : List Token) (x : Cond Path V) (rest : List Token) : Type
        0 where
      pub spelled : ElementHere Here x here rest
      pub low : cond_height of x ≤ height_left
      pub if : at_word word.If here ≡ true → IsIf x

    stands : (height_left : ℕ) (here : List Token) (x : Cond Path V) (rest : List Token)
        → element_at value height_left here ≡ Some (x, rest) → Stands height_left here x rest
    unfolding element_at
    stands zero here x rest e = absurd cc
    stands (suc height_left) here x rest e =
        let branches : SoundOf (ListHere Here) (conds_height of) height_left
        (listed (element_at value height_left)) =
        listed_sound height_left (element_at value height_left)
        (λ here c rest e. let s = stands height_left here c rest e in (s.spelled, s.low)) in
        let again : (here : List Token) (c : Cond Path V) (rest : List Token)
        → at_word word.If here ≡ true → element_at value height_left here ≡ Some (c, rest)
        → ElseIfHere Here (cond.Cons c cond.Nil) here rest × (cond_height of c ≤ height_left) =
        λ here c rest t e. let s = stands height_left here c rest e in ((s.if t, s.spelled), s.low)
        in
        let s = cond_sound of Here (ListHere Here) (ElseIfHere Here) height_left (value height_left)
        (listed (element_at value height_left)) (element_at value height_left)
        (sound height_left) branches again here x rest e in
        record {
          spelled = of_element Here x here rest s.0;
          low = s.1;
          if = λ t. reads_if of Here (ListHere Here) (ElseIfHere Here) height_left
              (value height_left) (listed (element_at value height_left))
              (element_at value height_left) (sound height_left) branches again here x rest t e;
        }

    pub list_sound : (height_left : ℕ) → SoundOf (ListHere Here) (conds_height of) height_left
        (list_at value height_left)
    unfolding list_at
    list_sound height_left here all rest e =
        listed_sound height_left (element_at value height_left)
        (λ here c rest e. let s = stands height_left here c rest e in (s.spelled, s.low)) here
        all rest e

    pub element_sound : (height_left : ℕ) → SoundOf (ElementHere Here) (cond_height of) height_left
        (element_at value height_left)
    element_sound height_left here x rest e = let s =
        stands height_left here x rest e in (s.spelled, s.low)
