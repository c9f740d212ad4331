-- Lists of conditionals are read as they are spelled.
use Rattle.std.proofs.Common.{◌≡◌, ℕ, zero, suc, ◌≤◌, ◌<◌, max, true, false, List, length, Some, refl, sym, ap, subst, ◌∙◌, inl, inr, arith}
use Rattle.std.proofs.lemmas.Option.{some_pair_parts}
use Rattle.edd_syntax.specs.declared.symbols.Keyword.TheVariants as word
use Rattle.edd_syntax.specs.declared.symbols.Symbol.TheVariants as sign
use Rattle.edd_syntax.specs.Token.{Token}
use Rattle.edd_syntax.specs.Reference.{Path}
use Rattle.edd_syntax.specs.Conditional as cond
use Rattle.edd_syntax.specs.Conditional.{Cond, Value, Select, Conds, Arms, NoArms, ConsArm, Case, Default}
use Rattle.edd_syntax.specs.Grammar.{InAttribute, OptionalSign}
use Rattle.edd_syntax.specs.StatementGrammar.{ListHere, ElementHere, ElseIfHere, ListArmsHere}
use Rattle.edd_syntax.specs.Size.{cond_height, conds_height}
use Rattle.edd_grammar.specs.Reading.{Read, at, at_word}
use Rattle.edd_grammar.specs.ConditionalReading.{list_ends, skip_comma, elements_at, listed, element_at, list_at}
use Rattle.edd_grammar.specs.Following.{ListedValue, EndsBranch}
use Rattle.edd_grammar.proofs.Steps.{at_is, at_word_is}
use Rattle.edd_grammar.proofs.Labels.{label_shorter, condition_shorter}
use Rattle.edd_grammar.proofs.Branches.{Spelling}
use Rattle.edd_grammar.proofs.BranchesAgain.{CondFollows, ReadsIf, cond_again}
use Rattle.edd_grammar.proofs.SoundLists.{element_of}

ends_is : (rest : List Token) → EndsBranch rest → list_ends rest ≡ true
ends_is rest (inl e) = rw e refl
ends_is rest (inr (inl e)) = rw (at_word_is word.Case rest e) refl
ends_is rest (inr (inr e)) = rw (at_word_is word.Default rest e) refl

ends_no_comma : (rest : List Token) → EndsBranch rest → at sign.Comma rest ≡ false
ends_no_comma rest (inl e) = ap (at sign.Comma) (at_is sign.CloseBrace rest e)
ends_no_comma rest (inr (inl e)) = ap (at sign.Comma) (at_word_is word.Case rest e)
ends_no_comma rest (inr (inr e)) = ap (at sign.Comma) (at_word_is word.Default rest e)

pub comma_shorter : (here rest : List Token) → OptionalSign sign.Comma here rest
    → length rest ≤ length here
comma_shorter here rest (inl h) = omega (arith, ap length h)
comma_shorter here rest (inr h) = omega (arith, ap length h)

module _ {V : Type 0} (of : V → ℕ) (Here : Spelling V) (Follows : List Token → Type 0) (value : ℕ
    → List Token → Read V) (values : ListedValue of Here Follows value) where
  mutual
    pub list_shorter : (all : Conds Path V) (here rest : List Token) → ListHere Here all here rest
        → length rest ≤ length here
    list_shorter cond.Nil here rest h = omega (arith, ap length h)
    list_shorter (cond.Cons c more) here rest h =
        omega (
          arith,
          element_shorter c here h.0 h.2,
          comma_shorter h.0 h.1 h.3,
          list_shorter more h.1 rest h.4,
        )

    pub element_shorter : (x : Cond Path V) (here rest : List Token) → ElementHere Here x here rest
        → length rest < length here
    element_shorter (Value v) here rest h = values.shorter v here rest h
    element_shorter (cond.If condition first otherwise) here rest h =
        omega (
          arith,
          ap length h.4,
          condition_shorter InAttribute condition h.0 h.1 h.5,
          ap length h.6,
          list_shorter first h.2 _ h.7,
          elim h.8 as (λ o. length rest ≤ length h.3) [
            | inl k ↦ omega (arith, ap length k.1.0)
            | inr (inl m) ↦ omega (
              arith,
              ap length m.2,
              ap length m.3,
              list_shorter otherwise m.1 _
                  m.4,
            )
            | inr (inr m) ↦ omega (arith, ap length m.1, else_if_shorter otherwise m.0 rest m.2)
          ],
        )
    element_shorter (Select on arms) here rest h =
        omega (
          arith,
          ap length h.3,
          condition_shorter InAttribute on h.0 h.1 h.4,
          ap length h.5,
          arms_shorter arms h.2 _ h.6,
        )

    else_if_shorter : (all : Conds Path V) (here rest : List Token) → ElseIfHere Here all here rest
        → length rest ≤ length here
    else_if_shorter cond.Nil here rest h = absurd h
    else_if_shorter (cond.Cons c cond.Nil) here rest h =
        omega (arith, element_shorter c here rest h.1)
    else_if_shorter (cond.Cons c (cond.Cons d more)) here rest h = absurd h

    arms_shorter : (arms : Arms Path V) (here rest : List Token) → ListArmsHere Here arms here rest
        → length rest ≤ length here
    arms_shorter NoArms here rest h = omega (arith, ap length h)
    arms_shorter (ConsArm (Case label body) arms) here rest h =
        omega (
          arith,
          ap length h.2.2,
          label_shorter label h.2.0 h.2.1 h.2.3,
          ap length h.2.4,
          list_shorter body h.0 h.1 h.3,
          arms_shorter arms h.1 rest h.4,
        )
    arms_shorter (ConsArm (Default body) arms) here rest h =
        omega (arith, ap length h.2, list_shorter body h.0 h.1 h.3, arms_shorter arms h.1 rest h.4)

  -- where an element begins, a list does not end, there is no comma, and a value before it ends
  pub element_begins : (x : Cond Path V) (here rest : List Token) → ElementHere Here x here rest
      → (list_ends here ≡ false) × ((at sign.Comma here ≡ false) × Follows here)
  element_begins (Value v) here rest h =
      (values.no_end v here rest h, (values.no_comma v here rest h, values.at_value v here rest h))
  element_begins (cond.If condition first otherwise) here rest h =
      (ap list_ends h.4, (ap (at sign.Comma) h.4, subst Follows (sym h.4) (values.at_if h.0)))
  element_begins (Select on arms) here rest h =
      (ap list_ends h.3, (ap (at sign.Comma) h.3, subst Follows (sym h.3) (values.at_select h.0)))

  -- the same where there are further elements or none before the end of the list
  list_begins : (all : Conds Path V) (here rest : List Token) → ListHere Here all here rest
      → EndsBranch rest → (at sign.Comma here ≡ false) × Follows here
  list_begins cond.Nil here rest h f = (
    ap (at sign.Comma) h ∙ ends_no_comma rest f,
    subst Follows (sym h) (values.at_end rest (ends_is rest f)),
  )
  list_begins (cond.Cons c more) here rest h f = (element_begins c here h.0 h.2).1

  behind_element : (more : Conds Path V) (behind from rest : List Token)
      → OptionalSign sign.Comma behind from → ListHere Here more from rest → EndsBranch rest
      → (skip_comma behind ≡ from) × Follows behind
  behind_element more behind from rest (inl h) m f = let b =
      list_begins more from rest m f in (ap skip_comma h ∙ rw (b.0) refl, subst Follows (sym h) b.1)
  behind_element more behind from rest (inr h) m f =
      (ap skip_comma h, subst Follows (sym h) (values.at_comma from))

  fits : (x : Cond Path V) (rest : List Token) → Follows rest → CondFollows Follows x rest
  fits (Value v) rest f = f
  fits _ rest f = tt

  abbrev pub Complete : ℕ → (List Token → Read (Cond Path V)) → Type 0
  Complete height_left inner = (x : Cond Path V) (here rest : List Token)
      → ElementHere Here x here rest → cond_height of x ≤ height_left → CondFollows Follows x rest
      → inner here ≡ Some (x, rest)

  elements_again : (height_left : ℕ) (inner : List Token → Read (Cond Path V))
      → Complete height_left inner
      → (n : ℕ) (all : Conds Path V) (here rest : List Token) → length here < n
      → ListHere Here all here rest → conds_height of all ≤ height_left → EndsBranch rest
      → elements_at inner n here ≡ Some (all, rest)
  unfolding elements_at
  elements_again height_left inner c zero all here rest lt h low f = absurd (omega arith)
  elements_again height_left inner c (suc n) cond.Nil here rest lt h low f =
      rw (h, ends_is rest f) refl
  elements_again height_left inner c (suc n) (cond.Cons x more) here rest lt h low f =
      let begins = element_begins x here h.0 h.2 in
      let behind = behind_element more h.0 h.1 rest h.3 h.4 f in
      let first = c x here h.0 h.2 (omega arith) (fits x h.0 behind.1) in
      let others = elements_again height_left inner c n more h.1 rest
      (let s = element_shorter x here h.0 h.2 in let t = comma_shorter h.0 h.1 h.3 in omega
      arith) h.4 (omega arith) f in
      rw (begins.0, first, behind.0, others) refl

  listed_again : (height_left : ℕ) (inner : List Token → Read (Cond Path V))
      → Complete height_left inner
      → (all : Conds Path V) (here rest : List Token) → ListHere Here all here rest
      → conds_height of all ≤ height_left → EndsBranch rest
      → listed inner here ≡ Some (all, rest)
  unfolding listed
  listed_again height_left inner c all here rest h low f = elements_again height_left inner c
      (suc (length here)) all here rest (omega arith) h low f

  else_if_again : (height_left : ℕ) (inner : List Token → Read (Cond Path V))
      → Complete height_left inner
      → (otherwise : Conds Path V) (here rest : List Token) → ElseIfHere Here otherwise here rest
      → conds_height of otherwise ≤ height_left → ReadsIf inner otherwise here rest
  else_if_again height_left inner c cond.Nil here rest h low = absurd h
  else_if_again height_left inner c (cond.Cons (cond.If condition first otherwise) cond.Nil) here
      rest h low =
      record {
        only = cond.If condition first otherwise;
        is_one = refl;
        is_if = ap (at_word word.If)
            h.1.4;
        again = c (cond.If condition first otherwise) here rest h.1 (omega arith) tt;
      }
  else_if_again height_left inner c (cond.Cons (Value v) cond.Nil) here rest h low = absurd h.0
  else_if_again height_left inner c (cond.Cons (Select on arms) cond.Nil) here rest h low =
      absurd h.0
  else_if_again height_left inner c (cond.Cons x (cond.Cons d more)) here rest h low = absurd h

  some_height : (x : Cond Path V) → 0 < cond_height of x
  some_height (Value v) = omega arith
  some_height _ = omega arith

  pub element_again : (height_left : ℕ) → Complete height_left (element_at value height_left)
  unfolding element_at
  element_again zero x here rest h low f = absurd (let some = some_height x in omega arith)
  element_again (suc height_left) x here rest h low f =
      cond_again of Here (ListHere Here) (ElseIfHere Here) Follows height_left (value height_left)
      (listed (element_at value height_left)) (element_at value height_left)
      (λ v here rest h low f. values.again height_left v here rest h low f) values.starts
      (listed_again height_left (element_at value height_left) (element_again height_left))
      list_shorter
      (else_if_again height_left (element_at value height_left) (element_again height_left)) x here
      rest (element_of Here x here rest h) low f

  pub list_again : (height_left : ℕ) (all : Conds Path V) (here rest : List Token)
      → ListHere Here all here rest → conds_height of all ≤ height_left → EndsBranch rest
      → list_at value height_left here ≡ Some (all, rest)
  unfolding list_at
  list_again height_left all here rest h low f =
      listed_again height_left (element_at value height_left) (element_again height_left) all here
      rest h low f

  pub list_unique : (all others : Conds Path V) (here rest behind : List Token)
      → ListHere Here all here rest → ListHere Here others here behind → EndsBranch rest
      → EndsBranch behind
      → (all ≡ others) × (rest ≡ behind)
  list_unique all others here rest behind h k f g =
      let height_left = max (conds_height of all) (conds_height of others) in
      some_pair_parts all others rest behind
      (sym (list_again height_left all here rest h (omega arith) f)
      ∙ list_again height_left others here behind k (omega arith) g)
