-- Labels and conditionals that are spelled by tokens keep what trees keep, where their values do.
use Rattle.std.proofs.Common.{◌≡◌, ℕ, zero, suc, Bool, true, List, ◌∷◌, refl, ap, ◌∙◌, inl, inr}
use Rattle.std.specs.Prelude.{ℤ, pos, neg_ℤ}
use Rattle.edd_syntax.specs.declared.operators.Operator.TheVariants as operator
use Rattle.edd_syntax.specs.declared.symbols.Keyword.{Keyword}
use Rattle.edd_syntax.specs.declared.symbols.Keyword.TheVariants as word
use Rattle.edd_syntax.specs.declared.symbols.Symbol.{Symbol}
use Rattle.edd_syntax.specs.declared.symbols.Symbol.TheVariants as sign
use Rattle.edd_syntax.specs.Token.{Token, Reserved, Integer, Sign}
use Rattle.edd_syntax.specs.Reference.{Path}
use Rattle.edd_syntax.specs.Conditional as cond
use Rattle.edd_syntax.specs.Conditional.{Cond, Value, Select, Conds, Arms, NoArms, ConsArm, Case, Default}
use Rattle.edd_syntax.specs.WellFormed.{is_number, is_label, is_path, is_plain, is_cond, are_conds, are_arms, is_single, is_one, is_at_most_one, are_single_arms}
use Rattle.edd_syntax.specs.Grammar.{OptionalSign}
use Rattle.edd_syntax.specs.StatementGrammar.{LabelHere, CaseHere, OneHere, OnlyHere, ElseHere, SingleValueArmsHere, ListHere, ElementHere, ElseIfHere, ListArmsHere}
use Rattle.edd_grammar.specs.KeptTokens.{Kept}
use Rattle.edd_grammar.proofs.Branches.{Spelling}
use Rattle.edd_grammar.proofs.KeptExpressions.{Both, kept_next, kept_tail, kept_same, pure_condition_kept}

-- ---- labels

negative_label : (n : ℕ) → is_number n ≡ true → is_label (neg_ℤ (pos n)) ≡ true
negative_label zero e = e
negative_label (suc n) e = e

pub label_kept : (z : ℤ) (here rest : List Token) → LabelHere z here rest → Kept here
    → Both (is_label z) rest
label_kept z here rest (inl h) k =
    let number = kept_next (Integer h.0) here rest h.2 k in
    (ap is_label h.1 ∙ number.0, number.1)
label_kept z here rest (inr h) k =
    let minus = kept_next (Sign (sign.Operator operator.Subtract)) here (Integer h.0 ∷ rest) h.2
    k in
    let number = kept_next (Integer h.0) (Integer h.0 ∷ rest) rest refl minus.1 in
    (ap is_label h.1 ∙ negative_label h.0 number.0, number.1)

pub case_kept : (k : Keyword) (z : ℤ) (here rest : List Token) → CaseHere k z here rest → Kept here
    → Both (is_label z) rest
case_kept w z here rest h k =
    let label = label_kept z h.0 h.1 h.3 (kept_next (Reserved w) here h.0 h.2 k).1 in
    (label.0, (kept_next (Sign sign.Colon) h.1 rest h.4 label.1).1)

pub comma_kept : (s : Symbol) (here rest : List Token) → OptionalSign s here rest → Kept here
    → Kept rest
comma_kept s here rest (inl e) k = kept_same here rest e k
comma_kept s here rest (inr e) k = (kept_next (Sign s) here rest e k).1

default_kept : (here rest : List Token) → here ≡ Reserved word.Default ∷ Sign sign.Colon ∷ rest
    → Kept here → Kept rest
default_kept here rest e k =
    kept_tail (Sign sign.Colon) rest
    (kept_next (Reserved word.Default) here (Sign sign.Colon ∷ rest) e k).1

-- ---- a single value

module _ {V : Type 0} (Here : Spelling V) where
  mutual
    pub one_single : (x : Cond Path V) (here rest : List Token) → OneHere Here x here rest
        → is_single is_path is_plain x ≡ true
    one_single (Value v) here rest h = refl
    one_single (cond.If condition first otherwise) here rest h =
        rw (only_single first h.2 _ h.7, else_single otherwise h.3 rest h.8) refl
    one_single (Select on arms) here rest h = arms_single arms h.2 _ h.6

    only_single : (all : Conds Path V) (here rest : List Token) → OnlyHere Here all here rest
        → is_one is_path is_plain all ≡ true
    only_single cond.Nil here rest h = absurd h
    only_single (cond.Cons c cond.Nil) here rest h = one_single c here rest h
    only_single (cond.Cons c (cond.Cons d more)) here rest h = absurd h

    else_single : (all : Conds Path V) (here rest : List Token) → ElseHere Here all here rest
        → is_at_most_one is_path is_plain all ≡ true
    else_single cond.Nil here rest h = refl
    else_single (cond.Cons c cond.Nil) here rest (from, e, inl h) = one_single c h.0 _ h.2
    else_single (cond.Cons c cond.Nil) here rest (from, e, inr h) = one_single c from rest h.1
    else_single (cond.Cons c (cond.Cons d more)) here rest h = absurd h

    arms_single : (arms : Arms Path V) (here rest : List Token)
        → SingleValueArmsHere Here arms here rest
        → are_single_arms is_path is_plain arms ≡ true
    arms_single NoArms here rest h = refl
    arms_single (ConsArm (Case label body) arms) here rest h =
        rw (only_single body h.0 h.1 h.3, arms_single arms h.1 rest h.4) refl
    arms_single (ConsArm (Default body) arms) here rest h =
        rw (only_single body h.0 h.1 h.3, arms_single arms h.1 rest h.4) refl

-- what is asked of the values: a value that is spelled by tokens is good
abbrev pub KeepsValues : {V : Type 0} → Spelling V → (V → Bool) → Type 0
KeepsValues {V} Here of = (v : V) (here rest : List Token) → Here v here rest → Kept here
    → Both (of v) rest

module _ {V : Type 0} (Here : Spelling V) (of : V → Bool) (values : KeepsValues Here of) where
  mutual
    pub one_kept : (x : Cond Path V) (here rest : List Token) → OneHere Here x here rest → Kept here
        → Both (is_cond is_path is_plain of x) rest
    one_kept (Value v) here rest h k = let value =
        values v here _ h k in (value.0, kept_tail (Sign sign.Semicolon) rest value.1)
    one_kept (cond.If condition first otherwise) here rest h k =
        let test = pure_condition_kept condition h.0 h.1 h.5
        (kept_next (Reserved word.If) here h.0 h.4 k).1 in
        let inside = only_kept first h.2 _ h.7
        (kept_next (Sign sign.OpenBrace) h.1 h.2 h.6 test.1).1 in
        let others = else_kept otherwise h.3 rest h.8
        (kept_tail (Sign sign.CloseBrace) h.3 inside.1) in
        (rw (test.0, inside.0, others.0) refl, others.1)
    one_kept (Select on arms) here rest h k =
        let test = pure_condition_kept on h.0 h.1 h.4
        (kept_next (Reserved word.Select) here h.0 h.3 k).1 in
        let inside = one_arms_kept arms h.2 _ h.6
        (kept_next (Sign sign.OpenBrace) h.1 h.2 h.5 test.1).1 in
        (rw (test.0, inside.0) refl, kept_tail (Sign sign.CloseBrace) rest inside.1)

    only_kept : (all : Conds Path V) (here rest : List Token) → OnlyHere Here all here rest
        → Kept here → Both (are_conds is_path is_plain of all) rest
    only_kept cond.Nil here rest h k = absurd h
    only_kept (cond.Cons c cond.Nil) here rest h k = let one =
        one_kept c here rest h k in (rw one.0 refl, one.1)
    only_kept (cond.Cons c (cond.Cons d more)) here rest h k = absurd h

    else_kept : (all : Conds Path V) (here rest : List Token) → ElseHere Here all here rest
        → Kept here → Both (are_conds is_path is_plain of all) rest
    else_kept cond.Nil here rest h k = (refl, kept_same here rest h.0 k)
    else_kept (cond.Cons c cond.Nil) here rest (from, e, inl h) k =
        let one = one_kept c h.0 _ h.2
        (kept_next (Sign sign.OpenBrace) from h.0 h.1
        (kept_next (Reserved word.Else) here from e k).1).1 in
        (rw one.0 refl, kept_tail (Sign sign.CloseBrace) rest one.1)
    else_kept (cond.Cons c cond.Nil) here rest (from, e, inr h) k =
        let one = one_kept c from rest h.1 (kept_next (Reserved word.Else) here from e k).1 in
        (rw one.0 refl, one.1)
    else_kept (cond.Cons c (cond.Cons d more)) here rest h k = absurd h

    one_arms_kept : (arms : Arms Path V) (here rest : List Token)
        → SingleValueArmsHere Here arms here rest
        → Kept here → Both (are_arms is_path is_plain of arms) rest
    one_arms_kept NoArms here rest h k = (refl, kept_same here rest h k)
    one_arms_kept (ConsArm (Case label body) arms) here rest h k =
        let first = case_kept word.Case label here h.0 h.2 k in
        let inside = only_kept body h.0 h.1 h.3 first.1 in
        let more = one_arms_kept arms h.1 rest h.4 inside.1 in
        (rw (first.0, inside.0, more.0) refl, more.1)
    one_arms_kept (ConsArm (Default body) arms) here rest h k =
        let inside = only_kept body h.0 h.1 h.3 (default_kept here h.0 h.2 k) in
        let more = one_arms_kept arms h.1 rest h.4 inside.1 in
        (rw (inside.0, more.0) refl, more.1)

  -- ---- a list

  mutual
    pub list_kept : (all : Conds Path V) (here rest : List Token) → ListHere Here all here rest
        → Kept here → Both (are_conds is_path is_plain of all) rest
    list_kept cond.Nil here rest h k = (refl, kept_same here rest h k)
    list_kept (cond.Cons c more) here rest h k =
        let first = element_kept c here h.0 h.2 k in
        let others = list_kept more h.1 rest h.4 (comma_kept sign.Comma h.0 h.1 h.3 first.1) in
        (rw (first.0, others.0) refl, others.1)

    pub element_kept : (x : Cond Path V) (here rest : List Token) → ElementHere Here x here rest
        → Kept here → Both (is_cond is_path is_plain of x) rest
    element_kept (Value v) here rest h k = values v here rest h k
    element_kept (cond.If condition first otherwise) here rest (
      test,
      brace,
      inside,
      behind,
      w,
      c,
      b,
      f,
      o,
    ) k =
        let a = pure_condition_kept condition test brace c
        (kept_next (Reserved word.If) here test w k).1 in
        let d = list_kept first inside _ f (kept_next (Sign sign.OpenBrace) brace inside b a.1).1 in
        let from = kept_tail (Sign sign.CloseBrace) behind d.1 in
        let others : Both (are_conds is_path is_plain of otherwise) rest =
        elim o as (λ o. Both (are_conds is_path is_plain of otherwise) rest) [
          | inl n ↦ (ap (are_conds is_path is_plain of) n.0, kept_same behind rest n.1.0 from)
          | inr (inl m) ↦
              let e = list_kept otherwise m.1 _ m.4
              (kept_next (Sign sign.OpenBrace) m.0 m.1 m.3
              (kept_next (Reserved word.Else) behind m.0 m.2 from).1).1 in
              (e.0, kept_tail (Sign sign.CloseBrace) rest e.1)
          | inr (inr m) ↦ else_if_kept otherwise m.0 rest m.2
              (kept_next (Reserved word.Else) behind m.0 m.1 from).1
        ] in
        (rw (a.0, d.0, others.0) refl, others.1)
    element_kept (Select on arms) here rest h k =
        let test = pure_condition_kept on h.0 h.1 h.4
        (kept_next (Reserved word.Select) here h.0 h.3 k).1 in
        let inside = list_arms_kept arms h.2 _ h.6
        (kept_next (Sign sign.OpenBrace) h.1 h.2 h.5 test.1).1 in
        (rw (test.0, inside.0) refl, kept_tail (Sign sign.CloseBrace) rest inside.1)

    else_if_kept : (all : Conds Path V) (here rest : List Token) → ElseIfHere Here all here rest
        → Kept here → Both (are_conds is_path is_plain of all) rest
    else_if_kept cond.Nil here rest h k = absurd h
    else_if_kept (cond.Cons c cond.Nil) here rest h k = let one =
        element_kept c here rest h.1 k in (rw one.0 refl, one.1)
    else_if_kept (cond.Cons c (cond.Cons d more)) here rest h k = absurd h

    list_arms_kept : (arms : Arms Path V) (here rest : List Token)
        → ListArmsHere Here arms here rest → Kept here
        → Both (are_arms is_path is_plain of arms) rest
    list_arms_kept NoArms here rest h k = (refl, kept_same here rest h k)
    list_arms_kept (ConsArm (Case label body) arms) here rest h k =
        let first = case_kept word.Case label here h.0 h.2 k in
        let inside = list_kept body h.0 h.1 h.3 first.1 in
        let more = list_arms_kept arms h.1 rest h.4 inside.1 in
        (rw (first.0, inside.0, more.0) refl, more.1)
    list_arms_kept (ConsArm (Default body) arms) here rest h k =
        let inside = list_kept body h.0 h.1 h.3 (default_kept here h.0 h.2 k) in
        let more = list_arms_kept arms h.1 rest h.4 inside.1 in
        (rw (inside.0, more.0) refl, more.1)
