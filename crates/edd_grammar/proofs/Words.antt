-- Numbers and names that mean something in their places are read as they are spelled.
use Rattle.std.proofs.Common.{◌≡◌, ℕ, ◌≤◌, ◌<◌, Bool, true, false, List, [], ◌∷◌, drop, length, Option, Some, None, codes, refl, ap, ◌∙◌, inl, inr, ◌⊎◌, arith}
use Rattle.std.proofs.lemmas.Slice.Eq.{bytes_eq-Decides}
use Rattle.edd_syntax.specs.declared.types.Handling.{Handling}
use Rattle.edd_syntax.specs.declared.types.Handling.TheVariants as handling
use Rattle.edd_syntax.specs.declared.types.Operation.{Operation}
use Rattle.edd_syntax.specs.declared.types.Operation.TheVariants as operation
use Rattle.edd_syntax.specs.declared.operators.Operator.TheVariants as operator
use Rattle.edd_syntax.specs.declared.symbols.Keyword.TheVariants as word
use Rattle.edd_syntax.specs.declared.symbols.Symbol.TheVariants as sign
use Rattle.edd_syntax.specs.Text.{Name}
use Rattle.edd_syntax.specs.Token.{Token, Identifier, Integer, Sign}
use Rattle.edd_syntax.specs.Size.{leaf}
use Rattle.edd_syntax.specs.ItemGrammar.{HandlingHere, TruthHere, OperationHere, NumberHere}
use Rattle.edd_grammar.specs.Reading.{at, at_word}
use Rattle.edd_grammar.specs.WordReading.{integer_at, at_name, expect_name, number_at}
use Rattle.edd_grammar.specs.ValueReading.{handling_behind, handling_at, truth_at, operation_at, handling_value, truth_value}
use Rattle.edd_grammar.specs.Following.{SingleValue}
use Rattle.edd_grammar.proofs.Steps.{bind_some, guard_some, option_cases, as_read, at_is, at_word_is}
use Rattle.edd_grammar.proofs.Alternatives.{branch}
use Rattle.edd_grammar.proofs.Branches.{SoundOf}

-- ---- single tokens

pub integer_is : (here : List Token) (n : ℕ) (rest : List Token) → integer_at here ≡ Some (n, rest)
    → here ≡ Integer n ∷ rest
integer_is [] n rest e = absurd cc
integer_is (Integer m ∷ behind) n rest e = as_read (λ k t. Integer m ∷ behind ≡ Integer k ∷ t) m n
    behind rest e refl
integer_is (_ ∷ behind) n rest e = absurd cc

pub at_name_is : (name : Name) (here : List Token) → at_name name here ≡ true
    → here ≡ Identifier name ∷ drop 1 here
at_name_is name [] e = absurd cc
at_name_is name (Identifier m ∷ behind) e =
    ap (λ n. Identifier n ∷ behind) ((bytes_eq-Decides m name).0 e)
at_name_is name (_ ∷ behind) e = absurd cc

expect_name_is : (name : Name) (here rest : List Token) → expect_name name here ≡ Some rest
    → here ≡ Identifier name ∷ rest
unfolding expect_name
expect_name_is name here rest e =
    let g = guard_some (at_name name here) (Some (drop 1 here)) rest e in
    at_name_is name here g.0 ∙ ap (λ t. Identifier name ∷ t) (let same : drop 1 here
    ≡ rest = cc (g.1) in same)

-- ---- a number or none

pub number_sound : (here : List Token) (n : Option ℕ) (rest : List Token)
    → number_at here ≡ Some (n, rest) → NumberHere n here rest
unfolding number_at
number_sound here n rest x =
    elim (option_cases (integer_at here) _ _ _ x) [
      | inl (_, y) ↦ as_read (λ n r. NumberHere n here r) None n here rest y refl
      | inr (k, e, y) ↦ as_read (λ n r. NumberHere n here r) (Some k.0) n k.1 rest y
          (integer_is here k.0 k.1 e)
    ]

-- a number is read where none follows one that is missing
pub number_again : (n : Option ℕ) (here rest : List Token) → integer_at rest ≡ None
    → NumberHere n here rest → number_at here ≡ Some (n, rest)
unfolding number_at
number_again None here rest e h = rw (h, e) refl
number_again (Some n) here rest e h = rw h refl

pub number_shorter : (n : Option ℕ) (here rest : List Token) → NumberHere n here rest
    → length rest ≤ length here
number_shorter None here rest h = omega (arith, ap length h)
number_shorter (Some n) here rest h = omega (arith, ap length h)

-- ---- HANDLING

behind_sound : (one : Handling) (other : Name) (here : List Token) (h : Handling)
    (rest : List Token) → handling_behind one other here ≡ Some (h, rest)
    → ((one ≡ h) × (here ≡ rest))
    ⊎ ((handling.ReadWrite ≡ h) × (here ≡ Sign (sign.Operator operator.And) ∷ Identifier other
    ∷ rest))
unfolding handling_behind
behind_sound one other here h rest x =
    branch (at (sign.Operator operator.And) here) _ _ _ x
    (λ t y. let r = bind_some (expect_name other (drop 1 here)) _ (h, rest) y in
    as_read (λ h t. ((one ≡ h) × (here ≡ t))
    ⊎ ((handling.ReadWrite ≡ h) × (here ≡ Sign (sign.Operator operator.And) ∷ Identifier other
    ∷ t))) handling.ReadWrite h r.0 rest r.2
    (inr (
      refl,
      at_is (sign.Operator operator.And) here t
          ∙ ap (λ u. Sign (sign.Operator operator.And) ∷ u)
          (expect_name_is other (drop 1 here) r.0 r.1),
    )))
    (λ _ y. as_read (λ h t. ((one ≡ h) × (here ≡ t))
    ⊎ ((handling.ReadWrite ≡ h) × (here ≡ Sign (sign.Operator operator.And) ∷ Identifier other
    ∷ t))) one h here rest y (inl (refl, refl)))

read_sound : (here : List Token) (h : Handling) (rest : List Token) → at_name (codes "READ") here
    ≡ true → handling_behind handling.Read (codes "WRITE") (drop 1 here) ≡ Some (h, rest)
    → HandlingHere h here rest
read_sound here h rest t x =
    elim (behind_sound handling.Read (codes "WRITE") (drop 1 here) h rest x) [
      | inl (e, f) ↦ rw (← e) (at_name_is (codes "READ") here t
          ∙ ap (λ u. Identifier (codes "READ") ∷ u) f)
      | inr (e, f) ↦ rw (← e) (inl (at_name_is (codes "READ") here t
          ∙ ap (λ u. Identifier (codes "READ") ∷ u) f))
    ]

write_sound : (here : List Token) (h : Handling) (rest : List Token) → at_name (codes "WRITE") here
    ≡ true → handling_behind handling.Write (codes "READ") (drop 1 here) ≡ Some (h, rest)
    → HandlingHere h here rest
write_sound here h rest t x =
    elim (behind_sound handling.Write (codes "READ") (drop 1 here) h rest x) [
      | inl (e, f) ↦ rw (← e) (at_name_is (codes "WRITE") here t
          ∙ ap (λ u. Identifier (codes "WRITE") ∷ u) f)
      | inr (e, f) ↦ rw (← e) (inr (at_name_is (codes "WRITE") here t
          ∙ ap (λ u. Identifier (codes "WRITE") ∷ u) f))
    ]

pub handling_value_sound : (height_left : ℕ)
    → SoundOf HandlingHere leaf height_left (handling_value height_left)
unfolding handling_value handling_at
handling_value_sound height_left here h rest x =
    branch (at_name (codes "READ") here) _ _ _ x (λ t y. (read_sound here h rest t y, omega arith))
    (λ _ x1.
    branch (at_name (codes "WRITE") here) _ _ _ x1
    (λ t y. (write_sound here h rest t y, omega arith)) (λ _ y. absurd cc))

handling_again : (height_left : ℕ) (h : Handling) (here rest : List Token)
    → HandlingHere h here (Sign sign.Semicolon ∷ rest) → handling_value height_left here
    ≡ Some (h, Sign sign.Semicolon ∷ rest)
unfolding handling_value handling_at handling_behind expect_name
handling_again height_left handling.Read here rest h = rw h refl
handling_again height_left handling.Write here rest h = rw h refl
handling_again height_left handling.ReadWrite here rest (inl h) = rw h refl
handling_again height_left handling.ReadWrite here rest (inr h) = rw h refl

handling_starts : (h : Handling) (here rest : List Token) → HandlingHere h here rest
    → (at_word word.If here ≡ false) × (at_word word.Select here ≡ false)
handling_starts handling.Read here rest h = (ap (at_word word.If) h, ap (at_word word.Select) h)
handling_starts handling.Write here rest h = (ap (at_word word.If) h, ap (at_word word.Select) h)
handling_starts handling.ReadWrite here rest (inl h) =
    (ap (at_word word.If) h, ap (at_word word.Select) h)
handling_starts handling.ReadWrite here rest (inr h) =
    (ap (at_word word.If) h, ap (at_word word.Select) h)

handling_shorter : (h : Handling) (here rest : List Token) → HandlingHere h here rest
    → length rest < length here
handling_shorter handling.Read here rest h = omega (arith, ap length h)
handling_shorter handling.Write here rest h = omega (arith, ap length h)
handling_shorter handling.ReadWrite here rest (inl h) = omega (arith, ap length h)
handling_shorter handling.ReadWrite here rest (inr h) = omega (arith, ap length h)

pub handling_values : SingleValue leaf HandlingHere handling_value
handling_values = record {
  again = λ height_left h here rest spelled low. handling_again height_left
      h here rest spelled;
  starts = handling_starts;
  shorter = handling_shorter;
}

-- ---- TRUE and FALSE

pub truth_value_sound : (height_left : ℕ)
    → SoundOf TruthHere leaf height_left (truth_value height_left)
unfolding truth_value truth_at
truth_value_sound height_left here b rest x =
    branch (at_name (codes "TRUE") here) _ _ _ x
    (λ t y. as_read (λ b r. TruthHere b here r × (leaf b ≤ height_left)) true b (drop 1 here)
    rest y (at_name_is (codes "TRUE") here t, omega arith)) (λ _ x1.
    branch (at_name (codes "FALSE") here) _ _ _ x1
    (λ t y. as_read (λ b r. TruthHere b here r × (leaf b ≤ height_left)) false b (drop 1 here)
    rest y (at_name_is (codes "FALSE") here t, omega arith)) (λ _ y. absurd cc))

truth_again : (height_left : ℕ) (b : Bool) (here rest : List Token) → TruthHere b here rest
    → truth_value height_left here ≡ Some (b, rest)
unfolding truth_value truth_at
truth_again height_left true here rest h = rw h refl
truth_again height_left false here rest h = rw h refl

truth_starts : (b : Bool) (here rest : List Token) → TruthHere b here rest
    → (at_word word.If here ≡ false) × (at_word word.Select here ≡ false)
truth_starts true here rest h = (ap (at_word word.If) h, ap (at_word word.Select) h)
truth_starts false here rest h = (ap (at_word word.If) h, ap (at_word word.Select) h)

truth_shorter : (b : Bool) (here rest : List Token) → TruthHere b here rest
    → length rest < length here
truth_shorter true here rest h = omega (arith, ap length h)
truth_shorter false here rest h = omega (arith, ap length h)

pub truth_values : SingleValue leaf TruthHere truth_value
truth_values = record {
  again = λ height_left b here rest spelled low. truth_again height_left b
      here (Sign sign.Semicolon ∷ rest) spelled;
  starts = truth_starts;
  shorter = truth_shorter;
}

-- ---- OPERATION

pub operation_sound : (here : List Token) (o : Operation) (rest : List Token)
    → operation_at here ≡ Some (o, rest) → OperationHere o here rest
unfolding operation_at
operation_sound here o rest x =
    branch (at_name (codes "READ") here) _ _ _ x
    (λ t y. as_read (λ o r. OperationHere o here r) operation.Read o (drop 1 here) rest y
    (at_name_is (codes "READ") here t)) (λ _ x1.
    branch (at_name (codes "WRITE") here) _ _ _ x1
    (λ t y. as_read (λ o r. OperationHere o here r) operation.Write o (drop 1 here) rest y
    (at_name_is (codes "WRITE") here t)) (λ _ x2.
    branch (at_word word.Command here) _ _ _ x2
    (λ t y. as_read (λ o r. OperationHere o here r) operation.Command o (drop 1 here) rest y
    (at_word_is word.Command here t)) (λ _ y. absurd cc)))

pub operation_again : (o : Operation) (here rest : List Token) → OperationHere o here rest
    → operation_at here ≡ Some (o, rest)
unfolding operation_at
operation_again operation.Read here rest h = rw h refl
operation_again _ here rest h = rw h refl

pub operation_shorter : (o : Operation) (here rest : List Token) → OperationHere o here rest
    → length rest < length here
operation_shorter operation.Read here rest h = omega (arith, ap length h)
operation_shorter _ here rest h = omega (arith, ap length h)
