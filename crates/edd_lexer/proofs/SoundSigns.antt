-- A sign that is read stands there.
use Rattle.std.proofs.Common.{◌≡◌, ℕ, Bool, true, false, cond, ◌&&◌, ◌||◌, ◌==◌, List, [], ◌∷◌, ◌++◌, drop, Option, Some, None, refl, sym, ap, subst, ◌∙◌, append_assoc}
use Rattle.std.specs.Char.{is_ascii_digit}
use Rattle.edd_syntax.specs.declared.operators.Operator.{Operator}
use Rattle.edd_syntax.specs.declared.operators.Operator.TheVariants as operator
use Rattle.edd_syntax.specs.declared.operators.Comparison.TheVariants as comparison
use Rattle.edd_syntax.specs.declared.symbols.Symbol.{Symbol}
use Rattle.edd_syntax.specs.declared.symbols.Symbol.TheVariants as symbol
use Rattle.edd_syntax.specs.Names.{begins_name}
use Rattle.edd_syntax.specs.Token.{Sign}
use Rattle.edd_lexer.specs.Bytes.{is_blank, in_line, begins, behind}
use Rattle.edd_lexer.specs.Numbers.{begins_number}
use Rattle.edd_lexer.specs.Strings.{quote}
use Rattle.edd_lexer.specs.Signs.{operator_bytes, symbol_bytes, lengthens_operator, lengthens}
use Rattle.edd_lexer.specs.Gaps.{Gap, blank, line_comment}
use Rattle.edd_lexer.specs.Tokens.{sign}
use Rattle.edd_lexer.specs.Faults.{bad_character}
use Rattle.edd_lexer.specs.Reading.{Step, token, next_is, followed, assigned, operator_at, single_symbol, symbol_at, slash_at, step_at}
use Rattle.edd_lexer.proofs.ByteTests.{and_false, or_parts, same_byte, next_here, neither, never}
use Rattle.edd_lexer.proofs.Sound.{Right, right_if, word_right, number_right, string_right, hash_right, block_comment_right}

-- this sign, with nothing after it that makes it longer
sign_right : (fresh : Bool) (here : List ℕ) (s : Symbol) (rest : List ℕ) → here ≡ symbol_bytes s
    ++ rest → begins (lengthens s) rest ≡ false → Right fresh here (token (Sign s) rest)
sign_right fresh here s rest whole free = sign s whole free refl

-- a sign of two bytes, or the other
followed_right : (fresh : Bool) (here rest : List ℕ) (byte : ℕ) (longer : Symbol) (other : Step)
    → (rest ≡ byte ∷ drop 1 rest → here ≡ symbol_bytes longer ++ drop 1 rest)
    → begins (lengthens longer) (drop 1 rest) ≡ false
    → (next_is byte rest ≡ false → Right fresh here other)
    → Right fresh here (followed byte longer other rest)
followed_right fresh here rest byte longer other whole free otherwise =
    right_if fresh here (next_is byte rest) _ _
    (λ e. sign_right fresh here longer (drop 1 rest) (whole (next_here byte rest e)) free)
    otherwise

-- an operator, or its assignment
assigned_right : (fresh : Bool) (here rest : List ℕ) (o : Operator) → here ≡ operator_bytes o
    ++ rest
    → (next_is 61 rest ≡ false → begins (lengthens_operator o) rest ≡ false)
    → Right fresh here (assigned o rest)
assigned_right fresh here rest o whole free =
    followed_right fresh here rest 61 (symbol.CompoundAssign o)
    (token (Sign (symbol.Operator o)) rest)
    (λ e. whole ∙ (ap (λ (t : List ℕ). operator_bytes o ++ t) e
    ∙ sym (append_assoc (operator_bytes o) (61 ∷ []) (drop 1 rest))))
    (never (drop 1 rest))
    (λ e. sign_right fresh here (symbol.Operator o) rest whole (free e))

-- the first byte is this one
first_is : (b c : ℕ) (rest : List ℕ) → (b == c) ≡ true → b ∷ rest ≡ c ∷ rest
first_is b c rest e = ap (λ (x : ℕ). x ∷ rest) (same_byte b c e)

two_are : (b c : ℕ) (rest : List ℕ) → (b == c) ≡ true → (d : ℕ) → rest ≡ d ∷ drop 1 rest
    → b ∷ rest ≡ c ∷ d ∷ drop 1 rest
two_are b c rest e d f = first_is b c rest e ∙ ap (λ (t : List ℕ). c ∷ t) f

-- what begins with this byte is no sign, nor anything else
pub record NothingElse (fresh : Bool) (b : ℕ) (rest : List ℕ) : Type 0 where
  pub number : begins_number (b ∷ rest) ≡ false
  pub string : (b == 34) ≡ false
  pub slash : (b == 47) ≡ false
  pub hash : (b == 35) ≡ false

operator_right : (fresh : Bool) (b : ℕ) (rest : List ℕ) → NothingElse fresh b rest
    → Right fresh (b ∷ rest) (operator_at b rest)
unfolding operator_at
operator_right fresh b rest else =
    let here = b ∷ rest in
    right_if fresh here (b == 61) _ _
    (λ e. followed_right fresh here rest 61 _ _ (λ f. two_are b 61 rest e 61 f)
    (never (drop 1 rest)) (λ g. sign_right fresh here symbol.Equals rest (first_is b 61 rest e)
    g))
    (λ _. right_if fresh here (b == 33) _ _
    (λ e. followed_right fresh here rest 61 _ _ (λ f. two_are b 33 rest e 61 f)
    (never (drop 1 rest)) (λ g. sign_right fresh here symbol.Exclamation rest
    (first_is b 33 rest e) g))
    (λ _. right_if fresh here (b == 43) _ _
    (λ e. followed_right fresh here rest 43 _ _ (λ f. two_are b 43 rest e 43 f)
    (never (drop 1 rest))
    (λ g. assigned_right fresh here rest operator.Add (first_is b 43 rest e)
    (λ h. neither (λ c. c == 43) (λ c. c == 61) rest g h)))
    (λ _. right_if fresh here (b == 45) _ _
    (λ e. followed_right fresh here rest 45 _ _ (λ f. two_are b 45 rest e 45 f)
    (never (drop 1 rest))
    (λ g. assigned_right fresh here rest operator.Subtract (first_is b 45 rest e)
    (λ h. neither (λ c. c == 45) (λ c. c == 61) rest g h)))
    (λ _. right_if fresh here (b == 42) _ _
    (λ e. assigned_right fresh here rest operator.Multiply (first_is b 42 rest e) (λ h. h))
    (λ _. right_if fresh here (b == 37) _ _
    (λ e. assigned_right fresh here rest operator.Remainder (first_is b 37 rest e) (λ h. h))
    (λ _. right_if fresh here (b == 94) _ _
    (λ e. assigned_right fresh here rest operator.Xor (first_is b 94 rest e) (λ h. h))
    (λ _. right_if fresh here (b == 38) _ _
    (λ e. followed_right fresh here rest 38 _ _ (λ f. two_are b 38 rest e 38 f)
    (never (drop 1 rest))
    (λ g. assigned_right fresh here rest operator.And (first_is b 38 rest e)
    (λ h. neither (λ c. c == 38) (λ c. c == 61) rest g h)))
    (λ _. right_if fresh here (b == 124) _ _
    (λ e. followed_right fresh here rest 124 _ _ (λ f. two_are b 124 rest e 124 f)
    (never (drop 1 rest))
    (λ g. assigned_right fresh here rest operator.Or (first_is b 124 rest e)
    (λ h. neither (λ c. c == 124) (λ c. c == 61) rest g h)))
    (λ _. right_if fresh here (b == 60) _ _
    (λ e. right_if fresh here (next_is 60 rest) _ _
    (λ f. assigned_right fresh here (drop 1 rest) operator.ShiftLeft
    (two_are b 60 rest e 60 (next_here 60 rest f)) (λ h. h))
    (λ g. followed_right fresh here rest 61 _ _ (λ f. two_are b 60 rest e 61 f)
    (never (drop 1 rest))
    (λ h. sign_right fresh here (symbol.Comparison comparison.Less) rest (first_is b 60 rest e)
    (neither (λ c. c == 60) (λ c. c == 61) rest g h))))
    (λ _. right_if fresh here (b == 62) _ _
    (λ e. right_if fresh here (next_is 62 rest) _ _
    (λ f. assigned_right fresh here (drop 1 rest) operator.ShiftRight
    (two_are b 62 rest e 62 (next_here 62 rest f)) (λ h. h))
    (λ g. followed_right fresh here rest 61 _ _ (λ f. two_are b 62 rest e 61 f)
    (never (drop 1 rest))
    (λ h. sign_right fresh here (symbol.Comparison comparison.Greater) rest (first_is b 62 rest e)
    (neither (λ c. c == 62) (λ c. c == 61) rest g h))))
    (λ _. bad_character (λ f. cc) (rw else.slash refl) else.string else.number
    (rw else.hash (and_false fresh)))))))))))))

-- what is found is a sign of one byte that stands here
Single : (b : ℕ) → (rest : List ℕ) → Option Symbol → Type 0
Single b rest None = Unit {0}
Single b rest (Some s) = (b ∷ rest ≡ symbol_bytes s ++ rest) × (begins (lengthens s) rest ≡ false)

single_if : (b : ℕ) (rest : List ℕ) (t : Bool) (x y : Option Symbol) → (t ≡ true → Single b rest x)
    → (t ≡ false → Single b rest y) → Single b rest (cond t x y)
single_if b rest true x y a c = a refl
single_if b rest false x y a c = c refl

no_digit_behind_dot : (b : ℕ) (rest : List ℕ) → begins_number (b ∷ rest) ≡ false → (b == 46) ≡ true
    → begins is_ascii_digit rest ≡ false
no_digit_behind_dot b rest e dot =
    let parts = or_parts (is_ascii_digit b) ((b == 46) && begins is_ascii_digit rest) e in
    ap (λ (t : Bool). t && begins is_ascii_digit rest) (sym dot) ∙ parts.1

single_is : (b : ℕ) (rest : List ℕ) → begins_number (b ∷ rest) ≡ false
    → Single b rest (single_symbol b)
unfolding single_symbol Single
single_is b rest number =
    single_if b rest (b == 59) _ _ (λ e. (first_is b 59 rest e, never rest))
    (λ _. single_if b rest (b == 44) _ _ (λ e. (first_is b 44 rest e, never rest))
    (λ _. single_if b rest (b == 123) _ _ (λ e. (first_is b 123 rest e, never rest))
    (λ _. single_if b rest (b == 125) _ _ (λ e. (first_is b 125 rest e, never rest))
    (λ _. single_if b rest (b == 40) _ _ (λ e. (first_is b 40 rest e, never rest))
    (λ _. single_if b rest (b == 41) _ _ (λ e. (first_is b 41 rest e, never rest))
    (λ _. single_if b rest (b == 91) _ _ (λ e. (first_is b 91 rest e, never rest))
    (λ _. single_if b rest (b == 93) _ _ (λ e. (first_is b 93 rest e, never rest))
    (λ _. single_if b rest (b == 58) _ _ (λ e. (first_is b 58 rest e, never rest))
    (λ _. single_if b rest (b == 46) _ _
    (λ e. (first_is b 46 rest e, no_digit_behind_dot b rest number e))
    (λ _. single_if b rest (b == 63) _ _ (λ e. (first_is b 63 rest e, never rest))
    (λ _. single_if b rest (b == 126) _ _ (λ e. (first_is b 126 rest e, never rest))
    (λ _. tt))))))))))))

symbol_right : (fresh : Bool) (b : ℕ) (rest : List ℕ) → NothingElse fresh b rest
    → Right fresh (b ∷ rest) (symbol_at b rest)
unfolding symbol_at Single
symbol_right fresh b rest else = go (single_symbol b) (single_is b rest else.number)
  where
    go : (s : Option Symbol) → Single b rest s
        → Right fresh (b ∷ rest) (elim s as (λ _. Step) [
          | Some x ↦ token (Sign x) rest
          | None ↦ operator_at b rest
        ])
    go (Some s) found = sign_right fresh (b ∷ rest) s rest found.0 found.1
    go None found = operator_right fresh b rest else

slash_right : (fresh : Bool) (b : ℕ) (rest : List ℕ) → (b == 47) ≡ true
    → Right fresh (b ∷ rest) (slash_at rest)
unfolding slash_at
slash_right fresh b rest e =
    right_if fresh (b ∷ rest) (next_is 47 rest) _ _
    (λ f. let P : List ℕ → Type 0 = λ t. Gap fresh t false (behind in_line (drop 1 rest)) in subst P
    (sym (two_are b 47 rest e 47 (next_here 47 rest f))) line_comment)
    (λ f. right_if fresh (b ∷ rest) (next_is 42 rest) _ _
    (λ g. block_comment_right fresh (b ∷ rest) (drop 1 rest)
    (two_are b 47 rest e 42 (next_here 42 rest g)))
    (λ g. assigned_right fresh (b ∷ rest) rest operator.Divide (first_is b 47 rest e)
    (λ h. neither (λ c. (c == 47) || (c == 42)) (λ c. c == 61) rest
    (neither (λ c. c == 47) (λ c. c == 42) rest f g) h)))

-- What a step reads is so.
pub step_right : (fresh : Bool) (b : ℕ) (rest : List ℕ)
    → Right fresh (b ∷ rest) (step_at fresh (b ∷ rest))
unfolding step_at
step_right fresh b rest =
    let here = b ∷ rest in
    right_if fresh here (is_blank b) _ _ (λ e. blank e)
    (λ _. right_if fresh here (begins_name b) _ _ (λ e. word_right fresh b rest e)
    (λ _. right_if fresh here (begins_number (b ∷ rest)) _ _ (λ e. number_right fresh here e)
    (λ n. right_if fresh here (b == quote) _ _ (λ e. string_right fresh b rest e)
    (λ q. right_if fresh here (b == 47) _ _ (λ e. slash_right fresh b rest e)
    (λ s. right_if fresh here (b == 35) _ _ (λ e. hash_right fresh b rest e)
    (λ h. symbol_right fresh b rest (record { number = n; string = q; slash = s; hash = h })))))))
