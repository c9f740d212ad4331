-- What is spelled takes at least one token, and the first token says whether it is a text.
use Rattle.std.proofs.Common.{◌≡◌, ℕ, suc, ◌≤◌, ◌<◌, false, List, [], ◌∷◌, length, refl, ap, arith}
use Rattle.edd_syntax.specs.declared.operators.UnaryOperator.{UnaryOperator}
use Rattle.edd_syntax.specs.declared.operators.UnaryOperator.TheVariants as unary_operator
use Rattle.edd_syntax.specs.declared.operators.IncrementOperator.TheVariants.{PreIncrement, PostIncrement, PreDecrement, PostDecrement}
use Rattle.edd_syntax.specs.declared.symbols.Symbol.{Symbol}
use Rattle.edd_syntax.specs.declared.symbols.Symbol.TheVariants as sign
use Rattle.edd_syntax.specs.Text as texts
use Rattle.edd_syntax.specs.Text.{Name, Quoted, Key}
use Rattle.edd_syntax.specs.Token.{Token, Identifier, Integer, Sign}
use Rattle.edd_syntax.specs.Token as token
use Rattle.edd_syntax.specs.Reference.{Path}
use Rattle.edd_syntax.specs.Expression as tree
use Rattle.edd_syntax.specs.Expression.{Expr, Text, Value, Arguments}
use Rattle.edd_syntax.specs.Grammar.{Site, loosest, precedence_of, comparison_precedence, unary_sign, MembersHere, PathHere, StringsHere, TextHere, ExprHere, ArgumentsHere, MoreArgumentsHere}
use Rattle.edd_grammar.specs.Reading.{at, is_text}

members_shorter : (ms : List Name) (here rest : List Token) → MembersHere ms here rest
    → length rest ≤ length here
members_shorter [] here rest h = omega (arith, ap length h)
members_shorter (m ∷ ms) here rest h = omega (arith, ap length h.1, members_shorter ms h.0 rest h.2)

pub path_shorter : (r : Path) (here rest : List Token) → PathHere r here rest
    → length rest < length here
path_shorter r here rest h = omega (arith, ap length h.1, members_shorter r.members h.0 rest h.2)

strings_shorter : (ss : List (List ℕ)) (here rest : List Token) → StringsHere ss here rest
    → length rest ≤ length here
strings_shorter [] here rest h = omega (arith, ap length h.0)
strings_shorter (s ∷ ss) here rest h = omega (arith, ap length h.1, strings_shorter ss h.0 rest h.2)

pub text_shorter : (w : texts.Text) (here rest : List Token) → TextHere w here rest
    → length rest < length here
text_shorter (Quoted raw) here rest h =
    omega (arith, ap length h.3.1, strings_shorter h.1 h.3.0 rest h.3.2)
text_shorter (Key k) here rest h = omega (arith, ap length h)

mutual
  pub expr_shorter : (p : Site) (precedence : ℕ) (e : Expr Path) (here rest : List Token)
      → ExprHere p precedence e here rest → length rest < length here
  expr_shorter p precedence (tree.Literal n) here rest h = omega (arith, ap length h)
  expr_shorter p precedence tree.Decimal here rest h = omega (arith, ap length h)
  expr_shorter p precedence (tree.Reference r) here rest h = path_shorter r here rest h
  expr_shorter p precedence (tree.Indexed a e) here rest h =
      omega (
        arith,
        ap length h.2.1,
        ap length h.3,
        expr_shorter p (loosest p) e h.1 _ h.4,
      )
  expr_shorter p precedence (tree.Parentheses e) here rest h =
      omega (arith, ap length h.1, expr_shorter p (loosest p) e h.0 _ h.2)
  expr_shorter p precedence (tree.Call f args) here rest h =
      omega (arith, ap length h.3.1, ap length h.4, arguments_shorter p args h.2 _ h.5)
  expr_shorter p precedence (tree.Increment PostIncrement r) here rest h =
      omega (arith, path_shorter r here _ h.2)
  expr_shorter p precedence (tree.Increment PostDecrement r) here rest h =
      omega (arith, path_shorter r here _ h.2)
  expr_shorter p precedence (tree.Increment _ r) here rest h =
      omega (arith, ap length h.3, path_shorter r h.2 rest h.4)
  expr_shorter p precedence (tree.Unary op e) here rest h =
      omega (arith, ap length h.2, expr_shorter p 13 e h.1 rest h.3)
  expr_shorter p precedence (tree.Binary op a b) here rest h =
      omega (
        arith,
        expr_shorter p (precedence_of op) a here _ h.2,
        expr_shorter p (suc (precedence_of op)) b h.1
            rest h.3,
      )
  expr_shorter p precedence (tree.Compare op a b) here rest h =
      omega (
        arith,
        expr_shorter p (comparison_precedence op) a here _ h.2,
        expr_shorter p (suc (comparison_precedence op)) b h.1 rest h.3,
      )
  expr_shorter p precedence (tree.LogicalAnd a b) here rest h =
      omega (arith, expr_shorter p 4 a here _ h.2, expr_shorter p 5 b h.1 rest h.3)
  expr_shorter p precedence (tree.LogicalOr a b) here rest h =
      omega (arith, expr_shorter p 3 a here _ h.2, expr_shorter p 4 b h.1 rest h.3)
  expr_shorter p precedence (tree.Conditional c a b) here rest h =
      omega (
        arith,
        expr_shorter p 3 c here _ h.3,
        expr_shorter p (loosest p) a h.1 _ h.4,
        expr_shorter p 2 b h.2 rest h.5,
      )
  expr_shorter p precedence (tree.Assign r e) here rest h =
      omega (arith, path_shorter r here _ h.3, expr_shorter p 1 e h.2 rest h.4)
  expr_shorter p precedence (tree.CompoundAssign op r e) here rest h =
      omega (arith, path_shorter r here _ h.3, expr_shorter p 1 e h.2 rest h.4)

  pub arguments_shorter : (p : Site) (args : Arguments Path) (here rest : List Token)
      → ArgumentsHere p args here rest → length rest ≤ length here
  arguments_shorter p tree.Nil here rest h = omega (arith, ap length h)
  arguments_shorter p (tree.Cons (Value e) others) here rest h =
      omega (arith, expr_shorter p (loosest p) e here h.0 h.1, more_shorter p others h.0 rest h.2)
  arguments_shorter p (tree.Cons (Text w) others) here rest h =
      omega (arith, text_shorter w here h.0 h.1, more_shorter p others h.0 rest h.2)

  pub more_shorter : (p : Site) (args : Arguments Path) (here rest : List Token)
      → MoreArgumentsHere p args here rest → length rest ≤ length here
  more_shorter p tree.Nil here rest h = omega (arith, ap length h)
  more_shorter p (tree.Cons (Value e) others) here rest h =
      omega (
        arith,
        ap length h.2,
        expr_shorter p (loosest p) e h.0 h.1 h.3,
        more_shorter p others h.1 rest h.4,
      )
  more_shorter p (tree.Cons (Text w) others) here rest h =
      omega (arith, ap length h.2, text_shorter w h.0 h.1 h.3, more_shorter p others h.1 rest h.4)

-- the signs that an expression can begin with
pub data Opening : Symbol → Type 0 where
  Parenthesis : Opening sign.OpenParenthesis
  Before : (op : UnaryOperator) → Opening (unary_sign op)
  Up : Opening sign.Increment
  Down : Opening sign.Decrement

-- how the tokens of an expression can begin
pub data Begins : List Token → Type 0 where
  WithName : (n : Name) (rest : List Token) → Begins (Identifier n ∷ rest)
  WithNumber : (n : ℕ) (rest : List Token) → Begins (Integer n ∷ rest)
  WithDecimal : (rest : List Token) → Begins (token.Decimal ∷ rest)
  WithSign : (s : Symbol) → Opening s → (rest : List Token) → Begins (Sign s ∷ rest)

pub path_begins : (r : Path) (here rest : List Token) → PathHere r here rest → Begins here
path_begins r here rest h = rw h.1 (WithName r.base h.0)

pub begins : (p : Site) (precedence : ℕ) (e : Expr Path) (here rest : List Token)
    → ExprHere p precedence e here rest → Begins here
begins p precedence (tree.Literal n) here rest h = rw h (WithNumber n rest)
begins p precedence tree.Decimal here rest h = rw h (WithDecimal rest)
begins p precedence (tree.Reference r) here rest h = path_begins r here rest h
begins p precedence (tree.Indexed a e) here rest h = rw h.2.1 (WithName a.base h.0)
begins p precedence (tree.Parentheses e) here rest h =
    rw h.1 (WithSign sign.OpenParenthesis Parenthesis h.0)
begins p precedence (tree.Call f args) here rest h = rw h.3.1 (WithName f.base h.1)
begins p precedence (tree.Increment PreIncrement r) here rest h =
    rw h.3 (WithSign sign.Increment Up h.2)
begins p precedence (tree.Increment PreDecrement r) here rest h =
    rw h.3 (WithSign sign.Decrement Down h.2)
begins p precedence (tree.Increment PostIncrement r) here rest h = path_begins r here _ h.2
begins p precedence (tree.Increment PostDecrement r) here rest h = path_begins r here _ h.2
begins p precedence (tree.Unary op e) here rest h =
    rw h.2 (WithSign (unary_sign op) (Before op) h.1)
begins p precedence (tree.Binary op a b) here rest h = begins p (precedence_of op) a here _ h.2
begins p precedence (tree.Compare op a b) here rest h =
    begins p (comparison_precedence op) a here _ h.2
begins p precedence (tree.LogicalAnd a b) here rest h = begins p 4 a here _ h.2
begins p precedence (tree.LogicalOr a b) here rest h = begins p 3 a here _ h.2
begins p precedence (tree.Conditional c a b) here rest h = begins p 3 c here _ h.3
begins p precedence (tree.Assign r e) here rest h = path_begins r here _ h.3
begins p precedence (tree.CompoundAssign op r e) here rest h = path_begins r here _ h.3

opening_no_text : (s : Symbol) → Opening s → (rest : List Token) → is_text (Sign s ∷ rest) ≡ false
opening_no_text s Parenthesis rest = refl
opening_no_text s (Before unary_operator.Plus) rest = refl
opening_no_text s (Before unary_operator.Minus) rest = refl
opening_no_text s (Before unary_operator.Not) rest = refl
opening_no_text s (Before unary_operator.Complement) rest = refl
opening_no_text s Up rest = refl
opening_no_text s Down rest = refl

-- no expression begins as a text does
pub begins_no_text : (here : List Token) → Begins here → is_text here ≡ false
begins_no_text here (WithSign s o rest) = opening_no_text s o rest
begins_no_text here _ = refl

opening_no_close : (s : Symbol) → Opening s → (rest : List Token)
    → at sign.CloseParenthesis (Sign s ∷ rest) ≡ false
opening_no_close s Parenthesis rest = refl
opening_no_close s (Before unary_operator.Plus) rest = refl
opening_no_close s (Before unary_operator.Minus) rest = refl
opening_no_close s (Before unary_operator.Not) rest = refl
opening_no_close s (Before unary_operator.Complement) rest = refl
opening_no_close s Up rest = refl
opening_no_close s Down rest = refl

pub begins_no_close : (here : List Token) → Begins here → at sign.CloseParenthesis here ≡ false
begins_no_close here (WithSign s o rest) = opening_no_close s o rest
begins_no_close here _ = refl

opening_no_semicolon : (s : Symbol) → Opening s → (rest : List Token)
    → at sign.Semicolon (Sign s ∷ rest) ≡ false
opening_no_semicolon s Parenthesis rest = refl
opening_no_semicolon s (Before unary_operator.Plus) rest = refl
opening_no_semicolon s (Before unary_operator.Minus) rest = refl
opening_no_semicolon s (Before unary_operator.Not) rest = refl
opening_no_semicolon s (Before unary_operator.Complement) rest = refl
opening_no_semicolon s Up rest = refl
opening_no_semicolon s Down rest = refl

pub begins_no_semicolon : (here : List Token) → Begins here → at sign.Semicolon here ≡ false
begins_no_semicolon here (WithSign s o rest) = opening_no_semicolon s o rest
begins_no_semicolon here _ = refl

opening_no_brace : (s : Symbol) → Opening s → (rest : List Token)
    → at sign.OpenBrace (Sign s ∷ rest) ≡ false
opening_no_brace s Parenthesis rest = refl
opening_no_brace s (Before unary_operator.Plus) rest = refl
opening_no_brace s (Before unary_operator.Minus) rest = refl
opening_no_brace s (Before unary_operator.Not) rest = refl
opening_no_brace s (Before unary_operator.Complement) rest = refl
opening_no_brace s Up rest = refl
opening_no_brace s Down rest = refl

pub begins_no_brace : (here : List Token) → Begins here → at sign.OpenBrace here ≡ false
begins_no_brace here (WithSign s o rest) = opening_no_brace s o rest
begins_no_brace here _ = refl

opening_no_close_brace : (s : Symbol) → Opening s → (rest : List Token)
    → at sign.CloseBrace (Sign s ∷ rest) ≡ false
opening_no_close_brace s Parenthesis rest = refl
opening_no_close_brace s (Before unary_operator.Plus) rest = refl
opening_no_close_brace s (Before unary_operator.Minus) rest = refl
opening_no_close_brace s (Before unary_operator.Not) rest = refl
opening_no_close_brace s (Before unary_operator.Complement) rest = refl
opening_no_close_brace s Up rest = refl
opening_no_close_brace s Down rest = refl

pub begins_no_close_brace : (here : List Token) → Begins here → at sign.CloseBrace here ≡ false
begins_no_close_brace here (WithSign s o rest) = opening_no_close_brace s o rest
begins_no_close_brace here _ = refl

pub text_no_close : (w : texts.Text) (here rest : List Token) → TextHere w here rest
    → at sign.CloseParenthesis here ≡ false
text_no_close (Quoted raw) here rest h = ap (at sign.CloseParenthesis) h.3.1
text_no_close (Key k) here rest h = ap (at sign.CloseParenthesis) h
