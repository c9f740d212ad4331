-- Texts and expressions as values of conditionals.
use Rattle.std.proofs.Common.{◌≡◌, ℕ, ◌≤◌, false, List, ◌∷◌, Some, refl, ap, arith}
use Rattle.edd_syntax.specs.declared.symbols.Keyword.TheVariants as word
use Rattle.edd_syntax.specs.declared.symbols.Symbol.TheVariants as sign
use Rattle.edd_syntax.specs.Text as texts
use Rattle.edd_syntax.specs.Text.{Quoted, Key}
use Rattle.edd_syntax.specs.Token.{Token, Sign}
use Rattle.edd_syntax.specs.Reference.{Path}
use Rattle.edd_syntax.specs.Expression.{Expr}
use Rattle.edd_syntax.specs.Grammar.{InAttribute, loosest, TextHere, ExprHere}
use Rattle.edd_syntax.specs.Size.{height, leaf}
use Rattle.edd_grammar.specs.Reading.{at, at_word, is_text, text_at}
use Rattle.edd_grammar.specs.ConditionalReading.{list_ends, text_value, expr_value}
use Rattle.edd_grammar.specs.Following.{SingleValue, ListedValue}
use Rattle.edd_grammar.proofs.Steps.{guard_some}
use Rattle.edd_grammar.proofs.Texts.{text_sound, text_again}
use Rattle.edd_grammar.proofs.Shorter.{Begins, WithName, begins, expr_shorter, text_shorter}
use Rattle.edd_grammar.proofs.SoundExpressions.{expr_sound}
use Rattle.edd_grammar.proofs.CompleteExpressions.{expr_again}
use Rattle.edd_grammar.proofs.Branches.{SoundOf}

pub text_value_sound : (height_left : ℕ)
    → SoundOf TextHere leaf height_left (text_value height_left)
unfolding text_value
text_value_sound height_left here w rest e = let g = guard_some (is_text here) (text_at here)
    (w, rest) e in (text_sound here w rest g.0 g.1, omega arith)

text_value_again : (height_left : ℕ) (w : texts.Text) (here rest : List Token)
    → TextHere w here rest → text_value height_left here ≡ Some (w, rest)
unfolding text_value
text_value_again height_left w here rest h = let r = text_again w here rest h in rw (r.0) r.1

text_starts : (w : texts.Text) (here rest : List Token) → TextHere w here rest
    → (at_word word.If here ≡ false) × (at_word word.Select here ≡ false)
text_starts (Quoted raw) here rest h = (ap (at_word word.If) h.3.1, ap (at_word word.Select) h.3.1)
text_starts (Key k) here rest h = (ap (at_word word.If) h, ap (at_word word.Select) h)

pub text_values : SingleValue leaf TextHere text_value
text_values = record {
  again = λ height_left w here rest h low. text_value_again height_left w here
      (Sign sign.Semicolon ∷ rest) h;
  starts = text_starts;
  shorter = text_shorter;
}

pub expr_value_sound : (height_left : ℕ) → SoundOf (ExprHere InAttribute (loosest InAttribute))
    height height_left (expr_value height_left)
unfolding expr_value
expr_value_sound height_left here e rest x = let s = expr_sound InAttribute height_left 2 here e
    rest (omega arith) x in (s.0.spelled, s.0.low)

expr_value_again : (height_left : ℕ) (e : Expr Path) (here rest : List Token)
    → ExprHere InAttribute (loosest InAttribute) e here (Sign sign.Semicolon ∷ rest)
    → height e ≤ height_left
    → expr_value height_left here ≡ Some (e, Sign sign.Semicolon ∷ rest)
unfolding expr_value
expr_value_again height_left e here rest h low = expr_again InAttribute height_left 2 e here
    (Sign sign.Semicolon ∷ rest) (omega arith) h low tt

-- no expression begins with a reserved word
pub begins_no_word : (k : _) (here : List Token) → Begins here → at_word k here ≡ false
begins_no_word k here (WithName n rest) = refl
begins_no_word k here _ = refl

pub expr_values : SingleValue height (ExprHere InAttribute (loosest InAttribute)) expr_value
expr_values = record {
  again = expr_value_again;
  starts = λ e here rest h. let b =
      begins InAttribute 2 e here rest h in (
        begins_no_word word.If here b,
        begins_no_word word.Select here b,
      );
  shorter = λ e here rest h. expr_shorter InAttribute 2 e here rest h;
}

-- ---- texts in a list

text_no_end : (w : texts.Text) (here rest : List Token) → TextHere w here rest
    → list_ends here ≡ false
text_no_end (Quoted raw) here rest h = ap list_ends h.3.1
text_no_end (Key k) here rest h = ap list_ends h

text_no_comma : (w : texts.Text) (here rest : List Token) → TextHere w here rest
    → at sign.Comma here ≡ false
text_no_comma (Quoted raw) here rest h = ap (at sign.Comma) h.3.1
text_no_comma (Key k) here rest h = ap (at sign.Comma) h

pub listed_texts : ListedValue leaf TextHere (λ rest. Unit {0}) text_value
listed_texts = record {
  again = λ height_left w here rest h low f. text_value_again height_left w here rest h;
  starts = text_starts;
  no_end = text_no_end;
  no_comma = text_no_comma;
  shorter = text_shorter;
  at_comma = λ rest. tt;
  at_end = λ rest e. tt;
  at_if = λ rest. tt;
  at_select = λ rest. tt;
  at_value = λ w here rest h. tt;
}
