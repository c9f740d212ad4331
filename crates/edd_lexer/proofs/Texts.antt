-- Whole texts: what is read of them, and what the definitions say of them.
use Rattle.std.proofs.Common.{◌≡◌, ℕ, ◌≤◌, Bool, true, false, cond, List, [], ◌∷◌, take, drop, length, Result, Ok, Err, refl, sym, ◌∙◌, length-drop, arith}
use Rattle.std.specs.Prelude.{IsUtf8, bytes_eq}
use Rattle.edd_lexer.specs.Tokens.{Lexeme, AreTokens, behind_byte_order_mark, text_limit}
use Rattle.edd_lexer.specs.Faults.{Fault, FaultFrom, LexicalFault, too_long, not_utf8, at_a_place}
use Rattle.edd_lexer.specs.Reading.{tokens_of}
use Rattle.edd_lexer.proofs.Whole.{tokens_from, tokens_enough, tokens_are, fault_is}
use Rattle.edd_lexer.proofs.Unique.{tokens_again, fault_again}

pub mark_le : (text : List ℕ) → length (behind_byte_order_mark text) ≤ length text
mark_le text = go (bytes_eq (take 3 text) (239 ∷ 187 ∷ 191 ∷ []))
  where
    go : (t : Bool) → length (cond t (drop 3 text) text) ≤ length text
    go true = omega (arith, length-drop 3 text)
    go false = omega arith

pub tokens_of_is : (text : List ℕ)
    → tokens_of text ≡ tokens_from (length text) true (behind_byte_order_mark text)
unfolding tokens_of
tokens_of_is text = tokens_enough (length text) (length text) true (behind_byte_order_mark text)
    (mark_le text)

-- what is read are the tokens
pub tokens_sound : (text : List ℕ) (lexemes : List Lexeme) → length text ≤ text_limit → IsUtf8 text
    → tokens_of text ≡ Ok lexemes → AreTokens text lexemes
tokens_sound text lexemes fits utf8 e = record {
  fits = fits;
  utf8 = utf8;
  read = tokens_are (length text) true (behind_byte_order_mark text) lexemes (mark_le text)
      (sym (tokens_of_is text) ∙ e);
}

pub fault_sound : (text : List ℕ) (fault : Fault) → length text ≤ text_limit → IsUtf8 text
    → tokens_of text ≡ Err fault → LexicalFault text fault
fault_sound text fault fits utf8 e =
    at_a_place fits utf8 (fault_is (length text) true (behind_byte_order_mark text) fault
    (mark_le text) (sym (tokens_of_is text) ∙ e))

-- the tokens are what is read
pub tokens_complete : (text : List ℕ) (lexemes : List Lexeme) → AreTokens text lexemes
    → tokens_of text ≡ Ok lexemes
tokens_complete text lexemes are = tokens_of_is text ∙ tokens_again (length text) true
    (behind_byte_order_mark text) lexemes are.read

pub fault_complete : (text : List ℕ) (fault : Fault)
    → FaultFrom true (behind_byte_order_mark text) fault → tokens_of text ≡ Err fault
fault_complete text fault found = tokens_of_is text ∙ fault_again (length text) true
    (behind_byte_order_mark text) fault found

-- a text has one list of tokens at most
pub one_list : (text : List ℕ) (lexemes others : List Lexeme) → AreTokens text lexemes
    → AreTokens text others → lexemes ≡ others
one_list text lexemes others a b =
    let e : ◌≡◌ {A = Result (List Lexeme) Fault} (Ok lexemes) (Ok others) =
    sym (tokens_complete text lexemes a) ∙ tokens_complete text others b in cc

-- and none where it has a fault
pub no_list : (text : List ℕ) (lexemes : List Lexeme) (fault : Fault) → AreTokens text lexemes
    → ¬ (LexicalFault text fault)
no_list text lexemes fault a (too_long long) = let fits = a.fits in omega arith
no_list text lexemes fault a (not_utf8 fits none) = none a.utf8
no_list text lexemes fault a (at_a_place fits utf8 found) =
    let e : ◌≡◌ {A = Result (List Lexeme) Fault} (Ok lexemes) (Err fault) =
    sym (tokens_complete text lexemes a) ∙ fault_complete text fault found in cc

pub one_fault : (text : List ℕ) (fault other : Fault) → LexicalFault text fault
    → LexicalFault text other → fault ≡ other
one_fault text fault other (too_long long) (too_long more) = refl
one_fault text fault other (too_long long) (not_utf8 fits none) = absurd (omega arith)
one_fault text fault other (too_long long) (at_a_place fits utf8 found) = absurd (omega arith)
one_fault text fault other (not_utf8 fits none) (too_long long) = absurd (omega arith)
one_fault text fault other (not_utf8 fits none) (not_utf8 _ _) = refl
one_fault text fault other (not_utf8 fits none) (at_a_place _ utf8 found) = absurd (none utf8)
one_fault text fault other (at_a_place fits utf8 found) (too_long long) = absurd (omega arith)
one_fault text fault other (at_a_place fits utf8 found) (not_utf8 _ none) = absurd (none utf8)
one_fault text fault other (at_a_place fits utf8 found) (at_a_place _ _ another) =
    let e : ◌≡◌ {A = Result (List Lexeme) Fault} (Err fault) (Err other) =
    sym (fault_complete text fault found) ∙ fault_complete text other another in cc
