-- What follows from an answer that is the tokens or the fault.
use Rattle.std.proofs.Common.{◌≡◌, ◌≤◌, ℕ, List, map, length, Option, Some, None, Result, Ok, Err, Vec, refl, ap, ◌∙◌, inl, inr, ◌⊎◌}
use Rattle.std.specs.Prelude.{IfOk, IfErr, IfSome, MatchResult, IsUtf8}
use Rattle.std.specs.declared.alloc.Global.{Global}
use Rattle.edd_lexer.specs.declared.token.Token.{Token}
use Rattle.edd_lexer.specs.declared.fault.LexFault.{LexFault}
use Rattle.edd_lexer.specs.declared.fault.LexFault.TheVariants as refused
use Rattle.edd_lexer.specs.Tokens.{Lexeme, AreTokens, text_limit}
use Rattle.edd_lexer.specs.Faults.{Fault, LexicalFault}
use Rattle.edd_lexer.specs.Reading.{tokens_of}
use Rattle.edd_lexer.specs.Views.{lexeme_of, fault_of, Answers}
use Rattle.edd_lexer.specs.Parts.{Gives}
use Rattle.edd_lexer.proofs.Texts.{tokens_sound, fault_sound, one_list, no_list, one_fault}

abbrev Answer : Type 0
Answer = Result (Vec Token Global) LexFault

-- what the loop gives is an answer
pub given : (text : List ℕ) (r : Answer) → length text ≤ text_limit → IsUtf8 text
    → Gives text r (tokens_of text) → Answers text r
given text (Ok list) fits utf8 e = tokens_sound text (map (lexeme_of text) list.items) fits utf8 e
given text (Err e) fits utf8 f = go (fault_of e) f
  where
    go : (o : Option Fault) → IfSome o (λ fault. tokens_of text ≡ Err fault)
        → IfSome o (λ fault. LexicalFault text fault)
    go None h = h
    go (Some fault) h = fault_sound text fault fits utf8 h

pub answer_tokens : (text : List ℕ) (r : Answer) → Answers text r
    → IfOk r (λ list. AreTokens text (map (lexeme_of text) list.items))
answer_tokens text (Ok list) a = a
answer_tokens text (Err e) a = tt

pub answer_fault : (text : List ℕ) (r : Answer) → Answers text r
    → IfErr r (λ e. IfSome (fault_of e) (λ fault. LexicalFault text fault))
answer_fault text (Ok list) a = tt
answer_fault text (Err e) a = a

pub answer_no_tokens : (text : List ℕ) (r : Answer) → Answers text r
    → IfErr r (λ e. IfSome (fault_of e) (λ _. (lexemes : List Lexeme) → ¬ (AreTokens text lexemes)))
answer_no_tokens text (Ok list) a = tt
answer_no_tokens text (Err e) a = go (fault_of e) a
  where
    go : (o : Option Fault) → IfSome o (λ fault. LexicalFault text fault)
        → IfSome o (λ _. (lexemes : List Lexeme) → ¬ (AreTokens text lexemes))
    go None h = h
    go (Some fault) h = λ lexemes are. no_list text lexemes fault are h

-- a refusal without a fault is out of memory
memory_is : (e : LexFault) → fault_of e ≡ None → e ≡ refused.Memory
memory_is refused.Memory f = refl
memory_is _ f = cc

pub answer_only_tokens : (text : List ℕ) (r : Answer) → Answers text r → (lexemes : List Lexeme)
    → AreTokens text lexemes
    → MatchResult r (λ list. lexemes ≡ map (lexeme_of text) list.items) (λ e. e ≡ refused.Memory)
answer_only_tokens text (Ok list) a lexemes are =
    one_list text lexemes (map (lexeme_of text) list.items) are a
answer_only_tokens text (Err e) a lexemes are = go (fault_of e) refl a
  where
    go : (o : Option Fault) → fault_of e ≡ o → IfSome o (λ fault. LexicalFault text fault)
        → e ≡ refused.Memory
    go None f h = memory_is e f
    go (Some fault) f h = absurd (no_list text lexemes fault are h)

pub answer_only_fault : (text : List ℕ) (r : Answer) → Answers text r → (fault : Fault)
    → LexicalFault text fault
    → MatchResult r (λ _. ⊥) (λ e. (e ≡ refused.Memory) ⊎ (fault_of e ≡ Some fault))
answer_only_fault text (Ok list) a fault is = no_list text (map (lexeme_of text) list.items) fault a
    is
answer_only_fault text (Err e) a fault is = go (fault_of e) refl a
  where
    go : (o : Option Fault) → fault_of e ≡ o → IfSome o (λ other. LexicalFault text other)
        → (e ≡ refused.Memory) ⊎ (fault_of e ≡ Some fault)
    go None f h = inl (memory_is e f)
    go (Some other) f h = inr (f ∙ ap Some (one_fault text other fault h is))
