-- What an answer says of the units that the tokens spell.
use Rattle.std.proofs.Common.{◌≡◌, ℕ, List, [], ◌∷◌, map, All, Option, Some, None, Result, Ok, Err, refl, sym, ◌∙◌, true, arith}
use Rattle.std.specs.Prelude.{IfOk, IfErr, MatchResult, IsTrue}
use Rattle.std.proofs.lemmas.List.Elements.{All-head, All-tail}
use Rattle.edd_syntax.specs.declared.unit.Unit as code_unit
use Rattle.edd_syntax.specs.Reference.{Path}
use Rattle.edd_syntax.specs.Item.{Identification, Item, Description}
use Rattle.edd_syntax.specs.ItemGrammar.{Spells}
use Rattle.edd_syntax.specs.WellFormed.{are_items}
use Rattle.edd_syntax.specs.Token.{Token, Identifier, Integer, String}
use Rattle.edd_lexer.specs.declared.token.Token as code_token
use Rattle.edd_lexer.specs.Kept.{IsKept, IsLexeme}
use Rattle.edd_lexer.specs.Tokens.{AreTokens}
use Rattle.edd_lexer.specs.Views.{lexeme_of}
use Rattle.edd_lexer.proofs.Keeping.{tokens_kept}
use Rattle.edd_grammar.specs.KeptTokens.{is_kept_token, Kept}
use Rattle.edd_grammar.specs.UnitReading.{unit_at, identification_at, items_at}
use Rattle.edd_grammar.proofs.KeptUnits.{unit_kept}
use Rattle.edd_grammar.proofs.Units.{unit_sound, unit_again}
use Rattle.edd_token_reader.specs.declared.fault.ParseFault.{ParseFault}
use Rattle.edd_token_reader.specs.declared.fault.ParseFault.TheVariants as fault
use Rattle.edd_token_reader.specs.TokenTexts.{tokens_in}
use Rattle.edd_parser.specs.Units.{unit_view, Answers}
use Rattle.edd_token_reader.specs.Views.{Says}

-- the items of a unit that is read from kept tokens are items
pub read_is_kept : (tokens : List Token) (unit : Description Path) → unit_at tokens ≡ Some unit
    → Kept tokens → IsTrue (are_items unit.items)
read_is_kept tokens unit e k = unit_kept tokens unit (unit_sound tokens unit e) k

-- the identification and the items are the unit
pub parts_read : (tokens from rest : List Token) (i : Identification) (items : List (Item Path))
    → identification_at tokens ≡ Some (i, from) → items_at from ≡ Some (items, rest)
    → unit_at tokens ≡ Some (record { identification = i; items = items })
unfolding unit_at
parts_read tokens from rest i items e f = rw e (rw f refl)

some_is_none : {A : Type 0} (o : Option A) (x : A) → o ≡ Some x → o ≡ None → ⊥
some_is_none (Some y) x e f = absurd cc
some_is_none None x e f = absurd cc

same_some : {A : Type 0} (o : Option A) (x y : A) → o ≡ Some x → o ≡ Some y → x ≡ y
same_some o x y e f = let g : Some x ≡ Some y = sym e ∙ f in cc

module _ (tokens : List Token) where
  pub answered_unit : (r : Result code_unit.Unit ParseFault) → Answers r (unit_at tokens)
      → IfOk r (λ u. Spells tokens (unit_view u))
  answered_unit (Ok u) a = unit_sound tokens (unit_view u) a
  answered_unit (Err e) a = tt

  none_spelled : unit_at tokens ≡ None → (unit : Description Path) → ¬ (Spells tokens unit)
  none_spelled e unit s = some_is_none (unit_at tokens) unit (unit_again tokens unit s) e

  pub answered_none : (r : Result code_unit.Unit ParseFault) → Answers r (unit_at tokens)
      → IfErr r (λ e. Says e ((unit : Description Path) → ¬ (Spells tokens unit)))
  answered_none (Ok u) a = tt
  answered_none (Err fault.Memory) a = tt
  answered_none (Err _) a = none_spelled a

  pub answered_only : (r : Result code_unit.Unit ParseFault) → Answers r (unit_at tokens)
      → (unit : Description Path) → Spells tokens unit
      → MatchResult r (λ u. unit_view u ≡ unit) (λ e. e ≡ fault.Memory)
  answered_only (Ok u) a unit s = same_some (unit_at tokens) (unit_view u) unit a
      (unit_again tokens unit s)
  answered_only (Err fault.Memory) a unit s = refl
  answered_only (Err _) a unit s = absurd (none_spelled a unit s)

-- ---- the tokens of a text are kept

token_kept : (t : Token) (size : ℕ) → IsKept t size → is_kept_token t ≡ true
token_kept (Identifier name) size h = h.0
token_kept (Integer n) size h = grind arith
token_kept (String raw) size h = h.0
token_kept _ size h = refl

all_kept : (text : List ℕ) (tokens : List code_token.Token)
    → All (IsLexeme text) (map (lexeme_of text) tokens) → Kept (tokens_in text tokens)
all_kept text [] h = refl
all_kept text (t ∷ rest) h =
    let first = All-head (IsLexeme text) (lexeme_of text t) (map (lexeme_of text) rest) h in
    let more = all_kept text rest
    (All-tail (IsLexeme text) (lexeme_of text t) (map (lexeme_of text) rest) h) in
    rw (token_kept (lexeme_of text t).token _ first.kept, more) refl

pub kept_tokens : (text : List ℕ) (tokens : List code_token.Token)
    → AreTokens text (map (lexeme_of text) tokens) → Kept (tokens_in text tokens)
kept_tokens text tokens are =
    all_kept text tokens (tokens_kept text (map (lexeme_of text) tokens) are)
