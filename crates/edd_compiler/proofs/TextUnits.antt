-- The tokens that the parser reads are those of the text.
use Rattle.std.proofs.Common.{◌≡◌, refl, sym, ap, subst, ◌∙◌, ℕ, List, [], ◌∷◌, map}
use Rattle.edd_syntax.specs.Reference.{Path}
use Rattle.edd_syntax.specs.Item.{Description}
use Rattle.edd_syntax.specs.ItemGrammar.{Spells}
use Rattle.edd_lexer.specs.declared.token.Token.{Token}
use Rattle.edd_lexer.specs.Tokens.{Lexeme, AreTokens}
use Rattle.edd_lexer.specs.Views.{lexeme_of}
use Rattle.edd_token_reader.specs.declared.fault.ParseFault.{ParseFault}
use Rattle.edd_token_reader.specs.declared.fault.ParseFault.TheVariants as parse
use Rattle.edd_parser.specs.TokenTexts.{tokens_in}
use Rattle.edd_parser.specs.Views.{Says}
use Rattle.edd_compiler.specs.Faults.{of_parse, Explains}
use Rattle.edd_compiler.specs.Sources.{HasNoUnit, IsUnitOf}

same_tokens : (text : List ℕ) (tokens : List Token) → tokens_in text tokens
    ≡ map (λ l. l.token) (map (lexeme_of text) tokens)
same_tokens text [] = refl
same_tokens text (t ∷ rest) = ap (λ ts. (lexeme_of text t).token ∷ ts) (same_tokens text rest)

module _ (text : List ℕ) (tokens read : List Token)
    (are : AreTokens text (map (lexeme_of text) tokens)) (same : read ≡ tokens) where
  tokens_read : tokens_in text read ≡ map (λ l. l.token) (map (lexeme_of text) tokens)
  tokens_read = ap (tokens_in text) same ∙ same_tokens text tokens

  -- a unit that the tokens read spell is one of the text
  pub is_unit : (unit : Description Path) → Spells (tokens_in text read) unit → IsUnitOf text unit
  is_unit unit spells = (
    map (lexeme_of text) tokens,
    are,
    subst (λ ts. Spells ts unit) tokens_read
        spells,
  )

  -- where they spell none, the text's don't
  pub no_unit : ((unit : Description Path) → ¬ Spells (tokens_in text read) unit) → HasNoUnit text
  no_unit none = (
    map (lexeme_of text) tokens,
    are,
    λ unit spells. none unit (subst (λ ts. Spells ts unit) (sym tokens_read) spells),
  )

  -- and there is no other, where the text has no other tokens
  pub is_spelled : ((lexemes : List Lexeme) → AreTokens text lexemes
      → lexemes ≡ map (lexeme_of text) tokens) → (unit : Description Path) → IsUnitOf text unit
      → Spells (tokens_in text read) unit
  is_spelled only unit of = subst (λ ts. Spells ts unit) (ap (map (λ l. l.token)) (only of.0 of.1)
      ∙ sym tokens_read) of.2

-- what a refusal of the parser says of the text
pub explained : (text : List ℕ) (e : ParseFault) (P : Type 0)
    → (P → HasNoUnit text) → Says e P → Explains text (of_parse e)
explained text parse.Memory P none says = says
explained text _ P none says = none says
