-- Texts with the same tokens have the same images.
use Rattle.std.proofs.Common.{◌≡◌, ℕ, List, [], ◌∷◌, map, refl, sym, ap, subst, ◌∙◌}
use Rattle.std.specs.Prelude.{◌↔◌}
use Rattle.edd_syntax.specs.Reference.{Path}
use Rattle.edd_syntax.specs.Refusal.{Refusal}
use Rattle.edd_syntax.specs.Token.{Token}
use Rattle.edd_syntax.specs.Item.{Description}
use Rattle.edd_syntax.specs.ItemGrammar.{Spells}
use Rattle.edd_lexer.specs.Tokens.{AreTokens, Lexeme}
use Rattle.edd_layout.specs.Same.{SameTokens, spelled}
use Rattle.edd_lexer.proofs.Texts.{one_list}
use Rattle.edd_compiler.specs.Images.{IsImageOf}
use Rattle.edd_compiler.specs.Sources.{IsRefused, IsUnitOf}

abbrev tokens_of : List Lexeme → List Token
tokens_of lexemes = map (λ l. l.token) lexemes

module _ (text other : List ℕ) (lexemes others : List Lexeme) (of_text : AreTokens text lexemes)
    (of_other : AreTokens other others) (same : tokens_of lexemes ≡ tokens_of others) where
  same_unit : (unit : Description Path) → IsUnitOf text unit → IsUnitOf other unit
  same_unit unit is =
      let one : is.0 ≡ lexemes = one_list text is.0 lexemes is.1 of_text in (
        others,
        of_other,
        subst (λ (ts : List Token). Spells ts unit) (ap tokens_of one ∙ same) is.2,
      )

  same_image : (b : List ℕ) → IsImageOf text b → IsImageOf other b
  same_image b is = record {
    unit = is.unit;
    spelled = same_unit is.unit is.spelled;
    accepted = is.accepted;
    valid = is.valid;
    agrees = is.agrees;
  }

  same_refusal : (why : Refusal) → IsRefused text why → IsRefused other why
  same_refusal why is = (is.0, same_unit is.0 is.1, is.2)

-- both ways

pub same_images : (text other : List ℕ) (lexemes others : List Lexeme) → AreTokens text lexemes
    → AreTokens other others → tokens_of lexemes ≡ tokens_of others → (b : List ℕ)
    → IsImageOf text b ↔ IsImageOf other b
same_images text other lexemes others are_of are same b = (
  same_image text other lexemes others are_of are same b,
  same_image other text others lexemes are are_of (sym same) b,
)

pub same_refusals : (text other : List ℕ) (lexemes others : List Lexeme) → AreTokens text lexemes
    → AreTokens other others → tokens_of lexemes ≡ tokens_of others → (why : Refusal)
    → IsRefused text why ↔ IsRefused other why
same_refusals text other lexemes others are_of are same why = (
  same_refusal text other lexemes others are_of are same why,
  same_refusal other text others lexemes are are_of (sym same) why,
)

-- ---- layouts

-- the tokens are the first parts of what is spelled
firsts : (text : List ℕ) (lexemes : List Lexeme)
    → map (λ s. s.0) (map (spelled text) lexemes) ≡ tokens_of lexemes
firsts text [] = refl
firsts text (l ∷ rest) = ap (λ (ts : List Token). l.token ∷ ts) (firsts text rest)

pub laid_tokens : (text laid : List ℕ) (is : SameTokens text laid)
    → tokens_of is.lexemes ≡ tokens_of is.others
laid_tokens text laid is =
    sym (firsts text is.lexemes) ∙ ap (map (λ (s : Token × List ℕ). s.0)) is.same
    ∙ firsts laid is.others
