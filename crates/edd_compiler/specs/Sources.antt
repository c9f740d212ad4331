-- The unit that a text of the source spells, and the description that it stands for.
use Rattle.std.specs.Prelude.{◌≡◌, ℕ, List, map, Some}
use Rattle.edd_syntax.specs.Reference.{Path}
use Rattle.edd_syntax.specs.declared.reference.Target.{Target}
use Rattle.edd_syntax.specs.Item.{Description}
use Rattle.edd_syntax.specs.ItemGrammar.{Spells}
use Rattle.edd_syntax.specs.Accepted.{refusal}
use Rattle.edd_syntax.specs.Refusal.{Refusal}
use Rattle.edd_syntax.specs.Resolved.{IsChecked}
use Rattle.edd_lexer.specs.Tokens.{Lexeme, AreTokens}

-- its tokens spell the unit
abbrev pub IsUnitOf : List ℕ → Description Path → Type 0
IsUnitOf text unit = (lexemes : List Lexeme) × AreTokens text lexemes
    × Spells (map (λ l. l.token) lexemes) unit

-- it has tokens, and they spell no unit
abbrev pub HasNoUnit : List ℕ → Type 0
HasNoUnit text = (lexemes : List Lexeme) × AreTokens text lexemes
    × ((unit : Description Path) → ¬ Spells (map (λ l. l.token) lexemes) unit)

-- The text spells the unit that this description comes from, and no rule is broken, but perhaps the
-- one on the number of strings.
abbrev pub IsDescriptionOf : List ℕ → Description Target → Type 0
IsDescriptionOf text d = (checked : IsChecked d) × IsUnitOf text checked.is_resolved.unit

-- this is the first broken rule of a unit that the text spells
abbrev pub IsRefused : List ℕ → Refusal → Type 0
IsRefused text why = (unit : Description Path) × IsUnitOf text unit × (refusal unit ≡ Some why)
