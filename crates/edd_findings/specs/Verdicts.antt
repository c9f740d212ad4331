-- What a verdict says of a text.
use Rattle.std.specs.Prelude.{◌≡◌, ◌≢◌, ℕ, List, [], map, string_bytes}
use Rattle.edd_breaches.specs.Told.{Told}
use Rattle.edd_code.specs.Units.{description_of}
use Rattle.edd_compiler.specs.declared.fault.Fault.{Fault}
use Rattle.edd_compiler.specs.declared.fault.Fault.TheVariants as fault
use Rattle.edd_compiler.specs.Faults.{Explains}
use Rattle.edd_compiler.specs.Images.{IsImageOf}
use Rattle.edd_compiler.specs.Sources.{IsDescriptionOf, IsUnitOf}
use Rattle.edd_compiler.specs.Words.{IsRefusalOf}
use Rattle.edd_findings.specs.declared.found.Found.{Found}
use Rattle.edd_findings.specs.declared.verdict.Accepted.{Accepted}
use Rattle.edd_findings.specs.declared.verdict.Refused.{Refused}
use Rattle.edd_findings.specs.declared.verdict.Verdict.{Verdict}
use Rattle.edd_findings.specs.declared.verdict.Verdict.TheVariants as verdict
use Rattle.edd_findings.specs.Breaches.{Lists}
use Rattle.edd_findings.specs.Found.{said_in, said_of}
use Rattle.edd_lexer.specs.declared.token.Token.{Token}
use Rattle.edd_lexer.specs.Tokens.{AreTokens}
use Rattle.edd_lexer.specs.Views.{lexeme_of}
use Rattle.edd_names.specs.Units.{unit_view}
use Rattle.edd_syntax.specs.declared.unit.Unit.{Unit}

-- The text spells a unit, and the rules that it breaks are found, each with its words and its place;
-- `Lists` says which these are.
abbrev pub FindsRules : (text : List ℕ) → List Found → Type 0
FindsRules text found = (unit : Unit) × IsUnitOf text (unit_view unit)
    × (tokens : List Token) × AreTokens text (map (lexeme_of text) tokens)
    × (told : List Told) × Lists unit told
    × (map said_of found ≡ map (said_in text tokens) told)

-- where a broken rule is the fault, they are found; else none is looked for
abbrev pub FindsRest : (text : List ℕ) → Fault → List Found → Type 0
FindsRest text (fault.Rule e) found = FindsRules text found
FindsRest text _ found = found ≡ []

-- The fault is the text's own, the refusal is what the compiler prints of it, and of a broken rule
-- the others are found too.
abbrev pub Refuses : (text : List ℕ) → Refused → Type 0
Refuses text r = (r.fault ≢ fault.Memory) × Explains text r.fault
    × IsRefusalOf text r.fault (string_bytes r.refusal)
    × FindsRest text r.fault r.breaches.items

-- These are the text's image, its tokens, and the description that it stands for.
abbrev pub Accepts : (text : List ℕ) → Accepted → Type 0
Accepts text a = IsImageOf text a.image.items
    × AreTokens text (map (lexeme_of text) a.tokens.items)
    × IsDescriptionOf text (description_of a.checked)

-- The text is accepted with its image, or refused for what is wrong with it.
abbrev pub Judges : (text : List ℕ) → Verdict → Type 0
Judges text (verdict.Accepted a) = Accepts text a
Judges text (verdict.Refused r) = Refuses text r
