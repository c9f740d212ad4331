-- What a verdict says of a text, by the step that ends it.
use Rattle.std.proofs.Common.{refl, subst, sym}
use Rattle.std.specs.Prelude.{◌≡◌, ◌≢◌, ℕ, List, [], map, Option, Some, None, IfOk, IfSome, IsSomeAnd, Result, Ok, Err}
use Rattle.edd_breaches.specs.declared.breach.Breach.{Breach}
use Rattle.edd_breaches.specs.declared.fault.RuleFault.{RuleFault}
use Rattle.edd_breaches.specs.Faults.{refusal_of_fault}
use Rattle.edd_breaches.specs.Told.{told_of}
use Rattle.edd_compiler.specs.declared.fault.Fault.{Fault}
use Rattle.edd_compiler.specs.declared.fault.Fault.TheVariants as fault
use Rattle.edd_compiler.specs.Faults.{Explains, IsOfLowering}
use Rattle.edd_compiler.specs.Sources.{IsRefused, IsUnitOf}
use Rattle.edd_compiler.specs.Words.{IsRefusalOf, refusal_words, token_said}
use Rattle.edd_findings.specs.declared.found.Found.{Found}
use Rattle.edd_findings.specs.Breaches.{Lists}
use Rattle.edd_findings.specs.Found.{said_in, said_of}
use Rattle.edd_findings.specs.Verdicts.{FindsRest}
use Rattle.edd_lexer.specs.declared.token.Token.{Token}
use Rattle.edd_lexer.specs.Tokens.{AreTokens}
use Rattle.edd_lexer.specs.Views.{lexeme_of}
use Rattle.edd_names.specs.Units.{unit_view}
use Rattle.edd_syntax.specs.declared.numbers.TokenNo.{TokenNo}
use Rattle.edd_syntax.specs.declared.unit.Unit.{Unit}
use Rattle.edd_syntax.specs.Item.{Description}
use Rattle.edd_syntax.specs.Reference.{Path}
use Rattle.edd_syntax.specs.Refusal.{Refusal}

module _ (text : List ℕ) where
  has_unit : (o : Option Refusal) → IsSomeAnd o (IsRefused text)
      → (unit : Description Path) × IsUnitOf text unit
  has_unit (Some why) refused = (refused.0, refused.1)
  has_unit None refused = absurd refused

  -- a text that spells no unit breaks no rule
  pub none_before : (why : Fault) → why ≢ fault.Memory → Explains text why
      → ((unit : Description Path) → IsUnitOf text unit → why ≡ fault.Memory)
      → FindsRest text why []
  none_before (fault.Rule e) other explains memory =
      let unit = has_unit (refusal_of_fault e) explains in absurd (other (memory unit.0 unit.1))
  none_before _ other explains memory = refl

  -- a description whose image can't be written breaks none
  pub none_behind : (over : Type 0) (why : Fault) → IsOfLowering over why → FindsRest text why []
  none_behind over (fault.Rule e) is = absurd is
  none_behind over _ is = refl

  -- a refusal with a line, from the tokens of the text
  pub refusal_among : (words : List ℕ) (why : Fault) (given tokens : List Token)
      → words ≡ refusal_words text given why → given ≡ tokens
      → AreTokens text (map (lexeme_of text) tokens) → IsRefusalOf text why words
  refusal_among words why given tokens is same are =
      (tokens, subst (λ ts. words ≡ refusal_words text ts why) same is, in_any (token_said why))
    where
      in_any : (o : Option TokenNo)
          → IfSome o (λ at. AreTokens text (map (lexeme_of text) tokens))
      in_any (Some at) = are
      in_any None = tt

  -- where a broken rule is the fault, all that is told of the unit is found
  pub all_rules : {T E : Type 0} (items : T → List Found) (why : Fault) (rule : RuleFault)
      (unit : Unit) (tokens : List Token) (told before : List Breach) (r : Result T E) → why ≡ fault.Rule rule → IsUnitOf text (unit_view unit)
      → AreTokens text (map (lexeme_of text) tokens) → told ≡ before
      → Lists unit (map told_of before)
      → IfOk r (λ t. map said_of (items t) ≡ map (said_in text tokens) (map told_of told))
      → IfOk r (λ t. FindsRest text why (items t))
  all_rules items why rule unit tokens told before (Ok t) is spelled are same lists said =
      subst (λ w. FindsRest text w (items t)) (sym is) (
        unit,
        spelled,
        tokens,
        are,
        map told_of told,
        subst (λ bs. Lists unit (map told_of bs)) (sym same) lists,
        said,
      )
  all_rules items why rule unit tokens told before (Err e) is spelled are same lists said =
      tt
