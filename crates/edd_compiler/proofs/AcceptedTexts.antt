-- A text that spells an accepted unit is refused for want of memory alone.
use Rattle.std.proofs.Common.{◌≡◌, refl, sym, ap, subst, ◌∙◌, ℕ, List, map, Option, Some, None}
use Rattle.std.specs.Prelude.{IsSomeAnd}
use Rattle.edd_syntax.specs.Reference.{Path}
use Rattle.edd_syntax.specs.Item.{Description}
use Rattle.edd_syntax.specs.ItemGrammar.{Spells}
use Rattle.edd_syntax.specs.Accepted.{IsAccepted, refusal}
use Rattle.edd_syntax.specs.Refusal.{Refusal, first_of}
use Rattle.edd_syntax.specs.Token as tokens
use Rattle.edd_lexer.specs.Tokens.{Lexeme, AreTokens}
use Rattle.edd_lexer.specs.declared.fault.Fault as lexical
use Rattle.edd_lexer.specs.Faults.{LexicalFault}
use Rattle.edd_lexer.specs.Views.{fault_of}
use Rattle.edd_token_reader.specs.declared.fault.ParseFault.TheVariants as parse
use Rattle.edd_breaches.specs.Faults.{refusal_of_fault}
use Rattle.edd_compiler.specs.declared.fault.Fault.{Fault}
use Rattle.edd_compiler.specs.declared.fault.Fault.TheVariants as fault
use Rattle.edd_compiler.specs.Faults.{Explains}
use Rattle.edd_compiler.specs.Sources.{HasNoUnit, IsUnitOf, IsRefused}

nothing_first : (why : Refusal) → None ≡ Some why → ⊥
nothing_first why e = cc

module _ (text : List ℕ) (unit : Description Path)
    (one_list : (some others : List Lexeme) → AreTokens text some → AreTokens text others
    → some ≡ others)
    (not_both : (some : List Lexeme) (why : lexical.Fault) → AreTokens text some
    → ¬ LexicalFault text why)
    (one_tree : (here : List tokens.Token) (a b : Description Path) → Spells here a
    → Spells here b → a ≡ b)
    (of : IsUnitOf text unit) (accepted : IsAccepted unit) where
  -- it is refused by no rule
  no_rule : (why : Refusal) → ¬ IsRefused text why
  no_rule why refused =
      let same_tokens = one_list refused.1.0 of.0 refused.1.1 of.1 in
      let spells = subst (λ ls. Spells (map (λ l. l.token) ls) refused.0) same_tokens refused.1.2 in
      let same = one_tree (map (λ l. l.token) of.0) refused.0 unit spells of.2 in
      nothing_first why (sym (ap first_of accepted.no_breach)
      ∙ (sym (ap refusal same) ∙ refused.2))

  none_of : (found : Option Refusal) → ¬ IsSomeAnd found (IsRefused text)
  none_of (Some why) is = no_rule why is
  none_of None is = is

  no_fault : (found : Option lexical.Fault) → ¬ IsSomeAnd found (LexicalFault text)
  no_fault (Some why) is = not_both of.0 why of.1 is
  no_fault None is = is

  some_unit : ¬ HasNoUnit text
  some_unit none =
      let same = one_list of.0 none.0 of.1 none.1 in
      none.2 unit (subst (λ ls. Spells (map (λ l. l.token) ls) unit) same of.2)

  pub memory_alone : (e : Fault) → Explains text e → e ≡ fault.Memory
  memory_alone (fault.Lex e) is = absurd (no_fault (fault_of e) is)
  memory_alone (fault.Parse (parse.Syntax at)) is = absurd (some_unit is)
  memory_alone (fault.Parse (parse.TooDeep at)) is = absurd (some_unit is)
  memory_alone (fault.Parse (parse.Unsupported at word)) is = absurd (some_unit is)
  memory_alone (fault.Parse parse.Memory) is = absurd is
  memory_alone (fault.Rule e) is = absurd (none_of (refusal_of_fault e) is)
  memory_alone fault.TooManyStrings is = absurd (no_rule _ is)
  memory_alone fault.Memory is = refl
