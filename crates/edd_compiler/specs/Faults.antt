-- What the refusals of a text say of it.
use Rattle.std.specs.Prelude.{◌≢◌, List, ℕ, IsSomeAnd, ⊤}
use Rattle.edd_syntax.specs.Refusal.{TooMany}
use Rattle.edd_syntax.specs.declared.limits.Limit.TheVariants as limit
use Rattle.edd_lexer.specs.declared.fault.LexFault.{LexFault}
use Rattle.edd_lexer.specs.declared.fault.LexFault.TheVariants as lex
use Rattle.edd_lexer.specs.Faults.{LexicalFault}
use Rattle.edd_lexer.specs.Views.{fault_of}
use Rattle.edd_token_reader.specs.declared.fault.ParseFault.{ParseFault}
use Rattle.edd_token_reader.specs.declared.fault.ParseFault.TheVariants as parse
use Rattle.edd_breaches.specs.declared.fault.RuleFault.{RuleFault}
use Rattle.edd_breaches.specs.declared.fault.RuleFault.TheVariants as rule
use Rattle.edd_breaches.specs.Faults.{refusal_of_fault}
use Rattle.edd_code.specs.declared.fault.LowerFault.{LowerFault}
use Rattle.edd_code.specs.declared.fault.LowerFault.TheVariants as lower
use Rattle.edd_compiler.specs.declared.fault.Fault.{Fault}
use Rattle.edd_compiler.specs.declared.fault.Fault.TheVariants as fault
use Rattle.edd_compiler.specs.Sources.{HasNoUnit, IsRefused}

-- out of memory is one fault, whoever met it
abbrev pub of_lex : LexFault → Fault
of_lex lex.TooLong = fault.Lex lex.TooLong
of_lex (lex.NotUtf8 line) = fault.Lex (lex.NotUtf8 line)
of_lex (lex.BadCharacter line) = fault.Lex (lex.BadCharacter line)
of_lex (lex.OpenComment line) = fault.Lex (lex.OpenComment line)
of_lex (lex.OpenString line) = fault.Lex (lex.OpenString line)
of_lex (lex.BadEscape line) = fault.Lex (lex.BadEscape line)
of_lex (lex.BadNumber line) = fault.Lex (lex.BadNumber line)
of_lex (lex.Directive line) = fault.Lex (lex.Directive line)
of_lex lex.Memory = fault.Memory

-- a refusal by the parser
abbrev pub of_parse : ParseFault → Fault
of_parse (parse.Syntax at) = fault.Parse (parse.Syntax at)
of_parse (parse.TooDeep at) = fault.Parse (parse.TooDeep at)
of_parse (parse.Unsupported at word) = fault.Parse (parse.Unsupported at word)
of_parse parse.Memory = fault.Memory

-- a refusal by a rule on names or of the profile
abbrev pub of_rule : RuleFault → Fault
of_rule (rule.TooMany limit) = fault.Rule (rule.TooMany limit)
of_rule (rule.DuplicateName name) = fault.Rule (rule.DuplicateName name)
of_rule (rule.DuplicateAttribute word) = fault.Rule (rule.DuplicateAttribute word)
of_rule (rule.MissingAttribute item word) = fault.Rule (rule.MissingAttribute item word)
of_rule (rule.UnknownName name) = fault.Rule (rule.UnknownName name)
of_rule (rule.WrongKind name) = fault.Rule (rule.WrongKind name)
of_rule (rule.FloatVariable variable) = fault.Rule (rule.FloatVariable variable)
of_rule (rule.OtherType variable word) = fault.Rule (rule.OtherType variable word)
of_rule (rule.BadSize variable) = fault.Rule (rule.BadSize variable)
of_rule (rule.Mismatch at) = fault.Rule (rule.Mismatch at)
of_rule (rule.FloatValue at) = fault.Rule (rule.FloatValue at)
of_rule (rule.BreakOutside at) = fault.Rule (rule.BreakOutside at)
of_rule (rule.ConstRange at) = fault.Rule (rule.ConstRange at)
of_rule (rule.DuplicateCase at) = fault.Rule (rule.DuplicateCase at)
of_rule (rule.DuplicateElement at) = fault.Rule (rule.DuplicateElement at)
of_rule rule.Memory = fault.Memory

-- a refusal by a lowering
abbrev pub of_lower : LowerFault → Fault
of_lower lower.TooMany = fault.TooManyStrings
of_lower lower.Memory = fault.Memory

-- what can be met where code is written; of too many strings it says this
abbrev pub IsOfLowering : Type 0 → Fault → Type 0
IsOfLowering over (fault.Lex e) = ⊥
IsOfLowering over (fault.Parse e) = ⊥
IsOfLowering over (fault.Rule e) = ⊥
IsOfLowering over fault.TooManyStrings = over
IsOfLowering over fault.Memory = ⊤

-- A lexical fault is the text's. A syntax fault comes only where it has tokens, and they spell no
-- unit. A broken rule is the first of a unit that it spells. Nothing is said of memory, lack of
-- which is one fault, whoever met it.
abbrev pub Explains : List ℕ → Fault → Type 0
Explains text (fault.Lex e) = IsSomeAnd (fault_of e) (LexicalFault text)
Explains text (fault.Parse parse.Memory) = ⊥
Explains text (fault.Parse e) = HasNoUnit text
Explains text (fault.Rule e) = IsSomeAnd (refusal_of_fault e) (IsRefused text)
Explains text fault.TooManyStrings = IsRefused text (TooMany limit.Strings)
Explains text fault.Memory = ⊤

-- A fault of the text itself explains why it is refused.
abbrev pub HasFault : List ℕ → Type 0
HasFault text = (why : Fault) × (why ≢ fault.Memory) × Explains text why
