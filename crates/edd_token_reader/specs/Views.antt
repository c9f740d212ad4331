-- What the code's tokens, operators and answers stand for.
use Rattle.std.specs.Prelude.{◌≡◌, List, Option, Some, None, Result, Ok, Err}
use Rattle.edd_syntax.specs.Token as pure
use Rattle.edd_syntax.specs.Grammar as grammar
use Rattle.edd_grammar.specs.Reading.{Read}
use Rattle.edd_grammar.specs.Signs as signs
use Rattle.edd_token_reader.specs.declared.operators.Site.{Site}
use Rattle.edd_token_reader.specs.declared.operators.Site.TheVariants as site
use Rattle.edd_token_reader.specs.declared.operators.Infix.{Infix}
use Rattle.edd_token_reader.specs.declared.operators.Infix.TheVariants as between
use Rattle.edd_token_reader.specs.declared.operators.Assignment.{Assignment}
use Rattle.edd_token_reader.specs.declared.operators.Assignment.TheVariants as assignment
use Rattle.edd_token_reader.specs.declared.fault.ParseFault.{ParseFault}
use Rattle.edd_token_reader.specs.declared.fault.ParseFault.TheVariants as fault

-- a site, as the grammar's
abbrev pub site_view : Site → grammar.Site
site_view site.Attribute = grammar.InAttribute
site_view site.Method = grammar.InMethod

-- an operator between two operands, as the grammar's
abbrev pub infix_view : Infix → signs.Infix
infix_view (between.Plain op) = signs.Plain op
infix_view (between.Comparing by) = signs.Comparing by
infix_view between.Both = signs.Both
infix_view between.Either = signs.Either

-- an assignment, as the grammar's
abbrev pub assignment_view : Assignment → signs.Assignment
assignment_view assignment.Simple = signs.Simple
assignment_view (assignment.Compound op) = signs.Compound op

-- What a refusal says: this, unless memory ran out.
abbrev pub Says : ParseFault → Type 0 → Type 0
Says (fault.Syntax at) P = P
Says (fault.TooDeep at) P = P
Says (fault.Unsupported at word) P = P
Says fault.Memory P = Unit {0}

-- What a call answered, seen by `view`, with the tokens that it left, is what reading gives, unless
-- memory ran out.
abbrev pub Gives : {X Y : Type 0} → (X → Y) → Result X ParseFault → List pure.Token → Read Y
    → Type 0
Gives view (Ok x) left read = read ≡ Some (view x, left)
Gives view (Err fault.Memory) left read = Unit {0}
Gives view (Err (fault.Syntax at)) left read = read ≡ None
Gives view (Err (fault.TooDeep at)) left read = read ≡ None
Gives view (Err (fault.Unsupported at word)) left read = read ≡ None

-- the same of a call that gives nothing but the tokens left
abbrev pub Leaves : Result Unit ParseFault → List pure.Token → Option (List pure.Token) → Type 0
Leaves (Ok u) left read = read ≡ Some left
Leaves (Err fault.Memory) left read = Unit {0}
Leaves (Err (fault.Syntax at)) left read = read ≡ None
Leaves (Err (fault.TooDeep at)) left read = read ≡ None
Leaves (Err (fault.Unsupported at word)) left read = read ≡ None

-- What a call took from the front, seen by `view`, is what reading gives; where it took nothing,
-- the tokens stay.
abbrev pub Takes : {X Y : Type 0} → (X → Y) → Option X → List pure.Token → List pure.Token → Read Y
    → Type 0
Takes view (Some x) here left read = read ≡ Some (view x, left)
Takes view None here left read = (read ≡ None) × (left ≡ here)
