-- The further names of a class.
use Rattle.std.proofs.Common.{◌≡◌, List, ◌∷◌, Some, ap, ◌∙◌}
use Rattle.std.proofs.lemmas.Option.{some_pair_parts}
use Rattle.edd_syntax.specs.declared.operators.Operator.TheVariants as operator
use Rattle.edd_syntax.specs.declared.symbols.Symbol.TheVariants as sign
use Rattle.edd_syntax.specs.Text.{Name}
use Rattle.edd_syntax.specs.Token.{Token, Identifier, Sign}
use Rattle.edd_grammar.specs.WordReading.{more_names_at}
use Rattle.edd_token_reader.specs.SingleTokens.{further_name_at}

pub one_more_name : (here rest : List Token) (n : Name) → further_name_at here ≡ Some (n, rest)
    → ((more_names_at here).0 ≡ n ∷ (more_names_at rest).0)
    × ((more_names_at here).1 ≡ (more_names_at rest).1)
one_more_name (Sign (sign.Operator operator.And) ∷ Identifier m ∷ behind) rest n e =
    let parts = some_pair_parts m n behind rest e in (
      ap (λ (x : Name). x ∷ (more_names_at behind).0) parts.0
          ∙ ap (λ (t : List Token). n ∷ (more_names_at t).0) parts.1,
      ap (λ (t : List Token). (more_names_at t).1) parts.1,
    )
one_more_name _ rest n e = absurd cc
