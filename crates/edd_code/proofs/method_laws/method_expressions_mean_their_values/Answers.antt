use Rattle.edd_code.proofs.MethodValues.{means}
use Rattle.edd_code.proofs.method_laws.method_expressions_mean_their_values.Goals as goal

pub returns : goal.returns
returns c = λ text number env is_statement e fit known. means text number env is_statement e fit
    known
