use Rattle.std.proofs.Common.{refl}
use Rattle.edd_methods.proofs.SameRuns.{followed_so}
use Rattle.edd_methods.proofs.laws.followed_units_agree.Goals as goal

pub returns : goal.returns
returns c text env code f follows = followed_so text env.types env code f refl follows
