use Rattle.edd_instructions.proofs.FollowedRuns.{follows_agrees}
use Rattle.edd_instructions.proofs.laws.followed_runs_agree.Goals as goal

pub returns : goal.returns
returns c string_numbered types source follow env start follows = follows_agrees string_numbered
    types source follow env start follows
