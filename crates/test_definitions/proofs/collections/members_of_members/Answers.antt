use Rattle.std.proofs.Common.{refl}
use Rattle.test_definitions.proofs.collections.members_of_members.Goals as goal

pub returns-clause-variable : goal.returns-clause-variable
returns-clause-variable c = refl

pub returns-clause-member : goal.returns-clause-member
returns-clause-member c = refl

pub returns-clause-collection : goal.returns-clause-collection
returns-clause-collection c = refl

pub returns-clause-further : goal.returns-clause-further
returns-clause-further c = refl

pub returns-clause-no_member : goal.returns-clause-no_member
returns-clause-no_member c = refl

pub returns-clause-no_collection : goal.returns-clause-no_collection
returns-clause-no_collection c = refl

pub returns-clause-other_kind : goal.returns-clause-other_kind
returns-clause-other_kind c = refl
