use Rattle.edd_instructions.proofs.WorkedEdits.{first_55_short, first_85_length, other_magic, other_version, unknown_kind, blank_name, unknown_tag, unknown_instruction, jump_between, attribute_loops, pop_of_nothing, duplicate_of_nothing, variable_missing}
use Rattle.edd_instructions.proofs.worked.edits_break_their_rules.Goals as goal

pub returns-clause-first_55 : goal.returns-clause-first_55
returns-clause-first_55 c = first_55_short

pub returns-clause-first_85 : goal.returns-clause-first_85
returns-clause-first_85 c = first_85_length

pub returns-clause-other_magic : goal.returns-clause-other_magic
returns-clause-other_magic c = other_magic

pub returns-clause-other_version : goal.returns-clause-other_version
returns-clause-other_version c = other_version

pub returns-clause-unknown_kind : goal.returns-clause-unknown_kind
returns-clause-unknown_kind c = unknown_kind

pub returns-clause-blank_name : goal.returns-clause-blank_name
returns-clause-blank_name c = blank_name

pub returns-clause-unknown_tag : goal.returns-clause-unknown_tag
returns-clause-unknown_tag c = unknown_tag

pub returns-clause-unknown_instruction : goal.returns-clause-unknown_instruction
returns-clause-unknown_instruction c = unknown_instruction

pub returns-clause-jump_between : goal.returns-clause-jump_between
returns-clause-jump_between c = jump_between

pub returns-clause-attribute_loops : goal.returns-clause-attribute_loops
returns-clause-attribute_loops c = attribute_loops

pub returns-clause-pop_of_nothing : goal.returns-clause-pop_of_nothing
returns-clause-pop_of_nothing c = pop_of_nothing

pub returns-clause-duplicate_of_nothing : goal.returns-clause-duplicate_of_nothing
returns-clause-duplicate_of_nothing c = duplicate_of_nothing

pub returns-clause-variable_missing : goal.returns-clause-variable_missing
returns-clause-variable_missing c = variable_missing
