use Rattle.std.proofs.Common.{sym, subst, List, map}
use Rattle.edd_syntax.specs.WordsView.{text_bytes}
use Rattle.std.specs.Prelude.{OnOk, IsErrOf, pos}
use Rattle.edd_syntax.specs.Attributes as source
use Rattle.edd_syntax.specs.ItemView.{response_code_of, numbered_cond, numbered_conds, numbered_data_item, numbered_entry, numbered_array_element, numbered_member, numbered_type_part}
use Rattle.edd_syntax.specs.SubsetRules.{values_in}
use Rattle.edd_syntax.specs.TreeView.{numbered_expr}
use Rattle.edd_syntax.specs.Words.{Words}
use Rattle.edd_syntax.specs.WordsView.{text_of}
use Rattle.edd_code.specs.declared.fault.LowerFault.TheVariants.{TooMany}
use Rattle.edd_attrs.specs.declared.trees.Tree.{Tree}
use Rattle.edd_code.specs.Tables.{Overflows}
use Rattle.edd_code.specs.Written.{WritesBlock}
use Rattle.edd_attrs.specs.Sizes.{tree_strings}
use Rattle.edd_attrs.specs.TreeBlocks.{IsTreeBlock}
use Rattle.edd_attrs.specs.Trees as trees
use Rattle.edd_attrs.specs.Views.{tree_of}
use Rattle.edd_attrs.specs.Writing.{WritesRecord}
use Rattle.edd_attrs.proofs.Carried.{carried}
use Rattle.edd_attrs.proofs.TreeStrings.{always, of_texts, of_class, of_handling, of_validity, of_expressions, of_enumerators, of_data_items, of_responses, of_items, of_array_elements, of_members}
use Rattle.edd_attrs.proofs.TreeWrites.{written, overflows}
use Rattle.edd_attrs.proofs.lowering.write_tree.Goals as goal

pub write_all-requires : goal.write_all-requires
write_all-requires c = always (map text_bytes c.in-Class.names.now)

pub write_cond-requires-in-Handling : goal.write_cond-requires-in-Handling
write_cond-requires-in-Handling c = always (values_in (numbered_cond (λ h. h) c.in-Handling.c.now))

pub write_cond-requires-in-Validity : goal.write_cond-requires-in-Validity
write_cond-requires-in-Validity c = always (values_in (numbered_cond (λ b. b) c.in-Validity.c.now))

pub write_cond-requires-in-Expressions : goal.write_cond-requires-in-Expressions
write_cond-requires-in-Expressions c =
    always (values_in (numbered_cond numbered_expr c.in-Expressions.c.now))

pub returns-in-Texts-clause-sound : goal.returns-in-Texts-clause-sound
unfolding IsTreeBlock
returns-in-Texts-clause-sound c =
    carried c.write_cond.result (written c.in-Texts.is (of_texts _)) c.write_cond.ensures.sound

pub returns-in-Texts-clause-refused : goal.returns-in-Texts-clause-refused
returns-in-Texts-clause-refused c = overflows c.in-Texts.is (of_texts _) c.write_cond.ensures.refused

pub returns-in-Class-clause-sound : goal.returns-in-Class-clause-sound
unfolding IsTreeBlock
returns-in-Class-clause-sound c =
    carried c.write_all.result (written c.in-Class.is (of_class _)) c.write_all.ensures.sound

pub returns-in-Class-clause-refused : goal.returns-in-Class-clause-refused
returns-in-Class-clause-refused c = overflows c.in-Class.is (of_class _) c.write_all.ensures.refused

pub returns-in-Handling-clause-sound : goal.returns-in-Handling-clause-sound
unfolding IsTreeBlock
returns-in-Handling-clause-sound c =
    carried c.write_cond-in-Handling.result (written c.in-Handling.is (of_handling _)) c.write_cond-in-Handling.ensures.sound

pub returns-in-Handling-clause-refused : goal.returns-in-Handling-clause-refused
returns-in-Handling-clause-refused c = overflows c.in-Handling.is (of_handling _) c.write_cond-in-Handling.ensures.refused

pub returns-in-Validity-clause-sound : goal.returns-in-Validity-clause-sound
unfolding IsTreeBlock
returns-in-Validity-clause-sound c =
    carried c.write_cond-in-Validity.result (written c.in-Validity.is (of_validity _)) c.write_cond-in-Validity.ensures.sound

pub returns-in-Validity-clause-refused : goal.returns-in-Validity-clause-refused
returns-in-Validity-clause-refused c = overflows c.in-Validity.is (of_validity _) c.write_cond-in-Validity.ensures.refused

pub returns-in-Expressions-clause-sound : goal.returns-in-Expressions-clause-sound
unfolding IsTreeBlock
returns-in-Expressions-clause-sound c =
    carried c.write_cond-in-Expressions.result (written c.in-Expressions.is (of_expressions _)) c.write_cond-in-Expressions.ensures.sound

pub returns-in-Expressions-clause-refused : goal.returns-in-Expressions-clause-refused
returns-in-Expressions-clause-refused c = overflows c.in-Expressions.is (of_expressions _) c.write_cond-in-Expressions.ensures.refused

pub returns-in-Enumerators-clause-sound : goal.returns-in-Enumerators-clause-sound
unfolding IsTreeBlock
returns-in-Enumerators-clause-sound c =
    carried c.write_parts.result (written c.in-Enumerators.is (of_enumerators _)) c.write_parts.ensures.sound

pub returns-in-Enumerators-clause-refused : goal.returns-in-Enumerators-clause-refused
returns-in-Enumerators-clause-refused c = overflows c.in-Enumerators.is (of_enumerators _) c.write_parts.ensures.refused

pub returns-in-Data-clause-sound : goal.returns-in-Data-clause-sound
unfolding IsTreeBlock
returns-in-Data-clause-sound c =
    carried c.write_conds.result (written c.in-Data.is (of_data_items _)) c.write_conds.ensures.sound

pub returns-in-Data-clause-refused : goal.returns-in-Data-clause-refused
returns-in-Data-clause-refused c = overflows c.in-Data.is (of_data_items _) c.write_conds.ensures.refused

pub returns-in-ResponseCodes-clause-sound : goal.returns-in-ResponseCodes-clause-sound
unfolding IsTreeBlock
returns-in-ResponseCodes-clause-sound c =
    carried c.write_all-in-ResponseCodes.result (written c.in-ResponseCodes.is (of_responses _)) c.write_all-in-ResponseCodes.ensures.sound

pub returns-in-ResponseCodes-clause-refused : goal.returns-in-ResponseCodes-clause-refused
returns-in-ResponseCodes-clause-refused c = overflows c.in-ResponseCodes.is (of_responses _) c.write_all-in-ResponseCodes.ensures.refused

pub returns-in-Items-clause-sound : goal.returns-in-Items-clause-sound
unfolding IsTreeBlock
returns-in-Items-clause-sound c =
    carried c.write_conds-in-Items.result (written c.in-Items.is (of_items _)) c.write_conds-in-Items.ensures.sound

pub returns-in-Items-clause-refused : goal.returns-in-Items-clause-refused
returns-in-Items-clause-refused c = overflows c.in-Items.is (of_items _) c.write_conds-in-Items.ensures.refused

pub returns-in-Members-clause-sound : goal.returns-in-Members-clause-sound
unfolding IsTreeBlock
returns-in-Members-clause-sound c =
    carried c.write_all-in-Members.result (written c.in-Members.is (of_members _)) c.write_all-in-Members.ensures.sound

pub returns-in-Members-clause-refused : goal.returns-in-Members-clause-refused
returns-in-Members-clause-refused c = overflows c.in-Members.is (of_members _) c.write_all-in-Members.ensures.refused

pub returns-in-Elements-clause-sound : goal.returns-in-Elements-clause-sound
unfolding IsTreeBlock
returns-in-Elements-clause-sound c =
    carried c.write_all-in-Elements.result (written c.in-Elements.is (of_array_elements _)) c.write_all-in-Elements.ensures.sound

pub returns-in-Elements-clause-refused : goal.returns-in-Elements-clause-refused
returns-in-Elements-clause-refused c = overflows c.in-Elements.is (of_array_elements _) c.write_all-in-Elements.ensures.refused

pub returns-in_ok-write_number-in-Number-clause-sound :
    goal.returns-in_ok-write_number-in-Number-clause-sound
unfolding IsTreeBlock tree_strings
returns-in_ok-write_number-in-Number-clause-sound c =
    subst (λ (t : Tree). WritesBlock c.args.table.now c.args.code.now (tree_strings (tree_of t))
    (λ numbered b. IsTreeBlock numbered (tree_of t) b) c.args.table.now c.write_number.new.code)
    (sym (c.in-Number.is))
    (c.in_ok-write_number-in-Number.ensures c.args.table.now)

pub returns-in_ok-write_number-in-Operation-clause-sound :
    goal.returns-in_ok-write_number-in-Operation-clause-sound
unfolding IsTreeBlock tree_strings
returns-in_ok-write_number-in-Operation-clause-sound c =
    subst (λ (t : Tree). WritesBlock c.args.table.now c.args.code.now (tree_strings (tree_of t))
    (λ numbered b. IsTreeBlock numbered (tree_of t) b) c.args.table.now
    c.write_number-in-Operation.new.code) (sym (c.in-Operation.is))
    (subst (λ n. WritesRecord c.args.table.now c.args.code.now (source.Number (pos n))
    c.args.table.now c.write_number-in-Operation.new.code) c.operation_number.ensures
    (c.in_ok-write_number-in-Operation.ensures c.args.table.now))

pub returns-in_ok-write_optional_number-in-Transaction-clause-sound :
    goal.returns-in_ok-write_optional_number-in-Transaction-clause-sound
unfolding IsTreeBlock tree_strings
returns-in_ok-write_optional_number-in-Transaction-clause-sound c =
    subst (λ (t : Tree). WritesBlock c.args.table.now c.args.code.now (tree_strings (tree_of t))
    (λ numbered b. IsTreeBlock numbered (tree_of t) b) c.args.table.now
    c.write_optional_number.new.code) (sym c.in-Transaction.is)
    (c.in_ok-write_optional_number-in-Transaction.ensures c.args.table.now)
