use Rattle.std.proofs.Common.{◌≡◌, sym, ap, subst, ◌∙◌, ◌≤◌, ◌++◌, map, ℕ}
use Rattle.std.specs.Prelude.{IsTrue}
use Rattle.std.specs.List.{list_all}
use Rattle.edd_syntax.specs.declared.reference.Target.{Target}
use Rattle.edd_syntax.specs.Execution.{body_of}
use Rattle.edd_syntax.specs.Statement.{Body, body_from, slots_in}
use Rattle.edd_syntax.specs.Strings.{strings_of_texts}
use Rattle.edd_syntax.specs.TreeView.{numbered_part}
use Rattle.edd_syntax.specs.WellFormed.{is_text}
use Rattle.edd_instructions.specs.MethodAgreement.{IsMethodCode}
use Rattle.edd_code.specs.declared.fault.LowerFault.TheVariants.{TooMany}
use Rattle.edd_code.specs.Tables.{Overflows}
use Rattle.edd_code.specs.Units.{description_of}
use Rattle.edd_methods.specs.LoweredMethods.{LowersBody, found_body}
use Rattle.edd_methods.specs.Writing.{body_texts}
use Rattle.edd_methods.proofs.LoweredMethods.{body_is_found, fault_again, few_slots, lowered_is_code, lowered_is_short, lowered_strings, overflowing, texts_when_checked}
use Rattle.edd_methods.proofs.method.lower_found.Goals as goal
use Rattle.edd_methods.proofs.method.lower_found.Goals.{In-Ok}

-- the body that was found is the method's
abbrev same : (c : goal.In-Ok) → body_from (map numbered_part c.body_found-body.result.now)
    ≡ body_of (description_of c.args.checked.now) c.args.method
same c = c.body_found-body.ensures ∙ ap found_body c.requires
    ∙ body_is_found (description_of c.args.checked.now) c.args.method

-- what was lowered is that of the method
abbrev lowered : (c : goal.In-Ok)
    → LowersBody c.args.table.now (body_of (description_of c.args.checked.now) c.args.method)
    c.lower_body.new.table c.in-Ok.code.items
lowered c = subst (λ (b : Body Target). LowersBody c.args.table.now b c.lower_body.new.table
    c.in-Ok.code.items) (same c) c.in-Ok.ensures.sound

pub slots_in-slots-requires : goal.slots_in-slots-requires
slots_in-slots-requires c =
    subst (λ (b : Body Target). slots_in b ≤ 64)
    (sym (c.body_found-body.ensures ∙ ap found_body c.requires
    ∙ body_is_found (description_of c.args.checked.now) c.args.method))
    (few_slots (description_of c.args.checked.now) c.args.checked.now.checked c.args.method)

pub lower_body-requires : goal.lower_body-requires
lower_body-requires c = record {
  texts = subst (λ (b : Body Target). IsTrue (list_all is_text (body_texts b)))
      (sym (c.body_found-body.ensures ∙ ap found_body c.requires
      ∙ body_is_found (description_of c.args.checked.now) c.args.method))
      (texts_when_checked (description_of c.args.checked.now) c.args.checked.now.checked
      c.args.method);
}

pub returns-in-Ok-clause-sound : goal.returns-in-Ok-clause-sound
returns-in-Ok-clause-sound c more few =
    let d = description_of c.args.checked.now in
    subst (λ (n : ℕ). IsMethodCode d (c.lower_body.new.table ++ more) c.args.method n
    c.in-Ok.code.items) (sym (c.slots_in-slots.ensures ∙ ap slots_in (same c)))
    (lowered_is_code d c.args.checked.now.checked c.args.method c.args.table.now
    c.lower_body.new.table c.in-Ok.code.items c.words.ensures.different (lowered c) more few)

pub returns-in-Ok-clause-strings : goal.returns-in-Ok-clause-strings
returns-in-Ok-clause-strings c w =
    let d = description_of c.args.checked.now in
    lowered_strings d c.args.checked.now.checked c.args.method (lowered c) w

pub returns-in-Ok-clause-size : goal.returns-in-Ok-clause-size
returns-in-Ok-clause-size c =
    let d = description_of c.args.checked.now in
    lowered_is_short d c.args.checked.now.checked c.args.method c.args.table.now
    c.lower_body.new.table c.in-Ok.code.items c.words.ensures.different (lowered c)

pub returns-in-Err-clause-refused : goal.returns-in-Err-clause-refused
returns-in-Err-clause-refused c many =
    let d = description_of c.args.checked.now in
    overflowing d c.args.checked.now.checked c.args.method c.words.ensures.different
    (subst (λ (b : Body Target). Overflows c.args.table.now (strings_of_texts (body_texts b)))
    (c.body_found-body.ensures ∙ ap found_body c.requires ∙ body_is_found d c.args.method)
    (c.in-Err.ensures.refused (fault_again c.in-Err.fault TooMany many)))
