use Rattle.std.proofs.Common.{subst, sym}
use Rattle.std.specs.Prelude.{OnOk}
use Rattle.edd_syntax.specs.declared.item.MenuEntry.{MenuEntry}
use Rattle.edd_syntax.specs.declared.reference.Target.{Target}
use Rattle.edd_syntax.specs.Attributes.{entry}
use Rattle.edd_syntax.specs.ItemView.{numbered_entry}
use Rattle.edd_attrs.specs.Writing.{WritesRecord}
use Rattle.edd_attrs.proofs.elements.MenuEntryTargetElement.write.Goals as goal

pub returns-in-Text-clause-sound : goal.returns-in-Text-clause-sound
returns-in-Text-clause-sound c =
    subst (λ (e : MenuEntry Target). OnOk c.write.result
    (WritesRecord c.args.table.now c.args.code.now (entry (numbered_entry e)) c.write.new.table
    c.write.new.code)) (sym c.in-Text.is) c.write.ensures.sound

pub returns-in_ok-write_item-in-Reference-clause-sound :
    goal.returns-in_ok-write_item-in-Reference-clause-sound
returns-in_ok-write_item-in-Reference-clause-sound c =
    subst (λ (e : MenuEntry Target). WritesRecord c.args.table.now c.args.code.now
    (entry (numbered_entry e)) c.args.table.now c.write_item.new.code) (sym c.in-Reference.is)
    (c.in_ok-write_item-in-Reference.ensures c.args.table.now)
