use Rattle.edd_panel.specs.Found.{reading_of}
use Rattle.edd_panel.specs.Screens.{is_valid}
use Rattle.edd_panel.proofs.TopMarks.{no_valid_menu, valid_menu}
use Rattle.edd_panel.proofs.entries.shown_menu.Goals as goal

pub returns-then-is_valid : goal.returns-then-is_valid
returns-then-is_valid c = (
  reading_of c.in_ok-validity.validity,
  c.in_ok-validity.ensures,
  valid_menu c.is_valid.result (is_valid (reading_of c.in_ok-validity.validity)) c.args.menu
      c.is_valid.ensures c.if-is_valid.true,
)

pub returns : goal.returns
returns c = (
  reading_of c.in_ok-validity.validity,
  c.in_ok-validity.ensures,
  no_valid_menu c.is_valid.result (is_valid (reading_of c.in_ok-validity.validity)) c.args.menu
      c.is_valid.ensures c.if-is_valid.false,
)
