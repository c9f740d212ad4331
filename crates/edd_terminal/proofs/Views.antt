-- The lines that are printed of an image are those of the unit that it agrees with.
use Rattle.std.proofs.Common.{◌≡◌, ℕ, ℤ, List, [], ◌∷◌, ◌++◌, Option, sym, ap, subst, ◌∙◌}
use Rattle.std.specs.List.{flat_map}
use Rattle.std.specs.Io.KnownBytes.{Appends}
use Rattle.edd_syntax.specs.declared.numbers.ItemNo.TheVariants as items
use Rattle.edd_syntax.specs.declared.numbers.Kind.TheVariants as kind
use Rattle.edd_syntax.specs.declared.reference.Target.{Target}
use Rattle.edd_syntax.specs.Attributes.{read_attribute}
use Rattle.edd_syntax.specs.DeviceValues.{AreDeviceValues}
use Rattle.edd_syntax.specs.Item.{Description}
use Rattle.edd_image.specs.Contents.{Contents, contents_in}
use Rattle.edd_instructions.specs.Agreement.{AgreesOnData}
use Rattle.edd_machine.specs.Types.{types_in}
use Rattle.edd_display.specs.Shown.{Entry, Head, Identification as identity, LineOf, Prints, Row, Shows, entries_of}
use Rattle.edd_script.specs.Named.{variables_in}
use Rattle.edd_script.specs.Scripts.{Said}
use Rattle.edd_promise.proofs.UnitReads.{device_of_unit, each_reads}
use Rattle.edd_program.specs.Runs.{IsSaid, IsShown}
use Rattle.edd_terminal.specs.Lines.{entry_shown, unit_shown}
use Rattle.edd_terminal.specs.Scripts.{IsSaidOf, variables_of}
use Rattle.edd_terminal.specs.Terminal.{ShowsUnit}
use Rattle.edd_terminal.proofs.Entries.{entries_are}
use Rattle.edd_terminal.proofs.Records.{head_is, identification_is, reading_is}
use Rattle.edd_terminal.proofs.SaidAlike.{script_alike}

module _ (unit : Description Target) (b : List ℕ) (agrees : AgreesOnData unit (contents_in b)) where
  abbrev c : Contents
  c = contents_in b

  -- what the script says of the image it says of the unit
  pub said_of_unit : (script : List ℕ) (said : Said) → IsSaid b script said
      → IsSaidOf unit script said
  said_of_unit script said is = (
    sym (script_alike (variables_in c) (variables_of unit) (agrees.counts kind.Variable)
        (λ number. agrees.names (items.Variable (record { 0 = number }))) script) ∙ is.0,
    device_of_unit unit b agrees said.values is.1,
  )

  module _ (values : List ℤ) (are : AreDeviceValues (types_in b) values) (code : List ℕ) where
    line_is : (e : Entry) (line : List ℕ) → LineOf b values code e line
        → line ≡ entry_shown unit code values e
    unfolding LineOf
    line_is identity line is = is ∙ identification_is unit c agrees
    line_is (Head item) line is = is ∙ head_is unit c agrees item
    line_is (Row ref) line is =
        is.2 ∙ reading_is unit c agrees code ref (read_attribute unit ref values) is.0
        (each_reads unit b agrees ref values are is.0 is.1)

    lines_are : (entries : List Entry) (text : List ℕ) → Shows b values code entries text
        → text ≡ flat_map (entry_shown unit code values) entries
    unfolding Shows
    lines_are [] text is = is
    lines_are (e ∷ rest) text is =
        is.4
        ∙ ap (λ (line : List ℕ). line ++ is.1) (line_is e is.0 is.2)
        ∙ ap (λ (others : List ℕ). entry_shown unit code values e ++ others)
        (lines_are rest is.1 is.3)

    pub prints_unit : (old new : Option (List ℕ)) → Prints b values code (entries_of c) old new
        → Appends old new (unit_shown unit code values)
    unfolding Prints unit_shown
    prints_unit old new is =
        subst (Appends old new)
        (lines_are (entries_of c) is.0 is.1
        ∙ ap (flat_map (entry_shown unit code values)) (entries_are unit b agrees values are)) is.2

  -- what is shown of the image is what the unit shows
  pub shows_unit : (script code : List ℕ) (old new : Option (List ℕ)) → IsShown b script code old new
      → ShowsUnit unit script code old new
  shows_unit script code old new is = (
    is.0,
    said_of_unit script is.0 is.1,
    prints_unit is.0.values is.1.1 code old new is.2,
  )
