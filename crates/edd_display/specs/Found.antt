-- What a read gave, in the words of the reading.
use Rattle.edd_instructions.specs.Reading.{Reading, NoItem, Records, Fault}
use Rattle.edd_display.specs.declared.rows.Found.{Found}
use Rattle.edd_display.specs.declared.rows.Found.TheVariants as found

-- the reading that was found
abbrev pub reading_found : Found → Reading
reading_found found.Nothing = NoItem
reading_found (found.Records records) = Records records.items
reading_found (found.Trap why) = Fault why
