-- The fault of a message that is not read.
use Rattle.edd_machine.specs.declared.fault.ReadFault.{ReadFault}
use Rattle.edd_machine.specs.declared.fault.ReadFault.TheVariants as read_fault
use Rattle.edd_octets.specs.declared.fault.OctetsFault.{OctetsFault}
use Rattle.edd_octets.specs.declared.fault.OctetsFault.TheVariants as fault

-- out of memory is one fault, whether the items or the octets ask for it
abbrev pub fault_of_reading : ReadFault → OctetsFault
fault_of_reading read_fault.Memory = fault.Memory
fault_of_reading why = fault.Read why
