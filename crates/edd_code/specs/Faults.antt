-- How faults of strings become those of a lowering.
use Rattle.edd_strings.specs.declared.fault.StringFault.{StringFault}
use Rattle.edd_strings.specs.declared.fault.StringFault.TheVariants as string_fault
use Rattle.edd_code.specs.declared.fault.LowerFault.{LowerFault}
use Rattle.edd_code.specs.declared.fault.LowerFault.TheVariants.{TooMany, Memory}

-- a fault of strings as one of lowering, which is only given texts without a bad escape
abbrev pub lower_fault_of : StringFault → LowerFault
lower_fault_of string_fault.BadEscape = Memory
lower_fault_of string_fault.TooMany = TooMany
lower_fault_of string_fault.Memory = Memory
