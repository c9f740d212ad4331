-- The numbers that calls for C answer.
use Rattle.std.specs.Prelude.{ℕ}
use Rattle.edd_loader.specs.declared.fault.LoadFault.{LoadFault}
use Rattle.edd_loader.specs.declared.fault.LoadFault.TheVariants as load_fault
use Rattle.edd_machine.specs.declared.fault.ReadFault.{ReadFault}
use Rattle.edd_machine.specs.declared.fault.ReadFault.TheVariants as read_fault
use Rattle.edd_octets.specs.declared.fault.OctetsFault.{OctetsFault}
use Rattle.edd_octets.specs.declared.fault.OctetsFault.TheVariants as octets_fault
use Rattle.edd_port.specs.declared.fault.AnswerFault.{AnswerFault}
use Rattle.edd_port.specs.declared.fault.AnswerFault.TheVariants as answer_fault
use Rattle.edd_port.specs.declared.fault.PlayFault.{PlayFault}
use Rattle.edd_port.specs.declared.fault.PlayFault.TheVariants as play_fault
use Rattle.edd_port.specs.declared.fault.StartFault.{StartFault}
use Rattle.edd_port.specs.declared.fault.StartFault.TheVariants as start_fault
use Rattle.edd_embed.specs.declared.carriers.ListFault.{ListFault}
use Rattle.edd_embed.specs.declared.carriers.ListFault.TheVariants as list_fault
use Rattle.edd_embed.specs.declared.octets.MessageFault.{MessageFault}
use Rattle.edd_embed.specs.declared.octets.MessageFault.TheVariants as message_fault
use Rattle.edd_embed.specs.declared.playing.PlayRefusal.{PlayRefusal}
use Rattle.edd_embed.specs.declared.playing.PlayRefusal.TheVariants as play_refusal
use Rattle.edd_embed.specs.declared.reading.AttributeFault.{AttributeFault}
use Rattle.edd_embed.specs.declared.reading.AttributeFault.TheVariants as attribute_fault
use Rattle.edd_embed.specs.declared.turns.SessionRefusal.{SessionRefusal}
use Rattle.edd_embed.specs.declared.turns.SessionRefusal.TheVariants as session_refusal

-- the call did what was asked
abbrev pub done : ℕ
done = 0

-- memory was refused
abbrev pub memory : ℕ
memory = 150

-- there is no such item, or it has nothing of this kind
abbrev pub no_item : ℕ
no_item = 203

-- the numbers are not those of an image in these bytes
abbrev pub other_image : ℕ
other_image = 260

-- there is too little room
abbrev pub no_room : ℕ
no_room = 261

-- the numbers are no session of the image under these values
abbrev pub no_session : ℕ
no_session = 262

-- an answer has fewer settings than it says
abbrev pub no_settings : ℕ
no_settings = 263

-- the number of a fault in loading an image
abbrev pub load_status : LoadFault → ℕ
load_status load_fault.Short = 101
load_status load_fault.Magic = 102
load_status load_fault.Version = 103
load_status load_fault.Length = 104
load_status load_fault.Row = 105
load_status load_fault.Name = 106
load_status load_fault.Text = 107
load_status load_fault.Instruction = 108
load_status load_fault.Jump = 109
load_status load_fault.Depth = 110
load_status load_fault.Reference = 111
load_status load_fault.Memory = memory

-- the number of a fault in reading an attribute
abbrev pub read_status : ReadFault → ℕ
read_status read_fault.NoItem = no_item
read_status read_fault.WrongValues = 204
read_status read_fault.DivZero = 210
read_status read_fault.DivOverflow = 211
read_status read_fault.BadShift = 212
read_status read_fault.NoElement = 213
read_status read_fault.Memory = memory

-- the same where there may be too little room for the records
abbrev pub attribute_status : AttributeFault → ℕ
attribute_status (attribute_fault.Read fault) = read_status fault
attribute_status (attribute_fault.Room n) = no_room

-- the number of a fault of octets
abbrev pub octets_status : OctetsFault → ℕ
octets_status (octets_fault.Read fault) = read_status fault
octets_status octets_fault.TooShort = 220
octets_status octets_fault.TooLong = 221
octets_status (octets_fault.WrongConstant place) = 222
octets_status (octets_fault.OutOfType variable) = 223
octets_status octets_fault.Memory = memory

-- the same where there may be too little room for the octets or the sets
abbrev pub message_status : MessageFault → ℕ
message_status (message_fault.Octets fault) = octets_status fault
message_status (message_fault.Room n) = no_room

-- the number of why no messages are listed
abbrev pub list_status : ListFault → ℕ
list_status list_fault.WrongValues = 204
list_status list_fault.Memory = memory

-- the number of a fault in playing a method
abbrev pub play_status : PlayFault → ℕ
play_status play_fault.NoItem = no_item
play_status play_fault.WrongValues = 204
play_status play_fault.BadVariable = 206
play_status play_fault.OutOfRange = 207
play_status play_fault.Memory = memory

-- the same where there may be too few settings, or too little room for what the play gives
abbrev pub refusal_status : PlayRefusal → ℕ
refusal_status (play_refusal.Play fault) = play_status fault
refusal_status play_refusal.Settings = no_settings
refusal_status play_refusal.Room = no_room

-- the number of a fault in starting a session
abbrev pub start_status : StartFault → ℕ
start_status start_fault.NoItem = no_item
start_status start_fault.WrongValues = 204

-- the number of a fault of an answer
abbrev pub answer_status : AnswerFault → ℕ
answer_status answer_fault.NotAsking = 205
answer_status answer_fault.BadVariable = 206
answer_status answer_fault.OutOfRange = 207

-- the same where there may be too few settings, or the numbers no session
abbrev pub session_status : SessionRefusal → ℕ
session_status session_refusal.Settings = no_settings
session_status session_refusal.NoSession = no_session
session_status (session_refusal.Refused fault) = answer_status fault
