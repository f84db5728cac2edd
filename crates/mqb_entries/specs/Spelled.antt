-- Which bytes a field or a member of a list is, and what holds of each value that is spelled.
use Rattle.std.specs.Prelude.{◌≡◌, ℕ, ◌^◌, ◌<◌, Bool, true, false, List, [], ◌∷◌, ◌++◌, length}
use Rattle.std.specs.Prelude.{Option, Some, None}
use Rattle.mqb_base.specs.declared.ids.Guid.{Guid}
use Rattle.mqb_base.specs.declared.ids.MessageId.{MessageId}
use Rattle.mqb_base.specs.Names.{name_fault}
use Rattle.mqb_fields.specs.Guids.{swapped}
use Rattle.mqb_fields.specs.Writing.{bytes_of}
use Rattle.mqb_entries.specs.declared.members.Mark.{Mark}
use Rattle.mqb_entries.specs.declared.members.OpView.{OpView}
use Rattle.mqb_entries.specs.declared.members.OpView.TheVariants.{Send, Take}

abbrev pub spelled_guid : Guid → List ℕ
spelled_guid guid = swapped guid.0

abbrev pub spelled_id : MessageId → List ℕ
spelled_id id = spelled_guid id.qm ++ bytes_of 4 id.number

abbrev pub spelled_name : List ℕ → List ℕ
spelled_name name = bytes_of 1 (length name) ++ name

abbrev pub spelled_packet : List ℕ → List ℕ
spelled_packet packet = bytes_of 4 (length packet) ++ packet

abbrev pub spelled_flag : Bool → List ℕ
spelled_flag false = 0 ∷ []
spelled_flag true = 1 ∷ []

abbrev pub spelled_public : Option Guid → List ℕ
spelled_public None = 0 ∷ []
spelled_public (Some guid) = 1 ∷ spelled_guid guid

abbrev pub spelled_op : OpView → List ℕ
spelled_op (Send packet) = 1 ∷ spelled_packet packet
spelled_op (Take queue id) = 2 ∷ bytes_of 4 queue ++ spelled_id id

abbrev pub spelled_mark : Mark → List ℕ
spelled_mark mark = bytes_of 4 mark.ordinal ++ bytes_of 4 mark.number

-- a number of 32 bits
abbrev pub IsWord : ℕ → Type 0
IsWord number = number < 2 ^ 32

abbrev pub IsName : List ℕ → Type 0
IsName name = name_fault name ≡ None

abbrev pub IsPacket : List ℕ → Type 0
IsPacket packet = IsWord (length packet)

abbrev pub IsGuid : Guid → Type 0
IsGuid guid = length guid.0 ≡ 16

abbrev pub IsId : MessageId → Type 0
IsId id = IsGuid id.qm × IsWord id.number

abbrev pub IsOp : OpView → Type 0
IsOp (Send packet) = IsPacket packet
IsOp (Take queue id) = IsWord queue × IsId id

abbrev pub IsMark : Mark → Type 0
IsMark mark = IsWord mark.ordinal × IsWord mark.number
