-- Which bytes spell a field of a packet.
use Rattle.std.specs.Prelude.{◌≡◌, ℕ, List, [], ◌++◌, length, Option, Some, None}
use Rattle.mqb_base.specs.declared.ids.Guid.{Guid}
use Rattle.mqb_base.specs.declared.ids.MessageId.{MessageId}
use Rattle.mqb_fields.specs.Guids.{swapped}
use Rattle.mqb_fields.specs.Reading.{number_of}
use Rattle.mqb_heads.specs.mqb_names.Grammar.{◌then◌, Exactly}
use Rattle.mqb_heads.specs.mqb_names.Wire.{IsWireForm}
use Rattle.mqb_heads.specs.Fields.{WireName, padding}

-- so many bytes, which may be any
abbrev pub Free : ℕ → List ℕ → Type 0
Free width bytes = length bytes ≡ width

-- a number of so many bytes, the lowest first
abbrev pub Number : (width number : ℕ) → List ℕ → Type 0
Number width number bytes = (length bytes ≡ width) × (number_of width bytes ≡ number)

-- a GUID, its first three numbers low byte first
abbrev pub GuidForm : Guid → List ℕ → Type 0
GuidForm guid bytes = (length bytes ≡ 16) × (swapped bytes ≡ guid.0)

abbrev pub IdForm : MessageId → List ℕ → Type 0
IdForm id = GuidForm id.qm then Number 4 id.number

-- the wire form of a name of its type
abbrev pub NameForm : WireName → List ℕ → Type 0
NameForm name bytes = (bytes ≡ name.part) × IsWireForm name.kind name.part

-- what may be absent
abbrev pub OptionalForm : {X : Type 0} → (X → List ℕ → Type 0) → Option X → List ℕ → Type 0
OptionalForm Form None = Exactly []
OptionalForm Form (Some x) = Form x

-- a header, and bytes up to a multiple of 4, which may be any
abbrev pub Padded : (List ℕ → Type 0) → List ℕ → Type 0
Padded Form bytes = (head : List ℕ) × (pad : List ℕ) × (head ++ pad ≡ bytes) × Form head
    × (length pad ≡ padding (length head))
