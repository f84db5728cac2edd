-- Which bytes spell a packet: its headers in order, each with its fields in order.
use Rattle.std.specs.Prelude.{◌≡◌, ℕ, ◌+◌, ◌*◌, ◌-◌, ◌≤◌, Bool, true, false, ◌||◌, IsTrue, is_some}
use Rattle.std.specs.Prelude.{List, ◌++◌, length, Option, Some, None}
use Rattle.mqb_base.specs.declared.heads.SessionHead.{SessionHead}
use Rattle.mqb_base.specs.declared.heads.TxHead.{TxHead}
use Rattle.mqb_base.specs.declared.message.TheConstants.{MAX_LABEL}
use Rattle.mqb_base.specs.Classes.{is_class}
use Rattle.mqb_heads.specs.mqb_names.Grammar.{◌then◌, Exactly}
use Rattle.mqb_heads.specs.declared.base.BaseHead.{BaseHead}
use Rattle.mqb_heads.specs.declared.base.TheConstants.{MIN_PACKET, MAX_PACKET}
use Rattle.mqb_heads.specs.Fields.{WireName}
use Rattle.mqb_heads.specs.Flags.{bit, bits}
use Rattle.mqb_heads.specs.Properties.{Props}
use Rattle.mqb_heads.specs.User as heads
use Rattle.mqb_setup.specs.declared.internal.Establish.{Establish}
use Rattle.mqb_setup.specs.declared.internal.Internal as setup
use Rattle.mqb_setup.specs.declared.internal.Internal.TheVariants as part
use Rattle.mqb_setup.specs.declared.internal.Parameters.{Parameters}
use Rattle.mqb_packet.specs.Parts.{PacketParts, UserParts, User, Internal}
use Rattle.mqb_packet.specs.Forms.{Free, Number, GuidForm, IdForm, NameForm, OptionalForm, Padded}

-- The flag word of a base header: three bits of priority, then whether it is internal, has a
-- session header, and has a debug header, which it has not.
pub record BaseFlags (word : ℕ) (head : BaseHead) : Type 0 where
  pub priority : head.priority ≡ bits 0 3 word
  pub internal : head.internal ≡ bit 3 word
  pub session : head.session ≡ bit 4 word
  pub debug : bit 5 word ≡ false

abbrev pub BaseForm : BaseHead → List ℕ → Type 0
BaseForm head bytes =
    (flags : ℕ) × BaseFlags flags head × (MIN_PACKET ≤ head.size) × (head.size ≤ MAX_PACKET)
    × (Number 1 0x10 then Free 1 then Number 2 flags then Number 4 0x524F494C
    then Number 4 head.size then Number 4 head.reach) bytes

-- the type of a name that may be absent
abbrev pub kind_or_none : Option WireName → ℕ
kind_or_none None = 0
kind_or_none (Some name) = name.kind

-- The flag word of a user header: recoverable, a transaction header, three types of names, two
-- journal bits, and a security header, which it has not.
pub record UserFlags (word : ℕ) (user : heads.User) : Type 0 where
  pub recoverable : user.recoverable ≡ (bit 0 word || bit 1 word)
  pub transaction : user.transaction ≡ bit 1 word
  pub destination : user.destination.kind ≡ bits 2 3 word
  pub admin : kind_or_none user.admin ≡ bits 5 3 word
  pub response : kind_or_none user.response ≡ bits 8 3 word
  pub journal : user.journal ≡ bits 11 2 word
  pub security : bit 13 word ≡ false

abbrev pub UserFields : heads.User → List ℕ → Type 0
UserFields user bytes = (flags : ℕ) × UserFlags flags user
    × (GuidForm user.source then GuidForm user.target then Number 4 user.life
    then Number 4 user.sent then Number 4 user.number then Number 4 flags
    then NameForm user.destination then OptionalForm NameForm user.admin
    then OptionalForm NameForm user.response) bytes

abbrev pub UserForm : heads.User → List ℕ → Type 0
UserForm user = Padded (UserFields user)

abbrev pub TxForm : TxHead → List ℕ → Type 0
TxForm head = Free 4 then Number 4 head.sequence.ordinal then Number 4 head.sequence.stamp
    then Number 4 head.number then Number 4 head.previous

-- the acknowledgement bits, the lowest four of their byte, the count of the label's
-- units, and the class
abbrev pub MarksForm : (units : ℕ) → Props → List ℕ → Type 0
MarksForm units props bytes =
    (ack : ℕ) × (props.ack ≡ bits 0 4 ack) × (units ≤ MAX_LABEL) × IsTrue (is_class props.class.0)
    × (Number 1 ack then Number 1 units then Number 2 props.class.0) bytes

-- the sizes of the body, of the bytes that are kept for it, and of the extension; between them
-- privacy, hash and cipher, which are 0
abbrev pub SizesForm : (allocated : ℕ) → Props → List ℕ → Type 0
SizesForm allocated props bytes = (length props.body ≤ allocated)
    × (Number 4 (length props.body) then Number 4 allocated then Number 4 0 then Number 4 0
    then Number 4 0 then Number 4 (length props.extension)) bytes

-- the label of so many units, the extension, and the bytes that are kept for the body,
-- at whose front it is
abbrev pub PartsForm : (units allocated : ℕ) → Props → List ℕ → Type 0
PartsForm units allocated props bytes = (length props.label ≡ 2 * units)
    × (Exactly props.label then Exactly props.extension then Exactly props.body
    then Free (allocated - length props.body)) bytes

abbrev pub PropsFields : Props → List ℕ → Type 0
PropsFields props bytes = (units : ℕ) × (allocated : ℕ)
    × (MarksForm units props then IdForm props.correlation then Number 4 props.body_type
    then Number 4 props.tag
    then SizesForm allocated props then PartsForm units allocated props) bytes

abbrev pub PropsForm : Props → List ℕ → Type 0
PropsForm props = Padded (PropsFields props)

abbrev pub SessionForm : SessionHead → List ℕ → Type 0
SessionForm head = Number 2 head.ack then Number 2 head.stored then Number 4 head.stored_flags
    then Number 2 head.user then Number 2 head.recoverable then Number 2 head.window then Free 2

-- the bytes of an Establish that say nothing are its last 512
abbrev pub EstablishForm : Establish → List ℕ → Type 0
EstablishForm establish = GuidForm establish.client then GuidForm establish.server
    then Number 4 establish.stamp then Free 4 then Free 512

abbrev pub ParametersForm : Parameters → List ℕ → Type 0
ParametersForm parameters = Number 4 parameters.storage_time then Number 4 parameters.ack_time
    then Free 2 then Number 2 parameters.window

-- The flag word of an internal header: its type in four bits, and whether an Establish was refused.
abbrev pub InternalFlags : ℕ → setup.Internal → Type 0
InternalFlags word (part.Ack head) = bits 0 4 word ≡ 1
InternalFlags word (part.Establish establish) =
    (bits 0 4 word ≡ 2) × (establish.refused ≡ bit 4 word)
InternalFlags word (part.Parameters parameters) = bits 0 4 word ≡ 3

abbrev pub PartForm : setup.Internal → List ℕ → Type 0
PartForm (part.Ack head) = SessionForm head
PartForm (part.Establish establish) = EstablishForm establish
PartForm (part.Parameters parameters) = ParametersForm parameters

abbrev pub InternalForm : setup.Internal → List ℕ → Type 0
InternalForm internal bytes = (flags : ℕ) × InternalFlags flags internal
    × (Number 2 flags then Free 2 then PartForm internal) bytes

-- A user packet has a transaction header where its user header says so, and a session header where
-- its base header does.
pub record UserPacketForm (parts : UserParts) (bytes : List ℕ) : Type 0 where
  pub headers : (BaseForm parts.base then UserForm parts.user then OptionalForm TxForm parts.tx
      then PropsForm parts.props
      then OptionalForm SessionForm parts.session) bytes
  pub internal : parts.base.internal ≡ false
  pub tx : parts.user.transaction ≡ is_some parts.tx
  pub session : parts.base.session ≡ is_some parts.session
  pub size : parts.base.size ≡ length bytes
  pub whole : parts.whole ≡ bytes

pub record InternalPacketForm (internal : setup.Internal) (bytes : List ℕ) : Type 0 where
  pub base : BaseHead
  pub headers : (BaseForm base then InternalForm internal) bytes
  pub is_internal : base.internal ≡ true
  pub size : base.size ≡ length bytes

-- the bytes, all of them, are a packet that says these parts
abbrev pub IsPacketForm : PacketParts → List ℕ → Type 0
IsPacketForm (User parts) = UserPacketForm parts
IsPacketForm (Internal internal) = InternalPacketForm internal
