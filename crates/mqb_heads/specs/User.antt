-- The user header.
use Rattle.std.specs.Prelude.{ℕ, ◌+◌, ◌≤◌, IfSome, IsTrue, Bool, true, false, ◌&&◌, ◌||◌, nat_le}
use Rattle.std.specs.Prelude.{List, ◌++◌, length, Option, option_map, Result, Ok, if◌then◌else◌}
use Rattle.mqb_base.specs.declared.ids.Guid.{Guid}
use Rattle.mqb_base.specs.declared.message.Delivery.{Delivery}
use Rattle.mqb_base.specs.declared.message.Delivery.TheVariants.{Express, Recoverable}
use Rattle.mqb_base.specs.declared.message.Delivery.TheVariants.{Transactional}
use Rattle.mqb_base.specs.declared.message.Message.{Message}
use Rattle.mqb_base.specs.declared.bits.TheConstants.{MAX_JOURNAL}
use Rattle.mqb_base.specs.QueueNames.{names_queue, absent_or_queue}
use Rattle.mqb_fields.specs.declared.faults.HeadFault.{HeadFault}
use Rattle.mqb_fields.specs.declared.faults.HeadKind.TheVariants.{Secured, Name}
use Rattle.mqb_fields.specs.Guids.{swapped}
use Rattle.mqb_fields.specs.Faults.{fault_at}
use Rattle.mqb_fields.specs.Packets.{field_at}
use Rattle.mqb_fields.specs.Reading.{◌>>=◌, Reading}
use Rattle.mqb_fields.specs.Writing.{bytes_of}
use Rattle.mqb_names.specs.Wire.{kind_of, wire, IsWireForm}
use Rattle.mqb_heads.specs.declared.user.UserHead.{UserHead}
use Rattle.mqb_heads.specs.declared.user.UserFlags.{UserFlags}
use Rattle.mqb_heads.specs.declared.user.Names as declared
use Rattle.mqb_heads.specs.Fields.{WireName, seen_name, wire_name, kind_or_none, wire_or_none}
use Rattle.mqb_heads.specs.Fields.{source_at, name_at, optional_name_at, padded_at, padding, padded}
use Rattle.mqb_heads.specs.Flags.{bit, bits, flag, placed}

-- what a user header says
pub record User : Type 0 where
  pub source : Guid
  pub target : Guid
  pub life : ℕ
  pub sent : ℕ
  pub number : ℕ
  pub recoverable : Bool
  pub transaction : Bool
  pub journal : ℕ
  pub destination : WireName
  pub admin : Option WireName
  pub response : Option WireName

abbrev pub seen_user : UserHead → User
seen_user head = record {
  source = head.source;
  target = head.target;
  life = head.life;
  sent = head.sent;
  number = head.number;
  recoverable = head.recoverable;
  transaction = head.transaction;
  journal = head.journal;
  destination = seen_name head.destination;
  admin = option_map seen_name head.admin;
  response = option_map seen_name head.response;
}

-- The bytes of a name are the wire form of a name of its type.
abbrev pub IsNameRead : WireName → Type 0
IsNameRead name = IsWireForm name.kind name.part

-- what holds of each user header that was read
pub record IsUserRead (user : User) : Type 0 where
  pub journal : user.journal ≤ MAX_JOURNAL
  pub destination : IsNameRead user.destination
  pub admin : IfSome user.admin IsNameRead
  pub response : IfSome user.response IsNameRead

-- Bit 0 is set in a recoverable packet, and bit 1 where a transaction header is there,
-- which makes it recoverable whatever bit 0 is. Bits 2 to 4 are the destination's type, 5
-- to 7 the admin name's, 8 to 10 the response name's. Bit 11 asks for a dead letter, and
-- bit 12 for a journal's copy.
abbrev pub flags_of : ℕ → UserFlags
flags_of word = record {
  recoverable = bit 0 word || bit 1 word;
  transaction = bit 1 word;
  destination = bits 2 3 word;
  admin = bits 5 3 word;
  response = bits 8 3 word;
  journal = bits 11 2 word;
}

-- The destination is there, and may be public, private or direct. The other
-- names may also be absent.
abbrev pub have_types : UserFlags → Bool
have_types flags = (nat_le 1 flags.destination && nat_le flags.destination 3)
    && (nat_le flags.admin 3 && nat_le flags.response 3)

-- Bit 13 is set where a security header is there.
abbrev pub user_flags_at : Reading → Result (UserFlags × Reading) HeadFault
user_flags_at r = do
  word ← field_at 4 r
  if bit 13 word.0 then fault_at r.at Secured else if have_types (flags_of word.0)
      then Ok (flags_of word.0, word.1) else fault_at r.at Name

-- the three names of a user header
pub record Names : Type 0 where
  pub destination : WireName
  pub admin : Option WireName
  pub response : Option WireName

abbrev pub seen_names : declared.Names → Names
seen_names names = record {
  destination = seen_name names.destination;
  admin = option_map seen_name names.admin;
  response = option_map seen_name names.response;
}

abbrev pub names_at : UserFlags → Reading → Result (Names × Reading) HeadFault
names_at flags r = do
  destination ← name_at flags.destination r
  admin ← optional_name_at flags.admin destination.1
  response ← optional_name_at flags.response admin.1
  Ok (record { destination = destination.0; admin = admin.0; response = response.0 }, response.1)

unfoldable pub user_at : Reading → Result (User × Reading) HeadFault
user_at r = do
  source ← source_at r
  target ← source_at source.1
  life ← field_at 4 target.1
  sent ← field_at 4 life.1
  number ← field_at 4 sent.1
  flags ← user_flags_at number.1
  names ← names_at flags.0 flags.1
  end ← padded_at r.at names.1
  Ok (
    record {
      source = source.0;
      target = target.0;
      life = life.0;
      sent = sent.0;
      number = number.0;
      recoverable = flags.0.recoverable;
      transaction = flags.0.transaction;
      journal = flags.0.journal;
      destination = names.0.destination;
      admin = names.0.admin;
      response = names.0.response;
    },
    end,
  )

-- A message whose user header may be written: its names name queues, and its journal bits are two.
pub record FitsUser (m : Message) : Type 0 where
  pub destination : IsTrue (names_queue m.destination)
  pub admin : IsTrue (absent_or_queue m.admin)
  pub response : IsTrue (absent_or_queue m.response)
  pub journal : m.journal ≤ MAX_JOURNAL

abbrev pub is_durable : Delivery → Bool
is_durable Express = false
is_durable Recoverable = true
is_durable Transactional = true

abbrev pub is_transactional : Delivery → Bool
is_transactional Express = false
is_transactional Recoverable = false
is_transactional Transactional = true

-- the user flags of a message
abbrev pub user_flags : Message → ℕ
user_flags m = flag 0 (is_durable m.delivery) + flag 1 (is_transactional m.delivery)
    + placed 2 (kind_of m.destination) + placed 5 (kind_or_none m.admin)
    + placed 8 (kind_or_none m.response) + placed 11 m.journal

-- the fields of a message's user header before its names
abbrev pub user_fields : Message → Guid → List ℕ
user_fields m target = swapped m.id.qm.0 ++ swapped target.0 ++ bytes_of 4 m.life
    ++ bytes_of 4 m.sent ++ bytes_of 4 m.id.number ++ bytes_of 4 (user_flags m)

abbrev pub user_names : Message → List ℕ
user_names m = wire m.destination ++ wire_or_none m.admin ++ wire_or_none m.response

-- the user header of a message to the manager target
abbrev pub plain_user : Message → Guid → List ℕ
plain_user m target = padded (user_fields m target ++ user_names m)

abbrev pub user_size : Message → ℕ
user_size m = let len = 48 + length (user_names m) in len + padding len

-- what the user header of a message says
abbrev pub user_of : Message → Guid → User
user_of m target = record {
  source = m.id.qm;
  target = target;
  life = m.life;
  sent = m.sent;
  number = m.id.number;
  recoverable = is_durable m.delivery;
  transaction = is_transactional m.delivery;
  journal = m.journal;
  destination = wire_name m.destination;
  admin = option_map wire_name m.admin;
  response = option_map wire_name m.response;
}
