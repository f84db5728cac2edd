-- The packets by which records tell of a manager's own messages.
use Rattle.std.specs.Prelude.{◌&&◌, Bool, None, false, is_none, nat_le, nat_lt, not, true, ℕ}
use Rattle.mqb_base.specs.Same.{same_guid}
use Rattle.mqb_base.specs.declared.message.Delivery.{Delivery}
use Rattle.mqb_base.specs.declared.message.Delivery.TheVariants as delivery
use Rattle.mqb_base.specs.declared.message.Message.{Message}
use Rattle.mqb_packet.specs.mqb_heads.declared.base.TheConstants.{MAX_PACKET}
use Rattle.mqb_packet.specs.Plain.{message_size}
use Rattle.mqb_packet.specs.declared.packet.Headers.{Headers}
use Rattle.mqb_packet.specs.declared.packet.UserPacket.{UserPacket}
use Rattle.mqb_model.specs.declared.limits.TheConstants.{MAX_NUMBER}
use Rattle.mqb_model.specs.declared.target.Target.{Target}
use Rattle.mqb_model.specs.rules.Numbers.{is_numbered}
use Rattle.mqb_model.specs.state.Resolving.{guid_at, is_found, resolved}
use Rattle.mqb_model.specs.state.State.{State}

-- the packet of a message is longer than one can be, with these headers
abbrev pub is_too_large : Headers → Message → Bool
is_too_large headers m = nat_lt MAX_PACKET (message_size headers m)

-- the packet by which a record tells of a message for a target: it has the recoverable bit,
-- and no further headers
abbrev pub packet_to : State → Target → Message → UserPacket
packet_to s target m = record {
  message = record m { delivery = delivery.Recoverable };
  to = guid_at s target;
  remaining = m.reach;
  tx = None;
  session = None;
}

-- the message that a transaction sends in it
abbrev pub in_transaction : UserPacket → Message
in_transaction p = record p.message { delivery = delivery.Transactional }

-- a recoverable delivery
abbrev pub is_recoverable : Delivery → Bool
is_recoverable delivery.Recoverable = true
is_recoverable _ = false

-- a packet bears the manager's GUID and this number, the recoverable bit and no further headers,
-- and goes to where its destination leads
abbrev pub is_own_packet : State → ℕ → UserPacket → Bool
is_own_packet s number p = is_numbered s number p.message && nat_le number MAX_NUMBER
    && is_recoverable p.message.delivery && is_none p.tx && is_none p.session
    && is_found (resolved s p.message.destination)
    && same_guid p.to (guid_at s (resolved s p.message.destination))

-- and can be sent with these headers
abbrev pub is_sendable : State → Headers → ℕ → UserPacket → Bool
is_sendable s headers number p = is_own_packet s number p && not (is_too_large headers p.message)
