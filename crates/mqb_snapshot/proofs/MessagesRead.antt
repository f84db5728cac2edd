-- What holds of each message that is read.
use Rattle.std.proofs.Common.{◌≡◌, ◌<◌, ◌^◌, ℕ, Bool, true, List, Some, Result, Ok, Err, refl, sym, subst}
use Rattle.std.proofs.lemmas.Bool.{not-true}
use Rattle.std.proofs.lemmas.List.Elements.{All-from_recursion}
use Rattle.std.specs.Prelude.{option_and_then}
use Rattle.std.specs.Result.{result_ok}
use Rattle.mqb_base.specs.Messages.{IsWellFormed}
use Rattle.mqb_base.specs.declared.message.Message.{Message}
use Rattle.mqb_entries.specs.Formats.{IsBytes}
use Rattle.mqb_fields.specs.Reading.{rest_of}
use Rattle.mqb_heads.specs.Values.{IsMessage}
use Rattle.mqb_model.specs.records.Packets.{is_too_large}
use Rattle.mqb_model.specs.records.Reading.{as_user, user_packet_of}
use Rattle.mqb_model.specs.state.Valid.{IsCarried}
use Rattle.mqb_packet.specs.Parts.{packet_of}
use Rattle.mqb_packet.specs.Plain.{IsWellFormedUser}
use Rattle.mqb_packet.specs.Spelled.{packet_in}
use Rattle.mqb_packet.specs.Values.{IsUserPacket}
use Rattle.mqb_packet.specs.declared.packet.Headers.{Headers}
use Rattle.mqb_packet.specs.declared.packet.Packet.{Packet}
use Rattle.mqb_packet.specs.declared.packet.Packet.TheVariants as packet
use Rattle.mqb_packet.specs.declared.packet.UserPacket.{UserPacket}
use Rattle.mqb_packet.proofs.DirectNames.{some_if, then_some}
use Rattle.mqb_packet.proofs.Written.{values, well_formed}
use Rattle.mqb_packet.specs.ReadPackets.{IsReadOf}
use Rattle.mqb_snapshot.specs.Fields.{durably, if_carried, is_carried, is_own, is_stored, message_at, message_of, own_at, stored_in}
use Rattle.mqb_snapshot.specs.Parts.{Parts}
use Rattle.mqb_snapshot.specs.Values.{IsHeld}
use Rattle.mqb_snapshot.proofs.FieldsRead.{packet_reads}
use Rattle.mqb_snapshot.proofs.Readers.{Reads, found_gives, step, tested_reads}

user_is : (p : Packet) (user : UserPacket) → as_user p ≡ Some user → p ≡ packet.User user
user_is (packet.User u) user e = cc
user_is (packet.Establish establish) user e = absurd cc
user_is (packet.Parameters parameters) user e = absurd cc
user_is (packet.Ack head) user e = absurd cc

ok_given : {X E : Type 0} (o : Result X E) (x : X) → result_ok o ≡ Some x → o ≡ Ok x
ok_given (Ok y) x e = cc
ok_given (Err fault) x e = absurd cc

pub user_read : (bytes : List ℕ) (user : UserPacket) → IsBytes bytes → user_packet_of bytes ≡ Some user → IsReadOf bytes user
user_read bytes user all e =
    let whole = then_some as_user (option_and_then packet_in (result_ok (packet_of bytes))) user e in
    let parts = then_some packet_in (result_ok (packet_of bytes)) whole.0 whole.1 in (
      All-from_recursion (λ b. b < 256) bytes all,
      record {
        parts = parts.0;
        read = ok_given (packet_of bytes) parts.0 parts.1;
        said = subst (λ (p : Packet). packet_in parts.0 ≡ Some p) (user_is whole.0 user whole.2) parts.2;
      },
    )

-- a message of a store, as it is in a state
abbrev kept_as : Bool → Message → Message
kept_as transactional m = record m { delivery = durably transactional }

well_formed_as : (transactional : Bool) (m : Message) → IsWellFormed m → IsWellFormed (kept_as transactional m)
well_formed_as transactional m w = record {
  priority = w.priority;
  ack = w.ack;
  journal = w.journal;
  label = w.label;
  class = w.class;
  destination = w.destination;
  admin = w.admin;
  response = w.response;
}

message_as : (transactional : Bool) (m : Message) → IsMessage m → IsMessage (kept_as transactional m)
message_as transactional m v = record {
  id = v.id;
  class = v.class;
  sent = v.sent;
  life = v.life;
  destination = v.destination;
  admin = v.admin;
  response = v.response;
  correlation = v.correlation;
  body_type = v.body_type;
  tag = v.tag;
  label = v.label;
}

-- a message that was read where packets have these headers
pub record IsStored (beside : Headers) (transactional : Bool) (m : Message) : Type 0 where
  pub carried : IsCarried beside m
  pub delivery : m.delivery ≡ durably transactional
  pub held : IsHeld m

stored_is : (beside : Headers) (transactional : Bool) (user : UserPacket) → IsWellFormedUser user → IsUserPacket user → is_carried beside (kept_as transactional user.message) ≡ true
    → IsStored beside transactional (kept_as transactional user.message)
stored_is beside transactional user w v size = record {
  carried = record {
    well_formed = well_formed_as transactional user.message w.message;
    named = record { destination = (v.message).destination; admin = (v.message).admin; response = (v.message).response };
    size = not-true (is_too_large beside (kept_as transactional user.message)) size;
  };
  delivery = refl;
  held = record { message = message_as transactional user.message v.message; reach = subst (λ (n : ℕ). n < 2 ^ 32) (sym w.reach) v.remaining };
}

read_is_stored : (beside : Headers) (transactional : Bool) (bytes : List ℕ) (m : Message) → IsBytes bytes → option_and_then (if_carried beside) (stored_in transactional bytes) ≡ Some m
    → IsStored beside transactional m
read_is_stored beside transactional bytes m all e =
    let carried = then_some (if_carried beside) (stored_in transactional bytes) m e in
    let fits = some_if (is_carried beside carried.0) carried.0 m carried.2 in
    let user = then_some (message_of transactional) (user_packet_of bytes) carried.0 carried.1 in
    let kept = some_if (is_stored user.0) (kept_as transactional user.0.message) carried.0 user.2 in
    let read = user_read bytes user.0 all user.1 in
    subst (IsStored beside transactional) fits.1 (subst (IsStored beside transactional) kept.1
    (stored_is beside transactional user.0 (well_formed bytes user.0 read) (values bytes user.0 read) (subst (λ (n : Message). is_carried beside n ≡ true) (sym kept.1) fits.0)))

pub message_reads : (beside : Headers) (transactional : Bool) → Reads (message_at beside transactional) (IsStored beside transactional)
unfolding message_at
message_reads beside transactional = record {
  gives = λ r x all e.
      let packet = step packet_reads r _ x all e in
      let found = found_gives r packet.part.1 (option_and_then (if_carried beside) (stored_in transactional packet.part.0)) x packet.rest in
      (read_is_stored beside transactional packet.part.0 x.0 packet.holds found.0, subst (λ after. IsBytes (rest_of after)) found.1 packet.bytes);
}

-- a message of the manager, of another number than those before it
abbrev pub IsOwnStored : Parts → Headers → Bool → Message → Type 0
IsOwnStored p beside transactional m = IsStored beside transactional m × (is_own p m ≡ true)

pub own_reads : (p : Parts) (beside : Headers) (transactional : Bool) → Reads (own_at p beside transactional) (IsOwnStored p beside transactional)
unfolding own_at
own_reads p beside transactional = tested_reads (is_own p) (message_reads beside transactional)
