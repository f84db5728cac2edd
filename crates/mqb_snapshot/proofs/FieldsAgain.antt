-- Each field of a state is read as it is spelled.
use Rattle.std.proofs.Common.{◌≡◌, ◌≤◌, ◌<◌, ◌^◌, ℕ, Bool, true, false, cond, List, ◌++◌, length, Option, Some, None, Ok, refl, sym, ap, ◌∙◌, append_assoc, arith}
use Rattle.std.proofs.lemmas.Bool.Decides.{nat_tests}
use Rattle.std.proofs.lemmas.List.Elements.{All-from_recursion}
use Rattle.std.specs.Prelude.{◌&&◌, IsTrue, nat_le, not, option_and_then}
use Rattle.mqb_base.specs.Messages.{IsWellFormed}
use Rattle.mqb_base.specs.QueueNames.{names_queue}
use Rattle.mqb_base.specs.declared.ids.Identity.{Identity}
use Rattle.mqb_base.specs.declared.message.Delivery.{Delivery}
use Rattle.mqb_base.specs.declared.message.Delivery.TheVariants as delivery
use Rattle.mqb_base.specs.declared.message.Message.{Message}
use Rattle.mqb_base.specs.declared.queue_names.QueueName.{QueueName}
use Rattle.mqb_base.specs.declared.queue_names.QueueName.TheVariants.{Direct, Machine, Private, Public}
use Rattle.mqb_entries.specs.lemmas.FieldFormats.{address_format, guid_format, name_format, packet_format, u32_format, u8_format}
use Rattle.mqb_entries.specs.Fields.{address_at, guid_at, name_at, u32_at}
use Rattle.mqb_entries.specs.lemmas.Formats.{both_moved, part_format, rest_again}
use Rattle.mqb_entries.specs.Spelled.{spelled_guid, spelled_name, spelled_packet}
use Rattle.mqb_fate.specs.Asking.{is_transactional}
use Rattle.mqb_fields.specs.Reading.{◌>>=◌, moved, rest_of}
use Rattle.mqb_fields.specs.Writing.{bytes_of}
use Rattle.mqb_heads.specs.Values.{IsMessage}
use Rattle.mqb_heads.specs.declared.base.TheConstants.{MAX_PACKET}
use Rattle.mqb_model.specs.records.Packets.{is_recoverable}
use Rattle.mqb_model.specs.records.Reading.{user_packet_of}
use Rattle.mqb_model.specs.state.Places.{is_express}
use Rattle.mqb_model.specs.state.Valid.{IsCarried}
use Rattle.mqb_names.specs.Values.{AreBytes, IsQueueName}
use Rattle.mqb_names.specs.Wire.{kind_of, wire, wire_at}
use Rattle.mqb_names.specs.lemmas.WireAgain.{spelled_again, wire_again}
use Rattle.mqb_packet.proofs.Behind.{user_length}
use Rattle.mqb_packet.proofs.PacketAgain.{packet_again, said_again}
use Rattle.mqb_packet.specs.Plain.{IsWellFormedPacket, message_size, plain_user_packet}
use Rattle.mqb_packet.specs.Values.{IsPacket}
use Rattle.mqb_packet.specs.declared.packet.Headers.{Headers}
use Rattle.mqb_packet.specs.declared.packet.Headers.TheVariants.{Bare, Session, TxAndSession}
use Rattle.mqb_packet.specs.declared.packet.Packet.{Packet}
use Rattle.mqb_packet.specs.declared.packet.Packet.TheVariants as packet
use Rattle.mqb_snapshot.proofs.Backs.{IsReadAs, of_format, same_text, seen_read, tested_read, then_read}
use Rattle.mqb_snapshot.proofs.Carried.{bare, in_session, in_transaction}
use Rattle.mqb_snapshot.specs.Fields.{destination_at, durably, if_carried, is_own, message_at, message_of, own_at, stored_in, within_at}
use Rattle.mqb_snapshot.specs.Parts.{Parts}
use Rattle.mqb_snapshot.specs.Reading.{identity_at}
use Rattle.mqb_snapshot.specs.Spelled.{IsSized, spelled_destination, spelled_identity, stored, word}
use Rattle.mqb_snapshot.specs.Values.{IsHeld, IsIdentity}
use Rattle.mqb_snapshot.specs.declared.messages.TheConstants.{NOBODY}

pub three_parts : (a b c : List ℕ) → a ++ (b ++ c) ≡ a ++ b ++ c
three_parts a b c = sym (append_assoc a b c)

-- Numbers.

pub word_read : (n : ℕ) → n < 2 ^ 32 → IsReadAs u32_at (word n) n
word_read n few = of_format u32_format n few

pub within_read : (least most n : ℕ) → least ≤ n → n ≤ most → most < 2 ^ 32 → IsReadAs (within_at least most) (word n) n
unfolding within_at
within_read least most n low high few = tested_read (λ k. nat_le least k && nat_le k most) u32_at (word n) n (word_read n (omega arith)) (both least most n low high)
  where
    both : (least most n : ℕ) → least ≤ n → n ≤ most → (nat_le least n && nat_le n most) ≡ true
    both least most n low high = grind (arith, nat_tests)

-- Identities.

pub identity_read : (m : Identity) → IsIdentity m → IsReadAs identity_at (spelled_identity m) m
unfolding identity_at
identity_read m is = same_text identity_at _ (spelled_identity m) m (three_parts (spelled_name m.host) (spelled_guid m.guid) m.address)
    (then_read {Y = Identity} name_at (λ host r. guid_at r >>= λ guid. address_at guid.1 >>= λ address. Ok (record { host = host; guid = guid.0; address = address.0 }, address.1))
    (spelled_name m.host) (spelled_guid m.guid ++ m.address) m.host m (of_format name_format m.host is.host)
    (then_read {Y = Identity} guid_at (λ guid r. address_at r >>= λ address. Ok (record { host = m.host; guid = guid; address = address.0 }, address.1))
    (spelled_guid m.guid) m.address m.guid m (of_format guid_format m.guid is.guid.0)
    (seen_read {Y = Identity} address_at (λ address. record { host = m.host; guid = m.guid; address = address }) m.address m.address (of_format address_format m.address is.address.0))))

-- Destinations.

kind_small : (name : QueueName) → kind_of name < 256 ^ 1
kind_small (Public guid journal) = omega arith
kind_small (Private qm number journal) = omega arith
kind_small (Direct host queue journal) = omega arith
kind_small (Machine qm kind) = omega arith

pub destination_read : (name : QueueName) → IsQueueName name → IsTrue (names_queue name) → IsReadAs destination_at (spelled_destination name) name
unfolding destination_at
destination_read name is queue r rest e =
    let kind = bytes_of 1 (kind_of name) in
    let text = e ∙ append_assoc kind (wire name) rest in
    let one = u8_format.again r (kind_of name) (wire name ++ rest) (kind_small name) text in
    let behind = rest_again r kind (wire name ++ rest) text in
    let two : wire_at (kind_of name) (rest_of (moved 1 r)) ≡ Ok (length (wire name)) = ap (wire_at (kind_of name)) behind ∙ wire_again name rest is queue in
    let three = (part_format (length (wire name))).again (moved 1 r) (wire name) rest refl behind in
    rw (one, two, three, spelled_again name is queue, both_moved kind (wire name) r) refl

-- Messages.

well_formed_stored : (m : Message) → IsWellFormed m → IsWellFormed (stored m).message
well_formed_stored m w = record {
  priority = w.priority;
  ack = w.ack;
  journal = w.journal;
  label = w.label;
  class = w.class;
  destination = w.destination;
  admin = w.admin;
  response = w.response;
}

is_message_stored : (m : Message) → IsMessage m → IsMessage (stored m).message
is_message_stored m v = record {
  id = v.id;
  class = v.class;
  sent = v.sent;
  life = v.life;
  destination = v.destination;
  admin = v.admin;
  response = v.response;
  correlation = v.correlation;
  body_type = v.body_type;
  tag = v.tag;
  label = v.label;
}

nobody : AreBytes 16 NOBODY.0
nobody = (refl, All-from_recursion (λ b. b < 256) NOBODY.0 (let z : 0 < 256 = omega arith in (z, (z, (z, (z, (z, (z, (z, (z, (z, (z, (z, (z, (z, (z, (z, (z, tt))))))))))))))))))

user_again : (m : Message) → IsSized m → IsHeld m → user_packet_of (plain_user_packet (stored m)) ≡ Some (stored m)
user_again m s h = rw (packet_again p valid value s.size, said_again p valid value) refl
  where
    p : Packet
    p = packet.User (stored m)

    valid : IsWellFormedPacket p
    valid = record { message = well_formed_stored m s.well_formed; tx = refl; reach = refl }

    value : IsPacket p
    value = record { message = is_message_stored m h.message; to = nobody; remaining = h.reach; tx = tt; session = tt }

sized : (beside : Headers) (m : Message) → IsCarried beside m → IsSized m
sized Bare m c = bare m c
sized Session m c = in_session m c
sized TxAndSession m c = in_transaction m c

-- the message with its delivery
abbrev delivered : Message → Delivery → Message
delivered m d = record m { delivery = d }

stored_read : (beside : Headers) (m : Message) → IsCarried beside m → IsHeld m → durably (is_transactional m.delivery) ≡ m.delivery
    → option_and_then (if_carried beside) (stored_in (is_transactional m.delivery) (plain_user_packet (stored m))) ≡ Some m
stored_read beside m c h same =
    ap (λ (o : Option _). option_and_then (if_carried beside) (option_and_then (message_of (is_transactional m.delivery)) o)) (user_again m (sized beside m c) h)
    ∙ ap (λ (d : Delivery). if_carried beside (delivered m d)) same
    ∙ ap (λ (b : Bool). cond (not b) (Some m) None) c.size

few_bytes : (m : Message) → IsSized m → length (plain_user_packet (stored m)) < 2 ^ 32
few_bytes m s = let most : message_size Bare m ≤ MAX_PACKET = s.size in let counted : length (plain_user_packet (stored m)) ≡ message_size Bare m = user_length (stored m) in omega (arith, most, counted)

pub message_read : (beside : Headers) (m : Message) → IsCarried beside m → IsHeld m → durably (is_transactional m.delivery) ≡ m.delivery
    → IsReadAs (message_at beside (is_transactional m.delivery)) (spelled_packet (plain_user_packet (stored m))) m
unfolding message_at
message_read beside m c h same r rest e =
    let one = packet_format.again r (plain_user_packet (stored m)) rest (few_bytes m (sized beside m c)) e in
    rw (one, stored_read beside m c h same) refl

pub own_read : (p : Parts) (beside : Headers) (m : Message) → IsCarried beside m → IsHeld m → durably (is_transactional m.delivery) ≡ m.delivery → is_own p m ≡ true
    → IsReadAs (own_at p beside (is_transactional m.delivery)) (spelled_packet (plain_user_packet (stored m))) m
unfolding own_at
own_read p beside m c h same own = tested_read (is_own p) (message_at beside (is_transactional m.delivery)) (spelled_packet (plain_user_packet (stored m))) m (message_read beside m c h same) own

-- how a message is delivered is read as it is
pub not_express : (d : Delivery) → is_express d ≡ false → durably (is_transactional d) ≡ d
not_express delivery.Express e = absurd (let none : ⊥ = cc in none)
not_express delivery.Recoverable e = refl
not_express delivery.Transactional e = refl

pub recoverable : (d : Delivery) → is_recoverable d ≡ true → (durably (is_transactional d) ≡ d) × (is_transactional d ≡ false)
recoverable delivery.Express e = absurd (let none : ⊥ = cc in none)
recoverable delivery.Recoverable e = (refl, refl)
recoverable delivery.Transactional e = absurd (let none : ⊥ = cc in none)

pub transactional : (d : Delivery) → is_transactional d ≡ true → durably (is_transactional d) ≡ d
transactional delivery.Express e = absurd (let none : ⊥ = cc in none)
transactional delivery.Recoverable e = absurd (let none : ⊥ = cc in none)
transactional delivery.Transactional e = refl
