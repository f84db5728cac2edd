-- What is written is read again.
use Rattle.std.proofs.Common.{◌≡◌, ◌≤◌, ◌<◌, ℕ, ◌+◌, ◌^◌, ◌==◌, ◌||◌, Bool, true, false, eqb, is_some, List, [], ◌++◌, length, Option, Some, None, option_map, Result, Ok, Err, refl, sym, ap, ◌∙◌, arith, append_assoc}
use Rattle.std.specs.Prelude.{IfSome, IsTrue}
use Rattle.std.proofs.lemmas.Bool.{eq-eqb}
use Rattle.std.proofs.lemmas.List.{append-nil}
use Rattle.mqb_base.specs.declared.heads.SessionHead.{SessionHead}
use Rattle.mqb_base.specs.declared.heads.TxHead.{TxHead}
use Rattle.mqb_base.specs.declared.message.Delivery.{Delivery}
use Rattle.mqb_base.specs.declared.message.Delivery.TheVariants.{Express, Recoverable, Transactional}
use Rattle.mqb_base.specs.declared.message.Message.{Message}
use Rattle.mqb_base.specs.declared.queue_names.QueueName.{QueueName}
use Rattle.mqb_base.specs.QueueNames.{names_queue, absent_or_queue}
use Rattle.mqb_fields.specs.declared.faults.HeadFault.{HeadFault}
use Rattle.mqb_fields.specs.Reading.{Reading, rest_of, moved}
use Rattle.mqb_heads.specs.mqb_names.Values.{IsQueueName}
use Rattle.mqb_heads.specs.mqb_names.Wire.{start}
use Rattle.mqb_heads.specs.mqb_names.lemmas.Again.{rest_again}
use Rattle.mqb_heads.specs.mqb_names.lemmas.WireAgain.{spelled_again}
use Rattle.mqb_heads.specs.Base.{IsBaseHead, base_of, plain_base}
use Rattle.mqb_fields.specs.Packets.{skipped}
use Rattle.mqb_heads.specs.Fields.{wire_name}
use Rattle.mqb_heads.specs.declared.base.TheConstants.{MAX_PACKET}
use Rattle.mqb_packet.specs.lemmas.Fits.{fits_user, fits_props}
use Rattle.mqb_heads.specs.Properties.{FitsProps, label_bytes, props_at, plain_props, props_of}
use Rattle.mqb_heads.specs.Transactions.{tx_at}
use Rattle.mqb_heads.specs.User as heads
use Rattle.mqb_heads.specs.Values.{IsTxHead}
use Rattle.mqb_heads.specs.lemmas.FieldsAgain.{skip_again}
use Rattle.mqb_heads.specs.lemmas.HeadsAgain.{base_again, tx_again}
use Rattle.mqb_heads.specs.lemmas.PropsAgain.{props_again}
use Rattle.mqb_heads.specs.lemmas.UserAgain.{user_again}
use Rattle.mqb_setup.specs.declared.internal.Internal as setup
use Rattle.mqb_setup.specs.declared.internal.Internal.TheVariants as part
use Rattle.mqb_setup.specs.Internals.{internal_at, plain_internal}
use Rattle.mqb_setup.specs.Sessions.{session_at}
use Rattle.mqb_setup.specs.Widths.{IsInternal, IsSessionHead}
use Rattle.mqb_setup.specs.lemmas.Again.{internal_again, session_again}
use Rattle.mqb_packet.specs.declared.packet.Packet.{Packet}
use Rattle.mqb_packet.specs.declared.packet.Packet.TheVariants as packet
use Rattle.mqb_packet.specs.declared.packet.UserPacket.{UserPacket}
use Rattle.mqb_packet.specs.Parts.{PacketParts, UserParts, User, Internal, head_if, user_parts_at, internal_parts_at, parts_at, sized, packet_of}
use Rattle.mqb_packet.specs.Plain.{IsWellFormedUser, IsWellFormedPacket, tx_or_none, session_or_none, user_packet_size, packet_size, base_for, plain_user_packet, internal_base, plain_spelling, user_parts_of, parts_of}
use Rattle.mqb_packet.specs.Spelled.{units_of, name_in, optional_name_in, delivery_of, message_in, user_packet, packet_in, Spells}
use Rattle.mqb_packet.specs.Values.{IsUserPacket, IsPacket}
use Rattle.mqb_packet.proofs.Behind.{user_length, plain_length}
use Rattle.mqb_packet.proofs.LabelUnits.{units_again}

stays : (r : Reading) → r ≡ moved 0 r
stays r = ap (λ (at : ℕ). record r { at = at }) (omega arith)

abbrev absent : {X : Type 0} → Reading → Result (Option X × Reading) HeadFault
absent end = Ok (None, end)

tx_if_again : (r : Reading) (head : Option TxHead) (present : Bool) (rest : List ℕ) → is_some head ≡ present → IfSome head IsTxHead → rest_of r ≡ tx_or_none head ++ rest
    → head_if present tx_at r ≡ Ok (head, moved (length (tx_or_none head)) r)
tx_if_again r None present rest is valid e = rw (← is) (ap (absent {X = TxHead}) (stays r))
tx_if_again r (Some head) present rest is valid e = rw (← is, tx_again r head rest valid e) refl

session_if_again : (r : Reading) (head : Option SessionHead) (rest : List ℕ) → IfSome head IsSessionHead → rest_of r ≡ session_or_none head ++ rest
    → head_if (is_some head) session_at r ≡ Ok (head, moved (length (session_or_none head)) r)
session_if_again r None rest valid e = ap (absent {X = SessionHead}) (stays r)
session_if_again r (Some head) rest valid e = rw (session_again r head rest valid e) refl

regrouped : (a b c d e : List ℕ) → a ++ b ++ c ++ d ++ e ≡ a ++ (b ++ (c ++ (d ++ (e ++ []))))
regrouped a b c d e = simp (append_assoc, append-nil)

user_packet_again : (u : UserPacket) → IsWellFormedUser u → IsUserPacket u → user_packet_size u ≤ MAX_PACKET → packet_of (plain_user_packet u) ≡ Ok (User (user_parts_of u))
unfolding packet_of user_parts_at
user_packet_again u valid value fits =
    let m = u.message in
    let bytes = plain_user_packet u in
    let base_part = plain_base (base_for u) in
    let user_part = heads.plain_user m u.to in
    let tx_part = tx_or_none u.tx in
    let props_part = plain_props m in
    let session_part = session_or_none u.session in
    let session = session_part ++ [] in
    let props = props_part ++ session in
    let tx = tx_part ++ props in
    let user = user_part ++ tx in
    let all : bytes ≡ base_part ++ user = regrouped base_part user_part tx_part props_part session_part in
    let r0 = start bytes in
    let r16 = moved 16 r0 in
    let valid_base : IsBaseHead (base_for u) = record { priority = valid.message.priority; least = omega arith; most = fits; internal = λ internal. absurd cc } in
    let base_is : base_of bytes ≡ Ok (base_for u) = ap base_of all ∙ base_again (base_for u) user valid_base value.remaining in
    let same : eqb (user_packet_size u) (length bytes) ≡ true = eq-eqb _ _ (sym (user_length u)) in
    let at_user : rest_of r16 ≡ user = rest_again r0 base_part user 16 refl all in
    let skip : skipped 16 r0 ≡ Ok r16 = skip_again r0 base_part user 16 refl all in
    let sized_is : sized (base_for u) bytes ≡ Ok r16 = rw same skip in
    let r1 = moved (length user_part) r16 in
    let at_tx : rest_of r1 ≡ tx = rest_again r16 user_part tx (length user_part) refl at_user in
    let r2 = moved (length tx_part) r1 in
    let at_props : rest_of r2 ≡ props = rest_again r1 tx_part props (length tx_part) refl at_tx in
    let r3 = moved (length props_part) r2 in
    let at_session : rest_of r3 ≡ session = rest_again r2 props_part session (length props_part) refl at_props in
    let r4 = moved (length session_part) r3 in
    let at_end : rest_of r4 ≡ [] = rest_again r3 session_part [] (length session_part) refl at_session in
    let props_fit : FitsProps m = fits_props m valid.message (omega (arith, fits)) (omega (arith, fits)) in
    let user_is : heads.user_at r16 ≡ Ok (heads.user_of m u.to, r1) = user_again r16 m u.to tx (fits_user m valid.message) value.message value.to at_user in
    let tx_is : head_if (heads.is_transactional m.delivery) tx_at r1 ≡ Ok (u.tx, r2) = tx_if_again r1 u.tx (heads.is_transactional m.delivery) props valid.tx value.tx at_tx in
    let props_is : props_at r2 ≡ Ok (props_of m, r3) = props_again r2 m session props_fit value.message at_props in
    let session_is : head_if (is_some u.session) session_at r3 ≡ Ok (u.session, r4) = session_if_again r3 u.session [] value.session at_session in
    let parts_is : parts_at (base_for u) bytes r16 ≡ Ok (User (user_parts_of u), r4) = rw (user_is, tx_is, props_is, session_is) refl in
    rw (base_is, sized_is, parts_is, at_end) refl

internal_packet_again : (p : setup.Internal) (session : Bool) (size : ℕ) → IsInternal p → 20 ≤ size → size ≤ MAX_PACKET → length (plain_base (internal_base session size) ++ plain_internal p) ≡ size
    → packet_of (plain_base (internal_base session size) ++ plain_internal p) ≡ Ok (Internal p)
unfolding packet_of
internal_packet_again p session size valid least most len =
    let base = internal_base session size in
    let inner = plain_internal p in
    let bytes = plain_base base ++ inner in
    let r0 = start bytes in
    let r16 = moved 16 r0 in
    let valid_base : IsBaseHead base = record { priority = omega arith; least = least; most = most; internal = λ internal. (refl, refl) } in
    let base_is : base_of bytes ≡ Ok base = base_again base inner valid_base (omega arith) in
    let same : eqb size (length bytes) ≡ true = eq-eqb _ _ (sym len) in
    let skip : skipped 16 r0 ≡ Ok r16 = skip_again r0 (plain_base base) inner 16 refl refl in
    let sized_is : sized base bytes ≡ Ok r16 = rw same skip in
    let at_inner : rest_of r16 ≡ inner ++ [] = rest_again r0 (plain_base base) inner 16 refl refl ∙ sym (append-nil inner) in
    let r1 = moved (length inner) r16 in
    let at_end : rest_of r1 ≡ [] = rest_again r16 inner [] (length inner) refl at_inner in
    let inner_is : internal_at r16 ≡ Ok (p, r1) = internal_again r16 p [] valid at_inner in
    let parts_is : parts_at base bytes r16 ≡ Ok (Internal p, r1) = rw inner_is refl in
    rw (base_is, sized_is, parts_is, at_end) refl

pub packet_again : (p : Packet) → IsWellFormedPacket p → IsPacket p → packet_size p ≤ MAX_PACKET → packet_of (plain_spelling p) ≡ Ok (parts_of p)
packet_again (packet.User u) valid value fits = user_packet_again u valid value fits
packet_again (packet.Establish e) valid value fits = internal_packet_again (part.Establish e) false 572 value (omega arith) (omega arith) (plain_length (packet.Establish e))
packet_again (packet.Parameters p) valid value fits = internal_packet_again (part.Parameters p) false 32 value (omega arith) (omega arith) refl
packet_again (packet.Ack head) valid value fits = internal_packet_again (part.Ack head) true 36 value (omega arith) (omega arith) refl

delivered : (d : Delivery) → delivery_of (heads.is_transactional d) (heads.is_durable d) ≡ d
delivered Express = refl
delivered Recoverable = refl
delivered Transactional = refl

optional_again : (name : Option QueueName) → IfSome name IsQueueName → IsTrue (absent_or_queue name) → optional_name_in (option_map wire_name name) ≡ Some name
optional_again None valid queue = refl
optional_again (Some name) valid queue = ap (option_map (λ (q : QueueName). Some q)) (spelled_again name valid queue)

message_again : (u : UserPacket) → IsWellFormedUser u → IsUserPacket u → message_in (user_parts_of u) ≡ Some u.message
message_again u valid value =
    let m = u.message in
    let destination : name_in (wire_name m.destination) ≡ Some m.destination = spelled_again m.destination value.message.destination valid.message.destination in
    let admin = optional_again m.admin value.message.admin valid.message.admin in
    let response = optional_again m.response value.message.response valid.message.response in
    rw (destination, admin, response, valid.tx, delivered m.delivery, ← valid.reach, units_again m.label value.message.label) refl

pub said_again : (p : Packet) → IsWellFormedPacket p → IsPacket p → packet_in (parts_of p) ≡ Some p
said_again (packet.User u) valid value = ap (option_map (λ (m : Message). packet.User (user_packet (user_parts_of u) m))) (message_again u valid value)
said_again (packet.Establish e) valid value = refl
said_again (packet.Parameters p) valid value = refl
said_again (packet.Ack head) valid value = refl

pub spelling_again : (p : Packet) → IsWellFormedPacket p → IsPacket p → packet_size p ≤ MAX_PACKET → Spells p (plain_spelling p)
spelling_again p valid value fits = record { parts = parts_of p; read = packet_again p valid value fits; said = said_again p valid value }
