-- The notices that follow are messages of the manager, and can be carried.
use Rattle.std.proofs.Common.{refl, ap, ◌∙◌, length, arith, length-append}
use Rattle.std.proofs.lemmas.Bool.Decides.{nat_tests}
use Rattle.std.specs.Prelude.{◌&&◌, ◌++◌, ◌≡◌, ◌≤◌, [], Bool, IfSome, IsTrue, None, Option, Some, cond, false, nat_le, nat_lt, option_and_then, option_map, true, ℕ}
use Rattle.mqb_base.specs.QueueNames.{absent_or_queue, names_queue}
use Rattle.mqb_base.specs.Classes.{is_class}
use Rattle.mqb_base.specs.declared.class.Class.{Class}
use Rattle.mqb_base.specs.declared.ids.Identity.{Identity}
use Rattle.mqb_base.specs.declared.ids.MessageId.{MessageId}
use Rattle.mqb_base.specs.declared.message.Delivery.{Delivery}
use Rattle.mqb_base.specs.declared.message.Delivery.TheVariants as delivery
use Rattle.mqb_base.specs.declared.message.Message.{Message}
use Rattle.mqb_base.specs.declared.queue_names.QueueName.{QueueName}
use Rattle.mqb_base.specs.declared.queue_names.QueueName.TheVariants.{Direct, Machine, Private, Public}
use Rattle.mqb_fate.specs.Asking.{asks_for, final_is_due, is_ordinary}
use Rattle.mqb_fate.specs.Notices.{admin_delivery, final_notice, notice_about}
use Rattle.mqb_fate.specs.Orders.{order_layer}
use Rattle.mqb_packet.specs.mqb_fields.Guids.{swapped}
use Rattle.mqb_packet.specs.mqb_fields.Writing.{bytes_of}
use Rattle.mqb_packet.specs.mqb_heads.User.{user_names}
use Rattle.mqb_packet.specs.mqb_names.lemmas.DirectAgain.{direct_most}
use Rattle.mqb_packet.specs.mqb_names.lemmas.Units.{length_direct}
use Rattle.mqb_packet.specs.mqb_names.Printed.{printed_direct}
use Rattle.mqb_packet.specs.mqb_names.Values.{IsName, IsQueueName}
use Rattle.mqb_packet.specs.mqb_names.Wire.{wire}
use Rattle.mqb_packet.specs.mqb_heads.declared.base.TheConstants.{MAX_PACKET}
use Rattle.mqb_packet.specs.Plain.{message_size}
use Rattle.mqb_packet.specs.declared.packet.Headers.TheVariants as headers
use Rattle.mqb_model.specs.declared.limits.TheConstants.{MAX_NUMBER}
use Rattle.mqb_model.specs.records.Packets.{is_too_large}
use Rattle.mqb_model.specs.rules.Notices.{admin_about, final_about}
use Rattle.mqb_model.specs.rules.Numbers.{number_left, own_id}
use Rattle.mqb_model.specs.state.Places.{is_express}
use Rattle.mqb_model.specs.state.State.{State}
use Rattle.mqb_model.specs.state.Valid.{IsCarried}
use Rattle.mqb_model.proofs.Adding.{append_nothing}

-- how many bytes the wire form of a name has at most
pub wire_most : (name : QueueName) → IsQueueName name → length (wire name) ≤ 284
wire_most (Public guid journal) h = let sixteen : length (swapped guid.0) ≡ 16 = refl in omega (arith, sixteen)
wire_most (Private qm number journal) h = let sixteen : length (swapped qm.0) ≡ 16 = refl in let four : length (bytes_of 4 number) ≡ 4 = refl in
    let both = length-append (swapped qm.0) (bytes_of 4 number) in omega (arith, sixteen, four, both)
wire_most (Direct host queue journal) h = let text = printed_direct host queue in let most = direct_most host queue h.0 h.1 in let two = length_direct (length text) text in
    omega (arith, most, two)
wire_most (Machine qm kind) h = omega arith

small : (size limit : ℕ) → size ≤ limit → nat_lt limit size ≡ false
small size limit h = grind (arith, nat_tests)

-- a notice can be carried in a session
pub notice_small : (m : Message) (class : Class) (kind : Delivery) (to : QueueName) (id : MessageId) (now : ℕ) → IsQueueName to
    → is_too_large headers.Session (notice_about m class kind to id now) ≡ false
notice_small m class kind to id now h = let most = wire_most to h in
    let names : length (user_names (notice_about m class kind to id now)) ≡ length (wire to) = ap length (append_nothing (wire to ++ []) ∙ append_nothing (wire to)) in
    let size : message_size headers.Session (notice_about m class kind to id now) ≤ MAX_PACKET = omega (arith, most, names) in
    small (message_size headers.Session (notice_about m class kind to id now)) MAX_PACKET size

-- a notice of a manager, under its next number
pub record IsNotice (s : State) (n : Message) : Type 0 where
  pub carried : IsCarried headers.Session n
  pub recoverable : n.delivery ≡ delivery.Recoverable
  pub own : n.id ≡ own_id s s.next_number
  pub left : s.next_number ≤ MAX_NUMBER

notice_is : (s : State) (m : Message) (class : Class) (to : QueueName) (now : ℕ) → IsTrue (is_class class.0) → IsQueueName to → IsTrue (names_queue to)
    → s.next_number ≤ MAX_NUMBER → IsNotice s (notice_about m class delivery.Recoverable to (own_id s s.next_number) now)
notice_is s m class to now known named queue left = record {
  carried = record {
    well_formed = record {
      priority = omega arith;
      ack = omega arith;
      journal = omega arith;
      label = omega arith;
      class = known;
      destination = queue;
      admin = refl;
      response = refl;
    };
    named = record { destination = named; admin = tt; response = tt };
    size = notice_small m class delivery.Recoverable to (own_id s s.next_number) now named;
  };
  recoverable = refl;
  own = refl;
  left = left;
}

at_most : (n limit : ℕ) → nat_le n limit ≡ true → n ≤ limit
at_most n limit h = grind (arith, nat_tests)

pub admin_is : (s : State) (m : Message) (class : Class) (now : ℕ) → is_express m.delivery ≡ false → IsTrue (is_class class.0) → IfSome m.admin IsQueueName
    → IsTrue (absent_or_queue m.admin) → IfSome (admin_about s m class now) (IsNotice s)
admin_is s m class now durable known named queue = by m.delivery durable
  where
    made : (b : Bool) (admin : Option QueueName) → IfSome admin IsQueueName → IsTrue (absent_or_queue admin) → s.next_number ≤ MAX_NUMBER
        → IfSome (cond b (option_map (λ a. notice_about m class delivery.Recoverable a (own_id s s.next_number) now) admin) None) (IsNotice s)
    made true None n q left = tt
    made true (Some a) n q left = notice_is s m class a now known n q left
    made false admin n q left = tt

    -- the message that follows one of this delivery
    about : Delivery → ℕ → Option Message
    about x number = cond (is_ordinary m && asks_for m class)
        (option_map (λ a. notice_about m class (admin_delivery x) a (record { qm = s.identity.guid; number = number }) now) m.admin) None

    numbered : (b : Bool) → nat_le s.next_number MAX_NUMBER ≡ b → IfSome (option_and_then (about delivery.Recoverable) (cond b (Some s.next_number) None)) (IsNotice s)
    numbered true e = made (is_ordinary m && asks_for m class) m.admin named queue (at_most s.next_number MAX_NUMBER e)
    numbered false e = tt

    by : (x : Delivery) → is_express x ≡ false → IfSome (option_and_then (about x) (number_left s (admin_delivery x))) (IsNotice s)
    by delivery.Express e = absurd (let none : ⊥ = cc in none)
    by delivery.Recoverable e = numbered (nat_le s.next_number MAX_NUMBER) refl
    by delivery.Transactional e = numbered (nat_le s.next_number MAX_NUMBER) refl

pub final_is : (s : State) (peer : Identity) (m : Message) (class : Class) (now : ℕ) → IsTrue (is_class class.0) → IsName peer.host
    → IfSome (final_about s peer m class now) (IsNotice s)
final_is s peer m class now known host = numbered (nat_le s.next_number MAX_NUMBER) refl
  where
    made : (b : Bool) → s.next_number ≤ MAX_NUMBER
        → IfSome (cond b (Some (notice_about m class delivery.Recoverable (order_layer peer.host) (own_id s s.next_number) now)) None) (IsNotice s)
    made true left = notice_is s m class (order_layer peer.host) now known (host, refl) refl left
    made false left = tt

    numbered : (b : Bool) → nat_le s.next_number MAX_NUMBER ≡ b
        → IfSome (option_and_then (λ number. final_notice m class s.identity.guid peer number now) (cond b (Some s.next_number) None)) (IsNotice s)
    numbered true e = made (final_is_due m class s.identity.guid) (at_most s.next_number MAX_NUMBER e)
    numbered false e = tt
