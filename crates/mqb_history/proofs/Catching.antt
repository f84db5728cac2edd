-- What a call hears and decides is a transfer of the present connection.
use Rattle.std.proofs.Common.{ap, sym, subst, ◌∙◌}
use Rattle.std.specs.List.{list_any}
use Rattle.std.specs.Prelude.{◌-◌, ◌==◌, ◌≡◌, Bool, IfSome, List, None, Option, Some, cond, false, slice_get, true, ℕ}
use Rattle.mqb_base.specs.Same.{same_guid, same_name}
use Rattle.mqb_base.specs.declared.heads.TxHead.{TxHead}
use Rattle.mqb_base.specs.declared.ids.Identity.{Identity}
use Rattle.mqb_base.specs.declared.message.Message.{Message}
use Rattle.mqb_base.specs.declared.queue_names.QueueName.{QueueName}
use Rattle.mqb_exactly_once.proofs.Deciding.{none_left_where_due}
use Rattle.mqb_exactly_once.specs.Words.{In}
use Rattle.mqb_exactly_once.specs.World.{Channel, Transfer}
use Rattle.mqb_model.specs.records.Record.{Record}
use Rattle.mqb_model.specs.records.Record as entry
use Rattle.mqb_network.specs.Courses.{Course, Written}
use Rattle.mqb_network.specs.Laws.{AreApart}
use Rattle.mqb_network.specs.Network.{Connection, Note, is_underway, manager_at}
use Rattle.mqb_packet.specs.declared.packet.Packet.{Packet}
use Rattle.mqb_packet.specs.declared.packet.Packet.TheVariants as packet
use Rattle.mqb_packet.specs.declared.packet.UserPacket.{UserPacket}
use Rattle.mqb_queue.specs.Places.{numbered}
use Rattle.mqb_history.specs.Carried.{AreCarriedTruly, IsCommittedBy}
use Rattle.mqb_history.specs.Committed.{commitments}
use Rattle.mqb_history.specs.Decided.{is_in_channel, written_of}
use Rattle.mqb_history.specs.Made.{IsFrom}
use Rattle.mqb_history.specs.Orderly.{IsOrderly}
use Rattle.mqb_history.specs.Shown.{IsTransfer}
use Rattle.mqb_history.proofs.Between.{AreEnds, all_in, any_in}
use Rattle.mqb_history.proofs.Committing.{IsOwnBelow}
use Rattle.mqb_history.proofs.Linked.{IsLinked}
use Rattle.mqb_history.proofs.Lists.{equal_numbers, get_in, none_some, split_and}
use Rattle.mqb_history.proofs.Marked.{AreMarked}
use Rattle.mqb_history.proofs.Names.{same_guid_is, same_name_is}
use Rattle.mqb_history.proofs.Ruling.{HasTransfer, MayRule}
use Rattle.mqb_history.proofs.Storing.{KeepsStorage}
use Rattle.mqb_history.proofs.Undecided.{IsKnown, committed_one, one_manager}

pub heard_may : (ch : Channel) (ts : List Transfer) (number : ℕ) (heard : Option Packet) (o : Option Record) → IfSome o (IsFrom heard)
    → ((p : UserPacket) (tx : TxHead) → heard ≡ Some (packet.User p) → p.tx ≡ Some tx → is_in_channel ch p.message ≡ true → HasTransfer ts number p tx) → IfSome o (MayRule ch ts number)
heard_may ch ts number heard (Some (entry.Arrived now numbers (entry.Decided p))) h g = λ tx e inside. g p tx h e inside
heard_may ch ts number heard o h g = tt

-- no time is left in a packet exactly where its message has none
late_too : (ws : List Written) (i moment : ℕ) (p : UserPacket) (tx : TxHead) → IsCommittedBy i ws moment p tx → (p.message.reach == 0) ≡ (p.remaining == 0)
late_too ws i moment p tx h = ap (λ (m : Message). m.reach == 0) h.message ∙ none_left_where_due h.commitment.message.sent h.commitment.message.reach moment ∙ sym h.late

-- a note is in the list
pub note_in : (notes : List Note) (k : ℕ) (note : Note) → numbered notes k ≡ Some note → In note notes
note_in notes k note e = at (k == 0) e
  where
    at : (b : Bool) → cond b None (slice_get notes (k - 1)) ≡ Some note → In note notes
    at true f = absurd (none_some f)
    at false f = get_in notes (k - 1) note f

module _ (known : List Identity) (c : Course) (i j : ℕ) (ch : Channel) (d : QueueName) (peer : ℕ) (apart : AreApart known) (o : IsOrderly known c)
    (held : (a : ℕ) → AreMarked (manager_at c.network a).state (written_of a c.written)) (carried : AreCarriedTruly c) (k : KeepsStorage c)
    (source : IsKnown known c i) (own : (manager_at c.network i).state.identity.guid ≡ ch.source) (leads : ch.destination ≡ d) (h : IsLinked c i j ch d peer) where
  -- a packet of a stream that can still be heard
  pub heard_transfer : (n : ℕ) (note : Note) (p : UserPacket) (tx : TxHead) → numbered c.network.notes n ≡ Some note → numbered c.sent n ≡ Some (packet.User p) → p.tx ≡ Some tx
      → is_underway c.network note ≡ true → note.receiver ≡ j → is_in_channel ch p.message ≡ true → HasTransfer h.world.transfers h.world.connection p tx
  heard_transfer n note p tx e f t underway receiver inside = record {
    transfer = x.0;
    there = x.1;
    head = x.2.head;
    message = x.2.message;
    connection = x.3 present;
    late = late_too c.written note.sender note.moment p tx g;
  }
    where
      g : IsCommittedBy note.sender c.written note.moment p tx
      g = carried n note p tx e f t

      both : (same_guid p.message.id.qm ch.source ≡ true) × (same_name p.message.destination ch.destination ≡ true)
      both = split_and (same_guid p.message.id.qm ch.source) (same_name p.message.destination ch.destination) inside

      sender : (manager_at c.network note.sender).state.identity.guid ≡ (manager_at c.network i).state.identity.guid
      sender = sym (all_in (IsOwnBelow (manager_at c.network note.sender).state.identity.guid (manager_at c.network note.sender).state.next_number) (commitments (written_of note.sender c.written))
          g.commitment (held note.sender).0.0.0.0.0.own_ids g.there).0 ∙ ap (λ (m : Message). m.id.qm) (sym g.message) ∙ same_guid_is p.message.id.qm ch.source both.0 ∙ sym own

      is_source : note.sender ≡ i
      is_source = one_manager known c note.sender i apart (committed_one known c note.sender g.commitment o (held note.sender).0.0.0 g.there) source sender

      stands : (y : Connection) × In y c.network.connections × ((y.number == note.connection) ≡ true)
      stands = any_in (λ (y : Connection). y.number == note.connection) c.network.connections (split_and _ (list_any (λ (y : Connection). y.number == note.connection) c.network.connections) underway).1

      ends : AreEnds stands.0 i j
      ends = subst (λ a. AreEnds stands.0 a j) is_source (subst (AreEnds stands.0 note.sender) receiver (k.ends note (note_in c.network.notes n note e) stands.0 stands.1
          (equal_numbers stands.0.number note.connection stands.2)))

      present : note.connection ≡ h.number
      present = sym (equal_numbers stands.0.number note.connection stands.2) ∙ h.standing stands.0 stands.1 ends

      x : (t : Transfer) × In t h.world.transfers × IsTransfer note p tx t × (note.connection ≡ h.number → t.connection ≡ h.world.connection)
      x = h.packets n note p tx e f t is_source receiver (same_name_is p.message.destination ch.destination both.1 ∙ leads)
