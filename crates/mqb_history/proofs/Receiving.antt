-- Each final acknowledgement of which a record tells was a packet to its manager.
use Rattle.std.proofs.Common.{refl, ap, ◌∙◌, subst}
use Rattle.std.specs.Option.{option_map_or}
use Rattle.std.specs.Prelude.{[], ◌++◌, ◌≡◌, IfSome, List, None, Option, Some, false, length, not, replicate, true, ℕ}
use Rattle.mqb_base.specs.declared.ids.Identity.{Identity}
use Rattle.mqb_fate.specs.Orders.{is_final_class}
use Rattle.mqb_model.specs.records.Record.{Part, Record}
use Rattle.mqb_model.specs.records.Record as entry
use Rattle.mqb_model.specs.state.Places.{is_express}
use Rattle.mqb_model.specs.state.State.{State}
use Rattle.mqb_network.specs.Changes.{note_by}
use Rattle.mqb_network.specs.Choices.{Failure}
use Rattle.mqb_network.specs.Courses.{Course}
use Rattle.mqb_network.specs.Network.{Connection, Network, Note, connection_of, manager_at}
use Rattle.mqb_network.specs.Runs.{beginning}
use Rattle.mqb_packet.specs.declared.packet.Packet.{Packet}
use Rattle.mqb_packet.specs.declared.packet.Packet.TheVariants as packet
use Rattle.mqb_packet.specs.declared.packet.UserPacket.{UserPacket}
use Rattle.mqb_queue.specs.Places.{numbered}
use Rattle.mqb_model.specs.calls.Call.{Call, Hear, Pump, outcome_of}
use Rattle.mqb_history.specs.Changes.{Calls, Change, Drops, Ends, Fails, Finds, Hears, Links, Pumps, Restarts, calling, changed, given_out, hearing, is_of_packets, may_change}
use Rattle.mqb_history.specs.Shown.{is_final_ack}
use Rattle.mqb_history.proofs.Chaining.{called_goes, drops_goes, ends_goes, fails_goes, failed_goes, finds_goes, restarts_goes}
use Rattle.mqb_history.proofs.Each.{EachRecord, OfChange, each_begins, each_change, each_weaker}
use Rattle.mqb_history.proofs.Gone.{calling_sent, hearing_sent}
use Rattle.mqb_history.proofs.Lists.{clash, join_and, not_true, split_and}
use Rattle.mqb_history.proofs.Posted.{IsSameNoteAt, numbered_front}
use Rattle.mqb_history.proofs.Recorded.{RecordOf, calls_are_of}

-- A final acknowledgement went to a manager.
pub record IsReceived (notes : List Note) (sent : List Packet) (i : ℕ) (p : UserPacket) : Type 0 where
  pub place : ℕ
  pub note : Note
  pub noted : numbered notes place ≡ Some note
  pub there : numbered sent place ≡ Some (packet.User p)
  pub receiver : note.receiver ≡ i
  pub plain : p.tx ≡ None
  pub final : is_final_ack p.message ≡ true

-- so did that of which a record tells
abbrev pub IsFinalReceived : List Note → List Packet → ℕ → Record → Type 0
IsFinalReceived notes sent i (entry.Arrived now numbers (entry.Final p)) = IsReceived notes sent i p
IsFinalReceived notes sent i _ = Unit {0}

abbrev pub AreFinalsReceived : Course → Type 0
AreFinalsReceived c = EachRecord (IsFinalReceived c.network.notes c.sent) c

-- Notes and packets stay.

same_note : (notes : List Note) (k : ℕ) (note : Note) → numbered notes k ≡ Some note → IsSameNoteAt notes k note
same_note notes k note e = record { old = note; there = e; sender = refl; receiver = refl; connection = refl; moment = refl }

calling_notes : (a : ℕ) (call : Call) (failure : Option Failure) (c : Course) (k : ℕ) (note : Note) → numbered c.network.notes k ≡ Some note → IsSameNoteAt (calling a call failure c).network.notes k note
calling_notes a call None c k note e = (called_goes a call c).notes_kept k note e
calling_notes a call (Some how) c k note e = (failed_goes a call how c).notes_kept k note e

-- those of a pump stand behind
posted_notes : (n : Network) (a now len k : ℕ) (note : Note) (o : Option Connection) → numbered n.notes k ≡ Some note
    → numbered (option_map_or (λ (e : Connection). record n { notes = n.notes ++ replicate len (note_by a now e) }) o n).notes k ≡ Some note
posted_notes n a now len k note None e = e
posted_notes n a now len k note (Some x) e = numbered_front n.notes (replicate len (note_by a now x)) k note e

pub pumped_notes : (c : Course) (a now : ℕ) (failure : Option Failure) (k : ℕ) (note : Note) → numbered (calling a (Pump now) failure c).network.notes k ≡ Some note
    → numbered (changed (Pumps a now failure) c).network.notes k ≡ Some note
pumped_notes c a now failure k note e = let n = (calling a (Pump now) failure c).network in
    posted_notes n a now (length (given_out (outcome_of (manager_at c.network a) (Pump now)) failure)) k note (connection_of n a) e

pub pumped_sent : (c : Course) (a now : ℕ) (failure : Option Failure) (k : ℕ) (x : Packet) → numbered (calling a (Pump now) failure c).sent k ≡ Some x
    → numbered (changed (Pumps a now failure) c).sent k ≡ Some x
pumped_sent c a now failure k x e = numbered_front (calling a (Pump now) failure c).sent (given_out (outcome_of (manager_at c.network a) (Pump now)) failure) k x e

hearing_notes : (o : Option Note) (p : Option Packet) (now : ℕ) (failure : Option Failure) (c : Course) (k : ℕ) (note : Note) → numbered c.network.notes k ≡ Some note
    → IsSameNoteAt (hearing o p now failure c).network.notes k note
hearing_notes None p now failure c k note e = same_note c.network.notes k note e
hearing_notes (Some x) None now failure c k note e = same_note c.network.notes k note e
hearing_notes (Some x) (Some p) now failure c k note e = calling_notes x.receiver (Hear now p) failure c k note e

change_notes : (c : Course) (x : Change) (k : ℕ) (note : Note) → numbered c.network.notes k ≡ Some note → IsSameNoteAt (changed x c).network.notes k note
change_notes c (Calls a call failure) k note e = calling_notes a call failure c k note e
change_notes c (Pumps a now failure) k note e = let n = calling_notes a (Pump now) failure c k note e in
    record { old = n.old; there = pumped_notes c a now failure k n.old n.there; sender = n.sender; receiver = n.receiver; connection = n.connection; moment = n.moment }
change_notes c (Hears d now failure) k note e = hearing_notes (numbered c.network.notes d) (numbered c.sent d) now failure c k note e
change_notes c (Links a b window_a window_b) k note e = same_note c.network.notes k note e
change_notes c (Ends a) k note e = (ends_goes a c).notes_kept k note e
change_notes c (Drops d) k note e = (drops_goes d c).notes_kept k note e
change_notes c (Restarts a) k note e = (restarts_goes a c).notes_kept k note e
change_notes c (Finds a) k note e = (finds_goes a c).notes_kept k note e
change_notes c (Fails a) k note e = (fails_goes a c).notes_kept k note e

change_sent : (c : Course) (x : Change) (k : ℕ) (p : Packet) → numbered c.sent k ≡ Some p → numbered (changed x c).sent k ≡ Some p
change_sent c (Calls a call failure) k p e = ap (λ xs. numbered xs k) (calling_sent a call failure c) ∙ e
change_sent c (Pumps a now failure) k p e = pumped_sent c a now failure k p (ap (λ xs. numbered xs k) (calling_sent a (Pump now) failure c) ∙ e)
change_sent c (Hears d now failure) k p e = ap (λ xs. numbered xs k) (hearing_sent (numbered c.network.notes d) (numbered c.sent d) now failure c) ∙ e
change_sent c x k p e = e

received_later : (c : Course) (x : Change) (i : ℕ) (p : UserPacket) → IsReceived c.network.notes c.sent i p → IsReceived (changed x c).network.notes (changed x c).sent i p
received_later c x i p h = let n = change_notes c x h.place h.note h.noted in record {
  place = h.place;
  note = n.old;
  noted = n.there;
  there = change_sent c x h.place (packet.User p) h.there;
  receiver = n.receiver ∙ h.receiver;
  plain = h.plain;
  final = h.final;
}

record_later : (c : Course) (x : Change) (i : ℕ) (r : Record) → IsFinalReceived c.network.notes c.sent i r → IsFinalReceived (changed x c).network.notes (changed x c).sent i r
record_later c x i (entry.Arrived now numbers (entry.Final p)) h = received_later c x i p h
record_later c x i r h = tt

-- Calls.

-- a call hears no packet, or one that was noted
abbrev IsNoted : List Note → List Packet → ℕ → Call → Type 0
IsNoted notes sent i (Hear now x) = (k : ℕ) × (note : Note) × (numbered notes k ≡ Some note) × (numbered sent k ≡ Some x) × (note.receiver ≡ i)
IsNoted notes sent i _ = Unit {0}

module _ (notes : List Note) (sent : List Packet) (i : ℕ) (s : State) where
  final_noted : (call : Call) (now : ℕ) (numbers : List ℕ) (p : UserPacket) → IsNoted notes sent i call → RecordOf s call (entry.Arrived now numbers (entry.Final p)) → IsReceived notes sent i p
  final_noted call now numbers p n h = record {
    place = heard.0;
    note = heard.1;
    noted = heard.2;
    there = heard.3 ∙ ap (λ y. Some y) h.part_is.0;
    receiver = heard.4;
    plain = h.part_is.2.0;
    final = join_and (not (is_express p.message.delivery)) (is_final_class p.message.class) (ap not h.part_is.2.1) h.part_is.3;
  }
    where
      heard : IsNoted notes sent i (Hear h.now h.heard)
      heard = subst (IsNoted notes sent i) h.call_is n

  record_noted : (call : Call) (r : Record) → IsNoted notes sent i call → RecordOf s call r → IsFinalReceived notes sent i r
  record_noted call (entry.Arrived now numbers (entry.Final p)) n h = final_noted call now numbers p n h
  record_noted call r n h = tt

call_noted : (c : Course) (i : ℕ) (call : Call) → IsNoted c.network.notes c.sent i call → IfSome (outcome_of (manager_at c.network i) call).entry (IsFinalReceived c.network.notes c.sent i)
call_noted c i call n = at (outcome_of (manager_at c.network i) call).entry (calls_are_of (manager_at c.network i) call).entry
  where
    at : (o : Option Record) → IfSome o (RecordOf (manager_at c.network i).state call) → IfSome o (IsFinalReceived c.network.notes c.sent i)
    at None h = tt
    at (Some r) h = record_noted c.network.notes c.sent i (manager_at c.network i).state call r n h

-- a call that has nothing to do with packets hears none
pub unheard_received : (c : Course) (i : ℕ) (call : Call) → is_of_packets call ≡ false → IfSome (outcome_of (manager_at c.network i) call).entry (IsFinalReceived c.network.notes c.sent i)
unheard_received c i call quiet = call_noted c i call (none call quiet)
  where
    none : (x : Call) → is_of_packets x ≡ false → IsNoted c.network.notes c.sent i x
    none (Hear at x) e = absurd (clash e)
    none x e = tt

pub pump_received : (c : Course) (i now : ℕ) → IfSome (outcome_of (manager_at c.network i) (Pump now)).entry (IsFinalReceived c.network.notes c.sent i)
pump_received c i now = call_noted c i (Pump now) tt

pub heard_received : (c : Course) (k now : ℕ) (note : Note) (x : Packet) → numbered c.network.notes k ≡ Some note → numbered c.sent k ≡ Some x
    → IfSome (outcome_of (manager_at c.network note.receiver) (Hear now x)).entry (IsFinalReceived c.network.notes c.sent note.receiver)
heard_received c k now note x e f = call_noted c note.receiver (Hear now x) (k, note, e, f, refl)

change_received : (c : Course) (x : Change) → may_change c x ≡ true → OfChange (IsFinalReceived c.network.notes c.sent) c x
change_received c (Calls i call failure) may = unheard_received c i call (not_true (is_of_packets call) (split_and (not (is_of_packets call)) _ may).0)
change_received c (Pumps i now failure) may = pump_received c i now
change_received c (Hears k now failure) may = λ note x e f. heard_received c k now note x e f
change_received c x may = tt

-- So it is in every course.

pub received_keeps : (c : Course) (x : Change) → may_change c x ≡ true → AreFinalsReceived c → AreFinalsReceived (changed x c)
received_keeps c x may h = each_weaker (IsFinalReceived c.network.notes c.sent) (IsFinalReceived (changed x c).network.notes (changed x c).sent) (record_later c x) (changed x c)
    (each_change (IsFinalReceived c.network.notes c.sent) c x (change_received c x may) h)

pub received_begins : (known : List Identity) → AreFinalsReceived (beginning known)
received_begins known = each_begins (IsFinalReceived [] []) known
