-- Each packet goes in an event in which its sender pumps, at its moment.
use Rattle.std.proofs.Common.{refl, ap, sym, subst, ◌∙◌, inl, inr}
use Rattle.std.specs.List.{enumerate_from, range_with_len}
use Rattle.std.specs.Option.{option_map_or}
use Rattle.std.specs.Prelude.{[], ◌+◌, ◌++◌, ◌-◌, ◌∷◌, ◌≡◌, ◌⊎◌, Bool, Err, List, None, Ok, Option, Result, Some, cond, fold, is_none, is_some, length, replicate, slice_get, slice_set, suc, zero, ℕ, true, false}
use Rattle.mqb_exactly_once.specs.Words.{In}
use Rattle.mqb_model.specs.calls.Call.{requested}
use Rattle.mqb_model.specs.calls.Link.{resend}
use Rattle.mqb_model.specs.calls.hear.Hear.{hear}
use Rattle.mqb_model.specs.calls.hear.Session.{HeardOutcome}
use Rattle.mqb_model.specs.calls.pump.Pump.{PumpOutcome, pump}
use Rattle.mqb_model.specs.declared.faults.PumpFault.{PumpFault}
use Rattle.mqb_model.specs.managers.Manager.{doubt_of}
use Rattle.mqb_model.specs.managers.Outcomes.{Outcome, failed}
use Rattle.mqb_network.specs.Answers.{only}
use Rattle.mqb_network.specs.Changes.{as_dropped, dropped, ended, note_by, succeeded_at}
use Rattle.mqb_network.specs.Choices.{Choice, Failure, Unread, Well, choice_behind, failure_in, is_far}
use Rattle.mqb_network.specs.Connecting.{any_connected, any_down, both_linked, connect, connecting, disconnect, exchanged, resend_by, set_up}
use Rattle.mqb_network.specs.Courses.{Course, called, called_unless, found_kept, moved, posted}
use Rattle.mqb_network.specs.Delivering.{closes, deliver_packet, drop_packet, heard_by, passed, unheard}
use Rattle.mqb_network.specs.Doubts.{settled_at}
use Rattle.mqb_network.specs.Events.{Event}
use Rattle.mqb_network.specs.Events as event
use Rattle.mqb_network.specs.Network.{Connection, Note, connection_of, is_connected, is_underway, manager_at, with_manager}
use Rattle.mqb_network.specs.Replies as reply
use Rattle.mqb_network.specs.Restarting.{reopen, restart}
use Rattle.mqb_network.specs.Runs.{Move, after_run, beginning, course_after, moved_on, packet_of}
use Rattle.mqb_network.specs.Sending.{Passing, flow, flow_by, packets_out, passed_on, pump_by, pumped_flows}
use Rattle.mqb_network.specs.Step.{answer_to}
use Rattle.mqb_network.proofs.Joining.{move_in_course}
use Rattle.mqb_packet.specs.declared.packet.Packet.{Packet}
use Rattle.mqb_queue.specs.Places.{numbered}
use Rattle.mqb_network.specs.mqb_store_laws.Checkpoints.{checkpoint}
use Rattle.mqb_history.specs.Pumps.{HasPumped, NotesTellPumps, PumpsAt}
use Rattle.mqb_history.proofs.Between.{in_either}
use Rattle.mqb_history.proofs.Lists.{some_is}
use Rattle.mqb_history.proofs.Ordering.{ended_notes}
use Rattle.mqb_history.proofs.Putting.{number_place}

-- a note of the same sender and moment stands there
pub record HasNote (notes : List Note) (by at : ℕ) : Type 0 where
  pub note : Note
  pub there : In note notes
  pub sender : note.sender ≡ by
  pub moment : note.moment ≡ at

-- what is noted behind a course was noted before, or is allowed
abbrev Notes : (ℕ → ℕ → Type 0) → Course → Course → Type 0
Notes P c d = (note : Note) → In note d.network.notes → HasNote c.network.notes note.sender note.moment ⊎ P note.sender note.moment

module _ (P : ℕ → ℕ → Type 0) where
  same_notes : (c d : Course) → d.network.notes ≡ c.network.notes → Notes P c d
  same_notes c d e note i = inl (record { note = note; there = subst (In note) e i; sender = refl; moment = refl })

  notes_then : (b c d : Course) → Notes P b c → Notes P c d → Notes P b d
  notes_then b c d f g note i = at (g note i)
    where
      at : HasNote c.network.notes note.sender note.moment ⊎ P note.sender note.moment → HasNote b.network.notes note.sender note.moment ⊎ P note.sender note.moment
      at (inr p) = inr p
      at (inl x) = by (f x.note x.there)
        where
          by : HasNote b.network.notes x.note.sender x.note.moment ⊎ P x.note.sender x.note.moment → HasNote b.network.notes note.sender note.moment ⊎ P note.sender note.moment
          by (inl y) = inl (record { note = y.note; there = y.there; sender = y.sender ∙ x.sender; moment = y.moment ∙ x.moment })
          by (inr p) = inr (subst (λ s. P s note.moment) x.sender (subst (P x.note.sender) x.moment p))

  -- Calls.

  called_notes : {A : Type 0} (i : ℕ) (outcome : Outcome A) (choice : Choice) (c : Course) → (called i outcome choice c).network.notes ≡ c.network.notes
  called_notes {A} i outcome choice c = at (failure_in choice outcome)
    where
      at : (o : Option Failure) → (called_unless i outcome o c).network.notes ≡ c.network.notes
      at None = refl
      at (Some how) = ended_notes (with_manager c.network i (failed (manager_at c.network i) outcome)) i

  replicated : (x note : Note) (count : ℕ) → In note (replicate count x) → x ≡ note
  replicated x note zero i = absurd i
  replicated x note (suc count) (inl e) = e
  replicated x note (suc count) (inr i) = replicated x note count i

  posted_notes : (i now : ℕ) (packets : List Packet) (c : Course) → P i now → Notes P c (posted i now packets c)
  posted_notes i now packets c p note inside = at (connection_of c.network i) inside
    where
      at : (o : Option Connection) → In note (option_map_or (λ d. record c.network { notes = c.network.notes ++ replicate (length packets) (note_by i now d) }) o c.network).notes
          → HasNote c.network.notes note.sender note.moment ⊎ P note.sender note.moment
      at None j = inl (record { note = note; there = j; sender = refl; moment = refl })
      at (Some d) j = by (in_either c.network.notes (replicate (length packets) (note_by i now d)) note j)
        where
          by : In note c.network.notes ⊎ In note (replicate (length packets) (note_by i now d)) → HasNote c.network.notes note.sender note.moment ⊎ P note.sender note.moment
          by (inl k) = inl (record { note = note; there = k; sender = refl; moment = refl })
          by (inr k) = let e = replicated (note_by i now d) note (length packets) k in inr (subst (λ (x : Note). P x.sender x.moment) e p)

  pumped_notes : (i now : ℕ) (outcome : PumpOutcome) (choice : Choice) (c : Course) → P i now → Notes P c (pump_by i now outcome choice c).after
  pumped_notes i now outcome choice c p = notes_then c (called i outcome choice c) (pump_by i now outcome choice c).after (same_notes c (called i outcome choice c) (called_notes i outcome choice c))
      (posted_notes i now (packets_out outcome choice) (called i outcome choice c) p)

  -- Deliveries.

  heard_notes : (i : ℕ) (outcome : HeardOutcome) (choice : Choice) (c : Course) → (heard_by i outcome choice c).after.network.notes ≡ c.network.notes
  heard_notes i outcome choice c = at (closes outcome.answer)
    where
      at : (b : Bool) → (cond b (moved (ended i) (called i outcome choice c)) (called i outcome choice c)).network.notes ≡ c.network.notes
      at true = ended_notes (called i outcome choice c).network i ∙ called_notes i outcome choice c
      at false = called_notes i outcome choice c

  passed_notes : (note : Note) (p : Packet) (now : ℕ) (choice : Choice) (c : Course) → (passed note p now choice c).after.network.notes ≡ c.network.notes
  passed_notes note p now choice c = at (is_underway c.network note)
    where
      at : (b : Bool) → (cond b (heard_by note.receiver (hear (manager_at c.network note.receiver) p now) choice c) (unheard choice c)).after.network.notes ≡ c.network.notes
      at true = heard_notes note.receiver (hear (manager_at c.network note.receiver) p now) choice c
      at false = refl

  delivered_notes : (note : Option Note) (p : Option Packet) (now : ℕ) (choice : Choice) (c : Course) → (deliver_packet note p now choice c).after.network.notes ≡ c.network.notes
  delivered_notes None p now choice c = refl
  delivered_notes (Some note) None now choice c = refl
  delivered_notes (Some note) (Some p) now choice c = passed_notes note p now choice c

  on_notes : (now : ℕ) (t : Passing) (given : ℕ × Packet) → (passed_on now t given).after.network.notes ≡ t.after.network.notes
  on_notes now t given = at (numbered t.after.network.notes given.0)
    where
      at : (o : Option Note) → (option_map_or (λ note. passed note given.1 now t.left t.after) o (unheard t.left t.after)).after.network.notes ≡ t.after.network.notes
      at None = refl
      at (Some note) = passed_notes note given.1 now t.left t.after

  all_notes : (now : ℕ) (t : Passing) (given : List (ℕ × Packet)) → (fold (passed_on now) t given).after.network.notes ≡ t.after.network.notes
  all_notes now t [] = refl
  all_notes now t (x ∷ xs) = all_notes now (passed_on now t x) xs ∙ on_notes now t x

  flow_notes : (i now : ℕ) (choice : Choice) (c : Course) → P i now → Notes P c (flow i now choice c).after
  flow_notes i now choice c p = at outcome.answer
    where
      outcome : PumpOutcome
      outcome = pump (manager_at c.network i) now

      start : Passing
      start = record { arrivals = []; after = (pump_by i now outcome choice c).after; left = choice_behind choice outcome }

      flows : Notes P c (pumped_flows i now outcome choice c).after
      flows = notes_then c (pump_by i now outcome choice c).after (pumped_flows i now outcome choice c).after (pumped_notes i now outcome choice c p)
          (same_notes (pump_by i now outcome choice c).after (pumped_flows i now outcome choice c).after (all_notes now start (enumerate_from (length c.network.notes + 1) outcome.packets)))

      at : (r : Result ℕ PumpFault) → Notes P c (flow_by i now outcome choice c r).after
      at (Err fault) = pumped_notes i now outcome choice c p
      at (Ok count) = by (is_some (failure_in choice outcome))
        where
          by : (b : Bool) → Notes P c (cond b (pump_by i now outcome choice c) (pumped_flows i now outcome choice c)).after
          by true = pumped_notes i now outcome choice c p
          by false = flows

  -- Connections.

  exchanged_notes : (a b now : ℕ) (c : Course) → P a now → P b now → Notes P c (exchanged a b now c)
  exchanged_notes a b now c p q = notes_then c (flow a now Well c).after (exchanged a b now c) (flow_notes a now Well c p) (flow_notes b now Well (flow a now Well c).after q)

  connect_notes : (a b now window_a window_b : ℕ) (c : Course) → P a now → P b now → Notes P c (connect a b now window_a window_b c).after
  connect_notes a b now window_a window_b c p q = at (any_down c.network a b) (any_connected c.network a b)
    where
      linked : Course
      linked = moved (both_linked a b window_a window_b) c

      at : (x y : Bool) → Notes P c (cond x (only c reply.NotUp) (cond y (only c reply.Linked) (connecting a b now window_a window_b c))).after
      at true y = same_notes c c refl
      at false true = same_notes c c refl
      at false false = notes_then c linked (set_up a b now linked) (same_notes c linked refl)
          (notes_then linked (exchanged a b now linked) (set_up a b now linked) (exchanged_notes a b now linked p q) (exchanged_notes a b now (exchanged a b now linked) p q))

  -- Other events.

  dropped_notes : (k : ℕ) (c : Course) → Notes P c (drop_packet k c).after
  dropped_notes k c = at (numbered c.network.notes k) refl
    where
      in_set : (notes : List Note) (n : ℕ) (x note : Note) → slice_get notes n ≡ Some x → In note (slice_set notes n (as_dropped x)) → HasNote notes note.sender note.moment
      in_set [] n x note e i = absurd i
      in_set (z ∷ zs) zero x note e (inl f) = record { note = z; there = inl refl; sender = ap (λ (y : Note). y.sender) (some_is z x e) ∙ ap (λ (y : Note). y.sender) f; moment = ap (λ (y : Note). y.moment) (some_is z x e) ∙ ap (λ (y : Note). y.moment) f }
      in_set (z ∷ zs) zero x note e (inr j) = record { note = note; there = inr j; sender = refl; moment = refl }
      in_set (z ∷ zs) (suc n) x note e (inl f) = record { note = note; there = inl f; sender = refl; moment = refl }
      in_set (z ∷ zs) (suc n) x note e (inr j) = let g = in_set zs n x note e j in record { note = g.note; there = inr g.there; sender = g.sender; moment = g.moment }

      at : (o : Option Note) → numbered c.network.notes k ≡ o → Notes P c (cond (is_some o) (record { reply = reply.Dropped; after = moved (dropped k) c }) (only c reply.NoPacket)).after
      at None e = same_notes c c refl
      at (Some x) e = λ note i. inl (in_set c.network.notes (k - 1) x note (number_place c.network.notes k x e).1
          (subst (λ o. In note (option_map_or (λ y. slice_set c.network.notes (k - 1) (as_dropped y)) o c.network.notes)) e i))

  disconnected_notes : (i : ℕ) (c : Course) → (disconnect i c).after.network.notes ≡ c.network.notes
  disconnected_notes i c = at (is_connected c.network i)
    where
      at : (b : Bool) → (cond b (record { reply = reply.Disconnected; after = moved (ended i) c }) (only c reply.Unlinked)).after.network.notes ≡ c.network.notes
      at true = ended_notes c.network i
      at false = refl

  resent_notes : (i : ℕ) (c : Course) → (resend_by i c).after.network.notes ≡ c.network.notes
  resent_notes i c = at (is_connected c.network i)
    where
      at : (b : Bool) → (cond b (record { reply = reply.Resent; after = moved (succeeded_at i (resend (manager_at c.network i))) c }) (only c reply.Unlinked)).after.network.notes ≡ c.network.notes
      at true = refl
      at false = refl

  reopened_notes : (i : ℕ) (choice : Choice) (c : Course) → (reopen i choice c).after.network.notes ≡ c.network.notes
  reopened_notes i Unread c = refl
  reopened_notes i choice c = refl

-- One event.
event_notes : (P : ℕ → ℕ → Type 0) (e : Event) → ((i moment : ℕ) → PumpsAt i moment e → P i moment) → (x : Option Packet) (choice : Choice) (c : Course) → Notes P c (answer_to e x choice c).after
event_notes P (event.Asks i request) pumps x choice c = same_notes P c (answer_to (event.Asks i request) x choice c).after (called_notes P i (requested (manager_at c.network i) request) choice c)
event_notes P (event.Connect a b now window_a window_b) pumps x choice c = connect_notes P a b now window_a window_b c (pumps a now (inl refl, refl)) (pumps b now (inr refl, refl))
event_notes P (event.Disconnect i) pumps x choice c = same_notes P c (disconnect i c).after (disconnected_notes P i c)
event_notes P (event.Resend i) pumps x choice c = same_notes P c (resend_by i c).after (resent_notes P i c)
event_notes P (event.Pump i now) pumps x choice c = pumped_notes P i now (pump (manager_at c.network i) now) choice c (pumps i now (refl, refl))
event_notes P (event.Deliver k now) pumps x choice c = same_notes P c (answer_to (event.Deliver k now) x choice c).after (delivered_notes P (numbered c.network.notes k) x now choice c)
event_notes P (event.Drop k) pumps x choice c = dropped_notes P k c
event_notes P (event.Flow i now) pumps x choice c = flow_notes P i now choice c (pumps i now (refl, refl))
event_notes P (event.Checkpoint i) pumps x choice c = same_notes P c (answer_to (event.Checkpoint i) x choice c).after
    (called_notes P i (checkpoint (manager_at c.network i) (is_far choice)) choice c)
event_notes P (event.Arm i) pumps x choice c = same_notes P c c refl
event_notes P (event.Restart i) pumps x choice c = same_notes P c (restart i choice c).after (reopened_notes P i choice (moved (ended i) c) ∙ ended_notes c.network i)

-- All of a run.
moves_notes : (c : Course) (ms : List Move) → Notes (HasPumped ms) c (course_after c ms)
moves_notes c [] = same_notes (HasPumped []) c c refl
moves_notes c (m ∷ ms) = notes_then (HasPumped (m ∷ ms)) c (moved_on c m) (course_after (moved_on c m) ms)
    (subst (Notes (HasPumped (m ∷ ms)) c) (sym (move_in_course c m)) (event_notes (HasPumped (m ∷ ms)) m.event (λ i moment p. (m, inl refl, p)) (packet_of c.sent m.event) m.choice c))
    (λ note i. more note (moves_notes (moved_on c m) ms note i))
  where
    more : (note : Note) → HasNote (moved_on c m).network.notes note.sender note.moment ⊎ HasPumped ms note.sender note.moment → HasNote (moved_on c m).network.notes note.sender note.moment ⊎ HasPumped (m ∷ ms) note.sender note.moment
    more note (inl x) = inl x
    more note (inr p) = inr (p.0, inr p.1, p.2)

settled_notes : (kept : ℕ → Bool) (c : Course) (is : List ℕ) → (fold (settled_at kept) c is).network.notes ≡ c.network.notes
settled_notes kept c [] = refl
settled_notes kept c (i ∷ is) = settled_notes kept (settled_at kept c i) is ∙ at (is_none (doubt_of (manager_at c.network i).condition)) (kept i)
  where
    at : (a b : Bool) → (cond a c (cond b (found_kept i c) c)).network.notes ≡ c.network.notes
    at true b = refl
    at false true = refl
    at false false = refl

-- The law.
pub notes_tell_pumps : NotesTellPumps
notes_tell_pumps known ms apart run kept note i = at (moves_notes (beginning known) ms note
    (subst (In note) (settled_notes kept (after_run known ms) (range_with_len 0 (length (after_run known ms).network.managers))) i))
  where
    at : HasNote [] note.sender note.moment ⊎ HasPumped ms note.sender note.moment → HasPumped ms note.sender note.moment
    at (inl x) = absurd x.there
    at (inr p) = p
