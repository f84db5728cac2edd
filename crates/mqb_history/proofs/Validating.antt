-- Managers stay valid: each call keeps them so, and what one pumps can be heard by another.
use Rattle.std.proofs.Common.{refl, sym, subst}
use Rattle.std.proofs.lemmas.List.Elements.{recursion_from_All}
use Rattle.std.specs.List.{AllByRecursion, enumerate_from, range_with_len}
use Rattle.std.specs.Option.{option_map_or}
use Rattle.std.specs.Prelude.{[], ◌+◌, ◌-◌, ◌==◌, ◌∷◌, ◌≡◌, All, Bool, Err, List, None, Ok, Option, Result, Some, cond, false, fold, is_none, is_some, length, slice_get, suc, true, unwrap_or, zero, ℕ}
use Rattle.mqb_journal.specs.declared.faults.CheckpointFault.TheVariants as fault
use Rattle.mqb_model.specs.calls.Call.{requested}
use Rattle.mqb_model.specs.calls.Link.{link, resend, unlink}
use Rattle.mqb_model.specs.calls.hear.Hear.{IsReadable, hear}
use Rattle.mqb_model.specs.calls.pump.Pump.{PumpOutcome, pump}
use Rattle.mqb_model.specs.declared.answers.Role.{Role}
use Rattle.mqb_model.specs.declared.answers.Role.TheVariants as role
use Rattle.mqb_model.specs.declared.faults.PumpFault.{PumpFault}
use Rattle.mqb_model.specs.laws.Fitting.{PumpedIsReadable}
use Rattle.mqb_model.specs.laws.Keeping.{CallsKeepValid, KeptIsValid, LinkedIsValid, StaysValid}
use Rattle.mqb_model.specs.laws.Validity.{FailedIsValid, LostIsValid, RefusedIsSame, ResentIsValid, UnlinkedIsValid, UnreadIsValid}
use Rattle.mqb_model.specs.managers.Manager.{Manager, doubt_of, is_down}
use Rattle.mqb_model.specs.managers.Outcomes.{Outcome, answering, failed, failed_under, succeeded, unless}
use Rattle.mqb_model.specs.managers.Restarts.{restarted, unread}
use Rattle.mqb_model.specs.managers.Valid.{IsValidManager}
use Rattle.mqb_network.specs.mqb_store_laws.Checkpoints.{checkpoint, checkpoint_made, is_large}
use Rattle.mqb_network.specs.Answers.{only}
use Rattle.mqb_network.specs.Changes.{dropped, ended, parted, succeeded_at}
use Rattle.mqb_network.specs.Choices.{Choice, Failure, Kept, Unread, Well, choice_behind, failure_in, is_far}
use Rattle.mqb_network.specs.Connecting.{any_connected, any_down, asking, both_linked, connect, connected, exchanged, linked_to, set_up}
use Rattle.mqb_network.specs.Courses.{Course, called, called_unless, found_kept, moved, posted}
use Rattle.mqb_network.specs.Delivering.{closes, deliver_packet, heard_by, passed, unheard}
use Rattle.mqb_network.specs.Doubts.{settled, settled_at}
use Rattle.mqb_network.specs.Events.{Event}
use Rattle.mqb_network.specs.Events as event
use Rattle.mqb_network.specs.Network.{Network, Note, is_connected, is_underway, manager_at, nobody, with_manager}
use Rattle.mqb_network.specs.Replies as reply
use Rattle.mqb_network.specs.Restarting.{reopen}
use Rattle.mqb_network.specs.Runs.{Move, course_after, moved_on, packet_of}
use Rattle.mqb_network.specs.Sending.{Passing, flow, flow_by, flowed, packets_unless, passed_on, pump_by}
use Rattle.mqb_network.specs.Step.{answer_to}
use Rattle.mqb_network.proofs.Joining.{move_in_course}
use Rattle.mqb_packet.specs.declared.packet.Packet.{Packet}
use Rattle.mqb_queue.specs.Places.{numbered}
use Rattle.mqb_history.specs.Drafted.{IsDraftedEvent}
use Rattle.mqb_history.proofs.Ending.{parted_at}
use Rattle.mqb_history.proofs.Lists.{all_append, none_some, some_is}
use Rattle.mqb_history.proofs.Ordering.{with_at}
use Rattle.mqb_history.proofs.Written.{noted_managers}

-- what is known of one manager
pub record ManagerLaws : Type 0 where
  pub calls : CallsKeepValid
  pub pumped : PumpedIsReadable
  pub linked : LinkedIsValid
  pub unlinked : UnlinkedIsValid
  pub resent : ResentIsValid
  pub lost : LostIsValid
  pub kept : KeptIsValid
  pub unread : UnreadIsValid
  pub failed : FailedIsValid
  pub refused : RefusedIsSame

-- All managers of a network are valid.
abbrev pub AllValid : Network → Type 0
AllValid n = (i : ℕ) → IsValidManager (manager_at n i)

-- They are, and what was sent can be heard.
pub record IsSound (c : Course) : Type 0 where
  pub valid : AllValid c.network
  pub sent : AllByRecursion IsReadable c.sent

sound_moved : (c : Course) (change : Network → Network) → AllValid (change c.network) → IsSound c → IsSound (moved change c)
sound_moved c change v h = record { valid = v; sent = h.sent }

-- one manager is another valid one
with_valid : (n : Network) (i : ℕ) (m : Manager) → AllValid n → IsValidManager m → AllValid (with_manager n i m)
with_valid n i m h v j = with_at IsValidManager n i j m (h j) (λ e. v)

ended_valid : ManagerLaws → (n : Network) (i : ℕ) → AllValid n → AllValid (ended i n)
ended_valid law n i h j = parted_at IsValidManager n i j parted_valid (h j)
  where
    parted_valid : (m : Manager) → IsValidManager m → IsValidManager (parted m)
    parted_valid m v = at (is_down m)
      where
        at : (b : Bool) → IsValidManager (cond b m (succeeded m (unlink m)))
        at true = v
        at false = law.unlinked m v

-- Calls.

called_sound : {A : Type 0} → ManagerLaws → (i : ℕ) (outcome : Outcome A) (f : Option Failure) (c : Course) → StaysValid (manager_at c.network i) outcome → IsSound c
    → IsSound (called_unless i outcome f c)
called_sound law i outcome None c stays h = record { valid = with_valid c.network i (succeeded (manager_at c.network i) outcome) h.valid stays.succeeds; sent = h.sent }
called_sound law i outcome (Some how) c stays h = record {
  valid = ended_valid law (with_manager c.network i (failed (manager_at c.network i) outcome)) i
      (with_valid c.network i (failed (manager_at c.network i) outcome) h.valid stays.fails);
  sent = h.sent;
}

posted_sound : (i now : ℕ) (packets : List Packet) (c : Course) → AllByRecursion IsReadable packets → IsSound c → IsSound (posted i now packets c)
posted_sound i now packets c readable h = record {
  valid = λ j. subst (λ ms. IsValidManager (unwrap_or (slice_get ms j) nobody)) (sym (noted_managers i now (length packets) c.network)) (h.valid j);
  sent = all_append IsReadable c.sent packets h.sent readable;
}

unless_readable : (outcome : PumpOutcome) (f : Option Failure) → AllByRecursion IsReadable outcome.packets → AllByRecursion IsReadable (packets_unless outcome f)
unless_readable outcome None h = h
unless_readable outcome (Some how) h = tt

pumped_readable : ManagerLaws → (c : Course) (i now : ℕ) → IsSound c → AllByRecursion IsReadable (pump (manager_at c.network i) now).packets
pumped_readable law c i now h = recursion_from_All IsReadable (pump (manager_at c.network i) now).packets (law.pumped (manager_at c.network i) (h.valid i) now)

pump_sound : ManagerLaws → (i now : ℕ) (choice : Choice) (c : Course) → IsSound c → IsSound (pump_by i now (pump (manager_at c.network i) now) choice c).after
pump_sound law i now choice c h = let outcome = pump (manager_at c.network i) now in let f = failure_in choice outcome in
    posted_sound i now (packets_unless outcome f) (called_unless i outcome f c) (unless_readable outcome f (pumped_readable law c i now h))
    (called_sound law i outcome f c ((law.calls (manager_at c.network i) (h.valid i)).pumps now) h)

-- Deliveries.

closed_sound : ManagerLaws → (b : Bool) (i : ℕ) (c : Course) → IsSound c → IsSound (cond b (moved (ended i) c) c)
closed_sound law true i c h = sound_moved c (ended i) (ended_valid law c.network i h.valid) h
closed_sound law false i c h = h

heard_sound : ManagerLaws → (i : ℕ) (p : Packet) (now : ℕ) (choice : Choice) (c : Course) → IsReadable p → IsSound c
    → IsSound (heard_by i (hear (manager_at c.network i) p now) choice c).after
heard_sound law i p now choice c readable h = let outcome = hear (manager_at c.network i) p now in let f = failure_in choice outcome in
    closed_sound law (closes outcome.answer) i (called_unless i outcome f c) (called_sound law i outcome f c ((law.calls (manager_at c.network i) (h.valid i)).hears p now readable) h)

passed_sound : ManagerLaws → (note : Note) (p : Packet) (now : ℕ) (choice : Choice) (c : Course) → IsReadable p → IsSound c → IsSound (passed note p now choice c).after
passed_sound law note p now choice c readable h = at (is_underway c.network note)
  where
    at : (b : Bool) → IsSound (cond b (heard_by note.receiver (hear (manager_at c.network note.receiver) p now) choice c) (unheard choice c)).after
    at true = heard_sound law note.receiver p now choice c readable h
    at false = h

got_readable : (ps : List Packet) (k : ℕ) (p : Packet) → AllByRecursion IsReadable ps → slice_get ps k ≡ Some p → IsReadable p
got_readable [] k p h e = absurd (none_some e)
got_readable (x ∷ xs) zero p h e = subst IsReadable (some_is x p e) h.0
got_readable (x ∷ xs) (suc k) p h e = got_readable xs k p h.1 e

sent_readable : (ps : List Packet) (k : ℕ) (p : Packet) → AllByRecursion IsReadable ps → numbered ps k ≡ Some p → IsReadable p
sent_readable ps k p h e = at (k == 0) e
  where
    at : (b : Bool) → cond b None (slice_get ps (k - 1)) ≡ Some p → IsReadable p
    at true e = absurd (none_some e)
    at false e = got_readable ps (k - 1) p h e

deliver_sound : ManagerLaws → (note : Option Note) (k now : ℕ) (choice : Choice) (c : Course) → IsSound c → IsSound (deliver_packet note (numbered c.sent k) now choice c).after
deliver_sound law None k now choice c h = h
deliver_sound law (Some note) k now choice c h = at (numbered c.sent k) refl
  where
    at : (p : Option Packet) → numbered c.sent k ≡ p → IsSound (deliver_packet (Some note) p now choice c).after
    at None e = h
    at (Some p) e = passed_sound law note p now choice c (sent_readable c.sent k p h.sent e) h

drop_sound : (b : Bool) (k : ℕ) (c : Course) → IsSound c → IsSound (cond b (record { reply = reply.Dropped; after = moved (dropped k) c }) (only c reply.NoPacket)).after
drop_sound true k c h = sound_moved c (dropped k) h.valid h
drop_sound false k c h = h

-- Flows.

on_sound : ManagerLaws → (now : ℕ) (t : Passing) (g : ℕ × Packet) → IsReadable g.1 → IsSound t.after → IsSound (passed_on now t g).after
on_sound law now t g readable h = at (numbered t.after.network.notes g.0)
  where
    at : (o : Option Note) → IsSound (option_map_or (λ note. passed note g.1 now t.left t.after) o (unheard t.left t.after)).after
    at None = h
    at (Some note) = passed_sound law note g.1 now t.left t.after readable h

all_sound : ManagerLaws → (now first : ℕ) (t : Passing) (ps : List Packet) → AllByRecursion IsReadable ps → IsSound t.after
    → IsSound (fold (passed_on now) t (enumerate_from first ps)).after
all_sound law now first t [] readable h = h
all_sound law now first t (p ∷ ps) readable h = all_sound law now (first + 1) (passed_on now t (first, p)) ps readable.1 (on_sound law now t (first, p) readable.0 h)

flow_sound : ManagerLaws → (i now : ℕ) (choice : Choice) (c : Course) → IsSound c → IsSound (flow i now choice c).after
flow_sound law i now choice c h = by outcome.answer
  where
    outcome : PumpOutcome
    outcome = pump (manager_at c.network i) now

    start : Passing
    start = record { arrivals = []; after = (pump_by i now outcome choice c).after; left = choice_behind choice outcome }

    at : (b : Bool) → IsSound (cond b (pump_by i now outcome choice c) (flowed (fold (passed_on now) start (enumerate_from (length c.network.notes + 1) outcome.packets)))).after
    at true = pump_sound law i now choice c h
    at false = all_sound law now (length c.network.notes + 1) start outcome.packets (pumped_readable law c i now h) (pump_sound law i now choice c h)

    by : (answer : Result ℕ PumpFault) → IsSound (flow_by i now outcome choice c answer).after
    by (Err fault) = pump_sound law i now choice c h
    by (Ok count) = at (is_some (failure_in choice outcome))

-- Connections.

linked_valid : ManagerLaws → (n : Network) (i : ℕ) (end : Role) (window : ℕ) → AllValid n
    → AllValid (with_manager n i (succeeded (manager_at n i) (link (manager_at n i) end window)))
linked_valid law n i end window h = with_valid n i (succeeded (manager_at n i) (link (manager_at n i) end window)) h (law.linked (manager_at n i) end window (h i))

exchanged_sound : ManagerLaws → (a b now : ℕ) (c : Course) → IsSound c → IsSound (exchanged a b now c)
exchanged_sound law a b now c h = flow_sound law b now Well (flow a now Well c).after (flow_sound law a now Well c h)

connect_sound : ManagerLaws → (a b now window_a window_b : ℕ) (c : Course) → IsSound c → IsSound (connect a b now window_a window_b c).after
connect_sound law a b now window_a window_b c h = at (any_down c.network a b) (any_connected c.network a b)
  where
    begins : Course
    begins = moved (both_linked a b window_a window_b) c

    begun : IsSound begins
    begun = record {
      valid = linked_valid law (linked_to a b window_a c.network) b role.Acceptor window_b
          (linked_valid law c.network a (asking (manager_at c.network a).state (manager_at c.network b).state.identity.guid) window_a h.valid);
      sent = h.sent;
    }

    at : (down joined : Bool)
        → IsSound (cond down (only c reply.NotUp) (cond joined (only c reply.Linked) (connected (length c.network.notes) (set_up a b now begins)))).after
    at true joined = h
    at false true = h
    at false false = exchanged_sound law a b now (exchanged a b now begins) (exchanged_sound law a b now begins begun)

disconnect_sound : ManagerLaws → (b : Bool) (i : ℕ) (c : Course) → IsSound c
    → IsSound (cond b (record { reply = reply.Disconnected; after = moved (ended i) c }) (only c reply.Unlinked)).after
disconnect_sound law true i c h = sound_moved c (ended i) (ended_valid law c.network i h.valid) h
disconnect_sound law false i c h = h

resend_sound : ManagerLaws → (b : Bool) (i : ℕ) (c : Course) → IsSound c
    → IsSound (cond b (record { reply = reply.Resent; after = moved (succeeded_at i (resend (manager_at c.network i))) c }) (only c reply.Unlinked)).after
resend_sound law true i c h = sound_moved c (succeeded_at i (resend (manager_at c.network i)))
    (with_valid c.network i (succeeded (manager_at c.network i) (resend (manager_at c.network i))) h.valid (law.resent (manager_at c.network i) (h.valid i))) h
resend_sound law false i c h = h

-- Starts.

restarted_sound : ManagerLaws → (i : ℕ) (c : Course) → IsSound c → AllValid (with_manager c.network i (restarted (manager_at c.network i) false))
restarted_sound law i c h = with_valid c.network i (restarted (manager_at c.network i) false) h.valid (law.lost (manager_at c.network i) (h.valid i))

found_sound : ManagerLaws → (i : ℕ) (c : Course) → IsSound c → IsSound (found_kept i c)
found_sound law i c h = record {
  valid = with_valid c.network i (restarted (manager_at c.network i) true) h.valid (law.kept (manager_at c.network i) (h.valid i));
  sent = h.sent;
}

reopen_sound : ManagerLaws → (i : ℕ) (choice : Choice) (c : Course) → IsSound c → IsSound (reopen i choice c).after
reopen_sound law i Kept c h = found_sound law i c h
reopen_sound law i Unread c h = record {
  valid = with_valid c.network i (unread (manager_at c.network i)) h.valid (law.unread (manager_at c.network i) (h.valid i));
  sent = h.sent;
}
reopen_sound law i x c h = record { valid = restarted_sound law i c h; sent = h.sent }

-- Every event.

call_sound : {A : Type 0} → ManagerLaws → (i : ℕ) (outcome : Outcome A) (choice : Choice) (c : Course) → StaysValid (manager_at c.network i) outcome → IsSound c
    → IsSound (called i outcome choice c)
call_sound law i outcome choice c stays h = called_sound law i outcome (failure_in choice outcome) c stays h

checkpoint_valid : ManagerLaws → (m : Manager) (far : Bool) → IsValidManager m → StaysValid m (checkpoint m far)
checkpoint_valid law m far valid = at (is_down m) far (is_large m.state)
  where
    fails : IsValidManager (failed_under m None)
    fails = law.failed m None valid tt

    stays : IsValidManager (succeeded m (answering m true))
    stays = subst IsValidManager (sym (law.refused m true valid)) valid

    at : (down far large : Bool) → StaysValid m (unless m (cond down (Some fault.Down) (cond far (Some fault.TooFar) (cond large (Some fault.TooLarge) None))) (checkpoint_made m))
    at true far large = record { succeeds = stays; fails = fails }
    at false true large = record { succeeds = stays; fails = fails }
    at false false true = record { succeeds = stays; fails = fails }
    at false false false = record { succeeds = stays; fails = fails }

event_sound : ManagerLaws → (c : Course) (e : Event) (choice : Choice) → IsDraftedEvent e → IsSound c → IsSound (answer_to e (packet_of c.sent e) choice c).after
event_sound law c (event.Asks i request) choice d h = call_sound law i (requested (manager_at c.network i) request) choice c ((law.calls (manager_at c.network i) (h.valid i)).requests request d) h
event_sound law c (event.Connect a b now window_a window_b) choice d h = connect_sound law a b now window_a window_b c h
event_sound law c (event.Disconnect i) choice d h = disconnect_sound law (is_connected c.network i) i c h
event_sound law c (event.Resend i) choice d h = resend_sound law (is_connected c.network i) i c h
event_sound law c (event.Pump i now) choice d h = pump_sound law i now choice c h
event_sound law c (event.Deliver k now) choice d h = deliver_sound law (numbered c.network.notes k) k now choice c h
event_sound law c (event.Drop k) choice d h = drop_sound (is_some (numbered c.network.notes k)) k c h
event_sound law c (event.Flow i now) choice d h = flow_sound law i now choice c h
event_sound law c (event.Checkpoint i) choice d h = let m = manager_at c.network i in
    call_sound law i (checkpoint m (is_far choice)) choice c (checkpoint_valid law m (is_far choice) (h.valid i)) h
event_sound law c (event.Arm i) choice d h = h
event_sound law c (event.Restart i) choice d h = reopen_sound law i choice (moved (ended i) c) (sound_moved c (ended i) (ended_valid law c.network i h.valid) h)

moves_sound : ManagerLaws → (c : Course) (ms : List Move) → AllByRecursion (λ m. IsDraftedEvent m.event) ms → IsSound c → IsSound (course_after c ms)
moves_sound law c [] d h = h
moves_sound law c (m ∷ ms) d h = moves_sound law (moved_on c m) ms d.1 (subst IsSound (sym (move_in_course c m)) (event_sound law c m.event m.choice d.0 h))

settled_at_sound : ManagerLaws → (kept : ℕ → Bool) (c : Course) (i : ℕ) → IsSound c → IsSound (settled_at kept c i)
settled_at_sound law kept c i h = at (is_none (doubt_of (manager_at c.network i).condition)) (kept i)
  where
    at : (none chosen : Bool) → IsSound (cond none c (cond chosen (found_kept i c) c))
    at true chosen = h
    at false true = found_sound law i c h
    at false false = h

all_settled : ManagerLaws → (kept : ℕ → Bool) (c : Course) (is : List ℕ) → IsSound c → IsSound (fold (settled_at kept) c is)
all_settled law kept c [] h = h
all_settled law kept c (i ∷ is) h = all_settled law kept (settled_at kept c i) is (settled_at_sound law kept c i h)

-- managers that begin valid are valid behind each run
pub always_sound : ManagerLaws → (c : Course) (ms : List Move) → All (λ m. IsDraftedEvent m.event) ms → IsSound c → (kept : ℕ → Bool)
    → AllValid (settled kept (course_after c ms)).network
always_sound law c ms drafted h kept = (all_settled law kept (course_after c ms) (range_with_len 0 (length (course_after c ms).network.managers))
    (moves_sound law c ms (recursion_from_All (λ m. IsDraftedEvent m.event) ms drafted) h)).valid
