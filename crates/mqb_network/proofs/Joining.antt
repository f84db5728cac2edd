-- An event in the course of others is the event by itself, behind them.
use Rattle.std.proofs.Common.{◌≡◌, ℕ, ◌+◌, Bool, true, false, cond, List, [], ◌∷◌, ◌++◌, Option, Some, None, refl, sym, ap, ◌∙◌}
use Rattle.std.specs.Prelude.{Result, Ok, Err, fold, is_some, length, ◌||◌}
use Rattle.std.specs.List.{enumerate_from}
use Rattle.std.specs.Option.{option_map_or}
use Rattle.std.proofs.lemmas.List.{append-nil, append_assoc}
use Rattle.mqb_packet.specs.declared.packet.Packet.{Packet}
use Rattle.mqb_queue.specs.Places.{numbered}
use Rattle.mqb_model.specs.records.Record.{Record}
use Rattle.mqb_model.specs.managers.Manager.{doubt_of, is_down}
use Rattle.mqb_model.specs.managers.Outcomes.{Outcome}
use Rattle.mqb_model.specs.calls.hear.Session.{HeardOutcome}
use Rattle.mqb_model.specs.calls.hear.Hear.{hear}
use Rattle.mqb_model.specs.calls.Link.{resend}
use Rattle.mqb_model.specs.calls.pump.Pump.{PumpOutcome, pump}
use Rattle.mqb_model.specs.declared.faults.PumpFault.{PumpFault}
use Rattle.mqb_model.specs.calls.Call.{requested}
use Rattle.mqb_store_laws.specs.Checkpoints.{checkpoint}
use Rattle.mqb_network.specs.Choices.{Choice, Failure, Kept, Well, choice_behind, failure_in, is_far}
use Rattle.mqb_network.specs.Events.{Event}
use Rattle.mqb_network.specs.Events as event
use Rattle.mqb_network.specs.Replies.{Reply}
use Rattle.mqb_network.specs.Replies as reply
use Rattle.mqb_network.specs.Network.{Network, Note, is_connected, is_underway, manager_at}
use Rattle.mqb_network.specs.Changes.{dropped, ended, found_at, noted, succeeded_at}
use Rattle.mqb_network.specs.Courses.{Course, Written, called, called_unless, course_from, moved, posted, with_written, written_by}
use Rattle.mqb_network.specs.Answers.{Answer, only}
use Rattle.mqb_network.specs.Delivering.{Delivered, closes, deliver_packet, delivered, drop_packet, heard_by, passed, unheard}
use Rattle.mqb_network.specs.Sending.{Passing, flow, flow_by, flowed, packets_out, passed_on, pump_by, with_arrival}
use Rattle.mqb_network.specs.Connecting.{both_linked, connect, connected, disconnect, exchanged, resend_by, set_up}
use Rattle.mqb_network.specs.Restarting.{reopen}
use Rattle.mqb_network.specs.Step.{answer_to}
use Rattle.mqb_network.specs.Runs.{Move, joined, moved_on, packet_of}

-- behind a course

abbrev answer_behind : Course → Answer → Answer
answer_behind b a = record a { after = joined b a.after }

abbrev delivered_behind : Course → Delivered → Delivered
delivered_behind b d = record d { after = joined b d.after }

abbrev passing_behind : Course → Passing → Passing
passing_behind b t = record t { after = joined b t.after }

-- The changes.

written_joins : (b : Course) (i : ℕ) (r : Option Record) (change : Network → Network) (c : Course)
    → with_written i r change (joined b c) ≡ joined b (with_written i r change c)
written_joins b i r change c = ap with_records (append_assoc b.written c.written (written_by i (manager_at c.network i) r))
  where
    with_records : List Written → Course
    with_records written = record { network = change c.network; sent = b.sent ++ c.sent; written = written }

posted_joins : (b : Course) (i now : ℕ) (packets : List Packet) (c : Course) → posted i now packets (joined b c) ≡ joined b (posted i now packets c)
posted_joins b i now packets c = ap with_packets (append_assoc b.sent c.sent packets)
  where
    with_packets : List Packet → Course
    with_packets sent = record { network = noted i now (length packets) c.network; sent = sent; written = b.written ++ c.written }

called_joins : {A : Type 0} (b : Course) (i : ℕ) (outcome : Outcome A) (choice : Choice) (c : Course)
    → called i outcome choice (joined b c) ≡ joined b (called i outcome choice c)
called_joins {A} b i outcome choice c = at (failure_in choice outcome)
  where
    at : (o : Option Failure) → called_unless i outcome o (joined b c) ≡ joined b (called_unless i outcome o c)
    at None = written_joins b i outcome.entry (succeeded_at i outcome) c
    at (Some how) = refl

-- What is composed of them.

pump_joins : (b : Course) (i now : ℕ) (outcome : PumpOutcome) (choice : Choice) (c : Course)
    → pump_by i now outcome choice (joined b c) ≡ answer_behind b (pump_by i now outcome choice c)
pump_joins b i now outcome choice c = ap with_course (ap (posted i now (packets_out outcome choice)) (called_joins b i outcome choice c)
    ∙ posted_joins b i now (packets_out outcome choice) (called i outcome choice c))
  where
    with_course : Course → Answer
    with_course after = record { reply = (pump_by i now outcome choice c).reply; after = after }

heard_joins : (b : Course) (i : ℕ) (outcome : HeardOutcome) (choice : Choice) (c : Course)
    → heard_by i outcome choice (joined b c) ≡ delivered_behind b (heard_by i outcome choice c)
heard_joins b i outcome choice c = ap with_course (at (closes outcome.answer))
  where
    with_course : Course → Delivered
    with_course after = record { delivery = (heard_by i outcome choice c).delivery; after = after; left = choice_behind choice outcome }

    at : (closed : Bool) → cond closed (moved (ended i) (called i outcome choice (joined b c))) (called i outcome choice (joined b c))
        ≡ joined b (cond closed (moved (ended i) (called i outcome choice c)) (called i outcome choice c))
    at true = ap (moved (ended i)) (called_joins b i outcome choice c)
    at false = called_joins b i outcome choice c

passed_joins : (b : Course) (note : Note) (p : Packet) (now : ℕ) (choice : Choice) (c : Course)
    → passed note p now choice (joined b c) ≡ delivered_behind b (passed note p now choice c)
passed_joins b note p now choice c = at (is_underway c.network note)
  where
    at : (underway : Bool) → cond underway (heard_by note.receiver (hear (manager_at c.network note.receiver) p now) choice (joined b c)) (unheard choice (joined b c))
        ≡ delivered_behind b (cond underway (heard_by note.receiver (hear (manager_at c.network note.receiver) p now) choice c) (unheard choice c))
    at true = heard_joins b note.receiver (hear (manager_at c.network note.receiver) p now) choice c
    at false = refl

deliver_joins : (b : Course) (note : Option Note) (p : Option Packet) (now : ℕ) (choice : Choice) (c : Course)
    → deliver_packet note p now choice (joined b c) ≡ answer_behind b (deliver_packet note p now choice c)
deliver_joins b None p now choice c = refl
deliver_joins b (Some note) None now choice c = refl
deliver_joins b (Some note) (Some p) now choice c = ap delivered (passed_joins b note p now choice c)

on_joins : (b : Course) (now : ℕ) (t : Passing) (given : ℕ × Packet) → passed_on now (passing_behind b t) given ≡ passing_behind b (passed_on now t given)
on_joins b now t given = at (numbered t.after.network.notes given.0)
  where
    at : (o : Option Note) → with_arrival given.0 t.arrivals (option_map_or (λ note. passed note given.1 now t.left (joined b t.after)) o (unheard t.left (joined b t.after)))
        ≡ passing_behind b (with_arrival given.0 t.arrivals (option_map_or (λ note. passed note given.1 now t.left t.after) o (unheard t.left t.after)))
    at None = refl
    at (Some note) = ap (with_arrival given.0 t.arrivals) (passed_joins b note given.1 now t.left t.after)

all_join : (b : Course) (now : ℕ) (t : Passing) (given : List (ℕ × Packet)) → fold (passed_on now) (passing_behind b t) given ≡ passing_behind b (fold (passed_on now) t given)
all_join b now t [] = refl
all_join b now t (g ∷ given) = ap (λ u. fold (passed_on now) u given) (on_joins b now t g) ∙ all_join b now (passed_on now t g) given

flow_joins : (b : Course) (i now : ℕ) (outcome : PumpOutcome) (choice : Choice) (c : Course) (answer : Result ℕ PumpFault)
    → flow_by i now outcome choice (joined b c) answer ≡ answer_behind b (flow_by i now outcome choice c answer)
flow_joins b i now outcome choice c (Err fault) = pump_joins b i now outcome choice c
flow_joins b i now outcome choice c (Ok count) = at (is_some (failure_in choice outcome))
  where
    given : List (ℕ × Packet)
    given = enumerate_from (length c.network.notes + 1) outcome.packets

    begins : Answer → Passing
    begins a = record { arrivals = []; after = a.after; left = choice_behind choice outcome }

    at : (fails : Bool) → cond fails (pump_by i now outcome choice (joined b c)) (flowed (fold (passed_on now) (begins (pump_by i now outcome choice (joined b c))) given))
        ≡ answer_behind b (cond fails (pump_by i now outcome choice c) (flowed (fold (passed_on now) (begins (pump_by i now outcome choice c)) given)))
    at true = pump_joins b i now outcome choice c
    at false = ap (λ a. flowed (fold (passed_on now) (begins a) given)) (pump_joins b i now outcome choice c)
        ∙ ap flowed (all_join b now (begins (pump_by i now outcome choice c)) given)

flowing_joins : (b : Course) (i now : ℕ) (choice : Choice) (c : Course) → flow i now choice (joined b c) ≡ answer_behind b (flow i now choice c)
flowing_joins b i now choice c = flow_joins b i now (pump (manager_at c.network i) now) choice c (pump (manager_at c.network i) now).answer

exchanged_joins : (b : Course) (x y now : ℕ) (c : Course) → exchanged x y now (joined b c) ≡ joined b (exchanged x y now c)
exchanged_joins b x y now c = ap (λ a. (flow y now Well a.after).after) (flowing_joins b x now Well c)
    ∙ ap (λ a. a.after) (flowing_joins b y now Well (flow x now Well c).after)

set_up_joins : (b : Course) (x y now : ℕ) (c : Course) → set_up x y now (joined b c) ≡ joined b (set_up x y now c)
set_up_joins b x y now c = ap (exchanged x y now) (exchanged_joins b x y now c) ∙ exchanged_joins b x y now (exchanged x y now c)

connect_joins : (b : Course) (x y now window_x window_y : ℕ) (c : Course)
    → connect x y now window_x window_y (joined b c) ≡ answer_behind b (connect x y now window_x window_y c)
connect_joins b x y now window_x window_y c = at (is_down (manager_at c.network x) || is_down (manager_at c.network y)) (is_connected c.network x || is_connected c.network y)
  where
    begins : Course
    begins = moved (both_linked x y window_x window_y) c

    behind : Course
    behind = moved (both_linked x y window_x window_y) (joined b c)

    before : ℕ
    before = length c.network.notes

    at : (down linked : Bool) → cond down (only (joined b c) reply.NotUp) (cond linked (only (joined b c) reply.Linked) (connected before (set_up x y now behind)))
        ≡ answer_behind b (cond down (only c reply.NotUp) (cond linked (only c reply.Linked) (connected before (set_up x y now begins))))
    at true linked = refl
    at false true = refl
    at false false = ap (connected before) (set_up_joins b x y now begins)

disconnect_joins : (b : Course) (i : ℕ) (c : Course) → disconnect i (joined b c) ≡ answer_behind b (disconnect i c)
disconnect_joins b i c = at (is_connected c.network i)
  where
    at : (stands : Bool) → cond stands (record { reply = reply.Disconnected; after = moved (ended i) (joined b c) }) (only (joined b c) reply.Unlinked)
        ≡ answer_behind b (cond stands (record { reply = reply.Disconnected; after = moved (ended i) c }) (only c reply.Unlinked))
    at true = refl
    at false = refl

resend_joins : (b : Course) (i : ℕ) (c : Course) → resend_by i (joined b c) ≡ answer_behind b (resend_by i c)
resend_joins b i c = at (is_connected c.network i)
  where
    change : Network → Network
    change = succeeded_at i (resend (manager_at c.network i))

    at : (stands : Bool) → cond stands (record { reply = reply.Resent; after = moved change (joined b c) }) (only (joined b c) reply.Unlinked)
        ≡ answer_behind b (cond stands (record { reply = reply.Resent; after = moved change c }) (only c reply.Unlinked))
    at true = refl
    at false = refl

drop_joins : (b : Course) (k : ℕ) (c : Course) → drop_packet k (joined b c) ≡ answer_behind b (drop_packet k c)
drop_joins b k c = at (is_some (numbered c.network.notes k))
  where
    at : (there : Bool) → cond there (record { reply = reply.Dropped; after = moved (dropped k) (joined b c) }) (only (joined b c) reply.NoPacket)
        ≡ answer_behind b (cond there (record { reply = reply.Dropped; after = moved (dropped k) c }) (only c reply.NoPacket))
    at true = refl
    at false = refl

reopen_joins : (b : Course) (i : ℕ) (choice : Choice) (c : Course) → (reopen i choice (joined b c)).after ≡ joined b (reopen i choice c).after
reopen_joins b i Kept c = written_joins b i (doubt_of (manager_at c.network i).condition) (found_at i) c
reopen_joins b i choice c = refl

-- Every event.

answer_joins : (b : Course) (e : Event) (p : Option Packet) (choice : Choice) (c : Course)
    → (answer_to e p choice (joined b c)).after ≡ joined b (answer_to e p choice c).after
answer_joins b (event.Asks i request) p choice c = called_joins b i (requested (manager_at c.network i) request) choice c
answer_joins b (event.Connect x y now window_x window_y) p choice c = ap (λ a. a.after) (connect_joins b x y now window_x window_y c)
answer_joins b (event.Disconnect i) p choice c = ap (λ a. a.after) (disconnect_joins b i c)
answer_joins b (event.Pump i now) p choice c = ap (λ a. a.after) (pump_joins b i now (pump (manager_at c.network i) now) choice c)
answer_joins b (event.Deliver k now) p choice c = ap (λ a. a.after) (deliver_joins b (numbered c.network.notes k) p now choice c)
answer_joins b (event.Drop k) p choice c = ap (λ a. a.after) (drop_joins b k c)
answer_joins b (event.Flow i now) p choice c = ap (λ a. a.after) (flowing_joins b i now choice c)
answer_joins b (event.Resend i) p choice c = ap (λ a. a.after) (resend_joins b i c)
answer_joins b (event.Checkpoint i) p choice c = called_joins b i (checkpoint (manager_at c.network i) (is_far choice)) choice c
answer_joins b (event.Arm i) p choice c = refl
answer_joins b (event.Restart i) p choice c = reopen_joins b i choice (moved (ended i) c)

-- a course that has nothing behind it yet
begun_joins : (c : Course) → joined c (course_from c.network) ≡ c
begun_joins c = ap with_sent (append-nil c.sent) ∙ ap with_records (append-nil c.written)
  where
    with_sent : List Packet → Course
    with_sent sent = record { network = c.network; sent = sent; written = c.written ++ [] }

    with_records : List Written → Course
    with_records written = record { network = c.network; sent = c.sent; written = written }

-- a move of a run is its event in the course of the run
pub move_in_course : (c : Course) (m : Move) → moved_on c m ≡ (answer_to m.event (packet_of c.sent m.event) m.choice c).after
move_in_course c m = sym (answer_joins c m.event (packet_of c.sent m.event) m.choice (course_from c.network))
    ∙ ap (λ x. (answer_to m.event (packet_of c.sent m.event) m.choice x).after) (begun_joins c)
