-- The ledger has the lines of the records that were written: one lemma for each change of a network, and each event is composed of these.
use Rattle.std.proofs.Common.{◌≡◌, ℕ, Bool, true, false, cond, List, [], ◌∷◌, ◌++◌, Option, Some, None, refl, sym, ap, ◌∙◌, ◌+◌}
use Rattle.std.specs.Prelude.{◌||◌}
use Rattle.std.specs.Prelude.{Result, Ok, Err, fold, is_some, is_none, length, replicate}
use Rattle.std.specs.List.{enumerate_from, range_with_len}
use Rattle.std.specs.Option.{option_map_or}
use Rattle.std.proofs.lemmas.Grind.{flat_map-append}
use Rattle.std.proofs.lemmas.List.{append-nil, append_assoc}
use Rattle.mqb_base.specs.declared.ledger.Line.{Line}
use Rattle.mqb_packet.specs.declared.packet.Packet.{Packet}
use Rattle.mqb_journal.specs.declared.faults.CheckpointFault.{CheckpointFault}
use Rattle.mqb_model.specs.records.Applying.{lines_of}
use Rattle.mqb_model.specs.records.Record.{Record}
use Rattle.mqb_model.specs.managers.Manager.{Manager, doubt_of, is_down}
use Rattle.mqb_model.specs.managers.Outcomes.{Outcome, failed, unless}
use Rattle.mqb_model.specs.calls.hear.Session.{HeardOutcome}
use Rattle.mqb_model.specs.calls.hear.Hear.{hear}
use Rattle.mqb_model.specs.calls.pump.Pump.{PumpOutcome, pump}
use Rattle.mqb_model.specs.declared.faults.PumpFault.{PumpFault}
use Rattle.mqb_store_laws.specs.Checkpoints.{checkpoint}
use Rattle.mqb_network.specs.Choices.{Choice, Failure, Kept, Well, failure_in, choice_behind, is_far}
use Rattle.mqb_network.specs.Events.{Event}
use Rattle.mqb_network.specs.Events as event
use Rattle.mqb_network.specs.Network.{Connection, Network, Note, connection_of, is_connected, is_underway, manager_at, with_manager}
use Rattle.mqb_network.specs.Changes.{dropped, ended, ended_by, failed_at, found_at, note_by, noted, succeeded_at}
use Rattle.mqb_network.specs.Courses.{Course, Written, called, called_unless, course_from, found_kept, moved, posted, with_written, written_by}
use Rattle.mqb_network.specs.Answers.{Answer, only}
use Rattle.mqb_network.specs.Replies as reply
use Rattle.mqb_queue.specs.Places.{numbered}
use Rattle.mqb_network.specs.Delivering.{closes, deliver_packet, drop_packet, heard_by, passed, unheard}
use Rattle.mqb_network.specs.Sending.{Passing, flow, flow_by, flowed, packets_out, passed_on, pump_by, with_arrival}
use Rattle.mqb_network.specs.Connecting.{asking, both_linked, linked_as, connect, connected, disconnect, exchanged, resend_by, set_up}
use Rattle.mqb_network.specs.Restarting.{reopen}
use Rattle.mqb_network.specs.Step.{answer_to}
use Rattle.mqb_network.specs.Runs.{Move, answer, after_run, beginning, packet_of, course_after, moved_on}
use Rattle.mqb_network.specs.Doubts.{settled_at}
use Rattle.mqb_network.specs.Laws.{CheckpointsWriteNothing, LedgerIsWritten, WritesNothing, lines_written}
use Rattle.mqb_network.specs.lemmas.Checkpointing.{unrecorded}
use Rattle.mqb_model.specs.calls.Link.{link, link_refusal, linking, resend}
use Rattle.mqb_model.specs.declared.answers.Role.{Role}
use Rattle.mqb_model.specs.declared.answers.Role.TheVariants.{Acceptor}
use Rattle.mqb_model.specs.declared.faults.LinkFault.{LinkFault}
use Rattle.mqb_model.specs.calls.Call.{requested}

-- a course began with this ledger, and has the lines of its records behind it
abbrev pub Extends : List Line → Course → Type 0
Extends l c = c.network.ledger ≡ l ++ lines_written c.written

-- Lists.

lines_append : (xs ys : List Written) → lines_written (xs ++ ys) ≡ lines_written xs ++ lines_written ys
lines_append xs ys = flat_map-append (λ w. lines_of w.before w.entry) xs ys

more : (l x : List Line) (xs ys : List Written) → x ≡ l ++ lines_written xs → x ++ lines_written ys ≡ l ++ lines_written (xs ++ ys)
more l x xs ys h = ap (λ z. z ++ lines_written ys) h ∙ append_assoc l (lines_written xs) (lines_written ys) ∙ ap (λ z. l ++ z) (sym (lines_append xs ys))

one_written : (i : ℕ) (m : Manager) (r : Option Record) → option_map_or (lines_of m.state) r [] ≡ lines_written (written_by i m r)
one_written i m None = refl
one_written i m (Some r) = sym (append-nil (lines_of m.state r))

-- The changes.

ended_ledger : (i : ℕ) (n : Network) → (ended i n).ledger ≡ n.ledger
ended_ledger i n = at (connection_of n i)
  where
    at : (o : Option Connection) → (option_map_or (ended_by n) o n).ledger ≡ n.ledger
    at None = refl
    at (Some c) = refl

noted_ledger : (i now count : ℕ) (n : Network) → (noted i now count n).ledger ≡ n.ledger
noted_ledger i now count n = at (connection_of n i)
  where
    at : (o : Option Connection) → (option_map_or (λ c. record n { notes = n.notes ++ replicate count (note_by i now c) }) o n).ledger ≡ n.ledger
    at None = refl
    at (Some c) = refl

moved_extends : (l : List Line) (change : Network → Network) (c : Course) → (change c.network).ledger ≡ c.network.ledger → Extends l c → Extends l (moved change c)
moved_extends l change c same h = same ∙ h

written_extends : (l : List Line) (i : ℕ) (r : Option Record) (change : Network → Network) (c : Course)
    → (change c.network).ledger ≡ c.network.ledger ++ option_map_or (lines_of (manager_at c.network i).state) r [] → Extends l c
    → Extends l (with_written i r change c)
written_extends l i r change c gained h = gained
    ∙ ap (λ z. c.network.ledger ++ z) (one_written i (manager_at c.network i) r)
    ∙ more l c.network.ledger c.written (written_by i (manager_at c.network i) r) h

called_extends : {A : Type 0} (l : List Line) (i : ℕ) (outcome : Outcome A) (choice : Choice) (c : Course) → Extends l c → Extends l (called i outcome choice c)
called_extends {A} l i outcome choice c h = at (failure_in choice outcome)
  where
    at : (o : Option Failure) → Extends l (called_unless i outcome o c)
    at None = written_extends l i outcome.entry (succeeded_at i outcome) c refl h
    at (Some how) = moved_extends l (failed_at i outcome) c (ended_ledger i (with_manager c.network i (failed (manager_at c.network i) outcome))) h

posted_extends : (l : List Line) (i now : ℕ) (packets : List Packet) (c : Course) → Extends l c → Extends l (posted i now packets c)
posted_extends l i now packets c h = noted_ledger i now (length packets) c.network ∙ h

kept_extends : (l : List Line) (i : ℕ) (c : Course) → Extends l c → Extends l (found_kept i c)
kept_extends l i c h = written_extends l i (doubt_of (manager_at c.network i).condition) (found_at i) c refl h

-- What is composed of them.

either : (l : List Line) (b : Bool) (x y : Course) → Extends l x → Extends l y → Extends l (cond b x y)
either l true x y left right = left
either l false x y left right = right

either_answer : (l : List Line) (b : Bool) (x y : Answer) → Extends l x.after → Extends l y.after → Extends l (cond b x y).after
either_answer l true x y left right = left
either_answer l false x y left right = right

heard_extends : (l : List Line) (i : ℕ) (outcome : HeardOutcome) (choice : Choice) (c : Course) → Extends l c → Extends l (heard_by i outcome choice c).after
heard_extends l i outcome choice c h = either l (closes outcome.answer) (moved (ended i) (called i outcome choice c)) (called i outcome choice c)
    (moved_extends l (ended i) (called i outcome choice c) (ended_ledger i (called i outcome choice c).network) (called_extends l i outcome choice c h))
    (called_extends l i outcome choice c h)

passed_extends : (l : List Line) (note : Note) (p : Packet) (now : ℕ) (choice : Choice) (c : Course) → Extends l c
    → Extends l (passed note p now choice c).after
passed_extends l note p now choice c h = at (is_underway c.network note)
  where
    at : (b : Bool) → Extends l (cond b (heard_by note.receiver (hear (manager_at c.network note.receiver) p now) choice c) (unheard choice c)).after
    at true = heard_extends l note.receiver (hear (manager_at c.network note.receiver) p now) choice c h
    at false = h

deliver_extends : (l : List Line) (note : Option Note) (p : Option Packet) (now : ℕ) (choice : Choice) (c : Course) → Extends l c
    → Extends l (deliver_packet note p now choice c).after
deliver_extends l None p now choice c h = h
deliver_extends l (Some note) None now choice c h = h
deliver_extends l (Some note) (Some p) now choice c h = passed_extends l note p now choice c h

drop_extends : (l : List Line) (k : ℕ) (c : Course) → Extends l c → Extends l (drop_packet k c).after
drop_extends l k c h = at (is_some (numbered c.network.notes k))
  where
    at : (b : Bool) → Extends l (cond b (record { reply = reply.Dropped; after = moved (dropped k) c }) (only c reply.NoPacket)).after
    at true = moved_extends l (dropped k) c refl h
    at false = h

pump_extends : (l : List Line) (i now : ℕ) (outcome : PumpOutcome) (choice : Choice) (c : Course) → Extends l c → Extends l (pump_by i now outcome choice c).after
pump_extends l i now outcome choice c h = posted_extends l i now (packets_out outcome choice) (called i outcome choice c) (called_extends l i outcome choice c h)

on_extends : (l : List Line) (now : ℕ) (t : Passing) (given : ℕ × Packet) → Extends l t.after → Extends l (passed_on now t given).after
on_extends l now t given h = at (numbered t.after.network.notes given.0)
  where
    at : (o : Option Note) → Extends l (with_arrival given.0 t.arrivals (option_map_or (λ note. passed note given.1 now t.left t.after) o (unheard t.left t.after))).after
    at None = h
    at (Some note) = passed_extends l note given.1 now t.left t.after h

all_extend : (l : List Line) (now : ℕ) (t : Passing) (given : List (ℕ × Packet)) → Extends l t.after → Extends l (fold (passed_on now) t given).after
all_extend l now t [] h = h
all_extend l now t (g ∷ given) h = all_extend l now (passed_on now t g) given (on_extends l now t g h)

flow_extends : (l : List Line) (i now : ℕ) (outcome : PumpOutcome) (choice : Choice) (c : Course) (answer : Result ℕ PumpFault) → Extends l c
    → Extends l (flow_by i now outcome choice c answer).after
flow_extends l i now outcome choice c (Err fault) h = pump_extends l i now outcome choice c h
flow_extends l i now outcome choice c (Ok count) h = at (is_some (failure_in choice outcome))
  where
    given : List (ℕ × Packet)
    given = enumerate_from (length c.network.notes + 1) outcome.packets

    start : Passing
    start = record { arrivals = []; after = (pump_by i now outcome choice c).after; left = choice_behind choice outcome }

    at : (b : Bool) → Extends l (cond b (pump_by i now outcome choice c) (flowed (fold (passed_on now) start given))).after
    at true = pump_extends l i now outcome choice c h
    at false = all_extend l now start given (pump_extends l i now outcome choice c h)

-- Connections and restarts.

no_lines : {A : Type 0} (i : ℕ) (outcome : Outcome A) (n : Network) → outcome.entry ≡ None → (succeeded_at i outcome n).ledger ≡ n.ledger
no_lines i outcome n none = ap (λ r. n.ledger ++ option_map_or (lines_of (manager_at n i).state) r []) none ∙ append-nil n.ledger

link_unrecorded : (m : Manager) (role : Role) (window : ℕ) → (link m role window).entry ≡ None
link_unrecorded m role window = at (link_refusal m role window)
  where
    at : (o : Option LinkFault) → (unless m o (linking m role window)).entry ≡ None
    at None = refl
    at (Some fault) = refl

linked_ledger : (i : ℕ) (role : Role) (window : ℕ) (n : Network) → (linked_as i role window n).ledger ≡ n.ledger
linked_ledger i role window n = no_lines i (link (manager_at n i) role window) n (link_unrecorded (manager_at n i) role window)

flowing : (l : List Line) (i now : ℕ) (choice : Choice) (c : Course) → Extends l c → Extends l (flow i now choice c).after
flowing l i now choice c h = flow_extends l i now (pump (manager_at c.network i) now) choice c (pump (manager_at c.network i) now).answer h

exchanged_extends : (l : List Line) (a b now : ℕ) (c : Course) → Extends l c → Extends l (exchanged a b now c)
exchanged_extends l a b now c h = flowing l b now Well (flow a now Well c).after (flowing l a now Well c h)

both_extend : (l : List Line) (a b window_a window_b : ℕ) (c : Course) → Extends l c → Extends l (moved (both_linked a b window_a window_b) c)
both_extend l a b window_a window_b c h = linked_ledger b Acceptor window_b (linked_as a (asking (manager_at c.network a).state (manager_at c.network b).state.identity.guid) window_a c.network)
    ∙ linked_ledger a (asking (manager_at c.network a).state (manager_at c.network b).state.identity.guid) window_a c.network ∙ h

connect_extends : (l : List Line) (a b now window_a window_b : ℕ) (c : Course) → Extends l c → Extends l (connect a b now window_a window_b c).after
connect_extends l a b now window_a window_b c h = either_answer l (is_down (manager_at c.network a) || is_down (manager_at c.network b)) (only c reply.NotUp)
    (cond (is_connected c.network a || is_connected c.network b) (only c reply.Linked) linked)
    h (either_answer l (is_connected c.network a || is_connected c.network b) (only c reply.Linked) linked h
    (exchanged_extends l a b now (exchanged a b now begins) (exchanged_extends l a b now begins (both_extend l a b window_a window_b c h))))
  where
    begins : Course
    begins = moved (both_linked a b window_a window_b) c

    linked : Answer
    linked = connected (length c.network.notes) (set_up a b now begins)

disconnect_extends : (l : List Line) (i : ℕ) (c : Course) → Extends l c → Extends l (disconnect i c).after
disconnect_extends l i c h = either_answer l (is_connected c.network i) (record { reply = reply.Disconnected; after = moved (ended i) c }) (only c reply.Unlinked)
    (moved_extends l (ended i) c (ended_ledger i c.network) h) h

resend_extends : (l : List Line) (i : ℕ) (c : Course) → Extends l c → Extends l (resend_by i c).after
resend_extends l i c h = either_answer l (is_connected c.network i) (record { reply = reply.Resent; after = moved (succeeded_at i (resend (manager_at c.network i))) c }) (only c reply.Unlinked)
    (moved_extends l (succeeded_at i (resend (manager_at c.network i))) c (no_lines i (resend (manager_at c.network i)) c.network refl) h) h

reopen_extends : (l : List Line) (i : ℕ) (choice : Choice) (c : Course) → Extends l c → Extends l (reopen i choice c).after
reopen_extends l i Kept c h = kept_extends l i c h
reopen_extends l i choice c h = h

-- Checkpoints.

pub checkpoints_write_nothing : CheckpointsWriteNothing
checkpoints_write_nothing c i choice = at (failure_in choice outcome)
  where
    outcome : Outcome (Result (Unit {0}) CheckpointFault)
    outcome = checkpoint (manager_at c.network i) (is_far choice)

    none : outcome.entry ≡ None
    none = unrecorded (manager_at c.network i) (is_far choice)

    at : (o : Option Failure) → WritesNothing c (called_unless i outcome o c)
    at None = record {
      written = ap (λ r. c.written ++ written_by i (manager_at c.network i) r) none ∙ append-nil c.written;
      ledger = no_lines i outcome c.network none;
      sent = refl;
    }
    at (Some how) = record {
      written = refl;
      ledger = ended_ledger i (with_manager c.network i (failed (manager_at c.network i) outcome));
      sent = refl;
    }

-- Every event.

answer_extends : (l : List Line) (e : Event) (p : Option Packet) (choice : Choice) (c : Course) → Extends l c → Extends l (answer_to e p choice c).after
answer_extends l (event.Asks i request) p choice c h = called_extends l i (requested (manager_at c.network i) request) choice c h
answer_extends l (event.Connect a b now window_a window_b) p choice c h = connect_extends l a b now window_a window_b c h
answer_extends l (event.Disconnect i) p choice c h = disconnect_extends l i c h
answer_extends l (event.Pump i now) p choice c h = pump_extends l i now (pump (manager_at c.network i) now) choice c h
answer_extends l (event.Deliver k now) p choice c h = deliver_extends l (numbered c.network.notes k) p now choice c h
answer_extends l (event.Drop k) p choice c h = drop_extends l k c h
answer_extends l (event.Flow i now) p choice c h = flowing l i now choice c h
answer_extends l (event.Resend i) p choice c h = resend_extends l i c h
answer_extends l (event.Checkpoint i) p choice c h = called_extends l i (checkpoint (manager_at c.network i) (is_far choice)) choice c h
answer_extends l (event.Arm i) p choice c h = h
answer_extends l (event.Restart i) p choice c h = reopen_extends l i choice (moved (ended i) c) (moved_extends l (ended i) c (ended_ledger i c.network) h)

-- Runs.

moved_on_extends : (c : Course) (m : Move) → Extends [] c → Extends [] (moved_on c m)
moved_on_extends c m h = answer_extends c.network.ledger m.event (packet_of c.sent m.event) m.choice (course_from c.network) (sym (append-nil c.network.ledger))
    ∙ more [] c.network.ledger c.written (answer c m).after.written h

run_extends : (c : Course) (ms : List Move) → Extends [] c → Extends [] (course_after c ms)
run_extends c [] h = h
run_extends c (m ∷ ms) h = run_extends (moved_on c m) ms (moved_on_extends c m h)

settled_at_extends : (kept : ℕ → Bool) (c : Course) (i : ℕ) → Extends [] c → Extends [] (settled_at kept c i)
settled_at_extends kept c i h = either [] (is_none (doubt_of (manager_at c.network i).condition)) c (cond (kept i) (found_kept i c) c) h
    (either [] (kept i) (found_kept i c) c (kept_extends [] i c h) h)

settled_extends : (kept : ℕ → Bool) (c : Course) (is : List ℕ) → Extends [] c → Extends [] (fold (settled_at kept) c is)
settled_extends kept c [] h = h
settled_extends kept c (i ∷ is) h = settled_extends kept (settled_at kept c i) is (settled_at_extends kept c i h)

pub ledger_is_written : LedgerIsWritten
ledger_is_written known ms apart run kept = settled_extends kept (after_run known ms) (range_with_len 0 (length known_after)) (run_extends (beginning known) ms refl)
  where
    known_after : List Manager
    known_after = (after_run known ms).network.managers
