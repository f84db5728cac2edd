-- Each connection that began has packets of its own: no event that is told makes connections outnumber packets.
use Rattle.std.proofs.Common.{◌≡◌, ◌≤◌, ◌+◌, ℕ, Bool, true, false, cond, List, [], ◌∷◌, ◌++◌, Option, None, Some, Result, Ok, Err, length, refl, ◌∙◌, arith, length-append}
use Rattle.std.proofs.lemmas.List.{length-set}
use Rattle.std.proofs.lemmas.List.FromFn.{length-range_with_len}
use Rattle.std.specs.List.{enumerate_from}
use Rattle.std.specs.Option.{option_map_or}
use Rattle.std.specs.Prelude.{◌-◌, fold, is_some, replicate, slice_set}
use Rattle.mqb_model.specs.calls.Link.{resend}
use Rattle.mqb_model.specs.calls.Call.{requested}
use Rattle.mqb_model.specs.calls.hear.Hear.{hear}
use Rattle.mqb_model.specs.calls.hear.Session.{HeardOutcome}
use Rattle.mqb_model.specs.calls.pump.Pump.{PumpOutcome, pump}
use Rattle.mqb_model.specs.declared.faults.PumpFault.{PumpFault}
use Rattle.mqb_model.specs.managers.Outcomes.{Outcome, failed}
use Rattle.mqb_network.specs.Answers.{Answer, only}
use Rattle.mqb_network.specs.Changes.{as_dropped, dropped, ended, ended_by, note_by, noted, succeeded_at}
use Rattle.mqb_network.specs.Checkpoints.{checkpoint}
use Rattle.mqb_network.specs.Choices.{Choice, Failure, Fails, Kept, Lost, Unread, Well, choice_behind, failure_in, is_far}
use Rattle.mqb_network.specs.Connecting.{any_connected, any_down, both_linked, connecting, exchanged, set_up}
use Rattle.mqb_network.specs.Courses.{Course, called, called_unless, course_from, moved}
use Rattle.mqb_network.specs.Delivering.{closes, deliver_packet, heard_by, passed, unheard}
use Rattle.mqb_network.specs.Events.{Event}
use Rattle.mqb_network.specs.Events as event
use Rattle.mqb_network.specs.Network.{Connection, Network, Note, connection_of, is_connected, is_underway, manager_at, with_manager}
use Rattle.mqb_network.specs.Replies as network
use Rattle.mqb_network.specs.Sending.{Passing, flow, flow_by, numbers_behind, packets_out, passed_on, pump_by, pumped_flows}
use Rattle.mqb_network.specs.Step.{step}
use Rattle.mqb_packet.specs.declared.packet.Packet.{Packet}
use Rattle.mqb_queue.specs.Places.{numbered}
use Rattle.mqb_turns.specs.mqb_seats.mqb_replies.declared.faults.AnswerFault.{AnswerFault}
use Rattle.mqb_transcript.specs.declared.replies.Reply.{Reply}
use Rattle.mqb_turns.specs.Replies.{connected_reply, told}

-- no connection began, and no note is gone
abbrev IsGrown : Network → Network → Type 0
IsGrown n m = (m.connected ≡ n.connected) × (length n.notes ≤ length m.notes)

same_grown : (n : Network) → IsGrown n n
same_grown n = (refl, omega arith)

grown_then : (a b c : Network) → IsGrown a b → IsGrown b c → IsGrown a c
grown_then a b c (one, first) (two, second) = (two ∙ one, omega (arith, first, second))

ended_grown : (i : ℕ) (n : Network) → IsGrown n (ended i n)
ended_grown i n = at (connection_of n i)
  where
    at : (o : Option Connection) → IsGrown n (option_map_or (ended_by n) o n)
    at None = same_grown n
    at (Some c) = same_grown n

noted_grown : (i now k : ℕ) (n : Network) → IsGrown n (noted i now k n)
noted_grown i now k n = at (connection_of n i)
  where
    more : (c : Connection) → length n.notes ≤ length (n.notes ++ replicate k (note_by i now c))
    more c = let sum : length (n.notes ++ replicate k (note_by i now c)) ≡ length n.notes + length (replicate k (note_by i now c)) = length-append n.notes (replicate k (note_by i now c)) in
        omega (arith, sum)

    at : (o : Option Connection) → IsGrown n (option_map_or (λ (c : Connection). record n { notes = n.notes ++ replicate k (note_by i now c) }) o n)
    at None = same_grown n
    at (Some c) = (refl, more c)

called_grown : {A : Type 0} (i : ℕ) (o : Outcome A) (choice : Choice) (c : Course) → IsGrown c.network (called i o choice c).network
called_grown i o choice c = at (failure_in choice o)
  where
    at : (f : Option Failure) → IsGrown c.network (called_unless i o f c).network
    at None = same_grown c.network
    at (Some how) = ended_grown i (with_manager c.network i (failed (manager_at c.network i) o))

-- Packets are heard.

heard_grown : (i : ℕ) (o : HeardOutcome) (choice : Choice) (c : Course) → IsGrown c.network (heard_by i o choice c).after.network
heard_grown i o choice c = at (closes o.answer)
  where
    behind : Course
    behind = called i o choice c

    at : (b : Bool) → IsGrown c.network (cond b (moved (ended i) behind) behind).network
    at true = grown_then c.network behind.network (ended i behind.network) (called_grown i o choice c) (ended_grown i behind.network)
    at false = called_grown i o choice c

passed_grown : (note : Note) (p : Packet) (now : ℕ) (choice : Choice) (c : Course) → IsGrown c.network (passed note p now choice c).after.network
passed_grown note p now choice c = at (is_underway c.network note)
  where
    at : (b : Bool) → IsGrown c.network (cond b (heard_by note.receiver (hear (manager_at c.network note.receiver) p now) choice c) (unheard choice c)).after.network
    at true = heard_grown note.receiver (hear (manager_at c.network note.receiver) p now) choice c
    at false = same_grown c.network

one_grown : (now : ℕ) (t : Passing) (given : ℕ × Packet) → IsGrown t.after.network (passed_on now t given).after.network
one_grown now t given = at (numbered t.after.network.notes given.0)
  where
    at : (o : Option Note) → IsGrown t.after.network (option_map_or (λ (note : Note). passed note given.1 now t.left t.after) o (unheard t.left t.after)).after.network
    at None = same_grown t.after.network
    at (Some note) = passed_grown note given.1 now t.left t.after

all_grown : (now : ℕ) (t : Passing) (given : List (ℕ × Packet)) → IsGrown t.after.network (fold (passed_on now) t given).after.network
all_grown now t [] = same_grown t.after.network
all_grown now t (x ∷ given) = grown_then t.after.network (passed_on now t x).after.network (fold (passed_on now) t (x ∷ given)).after.network (one_grown now t x)
    (all_grown now (passed_on now t x) given)

-- Packets go.

pumped_grown : (i now : ℕ) (o : PumpOutcome) (choice : Choice) (c : Course) → IsGrown c.network (pump_by i now o choice c).after.network
pumped_grown i now o choice c = grown_then c.network (called i o choice c).network (pump_by i now o choice c).after.network (called_grown i o choice c)
    (noted_grown i now (length (packets_out o choice)) (called i o choice c).network)

flow_grown : (i now : ℕ) (choice : Choice) (c : Course) → IsGrown c.network (flow i now choice c).after.network
flow_grown i now choice c = at o.answer
  where
    o : PumpOutcome
    o = pump (manager_at c.network i) now

    behind : Passing
    behind = record { arrivals = []; after = (pump_by i now o choice c).after; left = choice_behind choice o }

    given : List (ℕ × Packet)
    given = enumerate_from (length c.network.notes + 1) o.packets

    fails : (b : Bool) → IsGrown c.network (cond b (pump_by i now o choice c) (pumped_flows i now o choice c)).after.network
    fails true = pumped_grown i now o choice c
    fails false = grown_then c.network behind.after.network (fold (passed_on now) behind given).after.network (pumped_grown i now o choice c) (all_grown now behind given)

    at : (r : Result ℕ PumpFault) → IsGrown c.network (flow_by i now o choice c r).after.network
    at (Err fault) = pumped_grown i now o choice c
    at (Ok count) = fails (is_some (failure_in choice o))

exchanged_grown : (a b now : ℕ) (c : Course) → IsGrown c.network (exchanged a b now c).network
exchanged_grown a b now c = grown_then c.network (flow a now Well c).after.network (exchanged a b now c).network (flow_grown a now Well c) (flow_grown b now Well (flow a now Well c).after)

set_up_grown : (a b now : ℕ) (c : Course) → IsGrown c.network (set_up a b now c).network
set_up_grown a b now c = grown_then c.network (exchanged a b now c).network (set_up a b now c).network (exchanged_grown a b now c) (exchanged_grown a b now (exchanged a b now c))

-- A connection that began.

-- connections do not outnumber packets
abbrev pub IsBegun : Network → Type 0
IsBegun n = n.connected ≤ length n.notes

grown_begun : (n m : Network) → IsGrown n m → IsBegun n → IsBegun m
grown_begun n m (same, more) begun = omega (arith, same, more, begun)

err_ok : (f : AnswerFault) (given : Reply) → ◌≡◌ {A = Result Reply AnswerFault} (Err f) (Ok given) → ⊥
err_ok f given same = let none : ⊥ = cc in none

-- four packets are told
four_told : (ks : List ℕ) (given : Reply) → connected_reply ks ≡ Ok given → length ks ≡ 4
four_told [] given is = absurd (err_ok _ given is)
four_told (a ∷ []) given is = absurd (err_ok _ given is)
four_told (a ∷ b ∷ []) given is = absurd (err_ok _ given is)
four_told (a ∷ b ∷ c ∷ []) given is = absurd (err_ok _ given is)
four_told (a ∷ b ∷ c ∷ d ∷ []) given is = refl
four_told (a ∷ b ∷ c ∷ d ∷ e ∷ ks) given is = absurd (err_ok _ given is)

connect_begun : (a b now wa wb : ℕ) (n : Network) (given : Reply) → told (step n None (event.Connect a b now wa wb) Well).reply ≡ Ok given → IsBegun n
    → IsBegun (step n None (event.Connect a b now wa wb) Well).after.network
connect_begun a b now wa wb n given is begun = at (any_down n a b) is
  where
    c : Course
    c = course_from n

    next : Network
    next = (set_up a b now (moved (both_linked a b wa wb) c)).network

    grown : IsGrown (both_linked a b wa wb n) next
    grown = set_up_grown a b now (moved (both_linked a b wa wb) c)

    one_more : next.connected ≡ n.connected + 1
    one_more = grown.0

    linked : told (connecting a b now wa wb c).reply ≡ Ok given → IsBegun next
    linked is = let four : length (numbers_behind (length n.notes) (length next.notes - length n.notes)) ≡ 4 = four_told _ given is in
        let count : length (numbers_behind (length n.notes) (length next.notes - length n.notes)) ≡ length next.notes - length n.notes = length-range_with_len (length n.notes + 1) (length next.notes - length n.notes) in
        omega (arith, four, count, one_more, begun)

    free : (x : Bool) → told (cond x (record { reply = network.Linked; after = c }) (connecting a b now wa wb c)).reply ≡ Ok given
        → IsBegun (cond x (record { reply = network.Linked; after = c }) (connecting a b now wa wb c)).after.network
    free true is = begun
    free false is = linked is

    rest : Answer
    rest = cond (any_connected n a b) (record { reply = network.Linked; after = c }) (connecting a b now wa wb c)

    at : (x : Bool) → told (cond x (record { reply = network.NotUp; after = c }) rest).reply ≡ Ok given
        → IsBegun (cond x (record { reply = network.NotUp; after = c }) rest).after.network
    at true is = begun
    at false is = free (any_connected n a b) is

-- Every event.

dropped_grown : (k : ℕ) (n : Network) → IsGrown n (dropped k n)
dropped_grown k n = at (numbered n.notes k)
  where
    at : (o : Option Note) → IsGrown n (record n { notes = option_map_or (λ (y : Note). slice_set n.notes (k - 1) (as_dropped y)) o n.notes })
    at None = same_grown n
    at (Some y) = let same : length (slice_set n.notes (k - 1) (as_dropped y)) ≡ length n.notes = length-set n.notes (k - 1) (as_dropped y) in (refl, omega (arith, same))

restart_grown : (i : ℕ) (n : Network) (choice : Choice) → IsGrown n (step n None (event.Restart i) choice).after.network
restart_grown i n Well = ended_grown i n
restart_grown i n choice = ended_grown i n

deliver_grown : (o : Option Note) (q : Option Packet) (now : ℕ) (choice : Choice) (c : Course) → IsGrown c.network (deliver_packet o q now choice c).after.network
deliver_grown (Some note) (Some p) now choice c = passed_grown note p now choice c
deliver_grown (Some note) None now choice c = same_grown c.network
deliver_grown None q now choice c = same_grown c.network

-- a change, where there is a connection or a packet
where_so : (b : Bool) (given none : Answer) (n : Network) → IsGrown n given.after.network → IsGrown n none.after.network → IsGrown n (cond {A = Answer} b given none).after.network
where_so true given none n some nothing = some
where_so false given none n some nothing = nothing

-- No event that is told makes connections outnumber packets.
pub step_begun : (n : Network) (q : Option Packet) (e : Event) (choice : Choice) (given : Reply) → told (step n q e choice).reply ≡ Ok given → IsBegun n
    → IsBegun (step n q e choice).after.network
step_begun n q (event.Asks i request) choice given is begun = grown_begun n (step n q (event.Asks i request) choice).after.network (called_grown i (requested (manager_at n i) request) choice (course_from n)) begun
step_begun n q (event.Connect a b now wa wb) choice given is begun = connect_begun a b now wa wb n given is begun
step_begun n q (event.Disconnect i) choice given is begun = grown_begun n (step n q (event.Disconnect i) choice).after.network (where_so (is_connected n i) (record { reply = network.Disconnected; after = moved (ended i) (course_from n) }) (only (course_from n) network.Unlinked) n (ended_grown i n) (same_grown n)) begun
step_begun n q (event.Resend i) choice given is begun = grown_begun n (step n q (event.Resend i) choice).after.network (where_so (is_connected n i) (record { reply = network.Resent; after = moved (succeeded_at i (resend (manager_at n i))) (course_from n) }) (only (course_from n) network.Unlinked) n (same_grown n) (same_grown n)) begun
step_begun n q (event.Pump i now) choice given is begun = grown_begun n (step n q (event.Pump i now) choice).after.network (pumped_grown i now (pump (manager_at n i) now) choice (course_from n)) begun
step_begun n q (event.Deliver k now) choice given is begun = grown_begun n (step n q (event.Deliver k now) choice).after.network (deliver_grown (numbered n.notes k) q now choice (course_from n)) begun
step_begun n q (event.Drop k) choice given is begun = grown_begun n (step n q (event.Drop k) choice).after.network (where_so (is_some (numbered n.notes k)) (record { reply = network.Dropped; after = moved (dropped k) (course_from n) }) (only (course_from n) network.NoPacket) n (dropped_grown k n) (same_grown n)) begun
step_begun n q (event.Flow i now) choice given is begun = grown_begun n (step n q (event.Flow i now) choice).after.network (flow_grown i now choice (course_from n)) begun
step_begun n q (event.Checkpoint i) choice given is begun = grown_begun n (step n q (event.Checkpoint i) choice).after.network (called_grown i (checkpoint (manager_at n i) (is_far choice)) choice (course_from n)) begun
step_begun n q (event.Arm i) choice given is begun = grown_begun n (step n q (event.Arm i) choice).after.network (same_grown n) begun
step_begun n q (event.Restart i) choice given is begun = grown_begun n (step n q (event.Restart i) choice).after.network (restart_grown i n choice) begun
