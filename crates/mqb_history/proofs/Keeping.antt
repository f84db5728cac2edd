-- What each change keeps is kept by each event.
use Rattle.std.proofs.Common.{refl, ap, sym, subst, ◌∙◌, arith}
use Rattle.std.proofs.lemmas.List.{append_assoc}
use Rattle.std.specs.List.{AllByRecursion, enumerate_from}
use Rattle.std.specs.Option.{option_map_or}
use Rattle.std.specs.Prelude.{[], ◌&&◌, ◌+◌, ◌++◌, ◌==◌, ◌||◌, ◌∷◌, ◌≡◌, Bool, Err, List, None, Ok, Option, Result, Some, cond, false, fold, is_none, is_some, length, not, slice_get, true, ℕ}
use Rattle.mqb_base.specs.declared.ids.Identity.{Identity}
use Rattle.mqb_journal.specs.declared.faults.CheckpointFault.{CheckpointFault}
use Rattle.mqb_journal.specs.declared.faults.CheckpointFault.TheVariants as fault
use Rattle.mqb_model.specs.calls.Link.{resend}
use Rattle.mqb_model.specs.calls.hear.Hear.{hear}
use Rattle.mqb_model.specs.calls.hear.Session.{HeardOutcome}
use Rattle.mqb_model.specs.calls.pump.Pump.{PumpOutcome, pump}
use Rattle.mqb_model.specs.declared.faults.PumpFault.{PumpFault}
use Rattle.mqb_model.specs.managers.Manager.{Manager, doubt_of, is_down}
use Rattle.mqb_model.specs.managers.Outcomes.{Outcome, answering, unless}
use Rattle.mqb_network.specs.Answers.{Answer, only}
use Rattle.mqb_network.specs.Changes.{dropped, ended, succeeded_at}
use Rattle.mqb_network.specs.Choices.{Choice, Failure, Fails, Kept, Unread, Well, choice_behind, failure_in, is_far}
use Rattle.mqb_network.specs.Connecting.{any_connected, any_down, both_linked, connect, connected, disconnect, exchanged, resend_by, set_up}
use Rattle.mqb_network.specs.Courses.{Course, Written, called, called_unless, moved, posted}
use Rattle.mqb_network.specs.Delivering.{closes, deliver_packet, drop_packet, heard_by, passed, unheard}
use Rattle.mqb_network.specs.Events.{Event}
use Rattle.mqb_network.specs.Events as event
use Rattle.mqb_network.specs.Network.{Note, is_connected, is_underway, manager_at}
use Rattle.mqb_network.specs.Replies as reply
use Rattle.mqb_network.specs.Restarting.{reopen}
use Rattle.mqb_network.specs.Runs.{may, packet_of}
use Rattle.mqb_network.specs.Sending.{Passing, flow, flow_by, flowed, packets_unless, passed_on, pump_by, with_arrival}
use Rattle.mqb_network.specs.Step.{answer_to}
use Rattle.mqb_packet.specs.declared.packet.Packet.{Packet}
use Rattle.mqb_queue.specs.Places.{numbered}
use Rattle.mqb_model.specs.calls.Call.{Asks, Call, Checkpoint, Resend, answered, outcome_of, requested}
use Rattle.mqb_model.specs.calls.Call as calls
use Rattle.mqb_network.specs.mqb_store_laws.Checkpoints.{checkpoint, checkpoint_made, is_large}
use Rattle.mqb_history.specs.Changes.{Change, changed, given_out, hearing, is_of_packets, may_change, may_hear}
use Rattle.mqb_history.specs.Changes as change
use Rattle.mqb_history.specs.Orderly.{IsOrderly}
use Rattle.mqb_history.proofs.Ending.{parted_at, parted_condition}
use Rattle.mqb_history.proofs.Lists.{append_length, append_nothing, clash, get_behind, join_and, numbered_behind}
use Rattle.mqb_history.proofs.Parting.{ended_free}

-- it holds of orderly courses alone, and each change keeps it
pub record IsClosed (known : List Identity) (P : Course → Type 0) : Type 0 where
  pub orderly : (c : Course) → P c → IsOrderly known c
  pub keeps : (c : Course) (x : Change) → may_change c x ≡ true → P c → P (changed x c)

-- a change asks a manager for nothing
abbrev pub AsksNone : Change → Type 0
AsksNone (change.Calls i (Asks request) failure) = ⊥
AsksNone _ = Unit {0}

-- the same where changes are given, of which each that asks for nothing is one
pub record IsClosedUnder (A : Change → Type 0) (known : List Identity) (P : Course → Type 0) : Type 0 where
  pub orderly : (c : Course) → P c → IsOrderly known c
  pub others : (x : Change) → AsksNone x → A x
  pub keeps : (c : Course) (x : Change) → A x → may_change c x ≡ true → P c → P (changed x c)

-- Calls.

-- a disk fails only in a call that touches it
rightly : {A : Type 0} (choice : Choice) (outcome : Outcome A) → (is_none (failure_in choice outcome) || outcome.touches) ≡ true
rightly (Fails before how) outcome = at (before == 0) outcome.touches
  where
    at : (first touches : Bool) → (is_none (cond (first && touches) (Some how) None) || touches) ≡ true
    at true true = refl
    at true false = refl
    at false true = refl
    at false false = refl
rightly choice outcome = refl

-- the answer of a call changes nothing
without_answer : {A : Type 0} (says : A → calls.Answer) (i : ℕ) (outcome : Outcome A) (failure : Option Failure) (c : Course) → called_unless i (answered says outcome) failure c ≡ called_unless i outcome failure c
without_answer says i outcome None c = refl
without_answer says i outcome (Some how) c = refl

call_keeps : (A : Change → Type 0) (known : List Identity) (P : Course → Type 0) → IsClosedUnder A known P → (i : ℕ) (call : Call) (choice : Choice) (c : Course) → is_of_packets call ≡ false
    → A (change.Calls i call (failure_in choice (outcome_of (manager_at c.network i) call))) → P c → P (called i (outcome_of (manager_at c.network i) call) choice c)
call_keeps A known P k i call choice c apart given h = let outcome = outcome_of (manager_at c.network i) call in
    k.keeps c (change.Calls i call (failure_in choice outcome)) given
    (join_and (not (is_of_packets call)) (is_none (failure_in choice outcome) || outcome.touches) (ap not apart) (rightly choice outcome)) h

-- Pumps.

pumped_same : (i now : ℕ) (outcome : PumpOutcome) (failure : Option Failure) (c : Course)
    → posted i now (given_out (answered calls.Pumped outcome) failure) (called_unless i (answered calls.Pumped outcome) failure c) ≡ posted i now (packets_unless outcome failure) (called_unless i outcome failure c)
pumped_same i now outcome None c = refl
pumped_same i now outcome (Some how) c = refl

pump_keeps : (A : Change → Type 0) (known : List Identity) (P : Course → Type 0) → IsClosedUnder A known P → (i now : ℕ) (choice : Choice) (c : Course) → P c
    → P (pump_by i now (pump (manager_at c.network i) now) choice c).after
pump_keeps A known P k i now choice c h = let outcome = pump (manager_at c.network i) now in
    subst P (pumped_same i now outcome (failure_in choice outcome) c)
    (k.keeps c (change.Pumps i now (failure_in choice outcome)) (k.others (change.Pumps i now (failure_in choice outcome)) tt) (rightly choice outcome) h)

-- Deliveries.

closed_keeps : (A : Change → Type 0) (known : List Identity) (P : Course → Type 0) → IsClosedUnder A known P → (b : Bool) (i : ℕ) (c : Course) → P c → P (cond b (moved (ended i) c) c)
closed_keeps A known P k true i c h = k.keeps c (change.Ends i) (k.others (change.Ends i) tt) refl h
closed_keeps A known P k false i c h = h

heard_keeps : (A : Change → Type 0) (known : List Identity) (P : Course → Type 0) → IsClosedUnder A known P → (number : ℕ) (note : Note) (p : Packet) (now : ℕ) (choice : Choice) (c : Course)
    → numbered c.network.notes number ≡ Some note → numbered c.sent number ≡ Some p → is_underway c.network note ≡ true → P c
    → P (heard_by note.receiver (hear (manager_at c.network note.receiver) p now) choice c).after
heard_keeps A known P k number note p now choice c noted sent underway h = closed_keeps A known P k (closes outcome.answer) note.receiver (called note.receiver outcome choice c)
    (subst P (without_answer calls.Heard note.receiver outcome failure c)
    (subst (λ q. P (hearing (Some note) q now failure c)) sent
    (subst (λ n. P (hearing n (numbered c.sent number) now failure c)) noted
    (k.keeps c (change.Hears number now failure) (k.others (change.Hears number now failure) tt) may_be h))))
  where
    outcome : HeardOutcome
    outcome = hear (manager_at c.network note.receiver) p now

    failure : Option Failure
    failure = failure_in choice outcome

    may_be : may_hear c (numbered c.network.notes number) (numbered c.sent number) now failure ≡ true
    may_be = subst (λ n. may_hear c n (numbered c.sent number) now failure ≡ true) (sym noted)
        (subst (λ q. may_hear c (Some note) q now failure ≡ true) (sym sent)
        (join_and (is_underway c.network note) (is_none failure || outcome.touches) underway (rightly choice outcome)))

passed_keeps : (A : Change → Type 0) (known : List Identity) (P : Course → Type 0) → IsClosedUnder A known P → (number : ℕ) (note : Note) (p : Packet) (now : ℕ) (choice : Choice) (c : Course)
    → numbered c.network.notes number ≡ Some note → numbered c.sent number ≡ Some p → P c → P (passed note p now choice c).after
passed_keeps A known P k number note p now choice c noted sent h = at (is_underway c.network note) refl
  where
    at : (b : Bool) → is_underway c.network note ≡ b → P (cond b (heard_by note.receiver (hear (manager_at c.network note.receiver) p now) choice c) (unheard choice c)).after
    at true e = heard_keeps A known P k number note p now choice c noted sent e h
    at false e = h

deliver_keeps : (A : Change → Type 0) (known : List Identity) (P : Course → Type 0) → IsClosedUnder A known P → (number : ℕ) (now : ℕ) (choice : Choice) (c : Course) → P c
    → P (deliver_packet (numbered c.network.notes number) (numbered c.sent number) now choice c).after
deliver_keeps A known P k number now choice c h = at (numbered c.network.notes number) refl (numbered c.sent number) refl
  where
    at : (note : Option Note) → numbered c.network.notes number ≡ note → (p : Option Packet) → numbered c.sent number ≡ p → P (deliver_packet note p now choice c).after
    at None e p f = h
    at (Some note) e None f = h
    at (Some note) e (Some p) f = passed_keeps A known P k number note p now choice c e f h

drop_keeps : (A : Change → Type 0) (known : List Identity) (P : Course → Type 0) → IsClosedUnder A known P → (number : ℕ) (c : Course) → P c → P (drop_packet number c).after
drop_keeps A known P k number c h = at (is_some (numbered c.network.notes number))
  where
    at : (b : Bool) → P (cond b (record { reply = reply.Dropped; after = moved (dropped number) c }) (only c reply.NoPacket)).after
    at true = k.keeps c (change.Drops number) (k.others (change.Drops number) tt) refl h
    at false = h

-- Flows.

-- a delivery sends nothing
closed_sent : (b : Bool) (i : ℕ) (c : Course) → (cond b (moved (ended i) c) c).sent ≡ c.sent
closed_sent true i c = refl
closed_sent false i c = refl

called_sent : {A : Type 0} (i : ℕ) (outcome : Outcome A) (failure : Option Failure) (c : Course) → (called_unless i outcome failure c).sent ≡ c.sent
called_sent i outcome None c = refl
called_sent i outcome (Some how) c = refl

passed_sent : (note : Note) (p : Packet) (now : ℕ) (choice : Choice) (c : Course) → (passed note p now choice c).after.sent ≡ c.sent
passed_sent note p now choice c = at (is_underway c.network note)
  where
    outcome : HeardOutcome
    outcome = hear (manager_at c.network note.receiver) p now

    at : (b : Bool) → (cond b (heard_by note.receiver outcome choice c) (unheard choice c)).after.sent ≡ c.sent
    at true = closed_sent (closes outcome.answer) note.receiver (called note.receiver outcome choice c) ∙ called_sent note.receiver outcome (failure_in choice outcome) c
    at false = refl

-- the packets so far were delivered, and these were sent
abbrev IsPassing : (Course → Type 0) → List Packet → Passing → Type 0
IsPassing P sent t = P t.after × (t.after.sent ≡ sent)

on_keeps : (A : Change → Type 0) (known : List Identity) (P : Course → Type 0) → IsClosedUnder A known P → (now : ℕ) (sent : List Packet) (t : Passing) (given : ℕ × Packet)
    → numbered sent given.0 ≡ Some given.1 → IsPassing P sent t → IsPassing P sent (passed_on now t given)
on_keeps A known P k now sent t given there h = at (numbered t.after.network.notes given.0) refl
  where
    at : (o : Option Note) → numbered t.after.network.notes given.0 ≡ o
        → IsPassing P sent (with_arrival given.0 t.arrivals (option_map_or (λ note. passed note given.1 now t.left t.after) o (unheard t.left t.after)))
    at None e = h
    at (Some note) e = (
      passed_keeps A known P k given.0 note given.1 now t.left t.after e (subst (λ s. numbered s given.0 ≡ Some given.1) (sym h.1) there) h.0,
      passed_sent note given.1 now t.left t.after ∙ h.1,
    )

all_keep : (A : Change → Type 0) (known : List Identity) (P : Course → Type 0) → IsClosedUnder A known P → (now : ℕ) (sent : List Packet) (t : Passing) (given : List (ℕ × Packet))
    → AllByRecursion (λ (g : ℕ × Packet). numbered sent g.0 ≡ Some g.1) given → IsPassing P sent t → IsPassing P sent (fold (passed_on now) t given)
all_keep A known P k now sent t [] there h = h
all_keep A known P k now sent t (g ∷ given) there h = all_keep A known P k now sent (passed_on now t g) given there.1 (on_keeps A known P k now sent t g there.0 h)

-- packets behind others, by their numbers
behind_numbers : (s before ys : List Packet)
    → AllByRecursion (λ (g : ℕ × Packet). numbered (s ++ (before ++ ys)) g.0 ≡ Some g.1) (enumerate_from (length s + 1 + length before) ys)
behind_numbers s before [] = tt
behind_numbers s before (y ∷ ys) = (
  numbered_behind s (before ++ y ∷ ys) (length before)
      ∙ ap (slice_get (before ++ y ∷ ys)) (let e : length before ≡ length before + 0 = omega arith in e) ∙ get_behind before (y ∷ ys) 0,
  subst (λ xs. AllByRecursion (λ (g : ℕ × Packet). numbered (s ++ xs) g.0 ≡ Some g.1) (enumerate_from (length s + 1 + length before + 1) ys)) (append_assoc before (y ∷ []) ys)
      (subst (λ n. AllByRecursion (λ (g : ℕ × Packet). numbered (s ++ ((before ++ y ∷ []) ++ ys)) g.0 ≡ Some g.1) (enumerate_from n ys)) next
      (behind_numbers s (before ++ y ∷ []) ys)),
)
  where
    next : length s + 1 + length (before ++ y ∷ []) ≡ length s + 1 + length before + 1
    next = let e = append_length before (y ∷ []) in omega (arith, e)

sent_numbers : (s packets : List Packet) (n : ℕ) → n ≡ length s
    → AllByRecursion (λ (g : ℕ × Packet). numbered (s ++ packets) g.0 ≡ Some g.1) (enumerate_from (n + 1) packets)
sent_numbers s packets n e = subst (λ k. AllByRecursion (λ (g : ℕ × Packet). numbered (s ++ packets) g.0 ≡ Some g.1) (enumerate_from k packets))
    (let same : length s + 1 + 0 ≡ n + 1 = omega (arith, e) in same) (behind_numbers s [] packets)

flow_keeps : (A : Change → Type 0) (known : List Identity) (P : Course → Type 0) → IsClosedUnder A known P → (i now : ℕ) (choice : Choice) (c : Course) → P c → P (flow i now choice c).after
flow_keeps A known P k i now choice c h = by outcome.answer
  where
    outcome : PumpOutcome
    outcome = pump (manager_at c.network i) now

    given : List (ℕ × Packet)
    given = enumerate_from (length c.network.notes + 1) outcome.packets

    pumped : Course
    pumped = (pump_by i now outcome choice c).after

    start : Passing
    start = record { arrivals = []; after = pumped; left = choice_behind choice outcome }

    pumped_sent : (f : Option Failure) → is_some f ≡ false → (posted i now (packets_unless outcome f) (called_unless i outcome f c)).sent ≡ c.sent ++ outcome.packets
    pumped_sent None e = refl
    pumped_sent (Some how) e = absurd (clash e)

    at : (b : Bool) → is_some (failure_in choice outcome) ≡ b → P (cond b (pump_by i now outcome choice c) (flowed (fold (passed_on now) start given))).after
    at true e = pump_keeps A known P k i now choice c h
    at false e = (all_keep A known P k now (c.sent ++ outcome.packets) start given (sent_numbers c.sent outcome.packets (length c.network.notes) (k.orderly c h).noted)
        (pump_keeps A known P k i now choice c h, pumped_sent (failure_in choice outcome) e)).0

    by : (answer : Result ℕ PumpFault) → P (flow_by i now outcome choice c answer).after
    by (Err fault) = pump_keeps A known P k i now choice c h
    by (Ok count) = at (is_some (failure_in choice outcome)) refl

-- Connections.

exchanged_keeps : (A : Change → Type 0) (known : List Identity) (P : Course → Type 0) → IsClosedUnder A known P → (a b now : ℕ) (c : Course) → P c → P (exchanged a b now c)
exchanged_keeps A known P k a b now c h = flow_keeps A known P k b now Well (flow a now Well c).after (flow_keeps A known P k a now Well c h)

connect_keeps : (A : Change → Type 0) (known : List Identity) (P : Course → Type 0) → IsClosedUnder A known P → (a b now window_a window_b : ℕ) (c : Course) → P c
    → P (connect a b now window_a window_b c).after
connect_keeps A known P k a b now window_a window_b c h = at (any_down c.network a b) refl (any_connected c.network a b) refl
  where
    begins : Course
    begins = moved (both_linked a b window_a window_b) c

    linked : Answer
    linked = connected (length c.network.notes) (set_up a b now begins)

    at : (down : Bool) → any_down c.network a b ≡ down → (joined : Bool) → any_connected c.network a b ≡ joined
        → P (cond down (only c reply.NotUp) (cond joined (only c reply.Linked) linked)).after
    at true e joined f = h
    at false e true f = h
    at false e false f = exchanged_keeps A known P k a b now (exchanged a b now begins) (exchanged_keeps A known P k a b now begins
        (k.keeps c (change.Links a b window_a window_b) (k.others (change.Links a b window_a window_b) tt) (join_and (not (any_down c.network a b)) (not (any_connected c.network a b)) (ap not e) (ap not f)) h))

disconnect_keeps : (A : Change → Type 0) (known : List Identity) (P : Course → Type 0) → IsClosedUnder A known P → (i : ℕ) (c : Course) → P c → P (disconnect i c).after
disconnect_keeps A known P k i c h = at (is_connected c.network i)
  where
    at : (b : Bool) → P (cond b (record { reply = reply.Disconnected; after = moved (ended i) c }) (only c reply.Unlinked)).after
    at true = k.keeps c (change.Ends i) (k.others (change.Ends i) tt) refl h
    at false = h

resend_keeps : (A : Change → Type 0) (known : List Identity) (P : Course → Type 0) → IsClosedUnder A known P → (i : ℕ) (c : Course) → P c → P (resend_by i c).after
resend_keeps A known P k i c h = at (is_connected c.network i)
  where
    with_records : List Written → Course
    with_records written = record { network = succeeded_at i (resend (manager_at c.network i)) c.network; sent = c.sent; written = written }

    at : (b : Bool) → P (cond b (record { reply = reply.Resent; after = moved (succeeded_at i (resend (manager_at c.network i))) c }) (only c reply.Unlinked)).after
    at true = subst P (ap with_records (append_nothing c.written)) (k.keeps c (change.Calls i Resend None) (k.others (change.Calls i Resend None) tt) refl h)
    at false = h

-- Restarts.

reopen_keeps : (A : Change → Type 0) (known : List Identity) (P : Course → Type 0) → IsClosedUnder A known P → (i : ℕ) (choice : Choice) (c : Course) → is_connected c.network i ≡ false
    → (choice ≡ Kept → is_some (doubt_of (manager_at c.network i).condition) ≡ true) → P c → P (reopen i choice c).after
reopen_keeps A known P k i Kept c free doubt h = k.keeps c (change.Finds i) (k.others (change.Finds i) tt)
    (join_and (not (is_connected c.network i)) (is_some (doubt_of (manager_at c.network i).condition)) (ap not free) (doubt refl)) h
reopen_keeps A known P k i Unread c free doubt h = k.keeps c (change.Fails i) (k.others (change.Fails i) tt) (ap not free) h
reopen_keeps A known P k i x c free doubt h = k.keeps c (change.Restarts i) (k.others (change.Restarts i) tt) (ap not free) h

restart_keeps : (A : Change → Type 0) (known : List Identity) (P : Course → Type 0) → IsClosedUnder A known P → (i : ℕ) (choice : Choice) (c : Course)
    → (choice ≡ Kept → is_some (doubt_of (manager_at c.network i).condition) ≡ true) → P c → P (reopen i choice (moved (ended i) c)).after
restart_keeps A known P k i choice c doubt h = reopen_keeps A known P k i choice (moved (ended i) c) (ended_free known c i (k.orderly c h))
    (λ e. parted_at (λ m. is_some (doubt_of m.condition) ≡ true) c.network i i (λ m d. ap (λ x. is_some (doubt_of x)) (parted_condition m) ∙ d) (doubt e))
    (k.keeps c (change.Ends i) (k.others (change.Ends i) tt) refl h)

-- Checkpoints.

-- a call that touches no disk cannot fail
refused_well : {A : Type 0} (m : Manager) (answer : A) (choice : Choice) → failure_in choice (answering m answer) ≡ None
refused_well m answer (Fails before how) = at (before == 0)
  where
    at : (first : Bool) → cond (first && false) (Some how) None ≡ None
    at true = refl
    at false = refl
refused_well m answer choice = refl

-- what is answered to a checkpoint changes nothing
as_rewriting : (i : ℕ) (failure : Option Failure) (c : Course)
    → called_unless i (outcome_of (manager_at c.network i) Checkpoint) failure c ≡ called_unless i (checkpoint_made (manager_at c.network i)) failure c
as_rewriting i None c = refl
as_rewriting i (Some how) c = refl

checkpoint_keeps : (A : Change → Type 0) (known : List Identity) (P : Course → Type 0) → IsClosedUnder A known P → (i : ℕ) (choice : Choice) (c : Course) → P c
    → P (called i (checkpoint (manager_at c.network i) (is_far choice)) choice c)
checkpoint_keeps A known P k i choice c h = at (is_down m) refl (is_far choice) (is_large m.state)
  where
    m : Manager
    m = manager_at c.network i

    rewrites : (failure : Option Failure) → (is_none failure || not (is_down m)) ≡ true → P (called_unless i (outcome_of m Checkpoint) failure c)
    rewrites failure may = k.keeps c (change.Calls i Checkpoint failure) (k.others (change.Calls i Checkpoint failure) tt) may h

    refused : (why : CheckpointFault) → P (called i (answering {A = Result (Unit {0}) CheckpointFault} m (Err why)) choice c)
    refused why = subst (λ f. P (called_unless i (answering {A = Result (Unit {0}) CheckpointFault} m (Err why)) f c))
        (sym (refused_well {A = Result (Unit {0}) CheckpointFault} m (Err why) choice)) (rewrites None refl)

    fails_up : is_down m ≡ false → (failure : Option Failure) → (is_none failure || not (is_down m)) ≡ true
    fails_up up None = refl
    fails_up up (Some how) = ap not up

    at : (down : Bool) → is_down m ≡ down → (far large : Bool)
        → P (called i (unless m (cond down (Some fault.Down) (cond far (Some fault.TooFar) (cond large (Some fault.TooLarge) None))) (checkpoint_made m)) choice c)
    at true e far large = refused fault.Down
    at false e true large = refused fault.TooFar
    at false e false true = refused fault.TooLarge
    at false e false false = subst P (as_rewriting i (failure_in choice (checkpoint_made m)) c)
        (rewrites (failure_in choice (checkpoint_made m)) (fails_up e (failure_in choice (checkpoint_made m))))

-- Every event.

-- what an event asks for is given
abbrev pub IsGiven : (Change → Type 0) → Event → Type 0
IsGiven A (event.Asks i request) = (failure : Option Failure) → A (change.Calls i (Asks request) failure)
IsGiven A _ = Unit {0}

pub event_keeps_under : (A : Change → Type 0) (known : List Identity) (P : Course → Type 0) → IsClosedUnder A known P → (c : Course) (e : Event) (choice : Choice)
    → IsGiven A e → may c e choice ≡ true → P c
    → P (answer_to e (packet_of c.sent e) choice c).after
event_keeps_under A known P k c (event.Asks i request) choice given m h = call_keeps A known P k i (Asks request) choice c refl (given (failure_in choice (requested (manager_at c.network i) request))) h
event_keeps_under A known P k c (event.Connect a b now window_a window_b) choice given m h = connect_keeps A known P k a b now window_a window_b c h
event_keeps_under A known P k c (event.Disconnect i) choice given m h = disconnect_keeps A known P k i c h
event_keeps_under A known P k c (event.Resend i) choice given m h = resend_keeps A known P k i c h
event_keeps_under A known P k c (event.Pump i now) choice given m h = pump_keeps A known P k i now choice c h
event_keeps_under A known P k c (event.Deliver number now) choice given m h = deliver_keeps A known P k number now choice c h
event_keeps_under A known P k c (event.Drop number) choice given m h = drop_keeps A known P k number c h
event_keeps_under A known P k c (event.Flow i now) choice given m h = flow_keeps A known P k i now choice c h
event_keeps_under A known P k c (event.Checkpoint i) choice given m h = checkpoint_keeps A known P k i choice c h
event_keeps_under A known P k c (event.Arm i) choice given m h = h
event_keeps_under A known P k c (event.Restart i) choice given m h = restart_keeps A known P k i choice c (doubt choice m) h
  where
    doubt : (choice : Choice) → may c (event.Restart i) choice ≡ true → choice ≡ Kept → is_some (doubt_of (manager_at c.network i).condition) ≡ true
    doubt Kept m e = m
    doubt choice m e = absurd (let none : ⊥ = cc in none)

-- where all is given, it is
all_given : (e : Event) → IsGiven (λ x. Unit {0}) e
all_given (event.Asks i request) = λ failure. tt
all_given e = tt

pub event_keeps : (known : List Identity) (P : Course → Type 0) → IsClosed known P → (c : Course) (e : Event) (choice : Choice) → may c e choice ≡ true → P c
    → P (answer_to e (packet_of c.sent e) choice c).after
event_keeps known P k c e choice m h = event_keeps_under (λ x. Unit {0}) known P (record { orderly = k.orderly; others = λ x none. tt; keeps = λ c x given may h. k.keeps c x may h })
    c e choice (all_given e) m h
