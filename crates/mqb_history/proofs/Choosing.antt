-- Replies show what was chosen: from each reply to an event the choice can be read.
use Rattle.std.proofs.Common.{refl, ap, sym, subst, ◌∙◌, arith}
use Rattle.std.proofs.lemmas.Bool.Decides.{nat_tests}
use Rattle.std.proofs.lemmas.List.{append_assoc}
use Rattle.std.specs.List.{enumerate_from}
use Rattle.std.specs.Option.{option_map_or}
use Rattle.std.specs.Prelude.{[], ◌&&◌, ◌+◌, ◌++◌, ◌-◌, ◌==◌, ◌∷◌, ◌≡◌, Bool, Err, List, None, Ok, Option, Result, Some, cond, false, fold, is_some, length, map, nat_lt, true, ℕ}
use Rattle.mqb_base.specs.declared.heard.Heard.{Heard}
use Rattle.mqb_base.specs.declared.ledger.Line.{Line}
use Rattle.mqb_model.specs.calls.hear.Hear.{hear}
use Rattle.mqb_model.specs.calls.hear.Session.{HeardOutcome}
use Rattle.mqb_model.specs.calls.pump.Pump.{PumpOutcome}
use Rattle.mqb_model.specs.declared.faults.HearFault.{HearFault}
use Rattle.mqb_model.specs.declared.faults.PumpFault.{PumpFault}
use Rattle.mqb_model.specs.laws.Refusals.{RefusalsChangeNothing}
use Rattle.mqb_model.specs.managers.Outcomes.{Outcome}
use Rattle.mqb_model.specs.records.Record.{Record}
use Rattle.mqb_network.specs.Answers.{lines_at, reply_to}
use Rattle.mqb_network.specs.Changes.{ended}
use Rattle.mqb_network.specs.Choices.{Choice, Failure, Fails, TooFar, Well, choice_behind, failure_in}
use Rattle.mqb_network.specs.Courses.{Course, called, called_unless, course_from, moved, posted, written_by}
use Rattle.mqb_network.specs.Delivering.{Delivered, closes, delivery_reply, heard_by, heard_with, passed, unheard}
use Rattle.mqb_network.specs.Network.{Network, Note, is_underway, manager_at}
use Rattle.mqb_network.specs.Replies.{Arrival, Reply}
use Rattle.mqb_network.specs.Replies as reply
use Rattle.mqb_network.specs.Runs.{may_fail}
use Rattle.mqb_network.specs.Sending.{Passing, flow_by, flowed, packets_unless, passed_on, pump_by, pumped}
use Rattle.mqb_packet.specs.declared.packet.Packet.{Packet}
use Rattle.mqb_queue.specs.Places.{numbered}
use Rattle.mqb_history.specs.Choosing.{Broke, Far, Found, Missed, Quiet, Sign, base_sign, sign_of, signs_of}
use Rattle.mqb_history.proofs.Lists.{apart_numbers, append_length, append_nothing, clash, equal_numbers}

-- how many records there are
abbrev count_of : Option Record → ℕ
count_of None = 0
count_of (Some r) = 1

written_count : (i : ℕ) (n : Network) (o : Option Record) → length (written_by i (manager_at n i) o) ≡ count_of o
written_count i n None = refl
written_count i n (Some r) = refl

one_there : (o : Option Record) → is_some o ≡ true → count_of o ≡ 1
one_there None e = absurd (clash (sym e))
one_there (Some r) e = refl

none_there : (o : Option Record) → is_some o ≡ false → count_of o ≡ 0
none_there None e = refl
none_there (Some r) e = absurd (clash e)

below_none : (k : ℕ) → nat_lt k 0 ≡ true → ⊥
below_none k e = grind (arith, nat_tests)

-- where no record is written no disk fails
pub only_well : (records : ℕ) → records ≡ 0 → (a : Choice) → may_fail records a ≡ true → a ≡ Well
only_well records e Well m = refl
only_well records e (Fails k how) m = absurd (below_none k (subst (λ n. nat_lt k n ≡ true) e m))
only_well records e x m = absurd (clash (sym m))

-- the choice at a call, by the one behind it
abbrev next : Choice → Choice
next (Fails k how) = Fails (k + 1) how
next a = a

abbrev before_call : (touches : Bool) → Choice → Choice
before_call false a = a
before_call true a = next a

well_before : (touches : Bool) → before_call touches Well ≡ Well
well_before false = refl
well_before true = refl

-- What is read of a call and of what comes behind it is what was chosen.
then_shown : {A : Type 0} (outcome : Outcome A) (records : ℕ) (read : Option Failure → Choice → Choice) → outcome.touches ≡ is_some outcome.entry
    → ((how : Failure) (left : Choice) → read (Some how) left ≡ Fails 0 how)
    → ((left : Choice) → may_fail records left ≡ true → read None left ≡ before_call outcome.touches left)
    → (a : Choice) → may_fail (count_of outcome.entry + records) a ≡ true → read (failure_in a outcome) (choice_behind a outcome) ≡ a
then_shown outcome records read touched fails goes Well m = goes Well refl ∙ well_before outcome.touches
then_shown outcome records read touched fails goes (Fails k how) m = at outcome.touches refl (k == 0) refl
  where
    more : outcome.touches ≡ true → (k == 0) ≡ false → nat_lt (k - 1) records ≡ true
    more t z = let one = one_there outcome.entry (sym touched ∙ t) in let lt = subst (λ n. nat_lt k (n + records) ≡ true) one m in
        let apart = apart_numbers k 0 z in grind (arith, nat_tests)

    as_many : outcome.touches ≡ false → nat_lt k records ≡ true
    as_many t = let none = none_there outcome.entry (sym touched ∙ t) in let lt = subst (λ n. nat_lt k (n + records) ≡ true) none m in grind (arith, nat_tests)

    again : (k == 0) ≡ false → k - 1 + 1 ≡ k
    again z = let apart = apart_numbers k 0 z in omega (arith, apart)

    at : (touches : Bool) → outcome.touches ≡ touches → (zero : Bool) → (k == 0) ≡ zero
        → read (cond (zero && touches) (Some how) None) (cond touches (Fails (k - 1) how) (Fails k how)) ≡ Fails k how
    at true t true z = fails how (Fails (k - 1) how) ∙ ap (λ n. Fails n how) (sym (equal_numbers k 0 z))
    at true t false z = goes (Fails (k - 1) how) (more t z) ∙ ap (λ b. before_call b (Fails (k - 1) how)) t ∙ ap (λ n. Fails n how) (again z)
    at false t true z = goes (Fails k how) (as_many t) ∙ ap (λ b. before_call b (Fails k how)) t
    at false t false z = goes (Fails k how) (as_many t) ∙ ap (λ b. before_call b (Fails k how)) t
then_shown outcome records read touched fails goes x m = absurd (clash (sym m))

-- it is where nothing comes behind it
once_shown : {A : Type 0} (outcome : Outcome A) (read : Option Failure → Choice) → outcome.touches ≡ is_some outcome.entry
    → ((how : Failure) → read (Some how) ≡ Fails 0 how) → read None ≡ Well
    → (a : Choice) → may_fail (count_of outcome.entry) a ≡ true → read (failure_in a outcome) ≡ a
once_shown outcome read touched fails goes a m = then_shown outcome 0 (λ f left. read f) touched (λ how left. fails how)
    (λ left none. goes ∙ (sym (well_before outcome.touches) ∙ ap (before_call outcome.touches) (sym (only_well 0 refl left none))))
    a (subst (λ n. may_fail n a ≡ true) (let same : count_of outcome.entry ≡ count_of outcome.entry + 0 = omega arith in same) m)

-- Calls.

-- the choice that signs show to an event with one call
abbrev pub once : List Sign → Choice
once (Broke how ∷ signs) = Fails 0 how
once (Far ∷ signs) = TooFar
once _ = Well

-- and a reply does
abbrev pub shown_once : Reply → Choice
shown_once r = once (signs_of r)

-- the first of a reply's signs
abbrev pub first_of : Reply → Sign
first_of (reply.DiskFailed how) = Broke how
first_of (reply.Delivered delivery) = sign_of delivery
first_of (reply.OpenedKept lines) = Found
first_of reply.OpenedLost = Missed
first_of (reply.Checkpointed given) = base_sign given
first_of _ = Quiet

-- there is one
pub first_is : (r : Reply) → (rest : List Sign) × (signs_of r ≡ first_of r ∷ rest)
first_is (reply.DiskFailed how) = (_, refl)
first_is r = (_, refl)

-- what is read of it alone is read whatever follows
pub by_first : (read : List Sign → Choice) → ((s : Sign) (x y : List Sign) → read (s ∷ x) ≡ read (s ∷ y)) → (r : Reply) (x : List Sign) → read (signs_of r ++ x) ≡ read (signs_of r)
by_first read alone r x = let first = first_is r in
    ap (λ s. read (s ++ x)) first.1 ∙ alone (first_of r) (first.0 ++ x) first.0 ∙ ap read (sym first.1)

pub first_shown : (r : Reply) (x : List Sign) → once (signs_of r ++ x) ≡ shown_once r
first_shown r x = by_first once alone r x
  where
    alone : (s : Sign) (x y : List Sign) → once (s ∷ x) ≡ once (s ∷ y)
    alone (Broke how) x y = refl
    alone Far x y = refl
    alone s x y = refl

pub call_shown : {A : Type 0} (n : Network) (i : ℕ) (outcome : Outcome A) (says : A → List Line → Reply) → outcome.touches ≡ is_some outcome.entry
    → ((answer : A) (lines : List Line) → shown_once (says answer lines) ≡ Well)
    → (a : Choice) → may_fail (length (called i outcome Well (course_from n)).written) a ≡ true → shown_once (reply_to i outcome a says (course_from n)) ≡ a
call_shown n i outcome says touched well a m = once_shown outcome (λ f. shown_once (option_map_or reply.DiskFailed f (says outcome.answer (lines_at i outcome (course_from n))))) touched
    (λ how. refl) (well outcome.answer (lines_at i outcome (course_from n))) a (subst (λ k. may_fail k a ≡ true) (written_count i n outcome.entry) m)

-- Deliveries.

unclosed : (b : Bool) (i : ℕ) (c : Course) → (cond b (moved (ended i) c) c).written ≡ c.written
unclosed true i c = refl
unclosed false i c = refl

heard_count : (i : ℕ) (outcome : HeardOutcome) (c : Course) → length (heard_by i outcome Well c).after.written ≡ length c.written + count_of outcome.entry
heard_count i outcome c = ap length (unclosed (closes outcome.answer) i (called i outcome Well c)) ∙ append_length c.written (written_by i (manager_at c.network i) outcome.entry)
    ∙ ap (λ k. length c.written + k) (written_count i c.network outcome.entry)

heard_well : (answer : Result Heard HearFault) (lines : List Line) → shown_once (delivery_reply (heard_with answer lines)) ≡ Well
heard_well (Ok answer) lines = refl
heard_well (Err fault) lines = refl

pub heard_shown : (n : Network) (i : ℕ) (outcome : HeardOutcome) → outcome.touches ≡ is_some outcome.entry
    → (a : Choice) → may_fail (length (heard_by i outcome Well (course_from n)).after.written) a ≡ true → shown_once (delivery_reply (heard_by i outcome a (course_from n)).delivery) ≡ a
heard_shown n i outcome touched a m = once_shown outcome
    (λ f. shown_once (delivery_reply (option_map_or reply.Unheard f (heard_with outcome.answer (lines_at i outcome (course_from n)))))) touched
    (λ how. refl) (heard_well outcome.answer (lines_at i outcome (course_from n))) a
    (subst (λ k. may_fail k a ≡ true) (heard_count i outcome (course_from n) ∙ (let same : 0 + count_of outcome.entry ≡ count_of outcome.entry = omega arith in same)) m)

-- Flows.

-- the choice that the sign of a delivery shows, by the one that those behind it show
abbrev shown_in : (touches : Bool) → Sign → Choice → Choice
shown_in touches (Broke how) rest = Fails 0 how
shown_in touches _ rest = before_call touches rest

heard_in : (touches : Bool) (answer : Result Heard HearFault) (lines : List Line) (rest : Choice)
    → shown_in touches (sign_of (heard_with answer lines)) rest ≡ before_call touches rest
heard_in touches (Ok answer) lines rest = refl
heard_in touches (Err fault) lines rest = refl

-- the delivery of a packet with this note
abbrev delivered_by : ℕ → Choice → Course → Option Note → Packet → Delivered
delivered_by now a c note p = option_map_or (λ note. passed note p now a c) note (unheard a c)

-- the one of a packet of this number
abbrev one : ℕ → Choice → Course → ℕ × Packet → Delivered
one now a c given = delivered_by now a c (numbered c.network.notes given.0) given.1

-- its call touches the disk
abbrev touched_by : ℕ → Course → Option Note → Packet → Bool
touched_by now c None p = false
touched_by now c (Some note) p = cond (is_underway c.network note) (hear (manager_at c.network note.receiver) p now).touches false

-- so many records are written in it
abbrev counted_by : ℕ → Course → Option Note → Packet → ℕ
counted_by now c None p = 0
counted_by now c (Some note) p = cond (is_underway c.network note) (count_of (hear (manager_at c.network note.receiver) p now).entry) 0

abbrev arrivals_from : ℕ → Choice → Course → List (ℕ × Packet) → List Arrival
arrivals_from now a c [] = []
arrivals_from now a c (given ∷ rest) = record { packet = given.0; delivery = (one now a c given).delivery }
    ∷ arrivals_from now (one now a c given).left (one now a c given).after rest

-- their signs
abbrev arrival_signs : List Arrival → List Sign
arrival_signs arrivals = map (λ a. sign_of a.delivery) arrivals

-- the choice that the signs of arrivals show
abbrev shown_from : ℕ → Course → List (ℕ × Packet) → List Sign → Choice
shown_from now c [] signs = Well
shown_from now c (given ∷ rest) [] = Well
shown_from now c (given ∷ rest) (x ∷ xs) = shown_in (touched_by now c (numbered c.network.notes given.0) given.1) x
    (shown_from now (one now Well c given).after rest xs)

abbrev records_from : ℕ → Course → List (ℕ × Packet) → ℕ
records_from now c [] = 0
records_from now c (given ∷ rest) = counted_by now c (numbered c.network.notes given.0) given.1 + records_from now (one now Well c given).after rest

all_arrive : (now : ℕ) (t : Passing) (given : List (ℕ × Packet)) → (fold (passed_on now) t given).arrivals ≡ t.arrivals ++ arrivals_from now t.left t.after given
all_arrive now t [] = sym (append_nothing t.arrivals)
all_arrive now t (g ∷ rest) = all_arrive now (passed_on now t g) rest
    ∙ append_assoc t.arrivals (record { packet = g.0; delivery = (one now t.left t.after g).delivery } ∷ [])
    (arrivals_from now (one now t.left t.after g).left (one now t.left t.after g).after rest)

one_writes : (now : ℕ) (c : Course) (note : Option Note) (p : Packet) → (length (delivered_by now Well c note p).after.written ≡ length c.written + counted_by now c note p)
one_writes now c None p = omega arith
one_writes now c (Some note) p = at (is_underway c.network note)
  where
    outcome : HeardOutcome
    outcome = hear (manager_at c.network note.receiver) p now

    at : (b : Bool) → length (cond b (heard_by note.receiver outcome Well c) (unheard Well c)).after.written ≡ length c.written + cond b (count_of outcome.entry) 0
    at true = heard_count note.receiver outcome c
    at false = omega arith

one_goes_well : (now : ℕ) (c : Course) (note : Option Note) (p : Packet) → (delivered_by now Well c note p).left ≡ Well
one_goes_well now c None p = refl
one_goes_well now c (Some note) p = at (is_underway c.network note)
  where
    at : (b : Bool) → (cond b (heard_by note.receiver (hear (manager_at c.network note.receiver) p now) Well c) (unheard Well c)).left ≡ Well
    at true = refl
    at false = refl

all_write : (now : ℕ) (c : Course) (arrivals : List Arrival) (given : List (ℕ × Packet))
    → length (fold (passed_on now) (record { arrivals = arrivals; after = c; left = Well }) given).after.written ≡ length c.written + records_from now c given
all_write now c arrivals [] = omega arith
all_write now c arrivals (g ∷ rest) = ap (λ left. length (fold (passed_on now) (behind left) rest).after.written) (one_goes_well now c (numbered c.network.notes g.0) g.1)
    ∙ all_write now (one now Well c g).after (behind Well).arrivals rest
    ∙ (let first = one_writes now c (numbered c.network.notes g.0) g.1 in omega (arith, first))
  where
    behind : Choice → Passing
    behind left = record { arrivals = arrivals ++ record { packet = g.0; delivery = (one now Well c g).delivery } ∷ []; after = (one now Well c g).after; left = left }

-- of these packets it is shown what was chosen, whatever signs follow
abbrev AreShown : ℕ → List Sign → List (ℕ × Packet) → Type 0
AreShown now x given = (c : Course) (a : Choice) → may_fail (records_from now c given) a ≡ true → shown_from now c given (arrival_signs (arrivals_from now a c given) ++ x) ≡ a

one_shown : RefusalsChangeNothing → (now : ℕ) (x : List Sign) (rest : List (ℕ × Packet)) → AreShown now x rest → (c : Course) (note : Option Note) (p : Packet) (a : Choice)
    → may_fail (counted_by now c note p + records_from now (delivered_by now Well c note p).after rest) a ≡ true
    → shown_in (touched_by now c note p) (sign_of (delivered_by now a c note p).delivery)
    (shown_from now (delivered_by now Well c note p).after rest (arrival_signs (arrivals_from now (delivered_by now a c note p).left (delivered_by now a c note p).after rest) ++ x)) ≡ a
one_shown law now x rest shown c None p a m = shown c a
    (subst (λ n. may_fail n a ≡ true) (let same : 0 + records_from now c rest ≡ records_from now c rest = omega arith in same) m)
one_shown law now x rest shown c (Some note) p a m = at (is_underway c.network note) m
  where
    i : ℕ
    i = note.receiver

    outcome : HeardOutcome
    outcome = hear (manager_at c.network i) p now

    after : Option Failure → Course
    after f = cond (closes outcome.answer) (moved (ended i) (called_unless i outcome f c)) (called_unless i outcome f c)

    behind : Option Failure → Choice → Choice
    behind f left = shown_from now (after None) rest (arrival_signs (arrivals_from now left (after f) rest) ++ x)

    at : (b : Bool) → may_fail (cond b (count_of outcome.entry) 0 + records_from now (cond b (heard_by i outcome Well c) (unheard Well c)).after rest) a ≡ true
        → shown_in (cond b outcome.touches false) (sign_of (cond b (heard_by i outcome a c) (unheard a c)).delivery)
        (shown_from now (cond b (heard_by i outcome Well c) (unheard Well c)).after rest
        (arrival_signs (arrivals_from now (cond b (heard_by i outcome a c) (unheard a c)).left (cond b (heard_by i outcome a c) (unheard a c)).after rest) ++ x)) ≡ a
    at false m = shown c a (subst (λ n. may_fail n a ≡ true) (let same : 0 + records_from now c rest ≡ records_from now c rest = omega arith in same) m)
    at true m = then_shown outcome (records_from now (after None) rest)
        (λ f left. shown_in outcome.touches (sign_of (option_map_or reply.Unheard f (heard_with outcome.answer (lines_at i outcome c)))) (behind f left))
        ((law (manager_at c.network i)).hear_whole p now).touches (λ how left. refl)
        (λ left n. heard_in outcome.touches outcome.answer (lines_at i outcome c) (behind None left) ∙ ap (before_call outcome.touches) (shown (after None) left n)) a m

-- what the arrivals show is what was chosen
all_shown : RefusalsChangeNothing → (now : ℕ) (x : List Sign) (given : List (ℕ × Packet)) → AreShown now x given
all_shown law now x [] c a m = sym (only_well 0 refl a m)
all_shown law now x (g ∷ rest) c a m = one_shown law now x rest (all_shown law now x rest) c (numbered c.network.notes g.0) g.1 a m

-- The whole event.

pump_count : (i now : ℕ) (outcome : PumpOutcome) (n : Network) → length (pump_by i now outcome Well (course_from n)).after.written ≡ count_of outcome.entry
pump_count i now outcome n = written_count i n outcome.entry

pump_well : (before : ℕ) (answer : Result ℕ PumpFault) (lines : List Line) → shown_once (pumped before answer lines) ≡ Well
pump_well before (Ok count) lines = refl
pump_well before (Err fault) lines = refl

pub pump_shown : (n : Network) (i now : ℕ) (outcome : PumpOutcome) → outcome.touches ≡ is_some outcome.entry
    → (a : Choice) → may_fail (length (pump_by i now outcome Well (course_from n)).after.written) a ≡ true → shown_once (pump_by i now outcome a (course_from n)).reply ≡ a
pump_shown n i now outcome touched a m = call_shown n i outcome (pumped (length n.notes)) touched (pump_well (length n.notes)) a m

-- the choice that signs show to a flow whose pump answers so
abbrev pub shown_by_flow : ℕ → (touches : Bool) → Course → List (ℕ × Packet) → Result ℕ PumpFault → List Sign → Choice
shown_by_flow now touches c given (Err fault) signs = once signs
shown_by_flow now touches c given (Ok count) [] = Well
shown_by_flow now touches c given (Ok count) (Broke how ∷ signs) = Fails 0 how
shown_by_flow now touches c given (Ok count) (sign ∷ signs) = before_call touches (shown_from now c given signs)

pub flow_shown : RefusalsChangeNothing → (n : Network) (i now : ℕ) (outcome : PumpOutcome) → outcome.touches ≡ is_some outcome.entry → (answer : Result ℕ PumpFault)
    → (a : Choice) (x : List Sign) → may_fail (length (flow_by i now outcome Well (course_from n) answer).after.written) a ≡ true
    → shown_by_flow now outcome.touches (pump_by i now outcome Well (course_from n)).after (enumerate_from (length n.notes + 1) outcome.packets) answer
    (signs_of (flow_by i now outcome a (course_from n) answer).reply ++ x) ≡ a
flow_shown law n i now outcome touched (Err fault) a x m = first_shown (pump_by i now outcome a (course_from n)).reply x ∙ pump_shown n i now outcome touched a m
flow_shown law n i now outcome touched (Ok count) a x m = then_shown outcome (records_from now (after None) given) read touched (λ how left. refl)
    (λ left m. ap (λ arrivals. before_call outcome.touches (shown_from now (after None) given (arrival_signs arrivals ++ x))) (all_arrive now (start None left) given)
    ∙ ap (before_call outcome.touches) (all_shown law now x given (after None) left m)) a
    (subst (λ k. may_fail k a ≡ true) (all_write now (after None) [] given ∙ ap (λ k. k + records_from now (after None) given) (pump_count i now outcome n)) m)
  where
    given : List (ℕ × Packet)
    given = enumerate_from (length n.notes + 1) outcome.packets

    after : Option Failure → Course
    after f = posted i now (packets_unless outcome f) (called_unless i outcome f (course_from n))

    start : Option Failure → Choice → Passing
    start f left = record { arrivals = []; after = after f; left = left }

    said : Option Failure → Reply
    said f = option_map_or reply.DiskFailed f (pumped (length n.notes) outcome.answer (lines_at i outcome (course_from n)))

    read : Option Failure → Choice → Choice
    read f left = shown_by_flow now outcome.touches (after None) given (Ok count)
        (signs_of (cond (is_some f) (record { reply = said f; after = after f }) (flowed (fold (passed_on now) (start f left) given))).reply ++ x)
