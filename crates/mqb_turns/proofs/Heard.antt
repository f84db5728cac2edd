-- A packet that is passed to its receiver.
use Rattle.std.proofs.Common.{◌≡◌, ℕ, ◌+◌, ◌==◌, Bool, true, false, cond, List, [], ◌++◌, Option, Some, None, Result, Ok, Err, length, refl, sym, ap, subst, ◌∙◌, arith, length-append}
use Rattle.std.proofs.lemmas.List.{append-nil}
use Rattle.std.specs.Option.{option_map_or}
use Rattle.std.specs.List.{list_any}
use Rattle.std.specs.Prelude.{◌&&◌, IfErr, is_some, not}
use Rattle.mqb_base.specs.declared.heard.Heard.{Heard}
use Rattle.mqb_base.specs.declared.ledger.Line.{Line}
use Rattle.mqb_outside.specs.Disk.{View}
use Rattle.mqb_model.specs.calls.hear.Hear.{hear}
use Rattle.mqb_model.specs.calls.hear.Session.{HeardOutcome}
use Rattle.mqb_model.specs.declared.faults.HearFault.{HearFault}
use Rattle.mqb_model.specs.declared.faults.HearFault.TheVariants as fault
use Rattle.mqb_model.specs.laws.Refusals.{RefusalsChangeNothing}
use Rattle.mqb_model.specs.managers.Manager.{Manager}
use Rattle.mqb_model.specs.managers.Outcomes.{answering, lines_after}
use Rattle.mqb_model.specs.records.Record.{Record}
use Rattle.mqb_seats.specs.Holding.{StaysStored}
use Rattle.mqb_seats.specs.Stored.{same_stores, stored_held}
use Rattle.mqb_seats.specs.Seats.{IsHeldOn, SeatState, records_of, seated}
use Rattle.mqb_network.specs.Changes.{ended, failed_at, succeeded_at, with_lines}
use Rattle.mqb_network.specs.Choices.{Choice, Failure, Fails, Kept, Lost, Unread, Well, choice_behind, failure_in}
use Rattle.mqb_network.specs.Courses.{Course, Written, called_unless, moved, written_by}
use Rattle.mqb_network.specs.Delivering.{Delivered, closes, heard_by, heard_with, passed, unheard}
use Rattle.mqb_network.specs.Network.{Connection, Network, Note, is_underway, manager_at}
use Rattle.mqb_network.specs.Replies.{Delivery}
use Rattle.mqb_network.specs.Replies as reply
use Rattle.mqb_packet.specs.declared.packet.Packet.{Packet}
use Rattle.mqb_script.specs.declared.managers.Which.{Which}
use Rattle.mqb_script.specs.declared.managers.Which.TheVariants.{Alpha, Beta}
use Rattle.mqb_seats.specs.Called.{failure_of}
use Rattle.mqb_seats.specs.Passed.{IsHeard}
use Rattle.mqb_seats.specs.declared.called.Failure.{Failure as HowItFailed}
use Rattle.mqb_seats.specs.declared.packets.Passed.{Passed}
use Rattle.mqb_seats.specs.declared.packets.Passed.TheVariants as what
use Rattle.mqb_traffic.specs.Networks.{index_of, network_with}
use Rattle.mqb_traffic.specs.States.{TrafficState}
use Rattle.mqb_transcript.specs.declared.arrivals.Outcome.{Outcome}
use Rattle.mqb_transcript.specs.declared.arrivals.Outcome.TheVariants as outcome
use Rattle.mqb_turns.specs.Counts.{counts_at}
use Rattle.mqb_turns.specs.Passes.{IsPassed, course_in, touched}
use Rattle.mqb_turns.specs.Replies.{outcome_of}
use Rattle.mqb_turns.specs.Settling.{EndedWhere, IsNoted, IsParted}
use Rattle.mqb_turns.specs.Sides.{Side, network_at, side}
use Rattle.mqb_turns.specs.lemmas.Counting.{counts_called, counts_quiet, counts_same, none_more, stored_count}
use Rattle.mqb_turns.proofs.Turning.{broke_so, own_at, went_so}

-- the records of a call, where the disk does not fail
written_is : (i : ℕ) (m : Manager) (r : Option Record) (b : Bool) → b ≡ is_some r → (before : List Written) → length (before ++ written_by i m r) ≡ length before + touched b
written_is i m None b is before = ap length (append-nil before) ∙ none ∙ ap (λ (c : Bool). length before + touched c) (sym is)
  where
    none : length before ≡ length before + 0
    none = omega arith
written_is i m (Some r) b is before = length_one before ∙ ap (λ (c : Bool). length before + touched c) (sym is)
  where
    length_one : (ws : List Written) → length (ws ++ written_by i m (Some r)) ≡ length ws + 1
    length_one ws = length-append ws (written_by i m (Some r))

module _ (which : Which) (x : Side) (note : Note) (p : Packet) (now : ℕ) (receiver : note.receiver ≡ index_of which) where
  abbrev n : Network
  n = network_at which x

  abbrev i : ℕ
  i = index_of which

  -- what the receiver makes of it
  abbrev o : HeardOutcome
  o = hear (seated x.own) p now

  abbrev heard_as : ℕ → Manager → Choice → Course → Delivered
  heard_as k m choice c = heard_by k (hear m p now) choice c

  -- It is heard where it is underway.
  underway_is : is_underway n note ≡ true → (choice : Choice) (sent : List Packet) (before : List Written)
      → passed note p now choice (course_in n sent before) ≡ heard_by i o choice (course_in n sent before)
  underway_is is choice sent before =
      ap (λ (b : Bool). cond b (heard_as note.receiver (manager_at n note.receiver) choice (course_in n sent before)) (unheard choice (course_in n sent before))) is
      ∙ ap (λ (k : ℕ). heard_as k (manager_at n k) choice (course_in n sent before)) receiver
      ∙ ap (λ (m : Manager). heard_as i m choice (course_in n sent before)) (own_at which x)

  -- nothing is, where no connection stands
  never_underway : is_underway n note ≡ true → n.connections ≡ [] → ⊥
  never_underway is none = at note.dropped (sym (ap (λ (cs : List Connection). not note.dropped && list_any (λ (c : Connection). c.number == note.connection) cs) none) ∙ is)
    where
      at : (b : Bool) → (not b && false) ≡ true → ⊥
      at true is = let no : ⊥ = cc in no
      at false is = let no : ⊥ = cc in no

  -- what calls no disk
  abbrev idle_as : HeardOutcome
  idle_as = answering (seated x.own) (Err fault.NotLinked)

  -- and else nothing happens
  pub not_underway : (d : View) (stopped : Bool) → is_underway n note ≡ false → IsPassed which x x d d stopped note p now (outcome_of reply.Gone)
  not_underway d stopped is = record {
    delivery = reply.Gone;
    failure = None;
    outcome = idle_as;
    written = [];
    told = refl;
    passes = λ choice none sent before. gone choice sent before ∙ ap (λ (ws : List Written). gone_so choice sent ws) (sym (append-nil before))
        ∙ ap (λ (l : Choice). record { delivery = reply.Gone; after = course_in n sent (before ++ []); left = l }) (left_is choice);
    would = λ sent before. ap (λ (q : Delivered). length q.after.written) (gone Well sent before) ∙ omega arith;
    touches = λ some. absurd (let none : ⊥ = cc in none);
    idle = λ _. (refl, refl);
    stays = λ _. refl;
    cut = λ some. absurd (let none : ⊥ = cc in none);
    counted = counts_same (counts_at which x);
    held = λ held. held;
    beside = same_stores x.other;
    faults = refl;
  }
    where
      gone_so : Choice → List Packet → List Written → Delivered
      gone_so choice sent ws = record { delivery = reply.Gone; after = course_in n sent ws; left = choice }

      gone : (choice : Choice) (sent : List Packet) (before : List Written) → passed note p now choice (course_in n sent before) ≡ unheard choice (course_in n sent before)
      gone choice sent before = ap (λ (b : Bool). cond b (heard_as note.receiver (manager_at n note.receiver) choice (course_in n sent before)) (unheard choice (course_in n sent before))) is

      left_is : (choice : Choice) → choice ≡ choice_behind choice idle_as
      left_is Well = refl
      left_is choice = refl

  -- a call that failed or not
  abbrev by_failure : Option Failure → Choice → Course → Delivered
  by_failure f choice c = record {
    delivery = option_map_or reply.Unheard f (heard_with o.answer (lines_after (manager_at c.network i) o));
    after = cond (closes o.answer) (moved (ended i) (called_unless i o f c)) (called_unless i o f c);
    left = choice_behind choice o;
  }

  passes_by : is_underway n note ≡ true → (f : Option Failure) (choice : Choice) → failure_in choice o ≡ f → (sent : List Packet) (before : List Written)
      → passed note p now choice (course_in n sent before) ≡ by_failure f choice (course_in n sent before)
  passes_by is f choice fails sent before = underway_is is choice sent before ∙ ap (λ (g : Option Failure). by_failure g choice (course_in n sent before)) fails

  -- the course, with its network
  after_is : (b : Bool) (c : Course) → cond b (moved (ended i) c) c ≡ course_in (cond b (ended i c.network) c.network) c.sent c.written
  after_is true c = refl
  after_is false c = refl

  -- the records of the call
  abbrev records : List Written
  records = written_by i (manager_at n i) o.entry

  would_so : RefusalsChangeNothing → is_underway n note ≡ true → (sent : List Packet) (before : List Written)
      → length (passed note p now Well (course_in n sent before)).after.written ≡ length before + touched o.touches
  would_so law is sent before = ap (λ (q : Delivered). length q.after.written) (passes_by is None Well refl sent before)
      ∙ ap (λ (c : Course). length c.written) (after_is (closes o.answer) (called_unless i o None (course_in n sent before)))
      ∙ written_is i (manager_at n i) o.entry o.touches ((law (seated x.own)).hear_whole p now).touches before

  abbrev delivered_as : Choice → Delivery → Course → Delivered
  delivered_as choice what_is c = record { delivery = what_is; after = c; left = choice_behind choice o }

  -- It went well.
  pub heard_well : RefusalsChangeNothing → is_underway n note ≡ true → (d e : View) (stopped : Bool) (y1 y : Side) → succeeded_at i o n ≡ network_at which y1
      → (delivery : Delivery) → heard_with o.answer (lines_after (seated x.own) o) ≡ delivery → (closed : Bool) → closes o.answer ≡ closed → EndedWhere which closed y1 y
      → (given : Outcome) → outcome_of delivery ≡ given → records_of y.own ≡ records_of x.own + option_map_or (λ _. 1) o.entry 0
      → (IsHeldOn d x.own → IsHeldOn e y.own) → StaysStored x.other y.other → e.faults ≡ d.faults → IsPassed which x y d e stopped note p now given
  heard_well law is d e stopped y1 y left delivery delivery_is closed closed_is ended_so given told own held beside same = record {
    delivery = delivery;
    failure = None;
    outcome = o;
    written = records;
    told = told;
    passes = λ choice none sent before. passes_by is None choice none sent before
        ∙ ap (λ (m : Manager). delivered_as choice (heard_with o.answer (lines_after m o)) (cond (closes o.answer) (moved (ended i) (behind sent before)) (behind sent before))) (own_at which x)
        ∙ ap (λ (k : Delivery). delivered_as choice k (cond (closes o.answer) (moved (ended i) (behind sent before)) (behind sent before))) delivery_is
        ∙ ap (delivered_as choice delivery) (after_is (closes o.answer) (behind sent before))
        ∙ ap (λ (k : Network). delivered_as choice delivery (course_in k sent (before ++ records))) network_is;
    would = would_so law is;
    touches = λ some. absurd (let none : ⊥ = cc in none);
    idle = λ none. absurd (never_underway is none);
    stays = λ none. absurd (never_underway is none);
    cut = λ some. absurd (let none : ⊥ = cc in none);
    counted = counts_called which x y (manager_at n i) o.entry own beside;
    held = held;
    beside = beside;
    faults = same;
  }
    where
      behind : List Packet → List Written → Course
      behind sent before = called_unless i o None (course_in n sent before)

      network_by : (b : Bool) → EndedWhere which b y1 y → cond b (ended i (network_at which y1)) (network_at which y1) ≡ network_at which y
      network_by true parted = parted.network which
      network_by false same = ap (network_at which) (sym same)

      network_is : cond (closes o.answer) (ended i (succeeded_at i o n)) (succeeded_at i o n) ≡ network_at which y
      network_is = ap (λ (b : Bool). cond b (ended i (succeeded_at i o n)) (succeeded_at i o n)) closed_is
          ∙ ap (λ (k : Network). cond closed (ended i k) k) left ∙ network_by closed ended_so

  -- The disk failed.
  pub heard_broke : RefusalsChangeNothing → is_underway n note ≡ true → (d e : View) (stopped : Bool) (t : SeatState) (y : Side) (how : HowItFailed)
      → IsHeard d e stopped x.own t o (what.Broke how) → IsParted which (side t x.other x.traffic) y
      → IsPassed which x y d e stopped note p now (outcome_of (reply.Unheard (failure_of how)))
  heard_broke law is d e stopped t y how (mv, stops) parted = record {
    delivery = reply.Unheard (failure_of how);
    failure = Some (failure_of how);
    outcome = o;
    written = [];
    told = refl;
    passes = λ choice fails sent before. passes_by is (Some (failure_of how)) choice fails sent before
        ∙ ap (delivered_as choice (reply.Unheard (failure_of how))) (after_is (closes o.answer) (behind sent before))
        ∙ ap (λ (k : Network). delivered_as choice (reply.Unheard (failure_of how)) (course_in k sent before)) (network_by (closes o.answer))
        ∙ ap (λ (ws : List Written). delivered_as choice (reply.Unheard (failure_of how)) (course_in (network_at which y) sent ws)) (sym (append-nil before));
    would = would_so law is;
    touches = λ _. ((law (seated x.own)).hear_whole p now).touches ∙ mv.fails_where refl;
    idle = λ none. absurd (never_underway is none);
    stays = λ none. absurd (never_underway is none);
    cut = λ _. parted.none;
    counted = counts_quiet which x y (stored_count parted.own ∙ mv.counted ∙ sym (none_more (records_of x.own))) parted.beside;
    held = λ held. stored_held e t y.own parted.own (mv.held held);
    beside = parted.beside;
    faults = (mv.faults, ap failure_of stops, refl);
  }
    where
      behind : List Packet → List Written → Course
      behind sent before = called_unless i o (Some (failure_of how)) (course_in n sent before)

      failed_is : failed_at i o n ≡ network_at which y
      failed_is = broke_so which x.own t x.other x.traffic d e o (failure_of how) mv ∙ parted.network which

      network_by : (b : Bool) → cond b (ended i (failed_at i o n)) (failed_at i o n) ≡ network_at which y
      network_by true = ap (ended i) failed_is ∙ parted.again which
      network_by false = failed_is

no_lines : (m : Network) → with_lines [] m ≡ m
no_lines m = ap (λ (ls : List Line). record m { ledger = ls }) (append-nil m.ledger)

-- What the receiver answers, by what the seat says of it.

module _ (which : Which) (s t b : SeatState) (tr : TrafficState) (note : Note) (p : Packet) (now : ℕ) (receiver : note.receiver ≡ index_of which) (law : RefusalsChangeNothing)
    (is : is_underway (network_at which (side s b tr)) note ≡ true) (d e : View) (stopped : Bool) where
  abbrev here : HeardOutcome
  here = hear (seated s) p now

  pub heard_so : (heard : Heard) (recorded : Bool) → IsHeard d e stopped s t here (what.Heard heard recorded) → (y1 y : Side) → IsNoted which (side t b tr) y1 recorded
      → EndedWhere which (closes (Ok heard)) y1 y → (lines : List Line) → lines ≡ cond recorded t.manager.store.lines []
      → IsPassed which (side s b tr) y d e stopped note p now (outcome.Heard heard lines)
  heard_so heard recorded (mv, answer, are) y1 y noted ended_so lines lines_are =
      heard_well which (side s b tr) note p now receiver law is d e stopped y1 y (went_so which s t b tr d e here mv (cond recorded t.manager.store.lines []) are ∙ sym noted.0)
      (reply.Heard heard lines)
      (ap (λ (r : Result Heard HearFault). heard_with r (lines_after (seated s) here)) answer ∙ ap (λ (ls : List Line). reply.Heard heard ls) (sym (lines_are ∙ are)))
      (closes (Ok heard)) (ap closes answer) ended_so (outcome.Heard heard lines) refl
      (own_so (closes (Ok heard)) ended_so ∙ ap records_of noted.1 ∙ mv.counted) (λ held. stays (closes (Ok heard)) ended_so (subst (IsHeldOn e) (sym noted.1) (mv.held held)))
      (beside_so (closes (Ok heard)) ended_so) mv.faults
    where
      stays : (c : Bool) → EndedWhere which c y1 y → IsHeldOn e y1.own → IsHeldOn e y.own
      stays true parted held = stored_held e y1.own y.own parted.own held
      stays false same held = subst (λ (z : Side). IsHeldOn e z.own) (sym same) held

      own_so : (c : Bool) → EndedWhere which c y1 y → records_of y.own ≡ records_of y1.own
      own_so true parted = stored_count parted.own
      own_so false same = ap (λ (z : Side). records_of z.own) same

      beside_so : (c : Bool) → EndedWhere which c y1 y → StaysStored b y.other
      beside_so true parted = subst (λ (z : SeatState). StaysStored z y.other) noted.2 parted.beside
      beside_so false same = subst (λ (z : Side). StaysStored b z.other) (sym same) (subst (StaysStored b) (sym noted.2) (same_stores b))

  pub gone_so : IsHeard d e stopped s t here what.Gone → IsPassed which (side s b tr) (side t b tr) d e stopped note p now (outcome_of reply.Gone)
  gone_so (mv, said) =
      heard_well which (side s b tr) note p now receiver law is d e stopped (side t b tr) (side t b tr)
      (went_so which s t b tr d e here mv [] (sym (ap (λ (q : HeardOutcome). lines_after (seated s) q) unchanged)) ∙ no_lines (network_at which (side t b tr)))
      reply.Gone (ap (λ (r : Result Heard HearFault). heard_with r (lines_after (seated s) here)) said.1) false (ap closes said.1) refl (outcome_of reply.Gone) refl
      mv.counted mv.held (same_stores b) mv.faults
    where
      unchanged : here ≡ answering (seated s) (Err said.0)
      unchanged = subst (λ (r : Result Heard HearFault). IfErr r (λ f. here ≡ answering (seated s) (Err f))) said.1 ((law (seated s)).hear_whole p now).refused

  -- by what the seat says
  pub heard_by_seat : (q : Passed) (heard : Heard) (recorded : Bool) → q ≡ what.Heard heard recorded → IsHeard d e stopped s t here q → (y1 y : Side) → IsNoted which (side t b tr) y1 recorded
      → (ends : Bool) → ends ≡ closes (Ok heard) → EndedWhere which ends y1 y → (lines : List Line) → lines ≡ cond recorded t.manager.store.lines []
      → IsPassed which (side s b tr) y d e stopped note p now (outcome.Heard heard lines)
  heard_by_seat q heard recorded is_q it y1 y noted ends ends_is ended_so lines lines_are =
      heard_so heard recorded (subst (IsHeard d e stopped s t here) is_q it) y1 y noted (subst (λ (b : Bool). EndedWhere which b y1 y) ends_is ended_so) lines lines_are

  pub gone_by_seat : (q : Passed) → q ≡ what.Gone → IsHeard d e stopped s t here q → IsPassed which (side s b tr) (side t b tr) d e stopped note p now (outcome_of reply.Gone)
  gone_by_seat q is_q it = gone_so (subst (IsHeard d e stopped s t here) is_q it)

  pub broke_by_seat : (q : Passed) (how : HowItFailed) → q ≡ what.Broke how → IsHeard d e stopped s t here q → (y : Side) → IsParted which (side t b tr) y → (given : Outcome)
      → given ≡ outcome_of (reply.Unheard (failure_of how)) → IsPassed which (side s b tr) y d e stopped note p now given
  broke_by_seat q how is_q it y parted given given_is = subst (IsPassed which (side s b tr) y d e stopped note p now) (sym given_is)
      (heard_broke which (side s b tr) note p now receiver law is d e stopped t y how (subst (IsHeard d e stopped s t here) is_q it) parted)

-- whether it is underway
pub underway_so : (which : Which) (s b : SeatState) (u : TrafficState) (note : Note) (r : Bool) → ((alpha beta : Manager) → r ≡ is_underway (network_with alpha beta u) note)
    → is_underway (network_at which (side s b u)) note ≡ r
underway_so Alpha s b u note r says = sym (says (seated s) (seated b))
underway_so Beta s b u note r says = sym (says (seated b) (seated s))
