-- A call of one manager with its disk is a turn of the world.
use Rattle.std.proofs.Common.{◌≡◌, ℕ, Bool, true, cond, List, [], ◌+◌, ◌++◌, Option, Some, None, Result, Ok, Err, refl, sym, ap, subst, ◌∙◌}
use Rattle.std.specs.Option.{option_map_or}
use Rattle.std.specs.Prelude.{IfOk, is_some, length, nat_lt, if◌then◌else◌}
use Rattle.mqb_base.specs.declared.ledger.Line.{Line}
use Rattle.mqb_outside.specs.Disk.{View}
use Rattle.mqb_model.specs.calls.Call.{Request, requested}
use Rattle.mqb_model.specs.calls.Call as calls
use Rattle.mqb_model.specs.managers.Manager.{Manager}
use Rattle.mqb_model.specs.managers.Outcomes.{Outcome, failed, lines_after, succeeded}
use Rattle.mqb_model.specs.records.Record.{Record}
use Rattle.mqb_seats.specs.Holding.{StaysStored}
use Rattle.mqb_seats.specs.Stored.{same_stores, stored_held}
use Rattle.mqb_seats.specs.Moves.{IsMoveWhere}
use Rattle.mqb_seats.specs.Seats.{IsHeldOn, SeatState, records_of, seated}
use Rattle.mqb_network.specs.Answers.{Answer, call}
use Rattle.mqb_network.specs.Changes.{ended, failed_at, succeeded_at, with_lines}
use Rattle.mqb_network.specs.Choices.{Choice, Failure, Fails, Well, failure_in}
use Rattle.mqb_network.specs.Courses.{called_unless, course_from, written_by}
use Rattle.mqb_network.specs.Events as event
use Rattle.mqb_network.specs.Network.{Network, manager_at, with_manager}
use Rattle.mqb_network.specs.Replies as network
use Rattle.mqb_seats.specs.mqb_replies.Requests.{reply_of}
use Rattle.mqb_seats.specs.mqb_replies.declared.faults.AnswerFault.{AnswerFault}
use Rattle.mqb_script.specs.declared.managers.Which.{Which}
use Rattle.mqb_script.specs.declared.managers.Which.TheVariants.{Alpha, Beta}
use Rattle.mqb_seats.specs.Called.{IsCalled, failure_of}
use Rattle.mqb_seats.specs.declared.called.Called.{Called}
use Rattle.mqb_seats.specs.declared.called.Called.TheVariants.{Broke, Told}
use Rattle.mqb_seats.specs.declared.called.Failure.{Failure as HowItFailed}
use Rattle.mqb_traffic.specs.Networks.{index_of, network_with}
use Rattle.mqb_traffic.specs.States.{TrafficState}
use Rattle.mqb_transcript.specs.declared.replies.Reply.{Reply}
use Rattle.mqb_turns.specs.Counts.{CountsGo, counts_at}
use Rattle.mqb_turns.specs.Replies.{told}
use Rattle.mqb_turns.specs.Settling.{Settles}
use Rattle.mqb_turns.specs.Turns.{FailsAsAnswered, IsTurn, answers_to}
use Rattle.mqb_turns.specs.Sides.{Side, network_at, side}
use Rattle.mqb_turns.specs.lemmas.Counting.{counts_called, counts_quiet, none_more, stored_count}

-- what follows of a result
pub if_ok : {A E : Type 0} {P Q : A → Type 0} (q : Result A E) → ((x : A) → P x → Q x) → IfOk q P → IfOk q Q
if_ok (Ok x) f h = f x h
if_ok (Err e) f h = h

-- the manager of a side is the one at its index
pub own_at : (which : Which) (x : Side) → manager_at (network_at which x) (index_of which) ≡ seated x.own
own_at Alpha x = refl
own_at Beta x = refl

-- another one in its place
pub with_own : (which : Which) (s t b : SeatState) (tr : TrafficState) → with_manager (network_at which (side s b tr)) (index_of which) (seated t) ≡ network_at which (side t b tr)
with_own Alpha s t b tr = refl
with_own Beta s t b tr = refl

-- lines that join the ledger
pub lines_so : (which : Which) (s b : SeatState) (u v : TrafficState) (ls : List Line) → ((alpha beta : Manager) → network_with alpha beta v ≡ with_lines ls (network_with alpha beta u))
    → network_at which (side s b v) ≡ with_lines ls (network_at which (side s b u))
lines_so Alpha s b u v ls says = says (seated s) (seated b)
lines_so Beta s b u v ls says = says (seated b) (seated s)

-- a record that there is, is written
pub one_written : (i : ℕ) (m : Manager) (r : Option Record) → is_some r ≡ true → nat_lt 0 (length ([] ++ written_by i m r)) ≡ true
one_written i m (Some r) some = refl
one_written i m None some = absurd (let none : ⊥ = cc in none)

-- a call that went well, with the lines of its record
pub went_so : {A Reason : Type 0} (which : Which) (s t b : SeatState) (tr : TrafficState) (d e : View) (o : Outcome A) → IsMoveWhere Reason d e s t o None → (ls : List Line) → ls ≡ lines_after (seated s) o
    → succeeded_at (index_of which) o (network_at which (side s b tr)) ≡ with_lines ls (network_at which (side t b tr))
went_so which s t b tr d e o mv ls lines =
    ap (λ (m : Manager). with_lines (lines_after m o) (with_manager (network_at which (side s b tr)) (index_of which) (succeeded m o))) (own_at which (side s b tr))
    ∙ ap (λ (m : Manager). with_lines (lines_after (seated s) o) (with_manager (network_at which (side s b tr)) (index_of which) m)) (sym mv.manager)
    ∙ ap (with_lines (lines_after (seated s) o)) (with_own which s t b tr)
    ∙ ap (λ (ls : List Line). with_lines ls (network_at which (side t b tr))) (sym lines)

-- one in which the disk failed
pub broke_so : {A Reason : Type 0} (which : Which) (s t b : SeatState) (tr : TrafficState) (d e : View) (o : Outcome A) (how : Failure) → IsMoveWhere Reason d e s t o (Some how)
    → failed_at (index_of which) o (network_at which (side s b tr)) ≡ ended (index_of which) (network_at which (side t b tr))
broke_so which s t b tr d e o how mv =
    ap (λ (m : Manager). ended (index_of which) (with_manager (network_at which (side s b tr)) (index_of which) (failed m o))) (own_at which (side s b tr))
    ∙ ap (λ (m : Manager). ended (index_of which) (with_manager (network_at which (side s b tr)) (index_of which) m)) (sym mv.manager)
    ∙ ap (ended (index_of which)) (with_own which s t b tr)

module _ (which : Which) (s t b : SeatState) (tr : TrafficState) (y : Side) (d e : View) (stopped : Bool) (request : Request)
    (whole : (requested (seated s) request).touches ≡ is_some (requested (seated s) request).entry) where
  abbrev n : Network
  n = network_at which (side s b tr)

  abbrev i : ℕ
  i = index_of which

  abbrev own : Manager
  own = manager_at n i

  abbrev make : Manager → Outcome calls.Answer
  make m = requested m request

  abbrev answers : Choice → Answer
  answers = answers_to which (side s b tr) (event.Asks i request)

  me : own ≡ seated s
  me = own_at which (side s b tr)

  abbrev said : Manager → Result Reply AnswerFault
  said k = reply_of (make k).answer (lines_after k (make k))

  told_turn : (reply : Reply) (recorded : Bool) (given : Reply) → IsCalled d e stopped s t (make (seated s)) (Told reply recorded)
      → Settles which (side t b tr) y (Told reply recorded) given → IsTurn which (side s b tr) y d e stopped answers given
  told_turn reply recorded given (mv, is_told, lines) (given_is, noted) = record {
    choice = Well;
    may = refl;
    reply = ap said me ∙ is_told ∙ ap Ok (sym given_is);
    network = ap (λ (k : Manager). succeeded_at i (make k) n) me ∙ went_so which s t b tr d e (make (seated s)) mv (cond recorded t.manager.store.lines []) lines ∙ sym noted.0;
    sent = refl;
    counted = counts_called which (side s b tr) y own (make own).entry
        (ap records_of noted.1 ∙ mv.counted ∙ ap (λ (k : Manager). records_of s + option_map_or (λ _. 1) (make k).entry 0) (sym me)) beside;
    held = λ held. subst (IsHeldOn e) (sym noted.1) (mv.held held);
    beside = beside;
    faults = mv.faults;
  }
    where
      beside : StaysStored b y.other
      beside = subst (StaysStored b) (sym noted.2) (same_stores b)

  broke_turn : (how : HowItFailed) (given : Reply) → IsCalled d e stopped s t (make (seated s)) (Broke how)
      → Settles which (side t b tr) y (Broke how) given → IsTurn which (side s b tr) y d e stopped answers given
  broke_turn how given (mv, stops) (given_is, parted) = record {
    choice = Fails 0 f;
    may = one_written i own (make own).entry (ap (λ (k : Manager). is_some (make k).entry) me ∙ some);
    reply = ap told reply_is ∙ ap Ok (sym given_is);
    network = ap (λ (o : Option Failure). (called_unless i (make own) o (course_from n)).network) fails ∙ ap (λ (k : Manager). failed_at i (make k) n) me
        ∙ broke_so which s t b tr d e (make (seated s)) f mv ∙ parted.network which;
    sent = ap (λ (o : Option Failure). (called_unless i (make own) o (course_from n)).sent) fails;
    counted = subst (λ (o : Option Failure). CountsGo (counts_at which (side s b tr)) (counts_at which y) (called_unless i (make own) o (course_from n)).written) (sym fails)
        (counts_quiet which (side s b tr) y (stored_count parted.own ∙ mv.counted ∙ sym (none_more (records_of s))) parted.beside);
    held = λ held. stored_held e t y.own parted.own (mv.held held);
    beside = parted.beside;
    faults = subst (FailsAsAnswered stopped d.faults e.faults) (sym reply_is) (mv.faults, ap failure_of stops);
  }
    where
      f : Failure
      f = failure_of how

      some : is_some (make (seated s)).entry ≡ true
      some = mv.fails_where refl

      touches : (make own).touches ≡ true
      touches = ap (λ (k : Manager). (make k).touches) me ∙ whole ∙ some

      fails : failure_in (Fails 0 f) (make own) ≡ Some f
      fails = ap (λ (c : Bool). if c then Some f else None) touches

      reply_is : (answers (Fails 0 f)).reply ≡ network.DiskFailed f
      reply_is = ap (λ (o : Option Failure). option_map_or network.DiskFailed o (network.Called (make own).answer (lines_after own (make own)))) fails

  -- whether it went well or the disk failed
  pub call_turn : (called : Called) (given : Reply) → IsCalled d e stopped s t (make (seated s)) called → Settles which (side t b tr) y called given
      → IsTurn which (side s b tr) y d e stopped answers given
  call_turn (Told reply recorded) given is_called settled = told_turn reply recorded given is_called settled
  call_turn (Broke how) given is_called settled = broke_turn how given is_called settled
