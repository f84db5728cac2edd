-- A checkpoint of one manager is a turn of the world.
use Rattle.std.proofs.Common.{◌≡◌, ℕ, Bool, true, false, cond, [], ◌++◌, Option, Some, None, Result, Ok, Err, refl, sym, ap, subst, ◌∙◌}
use Rattle.std.proofs.lemmas.Bool.{true≢false}
use Rattle.std.specs.Option.{option_map_or}
use Rattle.std.specs.Prelude.{◌&&◌, ◌+◌, not}
use Rattle.mqb_journal.specs.declared.faults.CheckpointFault.{CheckpointFault}
use Rattle.mqb_journal.specs.declared.faults.CheckpointFault.TheVariants as fault
use Rattle.mqb_outside.specs.Disk.{View}
use Rattle.mqb_model.specs.managers.Manager.{Manager, is_down}
use Rattle.mqb_model.specs.managers.Outcomes.{Outcome, lines_after, unless}
use Rattle.mqb_model.specs.records.Applying.{lines_of}
use Rattle.mqb_model.specs.records.Record.{Record}
use Rattle.mqb_network.specs.Answers.{Answer}
use Rattle.mqb_network.specs.Changes.{failed_at, succeeded_at}
use Rattle.mqb_network.specs.Checkpointing.{may_be_far, may_rewrite}
use Rattle.mqb_network.specs.Checkpoints.{checkpoint, checkpoint_made, is_large}
use Rattle.mqb_network.specs.Choices as choice
use Rattle.mqb_network.specs.Choices.{Choice, Failure, Fails, TooFar, Well, failure_in}
use Rattle.mqb_network.specs.Courses.{called_unless, course_from, written_by}
use Rattle.mqb_network.specs.Events.{Checkpoint}
use Rattle.mqb_network.specs.Network.{Network, manager_at}
use Rattle.mqb_network.specs.Replies as network
use Rattle.mqb_network.specs.lemmas.Checkpointing.{far_calls_none, refused_down, unrecorded}
use Rattle.mqb_seats.specs.mqb_replies.Replies.{checkpoint_reply}
use Rattle.mqb_seats.specs.mqb_replies.declared.faults.AnswerFault.{AnswerFault}
use Rattle.mqb_script.specs.declared.managers.Which.{Which}
use Rattle.mqb_seats.specs.Called.{IsRewritten, failure_of}
use Rattle.mqb_seats.specs.Far.{far_counted}
use Rattle.mqb_seats.specs.Holding.{StaysStored}
use Rattle.mqb_seats.specs.Moves.{IsRewriting, rewriting}
use Rattle.mqb_seats.specs.Seats.{IsHeldOn, SeatState, is_far_on, records_of, seated}
use Rattle.mqb_seats.specs.Stored.{same_stores, stored_held}
use Rattle.mqb_seats.specs.declared.called.Called.{Called}
use Rattle.mqb_seats.specs.declared.called.Called.TheVariants.{Broke, Told}
use Rattle.mqb_seats.specs.declared.called.Failure.{Failure as HowItFailed}
use Rattle.mqb_traffic.specs.Networks.{index_of}
use Rattle.mqb_traffic.specs.States.{TrafficState}
use Rattle.mqb_transcript.specs.declared.replies.Reply.{Reply}
use Rattle.mqb_transcript.specs.declared.replies.Reply.TheVariants as reply
use Rattle.mqb_turns.specs.Counts.{CountsGo, counts_at}
use Rattle.mqb_turns.specs.Replies.{failure_reply, told}
use Rattle.mqb_turns.specs.Rewrites.{IsFarAsSaid, IsRewriteTurn}
use Rattle.mqb_turns.specs.Settling.{IsNoted, Settles}
use Rattle.mqb_turns.specs.Sides.{Side, network_at, side}
use Rattle.mqb_turns.specs.Turns.{FailsAsAnswered, IsTurnWhere, answers_to}
use Rattle.mqb_turns.specs.lemmas.Counting.{counts_quiet, none_more, stored_count}
use Rattle.mqb_turns.proofs.Turning.{broke_so, own_at, went_so}

abbrev Made : Type 0
Made = Outcome (Result (Unit {0}) CheckpointFault)

-- It is told that the store is too far on exactly where the manager is up and it is.

abbrev is_far_reply : Reply → Bool
is_far_reply reply.TooFar = true
is_far_reply _ = false

-- what is replied to it says so
abbrev says_far : Result Reply AnswerFault → Bool
says_far (Ok given) = is_far_reply given
says_far (Err why) = false

says_far_is : (m : Manager) (far : Bool) → says_far (checkpoint_reply (checkpoint m far).answer) ≡ (not (is_down m) && far)
says_far_is m far = at (is_down m) far (is_large m.state)
  where
    at : (down far large : Bool) → says_far (checkpoint_reply (unless m (cond down (Some fault.Down) (cond far (Some fault.TooFar) (cond large (Some fault.TooLarge) None))) (checkpoint_made m)).answer)
        ≡ (not down && far)
    at true far large = refl
    at false true large = refl
    at false false true = refl
    at false false false = refl

both_of : (a b : Bool) → (not a && b) ≡ true → (a ≡ false) × (b ≡ true)
both_of true b is = absurd (true≢false (sym is))
both_of false b is = (refl, is)

far_reply : (given : Reply) → is_far_reply given ≡ true → given ≡ reply.TooFar
far_reply reply.TooFar is = refl
far_reply given is = absurd (true≢false (sym is))

-- where it is told
far_told : (s : SeatState) (given : Reply) → checkpoint_reply (rewriting s).answer ≡ Ok given → IsFarAsSaid s given
far_told s given is_told = (
  λ far. both_of (is_down (seated s)) (is_far_on s) (sym (says_far_is (seated s) (is_far_on s)) ∙ ap says_far is_told ∙ ap is_far_reply far),
  λ both. far_reply given (sym (ap says_far is_told) ∙ says_far_is (seated s) (is_far_on s) ∙ ap (λ (b : Bool). not b && is_far_on s) both.0 ∙ both.1),
)

-- where its disk was called, it is not too far on
near_of : (s : SeatState) (far : Bool) → is_far_on s ≡ far → (rewriting s).touches ≡ true → is_far_on s ≡ false
near_of s false is touches = is
near_of s true is touches = absurd (true≢false (sym touches ∙ ap (λ (b : Bool). (checkpoint (seated s) b).touches) is ∙ far_calls_none (seated s)))

failed_not_far : (how : Failure) → is_far_reply (failure_reply how) ≡ false
failed_not_far choice.Stopped = refl
failed_not_far choice.Failed = refl

far_broke : (s : SeatState) (how : Failure) (given : Reply) → (rewriting s).touches ≡ true → given ≡ failure_reply how → IsFarAsSaid s given
far_broke s how given touches given_is = (
  λ far. absurd (true≢false (sym (ap is_far_reply (sym given_is ∙ far)) ∙ failed_not_far how)),
  λ both. absurd (true≢false (sym both.1 ∙ near_of s (is_far_on s) refl touches)),
)

module _ (which : Which) (s t b : SeatState) (tr : TrafficState) (y : Side) (d e : View) (stopped : Bool) (held : IsHeldOn d s) where
  abbrev x : Side
  x = side s b tr

  abbrev n : Network
  n = network_at which x

  abbrev i : ℕ
  i = index_of which

  abbrev own : Manager
  own = manager_at n i

  abbrev answers : Choice → Answer
  answers = answers_to which x (Checkpoint i)

  me : own ≡ seated s
  me = own_at which x

  abbrev TurnOf : Reply → Type 0
  TurnOf given = IsTurnWhere (may_rewrite n i (records_of s)) which x y d e stopped answers given

  -- no record is written
  written_none : (far : Bool) → [] ++ written_by i own (checkpoint own far).entry ≡ []
  written_none far = ap (λ (r : Option Record). [] ++ written_by i own r) (unrecorded own far)

  no_lines : [] ≡ lines_after (seated s) (rewriting s)
  no_lines = ap (λ (r : Option Record). option_map_or (lines_of (seated s).state) r []) (sym (unrecorded (seated s) (is_far_on s)))

  -- It went well, and these choices come to what the seat made.
  module _ (said : Reply) (recorded : Bool) (given : Reply) (mv : IsRewriting d e s t None) (is_told : checkpoint_reply (rewriting s).answer ≡ Ok said) (none : recorded ≡ false)
      (given_is : given ≡ said) (noted : IsNoted which (side t b tr) y recorded) where
    noted_lines : cond recorded t.manager.store.lines [] ≡ lines_after (seated s) (rewriting s)
    noted_lines = ap (λ (r : Bool). cond r t.manager.store.lines []) none ∙ no_lines

    same_records : records_of y.own ≡ records_of s
    same_records = ap records_of noted.1 ∙ mv.counted ∙ ap (λ (r : Option Record). records_of s + option_map_or (λ _. 1) r 0) (unrecorded (seated s) (is_far_on s)) ∙ sym (none_more (records_of s))

    beside : StaysStored b y.other
    beside = subst (StaysStored b) (sym noted.2) (same_stores b)

    replied : (far : Bool) → checkpoint (seated s) far ≡ rewriting s → checkpoint_reply (checkpoint own far).answer ≡ Ok given
    replied far same = ap (λ (m : Manager). checkpoint_reply (checkpoint m far).answer) me ∙ ap (λ (o : Made). checkpoint_reply o.answer) same ∙ is_told ∙ ap Ok (sym given_is)

    left : (far : Bool) → checkpoint (seated s) far ≡ rewriting s → succeeded_at i (checkpoint own far) n ≡ network_at which y
    left far same = ap (λ (m : Manager). succeeded_at i (checkpoint m far) n) me ∙ ap (λ (o : Made). succeeded_at i o n) same
        ∙ went_so which s t b tr d e (rewriting s) mv (cond recorded t.manager.store.lines []) noted_lines ∙ sym noted.0

    counted_so : (far : Bool) → CountsGo (counts_at which x) (counts_at which y) ([] ++ written_by i own (checkpoint own far).entry)
    counted_so far = subst (CountsGo (counts_at which x) (counts_at which y)) (sym (written_none far)) (counts_quiet which x y same_records beside)

    held_so : IsHeldOn d s → IsHeldOn e y.own
    held_so held = subst (IsHeldOn e) (sym noted.1) (mv.held held)

    -- the store is not too far on, or the manager is down
    near_turn : checkpoint (seated s) false ≡ rewriting s → TurnOf given
    near_turn same = record {
      choice = Well;
      may = refl;
      reply = replied false same;
      network = left false same;
      sent = refl;
      counted = counted_so false;
      held = held_so;
      beside = beside;
      faults = mv.faults;
    }

    -- or it is
    far_turn : is_down (seated s) ≡ false → is_far_on s ≡ true → TurnOf given
    far_turn up far = record {
      choice = TooFar;
      may = ap (λ (m : Manager). not (is_down m) && may_be_far (records_of s)) me ∙ ap (λ (b : Bool). not b && may_be_far (records_of s)) up
          ∙ far_counted d s.manager.store.journal s.manager.store.state (held.on up) far;
      reply = replied true same;
      network = left true same;
      sent = refl;
      counted = counted_so true;
      held = held_so;
      beside = beside;
      faults = mv.faults;
    }
      where
        same : checkpoint (seated s) true ≡ rewriting s
        same = ap (checkpoint (seated s)) (sym far)

    told_turn : (down far : Bool) → is_down (seated s) ≡ down → is_far_on s ≡ far → TurnOf given
    told_turn true far down is = near_turn (refused_down (seated s) false down ∙ sym (refused_down (seated s) (is_far_on s) down))
    told_turn false true up is = far_turn up is
    told_turn false false up is = near_turn (ap (checkpoint (seated s)) (sym is))

  -- Its disk failed.
  broke_turn : (how : HowItFailed) (given : Reply) → IsRewritten d e stopped s t (Broke how) → Settles which (side t b tr) y (Broke how) given → TurnOf given
  broke_turn how given (mv, stops) (given_is, parted) = record {
    choice = Fails 0 f;
    may = touches;
    reply = ap told reply_is ∙ ap Ok (sym given_is);
    network = ap (λ (o : Option Failure). (called_unless i (checkpoint own false) o (course_from n)).network) fails ∙ ap (λ (m : Manager). failed_at i (checkpoint m false) n) me
        ∙ ap (λ (o : Made). failed_at i o n) same ∙ broke_so which s t b tr d e (rewriting s) f mv ∙ parted.network which;
    sent = ap (λ (o : Option Failure). (called_unless i (checkpoint own false) o (course_from n)).sent) fails;
    counted = subst (λ (o : Option Failure). CountsGo (counts_at which x) (counts_at which y) (called_unless i (checkpoint own false) o (course_from n)).written) (sym fails)
        (counts_quiet which x y (stored_count parted.own ∙ mv.counted ∙ sym (none_more (records_of s))) parted.beside);
    held = λ held. stored_held e t y.own parted.own (mv.held held);
    beside = parted.beside;
    faults = subst (FailsAsAnswered stopped d.faults e.faults) (sym reply_is) (mv.faults, ap failure_of stops);
  }
    where
      f : Failure
      f = failure_of how

      same : checkpoint (seated s) false ≡ rewriting s
      same = ap (checkpoint (seated s)) (sym (near_of s (is_far_on s) refl (mv.fails_where refl)))

      touches : (checkpoint own false).touches ≡ true
      touches = ap (λ (m : Manager). (checkpoint m false).touches) me ∙ ap (λ (o : Made). o.touches) same ∙ mv.fails_where refl

      fails : failure_in (Fails 0 f) (checkpoint own false) ≡ Some f
      fails = ap (λ (c : Bool). cond c (Some f) None) touches

      reply_is : (answers (Fails 0 f)).reply ≡ network.DiskFailed f
      reply_is = ap (λ (o : Option Failure). option_map_or network.DiskFailed o (network.Checkpointed (checkpoint own false).answer)) fails

  -- whether it went well or the disk failed
  pub rewrite_turn : (called : Called) (given : Reply) → IsRewritten d e stopped s t called → Settles which (side t b tr) y called given → IsRewriteTurn which x y d e stopped given
  rewrite_turn (Told said recorded) given (mv, is_told, none) (given_is, noted) = record {
    turn = told_turn said recorded given mv is_told none given_is noted (is_down (seated s)) (is_far_on s) refl refl;
    far = far_told s given (is_told ∙ ap Ok (sym given_is));
  }
  rewrite_turn (Broke how) given (mv, stops) (given_is, parted) = record {
    turn = broke_turn how given (mv, stops) (given_is, parted);
    far = far_broke s (failure_of how) given (mv.fails_where refl) given_is;
  }
