-- Deeds, one after another.
use Rattle.std.proofs.Common.{ap, refl, subst, sym, ◌∙◌}
use Rattle.std.specs.List.{AllByRecursion}
use Rattle.std.specs.Option.{option_map_or}
use Rattle.std.specs.Prelude.{[], ◌++◌, ◌∷◌, ◌≡◌, Bool, IfSome, List, None, Option, Some, false, if◌then◌else◌, true, ℕ}
use Rattle.mqb_base.specs.declared.message.Message.{Message}
use Rattle.mqb_base.specs.declared.ids.Guid.{Guid}
use Rattle.mqb_base.specs.declared.queue_names.QueueName.{QueueName}
use Rattle.mqb_base.specs.declared.queue_names.QueueName.TheVariants.{Direct, Private, Public}
use Rattle.mqb_base.specs.declared.queues.EntryPlace.TheVariants as place
use Rattle.mqb_plain.specs.Plain.{PlainLists}
use Rattle.mqb_model.specs.calls.Messages.{message_for}
use Rattle.mqb_model.specs.declared.target.Target.{Target}
use Rattle.mqb_model.specs.declared.target.Target.TheVariants.{AtPeer}
use Rattle.mqb_model.specs.managers.Manager.{Condition, Down, Manager, Up, doubt_of, is_down}
use Rattle.mqb_model.specs.managers.Outcomes.{Outcome, failed, succeeded}
use Rattle.mqb_model.specs.managers.Restarts.{restarted}
use Rattle.mqb_model.specs.records.Packets.{packet_to}
use Rattle.mqb_model.specs.records.Record.{Record, RecordOp}
use Rattle.mqb_model.specs.records.Record as entry
use Rattle.mqb_model.specs.state.Resolving.{guid_at, resolved}
use Rattle.mqb_model.specs.state.State.{State}
use Rattle.mqb_packet.specs.declared.packet.UserPacket.{UserPacket}
use Rattle.mqb_worker.specs.Laws.{AnswersTaken, Calls, Connects, Course, Deed, EachTakenIsAnswered, End, Failing, IsWork, OnlyStepsTake, Restarts, Steps, TakesNothing, Wanting, Well, Written, after_deed, after_deeds, beginning, called, connected, ended, found, joined, reply_ops, takes_from, written_of}
use Rattle.mqb_worker.specs.Steps.{stepped}
use Rattle.mqb_worker.specs.Work.{reply_to}
use Rattle.mqb_worker.proofs.Works.{step_works}

all_then : (P : Written → Type 0) (xs ys : List Written) → AllByRecursion P xs → AllByRecursion P ys → AllByRecursion P (xs ++ ys)
all_then P [] ys first second = second
all_then P (x ∷ xs) ys first second = (first.0, all_then P xs ys first.1 second)

-- No record of a worker looks at the messages for peers.

module _ (s : State) (ps : List PlainLists) where
  abbrev other : State
  other = record s { plain = ps }

  resolved_same : (to : QueueName) → resolved other to ≡ resolved s to
  resolved_same (Public guid false) = refl
  resolved_same (Private qm number false) = refl
  resolved_same (Direct host queue false) = refl
  resolved_same to = refl

  guid_same : (target : Target) → guid_at other target ≡ guid_at s target
  guid_same (AtPeer k) = refl
  guid_same target = refl

  abbrev with_guid : UserPacket → Guid → UserPacket
  with_guid p guid = record p { to = guid }

  packet_same : (to : QueueName) (m : Message) → packet_to other (resolved other to) m ≡ packet_to s (resolved s to) m
  packet_same to m =
      ap (λ (target : Target). packet_to other target m) (resolved_same to)
      ∙ ap (with_guid (packet_to s (resolved s to) m)) (guid_same (resolved s to))

  ops_same : (h : List ℕ → List ℕ) (now : ℕ) (m : Message) → reply_ops other h now m ≡ reply_ops s h now m
  ops_same h now m = by m.response
    where
      by : (o : Option QueueName) → option_map_or (λ to. entry.Send (packet_to other (resolved other to) (message_for other now (reply_to h m to))) ∷ []) o []
          ≡ option_map_or (λ to. entry.Send (packet_to s (resolved s to) (message_for s now (reply_to h m to))) ∷ []) o []
      by None = refl
      by (Some to) = ap (λ (p : UserPacket). entry.Send p ∷ []) (packet_same to (message_for s now (reply_to h m to)))

  takes_same : (name : List ℕ) (r : Record) → takes_from other name r ≡ takes_from s name r
  takes_same name (entry.Commit now ops) = refl
  takes_same name (entry.Taken now (place.Queue queue) id) = refl
  takes_same name r = refl

  work_same : (name : List ℕ) (h : List ℕ → List ℕ) (r : Record) → IsWork name h s r → IsWork name h other r
  work_same name h r work = record {
    now = work.now;
    number = work.number;
    message = work.message;
    queue = work.queue;
    first = work.first;
    work = work.work ∙ ap (λ (ops : List RecordOp). entry.Commit work.now (entry.Take work.number work.message.id ∷ ops)) (sym (ops_same h work.now work.message));
  }

module _ (name : List ℕ) (h : List ℕ → List ℕ) where
  -- in a state a record is a worker's, where it takes from the queue
  abbrev IsRight : State → Record → Type 0
  IsRight s r = takes_from s name r ≡ true → IsWork name h s r

  -- so are all that the store got, and the one in doubt
  record AreRight (c : Course) : Type 0 where
    written : AllByRecursion (AnswersTaken name h) c.written
    doubt : IfSome (doubt_of c.manager.condition) (IsRight c.manager.state)

  one_right : (m : Manager) (r : Option Record) → IfSome r (IsRight m.state) → AllByRecursion (AnswersTaken name h) (written_of m r)
  one_right m None right = tt
  one_right m (Some r) right = (right, tt)

  joined_right : (c : Course) (r : Option Record) (after : Manager) → AreRight c → IfSome r (IsRight c.manager.state)
      → IfSome (doubt_of after.condition) (IsRight after.state) → AreRight (joined c r after)
  joined_right c r after right one doubt = record {
    written = all_then (AnswersTaken name h) c.written (written_of c.manager r) right.written (one_right c.manager r one);
    doubt = doubt;
  }

  -- a manager that is up has nothing in doubt
  no_doubt : (condition : Condition) (P : Record → Type 0) → elim condition [ Up ↦ false | Down doubt ↦ true ] ≡ false → IfSome (doubt_of condition) P
  no_doubt Up P up = tt
  no_doubt (Down doubt) P up = let none : ⊥ = cc in absurd none

  ended_right : {A : Type 0} (c : Course) (o : Outcome A) (end : End) → is_down c.manager ≡ false → AreRight c → IfSome o.entry (IsRight c.manager.state) → AreRight (ended c o end)
  ended_right c o Well up right one = joined_right c o.entry (succeeded c.manager o) right one (no_doubt c.manager.condition (IsRight (succeeded c.manager o).state) up)
  ended_right c o Wanting up right one = right
  ended_right c o Failing up right one = joined_right c None (failed c.manager o) right tt one

  called_right : {A : Type 0} (c : Course) (o : Outcome A) (end : End) → AreRight c → IfSome o.entry (IsRight c.manager.state) → AreRight (called c o end)
  called_right c o end right one = by (is_down c.manager) refl
    where
      by : (b : Bool) → is_down c.manager ≡ b → AreRight (if b then c else ended c o end)
      by true down = right
      by false up = ended_right c o end up right one

  -- a step is right whatever it takes
  step_right : (c : Course) (o : Option Record) → IfSome o (IsWork name h c.manager.state) → IfSome o (IsRight c.manager.state)
  step_right c None work = tt
  step_right c (Some r) work = λ takes. work

  -- and another call takes nothing
  call_right : (c : Course) (o : Option Record) → IfSome o (λ r. takes_from c.manager.state name r ≡ false) → IfSome o (IsRight c.manager.state)
  call_right c None nothing = tt
  call_right c (Some r) nothing = λ takes. let none : ⊥ = cc in absurd none

  found_right : (c : Course) (kept : Bool) → AreRight c → IfSome (found c.manager kept) (IsRight c.manager.state)
  found_right c true right = right.doubt
  found_right c false right = tt

  connected_right : (s : State) (ps : List PlainLists) (o : Option Record) → IfSome o (IsRight s) → IfSome o (IsRight (record s { plain = ps }))
  connected_right s ps None right = tt
  connected_right s ps (Some r) right = λ takes. work_same s ps name h r (right (sym (takes_same s ps name r) ∙ takes))

  deed_right : (c : Course) (deed : Deed) → AreRight c → TakesNothing name c.manager deed → AreRight (after_deed name h c deed)
  deed_right c (Steps now end) right nothing =
      called_right c (stepped c.manager name h now) end right (step_right c (stepped c.manager name h now).entry (step_works name h c.manager now))
  deed_right c (Calls o end) right nothing = called_right c o end right (call_right c o.entry nothing)
  deed_right c (Connects plain rest) right nothing = joined_right c None (connected c.manager plain rest) right tt (connected_right c.manager.state plain (doubt_of c.manager.condition) right.doubt)
  deed_right c (Restarts kept) right nothing = joined_right c (found c.manager kept) (restarted c.manager kept) right (found_right c kept right) tt

  deeds_right : (c : Course) (deeds : List Deed) → AreRight c → OnlyStepsTake name h c deeds → AreRight (after_deeds name h c deeds)
  deeds_right c [] right only = right
  deeds_right c (deed ∷ deeds) right only = deeds_right (after_deed name h c deed) deeds (deed_right c deed right only.0) only.1

  begun_right : (m : Manager) → doubt_of m.condition ≡ None → AreRight (beginning m)
  begun_right m none = record { written = tt; doubt = subst (λ (o : Option Record). IfSome o (IsRight m.state)) (sym none) tt }

pub each_taken_is_answered : EachTakenIsAnswered
each_taken_is_answered = record {
  steps = step_works;
  taken = λ name h m deeds none only. (deeds_right name h (beginning m) deeds (begun_right name h m none) only).written;
}
