-- Where something holds of all messages that a manager has, it holds of those that a transaction takes.
use Rattle.std.proofs.Common.{refl, subst, sym}
use Rattle.std.specs.List.{AllByRecursion}
use Rattle.std.specs.Option.{option_map_or}
use Rattle.std.specs.Prelude.{[], ◌+◌, ◌++◌, ◌∷◌, ◌≡◌, Bool, Err, IfSome, List, None, Ok, Option, Result, Some, cond, nat_le, false, not, slice_get, true, ℕ}
use Rattle.mqb_base.specs.declared.draft.Op.{Op}
use Rattle.mqb_base.specs.declared.draft.Op.TheVariants as asked
use Rattle.mqb_base.specs.declared.message.Lane.TheVariants as lane
use Rattle.mqb_base.specs.declared.message.Message.{Message}
use Rattle.mqb_base.specs.declared.queues.EntryPlace.TheVariants as place
use Rattle.mqb_fields.specs.Reading.{◌>>=◌}
use Rattle.mqb_model.specs.calls.Commit.{Trial, at_op, commit, commit_tried, first_free, ops_refusal, send_into, send_to, take_first, take_from, take_of, trial_of, try_op, try_ops, whole_refusal, with_joined, with_put, with_take}
use Rattle.mqb_model.specs.calls.Messages.{message_for}
use Rattle.mqb_model.specs.declared.answers.Done.{Done}
use Rattle.mqb_model.specs.declared.answers.Done.TheVariants as done
use Rattle.mqb_model.specs.declared.faults.CommitFault.{CommitFault}
use Rattle.mqb_model.specs.declared.faults.OpFault.{OpFault}
use Rattle.mqb_model.specs.declared.faults.OpFault.TheVariants as fault
use Rattle.mqb_model.specs.declared.target.Target.{Target}
use Rattle.mqb_model.specs.declared.target.Target.TheVariants.{AtPeer, Here, Nowhere}
use Rattle.mqb_model.specs.managers.Manager.{Manager}
use Rattle.mqb_model.specs.managers.Outcomes.{recording, unless}
use Rattle.mqb_model.specs.records.Record as entry
use Rattle.mqb_model.specs.rules.Sequences.{may_join, sequence_for}
use Rattle.mqb_model.specs.state.Resolving.{queue_named, resolved}
use Rattle.mqb_queue.specs.Lists.{count}
use Rattle.mqb_queue.specs.Places.{Queue, numbered}
use Rattle.mqb_history.proofs.Contents.{Holds, InLane, ListsHold, without_holds}
use Rattle.mqb_history.proofs.Having.{QueueHas, get_holds, numbered_holds}
use Rattle.mqb_history.proofs.Lists.{all_append}

module _ (P : Message → Type 0) where
  -- what became of an op
  abbrev pub IsTakenOf : Done → Type 0
  IsTakenOf (done.Took m) = P m
  IsTakenOf _ = Unit {0}

  abbrev pub IfTakes : Result (List Done) CommitFault → Type 0
  IfTakes (Ok ds) = AllByRecursion IsTakenOf ds
  IfTakes (Err why) = Unit {0}

  record IsHeld (t : Trial) : Type 0 where
    pub taking : Holds P t.taking
    pub done : AllByRecursion IsTakenOf t.done

  abbrev IfHeld : {E : Type 0} → Result Trial E → Type 0
  IfHeld (Ok t) = IsHeld t
  IfHeld (Err why) = Unit {0}

  held_or : {X E : Type 0} (f : X → Result Trial E) (o : Option X) (why : E) → IfSome o (λ x. IfHeld (f x)) → IfHeld (option_map_or f o (Err why))
  held_or f None why h = tt
  held_or f (Some x) why h = h

  held_either : {E : Type 0} (b : Bool) (x y : Result Trial E) → IfHeld x → IfHeld y → IfHeld (cond b x y)
  held_either true x y left right = left
  held_either false x y left right = right

  some_follows : {X : Type 0} (A B : X → Type 0) (o : Option X) → ((x : X) → A x → B x) → IfSome o A → IfSome o B
  some_follows A B None f h = tt
  some_follows A B (Some x) f h = f x h

  some_all : {X : Type 0} (B : X → Type 0) (o : Option X) → ((x : X) → B x) → IfSome o B
  some_all B None f = tt
  some_all B (Some x) f = f x

  take_held : (now number : ℕ) (t : Trial) (q : Queue) → QueueHas (ListsHold P) q → IsHeld t → IfHeld (take_from t now number q)
  take_held now number t q g h = held_either q.plan.transactional (take_first t now number q) (Err fault.NotTransactional)
      (held_or (λ k. option_map_or (λ m. Ok (with_take t number k m)) (slice_get q.lists.durable k) (Err fault.QueueEmpty)) (first_free number now q) fault.QueueEmpty
      (some_all _ (first_free number now q) (λ k. held_or (λ m. Ok (with_take t number k m)) (slice_get q.lists.durable k) fault.QueueEmpty
      (some_follows (InLane P lane.Durable) _ (slice_get q.lists.durable k) (λ m p. record {
        taking = without_holds P lane.Durable t.taking (place.Queue number) k h.taking;
        done = all_append IsTakenOf t.done (done.Took m ∷ []) h.done (p.0, tt);
      }) (get_holds (InLane P lane.Durable) q.lists.durable k g.0.0))))) tt

  more_held : (t next : Trial) (what : Done) → next.taking ≡ t.taking → next.done ≡ t.done ++ what ∷ [] → IsTakenOf what → IsHeld t → IsHeld next
  more_held t next what same more fine h = record {
    taking = subst (Holds P) (sym same) h.taking;
    done = subst (AllByRecursion IsTakenOf) (sym more) (all_append IsTakenOf t.done (what ∷ []) h.done (fine, tt));
  }

  send_held : (now : ℕ) (t : Trial) (m : Message) (target : Target) → IsHeld t → IfHeld (send_to t now m target)
  send_held now t m (Here None) h = tt
  send_held now t m (Here (Some number)) h = held_or (send_into t m number) (numbered t.sending.places.queues number) fault.NoQueue (some_all _ (numbered t.sending.places.queues number)
      (λ q. held_either (not q.plan.transactional) (Err fault.NotTransactional) (cond (nat_le q.plan.quota (count q.lists)) (Err fault.QueueFull) (Ok (with_put t number m))) tt
      (held_either (nat_le q.plan.quota (count q.lists)) (Err fault.QueueFull) (Ok (with_put t number m)) tt (more_held t (with_put t number m) (done.Put m.id) refl refl tt h))))
  send_held now t m (AtPeer k) h = held_either (may_join t.sending k m.destination) (Ok (with_joined t now m k (sequence_for t.sending k m.destination now))) (Err fault.SequenceSpent)
      (let row = sequence_for t.sending k m.destination now in more_held t (with_joined t now m k row) (done.Sent m.id row.sequence (row.committed + 1)) refl refl tt h) tt
  send_held now t m Nowhere h = tt

  op_held : (now : ℕ) (t : Trial) (op : Op) → IsHeld t → IfHeld (try_op t now op)
  op_held now t (asked.Take name) h = held_or (take_of t now) (queue_named t.taking name) fault.NoQueue (some_all _ (queue_named t.taking name)
      (λ number. held_or (take_from t now number) (numbered t.taking.places.queues number) fault.NoQueue
      (some_follows (QueueHas (ListsHold P)) _ (numbered t.taking.places.queues number) (λ q g. take_held now number t q g h) (numbered_holds (QueueHas (ListsHold P)) t.taking.places.queues number h.taking.places.queues))))
  op_held now t (asked.Send p) h = send_held now t (message_for t.sending now p) (resolved t.sending p.destination) h

  ops_held : (now index : ℕ) (t : Trial) (ops : List Op) → IsHeld t → IfHeld (try_ops now index t ops)
  ops_held now index t [] h = h
  ops_held now index t (op ∷ rest) h = at (try_op t now op) (op_held now t op h) (λ next g. ops_held now (index + 1) next rest g)
    where
      at : (r : Result Trial OpFault) → IfHeld r → ((next : Trial) → IsHeld next → IfHeld (try_ops now (index + 1) next rest)) → IfHeld (at_op index r >>= λ next. try_ops now (index + 1) next rest)
      at (Ok next) g on = on next g
      at (Err why) g on = tt

  pub commit_takes : (m : Manager) (ops : List Op) (now : ℕ) → Holds P m.state → IfTakes (commit m ops now).answer
  commit_takes m ops now h = by (ops_refusal m ops) (try_ops now 0 (trial_of m.state) ops) (ops_held now 0 (trial_of m.state) ops (record { taking = h; done = tt }))
    where
      tried : (t : Trial) → IsHeld t → (o : Option CommitFault) → IfTakes (unless m o (recording m (entry.Commit now t.ops) (Ok t.done))).answer
      tried t g None = g.done
      tried t g (Some why) = tt

      by : (o : Option CommitFault) (r : Result Trial CommitFault) → IfHeld r → IfTakes (unless m o (commit_tried m now r)).answer
      by (Some why) r g = tt
      by None (Err why) g = tt
      by None (Ok t) g = tried t g (whole_refusal t)
