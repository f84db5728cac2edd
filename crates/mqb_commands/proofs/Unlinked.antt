-- Calls of a manager that serves no connection leave it so.
use Rattle.std.proofs.Common.{◌≡◌, ◌⊎◌, Bool, Option, None, Result, Some, Ok, Err, ap, inl, inr, refl, true, false, ◌∙◌, ℕ}
use Rattle.std.specs.Option.{option_map_or}
use Rattle.mqb_answers.specs.Outcomes.{outcome_of}
use Rattle.mqb_answers.specs.Calls.{IsTold}
use Rattle.mqb_answers.specs.declared.told.CallEnd.{CallEnd}
use Rattle.mqb_answers.specs.declared.told.Told.{Told}
use Rattle.mqb_base.specs.declared.message.Lane.TheVariants as lane
use Rattle.mqb_journal.specs.States.{is_too_far}
use Rattle.mqb_journal.specs.declared.faults.CheckpointFault.{CheckpointFault}
use Rattle.mqb_answers.specs.mqb_manager.Calls.{Ends, FailsUnder, Succeeds}
use Rattle.mqb_answers.specs.mqb_manager.Checkpoints.{EndsCheckpoint, checkpoint_of}
use Rattle.mqb_answers.specs.mqb_manager.States.{IsSame, ManagerState, manager_of}
use Rattle.mqb_model.specs.calls.AddPeer.{add_peer_refusal}
use Rattle.mqb_model.specs.calls.Commit.{Trial, commit_tried, ops_refusal, trial_of, try_ops, whole_refusal}
use Rattle.mqb_model.specs.calls.CreateQueue.{create_refusal}
use Rattle.mqb_model.specs.calls.Messages.{plain_message}
use Rattle.mqb_model.specs.calls.Purge.{purge_at, purge_refusal}
use Rattle.mqb_model.specs.calls.Send.{send_refusal}
use Rattle.mqb_model.specs.calls.SetRoll.{store_refusal}
use Rattle.mqb_model.specs.calls.Take.{first_in, take_at, take_position, take_refusal, taking}
use Rattle.mqb_model.specs.declared.faults.CommitFault.{CommitFault}
use Rattle.mqb_model.specs.managers.Manager.{Manager}
use Rattle.mqb_model.specs.managers.Outcomes.{Outcome, unless}
use Rattle.mqb_model.specs.rules.Takes.{message_at}
use Rattle.mqb_queue.specs.Places.{lists_at, place_named}
use Rattle.mqb_answers.specs.mqb_replies.declared.faults.AnswerFault.{AnswerFault}
use Rattle.mqb_answers.specs.mqb_replies.declared.faults.AnswerFault.TheVariants as fault
use Rattle.mqb_store_laws.specs.Checkpoints.{checkpoint_refusal}
use Rattle.mqb_words.specs.declared.commands.Call.{Call}
use Rattle.mqb_words.specs.declared.commands.Call.TheVariants as call

-- What a call comes to leaves what is known of a connection.

abbrev Leaves : {A : Type 0} → Manager → Outcome A → Type 0
Leaves m o = o.rest ≡ m.rest

unless_leaves : {V E : Type 0} (m : Manager) (refused : Option E) (o : Outcome (Result V E)) → Leaves m o → Leaves m (unless m refused o)
unless_leaves m (Some why) o same = refl
unless_leaves m None o same = same

one_leaves : {X A : Type 0} (m : Manager) (f : X → Outcome A) (found : Option X) (other : Outcome A) → ((x : X) → Leaves m (f x)) → Leaves m other
    → Leaves m (option_map_or f found other)
one_leaves m f (Some x) other each same = each x
one_leaves m f None other each same = same

tried_leaves : (m : Manager) (now : ℕ) (tried : Result Trial CommitFault) → Leaves m (commit_tried m now tried)
tried_leaves m now (Err why) = refl
tried_leaves m now (Ok t) = unless_leaves m (whole_refusal t) _ refl

calls_leave : (asked : Call) (m : Manager) (now : ℕ) → (outcome_of asked m now).rest ≡ m.rest
calls_leave (call.AddPeer peer) m now = unless_leaves m (add_peer_refusal m peer) _ refl
calls_leave (call.CreateQueue plan) m now = unless_leaves m (create_refusal m plan) _ refl
calls_leave (call.Send true draft) m now = unless_leaves m (send_refusal m true (plain_message m.state true now draft)) _ refl
calls_leave (call.Send false draft) m now = unless_leaves m (send_refusal m false (plain_message m.state false now draft)) _ refl
calls_leave (call.Commit ops) m now = unless_leaves m (ops_refusal m ops) _ (tried_leaves m now (try_ops now 0 (trial_of m.state) ops))
calls_leave (call.Take place) m now = unless_leaves m (take_refusal m) _
    (one_leaves m (take_at m now) (place_named m.state.places.queues place) _ (λ at.
    one_leaves m (take_position m at now) (first_in m.state at now) _ (λ p.
    one_leaves m (taking m at now p.lane p.index) (message_at p.lane m.state at p.index) _ (taken at p.lane p.index) refl) refl) refl)
  where
    taken : (at : _) (which : _) (k : ℕ) (message : _) → Leaves m (taking m at now which k message)
    taken at lane.Durable k message = refl
    taken at lane.Express k message = refl
calls_leave (call.Purge place) m now = unless_leaves m (purge_refusal m) _
    (one_leaves m (purge_at m now) (place_named m.state.places.queues place) _ (λ at.
    one_leaves m _ (lists_at m.state.places at) _ (λ held. refl) refl) refl)
calls_leave call.Tick m now = unless_leaves m (store_refusal m) _ refl
calls_leave (call.SetRoll count) m now = unless_leaves m (store_refusal m) _ refl

checkpoints_leave : (m : ManagerState) → (checkpoint_of m).rest ≡ (manager_of m).rest
checkpoints_leave m = unless_leaves (manager_of m) (checkpoint_refusal (manager_of m) (is_too_far m.store.journal)) _ refl

-- So a manager that is not linked stays so, and one that its disk failed has forgotten its connection.

made_unlinked : {A : Type 0} (m n : ManagerState) (o : Outcome A) → o.rest ≡ (manager_of m).rest → Succeeds m n o → m.session ≡ None → n.session ≡ None
made_unlinked m n o leaves made none = ap (λ (k : Manager). k.rest.session) made.manager ∙ ap (λ k. k.session) leaves ∙ none

same_unlinked : (m n : ManagerState) → IsSame m n → m.session ≡ None → n.session ≡ None
same_unlinked m n same none = ap (λ (k : Manager). k.rest.session) same.manager ∙ none

pub told_unlinked : (asked : Call) (now : ℕ) (m n : ManagerState) (answer : Result Told AnswerFault)
    → Ends fault.Memory fault.DiskFault m n (outcome_of asked (manager_of m) now) answer → m.session ≡ None → n.session ≡ None
told_unlinked asked now m n answer (inl went) none = made_unlinked m n (outcome_of asked (manager_of m) now) (calls_leave asked (manager_of m) now) went.1 none
told_unlinked asked now m n answer (inr (inl same)) none = same_unlinked m n same.1 none
told_unlinked asked now m n answer (inr (inr broke)) none = ap (λ (k : Manager). k.rest.session) broke.1.manager

pub checkpoint_unlinked : (m n : ManagerState) (given : Result (Unit {0}) CheckpointFault) → EndsCheckpoint m n given → m.session ≡ None → n.session ≡ None
checkpoint_unlinked m n given (inl went) none = made_unlinked m n (checkpoint_of m) (checkpoints_leave m) went.1 none
checkpoint_unlinked m n given (inr (inl same)) none = same_unlinked m n same.1 none
checkpoint_unlinked m n given (inr (inr broke)) none = ap (λ (k : Manager). k.rest.session) broke.1.manager
