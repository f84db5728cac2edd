-- What holds of what a request comes to, from which the laws of calls follow.
use Rattle.std.proofs.Common.{ap, refl}
use Rattle.std.specs.Prelude.{◌≡◌, Bool, Err, List, None, Ok, Option, Result, Some, cond, false, true, ℕ}
use Rattle.mqb_base.specs.declared.draft.Op.{Op}
use Rattle.mqb_model.specs.calls.Call as answer
use Rattle.mqb_model.specs.calls.Call.{Commit, CreateQueue, Purge, Request, Send, Set, Take, Tick, answered, down_answer, requested}
use Rattle.mqb_model.specs.calls.Commit.{Trial, commit, commit_tried, ops_refusal, trial_of, try_ops, whole_refusal}
use Rattle.mqb_model.specs.calls.CreateQueue.{create_queue, create_refusal}
use Rattle.mqb_model.specs.calls.Purge.{purge}
use Rattle.mqb_model.specs.calls.Send.{send}
use Rattle.mqb_model.specs.calls.SetRoll.{set_to, store_refusal}
use Rattle.mqb_model.specs.calls.Take.{take_message}
use Rattle.mqb_model.specs.calls.Tick.{tick}
use Rattle.mqb_model.specs.declared.faults.CommitFault.{CommitFault}
use Rattle.mqb_model.specs.laws.Durable.{LeavesStore}
use Rattle.mqb_model.specs.laws.Fitting.{HasDrafts, IsAsRead, IsDraftedRequest, IsDraftedSend, IsFitting, IsSettable, IsSpelled}
use Rattle.mqb_model.specs.laws.Refusals.{IsWholeRequest}
use Rattle.mqb_model.specs.managers.Manager.{Manager, is_down}
use Rattle.mqb_model.specs.managers.Outcomes.{Outcome, answering, recording, succeeded, unless}
use Rattle.mqb_model.specs.managers.Valid.{IsValidManager}
use Rattle.mqb_model.specs.records.Carrying.{IsRead}
use Rattle.mqb_model.specs.records.Counting.{IsSpellable}
use Rattle.mqb_model.specs.records.Peer.{next_queue}
use Rattle.mqb_model.specs.records.Record as entry
use Rattle.mqb_model.specs.records.Record.{Record}
use Rattle.mqb_model.proofs.Calling.{queue_valid, setting_valid}
use Rattle.mqb_model.proofs.Entered.{purge_has, take_has, tick_has, unless_has}
use Rattle.mqb_model.proofs.Fitting.{purge_fits, queue_goes, send_goes, set_fits, take_fits, tick_fits}
use Rattle.mqb_model.proofs.Refusals.{committed_whole, created_whole, purged_whole, request_whole, sent_whole, setting_whole, taken_whole, ticked_whole}
use Rattle.mqb_model.proofs.Spelling.{commit_spelled, send_spelled}
use Rattle.mqb_model.proofs.Succeeding.{IsKept}
use Rattle.mqb_model.proofs.Telling.{commit_read, send_read}
use Rattle.mqb_model.proofs.Transacting.{commit_goes}
use Rattle.mqb_model.proofs.Working.{commit_kept, purge_kept, send_kept, take_kept, tick_kept}

-- what is refused first
pub refused : {V E : Type 0} (m : Manager) (b : Bool) (f : E) (rest : Option E) (outcome : Outcome (Result V E)) → b ≡ true → unless m (cond b (Some f) rest) outcome ≡ answering m (Err f)
refused m true f rest outcome down = refl
refused m false f rest outcome down = absurd (let none : ⊥ = cc in none)

-- nothing is done beside a record alone
pub record_leaves : {V E : Type 0} (m : Manager) (refusal : Option E) (r : Record) (answer : Result V E) → LeavesStore m (unless m refusal (recording m r answer))
record_leaves m (Some fault) r answer = refl
record_leaves m None r answer = refl

-- a transaction does nothing beside its record
commit_leaves : (m : Manager) (ops : List Op) (now : ℕ) → LeavesStore m (commit m ops now)
commit_leaves m ops now = at (ops_refusal m ops) (try_ops now 0 (trial_of m.state) ops)
  where
    at : (refusal : Option CommitFault) (r : Result Trial CommitFault) → LeavesStore m (unless m refusal (commit_tried m now r))
    at (Some fault) r = refl
    at None (Err why) = refl
    at None (Ok t) = record_leaves m (whole_refusal t) (entry.Commit now t.ops) (Ok t.done)

-- what the laws of calls say of a request
pub record RequestLaws (m : Manager) (given : Request) : Type 0 where
  pub whole : IsWholeRequest m (requested m given)
  pub down : is_down m ≡ true → requested m given ≡ answering m (down_answer given)
  pub fits : IsSettable given → IsFitting m (requested m given)
  pub spelled : IsSettable given → IsSpelled (requested m given)
  pub read : HasDrafts given → IsAsRead (requested m given)
  pub valid : IsValidManager m → IsDraftedRequest given → IsValidManager (succeeded m (requested m given))
  pub leaves : IsValidManager m → IsDraftedSend given → LeavesStore m (requested m given)

-- they hold of each
pub request_laws : (m : Manager) (given : Request) → RequestLaws m given
request_laws m (CreateQueue plan) = record {
  whole = request_whole m answer.Created (create_queue m plan) (λ r. refl) (created_whole m plan);
  down = λ d. ap (answered answer.Created) (refused m _ _ _ _ d);
  fits = λ s. queue_goes m plan;
  spelled = λ s. unless_has IsSpellable m (create_refusal m plan) (recording m (entry.CreateQueue (next_queue m.state) plan) (Ok (next_queue m.state))) tt;
  read = λ d. unless_has IsRead m (create_refusal m plan) (recording m (entry.CreateQueue (next_queue m.state) plan) (Ok (next_queue m.state))) tt;
  valid = λ v d. queue_valid m plan v;
  leaves = λ v d. record_leaves m (create_refusal m plan) (entry.CreateQueue (next_queue m.state) plan) (Ok (next_queue m.state));
}
request_laws m (Set setting) = record {
  whole = request_whole m answer.WasSet (set_to m setting) (λ r. refl) (setting_whole m setting);
  down = λ d. ap (answered answer.WasSet) (refused m _ _ _ _ d);
  fits = set_fits m setting;
  spelled = unless_has IsSpellable m (store_refusal m) (recording m (entry.Set setting) (Ok tt));
  read = λ d. unless_has IsRead m (store_refusal m) (recording m (entry.Set setting) (Ok tt)) tt;
  valid = λ v d. setting_valid m setting d v;
  leaves = λ v d. record_leaves m (store_refusal m) (entry.Set setting) (Ok tt);
}
request_laws m (Commit now ops) = record {
  whole = request_whole m answer.Committed (commit m ops now) (λ r. refl) (committed_whole m ops now);
  down = λ d. ap (answered answer.Committed) (refused m _ _ _ _ d);
  fits = λ s. commit_goes m ops now;
  spelled = λ s. commit_spelled m ops now;
  read = commit_read m ops now;
  valid = λ v d. (commit_kept m ops now v (record { fits = commit_goes m ops now; read = commit_read m ops now d })).valid;
  leaves = λ v d. commit_leaves m ops now;
}
request_laws m (Send now recoverable p) = record {
  whole = request_whole m answer.Sent (send m p recoverable now) (λ r. refl) (sent_whole m p recoverable now);
  down = λ d. ap (answered answer.Sent) (refused m _ _ _ _ d);
  fits = λ s. send_goes m p recoverable now;
  spelled = λ s. send_spelled m p recoverable now;
  read = send_read m p recoverable now;
  valid = λ v d. (kept v d).valid;
  leaves = λ v d. (kept v d).volatile;
}
  where
    kept : IsValidManager m → IsDraftedSend (Send now recoverable p) → IsKept m (send m p recoverable now)
    kept v d = send_kept m p recoverable now d v (record { fits = send_goes m p recoverable now; read = send_read m p recoverable now d })
request_laws m (Take now place) = record {
  whole = request_whole m answer.Took (take_message m place now) (λ r. refl) (taken_whole m place now);
  down = λ d. ap (answered answer.Took) (refused m _ _ _ _ d);
  fits = λ s. take_fits m place now;
  spelled = λ s. take_has IsSpellable m place now (λ at id. tt);
  read = λ d. read;
  valid = λ v d. (take_kept m place now v (record { fits = take_fits m place now; read = read })).valid;
  leaves = λ v d. (take_kept m place now v (record { fits = take_fits m place now; read = read })).volatile;
}
  where
    read : IsAsRead (take_message m place now)
    read = take_has IsRead m place now (λ at id. tt)
request_laws m (Purge now place) = record {
  whole = request_whole m answer.Purged (purge m place now) (λ r. refl) (purged_whole m place now);
  down = λ d. ap (answered answer.Purged) (refused m _ _ _ _ d);
  fits = λ s. purge_fits m place now;
  spelled = λ s. purge_has IsSpellable m place now (λ at. tt);
  read = λ d. read;
  valid = λ v d. (purge_kept m place now v (record { fits = purge_fits m place now; read = read })).valid;
  leaves = λ v d. (purge_kept m place now v (record { fits = purge_fits m place now; read = read })).volatile;
}
  where
    read : IsAsRead (purge m place now)
    read = purge_has IsRead m place now (λ at. tt)
request_laws m (Tick now) = record {
  whole = request_whole m answer.Ticked (tick m now) (λ r. refl) (ticked_whole m now);
  down = λ d. ap (answered answer.Ticked) (refused m _ _ _ _ d);
  fits = λ s. tick_fits m now;
  spelled = λ s. tick_has IsSpellable m now tt;
  read = λ d. read;
  valid = λ v d. (tick_kept m now v (record { fits = tick_fits m now; read = read })).valid;
  leaves = λ v d. (tick_kept m now v (record { fits = tick_fits m now; read = read })).volatile;
}
  where
    read : IsAsRead (tick m now)
    read = tick_has IsRead m now tt
