-- The laws of calls: of each request, and of the calls beside them.
use Rattle.std.proofs.Common.{refl}
use Rattle.std.specs.Prelude.{◌≡◌, IfSome, None, Ok, Option, Some, length, true, ℕ}
use Rattle.mqb_model.specs.calls.AddPeer.{add_peer, add_peer_refusal}
use Rattle.mqb_model.specs.calls.Call.{Request, Set, requested}
use Rattle.mqb_model.specs.calls.Link.{link_refusal, linking}
use Rattle.mqb_model.specs.calls.hear.Hear.{hear}
use Rattle.mqb_model.specs.calls.pump.Pump.{pump}
use Rattle.mqb_model.specs.declared.answers.Role.{Role}
use Rattle.mqb_model.specs.declared.faults.LinkFault.{LinkFault}
use Rattle.mqb_model.specs.laws.Durable.{CallsLeaveStore, LeavesStore}
use Rattle.mqb_model.specs.laws.Fitting.{HasDrafts, IsAsRead, IsDraftedRequest, IsFitting, IsSettable, RecordsAreRead, RecordsAreSpelled, RecordsFit}
use Rattle.mqb_model.specs.laws.Keeping.{CallsKeepValid, StaysValid}
use Rattle.mqb_model.specs.laws.Refusals.{RefusalsChangeNothing}
use Rattle.mqb_model.specs.managers.Manager.{Manager}
use Rattle.mqb_model.specs.managers.Outcomes.{Outcome, recording, succeeded, unless}
use Rattle.mqb_model.specs.managers.Valid.{IsValidManager, IsWritable}
use Rattle.mqb_model.specs.records.Applying.{fits}
use Rattle.mqb_model.specs.records.Carrying.{IsRead}
use Rattle.mqb_model.specs.records.Counting.{IsSpellable}
use Rattle.mqb_model.specs.records.Record as entry
use Rattle.mqb_model.specs.records.Record.{Record}
use Rattle.mqb_model.proofs.Calling.{peer_valid}
use Rattle.mqb_model.proofs.Entered.{unless_has}
use Rattle.mqb_model.proofs.Fitting.{peer_goes}
use Rattle.mqb_model.proofs.Heard.{hear_sound}
use Rattle.mqb_model.proofs.Pumping.{pump_sound}
use Rattle.mqb_model.proofs.Refusals.{calls_are_whole}
use Rattle.mqb_model.proofs.Requests.{record_leaves, request_laws}
use Rattle.mqb_model.proofs.Standing.{stands_for}
use Rattle.mqb_model.proofs.Validity.{failed_is_valid}

pub refusals_change_nothing : RefusalsChangeNothing
refusals_change_nothing m = calls_are_whole m (λ given. (request_laws m given).whole)

pub records_fit : RecordsFit
records_fit m = record {
  peers = peer_goes m;
  requests = λ given. (request_laws m given).fits;
  hears = λ v p now r. (hear_sound m p now v r).written.fits;
  pumps = λ v now. (pump_sound m now v).written.fits;
}

pub records_are_spelled : RecordsAreSpelled
records_are_spelled m = record {
  peers = λ peer. unless_has IsSpellable m (add_peer_refusal m peer) (recording m (entry.Peer peer) (Ok (length m.state.peers))) tt;
  requests = λ given. (request_laws m given).spelled;
  hears = λ v p now r. (hear_sound m p now v r).spelled;
  pumps = λ v now. (pump_sound m now v).spelled;
}

pub records_are_read : RecordsAreRead
records_are_read m = record {
  peers = λ peer named. unless_has IsRead m (add_peer_refusal m peer) (recording m (entry.Peer peer) (Ok (length m.state.peers))) named;
  requests = λ given. (request_laws m given).read;
  hears = λ v p now r. (hear_sound m p now v r).written.read;
  pumps = λ v now. (pump_sound m now v).written.read;
}

-- a record that fits and was read may be in doubt
stays : {A : Type 0} (m : Manager) (outcome : Outcome A) → IsValidManager m → IsFitting m outcome → IsAsRead outcome → IsValidManager (succeeded m outcome) → StaysValid m outcome
stays m outcome v f r valid = record { succeeds = valid; fails = failed_is_valid m outcome.entry v (writable outcome.entry f r) }
  where
    writable : (o : Option Record) → IfSome o (λ r. fits m.state r ≡ true) → IfSome o IsRead → IfSome o (IsWritable m.state)
    writable None f r = tt
    writable (Some entry) f r = record { fits = f; read = r }

pub calls_keep_valid : CallsKeepValid
calls_keep_valid m v = let fit = records_fit m in let read = records_are_read m in record {
  peers = λ peer named. stays m (add_peer m peer) v (fit.peers peer) (read.peers peer named) (peer_valid m peer named v);
  requests = λ given d. let law = request_laws m given in
      stays m (requested m given) v (law.fits (settable given d)) (law.read (drafts given d)) (law.valid v d);
  hears = λ p now r. stays m (hear m p now) v (fit.hears v p now r) (read.hears v p now r) (hear_sound m p now v r).kept.valid;
  pumps = λ now. stays m (pump m now) v (fit.pumps v now) (read.pumps v now) (pump_sound m now v).kept.valid;
}
  where
    settable : (given : Request) → IsDraftedRequest given → IsSettable given
    settable (Set setting) d = d
    settable given d = tt

    drafts : (given : Request) → IsDraftedRequest given → HasDrafts given
    drafts (Set setting) d = tt
    drafts given d = d

link_leaves : (m : Manager) (refusal : Option LinkFault) (end : Role) (window : ℕ) → LeavesStore m (unless m refusal (linking m end window))
link_leaves m (Some fault) end window = refl
link_leaves m None end window = refl

pub calls_leave_store : CallsLeaveStore
calls_leave_store m v = record {
  peers = λ peer. record_leaves m (add_peer_refusal m peer) (entry.Peer peer) (Ok (length m.state.peers));
  requests = λ given. (request_laws m given).leaves v;
  links = λ end window. link_leaves m (link_refusal m end window) end window;
  unlinks = stands_for m.state;
  resends = refl;
  hears = λ p now r. (hear_sound m p now v r).kept.volatile;
  pumps = λ now. (pump_sound m now v).kept.volatile;
}
