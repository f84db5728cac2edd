-- A valid state stays valid by each record that was read and fits.
use Rattle.std.specs.Prelude.{IfSome, None, Option, Some}
use Rattle.mqb_model.specs.laws.Keeping.{AppliedIsValid, KeptIsValid}
use Rattle.mqb_model.specs.managers.Valid.{IsWritable}
use Rattle.mqb_model.specs.managers.Manager.{doubt_of}
use Rattle.mqb_model.specs.managers.Outcomes.{recorded}
use Rattle.mqb_model.specs.records.Record as entry
use Rattle.mqb_model.specs.records.Record.{Record}
use Rattle.mqb_model.specs.state.State.{State}
use Rattle.mqb_model.specs.state.Valid.{IsValidState}
use Rattle.mqb_model.proofs.Accepting.{sent_is_valid}
use Rattle.mqb_model.proofs.Adding.{added_peer_is_valid, made_queue_is_valid}
use Rattle.mqb_model.proofs.Arriving.{arrived_is_valid}
use Rattle.mqb_model.proofs.Committing.{commit_is_valid}
use Rattle.mqb_model.proofs.Departing.{purged_is_valid, taken_is_valid, ticked_is_valid}
use Rattle.mqb_model.proofs.Offering.{offered_is_valid}
use Rattle.mqb_model.proofs.Standing.{set_is_valid}
use Rattle.mqb_model.proofs.Validity.{restarted_is_valid}

pub applied_is_valid : AppliedIsValid
applied_is_valid s (entry.Identity identity) v told f = v
applied_is_valid s (entry.Peer peer) v told f = added_peer_is_valid s peer v told f
applied_is_valid s (entry.CreateQueue number plan) v told f = made_queue_is_valid s number plan v f
applied_is_valid s (entry.Commit now ops) v told f = commit_is_valid s now ops v told f
applied_is_valid s (entry.Plain now p) v told f = sent_is_valid s now p v told f
applied_is_valid s (entry.Offered marks) v told f = offered_is_valid s marks v f
applied_is_valid s (entry.Arrived now numbers part) v told f = arrived_is_valid s now numbers part v told f
applied_is_valid s (entry.Taken now at id) v told f = taken_is_valid s now at id v
applied_is_valid s (entry.Purged now at) v told f = purged_is_valid s now at v
applied_is_valid s (entry.Ticked now) v told f = ticked_is_valid s now v
applied_is_valid s (entry.Set setting) v told f = set_is_valid s setting v f

recorded_valid : (s : State) (o : Option Record) → IsValidState s → IfSome o (IsWritable s) → IsValidState (recorded s o)
recorded_valid s None v w = v
recorded_valid s (Some r) v w = applied_is_valid s r v w.read w.fits

pub kept_is_valid : KeptIsValid
kept_is_valid m v = restarted_is_valid (recorded m.state (doubt_of m.condition)) (recorded_valid m.state (doubt_of m.condition) v.state v.doubt)
