-- One connection that was served, from what the net gave to what it was given back.
use Rattle.std.proofs.Common.{◌≡◌, ℕ, List, [], Option, sym, subst}
use Rattle.std.specs.Prelude.{IfSome}
use Rattle.mqb_commands.specs.Opened.{IsMoment}
use Rattle.mqb_journal.specs.Causes.{FaultsAsSaid}
use Rattle.mqb_manager.specs.States.{ManagerState}
use Rattle.mqb_serve.specs.Talking.{stored_of}
use Rattle.mqb_serving.specs.declared.purpose.Purpose.{Purpose}
use Rattle.mqb_serving.specs.Serving.{Serves, ServesWhole, is_read_fault, is_write_fault}
use Rattle.mqb_connections.specs.Visits.{IsVisit, Visit}

pub is_visit : (asks : Purpose) (steady : Option ℕ) (m : ManagerState) (v : Visit) (held sent : Option (List ℕ)) (r w : ℕ)
    → IsMoment steady v.now → IfSome sent (λ text. text ≡ []) → v.ended.given ≡ held → r ≡ 0 → w ≡ 0
    → Serves asks v.now (stored_of m) (stored_of v.after) held v.ended.held sent v.ended.taken v.end
    → ServesWhole v.end asks v.now (stored_of m) (stored_of v.after) held sent v.ended.taken
    → FaultsAsSaid is_read_fault r v.ended.read_faults v.end → FaultsAsSaid is_write_fault w v.ended.write_faults v.end
    → IsVisit asks steady m v
is_visit asks steady m v held sent r w moment fresh given no_read no_write serves whole reads writes = record {
  moment = moment;
  sent = sent;
  fresh = fresh;
  serves = subst (λ (h : Option (List ℕ)). Serves asks v.now (stored_of m) (stored_of v.after) h v.ended.held sent v.ended.taken v.end) (sym given) serves;
  whole = subst (λ (h : Option (List ℕ)). ServesWhole v.end asks v.now (stored_of m) (stored_of v.after) h sent v.ended.taken) (sym given) whole;
  reads = subst (λ (k : ℕ). FaultsAsSaid is_read_fault k v.ended.read_faults v.end) no_read reads;
  writes = subst (λ (k : ℕ). FaultsAsSaid is_write_fault k v.ended.write_faults v.end) no_write writes;
}
