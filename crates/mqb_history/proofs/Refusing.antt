-- A manager that is down refuses each call.
use Rattle.std.proofs.Common.{refl, ap, ◌∙◌}
use Rattle.std.specs.Prelude.{◌≡◌, not, true}
use Rattle.mqb_model.specs.calls.Call as calls
use Rattle.mqb_model.specs.managers.Beside.{beside_done}
use Rattle.mqb_model.specs.managers.Manager.{Manager, is_down}
use Rattle.mqb_model.specs.managers.Outcomes.{Outcome, recorded, state_after}
use Rattle.mqb_model.specs.calls.Call.{Answer, Asks, Call, Checkpoint, Hear, Pump, Resend, outcome_of}
use Rattle.mqb_history.proofs.Requests.{IsIdle, refused_first, request_laws}

pub down_is_idle : (m : Manager) (call : Call) → is_down m ≡ true → IsIdle (outcome_of m call)
down_is_idle m (Asks given) e = (request_laws m given).idle e
down_is_idle m Resend e = record { touches = refl; entry = refl; beside = refl; packets = refl }
down_is_idle m Checkpoint e = record { touches = ap not e; entry = refl; beside = refl; packets = refl }
down_is_idle m (Pump now) e = refused_first calls.Pumped m (is_down m) _ _ _ e
down_is_idle m (Hear now p) e = refused_first calls.Heard m (is_down m) _ _ _ e

idle_state : (m : Manager) (outcome : Outcome Answer) → IsIdle outcome → state_after m outcome ≡ m.state
idle_state m outcome h = ap (λ b. beside_done b (recorded m.state outcome.entry)) h.beside ∙ ap (λ r. recorded m.state r) h.entry

pub down_changes_nothing : (m : Manager) (call : Call) → is_down m ≡ true → state_after m (outcome_of m call) ≡ m.state
down_changes_nothing m call e = idle_state m (outcome_of m call) (down_is_idle m call e)
