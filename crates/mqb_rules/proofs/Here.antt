-- Whether a name leads to this manager.
use Rattle.std.proofs.Common.{◌≡◌, ℕ, Bool, true, false, if◌then◌else◌, Option, Some, None, refl}
use Rattle.mqb_model.specs.declared.target.Target.TheVariants.{Here}
use Rattle.mqb_model.specs.state.Resolving.{at_peer, is_here}

-- a name that leads here by its host, and to a peer otherwise, leads here where the host is the manager's own
pub here_by_host : (own : Bool) (queue peer : Option ℕ) → is_here (if own then Here queue else at_peer peer) ≡ own
here_by_host true queue peer = refl
here_by_host false queue None = refl
here_by_host false queue (Some k) = refl
