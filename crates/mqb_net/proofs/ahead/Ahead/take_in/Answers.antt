use Rattle.std.proofs.Common.{◌≤◌, ℕ, subst}
use Rattle.mqb_net.proofs.Pieces.{behind_left}
use Rattle.mqb_net.proofs.ahead.Ahead.take_in.Goals as goal

pub returns-clause-same : goal.returns-clause-same
returns-clause-same g c = behind_left _ _ _ _ _ _ _ (subst (λ (k : ℕ). c.tidy.new.self.at ≤ k) c.tidy.new.self.bytes.ok.0 c.tidy.new.self.within) c.tidy.ensures.same c.hear_behind.ensures.front c.hear_behind.ensures.gave
