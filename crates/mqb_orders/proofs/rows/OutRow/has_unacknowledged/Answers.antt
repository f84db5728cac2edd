use Rattle.std.proofs.Common.{◌≡◌, ◌-◌, suc, List, ℕ, arith, sym}
use Rattle.mqb_orders.specs.declared.kept.Kept.{Kept}
use Rattle.mqb_orders.proofs.Halves.{any_is_last}
use Rattle.mqb_orders.proofs.rows.OutRow.has_unacknowledged.Goals as goal

pub returns-in_default : goal.returns-in_default
returns-in_default c =
    sym (any_is_last c.args.self.now.acked c.args.self.now.kept.items (c.len.result - 1) c.get.result.now c.get.ensures.rises
    (omega (arith, c.in_default, c.len.ensures.len)) c.get.ensures.kept)
