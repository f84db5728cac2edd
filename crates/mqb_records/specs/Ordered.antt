-- The ordinals of a state are in order.
use Rattle.std.specs.Prelude.{◌<◌, All}
use Rattle.mqb_drafts.specs.Drafts.{OrdinalsRise}
use Rattle.mqb_model.specs.state.State.{State}

-- Ordinals rise from row to row, and the next one is above them.
pub record IsOrdered (s : State) : Type 0 where
  pub rises : OrdinalsRise s
  pub given : All (λ row. row.sequence.ordinal < s.next_ordinal) s.outs
