-- What a final acknowledgement does to rows.
use Rattle.std.specs.Prelude.{◌≡◌, ◌≤◌, ◌⊎◌, Some, slice_get, ℕ}
use Rattle.mqb_base.specs.declared.message.Message.{Message}
use Rattle.mqb_exactly_once.specs.Words.{In}
use Rattle.mqb_model.specs.records.Finals.{final_stored}
use Rattle.mqb_model.specs.state.Resolving.{peer_known}
use Rattle.mqb_model.specs.state.State.{State}
use Rattle.mqb_orders.specs.Rows.{Row}
use Rattle.mqb_orders.specs.declared.kept.Kept.{Kept}

-- The row leads to the manager from which an acknowledgement came, and keeps a message that this
-- names and that was offered.
pub record MayBeFinished (s : State) (m : Message) (row : Row) : Type 0 where
  pub leads : peer_known s m.id.qm ≡ Some row.peer
  pub kept : Kept
  pub inside : In kept row.kept
  pub names : kept.message.id ≡ m.correlation
  pub offered : kept.number ≤ row.offered

-- A final acknowledgement leaves each row as it was, or one that it may finish.
abbrev pub FinalsHaveReasons : Type 0
FinalsHaveReasons = (s : State) (m : Message) (k : ℕ) (row : Row) → slice_get s.outs k ≡ Some row
    → (slice_get (final_stored s m).state.outs k ≡ Some row) ⊎ MayBeFinished s m row
