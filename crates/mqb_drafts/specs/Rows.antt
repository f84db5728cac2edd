-- The steps in which an outgoing row gets a message, and is acknowledged.
use Rattle.std.specs.Prelude.{[], ◌++◌, ◌+◌, ◌<◌, ◌∷◌, ◌≡◌, ◌≤◌, All, IsSomeAnd, length, slice_get}
use Rattle.std.specs.Prelude.{take, true, ℕ}
use Rattle.mqb_base.specs.Bits.{keeps_dead}
use Rattle.mqb_base.specs.declared.message.Message.{Message}
use Rattle.mqb_contents.specs.Rows.{keeping}
use Rattle.mqb_orders.specs.KeptLists.{released}
use Rattle.mqb_orders.specs.Rows.{Row}
use Rattle.mqb_contents.specs.mqb_model.state.State.{State}

-- one message more was committed in a row
abbrev pub committing : Row → Row
committing row = record row { committed = row.committed + 1 }

-- a row keeps the message that was committed last
abbrev pub keeping_last : Message → Row → Row
keeping_last m row = keeping (row.kept ++ record { number = row.committed; message = m } ∷ []) row

-- all that a row keeps was committed before the last one
abbrev pub LacksLast : Row → Type 0
LacksLast row = All (λ k. k.number < row.committed) row.kept

-- a row keeps what an acknowledgement up to a number leaves
abbrev pub releasing : ℕ → Row → Row
releasing number row = keeping (released number row.kept) row

-- a row was acknowledged up to a number
abbrev pub with_acked : ℕ → Row → Row
with_acked number row = record row { acked = number }

-- What an outgoing row keeps before an index has the dead-letter bit.
abbrev pub StaysBefore : State → ℕ → ℕ → Type 0
StaysBefore s row k = IsSomeAnd (slice_get s.outs row)
    (λ r. (k ≤ length r.kept) × All (λ kept. keeps_dead kept.message ≡ true) (take k r.kept))
