-- What is noted of the packets that were sent to a peer.
use Rattle.std.specs.Prelude.{IsNone, IsSome, IsSomeAnd, slice_get, ℕ}
use Rattle.mqb_base.specs.declared.heads.SessionHead.{SessionHead}
use Rattle.mqb_plain.specs.Lists.{first_unsent}
use Rattle.mqb_plain.specs.Plain.{MaySend}
use Rattle.mqb_model.specs.managers.Beside.{OfExpress, OfRecoverable, Origin}
use Rattle.mqb_model.specs.managers.Beside as beside
use Rattle.mqb_model.specs.state.State.{State}
use Rattle.mqb_timeouts.specs.declared.noting.Origin as code
use Rattle.mqb_timeouts.specs.declared.noting.Origin.TheVariants as from

-- where it came from
abbrev pub origin_of : code.Origin → Origin
origin_of (from.Owed row) = beside.Owed row
origin_of from.OfRecoverable = OfRecoverable
origin_of from.OfExpress = OfExpress
origin_of (from.OfRow row number) = beside.OfRow row number

-- A plain message that was sent is the next for its peer, recoverable ones before express ones, and
-- its number is above those that its list has.
abbrev pub CanNote : ℕ → SessionHead → State → Origin → Type 0
CanNote peer head s OfRecoverable =
    IsSomeAnd (slice_get s.plain peer) (λ p. IsSome (first_unsent p.recoverable) × MaySend p head)
CanNote peer head s OfExpress =
    IsSomeAnd (slice_get s.plain peer) (λ p. IsNone (first_unsent p.recoverable) × MaySend p head)
CanNote peer head s _ = Unit {0}
