-- How what was sent is noted in the lists of a peer.
use Rattle.std.specs.Prelude.{[], ◌∷◌, IsNone, IsSome, List}
use Rattle.mqb_base.specs.declared.heads.SessionHead.{SessionHead}
use Rattle.mqb_base.specs.declared.message.Lane.TheVariants as lane
use Rattle.mqb_plain.specs.Lists.{first_unsent}
use Rattle.mqb_plain.specs.Plain.{MaySend, PlainLists}
use Rattle.mqb_model.specs.managers.Beside.{OfExpress, OfRecoverable, Origin, with_marked}

-- A plain message that was sent is the next one, recoverable ones before express ones, and its
-- number is above those that its list has.
abbrev pub IsNextSent : PlainLists → SessionHead → Origin → Type 0
IsNextSent p head OfRecoverable = IsSome (first_unsent p.recoverable) × MaySend p head
IsNextSent p head OfExpress = IsNone (first_unsent p.recoverable) × MaySend p head
IsNextSent p head _ = Unit {0}

-- the lists once it was noted
abbrev pub with_noted : PlainLists → SessionHead → Origin → PlainLists
with_noted p head OfRecoverable = with_marked lane.Durable head.recoverable p
with_noted p head OfExpress = with_marked lane.Express head.user p
with_noted p head _ = p

-- each is that, in its turn
abbrev pub AreNextSent : PlainLists → List (Origin × SessionHead) → Type 0
AreNextSent p [] = Unit {0}
AreNextSent p (given ∷ sent) =
    IsNextSent p given.1 given.0 × AreNextSent (with_noted p given.1 given.0) sent
