use Rattle.std.specs.Prelude.{◌≡◌, ℕ, ◌<◌, ◌≤◌, ◌⊎◌, IsTrue, List}
use Rattle.mqb_base.specs.declared.ids.SequenceId.{SequenceId}
use Rattle.mqb_exactly_once.specs.Outcomes.{Follows}
use Rattle.mqb_exactly_once.specs.World.{Commitment, Expiry, Decision, KnownFate, Transfer}
use Rattle.mqb_exactly_once.specs.World.{OrderAck, FinalAck, StreamWorld}
use Rattle.mqb_exactly_once.specs.Words.{In, position_of, is_kept, kept, previous, last, carried}

-- 0, or a kept number of a sequence
abbrev pub IsMark : StreamWorld → SequenceId → ℕ → Type 0
IsMark w s n = (n ≡ 0) ⊎ IsTrue (kept w (record { sequence = s; number = n }))

-- the marks of a sequence
pub record MarksStand (w : StreamWorld) (s : SequenceId) : Type 0 where
  pub acknowledged : IsMark w s (w.acknowledged s)
  pub decided : IsMark w s (last w.decided s)
  pub offered : IsMark w s (w.offered s)
  pub acknowledged_was_decided : w.acknowledged s ≤ last w.decided s
  pub decided_was_offered : last w.decided s ≤ w.offered s

-- a packet carries a kept message that was offered, with the number that stands before it
pub record IsTruthful (w : StreamWorld) (t : Transfer) : Type 0 where
  pub kept : IsTrue (kept w (position_of t.head))
  pub offered : t.head.number ≤ w.offered t.head.sequence
  pub previous : t.head.previous ≡ previous w t.head.sequence t.head.number
  pub message : (c : Commitment) × In c w.committed × (c.position ≡ position_of t.head)
      × (t.message ≡ carried c.message t.sent_at)

-- what the destination acknowledged is kept, and no greater than what it decided
-- last of that sequence
pub record IsAcknowledgement (w : StreamWorld) (a : OrderAck) : Type 0 where
  pub kept : IsTrue (kept w a.position)
  pub decided : a.position.number ≤ last w.decided a.position.sequence

-- a fate follows from what was decided
abbrev pub IsFate : StreamWorld → KnownFate → Type 0
IsFate w f = (d : Decision) × In d w.decided × (d.position ≡ f.position) × Follows d.outcome f.fate

-- what the source is told is a fate that the destination knows
abbrev pub IsTold : StreamWorld → FinalAck → Type 0
IsTold w a = In (record { position = a.position; fate = a.fate }) w.fates

-- m is the greatest kept number of a sequence below n, or 0 where there is none
pub record IsGreatestKept (committed : List Commitment) (expired : List Expiry) (s : SequenceId)
    (n m : ℕ) : Type 0 where
  pub member : (m ≡ 0)
      ⊎ ((m < n) × IsTrue (is_kept committed expired (record { sequence = s; number = m })))
  pub greatest : (k : ℕ) → k < n
      → IsTrue (is_kept committed expired (record { sequence = s; number = k })) → k ≤ m
