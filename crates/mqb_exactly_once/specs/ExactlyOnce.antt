use Rattle.std.specs.Prelude.{◌≡◌, suc, ◌<◌, IsTrue, IsFalse, List, [], ◌∷◌, ⊤, ◌⊎◌}
use Rattle.mqb_base.specs.declared.ids.SequenceId.{SequenceId}
use Rattle.mqb_base.specs.declared.message.Message.{Message}
use Rattle.mqb_exactly_once.specs.Outcomes.{is_late}
use Rattle.mqb_exactly_once.specs.World.{Position, Commitment, Expiry, Decision}
use Rattle.mqb_exactly_once.specs.World.{Transfer, StreamWorld}
use Rattle.mqb_exactly_once.specs.Words.{In, precedes, position_of, is_committed, is_expired}
use Rattle.mqb_exactly_once.specs.Words.{is_decided, kept, count, due}
use Rattle.mqb_exactly_once.specs.Steps.{EarlierAcknowledged}

-- the messages of each sequence are numbered 1, 2, and so on
abbrev pub IsNumbered : List Commitment → Type 0
IsNumbered [] = ⊤
IsNumbered (c ∷ cs) = (c.position.number ≡ suc (count cs c.position.sequence)) × IsNumbered cs

-- the positions rise strictly, from the last member to the first
abbrev pub Rises : {A : Type 0} → (A → Position) → List A → Type 0
Rises position [] = ⊤
Rises {A} position (x ∷ xs) =
    ((y : A) → In y xs → IsTrue (precedes (position y) (position x))) × Rises position xs

-- no two are of one position
abbrev pub Differ : List Expiry → Type 0
Differ [] = ⊤
Differ (e ∷ es) = IsFalse (is_expired es e.position) × Differ es

-- the same in every field but the time to reach the queue
abbrev pub SameButReach : Message → Message → Type 0
SameButReach a b = b ≡ record a { reach = b.reach }

-- What a channel keeps, whatever is lost, repeated and reordered, and whenever a connection ends
-- or a manager crashes.
pub record ExactlyOnce (w : StreamWorld) : Type 0 where
  -- The messages of each sequence are numbered 1, 2, and so on.
  pub numbered : IsNumbered w.committed
  -- They are committed in the order of their positions: one sequence after another.
  pub committed_in_order : Rises (λ c. c.position) w.committed
  -- They are decided in this order, each once: numbers rise strictly, and nothing of a sequence is
  -- decided once something of a later one is.
  pub decided_in_order : Rises (λ d. d.position) w.decided
  -- What is decided was committed, and it is the same message in every field but the
  -- time to reach its queue.
  pub decided_committed : (d : Decision) → In d w.decided
      → (c : Commitment) × In c w.committed × (c.position ≡ d.position)
      × SameButReach c.message d.message
  -- None is skipped: what was committed before a message that is decided was itself
  -- decided, or it expired.
  pub none_skipped : (p q : Position) → IsTrue (is_committed w.committed p)
      → IsTrue (is_decided w.decided q) → IsTrue (precedes p q)
      → IsTrue (is_decided w.decided p) ⊎ IsTrue (is_expired w.expired p)
  -- What expired was due at that moment.
  pub expired_due : (e : Expiry) → In e w.expired
      → (c : Commitment) × In c w.committed × (c.position ≡ e.position)
      × IsTrue (due c.message e.moment)
  -- It was never decided.
  pub expired_undecided : (p : Position) → IsTrue (is_expired w.expired p)
      → IsFalse (is_decided w.decided p)
  -- It expired once.
  pub expired_once : Differ w.expired
  -- A message is refused as too late exactly where it was due when the packet that
  -- brought it was sent.
  pub late_was_due : (d : Decision) → In d w.decided
      → (c : Commitment) × (t : Transfer) × In c w.committed × (c.position ≡ d.position)
      × In t w.transfers × (position_of t.head ≡ d.position) × (t.message ≡ d.message)
      × (is_late d.outcome ≡ due c.message t.sent_at)
  -- What is neither decided nor expired waits above the acknowledged mark of its sequence.
  pub waiting : (p : Position) → IsTrue (kept w p) → IsFalse (is_decided w.decided p)
      → w.acknowledged p.sequence < p.number
  -- Sequences are begun in order: nothing of one is offered before each kept message of the earlier
  -- ones is acknowledged.
  pub begun_in_order : (s : SequenceId) → 0 < w.offered s → EarlierAcknowledged w s
