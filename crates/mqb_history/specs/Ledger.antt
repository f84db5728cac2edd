-- What the ledger says of streams, line by line.
use Rattle.std.specs.List.{range_with_len}
use Rattle.std.specs.Prelude.{◌++◌, ◌<◌, ◌∷◌, ◌≡◌, ◌≤◌, ◌⊎◌, List, None, Option, filter_map}
use Rattle.std.specs.Prelude.{length, ℕ}
use Rattle.mqb_base.specs.declared.class.Class.{Class}
use Rattle.mqb_base.specs.declared.ids.MessageId.{MessageId}
use Rattle.mqb_base.specs.declared.ledger.Line.{Line}
use Rattle.mqb_base.specs.declared.ledger.Line.TheVariants as line
use Rattle.mqb_base.specs.declared.ledger.Stream.{Stream}
use Rattle.mqb_exactly_once.specs.Words.{In}
use Rattle.mqb_exactly_once.specs.World.{Channel, Position}
use Rattle.mqb_network.specs.Laws.{Always, lines_written}
use Rattle.mqb_orders.specs.Streams.{number_committed}
use Rattle.mqb_history.specs.Copies.{sent_in, times}
use Rattle.mqb_history.specs.Decided.{RiseStrictly}
use Rattle.mqb_history.specs.Told.{decisions_told, place_in}

-- a line decides the message of a stream under a number: it is put, or refused
abbrev pub Decides : Stream → ℕ → MessageId → Line → Type 0
Decides s n id l = (l ≡ line.Put s n id) ⊎ ((class : Class) × (l ≡ line.Refused s n class id))

-- where a message of a channel joined its stream
abbrev pub commitment_placed : Channel → Line → Option Position
commitment_placed c (line.Committed stream number id) = place_in c stream number
commitment_placed c _ = None

-- lines have one that decides it
pub record AreDeciding (s : Stream) (n : ℕ) (lines : List Line) : Type 0 where
  pub id : MessageId
  pub line : Line
  pub there : In line lines
  pub decides : Decides s n id line

-- or one by which it expired
pub record AreExpiring (s : Stream) (n : ℕ) (lines : List Line) : Type 0 where
  pub id : MessageId
  pub moment : ℕ
  pub there : In (line.Expired s n id moment) lines

-- What was decided stands before in its stream as committed, with the same number and identifier.
abbrev pub IsCommittedBefore : List Line → Type 0
IsCommittedBefore ledger =
    (before behind : List Line) (l : Line) (s : Stream) (n : ℕ) (id : MessageId)
    → ledger ≡ before ++ l ∷ behind → Decides s n id l → In (line.Committed s n id) before

-- And each number below it was decided before, or expired before.
abbrev pub IsNoneSkipped : List Line → Type 0
IsNoneSkipped ledger =
    (before behind : List Line) (l : Line) (s : Stream) (n m : ℕ) (id : MessageId)
    → ledger ≡ before ++ l ∷ behind → Decides s n id l → 0 < m → m < n
    → AreDeciding s m before ⊎ AreExpiring s m before

-- The ledger tells of each stream that it is exactly once.
pub record IsExactlyOnceTold (ledger : List Line) : Type 0 where
  -- its messages are committed as 1, 2, and so on
  pub numbered : (s : Stream) → filter_map (number_committed s) ledger
      ≡ range_with_len 1 (length (filter_map (number_committed s) ledger))
  -- those to one destination are committed in the order of their positions: one
  -- sequence after another
  pub committed_in_order : (channel : Channel)
      → RiseStrictly (filter_map (commitment_placed channel) ledger)
  -- no two messages that were committed, or put where they were sent, have one identifier
  pub apart : (id : MessageId) → times sent_in id ledger ≤ 1
  -- those of a source and a destination are decided in order, each once, whoever decides them
  pub in_order : (channel : Channel) → RiseStrictly (decisions_told channel ledger)
  pub committed : IsCommittedBefore ledger
  pub none_skipped : IsNoneSkipped ledger
  -- what expired is not decided
  pub expired : (s : Stream) (n : ℕ) → AreExpiring s n ledger → AreDeciding s n ledger → ⊥

-- It does at each point of each run.
abbrev pub AlwaysExactlyOnceTold : Type 0
AlwaysExactlyOnceTold = Always (λ c. IsExactlyOnceTold (lines_written c.written))
