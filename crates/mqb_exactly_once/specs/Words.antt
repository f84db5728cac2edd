use Rattle.std.specs.Prelude.{◌≡◌, ℕ, zero, suc, ◌⊎◌, Bool, not, ◌==◌, ◌&&◌, ◌||◌, nat_lt, List, []}
use Rattle.std.specs.Prelude.{◌∷◌, Option, Some, None, option_map, if◌then◌else◌}
use Rattle.std.specs.List.{list_any}
use Rattle.mqb_base.specs.declared.heads.TxHead.{TxHead}
use Rattle.mqb_base.specs.declared.ids.SequenceId.{SequenceId}
use Rattle.mqb_base.specs.declared.message.Message.{Message}
use Rattle.mqb_base.specs.Sequences.{same_sequence, earlier}
use Rattle.mqb_base.specs.Times.{remaining, is_due}
use Rattle.mqb_orders.specs.declared.rows.InRow.{InRow}
use Rattle.mqb_exactly_once.specs.World.{Channel, Position, Commitment, Expiry}
use Rattle.mqb_exactly_once.specs.World.{Decision, StreamWorld}

-- x is a member of a list
abbrev pub In : {A : Type 0} → A → List A → Type 0
In x [] = ⊥
In x (y ∷ ys) = (y ≡ x) ⊎ In x ys

abbrev pub same_position : Position → Position → Bool
same_position p q = same_sequence p.sequence q.sequence && p.number == q.number

-- p stands before q: in an earlier sequence, or in the same one under a smaller number
abbrev pub precedes : Position → Position → Bool
precedes p q = earlier p.sequence q.sequence
    || (same_sequence p.sequence q.sequence && nat_lt p.number q.number)

-- where a packet's message stands
abbrev pub position_of : TxHead → Position
position_of head = record { sequence = head.sequence; number = head.number }

abbrev pub is_committed : List Commitment → Position → Bool
is_committed committed p = list_any (λ c. same_position c.position p) committed

abbrev pub is_expired : List Expiry → Position → Bool
is_expired expired p = list_any (λ e. same_position e.position p) expired

abbrev pub is_decided : List Decision → Position → Bool
is_decided decided p = list_any (λ d. same_position d.position p) decided

-- it was committed, and did not expire
abbrev pub is_kept : List Commitment → List Expiry → Position → Bool
is_kept committed expired p = is_committed committed p && not (is_expired expired p)

abbrev pub kept : StreamWorld → Position → Bool
kept w p = is_kept w.committed w.expired p

-- how many messages were committed to a sequence
abbrev pub count : List Commitment → SequenceId → ℕ
count [] s = 0
count (c ∷ cs) s = if same_sequence c.position.sequence s then suc (count cs s) else count cs s

-- the greatest kept number of a sequence below n, or 0
abbrev pub before : List Commitment → List Expiry → SequenceId → ℕ → ℕ
before committed expired s zero = 0
before committed expired s (suc n) =
    if is_kept committed expired (record { sequence = s; number = n }) then n
    else before committed expired s n

abbrev pub previous : StreamWorld → SequenceId → ℕ → ℕ
previous w s n = before w.committed w.expired s n

-- the number of a sequence that was decided last, or 0
abbrev pub last : List Decision → SequenceId → ℕ
last [] s = 0
last (d ∷ ds) s = if same_sequence d.position.sequence s then d.position.number else last ds s

-- what was decided last of all sequences
abbrev pub newest : List Decision → Option Position
newest [] = None
newest (d ∷ ds) = Some d.position

-- the destination's row, which is there once something was decided
abbrev pub row : Channel → List Decision → Option InRow
row channel decided = option_map
    (λ p. record {
      source = channel.source;
      destination = channel.destination;
      sequence = p.sequence;
      last = p.number;
    })
    (newest decided)

-- a message's time to reach its queue is over
abbrev pub due : Message → ℕ → Bool
due m now = is_due m.sent m.reach now

-- a message as it is sent at a moment, with the time that is left of its time to reach its queue
abbrev pub carried : Message → ℕ → Message
carried m now = record m { reach = remaining m.sent m.reach now }
