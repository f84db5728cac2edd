-- What is told of a disk that failed.
use Rattle.std.specs.List.{filter_map}
use Rattle.std.specs.Option.{option_map_or}
use Rattle.std.specs.Prelude.{[], ◌==◌, ◌∷◌, ◌≡◌, Bool, List, None, Option, Some, false}
use Rattle.std.specs.Prelude.{if◌then◌else◌, ℕ}
use Rattle.mqb_network.specs.Choices as choice
use Rattle.mqb_network.specs.Choices.{Failure}
use Rattle.mqb_network.specs.Network.{Network, Note}
use Rattle.mqb_outside.specs.Faults.{Rose}
use Rattle.mqb_queue.specs.Places.{numbered}
use Rattle.mqb_turns.specs.mqb_seats.Called.{failure_of, how_by}
use Rattle.mqb_transcript.specs.declared.arrivals.Arrival.{Arrival}
use Rattle.mqb_transcript.specs.declared.arrivals.Outcome.{Outcome}
use Rattle.mqb_transcript.specs.declared.arrivals.Outcome.TheVariants as outcome
use Rattle.mqb_transcript.specs.declared.replies.Reply.{Reply}
use Rattle.mqb_transcript.specs.declared.replies.Reply.TheVariants as reply

-- how the receiver's disk failed under a packet
abbrev pub failure_told : Outcome → Option Failure
failure_told outcome.Stopped = Some choice.Stopped
failure_told outcome.Failed = Some choice.Failed
failure_told _ = None

-- the packet of a number is for the manager at an index
abbrev pub is_for : List Note → ℕ → ℕ → Bool
is_for notes i k = option_map_or (λ note. note.receiver == i) (numbered notes k) false

-- how that manager's disk failed under a packet
abbrev pub failure_at : List Note → ℕ → Arrival → Option Failure
failure_at notes i a = if is_for notes i a.packet then failure_told a.outcome else None

-- and under packets that were delivered in turn
abbrev pub failures_at : List Note → ℕ → List Arrival → List Failure
failures_at notes i arrivals = filter_map (failure_at notes i) arrivals

-- the packet that was delivered, where there was one
abbrev pub arrived : ℕ → Option Outcome → List Arrival
arrived k None = []
arrived k (Some o) = record { packet = k; outcome = o } ∷ []

-- How the disk of the manager at an index failed in a flow of a manager: in its pump,
-- or under its packets.
abbrev pub failures_in : List Note → (pumping at : ℕ) → Reply → List Failure
failures_in notes pumping at (reply.Flowed arrivals) = failures_at notes at arrivals
failures_in notes pumping at reply.Stopped = if pumping == at then choice.Stopped ∷ [] else []
failures_in notes pumping at reply.Failed = if pumping == at then choice.Failed ∷ [] else []
failures_in notes pumping at _ = []

-- A disk failed as often as is told, which is once at most, and says whether it stopped.
abbrev pub FailsAs : List Failure → Bool → (before after : ℕ) → Type 0
FailsAs [] stopped before after = after ≡ before
FailsAs (how ∷ []) stopped before after = Rose before after × (how ≡ failure_of (how_by stopped))
FailsAs _ stopped before after = ⊥

-- no connection stands behind a disk that failed
abbrev pub CutBehind : List Failure → Network → Type 0
CutBehind [] n = Unit {0}
CutBehind (how ∷ hows) n = n.connections ≡ []
