-- At which moments packets go.
use Rattle.std.specs.Prelude.{◌≡◌, ◌⊎◌, Bool, List, ℕ}
use Rattle.mqb_base.specs.declared.ids.Identity.{Identity}
use Rattle.mqb_exactly_once.specs.Words.{In}
use Rattle.mqb_network.specs.Doubts.{settled}
use Rattle.mqb_network.specs.Events.{Event}
use Rattle.mqb_network.specs.Events as event
use Rattle.mqb_network.specs.Laws.{AreApart}
use Rattle.mqb_network.specs.Network.{Note}
use Rattle.mqb_network.specs.Runs.{IsRun, Move, after_run}

-- a manager pumps at a moment in an event: by itself, in a flow, or while a connection is set up
abbrev pub PumpsAt : ℕ → ℕ → Event → Type 0
PumpsAt i moment (event.Pump j now) = (j ≡ i) × (now ≡ moment)
PumpsAt i moment (event.Flow j now) = (j ≡ i) × (now ≡ moment)
PumpsAt i moment (event.Connect a b now window_a window_b) = ((a ≡ i) ⊎ (b ≡ i)) × (now ≡ moment)
PumpsAt i moment _ = ⊥

-- an event of these moves does
abbrev pub HasPumped : List Move → ℕ → ℕ → Type 0
HasPumped ms i moment = (m : Move) × In m ms × PumpsAt i moment m.event

-- What is noted of a packet is so: its sender pumped at its moment in an event of the run.
abbrev pub NotesTellPumps : Type 0
NotesTellPumps =
    (known : List Identity) (ms : List Move) → AreApart known → IsRun known ms → (kept : ℕ → Bool)
    → (note : Note) → In note (settled kept (after_run known ms)).network.notes
    → HasPumped ms note.sender note.moment
