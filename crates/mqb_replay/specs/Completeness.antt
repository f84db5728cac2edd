-- When a replay plays its script whole.
use Rattle.std.specs.Prelude.{[], ◌++◌, ◌≡◌, ◌≤◌, ◌⊎◌, Err, List, Ok, Option, Result, Some, map, ℕ}
use Rattle.mqb_network.specs.Runs.{IsRun, Move, after_run}
use Rattle.mqb_outside.specs.Faults.{Rose}
use Rattle.mqb_outside.specs.Strings.{bytes_in}
use Rattle.mqb_packet.specs.Plain.{plain_spelling}
use Rattle.mqb_posts.specs.declared.posting.TheConstants.{MAX_MEDIUM}
use Rattle.mqb_world.specs.mqb_runs.Events.{event_of}
use Rattle.mqb_world.specs.mqb_runs.Hosts.{hosts}
use Rattle.mqb_script.specs.Script.{script_of}
use Rattle.mqb_script.specs.declared.events.Event.{Event}
use Rattle.mqb_transcript.specs.Generator.{generated}
use Rattle.mqb_replay.specs.Devices.{Devices}
use Rattle.mqb_replay.specs.Replays.{AreEmpty, IsScript}
use Rattle.mqb_replay.specs.declared.faults.ReplayFault.{ReplayFault}
use Rattle.mqb_replay.specs.declared.faults.ReplayFault.TheVariants as fault

-- an input that holds a script within the limits, and nothing else
abbrev pub HoldsScript : Option (List ℕ) → List (ℕ × Event) → Type 0
HoldsScript held lines = (text : List ℕ) × (held ≡ Some text) × IsScript text (Some []) lines

-- moves ask for these lines
abbrev pub AskFor : List Move → List (ℕ × Event) → Type 0
AskFor ms lines = map (λ m. m.event) ms ≡ map (λ line. event_of line.1) lines

-- The packets of each run of the script, and of its first lines, fit the medium.
abbrev pub FitMedium : List (ℕ × Event) → Type 0
FitMedium lines = (first rest : List (ℕ × Event)) (ms : List Move) → lines ≡ first ++ rest
    → AskFor ms first → IsRun hosts ms
    → bytes_in (map plain_spelling (after_run hosts ms).sent) ≤ MAX_MEDIUM

-- It ended as done; or memory ran out; or a disk failed while the stores were made, which is
-- the only end by a disk.
abbrev pub IsDoneOr : Result (Unit {0}) ReplayFault → Type 0
IsDoneOr r = (r ≡ Ok tt) ⊎ (r ≡ Err fault.Memory) ⊎ (r ≡ Err fault.DiskFault)

-- A replay of such a script over empty disks, where neither the input nor the
-- output failed, ends so.
abbrev pub Completes : Option (List ℕ) → Devices → (reads reads_now writes writes_now : ℕ)
    → Result (Unit {0}) ReplayFault → Type 0
Completes held b reads reads_now writes writes_now r =
    (lines : List (ℕ × Event)) → HoldsScript held lines → FitMedium lines → AreEmpty b
    → (Rose reads reads_now → ⊥) → (Rose writes writes_now → ⊥) → IsDoneOr r

-- So does a trial where the output did not fail.
abbrev pub CompletesTrial : ℕ → Devices → (writes writes_now : ℕ) → Result (Unit {0}) ReplayFault
    → Type 0
CompletesTrial n b writes writes_now r =
    (lines : List (ℕ × Event)) → script_of (generated n) ≡ Ok lines → FitMedium lines → AreEmpty b
    → (Rose writes writes_now → ⊥) → IsDoneOr r
