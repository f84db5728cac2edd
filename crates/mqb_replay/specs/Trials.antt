-- What becomes of a script that is made and replayed for its ledger.
use Rattle.std.specs.Fmt.{decimal}
use Rattle.std.specs.Prelude.{◌++◌, ◌≡◌, ◌⊎◌, Bool, Err, List, Ok, Option, Result, codes, count_by}
use Rattle.std.specs.Prelude.{false, length, true, ℕ}
use Rattle.mqb_base.specs.declared.ledger.Line.{Line}
use Rattle.mqb_base.specs.declared.ledger.Line.TheVariants as line
use Rattle.mqb_outside.specs.Told.{Took}
use Rattle.mqb_world.specs.mqb_runs.Runs.{course_of}
use Rattle.mqb_script.specs.Script.{script_of}
use Rattle.mqb_script.specs.declared.events.Event.{Event}
use Rattle.mqb_commands.specs.Outputs.{TookFront}
use Rattle.mqb_transcript.specs.Generator.{generated}
use Rattle.mqb_replay.specs.Devices.{Devices}
use Rattle.mqb_replay.specs.Plays.{IsFull, IsPlayed, IsShort}
use Rattle.mqb_replay.specs.Replays.{Begins, IsUntouched, Play, Tells}
use Rattle.mqb_replay.specs.declared.faults.ReplayFault.{ReplayFault}
use Rattle.mqb_replay.specs.declared.trials.Tally.{Tally}
use Rattle.mqb_replay.specs.declared.trials.Tally.TheVariants.{Committed, Expired, Put, Refused}
use Rattle.mqb_replay.specs.declared.faults.ReplayFault.TheVariants as fault

-- a line of a ledger is counted
abbrev pub is_counted : Tally → Line → Bool
is_counted Committed (line.Committed stream number id) = true
is_counted Put (line.Put stream number id) = true
is_counted Refused (line.Refused stream number class id) = true
is_counted Expired (line.Expired stream number id moment) = true
is_counted tally l = false

unfoldable pub word_of : Tally → List ℕ
word_of Committed = codes " committed "
word_of Put = codes " put "
word_of Refused = codes " refused "
word_of Expired = codes " expired "

-- how many lines of a ledger are
unfoldable pub counted_text : Tally → List Line → List ℕ
counted_text tally ledger = word_of tally ++ decimal (count_by (is_counted tally) ledger)

-- How many lines a script has, none of which is skipped, and of how many messages a ledger says
-- that they were committed, put, refused and expired.
unfoldable pub trial_text : ℕ → List Line → List ℕ
trial_text lines ledger = codes "lines " ++ decimal lines ++ counted_text Committed ledger
    ++ counted_text Put ledger ++ counted_text Refused ledger ++ counted_text Expired ledger
    ++ codes "\n"

-- what is written of a run of these lines
abbrev pub tried_text : (lines : List (ℕ × Event)) (b a : Devices) → IsPlayed lines b a → List ℕ
tried_text lines b a played = trial_text (length lines) (course_of played.run).network.ledger

-- What becomes of the lines of a script that is tried over two new managers.
abbrev pub TriesLines : List (ℕ × Event) → Play
TriesLines lines b a before after (Ok done) =
    (played : IsPlayed lines b a) × Took before after (tried_text lines b a played)
TriesLines lines b a before after (Err fault.WriteFault) =
    (played : IsPlayed lines b a) × TookFront before after (tried_text lines b a played)
TriesLines lines b a before after (Err fault.NetFull) = IsFull lines b a × (after ≡ before)
TriesLines lines b a before after (Err fault.Memory) = IsShort lines b a × (after ≡ before)
TriesLines lines b a before after (Err _) = ⊥

-- the script of n orders was made, and this became of its lines
abbrev pub EndsTry : ℕ → Play
EndsTry n b a before after r = (lines : List (ℕ × Event)) × (script_of (generated n) ≡ Ok lines)
    × Begins (TriesLines lines) b a before after r

-- How a trial of n orders ends before the line of a fault is written. Where memory runs out while
-- its script is made, nothing was done.
abbrev pub EndsTrial : ℕ → Play
EndsTrial n b a before after (Err fault.Memory) =
    IsUntouched b a before after ⊎ EndsTry n b a before after (Err fault.Memory)
EndsTrial n b a before after r = EndsTry n b a before after r

-- A trial of n orders.
pub record Tries (n : ℕ) (b a : Devices) (before after : Option (List ℕ))
    (r : Result (Unit {0}) ReplayFault) : Type 0 where
  -- what was taken before the line of a fault
  pub taken : Option (List ℕ)
  pub end : Result (Unit {0}) ReplayFault
  pub ends : EndsTrial n b a before taken end
  pub told : Tells end taken after r
