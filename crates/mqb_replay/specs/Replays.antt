-- What becomes of the input of a replay.
use Rattle.std.specs.Prelude.{[], ◌++◌, ◌<◌, ◌∷◌, ◌≡◌, ◌≤◌, ◌⊎◌, Err, IfSome, List, Ok, Option}
use Rattle.std.specs.Prelude.{Result, length, ℕ}
use Rattle.mqb_forms.specs.declared.faults.LineKind.{LineKind}
use Rattle.mqb_outside.specs.Faults.{Rose}
use Rattle.mqb_outside.specs.Told.{Gave, Took}
use Rattle.mqb_world.specs.mqb_runs.Runs.{Played}
use Rattle.mqb_world.specs.mqb_runs.Texts.{reply_lines, text_of}
use Rattle.mqb_script.specs.Reading.{LONGEST, MOST_LINES, line_count}
use Rattle.mqb_script.specs.Script.{script_of}
use Rattle.mqb_script.specs.declared.events.Event.{Event}
use Rattle.mqb_commands.specs.Outputs.{TookFront}
use Rattle.mqb_commands.specs.Texts.{fault_text}
use Rattle.mqb_world.specs.Making as making
use Rattle.mqb_world.specs.Worlds.{WorldState}
use Rattle.mqb_replay.specs.Devices.{Devices, IsUncalled}
use Rattle.mqb_replay.specs.Faults.{fault_status}
use Rattle.mqb_replay.specs.Plays.{HasPlayed, IsFull, IsPlayed, IsShort}
use Rattle.mqb_replay.specs.declared.faults.ReplayFault.{ReplayFault}
use Rattle.mqb_replay.specs.declared.faults.ReplayFault.TheVariants as fault

-- The input.

-- where it is told what is left of it, nothing is
abbrev pub IsAtEnd : Option (List ℕ) → Type 0
IsAtEnd rest = IfSome rest (λ left. left ≡ [])

-- A text is a script within the limits, and was read to its end.
pub record IsScript (text : List ℕ) (rest : Option (List ℕ))
    (lines : List (ℕ × Event)) : Type 0 where
  pub short : length text ≤ LONGEST
  pub few_lines : line_count text ≤ MOST_LINES
  pub script : script_of text ≡ Ok lines
  pub ended : IsAtEnd rest

-- It is none: this is the first line that fails, and what is wrong with it.
pub record IsNoScript (text : List ℕ) (rest : Option (List ℕ)) (line : ℕ)
    (kind : LineKind) : Type 0 where
  pub short : length text ≤ LONGEST
  pub few_lines : line_count text ≤ MOST_LINES
  pub script : script_of text ≡ Err (line, kind)
  pub ended : IsAtEnd rest

-- it has too many lines
abbrev pub HasManyLines : List ℕ → Option (List ℕ) → Type 0
HasManyLines text rest = (length text ≤ LONGEST) × (MOST_LINES < line_count text) × IsAtEnd rest

-- The devices.

-- both disks are empty
abbrev pub AreEmpty : Devices → Type 0
AreEmpty b = making.IsEmpty b.alpha × making.IsEmpty b.beta

-- one of the disks has bytes
abbrev pub HasBytes : Devices → Type 0
HasBytes b = making.HasBytes b.alpha ⊎ making.HasBytes b.beta

-- the count of faults of one of the disks rose
abbrev pub HasFailed : Devices → Devices → Type 0
HasFailed b a = Rose b.alpha.faults a.alpha.faults ⊎ Rose b.beta.faults a.beta.faults

-- The output.

-- what is to be written of a run, by the lines of the script that are left behind it: its replies,
-- and where none is left, what the managers hold
abbrev pub text_before : List (ℕ × Event) → List Played → List ℕ
text_before [] run = text_of run
text_before (line ∷ rest) run = reply_lines run

-- The replies of a run were written, or all but the last one.
pub record TookReplies (run : List Played) (before after : Option (List ℕ)) : Type 0 where
  pub told : List Played
  pub untold : List Played
  pub split : run ≡ told ++ untold
  pub at_most_one : length untold ≤ 1
  pub took : Took before after (reply_lines told)

-- A script was played whole, and the whole text of its run was written.
abbrev pub IsDone : List (ℕ × Event) → Devices → Devices → (before after : Option (List ℕ)) → Type 0
IsDone lines b a before after =
    (played : IsPlayed lines b a) × Took before after (text_of played.run)

-- A packet did not fit, and the lines of the replies before were written.
abbrev pub IsNetFull : List (ℕ × Event) → Devices → Devices → (before after : Option (List ℕ))
    → Type 0
IsNetFull lines b a before after =
    (full : IsFull lines b a) × Took before after (reply_lines full.run)

-- The output failed behind a run of the first lines, and a front of its text was written.
pub record IsCut (lines : List (ℕ × Event)) (b a : Devices)
    (before after : Option (List ℕ)) : Type 0 where
  pub first : List (ℕ × Event)
  pub rest : List (ℕ × Event)
  pub split : lines ≡ first ++ rest
  pub played : IsPlayed first b a
  pub written : TookFront before after (text_before rest played.run)

-- Memory ran out behind a run of the first lines.
abbrev pub IsOutOfMemory : List (ℕ × Event) → Devices → Devices → (before after : Option (List ℕ))
    → Type 0
IsOutOfMemory lines b a before after =
    (short : IsShort lines b a) × TookReplies short.run before after

-- what becomes of devices, before and after, and of an output, and how that ends
abbrev pub Play : Type 1
Play =
    Devices → Devices → Option (List ℕ) → Option (List ℕ) → Result (Unit {0}) ReplayFault → Type 0

-- What becomes of the lines of a script over two new managers.
abbrev pub PlaysLines : List (ℕ × Event) → WorldState → Play
PlaysLines lines w b a before after (Ok done) = HasPlayed lines w b a before after
PlaysLines lines w b a before after (Err fault.WriteFault) = IsCut lines b a before after
PlaysLines lines w b a before after (Err fault.NetFull) = IsNetFull lines b a before after
PlaysLines lines w b a before after (Err fault.Memory) = IsOutOfMemory lines b a before after
PlaysLines lines w b a before after (Err _) = ⊥

-- And of the script whole.
abbrev pub PlaysWhole : List (ℕ × Event) → Play
PlaysWhole lines b a before after (Ok done) = IsDone lines b a before after
PlaysWhole lines b a before after (Err fault.WriteFault) = IsCut lines b a before after
PlaysWhole lines b a before after (Err fault.NetFull) = IsNetFull lines b a before after
PlaysWhole lines b a before after (Err fault.Memory) = IsOutOfMemory lines b a before after
PlaysWhole lines b a before after (Err _) = ⊥

-- Before anything is played.

-- Nothing was done: the devices are as they were, and nothing was written.
pub record IsUntouched (b a : Devices) (before after : Option (List ℕ)) : Type 0 where
  pub strings : a.strings ≡ b.strings
  pub alpha : IsUncalled b.alpha a.alpha
  pub beta : IsUncalled b.beta a.beta
  pub output : after ≡ before

-- Nothing was played: nothing was sent or written, no disk was armed or started again, and where
-- one has bytes both were only read.
pub record IsUnplayed (b a : Devices) (before after : Option (List ℕ)) : Type 0 where
  pub strings : a.strings ≡ b.strings
  pub alpha_switch : a.alpha.switch ≡ b.alpha.switch
  pub beta_switch : a.beta.switch ≡ b.beta.switch
  pub kept : making.KeepBytes b.alpha a.alpha b.beta a.beta
  pub output : after ≡ before

-- A play begins over two managers that are made on empty disks, and this becomes of it. Where a
-- disk has bytes, or fails while they are made, nothing is played.
abbrev pub Begins : Play → Play
Begins plays b a before after (Err fault.NotEmpty) = HasBytes b × IsUnplayed b a before after
Begins plays b a before after (Err fault.DiskFault) = HasFailed b a × IsUnplayed b a before after
Begins plays b a before after (Err fault.Memory) =
    AreEmpty b × (IsUnplayed b a before after ⊎ plays b a before after (Err fault.Memory))
Begins plays b a before after r = AreEmpty b × plays b a before after r

-- The whole replay.

-- a script was read, and this became of it
abbrev pub EndsPlay : List ℕ → Option (List ℕ) → Play
EndsPlay text rest b a before after r = (lines : List (ℕ × Event)) × IsScript text rest lines
    × Begins (PlaysWhole lines) b a before after r

-- How a replay ends before the line of a fault is written. Where its input was not read to its end,
-- or is no script, nothing was done.
abbrev pub Ends : List ℕ → Option (List ℕ) → Play
Ends text rest b a before after (Err (fault.Script line kind)) =
    IsNoScript text rest line kind × IsUntouched b a before after
Ends text rest b a before after (Err fault.TooLong) =
    (LONGEST < length text) × IsUntouched b a before after
Ends text rest b a before after (Err fault.TooManyLines) =
    HasManyLines text rest × IsUntouched b a before after
Ends text rest b a before after (Err fault.ReadFault) =
    (length text ≤ LONGEST) × IsUntouched b a before after
Ends text rest b a before after (Err fault.Memory) =
    ((length text ≤ LONGEST) × IsUntouched b a before after)
    ⊎ EndsPlay text rest b a before after (Err fault.Memory)
Ends text rest b a before after r = EndsPlay text rest b a before after r

-- what was read of an input, and how it ended
abbrev pub EndsSo : (held rest : Option (List ℕ)) → Play
EndsSo held rest b a before after r =
    (text : List ℕ) × Gave held rest text × Ends text rest b a before after r

-- The line of a fault was written, and the replay ended so. Or the output failed in it; or
-- memory ran out before it.
abbrev pub TellsLine : ReplayFault → (before after : Option (List ℕ))
    → Result (Unit {0}) ReplayFault → Type 0
TellsLine why before after r = ((r ≡ Err why) × Took before after (fault_text (fault_status why)))
    ⊎ ((r ≡ Err fault.WriteFault) × TookFront before after (fault_text (fault_status why)))
    ⊎ ((r ≡ Err fault.Memory) × (after ≡ before))

-- How a replay ended is told by the line of its fault, where it has one.
abbrev pub Tells : (end : Result (Unit {0}) ReplayFault) → (before after : Option (List ℕ))
    → Result (Unit {0}) ReplayFault → Type 0
Tells (Ok done) before after r = (r ≡ Ok done) × (after ≡ before)
Tells (Err fault.WriteFault) before after r = (r ≡ Err fault.WriteFault) × (after ≡ before)
Tells (Err fault.Memory) before after r = (r ≡ Err fault.Memory) × (after ≡ before)
Tells (Err why) before after r = TellsLine why before after r

-- A replay: what the input held and holds, the devices before and after it, what the output had
-- taken and has taken, and how it ends.
pub record Replays (held rest : Option (List ℕ)) (b a : Devices) (before after : Option (List ℕ))
    (r : Result (Unit {0}) ReplayFault) : Type 0 where
  -- what was taken before the line of a fault
  pub taken : Option (List ℕ)
  pub end : Result (Unit {0}) ReplayFault
  pub ends : EndsSo held rest b a before taken end
  pub told : Tells end taken after r
