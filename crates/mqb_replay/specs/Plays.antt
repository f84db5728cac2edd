-- What becomes of the lines of a script that are played.
use Rattle.std.specs.Prelude.{[], ◌++◌, ◌∷◌, ◌≡◌, ◌≤◌, ◌⊎◌, Bool, Err, List, Ok, Option, Result}
use Rattle.std.specs.Prelude.{Some, map, take, ℕ}
use Rattle.mqb_outside.specs.Disk.{Switch, View}
use Rattle.mqb_outside.specs.declared.power.Mode.{Mode}
use Rattle.mqb_world.specs.Seats.{IsHeldOn, SeatState}
use Rattle.mqb_network.specs.Network.{Note, manager_at}
use Rattle.mqb_network.specs.Runs.{Move, beginning}
use Rattle.mqb_outside.specs.Strings.{bytes_in}
use Rattle.mqb_outside.specs.Told.{Took}
use Rattle.mqb_packet.specs.Plain.{plain_spelling}
use Rattle.mqb_posts.specs.Posting.{HasFront, IsCutOff}
use Rattle.mqb_posts.specs.declared.posting.TheConstants.{MAX_MEDIUM}
use Rattle.mqb_world.specs.mqb_runs.Events.{event_of}
use Rattle.mqb_world.specs.mqb_runs.Guarantees.{AlwaysKeepsGuarantees}
use Rattle.mqb_world.specs.mqb_runs.Hosts.{hosts}
use Rattle.mqb_world.specs.mqb_runs.Runs.{IsRunOf, Played, course_of, moves_of}
use Rattle.mqb_world.specs.mqb_runs.Texts.{reply_lines}
use Rattle.mqb_script.specs.declared.events.Event.{Event}
use Rattle.mqb_script.specs.declared.managers.Which.{Which}
use Rattle.mqb_script.specs.declared.managers.Which.TheVariants.{Alpha, Beta}
use Rattle.mqb_commands.specs.Outputs.{TookFront}
use Rattle.mqb_traffic.specs.Networks.{index_of, notes_of}
use Rattle.mqb_transcript.specs.Texts.{printed}
use Rattle.mqb_transcript.specs.declared.replies.Reply.{Reply}
use Rattle.mqb_world.specs.Lasting.{Lasts}
use Rattle.mqb_world.specs.Disks.{FaultsGo, SwitchGoes, failures_told, switching}
use Rattle.mqb_world.specs.Standing.{GoesOn, Stands, strings_in}
use Rattle.mqb_world.specs.Worlds.{WorldState}
use Rattle.mqb_replay.specs.Devices.{Devices}
use Rattle.mqb_replay.specs.Disks.{IsSwitchedBy, RoseBy, StandsBehind, StandsOn, failures}
use Rattle.mqb_replay.specs.declared.faults.ReplayFault.{ReplayFault}
use Rattle.mqb_replay.specs.declared.faults.ReplayFault.TheVariants as fault

-- One line.

-- A text was written; or the output failed in it; or memory ran out before it.
abbrev pub Wrote : (before after : Option (List ℕ)) → List ℕ → Result (Unit {0}) ReplayFault
    → Type 0
Wrote before after text (Ok done) = Took before after text
Wrote before after text (Err fault.WriteFault) = TookFront before after text
Wrote before after text (Err fault.Memory) = after ≡ before
Wrote before after text (Err _) = ⊥

-- what an event that has this reply makes of the disk of a manager
pub record GoesBy (which : Which) (e : Event) (notes : List Note) (given : Reply) (d d_now : View)
    (s : SeatState) : Type 0 where
  pub held : IsHeldOn d_now s
  pub stopped : Bool
  pub faults : FaultsGo e stopped d.faults d_now.faults (failures_told notes which e given)
  pub armed : Option (ℕ × Mode)
  pub switch : SwitchGoes (switching which e) armed d.switch d_now.switch

-- A world answers an event with this reply.
pub record Answers (e : Event) (w : WorldState) (b : Devices) (w_now : WorldState) (a : Devices)
    (given : Reply) : Type 0 where
  pub goes : (ms : List Move) → Stands w b.strings ms → GoesOn ms (event_of e) given w_now a.strings
  pub alpha : GoesBy Alpha e (notes_of w_now.traffic) given b.alpha a.alpha w_now.alpha
  pub beta : GoesBy Beta e (notes_of w_now.traffic) given b.beta a.beta w_now.beta

-- what an event asks of a switch is done, whatever becomes of it
abbrev pub IsSwitched : Which → Event → Switch → Switch → Type 0
IsSwitched which e s t = (armed : Option (ℕ × Mode)) × SwitchGoes (switching which e) armed s t

-- A packet of an event does not fit the medium.
pub record Overflows (e : Event) (w w_now : WorldState) (b a : Devices) : Type 0 where
  pub cut : (ms : List Move) → Stands w b.strings ms
      → IsCutOff b.strings a.strings (strings_in ms (event_of e))
  pub alpha : IsSwitched Alpha e b.alpha.switch a.alpha.switch
  pub beta : IsSwitched Beta e b.beta.switch a.beta.switch
  pub alpha_faults : a.alpha.faults ≡ b.alpha.faults
  pub beta_faults : a.beta.faults ≡ b.beta.faults
  pub alpha_lasts : Lasts b.alpha a.alpha w.alpha w_now.alpha
  pub beta_lasts : Lasts b.beta a.beta w.beta w_now.beta

-- Memory runs out in an event.
pub record RunsOut (e : Event) (w w_now : WorldState) (b a : Devices) : Type 0 where
  pub sent : (ms : List Move) → Stands w b.strings ms
      → HasFront b.strings a.strings (strings_in ms (event_of e))
  pub alpha : IsSwitched Alpha e b.alpha.switch a.alpha.switch
  pub beta : IsSwitched Beta e b.beta.switch a.beta.switch
  pub alpha_lasts : Lasts b.alpha a.alpha w.alpha w_now.alpha
  pub beta_lasts : Lasts b.beta a.beta w.beta w_now.beta

-- What becomes of a line that is asked of a world, and of its reply.
abbrev pub Turned : (ℕ × Event) → WorldState → WorldState → Devices → Devices
    → (before after : Option (List ℕ)) → Result (Unit {0}) ReplayFault → Type 0
Turned line w w_now b a before after (Ok done) = (given : Reply) × Answers line.1 w b w_now a given
    × Took before after (printed hosts (Some line.0) given)
Turned line w w_now b a before after (Err fault.WriteFault) =
    (given : Reply) × Answers line.1 w b w_now a given
    × TookFront before after (printed hosts (Some line.0) given)
Turned line w w_now b a before after (Err fault.NetFull) =
    Overflows line.1 w w_now b a × (after ≡ before)
Turned line w w_now b a before after (Err fault.Memory) =
    (((given : Reply) × Answers line.1 w b w_now a given) ⊎ RunsOut line.1 w w_now b a)
    × (after ≡ before)
Turned line w w_now b a before after (Err _) = ⊥

-- All lines.

-- the strings of all packets of a run
abbrev pub strings_of : List Played → List (List ℕ)
strings_of run = map plain_spelling (course_of run).sent

-- Behind a run of these lines the disk of a manager failed, was armed and was started again as
-- often as its replies say.
pub record IsCountedBy (which : Which) (lines : List (ℕ × Event)) (run : List Played)
    (d e : View) : Type 0 where
  pub faults : RoseBy (failures which (beginning hosts) run) d.faults e.faults
  pub switch : IsSwitchedBy which lines d.switch e.switch

-- and it stands for what its manager keeps
pub record IsDiskOf (which : Which) (lines : List (ℕ × Event)) (run : List Played)
    (d e : View) : Type 0 where
  pub counted : IsCountedBy which lines run d e
  pub stands : StandsOn (manager_at (course_of run).network (index_of which)) e

-- These lines were played, by a run of the two managers: string k of the medium is the plain
-- spelling of its k-th packet, all of them fit it, and the disks are those of the run.
pub record IsPlayed (lines : List (ℕ × Event)) (b a : Devices) : Type 0 where
  pub run : List Played
  pub is_run : IsRunOf lines run
  pub sent : a.strings ≡ strings_of run
  pub fits : bytes_in a.strings ≤ MAX_MEDIUM
  pub alpha : IsDiskOf Alpha lines run b.alpha a.alpha
  pub beta : IsDiskOf Beta lines run b.beta a.beta
  -- at each of its points
  pub guarantees : AlwaysKeepsGuarantees (moves_of run)

-- A packet of the next line did not fit the medium, which has the packets of the run of the lines
-- before, and of that line those before it.
pub record IsFull (lines : List (ℕ × Event)) (b a : Devices) : Type 0 where
  pub first : List (ℕ × Event)
  pub next : ℕ × Event
  pub rest : List (ℕ × Event)
  pub split : lines ≡ first ++ next ∷ rest
  pub run : List Played
  pub is_run : IsRunOf first run
  pub cut : IsCutOff (strings_of run) a.strings (strings_in (moves_of run) (event_of next.1))
  pub alpha : IsCountedBy Alpha first run b.alpha a.alpha
  pub beta : IsCountedBy Beta first run b.beta a.beta
  pub alpha_stands : StandsBehind (manager_at (course_of run).network 0) a.alpha
  pub beta_stands : StandsBehind (manager_at (course_of run).network 1) a.beta
  pub guarantees : AlwaysKeepsGuarantees (moves_of run)

-- the strings of the line that comes next, where one does
abbrev pub strings_next : List Played → List (ℕ × Event) → List (List ℕ)
strings_next run [] = []
strings_next run (line ∷ rest) = strings_in (moves_of run) (event_of line.1)

-- these lines ask a switch for what was done, or those with the next one do
abbrev pub IsSwitchedNearly : Which → (first rest : List (ℕ × Event)) → Switch → Switch → Type 0
IsSwitchedNearly which first rest s t =
    IsSwitchedBy which first s t ⊎ IsSwitchedBy which (first ++ take 1 rest) s t

-- Behind a run of the first lines, and perhaps in the middle of the next one, the disk of a manager
-- failed as often as its replies say at least, was armed and was started again as often as the
-- lines ask for it, and has lost nothing that its manager kept.
pub record IsDiskAmid (which : Which) (first rest : List (ℕ × Event)) (run : List Played)
    (d e : View) : Type 0 where
  pub faults : RoseBy (failures which (beginning hosts) run) d.faults e.faults
  pub switch : IsSwitchedNearly which first rest d.switch e.switch
  pub stands : StandsBehind (manager_at (course_of run).network (index_of which)) e

-- Memory ran out behind a run of the first lines, perhaps in the middle of the next one.
pub record IsShort (lines : List (ℕ × Event)) (b a : Devices) : Type 0 where
  pub first : List (ℕ × Event)
  pub rest : List (ℕ × Event)
  pub split : lines ≡ first ++ rest
  pub run : List Played
  pub is_run : IsRunOf first run
  pub sent : HasFront (strings_of run) a.strings (strings_next run rest)
  pub alpha : IsDiskAmid Alpha first rest run b.alpha a.alpha
  pub beta : IsDiskAmid Beta first rest run b.beta a.beta
  pub guarantees : AlwaysKeepsGuarantees (moves_of run)

-- What was done so far in a loop over lines: a run stands behind the world, and the disks are held.
pub record HasRun (lines : List (ℕ × Event)) (w : WorldState) (b a : Devices) : Type 0 where
  pub run : List Played
  pub is_run : IsRunOf lines run
  pub stands : Stands w a.strings (moves_of run)
  pub alpha : IsCountedBy Alpha lines run b.alpha a.alpha
  pub beta : IsCountedBy Beta lines run b.beta a.beta
  pub alpha_held : IsHeldOn a.alpha w.alpha
  pub beta_held : IsHeldOn a.beta w.beta

-- and its replies were written
abbrev pub HasPlayed : List (ℕ × Event) → WorldState → Devices → Devices
    → (before after : Option (List ℕ)) → Type 0
HasPlayed lines w b a before after =
    (so_far : HasRun lines w b a) × Took before after (reply_lines so_far.run)
