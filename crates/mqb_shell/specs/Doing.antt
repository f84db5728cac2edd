-- What a manager that is open does by each command: that of the command of a store,
-- but for the opening.
use Rattle.std.specs.Prelude.{◌≡◌, ◌≢◌, List, Option, ℕ}
use Rattle.mqb_base.specs.declared.queues.Place.{Place}
use Rattle.mqb_commands.specs.Called.{CallsOn}
use Rattle.mqb_commands.specs.Checkpointed.{CheckpointsOn}
use Rattle.mqb_commands.specs.Opened.{IsMoment}
use Rattle.mqb_commands.specs.Outputs.{Says}
use Rattle.mqb_commands.specs.Peeked.{PeeksOn}
use Rattle.mqb_commands.specs.Said.{ListsOn}
use Rattle.mqb_commands.specs.declared.status.Status.{Status}
use Rattle.mqb_commands.specs.declared.status.Status.TheVariants as status
use Rattle.mqb_connections.specs.Asked.{AsksForEach}
use Rattle.mqb_connections.specs.Reached.{ReachesOn}
use Rattle.mqb_connections.specs.Served.{IsUntouched, MOST_ATTENDED, ServesPeers}
use Rattle.mqb_outside.specs.Disk.{Counted}
use Rattle.mqb_outside.specs.Faults.{Rose}
use Rattle.mqb_serving.specs.declared.purpose.Errand.{Errand}
use Rattle.mqb_serving.specs.declared.purpose.Errand.TheVariants as errand
use Rattle.mqb_shell.specs.Standing.{Standing, nets}
use Rattle.mqb_words.specs.declared.commands.Call.{Call}
use Rattle.mqb_words.specs.declared.commands.Command.{Command}
use Rattle.mqb_words.specs.declared.commands.Command.TheVariants as command

-- one call, at the moment of the clock, which was asked once
pub record DoesCall (asked : Call) (steady : Option ℕ) (b a : Standing)
    (before after : Option (List ℕ)) (r : Status) : Type 0 where
  pub now : ℕ
  pub moment : IsMoment steady now
  pub said : Says (CallsOn asked now b.disk_faults a.disk_faults b.manager a.manager) before after r
  pub once : Counted 1 b.asked a.asked
  pub net : IsUntouched (nets b a)

-- the first messages of a place, at the moment of the clock, which was asked once
pub record DoesPeek (place : Place) (count : ℕ) (steady : Option ℕ) (b a : Standing)
    (before after : Option (List ℕ)) (r : Status) : Type 0 where
  pub now : ℕ
  pub moment : IsMoment steady now
  pub said : Says (PeeksOn place count now b.manager) before after r
  pub once : Counted 1 b.asked a.asked
  pub same : a ≡ record b { asked = a.asked }

-- the state was written anew
pub record DoesCheckpoint (b a : Standing) (before after : Option (List ℕ))
    (r : Status) : Type 0 where
  pub said :
      Says (CheckpointsOn (Unit {0}) b.disk_faults a.disk_faults b.manager a.manager) before after r
  pub never : a.asked ≡ b.asked
  pub net : IsUntouched (nets b a)

-- connections that peers made, until none came (idle) at the latest
pub record DoesServe (idle : Type 0) (count : ℕ) (steady : Option ℕ) (b a : Standing)
    (before after : Option (List ℕ)) (r : Status) : Type 0 where
  pub serves : ServesPeers idle 1 count steady b.manager a.manager b.finished a.finished b.faults
      a.faults before after r
  pub each : AsksForEach count b.finished a.finished b.asked a.asked

-- a connection to the peer of a host
pub record DoesReach (why : Errand) (named : Option (List ℕ)) (host : List ℕ) (steady : Option ℕ)
    (b a : Standing) (before after : Option (List ℕ)) (r : Status) : Type 0 where
  pub reaches : ReachesOn why named host steady (a.disk_faults ≡ b.disk_faults) b.disk_faults
      a.disk_faults b.manager a.manager (nets b a) before after r
  pub each : AsksForEach 1 b.finished a.finished b.asked a.asked

-- What a manager that is open does by a command, from what an output had taken before to what it
-- has after, and how that ends.
abbrev pub DoesOn : Command → (steady : Option ℕ) → (b a : Standing)
    → (before after : Option (List ℕ)) → Status → Type 0
DoesOn (command.Call asked) steady b a before after r = DoesCall asked steady b a before after r
DoesOn command.Checkpoint steady b a before after r = DoesCheckpoint b a before after r
DoesOn command.List steady b a before after r = Says (ListsOn b.manager) before after r × (a ≡ b)
DoesOn (command.Peek place count) steady b a before after r =
    DoesPeek place count steady b a before after r
DoesOn (command.Serve count) steady b a before after r =
    DoesServe ⊥ count steady b a before after r × (a.idle ≡ b.idle)
-- the seconds are how long it is waited, which no clause says
DoesOn (command.Attend seconds) steady b a before after r =
    DoesServe (Rose b.idle a.idle) MOST_ATTENDED steady b a before after r
    × (r ≢ status.Done → a.idle ≡ b.idle)
DoesOn (command.Push host address) steady b a before after r =
    DoesReach errand.Push address host steady b a before after r
DoesOn (command.Fetch host address seconds) steady b a before after r =
    DoesReach errand.Fetch address host steady b a before after r
DoesOn _ steady b a before after r = ⊥
