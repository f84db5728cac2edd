-- The run of a script: its events one after another, how the disks behaved in
-- each, and the replies.
use Rattle.std.specs.Prelude.{◌≡◌, List, Ok, map, ℕ}
use Rattle.mqb_network.specs.Choices.{Choice}
use Rattle.mqb_network.specs.Courses.{Course}
use Rattle.mqb_network.specs.Runs.{IsRun, Move, after_run, beginning, replies_from}
use Rattle.mqb_script.specs.declared.events.Event.{Event}
use Rattle.mqb_transcript.specs.declared.replies.Reply.{Reply}
use Rattle.mqb_turns.specs.Replies.{told}
use Rattle.mqb_runs.specs.Events.{event_of}
use Rattle.mqb_runs.specs.Hosts.{hosts}

-- One line of a script that was played: its number and its event, what was chosen
-- in it, and the reply.
pub record Played : Type 0 where
  pub line : ℕ
  pub event : Event
  pub choice : Choice
  pub reply : Reply

-- what it is to the network
abbrev pub move_of : Played → Move
move_of p = record { event = event_of p.event; choice = p.choice }

abbrev pub moves_of : List Played → List Move
moves_of ps = map move_of ps

-- the lines of the script
abbrev pub lines_of : List Played → List (ℕ × Event)
lines_of ps = map (λ p. (p.line, p.event)) ps

-- the network behind them, with all packets that were ever sent and all records
-- that were ever written
abbrev pub course_of : List Played → Course
course_of ps = after_run hosts (moves_of ps)

-- These lines were played: in each event what was chosen may be chosen, and the reply tells what
-- the network answers.
pub record IsRunOf (script : List (ℕ × Event)) (run : List Played) : Type 0 where
  pub lines : lines_of run ≡ script
  pub moves : IsRun hosts (moves_of run)
  pub replies : map told (replies_from (beginning hosts) (moves_of run)) ≡ map (λ p. Ok p.reply) run
