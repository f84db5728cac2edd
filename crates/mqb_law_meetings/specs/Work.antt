-- How much two managers have to bring to others.
use Rattle.std.specs.Prelude.{◌*◌, ◌+◌, if◌then◌else◌, map, sum, ℕ}
use Rattle.mqb_base.specs.declared.message.Message.{Message}
use Rattle.mqb_fate.specs.Asking.{is_ordinary}
use Rattle.mqb_law_progress.specs.Progress.{unacknowledged}
use Rattle.mqb_model.specs.state.State.{State}
use Rattle.mqb_law_meetings.specs.Meetings.{meetings}
use Rattle.mqb_network.specs.Courses.{Course}
use Rattle.mqb_network.specs.Network.{Network, manager_at}
use Rattle.mqb_network.specs.Runs.{course_after}
use Rattle.mqb_network.specs.Scripts.{well}
use Rattle.mqb_plain.specs.Lists.{messages_of}
use Rattle.mqb_plain.specs.Plain.{PlainLists}

-- A message is one packet, and may bring two notices: an administration message and a final
-- acknowledgement. A notice brings none.
abbrev pub work_for : Message → ℕ
work_for m = if is_ordinary m then 3 else 1

-- the recoverable messages for a peer
abbrev pub plain_work : PlainLists → ℕ
plain_work p = sum (map work_for (messages_of p.recoverable))

-- what a manager has that is not acknowledged
abbrev pub state_work : State → ℕ
state_work s = 3 * sum (map unacknowledged s.outs) + sum (map plain_work s.plain)

-- of both
abbrev pub work : Network → ℕ → ℕ → ℕ
work n a b = state_work (manager_at n a).state + state_work (manager_at n b).state

-- the course behind as many meetings as there is work
abbrev pub met : Course → ℕ → ℕ → ℕ → Course
met c a b now = course_after c (map well (meetings a b now (work c.network a b)))
