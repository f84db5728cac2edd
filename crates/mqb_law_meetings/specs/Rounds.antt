-- The law of recovery for any number of managers.
use Rattle.std.specs.List.{range_with_len}
use Rattle.std.specs.Prelude.{[], ◌++◌, ◌<◌, ◌≡◌, All, List, flat_map, length, map, suc, sum, true}
use Rattle.std.specs.Prelude.{zero, ℕ}
use Rattle.mqb_base.specs.declared.ids.Identity.{Identity}
use Rattle.mqb_history.specs.Drafted.{AreInOrder, IsDraftedEvent}
use Rattle.mqb_network.specs.Courses.{Course}
use Rattle.mqb_network.specs.Events.{Event}
use Rattle.mqb_network.specs.Events as event
use Rattle.mqb_network.specs.Network.{Network}
use Rattle.mqb_network.specs.Runs.{IsRun, IsRunFrom, Move, after_run, course_after}
use Rattle.mqb_network.specs.Scripts.{well}
use Rattle.mqb_law_meetings.specs.Drained.{IsDrained}
use Rattle.mqb_law_meetings.specs.Meetings.{is_good, meetings}
use Rattle.mqb_law_meetings.specs.Recovery.{AreDelivered, AreStamped}
use Rattle.mqb_law_meetings.specs.Work.{state_work}

-- so many managers are started, one after another
abbrev pub all_start : ℕ → List Event
all_start managers = map (λ i. event.Restart i) (range_with_len 0 managers)

-- each two of so many managers, once
abbrev pub pairs : ℕ → List (ℕ × ℕ)
pairs zero = []
pairs (suc n) = pairs n ++ map (λ i. (i, n)) (range_with_len 0 n)

-- a round: the pairs have their meetings in turn, each so many
abbrev pub round : ℕ → ℕ → ℕ → List Event
round managers now count = flat_map (λ (p : ℕ × ℕ). meetings p.0 p.1 now count) (pairs managers)

-- what all managers have that is not acknowledged
abbrev pub work_of_all : Network → ℕ
work_of_all n = sum (map (λ m. state_work m.state) n.managers)

-- the course behind a round
abbrev pub behind_round : ℕ → ℕ → Course → Course
behind_round count now c = course_after c (map well (round (length c.network.managers) now count))

-- the course behind two rounds, in which each pair meets as often as all managers had work before
abbrev pub all_met : Course → ℕ → Course
all_met c now = behind_round (work_of_all c.network) now (behind_round (work_of_all c.network) now c)

-- These moves start all managers, and no disk fails in them.
pub record AllStart (c : Course) (ms : List Move) : Type 0 where
  pub events : map (λ m. m.event) ms ≡ all_start (length c.network.managers)
  pub good : All (λ m. is_good m.choice ≡ true) ms
  pub run : IsRunFrom c ms

-- Behind any run of any number of managers, at any moment: all are started, and there are two
-- rounds. Then this holds of the course and of each two of them.
abbrev pub BehindRounds : (Course → ℕ → ℕ → Type 0) → Type 0
BehindRounds P = (known : List Identity) (before ms : List Move) (now : ℕ) → AreInOrder known
    → All (λ m. IsDraftedEvent m.event) before → IsRun known before
    → AllStart (after_run known before) ms
    → All (λ m. AreStamped m.state) (course_after (after_run known before) ms).network.managers
    → (a b : ℕ) → a < length known → b < length known → (a ≡ b → ⊥)
    → P (all_met (course_after (after_run known before) ms) now) a b

-- Nothing waits between any two of them.
abbrev pub AllRecover : Type 0
AllRecover = BehindRounds (λ c a b. IsDrained c.network a b)

-- Each message that one committed to a name that leads to another one was decided where its row
-- leads, or it expired.
abbrev pub AllDeliver : Type 0
AllDeliver = BehindRounds AreDelivered
