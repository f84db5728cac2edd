-- Small runs, and their recovery.
use Rattle.std.specs.Prelude.{[], ◌++◌, ◌∷◌, ◌≡◌, List, codes, map, true, ℕ}
use Rattle.mqb_base.specs.declared.ids.MessageId.{MessageId}
use Rattle.mqb_model.specs.calls.Call.{Commit}
use Rattle.mqb_model.specs.runs.Samples.{of_alpha}
use Rattle.mqb_network.specs.Choices.{Choice, Fails, Kept, Lost, Stopped, Well}
use Rattle.mqb_network.specs.Courses.{Course}
use Rattle.mqb_network.specs.Events as event
use Rattle.mqb_network.specs.Runs.{IsRunFrom, Move, after_run, course_after}
use Rattle.mqb_network.specs.Scripts.{a_send, given, one_order, opening, pair, well}
use Rattle.mqb_network.specs.Worked.{marks_of, queues_of}
use Rattle.mqb_law_meetings.specs.Drained.{IsDrained, has_for}
use Rattle.mqb_law_meetings.specs.Meetings.{meetings}
use Rattle.mqb_law_meetings.specs.Work.{met, work}

-- one message is committed, and the sender's disk stops when it is to be offered
abbrev pub offer_in_doubt : List Move
offer_in_doubt =
    opening (one_order ∷ well (event.Arm 0) ∷ given (event.Pump 0 1001) (Fails 0 Stopped) ∷ [])

-- the sender's disk stops when it is to be committed
abbrev pub commit_in_doubt : List Move
commit_in_doubt =
    opening (given (event.Asks 0 (Commit 1000 (a_send (codes "one") ∷ []))) (Fails 0 Stopped) ∷ [])

-- the receiver's disk stops when it is to be put
abbrev pub arrival_in_doubt : List Move
arrival_in_doubt = opening
    (one_order ∷ well (event.Pump 0 1001) ∷ given (event.Deliver 5 1001) (Fails 0 Stopped) ∷ [])

-- the starts, with what is chosen in them
abbrev pub started : Choice → Choice → List Move
started first second = given (event.Restart 0) first ∷ given (event.Restart 1) second ∷ []

abbrev pub behind : List Move → List Move → Course
behind before ms = course_after (after_run pair before) ms

-- There is so much work behind the starts, and behind as many meetings the queue has these
-- messages, and the row these marks.
pub record IsBroughtOver (before ms : List Move) (count : ℕ) (held : List MessageId)
    (rows : List (List ℕ)) : Type 0 where
  pub counted : work (behind before ms).network 0 1 ≡ count
  pub run : IsRunFrom (after_run pair before) (ms ++ map well (meetings 0 1 2000 count))
  pub drained : IsDrained (met (behind before ms) 0 1 2000).network 0 1
  pub queue : queues_of (met (behind before ms) 0 1 2000).network 1 ≡ held ∷ []
  pub marks : marks_of (met (behind before ms) 0 1 2000).network 0 ≡ rows

-- with the record in doubt, and without it
pub record AreBroughtOver : Type 0 where
  pub offer_kept :
      IsBroughtOver offer_in_doubt (started Kept Well) 3 (of_alpha 1 ∷ []) ((1 ∷ 1 ∷ 1 ∷ []) ∷ [])
  pub offer_lost :
      IsBroughtOver offer_in_doubt (started Lost Well) 3 (of_alpha 1 ∷ []) ((1 ∷ 1 ∷ 1 ∷ []) ∷ [])
  pub commit_kept :
      IsBroughtOver commit_in_doubt (started Kept Well) 3 (of_alpha 1 ∷ []) ((1 ∷ 1 ∷ 1 ∷ []) ∷ [])
  pub commit_lost : IsBroughtOver commit_in_doubt (started Lost Well) 0 [] []
  pub arrival_kept :
      IsBroughtOver arrival_in_doubt (started Well Kept) 3 (of_alpha 1 ∷ []) ((1 ∷ 1 ∷ 1 ∷ []) ∷ [])
  pub arrival_lost :
      IsBroughtOver arrival_in_doubt (started Well Lost) 3 (of_alpha 1 ∷ []) ((1 ∷ 1 ∷ 1 ∷ []) ∷ [])

-- one message is committed at a moment that four bytes do not hold
abbrev pub late_stamp : List Move
late_stamp = opening (well (event.Asks 0 (Commit 4294967296 (a_send (codes "one") ∷ []))) ∷ [])

-- Behind as many meetings as there is work its sequence is not acknowledged, though the
-- queue has the message.
pub record StampsMustFit : Type 0 where
  pub counted : work (behind late_stamp (started Well Well)).network 0 1 ≡ 3
  pub run :
      IsRunFrom (after_run pair late_stamp) (started Well Well ++ map well (meetings 0 1 2000 3))
  pub waits : has_for (met (behind late_stamp (started Well Well)) 0 1 2000).network 0 1 ≡ true
  pub queue : queues_of (met (behind late_stamp (started Well Well)) 0 1 2000).network 1
      ≡ (of_alpha 1 ∷ []) ∷ []
