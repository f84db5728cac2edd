-- What a reply tells that a script does not determine.
use Rattle.std.specs.Prelude.{◌≡◌, ◌==◌, true, not, List, map}
use Rattle.std.specs.List.{list_all, AllByRecursion}
use Rattle.mqb_base.specs.declared.ids.Identity.{Identity}
use Rattle.mqb_transcript.specs.declared.arrivals.Arrival.{Arrival}
use Rattle.mqb_transcript.specs.declared.arrivals.Outcome.{Outcome}
use Rattle.mqb_transcript.specs.declared.arrivals.Outcome.TheVariants as outcome
use Rattle.mqb_transcript.specs.declared.replies.Reply.{Reply}
use Rattle.mqb_transcript.specs.declared.replies.Reply.TheVariants as reply

-- whether a disk stopped or failed, whether the record of a call that failed was kept or lost,
-- whether a store was too far on, or none of these
pub data Told : Type 0 where
  stopped : Told
  failed : Told
  kept : Told
  lost : Told
  far : Told
  answered : Told

abbrev pub told : Reply → Told
told reply.Stopped = Told.stopped
told reply.Failed = Told.failed
told (reply.OpenedKept lines) = Told.kept
told reply.OpenedLost = Told.lost
told reply.TooFar = Told.far
told _ = Told.answered

-- the same of a packet that was delivered in its turn
abbrev pub told_of : Outcome → Told
told_of outcome.Stopped = Told.stopped
told_of outcome.Failed = Told.failed
told_of _ = Told.answered

-- the same of packets that flowed, in order
abbrev pub told_in_turn : List Arrival → List Told
told_in_turn arrivals = map (λ arrival. told_of arrival.outcome) arrivals

-- no host that is printed has a colon, as those of a replay have none
abbrev pub HaveNoColon : List Identity → Type 0
HaveNoColon hosts = AllByRecursion (λ known. list_all (λ b. not (b == 58)) known.host ≡ true) hosts
