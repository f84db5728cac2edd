-- One round is not enough: a small run of three managers.
use Rattle.std.specs.Prelude.{[], ◌∷◌, ◌≡◌, List, Some, codes, false, length, map, replicate, true}
use Rattle.mqb_base.specs.declared.bits.TheConstants.{POSITIVE_ARRIVAL}
use Rattle.mqb_base.specs.declared.draft.Op.TheVariants as asked
use Rattle.mqb_base.specs.declared.draft.Parts.{Parts}
use Rattle.mqb_base.specs.declared.ids.Identity.{Identity}
use Rattle.mqb_base.specs.declared.queue_names.QueueName.{QueueName}
use Rattle.mqb_base.specs.declared.times.TheConstants.{UNLIMITED}
use Rattle.mqb_model.specs.calls.Call.{Commit, CreateQueue}
use Rattle.mqb_model.specs.runs.Samples.{alpha, beta, parts_of, plan, queue_at}
use Rattle.mqb_network.specs.Courses.{Course}
use Rattle.mqb_network.specs.Events as event
use Rattle.mqb_network.specs.Runs.{IsRun, Move, after_run, course_after}
use Rattle.mqb_network.specs.Scripts.{well}
use Rattle.mqb_network.specs.Worked.{queues_of}
use Rattle.mqb_law_meetings.specs.Drained.{has_for}
use Rattle.mqb_law_meetings.specs.Rounds.{all_met, all_start, behind_round, work_of_all}

-- a third manager
abbrev pub gamma : Identity
gamma = record {
  host = codes "gamma";
  guid = record { 0 = replicate 16 0x4A };
  address = 10 ∷ 0 ∷ 0 ∷ 3 ∷ [];
}

abbrev pub trio : List Identity
trio = alpha ∷ beta ∷ gamma ∷ []

abbrev pub alphas_orders : QueueName
alphas_orders = queue_at (codes "alpha") (codes "orders")

-- a message to alpha; beta is to hear that it reached its queue
abbrev pub told_to_another : Parts
told_to_another = record (parts_of alphas_orders UNLIMITED 0 (codes "one")) {
  admin = Some (queue_at (codes "beta") (codes "notes"));
  ack = POSITIVE_ARRIVAL;
}

-- gamma commits it, and then all three are started
abbrev pub one_told : List Move
one_told = well (event.Asks 0 (CreateQueue (plan (codes "orders") true 100 false)))
    ∷ well (event.Asks 1 (CreateQueue (plan (codes "notes") false 100 false)))
    ∷ well (event.Asks 2 (Commit 1000 (asked.Send told_to_another ∷ []))) ∷ []

abbrev pub all_started : Course
all_started = course_after (after_run trio one_told) (map well (all_start 3))

-- Alpha hears from gamma when it has met beta. So behind one round it has the notice still, and
-- behind two beta has it in its queue.
pub record OneRoundIsNotEnough : Type 0 where
  pub run : IsRun trio one_told
  pub counted : work_of_all all_started.network ≡ 3
  pub waits : has_for (behind_round 3 2000 all_started).network 0 1 ≡ true
  pub drained : has_for (all_met all_started 2000).network 0 1 ≡ false
  pub told : map (λ held. length held) (queues_of (all_met all_started 2000).network 1) ≡ 1 ∷ []
