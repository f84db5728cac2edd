-- The event checkpoint: the state of a manager is written anew, in place of its records.
use Rattle.std.specs.Prelude.{◌&&◌, ◌*◌, ◌+◌, ◌==◌, Bool, List, false, filter, length, nat_lt, not}
use Rattle.std.specs.Prelude.{true, ℕ}
use Rattle.mqb_layout.specs.Layouts.{head_behind}
use Rattle.mqb_layout.specs.declared.limits.TheConstants.{HEADER, MOST_HEAD}
use Rattle.mqb_model.specs.declared.limits.TheConstants.{MAX_RECORD}
use Rattle.mqb_model.specs.managers.Manager.{is_down}
use Rattle.mqb_store_laws.specs.Checkpoints.{checkpoint}
use Rattle.mqb_network.specs.Answers.{Answer, call}
use Rattle.mqb_network.specs.Choices.{Choice, Fails, TooFar, Well, is_far}
use Rattle.mqb_network.specs.Courses.{Course, Written}
use Rattle.mqb_network.specs.Network.{Network, manager_at}
use Rattle.mqb_network.specs.Replies as reply

-- the event: the manager stays, or its disk fails, and it is down with no record in doubt
abbrev pub checkpoint_by : ℕ → Choice → Course → Answer
checkpoint_by i choice c = call i (checkpoint (manager_at c.network i) (is_far choice)) choice
    (λ answer lines. reply.Checkpointed answer) c

-- Which stores may be too far on.

-- how many of these records are a manager's
abbrev pub written_count : ℕ → List Written → ℕ
written_count i written = length (filter (λ w. w.by == i) written)

-- how many records a manager has had since its store was formatted: its identity, its peers, and
-- those that were written
abbrev pub record_count : Course → ℕ → ℕ
record_count c i = 1 + length (manager_at c.network i).state.peers + written_count i c.written

-- A store that had so many records may be too far on: it would be, were each as long as one can be.
unfoldable pub may_be_far : ℕ → Bool
may_be_far count = nat_lt MOST_HEAD (head_behind (HEADER + count * (5 + MAX_RECORD)))

-- what may be chosen where a manager writes its state anew that has had so many records
abbrev pub may_rewrite : Network → ℕ → (count : ℕ) → Choice → Bool
may_rewrite n i count Well = true
may_rewrite n i count TooFar = not (is_down (manager_at n i)) && may_be_far count
may_rewrite n i count (Fails before how) =
    before == 0 && (checkpoint (manager_at n i) false).touches
may_rewrite n i count _ = false

-- what may be chosen in the event
abbrev pub may_checkpoint : Course → ℕ → Choice → Bool
may_checkpoint c i choice = may_rewrite c.network i (record_count c i) choice
