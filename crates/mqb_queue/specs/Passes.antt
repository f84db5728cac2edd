-- How far the messages of each level have ended.
use Rattle.std.specs.Prelude.{◌≡◌, ℕ, ◌+◌, ◌-◌, ◌≤◌, ◌==◌, Bool, List, length, nat_le, nat_lt}
use Rattle.std.specs.Prelude.{slice_get, take, All, Some, if◌then◌else◌}
use Rattle.mqb_base.specs.declared.message.Message.{Message}
use Rattle.mqb_base.specs.declared.queues.EntryPlace.{EntryPlace}
use Rattle.mqb_base.specs.declared.times.TheConstants.{UNLIMITED}
use Rattle.mqb_queue.specs.First.{is_queue}
use Rattle.mqb_queue.specs.Levels.{level, Counted}
use Rattle.mqb_queue.specs.declared.passes.Pass.{Pass}

-- the least bound by which a message has ended: it is due at each moment that is not less
-- than the bound less one
abbrev pub end_of : Message → ℕ
end_of m = if m.life == UNLIMITED then 0xFFFFFFFFFFFFFFFF else m.sent + m.life + 1

-- a message has ended by a bound, if it has a level
abbrev pub HasEnded : ℕ → ℕ → Message → Type 0
HasEnded k bound m = level m.priority ≡ k → end_of m ≤ bound

-- each message of a level that stands before the index of a pass has ended by its bound
pub record IsPassed (k : ℕ) (pass : Pass) (messages : List Message) : Type 0 where
  pub within : pass.index ≤ length messages
  pub ended : All (HasEnded k pass.bound) (take pass.index messages)

-- so it is of each level
abbrev pub ArePassed : List Pass → List Message → Type 0
ArePassed passes messages =
    (k : ℕ) (pass : Pass) → slice_get passes k ≡ Some pass → IsPassed k pass messages

-- no message of a place that has ended by a pass can be taken at a moment
abbrev pub has_passed : EntryPlace → ℕ → Pass → Bool
has_passed at now pass = if is_queue at then nat_le pass.bound (now + 1) else pass.bound == 0

-- the pass, once the message at an index left
abbrev pub shifted : ℕ → Pass → Pass
shifted at pass =
    record pass { index = if nat_lt at pass.index then pass.index - 1 else pass.index }

-- what is known of messages: that none has a greater priority, how many have each level, and how
-- far those have ended
pub record AreKnown (top : ℕ) (counts : List ℕ) (passes : List Pass)
    (messages : List Message) : Type 0 where
  pub bounded : All (λ m. m.priority ≤ top) messages
  pub counted : Counted counts messages
  pub passed : ArePassed passes messages
