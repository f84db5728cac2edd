-- How many messages have each priority.
use Rattle.std.specs.Prelude.{◌≡◌, ℕ, ◌+◌, ◌<◌, ◌==◌, List, [], ◌∷◌, length, min}
use Rattle.std.specs.Prelude.{slice_index, if◌then◌else◌}
use Rattle.mqb_base.specs.declared.message.Message.{Message}

-- a priority from 0 to 6, or 7 for each other one
abbrev pub level : ℕ → ℕ
level priority = min priority 7

-- one where the two are equal
abbrev pub one_at : ℕ → ℕ → ℕ
one_at k l = if k == l then 1 else 0

-- how many of the messages have a level
abbrev pub at_level : ℕ → List Message → ℕ
at_level k [] = 0
at_level k (m ∷ messages) = one_at k (level m.priority) + at_level k messages

-- eight counts, one for each level
pub record Counted (counts : List ℕ) (messages : List Message) : Type 0 where
  pub eight : length counts ≡ 8
  pub counted : (k : ℕ) → k < 8 → slice_index counts k ≡ at_level k messages
