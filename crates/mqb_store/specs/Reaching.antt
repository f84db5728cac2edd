-- How far a start reads.
use Rattle.std.specs.Prelude.{◌⊎◌, List, ℕ}
use Rattle.mqb_base.specs.declared.ids.Guid.{Guid}
use Rattle.mqb_journal.specs.Scan.{ReadsOnlyAt, ReadsOnlyFront}
use Rattle.mqb_journal.specs.Store.{Base}
use Rattle.mqb_store_laws.specs.Faults.{GoesWell}

-- There are entries of a store that may go on, and behind them no more was read than
-- what stands at one gate.
pub record StopsBehind (before now : ℕ) (image : List ℕ) : Type 0 where
  pub guid : Guid
  pub base : Base
  pub entries : List (List ℕ)
  pub gate : ℕ
  pub here : GoesWell guid base entries gate image
  pub next : ReadsOnlyAt gate before now image

-- How far a start that began at `before` has read at `now`, whatever it answers: the front of a
-- store, with its base, and its first gate; or entries that may go on, one after another, and then
-- at most what stands at the gate behind them. A base that spells no state, or that of another
-- store, has no entries that may go on, and an entry that does not fit is among no such entries: so
-- nothing is read behind it.
abbrev pub ReadsInOrder : ℕ → ℕ → List ℕ → Type 0
ReadsInOrder before now image = ReadsOnlyFront before now image ⊎ StopsBehind before now image
