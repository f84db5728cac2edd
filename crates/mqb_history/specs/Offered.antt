-- What is offered before it is sent.
use Rattle.std.specs.Prelude.{◌++◌, ◌∷◌, ◌≡◌, ◌≤◌, List, ℕ}
use Rattle.mqb_entries.specs.declared.members.Mark.{Mark}
use Rattle.mqb_exactly_once.specs.Words.{In}
use Rattle.mqb_exactly_once.specs.World.{Channel, Position}
use Rattle.mqb_model.specs.records.Record as entry
use Rattle.mqb_network.specs.Courses.{Course, Written}
use Rattle.mqb_network.specs.Laws.{lines_written}
use Rattle.mqb_network.specs.Network.{manager_at}
use Rattle.mqb_history.specs.Decided.{decisions, written_of}
use Rattle.mqb_history.specs.Expired.{expiries_told}

-- A manager offered a position: a mark of its sequence stands there or above, and it
-- had not expired before.
pub record IsOffered (written : List Written) (p : Position) : Type 0 where
  pub before : List Written
  pub offering : Written
  pub behind : List Written
  pub split : written ≡ before ++ offering ∷ behind
  pub marks : List Mark
  pub offers : offering.entry ≡ entry.Offered marks
  pub mark : Mark
  pub there : In mark marks
  pub ordinal : mark.ordinal ≡ p.sequence.ordinal
  pub enough : p.number ≤ mark.number
  pub unexpired : In p (expiries_told (lines_written before)) → ⊥

-- What expires at the source of a channel is decided nowhere, before or later.
abbrev pub AreUndecided : Course → Type 0
AreUndecided c = (i j : ℕ) (channel : Channel) (p : Position)
    → (manager_at c.network i).state.identity.guid ≡ channel.source
    → In p (expiries_told (lines_written (written_of i c.written)))
    → In p (decisions channel (written_of j c.written)) → ⊥
