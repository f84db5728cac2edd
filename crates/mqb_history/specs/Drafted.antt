-- What events ask for, and that managers stay valid.
use Rattle.std.specs.Prelude.{◌+◌, ◌≤◌, All, Bool, List, length, ℕ}
use Rattle.mqb_base.specs.declared.ids.Identity.{Identity}
use Rattle.mqb_model.specs.declared.limits.TheConstants.{MAX_PEERS}
use Rattle.mqb_model.specs.laws.Fitting.{IsDraftedRequest}
use Rattle.mqb_model.specs.managers.Valid.{IsValidManager}
use Rattle.mqb_names.specs.Values.{IsName}
use Rattle.mqb_network.specs.Doubts.{settled}
use Rattle.mqb_network.specs.Events.{Event}
use Rattle.mqb_network.specs.Events as event
use Rattle.mqb_network.specs.Laws.{AreApart}
use Rattle.mqb_network.specs.Network.{manager_at}
use Rattle.mqb_network.specs.Runs.{IsRun, Move, after_run}

-- What an event asks for is in order: its messages were drafted, and its setting is one
-- that a manager can have.
abbrev pub IsDraftedEvent : Event → Type 0
IsDraftedEvent (event.Asks i request) = IsDraftedRequest request
IsDraftedEvent _ = Unit {0}

-- So are the managers of a network: they are apart, each can have all others as peers, and
-- their hosts are names.
pub record AreInOrder (known : List Identity) : Type 0 where
  pub apart : AreApart known
  pub few : length known ≤ MAX_PEERS + 1
  pub hosts : All (λ own. IsName own.host) known

-- Each manager is valid at each point of each run whose events ask for what is in order, whatever
-- became of the records in doubt.
abbrev pub AlwaysValid : Type 0
AlwaysValid = (known : List Identity) (ms : List Move) → AreInOrder known
    → All (λ m. IsDraftedEvent m.event) ms → IsRun known ms
    → (kept : ℕ → Bool) (i : ℕ)
    → IsValidManager (manager_at (settled kept (after_run known ms)).network i)
