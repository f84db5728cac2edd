-- Of a sequence none is skipped.
use Rattle.std.specs.Prelude.{◌<◌, ◌≡◌, ◌⊎◌, ℕ}
use Rattle.mqb_base.specs.declared.ids.Guid.{Guid}
use Rattle.mqb_exactly_once.specs.Words.{In}
use Rattle.mqb_exactly_once.specs.World.{Channel, Position}
use Rattle.mqb_network.specs.Courses.{Course}
use Rattle.mqb_network.specs.Laws.{lines_written}
use Rattle.mqb_network.specs.Network.{manager_at}
use Rattle.mqb_history.specs.Decided.{decisions, written_of}
use Rattle.mqb_history.specs.Expired.{expiries_told}

-- the manager of an identifier let a message at this position expire
pub record HasExpiredAt (c : Course) (source : Guid) (p : Position) : Type 0 where
  pub manager : ℕ
  pub own : (manager_at c.network manager).state.identity.guid ≡ source
  pub told : In p (expiries_told (lines_written (written_of manager c.written)))

-- Whatever stands before a decided message in its sequence was decided too, or it
-- expired at the source.
abbrev pub AreUnskipped : Course → Type 0
AreUnskipped c = (j : ℕ) (channel : Channel) (p : Position) (n : ℕ)
    → In p (decisions channel (written_of j c.written)) → 0 < n → n < p.number
    → In (record { sequence = p.sequence; number = n }) (decisions channel (written_of j c.written))
    ⊎ HasExpiredAt c channel.source (record { sequence = p.sequence; number = n })
