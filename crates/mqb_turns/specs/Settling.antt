-- What a call leaves between the managers: the lines of its record join the ledger, and a
-- connection ends where a disk failed.
use Rattle.std.specs.Prelude.{[], ◌≡◌, Bool, false, if◌then◌else◌, true}
use Rattle.mqb_seats.specs.Holding.{StaysStored}
use Rattle.mqb_network.specs.Changes.{ended, with_lines}
use Rattle.mqb_script.specs.declared.managers.Which.{Which}
use Rattle.mqb_seats.specs.Called.{failure_of}
use Rattle.mqb_seats.specs.declared.called.Called.{Called}
use Rattle.mqb_seats.specs.declared.called.Called.TheVariants.{Broke, Told}
use Rattle.mqb_traffic.specs.Networks.{index_of}
use Rattle.mqb_transcript.specs.declared.replies.Reply.{Reply}
use Rattle.mqb_turns.specs.Replies.{failure_reply}
use Rattle.mqb_turns.specs.Sides.{Side, network_at}

-- The connection of two managers ended, where one stood. What their stores have stays.
pub record IsParted (which : Which) (x y : Side) : Type 0 where
  pub network : (either : Which) → ended (index_of either) (network_at which x) ≡ network_at which y
  -- none stands any more
  pub none : (network_at which y).connections ≡ []
  pub again : (either : Which) → ended (index_of either) (network_at which y) ≡ network_at which y
  pub own : StaysStored x.own y.own
  pub beside : StaysStored x.other y.other

-- it ended where this holds, and else nothing changes
abbrev pub EndedWhere : Which → Bool → Side → Side → Type 0
EndedWhere which true x y = IsParted which x y
EndedWhere which false x y = y ≡ x

-- The lines of the last record joined the ledger, where there was one.
abbrev pub IsNoted : Which → Side → Side → Bool → Type 0
IsNoted which x y recorded = (network_at which y
    ≡ with_lines (if recorded then x.own.manager.store.lines else []) (network_at which x))
    × (y.own ≡ x.own) × (y.other ≡ x.other)

-- what became of a call is told, and leaves this
abbrev pub Settles : Which → Side → Side → Called → Reply → Type 0
Settles which x y (Told reply recorded) given = (given ≡ reply) × IsNoted which x y recorded
Settles which x y (Broke how) given = (given ≡ failure_reply (failure_of how)) × IsParted which x y
