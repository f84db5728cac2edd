-- What is done to express messages, and how many messages it names.
use Rattle.std.specs.Prelude.{ℕ}
use Rattle.mqb_base.specs.declared.message.Lane.TheVariants as lane
use Rattle.mqb_model.specs.managers.Beside.{Beside}
use Rattle.mqb_model.specs.managers.Beside as beside
use Rattle.mqb_model.specs.rules.Purges.{count_at}
use Rattle.mqb_model.specs.rules.Timeouts.{lane_due}
use Rattle.mqb_model.specs.state.State.{State}
use Rattle.mqb_timeouts.specs.declared.work.ExpressWork.{ExpressWork}
use Rattle.mqb_timeouts.specs.declared.work.ExpressWork.TheVariants as work

-- which of the things it is that a call does beside its record
abbrev pub beside_of : ExpressWork → Beside
beside_of work.Nothing = beside.Nothing
beside_of (work.Sends now m) = beside.SendsExpress now m
beside_of (work.Takes now at index) = beside.TakesExpress now at index
beside_of (work.Purges now at) = beside.PurgesExpress now at
beside_of (work.Ticks now) = beside.TicksExpress now
beside_of (work.Drops peer number) = beside.DropsExpress peer number
beside_of (work.Hears peer number now m refusal) = beside.HearsExpress peer number now m refusal

-- How many express messages it sends, takes, purges, sweeps, or hears. What it makes is at most
-- three times as many.
abbrev pub express_count : State → ExpressWork → ℕ
express_count s work.Nothing = 0
express_count s (work.Sends now m) = 1
express_count s (work.Takes now at index) = 1
express_count s (work.Purges now at) = count_at lane.Express s at
express_count s (work.Ticks now) = lane_due lane.Express s now
express_count s (work.Drops peer number) = 0
express_count s (work.Hears peer number now m refusal) = 1
