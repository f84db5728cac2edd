-- The plans of the four calls.
use Rattle.std.specs.Prelude.{◌==◌, Bool, None, Some, false, if◌then◌else◌, true, ℕ}
use Rattle.mqb_base.specs.declared.ids.MessageId.{MessageId}
use Rattle.mqb_base.specs.declared.message.Lane.{Lane}
use Rattle.mqb_base.specs.declared.message.Lane.TheVariants as lane
use Rattle.mqb_base.specs.declared.message.Message.{Message}
use Rattle.mqb_base.specs.declared.queues.EntryPlace.{EntryPlace}
use Rattle.mqb_model.specs.calls.Send.{plain_entry}
use Rattle.mqb_model.specs.managers.Beside as beside
use Rattle.mqb_model.specs.records.Record as entry
use Rattle.mqb_model.specs.state.State.{State}
use Rattle.mqb_plans.specs.Plans.{Plan}

-- a durable message is taken by a record, and an express one beside
abbrev pub taking : Lane → ℕ → EntryPlace → ℕ → MessageId → Plan
taking lane.Durable now at k id =
    record { written = Some (entry.Taken now at id); beside = beside.Nothing }
taking lane.Express now at k id = record { written = None; beside = beside.TakesExpress now at k }

-- a place is purged: its durable messages by a record, where it has any, and then the express ones
abbrev pub purging : (has_durable : Bool) → ℕ → EntryPlace → Plan
purging has_durable now at = record {
  written = if has_durable then Some (entry.Purged now at) else None;
  beside = beside.PurgesExpress now at;
}

-- what is due leaves: durable messages by a record, where there is any, and then the express ones
abbrev pub ticking : (durable : ℕ) → ℕ → Plan
ticking durable now = record {
  written = if durable == 0 then None else Some (entry.Ticked now);
  beside = beside.TicksExpress now;
}

-- a recoverable message is sent by a record, and an express one beside
abbrev pub sending : State → Bool → ℕ → Message → Plan
sending s true now m = record { written = Some (plain_entry s now m); beside = beside.Nothing }
sending s false now m = record { written = None; beside = beside.SendsExpress now m }
