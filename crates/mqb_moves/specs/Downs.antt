-- A manager that is down refuses each call.
use Rattle.std.specs.Prelude.{◌≡◌, Err, true, ℕ}
use Rattle.mqb_model.specs.calls.Call.{Request, down_answer, requested}
use Rattle.mqb_model.specs.calls.hear.Hear.{hear}
use Rattle.mqb_model.specs.calls.pump.Pump.{pump}
use Rattle.mqb_model.specs.declared.faults.HearFault.TheVariants as hears
use Rattle.mqb_model.specs.declared.faults.PumpFault.TheVariants as pumps
use Rattle.mqb_model.specs.managers.Manager.{Manager, is_down}
use Rattle.mqb_model.specs.managers.Outcomes.{answering}
use Rattle.mqb_packet.specs.declared.packet.Packet.{Packet}

-- each call of it
pub record RefusesAll (m : Manager) : Type 0 where
  pub requests : (request : Request) → requested m request ≡ answering m (down_answer request)
  pub hears : (p : Packet) (now : ℕ) → hear m p now ≡ answering m (Err hears.Down)
  pub pumps : (now : ℕ) → pump m now ≡ answering m (Err pumps.Down)

-- where it is down
abbrev pub DownRefusesAll : Type 0
DownRefusesAll = (m : Manager) → is_down m ≡ true → RefusesAll m
