-- A pump answers how many packets it gives out.
use Rattle.std.specs.Prelude.{◌≡◌, IfOk, length, ℕ}
use Rattle.mqb_model.specs.calls.pump.Pump.{PumpOutcome, pump}
use Rattle.mqb_model.specs.managers.Manager.{Manager}

-- the packets of an outcome are as many as it answers
abbrev pub IsCounted : PumpOutcome → Type 0
IsCounted o = IfOk o.answer (λ count. count ≡ length o.packets)

-- of each pump
abbrev pub PumpsAreCounted : Type 0
PumpsAreCounted = (m : Manager) (now : ℕ) → IsCounted (pump m now)
