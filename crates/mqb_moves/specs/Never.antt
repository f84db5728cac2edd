-- No packet that is heard, and no pump, is said to meet a failing disk: that is for the code alone
-- to answer. Of requests `mqb_replies` has this law.
use Rattle.std.specs.Prelude.{◌≡◌, Err, ℕ}
use Rattle.mqb_model.specs.calls.hear.Hear.{hear}
use Rattle.mqb_model.specs.calls.pump.Pump.{pump}
use Rattle.mqb_model.specs.declared.faults.HearFault.TheVariants as hears
use Rattle.mqb_model.specs.declared.faults.PumpFault.TheVariants as pumps
use Rattle.mqb_model.specs.managers.Manager.{Manager}
use Rattle.mqb_packet.specs.declared.packet.Packet.{Packet}

-- no disk fails in the definitions of a manager's calls
pub record NoDiskFails (m : Manager) : Type 0 where
  pub hears : (p : Packet) (now : ℕ) → (hear m p now).answer ≡ Err hears.DiskFault → ⊥
  pub pumps : (now : ℕ) → (pump m now).answer ≡ Err pumps.DiskFault → ⊥

-- of any manager
abbrev pub DefinitionsDoNotFail : Type 0
DefinitionsDoNotFail = (m : Manager) → NoDiskFails m
