-- Laws of serving.
use Rattle.std.specs.Prelude.{◌≡◌, Err, List, ℕ}
use Rattle.mqb_packet.specs.declared.packet.Packet.{Packet}
use Rattle.mqb_model.specs.calls.hear.Hear.{hear}
use Rattle.mqb_model.specs.calls.pump.Pump.{pump}
use Rattle.mqb_model.specs.declared.faults.HearFault.TheVariants as hear_fault
use Rattle.mqb_model.specs.declared.faults.PumpFault.TheVariants as pump_fault
use Rattle.mqb_model.specs.managers.Manager.{Manager}
use Rattle.mqb_serving.specs.Conversations.{Conversation, read_on}
use Rattle.mqb_serving.specs.Serving.{Hears}
use Rattle.mqb_serving.specs.Steps.{IsPast}

-- Whatever bytes were read, a manager is as behind some pumps from where pumping started,
-- and so is what it gave.
abbrev pub ReadIsPast : Type 0
ReadIsPast = (c : Conversation) (bytes : List ℕ) → IsPast (Hears c bytes) c (read_on c bytes)

-- What a manager answers to a pump and to a packet is never want of memory or a fault of its disk.
pub record AnswersNoFault (m : Manager) : Type 0 where
  pub pump_wants : (now : ℕ) → (pump m now).answer ≡ Err pump_fault.Memory → ⊥
  pub pump_fails : (now : ℕ) → (pump m now).answer ≡ Err pump_fault.DiskFault → ⊥
  pub hear_wants : (p : Packet) (now : ℕ) → (hear m p now).answer ≡ Err hear_fault.Memory → ⊥
  pub hear_fails : (p : Packet) (now : ℕ) → (hear m p now).answer ≡ Err hear_fault.DiskFault → ⊥

-- no manager does
abbrev pub AnswersAreNoFaults : Type 0
AnswersAreNoFaults = (m : Manager) → AnswersNoFault m
