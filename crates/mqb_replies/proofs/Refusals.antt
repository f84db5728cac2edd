-- The replies to refusals tell the faults of the machine apart.
use Rattle.std.proofs.Common.{◌≡◌, Result, Err, refl}
use Rattle.mqb_model.specs.declared.faults.CommitFault.{CommitFault}
use Rattle.mqb_model.specs.declared.faults.CommitFault.TheVariants as commits
use Rattle.mqb_model.specs.declared.faults.CreateFault.{CreateFault}
use Rattle.mqb_model.specs.declared.faults.CreateFault.TheVariants as creates
use Rattle.mqb_model.specs.declared.faults.PurgeFault.{PurgeFault}
use Rattle.mqb_model.specs.declared.faults.PurgeFault.TheVariants as purges
use Rattle.mqb_model.specs.declared.faults.SendFault.{SendFault}
use Rattle.mqb_model.specs.declared.faults.SendFault.TheVariants as sends
use Rattle.mqb_model.specs.declared.faults.StoreFault.{StoreFault}
use Rattle.mqb_model.specs.declared.faults.StoreFault.TheVariants as stores
use Rattle.mqb_model.specs.declared.faults.TakeFault.{TakeFault}
use Rattle.mqb_model.specs.declared.faults.TakeFault.TheVariants as takes
use Rattle.mqb_replies.specs.Replies.{commit_fault_reply, create_fault_reply, purge_fault_reply, send_fault_reply, store_fault_reply, take_fault_reply}
use Rattle.mqb_replies.specs.declared.faults.AnswerFault.{AnswerFault}
use Rattle.mqb_replies.specs.declared.faults.AnswerFault.TheVariants as fault
use Rattle.mqb_transcript.specs.declared.replies.Reply.{Reply}

-- Of refusals that are told so these two are faults of the machine, and no others.
pub record AreApart {E : Type 0} (memory broken : E) (told : E → Result Reply AnswerFault) : Type 0 where
  pub wanting : told memory ≡ Err fault.Memory
  pub breaking : told broken ≡ Err fault.DiskFault
  pub wants : (why : E) → told why ≡ Err fault.Memory → why ≡ memory
  pub breaks : (why : E) → told why ≡ Err fault.DiskFault → why ≡ broken

pub create_apart : AreApart creates.Memory creates.DiskFault create_fault_reply
create_apart = record { wanting = refl; breaking = refl; wants = wants; breaks = breaks }
  where
    wants : (why : CreateFault) → create_fault_reply why ≡ Err fault.Memory → why ≡ creates.Memory
    wants creates.Memory same = refl
    wants why same = let none : ⊥ = cc in absurd none

    breaks : (why : CreateFault) → create_fault_reply why ≡ Err fault.DiskFault → why ≡ creates.DiskFault
    breaks creates.DiskFault same = refl
    breaks why same = let none : ⊥ = cc in absurd none

pub store_apart : AreApart stores.Memory stores.DiskFault store_fault_reply
store_apart = record { wanting = refl; breaking = refl; wants = wants; breaks = breaks }
  where
    wants : (why : StoreFault) → store_fault_reply why ≡ Err fault.Memory → why ≡ stores.Memory
    wants stores.Memory same = refl
    wants why same = let none : ⊥ = cc in absurd none

    breaks : (why : StoreFault) → store_fault_reply why ≡ Err fault.DiskFault → why ≡ stores.DiskFault
    breaks stores.DiskFault same = refl
    breaks why same = let none : ⊥ = cc in absurd none

pub commit_apart : AreApart commits.Memory commits.DiskFault commit_fault_reply
commit_apart = record { wanting = refl; breaking = refl; wants = wants; breaks = breaks }
  where
    wants : (why : CommitFault) → commit_fault_reply why ≡ Err fault.Memory → why ≡ commits.Memory
    wants commits.Memory same = refl
    wants why same = let none : ⊥ = cc in absurd none

    breaks : (why : CommitFault) → commit_fault_reply why ≡ Err fault.DiskFault → why ≡ commits.DiskFault
    breaks commits.DiskFault same = refl
    breaks why same = let none : ⊥ = cc in absurd none

pub send_apart : AreApart sends.Memory sends.DiskFault send_fault_reply
send_apart = record { wanting = refl; breaking = refl; wants = wants; breaks = breaks }
  where
    wants : (why : SendFault) → send_fault_reply why ≡ Err fault.Memory → why ≡ sends.Memory
    wants sends.Memory same = refl
    wants why same = let none : ⊥ = cc in absurd none

    breaks : (why : SendFault) → send_fault_reply why ≡ Err fault.DiskFault → why ≡ sends.DiskFault
    breaks sends.DiskFault same = refl
    breaks why same = let none : ⊥ = cc in absurd none

pub take_apart : AreApart takes.Memory takes.DiskFault take_fault_reply
take_apart = record { wanting = refl; breaking = refl; wants = wants; breaks = breaks }
  where
    wants : (why : TakeFault) → take_fault_reply why ≡ Err fault.Memory → why ≡ takes.Memory
    wants takes.Memory same = refl
    wants why same = let none : ⊥ = cc in absurd none

    breaks : (why : TakeFault) → take_fault_reply why ≡ Err fault.DiskFault → why ≡ takes.DiskFault
    breaks takes.DiskFault same = refl
    breaks why same = let none : ⊥ = cc in absurd none

pub purge_apart : AreApart purges.Memory purges.DiskFault purge_fault_reply
purge_apart = record { wanting = refl; breaking = refl; wants = wants; breaks = breaks }
  where
    wants : (why : PurgeFault) → purge_fault_reply why ≡ Err fault.Memory → why ≡ purges.Memory
    wants purges.Memory same = refl
    wants why same = let none : ⊥ = cc in absurd none

    breaks : (why : PurgeFault) → purge_fault_reply why ≡ Err fault.DiskFault → why ≡ purges.DiskFault
    breaks purges.DiskFault same = refl
    breaks why same = let none : ⊥ = cc in absurd none
