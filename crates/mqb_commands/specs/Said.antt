-- What each command says, how it ends, and what the disk is left as.
use Rattle.std.specs.Prelude.{[], ◌<◌, ◌≡◌, ◌⊎◌, List, codes, length, ℕ}
use Rattle.mqb_base.specs.declared.ids.Identity.{Identity}
use Rattle.mqb_outside.specs.Disk.{IsSettled, OnlyReads, View}
use Rattle.mqb_outside.specs.Images.{Each}
use Rattle.mqb_listing.specs.Listing.{listing}
use Rattle.mqb_answers.specs.mqb_manager.States.{IsOnDisk, IsUp, ManagerState, manager_of}
use Rattle.mqb_model.specs.managers.Manager.{new_manager}
use Rattle.mqb_outside.specs.Faults.{Rose}
use Rattle.mqb_store_laws.specs.Settling.{OnlySettles}
use Rattle.mqb_commands.specs.Texts.{fault_text}
use Rattle.mqb_commands.specs.declared.status.Status.{Status}
use Rattle.mqb_commands.specs.declared.status.Status.TheVariants as status
use Rattle.mqb_transcript.specs.Generator.{generated}
use Rattle.mqb_commands.specs.Outputs.{IsSaid}
use Rattle.mqb_commands.specs.Opened.{IsNotOpened, OpensAs}

-- a script of orders, or memory ran out
abbrev pub Makes : ℕ → List ℕ → Status → Type 0
Makes orders text status.Done = text ≡ generated orders
Makes orders text status.Memory = text ≡ []
Makes orders text _ = ⊥

-- A disk that was empty is the store of a new manager, and settled. What the manager
-- is is its one record.
pub record IsNewStore (identity : Identity) (d e : View) : Type 0 where
  pub manager : ManagerState
  pub new : manager_of manager ≡ new_manager identity
  pub one : manager.store.journal.count ≡ 1
  pub up : IsUp manager
  pub on : IsOnDisk e manager
  pub settled : IsSettled e
  pub empty : Each d.reads (λ c. c ≡ [])

-- `init`
abbrev pub Inits : Identity → View → View → List ℕ → Status → Type 0
Inits identity d e text status.Done = (text ≡ codes "ok\n") × IsNewStore identity d e
Inits identity d e text status.NotEmpty =
    (text ≡ fault_text status.NotEmpty) × Each d.reads (λ c. 0 < length c) × OnlyReads d e
Inits identity d e text status.DiskFault =
    (text ≡ fault_text status.DiskFault) × Rose d.faults e.faults
Inits identity d e text status.Memory = (text ≡ []) × (OnlyReads d e ⊎ Rose d.faults e.faults)
Inits identity d e text _ = ⊥

-- what a manager that is open holds
abbrev pub ListsOn : ManagerState → List ℕ → Status → Type 0
ListsOn m text r = IsSaid (listing m.store.state) status.Done text r

-- what the manager holds to which the store opens
pub record IsListed (d e : View) (text : List ℕ) : Type 0 where
  pub manager : ManagerState
  pub opened : OpensAs d manager
  pub reads : OnlySettles d e
  pub said : text ≡ listing manager.store.state

-- a store that was not opened: its fault line is said
abbrev pub FailsToOpen : View → View → List ℕ → Status → Type 0
FailsToOpen d e text r = IsNotOpened d e r × (text ≡ fault_text r)

-- `list`
abbrev pub Lists : View → View → List ℕ → Status → Type 0
Lists d e text r = ((r ≡ status.Done) × IsListed d e text) ⊎ FailsToOpen d e text r
