-- The manager as which a store is opened, and why one is not.
use Rattle.std.specs.Prelude.{◌≡◌, IfSome, Option, ℕ}
use Rattle.mqb_outside.specs.Disk.{View}
use Rattle.mqb_outside.specs.Images.{Each}
use Rattle.mqb_outside.specs.Faults.{Rose}
use Rattle.mqb_answers.specs.mqb_manager.Keeping.{KeepsDisk}
use Rattle.mqb_answers.specs.mqb_manager.States.{IsOnDisk, IsUp, ManagerState, manager_of}
use Rattle.mqb_model.specs.managers.Manager.{unlinked}
use Rattle.mqb_model.specs.state.Durable.{durable}
use Rattle.mqb_store_laws.specs.Faults.{IsBadStore}
use Rattle.mqb_store_laws.specs.Images.{OpensTo}
use Rattle.mqb_store_laws.specs.Settling.{OnlySettles}
use Rattle.mqb_commands.specs.declared.status.Status.{Status}
use Rattle.mqb_commands.specs.declared.status.Status.TheVariants as status

-- The disk is a store that opens to this manager, which is up and not linked.
pub record OpensAs (d : View) (m : ManagerState) : Type 0 where
  pub manager : manager_of m ≡ unlinked m.store.state
  pub durable : durable m.store.state ≡ m.store.state
  pub up : IsUp m
  pub on : IsOnDisk d m
  pub image : Each d.reads (OpensTo m.store.journal.guid m.store.journal.count m.store.state)

-- A store was opened as a manager, from which this led to another, and its disk stands for that.
pub record OnStore (does : (m n : ManagerState) → Type 0) (d e : View) : Type 0 where
  pub before : ManagerState
  pub after : ManagerState
  pub opened : OpensAs d before
  pub done : does before after
  pub disk : KeepsDisk d e before after

-- A store was not opened, and its disk was not written.
abbrev pub IsNotOpened : View → View → Status → Type 0
IsNotOpened d e (status.BadStore at) = Each d.reads (IsBadStore at) × OnlySettles d e
IsNotOpened d e status.DiskFault = Rose d.faults e.faults × OnlySettles d e
IsNotOpened d e status.Memory = OnlySettles d e
IsNotOpened d e _ = ⊥

-- the moment of a clock, where that is steady
abbrev pub IsMoment : Option ℕ → ℕ → Type 0
IsMoment steady now = IfSome steady (λ moment. now ≡ moment)
