-- What steps leave of the disk, one after another.
use Rattle.std.proofs.Common.{◌≡◌, Bool, cond, false, Result, Ok, Err, ℕ, refl, sym, subst}
use Rattle.mqb_outside.specs.Disk.{View}
use Rattle.mqb_journal.specs.Causes.{FaultsAsSaid}
use Rattle.mqb_outside.specs.Faults.{Rose}
use Rattle.mqb_model.specs.managers.Outcomes.{Outcome}
use Rattle.mqb_manager.specs.Calls.{IsCall}
use Rattle.mqb_manager.specs.States.{IsUp, ManagerState}
use Rattle.mqb_serving.specs.declared.faults.ConnFault.{ConnFault}
use Rattle.mqb_serving.specs.declared.faults.ConnFault.TheVariants as fault
use Rattle.mqb_serving.specs.Serving.{is_disk_fault}
use Rattle.mqb_manager.specs.lemmas.Keeping.{calls_keep_disks, keeping_goes_on, nothing_keeps}
use Rattle.mqb_serve.specs.Talking.{Keeps}
use Rattle.mqb_serve.proofs.Calls.{stays_up}

-- a count that stayed
pub said_then : {T E : Type 0} (says : E → Bool) (before mid after : ℕ) (r : Result T E) → mid ≡ before → FaultsAsSaid says mid after r → FaultsAsSaid says before after r
said_then says before mid after r same said = subst (λ (k : ℕ). FaultsAsSaid says k after r) same said

-- a fault that does not say so
pub said_not : {E : Type 0} (says : E → Bool) (before after : ℕ) (why : E) → says why ≡ false → after ≡ before → cond (says why) (Rose before after) (after ≡ before)
said_not says before after why other same = subst (λ (b : Bool). cond b (Rose before after) (after ≡ before)) (sym other) same

-- nothing was done
pub keeps_none : {T : Type 0} (d : View) (m : ManagerState) (x : T) → IsUp m → Keeps d d m m (Ok x)
keeps_none d m x up = record { disk = nothing_keeps d m; up = up; faults = refl }

pub keeps_then : {T U : Type 0} (d e f : View) (m n o : ManagerState) (x : T) (r : Result U ConnFault) → Keeps d e m n (Ok x) → Keeps e f n o r → Keeps d f m o r
keeps_then d e f m n o x r first second = record {
  disk = keeping_goes_on d e f m n o first.disk first.up second.disk;
  up = second.up;
  faults = said_then is_disk_fault d.faults e.faults f.faults r first.faults second.faults;
}

-- the same for another answer

pub keeps_ok : {T U : Type 0} (d e : View) (m n : ManagerState) (x : T) (y : U) → Keeps d e m n (Ok x) → Keeps d e m n (Ok y)
keeps_ok d e m n x y k = record { disk = k.disk; up = k.up; faults = k.faults }

pub keeps_err : {T U : Type 0} (d e : View) (m n : ManagerState) (why : ConnFault) → Keeps {T = T} d e m n (Err why) → Keeps {T = U} d e m n (Err why)
keeps_err d e m n why k = record { disk = k.disk; up = k.up; faults = k.faults }

-- a write or a read failed behind it
pub keeps_broken : {T U : Type 0} (d e : View) (m n : ManagerState) (x : T) (why : ConnFault) → is_disk_fault why ≡ false → Keeps d e m n (Ok x) → Keeps {T = U} d e m n (Err why)
keeps_broken d e m n x why other k = record {
  disk = k.disk;
  up = subst (λ (b : Bool). cond b (Unit {0}) (IsUp n)) (sym other) k.up;
  faults = subst (λ (b : Bool). cond b (Rose d.faults e.faults) (e.faults ≡ d.faults)) (sym other) k.faults;
}

-- a fault, where nothing was done
pub keeps_still : {T : Type 0} (d : View) (m : ManagerState) (why : ConnFault) → is_disk_fault why ≡ false → IsUp m → Keeps {T = T} d d m m (Err why)
keeps_still d m why other up = keeps_broken d d m m 0 why other (keeps_none {T = ℕ} d m 0 up)

-- One call.
module _ {V E T : Type 0} (memory broken : E) (d e : View) (m n : ManagerState) (o : Outcome (Result V E)) (r : Result V E) (call : IsCall memory broken d e m n o r) (up : IsUp m) where
  pub keeps_call : (x : T) → (r ≡ Err broken → ⊥) → Keeps d e m n (Ok x)
  keeps_call x works = record {
    disk = calls_keep_disks memory broken d e m n o r call;
    up = stays_up memory broken m n o r call.ends works up;
    faults = call.stayed works;
  }

  pub keeps_memory : (r ≡ Err broken → ⊥) → Keeps {T = T} d e m n (Err fault.Memory)
  keeps_memory works = record {
    disk = calls_keep_disks memory broken d e m n o r call;
    up = stays_up memory broken m n o r call.ends works up;
    faults = call.stayed works;
  }

  pub keeps_fault : r ≡ Err broken → Keeps {T = T} d e m n (Err fault.DiskFault)
  keeps_fault is = record { disk = calls_keep_disks memory broken d e m n o r call; up = tt; faults = call.rose is }
