-- What a store that was opened serves.
use Rattle.std.proofs.Common.{◌≢◌, ℕ, List, Option}
use Rattle.mqb_commands.specs.Opened.{OpensAs}
use Rattle.mqb_outside.specs.Disk.{View}
use Rattle.mqb_outside.specs.Net.{Ended}
use Rattle.mqb_manager.specs.Keeping.{KeepsDisk}
use Rattle.mqb_manager.specs.lemmas.Keeping.{keeping_goes_on}
use Rattle.mqb_manager.specs.States.{IsUp, ManagerState}
use Rattle.mqb_commands.specs.declared.status.Status.{Status}
use Rattle.mqb_commands.specs.declared.status.Status.TheVariants as status
use Rattle.mqb_store_laws.specs.Settling.{OnlySettles}
use Rattle.mqb_connections.specs.Served.{ServesPeers, ServesStore}
use Rattle.mqb_commands.specs.lemmas.Opening.{opened_keeps}

pub store_served : {idle : Type 0} {count : ℕ} {steady : Option ℕ} {d f e : View} {m n : ManagerState} {ended ended_now : Option (List Ended)} {faults faults_now : ℕ}
    {before after : Option (List ℕ)} {r : Status} → OpensAs d m → OnlySettles d f → ServesPeers idle 1 count steady m n ended ended_now faults faults_now before after r
    → KeepsDisk f e m n → (r ≢ status.DiskFault → IsUp n) → ServesStore idle count steady d e ended ended_now faults faults_now before after r
store_served {idle} {count} {steady} {d} {f} {e} {m} {n} opened reads serves disk up = record {
  first = m;
  left = n;
  opened = opened;
  serves = serves;
  disk = keeping_goes_on d f e m m n (opened_keeps d f m reads) opened.up disk;
  up = up;
}
