-- How `push` and `fetch` end: one connection to the peer of a host.
use Rattle.std.specs.Option.{option_or}
use Rattle.std.specs.Prelude.{◌≡◌, ◌≢◌, ◌⊎◌, Err, IsSome, List, None, Option, Some, codes}
use Rattle.std.specs.Prelude.{option_map, position, slice_get, ℕ}
use Rattle.mqb_base.specs.declared.ids.Identity.{Identity}
use Rattle.mqb_base.specs.Same.{same_ignoring_case}
use Rattle.mqb_commands.specs.Opened.{OnStore}
use Rattle.mqb_outside.specs.Disk.{View}
use Rattle.mqb_outside.specs.Images.{Each}
use Rattle.mqb_outside.specs.Net.{Ended}
use Rattle.mqb_journal.specs.Causes.{FaultsAsSaid}
use Rattle.mqb_manager.specs.States.{IsUp, ManagerState}
use Rattle.mqb_serving.specs.declared.purpose.Errand.{Errand}
use Rattle.mqb_serving.specs.declared.purpose.Purpose.TheVariants as purpose
use Rattle.mqb_outside.specs.Faults.{Rose}
use Rattle.mqb_serving.specs.Serving.{Answer, is_disk_fault}
use Rattle.mqb_serving.specs.declared.faults.ConnFault.TheVariants as fault
use Rattle.mqb_commands.specs.Outputs.{Tells}
use Rattle.mqb_commands.specs.declared.status.Status.{Status}
use Rattle.mqb_commands.specs.declared.status.Status.TheVariants as status
use Rattle.mqb_store_laws.specs.Faults.{IsBadStore}
use Rattle.mqb_store_laws.specs.Settling.{OnlySettles}
use Rattle.mqb_connections.specs.Causes.{is_lost}
use Rattle.mqb_connections.specs.Served.{IsUnopened, IsUntouched, Nets}
use Rattle.mqb_connections.specs.Statuses.{IsFaultless, reach_status}
use Rattle.mqb_connections.specs.Visits.{IsNext, end_line}

-- the index of the first peer with a host, the case of letters left aside
abbrev pub index_of_host : List Identity → List ℕ → Option ℕ
index_of_host peers host = position (λ p. same_ignoring_case p.host host) peers

-- the address of the peer at an index
abbrev pub address_at : List Identity → ℕ → Option (List ℕ)
address_at peers peer = option_map (λ p. p.address) (slice_get peers peer)

-- The peer at an index was reached for this: it was asked for a session over a connection, to the
-- address that the words name or else to its own, which was served from m to n, and ended so; and
-- the net tells it as finished.
pub record IsReach (why : Errand) (named : Option (List ℕ)) (peer : ℕ) (steady : Option ℕ)
    (m n : ManagerState) (before after : Option (List Ended)) (end : Answer) : Type 0 where
  pub next : IsNext (purpose.Reach why peer) steady m n before after end
  pub address : IsSome before
      → next.visit.ended.address ≡ option_or named (address_at m.store.state.peers peer)

-- What is written of the one connection, and how the program ends. Nothing is written where the
-- disk failed or memory ran out.
abbrev pub TellsReach : Answer → (before after : Option (List ℕ)) → Status → Type 0
TellsReach (Err fault.DiskFault) before after r = (r ≡ status.DiskFault) × (after ≡ before)
TellsReach (Err fault.Memory) before after r = (r ≡ status.Memory) × (after ≡ before)
TellsReach end before after r = Tells (end_line 1 end) (reach_status end) before after r
    ⊎ ((r ≡ status.Memory) × (after ≡ before))

-- A connection was served, from one manager to another. Of the disk it is told how
-- often it has failed.
pub record ReachesOver (why : Errand) (named : Option (List ℕ)) (peer : ℕ) (steady : Option ℕ)
    (disk disk_now : ℕ) (m n : ManagerState) (net : Nets) (before after : Option (List ℕ))
    (r : Status) : Type 0 where
  pub end : Answer
  pub reach : IsReach why named peer steady m n net.finished net.finished_now end
  -- so the disk is settled still, where it was, and stands for that manager
  pub up : end ≢ Err fault.DiskFault → IsUp n
  pub disk_faults : FaultsAsSaid is_disk_fault disk disk_now end
  pub faults : net.faults_now ≡ net.faults
  pub lost : FaultsAsSaid is_lost net.lost net.lost_now end
  pub told : TellsReach end before after r

-- The net gave no connection. `kept` says what the disk is left as where nothing was asked of it.
pub record IsUnconnected (kept : Type 0) (m n : ManagerState) (net : Nets)
    (before after : Option (List ℕ)) (r : Status) : Type 0 where
  pub disk : kept
  pub same : n ≡ m
  pub finished : net.finished_now ≡ net.finished
  pub faults : Rose net.faults net.faults_now
  pub lost : net.lost_now ≡ net.lost
  pub told : Tells (codes "connection 1: netfault\n") status.NetFault before after r

-- No peer has the host.
pub record HasNoPeer (kept : Type 0) (m n : ManagerState) (net : Nets)
    (before after : Option (List ℕ)) (r : Status) : Type 0 where
  pub disk : kept
  pub same : n ≡ m
  pub untouched : IsUntouched net
  pub told : Tells (codes "nopeer\n") status.Refused before after r

-- A manager reaches the peer at an index, where there is one.
abbrev pub ReachesAt : Errand → Option (List ℕ) → Option ℕ → Option ℕ → (kept : Type 0)
    → (disk disk_now : ℕ) → (m n : ManagerState) → Nets
    → (before after : Option (List ℕ)) → Status → Type 0
ReachesAt why named None steady kept disk disk_now m n net before after r =
    HasNoPeer kept m n net before after r
ReachesAt why named (Some peer) steady kept disk disk_now m n net before after r =
    IsUnconnected kept m n net before after r
    ⊎ ReachesOver why named peer steady disk disk_now m n net before after r

-- A manager that is open reaches the peer of a host.
abbrev pub ReachesOn : Errand → (named : Option (List ℕ)) → (host : List ℕ) → Option ℕ
    → (kept : Type 0) → (disk disk_now : ℕ) → (m n : ManagerState) → Nets
    → (before after : Option (List ℕ)) → Status → Type 0
ReachesOn why named host steady kept disk disk_now m n net before after r =
    ReachesAt why named
    (index_of_host m.store.state.peers host) steady kept disk disk_now m n net before after r

-- the disk was opened, and nothing else was asked of it
abbrev pub IsOpenedOnly : (d e : View) → Type 0
IsOpenedOnly d e = OnlySettles d e × (e.faults ≡ d.faults)

-- `push` and `fetch`: the store is opened and the peer reached, or it is not opened, and the
-- net is left as it was
abbrev pub ReachesStore : Errand → (named : Option (List ℕ)) → (host : List ℕ) → (steady : Option ℕ)
    → (d e : View) → Nets → (before after : Option (List ℕ)) → Status → Type 0
ReachesStore why named host steady d e net before after r =
    OnStore (λ m n. ReachesOn why named host steady
    (IsOpenedOnly d e) d.faults e.faults m n net before after r) d e
    ⊎ (IsUnopened d e before after r × IsUntouched net)

-- The peer is reached to the end from a sound store, where neither the disk nor the net nor the
-- output failed, and no connection was lost.
abbrev pub CompletesReach : (d e : View) → Nets → (writes writes_now : ℕ) → Status → Type 0
CompletesReach d e net writes writes_now r =
    ((at : ℕ) → Each d.reads (IsBadStore at) → ⊥) → (Rose d.faults e.faults → ⊥)
    → (Rose net.faults net.faults_now → ⊥) → (Rose net.lost net.lost_now → ⊥)
    → (Rose writes writes_now → ⊥) → IsFaultless r
