-- How a peer is reached, from the disk before its store was opened.
use Rattle.std.proofs.Common.{◌≡◌, ◌≢◌, ◌⊎◌, inl, inr, ℕ, List, Option, Some, None, Err, Ok, refl, sym, subst, ◌∙◌}
use Rattle.std.specs.Prelude.{codes}
use Rattle.mqb_commands.specs.Causes.{DiskFaultHasCause}
use Rattle.mqb_outside.specs.Disk.{View}
use Rattle.mqb_journal.specs.Causes.{FaultsAsSaid}
use Rattle.mqb_manager.specs.States.{ManagerState}
use Rattle.mqb_outside.specs.Faults.{Rose}
use Rattle.mqb_serving.specs.Serving.{Answer, is_disk_fault}
use Rattle.mqb_serving.specs.declared.faults.ConnFault.TheVariants as fault
use Rattle.mqb_serving.specs.declared.purpose.Errand.{Errand}
use Rattle.mqb_commands.specs.Outputs.{GoesOn, IsPlain, Tells, WriteFaultHasCause}
use Rattle.mqb_commands.specs.lemmas.Taking.{told_is}
use Rattle.mqb_commands.specs.declared.status.Status.{Status}
use Rattle.mqb_commands.specs.declared.status.Status.TheVariants as status
use Rattle.mqb_connections.proofs.Unopened.{unopened_faultless, unopened_net}
use Rattle.mqb_connections.specs.Causes.{IsLinkEnd, NetFaultHasCause, is_lost}
use Rattle.mqb_connections.specs.Reached.{CompletesReach, IsOpenedOnly, ReachesAt, ReachesStore, TellsReach, index_of_host}
use Rattle.mqb_connections.specs.Served.{Nets}
use Rattle.mqb_connections.specs.Statuses.{IsFaultless, reach_status}
use Rattle.mqb_connections.specs.Told as telling
use Rattle.mqb_connections.specs.Visits.{end_line}

-- The line of the connection.

pub plain_reach : (end : Answer) → IsPlain (reach_status end)
plain_reach (Ok done) = tt
plain_reach (Err (fault.Peer why)) = tt
plain_reach end = tt

pub line_told : (end : Answer) (before after : Option (List ℕ)) (r : Status) → telling.GoesOn end
    → Tells (end_line 1 end) (reach_status end) before after r → TellsReach end before after r
line_told (Err (fault.Peer why)) before after r goes told = inl told
line_told (Err fault.DiskFault) before after r goes told = absurd goes
line_told (Err fault.Memory) before after r goes told = absurd goes
line_told end before after r goes told = inl told

pub no_line : (end : Answer) (before after : Option (List ℕ)) → telling.GoesOn end → after ≡ before → TellsReach end before after status.Memory
no_line (Err (fault.Peer why)) before after goes same = inr (refl, same)
no_line (Err fault.DiskFault) before after goes same = absurd goes
no_line (Err fault.Memory) before after goes same = absurd goes
no_line end before after goes same = inr (refl, same)

-- A shell goes on behind no connection under which the disk failed.

pub no_disk_fault : (end : Answer) (before after : Option (List ℕ)) (r : Status) → TellsReach end before after r → GoesOn r → end ≢ Err fault.DiskFault
no_disk_fault (Err fault.DiskFault) before after r told goes same = subst GoesOn told.0 goes
no_disk_fault (Ok done) before after r told goes same = let none : ⊥ = cc in none
no_disk_fault (Err (fault.Peer why)) before after r told goes same = let none : ⊥ = cc in none
no_disk_fault (Err fault.ReadFault) before after r told goes same = let none : ⊥ = cc in none
no_disk_fault (Err fault.WriteFault) before after r told goes same = let none : ⊥ = cc in none
no_disk_fault (Err fault.Memory) before after r told goes same = let none : ⊥ = cc in none

pub calm_unless : (end : Answer) (faults faults_now : ℕ) → FaultsAsSaid is_disk_fault faults faults_now end → end ≢ Err fault.DiskFault → faults_now ≡ faults
calm_unless (Err fault.DiskFault) faults faults_now said other = absurd (other refl)
calm_unless (Ok done) faults faults_now said other = said
calm_unless (Err (fault.Peer why)) faults faults_now said other = said
calm_unless (Err fault.ReadFault) faults faults_now said other = said
calm_unless (Err fault.WriteFault) faults faults_now said other = said
calm_unless (Err fault.Memory) faults faults_now said other = said

-- Opening reads and syncs: what is done from the disk behind it is done from the disk before.
module _ (why : Errand) (named : Option (List ℕ)) (steady : Option ℕ) (faults_now : ℕ) (m n : ManagerState) (net : Nets) (before after : Option (List ℕ)) (r : Status) where
  pub reached_from : {kept kept_so : Type 0} {mid faults : ℕ} (o : Option ℕ) → (kept → kept_so) → mid ≡ faults
      → ReachesAt why named o steady kept mid faults_now m n net before after r → ReachesAt why named o steady kept_so faults faults_now m n net before after r
  reached_from None so same none = record { disk = so none.disk; same = none.same; untouched = none.untouched; told = none.told }
  reached_from (Some peer) so same (inl un) = inl (record {
    disk = so un.disk;
    same = un.same;
    finished = un.finished;
    faults = un.faults;
    lost = un.lost;
    told = un.told;
  })
  reached_from (Some peer) so same (inr over) = inr (record {
    end = over.end;
    reach = over.reach;
    up = over.up;
    disk_faults = subst (λ (k : ℕ). FaultsAsSaid is_disk_fault k faults_now over.end) same over.disk_faults;
    faults = over.faults;
    lost = over.lost;
    told = over.told;
  })

-- How the program ends by what is told.

by_line : (P : Status → Type 0) (text : List ℕ) (end : Status) (before after : Option (List ℕ)) (r : Status) → P end → P status.WriteFault → P status.Memory
    → Tells text end before after r ⊎ ((r ≡ status.Memory) × (after ≡ before)) → P r
by_line P text end before after r ended failed none (inl told) = told_is P text end before after r told ended failed
by_line P text end before after r ended failed none (inr told) = subst P (sym told.0) none

pub reach_as : (P : Status → Type 0) (end : Answer) (before after : Option (List ℕ)) (r : Status) → P (reach_status end) → P status.WriteFault → P status.Memory
    → TellsReach end before after r → P r
reach_as P (Ok done) before after r ended failed none told = by_line P (end_line 1 (Ok done)) status.Done before after r ended failed none told
reach_as P (Err (fault.Peer why)) before after r ended failed none told =
    by_line P (end_line 1 (Err (fault.Peer why))) (status.Peer why) before after r ended failed none told
reach_as P (Err fault.ReadFault) before after r ended failed none told =
    by_line P (end_line 1 (Err fault.ReadFault)) status.NetFault before after r ended failed none told
reach_as P (Err fault.WriteFault) before after r ended failed none told =
    by_line P (end_line 1 (Err fault.WriteFault)) status.NetFault before after r ended failed none told
reach_as P (Err fault.DiskFault) before after r ended failed none told = subst P (sym told.0) ended
reach_as P (Err fault.Memory) before after r ended failed none told = subst P (sym told.0) none

-- Each fault has its cause.

pub disk_of : (a b : ℕ) (end : Answer) → FaultsAsSaid is_disk_fault a b end → DiskFaultHasCause a b (reach_status end)
disk_of a b (Err (fault.Peer why)) said = tt
disk_of a b (Err fault.DiskFault) said = said
disk_of a b end said = tt

net_of : (given : Type 0) (a b : ℕ) (end : Answer) → FaultsAsSaid is_lost a b end → NetFaultHasCause (given ⊎ Rose a b) (reach_status end)
net_of given a b (Err (fault.Peer why)) said = tt
net_of given a b (Err fault.ReadFault) said = inr said
net_of given a b (Err fault.WriteFault) said = inr said
net_of given a b end said = tt

pub end_of : (end : Answer) → IsLinkEnd (reach_status end)
end_of (Ok done) = tt
end_of (Err (fault.Peer why)) = tt
end_of end = tt

module _ (why : Errand) (named : Option (List ℕ)) (steady : Option ℕ) (kept : Type 0) (faults faults_now : ℕ) (m n : ManagerState) (net : Nets) (before after : Option (List ℕ)) (r : Status) where
  -- P holds of how a peer at an index is reached, where it holds of each end that it can have.
  reached_as : (P : Status → Type 0) (o : Option ℕ) → ReachesAt why named o steady kept faults faults_now m n net before after r
      → P status.Refused → P status.WriteFault → P status.Memory → (Rose net.faults net.faults_now → P status.NetFault)
      → ((end : Answer) → FaultsAsSaid is_disk_fault faults faults_now end → FaultsAsSaid is_lost net.lost net.lost_now end → P (reach_status end)) → P r
  reached_as P None none refused failed memory given ended = told_is P (codes "nopeer\n") status.Refused before after r none.told refused failed
  reached_as P (Some peer) (inl un) refused failed memory given ended =
      told_is P (codes "connection 1: netfault\n") status.NetFault before after r un.told (given un.faults) failed
  reached_as P (Some peer) (inr over) refused failed memory given ended =
      reach_as P over.end before after r (ended over.end over.disk_faults over.lost) failed memory over.told

  -- A net fault has its cause.
  pub reached_net : (o : Option ℕ) → ReachesAt why named o steady kept faults faults_now m n net before after r
      → NetFaultHasCause (Rose net.faults net.faults_now ⊎ Rose net.lost net.lost_now) r
  reached_net o reaches = reached_as (NetFaultHasCause (Rose net.faults net.faults_now ⊎ Rose net.lost net.lost_now)) o reaches tt tt tt (λ rose. inl rose)
      (λ end disk lost. net_of (Rose net.faults net.faults_now) net.lost net.lost_now end lost)

-- Where no device failed, the program ends with no fault.

ended_faultless : (a b l m : ℕ) (end : Answer) → FaultsAsSaid is_disk_fault a b end → FaultsAsSaid is_lost l m end → (Rose a b → ⊥) → (Rose l m → ⊥)
    → IsFaultless (reach_status end)
ended_faultless a b l m (Err (fault.Peer why)) disk lost none kept = tt
ended_faultless a b l m (Err fault.ReadFault) disk lost none kept = absurd (kept lost)
ended_faultless a b l m (Err fault.WriteFault) disk lost none kept = absurd (kept lost)
ended_faultless a b l m (Err fault.DiskFault) disk lost none kept = absurd (none disk)
ended_faultless a b l m end disk lost none kept = tt

-- with no write fault, since the output did not fail
abbrev IfWritten : (writes writes_now : ℕ) → Status → Type 0
IfWritten writes writes_now r = WriteFaultHasCause writes writes_now r → IsFaultless r

-- The same of a store.

module _ (why : Errand) (named : Option (List ℕ)) (host : List ℕ) (steady : Option ℕ) (d e : View) (net : Nets) (before after : Option (List ℕ)) (r : Status) where
  abbrev peer_of : ManagerState → Option ℕ
  peer_of m = index_of_host m.store.state.peers host

  pub store_net : ReachesStore why named host steady d e net before after r → NetFaultHasCause (Rose net.faults net.faults_now ⊎ Rose net.lost net.lost_now) r
  store_net (inl p) = reached_net why named steady (IsOpenedOnly d e) d.faults e.faults p.before p.after net before after r (peer_of p.before) p.done
  store_net (inr p) = unopened_net (Rose net.faults net.faults_now ⊎ Rose net.lost net.lost_now) d e r p.0.0

  pub reach_completes : (writes writes_now : ℕ) → ReachesStore why named host steady d e net before after r → WriteFaultHasCause writes writes_now r
      → CompletesReach d e net writes writes_now r
  reach_completes writes writes_now (inl p) cause sound disk given kept written =
      reached_as why named steady (IsOpenedOnly d e) d.faults e.faults p.before p.after net before after r (IfWritten writes writes_now) (peer_of p.before) p.done
      (λ none. tt) (λ rose. absurd (written rose)) (λ none. tt) (λ rose none. absurd (given rose))
      (λ end failed lost none. ended_faultless d.faults e.faults net.lost net.lost_now end failed lost disk kept) cause
  reach_completes writes writes_now (inr p) cause sound disk given kept written = unopened_faultless d e r p.0.0 sound disk
