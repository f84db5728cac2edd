-- How a probe ends, from the disk before its store was opened.
use Rattle.std.proofs.Common.{◌≡◌, ◌≢◌, inl, ℕ, List, Option, Err, Ok, sym, subst}
use Rattle.mqb_commands.specs.Opened.{IsMoment, OpensAs}
use Rattle.mqb_outside.specs.Disk.{View}
use Rattle.mqb_journal.specs.Causes.{FaultsAsSaid}
use Rattle.mqb_manager.specs.Keeping.{KeepsDisk}
use Rattle.mqb_manager.specs.lemmas.Keeping.{keeping_goes_on}
use Rattle.mqb_manager.specs.States.{IsUp, ManagerState}
use Rattle.mqb_serve.specs.Talking.{stored_of}
use Rattle.mqb_serving.specs.declared.purpose.Purpose.TheVariants as purpose
use Rattle.mqb_outside.specs.Faults.{Rose}
use Rattle.mqb_serving.specs.Serving.{Answer, Serves, ServesWhole, is_disk_fault, is_read_fault, is_write_fault}
use Rattle.mqb_serving.specs.declared.faults.ConnFault.TheVariants as fault
use Rattle.mqb_commands.specs.Outputs.{ReadFaultHasCause, WriteFaultHasCause}
use Rattle.mqb_commands.specs.declared.status.Status.{Status}
use Rattle.mqb_store_laws.specs.Settling.{OnlySettles}
use Rattle.mqb_commands.specs.lemmas.Opening.{opened_keeps}
use Rattle.mqb_connections.specs.Causes.{IsProbeEnd}
use Rattle.mqb_connections.specs.Probed.{CompletesProbe, ProbesStore}
use Rattle.mqb_connections.specs.Statuses.{IsFaultless, probe_status}

pub store_probes : (steady : Option ℕ) (d f e : View) (m n : ManagerState) (now : ℕ) (end : Answer) (held held_now taken taken_now : Option (List ℕ)) (r : Status)
    → OpensAs d m → OnlySettles d f → f.faults ≡ d.faults → IsMoment steady now
    → Serves purpose.Serve now (stored_of m) (stored_of n) held held_now taken taken_now end
    → ServesWhole end purpose.Serve now (stored_of m) (stored_of n) held taken taken_now
    → KeepsDisk f e m n → (end ≢ Err fault.DiskFault → IsUp n) → FaultsAsSaid is_disk_fault f.faults e.faults end → r ≡ probe_status end
    → ProbesStore steady d e held held_now taken taken_now r
store_probes steady d f e m n now end held held_now taken taken_now r opened reads same moment serves whole kept up disk ends = inl (record {
  first = m;
  last = n;
  now = now;
  end = end;
  opened = opened;
  moment = moment;
  serves = serves;
  whole = whole;
  disk = keeping_goes_on d f e m m n (opened_keeps d f m reads) opened.up kept;
  up = up;
  disk_faults = subst (λ (k : ℕ). FaultsAsSaid is_disk_fault k e.faults end) same disk;
  ends = ends;
})

ended_faultless : (a b r q w v : ℕ) (end : Answer) → FaultsAsSaid is_disk_fault a b end → FaultsAsSaid is_read_fault r q end → FaultsAsSaid is_write_fault w v end
    → (Rose a b → ⊥) → (Rose r q → ⊥) → (Rose w v → ⊥) → IsFaultless (probe_status end)
ended_faultless a b r q w v (Err (fault.Peer why)) disk read wrote none heard written = tt
ended_faultless a b r q w v (Err fault.ReadFault) disk read wrote none heard written = absurd (heard read)
ended_faultless a b r q w v (Err fault.WriteFault) disk read wrote none heard written = absurd (written wrote)
ended_faultless a b r q w v (Err fault.DiskFault) disk read wrote none heard written = absurd (none disk)
ended_faultless a b r q w v end disk read wrote none heard written = tt

pub probe_completes : (d f e : View) (reads reads_now writes writes_now : ℕ) (end : Answer) (r : Status) → f.faults ≡ d.faults
    → FaultsAsSaid is_disk_fault f.faults e.faults end → FaultsAsSaid is_read_fault reads reads_now end → FaultsAsSaid is_write_fault writes writes_now end
    → r ≡ probe_status end → CompletesProbe d e reads reads_now writes writes_now r
probe_completes d f e reads reads_now writes writes_now end r same disk read wrote ends sound none heard written = subst IsFaultless (sym ends)
    (ended_faultless f.faults e.faults reads reads_now writes writes_now end disk read wrote
    (λ rose. none (subst (λ (k : ℕ). Rose k e.faults) same rose)) heard written)

-- Each fault has its cause.

read_of : (a b : ℕ) (end : Answer) → FaultsAsSaid is_read_fault a b end → ReadFaultHasCause a b (probe_status end)
read_of a b (Err (fault.Peer why)) said = tt
read_of a b (Err fault.ReadFault) said = said
read_of a b end said = tt

write_of : (a b : ℕ) (end : Answer) → FaultsAsSaid is_write_fault a b end → WriteFaultHasCause a b (probe_status end)
write_of a b (Err (fault.Peer why)) said = tt
write_of a b (Err fault.WriteFault) said = said
write_of a b end said = tt

end_of : (end : Answer) → IsProbeEnd (probe_status end)
end_of (Ok done) = tt
end_of (Err (fault.Peer why)) = tt
end_of end = tt

pub probe_read : (a b : ℕ) (end : Answer) (r : Status) → r ≡ probe_status end → FaultsAsSaid is_read_fault a b end → ReadFaultHasCause a b r
probe_read a b end r is said = subst (ReadFaultHasCause a b) (sym is) (read_of a b end said)

pub probe_write : (a b : ℕ) (end : Answer) (r : Status) → r ≡ probe_status end → FaultsAsSaid is_write_fault a b end → WriteFaultHasCause a b r
probe_write a b end r is said = subst (WriteFaultHasCause a b) (sym is) (write_of a b end said)

pub probe_ends : (end : Answer) (r : Status) → r ≡ probe_status end → IsProbeEnd r
probe_ends end r is = subst IsProbeEnd (sym is) (end_of end)
