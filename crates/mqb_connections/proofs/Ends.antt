-- What the end of one connection says of the counts of faults.
use Rattle.std.proofs.Common.{◌≡◌, ◌+◌, ◌-◌, ◌<◌, ℕ, List, Option, Result, Ok, Err, Some, None, sym, ap, subst, ◌∙◌, arith}
use Rattle.std.specs.Prelude.{IfSome, MatchResult}
use Rattle.std.specs.Option.{option_map}
use Rattle.mqb_commands.specs.Causes.{DiskFaultHasCause}
use Rattle.mqb_journal.specs.Causes.{FaultsAsSaid}
use Rattle.mqb_outside.specs.Faults.{Rose}
use Rattle.mqb_serving.specs.Serving.{Answer, is_disk_fault, is_read_fault, is_write_fault}
use Rattle.mqb_serving.specs.declared.faults.ConnFault.TheVariants as fault
use Rattle.mqb_commands.specs.declared.status.Status.{Status}
use Rattle.mqb_commands.specs.declared.status.Status.TheVariants as status
use Rattle.mqb_commands.specs.Outputs as may
use Rattle.mqb_connections.specs.Causes.{is_lost}
use Rattle.mqb_connections.specs.Served.{end_of}
use Rattle.mqb_connections.specs.Statuses.{probe_status}
use Rattle.mqb_connections.specs.Told.{GoesOn, TellsEnd}

-- A net that gave a connection may take it back.
pub given_back : (before now : Option ℕ) → now ≡ option_map (λ n. n + 1) before → IfSome now (λ n. 0 < n)
given_back None now is = subst (λ (o : Option ℕ). IfSome o (λ n. 0 < n)) (sym is) tt
given_back (Some n) now is =
    let more : 0 < n + 1 = omega arith in
    subst (λ (o : Option ℕ). IfSome o (λ k. 0 < k)) (sym is) more

-- and then none is unfinished that was not before
pub taken_back : (before given now : Option ℕ) → given ≡ option_map (λ n. n + 1) before → now ≡ option_map (λ n. n - 1) given → now ≡ before
taken_back None given now opened closed = closed ∙ ap (λ (o : Option ℕ). option_map (λ n. n - 1) o) opened
taken_back (Some n) given now opened closed =
    let same : n + 1 - 1 ≡ n = omega arith in
    closed ∙ ap (λ (o : Option ℕ). option_map (λ n. n - 1) o) opened ∙ ap (λ (k : ℕ). Some k) same

-- Counts of faults. A line that was written is one behind which the program goes on.

same_faults : (a b : ℕ) (end : Answer) → GoesOn end → FaultsAsSaid is_disk_fault a b end → b ≡ a
same_faults a b (Err (fault.Peer why)) goes said = said
same_faults a b (Err fault.DiskFault) goes said = absurd goes
same_faults a b (Err fault.Memory) goes said = absurd goes
same_faults a b end goes said = said

pub disk_behind : (number a b : ℕ) (end : Answer) (before after : Option (List ℕ)) (r : Result (Unit {0}) Status)
    → TellsEnd number end before after r → FaultsAsSaid is_disk_fault a b end → MatchResult r (λ _. b ≡ a) (DiskFaultHasCause a b)
disk_behind number a b end before after (Ok done) told said = same_faults a b end told.0 said
disk_behind number a b end before after (Err status.DiskFault) told said = subst (FaultsAsSaid is_disk_fault a b) told.0 said
disk_behind number a b end before after (Err status.Memory) told said = tt
disk_behind number a b end before after (Err status.WriteFault) told said = tt
disk_behind number a b end before after (Err (status.Script line kind)) told said = absurd told
disk_behind number a b end before after r told said = absurd told

-- A connection that is taken back is lost where a half of it failed.
pub lost_as_said : (r w l m : ℕ) (end : Answer) → FaultsAsSaid is_read_fault 0 r end → FaultsAsSaid is_write_fault 0 w end
    → (0 < r + w → Rose l m) → (r + w ≡ 0 → m ≡ l) → FaultsAsSaid is_lost l m end
lost_as_said r w l m (Err (fault.Peer why)) reads writes lost kept = kept (omega (arith, reads, writes))
lost_as_said r w l m (Err fault.ReadFault) reads writes lost kept = lost (omega (arith, reads, writes))
lost_as_said r w l m (Err fault.WriteFault) reads writes lost kept = lost (omega (arith, reads, writes))
lost_as_said r w l m end reads writes lost kept = kept (omega (arith, reads, writes))

pub lost_over : (r0 r w0 w l0 l m : ℕ) (end : Answer) → r0 ≡ 0 → w0 ≡ 0 → l ≡ l0 → FaultsAsSaid is_read_fault r0 r end
    → FaultsAsSaid is_write_fault w0 w end → (0 < r + w → Rose l m) → (r + w ≡ 0 → m ≡ l) → FaultsAsSaid is_lost l0 m end
lost_over r0 r w0 w l0 l m end no_read no_write same reads writes lost kept =
    subst (λ (k : ℕ). FaultsAsSaid is_lost k m end) same (lost_as_said r w l m end
    (subst (λ (k : ℕ). FaultsAsSaid is_read_fault k r end) no_read reads) (subst (λ (k : ℕ). FaultsAsSaid is_write_fault k w end) no_write writes) lost kept)

-- The end of a probe.

pub probe_disk : (a0 a b : ℕ) (end : Answer) (s : Status) → a ≡ a0 → s ≡ probe_status end → FaultsAsSaid is_disk_fault a b end → DiskFaultHasCause a0 b s
probe_disk a0 a b (Err (fault.Peer why)) s same is said = subst (DiskFaultHasCause a0 b) (sym is) tt
probe_disk a0 a b (Err fault.DiskFault) s same is said = subst (DiskFaultHasCause a0 b) (sym is) (subst (λ (k : ℕ). Rose k b) same said)
probe_disk a0 a b end s same is said = subst (DiskFaultHasCause a0 b) (sym is) tt

-- A shell goes on behind no end of a connection with which a command ends.
pub calm_behind : {before_faults faults : ℕ} (number : ℕ) (end : Answer) (before after : Option (List ℕ)) (r : Result (Unit {0}) Status) → TellsEnd number end before after r
    → MatchResult r (λ _. faults ≡ before_faults) (DiskFaultHasCause before_faults faults) → may.GoesOn (end_of r) → faults ≡ before_faults
calm_behind number end before after (Ok done) told same goes = same
calm_behind number end before after (Err status.DiskFault) told same goes = absurd goes
calm_behind number end before after (Err status.WriteFault) told same goes = absurd goes
calm_behind number end before after (Err status.Memory) told same goes = absurd goes
calm_behind number end before after (Err _) told same goes = absurd told
