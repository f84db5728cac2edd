-- What ends a command that serves the connections of a store before all are served.
use Rattle.std.proofs.Common.{◌≡◌, ℕ, List, Option, Some, None, Err, inl, inr, refl, sym, subst}
use Rattle.mqb_commands.specs.Causes.{DiskFaultHasCause}
use Rattle.mqb_outside.specs.Disk.{View}
use Rattle.mqb_outside.specs.Faults.{Rose}
use Rattle.mqb_serving.specs.Serving.{Answer}
use Rattle.mqb_commands.specs.Outputs.{WriteFaultHasCause}
use Rattle.mqb_commands.specs.declared.status.Status.{Status}
use Rattle.mqb_commands.specs.declared.status.Status.TheVariants as status
use Rattle.mqb_connections.specs.Causes.{NetFaultHasCause}
use Rattle.mqb_connections.specs.Served.{Completes, EndsServing}
use Rattle.mqb_connections.specs.Told.{TellsEnd, TellsNetFault}
use Rattle.mqb_connections.specs.Visits.{Visit}

-- an end behind connections that were served
abbrev IsServeEnd : Status → Type 0
IsServeEnd status.Done = Unit {0}
IsServeEnd status.NetFault = Unit {0}
IsServeEnd status.DiskFault = Unit {0}
IsServeEnd status.Memory = Unit {0}
IsServeEnd status.WriteFault = Unit {0}
IsServeEnd _ = ⊥

told_ends : (number : ℕ) (end : Answer) (before after : Option (List ℕ)) (r : Status) → TellsEnd number end before after (Err r) → IsServeEnd r
told_ends number end before after status.Done told = tt
told_ends number end before after status.NetFault told = tt
told_ends number end before after status.DiskFault told = tt
told_ends number end before after status.Memory told = tt
told_ends number end before after status.WriteFault told = tt
told_ends number end before after _ told = told

net_ends : (before after : Option (List ℕ)) (r : Status) → TellsNetFault before after r → IsServeEnd r
net_ends before after status.Done told = tt
net_ends before after status.NetFault told = tt
net_ends before after status.DiskFault told = tt
net_ends before after status.Memory told = tt
net_ends before after status.WriteFault told = tt
net_ends before after _ told = told

serving_ends : (idle : Type 0) (number count served faults faults_now : ℕ) (before after : Option (List ℕ)) (r : Status) (last : Option Visit)
    → EndsServing idle number count served faults faults_now before after r last → IsServeEnd r
serving_ends idle number count served faults faults_now before after r (Some v) cut = told_ends _ _ _ _ r cut.1
serving_ends idle number count served faults faults_now before after r None (inl done) = subst IsServeEnd (sym done.1) tt
serving_ends idle number count served faults faults_now before after r None (inr cut) = net_ends _ _ r cut.2

by_causes : (d e : View) (faults faults_now writes writes_now : ℕ) (r : Status) → IsServeEnd r → WriteFaultHasCause writes writes_now r
    → DiskFaultHasCause d.faults e.faults r → NetFaultHasCause (Rose faults faults_now) r → Completes d e faults faults_now writes writes_now r
by_causes d e faults faults_now writes writes_now status.Done end write disk net = λ _ _ _ _. inl refl
by_causes d e faults faults_now writes writes_now status.Memory end write disk net = λ _ _ _ _. inr refl
by_causes d e faults faults_now writes writes_now status.NetFault end write disk net = λ _ _ no_net _. absurd (no_net net)
by_causes d e faults faults_now writes writes_now status.DiskFault end write disk net = λ _ no_disk _ _. absurd (no_disk disk)
by_causes d e faults faults_now writes writes_now status.WriteFault end write disk net = λ _ _ _ no_write. absurd (no_write write)
by_causes d e faults faults_now writes writes_now _ end write disk net = absurd end

pub served_completes : (idle : Type 0) (d f e : View) (number count served faults faults_now writes writes_now : ℕ) (before after : Option (List ℕ)) (r : Status) (last : Option Visit)
    → EndsServing idle number count served faults faults_now before after r last → f.faults ≡ d.faults → WriteFaultHasCause writes writes_now r
    → DiskFaultHasCause f.faults e.faults r → NetFaultHasCause (Rose faults faults_now) r → Completes d e faults faults_now writes writes_now r
served_completes idle d f e number count served faults faults_now writes writes_now before after r last ends same write disk net =
    by_causes d e faults faults_now writes writes_now r (serving_ends idle number count served faults faults_now before after r last ends) write
    (subst (λ (k : ℕ). DiskFaultHasCause k e.faults r) same disk) net
