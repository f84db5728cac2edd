use Rattle.std.proofs.Common.{◌∙◌, ap, subst, sym}
use Rattle.std.proofs.lemmas.Result.{err_from_is_err_and}
use Rattle.std.specs.Prelude.{Err, ℕ}
use Rattle.mqb_journal.specs.declared.faults.OpenFault.{OpenFault}
use Rattle.mqb_journal.specs.declared.faults.OpenFault.TheVariants as opening
use Rattle.mqb_store.proofs.Read.{read_settled}
use Rattle.mqb_store.proofs.Steps.{same_fault}
use Rattle.mqb_store.proofs.replaying.replay_durably.Goals as goal
use Rattle.mqb_store.specs.Reaching.{StopsBehind}
use Rattle.mqb_store_laws.specs.lemmas.Settling.{reads_settle, settles_then, sync_settles}

pub returns-clause-read : goal.returns-clause-read
returns-clause-read g c =
    let d = g.D.Disk.view c.replay.new.disk in
    let e = g.D.Disk.view c.sync.new.self in
    read_settled d e c.replay.new.scan c.replay.new.state.lists c.in_ok-lines.lines.items c.in_ok-lines.ensures.read
    (sync_settles d e (g.met.D.Disk.lawful c.replay.new.disk) c.sync.ensures.reads c.sync.ensures.leaves c.sync.ensures.time c.sync.ensures.switch)

pub returns-in_err-lines-clause-reads : goal.returns-in_err-lines-clause-reads
returns-in_err-lines-clause-reads g c =
    reads_settle (g.D.Disk.view c.args.disk.now) (g.D.Disk.view c.replay.new.disk) c.replay.ensures.reads

pub returns-in_err-sync-clause-reads : goal.returns-in_err-sync-clause-reads
returns-in_err-sync-clause-reads g c =
    let d = g.D.Disk.view c.args.disk.now in
    let m = g.D.Disk.view c.replay.new.disk in
    let e = g.D.Disk.view c.sync.new.self in
    settles_then d m e (reads_settle d m c.replay.ensures.reads)
    (sync_settles m e (g.met.D.Disk.lawful c.replay.new.disk) c.sync.ensures.reads c.sync.ensures.leaves c.sync.ensures.time c.sync.ensures.switch)

pub returns-clause-reads : goal.returns-clause-reads
returns-clause-reads g c =
    let d = g.D.Disk.view c.args.disk.now in
    let m = g.D.Disk.view c.replay.new.disk in
    let e = g.D.Disk.view c.sync.new.self in
    settles_then d m e (reads_settle d m c.replay.ensures.reads)
    (sync_settles m e (g.met.D.Disk.lawful c.replay.new.disk) c.sync.ensures.reads c.sync.ensures.leaves c.sync.ensures.time c.sync.ensures.switch)

pub returns-in_err-lines-clause-bad : goal.returns-in_err-lines-clause-bad
returns-in_err-lines-clause-bad g c at is =
    let p = err_from_is_err_and c.from_residual.result c.from_residual.ensures.1 in
    c.in_err-lines.ensures.bad at (ap (λ (f : OpenFault). Err f) (sym p.2 ∙ same_fault p.0 (opening.BadStore at) (sym p.1 ∙ is)))

pub returns-in_err-sync-clause-no_further : goal.returns-in_err-sync-clause-no_further
returns-in_err-sync-clause-no_further g c before so_far content told =
    subst (λ (k : ℕ). StopsBehind before k content) (sym c.sync.ensures.reached) (c.replay.ensures.no_further before so_far content told)

pub returns-clause-no_further : goal.returns-clause-no_further
returns-clause-no_further g c before so_far content told =
    subst (λ (k : ℕ). StopsBehind before k content) (sym c.sync.ensures.reached) (c.replay.ensures.no_further before so_far content told)
