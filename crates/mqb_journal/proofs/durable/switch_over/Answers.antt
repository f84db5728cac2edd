use Rattle.mqb_outside.specs.lemmas.Runs.{stays}
use Rattle.mqb_journal.proofs.Switching.{switched_moments}
use Rattle.mqb_journal.proofs.durable.switch_over.Goals as goal

pub returns-in_err-cut-clause-any_moment : goal.returns-in_err-cut-clause-any_moment
returns-in_err-cut-clause-any_moment g c =
    let wrote = c.in_ok-write_at.ensures in
    let synced = c.in_ok-sync.ensures in
    switched_moments _ _ _ _ c.args.at c.args.byte c.args.end (g.met.D.Disk.lawful c.args.disk.now) c.requires.settled wrote.written wrote.leaves wrote.time synced.durable synced.reads synced.leaves synced.time c.cut.ensures.leaves c.cut.ensures.time

pub returns-clause-any_moment : goal.returns-clause-any_moment
returns-clause-any_moment g c =
    let wrote = c.in_ok-write_at.ensures in
    let synced = c.in_ok-sync.ensures in
    stays _ _ _ _
    (switched_moments _ _ _ _ c.args.at c.args.byte c.args.end (g.met.D.Disk.lawful c.args.disk.now) c.requires.settled wrote.written wrote.leaves wrote.time synced.durable synced.reads synced.leaves synced.time c.in_ok-cut.ensures.leaves c.in_ok-cut.ensures.time)
    c.sync-2.ensures.time c.sync-2.ensures.leaves
