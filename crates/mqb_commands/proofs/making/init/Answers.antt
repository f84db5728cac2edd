use Rattle.std.proofs.Common.{subst, sym}
use Rattle.mqb_outside.specs.Disk.{OnlyReads}
use Rattle.mqb_outside.specs.lemmas.Runs.{reads_none}
use Rattle.mqb_commands.proofs.Failing.{format_fails}
use Rattle.mqb_commands.proofs.making.init.Goals as goal

pub returns-in-Err-clause-inits : goal.returns-in-Err-clause-inits
returns-in-Err-clause-inits g c =
    let d = g.D.Disk.view c.args.disk.now in
    format_fails c.args.identity.now d (g.D.Disk.view c.format.new.disk) c.in-Err.fault c.open_status.result c.fault.result.end c.fault.result.text.items
    c.open_status.ensures c.fault.ensures c.in-Err.ensures.cause c.in-Err.ensures.not_empty c.in-Err.ensures.not_written
    (λ e. subst (λ k. OnlyReads d (g.D.Disk.view k)) (sym (c.in-Err.ensures.memory e)) (reads_none d (g.met.D.Disk.lawful c.args.disk.now)))
    c.in-Err.ensures.never
