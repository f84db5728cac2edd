use Rattle.std.proofs.Common.{rules, subst}
use Rattle.std.specs.Prelude.{◌≢◌}
use Rattle.mqb_commands.specs.declared.status.Status.TheVariants as status
use Rattle.mqb_outside.specs.Told.{Took}
use Rattle.mqb_shell.proofs.Finishing.{cause_by, ends_by}
use Rattle.mqb_shell.proofs.answering.end_answer.Goals as goal

pub returns-in-Ok-clause-ends : goal.returns-in-Ok-clause-ends
returns-in-Ok-clause-ends g c =
    let other : c.args.end ≢ status.WriteFault = search rules in
    ends_by c.args.end other (g.K.Sink.taken c.args.out.now) (g.K.Sink.taken c.write_all.new.out) c.goes_on.result c.goes_on.ensures.on c.goes_on.ensures.off
    (subst (Took (g.K.Sink.taken c.args.out.now) (g.K.Sink.taken c.write_all.new.out)) c.end_line.ensures c.in-Ok.ensures.whole)

pub returns-in-Ok-clause-cause : goal.returns-in-Ok-clause-cause
returns-in-Ok-clause-cause g c other = cause_by c.args.end other _ _ c.goes_on.result c.goes_on.ensures.off
