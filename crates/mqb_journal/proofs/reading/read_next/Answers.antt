use Rattle.std.proofs.Common.{inl, inr, arith}
use Rattle.mqb_journal.proofs.Scans.{reads_next}
use Rattle.mqb_journal.proofs.reading.read_next.Goals as goal

pub returns-in_err-n-clause-no_further : goal.returns-in_err-n-clause-no_further
returns-in_err-n-clause-no_further g c d told = inr (inl (c.requires.opened d told, omega (arith, c.number_at.ensures.reached)))

pub returns-in_err-is_open-clause-no_further : goal.returns-in_err-is_open-clause-no_further
returns-in_err-is_open-clause-no_further g c d told =
    reads_next c.args.gate c.in_ok-n.n (g.D.Disk.view c.args.disk.now).reached (g.D.Disk.view c.number_at.new.disk).reached (g.D.Disk.view c.fill.new.disk).reached d
    (c.requires.opened d told) (c.in_ok-n.ensures.spelled d told) (omega arith) (omega (arith, c.requires.length d told)) c.number_at.ensures.reached c.fill.ensures.reached

pub returns-clause-no_further : goal.returns-clause-no_further
returns-clause-no_further g c d told =
    reads_next c.args.gate c.in_ok-n.n (g.D.Disk.view c.args.disk.now).reached (g.D.Disk.view c.number_at.new.disk).reached (g.D.Disk.view c.fill.new.disk).reached d
    (c.requires.opened d told) (c.in_ok-n.ensures.spelled d told) (omega arith) (omega (arith, c.requires.length d told)) c.number_at.ensures.reached c.fill.ensures.reached
