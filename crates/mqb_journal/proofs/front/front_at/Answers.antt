use Rattle.mqb_journal.proofs.Beginning.{reads_on_header}
use Rattle.mqb_journal.proofs.front.front_at.Goals as goal

pub returns-clause-no_further : goal.returns-clause-no_further
returns-clause-no_further g c d told =
    reads_on_header (g.D.Disk.view c.args.disk.now).reached (g.D.Disk.view c.header_at.new.disk).reached (g.D.Disk.view c.later_at.new.disk).reached d
    c.header_at.ensures.reached (c.later_at.ensures.no_further d (c.header_at.ensures.reads.unchanged.reads.none_lost d told))
