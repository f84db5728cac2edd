use Rattle.std.proofs.Common.{refl}
use Rattle.mqb_disk.specs.History.{history}
use Rattle.mqb_disk.proofs.Histories.{quiet_reads}
use Rattle.mqb_disk.proofs.trace_disk.TraceDiskDisk.len.Goals as goal

pub returns-then-self-eq0-clause-reads : goal.returns-then-self-eq0-clause-reads
returns-then-self-eq0-clause-reads c = quiet_reads _ (history c.args.self.now.bytes.items c.args.self.now.calls.items) _ _ _ _ _ _ _ c.args.self.now.bounded c.args.self.now.small c.fail.ensures.kept

pub returns-clause-reads : goal.returns-clause-reads
returns-clause-reads c = quiet_reads _ (history c.args.self.now.bytes.items c.args.self.now.calls.items) _ _ _ _ _ _ _ c.args.self.now.bounded c.args.self.now.small refl
