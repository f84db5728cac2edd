use Rattle.mqb_disk.specs.History.{history}
use Rattle.mqb_disk.proofs.Histories.{quiet_time, synced_leaves}
use Rattle.mqb_disk.proofs.trace_disk.TraceDiskDisk.sync.Goals as goal

pub returns-then-self-eq0-clause-time : goal.returns-then-self-eq0-clause-time
returns-then-self-eq0-clause-time c = quiet_time (history c.args.self.now.bytes.items c.args.self.now.calls.items) _ _ _ _ _ _ _ c.fail.ensures.kept

pub returns-clause-leaves : goal.returns-clause-leaves
returns-clause-leaves c = synced_leaves c.args.self.now.bytes.items c.args.self.now.calls.items _ c.push_reserved.ensures.items
