use Rattle.std.proofs.Common.{take}
use Rattle.mqb_commands.specs.Turns.{PutsFree}
use Rattle.mqb_commands.proofs.turns.Taking.put_each.Given as goal

abbrev pub invariant-loop-index : goal.invariant-loop-index
invariant-loop-index l = PutsFree l.self.at l.self.now l.priority l.count (take l.index l.messages) l.initial.printer l.printer l.more
