use Rattle.std.proofs.Common.{sym, arith}
use Rattle.std.proofs.lemmas.Option.{get_or_from_slice_get}
use Rattle.mqb_commands.proofs.Putting.{none_put, puts_more}
use Rattle.mqb_commands.proofs.turns.Taking.put_each.Goals as goal

pub loop-index-init : goal.loop-index-init
loop-index-init c = none_put c.args.self.at c.args.self.now c.args.priority c.args.count c.args.printer.now

pub loop-index-preserved : goal.loop-index-preserved
loop-index-preserved c =
    puts_more c.args.self.at c.args.self.now c.args.priority c.args.count c.loop-index.more c.in_ok-more.more c.args.messages.now c.loop-index.index
    c.at-message.result.now c.args.printer.now c.loop-index.printer c.put_free.new.printer (omega (arith, c.loop-index-test.true, c.len-index-end.ensures)) (sym (get_or_from_slice_get c.args.messages.now c.loop-index.index c.at-message.result.now c.at-message.result.now c.at-message.ensures))
    c.loop-index.invariant c.in_ok-more.ensures
