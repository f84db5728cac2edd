use Rattle.std.specs.Fmt.{decimal}
use Rattle.std.specs.Prelude.{codes}
use Rattle.mqb_commands.specs.Texts.{bad_store_text}
use Rattle.mqb_commands.proofs.TextLines.{three_wrote}
use Rattle.mqb_commands.proofs.faults.put_bad_store.Goals as goal

pub returns : goal.returns
unfolding bad_store_text
returns c =
    three_wrote c.put-2.result c.args.printer.now c.put.new.self c.count.new.self c.put-2.new.self (codes "fault: badstore ") (decimal c.args.at) (codes "\n")
    c.in_ok-put.ensures c.in_ok-count.ensures c.put-2.ensures
