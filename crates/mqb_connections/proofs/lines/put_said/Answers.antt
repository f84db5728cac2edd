use Rattle.std.specs.Fmt.{decimal}
use Rattle.std.specs.Prelude.{codes}
use Rattle.mqb_commands.specs.Texts.{end_text}
use Rattle.mqb_connections.specs.Visits.{said_line}
use Rattle.mqb_connections.proofs.Parts.{line_wrote}
use Rattle.mqb_connections.proofs.lines.put_said.Goals as goal

pub returns : goal.returns
unfolding said_line
returns c =
    line_wrote _ c.args.printer.now c.put.new.self c.number.new.self c.put-2.new.self c.put_end.new.printer c.put-3.new.self
    (codes "connection ") (decimal c.args.number) (codes ": ") (end_text c.args.end) (codes "\n")
    c.in_ok-put.ensures c.in_ok-number.ensures c.in_ok-put-2.ensures c.in_ok-put_end.ensures c.put-3.ensures
