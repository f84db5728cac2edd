use Rattle.std.proofs.Common.{ap}
use Rattle.mqb_plain.specs.Plain.{inserted}
use Rattle.mqb_tables.specs.Seen.{lists_of, rooms_of}
use Rattle.mqb_tables.proofs.Lens.{changed}
use Rattle.mqb_tables.proofs.plain_outs.PlainOuts.insert.Goals as goal

pub returns : goal.returns
returns c =
    changed lists_of rooms_of c.self.inside.peers c.args.self.now c.self.view_is c.args.peer c.get_mut.result.now c.get_mut.ensures.value c.insert.new.self (inserted c.args.lane c.args.index c.args.outgoing) (ap lists_of c.insert.ensures) (ap rooms_of c.insert.ensures)
