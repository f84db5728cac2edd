use Rattle.std.proofs.Common.{◌≡◌, Some, length, sym, subst}
use Rattle.std.specs.Prelude.{slice_get}
use Rattle.mqb_tables.specs.Waits.{CanWait}
use Rattle.mqb_plain.specs.Plain.{outgoing_in, room_in, without}
use Rattle.mqb_tables.specs.Seen.{lists_of, rooms_of}
use Rattle.mqb_plain.specs.Plain.{PlainLists}
use Rattle.mqb_tables.proofs.Lens.{changed, fact_back, fact_now, left}
use Rattle.mqb_tables.proofs.Waiting.{can_wait_back}
use Rattle.mqb_tables.proofs.plain_outs.PlainOuts.remove.Goals as goal

pub returns-clause-removed : goal.returns-clause-removed
returns-clause-removed c =
    fact_back lists_of rooms_of c.self.inside.peers c.args.self.now c.self.view_is c.args.peer c.get_mut.result.now c.get_mut.ensures.value (λ p. slice_get (outgoing_in c.args.lane p) c.args.index ≡ Some c.remove.result) c.remove.ensures.removed

pub returns-clause-plain : goal.returns-clause-plain
returns-clause-plain c =
    changed lists_of rooms_of c.self.inside.peers c.args.self.now c.self.view_is c.args.peer c.get_mut.result.now c.get_mut.ensures.value c.remove.new.plain (without c.args.lane c.args.index) c.remove.ensures.lists c.remove.ensures.rooms

pub returns-clause-back : goal.returns-clause-back
returns-clause-back c =
    fact_now lists_of rooms_of c.self.inside.peers c.args.self.now c.self.view_is c.args.peer c.get_mut.result.now c.get_mut.ensures.value c.remove.new.plain (CanWait c.args.lane c.args.index c.remove.result)
    (subst (λ (p : PlainLists). CanWait c.args.lane c.args.index c.remove.result p) (sym c.remove.ensures.lists)
    (can_wait_back c.args.lane c.args.index c.remove.result c.get_mut.result.now.lists c.remove.ensures.removed c.remove.ensures.in_order))

pub returns-clause-room : goal.returns-clause-room
returns-clause-room c =
    left lists_of rooms_of c.self.inside.peers c.args.self.now c.self.view_is c.args.peer c.get_mut.result.now c.get_mut.ensures.value c.remove.new.plain (λ p. length (outgoing_in c.args.lane p)) (room_in c.args.lane) c.remove.ensures.left
