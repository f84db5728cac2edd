use Rattle.std.proofs.Common.{◌<◌, List, length, ap, ◌∙◌, subst}
use Rattle.mqb_base.specs.Rooms.{WithRooms}
use Rattle.mqb_tables.specs.Rooms.{MemberRooms}
use Rattle.mqb_tables.proofs.Each.{one_more}
use Rattle.mqb_model.specs.Lists.{with_changed}
use Rattle.mqb_model.specs.managers.Beside.{all_unmarked}
use Rattle.mqb_plain.specs.Plain.{PlainLists, PlainRooms}
use Rattle.mqb_tables.proofs.plain_outs.PlainOuts.unmark.Goals as goal

pub loop-peer-preserved : goal.loop-peer-preserved
loop-peer-preserved c =
    let within : c.loop-peer.peer < length c.args.self.now.lists = subst (λ n. c.loop-peer.peer < n) c.loop-peer.invariant.end c.loop-peer-test.true in
    record {
      so_far = c.unmark_for.ensures
          ∙ (ap (λ (w : WithRooms (List PlainLists) (MemberRooms PlainRooms)). record w { lists = with_changed all_unmarked w.lists c.loop-peer.peer }) c.loop-peer.invariant.so_far
          ∙ ap (λ (ls : List PlainLists). record c.args.self.now { lists = ls }) (one_more all_unmarked c.args.self.now.lists c.loop-peer.peer within));
      end = c.loop-peer.invariant.end;
    }
