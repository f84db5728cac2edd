use Rattle.std.proofs.Common.{sym, ◌∙◌, arith}
use Rattle.mqb_model.specs.rules.Timeouts.{lapses}
use Rattle.mqb_timeouts.specs.Waiting.{waiting}
use Rattle.mqb_timeouts.proofs.Lapsed.{count_waiting, lapsing_none, lapsing_seen}
use Rattle.mqb_queue.proofs.Positions.{none_found}
use Rattle.mqb_timeouts.proofs.lapses.index_lapsing.Goals as goal

pub returns-then-from-plain_count : goal.returns-then-from-plain_count
returns-then-from-plain_count c =
    let count = c.plain_count.ensures.count ∙ count_waiting c.args.lane c.args.contents.now.lists c.args.k in
    sym (none_found (lapses c.args.now) (waiting c.args.lane c.args.contents.now.lists c.args.k) c.args.from c.requires
    (omega (arith, count, c.if-from-plain_count.true)))

pub index_due_from-requires : goal.index_due_from-requires
index_due_from-requires c = lapsing_none c.args.lane c.args.now c.args.contents.now.lists c.args.k c.args.from c.in_ok-messages.messages.now
    c.in_ok-messages.ensures.messages c.requires

pub returns-in-Some : goal.returns-in-Some
returns-in-Some c = c.in-Some.ensures.index
    ∙ lapsing_seen c.args.lane c.args.now c.args.contents.now.lists c.args.k c.in_ok-messages.messages.now c.in_ok-messages.ensures.messages

pub returns-in-None : goal.returns-in-None
returns-in-None c = c.in-None.ensures.index
    ∙ lapsing_seen c.args.lane c.args.now c.args.contents.now.lists c.args.k c.in_ok-messages.messages.now c.in_ok-messages.ensures.messages
