use Rattle.std.proofs.Common.{sym, ◌∙◌}
use Rattle.mqb_arrivals.proofs.Waiting.{index_is}
use Rattle.mqb_arrivals.proofs.releases.index_for.Goals as goal

pub returns-in_err-k-clause-index : goal.returns-in_err-k-clause-index
returns-in_err-k-clause-index c = c.from_residual.ensures ∙ (sym c.in_err-k.was ∙ index_is c.args.contents.now.lists c.args.number c.args.peer c.plain-plain.result.now.lists c.recoverable.result.now
    c.own_id.result c.index_of.result c.plain-plain.ensures c.recoverable.ensures.messages c.own_id.ensures c.index_of.ensures.index)

pub returns-clause-index : goal.returns-clause-index
returns-clause-index c = sym c.in_ok-k.was ∙ index_is c.args.contents.now.lists c.args.number c.args.peer c.plain-plain.result.now.lists c.recoverable.result.now
    c.own_id.result c.index_of.result c.plain-plain.ensures c.recoverable.ensures.messages c.own_id.ensures c.index_of.ensures.index
