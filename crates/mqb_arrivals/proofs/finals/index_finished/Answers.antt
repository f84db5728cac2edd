use Rattle.std.proofs.Common.{sym, ◌∙◌}
use Rattle.mqb_arrivals.proofs.Finishing.{row_found}
use Rattle.mqb_arrivals.proofs.finals.index_finished.Goals as goal

pub returns-in_err-k-clause-index : goal.returns-in_err-k-clause-index
returns-in_err-k-clause-index c = c.from_residual.ensures ∙ (sym c.in_err-k.was
    ∙ row_found c.args.peer c.args.id c.outs.result.now c.args.contents.now.lists.outs c.index_of_row.result c.outs.ensures.rows c.index_of_row.ensures.index)

pub returns-clause-index : goal.returns-clause-index
returns-clause-index c = sym c.in_ok-k.was
    ∙ row_found c.args.peer c.args.id c.outs.result.now c.args.contents.now.lists.outs c.index_of_row.result c.outs.ensures.rows c.index_of_row.ensures.index
