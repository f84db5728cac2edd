use Rattle.mqb_contents.specs.Rows.{with_out}
use Rattle.mqb_contents.proofs.Grown.{grown_trans}
use Rattle.mqb_contents.specs.mqb_model.rules.Sequences.{with_kept}
use Rattle.mqb_queue.proofs.Changed.{on_ok}
use Rattle.mqb_drafts.specs.Rows.{committing, keeping_last}
use Rattle.mqb_drafts.proofs.Outs.{kept_next, two_steps}
use Rattle.mqb_drafts.proofs.drafts.Draft.continue_sequence.Goals as goal

pub returns-clause-ok : goal.returns-clause-ok
returns-clause-ok c =
    let s = c.args.self.now.effect.state in
    on_ok c.keep_last.result c.keep_last.ensures.ok (two_steps c.args.self.now.effect c.commit.new.self.effect c.keep_last.new.self.effect
    (with_out committing s c.args.row) (with_out (with_kept c.args.message) s c.args.row) (λ t. with_out (keeping_last c.args.message) t c.args.row)
    c.in_ok-commit.ensures.ok (kept_next s c.args.row c.args.message))

pub returns-clause-grown : goal.returns-clause-grown
returns-clause-grown c = grown_trans c.commit.ensures.grown c.keep_last.ensures.grown
