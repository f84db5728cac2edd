use Rattle.std.proofs.Common.{ℕ, sym, ◌∙◌, subst}
use Rattle.mqb_queue.specs.Passes.{IsPassed}
use Rattle.mqb_queue.proofs.Passed.{passed_all}
use Rattle.mqb_queue.proofs.passes.next_pass.Goals as goal

pub returns-then-count-eq0 : goal.returns-then-count-eq0
returns-then-count-eq0 c =
    subst (λ (n : ℕ). IsPassed c.args.k (record { index = n; bound = 0 }) c.args.messages.now) (sym c.len.ensures)
    (passed_all c.args.k c.args.messages.now (sym c.requires.count ∙ c.if-count-eq0.true))
