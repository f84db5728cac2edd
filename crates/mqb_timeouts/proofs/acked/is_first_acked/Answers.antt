use Rattle.std.proofs.Common.{ℕ, List, Some, None, ap, ◌∙◌}
use Rattle.std.specs.Prelude.{slice_get}
use Rattle.mqb_timeouts.proofs.Dropped.{first_leaves, none_leaves}
use Rattle.mqb_timeouts.proofs.acked.is_first_acked.Goals as goal

pub returns-in-Some-clause-first : goal.returns-in-Some-clause-first
returns-in-Some-clause-first c low =
    first_leaves c.args.number c.args.plain.now.lists.express c.in-Some.mark.now c.express-in_order.ensures.in_order
    (c.in-Some.ensures.value ∙ ap (λ (l : List ℕ). slice_get l 0) c.marks.ensures) low

pub returns-in-Some-clause-none : goal.returns-in-Some-clause-none
returns-in-Some-clause-none c above =
    none_leaves c.args.number c.args.plain.now.lists (Some c.in-Some.mark.now) c.express-in_order.ensures.in_order
    (c.in-Some.ensures.value ∙ ap (λ (l : List ℕ). slice_get l 0) c.marks.ensures) above

pub returns-in-None-clause-none : goal.returns-in-None-clause-none
returns-in-None-clause-none c same =
    none_leaves c.args.number c.args.plain.now.lists None c.express-in_order.ensures.in_order
    (c.in-None.ensures.value ∙ ap (λ (l : List ℕ). slice_get l 0) c.marks.ensures) same
