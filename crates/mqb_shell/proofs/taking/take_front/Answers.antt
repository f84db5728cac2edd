use Rattle.std.proofs.Common.{◌∙◌, length, refl, sym}
use Rattle.mqb_shell.proofs.Fronts.{all_kept, line_kept, line_stops, stops_unasked}
use Rattle.mqb_shell.proofs.taking.take_front.Goals as goal

pub returns-in-Ok-clause-takes : goal.returns-in-Ok-clause-takes
returns-in-Ok-clause-takes g c = λ held is one.
    all_kept c.args.piece.now (length c.args.piece.now) refl (sym c.line_feed.ensures ∙ c.in_default.is) one (c.in-Ok.ensures held is)

pub returns-in-Err-clause-takes : goal.returns-in-Err-clause-takes
returns-in-Err-clause-takes g c = λ held is one. stops_unasked

pub returns-in_default-hold-clause-takes : goal.returns-in_default-hold-clause-takes
returns-in_default-hold-clause-takes g c = λ held is one. stops_unasked

pub returns-in-Ok-answer_line-clause-takes : goal.returns-in-Ok-answer_line-clause-takes
returns-in-Ok-answer_line-clause-takes g c = λ held is one.
    rw c.clear.ensures.items (line_kept held c.args.piece.now c.in-Some.at (sym c.line_feed.ensures ∙ c.in-Some.is) one (c.as_slice.ensures.value ∙ c.in-Ok-hold.ensures held is)
    c.in-Ok-answer_line.ensures.answers)

pub returns-in-Err-answer_line-clause-takes : goal.returns-in-Err-answer_line-clause-takes
returns-in-Err-answer_line-clause-takes g c = λ held is one.
    line_stops held c.args.piece.now c.in-Some.at (sym c.line_feed.ensures ∙ c.in-Some.is) one (c.as_slice.ensures.value ∙ c.in-Ok-hold.ensures held is)
    c.in-Err-answer_line.ensures.answers
