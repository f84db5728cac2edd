use Rattle.std.proofs.Common.{Err, Ok, Result, sym, ◌∙◌}
use Rattle.std.specs.Prelude.{IfOk}
use Rattle.mqb_seats.proofs.Rewriting.{down_rewritten, rewriting_lasts, rewriting_told}
use Rattle.mqb_seats.proofs.seat.Seat.checkpoint.Goals as goal

if_ok : {A E : Type 0} {P Q : A → Type 0} (q : Result A E) → ((x : A) → P x → Q x) → IfOk q P → IfOk q Q
if_ok (Ok x) f h = f x h
if_ok (Err e) f h = h

pub returns-then-is_down-clause-rewritten : goal.returns-then-is_down-clause-rewritten
returns-then-is_down-clause-rewritten g c =
    down_rewritten c.refused_is_same.ensures (g.P.Disk.view c.args.disk.now) (g.P.Power.is_stopped c.args.disk.now) c.args.self.now c.is_valid.ensures (sym c.is_down.ensures ∙ c.if-is_down.true)

pub returns-clause-rewritten : goal.returns-clause-rewritten
returns-clause-rewritten g c = if_ok c.rewritten.result (rewriting_told _ _ c.self.inside.manager c.checkpoint-answer.new.self c.self.inside.unread _ c.args.self.now c.self.view_is
    (sym c.is_down.ensures ∙ c.if-is_down.false) c.checkpoint-answer.result c.checkpoint-answer.ensures.call) c.rewritten.ensures

pub returns-clause-switch : goal.returns-clause-switch
returns-clause-switch g c = c.checkpoint-answer.ensures.call.switch

pub returns-clause-lasts : goal.returns-clause-lasts
returns-clause-lasts g c = rewriting_lasts _ _ c.self.inside.manager c.checkpoint-answer.new.self c.self.inside.unread (g.P.Power.is_stopped c.checkpoint-answer.new.disk) c.args.self.now c.self.view_is
    (sym c.is_down.ensures ∙ c.if-is_down.false) c.checkpoint-answer.result c.checkpoint-answer.ensures.call
    c.images_open_to_one.ensures (g.met.P.Disk.lawful c.checkpoint-answer.new.disk) (g.met.P.Power.tells c.checkpoint-answer.new.disk).0 (g.met.P.Power.tells c.checkpoint-answer.new.disk).1 c.requires.held
