use Rattle.std.proofs.Common.{◌≡◌, Ok, Err, Some, sym, ap, ◌∙◌}
use Rattle.std.specs.Prelude.{not, ◌==◌, ℕ}
use Rattle.mqb_replies.specs.Requests.{seen_answer, seen_request}
use Rattle.mqb_replies.specs.declared.faults.AnswerFault.TheVariants as fault
use Rattle.mqb_seats.proofs.Asked.{asked_broke, asked_lasts, asked_told, down_called}
use Rattle.mqb_seats.proofs.seat.Seat.ask.Goals as goal

pub returns-then-is_down-clause-called : goal.returns-then-is_down-clause-called
returns-then-is_down-clause-called g c =
    down_called c.down_refuses_all.ensures c.refused_is_same.ensures (g.P.Disk.view c.args.disk.now) (g.P.Power.is_stopped c.args.disk.now) c.args.self.now c.is_valid.ensures (sym c.is_down.ensures ∙ c.if-is_down.true)
    (seen_request c.args.request)

pub returns-in-Ok-clause-called : goal.returns-in-Ok-clause-called
returns-in-Ok-clause-called g c =
    asked_told c.requests_are_replied.ensures _ _ c.self.inside.manager c.ask-answer.new.manager c.self.inside.unread (g.P.Power.is_stopped c.ask-answer.new.disk) c.args.self.now c.self.view_is (sym c.is_down.ensures ∙ c.if-is_down.false)
    (seen_request c.args.request) (seen_answer c.ask-answer.result) c.ask-answer.ensures.call c.lsn-before.result c.in_ok-lines.lines c.in-Ok.reply _ c.lsn-before.ensures
    c.in_ok-lines.ensures.lines (sym c.reply_of.ensures ∙ c.in-Ok.is) (ap (λ (k : ℕ). not (k == c.lsn-before.result)) c.lsn.ensures)

pub returns-clause-called : goal.returns-clause-called
returns-clause-called g c =
    asked_broke c.requests_are_replied.ensures _ _ c.self.inside.manager c.ask-answer.new.manager c.self.inside.unread (g.P.Power.is_stopped c.ask-answer.new.disk) c.args.self.now c.self.view_is (sym c.is_down.ensures ∙ c.if-is_down.false)
    (seen_request c.args.request) (seen_answer c.ask-answer.result) c.ask-answer.ensures.call c.in_ok-lines.lines c.how.result
    (sym c.reply_of.ensures ∙ c.in-Err-DiskFault.is ∙ ap Err c.in-Err-DiskFault.field-0-is) c.how.ensures

pub returns-in-Ok-clause-lasts : goal.returns-in-Ok-clause-lasts
returns-in-Ok-clause-lasts g c =
    asked_lasts c.requests_are_replied.ensures _ _ c.self.inside.manager c.ask-answer.new.manager c.self.inside.unread (g.P.Power.is_stopped c.ask-answer.new.disk) c.args.self.now c.self.view_is (sym c.is_down.ensures ∙ c.if-is_down.false)
    (seen_request c.args.request) (seen_answer c.ask-answer.result) c.ask-answer.ensures.call
    c.images_open_to_one.ensures (g.met.P.Disk.lawful c.ask-answer.new.disk) (g.met.P.Power.tells c.ask-answer.new.disk).0 (g.met.P.Power.tells c.ask-answer.new.disk).1 c.requires.held

pub returns-in-Err-Memory-clause-lasts : goal.returns-in-Err-Memory-clause-lasts
returns-in-Err-Memory-clause-lasts g c =
    asked_lasts c.requests_are_replied.ensures _ _ c.self.inside.manager c.ask-answer.new.manager c.self.inside.unread (g.P.Power.is_stopped c.ask-answer.new.disk) c.args.self.now c.self.view_is (sym c.is_down.ensures ∙ c.if-is_down.false)
    (seen_request c.args.request) (seen_answer c.ask-answer.result) c.ask-answer.ensures.call
    c.images_open_to_one.ensures (g.met.P.Disk.lawful c.ask-answer.new.disk) (g.met.P.Power.tells c.ask-answer.new.disk).0 (g.met.P.Power.tells c.ask-answer.new.disk).1 c.requires.held

pub returns-clause-lasts : goal.returns-clause-lasts
returns-clause-lasts g c =
    asked_lasts c.requests_are_replied.ensures _ _ c.self.inside.manager c.ask-answer.new.manager c.self.inside.unread (g.P.Power.is_stopped c.ask-answer.new.disk) c.args.self.now c.self.view_is (sym c.is_down.ensures ∙ c.if-is_down.false)
    (seen_request c.args.request) (seen_answer c.ask-answer.result) c.ask-answer.ensures.call
    c.images_open_to_one.ensures (g.met.P.Disk.lawful c.ask-answer.new.disk) (g.met.P.Power.tells c.ask-answer.new.disk).0 (g.met.P.Power.tells c.ask-answer.new.disk).1 c.requires.held

pub returns-in_err-lines-clause-lasts : goal.returns-in_err-lines-clause-lasts
returns-in_err-lines-clause-lasts g c =
    asked_lasts c.requests_are_replied.ensures _ _ c.self.inside.manager c.ask-answer.new.manager c.self.inside.unread (g.P.Power.is_stopped c.ask-answer.new.disk) c.args.self.now c.self.view_is (sym c.is_down.ensures ∙ c.if-is_down.false)
    (seen_request c.args.request) (seen_answer c.ask-answer.result) c.ask-answer.ensures.call
    c.images_open_to_one.ensures (g.met.P.Disk.lawful c.ask-answer.new.disk) (g.met.P.Power.tells c.ask-answer.new.disk).0 (g.met.P.Power.tells c.ask-answer.new.disk).1 c.requires.held
