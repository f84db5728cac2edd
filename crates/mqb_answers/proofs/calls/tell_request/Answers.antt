use Rattle.std.proofs.Common.{◌≡◌}
use Rattle.mqb_answers.proofs.Requests.{request_told, request_untold}
use Rattle.mqb_answers.proofs.Telling.{wanted}
use Rattle.mqb_answers.proofs.calls.tell_request.Goals as goal
use Rattle.mqb_replies.specs.Requests.{seen_answer, seen_request}
use Rattle.mqb_replies.specs.declared.faults.AnswerFault.TheVariants as fault

pub returns-in_err-lines : goal.returns-in_err-lines
returns-in_err-lines g c =
    request_untold (g.D.Disk.view c.args.disk.now) (g.D.Disk.view c.ask-answer.new.disk) (c.ask-answer.new.disk ≡ c.args.disk.now) c.args.manager.now c.ask-answer.new.manager
    (seen_request c.args.request) (seen_answer c.ask-answer.result) c.ask-answer.ensures c.requests_are_replied.ensures c.lsn-before.result c.lsn-before.ensures
    c.lines_since.result c.in_err-lines.field-0.0 c.in_err-lines.was c.lines_since.ensures.none c.args.out.now.items _ (wanted c.from_residual.result fault.Memory c.from_residual.ensures.1)

pub returns : goal.returns
returns g c =
    request_told (g.D.Disk.view c.args.disk.now) (g.D.Disk.view c.ask-answer.new.disk) (c.ask-answer.new.disk ≡ c.args.disk.now) c.args.manager.now c.ask-answer.new.manager
    (seen_request c.args.request) (seen_answer c.ask-answer.result) c.ask-answer.ensures c.lsn-before.result c.in_ok-lines.lines c.lsn-before.ensures c.in_ok-lines.ensures.lines
    c.args.out.now.items c.tell.new.out.items c.answer_told.result c.tell.result c.answer_told.ensures c.tell.ensures
