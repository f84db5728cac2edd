use Rattle.std.proofs.Common.{inl, inr, subst, ◌∙◌, ℕ}
use Rattle.mqb_commands.specs.Called.{CallsOn, TellsFaults}
use Rattle.mqb_commands.specs.Causes.{DiskFaultHasCause}
use Rattle.mqb_commands.specs.lemmas.Opening.{line_fails, on_store}
use Rattle.mqb_commands.proofs.Answering.{calls_cause, fails_cause, opening_is_told}
use Rattle.mqb_commands.proofs.calling.call.Goals as goal

pub returns-in-Err-clause-calls : goal.returns-in-Err-clause-calls
returns-in-Err-clause-calls g c =
    let d = g.D.Disk.view c.args.disk.now in
    let f = g.D.Disk.view c.open.new.disk in
    record {
      now = c.now-now.result;
      moment = c.now-now.ensures.moment;
      calls = inr (line_fails d f c.in-Err.fault c.fault.result.end c.fault.result.text.items c.in-Err.ensures.fails c.open.ensures.reads c.fault.ensures);
    }

pub returns-in-Err-clause-cause : goal.returns-in-Err-clause-cause
returns-in-Err-clause-cause g c =
    let d = g.D.Disk.view c.args.disk.now in
    let f = g.D.Disk.view c.open.new.disk in
    fails_cause d f c.fault.result.text.items c.fault.result.end
    (line_fails d f c.in-Err.fault c.fault.result.end c.fault.result.text.items c.in-Err.ensures.fails c.open.ensures.reads c.fault.ensures)

pub returns-in-Err-clause-faults : goal.returns-in-Err-clause-faults
returns-in-Err-clause-faults g c =
    let d = g.D.Disk.view c.args.disk.now in
    let f = g.D.Disk.view c.open.new.disk in
    opening_is_told d.faults f.faults c.in-Err.fault c.fault.result.end c.fault.result.text.items c.in-Err.ensures.cause c.fault.ensures

pub returns-clause-calls : goal.returns-clause-calls
returns-clause-calls g c =
    let e = g.D.Disk.view c.answer_call-answer.new.disk in
    let n = c.answer_call-answer.new.manager in
    let answer = c.answer_call-answer.result in
    record {
      now = c.now-now.result;
      moment = c.now-now.ensures.moment;
      calls = inl (on_store c.in-Ok.ensures.opened c.open.ensures.reads
          (subst (λ (k : ℕ). CallsOn c.args.call.now c.now-now.result k e.faults c.in-Ok.manager n answer.text.items answer.end) c.in-Ok.ensures.cause
          c.answer_call-answer.ensures.calls)
          c.answer_call-answer.ensures.disk);
    }

pub returns-clause-cause : goal.returns-clause-cause
returns-clause-cause g c =
    let e = g.D.Disk.view c.answer_call-answer.new.disk in
    subst (λ (k : ℕ). DiskFaultHasCause k e.faults c.answer_call-answer.result.end) c.in-Ok.ensures.cause (calls_cause c.answer_call-answer.ensures.calls)

pub returns-clause-faults : goal.returns-clause-faults
returns-clause-faults g c =
    let e = g.D.Disk.view c.answer_call-answer.new.disk in
    let answer = c.answer_call-answer.result in
    subst (λ (k : ℕ). TellsFaults k e.faults answer.text.items answer.end) c.in-Ok.ensures.cause c.answer_call-answer.ensures.faults
