use Rattle.std.proofs.Common.{inl, inr}
use Rattle.mqb_commands.proofs.Answering.{fails_cause, look_cause, opening_is_told}
use Rattle.mqb_commands.specs.lemmas.Opening.{line_fails, memory_fails}
use Rattle.mqb_commands.proofs.peeking.peek.Goals as goal

pub returns-in-Err-clause-peeks : goal.returns-in-Err-clause-peeks
returns-in-Err-clause-peeks g c =
    let d = g.D.Disk.view c.args.disk.now in
    let f = g.D.Disk.view c.open.new.disk in
    record {
      now = c.now-now.result;
      moment = c.now-now.ensures.moment;
      peeked = inr (line_fails d f c.in-Err.fault c.fault.result.end c.fault.result.text.items c.in-Err.ensures.fails c.open.ensures.reads c.fault.ensures);
    }

pub returns-in-Err-clause-cause : goal.returns-in-Err-clause-cause
returns-in-Err-clause-cause g c =
    let d = g.D.Disk.view c.args.disk.now in
    let f = g.D.Disk.view c.open.new.disk in
    fails_cause d f c.fault.result.text.items c.fault.result.end
    (line_fails d f c.in-Err.fault c.fault.result.end c.fault.result.text.items c.in-Err.ensures.fails c.open.ensures.reads c.fault.ensures)

pub returns-in-Err-clause-faults : goal.returns-in-Err-clause-faults
returns-in-Err-clause-faults g c =
    let d = g.D.Disk.view c.args.disk.now in
    let f = g.D.Disk.view c.open.new.disk in
    opening_is_told d.faults f.faults c.in-Err.fault c.fault.result.end c.fault.result.text.items c.in-Err.ensures.cause c.fault.ensures

pub returns-clause-peeks : goal.returns-clause-peeks
returns-clause-peeks g c =
    let d = g.D.Disk.view c.args.disk.now in
    let f = g.D.Disk.view c.open.new.disk in
    let answer = c.answer_peek-answer.result in
    record {
      now = c.now-now.result;
      moment = c.now-now.ensures.moment;
      peeked = elim c.answer_peek-answer.ensures.peeks [
        | inl told ↦ inl (record { manager = c.in-Ok.manager; opened = c.in-Ok.ensures.opened; reads = c.open.ensures.reads; told = told })
        | inr none ↦ inr (memory_fails d f answer.text.items answer.end c.open.ensures.reads none.1 none.0)
      ];
    }

pub returns-clause-cause : goal.returns-clause-cause
returns-clause-cause g c =
    look_cause (g.D.Disk.view c.args.disk.now).faults (g.D.Disk.view c.open.new.disk).faults c.answer_peek-answer.result.end c.answer_peek-answer.ensures.ends
