use Rattle.std.proofs.Common.{List, refl, subst, sym, ℕ}
use Rattle.mqb_outside.specs.Told.{Took}
use Rattle.mqb_serving.specs.declared.faults.ConnFault.TheVariants as fault
use Rattle.mqb_serving.specs.Steps.{TookFront}
use Rattle.mqb_serve.proofs.Keeps.{keeps_broken}
use Rattle.mqb_serve.proofs.Stopped.{pump_cut, pump_keeps, pump_kept, pump_never_reads, pump_sent, pump_stopped}
use Rattle.mqb_serve.proofs.talk.Talk.pump_once.Goals as goal

pub returns-in-Some-clause-pumps : goal.returns-in-Some-clause-pumps
returns-in-Some-clause-pumps g c =
    pump_stopped (g.D.Disk.view c.args.disk.now) (g.D.Disk.view c.pump-answer.new.disk) c.args.manager.now c.pump-answer.new.self c.args.self.now.moment c.requires.up
    c.pump-answer.result c.in-Some.fault (g.C.Sink.taken c.args.conn.now) c.pump-answer.ensures.call (sym c.in-Some.ensures)

pub returns-in-Some-clause-keeps : goal.returns-in-Some-clause-keeps
returns-in-Some-clause-keeps g c =
    pump_keeps (g.D.Disk.view c.args.disk.now) (g.D.Disk.view c.pump-answer.new.disk) c.args.manager.now c.pump-answer.new.self c.args.self.now.moment c.requires.up
    c.pump-answer.result c.in-Some.fault c.pump-answer.ensures.call (sym c.in-Some.ensures)

pub returns-in-Ok-clause-pumps : goal.returns-in-Ok-clause-pumps
returns-in-Ok-clause-pumps g c =
    let x = g.C.Sink.taken c.args.conn.now in
    let y = g.C.Sink.taken c.send_all.new.conn in
    pump_sent (g.D.Disk.view c.args.disk.now) (g.D.Disk.view c.pump-answer.new.disk) c.args.manager.now c.pump-answer.new.self c.args.self.now.moment c.requires.up
    c.pump-answer.result c.pump-answer.ensures.call (sym c.in_default.ensures) c.refusals_change_nothing.ensures c.clear.new.self.items c.pump-answer.new.out.items c.clear.ensures.items
    c.pump-answer.ensures.sent c.pump-answer.ensures.refused x y (subst (λ (t : List ℕ). Took x y t) c.deref.ensures.value c.in-Ok.ensures.whole)

pub returns-in-Ok-clause-keeps : goal.returns-in-Ok-clause-keeps
returns-in-Ok-clause-keeps g c =
    pump_kept (g.D.Disk.view c.args.disk.now) (g.D.Disk.view c.pump-answer.new.disk) c.args.manager.now c.pump-answer.new.self c.args.self.now.moment c.requires.up
    c.pump-answer.result c.pump-answer.ensures.call (sym c.in_default.ensures) c.pump-answer.result

pub returns-in-Err-clause-pumps : goal.returns-in-Err-clause-pumps
returns-in-Err-clause-pumps g c =
    let x = g.C.Sink.taken c.args.conn.now in
    let y = g.C.Sink.taken c.send_all.new.conn in
    pump_cut (g.D.Disk.view c.args.disk.now) (g.D.Disk.view c.pump-answer.new.disk) c.args.manager.now c.pump-answer.new.self c.args.self.now.moment c.requires.up
    c.pump-answer.result c.pump-answer.ensures.call (sym c.in_default.ensures) c.refusals_change_nothing.ensures c.clear.new.self.items c.pump-answer.new.out.items c.clear.ensures.items
    c.pump-answer.ensures.sent c.pump-answer.ensures.refused x y (subst (λ (t : List ℕ). TookFront x y t) c.deref.ensures.value c.in-Err.ensures.front)

pub returns-in-Err-clause-keeps : goal.returns-in-Err-clause-keeps
returns-in-Err-clause-keeps g c =
    let d = g.D.Disk.view c.args.disk.now in
    let e = g.D.Disk.view c.pump-answer.new.disk in
    keeps_broken d e c.args.manager.now c.pump-answer.new.self c.pump-answer.result fault.WriteFault refl
    (pump_kept d e c.args.manager.now c.pump-answer.new.self c.args.self.now.moment c.requires.up c.pump-answer.result c.pump-answer.ensures.call (sym c.in_default.ensures) c.pump-answer.result)

pub returns-in-Some-clause-no_read : goal.returns-in-Some-clause-no_read
returns-in-Some-clause-no_read g c = pump_never_reads c.pump-answer.result c.in-Some.fault (sym c.in-Some.ensures)
