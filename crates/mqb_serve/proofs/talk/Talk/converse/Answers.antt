use Rattle.std.proofs.Common.{Err, Option, Result, ap, subst, sym, ◌∙◌}
use Rattle.std.proofs.lemmas.Result.{err_from_is_err_and}
use Rattle.mqb_serving.specs.Conversations.{End, pumped}
use Rattle.mqb_serving.specs.declared.faults.ConnFault.{ConnFault}
use Rattle.mqb_serving.specs.declared.limits.TheConstants.{MAX_PUMPS}
use Rattle.mqb_serving.specs.Steps.{Converses, Reaches}
use Rattle.mqb_serving.proofs.Taken.{converses_end, converses_on, converses_stop}
use Rattle.mqb_serve.specs.Talking.{Keeps, stored_of}
use Rattle.mqb_serve.proofs.Keeps.{keeps_err, keeps_then}
use Rattle.mqb_serve.proofs.Moves.{none_came, none_wants}
use Rattle.mqb_serve.proofs.talk.Talk.converse.Goals as goal

pub listen-requires-clause-wants : goal.listen-requires-clause-wants
listen-requires-clause-wants g c = none_wants c.pump_to_rest.new.self.framer (c.in_ok-ended.ensures.framer ∙ c.requires.nothing)

pub listen-requires-clause-less : goal.listen-requires-clause-less
listen-requires-clause-less g c = none_came c.pump_to_rest.new.self.framer c.pump_to_rest.new.self.came (c.in_ok-ended.ensures.framer ∙ c.requires.nothing) c.pump_to_rest.new.self.count

pub returns-in_err-ended-clause-converses : goal.returns-in_err-ended-clause-converses
returns-in_err-ended-clause-converses g c = λ k s.
    let h = g.C.Source.held c.args.conn.now in
    let i = g.C.Source.held c.pump_to_rest.new.conn in
    let x = g.C.Sink.taken c.args.conn.now in
    let y = g.C.Sink.taken c.pump_to_rest.new.conn in
    let n = stored_of c.pump_to_rest.new.manager in
    let e = c.in_err-ended.ensures in
    let p = err_from_is_err_and c.from_residual.result c.from_residual.ensures.1 in
    subst (λ (r : Result End ConnFault). Converses k h i x y n r) (sym (p.1 ∙ ap Err p.2))
    (converses_stop k h i x y n c.in_err-ended.field-0.0 (e.goes k s) e.held)

pub returns-in-Some-clause-converses : goal.returns-in-Some-clause-converses
returns-in-Some-clause-converses g c = λ k s.
    let h = g.C.Source.held c.args.conn.now in
    let i = g.C.Source.held c.pump_to_rest.new.conn in
    let x = g.C.Sink.taken c.args.conn.now in
    let y = g.C.Sink.taken c.pump_to_rest.new.conn in
    let t = c.pump_to_rest.new.self in
    let n = stored_of c.pump_to_rest.new.manager in
    let e = c.in_ok-ended.ensures in
    converses_end k h i x y t.purpose t.moment n t.framer c.in-Some.end
    (subst (λ (q : Option End). Reaches k (pumped MAX_PUMPS k) x y t.purpose t.moment n t.framer q) c.in-Some.is (e.goes k s)) e.held

pub returns-in-None-clause-converses : goal.returns-in-None-clause-converses
returns-in-None-clause-converses g c = λ k s.
    let h = g.C.Source.held c.args.conn.now in
    let i = g.C.Source.held c.pump_to_rest.new.conn in
    let j = g.C.Source.held c.listen.new.conn in
    let x = g.C.Sink.taken c.args.conn.now in
    let y = g.C.Sink.taken c.pump_to_rest.new.conn in
    let z = g.C.Sink.taken c.listen.new.conn in
    let t = c.pump_to_rest.new.self in
    let m = stored_of c.pump_to_rest.new.manager in
    let n = stored_of c.listen.new.manager in
    let e = c.in_ok-ended.ensures in
    converses_on k h i j x y z t.purpose t.moment m n t.framer c.listen.result
    (subst (λ (q : Option End). Reaches k (pumped MAX_PUMPS k) x y t.purpose t.moment m t.framer q) c.in-None.is (e.goes k s)) e.held (λ d f. c.listen.ensures.listens d f)

pub returns-in-None-clause-keeps : goal.returns-in-None-clause-keeps
returns-in-None-clause-keeps g c =
    let view = g.D.Disk.view in
    keeps_then (view c.args.disk.now) (view c.pump_to_rest.new.disk) (view c.listen.new.disk) c.args.manager.now c.pump_to_rest.new.manager c.listen.new.manager
    c.in_ok-ended.ended c.listen.result c.in_ok-ended.ensures.keeps c.listen.ensures.keeps

pub returns-in_err-ended-clause-keeps : goal.returns-in_err-ended-clause-keeps
returns-in_err-ended-clause-keeps g c =
    let d = g.D.Disk.view c.args.disk.now in
    let e = g.D.Disk.view c.pump_to_rest.new.disk in
    let m = c.args.manager.now in
    let n = c.pump_to_rest.new.manager in
    let p = err_from_is_err_and c.from_residual.result c.from_residual.ensures.1 in
    subst (λ (r : Result End ConnFault). Keeps d e m n r) (sym (p.1 ∙ ap Err p.2)) (keeps_err d e m n c.in_err-ended.field-0.0 c.in_err-ended.ensures.keeps)

pub listen-requires-clause-on : goal.listen-requires-clause-on
listen-requires-clause-on g c = let k = c.in_ok-ended.ensures.keeps in k.disk.on (λ _. c.requires.on) k.up
