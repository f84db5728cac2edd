use Rattle.std.proofs.Common.{Err, Option, Result, ap, subst, sym, ◌==◌, ◌∙◌, ℕ}
use Rattle.std.proofs.lemmas.Bool.{ne_eqb}
use Rattle.std.proofs.lemmas.Result.{err_from_is_err_and}
use Rattle.mqb_stream.specs.Framing.{next}
use Rattle.mqb_serving.specs.Conversations.{End, answered, looked_at}
use Rattle.mqb_serving.specs.declared.faults.ConnFault.{ConnFault}
use Rattle.mqb_serving.specs.declared.limits.TheConstants.{MAX_READ}
use Rattle.mqb_serving.specs.Steps.{Goes, HearsHeld, Reaches}
use Rattle.mqb_serving.proofs.Looking.{limit_ended, limit_far, limit_reached}
use Rattle.mqb_serve.specs.Talking.{stored_of}
use Rattle.mqb_serve.proofs.talk.Talk.look.Goals as goal

pub returns-in_err-ended-clause-goes : goal.returns-in_err-ended-clause-goes
returns-in_err-ended-clause-goes g c = λ k s.
    let x = g.C.Sink.taken c.args.conn.now in
    let y = g.C.Sink.taken c.answer.new.conn in
    let t = c.answer.new.self in
    let n = stored_of c.answer.new.manager in
    let p = err_from_is_err_and c.from_residual.result c.from_residual.ensures.1 in
    subst (λ (r : Result (Option End) ConnFault). Goes (HearsHeld k) k (looked_at k) x y t.purpose t.moment n t.framer r) (sym (p.1 ∙ ap Err p.2))
    (c.in_err-ended.ensures.goes k s)

pub returns-in-Some-clause-goes : goal.returns-in-Some-clause-goes
returns-in-Some-clause-goes g c = λ k s.
    let x = g.C.Sink.taken c.args.conn.now in
    let y = g.C.Sink.taken c.answer.new.conn in
    let t = c.answer.new.self in
    let n = stored_of c.answer.new.manager in
    limit_ended k (answered (next k.framing) k) x y t.purpose t.moment n t.framer c.in-Some.end
    (subst (λ (e : Option End). Reaches k (answered (next k.framing) k) x y t.purpose t.moment n t.framer e) c.in-Some.is (c.in_ok-ended.ensures.goes k s))

pub returns-then-self-eq-MAX_READ-clause-goes : goal.returns-then-self-eq-MAX_READ-clause-goes
returns-then-self-eq-MAX_READ-clause-goes g c = λ k s.
    let x = g.C.Sink.taken c.args.conn.now in
    let y = g.C.Sink.taken c.answer.new.conn in
    let t = c.answer.new.self in
    let n = stored_of c.answer.new.manager in
    limit_reached k (answered (next k.framing) k) x y t.purpose t.moment n t.framer t.framer t.came t.count (ap (λ (j : ℕ). j == MAX_READ) c.if-self-eq-MAX_READ.true)
    (subst (λ (e : Option End). Reaches k (answered (next k.framing) k) x y t.purpose t.moment n t.framer e) c.in_default.is (c.in_ok-ended.ensures.goes k s))

pub returns-clause-goes : goal.returns-clause-goes
returns-clause-goes g c = λ k s.
    let x = g.C.Sink.taken c.args.conn.now in
    let y = g.C.Sink.taken c.answer.new.conn in
    let t = c.answer.new.self in
    let n = stored_of c.answer.new.manager in
    limit_far k (answered (next k.framing) k) x y t.purpose t.moment n t.framer t.came t.count (ne_eqb t.came MAX_READ c.if-self-eq-MAX_READ.false)
    (subst (λ (e : Option End). Reaches k (answered (next k.framing) k) x y t.purpose t.moment n t.framer e) c.in_default.is (c.in_ok-ended.ensures.goes k s))
