use Rattle.std.proofs.Common.{Err, Ok, Option, Result, ap, subst, sym, ◌∙◌}
use Rattle.std.proofs.lemmas.Result.{err_from_is_err_and}
use Rattle.mqb_serving.specs.Conversations.{End, pumped}
use Rattle.mqb_serving.specs.declared.faults.ConnFault.{ConnFault}
use Rattle.mqb_serving.specs.declared.limits.TheConstants.{MAX_PUMPS}
use Rattle.mqb_serving.specs.Steps.{Goes, Itself}
use Rattle.mqb_serve.specs.Talking.{stored_of}
use Rattle.mqb_serve.proofs.Keeps.{keeps_ok, keeps_then}
use Rattle.mqb_serve.proofs.Moves.{all_at, more_at, rest_at, stop_at}
use Rattle.mqb_serve.proofs.talk.Talk.pump_to_rest.Goals as goal

pub returns-in_err-answer-clause-goes : goal.returns-in_err-answer-clause-goes
returns-in_err-answer-clause-goes g c = λ k s.
    let taken = g.C.Sink.taken in
    let a = c.args.self.now in
    let t = c.pump_once.new.self in
    let i = c.loop-pump.invariant in
    let p = err_from_is_err_and c.from_residual.result c.from_residual.ensures.1 in
    subst (λ (r : Result (Option End) ConnFault). Goes (Itself k) k (pumped MAX_PUMPS k) (taken c.args.conn.now) (taken c.pump_once.new.conn) t.purpose t.moment
    (stored_of c.pump_once.new.manager) t.framer r) (sym (p.1 ∙ ap Err p.2))
    (stop_at k c.loop-pump._pump (taken c.args.conn.now) (taken c.loop-pump.conn) (taken c.pump_once.new.conn) a.purpose a.moment c.loop-pump.self.moment
    (stored_of c.loop-pump.manager) (stored_of c.pump_once.new.manager) a.framer i.moment (i.pumps k s) c.in_err-answer.field-0.0 c.in_err-answer.ensures.pumps)

pub returns-then-not-sent_some-clause-goes : goal.returns-then-not-sent_some-clause-goes
returns-then-not-sent_some-clause-goes g c = λ k s.
    let taken = g.C.Sink.taken in
    let a = c.args.self.now in
    let t = c.pump_once.new.self in
    let i = c.loop-pump.invariant in
    let e = c.in_ok-answer.ensures in
    rest_at k c.loop-pump._pump (taken c.args.conn.now) (taken c.loop-pump.conn) (taken c.pump_once.new.conn) a.purpose a.moment c.loop-pump.self.moment
    (stored_of c.loop-pump.manager) (stored_of c.pump_once.new.manager) a.framer i.moment (i.pumps k s) t.purpose t.moment t.framer c.in_ok-answer.answer c.sent_some.result
    c.end_after.result (e.purpose ∙ i.purpose) (e.moment ∙ i.moment) (e.framer ∙ i.framer) c.loop-pump-test.true e.pumps c.sent_some.ensures c.if-not-sent_some.true c.end_after.ensures

pub loop-pump-preserved : goal.loop-pump-preserved
loop-pump-preserved g c =
    let taken = g.C.Sink.taken in
    let view = g.D.Disk.view in
    let a = c.args.self.now in
    let i = c.loop-pump.invariant in
    let e = c.in_ok-answer.ensures in
    record {
      pumps = λ k s. more_at k c.loop-pump._pump (taken c.args.conn.now) (taken c.loop-pump.conn) (taken c.pump_once.new.conn) a.purpose a.moment c.loop-pump.self.moment
          (stored_of c.loop-pump.manager) (stored_of c.pump_once.new.manager) a.framer i.moment (i.pumps k s) c.in_ok-answer.answer c.sent_some.result e.pumps
          c.sent_some.ensures c.if-not-sent_some.false;
      keeps = keeps_ok (view c.args.disk.now) (view c.pump_once.new.disk) c.args.manager.now c.pump_once.new.manager c.in_ok-answer.answer 0
          (keeps_then (view c.args.disk.now) (view c.loop-pump.disk) (view c.pump_once.new.disk) c.args.manager.now c.loop-pump.manager c.pump_once.new.manager 0 (Ok c.in_ok-answer.answer) i.keeps e.keeps);
      purpose = e.purpose ∙ i.purpose;
      moment = e.moment ∙ i.moment;
      framer = e.framer ∙ i.framer;
      came = e.came ∙ i.came;
      write_faults = e.write_faults ∙ i.write_faults;
      read_faults = e.read_faults ∙ i.read_faults;
      held = e.held ∙ i.held;
      given = e.given ∙ i.given;
      address = e.address ∙ i.address;
      lent = e.lent ∙ i.lent;
    }

pub returns-clause-goes : goal.returns-clause-goes
returns-clause-goes g c = λ k s.
    let taken = g.C.Sink.taken in
    let a = c.args.self.now in
    let t = c.loop-pump.self in
    let i = c.loop-pump.invariant in
    all_at k c.loop-pump._pump (taken c.args.conn.now) (taken c.loop-pump.conn) a.purpose t.purpose a.moment t.moment (stored_of c.loop-pump.manager) a.framer t.framer
    i.purpose i.moment i.framer c.loop-pump.auto._pump-end c.loop-pump-test.false (i.pumps k s)
