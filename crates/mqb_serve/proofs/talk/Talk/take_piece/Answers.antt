use Rattle.std.proofs.Common.{◌+◌, ◌<◌, ◌≡◌, ◌≤◌, Err, List, Ok, Option, Result, ap, arith, length, rules, subst, sym, ◌∙◌, ℕ}
use Rattle.std.proofs.lemmas.Result.{err_from_is_err_and}
use Rattle.mqb_serving.specs.Conversations.{End, looked_at, read_on}
use Rattle.mqb_serving.specs.declared.faults.ConnFault.{ConnFault}
use Rattle.mqb_serving.specs.declared.limits.TheConstants.{MAX_READ}
use Rattle.mqb_stream.specs.Framing.{fed}
use Rattle.mqb_serving.specs.Serving.{Hears}
use Rattle.mqb_serving.specs.Steps.{Goes, HearsHeld}
use Rattle.mqb_serving.proofs.Taken.{Takes, takes_all, takes_end, takes_more, takes_stop}
use Rattle.mqb_serve.specs.Talking.{Keeps, stored_of}
use Rattle.mqb_serve.proofs.Keeps.{keeps_ok, keeps_then}
use Rattle.mqb_serve.proofs.Moves.{none_left, stands_at}
use Rattle.mqb_serve.proofs.talk.Talk.take_piece.Goals as goal

pub returns-in_err-ended-clause-goes : goal.returns-in_err-ended-clause-goes
returns-in_err-ended-clause-goes g c = λ k s.
    let taken = g.C.Sink.taken in
    let x = taken c.args.conn.now in
    let y = taken c.loop-rest.conn in
    let z = taken c.look.new.conn in
    let i = c.loop-rest.invariant in
    let a = c.loop-rest.self in
    let u = c.feed-count.new.self in
    let t = c.look.new.self in
    let w = c.feed-count.ensures in
    let rest = c.loop-rest.rest.now in
    let m = stored_of c.loop-rest.manager in
    let n = stored_of c.look.new.manager in
    let p = err_from_is_err_and c.from_residual.result c.from_residual.ensures.1 in
    let some : 0 < length rest = search rules in
    let few : a.framer.place + length a.framer.held + length rest ≤ MAX_READ = omega (arith, a.count, i.few, c.requires.few) in
    subst (λ (r : Result (Option End) ConnFault). Goes (Hears k c.args.piece.now) k (read_on k c.args.piece.now) x z t.purpose t.moment n t.framer r) (sym (p.1 ∙ ap Err p.2))
    (takes_stop k c.args.piece.now rest x y z a.purpose t.purpose a.moment t.moment m n a.framer t.framer c.feed-count.result (i.takes k s) i.wants some few w.part c.in_err-ended.field-0.0
    (λ e f. c.in_err-ended.ensures.goes e (stands_at e a.purpose u.purpose a.moment u.moment m (fed a.framer rest) u.framer w.purpose w.moment w.framer f)))

pub returns-in_err-ended-clause-keeps : goal.returns-in_err-ended-clause-keeps
returns-in_err-ended-clause-keeps g c =
    let view = g.D.Disk.view in
    let p = err_from_is_err_and c.from_residual.result c.from_residual.ensures.1 in
    subst (λ (r : Result (Option End) ConnFault). Keeps (view c.args.disk.now) (view c.look.new.disk) c.args.manager.now c.look.new.manager r) (sym (p.1 ∙ ap Err p.2))
    (keeps_then (view c.args.disk.now) (view c.loop-rest.disk) (view c.look.new.disk) c.args.manager.now c.loop-rest.manager c.look.new.manager 0 (Err c.in_err-ended.field-0.0)
    c.loop-rest.invariant.keeps c.in_err-ended.ensures.keeps)

pub returns-in-Some-clause-goes : goal.returns-in-Some-clause-goes
returns-in-Some-clause-goes g c = λ k s.
    let taken = g.C.Sink.taken in
    let x = taken c.args.conn.now in
    let y = taken c.loop-rest.conn in
    let z = taken c.look.new.conn in
    let i = c.loop-rest.invariant in
    let a = c.loop-rest.self in
    let u = c.feed-count.new.self in
    let t = c.look.new.self in
    let w = c.feed-count.ensures in
    let rest = c.loop-rest.rest.now in
    let m = stored_of c.loop-rest.manager in
    let n = stored_of c.look.new.manager in
    let some : 0 < length rest = search rules in
    let few : a.framer.place + length a.framer.held + length rest ≤ MAX_READ = omega (arith, a.count, i.few, c.requires.few) in
    takes_end k c.args.piece.now rest x y z a.purpose t.purpose a.moment t.moment m n a.framer t.framer c.feed-count.result (i.takes k s) i.wants some few w.part c.in-Some.end
    (λ e f. subst (λ (q : Option End). Goes (HearsHeld e) e (looked_at e) y z t.purpose t.moment n t.framer (Ok q)) c.in-Some.is
    (c.in_ok-ended.ensures.goes e (stands_at e a.purpose u.purpose a.moment u.moment m (fed a.framer rest) u.framer w.purpose w.moment w.framer f)))

pub loop-rest-preserved : goal.loop-rest-preserved
loop-rest-preserved g c =
    let taken = g.C.Sink.taken in
    let view = g.D.Disk.view in
    let x = taken c.args.conn.now in
    let y = taken c.loop-rest.conn in
    let z = taken c.look.new.conn in
    let i = c.loop-rest.invariant in
    let a = c.loop-rest.self in
    let u = c.feed-count.new.self in
    let t = c.look.new.self in
    let w = c.feed-count.ensures in
    let e = c.in_ok-ended.ensures in
    let rest = c.loop-rest.rest.now in
    let m = stored_of c.loop-rest.manager in
    let n = stored_of c.look.new.manager in
    let some : 0 < length rest = search rules in
    let few : a.framer.place + length a.framer.held + length rest ≤ MAX_READ = omega (arith, a.count, i.few, c.requires.few) in
    record {
      takes = λ k s. subst (λ (l : List ℕ). Takes k c.args.piece.now l x z t.purpose t.moment n t.framer) (sym c.split_at.ensures.back)
          (takes_more k c.args.piece.now rest x y z a.purpose t.purpose a.moment t.moment m n a.framer t.framer c.feed-count.result (i.takes k s) i.wants some few w.part
          (λ d f. subst (λ (q : Option End). Goes (HearsHeld d) d (looked_at d) y z t.purpose t.moment n t.framer (Ok q)) c.in_default.is
          (e.goes d (stands_at d a.purpose u.purpose a.moment u.moment m (fed a.framer rest) u.framer w.purpose w.moment w.framer f))));
      keeps = keeps_ok (view c.args.disk.now) (view c.look.new.disk) c.args.manager.now c.look.new.manager c.in_ok-ended.ended 0
          (keeps_then (view c.args.disk.now) (view c.loop-rest.disk) (view c.look.new.disk) c.args.manager.now c.loop-rest.manager c.look.new.manager 0 (Ok c.in_ok-ended.ended) i.keeps e.keeps);
      wants = e.wants (ap Ok c.in_default.is);
      few = omega (arith, e.came, w.came, w.within, c.split_at.ensures.back_len, i.few);
      less = e.less (ap Ok c.in_default.is);
      write_faults = e.write_faults ∙ i.write_faults;
      read_faults = e.read_faults ∙ i.read_faults;
      held = e.held ∙ i.held;
      given = e.given ∙ i.given;
      address = e.address ∙ i.address;
      lent = e.lent ∙ i.lent;
    }

pub returns-clause-goes : goal.returns-clause-goes
returns-clause-goes g c = λ k s.
    let taken = g.C.Sink.taken in
    let a = c.loop-rest.self in
    let none : length c.loop-rest.rest.now ≡ 0 = search rules in
    takes_all k c.args.piece.now c.loop-rest.rest.now (taken c.args.conn.now) (taken c.loop-rest.conn) a.purpose a.moment (stored_of c.loop-rest.manager) a.framer (none_left c.loop-rest.rest.now none)
    (c.loop-rest.invariant.takes k s)
