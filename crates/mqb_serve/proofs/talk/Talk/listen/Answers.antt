use Rattle.std.proofs.Common.{Err, List, Ok, Option, Result, ap, arith, refl, subst, sym, take, ◌∙◌, ℕ}
use Rattle.std.proofs.lemmas.Result.{err_from_is_err_and}
use Rattle.mqb_outside.specs.Told.{Gave}
use Rattle.mqb_serving.specs.Conversations.{End, read_on}
use Rattle.mqb_serving.specs.declared.faults.ConnFault.{ConnFault}
use Rattle.mqb_serving.specs.Serving.{Hears}
use Rattle.mqb_serving.specs.Steps.{Goes, Listens}
use Rattle.mqb_serving.proofs.Taken.{Reads, reads_end, reads_fault, reads_more, reads_out, reads_stop}
use Rattle.mqb_serve.specs.Talking.{Keeps, stored_of}
use Rattle.mqb_serve.proofs.Keeps.{keeps_err, keeps_ok, keeps_then}
use Rattle.mqb_serve.proofs.talk.Talk.listen.Goals as goal

pub returns-in_err-count-clause-listens : goal.returns-in_err-count-clause-listens
returns-in_err-count-clause-listens g c = λ k s.
    let h = g.C.Source.held c.args.conn.now in
    let i = g.C.Source.held c.pieces.conn in
    let j = g.C.Source.held c.read.new.conn in
    let x = g.C.Sink.taken c.args.conn.now in
    let y = g.C.Sink.taken c.pieces.conn in
    let z = g.C.Sink.taken c.read.new.conn in
    let a = c.pieces.self in
    let m = stored_of c.pieces.manager in
    let e = c.in_err-count.ensures in
    let p = err_from_is_err_and c.from_residual.result c.from_residual.ensures.1 in
    subst (λ (r : Result End ConnFault). Listens k h j x z m r) (sym (p.1 ∙ ap Err p.2 ∙ ap Err e.fault))
    (reads_fault k h i j x y z a.purpose a.moment m m a.framer (c.pieces.invariant.reads k s) e.stays e.taken refl)

pub returns-then-count-eq0-clause-listens : goal.returns-then-count-eq0-clause-listens
returns-then-count-eq0-clause-listens g c = λ k s.
    let h = g.C.Source.held c.args.conn.now in
    let i = g.C.Source.held c.pieces.conn in
    let j = g.C.Source.held c.read.new.conn in
    let x = g.C.Sink.taken c.args.conn.now in
    let y = g.C.Sink.taken c.pieces.conn in
    let z = g.C.Sink.taken c.read.new.conn in
    let a = c.pieces.self in
    let m = stored_of c.pieces.manager in
    let e = c.in_ok-count.ensures in
    reads_out k h i j x y z a.purpose a.moment m m a.framer (c.pieces.invariant.reads k s) c.end_of_bytes.result (take c.in_ok-count.count c.read.new.buffer) e.gave
    (ap (λ (n : ℕ). take n c.read.new.buffer) c.if-count-eq0.true) (e.ended c.if-count-eq0.true) e.taken refl c.end_of_bytes.ensures

pub returns-in_err-ended-clause-listens : goal.returns-in_err-ended-clause-listens
returns-in_err-ended-clause-listens g c = λ k s.
    let h = g.C.Source.held c.args.conn.now in
    let i = g.C.Source.held c.pieces.conn in
    let j = g.C.Source.held c.take_piece.new.conn in
    let x = g.C.Sink.taken c.args.conn.now in
    let y = g.C.Sink.taken c.read.new.conn in
    let z = g.C.Sink.taken c.take_piece.new.conn in
    let a = c.pieces.self in
    let t = c.take_piece.new.self in
    let m = stored_of c.pieces.manager in
    let n = stored_of c.take_piece.new.manager in
    let e = c.in_ok-count.ensures in
    let w = c.in_err-ended.ensures in
    let piece : List ℕ = take c.in_ok-count.count c.read.new.buffer in
    let p = err_from_is_err_and c.from_residual-in_err-ended.result c.from_residual-in_err-ended.ensures.1 in
    let reads : Reads k h i x y a.purpose a.moment m a.framer =
    subst (λ (o : Option (List ℕ)). Reads k h i x o a.purpose a.moment m a.framer) (sym e.taken) (c.pieces.invariant.reads k s) in
    let gave : Gave i j piece = subst (λ (o : Option (List ℕ)). Gave i o piece) (sym w.held) e.gave in
    subst (λ (r : Result End ConnFault). Listens k h j x z n r) (sym (p.1 ∙ ap Err p.2))
    (reads_stop k h i j x y z a.purpose a.moment m n a.framer reads t.purpose t.moment t.framer piece gave c.in_err-ended.field-0.0 (λ d f. w.goes d f))

pub returns-in_err-ended-clause-keeps : goal.returns-in_err-ended-clause-keeps
returns-in_err-ended-clause-keeps g c =
    let d = g.D.Disk.view c.args.disk.now in
    let e = g.D.Disk.view c.take_piece.new.disk in
    let m = c.args.manager.now in
    let n = c.take_piece.new.manager in
    let why = c.in_err-ended.field-0.0 in
    let p = err_from_is_err_and c.from_residual-in_err-ended.result c.from_residual-in_err-ended.ensures.1 in
    subst (λ (r : Result End ConnFault). Keeps d e m n r) (sym (p.1 ∙ ap Err p.2))
    (keeps_err d e m n why (keeps_then d (g.D.Disk.view c.pieces.disk) e m c.pieces.manager n 0 (Err why) c.pieces.invariant.keeps c.in_err-ended.ensures.keeps))

pub returns-in-Some-clause-listens : goal.returns-in-Some-clause-listens
returns-in-Some-clause-listens g c = λ k s.
    let h = g.C.Source.held c.args.conn.now in
    let i = g.C.Source.held c.pieces.conn in
    let j = g.C.Source.held c.take_piece.new.conn in
    let x = g.C.Sink.taken c.args.conn.now in
    let y = g.C.Sink.taken c.read.new.conn in
    let z = g.C.Sink.taken c.take_piece.new.conn in
    let a = c.pieces.self in
    let t = c.take_piece.new.self in
    let m = stored_of c.pieces.manager in
    let n = stored_of c.take_piece.new.manager in
    let e = c.in_ok-count.ensures in
    let w = c.in_ok-ended.ensures in
    let piece : List ℕ = take c.in_ok-count.count c.read.new.buffer in
    let reads : Reads k h i x y a.purpose a.moment m a.framer =
    subst (λ (o : Option (List ℕ)). Reads k h i x o a.purpose a.moment m a.framer) (sym e.taken) (c.pieces.invariant.reads k s) in
    let gave : Gave i j piece = subst (λ (o : Option (List ℕ)). Gave i o piece) (sym w.held) e.gave in
    reads_end k h i j x y z a.purpose a.moment m n a.framer reads t.purpose t.moment t.framer piece gave c.in-Some.end
    (λ d f. subst (λ (q : Option End). Goes (Hears d piece) d (read_on d piece) y z t.purpose t.moment n t.framer (Ok q)) c.in-Some.is (w.goes d f))

pub pieces-preserved : goal.pieces-preserved
pieces-preserved g c =
    let view = g.D.Disk.view in
    let h = g.C.Source.held c.args.conn.now in
    let i = g.C.Source.held c.pieces.conn in
    let j = g.C.Source.held c.take_piece.new.conn in
    let x = g.C.Sink.taken c.args.conn.now in
    let y = g.C.Sink.taken c.read.new.conn in
    let z = g.C.Sink.taken c.take_piece.new.conn in
    let a = c.pieces.self in
    let t = c.take_piece.new.self in
    let m = stored_of c.pieces.manager in
    let n = stored_of c.take_piece.new.manager in
    let v = c.pieces.invariant in
    let e = c.in_ok-count.ensures in
    let w = c.in_ok-ended.ensures in
    let piece : List ℕ = take c.in_ok-count.count c.read.new.buffer in
    let gave : Gave i j piece = subst (λ (o : Option (List ℕ)). Gave i o piece) (sym w.held) e.gave in
    record {
      reads = λ k s.
          let reads : Reads k h i x y a.purpose a.moment m a.framer =
          subst (λ (o : Option (List ℕ)). Reads k h i x o a.purpose a.moment m a.framer) (sym e.taken) (v.reads k s) in
          reads_more k h i j x y z a.purpose a.moment m n a.framer reads t.purpose t.moment t.framer piece gave
          (λ d f. subst (λ (q : Option End). Goes (Hears d piece) d (read_on d piece) y z t.purpose t.moment n t.framer (Ok q)) c.in_default.is (w.goes d f));
      keeps = keeps_ok (view c.args.disk.now) (view c.take_piece.new.disk) c.args.manager.now c.take_piece.new.manager c.in_ok-ended.ended 0
          (keeps_then (view c.args.disk.now) (view c.pieces.disk) (view c.take_piece.new.disk) c.args.manager.now c.pieces.manager c.take_piece.new.manager 0 (Ok c.in_ok-ended.ended) v.keeps w.keeps);
      wants = w.wants (ap Ok c.in_default.is);
      less = w.less (ap Ok c.in_default.is);
      room = omega (arith, c.read.auto.buffer, v.room);
      write_faults = w.write_faults ∙ e.write_faults ∙ v.write_faults;
      read_faults = w.read_faults ∙ e.read_faults ∙ v.read_faults;
      given = w.given ∙ e.given ∙ v.given;
      address = w.address ∙ e.address ∙ v.address;
      lent = w.lent ∙ e.lent ∙ v.lent;
    }
