use Rattle.std.proofs.Common.{Err, Result, ap, refl, subst, sym, ◌∙◌}
use Rattle.std.proofs.lemmas.Result.{err_from_is_err_and}
use Rattle.mqb_serving.specs.Conversations.{End, no_bytes}
use Rattle.mqb_serving.specs.declared.faults.ConnFault.{ConnFault}
use Rattle.mqb_serving.specs.declared.faults.ConnFault.TheVariants as fault
use Rattle.mqb_serving.specs.Serving.{IsNext, is_disk_fault}
use Rattle.mqb_serving.specs.Steps.{Converses, Itself, LeftBy}
use Rattle.mqb_serving.proofs.Stopping.{stops_here}
use Rattle.mqb_serving.proofs.Taken.{converses_stop}
use Rattle.mqb_serve.specs.Talking.{Keeps, stored_of}
use Rattle.mqb_serve.proofs.Keeps.{keeps_still}
use Rattle.mqb_serve.proofs.Moves.{stands_at}
use Rattle.mqb_serve.proofs.serve.converse.Goals as goal

pub returns-in_err-talk-clause-converses : goal.returns-in_err-talk-clause-converses
returns-in_err-talk-clause-converses g c = λ k s.
    let h = g.C.Source.held c.args.conn.now in
    let x = g.C.Sink.taken c.args.conn.now in
    let m = stored_of c.args.manager.now in
    let why = c.in_err-talk.field-0.0 in
    let p = err_from_is_err_and c.from_residual.result c.from_residual.ensures.1 in
    let left : LeftBy why (IsNext (Itself k) k.stored k.now) k.stored m =
    subst (λ (w : ConnFault). LeftBy w (IsNext (Itself k) k.stored k.now) k.stored m) (sym c.in_err-talk.ensures.fault) (sym s.manager) in
    subst (λ (r : Result End ConnFault). Converses k h h x x m r) (sym (p.1 ∙ ap Err p.2))
    (converses_stop k h h x x m why (stops_here (Itself k) k x x m why refl left) refl)

pub returns-in_err-talk-clause-keeps : goal.returns-in_err-talk-clause-keeps
returns-in_err-talk-clause-keeps g c =
    let d = g.D.Disk.view c.args.disk.now in
    let m = c.args.manager.now in
    let p = err_from_is_err_and c.from_residual.result c.from_residual.ensures.1 in
    subst (λ (r : Result End ConnFault). Keeps d d m m r) (sym (p.1 ∙ ap Err p.2))
    (keeps_still d m c.in_err-talk.field-0.0 (ap is_disk_fault c.in_err-talk.ensures.fault) c.requires.up)

pub returns-in_default-clause-converses : goal.returns-in_default-clause-converses
returns-in_default-clause-converses g c = λ k s.
    let h = g.C.Source.held c.args.conn.now in
    let x = g.C.Sink.taken c.args.conn.now in
    let m = stored_of c.args.manager.now in
    converses_stop k h h x x m fault.Memory (stops_here (Itself k) k x x m fault.Memory refl (sym s.manager)) refl

pub returns-clause-converses : goal.returns-clause-converses
returns-clause-converses g c = λ k s.
    let t = c.in_ok-talk.talk in
    let e = c.in_ok-talk.ensures in
    c.converse.ensures.converses k
    (stands_at k c.args.purpose t.purpose c.args.now t.moment (stored_of c.args.manager.now) no_bytes t.framer e.purpose e.moment e.framer s)
