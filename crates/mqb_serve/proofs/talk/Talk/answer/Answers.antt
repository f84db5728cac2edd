use Rattle.std.proofs.Common.{Err, Ok, Option, Result, ap, refl, subst, sym, ◌∙◌}
use Rattle.std.proofs.lemmas.Result.{err_from_is_err_and}
use Rattle.mqb_fields.specs.declared.faults.HeadFault.{HeadFault}
use Rattle.mqb_journal.specs.Causes.{FaultsAsSaid}
use Rattle.mqb_stream.specs.Framing.{next}
use Rattle.mqb_serving.specs.Conversations.{End, answered}
use Rattle.mqb_serving.specs.declared.faults.ConnFault.{ConnFault}
use Rattle.mqb_serving.specs.Serving.{is_write_fault}
use Rattle.mqb_serving.specs.Steps.{Goes, HearsFrame, HearsHeld, IsHeard}
use Rattle.mqb_serving.proofs.Looking.{answer_heard, answer_stopped, listening, listening_stands}
use Rattle.mqb_serve.specs.Talking.{stored_of}
use Rattle.mqb_serve.proofs.Keeps.{keeps_then, said_not}
use Rattle.mqb_serve.proofs.Moves.{wants_advanced}
use Rattle.mqb_serve.proofs.talk.Talk.answer.Goals as goal

pub returns-in_err-heard-in-Packet-clause-goes : goal.returns-in_err-heard-in-Packet-clause-goes
returns-in_err-heard-in-Packet-clause-goes g c = λ k s.
    let x = g.C.Sink.taken c.args.conn.now in
    let a = c.args.self.now in
    let n = stored_of c.hear_frame.new.manager in
    let p = err_from_is_err_and c.from_residual.result c.from_residual.ensures.1 in
    subst (λ (r : Result (Option End) ConnFault). Goes (HearsHeld k) k (answered (next k.framing) k) x x a.purpose a.moment n a.framer r) (sym (p.1 ∙ ap Err p.2))
    (answer_stopped k a.purpose a.moment (stored_of c.args.manager.now) a.framer s x x c.in-Packet.frame.now (sym c.in-Packet.ensures) n c.in_err-heard-in-Packet.field-0.0 c.in_err-heard-in-Packet.ensures.hears refl)

pub returns-in_err-heard-in-Packet-clause-write_faults : goal.returns-in_err-heard-in-Packet-clause-write_faults
returns-in_err-heard-in-Packet-clause-write_faults g c =
    let x = g.C.Sink.write_faults c.args.conn.now in
    let p = err_from_is_err_and c.from_residual.result c.from_residual.ensures.1 in
    subst (λ (r : Result (Option End) ConnFault). FaultsAsSaid is_write_fault x x r) (sym (p.1 ∙ ap Err p.2))
    (said_not is_write_fault x x c.in_err-heard-in-Packet.field-0.0 c.in_err-heard-in-Packet.ensures.no_write refl)

pub returns-in-Ok-clause-goes : goal.returns-in-Ok-clause-goes
returns-in-Ok-clause-goes g c = λ k s.
    let x = g.C.Sink.taken c.args.conn.now in
    let y = g.C.Sink.taken c.pump_to_rest.new.conn in
    let a = c.args.self.now in
    let m = stored_of c.args.manager.now in
    let n = stored_of c.hear_frame.new.manager in
    let frame = c.in-Packet.frame.now in
    let is = sym c.in-Packet.ensures in
    let h : IsHeard frame m a.moment n =
    subst (λ (r : Result (Unit {0}) HeadFault). HearsFrame frame m a.moment n (Ok r)) c.in-Ok.is c.in_ok-heard-in-Packet.ensures.hears in
    let t = c.pump_to_rest.new.self in
    answer_heard k a.purpose a.moment m a.framer s x y frame is n h (stored_of c.pump_to_rest.new.manager) t.framer t.purpose t.moment c.pump_to_rest.result
    (c.pump_to_rest.ensures.goes (listening k a.purpose a.moment m a.framer s x y frame is n h)
    (listening_stands k a.purpose a.moment m a.framer s x y frame is n h c.advance.new.self c.advance.ensures))

pub returns-in-Ok-clause-wants : goal.returns-in-Ok-clause-wants
returns-in-Ok-clause-wants g c = λ none.
    wants_advanced c.args.self.now.framer c.pump_to_rest.new.self.framer (c.pump_to_rest.ensures.framer ∙ c.advance.ensures)

pub returns-in-Ok-clause-keeps : goal.returns-in-Ok-clause-keeps
returns-in-Ok-clause-keeps g c =
    let view = g.D.Disk.view in
    keeps_then (view c.args.disk.now) (view c.hear_frame.new.disk) (view c.pump_to_rest.new.disk) c.args.manager.now c.hear_frame.new.manager c.pump_to_rest.new.manager
    c.in_ok-heard-in-Packet.heard c.pump_to_rest.result c.in_ok-heard-in-Packet.ensures.keeps c.pump_to_rest.ensures.keeps
