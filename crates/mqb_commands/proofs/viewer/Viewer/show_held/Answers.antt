use Rattle.std.proofs.Common.{◌≡◌, ◌+◌, List, ℕ, length, sym, ap, subst, ◌∙◌, arith}
use Rattle.std.specs.Prelude.{Ok, Err}
use Rattle.mqb_stream.specs.Framing.{Framing, Whole, next, advanced, answer_of}
use Rattle.mqb_commands.specs.Viewing.{GoesOn, IsOpen, ShowsFrame}
use Rattle.mqb_commands.proofs.Going.{bad_stops, frame_goes, frame_stops, open_empty, whole_held}
use Rattle.mqb_commands.proofs.viewer.Viewer.show_held.Goals as goal

pub returns-in-Bad-clause-shown : goal.returns-in-Bad-clause-shown
returns-in-Bad-clause-shown g c unread =
    bad_stops c.args.self.now.framer unread (g.K.Sink.taken c.args.out.now) c.in-Bad.fault c.in-Bad.place c.requires.framer
    (sym c.next.ensures ∙ ap answer_of c.in-Bad.is)

pub returns-in-Err-clause-shown : goal.returns-in-Err-clause-shown
returns-in-Err-clause-shown g c unread =
    let f = c.args.self.now.framer in
    let a = g.K.Sink.taken c.args.out.now in
    let b = g.K.Sink.taken c.show_frame.new.out in
    let whole : next f ≡ Whole c.in-Packet.frame.now = sym c.next.ensures ∙ ap answer_of c.in-Packet.is in
    let held = whole_held f c.in-Packet.frame.now whole in
    let at : ShowsFrame f.place c.in-Packet.frame.now a b (Err c.in-Err.why) = subst (λ (p : ℕ). ShowsFrame p c.in-Packet.frame.now a b (Err c.in-Err.why)) c.args.self.now.same c.in-Err.ensures.shown in
    frame_stops f unread a b c.in-Err.why c.requires.framer (whole ∙ ap Whole held) (subst (λ (t : List ℕ). ShowsFrame f.place t a b (Err c.in-Err.why)) held at)

pub overflow_add-self : goal.overflow_add-self
overflow_add-self g c =
    let f = c.args.self.now.framer in
    let whole : next f ≡ Whole c.in-Packet.frame.now = sym c.next.ensures ∙ ap answer_of c.in-Packet.is in
    let held = whole_held f c.in-Packet.frame.now whole in
    omega (arith, c.args.self.now.same, ap (λ (t : List ℕ). length t) held, c.requires.fits)

pub invariant_of-self : goal.invariant_of-self
invariant_of-self g c =
    let f = c.args.self.now.framer in
    let whole : next f ≡ Whole c.in-Packet.frame.now = sym c.next.ensures ∙ ap answer_of c.in-Packet.is in
    let held = whole_held f c.in-Packet.frame.now whole in
    record {
      same = ap (λ (p : ℕ). p + length c.in-Packet.frame.now) c.args.self.now.same ∙ ap (λ (t : List ℕ). f.place + length t) held
          ∙ ap (λ (h : Framing). h.place) (sym c.advance.ensures);
    }

pub returns-clause-shown : goal.returns-clause-shown
returns-clause-shown g c unread =
    let f = c.args.self.now.framer in
    let a = g.K.Sink.taken c.args.out.now in
    let b = g.K.Sink.taken c.show_frame.new.out in
    let whole : next f ≡ Whole c.in-Packet.frame.now = sym c.next.ensures ∙ ap answer_of c.in-Packet.is in
    let held = whole_held f c.in-Packet.frame.now whole in
    let at : ShowsFrame f.place c.in-Packet.frame.now a b (Ok tt) = subst (λ (p : ℕ). ShowsFrame p c.in-Packet.frame.now a b (Ok tt)) c.args.self.now.same c.in-Ok.ensures.shown in
    let goes = frame_goes f unread a b c.requires.framer (subst (λ (t : List ℕ). ShowsFrame f.place t a b (Ok tt)) held at) in (
      subst (λ (h : Framing). GoesOn f h unread unread a b) (sym c.advance.ensures) goes,
      subst (λ (h : Framing). IsOpen h) (sym c.advance.ensures)
          (subst (λ (h : Framing). IsOpen (advanced h)) (sym c.requires.framer) (open_empty (f.place + length f.held))),
    )
