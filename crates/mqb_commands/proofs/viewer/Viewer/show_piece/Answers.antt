use Rattle.std.proofs.Common.{◌≡◌, ◌<◌, List, ℕ, length, drop, Option, sym, ap, subst, ◌∙◌, arith, length-drop}
use Rattle.std.specs.Prelude.{Ok}
use Rattle.std.proofs.lemmas.Bool.{eqb-false}
use Rattle.mqb_stream.specs.Framing.{Framing, fed, taken_of}
use Rattle.mqb_commands.specs.Cuts.{held_at}
use Rattle.mqb_commands.specs.Viewing.{GoesOn, IsOpen}
use Rattle.mqb_commands.proofs.Going.{fed_framer, feed_goes, goes_count, goes_framer, goes_then, is_fed, stops_then}
use Rattle.mqb_commands.proofs.viewer.Viewer.show_piece.Goals as goal

pub feed-requires : goal.feed-requires
feed-requires g c =
    omega (
      arith,
      c.requires.fits,
      goes_count c.args.self.now.framer c.loop-rest.self.framer c.args.piece.now c.loop-rest.rest.now
          (g.K.Sink.taken c.args.out.now) (g.K.Sink.taken c.loop-rest.out) c.loop-rest.invariant.shown,
    )

pub show_held-requires-clause-framer : goal.show_held-requires-clause-framer
show_held-requires-clause-framer g c =
    let f = c.loop-rest.self.framer in
    let framer = goes_framer c.args.self.now.framer f c.args.piece.now c.loop-rest.rest.now (g.K.Sink.taken c.args.out.now) (g.K.Sink.taken c.loop-rest.out)
    c.loop-rest.invariant.shown in
    let is = is_fed f c.loop-rest.rest.now c.in-Ok.n c.loop-rest.invariant.wants c.in-Ok.ensures.answer in
    subst (λ (h : Framing). h ≡ held_at h.place h.held) (sym c.in-Ok.ensures.fed) (fed_framer f c.loop-rest.rest.now c.in-Ok.n framer is)

pub show_held-requires-clause-fits : goal.show_held-requires-clause-fits
show_held-requires-clause-fits g c =
    omega (
      arith,
      c.requires.fits,
      c.feed.ensures.place,
      c.feed.ensures.most,
      goes_count c.args.self.now.framer c.loop-rest.self.framer c.args.piece.now c.loop-rest.rest.now
          (g.K.Sink.taken c.args.out.now) (g.K.Sink.taken c.loop-rest.out) c.loop-rest.invariant.shown,
    )

pub loop-rest-smaller : goal.loop-rest-smaller
loop-rest-smaller g c =
    let is = is_fed c.loop-rest.self.framer c.loop-rest.rest.now c.in-Ok.n c.loop-rest.invariant.wants c.in-Ok.ensures.answer in
    let there = eqb-false (length c.loop-rest.rest.now) 0 (sym c.loop-rest-test.ensures) in
    let some : 0 < length c.loop-rest.rest.now = omega (arith, there) in
    omega (arith, is.some some, is.within, some, ap (λ (t : List ℕ). length t) c.split_at.ensures.back, length-drop c.in-Ok.n c.loop-rest.rest.now)

abbrev goes_fed : (f g h : Framing) (bytes rest : List ℕ) (n : ℕ) (a b : Option (List ℕ)) → GoesOn f g bytes rest a b → IsOpen g → Ok n ≡ taken_of g rest → h ≡ fed g rest
    → GoesOn f h bytes (drop n rest) a b
goes_fed f g h bytes rest n a b so wants answers is =
    goes_then f g h bytes rest (drop n rest) a b b so
    (subst (λ (k : Framing). GoesOn g k rest (drop n rest) b b) (sym is) (feed_goes g rest n b (goes_framer f g bytes rest a b so) (is_fed g rest n wants answers)))

pub loop-rest-preserved : goal.loop-rest-preserved
loop-rest-preserved g c =
    let a = g.K.Sink.taken c.args.out.now in
    let b = g.K.Sink.taken c.loop-rest.out in
    let d = g.K.Sink.taken c.show_held.new.out in
    let f = c.args.self.now.framer in
    let rest = drop c.in-Ok.n c.loop-rest.rest.now in
    let fed_on = goes_fed f c.loop-rest.self.framer c.feed.new.self c.args.piece.now c.loop-rest.rest.now c.in-Ok.n a b
    c.loop-rest.invariant.shown c.loop-rest.invariant.wants c.in-Ok.ensures.answer c.in-Ok.ensures.fed in
    let shown = c.in-Ok-show_held.ensures.shown rest in
    record {
      shown = rw c.split_at.ensures.back (goes_then f c.feed.new.self c.show_held.new.self.framer c.args.piece.now rest rest a b d fed_on shown.0);
      wants = shown.1;
      faults = c.in-Ok-show_held.ensures.cause ∙ c.loop-rest.invariant.faults;
    }

pub returns-in-Err-show_held-clause-shown : goal.returns-in-Err-show_held-clause-shown
returns-in-Err-show_held-clause-shown g c =
    let a = g.K.Sink.taken c.args.out.now in
    let b = g.K.Sink.taken c.loop-rest.out in
    let d = g.K.Sink.taken c.show_held.new.out in
    let f = c.args.self.now.framer in
    let rest = drop c.in-Ok.n c.loop-rest.rest.now in
    let fed_on = goes_fed f c.loop-rest.self.framer c.feed.new.self c.args.piece.now c.loop-rest.rest.now c.in-Ok.n a b
    c.loop-rest.invariant.shown c.loop-rest.invariant.wants c.in-Ok.ensures.answer c.in-Ok.ensures.fed in
    stops_then f c.feed.new.self c.args.piece.now rest a b d c.in-Err-show_held.why fed_on (c.in-Err-show_held.ensures.shown rest)
