use Rattle.std.proofs.Common.{ap, arith, length}
use Rattle.mqb_stream.specs.Framing.{Framing}
use Rattle.mqb_serving.proofs.Piecing.{fed_counted}
use Rattle.mqb_serve.proofs.talk.Talk.feed.Goals as goal

pub invariant_of-self-clause-count : goal.invariant_of-self-clause-count
invariant_of-self-clause-count c =
    let t = fed_counted c.args.self.now.framer c.feed.new.self c.args.piece.now c.in-Ok.count c.requires.wants c.requires.some c.in-Ok.ensures.answer c.in-Ok.ensures.fed in
    omega (arith, t.held, ap (λ (f : Framing). length f.held) c.in-Ok.ensures.fed, c.in-Ok.ensures.place, c.args.self.now.count)

pub invariant_of-self-clause-most : goal.invariant_of-self-clause-most
invariant_of-self-clause-most c =
    let t = fed_counted c.args.self.now.framer c.feed.new.self c.args.piece.now c.in-Ok.count c.requires.wants c.requires.some c.in-Ok.ensures.answer c.in-Ok.ensures.fed in
    omega (arith, t.within, c.requires.few)

pub returns-clause-some : goal.returns-clause-some
returns-clause-some c =
    (fed_counted c.args.self.now.framer c.feed.new.self c.args.piece.now c.in-Ok.count c.requires.wants c.requires.some c.in-Ok.ensures.answer c.in-Ok.ensures.fed).some
