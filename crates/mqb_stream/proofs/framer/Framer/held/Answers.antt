use Rattle.std.proofs.Common.{rules, ◌≡◌, ◌≤◌, length, subst, arith}
use Rattle.mqb_stream.specs.Framing.{Framing}
use Rattle.mqb_stream.proofs.Filling.{end_most}
use Rattle.mqb_stream.proofs.framer.Framer.held.Goals as goal

pub overflow_cast-result : goal.overflow_cast-result
overflow_cast-result c =
    let held = c.self.inside.buffer.items in
    let limit = c.self.inside.limit in
    let count : c.len.result ≡ length held = search rules in
    omega (arith, count, c.self.invariant.one_packet, end_most limit held c.self.invariant.least, c.self.invariant.most)

pub returns-clause-bound : goal.returns-clause-bound
returns-clause-bound c =
    let held = c.self.inside.buffer.items in
    let limit = c.self.inside.limit in
    subst (λ (f : Framing). length f.held ≤ f.limit) c.self.view_is (omega (arith, c.self.invariant.one_packet, end_most limit held c.self.invariant.least))
