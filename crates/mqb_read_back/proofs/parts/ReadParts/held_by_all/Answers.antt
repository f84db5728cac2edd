use Rattle.std.proofs.Common.{◌≡◌, ◌<◌, length, ap, ◌∙◌, arith}
use Rattle.mqb_queue.specs.Places.{Places}
use Rattle.mqb_snapshot.specs.Parts.{Parts}
use Rattle.mqb_read_back.proofs.Loops.{each_more}
use Rattle.mqb_read_back.proofs.parts.ReadParts.held_by_all.Goals as goal

pub loop-k-preserved : goal.loop-k-preserved
loop-k-preserved c =
    let end : c.count-k-end.result ≡ length c.args.self.now.state.places.queues =
    c.count-k-end.ensures.count ∙ (ap (λ (p : Places). length p.queues) c.queues.ensures.places ∙ ap (λ (p : Parts). length p.state.places.queues) c.self.view_is) in
    let within : c.loop-k.k < length c.args.self.now.state.places.queues = omega (arith, c.loop-k-test.true, end) in
    record {
      joined = each_more c.held.new.self c.held.new.cursor c.loop-k.invariant.joined within c.in_ok-held.ensures.joined;
      queues = c.in_ok-held.ensures.queues ∙ c.loop-k.invariant.queues;
    }
