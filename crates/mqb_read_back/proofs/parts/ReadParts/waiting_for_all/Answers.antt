use Rattle.std.proofs.Common.{◌≡◌, ◌<◌, List, length, ap, ◌∙◌, arith}
use Rattle.mqb_base.specs.declared.ids.Identity.{Identity}
use Rattle.mqb_snapshot.specs.Parts.{Parts}
use Rattle.mqb_read_back.proofs.Loops.{each_more}
use Rattle.mqb_read_back.proofs.parts.ReadParts.waiting_for_all.Goals as goal

pub loop-k-preserved : goal.loop-k-preserved
loop-k-preserved c =
    let lists : length c.self.inside.contents.lists.plain ≡ length c.args.self.now.state.plain = ap (λ (p : Parts). length p.state.plain) c.self.view_is in
    let end : length c.peers.result.now ≡ length c.self.inside.contents.lists.peers = ap (λ (l : List Identity). length l) c.peers.ensures.peers in
    let within : c.loop-k.k < length c.args.self.now.state.plain = omega (arith, c.loop-k-test.true, lists, end, c.peers.ensures.plain) in
    record {
      joined = each_more c.waiting.new.self c.waiting.new.cursor c.loop-k.invariant.joined within c.in_ok-waiting.ensures.joined;
      peers = c.in_ok-waiting.ensures.peers ∙ c.loop-k.invariant.peers;
    }
