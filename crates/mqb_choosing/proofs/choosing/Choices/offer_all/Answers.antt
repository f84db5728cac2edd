use Rattle.std.proofs.Common.{◌≡◌, ◌<◌, List, Some, length, ap, subst, sym, ◌∙◌, arith}
use Rattle.std.specs.Prelude.{slice_get}
use Rattle.mqb_base.specs.declared.ids.Identity.{Identity}
use Rattle.mqb_queue.proofs.Changed.{on_ok}
use Rattle.mqb_choosing.specs.Going.{known}
use Rattle.mqb_choosing.proofs.Ended.{all_offered}
use Rattle.mqb_choosing.proofs.Left.{got_is}
use Rattle.mqb_choosing.proofs.choosing.Choices.offer_all.Goals as goal

pub returns : goal.returns
returns c = on_ok c.offer_rows.result c.offer_rows.ensures (λ rows.
    let s = c.args.contents.now.lists in
    let peers : List Identity = c.peers.result.now in
    let peer : Identity = c.index-peers-peer.result in
    let within : c.args.peer < length peers = omega (arith, c.requires.peer, ap length c.peers.ensures.peers) in
    let here : slice_get s.peers c.args.peer ≡ Some peer =
    subst (λ (xs : List Identity). slice_get xs c.args.peer ≡ Some peer) c.peers.ensures.peers
    (got_is peers c.args.peer peer within ∙ ap (λ (x : Identity). Some x) (sym c.index-peers-peer.is)) in
    all_offered s c.args.self.now c.offer_acks.new.self c.offer_plain.new.self c.offer_plain-2.new.self c.offer_rows.new.self
    (known c.args.self.now.session c.args.cursors.now c.args.owes.now) c.args.now c.args.peer peer here
    c.in_ok-offer_acks.ensures c.in_ok-offer_plain.ensures c.in_ok-offer_plain-2.ensures rows)
