use Rattle.std.proofs.Common.{rules, sym, ◌≡◌, ◌<◌, length}
use Rattle.mqb_model.specs.records.Releases.{has_recoverable}
use Rattle.mqb_arrivals.proofs.Waiting.{peer_found, peer_passed}
use Rattle.mqb_arrivals.proofs.Searching.{none_at, none_whole}
use Rattle.mqb_arrivals.proofs.releases.place_of.Goals as goal

pub returns-in-Some-clause-peer : goal.returns-in-Some-clause-peer
returns-in-Some-clause-peer c = sym (peer_found c.args.contents.now.lists c.args.number c.loop-peer.peer c.in-Some.index c.loop-peer.invariant c.in-Some.ensures.index)

pub loop-peer-preserved : goal.loop-peer-preserved
loop-peer-preserved c =
    let within : c.loop-peer.peer < length c.args.contents.now.lists.plain = search rules in
    peer_passed c.args.contents.now.lists c.args.number c.loop-peer.peer within c.loop-peer.invariant c.in_default.ensures.index

pub returns-clause-peer : goal.returns-clause-peer
returns-clause-peer c =
    let whole : length c.args.contents.now.lists.plain ≡ c.loop-peer.peer = search rules in
    sym (none_at (has_recoverable c.args.contents.now.lists c.args.number) c.args.contents.now.lists.plain
    (none_whole (has_recoverable c.args.contents.now.lists c.args.number) c.args.contents.now.lists.plain c.loop-peer.peer whole c.loop-peer.invariant))
