use Rattle.std.proofs.Common.{◌≡◌, Err, rules}
use Rattle.mqb_model.specs.declared.faults.AddPeerFault.TheVariants as fault
use Rattle.mqb_world.proofs.Beginnings.{met, met_count, met_held, never_refused}
use Rattle.mqb_world.proofs.making.meet.Goals as goal

pub returns-in-Ok-clause-manager : goal.returns-in-Ok-clause-manager
returns-in-Ok-clause-manager g c = met c.args.own.now c.args.peer.now c.requires.apart _ _ c.args.manager.now c.add_peer.new.self c.add_peer.result c.requires.new c.add_peer.ensures.call
    c.in-Ok.field-0 c.in-Ok.is

pub returns-in-Ok-clause-held : goal.returns-in-Ok-clause-held
returns-in-Ok-clause-held g c = met_held c.args.own.now c.args.peer.now c.requires.apart _ _ c.args.manager.now c.add_peer.new.self c.add_peer.result c.requires.new c.add_peer.ensures.call
    c.in-Ok.field-0 c.in-Ok.is c.requires.held

pub returns-in-Ok-clause-count : goal.returns-in-Ok-clause-count
returns-in-Ok-clause-count g c = met_count c.args.own.now c.args.peer.now c.requires.apart _ _ c.args.manager.now c.add_peer.new.self c.add_peer.result c.requires.new c.add_peer.ensures.call
    c.in-Ok.field-0 c.in-Ok.is c.requires.one

pub unreachable-requires : goal.unreachable-requires
unreachable-requires g c = let is : c.add_peer.result ≡ Err fault.Down = search rules in
    never_refused c.args.own.now c.args.peer.now c.requires.apart _ _ c.args.manager.now c.add_peer.new.self c.add_peer.result c.requires.new c.add_peer.ensures.call
    fault.Down is (λ same. let none : ⊥ = cc in none) (λ same. let none : ⊥ = cc in none)

pub unreachable-requires-in-Err-PeerThere : goal.unreachable-requires-in-Err-PeerThere
unreachable-requires-in-Err-PeerThere g c = let is : c.add_peer.result ≡ Err fault.PeerThere = search rules in
    never_refused c.args.own.now c.args.peer.now c.requires.apart _ _ c.args.manager.now c.add_peer.new.self c.add_peer.result c.requires.new c.add_peer.ensures.call
    fault.PeerThere is (λ same. let none : ⊥ = cc in none) (λ same. let none : ⊥ = cc in none)

pub unreachable-requires-in-Err-TooManyPeers : goal.unreachable-requires-in-Err-TooManyPeers
unreachable-requires-in-Err-TooManyPeers g c = let is : c.add_peer.result ≡ Err fault.TooManyPeers = search rules in
    never_refused c.args.own.now c.args.peer.now c.requires.apart _ _ c.args.manager.now c.add_peer.new.self c.add_peer.result c.requires.new c.add_peer.ensures.call
    fault.TooManyPeers is (λ same. let none : ⊥ = cc in none) (λ same. let none : ⊥ = cc in none)
