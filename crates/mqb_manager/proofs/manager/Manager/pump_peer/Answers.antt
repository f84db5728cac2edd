use Rattle.std.proofs.Common.{◌≡◌, refl, sym, ap, ◌∙◌}
use Rattle.std.specs.Prelude.{Ok, length}
use Rattle.mqb_model.specs.calls.pump.Pump.{pump, pump_at}
use Rattle.mqb_manager.specs.States.{manager_of}
use Rattle.mqb_manager.proofs.Comes.{comes_nowhere, is_below, is_past}
use Rattle.mqb_manager.proofs.Sent.{answer_pumped}
use Rattle.mqb_manager.proofs.manager.Manager.pump_peer.Goals as goal

pub pump_to-requires : goal.pump_to-requires
pump_to-requires g c = let m = c.args.self.now in record {
  linked = c.requires.linked;
  index = c.peer_of-peer.ensures;
  peer = is_below c.peer_of-peer.result (length m.store.state.peers) (sym c.has_peer.ensures ∙ c.if-has_peer.true);
  comes = c.requires.comes ∙ ap (pump_at (manager_of m) c.args.now c.args.session) (sym c.peer_of-peer.ensures);
}

pub returns-then-has_peer : goal.returns-then-has_peer
returns-then-has_peer g c = c.pump_to.ensures

pub returns-else-has_peer : goal.returns-else-has_peer
returns-else-has_peer g c = let m = c.args.self.now in
    answer_pumped (g.D.Disk.view c.args.disk.now) (c.args.disk.now ≡ c.args.disk.now) m (g.met.D.Disk.lawful c.args.disk.now) refl (pump (manager_of m) c.args.now) (Ok 0) c.args.out.now.items
    c.is_valid.ensures (c.requires.comes ∙ ap (pump_at (manager_of m) c.args.now c.args.session) (sym c.peer_of-peer.ensures)
    ∙ comes_nowhere (manager_of m) c.args.now c.args.session c.peer_of-peer.result (is_past c.peer_of-peer.result (length m.store.state.peers) (sym c.has_peer.ensures ∙ c.if-has_peer.false)))
    (λ same. let none : ⊥ = cc in none)
