use Rattle.std.proofs.Common.{◌≡◌, refl, sym, ◌∙◌}
use Rattle.std.specs.Prelude.{Ok}
use Rattle.mqb_model.specs.calls.pump.Pump.{pump}
use Rattle.mqb_manager.specs.States.{manager_of}
use Rattle.mqb_manager.proofs.Comes.{comes_ready, comes_unready}
use Rattle.mqb_manager.proofs.Conditions.{down_is}
use Rattle.mqb_manager.proofs.Sent.{answer_pumped}
use Rattle.mqb_manager.proofs.manager.Manager.pump_ready.Goals as goal

pub pump_peer-requires : goal.pump_peer-requires
pump_peer-requires g c = let m = c.args.self.now in record {
  linked = c.requires.linked;
  comes = comes_ready (manager_of m) c.args.now c.args.session (down_is m ∙ c.requires.linked.up) c.requires.linked.session c.requires.none (sym c.is_ready.ensures ∙ c.if-is_ready.true);
}

pub returns-then-is_ready : goal.returns-then-is_ready
returns-then-is_ready g c = c.pump_peer.ensures

pub returns-else-is_ready : goal.returns-else-is_ready
returns-else-is_ready g c = let m = c.args.self.now in
    answer_pumped (g.D.Disk.view c.args.disk.now) (c.args.disk.now ≡ c.args.disk.now) m (g.met.D.Disk.lawful c.args.disk.now) refl (pump (manager_of m) c.args.now) (Ok 0) c.args.out.now.items
    c.is_valid.ensures (comes_unready (manager_of m) c.args.now c.args.session (down_is m ∙ c.requires.linked.up) c.requires.linked.session c.requires.none (sym c.is_ready.ensures ∙ c.if-is_ready.false))
    (λ same. let none : ⊥ = cc in none)
