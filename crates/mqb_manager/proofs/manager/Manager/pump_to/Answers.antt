use Rattle.std.proofs.Common.{◌≡◌, refl, sym, ap, subst, ◌∙◌}
use Rattle.std.specs.Prelude.{length, ℕ}
use Rattle.mqb_model.specs.calls.pump.Pump.{pump, pump_at}
use Rattle.mqb_manager.specs.States.{manager_of}
use Rattle.std.proofs.Common.{◌<◌}
use Rattle.mqb_manager.proofs.Sent.{memory_pumped}
use Rattle.mqb_manager.proofs.manager.Manager.pump_to.Goals as goal

pub choose_for-requires : goal.choose_for-requires
choose_for-requires g c = c.requires.peer

pub returns-in-Err : goal.returns-in-Err
returns-in-Err g c = let m = c.args.self.now in
    memory_pumped (g.D.Disk.view c.args.disk.now) (c.args.disk.now ≡ c.args.disk.now) m (g.met.D.Disk.lawful c.args.disk.now) refl (pump (manager_of m) c.args.now)
    c.args.out.now.items c.args.out.now.items refl

pub send_chosen-requires : goal.send_chosen-requires
send_chosen-requires g c = let m = c.args.self.now in let same = c.in-Ok.ensures.peer in record {
  linked = c.requires.linked;
  index = same ∙ c.requires.index;
  peer = subst (λ (k : ℕ). k < length m.store.state.peers) (sym same) c.requires.peer;
  planned = c.in-Ok.ensures.planned;
  any = c.in-Ok.ensures.any;
  comes = c.requires.comes ∙ ap (pump_at (manager_of m) c.args.now c.args.session) (sym same);
}

pub returns-in-Ok : goal.returns-in-Ok
returns-in-Ok g c = c.send_chosen.ensures
