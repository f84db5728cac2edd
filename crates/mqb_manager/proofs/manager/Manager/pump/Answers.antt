use Rattle.std.proofs.Common.{◌≡◌, refl, sym, ◌∙◌}
use Rattle.std.specs.Prelude.{Err, false, true}
use Rattle.mqb_model.specs.calls.pump.Pump.{pump}
use Rattle.mqb_model.specs.declared.faults.PumpFault.TheVariants as fault
use Rattle.mqb_manager.specs.States.{manager_of}
use Rattle.mqb_manager.proofs.Comes.{comes_down}
use Rattle.mqb_manager.proofs.Conditions.{up_from}
use Rattle.mqb_manager.proofs.Sent.{answer_pumped}
use Rattle.mqb_manager.proofs.manager.Manager.pump.Goals as goal

pub returns-then-is_down : goal.returns-then-is_down
returns-then-is_down g c = let m = c.args.self.now in
    let h = answer_pumped (g.D.Disk.view c.args.disk.now) (c.args.disk.now ≡ c.args.disk.now) m (g.met.D.Disk.lawful c.args.disk.now) refl (pump (manager_of m) c.args.now) (Err fault.Down) c.args.out.now.items
    c.is_valid.ensures (comes_down (manager_of m) c.args.now (sym c.is_down.ensures ∙ c.if-is_down.true)) (λ same. let none : ⊥ = cc in none) in
    record {
      call = h.call;
      down = λ down. (refl, refl);
      unlinked = λ up none. absurd (let wrong : false ≡ true = sym up ∙ (sym c.is_down.ensures ∙ c.if-is_down.true) in let nothing : ⊥ = cc in nothing);
      sent = h.sent;
      fits = h.fits;
      refused = h.refused;
      untouched = h.untouched;
      memory = h.memory;
      calls = h.calls;
    }

pub pump_up-requires : goal.pump_up-requires
pump_up-requires g c = let up = up_from c.args.self.now (sym c.is_down.ensures ∙ c.if-is_down.false) in record { up = up; on = c.requires up }

pub returns : goal.returns
returns g c = let h = c.pump_up.ensures.pumped in record {
  call = h.call;
  down = λ down. absurd (let wrong : false ≡ true = sym (sym c.is_down.ensures ∙ c.if-is_down.false) ∙ down in let nothing : ⊥ = cc in nothing);
  unlinked = c.pump_up.ensures.unlinked;
  sent = h.sent;
  fits = h.fits;
  refused = h.refused;
  untouched = h.untouched;
  memory = h.memory;
  calls = h.calls;
}
