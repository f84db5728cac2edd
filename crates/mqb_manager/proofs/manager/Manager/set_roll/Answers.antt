use Rattle.std.proofs.Common.{◌≡◌, Some, sym, ◌∙◌}
use Rattle.mqb_entries.specs.declared.entry.Entry.TheVariants as form
use Rattle.mqb_model.specs.calls.SetRoll.{set_roll}
use Rattle.mqb_model.specs.declared.faults.StoreFault.TheVariants as fault
use Rattle.mqb_model.specs.managers.Beside.{Nothing}
use Rattle.mqb_store.specs.Writing.{change_in}
use Rattle.mqb_manager.specs.States.{manager_of}
use Rattle.mqb_manager.proofs.Calls.{call_answered, memory_answered}
use Rattle.mqb_manager.proofs.SetRoll.{set_roll_is, set_roll_ready, set_roll_refused}
use Rattle.mqb_manager.proofs.manager.Manager.set_roll.Goals as goal

pub returns-then-is_down-clause-call : goal.returns-then-is_down-clause-call
returns-then-is_down-clause-call g c = set_roll_refused (g.D.Disk.view c.args.disk.now) c.args.self.now c.args.count (g.met.D.Disk.lawful c.args.disk.now)
    c.is_valid.ensures (sym c.is_down.ensures ∙ c.if-is_down.true)

pub write-written-requires : goal.write-written-requires
write-written-requires g c = let laws = c.calls_can_be_written.ensures in
    set_roll_ready (g.D.Disk.view c.args.disk.now) c.args.self.now c.args.count laws.fit laws.valid laws.stored
    c.is_valid.ensures c.requires.on (sym c.is_down.ensures ∙ c.if-is_down.false) c.requires.roll

pub returns-clause-call : goal.returns-clause-call
returns-clause-call g c = let m = c.args.self.now in
    call_answered tt fault.Memory fault.DiskFault (g.D.Disk.view c.args.disk.now) (g.D.Disk.view c.write-written.new.disk) m c.write-written.new.self
    (change_in (Some (form.Roll c.args.count))) Nothing (set_roll (manager_of m) c.args.count) c.write-written.result c.answer.result
    (λ same. let none : ⊥ = cc in none)
    (set_roll_is (manager_of m) c.args.count (sym c.is_down.ensures ∙ c.if-is_down.false))
    c.write-written.ensures.call c.answer.ensures

pub returns-clause-memory : goal.returns-clause-memory
returns-clause-memory g c =
    memory_answered tt fault.Memory fault.DiskFault (c.write-written.new.disk ≡ c.args.disk.now) c.write-written.result c.answer.result
    (λ same. let none : ⊥ = cc in none) c.write-written.ensures.memory c.answer.ensures
