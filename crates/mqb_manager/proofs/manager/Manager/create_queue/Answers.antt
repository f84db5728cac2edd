use Rattle.std.proofs.Common.{◌≡◌, Some, sym, ◌∙◌}
use Rattle.mqb_entries.specs.declared.entry.Entry.TheVariants as form
use Rattle.mqb_model.specs.calls.CreateQueue.{create_queue}
use Rattle.mqb_model.specs.declared.faults.CreateFault.TheVariants as fault
use Rattle.mqb_model.specs.managers.Beside.{Nothing}
use Rattle.mqb_store.specs.Writing.{change_in}
use Rattle.mqb_manager.specs.States.{manager_of}
use Rattle.mqb_manager.proofs.Calls.{call_answered, first_written, memory_answered}
use Rattle.mqb_manager.proofs.CreateQueue.{create_queue_first, create_queue_is, create_queue_ready, create_queue_refused}
use Rattle.mqb_manager.proofs.manager.Manager.create_queue.Goals as goal

pub returns-in-Some-clause-call : goal.returns-in-Some-clause-call
returns-in-Some-clause-call g c = create_queue_refused (g.D.Disk.view c.args.disk.now) c.args.self.now c.args.plan.now c.in-Some.fault (g.met.D.Disk.lawful c.args.disk.now)
    c.is_valid.ensures (sym c.create_refusal.ensures ∙ c.in-Some.is)

pub write-written-requires : goal.write-written-requires
write-written-requires g c = let laws = c.calls_can_be_written.ensures in let v = c.view_of.ensures in
    create_queue_ready (g.D.Disk.view c.args.disk.now) c.args.self.now c.args.plan.now c.view_of.result c.next_queue-number.result laws.fit laws.valid laws.stored
    c.is_valid.ensures c.requires (sym c.create_refusal.ensures ∙ c.in_default.is) v.plan v.number c.next_queue-number.ensures v.size

pub returns-clause-call : goal.returns-clause-call
returns-clause-call g c = let m = c.args.self.now in let v = c.view_of.ensures in
    call_answered c.next_queue-number.result fault.Memory fault.DiskFault (g.D.Disk.view c.args.disk.now) (g.D.Disk.view c.write-written.new.disk) m c.write-written.new.self
    (change_in (Some (form.CreateQueue c.view_of.result))) Nothing (create_queue (manager_of m) c.args.plan.now) c.write-written.result c.answer.result
    (λ same. let none : ⊥ = cc in none)
    (create_queue_is (manager_of m) c.args.plan.now c.view_of.result c.next_queue-number.result (sym c.create_refusal.ensures ∙ c.in_default.is) v.plan v.number c.next_queue-number.ensures)
    c.write-written.ensures.call c.answer.ensures

pub returns-clause-memory : goal.returns-clause-memory
returns-clause-memory g c =
    memory_answered c.next_queue-number.result fault.Memory fault.DiskFault (c.write-written.new.disk ≡ c.args.disk.now) c.write-written.result c.answer.result
    (λ same. let none : ⊥ = cc in none) c.write-written.ensures.memory c.answer.ensures

pub returns-in-Some-clause-first : goal.returns-in-Some-clause-first
returns-in-Some-clause-first g c = create_queue_first (manager_of c.args.self.now) c.args.plan.now c.in-Some.fault (sym c.create_refusal.ensures ∙ c.in-Some.is)

pub returns-clause-first : goal.returns-clause-first
returns-clause-first g c = let m = c.args.self.now in let v = c.view_of.ensures in
    first_written c.next_queue-number.result (manager_of m) (change_in (Some (form.CreateQueue c.view_of.result))) Nothing (create_queue (manager_of m) c.args.plan.now) c.answer.result
    (create_queue_is (manager_of m) c.args.plan.now c.view_of.result c.next_queue-number.result (sym c.create_refusal.ensures ∙ c.in_default.is) v.plan v.number c.next_queue-number.ensures)
