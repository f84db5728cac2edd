use Rattle.std.proofs.Common.{◌≡◌, ap, sym, ◌∙◌}
use Rattle.std.specs.Prelude.{option_copied}
use Rattle.mqb_base.specs.Rooms.{WithRooms}
use Rattle.mqb_choosing.specs.mqb_contents.Rooms.{StateRooms}
use Rattle.mqb_outside.specs.Disk.{Counted}
use Rattle.mqb_store.specs.Work.{beside_of}
use Rattle.mqb_store.specs.Writing.{change_in}
use Rattle.mqb_manager.specs.States.{manager_of}
use Rattle.mqb_model.specs.calls.Take.{take_message}
use Rattle.mqb_model.specs.declared.faults.TakeFault.TheVariants as fault
use Rattle.mqb_model.specs.managers.Manager.{Manager}
use Rattle.mqb_model.specs.state.State.{State}
use Rattle.mqb_plans.specs.Answers.{take_plan}
use Rattle.mqb_manager.proofs.Calls.{first_written, memory_answered}
use Rattle.mqb_manager.proofs.Planned.{keeps_by, plan_by, planned_call, planned_counted, planned_is, planned_ready, planned_untouched}
use Rattle.mqb_manager.proofs.Taking.{take_down, take_down_first, take_first, take_refused}
use Rattle.mqb_manager.proofs.manager.Manager.take.Goals as goal

pub returns-then-is_down-clause-call : goal.returns-then-is_down-clause-call
returns-then-is_down-clause-call g c = take_down (g.D.Disk.view c.args.disk.now) c.args.self.now c.args.place.now c.args.now (g.met.D.Disk.lawful c.args.disk.now)
    c.is_valid.ensures (sym c.is_down.ensures ∙ c.if-is_down.true)

pub write-written-requires : goal.write-written-requires
write-written-requires g c =
    let s = c.contents.result.now.lists in
    let keeps = keeps_by c.args.self.now c.contents.result.now c.is_valid.ensures (sym c.is_down.ensures ∙ c.if-is_down.false)
    (ap (λ (w : WithRooms State StateRooms). w.lists) c.contents.ensures ∙ c.state.ensures) in
    let entry = option_copied c.as_ref.result in
    let h = c.in-Ok.ensures in
    let plan = plan_by s (λ (m : Manager). take_message m c.args.place.now c.args.now) (take_plan c.in-Ok.plan) c.in-Ok.plan.message c.entry-entry.result entry (beside_of c.work.result) c.as_ref.ensures.value
    h.planned h.writable h.stays_valid h.stays_stored c.entry-entry.ensures.entry c.entry-entry.ensures.fits c.entry-entry.ensures.size c.work.ensures in
    planned_ready s (λ (m : Manager). take_message m c.args.place.now c.args.now) (take_plan c.in-Ok.plan) c.in-Ok.plan.message entry (beside_of c.work.result) c.args.self.now keeps plan (g.D.Disk.view c.args.disk.now) c.requires

pub returns-in-Ok-clause-call : goal.returns-in-Ok-clause-call
returns-in-Ok-clause-call g c =
    let s = c.contents.result.now.lists in
    let keeps = keeps_by c.args.self.now c.contents.result.now c.is_valid.ensures (sym c.is_down.ensures ∙ c.if-is_down.false)
    (ap (λ (w : WithRooms State StateRooms). w.lists) c.contents.ensures ∙ c.state.ensures) in
    let entry = option_copied c.as_ref.result in
    let h = c.in-Ok.ensures in
    let plan = plan_by s (λ (m : Manager). take_message m c.args.place.now c.args.now) (take_plan c.in-Ok.plan) c.in-Ok.plan.message c.entry-entry.result entry (beside_of c.work.result) c.as_ref.ensures.value
    h.planned h.writable h.stays_valid h.stays_stored c.entry-entry.ensures.entry c.entry-entry.ensures.fits c.entry-entry.ensures.size c.work.ensures in
    planned_call s (λ (m : Manager). take_message m c.args.place.now c.args.now) (take_plan c.in-Ok.plan) c.in-Ok.plan.message entry (beside_of c.work.result) c.args.self.now keeps plan fault.Memory fault.DiskFault (g.D.Disk.view c.args.disk.now) (g.D.Disk.view c.write-written.new.disk)
    c.write-written.new.self c.write-written.result c.answer.result (λ same. let none : ⊥ = cc in none) c.write-written.ensures.call c.answer.ensures

pub returns-in-Ok-clause-untouched : goal.returns-in-Ok-clause-untouched
returns-in-Ok-clause-untouched g c = λ none.
    let s = c.contents.result.now.lists in
    let keeps = keeps_by c.args.self.now c.contents.result.now c.is_valid.ensures (sym c.is_down.ensures ∙ c.if-is_down.false)
    (ap (λ (w : WithRooms State StateRooms). w.lists) c.contents.ensures ∙ c.state.ensures) in
    let entry = option_copied c.as_ref.result in
    let h = c.in-Ok.ensures in
    let plan = plan_by s (λ (m : Manager). take_message m c.args.place.now c.args.now) (take_plan c.in-Ok.plan) c.in-Ok.plan.message c.entry-entry.result entry (beside_of c.work.result) c.as_ref.ensures.value
    h.planned h.writable h.stays_valid h.stays_stored c.entry-entry.ensures.entry c.entry-entry.ensures.fits c.entry-entry.ensures.size c.work.ensures in
    c.write-written.ensures.untouched (planned_untouched s (λ (m : Manager). take_message m c.args.place.now c.args.now) (take_plan c.in-Ok.plan) c.in-Ok.plan.message entry (beside_of c.work.result) c.args.self.now keeps plan none)

pub returns-in-Ok-clause-calls : goal.returns-in-Ok-clause-calls
returns-in-Ok-clause-calls g c =
    let s = c.contents.result.now.lists in
    let keeps = keeps_by c.args.self.now c.contents.result.now c.is_valid.ensures (sym c.is_down.ensures ∙ c.if-is_down.false)
    (ap (λ (w : WithRooms State StateRooms). w.lists) c.contents.ensures ∙ c.state.ensures) in
    let entry = option_copied c.as_ref.result in
    let h = c.in-Ok.ensures in
    let plan = plan_by s (λ (m : Manager). take_message m c.args.place.now c.args.now) (take_plan c.in-Ok.plan) c.in-Ok.plan.message c.entry-entry.result entry (beside_of c.work.result) c.as_ref.ensures.value
    h.planned h.writable h.stays_valid h.stays_stored c.entry-entry.ensures.entry c.entry-entry.ensures.fits c.entry-entry.ensures.size c.work.ensures in
    planned_counted s (λ (m : Manager). take_message m c.args.place.now c.args.now) (take_plan c.in-Ok.plan) c.in-Ok.plan.message entry (beside_of c.work.result) c.args.self.now keeps plan fault.Memory fault.DiskFault
    (Counted 4 (g.D.Disk.view c.args.disk.now).calls (g.D.Disk.view c.write-written.new.disk).calls) c.write-written.result c.answer.result
    c.write-written.ensures.calls c.answer.ensures

pub returns-in-Err-clause-call : goal.returns-in-Err-clause-call
returns-in-Err-clause-call g c =
    let s = c.contents.result.now.lists in
    let keeps = keeps_by c.args.self.now c.contents.result.now c.is_valid.ensures (sym c.is_down.ensures ∙ c.if-is_down.false)
    (ap (λ (w : WithRooms State StateRooms). w.lists) c.contents.ensures ∙ c.state.ensures) in
    take_refused (g.D.Disk.view c.args.disk.now) c.args.self.now s c.args.place.now c.args.now c.in-Err.fault (g.met.D.Disk.lawful c.args.disk.now) keeps c.in-Err.ensures.refused

pub returns-in-Ok-clause-memory : goal.returns-in-Ok-clause-memory
returns-in-Ok-clause-memory g c =
    memory_answered c.in-Ok.plan.message fault.Memory fault.DiskFault (c.write-written.new.disk ≡ c.args.disk.now) c.write-written.result c.answer.result
    (λ same. let none : ⊥ = cc in none) c.write-written.ensures.memory c.answer.ensures

pub returns-then-is_down-clause-first : goal.returns-then-is_down-clause-first
returns-then-is_down-clause-first g c = take_down_first (manager_of c.args.self.now) c.args.place.now c.args.now (sym c.is_down.ensures ∙ c.if-is_down.true)

pub returns-in-Err-clause-first : goal.returns-in-Err-clause-first
returns-in-Err-clause-first g c =
    let s = c.contents.result.now.lists in
    let keeps = keeps_by c.args.self.now c.contents.result.now c.is_valid.ensures (sym c.is_down.ensures ∙ c.if-is_down.false)
    (ap (λ (w : WithRooms State StateRooms). w.lists) c.contents.ensures ∙ c.state.ensures) in
    take_first s c.args.self.now c.args.place.now c.args.now c.in-Err.fault keeps c.in-Err.ensures.refused

pub returns-in-Ok-clause-first : goal.returns-in-Ok-clause-first
returns-in-Ok-clause-first g c =
    let s = c.contents.result.now.lists in
    let k = manager_of c.args.self.now in
    let keeps = keeps_by c.args.self.now c.contents.result.now c.is_valid.ensures (sym c.is_down.ensures ∙ c.if-is_down.false)
    (ap (λ (w : WithRooms State StateRooms). w.lists) c.contents.ensures ∙ c.state.ensures) in
    let entry = option_copied c.as_ref.result in
    let h = c.in-Ok.ensures in
    let plan = plan_by s (λ (m : Manager). take_message m c.args.place.now c.args.now) (take_plan c.in-Ok.plan) c.in-Ok.plan.message c.entry-entry.result entry (beside_of c.work.result) c.as_ref.ensures.value
    h.planned h.writable h.stays_valid h.stays_stored c.entry-entry.ensures.entry c.entry-entry.ensures.fits c.entry-entry.ensures.size c.work.ensures in
    first_written c.in-Ok.plan.message k (change_in entry) (beside_of c.work.result) (take_message k c.args.place.now c.args.now) c.answer.result
    (planned_is s (λ (m : Manager). take_message m c.args.place.now c.args.now) (take_plan c.in-Ok.plan) c.in-Ok.plan.message entry (beside_of c.work.result) c.args.self.now keeps plan)
