use Rattle.std.proofs.Common.{◌≡◌, ap, subst, sym, ◌∙◌}
use Rattle.std.specs.Prelude.{option_copied}
use Rattle.mqb_base.specs.Rooms.{WithRooms}
use Rattle.mqb_choosing.specs.mqb_contents.Rooms.{StateRooms}
use Rattle.mqb_outside.specs.Disk.{Counted}
use Rattle.mqb_store.specs.Work.{beside_of}
use Rattle.mqb_model.specs.calls.Tick.{tick}
use Rattle.mqb_model.specs.declared.faults.StoreFault.TheVariants as fault
use Rattle.mqb_model.specs.managers.Manager.{Manager}
use Rattle.mqb_model.specs.state.State.{State}
use Rattle.mqb_model.specs.state.Valid.{IsValidState}
use Rattle.mqb_plans.specs.Answers.{tick_plan}
use Rattle.mqb_manager.proofs.Calls.{memory_answered}
use Rattle.mqb_manager.proofs.Planned.{keeps_by, plan_by, planned_call, planned_counted, planned_ready, planned_untouched}
use Rattle.mqb_manager.proofs.Taking.{tick_down}
use Rattle.mqb_manager.proofs.manager.Manager.tick.Goals as goal

pub returns-then-is_down-clause-call : goal.returns-then-is_down-clause-call
returns-then-is_down-clause-call g c = tick_down (g.D.Disk.view c.args.disk.now) c.args.self.now c.args.now (g.met.D.Disk.lawful c.args.disk.now)
    c.is_valid.ensures (sym c.is_down.ensures ∙ c.if-is_down.true)

pub plan_tick-plan-requires : goal.plan_tick-plan-requires
plan_tick-plan-requires g c = subst IsValidState (sym (ap (λ (w : WithRooms State StateRooms). w.lists) c.contents.ensures ∙ c.state.ensures)) c.is_valid.ensures.state

pub write-written-requires : goal.write-written-requires
write-written-requires g c =
    let s = c.contents.result.now.lists in
    let keeps = keeps_by c.args.self.now c.contents.result.now c.is_valid.ensures (sym c.is_down.ensures ∙ c.if-is_down.false)
    (ap (λ (w : WithRooms State StateRooms). w.lists) c.contents.ensures ∙ c.state.ensures) in
    let entry = option_copied c.as_ref.result in
    let h = c.plan_tick-plan.ensures in
    let plan = plan_by s (λ (m : Manager). tick m c.args.now) (tick_plan c.plan_tick-plan.result) c.plan_tick-plan.result.due c.entry-entry.result entry (beside_of c.work.result) c.as_ref.ensures.value
    h.planned h.writable h.stays_valid h.stays_stored c.entry-entry.ensures.entry c.entry-entry.ensures.fits c.entry-entry.ensures.size c.work.ensures in
    planned_ready s (λ (m : Manager). tick m c.args.now) (tick_plan c.plan_tick-plan.result) c.plan_tick-plan.result.due entry (beside_of c.work.result) c.args.self.now keeps plan (g.D.Disk.view c.args.disk.now) c.requires

pub returns-clause-call : goal.returns-clause-call
returns-clause-call g c =
    let s = c.contents.result.now.lists in
    let keeps = keeps_by c.args.self.now c.contents.result.now c.is_valid.ensures (sym c.is_down.ensures ∙ c.if-is_down.false)
    (ap (λ (w : WithRooms State StateRooms). w.lists) c.contents.ensures ∙ c.state.ensures) in
    let entry = option_copied c.as_ref.result in
    let h = c.plan_tick-plan.ensures in
    let plan = plan_by s (λ (m : Manager). tick m c.args.now) (tick_plan c.plan_tick-plan.result) c.plan_tick-plan.result.due c.entry-entry.result entry (beside_of c.work.result) c.as_ref.ensures.value
    h.planned h.writable h.stays_valid h.stays_stored c.entry-entry.ensures.entry c.entry-entry.ensures.fits c.entry-entry.ensures.size c.work.ensures in
    planned_call s (λ (m : Manager). tick m c.args.now) (tick_plan c.plan_tick-plan.result) c.plan_tick-plan.result.due entry (beside_of c.work.result) c.args.self.now keeps plan fault.Memory fault.DiskFault (g.D.Disk.view c.args.disk.now) (g.D.Disk.view c.write-written.new.disk)
    c.write-written.new.self c.write-written.result c.answer.result (λ same. let none : ⊥ = cc in none) c.write-written.ensures.call c.answer.ensures

pub returns-clause-untouched : goal.returns-clause-untouched
returns-clause-untouched g c = λ none.
    let s = c.contents.result.now.lists in
    let keeps = keeps_by c.args.self.now c.contents.result.now c.is_valid.ensures (sym c.is_down.ensures ∙ c.if-is_down.false)
    (ap (λ (w : WithRooms State StateRooms). w.lists) c.contents.ensures ∙ c.state.ensures) in
    let entry = option_copied c.as_ref.result in
    let h = c.plan_tick-plan.ensures in
    let plan = plan_by s (λ (m : Manager). tick m c.args.now) (tick_plan c.plan_tick-plan.result) c.plan_tick-plan.result.due c.entry-entry.result entry (beside_of c.work.result) c.as_ref.ensures.value
    h.planned h.writable h.stays_valid h.stays_stored c.entry-entry.ensures.entry c.entry-entry.ensures.fits c.entry-entry.ensures.size c.work.ensures in
    c.write-written.ensures.untouched (planned_untouched s (λ (m : Manager). tick m c.args.now) (tick_plan c.plan_tick-plan.result) c.plan_tick-plan.result.due entry (beside_of c.work.result) c.args.self.now keeps plan none)

pub returns-clause-calls : goal.returns-clause-calls
returns-clause-calls g c =
    let s = c.contents.result.now.lists in
    let keeps = keeps_by c.args.self.now c.contents.result.now c.is_valid.ensures (sym c.is_down.ensures ∙ c.if-is_down.false)
    (ap (λ (w : WithRooms State StateRooms). w.lists) c.contents.ensures ∙ c.state.ensures) in
    let entry = option_copied c.as_ref.result in
    let h = c.plan_tick-plan.ensures in
    let plan = plan_by s (λ (m : Manager). tick m c.args.now) (tick_plan c.plan_tick-plan.result) c.plan_tick-plan.result.due c.entry-entry.result entry (beside_of c.work.result) c.as_ref.ensures.value
    h.planned h.writable h.stays_valid h.stays_stored c.entry-entry.ensures.entry c.entry-entry.ensures.fits c.entry-entry.ensures.size c.work.ensures in
    planned_counted s (λ (m : Manager). tick m c.args.now) (tick_plan c.plan_tick-plan.result) c.plan_tick-plan.result.due entry (beside_of c.work.result) c.args.self.now keeps plan fault.Memory fault.DiskFault
    (Counted 4 (g.D.Disk.view c.args.disk.now).calls (g.D.Disk.view c.write-written.new.disk).calls) c.write-written.result c.answer.result
    c.write-written.ensures.calls c.answer.ensures

pub returns-clause-memory : goal.returns-clause-memory
returns-clause-memory g c =
    memory_answered c.plan_tick-plan.result.due fault.Memory fault.DiskFault (c.write-written.new.disk ≡ c.args.disk.now) c.write-written.result c.answer.result
    (λ same. let none : ⊥ = cc in none) c.write-written.ensures.memory c.answer.ensures
