use Rattle.std.proofs.Common.{Err, ap, subst, sym, ◌∙◌}
use Rattle.std.proofs.lemmas.Result.{err_from_is_err_and}
use Rattle.std.specs.Prelude.{IfSome, OnOk, Result}
use Rattle.mqb_base.specs.Rooms.{WithRooms}
use Rattle.mqb_base.specs.declared.heard.Heard.{Heard}
use Rattle.mqb_choosing.specs.mqb_contents.Rooms.{StateRooms}
use Rattle.mqb_hearing.specs.Plans.{IsAsHeard, whole_of}
use Rattle.mqb_outside.specs.Disk.{Counted}
use Rattle.mqb_model.specs.calls.hear.Hear.{hear}
use Rattle.mqb_model.specs.calls.hear.Session.{HeardOutcome}
use Rattle.mqb_model.specs.declared.faults.HearFault.{HearFault}
use Rattle.mqb_model.specs.declared.faults.HearFault.TheVariants as fault
use Rattle.mqb_model.specs.state.State.{State}
use Rattle.mqb_manager.specs.Calls.{IsCall}
use Rattle.mqb_manager.specs.States.{ManagerState, manager_of}
use Rattle.mqb_manager.proofs.Calls.{refused_call, unmade_call}
use Rattle.mqb_manager.proofs.Heard.{IsPlan, down_hears, heard_as, plan_fits, plan_is, plan_stored, plan_valid, unlinked_hears}
use Rattle.mqb_manager.proofs.manager.Manager.hear.Goals as goal

pub returns-then-is_down-clause-call : goal.returns-then-is_down-clause-call
returns-then-is_down-clause-call g c = λ p there.
    refused_call fault.Memory fault.DiskFault fault.Down (g.D.Disk.view c.args.disk.now) c.args.self.now (hear (manager_of c.args.self.now) p c.args.now)
    (g.met.D.Disk.lawful c.args.disk.now) c.is_valid.ensures (down_hears (manager_of c.args.self.now) p c.args.now (sym c.is_down.ensures ∙ c.if-is_down.true)) (λ same. let wrong : ⊥ = cc in wrong)

pub returns-in_default-clause-call : goal.returns-in_default-clause-call
returns-in_default-clause-call g c = λ p there.
    let none = ap (λ (m : ManagerState). m.session) (sym c.self.view_is) ∙ c.in_default.is in
    refused_call fault.Memory fault.DiskFault fault.NotLinked (g.D.Disk.view c.args.disk.now) c.args.self.now (hear (manager_of c.args.self.now) p c.args.now)
    (g.met.D.Disk.lawful c.args.disk.now) c.is_valid.ensures (unlinked_hears (manager_of c.args.self.now) p c.args.now (sym c.is_down.ensures ∙ c.if-is_down.false) none)
    (λ same. let wrong : ⊥ = cc in wrong)

pub returns-in_err-hearing-clause-call : goal.returns-in_err-hearing-clause-call
returns-in_err-hearing-clause-call g c = λ p there.
    let told = err_from_is_err_and c.from_residual.result c.from_residual.ensures.1 in
    subst (λ (r : Result Heard HearFault). IsCall fault.Memory fault.DiskFault (g.D.Disk.view c.args.disk.now) (g.D.Disk.view c.args.disk.now) c.args.self.now c.args.self.now
    (hear (manager_of c.args.self.now) p c.args.now) r) (sym (told.1 ∙ ap Err told.2))
    (unmade_call fault.Memory fault.DiskFault (g.D.Disk.view c.args.disk.now) c.args.self.now (hear (manager_of c.args.self.now) p c.args.now)
    (g.met.D.Disk.lawful c.args.disk.now) (λ same. let wrong : ⊥ = cc in wrong))

pub follow-requires-clause-fits : goal.follow-requires-clause-fits
follow-requires-clause-fits g c =
    let h = c.in_ok-hearing.ensures in
    let plan : IsPlan (manager_of c.args.self.now) c.args.now c.args.packet.now c.in_ok-hearing.hearing =
    plan_is c.args.self.now c.contents-contents.result.now.lists c.in-Some.session c.args.now c.args.packet.now c.in_ok-hearing.hearing (record {
      up = sym c.is_down.ensures ∙ c.if-is_down.false;
      kept = ap (λ (m : ManagerState). m.store.state) (sym c.self.view_is) ∙ sym (ap (λ (w : WithRooms State StateRooms). w.lists) c.contents-contents.ensures ∙ c.state.ensures.state);
      linked = ap (λ (m : ManagerState). m.session) (sym c.self.view_is) ∙ c.in-Some.is;
    }) (record { answer = h.answer; entry = h.entry; beside = h.beside; rest = h.rest; touches = h.touches; packets = h.packets }) in
    plan_fits (manager_of c.args.self.now) c.args.now c.args.packet.now c.in_ok-hearing.hearing c.is_valid.ensures c.can_be_heard.ensures plan c.calls_can_be_written.ensures.fit

pub follow-requires-clause-valid : goal.follow-requires-clause-valid
follow-requires-clause-valid g c =
    let h = c.in_ok-hearing.ensures in
    let plan : IsPlan (manager_of c.args.self.now) c.args.now c.args.packet.now c.in_ok-hearing.hearing =
    plan_is c.args.self.now c.contents-contents.result.now.lists c.in-Some.session c.args.now c.args.packet.now c.in_ok-hearing.hearing (record {
      up = sym c.is_down.ensures ∙ c.if-is_down.false;
      kept = ap (λ (m : ManagerState). m.store.state) (sym c.self.view_is) ∙ sym (ap (λ (w : WithRooms State StateRooms). w.lists) c.contents-contents.ensures ∙ c.state.ensures.state);
      linked = ap (λ (m : ManagerState). m.session) (sym c.self.view_is) ∙ c.in-Some.is;
    }) (record { answer = h.answer; entry = h.entry; beside = h.beside; rest = h.rest; touches = h.touches; packets = h.packets }) in
    plan_valid (manager_of c.args.self.now) c.args.now c.args.packet.now c.in_ok-hearing.hearing c.is_valid.ensures c.can_be_heard.ensures plan c.calls_can_be_written.ensures.valid

pub follow-requires-clause-stored : goal.follow-requires-clause-stored
follow-requires-clause-stored g c =
    let h = c.in_ok-hearing.ensures in
    let plan : IsPlan (manager_of c.args.self.now) c.args.now c.args.packet.now c.in_ok-hearing.hearing =
    plan_is c.args.self.now c.contents-contents.result.now.lists c.in-Some.session c.args.now c.args.packet.now c.in_ok-hearing.hearing (record {
      up = sym c.is_down.ensures ∙ c.if-is_down.false;
      kept = ap (λ (m : ManagerState). m.store.state) (sym c.self.view_is) ∙ sym (ap (λ (w : WithRooms State StateRooms). w.lists) c.contents-contents.ensures ∙ c.state.ensures.state);
      linked = ap (λ (m : ManagerState). m.session) (sym c.self.view_is) ∙ c.in-Some.is;
    }) (record { answer = h.answer; entry = h.entry; beside = h.beside; rest = h.rest; touches = h.touches; packets = h.packets }) in
    plan_stored (manager_of c.args.self.now) c.args.now c.args.packet.now c.in_ok-hearing.hearing c.is_valid.ensures c.can_be_heard.ensures plan c.calls_can_be_written.ensures.stored

pub returns-clause-call : goal.returns-clause-call
returns-clause-call g c =
    let h = c.in_ok-hearing.ensures in
    let plan : IsPlan (manager_of c.args.self.now) c.args.now c.args.packet.now c.in_ok-hearing.hearing =
    plan_is c.args.self.now c.contents-contents.result.now.lists c.in-Some.session c.args.now c.args.packet.now c.in_ok-hearing.hearing (record {
      up = sym c.is_down.ensures ∙ c.if-is_down.false;
      kept = ap (λ (m : ManagerState). m.store.state) (sym c.self.view_is) ∙ sym (ap (λ (w : WithRooms State StateRooms). w.lists) c.contents-contents.ensures ∙ c.state.ensures.state);
      linked = ap (λ (m : ManagerState). m.session) (sym c.self.view_is) ∙ c.in-Some.is;
    }) (record { answer = h.answer; entry = h.entry; beside = h.beside; rest = h.rest; touches = h.touches; packets = h.packets }) in
    λ p there. subst (λ (o : HeardOutcome). IsCall fault.Memory fault.DiskFault (g.D.Disk.view c.args.disk.now) (g.D.Disk.view c.follow.new.disk) c.args.self.now c.follow.new.self
    o c.follow.result) (sym (plan p there)) c.follow.ensures.call

pub returns-clause-calls : goal.returns-clause-calls
returns-clause-calls g c =
    let h = c.in_ok-hearing.ensures in
    let plan : IsPlan (manager_of c.args.self.now) c.args.now c.args.packet.now c.in_ok-hearing.hearing =
    plan_is c.args.self.now c.contents-contents.result.now.lists c.in-Some.session c.args.now c.args.packet.now c.in_ok-hearing.hearing (record {
      up = sym c.is_down.ensures ∙ c.if-is_down.false;
      kept = ap (λ (m : ManagerState). m.store.state) (sym c.self.view_is) ∙ sym (ap (λ (w : WithRooms State StateRooms). w.lists) c.contents-contents.ensures ∙ c.state.ensures.state);
      linked = ap (λ (m : ManagerState). m.session) (sym c.self.view_is) ∙ c.in-Some.is;
    }) (record { answer = h.answer; entry = h.entry; beside = h.beside; rest = h.rest; touches = h.touches; packets = h.packets }) in
    λ p there. subst (λ (o : HeardOutcome). OnOk c.follow.result (IfSome o.entry (λ _. Counted 4 (g.D.Disk.view c.args.disk.now).calls (g.D.Disk.view c.follow.new.disk).calls)))
    (sym (plan p there)) c.follow.ensures.calls

pub returns-then-is_down-clause-heard : goal.returns-then-is_down-clause-heard
returns-then-is_down-clause-heard g c = λ p there not.
    subst (λ (o : HeardOutcome). IfSome o.entry (IsAsHeard (whole_of c.args.packet.now) c.args.self.now.store.entry))
    (sym (down_hears (manager_of c.args.self.now) p c.args.now (sym c.is_down.ensures ∙ c.if-is_down.true))) tt

pub returns-in_default-clause-heard : goal.returns-in_default-clause-heard
returns-in_default-clause-heard g c = λ p there not.
    let none = ap (λ (m : ManagerState). m.session) (sym c.self.view_is) ∙ c.in_default.is in
    subst (λ (o : HeardOutcome). IfSome o.entry (IsAsHeard (whole_of c.args.packet.now) c.args.self.now.store.entry))
    (sym (unlinked_hears (manager_of c.args.self.now) p c.args.now (sym c.is_down.ensures ∙ c.if-is_down.false) none)) tt

pub returns-in_err-hearing-clause-heard : goal.returns-in_err-hearing-clause-heard
returns-in_err-hearing-clause-heard g c = λ p there not.
    let told = err_from_is_err_and c.from_residual.result c.from_residual.ensures.1 in absurd (not (told.1 ∙ ap Err told.2))

pub returns-clause-heard : goal.returns-clause-heard
returns-clause-heard g c =
    let h = c.in_ok-hearing.ensures in
    let plan : IsPlan (manager_of c.args.self.now) c.args.now c.args.packet.now c.in_ok-hearing.hearing =
    plan_is c.args.self.now c.contents-contents.result.now.lists c.in-Some.session c.args.now c.args.packet.now c.in_ok-hearing.hearing (record {
      up = sym c.is_down.ensures ∙ c.if-is_down.false;
      kept = ap (λ (m : ManagerState). m.store.state) (sym c.self.view_is) ∙ sym (ap (λ (w : WithRooms State StateRooms). w.lists) c.contents-contents.ensures ∙ c.state.ensures.state);
      linked = ap (λ (m : ManagerState). m.session) (sym c.self.view_is) ∙ c.in-Some.is;
    }) (record { answer = h.answer; entry = h.entry; beside = h.beside; rest = h.rest; touches = h.touches; packets = h.packets }) in
    λ p there not. subst (λ (o : HeardOutcome). IfSome o.entry (IsAsHeard (whole_of c.args.packet.now) c.follow.new.self.store.entry)) (sym (plan p there))
    (heard_as c.follow.new.self.store.entry c.in_ok-hearing.hearing.arrival.packet (whole_of c.args.packet.now) c.in_ok-hearing.hearing.arrival.written h.brings (c.follow.ensures.heard not))
