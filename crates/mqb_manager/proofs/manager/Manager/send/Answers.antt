use Rattle.std.proofs.Common.{◌≡◌, IfSome, Ok, OnOk, Option, Result, ap, subst, sym, ◌∙◌}
use Rattle.std.proofs.lemmas.Result.{err_from_is_err_and}
use Rattle.std.specs.Prelude.{option_copied, option_map}
use Rattle.mqb_base.specs.declared.ids.MessageId.{MessageId}
use Rattle.mqb_outside.specs.Disk.{Counted}
use Rattle.mqb_entries.specs.declared.entry.Entry.{Entry}
use Rattle.mqb_store.specs.Work.{beside_of}
use Rattle.mqb_model.specs.calls.Send.{send}
use Rattle.mqb_model.specs.declared.faults.SendFault.{SendFault}
use Rattle.mqb_model.specs.declared.faults.SendFault.TheVariants as fault
use Rattle.mqb_model.specs.managers.Outcomes.{Outcome}
use Rattle.mqb_model.specs.records.Reading.{record_in}
use Rattle.mqb_store.specs.Writing.{change_in}
use Rattle.mqb_plans.specs.Answers.{send_plan}
use Rattle.mqb_plans.specs.Plans.{RefusesSend}
use Rattle.mqb_manager.specs.Calls.{IsCall}
use Rattle.mqb_manager.specs.States.{manager_of}
use Rattle.mqb_manager.specs.Writing.{IsReady}
use Rattle.mqb_manager.proofs.Calls.{call_answered, memory_answered}
use Rattle.mqb_manager.proofs.Send.{counted_form, no_entry, send_is, send_ready, send_refused}
use Rattle.mqb_manager.proofs.manager.Manager.send.Goals as goal

pub returns-in_err-sending-clause-call : goal.returns-in_err-sending-clause-call
returns-in_err-sending-clause-call g c =
    let m = c.args.self.now in
    let d = g.D.Disk.view c.args.disk.now in
    let p = err_from_is_err_and c.from_residual.result c.from_residual.ensures.1 in
    subst (λ (r : Result MessageId SendFault). IsCall fault.Memory fault.DiskFault d d m m (send (manager_of m) c.args.draft.now c.args.recoverable c.args.now) r) (sym p.1)
    (send_refused c.args.draft.now c.args.recoverable c.args.now d m c.contents-contents.result.now.lists p.0 (g.met.D.Disk.lawful c.args.disk.now) c.is_valid.ensures
    (sym c.is_down.ensures ∙ c.if-is_down.false) (ap (λ w. w.lists) c.contents-contents.ensures ∙ c.state.ensures.state ∙ ap (λ m. m.store.state) c.self.view_is)
    (subst (RefusesSend c.contents-contents.result.now.lists (λ k. send k c.args.draft.now c.args.recoverable c.args.now)) (sym p.2) c.in_err-sending.ensures.refused))

pub write-written-requires : goal.write-written-requires
write-written-requires g c = let laws = c.calls_can_be_written.ensures in let t = c.in_ok-sending.ensures in let e = c.entry-entry.ensures in
    subst (λ (form : Option Entry). IsReady (g.D.Disk.view c.args.disk.now) c.args.self.now form (beside_of c.in_ok-sending.sending.work)) (sym c.as_ref.ensures.value)
    (send_ready c.args.draft.now c.args.recoverable c.args.now (g.D.Disk.view c.args.disk.now) c.args.self.now c.contents-contents.result.now.lists
    (send_plan c.in_ok-sending.sending) c.in_ok-sending.sending.id c.entry-entry.result laws.fit laws.valid laws.stored c.is_valid.ensures c.requires
    (sym c.is_down.ensures ∙ c.if-is_down.false) (ap (λ w. w.lists) c.contents-contents.ensures ∙ c.state.ensures.state ∙ ap (λ m. m.store.state) c.self.view_is)
    t.drafted t.planned e.entry e.fits e.size)

pub returns-clause-call : goal.returns-clause-call
returns-clause-call g c = let m = c.args.self.now in let form = option_copied c.as_ref.result in
    let shown = ap (λ (o : Option Entry). option_map record_in o) c.as_ref.ensures.value ∙ c.entry-entry.ensures.entry in
    let is = send_is c.args.draft.now c.args.recoverable c.args.now m c.contents-contents.result.now.lists (send_plan c.in_ok-sending.sending) c.in_ok-sending.sending.id form
    (sym c.is_down.ensures ∙ c.if-is_down.false) (ap (λ w. w.lists) c.contents-contents.ensures ∙ c.state.ensures.state ∙ ap (λ m. m.store.state) c.self.view_is)
    c.in_ok-sending.ensures.planned shown in
    call_answered c.in_ok-sending.sending.id fault.Memory fault.DiskFault (g.D.Disk.view c.args.disk.now) (g.D.Disk.view c.write-written.new.disk) m c.write-written.new.self
    (change_in form) (beside_of c.in_ok-sending.sending.work) (send (manager_of m) c.args.draft.now c.args.recoverable c.args.now) c.write-written.result c.answer.result
    (λ same. let none : ⊥ = cc in none) is c.write-written.ensures.call c.answer.ensures

pub returns-clause-untouched : goal.returns-clause-untouched
returns-clause-untouched g c = let m = c.args.self.now in let form = option_copied c.as_ref.result in
    let shown = ap (λ (o : Option Entry). option_map record_in o) c.as_ref.ensures.value ∙ c.entry-entry.ensures.entry in
    let is = send_is c.args.draft.now c.args.recoverable c.args.now m c.contents-contents.result.now.lists (send_plan c.in_ok-sending.sending) c.in_ok-sending.sending.id form
    (sym c.is_down.ensures ∙ c.if-is_down.false) (ap (λ w. w.lists) c.contents-contents.ensures ∙ c.state.ensures.state ∙ ap (λ m. m.store.state) c.self.view_is)
    c.in_ok-sending.ensures.planned shown in
    λ none. c.write-written.ensures.untouched (no_entry (manager_of m) (send (manager_of m) c.args.draft.now c.args.recoverable c.args.now) form
    (send_plan c.in_ok-sending.sending) (Ok c.in_ok-sending.sending.id) is shown none)

pub returns-clause-calls : goal.returns-clause-calls
returns-clause-calls g c = let m = c.args.self.now in let form = option_copied c.as_ref.result in
    let shown = ap (λ (o : Option Entry). option_map record_in o) c.as_ref.ensures.value ∙ c.entry-entry.ensures.entry in
    let is = send_is c.args.draft.now c.args.recoverable c.args.now m c.contents-contents.result.now.lists (send_plan c.in_ok-sending.sending) c.in_ok-sending.sending.id form
    (sym c.is_down.ensures ∙ c.if-is_down.false) (ap (λ w. w.lists) c.contents-contents.ensures ∙ c.state.ensures.state ∙ ap (λ m. m.store.state) c.self.view_is)
    c.in_ok-sending.ensures.planned shown in
    let o = send (manager_of m) c.args.draft.now c.args.recoverable c.args.now in
    let P = Counted 4 (g.D.Disk.view c.args.disk.now).calls (g.D.Disk.view c.write-written.new.disk).calls in
    subst (λ (r : Result MessageId SendFault). OnOk r (IfSome o.entry (λ _. P))) (sym c.answer.ensures)
    (counted_form c.in_ok-sending.sending.id fault.Memory fault.DiskFault form o.entry P c.write-written.result
    (ap (λ (o : Outcome (Result MessageId SendFault)). o.entry) is) c.write-written.ensures.calls)

pub returns-clause-memory : goal.returns-clause-memory
returns-clause-memory g c =
    memory_answered c.in_ok-sending.sending.id fault.Memory fault.DiskFault (c.write-written.new.disk ≡ c.args.disk.now) c.write-written.result c.answer.result
    (λ same. let none : ⊥ = cc in none) c.write-written.ensures.memory c.answer.ensures
