use Rattle.std.proofs.Common.{◌≡◌, Ok, refl}
use Rattle.std.specs.Prelude.{[], IfSome, is_some}
use Rattle.mqb_timeouts.specs.Work.{beside_of}
use Rattle.mqb_model.specs.managers.Beside.{beside_done}
use Rattle.mqb_model.specs.managers.Outcomes.{recorded}
use Rattle.mqb_model.specs.managers.Valid.{IsWritable}
use Rattle.mqb_model.specs.state.Valid.{IsValidState}
use Rattle.mqb_model.specs.calls.hear.Hear.{hear}
use Rattle.mqb_hearing.specs.Plans.{rest_after}
use Rattle.mqb_hearing.proofs.Heard.{leaves, of_valid, told, writes}
use Rattle.mqb_hearing.proofs.hearing.hear.Goals as goal

pub returns-clause-answer : goal.returns-clause-answer
returns-clause-answer c = told c.args.contents.now.lists c.args.session c.args.now c.args.packet.now c.plan.result c.plan.ensures.made
    (λ h m o. o.answer ≡ Ok h.answer) (λ h m. refl)

pub returns-clause-entry : goal.returns-clause-entry
returns-clause-entry c = told c.args.contents.now.lists c.args.session c.args.now c.args.packet.now c.plan.result c.plan.ensures.made
    (λ h m o. o.entry ≡ h.arrival.written) (λ h m. refl)

pub returns-clause-beside : goal.returns-clause-beside
returns-clause-beside c = told c.args.contents.now.lists c.args.session c.args.now c.args.packet.now c.plan.result c.plan.ensures.made
    (λ h m o. o.beside ≡ beside_of h.work) (λ h m. refl)

pub returns-clause-rest : goal.returns-clause-rest
returns-clause-rest c = told c.args.contents.now.lists c.args.session c.args.now c.args.packet.now c.plan.result c.plan.ensures.made
    (λ h m o. o.rest ≡ rest_after h m.rest) (λ h m. refl)

pub returns-clause-touches : goal.returns-clause-touches
returns-clause-touches c = told c.args.contents.now.lists c.args.session c.args.now c.args.packet.now c.plan.result c.plan.ensures.made
    (λ h m o. o.touches ≡ is_some h.arrival.written) (λ h m. refl)

pub returns-clause-packets : goal.returns-clause-packets
returns-clause-packets c = told c.args.contents.now.lists c.args.session c.args.now c.args.packet.now c.plan.result c.plan.ensures.made
    (λ h m o. o.packets ≡ []) (λ h m. refl)

pub returns-clause-writable : goal.returns-clause-writable
returns-clause-writable c = let s = c.args.contents.now.lists in
    of_valid s c.args.session c.args.now c.args.packet.now c.plan.result c.plan.ensures.made c.plan.ensures.readable (λ h. IfSome h.arrival.written (IsWritable s))
    (λ h m p valid same readable is. writes s c.args.session c.args.now c.args.packet.now h m same (hear m p c.args.now) is
    ((c.records_fit.ensures m).hears valid p c.args.now readable) ((c.records_are_read.ensures m).hears valid p c.args.now readable))

pub returns-clause-leaves_valid : goal.returns-clause-leaves_valid
returns-clause-leaves_valid c = let s = c.args.contents.now.lists in
    of_valid s c.args.session c.args.now c.args.packet.now c.plan.result c.plan.ensures.made c.plan.ensures.readable
    (λ h. IsValidState (beside_done (beside_of h.work) (recorded s h.arrival.written)))
    (λ h m p valid same readable is. leaves s c.args.session c.args.now c.args.packet.now h m same (hear m p c.args.now) is
    ((c.calls_keep_valid.ensures m valid).hears p c.args.now readable).succeeds.state)
