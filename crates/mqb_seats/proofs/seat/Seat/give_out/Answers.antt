use Rattle.std.proofs.Common.{◌≡◌, ◌==◌, ◌++◌, List, ℕ, Result, Ok, Err, subst, sym, ◌∙◌}
use Rattle.std.specs.Prelude.{IfOk, OnErr, OnOk, flat_map, not}
use Rattle.mqb_model.specs.calls.pump.Pump.{pump}
use Rattle.mqb_model.specs.declared.faults.PumpFault.{PumpFault}
use Rattle.mqb_model.specs.declared.faults.PumpFault.TheVariants as fault
use Rattle.mqb_moves.specs.States.{manager_of}
use Rattle.mqb_packet.specs.Plain.{plain_spelling}
use Rattle.mqb_seats.proofs.Pumping.{pump_spelled, pump_told}
use Rattle.mqb_seats.proofs.Telling.{call_lasts}
use Rattle.mqb_seats.proofs.seat.Seat.give_out.Goals as goal
use Rattle.mqb_seats.specs.Pumped.{TellsPumped}

if_ok : {A E : Type 0} {P Q : A → Type 0} (q : Result A E) → ((x : A) → P x → Q x) → IfOk q P → IfOk q Q
if_ok (Ok x) f h = f x h
if_ok (Err e) f h = h

on_err : {A E P Q : Type 0} (q : Result A E) → (P → Q) → OnErr q P → OnErr q Q
on_err (Ok x) f h = h
on_err (Err e) f h = f h

differ : ◌≡◌ {A = Result ℕ PumpFault} (Err fault.Memory) (Err fault.DiskFault) → ⊥
differ same = let none : ⊥ = cc in none

pub returns-clause-pumped : goal.returns-clause-pumped
returns-clause-pumped g c = if_ok c.went.result (λ q tells.
    pump_told _ _ c.self.inside.manager c.pump-answer.new.self c.self.inside.unread _ c.args.self.now c.self.view_is (sym c.is_down.ensures ∙ c.if-is_down.false)
    c.refusals_change_nothing.ensures c.args.now c.pump-answer.result c.pump-answer.ensures.call (λ k. (c.definitions_do_not_fail.ensures k).pumps c.args.now)
    c.lsn-before.result c.lsn-before.ensures q
    (subst (λ (b : ℕ). TellsPumped (g.P.Power.is_stopped c.pump-answer.new.disk) c.pump-answer.result (not (b == c.lsn-before.result)) q) c.lsn.ensures tells)) c.went.ensures.told

pub returns-clause-spelled : goal.returns-clause-spelled
returns-clause-spelled g c = if_ok c.went.result (λ q tells.
    pump_spelled (g.P.Disk.view c.args.disk.now) (g.P.Disk.view c.pump-answer.new.disk) c.self.inside.manager c.pump-answer.new.self c.self.inside.unread
    (g.P.Power.is_stopped c.pump-answer.new.disk) c.args.self.now c.self.view_is (sym c.is_down.ensures ∙ c.if-is_down.false)
    c.pumped_is_readable.ensures c.is_valid.ensures c.args.now c.pump-answer.result c.pump-answer.new.out.items
    (subst (λ (b : List ℕ). OnOk c.pump-answer.result (c.pump-answer.new.out.items ≡ b ++ flat_map plain_spelling (pump (manager_of c.self.inside.manager) c.args.now).packets))
    c.requires.empty c.pump-answer.ensures.sent)
    c.pump-answer.ensures.fits
    (subst (λ (b : List ℕ). OnErr c.pump-answer.result (c.pump-answer.new.out.items ≡ b)) c.requires.empty c.pump-answer.ensures.refused)
    _ q tells) c.went.ensures.told

pub returns-clause-faults : goal.returns-clause-faults
returns-clause-faults g c = on_err c.went.result (λ wanted. c.pump-answer.ensures.call.stayed (λ failed. differ (sym wanted ∙ failed))) c.went.ensures.wanted

pub returns-clause-lasts : goal.returns-clause-lasts
returns-clause-lasts g c =
    call_lasts _ _ c.self.inside.manager c.pump-answer.new.self c.self.inside.unread (g.P.Power.is_stopped c.pump-answer.new.disk) c.args.self.now c.self.view_is (sym c.is_down.ensures ∙ c.if-is_down.false)
    fault.Memory fault.DiskFault (λ k. pump k c.args.now) c.pump-answer.result c.pump-answer.ensures.call (λ e. let none : ⊥ = cc in none) (λ k. (c.definitions_do_not_fail.ensures k).pumps c.args.now)
    c.images_open_to_one.ensures (g.met.P.Disk.lawful c.pump-answer.new.disk) (g.met.P.Power.tells c.pump-answer.new.disk).0 (g.met.P.Power.tells c.pump-answer.new.disk).1 c.requires.held
