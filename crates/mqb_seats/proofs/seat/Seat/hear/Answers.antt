use Rattle.std.proofs.Common.{◌≡◌, Err, None, Ok, Option, Result, Some, ℕ, refl, subst, sym, ◌∙◌}
use Rattle.std.specs.Prelude.{IfOk, IsSomeAnd, not, ◌==◌}
use Rattle.mqb_packet.specs.Parts.{seen_packet}
use Rattle.mqb_packet.specs.Spelled.{packet_in}
use Rattle.mqb_model.specs.calls.hear.Hear.{hear}
use Rattle.mqb_model.specs.declared.faults.HearFault.TheVariants as fault
use Rattle.mqb_seats.proofs.Telling.{call_lasts, hear_told}
use Rattle.mqb_seats.proofs.seat.Seat.hear.Goals as goal
use Rattle.mqb_seats.specs.Passed.{TellsHeard}

if_ok : {A E : Type 0} {P Q : A → Type 0} (q : Result A E) → ((x : A) → P x → Q x) → IfOk q P → IfOk q Q
if_ok (Ok x) f h = f x h
if_ok (Err e) f h = h

some_of : {A : Type 0} (P : A → Type 0) (o : Option A) → IsSomeAnd o P → (x : A) × (o ≡ Some x)
some_of P (Some x) h = (x, refl)
some_of P None h = absurd h

pub returns-clause-heard : goal.returns-clause-heard
returns-clause-heard g c = if_ok c.became.result (λ q tells p is.
    hear_told _ _ c.self.inside.manager c.hear-answer.new.self c.self.inside.unread _ c.args.self.now c.self.view_is (sym c.is_down.ensures ∙ c.if-is_down.false)
    p c.args.now c.hear-answer.result (c.hear-answer.ensures.call p is) (λ k. (c.definitions_do_not_fail.ensures k).hears p c.args.now)
    c.lsn-before.result c.lsn-before.ensures q (subst (λ (b : ℕ). TellsHeard (g.P.Power.is_stopped c.hear-answer.new.disk) c.hear-answer.result (not (b == c.lsn-before.result)) q) c.lsn.ensures tells)) c.became.ensures

pub returns-clause-switch : goal.returns-clause-switch
returns-clause-switch g c =
    let shown = some_of _ (packet_in (seen_packet c.args.packet.now)) c.hear-answer.ensures.readable in
    (c.hear-answer.ensures.call shown.0 shown.1).switch

pub returns-clause-lasts : goal.returns-clause-lasts
returns-clause-lasts g c =
    let shown = some_of _ (packet_in (seen_packet c.args.packet.now)) c.hear-answer.ensures.readable in
    call_lasts _ _ c.self.inside.manager c.hear-answer.new.self c.self.inside.unread (g.P.Power.is_stopped c.hear-answer.new.disk) c.args.self.now c.self.view_is (sym c.is_down.ensures ∙ c.if-is_down.false)
    fault.Memory fault.DiskFault (λ k. hear k shown.0 c.args.now) c.hear-answer.result (c.hear-answer.ensures.call shown.0 shown.1) (λ e. let none : ⊥ = cc in none)
    (λ k. (c.definitions_do_not_fail.ensures k).hears shown.0 c.args.now)
    c.images_open_to_one.ensures (g.met.P.Disk.lawful c.hear-answer.new.disk) (g.met.P.Power.tells c.hear-answer.new.disk).0 (g.met.P.Power.tells c.hear-answer.new.disk).1 c.requires.held
