use Rattle.std.proofs.Common.{rules, ap, sym, subst, ◌∙◌, ◌≡◌, ◌≤◌, ◌+◌, ◌*◌, None, Err, false, length, List, ℕ}
use Rattle.mqb_arrivals.specs.declared.faults.RecordFault.TheVariants as fault
use Rattle.mqb_queue.proofs.Changed.{on_ok}
use Rattle.mqb_contents.proofs.Grown.{grown_trans}
use Rattle.mqb_packet.specs.declared.packet.UserPacket.{UserPacket}
use Rattle.mqb_model.specs.rules.Effects.{without_line}
use Rattle.mqb_model.specs.rules.Numbers.{numbers_taken}
use Rattle.mqb_records.specs.Ops.{packets_fit, packets_shown, sends_tried, takes_in, takes_tried}
use Rattle.mqb_records.proofs.Recording.{commit_applied, commit_bound, commit_few, packets_unfit, sends_unfit, takes_unfit}
use Rattle.mqb_records.proofs.records.try_steps.Goals as goal

pub returns-in_err-read_all-clause-unfit : goal.returns-in_err-read_all-clause-unfit
returns-in_err-read_all-clause-unfit c h =
    let told : c.from_residual.result ≡ Err fault.Unfit
    → packets_fit c.args.draft.now.effect.state c.args.draft.now.effect.state.next_number c.args.ops.now ≡ false = search rules in
    packets_unfit c.args.now c.args.draft.now.effect.state c.args.ops.now (told h) c.stepwise_is_effect.ensures

pub returns-in_err-take_all-clause-grown : goal.returns-in_err-take_all-clause-grown
returns-in_err-take_all-clause-grown c = grown_trans c.take_numbers.ensures.grown c.take_all.ensures.grown

pub returns-in_err-take_all-clause-unfit : goal.returns-in_err-take_all-clause-unfit
returns-in_err-take_all-clause-unfit c h =
    let told : c.from_residual-in_err-take_all.result ≡ Err fault.Unfit → takes_tried c.args.now c.take_numbers.new.self.effect c.args.ops.now ≡ None = search rules in
    takes_unfit c.stepwise_is_effect.ensures c.args.now c.args.draft.now.effect c.take_numbers.new.self.effect c.args.ops.now c.in_ok-read_all.ensures.fit
    (c.in_ok-take_numbers.ensures.ok ∙ ap (λ (n : ℕ). without_line c.args.draft.now.effect (numbers_taken c.args.draft.now.effect.state n)) (c.len.ensures ∙ c.in_ok-read_all.ensures.count))
    (told h)

pub returns-clause-ok : goal.returns-clause-ok
returns-clause-ok c = on_ok c.send_all.result c.send_all.ensures.ok (λ sent.
    commit_applied c.stepwise_is_effect.ensures c.args.now c.args.draft.now.effect c.take_numbers.new.self.effect c.take_all.new.draft.effect c.send_all.new.draft.effect
    c.args.ops.now c.in_ok-read_all.ensures.fit
    (c.in_ok-take_numbers.ensures.ok ∙ ap (λ (n : ℕ). without_line c.args.draft.now.effect (numbers_taken c.args.draft.now.effect.state n)) (c.len.ensures ∙ c.in_ok-read_all.ensures.count))
    c.in_ok-take_all.ensures.ok (ap (sends_tried c.args.now c.take_all.new.draft.effect) (sym c.in_ok-read_all.ensures.read) ∙ sent))

pub returns-clause-grown : goal.returns-clause-grown
returns-clause-grown c = grown_trans (grown_trans c.take_numbers.ensures.grown c.take_all.ensures.grown) c.send_all.ensures.grown

pub returns-clause-few : goal.returns-clause-few
returns-clause-few c = on_ok c.send_all.result c.send_all.ensures.held (λ held.
    commit_few c.args.now c.args.draft.now.effect.state c.args.ops.now c.args.draft.now.held c.send_all.new.draft.held c.in_ok-read_all.ensures.fit
    (commit_bound c.args.draft.now.held c.take_numbers.new.self.held c.take_all.new.draft.held c.send_all.new.draft.held (takes_in c.args.ops.now) (length (packets_shown c.args.ops.now))
    c.in_ok-take_numbers.ensures.held c.in_ok-take_all.ensures.held (subst (λ (ps : List UserPacket). c.send_all.new.draft.held ≤ c.take_all.new.draft.held + 3 * length ps) c.in_ok-read_all.ensures.read held)))

pub returns-clause-unfit : goal.returns-clause-unfit
returns-clause-unfit c h =
    sends_unfit c.stepwise_is_effect.ensures c.args.now c.args.draft.now.effect c.take_numbers.new.self.effect c.take_all.new.draft.effect c.args.ops.now
    c.in_ok-read_all.ensures.fit
    (c.in_ok-take_numbers.ensures.ok ∙ ap (λ (n : ℕ). without_line c.args.draft.now.effect (numbers_taken c.args.draft.now.effect.state n)) (c.len.ensures ∙ c.in_ok-read_all.ensures.count))
    c.in_ok-take_all.ensures.ok (ap (sends_tried c.args.now c.take_all.new.draft.effect) (sym c.in_ok-read_all.ensures.read) ∙ c.send_all.ensures.unfit h)
