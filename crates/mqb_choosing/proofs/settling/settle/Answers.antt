use Rattle.std.proofs.Common.{◌≡◌, ◌∙◌, ◌+◌, ◌<◌, ◌≤◌, List, length, drop, get_or, ap, sym, arith}
use Rattle.std.proofs.lemmas.List.{drop_all}
use Rattle.std.proofs.lemmas.List.Elements.{recursion_from_All}
use Rattle.mqb_model.specs.managers.Manager.{Rest}
use Rattle.mqb_choosing.specs.declared.choice.Choice.{Choice}
use Rattle.mqb_choosing.specs.Choices.{IsThere}
use Rattle.mqb_choosing.specs.Going.{known}
use Rattle.mqb_choosing.proofs.Settled.{settled_by, settled_is}
use Rattle.mqb_choosing.proofs.Walks.{front_read}
use Rattle.mqb_choosing.proofs.settling.settle.Goals as goal

pub loop-choice-preserved : goal.loop-choice-preserved
loop-choice-preserved c =
    let choices : List Choice = c.args.choices.now.choices in
    let x : Choice = c.choice-item.result in
    let within : c.loop-choice.choice-index < length choices = omega (arith, c.loop-choice-test.true, ap length c.as_slice-choice-items.ensures) in
    let is : x ≡ get_or choices c.loop-choice.choice-index x = c.choice-item.is ∙ ap (λ (cs : List Choice). get_or cs c.loop-choice.choice-index x) c.as_slice-choice-items.ensures in
    record {
      left = λ session. ap (λ (rest : Rest). settled_by rest (drop (c.loop-choice.choice-index + 1) choices)) (c.settle_one.ensures session)
          ∙ sym (ap (λ (cs : List Choice). settled_by (known session c.loop-choice.cursors c.loop-choice.owes) cs) (front_read choices c.loop-choice.choice-index x within is))
          ∙ c.loop-choice.invariant.left session;
    }

pub returns : goal.returns
returns c = λ s session there.
    let choices : List Choice = c.args.choices.now.choices in
    let past : length choices ≤ c.loop-choice.choice-index = omega (arith, c.loop-choice-test.false, ap length c.as_slice-choice-items.ensures) in
    sym (ap (λ (cs : List Choice). settled_by (known session c.loop-choice.cursors c.loop-choice.owes) cs) (drop_all c.loop-choice.choice-index choices past))
    ∙ c.loop-choice.invariant.left session
    ∙ settled_is s (known session c.args.cursors.now c.args.owes.now) choices (recursion_from_All (IsThere s) choices there)
