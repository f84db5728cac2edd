use Rattle.std.proofs.Common.{◌≡◌, ◌*◌, ◌+◌, ◌≤◌, ap, subst}
use Rattle.std.specs.Prelude.{IsSomeAnd, option_copied}
use Rattle.mqb_drafts.specs.Drafts.{Drafted}
use Rattle.mqb_timeouts.specs.Work.{beside_of}
use Rattle.mqb_model.specs.state.State.{State}
use Rattle.mqb_records.specs.Unfit.{IsUnfit}
use Rattle.mqb_state.specs.Together.{IsTried, count_with, effect_with}
use Rattle.mqb_state.proofs.Tried.{few_as, kept_as}
use Rattle.mqb_state.proofs.attempting.attempt_in.Goals as goal

pub returns-in-Ok-clause-ok : goal.returns-in-Ok-clause-ok
returns-in-Ok-clause-ok c = (kept_as c.args.contents.value.lists (option_copied c.args.trial.1) (beside_of c.args.trial.2) c.try_both.new.draft.effect
    c.keep-contents.result.0.value.lists c.keep-contents.result.2.items c.keep-contents.ensures.state c.keep-contents.ensures.lines c.requires.leaves
    (subst (λ (s : State). IsTried s (option_copied c.args.trial.1) (λ r. c.try_both.new.draft.effect ≡ effect_with s r (beside_of c.args.trial.2)))
    (ap (λ (d : Drafted). d.effect.state) c.new-draft.ensures) c.in-Ok.ensures.ok)).effect

pub returns-in-Ok-clause-valid : goal.returns-in-Ok-clause-valid
returns-in-Ok-clause-valid c = (kept_as c.args.contents.value.lists (option_copied c.args.trial.1) (beside_of c.args.trial.2) c.try_both.new.draft.effect
    c.keep-contents.result.0.value.lists c.keep-contents.result.2.items c.keep-contents.ensures.state c.keep-contents.ensures.lines c.requires.leaves
    (subst (λ (s : State). IsTried s (option_copied c.args.trial.1) (λ r. c.try_both.new.draft.effect ≡ effect_with s r (beside_of c.args.trial.2)))
    (ap (λ (d : Drafted). d.effect.state) c.new-draft.ensures) c.in-Ok.ensures.ok)).valid

pub returns-in-Ok-clause-few : goal.returns-in-Ok-clause-few
returns-in-Ok-clause-few c = few_as c.args.contents.value.lists (option_copied c.args.trial.1) c.args.trial.2 _ c.new-draft.result.held c.try_both.new.draft.held
    c.keep-contents.ensures.messages (ap (λ (d : Drafted). d.held) c.new-draft.ensures)
    (subst (λ (s : State). IsTried s (option_copied c.args.trial.1) (λ r. c.try_both.new.draft.held ≤ c.new-draft.result.held + 3 * count_with s r c.args.trial.2))
    (ap (λ (d : Drafted). d.effect.state) c.new-draft.ensures) c.in-Ok.ensures.few)

pub returns-in-Err-clause-unfit : goal.returns-in-Err-clause-unfit
returns-in-Err-clause-unfit c = λ e. subst (λ (s : State). IsSomeAnd (option_copied c.args.trial.1) (IsUnfit s)) (ap (λ (d : Drafted). d.effect.state) c.new-draft.ensures)
    (c.in-Err.ensures.unfit cc)
