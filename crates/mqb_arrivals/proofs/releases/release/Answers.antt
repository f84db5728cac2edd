use Rattle.std.proofs.Common.{rules, sym, ap, ◌∙◌}
use Rattle.mqb_model.specs.records.Releases.{release_fits}
use Rattle.mqb_model.specs.state.State.{State}
use Rattle.mqb_arrivals.proofs.Waiting.{is_there}
use Rattle.mqb_arrivals.proofs.releases.release.Goals as goal

pub returns-in_default-clause-unfit : goal.returns-in_default-clause-unfit
returns-in_default-clause-unfit c h =
    ap (λ (s : State). release_fits s c.args.number) (sym c.contents.ensures) ∙ is_there c.contents.result.now.lists c.args.number _ c.in_default.ensures.peer ∙ search rules

pub returns-clause-fit : goal.returns-clause-fit
returns-clause-fit c =
    ap (λ (s : State). release_fits s c.args.number) (sym c.contents.ensures) ∙ is_there c.contents.result.now.lists c.args.number _ c.in-Some.ensures.peer
