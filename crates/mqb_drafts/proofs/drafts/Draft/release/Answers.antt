use Rattle.std.proofs.Common.{List, sym, ap, ◌∙◌, refl, arith}
use Rattle.mqb_base.specs.declared.ledger.Line.{Line}
use Rattle.mqb_contents.proofs.Grown.{grown_refl, grown_trans}
use Rattle.mqb_contents.specs.mqb_model.state.State.{State}
use Rattle.mqb_drafts.proofs.Releasing.{none_leaves, stays_none, within_stays}
use Rattle.mqb_drafts.proofs.drafts.Draft.release.Goals as goal

pub loop-self-init : goal.loop-self-init
loop-self-init c = record {
  same = refl;
  lines = refl;
  stays = stays_none c.args.self.now.effect.state c.args.row c.requires;
  start = refl;
  grown = grown_refl c.args.self.now.rooms;
  held = omega arith;
}

pub is_up_to-requires : goal.is_up_to-requires
is_up_to-requires c = within_stays c.loop-self.self.effect.state c.args.row c.loop-self.index c.loop-self.invariant.stays

pub returns-in_err-index-clause-grown : goal.returns-in_err-index-clause-grown
returns-in_err-index-clause-grown c = grown_trans c.loop-self.invariant.grown c.release_at.ensures.grown

pub loop-self-preserved : goal.loop-self-preserved
loop-self-preserved c = record {
  same = c.in_ok-index.ensures.same ∙ c.loop-self.invariant.same;
  lines = c.in_ok-index.ensures.lines ∙ c.loop-self.invariant.lines;
  stays = c.in_ok-index.ensures.stays;
  start = c.release_at.ensures.start ∙ c.loop-self.invariant.start;
  grown = grown_trans c.loop-self.invariant.grown c.release_at.ensures.grown;
  held = omega (arith, c.in_ok-index.ensures.held, c.loop-self.invariant.held);
}

pub returns-clause-ok : goal.returns-clause-ok
returns-clause-ok c =
    let none = none_leaves c.args.number c.loop-self.self.effect.state c.args.row c.loop-self.index c.loop-self.invariant.stays (c.is_up_to.ensures.above c.loop-self-test.false) in
    ap (λ (lines : List Line). record { state = c.loop-self.self.effect.state; lines = lines }) c.loop-self.invariant.lines
    ∙ ap (λ (s : State). record { state = s; lines = c.args.self.now.effect.lines }) (sym none ∙ c.loop-self.invariant.same)
