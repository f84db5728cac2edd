-- The one stream world of a channel, and the parts of its invariant.
use Rattle.std.proofs.Common.{refl, sym, subst, inl, inr}
use Rattle.std.specs.Prelude.{[], ◌<◌, ◌∷◌, ◌≡◌, ◌⊎◌, Bool, List, Some, false, true}
use Rattle.mqb_base.specs.Sequences.{earlier}
use Rattle.mqb_base.specs.declared.ids.SequenceId.{SequenceId}
use Rattle.mqb_exactly_once.proofs.Always.{always, decided_up_to_last, is_exactly_once}
use Rattle.mqb_exactly_once.proofs.Always as exactly
use Rattle.mqb_exactly_once.proofs.Decisions.{DecisionsRise}
use Rattle.mqb_exactly_once.proofs.Positions.{earlier_trans, not_earlier_itself, precedes_tells}
use Rattle.mqb_exactly_once.specs.Runs.{after}
use Rattle.mqb_exactly_once.specs.Words.{In, newest}
use Rattle.mqb_exactly_once.specs.World.{Decision, Position, StreamWorld}
use Rattle.mqb_network.specs.Courses.{Course}
use Rattle.mqb_history.specs.Invariants.{HaveOneStreamWorld, HaveStreamInvariants, StreamInvariant}
use Rattle.mqb_history.specs.Shown.{AreExactlyOnce, AreShown, Shows, channel_of}
use Rattle.mqb_history.proofs.Lists.{some_is, true_not_false}

-- of two sequences one is not earlier than the other
not_both : (a b : SequenceId) → earlier a b ≡ true → earlier b a ≡ false
not_both a b e = at (earlier b a) refl
  where
    at : (t : Bool) → earlier b a ≡ t → t ≡ false
    at true f = absurd (true_not_false (earlier a a) (earlier_trans a b a e f) (not_earlier_itself a))
    at false f = refl

none_later : (ds : List Decision) → DecisionsRise ds → (p : Position) (d : Decision) → newest ds ≡ Some p → In d ds → earlier p.sequence d.position.sequence ≡ false
none_later [] rise p d e i = absurd i
none_later (x ∷ ds) rise p d e i = subst (λ (q : Position). earlier q.sequence d.position.sequence ≡ false) (some_is x.position p e) (at i)
  where
    below : (earlier d.position.sequence x.position.sequence ≡ true) ⊎ ((d.position.sequence ≡ x.position.sequence) × (d.position.number < x.position.number))
        → earlier x.position.sequence d.position.sequence ≡ false
    below (inl f) = not_both d.position.sequence x.position.sequence f
    below (inr f) = subst (λ s. earlier x.position.sequence s ≡ false) (sym f.0) (not_earlier_itself x.position.sequence)

    at : (x ≡ d) ⊎ In d ds → earlier x.position.sequence d.position.sequence ≡ false
    at (inl same) = subst (λ (y : Decision). earlier x.position.sequence y.position.sequence ≡ false) same (not_earlier_itself x.position.sequence)
    at (inr j) = below (precedes_tells d.position x.position (rise.0 d j))

invariant_of : (w : StreamWorld) → exactly.StreamInvariant w → StreamInvariant w
invariant_of w i = record {
  numbered = i.numbered;
  committed_in_order = i.commits;
  marks_stand = i.marks;
  expired_due = i.expiries;
  expired_once = i.differ;
  transfers_are_truthful = i.truthful;
  decided_in_order = i.rise;
  decided_up_to_last = λ p. decided_up_to_last w i p;
  order_acks_are_true = i.order_acks;
  final_acks_are_true = i.final_acks;
  fates_are_true = i.fates;
  none_later = none_later w.decided i.rise;
  begun_in_order = i.begun;
}

-- a world that is reached has them, and is exactly once
pub have_one : (c : Course) → AreShown c → HaveOneStreamWorld c
have_one c h i j d leads = let s = h i j d leads in let k = always (channel_of c.network i d) s.steps s.run in let w = after (channel_of c.network i d) s.steps in record {
  steps = s.steps;
  run = s.run;
  world = w;
  reached = refl;
  shown = s.shown;
  invariant = invariant_of w k;
  exactly_once = is_exactly_once w k;
}

-- What follows from it.

pub one_is_shown : (c : Course) → HaveOneStreamWorld c → AreShown c
one_is_shown c h i j d leads = let s = h i j d leads in record { steps = s.steps; run = s.run; shown = subst (Shows c i j d) (sym s.reached) s.shown }

pub are_exactly_once : (c : Course) → HaveOneStreamWorld c → AreExactlyOnce c
are_exactly_once c h i j d leads = let s = h i j d leads in (s.world, s.shown, s.exactly_once)

pub have_invariants : (c : Course) → HaveOneStreamWorld c → HaveStreamInvariants c
have_invariants c h i j d leads = let s = h i j d leads in (s.world, s.shown, s.invariant)
