-- Decisions rise, and each is of a packet that was sent.
use Rattle.std.proofs.Common.{◌≡◌, ℕ, ◌≤◌, ◌⊎◌, inl, inr, true, ◌==◌, List, refl, sym, ap, subst, ◌∙◌, le_trans, arith}
use Rattle.std.proofs.lemmas.Bool.Decides.{nat_tests}
use Rattle.mqb_base.specs.declared.message.Message.{Message}
use Rattle.mqb_base.specs.Times.{remaining, is_due}
use Rattle.mqb_orders.specs.declared.judging.Verdict.{Verdict}
use Rattle.mqb_orders.specs.declared.judging.Verdict.TheVariants.{Next}
use Rattle.mqb_exactly_once.specs.Outcomes.{Outcome, is_late}
use Rattle.mqb_exactly_once.specs.World.{Commitment, Decision, Transfer, StreamWorld}
use Rattle.mqb_exactly_once.specs.Words.{In, position_of, kept, due, carried}
use Rattle.mqb_exactly_once.specs.Steps.{StreamStep, Arrive, decision, decided_after, verdict, happens, May}
use Rattle.mqb_exactly_once.specs.ExactlyOnce.{SameButReach}
use Rattle.mqb_exactly_once.specs.Growth.{Grows}
use Rattle.mqb_exactly_once.specs.Truths.{IsTruthful}
use Rattle.mqb_exactly_once.proofs.Decisions.{DecisionsRise}
use Rattle.mqb_exactly_once.proofs.Judging.{IsNew, next_is_new}
use Rattle.mqb_exactly_once.proofs.Transferring.{TransfersTruthful, stays_truthful}

rise_after : (ds : List Decision) (t : Transfer) (outcome : Outcome) (v : Verdict) → (v ≡ Next → IsNew ds t.head) → DecisionsRise ds
    → DecisionsRise (decided_after v (decision t outcome) ds)
rise_after ds t outcome Next new rise = ((new refl).after_all, rise)
rise_after ds t outcome _ new rise = rise

pub decisions_rise : (w : StreamWorld) (x : StreamStep) → DecisionsRise w.decided → DecisionsRise (happens w x).decided
decisions_rise w (Arrive p outcome) rise = rise_after w.decided p outcome (verdict w p) (next_is_new w.channel w.decided p.head rise) rise
decisions_rise w _ rise = rise

-- what was decided is new, or was decided before
pub from_decided_after : (v : Verdict) (new : Decision) (ds : List Decision) (d : Decision) → In d (decided_after v new ds) → (new ≡ d) ⊎ In d ds
from_decided_after Next new ds d inside = inside
from_decided_after _ new ds d inside = inr inside

-- where a decision comes from: a message that is kept and was offered, and a packet that carried it
pub record IsSettled (w : StreamWorld) (d : Decision) (c : Commitment) (t : Transfer) : Type 0 where
  pub kept : kept w d.position ≡ true
  pub offered : d.position.number ≤ w.offered d.position.sequence
  pub committed : In c w.committed
  pub sent : In t w.transfers
  pub position : c.position ≡ d.position
  pub head : position_of t.head ≡ d.position
  pub heard : t.message ≡ d.message
  pub message : d.message ≡ carried c.message t.sent_at
  pub late : is_late d.outcome ≡ due c.message t.sent_at

abbrev pub DecisionsSettled : StreamWorld → Type 0
DecisionsSettled w = (d : Decision) → In d w.decided → (c : Commitment) × (t : Transfer) × IsSettled w d c t

stays_settled : (v w : StreamWorld) (d : Decision) (c : Commitment) (t : Transfer) → Grows v w → IsSettled v d c t → IsSettled w d c t
stays_settled v w d c t g is = record {
  kept = g.kept d.position is.offered ∙ is.kept;
  offered = le_trans is.offered (g.offered d.position.sequence);
  committed = g.committed c is.committed;
  sent = g.transfers t is.sent;
  position = is.position;
  head = is.head;
  heard = is.heard;
  message = is.message;
  late = is.late;
}

-- nothing is left of a time exactly where it is due
pub none_left_where_due : (moment reach now : ℕ) → (remaining moment reach now == 0) ≡ is_due moment reach now
none_left_where_due moment reach now = grind (arith, nat_tests)

new_settled : (w : StreamWorld) (t : Transfer) (outcome : Outcome) → IsTruthful w t → In t w.transfers → is_late outcome ≡ (t.message.reach == 0)
    → (c : Commitment) × (u : Transfer) × IsSettled w (decision t outcome) c u
new_settled w t outcome true_of inside timed = (
  true_of.message.0,
  t,
  record {
    kept = true_of.kept;
    offered = true_of.offered;
    committed = true_of.message.1;
    sent = inside;
    position = true_of.message.2;
    head = refl;
    heard = refl;
    message = true_of.message.3;
    late = timed ∙ (ap (λ m. m.reach == 0) true_of.message.3 ∙ none_left_where_due _ _ t.sent_at);
  },
)

pub decisions_settled : (w : StreamWorld) (x : StreamStep) → TransfersTruthful w → DecisionsSettled w → May w x → Grows w (happens w x)
    → DecisionsSettled (happens w x)
decisions_settled w (Arrive p outcome) truthful settled may g = λ d inside.
    at d (from_decided_after (verdict w p) (decision p outcome) w.decided d inside)
  where
    at : (d : Decision) → (decision p outcome ≡ d) ⊎ In d w.decided
        → (c : Commitment) × (t : Transfer) × IsSettled (happens w (Arrive p outcome)) d c t
    at d (inl is) = subst (λ e. (c : Commitment) × (t : Transfer) × IsSettled (happens w (Arrive p outcome)) e c t) is
        (let is_truthful = stays_truthful w (happens w (Arrive p outcome)) p g (truthful p may.1) in
        new_settled (happens w (Arrive p outcome)) p outcome is_truthful (g.transfers p may.1) may.2)
    at d (inr inside) = let old = settled d inside in (old.0, old.1, stays_settled w (happens w (Arrive p outcome)) d old.0 old.1 g old.2)
decisions_settled w x truthful settled may g = λ d inside.
    let old = settled d inside in
    (old.0, old.1, stays_settled w (happens w x) d old.0 old.1 g old.2)

-- what was carried is the same message but for its time to reach the queue
pub same_but_reach : (m heard : Message) (moment : ℕ) → heard ≡ carried m moment → SameButReach m heard
same_but_reach m heard moment is = subst (λ (h : Message). SameButReach m h) (sym is) refl
