-- A step takes nothing back.
use Rattle.std.proofs.Common.{◌≡◌, ℕ, ◌<◌, ◌≤◌, inl, inr, max, Bool, true, false, not, ◌&&◌, ◌||◌, cond, List, refl, ap, subst, ◌∙◌, le_trans, arith}
use Rattle.mqb_base.specs.declared.ids.SequenceId.{SequenceId}
use Rattle.mqb_base.specs.Sequences.{same_sequence}
use Rattle.mqb_orders.specs.declared.judging.Verdict.{Verdict}
use Rattle.mqb_orders.specs.declared.judging.Verdict.TheVariants.{Next}
use Rattle.mqb_exactly_once.specs.Outcomes.{Outcome, Refused}
use Rattle.mqb_exactly_once.specs.World.{Position, Commitment, Expiry, Decision, KnownFate, Transfer, OrderAck, FinalAck, StreamWorld}
use Rattle.mqb_exactly_once.specs.Words.{In, same_position, position_of, is_committed, is_expired, kept, count, last}
use Rattle.mqb_exactly_once.specs.Steps.{StreamStep, Commit, Expire, Offer, Send, Arrive, Fate, Acknowledge, Acknowledged, Tell, Told, Connect, marked, raised, commitment, decision, decided_after, fates_after, verdict, happens, May}
use Rattle.mqb_exactly_once.specs.ExactlyOnce.{IsNumbered}
use Rattle.mqb_exactly_once.specs.Growth.{Grows}
use Rattle.mqb_exactly_once.specs.Truths.{IsMark}
use Rattle.mqb_exactly_once.proofs.Positions.{same_sequence_is, same_position_is}
use Rattle.mqb_exactly_once.proofs.Numbers.{kept_within}
use Rattle.mqb_exactly_once.proofs.Decisions.{DecisionsRise}
use Rattle.mqb_exactly_once.proofs.Judging.{IsNew, next_is_new}

channel_stays : (w : StreamWorld) (x : StreamStep) → (happens w x).channel ≡ w.channel
channel_stays w (Commit s m) = refl
channel_stays w _ = refl

connection_grows : (w : StreamWorld) (x : StreamStep) → w.connection ≤ (happens w x).connection
connection_grows w Connect = omega arith
connection_grows w _ = omega arith

-- ---- the lists

pub in_decided_after : (v : Verdict) (d : Decision) (ds : List Decision) (e : Decision) → In e ds → In e (decided_after v d ds)
in_decided_after Next d ds e inside = inr inside
in_decided_after _ d ds e inside = inside

pub in_fates_after : (v : Verdict) (p : Position) (outcome : Outcome) (fs : List KnownFate) (f : KnownFate) → In f fs
    → In f (fates_after v p outcome fs)
in_fates_after Next p (Refused reason) fs f inside = inr inside
in_fates_after _ p _ fs f inside = inside

committed_grow : (w : StreamWorld) (x : StreamStep) (c : Commitment) → In c w.committed → In c (happens w x).committed
committed_grow w (Commit s m) c inside = inr inside
committed_grow w _ c inside = inside

expired_grow : (w : StreamWorld) (x : StreamStep) (e : Expiry) → In e w.expired → In e (happens w x).expired
expired_grow w (Expire c moment) e inside = inr inside
expired_grow w _ e inside = inside

decided_grow : (w : StreamWorld) (x : StreamStep) (d : Decision) → In d w.decided → In d (happens w x).decided
decided_grow w (Arrive p outcome) d inside = in_decided_after (verdict w p) (decision p outcome) w.decided d inside
decided_grow w _ d inside = inside

fates_grow : (w : StreamWorld) (x : StreamStep) (f : KnownFate) → In f w.fates → In f (happens w x).fates
fates_grow w (Arrive p outcome) f inside = in_fates_after (verdict w p) (position_of p.head) outcome w.fates f inside
fates_grow w (Fate p departure) f inside = inr inside
fates_grow w _ f inside = inside

transfers_grow : (w : StreamWorld) (x : StreamStep) (t : Transfer) → In t w.transfers → In t (happens w x).transfers
transfers_grow w (Send c moment) t inside = inr inside
transfers_grow w _ t inside = inside

order_acks_grow : (w : StreamWorld) (x : StreamStep) (a : OrderAck) → In a w.order_acks → In a (happens w x).order_acks
order_acks_grow w (Acknowledge p) a inside = inr inside
order_acks_grow w _ a inside = inside

final_acks_grow : (w : StreamWorld) (x : StreamStep) (a : FinalAck) → In a w.final_acks → In a (happens w x).final_acks
final_acks_grow w (Tell f) a inside = inr inside
final_acks_grow w _ a inside = inside

-- ---- the marks

pub marked_above : (p : Position) (marks : SequenceId → ℕ) (s : SequenceId) → marks p.sequence ≤ p.number → marks s ≤ marked p marks s
marked_above p marks s above = at (same_sequence p.sequence s) refl
  where
    at : (b : Bool) → same_sequence p.sequence s ≡ b → marks s ≤ cond b p.number (marks s)
    at true same = subst (λ (t : SequenceId). marks t ≤ p.number) (same_sequence_is p.sequence s same) above
    at false other = omega arith

pub raised_above : (p : Position) (marks : SequenceId → ℕ) (s : SequenceId) → marks s ≤ raised p marks s
raised_above p marks s = at (same_sequence p.sequence s)
  where
    at : (b : Bool) → marks s ≤ cond b (max (marks s) p.number) (marks s)
    at true = omega arith
    at false = omega arith

offered_grow : (w : StreamWorld) (x : StreamStep) → May w x → (s : SequenceId) → w.offered s ≤ (happens w x).offered s
offered_grow w (Offer p) may = λ s. marked_above p w.offered s (omega (arith, may.1))
offered_grow w _ may = λ s. omega arith

acknowledged_grow : (w : StreamWorld) (x : StreamStep) → May w x → (s : SequenceId) → w.acknowledged s ≤ (happens w x).acknowledged s
acknowledged_grow w (Acknowledged a) may = λ s. marked_above a.position w.acknowledged s (omega (arith, may.2))
acknowledged_grow w (Told a) may = λ s. raised_above a.position w.acknowledged s
acknowledged_grow w _ may = λ s. omega arith

last_after : (ds : List Decision) (t : Transfer) (outcome : Outcome) (v : Verdict) → (v ≡ Next → IsNew ds t.head) → (s : SequenceId)
    → last ds s ≤ last (decided_after v (decision t outcome) ds) s
last_after ds t outcome Next new s =
    let above : last ds t.head.sequence < t.head.number = (new refl).above in
    marked_above (position_of t.head) (last ds) s (omega arith)
last_after ds t outcome _ new s = omega arith

last_grow : (w : StreamWorld) (x : StreamStep) → DecisionsRise w.decided → May w x
    → (s : SequenceId) → last w.decided s ≤ last (happens w x).decided s
last_grow w (Arrive p outcome) rise may = last_after w.decided p outcome (verdict w p) (next_is_new w.channel w.decided p.head rise)
last_grow w _ rise may = λ s. omega arith

-- ---- what is kept

-- a number that was offered is within the count
pub mark_within : (w : StreamWorld) (s : SequenceId) (n : ℕ) → IsNumbered w.committed → IsMark w s n → n ≤ count w.committed s
mark_within w s n numbered (inl none) = omega arith
mark_within w s n numbered (inr is) = (kept_within w.committed w.expired (record { sequence = s; number = n }) numbered is).1

or_none : (a b : Bool) → (a ≡ true → ⊥) → (a || b) ≡ b
or_none true b not_it = absurd (not_it refl)
or_none false b not_it = refl

kept_stay : (w : StreamWorld) (x : StreamStep) → IsNumbered w.committed → ((s : SequenceId) → IsMark w s (w.offered s)) → May w x
    → (p : Position) → p.number ≤ w.offered p.sequence → kept (happens w x) p ≡ kept w p
kept_stay w (Commit s m) numbered marks may = λ p offered.
    ap (λ b. b && not (is_expired w.expired p)) (or_none (same_position (commitment w s m).position p) (is_committed w.committed p) (apart p offered))
  where
    apart : (p : Position) → p.number ≤ w.offered p.sequence → same_position (commitment w s m).position p ≡ true → ⊥
    apart p offered same =
        let is = same_position_is (commitment w s m).position p same in
        let within : w.offered p.sequence ≤ count w.committed p.sequence =
        mark_within w p.sequence (w.offered p.sequence) numbered (marks p.sequence) in
        let above : count w.committed p.sequence < p.number = subst (λ (q : Position). count w.committed q.sequence < q.number) is (omega arith) in
        omega arith
kept_stay w (Expire c moment) numbered marks may = λ p offered.
    ap (λ b. is_committed w.committed p && not b) (or_none (same_position c.position p) (is_expired w.expired p) (apart p offered))
  where
    apart : (p : Position) → p.number ≤ w.offered p.sequence → same_position c.position p ≡ true → ⊥
    apart p offered same =
        let is = same_position_is c.position p same in
        let unoffered : w.offered c.position.sequence < c.position.number = omega (arith, may.2) in
        let above : w.offered p.sequence < p.number = subst (λ (q : Position). w.offered q.sequence < q.number) is unoffered in
        omega arith
kept_stay w _ numbered marks may = λ p offered. refl

pub grows : (w : StreamWorld) (x : StreamStep) → IsNumbered w.committed → ((s : SequenceId) → IsMark w s (w.offered s)) → DecisionsRise w.decided
    → May w x → Grows w (happens w x)
grows w x numbered marks rise may = record {
  channel = channel_stays w x;
  connection = connection_grows w x;
  kept = kept_stay w x numbered marks may;
  offered = offered_grow w x may;
  acknowledged = acknowledged_grow w x may;
  last = last_grow w x rise may;
  committed = committed_grow w x;
  expired = expired_grow w x;
  decided = decided_grow w x;
  fates = fates_grow w x;
  transfers = transfers_grow w x;
  order_acks = order_acks_grow w x;
  final_acks = final_acks_grow w x;
}

-- ---- over more steps

pub grows_none : (w : StreamWorld) → Grows w w
grows_none w = record {
  channel = refl;
  connection = omega arith;
  kept = λ p offered. refl;
  offered = λ s. omega arith;
  acknowledged = λ s. omega arith;
  last = λ s. omega arith;
  committed = λ c inside. inside;
  expired = λ e inside. inside;
  decided = λ d inside. inside;
  fates = λ f inside. inside;
  transfers = λ t inside. inside;
  order_acks = λ a inside. inside;
  final_acks = λ a inside. inside;
}

pub grows_trans : (u v w : StreamWorld) → Grows u v → Grows v w → Grows u w
grows_trans u v w g h = record {
  channel = h.channel ∙ g.channel;
  connection = le_trans g.connection h.connection;
  kept = λ p offered. h.kept p (le_trans offered (g.offered p.sequence)) ∙ g.kept p offered;
  offered = λ s. le_trans (g.offered s) (h.offered s);
  acknowledged = λ s. le_trans (g.acknowledged s) (h.acknowledged s);
  last = λ s. le_trans (g.last s) (h.last s);
  committed = λ c inside. h.committed c (g.committed c inside);
  expired = λ e inside. h.expired e (g.expired e inside);
  decided = λ d inside. h.decided d (g.decided d inside);
  fates = λ f inside. h.fates f (g.fates f inside);
  transfers = λ t inside. h.transfers t (g.transfers t inside);
  order_acks = λ a inside. h.order_acks a (g.order_acks a inside);
  final_acks = λ a inside. h.final_acks a (g.final_acks a inside);
}
