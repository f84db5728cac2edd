-- What notices say of messages that left their queues is true.
use Rattle.std.proofs.Common.{ap, subst, ◌∙◌, arith, inl, inr}
use Rattle.std.specs.Prelude.{◌<◌, ◌≡◌, ◌≤◌, List, Some}
use Rattle.mqb_base.specs.declared.ids.Identity.{Identity}
use Rattle.mqb_base.specs.declared.ids.MessageId.{MessageId}
use Rattle.mqb_base.specs.declared.ledger.Line.{Line}
use Rattle.mqb_base.specs.declared.ledger.Line.TheVariants as line
use Rattle.mqb_exactly_once.specs.Words.{In}
use Rattle.mqb_model.specs.declared.limits.TheConstants.{FIRST_EXPRESS}
use Rattle.mqb_network.specs.Courses.{Course}
use Rattle.mqb_network.specs.Doubts.{settled}
use Rattle.mqb_network.specs.Laws.{AreApart, lines_written}
use Rattle.mqb_network.specs.Runs.{after_run}
use Rattle.mqb_history.specs.Copies.{AreCopiesTold, IsSentOnce, came_in, left_in, sent_in, times}
use Rattle.mqb_history.specs.Orderly.{IsOrderly}
use Rattle.mqb_history.specs.Received.{AlwaysReceivedTruly, AlwaysReceivedTrulyOfPlain, AreMissesTrue, AreSentDurable, IsNoMissTaken, IsPlainReceivedTruly, IsReceivedTruly, missed_in, taken_in}
use Rattle.mqb_history.specs.Truths.{told_by}
use Rattle.mqb_history.proofs.Agreeing.{agreeing}
use Rattle.mqb_history.proofs.Copies.{always_copied_rightly, is_send}
use Rattle.mqb_history.proofs.Courses.{Agrees}
use Rattle.mqb_history.proofs.Fates.{IsMissOf, IsTold}
use Rattle.mqb_history.proofs.Lists.{none_some, some_is}
use Rattle.mqb_history.proofs.Noticed.{Told, noticed_fair, sent_by, told_from}
use Rattle.mqb_history.proofs.Puts.{told_in}
use Rattle.mqb_history.proofs.Sums.{times_is, word}
use Rattle.mqb_history.proofs.Tallies.{tally_both, weight, weight_own}

-- The lines of a kind.

taken_line : (id : MessageId) (l : Line) → taken_in l ≡ Some id → l ≡ line.Took id
taken_line id (line.Took other) e = ap (λ k. line.Took k) (some_is other id e)
taken_line id l e = absurd (none_some e)

-- a miss counts as leaving, and is no take
missed_line : (id : MessageId) (l : Line) → missed_in l ≡ Some id → (word left_in id l ≡ 1) × (line.Took id ≡ l → ⊥)
missed_line id (line.Purged other) e = (ap (weight id) (some_is other id e) ∙ weight_own id, λ f. let none : ⊥ = cc in none)
missed_line id (line.Swept other) e = (ap (weight id) (some_is other id e) ∙ weight_own id, λ f. let none : ⊥ = cc in none)
missed_line id l e = absurd (none_some e)

-- one that was taken and missed left twice
left_twice : (id : MessageId) (c : Course) → In id (told_by missed_in c) → In id (told_by taken_in c) → 2 ≤ times left_in id (lines_written c.written)
left_twice id c missed taken = let m = told_from missed_in (lines_written c.written) id missed in let t = told_from taken_in (lines_written c.written) id taken in let g = missed_line id m.0 m.2 in
    let both = tally_both (word left_in id) (lines_written c.written) (line.Took id) m.0 (subst (Told c) (taken_line id t.0 t.2) t.1) m.1 g.1 in let a = times_is left_in id (lines_written c.written) in let took = weight_own id in let one = g.0 in
    omega (arith, both, a, took, one)

module _ (known : List Identity) (apart : AreApart known) (c : Course) (o : IsOrderly known c) (h : Agrees known c) (told : AreCopiesTold c) where
  miss_of : (id : MessageId) → id.number < FIRST_EXPRESS → IsTold (Told c) IsMissOf id → In id (told_by missed_in c)
  miss_of id low (inr high) = absurd (omega (arith, low, high))
  miss_of id low (inl (l, told, says)) = by l says told
    where
      by : (x : Line) → IsMissOf id x → Told c x → In id (told_by missed_in c)
      by (line.Purged other) e i = told_in missed_in (lines_written c.written) (line.Purged other) id i (ap (λ y. Some y) e)
      by (line.Swept other) e i = told_in missed_in (lines_written c.written) (line.Swept other) id i (ap (λ y. Some y) e)
      by x e i = absurd e

  misses_true : AreMissesTrue c
  misses_true m id inside misses low = miss_of id low (subst (IsTold (Told c) IsMissOf) misses.0 ((noticed_fair known c o h m inside).fate.misses misses.1))

  -- what came once was not taken where it was missed
  came_once : (id : MessageId) → id.number < FIRST_EXPRESS → times came_in id (lines_written c.written) ≤ 1 → In id (told_by missed_in c) → In id (told_by taken_in c) → ⊥
  came_once id low once missed taken = let le = told id low in let two = left_twice id c missed taken in omega (arith, le, two, once)

  sent_durable : AreSentDurable c
  sent_durable id i = let l = told_from sent_in (lines_written c.written) id i in (sent_by known apart c o h l.0 id l.1 (is_send id l.0 l.2)).number

  pub plain_received_truly : IsPlainReceivedTruly c
  plain_received_truly m id inside misses low once taken = came_once id low once (misses_true m id inside misses low) taken

  module _ (once : IsSentOnce c) where
    not_taken : IsNoMissTaken c
    not_taken id sent missed taken = came_once id (sent_durable id sent) (once id sent) missed taken

    pub received_truly : IsReceivedTruly c
    received_truly = record {
      misses = misses_true;
      durable = sent_durable;
      not_taken = not_taken;
      not_received = λ m id inside misses sent taken. not_taken id sent (misses_true m id inside misses (sent_durable id sent)) taken;
    }

-- The laws.
pub always_received_truly : AlwaysReceivedTruly
always_received_truly known ms apart run kept = let h = agreeing known apart ms run kept in let copied = always_copied_rightly known ms apart run kept in
    received_truly known apart (settled kept (after_run known ms)) h.0 h.1 copied.told copied.once

pub always_received_truly_of_plain : AlwaysReceivedTrulyOfPlain
always_received_truly_of_plain known ms apart run kept = let h = agreeing known apart ms run kept in
    plain_received_truly known apart (settled kept (after_run known ms)) h.0 h.1 (always_copied_rightly known ms apart run kept).told
