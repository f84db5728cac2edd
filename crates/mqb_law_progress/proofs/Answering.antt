-- Of two ends in step whatever goes is in order, and acknowledges all.
use Rattle.std.proofs.Common.{◌≡◌, ℕ, ◌+◌, ◌≤◌, ◌==◌, ◌||◌, true, false, cond, max, nat_lt, refl, sym, ap, ◌∙◌, arith}
use Rattle.std.proofs.lemmas.Bool.Decides.{nat_tests}
use Rattle.mqb_base.specs.declared.heads.SessionHead.{SessionHead}
use Rattle.mqb_session.specs.Hearing.{acknowledged, closing, counted, head_in, heard_head, is_bad_ack, order_of}
use Rattle.mqb_session.specs.Sending.{stamped}
use Rattle.mqb_session.specs.State as one_end
use Rattle.mqb_session.specs.State.{IsKept}
use Rattle.mqb_base.specs.declared.heard.Cause.TheVariants.{BadAck}
use Rattle.mqb_session.specs.declared.heads.HeadHeard.{HeadHeard}
use Rattle.mqb_session.specs.declared.heads.HeadHeard.TheVariants as heard
use Rattle.mqb_session.specs.declared.heads.Kind.{Kind}
use Rattle.mqb_session.specs.declared.heads.Kind.TheVariants as kind
use Rattle.mqb_session.specs.declared.phase.Phase.TheVariants.{Ready}
use Rattle.mqb_law_progress.specs.Steps.{AreInStep, IsOfUser}

none_less : (n m : ℕ) → n ≡ m → nat_lt n m ≡ false
none_less n m same = grind (arith, nat_tests)

next_number : (n m : ℕ) → n ≡ m → (n + 1 == m + 1) ≡ true
next_number n m same = grind (arith, nat_tests)

not_first : (n : ℕ) → (n + 1 == 0) ≡ false
not_first n = grind (arith, nat_tests)

all_of : (acked sent told : ℕ) → acked ≤ sent → sent ≡ told → max acked told ≡ sent
all_of acked sent told within same = omega (arith, within, same)

module _ (a b : one_end.State) (ready : b.phase ≡ Ready) (step : AreInStep a b) (kept : IsKept b) where
  -- a header that bears the next number and tells what was got
  numbered_so : (h : SessionHead) → h.ack ≡ a.got → h.stored ≡ a.stored → h.user ≡ a.sent + 1
      → heard_head h b ≡ (heard.InOrder, record b { acked = b.sent; recoverable_acked = b.recoverable_sent; got = b.got + 1; owes = true })
  numbered_so h acks stores next =
      ap (λ p. head_in p h b) ready
      ∙ ap (λ t. cond t (closing BadAck b) (order_of h b, counted (order_of h b) (acknowledged h b))) good
      ∙ ap (λ (o : HeadHeard). (o, counted o (acknowledged h b))) in_order
      ∙ ap (λ n. (heard.InOrder, record b { acked = n; recoverable_acked = max b.recoverable_acked h.stored; got = b.got + 1; owes = true })) all
      ∙ ap (λ n. (heard.InOrder, record b { acked = b.sent; recoverable_acked = n; got = b.got + 1; owes = true })) all_stored
    where
      good : is_bad_ack h b ≡ false
      good = ap (λ t. t || nat_lt b.recoverable_sent h.stored) (none_less b.sent h.ack (step.back ∙ sym acks)) ∙ none_less b.recoverable_sent h.stored (step.stored_back ∙ sym stores)

      in_order : order_of h b ≡ heard.InOrder
      in_order = ap (λ n. cond (n == 0) heard.AckOnly (cond (n == b.got + 1) heard.InOrder heard.OutOfOrder)) next
          ∙ ap (λ t. cond t heard.AckOnly (cond (a.sent + 1 == b.got + 1) heard.InOrder heard.OutOfOrder)) (not_first a.sent)
          ∙ ap (λ t. cond t heard.InOrder heard.OutOfOrder) (next_number a.sent b.got step.there)

      all : max b.acked h.ack ≡ b.sent
      all = all_of b.acked b.sent h.ack kept.acked (step.back ∙ sym acks)

      all_stored : max b.recoverable_acked h.stored ≡ b.recoverable_sent
      all_stored = all_of b.recoverable_acked b.recoverable_sent h.stored kept.recoverable_acked (step.stored_back ∙ sym stores)

  pub each_is_in_order : (k : Kind) → IsOfUser k → heard_head (stamped k a).0 b ≡ (heard.InOrder, record b { acked = b.sent; recoverable_acked = b.recoverable_sent; got = b.got + 1; owes = true })
  each_is_in_order kind.Plain user = numbered_so (stamped kind.Plain a).0 refl refl refl
  each_is_in_order kind.Recoverable user = numbered_so (stamped kind.Recoverable a).0 refl refl refl
  each_is_in_order kind.Ack user = absurd user
