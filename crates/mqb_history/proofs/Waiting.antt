-- Each message that a manager committed was acknowledged, waits in its row, or expired.
use Rattle.std.proofs.Common.{refl, ap, sym, subst, ◌∙◌, arith, inl, inr}
use Rattle.std.proofs.lemmas.Bool.Decides.{nat_tests}
use Rattle.std.specs.List.{cons_option, range_with_len}
use Rattle.std.specs.Prelude.{[], ◌+◌, ◌<◌, ◌∷◌, ◌≡◌, ◌≤◌, ◌⊎◌, Bool, List, None, Option, Some, cond, false, length, nat_le, suc, true, zero, ℕ}
use Rattle.mqb_base.specs.declared.ids.SequenceId.{SequenceId}
use Rattle.mqb_exactly_once.specs.Words.{In}
use Rattle.mqb_exactly_once.specs.World.{Commitment, Position}
use Rattle.mqb_model.specs.state.State.{State}
use Rattle.mqb_network.specs.Courses.{Course, Written}
use Rattle.mqb_network.specs.Doubts.{settled}
use Rattle.mqb_network.specs.Laws.{lines_written}
use Rattle.mqb_network.specs.Network.{manager_at}
use Rattle.mqb_network.specs.Runs.{after_run}
use Rattle.mqb_orders.specs.Rows.{Row}
use Rattle.mqb_orders.specs.declared.kept.Kept.{Kept}
use Rattle.mqb_history.specs.Committed.{commitments, number_in, numbers_in}
use Rattle.mqb_history.specs.Decided.{written_of}
use Rattle.mqb_history.specs.Expired.{expiries_told}
use Rattle.mqb_history.specs.Laws.{AlwaysWaiting}
use Rattle.mqb_history.specs.Waiting.{AreWaiting, IsInRow}
use Rattle.mqb_history.proofs.Committing.{IsCounted, all_in, itself, kept_at}
use Rattle.mqb_history.proofs.Holding.{HasExpired, IsWhole, Keeps}
use Rattle.mqb_history.proofs.Previous.{in_numbers, in_range}
use Rattle.mqb_history.proofs.Written.{always_by_records}
use Rattle.mqb_history.proofs.Rows.{AreRowed, HasRow, rowed_by_records}

-- No two commitments have one position.

abbrev AllDiffer : List ℕ → Type 0
AllDiffer [] = Unit {0}
AllDiffer (n ∷ ns) = (In n ns → ⊥) × AllDiffer ns

pub range_from : (a len n : ℕ) → In n (range_with_len a len) → a ≤ n
range_from a zero n i = absurd i
range_from a (suc len) n (inl e) = omega (arith, e)
range_from a (suc len) n (inr i) = let less = range_from (a + 1) len n i in omega (arith, less)

range_differs : (a len : ℕ) → AllDiffer (range_with_len a len)
range_differs a zero = tt
range_differs a (suc len) = (λ i. let less = range_from (a + 1) len a i in omega (arith, less), range_differs (a + 1) len)

-- not even one behind another
twice : (q : SequenceId) (x : Commitment) (cs : List Commitment) (b : Commitment) → x.position.sequence ≡ q → b.position ≡ x.position → In b cs
    → AllDiffer (numbers_in q (x ∷ cs)) → ⊥
twice q x cs b own same j h = (subst (λ t. AllDiffer (cons_option (cond t (Some x.position.number) None) (numbers_in x.position.sequence cs))) (itself x.position.sequence)
    (subst (λ z. AllDiffer (numbers_in z (x ∷ cs))) (sym own) h)).0 (subst (λ (p : Position). In p.number (numbers_in p.sequence cs)) same (in_numbers cs b j))

one_of : (q : SequenceId) (cs : List Commitment) (a b : Commitment) → a.position.sequence ≡ q → b.position ≡ a.position → In a cs → In b cs → AllDiffer (numbers_in q cs) → a ≡ b
one_of q [] a b own same i j h = absurd i
one_of q (x ∷ cs) a b own same (inl e) (inl f) h = sym e ∙ f
one_of q (x ∷ cs) a b own same (inl e) (inr j) h = absurd (twice q x cs b (ap (λ (c : Commitment). c.position.sequence) e ∙ own)
    (same ∙ ap (λ (c : Commitment). c.position) (sym e)) j h)
one_of q (x ∷ cs) a b own same (inr i) (inl f) h = absurd (twice q x cs a (ap (λ (c : Commitment). c.position.sequence) f ∙ ap (λ (p : Position). p.sequence) same ∙ own)
    (sym same ∙ ap (λ (c : Commitment). c.position) (sym f)) i h)
one_of q (x ∷ cs) a b own same (inr i) (inr j) h = at (number_in q x) h (one_of q cs a b own same i j)
  where
    at : (o : Option ℕ) → AllDiffer (cons_option o (numbers_in q cs)) → (AllDiffer (numbers_in q cs) → a ≡ b) → a ≡ b
    at None h rest = rest h
    at (Some n) h rest = rest h.1

-- The law.

waits_or : (s : State) (ws : List Written) (m : Commitment) → AreRowed s ws → In m (commitments ws) → IsInRow s m ⊎ In m.position (expiries_told (lines_written ws))
waits_or s ws m h i = of_row g.0 g.1 g.2 g.3
  where
    cs : List Commitment
    cs = commitments ws

    g : HasRow s.outs m
    g = all_in (HasRow s.outs) cs m h.1 i

    above : (a n : ℕ) → nat_le n a ≡ false → a < n
    above a n e = grind (arith, nat_tests)

    under : (a n : ℕ) → nat_le n a ≡ true → n ≤ a
    under a n e = grind (arith, nat_tests)

    of_row : (row : Row) → In row s.outs → row.sequence ≡ m.position.sequence → row.destination ≡ m.message.destination → IsInRow s m ⊎ In m.position (expiries_told (lines_written ws))
    of_row row there same leads = at (nat_le m.position.number row.acked) refl
      where
        counted : IsCounted cs row
        counted = all_in (IsCounted cs) s.outs row h.0.0.rows there

        differ : AllDiffer (numbers_in row.sequence cs)
        differ = subst AllDiffer (sym (h.0.0.numbered row.sequence)) (range_differs 1 (length (numbers_in row.sequence cs)))

        within : m.position.number ≤ row.committed
        within = let less = in_range 1 (length (numbers_in row.sequence cs)) m.position.number
            (subst (In m.position.number) (h.0.0.numbered row.sequence) (subst (λ q. In m.position.number (numbers_in q cs)) (sym same) (in_numbers cs m i))) in
            let count = counted.count in omega (arith, less, count)

        kept_is : (k : Kept) → In k row.kept → k.number ≡ m.position.number → k ≡ record { number = m.position.number; message = m.message }
        kept_is k inside e = ap (λ n. record { number = n; message = k.message }) e
            ∙ ap (λ (c : Commitment). record { number = m.position.number; message = c.message }) (one_of row.sequence cs (kept_at row k) m refl
            (ap (λ q. record { sequence = q; number = m.position.number }) (sym same) ∙ ap (λ n. record { sequence = row.sequence; number = n }) (sym e))
            (counted.kept k inside) i differ)

        by : Keeps row m.position.number ⊎ HasExpired (lines_written ws) row.sequence m.position.number → IsInRow s m ⊎ In m.position (expiries_told (lines_written ws))
        by (inl k) = inl (record { row = row; there = there; sequence = same; destination = leads; waits = inr (subst (λ x. In x row.kept) (kept_is k.0 k.1 k.2) k.1) })
        by (inr e) = inr (subst (λ q. In (record { sequence = q; number = m.position.number }) (expiries_told (lines_written ws))) same e)

        at : (b : Bool) → nat_le m.position.number row.acked ≡ b → IsInRow s m ⊎ In m.position (expiries_told (lines_written ws))
        at true e = inl (record { row = row; there = there; sequence = same; destination = leads; waits = inl (under row.acked m.position.number e) })
        at false e = by ((all_in (IsWhole (lines_written ws)) s.outs row h.0.1 there) m.position.number (above row.acked m.position.number e) within)

pub always_waiting : AlwaysWaiting
always_waiting known ms apart run kept = of_course (settled kept (after_run known ms)) (always_by_records AreRowed rowed_by_records known ms apart run kept)
  where
    of_course : (c : Course) → ((i : ℕ) → AreRowed (manager_at c.network i).state (written_of i c.written)) → AreWaiting c
    of_course c h i m inside = waits_or (manager_at c.network i).state (written_of i c.written) m (h i) inside
