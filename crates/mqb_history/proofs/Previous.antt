-- What stands between a message that a row keeps and the previous one expired.
use Rattle.std.proofs.Common.{refl, sym, subst, arith, inl, inr}
use Rattle.std.proofs.lemmas.List.Elements.{All-contains}
use Rattle.std.specs.List.{AllByRecursion, Contains, cons_option, range_with_len}
use Rattle.std.specs.Prelude.{[], ◌+◌, ◌<◌, ◌∷◌, ◌≤◌, ◌⊎◌, List, None, Option, Some, cond, length, suc, zero, ℕ}
use Rattle.mqb_base.specs.declared.heads.TxHead.{TxHead}
use Rattle.mqb_base.specs.declared.message.Message.{Message}
use Rattle.mqb_exactly_once.specs.Words.{In, position_of}
use Rattle.mqb_exactly_once.specs.World.{Commitment}
use Rattle.mqb_model.specs.state.State.{State}
use Rattle.mqb_network.specs.Courses.{Written}
use Rattle.mqb_network.specs.Laws.{lines_written}
use Rattle.mqb_orders.specs.KeptLists.{numbers}
use Rattle.mqb_orders.specs.Rows.{Row, link_before}
use Rattle.mqb_orders.specs.declared.kept.Kept.{Kept}
use Rattle.mqb_orders.proofs.Greatest.{floor, greatest}
use Rattle.mqb_orders.proofs.Members.{Contains-behind, Contains-front}
use Rattle.mqb_history.specs.Committed.{commitments, number_in, numbers_in}
use Rattle.mqb_history.proofs.Committing.{IsCounted, itself, kept_at}
use Rattle.mqb_history.proofs.Holding.{HasExpired, IsWhole, Keeps}
use Rattle.mqb_history.proofs.Sending.{IsRowOf}
use Rattle.mqb_history.proofs.Unskipped.{AreHeld}

-- A kept number below another is at most the link of that.
pub linked : (acked n : ℕ) (kept : List Kept) (k : Kept) → In k kept → k.number < n → k.number ≤ link_before acked kept n
linked acked n kept k i less = (All-contains (λ x. x < n → x ≤ link_before acked kept n) (numbers kept) k.number (greatest acked n (numbers kept)) (among kept i)) less
  where
    among : (ks : List Kept) → In k ks → Contains (numbers ks) k.number
    among [] i = absurd i
    among (x ∷ ks) (inl e) = subst (λ (y : Kept). Contains (numbers (x ∷ ks)) y.number) e (Contains-front x.number (numbers ks))
    among (x ∷ ks) (inr i) = Contains-behind x.number (numbers ks) k.number (among ks i)

-- A kept number is one of those that the row counts.

pub in_range : (a len n : ℕ) → In n (range_with_len a len) → n < a + len
in_range a zero n i = absurd i
in_range a (suc len) n (inl e) = omega (arith, e)
in_range a (suc len) n (inr i) = let less = in_range (a + 1) len n i in omega (arith, less)

pub in_numbers : (cs : List Commitment) (c : Commitment) → In c cs → In c.position.number (numbers_in c.position.sequence cs)
in_numbers [] c i = absurd i
in_numbers (x ∷ cs) c (inl e) = subst (λ (y : Commitment). In y.position.number (numbers_in y.position.sequence (x ∷ cs))) e
    (subst (λ b. In x.position.number (cons_option (cond b (Some x.position.number) None) (numbers_in x.position.sequence cs))) (sym (itself x.position.sequence)) (inl refl))
in_numbers (x ∷ cs) c (inr i) = at (number_in c.position.sequence x) (in_numbers cs c i)
  where
    at : (o : Option ℕ) → In c.position.number (numbers_in c.position.sequence cs) → In c.position.number (cons_option o (numbers_in c.position.sequence cs))
    at None j = j
    at (Some n) j = inr j

-- What is known of a message that goes under a header: it was committed, and what stands between its number and the previous one expired.
abbrev pub IsKnownTo : List Written → Message → TxHead → Type 0
IsKnownTo ws m tx = In (record { position = position_of tx; message = m }) (commitments ws)
    × ((n : ℕ) → tx.previous < n → n < tx.number → HasExpired (lines_written ws) tx.sequence n)

row_known : (s : State) (ws : List Written) (row : Row) → AreHeld s ws → IsCounted (commitments ws) row → IsWhole (lines_written ws) row → IsRowOf (IsKnownTo ws) row
row_known s ws row held counted whole k i = (
  counted.kept k i,
  λ n low high. at n low high
      (whole n (let f = floor row.acked k.number (numbers row.kept) in omega (arith, f, low)) (omega (arith, high, within))),
)
  where
    within : k.number ≤ row.committed
    within = let less = in_range 1 (length (numbers_in row.sequence (commitments ws))) k.number
        (subst (In k.number) (held.0.numbered row.sequence) (in_numbers (commitments ws) (kept_at row k) (counted.kept k i))) in
        let count = counted.count in omega (arith, less, count)

    at : (n : ℕ) → link_before row.acked row.kept k.number < n → n < k.number → Keeps row n ⊎ HasExpired (lines_written ws) row.sequence n
        → HasExpired (lines_written ws) row.sequence n
    at n low high (inl x) = let same = x.2 in let le = linked row.acked k.number row.kept x.0 x.1 (omega (arith, high, same)) in absurd (omega (arith, low, le, same))
    at n low high (inr e) = e

pub rows_known : (s : State) (ws : List Written) → AreHeld s ws → AllByRecursion (IsRowOf (IsKnownTo ws)) s.outs
rows_known s ws held = all s.outs held.0.rows held.1
  where
    all : (rows : List Row) → AllByRecursion (IsCounted (commitments ws)) rows → AllByRecursion (IsWhole (lines_written ws)) rows → AllByRecursion (IsRowOf (IsKnownTo ws)) rows
    all [] counted whole = tt
    all (row ∷ rows) counted whole = (row_known s ws row held counted.0 whole.0, all rows counted.1 whole.1)
