-- What a row keeps at or below its acknowledged number has the dead-letter bit.
use Rattle.std.proofs.Common.{refl, ap, sym, subst, ◌∙◌, arith, inl, inr}
use Rattle.std.proofs.lemmas.Bool.Decides.{nat_tests}
use Rattle.std.specs.List.{AllByRecursion}
use Rattle.std.specs.Prelude.{[], ◌+◌, ◌++◌, ◌==◌, ◌||◌, ◌∷◌, ◌≡◌, ◌≤◌, ◌⊎◌, Bool, List, false, length, max, nat_lt, true, ℕ}
use Rattle.mqb_base.specs.Bits.{keeps_dead}
use Rattle.mqb_base.specs.Same.{same_guid, same_name}
use Rattle.mqb_base.specs.declared.ids.Identity.{Identity}
use Rattle.mqb_base.specs.declared.message.Message.{Message}
use Rattle.mqb_exactly_once.specs.Words.{In, carried, position_of}
use Rattle.mqb_exactly_once.specs.World.{Commitment, Position}
use Rattle.mqb_model.specs.Lists.{without_first}
use Rattle.mqb_model.specs.records.Applying.{apply}
use Rattle.mqb_model.specs.records.Finals.{is_offered_as}
use Rattle.mqb_model.specs.records.Record.{Record}
use Rattle.mqb_model.specs.records.Record as entry
use Rattle.mqb_model.specs.rules.Timeouts.{expires}
use Rattle.mqb_model.specs.state.State.{State}
use Rattle.mqb_network.specs.Courses.{Course, Written}
use Rattle.mqb_network.specs.Laws.{AreApart}
use Rattle.mqb_network.specs.Network.{manager_at}
use Rattle.mqb_orders.specs.Rows.{Row}
use Rattle.mqb_orders.specs.declared.kept.Kept.{Kept}
use Rattle.mqb_history.specs.Acked.{IsDecidedThere}
use Rattle.mqb_history.specs.Changes.{Change, changed, may_change}
use Rattle.mqb_history.specs.Committed.{commitments, numbers_in}
use Rattle.mqb_history.specs.Decided.{written_of}
use Rattle.mqb_history.specs.Orderly.{IsOrderly}
use Rattle.mqb_history.proofs.Awaited.{IsAwaiting, from_here}
use Rattle.mqb_history.proofs.Between.{all_in, filtered_passes, in_either}
use Rattle.mqb_history.proofs.Committing.{IsCounted}
use Rattle.mqb_history.proofs.Crediting.{row_known}
use Rattle.mqb_history.proofs.Answering.{sound_of}
use Rattle.mqb_history.proofs.Dismissed.{without_in}
use Rattle.mqb_history.proofs.Kept.{counted_low}
use Rattle.mqb_history.proofs.Later.{IsAckedTruly, change_written}
use Rattle.mqb_history.proofs.Lists.{all_weaker, append_length, split_and}
use Rattle.mqb_history.proofs.Names.{same_guid_is}
use Rattle.mqb_history.proofs.Numbering.{AreCounted}
use Rattle.mqb_history.proofs.Outside.{filtered_in}
use Rattle.mqb_history.proofs.Previous.{in_numbers}
use Rattle.mqb_history.proofs.Rowwise.{Acknowledges, Allows, Finishes, IsCommit, applied_each}
use Rattle.mqb_history.proofs.Skipping.{Decides}
use Rattle.mqb_history.proofs.Sparing.{all_of}
use Rattle.mqb_history.proofs.Starting.{filter_most}
use Rattle.mqb_history.proofs.Undecided.{IsKnown, in_decisions}
use Rattle.mqb_history.proofs.Written.{IsLasting, change_lasts, of_append}

abbrev pub IsRetained : Row → Type 0
IsRetained row = (k : Kept) → In k row.kept → k.number ≤ row.acked → keeps_dead k.message ≡ true

-- Rows.

-- what stays of an acknowledged row
dead_below : (low number : ℕ) (dead : Bool) → (nat_lt low number || dead) ≡ true → number ≤ low → dead ≡ true
dead_below low number dead e le = subst (λ b. (b || dead) ≡ true) not_above e
  where
    not_above : nat_lt low number ≡ false
    not_above = grind (arith, nat_tests, le)

not_commit : (r : Record) (ordinal number : ℕ) → Acknowledges r ordinal number → IsCommit r → ⊥
not_commit (entry.Commit now ops) ordinal number a h = a
not_commit r ordinal number a h = h

no_finish : (r : Record) (m : Message) → Finishes r m → IsCommit r → ⊥
no_finish (entry.Commit now ops) m f h = f
no_finish r m f h = h

module _ (s : State) (r : Record) where
  abbrev R : Row → Type 0
  R row = IsRetained row × (IsCommit r → row.acked ≤ row.committed)

  allows : Allows R s r
  allows = record {
    begins = λ commit t peer destination now le same leads. (λ k i. absurd i, λ h. omega arith);
    joins = λ commit m row g. let low = g.1 commit in (λ k i le. joined m row low g.0 k le (in_either row.kept (record { number = row.committed + 1; message = m } ∷ []) k i), λ h. omega (arith, low));
    offers = λ mark row e o g. g;
    acknowledges = λ ordinal number row a o g. (
      λ k i le. dead_below (max row.acked number) k.number (keeps_dead k.message)
          (filtered_passes (λ (x : Kept). nat_lt (max row.acked number) x.number || keeps_dead x.message) row.kept k i) le,
      λ h. absurd (not_commit r ordinal number a h),
    );
    finishes = λ m k row f e named g. (
      λ x i le. dead_below (max row.acked k.number) x.number (keeps_dead x.message)
          (filtered_passes (λ (y : Kept). nat_lt (max row.acked k.number) y.number || keeps_dead y.message) (without_first (is_offered_as m.correlation row) row.kept) x i) le,
      λ h. absurd (no_finish r m f h),
    );
    expires = λ now row g. (λ k i le. g.0 k (without_in (expires now row) row.kept k i) le, g.1);
  }
    where
      joined : (m : Message) (row : Row) → row.acked ≤ row.committed → IsRetained row → (k : Kept) → k.number ≤ row.acked → In k row.kept ⊎ In k (record { number = row.committed + 1; message = m } ∷ []) → keeps_dead k.message ≡ true
      joined m row low g k le (inl i) = g k i le
      joined m row low g k le (inr (inl f)) = let new = ap (λ (x : Kept). x.number) f in absurd (omega (arith, low, new, le))
      joined m row low g k le (inr (inr none)) = absurd none

  record_retains : AllByRecursion IsRetained s.outs → AllByRecursion (λ row. row.acked ≤ row.committed) s.outs → AllByRecursion IsRetained (apply s r).outs
  record_retains kept low = all_weaker R IsRetained (λ row g. g.0) (apply s r).outs (applied_each R s r allows
      (all_of R s.outs (λ row i. (all_in IsRetained s.outs row kept i, λ h. all_in (λ (x : Row). x.acked ≤ x.committed) s.outs row low i))))

-- Courses.

module _ (known : List Identity) (apart : AreApart known) (c : Course) (t : IsAwaiting known c) (retained : (i : ℕ) → AllByRecursion IsRetained (manager_at c.network i).state.outs) (x : Change)
    (may : may_change c x ≡ true) (i : ℕ) where
  abbrev d : Course
  d = changed x c

  abbrev o : IsOrderly known c
  o = t.accounted.agreed.0.0

  abbrev now : State
  now = (manager_at c.network i).state

  abbrev mine : List Written
  mine = written_of i c.written

  -- what is acknowledged was committed
  acked_low : (row : Row) → In row now.outs → row.acked ≤ row.committed
  acked_low row inside = at (all_in (IsAckedTruly c i) now.outs row (t.credible.honest.managers i).rows inside)
    where
      counted : AreCounted now mine
      counted = (t.credible.carrying.0.1 i).0.0.0.0.0

      who : IsKnown known c i
      who = row_known known apart c (sound_of known c t.credible) i row inside

      at : (row.acked ≡ 0) ⊎ IsDecidedThere c i row row.acked → row.acked ≤ row.committed
      at (inl e) = omega (arith, e)
      at (inr y) = counted_low (commitments mine) row counted.numbered (all_in (IsCounted (commitments mine)) now.outs row counted.rows inside) row.acked
          (subst (λ (p : Position). In p.number (numbers_in p.sequence (commitments mine))) (z.2 ∙ f.2.position) (in_numbers (commitments mine) z.0 z.1))
        where
          f : (w : Written) × In w (written_of y.decider c.written) × Decides (record { source = now.identity.guid; destination = row.destination }) w.entry (record { sequence = row.sequence; number = row.acked })
          f = in_decisions (record { source = now.identity.guid; destination = row.destination }) (record { sequence = row.sequence; number = row.acked }) (written_of y.decider c.written) y.decided

          z : (z : Commitment) × In z (commitments mine) × (z.position ≡ position_of f.2.head) × (moment : ℕ) × (f.2.packet.message ≡ carried z.message moment)
          z = from_here known apart c t.accounted t.credible i who.own who.there f.0 f.2.now f.2.numbers f.2.packet f.2.head (filtered_in (λ (v : Written). v.by == y.decider) c.written f.0 f.1) f.2.entry f.2.there
              (same_guid_is f.2.packet.message.id.qm now.identity.guid (split_and (same_guid f.2.packet.message.id.qm now.identity.guid) (same_name f.2.packet.message.destination row.destination) f.2.inside).0 ∙ who.guid)

  -- No record was written yet, or one, or more.
  abbrev Follows : ℕ → State → List Written → Type 0
  Follows k s ws = k ≡ i → ((s.outs ≡ now.outs) × (ws ≡ mine)) ⊎ (((length ws ≡ length mine + 1) × AllByRecursion IsRetained s.outs) ⊎ (length mine + 2 ≤ length ws))

  lasting : IsLasting Follows
  lasting = record {
    quiet = λ k a b ws same f e. stays a b ws same.outs (f e);
    grows = λ k s r ws made f e. grows k s r ws (f e);
  }
    where
      stays : (a b : State) (ws : List Written) → b.outs ≡ a.outs → ((a.outs ≡ now.outs) × (ws ≡ mine)) ⊎ (((length ws ≡ length mine + 1) × AllByRecursion IsRetained a.outs) ⊎ (length mine + 2 ≤ length ws))
          → ((b.outs ≡ now.outs) × (ws ≡ mine)) ⊎ (((length ws ≡ length mine + 1) × AllByRecursion IsRetained b.outs) ⊎ (length mine + 2 ≤ length ws))
      stays a b ws same (inl h) = inl (same ∙ h.0, h.1)
      stays a b ws same (inr (inl h)) = inr (inl (h.0, subst (AllByRecursion IsRetained) (sym same) h.1))
      stays a b ws same (inr (inr h)) = inr (inr h)

      grows : (k : ℕ) (s : State) (r : Record) (ws : List Written) → ((s.outs ≡ now.outs) × (ws ≡ mine)) ⊎ (((length ws ≡ length mine + 1) × AllByRecursion IsRetained s.outs) ⊎ (length mine + 2 ≤ length ws))
          → (((apply s r).outs ≡ now.outs) × (ws ++ record { by = k; before = s; entry = r } ∷ [] ≡ mine))
          ⊎ (((length (ws ++ record { by = k; before = s; entry = r } ∷ []) ≡ length mine + 1) × AllByRecursion IsRetained (apply s r).outs) ⊎ (length mine + 2 ≤ length (ws ++ record { by = k; before = s; entry = r } ∷ [])))
      grows k s r ws (inl h) = inr (inl (
        append_length ws (record { by = k; before = s; entry = r } ∷ []) ∙ ap (λ (vs : List Written). length vs + 1) h.1,
        record_retains s r (subst (AllByRecursion IsRetained) (sym h.0) (retained i)) (subst (AllByRecursion (λ row. row.acked ≤ row.committed)) (sym h.0) (all_of (λ row. row.acked ≤ row.committed) now.outs acked_low)),
      ))
      grows k s r ws (inr (inl h)) = let more = append_length ws (record { by = k; before = s; entry = r } ∷ []) in let one = h.0 in inr (inr (omega (arith, more, one)))
      grows k s r ws (inr (inr h)) = let more = append_length ws (record { by = k; before = s; entry = r } ∷ []) in inr (inr (omega (arith, more, h)))

  pub retained_now : AllByRecursion IsRetained (manager_at d.network i).state.outs
  retained_now = at (change_lasts known Follows lasting c x may o (λ k e. inl (ap (λ n. (manager_at c.network n).state.outs) e, ap (λ n. written_of n c.written) e)) i refl)
    where
      few : length (written_of i d.written) ≤ length mine + 1
      few = let w = change_written c x in let parts = of_append i c.written w.0 in let more = append_length mine (written_of i w.0) in let one = w.2 in
          let less = filter_most (λ (v : Written). v.by == i) w.0 in let all = ap (λ (vs : List Written). length (written_of i vs)) w.1 in let same = ap (λ (vs : List Written). length vs) parts in omega (arith, more, one, less, all, same)

      at : (((manager_at d.network i).state.outs ≡ now.outs) × (written_of i d.written ≡ mine)) ⊎ (((length (written_of i d.written) ≡ length mine + 1) × AllByRecursion IsRetained (manager_at d.network i).state.outs) ⊎ (length mine + 2 ≤ length (written_of i d.written)))
          → AllByRecursion IsRetained (manager_at d.network i).state.outs
      at (inl h) = subst (AllByRecursion IsRetained) (sym h.0) (retained i)
      at (inr (inl h)) = h.1
      at (inr (inr h)) = let le = few in absurd (omega (arith, le, h))
