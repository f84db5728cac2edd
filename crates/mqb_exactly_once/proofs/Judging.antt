-- What it means that a packet is next: it stands above all that was decided, and links to a decided number.
use Rattle.std.proofs.Common.{◌≡◌, ℕ, ◌<◌, ◌≤◌, inl, inr, Bool, true, false, cond, List, [], ◌∷◌, refl, sym, subst, arith}
use Rattle.std.proofs.lemmas.Bool.Decides.{nat_tests}
use Rattle.mqb_base.specs.declared.heads.TxHead.{TxHead}
use Rattle.mqb_base.specs.Sequences.{same_sequence, earlier}
use Rattle.mqb_orders.specs.declared.judging.Verdict.TheVariants.{Next, Stale, Duplicate}
use Rattle.mqb_orders.specs.Judging.{verdict_of, verdict_after}
use Rattle.mqb_exactly_once.specs.World.{Channel, Position, Decision}
use Rattle.mqb_exactly_once.specs.Words.{In, precedes, position_of, last, row}
use Rattle.mqb_exactly_once.proofs.Positions.{same_sequence_is, later_else, precedes_earlier, precedes_below, precedes_trans}
use Rattle.mqb_exactly_once.proofs.Decisions.{DecisionsRise, none_of_later}

-- what a packet is to what was decided, where it is next
pub record IsNew (ds : List Decision) (tx : TxHead) : Type 0 where
  pub above : last ds tx.sequence < tx.number
  pub linked : tx.previous ≤ last ds tx.sequence
  pub after_all : (d : Decision) → In d ds → precedes d.position (position_of tx) ≡ true

next_after : (d : ℕ) (tx : TxHead) → verdict_after d tx ≡ Next → (d < tx.number) × (tx.previous ≤ d)
next_after d tx next = grind (arith, nat_tests)

stale_is_not_next : Stale ≡ Next → ⊥
stale_is_not_next h = grind arith

-- what stands above the newest decision stands above all
behind : (d : Decision) (ds : List Decision) (p : Position) → DecisionsRise (d ∷ ds) → precedes d.position p ≡ true → (e : Decision)
    → In e (d ∷ ds) → precedes e.position p ≡ true
behind d ds p rise above e (inl is) = subst (λ (x : Decision). precedes x.position p ≡ true) is above
behind d ds p rise above e (inr inside) = precedes_trans e.position d.position p (rise.0 e inside) above

pub next_is_new : (channel : Channel) (ds : List Decision) (tx : TxHead) → DecisionsRise ds → verdict_of (row channel ds) tx ≡ Next → IsNew ds tx
next_is_new channel [] tx rise next =
    let told = next_after 0 tx next in
    record { above = told.0; linked = told.1; after_all = λ d inside. absurd inside }
next_is_new channel (d ∷ ds) tx rise next =
    at (earlier tx.sequence d.position.sequence) refl (same_sequence d.position.sequence tx.sequence) refl next
  where
    of_the_sequence : d.position.sequence ≡ tx.sequence → same_sequence d.position.sequence tx.sequence ≡ true
        → (d.position.number < tx.number) × (tx.previous ≤ d.position.number) → IsNew (d ∷ ds) tx
    of_the_sequence is same told = record {
      above = subst (λ (b : Bool). cond b d.position.number (last ds tx.sequence) < tx.number) (sym same) told.0;
      linked = subst (λ (b : Bool). tx.previous ≤ cond b d.position.number (last ds tx.sequence)) (sym same) told.1;
      after_all = behind d ds (position_of tx) rise (precedes_below d.position (position_of tx) is told.0);
    }

    of_a_later : earlier d.position.sequence tx.sequence ≡ true → (0 < tx.number) × (tx.previous ≤ 0) → IsNew (d ∷ ds) tx
    of_a_later later told = record {
      above = subst (λ (n : ℕ). n < tx.number) (sym (none_of_later d ds tx.sequence rise later)) told.0;
      linked = subst (λ (n : ℕ). tx.previous ≤ n) (sym (none_of_later d ds tx.sequence rise later)) told.1;
      after_all = behind d ds (position_of tx) rise (precedes_earlier d.position (position_of tx) later);
    }

    at : (b : Bool) → earlier tx.sequence d.position.sequence ≡ b → (c : Bool) → same_sequence d.position.sequence tx.sequence ≡ c
        → cond b Stale (verdict_after (cond c d.position.number 0) tx) ≡ Next → IsNew (d ∷ ds) tx
    at true stale c same next = absurd (stale_is_not_next next)
    at false not_stale true same next =
        of_the_sequence (same_sequence_is d.position.sequence tx.sequence same) same (next_after d.position.number tx next)
    at false not_stale false other next = of_a_later (later_else d.position.sequence tx.sequence not_stale other) (next_after 0 tx next)

-- ---- what is dropped

duplicate_after : (d : ℕ) (tx : TxHead) → verdict_after d tx ≡ Duplicate → tx.number ≤ d
duplicate_after d tx duplicate = grind (arith, nat_tests)

not_stale_after : (d : ℕ) (tx : TxHead) → verdict_after d tx ≡ Stale → ⊥
not_stale_after d tx stale = grind (arith, nat_tests)

pub duplicate_within : (channel : Channel) (ds : List Decision) (tx : TxHead) → 0 < tx.number → verdict_of (row channel ds) tx ≡ Duplicate
    → tx.number ≤ last ds tx.sequence
duplicate_within channel [] tx above duplicate = duplicate_after 0 tx duplicate
duplicate_within channel (d ∷ ds) tx above duplicate =
    at (earlier tx.sequence d.position.sequence) (same_sequence d.position.sequence tx.sequence) duplicate
  where
    at : (b c : Bool) → cond b Stale (verdict_after (cond c d.position.number 0) tx) ≡ Duplicate
        → tx.number ≤ cond c d.position.number (last ds tx.sequence)
    at true c duplicate = absurd (grind arith)
    at false true duplicate = duplicate_after d.position.number tx duplicate
    at false false duplicate = let none : tx.number ≤ 0 = duplicate_after 0 tx duplicate in omega arith

pub stale_precedes : (channel : Channel) (ds : List Decision) (tx : TxHead) → verdict_of (row channel ds) tx ≡ Stale
    → (d : Decision) × In d ds × (precedes (position_of tx) d.position ≡ true)
stale_precedes channel [] tx stale = absurd (not_stale_after 0 tx stale)
stale_precedes channel (d ∷ ds) tx stale =
    at (earlier tx.sequence d.position.sequence) refl (cond (same_sequence d.position.sequence tx.sequence) d.position.number 0) stale
  where
    at : (b : Bool) → earlier tx.sequence d.position.sequence ≡ b → (decided : ℕ) → cond b Stale (verdict_after decided tx) ≡ Stale
        → (e : Decision) × In e (d ∷ ds) × (precedes (position_of tx) e.position ≡ true)
    at true before decided stale = (d, inl refl, precedes_earlier (position_of tx) d.position before)
    at false before decided stale = absurd (not_stale_after decided tx stale)
