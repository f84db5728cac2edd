-- One outgoing row is changed.
use Rattle.std.proofs.Common.{◌≡◌, ℕ, ◌+◌, ◌<◌, ◌==◌, true, false, cond, List, [], ◌∷◌, ◌++◌, length, get_or, set, Option, Some, None, refl, sym, ap, ◌∙◌, subst, arith}
use Rattle.std.specs.List.{position}
use Rattle.std.specs.Option.{option_map_or}
use Rattle.std.specs.Prelude.{nat_lt, slice_get}
use Rattle.std.proofs.lemmas.Bool.Decides.{nat_tests}
use Rattle.std.proofs.lemmas.List.{set-set}
use Rattle.std.proofs.lemmas.List.Sums.{position_or_len_is}
use Rattle.std.proofs.lemmas.Option.{get_or_from_slice_get, slice_get_within}
use Rattle.mqb_base.specs.declared.message.Message.{Message}
use Rattle.mqb_contents.specs.Rows.{with_out}
use Rattle.mqb_contents.proofs.mqb_tables.Members.{changed_is, get-set, there}
use Rattle.mqb_contents.specs.mqb_model.Lists.{with_changed}
use Rattle.mqb_contents.specs.mqb_model.rules.Effects.{Effect, without_line}
use Rattle.mqb_contents.specs.mqb_model.rules.Sequences.{join, new_sequence, sequence_in_use, with_kept, with_sequence}
use Rattle.mqb_contents.specs.mqb_model.state.Rows.{has_ordinal, with_row}
use Rattle.mqb_contents.specs.mqb_model.state.State.{State}
use Rattle.mqb_orders.specs.Rows.{Row}
use Rattle.mqb_drafts.specs.Drafts.{OrdinalsRise}
use Rattle.mqb_drafts.specs.Rows.{committing, keeping_last}
use Rattle.mqb_drafts.proofs.Ends.{get_end, set_end}

-- ---- one thing after another

pub two_steps : (old middle new : Effect) (s t : State) (f : State → State) → middle ≡ without_line old s → f s ≡ t → new ≡ without_line middle (f middle.state)
    → new ≡ without_line old t
two_steps old middle new s t f first same second = second ∙ (ap (λ (e : Effect). without_line e (f e.state)) first ∙ ap (without_line old) same)

-- ---- changes of one row

-- two changes of a row that is there do the same to it
pub same_change : (f g : Row → Row) (s : State) (k : ℕ) (r : Row) → slice_get s.outs k ≡ Some r → f r ≡ g r → with_out f s k ≡ with_out g s k
same_change f g s k r is same =
    ap (λ (l : List Row). record s { outs = l })
    (changed_is f s.outs k r is ∙ (ap (λ (x : Row). set s.outs k x) same ∙ sym (changed_is g s.outs k r is)))

pub changed_twice : (f g : Row → Row) (s : State) (k : ℕ) → with_out g (with_out f s k) k ≡ with_out (λ r. g (f r)) s k
changed_twice f g s k = ap (λ (l : List Row). record s { outs = l }) (at (slice_get s.outs k) refl)
  where
    at : (o : Option Row) → slice_get s.outs k ≡ o → with_changed g (with_changed f s.outs k) k ≡ with_changed (λ r. g (f r)) s.outs k
    at None is =
        let same : with_changed f s.outs k ≡ s.outs = ap (λ (o : Option Row). option_map_or (λ r. set s.outs k (f r)) o s.outs) is in
        ap (λ (l : List Row). with_changed g l k) same
        ∙ (ap (λ (o : Option Row). option_map_or (λ r. set s.outs k (g r)) o s.outs) is
        ∙ sym (ap (λ (o : Option Row). option_map_or (λ r. set s.outs k (g (f r))) o s.outs) is))
    at (Some r) is =
        ap (λ (l : List Row). with_changed g l k) (changed_is f s.outs k r is)
        ∙ (changed_is g (set s.outs k (f r)) k (f r) (get-set s.outs k r (f r) is)
        ∙ (set-set s.outs k (f r) (g (f r)) ∙ sym (changed_is (λ r. g (f r)) s.outs k r is)))

-- a message joins a row: it is committed, and then kept
pub kept_next : (s : State) (k : ℕ) (m : Message) → with_out (keeping_last m) (with_out committing s k) k ≡ with_out (with_kept m) s k
kept_next s k m = changed_twice committing (keeping_last m) s k

-- ---- a message joins its sequence

other : (a b : ℕ) → a < b → (a == b) ≡ false
other a b h = grind (arith, nat_tests)

same : (a : ℕ) → (a == a) ≡ true
same a = grind (arith, nat_tests)

-- an ordinal is that of one row
pub has_its_ordinal : (rows : List Row) (k : ℕ) (r : Row) → ((i j : ℕ) (d : Row) → i < j → j < length rows → (get_or rows i d).sequence.ordinal < (get_or rows j d).sequence.ordinal)
    → slice_get rows k ≡ Some r → position (has_ordinal r.sequence.ordinal) rows ≡ Some k
has_its_ordinal rows k r rises is =
    ap (λ n. cond (nat_lt n (length rows)) (Some n) None) (position_or_len_is (has_ordinal r.sequence.ordinal) rows k r (omega (arith, within)) before (λ h. here))
    ∙ ap (λ b. cond b (Some k) None) less
  where
    within : k < length rows
    within = slice_get_within rows k r is

    there_is : get_or rows k r ≡ r
    there_is = get_or_from_slice_get rows k r r is

    before : (i : ℕ) → i < k → has_ordinal r.sequence.ordinal (get_or rows i r) ≡ false
    before i h = other (get_or rows i r).sequence.ordinal r.sequence.ordinal
        (subst (λ (row : Row). (get_or rows i r).sequence.ordinal < row.sequence.ordinal) there_is (rises i k r h within))

    here : has_ordinal r.sequence.ordinal (get_or rows k r) ≡ true
    here = subst (λ (row : Row). has_ordinal r.sequence.ordinal row ≡ true) (sym there_is) (same r.sequence.ordinal)

    less : nat_lt k (length rows) ≡ true
    less = let w = within in grind (arith, nat_tests)

pub joined : (s : State) (peer now k : ℕ) (m : Message) → OrdinalsRise s → slice_get s.outs k ≡ sequence_in_use s peer m.destination → k < length s.outs
    → with_out (with_kept m) s k ≡ join s peer now m
joined s peer now k m rises in_use within =
    let t = there s.outs k within in
    ap (λ (o : Option ℕ). record s { outs = option_map_or (with_changed (with_kept m) s.outs) o s.outs }) (sym (has_its_ordinal s.outs k t.0 rises t.1))
    ∙ ap (λ (o : Option Row). option_map_or (λ row. with_row (with_kept m) s row.sequence.ordinal) o (with_sequence s (with_kept m (new_sequence s peer m.destination now))))
    (sym t.1 ∙ in_use)

pub first_joined : (s : State) (r : Row) (m : Message) → with_out (with_kept m) (with_sequence s r) (length s.outs) ≡ with_sequence s (with_kept m r)
first_joined s r m =
    ap (λ (l : List Row). record s { outs = l; next_ordinal = s.next_ordinal + 1 })
    (changed_is (with_kept m) (s.outs ++ r ∷ []) (length s.outs) r (get_end s.outs r) ∙ set_end s.outs r (with_kept m r))
