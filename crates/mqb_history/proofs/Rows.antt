-- Each message that a manager committed has its row, which leads to its destination.
use Rattle.std.proofs.Common.{refl, ap, sym, subst, ◌∙◌, inl, inr}
use Rattle.std.specs.List.{AllByRecursion, cons_option}
use Rattle.std.specs.Option.{option_map_or}
use Rattle.std.specs.Prelude.{[], ◌++◌, ◌∷◌, ◌≡◌, Bool, List, None, Option, Some, cond, false, fold, true, unwrap_or, ℕ}
use Rattle.mqb_base.specs.declared.message.Message.{Message}
use Rattle.mqb_exactly_once.specs.Words.{In}
use Rattle.mqb_exactly_once.specs.World.{Commitment}
use Rattle.mqb_model.specs.declared.target.Target.{Target}
use Rattle.mqb_model.specs.declared.target.Target.TheVariants.{AtPeer, Here, Nowhere}
use Rattle.mqb_model.specs.records.Applying.{apply}
use Rattle.mqb_model.specs.records.Commit.{send_made, sends_of, takes_made}
use Rattle.mqb_model.specs.records.Record.{Record}
use Rattle.mqb_model.specs.records.Record as entry
use Rattle.mqb_model.specs.rules.Effects.{Effect}
use Rattle.mqb_model.specs.rules.Sends.{committed_to, journalled}
use Rattle.mqb_model.specs.rules.Sequences.{join, new_sequence, sequence_for, sequence_in_use, with_kept, with_sequence}
use Rattle.mqb_model.specs.state.Resolving.{resolved}
use Rattle.mqb_model.specs.state.Rows.{has_ordinal, with_row}
use Rattle.mqb_model.specs.state.State.{State}
use Rattle.mqb_network.specs.Courses.{Written}
use Rattle.mqb_orders.specs.Rows.{Row}
use Rattle.mqb_history.specs.Committed.{commitment_at, commitment_to, commitments, commitments_in, commitments_of}
use Rattle.mqb_history.specs.Made.{IsMade}
use Rattle.mqb_history.proofs.Applying.{takes_made_rows}
use Rattle.mqb_history.proofs.Committing.{first_changed, in_append, in_end, is_first_changed}
use Rattle.mqb_history.proofs.Lists.{all_append, all_weaker, append_nothing}
use Rattle.mqb_history.proofs.Numbering.{commitments_more, cons_behind, in_use_in, made_offers}
use Rattle.mqb_history.proofs.Outside.{CommitsNothing, HaveNoMore, applied_no_more}
use Rattle.mqb_history.proofs.Staying.{delivered_rows, journalled_rows}
use Rattle.mqb_history.proofs.Unskipped.{AreHeld, held_by_records}
use Rattle.mqb_history.proofs.Written.{IsByRecords}
use Rattle.mqb_history.proofs.Telling.{sequence_leads}

-- the row of a commitment's sequence is there, and leads to its destination
abbrev pub HasRow : List Row → Commitment → Type 0
HasRow rows c = (row : Row) × In row rows × (row.sequence ≡ c.position.sequence) × (row.destination ≡ c.message.destination)

abbrev pub HaveRows : List Row → List Commitment → Type 0
HaveRows rows cs = AllByRecursion (HasRow rows) cs

rows_then : (olds news : List Row) → ((c : Commitment) → HasRow olds c → HasRow news c) → (cs : List Commitment) → HaveRows olds cs → HaveRows news cs
rows_then olds news keeps cs h = all_weaker (HasRow olds) (HasRow news) keeps cs h

-- a row that has no more than before
row_after : (olds news : List Row) → HaveNoMore olds news → (c : Commitment) → HasRow olds c → HasRow news c
row_after olds news h c g = by olds news h g.1
  where
    by : (olds news : List Row) → HaveNoMore olds news → In g.0 olds → HasRow news c
    by [] news h i = absurd i
    by (a ∷ olds) [] h i = absurd h
    by (a ∷ olds) (b ∷ news) h (inl e) = (b, inl refl, h.0.sequence ∙ ap (λ (x : Row). x.sequence) e ∙ g.2, h.0.destination ∙ ap (λ (x : Row). x.destination) e ∙ g.3)
    by (a ∷ olds) (b ∷ news) h (inr i) = let r = by olds news h.1 i in (r.0, inr r.1, r.2, r.3)

-- one that a message joins
row_joined : (m : Message) (test : Row → Bool) (rows : List Row) (c : Commitment) → HasRow rows c → HasRow (first_changed (with_kept m) test rows) c
row_joined m test rows c g = by rows g.1
  where
    by : (olds : List Row) → In g.0 olds → HasRow (first_changed (with_kept m) test olds) c
    by [] i = absurd i
    by (a ∷ olds) (inl e) = at (test a)
      where
        at : (b : Bool) → HasRow (cond b (with_kept m a ∷ olds) (a ∷ first_changed (with_kept m) test olds)) c
        at true = (with_kept m a, inl refl, ap (λ (x : Row). x.sequence) e ∙ g.2, ap (λ (x : Row). x.destination) e ∙ g.3)
        at false = (a, inl refl, ap (λ (x : Row). x.sequence) e ∙ g.2, ap (λ (x : Row). x.destination) e ∙ g.3)
    by (a ∷ olds) (inr i) = at (test a) (by olds i)
      where
        at : (b : Bool) → HasRow (first_changed (with_kept m) test olds) c → HasRow (cond b (with_kept m a ∷ olds) (a ∷ first_changed (with_kept m) test olds)) c
        at true rest = (g.0, inr i, g.2, g.3)
        at false rest = (rest.0, inr rest.1, rest.2, rest.3)

join_rows : (s : State) (peer now : ℕ) (m : Message) (cs : List Commitment) → HaveRows s.outs cs
    → HaveRows (join s peer now m).outs (cs ++ commitment_to (sequence_for s peer m.destination now) m ∷ [])
join_rows s peer now m cs h = at (sequence_in_use s peer m.destination) refl
  where
    new : Row
    new = new_sequence s peer m.destination now

    at : (o : Option Row) → sequence_in_use s peer m.destination ≡ o
        → HaveRows (option_map_or (λ row. with_row (with_kept m) s row.sequence.ordinal) o (with_sequence s (with_kept m new))).outs (cs ++ commitment_to (unwrap_or o new) m ∷ [])
    at None e = all_append (HasRow (s.outs ++ with_kept m new ∷ [])) cs (commitment_to new m ∷ [])
        (rows_then s.outs (s.outs ++ with_kept m new ∷ []) (λ c g. (g.0, in_append s.outs (with_kept m new ∷ []) g.0 g.1, g.2, g.3)) cs h)
        ((with_kept m new, in_end s.outs (with_kept m new), refl, refl), tt)
    at (Some row) e = subst (λ rows. HaveRows rows (cs ++ commitment_to row m ∷ [])) (sym (is_first_changed (with_kept m) (has_ordinal row.sequence.ordinal) s.outs))
        (all_append (HasRow (first_changed (with_kept m) (has_ordinal row.sequence.ordinal) s.outs)) cs (commitment_to row m ∷ [])
        (rows_then s.outs (first_changed (with_kept m) (has_ordinal row.sequence.ordinal) s.outs) (row_joined m (has_ordinal row.sequence.ordinal) s.outs) cs h) (
          row_joined m (has_ordinal row.sequence.ordinal) s.outs (commitment_to row m) (
            row,
            in_use_in s peer m.destination row e,
            refl,
            sym (ap (λ o. (unwrap_or o new).destination) e) ∙ sequence_leads s peer m.destination now,
          ),
          tt,
        ))

same_outs : (a b : List Row) (cs : List Commitment) → b ≡ a → HaveRows a cs → HaveRows b cs
same_outs a b cs e h = subst (λ rows. HaveRows rows cs) (sym e) h

to_rows : (now : ℕ) (s : State) (t : Target) (m : Message) (cs : List Commitment) → HaveRows s.outs cs
    → HaveRows (committed_to now s t m).state.outs (cs ++ cons_option (commitment_at now s t m) [])
to_rows now s (AtPeer k) m cs h = join_rows s k now m cs h
to_rows now s (Here queue) m cs h = same_outs s.outs _ (cs ++ []) (delivered_rows s (Here queue) m now).outs (subst (HaveRows s.outs) (sym (append_nothing cs)) h)
to_rows now s Nowhere m cs h = same_outs s.outs _ (cs ++ []) (delivered_rows s Nowhere m now).outs (subst (HaveRows s.outs) (sym (append_nothing cs)) h)

sends_rows : (now : ℕ) (e : Effect) (ms : List Message) (cs : List Commitment) → HaveRows e.state.outs cs
    → HaveRows (fold (send_made now) e ms).state.outs (cs ++ commitments_of now e ms)
sends_rows now e [] cs h = subst (HaveRows e.state.outs) (sym (append_nothing cs)) h
sends_rows now e (m ∷ ms) cs h = let s = journalled e.state m in let place = commitment_at now s (resolved e.state m.destination) m in
    subst (HaveRows (fold (send_made now) (send_made now e m) ms).state.outs) (cons_behind cs place (commitments_of now (send_made now e m) ms))
    (sends_rows now (send_made now e m) ms (cs ++ cons_option place [])
    (to_rows now s (resolved e.state m.destination) m cs (same_outs e.state.outs s.outs cs (journalled_rows e.state m).outs h)))

-- what holds of a manager's state and its records
abbrev pub AreRowed : State → List Written → Type 0
AreRowed s ws = AreHeld s ws × HaveRows s.outs (commitments ws)

record_rows : (s : State) (r : Record) (ws : List Written) → IsMade s r → AreRowed s ws → HaveRows (apply s r).outs (commitments ws ++ commitments_in s r)
record_rows s r ws made h = at r made
  where
    quiet : (x : Record) → IsMade s x → CommitsNothing x → commitments_in s x ≡ [] → HaveRows (apply s x).outs (commitments ws ++ commitments_in s x)
    quiet x made nothing none = subst (λ more. HaveRows (apply s x).outs (commitments ws ++ more)) (sym none)
        (subst (HaveRows (apply s x).outs) (sym (append_nothing (commitments ws)))
        (rows_then s.outs (apply s x).outs (row_after s.outs (apply s x).outs (applied_no_more s x nothing (made_offers s x h.0.0.rise made)).outs) (commitments ws) h.1))

    at : (x : Record) → IsMade s x → HaveRows (apply s x).outs (commitments ws ++ commitments_in s x)
    at (entry.Peer peer) made = absurd made
    at (entry.Commit now ops) made = sends_rows now (takes_made s now ops) (sends_of ops) (commitments ws)
        (same_outs s.outs (takes_made s now ops).state.outs (commitments ws) (takes_made_rows s now ops).outs h.1)
    at x made = quiet x made tt refl

pub rowed_by_records : IsByRecords AreRowed
rowed_by_records = record {
  starts = λ own peers. (held_by_records.starts own peers, tt);
  quiet = λ a b ws same h. (held_by_records.quiet a b ws same h.0, same_outs a.outs b.outs (commitments ws) same.outs h.1);
  grows = λ i s r ws made h. (
    held_by_records.grows i s r ws made h.0,
    subst (HaveRows (apply s r).outs) (sym (commitments_more ws (record { by = i; before = s; entry = r }))) (record_rows s r ws made h),
  );
}
