-- The numbers of each sequence are no more than those of messages, of which there is a greatest one.
use Rattle.std.proofs.Common.{refl, ap, sym, subst, ◌∙◌, arith}
use Rattle.std.specs.List.{AllByRecursion, cons_option}
use Rattle.std.specs.Option.{option_map_or}
use Rattle.std.specs.Prelude.{[], ◌+◌, ◌++◌, ◌<◌, ◌∷◌, ◌≡◌, ◌≤◌, Bool, List, None, Option, Some, cond, false, fold, length, map, true, unwrap_or, ℕ}
use Rattle.mqb_base.specs.declared.ids.Identity.{Identity}
use Rattle.mqb_base.specs.declared.message.Message.{Message}
use Rattle.mqb_exactly_once.specs.Words.{In}
use Rattle.mqb_exactly_once.specs.World.{Commitment}
use Rattle.mqb_model.specs.declared.limits.TheConstants.{MAX_NUMBER}
use Rattle.mqb_model.specs.declared.target.Target.{Target}
use Rattle.mqb_model.specs.declared.target.Target.TheVariants.{AtPeer, Here, Nowhere}
use Rattle.mqb_model.specs.records.Applying.{apply}
use Rattle.mqb_model.specs.records.Commit.{send_made, sends_numbered, sends_of, takes_made}
use Rattle.mqb_model.specs.records.Record.{Record, RecordOp}
use Rattle.mqb_model.specs.records.Record as entry
use Rattle.mqb_model.specs.rules.Effects.{Effect}
use Rattle.mqb_model.specs.rules.Sends.{committed_to, journalled}
use Rattle.mqb_model.specs.rules.Sequences.{join, new_sequence, sequence_for, sequence_in_use, with_kept, with_sequence}
use Rattle.mqb_model.specs.state.Resolving.{resolved}
use Rattle.mqb_model.specs.state.Rows.{has_ordinal, with_row}
use Rattle.mqb_model.specs.state.State.{State, empty}
use Rattle.mqb_network.specs.Courses.{Written}
use Rattle.mqb_orders.specs.Rows.{Row}
use Rattle.mqb_history.specs.Committed.{commitment_at, commitment_to, commitments, commitments_in, commitments_of}
use Rattle.mqb_history.specs.Made.{IsMade}
use Rattle.mqb_history.proofs.Applying.{ops_taken_rows, takes_made_rows}
use Rattle.mqb_history.proofs.Committing.{all_in, first_changed, is_first_changed}
use Rattle.mqb_history.proofs.Lists.{all_append, all_weaker, append_nothing}
use Rattle.mqb_history.proofs.Numbering.{AreCounted, commitments_more, cons_behind, counted_by_records, in_use_in, joined_outs, made_offers, rows_no_more, sends_numbers}
use Rattle.mqb_history.proofs.Outside.{CommitsNothing, applied_no_more}
use Rattle.mqb_history.proofs.Staying.{delivered_rows, journalled_rows}
use Rattle.mqb_history.proofs.Written.{IsByRecords}

-- a row has committed less than a number
abbrev pub IsBelow : ℕ → Row → Type 0
IsBelow low row = row.committed < low

abbrev pub IsSmall : Commitment → Type 0
IsSmall c = c.position.number ≤ MAX_NUMBER

-- rows are below the next number, and the numbers of commitments are small
pub record AreSmall (low : ℕ) (outs : List Row) (cs : List Commitment) : Type 0 where
  pub first : 1 ≤ low
  pub rows : AllByRecursion (IsBelow low) outs
  pub numbers : AllByRecursion IsSmall cs

changed_into : (P Q : Row → Type 0) (change : Row → Row) (test : Row → Bool) (rows : List Row) → ((r : Row) → P r → Q r) → ((r : Row) → P r → Q (change r)) → AllByRecursion P rows
    → AllByRecursion Q (first_changed change test rows)
changed_into P Q change test [] stays becomes h = tt
changed_into P Q change test (row ∷ rows) stays becomes h = at (test row) (changed_into P Q change test rows stays becomes h.1)
  where
    at : (b : Bool) → AllByRecursion Q (first_changed change test rows) → AllByRecursion Q (cond b (change row ∷ rows) (row ∷ first_changed change test rows))
    at true rest = (becomes row h.0, all_weaker P Q stays rows h.1)
    at false rest = (stays row h.0, rest)

joins_small : (s : State) (peer now low : ℕ) (m : Message) (cs : List Commitment) → low ≤ MAX_NUMBER → AreSmall low s.outs cs
    → AreSmall (low + 1) (join s peer now m).outs (cs ++ commitment_to (sequence_for s peer m.destination now) m ∷ [])
joins_small s peer now low m cs most h = at (sequence_in_use s peer m.destination) refl
  where
    new : Row
    new = new_sequence s peer m.destination now

    at : (o : Option Row) → sequence_in_use s peer m.destination ≡ o
        → AreSmall (low + 1) (option_map_or (λ row. with_row (with_kept m) s row.sequence.ordinal) o (with_sequence s (with_kept m new))).outs (cs ++ commitment_to (unwrap_or o new) m ∷ [])
    at None e = record {
      first = omega arith;
      rows = all_append (IsBelow (low + 1)) s.outs (with_kept m new ∷ []) (all_weaker (IsBelow low) (IsBelow (low + 1)) (λ r less. omega (arith, less)) s.outs h.rows)
          (let some = h.first in omega (arith, some), tt);
      numbers = all_append IsSmall cs (commitment_to new m ∷ []) h.numbers (let some = h.first in omega (arith, some, most), tt);
    }
    at (Some row) e = record {
      first = omega arith;
      rows = subst (AllByRecursion (IsBelow (low + 1))) (sym (is_first_changed (with_kept m) (has_ordinal row.sequence.ordinal) s.outs))
          (changed_into (IsBelow low) (IsBelow (low + 1)) (with_kept m) (has_ordinal row.sequence.ordinal) s.outs (λ r less. omega (arith, less)) (λ r less. omega (arith, less)) h.rows);
      numbers = all_append IsSmall cs (commitment_to row m ∷ []) h.numbers
          (let less = all_in (IsBelow low) s.outs row h.rows (in_use_in s peer m.destination row e) in omega (arith, less, most), tt);
    }

small_more : (low high : ℕ) (a b : List Row) (cs : List Commitment) → low ≤ high → b ≡ a → AreSmall low a cs → AreSmall high b cs
small_more low high a b cs le same h = record {
  first = let some = h.first in omega (arith, some, le);
  rows = subst (AllByRecursion (IsBelow high)) (sym same) (all_weaker (IsBelow low) (IsBelow high) (λ r less. omega (arith, less, le)) a h.rows);
  numbers = h.numbers;
}

to_small : (now low : ℕ) (s : State) (t : Target) (m : Message) (cs : List Commitment) → low ≤ MAX_NUMBER → AreSmall low s.outs cs
    → AreSmall (low + 1) (committed_to now s t m).state.outs (cs ++ cons_option (commitment_at now s t m) [])
to_small now low s (AtPeer k) m cs most h = joins_small s k now low m cs most h
to_small now low s (Here queue) m cs most h = subst (AreSmall (low + 1) (committed_to now s (Here queue) m).state.outs) (sym (append_nothing cs))
    (small_more low (low + 1) s.outs (committed_to now s (Here queue) m).state.outs cs (omega arith) (delivered_rows s (Here queue) m now).outs h)
to_small now low s Nowhere m cs most h = subst (AreSmall (low + 1) (committed_to now s Nowhere m).state.outs) (sym (append_nothing cs))
    (small_more low (low + 1) s.outs (committed_to now s Nowhere m).state.outs cs (omega arith) (delivered_rows s Nowhere m now).outs h)

sends_small : (now low : ℕ) (e : Effect) (ms : List Message) (cs : List Commitment) → low + length ms ≤ MAX_NUMBER + 1 → AreSmall low e.state.outs cs
    → AreSmall (low + length ms) (fold (send_made now) e ms).state.outs (cs ++ commitments_of now e ms)
sends_small now low e [] cs left h = subst (AreSmall (low + 0) e.state.outs) (sym (append_nothing cs)) (small_more low (low + 0) e.state.outs e.state.outs cs (omega arith) refl h)
sends_small now low e (m ∷ ms) cs left h = subst (λ k. AreSmall k (fold (send_made now) (send_made now e m) ms).state.outs (cs ++ commitments_of now e (m ∷ ms)))
    (let f : low + 1 + length ms ≡ low + length (m ∷ ms) = omega arith in f)
    (subst (AreSmall (low + 1 + length ms) (fold (send_made now) (send_made now e m) ms).state.outs) (cons_behind cs place (commitments_of now (send_made now e m) ms))
    (sends_small now (low + 1) (send_made now e m) ms (cs ++ cons_option place []) (omega (arith, left)) sent))
  where
    place : Option Commitment
    place = commitment_at now (journalled e.state m) (resolved e.state m.destination) m

    sent : AreSmall (low + 1) (send_made now e m).state.outs (cs ++ cons_option place [])
    sent = to_small now low (journalled e.state m) (resolved e.state m.destination) m cs (omega (arith, left))
        (small_more low low e.state.outs (journalled e.state m).outs cs (omega arith) (journalled_rows e.state m).outs h)

-- Records.

-- what holds of a manager's state and its records
abbrev pub AreBounded : State → List Written → Type 0
AreBounded s ws = AreCounted s ws × AreSmall s.next_number s.outs (commitments ws)

commit_small : (s : State) (now : ℕ) (ops : List RecordOp) (ws : List Written) → IsMade s (entry.Commit now ops) → AreSmall s.next_number s.outs (commitments ws)
    → AreSmall (apply s (entry.Commit now ops)).next_number (apply s (entry.Commit now ops)).outs (commitments ws ++ commitments_in s (entry.Commit now ops))
commit_small s now ops ws made h = small_more (s.next_number + length (sends_of ops)) (apply s (entry.Commit now ops)).next_number (apply s (entry.Commit now ops)).outs (apply s (entry.Commit now ops)).outs
    (commitments ws ++ commitments_in s (entry.Commit now ops)) enough refl
    (sends_small now s.next_number taken (sends_of ops) (commitments ws) made.left
    (small_more s.next_number s.next_number s.outs taken.state.outs (commitments ws) (omega arith) (takes_made_rows s now ops).outs h))
  where
    taken : Effect
    taken = takes_made s now ops

    enough : s.next_number + length (sends_of ops) ≤ (apply s (entry.Commit now ops)).next_number
    enough = let a = (ops_taken_rows now (sends_numbered s ops) ops).numbers in let b = sends_numbers now taken (sends_of ops) in omega (arith, a, b)

record_small : (s : State) (r : Record) (ws : List Written) → IsMade s r → AreBounded s ws → AreSmall (apply s r).next_number (apply s r).outs (commitments ws ++ commitments_in s r)
record_small s r ws made h = at r made
  where
    quiet : (x : Record) → IsMade s x → CommitsNothing x → commitments_in s x ≡ [] → AreSmall (apply s x).next_number (apply s x).outs (commitments ws ++ commitments_in s x)
    quiet x made nothing none = let less = applied_no_more s x nothing (made_offers s x h.0.rise made) in
        subst (AreSmall (apply s x).next_number (apply s x).outs) (sym (ap (λ more. commitments ws ++ more) none ∙ append_nothing (commitments ws))) (record {
          first = let some = h.1.first in let le = less.numbers in omega (arith, some, le);
          rows = rows_no_more (IsBelow (apply s x).next_number) (λ a b same low. let e = same.committed in omega (arith, low, e)) s.outs (apply s x).outs less.outs
              (all_weaker (IsBelow s.next_number) (IsBelow (apply s x).next_number) (λ row low. let le = less.numbers in omega (arith, low, le)) s.outs h.1.rows);
          numbers = h.1.numbers;
        })

    at : (x : Record) → IsMade s x → AreSmall (apply s x).next_number (apply s x).outs (commitments ws ++ commitments_in s x)
    at (entry.Peer peer) made = absurd made
    at (entry.Commit now ops) made = commit_small s now ops ws made h.1
    at x made = quiet x made tt refl

joined_number : (s : State) (peers : List Identity) → (fold apply s (map (λ peer. entry.Peer peer) peers)).next_number ≡ s.next_number
joined_number s [] = refl
joined_number s (p ∷ ps) = joined_number (apply s (entry.Peer p)) ps

pub bounded_by_records : IsByRecords AreBounded
bounded_by_records = record {
  starts = λ own peers. (
    counted_by_records.starts own peers,
    record {
      first = let e = joined_number (empty own) peers in omega (arith, e);
      rows = subst (AllByRecursion (IsBelow _)) (sym (joined_outs (empty own) peers)) tt;
      numbers = tt;
    },
  );
  quiet = λ a b ws same h. (counted_by_records.quiet a b ws same h.0, small_more a.next_number b.next_number a.outs b.outs (commitments ws) same.numbers same.outs h.1);
  grows = λ i s r ws made h. (
    counted_by_records.grows i s r ws made h.0,
    subst (AreSmall (apply s r).next_number (apply s r).outs) (sym (commitments_more ws (record { by = i; before = s; entry = r }))) (record_small s r ws made h),
  );
}

-- the number of a commitment is small
pub small_number : (s : State) (ws : List Written) (c : Commitment) → AreBounded s ws → In c (commitments ws) → c.position.number ≤ MAX_NUMBER
small_number s ws c h inside = all_in IsSmall (commitments ws) c h.1.numbers inside
