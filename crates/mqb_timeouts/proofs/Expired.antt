-- How messages of outgoing rows expire.
use Rattle.std.proofs.Common.{◌≡◌, ◌≢◌, ℕ, zero, suc, ◌+◌, ◌<◌, ◌≤◌, Bool, false, List, length, set, take, Option, Some, None, refl, sym, ap, ◌∙◌, subst, arith}
use Rattle.std.specs.List.{All, position}
use Rattle.std.specs.Option.{IfSome, option_map_or}
use Rattle.std.specs.Prelude.{option_and_then, option_map, remove, slice_get, slice_set}
use Rattle.std.proofs.lemmas.Option.{none-some, same_Some, slice_get_within}
use Rattle.mqb_base.specs.declared.class.TheConstants.Class.{REACH_TIMEOUT}
use Rattle.mqb_base.specs.declared.ledger.Line.{Line}
use Rattle.mqb_base.specs.declared.ledger.Line.TheVariants as line
use Rattle.mqb_base.specs.declared.message.Lane.{Lane}
use Rattle.mqb_base.specs.declared.message.Message.{Message}
use Rattle.mqb_orders.specs.Rows.{Row}
use Rattle.mqb_orders.specs.declared.kept.Kept.{Kept}
use Rattle.mqb_contents.specs.Rows.{with_out}
use Rattle.mqb_contents.proofs.mqb_tables.Members.{changed_is, changed_there, get-set_other}
use Rattle.mqb_model.specs.Lists.{with_changed}
use Rattle.mqb_model.specs.Loops.{for_each_below, repeated}
use Rattle.mqb_model.specs.rules.Effects.{Effect, joined, with_line}
use Rattle.mqb_model.specs.rules.Notices.{meets}
use Rattle.mqb_model.specs.rules.Timeouts.{expires, expiring, expiring_in, lane_due, lapsing_in, message_expired, next_expired, row_expired, rows_expired, sweeping_in, with_expired, without_expired}
use Rattle.mqb_model.specs.state.Rows.{stream_of}
use Rattle.mqb_model.specs.state.State.{State}
use Rattle.mqb_timeouts.specs.Waiting.{NoneExpires, expired_at, expired_count, expired_line, expiring_index, kept_at, kept_expired, left_row, lapsed_count, queued, swept_count, waiting}
use Rattle.mqb_timeouts.proofs.Appended.{appended_count, appended_refl, none_before, none_passes_then, same_sums}
use Rattle.mqb_timeouts.proofs.Due.{meets_undue}
use Rattle.mqb_timeouts.proofs.Lapsed.{lapsed_count_is}
use Rattle.mqb_timeouts.proofs.Swept.{swept_count_is}

left_same : (now : ℕ) (s : State) (k index : ℕ) (row : Row) → slice_get s.outs k ≡ Some row → position (expires now row) row.kept ≡ Some index
    → with_expired now s k ≡ with_out (left_row index) s k
left_same now s k index row is found = ap (λ (rows : List Row). record s { outs = rows })
    (changed_is (without_expired now) s.outs k row is
    ∙ (ap (λ (o : Option ℕ). set s.outs k (record row { kept = option_map_or (remove row.kept) o row.kept })) found
    ∙ sym (changed_is (left_row index) s.outs k row is)))

-- as it is made of what is copied of it
pub expired_copied : (now k index : ℕ) (e : Effect) (entry : Line) (m : Message) → expired_line now e.state k index ≡ Some entry
    → option_map (λ kept. kept.message) (kept_at e.state k index) ≡ Some m
    → joined e (with_line entry (meets (with_out (left_row index) e.state k) m REACH_TIMEOUT now)) ≡ expired_at now k index e
expired_copied now k index e entry m is_line is_m = by (slice_get e.state.outs k) is_line is_m
  where
    then : Line → Message → Effect
    then l x = joined e (with_line l (meets (with_out (left_row index) e.state k) x REACH_TIMEOUT now))

    one : (row : Row) (o : Option Kept) → option_map (λ kept. line.Expired (stream_of e.state row) kept.number kept.message.id now) o ≡ Some entry
        → option_map (λ kept. kept.message) o ≡ Some m → then entry m ≡ option_map_or (kept_expired now k index e row) o e
    one row None a b = absurd (none-some entry a)
    one row (Some kept) a b = ap (λ (l : Line). then l m) (sym (same_Some (line.Expired (stream_of e.state row) kept.number kept.message.id now) entry a))
        ∙ ap (λ (x : Message). then (line.Expired (stream_of e.state row) kept.number kept.message.id now) x) (sym (same_Some kept.message m b))

    by : (o : Option Row) → option_and_then (λ row. option_map (λ kept. line.Expired (stream_of e.state row) kept.number kept.message.id now) (slice_get row.kept index)) o ≡ Some entry
        → option_map (λ kept. kept.message) (option_and_then (λ row. slice_get row.kept index) o) ≡ Some m
        → then entry m ≡ option_map_or (λ row. option_map_or (kept_expired now k index e row) (slice_get row.kept index) e) o e
    by None a b = absurd (none-some entry a)
    by (Some row) a b = one row (slice_get row.kept index) a b

pub next_expired_is : (now k : ℕ) (e : Effect)
    → next_expired now k e ≡ option_map_or (λ index. expired_at now k index e) (expiring_index now e.state k) e
next_expired_is now k e = by (slice_get e.state.outs k) refl
  where
    message : (row : Row) → slice_get e.state.outs k ≡ Some row → (o : Option ℕ) → position (expires now row) row.kept ≡ o
        → option_map_or (λ kept. joined e (message_expired now k e.state row kept)) (option_and_then (slice_get row.kept) o) e
        ≡ option_map_or (λ index. option_map_or (kept_expired now k index e row) (slice_get row.kept index) e) o e
    message row is None found = refl
    message row is (Some index) found = ap (λ (left : State). option_map_or (λ kept. joined e (with_line (line.Expired (stream_of e.state row) kept.number kept.message.id now)
        (meets left kept.message REACH_TIMEOUT now))) (slice_get row.kept index) e) (left_same now e.state k index row is found)

    by : (o : Option Row) → slice_get e.state.outs k ≡ o
        → option_map_or (λ row. option_map_or (λ kept. joined e (message_expired now k e.state row kept)) (expiring now row) e) o e
        ≡ option_map_or (λ index. option_map_or (λ row. option_map_or (kept_expired now k index e row) (slice_get row.kept index) e) o e)
        (option_and_then (λ row. position (expires now row) row.kept) o) e
    by None is = refl
    by (Some row) is = message row is (position (expires now row) row.kept) refl

-- once it expired, none before it is due
pub none_expires_before : (now k index : ℕ) (e : Effect) → expiring_index now e.state k ≡ Some index → NoneExpires now (expired_at now k index e).state k index
none_expires_before now k index e found = by (slice_get e.state.outs k) refl found
  where
    gone : (row : Row) → slice_get e.state.outs k ≡ Some row → position (expires now row) row.kept ≡ Some index
        → (o : Option Kept) → slice_get row.kept index ≡ o → NoneExpires now (option_map_or (kept_expired now k index e row) o e).state k index
    gone row is found None there = subst (λ (o : Option Row). IfSome o (λ r. All (λ x. expires now r x ≡ false) (take index r.kept))) (sym is)
        (none_before (expires now row) row.kept index found)
    gone row is found (Some kept) there =
        let left = with_out (left_row index) e.state k in
        let outs : (meets left kept.message REACH_TIMEOUT now).outs ≡ left.outs = (meets_undue now left kept.message REACH_TIMEOUT now).outs in
        subst (λ (rows : List Row). IfSome (slice_get rows k) (λ r. All (λ x. expires now r x ≡ false) (take index r.kept))) (sym outs)
        (subst (λ (o : Option Row). IfSome o (λ r. All (λ x. expires now r x ≡ false) (take index r.kept))) (sym (changed_there (left_row index) e.state.outs k row is))
        (none_passes_then (expires now row) row.kept (remove row.kept index) index found (slice_get_within row.kept index kept there)
        (appended_refl (expires now row) (remove row.kept index))))

    by : (o : Option Row) → slice_get e.state.outs k ≡ o → option_and_then (λ row. position (expires now row) row.kept) o ≡ Some index
        → NoneExpires now (option_map_or (λ row. option_map_or (kept_expired now k index e row) (slice_get row.kept index) e) o e).state k index
    by None is found = absurd (none-some index found)
    by (Some row) is found = gone row is found (slice_get row.kept index) refl

-- The other rows stay, and so does what is due elsewhere.

other_row : (now : ℕ) (s : State) (k j : ℕ) (change : Row → Row) → j ≢ k → expired_count now (with_out change s k) j ≡ expired_count now s j
other_row now s k j change other = by (slice_get s.outs k)
  where
    by : (o : Option Row) → option_map_or (expiring_in now) (slice_get (option_map_or (λ r. slice_set s.outs k (change r)) o s.outs) j) 0 ≡ expired_count now s j
    by None = refl
    by (Some row) = ap (λ (o : Option Row). option_map_or (expiring_in now) o 0) (get-set_other s.outs k j (change row) other)

-- two states of which as much is due: messages of the row at j, plain messages, and messages of queues
record IsAsDue (now j : ℕ) (s t : State) : Type 0 where
  row : expired_count now t j ≡ expired_count now s j
  plain : (kind : Lane) (i : ℕ) → lapsed_count kind now t i ≡ lapsed_count kind now s i
  queues : (kind : Lane) (i : ℕ) → swept_count kind now t i ≡ swept_count kind now s i

as_due_refl : (now j : ℕ) (s : State) → IsAsDue now j s s
as_due_refl now j s = record { row = refl; plain = λ kind i. refl; queues = λ kind i. refl }

as_due_trans : (now j : ℕ) (s t u : State) → IsAsDue now j s t → IsAsDue now j t u → IsAsDue now j s u
as_due_trans now j s t u a b = record {
  row = b.row ∙ a.row;
  plain = λ kind i. b.plain kind i ∙ a.plain kind i;
  queues = λ kind i. b.queues kind i ∙ a.queues kind i;
}

expired_others : (now k index j : ℕ) (e : Effect) → j ≢ k → IsAsDue now j e.state (expired_at now k index e).state
expired_others now k index j e other = by (slice_get e.state.outs k)
  where
    kept : (row : Row) (o : Option Kept) → IsAsDue now j e.state (option_map_or (kept_expired now k index e row) o e).state
    kept row None = as_due_refl now j e.state
    kept row (Some x) =
        let left = with_out (left_row index) e.state k in
        let then = meets left x.message REACH_TIMEOUT now in
        let undue = meets_undue now left x.message REACH_TIMEOUT now in
        record {
          row = ap (λ (rows : List Row). option_map_or (expiring_in now) (slice_get rows j) 0) undue.outs ∙ other_row now e.state k j (left_row index) other;
          plain = λ kind i. lapsed_count_is kind now then i
              ∙ (appended_count _ (waiting kind left i) (waiting kind then i) (undue.plain kind i) ∙ sym (lapsed_count_is kind now e.state i));
          queues = λ kind i. swept_count_is kind now then i
              ∙ (appended_count _ (queued kind left i) (queued kind then i) (undue.queues kind i) ∙ sym (swept_count_is kind now e.state i));
        }

    by : (o : Option Row) → IsAsDue now j e.state (option_map_or (λ row. option_map_or (kept_expired now k index e row) (slice_get row.kept index) e) o e).state
    by None = as_due_refl now j e.state
    by (Some row) = kept row (slice_get row.kept index)

next_others : (now k j : ℕ) (e : Effect) → j ≢ k → IsAsDue now j e.state (next_expired now k e).state
next_others now k j e other = subst (λ (x : Effect). IsAsDue now j e.state x.state) (sym (next_expired_is now k e)) (by (expiring_index now e.state k))
  where
    by : (o : Option ℕ) → IsAsDue now j e.state (option_map_or (λ index. expired_at now k index e) o e).state
    by None = as_due_refl now j e.state
    by (Some index) = expired_others now k index j e other

row_others : (now k j n : ℕ) (e : Effect) → j ≢ k → IsAsDue now j e.state (repeated n (next_expired now k) e).state
row_others now k j zero e other = as_due_refl now j e.state
row_others now k j (suc n) e other = let before = repeated n (next_expired now k) e in
    as_due_trans now j e.state before.state (next_expired now k before).state (row_others now k j n e other) (next_others now k j before other)

later_due : (now j n : ℕ) (e : Effect) → n ≤ j → IsAsDue now j e.state (for_each_below n (row_expired now) e).state
later_due now j zero e h = as_due_refl now j e.state
later_due now j (suc n) e h =
    let before = for_each_below n (row_expired now) e in
    let other : j ≢ n = omega (arith, h) in
    as_due_trans now j e.state before.state (row_expired now n before).state (later_due now j n e (omega (arith, h)))
    (row_others now n j (option_map_or (expiring_in now) (slice_get before.state.outs n) 0) before other)

pub later_expired : (now j n : ℕ) (e : Effect) → n ≤ j → expired_count now (for_each_below n (row_expired now) e).state j ≡ expired_count now e.state j
later_expired now j n e h = (later_due now j n e h).row

-- as many other messages are due as before
pub others_due : (kind : Lane) (now : ℕ) (e : Effect) → lane_due kind (rows_expired now e).state now ≡ lane_due kind e.state now
others_due kind now e =
    let n = length e.state.outs in
    let then = for_each_below n (row_expired now) e in
    let same = later_due now n n e (omega arith) in
    let plain = same_sums (lapsing_in kind now) e.state.plain then.state.plain (same.plain kind) in
    let queues = same_sums (sweeping_in kind now) e.state.places.queues then.state.places.queues (same.queues kind) in
    omega (arith, plain, queues)
