-- The record of a tick at a source: a stream world goes on by each message that expires in the channel.
use Rattle.std.proofs.Common.{refl, ap, sym, subst, ◌∙◌, arith, inl}
use Rattle.std.proofs.lemmas.Bool.Decides.{nat_tests}
use Rattle.std.proofs.lemmas.List.{append_assoc}
use Rattle.std.specs.List.{AllByRecursion, cons_option}
use Rattle.std.specs.Option.{option_map_or}
use Rattle.std.specs.Prelude.{[], ◌&&◌, ◌++◌, ◌<◌, ◌==◌, ◌||◌, ◌∷◌, ◌≡◌, Bool, List, None, Option, Some, cond, false, length, nat_lt, reverse, slice_get, suc, true, zero, ℕ}
use Rattle.mqb_base.specs.Same.{same_name}
use Rattle.mqb_base.specs.Sequences.{same_sequence}
use Rattle.mqb_base.specs.declared.class.TheConstants.Class.{REACH_TIMEOUT}
use Rattle.mqb_base.specs.declared.ids.SequenceId.{SequenceId}
use Rattle.mqb_base.specs.declared.ledger.Line.{Line}
use Rattle.mqb_base.specs.declared.ledger.Line.TheVariants as line
use Rattle.mqb_base.specs.declared.message.Lane.TheVariants as lane
use Rattle.mqb_base.specs.declared.queue_names.QueueName.{QueueName}
use Rattle.mqb_exactly_once.specs.Steps.{Expire, happens}
use Rattle.mqb_exactly_once.specs.Words.{In, is_expired, same_position}
use Rattle.mqb_exactly_once.specs.World.{Channel, Commitment, Position, StreamWorld}
use Rattle.mqb_model.specs.Loops.{for_each_below, repeated}
use Rattle.mqb_model.specs.Lists.{with_changed}
use Rattle.mqb_model.specs.records.Applying.{apply, effect_of, lines_of}
use Rattle.mqb_model.specs.records.Record as entry
use Rattle.mqb_model.specs.rules.Effects.{Effect, begun, joined}
use Rattle.mqb_model.specs.rules.Timeouts.{cannot_reach, expires, expiring, expiring_in, message_expired, next_expired, row_expired, rows_expired, with_expired, without_expired}
use Rattle.mqb_model.specs.state.Rows.{stream_of}
use Rattle.mqb_model.specs.state.State.{State}
use Rattle.mqb_network.specs.Courses.{Written}
use Rattle.mqb_network.specs.Laws.{lines_written}
use Rattle.mqb_orders.specs.Rows.{Row}
use Rattle.mqb_orders.specs.declared.kept.Kept.{Kept}
use Rattle.mqb_history.specs.Expired.{expiry_told}
use Rattle.mqb_history.specs.Shown.{expiries_to, expiry_to}
use Rattle.mqb_history.proofs.Committing.{OrdinalsRise, all_in, differ_by_ordinal, kept_at}
use Rattle.mqb_history.proofs.Deciding.{first_is_found}
use Rattle.mqb_history.proofs.Expiring.{find_in}
use Rattle.mqb_history.proofs.Holding.{without_is}
use Rattle.mqb_history.proofs.Lines.{ticked_adds, told_same}
use Rattle.mqb_history.proofs.Lists.{append_nothing, get_in, none_some, other_numbers, split_and, true_not_false}
use Rattle.mqb_history.proofs.Names.{same_name_is, same_name_refl}
use Rattle.mqb_history.proofs.Outside.{without_in}
use Rattle.mqb_history.proofs.Pledging.{row_kept}
use Rattle.mqb_history.proofs.Reaching.{chosen_append, more, reverse_last}
use Rattle.mqb_history.proofs.Replacing.{Replaced, index_replaced}
use Rattle.mqb_history.proofs.Sourcing.{IsRowShown, IsSourced, RowSteps, other_row, own_row, position_at}
use Rattle.mqb_history.proofs.Sparing.{AreTidy, AreTidyIn, IsTidy, KeptRise, left_apart, next_tidy, other_unexpired}
use Rattle.mqb_history.proofs.Staying.{meets_rows, ticked_rows}

-- Lines.

-- a line that tells of no expiry tells of none in a channel
pub no_expiry : (d : QueueName) (l : Line) → expiry_told l ≡ None → expiry_to d l ≡ None
no_expiry d (line.Expired stream number id moment) e = absurd (none_some (sym e))
no_expiry d l e = refl

-- An expiry.

-- another position
unexpired_more : (w : StreamWorld) (c : Commitment) (moment : ℕ) (p : Position) → same_position c.position p ≡ false → is_expired w.expired p ≡ false
    → is_expired (happens w (Expire c moment)).expired p ≡ false
unexpired_more w c moment p apart h = ap (λ b. b || is_expired w.expired p) apart ∙ h

other_sequence : (a b : SequenceId) (n m : ℕ) → same_sequence a b ≡ false → same_position (record { sequence = a; number = n }) (record { sequence = b; number = m }) ≡ false
other_sequence a b n m e = ap (λ t. t && n == m) e

other_number : (a b : SequenceId) (n m : ℕ) → (n ≡ m → ⊥) → same_position (record { sequence = a; number = n }) (record { sequence = b; number = m }) ≡ false
other_number a b n m apart = ap (λ t. same_sequence a b && t) (other_numbers n m apart) ∙ at (same_sequence a b)
  where
    at : (b : Bool) → (b && false) ≡ false
    at true = refl
    at false = refl

expire_steps : (w : StreamWorld) (now : ℕ) (row : Row) (gone : Kept) → KeptRise row.kept → expiring now row ≡ Some gone
    → RowSteps w (happens w (Expire (kept_at row gone) now)) row (without_expired now row)
expire_steps w now row gone rises found = record {
  others = λ r apart h. record {
    counted = h.counted;
    offered = h.offered;
    acked = h.acked;
    kept = λ k i. let g = h.kept k i in (
      g.0,
      unexpired_more w (kept_at row gone) now (position_at r k)
          (other_sequence row.sequence r.sequence gone.number k.number (differ_by_ordinal row.sequence r.sequence (λ same. apart (sym same)))) g.1,
    );
  };
  row = λ h. record {
    counted = h.counted;
    offered = h.offered;
    acked = h.acked;
    kept = λ k i. let g = h.kept k (without_in (expires now row) row.kept k i) in (
      g.0,
      unexpired_more w (kept_at row gone) now (position_at row k)
          (other_number row.sequence row.sequence gone.number k.number (left_apart (expires now row) row.kept gone k rises (sym (first_is_found (expires now row) row.kept) ∙ found)
          (subst (In k) (without_is (expires now row) row.kept) i))) g.1,
    );
  };
  committed = λ x i. inl i;
}

-- the line of an expiry in the channel, or in another one
expired_to : (d : QueueName) (ls : List Line) (s : State) (row : Row) (gone : Kept) (now : ℕ) → row.destination ≡ d
    → reverse (expiries_to d (ls ++ line.Expired (stream_of s row) gone.number gone.message.id now ∷ [])) ≡ record { position = position_at row gone; moment = now } ∷ reverse (expiries_to d ls)
expired_to d ls s row gone now e = ap reverse (chosen_append (expiry_to d) ls (line.Expired (stream_of s row) gone.number gone.message.id now ∷ [])
    ∙ ap (λ b. expiries_to d ls ++ cons_option (cond b (Some (record { position = position_at row gone; moment = now })) None) []) (subst (λ n. same_name n d ≡ true) (sym e) (same_name_refl d)))
    ∙ reverse_last (expiries_to d ls) (record { position = position_at row gone; moment = now })

expired_apart : (d : QueueName) (ls : List Line) (s : State) (row : Row) (gone : Kept) (now : ℕ) → same_name row.destination d ≡ false
    → expiries_to d (ls ++ line.Expired (stream_of s row) gone.number gone.message.id now ∷ []) ≡ expiries_to d ls
expired_apart d ls s row gone now e = chosen_append (expiry_to d) ls (line.Expired (stream_of s row) gone.number gone.message.id now ∷ [])
    ∙ ap (λ b. expiries_to d ls ++ cons_option (cond b (Some (record { position = position_at row gone; moment = now })) None) []) e ∙ append_nothing (expiries_to d ls)

module _ (d : QueueName) (peer : ℕ) (c : Channel) (v : StreamWorld) (cs : List Commitment) where
  -- lines that tell the same of expiries
  pub sourced_lines : (outs : List Row) (a b : List Line) → expiries_to d b ≡ expiries_to d a → IsSourced d peer c v outs cs a → IsSourced d peer c v outs cs b
  sourced_lines outs a b same h = record {
    world = h.world;
    reached = h.reached;
    same = h.same;
    rows = h.rows;
    committed = h.committed;
    expired = h.expired ∙ ap reverse (sym same);
  }

  expire_one : (ls : List Line) (s : State) (now k : ℕ) (row : Row) (gone : Kept) → OrdinalsRise s.outs → slice_get s.outs k ≡ Some row → KeptRise row.kept
      → expiring now row ≡ Some gone → IsSourced d peer c v s.outs cs ls
      → IsSourced d peer c v (with_expired now s k).outs cs (ls ++ line.Expired (stream_of s row) gone.number gone.message.id now ∷ [])
  expire_one ls s now k row gone rise there rises found h = at (same_name row.destination d) refl
    where
      news : List Row
      news = with_changed (without_expired now) s.outs k

      r : Replaced s.outs news row (without_expired now row)
      r = index_replaced (without_expired now) s.outs k row rise there

      inside : In row s.outs
      inside = get_in s.outs k row there

      g : In gone row.kept × (expires now row gone ≡ true)
      g = find_in (expires now row) row.kept gone (sym (first_is_found (expires now row) row.kept) ∙ found)

      tests : (nat_lt row.offered gone.number ≡ true) × (cannot_reach now gone.message ≡ true)
      tests = split_and (nat_lt row.offered gone.number) (cannot_reach now gone.message) g.1

      less : nat_lt row.offered gone.number ≡ true → row.offered < gone.number
      less e = grind (arith, nat_tests)

      own : row.destination ≡ d → IsSourced d peer c v news cs (ls ++ line.Expired (stream_of s row) gone.number gone.message.id now ∷ [])
      own e = record {
        world = happens h.world (Expire (kept_at row gone) now);
        reached = more c h.world (Expire (kept_at row gone) now) h.reached
            ((shown.kept gone g.0).0, row_kept h.world row gone shown g.0, (let low = less tests.0 in let f = shown.offered in omega (arith, low, f)), tests.1);
        same = record { channel = h.same.channel; decided = h.same.decided; fates = h.same.fates; transfers = h.same.transfers; order_acks = h.same.order_acks; final_acks = h.same.final_acks; connection = h.same.connection; connected = h.same.connected };
        rows = own_row d peer s.outs news row (without_expired now row) h.world (happens h.world (Expire (kept_at row gone) now)) inside e r refl refl refl
            (expire_steps h.world now row gone rises found) h.rows;
        committed = h.committed;
        expired = ap (λ es. record { position = position_at row gone; moment = now } ∷ es) h.expired ∙ sym (expired_to d ls s row gone now e);
      }
        where
          shown : IsRowShown h.world row
          shown = h.rows.rows row inside e

      apart : same_name row.destination d ≡ false → IsSourced d peer c v news cs (ls ++ line.Expired (stream_of s row) gone.number gone.message.id now ∷ [])
      apart e = record {
        world = h.world;
        reached = h.reached;
        same = h.same;
        rows = other_row d peer s.outs news row (without_expired now row) h.world r refl (λ f. true_not_false (same_name row.destination d) (subst (λ n. same_name n d ≡ true) (sym f) (same_name_refl d)) e) h.rows;
        committed = h.committed;
        expired = h.expired ∙ ap reverse (sym (expired_apart d ls s row gone now e));
      }

      at : (b : Bool) → same_name row.destination d ≡ b → IsSourced d peer c v news cs (ls ++ line.Expired (stream_of s row) gone.number gone.message.id now ∷ [])
      at true e = own (same_name_is row.destination d e)
      at false e = apart e

  -- one more message expires
  next_sourced : (ls : List Line) (now k : ℕ) (e : Effect) → AreTidyIn ls e → IsSourced d peer c v e.state.outs cs (ls ++ e.lines)
      → IsSourced d peer c v (next_expired now k e).state.outs cs (ls ++ (next_expired now k e).lines)
  next_sourced ls now k e t h = at (slice_get e.state.outs k) refl
    where
      gone_out : (row : Row) → slice_get e.state.outs k ≡ Some row → (gone : Kept) → expiring now row ≡ Some gone
          → IsSourced d peer c v (joined e (message_expired now k e.state row gone)).state.outs cs (ls ++ (joined e (message_expired now k e.state row gone)).lines)
      gone_out row there gone found = let l = line.Expired (stream_of e.state row) gone.number gone.message.id now in
          subst (λ xs. IsSourced d peer c v (message_expired now k e.state row gone).state.outs cs xs) (append_assoc ls e.lines (l ∷ []))
          (subst (λ outs. IsSourced d peer c v outs cs ((ls ++ e.lines) ++ l ∷ [])) (sym (meets_rows (with_expired now e.state k) gone.message REACH_TIMEOUT now).outs)
          (expire_one (ls ++ e.lines) e.state now k row gone t.rise there (all_in (IsTidy (ls ++ e.lines)) e.state.outs row t.rows (get_in e.state.outs k row there)).rises found h))

      of_row : (row : Row) → slice_get e.state.outs k ≡ Some row → (o : Option Kept) → expiring now row ≡ o
          → (let f = option_map_or (λ gone. joined e (message_expired now k e.state row gone)) o e in IsSourced d peer c v f.state.outs cs (ls ++ f.lines))
      of_row row there None found = h
      of_row row there (Some gone) found = gone_out row there gone found

      at : (o : Option Row) → slice_get e.state.outs k ≡ o
          → (let f = option_map_or (λ (row : Row). option_map_or (λ gone. joined e (message_expired now k e.state row gone)) (expiring now row) e) o e in IsSourced d peer c v f.state.outs cs (ls ++ f.lines))
      at None f = h
      at (Some row) f = of_row row f (expiring now row) refl

  times_sourced : (ls : List Line) (now k n : ℕ) (e : Effect) → AreTidyIn ls e → IsSourced d peer c v e.state.outs cs (ls ++ e.lines)
      → AreTidyIn ls (repeated n (next_expired now k) e) × IsSourced d peer c v (repeated n (next_expired now k) e).state.outs cs (ls ++ (repeated n (next_expired now k) e).lines)
  times_sourced ls now k zero e t h = (t, h)
  times_sourced ls now k (suc n) e t h = let g = times_sourced ls now k n e t h in
      (next_tidy ls now k (repeated n (next_expired now k) e) g.0, next_sourced ls now k (repeated n (next_expired now k) e) g.0 g.1)

  each_sourced : (ls : List Line) (now n : ℕ) (e : Effect) → AreTidyIn ls e → IsSourced d peer c v e.state.outs cs (ls ++ e.lines)
      → AreTidyIn ls (for_each_below n (row_expired now) e) × IsSourced d peer c v (for_each_below n (row_expired now) e).state.outs cs (ls ++ (for_each_below n (row_expired now) e).lines)
  each_sourced ls now zero e t h = (t, h)
  each_sourced ls now (suc n) e t h = let f = for_each_below n (row_expired now) e in let g = each_sourced ls now n e t h in
      times_sourced ls now n (option_map_or (expiring_in now) (slice_get f.state.outs n) 0) f g.0 g.1

  pub ticked_sourced : (s : State) (ws : List Written) (now : ℕ) → AreTidy s ws → IsSourced d peer c v s.outs cs (lines_written ws)
      → IsSourced d peer c v (apply s (entry.Ticked now)).outs cs (lines_written ws ++ lines_of s (entry.Ticked now))
  ticked_sourced s ws now tidy h = subst (λ outs. IsSourced d peer c v outs cs (ls ++ lines_of s (entry.Ticked now))) (sym (ticked_rows lane.Durable now e).outs)
      (sourced_lines e.state.outs (ls ++ e.lines) (ls ++ lines_of s (entry.Ticked now)) same expired.1)
    where
      ls : List Line
      ls = lines_written ws

      e : Effect
      e = rows_expired now (begun s)

      expired : AreTidyIn ls e × IsSourced d peer c v e.state.outs cs (ls ++ e.lines)
      expired = each_sourced ls now (length s.outs) (begun s)
          (record { rise = tidy.0.0.0.0.rise; rows = subst (λ xs. AllByRecursion (IsTidy xs) s.outs) (sym (append_nothing ls)) tidy.1 })
          (subst (λ xs. IsSourced d peer c v s.outs cs xs) (sym (append_nothing ls)) h)

      same : expiries_to d (ls ++ lines_of s (entry.Ticked now)) ≡ expiries_to d (ls ++ e.lines)
      same = chosen_append (expiry_to d) ls (lines_of s (entry.Ticked now))
          ∙ ap (λ es. expiries_to d ls ++ es) (told_same (expiry_to d) (λ l h. no_expiry d l (other_unexpired l h)) e (effect_of s (entry.Ticked now)) (ticked_adds lane.Durable now e))
          ∙ sym (chosen_append (expiry_to d) ls e.lines)
