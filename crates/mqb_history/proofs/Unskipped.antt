-- By each record a manager's rows keep each number above the acknowledged one but those that expired.
use Rattle.std.proofs.Common.{refl, sym, subst, arith}
use Rattle.std.proofs.lemmas.List.{append_assoc}
use Rattle.std.specs.List.{AllByRecursion}
use Rattle.std.specs.Option.{option_map_or}
use Rattle.std.specs.Prelude.{[], ◌++◌, ◌∷◌, ◌≡◌, List, None, Option, Some, fold, length, option_and_then, slice_get, suc, zero, ℕ}
use Rattle.mqb_base.specs.declared.class.TheConstants.Class.{REACH_TIMEOUT}
use Rattle.mqb_base.specs.declared.heads.TxHead.{TxHead}
use Rattle.mqb_base.specs.declared.ledger.Line.{Line}
use Rattle.mqb_base.specs.declared.ledger.Line.TheVariants as line
use Rattle.mqb_base.specs.declared.message.Lane.TheVariants as lane
use Rattle.mqb_base.specs.declared.message.Message.{Message}
use Rattle.mqb_entries.specs.declared.members.Mark.{Mark}
use Rattle.mqb_model.specs.Lists.{with_first_changed}
use Rattle.mqb_model.specs.Loops.{for_each_below, repeated}
use Rattle.mqb_model.specs.declared.target.Target.{Target}
use Rattle.mqb_model.specs.declared.target.Target.TheVariants.{AtPeer, Here, Nowhere}
use Rattle.mqb_model.specs.records.Applying.{apply, effect_of}
use Rattle.mqb_model.specs.records.Arrived.{part_made}
use Rattle.mqb_model.specs.records.Commit.{send_made, sends_numbered, sends_of, takes_made}
use Rattle.mqb_model.specs.records.Decisions.{message_decided, message_stored, with_decided}
use Rattle.mqb_model.specs.records.Finals.{dead_for, final_stored, finished_at, finished_by, finished_row, index_finished, kept_named, with_finished}
use Rattle.mqb_model.specs.records.Offered.{mark_raised, with_offered}
use Rattle.mqb_model.specs.records.Record.{Part, Record}
use Rattle.mqb_model.specs.records.Record as entry
use Rattle.mqb_model.specs.records.Releases.{releases_made}
use Rattle.mqb_model.specs.rules.Arrivals.{refusal_of, storing_refusal}
use Rattle.mqb_model.specs.rules.Effects.{Effect, begun, joined}
use Rattle.mqb_model.specs.rules.Numbers.{numbers_taken}
use Rattle.mqb_model.specs.rules.Sends.{committed_to, journalled, message_sent}
use Rattle.mqb_model.specs.rules.Sequences.{join, new_sequence, sequence_in_use, with_kept, with_sequence}
use Rattle.mqb_model.specs.rules.Timeouts.{expiring, expiring_in, message_expired, next_expired, row_expired, rows_expired, with_expired, without_expired}
use Rattle.mqb_model.specs.state.Resolving.{peer_known, resolved}
use Rattle.mqb_model.specs.state.Rows.{has_ordinal, stream_of, with_row}
use Rattle.mqb_model.specs.state.State.{State, empty}
use Rattle.mqb_network.specs.Courses.{Written}
use Rattle.mqb_network.specs.Laws.{lines_written}
use Rattle.mqb_orders.specs.Rows.{Row, acknowledged}
use Rattle.mqb_orders.specs.declared.kept.Kept.{Kept}
use Rattle.mqb_history.proofs.Applying.{dead_rows, releases_rows, takes_made_rows}
use Rattle.mqb_history.proofs.Committing.{all_in, is_first_changed}
use Rattle.mqb_history.proofs.Holding.{IsWhole, acknowledged_whole, changed_at, expired_whole, finished_whole, joined_whole, whole_more}
use Rattle.mqb_history.proofs.Lines.{Adds, ops_add, purged_adds, releases_add, taken_adds, ticked_adds}
use Rattle.mqb_history.proofs.Lists.{all_append, all_weaker, append_nothing, get_in}
use Rattle.mqb_history.proofs.Numbering.{AreCounted, changed_all, counted_by_records, joined_outs}
use Rattle.mqb_history.proofs.Staying.{arrived_rows, delivered_rows, journalled_rows, meets_rows, plain_sent_rows, purged_rows, taken_rows, ticked_rows}
use Rattle.mqb_history.proofs.Telling.{lines_more}
use Rattle.mqb_history.proofs.Written.{IsByRecords}

abbrev AreWhole : List Line → List Row → Type 0
AreWhole ls rows = AllByRecursion (IsWhole ls) rows

-- the rows of an effect do, behind lines
abbrev Holds : List Line → Effect → Type 0
Holds ls e = AreWhole (ls ++ e.lines) e.state.outs

same_outs : (ls : List Line) (a b : List Row) → b ≡ a → AreWhole ls a → AreWhole ls b
same_outs ls a b e h = subst (AreWhole ls) (sym e) h

-- lines are added
holds_more : (ls : List Line) (e : Effect) (f : Effect) (more : List Line) → f.lines ≡ e.lines ++ more → AreWhole ((ls ++ e.lines) ++ more) f.state.outs → Holds ls f
holds_more ls e f more same h = subst (λ xs. AreWhole (ls ++ xs) f.state.outs) (sym same) (subst (λ xs. AreWhole xs f.state.outs) (append_assoc ls e.lines more) h)

holds_same : (ls : List Line) (e f : Effect) (more : List Line) → f.lines ≡ e.lines ++ more → f.state.outs ≡ e.state.outs → Holds ls e → Holds ls f
holds_same ls e f more lines outs h = holds_more ls e f more lines (same_outs ((ls ++ e.lines) ++ more) e.state.outs f.state.outs outs
    (all_weaker (IsWhole (ls ++ e.lines)) (IsWhole ((ls ++ e.lines) ++ more)) (whole_more (ls ++ e.lines) more) e.state.outs h))

holds_adds : (ls : List Line) (e f : Effect) → Adds e f → f.state.outs ≡ e.state.outs → Holds ls e → Holds ls f
holds_adds ls e f a outs h = holds_same ls e f a.more a.lines outs h

-- one row of rows is another
first_whole : (ls : List Line) (change : Row → Row) (test : Row → _) (rows : List Row) → ((row : Row) → IsWhole ls row → IsWhole ls (change row)) → AreWhole ls rows
    → AreWhole ls (with_first_changed change test rows)
first_whole ls change test rows keeps h = subst (AreWhole ls) (sym (is_first_changed change test rows)) (changed_all (IsWhole ls) change test rows keeps h)

-- Transactions.

join_whole : (ls : List Line) (s : State) (peer now : ℕ) (m : Message) → AreWhole ls s.outs → AreWhole ls (join s peer now m).outs
join_whole ls s peer now m h = at (sequence_in_use s peer m.destination)
  where
    new : Row
    new = new_sequence s peer m.destination now

    at : (o : Option Row) → AreWhole ls (option_map_or (λ row. with_row (with_kept m) s row.sequence.ordinal) o (with_sequence s (with_kept m new))).outs
    at None = all_append (IsWhole ls) s.outs (with_kept m new ∷ []) h (joined_whole ls m new (λ n low high. absurd (omega (arith, low, high))), tt)
    at (Some row) = first_whole ls (with_kept m) (has_ordinal row.sequence.ordinal) s.outs (joined_whole ls m) h

to_whole : (ls : List Line) (now : ℕ) (s : State) (t : Target) (m : Message) → AreWhole ls s.outs → AreWhole ls (committed_to now s t m).state.outs
to_whole ls now s (AtPeer k) m h = join_whole ls s k now m h
to_whole ls now s (Here queue) m h = same_outs ls s.outs _ (delivered_rows s (Here queue) m now).outs h
to_whole ls now s Nowhere m h = same_outs ls s.outs _ (delivered_rows s Nowhere m now).outs h

sends_hold : (ls : List Line) (now : ℕ) (e : Effect) (ms : List Message) → Holds ls e → Holds ls (fold (send_made now) e ms)
sends_hold ls now e [] h = h
sends_hold ls now e (m ∷ ms) h = let more = (message_sent now e.state m).lines in let all = (ls ++ e.lines) ++ more in
    sends_hold ls now (send_made now e m) ms (holds_more ls e (send_made now e m) more refl
    (to_whole all now (journalled e.state m) (resolved e.state m.destination) m
    (same_outs all e.state.outs (journalled e.state m).outs (journalled_rows e.state m).outs
    (all_weaker (IsWhole (ls ++ e.lines)) (IsWhole all) (whole_more (ls ++ e.lines) more) e.state.outs h))))

-- Marks and parts.

marks_whole : (ls : List Line) (s : State) (marks : List Mark) → AreWhole ls s.outs → AreWhole ls (fold mark_raised s marks).outs
marks_whole ls s [] h = h
marks_whole ls s (mark ∷ marks) h = marks_whole ls (mark_raised s mark) marks (first_whole ls (with_offered mark.number) (has_ordinal mark.ordinal) s.outs (λ row g. g) h)

finished_at_whole : (ls : List Line) (s : State) (m : Message) (index : ℕ) → AreWhole ls s.outs → AreWhole ls (finished_at s m index).outs
finished_at_whole ls s m index h = at (slice_get s.outs index) refl
  where
    done : (k : Kept) → State
    done k = dead_for m.class (with_finished m.correlation s index k) k.message

    of_row : (row : Row) → slice_get s.outs index ≡ Some row → (o : Option Kept) → kept_named m.correlation row ≡ o → AreWhole ls (option_map_or done o s).outs
    of_row row e None f = h
    of_row row e (Some k) f = same_outs ls (with_finished m.correlation s index k).outs (done k).outs (dead_rows m.class (with_finished m.correlation s index k) k.message).outs
        (changed_at (IsWhole ls) (finished_row m.correlation k.number) s.outs index row e
        (finished_whole ls m.correlation row k f (all_in (IsWhole ls) s.outs row h (get_in s.outs index row e))) h)

    at : (o : Option Row) → slice_get s.outs index ≡ o → AreWhole ls (option_map_or done (option_and_then (kept_named m.correlation) o) s).outs
    at None e = h
    at (Some row) e = of_row row e (kept_named m.correlation row) refl

finished_by_whole : (ls : List Line) (s : State) (m : Message) (peer : ℕ) → AreWhole ls s.outs → AreWhole ls (finished_by s peer m).outs
finished_by_whole ls s m peer h = at (index_finished s peer m)
  where
    at : (o : Option ℕ) → AreWhole ls (option_map_or (finished_at s m) o s).outs
    at None = h
    at (Some index) = finished_at_whole ls s m index h

final_whole : (ls : List Line) (s : State) (m : Message) → AreWhole ls s.outs → AreWhole ls (final_stored s m).state.outs
final_whole ls s m h = at (peer_known s m.id.qm)
  where
    at : (o : Option ℕ) → AreWhole ls (option_map_or (λ peer. finished_by s peer m) o s).outs
    at None = h
    at (Some peer) = finished_by_whole ls s m peer h

part_holds : (ls : List Line) (now : ℕ) (e : Effect) (part : Part) → Holds ls e → Holds ls (part_made now e part)
part_holds ls now e entry.Nothing h = h
part_holds ls now e (entry.Decided p) h = at p.tx
  where
    at : (o : Option TxHead) → Holds ls (option_map_or (λ tx. joined e (message_decided now e.state p tx)) o e)
    at None = h
    at (Some tx) = holds_same ls e (joined e (message_decided now e.state p tx)) (message_decided now e.state p tx).lines refl
        (arrived_rows (with_decided e.state p.message tx) p.message now (refusal_of e.state p)).outs h
part_holds ls now e (entry.Stored p) h = holds_same ls e (joined e (message_stored now e.state p)) (message_stored now e.state p).lines refl
    (arrived_rows e.state p.message now (storing_refusal e.state p)).outs h
part_holds ls now e (entry.OrderAcknowledged ordinal number) h = first_whole (ls ++ e.lines) (acknowledged number) (has_ordinal ordinal) e.state.outs
    (acknowledged_whole (ls ++ e.lines) number) h
part_holds ls now e (entry.Final p) h = let more = (final_stored e.state p.message).lines in let all = (ls ++ e.lines) ++ more in
    holds_more ls e (joined e (final_stored e.state p.message)) more refl (final_whole all e.state p.message
    (all_weaker (IsWhole (ls ++ e.lines)) (IsWhole all) (whole_more (ls ++ e.lines) more) e.state.outs h))

-- Messages expire.

next_holds : (ls : List Line) (now k : ℕ) (e : Effect) → Holds ls e → Holds ls (next_expired now k e)
next_holds ls now k e h = at (slice_get e.state.outs k) refl
  where
    kept_out : (row : Row) → slice_get e.state.outs k ≡ Some row → (kept : Kept) → expiring now row ≡ Some kept → Holds ls (joined e (message_expired now k e.state row kept))
    kept_out row there kept found = let l = line.Expired (stream_of e.state row) kept.number kept.message.id now in let all = (ls ++ e.lines) ++ l ∷ [] in
        holds_more ls e (joined e (message_expired now k e.state row kept)) (l ∷ []) refl
        (same_outs all (with_expired now e.state k).outs _ (meets_rows (with_expired now e.state k) kept.message REACH_TIMEOUT now).outs
        (changed_at (IsWhole all) (without_expired now) e.state.outs k row there
        (expired_whole (ls ++ e.lines) e.state now row kept found (all_in (IsWhole (ls ++ e.lines)) e.state.outs row h (get_in e.state.outs k row there)))
        (all_weaker (IsWhole (ls ++ e.lines)) (IsWhole all) (whole_more (ls ++ e.lines) (l ∷ [])) e.state.outs h)))

    of_row : (row : Row) → slice_get e.state.outs k ≡ Some row → (o : Option Kept) → expiring now row ≡ o
        → Holds ls (option_map_or (λ kept. joined e (message_expired now k e.state row kept)) o e)
    of_row row there None f = h
    of_row row there (Some kept) f = kept_out row there kept f

    at : (o : Option Row) → slice_get e.state.outs k ≡ o
        → Holds ls (option_map_or (λ (row : Row). option_map_or (λ kept. joined e (message_expired now k e.state row kept)) (expiring now row) e) o e)
    at None f = h
    at (Some row) f = of_row row f (expiring now row) refl

times_hold : (ls : List Line) (now k n : ℕ) (e : Effect) → Holds ls e → Holds ls (repeated n (next_expired now k) e)
times_hold ls now k zero e h = h
times_hold ls now k (suc n) e h = next_holds ls now k (repeated n (next_expired now k) e) (times_hold ls now k n e h)

expiring_holds : (ls : List Line) (now n : ℕ) (e : Effect) → Holds ls e → Holds ls (for_each_below n (row_expired now) e)
expiring_holds ls now zero e h = h
expiring_holds ls now (suc n) e h = let f = for_each_below n (row_expired now) e in
    times_hold ls now n (option_map_or (expiring_in now) (slice_get f.state.outs n) 0) f (expiring_holds ls now n e h)

-- Records.

record_holds : (ls : List Line) (s : State) (r : Record) → Holds ls (begun s) → Holds ls (effect_of s r)
record_holds ls s (entry.Commit now ops) h = sends_hold ls now (takes_made s now ops) (sends_of ops)
    (holds_adds ls (sends_numbered s ops) (takes_made s now ops) (ops_add now (sends_numbered s ops) ops) (takes_made_rows s now ops).outs h)
record_holds ls s (entry.Plain now p) h = holds_same ls (begun s) (effect_of s (entry.Plain now p)) (effect_of s (entry.Plain now p)).lines refl
    (plain_sent_rows (numbers_taken s 1) p.message now).outs h
record_holds ls s (entry.Offered marks) h = marks_whole (ls ++ []) s marks h
record_holds ls s (entry.Arrived now numbers part) h = part_holds ls now (releases_made s numbers) part
    (holds_adds ls (begun s) (releases_made s numbers) (releases_add (begun s) numbers) (releases_rows (begun s) numbers).outs h)
record_holds ls s (entry.Taken now place id) h = holds_adds ls (begun s) (effect_of s (entry.Taken now place id)) (taken_adds place id now (begun s))
    (taken_rows place id now (begun s)).outs h
record_holds ls s (entry.Purged now place) h = holds_adds ls (begun s) (effect_of s (entry.Purged now place)) (purged_adds lane.Durable place now (begun s))
    (purged_rows lane.Durable place now (begun s)).outs h
record_holds ls s (entry.Ticked now) h = let e = rows_expired now (begun s) in
    holds_adds ls e (effect_of s (entry.Ticked now)) (ticked_adds lane.Durable now e) (ticked_rows lane.Durable now e).outs (expiring_holds ls now (length s.outs) (begun s) h)
record_holds ls s r h = h

-- what holds of a manager's rows and its records: they count the commitments, and none above the acknowledged number is missing that did not expire
abbrev pub AreHeld : State → List Written → Type 0
AreHeld s ws = AreCounted s ws × AllByRecursion (IsWhole (lines_written ws)) s.outs

pub held_by_records : IsByRecords AreHeld
held_by_records = record {
  starts = λ own peers. (counted_by_records.starts own peers, subst (AreWhole []) (sym (joined_outs (empty own) peers)) tt);
  quiet = λ a b ws same h. (counted_by_records.quiet a b ws same h.0, same_outs (lines_written ws) a.outs b.outs same.outs h.1);
  grows = λ i s r ws made h. (
    counted_by_records.grows i s r ws made h.0,
    subst (λ ls. AreWhole ls (apply s r).outs) (sym (lines_more ws (record { by = i; before = s; entry = r })))
        (record_holds (lines_written ws) s r (subst (λ ls. AreWhole ls s.outs) (sym (append_nothing (lines_written ws))) h.1)),
  );
}
