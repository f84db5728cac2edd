-- By each record a manager's rows keep nothing that expired.
use Rattle.std.proofs.Common.{refl, ap, sym, subst, ◌∙◌, arith, inl, inr}
use Rattle.std.specs.List.{AllByRecursion, cons_option, range_with_len}
use Rattle.std.specs.Option.{option_map_or}
use Rattle.std.specs.Prelude.{[], ◌+◌, ◌++◌, ◌<◌, ◌∷◌, ◌≡◌, ◌≤◌, ◌⊎◌, Bool, List, None, Option, Some, cond, false, fold, length, map, true, ℕ}
use Rattle.mqb_base.specs.declared.ids.Identity.{Identity}
use Rattle.mqb_base.specs.declared.ids.MessageId.{MessageId}
use Rattle.mqb_base.specs.declared.ids.SequenceId.{SequenceId}
use Rattle.mqb_base.specs.declared.ledger.Line.{Line}
use Rattle.mqb_base.specs.declared.ledger.Line.TheVariants as line
use Rattle.mqb_base.specs.declared.ledger.Stream.{Stream}
use Rattle.mqb_base.specs.declared.message.Lane.TheVariants as lane
use Rattle.mqb_base.specs.declared.message.Message.{Message}
use Rattle.mqb_exactly_once.specs.Words.{In}
use Rattle.mqb_exactly_once.specs.World.{Commitment, Position}
use Rattle.mqb_model.specs.declared.target.Target.{Target}
use Rattle.mqb_model.specs.declared.target.Target.TheVariants.{AtPeer, Here, Nowhere}
use Rattle.mqb_model.specs.records.Applying.{apply, effect_of, lines_of}
use Rattle.mqb_model.specs.records.Commit.{send_made, sends_of, takes_made}
use Rattle.mqb_model.specs.records.Record.{Part, Record}
use Rattle.mqb_model.specs.records.Record as entry
use Rattle.mqb_model.specs.rules.Effects.{Effect, begun}
use Rattle.mqb_model.specs.rules.Sends.{committed_to, journalled}
use Rattle.mqb_model.specs.rules.Sequences.{join, new_sequence, sequence_in_use, with_kept, with_sequence}
use Rattle.mqb_model.specs.rules.Timeouts.{rows_expired}
use Rattle.mqb_model.specs.state.Resolving.{resolved}
use Rattle.mqb_model.specs.state.Rows.{has_ordinal, with_row}
use Rattle.mqb_model.specs.state.State.{State, empty}
use Rattle.mqb_network.specs.Courses.{Written}
use Rattle.mqb_network.specs.Laws.{lines_written}
use Rattle.mqb_orders.specs.Rows.{Row}
use Rattle.mqb_orders.specs.declared.kept.Kept.{Kept}
use Rattle.mqb_history.specs.Committed.{commitment_at, commitments, numbers_in}
use Rattle.mqb_history.specs.Expired.{WasDue, expiry_told}
use Rattle.mqb_history.specs.Made.{AreNumbered, IsMade}
use Rattle.mqb_history.specs.Told.{Joined}
use Rattle.mqb_history.proofs.Applying.{sent_manager, takes_made_rows}
use Rattle.mqb_history.proofs.Between.{all_in, in_either}
use Rattle.mqb_history.proofs.Committing.{IsCounted, first_changed, in_append, is_first_changed, kept_at, numbers_more}
use Rattle.mqb_history.proofs.Due.{AreDue, IsDue, due_by_records}
use Rattle.mqb_history.proofs.Holding.{HasExpired}
use Rattle.mqb_history.proofs.Leaving.{IsClean, NoneExpires, clean_more, others_expire, rows_clean}
use Rattle.std.proofs.lemmas.List.{append_assoc}
use Rattle.mqb_history.proofs.Lines.{Adds, ticked_adds}
use Rattle.mqb_history.proofs.Lists.{all_append, all_weaker, append_nothing, none_some, some_is}
use Rattle.mqb_history.proofs.Noticed.{told_from}
use Rattle.mqb_history.proofs.Numbering.{AreCounted, CommitsIn, joined_outs, made_offers, none_given, own_numbered, rows_no_more, same_commits, to_commits}
use Rattle.mqb_history.proofs.Outside.{CommitsNothing, HasNoMore, KeptRise, applied_no_more}
use Rattle.mqb_history.proofs.Previous.{in_numbers, in_range}
use Rattle.mqb_history.proofs.Saying.{RecordSays, Says, Sayings, record_says}
use Rattle.mqb_history.proofs.Staying.{HasSameRows, delivered_rows, journalled_rows, ticked_rows}
use Rattle.mqb_history.proofs.Telling.{lines_more}
use Rattle.mqb_history.proofs.Written.{IsByRecords}

-- Lines of records without expiries.

abbrev lasting : Sayings
lasting = record { Sends = λ id. Unit {0}; Decides = λ id. Unit {0}; Stores = λ id. Unit {0}; Expires = λ id. ⊥; Empties = λ id. Unit {0} }

lasting_none : (ls : List Line) → AllByRecursion (Says lasting) ls → NoneExpires ls
lasting_none ls h q n i = let l = told_from expiry_told ls (record { sequence = q; number = n }) i in at l.0 (all_in (Says lasting) ls l.0 h l.1) l.2
  where
    at : (x : Line) → Says lasting x → expiry_told x ≡ Some (record { sequence = q; number = n }) → ⊥
    at (line.Expired stream number id moment) g e = g
    at x g e = none_some e

all_units : (ms : List Message) → AllByRecursion (λ m. Unit {0}) ms
all_units [] = tt
all_units (m ∷ ms) = (tt, all_units ms)

part_lasts : (now : ℕ) (numbers : List ℕ) (part : Part) → RecordSays lasting (entry.Arrived now numbers part)
part_lasts now numbers entry.Nothing = tt
part_lasts now numbers part = tt

none_by : (s : State) (r : Record) → RecordSays lasting r → NoneExpires (lines_of s r)
none_by s r says = lasting_none (lines_of s r) (record_says lasting s r says)

-- Transactions: what expired was committed, under lower numbers.

-- what expired is one of these commitments
abbrev AreOf : List Line → List Commitment → Type 0
AreOf ls cs = (q : SequenceId) (n : ℕ) → HasExpired ls q n → In n (numbers_in q cs)

of_more : (ls : List Line) (cs : List Commitment) (o : Option Commitment) → AreOf ls cs → AreOf ls (cs ++ cons_option o [])
of_more ls cs None h q n e = subst (λ xs. In n (numbers_in q xs)) (sym (append_nothing cs)) (h q n e)
of_more ls cs (Some c) h q n e = subst (In n) (sym (numbers_more q cs c)) (in_append (numbers_in q cs) _ n (h q n e))

abbrev RowsClean : List Line → State → Type 0
RowsClean ls s = AllByRecursion (IsClean ls) s.outs

-- a row with one message more
rise_end : (ks : List Kept) (k : Kept) → KeptRise ks → AllByRecursion (λ (x : Kept). x.number < k.number) ks → KeptRise (ks ++ k ∷ [])
rise_end [] k h low = (tt, tt)
rise_end (x ∷ ks) k h low = (all_append (λ (y : Kept). x.number < y.number) ks (k ∷ []) h.0 (low.0, tt), rise_end ks k h.1 low.1)

all_kept : (P : Kept → Type 0) (ks : List Kept) → ((k : Kept) → In k ks → P k) → AllByRecursion P ks
all_kept P [] h = tt
all_kept P (k ∷ ks) h = (h k (inl refl), all_kept P ks (λ x i. h x (inr i)))

kept_clean : (ls : List Line) (m : Message) (row : Row) → ((k : Kept) → In k row.kept → k.number ≤ row.committed) → (HasExpired ls row.sequence (row.committed + 1) → ⊥) → IsClean ls row → IsClean ls (with_kept m row)
kept_clean ls m row low new h = record {
  rise = rise_end row.kept (record { number = row.committed + 1; message = m }) h.rise
      (all_kept (λ (x : Kept). x.number < row.committed + 1) row.kept (λ k i. let le = low k i in omega (arith, le)));
  left = λ x i e. at x e (in_either row.kept (record { number = row.committed + 1; message = m } ∷ []) x i);
}
  where
    at : (x : Kept) → HasExpired ls row.sequence x.number → In x row.kept ⊎ In x (record { number = row.committed + 1; message = m } ∷ []) → ⊥
    at x e (inl i) = h.left x i e
    at x e (inr (inl f)) = new (subst (λ (y : Kept). HasExpired ls row.sequence y.number) (sym f) e)
    at x e (inr (inr none)) = none

pub counted_low : (cs : List Commitment) (row : Row) → ((q : SequenceId) → numbers_in q cs ≡ range_with_len 1 (length (numbers_in q cs))) → IsCounted cs row → (n : ℕ) → In n (numbers_in row.sequence cs) → n ≤ row.committed
counted_low cs row numbered counted n i = let less = in_range 1 (length (numbers_in row.sequence cs)) n (subst (In n) (numbered row.sequence) i) in let count = counted.count in omega (arith, less, count)

joined_clean : (ls : List Line) (cs : List Commitment) (m : Message) (rows : List Row) (row : Row) → ((q : SequenceId) → numbers_in q cs ≡ range_with_len 1 (length (numbers_in q cs))) → AreOf ls cs
    → AllByRecursion (IsCounted cs) rows → AllByRecursion (IsClean ls) rows → AllByRecursion (IsClean ls) (first_changed (with_kept m) (has_ordinal row.sequence.ordinal) rows)
joined_clean ls cs m [] row numbered of counted h = tt
joined_clean ls cs m (x ∷ xs) row numbered of counted h = at (has_ordinal row.sequence.ordinal x) (joined_clean ls cs m xs row numbered of counted.1 h.1)
  where
    at : (b : Bool) → AllByRecursion (IsClean ls) (first_changed (with_kept m) (has_ordinal row.sequence.ordinal) xs)
        → AllByRecursion (IsClean ls) (cond b (with_kept m x ∷ xs) (x ∷ first_changed (with_kept m) (has_ordinal row.sequence.ordinal) xs))
    at true rest = (
      kept_clean ls m x (λ k i. counted_low cs x numbered counted.0 k.number (in_numbers cs (kept_at x k) (counted.0.kept k i)))
          (λ e. let le = counted_low cs x numbered counted.0 (x.committed + 1) (of x.sequence (x.committed + 1) e) in omega (arith, le)) h.0,
      h.1,
    )
    at false rest = (h.0, rest)

join_clean : (ls : List Line) (cs : List Commitment) (s : State) (low peer now : ℕ) (m : Message) → CommitsIn s low cs → AreOf ls cs → RowsClean ls s → RowsClean ls (join s peer now m)
join_clean ls cs s low peer now m counts of h = at (sequence_in_use s peer m.destination)
  where
    fresh : Row
    fresh = new_sequence s peer m.destination now

    none : (n : ℕ) → HasExpired ls fresh.sequence n → ⊥
    none n e = subst (In n) (none_given cs s.next_ordinal fresh.sequence (omega arith) counts.given) (of fresh.sequence n e)

    at : (o : Option Row) → RowsClean ls (option_map_or (λ row. with_row (with_kept m) s row.sequence.ordinal) o (with_sequence s (with_kept m fresh)))
    at None = all_append (IsClean ls) s.outs (with_kept m fresh ∷ []) h (kept_clean ls m fresh (λ k i. absurd i) (none (fresh.committed + 1)) (record { rise = tt; left = λ x i e. i }), tt)
    at (Some row) = subst (AllByRecursion (IsClean ls)) (sym (is_first_changed (with_kept m) (has_ordinal row.sequence.ordinal) s.outs))
        (joined_clean ls cs m s.outs row counts.numbered of counts.rows h)

same_clean : (ls : List Line) (a b : State) → HasSameRows a b → RowsClean ls a → RowsClean ls b
same_clean ls a b same h = subst (AllByRecursion (IsClean ls)) (sym same.outs) h

to_clean : (ls : List Line) (cs : List Commitment) (now low : ℕ) (s : State) (t : Target) (m : Message) → CommitsIn s low cs → AreOf ls cs → RowsClean ls s → RowsClean ls (committed_to now s t m).state
to_clean ls cs now low s (AtPeer k) m counts of h = join_clean ls cs s low k now m counts of h
to_clean ls cs now low s (Here queue) m counts of h = same_clean ls s (committed_to now s (Here queue) m).state (delivered_rows s (Here queue) m now) h
to_clean ls cs now low s Nowhere m counts of h = same_clean ls s (committed_to now s Nowhere m).state (delivered_rows s Nowhere m now) h

sends_clean : (ls : List Line) (now low : ℕ) (e : Effect) (ms : List Message) (cs : List Commitment) → AreNumbered e.state.identity.guid low ms → CommitsIn e.state low cs → AreOf ls cs
    → RowsClean ls e.state → RowsClean ls (fold (send_made now) e ms).state
sends_clean ls now low e [] cs ids counts of h = h
sends_clean ls now low e (m ∷ ms) cs ids counts of h = sends_clean ls now (low + 1) (send_made now e m) ms (cs ++ cons_option (commitment_at now s (resolved e.state m.destination) m) [])
    (own_numbered e.state.identity.guid (send_made now e m).state.identity.guid (low + 1) ms (ap (λ (i : Identity). i.guid) (sym (sent_manager now e.state m).identity)) ids.1)
    (to_commits now low s (resolved e.state m.destination) m cs
    (ids.0 ∙ ap (λ (i : Identity). record { qm = i.guid; number = low }) (sym (journalled_rows e.state m).manager.identity))
    (same_commits e.state s low cs (journalled_rows e.state m) counts))
    (of_more ls cs (commitment_at now s (resolved e.state m.destination) m) of)
    (to_clean ls cs now low s (resolved e.state m.destination) m (same_commits e.state s low cs (journalled_rows e.state m) counts) of (same_clean ls e.state s (journalled_rows e.state m) h))
  where
    s : State
    s = journalled e.state m

-- By records.

-- what holds of a manager's state and its records
abbrev pub KeepsLeft : State → List Written → Type 0
KeepsLeft s ws = AreDue s ws × RowsClean (lines_written ws) s

abbrev place_at : SequenceId → ℕ → Position
place_at q n = record { sequence = q; number = n }

-- what expired was committed
expired_of : (s : State) (ws : List Written) → AreDue s ws → AreOf (lines_written ws) (commitments ws)
expired_of s ws h q n i = let l = told_from expiry_told (lines_written ws) (record { sequence = q; number = n }) i in
    at l.0 (all_in (IsDue s.identity.guid (commitments ws)) (lines_written ws) l.0 h.1 l.1) l.2
  where
    of : (stream : Stream) (number : ℕ) (id : MessageId) (moment : ℕ) → WasDue s.identity.guid (commitments ws) stream number id moment → place_at stream.sequence number ≡ place_at q n
        → In n (numbers_in q (commitments ws))
    of stream number id moment d e = subst (λ (p : Position). In p.number (numbers_in p.sequence (commitments ws)))
        (ap (λ (j : Joined). record { sequence = j.stream.sequence; number = j.number }) d.joined ∙ e) (in_numbers (commitments ws) d.commitment d.there)

    at : (x : Line) → IsDue s.identity.guid (commitments ws) x → expiry_told x ≡ Some (record { sequence = q; number = n }) → In n (numbers_in q (commitments ws))
    at (line.Expired stream number id moment) g e = of stream number id moment g (some_is _ _ e)
    at x g e = absurd (none_some e)

record_clean : (s : State) (r : Record) (ws : List Written) → IsMade s r → KeepsLeft s ws → RowsClean (lines_written ws ++ lines_of s r) (apply s r)
record_clean s r ws made h = at r made
  where
    ls : List Line
    ls = lines_written ws

    counted : AreCounted s ws
    counted = h.0.0.0.0

    no_more_clean : (a b : Row) → HasNoMore a b → IsClean ls a → IsClean ls b
    no_more_clean a b less g = record { rise = less.rises g.rise; left = λ x i e. g.left x (less.kept x i) (subst (λ q. HasExpired ls q x.number) less.sequence e) }

    behind : (x : Record) → RecordSays lasting x → RowsClean ls (apply s x) → RowsClean (ls ++ lines_of s x) (apply s x)
    behind x says g = all_weaker (IsClean ls) (IsClean (ls ++ lines_of s x)) (λ row d. clean_more ls (lines_of s x) row (none_by s x says) d) (apply s x).outs g

    quiet : (x : Record) → IsMade s x → CommitsNothing x → RecordSays lasting x → RowsClean (ls ++ lines_of s x) (apply s x)
    quiet x made nothing says = behind x says
        (rows_no_more (IsClean ls) no_more_clean s.outs (apply s x).outs (applied_no_more s x nothing (made_offers s x counted.rise made)).outs h.1)

    at : (x : Record) → IsMade s x → RowsClean (ls ++ lines_of s x) (apply s x)
    at (entry.Peer peer) made = absurd made
    at (entry.Commit now ops) made = behind (entry.Commit now ops) (all_units (sends_of ops))
        (sends_clean ls now s.next_number (takes_made s now ops) (sends_of ops) (commitments ws)
        (own_numbered s.identity.guid (takes_made s now ops).state.identity.guid s.next_number (sends_of ops) (ap (λ (i : Identity). i.guid) (sym (takes_made_rows s now ops).manager.identity)) made.numbered)
        (same_commits s (takes_made s now ops).state s.next_number (commitments ws) (takes_made_rows s now ops) counted)
        (expired_of s ws h.0)
        (same_clean ls s (takes_made s now ops).state (takes_made_rows s now ops) h.1))
    at (entry.Arrived now numbers part) made = quiet (entry.Arrived now numbers part) made tt (part_lasts now numbers part)
    at (entry.Taken now place id) made = quiet (entry.Taken now place id) made tt (λ none other. tt)
    at (entry.Purged now place) made = quiet (entry.Purged now place) made tt (λ none other. tt)
    at (entry.Ticked now) made = subst (λ xs. RowsClean (ls ++ xs) (apply s (entry.Ticked now))) (sym adds.lines) (subst (λ xs. RowsClean xs (apply s (entry.Ticked now))) (append_assoc ls e.lines adds.more)
        (all_weaker (IsClean (ls ++ e.lines)) (IsClean ((ls ++ e.lines) ++ adds.more)) (λ row d. clean_more (ls ++ e.lines) adds.more row (others_expire adds.more adds.others) d) (apply s (entry.Ticked now)).outs
        (same_clean (ls ++ e.lines) e.state (apply s (entry.Ticked now)) (ticked_rows lane.Durable now e)
        (rows_clean ls now (length s.outs) (begun s) (record { rise = counted.rise; clean = subst (λ xs. RowsClean xs s) (sym (append_nothing ls)) h.1 })).clean)))
      where
        e : Effect
        e = rows_expired now (begun s)

        adds : Adds e (effect_of s (entry.Ticked now))
        adds = ticked_adds lane.Durable now e
    at x made = quiet x made tt tt

pub left_by_records : IsByRecords KeepsLeft
left_by_records = record {
  starts = λ own peers. (due_by_records.starts own peers, begins (fold apply (empty own) (map (λ peer. entry.Peer peer) peers)) (joined_outs (empty own) peers));
  quiet = λ a b ws same h. (due_by_records.quiet a b ws same h.0, same_clean (lines_written ws) a b same h.1);
  grows = λ i s r ws made h. (
    due_by_records.grows i s r ws made h.0,
    subst (λ xs. RowsClean xs (apply s r)) (sym (lines_more ws (record { by = i; before = s; entry = r }))) (record_clean s r ws made h),
  );
}
  where
    begins : (s : State) → s.outs ≡ [] → RowsClean [] s
    begins s e = subst (AllByRecursion (IsClean [])) (sym e) tt
