-- Each record keeps a manager's rows counting its commitments.
use Rattle.std.proofs.Common.{refl, ap, sym, subst, ◌∙◌, arith, inl, inr}
use Rattle.std.proofs.lemmas.List.{append_assoc}
use Rattle.std.specs.List.{AllByRecursion, cons_option, last_or, range_with_len}
use Rattle.std.specs.Option.{option_map_or}
use Rattle.std.specs.Prelude.{[], ◌&&◌, ◌+◌, ◌++◌, ◌<◌, ◌∷◌, ◌≡◌, ◌≤◌, ◌⊎◌, Bool, List, None, Option, Some, cond, false, filter, fold, length, map, nat_lt, option_and_then, true, unwrap_or, ℕ}
use Rattle.mqb_base.specs.Same.{same_guid, same_id}
use Rattle.mqb_base.specs.Sequences.{same_sequence}
use Rattle.mqb_base.specs.declared.ids.Guid.{Guid}
use Rattle.mqb_base.specs.declared.ids.Identity.{Identity}
use Rattle.mqb_base.specs.declared.ids.SequenceId.{SequenceId}
use Rattle.mqb_base.specs.declared.message.Message.{Message}
use Rattle.mqb_base.specs.declared.queue_names.QueueName.{QueueName}
use Rattle.mqb_exactly_once.specs.Words.{In}
use Rattle.mqb_exactly_once.specs.World.{Commitment}
use Rattle.mqb_exactly_once.proofs.Positions.{same_sequence_is}
use Rattle.mqb_model.specs.declared.target.Target.{Target}
use Rattle.mqb_model.specs.declared.target.Target.TheVariants.{AtPeer, Here, Nowhere}
use Rattle.mqb_model.specs.Lists.{with_first_changed}
use Rattle.mqb_model.specs.records.Applying.{apply}
use Rattle.mqb_model.specs.records.Commit.{send_made, sends_numbered, sends_of, takes_made}
use Rattle.mqb_model.specs.records.Record.{Record, RecordOp}
use Rattle.mqb_model.specs.records.Record as entry
use Rattle.mqb_model.specs.rules.Effects.{Effect}
use Rattle.mqb_model.specs.rules.Sends.{committed_to, journalled}
use Rattle.mqb_model.specs.rules.Sequences.{join, new_sequence, sequence_for, sequence_in_use, with_kept, with_sequence}
use Rattle.mqb_model.specs.state.Resolving.{resolved}
use Rattle.mqb_model.specs.state.Rows.{has_ordinal, last_sequence, with_row}
use Rattle.mqb_model.specs.state.State.{State, empty}
use Rattle.mqb_network.specs.Courses.{Written}
use Rattle.mqb_orders.specs.Rows.{Row, leads_to}
use Rattle.mqb_history.specs.Committed.{IdentifiersDiffer, commitment_at, commitment_to, commitments, commitments_in, commitments_of, numbers_in}
use Rattle.mqb_history.specs.Laws.{AlwaysCommittedInOrder}
use Rattle.mqb_history.specs.Made.{AreNumbered, IsMade}
use Rattle.mqb_history.proofs.Applying.{applied_manager, made_of_no_peer, ops_taken_rows, sent_manager, takes_made_rows}
use Rattle.mqb_history.proofs.Committing.{Commits, IsCounted, IsOwnBelow, OrdinalsRise, all_in, counted_apart, counted_own, differ_by_ordinal, first_changed, is_first_changed, numbers_apart, length_more, numbers_own, range_more, rows_join}
use Rattle.mqb_history.proofs.Lists.{all_append, all_weaker, append_nothing, none_some, other_numbers, some_is}
use Rattle.mqb_history.proofs.Outside.{CommitsNothing, HasNoMore, HaveNoMore, Offers, applied_no_more}
use Rattle.mqb_history.proofs.Marking.{Raise, marks_raise}
use Rattle.mqb_history.proofs.Staying.{HasSameRows, delivered_rows, journalled_rows}
use Rattle.mqb_history.proofs.Written.{IsByRecords, always_by_records}

-- A message joins a row.

-- what a change of a row leaves of all rows
pub changed_all : (P : Row → Type 0) (change : Row → Row) (test : Row → Bool) (rows : List Row) → ((row : Row) → P row → P (change row)) → AllByRecursion P rows
    → AllByRecursion P (first_changed change test rows)
changed_all P change test [] keeps h = tt
changed_all P change test (row ∷ rows) keeps h = at (test row) (changed_all P change test rows keeps h.1)
  where
    at : (b : Bool) → AllByRecursion P (first_changed change test rows) → AllByRecursion P (cond b (change row ∷ rows) (row ∷ first_changed change test rows))
    at true rest = (keeps row h.0, h.1)
    at false rest = (h.0, rest)

pub rise_kept : (m : Message) (test : Row → Bool) (rows : List Row) → OrdinalsRise rows → OrdinalsRise (first_changed (with_kept m) test rows)
rise_kept m test [] h = tt
rise_kept m test (row ∷ rows) h = at (test row) (rise_kept m test rows h.1)
  where
    at : (b : Bool) → OrdinalsRise (first_changed (with_kept m) test rows) → OrdinalsRise (cond b (with_kept m row ∷ rows) (row ∷ first_changed (with_kept m) test rows))
    at true rest = (h.0, h.1)
    at false rest = (changed_all (λ b. row.sequence.ordinal < b.sequence.ordinal) (with_kept m) test rows (λ b less. less) h.0, rest)

pub rise_new : (rows : List Row) (row : Row) → OrdinalsRise rows → AllByRecursion (λ b. b.sequence.ordinal < row.sequence.ordinal) rows → OrdinalsRise (rows ++ row ∷ [])
rise_new [] row h low = (tt, tt)
rise_new (a ∷ rows) row h low = (all_append (λ b. a.sequence.ordinal < b.sequence.ordinal) rows (row ∷ []) h.0 (low.0, tt), rise_new rows row h.1 low.1)

-- the numbers of a sequence stay those from 1 on
numbered_more : (cs : List Commitment) (row : Row) (m : Message) → ((q : SequenceId) → numbers_in q cs ≡ range_with_len 1 (length (numbers_in q cs)))
    → length (numbers_in row.sequence cs) ≡ row.committed
    → (q : SequenceId) → numbers_in q (cs ++ commitment_to row m ∷ []) ≡ range_with_len 1 (length (numbers_in q (cs ++ commitment_to row m ∷ [])))
numbered_more cs row m h count q = at (same_sequence row.sequence q) refl
  where
    c : Commitment
    c = commitment_to row m

    Goal : List ℕ → Type 0
    Goal ns = ns ≡ range_with_len 1 (length ns)

    own : row.sequence ≡ q → Goal (numbers_in q cs ++ (row.committed + 1) ∷ [])
    own e = let n = length (numbers_in q cs) in
        let same : n ≡ row.committed = subst (λ s. length (numbers_in s cs) ≡ row.committed) e count in
        ap (λ ns. ns ++ (row.committed + 1) ∷ []) (h q)
        ∙ ap (λ k. range_with_len 1 n ++ k ∷ []) (let f : row.committed + 1 ≡ 1 + n = omega (arith, same) in f)
        ∙ sym (range_more 1 n) ∙ ap (range_with_len 1) (sym (length_more (numbers_in q cs) (row.committed + 1)))

    at : (b : Bool) → same_sequence row.sequence q ≡ b → Goal (numbers_in q (cs ++ c ∷ []))
    at true e = subst Goal (sym (numbers_own q cs c e)) (own (same_sequence_is row.sequence q e))
    at false e = subst Goal (sym (numbers_apart q cs c e)) (h q)

-- an identifier under a number that is new
differ_more : (own : Guid) (low : ℕ) (cs : List Commitment) (c : Commitment) → AllByRecursion (IsOwnBelow own low) cs → c.message.id.number ≡ low → IdentifiersDiffer cs
    → IdentifiersDiffer (cs ++ c ∷ [])
differ_more own low [] c ids e h = (tt, tt)
differ_more own low (d ∷ cs) c ids e h = (all_append (λ x. same_id d.message.id x.message.id ≡ false) cs (c ∷ []) h.0 (apart, tt), differ_more own low cs c ids.1 e h.1)
  where
    and_false : (b : Bool) → (b && false) ≡ false
    and_false true = refl
    and_false false = refl

    apart : same_id d.message.id c.message.id ≡ false
    apart = ap (λ t. same_guid d.message.id.qm c.message.id.qm && t)
        (other_numbers d.message.id.number c.message.id.number (λ same. let less = ids.0.1 in omega (arith, less, e, same)))
        ∙ and_false (same_guid d.message.id.qm c.message.id.qm)

ids_more : (own : Guid) (low : ℕ) (cs : List Commitment) (c : Commitment) → AllByRecursion (IsOwnBelow own low) cs → c.message.id ≡ record { qm = own; number = low }
    → AllByRecursion (IsOwnBelow own (low + 1)) (cs ++ c ∷ [])
ids_more own low cs c ids e = all_append (IsOwnBelow own (low + 1)) cs (c ∷ [])
    (all_weaker (IsOwnBelow own low) (IsOwnBelow own (low + 1)) (λ x h. (h.0, let less = h.1 in omega (arith, less))) cs ids)
    ((ap (λ i. i.qm) e, let n = ap (λ i. i.number) e in omega (arith, n)), tt)

-- a row that is there
joins_row : (own : Guid) (rows : List Row) (next low : ℕ) (cs : List Commitment) (row : Row) (m : Message) → In row rows → m.id ≡ record { qm = own; number = low }
    → Commits own rows next low cs → Commits own (with_first_changed (with_kept m) (has_ordinal row.sequence.ordinal) rows) next (low + 1) (cs ++ commitment_to row m ∷ [])
joins_row own rows next low cs row m inside id h = subst (λ x. Commits own x next (low + 1) (cs ++ commitment_to row m ∷ []))
    (sym (is_first_changed (with_kept m) (has_ordinal row.sequence.ordinal) rows)) (record {
      rise = rise_kept m (has_ordinal row.sequence.ordinal) rows h.rise;
      below = changed_all (λ b. b.sequence.ordinal < next) (with_kept m) (has_ordinal row.sequence.ordinal) rows (λ b less. less) h.below;
      rows = rows_join cs rows row m inside h.rise h.rows;
      given = all_append (λ c. c.position.sequence.ordinal < next) cs (commitment_to row m ∷ []) h.given (all_in (λ b. b.sequence.ordinal < next) rows row h.below inside, tt);
      numbered = numbered_more cs row m h.numbered (all_in (IsCounted cs) rows row h.rows inside).count;
      own_ids = ids_more own low cs (commitment_to row m) h.own_ids id;
      differ = differ_more own low cs (commitment_to row m) h.own_ids (ap (λ i. i.number) id) h.differ;
    })

-- of a sequence that is not given yet there is no commitment
pub none_given : (cs : List Commitment) (next : ℕ) (q : SequenceId) → next ≤ q.ordinal → AllByRecursion (λ c. c.position.sequence.ordinal < next) cs → numbers_in q cs ≡ []
none_given [] next q low h = refl
none_given (c ∷ cs) next q low h = ap (λ b. cons_option (cond b (Some c.position.number) None) (numbers_in q cs))
    (differ_by_ordinal c.position.sequence q (λ same. let less = h.0 in omega (arith, less, low, same))) ∙ none_given cs next q low h.1

-- a row that begins
joins_new : (own : Guid) (rows : List Row) (next low : ℕ) (cs : List Commitment) (row : Row) (m : Message) → row.sequence.ordinal ≡ next → row.committed ≡ 0 → row.kept ≡ []
    → m.id ≡ record { qm = own; number = low } → Commits own rows next low cs → Commits own (rows ++ with_kept m row ∷ []) (next + 1) (low + 1) (cs ++ commitment_to row m ∷ [])
joins_new own rows next low cs row m ordinal zero_of empty_of id h = record {
  rise = rise_new rows (with_kept m row) h.rise (all_weaker (λ (b : Row). b.sequence.ordinal < next) (λ b. b.sequence.ordinal < row.sequence.ordinal)
      (λ b less. omega (arith, less, ordinal)) rows h.below);
  below = all_append (λ b. b.sequence.ordinal < next + 1) rows (with_kept m row ∷ []) (all_weaker (λ (b : Row). b.sequence.ordinal < next) (λ b. b.sequence.ordinal < next + 1)
      (λ b less. omega (arith, less)) rows h.below) (omega (arith, ordinal), tt);
  rows = all_append (IsCounted (cs ++ commitment_to row m ∷ [])) rows (with_kept m row ∷ []) (others rows h.below h.rows) (counted_own cs row m itself_counted, tt);
  given = all_append (λ c. c.position.sequence.ordinal < next + 1) cs (commitment_to row m ∷ [])
      (all_weaker (λ (c : Commitment). c.position.sequence.ordinal < next) (λ c. c.position.sequence.ordinal < next + 1) (λ c less. omega (arith, less)) cs h.given) (omega (arith, ordinal), tt);
  numbered = numbered_more cs row m h.numbered count;
  own_ids = ids_more own low cs (commitment_to row m) h.own_ids id;
  differ = differ_more own low cs (commitment_to row m) h.own_ids (ap (λ i. i.number) id) h.differ;
}
  where
    none : numbers_in row.sequence cs ≡ []
    none = none_given cs next row.sequence (omega (arith, ordinal)) h.given

    count : length (numbers_in row.sequence cs) ≡ row.committed
    count = ap (λ (ns : List ℕ). length ns) none ∙ sym zero_of

    itself_counted : IsCounted cs row
    itself_counted = record { count = count; kept = λ k i. absurd (subst (In k) empty_of i) }

    others : (xs : List Row) → AllByRecursion (λ b. b.sequence.ordinal < next) xs → AllByRecursion (IsCounted cs) xs → AllByRecursion (IsCounted (cs ++ commitment_to row m ∷ [])) xs
    others [] low h = tt
    others (x ∷ xs) low h = (counted_apart cs (commitment_to row m) x (λ same. let less = low.0 in omega (arith, less, ordinal, same)) h.0, others xs low.1 h.1)

-- the row to which a message goes
pub last_in : {X : Type 0} (test : X → Bool) (o : Option X) (xs : List X) (x : X) → last_or o (filter test xs) ≡ Some x → (o ≡ Some x) ⊎ In x xs
last_in test o [] x e = inl e
last_in test o (y ∷ ys) x e = at (test y) e (last_in test (Some y) ys x) (last_in test o ys x)
  where
    at : (b : Bool) → last_or o (cond b (y ∷ filter test ys) (filter test ys)) ≡ Some x → (last_or (Some y) (filter test ys) ≡ Some x → (Some y ≡ Some x) ⊎ In x ys)
        → (last_or o (filter test ys) ≡ Some x → (o ≡ Some x) ⊎ In x ys) → (o ≡ Some x) ⊎ In x (y ∷ ys)
    at true e here behind = by (here e)
      where
        by : (Some y ≡ Some x) ⊎ In x ys → (o ≡ Some x) ⊎ In x (y ∷ ys)
        by (inl f) = inr (inl (some_is y x f))
        by (inr i) = inr (inr i)
    at false e here behind = by (behind e)
      where
        by : (o ≡ Some x) ⊎ In x ys → (o ≡ Some x) ⊎ In x (y ∷ ys)
        by (inl f) = inl f
        by (inr i) = inr (inr i)

pub in_use_in : (s : State) (peer : ℕ) (destination : QueueName) (row : Row) → sequence_in_use s peer destination ≡ Some row → In row s.outs
in_use_in s peer destination row e = at (last_sequence s peer destination) refl e
  where
    found : (x : Row) → last_sequence s peer destination ≡ Some x → In x s.outs
    found x f = by (last_in (leads_to peer destination) None s.outs x f)
      where
        by : (None ≡ Some x) ⊎ In x s.outs → In x s.outs
        by (inl g) = absurd (none_some g)
        by (inr i) = i

    at : (o : Option Row) → last_sequence s peer destination ≡ o → option_and_then (λ row. cond (nat_lt row.committed s.roll) (Some row) None) o ≡ Some row → In row s.outs
    at None f e = absurd (none_some e)
    at (Some x) f e = by (nat_lt x.committed s.roll) e
      where
        by : (b : Bool) → cond b (Some x) None ≡ Some row → In row s.outs
        by true g = subst (λ y. In y s.outs) (some_is x row g) (found x f)
        by false g = absurd (none_some g)

-- what a manager has committed, by its state
abbrev pub CommitsIn : State → ℕ → List Commitment → Type 0
CommitsIn s low cs = Commits s.identity.guid s.outs s.next_ordinal low cs

joins : (s : State) (peer now low : ℕ) (m : Message) (cs : List Commitment) → m.id ≡ record { qm = s.identity.guid; number = low } → CommitsIn s low cs
    → CommitsIn (join s peer now m) (low + 1) (cs ++ commitment_to (sequence_for s peer m.destination now) m ∷ [])
joins s peer now low m cs id h = at (sequence_in_use s peer m.destination) refl
  where
    at : (o : Option Row) → sequence_in_use s peer m.destination ≡ o
        → CommitsIn (option_map_or (λ row. with_row (with_kept m) s row.sequence.ordinal) o (with_sequence s (with_kept m (new_sequence s peer m.destination now)))) (low + 1)
        (cs ++ commitment_to (unwrap_or o (new_sequence s peer m.destination now)) m ∷ [])
    at None e = joins_new s.identity.guid s.outs s.next_ordinal low cs (new_sequence s peer m.destination now) m refl refl refl id h
    at (Some row) e = joins_row s.identity.guid s.outs s.next_ordinal low cs row m (in_use_in s peer m.destination row e) id h

-- Transactions.

weaker : (own : Guid) (rows : List Row) (next low high : ℕ) (cs : List Commitment) → low ≤ high → Commits own rows next low cs → Commits own rows next high cs
weaker own rows next low high cs le h = record {
  rise = h.rise;
  below = h.below;
  rows = h.rows;
  given = h.given;
  numbered = h.numbered;
  own_ids = all_weaker (IsOwnBelow own low) (IsOwnBelow own high) (λ x g. (g.0, let less = g.1 in omega (arith, less, le))) cs h.own_ids;
  differ = h.differ;
}

-- a state with the same rows
pub same_commits : (a b : State) (low : ℕ) (cs : List Commitment) → HasSameRows a b → CommitsIn a low cs → CommitsIn b low cs
same_commits a b low cs same h = subst (λ (i : Identity). Commits i.guid b.outs b.next_ordinal low cs) (sym same.manager.identity)
    (subst (λ rows. Commits a.identity.guid rows b.next_ordinal low cs) (sym same.outs)
    (subst (λ next. Commits a.identity.guid a.outs next low cs) (sym same.next_ordinal) h))

-- a message of a transaction is sent
pub to_commits : (now low : ℕ) (s : State) (t : Target) (m : Message) (cs : List Commitment) → m.id ≡ record { qm = s.identity.guid; number = low } → CommitsIn s low cs
    → CommitsIn (committed_to now s t m).state (low + 1) (cs ++ cons_option (commitment_at now s t m) [])
to_commits now low s (AtPeer k) m cs id h = joins s k now low m cs id h
to_commits now low s (Here queue) m cs id h = subst (CommitsIn (committed_to now s (Here queue) m).state (low + 1)) (sym (append_nothing cs))
    (same_commits s (committed_to now s (Here queue) m).state (low + 1) cs (delivered_rows s (Here queue) m now)
    (weaker s.identity.guid s.outs s.next_ordinal low (low + 1) cs (omega arith) h))
to_commits now low s Nowhere m cs id h = subst (CommitsIn (committed_to now s Nowhere m).state (low + 1)) (sym (append_nothing cs))
    (same_commits s (committed_to now s Nowhere m).state (low + 1) cs (delivered_rows s Nowhere m now)
    (weaker s.identity.guid s.outs s.next_ordinal low (low + 1) cs (omega arith) h))

pub cons_behind : (cs : List Commitment) (o : Option Commitment) (rest : List Commitment) → (cs ++ cons_option o []) ++ rest ≡ cs ++ cons_option o rest
cons_behind cs None rest = ap (λ xs. xs ++ rest) (append_nothing cs)
cons_behind cs (Some c) rest = append_assoc cs (c ∷ []) rest

pub own_numbered : (a b : Guid) (n : ℕ) (ms : List Message) → a ≡ b → AreNumbered a n ms → AreNumbered b n ms
own_numbered a b n ms e h = subst (λ g. AreNumbered g n ms) e h

sends_commit : (now low : ℕ) (e : Effect) (ms : List Message) (cs : List Commitment) → AreNumbered e.state.identity.guid low ms → CommitsIn e.state low cs
    → CommitsIn (fold (send_made now) e ms).state (low + length ms) (cs ++ commitments_of now e ms)
sends_commit now low e [] cs ids h = subst (CommitsIn e.state (low + 0)) (sym (append_nothing cs))
    (weaker e.state.identity.guid e.state.outs e.state.next_ordinal low (low + 0) cs (omega arith) h)
sends_commit now low e (m ∷ ms) cs ids h = subst (λ k. CommitsIn (fold (send_made now) (send_made now e m) ms).state k (cs ++ commitments_of now e (m ∷ ms)))
    (let f : low + 1 + length ms ≡ low + length (m ∷ ms) = omega arith in f)
    (subst (CommitsIn (fold (send_made now) (send_made now e m) ms).state (low + 1 + length ms)) (cons_behind cs place (commitments_of now (send_made now e m) ms))
    (sends_commit now (low + 1) (send_made now e m) ms (cs ++ cons_option place []) (own_numbered e.state.identity.guid (send_made now e m).state.identity.guid (low + 1) ms
    (ap (λ (i : Identity). i.guid) (sym (sent_manager now e.state m).identity)) ids.1) sent))
  where
    s : State
    s = journalled e.state m

    place : Option Commitment
    place = commitment_at now s (resolved e.state m.destination) m

    sent : CommitsIn (send_made now e m).state (low + 1) (cs ++ cons_option place [])
    sent = to_commits now low s (resolved e.state m.destination) m cs
        (ids.0 ∙ ap (λ (i : Identity). record { qm = i.guid; number = low }) (sym (journalled_rows e.state m).manager.identity))
        (same_commits e.state s low cs (journalled_rows e.state m) h)

join_numbers : (s : State) (peer now : ℕ) (m : Message) → (join s peer now m).next_number ≡ s.next_number
join_numbers s peer now m = at (sequence_in_use s peer m.destination)
  where
    at : (o : Option Row) → (option_map_or (λ row. with_row (with_kept m) s row.sequence.ordinal) o (with_sequence s (with_kept m (new_sequence s peer m.destination now)))).next_number ≡ s.next_number
    at None = refl
    at (Some row) = refl

to_numbers : (now : ℕ) (s : State) (t : Target) (m : Message) → s.next_number ≤ (committed_to now s t m).state.next_number
to_numbers now s (AtPeer k) m = let e = join_numbers s k now m in omega (arith, e)
to_numbers now s (Here queue) m = (delivered_rows s (Here queue) m now).numbers
to_numbers now s Nowhere m = (delivered_rows s Nowhere m now).numbers

pub sends_numbers : (now : ℕ) (e : Effect) (ms : List Message) → e.state.next_number ≤ (fold (send_made now) e ms).state.next_number
sends_numbers now e [] = omega arith
sends_numbers now e (m ∷ ms) = let a = (journalled_rows e.state m).numbers in let b = to_numbers now (journalled e.state m) (resolved e.state m.destination) m in
    let c = sends_numbers now (send_made now e m) ms in omega (arith, a, b, c)

-- Records.

pub rows_no_more : (P : Row → Type 0) → ((a b : Row) → HasNoMore a b → P a → P b) → (olds news : List Row) → HaveNoMore olds news → AllByRecursion P olds → AllByRecursion P news
rows_no_more P keeps [] [] less h = tt
rows_no_more P keeps [] (b ∷ news) less h = absurd less
rows_no_more P keeps (a ∷ olds) [] less h = absurd less
rows_no_more P keeps (a ∷ olds) (b ∷ news) less h = (keeps a b less.0 h.0, rows_no_more P keeps olds news less.1 h.1)

pub rise_no_more : (olds news : List Row) → HaveNoMore olds news → OrdinalsRise olds → OrdinalsRise news
rise_no_more [] [] less h = tt
rise_no_more [] (b ∷ news) less h = absurd less
rise_no_more (a ∷ olds) [] less h = absurd less
rise_no_more (a ∷ olds) (b ∷ news) less h = (
  rows_no_more (λ x. b.sequence.ordinal < x.sequence.ordinal) (λ x y same lt. let e = ap (λ (q : SequenceId). q.ordinal) same.sequence in omega (arith, lt, e)) olds news less.1
      (all_weaker (λ (x : Row). a.sequence.ordinal < x.sequence.ordinal) (λ x. b.sequence.ordinal < x.sequence.ordinal)
      (λ x lt. let e = ap (λ (q : SequenceId). q.ordinal) less.0.sequence in omega (arith, lt, e)) olds h.0),
  rise_no_more olds news less.1 h.1,
)

counted_no_more : (cs : List Commitment) (a b : Row) → HasNoMore a b → IsCounted cs a → IsCounted cs b
counted_no_more cs a b less h = record {
  count = ap (λ q. length (numbers_in q cs)) less.sequence ∙ h.count ∙ sym less.committed;
  kept = λ k i. subst (λ q. In (record { position = record { sequence = q; number = k.number }; message = k.message }) cs) (sym less.sequence) (h.kept k (less.kept k i));
}

no_more_commits : (own : Guid) (olds news : List Row) (next low : ℕ) (cs : List Commitment) → HaveNoMore olds news → Commits own olds next low cs → Commits own news next low cs
no_more_commits own olds news next low cs less h = record {
  rise = rise_no_more olds news less h.rise;
  below = rows_no_more (λ x. x.sequence.ordinal < next) (λ x y same lt. let e = ap (λ (q : SequenceId). q.ordinal) same.sequence in omega (arith, lt, e)) olds news less h.below;
  rows = rows_no_more (IsCounted cs) (counted_no_more cs) olds news less h.rows;
  given = h.given;
  numbered = h.numbered;
  own_ids = h.own_ids;
  differ = h.differ;
}

abbrev pub AreCounted : State → List Written → Type 0
AreCounted s ws = CommitsIn s s.next_number (commitments ws)

-- the marks of a record that was made rise
pub made_offers : (s : State) (r : Record) → OrdinalsRise s.outs → IsMade s r → Offers s.outs r
made_offers s (entry.Offered marks) rise h = subst (Raise s.outs) (sym h.1) (marks_raise h.0 0 s.outs rise)
made_offers s r rise h = tt

quiet_commits : (s : State) (r : Record) (cs : List Commitment) → CommitsNothing r → IsMade s r → (apply s r).identity ≡ s.identity → CommitsIn s s.next_number cs
    → CommitsIn (apply s r) (apply s r).next_number cs
quiet_commits s r cs nothing made same h = let less = applied_no_more s r nothing (made_offers s r h.rise made) in
    subst (λ (i : Identity). Commits i.guid (apply s r).outs (apply s r).next_ordinal (apply s r).next_number cs) (sym same)
    (subst (λ next. Commits s.identity.guid (apply s r).outs next (apply s r).next_number cs) (sym less.next_ordinal)
    (no_more_commits s.identity.guid s.outs (apply s r).outs s.next_ordinal (apply s r).next_number cs less.outs
    (weaker s.identity.guid s.outs s.next_ordinal s.next_number (apply s r).next_number cs less.numbers h)))

commit_commits : (s : State) (now : ℕ) (ops : List RecordOp) (cs : List Commitment) → AreNumbered s.identity.guid s.next_number (sends_of ops) → CommitsIn s s.next_number cs
    → CommitsIn (apply s (entry.Commit now ops)) (apply s (entry.Commit now ops)).next_number (cs ++ commitments_in s (entry.Commit now ops))
commit_commits s now ops cs ids h = weaker (apply s (entry.Commit now ops)).identity.guid (apply s (entry.Commit now ops)).outs (apply s (entry.Commit now ops)).next_ordinal
    (s.next_number + length (sends_of ops)) (apply s (entry.Commit now ops)).next_number (cs ++ commitments_in s (entry.Commit now ops)) enough
    (sends_commit now s.next_number taken (sends_of ops) cs
    (own_numbered s.identity.guid taken.state.identity.guid s.next_number (sends_of ops) (ap (λ (i : Identity). i.guid) (sym (takes_made_rows s now ops).manager.identity)) ids)
    (same_commits s taken.state s.next_number cs (takes_made_rows s now ops) h))
  where
    taken : Effect
    taken = takes_made s now ops

    enough : s.next_number + length (sends_of ops) ≤ (apply s (entry.Commit now ops)).next_number
    enough = let a = (ops_taken_rows now (sends_numbered s ops) ops).numbers in let b = sends_numbers now taken (sends_of ops) in omega (arith, a, b)

pub commitments_more : (ws : List Written) (w : Written) → commitments (ws ++ w ∷ []) ≡ commitments ws ++ commitments_in w.before w.entry
commitments_more [] w = append_nothing (commitments_in w.before w.entry)
commitments_more (x ∷ ws) w = ap (λ cs. commitments_in x.before x.entry ++ cs) (commitments_more ws w)
    ∙ sym (append_assoc (commitments_in x.before x.entry) (commitments ws) (commitments_in w.before w.entry))

record_commits : (s : State) (r : Record) (cs : List Commitment) → IsMade s r → CommitsIn s s.next_number cs
    → CommitsIn (apply s r) (apply s r).next_number (cs ++ commitments_in s r)
record_commits s r cs made h = at r made (applied_manager s r (made_of_no_peer s r made)).identity
  where
    nothing : (x : Record) → CommitsNothing x → IsMade s x → commitments_in s x ≡ [] → (apply s x).identity ≡ s.identity → CommitsIn (apply s x) (apply s x).next_number (cs ++ commitments_in s x)
    nothing x quiet made none same = subst (λ more. CommitsIn (apply s x) (apply s x).next_number (cs ++ more)) (sym none)
        (subst (CommitsIn (apply s x) (apply s x).next_number) (sym (append_nothing cs)) (quiet_commits s x cs quiet made same h))

    at : (x : Record) → IsMade s x → (apply s x).identity ≡ s.identity → CommitsIn (apply s x) (apply s x).next_number (cs ++ commitments_in s x)
    at (entry.Peer peer) made same = absurd made
    at (entry.Commit now ops) made same = commit_commits s now ops cs made.numbered h
    at x made same = nothing x tt made refl same

-- The law.

pub joined_outs : (s : State) (peers : List Identity) → (fold apply s (map (λ peer. entry.Peer peer) peers)).outs ≡ s.outs
joined_outs s [] = refl
joined_outs s (p ∷ ps) = joined_outs (apply s (entry.Peer p)) ps

pub counted_by_records : IsByRecords AreCounted
counted_by_records = record {
  starts = λ own peers. begins (fold apply (empty own) (map (λ peer. entry.Peer peer) peers)) (joined_outs (empty own) peers);
  quiet = λ a b ws same h. weaker b.identity.guid b.outs b.next_ordinal a.next_number b.next_number (commitments ws) same.numbers
      (same_commits a b a.next_number (commitments ws) same h);
  grows = λ i s r ws made h. subst (CommitsIn (apply s r) (apply s r).next_number) (sym (commitments_more ws (record { by = i; before = s; entry = r })))
      (record_commits s r (commitments ws) made h);
}
  where
    begins : (s : State) → s.outs ≡ [] → Commits s.identity.guid s.outs s.next_ordinal s.next_number []
    begins s e = subst (λ rows. Commits s.identity.guid rows s.next_ordinal s.next_number []) (sym e)
        (record { rise = tt; below = tt; rows = tt; given = tt; numbered = λ q. refl; own_ids = tt; differ = tt })

pub always_committed_in_order : AlwaysCommittedInOrder
always_committed_in_order known ms apart run kept = λ i. let h = always_by_records AreCounted counted_by_records known ms apart run kept i in
    record { numbered = h.numbered; differ = h.differ }
