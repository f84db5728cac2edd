-- What could go of a manager whose messages are its own: each is of its kind, and those of a row come in the order of their numbers, which are above its cursor.
use Rattle.std.proofs.Common.{refl, ap, ◌∙◌, inl, inr, arith}
use Rattle.std.proofs.lemmas.Bool.{and_parts}
use Rattle.std.proofs.lemmas.Bool.Decides.{nat_tests}
use Rattle.std.specs.List.{AllByRecursion, cons_option, enumerate_from, flat_map}
use Rattle.std.specs.Prelude.{[], ◌&&◌, ◌+◌, ◌++◌, ◌<◌, ◌==◌, ◌∷◌, ◌≡◌, Bool, List, None, Option, Some, cond, false, filter, filter_map, is_none, map, max, nat_lt, slice_get, slice_set, suc, true, zip, ℕ}
use Rattle.mqb_base.specs.declared.heads.TxHead.{TxHead}
use Rattle.mqb_base.specs.declared.ids.Guid.{Guid}
use Rattle.mqb_base.specs.declared.ids.Identity.{Identity}
use Rattle.mqb_orders.specs.Rows.{Row, is_open, link_before}
use Rattle.mqb_orders.specs.declared.kept.Kept.{Kept}
use Rattle.mqb_orders.specs.declared.rows.InRow.{InRow}
use Rattle.mqb_plain.specs.Plain.{PlainLists}
use Rattle.mqb_plain.specs.declared.outgoing.Outgoing.{Outgoing}
use Rattle.mqb_session.specs.Sending.{may_send}
use Rattle.mqb_session.specs.State as one_end
use Rattle.mqb_session.specs.declared.heads.Kind.TheVariants as kind
use Rattle.mqb_model.specs.calls.pump.Candidates.{Candidate, acks, candidates, of_row, plain_candidates, row_candidates, rows_owing, unsent_from, unsent_of, waiting}
use Rattle.mqb_model.specs.calls.pump.Choosing.{candidate_size, chosen, is_within, kind_of, may_follow, session_after}
use Rattle.mqb_model.specs.declared.limits.TheConstants.{MAX_PACKETS}
use Rattle.mqb_model.specs.managers.Beside.{OfExpress, OfRecoverable, OfRow, Origin, Owed}
use Rattle.mqb_model.specs.managers.Manager.{Rest}
use Rattle.mqb_model.specs.rules.Numbers.{express_after}
use Rattle.mqb_model.specs.state.State.{State}
use Rattle.mqb_law_captures.proofs.Links.{set_hit, set_missed}
use Rattle.mqb_law_captures.proofs.Rows.{HasNumber, IsOwnOf, KeptRise}
use Rattle.mqb_law_captures.proofs.States.{WaitsOwn}
use Rattle.mqb_law_captures.proofs.Lists.{PairsByRecursion, all_append, fewer_filter, fewer_pairs}

-- Lists.

pairs_append : {X : Type 0} (R : X → X → Type 0) (xs ys : List X) → PairsByRecursion R xs → PairsByRecursion R ys → AllByRecursion (λ x. AllByRecursion (R x) ys) xs → PairsByRecursion R (xs ++ ys)
pairs_append R [] ys p q all = q
pairs_append R (x ∷ xs) ys p q all = (all_append (R x) xs ys p.0 all.0, pairs_append R xs ys p.1 q all.1)

-- Where a candidate comes from.

-- a number of the row at an index, with its place in the row's sequence
pub record IsOfRow (rows : List Row) (cursors : List ℕ) (tx : Option TxHead) (i n : ℕ) : Type 0 where
  pub row : Row
  pub there : slice_get rows i ≡ Some row
  pub cursor : ℕ
  pub at : slice_get cursors i ≡ Some cursor
  pub above : cursor < n
  pub unacked : row.acked < n
  pub kept : HasNumber n row.kept
  pub head : tx ≡ Some (record { sequence = row.sequence; number = n; previous = link_before row.acked row.kept n })

abbrev pub IsFrom : List Row → List ℕ → Option TxHead → Origin → Type 0
IsFrom rows cursors tx (OfRow i n) = IsOfRow rows cursors tx i n
IsFrom rows cursors tx _ = tx ≡ None

pub record MayGo (own : Guid) (rows : List Row) (cursors : List ℕ) (c : Candidate) : Type 0 where
  pub message : IsOwnOf own (kind_of c.origin) c.message
  pub from : IsFrom rows cursors c.tx c.origin

-- Of one row the earlier one has the smaller number.

abbrev pub Exceeds : ℕ → ℕ → Origin → Type 0
Exceeds i n (OfRow j m) = i ≡ j → n < m
Exceeds i n _ = Unit {0}

abbrev pub Comes : Origin → Origin → Type 0
Comes (OfRow i n) other = Exceeds i n other
Comes _ other = Unit {0}

abbrev pub Precedes : Candidate → Candidate → Type 0
Precedes a b = Comes a.origin b.origin

-- a candidate of no row precedes each
abbrev IsFree : Origin → Type 0
IsFree (OfRow i n) = ⊥
IsFree _ = Unit {0}

free_precedes : (a : Candidate) (cs : List Candidate) → IsFree a.origin → AllByRecursion (Precedes a) cs
free_precedes a cs free = at a.origin free cs
  where
    at : (o : Origin) → IsFree o → (xs : List Candidate) → AllByRecursion (λ (b : Candidate). Comes o b.origin) xs
    at (OfRow i n) f xs = absurd f
    at (Owed row) f [] = tt
    at (Owed row) f (x ∷ xs) = (tt, at (Owed row) f xs)
    at OfRecoverable f [] = tt
    at OfRecoverable f (x ∷ xs) = (tt, at OfRecoverable f xs)
    at OfExpress f [] = tt
    at OfExpress f (x ∷ xs) = (tt, at OfExpress f xs)

free_all : (xs ys : List Candidate) → AllByRecursion (λ (c : Candidate). IsFree c.origin) xs → AllByRecursion (λ (a : Candidate). AllByRecursion (Precedes a) ys) xs
free_all [] ys h = tt
free_all (x ∷ xs) ys h = (free_precedes x ys h.0, free_all xs ys h.1)

free_pairs : (xs : List Candidate) → AllByRecursion (λ (c : Candidate). IsFree c.origin) xs → PairsByRecursion Precedes xs
free_pairs [] h = tt
free_pairs (x ∷ xs) h = (free_precedes x xs h.0, free_pairs xs h.1)

-- All of them.

module _ (own : Guid) (s : State) (rest : Rest) (identity : s.identity.guid ≡ own) where
  abbrev Goes : Candidate → Type 0
  Goes c = MayGo own s.outs rest.cursors c

  -- Acknowledgements.

  acks_go : (peer : Identity) (now number : ℕ) (rows : List (ℕ × InRow)) → AllByRecursion Goes (acks s peer now number rows)
  acks_go peer now number [] = tt
  acks_go peer now number (row ∷ rows) = (record { message = (identity, refl); from = refl }, acks_go peer now (express_after number) rows)

  acks_free : (peer : Identity) (now number : ℕ) (rows : List (ℕ × InRow)) → AllByRecursion (λ (c : Candidate). IsFree c.origin) (acks s peer now number rows)
  acks_free peer now number [] = tt
  acks_free peer now number (row ∷ rows) = (tt, acks_free peer now (express_after number) rows)

  -- Plain messages.

  recoverable_go : (os : List Outgoing) → AllByRecursion (λ (o : Outgoing). IsOwnOf own kind.Recoverable o.message) os → AllByRecursion Goes (filter_map (unsent_from OfRecoverable) os)
  recoverable_go [] h = tt
  recoverable_go (o ∷ os) h = at (is_none o.mark) (recoverable_go os h.1)
    where
      at : (b : Bool) → AllByRecursion Goes (filter_map (unsent_from OfRecoverable) os)
          → AllByRecursion Goes (cons_option (cond b (Some (record { origin = OfRecoverable; message = o.message; tx = None })) None) (filter_map (unsent_from OfRecoverable) os))
      at true more = (record { message = h.0; from = refl }, more)
      at false more = more

  express_go : (os : List Outgoing) → AllByRecursion (λ (o : Outgoing). IsOwnOf own kind.Plain o.message) os → AllByRecursion Goes (filter_map (unsent_from OfExpress) os)
  express_go [] h = tt
  express_go (o ∷ os) h = at (is_none o.mark) (express_go os h.1)
    where
      at : (b : Bool) → AllByRecursion Goes (filter_map (unsent_from OfExpress) os)
          → AllByRecursion Goes (cons_option (cond b (Some (record { origin = OfExpress; message = o.message; tx = None })) None) (filter_map (unsent_from OfExpress) os))
      at true more = (record { message = h.0; from = refl }, more)
      at false more = more

  plain_free : (origin : Origin) → IsFree origin → (os : List Outgoing) → AllByRecursion (λ (c : Candidate). IsFree c.origin) (filter_map (unsent_from origin) os)
  plain_free origin f [] = tt
  plain_free origin f (o ∷ os) = at (is_none o.mark) (plain_free origin f os)
    where
      at : (b : Bool) → AllByRecursion (λ (c : Candidate). IsFree c.origin) (filter_map (unsent_from origin) os)
          → AllByRecursion (λ (c : Candidate). IsFree c.origin) (cons_option (cond b (Some (record { origin = origin; message = o.message; tx = None })) None) (filter_map (unsent_from origin) os))
      at true more = (f, more)
      at false more = more

  -- Rows.

  -- the row and the cursor at an index
  abbrev StandsAt : ℕ → Row → ℕ → Type 0
  StandsAt i row cursor = (slice_get s.outs i ≡ Some row) × (slice_get rest.cursors i ≡ Some cursor)

  above_both : (a b n : ℕ) → nat_lt (max a b) n ≡ true → (a < n) × (b < n)
  above_both a b n e = let less : max a b < n = grind (arith, nat_tests) in (omega (arith, less), omega (arith, less))

  kept_itself : (ks : List Kept) → AllByRecursion (λ (k : Kept). HasNumber k.number ks) ks
  kept_itself [] = tt
  kept_itself (k ∷ ks) = (inl refl, later ks (kept_itself ks))
    where
      later : (xs : List Kept) → AllByRecursion (λ (x : Kept). HasNumber x.number ks) xs → AllByRecursion (λ (x : Kept). HasNumber x.number (k ∷ ks)) xs
      later [] h = tt
      later (x ∷ xs) h = (inr h.0, later xs h.1)

  -- what is known of a kept number that was not sent
  abbrev IsUnsent : Row → ℕ → Kept → Type 0
  IsUnsent row cursor k = IsOwnOf own kind.Plain k.message × HasNumber k.number row.kept × (row.acked < k.number) × (cursor < k.number)

  unsent_are : (row : Row) (cursor : ℕ) (ks : List Kept) → AllByRecursion (λ (k : Kept). IsOwnOf own kind.Plain k.message) ks → AllByRecursion (λ (k : Kept). HasNumber k.number row.kept) ks
      → AllByRecursion (IsUnsent row cursor) (filter (λ (k : Kept). nat_lt (max row.acked cursor) k.number) ks)
  unsent_are row cursor [] h g = tt
  unsent_are row cursor (k ∷ ks) h g = at (nat_lt (max row.acked cursor) k.number) refl (unsent_are row cursor ks h.1 g.1)
    where
      at : (b : Bool) → nat_lt (max row.acked cursor) k.number ≡ b → AllByRecursion (IsUnsent row cursor) (filter (λ (k : Kept). nat_lt (max row.acked cursor) k.number) ks)
          → AllByRecursion (IsUnsent row cursor) (cond b (k ∷ filter (λ (k : Kept). nat_lt (max row.acked cursor) k.number) ks) (filter (λ (k : Kept). nat_lt (max row.acked cursor) k.number) ks))
      at true e more = ((h.0, g.0, (above_both row.acked cursor k.number e).0, (above_both row.acked cursor k.number e).1), more)
      at false e more = more

  of_row_go : (i : ℕ) (row : Row) (cursor : ℕ) → StandsAt i row cursor → (ks : List Kept) → AllByRecursion (IsUnsent row cursor) ks → AllByRecursion Goes (map (of_row i row) ks)
  of_row_go i row cursor there [] h = tt
  of_row_go i row cursor there (k ∷ ks) h = (
    record {
      message = h.0.0;
      from = record { row = row; there = there.0; cursor = cursor; at = there.1; above = h.0.3; unacked = h.0.2; kept = h.0.1; head = refl };
    },
    of_row_go i row cursor there ks h.1,
  )

  waiting_go : (peer i : ℕ) (row : Row) (cursor : ℕ) → StandsAt i row cursor → AllByRecursion (λ (k : Kept). IsOwnOf own kind.Plain k.message) row.kept
      → AllByRecursion Goes (waiting s peer (i, (row, cursor)))
  waiting_go peer i row cursor there h = at (row.peer == peer && is_open s.outs i)
    where
      at : (b : Bool) → AllByRecursion Goes (cond b (map (of_row i row) (unsent_of row cursor)) [])
      at true = of_row_go i row cursor there (unsent_of row cursor) (unsent_are row cursor row.kept h (kept_itself row.kept))
      at false = tt

  of_row_pairs : (i : ℕ) (row : Row) (ks : List Kept) → KeptRise ks → PairsByRecursion Precedes (map (of_row i row) ks)
  of_row_pairs i row [] h = tt
  of_row_pairs i row (k ∷ ks) h = (each ks h.0, of_row_pairs i row ks h.1)
    where
      each : (xs : List Kept) → AllByRecursion (λ (x : Kept). k.number < x.number) xs → AllByRecursion (Precedes (of_row i row k)) (map (of_row i row) xs)
      each [] g = tt
      each (x ∷ xs) g = (λ same. g.0, each xs g.1)

  waiting_pairs : (peer i : ℕ) (row : Row) (cursor : ℕ) → KeptRise row.kept → PairsByRecursion Precedes (waiting s peer (i, (row, cursor)))
  waiting_pairs peer i row cursor h = at (row.peer == peer && is_open s.outs i)
    where
      at : (b : Bool) → PairsByRecursion Precedes (cond b (map (of_row i row) (unsent_of row cursor)) [])
      at true = of_row_pairs i row (unsent_of row cursor)
          (fewer_pairs (λ (j k : Kept). j.number < k.number) (fewer_filter (λ (k : Kept). nat_lt (max row.acked cursor) k.number) row.kept) h)
      at false = tt

  -- candidates of rows from an index on
  abbrev IsBehind : ℕ → Origin → Type 0
  IsBehind i (OfRow j m) = i < j
  IsBehind i _ = Unit {0}

  of_row_behind : (low i : ℕ) (row : Row) → low < i → (ks : List Kept) → AllByRecursion (λ (c : Candidate). IsBehind low c.origin) (map (of_row i row) ks)
  of_row_behind low i row less [] = tt
  of_row_behind low i row less (k ∷ ks) = (less, of_row_behind low i row less ks)

  waiting_behind : (low peer i : ℕ) (row : Row) (cursor : ℕ) → low < i → AllByRecursion (λ (c : Candidate). IsBehind low c.origin) (waiting s peer (i, (row, cursor)))
  waiting_behind low peer i row cursor less = at (row.peer == peer && is_open s.outs i)
    where
      at : (b : Bool) → AllByRecursion (λ (c : Candidate). IsBehind low c.origin) (cond b (map (of_row i row) (unsent_of row cursor)) [])
      at true = of_row_behind low i row less (unsent_of row cursor)
      at false = tt

  rows_behind : (low peer n : ℕ) (rows : List Row) (cursors : List ℕ) → low < n → AllByRecursion (λ (c : Candidate). IsBehind low c.origin) (flat_map (waiting s peer) (enumerate_from n (zip rows cursors)))
  rows_behind low peer n [] cursors less = tt
  rows_behind low peer n (row ∷ rows) [] less = tt
  rows_behind low peer n (row ∷ rows) (cursor ∷ cursors) less = all_append (λ (c : Candidate). IsBehind low c.origin) (waiting s peer (n, (row, cursor)))
      (flat_map (waiting s peer) (enumerate_from (n + 1) (zip rows cursors))) (waiting_behind low peer n row cursor less) (rows_behind low peer (n + 1) rows cursors (omega (arith, less)))

  -- those of a row precede those of the rows behind it
  of_row_before : (i : ℕ) (row : Row) (ks : List Kept) (cs : List Candidate) → AllByRecursion (λ (c : Candidate). IsBehind i c.origin) cs
      → AllByRecursion (λ (a : Candidate). AllByRecursion (Precedes a) cs) (map (of_row i row) ks)
  of_row_before i row [] cs h = tt
  of_row_before i row (k ∷ ks) cs h = (each cs h, of_row_before i row ks cs h)
    where
      one : (o : Origin) → IsBehind i o → Exceeds i k.number o
      one (OfRow j m) less = λ same. absurd (omega (arith, less, same))
      one (Owed x) less = tt
      one OfRecoverable less = tt
      one OfExpress less = tt

      each : (xs : List Candidate) → AllByRecursion (λ (c : Candidate). IsBehind i c.origin) xs → AllByRecursion (Precedes (of_row i row k)) xs
      each [] g = tt
      each (x ∷ xs) g = (one x.origin g.0, each xs g.1)

  waiting_before : (peer i : ℕ) (row : Row) (cursor : ℕ) (cs : List Candidate) → AllByRecursion (λ (c : Candidate). IsBehind i c.origin) cs
      → AllByRecursion (λ (a : Candidate). AllByRecursion (Precedes a) cs) (waiting s peer (i, (row, cursor)))
  waiting_before peer i row cursor cs h = at (row.peer == peer && is_open s.outs i)
    where
      at : (b : Bool) → AllByRecursion (λ (a : Candidate). AllByRecursion (Precedes a) cs) (cond b (map (of_row i row) (unsent_of row cursor)) [])
      at true = of_row_before i row (unsent_of row cursor) cs h
      at false = tt

  abbrev KeptOwn : Row → Type 0
  KeptOwn row = AllByRecursion (λ (k : Kept). IsOwnOf own kind.Plain k.message) row.kept

  rows_go : (peer n : ℕ) (rows : List Row) (cursors : List ℕ) → ((i : ℕ) (row : Row) → slice_get rows i ≡ Some row → slice_get s.outs (n + i) ≡ Some row)
      → ((i cursor : ℕ) → slice_get cursors i ≡ Some cursor → slice_get rest.cursors (n + i) ≡ Some cursor) → AllByRecursion KeptOwn rows
      → AllByRecursion Goes (flat_map (waiting s peer) (enumerate_from n (zip rows cursors)))
  rows_go peer n [] cursors there at h = tt
  rows_go peer n (row ∷ rows) [] there at h = tt
  rows_go peer n (row ∷ rows) (cursor ∷ cursors) there at h = all_append Goes (waiting s peer (n, (row, cursor))) (flat_map (waiting s peer) (enumerate_from (n + 1) (zip rows cursors)))
      (waiting_go peer n row cursor (ap (slice_get s.outs) (let e : n ≡ n + 0 = omega arith in e) ∙ there 0 row refl, ap (slice_get rest.cursors) (let e : n ≡ n + 0 = omega arith in e) ∙ at 0 cursor refl) h.0)
      (rows_go peer (n + 1) rows cursors (λ i x e. ap (slice_get s.outs) (let f : (n + 1) + i ≡ n + suc i = omega arith in f) ∙ there (suc i) x e)
      (λ i x e. ap (slice_get rest.cursors) (let f : (n + 1) + i ≡ n + suc i = omega arith in f) ∙ at (suc i) x e) h.1)

  rows_pairs : (peer n : ℕ) (rows : List Row) (cursors : List ℕ) → AllByRecursion (λ (row : Row). KeptRise row.kept) rows
      → PairsByRecursion Precedes (flat_map (waiting s peer) (enumerate_from n (zip rows cursors)))
  rows_pairs peer n [] cursors h = tt
  rows_pairs peer n (row ∷ rows) [] h = tt
  rows_pairs peer n (row ∷ rows) (cursor ∷ cursors) h = pairs_append Precedes (waiting s peer (n, (row, cursor))) (flat_map (waiting s peer) (enumerate_from (n + 1) (zip rows cursors)))
      (waiting_pairs peer n row cursor h.0) (rows_pairs peer (n + 1) rows cursors h.1)
      (waiting_before peer n row cursor (flat_map (waiting s peer) (enumerate_from (n + 1) (zip rows cursors))) (rows_behind n peer (n + 1) rows cursors (omega arith)))

  -- All together.

  pub all_go : (now k : ℕ) (peer : Identity) (p : PlainLists) → WaitsOwn own p → AllByRecursion KeptOwn s.outs → AllByRecursion Goes (candidates s rest now k peer p)
  all_go now k peer p waits kept = all_append Goes (acks s peer now s.next_express (rows_owing s rest peer.guid) ++ plain_candidates p) (row_candidates s rest k)
      (all_append Goes (acks s peer now s.next_express (rows_owing s rest peer.guid)) (plain_candidates p) (acks_go peer now s.next_express (rows_owing s rest peer.guid))
      (all_append Goes (filter_map (unsent_from OfRecoverable) p.recoverable) (filter_map (unsent_from OfExpress) p.express)
      (recoverable_go p.recoverable waits.recoverable) (express_go p.express waits.express)))
      (rows_go k 0 s.outs rest.cursors (λ i row e. ap (slice_get s.outs) (let f : 0 + i ≡ i = omega arith in f) ∙ e) (λ i x e. ap (slice_get rest.cursors) (let f : 0 + i ≡ i = omega arith in f) ∙ e) kept)

  pub all_precede : (now k : ℕ) (peer : Identity) (p : PlainLists) → AllByRecursion (λ (row : Row). KeptRise row.kept) s.outs → PairsByRecursion Precedes (candidates s rest now k peer p)
  all_precede now k peer p rise =
      let first = acks s peer now s.next_express (rows_owing s rest peer.guid) in
      let free = all_append (λ (c : Candidate). IsFree c.origin) first (plain_candidates p) (acks_free peer now s.next_express (rows_owing s rest peer.guid))
      (all_append (λ (c : Candidate). IsFree c.origin) (filter_map (unsent_from OfRecoverable) p.recoverable) (filter_map (unsent_from OfExpress) p.express)
      (plain_free OfRecoverable tt p.recoverable) (plain_free OfExpress tt p.express)) in
      pairs_append Precedes (first ++ plain_candidates p) (row_candidates s rest k) (free_pairs (first ++ plain_candidates p) free) (rows_pairs k 0 s.outs rest.cursors rise)
      (free_all (first ++ plain_candidates p) (row_candidates s rest k) free)

-- each may be sent after those before it
abbrev pub Go : one_end.State → List Candidate → Type 0
Go session [] = Unit {0}
Go session (c ∷ cs) = (may_send session ≡ true) × Go (session_after session c) cs

pub chosen_go : (session : one_end.State) (count bytes : ℕ) (cs : List Candidate) → Go session (chosen session count bytes cs)
chosen_go session count bytes [] = tt
chosen_go session count bytes (c ∷ cs) = at (chosen_go (session_after session c) (count + 1) (bytes + candidate_size c) cs) (may_follow session count bytes c) refl
  where
    rest : List Candidate
    rest = chosen (session_after session c) (count + 1) (bytes + candidate_size c) cs

    at : Go (session_after session c) rest → (b : Bool) → may_follow session count bytes c ≡ b → Go session (cond b (c ∷ rest) [])
    at more true e = ((and_parts (may_send session) (nat_lt count MAX_PACKETS) (and_parts (may_send session && nat_lt count MAX_PACKETS) (is_within count bytes c) e).0).0, more)
    at more false e = tt

-- Candidates go one after another.

-- the cursors once one went
abbrev pub cursors_after : List ℕ → Origin → List ℕ
cursors_after cursors (OfRow i n) = slice_set cursors i n
cursors_after cursors _ = cursors

abbrev pub GoInTurn : Guid → List Row → List ℕ → List Candidate → Type 0
GoInTurn own rows cursors [] = Unit {0}
GoInTurn own rows cursors (c ∷ cs) = MayGo own rows cursors c × GoInTurn own rows (cursors_after cursors c.origin) cs

-- one may go still behind another
still_of_row : (rows : List Row) (cursors : List ℕ) (tx : Option TxHead) (i n j m : ℕ) → (i ≡ j → n < m) → IsOfRow rows cursors tx j m → IsOfRow rows (slice_set cursors i n) tx j m
still_of_row rows cursors tx i n j m less h = at (i == j) refl
  where
    same : (i == j) ≡ true → i ≡ j
    same e = grind (arith, nat_tests)

    apart : (i == j) ≡ false → i ≡ j → ⊥
    apart e f = grind (arith, nat_tests)

    at : (b : Bool) → (i == j) ≡ b → IsOfRow rows (slice_set cursors i n) tx j m
    at true e = record {
      row = h.row;
      there = h.there;
      cursor = n;
      at = ap (λ (x : ℕ). slice_get (slice_set cursors x n) j) (same e) ∙ set_hit cursors j h.cursor n h.at;
      above = less (same e);
      unacked = h.unacked;
      kept = h.kept;
      head = h.head;
    }
    at false e = record {
      row = h.row;
      there = h.there;
      cursor = h.cursor;
      at = set_missed cursors i j n (apart e) ∙ h.at;
      above = h.above;
      unacked = h.unacked;
      kept = h.kept;
      head = h.head;
    }

still_from : (rows : List Row) (cursors : List ℕ) (a : Origin) (tx : Option TxHead) (o : Origin) → Comes a o → IsFrom rows cursors tx o → IsFrom rows (cursors_after cursors a) tx o
still_from rows cursors (OfRow i n) tx (OfRow j m) less h = still_of_row rows cursors tx i n j m less h
still_from rows cursors (OfRow i n) tx (Owed row) less h = h
still_from rows cursors (OfRow i n) tx OfRecoverable less h = h
still_from rows cursors (OfRow i n) tx OfExpress less h = h
still_from rows cursors (Owed row) tx o less h = h
still_from rows cursors OfRecoverable tx o less h = h
still_from rows cursors OfExpress tx o less h = h

still_go : (own : Guid) (rows : List Row) (cursors : List ℕ) (a : Candidate) (cs : List Candidate) → AllByRecursion (Precedes a) cs → AllByRecursion (MayGo own rows cursors) cs
    → AllByRecursion (MayGo own rows (cursors_after cursors a.origin)) cs
still_go own rows cursors a [] p h = tt
still_go own rows cursors a (c ∷ cs) p h = (
  record { message = h.0.message; from = still_from rows cursors a.origin c.tx c.origin p.0 h.0.from },
  still_go own rows cursors a cs p.1 h.1,
)

pub go_in_turn : (own : Guid) (rows : List Row) (cursors : List ℕ) (cs : List Candidate) → AllByRecursion (MayGo own rows cursors) cs → PairsByRecursion Precedes cs → GoInTurn own rows cursors cs
go_in_turn own rows cursors [] h p = tt
go_in_turn own rows cursors (c ∷ cs) h p = (h.0, go_in_turn own rows (cursors_after cursors c.origin) cs (still_go own rows cursors c cs p.0 h.1) p.1)

pub chosen_in_turn : (own : Guid) (rows : List Row) (cursors : List ℕ) (session : one_end.State) (count bytes : ℕ) (cs : List Candidate) → GoInTurn own rows cursors cs
    → GoInTurn own rows cursors (chosen session count bytes cs)
chosen_in_turn own rows cursors session count bytes [] h = tt
chosen_in_turn own rows cursors session count bytes (c ∷ cs) h =
    at (may_follow session count bytes c) (chosen_in_turn own rows (cursors_after cursors c.origin) (session_after session c) (count + 1) (bytes + candidate_size c) cs h.1)
  where
    at : (b : Bool) → GoInTurn own rows (cursors_after cursors c.origin) (chosen (session_after session c) (count + 1) (bytes + candidate_size c) cs)
        → GoInTurn own rows cursors (cond b (c ∷ chosen (session_after session c) (count + 1) (bytes + candidate_size c) cs) [])
    at true more = (h.0, more)
    at false more = tt
