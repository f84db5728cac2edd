-- What a pump chooses, and the marks that its record raises.
use Rattle.std.proofs.Common.{refl, ap, sym, subst, ◌∙◌, ◌⊎◌, inl, inr, length, arith, length-append}
use Rattle.std.proofs.lemmas.Bool.{cases_lt}
use Rattle.std.proofs.lemmas.Bool.Decides.{nat_tests}
use Rattle.std.specs.List.{AllByRecursion, cons_option, enumerate_from, flat_map, list_any}
use Rattle.std.specs.Option.{option_map_or}
use Rattle.std.specs.Prelude.{◌&&◌, ◌+◌, ◌++◌, ◌<◌, ◌==◌, ◌∷◌, ◌≡◌, ◌≤◌, [], Bool, IfSome, List, None, Option, Some, cond, false, filter_map, fold, is_none, map, max, nat_le, nat_lt, slice_get, suc, true, zip, ℕ}
use Rattle.mqb_base.specs.declared.ids.Identity.{Identity}
use Rattle.mqb_entries.specs.declared.members.Mark.{Mark}
use Rattle.mqb_orders.specs.Rows.{Row, is_open}
use Rattle.mqb_orders.specs.declared.kept.Kept.{Kept}
use Rattle.mqb_orders.specs.declared.rows.InRow.{InRow}
use Rattle.mqb_plain.specs.Plain.{PlainLists}
use Rattle.mqb_plain.specs.declared.outgoing.Outgoing.{Outgoing}
use Rattle.mqb_session.specs.Sending.{may_send}
use Rattle.mqb_session.specs.State as one_end
use Rattle.mqb_model.specs.Lists.{first_where, with_first_changed}
use Rattle.mqb_model.specs.calls.pump.Candidates.{Candidate, acks, candidates, of_row, plain_candidates, row_candidates, rows_owing, unsent_from, unsent_of, waiting}
use Rattle.mqb_model.specs.calls.pump.Choosing.{candidate_size, chosen, is_within, may_follow, session_after}
use Rattle.mqb_model.specs.calls.pump.Pump.{greatest_sent, mark_for, marks_for, number_of_row}
use Rattle.mqb_model.specs.declared.limits.TheConstants.{MAX_PACKETS}
use Rattle.mqb_model.specs.managers.Beside.{OfExpress, OfRecoverable, OfRow, Origin}
use Rattle.mqb_model.specs.managers.Manager.{Rest}
use Rattle.mqb_model.specs.records.Offered.{mark_raised, offered_fits, raises_offer, with_offered}
use Rattle.mqb_model.specs.rules.Numbers.{express_after}
use Rattle.mqb_model.specs.state.Rows.{has_ordinal, row_of_ordinal}
use Rattle.mqb_model.specs.state.State.{State}
use Rattle.mqb_model.proofs.Finding.{changed_behind, first_behind}
use Rattle.mqb_model.proofs.Members.{PairsByRecursion, all_append, fewer_all, fewer_filter, some_is, split_and}
use Rattle.mqb_model.proofs.Offering.{Precedes}
use Rattle.mqb_model.proofs.Releasing.{all_mapped, any_itself}

-- Lists.

all_filter_map : {X Y : Type 0} (P : Y → Type 0) (h : X → Option Y) (xs : List X) → ((x : X) → IfSome (h x) P) → AllByRecursion P (filter_map h xs)
all_filter_map P h [] f = tt
all_filter_map P h (x ∷ xs) f = at (all_filter_map P h xs f) (h x) (f x)
  where
    at : AllByRecursion P (filter_map h xs) → (o : Option _) → IfSome o P → AllByRecursion P (cons_option o (filter_map h xs))
    at more None p = more
    at more (Some y) p = (p, more)

push_append : {X : Type 0} (before : List X) (x : X) (xs : List X) → before ++ x ∷ xs ≡ (before ++ x ∷ []) ++ xs
push_append [] x xs = refl
push_append (y ∷ before) x xs = ap (λ ys. y ∷ ys) (push_append before x xs)

get_middle : {X : Type 0} (before : List X) (x : X) (xs : List X) → slice_get (before ++ x ∷ xs) (length before) ≡ Some x
get_middle [] x xs = refl
get_middle (y ∷ before) x xs = get_middle before x xs

fold_max : (Q : ℕ → Type 0) (low : ℕ) (xs : List ℕ) → Q low → AllByRecursion Q xs → Q (fold max low xs)
fold_max Q low [] h all = h
fold_max Q low (x ∷ xs) h all = fold_max Q (max low x) xs (by (cases_lt low x)) all.1
  where
    by : (low < x) ⊎ (x ≤ low) → Q (max low x)
    by (inl lt) = let e : max low x ≡ x = omega (arith, lt) in subst Q (sym e) all.0
    by (inr le) = let e : max low x ≡ low = omega (arith, le) in subst Q (sym e) h

-- Candidates.

-- a number of a row is one that the row keeps
abbrev pub IsOffered : State → Origin → Type 0
IsOffered s (OfRow index number) = (row : Row) × (slice_get s.outs index ≡ Some row) × (list_any (λ k. k.number == number) row.kept ≡ true)
IsOffered s _ = Unit {0}

-- so is that of a candidate
abbrev pub IsThere : State → Candidate → Type 0
IsThere s c = IsOffered s c.origin

acks_stand : (s : State) (peer : Identity) (now number : ℕ) (rows : List (ℕ × InRow)) → AllByRecursion (IsThere s) (acks s peer now number rows)
acks_stand s peer now number [] = tt
acks_stand s peer now number (row ∷ rows) = (tt, acks_stand s peer now (express_after number) rows)

plain_stand : (s : State) (p : PlainLists) → AllByRecursion (IsThere s) (plain_candidates p)
plain_stand s p = all_append (IsThere s) _ _ (all_filter_map (IsThere s) (unsent_from OfRecoverable) p.recoverable recoverable)
    (all_filter_map (IsThere s) (unsent_from OfExpress) p.express express)
  where
    recoverable : (o : Outgoing) → IfSome (unsent_from OfRecoverable o) (IsThere s)
    recoverable o = at (is_none o.mark)
      where
        at : (b : Bool) → IfSome (cond b (Some (record { origin = OfRecoverable; message = o.message; tx = None })) None) (IsThere s)
        at true = tt
        at false = tt

    express : (o : Outgoing) → IfSome (unsent_from OfExpress o) (IsThere s)
    express o = at (is_none o.mark)
      where
        at : (b : Bool) → IfSome (cond b (Some (record { origin = OfExpress; message = o.message; tx = None })) None) (IsThere s)
        at true = tt
        at false = tt

kept_itself : (ks : List Kept) → AllByRecursion (λ k. list_any (λ x. x.number == k.number) ks ≡ true) ks
kept_itself ks = any_itself (λ k x. x.number == k.number) ks (each ks)
  where
    same_number : (n : ℕ) → (n == n) ≡ true
    same_number n = grind (arith, nat_tests)

    each : (ks : List Kept) → AllByRecursion (λ k. (k.number == k.number) ≡ true) ks
    each [] = tt
    each (k ∷ ks) = (same_number k.number, each ks)

row_stands : (s : State) (peer n : ℕ) (row : Row) (cursor : ℕ) → slice_get s.outs n ≡ Some row → AllByRecursion (IsThere s) (waiting s peer (n, (row, cursor)))
row_stands s peer n row cursor e = at (row.peer == peer && is_open s.outs n)
  where
    at : (b : Bool) → AllByRecursion (IsThere s) (cond b (map (of_row n row) (unsent_of row cursor)) [])
    at true = all_mapped (IsThere s) (of_row n row) (unsent_of row cursor) (each (unsent_of row cursor)
        (fewer_all (λ k. list_any (λ x. x.number == k.number) row.kept ≡ true) (fewer_filter (λ k. nat_lt (max row.acked cursor) k.number) row.kept) (kept_itself row.kept)))
      where
        each : (ks : List Kept) → AllByRecursion (λ k. list_any (λ x. x.number == k.number) row.kept ≡ true) ks → AllByRecursion (λ k. IsThere s (of_row n row k)) ks
        each [] h = tt
        each (k ∷ ks) h = ((row, e, h.0), each ks h.1)
    at false = tt

rows_stand : (s : State) (peer n : ℕ) (before outs : List Row) (cursors : List ℕ) → n ≡ length before → s.outs ≡ before ++ outs
    → AllByRecursion (IsThere s) (flat_map (waiting s peer) (enumerate_from n (zip outs cursors)))
rows_stand s peer n before [] [] e whole = tt
rows_stand s peer n before [] (c ∷ cursors) e whole = tt
rows_stand s peer n before (row ∷ outs) [] e whole = tt
rows_stand s peer n before (row ∷ outs) (c ∷ cursors) e whole = all_append (IsThere s) (waiting s peer (n, (row, c))) _
    (row_stands s peer n row c (ap (λ k. slice_get s.outs k) e ∙ ap (λ rows. slice_get rows (length before)) whole ∙ get_middle before row outs))
    (rows_stand s peer (n + 1) (before ++ row ∷ []) outs cursors (let counted = length-append before (row ∷ []) in omega (arith, e, counted)) (whole ∙ push_append before row outs))

pub candidates_stand : (s : State) (rest : Rest) (now k : ℕ) (peer : Identity) (p : PlainLists) → AllByRecursion (IsThere s) (candidates s rest now k peer p)
candidates_stand s rest now k peer p = all_append (IsThere s) (acks s peer now s.next_express (rows_owing s rest peer.guid) ++ plain_candidates p) (row_candidates s rest k)
    (all_append (IsThere s) (acks s peer now s.next_express (rows_owing s rest peer.guid)) (plain_candidates p)
    (acks_stand s peer now s.next_express (rows_owing s rest peer.guid)) (plain_stand s p)) (rows_stand s k 0 [] s.outs rest.cursors refl refl)

-- What is chosen.

pub chosen_all : (P : Candidate → Type 0) (session : one_end.State) (count bytes : ℕ) (cs : List Candidate) → AllByRecursion P cs → AllByRecursion P (chosen session count bytes cs)
chosen_all P session count bytes [] h = tt
chosen_all P session count bytes (c ∷ cs) h = at (chosen_all P (session_after session c) (count + 1) (bytes + candidate_size c) cs h.1) (may_follow session count bytes c)
  where
    at : AllByRecursion P (chosen (session_after session c) (count + 1) (bytes + candidate_size c) cs) → (b : Bool) → AllByRecursion P (cond b (c ∷ chosen (session_after session c) (count + 1) (bytes + candidate_size c) cs) [])
    at more true = (h.0, more)
    at more false = tt

one_more : (count limit : ℕ) → nat_lt count limit ≡ true → count + 1 ≤ limit
one_more count limit e = grind (arith, nat_tests)

pub chosen_few : (session : one_end.State) (count bytes : ℕ) (cs : List Candidate) → count ≤ MAX_PACKETS → length (chosen session count bytes cs) + count ≤ MAX_PACKETS
chosen_few session count bytes [] le = omega (arith, le)
chosen_few session count bytes (c ∷ cs) le = at (λ room. chosen_few (session_after session c) (count + 1) (bytes + candidate_size c) cs room) (may_follow session count bytes c) refl
  where
    rest : List Candidate
    rest = chosen (session_after session c) (count + 1) (bytes + candidate_size c) cs

    at : (count + 1 ≤ MAX_PACKETS → length rest + (count + 1) ≤ MAX_PACKETS) → (b : Bool) → may_follow session count bytes c ≡ b
        → length (cond b (c ∷ chosen (session_after session c) (count + 1) (bytes + candidate_size c) cs) []) + count ≤ MAX_PACKETS
    at more true e = let room = one_more count MAX_PACKETS (split_and (may_send session) (nat_lt count MAX_PACKETS) (split_and (may_send session && nat_lt count MAX_PACKETS) (is_within count bytes c) e).0).1 in
        let few = more room in omega (arith, few)
    at more false e = omega (arith, le)

-- each may be sent after those before it
abbrev pub Go : one_end.State → List Candidate → Type 0
Go session [] = Unit {0}
Go session (c ∷ cs) = (may_send session ≡ true) × Go (session_after session c) cs

pub chosen_go : (session : one_end.State) (count bytes : ℕ) (cs : List Candidate) → Go session (chosen session count bytes cs)
chosen_go session count bytes [] = tt
chosen_go session count bytes (c ∷ cs) = at (chosen_go (session_after session c) (count + 1) (bytes + candidate_size c) cs) (may_follow session count bytes c) refl
  where
    at : Go (session_after session c) (chosen (session_after session c) (count + 1) (bytes + candidate_size c) cs) → (b : Bool) → may_follow session count bytes c ≡ b → Go session (cond b (c ∷ chosen (session_after session c) (count + 1) (bytes + candidate_size c) cs) [])
    at more true e = (
      (split_and (may_send session) (nat_lt count MAX_PACKETS) (split_and (may_send session && nat_lt count MAX_PACKETS) (is_within count bytes c) e).0).0,
      more,
    )
    at more false e = tt

-- Marks.

number_is : (a b : ℕ) → (a == b) ≡ true → a ≡ b
number_is a b e = grind (arith, nat_tests)

-- a number that goes of the row at an index is one that the row keeps
abbrev IsKeptOrNone : Row → ℕ → Type 0
IsKeptOrNone row x = (x ≡ 0) ⊎ (list_any (λ k. k.number == x) row.kept ≡ true)

numbers_kept : (s : State) (n : ℕ) (row : Row) (cs : List Candidate) → slice_get s.outs n ≡ Some row → AllByRecursion (IsThere s) cs
    → AllByRecursion (IsKeptOrNone row) (filter_map (λ c. number_of_row n c.origin) cs)
numbers_kept s n row [] e h = tt
numbers_kept s n row (c ∷ cs) e h = by (numbers_kept s n row cs e h.1) c.origin h.0
  where
    by : AllByRecursion (IsKeptOrNone row) (filter_map (λ c. number_of_row n c.origin) cs) → (from : Origin) → IsOffered s from → AllByRecursion (IsKeptOrNone row) (cons_option (number_of_row n from) (filter_map (λ c. number_of_row n c.origin) cs))
    by later (OfRow i number) o = at (i == n) refl
      where
        at : (b : Bool) → (i == n) ≡ b → AllByRecursion (IsKeptOrNone row) (cons_option (cond b (Some number) None) (filter_map (λ c. number_of_row n c.origin) cs))
        at true f = (
          inr (subst (λ r. list_any (λ k. k.number == number) r.kept ≡ true)
              (some_is o.0 row (sym o.1 ∙ ap (λ k. slice_get s.outs k) (number_is i n f) ∙ e)) o.2),
          later,
        )
        at false f = later
    by later x o = later

greatest_kept : (s : State) (n : ℕ) (row : Row) (cs : List Candidate) → slice_get s.outs n ≡ Some row → AllByRecursion (IsThere s) cs → nat_lt row.offered (greatest_sent cs n) ≡ true
    → list_any (λ k. k.number == greatest_sent cs n) row.kept ≡ true
greatest_kept s n row cs e h lt = by (fold_max (IsKeptOrNone row) 0 (filter_map (λ c. number_of_row n c.origin) cs) (inl refl) (numbers_kept s n row cs e h))
  where
    none : (g offered : ℕ) → g ≡ 0 → nat_lt offered g ≡ true → ⊥
    none g offered zero lt = grind (arith, nat_tests)

    by : IsKeptOrNone row (greatest_sent cs n) → list_any (λ k. k.number == greatest_sent cs n) row.kept ≡ true
    by (inl zero) = absurd (none (greatest_sent cs n) row.offered zero lt)
    by (inr kept) = kept

pairs_before : (before : List Row) (row : Row) (outs : List Row) → PairsByRecursion Precedes (before ++ row ∷ outs) → AllByRecursion (λ y. has_ordinal row.sequence.ordinal y ≡ false) before
pairs_before [] row outs h = tt
pairs_before (y ∷ before) row outs h = (other y.sequence.ordinal row.sequence.ordinal (among before h.0), pairs_before before row outs h.1)
  where
    other : (a b : ℕ) → a < b → (a == b) ≡ false
    other a b lt = grind (arith, nat_tests)

    among : (ys : List Row) → AllByRecursion (Precedes y) (ys ++ row ∷ outs) → Precedes y row
    among [] a = a.0
    among (z ∷ ys) a = among ys a.1

-- a row with another mark stands where it stood
pairs_offered : (number : ℕ) (before : List Row) (row : Row) (outs : List Row) → PairsByRecursion Precedes (before ++ row ∷ outs)
    → PairsByRecursion Precedes (before ++ with_offered number row ∷ outs)
pairs_offered number [] row outs h = h
pairs_offered number (y ∷ before) row outs h = (among before h.0, pairs_offered number before row outs h.1)
  where
    among : (ys : List Row) → AllByRecursion (Precedes y) (ys ++ row ∷ outs) → AllByRecursion (Precedes y) (ys ++ with_offered number row ∷ outs)
    among [] a = a
    among (z ∷ ys) a = (a.0, among ys a.1)

module _ (s : State) (cs : List Candidate) (stand : AllByRecursion (IsThere s) cs) where
  marks_go : (t : State) (raised before outs : List Row) (n : ℕ) → n ≡ length before → s.outs ≡ before ++ outs → t.outs ≡ raised ++ outs
      → PairsByRecursion Precedes (raised ++ outs) → offered_fits t (filter_map (mark_for cs) (enumerate_from n outs)) ≡ true
  marks_go t raised before [] n e whole there rise = refl
  marks_go t raised before (row ∷ outs) n e whole there rise = at (nat_lt row.offered number) refl
      (marks_go t (raised ++ row ∷ []) (before ++ row ∷ []) outs (n + 1) counted (whole ∙ push_append before row outs) (there ∙ push_append raised row outs)
      (subst (PairsByRecursion Precedes) (push_append raised row outs) rise))
      (marks_go (mark_raised t mark) (raised ++ with_offered number row ∷ []) (before ++ row ∷ []) outs (n + 1) counted (whole ∙ push_append before row outs) after
      (subst (PairsByRecursion Precedes) (push_append raised (with_offered number row) outs) (pairs_offered number raised row outs rise)))
    where
      number : ℕ
      number = greatest_sent cs n

      mark : Mark
      mark = record { ordinal = row.sequence.ordinal; number = number }

      others : AllByRecursion (λ y. has_ordinal row.sequence.ordinal y ≡ false) raised
      others = pairs_before raised row outs rise

      same_ordinal : (k : ℕ) → (k == k) ≡ true
      same_ordinal k = grind (arith, nat_tests)

      found : row_of_ordinal t row.sequence.ordinal ≡ Some row
      found = ap (λ rows. first_where (has_ordinal row.sequence.ordinal) rows) there ∙ first_behind (has_ordinal row.sequence.ordinal) raised row outs others (same_ordinal row.sequence.ordinal)

      counted : n + 1 ≡ length (before ++ row ∷ [])
      counted = let more = length-append before (row ∷ []) in omega (arith, e, more)

      here : slice_get s.outs n ≡ Some row
      here = ap (λ k. slice_get s.outs k) e ∙ ap (λ rows. slice_get rows (length before)) whole ∙ get_middle before row outs

      after : (mark_raised t mark).outs ≡ (raised ++ with_offered number row ∷ []) ++ outs
      after = ap (λ rows. with_first_changed (with_offered number) (has_ordinal row.sequence.ordinal) rows) there
          ∙ changed_behind (with_offered number) (has_ordinal row.sequence.ordinal) raised row outs others (same_ordinal row.sequence.ordinal)
          ∙ push_append raised (with_offered number row) outs

      and : (a b : Bool) → a ≡ true → b ≡ true → (a && b) ≡ true
      and a b h k = ap (λ x. x && b) h ∙ k

      later : List Mark
      later = filter_map (mark_for cs) (enumerate_from (n + 1) outs)

      at : (b : Bool) → nat_lt row.offered number ≡ b → offered_fits t later ≡ true → offered_fits (mark_raised t mark) later ≡ true
          → offered_fits t (cons_option (cond b (Some mark) None) later) ≡ true
      at false f left raised = left
      at true f left raised = and (option_map_or (raises_offer mark) (row_of_ordinal t row.sequence.ordinal) false) _
          (ap (λ o. option_map_or (raises_offer mark) o false) found ∙ and (nat_lt row.offered number) (list_any (λ k. k.number == number) row.kept) f (greatest_kept s n row cs here stand f)) raised

  pub marks_fit : PairsByRecursion Precedes s.outs → offered_fits s (marks_for s cs) ≡ true
  marks_fit rise = marks_go s [] [] s.outs 0 refl refl refl rise

-- How many marks there are: no more than packets.

-- a packet carries a number of a row from an index on
abbrev from_row : ℕ → Origin → Bool
from_row n (OfRow index number) = nat_le n index
from_row n _ = false

-- how many do
abbrev behind : ℕ → List Candidate → ℕ
behind n [] = 0
behind n (c ∷ cs) = cond (from_row n c.origin) 1 0 + behind n cs

split_at : (n i : ℕ) → cond (nat_le (n + 1) i) 1 0 + cond (i == n) 1 0 ≤ cond (nat_le n i) 1 0
split_at n i = by (nat_le (n + 1) i) refl (i == n) refl (nat_le n i) refl
  where
    apart : (n i : ℕ) → nat_le (n + 1) i ≡ true → (i == n) ≡ true → ⊥
    apart n i a b = grind (arith, nat_tests)

    over : (n i : ℕ) → nat_le (n + 1) i ≡ true → nat_le n i ≡ false → ⊥
    over n i a b = grind (arith, nat_tests)

    equal : (n i : ℕ) → (i == n) ≡ true → nat_le n i ≡ false → ⊥
    equal n i a b = grind (arith, nat_tests)

    by : (a : Bool) → nat_le (n + 1) i ≡ a → (b : Bool) → (i == n) ≡ b → (c : Bool) → nat_le n i ≡ c → cond a 1 0 + cond b 1 0 ≤ cond c 1 0
    by true e true f c g = absurd (apart n i e f)
    by true e false f true g = omega arith
    by true e false f false g = absurd (over n i e g)
    by false e true f true g = omega arith
    by false e true f false g = absurd (equal n i f g)
    by false e false f true g = omega arith
    by false e false f false g = omega arith

-- how many packets carry a number of the row at an index
abbrev of_rows : ℕ → List Candidate → ℕ
of_rows n cs = length (filter_map (λ c. number_of_row n c.origin) cs)

counted_apart : (n : ℕ) (cs : List Candidate) → behind (n + 1) cs + of_rows n cs ≤ behind n cs
counted_apart n [] = omega arith
counted_apart n (c ∷ cs) = by (counted_apart n cs) c.origin
  where
    numbers : List ℕ
    numbers = filter_map (λ c. number_of_row n c.origin) cs

    one : (b : Bool) (number : ℕ) → length (cons_option (cond b (Some number) None) numbers) ≡ cond b 1 0 + length numbers
    one true number = omega arith
    one false number = omega arith

    by : behind (n + 1) cs + of_rows n cs ≤ behind n cs → (from : Origin) → cond (from_row (n + 1) from) 1 0 + behind (n + 1) cs + length (cons_option (number_of_row n from) numbers) ≤ cond (from_row n from) 1 0 + behind n cs
    by later (OfRow i number) = let parts = split_at n i in let more = one (i == n) number in omega (arith, later, parts, more)
    by later x = omega (arith, later)

none_sent : (offered : ℕ) (numbers : List ℕ) → nat_lt offered (fold max 0 numbers) ≡ true → 1 ≤ length numbers
none_sent offered [] e = absurd (none offered e)
  where
    none : (n : ℕ) → nat_lt n 0 ≡ true → ⊥
    none n e = grind (arith, nat_tests)
none_sent offered (x ∷ numbers) e = omega arith

marks_behind : (cs : List Candidate) (n : ℕ) (outs : List Row) → length (filter_map (mark_for cs) (enumerate_from n outs)) ≤ behind n cs
marks_behind cs n [] = omega arith
marks_behind cs n (row ∷ outs) = at (marks_behind cs (n + 1) outs) (nat_lt row.offered (greatest_sent cs n)) refl
  where
    at : length (filter_map (mark_for cs) (enumerate_from (n + 1) outs)) ≤ behind (n + 1) cs → (b : Bool) → nat_lt row.offered (greatest_sent cs n) ≡ b
        → length (cons_option (cond b (Some (record { ordinal = row.sequence.ordinal; number = greatest_sent cs n })) None) (filter_map (mark_for cs) (enumerate_from (n + 1) outs))) ≤ behind n cs
    at rest true e = let some = none_sent row.offered (filter_map (λ c. number_of_row n c.origin) cs) e in let apart = counted_apart n cs in omega (arith, rest, some, apart)
    at rest false e = let apart = counted_apart n cs in omega (arith, rest, apart)

all_behind : (n : ℕ) (cs : List Candidate) → behind n cs ≤ length cs
all_behind n [] = omega arith
all_behind n (c ∷ cs) = by (from_row n c.origin) (all_behind n cs)
  where
    by : (b : Bool) → behind n cs ≤ length cs → cond b 1 0 + behind n cs ≤ suc (length cs)
    by true le = omega (arith, le)
    by false le = omega (arith, le)

pub marks_few : (s : State) (cs : List Candidate) → length (marks_for s cs) ≤ length cs
marks_few s cs = let some = marks_behind cs 0 s.outs in let most = all_behind 0 cs in omega (arith, some, most)
