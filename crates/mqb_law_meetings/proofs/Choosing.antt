-- Which packet of an end that may send goes: the acknowledgement of a row, the first plain message, or the first number that waits.
use Rattle.std.proofs.Common.{◌≡◌, ℕ, suc, ◌+◌, ◌≤◌, ◌==◌, ◌&&◌, ◌||◌, Bool, true, false, cond, max, nat_lt, ◌++◌, List, [], ◌∷◌, Some, refl, sym, ap, subst, ◌∙◌, arith}
use Rattle.std.specs.List.{enumerate_from, flat_map, list_any}
use Rattle.std.specs.Prelude.{filter, length, map, slice_get, zip}
use Rattle.std.proofs.Math.Seq.{take-append_seam}
use Rattle.std.proofs.lemmas.Bool.{and_from, and_parts, true≢false}
use Rattle.std.proofs.lemmas.List.{append_assoc, length-append}
use Rattle.mqb_law_progress.proofs.Lists.{member_at, none_behind, none_narrower}
use Rattle.mqb_model.specs.Lists.{first_where}
use Rattle.mqb_model.specs.calls.pump.Candidates.{Candidate, of_row, row_candidates, unsent_of, waiting}
use Rattle.mqb_model.specs.managers.Manager.{Rest}
use Rattle.mqb_model.specs.managers.Readers.{awaits}
use Rattle.mqb_model.specs.state.State.{State}
use Rattle.mqb_orders.specs.Rows.{Row, has_unacknowledged, is_open, leads_to}
use Rattle.mqb_orders.specs.declared.kept.Kept.{Kept}
use Rattle.mqb_law_meetings.proofs.Firsts.{first_cons}
use Rattle.mqb_law_meetings.proofs.Lists.{equal_numbers}
use Rattle.mqb_law_meetings.proofs.Members.{head_of, none_filtered}
use Rattle.mqb_law_meetings.proofs.Turns.{IsSettled, first_unacked}

-- The first row that waits is open.

module _ (s : State) (k : ℕ) where
  open_there : (pre : List Row) (row : Row) (rest : List Row) → s.outs ≡ pre ++ row ∷ rest → list_any (awaits k) pre ≡ false → row.peer ≡ k
      → is_open s.outs (length pre) ≡ true
  open_there pre row rest are none peer = subst (λ (rows : List Row). is_open rows (length pre) ≡ true) (sym are) there
    where
      narrower : (r : Row) → (leads_to row.peer row.destination r && has_unacknowledged r) ≡ true → awaits k r ≡ true
      narrower r h =
          let parts = and_parts (leads_to row.peer row.destination r) (has_unacknowledged r) h in
          let led = and_parts _ _ parts.0 in
          and_from (r.peer == k) (has_unacknowledged r) (subst (λ (n : ℕ). (r.peer == n) ≡ true) peer led.0) parts.1

      blocked : list_any (λ (r : Row). leads_to row.peer row.destination r && has_unacknowledged r) pre ≡ false
      blocked = none_narrower (λ (r : Row). leads_to row.peer row.destination r && has_unacknowledged r) (awaits k) narrower pre none

      there : is_open (pre ++ row ∷ rest) (length pre) ≡ true
      there = rw (member_at pre row rest, take-append_seam pre (row ∷ rest), blocked) refl

  -- what is sent of a row of which nothing was but what is acknowledged
  sent_of : (row : Row) (c : ℕ) → c ≤ row.acked → unsent_of row c ≡ filter (λ x. nat_lt row.acked x.number) row.kept
  sent_of row c within = ap (λ n. filter (λ (x : Kept). nat_lt n x.number) row.kept) (let e : max row.acked c ≡ row.acked = omega (arith, within) in e)

  none_here : (i : ℕ) (row : Row) (c : ℕ) → awaits k row ≡ false → (row.peer ≡ k → c ≤ row.acked) → waiting s k (i, (row, c)) ≡ []
  none_here i row c none within = at (row.peer == k) refl (is_open s.outs i) none
    where
      at : (p : Bool) → (row.peer == k) ≡ p → (o : Bool) → (p && has_unacknowledged row) ≡ false → cond (p && o) (map (of_row i row) (unsent_of row c)) [] ≡ []
      at true is true e = ap (map (of_row i row)) (sent_of row c (within (equal_numbers row.peer k is)) ∙ none_filtered (λ x. nat_lt row.acked x.number) row.kept e)
      at true is false e = refl
      at false is o e = refl

  -- the row that waits, its first number, and what goes of it
  pub record Waits (given : List (ℕ × (Row × ℕ))) : Type 0 where
    pub index : ℕ
    pub row : Row
    pub number : Kept
    pub there : slice_get s.outs index ≡ Some row
    pub peer : row.peer ≡ k
    pub waits : first_where (awaits k) s.outs ≡ Some row
    pub first : first_unacked row ≡ Some number
    pub more : List Candidate
    pub are : flat_map (waiting s k) given ≡ of_row index row number ∷ more

  first_behind : (pre : List Row) (row : Row) (rest : List Row) → list_any (awaits k) pre ≡ false → awaits k row ≡ true → first_where (awaits k) (pre ++ row ∷ rest) ≡ Some row
  first_behind [] row rest none is = first_cons (awaits k) row rest ∙ ap (λ b. cond b (Some row) (first_where (awaits k) rest)) is
  first_behind (r ∷ pre) row rest none is = first_cons (awaits k) r (pre ++ row ∷ rest) ∙ at (awaits k r) none (first_behind pre row rest)
    where
      at : (b : Bool) → (b || list_any (awaits k) pre) ≡ false → (list_any (awaits k) pre ≡ false → awaits k row ≡ true → first_where (awaits k) (pre ++ row ∷ rest) ≡ Some row)
          → cond b (Some r) (first_where (awaits k) (pre ++ row ∷ rest)) ≡ Some row
      at true none rest = absurd (true≢false none)
      at false none rest = rest none is

  -- rows of which nothing was sent but what is acknowledged
  abbrev Settles : List Row → List ℕ → Type 0
  Settles (row ∷ rows) (c ∷ cs) = (row.peer ≡ k → c ≤ row.acked) × Settles rows cs
  Settles rows cs = Unit {0}

  settles_of : (rows : List Row) (cs : List ℕ) → IsSettled k rows cs → Settles rows cs
  settles_of [] cs f = tt
  settles_of (row ∷ rows) [] f = tt
  settles_of (row ∷ rows) (c ∷ cs) f = (λ e. f 0 row c refl refl e, settles_of rows cs (λ i r d there got. f (suc i) r d there got))

  scan : (pre rows : List Row) (cs : List ℕ) → s.outs ≡ pre ++ rows → list_any (awaits k) pre ≡ false → length cs ≡ length rows → Settles rows cs → list_any (awaits k) rows ≡ true
      → Waits (enumerate_from (length pre) (zip rows cs))
  scan pre [] cs are none count settled some = absurd (true≢false (sym some))
  scan pre (row ∷ rest) [] are none count settled some = absurd (let no : ⊥ = omega (arith, count) in no)
  scan pre (row ∷ rest) (c ∷ cs) are none count settled some = at (awaits k row) refl some
      (scan (pre ++ row ∷ []) rest cs (are ∙ sym (append_assoc pre (row ∷ []) rest)))
    where
      behind : List (ℕ × (Row × ℕ))
      behind = enumerate_from (length pre + 1) (zip rest cs)

      here : awaits k row ≡ true → Waits (enumerate_from (length pre) (zip (row ∷ rest) (c ∷ cs)))
      here is =
          let parts = and_parts (row.peer == k) (has_unacknowledged row) is in
          let peer : row.peer ≡ k = equal_numbers row.peer k parts.0 in
          let h = head_of (λ (x : Kept). nat_lt row.acked x.number) row.kept parts.1 in
          let open_ = open_there pre row rest are none peer in
          record {
            index = length pre;
            row = row;
            number = h.member;
            there = ap (λ rows. slice_get rows (length pre)) are ∙ member_at pre row rest;
            peer = peer;
            waits = ap (first_where (awaits k)) are ∙ first_behind pre row rest none is;
            first = h.found;
            more = map (of_row (length pre) row) h.rest ++ flat_map (waiting s k) behind;
            are = ap (λ b. cond (b && is_open s.outs (length pre)) (map (of_row (length pre) row) (unsent_of row c)) [] ++ flat_map (waiting s k) behind) parts.0
                ∙ ap (λ b. cond b (map (of_row (length pre) row) (unsent_of row c)) [] ++ flat_map (waiting s k) behind) open_
                ∙ ap (λ ks. map (of_row (length pre) row) ks ++ flat_map (waiting s k) behind) (sent_of row c (settled.0 peer) ∙ h.kept);
          }

      at : (b : Bool) → awaits k row ≡ b → (b || list_any (awaits k) rest) ≡ true
          → (list_any (awaits k) (pre ++ row ∷ []) ≡ false → length cs ≡ length rest → Settles rest cs → list_any (awaits k) rest ≡ true
          → Waits (enumerate_from (length (pre ++ row ∷ [])) (zip rest cs)))
          → Waits (enumerate_from (length pre) (zip (row ∷ rest) (c ∷ cs)))
      at true is some later = here is
      at false is some later =
          let w = later (none_behind (awaits k) pre row none is) (let e : length cs ≡ length rest = omega (arith, count) in e) settled.1 some in record {
            index = w.index;
            row = w.row;
            number = w.number;
            there = w.there;
            peer = w.peer;
            waits = w.waits;
            first = w.first;
            more = w.more;
            are = ap (λ xs. xs ++ flat_map (waiting s k) behind) (none_here (length pre) row c is settled.0)
                ∙ ap (λ n. flat_map (waiting s k) (enumerate_from n (zip rest cs))) (sym (length-append pre (row ∷ []))) ∙ w.are;
          }

  none_wait : (rows : List Row) (cs : List ℕ) (n : ℕ) → Settles rows cs → list_any (awaits k) rows ≡ false → flat_map (waiting s k) (enumerate_from n (zip rows cs)) ≡ []
  none_wait [] cs n settled none = refl
  none_wait (row ∷ rows) [] n settled none = refl
  none_wait (row ∷ rows) (c ∷ cs) n settled none = at (awaits k row) refl none (none_wait rows cs (n + 1) settled.1)
    where
      at : (b : Bool) → awaits k row ≡ b → (b || list_any (awaits k) rows) ≡ false → (list_any (awaits k) rows ≡ false → flat_map (waiting s k) (enumerate_from (n + 1) (zip rows cs)) ≡ [])
          → waiting s k (n, (row, c)) ++ flat_map (waiting s k) (enumerate_from (n + 1) (zip rows cs)) ≡ []
      at true is e rest = absurd (true≢false e)
      at false is e rest = ap (λ xs. xs ++ flat_map (waiting s k) (enumerate_from (n + 1) (zip rows cs))) (none_here n row c is settled.0) ∙ rest e

  pub some_rows : (rest : Rest) → length rest.cursors ≡ length s.outs → IsSettled k s.outs rest.cursors → list_any (awaits k) s.outs ≡ true
      → Waits (enumerate_from 0 (zip s.outs rest.cursors))
  some_rows rest count settled some = scan [] s.outs rest.cursors refl refl count (settles_of s.outs rest.cursors settled) some

  pub no_rows : (rest : Rest) → IsSettled k s.outs rest.cursors → list_any (awaits k) s.outs ≡ false → row_candidates s rest k ≡ []
  no_rows rest settled none = none_wait s.outs rest.cursors 0 (settles_of s.outs rest.cursors settled) none
