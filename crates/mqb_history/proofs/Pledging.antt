-- The record of marks at a source: a stream world goes on by each number that is offered in the channel.
use Rattle.std.proofs.Common.{refl, ap, sym, subst, ◌∙◌, arith, inl, inr}
use Rattle.std.proofs.lemmas.Bool.{and_from}
use Rattle.std.proofs.lemmas.Bool.Decides.{nat_tests}
use Rattle.std.specs.List.{AllByRecursion, list_any}
use Rattle.std.specs.Option.{option_map_or}
use Rattle.std.specs.Prelude.{[], ◌&&◌, ◌<◌, ◌==◌, ◌∷◌, ◌≡◌, ◌≤◌, ◌⊎◌, Bool, List, None, Some, cond, false, fold, nat_le, nat_lt, not, reverse, slice_get, suc, take, true, zero, ℕ}
use Rattle.mqb_base.specs.Same.{same_name}
use Rattle.mqb_base.specs.Sequences.{earlier}
use Rattle.mqb_base.specs.declared.ids.SequenceId.{SequenceId}
use Rattle.mqb_base.specs.declared.ledger.Line.{Line}
use Rattle.mqb_base.specs.declared.ledger.Line.TheVariants as line
use Rattle.mqb_base.specs.declared.ledger.Stream.{Stream}
use Rattle.mqb_base.specs.declared.queue_names.QueueName.{QueueName}
use Rattle.mqb_entries.specs.declared.members.Mark.{Mark}
use Rattle.mqb_exactly_once.proofs.Members.{In_from_committed, any_from_In, kept_is_committed, kept_is_not_expired}
use Rattle.mqb_exactly_once.proofs.Numbers.{kept_within}
use Rattle.mqb_exactly_once.proofs.Positions.{earlier_tells, same_position_refl}
use Rattle.mqb_exactly_once.specs.Steps.{EarlierAcknowledged, Offer, happens}
use Rattle.mqb_exactly_once.specs.Words.{In, count, is_committed, is_expired, kept, same_position}
use Rattle.mqb_exactly_once.specs.World.{Channel, Commitment, Expiry, Position, StreamWorld}
use Rattle.mqb_model.specs.Lists.{with_first_changed}
use Rattle.mqb_model.specs.records.Offered.{mark_raised, with_offered}
use Rattle.mqb_model.specs.state.Rows.{has_ordinal}
use Rattle.mqb_model.specs.state.State.{State}
use Rattle.mqb_network.specs.Courses.{Written}
use Rattle.mqb_network.specs.Laws.{lines_written}
use Rattle.mqb_orders.specs.Rows.{Row, has_unacknowledged, is_open, leads_to}
use Rattle.mqb_orders.specs.declared.kept.Kept.{Kept}
use Rattle.mqb_history.specs.Committed.{commitments}
use Rattle.mqb_history.specs.Expired.{expiries_told}
use Rattle.mqb_history.specs.Shown.{expiries_to, expiry_to}
use Rattle.mqb_history.proofs.Between.{in_any}
use Rattle.mqb_history.proofs.Committing.{OrdinalsRise, all_in, differ_by_ordinal, first_changed, is_first_changed, itself, kept_at}
use Rattle.mqb_history.proofs.Due.{AreDue, IsDue, one_row}
use Rattle.mqb_history.proofs.Holding.{HasExpired, IsWhole, Keeps}
use Rattle.mqb_history.proofs.Lists.{get_in, join_and, not_true, same_number, some_is, true_not_false}
use Rattle.mqb_history.proofs.Marked.{IsMarkOf}
use Rattle.mqb_history.proofs.Marking.{MarksRise}
use Rattle.mqb_history.proofs.Names.{same_name_is, same_name_refl}
use Rattle.mqb_history.proofs.Numbering.{changed_all}
use Rattle.mqb_history.proofs.Reaching.{chosen_in, in_reverse, kept_invariant, more}
use Rattle.mqb_history.proofs.Replacing.{Replaced, ordinal_replaced}
use Rattle.mqb_history.proofs.Rows.{HasRow}
use Rattle.mqb_history.proofs.Sourcing.{IsRowShown, IsSourced, RowSteps, other_row, own_row, position_at}
use Rattle.mqb_history.proofs.Sparing.{expiry_line}

-- what a row that is shown keeps is kept
pub row_kept : (w : StreamWorld) (row : Row) (k : Kept) → IsRowShown w row → In k row.kept → kept w (position_at row k) ≡ true
row_kept w row k h inside = let g = h.kept k inside in and_from (is_committed w.committed (position_at row k)) (not (is_expired w.expired (position_at row k)))
    (any_from_In (λ (x : Commitment). same_position x.position (position_at row k)) (kept_at row k) w.committed g.0 (same_position_refl (position_at row k))) (ap not g.1)

-- a change of one row that leaves its ordinal
pub rise_first : (change : Row → Row) → ((r : Row) → (change r).sequence.ordinal ≡ r.sequence.ordinal) → (test : Row → Bool) (rows : List Row) → OrdinalsRise rows → OrdinalsRise (first_changed change test rows)
rise_first change same test [] h = tt
rise_first change same test (row ∷ rows) h = at (test row) (rise_first change same test rows h.1)
  where
    at : (b : Bool) → OrdinalsRise (first_changed change test rows) → OrdinalsRise (cond b (change row ∷ rows) (row ∷ first_changed change test rows))
    at true rest = (subst (λ n. AllByRecursion (λ (b : Row). n < b.sequence.ordinal) rows) (sym (same row)) h.0, h.1)
    at false rest = (changed_all (λ (b : Row). row.sequence.ordinal < b.sequence.ordinal) change test rows (λ b less. let e = same b in omega (arith, less, e)) h.0, rest)

-- A number is offered.

offer_steps : (w : StreamWorld) (row : Row) (n : ℕ) → RowSteps w (happens w (Offer (record { sequence = row.sequence; number = n }))) row (with_offered n row)
offer_steps w row n = record {
  others = λ r apart h. record {
    counted = h.counted;
    offered = ap (λ b. cond b n (w.offered r.sequence)) (differ_by_ordinal row.sequence r.sequence (λ same. apart (sym same))) ∙ h.offered;
    acked = h.acked;
    kept = h.kept;
  };
  row = λ h. record {
    counted = h.counted;
    offered = ap (λ b. cond b n (w.offered row.sequence)) (itself row.sequence);
    acked = h.acked;
    kept = h.kept;
  };
  committed = λ x i. inl i;
}

-- A mark of a row: it rises to a number that is kept, and in the channel the earlier sequences are acknowledged.
record IsMarkAt (d : QueueName) (outs : List Row) (w : StreamWorld) (mark : Mark) : Type 0 where
  pub row : Row
  pub there : In row outs
  pub ordinal : mark.ordinal ≡ row.sequence.ordinal
  pub rises : row.offered < mark.number
  pub kept : Kept
  pub inside : In kept row.kept
  pub numbered : mark.number ≡ kept.number
  pub begun : row.destination ≡ d → EarlierAcknowledged w row.sequence

module _ (d : QueueName) (peer : ℕ) (c : Channel) (v : StreamWorld) (cs : List Commitment) (ls : List Line) where
  record IsRaised (outs : List Row) (w : StreamWorld) (mark : Mark) : Type 0 where
    pub sourced : IsSourced d peer c v (with_first_changed (with_offered mark.number) (has_ordinal mark.ordinal) outs) cs ls
    pub keeps : (b : Mark) → mark.ordinal < b.ordinal → IsMarkAt d outs w b → IsMarkAt d (with_first_changed (with_offered mark.number) (has_ordinal mark.ordinal) outs) sourced.world b

  raised_at : (outs : List Row) (mark : Mark) (h : IsSourced d peer c v outs cs ls) (g : IsMarkAt d outs h.world mark) → (news : List Row) → Replaced outs news g.row (with_offered mark.number g.row)
      → (z : StreamWorld) → ((q : SequenceId) → EarlierAcknowledged h.world q → EarlierAcknowledged z q) → (b : Mark) → mark.ordinal < b.ordinal → IsMarkAt d outs h.world b → IsMarkAt d news z b
  raised_at outs mark h g news r z earlier_too b less k = record {
    row = k.row;
    there = at (r.back k.row k.there);
    ordinal = k.ordinal;
    rises = k.rises;
    kept = k.kept;
    inside = k.inside;
    numbered = k.numbered;
    begun = λ e. earlier_too k.row.sequence (k.begun e);
  }
    where
      at : (g.row ≡ k.row) ⊎ In k.row news → In k.row news
      at (inl e) = let own = ap (λ (x : Row). x.sequence.ordinal) e in let p = g.ordinal in let q = k.ordinal in absurd (omega (arith, own, p, q, less))
      at (inr i) = i

  raise_one : (outs : List Row) (mark : Mark) → OrdinalsRise outs → (h : IsSourced d peer c v outs cs ls) → IsMarkAt d outs h.world mark → IsRaised outs h.world mark
  raise_one outs mark rise h g = at (same_name g.row.destination d) refl
    where
      news : List Row
      news = with_first_changed (with_offered mark.number) (has_ordinal mark.ordinal) outs

      r : Replaced outs news g.row (with_offered mark.number g.row)
      r = subst (λ n. Replaced outs (with_first_changed (with_offered mark.number) (has_ordinal n) outs) g.row (with_offered mark.number g.row)) (sym g.ordinal)
          (ordinal_replaced (with_offered mark.number) outs g.row rise g.there)

      p : Position
      p = record { sequence = g.row.sequence; number = mark.number }

      own : g.row.destination ≡ d → IsRaised outs h.world mark
      own e = record {
        sourced = record {
          world = happens h.world (Offer p);
          reached = more c h.world (Offer p) h.reached (kept_now, less, g.begun e);
          same = record { channel = h.same.channel; decided = h.same.decided; fates = h.same.fates; transfers = h.same.transfers; order_acks = h.same.order_acks; final_acks = h.same.final_acks; connection = h.same.connection; connected = h.same.connected };
          rows = own_row d peer outs news g.row (with_offered mark.number g.row) h.world (happens h.world (Offer p)) g.there e r refl refl refl (offer_steps h.world g.row mark.number) h.rows;
          committed = h.committed;
          expired = h.expired;
        };
        keeps = raised_at outs mark h g news r (happens h.world (Offer p)) (λ q k. k);
      }
        where
          shown : IsRowShown h.world g.row
          shown = h.rows.rows g.row g.there e

          kept_now : kept h.world p ≡ true
          kept_now = subst (λ n. kept h.world (record { sequence = g.row.sequence; number = n }) ≡ true) (sym g.numbered) (row_kept h.world g.row g.kept shown g.inside)

          less : h.world.offered g.row.sequence < mark.number
          less = let e = shown.offered in let f = g.rises in omega (arith, e, f)

      apart : (g.row.destination ≡ d → ⊥) → IsRaised outs h.world mark
      apart none = record {
        sourced = record {
          world = h.world;
          reached = h.reached;
          same = h.same;
          rows = other_row d peer outs news g.row (with_offered mark.number g.row) h.world r refl none h.rows;
          committed = h.committed;
          expired = h.expired;
        };
        keeps = raised_at outs mark h g news r h.world (λ q k. k);
      }

      at : (b : Bool) → same_name g.row.destination d ≡ b → IsRaised outs h.world mark
      at true e = own (same_name_is g.row.destination d e)
      at false e = apart (λ f. true_not_false (same_name g.row.destination d) (subst (λ n. same_name n d ≡ true) (sym f) (same_name_refl d)) e)

  marks_sourced : (s : State) (marks : List Mark) → OrdinalsRise s.outs → MarksRise marks → (h : IsSourced d peer c v s.outs cs ls) → AllByRecursion (IsMarkAt d s.outs h.world) marks
      → IsSourced d peer c v (fold mark_raised s marks).outs cs ls
  marks_sourced s [] rise rises h g = h
  marks_sourced s (mark ∷ marks) rise rises h g = let one = raise_one s.outs mark rise h g.0 in
      marks_sourced (mark_raised s mark) marks
      (subst OrdinalsRise (sym (is_first_changed (with_offered mark.number) (has_ordinal mark.ordinal) s.outs)) (rise_first (with_offered mark.number) (λ r. refl) (has_ordinal mark.ordinal) s.outs rise))
      rises.1 one.sourced (all marks rises.0 g.1)
    where
      all : (bs : List Mark) → AllByRecursion (λ b. mark.ordinal < b.ordinal) bs → AllByRecursion (IsMarkAt d s.outs h.world) bs
          → AllByRecursion (IsMarkAt d (mark_raised s mark).outs (raise_one s.outs mark rise h g.0).sourced.world) bs
      all [] less k = tt
      all (b ∷ bs) less k = ((raise_one s.outs mark rise h g.0).keeps b less.0 k.0, all bs less.1 k.1)

-- What an open row tells.

before_in : (rows : List Row) (index : ℕ) (row r : Row) → OrdinalsRise rows → slice_get rows index ≡ Some row → In r rows → r.sequence.ordinal < row.sequence.ordinal → In r (take index rows)
before_in [] index row r rise e i less = absurd i
before_in (x ∷ rows) zero row r rise e (inl f) less = let own = ap (λ (y : Row). y.sequence.ordinal) (sym f ∙ some_is x row e) in absurd (omega (arith, less, own))
before_in (x ∷ rows) zero row r rise e (inr i) less = let low = all_in (λ y. x.sequence.ordinal < y.sequence.ordinal) rows r rise.0 i in
    let own = ap (λ (y : Row). y.sequence.ordinal) (some_is x row e) in absurd (omega (arith, less, low, own))
before_in (x ∷ rows) (suc k) row r rise e (inl f) less = inl f
before_in (x ∷ rows) (suc k) row r rise e (inr i) less = inr (before_in rows k row r rise.1 e i less)

-- what expired in a sequence of the channel is an expiry of its world
pub expired_shown : (d : QueueName) (s : State) (ws : List Written) (row : Row) (p : Position) → AreDue s ws → In row s.outs → row.sequence ≡ p.sequence → row.destination ≡ d
    → In p (expiries_told (lines_written ws)) → is_expired (reverse (expiries_to d (lines_written ws))) p ≡ true
expired_shown d s ws row p due there same leads i = any_from_In (λ (e : Expiry). same_position e.position p) x (reverse (expiries_to d (lines_written ws)))
    (in_reverse (expiries_to d (lines_written ws)) x (chosen_in (expiry_to d) (lines_written ws) l x g.4 told)) (same_position_refl p)
  where
    g : (stream : Stream) × (number : ℕ) × (id : _) × (moment : ℕ) × In (line.Expired stream number id moment) (lines_written ws) × (record { sequence = stream.sequence; number = number } ≡ p)
    g = expiry_line (lines_written ws) p i

    l : Line
    l = line.Expired g.0 g.1 g.2 g.3

    x : Expiry
    x = record { position = p; moment = g.3 }

    w : IsDue s.identity.guid (commitments ws) l
    w = all_in (IsDue s.identity.guid (commitments ws)) (lines_written ws) l due.1 g.4

    place : HasRow s.outs w.commitment
    place = all_in (HasRow s.outs) (commitments ws) w.commitment due.0.1 w.there

    ordinal : place.0.sequence.ordinal ≡ row.sequence.ordinal
    ordinal = ap (λ (q : SequenceId). q.ordinal) (place.2 ∙ ap (λ j. j.stream.sequence) w.joined ∙ ap (λ (y : Position). y.sequence) g.5 ∙ sym same)

    destination : g.0.destination ≡ d
    destination = sym (ap (λ j. j.stream.destination) w.joined) ∙ sym place.3 ∙ ap (λ (y : Row). y.destination) (one_row s.outs place.0 row due.0.0.0.rise place.1 there ordinal) ∙ leads

    told : expiry_to d l ≡ Some x
    told = ap (λ b. cond b (Some (record { position = record { sequence = g.0.sequence; number = g.1 }; moment = g.3 })) None)
        (subst (λ n. same_name n d ≡ true) (sym destination) (same_name_refl d)) ∙ ap (λ y. Some (record { position = y; moment = g.3 })) g.5

module _ (d : QueueName) (peer : ℕ) (c : Channel) (v : StreamWorld) (s : State) (ws : List Written) (due : AreDue s ws) (h : IsSourced d peer c v s.outs (commitments ws) (lines_written ws)) where
  abbrev w : StreamWorld
  w = h.world

  -- of a number that is kept above the acknowledged one the row has the message
  pub kept_in_row : (r : Row) (p : Position) → In r s.outs → r.destination ≡ d → r.sequence ≡ p.sequence → kept w p ≡ true → r.acked < p.number → Keeps r p.number
  kept_in_row r p there leads same is_kept above = at ((all_in (IsWhole (lines_written ws)) s.outs r due.0.0.1 there) p.number above within)
    where
      shown : IsRowShown w r
      shown = h.rows.rows r there leads

      within : p.number ≤ r.committed
      within = let low = (kept_within w.committed w.expired p (kept_invariant c w h.reached).numbered is_kept).1 in
          let e = ap (count w.committed) (sym same) ∙ shown.counted in omega (arith, low, e)

      at : Keeps r p.number ⊎ HasExpired (lines_written ws) r.sequence p.number → Keeps r p.number
      at (inl k) = k
      at (inr e) = absurd (true_not_false (is_expired w.expired p)
          (subst (λ es. is_expired es p ≡ true) (sym h.expired) (expired_shown d s ws r p due there same leads
          (subst (λ q. In (record { sequence = q; number = p.number }) (expiries_told (lines_written ws))) same e)))
          (kept_is_not_expired w.committed w.expired p is_kept))

  -- the sequences before an open row are acknowledged
  open_begun : (index : ℕ) (row : Row) → slice_get s.outs index ≡ Some row → row.destination ≡ d → is_open s.outs index ≡ true → EarlierAcknowledged w row.sequence
  open_begun index row there leads open_ p is_earlier is_kept = at (nat_le p.number r.acked) refl
    where
      rise : OrdinalsRise s.outs
      rise = due.0.0.0.rise

      inside : In row s.outs
      inside = get_in s.outs index row there

      found : (x : Commitment) × In x w.committed × (x.position ≡ p)
      found = In_from_committed w.committed p (kept_is_committed w.committed w.expired p is_kept)

      place : (r : Row) × In r s.outs × (r.sequence ≡ found.0.position.sequence) × (r.destination ≡ d)
      place = h.rows.rowed found.0 found.1

      r : Row
      r = place.0

      same : r.sequence ≡ p.sequence
      same = place.2 ∙ ap (λ (y : Position). y.sequence) found.2

      before : earlier r.sequence row.sequence ≡ true
      before = subst (λ q. earlier q row.sequence ≡ true) (sym same) is_earlier

      less : r.sequence.ordinal < row.sequence.ordinal
      less = by (earlier_tells r.sequence row.sequence before)
        where
          by : (r.sequence.ordinal < row.sequence.ordinal) ⊎ ((r.sequence.ordinal ≡ row.sequence.ordinal) × (r.sequence.stamp < row.sequence.stamp)) → r.sequence.ordinal < row.sequence.ordinal
          by (inl low) = low
          by (inr e) = let one = ap (λ (y : Row). y.sequence.stamp) (one_row s.outs r row rise place.1 inside e.0) in let low = e.1 in absurd (omega (arith, one, low))

      none : list_any (λ (x : Row). leads_to row.peer row.destination x && has_unacknowledged x) (take index s.outs) ≡ false
      none = not_true _ (subst (λ o. option_map_or (λ (y : Row). not (list_any (λ (x : Row). leads_to y.peer y.destination x && has_unacknowledged x) (take index s.outs))) o false ≡ true) there open_)

      leads_too : leads_to row.peer row.destination r ≡ true
      leads_too = ap (λ n. (n == row.peer) && same_name r.destination row.destination) (h.rows.peers r place.1 place.3 ∙ sym (h.rows.peers row inside leads))
          ∙ ap (λ b. b && same_name r.destination row.destination) (same_number row.peer)
          ∙ ap (λ n. same_name n row.destination) (place.3 ∙ sym leads) ∙ same_name_refl row.destination

      all_acked : (k : Kept) → In k r.kept → nat_lt r.acked k.number ≡ true → ⊥
      all_acked k i e = true_not_false (list_any (λ (x : Row). leads_to row.peer row.destination x && has_unacknowledged x) (take index s.outs))
          (in_any (λ (x : Row). leads_to row.peer row.destination x && has_unacknowledged x) (take index s.outs) r (before_in s.outs index row r rise there place.1 less)
          (join_and (leads_to row.peer row.destination r) (has_unacknowledged r) leads_too (in_any (λ (y : Kept). nat_lt r.acked y.number) r.kept k i e))) none

      acked : w.acknowledged p.sequence ≡ r.acked
      acked = ap w.acknowledged (sym same) ∙ (h.rows.rows r place.1 place.3).acked

      under : nat_le p.number r.acked ≡ true → p.number ≤ r.acked
      under e = grind (arith, nat_tests)

      above : nat_le p.number r.acked ≡ false → r.acked < p.number
      above e = grind (arith, nat_tests)

      is_above : (n : ℕ) → r.acked < n → nat_lt r.acked n ≡ true
      is_above n e = grind (arith, nat_tests)

      at : (b : Bool) → nat_le p.number r.acked ≡ b → p.number ≤ w.acknowledged p.sequence
      at true e = let le = under e in omega (arith, le, acked)
      at false e = let k = kept_in_row r p place.1 place.3 same is_kept (above e) in
          absurd (all_acked k.0 k.1 (is_above k.0.number (let more = above e in let n = k.2 in omega (arith, more, n))))

  -- marks of rows
  mark_at : (mark : Mark) → IsMarkOf s.outs mark → IsMarkAt d s.outs w mark
  mark_at mark g = record {
    row = g.row;
    there = get_in s.outs g.index g.row g.there;
    ordinal = g.ordinal;
    rises = g.rises;
    kept = g.kept;
    inside = g.inside;
    numbered = g.numbered;
    begun = λ e. open_begun g.index g.row g.there e g.open_;
  }

  pub offered_sourced : (marks : List Mark) → MarksRise marks → AllByRecursion (IsMarkOf s.outs) marks → IsSourced d peer c v (fold mark_raised s marks).outs (commitments ws) (lines_written ws)
  offered_sourced marks rises g = marks_sourced d peer c v (commitments ws) (lines_written ws) s marks due.0.0.0.rise rises h (all marks g)
    where
      all : (bs : List Mark) → AllByRecursion (IsMarkOf s.outs) bs → AllByRecursion (IsMarkAt d s.outs w) bs
      all [] k = tt
      all (b ∷ bs) k = (mark_at b k.0, all bs k.1)
