-- One message is brought over: the oldest that waits is offered, sent, decided and acknowledged.
use Rattle.std.proofs.Common.{◌≡◌, ℕ, ◌<◌, ◌≤◌, ◌⊎◌, inl, inr, Bool, true, false, cond, ◌&&◌, ◌++◌, nat_lt, List, [], ◌∷◌, Some, refl, sym, ap, subst, ◌∙◌, le_trans, lt_of_lt_of_le, arith}
use Rattle.std.specs.Prelude.{All, filter, length}
use Rattle.std.proofs.lemmas.Bool.{and_from, and_parts, cases_Bool, cases_lt, lt-ltb, ltb-true, true≢false}
use Rattle.std.proofs.lemmas.Bool.Decides.{nat_tests}
use Rattle.std.proofs.lemmas.List.Elements.{All-cons, All-nil}
use Rattle.mqb_base.specs.declared.heads.TxHead.{TxHead}
use Rattle.mqb_base.specs.declared.ids.SequenceId.{SequenceId}
use Rattle.mqb_base.specs.Sequences.{earlier, same_sequence}
use Rattle.mqb_orders.specs.Judging.{verdict_after, verdict_of}
use Rattle.mqb_orders.specs.declared.judging.Verdict.{Verdict}
use Rattle.mqb_orders.specs.declared.judging.Verdict.TheVariants.{Next, Stale}
use Rattle.mqb_exactly_once.specs.Outcomes.{Outcome}
use Rattle.mqb_exactly_once.specs.Runs.{IsRun, after}
use Rattle.mqb_exactly_once.specs.Steps.{Acknowledge, Acknowledged, Arrive, EarlierAcknowledged, May, Offer, Send, StreamStep, decided_after, decision, happens, marked, transfer, verdict}
use Rattle.mqb_exactly_once.specs.Words.{In, is_decided, is_kept, kept, last, newest, precedes, previous, row}
use Rattle.mqb_exactly_once.specs.World.{Channel, Commitment, Decision, Expiry, OrderAck, Position, StreamWorld, Transfer}
use Rattle.mqb_exactly_once.proofs.Always.{StreamInvariant, decided_kept}
use Rattle.mqb_exactly_once.proofs.Befores.{before_is_greatest}
use Rattle.mqb_exactly_once.proofs.Decisions.{DecisionsRise, none_of_later}
use Rattle.mqb_exactly_once.proofs.Growing.{marked_above}
use Rattle.mqb_exactly_once.proofs.Members.{In_from_committed, In_from_decided, decided_from_In, kept_is_committed}
use Rattle.mqb_exactly_once.proofs.Numbers.{kept_within}
use Rattle.mqb_exactly_once.proofs.Positions.{later_else, precedes_below, precedes_earlier, precedes_tells, same_sequence_refl}
use Rattle.mqb_law_recovery.specs.Recovery.{IsGood, IsJudge, waiting, waits}
use Rattle.mqb_law_recovery.proofs.Counting.{one_less}
use Rattle.mqb_law_recovery.proofs.Oldest.{First}

-- ---- the verdict

first_after : (tx : TxHead) → 0 < tx.number → tx.previous ≤ 0 → verdict_after 0 tx ≡ Next
first_after tx above linked = grind (arith, nat_tests)

next_after : (d : ℕ) (tx : TxHead) → d < tx.number → tx.previous ≤ d → verdict_after d tx ≡ Next
next_after d tx above linked = grind (arith, nat_tests)

-- a packet above what was decided of its sequence, that links to no more, is next, where nothing of a later sequence was decided
next_from : (channel : Channel) (ds : List Decision) (tx : TxHead) → DecisionsRise ds → last ds tx.sequence < tx.number
    → tx.previous ≤ last ds tx.sequence → ((d : Decision) → In d ds → earlier tx.sequence d.position.sequence ≡ false)
    → verdict_of (row channel ds) tx ≡ Next
next_from channel [] tx rise above linked none_later = first_after tx above linked
next_from channel (d ∷ ds) tx rise above linked none_later =
    at (earlier tx.sequence d.position.sequence) (none_later d (inl refl)) (same_sequence d.position.sequence tx.sequence) refl above linked
  where
    at : (b : Bool) → b ≡ false → (e : Bool) → same_sequence d.position.sequence tx.sequence ≡ e
        → cond e d.position.number (last ds tx.sequence) < tx.number → tx.previous ≤ cond e d.position.number (last ds tx.sequence)
        → cond b Stale (verdict_after (cond e d.position.number 0) tx) ≡ Next
    at true is e same over under = absurd (true≢false is)
    at false is true same over under = next_after d.position.number tx over under
    at false is false other over under =
        let none = none_of_later d ds tx.sequence rise (later_else d.position.sequence tx.sequence (none_later d (inl refl)) other) in
        first_after tx (omega (arith, above, none)) (omega (arith, linked, none))

newest_next : (v : Verdict) (d : Decision) (ds : List Decision) → v ≡ Next → newest (decided_after v d ds) ≡ Some d.position
newest_next v d ds is = rw is refl

-- ---- the marks

marked_there : (p : Position) (marks : SequenceId → ℕ) (s : SequenceId) → p.sequence ≡ s → marked p marks s ≡ p.number
marked_there p marks s is = subst (λ (t : SequenceId). marked p marks t ≡ p.number) is (rw (same_sequence_refl p.sequence) refl)

-- what waits by these marks
abbrev above : List Commitment → List Expiry → (SequenceId → ℕ) → Commitment → Bool
above cs es marks c = is_kept cs es c.position && nat_lt (marks c.position.sequence) c.position.number

module _ (cs : List Commitment) (es : List Expiry) (old new : SequenceId → ℕ) (grow : (s : SequenceId) → old s ≤ new s) where
  still : (c : Commitment) → In c cs → above cs es new c ≡ true → above cs es old c ≡ true
  still c inside h =
      let parts = and_parts (is_kept cs es c.position) (nat_lt (new c.position.sequence) c.position.number) h in
      let over : new c.position.sequence < c.position.number = ltb-true _ _ parts.1 in
      let more = grow c.position.sequence in
      and_from (is_kept cs es c.position) (nat_lt (old c.position.sequence) c.position.number) parts.0
      (lt-ltb (old c.position.sequence) c.position.number (omega (arith, over, more)))

  no_more : (c : Commitment) → c.position.number ≤ new c.position.sequence → above cs es new c ≡ false
  no_more c within = elim (cases_Bool (above cs es new c)) [
    | inl is ↦
        let parts = and_parts (is_kept cs es c.position) (nat_lt (new c.position.sequence) c.position.number) is in
        let over : new c.position.sequence < c.position.number = ltb-true _ _ parts.1 in
        absurd (omega (arith, over, within))
    | inr not ↦ not
  ]

  fewer_wait : (c : Commitment) → In c cs → above cs es old c ≡ true → c.position.number ≤ new c.position.sequence
      → length (filter (above cs es new) cs) < length (filter (above cs es old) cs)
  fewer_wait c inside was within = one_less (above cs es old) (above cs es new) cs still c inside was (no_more c within)

-- ---- the oldest message that waits

module _ (w : StreamWorld) (i : StreamInvariant w) (f : First (waits w) w.committed) where
  abbrev c : Commitment
  c = f.commitment

  abbrev s : SequenceId
  s = c.position.sequence

  c_kept : kept w c.position ≡ true
  c_kept = (and_parts (kept w c.position) (nat_lt (w.acknowledged s) c.position.number) f.passes).0

  c_above : w.acknowledged s < c.position.number
  c_above = ltb-true _ _ (and_parts (kept w c.position) (nat_lt (w.acknowledged s) c.position.number) f.passes).1

  -- whatever is kept before it is acknowledged
  done_with : (p : Position) → kept w p ≡ true → precedes p c.position ≡ true → p.number ≤ w.acknowledged p.sequence
  done_with p is_kept before = elim (cases_lt (w.acknowledged p.sequence) p.number) [
    | inl over ↦ absurd (true≢false (sym (and_from (kept w p) (nat_lt (w.acknowledged p.sequence) p.number) is_kept
        (lt-ltb (w.acknowledged p.sequence) p.number over)) ∙ not_waiting))
    | inr within ↦ within
  ]
    where
      found : (d : Commitment) × In d w.committed × (d.position ≡ p)
      found = In_from_committed w.committed p (kept_is_committed w.committed w.expired p is_kept)

      not_waiting : (kept w p && nat_lt (w.acknowledged p.sequence) p.number) ≡ false
      not_waiting = subst (λ (q : Position). (kept w q && nat_lt (w.acknowledged q.sequence) q.number) ≡ false) found.2
          (f.before found.0 found.1 (subst (λ (q : Position). precedes q c.position ≡ true) (sym found.2) before))

  earlier_done : EarlierAcknowledged w s
  earlier_done p before is_kept = done_with p is_kept (precedes_earlier p c.position before)

  previous_done : previous w s c.position.number ≤ w.acknowledged s
  previous_done = at (before_is_greatest w.committed w.expired s c.position.number).member
    where
      at : (previous w s c.position.number ≡ 0)
          ⊎ ((previous w s c.position.number < c.position.number)
          × (is_kept w.committed w.expired (record { sequence = s; number = previous w s c.position.number }) ≡ true))
          → previous w s c.position.number ≤ w.acknowledged s
      at (inl none) = omega (arith, none)
      at (inr is) = done_with (record { sequence = s; number = previous w s c.position.number }) is.1
          (precedes_below (record { sequence = s; number = previous w s c.position.number }) c.position refl is.0)

  -- nothing of a later sequence was offered, so nothing of one was decided
  later_unbegun : (t : SequenceId) → 0 < w.offered t → earlier s t ≡ false
  later_unbegun t begun = elim (cases_Bool (earlier s t)) [
    | inl is ↦
        let within : c.position.number ≤ w.acknowledged s = i.begun t begun c.position is c_kept in
        let over = c_above in
        absurd (omega (arith, within, over))
    | inr not ↦ not
  ]

  none_later : (d : Decision) → In d w.decided → earlier s d.position.sequence ≡ false
  none_later d inside =
      let is = decided_kept w i d.position (decided_from_In d w.decided inside) in
      later_unbegun d.position.sequence
      (lt_of_lt_of_le (kept_within w.committed w.expired d.position i.numbered is.0).0 is.1)

-- ---- acknowledging

-- what the destination decided last can be acknowledged, where the source does not know it yet
acknowledging : (w : StreamWorld) (p : Position) → w.connected ≡ true → newest w.decided ≡ Some p → w.acknowledged p.sequence < p.number
    → p.number ≤ w.offered p.sequence
    → May w (Acknowledge p) × May (happens w (Acknowledge p)) (Acknowledged (record { position = p; connection = w.connection }))
acknowledging w p connected is below within = ((connected, is), ((connected, refl), inl refl, below, within))

-- what is behind one round
pub record Brought (channel : Channel) (ys : List StreamStep) (now : ℕ) (judge : Transfer → Outcome) : Type 0 where
  pub steps : List StreamStep
  pub good : All (IsGood now judge) steps
  pub run : IsRun channel (steps ++ ys)
  pub few : length steps ≤ 5
  pub connected : (after channel (steps ++ ys)).connected ≡ true
  pub committed : (after channel (steps ++ ys)).committed ≡ (after channel ys).committed
  pub expired : (after channel (steps ++ ys)).expired ≡ (after channel ys).expired
  pub fewer : waiting (after channel (steps ++ ys)) < waiting (after channel ys)

-- ---- it was decided: what the destination decided last is of its sequence, and not below it
newest_of : (ds : List Decision) → DecisionsRise ds → (p : Position) (e : Decision) → In e ds → e.position ≡ p
    → ((d : Decision) → In d ds → earlier p.sequence d.position.sequence ≡ false)
    → (d : Decision) × In d ds × (newest ds ≡ Some d.position) × (d.position.sequence ≡ p.sequence) × (p.number ≤ d.position.number)
newest_of [] rise p e inside is unbegun = absurd inside
newest_of (d ∷ ds) rise p e (inl same) is unbegun =
    let there : d.position ≡ p = ap (λ (x : Decision). x.position) same ∙ is in
    let number : d.position.number ≡ p.number = ap (λ (q : Position). q.number) there in
    (d, inl refl, refl, ap (λ (q : Position). q.sequence) there, omega (arith, number))
newest_of (d ∷ ds) rise p e (inr behind) is unbegun = at (precedes_tells e.position d.position (rise.0 e behind))
  where
    at : (earlier e.position.sequence d.position.sequence ≡ true)
        ⊎ ((e.position.sequence ≡ d.position.sequence) × (e.position.number < d.position.number))
        → (x : Decision) × In x (d ∷ ds) × (newest (d ∷ ds) ≡ Some x.position) × (x.position.sequence ≡ p.sequence) × (p.number ≤ x.position.number)
    at (inl before) = absurd (true≢false (sym (subst (λ (q : Position). earlier q.sequence d.position.sequence ≡ true) is before)
        ∙ unbegun d (inl refl)))
    at (inr h) =
        let number : e.position.number ≡ p.number = ap (λ (q : Position). q.number) is in
        let over : e.position.number < d.position.number = h.1 in
        (d, inl refl, refl, sym h.0 ∙ ap (λ (q : Position). q.sequence) is, omega (arith, number, over))

-- ---- it was not: what is sent is next

-- it can be sent, heard and acknowledged
record MayPass (v : StreamWorld) (c : Commitment) (now : ℕ) (judge : Transfer → Outcome) : Type 0 where
  send : May v (Send c now)
  arrive : May (happens v (Send c now)) (Arrive (transfer v c now) (judge (transfer v c now)))
  acknowledge : May (happens (happens v (Send c now)) (Arrive (transfer v c now) (judge (transfer v c now)))) (Acknowledge c.position)
  acknowledged : May (happens (happens (happens v (Send c now)) (Arrive (transfer v c now) (judge (transfer v c now)))) (Acknowledge c.position))
      (Acknowledged (record { position = c.position; connection = v.connection }))

passes : (v : StreamWorld) (c : Commitment) (now : ℕ) (judge : Transfer → Outcome) → IsJudge judge → v.connected ≡ true → In c v.committed
    → kept v c.position ≡ true → v.acknowledged c.position.sequence < c.position.number → c.position.number ≤ v.offered c.position.sequence
    → verdict_of (row v.channel v.decided) (transfer v c now).head ≡ Next → MayPass v c now judge
passes v c now judge judged connected inside is_kept over offered next =
    let t = transfer v c now in
    let behind = happens (happens v (Send c now)) (Arrive t (judge t)) in
    let decided_last : newest behind.decided ≡ Some c.position = newest_next (verdict (happens v (Send c now)) t) (decision t (judge t)) v.decided next in
    let told = acknowledging behind c.position connected decided_last over offered in
    record {
      send = (connected, inside, is_kept, over, offered);
      arrive = ((connected, refl), inl refl, judged t);
      acknowledge = told.0;
      acknowledged = told.1;
    }

-- ---- one round

module _ (channel : Channel) (ys : List StreamStep) (now : ℕ) (judge : Transfer → Outcome) (judged : IsJudge judge) (run : IsRun channel ys)
    (connected : (after channel ys).connected ≡ true) (i : StreamInvariant (after channel ys))
    (f : First (waits (after channel ys)) (after channel ys).committed) where
  abbrev w : StreamWorld
  w = after channel ys

  abbrev m : Commitment
  m = f.commitment

  none_bad : All (IsGood now judge) []
  none_bad = All-nil (IsGood now judge)

  good_end : (a : OrderAck) (p : Position) (xs : List StreamStep) → All (IsGood now judge) xs
      → All (IsGood now judge) (Acknowledged a ∷ Acknowledge p ∷ xs)
  good_end a p xs rest = All-cons (IsGood now judge) (Acknowledged a) (Acknowledge p ∷ xs) tt
      (All-cons (IsGood now judge) (Acknowledge p) xs tt rest)

  good_way : (t : Transfer) (c : Commitment) (xs : List StreamStep) → All (IsGood now judge) xs
      → All (IsGood now judge) (Arrive t (judge t) ∷ Send c now ∷ xs)
  good_way t c xs rest = All-cons (IsGood now judge) (Arrive t (judge t)) (Send c now ∷ xs) refl
      (All-cons (IsGood now judge) (Send c now) xs refl rest)

  good_offer : (p : Position) → All (IsGood now judge) (Offer p ∷ [])
  good_offer p = All-cons (IsGood now judge) (Offer p) [] tt none_bad

  -- the marks once it is acknowledged up to a number that is not below it
  less : (p : Position) → p.sequence ≡ m.position.sequence → m.position.number ≤ p.number
      → length (filter (above w.committed w.expired (marked p w.acknowledged)) w.committed) < waiting w
  less p same within =
      let over : w.acknowledged m.position.sequence < m.position.number = c_above w i f in
      let there : marked p w.acknowledged m.position.sequence ≡ p.number = marked_there p w.acknowledged m.position.sequence same in
      let rises : w.acknowledged p.sequence ≤ p.number =
      subst (λ (t : SequenceId). w.acknowledged t ≤ p.number) (sym same) (omega (arith, over, within)) in
      fewer_wait w.committed w.expired w.acknowledged (marked p w.acknowledged) (λ t. marked_above p w.acknowledged t rises) m f.inside f.passes
      (omega (arith, there, within))

  was_decided : is_decided w.decided m.position ≡ true → Brought channel ys now judge
  was_decided is =
      let e = In_from_decided w.decided m.position is in
      let d = newest_of w.decided i.rise m.position e.0 e.1 e.2 (none_later w i f) in
      let p : Position = d.0.position in
      let stands = decided_kept w i p (decided_from_In d.0 w.decided d.1) in
      let same : p.sequence ≡ m.position.sequence = d.3 in
      let within : m.position.number ≤ p.number = d.4 in
      let over : w.acknowledged m.position.sequence < m.position.number = c_above w i f in
      let below : w.acknowledged p.sequence < p.number =
      subst (λ (t : SequenceId). w.acknowledged t < p.number) (sym same) (omega (arith, over, within)) in
      let may = acknowledging w p connected d.2 below stands.1 in
      record {
        steps = Acknowledged (record { position = p; connection = w.connection }) ∷ Acknowledge p ∷ [];
        good = good_end (record { position = p; connection = w.connection }) p [] none_bad;
        run = (may.1, (may.0, run));
        few = omega arith;
        connected = connected;
        committed = refl;
        expired = refl;
        fewer = less p same within;
      }

  next : is_decided w.decided m.position ≡ false → verdict_of (row w.channel w.decided) (transfer w m now).head ≡ Next
  next not = next_from w.channel w.decided (transfer w m now).head i.rise new linked (none_later w i f)
    where
      new : last w.decided m.position.sequence < m.position.number
      new = elim (cases_lt (last w.decided m.position.sequence) m.position.number) [
        | inl is ↦ is
        | inr within ↦ absurd (true≢false (sym (i.skipped m.position (c_kept w i f) within) ∙ not))
      ]

      linked : previous w m.position.sequence m.position.number ≤ last w.decided m.position.sequence
      linked = le_trans (previous_done w i f) (i.marks m.position.sequence).acknowledged_was_decided

  was_offered : is_decided w.decided m.position ≡ false → m.position.number ≤ w.offered m.position.sequence → Brought channel ys now judge
  was_offered not offered =
      let may = passes w m now judge judged connected f.inside (c_kept w i f) (c_above w i f) offered (next not) in
      let t = transfer w m now in
      record {
        steps = Acknowledged (record { position = m.position; connection = w.connection }) ∷ Acknowledge m.position ∷ Arrive t (judge t) ∷ Send m now ∷ [];
        good = good_end (record { position = m.position; connection = w.connection }) m.position (Arrive t (judge t) ∷ Send m now ∷ [])
            (good_way t m [] none_bad);
        run = (may.acknowledged, (may.acknowledge, (may.arrive, (may.send, run))));
        few = omega arith;
        connected = connected;
        committed = refl;
        expired = refl;
        fewer = less m.position refl (omega arith);
      }

  is_new : is_decided w.decided m.position ≡ false → w.offered m.position.sequence < m.position.number → Brought channel ys now judge
  is_new not unoffered =
      let v = happens w (Offer m.position) in
      let offered : m.position.number ≤ v.offered m.position.sequence =
      let there = marked_there m.position w.offered m.position.sequence refl in omega (arith, there) in
      let may = passes v m now judge judged connected f.inside (c_kept w i f) (c_above w i f) offered (next not) in
      let t = transfer v m now in
      record {
        steps = Acknowledged (record { position = m.position; connection = w.connection }) ∷ Acknowledge m.position ∷ Arrive t (judge t) ∷ Send m now
            ∷ Offer m.position ∷ [];
        good = good_end (record { position = m.position; connection = w.connection }) m.position
            (Arrive t (judge t) ∷ Send m now ∷ Offer m.position ∷ []) (good_way t m (Offer m.position ∷ []) (good_offer m.position));
        run = (may.acknowledged, (may.acknowledge, (may.arrive, (may.send, ((c_kept w i f, unoffered, earlier_done w i f), run)))));
        few = omega arith;
        connected = connected;
        committed = refl;
        expired = refl;
        fewer = less m.position refl (omega arith);
      }

  pub brought : Brought channel ys now judge
  brought = elim (cases_Bool (is_decided w.decided m.position)) [
    | inl is ↦ was_decided is
    | inr not ↦ elim (cases_lt (w.offered m.position.sequence) m.position.number) [
      | inl unoffered ↦ is_new not unoffered
      | inr offered ↦ was_offered not offered
    ]
  ]
