-- The ledger tells of each stream that it is exactly once.
use Rattle.std.proofs.Common.{refl, ap, sym, subst, ◌∙◌, arith, inl, inr}
use Rattle.std.proofs.lemmas.List.{append_assoc}
use Rattle.std.specs.List.{cons_option}
use Rattle.std.specs.Prelude.{[], ◌++◌, ◌<◌, ◌==◌, ◌∷◌, ◌≡◌, ◌⊎◌, List, None, Some, cond, filter_map, map, true, ℕ}
use Rattle.mqb_base.specs.Same.{same_guid, same_name}
use Rattle.mqb_base.specs.declared.ids.Guid.{Guid}
use Rattle.mqb_base.specs.declared.ids.Identity.{Identity}
use Rattle.mqb_base.specs.declared.ids.MessageId.{MessageId}
use Rattle.mqb_base.specs.declared.ids.SequenceId.{SequenceId}
use Rattle.mqb_base.specs.declared.ledger.Line.{Line}
use Rattle.mqb_base.specs.declared.ledger.Line.TheVariants as line
use Rattle.mqb_base.specs.declared.ledger.Stream.{Stream}
use Rattle.mqb_base.specs.declared.message.Message.{Message}
use Rattle.mqb_exactly_once.specs.Words.{In, position_of, precedes}
use Rattle.mqb_exactly_once.specs.World.{Channel, Commitment, Position}
use Rattle.mqb_model.specs.records.Applying.{lines_of}
use Rattle.mqb_model.specs.records.Decisions.{stream_heard}
use Rattle.mqb_model.specs.rules.Arrivals.{refusal_of}
use Rattle.mqb_network.specs.Courses.{Course, Written}
use Rattle.mqb_network.specs.Laws.{AreApart, lines_written}
use Rattle.mqb_network.specs.Network.{manager_at}
use Rattle.mqb_orders.specs.Rows.{Row}
use Rattle.mqb_history.specs.Carried.{AreDecidedTruly, ComesFromItsSource}
use Rattle.mqb_history.specs.Committed.{commitments, commitments_in}
use Rattle.mqb_history.specs.Decided.{IsDecidedInOrder, RiseStrictly, decisions, written_of}
use Rattle.mqb_history.specs.Expired.{AreExpiredDuly, AreOffersKept, WasDue, expiry_told}
use Rattle.mqb_history.specs.Led.{AreDecidedByOne}
use Rattle.mqb_history.specs.Ledger.{AreDeciding, AreExpiring, Decides}
use Rattle.mqb_history.specs.Offered.{AreUndecided, IsOffered}
use Rattle.mqb_history.specs.Orderly.{IsOrderly}
use Rattle.mqb_history.specs.Skipped.{AreUnskipped, HasExpiredAt}
use Rattle.mqb_history.specs.Told.{Joined, commitment_told, decision_told, decisions_told, is_of, joined_by}
use Rattle.mqb_history.proofs.Accounted.{Stands}
use Rattle.mqb_history.proofs.Accounts.{befores, lines_append}
use Rattle.mqb_history.proofs.Arriving.{own_by}
use Rattle.mqb_history.proofs.Between.{all_in, in_either}
use Rattle.mqb_history.proofs.Committing.{in_append}
use Rattle.mqb_history.proofs.Courses.{Agrees, HeardIn, one_guid}
use Rattle.mqb_history.proofs.Due.{one_row}
use Rattle.mqb_history.proofs.Finding.{decision_is, expiry_is, joined_line, not_before, only_by, rise_behind}
use Rattle.mqb_history.proofs.Lines.{told_append}
use Rattle.mqb_history.proofs.Lists.{join_and}
use Rattle.mqb_history.proofs.Names.{same_guid_refl, same_name_refl}
use Rattle.mqb_history.proofs.Noticed.{flat_in, guid_of, heard_in, in_flat, own_line, own_written, told_from, written_in}
use Rattle.mqb_history.proofs.Outside.{filtered_in}
use Rattle.mqb_history.proofs.Puts.{IsDeciding, decision_line, put_decides, refused_decides, told_in}
use Rattle.mqb_history.proofs.Released.{IsLineOf, line_of}
use Rattle.mqb_history.proofs.Rows.{AreRowed, HasRow}
use Rattle.mqb_history.proofs.Sources.{put_line, refused_line}
use Rattle.mqb_history.proofs.Sources as source
use Rattle.mqb_history.proofs.Staying.{IsSameManager}
use Rattle.mqb_history.proofs.StoredByPeer.{in_befores, middle_in}
use Rattle.mqb_history.proofs.Telling.{lines_tell_decisions, record_joins}
use Rattle.mqb_history.proofs.Written.{of_append}

-- what a course has to have
pub record IsKnown (known : List Identity) (c : Course) : Type 0 where
  pub orderly : IsOrderly known c
  pub agrees : Agrees known c
  pub rowed : (i : ℕ) → AreRowed (manager_at c.network i).state (written_of i c.written)
  pub truly : AreDecidedTruly c
  pub rise : IsDecidedInOrder c
  pub by_one : AreDecidedByOne c
  pub unskipped : AreUnskipped c
  pub duly : AreExpiredDuly c
  pub kept : AreOffersKept c
  pub undecided : AreUndecided c

in_behind : {X : Type 0} (xs ys : List X) (x : X) → In x ys → In x (xs ++ ys)
in_behind [] ys x i = i
in_behind (y ∷ xs) ys x i = inr (in_behind xs ys x i)

-- what a line that decides tells
says_place : (s : Stream) (n : ℕ) (id : MessageId) (l : Line) → Decides s n id l → decision_told (record { source = s.source; destination = s.destination }) l ≡ Some (record { sequence = s.sequence; number = n })
says_place s n id l says = by says
  where
    own : is_of (record { source = s.source; destination = s.destination }) s ≡ true
    own = join_and (same_guid s.source s.source) (same_name s.destination s.destination) (same_guid_refl s.source) (same_name_refl s.destination)

    by : Decides s n id l → decision_told (record { source = s.source; destination = s.destination }) l ≡ Some (record { sequence = s.sequence; number = n })
    by (inl e) = ap (decision_told (record { source = s.source; destination = s.destination })) e ∙ ap (λ b. cond b (Some (record { sequence = s.sequence; number = n })) None) own
    by (inr (class, e)) = ap (decision_told (record { source = s.source; destination = s.destination })) e ∙ ap (λ b. cond b (Some (record { sequence = s.sequence; number = n })) None) own

module _ (known : List Identity) (apart : AreApart known) (c : Course) (k : IsKnown known c) where
  abbrev o : IsOrderly known c
  o = k.orderly

  abbrev h : Agrees known c
  h = k.agrees

  abbrev guid_at : ℕ → Guid
  guid_at i = (manager_at c.network i).state.identity.guid

  -- a record met a state of its manager
  own_before : (w : Written) → In w c.written → w.before.identity.guid ≡ guid_at w.by
  own_before w i = sym (ap (λ (x : Identity). x.guid) self.identity)
    where
      heard : HeardIn known c.sent w.by w.entry
      heard = heard_in known apart c o h w i

      stands : Stands (lines_written c.written) (lines_written (written_of w.by c.written)) (befores (written_of w.by c.written)) c.sent (manager_at c.network w.by).state
      stands = h.stand w.by heard.0 heard.1

      self : IsSameManager w.before (manager_at c.network w.by).state
      self = all_in (λ t. IsSameManager t (manager_at c.network w.by).state) (befores (written_of w.by c.written)) w.before stands.selves (in_befores (written_of w.by c.written) w (own_written c.written w i))

  -- managers of one GUID that wrote are one
  pub one_writer : (v w : Written) → In v c.written → In w c.written → guid_at v.by ≡ guid_at w.by → v.by ≡ w.by
  one_writer v w i j same = let a = heard_in known apart c o h v i in let b = heard_in known apart c o h w j in one_guid known v.by w.by a.0 b.0 apart a.1 b.1
      (sym (guid_of known apart c o h v.by a.0 a.1) ∙ same ∙ guid_of known apart c o h w.by b.0 b.1)

  -- Commitments.

  -- the line of a commitment stands with the record that commits it
  line_there : (ws : List Written) → ((v : Written) → In v ws → In v c.written) → (i : ℕ) (m : Commitment) → In m (commitments (written_of i ws)) → let j = joined_by (guid_at i) m in
      In (line.Committed j.stream j.number j.id) (lines_written ws)
  line_there ws sub i m inside = flat_in (λ (v : Written). lines_of v.before v.entry) ws v (line.Committed j.stream j.number j.id) met (subst (λ l. In l (lines_of v.before v.entry)) (joined_line found.0 j found.2) found.1)
    where
      j : Joined
      j = joined_by (guid_at i) m

      at : (v : Written) × In v (written_of i ws) × In m (commitments_in v.before v.entry)
      at = in_flat (λ (w : Written). commitments_in w.before w.entry) (written_of i ws) m inside

      v : Written
      v = at.0

      met : In v ws
      met = filtered_in (λ (w : Written). w.by == i) ws v at.1

      own : v.before.identity.guid ≡ guid_at i
      own = own_before v (sub v met) ∙ ap guid_at (own_by i ws v at.1)

      mapped : (cs : List Commitment) → In m cs → In (joined_by v.before.identity.guid m) (map (joined_by v.before.identity.guid) cs)
      mapped [] i = absurd i
      mapped (x ∷ cs) (inl e) = inl (ap (joined_by v.before.identity.guid) e)
      mapped (x ∷ cs) (inr i) = inr (mapped cs i)

      told : In j (filter_map commitment_told (lines_of v.before v.entry))
      told = subst (λ g. In (joined_by g m) (filter_map commitment_told (lines_of v.before v.entry))) own
          (subst (In (joined_by v.before.identity.guid m)) (sym (record_joins v.before v.entry)) (mapped (commitments_in v.before v.entry) at.2))

      found : (l : Line) × In l (lines_of v.before v.entry) × (commitment_told l ≡ Some j)
      found = told_from commitment_told (lines_of v.before v.entry) j told

  -- commitments of one sequence go to one destination
  pub one_destination : (i : ℕ) (a b : Commitment) → In a (commitments (written_of i c.written)) → In b (commitments (written_of i c.written)) → a.position.sequence ≡ b.position.sequence
      → a.message.destination ≡ b.message.destination
  one_destination i a b x y same = let rowed = k.rowed i in let p = all_in (HasRow (manager_at c.network i).state.outs) (commitments (written_of i c.written)) a rowed.1 x in
      let q = all_in (HasRow (manager_at c.network i).state.outs) (commitments (written_of i c.written)) b rowed.1 y in
      sym p.3 ∙ ap (λ (r : Row). r.destination) (one_row (manager_at c.network i).state.outs p.0 q.0 rowed.0.0.rise p.1 q.1 (ap (λ (z : SequenceId). z.ordinal) (p.2 ∙ same ∙ sym q.2))) ∙ q.3

  -- Decisions.

  -- the record of a line that decides, and what its packet says
  pub line_decides : (w : Written) (l : Line) (s : Stream) (n : ℕ) (id : MessageId) → In l (lines_of w.before w.entry) → Decides s n id l → (d : IsDeciding w.entry) × source.IsLineOf s n id d.packet.message d.head
  line_decides w l s n id i (inl e) = let there = subst (λ x. In x (lines_of w.before w.entry)) e i in let d = put_decides w.before w.entry s n id there in (
    d,
    put_line d.packet.message d.head (refusal_of w.before d.packet) s n id
        (decision_line w.before d.now d.numbers d.packet d.head (line.Put s n id) d.there (λ none. none) (subst (λ r. In (line.Put s n id) (lines_of w.before r)) d.entry there)),
  )
  line_decides w l s n id i (inr (class, e)) = let there = subst (λ x. In x (lines_of w.before w.entry)) e i in let d = refused_decides w.before w.entry s n class id there in (
    d,
    refused_line d.packet.message d.head (refusal_of w.before d.packet) s n class id
        (decision_line w.before d.now d.numbers d.packet d.head (line.Refused s n class id) d.there (λ none. none) (subst (λ r. In (line.Refused s n class id) (lines_of w.before r)) d.entry there)),
  )

  abbrev all : List Line
  all = lines_written c.written

  abbrev mine : ℕ → List Line
  mine i = lines_written (written_of i c.written)

  -- a line tells of a decision of its manager
  decision_there : (channel : Channel) (w : Written) (l : Line) (p : Position) → In w c.written → In l (lines_of w.before w.entry) → decision_told channel l ≡ Some p → In p (decisions channel (written_of w.by c.written))
  decision_there channel w l p i j e = subst (In p) (lines_tell_decisions channel (written_of w.by c.written)) (told_in (decision_told channel) (mine w.by) l p (own_line known apart c o h w l i j) e)

  -- and so does the whole ledger
  decision_in_all : (channel : Channel) (j : ℕ) (p : Position) → In p (decisions channel (written_of j c.written)) → In p (decisions_told channel all)
  decision_in_all channel j p i = let l = told_from (decision_told channel) (mine j) p (subst (In p) (sym (lines_tell_decisions channel (written_of j c.written))) i) in
      let w = in_flat (λ (v : Written). lines_of v.before v.entry) (written_of j c.written) l.0 l.1 in
      told_in (decision_told channel) all l.0 p (flat_in (λ (v : Written). lines_of v.before v.entry) c.written w.0 l.0 (filtered_in (λ (v : Written). v.by == j) c.written w.0 w.1) w.2) l.2

  pub in_order : (channel : Channel) → RiseStrictly (decisions_told channel all)
  in_order channel = at (decisions_told channel all) refl
    where
      of : (p : Position) → In p (decisions_told channel all) → RiseStrictly (decisions_told channel all)
      of p i = subst RiseStrictly (sym (only_by (decision_told channel) w.0.by c.written (λ v k q j m e. k_by v k q j m e))) (subst RiseStrictly (sym (lines_tell_decisions channel (written_of w.0.by c.written))) (k.rise w.0.by channel))
        where
          l : (l : Line) × In l all × (decision_told channel l ≡ Some p)
          l = told_from (decision_told channel) all p i

          w : (w : Written) × In w c.written × In l.0 (lines_of w.before w.entry)
          w = written_in known apart c o h l.0 l.1

          k_by : (v : Written) (x : Line) (q : Position) → In v c.written → In x (lines_of v.before v.entry) → decision_told channel x ≡ Some q → v.by ≡ w.0.by
          k_by v x q j m e = k.by_one v.by w.0.by channel q p (decision_there channel v x q j m e) (decision_there channel w.0 l.0 p w.1 w.2 l.2)

      at : (ps : List Position) → decisions_told channel all ≡ ps → RiseStrictly (decisions_told channel all)
      at [] e = subst RiseStrictly (sym e) tt
      at (p ∷ ps) e = of p (subst (In p) (sym e) (inl refl))

  -- A line of the ledger that decides, between others.
  module _ (before behind : List Line) (l : Line) (s : Stream) (n : ℕ) (id : MessageId) (split : lines_written c.written ≡ before ++ l ∷ behind) (says : Decides s n id l) where
    at : IsLineOf c.written before l
    at = line_of c.written before behind l split

    abbrev w : Written
    w = at.written

    met : In w c.written
    met = subst (In w) (sym at.split) (middle_in at.front at.back w)

    sub : (v : Written) → In v at.front → In v c.written
    sub v i = subst (In v) (sym at.split) (in_append at.front (w ∷ at.back) v i)

    abbrev d : IsDeciding w.entry
    d = (line_decides w l s n id at.told says).0

    is : source.IsLineOf s n id d.packet.message d.head
    is = (line_decides w l s n id at.told says).1

    from : ComesFromItsSource c at.front d.packet d.head
    from = k.truly at.front at.back w d.now d.numbers d.packet d.head at.split d.entry d.there

    -- lines before those of the record stand before it
    front_in : (x : Line) → In x (lines_written at.front) → In x before
    front_in x i = subst (In x) (sym at.lines) (in_append (lines_written at.front) at.inner x i)

    all_of_front : (j : ℕ) (x : Line) → In x (lines_written (written_of j at.front)) → In x (lines_written at.front)
    all_of_front j x i = let v = in_flat (λ (y : Written). lines_of y.before y.entry) (written_of j at.front) x i in
        flat_in (λ (y : Written). lines_of y.before y.entry) at.front v.0 x (filtered_in (λ (y : Written). y.by == j) at.front v.0 v.1) v.2

    abbrev heard_as : Joined
    heard_as = record { stream = stream_heard d.packet.message d.head; number = d.head.number; id = d.packet.message.id }

    abbrev told_of : Joined
    told_of = record { stream = s; number = n; id = id }

    names : heard_as ≡ told_of
    names = ap (λ x. record { stream = x; number = d.head.number; id = d.packet.message.id }) (sym is.stream_is) ∙ ap (λ x. record { stream = s; number = x; id = d.packet.message.id }) (sym is.number_is)
        ∙ ap (λ x. record { stream = s; number = n; id = x }) (sym is.id_is)

    joined : joined_by (guid_at from.source) from.committed.commitment ≡ told_of
    joined = ap (λ own. joined_by own from.committed.commitment) from.own ∙ ap (λ (q : Position). record {
      stream = record { source = d.packet.message.id.qm; destination = from.committed.commitment.message.destination; sequence = q.sequence };
      number = q.number;
      id = from.committed.commitment.message.id;
    }) from.committed.position ∙ ap (λ (m : Message). record {
      stream = record { source = d.packet.message.id.qm; destination = m.destination; sequence = d.head.sequence };
      number = d.head.number;
      id = m.id;
    }) (sym from.committed.message) ∙ names

    pub committed_before : In (line.Committed s n id) before
    committed_before = front_in (line.Committed s n id) (subst (λ (j : Joined). In (line.Committed j.stream j.number j.id) (lines_written at.front)) joined (line_there at.front sub from.source from.committed.commitment from.committed.there))

    -- The numbers below it.

    abbrev channel : Channel
    channel = record { source = s.source; destination = s.destination }

    abbrev place : ℕ → Position
    place m = record { sequence = s.sequence; number = m }

    told_as : decision_told channel l ≡ Some (place n)
    told_as = says_place s n id l says

    -- what is told of its channel, with its own between
    told_split : decisions_told channel all ≡ decisions_told channel before ++ place n ∷ decisions_told channel behind
    told_split = ap (decisions_told channel) split ∙ told_append (decision_told channel) before (l ∷ behind) ∙ ap (λ p. decisions_told channel before ++ cons_option p (decisions_told channel behind)) told_as

    -- a lower number that was decided was decided before
    earlier : (m : ℕ) → m < n → In (place m) (decisions_told channel all) → AreDeciding s m before
    earlier m less i = by (in_either (decisions_told channel before) (place n ∷ decisions_told channel behind) (place m) (subst (In (place m)) told_split i))
      where
        by : In (place m) (decisions_told channel before) ⊎ In (place m) (place n ∷ decisions_told channel behind) → AreDeciding s m before
        by (inl j) = let x = told_from (decision_told channel) before (place m) j in let g = decision_is channel x.0 (place m) x.2 in record { id = g.0; line = x.0; there = x.1; decides = g.1 }
        by (inr (inl e)) = let same = ap (λ (q : Position). q.number) e in absurd (omega (arith, same, less))
        by (inr (inr j)) = absurd (not_before s.sequence n m (omega (arith, less)) (all_in (λ q. precedes (place n) q ≡ true) (decisions_told channel behind) (place m)
            (rise_behind (decisions_told channel before) (place n) (decisions_told channel behind) (subst RiseStrictly told_split (in_order channel))) j))

    -- The source's records, those before this one and the others.

    source_split : written_of from.source c.written ≡ written_of from.source at.front ++ written_of from.source (w ∷ at.back)
    source_split = ap (written_of from.source) at.split ∙ of_append from.source at.front (w ∷ at.back)

    -- its commitment stands among all
    committed_there : In from.committed.commitment (commitments (written_of from.source c.written))
    committed_there = let u = in_flat (λ (x : Written). commitments_in x.before x.entry) (written_of from.source at.front) from.committed.commitment from.committed.there in
        flat_in (λ (x : Written). commitments_in x.before x.entry) (written_of from.source c.written) u.0 from.committed.commitment
        (subst (In u.0) (sym source_split) (in_append (written_of from.source at.front) (written_of from.source (w ∷ at.back)) u.0 u.1)) u.2

    source_is : guid_at from.source ≡ s.source
    source_is = from.own ∙ ap (λ (j : Joined). j.stream.source) names

    sequence_is : s.sequence ≡ d.head.sequence
    sequence_is = ap (λ (x : Stream). x.sequence) is.stream_is

    -- it is the manager that let a number of the stream expire
    same_source : (j : ℕ) → guid_at j ≡ s.source → (l : Line) → In l (mine j) → j ≡ from.source
    same_source j own l i = sym (own_by j c.written v.0 v.1) ∙ one_writer v.0 u.0 (filtered_in (λ (x : Written). x.by == j) c.written v.0 v.1) (sub u.0 (filtered_in (λ (x : Written). x.by == from.source) at.front u.0 u.1))
        (ap guid_at (own_by j c.written v.0 v.1) ∙ own ∙ sym source_is ∙ ap guid_at (sym (own_by from.source at.front u.0 u.1))) ∙ own_by from.source at.front u.0 u.1
      where
        v : (v : Written) × In v (written_of j c.written) × In l (lines_of v.before v.entry)
        v = in_flat (λ (x : Written). lines_of x.before x.entry) (written_of j c.written) l i

        u : (u : Written) × In u (written_of from.source at.front) × In from.committed.commitment (commitments_in u.before u.entry)
        u = in_flat (λ (x : Written). commitments_in x.before x.entry) (written_of from.source at.front) from.committed.commitment from.committed.there

    -- what it let expire in the sequence is of this stream
    same_expired : (stream : Stream) (m : ℕ) (other : MessageId) (moment : ℕ) → In (line.Expired stream m other moment) (mine from.source) → stream.sequence ≡ s.sequence → stream ≡ s
    same_expired stream m other moment i same = ap (λ g. record { source = g; destination = stream.destination; sequence = stream.sequence }) (sym (ap (λ (j : Joined). j.stream.source) due.joined) ∙ source_is)
        ∙ ap (λ x. record { source = s.source; destination = x; sequence = stream.sequence }) destination ∙ ap (λ q. record { source = s.source; destination = s.destination; sequence = q }) same
      where
        due : WasDue (guid_at from.source) (commitments (written_of from.source c.written)) stream m other moment
        due = k.duly from.source stream m other moment i

        sequence : due.commitment.position.sequence ≡ from.committed.commitment.position.sequence
        sequence = ap (λ (j : Joined). j.stream.sequence) due.joined ∙ same ∙ sym (ap (λ (j : Joined). j.stream.sequence) joined)

        destination : stream.destination ≡ s.destination
        destination = sym (ap (λ (j : Joined). j.stream.destination) due.joined) ∙ one_destination from.source due.commitment from.committed.commitment due.there committed_there sequence
            ∙ ap (λ (j : Joined). j.stream.destination) joined

    -- it offered this number before, so that no lower one expired later
    not_later : (m : ℕ) (other : MessageId) (moment : ℕ) → m < n → In (line.Expired s m other moment) (lines_written (written_of from.source (w ∷ at.back))) → ⊥
    not_later m other moment less i = let high = k.kept from.source offered.before (offered.behind ++ back) offered.offering offered.marks offered.mark
        (source_split ∙ ap (λ ws. ws ++ back) offered.split ∙ append_assoc offered.before (offered.offering ∷ offered.behind) back) offered.offers offered.there s m other moment
        (subst (In (line.Expired s m other moment)) (sym (lines_append offered.behind back)) (in_behind (lines_written offered.behind) (lines_written back) (line.Expired s m other moment) i))
        (ap (λ (q : SequenceId). q.ordinal) sequence_is ∙ sym offered.ordinal) in let enough = offered.enough in let number = is.number_is in omega (arith, high, enough, number, less)
      where
        offered : IsOffered (written_of from.source at.front) (position_of d.head)
        offered = from.committed.offered

        back : List Written
        back = written_of from.source (w ∷ at.back)

    expired_earlier : (m : ℕ) → m < n → HasExpiredAt c s.source (place m) → AreExpiring s m before
    expired_earlier m less x = by (in_either (lines_written (written_of from.source at.front)) (lines_written (written_of from.source (w ∷ at.back))) expired
        (subst (In expired) (ap lines_written source_split ∙ lines_append (written_of from.source at.front) (written_of from.source (w ∷ at.back))) there))
      where
        found : (y : Line) × In y (mine x.manager) × (expiry_told y ≡ Some (place m))
        found = told_from expiry_told (mine x.manager) (place m) x.told

        g : (stream : Stream) × (other : MessageId) × (moment : ℕ) × (found.0 ≡ line.Expired stream m other moment) × (stream.sequence ≡ s.sequence)
        g = expiry_is found.0 (place m) found.2

        expired : Line
        expired = line.Expired s m g.1 g.2

        first : In (line.Expired g.0 m g.1 g.2) (mine from.source)
        first = subst (λ j. In (line.Expired g.0 m g.1 g.2) (mine j)) (same_source x.manager x.own found.0 found.1) (subst (λ y. In y (mine x.manager)) g.3 found.1)

        there : In expired (mine from.source)
        there = subst (λ y. In (line.Expired y m g.1 g.2) (mine from.source)) (same_expired g.0 m g.1 g.2 first g.4) first

        by : In expired (lines_written (written_of from.source at.front)) ⊎ In expired (lines_written (written_of from.source (w ∷ at.back))) → AreExpiring s m before
        by (inl i) = record { id = g.1; moment = g.2; there = front_in expired (all_of_front from.source expired i) }
        by (inr i) = absurd (not_later m g.1 g.2 less i)

    pub none_skipped : (m : ℕ) → 0 < m → m < n → AreDeciding s m before ⊎ AreExpiring s m before
    none_skipped m positive less = by (k.unskipped w.by channel (place n) m (decision_there channel w l (place n) met at.told told_as) positive less)
      where
        by : In (place m) (decisions channel (written_of w.by c.written)) ⊎ HasExpiredAt c s.source (place m) → AreDeciding s m before ⊎ AreExpiring s m before
        by (inl i) = inl (earlier m less (decision_in_all channel w.by (place m) i))
        by (inr x) = inr (expired_earlier m less x)

  -- What expired is not decided.

  pub expired_apart : (s : Stream) (n : ℕ) → AreExpiring s n all → AreDeciding s n all → ⊥
  expired_apart s n x y = k.undecided v.0.by w.0.by (record { source = s.source; destination = s.destination }) (record { sequence = s.sequence; number = n }) (ap (λ (j : Joined). j.stream.source) due.joined)
      (told_in expiry_told (mine v.0.by) (line.Expired s n x.id x.moment) (record { sequence = s.sequence; number = n }) own refl)
      (decision_there (record { source = s.source; destination = s.destination }) w.0 y.line (record { sequence = s.sequence; number = n }) w.1 w.2 (says_place s n y.id y.line y.decides))
    where
      v : (v : Written) × In v c.written × In (line.Expired s n x.id x.moment) (lines_of v.before v.entry)
      v = written_in known apart c o h (line.Expired s n x.id x.moment) x.there

      w : (w : Written) × In w c.written × In y.line (lines_of w.before w.entry)
      w = written_in known apart c o h y.line y.there

      own : In (line.Expired s n x.id x.moment) (mine v.0.by)
      own = own_line known apart c o h v.0 (line.Expired s n x.id x.moment) v.1 v.2

      due : WasDue (guid_at v.0.by) (commitments (written_of v.0.by c.written)) s n x.id x.moment
      due = k.duly v.0.by s n x.id x.moment own
