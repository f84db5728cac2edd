-- What a row keeps and was decided there, with the dead-letter bit, stands in a queue there, or its final acknowledgement waits, or no number was left for that.
use Rattle.std.proofs.Common.{refl, ap, sym, subst, ◌∙◌, arith, inl, inr}
use Rattle.std.specs.List.{AllByRecursion}
use Rattle.std.specs.Prelude.{[], ◌+◌, ◌<◌, ◌==◌, ◌∷◌, ◌≡◌, ◌⊎◌, Bool, IfSome, List, None, Option, Some, cond, false, filter, fold, length, map, not, option_map, position, slice_get, suc, true, unwrap_or, zero, ℕ}
use Rattle.mqb_base.specs.Bits.{keeps_dead}
use Rattle.mqb_base.specs.Same.{same_guid, same_name}
use Rattle.mqb_base.specs.declared.class.Class.{Class}
use Rattle.mqb_base.specs.declared.class.TheConstants.Class.{NORMAL}
use Rattle.mqb_base.specs.declared.heads.TxHead.{TxHead}
use Rattle.mqb_base.specs.declared.ids.Identity.{Identity}
use Rattle.mqb_base.specs.declared.ids.MessageId.{MessageId}
use Rattle.mqb_base.specs.declared.message.Message.{Message}
use Rattle.mqb_exactly_once.specs.Words.{In, carried, position_of}
use Rattle.mqb_exactly_once.specs.World.{Channel, Commitment, Position}
use Rattle.mqb_fate.specs.Asking.{is_transactional}
use Rattle.mqb_model.specs.managers.Manager.{Manager}
use Rattle.mqb_model.specs.records.Applying.{apply}
use Rattle.mqb_model.specs.records.Record.{Record}
use Rattle.mqb_model.specs.records.Record as entry
use Rattle.mqb_model.specs.state.Resolving.{peer_known}
use Rattle.mqb_model.specs.state.State.{State, empty}
use Rattle.mqb_network.specs.Courses.{Course, Written}
use Rattle.mqb_network.specs.Doubts.{settled}
use Rattle.mqb_network.specs.Laws.{AreApart, lines_written}
use Rattle.mqb_network.specs.Network.{formatted, manager_at, nobody, others}
use Rattle.mqb_network.specs.Runs.{after_run, beginning}
use Rattle.mqb_orders.specs.Rows.{Row}
use Rattle.mqb_orders.specs.declared.kept.Kept.{Kept}
use Rattle.mqb_packet.specs.declared.packet.UserPacket.{UserPacket}
use Rattle.mqb_plain.specs.Plain.{no_plain}
use Rattle.mqb_history.specs.Acked.{AreAcknowledgedTruly, IsDecidedThere}
use Rattle.mqb_history.specs.Awaited.{AreKeptForFates, FatesAreAwaited, IsAwaited}
use Rattle.mqb_history.specs.Committed.{commitments, numbers_in}
use Rattle.mqb_history.specs.Decided.{written_of}
use Rattle.mqb_history.specs.Expired.{expiries_told}
use Rattle.mqb_history.specs.Invariants.{AreTransactional, MachineInvariant}
use Rattle.mqb_history.specs.Orderly.{IsItself, IsOrderly}
use Rattle.mqb_history.proofs.Acting.{DecidesPacket}
use Rattle.mqb_history.proofs.Answering.{credible_begins, sound_of}
use Rattle.mqb_history.proofs.Arriving.{own_by}
use Rattle.mqb_history.proofs.Awaited.{AllAsk, HasHeard, IsEnded, IsItsNumber, IsPair, StoredApart, from_here, in_get, not_its_peer, pair_of, subject}
use Rattle.mqb_history.proofs.Believing.{position_there, same_committed}
use Rattle.mqb_history.proofs.Between.{all_in}
use Rattle.mqb_history.proofs.Committing.{IsCounted, IsOwnBelow, kept_at}
use Rattle.mqb_history.proofs.Courses.{Agrees, HeardIn, one_guid}
use Rattle.mqb_history.proofs.Crediting.{row_known}
use Rattle.mqb_history.proofs.Dismissed.{one_position, range_low}
use Rattle.mqb_history.proofs.Dismissing.{IsTelling, telling_closed}
use Rattle.mqb_history.proofs.Each.{each_begins}
use Rattle.mqb_history.proofs.Gone.{accounted_begins}
use Rattle.mqb_history.proofs.Later.{DecideIt}
use Rattle.mqb_history.proofs.Lists.{append_length, get_in, get_within, some_is, split_and, within_get}
use Rattle.mqb_history.proofs.Machine.{always_machine_invariant}
use Rattle.mqb_history.proofs.Marked.{AreMarked}
use Rattle.mqb_history.proofs.Names.{same_guid_is}
use Rattle.mqb_history.proofs.Noticed.{guid_of, heard_in}
use Rattle.mqb_history.proofs.Numbering.{AreCounted, joined_outs}
use Rattle.mqb_history.proofs.Offering.{AreOffered, offered_by_records}
use Rattle.mqb_history.proofs.Orderly.{begins_orderly, map_get}
use Rattle.mqb_history.proofs.Outside.{filtered_in}
use Rattle.mqb_history.proofs.Pending.{Asks, IsOpen, Knows}
use Rattle.mqb_history.proofs.Previous.{in_numbers}
use Rattle.mqb_history.proofs.Retaining.{IsRetained}
use Rattle.mqb_history.proofs.Runs.{always_kept}
use Rattle.mqb_history.proofs.Skipping.{Decides}
use Rattle.mqb_history.proofs.Sparing.{IsTidy}
use Rattle.mqb_history.proofs.Storage.{begins_storing}
use Rattle.mqb_history.proofs.Undecided.{IsKnown, in_decisions}
use Rattle.mqb_history.proofs.Written.{begins_with}

-- No peer stands twice.

abbrev ArePlaces : List Identity → Type 0
ArePlaces xs = (m n : ℕ) (a b : Identity) → slice_get xs m ≡ Some a → slice_get xs n ≡ Some b → a.guid ≡ b.guid → m ≡ n

suc_is : (m n : ℕ) → suc m ≡ suc n → m ≡ n
suc_is m n e = omega (arith, e)

filtered_places : (p : Identity → Bool) (xs : List Identity) → ArePlaces xs → ArePlaces (filter p xs)
filtered_places p [] h = h
filtered_places p (x ∷ xs) h = at (p x) (filtered_places p xs (λ m n a b e f g. suc_is m n (h (suc m) (suc n) a b e f g)))
  where
    behind : (n : ℕ) (b : Identity) → slice_get (filter p xs) n ≡ Some b → (k : ℕ) × (slice_get xs k ≡ Some b)
    behind n b f = in_get xs b (filtered_in p xs b (get_in (filter p xs) n b f))

    first : (a b : Identity) (n : ℕ) → Some x ≡ Some a → slice_get (filter p xs) n ≡ Some b → a.guid ≡ b.guid → ⊥
    first a b n e f g = let k = behind n b f in let same = h zero (suc k.0) a b e k.1 g in omega (arith, same)

    one : ArePlaces (filter p xs) → ArePlaces (x ∷ filter p xs)
    one rest zero zero a b e f g = refl
    one rest zero (suc n) a b e f g = absurd (first a b n e f g)
    one rest (suc m) zero a b e f g = absurd (first b a m f e (sym g))
    one rest (suc m) (suc n) a b e f g = ap (λ k. suc k) (rest m n a b e f g)

    at : (b : Bool) → ArePlaces (filter p xs) → ArePlaces (cond b (x ∷ filter p xs) (filter p xs))
    at true rest = one rest
    at false rest = rest

-- The start.

joined_lists : (s : State) (ps : List Identity) → length s.plain ≡ length s.peers → length (fold apply s (map (λ p. entry.Peer p) ps)).plain ≡ length (fold apply s (map (λ p. entry.Peer p) ps)).peers
joined_lists s [] h = h
joined_lists s (p ∷ ps) h = joined_lists (apply s (entry.Peer p)) ps
    (append_length s.plain (no_plain ∷ []) ∙ ap (λ n. n + 1) h ∙ sym (append_length s.peers (p ∷ [])))

begins_telling : (known : List Identity) → IsTelling known (beginning known)
begins_telling known = record {
  awaiting = record {
    accounted = accounted_begins known;
    credible = credible_begins known;
    storing = begins_storing known;
    stored = each_begins (StoredApart known) known;
    ended = λ i j g id of. record { knows = knows i j g id of; ends = λ ask decide. absurd decide.there };
  };
  offered = (begins_with known AreOffered offered_by_records).1;
  retained = λ i. begin_retained i;
  dismissed = λ i j g id of heard. absurd heard.there;
}
  where
    begin_retained : (i : ℕ) → AllByRecursion IsRetained (manager_at (beginning known).network i).state.outs
    begin_retained i = subst (λ o. AllByRecursion IsRetained (unwrap_or o nobody).state.outs) (sym (map_get (λ own. formatted own (others known own)) known i)) (at (slice_get known i))
      where
        at : (o : Option Identity) → AllByRecursion IsRetained (unwrap_or (option_map (λ own. formatted own (others known own)) o) nobody).state.outs
        at None = tt
        at (Some own) = subst (AllByRecursion IsRetained) (sym (joined_outs (empty own) (others known own))) tt

    knows : (i j : ℕ) (g : IsPair known i j) (id : MessageId) → id.qm ≡ g.source.guid → Knows (subject known (beginning known) i j g id) (manager_at (beginning known).network j).state
    knows i j g id of = record {
      own = ap (λ (x : Identity). x.guid) self.identity;
      index = subst (λ ps. position (λ (p : Identity). same_guid p.guid id.qm) ps ≡ Some g.index) (sym self.peers) (ap (λ n. position (λ (p : Identity). same_guid p.guid n) (others known g.own)) of ∙ g.place);
      there = subst (λ ps. slice_get ps g.index ≡ Some g.source) (sym self.peers) g.there;
      list = let lt = get_within (others known g.own) g.index g.source g.there in let same = ap length self.peers in let lists = count in omega (arith, lt, same, lists);
      late = omega arith;
    }
      where
        s : State
        s = (manager_at (beginning known).network j).state

        self : IsItself known g.own s
        self = subst (λ (x : Option Identity). IfSome x (λ y. IsItself known y s)) g.own_there ((begins_orderly known).themselves j)

        is : s ≡ (formatted g.own (others known g.own)).state
        is = ap (λ (o : Option Manager). (unwrap_or o nobody).state) (map_get (λ own. formatted own (others known own)) known j ∙ ap (option_map (λ own. formatted own (others known own))) g.own_there)

        count : length s.plain ≡ length s.peers
        count = subst (λ (t : State). length t.plain ≡ length t.peers) (sym is) (joined_lists (empty g.own) (others known g.own) refl)

-- The law.

decides_is : (r : Record) (p : UserPacket) → DecidesPacket r p → (moment : ℕ) × (numbers : List ℕ) × (r ≡ entry.Arrived moment numbers (entry.Decided p))
decides_is (entry.Arrived moment numbers (entry.Decided q)) p e = (moment, numbers, ap (λ (y : UserPacket). entry.Arrived moment numbers (entry.Decided y)) e)
decides_is r p e = absurd e

module _ (known : List Identity) (apart : AreApart known) (c : Course) (t : IsTelling known c) (transactional : AreTransactional c) (i : ℕ) (row : Row) (k : Kept) (inside : In row (manager_at c.network i).state.outs)
    (kept : In k row.kept) (dead : keeps_dead k.message ≡ true) (d : IsDecidedThere c i row k.number) where
  abbrev o : IsOrderly known c
  o = t.awaiting.accounted.agreed.0.0

  abbrev agrees : Agrees known c
  agrees = t.awaiting.accounted.agreed.1

  abbrev j : ℕ
  j = d.decider

  abbrev id : MessageId
  id = k.message.id

  abbrev here : State
  here = (manager_at c.network i).state

  abbrev cs : List Commitment
  cs = commitments (written_of i c.written)

  counted : AreCounted here (written_of i c.written)
  counted = (t.awaiting.credible.carrying.0.1 i).0.0.0.0.0

  committed : In (kept_at row k) cs
  committed = (all_in (IsCounted cs) here.outs row counted.rows inside).kept k kept

  -- Who they are.

  source : IsKnown known c i
  source = row_known known apart c (sound_of known c t.awaiting.credible) i row inside

  abbrev channel : Channel
  channel = record { source = here.identity.guid; destination = row.destination }

  abbrev place : Position
  place = record { sequence = row.sequence; number = k.number }

  found : (w : Written) × In w (written_of j c.written) × Decides channel w.entry place
  found = in_decisions channel place (written_of j c.written) d.decided

  decider : HeardIn known c.sent j found.0.entry
  decider = subst (λ n. HeardIn known c.sent n found.0.entry) (own_by j c.written found.0 found.1)
      (heard_in known apart c o agrees found.0 (filtered_in (λ (v : Written). v.by == j) c.written found.0 found.1))

  differ : i ≡ j → ⊥
  differ same = not_its_peer known apart c t.awaiting.accounted t.awaiting.credible i source.own source.there d.leads.peer row.peer d.leads.there
      (sym d.leads.is ∙ ap (λ n. (manager_at c.network n).state.identity.guid) (sym same) ∙ source.guid)

  g : IsPair known i j
  g = pair_of known apart i j source.own decider.0 source.there decider.1 differ

  back : IsPair known j i
  back = pair_of known apart j i decider.0 source.own decider.1 source.there (λ same. differ (sym same))

  source_is : g.source ≡ source.own
  source_is = some_is g.source source.own (sym g.source_there ∙ source.there)

  own_is : back.own ≡ source.own
  own_is = some_is back.own source.own (sym back.own_there ∙ source.there)

  qm : id.qm ≡ here.identity.guid
  qm = (all_in (IsOwnBelow here.identity.guid here.next_number) cs (kept_at row k) counted.own_ids committed).0

  -- What was decided.

  decided_here : (w : Written) (moment : ℕ) (numbers : List ℕ) (p : UserPacket) (head : TxHead) → In w (written_of j c.written) → w.entry ≡ entry.Arrived moment numbers (entry.Decided p) → p.tx ≡ Some head
      → p.message.id.qm ≡ here.identity.guid → (x : Commitment) × In x cs × (x.position ≡ position_of head) × (at : ℕ) × (p.message ≡ carried x.message at)
  decided_here w moment numbers p head there e tx same = from_here known apart c t.awaiting.accounted t.awaiting.credible i source.own source.there w moment numbers p head
      (filtered_in (λ (v : Written). v.by == j) c.written w there) e tx (same ∙ source.guid)

  asks : AllAsk (written_of j c.written) (subject known c i j g id)
  asks w there p head e tx same = subst (Asks (subject known c i j g id)) (sym (z.4 ∙ ap (λ (x : Commitment). carried x.message z.3) one)) (record {
    names = refl;
    ordinary = ap (λ (n : Class). n.0 == NORMAL.0) (transactional i (kept_at row k) committed).1;
    transactional = ap is_transactional (transactional i (kept_at row k) committed).0;
    dead = dead;
  })
    where
      r : (moment : ℕ) × (numbers : List ℕ) × (w.entry ≡ entry.Arrived moment numbers (entry.Decided p))
      r = decides_is w.entry p e

      z : (x : Commitment) × In x cs × (x.position ≡ position_of head) × (at : ℕ) × (p.message ≡ carried x.message at)
      z = decided_here w r.0 r.1 p head there r.2 tx (ap (λ (n : MessageId). n.qm) same ∙ qm)

      one : z.0 ≡ kept_at row k
      one = same_committed cs z.0 (kept_at row k) counted.differ z.1 committed (ap (λ (m : Message). m.id) (sym z.4) ∙ same)

  decides : DecideIt (written_of j c.written) id
  decides = let f = found.2 in let z = decided_here found.0 f.now f.numbers f.packet f.head found.1 f.entry f.there (same_guid_is f.packet.message.id.qm here.identity.guid
      (split_and (same_guid f.packet.message.id.qm here.identity.guid) (same_name f.packet.message.destination row.destination) f.inside).0) in record {
        written = found.0;
        there = found.1;
        now = f.now;
        numbers = f.numbers;
        packet = f.packet;
        head = f.head;
        entry = f.entry;
        tx = f.there;
        names = ap (λ (m : Message). m.id) z.4 ∙ ap (λ (x : Commitment). x.message.id) (one_position cs counted.numbered z.0 (kept_at row k) z.1 committed (z.2 ∙ f.position));
      }

  ended : IsEnded known c i j g id
  ended = t.awaiting.ended i j g id (qm ∙ source.guid ∙ ap (λ (x : Identity). x.guid) (sym source_is))

  -- The row leads to the manager that decided.

  peer_is : row.peer ≡ back.index
  peer_is = filtered_places (λ (p : Identity). not (same_guid p.guid source.own.guid)) known (λ m n a b e f. one_guid known m n a b apart e f) row.peer back.index d.leads.peer back.source
      (subst (λ (ps : List Identity). slice_get ps row.peer ≡ Some d.leads.peer) self.peers d.leads.there)
      (subst (λ (x : Identity). slice_get (others known x) back.index ≡ Some back.source) own_is back.there)
      (sym d.leads.is ∙ guid_of known apart c o agrees j back.source back.source_there)
    where
      self : IsItself known source.own here
      self = subst (λ (x : Option Identity). IfSome x (λ y. IsItself known y here)) source.there (o.themselves i)

  not_heard : HasHeard (written_of i c.written) g.own.guid id → ⊥
  not_heard h = t.dismissed i j back id (qm ∙ source.guid ∙ ap (λ (x : Identity). x.guid) (sym own_is))
      (subst (λ (x : Identity). HasHeard (written_of i c.written) x.guid id) (some_is g.own back.source (sym g.own_there ∙ back.source_there)) h) row k inside peer_is kept refl

  is_awaited : IsAwaited c.network i j id
  is_awaited = at (ended.ends asks decides)
    where
      at : IsOpen (subject known c i j g id) (IsItsNumber c j (subject known c i j g id)) (manager_at c.network j).state ⊎ HasHeard (written_of i c.written) g.own.guid id → IsAwaited c.network i j id
      at (inl (inl none)) = inr (inr none)
      at (inl (inr (inl (m, stands, y)))) = inl (record { queue = stands.0; there = stands.1; message = m; inside = stands.2; names = y.names })
      at (inl (inr (inr told))) = inr (inl (record {
        index = g.index;
        known = subst (λ q. peer_known (manager_at c.network j).state q ≡ Some g.index) qm ended.knows.index;
        lists = told.waits.0;
        there = told.waits.1;
        final = told.final;
        inside = told.waits.2;
        names = told.is.names;
        class = told.is.class;
      }))
      at (inr h) = absurd (not_heard h)

  -- The manager to which the row leads is that one.
  decider_is : (n : ℕ) → n < length c.network.managers → peer_known here (manager_at c.network n).state.identity.guid ≡ Some row.peer → j ≡ n
  decider_is n low e = one_guid known j n decider.0 own.0 apart decider.1 own.1
      (sym (guid_of known apart c o agrees j decider.0 decider.1) ∙ d.leads.is ∙ ap (λ (p : Identity). p.guid) (some_is d.leads.peer q.0 (sym d.leads.there ∙ q.1))
      ∙ same_guid_is q.0.guid (manager_at c.network n).state.identity.guid q.2 ∙ guid_of known apart c o agrees n own.0 own.1)
    where
      own : (own : Identity) × (slice_get known n ≡ Some own)
      own = within_get known n (subst (λ m. n < m) o.count low)

      q : (p : Identity) × (slice_get here.peers row.peer ≡ Some p) × (same_guid p.guid (manager_at c.network n).state.identity.guid ≡ true)
      q = position_there (λ (p : Identity). same_guid p.guid (manager_at c.network n).state.identity.guid) here.peers row.peer e

-- What is kept at or below the acknowledged number did not expire.
kept_for_fates : (known : List Identity) (c : Course) → IsTelling known c → AreAcknowledgedTruly c → AreKeptForFates c
kept_for_fates known c t truly i row k inside kept low = (all_in IsRetained s.outs row (t.retained i) inside k kept low, at (truly i row k.number inside above low))
  where
    s : State
    s = (manager_at c.network i).state

    ws : List Written
    ws = written_of i c.written

    marked : AreMarked s ws
    marked = t.awaiting.credible.carrying.0.1 i

    counted : AreCounted s ws
    counted = marked.0.0.0.0.0

    above : 0 < k.number
    above = let le = range_low 1 (length (numbers_in row.sequence (commitments ws))) k.number (subst (In k.number) (counted.numbered row.sequence)
        (in_numbers (commitments ws) (kept_at row k) ((all_in (IsCounted (commitments ws)) s.outs row counted.rows inside).kept k kept))) in omega (arith, le)

    tidy : IsTidy (lines_written ws) row
    tidy = all_in (IsTidy (lines_written ws)) s.outs row marked.0.1 inside

    at : IsDecidedThere c i row k.number ⊎ In (record { sequence = row.sequence; number = k.number }) (expiries_told (lines_written ws)) → IsDecidedThere c i row k.number
    at (inl d) = d
    at (inr e) = absurd (tidy.spared k kept e)

pub fates_are_awaited : FatesAreAwaited
fates_are_awaited known ms apart run kept = (
  λ i j row k low inside leads there dead d. subst (λ n. IsAwaited c.network i n k.message.id) (decider_is known apart c t all.transactional i row k inside there dead d j low leads)
      (is_awaited known apart c t all.transactional i row k inside there dead d),
  kept_for_fates known c t all.acknowledged_truly,
)
  where
    c : Course
    c = settled kept (after_run known ms)

    t : IsTelling known c
    t = always_kept known (IsTelling known) (telling_closed known apart) ms run kept (begins_telling known)

    all : MachineInvariant known c
    all = always_machine_invariant known ms apart run kept
