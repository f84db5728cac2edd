-- What the states of two managers of a run agree on of the rows that lead from one to the other: what is acknowledged was decided, what was decided was offered, and nothing of a later sequence was.
use Rattle.std.proofs.Common.{◌≡◌, ℕ, zero, suc, ◌+◌, ◌<◌, ◌≤◌, ◌==◌, ◌&&◌, ◌||◌, inl, inr, Bool, true, false, cond, not, nat_lt, List, [], ◌∷◌, Some, None, refl, sym, ap, subst, ◌∙◌, arith}
use Rattle.std.proofs.lemmas.Bool.{and_from, and_parts, ltb-true, true≢false}
use Rattle.std.proofs.lemmas.Bool.Decides.{nat_tests}
use Rattle.std.proofs.lemmas.List.Elements.{recursion_from_All}
use Rattle.std.proofs.lemmas.Option.{slice_get_past}
use Rattle.std.specs.List.{cons_option, list_any, range_with_len}
use Rattle.std.specs.Prelude.{Contains, filter_map, length, option_and_then, option_map, reverse, slice_get, unwrap_or}
use Rattle.mqb_base.specs.Same.{same_guid, same_name}
use Rattle.mqb_base.specs.Sequences.{earlier, same_sequence}
use Rattle.mqb_base.specs.declared.ids.Identity.{Identity}
use Rattle.mqb_base.specs.declared.ids.MessageId.{MessageId}
use Rattle.mqb_base.specs.declared.ids.SequenceId.{SequenceId}
use Rattle.mqb_base.specs.declared.ledger.Line.{Line}
use Rattle.mqb_base.specs.declared.ledger.Line.TheVariants as line
use Rattle.mqb_base.specs.declared.ledger.Stream.{Stream}
use Rattle.mqb_base.specs.declared.class.TheConstants.Class.{NORMAL}
use Rattle.mqb_base.specs.declared.class.Class.{Class}
use Rattle.mqb_base.specs.declared.queue_names.QueueName.{QueueName}
use Rattle.mqb_exactly_once.proofs.Members.{In_from_any, any_from_In}
use Rattle.mqb_exactly_once.proofs.Numbers.{kept_within}
use Rattle.mqb_exactly_once.proofs.Positions.{same_position_is, same_position_refl, same_sequence_is, same_sequence_refl}
use Rattle.mqb_exactly_once.specs.ExactlyOnce.{Rises}
use Rattle.mqb_exactly_once.specs.Truths.{MarksStand}
use Rattle.mqb_exactly_once.specs.Words.{In, is_committed, is_decided, is_expired, kept, last, newest, precedes, same_position}
use Rattle.mqb_exactly_once.specs.Words as world
use Rattle.mqb_exactly_once.specs.World.{Commitment, Decision, Expiry, Position, StreamWorld}
use Rattle.mqb_fate.specs.Asking.{is_ordinary}
use Rattle.mqb_history.specs.Committed.{commitments, commitments_in, number_in, numbers_in}
use Rattle.mqb_history.specs.Decided.{written_of}
use Rattle.mqb_history.specs.Invariants.{HaveStreamInvariants, MachineInvariant, StreamInvariant}
use Rattle.mqb_history.specs.Leading.{AreCommitmentsLed, AreRowsLed, IsLed}
use Rattle.mqb_history.specs.Links.{AreStreamsKept}
use Rattle.mqb_history.specs.Orderly.{IsItself}
use Rattle.mqb_history.specs.Shown.{HasMarks, Shows, channel_of, commitments_to, expiries_to, expiry_to, to_destination}
use Rattle.mqb_history.specs.Told.{Joined, commitment_told, joined_by}
use Rattle.mqb_law_progress.specs.Progress.{HasDecided}
use Rattle.mqb_model.specs.Lists.{first_where}
use Rattle.mqb_model.specs.managers.Manager.{Manager}
use Rattle.mqb_model.specs.records.Applying.{lines_of}
use Rattle.mqb_model.specs.state.Resolving.{peer_known}
use Rattle.mqb_model.specs.state.Rows.{in_row, is_row_of, stream_of}
use Rattle.mqb_model.specs.state.State.{State}
use Rattle.mqb_network.specs.Courses.{Course, Written}
use Rattle.mqb_network.specs.Laws.{AreApart, lines_written}
use Rattle.mqb_network.specs.Network.{manager_at, nobody}
use Rattle.mqb_orders.specs.Judging.{decided}
use Rattle.mqb_orders.specs.KeptLists.{numbers}
use Rattle.mqb_orders.specs.Rows.{Row}
use Rattle.mqb_orders.specs.Streams.{expired_of, kept_of, number_committed, number_expired, same_stream}
use Rattle.mqb_orders.specs.declared.kept.Kept.{Kept}
use Rattle.mqb_orders.specs.declared.rows.InRow.{InRow}
use Rattle.mqb_law_meetings.proofs.Chosen.{all_in, chosen_from, chosen_in, filter_in, flat_from, flat_in, in_contains, in_filter, in_reverse, in_reversed, map_from, map_in}
use Rattle.mqb_law_meetings.proofs.Finishing.{first_in}
use Rattle.mqb_law_meetings.proofs.HearingRow.{placed_within}
use Rattle.mqb_law_meetings.proofs.Knowing.{apart_guids, if_there}
use Rattle.mqb_law_meetings.proofs.Lists.{apart_numbers, equal_numbers, same_guid_is, same_guid_refl, same_number, within_get}
use Rattle.mqb_law_meetings.proofs.Same.{same_name_is, same_name_refl}

-- A position is of one commitment.

in_range : (a len n : ℕ) → In n (range_with_len a len) → a ≤ n
in_range a zero n inside = absurd inside
in_range a (suc len) n (inl e) = omega (arith, e)
in_range a (suc len) n (inr inside) = let h = in_range (a + 1) len n inside in omega (arith, h)

number_there : (s : SequenceId) (cs : List Commitment) (x : Commitment) → In x cs → x.position.sequence ≡ s → In x.position.number (numbers_in s cs)
number_there s cs x inside of = chosen_in (number_in s) cs x x.position.number inside
    (ap (λ b. cond b (Some x.position.number) None) (subst (λ q. same_sequence x.position.sequence q ≡ true) of (same_sequence_refl x.position.sequence)))

one_position : (s : SequenceId) (a : ℕ) (cs : List Commitment) (x y : Commitment) → numbers_in s cs ≡ range_with_len a (length (numbers_in s cs)) → In x cs → In y cs
    → x.position.sequence ≡ s → y.position.sequence ≡ s → x.position.number ≡ y.position.number → x ≡ y
one_position s a [] x y are in_x in_y of_x of_y same = absurd in_x
one_position s a (z ∷ cs) x y are in_x in_y of_x of_y same = at (same_sequence z.position.sequence s) refl are in_x in_y (λ b tail inx iny. one_position s b cs x y tail inx iny of_x of_y same)
  where
    ns : List ℕ
    ns = numbers_in s cs

    higher : (v : Commitment) → In v cs → v.position.sequence ≡ s → (b : ℕ) → ns ≡ range_with_len b (length ns) → b ≤ v.position.number
    higher v inside of b tail = in_range b (length ns) v.position.number (subst (In v.position.number) tail (number_there s cs v inside of))

    pairs : z.position.number ≡ a → ns ≡ range_with_len (a + 1) (length ns) → In x (z ∷ cs) → In y (z ∷ cs)
        → ((b : ℕ) → ns ≡ range_with_len b (length ns) → In x cs → In y cs → x ≡ y) → x ≡ y
    pairs head tail (inl e) (inl f) rest = sym e ∙ f
    pairs head tail (inl e) (inr iny) rest = absurd (let h = higher y iny of_y (a + 1) tail in let g : z.position.number ≡ x.position.number = ap (λ (v : Commitment). v.position.number) e in omega (arith, h, g, head, same))
    pairs head tail (inr inx) (inl f) rest = absurd (let h = higher x inx of_x (a + 1) tail in let g : z.position.number ≡ y.position.number = ap (λ (v : Commitment). v.position.number) f in omega (arith, h, g, head, same))
    pairs head tail (inr inx) (inr iny) rest = rest (a + 1) tail inx iny

    apart : (v : Commitment) → same_sequence z.position.sequence s ≡ false → v.position.sequence ≡ s → In v (z ∷ cs) → In v cs
    apart v is of (inl e) = absurd (true≢false (sym (subst (λ (w : Commitment). same_sequence w.position.sequence s ≡ true) (sym e) (subst (λ q. same_sequence v.position.sequence q ≡ true) of (same_sequence_refl v.position.sequence))) ∙ is))
    apart v is of (inr inside) = inside

    at : (b : Bool) → same_sequence z.position.sequence s ≡ b
        → cons_option (cond b (Some z.position.number) None) ns ≡ range_with_len a (length (cons_option (cond b (Some z.position.number) None) ns)) → In x (z ∷ cs) → In y (z ∷ cs)
        → ((b : ℕ) → ns ≡ range_with_len b (length ns) → In x cs → In y cs → x ≡ y) → x ≡ y
    at true is are inx iny rest = pairs (let head : z.position.number ≡ a = cc in head) (let tail : ns ≡ range_with_len (a + 1) (length ns) = cc in tail) inx iny rest
    at false is are inx iny rest = rest a are (apart x is of_x inx) (apart y is of_y iny)

-- What was decided last of a sequence.

none_else : (d : Decision) (ds : List Decision) (s : SequenceId) → Rises (λ (x : Decision). x.position) (d ∷ ds) → same_sequence d.position.sequence s ≡ false → earlier s d.position.sequence ≡ false → last ds s ≡ 0
none_else d ds s rises other not_later = each ds rises.0
  where
    apart : (x : Decision) → precedes x.position d.position ≡ true → same_sequence x.position.sequence s ≡ false
    apart x before = at (same_sequence x.position.sequence s) refl
      where
        at : (b : Bool) → same_sequence x.position.sequence s ≡ b → b ≡ false
        at false is = refl
        at true is = let of : x.position.sequence ≡ s = same_sequence_is x.position.sequence s is in
            absurd (tell (earlier s d.position.sequence) (same_sequence s d.position.sequence) (nat_lt x.position.number d.position.number) not_later
            (differs (same_sequence s d.position.sequence) refl) (subst (λ q. (earlier q d.position.sequence || (same_sequence q d.position.sequence && nat_lt x.position.number d.position.number)) ≡ true) of before))
          where
            differs : (b : Bool) → same_sequence s d.position.sequence ≡ b → b ≡ false
            differs false e = refl
            differs true e = absurd (true≢false (sym (subst (λ q. same_sequence q s ≡ true) (same_sequence_is s d.position.sequence e) (same_sequence_refl s)) ∙ other))

            tell : (p q r : Bool) → p ≡ false → q ≡ false → (p || (q && r)) ≡ true → ⊥
            tell true q r e f g = let no : ⊥ = cc in no
            tell false true r e f g = let no : ⊥ = cc in no
            tell false false r e f g = let no : ⊥ = cc in no

    each : (xs : List Decision) → ((y : Decision) → In y xs → precedes y.position d.position ≡ true) → last xs s ≡ 0
    each [] before = refl
    each (x ∷ xs) before = ap (λ b. cond b x.position.number (last xs s)) (apart x (before x (inl refl))) ∙ each xs (λ y inside. before y (inr inside))

-- Lines.

record IsCommittedLine (st : Stream) (l : Line) (number : ℕ) : Type 0 where
  stream : Stream
  same : same_stream st stream ≡ true
  joined : Joined
  tells : commitment_told l ≡ Some joined
  stream_is : joined.stream ≡ stream
  number_is : joined.number ≡ number

committed_line : (st : Stream) (l : Line) (number : ℕ) → number_committed st l ≡ Some number → IsCommittedLine st l number
committed_line st (line.Committed stream n id) number e = at (same_stream st stream) refl e
  where
    at : (b : Bool) → same_stream st stream ≡ b → cond b (Some n) None ≡ Some number → IsCommittedLine st (line.Committed stream n id) number
    at true is f = record { stream = stream; same = is; joined = record { stream = stream; number = n; id = id }; tells = refl; stream_is = refl; number_is = let g : n ≡ number = cc in g }
    at false is f = absurd (let none : ⊥ = cc in none)
committed_line st (line.Expired stream n id moment) number e = absurd (let none : ⊥ = cc in none)
committed_line st (line.Put stream n id) number e = absurd (let none : ⊥ = cc in none)
committed_line st (line.Refused stream n class id) number e = absurd (let none : ⊥ = cc in none)
committed_line st (line.Local id) number e = absurd (let none : ⊥ = cc in none)
committed_line st (line.Stored id) number e = absurd (let none : ⊥ = cc in none)
committed_line st (line.Bounced class id) number e = absurd (let none : ⊥ = cc in none)
committed_line st (line.Released id) number e = absurd (let none : ⊥ = cc in none)
committed_line st (line.Took id) number e = absurd (let none : ⊥ = cc in none)
committed_line st (line.Emptied id) number e = absurd (let none : ⊥ = cc in none)
committed_line st (line.Purged id) number e = absurd (let none : ⊥ = cc in none)
committed_line st (line.Lapsed id) number e = absurd (let none : ⊥ = cc in none)
committed_line st (line.Swept id) number e = absurd (let none : ⊥ = cc in none)

record IsExpiredLine (d : QueueName) (l : Line) (x : Expiry) : Type 0 where
  stream : Stream
  number : ℕ
  id : MessageId
  moment : ℕ
  line_is : l ≡ line.Expired stream number id moment
  same : same_name stream.destination d ≡ true
  position_is : x.position ≡ record { sequence = stream.sequence; number = number }

expired_line : (d : QueueName) (l : Line) (x : Expiry) → expiry_to d l ≡ Some x → IsExpiredLine d l x
expired_line d (line.Expired stream n id moment) x e = at (same_name stream.destination d) refl e
  where
    at : (b : Bool) → same_name stream.destination d ≡ b → cond b (Some (record { position = record { sequence = stream.sequence; number = n }; moment = moment })) None ≡ Some x
        → IsExpiredLine d (line.Expired stream n id moment) x
    at true is f = record {
      stream = stream;
      number = n;
      id = id;
      moment = moment;
      line_is = refl;
      same = is;
      position_is = let g : record { position = record { sequence = stream.sequence; number = n }; moment = moment } ≡ x = cc in sym (ap (λ (z : Expiry). z.position) g);
    }
    at false is f = absurd (let none : ⊥ = cc in none)
expired_line d (line.Committed stream n id) x e = absurd (let none : ⊥ = cc in none)
expired_line d (line.Put stream n id) x e = absurd (let none : ⊥ = cc in none)
expired_line d (line.Refused stream n class id) x e = absurd (let none : ⊥ = cc in none)
expired_line d (line.Local id) x e = absurd (let none : ⊥ = cc in none)
expired_line d (line.Stored id) x e = absurd (let none : ⊥ = cc in none)
expired_line d (line.Bounced class id) x e = absurd (let none : ⊥ = cc in none)
expired_line d (line.Released id) x e = absurd (let none : ⊥ = cc in none)
expired_line d (line.Took id) x e = absurd (let none : ⊥ = cc in none)
expired_line d (line.Emptied id) x e = absurd (let none : ⊥ = cc in none)
expired_line d (line.Purged id) x e = absurd (let none : ⊥ = cc in none)
expired_line d (line.Lapsed id) x e = absurd (let none : ⊥ = cc in none)
expired_line d (line.Swept id) x e = absurd (let none : ⊥ = cc in none)

-- In a course of a run.

module _ (known : List Identity) (separate : AreApart known) (c : Course) (inv : MachineInvariant known c) (worlds : HaveStreamInvariants c) (keeps : AreStreamsKept c) (led : AreCommitmentsLed c) (rows : AreRowsLed c) where
  itself : (i : ℕ) → i < length known → (x : Identity) × (slice_get known i ≡ Some x) × IsItself known x (manager_at c.network i).state
  itself i inside = let own = within_get known i inside in
      (own.0, own.1, if_there (λ x. IsItself known x (manager_at c.network i).state) (slice_get known i) own.0 own.1 (inv.orderly.themselves i))

  one_index : (i v : ℕ) → i < length known → v < length known → (manager_at c.network i).state.identity.guid ≡ (manager_at c.network v).state.identity.guid → i ≡ v
  one_index i v in_i in_v same = by (i == v) refl
    where
      one : (x : Identity) × (slice_get known i ≡ Some x) × IsItself known x (manager_at c.network i).state
      one = itself i in_i

      two : (x : Identity) × (slice_get known v ≡ Some x) × IsItself known x (manager_at c.network v).state
      two = itself v in_v

      alike : same_guid (two.0).guid (one.0).guid ≡ true
      alike = subst (λ (x : Identity). same_guid x.guid (one.0).guid ≡ true) ((two.2).identity) (subst (λ (x : Identity). same_guid (manager_at c.network v).state.identity.guid x.guid ≡ true) ((one.2).identity)
          (subst (λ g. same_guid (manager_at c.network v).state.identity.guid g ≡ true) (sym same) (same_guid_refl (manager_at c.network v).state.identity.guid)))

      by : (b : Bool) → (i == v) ≡ b → i ≡ v
      by true e = equal_numbers i v e
      by false e = absurd (true≢false (sym alike ∙ apart_guids known i v one.0 two.0 separate one.1 two.1 (apart_numbers i v e)))

  -- who commits anything is a manager
  by_manager : (w : Written) (x : Commitment) → In w c.written → In x (commitments_in w.before w.entry) → w.by < length known
  by_manager w x inside committed = at (nat_lt w.by (length known)) refl
    where
      is : IsLed c w x.message.destination
      is = led w x inside committed

      at : (b : Bool) → nat_lt w.by (length known) ≡ b → w.by < length known
      at true e = ltb-true w.by (length known) e
      at false e = absurd (let past : length c.network.managers ≤ w.by = let f = inv.orderly.count in let g : length known ≤ w.by = grind (arith, nat_tests) in omega (arith, f, g) in
          let none : manager_at c.network w.by ≡ nobody = ap (λ o. unwrap_or o nobody) (slice_get_past c.network.managers w.by past) in
          let gone : slice_get (manager_at c.network w.by).state.peers is.now.peer ≡ None = ap (λ (m : Manager). slice_get m.state.peers is.now.peer) none in
          let there = is.now.identity in let no : ⊥ = cc in no)

  module _ (i j k : ℕ) (in_i : i < length known) (in_j : j < length known) (knows : peer_known (manager_at c.network i).state (manager_at c.network j).state.identity.guid ≡ Some k) where
    abbrev s : State
    s = (manager_at c.network i).state

    abbrev t : State
    t = (manager_at c.network j).state

    abbrev mine : List Commitment
    mine = commitments (written_of i c.written)

    known_there : option_map (λ (p : Identity). p.guid) (slice_get s.peers k) ≡ Some t.identity.guid
    known_there = ap (option_map (λ (p : Identity). p.guid)) found.1 ∙ ap (λ g. Some g) (same_guid_is found.0.guid t.identity.guid
        (first_in (λ (p : Identity). same_guid p.guid t.identity.guid) s.peers found.0 (ap (option_and_then (slice_get s.peers)) knows ∙ found.1)).1)
      where
        found : (p : Identity) × (slice_get s.peers k ≡ Some p)
        found = within_get s.peers k (placed_within (λ (p : Identity). same_guid p.guid t.identity.guid) s.peers k knows)

    module _ (row : Row) (there : In row s.outs) (to : row.peer ≡ k) (n : Kept) (inside : In n row.kept) (over : row.acked < n.number) where
      abbrev m : Commitment
      m = record { position = record { sequence = row.sequence; number = n.number }; message = n.message }

      committed : In m mine
      committed = inv.kept_committed i row n there inside

      own : n.message.id.qm ≡ s.identity.guid
      own = (inv.own_below i m committed).0

      abbrev st : Stream
      st = stream_of s row

      abbrev lines : List Line
      lines = lines_written c.written

      -- the ledger tells that it was committed to the row's stream, and not that it expired
      contained : In n.number (filter_map (λ line. number_committed st line) lines) × (not (list_any (λ x. x == n.number) (expired_of st lines)) ≡ true)
      contained = filter_in (λ y. not (list_any (λ x. x == y) (expired_of st lines))) (filter_map (λ line. number_committed st line) lines) n.number
          (in_contains (kept_of st lines) n.number (all_in (λ x. row.acked < x → Contains (kept_of st lines) x) (numbers row.kept) n.number (map_in (λ (x : Kept). x.number) row.kept n inside)
          (recursion_from_All (λ x. row.acked < x → Contains (kept_of st lines) x) (numbers row.kept) (keeps i row there).only) over))

      told : (l : Line) × In l lines × (number_committed st l ≡ Some n.number)
      told = chosen_from (λ line. number_committed st line) lines n.number contained.0

      record Tells : Type 0 where
        commitment : Commitment
        among : In commitment mine
        destination : commitment.message.destination ≡ row.destination
        sequence : commitment.position.sequence ≡ row.sequence
        number : commitment.position.number ≡ n.number

      tells : Tells
      tells = by (same_stream st of.stream) refl
        where
          of : IsCommittedLine st told.0 n.number
          of = committed_line st told.0 n.number told.2

          from_record : (w : Written) × In w c.written × In told.0 (lines_of w.before w.entry)
          from_record = flat_from (λ (w : Written). lines_of w.before w.entry) c.written told.0 told.1

          joined : (x : Commitment) × In x (commitments (written_of from_record.0.by c.written)) × (joined_by (manager_at c.network from_record.0.by).state.identity.guid x ≡ of.joined)
          joined = map_from (joined_by (manager_at c.network from_record.0.by).state.identity.guid) (commitments (written_of from_record.0.by c.written)) of.joined
              (subst (In of.joined) (inv.commitments_are_told from_record.0.by) (chosen_in commitment_told (lines_written (written_of from_record.0.by c.written)) told.0 of.joined
              (flat_in (λ (w : Written). lines_of w.before w.entry) (written_of from_record.0.by c.written) from_record.0 told.0
              (in_filter (λ (w : Written). w.by == from_record.0.by) c.written from_record.0 from_record.1 (same_number from_record.0.by)) from_record.2) of.tells))

          its_record : (w : Written) × In w (written_of from_record.0.by c.written) × In joined.0 (commitments_in w.before w.entry)
          its_record = flat_from (λ (w : Written). commitments_in w.before w.entry) (written_of from_record.0.by c.written) joined.0 joined.1

          its_own : In its_record.0 c.written × ((its_record.0.by == from_record.0.by) ≡ true)
          its_own = filter_in (λ (w : Written). w.by == from_record.0.by) c.written its_record.0 its_record.1

          within : from_record.0.by < length known
          within = subst (λ v. v < length known) (equal_numbers its_record.0.by from_record.0.by its_own.1) (by_manager its_record.0 joined.0 its_own.0 its_record.2)

          by : (b : Bool) → same_stream st of.stream ≡ b → Tells
          by false e = absurd (true≢false (sym of.same ∙ e))
          by true e =
              let parts = and_parts (same_guid st.source of.stream.source) (same_name st.destination of.stream.destination && same_sequence st.sequence of.stream.sequence) of.same in
              let rest = and_parts (same_name st.destination of.stream.destination) (same_sequence st.sequence of.stream.sequence) parts.1 in
              let guid : s.identity.guid ≡ (manager_at c.network from_record.0.by).state.identity.guid = same_guid_is st.source of.stream.source parts.0 ∙ sym (ap (λ (x : Joined). x.stream.source) joined.2 ∙ ap (λ (x : Stream). x.source) of.stream_is) in
              let index : from_record.0.by ≡ i = sym (one_index i from_record.0.by in_i within guid) in record {
                commitment = joined.0;
                among = subst (λ v. In joined.0 (commitments (written_of v c.written))) index joined.1;
                destination = ap (λ (x : Joined). x.stream.destination) joined.2 ∙ ap (λ (x : Stream). x.destination) of.stream_is ∙ sym (same_name_is st.destination of.stream.destination rest.0);
                sequence = ap (λ (x : Joined). x.stream.sequence) joined.2 ∙ ap (λ (x : Stream). x.sequence) of.stream_is ∙ sym (same_sequence_is st.sequence of.stream.sequence rest.1);
                number = ap (λ (x : Joined). x.number) joined.2 ∙ of.number_is;
              }

      destination : n.message.destination ≡ row.destination
      destination = ap (λ (x : Commitment). x.message.destination) (sym (one_position row.sequence 1 mine tells.commitment m ((inv.committed_in_order i).numbered row.sequence)
          tells.among committed tells.sequence refl tells.number)) ∙ tells.destination

      abbrev d : QueueName
      d = row.destination

      shown : (w : StreamWorld) × Shows c i j d w × StreamInvariant w
      shown = worlds i j d (record {
        there = subst (λ v. j < v) (sym inv.orderly.count) in_j;
        peer = row.peer;
        target = rows i row there;
        identity = ap (λ v. option_map (λ (p : Identity). p.guid) (slice_get s.peers v)) to ∙ known_there;
      })

      abbrev w : StreamWorld
      w = shown.0

      committed_there : is_committed w.committed m.position ≡ true
      committed_there = ap (λ cs. is_committed cs m.position) ((shown.1).at_source.commits)
          ∙ any_from_In (λ (x : Commitment). same_position x.position m.position) m (reverse (commitments_to d mine)) (in_reverse (commitments_to d mine) m (chosen_in (to_destination d) mine m m committed
          (ap (λ b. cond b (Some m) None) (ap (λ q. same_name q d) destination ∙ same_name_refl d)))) (same_position_refl m.position)

      -- a line that says that it expired would be among those of the row's stream
      module _ (x : Expiry) (expired : In x (expiries_to d (lines_written (written_of i c.written)))) (here : x.position ≡ m.position) where
        abbrev of_source : List Line
        of_source = lines_written (written_of i c.written)

        from_line : (l : Line) × In l of_source × (expiry_to d l ≡ Some x)
        from_line = chosen_from (expiry_to d) of_source x expired

        is : IsExpiredLine d from_line.0 x
        is = expired_line d from_line.0 x from_line.2

        abbrev said : Line
        said = line.Expired is.stream is.number is.id is.moment

        line_in : In said of_source
        line_in = subst (λ l. In l of_source) is.line_is from_line.1

        sequence : is.stream.sequence ≡ row.sequence
        sequence = ap (λ (p : Position). p.sequence) (sym is.position_is ∙ here)

        number : is.number ≡ n.number
        number = ap (λ (p : Position). p.number) (sym is.position_is ∙ here)

        source : s.identity.guid ≡ is.stream.source
        source = ap (λ (z : Joined). z.stream.source) (inv.expired_duly i is.stream is.number is.id is.moment line_in).joined

        record_of : (v : Written) × In v (written_of i c.written) × In said (lines_of v.before v.entry)
        record_of = flat_from (λ (v : Written). lines_of v.before v.entry) (written_of i c.written) said line_in

        everywhere : In said lines
        everywhere = flat_in (λ (v : Written). lines_of v.before v.entry) c.written record_of.0 said (filter_in (λ (v : Written). v.by == i) c.written record_of.0 record_of.1).0 record_of.2

        alike : same_stream st is.stream ≡ true
        alike = and_from (same_guid s.identity.guid is.stream.source) (same_name d is.stream.destination && same_sequence row.sequence is.stream.sequence)
            (subst (λ g. same_guid s.identity.guid g ≡ true) source (same_guid_refl s.identity.guid))
            (and_from (same_name d is.stream.destination) (same_sequence row.sequence is.stream.sequence)
            (subst (λ q. same_name d q ≡ true) (sym (same_name_is is.stream.destination d is.same)) (same_name_refl d))
            (subst (λ q. same_sequence row.sequence q ≡ true) (sym sequence) (same_sequence_refl row.sequence)))

        among : In is.number (expired_of st lines)
        among = chosen_in (λ line. number_expired st line) lines said is.number everywhere (ap (λ b. cond b (Some is.number) None) alike)

        none_expired : ⊥
        none_expired = true≢false (sym contained.1 ∙ ap not (any_from_In (λ z. z == n.number) is.number (expired_of st lines) among
            (subst (λ z. (z == n.number) ≡ true) (sym number) (same_number n.number))))

      unexpired : is_expired w.expired m.position ≡ false
      unexpired = at (is_expired w.expired m.position) refl
        where
          gone : is_expired w.expired m.position ≡ true → ⊥
          gone e = none_expired found.0 (in_reversed (expiries_to d written) found.0 (subst (In found.0) ((shown.1).at_source.expiries) found.1)) (same_position_is found.0.position m.position found.2)
            where
              written : List Line
              written = lines_written (written_of i c.written)

              found : (x : Expiry) × In x w.expired × (same_position x.position m.position ≡ true)
              found = In_from_any (λ (x : Expiry). same_position x.position m.position) w.expired e

          at : (b : Bool) → is_expired w.expired m.position ≡ b → b ≡ false
          at true e = absurd (gone e)
          at false e = refl

      kept_there : kept w m.position ≡ true
      kept_there = ap (λ b. b && not (is_expired w.expired m.position)) committed_there ∙ ap not unexpired

      marks : HasMarks w.offered w.acknowledged row
      marks = (shown.1).at_source.marks row there refl

      in_row_is : in_row t n.message ≡ world.row (channel_of c.network i d) w.decided
      in_row_is = ap (λ g. first_where (is_row_of g n.message.destination) t.ins) own ∙ ap (λ q. first_where (is_row_of s.identity.guid q) t.ins) destination ∙ (shown.1).at_destination.row

      stands : (q : SequenceId) → MarksStand w q
      stands = (shown.2).marks_stand

      -- what the destination's row says
      module _ (x : Decision) (xs : List Decision) (are : w.decided ≡ x ∷ xs) where
        last_is : last w.decided x.position.sequence ≡ x.position.number
        last_is = ap (λ ds. last ds x.position.sequence) are ∙ ap (λ b. cond b x.position.number (last xs x.position.sequence)) (same_sequence_refl x.position.sequence)

        some : 0 < x.position.number
        some = (kept_within w.committed w.expired x.position (shown.2).numbered ((((shown.2).decided_up_to_last x.position).0 decided_is).0)).0
          where
            decided_is : is_decided w.decided x.position ≡ true
            decided_is = ap (λ ds. is_decided ds x.position) are ∙ ap (λ b. b || is_decided xs x.position) (same_position_refl x.position)

        -- nothing of a later sequence was decided
        not_later : earlier row.sequence x.position.sequence ≡ false
        not_later = at (earlier row.sequence x.position.sequence) refl
          where
            at : (b : Bool) → earlier row.sequence x.position.sequence ≡ b → b ≡ false
            at false e = refl
            at true e = absurd (
                let offered = (stands x.position.sequence).decided_was_offered in let l = last_is in let z = some in
                let most = (shown.2).begun_in_order x.position.sequence (omega (arith, offered, l, z)) m.position e kept_there in
                let a = marks.acks in omega (arith, most, a, over))

        reached : row.acked ≤ decided (Some (record { source = s.identity.guid; destination = d; sequence = x.position.sequence; last = x.position.number })) row.sequence
        reached = at (same_sequence x.position.sequence row.sequence) refl
          where
            acked : row.acked ≤ last (x ∷ xs) row.sequence
            acked = let h = (stands row.sequence).acknowledged_was_decided in let a = marks.acks in let e : last w.decided row.sequence ≡ last (x ∷ xs) row.sequence = ap (λ ds. last ds row.sequence) are in
                omega (arith, h, a, e)

            at : (b : Bool) → same_sequence x.position.sequence row.sequence ≡ b → row.acked ≤ cond b x.position.number 0
            at true e = subst (λ z. row.acked ≤ z) (ap (λ b. cond b x.position.number (last xs row.sequence)) e) acked
            at false e = subst (λ z. row.acked ≤ z) (ap (λ b. cond b x.position.number (last xs row.sequence)) e
                ∙ none_else x xs row.sequence (subst (Rises (λ (y : Decision). y.position)) are (shown.2).decided_in_order) e not_later) acked

      pub has_decided : HasDecided row (in_row t n.message)
      has_decided = subst (HasDecided row) (sym in_row_is) (by w.decided refl)
        where
          by : (ds : List Decision) → w.decided ≡ ds → HasDecided row (world.row (channel_of c.network i d) ds)
          by [] e = record {
            acknowledged = let h = (stands row.sequence).acknowledged_was_decided in let a = marks.acks in let f : last w.decided row.sequence ≡ 0 = ap (λ ds. last ds row.sequence) e in omega (arith, h, a, f);
            none_later = tt;
          }
          by (x ∷ xs) e = record { acknowledged = reached x xs e; none_later = not_later x xs e }

      pub was_offered : (r : InRow) → in_row t n.message ≡ Some r → r.sequence ≡ row.sequence → r.last ≤ row.offered
      was_offered r found same = by w.decided refl (sym in_row_is ∙ found)
        where
          by : (ds : List Decision) → w.decided ≡ ds → world.row (channel_of c.network i d) ds ≡ Some r → r.last ≤ row.offered
          by [] e f = absurd (let none : ⊥ = cc in none)
          by (x ∷ xs) e f =
              let is : record { source = s.identity.guid; destination = d; sequence = x.position.sequence; last = x.position.number } ≡ r = cc in
              let sequence : x.position.sequence ≡ row.sequence = ap (λ (z : InRow). z.sequence) is ∙ same in
              let number : x.position.number ≡ r.last = ap (λ (z : InRow). z.last) is in
              let l = last_is x xs e in let o = (stands x.position.sequence).decided_was_offered in
              let a : w.offered x.position.sequence ≡ row.offered = ap w.offered sequence ∙ marks.offers in omega (arith, number, l, o, a)

      pub ordinary : is_ordinary n.message ≡ true
      ordinary = ap (λ (z : Class). z.0 == NORMAL.0) (inv.transactional i m committed).1
