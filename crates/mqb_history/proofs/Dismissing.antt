-- Each change keeps that what a stored final acknowledgement names no row to its sender keeps any more.
use Rattle.std.proofs.Common.{refl, ap, sym, subst, ◌∙◌, arith, inl, inr}
use Rattle.std.specs.List.{AllByRecursion}
use Rattle.std.specs.Prelude.{[], ◌++◌, ◌<◌, ◌==◌, ◌∷◌, ◌≡◌, ◌≤◌, ◌⊎◌, IfSome, List, Option, Some, position, slice_get, suc, true, ℕ}
use Rattle.mqb_base.specs.Same.{same_guid}
use Rattle.mqb_base.specs.declared.class.TheConstants.Class.{NORMAL}
use Rattle.mqb_base.specs.declared.ids.Guid.{Guid}
use Rattle.mqb_base.specs.declared.ids.Identity.{Identity}
use Rattle.mqb_base.specs.declared.ids.MessageId.{MessageId}
use Rattle.mqb_base.specs.declared.ids.SequenceId.{SequenceId}
use Rattle.mqb_entries.specs.declared.members.Mark.{Mark}
use Rattle.mqb_exactly_once.specs.Words.{In}
use Rattle.mqb_exactly_once.specs.World.{Commitment, Position}
use Rattle.mqb_fate.specs.Asking.{is_ordinary}
use Rattle.mqb_fate.specs.Orders.{is_final_class}
use Rattle.mqb_model.specs.records.Applying.{apply}
use Rattle.mqb_model.specs.records.Record.{Record}
use Rattle.mqb_model.specs.records.Record as entry
use Rattle.mqb_model.specs.records.Releases.{releases_made}
use Rattle.mqb_model.specs.rules.Effects.{begun}
use Rattle.mqb_model.specs.state.State.{State}
use Rattle.mqb_network.specs.Courses.{Course, Written}
use Rattle.mqb_network.specs.Laws.{AreApart}
use Rattle.mqb_network.specs.Network.{Note, manager_at, others}
use Rattle.mqb_orders.specs.Rows.{Row}
use Rattle.mqb_orders.specs.declared.kept.Kept.{Kept}
use Rattle.mqb_packet.specs.declared.packet.Packet.TheVariants as packet
use Rattle.mqb_packet.specs.declared.packet.UserPacket.{UserPacket}
use Rattle.mqb_history.specs.Carried.{ComesFromItsSource}
use Rattle.mqb_history.specs.Changes.{Change, changed, may_change}
use Rattle.mqb_history.specs.Committed.{commitments, commitments_in}
use Rattle.mqb_history.specs.Decided.{written_of}
use Rattle.mqb_history.specs.Made.{IsMade}
use Rattle.mqb_history.specs.Orderly.{IsItself, IsOrderly}
use Rattle.mqb_history.proofs.Accounts.{HeardBy}
use Rattle.mqb_history.proofs.Applying.{applied_manager, made_of_no_peer, releases_rows}
use Rattle.mqb_history.proofs.Awaited.{HasHeard, IsAwaiting, IsPair, in_get}
use Rattle.mqb_history.proofs.Believing.{same_committed}
use Rattle.mqb_history.proofs.Between.{all_in}
use Rattle.mqb_history.proofs.Carrying.{carrying_decided, numbered_suc}
use Rattle.mqb_history.proofs.Committing.{IsCounted, in_append, in_split, kept_at}
use Rattle.mqb_history.proofs.Courses.{HeardIn, one_guid}
use Rattle.mqb_history.proofs.Dismissed.{Gone, final_gone, gone_allows, row_low, row_number}
use Rattle.mqb_history.proofs.Ended.{awaiting_now, heard_before}
use Rattle.mqb_history.proofs.Keeping.{IsClosed}
use Rattle.mqb_history.proofs.Later.{DecideIt, IsNote, IsUnused, Known, unused_grows}
use Rattle.mqb_history.proofs.Lists.{clash, equal_numbers, get_within, within_get}
use Rattle.mqb_history.proofs.Marked.{AreMarked, marked_by_records}
use Rattle.mqb_history.proofs.Noticed.{guid_of}
use Rattle.mqb_history.proofs.Numbering.{AreCounted, commitments_more}
use Rattle.mqb_history.proofs.Offering.{AllStand, AreOffered, StandsIn, marks_in, offered_by_records}
use Rattle.mqb_history.proofs.Outside.{filtered_in}
use Rattle.mqb_history.proofs.Recorded.{IsPlainPacket}
use Rattle.mqb_history.proofs.Retaining.{IsRetained, retained_now}
use Rattle.mqb_history.proofs.Rowwise.{applied_each}
use Rattle.mqb_history.proofs.Skipping.{sourced}
use Rattle.mqb_history.proofs.Staying.{HasSameRows}
use Rattle.mqb_history.proofs.StoredByPeer.{middle_in}
use Rattle.mqb_history.proofs.Undecided.{IsKnown, committed_one}
use Rattle.mqb_history.proofs.Written.{IsLasting, change_keeps, change_lasts}

-- A message was committed by these records, and offered.
pub record WasOffered (ws : List Written) (id : MessageId) : Type 0 where
  pub commitment : Commitment
  pub inside : In commitment (commitments ws)
  pub names : commitment.message.id ≡ id
  pub offering : Written
  pub there : In offering ws
  pub marks : List Mark
  pub offers : offering.entry ≡ entry.Offered marks
  pub mark : Mark
  pub is : In mark marks
  pub ordinal : mark.ordinal ≡ commitment.position.sequence.ordinal
  pub enough : commitment.position.number ≤ mark.number

-- or no transaction has its number
abbrev Has : State → List Written → MessageId → Type 0
Has s ws id = IsUnused s ws id.number ⊎ WasOffered ws id

-- no row to a peer keeps it
abbrev pub NoneKept : State → ℕ → MessageId → Type 0
NoneKept s index id = (row : Row) (k : Kept) → In row s.outs → row.peer ≡ index → In k row.kept → k.message.id ≡ id → ⊥

-- a final acknowledgement of a manager that names it was sent
record WasSent (c : Course) (sender : Guid) (id : MessageId) : Type 0 where
  pub user : UserPacket
  pub sent : In (packet.User user) c.sent
  pub plain : IsPlainPacket user
  pub from : user.message.id.qm ≡ sender
  pub names : user.message.correlation ≡ id
  pub class : is_final_class user.message.class ≡ true

stand_at : (s : State) (ws : List Written) (w : Written) → AllStand s ws → In w ws → AllByRecursion (StandsIn s) (marks_in w.entry)
stand_at s [] w h i = absurd i
stand_at s (v ∷ ws) w h (inl e) = subst (λ (y : Written). AllByRecursion (StandsIn s) (marks_in y.entry)) e h.0
stand_at s (v ∷ ws) w h (inr i) = stand_at s ws w h.1 i

-- its mark stands
mark_stands : (s : State) (ws : List Written) (id : MessageId) (h : WasOffered ws id) → AllStand s ws → StandsIn s h.mark
mark_stands s ws id h all = all_in (StandsIn s) h.marks h.mark (subst (λ r. AllByRecursion (StandsIn s) (marks_in r)) h.offers (stand_at s ws h.offering all h.there)) h.is

committed_more : (ws : List Written) (w : Written) (x : Commitment) → In x (commitments ws) → In x (commitments (ws ++ w ∷ []))
committed_more ws w x inside = subst (In x) (sym (commitments_more ws w)) (in_append (commitments ws) (commitments_in w.before w.entry) x inside)

offered_more : (ws : List Written) (w : Written) (id : MessageId) → WasOffered ws id → WasOffered (ws ++ w ∷ []) id
offered_more ws w id h = record {
  commitment = h.commitment;
  inside = committed_more ws w h.commitment h.inside;
  names = h.names;
  offering = h.offering;
  there = in_append ws (w ∷ []) h.offering h.there;
  marks = h.marks;
  offers = h.offers;
  mark = h.mark;
  is = h.is;
  ordinal = h.ordinal;
  enough = h.enough;
}

-- no row keeps a message of no transaction
none_unused : (s : State) (ws : List Written) (index : ℕ) (id : MessageId) → AreCounted s ws → IsUnused s ws id.number → NoneKept s index id
none_unused s ws index id counted unused row k i p j e = unused.uncommitted (kept_at row k) ((all_in (IsCounted (commitments ws)) s.outs row counted.rows i).kept k j) (ap (λ (x : MessageId). x.number) e)

module _ (s : State) (ws : List Written) (index : ℕ) (x : Commitment) (marked : AreMarked s ws) (inside : In x (commitments ws)) where
  abbrev IsGone : Row → Type 0
  IsGone = Gone index x.position.sequence x.position.number

  -- by its identifier, and by its number
  from_gone : AllByRecursion IsGone s.outs → NoneKept s index x.message.id
  from_gone gone row k i p j e = (all_in IsGone s.outs row gone i p (ap (λ (c : Commitment). c.position.sequence.ordinal) same)).1 k j (ap (λ (c : Commitment). c.position.number) same)
    where
      counted : AreCounted s ws
      counted = marked.0.0.0.0.0

      same : kept_at row k ≡ x
      same = same_committed (commitments ws) (kept_at row k) x counted.differ ((all_in (IsCounted (commitments ws)) s.outs row counted.rows i).kept k j) inside e

-- What is known of a course.
pub record IsTelling (known : List Identity) (c : Course) : Type 0 where
  pub awaiting : IsAwaiting known c
  pub offered : (i : ℕ) → AreOffered (manager_at c.network i).state (written_of i c.written)
  pub retained : (i : ℕ) → AllByRecursion IsRetained (manager_at c.network i).state.outs
  pub dismissed : (i j : ℕ) (g : IsPair known j i) (id : MessageId) → id.qm ≡ g.own.guid → HasHeard (written_of i c.written) g.source.guid id → NoneKept (manager_at c.network i).state g.index id

module _ (known : List Identity) (apart : AreApart known) (c : Course) (t : IsTelling known c) (x : Change) (may : may_change c x ≡ true) where
  abbrev d : Course
  d = changed x c

  abbrev o : IsOrderly known c
  o = t.awaiting.accounted.agreed.0.0

  module _ (i j : ℕ) (g : IsPair known j i) (id : MessageId) (of : id.qm ≡ g.own.guid) where
    abbrev now : State
    now = (manager_at c.network i).state

    abbrev mine : List Written
    mine = written_of i c.written

    guid_here : now.identity.guid ≡ g.own.guid
    guid_here = guid_of known apart c o t.awaiting.accounted.agreed.1 i g.own g.own_there

    -- What such an acknowledgement names was committed here and offered, or is of no transaction.
    origin : WasSent c g.source.guid id → Has now mine id
    origin w = by note_is.about
      where
        place : (n : ℕ) × (slice_get c.sent n ≡ Some (packet.User w.user))
        place = in_get c.sent (packet.User w.user) w.sent

        note : (y : Note) × (slice_get c.network.notes place.0 ≡ Some y)
        note = within_get c.network.notes place.0 (let lt = get_within c.sent place.0 (packet.User w.user) place.1 in let same = o.noted in omega (arith, lt, same))

        note_is : IsNote known c note.0.sender w.user
        note_is = ((t.awaiting.credible.honest.packets (suc place.0) note.0 w.user (numbered_suc c.network.notes place.0 ∙ note.1) (numbered_suc c.sent place.0 ∙ place.1)).plain w.plain.0).plain w.plain.1

        not_ordinary : w.user.message.class.0 ≡ NORMAL.0 → is_final_class w.user.message.class ≡ true → ⊥
        not_ordinary e f = clash (sym (subst (λ n. is_final_class (record { 0 = n }) ≡ true) e f))

        decided : DecideIt (written_of note.0.sender c.written) w.user.message.correlation → WasOffered mine id
        decided y = record {
          commitment = m;
          inside = subst (λ k. In m (commitments (written_of k c.written))) at_own source.committed.there;
          names = ap (λ z. z.id) (sym source.committed.message) ∙ y.names ∙ w.names;
          offering = source.committed.offered.offering;
          there = subst (λ k. In source.committed.offered.offering (written_of k c.written)) at_own
              (subst (In source.committed.offered.offering) (sym source.committed.offered.split) (middle_in source.committed.offered.before source.committed.offered.behind source.committed.offered.offering));
          marks = source.committed.offered.marks;
          offers = source.committed.offered.offers;
          mark = source.committed.offered.mark;
          is = source.committed.offered.there;
          ordinal = source.committed.offered.ordinal ∙ ap (λ (q : Position). q.sequence.ordinal) (sym source.committed.position);
          enough = let le = source.committed.offered.enough in let same = ap (λ (q : Position). q.number) source.committed.position in omega (arith, le, same);
        }
          where
            source : ComesFromItsSource c c.written y.packet y.head
            source = sourced c (carrying_decided known c t.awaiting.credible.carrying) y.written (filtered_in (λ (v : Written). v.by == note.0.sender) c.written y.written y.there) y.now y.numbers y.packet y.head y.entry y.tx

            m : Commitment
            m = source.committed.commitment

            who : IsKnown known c source.source
            who = committed_one known c source.source m o (t.awaiting.credible.carrying.0.1 source.source).0.0.0 source.committed.there

            at_own : source.source ≡ i
            at_own = one_guid known source.source i who.own g.own apart who.there g.own_there
                (sym (guid_of known apart c o t.awaiting.accounted.agreed.1 source.source who.own who.there) ∙ source.own ∙ ap (λ (n : MessageId). n.qm) (y.names ∙ w.names) ∙ of)

        by : (is_ordinary w.user.message ≡ true) ⊎ Known known c note.0.sender w.user.message.correlation → Has now mine id
        by (inl e) = absurd (not_ordinary (equal_numbers w.user.message.class.0 NORMAL.0 e) w.class)
        by (inr (inl e)) = absurd (g.differ (one_guid known j i g.source g.own apart g.source_there g.own_there
            (sym w.from ∙ note_is.source ∙ sym e ∙ ap (λ (n : MessageId). n.qm) w.names ∙ of)))
        by (inr (inr (inl y))) = inr (decided y)
        by (inr (inr (inr u))) = inl (subst (λ (n : MessageId). IsUnused now mine n.number) w.names
            (u i (get_within known i g.own g.own_there) (guid_here ∙ sym of ∙ ap (λ (n : MessageId). n.qm) (sym w.names))))

    abbrev Right : List Written → Type 0
    Right ws = (w : Written) → In w ws → HeardIn known c.sent w.by w.entry

    was_sent : (ws : List Written) → Right ws → HasHeard ws g.source.guid id → WasSent c g.source.guid id
    was_sent ws right h = let heard = right h.written h.there in let f = subst (λ r. HeardBy c.sent heard.0.guid r) h.entry heard.2 in
        record { user = h.packet; sent = f.0; plain = f.2; from = h.from; names = h.names; class = f.3 }

    -- what holds of the manager
    record Holds (s : State) (ws : List Written) : Type 0 where
      pub marked : AreMarked s ws
      pub offered : AreOffered s ws
      pub peers : s.peers ≡ others known g.own
      pub has : WasSent c g.source.guid id → Has s ws id
      pub none : Right ws → HasHeard ws g.source.guid id → NoneKept s g.index id

    abbrev Follows : ℕ → State → List Written → Type 0
    Follows k s ws = k ≡ i → Holds s ws

    holds_quiet : (a b : State) (ws : List Written) → HasSameRows a b → Holds a ws → Holds b ws
    holds_quiet a b ws same h = record {
      marked = marked_by_records.quiet a b ws same h.marked;
      offered = offered_by_records.quiet a b ws same h.offered;
      peers = same.manager.peers ∙ h.peers;
      has = λ w. at (h.has w);
      none = λ right heard row k inside. h.none right heard row k (subst (In row) same.outs inside);
    }
      where
        at : Has a ws id → Has b ws id
        at (inl u) = inl (record { below = let lt = u.below in let le = same.numbers in omega (arith, lt, le); uncommitted = u.uncommitted })
        at (inr y) = inr y

    module _ (k : ℕ) (s : State) (r : Record) (ws : List Written) (made : IsMade s r) (h : Holds s ws) where
      abbrev w : Written
      w = record { by = k; before = s; entry = r }

      abbrev after : List Written
      after = ws ++ w ∷ []

      marked_now : AreMarked (apply s r) after
      marked_now = marked_by_records.grows k s r ws made h.marked

      has_now : WasSent c g.source.guid id → Has (apply s r) after id
      has_now sent = at (h.has sent)
        where
          at : Has s ws id → Has (apply s r) after id
          at (inl u) = inl (unused_grows k s r ws id.number made u)
          at (inr y) = inr (offered_more ws w id y)

      -- it was heard before
      still : Right ws → HasHeard ws g.source.guid id → Has s ws id → NoneKept (apply s r) g.index id
      still right heard (inl u) = none_unused (apply s r) after g.index id marked_now.0.0.0.0.0 (unused_grows k s r ws id.number made u)
      still right heard (inr y) = subst (NoneKept (apply s r) g.index) y.names (from_gone (apply s r) after g.index y.commitment marked_now (committed_more ws w y.commitment y.inside)
          (applied_each (Gone g.index q n) s r (gone_allows g.index q n s r given) (gone_before s.outs (λ row inside. inside))))
        where
          q : SequenceId
          q = y.commitment.position.sequence

          n : ℕ
          n = y.commitment.position.number

          counted : AreCounted s ws
          counted = h.marked.0.0.0.0.0

          given : q.ordinal < s.next_ordinal
          given = all_in (λ (z : Commitment). z.position.sequence.ordinal < s.next_ordinal) (commitments ws) y.commitment counted.given y.inside

          one : (row : Row) → In row s.outs → Gone g.index q n row
          one row inside p e = (
            row_low s ws y.commitment h.marked y.inside row inside e,
            λ z i number. h.none right heard row z inside p i (ap (λ (b : Commitment). b.message.id) (row_number s ws y.commitment h.marked y.inside row inside z i e number) ∙ y.names),
          )

          gone_before : (rows : List Row) → ((row : Row) → In row rows → In row s.outs) → AllByRecursion (Gone g.index q n) rows
          gone_before [] sub = tt
          gone_before (row ∷ rows) sub = (one row (sub row (inl refl)), gone_before rows (λ z i. sub z (inr i)))

      -- it is heard by this record
      finished : (moment : ℕ) (numbers : List ℕ) (p : UserPacket) → r ≡ entry.Arrived moment numbers (entry.Final p) → p.message.id.qm ≡ g.source.guid → p.message.correlation ≡ id → Has s ws id → NoneKept (apply s r) g.index id
      finished moment numbers p e from names (inl u) = none_unused (apply s r) after g.index id marked_now.0.0.0.0.0 (unused_grows k s r ws id.number made u)
      finished moment numbers p e from names (inr y) = subst (NoneKept (apply s r) g.index) y.names (from_gone (apply s r) after g.index y.commitment marked_now (committed_more ws w y.commitment y.inside)
          (subst (λ z. AllByRecursion (Gone g.index y.commitment.position.sequence y.commitment.position.number) (apply s z).outs) (sym e)
          (final_gone g.index released ws p.message y.commitment y.mark at_released.marked y.inside (y.names ∙ sym names) (mark_stands released ws id y at_released.offered.stand).offered y.ordinal y.enough
          (subst (λ ps. position (λ (q : Identity). same_guid q.guid p.message.id.qm) ps ≡ Some g.index) (sym at_released.peers) (ap (λ n. position (λ (q : Identity). same_guid q.guid n) (others known g.own)) from ∙ g.place)))))
        where
          released : State
          released = (releases_made s numbers).state

          at_released : Holds released ws
          at_released = holds_quiet s released ws (releases_rows (begun s) numbers) h

      holds_grows : Holds (apply s r) after
      holds_grows = record {
        marked = marked_now;
        offered = offered_by_records.grows k s r ws made h.offered;
        peers = (applied_manager s r (made_of_no_peer s r made)).peers ∙ h.peers;
        has = has_now;
        none = λ right heard. at right heard (in_split ws (w ∷ []) heard.written heard.there);
      }
        where
          at : Right after → (heard : HasHeard after g.source.guid id) → In heard.written ws ⊎ In heard.written (w ∷ []) → NoneKept (apply s r) g.index id
          at right heard (inl i) = let before : HasHeard ws g.source.guid id = record { written = heard.written; there = i; now = heard.now; numbers = heard.numbers; packet = heard.packet; entry = heard.entry; from = heard.from; names = heard.names } in
              let old : Right ws = λ v inside. right v (in_append ws (w ∷ []) v inside) in still old before (h.has (was_sent ws old before))
          at right heard (inr (inl same)) = finished heard.now heard.numbers heard.packet (ap (λ (v : Written). v.entry) same ∙ heard.entry) heard.from heard.names (h.has (was_sent after right heard))
          at right heard (inr (inr none)) = absurd none

    lasting : IsLasting Follows
    lasting = record {
      quiet = λ k a b ws same f e. holds_quiet a b ws same (f e);
      grows = λ k s r ws made f e. holds_grows k s r ws made (f e);
    }

    dismissed_now : HasHeard (written_of i d.written) g.source.guid id → NoneKept (manager_at d.network i).state g.index id
    dismissed_now heard = (change_lasts known Follows lasting c x may o before i refl).none
        (λ v inside. all_in (λ (y : Written). HeardIn known c.sent y.by y.entry) d.written v (heard_before known apart c t.awaiting x may).written (filtered_in (λ (y : Written). y.by == i) d.written v inside)) heard
      where
        self : IsItself known g.own now
        self = subst (λ (y : Option Identity). IfSome y (λ z. IsItself known z now)) g.own_there (o.themselves i)

        here : Holds now mine
        here = record {
          marked = t.awaiting.credible.carrying.0.1 i;
          offered = t.offered i;
          peers = self.peers;
          has = origin;
          none = λ right h. t.dismissed i j g id of h;
        }

        before : (k : ℕ) → Follows k (manager_at c.network k).state (written_of k c.written)
        before k e = subst (λ n. Holds (manager_at c.network n).state (written_of n c.written)) (sym e) here

  telling_now : IsTelling known d
  telling_now = record {
    awaiting = awaiting_now known apart c t.awaiting x may;
    offered = change_keeps known AreOffered offered_by_records c x may o t.offered;
    retained = retained_now known apart c t.awaiting t.retained x may;
    dismissed = dismissed_now;
  }

pub telling_closed : (known : List Identity) → AreApart known → IsClosed known (IsTelling known)
telling_closed known apart = record { orderly = λ c t. t.awaiting.accounted.agreed.0.0; keeps = λ c x may t. telling_now known apart c t x may }
