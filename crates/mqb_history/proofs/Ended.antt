-- Each change keeps what is known of messages that were decided and ask for a final acknowledgement.
use Rattle.std.proofs.Common.{refl, ap, sym, subst, ◌∙◌, arith, inl, inr}
use Rattle.std.specs.Char.{to_ascii_lowercase}
use Rattle.std.specs.Option.{option_map_or}
use Rattle.std.specs.Prelude.{[], ◌&&◌, ◌++◌, ◌==◌, ◌||◌, ◌∷◌, ◌≡◌, ◌≤◌, ◌⊎◌, Bool, IfSome, List, None, Option, Some, cond, codes, false, map, not, slice_get, true, ℕ}
use Rattle.mqb_base.specs.Same.{same_bytes, same_guid, same_id, same_ignoring_case}
use Rattle.mqb_base.specs.declared.heads.TxHead.{TxHead}
use Rattle.mqb_base.specs.declared.ids.Identity.{Identity}
use Rattle.mqb_base.specs.declared.ids.MessageId.{MessageId}
use Rattle.mqb_base.specs.declared.message.Delivery.TheVariants as delivery
use Rattle.mqb_base.specs.declared.message.Message.{Message}
use Rattle.mqb_base.specs.declared.queue_names.Host.TheVariants.{Os}
use Rattle.mqb_exactly_once.specs.Words.{In}
use Rattle.mqb_fate.specs.Orders.{is_final_class, order_layer}
use Rattle.mqb_model.specs.declared.target.Target.{Target}
use Rattle.mqb_model.specs.records.Applying.{apply}
use Rattle.mqb_model.specs.records.Decisions.{message_decided}
use Rattle.mqb_model.specs.records.Finals.{is_final}
use Rattle.mqb_model.specs.records.Packets.{is_recoverable}
use Rattle.mqb_model.specs.records.Record.{Part, Record}
use Rattle.mqb_model.specs.records.Record as entry
use Rattle.mqb_model.specs.records.Releases.{has_recoverable, is_released_by, releases_made}
use Rattle.mqb_model.specs.rules.Effects.{begun, joined}
use Rattle.mqb_model.specs.rules.Numbers.{own_id}
use Rattle.mqb_model.specs.state.Resolving.{at_peer, is_for_order_layer, is_here, peer_at, queue_named}
use Rattle.mqb_model.specs.declared.target.Target.TheVariants.{Here}
use Rattle.mqb_model.specs.state.State.{State}
use Rattle.mqb_network.specs.Choices.{Failure}
use Rattle.mqb_network.specs.Courses.{Course, Written}
use Rattle.mqb_network.specs.Laws.{AreApart}
use Rattle.mqb_network.specs.Network.{manager_at}
use Rattle.mqb_packet.specs.declared.packet.Packet.TheVariants as packet
use Rattle.mqb_packet.specs.declared.packet.UserPacket.{UserPacket}
use Rattle.mqb_queue.specs.Places.{numbered}
use Rattle.mqb_model.specs.calls.Call.{Call, Hear, Pump, outcome_of}
use Rattle.mqb_history.specs.Changes.{Calls, Change, Hears, Pumps, changed, given_out, is_of_packets, may_change}
use Rattle.mqb_history.specs.Decided.{written_of}
use Rattle.mqb_history.specs.Made.{IsMade}
use Rattle.mqb_history.specs.Orderly.{IsOrderly}
use Rattle.mqb_history.specs.Stored.{IsPeerAt, IsStoredByPeer, IsStoredIn, WaitsIn}
use Rattle.mqb_history.proofs.Accounts.{CallSent}
use Rattle.mqb_history.proofs.Acquainting.{same_id_refl}
use Rattle.mqb_history.proofs.Acting.{DecidesPacket}
use Rattle.mqb_history.proofs.Answering.{IsCredible, credible_closed}
use Rattle.mqb_history.proofs.Awaited.{AllAsk, HasHeard, IsAwaiting, IsEnded, IsItsNumber, IsPair, StoredApart, fresh_number, message_from, one_waits, subject}
use Rattle.mqb_history.proofs.Between.{all_in, in_any, in_either}
use Rattle.mqb_history.proofs.Committing.{in_append, in_end, in_split}
use Rattle.mqb_history.proofs.Courses.{Agrees, HeardIn, call_heard, goes, known_of, none_given, none_heard, one_guid, who_is}
use Rattle.mqb_history.proofs.Each.{EachRecord, OfCall, OfChange, each_change}
use Rattle.mqb_history.proofs.Enduring.{Endures, WaitsFor}
use Rattle.mqb_history.proofs.Finality.{numbered_in}
use Rattle.mqb_history.proofs.Gone.{IsAccounted, accounted_closed, calling_sent, hearing_sent}
use Rattle.mqb_history.proofs.Knowing.{apart_guids}
use Rattle.mqb_history.proofs.Later.{DecideIt, Later, change_later}
use Rattle.mqb_history.proofs.Lists.{clash, join_and, not_true, some_is, split_and}
use Rattle.mqb_history.proofs.Names.{same_bytes_refl}
use Rattle.mqb_history.proofs.Noticed.{StoredBy, guid_of, own_written}
use Rattle.mqb_history.proofs.Outside.{filtered_in}
use Rattle.mqb_history.proofs.Pending.{Asks, IsFinalOf, IsOpen, IsToBeTold, Knows, OneReleased, Releases, Subject, decided_pends, knows_on, open_on, record_knows, record_pends, releases_know}
use Rattle.mqb_history.proofs.Recorded.{IsPlainPacket, RecordOf, calls_are_of}
use Rattle.mqb_history.proofs.Skipping.{Split, split_at}
use Rattle.mqb_history.proofs.Steady.{IsSteady, change_steady}
use Rattle.mqb_history.proofs.Storage.{released, storing_closed}
use Rattle.mqb_history.proofs.StoredByPeer.{storage_by, stored_by_peer}
use Rattle.mqb_history.proofs.Storing.{KeepsStorage}
use Rattle.mqb_history.proofs.Written.{of_append}

-- A final acknowledgement for a manager is one where it is heard.

for_layer : (s : State) (own : Identity) → s.identity ≡ own → is_for_order_layer s (order_layer own.host) ≡ true
for_layer s own same = at (same_bytes own.host (codes ".")) (ap (λ (x : Identity). same_ignoring_case own.host x.host) same ∙ same_bytes_refl (map to_ascii_lowercase own.host))
  where
    to : Bool → Target
    to b = cond b (Here (queue_named s (codes "order_queue$"))) (at_peer (peer_at s (Os own.host)))

    at : (a : Bool) → same_ignoring_case own.host s.identity.host ≡ true → is_here (to (a || same_ignoring_case own.host s.identity.host)) ≡ true
    at true e = refl
    at false e = ap (λ b. is_here (to b)) e

is_final_here : (s : State) (own : Identity) (m : Message) → s.identity ≡ own → m.destination ≡ order_layer own.host → m.delivery ≡ delivery.Recoverable → is_final_class m.class ≡ true → is_final s m ≡ true
is_final_here s own m same to kind class = join_and (is_recoverable m.delivery && is_final_class m.class) (is_for_order_layer s m.destination)
    (join_and (is_recoverable m.delivery) (is_final_class m.class) (ap is_recoverable kind) class)
    (subst (λ d. is_for_order_layer s d ≡ true) (sym to) (for_layer s own same))

stored_apart : (known : List Identity) (i : ℕ) (s : State) → ((own : Identity) → slice_get known i ≡ Some own → s.identity ≡ own) → (call : Call) (r : Record) → RecordOf s call r → StoredApart known i r
stored_apart known i s who call (entry.Arrived now numbers (entry.Stored p)) h = λ own there to kind class. clash (sym (is_final_here s own p.message (who own there) to kind class) ∙ h.no_final)
stored_apart known i s who call r h = tt

-- The packets that are new went out of lists.

pub record IsPumped (known : List Identity) (c : Course) (p : UserPacket) : Type 0 where
  pub pumper : ℕ
  pub own : Identity
  pub there : slice_get known pumper ≡ Some own
  pub source : p.message.id.qm ≡ (manager_at c.network pumper).state.identity.guid
  pub index : ℕ
  pub message : Message
  pub waits : WaitsFor (manager_at c.network pumper).state index message
  pub same : p.message ≡ record message { reach = p.message.reach }

module _ (known : List Identity) (apart : AreApart known) (c : Course) (t : IsAwaiting known c) (x : Change) (may : may_change c x ≡ true) where
  abbrev d : Course
  d = changed x c

  abbrev o : IsOrderly known c
  o = t.accounted.agreed.0.0

  abbrev agrees : Agrees known c
  agrees = t.accounted.agreed.1

  accounted_now : IsAccounted known d
  accounted_now = (accounted_closed known apart).keeps c x may t.accounted

  credible_now : IsCredible known d
  credible_now = (credible_closed known apart).keeps c x may t.credible

  storing_now : KeepsStorage d
  storing_now = ((storing_closed known apart).keeps c x may (o, t.storing)).1

  later : Later known c d
  later = change_later known c x may o

  -- What is heard was sent before.

  sends_none : (i : ℕ) (call : Call) (failure : Option Failure) → may_change c (Calls i call failure) ≡ true → CallSent c.sent call
  sends_none i call failure m = none_heard c.sent call (not_true (is_of_packets call) (split_and (not (is_of_packets call)) _ m).0)

  pub heard_before : EachRecord (HeardIn known c.sent) d
  heard_before = each_change (HeardIn known c.sent) c x (by x may) agrees.heard
    where
      by : (y : Change) → may_change c y ≡ true → OfChange (HeardIn known c.sent) c y
      by (Calls i call failure) m = call_heard known c (known_of known c o) agrees i call (sends_none i call failure m)
      by (Pumps i now failure) m = call_heard known c (known_of known c o) agrees i (Pump now) tt
      by (Hears k now failure) m = λ note p e f. call_heard known c (known_of known c o) agrees note.receiver (Hear now p) (numbered_in c.sent k p f)
      by y m = tt

  stored_now : EachRecord (StoredApart known) d
  stored_now = each_change (StoredApart known) c x (by x) t.stored
    where
      of_call : (i : ℕ) (call : Call) → OfCall (StoredApart known) c i call
      of_call i call = at (outcome_of (manager_at c.network i) call).entry (calls_are_of (manager_at c.network i) call).entry
        where
          at : (r : Option Record) → IfSome r (RecordOf (manager_at c.network i).state call) → IfSome r (StoredApart known i)
          at None h = tt
          at (Some r) h = stored_apart known i (manager_at c.network i).state (λ own there. who_is known c i own (known_of known c o) there) call r h

      by : (y : Change) → OfChange (StoredApart known) c y
      by (Calls i call failure) = of_call i call
      by (Pumps i now failure) = of_call i (Pump now)
      by (Hears k now failure) = λ note p e f. of_call note.receiver (Hear now p)
      by y = tt

  pumped_or : (p : UserPacket) → In (packet.User p) d.sent → IsPlainPacket p → In (packet.User p) c.sent ⊎ IsPumped known c p
  pumped_or p inside plain = by x inside
    where
      pumped : (i now : ℕ) (failure : Option Failure) → In (packet.User p) (given_out (outcome_of (manager_at c.network i) (Pump now)) failure) → IsPumped known c p
      pumped i now (Some how) g = absurd g
      pumped i now None g = at (slice_get known i) refl
        where
          at : (y : Option Identity) → slice_get known i ≡ y → IsPumped known c p
          at None e = absurd (subst (In (packet.User p)) (none_given known apart c (known_of known c o) agrees i now (t.accounted.agreed.0.1 i).1 e) g)
          at (Some own) e = let w = (goes known apart c (known_of known c o) agrees i now (t.accounted.agreed.0.1 i).1 own e p g).1 plain in record {
            pumper = i;
            own = own;
            there = e;
            source = w.0;
            index = w.2.1.0;
            message = w.2.1.1;
            waits = w.2.1.2;
            same = w.2.1.3;
          }

      either : (i now : ℕ) (failure : Option Failure) → In (packet.User p) c.sent ⊎ In (packet.User p) (given_out (outcome_of (manager_at c.network i) (Pump now)) failure) → In (packet.User p) c.sent ⊎ IsPumped known c p
      either i now failure (inl g) = inl g
      either i now failure (inr g) = inr (pumped i now failure g)

      by : (y : Change) → In (packet.User p) (changed y c).sent → In (packet.User p) c.sent ⊎ IsPumped known c p
      by (Calls i call failure) g = inl (subst (In (packet.User p)) (calling_sent i call failure c) g)
      by (Pumps i now failure) g = let out = given_out (outcome_of (manager_at c.network i) (Pump now)) failure in
          either i now failure (in_either c.sent out (packet.User p) (subst (λ xs. In (packet.User p) (xs ++ out)) (calling_sent i (Pump now) failure c) g))
      by (Hears k now failure) g = inl (subst (In (packet.User p)) (hearing_sent (numbered c.network.notes k) (numbered c.sent k) now failure c) g)
      by y g = inl g

  -- One message.

  module _ (i j : ℕ) (g : IsPair known i j) (id : MessageId) (of : id.qm ≡ g.source.guid) where
    abbrev old : Subject
    old = subject known c i j g id

    abbrev new : Subject
    new = subject known d i j g id

    abbrev K : ℕ → Type 0
    K n = IsItsNumber c j old n

    fresh : (n : ℕ) → old.base ≤ n → K n
    fresh n le = fresh_number known apart c t.accounted t.credible j g.own g.own_there old refl n le

    others_id : same_guid id.qm old.own ≡ false
    others_id = ap (λ q. same_guid q g.own.guid) of ∙ apart_guids known j i g.own g.source apart g.own_there g.source_there (λ same. g.differ (sym same))

    abbrev Told : Type 0
    Told = HasHeard (written_of i c.written) g.own.guid id

    -- one of these records released the acknowledgement
    record HaveReleased (ws : List Written) : Type 0 where
      pub written : Written
      pub there : In written ws
      pub knows : Knows old written.before
      pub releases : Releases old K fresh others_id written.before written.entry

    released_more : (ws more : List Written) → HaveReleased ws → HaveReleased (ws ++ more)
    released_more ws more r = record { written = r.written; there = in_append ws more r.written r.there; knows = r.knows; releases = r.releases }

    abbrev Ends : State → List Written → Type 0
    Ends s ws = AllAsk ws old → DecideIt ws id → IsOpen old K s ⊎ (HaveReleased ws ⊎ Told)

    abbrev Follows : ℕ → State → List Written → Type 0
    Follows k s ws = k ≡ j → Knows old s × Ends s ws

    module _ (k : ℕ) (s : State) (r : Record) (ws : List Written) (made : IsMade s r) (h : Knows old s × Ends s ws) where
      abbrev w : Written
      w = record { by = k; before = s; entry = r }

      abbrev after : List Written
      after = ws ++ w ∷ []

      grows : Knows old (apply s r) × Ends (apply s r) after
      grows = (record_knows old K fresh others_id s r made h.0, λ ask decide. at ask decide (in_split ws (w ∷ []) decide.written decide.there))
        where
          applied : IsOpen old K s ⊎ (HaveReleased ws ⊎ Told) → IsOpen old K (apply s r) ⊎ (HaveReleased after ⊎ Told)
          applied (inl open_) = by (record_pends old K fresh others_id s r made (h.0, open_))
            where
              by : (Knows old (apply s r) × IsOpen old K (apply s r)) ⊎ Releases old K fresh others_id s r → IsOpen old K (apply s r) ⊎ (HaveReleased after ⊎ Told)
              by (inl p) = inl p.1
              by (inr rel) = inr (inl (record { written = w; there = in_end ws w; knows = h.0; releases = rel }))
          applied (inr (inl rel)) = inr (inl (released_more ws (w ∷ []) rel))
          applied (inr (inr told)) = inr (inr told)

          -- it is decided by this record
          decided : (now : ℕ) (numbers : List ℕ) (p : UserPacket) (head : TxHead) → r ≡ entry.Arrived now numbers (entry.Decided p) → p.tx ≡ Some head → Asks old p.message → IsOpen old K (apply s r)
          decided now numbers p head e f asks = subst (λ y. IsOpen old K (apply s y)) (sym e)
              (subst (λ y. IsOpen old K (option_map_or (λ tx. joined (releases_made s numbers) (message_decided now (releases_made s numbers).state p tx)) y (releases_made s numbers)).state) (sym f)
              (decided_pends old K fresh others_id now (releases_made s numbers).state p head (releases_know old K fresh others_id (begun s) numbers h.0) asks).1)

          at : AllAsk after old → (decide : DecideIt after id) → In decide.written ws ⊎ In decide.written (w ∷ []) → IsOpen old K (apply s r) ⊎ (HaveReleased after ⊎ Told)
          at ask decide (inl i) = applied (h.1 (λ v inside. ask v (in_append ws (w ∷ []) v inside)) (record {
            written = decide.written;
            there = i;
            now = decide.now;
            numbers = decide.numbers;
            packet = decide.packet;
            head = decide.head;
            entry = decide.entry;
            tx = decide.tx;
            names = decide.names;
          }))
          at ask decide (inr (inr none)) = absurd none
          at ask decide (inr (inl same)) = let e = ap (λ (v : Written). v.entry) same ∙ decide.entry in inl (decided decide.now decide.numbers decide.packet decide.head e decide.tx
              (ask w (in_end ws w) decide.packet decide.head (subst (λ y. DecidesPacket y decide.packet) (sym e) refl) decide.tx decide.names))

    steady : IsSteady Follows
    steady = record {
      quiet = λ k a b ws q f same. let h = f same in (knows_on old a b q.3 h.0, λ ask decide. on a b q.3 (h.1 ask decide));
      grows = λ k s r ws made f same. grows k s r ws made (f same);
    }
      where
        on : (a b : State) {ws : List Written} → Endures a b → IsOpen old K a ⊎ (HaveReleased ws ⊎ Told) → IsOpen old K b ⊎ (HaveReleased ws ⊎ Told)
        on a b e (inl open_) = inl (open_on old K fresh others_id a b e open_)
        on a b e (inr rest) = inr rest

    follows : Knows old (manager_at d.network j).state × Ends (manager_at d.network j).state (written_of j d.written)
    follows = change_steady Follows steady known c x may o before j refl
      where
        was : IsEnded known c i j g id
        was = t.ended i j g id of

        before : (k : ℕ) → Follows k (manager_at c.network k).state (written_of k c.written)
        before k same = subst (λ n. Knows old (manager_at c.network n).state × Ends (manager_at c.network n).state (written_of n c.written)) (sym same)
            (was.knows, λ ask decide. at (was.ends ask decide))
          where
            at : IsOpen old K (manager_at c.network j).state ⊎ Told → IsOpen old K (manager_at c.network j).state ⊎ (HaveReleased (written_of j c.written) ⊎ Told)
            at (inl open_) = inl open_
            at (inr told) = inr (inr told)

    -- What waits now bears its number.

    number_now : (told : IsToBeTold old K (manager_at d.network j).state) → IsItsNumber d j new told.final.id.number
    number_now told = record {
      sent = λ p inside plain e. final (sent p plain e (pumped_or p inside plain));
      waits = λ k m w e. final (subst (IsFinalOf old) (one_waits known apart d accounted_now credible_now j g.own g.own_there g.index k told.final m told.waits w (e ∙ same_id_now)) told.is);
    }
      where
        same_id_now : ◌≡◌ {A = MessageId} (record { qm = old.own; number = told.final.id.number }) told.final.id
        same_id_now = ap (λ q. record { qm = q; number = told.final.id.number }) (sym told.is.own)

        final : {m : Message} → IsFinalOf old m → IsFinalOf new m
        final f = record { names = f.names; class = f.class; to = f.to; recoverable = f.recoverable; own = f.own }

        sent : (p : UserPacket) → IsPlainPacket p → p.message.id ≡ record { qm = old.own; number = told.final.id.number } → In (packet.User p) c.sent ⊎ IsPumped known c p → IsFinalOf old p.message
        sent p plain e (inl inside) = told.known.sent p inside plain e
        sent p plain e (inr y) = subst (IsFinalOf old) (sym y.same) (record { names = f.names; class = f.class; to = f.to; recoverable = f.recoverable; own = f.own })
          where
            at_own : y.pumper ≡ j
            at_own = one_guid known y.pumper j y.own g.own apart y.there g.own_there (sym (guid_of known apart c o agrees y.pumper y.own y.there) ∙ sym y.source ∙ ap (λ (n : MessageId). n.qm) e)

            f : IsFinalOf old y.message
            f = told.known.waits y.index y.message (subst (λ k. WaitsFor (manager_at c.network k).state y.index y.message) at_own y.waits) (ap (λ (m : Message). m.id) (sym y.same) ∙ e)

    told_now : Told → HasHeard (written_of i d.written) g.own.guid id
    told_now h = record {
      written = h.written;
      there = subst (λ ws. In h.written (written_of i ws)) (sym later.written) (subst (In h.written) (sym (of_append i c.written later.more)) (in_append (written_of i c.written) (written_of i later.more) h.written h.there));
      now = h.now;
      numbers = h.numbers;
      packet = h.packet;
      entry = h.entry;
      from = h.from;
      names = h.names;
    }

    -- What was released was heard by the source.

    module _ (r : HaveReleased (written_of j d.written)) where
      abbrev frees : Written
      frees = r.written

      met : In frees d.written
      met = filtered_in (λ (v : Written). v.by == j) d.written frees r.there

      split : Split d.written frees
      split = split_at d.written frees met

      heard_of : (now : ℕ) (numbers : List ℕ) (part : Part) → frees.entry ≡ entry.Arrived now numbers part → OneReleased old K fresh others_id frees.before numbers → HasHeard (written_of i d.written) g.own.guid id
      heard_of now numbers part e one = by v.entry refl heard_v (storage_by v.before v.entry (own_id frees.before n) stored.stored.told.0 stored.stored.told.1 stored.stored.told.2)
        where
          told : IsToBeTold old K frees.before
          told = one.0

          n : ℕ
          n = told.final.id.number

          own_is : told.final.id ≡ own_id frees.before n
          own_is = ap (λ q. record { qm = q; number = n }) (told.is.own ∙ sym r.knows.own)

          rel : IsStoredIn split.before (own_id frees.before n) × WaitsIn frees.before n
          rel = released d storing_now split.before split.behind frees now numbers part n split.all e one.1

          stored : IsStoredByPeer d split.before frees.before n
          stored = stored_by_peer known apart d accounted_now.agreed.0.0 accounted_now.agreed.1 split.before split.behind frees n split.all rel.0 rel.1

          v : Written
          v = stored.stored.storage

          v_met : In v d.written
          v_met = subst (In v) (sym split.all) (in_append split.before (frees ∷ split.behind) v stored.stored.there)

          heard_v : HeardIn known c.sent v.by v.entry
          heard_v = all_in (λ (y : Written). HeardIn known c.sent y.by y.entry) d.written v heard_before.written v_met

          has : has_recoverable frees.before n told.waits.0 ≡ true
          has = let y = message_from told.waits.0.recoverable told.final told.waits.2 in
              in_any (is_released_by frees.before n) told.waits.0.recoverable y.0 y.1 (subst (λ (m : Message). same_id m.id (own_id frees.before n) ≡ true) (sym y.2) (subst (λ q. same_id q (own_id frees.before n) ≡ true) (sym own_is) (same_id_refl (own_id frees.before n))))

          peer : IsPeerAt d frees.before g.index v.by
          peer = stored.peer g.index told.waits.0 told.waits.1 has

          at_source : v.by ≡ i
          at_source = one_guid known v.by i heard_v.0 g.source apart heard_v.1 g.source_there
              (sym (guid_of known apart d accounted_now.agreed.0.0 accounted_now.agreed.1 v.by heard_v.0 heard_v.1) ∙ sym peer.2 ∙ ap (λ (p : Identity). p.guid) (some_is peer.0 g.source (sym peer.1 ∙ r.knows.there)))

          is_final_of : (p : UserPacket) → In (packet.User p) c.sent → IsPlainPacket p → p.message.id ≡ own_id frees.before n → IsFinalOf old p.message
          is_final_of p inside plain same = told.known.sent p inside plain (same ∙ ap (λ q. record { qm = q; number = n }) r.knows.own)

          by : (y : Record) → v.entry ≡ y → HeardIn known c.sent v.by y → StoredBy y (own_id frees.before n) → HasHeard (written_of i d.written) g.own.guid id
          by (entry.Arrived at ns (entry.Stored p)) f heard same = let is = is_final_of p heard.2.0 heard.2.2 same in
              absurd (subst (StoredApart known v.by) f (all_in (λ (y : Written). StoredApart known y.by y.entry) d.written v stored_now.written v_met) g.source (ap (slice_get known) at_source ∙ g.source_there) is.to is.recoverable is.class)
          by (entry.Arrived at ns (entry.Final p)) f heard same = let is = is_final_of p heard.2.0 heard.2.2 same in record {
            written = v;
            there = subst (λ k. In v (written_of k d.written)) at_source (own_written d.written v v_met);
            now = at;
            numbers = ns;
            packet = p;
            entry = f;
            from = is.own;
            names = is.names;
          }
          by y f heard same = absurd same

      heard : HasHeard (written_of i d.written) g.own.guid id
      heard = at frees.entry refl r.releases
        where
          at : (y : Record) → frees.entry ≡ y → Releases old K fresh others_id frees.before y → HasHeard (written_of i d.written) g.own.guid id
          at (entry.Arrived now numbers part) e one = heard_of now numbers part e one
          at y e none = absurd none

    ended_now : IsEnded known d i j g id
    ended_now = record {
      knows = record { own = follows.0.own; index = follows.0.index; there = follows.0.there; list = follows.0.list; late = omega arith };
      ends = λ ask decide. at (follows.1 (λ v inside p head e f n. let y = ask v inside p head e f n in record { names = y.names; ordinary = y.ordinary; transactional = y.transactional; dead = y.dead }) decide);
    }
      where
        open_now : IsOpen old K (manager_at d.network j).state → IsOpen new (IsItsNumber d j new) (manager_at d.network j).state
        open_now (inl none) = inl none
        open_now (inr (inl (m, stands, asks))) = inr (inl (m, stands, record { names = asks.names; ordinary = asks.ordinary; transactional = asks.transactional; dead = asks.dead }))
        open_now (inr (inr told)) = inr (inr (record {
          final = told.final;
          waits = told.waits;
          is = record { names = told.is.names; class = told.is.class; to = told.is.to; recoverable = told.is.recoverable; own = told.is.own };
          unlimited = told.unlimited;
          known = number_now told;
        }))

        at : IsOpen old K (manager_at d.network j).state ⊎ (HaveReleased (written_of j d.written) ⊎ Told) → IsOpen new (IsItsNumber d j new) (manager_at d.network j).state ⊎ HasHeard (written_of i d.written) g.own.guid id
        at (inl open_) = inl (open_now open_)
        at (inr (inl r)) = inr (heard r)
        at (inr (inr told)) = inr (told_now told)

  pub awaiting_now : IsAwaiting known d
  awaiting_now = record {
    accounted = accounted_now;
    credible = credible_now;
    storing = storing_now;
    stored = stored_now;
    ended = ended_now;
  }
