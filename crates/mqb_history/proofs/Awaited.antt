-- What a manager decided of another one's stream, and asks for a final acknowledgement, stands in a queue there, or the acknowledgement waits, or its source heard it, or no number was left: each change keeps
-- this.
use Rattle.std.proofs.Common.{refl, ap, sym, subst, ◌∙◌, arith, inl, inr}
use Rattle.std.specs.List.{AllByRecursion, list_any}
use Rattle.std.specs.Prelude.{[], ◌<◌, ◌==◌, ◌∷◌, ◌≡◌, ◌≤◌, ◌⊎◌, Bool, IfSome, List, None, Option, Some, false, is_some, length, not, position, slice_get, suc, true, unwrap_or, zero, ℕ}
use Rattle.mqb_base.specs.Same.{same_guid}
use Rattle.mqb_base.specs.declared.heads.TxHead.{TxHead}
use Rattle.mqb_base.specs.declared.ids.Guid.{Guid}
use Rattle.mqb_base.specs.declared.ids.Identity.{Identity}
use Rattle.mqb_base.specs.declared.ids.MessageId.{MessageId}
use Rattle.mqb_base.specs.declared.ledger.Line.{Line}
use Rattle.mqb_base.specs.declared.ledger.Line.TheVariants as line
use Rattle.mqb_base.specs.declared.ledger.Stream.{Stream}
use Rattle.mqb_base.specs.declared.message.Delivery.TheVariants as delivery
use Rattle.mqb_base.specs.declared.message.Message.{Message}
use Rattle.mqb_exactly_once.specs.Words.{In, carried, position_of}
use Rattle.mqb_exactly_once.specs.World.{Commitment}
use Rattle.mqb_fate.specs.Orders.{is_final_class, order_layer}
use Rattle.mqb_model.specs.records.Applying.{lines_of}
use Rattle.mqb_model.specs.records.Record.{Part, Record}
use Rattle.mqb_model.specs.records.Record as entry
use Rattle.mqb_model.specs.state.State.{State}
use Rattle.mqb_network.specs.Courses.{Course, Written}
use Rattle.mqb_network.specs.Laws.{AreApart, lines_written}
use Rattle.mqb_network.specs.Network.{manager_at, others}
use Rattle.mqb_packet.specs.declared.packet.Packet.TheVariants as packet
use Rattle.mqb_packet.specs.declared.packet.UserPacket.{UserPacket}
use Rattle.mqb_plain.specs.Lists.{messages_of}
use Rattle.mqb_plain.specs.Plain.{PlainLists}
use Rattle.mqb_plain.specs.declared.outgoing.Outgoing.{Outgoing}
use Rattle.mqb_history.specs.Carried.{ComesFromItsSource}
use Rattle.mqb_history.specs.Committed.{commitments}
use Rattle.mqb_history.specs.Decided.{written_of}
use Rattle.mqb_history.specs.Orderly.{IsItself, IsOrderly}
use Rattle.mqb_history.proofs.Accounted.{LeadsTo, Stands}
use Rattle.mqb_history.proofs.Accounts.{befores}
use Rattle.mqb_history.proofs.Acting.{DecidesPacket}
use Rattle.mqb_history.proofs.Answering.{IsCredible}
use Rattle.mqb_history.proofs.Arriving.{own_by}
use Rattle.mqb_history.proofs.Believing.{position_there}
use Rattle.mqb_history.proofs.Between.{all_in, in_any}
use Rattle.mqb_history.proofs.Carrying.{carrying_decided}
use Rattle.mqb_history.proofs.Courses.{Agrees, HeardIn, one_guid}
use Rattle.mqb_history.proofs.Each.{EachRecord}
use Rattle.mqb_history.proofs.Enduring.{WaitsFor}
use Rattle.mqb_history.proofs.Gone.{IsAccounted}
use Rattle.mqb_history.proofs.Knowing.{apart_guids, found_place, not_own_peer, other_is_peer}
use Rattle.mqb_history.proofs.Later.{DecideIt, Known, Vacant}
use Rattle.mqb_history.proofs.Lists.{clash, get_in, get_within, some_is, true_not_false}
use Rattle.mqb_history.proofs.Names.{same_guid_is, same_guid_refl}
use Rattle.mqb_history.proofs.Naming.{ArePlain, IsSafe}
use Rattle.mqb_history.proofs.Noticed.{IsStoring, StoredBy, guid_of, heard_in, in_flat, says_truly, sayings, stored_packet}
use Rattle.mqb_history.proofs.Outside.{filtered_in}
use Rattle.mqb_history.proofs.Owned.{given_once, in_list, in_plain}
use Rattle.mqb_history.proofs.Pending.{Asks, IsFinalOf, IsOpen, Knows, Subject}
use Rattle.mqb_history.proofs.Recorded.{IsPlainPacket}
use Rattle.mqb_history.proofs.Remaining.{arrivals}
use Rattle.mqb_history.proofs.Saying.{Says}
use Rattle.mqb_history.proofs.Skipping.{sourced}
use Rattle.mqb_history.proofs.Sources.{IsDecidedAt, of_source, put_at}
use Rattle.mqb_history.proofs.Storing.{KeepsStorage}
use Rattle.mqb_history.proofs.Undecided.{IsKnown, committed_one}
use Rattle.mqb_history.proofs.Tallies.{arrives, tally, tally_from, tally_there, weight, weight_is, weight_own}

-- Pairs of managers.

-- Two that are known, and the place of the first among the peers of the second.
pub record IsPair (known : List Identity) (i j : ℕ) : Type 0 where
  pub source : Identity
  pub own : Identity
  pub source_there : slice_get known i ≡ Some source
  pub own_there : slice_get known j ≡ Some own
  pub differ : i ≡ j → ⊥
  pub index : ℕ
  pub place : position (λ (p : Identity). same_guid p.guid source.guid) (others known own) ≡ Some index
  pub there : slice_get (others known own) index ≡ Some source

pub in_get : {X : Type 0} (xs : List X) (x : X) → In x xs → (k : ℕ) × (slice_get xs k ≡ Some x)
in_get [] x i = absurd i
in_get (y ∷ xs) x (inl e) = (zero, ap (λ z. Some z) e)
in_get (y ∷ xs) x (inr i) = let g = in_get xs x i in (suc g.0, g.1)

-- a first that passes is there where one passes
pub none_found : {X : Type 0} (test : X → Bool) (xs : List X) → list_any test xs ≡ true → position test xs ≡ None → ⊥
none_found {X} test xs any e = at (slice_get xs (length xs)) refl (subst (λ o. is_some (slice_get xs (unwrap_or o (length xs))) ≡ true) e (found_place test xs ∙ any))
  where
    at : (o : Option X) → slice_get xs (length xs) ≡ o → is_some o ≡ true → ⊥
    at None g h = clash (sym h)
    at (Some x) g h = let lt = get_within xs (length xs) x g in omega (arith, lt)

pub pair_of : (known : List Identity) → AreApart known → (i j : ℕ) (source own : Identity) → slice_get known i ≡ Some source → slice_get known j ≡ Some own → (i ≡ j → ⊥) → IsPair known i j
pair_of known apart i j source own e f differ = at (position is_it peers) refl
  where
    peers : List Identity
    peers = others known own

    is_it : Identity → Bool
    is_it p = same_guid p.guid source.guid

    at : (o : Option ℕ) → position is_it peers ≡ o → IsPair known i j
    at None g = absurd (none_found is_it peers (other_is_peer own.guid known i source e (apart_guids known j i own source apart f e (λ same. differ (sym same)))) g)
    at (Some k) g = record { source = source; own = own; source_there = e; own_there = f; differ = differ; index = k; place = g; there = q.1 ∙ ap (λ p. Some p) same }
      where
        q : (p : Identity) × (slice_get peers k ≡ Some p) × (is_it p ≡ true)
        q = position_there is_it peers k g

        w : (n : ℕ) × (slice_get known n ≡ Some q.0)
        w = in_get known q.0 (filtered_in (λ (p : Identity). not (same_guid p.guid own.guid)) known q.0 (get_in peers k q.0 q.1))

        same : q.0 ≡ source
        same = some_is q.0 source (sym w.1 ∙ ap (slice_get known) (one_guid known w.0 i q.0 source apart w.1 e (same_guid_is q.0.guid source.guid q.2)) ∙ e)

-- What is known of a course.

-- records stored a final acknowledgement of a manager that names a message
pub record HasHeard (ws : List Written) (sender : Guid) (id : MessageId) : Type 0 where
  pub written : Written
  pub there : In written ws
  pub now : ℕ
  pub numbers : List ℕ
  pub packet : UserPacket
  pub entry : written.entry ≡ entry.Arrived now numbers (entry.Final packet)
  pub from : packet.message.id.qm ≡ sender
  pub names : packet.message.correlation ≡ id

-- each message of an identifier that records decide asks for a final acknowledgement
abbrev pub AllAsk : List Written → Subject → Type 0
AllAsk ws x = (w : Written) → In w ws → (p : UserPacket) (head : TxHead) → DecidesPacket w.entry p → p.tx ≡ Some head → p.message.id ≡ x.id → Asks x p.message

-- whatever bears a number of a manager, where it went in a plain packet or waits, is the final acknowledgement
pub record IsItsNumber (c : Course) (j : ℕ) (x : Subject) (n : ℕ) : Type 0 where
  pub sent : (p : UserPacket) → In (packet.User p) c.sent → IsPlainPacket p → p.message.id ≡ record { qm = x.own; number = n } → IsFinalOf x p.message
  pub waits : (k : ℕ) (m : Message) → WaitsFor (manager_at c.network j).state k m → m.id ≡ record { qm = x.own; number = n } → IsFinalOf x m

-- what a manager stores is no final acknowledgement for it
abbrev pub StoredApart : List Identity → ℕ → Record → Type 0
StoredApart known i (entry.Arrived now numbers (entry.Stored p)) = (own : Identity) → slice_get known i ≡ Some own → p.message.destination ≡ order_layer own.host → p.message.delivery ≡ delivery.Recoverable
    → is_final_class p.message.class ≡ true → ⊥
StoredApart known i r = Unit {0}

abbrev pub subject : (known : List Identity) (c : Course) (i j : ℕ) → IsPair known i j → MessageId → Subject
subject known c i j g id = record { own = g.own.guid; id = id; index = g.index; source = g.source; base = (manager_at c.network j).state.next_number }

-- the end of a message
pub record IsEnded (known : List Identity) (c : Course) (i j : ℕ) (g : IsPair known i j) (id : MessageId) : Type 0 where
  pub knows : Knows (subject known c i j g id) (manager_at c.network j).state
  pub ends : AllAsk (written_of j c.written) (subject known c i j g id) → DecideIt (written_of j c.written) id
      → IsOpen (subject known c i j g id) (IsItsNumber c j (subject known c i j g id)) (manager_at c.network j).state ⊎ HasHeard (written_of i c.written) g.own.guid id

pub record IsAwaiting (known : List Identity) (c : Course) : Type 0 where
  pub accounted : IsAccounted known c
  pub credible : IsCredible known c
  pub storing : KeepsStorage c
  pub stored : EachRecord (StoredApart known) c
  pub ended : (i j : ℕ) (g : IsPair known i j) (id : MessageId) → id.qm ≡ g.source.guid → IsEnded known c i j g id

-- Numbers.

pub message_from : (os : List Outgoing) (m : Message) → In m (messages_of os) → (o : Outgoing) × In o os × (o.message ≡ m)
message_from [] m i = absurd i
message_from (o ∷ os) m (inl e) = (o, inl refl, e)
message_from (o ∷ os) m (inr i) = let g = message_from os m i in (g.0, inr g.1, g.2)

one_there : {X : Type 0} (f : X → ℕ) (xs : List X) (x y : X) → tally f xs ≤ 1 → In x xs → In y xs → 1 ≤ f x → 1 ≤ f y → x ≡ y
one_there f [] x y few i j a b = absurd i
one_there f (z ∷ xs) x y few (inl e) (inl g) a b = sym e ∙ g
one_there f (z ∷ xs) x y few (inl e) (inr j) a b = let same = ap f e in let le = tally_there f xs y j in absurd (omega (arith, few, a, b, same, le))
one_there f (z ∷ xs) x y few (inr i) (inl g) a b = let same = ap f g in let le = tally_there f xs x i in absurd (omega (arith, few, a, b, same, le))
one_there f (z ∷ xs) x y few (inr i) (inr j) a b = one_there f xs x y (omega (arith, few)) i j a b

-- no identifier waits twice
pub waits_once : (s : State) (id : MessageId) → in_plain id s ≤ 1 → (k l : ℕ) (f m : Message) → WaitsFor s k f → WaitsFor s l m → f.id ≡ id → m.id ≡ id → f ≡ m
waits_once s id few k l f m a b e g = sym x.2 ∙ ap (λ (o : Outgoing). o.message) same ∙ y.2
  where
    x : (o : Outgoing) × In o a.0.recoverable × (o.message ≡ f)
    x = message_from a.0.recoverable f a.2

    y : (o : Outgoing) × In o b.0.recoverable × (o.message ≡ m)
    y = message_from b.0.recoverable m b.2

    counts : (o : Outgoing) → o.message.id ≡ id → 1 ≤ weight id o.message.id
    counts o h = let own = weight_own id in let is = ap (weight id) h in omega (arith, own, is)

    named : (o : Outgoing) (n : Message) → o.message ≡ n → n.id ≡ id → 1 ≤ weight id o.message.id
    named o n h q = counts o (ap (λ (z : Message). z.id) h ∙ q)

    all : (p : PlainLists) (o : Outgoing) → In o p.recoverable → 1 ≤ weight id o.message.id → 1 ≤ in_list id p.recoverable
    all p o i c = let le = tally_there (λ (z : Outgoing). weight id z.message.id) p.recoverable o i in omega (arith, le, c)

    lists : a.0 ≡ b.0
    lists = one_there (λ (p : PlainLists). in_list id p.recoverable) s.plain a.0 b.0 few (get_in s.plain k a.0 a.1) (get_in s.plain l b.0 b.1) (all a.0 x.0 x.1 (named x.0 f x.2 e)) (all b.0 y.0 y.1 (named y.0 m y.2 g))

    same : x.0 ≡ y.0
    same = one_there (λ (z : Outgoing). weight id z.message.id) a.0.recoverable x.0 y.0
        (let le = tally_there (λ (p : PlainLists). in_list id p.recoverable) s.plain a.0 (get_in s.plain k a.0 a.1) in omega (arith, le, few))
        x.1 (subst (λ (p : PlainLists). In y.0 p.recoverable) (sym lists) y.1) (named x.0 f x.2 e) (named y.0 m y.2 g)

module _ (known : List Identity) (apart : AreApart known) (c : Course) (accounted : IsAccounted known c) (credible : IsCredible known c) (j : ℕ) (own : Identity) (there : slice_get known j ≡ Some own) where
  abbrev o : IsOrderly known c
  o = accounted.agreed.0.0

  abbrev h : Agrees known c
  h = accounted.agreed.1

  abbrev now : State
  now = (manager_at c.network j).state

  abbrev mine : List Line
  mine = lines_written (written_of j c.written)

  abbrev stands : Stands (lines_written c.written) mine (befores (written_of j c.written)) c.sent now
  stands = h.stand j own there

  pub own_guid : now.identity.guid ≡ own.guid
  own_guid = guid_of known apart c o h j own there

  pub itself : IsItself known own now
  itself = subst (λ (x : Option Identity). IfSome x (λ y. IsItself known y now)) there (o.themselves j)

  -- a message that waits is the manager's own, and of no transaction
  pub safe : (k : ℕ) (m : Message) → WaitsFor now k m → (m.id.qm ≡ now.identity.guid) × (m.id.number < now.next_number) × Vacant c j m.id.number
  safe k m w = subst (λ (y : Message). (y.id.qm ≡ now.identity.guid) × (y.id.number < now.next_number) × Vacant c j y.id.number) x.2 (is.source, is.below, is.unused)
    where
      x : (y : Outgoing) × In y w.0.recoverable × (y.message ≡ m)
      x = message_from w.0.recoverable m w.2

      plain : ArePlain now.identity.guid (Known known c j) (Vacant c j) now.next_number w.0
      plain = all_in (ArePlain now.identity.guid (Known known c j) (Vacant c j) now.next_number) now.plain w.0 (credible.honest.managers j).knows.plain (get_in now.plain k w.0 w.1)

      is : IsSafe now.identity.guid (Known known c j) (Vacant c j) now.next_number x.0
      is = all_in (IsSafe now.identity.guid (Known known c j) (Vacant c j) now.next_number) w.0.recoverable x.0 plain.recoverable x.1

  -- a number that is not given yet
  pub fresh_number : (x : Subject) → x.own ≡ own.guid → (n : ℕ) → now.next_number ≤ n → IsItsNumber c j x n
  fresh_number x same n le = record {
    sent = λ p inside plain e. let lt = (stands.packets p inside (ap (λ (i : MessageId). i.qm) e ∙ same ∙ sym own_guid) plain).plain.below in let is = ap (λ (i : MessageId). i.number) e in absurd (omega (arith, lt, le, is));
    waits = λ k m w e. let lt = (safe k m w).1 in let is = ap (λ (i : MessageId). i.number) e in absurd (omega (arith, lt, le, is));
  }

  -- What arrived is not its own.

  pub not_its_peer : (peer : Identity) (k : ℕ) → slice_get now.peers k ≡ Some peer → peer.guid ≡ own.guid → ⊥
  not_its_peer peer k e same = true_not_false (list_any (λ (p : Identity). same_guid p.guid own.guid) now.peers)
      (in_any (λ (p : Identity). same_guid p.guid own.guid) now.peers peer (get_in now.peers k peer e) (subst (λ g. same_guid g own.guid ≡ true) (sym same) (same_guid_refl own.guid)))
      (subst (λ (ps : List Identity). list_any (λ (p : Identity). same_guid p.guid own.guid) ps ≡ false) (sym itself.peers) (not_own_peer own.guid known))

  not_stored : (w : Written) (id : MessageId) → In w (written_of j c.written) → id.qm ≡ own.guid → StoredBy w.entry id → ⊥
  not_stored w id inside source by = not_its_peer leads.peer (stands.went it.heard.message.id.number) leads.there (sym leads.same ∙ it.to ∙ ap (λ (p : Identity). p.guid) (some_is g.0 own (sym g.1 ∙ ap (slice_get known) (own_by j c.written w inside) ∙ there)))
    where
      g : HeardIn known c.sent w.by w.entry
      g = heard_in known apart c o h w (filtered_in (λ (v : Written). v.by == j) c.written w inside)

      it : IsStoring c.sent g.0.guid id
      it = stored_packet known c.sent w.by w.entry id g by

      leads : LeadsTo now.peers (stands.went it.heard.message.id.number) it.heard.to
      leads = (stands.packets it.heard it.sent_it (ap (λ (i : MessageId). i.qm) it.names ∙ source ∙ sym own_guid) it.plain).leads

  none_arrives : (k : ℕ) (f : Message) → WaitsFor now k f → (l : Line) → In l mine → 1 ≤ arrives f.id l → ⊥
  none_arrives k f w l inside few = by l (says_truly v.0.before v.0.entry) v.2 few
    where
      v : (v : Written) × In v (written_of j c.written) × In l (lines_of v.before v.entry)
      v = in_flat (λ (x : Written). lines_of x.before x.entry) (written_of j c.written) l inside

      y : (f.id.qm ≡ now.identity.guid) × (f.id.number < now.next_number) × Vacant c j f.id.number
      y = safe k f w

      put : (stream : Stream) (number : ℕ) (id : MessageId) → In (line.Put stream number id) (lines_of v.0.before v.0.entry) → f.id ≡ id → ⊥
      put stream number id i same = y.2 d.committed.commitment (subst (λ n. In d.committed.commitment (commitments (written_of n c.written))) at_own d.committed.inside)
          (ap (λ (i : MessageId). i.number) (d.committed.names ∙ sym same))
        where
          d : IsDecidedAt known c v.0.by stream number id
          d = put_at known apart c o h (λ n. (accounted.tallied n).counted) (carrying_decided known c credible.carrying) v.0 stream number id
              (filtered_in (λ (x : Written). x.by == j) c.written v.0 v.1) i

          at_own : d.committed.source ≡ j
          at_own = one_guid known d.committed.source j d.committed.own own apart d.committed.there there
              (sym (of_source known apart c o h (λ n. (accounted.tallied n).counted) id d.committed) ∙ ap (λ (i : MessageId). i.qm) (sym same) ∙ y.0 ∙ own_guid)

      by : (k : Line) → AllByRecursion (Says (sayings v.0.entry)) (lines_of v.0.before v.0.entry) → In k (lines_of v.0.before v.0.entry) → 1 ≤ arrives f.id k → ⊥
      by (line.Put stream number id) says i few = put stream number id i (weight_is f.id id few)
      by (line.Stored id) says i few = not_stored v.0 id v.1 (ap (λ (i : MessageId). i.qm) (sym (weight_is f.id id few)) ∙ y.0 ∙ own_guid) (all_in (Says (sayings v.0.entry)) (lines_of v.0.before v.0.entry) (line.Stored id) says i)
      by k says i few = omega (arith, few)

  -- so one waits under its identifier
  pub one_waits : (k l : ℕ) (f m : Message) → WaitsFor now k f → WaitsFor now l m → m.id ≡ f.id → f ≡ m
  one_waits k l f m a b same = waits_once now f.id few k l f m a b refl same
    where
      none : (n : ℕ) → arrivals f.id mine ≡ n → n ≡ 0
      none zero e = refl
      none (suc n) e = let g = tally_from (arrives f.id) mine (omega (arith, e)) in absurd (none_arrives k f a g.0 g.1 g.2)

      few : in_plain f.id now ≤ 1
      few = let all = (accounted.tallied j).remains f.id in let once = given_once f.id now in let zero = none (arrivals f.id mine) refl in omega (arith, all, once, zero)

  -- What it decides of this manager's streams this manager committed.
  pub from_here : (w : Written) (moment : ℕ) (numbers : List ℕ) (p : UserPacket) (head : TxHead) → In w c.written → w.entry ≡ entry.Arrived moment numbers (entry.Decided p) → p.tx ≡ Some head
      → p.message.id.qm ≡ own.guid → (x : Commitment) × In x (commitments (written_of j c.written)) × (x.position ≡ position_of head) × (at : ℕ) × (p.message ≡ carried x.message at)
  from_here w moment numbers p head there_it e tx same = (
    y.committed.commitment,
    subst (λ n. In y.committed.commitment (commitments (written_of n c.written))) at_own y.committed.there,
    y.committed.position,
    y.moment,
    y.committed.message,
  )
    where
      y : ComesFromItsSource c c.written p head
      y = sourced c (carrying_decided known c credible.carrying) w there_it moment numbers p head e tx

      who : IsKnown known c y.source
      who = committed_one known c y.source y.committed.commitment o (credible.carrying.0.1 y.source).0.0.0 y.committed.there

      at_own : y.source ≡ j
      at_own = one_guid known y.source j who.own own apart who.there there (sym who.guid ∙ y.own ∙ same)
