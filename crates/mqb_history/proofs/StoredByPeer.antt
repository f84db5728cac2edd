-- What was stored of a plain message was stored by the peer for which it waited.
use Rattle.std.proofs.Common.{refl, ap, sym, subst, ◌∙◌, arith, inl, inr}
use Rattle.std.specs.List.{AllByRecursion}
use Rattle.std.specs.Prelude.{[], ◌+◌, ◌++◌, ◌<◌, ◌==◌, ◌∷◌, ◌≡◌, IfSome, List, Some, slice_get, true, ℕ}
use Rattle.mqb_base.specs.Same.{same_guid, same_id}
use Rattle.mqb_base.specs.declared.ids.Identity.{Identity}
use Rattle.mqb_base.specs.declared.ids.MessageId.{MessageId}
use Rattle.mqb_base.specs.declared.ledger.Line.{Line}
use Rattle.mqb_base.specs.declared.ledger.Line.TheVariants as line
use Rattle.mqb_exactly_once.specs.Words.{In}
use Rattle.mqb_model.specs.records.Applying.{lines_of}
use Rattle.mqb_model.specs.records.Record.{Record}
use Rattle.mqb_model.specs.records.Releases.{has_recoverable, is_released_by}
use Rattle.mqb_model.specs.rules.Numbers.{own_id}
use Rattle.mqb_model.specs.state.State.{State}
use Rattle.mqb_network.specs.Courses.{Course, Written}
use Rattle.mqb_network.specs.Laws.{AreApart, lines_written}
use Rattle.mqb_network.specs.Network.{manager_at}
use Rattle.mqb_plain.specs.Plain.{PlainLists}
use Rattle.mqb_plain.specs.declared.outgoing.Outgoing.{Outgoing}
use Rattle.mqb_history.specs.Decided.{written_of}
use Rattle.mqb_history.specs.Orderly.{IsOrderly}
use Rattle.mqb_history.specs.Stored.{IsPeerAt, IsStorageOf, IsStoredByPeer, IsStoredIn, WaitsIn}
use Rattle.mqb_history.proofs.Accounted.{HadWaiting, IsPacketOf, LeadsTo, Stands}
use Rattle.mqb_history.proofs.Accounts.{befores}
use Rattle.mqb_history.proofs.Between.{all_in, any_in}
use Rattle.mqb_history.proofs.Committing.{in_append}
use Rattle.mqb_history.proofs.Courses.{Agrees, HeardIn}
use Rattle.mqb_history.proofs.Fates.{from_get}
use Rattle.mqb_history.proofs.Lists.{equal_numbers, split_and}
use Rattle.mqb_history.proofs.Noticed.{IsStoring, StoredBy, guid_of, heard_in, own_written, says_truly, sayings, stored_packet}
use Rattle.mqb_history.proofs.Saying.{Says}
use Rattle.mqb_history.proofs.Staying.{IsSameManager}

-- the record of a line of storage
pub storage_by : (s : State) (r : Record) (id : MessageId) (l : Line) → In l (lines_of s r) → IsStorageOf id l → StoredBy r id
storage_by s r id l i (inl e) = all_in (Says (sayings r)) (lines_of s r) (line.Stored id) (says_truly s r) (subst (λ x. In x (lines_of s r)) e i)
storage_by s r id l i (inr (class, e)) = all_in (Says (sayings r)) (lines_of s r) (line.Bounced class id) (says_truly s r) (subst (λ x. In x (lines_of s r)) e i)

pub in_befores : (ws : List Written) (w : Written) → In w ws → In w.before (befores ws)
in_befores [] w i = absurd i
in_befores (v ∷ ws) w (inl e) = inl (ap (λ (x : Written). x.before) e)
in_befores (v ∷ ws) w (inr i) = inr (in_befores ws w i)

pub middle_in : (before behind : List Written) (w : Written) → In w (before ++ w ∷ behind)
middle_in [] behind w = inl refl
middle_in (v ∷ before) behind w = inr (middle_in before behind w)

same_number : (a b : MessageId) → same_id a b ≡ true → a.number ≡ b.number
same_number a b e = equal_numbers a.number b.number (split_and (same_guid a.qm b.qm) (a.number == b.number) e).1

-- the list that has a number is the one to which it went
went_there : (went : ℕ → ℕ) (next : ℕ) (s : State) (h : HadWaiting went next s) (k number : ℕ) (p : PlainLists) → slice_get s.plain k ≡ Some p → has_recoverable s number p ≡ true → went number ≡ k
went_there went next s h k number p there has = ap went (sym same) ∙ waited.1
  where
    found : (o : Outgoing) × In o p.recoverable × (is_released_by s number o ≡ true)
    found = any_in (is_released_by s number) p.recoverable has

    same : found.0.message.id.number ≡ number
    same = same_number found.0.message.id (own_id s number) found.2

    listed : AllByRecursion (λ (o : Outgoing). (o.message.id.number < s.next_number) × (went o.message.id.number ≡ k)) p.recoverable
    listed = subst (λ j. AllByRecursion (λ (o : Outgoing). (o.message.id.number < s.next_number) × (went o.message.id.number ≡ j)) p.recoverable) (let e : 0 + k ≡ k = omega arith in e)
        (subst (λ o. IfSome o (λ (x : PlainLists). AllByRecursion (λ (o : Outgoing). (o.message.id.number < s.next_number) × (went o.message.id.number ≡ 0 + k)) x.recoverable)) there
        (from_get (λ j (x : PlainLists). AllByRecursion (λ (o : Outgoing). (o.message.id.number < s.next_number) × (went o.message.id.number ≡ j)) x.recoverable) 0 s.plain k h.waits))

    waited : (found.0.message.id.number < s.next_number) × (went found.0.message.id.number ≡ k)
    waited = all_in (λ (o : Outgoing). (o.message.id.number < s.next_number) × (went o.message.id.number ≡ k)) p.recoverable found.0 listed found.1

pub stored_by_peer : (known : List Identity) → AreApart known → (c : Course) → IsOrderly known c → Agrees known c → (before behind : List Written) (w : Written) (number : ℕ)
    → c.written ≡ before ++ w ∷ behind → IsStoredIn before (own_id w.before number) → WaitsIn w.before number → IsStoredByPeer c before w.before number
stored_by_peer known apart c o h before behind w number split stored waits = record { waits = waits; stored = stored; peer = λ k p there has. peer k p there has }
  where
    -- the record that releases, and the one that stored
    inside : In w c.written
    inside = subst (In w) (sym split) (middle_in before behind w)

    store : Written
    store = stored.storage

    store_inside : In store c.written
    store_inside = subst (In store) (sym split) (in_append before (w ∷ behind) store stored.there)

    releases : HeardIn known c.sent w.by w.entry
    releases = heard_in known apart c o h w inside

    stores : HeardIn known c.sent store.by store.entry
    stores = heard_in known apart c o h store store_inside

    it : IsStoring c.sent stores.0.guid (own_id w.before number)
    it = stored_packet known c.sent store.by store.entry (own_id w.before number) stores
        (storage_by store.before store.entry (own_id w.before number) stored.told.0 stored.told.1 stored.told.2)

    now : State
    now = (manager_at c.network w.by).state

    stands : Stands (lines_written c.written) (lines_written (written_of w.by c.written)) (befores (written_of w.by c.written)) c.sent now
    stands = h.stand w.by releases.0 releases.1

    met : In w.before (befores (written_of w.by c.written))
    met = in_befores (written_of w.by c.written) w (own_written c.written w inside)

    self : IsSameManager w.before now
    self = all_in (λ t. IsSameManager t now) (befores (written_of w.by c.written)) w.before stands.selves met

    sent : IsPacketOf now.identity.guid now.peers now.next_number stands.went (lines_written (written_of w.by c.written)) it.heard
    sent = stands.packets it.heard it.sent_it (ap (λ (x : MessageId). x.qm) it.names ∙ ap (λ (x : Identity). x.guid) (sym self.identity)) it.plain

    peer : (k : ℕ) (p : PlainLists) → slice_get w.before.plain k ≡ Some p → has_recoverable w.before number p ≡ true → IsPeerAt c w.before k store.by
    peer k p there has = (leads.peer, leads.there, sym leads.same ∙ it.to ∙ sym (guid_of known apart c o h store.by stores.0 stores.1))
      where
        place : stands.went it.heard.message.id.number ≡ k
        place = ap (λ (x : MessageId). stands.went x.number) it.names
            ∙ went_there stands.went now.next_number w.before (all_in (HadWaiting stands.went now.next_number) (befores (written_of w.by c.written)) w.before stands.waited met) k number p there has

        leads : LeadsTo w.before.peers k it.heard.to
        leads = subst (λ ps. LeadsTo ps k it.heard.to) self.peers (subst (λ j. LeadsTo now.peers j it.heard.to) place sent.leads)
