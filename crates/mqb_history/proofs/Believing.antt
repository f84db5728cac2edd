-- What a manager hears of what was decided, and of what was stored, it may believe.
use Rattle.std.proofs.Common.{refl, ap, sym, subst, ◌∙◌, arith, inl, inr}
use Rattle.std.proofs.lemmas.Bool.Decides.{nat_tests}
use Rattle.std.specs.List.{cons_option, prefix_len}
use Rattle.std.specs.Prelude.{[], ◌<◌, ◌==◌, ◌^◌, ◌∷◌, ◌≡◌, ◌≤◌, Bool, List, None, Option, Some, cond, drop, false, length, nat_lt, not, option_and_then, position, slice_get, true, ℕ}
use Rattle.byteorder.specs.Endian.{little_bytes, little_number}
use Rattle.byteorder.specs.Numbers.{little_from-bytes, little_number-reads_back}
use Rattle.mqb_base.specs.Same.{same_guid, same_id, same_name}
use Rattle.mqb_base.specs.declared.heads.TxHead.{TxHead}
use Rattle.mqb_base.specs.declared.ids.Guid.{Guid}
use Rattle.mqb_base.specs.declared.ids.Identity.{Identity}
use Rattle.mqb_base.specs.declared.ids.MessageId.{MessageId}
use Rattle.mqb_base.specs.declared.queue_names.QueueName.{QueueName}
use Rattle.mqb_base.specs.declared.queue_names.QueueName.TheVariants as name
use Rattle.mqb_exactly_once.specs.Words.{In, position_of}
use Rattle.mqb_exactly_once.specs.World.{Channel, Commitment, Position}
use Rattle.mqb_fate.specs.Orders.{ack_body, acked_by}
use Rattle.mqb_fate.specs.declared.orders.OrderAck.{OrderAck}
use Rattle.mqb_packet.specs.declared.packet.UserPacket.{UserPacket}
use Rattle.mqb_model.specs.declared.target.Target.TheVariants.{AtPeer, Here}
use Rattle.mqb_model.specs.records.Record as entry
use Rattle.mqb_model.specs.state.Resolving.{at_peer, at_queue, is_host_of, is_own_host, peer_at, peer_known, queue_named, queue_numbered, queue_registered, resolved}
use Rattle.mqb_model.specs.state.State.{State}
use Rattle.mqb_network.specs.Courses.{Written}
use Rattle.mqb_history.specs.Committed.{IdentifiersDiffer}
use Rattle.mqb_history.specs.Decided.{decided_in, decisions, position_in}
use Rattle.mqb_history.proofs.Committing.{all_in}
use Rattle.mqb_history.proofs.Connections.{found_passes}
use Rattle.mqb_history.proofs.Deciding.{first_is_found}
use Rattle.mqb_history.proofs.Knowing.{get_at}
use Rattle.mqb_history.proofs.Lists.{clash, equal_numbers, join_and, none_some, some_is, split_and, true_not_false}
use Rattle.mqb_history.proofs.Names.{same_guid_is, same_guid_refl, same_name_refl}

-- Lists.

-- the member at the place of the first that passes
pub position_there : {X : Type 0} (test : X → Bool) (xs : List X) (k : ℕ) → position test xs ≡ Some k → (x : X) × (slice_get xs k ≡ Some x) × (test x ≡ true)
position_there {X = X} test xs k e = at (slice_get xs k) refl
  where
    within : nat_lt k (length xs) ≡ true
    within = by (nat_lt (prefix_len (λ x. not (test x)) xs) (length xs)) refl e
      where
        by : (b : Bool) → nat_lt (prefix_len (λ x. not (test x)) xs) (length xs) ≡ b → cond b (Some (prefix_len (λ x. not (test x)) xs)) None ≡ Some k → nat_lt k (length xs) ≡ true
        by true f g = subst (λ n. nat_lt n (length xs) ≡ true) (some_is (prefix_len (λ x. not (test x)) xs) k g) f
        by false f g = absurd (none_some g)

    at : (o : Option X) → slice_get xs k ≡ o → (x : X) × (slice_get xs k ≡ Some x) × (test x ≡ true)
    at None f = absurd (clash (sym (sym (ap (λ (o : Option X). elim o [ None ↦ false | Some y ↦ true ]) f) ∙ there)))
      where
        there : elim (slice_get xs k) [ None ↦ false | Some y ↦ true ] ≡ true
        there = get_at xs k within
    at (Some x) f = (x, f, found_passes test xs x (sym (first_is_found test xs) ∙ ap (λ (o : Option ℕ). option_and_then (slice_get xs) o) e ∙ f))

-- a name that leads to a peer leads to one that is there
pub resolved_there : (s : State) (d : QueueName) (k : ℕ) → resolved s d ≡ AtPeer k → (peer : Identity) × (slice_get s.peers k ≡ Some peer)
resolved_there s d k e = at d e
  where
    peer_is : (a b : ℕ) → AtPeer a ≡ AtPeer b → a ≡ b
    peer_is a b f = cc

    of_peer : (test : Identity → Bool) (o : Option ℕ) → position test s.peers ≡ o → at_peer o ≡ AtPeer k → (peer : Identity) × (slice_get s.peers k ≡ Some peer)
    of_peer test None f g = absurd (let none : ⊥ = cc in none)
    of_peer test (Some j) f g = let found = position_there test s.peers j f in (found.0, ap (slice_get s.peers) (sym (peer_is j k g)) ∙ found.1)

    no_queue : (o : Option ℕ) → at_queue o ≡ AtPeer k → ⊥
    no_queue None f = let none : ⊥ = cc in none
    no_queue (Some number) f = let none : ⊥ = cc in none

    private : (qm : Guid) (number : ℕ) (b : Bool) → cond b (Here (queue_numbered s number)) (at_peer (peer_known s qm)) ≡ AtPeer k → (peer : Identity) × (slice_get s.peers k ≡ Some peer)
    private qm number true f = absurd (let none : ⊥ = cc in none)
    private qm number false f = of_peer (λ (p : Identity). same_guid p.guid qm) (peer_known s qm) refl f

    direct : (host : _) (queue : List ℕ) (b : Bool) → cond b (Here (queue_named s queue)) (at_peer (peer_at s host)) ≡ AtPeer k → (peer : Identity) × (slice_get s.peers k ≡ Some peer)
    direct host queue true f = absurd (let none : ⊥ = cc in none)
    direct host queue false f = of_peer (is_host_of host) (peer_at s host) refl f

    at : (d : QueueName) → resolved s d ≡ AtPeer k → (peer : Identity) × (slice_get s.peers k ≡ Some peer)
    at (name.Public guid false) f = absurd (no_queue (queue_registered s guid) f)
    at (name.Private qm number false) f = private qm number (same_guid qm s.identity.guid) f
    at (name.Direct host queue false) f = direct host queue (is_own_host s.identity host) f
    at d f = absurd (let none : ⊥ = cc in none)

-- a record that decides a message is among decisions
pub decides_in : (ws : List Written) (w : Written) (now : ℕ) (numbers : List ℕ) (p : UserPacket) (tx : TxHead) → In w ws → w.entry ≡ entry.Arrived now numbers (entry.Decided p) → p.tx ≡ Some tx
    → In (position_of tx) (decisions (record { source = p.message.id.qm; destination = p.message.destination }) ws)
decides_in [] w now numbers p tx i e t = absurd i
decides_in (x ∷ ws) w now numbers p tx (inl f) e t = subst (λ (o : Option Position). In (position_of tx) (cons_option o (decisions channel ws))) (sym own) (inl refl)
  where
    channel : Channel
    channel = record { source = p.message.id.qm; destination = p.message.destination }

    own : decided_in channel x.entry ≡ Some (position_of tx)
    own = ap (λ (y : Written). decided_in channel y.entry) f ∙ ap (decided_in channel) e ∙ ap (position_in channel p.message) t
        ∙ ap (λ b. cond b (Some (position_of tx)) None) (join_and (same_guid p.message.id.qm p.message.id.qm) (same_name p.message.destination p.message.destination)
        (same_guid_refl p.message.id.qm) (same_name_refl p.message.destination))
decides_in (x ∷ ws) w now numbers p tx (inr i) e t = at (decided_in (record { source = p.message.id.qm; destination = p.message.destination }) x.entry) (decides_in ws w now numbers p tx i e t)
  where
    channel : Channel
    channel = record { source = p.message.id.qm; destination = p.message.destination }

    at : (o : Option Position) → In (position_of tx) (decisions channel ws) → In (position_of tx) (cons_option o (decisions channel ws))
    at None j = j
    at (Some q) j = inr j

-- commitments of one identifier are one
pub same_committed : (cs : List Commitment) (a b : Commitment) → IdentifiersDiffer cs → In a cs → In b cs → a.message.id ≡ b.message.id → a ≡ b
same_committed [] a b h i j e = absurd i
same_committed (x ∷ cs) a b h (inl f) (inl g) e = sym f ∙ g
same_committed (x ∷ cs) a b h (inl f) (inr j) e = absurd (true_not_false (same_id x.message.id b.message.id)
    (subst (λ (i : MessageId). same_id x.message.id i ≡ true) (ap (λ (y : Commitment). y.message.id) f ∙ e) (same_id_refl x.message.id))
    (all_in (λ d. same_id x.message.id d.message.id ≡ false) cs b h.0 j))
  where
    same_id_refl : (id : MessageId) → same_id id id ≡ true
    same_id_refl id = join_and (same_guid id.qm id.qm) (id.number == id.number) (same_guid_refl id.qm) (grind (arith, nat_tests))
same_committed (x ∷ cs) a b h (inr i) (inl g) e = absurd (true_not_false (same_id x.message.id a.message.id)
    (subst (λ (i : MessageId). same_id x.message.id i ≡ true) (ap (λ (y : Commitment). y.message.id) g ∙ sym e) (same_id_refl x.message.id))
    (all_in (λ d. same_id x.message.id d.message.id ≡ false) cs a h.0 i))
  where
    same_id_refl : (id : MessageId) → same_id id id ≡ true
    same_id_refl id = join_and (same_guid id.qm id.qm) (id.number == id.number) (same_guid_refl id.qm) (grind (arith, nat_tests))
same_committed (x ∷ cs) a b h (inr i) (inr j) e = same_committed cs a b h.1 i j e

pub same_id_is : (a b : MessageId) → same_id a b ≡ true → a ≡ b
same_id_is a b e = let both = split_and (same_guid a.qm b.qm) (a.number == b.number) e in
    ap (λ g. record { qm = g; number = a.number }) (same_guid_is a.qm b.qm both.0) ∙ ap (λ n. record { qm = b.qm; number = n }) (equal_numbers a.number b.number both.1)

-- What an order acknowledgement spells.

pub record Reads (position : Position) (ack : OrderAck) : Type 0 where
  pub ordinal : position.sequence.ordinal < 256 ^ 4 → ack.sequence.ordinal ≡ position.sequence.ordinal
  pub number : position.number < 256 ^ 4 → ack.number ≡ position.number

pub spelled_reads : (body : List ℕ) (position : Position) (ack : OrderAck) → body ≡ ack_body (record { sequence = position.sequence; number = position.number }) → acked_by body ≡ Some ack → Reads position ack
spelled_reads body position ack e f = subst (Reads position) (some_is read ack (sym (ap acked_by e) ∙ f)) (record {
  ordinal = λ low. little_number-reads_back 4 position.sequence.ordinal (drop 4 spelled) low;
  number = λ low. little_number-reads_back 4 position.number [] low;
})
  where
    spelled : List ℕ
    spelled = ack_body (record { sequence = position.sequence; number = position.number })

    read : OrderAck
    read = record {
      sequence = record { ordinal = little_number 4 spelled; stamp = little_number 4 (drop 4 spelled) };
      number = little_number 4 (drop 8 spelled);
    }

    low : little_number 4 (drop 8 spelled) ≤ position.number
    low = let g = little_from-bytes 4 0 position.number (little_bytes 4 0) in omega (arith, g)
