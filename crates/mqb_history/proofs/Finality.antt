-- Final acknowledgements tell fates that their senders know.
use Rattle.std.proofs.Common.{refl, ap, sym, subst, ◌∙◌, arith, inl, inr}
use Rattle.std.specs.Option.{option_map_or}
use Rattle.std.specs.Prelude.{[], ◌&&◌, ◌-◌, ◌==◌, ◌∷◌, ◌≡◌, ◌≤◌, ◌⊎◌, Bool, List, None, Option, Some, cond, false, map, nat_le, not, option_map, slice_get, suc, true, zero, ℕ}
use Rattle.mqb_base.specs.Same.{same_guid, same_name}
use Rattle.mqb_base.specs.declared.class.Class.{Class}
use Rattle.mqb_base.specs.declared.class.TheConstants.Class.{BAD_DESTINATION, MESSAGE_NOT_TRANSACTIONAL, QUEUE_NOT_TRANSACTIONAL, QUOTA_EXCEEDED, REACH_TIMEOUT}
use Rattle.mqb_base.specs.declared.ids.Guid.{Guid}
use Rattle.mqb_base.specs.declared.ids.Identity.{Identity}
use Rattle.mqb_base.specs.declared.ids.MessageId.{MessageId}
use Rattle.mqb_base.specs.declared.ledger.Line.{Line}
use Rattle.mqb_base.specs.declared.ledger.Line.TheVariants as line
use Rattle.mqb_base.specs.declared.ledger.Stream.{Stream}
use Rattle.mqb_base.specs.declared.message.Delivery.{Delivery}
use Rattle.mqb_exactly_once.specs.Outcomes.{Departure, Queue_purged, Receive_timeout, Received, Was_put, Was_refused}
use Rattle.mqb_exactly_once.specs.Words.{In, position_of}
use Rattle.mqb_exactly_once.specs.World.{Channel, Commitment, Decision, Position}
use Rattle.mqb_fate.specs.Asking.{is_transactional}
use Rattle.mqb_fate.specs.Orders.{is_final_class}
use Rattle.mqb_model.specs.declared.target.Target.{Target}
use Rattle.mqb_model.specs.declared.target.Target.TheVariants.{Here}
use Rattle.mqb_model.specs.records.Applying.{lines_of}
use Rattle.mqb_model.specs.records.Decisions.{decided_line, stream_heard}
use Rattle.mqb_model.specs.rules.Arrivals.{is_recorded, refusal_by, refusal_of, target_refusal}
use Rattle.mqb_model.specs.state.Places.{is_express}
use Rattle.mqb_model.specs.state.Resolving.{resolved}
use Rattle.mqb_model.specs.state.State.{State}
use Rattle.mqb_network.specs.Courses.{Course, Written}
use Rattle.mqb_network.specs.Doubts.{settled}
use Rattle.mqb_network.specs.Laws.{AreApart, lines_written}
use Rattle.mqb_network.specs.Network.{manager_at}
use Rattle.mqb_network.specs.Runs.{after_run}
use Rattle.mqb_packet.specs.declared.packet.Packet.TheVariants as packet
use Rattle.mqb_packet.specs.declared.packet.UserPacket.{UserPacket}
use Rattle.mqb_queue.specs.Arrival.{length_met}
use Rattle.mqb_queue.specs.Places.{Queue, numbered}
use Rattle.mqb_history.specs.Carried.{AreDecidedTruly}
use Rattle.mqb_history.specs.Committed.{commitments}
use Rattle.mqb_history.specs.Decided.{IsDecidedInOrder, RiseStrictly, is_in_channel, position_in, written_of}
use Rattle.mqb_history.specs.Expired.{AreExpiredDuly, expiries_told, expiry_told}
use Rattle.mqb_history.specs.Fates.{CameTo, departure_line}
use Rattle.mqb_history.specs.Finals.{AreFatesTold, FinalsTellFates, KnowsFate}
use Rattle.mqb_history.specs.Offered.{AreUndecided}
use Rattle.mqb_history.specs.Orderly.{IsOrderly}
use Rattle.mqb_history.specs.Shown.{channel_of, decision_in, decisions_made, fate_of, outcome_by, reason_of}
use Rattle.mqb_history.specs.Told.{AreCommitmentsTold, Joined, commitment_told, decision_told, joined_by}
use Rattle.mqb_history.specs.Truths.{IsNoFailurePut, failed_in, put_in, told_by}
use Rattle.mqb_history.proofs.Acknowledged.{IsNamedBy, committer, named_decided, names_decided}
use Rattle.mqb_history.proofs.Answering.{IsCredible, credible_begins, credible_closed}
use Rattle.mqb_history.proofs.Between.{all_in}
use Rattle.mqb_history.proofs.Carrying.{always_decided_truly}
use Rattle.mqb_history.proofs.Arriving.{IsPut, own_by, put_here}
use Rattle.mqb_history.proofs.Balance.{given_own}
use Rattle.mqb_history.proofs.Courses.{Agrees, one_guid}
use Rattle.mqb_history.proofs.Deciding.{always_decided_in_order}
use Rattle.mqb_history.proofs.Due.{always_expired_duly}
use Rattle.mqb_history.proofs.Fates.{IsFailureOf, IsMetBy, IsTold}
use Rattle.mqb_history.proofs.Gone.{IsAccounted, always_accounted}
use Rattle.mqb_history.proofs.Later.{DecideIt}
use Rattle.mqb_history.proofs.Lists.{get_in, join_and, none_some, not_true, some_is, split_and}
use Rattle.mqb_history.proofs.Names.{same_guid_refl, same_name_refl}
use Rattle.mqb_history.proofs.Noticed.{IsSentBy, Told, failure_of, flat_in, guid_of, heard_in, in_flat, names_in, not_plain, not_stored, own_line, says_truly, sayings, sent_by, told_from, written_in}
use Rattle.mqb_history.proofs.Numbering.{AreCounted}
use Rattle.mqb_history.proofs.Outside.{filtered_in}
use Rattle.mqb_history.proofs.Puts.{told_in}
use Rattle.mqb_history.proofs.Reaching.{chosen_in, in_right}
use Rattle.mqb_history.proofs.Reasons.{decisions_have_reasons}
use Rattle.mqb_history.proofs.Remaining.{arrivals}
use Rattle.mqb_history.proofs.Runs.{always_kept}
use Rattle.mqb_history.proofs.Saying.{Says}
use Rattle.mqb_history.proofs.Sources.{IsCommittedAt, IsDecidedAt, committed_told, expired_at, of_source, one_commitment, one_decision, put_at, refused_at, told_once}
use Rattle.mqb_history.proofs.Owned.{given, given_once}
use Rattle.mqb_history.proofs.Tallies.{arrives, left, tally_both, tally_from, tally_there, weight_own}
use Rattle.mqb_history.proofs.Telling.{always_told_commitments, lines_tell_decisions}
use Rattle.mqb_history.proofs.Truthful.{always_truthful}
use Rattle.mqb_history.proofs.Undecided.{always_undecided}

-- a member under a number
pub numbered_in : {X : Type 0} (xs : List X) (k : ℕ) (x : X) → numbered xs k ≡ Some x → In x xs
numbered_in {X} xs k x e = at (k == 0) e
  where
    at : (b : Bool) → cond b None (slice_get xs (k - 1)) ≡ Some x → In x xs
    at true f = absurd (none_some f)
    at false f = get_in xs (k - 1) x f

-- The reason of a refusal is told by its class.

abbrev TellsReason : Option Class → Type 0
TellsReason None = Unit {0}
TellsReason (Some class) = fate_of class ≡ Was_refused (reason_of class)

queue_reason : (a b d : Bool) → TellsReason (cond a (Some QUEUE_NOT_TRANSACTIONAL) (cond b (Some MESSAGE_NOT_TRANSACTIONAL) (cond d (Some QUOTA_EXCEEDED) None)))
queue_reason true b d = refl
queue_reason false true d = refl
queue_reason false false true = refl
queue_reason false false false = tt

target_reason : (s : State) (t : Target) (delivery : Delivery) → TellsReason (target_refusal s t delivery)
target_reason s (Here (Some number)) delivery = at (numbered s.places.queues number)
  where
    at : (o : Option Queue) → TellsReason (option_map_or (refusal_by delivery) o (Some BAD_DESTINATION))
    at None = refl
    at (Some q) = queue_reason (is_transactional delivery && not q.plan.transactional) (not (is_transactional delivery) && q.plan.transactional)
        (nat_le q.plan.quota (length_met (is_recorded delivery) q.lists))
target_reason s t delivery = refl

arrival_reason : (s : State) (p : UserPacket) → TellsReason (refusal_of s p)
arrival_reason s p = at (p.remaining == 0)
  where
    at : (b : Bool) → TellsReason (cond b (Some REACH_TIMEOUT) (target_refusal s (resolved s p.message.destination) p.message.delivery))
    at true = refl
    at false = target_reason s (resolved s p.message.destination) p.message.delivery

-- What a line says of a class that a message met.

-- it left its queue
pub record Departs (class : Class) (id : MessageId) (l : Line) : Type 0 where
  pub departure : Departure
  pub is : l ≡ departure_line departure id
  pub tells : fate_of class ≡ Was_put departure

-- it was refused, or did not reach its queue
abbrev pub Fails : Class → MessageId → Line → Type 0
Fails class id l = ((stream : Stream) × (number : ℕ) × (l ≡ line.Refused stream number class id))
    ⊎ (((stream : Stream) × (number moment : ℕ) × (l ≡ line.Expired stream number id moment)) ⊎ (((met : Class) × (l ≡ line.Bounced met id)) ⊎ (l ≡ line.Lapsed id)))

pub meets_as : (class : Class) (id : MessageId) (l : Line) → IsMetBy class id l → Departs class id l ⊎ Fails class id l
meets_as class id (line.Took other) h = inl (record { departure = Received; is = ap (λ x. line.Took x) h.0; tells = ap fate_of h.1 })
meets_as class id (line.Purged other) h = inl (record { departure = Queue_purged; is = ap (λ x. line.Purged x) h.0; tells = ap fate_of h.1 })
meets_as class id (line.Swept other) h = inl (record { departure = Receive_timeout; is = ap (λ x. line.Swept x) h.0; tells = ap fate_of h.1 })
meets_as class id (line.Refused stream number met other) h = inr (inl (stream, number, ap (λ x. line.Refused stream number met x) h.0 ∙ ap (λ x. line.Refused stream number x id) h.1))
meets_as class id (line.Expired stream number other moment) h = inr (inr (inl (stream, number, moment, ap (λ x. line.Expired stream number x moment) h)))
meets_as class id (line.Bounced met other) h = inr (inr (inr (inl (met, ap (λ x. line.Bounced met x) h))))
meets_as class id (line.Lapsed other) h = inr (inr (inr (inr (ap (λ x. line.Lapsed x) h))))
meets_as class id l h = absurd h

pub failing : (class : Class) (id : MessageId) (l : Line) → Fails class id l → IsFailureOf id l
failing class id l (inl (stream, number, e)) = subst (IsFailureOf id) (sym e) refl
failing class id l (inr (inl (stream, number, moment, e))) = subst (IsFailureOf id) (sym e) refl
failing class id l (inr (inr (inl (met, e)))) = subst (IsFailureOf id) (sym e) refl
failing class id l (inr (inr (inr e))) = subst (IsFailureOf id) (sym e) refl

class_of_line : (t : Stream) (n : ℕ) (a b : Class) (id : MessageId) → line.Refused t n a id ≡ line.Refused t n b id → a ≡ b
class_of_line t n a b id e = cc

-- Commitments, and lines that tell of them.

in_map : {X Y : Type 0} (f : X → Y) (xs : List X) (x : X) → In x xs → In (f x) (map f xs)
in_map f [] x i = absurd i
in_map f (y ∷ xs) x (inl e) = inl (ap f e)
in_map f (y ∷ xs) x (inr i) = inr (in_map f xs x i)

joined_line : (joined : Joined) (l : Line) → commitment_told l ≡ Some joined → l ≡ line.Committed joined.stream joined.number joined.id
joined_line joined (line.Committed stream number id) e = ap (λ (j : Joined). line.Committed j.stream j.number j.id) (some_is (record { stream = stream; number = number; id = id }) joined e)
joined_line joined l e = absurd (none_some e)

module _ (known : List Identity) (apart : AreApart known) (c : Course) (o : IsOrderly known c) (h : Agrees known c) (told : AreCommitmentsTold c) where
  abbrev told_by_one : ℕ → List Line
  told_by_one k = lines_written (written_of k c.written)

  -- a line of a manager is one of the ledger
  pub mine_told : (k : ℕ) (l : Line) → In l (told_by_one k) → Told c l
  mine_told k l i = let w = in_flat (λ (x : Written). lines_of x.before x.entry) (written_of k c.written) l i in
      flat_in (λ (x : Written). lines_of x.before x.entry) c.written w.0 l (filtered_in (λ (x : Written). x.by == k) c.written w.0 w.1) w.2

  -- what a manager committed it sent
  pub sent_of : (i : ℕ) (m : Commitment) → In m (commitments (written_of i c.written)) → IsSentBy known c m.message.id
  sent_of i m inside = sent_by known apart c o h (line.Committed joined.stream joined.number joined.id) m.message.id (mine_told i _ (subst (λ l. In l (told_by_one i)) (joined_line joined found.0 found.2) found.1)) refl
    where
      own : Guid
      own = (manager_at c.network i).state.identity.guid

      joined : Joined
      joined = joined_by own m

      found : (l : Line) × In l (told_by_one i) × (commitment_told l ≡ Some joined)
      found = told_from commitment_told (told_by_one i) joined (subst (In joined) (sym (told i)) (in_map (joined_by own) (commitments (written_of i c.written)) m inside))

-- What is known of the fate of a message that a manager decided.

departure_counts : (departure : Departure) (id : MessageId) → left id (departure_line departure id) ≡ 1
departure_counts Received id = weight_own id
departure_counts departure id = weight_own id

departure_apart : (departure : Departure) (stream : Stream) (number : ℕ) (id : MessageId) → departure_line departure id ≡ line.Committed stream number id → ⊥
departure_apart Received stream number id e = cc
departure_apart departure stream number id e = cc

module _ (known : List Identity) (apart : AreApart known) (c : Course) (accounts : IsAccounted known c) (told : AreCommitmentsTold c) (truly : AreDecidedTruly c) (rise : IsDecidedInOrder c) where
  abbrev o : IsOrderly known c
  o = accounts.agreed.0.0

  abbrev h : Agrees known c
  h = accounts.agreed.1

  abbrev mine : ℕ → List Line
  mine k = lines_written (written_of k c.written)

  counted : (i : ℕ) → AreCounted (manager_at c.network i).state (written_of i c.written)
  counted i = (accounts.tallied i).counted

  -- a message that left a queue was put there
  record IsPutThere (j : ℕ) (id : MessageId) : Type 0 where
    pub stream : Stream
    pub number : ℕ
    pub inside : In (line.Put stream number id) (mine j)
    pub decided : IsDecidedAt known c j stream number id

  put_there : (id : MessageId) → IsCommittedAt known c id → IsSentBy known c id → (departure : Departure) (v : Written) → In v c.written → In (departure_line departure id) (lines_of v.before v.entry) → IsPutThere v.by id
  put_there id source sent departure v met left_it = at (given id (manager_at c.network v.by).state) refl
    where
      l : Line
      l = departure_line departure id

      own : In l (mine v.by)
      own = own_line known apart c o h v l met left_it

      arrival : 1 ≤ arrivals id (mine v.by) → IsPutThere v.by id
      arrival one = record { stream = put.stream; number = put.number; inside = subst (λ x. In x (mine v.by)) put.line from.1; decided = put.decided }
        where
          from : (x : Line) × In x (mine v.by) × (1 ≤ arrives id x)
          from = tally_from (arrives id) (mine v.by) one

          put : IsPut known apart c o h counted truly v.by id from.0
          put = put_here known apart c o h counted truly rise id sent v.by from.0 from.1 from.2

      -- its source's record let it begin
      own_source : id.qm ≡ (manager_at c.network v.by).state.identity.guid → v.by ≡ source.source
      own_source e = let heard = heard_in known apart c o h v met in one_guid known v.by source.source heard.0 source.own apart heard.1 source.there
          (sym (guid_of known apart c o h v.by heard.0 heard.1) ∙ sym e ∙ of_source known apart c o h counted id source)

      at : (n : ℕ) → given id (manager_at c.network v.by).state ≡ n → IsPutThere v.by id
      at zero e = arrival (let le = (accounts.tallied v.by).remains id in let there = tally_there (left id) (mine v.by) l own in let one = departure_counts departure id in omega (arith, le, there, one, e))
      at (suc n) e = arrival (let le = (accounts.tallied v.by).remains id in let two = tally_both (left id) (mine v.by) l (line.Committed begun.0 begun.1 id) own begun.2 (departure_apart departure begun.0 begun.1 id) in
          let one = departure_counts departure id in let also = weight_own id in let once = given_once id (manager_at c.network v.by).state in omega (arith, le, two, one, also, once))
        where
          begun : (stream : Stream) × (number : ℕ) × In (line.Committed stream number id) (mine v.by)
          begun = let x = committed_told known apart c o h counted told id source in
              (x.0, x.1, subst (λ k. In (line.Committed x.0 x.1 id) (mine k)) (sym (own_source (given_own id (manager_at c.network v.by).state (omega (arith, e))))) x.2)

  -- so it left that of the manager which put it
  pub own_departure : (j : ℕ) (w v : Written) (stream : Stream) (number : ℕ) (id : MessageId) (departure : Departure) → In w (written_of j c.written)
      → In (line.Put stream number id) (lines_of w.before w.entry) → In v c.written → In (departure_line departure id) (lines_of v.before v.entry) → In (departure_line departure id) (mine j)
  own_departure j w v stream number id departure there put met inside = subst (λ k. In (departure_line departure id) (mine k)) (same ∙ own_by j c.written w there)
      (own_line known apart c o h v (departure_line departure id) met inside)
    where
      y : IsDecidedAt known c w.by stream number id
      y = put_at known apart c o h counted truly w stream number id (filtered_in (λ (x : Written). x.by == j) c.written w there) put

      sent : IsSentBy known c id
      sent = subst (IsSentBy known c) y.committed.names (sent_of known apart c o h told y.committed.source y.committed.commitment y.committed.inside)

      x : IsPutThere v.by id
      x = put_there id y.committed sent departure v met inside

      same : v.by ≡ w.by
      same = (one_decision known apart c o h counted v.by w.by x.stream stream x.number number id x.decided y).0

  -- What was refused was refused once, and for one reason.
  module _ (v w : Written) (s t : Stream) (m n : ℕ) (a b : Class) (id : MessageId) (i : In v c.written) (x : In (line.Refused s m a id) (lines_of v.before v.entry))
      (j : In w c.written) (y : In (line.Refused t n b id) (lines_of w.before w.entry)) where
    abbrev own_channel : Channel
    own_channel = record { source = t.source; destination = t.destination }

    abbrev place : Position
    place = record { sequence = t.sequence; number = n }

    same_place : (v.by ≡ w.by) × (s ≡ t) × (m ≡ n)
    same_place = one_decision known apart c o h counted v.by w.by s t m n id (refused_at known apart c o h counted truly v s m a id i x) (refused_at known apart c o h counted truly w t n b id j y)

    told_as : (class : Class) → decision_told own_channel (line.Refused t n class id) ≡ Some place
    told_as class = ap (λ z. cond z (Some place) None) (join_and (same_guid t.source t.source) (same_name t.destination t.destination) (same_guid_refl t.source) (same_name_refl t.destination))

    lines_same : line.Refused t n a id ≡ line.Refused t n b id
    lines_same = told_once (decision_told own_channel) (mine w.by) (line.Refused t n a id) (line.Refused t n b id) place first (own_line known apart c o h w (line.Refused t n b id) j y) (told_as a) (told_as b)
        (subst RiseStrictly (sym (lines_tell_decisions own_channel (written_of w.by c.written))) (rise w.by own_channel))
      where
        first : In (line.Refused t n a id) (mine w.by)
        first = subst (λ k. In (line.Refused t k a id) (mine w.by)) same_place.2 (subst (λ z. In (line.Refused z m a id) (mine w.by)) same_place.1
            (subst (λ k. In (line.Refused s m a id) (mine k)) same_place.0 (own_line known apart c o h v (line.Refused s m a id) i x)))

    pub one_reason : a ≡ b
    one_reason = class_of_line t n a b id lines_same

  module _ (credible : IsCredible known c) (duly : AreExpiredDuly c) (undecided : AreUndecided c) (not_put : IsNoFailurePut c) (i j : ℕ) (m : Commitment)
      (inside : In m (commitments (written_of i c.written))) (g : IsNamedBy known apart c credible i j m) where
    abbrev id : MessageId
    id = m.message.id

    abbrev d : DecideIt (written_of j c.written) id
    d = g.decided

    abbrev w : Written
    w = d.written

    abbrev ch : Channel
    ch = channel_of c.network i m.message.destination

    abbrev refusal : Option Class
    refusal = refusal_of w.before d.packet

    abbrev stream : Stream
    stream = stream_heard d.packet.message d.head

    abbrev decision : Decision
    decision = record { position = m.position; message = d.packet.message; outcome = outcome_by refusal }

    abbrev decision_at : Position → Decision
    decision_at p = record { position = p; message = d.packet.message; outcome = outcome_by refusal }

    in_channel : is_in_channel ch d.packet.message ≡ true
    in_channel = join_and (same_guid d.packet.message.id.qm ch.source) (same_name d.packet.message.destination ch.destination)
        (subst (λ x. same_guid d.packet.message.id.qm x ≡ true) g.source (same_guid_refl d.packet.message.id.qm))
        (subst (λ x. same_name d.packet.message.destination x ≡ true) g.destination (same_name_refl d.packet.message.destination))

    made : decision_in ch w.before w.entry ≡ Some decision
    made = ap (decision_in ch w.before) d.entry ∙ ap (λ tx. option_map decision_at (position_in ch d.packet.message tx)) d.tx
        ∙ ap (λ b. option_map decision_at (cond b (Some (position_of d.head)) None)) in_channel ∙ ap (λ p. Some (decision_at p)) g.position

    there : In decision (decisions_made ch (written_of j c.written))
    there = chosen_in (λ (x : Written). decision_in ch x.before x.entry) (written_of j c.written) w decision d.there made

    met : In w c.written
    met = filtered_in (λ (x : Written). x.by == j) c.written w d.there

    -- its line
    line_there : In (decided_line d.packet.message d.head refusal) (lines_of w.before w.entry)
    line_there = let r = decisions_have_reasons w.before d.now d.numbers d.packet d.head d.tx in subst (λ e. In (decided_line d.packet.message d.head refusal) (lines_of w.before e)) (sym d.entry)
        (subst (In (decided_line d.packet.message d.head refusal)) (sym r.1) (in_right r.0 (decided_line d.packet.message d.head refusal ∷ []) (decided_line d.packet.message d.head refusal) (inl refl)))

    put_line : refusal ≡ None → In (line.Put stream d.head.number id) (lines_of w.before w.entry)
    put_line e = subst (λ x. In (line.Put stream d.head.number x) (lines_of w.before w.entry)) d.names
        (subst (λ (r : Option Class). In (decided_line d.packet.message d.head r) (lines_of w.before w.entry)) e line_there)

    refused_line : (class : Class) → refusal ≡ Some class → In (line.Refused stream d.head.number class id) (lines_of w.before w.entry)
    refused_line class e = subst (λ x. In (line.Refused stream d.head.number class x) (lines_of w.before w.entry)) d.names
        (subst (λ (r : Option Class). In (decided_line d.packet.message d.head r) (lines_of w.before w.entry)) e line_there)

    ledger : (x : Written) (l : Line) → In x c.written → In l (lines_of x.before x.entry) → Told c l
    ledger x l a b = flat_in (λ (y : Written). lines_of y.before y.entry) c.written x l a b

    is_put : refusal ≡ None → In id (told_by put_in c)
    is_put e = told_in put_in (lines_written c.written) (line.Put stream d.head.number id) id (ledger w (line.Put stream d.head.number id) met (put_line e)) refl

    is_failed : (class : Class) → refusal ≡ Some class → In id (told_by failed_in c)
    is_failed class e = told_in failed_in (lines_written c.written) (line.Refused stream d.head.number class id) id (ledger w (line.Refused stream d.head.number class id) met (refused_line class e)) refl

    sent : IsSentBy known c id
    sent = sent_of known apart c o h told i m inside

    source : IsCommittedAt known c id
    source = let is = committer known apart c credible i m inside in record { source = i; own = is.own; there = is.there; commitment = m; inside = inside; names = refl }

    -- what is known
    known_of : (class : Class) → CameTo (mine j) decision (fate_of class) → KnowsFate c i j m class
    known_of class fate = record { decision = decision; there = there; position = refl; names = d.names; fate = fate }

    departs : (class : Class) (l : Line) → refusal ≡ None → Departs class id l → (v : Written) → In v c.written → In l (lines_of v.before v.entry) → KnowsFate c i j m class
    departs class l e x v a b = known_of class (subst (CameTo (mine j) decision) (sym x.tells) (
      ap outcome_by e,
      subst (λ y. In (departure_line x.departure y) (mine j)) (sym d.names)
          (own_departure j w v stream d.head.number id x.departure d.there (put_line e) a (subst (λ y. In y (lines_of v.before v.entry)) x.is b)),
    ))

    -- what was refused left no queue
    stays : (class : Class) (departure : Departure) → refusal ≡ Some class → (v : Written) → In v c.written → In (departure_line departure id) (lines_of v.before v.entry) → ⊥
    stays class departure e v a b = let x = put_there id source sent departure v a b in
        not_put id (is_failed class e) (told_in put_in (lines_written c.written) (line.Put x.stream x.number id) id (mine_told known apart c o h told v.by (line.Put x.stream x.number id) x.inside) refl)

    refuses : (class met_class : Class) (l : Line) → refusal ≡ Some met_class → Fails class id l → (v : Written) → In v c.written → In l (lines_of v.before v.entry) → class ≡ met_class
    unfolding source
    refuses class met_class l e (inl (s, n, is)) v a b = one_reason v w s stream n d.head.number class met_class id a (subst (λ y. In y (lines_of v.before v.entry)) is b) met (refused_line met_class e)
    refuses class met_class l e (inr (inl (s, n, moment, is))) v a b = absurd (undecided v.by j ch m.position (sym x.2 ∙ ap (λ (y : MessageId). y.qm) (sym d.names) ∙ g.source)
        (subst (λ p. In p (expiries_told (mine v.by))) (sym x.1 ∙ ap (λ (y : Commitment). y.position) (one_commitment known apart c o h counted id x.0 source))
        (told_in expiry_told (mine v.by) (line.Expired s n id moment) (record { sequence = s.sequence; number = n }) (own_line known apart c o h v (line.Expired s n id moment) a told_it) refl))
        (named_decided known apart c credible i j m g))
      where
        told_it : In (line.Expired s n id moment) (lines_of v.before v.entry)
        told_it = subst (λ y. In y (lines_of v.before v.entry)) is b

        x : (x : IsCommittedAt known c id) × (x.commitment.position ≡ record { sequence = s.sequence; number = n }) × (id.qm ≡ (manager_at c.network v.by).state.identity.guid)
        x = expired_at known apart c o h counted duly v s n id moment a told_it
    refuses class met_class l e (inr (inr (inl (bounced, is)))) v a b = absurd (not_stored known apart c o h id sent v a
        (all_in (Says (sayings v.entry)) (lines_of v.before v.entry) (line.Bounced bounced id) (says_truly v.before v.entry) (subst (λ y. In y (lines_of v.before v.entry)) is b)))
    refuses class met_class l e (inr (inr (inr is))) v a b = let x = heard_in known apart c o h v a in absurd (not_plain known apart c o h id sent v.by x.0 x.1
        (names_in known apart c o h v.by x.0 x.1 (line.Lapsed id) (own_line known apart c o h v (line.Lapsed id) a (subst (λ y. In y (lines_of v.before v.entry)) is b))))

    knows : (class : Class) → IsTold (Told c) (IsMetBy class) id → KnowsFate c i j m class
    knows class (inr high) = let low = sent.number in absurd (omega (arith, low, high))
    knows class (inl (l, t, says)) = let v = written_in known apart c o h l t in at refusal refl (meets_as class id l says) v.0 v.1 v.2
      where
        at : (r : Option Class) → refusal ≡ r → Departs class id l ⊎ Fails class id l → (v : Written) → In v c.written → In l (lines_of v.before v.entry) → KnowsFate c i j m class
        at None e (inl x) v a b = departs class l e x v a b
        at None e (inr x) v a b = absurd (not_put id (failure_of known apart c o h id sent (inl (l, t, failing class id l x))) (is_put e))
        at (Some reason) e (inl x) v a b = absurd (stays reason x.departure e v a (subst (λ y. In y (lines_of v.before v.entry)) x.is b))
        at (Some reason) e (inr x) v a b = let same = refuses class reason l e x v a b in
            known_of class (subst (CameTo (mine j) decision) (sym (ap fate_of same ∙ subst TellsReason e (arrival_reason w.before d.packet))) (ap outcome_by e))

-- Each final acknowledgement that was sent tells such a fate.
pub fates_told : (known : List Identity) (apart : AreApart known) (c : Course) → IsAccounted known c → AreCommitmentsTold c → AreDecidedTruly c → IsDecidedInOrder c → IsCredible known c → AreExpiredDuly c
    → AreUndecided c → IsNoFailurePut c → AreFatesTold c
fates_told known apart c accounts told truly rise credible duly undecided not_put k note p e f t is i m differ inside named = knows known apart c accounts told truly rise credible duly undecided not_put
    i note.sender m inside
    (names_decided known apart c credible note.sender p (((credible.honest.packets k note p e f).plain t).plain durable) tests.1 i m differ inside named) p.message.class
    (subst (IsTold (Told c) (IsMetBy p.message.class)) (sym named) ((accounts.agreed.1.fair p (numbered_in c.sent k (packet.User p) f)).fate.final tests.1))
  where
    tests : (not (is_express p.message.delivery) ≡ true) × (is_final_class p.message.class ≡ true)
    tests = split_and (not (is_express p.message.delivery)) (is_final_class p.message.class) is

    durable : is_express p.message.delivery ≡ false
    durable = not_true (is_express p.message.delivery) tests.0

-- The law.
pub finals_tell_fates : FinalsTellFates
finals_tell_fates known ms apart run kept = fates_told known apart (settled kept (after_run known ms)) (always_accounted known apart ms run kept) (always_told_commitments known ms apart run kept)
    (always_decided_truly known ms apart run kept) (always_decided_in_order known ms apart run kept) (always_kept known (IsCredible known) (credible_closed known apart) ms run kept (credible_begins known))
    (always_expired_duly known ms apart run kept) (always_undecided known ms apart run kept) (always_truthful known ms apart run kept).not_put
