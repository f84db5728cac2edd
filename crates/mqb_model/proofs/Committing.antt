-- A state stays valid where a transaction is made.
use Rattle.std.proofs.Common.{refl, ap, sym, subst, ◌∙◌, ◌⊎◌, inl, inr, length, arith}
use Rattle.std.proofs.lemmas.List.Elements.{recursion_from_All}
use Rattle.std.specs.List.{AllByRecursion}
use Rattle.std.specs.Prelude.{◌&&◌, ◌+◌, ◌<◌, ◌==◌, ◌∷◌, ◌≡◌, ◌≤◌, [], Bool, List, cond, false, fold, not, true, ℕ}
use Rattle.mqb_base.specs.Bits.{keeps_copy}
use Rattle.mqb_base.specs.Same.{same_guid}
use Rattle.mqb_base.specs.declared.ids.Guid.{Guid}
use Rattle.mqb_base.specs.declared.message.Message.{Message}
use Rattle.mqb_base.specs.declared.queue_names.QueueName.{QueueName}
use Rattle.mqb_base.specs.declared.queues.EntryPlace.TheVariants as place
use Rattle.mqb_base.specs.declared.class.TheConstants.Class.{REACHED_QUEUE}
use Rattle.mqb_fate.specs.Asking.{is_transactional}
use Rattle.mqb_packet.specs.declared.packet.Headers.TheVariants as headers
use Rattle.mqb_model.specs.declared.limits.TheConstants.{MAX_NUMBER}
use Rattle.mqb_model.specs.declared.target.Target.{Target}
use Rattle.mqb_model.specs.declared.target.Target.TheVariants.{AtPeer, Here, Nowhere}
use Rattle.mqb_model.specs.laws.Keeping.{CommitIsValid}
use Rattle.mqb_model.specs.records.Carrying.{IsRecorded}
use Rattle.mqb_model.specs.records.Commit.{join_fits, joins_fit, op_taken, send_made, sends_fit, sends_numbered, sends_of, takes_fit, takes_made}
use Rattle.mqb_model.specs.records.Packets.{in_transaction, is_own_packet, is_sendable, is_too_large}
use Rattle.mqb_model.specs.records.Record.{RecordOp, Send, Take}
use Rattle.mqb_model.specs.rules.Effects.{Effect}
use Rattle.mqb_model.specs.rules.Numbers.{numbers_taken}
use Rattle.mqb_model.specs.rules.Sends.{committed_to, journalled}
use Rattle.mqb_model.specs.rules.Sequences.{may_join}
use Rattle.mqb_model.specs.state.Places.{put_at}
use Rattle.mqb_model.specs.state.Resolving.{resolved}
use Rattle.mqb_model.specs.state.State.{State}
use Rattle.mqb_model.specs.state.Valid.{IsCarried, IsOwn, IsValidState}
use Rattle.mqb_model.proofs.Accepting.{here_stands, journalled_fresh, journalled_stands, own_packet}
use Rattle.mqb_model.proofs.Departing.{take_stands}
use Rattle.mqb_model.proofs.Followed.{and_false, apart_numbers, meets_stands, numbers_apart}
use Rattle.mqb_model.proofs.Joining.{join_stands, led_within}
use Rattle.mqb_model.proofs.Linking.{same_itself}
use Rattle.mqb_model.proofs.Members.{all_weaker, not_true, split_and}
use Rattle.mqb_model.proofs.Offering.{Differ}
use Rattle.mqb_model.proofs.Remaining.{IsApart, IsFresh, IsPlaced, Stands, waiting}

-- The range of numbers that the sends have.

-- one message of them fewer is to come
narrower : (whose : Guid) (low high : ℕ) (s : State) → Stands whose low high s → Stands whose (low + 1) high s
narrower whose low high s h = record {
  valid = h.valid;
  above = h.above;
  owner = h.owner;
  apart = all_weaker (IsApart low high) (IsApart (low + 1) high) (λ m. lower m.id.number) (waiting s) h.apart;
}
  where
    lower : (n : ℕ) → (n < low) ⊎ (high ≤ n) → (n < low + 1) ⊎ (high ≤ n)
    lower n (inl lt) = inl (omega (arith, lt))
    lower n (inr le) = inr le

-- the message of the first number of the range is new
first_is_fresh : (whose : Guid) (low high : ℕ) (s : State) (m : Message) → low < high → m.id ≡ record { qm = whose; number = low } → Stands whose low high s
    → IsFresh whose (low + 1) high s m
first_is_fresh whose low high s m less own h = record {
  own = record {
    source = ap (λ id. same_guid id.qm s.identity.guid) own ∙ ap (λ g. same_guid whose g) h.owner ∙ same_itself whose.0;
    number = subst (λ id. id.number < s.next_number) (sym own) (let above : high ≤ s.next_number = h.above in let below : low < s.next_number = omega arith in below);
  };
  before = all_weaker (IsApart low high) (λ o. Differ o m) (λ o a. ap (λ id. same_guid o.id.qm id.qm && o.id.number == id.number) own
      ∙ and_false (same_guid o.id.qm whose) (o.id.number == low) (other o.id.number a)) (waiting s) h.apart;
  behind = all_weaker (IsApart low high) (Differ m) (λ o a. ap (λ id. same_guid id.qm o.id.qm && id.number == o.id.number) own
      ∙ and_false (same_guid whose o.id.qm) (low == o.id.number) (other_way o.id.number a)) (waiting s) h.apart;
  apart = subst (λ id. (id.number < low + 1) ⊎ (high ≤ id.number)) (sym own) (inl (omega arith));
}
  where
    other : (n : ℕ) → (n < low) ⊎ (high ≤ n) → (n == low) ≡ false
    other n (inl lt) = apart_numbers n low lt
    other n (inr le) = numbers_apart low n (omega (arith, less, le))

    other_way : (n : ℕ) → (n < low) ⊎ (high ≤ n) → (low == n) ≡ false
    other_way n (inl lt) = numbers_apart n low lt
    other_way n (inr le) = apart_numbers low n (omega (arith, less, le))

-- One send.

-- a message of a transaction that a manager sends under a number
pub record IsSent (whose : Guid) (number : ℕ) (m : Message) : Type 0 where
  pub own : m.id ≡ record { qm = whose; number = number }
  pub transactional : is_transactional m.delivery ≡ true
  pub carried : IsCarried headers.TxAndSession m
  pub placed : IsPlaced m

may_still : (s : State) (m : Message) (k : ℕ) (destination : QueueName) → may_join s k destination ≡ true → may_join (journalled s m) k destination ≡ true
may_still s m k destination h = at (keeps_copy m)
  where
    at : (b : Bool) → may_join (cond b (put_at s place.Journal m) s) k destination ≡ true
    at true = h
    at false = h

within_still : (s : State) (m : Message) (k : ℕ) → k < length s.peers → k < length (journalled s m).peers
within_still s m k h = at (keeps_copy m)
  where
    at : (b : Bool) → k < length (cond b (put_at s place.Journal m) s).peers
    at true = h
    at false = h

sent_to_stands : (whose : Guid) (low high now : ℕ) (s : State) (m : Message) (t : Target) → resolved s m.destination ≡ t → join_fits s t m.destination ≡ true
    → low < high → IsSent whose low m → Stands whose low high s → Stands whose (low + 1) high (committed_to now (journalled s m) t m).state
sent_to_stands whose low high now s m (AtPeer k) e f less i h = join_stands whose (low + 1) high (journalled s m) k now m
    (within_still s m k (led_within s m.destination k e)) (may_still s m k m.destination f) i.transactional i.carried
    (journalled_fresh whose (low + 1) high s m (first_is_fresh whose low high s m less i.own h))
    (journalled_stands whose (low + 1) high s m i.placed (narrower whose low high s h))
sent_to_stands whose low high now s m (Here queue) e f less i h = here_stands whose (low + 1) high (journalled s m) queue m now i.placed
    (journalled_stands whose (low + 1) high s m i.placed (narrower whose low high s h))
sent_to_stands whose low high now s m Nowhere e f less i h = meets_stands whose (low + 1) high (journalled s m) m REACHED_QUEUE now i.placed refl
    (journalled_stands whose (low + 1) high s m i.placed (narrower whose low high s h))

-- All sends.

-- messages that are sent under numbers from this one on
abbrev pub AreSent : Guid → ℕ → List Message → Type 0
AreSent whose number [] = Unit {0}
AreSent whose number (m ∷ ms) = IsSent whose number m × AreSent whose (number + 1) ms

sends_stand : (whose : Guid) (low high now : ℕ) (e : Effect) (ms : List Message) → low + length ms ≤ high → AreSent whose low ms → joins_fit e now ms ≡ true
    → Stands whose low high e.state → IsValidState (fold (send_made now) e ms).state
sends_stand whose low high now e [] room i f h = h.valid
sends_stand whose low high now e (m ∷ ms) room i f h = sends_stand whose (low + 1) high now (send_made now e m) ms (omega arith) i.1 both.1
    (sent_to_stands whose low high now e.state m (resolved e.state m.destination) refl both.0 (omega arith) i.0 h)
  where
    both : (join_fits e.state (resolved e.state m.destination) m.destination ≡ true) × (joins_fit (send_made now e m) now ms ≡ true)
    both = split_and (join_fits e.state (resolved e.state m.destination) m.destination) (joins_fit (send_made now e m) now ms) f

-- Takes, and numbers.

takes_stand : (whose : Guid) (low high now : ℕ) (e : Effect) (ops : List RecordOp) → Stands whose low high e.state → Stands whose low high (fold (op_taken now) e ops).state
takes_stand whose low high now e [] h = h
takes_stand whose low high now e (Send p ∷ ops) h = takes_stand whose low high now e ops h
takes_stand whose low high now e (Take queue id ∷ ops) h = takes_stand whose low high now (op_taken now e (Take queue id)) ops
    (take_stands whose low high (place.Queue queue) id now e h)

-- the packets that fit are of messages that are sent under numbers in turn
are_sent : (s : State) (number : ℕ) (ops : List RecordOp) → AllByRecursion IsRecorded (sends_of ops) → sends_fit s number ops ≡ true
    → AreSent s.identity.guid number (sends_of ops)
are_sent s number [] told f = tt
are_sent s number (Take queue id ∷ ops) told f = are_sent s number ops told f
are_sent s number (Send p ∷ ops) told f = (one, are_sent s (number + 1) ops told.1 both.1)
  where
    both : (is_sendable s headers.TxAndSession number p ≡ true) × (sends_fit s (number + 1) ops ≡ true)
    both = split_and (is_sendable s headers.TxAndSession number p) (sends_fit s (number + 1) ops) f

    parts : (is_own_packet s number p ≡ true) × (not (is_too_large headers.TxAndSession p.message) ≡ true)
    parts = split_and (is_own_packet s number p) (not (is_too_large headers.TxAndSession p.message)) both.0

    one : IsSent s.identity.guid number (in_transaction p)
    one = record {
      own = (own_packet s number p parts.0).own;
      transactional = refl;
      carried = record { well_formed = (told.0).well_formed; named = (told.0).named; size = not_true (is_too_large headers.TxAndSession p.message) parts.1 };
      placed = (told.0, refl);
    }

-- the numbers of the packets that fit are left
numbers_left : (s : State) (number : ℕ) (ops : List RecordOp) → number ≤ MAX_NUMBER + 1 → sends_fit s number ops ≡ true → number + length (sends_of ops) ≤ MAX_NUMBER + 1
numbers_left s number [] le f = omega (arith, le)
numbers_left s number (Take queue id ∷ ops) le f = numbers_left s number ops le f
numbers_left s number (Send p ∷ ops) le f = let later = numbers_left s (number + 1) ops next both.1 in omega (arith, later)
  where
    both : (is_sendable s headers.TxAndSession number p ≡ true) × (sends_fit s (number + 1) ops ≡ true)
    both = split_and (is_sendable s headers.TxAndSession number p) (sends_fit s (number + 1) ops) f

    left : number ≤ MAX_NUMBER
    left = (own_packet s number p (split_and (is_own_packet s number p) (not (is_too_large headers.TxAndSession p.message)) both.0).0).left

    next : number + 1 ≤ MAX_NUMBER + 1
    next = omega (arith, left)

numbered_stands : (s : State) (count : ℕ) → s.next_number + count ≤ MAX_NUMBER + 1 → IsValidState s
    → Stands s.identity.guid s.next_number (s.next_number + count) (numbers_taken s count)
numbered_stands s count left v = record {
  valid = record {
    few_peers = v.few_peers;
    few_queues = v.few_queues;
    peers_differ = v.peers_differ;
    queues_differ = v.queues_differ;
    plain_lists = v.plain_lists;
    hosts = v.hosts;
    ordinals_rise = v.ordinals_rise;
    ordinals_given = v.ordinals_given;
    rows = v.rows;
    sources_differ = v.sources_differ;
    outs_to_queues = v.outs_to_queues;
    ins_to_queues = v.ins_to_queues;
    kept = v.kept;
    plain = v.plain;
    placed = v.placed;
    recoverable = v.recoverable;
    durable = v.durable;
    next_number = (let first : 1 ≤ s.next_number = v.next_number.0 in omega arith, left);
    next_ordinal = v.next_ordinal;
    settings = v.settings;
    own = λ k d lt. let one = v.own k d lt in record { source = one.source; number = later _ one.number };
    ids_differ = v.ids_differ;
  };
  above = omega arith;
  owner = refl;
  apart = all_weaker (IsOwn s.identity.guid s.next_number) (IsApart s.next_number (s.next_number + count)) (λ m one. inl one.number) (waiting s)
      (recursion_from_All (IsOwn s.identity.guid s.next_number) (waiting s) v.own);
}
  where
    later : (n : ℕ) → n < s.next_number → n < s.next_number + count
    later n lt = omega arith

pub commit_is_valid : CommitIsValid
commit_is_valid s now ops v told f = sends_stand s.identity.guid s.next_number (s.next_number + length (sends_of ops)) now (takes_made s now ops) (sends_of ops) (omega arith)
    (are_sent s s.next_number ops (recursion_from_All IsRecorded (sends_of ops) told) packets.0) whole.1
    (takes_stand s.identity.guid s.next_number (s.next_number + length (sends_of ops)) now (sends_numbered s ops) ops
    (numbered_stands s (length (sends_of ops)) (numbers_left s s.next_number ops v.next_number.1 packets.0) v))
  where
    whole : ((sends_fit s s.next_number ops && takes_fit (sends_numbered s ops) now ops) ≡ true) × (joins_fit (takes_made s now ops) now (sends_of ops) ≡ true)
    whole = split_and (sends_fit s s.next_number ops && takes_fit (sends_numbered s ops) now ops) (joins_fit (takes_made s now ops) now (sends_of ops)) f

    packets : (sends_fit s s.next_number ops ≡ true) × (takes_fit (sends_numbered s ops) now ops ≡ true)
    packets = split_and (sends_fit s s.next_number ops) (takes_fit (sends_numbered s ops) now ops) whole.0
