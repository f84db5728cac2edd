-- Each Put line tells of a committed message, which its record brought to the end of a queue.
use Rattle.std.proofs.Common.{refl, ap, sym, subst, ◌∙◌, inl, inr}
use Rattle.std.specs.List.{AllByRecursion, cons_option}
use Rattle.std.specs.Option.{option_map_or}
use Rattle.std.specs.Prelude.{[], ◌++◌, ◌∷◌, ◌≡◌, ◌⊎◌, List, None, Option, Some, cond, filter_map, true, ℕ}
use Rattle.mqb_base.specs.Same.{same_guid, same_name}
use Rattle.mqb_base.specs.declared.class.Class.{Class}
use Rattle.mqb_base.specs.declared.heads.TxHead.{TxHead}
use Rattle.mqb_base.specs.declared.ids.MessageId.{MessageId}
use Rattle.mqb_base.specs.declared.ledger.Line.{Line}
use Rattle.mqb_base.specs.declared.ledger.Line.TheVariants as line
use Rattle.mqb_base.specs.declared.ledger.Stream.{Stream}
use Rattle.mqb_base.specs.declared.message.Delivery.TheVariants as delivery
use Rattle.mqb_base.specs.declared.message.Message.{Message}
use Rattle.mqb_exactly_once.specs.Words.{In}
use Rattle.mqb_exactly_once.specs.World.{Channel, Commitment, Position}
use Rattle.mqb_model.specs.declared.target.Target.{Target}
use Rattle.mqb_model.specs.declared.target.Target.TheVariants.{AtPeer, Here, Nowhere}
use Rattle.mqb_model.specs.records.Applying.{apply, lines_of}
use Rattle.mqb_model.specs.records.Commit.{send_made, sends_of, takes_made}
use Rattle.mqb_model.specs.records.Decisions.{decided_line, message_decided, stream_heard}
use Rattle.mqb_model.specs.records.Record.{Part, Record, RecordOp}
use Rattle.mqb_model.specs.records.Record as entry
use Rattle.mqb_model.specs.records.Releases.{releases_made}
use Rattle.mqb_model.specs.rules.Arrivals.{refusal_of}
use Rattle.mqb_model.specs.rules.Effects.{Effect, begun, joined}
use Rattle.mqb_model.specs.rules.Sends.{journalled}
use Rattle.mqb_model.specs.state.Resolving.{resolved}
use Rattle.mqb_model.specs.state.State.{State}
use Rattle.mqb_network.specs.Courses.{Course, Written}
use Rattle.mqb_network.specs.Doubts.{settled}
use Rattle.mqb_network.specs.Runs.{after_run}
use Rattle.mqb_packet.specs.declared.packet.UserPacket.{UserPacket}
use Rattle.mqb_base.specs.declared.queues.EntryPlace.TheVariants as place
use Rattle.mqb_queue.specs.Places.{lists_at}
use Rattle.mqb_history.specs.Carried.{AreDecidedTruly, ComesFromItsSource}
use Rattle.mqb_history.specs.Committed.{commitment_at, commitments, commitments_in, commitments_of}
use Rattle.mqb_history.specs.Decided.{decided_in, position_in, written_of}
use Rattle.mqb_history.specs.Put.{ArePutTruly, JoinsQueue, PutIsTheCommittedMessage}
use Rattle.mqb_history.specs.Told.{Joined, decision_told, is_of, joined_by}
use Rattle.mqb_history.proofs.Between.{all_in, in_either}
use Rattle.mqb_history.proofs.Carrying.{always_decided_truly}
use Rattle.mqb_history.proofs.Lines.{IsOther, releases_add}
use Rattle.mqb_history.proofs.Lists.{all_append, join_and, none_some}
use Rattle.mqb_history.proofs.Names.{same_guid_refl, same_name_refl}
use Rattle.mqb_history.proofs.Putting.{decided_joins, released_leads, released_places}
use Rattle.mqb_history.proofs.Reasons.{released_reason}
use Rattle.mqb_history.proofs.Telling.{record_tells}

-- What is committed is of a transaction.

abbrev pub IsOfTransaction : Message → Type 0
IsOfTransaction m = m.delivery ≡ delivery.Transactional

pub sends_transact : (ops : List RecordOp) → AllByRecursion IsOfTransaction (sends_of ops)
sends_transact [] = tt
sends_transact (entry.Send p ∷ ops) = (refl, sends_transact ops)
sends_transact (entry.Take queue id ∷ ops) = sends_transact ops

commits_transact : (now : ℕ) (e : Effect) (ms : List Message) → AllByRecursion IsOfTransaction ms → AllByRecursion (λ (c : Commitment). IsOfTransaction c.message) (commitments_of now e ms)
commits_transact now e [] h = tt
commits_transact now e (m ∷ ms) h = at (resolved e.state m.destination) (commits_transact now (send_made now e m) ms h.1)
  where
    at : (t : Target) → AllByRecursion (λ (c : Commitment). IsOfTransaction c.message) (commitments_of now (send_made now e m) ms)
        → AllByRecursion (λ (c : Commitment). IsOfTransaction c.message) (cons_option (commitment_at now (journalled e.state m) t m) (commitments_of now (send_made now e m) ms))
    at (AtPeer k) rest = (h.0, rest)
    at (Here queue) rest = rest
    at Nowhere rest = rest

record_transacts : (s : State) (r : Record) → AllByRecursion (λ (c : Commitment). IsOfTransaction c.message) (commitments_in s r)
record_transacts s (entry.Commit now ops) = commits_transact now (takes_made s now ops) (sends_of ops) (sends_transact ops)
record_transacts s r = tt

pub all_transact : (ws : List Written) → AllByRecursion (λ (c : Commitment). IsOfTransaction c.message) (commitments ws)
all_transact [] = tt
all_transact (w ∷ ws) = all_append (λ (c : Commitment). IsOfTransaction c.message) (commitments_in w.before w.entry) (commitments ws) (record_transacts w.before w.entry) (all_transact ws)

-- What a line tells of decisions.

-- a word finds what it tells
pub told_in : {X : Type 0} (tells : Line → Option X) (ls : List Line) (l : Line) (x : X) → In l ls → tells l ≡ Some x → In x (filter_map tells ls)
told_in tells [] l x i e = absurd i
told_in {X} tells (k ∷ ls) l x (inl f) e = subst (λ o. In x (cons_option o (filter_map tells ls))) (sym (ap tells f ∙ e)) (inl refl)
told_in {X} tells (k ∷ ls) l x (inr i) e = at (tells k) (told_in tells ls l x i e)
  where
    at : (o : Option X) → In x (filter_map tells ls) → In x (cons_option o (filter_map tells ls))
    at None j = j
    at (Some y) j = inr j

-- a record decides a packet of a stream
pub record IsDeciding (r : Record) : Type 0 where
  pub now : ℕ
  pub numbers : List ℕ
  pub packet : UserPacket
  pub head : TxHead
  pub entry : r ≡ entry.Arrived now numbers (entry.Decided packet)
  pub there : packet.tx ≡ Some head

decides : (channel : Channel) (r : Record) (p : Position) → decided_in channel r ≡ Some p → IsDeciding r
decides channel (entry.Arrived now numbers (entry.Decided q)) p e = at q.tx refl e
  where
    at : (o : Option TxHead) → q.tx ≡ o → position_in channel q.message o ≡ Some p → IsDeciding (entry.Arrived now numbers (entry.Decided q))
    at None f g = absurd (none_some g)
    at (Some tx) f g = record { now = now; numbers = numbers; packet = q; head = tx; entry = refl; there = f }
decides channel r p e = absurd (none_some e)

only_in : {X : Type 0} (o : Option X) (x : X) → In x (cons_option o []) → o ≡ Some x
only_in None x i = absurd i
only_in (Some y) x (inl e) = ap (λ z. Some z) e
only_in (Some y) x (inr i) = absurd i

-- the channel of a stream
abbrev channel_of : Stream → Channel
channel_of stream = record { source = stream.source; destination = stream.destination }

own_channel : (stream : Stream) → is_of (channel_of stream) stream ≡ true
own_channel stream = join_and (same_guid stream.source stream.source) (same_name stream.destination stream.destination) (same_guid_refl stream.source) (same_name_refl stream.destination)

abbrev place_of : Stream → ℕ → Position
place_of stream number = record { sequence = stream.sequence; number = number }

telling_decides : (s : State) (r : Record) (l : Line) (stream : Stream) (number : ℕ) → In l (lines_of s r)
    → decision_told (channel_of stream) l ≡ cond (is_of (channel_of stream) stream) (Some (place_of stream number)) None → IsDeciding r
telling_decides s r l stream number i e = decides (channel_of stream) r (place_of stream number) (only_in (decided_in (channel_of stream) r) (place_of stream number)
    (subst (In (place_of stream number)) (record_tells (channel_of stream) s r) (told_in (decision_told (channel_of stream)) (lines_of s r) l (place_of stream number) i
    (e ∙ ap (λ b. cond b (Some (place_of stream number)) None) (own_channel stream)))))

pub put_decides : (s : State) (r : Record) (stream : Stream) (number : ℕ) (id : MessageId) → In (line.Put stream number id) (lines_of s r) → IsDeciding r
put_decides s r stream number id i = telling_decides s r (line.Put stream number id) stream number i refl

pub refused_decides : (s : State) (r : Record) (stream : Stream) (number : ℕ) (class : Class) (id : MessageId) → In (line.Refused stream number class id) (lines_of s r) → IsDeciding r
refused_decides s r stream number class id i = telling_decides s r (line.Refused stream number class id) stream number i refl

-- a line of a record that decides, which tells of a stream, is that of the decision
pub decision_line : (s : State) (now : ℕ) (numbers : List ℕ) (p : UserPacket) (tx : TxHead) (l : Line) → p.tx ≡ Some tx → (IsOther l → ⊥)
    → In l (lines_of s (entry.Arrived now numbers (entry.Decided p))) → decided_line p.message tx (refusal_of s p) ≡ l
decision_line s now numbers p tx l there tells i = at (in_either e.lines (decided_line p.message tx (refusal_of s p) ∷ []) l (subst (In l) lines i))
  where
    e : Effect
    e = releases_made s numbers

    lines : lines_of s (entry.Arrived now numbers (entry.Decided p)) ≡ e.lines ++ decided_line p.message tx (refusal_of s p) ∷ []
    lines = ap (λ o. (option_map_or (λ tx. joined e (message_decided now e.state p tx)) o e).lines) there
        ∙ ap (λ (o : Option Class). e.lines ++ decided_line p.message tx o ∷ []) (released_reason (begun s) numbers p)

    at : In l e.lines ⊎ In l (decided_line p.message tx (refusal_of s p) ∷ []) → decided_line p.message tx (refusal_of s p) ≡ l
    at (inl j) = let a = releases_add (begun s) numbers in absurd (tells (all_in IsOther a.more l a.others (subst (In l) a.lines j)))
    at (inr (inl f)) = f
    at (inr (inr none)) = absurd none

-- a record puts a packet of a stream
record IsPutting (s : State) (r : Record) (told : Joined) : Type 0 where
  pub deciding : IsDeciding r
  pub free : refusal_of s deciding.packet ≡ None
  pub names : record { stream = stream_heard deciding.packet.message deciding.head; number = deciding.head.number; id = deciding.packet.message.id } ≡ told

abbrev joined_as : Stream → ℕ → MessageId → Joined
joined_as stream number id = record { stream = stream; number = number; id = id }

same_put : (a b : Stream) (m n : ℕ) (x y : MessageId) → line.Put a m x ≡ line.Put b n y → joined_as a m x ≡ joined_as b n y
same_put a b m n x y e = let f : a ≡ b = cc in let g : m ≡ n = cc in let h : x ≡ y = cc in
    ap (λ c. joined_as c m x) f ∙ ap (λ k. joined_as b k x) g ∙ ap (λ z. joined_as b n z) h

putting : (s : State) (r : Record) (stream : Stream) (number : ℕ) (id : MessageId) → In (line.Put stream number id) (lines_of s r)
    → IsPutting s r (record { stream = stream; number = number; id = id })
putting s r stream number id i = at (refusal_of s p) refl named
  where
    d : IsDeciding r
    d = put_decides s r stream number id i

    p : UserPacket
    p = d.packet

    named : decided_line p.message d.head (refusal_of s p) ≡ line.Put stream number id
    named = decision_line s d.now d.numbers p d.head (line.Put stream number id) d.there (λ none. none)
        (subst (λ x. In (line.Put stream number id) (lines_of s x)) d.entry i)

    at : (o : Option Class) → refusal_of s p ≡ o → decided_line p.message d.head o ≡ line.Put stream number id → IsPutting s r (record { stream = stream; number = number; id = id })
    at None f g = record { deciding = d; free = f; names = same_put (stream_heard p.message d.head) stream d.head.number number p.message.id id g }
    at (Some class) f g = absurd (let none : ⊥ = cc in none)

-- The record brings it to the end of its queue.

joins_before : (s : State) (now : ℕ) (numbers : List ℕ) (p : UserPacket) (tx : TxHead) → p.tx ≡ Some tx → refusal_of s p ≡ None → IsOfTransaction p.message
    → JoinsQueue s (apply s (entry.Arrived now numbers (entry.Decided p))) p.message
joins_before s now numbers p tx there free kind = record {
  queue = j.queue;
  leads = sym (released_leads (begun s) numbers p.message.destination) ∙ j.leads;
  lists = j.lists;
  before = ap (λ x. lists_at x (place.Queue j.queue)) (sym (released_places (begun s) numbers)) ∙ j.before;
  after = ap (λ o. lists_at (option_map_or (λ tx. joined e (message_decided now e.state p tx)) o e).state.places
      (place.Queue j.queue)) there ∙ j.after;
}
  where
    e : Effect
    e = releases_made s numbers

    j : JoinsQueue e.state (message_decided now e.state p tx).state p.message
    j = decided_joins now e.state p tx (released_reason (begun s) numbers p ∙ free) kind

put_truly : (c : Course) → AreDecidedTruly c → ArePutTruly c
put_truly c truly before behind w stream number id split i = record {
  source = from.source;
  commitment = x;
  there = from.committed.there;
  joined = ap (λ own. joined_by own x) from.own ∙ ap (λ q. record {
    stream = record { source = p.message.id.qm; destination = x.message.destination; sequence = q.sequence };
    number = q.number;
    id = x.message.id;
  }) from.committed.position ∙ ap (λ (m : Message). record {
    stream = record { source = p.message.id.qm; destination = m.destination; sequence = d.head.sequence };
    number = d.head.number;
    id = m.id;
  }) (sym from.committed.message) ∙ put.names;
  reach = p.message.reach;
  joins = subst (λ r. JoinsQueue w.before (apply w.before r) (record x.message { reach = p.message.reach })) (sym d.entry)
      (subst (λ (m : Message). JoinsQueue w.before (apply w.before (entry.Arrived d.now d.numbers (entry.Decided p))) m) same
      (joins_before w.before d.now d.numbers p d.head d.there put.free kind));
}
  where
    put : IsPutting w.before w.entry (record { stream = stream; number = number; id = id })
    put = putting w.before w.entry stream number id i

    d : IsDeciding w.entry
    d = put.deciding

    p : UserPacket
    p = d.packet

    from : ComesFromItsSource c before p d.head
    from = truly before behind w d.now d.numbers p d.head split d.entry d.there

    x : Commitment
    x = from.committed.commitment

    kind : IsOfTransaction p.message
    kind = ap (λ (m : Message). m.delivery) from.committed.message
        ∙ all_in (λ (y : Commitment). IsOfTransaction y.message) (commitments (written_of from.source before)) x (all_transact (written_of from.source before)) from.committed.there

    same : p.message ≡ record x.message { reach = p.message.reach }
    same = let e = from.committed.message in e ∙ ap (λ k. record x.message { reach = k }) (sym (ap (λ (m : Message). m.reach) e))

pub put_is_the_committed_message : PutIsTheCommittedMessage
put_is_the_committed_message known ms apart run kept = put_truly (settled kept (after_run known ms)) (always_decided_truly known ms apart run kept)
