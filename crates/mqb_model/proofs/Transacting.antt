-- The record of a transaction fits: each op that was tried comes to the same in it.
use Rattle.std.proofs.Common.{refl, ap, sym, subst, ◌∙◌, length, arith, length-append}
use Rattle.std.proofs.lemmas.Bool.Decides.{nat_tests}
use Rattle.std.specs.List.{list_any}
use Rattle.std.specs.Option.{option_map_or}
use Rattle.std.specs.Prelude.{◌&&◌, ◌+◌, ◌++◌, ◌==◌, ◌||◌, ◌∷◌, ◌≡◌, ◌≤◌, [], Bool, Err, IfOk, List, None, Ok, Option, Result, Some, cond, false, fold, is_none, nat_le, nat_lt, not, slice_get, true, ℕ}
use Rattle.mqb_base.specs.Same.{same_guid}
use Rattle.mqb_base.specs.declared.draft.Op.{Op}
use Rattle.mqb_base.specs.declared.draft.Op.TheVariants as asked
use Rattle.mqb_base.specs.declared.draft.Parts.{Parts}
use Rattle.mqb_base.specs.declared.ids.Guid.{Guid}
use Rattle.mqb_base.specs.declared.ids.MessageId.{MessageId}
use Rattle.mqb_base.specs.declared.message.Message.{Message}
use Rattle.mqb_base.specs.declared.queues.EntryPlace.TheVariants as place
use Rattle.mqb_packet.specs.mqb_fields.Reading.{◌>>=◌}
use Rattle.mqb_packet.specs.declared.packet.Headers.TheVariants as headers
use Rattle.mqb_packet.specs.declared.packet.UserPacket.{UserPacket}
use Rattle.mqb_queue.specs.Lists.{count}
use Rattle.mqb_queue.specs.Places.{Queue, numbered}
use Rattle.mqb_model.specs.calls.Commit.{Trial, at_op, commit, commit_tried, first_free, ops_refusal, send_into, send_to, take_first, take_from, take_of, trial_of, try_op, try_ops, with_joined, with_put, with_send, with_take}
use Rattle.mqb_model.specs.calls.Messages.{message_for}
use Rattle.mqb_model.specs.declared.answers.Done.{Done}
use Rattle.mqb_model.specs.declared.faults.CommitFault.{CommitFault}
use Rattle.mqb_model.specs.declared.faults.CommitFault.TheVariants as commit_fault
use Rattle.mqb_model.specs.declared.faults.OpFault.{OpFault}
use Rattle.mqb_model.specs.declared.faults.OpFault.TheVariants as op_fault
use Rattle.mqb_model.specs.declared.limits.TheConstants.{MAX_NUMBER, MAX_RECORD}
use Rattle.mqb_model.specs.declared.target.Target.{Target}
use Rattle.mqb_model.specs.declared.target.Target.TheVariants.{AtPeer, Here, Nowhere}
use Rattle.mqb_model.specs.laws.Fitting.{IsFitting}
use Rattle.mqb_model.specs.managers.Manager.{Manager}
use Rattle.mqb_model.specs.managers.Outcomes.{recording, unless}
use Rattle.mqb_model.specs.records.Commit.{commit_fits, join_fits, joins_fit, op_taken, send_made, sends_fit, sends_numbered, sends_of, take_fits, takes_fit, takes_made}
use Rattle.mqb_model.specs.records.Counting.{commit_size}
use Rattle.mqb_model.specs.records.Packets.{in_transaction, is_own_packet, is_recoverable, is_sendable, is_too_large, packet_to}
use Rattle.mqb_model.specs.records.Record as entry
use Rattle.mqb_model.specs.records.Record.{RecordOp, Send, Take}
use Rattle.mqb_model.specs.rules.Effects.{Effect}
use Rattle.mqb_model.specs.rules.Numbers.{is_numbered}
use Rattle.mqb_model.specs.rules.Sends.{committed_to, journalled}
use Rattle.mqb_model.specs.rules.Sequences.{join, may_join, sequence_for}
use Rattle.mqb_model.specs.rules.Takes.{taken}
use Rattle.mqb_model.specs.state.Places.{put_at}
use Rattle.mqb_model.specs.state.Resolving.{guid_at, is_found, queue_named, resolved}
use Rattle.mqb_model.specs.state.State.{State}
use Rattle.mqb_model.proofs.Cores.{core, delivered_core, guid_same, join_names, join_number, join_same, journalled_core, lead_same, may_same, names, put_core, takes_core}
use Rattle.mqb_model.proofs.Linking.{itself, same_itself}
use Rattle.mqb_model.proofs.Members.{split_and}
use Rattle.mqb_model.proofs.Trying.{all_seen, takes_alike}

and : (a b : Bool) → a ≡ true → b ≡ true → (a && b) ≡ true
and a b h k = ap (λ x. x && b) h ∙ k

-- What was tried of a transaction.

-- the packet of a send bears a number of the manager, and goes to where its destination leads
pub record IsNext (s : State) (number : ℕ) (p : UserPacket) : Type 0 where
  pub own : is_numbered s number p.message ≡ true
  pub recoverable : is_recoverable p.message.delivery ≡ true
  pub tx : is_none p.tx ≡ true
  pub session : is_none p.session ≡ true
  pub found : is_found (resolved s p.message.destination) ≡ true
  pub to : same_guid p.to (guid_at s (resolved s p.message.destination)) ≡ true

-- the packets of all sends do, one number after another
abbrev pub AreNext : State → ℕ → List RecordOp → Type 0
AreNext s number [] = Unit {0}
AreNext s number (Send p ∷ ops) = IsNext s number p × AreNext s (number + 1) ops
AreNext s number (Take queue id ∷ ops) = AreNext s number ops

-- On a state that is seen alike the takes come to what was tried, and on one with the same core the sends do.
pub record IsTried (s : State) (now : ℕ) (t : Trial) : Type 0 where
  pub lead : names t.sending ≡ names s
  pub number : t.sending.next_number ≡ s.next_number + length (sends_of t.ops)
  pub packets : AreNext s s.next_number t.ops
  pub takes : (e : Effect) → all_seen e.state ≡ all_seen s → (takes_fit e now t.ops ≡ true) × (all_seen (fold (op_taken now) e t.ops).state ≡ all_seen t.taking)
  pub joins : (e : Effect) → core e.state ≡ core s
      → (joins_fit e now (sends_of t.ops) ≡ true) × (core (fold (send_made now) e (sends_of t.ops)).state ≡ core t.sending)

none_tried : (s : State) (now : ℕ) → IsTried s now (trial_of s)
none_tried s now = record {
  lead = refl;
  number = omega arith;
  packets = tt;
  takes = λ e same. (refl, same);
  joins = λ e same. (refl, same);
}

-- Ops that join others.

sends_take : (ops : List RecordOp) (n : ℕ) (id : MessageId) → sends_of (ops ++ Take n id ∷ []) ≡ sends_of ops
sends_take [] n id = refl
sends_take (Send p ∷ ops) n id = ap (λ ms. in_transaction p ∷ ms) (sends_take ops n id)
sends_take (Take q i ∷ ops) n id = sends_take ops n id

sends_push : (ops : List RecordOp) (p : UserPacket) → sends_of (ops ++ Send p ∷ []) ≡ sends_of ops ++ in_transaction p ∷ []
sends_push [] p = refl
sends_push (Send x ∷ ops) p = ap (λ ms. in_transaction x ∷ ms) (sends_push ops p)
sends_push (Take q i ∷ ops) p = sends_push ops p

fold_push : {X Y : Type 0} (f : Y → X → Y) (y : Y) (xs : List X) (x : X) → fold f y (xs ++ x ∷ []) ≡ f (fold f y xs) x
fold_push f y [] x = refl
fold_push f y (z ∷ xs) x = fold_push f (f y z) xs x

next_take : (s : State) (number : ℕ) (ops : List RecordOp) (n : ℕ) (id : MessageId) → AreNext s number ops → AreNext s number (ops ++ Take n id ∷ [])
next_take s number [] n id h = tt
next_take s number (Send p ∷ ops) n id h = (h.0, next_take s (number + 1) ops n id h.1)
next_take s number (Take q i ∷ ops) n id h = next_take s number ops n id h

next_send : (s : State) (number : ℕ) (ops : List RecordOp) (p : UserPacket) → AreNext s number ops → IsNext s (number + length (sends_of ops)) p → AreNext s number (ops ++ Send p ∷ [])
next_send s number [] p h one = (subst (λ n. IsNext s n p) (let same : number + 0 ≡ number = omega arith in same) one, tt)
next_send s number (Send x ∷ ops) p h one = (
  h.0,
  next_send s (number + 1) ops p h.1
      (subst (λ n. IsNext s n p) (let same : number + length (sends_of (Send x ∷ ops)) ≡ number + 1 + length (sends_of ops) = omega arith in same) one),
)
next_send s number (Take q i ∷ ops) p h one = next_send s number ops p h one

takes_take : (now : ℕ) (e : Effect) (ops : List RecordOp) (n : ℕ) (id : MessageId) → takes_fit e now ops ≡ true
    → take_fits (fold (op_taken now) e ops).state now (place.Queue n) id ≡ true → takes_fit e now (ops ++ Take n id ∷ []) ≡ true
takes_take now e [] n id h one = and (take_fits e.state now (place.Queue n) id) true one refl
takes_take now e (Send p ∷ ops) n id h one = takes_take now e ops n id h one
takes_take now e (Take q i ∷ ops) n id h one = let both = split_and (take_fits e.state now (place.Queue q) i) (takes_fit (taken (place.Queue q) i now e) now ops) h in
    and (take_fits e.state now (place.Queue q) i) (takes_fit (taken (place.Queue q) i now e) now (ops ++ Take n id ∷ [])) both.0
    (takes_take now (taken (place.Queue q) i now e) ops n id both.1 one)

takes_send : (now : ℕ) (e : Effect) (ops : List RecordOp) (p : UserPacket) → takes_fit e now ops ≡ true → takes_fit e now (ops ++ Send p ∷ []) ≡ true
takes_send now e [] p h = refl
takes_send now e (Send x ∷ ops) p h = takes_send now e ops p h
takes_send now e (Take q i ∷ ops) p h = let both = split_and (take_fits e.state now (place.Queue q) i) (takes_fit (taken (place.Queue q) i now e) now ops) h in
    and (take_fits e.state now (place.Queue q) i) (takes_fit (taken (place.Queue q) i now e) now (ops ++ Send p ∷ [])) both.0
    (takes_send now (taken (place.Queue q) i now e) ops p both.1)

joins_push : (now : ℕ) (e : Effect) (ms : List Message) (m : Message) → joins_fit e now ms ≡ true
    → let last = fold (send_made now) e ms in join_fits last.state (resolved last.state m.destination) m.destination ≡ true → joins_fit e now (ms ++ m ∷ []) ≡ true
joins_push now e [] m h one = and (join_fits e.state (resolved e.state m.destination) m.destination) true one refl
joins_push now e (x ∷ ms) m h one = let both = split_and (join_fits e.state (resolved e.state x.destination) x.destination) (joins_fit (send_made now e x) now ms) h in
    and (join_fits e.state (resolved e.state x.destination) x.destination) (joins_fit (send_made now e x) now (ms ++ m ∷ [])) both.0 (joins_push now (send_made now e x) ms m both.1 one)

-- A take.

take_tried : (s : State) (now : ℕ) (t : Trial) (n k : ℕ) (q : Queue) (m : Message) → IsTried s now t → numbered t.taking.places.queues n ≡ Some q → q.plan.transactional ≡ true
    → first_free n now q ≡ Some k → slice_get q.lists.durable k ≡ Some m → IsTried s now (with_take t n k m)
take_tried s now t n k q m h there transactional found message = record {
  lead = h.lead;
  number = h.number ∙ ap (λ ms. s.next_number + length ms) (sym (sends_take t.ops n m.id));
  packets = next_take s s.next_number t.ops n m.id h.packets;
  takes = λ e same. let before = h.takes e same in
      let one = takes_alike t.taking now n k q m (fold (op_taken now) e t.ops) before.1 there transactional found message in (
        takes_take now e t.ops n m.id before.0 one.fits,
        ap (λ x. all_seen x.state) (fold_push (op_taken now) e t.ops (Take n m.id)) ∙ one.seen_after,
      );
  joins = λ e same. let before = h.joins e same in (
    ap (λ ms. joins_fit e now ms) (sends_take t.ops n m.id) ∙ before.0,
    ap (λ ms. core (fold (send_made now) e ms).state) (sends_take t.ops n m.id) ∙ before.1,
  );
}

takes_tried : (s : State) (now : ℕ) (t : Trial) (n : ℕ) → IsTried s now t → IfOk (take_of t now n) (IsTried s now)
takes_tried s now t n h = at (numbered t.taking.places.queues n) refl
  where
    gone : (q : Queue) → numbered t.taking.places.queues n ≡ Some q → q.plan.transactional ≡ true → (k : ℕ) → first_free n now q ≡ Some k → (o : Option Message) → slice_get q.lists.durable k ≡ o
        → IfOk (option_map_or (λ m. Ok (with_take t n k m)) o (Err op_fault.QueueEmpty)) (IsTried s now)
    gone q there b k found None e = tt
    gone q there b k found (Some m) e = take_tried s now t n k q m h there b found e

    first : (q : Queue) → numbered t.taking.places.queues n ≡ Some q → q.plan.transactional ≡ true → (o : Option ℕ) → first_free n now q ≡ o
        → IfOk (option_map_or (λ k. option_map_or (λ m. Ok (with_take t n k m)) (slice_get q.lists.durable k) (Err op_fault.QueueEmpty)) o (Err op_fault.QueueEmpty)) (IsTried s now)
    first q there b None e = tt
    first q there b (Some k) e = gone q there b k e (slice_get q.lists.durable k) refl

    from : (q : Queue) → numbered t.taking.places.queues n ≡ Some q → (b : Bool) → q.plan.transactional ≡ b
        → IfOk (cond b (take_first t now n q) (Err op_fault.NotTransactional)) (IsTried s now)
    from q there true b = first q there b (first_free n now q) refl
    from q there false b = tt

    at : (o : Option Queue) → numbered t.taking.places.queues n ≡ o → IfOk (option_map_or (take_from t now n) o (Err op_fault.NoQueue)) (IsTried s now)
    at None e = tt
    at (Some q) e = from q e q.plan.transactional refl

-- A send.
module _ (s : State) (now : ℕ) (t : Trial) (h : IsTried s now t) (p : Parts) where
  -- the message that is sent
  abbrev sent : Message
  sent = message_for t.sending now p

  -- what the state comes to where it goes to a target
  record Leads (to : Target) (after : State) : Type 0 where
    pub found : is_found to ≡ true
    pub names_stay : names after ≡ names t.sending
    pub number_stays : after.next_number ≡ t.sending.next_number
    pub fits : (y : State) → core y ≡ core t.sending → join_fits y to sent.destination ≡ true
    pub made : (y : State) → core y ≡ core t.sending → core (committed_to now (journalled y sent) to sent).state ≡ core after

  send_tried : (to : Target) (after : State) (done : Done) → resolved t.sending p.destination ≡ to → Leads to after → IsTried s now (with_send t to sent after done)
  send_tried to after done led l = record {
    lead = l.names_stay ∙ h.lead;
    number = let before = h.number in let stays = l.number_stays in let count = length-append (sends_of t.ops) (sent ∷ []) in
        let whole : length (sends_of t.ops ++ sent ∷ []) ≡ length (sends_of t.ops) + 1 = omega (arith, count) in
        (let next : after.next_number + 1 ≡ s.next_number + length (sends_of t.ops ++ sent ∷ []) = omega (arith, before, stays, whole) in next)
        ∙ ap (λ ms. s.next_number + length ms) (sym (sends_push t.ops packet));
    packets = next_send s s.next_number t.ops packet h.packets next;
    takes = λ e same. let before = h.takes e same in (
      takes_send now e t.ops packet before.0,
      ap (λ x. all_seen x.state) (fold_push (op_taken now) e t.ops (Send packet)) ∙ before.1,
    );
    joins = λ e same. let before = h.joins e same in let last = fold (send_made now) e (sends_of t.ops) in
        let leads = lead_same last.state t.sending p.destination (ap (λ c. c.names) before.1) ∙ led in (
          ap (λ ms. joins_fit e now ms) (sends_push t.ops packet)
              ∙ joins_push now e (sends_of t.ops) sent before.0 (ap (λ x. join_fits last.state x p.destination) leads ∙ l.fits last.state before.1),
          ap (λ ms. core (fold (send_made now) e ms).state) (sends_push t.ops packet) ∙ ap (λ x. core x.state) (fold_push (send_made now) e (sends_of t.ops) sent)
              ∙ ap (λ x. core (committed_to now (journalled last.state sent) x sent).state) leads ∙ l.made last.state before.1,
        );
  }
    where
      packet : UserPacket
      packet = packet_to t.sending to sent

      there : resolved s p.destination ≡ to
      there = lead_same s t.sending p.destination (sym h.lead) ∙ led

      same_guids : (a b : Guid) → a ≡ b → same_guid a b ≡ true
      same_guids a b e = ap (λ g. same_guid a g) (sym e) ∙ same_itself a.0

      same_numbers : (a b : ℕ) → a ≡ b → (a == b) ≡ true
      same_numbers a b e = ap (λ n. a == n) (sym e) ∙ itself a

      next : IsNext s (s.next_number + length (sends_of t.ops)) packet
      next = record {
        own = and (same_guid t.sending.identity.guid s.identity.guid) (t.sending.next_number == s.next_number + length (sends_of t.ops))
            (same_guids t.sending.identity.guid s.identity.guid (ap (λ n. n.identity.guid) h.lead))
            (same_numbers t.sending.next_number (s.next_number + length (sends_of t.ops)) h.number);
        recoverable = refl;
        tx = refl;
        session = refl;
        found = ap is_found there ∙ l.found;
        to = same_guids (guid_at t.sending to) (guid_at s (resolved s p.destination)) (guid_same t.sending s to h.lead ∙ ap (guid_at s) (sym there));
      }

  put_tried : (n : ℕ) → resolved t.sending p.destination ≡ Here (Some n) → IsTried s now (with_put t n sent)
  put_tried n led = send_tried (Here (Some n)) (put_at t.sending (place.Queue n) sent) _ led (record {
    found = refl;
    names_stay = ap (λ c. c.names) (put_core t.sending (place.Queue n) sent);
    number_stays = refl;
    fits = λ y same. refl;
    made = λ y same. delivered_core (journalled y sent) (Some n) sent now ∙ journalled_core y sent ∙ same ∙ sym (put_core t.sending (place.Queue n) sent);
  })

  join_tried : (k : ℕ) → resolved t.sending p.destination ≡ AtPeer k → may_join t.sending k p.destination ≡ true
      → IsTried s now (with_joined t now sent k (sequence_for t.sending k p.destination now))
  join_tried k led may = send_tried (AtPeer k) (join t.sending k now sent) _ led (record {
    found = refl;
    names_stay = join_names t.sending k now sent;
    number_stays = join_number t.sending k now sent;
    fits = λ y same. may_same y t.sending k p.destination same ∙ may;
    made = λ y same. join_same (journalled y sent) t.sending k now sent (journalled_core y sent ∙ same);
  })

  sends_tried : (to : Target) → resolved t.sending p.destination ≡ to → IfOk (send_to t now sent to) (IsTried s now)
  sends_tried (Here None) led = tt
  sends_tried (Here (Some n)) led = at (numbered t.sending.places.queues n)
    where
      into : (plain full : Bool) → IfOk (cond plain (Err op_fault.NotTransactional) (cond full (Err op_fault.QueueFull) (Ok (with_put t n sent)))) (IsTried s now)
      into true full = tt
      into false true = tt
      into false false = put_tried n led

      at : (o : Option Queue) → IfOk (option_map_or (send_into t sent n) o (Err op_fault.NoQueue)) (IsTried s now)
      at None = tt
      at (Some q) = into (not q.plan.transactional) (nat_le q.plan.quota (count q.lists))
  sends_tried (AtPeer k) led = at (may_join t.sending k p.destination) refl
    where
      at : (b : Bool) → may_join t.sending k p.destination ≡ b
          → IfOk (cond b (Ok (with_joined t now sent k (sequence_for t.sending k p.destination now))) (Err op_fault.SequenceSpent)) (IsTried s now)
      at true e = join_tried k led e
      at false e = tt
  sends_tried Nowhere led = tt

-- All ops.

op_tried : (s : State) (now : ℕ) (t : Trial) (op : Op) → IsTried s now t → IfOk (try_op t now op) (IsTried s now)
op_tried s now t (asked.Take name) h = at (queue_named t.taking name)
  where
    at : (o : Option ℕ) → IfOk (option_map_or (take_of t now) o (Err op_fault.NoQueue)) (IsTried s now)
    at None = tt
    at (Some n) = takes_tried s now t n h
op_tried s now t (asked.Send p) h = sends_tried s now t h p (resolved t.sending p.destination) refl

ops_tried : (s : State) (now index : ℕ) (t : Trial) (ops : List Op) → IsTried s now t → IfOk (try_ops now index t ops) (IsTried s now)
ops_tried s now index t [] h = h
ops_tried s now index t (op ∷ ops) h = at (try_op t now op) (op_tried s now t op h) (λ next b. ops_tried s now (index + 1) next ops b)
  where
    at : (r : Result Trial OpFault) → IfOk r (IsTried s now) → ((next : Trial) → IsTried s now next → IfOk (try_ops now (index + 1) next ops) (IsTried s now))
        → IfOk (at_op index r >>= λ next. try_ops now (index + 1) next ops) (IsTried s now)
    at (Err why) b more = tt
    at (Ok next) b more = more next b

-- The whole transaction.

not_so : (b : Bool) → b ≡ false → not b ≡ true
not_so true h = sym h
not_so false h = refl

neither : (a b : Bool) → (a || b) ≡ false → (a ≡ false) × (b ≡ false)
neither true b e = absurd (let none : ⊥ = cc in none)
neither false b e = (refl, e)

own_is : (s : State) (number : ℕ) (p : UserPacket) → IsNext s number p → nat_le number MAX_NUMBER ≡ true → is_own_packet s number p ≡ true
own_is s number p n left = let one = is_numbered s number p.message in let two = nat_le number MAX_NUMBER in let three = is_recoverable p.message.delivery in
    let four = is_none p.tx in let five = is_none p.session in let six = is_found (resolved s p.message.destination) in
    let seven = same_guid p.to (guid_at s (resolved s p.message.destination)) in
    and (((((one && two) && three) && four) && five) && six) seven
    (and ((((one && two) && three) && four) && five) six
    (and (((one && two) && three) && four) five
    (and ((one && two) && three) four (and (one && two) three (and one two n.own left) n.recoverable) n.tx) n.session) n.found) n.to

sends_go : (s : State) (number : ℕ) (ops : List RecordOp) → AreNext s number ops → number + length (sends_of ops) ≤ MAX_NUMBER + 1
    → list_any (is_too_large headers.TxAndSession) (sends_of ops) ≡ false → sends_fit s number ops ≡ true
sends_go s number [] n room small = refl
sends_go s number (Take q i ∷ ops) n room small = sends_go s number ops n room small
sends_go s number (Send p ∷ ops) n room small = let both = neither (is_too_large headers.TxAndSession p.message) (list_any (is_too_large headers.TxAndSession) (sends_of ops)) small in
    and (is_sendable s headers.TxAndSession number p) (sends_fit s (number + 1) ops)
    (and (is_own_packet s number p) (not (is_too_large headers.TxAndSession p.message)) (own_is s number p n.0 (most number MAX_NUMBER (let left : number ≤ MAX_NUMBER = omega (arith, room) in left)))
    (not_so (is_too_large headers.TxAndSession p.message) both.0))
    (sends_go s (number + 1) ops n.1 (omega (arith, room)) both.1)
  where
    most : (a b : ℕ) → a ≤ b → nat_le a b ≡ true
    most a b le = grind (arith, nat_tests)

whole_goes : (s : State) (now : ℕ) (t : Trial) → IsTried s now t → t.sending.next_number ≤ MAX_NUMBER + 1 → list_any (is_too_large headers.TxAndSession) (sends_of t.ops) ≡ false
    → commit_fits s now t.ops ≡ true
whole_goes s now t h room small = and (sends_fit s s.next_number t.ops && takes_fit (sends_numbered s t.ops) now t.ops) (joins_fit (takes_made s now t.ops) now (sends_of t.ops))
    (and (sends_fit s s.next_number t.ops) (takes_fit (sends_numbered s t.ops) now t.ops)
    (sends_go s s.next_number t.ops h.packets (let counted = h.number in omega (arith, counted, room)) small) (h.takes (sends_numbered s t.ops) refl).0)
    (h.joins (takes_made s now t.ops) (takes_core (core s) now (sends_numbered s t.ops) t.ops refl)).0

pub commit_goes : (m : Manager) (ops : List Op) (now : ℕ) → IsFitting m (commit m ops now)
commit_goes m ops now = unless_fits (ops_refusal m ops) (tried (try_ops now 0 (trial_of m.state) ops) (ops_tried m.state now 0 (trial_of m.state) ops (none_tried m.state now)))
  where
    unless_fits : (refusal : Option CommitFault) → IsFitting m (commit_tried m now (try_ops now 0 (trial_of m.state) ops))
        → IsFitting m (unless m refusal (commit_tried m now (try_ops now 0 (trial_of m.state) ops)))
    unless_fits (Some fault) h = tt
    unless_fits None h = h

    room : (a b : ℕ) → nat_lt b a ≡ false → a ≤ b
    room a b e = grind (arith, nat_tests)

    whole : (t : Trial) → IsTried m.state now t → (spent : Bool) → nat_lt (MAX_NUMBER + 1) t.sending.next_number ≡ spent → (large long : Bool)
        → list_any (is_too_large headers.TxAndSession) (sends_of t.ops) ≡ large
        → IsFitting m (unless m (cond spent (Some commit_fault.NumbersSpent) (cond (large || long) (Some commit_fault.TooLarge) None)) (recording m (entry.Commit now t.ops) (Ok t.done)))
    whole t h true e large long f = tt
    whole t h false e true long f = tt
    whole t h false e false true f = tt
    whole t h false e false false f = whole_goes m.state now t h (room t.sending.next_number (MAX_NUMBER + 1) e) f

    tried : (r : Result Trial CommitFault) → IfOk r (IsTried m.state now) → IsFitting m (commit_tried m now r)
    tried (Err why) h = tt
    tried (Ok t) h = whole t h (nat_lt (MAX_NUMBER + 1) t.sending.next_number) refl (list_any (is_too_large headers.TxAndSession) (sends_of t.ops)) (nat_lt MAX_RECORD (commit_size t.ops)) refl
