-- A send is noted as it is tried.
use Rattle.std.proofs.Common.{refl, ap, ap₂, sym, subst, ◌∙◌, arith, length, length-append}
use Rattle.std.proofs.lemmas.Bool.{eqb-true, true≢false}
use Rattle.std.proofs.lemmas.List.{map-append}
use Rattle.std.proofs.lemmas.List.Elements.{filter-append}
use Rattle.std.proofs.lemmas.Option.{none-some, same_Some}
use Rattle.std.specs.List.{last_or}
use Rattle.std.specs.Option.{option_map_or}
use Rattle.std.specs.Prelude.{[], ◌++◌, ◌+◌, ◌==◌, ◌||◌, ◌∷◌, ◌≡◌, Bool, Err, List, None, Ok, Option, Result, Some, cond, false, filter, is_some, map, nat_le, nat_lt, not, option_and_then, option_map, true, unwrap_or, ℕ}
use Rattle.mqb_base.specs.declared.draft.Op.TheVariants as asked
use Rattle.mqb_base.specs.declared.draft.Parts.{Parts}
use Rattle.mqb_base.specs.declared.ids.Guid.{Guid}
use Rattle.mqb_base.specs.declared.ids.MessageId.{MessageId}
use Rattle.mqb_base.specs.declared.message.Delivery.TheVariants as delivery
use Rattle.mqb_base.specs.declared.message.Lane.TheVariants as lane
use Rattle.mqb_base.specs.declared.message.Message.{Message}
use Rattle.mqb_base.specs.declared.queue_names.QueueName.{QueueName}
use Rattle.mqb_base.specs.declared.queues.EntryPlace.TheVariants as place
use Rattle.mqb_fields.specs.Reading.{◌>>=◌}
use Rattle.mqb_orders.specs.Rows.{Row}
use Rattle.mqb_orders.specs.declared.keys.OutKey.{OutKey}
use Rattle.mqb_queue.specs.Lists.{Lists, count, put}
use Rattle.mqb_queue.specs.Places.{Queue, numbered}
use Rattle.mqb_contents.specs.mqb_tables.Keys.{same_out_key}
use Rattle.mqb_model.specs.calls.Commit.{Trial, try_op}
use Rattle.mqb_model.specs.calls.Commit as commit
use Rattle.mqb_model.specs.calls.Messages.{message_for, message_of}
use Rattle.mqb_model.specs.declared.answers.Done.{Done}
use Rattle.mqb_model.specs.declared.answers.Done.TheVariants as done
use Rattle.mqb_model.specs.declared.faults.OpFault.{OpFault}
use Rattle.mqb_model.specs.declared.faults.OpFault.TheVariants as op_fault
use Rattle.mqb_model.specs.declared.limits.TheConstants.{MAX_ORDINAL}
use Rattle.mqb_model.specs.declared.target.Target.{Target}
use Rattle.mqb_model.specs.declared.target.Target.TheVariants.{AtPeer, Here, Nowhere}
use Rattle.mqb_model.specs.Lists.{with_first_changed}
use Rattle.mqb_model.specs.records.Packets.{packet_to}
use Rattle.mqb_model.specs.records.Record.{RecordOp}
use Rattle.mqb_model.specs.records.Record as entry
use Rattle.mqb_model.specs.rules.Numbers.{own_id}
use Rattle.mqb_model.specs.rules.Sequences.{join, may_join, sequence_for, sequence_in_use, with_kept, with_sequence}
use Rattle.mqb_model.specs.rules.Sequences as sequences
use Rattle.mqb_model.specs.state.Places.{put_at}
use Rattle.mqb_model.specs.state.Resolving.{guid_at, resolved}
use Rattle.mqb_model.specs.state.Rows.{has_ordinal, last_sequence, with_row}
use Rattle.mqb_model.specs.state.State.{State}
use Rattle.mqb_trying.specs.declared.notes.PlannedOp.TheVariants as planned
use Rattle.mqb_trying.specs.declared.notes.Route.{Route}
use Rattle.mqb_trying.specs.declared.notes.Route.TheVariants.{Begin, Join, Put}
use Rattle.mqb_trying.specs.declared.notes.SequenceEnd.{SequenceEnd}
use Rattle.mqb_entries.specs.Packets.{packet_of}
use Rattle.mqb_trying.specs.Notes.{Noted, record_op}
use Rattle.mqb_trying.specs.Sends.{count_in, end_of, last_end, next_message, peer_route, put_route, route_to, sent_by, try_send, unless_full, with_end, with_send}
use Rattle.mqb_trying.proofs.Ends.{IsLast, Rise, changed_there, ends_changed, ends_pushed, last_splits, of, ordinal_of, ordinals_stay, rise_more}
use Rattle.mqb_trying.proofs.Following.{Agrees, Follows, InOrder, changed_lists, queue_at}
use Rattle.mqb_trying.proofs.Left.{left_in}
use Rattle.mqb_trying.proofs.NotedEnds.{last_more}
use Rattle.mqb_trying.proofs.Names.{guid_same, lead_same, names, place_names, plan, plan_same}

-- one message more in a queue
count_more : (number other : ℕ) (puts : List ℕ) → count_in other (puts ++ number ∷ []) ≡ count_in other puts + cond (number == other) 1 0
count_more number other puts = ap length (filter-append (λ n. n == other) puts (number ∷ [])) ∙ length-append (filter (λ n. n == other) puts) (filter (λ n. n == other) (number ∷ []))
    ∙ ap (λ k. count_in other puts + k) (at (number == other))
  where
    at : (b : Bool) → length (cond b (number ∷ []) []) ≡ cond b 1 0
    at true = refl
    at false = refl

put_counts : (m : Message) (l : Lists) → count (put lane.Durable m l) ≡ count l + 1
put_counts m l = let more = length-append l.durable (m ∷ []) in omega (arith, more)

one_counted : (m : Message) (c : ℕ) (o p : Option Lists) → option_map count o ≡ option_map (λ l. count l + c) p
    → option_map count (option_map (put lane.Durable m) o) ≡ option_map (λ l. count l + (c + 1)) p
one_counted m c None None e = refl
one_counted m c None (Some b) e = absurd (none-some (count b + c) e)
one_counted m c (Some a) None e = absurd (none-some (count a) (sym e))
one_counted m c (Some a) (Some b) e = let same = same_Some (count a) (count b + c) e in let more = put_counts m a in
    let whole : count (put lane.Durable m a) ≡ count b + (c + 1) = omega (arith, same, more) in ap (λ k. Some k) whole

module _ (s : State) (now : ℕ) (n : Noted) (t : Trial) (h : Follows s now n t) (p : Parts) where
  abbrev x : State
  x = t.sending

  -- the message as it is tried, and as it is noted
  abbrev m : Message
  m = message_for x now p

  abbrev told : Message
  told = next_message s n now p

  ids : own_id x x.next_number ≡ own_id s n.next_number
  ids = ap₂ (λ (qm : Guid) (number : ℕ). record { qm = qm; number = number }) (ap (λ a. a.identity.guid) h.leads) h.number

  -- the op of the record
  op_is : (to : Target) → entry.Send (packet_to x to m) ≡ record_op (planned.Send told (guid_at s to))
  op_is to = ap₂ (λ (id : MessageId) (g : Guid). entry.Send (packet_of (message_of id delivery.Recoverable 0 now p) g)) ids (guid_same x s to h.leads)

  -- what a send leaves
  record Leaves (noted : Noted) (after : State) (answer : Done) : Type 0 where
    pub leads : names after ≡ names s
    pub roll : after.roll ≡ s.roll
    pub number : after.next_number ≡ noted.next_number
    pub ordinal : after.next_ordinal ≡ noted.next_ordinal
    pub counts : (number : ℕ) → option_map count (queue_at after number) ≡ option_map (λ l. count l + count_in number noted.puts) (queue_at s number)
    pub ends : (key : OutKey) → option_map end_of (last_or None (filter (of key) after.outs)) ≡ last_end s noted.ends key.peer key.destination
    pub rise : Rise after.next_ordinal (map ordinal_of after.outs)
    pub takes : noted.takes ≡ n.takes
    pub ops : noted.ops ≡ n.ops
    pub done : t.done ++ answer ∷ [] ≡ noted.done

  send_follows : (to : Target) (noted : Noted) (after : State) (answer : Done) → Leaves noted after answer
      → Follows s now (with_send noted told (guid_at s to)) (commit.with_send t to m after answer)
  send_follows to noted after answer l = record {
    leads = l.leads;
    takes_lead = h.takes_lead;
    roll = l.roll;
    number = ap (λ k. k + 1) l.number;
    ordinal = l.ordinal;
    counts = l.counts;
    ends = l.ends;
    rise = l.rise;
    left = λ number. h.left number ∙ ap (λ takes. option_map (λ l. left_in takes number l.durable) (queue_at s number)) (sym l.takes);
    order = subst (InOrder s now) (sym l.takes) h.order;
    ops = ap₂ (λ (ops : List RecordOp) (op : RecordOp). ops ++ op ∷ []) (h.ops ∙ ap (map record_op) (sym l.ops)) (op_is to)
        ∙ sym (map-append record_op noted.ops (planned.Send told (guid_at s to) ∷ []));
    done = l.done;
  }

  -- Into a queue here.

  put_counted : (number other : ℕ)
      → option_map count (queue_at (put_at x (place.Queue number) m) other) ≡ option_map (λ l. count l + count_in other (n.puts ++ number ∷ [])) (queue_at s other)
  put_counted number other = ap (option_map count) (changed_lists x.places number other (put lane.Durable m)) ∙ at (number == other) refl
      ∙ ap (λ k. option_map (λ l. count l + k) (queue_at s other)) (sym (count_more number other n.puts))
    where
      same : (c : ℕ) (o : Option Lists) → option_map (λ l. count l + c) o ≡ option_map (λ l. count l + (c + 0)) o
      same c None = refl
      same c (Some l) = let e : count l + c ≡ count l + (c + 0) = omega arith in ap (λ k. Some k) e

      at : (b : Bool) → (number == other) ≡ b
          → option_map count (cond b (option_map (put lane.Durable m) (queue_at x number)) (queue_at x other))
          ≡ option_map (λ l. count l + (count_in other n.puts + cond (number == other) 1 0)) (queue_at s other)
      at true e = one_counted m (count_in number n.puts) (queue_at x number) (queue_at s number) (h.counts number)
          ∙ ap (λ k. option_map (λ l. count l + (count_in k n.puts + 1)) (queue_at s k)) (eqb-true number other e)
          ∙ ap (λ b. option_map (λ l. count l + (count_in other n.puts + cond b 1 0)) (queue_at s other)) (sym e)
      at false e = h.counts other ∙ same (count_in other n.puts) (queue_at s other)
          ∙ ap (λ b. option_map (λ l. count l + (count_in other n.puts + cond b 1 0)) (queue_at s other)) (sym e)

  put_follows : (number : ℕ) → Follows s now (sent_by s n now told (Put number)) (commit.with_put t number m)
  put_follows number = send_follows (Here (Some number)) (record n { puts = n.puts ++ number ∷ []; done = n.done ++ done.Put told.id ∷ [] })
      (put_at x (place.Queue number) m) (done.Put m.id) (record {
        leads = place_names (put lane.Durable m) x (place.Queue number) ∙ h.leads;
        roll = h.roll;
        number = h.number;
        ordinal = h.ordinal;
        counts = put_counted number;
        ends = h.ends;
        rise = h.rise;
        takes = refl;
        ops = refl;
        done = ap₂ (λ (ds : List Done) (id : MessageId). ds ++ done.Put id ∷ []) h.done ids;
      })

  abbrev K : Route → Result Noted OpFault
  K route = Ok (sent_by s n now told route)

  queue_agrees : (number : ℕ) (q r : Queue) → numbered s.places.queues number ≡ Some q → numbered x.places.queues number ≡ Some r → q.plan ≡ r.plan
      → Agrees s now (put_route n.puts number q >>= K) (commit.send_into t m number r)
  queue_agrees number q r q_there r_there plans = at q.plan.transactional r.plan.transactional (ap (λ p. p.transactional) plans)
      (nat_le q.plan.quota (count q.lists + count_in number n.puts)) (nat_le r.plan.quota (count r.lists)) (ap₂ nat_le (ap (λ p. p.quota) plans) counted)
    where
      counted : count q.lists + count_in number n.puts ≡ count r.lists
      counted = sym (same_Some (count r.lists) (count q.lists + count_in number n.puts)
          (sym (ap (λ o. option_map count (option_map (λ q. q.lists) o)) r_there) ∙ h.counts number
          ∙ ap (λ o. option_map (λ l. count l + count_in number n.puts) (option_map (λ q. q.lists) o)) q_there))

      at : (b c : Bool) → b ≡ c → (f g : Bool) → f ≡ g
          → Agrees s now (cond (not b) (Err op_fault.NotTransactional) (cond f (Err op_fault.QueueFull) (Ok (Put number))) >>= K)
          (cond (not c) (Err op_fault.NotTransactional) (cond g (Err op_fault.QueueFull) (Ok (commit.with_put t number m))))
      at false false e f g d = refl
      at true true e true true d = refl
      at true true e false false d = put_follows number
      at true true e true false d = absurd (true≢false d)
      at true true e false true d = absurd (true≢false (sym d))
      at true false e f g d = absurd (true≢false e)
      at false true e f g d = absurd (true≢false (sym e))

  -- To a peer.

  abbrev d : QueueName
  d = p.destination

  abbrev own : ℕ → OutKey
  own k = record { peer = k; destination = d }

  -- a sequence came to an end
  ended : (k : ℕ) (e : SequenceEnd) (after : List Row) (key : OutKey) → e.peer ≡ k → e.destination ≡ d
      → option_map end_of (last_or None (filter (of key) after)) ≡ cond (same_out_key (own k) key) (Some (e.sequence, e.number)) (option_map end_of (last_or None (filter (of key) x.outs)))
      → option_map end_of (last_or None (filter (of key) after)) ≡ last_end s (with_end n.ends e) key.peer key.destination
  ended k e after key peer destination same = same
      ∙ ap₂ (λ (b : Bool) (o : Option _). cond b (Some (e.sequence, e.number)) o)
      (ap₂ (λ (peer : ℕ) (destination : QueueName). same_out_key (record { peer = peer; destination = destination }) key) (sym peer) (sym destination)) (h.ends key)
      ∙ sym (last_more s n.ends e key)

  module _ (k : ℕ) where
    -- the sequence in use
    module _ (row : Row) (last : last_sequence x k d ≡ Some row) (in_use : sequence_in_use x k d ≡ Some row) where
      split : IsLast (of (own k)) x.outs row
      split = last_splits (of (own k)) x.outs row last

      abbrev after : List Row
      after = split.before ++ with_kept m row ∷ split.behind

      abbrev joined : State
      joined = record x { outs = after }

      join_is : join x k now m ≡ joined
      join_is = ap (λ o. option_map_or (λ row. with_row (with_kept m) x row.sequence.ordinal) o (with_sequence x (with_kept m (sequences.new_sequence x k d now)))) in_use
          ∙ ap (λ rows. record x { outs = with_first_changed (with_kept m) (has_ordinal (ordinal_of row)) rows }) split.split
          ∙ ap (λ rows. record x { outs = rows }) (changed_there (with_kept m) x.next_ordinal split.before row split.behind (subst (λ rows. Rise x.next_ordinal (map ordinal_of rows)) split.split h.rise))

      join_follows : Follows s now (sent_by s n now told (Join k row.sequence (row.committed + 1))) (commit.with_joined t now m k row)
      join_follows = subst (λ y. Follows s now (sent_by s n now told (Join k row.sequence (row.committed + 1))) (commit.with_send t (AtPeer k) m y (done.Sent m.id row.sequence (row.committed + 1))))
          (sym join_is)
          (send_follows (AtPeer k) (record n {
            ends = with_end n.ends e;
            done = n.done ++ done.Sent told.id row.sequence (row.committed + 1) ∷ [];
          }) joined (done.Sent m.id row.sequence (row.committed + 1)) (record {
            leads = h.leads;
            roll = h.roll;
            number = h.number;
            ordinal = h.ordinal;
            counts = h.counts;
            ends = λ key. ended k e after key refl refl (ends_changed split.before row split.behind m (own k) key split.itself split.others
                ∙ ap (λ rows. cond (same_out_key (own k) key) (Some (row.sequence, row.committed + 1)) (option_map end_of (last_or None (filter (of key) rows)))) (sym split.split));
            rise = subst (Rise x.next_ordinal) (ap (map ordinal_of) split.split ∙ sym (ordinals_stay (with_kept m) split.before row split.behind refl)) h.rise;
            takes = refl;
            ops = refl;
            done = ap₂ (λ (ds : List Done) (id : MessageId). ds ++ done.Sent id row.sequence (row.committed + 1) ∷ []) h.done ids;
          }))
        where
          e : SequenceEnd
          e = record { peer = k; destination = d; sequence = row.sequence; number = row.committed + 1 }

    -- a new one
    module _ (in_use : sequence_in_use x k d ≡ None) where
      abbrev fresh : Row
      fresh = sequences.new_sequence x k d now

      abbrev begun : State
      begun = with_sequence x (with_kept m fresh)

      begin_is : join x k now m ≡ begun
      begin_is = ap (λ o. option_map_or (λ row. with_row (with_kept m) x row.sequence.ordinal) o begun) in_use

      begin_follows : Follows s now (sent_by s n now told (Begin k)) (commit.with_joined t now m k fresh)
      begin_follows = subst (λ y. Follows s now (sent_by s n now told (Begin k)) (commit.with_send t (AtPeer k) m y (done.Sent m.id fresh.sequence 1))) (sym begin_is)
          (send_follows (AtPeer k) (record n {
            ends = with_end n.ends e;
            next_ordinal = n.next_ordinal + 1;
            done = n.done ++ done.Sent told.id (record { ordinal = n.next_ordinal; stamp = now }) 1 ∷ [];
          }) begun (done.Sent m.id fresh.sequence 1) (record {
            leads = h.leads;
            roll = h.roll;
            number = h.number;
            ordinal = ap (λ k. k + 1) h.ordinal;
            counts = h.counts;
            ends = λ key. ended k e begun.outs key refl refl (ends_pushed x.outs (with_kept m fresh) key
                ∙ ap (λ o. cond (same_out_key (own k) key) (Some (record { ordinal = o; stamp = now }, 1)) (option_map end_of (last_or None (filter (of key) x.outs)))) h.ordinal);
            rise = subst (Rise (x.next_ordinal + 1)) (sym (map-append ordinal_of x.outs (with_kept m fresh ∷ []))) (rise_more x.next_ordinal (map ordinal_of x.outs) h.rise);
            takes = refl;
            ops = refl;
            done = ap₂ (λ (ds : List Done) (id : MessageId). ds ++ done.Sent id fresh.sequence 1 ∷ []) h.done ids
                ∙ ap (λ o. n.done ++ done.Sent told.id (record { ordinal = o; stamp = now }) 1 ∷ []) h.ordinal;
          }))
        where
          e : SequenceEnd
          e = record { peer = k; destination = d; sequence = record { ordinal = n.next_ordinal; stamp = now }; number = 1 }

    -- the sequence in use, of the last one
    abbrev usable : Option Row → Option Row
    usable o = option_and_then (λ row. cond (nat_lt row.committed x.roll) (Some row) None) o

    -- the same noted
    abbrev route : Option Row → Result Route OpFault
    route o = option_map_or (λ last. Ok (Join k last.0 (last.1 + 1))) (option_and_then (unless_full x.roll) (option_map end_of o))
        (cond (nat_le x.next_ordinal MAX_ORDINAL) (Ok (Begin k)) (Err op_fault.SequenceSpent))

    route_is : (o : Option Row) → last_sequence x k d ≡ o → peer_route s n k d ≡ route o
    route_is o last = ap₂ (λ (roll : ℕ) (ends : Option _). option_map_or (λ last. Ok (Join k last.0 (last.1 + 1))) (option_and_then (unless_full roll) ends)
        (cond (nat_le n.next_ordinal MAX_ORDINAL) (Ok (Begin k)) (Err op_fault.SequenceSpent))) (sym h.roll) (sym (h.ends (own k)) ∙ ap (option_map end_of) last)
        ∙ ap (λ ordinal. option_map_or (λ last. Ok (Join k last.0 (last.1 + 1))) (option_and_then (unless_full x.roll) (option_map end_of o))
        (cond (nat_le ordinal MAX_ORDINAL) (Ok (Begin k)) (Err op_fault.SequenceSpent))) (sym h.ordinal)

    begins_agree : sequence_in_use x k d ≡ None
        → Agrees s now (cond (nat_le x.next_ordinal MAX_ORDINAL) (Ok (Begin k)) (Err op_fault.SequenceSpent) >>= K) (commit.send_to_peer t now m k)
    begins_agree in_use = subst (λ o. Agrees s now (cond (nat_le x.next_ordinal MAX_ORDINAL) (Ok (Begin k)) (Err op_fault.SequenceSpent) >>= K)
        (cond (is_some o || nat_le x.next_ordinal MAX_ORDINAL) (Ok (commit.with_joined t now m k (unwrap_or o (sequences.new_sequence x k d now)))) (Err op_fault.SequenceSpent))) (sym in_use)
        (at (nat_le x.next_ordinal MAX_ORDINAL))
      where
        at : (b : Bool) → Agrees s now (cond b (Ok (Begin k)) (Err op_fault.SequenceSpent) >>= K)
            (cond b (Ok (commit.with_joined t now m k (sequences.new_sequence x k d now))) (Err op_fault.SequenceSpent))
        at true = begin_follows in_use
        at false = refl

    joins_agree : (row : Row) → last_sequence x k d ≡ Some row → sequence_in_use x k d ≡ Some row → Agrees s now (K (Join k row.sequence (row.committed + 1))) (commit.send_to_peer t now m k)
    joins_agree row last in_use = subst (λ o. Agrees s now (K (Join k row.sequence (row.committed + 1)))
        (cond (is_some o || nat_le x.next_ordinal MAX_ORDINAL) (Ok (commit.with_joined t now m k (unwrap_or o (sequences.new_sequence x k d now)))) (Err op_fault.SequenceSpent))) (sym in_use)
        (join_follows row last in_use)

    peer_agrees : Agrees s now (peer_route s n k d >>= K) (commit.send_to_peer t now m k)
    peer_agrees = at (last_sequence x k d) refl
      where
        full : (row : Row) → last_sequence x k d ≡ Some row → (b : Bool) → nat_lt row.committed x.roll ≡ b
            → Agrees s now (option_map_or (λ last. Ok (Join k last.0 (last.1 + 1))) (cond b (Some (end_of row)) None)
            (cond (nat_le x.next_ordinal MAX_ORDINAL) (Ok (Begin k)) (Err op_fault.SequenceSpent)) >>= K) (commit.send_to_peer t now m k)
        full row last true e = joins_agree row last (ap usable last ∙ ap (λ b. cond b (Some row) None) e)
        full row last false e = begins_agree (ap usable last ∙ ap (λ b. cond b (Some row) None) e)

        at : (o : Option Row) → last_sequence x k d ≡ o → Agrees s now (peer_route s n k d >>= K) (commit.send_to_peer t now m k)
        at None last = subst (λ r. Agrees s now (r >>= K) (commit.send_to_peer t now m k)) (sym (route_is None last)) (begins_agree (ap usable last))
        at (Some row) last = subst (λ r. Agrees s now (r >>= K) (commit.send_to_peer t now m k)) (sym (route_is (Some row) last)) (full row last (nat_lt row.committed x.roll) refl)

  -- Wherever it goes.

  target_agrees : (to : Target) → Agrees s now (route_to s n d to >>= K) (commit.send_to t now m to)
  target_agrees (Here None) = refl
  target_agrees (Here (Some number)) = at (numbered s.places.queues number) (numbered x.places.queues number) refl refl (plan_same x s number h.leads)
    where
      at : (o q : Option Queue) → numbered s.places.queues number ≡ o → numbered x.places.queues number ≡ q → option_map plan q ≡ option_map plan o
          → Agrees s now (option_map_or (put_route n.puts number) o (Err op_fault.NoQueue) >>= K) (option_map_or (commit.send_into t m number) q (Err op_fault.NoQueue))
      at None None a b plans = refl
      at None (Some r) a b plans = absurd (none-some r.plan (sym plans))
      at (Some q) None a b plans = absurd (none-some q.plan plans)
      at (Some q) (Some r) a b plans = queue_agrees number q r a b (sym (same_Some r.plan q.plan plans))
  target_agrees (AtPeer k) = peer_agrees k
  target_agrees Nowhere = refl

pub sends_agree : (s : State) (now : ℕ) (n : Noted) (t : Trial) (p : Parts) → Follows s now n t → Agrees s now (try_send s now n p) (try_op t now (asked.Send p))
sends_agree s now n t p h = subst (λ to. Agrees s now (try_send s now n p) (commit.send_to t now (message_for t.sending now p) to)) (sym (lead_same t.sending s p.destination h.leads))
    (target_agrees s now n t h p (resolved s p.destination))
