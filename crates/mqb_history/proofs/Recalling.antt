-- Each record that is right leaves what is known of a manager's messages.
use Rattle.std.proofs.Common.{refl, ap, sym, subst, ◌∙◌, arith, inl, inr}
use Rattle.std.specs.List.{AllByRecursion}
use Rattle.std.specs.Option.{option_map_or}
use Rattle.std.specs.Prelude.{[], ◌+◌, ◌==◌, ◌||◌, ◌∷◌, ◌≡◌, ◌≤◌, ◌⊎◌, Bool, List, None, Option, Some, cond, false, fold, length, max, nat_lt, option_and_then, position, slice_get, true, ℕ}
use Rattle.mqb_base.specs.Bits.{keeps_dead}
use Rattle.mqb_base.specs.Classes.{is_negative}
use Rattle.mqb_base.specs.declared.class.Class.{Class}
use Rattle.mqb_base.specs.declared.class.TheConstants.Class.{NORMAL, ORDER_ACKNOWLEDGEMENT, REACHED_QUEUE, REACH_TIMEOUT}
use Rattle.mqb_base.specs.declared.heads.TxHead.{TxHead}
use Rattle.mqb_base.specs.declared.ids.Guid.{Guid}
use Rattle.mqb_base.specs.declared.ids.MessageId.{MessageId}
use Rattle.mqb_base.specs.declared.message.Lane.TheVariants as lane
use Rattle.mqb_base.specs.declared.message.Message.{Message}
use Rattle.mqb_base.specs.declared.queues.EntryPlace.{EntryPlace}
use Rattle.mqb_base.specs.declared.queues.EntryPlace.TheVariants as place
use Rattle.mqb_entries.specs.declared.members.Mark.{Mark}
use Rattle.mqb_exactly_once.specs.Words.{In}
use Rattle.mqb_fate.specs.Asking.{is_ordinary}
use Rattle.mqb_orders.specs.Rows.{Row, acknowledged}
use Rattle.mqb_orders.specs.declared.kept.Kept.{Kept}
use Rattle.mqb_packet.specs.declared.packet.UserPacket.{UserPacket}
use Rattle.mqb_plain.specs.Plain.{PlainLists}
use Rattle.mqb_queue.specs.First.{index_named}
use Rattle.mqb_model.specs.Lists.{with_changed, with_first_changed, without_first}
use Rattle.mqb_model.specs.declared.limits.TheConstants.{MAX_NUMBER}
use Rattle.mqb_model.specs.declared.target.Target.{Target}
use Rattle.mqb_model.specs.declared.target.Target.TheVariants.{AtPeer, Here, Nowhere}
use Rattle.mqb_model.specs.records.Applying.{apply}
use Rattle.mqb_model.specs.records.Arrived.{part_made}
use Rattle.mqb_model.specs.records.Commit.{op_taken, send_made, sends_numbered, sends_of, takes_made}
use Rattle.mqb_model.specs.records.Decisions.{message_decided, with_decided}
use Rattle.mqb_model.specs.records.Finals.{dead_for, final_stored, finished_at, finished_by, finished_row, index_finished, is_offered_as, kept_named, with_finished}
use Rattle.mqb_model.specs.records.Offered.{mark_raised, with_offered}
use Rattle.mqb_model.specs.records.Record.{Part, Record, RecordOp}
use Rattle.mqb_model.specs.records.Record as entry
use Rattle.mqb_model.specs.records.Releases.{has_recoverable, is_released_by, message_released, releases_made, without_recoverable, without_released}
use Rattle.mqb_model.specs.rules.Arrivals.{refusal_of, storing_refusal}
use Rattle.mqb_model.specs.rules.Effects.{Effect, begun, joined}
use Rattle.mqb_model.specs.rules.Numbers.{numbers_taken}
use Rattle.mqb_model.specs.rules.Sends.{committed_to, journalled}
use Rattle.mqb_model.specs.rules.Sequences.{new_sequence, sequence_in_use, with_kept, with_sequence}
use Rattle.mqb_model.specs.rules.Takes.{taken, taken_at}
use Rattle.mqb_model.specs.rules.Timeouts.{expires, expiring, expiring_in, message_expired, next_expired, row_expired, rows_expired, with_expired, without_expired}
use Rattle.mqb_model.specs.state.Places.{put_at}
use Rattle.mqb_model.specs.state.Resolving.{peer_known, resolved}
use Rattle.mqb_model.specs.state.Rows.{has_ordinal, with_row}
use Rattle.mqb_model.specs.state.State.{State}
use Rattle.mqb_history.specs.Made.{AreNumbered}
use Rattle.mqb_history.proofs.Committing.{all_in, in_split, is_first_changed}
use Rattle.mqb_history.proofs.Deciding.{first_is_found}
use Rattle.mqb_history.proofs.Lists.{all_append, equal_numbers, get_in}
use Rattle.mqb_history.proofs.Named.{arrived_knows, each_knows, here_knows, journalled_knows, purged_knows, repeated_knows, sent_knows, taken_at_knows, ticked_knows}
use Rattle.mqb_history.proofs.Naming.{ArePlain, IsMet, IsSafe, KeepsOwn, Knows, MayWait, low_more, meets_knows, put_knows}
use Rattle.mqb_history.proofs.Numbering as numbering
use Rattle.mqb_history.proofs.Outside.{filtered_in, without_in}
use Rattle.mqb_history.proofs.Sparing.{found_kept}
use Rattle.mqb_history.proofs.Unreleased.{changed_all, refusal_here, storing_here, without_all}

-- what is put arrives here
pub here_apart : (s : State) (p : UserPacket) → (o : Option Class) → (o ≡ None → (number : ℕ) × (resolved s p.message.destination ≡ Here (Some number))) → o ≡ None → (k : ℕ)
    → resolved s p.message.destination ≡ AtPeer k → ⊥
here_apart s p o here e k f = let g = here e in apart g.0 k (sym g.1 ∙ f)
  where
    apart : (number k : ℕ) → Here (Some number) ≡ AtPeer k → ⊥
    apart number k h = let none : ⊥ = cc in none

-- an ordinary message is no order acknowledgement
pub ordinary_quiet : (m : Message) → is_ordinary m ≡ true → (m.class.0 == ORDER_ACKNOWLEDGEMENT.0) ≡ false
ordinary_quiet m e = subst (λ n. (n == ORDER_ACKNOWLEDGEMENT.0) ≡ false) (sym (equal_numbers m.class.0 NORMAL.0 e)) refl

-- What is known of a record that a manager makes.
abbrev pub IsRight : Guid → (MessageId → Type 0) → State → Record → Type 0
IsRight own K s (entry.Commit now ops) = AreNumbered own s.next_number (sends_of ops)
IsRight own K s (entry.Plain now p) = (p.message.id ≡ record { qm = own; number = s.next_number }) × (s.next_number ≤ MAX_NUMBER) × (is_ordinary p.message ≡ true)
IsRight own K s (entry.Arrived now numbers (entry.Decided p)) = IsMet K p.message
IsRight own K s (entry.Arrived now numbers (entry.Stored p)) = IsMet K p.message
IsRight own K s _ = Unit {0}

-- the state in which it begins: a transaction has its numbers
abbrev pub started : State → Record → State
started s (entry.Commit now ops) = numbers_taken s (length (sends_of ops))
started s _ = s

module _ (own : Guid) (K : MessageId → Type 0) (V : ℕ → Type 0) (mine : (id : MessageId) → id.qm ≡ own → K id) where
  -- Rows.

  less_own : (row : Row) (acked : ℕ) (kept : List Kept) → ((k : Kept) → In k kept → In k row.kept) → KeepsOwn own row → KeepsOwn own (record row { acked = acked; kept = kept })
  less_own row acked kept fewer h k i = h k (fewer k i)

  rows_knows : (s : State) (rows : List Row) (next : ℕ) → AllByRecursion (KeepsOwn own) rows → Knows own K V s → Knows own K V (record s { outs = rows })
  rows_knows s rows next r h = record { identity = h.identity; bounded = h.bounded; fresh = h.fresh; plain = h.plain; places = h.places; rows = r }

  first_own : (change : Row → Row) (ordinal : ℕ) (s : State) → ((row : Row) → KeepsOwn own row → KeepsOwn own (change row)) → Knows own K V s → Knows own K V (with_row change s ordinal)
  first_own change ordinal s keeps h = rows_knows s (with_first_changed change (has_ordinal ordinal) s.outs) 0
      (subst (AllByRecursion (KeepsOwn own)) (sym (is_first_changed change (has_ordinal ordinal) s.outs)) (numbering.changed_all (KeepsOwn own) change (has_ordinal ordinal) s.outs keeps h.rows)) h

  -- Transactions.

  taken_knows : (at : EntryPlace) (id : MessageId) (now : ℕ) (e : Effect) → Knows own K V e.state → Knows own K V (taken at id now e).state
  taken_knows at id now e h = by (index_named e.state.places at id now)
    where
      by : (o : Option ℕ) → Knows own K V (option_map_or (λ k. taken_at lane.Durable at k now e) o e).state
      by None = h
      by (Some k) = taken_at_knows own K V mine lane.Durable at k now e h

  op_knows : (now : ℕ) (e : Effect) (ops : List RecordOp) → Knows own K V e.state → Knows own K V (fold (op_taken now) e ops).state
  op_knows now e [] h = h
  op_knows now e (entry.Send p ∷ ops) h = op_knows now e ops h
  op_knows now e (entry.Take queue id ∷ ops) h = op_knows now (taken (place.Queue queue) id now e) ops (taken_knows (place.Queue queue) id now e h)

  joined_own : (m : Message) (row : Row) → m.id.qm ≡ own → KeepsOwn own row → KeepsOwn own (with_kept m row)
  joined_own m row e h k i = at (in_split row.kept (record { number = row.committed + 1; message = m } ∷ []) k i)
    where
      at : In k row.kept ⊎ In k (record { number = row.committed + 1; message = m } ∷ []) → k.message.id.qm ≡ own
      at (inl j) = h k j
      at (inr (inl f)) = subst (λ (x : Kept). x.message.id.qm ≡ own) f e
      at (inr (inr none)) = absurd none

  to_knows : (now : ℕ) (s : State) (t : Target) (m : Message) → m.id.qm ≡ own → Knows own K V s → Knows own K V (committed_to now s t m).state
  to_knows now s (AtPeer k) m e h = at (sequence_in_use s k m.destination)
    where
      new : Row
      new = new_sequence s k m.destination now

      at : (o : Option Row) → Knows own K V (option_map_or (λ row. with_row (with_kept m) s row.sequence.ordinal) o (with_sequence s (with_kept m new)))
      at None = record {
        identity = h.identity;
        bounded = h.bounded;
        fresh = h.fresh;
        plain = h.plain;
        places = h.places;
        rows = all_append (KeepsOwn own) s.outs (with_kept m new ∷ []) h.rows (joined_own m new e (λ x i. absurd i), tt);
      }
      at (Some row) = first_own (with_kept m) row.sequence.ordinal s (λ x g. joined_own m x e g) h
  to_knows now s (Here queue) m e h = here_knows own K V mine s queue m now (λ f. mine m.id e) h
  to_knows now s Nowhere m e h = meets_knows own K V mine s m REACHED_QUEUE now (λ f. mine m.id e) h

  sends_know : (now n : ℕ) (e : Effect) (ms : List Message) → AreNumbered own n ms → Knows own K V e.state → Knows own K V (fold (send_made now) e ms).state
  sends_know now n e [] ids h = h
  sends_know now n e (m ∷ ms) ids h = let id = ap (λ (i : MessageId). i.qm) ids.0 in sends_know now (n + 1) (send_made now e m) ms ids.1
      (to_knows now (journalled e.state m) (resolved e.state m.destination) m id (journalled_knows own K V mine e.state m (λ f. mine m.id id) h))

  -- Marks, releases and parts.

  marks_know : (s : State) (marks : List Mark) → Knows own K V s → Knows own K V (fold mark_raised s marks)
  marks_know s [] h = h
  marks_know s (mark ∷ marks) h = marks_know (mark_raised s mark) marks (first_own (with_offered mark.number) mark.ordinal s (λ row g. g) h)

  released_knows : (s : State) (number : ℕ) → Knows own K V s → Knows own K V (without_released s number)
  released_knows s number h = record { identity = h.identity; bounded = h.bounded; fresh = h.fresh; plain = at (position (has_recoverable s number) s.plain); places = h.places; rows = h.rows }
    where
      fewer : (p : PlainLists) → ArePlain own K V s.next_number p → ArePlain own K V s.next_number (without_recoverable s number p)
      fewer p g = record { recoverable = without_all (IsSafe own K V s.next_number) (is_released_by s number) p.recoverable g.recoverable; express = g.express }

      at : (o : Option ℕ) → AllByRecursion (ArePlain own K V s.next_number) (option_map_or (with_changed (without_recoverable s number) s.plain) o s.plain)
      at None = h.plain
      at (Some k) = changed_all (ArePlain own K V s.next_number) (without_recoverable s number) s.plain k fewer h.plain

  releases_know : (e : Effect) (numbers : List ℕ) → Knows own K V e.state → Knows own K V (fold message_released e numbers).state
  releases_know e [] h = h
  releases_know e (n ∷ ns) h = releases_know (message_released e n) ns (released_knows e.state n h)

  finished_knows : (s : State) (m : Message) (index : ℕ) → Knows own K V s → Knows own K V (finished_at s m index)
  finished_knows s m index h = at (slice_get s.outs index) refl
    where
      dead : (t : State) (x : Message) (b : Bool) → IsMet K x → Knows own K V t → Knows own K V (cond b (put_at t place.DeadXact x) t)
      dead t x true met g = put_knows own K V mine t place.DeadXact x met g
      dead t x false met g = g

      finished : (k : Kept) → Knows own K V (with_finished m.correlation s index k)
      finished k = rows_knows s (with_changed (finished_row m.correlation k.number) s.outs index) 0
          (changed_all (KeepsOwn own) (finished_row m.correlation k.number) s.outs index (λ row g. less_own row (max row.acked k.number) _
          (λ x i. without_in (is_offered_as m.correlation row) row.kept x
          (filtered_in (λ (y : Kept). nat_lt (max row.acked k.number) y.number || keeps_dead y.message) (without_first (is_offered_as m.correlation row) row.kept) x i)) g) h.rows) h

      by : (row : Row) → slice_get s.outs index ≡ Some row → (o : Option Kept) → kept_named m.correlation row ≡ o
          → Knows own K V (option_map_or (λ k. dead_for m.class (with_finished m.correlation s index k) k.message) o s)
      by row e None f = h
      by row e (Some k) f = dead (with_finished m.correlation s index k) k.message (is_negative m.class.0)
          (λ x. mine k.message.id (all_in (KeepsOwn own) s.outs row h.rows (get_in s.outs index row e) k
          (found_kept (is_offered_as m.correlation row) row.kept k (sym (first_is_found (is_offered_as m.correlation row) row.kept) ∙ f)))) (finished k)

      at : (o : Option Row) → slice_get s.outs index ≡ o
          → Knows own K V (option_map_or (λ k. dead_for m.class (with_finished m.correlation s index k) k.message) (option_and_then (kept_named m.correlation) o) s)
      at None e = h
      at (Some row) e = by row e (kept_named m.correlation row) refl

  final_knows : (s : State) (m : Message) → Knows own K V s → Knows own K V (final_stored s m).state
  final_knows s m h = at (peer_known s m.id.qm)
    where
      by : (peer : ℕ) (o : Option ℕ) → Knows own K V (option_map_or (finished_at s m) o s)
      by peer None = h
      by peer (Some index) = finished_knows s m index h

      at : (o : Option ℕ) → Knows own K V (option_map_or (λ peer. finished_by s peer m) o s)
      at None = h
      at (Some peer) = by peer (index_finished s peer m)

  part_knows : (now : ℕ) (e : Effect) (part : Part) → ((p : UserPacket) → (part ≡ entry.Decided p) ⊎ (part ≡ entry.Stored p) → IsMet K p.message) → Knows own K V e.state
      → Knows own K V (part_made now e part).state
  part_knows now e entry.Nothing met h = h
  part_knows now e (entry.Decided p) met h = at p.tx
    where
      at : (o : Option TxHead) → Knows own K V (option_map_or (λ tx. joined e (message_decided now e.state p tx)) o e).state
      at None = h
      at (Some tx) = arrived_knows own K V mine (with_decided e.state p.message tx) p.message now (refusal_of e.state p)
          (here_apart e.state p (refusal_of e.state p) (refusal_here e.state p)) (met p (inl refl))
          (record { identity = h.identity; bounded = h.bounded; fresh = h.fresh; plain = h.plain; places = h.places; rows = h.rows })
  part_knows now e (entry.Stored p) met h = arrived_knows own K V mine e.state p.message now (storing_refusal e.state p)
      (here_apart e.state p (storing_refusal e.state p) (storing_here e.state p)) (met p (inr refl)) h
  part_knows now e (entry.OrderAcknowledged ordinal number) met h = first_own (acknowledged number) ordinal e.state
      (λ row g. less_own row (max row.acked number) _ (λ k i. filtered_in (λ (x : Kept). nat_lt (max row.acked number) x.number || keeps_dead x.message) row.kept k i) g) h
  part_knows now e (entry.Final p) met h = final_knows e.state p.message h

  -- Messages expire.

  expired_knows : (now k : ℕ) (e : Effect) → Knows own K V e.state → Knows own K V (next_expired now k e).state
  expired_knows now k e h = at (slice_get e.state.outs k) refl
    where
      by : (row : Row) → slice_get e.state.outs k ≡ Some row → (o : Option Kept) → expiring now row ≡ o
          → Knows own K V (option_map_or (λ kept. joined e (message_expired now k e.state row kept)) o e).state
      by row there None f = h
      by row there (Some kept) f = meets_knows own K V mine (with_expired now e.state k) kept.message REACH_TIMEOUT now
          (λ x. mine kept.message.id (all_in (KeepsOwn own) e.state.outs row h.rows (get_in e.state.outs k row there) kept
          (found_kept (expires now row) row.kept kept (sym (first_is_found (expires now row) row.kept) ∙ f))))
          (rows_knows e.state (with_changed (without_expired now) e.state.outs k) 0
          (changed_all (KeepsOwn own) (without_expired now) e.state.outs k (λ x g. less_own x x.acked _ (λ y i. without_in (expires now x) x.kept y i) g) h.rows) h)

      at : (o : Option Row) → slice_get e.state.outs k ≡ o
          → Knows own K V (option_map_or (λ (row : Row). option_map_or (λ kept. joined e (message_expired now k e.state row kept)) (expiring now row) e) o e).state
      at None f = h
      at (Some row) f = by row f (expiring now row) refl

  expiring_knows : (now : ℕ) (e : Effect) → Knows own K V e.state → Knows own K V (rows_expired now e).state
  expiring_knows now e h = each_knows own K V mine (row_expired now)
      (λ k f g. repeated_knows own K V mine (next_expired now k) (expired_knows now k) (option_map_or (expiring_in now) (slice_get f.state.outs k) 0) f g) (length e.state.outs) e h

  -- Records.

  plain_waits : (s : State) (p : UserPacket) → IsRight own K s (entry.Plain 0 p) → Knows own K V s → MayWait own K V mine (numbers_taken s 1) p.message
  plain_waits s p r h = record {
    express = λ e. ordinary_quiet p.message r.2;
    durable = λ e. record {
      source = ap (λ (i : MessageId). i.qm) r.0;
      durable = e;
      below = let same = ap (λ (i : MessageId). i.number) r.0 in omega (arith, same);
      unused = subst V (sym (ap (λ (i : MessageId). i.number) r.0)) (h.fresh s.next_number (omega arith));
      about = inl r.2;
    };
  }

  arrived_met : (s : State) (now : ℕ) (numbers : List ℕ) (part : Part) → IsRight own K s (entry.Arrived now numbers part) → (p : UserPacket)
      → (part ≡ entry.Decided p) ⊎ (part ≡ entry.Stored p) → IsMet K p.message
  arrived_met s now numbers part r p (inl e) = subst (λ x. IsRight own K s (entry.Arrived now numbers x)) e r
  arrived_met s now numbers part r p (inr e) = subst (λ x. IsRight own K s (entry.Arrived now numbers x)) e r

  pub applied_knows : (s : State) (r : Record) → IsRight own K s r → Knows own K V (started s r) → Knows own K V (apply s r)
  applied_knows s (entry.Identity identity) r h = h
  applied_knows s (entry.Peer peer) r h = record {
    identity = h.identity;
    bounded = h.bounded;
    fresh = h.fresh;
    plain = all_append (ArePlain own K V s.next_number) s.plain (record { recoverable = []; express = [] } ∷ []) h.plain (record { recoverable = tt; express = tt }, tt);
    places = h.places;
    rows = h.rows;
  }
  applied_knows s (entry.CreateQueue number plan) r h = record {
    identity = h.identity;
    bounded = h.bounded;
    fresh = h.fresh;
    plain = h.plain;
    places = record {
      queues = all_append _ s.places.queues (record { plan = plan; lists = record { durable = []; express = [] }; journal = record { durable = []; express = [] } } ∷ []) h.places.queues
          (record { lists = record { durable = tt; express = tt }; journal = record { durable = tt; express = tt } }, tt);
      dead = h.places.dead;
      dead_xact = h.places.dead_xact;
      journal = h.places.journal;
    };
    rows = h.rows;
  }
  applied_knows s (entry.Commit now ops) r h = sends_know now s.next_number (takes_made s now ops) (sends_of ops) r (op_knows now (sends_numbered s ops) ops h)
  applied_knows s (entry.Plain now p) r h = sent_knows own K V mine (numbers_taken s 1) p.message now (λ e. mine p.message.id (ap (λ (i : MessageId). i.qm) r.0)) (plain_waits s p r h) (record {
    identity = h.identity;
    bounded = let low = r.1 in omega (arith, low);
    fresh = λ n le. h.fresh n (omega (arith, le));
    plain = low_more own K V s.next_number (s.next_number + 1) (omega arith) s.plain h.plain;
    places = h.places;
    rows = h.rows;
  })
  applied_knows s (entry.Offered marks) r h = marks_know s marks h
  applied_knows s (entry.Arrived now numbers part) r h = part_knows now (releases_made s numbers) part (arrived_met s now numbers part r) (releases_know (begun s) numbers h)
  applied_knows s (entry.Taken now at id) r h = taken_knows at id now (begun s) h
  applied_knows s (entry.Purged now at) r h = purged_knows own K V mine lane.Durable at now (begun s) h
  applied_knows s (entry.Ticked now) r h = ticked_knows own K V mine lane.Durable now (rows_expired now (begun s)) (expiring_knows now (begun s) h)
  applied_knows s (entry.Set setting) r h = record { identity = h.identity; bounded = h.bounded; fresh = h.fresh; plain = h.plain; places = h.places; rows = h.rows }
