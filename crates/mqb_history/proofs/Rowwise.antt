-- What holds of each outgoing row, and is left by whatever a record may do to one, is left by the record.
use Rattle.std.proofs.Common.{refl, ap, sym, subst, ◌∙◌, arith, inl, inr}
use Rattle.std.specs.List.{AllByRecursion}
use Rattle.std.specs.Option.{option_map_or}
use Rattle.std.specs.Prelude.{[], ◌==◌, ◌∷◌, ◌≡◌, ◌≤◌, Bool, List, None, Option, Some, cond, fold, length, option_and_then, position, slice_get, suc, true, false, zero, ℕ}
use Rattle.mqb_base.specs.Same.{same_guid}
use Rattle.mqb_base.specs.declared.class.TheConstants.Class.{REACH_TIMEOUT}
use Rattle.mqb_base.specs.declared.heads.TxHead.{TxHead}
use Rattle.mqb_base.specs.declared.ids.Identity.{Identity}
use Rattle.mqb_base.specs.declared.message.Lane.TheVariants as lane
use Rattle.mqb_base.specs.declared.message.Message.{Message}
use Rattle.mqb_base.specs.declared.queue_names.QueueName.{QueueName}
use Rattle.mqb_base.specs.declared.queue_names.QueueName.TheVariants as name
use Rattle.mqb_entries.specs.declared.members.Mark.{Mark}
use Rattle.mqb_exactly_once.specs.Words.{In}
use Rattle.mqb_model.specs.Loops.{for_each_below, repeated}
use Rattle.mqb_model.specs.declared.target.Target.{Target}
use Rattle.mqb_model.specs.declared.target.Target.TheVariants.{AtPeer, Here, Nowhere}
use Rattle.mqb_model.specs.records.Applying.{apply}
use Rattle.mqb_model.specs.records.Arrived.{part_made}
use Rattle.mqb_model.specs.records.Commit.{send_made, sends_of, takes_made}
use Rattle.mqb_model.specs.records.Decisions.{message_decided, with_decided}
use Rattle.mqb_model.specs.records.Finals.{dead_for, final_stored, finished_at, finished_by, finished_row, has_named, index_finished, kept_named, with_finished}
use Rattle.mqb_model.specs.records.Offered.{mark_raised, with_offered}
use Rattle.mqb_model.specs.records.Record.{Part, Record}
use Rattle.mqb_model.specs.records.Record as entry
use Rattle.mqb_model.specs.records.Releases.{releases_made}
use Rattle.mqb_model.specs.rules.Arrivals.{refusal_of, storing_refusal}
use Rattle.mqb_model.specs.rules.Effects.{Effect, begun, joined}
use Rattle.mqb_model.specs.rules.Numbers.{numbers_taken}
use Rattle.mqb_model.specs.rules.Sends.{committed_to, journalled}
use Rattle.mqb_model.specs.rules.Sequences.{join, new_sequence, sequence_in_use, with_kept, with_sequence}
use Rattle.mqb_model.specs.rules.Timeouts.{expiring, expiring_in, message_expired, next_expired, row_expired, rows_expired, with_expired, without_expired}
use Rattle.mqb_model.specs.state.Resolving.{at_peer, at_queue, is_host_of, is_own_host, peer_at, peer_known, queue_named, queue_numbered, queue_registered, resolved}
use Rattle.mqb_model.specs.state.Rows.{has_ordinal, with_row}
use Rattle.mqb_model.specs.state.State.{State}
use Rattle.mqb_orders.specs.Rows.{Row, acknowledged}
use Rattle.mqb_orders.specs.declared.kept.Kept.{Kept}
use Rattle.mqb_history.proofs.Applying.{dead_rows, releases_rows, takes_made_rows}
use Rattle.mqb_history.proofs.Committing.{all_in, first_changed, is_first_changed}
use Rattle.mqb_history.proofs.Deciding.{first_is_found}
use Rattle.mqb_history.proofs.Connections.{found_passes}
use Rattle.mqb_history.proofs.Holding.{changed_at}
use Rattle.mqb_history.proofs.Lists.{all_append, equal_numbers, get_in, split_and}
use Rattle.mqb_history.proofs.Numbering.{changed_all}
use Rattle.mqb_history.proofs.Staying.{HasSameRows, IsSameManager, arrived_rows, delivered_rows, journalled_rows, manager_then, meets_rows, plain_sent_rows, purged_rows, taken_rows, ticked_rows}

-- a record raises a mark
abbrev pub Raises : Record → Mark → Type 0
Raises (entry.Offered marks) mark = In mark marks
Raises _ mark = ⊥

-- it acknowledges a number of the sequence of an ordinal
abbrev pub Acknowledges : Record → ℕ → ℕ → Type 0
Acknowledges (entry.Arrived now numbers (entry.OrderAcknowledged o n)) ordinal number = (o ≡ ordinal) × (n ≡ number)
Acknowledges _ ordinal number = ⊥

-- it stores a final acknowledgement
abbrev pub Finishes : Record → Message → Type 0
Finishes (entry.Arrived now numbers (entry.Final p)) m = p.message ≡ m
Finishes _ m = ⊥

-- it is of a transaction
abbrev pub IsCommit : Record → Type 0
IsCommit (entry.Commit now ops) = Unit {0}
IsCommit _ = ⊥

-- Whatever a record may do to a row of which R holds leaves R.
pub record Allows (R : Row → Type 0) (s : State) (r : Record) : Type 0 where
  pub begins : IsCommit r → (t : State) (peer : ℕ) (destination : QueueName) (now : ℕ) → s.next_ordinal ≤ t.next_ordinal → IsSameManager s t → resolved t destination ≡ AtPeer peer
      → R (new_sequence t peer destination now)
  pub joins : IsCommit r → (m : Message) (row : Row) → R row → R (with_kept m row)
  pub offers : (mark : Mark) (row : Row) → Raises r mark → row.sequence.ordinal ≡ mark.ordinal → R row → R (with_offered mark.number row)
  pub acknowledges : (ordinal number : ℕ) (row : Row) → Acknowledges r ordinal number → row.sequence.ordinal ≡ ordinal → R row → R (acknowledged number row)
  pub finishes : (m : Message) (k : Kept) (row : Row) → Finishes r m → peer_known s m.id.qm ≡ Some row.peer → kept_named m.correlation row ≡ Some k → R row
      → R (finished_row m.correlation k.number row)
  pub expires : (now : ℕ) (row : Row) → R row → R (without_expired now row)

-- a name that leads to a peer leads there whatever else the manager has
pub resolved_peer : (s t : State) → IsSameManager s t → (d : QueueName) (k : ℕ) → resolved s d ≡ AtPeer k → resolved t d ≡ AtPeer k
resolved_peer s t same (name.Public guid false) k e = absurd (at (queue_registered s guid) e)
  where
    at : (o : Option ℕ) → at_queue o ≡ AtPeer k → ⊥
    at None f = let none : ⊥ = cc in none
    at (Some number) f = let none : ⊥ = cc in none
resolved_peer s t same (name.Private qm number false) k e = at (same_guid qm s.identity.guid) refl e
  where
    at : (b : Bool) → same_guid qm s.identity.guid ≡ b → cond b (Here (queue_numbered s number)) (at_peer (peer_known s qm)) ≡ AtPeer k
        → cond (same_guid qm t.identity.guid) (Here (queue_numbered t number)) (at_peer (peer_known t qm)) ≡ AtPeer k
    at true f g = absurd (let none : ⊥ = cc in none)
    at false f g = ap (λ (i : Identity). cond (same_guid qm i.guid) (Here (queue_numbered t number)) (at_peer (peer_known t qm))) same.identity
        ∙ ap (λ b. cond b (Here (queue_numbered t number)) (at_peer (peer_known t qm))) f
        ∙ ap (λ (ps : List Identity). at_peer (position (λ (p : Identity). same_guid p.guid qm) ps)) same.peers ∙ g
resolved_peer s t same (name.Direct host queue false) k e = at (is_own_host s.identity host) refl e
  where
    at : (b : Bool) → is_own_host s.identity host ≡ b → cond b (Here (queue_named s queue)) (at_peer (peer_at s host)) ≡ AtPeer k
        → cond (is_own_host t.identity host) (Here (queue_named t queue)) (at_peer (peer_at t host)) ≡ AtPeer k
    at true f g = absurd (let none : ⊥ = cc in none)
    at false f g = ap (λ (i : Identity). cond (is_own_host i host) (Here (queue_named t queue)) (at_peer (peer_at t host))) same.identity
        ∙ ap (λ b. cond b (Here (queue_named t queue)) (at_peer (peer_at t host))) f
        ∙ ap (λ (ps : List Identity). at_peer (position (is_host_of host) ps)) same.peers ∙ g
resolved_peer s t same x k e = absurd (let none : ⊥ = cc in none)

-- the first row that passes changes
changed_where : (R : Row → Type 0) (change : Row → Row) (test : Row → Bool) (rows : List Row) → ((row : Row) → test row ≡ true → R row → R (change row)) → AllByRecursion R rows
    → AllByRecursion R (first_changed change test rows)
changed_where R change test [] keeps h = tt
changed_where R change test (row ∷ rows) keeps h = at (test row) refl (changed_where R change test rows keeps h.1)
  where
    at : (b : Bool) → test row ≡ b → AllByRecursion R (first_changed change test rows) → AllByRecursion R (cond b (change row ∷ rows) (row ∷ first_changed change test rows))
    at true e rest = (keeps row e h.0, h.1)
    at false e rest = (h.0, rest)

same_all : (R : Row → Type 0) (a b : List Row) → b ≡ a → AllByRecursion R a → AllByRecursion R b
same_all R a b e h = subst (AllByRecursion R) (sym e) h

module _ (R : Row → Type 0) (s : State) (r : Record) (a : Allows R s r) where
  -- Transactions.

  -- rows of which R holds, of the same manager, which gives no ordinal back
  record Goes (t : State) : Type 0 where
    pub rows : AllByRecursion R t.outs
    pub low : s.next_ordinal ≤ t.next_ordinal
    pub manager : IsSameManager s t

  join_goes : IsCommit r → (t : State) (peer now : ℕ) (m : Message) → resolved t m.destination ≡ AtPeer peer → Goes t → Goes (join t peer now m)
  join_goes commit t peer now m leads h = at (sequence_in_use t peer m.destination)
    where
      new : Row
      new = new_sequence t peer m.destination now

      at : (o : Option Row) → Goes (option_map_or (λ row. with_row (with_kept m) t row.sequence.ordinal) o (with_sequence t (with_kept m new)))
      at None = record {
        rows = all_append R t.outs (with_kept m new ∷ []) h.rows (a.joins commit m new (a.begins commit t peer m.destination now h.low h.manager leads), tt);
        low = let low = h.low in omega (arith, low);
        manager = record { identity = h.manager.identity; peers = h.manager.peers };
      }
      at (Some row) = record {
        rows = same_all R (first_changed (with_kept m) (has_ordinal row.sequence.ordinal) t.outs) _ (is_first_changed (with_kept m) (has_ordinal row.sequence.ordinal) t.outs)
            (changed_all R (with_kept m) (has_ordinal row.sequence.ordinal) t.outs (a.joins commit m) h.rows);
        low = h.low;
        manager = record { identity = h.manager.identity; peers = h.manager.peers };
      }

  same_goes : (t u : State) → HasSameRows t u → Goes t → Goes u
  same_goes t u same h = record {
    rows = same_all R t.outs u.outs same.outs h.rows;
    low = let low = h.low in let next = same.next_ordinal in omega (arith, low, next);
    manager = manager_then s t u h.manager same.manager;
  }

  to_goes : IsCommit r → (now : ℕ) (t : State) (x : Target) (m : Message) → ((k : ℕ) → x ≡ AtPeer k → resolved t m.destination ≡ AtPeer k) → Goes t → Goes (committed_to now t x m).state
  to_goes commit now t (AtPeer k) m leads h = join_goes commit t k now m (leads k refl) h
  to_goes commit now t (Here queue) m leads h = same_goes t (committed_to now t (Here queue) m).state (delivered_rows t (Here queue) m now) h
  to_goes commit now t Nowhere m leads h = same_goes t (committed_to now t Nowhere m).state (delivered_rows t Nowhere m now) h

  sends_go : IsCommit r → (now : ℕ) (e : Effect) (ms : List Message) → Goes e.state → Goes (fold (send_made now) e ms).state
  sends_go commit now e [] h = h
  sends_go commit now e (m ∷ ms) h = sends_go commit now (send_made now e m) ms
      (to_goes commit now (journalled e.state m) (resolved e.state m.destination) m
      (λ k same. resolved_peer e.state (journalled e.state m) (journalled_rows e.state m).manager m.destination k same) (same_goes e.state (journalled e.state m) (journalled_rows e.state m) h))

  -- Marks and acknowledgements.

  marks_each : (t : State) (marks : List Mark) → ((mark : Mark) → In mark marks → (row : Row) → row.sequence.ordinal ≡ mark.ordinal → R row → R (with_offered mark.number row))
      → AllByRecursion R t.outs → AllByRecursion R (fold mark_raised t marks).outs
  marks_each t [] keeps h = h
  marks_each t (mark ∷ marks) keeps h = marks_each (mark_raised t mark) marks (λ x i. keeps x (inr i))
      (same_all R (first_changed (with_offered mark.number) (has_ordinal mark.ordinal) t.outs) _ (is_first_changed (with_offered mark.number) (has_ordinal mark.ordinal) t.outs)
      (changed_where R (with_offered mark.number) (has_ordinal mark.ordinal) t.outs
      (λ row e g. keeps mark (inl refl) row (equal_numbers row.sequence.ordinal mark.ordinal e) g) h))

  acked_each : (t : State) (ordinal number : ℕ) → ((row : Row) → row.sequence.ordinal ≡ ordinal → R row → R (acknowledged number row)) → AllByRecursion R t.outs
      → AllByRecursion R (with_row (acknowledged number) t ordinal).outs
  acked_each t ordinal number keeps h = same_all R (first_changed (acknowledged number) (has_ordinal ordinal) t.outs) _ (is_first_changed (acknowledged number) (has_ordinal ordinal) t.outs)
      (changed_where R (acknowledged number) (has_ordinal ordinal) t.outs (λ row e g. keeps row (equal_numbers row.sequence.ordinal ordinal e) g) h)

  -- a row that has a message has that peer
  named_peer : (t : State) (peer index : ℕ) (m : Message) (row : Row) → index_finished t peer m ≡ Some index → slice_get t.outs index ≡ Some row → row.peer ≡ peer
  named_peer t peer index m row e there = equal_numbers row.peer peer (split_and (row.peer == peer) _ (found_passes (has_named peer m.correlation) t.outs row
      (sym (first_is_found (has_named peer m.correlation) t.outs) ∙ ap (λ (o : Option ℕ). option_and_then (slice_get t.outs) o) e ∙ there))).0

  finished_each : (t : State) (peer index : ℕ) (m : Message) → index_finished t peer m ≡ Some index
      → ((k : Kept) (row : Row) → row.peer ≡ peer → kept_named m.correlation row ≡ Some k → R row → R (finished_row m.correlation k.number row))
      → AllByRecursion R t.outs → AllByRecursion R (finished_at t m index).outs
  finished_each t peer index m found keeps h = at (slice_get t.outs index) refl
    where
      done : (k : Kept) → State
      done k = dead_for m.class (with_finished m.correlation t index k) k.message

      of_row : (row : Row) → slice_get t.outs index ≡ Some row → (o : Option Kept) → kept_named m.correlation row ≡ o → AllByRecursion R (option_map_or done o t).outs
      of_row row e None f = h
      of_row row e (Some k) f = same_all R (with_finished m.correlation t index k).outs (done k).outs (dead_rows m.class (with_finished m.correlation t index k) k.message).outs
          (changed_at R (finished_row m.correlation k.number) t.outs index row e
          (keeps k row (named_peer t peer index m row found e) f (all_in R t.outs row h (get_in t.outs index row e))) h)

      at : (o : Option Row) → slice_get t.outs index ≡ o → AllByRecursion R (option_map_or done (option_and_then (kept_named m.correlation) o) t).outs
      at None e = h
      at (Some row) e = of_row row e (kept_named m.correlation row) refl

  final_each : (t : State) (m : Message) → Finishes r m → t.peers ≡ s.peers → AllByRecursion R t.outs → AllByRecursion R (final_stored t m).state.outs
  final_each t m f peers h = at (peer_known t m.id.qm) refl
    where
      known : (o : Option ℕ) → peer_known t m.id.qm ≡ o → peer_known s m.id.qm ≡ o
      known o e = ap (λ (ps : List Identity). position (λ p. same_guid p.guid m.id.qm) ps) (sym peers) ∙ e

      by : (peer : ℕ) → peer_known s m.id.qm ≡ Some peer → (o : Option ℕ) → index_finished t peer m ≡ o → AllByRecursion R (option_map_or (finished_at t m) o t).outs
      by peer e None g = h
      by peer e (Some index) g = finished_each t peer index m g (λ k row same named x. a.finishes m k row f (e ∙ ap (λ n. Some n) (sym same)) named x) h

      at : (o : Option ℕ) → peer_known t m.id.qm ≡ o → AllByRecursion R (option_map_or (λ peer. finished_by t peer m) o t).outs
      at None e = h
      at (Some peer) e = by peer (known (Some peer) e) (index_finished t peer m) refl

  part_each : (now : ℕ) (e : Effect) (part : Part) → ((ordinal number : ℕ) → part ≡ entry.OrderAcknowledged ordinal number → Acknowledges r ordinal number)
      → ((p : _) → part ≡ entry.Final p → Finishes r p.message) → e.state.peers ≡ s.peers → AllByRecursion R e.state.outs → AllByRecursion R (part_made now e part).state.outs
  part_each now e entry.Nothing acks ends peers h = h
  part_each now e (entry.Decided p) acks ends peers h = at p.tx
    where
      at : (o : Option TxHead) → AllByRecursion R (option_map_or (λ tx. joined e (message_decided now e.state p tx)) o e).state.outs
      at None = h
      at (Some tx) = same_all R e.state.outs _ (arrived_rows (with_decided e.state p.message tx) p.message now (refusal_of e.state p)).outs h
  part_each now e (entry.Stored p) acks ends peers h = same_all R e.state.outs _ (arrived_rows e.state p.message now (storing_refusal e.state p)).outs h
  part_each now e (entry.OrderAcknowledged ordinal number) acks ends peers h = acked_each e.state ordinal number (λ row same g. a.acknowledges ordinal number row (acks ordinal number refl) same g) h
  part_each now e (entry.Final p) acks ends peers h = final_each e.state p.message (ends p refl) peers h

  -- Messages expire.

  next_each : (now k : ℕ) (e : Effect) → AllByRecursion R e.state.outs → AllByRecursion R (next_expired now k e).state.outs
  next_each now k e h = at (slice_get e.state.outs k) refl
    where
      of_row : (row : Row) → slice_get e.state.outs k ≡ Some row → (o : Option Kept) → AllByRecursion R (option_map_or (λ kept. joined e (message_expired now k e.state row kept)) o e).state.outs
      of_row row there None = h
      of_row row there (Some kept) = same_all R (with_expired now e.state k).outs _ (meets_rows (with_expired now e.state k) kept.message REACH_TIMEOUT now).outs
          (changed_at R (without_expired now) e.state.outs k row there (a.expires now row (all_in R e.state.outs row h (get_in e.state.outs k row there))) h)

      at : (o : Option Row) → slice_get e.state.outs k ≡ o
          → AllByRecursion R (option_map_or (λ (row : Row). option_map_or (λ kept. joined e (message_expired now k e.state row kept)) (expiring now row) e) o e).state.outs
      at None f = h
      at (Some row) f = of_row row f (expiring now row)

  times_each : (now k n : ℕ) (e : Effect) → AllByRecursion R e.state.outs → AllByRecursion R (repeated n (next_expired now k) e).state.outs
  times_each now k zero e h = h
  times_each now k (suc n) e h = next_each now k (repeated n (next_expired now k) e) (times_each now k n e h)

  expiring_each : (now n : ℕ) (e : Effect) → AllByRecursion R e.state.outs → AllByRecursion R (for_each_below n (row_expired now) e).state.outs
  expiring_each now zero e h = h
  expiring_each now (suc n) e h = let f = for_each_below n (row_expired now) e in
      times_each now n (option_map_or (expiring_in now) (slice_get f.state.outs n) 0) f (expiring_each now n e h)

-- Records.

pub applied_each : (R : Row → Type 0) (s : State) (r : Record) → Allows R s r → AllByRecursion R s.outs → AllByRecursion R (apply s r).outs
applied_each R s (entry.Commit now ops) a h = let same = takes_made_rows s now ops in (sends_go R s (entry.Commit now ops) a tt now (takes_made s now ops) (sends_of ops)
    (record { rows = same_all R s.outs (takes_made s now ops).state.outs same.outs h; low = let e = same.next_ordinal in omega (arith, e); manager = same.manager })).rows
applied_each R s (entry.Plain now p) a h = same_all R s.outs _ (plain_sent_rows (numbers_taken s 1) p.message now).outs h
applied_each R s (entry.Offered marks) a h = marks_each R s (entry.Offered marks) a s marks (λ mark i row e g. a.offers mark row i e g) h
applied_each R s (entry.Arrived now numbers part) a h = let same = releases_rows (begun s) numbers in
    part_each R s (entry.Arrived now numbers part) a now (releases_made s numbers) part (λ ordinal number e. subst (λ x. Acknowledges (entry.Arrived now numbers x) ordinal number) (sym e) (refl, refl))
    (λ p e. subst (λ x. Finishes (entry.Arrived now numbers x) p.message) (sym e) refl) same.manager.peers (same_all R s.outs (releases_made s numbers).state.outs same.outs h)
applied_each R s (entry.Taken now at id) a h = same_all R s.outs _ (taken_rows at id now (begun s)).outs h
applied_each R s (entry.Purged now at) a h = same_all R s.outs _ (purged_rows lane.Durable at now (begun s)).outs h
applied_each R s (entry.Ticked now) a h = let e = rows_expired now (begun s) in
    same_all R e.state.outs _ (ticked_rows lane.Durable now e).outs (expiring_each R s (entry.Ticked now) a now (length s.outs) (begun s) h)
applied_each R s r a h = h
