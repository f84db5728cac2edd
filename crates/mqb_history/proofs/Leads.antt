-- What the rows of a manager keep is its own, and is for the peer to which it leads.
use Rattle.std.proofs.Common.{refl, ap, sym, subst, ◌∙◌, arith, inl, inr}
use Rattle.std.specs.List.{AllByRecursion, cons_option, last_or}
use Rattle.std.specs.Option.{option_map_or}
use Rattle.std.specs.Prelude.{[], ◌+◌, ◌++◌, ◌<◌, ◌==◌, ◌∷◌, ◌≡◌, ◌⊎◌, Bool, List, None, Option, Some, cond, false, filter, fold, map, nat_lt, option_and_then, position, true, ℕ}
use Rattle.mqb_base.specs.Same.{same_guid, same_name}
use Rattle.mqb_base.specs.declared.ids.Identity.{Identity}
use Rattle.mqb_base.specs.declared.ids.MessageId.{MessageId}
use Rattle.mqb_base.specs.declared.message.Message.{Message}
use Rattle.mqb_base.specs.declared.queue_names.QueueName.{QueueName}
use Rattle.mqb_base.specs.declared.queue_names.QueueName.TheVariants.{Direct, Private, Public}
use Rattle.mqb_exactly_once.specs.Words.{In}
use Rattle.mqb_model.specs.declared.target.Target.{Target}
use Rattle.mqb_model.specs.declared.target.Target.TheVariants.{AtPeer, Here, Nowhere}
use Rattle.mqb_model.specs.records.Applying.{apply}
use Rattle.mqb_model.specs.records.Commit.{send_made, sends_of, takes_made}
use Rattle.mqb_model.specs.records.Record.{Record}
use Rattle.mqb_model.specs.records.Record as entry
use Rattle.mqb_model.specs.rules.Effects.{Effect}
use Rattle.mqb_model.specs.rules.Sends.{committed_to, journalled}
use Rattle.mqb_model.specs.rules.Sequences.{join, new_sequence, sequence_in_use, with_kept, with_sequence}
use Rattle.mqb_model.specs.state.Resolving.{at_peer, at_queue, is_host_of, is_own_host, peer_at, peer_known, queue_named, queue_numbered, queue_registered, resolved}
use Rattle.mqb_model.specs.state.Rows.{has_ordinal, last_sequence, with_row}
use Rattle.mqb_model.specs.state.State.{State, empty}
use Rattle.mqb_network.specs.Courses.{Written}
use Rattle.mqb_orders.specs.Rows.{Row, leads_to}
use Rattle.mqb_orders.specs.declared.kept.Kept.{Kept}
use Rattle.mqb_exactly_once.specs.World.{Commitment}
use Rattle.mqb_history.specs.Committed.{commitment_at, commitments}
use Rattle.mqb_history.specs.Made.{AreNumbered, IsMade}
use Rattle.mqb_history.proofs.Applying.{applied_manager, made_of_no_peer, sent_manager, takes_made_rows}
use Rattle.mqb_history.proofs.Committing.{OrdinalsRise, all_in, first_changed, is_first_changed}
use Rattle.mqb_history.proofs.Lists.{all_append, equal_numbers, none_some, same_number, some_is, split_and}
use Rattle.mqb_history.proofs.Numbering.{AreCounted, CommitsIn, counted_by_records, in_use_in, joined_outs, made_offers, own_numbered, rows_no_more, same_commits, to_commits}
use Rattle.mqb_history.proofs.Outside.{CommitsNothing, HasNoMore, applied_no_more}
use Rattle.mqb_history.proofs.Staying.{HasSameRows, IsSameManager, delivered_rows, journalled_rows}
use Rattle.mqb_history.proofs.Written.{IsByRecords}

-- the index of the peer to which a name leads, by the names of a manager and of its peers
abbrev pub led : Identity → List Identity → QueueName → Option ℕ
led own peers (Private qm number false) = cond (same_guid qm own.guid) None (position (λ p. same_guid p.guid qm) peers)
led own peers (Direct host queue false) = cond (is_own_host own host) None (position (is_host_of host) peers)
led own peers _ = None

found_there : (o : Option ℕ) (k : ℕ) → at_peer o ≡ AtPeer k → o ≡ Some k
found_there None k e = absurd (let none : ⊥ = cc in none)
found_there (Some j) k e = ap (λ x. Some x) (let same : j ≡ k = cc in same)

no_queue : (o : Option ℕ) (k : ℕ) → at_queue o ≡ AtPeer k → ⊥
no_queue None k e = let none : ⊥ = cc in none
no_queue (Some j) k e = let none : ⊥ = cc in none

not_here : (queue : Option ℕ) (k : ℕ) → Here queue ≡ AtPeer k → ⊥
not_here queue k e = let none : ⊥ = cc in none

not_nowhere : (k : ℕ) → Nowhere ≡ AtPeer k → ⊥
not_nowhere k e = let none : ⊥ = cc in none

pub leads_there : (s : State) (d : QueueName) (k : ℕ) → resolved s d ≡ AtPeer k → led s.identity s.peers d ≡ Some k
leads_there s (Public guid false) k e = absurd (no_queue (queue_registered s guid) k e)
leads_there s (Private qm number false) k e = at (same_guid qm s.identity.guid) e
  where
    at : (b : Bool) → cond b (Here (queue_numbered s number)) (at_peer (peer_known s qm)) ≡ AtPeer k → cond b None (peer_known s qm) ≡ Some k
    at true f = absurd (not_here (queue_numbered s number) k f)
    at false f = found_there (peer_known s qm) k f
leads_there s (Direct host queue false) k e = at (is_own_host s.identity host) e
  where
    at : (b : Bool) → cond b (Here (queue_named s queue)) (at_peer (peer_at s host)) ≡ AtPeer k → cond b None (peer_at s host) ≡ Some k
    at true f = absurd (not_here (queue_named s queue) k f)
    at false f = found_there (peer_at s host) k f
leads_there s d k e = absurd (not_nowhere k e)

-- a message is a manager's own, and leads to a peer
abbrev pub GoesAs : Identity → List Identity → ℕ → Message → Type 0
GoesAs own peers k m = (m.id.qm ≡ own.guid) × (led own peers m.destination ≡ Some k)

abbrev pub RowLeads : Identity → List Identity → Row → Type 0
RowLeads own peers row = (x : Kept) → In x row.kept → GoesAs own peers row.peer x.message

abbrev pub RowsLead : State → Type 0
RowsLead s = AllByRecursion (RowLeads s.identity s.peers) s.outs

as_manager : (a b : State) → IsSameManager a b → (rows : List Row) → AllByRecursion (RowLeads a.identity a.peers) rows → AllByRecursion (RowLeads b.identity b.peers) rows
as_manager a b same rows h = subst (λ own. AllByRecursion (RowLeads own b.peers) rows) (sym same.identity) (subst (λ ps. AllByRecursion (RowLeads a.identity ps) rows) (sym same.peers) h)

same_leads : (a b : State) → HasSameRows a b → RowsLead a → RowsLead b
same_leads a b same h = as_manager a b same.manager b.outs (subst (AllByRecursion (RowLeads a.identity a.peers)) (sym same.outs) h)

-- a row with one message more
kept_leads : (own : Identity) (peers : List Identity) (m : Message) (row : Row) → GoesAs own peers row.peer m → RowLeads own peers row → RowLeads own peers (with_kept m row)
kept_leads own peers m row new h x i = at row.kept (λ y j. h y j) i
  where
    at : (ks : List Kept) → ((y : Kept) → In y ks → GoesAs own peers row.peer y.message) → In x (ks ++ record { number = row.committed + 1; message = m } ∷ []) → GoesAs own peers row.peer x.message
    at [] g (inl e) = subst (λ (y : Kept). GoesAs own peers row.peer y.message) e new
    at [] g (inr none) = absurd none
    at (k ∷ ks) g (inl e) = g x (inl e)
    at (k ∷ ks) g (inr j) = at ks (λ y l. g y (inr l)) j

joined_leads : (own : Identity) (peers : List Identity) (m : Message) (rows : List Row) (row : Row) → In row rows → OrdinalsRise rows → GoesAs own peers row.peer m
    → AllByRecursion (RowLeads own peers) rows → AllByRecursion (RowLeads own peers) (first_changed (with_kept m) (has_ordinal row.sequence.ordinal) rows)
joined_leads own peers m [] row i rise new h = absurd i
joined_leads own peers m (x ∷ xs) row (inl e) rise new h = subst (λ b. AllByRecursion (RowLeads own peers) (cond b (with_kept m x ∷ xs) (x ∷ first_changed (with_kept m) (has_ordinal row.sequence.ordinal) xs)))
    (sym (ap (λ (y : Row). y.sequence.ordinal == row.sequence.ordinal) e ∙ same_number row.sequence.ordinal))
    (kept_leads own peers m x (subst (λ (y : Row). GoesAs own peers y.peer m) (sym e) new) h.0, h.1)
joined_leads own peers m (x ∷ xs) row (inr i) rise new h = at (has_ordinal row.sequence.ordinal x) refl (joined_leads own peers m xs row i rise.1 new h.1)
  where
    at : (b : Bool) → has_ordinal row.sequence.ordinal x ≡ b → AllByRecursion (RowLeads own peers) (first_changed (with_kept m) (has_ordinal row.sequence.ordinal) xs)
        → AllByRecursion (RowLeads own peers) (cond b (with_kept m x ∷ xs) (x ∷ first_changed (with_kept m) (has_ordinal row.sequence.ordinal) xs))
    at true e rest = let lt = all_in (λ (y : Row). x.sequence.ordinal < y.sequence.ordinal) xs row rise.0 i in let same = equal_numbers x.sequence.ordinal row.sequence.ordinal e in absurd (omega (arith, lt, same))
    at false e rest = (h.0, rest)

-- the last row that leads to a peer leads to it
last_to : (test : Row → Bool) (o : Option Row) (rows : List Row) (row : Row) → last_or o (filter test rows) ≡ Some row → (o ≡ Some row) ⊎ (test row ≡ true)
last_to test o [] row e = inl e
last_to test o (x ∷ rows) row e = at (test x) refl e (last_to test (Some x) rows row) (last_to test o rows row)
  where
    at : (b : Bool) → test x ≡ b → last_or o (cond b (x ∷ filter test rows) (filter test rows)) ≡ Some row
        → (last_or (Some x) (filter test rows) ≡ Some row → (Some x ≡ Some row) ⊎ (test row ≡ true)) → (last_or o (filter test rows) ≡ Some row → (o ≡ Some row) ⊎ (test row ≡ true)) → (o ≡ Some row) ⊎ (test row ≡ true)
    at true f e here behind = by (here e)
      where
        by : (Some x ≡ Some row) ⊎ (test row ≡ true) → (o ≡ Some row) ⊎ (test row ≡ true)
        by (inl g) = inr (subst (λ y. test y ≡ true) (some_is x row g) f)
        by (inr g) = inr g
    at false f e here behind = behind e

in_use_leads : (s : State) (peer : ℕ) (destination : QueueName) (row : Row) → sequence_in_use s peer destination ≡ Some row → row.peer ≡ peer
in_use_leads s peer destination row e = at (last_sequence s peer destination) refl e
  where
    at : (o : Option Row) → last_sequence s peer destination ≡ o → option_and_then (λ r. cond (nat_lt r.committed s.roll) (Some r) None) o ≡ Some row → row.peer ≡ peer
    at None f g = absurd (none_some g)
    at (Some x) f g = by (nat_lt x.committed s.roll) g
      where
        peer_is : (leads_to peer destination row ≡ true) → row.peer ≡ peer
        peer_is t = equal_numbers row.peer peer (split_and (row.peer == peer) (same_name row.destination destination) t).0

        which : (None ≡ Some row) ⊎ (leads_to peer destination row ≡ true) → row.peer ≡ peer
        which (inl none) = absurd (none_some none)
        which (inr t) = peer_is t

        by : (b : Bool) → cond b (Some x) None ≡ Some row → row.peer ≡ peer
        by true k = which (last_to (leads_to peer destination) None s.outs row (f ∙ k))
        by false k = absurd (none_some k)

join_leads : (s : State) (peer now : ℕ) (m : Message) → OrdinalsRise s.outs → GoesAs s.identity s.peers peer m → RowsLead s → RowsLead (join s peer now m)
join_leads s peer now m rise new h = at (sequence_in_use s peer m.destination) refl
  where
    fresh : Row
    fresh = new_sequence s peer m.destination now

    at : (o : Option Row) → sequence_in_use s peer m.destination ≡ o → RowsLead (option_map_or (λ row. with_row (with_kept m) s row.sequence.ordinal) o (with_sequence s (with_kept m fresh)))
    at None e = all_append (RowLeads s.identity s.peers) s.outs (with_kept m fresh ∷ []) h (kept_leads s.identity s.peers m fresh new (λ x i. absurd i), tt)
    at (Some row) e = subst (AllByRecursion (RowLeads s.identity s.peers)) (sym (is_first_changed (with_kept m) (has_ordinal row.sequence.ordinal) s.outs))
        (joined_leads s.identity s.peers m s.outs row (in_use_in s peer m.destination row e) rise (subst (λ k. GoesAs s.identity s.peers k m) (sym (in_use_leads s peer m.destination row e)) new) h)

-- A transaction: what is counted behind each send says that its rows rise.

goes_there : (a b : State) (k : ℕ) (m : Message) → IsSameManager a b → GoesAs a.identity a.peers k m → GoesAs b.identity b.peers k m
goes_there a b k m same h = subst (λ own. GoesAs own b.peers k m) (sym same.identity) (subst (λ ps. GoesAs a.identity ps k m) (sym same.peers) h)

to_leads : (now : ℕ) (s : State) (t : Target) (m : Message) → ((k : ℕ) → t ≡ AtPeer k → GoesAs s.identity s.peers k m) → OrdinalsRise s.outs → RowsLead s → RowsLead (committed_to now s t m).state
to_leads now s (AtPeer k) m goes rise h = join_leads s k now m rise (goes k refl) h
to_leads now s (Here queue) m goes rise h = same_leads s (committed_to now s (Here queue) m).state (delivered_rows s (Here queue) m now) h
to_leads now s Nowhere m goes rise h = same_leads s (committed_to now s Nowhere m).state (delivered_rows s Nowhere m now) h

sends_lead : (now low : ℕ) (e : Effect) (ms : List Message) (cs : List Commitment) → AreNumbered e.state.identity.guid low ms → CommitsIn e.state low cs → RowsLead e.state → RowsLead (fold (send_made now) e ms).state
sends_lead now low e [] cs ids counts h = h
sends_lead now low e (m ∷ ms) cs ids counts h = sends_lead now (low + 1) (send_made now e m) ms (cs ++ cons_option (commitment_at now s (resolved e.state m.destination) m) [])
    (own_numbered e.state.identity.guid (send_made now e m).state.identity.guid (low + 1) ms (ap (λ (i : Identity). i.guid) (sym (sent_manager now e.state m).identity)) ids.1)
    (to_commits now low s (resolved e.state m.destination) m cs
    (ids.0 ∙ ap (λ (i : Identity). record { qm = i.guid; number = low }) (sym (journalled_rows e.state m).manager.identity))
    (same_commits e.state s low cs (journalled_rows e.state m) counts))
    (to_leads now s (resolved e.state m.destination) m
    (λ k f. goes_there e.state s k m (journalled_rows e.state m).manager (ap (λ (i : MessageId). i.qm) ids.0, leads_there e.state m.destination k f))
    (same_commits e.state s low cs (journalled_rows e.state m) counts).rise (same_leads e.state s (journalled_rows e.state m) h))
  where
    s : State
    s = journalled e.state m

-- what holds of a manager's state and its records
abbrev pub AreLed : State → List Written → Type 0
AreLed s ws = AreCounted s ws × RowsLead s

no_more_leads : (own : Identity) (peers : List Identity) (a b : Row) → HasNoMore a b → RowLeads own peers a → RowLeads own peers b
no_more_leads own peers a b less h x i = subst (λ k. GoesAs own peers k x.message) (sym less.peer) (h x (less.kept x i))

record_leads : (s : State) (r : Record) (ws : List Written) → IsMade s r → AreLed s ws → RowsLead (apply s r)
record_leads s r ws made h = at r made
  where
    quiet : (x : Record) → IsMade s x → CommitsNothing x → RowsLead (apply s x)
    quiet x made nothing = as_manager s (apply s x) (applied_manager s x (made_of_no_peer s x made)) (apply s x).outs
        (rows_no_more (RowLeads s.identity s.peers) (no_more_leads s.identity s.peers) s.outs (apply s x).outs (applied_no_more s x nothing (made_offers s x h.0.rise made)).outs h.1)

    at : (x : Record) → IsMade s x → RowsLead (apply s x)
    at (entry.Peer peer) made = absurd made
    at (entry.Commit now ops) made = sends_lead now s.next_number (takes_made s now ops) (sends_of ops) (commitments ws)
        (own_numbered s.identity.guid (takes_made s now ops).state.identity.guid s.next_number (sends_of ops) (ap (λ (i : Identity). i.guid) (sym (takes_made_rows s now ops).manager.identity)) made.numbered)
        (same_commits s (takes_made s now ops).state s.next_number (commitments ws) (takes_made_rows s now ops) h.0)
        (same_leads s (takes_made s now ops).state (takes_made_rows s now ops) h.1)
    at x made = quiet x made tt

pub led_by_records : IsByRecords AreLed
led_by_records = record {
  starts = λ own peers. (counted_by_records.starts own peers, begins (fold apply (empty own) (map (λ peer. entry.Peer peer) peers)) (joined_outs (empty own) peers));
  quiet = λ a b ws same h. (counted_by_records.quiet a b ws same h.0, same_leads a b same h.1);
  grows = λ i s r ws made h. (counted_by_records.grows i s r ws made h.0, record_leads s r ws made h);
}
  where
    begins : (s : State) → s.outs ≡ [] → RowsLead s
    begins s e = subst (AllByRecursion (RowLeads s.identity s.peers)) (sym e) tt
