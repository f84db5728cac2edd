-- The ledger tells what is decided and committed.
use Rattle.std.proofs.Common.{refl, ap, sym, ◌∙◌}
use Rattle.std.proofs.lemmas.List.{append_assoc}
use Rattle.std.specs.List.{AllByRecursion, cons_option, last_or}
use Rattle.std.specs.Option.{option_map_or}
use Rattle.std.specs.Prelude.{[], ◌+◌, ◌++◌, ◌==◌, ◌∷◌, ◌≡◌, Bool, List, None, Option, Some, cond, false, filter, filter_map, fold, map, nat_lt, option_and_then, true, unwrap_or, ℕ}
use Rattle.mqb_base.specs.Same.{same_name}
use Rattle.mqb_base.specs.declared.class.Class.{Class}
use Rattle.mqb_base.specs.declared.heads.TxHead.{TxHead}
use Rattle.mqb_base.specs.declared.ids.Guid.{Guid}
use Rattle.mqb_base.specs.declared.ids.Identity.{Identity}
use Rattle.mqb_base.specs.declared.ledger.Line.{Line}
use Rattle.mqb_base.specs.declared.ledger.Line.TheVariants as line
use Rattle.mqb_base.specs.declared.message.Lane.TheVariants as lane
use Rattle.mqb_base.specs.declared.message.Message.{Message}
use Rattle.mqb_base.specs.declared.queue_names.QueueName.{QueueName}
use Rattle.mqb_exactly_once.specs.World.{Channel, Commitment, Position}
use Rattle.mqb_model.specs.declared.target.Target.{Target}
use Rattle.mqb_model.specs.declared.target.Target.TheVariants.{AtPeer, Here, Nowhere}
use Rattle.mqb_model.specs.records.Applying.{effect_of, lines_of}
use Rattle.mqb_model.specs.records.Commit.{send_made, sends_numbered, sends_of, takes_made}
use Rattle.mqb_model.specs.records.Decisions.{decided_line, message_decided, message_stored, stored_line}
use Rattle.mqb_model.specs.records.Record.{Part, Record, RecordOp}
use Rattle.mqb_model.specs.records.Record as entry
use Rattle.mqb_model.specs.records.Releases.{releases_made}
use Rattle.mqb_model.specs.rules.Arrivals.{refusal_of, storing_refusal}
use Rattle.mqb_model.specs.rules.Effects.{Effect, begun, joined}
use Rattle.mqb_model.specs.rules.Sends.{committed_to, journalled, message_sent}
use Rattle.mqb_model.specs.state.Resolving.{is_here, resolved}
use Rattle.mqb_model.specs.state.State.{State}
use Rattle.mqb_network.specs.Courses.{Written}
use Rattle.mqb_network.specs.Laws.{lines_written}
use Rattle.mqb_orders.specs.Rows.{Row, leads_to}
use Rattle.mqb_packet.specs.declared.packet.UserPacket.{UserPacket}
use Rattle.mqb_history.specs.Decided.{decided_in, decisions, position_in}
use Rattle.mqb_history.specs.Laws.{AlwaysToldCommitments, LinesTellDecisions}
use Rattle.mqb_history.specs.Committed.{commitment_at, commitments, commitments_in, commitments_of}
use Rattle.mqb_history.proofs.Names.{same_name_is}
use Rattle.mqb_history.proofs.Numbering.{commitments_more}
use Rattle.mqb_history.proofs.Applying.{applied_manager, made_of_no_peer, sent_manager, takes_made_rows}
use Rattle.mqb_history.proofs.Staying.{journalled_rows}
use Rattle.mqb_model.specs.records.Finals.{final_stored}
use Rattle.mqb_model.specs.rules.Sequences.{new_sequence, sequence_for}
use Rattle.mqb_model.specs.state.Rows.{last_sequence}
use Rattle.mqb_history.specs.Told.{Joined, commitment_told, decision_told, joined_by}
use Rattle.mqb_history.proofs.Lines.{Adds, IsOther, ops_add, other_uncommitted, other_undecided, purged_adds, releases_add, taken_adds, ticking_tells, told_append, told_nothing, told_same}
use Rattle.mqb_history.proofs.Lists.{append_nothing, none_some, some_is, split_and}
use Rattle.mqb_history.proofs.Written.{IsByRecords, always_by_records}

-- the decisions that lines tell
abbrev told : Channel → List Line → List Position
told channel ls = filter_map (decision_told channel) ls

-- an effect that began with nothing and adds other lines tells nothing
quiet_effect : (channel : Channel) (s : State) (f : Effect) → Adds (begun s) f → told channel f.lines ≡ []
quiet_effect channel s f a = told_same (decision_told channel) (other_undecided channel) (begun s) f a

-- Transactions.

commit_tells : (channel : Channel) (now : ℕ) (s : State) (t : Target) (m : Message) → told channel (committed_to now s t m).lines ≡ []
commit_tells channel now s (AtPeer k) m = refl
commit_tells channel now s t m = refl

sends_tell : (channel : Channel) (now : ℕ) (e : Effect) (ms : List Message) → told channel (fold (send_made now) e ms).lines ≡ told channel e.lines
sends_tell channel now e [] = refl
sends_tell channel now e (m ∷ ms) = sends_tell channel now (send_made now e m) ms
    ∙ told_append (decision_told channel) e.lines (message_sent now e.state m).lines
    ∙ ap (λ ps. told channel e.lines ++ ps) (commit_tells channel now (journalled e.state m) (resolved e.state m.destination) m) ∙ append_nothing (told channel e.lines)

-- Arrivals.

line_tells : (channel : Channel) (m : Message) (tx : TxHead) (refusal : Option Class) → told channel (decided_line m tx refusal ∷ []) ≡ cons_option (position_in channel m (Some tx)) []
line_tells channel m tx None = refl
line_tells channel m tx (Some class) = refl

stored_tells : (channel : Channel) (m : Message) (refusal : Option Class) → told channel (stored_line m refusal ∷ []) ≡ []
stored_tells channel m None = refl
stored_tells channel m (Some class) = refl

joined_tells : (channel : Channel) (e next : Effect) → told channel e.lines ≡ [] → told channel (joined e next).lines ≡ told channel next.lines
joined_tells channel e next none = told_append (decision_told channel) e.lines next.lines ∙ ap (λ ps. ps ++ told channel next.lines) none

decided_tells : (channel : Channel) (now : ℕ) (e : Effect) (p : UserPacket) (o : Option TxHead) → told channel e.lines ≡ []
    → told channel (option_map_or (λ tx. joined e (message_decided now e.state p tx)) o e).lines ≡ cons_option (position_in channel p.message o) []
decided_tells channel now e p None none = none
decided_tells channel now e p (Some tx) none = joined_tells channel e (message_decided now e.state p tx) none ∙ line_tells channel p.message tx (refusal_of e.state p)

-- Records.

pub record_tells : (channel : Channel) (s : State) (r : Record) → told channel (lines_of s r) ≡ cons_option (decided_in channel r) []
record_tells channel s (entry.Commit now ops) = sends_tell channel now (takes_made s now ops) (sends_of ops)
    ∙ told_same (decision_told channel) (other_undecided channel) (sends_numbered s ops) (takes_made s now ops) (ops_add now (sends_numbered s ops) ops)
record_tells channel s (entry.Plain now p) = at (is_here (resolved s p.message.destination))
  where
    at : (b : Bool) → told channel (cond b (line.Local p.message.id ∷ []) []) ≡ []
    at true = refl
    at false = refl
record_tells channel s (entry.Arrived now numbers entry.Nothing) = quiet_effect channel s (releases_made s numbers) (releases_add (begun s) numbers)
record_tells channel s (entry.Arrived now numbers (entry.Decided p)) = decided_tells channel now (releases_made s numbers) p p.tx
    (quiet_effect channel s (releases_made s numbers) (releases_add (begun s) numbers))
record_tells channel s (entry.Arrived now numbers (entry.Stored p)) = let e = releases_made s numbers in
    joined_tells channel e (message_stored now e.state p) (quiet_effect channel s e (releases_add (begun s) numbers))
    ∙ stored_tells channel p.message (storing_refusal e.state p)
record_tells channel s (entry.Arrived now numbers (entry.OrderAcknowledged ordinal number)) = quiet_effect channel s (releases_made s numbers) (releases_add (begun s) numbers)
record_tells channel s (entry.Arrived now numbers (entry.Final p)) = let e = releases_made s numbers in
    joined_tells channel e (final_stored e.state p.message) (quiet_effect channel s e (releases_add (begun s) numbers))
record_tells channel s (entry.Taken now place id) = quiet_effect channel s (effect_of s (entry.Taken now place id)) (taken_adds place id now (begun s))
record_tells channel s (entry.Purged now place) = quiet_effect channel s (effect_of s (entry.Purged now place)) (purged_adds lane.Durable place now (begun s))
record_tells channel s (entry.Ticked now) = ticking_tells (decision_told channel) (other_undecided channel) (λ stream number id moment. refl) s now
record_tells channel s r = refl

-- of all records, in order
lines_tell : (channel : Channel) (ws : List Written) → told channel (lines_written ws) ≡ decisions channel ws
lines_tell channel [] = refl
lines_tell channel (w ∷ ws) = told_append (decision_told channel) (lines_of w.before w.entry) (lines_written ws)
    ∙ ap (λ ps. ps ++ told channel (lines_written ws)) (record_tells channel w.before w.entry)
    ∙ ap (λ ps. cons_option (decided_in channel w.entry) [] ++ ps) (lines_tell channel ws)
    ∙ at (decided_in channel w.entry)
  where
    at : (o : Option Position) → cons_option o [] ++ decisions channel ws ≡ cons_option o (decisions channel ws)
    at None = refl
    at (Some p) = refl

pub lines_tell_decisions : LinesTellDecisions
lines_tell_decisions = lines_tell

-- The commitments that lines tell.

abbrev pub told_joins : List Line → List Joined
told_joins ls = filter_map commitment_told ls

-- the last row that leads to a destination has that one
last_leads : (peer : ℕ) (destination : QueueName) (o : Option Row) (rows : List Row) (row : Row) → ((x : Row) → o ≡ Some x → x.destination ≡ destination)
    → last_or o (filter (leads_to peer destination) rows) ≡ Some row → row.destination ≡ destination
last_leads peer destination o [] row h e = h row e
last_leads peer destination o (x ∷ rows) row h e = at (leads_to peer destination x) refl e (last_leads peer destination (Some x) rows row) (last_leads peer destination o rows row h)
  where
    at : (b : Bool) → leads_to peer destination x ≡ b → last_or o (cond b (x ∷ filter (leads_to peer destination) rows) (filter (leads_to peer destination) rows)) ≡ Some row
        → (((y : Row) → Some x ≡ Some y → y.destination ≡ destination) → last_or (Some x) (filter (leads_to peer destination) rows) ≡ Some row → row.destination ≡ destination)
        → (last_or o (filter (leads_to peer destination) rows) ≡ Some row → row.destination ≡ destination) → row.destination ≡ destination
    at true f e here behind = here (λ y g. ap (λ (z : Row). z.destination) (sym (some_is x y g))
        ∙ same_name_is x.destination destination (split_and (x.peer == peer) (same_name x.destination destination) f).1) e
    at false f e here behind = behind e

pub sequence_leads : (s : State) (peer : ℕ) (destination : QueueName) (now : ℕ) → (sequence_for s peer destination now).destination ≡ destination
sequence_leads s peer destination now = at (last_sequence s peer destination) refl
  where
    leads : (row : Row) → last_sequence s peer destination ≡ Some row → row.destination ≡ destination
    leads row e = last_leads peer destination None s.outs row (λ x f. absurd (none_some f)) e

    at : (o : Option Row) → last_sequence s peer destination ≡ o
        → (unwrap_or (option_and_then (λ row. cond (nat_lt row.committed s.roll) (Some row) None) o) (new_sequence s peer destination now)).destination ≡ destination
    at None e = refl
    at (Some row) e = by (nat_lt row.committed s.roll)
      where
        by : (b : Bool) → (unwrap_or (cond b (Some row) None) (new_sequence s peer destination now)).destination ≡ destination
        by true = leads row e
        by false = refl

-- a message joins a stream of its manager
commit_joins : (own : Guid) (now : ℕ) (s : State) (t : Target) (m : Message) → s.identity.guid ≡ own
    → told_joins (committed_to now s t m).lines ≡ map (joined_by own) (cons_option (commitment_at now s t m) [])
commit_joins own now s (AtPeer k) m e = let row = sequence_for s k m.destination now in
    ap (λ g. record { stream = record { source = g; destination = row.destination; sequence = row.sequence }; number = row.committed + 1; id = m.id } ∷ []) e
    ∙ ap (λ d. record { stream = record { source = own; destination = d; sequence = row.sequence }; number = row.committed + 1; id = m.id } ∷ []) (sequence_leads s k m.destination now)
commit_joins own now s (Here queue) m e = refl
commit_joins own now s Nowhere m e = refl

map_cons : (own : Guid) (o : Option Commitment) (cs : List Commitment) → map (joined_by own) (cons_option o []) ++ map (joined_by own) cs ≡ map (joined_by own) (cons_option o cs)
map_cons own None cs = refl
map_cons own (Some c) cs = refl

sends_join : (own : Guid) (now : ℕ) (e : Effect) (ms : List Message) → e.state.identity.guid ≡ own
    → told_joins (fold (send_made now) e ms).lines ≡ told_joins e.lines ++ map (joined_by own) (commitments_of now e ms)
sends_join own now e [] same = sym (append_nothing (told_joins e.lines))
sends_join own now e (m ∷ ms) same = sends_join own now (send_made now e m) ms (ap (λ (i : Identity). i.guid) (sent_manager now e.state m).identity ∙ same)
    ∙ ap (λ js. js ++ map (joined_by own) (commitments_of now (send_made now e m) ms)) (told_append commitment_told e.lines (message_sent now e.state m).lines
    ∙ ap (λ js. told_joins e.lines ++ js) (commit_joins own now (journalled e.state m) (resolved e.state m.destination) m
    (ap (λ (i : Identity). i.guid) (journalled_rows e.state m).manager.identity ∙ same)))
    ∙ append_assoc (told_joins e.lines) (map (joined_by own) (cons_option place [])) (map (joined_by own) (commitments_of now (send_made now e m) ms))
    ∙ ap (λ js. told_joins e.lines ++ js) (map_cons own place (commitments_of now (send_made now e m) ms))
  where
    place : Option Commitment
    place = commitment_at now (journalled e.state m) (resolved e.state m.destination) m

quiet_joins : (s : State) (f : Effect) → Adds (begun s) f → told_joins f.lines ≡ []
quiet_joins s f a = told_same commitment_told other_uncommitted (begun s) f a

line_joins : (m : Message) (tx : TxHead) (refusal : Option Class) → told_joins (decided_line m tx refusal ∷ []) ≡ []
line_joins m tx None = refl
line_joins m tx (Some class) = refl

stored_joins : (m : Message) (refusal : Option Class) → told_joins (stored_line m refusal ∷ []) ≡ []
stored_joins m None = refl
stored_joins m (Some class) = refl

more_joins : (e next : Effect) → told_joins e.lines ≡ [] → told_joins next.lines ≡ [] → told_joins (joined e next).lines ≡ []
more_joins e next none more = told_append commitment_told e.lines next.lines ∙ ap (λ js. js ++ told_joins next.lines) none ∙ more

decided_joins : (now : ℕ) (e : Effect) (p : UserPacket) (o : Option TxHead) → told_joins e.lines ≡ []
    → told_joins (option_map_or (λ tx. joined e (message_decided now e.state p tx)) o e).lines ≡ []
decided_joins now e p None none = none
decided_joins now e p (Some tx) none = more_joins e (message_decided now e.state p tx) none (line_joins p.message tx (refusal_of e.state p))

pub record_joins : (s : State) (r : Record) → told_joins (lines_of s r) ≡ map (joined_by s.identity.guid) (commitments_in s r)
record_joins s (entry.Commit now ops) = let e = takes_made s now ops in
    sends_join s.identity.guid now e (sends_of ops) (ap (λ (i : Identity). i.guid) (takes_made_rows s now ops).manager.identity)
    ∙ ap (λ js. js ++ map (joined_by s.identity.guid) (commitments_of now e (sends_of ops)))
    (told_same commitment_told other_uncommitted (sends_numbered s ops) e (ops_add now (sends_numbered s ops) ops))
record_joins s (entry.Plain now p) = at (is_here (resolved s p.message.destination))
  where
    at : (b : Bool) → told_joins (cond b (line.Local p.message.id ∷ []) []) ≡ []
    at true = refl
    at false = refl
record_joins s (entry.Arrived now numbers entry.Nothing) = quiet_joins s (releases_made s numbers) (releases_add (begun s) numbers)
record_joins s (entry.Arrived now numbers (entry.Decided p)) = decided_joins now (releases_made s numbers) p p.tx (quiet_joins s (releases_made s numbers) (releases_add (begun s) numbers))
record_joins s (entry.Arrived now numbers (entry.Stored p)) = let e = releases_made s numbers in
    more_joins e (message_stored now e.state p) (quiet_joins s e (releases_add (begun s) numbers)) (stored_joins p.message (storing_refusal e.state p))
record_joins s (entry.Arrived now numbers (entry.OrderAcknowledged ordinal number)) = quiet_joins s (releases_made s numbers) (releases_add (begun s) numbers)
record_joins s (entry.Arrived now numbers (entry.Final p)) = let e = releases_made s numbers in
    more_joins e (final_stored e.state p.message) (quiet_joins s e (releases_add (begun s) numbers)) refl
record_joins s (entry.Taken now place id) = quiet_joins s (effect_of s (entry.Taken now place id)) (taken_adds place id now (begun s))
record_joins s (entry.Purged now place) = quiet_joins s (effect_of s (entry.Purged now place)) (purged_adds lane.Durable place now (begun s))
record_joins s (entry.Ticked now) = ticking_tells commitment_told other_uncommitted (λ stream number id moment. refl) s now
record_joins s r = refl

-- The law.

abbrev pub AreJoinsTold : State → List Written → Type 0
AreJoinsTold s ws = told_joins (lines_written ws) ≡ map (joined_by s.identity.guid) (commitments ws)

pub lines_more : (ws : List Written) (w : Written) → lines_written (ws ++ w ∷ []) ≡ lines_written ws ++ lines_of w.before w.entry
lines_more [] w = append_nothing (lines_of w.before w.entry)
lines_more (x ∷ ws) w = ap (λ ls. lines_of x.before x.entry ++ ls) (lines_more ws w) ∙ sym (append_assoc (lines_of x.before x.entry) (lines_written ws) (lines_of w.before w.entry))

map_append : (own : Guid) (xs ys : List Commitment) → map (joined_by own) (xs ++ ys) ≡ map (joined_by own) xs ++ map (joined_by own) ys
map_append own [] ys = refl
map_append own (x ∷ xs) ys = ap (λ js. joined_by own x ∷ js) (map_append own xs ys)

pub joins_by_records : IsByRecords AreJoinsTold
joins_by_records = record {
  starts = λ own peers. refl;
  quiet = λ a b ws same h. h ∙ ap (λ (i : Identity). map (joined_by i.guid) (commitments ws)) (sym same.manager.identity);
  grows = λ i s r ws made h. ap (λ ls. told_joins ls) (lines_more ws (record { by = i; before = s; entry = r })) ∙ told_append commitment_told (lines_written ws) (lines_of s r)
      ∙ ap (λ js. js ++ told_joins (lines_of s r)) h ∙ ap (λ js. map (joined_by s.identity.guid) (commitments ws) ++ js) (record_joins s r)
      ∙ sym (map_append s.identity.guid (commitments ws) (commitments_in s r))
      ∙ ap (λ cs. map (joined_by s.identity.guid) cs) (sym (commitments_more ws (record { by = i; before = s; entry = r })))
      ∙ ap (λ (x : Identity). map (joined_by x.guid) (commitments (ws ++ record { by = i; before = s; entry = r } ∷ []))) (sym (applied_manager s r (made_of_no_peer s r made)).identity);
}

pub always_told_commitments : AlwaysToldCommitments
always_told_commitments known ms apart run kept = λ i. always_by_records AreJoinsTold joins_by_records known ms apart run kept i
