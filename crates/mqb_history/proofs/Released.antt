-- Which lines release a message: those of the numbers that a record of what arrived releases.
use Rattle.std.proofs.Common.{subst, inl, inr}
use Rattle.std.specs.Prelude.{◌⊎◌}
use Rattle.mqb_base.specs.declared.class.Class.{Class}
use Rattle.mqb_base.specs.declared.heads.TxHead.{TxHead}
use Rattle.mqb_exactly_once.specs.Words.{In}
use Rattle.mqb_model.specs.declared.target.Target.{Target}
use Rattle.mqb_model.specs.declared.target.Target.TheVariants.{AtPeer, Here, Nowhere}
use Rattle.mqb_model.specs.records.Applying.{effect_of, lines_of}
use Rattle.mqb_model.specs.records.Arrived.{part_made}
use Rattle.mqb_model.specs.records.Commit.{commit_effect, send_made, sends_numbered, sends_of, takes_made}
use Rattle.mqb_model.specs.records.Decisions.{decided_line, message_decided, message_stored, stored_line}
use Rattle.mqb_model.specs.records.Finals.{final_stored}
use Rattle.mqb_model.specs.records.Plain.{plain_lines}
use Rattle.mqb_model.specs.records.Record.{Part, Record}
use Rattle.mqb_model.specs.records.Releases.{releases_made}
use Rattle.mqb_model.specs.rules.Arrivals.{refusal_of, storing_refusal}
use Rattle.mqb_model.specs.rules.Effects.{begun}
use Rattle.mqb_model.specs.rules.Sends.{committed_line, committed_to, journalled}
use Rattle.mqb_model.specs.rules.Sequences.{sequence_for}
use Rattle.mqb_model.specs.state.Resolving.{is_here, resolved}
use Rattle.mqb_model.specs.state.State.{State}
use Rattle.mqb_network.specs.Courses.{Course, Written}
use Rattle.mqb_network.specs.Laws.{lines_written}
use Rattle.mqb_history.specs.Stored.{AreReleasedTruly, IsStorageKept, IsStoredIn}
use Rattle.mqb_history.proofs.Between.{all_in, in_either}
use Rattle.std.proofs.Common.{refl, ap, sym, ◌∙◌}
use Rattle.std.proofs.lemmas.List.{append_assoc}
use Rattle.std.specs.List.{AllByRecursion}
use Rattle.std.specs.Option.{option_map_or}
use Rattle.std.specs.Prelude.{[], ◌+◌, ◌++◌, ◌∷◌, ◌≡◌, Bool, List, None, Option, Some, cond, false, fold, length, slice_get, suc, true, zero, ℕ}
use Rattle.mqb_base.specs.declared.ids.MessageId.{MessageId}
use Rattle.mqb_base.specs.declared.ledger.Line.{Line}
use Rattle.mqb_base.specs.declared.ledger.Line.TheVariants as line
use Rattle.mqb_base.specs.declared.message.Lane.{Lane}
use Rattle.mqb_base.specs.declared.message.Lane.TheVariants as lane
use Rattle.mqb_base.specs.declared.message.Message.{Message}
use Rattle.mqb_base.specs.declared.queues.EntryPlace.{EntryPlace}
use Rattle.mqb_base.specs.declared.queues.EntryPlace.TheVariants as place
use Rattle.mqb_model.specs.Loops.{for_each_below, repeated}
use Rattle.mqb_model.specs.records.Commit.{op_taken}
use Rattle.mqb_model.specs.records.Record.{RecordOp}
use Rattle.mqb_model.specs.records.Record as entry
use Rattle.mqb_model.specs.records.Releases.{message_released}
use Rattle.mqb_model.specs.rules.Effects.{Effect, joined}
use Rattle.mqb_model.specs.rules.Purges.{count_at, message_purged, oldest_purged, purge_line, purged}
use Rattle.mqb_model.specs.rules.Takes.{message_at, message_taken, take_line, taken, taken_at}
use Rattle.mqb_model.specs.rules.Timeouts.{expiring, expiring_in, lane_ticked, lapsing, lapsing_in, message_expired, message_lapsed, message_swept, next_expired, next_lapsed, next_swept, peer_lapsed, queue_swept, row_expired, rows_expired, sweeping, sweeping_in}
use Rattle.mqb_model.specs.state.Rows.{stream_of}
use Rattle.mqb_model.specs.rules.Numbers.{own_id}
use Rattle.mqb_orders.specs.Rows.{Row}
use Rattle.mqb_plain.specs.Plain.{PlainLists, outgoing_in}
use Rattle.mqb_plain.specs.declared.outgoing.Outgoing.{Outgoing}
use Rattle.mqb_queue.specs.First.{index_named, is_queue}
use Rattle.mqb_queue.specs.Lists.{messages_in}
use Rattle.mqb_queue.specs.Places.{Queue}
use Rattle.mqb_history.proofs.Lists.{all_append, append_nothing}

-- a line releases nothing
abbrev pub IsUnreleased : Line → Type 0
IsUnreleased (line.Released id) = ⊥
IsUnreleased _ = Unit {0}

-- an effect adds such lines to another's
pub record Adds (e f : Effect) : Type 0 where
  pub more : List Line
  pub lines : f.lines ≡ e.lines ++ more
  pub others : AllByRecursion IsUnreleased more

pub adds_none : (e : Effect) → Adds e e
adds_none e = record { more = []; lines = sym (append_nothing e.lines); others = tt }

pub adds_then : (e f g : Effect) → Adds e f → Adds f g → Adds e g
adds_then e f g a b = record {
  more = a.more ++ b.more;
  lines = b.lines ∙ ap (λ ls. ls ++ b.more) a.lines ∙ append_assoc e.lines a.more b.more;
  others = all_append IsUnreleased a.more b.more a.others b.others;
}

adds_or : {X : Type 0} (e : Effect) (f : X → Effect) (o : Option X) → ((x : X) → Adds e (f x)) → Adds e (option_map_or f o e)
adds_or e f None some = adds_none e
adds_or e f (Some x) some = some x

-- one line
adds_one : (e next : Effect) (l : Line) → next.lines ≡ l ∷ [] → IsUnreleased l → Adds e (joined e next)
adds_one e next l one other = record { more = l ∷ []; lines = ap (λ ls. e.lines ++ ls) one; others = (other, tt) }

other_either : (b : Bool) (x y : Line) → IsUnreleased x → IsUnreleased y → IsUnreleased (cond b x y)
other_either true x y left right = left
other_either false x y left right = right

take_other : (at : EntryPlace) (m : Message) → IsUnreleased (take_line at m)
take_other at m = other_either (is_queue at) (line.Took m.id) (line.Emptied m.id) tt tt

purge_other : (at : EntryPlace) (m : Message) → IsUnreleased (purge_line at m)
purge_other at m = other_either (is_queue at) (line.Purged m.id) (line.Emptied m.id) tt tt

pub taken_adds : (at : EntryPlace) (id : MessageId) (now : ℕ) (e : Effect) → Adds e (taken at id now e)
taken_adds at id now e = adds_or e (λ k. taken_at lane.Durable at k now e) (index_named e.state.places at id now)
    (λ k. adds_or e (λ m. joined e (message_taken lane.Durable at k now e.state m)) (message_at lane.Durable e.state at k)
    (λ m. adds_one e (message_taken lane.Durable at k now e.state m) (take_line at m) refl (take_other at m)))

repeated_adds : (step : Effect → Effect) → ((e : Effect) → Adds e (step e)) → (n : ℕ) (e : Effect) → Adds e (repeated n step e)
repeated_adds step keeps zero e = adds_none e
repeated_adds step keeps (suc n) e = adds_then e (repeated n step e) (step (repeated n step e)) (repeated_adds step keeps n e) (keeps (repeated n step e))

each_adds : (step : ℕ → Effect → Effect) → ((k : ℕ) (e : Effect) → Adds e (step k e)) → (n : ℕ) (e : Effect) → Adds e (for_each_below n step e)
each_adds step keeps zero e = adds_none e
each_adds step keeps (suc n) e = adds_then e (for_each_below n step e) (step n (for_each_below n step e)) (each_adds step keeps n e) (keeps n (for_each_below n step e))

oldest_adds : (kind : Lane) (at : EntryPlace) (now : ℕ) (e : Effect) → Adds e (oldest_purged kind at now e)
oldest_adds kind at now e = adds_or e (λ m. joined e (message_purged kind at now e.state m)) (message_at kind e.state at 0)
    (λ m. adds_one e (message_purged kind at now e.state m) (purge_line at m) refl (purge_other at m))

pub purged_adds : (kind : Lane) (at : EntryPlace) (now : ℕ) (e : Effect) → Adds e (purged kind at now e)
purged_adds kind at now e = repeated_adds (oldest_purged kind at now) (oldest_adds kind at now) (count_at kind e.state at) e

lapsed_adds : (kind : Lane) (now k : ℕ) (e : Effect) → Adds e (next_lapsed kind now k e)
lapsed_adds kind now k e = adds_or e (λ (p : PlainLists). option_map_or (λ index.
    option_map_or (λ (o : Outgoing). joined e (message_lapsed kind now k index e.state o.message)) (slice_get (outgoing_in kind p) index) e)
    (lapsing kind now p) e) (slice_get e.state.plain k)
    (λ p. adds_or e (λ index. option_map_or (λ (o : Outgoing). joined e (message_lapsed kind now k index e.state o.message)) (slice_get (outgoing_in kind p) index) e) (lapsing kind now p)
    (λ index. adds_or e (λ (o : Outgoing). joined e (message_lapsed kind now k index e.state o.message)) (slice_get (outgoing_in kind p) index)
    (λ o. adds_one e (message_lapsed kind now k index e.state o.message) (line.Lapsed o.message.id) refl tt)))

swept_adds : (kind : Lane) (now k : ℕ) (e : Effect) → Adds e (next_swept kind now k e)
swept_adds kind now k e = adds_or e (λ (q : Queue). option_map_or (λ index.
    option_map_or (λ m. joined e (message_swept kind now (k + 1) index e.state m)) (slice_get (messages_in kind q.lists) index) e)
    (sweeping kind now q) e) (slice_get e.state.places.queues k)
    (λ q. adds_or e (λ index. option_map_or (λ m. joined e (message_swept kind now (k + 1) index e.state m)) (slice_get (messages_in kind q.lists) index) e) (sweeping kind now q)
    (λ index. adds_or e (λ m. joined e (message_swept kind now (k + 1) index e.state m)) (slice_get (messages_in kind q.lists) index)
    (λ m. adds_one e (message_swept kind now (k + 1) index e.state m) (line.Swept m.id) refl tt)))

pub ticked_adds : (kind : Lane) (now : ℕ) (e : Effect) → Adds e (lane_ticked kind now e)
ticked_adds kind now e = let lapsed = for_each_below (length e.state.plain) (peer_lapsed kind now) e in
    adds_then e lapsed (lane_ticked kind now e)
    (each_adds (peer_lapsed kind now) (λ k f. repeated_adds (next_lapsed kind now k) (lapsed_adds kind now k) (option_map_or (lapsing_in kind now) (slice_get f.state.plain k) 0) f) (length e.state.plain) e)
    (each_adds (queue_swept kind now) (λ k f. repeated_adds (next_swept kind now k) (swept_adds kind now k) (option_map_or (sweeping_in kind now) (slice_get f.state.places.queues k) 0) f)
    (length e.state.places.queues) lapsed)

expired_adds : (now k : ℕ) (e : Effect) → Adds e (next_expired now k e)
expired_adds now k e = adds_or e (λ (row : Row). option_map_or (λ kept. joined e (message_expired now k e.state row kept)) (expiring now row) e) (slice_get e.state.outs k)
    (λ row. adds_or e (λ kept. joined e (message_expired now k e.state row kept)) (expiring now row)
    (λ kept. adds_one e (message_expired now k e.state row kept) (line.Expired (stream_of e.state row) kept.number kept.message.id now) refl tt))

pub expiring_adds : (now : ℕ) (e : Effect) → Adds e (rows_expired now e)
expiring_adds now e = each_adds (row_expired now)
    (λ k f. repeated_adds (next_expired now k) (expired_adds now k) (option_map_or (expiring_in now) (slice_get f.state.outs k) 0) f) (length e.state.outs) e

pub ops_add : (now : ℕ) (e : Effect) (ops : List RecordOp) → Adds e (fold (op_taken now) e ops)
ops_add now e [] = adds_none e
ops_add now e (entry.Send p ∷ ops) = ops_add now e ops
ops_add now e (entry.Take queue id ∷ ops) = adds_then e (taken (place.Queue queue) id now e) (fold (op_taken now) (taken (place.Queue queue) id now e) ops)
    (taken_adds (place.Queue queue) id now e) (ops_add now (taken (place.Queue queue) id now e) ops)

sends_add : (now : ℕ) (e : Effect) (ms : List Message) → Adds e (fold (send_made now) e ms)
sends_add now e [] = adds_none e
sends_add now e (m ∷ ms) = adds_then e (send_made now e m) (fold (send_made now) (send_made now e m) ms) (at (resolved e.state m.destination)) (sends_add now (send_made now e m) ms)
  where
    at : (t : Target) → Adds e (joined e (committed_to now (journalled e.state m) t m))
    at (AtPeer k) = adds_one e (committed_to now (journalled e.state m) (AtPeer k) m) (committed_line (journalled e.state m) (sequence_for (journalled e.state m) k m.destination now) m) refl tt
    at (Here queue) = adds_one e (committed_to now (journalled e.state m) (Here queue) m) (line.Local m.id) refl tt
    at Nowhere = adds_one e (committed_to now (journalled e.state m) Nowhere m) (line.Local m.id) refl tt

decided_unreleased : (m : Message) (tx : TxHead) (o : Option Class) → IsUnreleased (decided_line m tx o)
decided_unreleased m tx None = tt
decided_unreleased m tx (Some class) = tt

stored_unreleased : (m : Message) (o : Option Class) → IsUnreleased (stored_line m o)
stored_unreleased m None = tt
stored_unreleased m (Some class) = tt

part_adds : (now : ℕ) (e : Effect) (part : Part) → Adds e (part_made now e part)
part_adds now e entry.Nothing = adds_none e
part_adds now e (entry.Decided p) = adds_or e (λ tx. joined e (message_decided now e.state p tx)) p.tx
    (λ tx. adds_one e (message_decided now e.state p tx) (decided_line p.message tx (refusal_of e.state p)) refl (decided_unreleased p.message tx (refusal_of e.state p)))
part_adds now e (entry.Stored p) = adds_one e (message_stored now e.state p) (stored_line p.message (storing_refusal e.state p)) refl (stored_unreleased p.message (storing_refusal e.state p))
part_adds now e (entry.OrderAcknowledged ordinal number) = record { more = []; lines = sym (append_nothing e.lines); others = tt }
part_adds now e (entry.Final p) = adds_one e (final_stored e.state p.message) (line.Stored p.message.id) refl tt

-- what a record releases is among its numbers
pub record IsRelease (s : State) (r : Record) (id : MessageId) : Type 0 where
  pub now : ℕ
  pub numbers : List ℕ
  pub part : Part
  pub number : ℕ
  pub arrived : r ≡ entry.Arrived now numbers part
  pub there : In number numbers
  pub named : id ≡ own_id s number

not_released : (id : MessageId) (ls : List Line) → AllByRecursion IsUnreleased ls → In (line.Released id) ls → ⊥
not_released id ls h i = all_in IsUnreleased ls (line.Released id) h i

numbers_released : (e : Effect) (ns : List ℕ) (id : MessageId) → In (line.Released id) (fold message_released e ns).lines → In (line.Released id) e.lines ⊎ ((n : ℕ) × In n ns × (id ≡ own_id e.state n))
numbers_released e [] id i = inl i
numbers_released e (n ∷ ns) id i = at (numbers_released (message_released e n) ns id i)
  where
    same : (a b : MessageId) → line.Released a ≡ line.Released b → b ≡ a
    same a b f = cc

    here : In (line.Released id) e.lines ⊎ In (line.Released id) (line.Released (own_id e.state n) ∷ []) → In (line.Released id) e.lines ⊎ ((k : ℕ) × In k (n ∷ ns) × (id ≡ own_id e.state k))
    here (inl j) = inl j
    here (inr (inl f)) = inr (n, inl refl, same (own_id e.state n) id f)
    here (inr (inr none)) = absurd none

    at : In (line.Released id) (e.lines ++ line.Released (own_id e.state n) ∷ []) ⊎ ((k : ℕ) × In k ns × (id ≡ own_id e.state k)) → In (line.Released id) e.lines ⊎ ((k : ℕ) × In k (n ∷ ns) × (id ≡ own_id e.state k))
    at (inl j) = here (in_either e.lines (line.Released (own_id e.state n) ∷ []) (line.Released id) j)
    at (inr (k, j, f)) = inr (k, inr j, f)

none_released : (s : State) (r : Record) (id : MessageId) → Adds (begun s) (effect_of s r) → In (line.Released id) (lines_of s r) → IsRelease s r id
none_released s r id a i = absurd (not_released id a.more a.others (subst (In (line.Released id)) a.lines i))

plain_unreleased : (s : State) (m : Message) (id : MessageId) → In (line.Released id) (plain_lines s m) → ⊥
plain_unreleased s m id i = at (is_here (resolved s m.destination)) i
  where
    at : (b : Bool) → In (line.Released id) (cond b (line.Local m.id ∷ []) []) → ⊥
    at true (inl f) = let none : ⊥ = cc in none
    at true (inr none) = none
    at false none = none

pub line_releases : (s : State) (r : Record) (id : MessageId) → In (line.Released id) (lines_of s r) → IsRelease s r id
line_releases s (entry.Commit now ops) id i = none_released s (entry.Commit now ops) id (record { more = a.more; lines = a.lines; others = a.others }) i
  where
    a : Adds (sends_numbered s ops) (commit_effect s now ops)
    a = adds_then (sends_numbered s ops) (takes_made s now ops) (commit_effect s now ops) (ops_add now (sends_numbered s ops) ops) (sends_add now (takes_made s now ops) (sends_of ops))
line_releases s (entry.Plain now p) id i = absurd (plain_unreleased s p.message id i)
line_releases s (entry.Arrived now numbers part) id i = at (in_either (releases_made s numbers).lines a.more (line.Released id) (subst (In (line.Released id)) a.lines i))
  where
    a : Adds (releases_made s numbers) (part_made now (releases_made s numbers) part)
    a = part_adds now (releases_made s numbers) part

    number : In (line.Released id) [] ⊎ ((n : ℕ) × In n numbers × (id ≡ own_id s n)) → IsRelease s (entry.Arrived now numbers part) id
    number (inl none) = absurd none
    number (inr (n, j, f)) = record { now = now; numbers = numbers; part = part; number = n; arrived = refl; there = j; named = f }

    at : In (line.Released id) (releases_made s numbers).lines ⊎ In (line.Released id) a.more → IsRelease s (entry.Arrived now numbers part) id
    at (inl j) = number (numbers_released (begun s) numbers id j)
    at (inr j) = absurd (not_released id a.more a.others j)
line_releases s (entry.Taken now at id2) id i = none_released s (entry.Taken now at id2) id (taken_adds at id2 now (begun s)) i
line_releases s (entry.Purged now at) id i = none_released s (entry.Purged now at) id (purged_adds lane.Durable at now (begun s)) i
line_releases s (entry.Ticked now) id i = none_released s (entry.Ticked now) id
    (adds_then (begun s) (rows_expired now (begun s)) (lane_ticked lane.Durable now (rows_expired now (begun s))) (expiring_adds now (begun s)) (ticked_adds lane.Durable now (rows_expired now (begun s)))) i
line_releases s r id i = absurd i

-- The lines of records.

-- a line among those of records is one of a record, behind those of the records before
pub record IsLineOf (ws : List Written) (before : List Line) (l : Line) : Type 0 where
  pub front : List Written
  pub written : Written
  pub back : List Written
  pub inner : List Line
  pub split : ws ≡ front ++ written ∷ back
  pub told : In l (lines_of written.before written.entry)
  pub lines : before ≡ lines_written front ++ inner

append_split : (xs ys before behind : List Line) (l : Line) → xs ++ ys ≡ before ++ l ∷ behind → In l xs ⊎ ((more : List Line) × (before ≡ xs ++ more) × (ys ≡ more ++ l ∷ behind))
append_split [] ys before behind l e = inr (before, refl, e)
append_split (x ∷ xs) ys [] behind l e = inl (inl (head x l (xs ++ ys) behind e))
  where
    head : (a b : Line) (us vs : List Line) → (a ∷ us) ≡ (b ∷ vs) → a ≡ b
    head a b us vs f = cc
append_split (x ∷ xs) ys (b ∷ bs) behind l e = at (append_split xs ys bs behind l (tail x b (xs ++ ys) (bs ++ l ∷ behind) e))
  where
    tail : (a c : Line) (us vs : List Line) → (a ∷ us) ≡ (c ∷ vs) → us ≡ vs
    tail a c us vs f = cc

    head : (a c : Line) (us vs : List Line) → (a ∷ us) ≡ (c ∷ vs) → c ≡ a
    head a c us vs f = cc

    at : In l xs ⊎ ((more : List Line) × (bs ≡ xs ++ more) × (ys ≡ more ++ l ∷ behind)) → In l (x ∷ xs) ⊎ ((more : List Line) × ((b ∷ bs) ≡ x ∷ (xs ++ more)) × (ys ≡ more ++ l ∷ behind))
    at (inl i) = inl (inr i)
    at (inr (more, f, g)) = inr (more, ap (λ z. z ∷ bs) (head x b (xs ++ ys) (bs ++ l ∷ behind) e) ∙ ap (λ zs. x ∷ zs) f, g)

pub line_of : (ws : List Written) (before behind : List Line) (l : Line) → lines_written ws ≡ before ++ l ∷ behind → IsLineOf ws before l
line_of [] [] behind l e = absurd (let none : ⊥ = cc in none)
line_of [] (b ∷ bs) behind l e = absurd (let none : ⊥ = cc in none)
line_of (w ∷ ws) before behind l e = at (λ bs f. line_of ws bs behind l f) (append_split (lines_of w.before w.entry) (lines_written ws) before behind l e)
  where
    at : ((bs : List Line) → lines_written ws ≡ bs ++ l ∷ behind → IsLineOf ws bs l)
        → In l (lines_of w.before w.entry) ⊎ ((more : List Line) × (before ≡ lines_of w.before w.entry ++ more) × (lines_written ws ≡ more ++ l ∷ behind)) → IsLineOf (w ∷ ws) before l
    at rest (inl i) = record { front = []; written = w; back = ws; inner = before; split = refl; told = i; lines = refl }
    at rest (inr (more, f, g)) = let h = rest more g in record {
      front = w ∷ h.front;
      written = h.written;
      back = h.back;
      inner = h.inner;
      split = ap (λ zs. w ∷ zs) h.split;
      told = h.told;
      lines = f ∙ ap (λ zs. lines_of w.before w.entry ++ zs) h.lines ∙ sym (append_assoc (lines_of w.before w.entry) (lines_written h.front) h.inner);
    }

in_right : (xs ys : List Line) (l : Line) → In l ys → In l (xs ++ ys)
in_right [] ys l i = i
in_right (x ∷ xs) ys l i = inr (in_right xs ys l i)

in_left : (xs ys : List Line) (l : Line) → In l xs → In l (xs ++ ys)
in_left [] ys l i = absurd i
in_left (x ∷ xs) ys l (inl e) = inl e
in_left (x ∷ xs) ys l (inr i) = inr (in_left xs ys l i)

told_in : (ws : List Written) (w : Written) (l : Line) → In w ws → In l (lines_of w.before w.entry) → In l (lines_written ws)
told_in [] w l i j = absurd i
told_in (v ∷ ws) w l (inl e) j = in_left (lines_of v.before v.entry) (lines_written ws) l (subst (λ (x : Written). In l (lines_of x.before x.entry)) (sym e) j)
told_in (v ∷ ws) w l (inr i) j = in_right (lines_of v.before v.entry) (lines_written ws) l (told_in ws w l i j)

-- So the lines are in order where the records are.
pub lines_kept : (c : Course) → AreReleasedTruly c → IsStorageKept c
lines_kept c h before behind id e = let at = line_of c.written before behind (line.Released id) e in let r = line_releases at.written.before at.written.entry id at.told in
    let stored = subst (IsStoredIn at.front) (sym r.named) (h at.front at.back at.written r.now r.numbers r.part r.number at.split r.arrived r.there).stored in
    (stored.told.0, subst (In stored.told.0) (sym at.lines) (in_left (lines_written at.front) at.inner stored.told.0 (told_in at.front stored.storage stored.told.0 stored.there stored.told.1)), stored.told.2)
