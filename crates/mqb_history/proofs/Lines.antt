-- Which lines records add: all but those of commitments, of messages that expire and of decisions tell of no stream.
use Rattle.std.proofs.Common.{refl, ap, sym, ◌∙◌}
use Rattle.std.proofs.lemmas.List.{append_assoc}
use Rattle.std.specs.List.{AllByRecursion, cons_option}
use Rattle.std.specs.Option.{option_map_or}
use Rattle.std.specs.Prelude.{[], ◌+◌, ◌++◌, ◌∷◌, ◌≡◌, Bool, List, None, Option, Some, cond, false, filter_map, fold, length, slice_get, suc, true, zero, ℕ}
use Rattle.mqb_base.specs.declared.ids.MessageId.{MessageId}
use Rattle.mqb_base.specs.declared.ledger.Line.{Line}
use Rattle.mqb_base.specs.declared.ledger.Line.TheVariants as line
use Rattle.mqb_base.specs.declared.message.Lane.{Lane}
use Rattle.mqb_base.specs.declared.message.Lane.TheVariants as lane
use Rattle.mqb_base.specs.declared.message.Message.{Message}
use Rattle.mqb_base.specs.declared.queues.EntryPlace.{EntryPlace}
use Rattle.mqb_base.specs.declared.queues.EntryPlace.TheVariants as place
use Rattle.mqb_exactly_once.specs.World.{Channel}
use Rattle.mqb_model.specs.Loops.{for_each_below, repeated}
use Rattle.mqb_model.specs.records.Commit.{op_taken}
use Rattle.mqb_model.specs.records.Record.{RecordOp}
use Rattle.mqb_model.specs.records.Record as entry
use Rattle.mqb_model.specs.records.Releases.{message_released}
use Rattle.mqb_model.specs.records.Applying.{effect_of, lines_of}
use Rattle.mqb_model.specs.rules.Effects.{Effect, begun, joined}
use Rattle.mqb_model.specs.state.State.{State}
use Rattle.mqb_base.specs.declared.ledger.Stream.{Stream}
use Rattle.mqb_model.specs.rules.Purges.{count_at, message_purged, oldest_purged, purge_line, purged}
use Rattle.mqb_model.specs.rules.Takes.{message_at, message_taken, take_line, taken, taken_at}
use Rattle.mqb_model.specs.rules.Timeouts.{expiring, expiring_in, lane_ticked, lapsing, lapsing_in, message_expired, message_lapsed, message_swept, next_expired, next_lapsed, next_swept, peer_lapsed, queue_swept, row_expired, rows_expired, sweeping, sweeping_in}
use Rattle.mqb_model.specs.state.Rows.{stream_of}
use Rattle.mqb_model.specs.rules.Numbers.{own_id}
use Rattle.mqb_orders.specs.Rows.{Row}
use Rattle.mqb_plain.specs.Plain.{PlainLists, outgoing_in}
use Rattle.mqb_plain.specs.declared.outgoing.Outgoing.{Outgoing}
use Rattle.mqb_queue.specs.First.{index_named, is_queue}
use Rattle.mqb_queue.specs.Lists.{messages_in}
use Rattle.mqb_queue.specs.Places.{Queue}
use Rattle.mqb_history.specs.Told.{commitment_told, decision_told}
use Rattle.mqb_history.proofs.Lists.{all_append, append_nothing}

-- a line tells of no stream
abbrev pub IsOther : Line → Type 0
IsOther (line.Committed stream number id) = ⊥
IsOther (line.Expired stream number id moment) = ⊥
IsOther (line.Put stream number id) = ⊥
IsOther (line.Refused stream number class id) = ⊥
IsOther _ = Unit {0}

-- an effect adds such lines to another's
pub record Adds (e f : Effect) : Type 0 where
  pub more : List Line
  pub lines : f.lines ≡ e.lines ++ more
  pub others : AllByRecursion IsOther more

pub adds_none : (e : Effect) → Adds e e
adds_none e = record { more = []; lines = sym (append_nothing e.lines); others = tt }

pub adds_then : (e f g : Effect) → Adds e f → Adds f g → Adds e g
adds_then e f g a b = record {
  more = a.more ++ b.more;
  lines = b.lines ∙ ap (λ ls. ls ++ b.more) a.lines ∙ append_assoc e.lines a.more b.more;
  others = all_append IsOther a.more b.more a.others b.others;
}

adds_or : {X : Type 0} (e : Effect) (f : X → Effect) (o : Option X) → ((x : X) → Adds e (f x)) → Adds e (option_map_or f o e)
adds_or e f None some = adds_none e
adds_or e f (Some x) some = some x

-- one line
adds_one : (e next : Effect) (l : Line) → next.lines ≡ l ∷ [] → IsOther l → Adds e (joined e next)
adds_one e next l one other = record { more = l ∷ []; lines = ap (λ ls. e.lines ++ ls) one; others = (other, tt) }

other_either : (b : Bool) (x y : Line) → IsOther x → IsOther y → IsOther (cond b x y)
other_either true x y left right = left
other_either false x y left right = right

take_other : (at : EntryPlace) (m : Message) → IsOther (take_line at m)
take_other at m = other_either (is_queue at) (line.Took m.id) (line.Emptied m.id) tt tt

purge_other : (at : EntryPlace) (m : Message) → IsOther (purge_line at m)
purge_other at m = other_either (is_queue at) (line.Purged m.id) (line.Emptied m.id) tt tt

pub taken_adds : (at : EntryPlace) (id : MessageId) (now : ℕ) (e : Effect) → Adds e (taken at id now e)
taken_adds at id now e = adds_or e (λ k. taken_at lane.Durable at k now e) (index_named e.state.places at id now)
    (λ k. adds_or e (λ m. joined e (message_taken lane.Durable at k now e.state m)) (message_at lane.Durable e.state at k)
    (λ m. adds_one e (message_taken lane.Durable at k now e.state m) (take_line at m) refl (take_other at m)))

repeated_adds : (step : Effect → Effect) → ((e : Effect) → Adds e (step e)) → (n : ℕ) (e : Effect) → Adds e (repeated n step e)
repeated_adds step keeps zero e = adds_none e
repeated_adds step keeps (suc n) e = adds_then e (repeated n step e) (step (repeated n step e)) (repeated_adds step keeps n e) (keeps (repeated n step e))

each_adds : (step : ℕ → Effect → Effect) → ((k : ℕ) (e : Effect) → Adds e (step k e)) → (n : ℕ) (e : Effect) → Adds e (for_each_below n step e)
each_adds step keeps zero e = adds_none e
each_adds step keeps (suc n) e = adds_then e (for_each_below n step e) (step n (for_each_below n step e)) (each_adds step keeps n e) (keeps n (for_each_below n step e))

oldest_adds : (kind : Lane) (at : EntryPlace) (now : ℕ) (e : Effect) → Adds e (oldest_purged kind at now e)
oldest_adds kind at now e = adds_or e (λ m. joined e (message_purged kind at now e.state m)) (message_at kind e.state at 0)
    (λ m. adds_one e (message_purged kind at now e.state m) (purge_line at m) refl (purge_other at m))

pub purged_adds : (kind : Lane) (at : EntryPlace) (now : ℕ) (e : Effect) → Adds e (purged kind at now e)
purged_adds kind at now e = repeated_adds (oldest_purged kind at now) (oldest_adds kind at now) (count_at kind e.state at) e

lapsed_adds : (kind : Lane) (now k : ℕ) (e : Effect) → Adds e (next_lapsed kind now k e)
lapsed_adds kind now k e = adds_or e (λ (p : PlainLists). option_map_or (λ index.
    option_map_or (λ (o : Outgoing). joined e (message_lapsed kind now k index e.state o.message)) (slice_get (outgoing_in kind p) index) e)
    (lapsing kind now p) e) (slice_get e.state.plain k)
    (λ p. adds_or e (λ index. option_map_or (λ (o : Outgoing). joined e (message_lapsed kind now k index e.state o.message)) (slice_get (outgoing_in kind p) index) e) (lapsing kind now p)
    (λ index. adds_or e (λ (o : Outgoing). joined e (message_lapsed kind now k index e.state o.message)) (slice_get (outgoing_in kind p) index)
    (λ o. adds_one e (message_lapsed kind now k index e.state o.message) (line.Lapsed o.message.id) refl tt)))

swept_adds : (kind : Lane) (now k : ℕ) (e : Effect) → Adds e (next_swept kind now k e)
swept_adds kind now k e = adds_or e (λ (q : Queue). option_map_or (λ index.
    option_map_or (λ m. joined e (message_swept kind now (k + 1) index e.state m)) (slice_get (messages_in kind q.lists) index) e)
    (sweeping kind now q) e) (slice_get e.state.places.queues k)
    (λ q. adds_or e (λ index. option_map_or (λ m. joined e (message_swept kind now (k + 1) index e.state m)) (slice_get (messages_in kind q.lists) index) e) (sweeping kind now q)
    (λ index. adds_or e (λ m. joined e (message_swept kind now (k + 1) index e.state m)) (slice_get (messages_in kind q.lists) index)
    (λ m. adds_one e (message_swept kind now (k + 1) index e.state m) (line.Swept m.id) refl tt)))

pub ticked_adds : (kind : Lane) (now : ℕ) (e : Effect) → Adds e (lane_ticked kind now e)
ticked_adds kind now e = let lapsed = for_each_below (length e.state.plain) (peer_lapsed kind now) e in
    adds_then e lapsed (lane_ticked kind now e)
    (each_adds (peer_lapsed kind now) (λ k f. repeated_adds (next_lapsed kind now k) (lapsed_adds kind now k) (option_map_or (lapsing_in kind now) (slice_get f.state.plain k) 0) f) (length e.state.plain) e)
    (each_adds (queue_swept kind now) (λ k f. repeated_adds (next_swept kind now k) (swept_adds kind now k) (option_map_or (sweeping_in kind now) (slice_get f.state.places.queues k) 0) f)
    (length e.state.places.queues) lapsed)

pub releases_add : (e : Effect) (numbers : List ℕ) → Adds e (fold message_released e numbers)
releases_add e [] = adds_none e
releases_add e (n ∷ ns) = adds_then e (message_released e n) (fold message_released (message_released e n) ns)
    (record { more = line.Released (own_id e.state n) ∷ []; lines = refl; others = (tt, tt) }) (releases_add (message_released e n) ns)

pub ops_add : (now : ℕ) (e : Effect) (ops : List RecordOp) → Adds e (fold (op_taken now) e ops)
ops_add now e [] = adds_none e
ops_add now e (entry.Send p ∷ ops) = ops_add now e ops
ops_add now e (entry.Take queue id ∷ ops) = adds_then e (taken (place.Queue queue) id now e) (fold (op_taken now) (taken (place.Queue queue) id now e) ops)
    (taken_adds (place.Queue queue) id now e) (ops_add now (taken (place.Queue queue) id now e) ops)

-- What such lines tell.

pub other_undecided : (channel : Channel) (l : Line) → IsOther l → decision_told channel l ≡ None
other_undecided channel (line.Committed stream number id) h = absurd h
other_undecided channel (line.Put stream number id) h = absurd h
other_undecided channel (line.Refused stream number class id) h = absurd h
other_undecided channel (line.Expired stream number id moment) h = absurd h
other_undecided channel l h = refl

pub other_uncommitted : (l : Line) → IsOther l → commitment_told l ≡ None
other_uncommitted (line.Committed stream number id) h = absurd h
other_uncommitted (line.Put stream number id) h = absurd h
other_uncommitted (line.Refused stream number class id) h = absurd h
other_uncommitted (line.Expired stream number id moment) h = absurd h
other_uncommitted l h = refl

-- lines that tell nothing by a word
pub told_nothing : {X : Type 0} (tells : Line → Option X) → ((l : Line) → IsOther l → tells l ≡ None) → (ls : List Line) → AllByRecursion IsOther ls → filter_map tells ls ≡ []
told_nothing tells quiet [] h = refl
told_nothing tells quiet (l ∷ ls) h = ap (λ o. cons_option o (filter_map tells ls)) (quiet l h.0) ∙ told_nothing tells quiet ls h.1

pub told_append : {X : Type 0} (tells : Line → Option X) (xs ys : List Line) → filter_map tells (xs ++ ys) ≡ filter_map tells xs ++ filter_map tells ys
told_append tells [] ys = refl
told_append tells (x ∷ xs) ys = at (tells x) (told_append tells xs ys)
  where
    at : (o : Option _) → filter_map tells (xs ++ ys) ≡ filter_map tells xs ++ filter_map tells ys
        → cons_option o (filter_map tells (xs ++ ys)) ≡ cons_option o (filter_map tells xs) ++ filter_map tells ys
    at None rest = rest
    at (Some y) rest = ap (λ zs. y ∷ zs) rest

-- an effect that adds such lines tells what it told
pub told_same : {X : Type 0} (tells : Line → Option X) → ((l : Line) → IsOther l → tells l ≡ None) → (e f : Effect) → Adds e f → filter_map tells f.lines ≡ filter_map tells e.lines
told_same tells quiet e f a = ap (filter_map tells) a.lines ∙ told_append tells e.lines a.more
    ∙ ap (λ zs. filter_map tells e.lines ++ zs) (told_nothing tells quiet a.more a.others) ∙ append_nothing (filter_map tells e.lines)

-- messages that expire change nothing that a word tells which says nothing of them
expiring_tells : {X : Type 0} (tells : Line → Option X) → ((stream : Stream) (number : ℕ) (id : MessageId) (moment : ℕ) → tells (line.Expired stream number id moment) ≡ None)
    → (now : ℕ) (e : Effect) → filter_map tells (rows_expired now e).lines ≡ filter_map tells e.lines
expiring_tells {X} tells quiet now e = rows (length e.state.outs) e
  where
    or : {Y : Type 0} (e : Effect) (f : Y → Effect) (o : Option Y) → ((y : Y) → filter_map tells (f y).lines ≡ filter_map tells e.lines)
        → filter_map tells (option_map_or f o e).lines ≡ filter_map tells e.lines
    or e f None same = refl
    or e f (Some y) same = same y

    one : (k : ℕ) (e : Effect) → filter_map tells (next_expired now k e).lines ≡ filter_map tells e.lines
    one k e = or e (λ (row : Row). option_map_or (λ kept. joined e (message_expired now k e.state row kept)) (expiring now row) e) (slice_get e.state.outs k)
        (λ row. or e (λ kept. joined e (message_expired now k e.state row kept)) (expiring now row)
        (λ kept. told_append tells e.lines (line.Expired (stream_of e.state row) kept.number kept.message.id now ∷ [])
        ∙ ap (λ o. filter_map tells e.lines ++ cons_option o []) (quiet (stream_of e.state row) kept.number kept.message.id now)
        ∙ append_nothing (filter_map tells e.lines)))

    times : (k n : ℕ) (e : Effect) → filter_map tells (repeated n (next_expired now k) e).lines ≡ filter_map tells e.lines
    times k zero e = refl
    times k (suc n) e = one k (repeated n (next_expired now k) e) ∙ times k n e

    rows : (n : ℕ) (e : Effect) → filter_map tells (for_each_below n (row_expired now) e).lines ≡ filter_map tells e.lines
    rows zero e = refl
    rows (suc n) e = let f = for_each_below n (row_expired now) e in times n (option_map_or (expiring_in now) (slice_get f.state.outs n) 0) f ∙ rows n e

-- a tick tells nothing by such a word
pub ticking_tells : {X : Type 0} (tells : Line → Option X) → ((l : Line) → IsOther l → tells l ≡ None)
    → ((stream : Stream) (number : ℕ) (id : MessageId) (moment : ℕ) → tells (line.Expired stream number id moment) ≡ None)
    → (s : State) (now : ℕ) → filter_map tells (lines_of s (entry.Ticked now)) ≡ []
ticking_tells tells other quiet s now = told_same tells other (rows_expired now (begun s)) (effect_of s (entry.Ticked now)) (ticked_adds lane.Durable now (rows_expired now (begun s)))
    ∙ expiring_tells tells quiet now (begun s)
