-- Outgoing rows: but for a transaction a record adds none, and each keeps its sequence and its count, and no message that it had not kept. Its mark does not fall.
use Rattle.std.proofs.Common.{refl, sym, subst, ◌∙◌, arith, inl, inr}
use Rattle.std.specs.List.{AllByRecursion}
use Rattle.std.specs.Option.{option_map_or}
use Rattle.std.specs.Prelude.{[], ◌<◌, ◌||◌, ◌∷◌, ◌≡◌, ◌≤◌, Bool, List, None, Option, Some, cond, false, filter, fold, length, max, nat_lt, option_and_then, position, remove, slice_get, slice_set, suc, true, zero, ℕ}
use Rattle.mqb_base.specs.declared.class.TheConstants.Class.{REACH_TIMEOUT}
use Rattle.mqb_base.specs.declared.message.Lane.TheVariants as lane
use Rattle.mqb_base.specs.declared.message.Message.{Message}
use Rattle.mqb_entries.specs.declared.members.Mark.{Mark}
use Rattle.mqb_exactly_once.specs.Words.{In}
use Rattle.mqb_model.specs.Lists.{with_changed, with_first_changed, without_first}
use Rattle.mqb_model.specs.Loops.{for_each_below, repeated}
use Rattle.mqb_model.specs.records.Applying.{apply}
use Rattle.mqb_model.specs.records.Arrived.{part_made}
use Rattle.mqb_model.specs.records.Decisions.{message_decided, with_decided}
use Rattle.mqb_model.specs.records.Finals.{dead_for, final_stored, finished_at, finished_by, finished_row, index_finished, kept_named, with_finished}
use Rattle.mqb_model.specs.records.Offered.{mark_raised, with_offered}
use Rattle.mqb_model.specs.records.Record.{Part, Record}
use Rattle.mqb_model.specs.records.Record as entry
use Rattle.mqb_model.specs.records.Releases.{releases_made}
use Rattle.mqb_model.specs.rules.Arrivals.{refusal_of, storing_refusal}
use Rattle.mqb_model.specs.rules.Effects.{Effect, begun, joined}
use Rattle.mqb_model.specs.rules.Numbers.{numbers_taken}
use Rattle.mqb_model.specs.rules.Timeouts.{expires, expiring, expiring_in, message_expired, next_expired, row_expired, rows_expired, with_expired, without_expired}
use Rattle.mqb_model.specs.state.Resolving.{peer_known}
use Rattle.mqb_model.specs.state.Rows.{has_ordinal}
use Rattle.mqb_model.specs.state.State.{State}
use Rattle.mqb_orders.specs.Rows.{Row, acknowledged}
use Rattle.mqb_orders.specs.declared.kept.Kept.{Kept}
use Rattle.mqb_packet.specs.declared.packet.UserPacket.{UserPacket}
use Rattle.mqb_base.specs.declared.ids.MessageId.{MessageId}
use Rattle.mqb_base.specs.declared.heads.TxHead.{TxHead}
use Rattle.mqb_base.specs.Bits.{keeps_dead}
use Rattle.mqb_model.specs.rules.Notices.{meets}
use Rattle.mqb_model.specs.records.Finals.{is_offered_as}
use Rattle.mqb_history.proofs.Lists.{all_filter, equal_numbers, some_is}
use Rattle.mqb_history.proofs.Marking.{IsAbove, Raise, raise_then}
use Rattle.mqb_history.proofs.Committing.{first_changed, is_first_changed}
use Rattle.mqb_history.proofs.Applying.{dead_rows, releases_rows}
use Rattle.mqb_history.proofs.Staying.{HasSameRows, arrived_rows, meets_rows, plain_sent_rows, purged_rows, taken_rows, ticked_rows}

-- numbers rise from one kept message to the next
abbrev pub KeptRise : List Kept → Type 0
KeptRise [] = Unit {0}
KeptRise (k ∷ ks) = AllByRecursion (λ (x : Kept). k.number < x.number) ks × KeptRise ks

-- a row has no more than before
pub record HasNoMore (a b : Row) : Type 0 where
  pub peer : b.peer ≡ a.peer
  pub destination : b.destination ≡ a.destination
  pub sequence : b.sequence ≡ a.sequence
  pub committed : b.committed ≡ a.committed
  pub kept : (k : Kept) → In k b.kept → In k a.kept
  pub rises : KeptRise a.kept → KeptRise b.kept
  -- and was offered no less
  pub offered : a.offered ≤ b.offered

pub no_more : (a : Row) → HasNoMore a a
no_more a = record { peer = refl; destination = refl; sequence = refl; committed = refl; kept = λ k h. h; rises = λ h. h; offered = omega arith }

no_more_then : (a b c : Row) → HasNoMore a b → HasNoMore b c → HasNoMore a c
no_more_then a b c f g = record {
  peer = g.peer ∙ f.peer;
  destination = g.destination ∙ f.destination;
  sequence = g.sequence ∙ f.sequence;
  committed = g.committed ∙ f.committed;
  kept = λ k h. f.kept k (g.kept k h);
  rises = λ h. g.rises (f.rises h);
  offered = let low = f.offered in let high = g.offered in omega (arith, low, high);
}

-- nor have rows, one by one
abbrev pub HaveNoMore : List Row → List Row → Type 0
HaveNoMore [] [] = Unit {0}
HaveNoMore [] (b ∷ news) = ⊥
HaveNoMore (a ∷ olds) [] = ⊥
HaveNoMore (a ∷ olds) (b ∷ news) = HasNoMore a b × HaveNoMore olds news

pub have_no_more : (olds : List Row) → HaveNoMore olds olds
have_no_more [] = tt
have_no_more (a ∷ olds) = (no_more a, have_no_more olds)

have_then : (olds news cs : List Row) → HaveNoMore olds news → HaveNoMore news cs → HaveNoMore olds cs
have_then [] [] [] f g = tt
have_then [] [] (c ∷ cs) f g = absurd g
have_then [] (b ∷ news) cs f g = absurd f
have_then (a ∷ olds) [] cs f g = absurd f
have_then (a ∷ olds) (b ∷ news) [] f g = absurd g
have_then (a ∷ olds) (b ∷ news) (c ∷ cs) f g = (no_more_then a b c f.0 g.0, have_then olds news cs f.1 g.1)

-- a state has no more, gives no ordinal, and gives no number back
pub record NoMore (a b : State) : Type 0 where
  pub outs : HaveNoMore a.outs b.outs
  pub next_ordinal : b.next_ordinal ≡ a.next_ordinal
  pub numbers : a.next_number ≤ b.next_number

pub nothing_more : (s : State) → NoMore s s
nothing_more s = record { outs = have_no_more s.outs; next_ordinal = refl; numbers = omega arith }

pub more_then : (a b c : State) → NoMore a b → NoMore b c → NoMore a c
more_then a b c f g = record {
  outs = have_then a.outs b.outs c.outs f.outs g.outs;
  next_ordinal = g.next_ordinal ∙ f.next_ordinal;
  numbers = let low = f.numbers in let high = g.numbers in omega (arith, low, high);
}

pub from_same : (a b : State) → HasSameRows a b → NoMore a b
from_same a b e = record { outs = subst (HaveNoMore a.outs) (sym e.outs) (have_no_more a.outs); next_ordinal = e.next_ordinal; numbers = e.numbers }

no_more_or : {X : Type 0} (s : State) (f : X → State) (o : Option X) → ((x : X) → NoMore s (f x)) → NoMore s (option_map_or f o s)
no_more_or s f None some = nothing_more s
no_more_or s f (Some x) some = some x

effect_or : {X : Type 0} (e : Effect) (f : X → Effect) (o : Option X) → ((x : X) → NoMore e.state (f x).state) → NoMore e.state (option_map_or f o e).state
effect_or e f None some = nothing_more e.state
effect_or e f (Some x) some = some x

-- One row changes.

set_no_more : (olds : List Row) (k : ℕ) (a b : Row) → slice_get olds k ≡ Some a → HasNoMore a b → HaveNoMore olds (slice_set olds k b)
set_no_more [] k a b e h = tt
set_no_more (x ∷ xs) zero a b e h = (subst (λ y. HasNoMore y b) (sym (some_is x a e)) h, have_no_more xs)
set_no_more (x ∷ xs) (suc k) a b e h = (no_more x, set_no_more xs k a b e h)

changed_no_more : (change : Row → Row) (olds : List Row) (k : ℕ) → ((a : Row) → HasNoMore a (change a)) → HaveNoMore olds (with_changed change olds k)
changed_no_more change olds k h = at (slice_get olds k) refl
  where
    at : (o : Option Row) → slice_get olds k ≡ o → HaveNoMore olds (option_map_or (λ x. slice_set olds k (change x)) o olds)
    at None e = have_no_more olds
    at (Some a) e = set_no_more olds k a (change a) e (h a)

first_no_more : (change : Row → Row) (passes : Row → Bool) (olds : List Row) → ((a : Row) → HasNoMore a (change a)) → HaveNoMore olds (with_first_changed change passes olds)
first_no_more change passes olds h = at (position passes olds)
  where
    at : (o : Option ℕ) → HaveNoMore olds (option_map_or (with_changed change olds) o olds)
    at None = have_no_more olds
    at (Some k) = changed_no_more change olds k h

pub filtered_in : {X : Type 0} (test : X → Bool) (xs : List X) (x : X) → In x (filter test xs) → In x xs
filtered_in test [] x h = h
filtered_in test (y ∷ ys) x h = at (test y) h (filtered_in test ys x)
  where
    at : (b : Bool) → In x (cond b (y ∷ filter test ys) (filter test ys)) → (In x (filter test ys) → In x ys) → In x (y ∷ ys)
    at true (inl e) rest = inl e
    at true (inr h) rest = inr (rest h)
    at false h rest = inr (rest h)

removed_in : {X : Type 0} (xs : List X) (k : ℕ) (x : X) → In x (remove xs k) → In x xs
removed_in [] zero x h = h
removed_in [] (suc k) x h = h
removed_in (y ∷ ys) zero x h = inr h
removed_in (y ∷ ys) (suc k) x (inl e) = inl e
removed_in (y ∷ ys) (suc k) x (inr h) = inr (removed_in ys k x h)

pub without_in : {X : Type 0} (test : X → Bool) (xs : List X) (x : X) → In x (without_first test xs) → In x xs
without_in test xs x h = at (position test xs) h
  where
    at : (o : Option ℕ) → In x (option_map_or (remove xs) o xs) → In x xs
    at None h = h
    at (Some k) h = removed_in xs k x h

-- where some leave, the others rise
rise_filter : (test : Kept → Bool) (ks : List Kept) → KeptRise ks → KeptRise (filter test ks)
rise_filter test [] h = tt
rise_filter test (k ∷ ks) h = at (test k) (rise_filter test ks h.1)
  where
    at : (b : Bool) → KeptRise (filter test ks) → KeptRise (cond b (k ∷ filter test ks) (filter test ks))
    at true rest = (all_filter (λ (x : Kept). k.number < x.number) test ks h.0, rest)
    at false rest = rest

all_removed : (P : Kept → Type 0) (ks : List Kept) (i : ℕ) → AllByRecursion P ks → AllByRecursion P (remove ks i)
all_removed P [] zero h = tt
all_removed P [] (suc i) h = tt
all_removed P (k ∷ ks) zero h = h.1
all_removed P (k ∷ ks) (suc i) h = (h.0, all_removed P ks i h.1)

rise_removed : (ks : List Kept) (i : ℕ) → KeptRise ks → KeptRise (remove ks i)
rise_removed [] zero h = tt
rise_removed [] (suc i) h = tt
rise_removed (k ∷ ks) zero h = h.1
rise_removed (k ∷ ks) (suc i) h = (all_removed (λ (x : Kept). k.number < x.number) ks i h.0, rise_removed ks i h.1)

pub rise_without : (test : Kept → Bool) (ks : List Kept) → KeptRise ks → KeptRise (without_first test ks)
rise_without test ks h = at (position test ks)
  where
    at : (o : Option ℕ) → KeptRise (option_map_or (remove ks) o ks)
    at None = h
    at (Some i) = rise_removed ks i h

acknowledged_no_more : (number : ℕ) (a : Row) → HasNoMore a (acknowledged number a)
acknowledged_no_more number a = record { peer = refl; destination = refl; sequence = refl; committed = refl; kept = λ k h. filtered_in (λ (x : Kept). nat_lt (max a.acked number) x.number || keeps_dead x.message) a.kept k h; rises = rise_filter (λ (x : Kept). nat_lt (max a.acked number) x.number || keeps_dead x.message) a.kept; offered = omega arith }

offered_no_more : (number : ℕ) (a : Row) → a.offered ≤ number → HasNoMore a (with_offered number a)
offered_no_more number a above = record { peer = refl; destination = refl; sequence = refl; committed = refl; kept = λ k h. h; rises = λ h. h; offered = above }

expired_no_more : (now : ℕ) (a : Row) → HasNoMore a (without_expired now a)
expired_no_more now a = record { peer = refl; destination = refl; sequence = refl; committed = refl; kept = λ k h. without_in (expires now a) a.kept k h; rises = rise_without (expires now a) a.kept; offered = omega arith }

finished_no_more : (id : MessageId) (number : ℕ) (a : Row) → HasNoMore a (finished_row id number a)
finished_no_more id number a = record {
  peer = refl;
  destination = refl;
  sequence = refl;
  committed = refl;
  kept = λ k h. without_in (is_offered_as id a) a.kept k (filtered_in (λ (x : Kept). nat_lt (max a.acked number) x.number || keeps_dead x.message) (without_first (is_offered_as id a) a.kept) k h);
  rises = λ h. rise_filter (λ (x : Kept). nat_lt (max a.acked number) x.number || keeps_dead x.message) (without_first (is_offered_as id a) a.kept) (rise_without (is_offered_as id a) a.kept h);
  offered = omega arith;
}

-- Records.

pub raised_no_more : (mark : Mark) (olds : List Row) → IsAbove mark olds → HaveNoMore olds (first_changed (with_offered mark.number) (has_ordinal mark.ordinal) olds)
raised_no_more mark [] h = tt
raised_no_more mark (a ∷ olds) h = at (has_ordinal mark.ordinal a) refl (raised_no_more mark olds h.1)
  where
    at : (b : Bool) → has_ordinal mark.ordinal a ≡ b → HaveNoMore olds (first_changed (with_offered mark.number) (has_ordinal mark.ordinal) olds)
        → HaveNoMore (a ∷ olds) (cond b (with_offered mark.number a ∷ olds) (a ∷ first_changed (with_offered mark.number) (has_ordinal mark.ordinal) olds))
    at true e rest = (offered_no_more mark.number a (h.0 (equal_numbers a.sequence.ordinal mark.ordinal e)), have_no_more olds)
    at false e rest = (no_more a, rest)

pub marks_no_more : (s : State) (marks : List Mark) → Raise s.outs marks → NoMore s (fold mark_raised s marks)
marks_no_more s [] h = nothing_more s
marks_no_more s (mark ∷ marks) h = let same = sym (is_first_changed (with_offered mark.number) (has_ordinal mark.ordinal) s.outs) in
    more_then s (mark_raised s mark) (fold mark_raised (mark_raised s mark) marks)
    (record { outs = subst (HaveNoMore s.outs) same (raised_no_more mark s.outs h.0.0); next_ordinal = refl; numbers = omega arith })
    (marks_no_more (mark_raised s mark) marks (subst (λ rows. Raise rows marks) same (raise_then mark marks s.outs h.1.0 (h.0.1, h.1.1))))

finished_at_no_more : (s : State) (m : Message) (index : ℕ) → NoMore s (finished_at s m index)
finished_at_no_more s m index = no_more_or s (λ k. dead_for m.class (with_finished m.correlation s index k) k.message)
    (option_and_then (kept_named m.correlation) (slice_get s.outs index))
    (λ k. more_then s (with_finished m.correlation s index k) (dead_for m.class (with_finished m.correlation s index k) k.message)
    (record { outs = changed_no_more (finished_row m.correlation k.number) s.outs index (finished_no_more m.correlation k.number); next_ordinal = refl; numbers = omega arith })
    (from_same (with_finished m.correlation s index k) (dead_for m.class (with_finished m.correlation s index k) k.message)
    (dead_rows m.class (with_finished m.correlation s index k) k.message)))

final_no_more : (s : State) (m : Message) → NoMore s (final_stored s m).state
final_no_more s m = no_more_or s (λ peer. finished_by s peer m) (peer_known s m.id.qm)
    (λ peer. no_more_or s (finished_at s m) (index_finished s peer m) (finished_at_no_more s m))

pub next_no_more : (now k : ℕ) (e : Effect) → NoMore e.state (next_expired now k e).state
next_no_more now k e = effect_or e (λ (row : Row). option_map_or (λ kept. joined e (message_expired now k e.state row kept)) (expiring now row) e) (slice_get e.state.outs k)
    (λ row. effect_or e (λ kept. joined e (message_expired now k e.state row kept)) (expiring now row)
    (λ kept. more_then e.state (with_expired now e.state k) (meets (with_expired now e.state k) kept.message REACH_TIMEOUT now)
    (record { outs = changed_no_more (without_expired now) e.state.outs k (expired_no_more now); next_ordinal = refl; numbers = omega arith })
    (from_same (with_expired now e.state k) (meets (with_expired now e.state k) kept.message REACH_TIMEOUT now) (meets_rows (with_expired now e.state k) kept.message REACH_TIMEOUT now))))

repeated_no_more : (step : Effect → Effect) → ((e : Effect) → NoMore e.state (step e).state) → (n : ℕ) (e : Effect) → NoMore e.state (repeated n step e).state
repeated_no_more step keeps zero e = nothing_more e.state
repeated_no_more step keeps (suc n) e = more_then e.state (repeated n step e).state (step (repeated n step e)).state (repeated_no_more step keeps n e) (keeps (repeated n step e))

each_no_more : (step : ℕ → Effect → Effect) → ((k : ℕ) (e : Effect) → NoMore e.state (step k e).state) → (n : ℕ) (e : Effect) → NoMore e.state (for_each_below n step e).state
each_no_more step keeps zero e = nothing_more e.state
each_no_more step keeps (suc n) e = more_then e.state (for_each_below n step e).state (step n (for_each_below n step e)).state (each_no_more step keeps n e) (keeps n (for_each_below n step e))

pub expiring_no_more : (now : ℕ) (e : Effect) → NoMore e.state (rows_expired now e).state
expiring_no_more now e = each_no_more (row_expired now)
    (λ k e. repeated_no_more (next_expired now k) (next_no_more now k) (option_map_or (expiring_in now) (slice_get e.state.outs k) 0) e) (length e.state.outs) e

-- a record commits nothing
abbrev pub CommitsNothing : Record → Type 0
CommitsNothing (entry.Commit now ops) = ⊥
CommitsNothing _ = Unit {0}

decided_no_more : (now : ℕ) (s : State) (p : UserPacket) (tx : TxHead) → NoMore s (message_decided now s p tx).state
decided_no_more now s p tx = more_then s (with_decided s p.message tx) (message_decided now s p tx).state
    (record { outs = have_no_more s.outs; next_ordinal = refl; numbers = omega arith })
    (from_same (with_decided s p.message tx) (message_decided now s p tx).state (arrived_rows (with_decided s p.message tx) p.message now (refusal_of s p)))

part_no_more : (now : ℕ) (e : Effect) (part : Part) → NoMore e.state (part_made now e part).state
part_no_more now e entry.Nothing = nothing_more e.state
part_no_more now e (entry.Decided p) = effect_or e (λ tx. joined e (message_decided now e.state p tx)) p.tx (λ tx. decided_no_more now e.state p tx)
part_no_more now e (entry.Stored p) = from_same e.state (part_made now e (entry.Stored p)).state (arrived_rows e.state p.message now (storing_refusal e.state p))
part_no_more now e (entry.OrderAcknowledged ordinal number) = record {
  outs = first_no_more (acknowledged number) (has_ordinal ordinal) e.state.outs (acknowledged_no_more number);
  next_ordinal = refl;
  numbers = omega arith;
}
part_no_more now e (entry.Final p) = final_no_more e.state p.message

-- what a record offers raises marks
abbrev pub Offers : List Row → Record → Type 0
Offers rows (entry.Offered marks) = Raise rows marks
Offers rows _ = Unit {0}

pub applied_no_more : (s : State) (r : Record) → CommitsNothing r → Offers s.outs r → NoMore s (apply s r)
applied_no_more s (entry.Identity identity) h o = nothing_more s
applied_no_more s (entry.Commit now ops) h o = absurd h
applied_no_more s (entry.Plain now p) h o = more_then s (numbers_taken s 1) (apply s (entry.Plain now p))
    (record { outs = have_no_more s.outs; next_ordinal = refl; numbers = omega arith })
    (from_same (numbers_taken s 1) (apply s (entry.Plain now p)) (plain_sent_rows (numbers_taken s 1) p.message now))
applied_no_more s (entry.Offered marks) h o = marks_no_more s marks o
applied_no_more s (entry.Arrived now numbers part) h o = more_then s (releases_made s numbers).state (apply s (entry.Arrived now numbers part))
    (from_same s (releases_made s numbers).state (releases_rows (begun s) numbers)) (part_no_more now (releases_made s numbers) part)
applied_no_more s (entry.Taken now at id) h o = from_same s (apply s (entry.Taken now at id)) (taken_rows at id now (begun s))
applied_no_more s (entry.Purged now at) h o = from_same s (apply s (entry.Purged now at)) (purged_rows lane.Durable at now (begun s))
applied_no_more s (entry.Ticked now) h o = more_then s (rows_expired now (begun s)).state (apply s (entry.Ticked now)) (expiring_no_more now (begun s))
    (from_same (rows_expired now (begun s)).state (apply s (entry.Ticked now)) (ticked_rows lane.Durable now (rows_expired now (begun s))))
applied_no_more s r h o = record { outs = have_no_more s.outs; next_ordinal = refl; numbers = omega arith }
