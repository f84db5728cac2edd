-- What expires is kept by a row, was not offered, and is due.
use Rattle.std.proofs.Common.{refl, ap, sym, subst, ◌∙◌, arith, inl, inr}
use Rattle.std.proofs.lemmas.Bool.Decides.{nat_tests}
use Rattle.std.specs.List.{AllByRecursion}
use Rattle.std.specs.Option.{option_map_or}
use Rattle.std.specs.Prelude.{[], ◌<◌, ◌∷◌, ◌≡◌, Bool, List, None, Option, Some, cond, false, find, fold, length, nat_lt, slice_get, suc, true, zero, ℕ}
use Rattle.mqb_base.specs.declared.class.Class.{Class}
use Rattle.mqb_base.specs.declared.heads.TxHead.{TxHead}
use Rattle.mqb_base.specs.declared.ids.Identity.{Identity}
use Rattle.mqb_base.specs.declared.ledger.Line.{Line}
use Rattle.mqb_base.specs.declared.ledger.Line.TheVariants as line
use Rattle.mqb_base.specs.declared.message.Lane.TheVariants as lane
use Rattle.mqb_base.specs.declared.message.Message.{Message}
use Rattle.mqb_exactly_once.specs.Words.{In}
use Rattle.mqb_model.specs.Loops.{for_each_below, repeated}
use Rattle.mqb_model.specs.declared.target.Target.{Target}
use Rattle.mqb_model.specs.declared.target.Target.TheVariants.{AtPeer}
use Rattle.mqb_model.specs.records.Applying.{effect_of, lines_of}
use Rattle.mqb_model.specs.records.Commit.{send_made, sends_numbered, sends_of, takes_made}
use Rattle.mqb_model.specs.records.Decisions.{decided_line, message_decided, message_stored, stored_line}
use Rattle.mqb_model.specs.records.Finals.{final_stored}
use Rattle.mqb_model.specs.records.Record.{Record}
use Rattle.mqb_model.specs.records.Record as entry
use Rattle.mqb_model.specs.records.Releases.{releases_made}
use Rattle.mqb_model.specs.rules.Arrivals.{refusal_of, storing_refusal}
use Rattle.mqb_model.specs.rules.Effects.{Effect, begun, joined}
use Rattle.mqb_model.specs.rules.Sends.{committed_to, journalled, message_sent}
use Rattle.mqb_model.specs.rules.Timeouts.{cannot_reach, expires, expiring, expiring_in, message_expired, next_expired, row_expired, rows_expired}
use Rattle.mqb_model.specs.state.Resolving.{is_here, resolved}
use Rattle.mqb_model.specs.state.Rows.{stream_of}
use Rattle.mqb_model.specs.state.State.{State}
use Rattle.mqb_orders.specs.Rows.{Row}
use Rattle.mqb_orders.specs.declared.kept.Kept.{Kept}
use Rattle.mqb_packet.specs.declared.packet.UserPacket.{UserPacket}
use Rattle.mqb_history.specs.Expired.{MayExpire}
use Rattle.mqb_history.specs.Laws.{ExpiriesHaveReasons}
use Rattle.mqb_history.proofs.Applying.{expired_manager}
use Rattle.mqb_history.proofs.Committing.{all_in}
use Rattle.mqb_history.proofs.Deciding.{first_is_found}
use Rattle.mqb_history.proofs.Lines.{Adds, IsOther, ops_add, purged_adds, releases_add, taken_adds, ticked_adds}
use Rattle.mqb_history.proofs.Lists.{all_append, all_weaker, get_in, none_some, some_is, split_and}
use Rattle.mqb_history.proofs.Outside.{HasNoMore, HaveNoMore, NoMore, more_then, next_no_more, nothing_more}

-- what a line says of an expiry is so
abbrev pub IsReasoned : State → Line → Type 0
IsReasoned s (line.Expired stream number id moment) = MayExpire s stream number id moment
IsReasoned s _ = Unit {0}

other_reasoned : (s : State) (l : Line) → IsOther l → IsReasoned s l
other_reasoned s (line.Expired stream number id moment) h = absurd h
other_reasoned s l h = tt

abbrev AreReasoned : State → Effect → Type 0
AreReasoned s e = AllByRecursion (IsReasoned s) e.lines

adds_reasoned : (s : State) (e f : Effect) → Adds e f → AreReasoned s e → AreReasoned s f
adds_reasoned s e f a h = subst (AllByRecursion (IsReasoned s)) (sym a.lines)
    (all_append (IsReasoned s) e.lines a.more h (all_weaker IsOther (IsReasoned s) (other_reasoned s) a.more a.others))

joined_reasoned : (s : State) (e next : Effect) → AreReasoned s e → AreReasoned s next → AreReasoned s (joined e next)
joined_reasoned s e next h g = all_append (IsReasoned s) e.lines next.lines h g

-- Messages expire.

pub find_in : {X : Type 0} (p : X → Bool) (xs : List X) (x : X) → find p xs ≡ Some x → In x xs × (p x ≡ true)
find_in p [] x e = absurd (none_some e)
find_in p (y ∷ ys) x e = at (p y) refl e (find_in p ys x)
  where
    at : (b : Bool) → p y ≡ b → cond b (Some y) (find p ys) ≡ Some x → (find p ys ≡ Some x → In x ys × (p x ≡ true)) → In x (y ∷ ys) × (p x ≡ true)
    at true f e rest = (inl (some_is y x e), subst (λ z. p z ≡ true) (some_is y x e) f)
    at false f e rest = let h = rest e in (inr h.0, h.1)

-- the row from which another one came
row_before : (olds news : List Row) (b : Row) → HaveNoMore olds news → In b news → (a : Row) × In a olds × HasNoMore a b
row_before [] [] b h i = absurd i
row_before [] (y ∷ news) b h i = absurd h
row_before (x ∷ olds) [] b h i = absurd h
row_before (x ∷ olds) (y ∷ news) b h (inl e) = (x, inl refl, subst (HasNoMore x) e h.0)
row_before (x ∷ olds) (y ∷ news) b h (inr i) = let r = row_before olds news b h.1 i in (r.0, inr r.1, r.2)

-- the rows of an effect have no more than those of a state, and what expired is reasoned there
record IsExpiring (s : State) (e : Effect) : Type 0 where
  pub rows : NoMore s e.state
  pub identity : e.state.identity ≡ s.identity
  pub lines : AreReasoned s e

reason : (s : State) (e : Effect) (now : ℕ) (row : Row) (kept : Kept) → IsExpiring s e → In row e.state.outs → In kept row.kept → expires now row kept ≡ true
    → MayExpire s (stream_of e.state row) kept.number kept.message.id now
reason s e now row kept h i inside test = let old = row_before s.outs e.state.outs row h.rows.outs i in
    let both = split_and (nat_lt row.offered kept.number) (cannot_reach now kept.message) test in
    let low : row.offered < kept.number = above row.offered kept.number both.0 in let le = old.2.offered in record {
      row = old.0;
      there = old.1;
      of_row = ap (λ (x : Identity). record { source = x.guid; destination = row.destination; sequence = row.sequence }) h.identity
          ∙ ap (λ d. record { source = s.identity.guid; destination = d; sequence = row.sequence }) old.2.destination
          ∙ ap (λ q. record { source = s.identity.guid; destination = old.0.destination; sequence = q }) old.2.sequence;
      kept = kept;
      inside = old.2.kept kept inside;
      of_kept = refl;
      names = refl;
      unoffered = omega (arith, low, le);
      due = both.1;
    }
  where
    above : (a b : ℕ) → nat_lt a b ≡ true → a < b
    above a b e = grind (arith, nat_tests)

-- one more expires
next_reasoned : (s : State) (now k : ℕ) (e : Effect) → IsExpiring s e → AreReasoned s (next_expired now k e)
next_reasoned s now k e h = at (slice_get e.state.outs k) refl
  where
    of_row : (row : Row) → In row e.state.outs → (o : Option Kept) → expiring now row ≡ o → AreReasoned s (option_map_or (λ kept. joined e (message_expired now k e.state row kept)) o e)
    of_row row i None f = h.lines
    of_row row i (Some kept) f = let g = find_in (expires now row) row.kept kept (sym (first_is_found (expires now row) row.kept) ∙ f) in
        joined_reasoned s e (message_expired now k e.state row kept) h.lines (reason s e now row kept h i g.0 g.1, tt)

    at : (o : Option Row) → slice_get e.state.outs k ≡ o
        → AreReasoned s (option_map_or (λ (row : Row). option_map_or (λ kept. joined e (message_expired now k e.state row kept)) (expiring now row) e) o e)
    at None f = h.lines
    at (Some row) f = of_row row (get_in e.state.outs k row f) (expiring now row) refl

next_expiring : (s : State) (now k : ℕ) (e : Effect) → IsExpiring s e → IsExpiring s (next_expired now k e)
next_expiring s now k e h = record {
  rows = more_then s e.state (next_expired now k e).state h.rows (next_no_more now k e);
  identity = (expired_manager now k e).identity ∙ h.identity;
  lines = next_reasoned s now k e h;
}

times_expiring : (s : State) (now k n : ℕ) (e : Effect) → IsExpiring s e → IsExpiring s (repeated n (next_expired now k) e)
times_expiring s now k zero e h = h
times_expiring s now k (suc n) e h = next_expiring s now k (repeated n (next_expired now k) e) (times_expiring s now k n e h)

rows_expiring : (s : State) (now n : ℕ) (e : Effect) → IsExpiring s e → IsExpiring s (for_each_below n (row_expired now) e)
rows_expiring s now zero e h = h
rows_expiring s now (suc n) e h = let f = for_each_below n (row_expired now) e in
    times_expiring s now n (option_map_or (expiring_in now) (slice_get f.state.outs n) 0) f (rows_expiring s now n e h)

-- Records.

to_reasoned : (s : State) (now : ℕ) (t : State) (target : Target) (m : Message) → AreReasoned s (committed_to now t target m)
to_reasoned s now t (AtPeer k) m = (tt, tt)
to_reasoned s now t target m = (tt, tt)

sends_reasoned : (s : State) (now : ℕ) (e : Effect) (ms : List Message) → AreReasoned s e → AreReasoned s (fold (send_made now) e ms)
sends_reasoned s now e [] h = h
sends_reasoned s now e (m ∷ ms) h = sends_reasoned s now (send_made now e m) ms
    (joined_reasoned s e (message_sent now e.state m) h (to_reasoned s now (journalled e.state m) (resolved e.state m.destination) m))

line_reasoned : (s : State) (m : Message) (tx : TxHead) (refusal : Option Class) → IsReasoned s (decided_line m tx refusal)
line_reasoned s m tx None = tt
line_reasoned s m tx (Some class) = tt

stored_reasoned : (s : State) (m : Message) (refusal : Option Class) → IsReasoned s (stored_line m refusal)
stored_reasoned s m None = tt
stored_reasoned s m (Some class) = tt

decided_reasoned : (s : State) (now : ℕ) (e : Effect) (p : UserPacket) (o : Option TxHead) → AreReasoned s e
    → AreReasoned s (option_map_or (λ tx. joined e (message_decided now e.state p tx)) o e)
decided_reasoned s now e p None h = h
decided_reasoned s now e p (Some tx) h = joined_reasoned s e (message_decided now e.state p tx) h (line_reasoned s p.message tx (refusal_of e.state p), tt)

released_reasoned : (s : State) (numbers : List ℕ) → AreReasoned s (releases_made s numbers)
released_reasoned s numbers = adds_reasoned s (begun s) (releases_made s numbers) (releases_add (begun s) numbers) tt

pub record_reasoned : (s : State) (r : Record) → AllByRecursion (IsReasoned s) (lines_of s r)
record_reasoned s (entry.Commit now ops) = sends_reasoned s now (takes_made s now ops) (sends_of ops)
    (adds_reasoned s (sends_numbered s ops) (takes_made s now ops) (ops_add now (sends_numbered s ops) ops) tt)
record_reasoned s (entry.Plain now p) = at (is_here (resolved s p.message.destination))
  where
    at : (b : Bool) → AllByRecursion (IsReasoned s) (cond b (line.Local p.message.id ∷ []) [])
    at true = (tt, tt)
    at false = tt
record_reasoned s (entry.Arrived now numbers entry.Nothing) = released_reasoned s numbers
record_reasoned s (entry.Arrived now numbers (entry.Decided p)) = decided_reasoned s now (releases_made s numbers) p p.tx (released_reasoned s numbers)
record_reasoned s (entry.Arrived now numbers (entry.Stored p)) = let e = releases_made s numbers in
    joined_reasoned s e (message_stored now e.state p) (released_reasoned s numbers) (stored_reasoned s p.message (storing_refusal e.state p), tt)
record_reasoned s (entry.Arrived now numbers (entry.OrderAcknowledged ordinal number)) = released_reasoned s numbers
record_reasoned s (entry.Arrived now numbers (entry.Final p)) = let e = releases_made s numbers in
    joined_reasoned s e (final_stored e.state p.message) (released_reasoned s numbers) (tt, tt)
record_reasoned s (entry.Taken now place id) = adds_reasoned s (begun s) (effect_of s (entry.Taken now place id)) (taken_adds place id now (begun s)) tt
record_reasoned s (entry.Purged now place) = adds_reasoned s (begun s) (effect_of s (entry.Purged now place)) (purged_adds lane.Durable place now (begun s)) tt
record_reasoned s (entry.Ticked now) = let e = rows_expired now (begun s) in adds_reasoned s e (effect_of s (entry.Ticked now)) (ticked_adds lane.Durable now e)
    (rows_expiring s now (length s.outs) (begun s) (record { rows = nothing_more s; identity = refl; lines = tt })).lines
record_reasoned s r = tt

pub expiries_have_reasons : ExpiriesHaveReasons
expiries_have_reasons s r stream number id moment i = all_in (IsReasoned s) (lines_of s r) (line.Expired stream number id moment) (record_reasoned s r) i
