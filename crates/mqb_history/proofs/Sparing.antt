-- What a row keeps did not expire. Its numbers rise, and none is above its count.
use Rattle.std.proofs.Common.{refl, ap, sym, subst, ◌∙◌, arith, inl, inr}
use Rattle.std.proofs.lemmas.List.{append_assoc}
use Rattle.std.specs.List.{AllByRecursion, cons_option}
use Rattle.std.specs.Option.{option_map_or}
use Rattle.std.specs.Prelude.{[], ◌+◌, ◌++◌, ◌<◌, ◌||◌, ◌∷◌, ◌≡◌, ◌≤◌, ◌⊎◌, Bool, List, None, Option, Some, cond, false, filter, find, fold, length, max, nat_lt, slice_get, slice_set, suc, true, zero, ℕ}
use Rattle.mqb_base.specs.Bits.{keeps_dead}
use Rattle.mqb_base.specs.declared.class.TheConstants.Class.{REACH_TIMEOUT}
use Rattle.mqb_base.specs.declared.heads.TxHead.{TxHead}
use Rattle.mqb_base.specs.declared.ids.SequenceId.{SequenceId}
use Rattle.mqb_base.specs.declared.ids.MessageId.{MessageId}
use Rattle.mqb_base.specs.declared.ledger.Line.{Line}
use Rattle.mqb_base.specs.declared.ledger.Line.TheVariants as line
use Rattle.mqb_base.specs.declared.ledger.Stream.{Stream}
use Rattle.mqb_base.specs.declared.class.Class.{Class}
use Rattle.mqb_base.specs.declared.message.Lane.TheVariants as lane
use Rattle.mqb_base.specs.declared.message.Message.{Message}
use Rattle.mqb_exactly_once.specs.Words.{In}
use Rattle.mqb_exactly_once.specs.World.{Commitment, Position}
use Rattle.mqb_model.specs.Lists.{without_first}
use Rattle.mqb_model.specs.Loops.{for_each_below, repeated}
use Rattle.mqb_model.specs.declared.target.Target.{Target}
use Rattle.mqb_model.specs.declared.target.Target.TheVariants.{AtPeer}
use Rattle.mqb_model.specs.records.Applying.{apply, effect_of, lines_of}
use Rattle.mqb_model.specs.records.Commit.{send_made, sends_numbered, sends_of, takes_made}
use Rattle.mqb_model.specs.records.Decisions.{decided_line, message_decided, message_stored, stored_line}
use Rattle.mqb_model.specs.records.Finals.{final_stored, is_offered_as}
use Rattle.mqb_model.specs.records.Record.{Record}
use Rattle.mqb_model.specs.records.Record as entry
use Rattle.mqb_model.specs.records.Releases.{releases_made}
use Rattle.mqb_model.specs.rules.Arrivals.{refusal_of, storing_refusal}
use Rattle.mqb_model.specs.rules.Effects.{Effect, begun, joined}
use Rattle.mqb_model.specs.rules.Sends.{committed_to, journalled, message_sent}
use Rattle.mqb_model.specs.rules.Timeouts.{expires, expiring, expiring_in, message_expired, next_expired, row_expired, rows_expired, with_expired, without_expired}
use Rattle.mqb_model.specs.state.Resolving.{is_here, resolved}
use Rattle.mqb_model.specs.state.Rows.{stream_of}
use Rattle.mqb_model.specs.state.State.{State, empty}
use Rattle.mqb_network.specs.Courses.{Written}
use Rattle.mqb_network.specs.Laws.{lines_written}
use Rattle.mqb_orders.specs.Rows.{Row}
use Rattle.mqb_orders.specs.declared.kept.Kept.{Kept}
use Rattle.mqb_packet.specs.declared.packet.UserPacket.{UserPacket}
use Rattle.mqb_history.specs.Committed.{commitments}
use Rattle.mqb_history.specs.Expired.{WasDue, expiries_told, expiry_told}
use Rattle.mqb_history.proofs.Committing.{OrdinalsRise, all_in, in_split}
use Rattle.mqb_history.proofs.Deciding.{first_is_found}
use Rattle.mqb_history.proofs.Due.{AreDue, IsDue, due_by_records}
use Rattle.mqb_history.proofs.Holding.{HasExpired, others_of, without_is}
use Rattle.mqb_history.proofs.Lines.{Adds, IsOther, ops_add, purged_adds, releases_add, taken_adds, ticked_adds, told_append, told_same}
use Rattle.mqb_history.proofs.Lists.{all_append, all_weaker, append_nothing, get_in, none_some, some_is}
use Rattle.mqb_history.proofs.Numbering.{joined_outs, rise_no_more}
use Rattle.mqb_history.proofs.Outside.{filtered_in, next_no_more, without_in}
use Rattle.mqb_history.proofs.Rowwise.{Allows, applied_each}
use Rattle.mqb_history.proofs.Staying.{meets_rows, ticked_rows}
use Rattle.mqb_history.proofs.Telling.{lines_more}
use Rattle.mqb_history.proofs.Written.{IsByRecords}

-- Numbers that rise.

abbrev pub KeptRise : List Kept → Type 0
KeptRise [] = Unit {0}
KeptRise (k ∷ ks) = AllByRecursion (λ j. k.number < j.number) ks × KeptRise ks

pub all_of : {X : Type 0} (P : X → Type 0) (xs : List X) → ((x : X) → In x xs → P x) → AllByRecursion P xs
all_of P [] h = tt
all_of P (x ∷ xs) h = (h x (inl refl), all_of P xs (λ y i. h y (inr i)))

rise_filter : (test : Kept → Bool) (ks : List Kept) → KeptRise ks → KeptRise (filter test ks)
rise_filter test [] h = tt
rise_filter test (k ∷ ks) h = at (test k) (rise_filter test ks h.1)
  where
    at : (b : Bool) → KeptRise (filter test ks) → KeptRise (cond b (k ∷ filter test ks) (filter test ks))
    at true rest = (all_of (λ j. k.number < j.number) (filter test ks) (λ j i. all_in (λ x. k.number < x.number) ks j h.0 (filtered_in test ks j i)), rest)
    at false rest = rest

others_in : (test : Kept → Bool) (ks : List Kept) (k : Kept) → In k (others_of test ks) → In k ks
others_in test [] k i = i
others_in test (x ∷ ks) k i = at (test x) (λ j. others_in test ks k j) i
  where
    at : (b : Bool) → (In k (others_of test ks) → In k ks) → In k (cond b ks (x ∷ others_of test ks)) → In k (x ∷ ks)
    at true rest j = inr j
    at false rest (inl e) = inl e
    at false rest (inr j) = inr (rest j)

rise_others : (test : Kept → Bool) (ks : List Kept) → KeptRise ks → KeptRise (others_of test ks)
rise_others test [] h = tt
rise_others test (k ∷ ks) h = at (test k) (rise_others test ks h.1)
  where
    at : (b : Bool) → KeptRise (others_of test ks) → KeptRise (cond b ks (k ∷ others_of test ks))
    at true rest = h.1
    at false rest = (all_of (λ j. k.number < j.number) (others_of test ks) (λ j i. all_in (λ x. k.number < x.number) ks j h.0 (others_in test ks j i)), rest)

rise_without : (test : Kept → Bool) (ks : List Kept) → KeptRise ks → KeptRise (without_first test ks)
rise_without test ks h = subst KeptRise (sym (without_is test ks)) (rise_others test ks h)

rise_joined : (ks : List Kept) (k : Kept) → KeptRise ks → AllByRecursion (λ j. j.number < k.number) ks → KeptRise (ks ++ k ∷ [])
rise_joined [] k h low = (tt, tt)
rise_joined (x ∷ ks) k h low = (all_append (λ j. x.number < j.number) ks (k ∷ []) h.0 (low.0, tt), rise_joined ks k h.1 low.1)

pub found_kept : (test : Kept → Bool) (ks : List Kept) (k : Kept) → find test ks ≡ Some k → In k ks
found_kept test [] k e = absurd (none_some e)
found_kept test (x ∷ ks) k e = at (test x) (λ f. found_kept test ks k f) e
  where
    at : (b : Bool) → (find test ks ≡ Some k → In k ks) → cond b (Some x) (find test ks) ≡ Some k → In k (x ∷ ks)
    at true rest f = inl (some_is x k f)
    at false rest f = inr (rest f)

-- what is left where the first that passes is gone has another number
pub left_apart : (test : Kept → Bool) (ks : List Kept) (gone k : Kept) → KeptRise ks → find test ks ≡ Some gone → In k (others_of test ks) → gone.number ≡ k.number → ⊥
left_apart test [] gone k h e i same = i
left_apart test (x ∷ ks) gone k h e i same = at (test x) (λ f j. left_apart test ks gone k h.1 f j same) e i
  where
    at : (b : Bool) → (find test ks ≡ Some gone → In k (others_of test ks) → ⊥) → cond b (Some x) (find test ks) ≡ Some gone → In k (cond b ks (x ∷ others_of test ks)) → ⊥
    at true rest f j = let less = all_in (λ y. x.number < y.number) ks k h.0 j in let own = ap (λ (y : Kept). y.number) (some_is x gone f) in omega (arith, less, own, same)
    at false rest f (inl g) = let less = all_in (λ j. x.number < j.number) ks gone h.0 (found_kept test ks gone f) in let own = ap (λ (y : Kept). y.number) g in omega (arith, less, own, same)
    at false rest f (inr j) = rest f j

-- Rows.

-- what a row keeps did not expire, and neither did anything above its count
pub record IsTidy (ls : List Line) (row : Row) : Type 0 where
  pub rises : KeptRise row.kept
  pub within : AllByRecursion (λ k. k.number ≤ row.committed) row.kept
  pub spared : (k : Kept) → In k row.kept → HasExpired ls row.sequence k.number → ⊥
  pub counted : (n : ℕ) → HasExpired ls row.sequence n → n ≤ row.committed

-- a row that keeps less
less_tidy : (ls : List Line) (a b : Row) → b.sequence ≡ a.sequence → b.committed ≡ a.committed → KeptRise b.kept → ((k : Kept) → In k b.kept → In k a.kept) → IsTidy ls a → IsTidy ls b
less_tidy ls a b same count rises fewer h = record {
  rises = rises;
  within = all_of (λ k. k.number ≤ b.committed) b.kept (λ k i. let low = all_in (λ x. x.number ≤ a.committed) a.kept k h.within (fewer k i) in omega (arith, low, count));
  spared = λ k i e. h.spared k (fewer k i) (subst (λ q. HasExpired ls q k.number) same e);
  counted = λ n e. let low = h.counted n (subst (λ q. HasExpired ls q n) same e) in omega (arith, low, count);
}

pub tidy_allows : (ls : List Line) (s : State) (r : Record) → ((q : SequenceId) (n : ℕ) → HasExpired ls q n → q.ordinal < s.next_ordinal) → Allows (IsTidy ls) s r
tidy_allows ls s r given = record {
  begins = λ commit t peer destination now low same leads. record {
    rises = tt;
    within = tt;
    spared = λ k i e. i;
    counted = λ n e. let less = given (record { ordinal = t.next_ordinal; stamp = now }) n e in absurd (omega (arith, less, low));
  };
  joins = λ commit m row h. record {
    rises = rise_joined row.kept (record { number = row.committed + 1; message = m }) h.rises
        (all_weaker (λ (k : Kept). k.number ≤ row.committed) (λ k. k.number < row.committed + 1) (λ k le. omega (arith, le)) row.kept h.within);
    within = all_append (λ k. k.number ≤ row.committed + 1) row.kept (record { number = row.committed + 1; message = m } ∷ [])
        (all_weaker (λ (k : Kept). k.number ≤ row.committed) (λ k. k.number ≤ row.committed + 1) (λ k le. omega (arith, le)) row.kept h.within) (omega arith, tt);
    spared = λ k i e. joined_spared m row h k e (in_split row.kept (record { number = row.committed + 1; message = m } ∷ []) k i);
    counted = λ n e. let low = h.counted n e in omega (arith, low);
  };
  offers = λ mark row raises same h. less_tidy ls row _ refl refl h.rises (λ k i. i) h;
  acknowledges = λ ordinal number row acks same h. less_tidy ls row _ refl refl (rise_filter (λ k. nat_lt (max row.acked number) k.number || keeps_dead k.message) row.kept h.rises)
      (λ k i. filtered_in (λ (x : Kept). nat_lt (max row.acked number) x.number || keeps_dead x.message) row.kept k i) h;
  finishes = λ m k row ends peer named h. less_tidy ls row _ refl refl
      (rise_filter (λ x. nat_lt (max row.acked k.number) x.number || keeps_dead x.message) (without_first (is_offered_as m.correlation row) row.kept)
      (rise_without (is_offered_as m.correlation row) row.kept h.rises))
      (λ x i. without_in (is_offered_as m.correlation row) row.kept x
      (filtered_in (λ (y : Kept). nat_lt (max row.acked k.number) y.number || keeps_dead y.message) (without_first (is_offered_as m.correlation row) row.kept) x i)) h;
  expires = λ now row h. less_tidy ls row _ refl refl (rise_without (expires now row) row.kept h.rises) (λ k i. without_in (expires now row) row.kept k i) h;
}
  where
    joined_spared : (m : Message) (row : Row) → IsTidy ls row → (k : Kept) → HasExpired ls row.sequence k.number → In k row.kept ⊎ In k (record { number = row.committed + 1; message = m } ∷ []) → ⊥
    joined_spared m row h k e (inl i) = h.spared k i e
    joined_spared m row h k e (inr (inl f)) = let low = h.counted k.number e in let own = ap (λ (x : Kept). x.number) f in omega (arith, low, own)
    joined_spared m row h k e (inr (inr none)) = none

-- lines that tell the same of expiries
tidy_same : (a b : List Line) (row : Row) → expiries_told b ≡ expiries_told a → IsTidy a row → IsTidy b row
tidy_same a b row same h = record {
  rises = h.rises;
  within = h.within;
  spared = λ k i e. h.spared k i (subst (In {A = Position} (record { sequence = row.sequence; number = k.number })) same e);
  counted = λ n e. h.counted n (subst (In {A = Position} (record { sequence = row.sequence; number = n })) same e);
}

-- Messages expire.

expired_or : (ls : List Line) (stream : Stream) (number : ℕ) (id : MessageId) (moment : ℕ) (q : SequenceId) (n : ℕ) → HasExpired (ls ++ line.Expired stream number id moment ∷ []) q n
    → HasExpired ls q n ⊎ ((stream.sequence ≡ q) × (number ≡ n))
expired_or ls stream number id moment q n e = at (in_split {X = Position} (expiries_told ls) (record { sequence = stream.sequence; number = number } ∷ []) (record { sequence = q; number = n })
    (subst (In {A = Position} (record { sequence = q; number = n })) (told_append expiry_told ls (line.Expired stream number id moment ∷ [])) e))
  where
    at : HasExpired ls q n ⊎ In {A = Position} (record { sequence = q; number = n }) (record { sequence = stream.sequence; number = number } ∷ []) → HasExpired ls q n ⊎ ((stream.sequence ≡ q) × (number ≡ n))
    at (inl i) = inl i
    at (inr (inl f)) = inr (ap (λ (p : Position). p.sequence) f, ap (λ (p : Position). p.number) f)
    at (inr (inr none)) = absurd none

module _ (ls : List Line) (s : State) (now : ℕ) (row : Row) (gone : Kept) (found : expiring now row ≡ Some gone) where
  abbrev l : Line
  l = line.Expired (stream_of s row) gone.number gone.message.id now

  -- another row
  other_tidy : (x : Row) → (x.sequence.ordinal ≡ row.sequence.ordinal → ⊥) → IsTidy ls x → IsTidy (ls ++ l ∷ []) x
  other_tidy x apart h = record {
    rises = h.rises;
    within = h.within;
    spared = λ k i e. spared k i (expired_or ls (stream_of s row) gone.number gone.message.id now x.sequence k.number e);
    counted = λ n e. counted n (expired_or ls (stream_of s row) gone.number gone.message.id now x.sequence n e);
  }
    where
      spared : (k : Kept) → In k x.kept → HasExpired ls x.sequence k.number ⊎ ((row.sequence ≡ x.sequence) × (gone.number ≡ k.number)) → ⊥
      spared k i (inl e) = h.spared k i e
      spared k i (inr f) = apart (sym (ap (λ (q : SequenceId). q.ordinal) f.0))

      counted : (n : ℕ) → HasExpired ls x.sequence n ⊎ ((row.sequence ≡ x.sequence) × (gone.number ≡ n)) → n ≤ x.committed
      counted n (inl e) = h.counted n e
      counted n (inr f) = absurd (apart (sym (ap (λ (q : SequenceId). q.ordinal) f.0)))

  found_gone : find (expires now row) row.kept ≡ Some gone
  found_gone = sym (first_is_found (expires now row) row.kept) ∙ found

  -- the row itself
  own_tidy : IsTidy ls row → IsTidy (ls ++ l ∷ []) (without_expired now row)
  own_tidy h = record {
    rises = rise_without (expires now row) row.kept h.rises;
    within = all_of (λ k. k.number ≤ row.committed) (without_first (expires now row) row.kept)
        (λ k i. all_in (λ x. x.number ≤ row.committed) row.kept k h.within (without_in (expires now row) row.kept k i));
    spared = λ k i e. spared k i (expired_or ls (stream_of s row) gone.number gone.message.id now row.sequence k.number e);
    counted = λ n e. counted n (expired_or ls (stream_of s row) gone.number gone.message.id now row.sequence n e);
  }
    where
      spared : (k : Kept) → In k (without_first (expires now row) row.kept) → HasExpired ls row.sequence k.number ⊎ ((row.sequence ≡ row.sequence) × (gone.number ≡ k.number)) → ⊥
      spared k i (inl e) = h.spared k (without_in (expires now row) row.kept k i) e
      spared k i (inr f) = left_apart (expires now row) row.kept gone k h.rises found_gone (subst (In k) (without_is (expires now row) row.kept) i) f.1

      counted : (n : ℕ) → HasExpired ls row.sequence n ⊎ ((row.sequence ≡ row.sequence) × (gone.number ≡ n)) → n ≤ row.committed
      counted n (inl e) = h.counted n e
      counted n (inr f) = let low = all_in (λ x. x.number ≤ row.committed) row.kept gone h.within (found_kept (expires now row) row.kept gone found_gone) in let same = f.1 in omega (arith, low, same)

  -- and all
  set_tidy : (rows : List Row) (k : ℕ) → slice_get rows k ≡ Some row → OrdinalsRise rows → AllByRecursion (IsTidy ls) rows
      → AllByRecursion (IsTidy (ls ++ l ∷ [])) (slice_set rows k (without_expired now row))
  set_tidy [] k e rise h = tt
  set_tidy (x ∷ rows) zero e rise h = (
    own_tidy (subst (IsTidy ls) (some_is x row e) h.0),
    all_of (IsTidy (ls ++ l ∷ [])) rows (λ y i. other_tidy y (λ same. let less = all_in (λ z. x.sequence.ordinal < z.sequence.ordinal) rows y rise.0 i in
        let own = ap (λ (z : Row). z.sequence.ordinal) (some_is x row e) in omega (arith, less, own, same)) (all_in (IsTidy ls) rows y h.1 i)),
  )
  set_tidy (x ∷ rows) (suc k) e rise h = (
    other_tidy x (λ same. let less = all_in (λ z. x.sequence.ordinal < z.sequence.ordinal) rows row rise.0 (get_in rows k row e) in omega (arith, less, same)) h.0,
    set_tidy rows k e rise.1 h.1,
  )

-- the rows of an effect, behind lines
pub record AreTidyIn (ls : List Line) (e : Effect) : Type 0 where
  pub rise : OrdinalsRise e.state.outs
  pub rows : AllByRecursion (IsTidy (ls ++ e.lines)) e.state.outs

pub next_tidy : (ls : List Line) (now k : ℕ) (e : Effect) → AreTidyIn ls e → AreTidyIn ls (next_expired now k e)
next_tidy ls now k e h = record { rise = rise_no_more e.state.outs (next_expired now k e).state.outs (next_no_more now k e).outs h.rise; rows = at (slice_get e.state.outs k) refl }
  where
    kept_out : (row : Row) → slice_get e.state.outs k ≡ Some row → (gone : Kept) → expiring now row ≡ Some gone
        → AllByRecursion (IsTidy (ls ++ (joined e (message_expired now k e.state row gone)).lines)) (joined e (message_expired now k e.state row gone)).state.outs
    kept_out row there gone found = let l = line.Expired (stream_of e.state row) gone.number gone.message.id now in
        subst (λ xs. AllByRecursion (IsTidy xs) (message_expired now k e.state row gone).state.outs) (append_assoc ls e.lines (l ∷ []))
        (subst (AllByRecursion (IsTidy ((ls ++ e.lines) ++ l ∷ []))) (sym (meets_rows (with_expired now e.state k) gone.message REACH_TIMEOUT now).outs)
        (subst (λ (o : Option Row). AllByRecursion (IsTidy ((ls ++ e.lines) ++ l ∷ [])) (option_map_or (λ x. slice_set e.state.outs k (without_expired now x)) o e.state.outs)) (sym there)
        (set_tidy (ls ++ e.lines) e.state now row gone found e.state.outs k there h.rise h.rows)))

    of_row : (row : Row) → slice_get e.state.outs k ≡ Some row → (o : Option Kept) → expiring now row ≡ o
        → (let f = option_map_or (λ gone. joined e (message_expired now k e.state row gone)) o e in AllByRecursion (IsTidy (ls ++ f.lines)) f.state.outs)
    of_row row there None found = h.rows
    of_row row there (Some gone) found = kept_out row there gone found

    at : (o : Option Row) → slice_get e.state.outs k ≡ o
        → (let f = option_map_or (λ (row : Row). option_map_or (λ gone. joined e (message_expired now k e.state row gone)) (expiring now row) e) o e in
        AllByRecursion (IsTidy (ls ++ f.lines)) f.state.outs)
    at None f = h.rows
    at (Some row) f = of_row row f (expiring now row) refl

times_tidy : (ls : List Line) (now k n : ℕ) (e : Effect) → AreTidyIn ls e → AreTidyIn ls (repeated n (next_expired now k) e)
times_tidy ls now k zero e h = h
times_tidy ls now k (suc n) e h = next_tidy ls now k (repeated n (next_expired now k) e) (times_tidy ls now k n e h)

expiring_tidy : (ls : List Line) (now n : ℕ) (e : Effect) → AreTidyIn ls e → AreTidyIn ls (for_each_below n (row_expired now) e)
expiring_tidy ls now zero e h = h
expiring_tidy ls now (suc n) e h = let f = for_each_below n (row_expired now) e in
    times_tidy ls now n (option_map_or (expiring_in now) (slice_get f.state.outs n) 0) f (expiring_tidy ls now n e h)

-- Only a tick tells of expiries.

pub other_unexpired : (l : Line) → IsOther l → expiry_told l ≡ None
other_unexpired (line.Committed stream number id) h = absurd h
other_unexpired (line.Put stream number id) h = absurd h
other_unexpired (line.Refused stream number class id) h = absurd h
other_unexpired (line.Expired stream number id moment) h = absurd h
other_unexpired l h = refl

quiet_effect : (s : State) (f : Effect) → Adds (begun s) f → expiries_told f.lines ≡ []
quiet_effect s f a = told_same expiry_told other_unexpired (begun s) f a

commit_expires : (now : ℕ) (s : State) (t : Target) (m : Message) → expiries_told (committed_to now s t m).lines ≡ []
commit_expires now s (AtPeer k) m = refl
commit_expires now s t m = refl

sends_expire : (now : ℕ) (e : Effect) (ms : List Message) → expiries_told (fold (send_made now) e ms).lines ≡ expiries_told e.lines
sends_expire now e [] = refl
sends_expire now e (m ∷ ms) = sends_expire now (send_made now e m) ms ∙ told_append expiry_told e.lines (message_sent now e.state m).lines
    ∙ ap (λ ps. expiries_told e.lines ++ ps) (commit_expires now (journalled e.state m) (resolved e.state m.destination) m) ∙ append_nothing (expiries_told e.lines)

joined_expires : (e next : Effect) → expiries_told e.lines ≡ [] → expiries_told next.lines ≡ [] → expiries_told (joined e next).lines ≡ []
joined_expires e next none more = told_append expiry_told e.lines next.lines ∙ ap (λ ps. ps ++ expiries_told next.lines) none ∙ more

line_expires : (m : Message) (tx : TxHead) (refusal : Option Class) → expiries_told (decided_line m tx refusal ∷ []) ≡ []
line_expires m tx None = refl
line_expires m tx (Some class) = refl

stored_expires : (m : Message) (refusal : Option Class) → expiries_told (stored_line m refusal ∷ []) ≡ []
stored_expires m None = refl
stored_expires m (Some class) = refl

decided_expires : (now : ℕ) (e : Effect) (p : UserPacket) (o : Option TxHead) → expiries_told e.lines ≡ []
    → expiries_told (option_map_or (λ tx. joined e (message_decided now e.state p tx)) o e).lines ≡ []
decided_expires now e p None none = none
decided_expires now e p (Some tx) none = joined_expires e (message_decided now e.state p tx) none (line_expires p.message tx (refusal_of e.state p))

-- a record of another kind
abbrev pub IsNoTick : Record → Type 0
IsNoTick (entry.Ticked now) = ⊥
IsNoTick _ = Unit {0}

pub expires_nothing : (s : State) (r : Record) → IsNoTick r → expiries_told (lines_of s r) ≡ []
expires_nothing s (entry.Commit now ops) h = sends_expire now (takes_made s now ops) (sends_of ops)
    ∙ told_same expiry_told other_unexpired (sends_numbered s ops) (takes_made s now ops) (ops_add now (sends_numbered s ops) ops)
expires_nothing s (entry.Plain now p) h = at (is_here (resolved s p.message.destination))
  where
    at : (b : Bool) → expiries_told (cond b (line.Local p.message.id ∷ []) []) ≡ []
    at true = refl
    at false = refl
expires_nothing s (entry.Arrived now numbers entry.Nothing) h = quiet_effect s (releases_made s numbers) (releases_add (begun s) numbers)
expires_nothing s (entry.Arrived now numbers (entry.Decided p)) h = decided_expires now (releases_made s numbers) p p.tx (quiet_effect s (releases_made s numbers) (releases_add (begun s) numbers))
expires_nothing s (entry.Arrived now numbers (entry.Stored p)) h = let e = releases_made s numbers in
    joined_expires e (message_stored now e.state p) (quiet_effect s e (releases_add (begun s) numbers)) (stored_expires p.message (storing_refusal e.state p))
expires_nothing s (entry.Arrived now numbers (entry.OrderAcknowledged ordinal number)) h = quiet_effect s (releases_made s numbers) (releases_add (begun s) numbers)
expires_nothing s (entry.Arrived now numbers (entry.Final p)) h = let e = releases_made s numbers in
    joined_expires e (final_stored e.state p.message) (quiet_effect s e (releases_add (begun s) numbers)) refl
expires_nothing s (entry.Taken now place id) h = quiet_effect s (effect_of s (entry.Taken now place id)) (taken_adds place id now (begun s))
expires_nothing s (entry.Purged now place) h = quiet_effect s (effect_of s (entry.Purged now place)) (purged_adds lane.Durable place now (begun s))
expires_nothing s (entry.Ticked now) h = absurd h
expires_nothing s r h = refl

-- Records.

-- the line of an expiry
pub expiry_line : (ls : List Line) (p : Position) → In p (expiries_told ls)
    → (stream : Stream) × (number : ℕ) × (id : MessageId) × (moment : ℕ) × In (line.Expired stream number id moment) ls × (record { sequence = stream.sequence; number = number } ≡ p)
expiry_line [] p i = absurd i
expiry_line (l ∷ ls) p i = at (λ j. expiry_line ls p j) l i
  where
    Goal : List Line → Type 0
    Goal xs = (stream : Stream) × (number : ℕ) × (id : MessageId) × (moment : ℕ) × In (line.Expired stream number id moment) xs × (record { sequence = stream.sequence; number = number } ≡ p)

    more : (x : Line) → Goal ls → Goal (x ∷ ls)
    more x g = (g.0, g.1, g.2, g.3, inr g.4, g.5)

    own : (In p (expiries_told ls) → Goal ls) → (stream : Stream) (number : ℕ) (id : MessageId) (moment : ℕ) → In p (record { sequence = stream.sequence; number = number } ∷ expiries_told ls)
        → Goal (line.Expired stream number id moment ∷ ls)
    own rest stream number id moment (inl e) = (stream, number, id, moment, inl refl, e)
    own rest stream number id moment (inr j) = more (line.Expired stream number id moment) (rest j)

    at : (In p (expiries_told ls) → Goal ls) → (x : Line) → In p (cons_option (expiry_told x) (expiries_told ls)) → Goal (x ∷ ls)
    at rest (line.Expired stream number id moment) j = own rest stream number id moment j
    at rest x j = more x (rest j)

-- what expired was committed
pub expired_committed : (s : State) (ws : List Written) (p : Position) → AreDue s ws → In p (expiries_told (lines_written ws)) → (c : Commitment) × In c (commitments ws) × (c.position ≡ p)
expired_committed s ws p h i = let g = expiry_line (lines_written ws) p i in let d = all_in (IsDue s.identity.guid (commitments ws)) (lines_written ws) (line.Expired g.0 g.1 g.2 g.3) h.1 g.4 in
    (d.commitment, d.there, position_of d ∙ g.5)
  where
    position_of : {stream : Stream} {number : ℕ} {id : MessageId} {moment : ℕ} → (d : WasDue s.identity.guid (commitments ws) stream number id moment)
        → d.commitment.position ≡ record { sequence = stream.sequence; number = number }
    position_of d = ap (λ j. record { sequence = j.stream.sequence; number = j.number }) d.joined

-- what holds of a manager's rows and its records
abbrev pub AreTidy : State → List Written → Type 0
AreTidy s ws = AreDue s ws × AllByRecursion (IsTidy (lines_written ws)) s.outs

-- the ordinals of what expired are given
pub expiries_given : (s : State) (ws : List Written) → AreTidy s ws → (q : SequenceId) (n : ℕ) → HasExpired (lines_written ws) q n → q.ordinal < s.next_ordinal
expiries_given s ws h q n e = let c = expired_committed s ws (record { sequence = q; number = n }) h.0 e in
    subst (λ (p : Position). p.sequence.ordinal < s.next_ordinal) c.2 (all_in (λ x. x.position.sequence.ordinal < s.next_ordinal) (commitments ws) c.0 h.0.0.0.0.given c.1)

record_tidy : (s : State) (r : Record) (ws : List Written) → AreTidy s ws → AllByRecursion (IsTidy (lines_written ws ++ lines_of s r)) (apply s r).outs
record_tidy s r ws h = at r
  where
    ls : List Line
    ls = lines_written ws

    given : (q : SequenceId) (n : ℕ) → HasExpired ls q n → q.ordinal < s.next_ordinal
    given = expiries_given s ws h

    quiet : (x : Record) → IsNoTick x → AllByRecursion (IsTidy (ls ++ lines_of s x)) (apply s x).outs
    quiet x none = all_weaker (IsTidy ls) (IsTidy (ls ++ lines_of s x)) (λ row g. tidy_same ls (ls ++ lines_of s x) row
        (told_append expiry_told ls (lines_of s x) ∙ ap (λ ps. expiries_told ls ++ ps) (expires_nothing s x none) ∙ append_nothing (expiries_told ls)) g) (apply s x).outs
        (applied_each (IsTidy ls) s x (tidy_allows ls s x given) h.1)

    tick : (now : ℕ) → AllByRecursion (IsTidy (ls ++ lines_of s (entry.Ticked now))) (apply s (entry.Ticked now)).outs
    tick now = subst (AllByRecursion (IsTidy (ls ++ lines_of s (entry.Ticked now)))) (sym (ticked_rows lane.Durable now e).outs)
        (all_weaker (IsTidy (ls ++ e.lines)) (IsTidy (ls ++ lines_of s (entry.Ticked now))) (λ row g. tidy_same (ls ++ e.lines) (ls ++ lines_of s (entry.Ticked now)) row same g) e.state.outs expired.rows)
      where
        e : Effect
        e = rows_expired now (begun s)

        expired : AreTidyIn ls e
        expired = expiring_tidy ls now (length s.outs) (begun s)
            (record { rise = h.0.0.0.0.rise; rows = subst (λ xs. AllByRecursion (IsTidy xs) s.outs) (sym (append_nothing ls)) h.1 })

        same : expiries_told (ls ++ lines_of s (entry.Ticked now)) ≡ expiries_told (ls ++ e.lines)
        same = told_append expiry_told ls (lines_of s (entry.Ticked now))
            ∙ ap (λ ps. expiries_told ls ++ ps) (told_same expiry_told other_unexpired e (effect_of s (entry.Ticked now)) (ticked_adds lane.Durable now e))
            ∙ sym (told_append expiry_told ls e.lines)

    at : (x : Record) → AllByRecursion (IsTidy (ls ++ lines_of s x)) (apply s x).outs
    at (entry.Ticked now) = tick now
    at x = quiet x tt

pub tidy_by_records : IsByRecords AreTidy
tidy_by_records = record {
  starts = λ own peers. (due_by_records.starts own peers, subst (AllByRecursion (IsTidy [])) (sym (joined_outs (empty own) peers)) tt);
  quiet = λ a b ws same h. (due_by_records.quiet a b ws same h.0, subst (AllByRecursion (IsTidy (lines_written ws))) (sym same.outs) h.1);
  grows = λ i s r ws made h. (
    due_by_records.grows i s r ws made h.0,
    subst (λ ls. AllByRecursion (IsTidy ls) (apply s r).outs) (sym (lines_more ws (record { by = i; before = s; entry = r }))) (record_tidy s r ws h),
  );
}
