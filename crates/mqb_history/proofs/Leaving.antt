-- What expired is kept no longer: the numbers that a row keeps rise, and none of them expired.
use Rattle.std.proofs.Common.{refl, ap, sym, subst, ◌∙◌, arith, inl, inr}
use Rattle.std.proofs.lemmas.List.{append_assoc}
use Rattle.std.specs.List.{AllByRecursion, cons_option}
use Rattle.std.specs.Option.{option_map_or}
use Rattle.std.specs.Prelude.{[], ◌++◌, ◌<◌, ◌∷◌, ◌≡◌, ◌⊎◌, Bool, List, None, Option, Some, cond, false, find, slice_get, slice_set, suc, true, zero, ℕ}
use Rattle.mqb_base.specs.declared.class.TheConstants.Class.{REACH_TIMEOUT}
use Rattle.mqb_base.specs.declared.ids.SequenceId.{SequenceId}
use Rattle.mqb_base.specs.declared.ledger.Line.{Line}
use Rattle.mqb_base.specs.declared.ledger.Line.TheVariants as line
use Rattle.mqb_exactly_once.specs.Words.{In}
use Rattle.mqb_exactly_once.specs.World.{Position}
use Rattle.mqb_model.specs.Lists.{without_first}
use Rattle.mqb_model.specs.Loops.{for_each_below, repeated}
use Rattle.mqb_model.specs.rules.Effects.{Effect, joined}
use Rattle.mqb_model.specs.rules.Timeouts.{expires, expiring, expiring_in, message_expired, next_expired, row_expired, with_expired, without_expired}
use Rattle.mqb_model.specs.state.Rows.{stream_of}
use Rattle.mqb_model.specs.state.State.{State}
use Rattle.mqb_orders.specs.Rows.{Row}
use Rattle.mqb_orders.specs.declared.kept.Kept.{Kept}
use Rattle.mqb_history.specs.Expired.{expiries_told, expiry_told}
use Rattle.mqb_history.proofs.Between.{all_in, in_either}
use Rattle.mqb_history.proofs.Committing.{OrdinalsRise}
use Rattle.mqb_history.proofs.Deciding.{first_is_found}
use Rattle.mqb_history.proofs.Expiring.{find_in}
use Rattle.mqb_history.proofs.Holding.{HasExpired, others_of, without_is}
use Rattle.mqb_history.proofs.Lines.{IsOther, told_append}
use Rattle.mqb_history.proofs.Lists.{get_in, some_is}
use Rattle.mqb_history.proofs.Numbering.{rise_no_more}
use Rattle.mqb_history.proofs.Outside.{KeptRise, next_no_more, rise_without, without_in}
use Rattle.mqb_history.proofs.Staying.{meets_rows}

-- a row keeps rising numbers, and none that expired
pub record IsClean (ls : List Line) (row : Row) : Type 0 where
  pub rise : KeptRise row.kept
  pub left : (x : Kept) → In x row.kept → HasExpired ls row.sequence x.number → ⊥

-- lines say that nothing expires
abbrev pub NoneExpires : List Line → Type 0
NoneExpires ls = (q : SequenceId) (n : ℕ) → HasExpired ls q n → ⊥

pub expired_either : (ls more : List Line) (q : SequenceId) (n : ℕ) → HasExpired (ls ++ more) q n → HasExpired ls q n ⊎ HasExpired more q n
expired_either ls more q n h = in_either (expiries_told ls) (expiries_told more) (record { sequence = q; number = n }) (subst (In (record { sequence = q; number = n })) (told_append expiry_told ls more) h)

pub clean_more : (ls more : List Line) (row : Row) → NoneExpires more → IsClean ls row → IsClean (ls ++ more) row
clean_more ls more row none h = record { rise = h.rise; left = λ x i e. at x i (expired_either ls more row.sequence x.number e) }
  where
    at : (x : Kept) → In x row.kept → HasExpired ls row.sequence x.number ⊎ HasExpired more row.sequence x.number → ⊥
    at x i (inl e) = h.left x i e
    at x i (inr e) = none row.sequence x.number e

-- What expires in a row leaves it.

-- the first one that passes is not among the others
gone : (test : Kept → Bool) (ks : List Kept) (k x : Kept) → KeptRise ks → find test ks ≡ Some k → In x (others_of test ks) → x.number ≡ k.number → ⊥
gone test [] k x rise e i same = i
gone test (y ∷ ys) k x rise e i same = at (test y) e i (λ f j. gone test ys k x rise.1 f j same) (λ f. (find_in test ys k f).0)
  where
    at : (b : Bool) → cond b (Some y) (find test ys) ≡ Some k → In x (cond b ys (y ∷ others_of test ys)) → (find test ys ≡ Some k → In x (others_of test ys) → ⊥) → (find test ys ≡ Some k → In k ys) → ⊥
    at true f j rest found = let lt = all_in (λ (z : Kept). y.number < z.number) ys x rise.0 j in let own = ap (λ (z : Kept). z.number) (some_is y k f) in omega (arith, lt, own, same)
    at false f (inl g) rest found = let lt = all_in (λ (z : Kept). y.number < z.number) ys k rise.0 (found f) in let own = ap (λ (z : Kept). z.number) g in omega (arith, lt, own, same)
    at false f (inr j) rest found = rest f j

expired_clean : (ls : List Line) (s : State) (now : ℕ) (row : Row) (kept : Kept) → expiring now row ≡ Some kept → IsClean ls row
    → IsClean (ls ++ line.Expired (stream_of s row) kept.number kept.message.id now ∷ []) (without_expired now row)
expired_clean ls s now row kept found h = record {
  rise = rise_without (expires now row) row.kept h.rise;
  left = λ x i e. at x i (expired_either ls (l ∷ []) row.sequence x.number e);
}
  where
    l : Line
    l = line.Expired (stream_of s row) kept.number kept.message.id now

    at : (x : Kept) → In x (without_first (expires now row) row.kept) → HasExpired ls row.sequence x.number ⊎ HasExpired (line.Expired (stream_of s row) kept.number kept.message.id now ∷ []) row.sequence x.number → ⊥
    at x i (inl e) = h.left x (without_in (expires now row) row.kept x i) e
    at x i (inr (inl e)) = gone (expires now row) row.kept kept x h.rise (sym (first_is_found (expires now row) row.kept) ∙ found) (subst (In x) (without_is (expires now row) row.kept) i)
        (ap (λ (p : Position). p.number) (sym e))
    at x i (inr (inr none)) = none

-- and other rows are as before
clean_apart : (ls : List Line) (s : State) (now : ℕ) (row other : Row) (kept : Kept) → (other.sequence.ordinal ≡ row.sequence.ordinal → ⊥) → IsClean ls other
    → IsClean (ls ++ line.Expired (stream_of s row) kept.number kept.message.id now ∷ []) other
clean_apart ls s now row other kept apart h = record { rise = h.rise; left = λ x i e. at x i (expired_either ls (line.Expired (stream_of s row) kept.number kept.message.id now ∷ []) other.sequence x.number e) }
  where
    at : (x : Kept) → In x other.kept → HasExpired ls other.sequence x.number ⊎ HasExpired (line.Expired (stream_of s row) kept.number kept.message.id now ∷ []) other.sequence x.number → ⊥
    at x i (inl e) = h.left x i e
    at x i (inr (inl e)) = apart (ap (λ (p : Position). p.sequence.ordinal) (sym e))
    at x i (inr (inr none)) = none

set_clean : (ls : List Line) (s : State) (now : ℕ) (rows : List Row) (k : ℕ) (row : Row) (kept : Kept) → slice_get rows k ≡ Some row → OrdinalsRise rows → AllByRecursion (IsClean ls) rows
    → IsClean (ls ++ line.Expired (stream_of s row) kept.number kept.message.id now ∷ []) (without_expired now row)
    → AllByRecursion (IsClean (ls ++ line.Expired (stream_of s row) kept.number kept.message.id now ∷ [])) (slice_set rows k (without_expired now row))
set_clean ls s now [] k row kept e rise h new = tt
set_clean ls s now (x ∷ rows) zero row kept e rise h new = (new, others rows rise.0 h.1)
  where
    others : (ys : List Row) → AllByRecursion (λ (y : Row). x.sequence.ordinal < y.sequence.ordinal) ys → AllByRecursion (IsClean ls) ys
        → AllByRecursion (IsClean (ls ++ line.Expired (stream_of s row) kept.number kept.message.id now ∷ [])) ys
    others [] low g = tt
    others (y ∷ ys) low g = (clean_apart ls s now row y kept (λ same. let lt = low.0 in let own = ap (λ (z : Row). z.sequence.ordinal) (some_is x row e) in omega (arith, lt, own, same)) g.0, others ys low.1 g.1)
set_clean ls s now (x ∷ rows) (suc k) row kept e rise h new = (
  clean_apart ls s now row x kept (λ same. let lt = all_in (λ (y : Row). x.sequence.ordinal < y.sequence.ordinal) rows row rise.0 (get_in rows k row e) in omega (arith, lt, same)) h.0,
  set_clean ls s now rows k row kept e rise.1 h.1 new,
)

-- A manager's rows, behind some lines.
pub record AreClean (ls : List Line) (e : Effect) : Type 0 where
  pub rise : OrdinalsRise e.state.outs
  pub clean : AllByRecursion (IsClean (ls ++ e.lines)) e.state.outs

next_clean : (ls : List Line) (now k : ℕ) (e : Effect) → AreClean ls e → AreClean ls (next_expired now k e)
next_clean ls now k e h = record { rise = rise_no_more e.state.outs (next_expired now k e).state.outs (next_no_more now k e).outs h.rise; clean = at (slice_get e.state.outs k) refl }
  where
    expired : (row : Row) → slice_get e.state.outs k ≡ Some row → (kept : Kept) → expiring now row ≡ Some kept
        → AllByRecursion (IsClean (ls ++ (e.lines ++ line.Expired (stream_of e.state row) kept.number kept.message.id now ∷ []))) (joined e (message_expired now k e.state row kept)).state.outs
    expired row f kept g = subst (λ xs. AllByRecursion (IsClean xs) (joined e (message_expired now k e.state row kept)).state.outs) (append_assoc ls e.lines (line.Expired (stream_of e.state row) kept.number kept.message.id now ∷ []))
        (subst (AllByRecursion (IsClean ((ls ++ e.lines) ++ line.Expired (stream_of e.state row) kept.number kept.message.id now ∷ []))) (sym (meets_rows (with_expired now e.state k) kept.message REACH_TIMEOUT now).outs)
        (subst (λ o. AllByRecursion (IsClean ((ls ++ e.lines) ++ line.Expired (stream_of e.state row) kept.number kept.message.id now ∷ [])) (option_map_or (λ x. slice_set e.state.outs k (without_expired now x)) o e.state.outs)) (sym f)
        (set_clean (ls ++ e.lines) e.state now e.state.outs k row kept f h.rise h.clean
        (expired_clean (ls ++ e.lines) e.state now row kept g (all_in (IsClean (ls ++ e.lines)) e.state.outs row h.clean (get_in e.state.outs k row f))))))

    of_row : (row : Row) → slice_get e.state.outs k ≡ Some row → (o : Option Kept) → expiring now row ≡ o
        → AllByRecursion (IsClean (ls ++ (option_map_or (λ kept. joined e (message_expired now k e.state row kept)) o e).lines)) (option_map_or (λ kept. joined e (message_expired now k e.state row kept)) o e).state.outs
    of_row row f None g = h.clean
    of_row row f (Some kept) g = expired row f kept g

    at : (o : Option Row) → slice_get e.state.outs k ≡ o
        → AllByRecursion (IsClean (ls ++ (option_map_or (λ (row : Row). option_map_or (λ kept. joined e (message_expired now k e.state row kept)) (expiring now row) e) o e).lines))
        (option_map_or (λ (row : Row). option_map_or (λ kept. joined e (message_expired now k e.state row kept)) (expiring now row) e) o e).state.outs
    at None f = h.clean
    at (Some row) f = of_row row f (expiring now row) refl

times_clean : (ls : List Line) (now k n : ℕ) (e : Effect) → AreClean ls e → AreClean ls (repeated n (next_expired now k) e)
times_clean ls now k zero e h = h
times_clean ls now k (suc n) e h = next_clean ls now k (repeated n (next_expired now k) e) (times_clean ls now k n e h)

pub rows_clean : (ls : List Line) (now n : ℕ) (e : Effect) → AreClean ls e → AreClean ls (for_each_below n (row_expired now) e)
rows_clean ls now zero e h = h
rows_clean ls now (suc n) e h = let f = for_each_below n (row_expired now) e in
    times_clean ls now n (option_map_or (expiring_in now) (slice_get f.state.outs n) 0) f (rows_clean ls now n e h)

-- other lines say nothing of expiries
pub others_expire : (ls : List Line) → AllByRecursion IsOther ls → NoneExpires ls
others_expire [] h q n i = i
others_expire (l ∷ ls) h q n i = at l h.0 i (others_expire ls h.1 q n)
  where
    at : (x : Line) → IsOther x → In (record { sequence = q; number = n }) (cons_option (expiry_told x) (expiries_told ls)) → (HasExpired ls q n → ⊥) → ⊥
    at (line.Committed stream number id) g i rest = absurd g
    at (line.Expired stream number id moment) g i rest = absurd g
    at (line.Put stream number id) g i rest = absurd g
    at (line.Refused stream number class id) g i rest = absurd g
    at x g i rest = rest i
