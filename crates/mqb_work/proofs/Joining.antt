-- Steps behind others.
use Rattle.std.proofs.Common.{ap, append-nil, append_assoc, arith, length-append, refl, subst, sym, ◌∙◌}
use Rattle.std.proofs.lemmas.Grind.{flat_map-append}
use Rattle.std.specs.List.{AllByRecursion}
use Rattle.std.specs.Prelude.{[], ◌++◌, ◌+◌, ◌<◌, ◌∷◌, ◌≡◌, ◌≤◌, Err, List, None, Ok, Option, Result, Some, length, ℕ}
use Rattle.mqb_base.specs.declared.ids.Identity.{Identity}
use Rattle.mqb_commands.specs.lemmas.Taking.{took_none, took_then}
use Rattle.mqb_manager.specs.States.{ManagerState}
use Rattle.mqb_outside.specs.Told.{Took}
use Rattle.mqb_work.specs.Lines.{Answer, turn_line}
use Rattle.mqb_work.specs.Turns.{IsTurnTo, TellsTurn, Turn, Turns, end_by, lines_of}
use Rattle.mqb_work.specs.Works.{EndsWork, Works, with_last}
use Rattle.mqb_work.specs.declared.status.WorkStatus.{WorkStatus}
use Rattle.mqb_work.specs.declared.words.Job.{Job}
use Rattle.mqb_work.proofs.Telling.{goes_on_so}

-- no step was made yet
pub no_work : (job : Job) (hosts : List Identity) (steady : Option ℕ) (m : ManagerState) (taken : Option (List ℕ)) → Works job hosts 0 steady m m taken taken (Ok tt)
no_work job hosts steady m taken = record {
  told = [];
  last = None;
  turns = refl;
  goes_on = tt;
  between = taken;
  lines = took_none taken;
  ends = (refl, refl, refl);
}

-- One step.
pub one_told : (job : Job) (hosts : List Identity) (steady : Option ℕ) (m n : ManagerState) (before after : Option (List ℕ)) (answer : Answer) (r : Result (Unit {0}) WorkStatus)
    → IsTurnTo job steady m n answer → TellsTurn hosts answer before after r → Works job hosts 1 steady m n before after r
one_told job hosts steady m n before after answer (Ok done) turn told = record {
  told = turn.turn ∷ [];
  last = None;
  turns = (turn.is, sym turn.left);
  goes_on = (subst (λ (a : Answer). end_by a ≡ Ok tt) (sym turn.answered) (goes_on_so hosts answer before after done told), tt);
  between = after;
  lines = subst (λ (text : List ℕ). Took before after text) (ap (turn_line hosts) (sym turn.answered) ∙ sym (append-nil (turn_line hosts turn.turn.answer))) told.1;
  ends = (refl, refl, refl);
}
one_told job hosts steady m n before after answer (Err why) turn told = record {
  told = [];
  last = Some turn.turn;
  turns = (turn.is, sym turn.left);
  goes_on = tt;
  between = before;
  lines = took_none before;
  ends = (omega arith, subst (λ (a : Answer). TellsTurn hosts a before after (Err why)) (sym turn.answered) told);
}

-- One after another.

turns_then : (job : Job) (steady : Option ℕ) (m n o : ManagerState) (xs ys : List Turn) → Turns job steady m xs n → Turns job steady n ys o → Turns job steady m (xs ++ ys) o
turns_then job steady m n o [] ys first second = subst (λ (k : ManagerState). Turns job steady k ys o) first second
turns_then job steady m n o (x ∷ xs) ys first second = (first.0, turns_then job steady x.after n o xs ys first.1 second)

all_then : (P : Turn → Type 0) (xs ys : List Turn) → AllByRecursion P xs → AllByRecursion P ys → AllByRecursion P (xs ++ ys)
all_then P [] ys first second = second
all_then P (x ∷ xs) ys first second = (first.0, all_then P xs ys first.1 second)

with_last_then : (xs ys : List Turn) (last : Option Turn) → with_last (xs ++ ys) last ≡ xs ++ with_last ys last
with_last_then xs ys None = refl
with_last_then xs ys (Some t) = append_assoc xs ys (t ∷ [])

ends_then : (hosts : List Identity) (made count more total : ℕ) (before after : Option (List ℕ)) (r : Result (Unit {0}) WorkStatus) (last : Option Turn)
    → made + count ≤ total → (r ≡ Ok tt → made + count ≡ total) → EndsWork hosts count more before after r last → EndsWork hosts total (made + more) before after r last
ends_then hosts made count more total before after (Ok done) last within whole ends =
    let all : made + count ≡ total = whole refl in
    let same : more ≡ count = ends.1 in
    (ends.0, omega (arith, all, same), ends.2)
ends_then hosts made count more total before after (Err why) None within whole ends = absurd ends
ends_then hosts made count more total before after (Err why) (Some t) within whole ends =
    let fewer : more < count = ends.0 in
    (omega (arith, within, fewer), ends.1)

pub works_then : {job : Job} {hosts : List Identity} {k count total : ℕ} {steady steady_mid : Option ℕ} {m n o : ManagerState} {before mid after : Option (List ℕ)}
    {r : Result (Unit {0}) WorkStatus} → steady_mid ≡ steady → k + count ≤ total → (r ≡ Ok tt → k + count ≡ total)
    → Works job hosts k steady m n before mid (Ok tt) → Works job hosts count steady_mid n o mid after r → Works job hosts total steady m o before after r
works_then {job} {hosts} {k} {count} {total} {steady} {steady_mid} {m} {n} {o} {before} {mid} {after} {r} same_clock within whole first second =
    let done = first.ends in
    let made : length first.told ≡ k = done.1 in
    let alone : with_last first.told first.last ≡ first.told = ap (with_last first.told) done.0 in
    let all : List Turn = with_last second.told second.last in
    let behind : first.told ++ all ≡ with_last (first.told ++ second.told) second.last = sym (with_last_then first.told second.told second.last) in
    record {
      told = first.told ++ second.told;
      last = second.last;
      turns = subst (λ (ts : List Turn). Turns job steady m ts o) behind
          (turns_then job steady m n o first.told all (subst (λ (ts : List Turn). Turns job steady m ts n) alone first.turns)
          (subst (λ (s : Option ℕ). Turns job s n all o) same_clock second.turns));
      goes_on = all_then (λ t. end_by t.answer ≡ Ok tt) first.told second.told first.goes_on second.goes_on;
      between = second.between;
      lines = subst (λ (text : List ℕ). Took before second.between text) (sym (flat_map-append (λ (t : Turn). turn_line hosts t.answer) first.told second.told))
          (took_then before mid second.between (lines_of hosts first.told) (lines_of hosts second.told)
          (subst (λ (taken : Option (List ℕ)). Took before taken (lines_of hosts first.told)) (sym done.2) first.lines) second.lines);
      ends = subst (λ (made : ℕ). EndsWork hosts total made second.between after r second.last) (sym (length-append first.told second.told))
          (ends_then hosts (length first.told) count (length second.told) total second.between after r second.last
          (omega (arith, made, within)) (λ ok. omega (arith, made, whole ok)) second.ends);
    }
