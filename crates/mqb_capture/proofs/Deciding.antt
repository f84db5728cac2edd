-- What is computed is said.
use Rattle.std.proofs.Common.{◌≡◌, ℕ, List, [], ◌∷◌, ◌++◌, length, Option, None, Some, refl, sym, ap, subst, ◌∙◌, append_assoc, append-nil}
use Rattle.std.specs.Prelude.{fold, is_some, option_map, if◌then◌else◌}
use Rattle.std.proofs.lemmas.List.Sums.{fold-append}
use Rattle.mqb_session.specs.State.{State}
use Rattle.mqb_capture.specs.declared.answers.BreakCause.{BreakCause}
use Rattle.mqb_capture.specs.Grammar.{Head}
use Rattle.mqb_capture.specs.Events.{Event}
use Rattle.mqb_capture.specs.Lawful.{AreLawful, AreRun, IsBetween, MayCome, first_session, session_after, session_behind}
use Rattle.mqb_capture.specs.Breaks.{BreaksAt, Judges}
use Rattle.mqb_capture.specs.Judged.{break_of, first_break}
use Rattle.mqb_capture.proofs.Lists.{all_both}
use Rattle.mqb_capture.proofs.Judging.{judges}

run_more : (h : Head) (xs : List Event) (e : Event) (s : State) → AreRun h s xs → MayCome h (fold (session_after h) s xs) e → AreRun h s (xs ++ e ∷ [])
run_more h [] e s run may = (may, tt)
run_more h (x ∷ xs) e s run may = (run.0, run_more h xs e (session_after h s x) run.1 may)

-- Lawful events and one more that may come are lawful.
pub lawful_more : (h : Head) (xs : List Event) (e : Event) → AreLawful h xs → Judges h xs e None → AreLawful h (xs ++ e ∷ [])
lawful_more h xs e lawful judged = record {
  run = run_more h xs e (first_session h) lawful.run judged.1;
  between = all_both (IsBetween h) xs (e ∷ []) lawful.between (judged.0, tt);
  sent = judged.2.sent;
  heard = judged.2.heard;
}

pub behind_more : (h : Head) (xs : List Event) (e : Event) → session_after h (session_behind h xs) e ≡ session_behind h (xs ++ e ∷ [])
behind_more h xs e = sym (fold-append (session_after h) (first_session h) xs (e ∷ []))

-- what the first break of events behind others says
abbrev pub Finds : Head → List Event → Option (ℕ × BreakCause) → Type 0
Finds h events None = AreLawful h events
Finds h events (Some found) = BreaksAt h events found.0 found.1

by_found : (h : Head) (before : List Event) (e : Event) (events : List Event) (o : Option BreakCause) (more : Option (ℕ × BreakCause)) → AreLawful h before → Judges h before e o
    → (AreLawful h (before ++ e ∷ []) → Finds h (before ++ e ∷ events) more)
    → Finds h (before ++ e ∷ events) (if is_some o then option_map (λ why. (length before, why)) o else more)
by_found h before e events (Some why) more lawful judged goes = record { before = before; event = e; behind = events; is = refl; at = refl; lawful = lawful; cause = judged }
by_found h before e events None more lawful judged goes = goes (lawful_more h before e lawful judged)

pub finds : (h : Head) (events before : List Event) (s : State) → s ≡ session_behind h before → AreLawful h before → Finds h (before ++ events) (first_break h before s events)
finds h [] before s is lawful = subst (AreLawful h) (sym (append-nil before)) lawful
finds h (e ∷ events) before s is lawful = by_found h before e events (break_of h before s e) (first_break h (before ++ e ∷ []) (session_after h s e) events) lawful
    (subst (λ (t : State). Judges h before e (break_of h before t e)) (sym is) (judges h before e))
    (λ longer. subst (λ (es : List Event). Finds h es (first_break h (before ++ e ∷ []) (session_after h s e) events)) (append_assoc before (e ∷ []) events)
    (finds h events (before ++ e ∷ []) (session_after h s e) (ap (λ (t : State). session_after h t e) is ∙ behind_more h before e) longer))
