-- A script that is made is read, unless memory runs out.
use Rattle.std.proofs.Common.{◌≡◌, ◌≤◌, List, [], Option, Some, append-nil, arith, inr, length, refl, sym, ap, subst, ◌∙◌, ℕ}
use Rattle.std.specs.Prelude.{Err, Ok, Result}
use Rattle.mqb_script.specs.Made.{IsMade}
use Rattle.mqb_outside.specs.Faults.{Rose}
use Rattle.mqb_script.specs.Reading.{IsCause, MOST_LINES, ReadsScript, line_count}
use Rattle.mqb_script.specs.Script.{script_of}
use Rattle.mqb_script.specs.declared.events.Event.{Event}
use Rattle.mqb_script.specs.declared.faults.ScriptFault.{ScriptFault}
use Rattle.mqb_script.specs.declared.faults.ScriptFault.TheVariants as script
use Rattle.mqb_transcript.specs.Generator.{generated}
use Rattle.mqb_network.specs.Network.{Network}
use Rattle.mqb_world.specs.mqb_runs.Guarantees.{RunsKeepGuarantees}
use Rattle.mqb_world.specs.mqb_runs.Runs.{Played, course_of}
use Rattle.mqb_world.specs.Worlds.{WorldState}
use Rattle.mqb_replay.specs.Devices.{Devices}
use Rattle.mqb_replay.specs.Plays.{HasRun, IsPlayed, Wrote}
use Rattle.mqb_replay.specs.Replays.{Begins, IsAtEnd, PlaysLines}
use Rattle.mqb_replay.specs.Trials.{EndsTrial, TriesLines, trial_text, tried_text}
use Rattle.mqb_replay.specs.declared.faults.ReplayFault.{ReplayFault}
use Rattle.mqb_replay.specs.declared.faults.ReplayFault.TheVariants as fault
use Rattle.mqb_replay.proofs.Playing.{played_so_far}
use Rattle.mqb_replay.proofs.Turning.{short_of}
use Rattle.mqb_replay.proofs.Taken.{IsTaken, taken_all, taken_of, taken_short}

clash : {A B : Type 0} (r : Result A B) (x : A) (y : B) → r ≡ Ok x → r ≡ Err y → ⊥
clash r x y good bad = cc

module _ (n : ℕ) (made : IsMade n) (held rest : Option (List ℕ)) (told : held ≡ Some (generated n)) where
  taken : (text : List ℕ) → IsTaken (generated n) text rest → IsAtEnd rest → text ≡ generated n
  taken text t ended = taken_all (generated n) text rest t ended

  pub read_whole : (lines : List (ℕ × Event)) → ReadsScript script_of held rest (Ok lines) → script_of (generated n) ≡ Ok lines
  read_whole lines reads = ap script_of (sym (taken reads.text (taken_of held rest (generated n) reads.text told reads.gave) reads.ended)) ∙ reads.answers.2

  pub not_read : (f : ScriptFault) (faults : ℕ) → faults ≡ 0 → ReadsScript script_of held rest (Err f) → IsCause faults faults f → f ≡ script.Memory
  not_read (script.Line number kind) faults none reads cause = absurd (clash (script_of (generated n)) made.lines (number, kind) made.script
      (ap script_of (sym (taken reads.text (taken_of held rest (generated n) reads.text told reads.gave) reads.ended)) ∙ reads.answers.2))
  not_read script.TooLong faults none reads cause =
      let front = taken_short (generated n) reads.text rest (taken_of held rest (generated n) reads.text told reads.gave) in let short = made.short in let long = reads.answers in
      absurd (omega (arith, front, short, long))
  not_read script.TooManyLines faults none reads cause =
      let few = subst (λ (t : List ℕ). line_count t ≤ MOST_LINES) (sym (taken reads.text (taken_of held rest (generated n) reads.text told reads.gave) reads.ended)) made.few_lines in
      let many = reads.answers.1 in absurd (omega (arith, few, many))
  not_read script.ReadFault faults none reads cause = absurd (let rose : Rose faults faults = cause in omega (arith, none, rose))
  not_read script.Memory faults none reads cause = refl

-- All lines were played, and the line of the ledger was to be written.
pub tried : RunsKeepGuarantees → (lines : List (ℕ × Event)) (w : WorldState) (b a : Devices) (before after : Option (List ℕ)) → HasRun lines w b a → (r : Result (Unit {0}) ReplayFault) → (count : ℕ)
    → count ≡ length lines → Wrote before after (trial_text count w.traffic.ledger) r → TriesLines lines b a before after r
tried keep lines w b a before after h r count counted wrote = by r (subst (λ (t : List ℕ). Wrote before after t r) text wrote)
  where
    played : (p : IsPlayed lines b a) × (p.run ≡ h.run)
    played = played_so_far keep lines w b a h

    text : trial_text count w.traffic.ledger ≡ tried_text lines b a played.0
    text = ap (λ (n : ℕ). trial_text n w.traffic.ledger) counted
        ∙ ap (λ (n : Network). trial_text (length lines) n.ledger) (h.stands.stands.network ∙ ap (λ (ps : List Played). (course_of ps).network) (sym played.1))

    by : (s : Result (Unit {0}) ReplayFault) → Wrote before after (tried_text lines b a played.0) s → TriesLines lines b a before after s
    by (Ok done) is = (played.0, is)
    by (Err fault.WriteFault) is = (played.0, is)
    by (Err fault.Memory) is = ((short_of keep lines lines [] (sym (append-nil lines)) w b a h).0, is)
    by (Err f) is = absurd is
