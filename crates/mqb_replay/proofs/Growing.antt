-- A run that goes on by one line.
use Rattle.std.proofs.Common.{◌≡◌, ◌+◌, List, [], ◌∷◌, ◌++◌, append-nil, arith, length, sym, ap, subst, ◌∙◌, ℕ}
use Rattle.std.proofs.lemmas.Grind.{flat_map-append}
use Rattle.mqb_network.specs.Courses.{Course}
use Rattle.mqb_network.specs.Runs.{course_after, moved_on}
use Rattle.mqb_world.specs.mqb_runs.Events.{event_of}
use Rattle.mqb_world.specs.mqb_runs.Runs.{IsRunOf, Played, move_of, moves_of}
use Rattle.mqb_world.specs.mqb_runs.Texts.{reply_line, reply_lines}
use Rattle.mqb_world.specs.mqb_runs.lemmas.Growing.{moves_one, played, run_more}
use Rattle.mqb_script.specs.declared.events.Event.{Event}
use Rattle.mqb_script.specs.declared.managers.Which.{Which}
use Rattle.mqb_transcript.specs.declared.replies.Reply.{Reply}
use Rattle.mqb_world.specs.Disks.{failures_told}
use Rattle.mqb_world.specs.Standing.{GoesOn, Stands}
use Rattle.mqb_world.specs.Worlds.{WorldState}
use Rattle.mqb_replay.specs.Disks.{failures}

pub text_one : (ps : List Played) (p : Played) → reply_lines (ps ++ p ∷ []) ≡ reply_lines ps ++ reply_line p
text_one ps p = flat_map-append reply_line ps (p ∷ []) ∙ ap (λ (t : List ℕ). reply_lines ps ++ t) (append-nil (reply_line p))

pub failures_one : (which : Which) (c : Course) (ps : List Played) (p : Played) → failures which c (ps ++ p ∷ [])
    ≡ failures which c ps + length (failures_told (moved_on (course_after c (moves_of ps)) (move_of p)).network.notes which p.event p.reply)
failures_one which c [] p = omega arith
failures_one which c (q ∷ ps) p = let rest = failures_one which (moved_on c (move_of q)) ps p in omega arith

-- The line that was played, by what was chosen in it.

module _ (line : ℕ × Event) (ps : List Played) (given : Reply) (w : WorldState) (strings : List (List ℕ)) (goes : GoesOn (moves_of ps) (event_of line.1) given w strings) where
  abbrev pub one_by : Played
  one_by = played line goes.choice given

  pub stands_more : Stands w strings (moves_of (ps ++ one_by ∷ []))
  stands_more = subst (Stands w strings) (sym (moves_one ps one_by)) goes.stands

  pub run_by : (lines : List (ℕ × Event)) → IsRunOf lines ps → IsRunOf (lines ++ line ∷ []) (ps ++ one_by ∷ [])
  run_by lines is = run_more lines ps line goes.choice given is goes.may goes.reply
