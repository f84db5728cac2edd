-- A run that goes on by one line.
use Rattle.std.proofs.Common.{◌≡◌, List, [], ◌∷◌, ◌++◌, refl, sym, ap, subst, ◌∙◌, ℕ}
use Rattle.std.proofs.lemmas.List.{map-append}
use Rattle.std.proofs.lemmas.List.Sums.{fold-append}
use Rattle.std.specs.Prelude.{IsTrue, Ok, Result, map}
use Rattle.mqb_network.specs.Choices.{Choice}
use Rattle.mqb_network.specs.Courses.{Course}
use Rattle.mqb_network.specs.Replies as network
use Rattle.mqb_network.specs.Runs.{IsRunFrom, Move, answer, beginning, course_after, may}
use Rattle.mqb_network.specs.Runs.{moved_on, replies_from}
use Rattle.mqb_turns.specs.mqb_replies.declared.faults.AnswerFault.{AnswerFault}
use Rattle.mqb_runs.specs.Events.{event_of}
use Rattle.mqb_runs.specs.Hosts.{hosts}
use Rattle.mqb_runs.specs.Runs.{IsRunOf, Played, course_of, lines_of, move_of, moves_of}
use Rattle.mqb_script.specs.declared.events.Event.{Event}
use Rattle.mqb_transcript.specs.declared.replies.Reply.{Reply}
use Rattle.mqb_turns.specs.Replies.{told}

-- the line that was played, by what was chosen in it
abbrev pub played : ℕ × Event → Choice → Reply → Played
played line choice given = record { line = line.0; event = line.1; choice = choice; reply = given }

pub course_one : (c : Course) (ms : List Move) (m : Move)
    → course_after c (ms ++ m ∷ []) ≡ moved_on (course_after c ms) m
course_one c ms m = fold-append moved_on c ms (m ∷ [])

replies_one : (c : Course) (ms : List Move) (m : Move)
    → replies_from c (ms ++ m ∷ []) ≡ replies_from c ms ++ (answer (course_after c ms) m).reply ∷ []
replies_one c [] m = refl
replies_one c (n ∷ ms) m =
    ap (λ (rs : List network.Reply). (answer c n).reply ∷ rs) (replies_one (moved_on c n) ms m)

pub moves_one : (ps : List Played) (p : Played)
    → moves_of (ps ++ p ∷ []) ≡ moves_of ps ++ move_of p ∷ []
moves_one ps p = map-append move_of ps (p ∷ [])

lines_one : (ps : List Played) (p : Played)
    → lines_of (ps ++ p ∷ []) ≡ lines_of ps ++ (p.line, p.event) ∷ []
lines_one ps p = map-append (λ (q : Played). (q.line, q.event)) ps (p ∷ [])

-- A move more makes a run, where it may be made.
pub run_one : (c : Course) (ms : List Move) (m : Move) → IsRunFrom c ms
    → IsTrue (may (course_after c ms) m.event m.choice) → IsRunFrom c (ms ++ m ∷ [])
run_one c [] m run may_be = (may_be, tt)
run_one c (n ∷ ms) m run may_be = (run.0, run_one (moved_on c n) ms m run.1 may_be)

-- A line more does, with the reply that tells what is answered.
pub run_more : (lines : List (ℕ × Event)) (ps : List Played) (line : ℕ × Event) (choice : Choice)
    (given : Reply) → IsRunOf lines ps
    → IsTrue (may (course_of ps) (event_of line.1) choice)
    → told (answer (course_of ps) (move_of (played line choice given))).reply ≡ Ok given
    → IsRunOf (lines ++ line ∷ []) (ps ++ played line choice given ∷ [])
run_more lines ps line choice given is may_be tells = record {
  lines = lines_one ps one ∙ ap (λ (ls : List (ℕ × Event)). ls ++ line ∷ []) is.lines;
  moves = subst (IsRunFrom (beginning hosts)) (sym (moves_one ps one))
      (run_one (beginning hosts) (moves_of ps) (move_of one) is.moves may_be);
  replies = ap (λ (ms : List Move). map told (replies_from (beginning hosts) ms)) (moves_one ps one)
      ∙ ap (map told) (replies_one (beginning hosts) (moves_of ps) (move_of one))
      ∙ map-append told (replies_from (beginning hosts) (moves_of ps))
      ((answer (course_of ps) (move_of one)).reply ∷ [])
      ∙ ap (λ (rs : List (Result Reply AnswerFault)). rs
      ++ told (answer (course_of ps) (move_of one)).reply ∷ []) is.replies
      ∙ ap (λ (r : Result Reply AnswerFault). map (λ (p : Played). ok_of p.reply) ps ++ r ∷ [])
      tells
      ∙ sym (map-append (λ (p : Played). ok_of p.reply) ps (one ∷ []));
}
  where
    one : Played
    one = played line choice given

    ok_of : Reply → Result Reply AnswerFault
    ok_of r = Ok r
