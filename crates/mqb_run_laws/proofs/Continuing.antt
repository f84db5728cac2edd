-- Behind a run of the first lines all others can be played.
use Rattle.std.proofs.Common.{List, [], ◌∷◌, ◌++◌, append-nil, append_assoc, sym, subst, ℕ}
use Rattle.mqb_replies.specs.Asked.{CheckpointsAreReplied, RequestsAreReplied}
use Rattle.mqb_history.specs.Laws.{HistoriesAreOrderly, RunsHaveHistories}
use Rattle.mqb_history.specs.Orderly.{IsOrderly}
use Rattle.mqb_network.specs.Runs.{IsRun, Move, after_run}
use Rattle.mqb_runs.specs.Hosts.{hosts}
use Rattle.mqb_runs.specs.lemmas.Growing.{played, run_more}
use Rattle.mqb_runs.specs.lemmas.Orderly.{run_is_orderly}
use Rattle.mqb_runs.specs.Runs.{IsRunOf, Played, course_of, moves_of}
use Rattle.std.specs.List.{AllByRecursion}
use Rattle.mqb_script.specs.Formed.{IsFormed}
use Rattle.mqb_script.specs.declared.grammar.Grammar.TheVariants.{Pair}
use Rattle.mqb_script.specs.declared.events.Event.{Event}
use Rattle.mqb_run_laws.specs.Continuing.{Continues, RunsContinue}
use Rattle.mqb_run_laws.proofs.Events.{CanBePlayed, can_be_played}

module _ (told : RequestsAreReplied) (based : CheckpointsAreReplied) (runs : RunsHaveHistories) (histories : HistoriesAreOrderly) where
  orderly : (ms : List Move) → IsRun hosts ms → IsOrderly hosts (after_run hosts ms)
  orderly ms run = run_is_orderly runs histories ms run

  go_on : (rest first : List (ℕ × Event)) (run : List Played) → AllByRecursion (λ line. IsFormed Pair line.1) rest → IsRunOf first run → Continues (first ++ rest) run
  go_on [] first run formed is = record {
    more = [];
    whole = subst (λ (ls : List (ℕ × Event)). IsRunOf ls (run ++ [])) (sym (append-nil first)) (subst (IsRunOf first) (sym (append-nil run)) is);
  }
  go_on (line ∷ rest) first run formed is =
      let can : CanBePlayed told based (course_of run) (orderly (moves_of run) is.moves) line.1 = can_be_played told based (course_of run) (orderly (moves_of run) is.moves) line.1 formed.0 in
      let one : Played = played line can.choice can.tells.0 in
      let so : Continues ((first ++ line ∷ []) ++ rest) (run ++ one ∷ []) =
      go_on rest (first ++ line ∷ []) (run ++ one ∷ []) formed.1 (run_more first run line can.choice can.tells.0 is can.may_be can.tells.1) in
      record {
        more = one ∷ so.more;
        whole = subst (λ (ls : List (ℕ × Event)). IsRunOf ls (run ++ one ∷ so.more)) (append_assoc first (line ∷ []) rest)
            (subst (IsRunOf ((first ++ line ∷ []) ++ rest)) (append_assoc run (one ∷ []) so.more) so.whole);
      }

  pub continue : RunsContinue
  continue first rest run formed is = go_on rest first run formed is
