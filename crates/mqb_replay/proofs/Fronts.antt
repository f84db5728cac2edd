-- What was written of a run.
use Rattle.std.proofs.Common.{◌≡◌, List, [], ◌∷◌, ◌++◌, Option, append-nil, arith, sym, ℕ}
use Rattle.mqb_outside.specs.Told.{Took}
use Rattle.mqb_world.specs.mqb_runs.Runs.{Played, course_of}
use Rattle.mqb_world.specs.mqb_runs.Texts.{end_lines, reply_lines}
use Rattle.mqb_script.specs.declared.events.Event.{Event}
use Rattle.mqb_commands.specs.Outputs.{TookFront}
use Rattle.mqb_commands.specs.lemmas.Taking.{front_more}
use Rattle.mqb_replay.specs.Replays.{TookReplies, text_before}

-- a front of its replies is one of all that is to be written
pub front_before : (rest : List (ℕ × Event)) (run : List Played) (before after : Option (List ℕ)) → TookFront before after (reply_lines run) → TookFront before after (text_before rest run)
front_before [] run before after front = front_more before after (reply_lines run) (end_lines (course_of run).network) front
front_before (line ∷ rest) run before after front = front

-- all its replies were written
pub took_all : (run : List Played) (before after : Option (List ℕ)) → Took before after (reply_lines run) → TookReplies run before after
took_all run before after took = record { told = run; untold = []; split = sym (append-nil run); at_most_one = omega arith; took = took }

-- or all but the last one
pub took_but_last : (run told : List Played) (last : Played) (before after : Option (List ℕ)) → run ≡ told ++ last ∷ [] → Took before after (reply_lines told) → TookReplies run before after
took_but_last run told last before after is took = record { told = told; untold = last ∷ []; split = is; at_most_one = omega arith; took = took }
