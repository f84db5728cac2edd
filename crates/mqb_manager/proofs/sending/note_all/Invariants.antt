use Rattle.std.proofs.Common.{◌≡◌, drop, map}
use Rattle.std.specs.Prelude.{fold}
use Rattle.mqb_model.specs.managers.Beside.{noted}
use Rattle.mqb_manager.specs.Pumps.{CanNoteAll, sent_as}
use Rattle.mqb_manager.proofs.sending.note_all.Given as goal

-- what is left can be noted, and comes to the same
abbrev pub invariant-loop-choice : goal.invariant-loop-choice
invariant-loop-choice l =
    let left = map sent_as (drop l.choice-index l.choice-items) in
    record {
      can : CanNoteAll l.peer l.store.state left;
      left : record l.store { state = fold (noted l.peer) l.store.state left } ≡ record l.fn.store { state = fold (noted l.peer) l.fn.store.state (map sent_as l.choice-items) };
      same : l.choice-items ≡ l.choices.choices;
    }
