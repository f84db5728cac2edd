use Rattle.std.proofs.Common.{subst, sym}
use Rattle.mqb_model.specs.records.Reading.{record_in}
use Rattle.mqb_model.specs.state.Valid.{IsValidState}
use Rattle.mqb_state.proofs.Tried.{few_named, prepared_as}
use Rattle.mqb_state.proofs.state.State.prepare.Goals as goal

pub turn-requires-clause-valid : goal.turn-requires-clause-valid
turn-requires-clause-valid c = subst IsValidState (sym c.in-Ok.ensures.back.lists) c.is_valid.ensures

pub returns-in_ok-turn-in-Ok-clause-ok : goal.returns-in_ok-turn-in-Ok-clause-ok
returns-in_ok-turn-in-Ok-clause-ok c = prepared_as c.args.self.now.lists (record_in c.args.entry.now) c.turn.new.self c.in_ok-turn-in-Ok.field-0 c.attempt.new.self.lists
    c.in-Ok.attempt.lines c.in_ok-turn-in-Ok.ensures.from c.in_ok-turn-in-Ok.ensures.again c.in_ok-turn-in-Ok.ensures.lines c.in-Ok.ensures.ok

pub returns-in_ok-turn-in-Ok-clause-few : goal.returns-in_ok-turn-in-Ok-clause-few
returns-in_ok-turn-in-Ok-clause-few c = few_named c.args.self.now.lists (record_in c.args.entry.now) _ _ c.in_ok-turn-in-Ok.ensures.messages c.in-Ok.ensures.few
