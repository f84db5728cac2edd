use Rattle.std.proofs.Common.{◌+◌, sym, ap, ◌∙◌, arith}
use Rattle.std.specs.Option.{option_map}
use Rattle.mqb_model.specs.rules.Timeouts.{cannot_reach}
use Rattle.mqb_queue.proofs.Positions.{none_found}
use Rattle.mqb_rules.proofs.Searches.{found_behind}
use Rattle.mqb_timeouts.proofs.lapses.index_due_from.Goals as goal

pub returns-then-from-messages-clause-index : goal.returns-then-from-messages-clause-index
returns-then-from-messages-clause-index c = sym (none_found (cannot_reach c.args.now) c.args.messages.now c.args.from c.requires (omega arith))

pub returns-in-Some-clause-index : goal.returns-in-Some-clause-index
returns-in-Some-clause-index c = sym (found_behind (cannot_reach c.args.now) c.args.messages.now c.args.from c.requires (omega arith)
    ∙ ap (option_map (λ k. c.args.from + k)) (sym c.in-Some.ensures.index))

pub returns-in-None-clause-index : goal.returns-in-None-clause-index
returns-in-None-clause-index c = sym (found_behind (cannot_reach c.args.now) c.args.messages.now c.args.from c.requires (omega arith)
    ∙ ap (option_map (λ k. c.args.from + k)) (sym c.in-None.ensures.index))
