use Rattle.mqb_seats.specs.lemmas.Keeping.{lasts_then_stored}
use Rattle.mqb_turns.proofs.Rewriting.{rewrite_turn}
use Rattle.mqb_turns.proofs.Turning.{if_ok}
use Rattle.mqb_turns.proofs.checkpoints.checkpoint.Goals as goal

pub returns-clause-turn : goal.returns-clause-turn
returns-clause-turn g c = let told = c.in_ok-called.ensures {u = tt} in if_ok c.settle.result (λ given settles.
    rewrite_turn c.args.which c.args.own.now c.checkpoint.new.self c.args.other.now c.args.traffic.now _ _ _ (g.P.Power.is_stopped c.checkpoint.new.disk) c.requires.held
    c.in_ok-called.called given told.rewritten (settles c.args.which)) c.settle.ensures.settled

pub returns-clause-lasts : goal.returns-clause-lasts
returns-clause-lasts g c = lasts_then_stored c.checkpoint.ensures.lasts c.settle.ensures.own
