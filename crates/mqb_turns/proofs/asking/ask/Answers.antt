use Rattle.mqb_seats.specs.Seats.{seated}
use Rattle.mqb_seats.specs.lemmas.Keeping.{lasts_then_stored}
use Rattle.mqb_seats.specs.mqb_replies.Requests.{seen_request}
use Rattle.mqb_turns.proofs.Turning.{call_turn, if_ok}
use Rattle.mqb_turns.proofs.asking.ask.Goals as goal

pub returns-clause-turn : goal.returns-clause-turn
returns-clause-turn g c = let told = c.in_ok-called.ensures {u = tt} in let request = seen_request c.args.request in if_ok c.settle.result (λ given settles.
    call_turn c.args.which c.args.own.now c.ask.new.self c.args.other.now c.args.traffic.now _ _ _ (g.P.Power.is_stopped c.ask.new.disk) request
    ((c.refusals_change_nothing.ensures (seated c.args.own.now)).request_whole request).touches c.in_ok-called.called given told.called (settles c.args.which)) c.settle.ensures.settled

pub returns-clause-lasts : goal.returns-clause-lasts
returns-clause-lasts g c = lasts_then_stored c.ask.ensures.lasts c.settle.ensures.own
