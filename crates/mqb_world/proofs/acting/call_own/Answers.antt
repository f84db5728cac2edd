use Rattle.std.proofs.Common.{Some, ap, sym, subst, ◌∙◌}
use Rattle.std.specs.Option.{option_map}
use Rattle.mqb_network.specs.Events.{Event}
use Rattle.mqb_turns.specs.mqb_seats.mqb_replies.Requests.{seen_request}
use Rattle.mqb_turns.specs.Sides.{side}
use Rattle.mqb_turns.specs.Turns.{IsTurn, answers_to}
use Rattle.mqb_world.proofs.Actions.{asks_so, if_ok}
use Rattle.mqb_world.proofs.acting.call_own.Goals as goal

pub returns-clause-turn : goal.returns-clause-turn
returns-clause-turn g c = let x = side c.args.own.now c.args.other.now c.args.traffic.now in
    let asks = asks_so c.args.which c.args.event.now (seen_request c.in-Some.request) c.requires.calls (sym c.request_of.ensures ∙ ap (option_map seen_request) c.in-Some.is) in
    if_ok c.ask.result (λ given t. subst (λ (e : Event). IsTurn c.args.which x (side c.ask.new.own c.ask.new.other c.ask.new.traffic)
    (g.P.Disk.view c.args.disk.now) (g.P.Disk.view c.ask.new.disk) (g.P.Power.is_stopped c.ask.new.disk) (answers_to c.args.which x e) given) (sym asks) t) c.ask.ensures.turn
