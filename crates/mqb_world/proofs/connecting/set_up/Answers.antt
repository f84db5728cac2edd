use Rattle.mqb_turns.specs.mqb_seats.lemmas.Keeping.{lasts_then}
use Rattle.mqb_deliveries.specs.lemmas.Coming.{comes_then, exchange_joined, short_then}
use Rattle.mqb_network.specs.Connecting.{exchanged}
use Rattle.mqb_network.specs.Courses.{course_from}
use Rattle.mqb_script.specs.Managers.{other}
use Rattle.mqb_traffic.specs.Networks.{index_of}
use Rattle.mqb_turns.specs.Counts.{counts_with}
use Rattle.mqb_world.proofs.Joined.{exchange_none, first_quiet, first_stands, ok_of, ok_then, packets_then, second_quiet, second_stands, short_first}
use Rattle.mqb_world.specs.Sides.{network_in}
use Rattle.mqb_world.proofs.connecting.set_up.Goals as goal

pub exchange-requires-clause-quiet : goal.exchange-requires-clause-quiet
exchange-requires-clause-quiet g c = let a = index_of c.args.which in let b = index_of (other c.args.which) in let now = c.args.now in let law = c.moves_are_events.ensures in
    let n = network_in c.args.alpha.now c.args.beta.now c.args.traffic.now in
    first_quiet (exchanged a b now) (exchanged a b now) (exchange_joined law a b now) n c.requires.quiet c.requires.stands (exchange_none a b now)

pub exchange-requires-clause-stands : goal.exchange-requires-clause-stands
exchange-requires-clause-stands g c = let a = index_of c.args.which in let b = index_of (other c.args.which) in let now = c.args.now in let law = c.moves_are_events.ensures in
    let n = network_in c.args.alpha.now c.args.beta.now c.args.traffic.now in
    first_stands (exchanged a b now) (exchanged a b now) (exchange_joined law a b now) n c.requires.quiet c.requires.stands (exchange_none a b now)

pub returns-in-Err-clause-short : goal.returns-in-Err-clause-short
returns-in-Err-clause-short g c = let a = index_of c.args.which in let b = index_of (other c.args.which) in let now = c.args.now in let law = c.moves_are_events.ensures in
    let n = network_in c.args.alpha.now c.args.beta.now c.args.traffic.now in
    short_first _ (exchanged a b now) (exchange_joined law a b now) ((exchanged a b now) (course_from n)) _ _ c.exchange.result c.in-Err.fault c.in-Err.is c.exchange.ensures.short

pub exchange-requires-2-clause-packets : goal.exchange-requires-2-clause-packets
exchange-requires-2-clause-packets g c = let a = index_of c.args.which in let b = index_of (other c.args.which) in let now = c.args.now in let law = c.moves_are_events.ensures in
    let n = network_in c.args.alpha.now c.args.beta.now c.args.traffic.now in
    let n1 = network_in c.exchange.new.alpha c.exchange.new.beta c.exchange.new.traffic in let ss = g.M.Medium.strings c.args.medium.now in let ss1 = g.M.Medium.strings c.exchange.new.medium in
    let first = ok_of c.exchange.result c.in_default.not-Err c.exchange.ensures.comes in
    packets_then ((exchanged a b now) (course_from n)) (counts_with c.args.alpha.now c.args.beta.now) n1 (counts_with c.exchange.new.alpha c.exchange.new.beta) ss ss1 c.requires.packets first

pub exchange-requires-2-clause-quiet : goal.exchange-requires-2-clause-quiet
exchange-requires-2-clause-quiet g c = let a = index_of c.args.which in let b = index_of (other c.args.which) in let now = c.args.now in let law = c.moves_are_events.ensures in
    let n = network_in c.args.alpha.now c.args.beta.now c.args.traffic.now in
    let n1 = network_in c.exchange.new.alpha c.exchange.new.beta c.exchange.new.traffic in let ss = g.M.Medium.strings c.args.medium.now in let ss1 = g.M.Medium.strings c.exchange.new.medium in
    let first = ok_of c.exchange.result c.in_default.not-Err c.exchange.ensures.comes in
    second_quiet (exchanged a b now) (exchanged a b now) (exchange_joined law a b now) n c.requires.quiet c.requires.stands (exchange_none a b now) (counts_with c.args.alpha.now c.args.beta.now) n1 (counts_with c.exchange.new.alpha c.exchange.new.beta) ss ss1 first

pub exchange-requires-2-clause-stands : goal.exchange-requires-2-clause-stands
exchange-requires-2-clause-stands g c = let a = index_of c.args.which in let b = index_of (other c.args.which) in let now = c.args.now in let law = c.moves_are_events.ensures in
    let n = network_in c.args.alpha.now c.args.beta.now c.args.traffic.now in
    let n1 = network_in c.exchange.new.alpha c.exchange.new.beta c.exchange.new.traffic in let ss = g.M.Medium.strings c.args.medium.now in let ss1 = g.M.Medium.strings c.exchange.new.medium in
    let first = ok_of c.exchange.result c.in_default.not-Err c.exchange.ensures.comes in
    second_stands (exchanged a b now) (exchanged a b now) (exchange_joined law a b now) n c.requires.quiet c.requires.stands (exchange_none a b now) (counts_with c.args.alpha.now c.args.beta.now) n1 (counts_with c.exchange.new.alpha c.exchange.new.beta) ss ss1 first

pub returns-clause-comes : goal.returns-clause-comes
returns-clause-comes g c = let a = index_of c.args.which in let b = index_of (other c.args.which) in let now = c.args.now in let law = c.moves_are_events.ensures in
    let n = network_in c.args.alpha.now c.args.beta.now c.args.traffic.now in
    let n1 = network_in c.exchange.new.alpha c.exchange.new.beta c.exchange.new.traffic in let ss = g.M.Medium.strings c.args.medium.now in let ss1 = g.M.Medium.strings c.exchange.new.medium in
    let first = ok_of c.exchange.result c.in_default.not-Err c.exchange.ensures.comes in
    let n2 = network_in c.exchange-2.new.alpha c.exchange-2.new.beta c.exchange-2.new.traffic in let ss2 = g.M.Medium.strings c.exchange-2.new.medium in let r = c.exchange-2.result in
    ok_then r (λ second. comes_then (exchanged a b now) (exchange_joined law a b now) ((exchanged a b now) (course_from n)) (counts_with c.args.alpha.now c.args.beta.now) n1 (counts_with c.exchange.new.alpha c.exchange.new.beta) ss ss1 first n2 (counts_with c.exchange-2.new.alpha c.exchange-2.new.beta) ss2 second) c.exchange-2.ensures.comes

pub returns-clause-short : goal.returns-clause-short
returns-clause-short g c = let a = index_of c.args.which in let b = index_of (other c.args.which) in let now = c.args.now in let law = c.moves_are_events.ensures in
    let n = network_in c.args.alpha.now c.args.beta.now c.args.traffic.now in
    let n1 = network_in c.exchange.new.alpha c.exchange.new.beta c.exchange.new.traffic in let ss = g.M.Medium.strings c.args.medium.now in let ss1 = g.M.Medium.strings c.exchange.new.medium in
    let first = ok_of c.exchange.result c.in_default.not-Err c.exchange.ensures.comes in
    let n2 = network_in c.exchange-2.new.alpha c.exchange-2.new.beta c.exchange-2.new.traffic in let ss2 = g.M.Medium.strings c.exchange-2.new.medium in let r = c.exchange-2.result in
    short_then (exchanged a b now) (exchange_joined law a b now) ((exchanged a b now) (course_from n)) (counts_with c.args.alpha.now c.args.beta.now) n1 (counts_with c.exchange.new.alpha c.exchange.new.beta) ss ss1 first ss2 r c.exchange-2.ensures.short

pub returns-clause-alpha : goal.returns-clause-alpha
returns-clause-alpha g c = lasts_then c.exchange.ensures.alpha c.exchange-2.ensures.alpha

pub returns-clause-beta : goal.returns-clause-beta
returns-clause-beta g c = lasts_then c.exchange.ensures.beta c.exchange-2.ensures.beta

pub exchange-requires-2-clause-alpha : goal.exchange-requires-2-clause-alpha
exchange-requires-2-clause-alpha g c = c.exchange.ensures.alpha.held

pub exchange-requires-2-clause-beta : goal.exchange-requires-2-clause-beta
exchange-requires-2-clause-beta g c = c.exchange.ensures.beta.held
