use Rattle.std.proofs.Common.{◌≡◌, [], sym, subst}
use Rattle.std.specs.Prelude.{OnOk, map}
use Rattle.mqb_deliveries.specs.lemmas.Coming.{comes_then, flow_joined, flow_none, short_then}
use Rattle.mqb_deliveries.specs.Courses.{ComesTo}
use Rattle.mqb_deliveries.specs.Steps.{IsShort}
use Rattle.mqb_network.specs.Courses.{course_from}
use Rattle.mqb_packet.specs.Plain.{plain_spelling}
use Rattle.mqb_turns.specs.mqb_seats.lemmas.Keeping.{lasts_then}
use Rattle.mqb_script.specs.Managers.{other}
use Rattle.mqb_script.specs.declared.managers.Which.{Which}
use Rattle.mqb_traffic.specs.Networks.{index_of}
use Rattle.mqb_turns.specs.Counts.{counts_with}
use Rattle.mqb_world.proofs.Joined.{first_quiet, first_stands, flows_of, ok_of, ok_then, packets_then, second_quiet, second_stands, short_first}
use Rattle.mqb_world.specs.Sides.{network_in}
use Rattle.mqb_world.proofs.connecting.exchange.Goals as goal

pub flow_quietly-requires-clause-quiet : goal.flow_quietly-requires-clause-quiet
flow_quietly-requires-clause-quiet g c = let a = index_of c.args.which in let b = index_of (other c.args.which) in let now = c.args.now in let law = c.moves_are_events.ensures in
    let n = network_in c.args.alpha.now c.args.beta.now c.args.traffic.now in
    first_quiet (flows_of b now) (flows_of a now) (flow_joined law b now) n c.requires.quiet c.requires.stands (flow_none b now)

pub flow_quietly-requires-clause-stands : goal.flow_quietly-requires-clause-stands
flow_quietly-requires-clause-stands g c = let a = index_of c.args.which in let b = index_of (other c.args.which) in let now = c.args.now in let law = c.moves_are_events.ensures in
    let n = network_in c.args.alpha.now c.args.beta.now c.args.traffic.now in
    first_stands (flows_of b now) (flows_of a now) (flow_joined law b now) n c.requires.quiet c.requires.stands (flow_none b now)

pub returns-in-Err-clause-short : goal.returns-in-Err-clause-short
returns-in-Err-clause-short g c = let a = index_of c.args.which in let b = index_of (other c.args.which) in let now = c.args.now in let law = c.moves_are_events.ensures in
    let n = network_in c.args.alpha.now c.args.beta.now c.args.traffic.now in
    short_first _ (flows_of b now) (flow_joined law b now) ((flows_of a now) (course_from n)) _ _ c.flow_quietly.result c.in-Err.fault c.in-Err.is c.flow_quietly.ensures.short

pub flow_quietly-requires-2-clause-packets : goal.flow_quietly-requires-2-clause-packets
flow_quietly-requires-2-clause-packets g c = let a = index_of c.args.which in let b = index_of (other c.args.which) in let now = c.args.now in let law = c.moves_are_events.ensures in
    let n = network_in c.args.alpha.now c.args.beta.now c.args.traffic.now in
    let n1 = network_in c.flow_quietly.new.alpha c.flow_quietly.new.beta c.flow_quietly.new.traffic in let ss = g.M.Medium.strings c.args.medium.now in let ss1 = g.M.Medium.strings c.flow_quietly.new.medium in
    let first = ok_of c.flow_quietly.result c.in_default.not-Err c.flow_quietly.ensures.comes in
    packets_then ((flows_of a now) (course_from n)) (counts_with c.args.alpha.now c.args.beta.now) n1 (counts_with c.flow_quietly.new.alpha c.flow_quietly.new.beta) ss ss1 c.requires.packets first

pub flow_quietly-requires-2-clause-quiet : goal.flow_quietly-requires-2-clause-quiet
flow_quietly-requires-2-clause-quiet g c = let a = index_of c.args.which in let b = index_of (other c.args.which) in let now = c.args.now in let law = c.moves_are_events.ensures in
    let n = network_in c.args.alpha.now c.args.beta.now c.args.traffic.now in
    let n1 = network_in c.flow_quietly.new.alpha c.flow_quietly.new.beta c.flow_quietly.new.traffic in let ss = g.M.Medium.strings c.args.medium.now in let ss1 = g.M.Medium.strings c.flow_quietly.new.medium in
    let first = ok_of c.flow_quietly.result c.in_default.not-Err c.flow_quietly.ensures.comes in
    subst (λ (w : Which). (flows_of (index_of w) now (course_from n1)).written ≡ []) (sym c.other.ensures) (second_quiet (flows_of b now) (flows_of a now) (flow_joined law b now) n c.requires.quiet c.requires.stands (flow_none b now) (counts_with c.args.alpha.now c.args.beta.now) n1 (counts_with c.flow_quietly.new.alpha c.flow_quietly.new.beta) ss ss1 first)

pub flow_quietly-requires-2-clause-stands : goal.flow_quietly-requires-2-clause-stands
flow_quietly-requires-2-clause-stands g c = let a = index_of c.args.which in let b = index_of (other c.args.which) in let now = c.args.now in let law = c.moves_are_events.ensures in
    let n = network_in c.args.alpha.now c.args.beta.now c.args.traffic.now in
    let n1 = network_in c.flow_quietly.new.alpha c.flow_quietly.new.beta c.flow_quietly.new.traffic in let ss = g.M.Medium.strings c.args.medium.now in let ss1 = g.M.Medium.strings c.flow_quietly.new.medium in
    let first = ok_of c.flow_quietly.result c.in_default.not-Err c.flow_quietly.ensures.comes in
    subst (λ (w : Which). (flows_of (index_of w) now (course_from n1)).network.connections ≡ [] → ⊥) (sym c.other.ensures) (second_stands (flows_of b now) (flows_of a now) (flow_joined law b now) n c.requires.quiet c.requires.stands (flow_none b now) (counts_with c.args.alpha.now c.args.beta.now) n1 (counts_with c.flow_quietly.new.alpha c.flow_quietly.new.beta) ss ss1 first)

pub returns-clause-comes : goal.returns-clause-comes
returns-clause-comes g c = let a = index_of c.args.which in let b = index_of (other c.args.which) in let now = c.args.now in let law = c.moves_are_events.ensures in
    let n = network_in c.args.alpha.now c.args.beta.now c.args.traffic.now in
    let n1 = network_in c.flow_quietly.new.alpha c.flow_quietly.new.beta c.flow_quietly.new.traffic in let ss = g.M.Medium.strings c.args.medium.now in let ss1 = g.M.Medium.strings c.flow_quietly.new.medium in
    let first = ok_of c.flow_quietly.result c.in_default.not-Err c.flow_quietly.ensures.comes in
    let n2 = network_in c.flow_quietly-2.new.alpha c.flow_quietly-2.new.beta c.flow_quietly-2.new.traffic in let ss2 = g.M.Medium.strings c.flow_quietly-2.new.medium in let r = c.flow_quietly-2.result in
    ok_then r (λ second. comes_then (flows_of b now) (flow_joined law b now) ((flows_of a now) (course_from n)) (counts_with c.args.alpha.now c.args.beta.now) n1 (counts_with c.flow_quietly.new.alpha c.flow_quietly.new.beta) ss ss1 first n2 (counts_with c.flow_quietly-2.new.alpha c.flow_quietly-2.new.beta) ss2 second) (subst (λ (w : Which). OnOk r (ComesTo (flows_of (index_of w) now (course_from n1)) (counts_with c.flow_quietly.new.alpha c.flow_quietly.new.beta) n2 (counts_with c.flow_quietly-2.new.alpha c.flow_quietly-2.new.beta) ss1 ss2)) c.other.ensures c.flow_quietly-2.ensures.comes)

pub returns-clause-short : goal.returns-clause-short
returns-clause-short g c = let a = index_of c.args.which in let b = index_of (other c.args.which) in let now = c.args.now in let law = c.moves_are_events.ensures in
    let n = network_in c.args.alpha.now c.args.beta.now c.args.traffic.now in
    let n1 = network_in c.flow_quietly.new.alpha c.flow_quietly.new.beta c.flow_quietly.new.traffic in let ss = g.M.Medium.strings c.args.medium.now in let ss1 = g.M.Medium.strings c.flow_quietly.new.medium in
    let first = ok_of c.flow_quietly.result c.in_default.not-Err c.flow_quietly.ensures.comes in
    let n2 = network_in c.flow_quietly-2.new.alpha c.flow_quietly-2.new.beta c.flow_quietly-2.new.traffic in let ss2 = g.M.Medium.strings c.flow_quietly-2.new.medium in let r = c.flow_quietly-2.result in
    short_then (flows_of b now) (flow_joined law b now) ((flows_of a now) (course_from n)) (counts_with c.args.alpha.now c.args.beta.now) n1 (counts_with c.flow_quietly.new.alpha c.flow_quietly.new.beta) ss ss1 first ss2 r (subst (λ (w : Which). IsShort (map plain_spelling (flows_of (index_of w) now (course_from n1)).sent) ss1 ss2 r) c.other.ensures c.flow_quietly-2.ensures.short)

pub returns-clause-alpha : goal.returns-clause-alpha
returns-clause-alpha g c = lasts_then c.flow_quietly.ensures.alpha c.flow_quietly-2.ensures.alpha

pub returns-clause-beta : goal.returns-clause-beta
returns-clause-beta g c = lasts_then c.flow_quietly.ensures.beta c.flow_quietly-2.ensures.beta

pub flow_quietly-requires-2-clause-alpha : goal.flow_quietly-requires-2-clause-alpha
flow_quietly-requires-2-clause-alpha g c = c.flow_quietly.ensures.alpha.held

pub flow_quietly-requires-2-clause-beta : goal.flow_quietly-requires-2-clause-beta
flow_quietly-requires-2-clause-beta g c = c.flow_quietly.ensures.beta.held
