use Rattle.std.proofs.Common.{◌≡◌, Err, None, ◌∙◌, arith, rules, subst, sym}
use Rattle.mqb_deliveries.specs.Failing.{FailsAs, failures_in}
use Rattle.mqb_deliveries.specs.Steps.{FallsShort}
use Rattle.mqb_network.specs.Events.{Flow}
use Rattle.mqb_posts.specs.declared.faults.PostFault.TheVariants as post
use Rattle.mqb_turns.specs.mqb_seats.declared.packets.Pumped.TheVariants.{Broke, Refused, Went}
use Rattle.mqb_traffic.specs.Networks.{index_of, notes_of}
use Rattle.mqb_turns.specs.mqb_seats.lemmas.Keeping.{lasts_then}
use Rattle.mqb_world.proofs.Flowed.{broke_alpha, broke_beta, broke_for_each, broke_told, flow_short_as, refused_alpha, refused_beta, refused_flow, refused_for_each, sent_as, went_alpha, went_beta, went_flow, went_for_each, went_front, went_length, went_packets}
use Rattle.mqb_world.proofs.Flowing.{notes_stay}
use Rattle.mqb_world.specs.Sides.{world}
use Rattle.mqb_world.specs.Worlds.{network_of}
use Rattle.mqb_world.proofs.flows.flow.Goals as goal

pub count-before-requires : goal.count-before-requires
count-before-requires g c = let few = (g.met.M.Medium.counted c.args.medium.now).count in let noted = c.requires.noted in omega (arith, few, noted)

pub send-requires-clause-few : goal.send-requires-clause-few
send-requires-clause-few g c = let few = (g.met.M.Medium.counted c.args.medium.now).count in let noted = c.requires.noted in omega (arith, few, noted)

pub returns-in-Err-clause-short : goal.returns-in-Err-clause-short
returns-in-Err-clause-short g c = flow_short_as c.args.which (world c.args.alpha.now c.args.beta.now c.args.traffic.now) _ _ c.args.now c.send.result c.in-Err.fault c.in-Err.is c.send.ensures.short

pub deliver_all-requires-clause-last : goal.deliver_all-requires-clause-last
deliver_all-requires-clause-last g c = let longer = went_length (world c.args.alpha.now c.args.beta.now c.args.traffic.now) (world c.send.new.alpha c.send.new.beta c.send.new.traffic) _ _ _ _ _ _ _ _ c.args.now c.in-Went.count c.in-Went.recorded c.requires.noted c.args.which c.requires.unlinked (sent_as c.args.which (world c.args.alpha.now c.args.beta.now c.args.traffic.now) (world c.send.new.alpha c.send.new.beta c.send.new.traffic) _ _ _ _ _ _ _ _ c.args.now c.send.result c.in-Ok.pumped (Went c.in-Went.count c.in-Went.recorded) c.send.ensures.sent c.in-Ok.is c.in-Went.is) in let before = c.count-before.ensures in omega (arith, longer, before)

pub deliver_all-requires-clause-noted : goal.deliver_all-requires-clause-noted
deliver_all-requires-clause-noted g c = went_for_each (world c.args.alpha.now c.args.beta.now c.args.traffic.now) (world c.send.new.alpha c.send.new.beta c.send.new.traffic) _ _ _ _ _ _ _ _ c.args.now c.in-Went.count c.in-Went.recorded c.requires.noted c.args.which c.requires.unlinked (sent_as c.args.which (world c.args.alpha.now c.args.beta.now c.args.traffic.now) (world c.send.new.alpha c.send.new.beta c.send.new.traffic) _ _ _ _ _ _ _ _ c.args.now c.send.result c.in-Ok.pumped (Went c.in-Went.count c.in-Went.recorded) c.send.ensures.sent c.in-Ok.is c.in-Went.is)

pub deliver_all-requires-clause-packets : goal.deliver_all-requires-clause-packets
deliver_all-requires-clause-packets g c = went_packets (world c.args.alpha.now c.args.beta.now c.args.traffic.now) (world c.send.new.alpha c.send.new.beta c.send.new.traffic) _ _ _ _ _ _ _ _ c.args.now c.in-Went.count c.in-Went.recorded c.requires.noted c.refusals_change_nothing.ensures c.requires.packets c.args.which (sent_as c.args.which (world c.args.alpha.now c.args.beta.now c.args.traffic.now) (world c.send.new.alpha c.send.new.beta c.send.new.traffic) _ _ _ _ _ _ _ _ c.args.now c.send.result c.in-Ok.pumped (Went c.in-Went.count c.in-Went.recorded) c.send.ensures.sent c.in-Ok.is c.in-Went.is)

pub returns-in_err-deliver_all-in-Went-clause-short : goal.returns-in_err-deliver_all-in-Went-clause-short
returns-in_err-deliver_all-in-Went-clause-short g c = let is : c.from_residual.result ≡ Err post.Memory = search rules in
    subst (λ r. FallsShort (network_of (world c.args.alpha.now c.args.beta.now c.args.traffic.now)) None (Flow (index_of c.args.which) c.args.now) (g.M.Medium.strings c.args.medium.now) (g.M.Medium.strings c.send.new.medium) r) (sym is)
    (went_front (world c.args.alpha.now c.args.beta.now c.args.traffic.now) (world c.send.new.alpha c.send.new.beta c.send.new.traffic) _ _ _ _ _ _ _ _ c.args.now c.in-Went.count c.in-Went.recorded c.requires.noted c.refusals_change_nothing.ensures c.requires.packets c.args.which (sent_as c.args.which (world c.args.alpha.now c.args.beta.now c.args.traffic.now) (world c.send.new.alpha c.send.new.beta c.send.new.traffic) _ _ _ _ _ _ _ _ c.args.now c.send.result c.in-Ok.pumped (Went c.in-Went.count c.in-Went.recorded) c.send.ensures.sent c.in-Ok.is c.in-Went.is))

pub returns-in_ok-deliver_all-in-Went-clause-step : goal.returns-in_ok-deliver_all-in-Went-clause-step
returns-in_ok-deliver_all-in-Went-clause-step g c = went_flow (world c.args.alpha.now c.args.beta.now c.args.traffic.now) (world c.send.new.alpha c.send.new.beta c.send.new.traffic) _ _ _ _ _ _ _ _ c.args.now c.in-Went.count c.in-Went.recorded c.requires.noted c.refusals_change_nothing.ensures c.requires.packets (world c.deliver_all.new.alpha c.deliver_all.new.beta c.deliver_all.new.traffic) _ _ _ _ c.count-before.result c.in_ok-deliver_all-in-Went.field-0 c.count-before.ensures (c.in_ok-deliver_all-in-Went.ensures {u = tt}).flows c.args.which (sent_as c.args.which (world c.args.alpha.now c.args.beta.now c.args.traffic.now) (world c.send.new.alpha c.send.new.beta c.send.new.traffic) _ _ _ _ _ _ _ _ c.args.now c.send.result c.in-Ok.pumped (Went c.in-Went.count c.in-Went.recorded) c.send.ensures.sent c.in-Ok.is c.in-Went.is)

pub returns-in_ok-deliver_all-in-Went-clause-noted : goal.returns-in_ok-deliver_all-in-Went-clause-noted
returns-in_ok-deliver_all-in-Went-clause-noted g c = notes_stay (world c.send.new.alpha c.send.new.beta c.send.new.traffic) (world c.deliver_all.new.alpha c.deliver_all.new.beta c.deliver_all.new.traffic) (c.in_ok-deliver_all-in-Went.ensures {u = tt}).flows.notes
    ∙ went_for_each (world c.args.alpha.now c.args.beta.now c.args.traffic.now) (world c.send.new.alpha c.send.new.beta c.send.new.traffic) _ _ _ _ _ _ _ _ c.args.now c.in-Went.count c.in-Went.recorded c.requires.noted c.args.which c.requires.unlinked (sent_as c.args.which (world c.args.alpha.now c.args.beta.now c.args.traffic.now) (world c.send.new.alpha c.send.new.beta c.send.new.traffic) _ _ _ _ _ _ _ _ c.args.now c.send.result c.in-Ok.pumped (Went c.in-Went.count c.in-Went.recorded) c.send.ensures.sent c.in-Ok.is c.in-Went.is)

pub returns-in_ok-deliver_all-in-Went-clause-alpha_faults : goal.returns-in_ok-deliver_all-in-Went-clause-alpha_faults
returns-in_ok-deliver_all-in-Went-clause-alpha_faults g c = went_alpha (world c.args.alpha.now c.args.beta.now c.args.traffic.now) (world c.send.new.alpha c.send.new.beta c.send.new.traffic) _ _ _ _ _ _ _ _ c.args.now c.in-Went.count c.in-Went.recorded c.requires.noted c.refusals_change_nothing.ensures c.requires.packets (world c.deliver_all.new.alpha c.deliver_all.new.beta c.deliver_all.new.traffic) _ _ _ _ c.count-before.result c.in_ok-deliver_all-in-Went.field-0 c.count-before.ensures (c.in_ok-deliver_all-in-Went.ensures {u = tt}).flows c.args.which (sent_as c.args.which (world c.args.alpha.now c.args.beta.now c.args.traffic.now) (world c.send.new.alpha c.send.new.beta c.send.new.traffic) _ _ _ _ _ _ _ _ c.args.now c.send.result c.in-Ok.pumped (Went c.in-Went.count c.in-Went.recorded) c.send.ensures.sent c.in-Ok.is c.in-Went.is)

pub returns-in_ok-deliver_all-in-Went-clause-beta_faults : goal.returns-in_ok-deliver_all-in-Went-clause-beta_faults
returns-in_ok-deliver_all-in-Went-clause-beta_faults g c = went_beta (world c.args.alpha.now c.args.beta.now c.args.traffic.now) (world c.send.new.alpha c.send.new.beta c.send.new.traffic) _ _ _ _ _ _ _ _ c.args.now c.in-Went.count c.in-Went.recorded c.requires.noted c.refusals_change_nothing.ensures c.requires.packets (world c.deliver_all.new.alpha c.deliver_all.new.beta c.deliver_all.new.traffic) _ _ _ _ c.count-before.result c.in_ok-deliver_all-in-Went.field-0 c.count-before.ensures (c.in_ok-deliver_all-in-Went.ensures {u = tt}).flows c.args.which (sent_as c.args.which (world c.args.alpha.now c.args.beta.now c.args.traffic.now) (world c.send.new.alpha c.send.new.beta c.send.new.traffic) _ _ _ _ _ _ _ _ c.args.now c.send.result c.in-Ok.pumped (Went c.in-Went.count c.in-Went.recorded) c.send.ensures.sent c.in-Ok.is c.in-Went.is)

pub returns-in-Refused-clause-step : goal.returns-in-Refused-clause-step
returns-in-Refused-clause-step g c = refused_flow c.args.which (world c.args.alpha.now c.args.beta.now c.args.traffic.now) (world c.send.new.alpha c.send.new.beta c.send.new.traffic) _ _ _ _ _ _ _ _ c.args.now c.in-Refused.reply (sent_as c.args.which (world c.args.alpha.now c.args.beta.now c.args.traffic.now) (world c.send.new.alpha c.send.new.beta c.send.new.traffic) _ _ _ _ _ _ _ _ c.args.now c.send.result c.in-Ok.pumped (Refused c.in-Refused.reply) c.send.ensures.sent c.in-Ok.is c.in-Refused.is)

pub returns-in-Refused-clause-noted : goal.returns-in-Refused-clause-noted
returns-in-Refused-clause-noted g c = refused_for_each (world c.args.alpha.now c.args.beta.now c.args.traffic.now) (world c.send.new.alpha c.send.new.beta c.send.new.traffic) _ _ _ _ _ _ _ _ c.args.now (notes_of c.send.new.traffic) c.args.which c.in-Refused.reply c.requires.noted (sent_as c.args.which (world c.args.alpha.now c.args.beta.now c.args.traffic.now) (world c.send.new.alpha c.send.new.beta c.send.new.traffic) _ _ _ _ _ _ _ _ c.args.now c.send.result c.in-Ok.pumped (Refused c.in-Refused.reply) c.send.ensures.sent c.in-Ok.is c.in-Refused.is)

pub returns-in-Refused-clause-alpha_faults : goal.returns-in-Refused-clause-alpha_faults
returns-in-Refused-clause-alpha_faults g c = refused_alpha (world c.args.alpha.now c.args.beta.now c.args.traffic.now) (world c.send.new.alpha c.send.new.beta c.send.new.traffic) _ _ _ _ _ _ _ _ c.args.now (notes_of c.send.new.traffic) c.args.which c.in-Refused.reply (sent_as c.args.which (world c.args.alpha.now c.args.beta.now c.args.traffic.now) (world c.send.new.alpha c.send.new.beta c.send.new.traffic) _ _ _ _ _ _ _ _ c.args.now c.send.result c.in-Ok.pumped (Refused c.in-Refused.reply) c.send.ensures.sent c.in-Ok.is c.in-Refused.is)

pub returns-in-Refused-clause-beta_faults : goal.returns-in-Refused-clause-beta_faults
returns-in-Refused-clause-beta_faults g c = refused_beta (world c.args.alpha.now c.args.beta.now c.args.traffic.now) (world c.send.new.alpha c.send.new.beta c.send.new.traffic) _ _ _ _ _ _ _ _ c.args.now (notes_of c.send.new.traffic) c.args.which c.in-Refused.reply (sent_as c.args.which (world c.args.alpha.now c.args.beta.now c.args.traffic.now) (world c.send.new.alpha c.send.new.beta c.send.new.traffic) _ _ _ _ _ _ _ _ c.args.now c.send.result c.in-Ok.pumped (Refused c.in-Refused.reply) c.send.ensures.sent c.in-Ok.is c.in-Refused.is)

pub returns-in-Broke-clause-step : goal.returns-in-Broke-clause-step
returns-in-Broke-clause-step g c = broke_told c.args.which (world c.args.alpha.now c.args.beta.now c.args.traffic.now) (world c.send.new.alpha c.send.new.beta c.send.new.traffic) _ _ _ _ _ _ _ _ c.args.now c.in-Broke.how c.failure_reply.result c.refusals_change_nothing.ensures c.failure_reply.ensures (sent_as c.args.which (world c.args.alpha.now c.args.beta.now c.args.traffic.now) (world c.send.new.alpha c.send.new.beta c.send.new.traffic) _ _ _ _ _ _ _ _ c.args.now c.send.result c.in-Ok.pumped (Broke c.in-Broke.how) c.send.ensures.sent c.in-Ok.is c.in-Broke.is)

pub returns-in-Broke-clause-noted : goal.returns-in-Broke-clause-noted
returns-in-Broke-clause-noted g c = broke_for_each (world c.args.alpha.now c.args.beta.now c.args.traffic.now) (world c.send.new.alpha c.send.new.beta c.send.new.traffic) _ _ _ _ _ _ _ _ c.args.now (notes_of c.send.new.traffic) c.args.which c.in-Broke.how c.requires.noted (sent_as c.args.which (world c.args.alpha.now c.args.beta.now c.args.traffic.now) (world c.send.new.alpha c.send.new.beta c.send.new.traffic) _ _ _ _ _ _ _ _ c.args.now c.send.result c.in-Ok.pumped (Broke c.in-Broke.how) c.send.ensures.sent c.in-Ok.is c.in-Broke.is)

pub returns-in-Broke-clause-alpha_faults : goal.returns-in-Broke-clause-alpha_faults
returns-in-Broke-clause-alpha_faults g c = subst (λ r. FailsAs (failures_in (notes_of c.send.new.traffic) (index_of c.args.which) 0 r) (g.P.Power.is_stopped c.send.new.first)
    (g.P.Disk.view c.args.first.now).faults (g.P.Disk.view c.send.new.first).faults) (sym c.failure_reply.ensures)
    (broke_alpha (world c.args.alpha.now c.args.beta.now c.args.traffic.now) (world c.send.new.alpha c.send.new.beta c.send.new.traffic) _ _ _ _ _ _ _ _ c.args.now (notes_of c.send.new.traffic) c.args.which c.in-Broke.how (sent_as c.args.which (world c.args.alpha.now c.args.beta.now c.args.traffic.now) (world c.send.new.alpha c.send.new.beta c.send.new.traffic) _ _ _ _ _ _ _ _ c.args.now c.send.result c.in-Ok.pumped (Broke c.in-Broke.how) c.send.ensures.sent c.in-Ok.is c.in-Broke.is))

pub returns-in-Broke-clause-beta_faults : goal.returns-in-Broke-clause-beta_faults
returns-in-Broke-clause-beta_faults g c = subst (λ r. FailsAs (failures_in (notes_of c.send.new.traffic) (index_of c.args.which) 1 r) (g.P.Power.is_stopped c.send.new.second)
    (g.P.Disk.view c.args.second.now).faults (g.P.Disk.view c.send.new.second).faults) (sym c.failure_reply.ensures)
    (broke_beta (world c.args.alpha.now c.args.beta.now c.args.traffic.now) (world c.send.new.alpha c.send.new.beta c.send.new.traffic) _ _ _ _ _ _ _ _ c.args.now (notes_of c.send.new.traffic) c.args.which c.in-Broke.how (sent_as c.args.which (world c.args.alpha.now c.args.beta.now c.args.traffic.now) (world c.send.new.alpha c.send.new.beta c.send.new.traffic) _ _ _ _ _ _ _ _ c.args.now c.send.result c.in-Ok.pumped (Broke c.in-Broke.how) c.send.ensures.sent c.in-Ok.is c.in-Broke.is))

pub returns-in_ok-deliver_all-in-Went-clause-alpha : goal.returns-in_ok-deliver_all-in-Went-clause-alpha
returns-in_ok-deliver_all-in-Went-clause-alpha g c = lasts_then c.send.ensures.alpha c.deliver_all.ensures.alpha

pub returns-in_ok-deliver_all-in-Went-clause-beta : goal.returns-in_ok-deliver_all-in-Went-clause-beta
returns-in_ok-deliver_all-in-Went-clause-beta g c = lasts_then c.send.ensures.beta c.deliver_all.ensures.beta

pub returns-in_err-deliver_all-in-Went-clause-alpha : goal.returns-in_err-deliver_all-in-Went-clause-alpha
returns-in_err-deliver_all-in-Went-clause-alpha g c = lasts_then c.send.ensures.alpha c.deliver_all.ensures.alpha

pub returns-in_err-deliver_all-in-Went-clause-beta : goal.returns-in_err-deliver_all-in-Went-clause-beta
returns-in_err-deliver_all-in-Went-clause-beta g c = lasts_then c.send.ensures.beta c.deliver_all.ensures.beta

pub deliver_all-requires-clause-alpha : goal.deliver_all-requires-clause-alpha
deliver_all-requires-clause-alpha g c = c.send.ensures.alpha.held

pub deliver_all-requires-clause-beta : goal.deliver_all-requires-clause-beta
deliver_all-requires-clause-beta g c = c.send.ensures.beta.held
