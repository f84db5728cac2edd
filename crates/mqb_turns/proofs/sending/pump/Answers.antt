use Rattle.std.proofs.Common.{◌∙◌, List, ap, ℕ}
use Rattle.mqb_network.specs.Sending.{numbers_behind}
use Rattle.mqb_transcript.specs.declared.replies.Reply.TheVariants as reply
use Rattle.mqb_turns.proofs.Posts.{broke_by, refused_by, went_by}
use Rattle.mqb_turns.specs.Sides.{side}
use Rattle.mqb_turns.proofs.sending.pump.Goals as goal

pub returns-in-Broke-clause-turn : goal.returns-in-Broke-clause-turn
returns-in-Broke-clause-turn g c = let sent = c.in_ok-pumped.ensures {u = tt} in
    broke_by c.args.which (side c.args.own.now c.args.other.now c.args.traffic.now) (side c.send_out.new.own c.send_out.new.other c.send_out.new.traffic) _ _ _ _ _ c.args.now
    c.in_ok-pumped.pumped sent.sent c.refusals_change_nothing.ensures c.in-Broke.how c.in-Broke.is c.failure_reply.result c.failure_reply.ensures

pub returns-in_ok-numbers-in-Went-clause-turn : goal.returns-in_ok-numbers-in-Went-clause-turn
returns-in_ok-numbers-in-Went-clause-turn g c = let sent = c.in_ok-pumped.ensures {u = tt} in
    went_by c.args.which (side c.args.own.now c.args.other.now c.args.traffic.now) (side c.send_out.new.own c.send_out.new.other c.send_out.new.traffic) _ _ _ _ _ c.args.now
    c.in_ok-pumped.pumped sent.sent c.in-Went.count c.in-Went.recorded c.in-Went.is (reply.Pumped c.in_ok-numbers-in-Went.field-0)
    (ap (λ (ns : List ℕ). reply.Pumped ns) (c.in_ok-numbers-in-Went.ensures {u = tt} ∙ ap (λ (k : ℕ). numbers_behind k c.in-Went.count) c.count-before.ensures))

pub returns-in-Refused-clause-turn : goal.returns-in-Refused-clause-turn
returns-in-Refused-clause-turn g c = let sent = c.in_ok-pumped.ensures {u = tt} in
    refused_by c.args.which (side c.args.own.now c.args.other.now c.args.traffic.now) (side c.send_out.new.own c.send_out.new.other c.send_out.new.traffic) _ _ _ _ _ c.args.now
    c.in_ok-pumped.pumped sent.sent c.in-Refused.reply c.in-Refused.is
