use Rattle.std.proofs.Common.{List, Some, subst}
use Rattle.mqb_base.specs.declared.ids.Identity.{Identity}
use Rattle.mqb_transcript.specs.Texts.{printed}
use Rattle.mqb_replay.specs.Plays.{Wrote}
use Rattle.mqb_replay.proofs.Turning.{turn_answered}
use Rattle.mqb_replay.proofs.turns.turn.Goals as goal

pub returns-clause-turned : goal.returns-clause-turned
returns-clause-turned g c = turn_answered c.args.line.now c.args.world.now c.apply.new.self _ _ (g.K.Sink.taken c.args.out.now) (g.K.Sink.taken c.write_reply.new.out) c.in_ok-reply.reply
    c.write_reply.result
    (record {
      goes = c.in_ok-reply.ensures.applied;
      alpha = record {
        held = c.in_ok-reply.ensures.alpha.held;
        stopped = g.P.Power.is_stopped c.apply.new.first;
        faults = c.in_ok-reply.ensures.alpha_faults;
        armed = g.P.Power.armed c.apply.new.first;
        switch = c.in_ok-reply.ensures.alpha_switch;
      };
      beta = record {
        held = c.in_ok-reply.ensures.beta.held;
        stopped = g.P.Power.is_stopped c.apply.new.second;
        faults = c.in_ok-reply.ensures.beta_faults;
        armed = g.P.Power.armed c.apply.new.second;
        switch = c.in_ok-reply.ensures.beta_switch;
      };
    })
    (subst (λ (known : List Identity). Wrote (g.K.Sink.taken c.args.out.now) (g.K.Sink.taken c.write_reply.new.out) (printed known (Some c.args.line.now.0) c.in_ok-reply.reply) c.write_reply.result)
    c.requires.known c.write_reply.ensures.wrote)
