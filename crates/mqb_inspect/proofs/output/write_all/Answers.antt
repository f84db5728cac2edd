use Rattle.std.proofs.Common.{◌∙◌}
use Rattle.mqb_inspect.proofs.Sinking.{so_far_then}
use Rattle.mqb_inspect.proofs.output.write_all.Goals as goal

pub loop-rest-preserved : goal.loop-rest-preserved
loop-rest-preserved g c =
    let taken = g.K.Sink.taken in
    record {
      taken = rw c.split_at.ensures.back (so_far_then (taken c.args.out.now) (taken c.loop-rest.out) (taken c.write.new.self) c.args.text.now c.loop-rest.rest.now _
          c.loop-rest.invariant.taken c.in_ok-n.ensures.took);
      faults = c.in_ok-n.ensures.cause ∙ c.loop-rest.invariant.faults;
    }
