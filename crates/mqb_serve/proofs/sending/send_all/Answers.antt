use Rattle.std.proofs.Common.{◌∙◌}
use Rattle.mqb_serving.proofs.Taking.{so_far_then}
use Rattle.mqb_serve.proofs.sending.send_all.Goals as goal

pub loop-rest-preserved : goal.loop-rest-preserved
loop-rest-preserved g c =
    let taken = g.C.Sink.taken in
    let i = c.loop-rest.invariant in
    let s = c.in_ok-n.ensures in
    record {
      taken = rw c.split_at.ensures.back (so_far_then (taken c.args.conn.now) (taken c.loop-rest.conn) (taken c.send.new.self) c.args.bytes.now c.loop-rest.rest.now c.in_ok-n.n
          i.taken s.writes.took);
      write_faults = s.cause ∙ i.write_faults;
      held = s.held ∙ i.held;
      read_faults = s.read_faults ∙ i.read_faults;
      given = s.given ∙ i.given;
      address = s.address ∙ i.address;
      lent = s.lent ∙ i.lent;
    }
