use Rattle.mqb_listing.specs.Lines.{queue_lines}
use Rattle.mqb_listing.proofs.Writing.{wrote_at}
use Rattle.mqb_listing.proofs.places.put_queues.Goals as goal

pub loop-k-preserved : goal.loop-k-preserved
loop-k-preserved c =
    wrote_at (λ hosts q. queue_lines hosts c.args.host.now q) _ _ _ c.args.queues.now.lists.queues c.loop-k.k c.loop-k.invariant
    c.in_ok-put_queue.ensures
