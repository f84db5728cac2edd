use Rattle.std.proofs.Common.{rules, ◌≡◌, true}
use Rattle.mqb_model.specs.records.Peer.{queue_fits}
use Rattle.mqb_records.proofs.Finding.{name_is_free}
use Rattle.mqb_records.proofs.queues.create_queue.Goals as goal

pub add_queue-requires-clause-named : goal.add_queue-requires-clause-named
add_queue-requires-clause-named c =
    let fit : queue_fits c.args.draft.now.effect.state c.args.view.now.number c.in_ok-plan.plan ≡ true = search rules in
    name_is_free c.args.draft.now.effect.state c.args.view.now.number c.in_ok-plan.plan fit
