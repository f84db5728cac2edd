use Rattle.mqb_manager.proofs.CreateQueue.{queue_size}
use Rattle.mqb_manager.proofs.queues.view_of.Goals as goal

pub returns-clause-size : goal.returns-clause-size
returns-clause-size c = let p = c.args.plan.now in
    queue_size (record { name = c.of-name.result; number = c.args.number; public = p.public; transactional = p.transactional; quota = p.quota; journal = p.journal })
    c.as_slice-bytes.ensures.name
