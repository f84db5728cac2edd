use Rattle.std.proofs.Common.{◌≡◌, refl}
use Rattle.mqb_manager.specs.States.{manager_of}
use Rattle.mqb_model.specs.calls.Call as calls
use Rattle.mqb_model.specs.calls.Commit.{commit}
use Rattle.mqb_model.specs.calls.CreateQueue.{create_queue}
use Rattle.mqb_model.specs.calls.Purge.{purge}
use Rattle.mqb_model.specs.calls.Send.{send}
use Rattle.mqb_model.specs.calls.SetRoll.{set_roll}
use Rattle.mqb_model.specs.calls.Take.{take_message}
use Rattle.mqb_model.specs.calls.Tick.{tick}
use Rattle.mqb_replies.proofs.Making.{asked_as, is_asked}
use Rattle.mqb_replies.proofs.Refusals.{commit_apart, create_apart, purge_apart, send_apart, store_apart, take_apart}
use Rattle.mqb_replies.proofs.requests.ask.Goals as goal

pub returns-in-CreateQueue : goal.returns-in-CreateQueue
returns-in-CreateQueue g c = asked_as c.args.request _ c.in-CreateQueue.is
    (is_asked create_apart calls.Created (λ value. refl) (λ why. refl) (λ q. refl) (g.D.Disk.view c.args.disk.now) (g.D.Disk.view c.create_queue.new.disk) c.args.manager.now c.create_queue.new.self
    (create_queue (manager_of c.args.manager.now) c.in-CreateQueue.plan.now) c.create_queue.result (c.create_queue.new.disk ≡ c.args.disk.now) c.create_queue.ensures.call c.create_queue.ensures.untouched c.create_queue.ensures.memory c.create_queue.ensures.calls)

pub returns-in-SetRoll : goal.returns-in-SetRoll
returns-in-SetRoll g c = asked_as c.args.request _ c.in-SetRoll.is
    (is_asked store_apart calls.WasSet (λ value. refl) (λ why. refl) (λ q. refl) (g.D.Disk.view c.args.disk.now) (g.D.Disk.view c.set_roll.new.disk) c.args.manager.now c.set_roll.new.self
    (set_roll (manager_of c.args.manager.now) c.in-SetRoll.count) c.set_roll.result (c.set_roll.new.disk ≡ c.args.disk.now) c.set_roll.ensures.call c.set_roll.ensures.untouched c.set_roll.ensures.memory c.set_roll.ensures.calls)

pub returns-in-Commit : goal.returns-in-Commit
returns-in-Commit g c = asked_as c.args.request _ c.in-Commit.is
    (is_asked commit_apart calls.Committed (λ value. refl) (λ why. refl) (λ q. refl) (g.D.Disk.view c.args.disk.now) (g.D.Disk.view c.commit.new.disk) c.args.manager.now c.commit.new.self
    (commit (manager_of c.args.manager.now) c.in-Commit.ops.now c.in-Commit.now) c.commit.result (c.commit.new.disk ≡ c.args.disk.now) c.commit.ensures.call c.commit.ensures.untouched c.commit.ensures.memory c.commit.ensures.calls)

pub returns-in-Send : goal.returns-in-Send
returns-in-Send g c = asked_as c.args.request _ c.in-Send.is
    (is_asked send_apart calls.Sent (λ value. refl) (λ why. refl) (λ q. refl) (g.D.Disk.view c.args.disk.now) (g.D.Disk.view c.send.new.disk) c.args.manager.now c.send.new.self
    (send (manager_of c.args.manager.now) c.in-Send.draft.now c.in-Send.recoverable c.in-Send.now) c.send.result (c.send.new.disk ≡ c.args.disk.now) c.send.ensures.call c.send.ensures.untouched c.send.ensures.memory c.send.ensures.calls)

pub returns-in-Take : goal.returns-in-Take
returns-in-Take g c = asked_as c.args.request _ c.in-Take.is
    (is_asked take_apart calls.Took (λ value. refl) (λ why. refl) (λ q. refl) (g.D.Disk.view c.args.disk.now) (g.D.Disk.view c.take.new.disk) c.args.manager.now c.take.new.self
    (take_message (manager_of c.args.manager.now) c.in-Take.place.now c.in-Take.now) c.take.result (c.take.new.disk ≡ c.args.disk.now) c.take.ensures.call c.take.ensures.untouched c.take.ensures.memory c.take.ensures.calls)

pub returns-in-Purge : goal.returns-in-Purge
returns-in-Purge g c = asked_as c.args.request _ c.in-Purge.is
    (is_asked purge_apart calls.Purged (λ value. refl) (λ why. refl) (λ q. refl) (g.D.Disk.view c.args.disk.now) (g.D.Disk.view c.purge.new.disk) c.args.manager.now c.purge.new.self
    (purge (manager_of c.args.manager.now) c.in-Purge.place.now c.in-Purge.now) c.purge.result (c.purge.new.disk ≡ c.args.disk.now) c.purge.ensures.call c.purge.ensures.untouched c.purge.ensures.memory c.purge.ensures.calls)

pub returns-in-Tick : goal.returns-in-Tick
returns-in-Tick g c = asked_as c.args.request _ c.in-Tick.is
    (is_asked store_apart calls.Ticked (λ value. refl) (λ why. refl) (λ q. refl) (g.D.Disk.view c.args.disk.now) (g.D.Disk.view c.tick.new.disk) c.args.manager.now c.tick.new.self
    (tick (manager_of c.args.manager.now) c.in-Tick.now) c.tick.result (c.tick.new.disk ≡ c.args.disk.now) c.tick.ensures.call c.tick.ensures.untouched c.tick.ensures.memory c.tick.ensures.calls)
