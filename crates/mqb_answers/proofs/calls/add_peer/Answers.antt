use Rattle.std.proofs.Common.{◌≡◌}
use Rattle.mqb_answers.proofs.Peers.{peer_done, peer_telling}
use Rattle.mqb_answers.proofs.Telling.{is_told}
use Rattle.mqb_answers.proofs.calls.add_peer.Goals as goal
use Rattle.mqb_answers.specs.Told.{peer_told}
use Rattle.mqb_replies.specs.mqb_manager.States.{manager_of}
use Rattle.mqb_model.specs.calls.AddPeer.{add_peer}
use Rattle.mqb_model.specs.declared.faults.AddPeerFault.TheVariants as fault

pub returns : goal.returns
returns g c = is_told fault.Memory fault.DiskFault peer_told (g.D.Disk.view c.args.disk.now) (g.D.Disk.view c.add_peer-answer.new.disk)
    c.args.manager.now c.add_peer-answer.new.self (add_peer (manager_of c.args.manager.now) c.args.peer.now) c.add_peer-answer.result (peer_telling c.add_peer-answer.result)
    (c.add_peer-answer.new.disk ≡ c.args.disk.now) c.args.out.now.items c.tell.new.out.items c.peer_told.result c.tell.result
    c.add_peer-answer.ensures.call c.add_peer-answer.ensures.untouched c.add_peer-answer.ensures.memory (peer_done _ c.add_peer-answer.result c.add_peer-answer.ensures.calls)
    c.peer_told.ensures c.tell.ensures
