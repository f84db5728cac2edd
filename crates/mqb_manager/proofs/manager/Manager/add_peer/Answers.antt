use Rattle.std.proofs.Common.{◌≡◌, Some, ap, length, sym, ◌∙◌}
use Rattle.mqb_entries.specs.declared.entry.Entry.TheVariants as form
use Rattle.mqb_model.specs.calls.AddPeer.{add_peer}
use Rattle.mqb_model.specs.declared.faults.AddPeerFault.TheVariants as fault
use Rattle.mqb_model.specs.managers.Beside.{Nothing}
use Rattle.mqb_store.specs.Writing.{change_in}
use Rattle.mqb_manager.specs.States.{manager_of}
use Rattle.mqb_manager.proofs.AddPeer.{add_peer_first, add_peer_is, add_peer_ready, add_peer_refused}
use Rattle.mqb_manager.proofs.Calls.{call_answered, first_written, memory_answered}
use Rattle.mqb_manager.proofs.manager.Manager.add_peer.Goals as goal

pub returns-in-Some-clause-call : goal.returns-in-Some-clause-call
returns-in-Some-clause-call g c = add_peer_refused (g.D.Disk.view c.args.disk.now) c.args.self.now c.args.peer.now c.in-Some.fault (g.met.D.Disk.lawful c.args.disk.now)
    c.is_valid.ensures (sym c.add_peer_refusal.ensures ∙ c.in-Some.is)

pub write-written-requires : goal.write-written-requires
write-written-requires g c = let laws = c.calls_can_be_written.ensures in let v = c.view_of.ensures in
    add_peer_ready (g.D.Disk.view c.args.disk.now) c.args.self.now c.args.peer.now c.view_of.result laws.fit laws.valid laws.stored c.is_valid.ensures c.requires
    (sym c.add_peer_refusal.ensures ∙ c.in_default.is) v.identity v.name v.size

pub returns-clause-call : goal.returns-clause-call
returns-clause-call g c = let m = c.args.self.now in
    call_answered (length c.peers.result.now) fault.Memory fault.DiskFault (g.D.Disk.view c.args.disk.now) (g.D.Disk.view c.write-written.new.disk) m c.write-written.new.self
    (change_in (Some (form.Peer c.view_of.result))) Nothing (add_peer (manager_of m) c.args.peer.now) c.write-written.result c.answer.result
    (λ same. let none : ⊥ = cc in none)
    (add_peer_is (manager_of m) c.args.peer.now c.view_of.result (length c.peers.result.now) (sym c.add_peer_refusal.ensures ∙ c.in_default.is) c.view_of.ensures.identity
    (ap length (c.peers.ensures.peers ∙ ap (λ w. w.lists.peers) c.contents.ensures ∙ ap (λ s. s.peers) c.state.ensures)))
    c.write-written.ensures.call c.answer.ensures

pub returns-clause-memory : goal.returns-clause-memory
returns-clause-memory g c =
    memory_answered (length c.peers.result.now) fault.Memory fault.DiskFault (c.write-written.new.disk ≡ c.args.disk.now) c.write-written.result c.answer.result
    (λ same. let none : ⊥ = cc in none) c.write-written.ensures.memory c.answer.ensures

pub returns-in-Some-clause-first : goal.returns-in-Some-clause-first
returns-in-Some-clause-first g c = add_peer_first (manager_of c.args.self.now) c.args.peer.now c.in-Some.fault (sym c.add_peer_refusal.ensures ∙ c.in-Some.is)

pub returns-clause-first : goal.returns-clause-first
returns-clause-first g c = let m = c.args.self.now in
    first_written (length c.peers.result.now) (manager_of m) (change_in (Some (form.Peer c.view_of.result))) Nothing (add_peer (manager_of m) c.args.peer.now) c.answer.result
    (add_peer_is (manager_of m) c.args.peer.now c.view_of.result (length c.peers.result.now) (sym c.add_peer_refusal.ensures ∙ c.in_default.is) c.view_of.ensures.identity
    (ap length (c.peers.ensures.peers ∙ ap (λ w. w.lists.peers) c.contents.ensures ∙ ap (λ s. s.peers) c.state.ensures)))
