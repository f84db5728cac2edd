use Rattle.mqb_manager.specs.States.{manager_of}
use Rattle.mqb_manager.specs.Seen.{seen}
use Rattle.mqb_manager.proofs.Linking.{unlinked_valid}
use Rattle.mqb_manager.proofs.manager.Manager.unlink.Goals as goal

pub invariant_of-self : goal.invariant_of-self
invariant_of-self c = let m = c.self.inside in
    rw (c.clear.ensures.items, c.clear-2.ensures.items)
    (unlinked_valid m.store m.session m.cursors.items m.owes.items c.unmark.new.self c.unmark.ensures
    (c.unlinked_is_valid.ensures (manager_of (seen m.store m.session m.cursors.items m.owes.items)) c.self.invariant))
