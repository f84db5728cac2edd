use Rattle.std.proofs.Common.{◌≡◌, ◌∙◌, Err, Ok, ap, subst, sym}
use Rattle.std.specs.Prelude.{false}
use Rattle.mqb_journal.specs.declared.faults.CheckpointFault.TheVariants as fault
use Rattle.mqb_manager.specs.Checkpoints.{IsRewritten}
use Rattle.mqb_manager.specs.Seen.{seen}
use Rattle.mqb_manager.specs.States.{IsUp, ManagerState}
use Rattle.mqb_manager.proofs.Based.{base_refused, base_rose, based_call, made, made_far, made_large, not_far, of_parts, refused_checkpoint, touched, unbased_call, unbased_valid, wanting_checkpoint}
use Rattle.mqb_manager.proofs.Conditions.{up_from}
use Rattle.mqb_manager.proofs.manager.Manager.checkpoint.Goals as goal

-- It went well.

pub returns-in-Ok-clause-call : goal.returns-in-Ok-clause-call
returns-in-Ok-clause-call g c =
    let d = g.D.Disk.view c.args.disk.now in
    let e = g.D.Disk.view c.checkpoint.new.disk in
    let m = c.self.inside in
    let h = c.in-Ok.ensures in
    let up : m.store.journal.down ≡ false = subst (λ (k : ManagerState). IsUp k) (sym c.self.view_is) (up_from c.args.self.now (sym c.is_down.ensures ∙ c.if-is_down.false)) in
    let near = not_far m.store.journal c.checkpoint.result c.checkpoint.ensures.too_far up (λ far. let is = c.in-Ok.is in let none : ⊥ = cc in none) in
    of_parts d e (seen m.store m.session m.cursors.items m.owes.items) c.args.self.now (seen c.checkpoint.new.self m.session m.cursors.items m.owes.items) (Ok tt) c.self.view_is
    (based_call d e m.store c.checkpoint.new.self m.session m.cursors.items m.owes.items up near h.small c.self.invariant (record {
      on = h.on;
      state = h.state;
      lines = h.lines;
      up = h.up;
      guid = h.guid;
      count = h.count;
      settled = h.settled;
      moments = h.moments;
      most = h.most;
      stayed = h.cause;
      switch = h.switch;
    }))

pub returns-in-Ok-clause-rewritten : goal.returns-in-Ok-clause-rewritten
returns-in-Ok-clause-rewritten g c =
    let m = c.self.inside in
    subst (λ (k : ManagerState). IsRewritten k (seen c.checkpoint.new.self m.session m.cursors.items m.owes.items)) c.self.view_is
    (_, c.in-Ok.ensures.checkpointed)

-- It is refused.

pub returns-in-Err-TooFar-clause-call : goal.returns-in-Err-TooFar-clause-call
returns-in-Err-TooFar-clause-call g c =
    let m = c.self.inside in
    let is = c.in-Err-TooFar.is ∙ ap Err c.in-Err-TooFar.field-0-is in
    let up : m.store.journal.down ≡ false = subst (λ (k : ManagerState). IsUp k) (sym c.self.view_is) (up_from c.args.self.now (sym c.is_down.ensures ∙ c.if-is_down.false)) in
    let parts = seen m.store m.session m.cursors.items m.owes.items in
    of_parts (g.D.Disk.view c.args.disk.now) (g.D.Disk.view c.checkpoint.new.disk) parts c.args.self.now _ (Err fault.TooFar) c.self.view_is
    (refused_checkpoint g.D.Disk.view c.args.disk.now c.checkpoint.new.disk m.store c.checkpoint.new.self m.session m.cursors.items m.owes.items fault.TooFar
    (g.met.D.Disk.lawful c.args.disk.now) up c.self.invariant (λ same. let none : ⊥ = cc in none)
    (made_far parts up (c.checkpoint.ensures.too_far.0 is).1) (c.checkpoint.ensures.refused (base_refused c.checkpoint.result fault.TooFar is tt)))

pub returns-in-Err-TooLarge-clause-call : goal.returns-in-Err-TooLarge-clause-call
returns-in-Err-TooLarge-clause-call g c =
    let m = c.self.inside in
    let is = c.in-Err-TooLarge.is ∙ ap Err c.in-Err-TooLarge.field-0-is in
    let up : m.store.journal.down ≡ false = subst (λ (k : ManagerState). IsUp k) (sym c.self.view_is) (up_from c.args.self.now (sym c.is_down.ensures ∙ c.if-is_down.false)) in
    let near = not_far m.store.journal c.checkpoint.result c.checkpoint.ensures.too_far up (λ far. let none : ⊥ = cc in none) in
    let parts = seen m.store m.session m.cursors.items m.owes.items in
    of_parts (g.D.Disk.view c.args.disk.now) (g.D.Disk.view c.checkpoint.new.disk) parts c.args.self.now _ (Err fault.TooLarge) c.self.view_is
    (refused_checkpoint g.D.Disk.view c.args.disk.now c.checkpoint.new.disk m.store c.checkpoint.new.self m.session m.cursors.items m.owes.items fault.TooLarge
    (g.met.D.Disk.lawful c.args.disk.now) up c.self.invariant (λ same. let none : ⊥ = cc in none)
    (made_large parts up near (c.checkpoint.ensures.too_large is)) (c.checkpoint.ensures.refused (base_refused c.checkpoint.result fault.TooLarge is tt)))

pub returns-in-Err-Memory-clause-call : goal.returns-in-Err-Memory-clause-call
returns-in-Err-Memory-clause-call g c =
    let m = c.self.inside in
    let is = c.in-Err-Memory.is ∙ ap Err c.in-Err-Memory.field-0-is in
    let up : m.store.journal.down ≡ false = subst (λ (k : ManagerState). IsUp k) (sym c.self.view_is) (up_from c.args.self.now (sym c.is_down.ensures ∙ c.if-is_down.false)) in
    of_parts (g.D.Disk.view c.args.disk.now) (g.D.Disk.view c.checkpoint.new.disk) (seen m.store m.session m.cursors.items m.owes.items) c.args.self.now _ (Err fault.Memory) c.self.view_is
    (wanting_checkpoint g.D.Disk.view c.args.disk.now c.checkpoint.new.disk m.store c.checkpoint.new.self m.session m.cursors.items m.owes.items
    (g.met.D.Disk.lawful c.args.disk.now) up (c.checkpoint.ensures.refused (base_refused c.checkpoint.result fault.Memory is tt)))

-- The disk failed.

pub returns-in-Err-DiskFault-clause-call : goal.returns-in-Err-DiskFault-clause-call
returns-in-Err-DiskFault-clause-call g c =
    let d = g.D.Disk.view c.args.disk.now in
    let e = g.D.Disk.view c.checkpoint.new.disk in
    let m = c.self.inside in
    let h = c.checkpoint.ensures in
    let is = c.in-Err-DiskFault.is ∙ ap Err c.in-Err-DiskFault.field-0-is in
    let after = h.failed is in
    let up : m.store.journal.down ≡ false = subst (λ (k : ManagerState). IsUp k) (sym c.self.view_is) (up_from c.args.self.now (sym c.is_down.ensures ∙ c.if-is_down.false)) in
    let near = not_far m.store.journal c.checkpoint.result h.too_far up (λ far. let none : ⊥ = cc in none) in
    rw (c.clear.ensures.items, c.clear-in-Err-DiskFault.ensures.items)
    (of_parts d e (seen m.store m.session m.cursors.items m.owes.items) c.args.self.now _ (Err fault.DiskFault) c.self.view_is
    (unbased_call d e m.store c.checkpoint.new.self m.session m.cursors.items m.owes.items up near (h.small_failed is) (record {
      state = h.state;
      lines = h.lines;
      journal = after.0;
      entry = after.1;
      moments = h.moments;
      most = h.most;
      rose = base_rose d.faults e.faults c.checkpoint.result is h.cause;
      switch = h.switch;
    })))

pub returns-in-Err-DiskFault-clause-untouched : goal.returns-in-Err-DiskFault-clause-untouched
returns-in-Err-DiskFault-clause-untouched g c = λ none.
    let m = c.self.inside in
    let h = c.checkpoint.ensures in
    let is = c.in-Err-DiskFault.is ∙ ap Err c.in-Err-DiskFault.field-0-is in
    let up : m.store.journal.down ≡ false = subst (λ (k : ManagerState). IsUp k) (sym c.self.view_is) (up_from c.args.self.now (sym c.is_down.ensures ∙ c.if-is_down.false)) in
    let near = not_far m.store.journal c.checkpoint.result h.too_far up (λ far. let none : ⊥ = cc in none) in
    let parts = seen m.store m.session m.cursors.items m.owes.items in
    absurd (touched parts c.args.self.now c.self.view_is (made parts up near (h.small_failed is)) none)

pub invariant_of-self-in-Err-DiskFault : goal.invariant_of-self-in-Err-DiskFault
invariant_of-self-in-Err-DiskFault g c =
    let d = g.D.Disk.view c.args.disk.now in
    let e = g.D.Disk.view c.checkpoint.new.disk in
    let m = c.self.inside in
    let h = c.checkpoint.ensures in
    let is = c.in-Err-DiskFault.is ∙ ap Err c.in-Err-DiskFault.field-0-is in
    let after = h.failed is in
    rw (c.clear.ensures.items, c.clear-in-Err-DiskFault.ensures.items)
    (unbased_valid d e m.store c.checkpoint.new.self m.session m.cursors.items m.owes.items c.failed_is_valid.ensures c.self.invariant (record {
      state = h.state;
      lines = h.lines;
      journal = after.0;
      entry = after.1;
      moments = h.moments;
      most = h.most;
      rose = base_rose d.faults e.faults c.checkpoint.result is h.cause;
      switch = h.switch;
    }))
