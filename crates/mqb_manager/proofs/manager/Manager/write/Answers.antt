use Rattle.std.proofs.Common.{Err, ap, ◌∙◌}
use Rattle.std.specs.Prelude.{option_copied}
use Rattle.mqb_store.specs.Work.{beside_of}
use Rattle.mqb_manager.proofs.Written.{cause_rose, fault_call, memory_call, ok_call}
use Rattle.mqb_manager.proofs.manager.Manager.write.Goals as goal

pub returns-in-Ok : goal.returns-in-Ok
returns-in-Ok g c =
    let h = c.in-Ok.ensures in
    let m = c.self.inside in
    record {
      call = ok_call (g.D.Disk.view c.args.disk.now) (g.D.Disk.view c.write.new.disk) m.store c.write.new.self m.session m.cursors.items m.owes.items
          (option_copied c.args.entry) (beside_of c.args.work) c.args.self.now c.self.view_is c.requires (record {
            on = h.on;
            state = h.state;
            lines = h.lines;
            up = h.up;
            guid = h.guid;
            count = h.count;
            settled = h.settled;
            wrote = h.wrote;
            moments = h.moments;
            stayed = h.cause;
            switch = h.switch;
          });
      untouched = h.untouched;
      memory = λ same. absurd (let none : ⊥ = cc in none);
      calls = h.calls;
    }

pub returns-in-Err-Memory : goal.returns-in-Err-Memory
returns-in-Err-Memory g c =
    let m = c.self.inside in
    let refused = c.write.ensures.refused (c.in-Err-Memory.is ∙ ap Err c.in-Err-Memory.field-0-is) in
    record {
      call = memory_call g.D.Disk.view c.args.disk.now c.write.new.disk m.store c.write.new.self m.session m.cursors.items m.owes.items
          (option_copied c.args.entry) (beside_of c.args.work) c.args.self.now (g.met.D.Disk.lawful c.args.disk.now) c.self.view_is c.requires refused;
      untouched = λ none. refused.0;
      memory = λ same. refused.0;
      calls = tt;
    }

pub returns-in-Err-DiskFault : goal.returns-in-Err-DiskFault
returns-in-Err-DiskFault g c =
    let h = c.write.ensures in
    let m = c.self.inside in
    let is = c.in-Err-DiskFault.is ∙ ap Err c.in-Err-DiskFault.field-0-is in
    let after = h.failed is in
    record {
      call = rw (c.clear.ensures.items, c.clear-in-Err-DiskFault.ensures.items)
          (fault_call (g.D.Disk.view c.args.disk.now) (g.D.Disk.view c.write.new.disk) m.store c.write.new.self m.session m.cursors.items m.owes.items
          (option_copied c.args.entry) (beside_of c.args.work) c.args.self.now c.self.view_is c.requires (record {
            state = after.0;
            lines = after.1;
            journal = after.2;
            doubt = h.doubt is;
            wrote = h.wrote;
            moments = h.moments;
            rose = cause_rose (g.D.Disk.view c.args.disk.now).faults (g.D.Disk.view c.write.new.disk).faults c.write.result is h.cause;
            switch = h.switch;
          }));
      untouched = h.untouched;
      memory = λ same. absurd (let none : ⊥ = cc in none);
      calls = tt;
    }
