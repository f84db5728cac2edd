use Rattle.std.proofs.Common.{◌≡◌, Option, subst, ◌∙◌}
use Rattle.mqb_entries.specs.declared.entry.Entry.{Entry}
use Rattle.mqb_model.specs.managers.Beside.{Nothing}
use Rattle.mqb_manager.specs.Writing.{WritesEntry}
use Rattle.mqb_manager.proofs.manager.Manager.write_marks.Goals as goal

pub returns : goal.returns
returns g c = subst (λ (o : Option Entry). WritesEntry (g.D.Disk.view c.args.disk.now) (g.D.Disk.view c.write.new.disk) (c.write.new.disk ≡ c.args.disk.now) c.args.self.now c.write.new.self o Nothing c.write.result)
    (c.as_ref.ensures.value ∙ c.offered_entry-entry.ensures) c.write.ensures
