use Rattle.std.proofs.Common.{ap}
use Rattle.std.specs.Prelude.{option_copied}
use Rattle.mqb_journal.specs.States.{JournalState}
use Rattle.mqb_store.proofs.store.Store.write.Goals as goal
use Rattle.mqb_store.specs.Writing.{change_in}
use Rattle.mqb_store_laws.specs.lemmas.Carrying.{quiet_opens}
use Rattle.mqb_store_laws.specs.lemmas.Writing.{writes_nothing}

pub returns-in-None-clause-moments : goal.returns-in-None-clause-moments
returns-in-None-clause-moments g c settled =
    quiet_opens (g.D.Disk.view c.args.disk.now) c.args.self.now.journal c.args.self.now.state (change_in (option_copied c.args.entry))
    (g.met.D.Disk.lawful c.args.disk.now) c.requires.on settled

pub returns-in-None-clause-wrote : goal.returns-in-None-clause-wrote
returns-in-None-clause-wrote g c =
    writes_nothing (g.D.Disk.view c.args.disk.now) c.args.self.now.journal _ _ (change_in (option_copied c.args.entry))
    (g.met.D.Disk.lawful c.args.disk.now) (ap (λ (j : JournalState). j.count) c.change_beside.ensures.journal)
