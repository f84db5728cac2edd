use Rattle.mqb_journal.specs.lemmas.Carrying.{lent_goes_on}
use Rattle.mqb_journal.proofs.Chains.{lent_is_first}
use Rattle.mqb_journal.proofs.laws.scan_goes_on.Goals as goal

pub returns-clause-finished : goal.returns-clause-finished
returns-clause-finished g c = λ room base records lent ended. lent_goes_on _ c.args.scan.now room base records lent ended

pub returns-clause-first : goal.returns-clause-first
returns-clause-first g c = λ guid image base later records all lent told within stands.
    lent_is_first c.args.scan.now.guid.0 guid base later lent.first records all c.args.scan.now.gate image (lent.front image told) lent.small within (lent.begins image told) stands
