use Rattle.std.proofs.Common.{ℕ, List, subst, sym, ◌∙◌}
use Rattle.mqb_entries.specs.declared.entry.ArrivedPart.{ArrivedPart}
use Rattle.mqb_hearing.specs.Arrivals.{IsArrival}
use Rattle.mqb_hearing.proofs.Records.{entry_len}
use Rattle.mqb_hearing.proofs.arrival.Arrival.entry.Goals as goal

pub returns-clause-size : goal.returns-clause-size
returns-clause-size c = entry_len c.self.inside.moment c.of.result c.again.result
    (subst (λ (ns : List ℕ). IsArrival ns c.again.result) (sym (c.of.ensures ∙ c.as_slice.ensures.value))
    (subst (λ (p : ArrivedPart). IsArrival c.self.inside.released.items p) (sym c.again.ensures) c.self.invariant))
