use Rattle.mqb_layout.proofs.Places.{gate_of}
use Rattle.mqb_layout.proofs.reading.is_open_at.Goals as goal

pub returns-clause-gate : goal.returns-clause-gate
returns-clause-gate g c d told = gate_of c.args.gate _ d (c.in_ok-byte_at.ensures.byte d told)
