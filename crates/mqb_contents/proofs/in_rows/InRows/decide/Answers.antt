use Rattle.std.proofs.Common.{ap}
use Rattle.mqb_contents.proofs.Sources.{key_of, sources_written}
use Rattle.mqb_contents.proofs.in_rows.InRows.decide.Goals as goal

pub invariant_of-self : goal.invariant_of-self
invariant_of-self c =
    let i = c.self.inside in (
      c.self.invariant.0,
      sources_written i.rows.items c.args.row c.get_mut.result.now c.decide.new.row i.sources c.get_mut.ensures.value (ap key_of c.decide.ensures.row) c.self.invariant.1,
    )
