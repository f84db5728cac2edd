use Rattle.mqb_inspect.proofs.Going.{seen_next, within_next, within_stop}
use Rattle.mqb_inspect.proofs.standing.Inspection.take_piece.Goals as goal

pub returns-in-Some-clause-goes : goal.returns-in-Some-clause-goes
returns-in-Some-clause-goes c = λ h w s.
    let within = c.loop-rest.invariant.goes h w s in
    within_stop h w c.args.way c.args.bytes.now c.loop-rest.rest.now c.loop-rest.self c.byte.new.self c.in_ok-why.field-0 c.in-len1-up.len_at_least within
    (c.in_ok-why.ensures.goes h within.watch within.stands) c.in-Some.why c.in-Some.is

pub loop-rest-preserved : goal.loop-rest-preserved
loop-rest-preserved c = record {
  goes = λ h w s. (
      let within = c.loop-rest.invariant.goes h w s in
      within_next h w c.args.way c.args.bytes.now c.loop-rest.rest.now c.loop-rest.self c.byte.new.self c.in_ok-why.field-0 c.in-len1-up.len_at_least within
      (c.in_ok-why.ensures.goes h within.watch within.stands) c.in_default-2.is);
  wants = c.in_ok-why.ensures.wants c.in_default-2.is;
  seen = seen_next c.loop-rest.rest.now c.loop-rest.self.seen c.byte.new.self.seen _ c.in-len1-up.len_at_least c.in_ok-why.ensures.seen c.loop-rest.invariant.seen;
}
