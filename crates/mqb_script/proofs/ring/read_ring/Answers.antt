use Rattle.std.proofs.Common.{◌≤◌}
use Rattle.mqb_script.specs.Reading.{MOST_LINES, line_count}
use Rattle.mqb_script.proofs.Ringed.{ring_kept}
use Rattle.mqb_script.proofs.ring.read_ring.Goals as goal

pub returns-clause-kept : goal.returns-clause-kept
returns-clause-kept g c =
    let few : line_count c.as_slice.result.now ≤ MOST_LINES = rw c.as_slice.ensures.value c.in_ok-text.ensures.few in
    ring_kept c.as_slice.result.now c.ring_of.result few c.ring_of.ensures.script
