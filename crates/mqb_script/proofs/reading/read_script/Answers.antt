use Rattle.std.proofs.Common.{◌≤◌}
use Rattle.mqb_script.specs.Reading.{MOST_LINES, line_count}
use Rattle.mqb_script.proofs.Bounds.{answer_formed, answer_few}
use Rattle.mqb_script.proofs.reading.read_script.Goals as goal

pub returns-clause-formed : goal.returns-clause-formed
returns-clause-formed g c = answer_formed c.as_slice.result.now c.script_of.result c.script_of.ensures.script

pub returns-clause-few : goal.returns-clause-few
returns-clause-few g c =
    let few : line_count c.as_slice.result.now ≤ MOST_LINES = rw c.as_slice.ensures.value c.in_ok-text.ensures.few in
    answer_few c.as_slice.result.now MOST_LINES c.script_of.result few c.script_of.ensures.script
