use Rattle.std.proofs.Common.{◌≡◌, ◌≤◌, ap, ◌+◌, length, map, arith}
use Rattle.std.proofs.lemmas.List.{length-map}
use Rattle.mqb_script.specs.Script.{lines_of}
use Rattle.mqb_script.proofs.Gathered.{few_lines}
use Rattle.mqb_script.proofs.reading.script_of.Goals as goal

pub script_from-requires : goal.script_from-requires
script_from-requires c =
    let few : length (lines_of c.args.text.now) ≤ length c.args.text.now + 1 = few_lines c.args.text.now in
    let same : map (λ line. line.now) c.in_ok-lines.lines.items ≡ lines_of c.args.text.now = c.in_ok-lines.ensures in
    let count : length c.in_ok-lines.lines.items ≡ length (lines_of c.args.text.now) = simp length-map at (ap length same) in
    omega arith
