use Rattle.std.proofs.Common.{◌≡◌, ℕ, ◌≤◌, ◌<◌, List, ap, ◌+◌, ◌-◌, length, take, drop, length-take, map, arith}
use Rattle.std.proofs.lemmas.List.{length-map, length-drop}
use Rattle.mqb_script.specs.Script.{lines_of}
use Rattle.mqb_script.proofs.Gathered.{few_lines}
use Rattle.mqb_script.proofs.ring.ring_of.Goals as goal

pub overflow_add-number : goal.overflow_add-number
overflow_add-number c =
    let few : length (lines_of c.args.text.now) ≤ length c.args.text.now + 1 = few_lines c.args.text.now in
    let same : map (λ line. line.now) c.in_ok-lines.lines.items ≡ lines_of c.args.text.now = c.in_ok-lines.ensures in
    let count : length c.in_ok-lines.lines.items ≡ length (lines_of c.args.text.now) = simp length-map at (ap length same) in
    omega arith

-- no more lines are behind a place than there are
behind_few : {T : Type 0} (n place most : ℕ) (items : List T) → n ≡ place → place < length items → length items ≤ most
    → n + 1 + length (take (length items - (n + 1)) (drop (n + 1) items)) ≤ most
behind_few n place most items same within few = simp (length-take, length-drop) (omega (arith, same, within, few))

pub script_from-requires : goal.script_from-requires
script_from-requires c =
    let few : length (lines_of c.args.text.now) ≤ length c.args.text.now + 1 = few_lines c.args.text.now in
    let same : map (λ line. line.now) c.in_ok-lines.lines.items ≡ lines_of c.args.text.now = c.in_ok-lines.ensures in
    let count : length c.in_ok-lines.lines.items ≡ length (lines_of c.args.text.now) = simp length-map at (ap length same) in
    rw c.deref.ensures.value
    (behind_few c.loop-line.number c.loop-line.line-index 16777217 c.in_ok-lines.lines.items c.loop-line.invariant.counted (omega arith) (omega arith))
