use Rattle.std.proofs.Common.{◌≡◌, ◌≤◌, length, map}
use Rattle.mqb_picture.specs.Reading.{drawn_from, blank}
use Rattle.mqb_picture.proofs.Drawing.{IsDrawnTo}
use Rattle.mqb_picture.proofs.reading.read_lines.Given as goal

abbrev pub invariant-loop-line : goal.invariant-loop-line
invariant-loop-line l = record {
  counted : l.number ≡ l.line-index;
  within : l.answered ≤ length l.replies;
  read : IsDrawnTo (drawn_from 0 (map (λ line. line.now) l.script) (map (λ reply. reply.now) l.replies) blank) l.number l.line-index l.script l.answered
      l.replies l.picture;
}
