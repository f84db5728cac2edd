use Rattle.std.proofs.Common.{◌≡◌, ◌+◌, ◌*◌, ◌++◌, drop}
use Rattle.mqb_svg.specs.Svg.{TOP, ROW, rows_from}
use Rattle.mqb_svg.proofs.page.Page.rows.Given as goal

abbrev pub invariant-loop-element : goal.invariant-loop-element
invariant-loop-element l = record {
  place : l.y ≡ TOP + ROW * l.element-index;
  written : l.self ++ rows_from l.y (drop l.element-index l.elements) ≡ l.initial.self ++ rows_from TOP l.elements;
}
