use Rattle.std.proofs.Common.{◌≡◌, ◌++◌, take}
use Rattle.mqb_svg.specs.Svg.{escaped}
use Rattle.mqb_svg.proofs.page.Page.escaped.Given as goal

abbrev pub invariant-loop-byte : goal.invariant-loop-byte
invariant-loop-byte l = l.self ≡ l.initial.self ++ escaped (take l.byte-index l.text)
