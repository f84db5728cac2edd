use Rattle.std.proofs.Common.{sym, append-nil}
use Rattle.mqb_svg.specs.Svg.{escaped_byte, escaped}
use Rattle.mqb_svg.proofs.Written.{wrote_more}
use Rattle.mqb_svg.proofs.page.Page.escaped.Goals as goal

pub loop-byte-init : goal.loop-byte-init
unfolding escaped
loop-byte-init c = sym (append-nil c.args.self.now)

pub loop-byte-preserved : goal.loop-byte-preserved
unfolding escaped
loop-byte-preserved c =
    wrote_more escaped_byte _ _ _ c.args.text.now c.loop-byte.byte-index 0 c.loop-byte.invariant c.loop-byte-test.true c.in_ok-escaped_byte.ensures
