use Rattle.mqb_svg.specs.Svg.{bar_text}
use Rattle.mqb_svg.proofs.Written.{wrote_four}
use Rattle.mqb_svg.proofs.page.Page.bar.Goals as goal

pub returns : goal.returns
unfolding bar_text
returns c =
    wrote_four c.put-3.result c.args.self.now _ _ _ _ _ _ _ _ c.in_ok-put.ensures c.in_ok-put-2.ensures c.in_ok-escaped.ensures c.put-3.ensures
