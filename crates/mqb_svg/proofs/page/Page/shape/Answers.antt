use Rattle.mqb_svg.specs.Svg.{shape_text}
use Rattle.mqb_svg.proofs.Written.{wrote_five}
use Rattle.mqb_svg.proofs.page.Page.shape.Goals as goal

pub returns : goal.returns
unfolding shape_text
returns c =
    wrote_five c.put-5.result c.args.self.now _ _ _ _ _ _ _ _ _ _ c.in_ok-put.ensures c.in_ok-put-2.ensures c.in_ok-put-3.ensures c.in_ok-put-4.ensures
    c.put-5.ensures
