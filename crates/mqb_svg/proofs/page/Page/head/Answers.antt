use Rattle.std.proofs.Common.{ℕ, List, ◌≡◌, ◌++◌, subst}
use Rattle.mqb_svg.specs.Svg.{head_text}
use Rattle.mqb_svg.proofs.Written.{wrote_five}
use Rattle.mqb_svg.proofs.page.Page.head.Goals as goal

pub returns : goal.returns
unfolding head_text
returns c =
    wrote_five c.lifelines.result c.args.self.now _ _ _ _ _ _ _ _ _ _ c.in_ok-put.ensures c.in_ok-number.ensures
    (subst (λ (text : List ℕ). c.put-2.new.self ≡ c.number.new.self ++ text) c.style.ensures c.in_ok-put-2.ensures)
    (subst (λ (text : List ℕ). c.put-3.new.self ≡ c.put-2.new.self ++ text) c.shapes.ensures c.in_ok-put-3.ensures)
    c.lifelines.ensures
