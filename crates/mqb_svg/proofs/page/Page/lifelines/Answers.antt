use Rattle.std.proofs.Common.{ℕ, List, ◌≡◌, ◌++◌, OnOk, subst}
use Rattle.mqb_svg.specs.Svg.{lifelines_text}
use Rattle.mqb_svg.proofs.Written.{wrote_five}
use Rattle.mqb_svg.proofs.page.Page.lifelines.Goals as goal

pub returns : goal.returns
unfolding lifelines_text
returns c =
    wrote_five c.put-3.result c.args.self.now _ _ _ _ _ _ _ _ _ _ c.in_ok-put.ensures c.in_ok-number.ensures c.in_ok-put-2.ensures c.in_ok-number-2.ensures
    (subst (λ (text : List ℕ). OnOk c.put-3.result (c.put-3.new.self ≡ c.number-2.new.self ++ text)) c.names.ensures c.put-3.ensures)
