use Rattle.std.proofs.Common.{◌≡◌, ◌≤◌, length, List, Option, ℕ, arith, sym, ap, ◌∙◌}
use Rattle.std.specs.Option.{option_map}
use Rattle.std.proofs.lemmas.Option.{slice_get_past}
use Rattle.std.proofs.lemmas.Bool.Decides.{nat_tests}
use Rattle.mqb_orders.specs.declared.kept.Kept.{Kept}
use Rattle.mqb_orders.proofs.Halves.{next_is}
use Rattle.mqb_orders.proofs.rows.OutRow.next_kept.Goals as goal

pub returns-then-count-len : goal.returns-then-count-len
returns-then-count-len c =
    let kept : List Kept = c.args.self.now.kept.items in
    let all : length kept ≤ c.count_up_to-count.result = grind (arith, nat_tests, c.if-count-len.true, c.len.ensures.len) in
    sym (next_is c.args.after kept c.count_up_to-count.result c.count_up_to-count.ensures.first c.count_up_to-count.ensures.rest
    ∙ ap (option_map (λ (k : Kept). k.number)) (slice_get_past kept c.count_up_to-count.result all))

pub returns : goal.returns
returns c =
    let kept : List Kept = c.args.self.now.kept.items in
    sym (next_is c.args.after kept c.count_up_to-count.result c.count_up_to-count.ensures.first c.count_up_to-count.ensures.rest
    ∙ ap (option_map (λ (k : Kept). k.number)) c.get.ensures.kept)
