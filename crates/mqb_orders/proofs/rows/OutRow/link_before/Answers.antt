use Rattle.std.proofs.Common.{◌≡◌, ℕ, ◌<◌, ◌≤◌, ◌-◌, ◌+◌, suc, List, take, drop, arith, sym, ap, ◌∙◌, subst}
use Rattle.std.specs.List.{All}
use Rattle.std.proofs.lemmas.List.Elements.{All-weaker}
use Rattle.mqb_orders.specs.declared.kept.Kept.{Kept}
use Rattle.mqb_orders.specs.KeptLists.{numbers}
use Rattle.mqb_orders.proofs.Halves.{none_below, link_is}
use Rattle.mqb_orders.proofs.rows.OutRow.link_before.Goals as goal

-- numbers up to the one before n are below it
below : (n : ℕ) (kept : List Kept) → 0 < n → All (λ k. k.number ≤ n - 1) kept → All (λ k. k.number < n) kept
below n kept some low = All-weaker (λ k. k.number ≤ n - 1) (λ k. k.number < n) (λ k h. omega (arith, h, some)) kept low

above : (n : ℕ) (kept : List Kept) → All (λ k. n - 1 < k.number) kept → All (λ k. n ≤ k.number) kept
above n kept high = All-weaker (λ k. n - 1 < k.number) (λ k. n ≤ k.number) (λ k h. omega (arith, h)) kept high

pub returns-in-0 : goal.returns-in-0
returns-in-0 c =
    let kept : List Kept = c.args.self.now.kept.items in
    sym (none_below c.args.self.now.acked c.args.n kept (above c.args.n kept (subst (λ count. All (λ k. c.args.n - 1 < k.number) (drop count kept)) c.in-0.is c.count_up_to.ensures.rest)))

pub returns-in_default : goal.returns-in_default
returns-in_default c =
    let kept : List Kept = c.args.self.now.kept.items in
    let count : ℕ = c.count_up_to.result - 1 in
    let some : 0 < c.args.n = omega (arith, c.requires.unacknowledged) in
    let is : c.count_up_to.result ≡ suc count = omega (arith, c.in_default) in
    c.max.ensures ∙ sym (link_is c.args.self.now.acked c.args.n kept count c.get.result.now c.get.ensures.rises
    (below c.args.n (take (suc count) kept) some (subst (λ k. All (λ j. j.number ≤ c.args.n - 1) (take k kept)) is c.count_up_to.ensures.first))
    (above c.args.n (drop (suc count) kept) (subst (λ k. All (λ j. c.args.n - 1 < j.number) (drop k kept)) is c.count_up_to.ensures.rest))
    c.get.ensures.kept)
