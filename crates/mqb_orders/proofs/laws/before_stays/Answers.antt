use Rattle.std.proofs.Common.{ℕ, ◌≤◌, max, ap, List}
use Rattle.std.specs.List.{fold, filter_map}
use Rattle.std.specs.Option.{IfSome}
use Rattle.std.proofs.lemmas.List.Elements.{All-weaker, filter_map-append}
use Rattle.mqb_base.specs.declared.ledger.Line.{Line}
use Rattle.mqb_orders.specs.Streams.{number_committed, number_expired, LeavesBelow}
use Rattle.mqb_orders.proofs.Below.{below-without, All-filter_map}
use Rattle.mqb_orders.proofs.laws.before_stays.Goals as goal

pub returns : goal.returns
returns c = λ s n lines more leaves.
    let commits : Line → Type 0 = λ line. IfSome (number_committed s line) (λ m. n ≤ m) in
    let expires : Line → Type 0 = λ line. IfSome (number_expired s line) (λ m. n ≤ m) in
    rw (filter_map-append (number_committed s) lines more, filter_map-append (number_expired s) lines more)
    (ap (λ (ys : List ℕ). fold max 0 ys)
    (below-without n (filter_map (number_expired s) lines) (filter_map (number_expired s) more)
    (filter_map (number_committed s) lines) (filter_map (number_committed s) more)
    (All-filter_map (λ m. n ≤ m) (number_expired s) more (All-weaker (LeavesBelow s n) expires (λ line is. is.expired) more leaves))
    (All-filter_map (λ m. n ≤ m) (number_committed s) more (All-weaker (LeavesBelow s n) commits (λ line is. is.committed) more leaves))))
