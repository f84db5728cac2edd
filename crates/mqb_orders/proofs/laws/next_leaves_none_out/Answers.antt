use Rattle.std.proofs.Common.{◌≡◌, ◌<◌, ◌≤◌, arith, Option, Some, None}
use Rattle.std.proofs.lemmas.Bool.Decides.{nat_tests}
use Rattle.std.proofs.lemmas.List.Elements.{All-weaker}
use Rattle.mqb_base.specs.declared.heads.TxHead.{TxHead}
use Rattle.mqb_orders.specs.declared.judging.Verdict.TheVariants.{Next}
use Rattle.mqb_orders.specs.declared.rows.InRow.{InRow}
use Rattle.mqb_orders.specs.Judging.{decided, verdict_of}
use Rattle.mqb_orders.specs.Rows.{greatest_below}
use Rattle.mqb_orders.proofs.Greatest.{greatest}
use Rattle.mqb_orders.proofs.laws.next_leaves_none_out.Goals as goal

-- what is next links to a decided number
linked : (row : Option InRow) (tx : TxHead) → verdict_of row tx ≡ Next → tx.previous ≤ decided row tx.sequence
linked None tx next = grind (arith, nat_tests)
linked (Some row) tx next = grind (arith, nat_tests)

pub returns : goal.returns
returns c = λ row tx low kept link next.
    let decided_last : tx.previous ≤ decided row tx.sequence = linked row tx next in
    All-weaker (λ k. k < tx.number → k ≤ greatest_below low tx.number kept) (λ k. k < tx.number → k ≤ decided row tx.sequence)
    (λ k at_most below. let h : k ≤ greatest_below low tx.number kept = at_most below in omega arith) kept (greatest low tx.number kept)
