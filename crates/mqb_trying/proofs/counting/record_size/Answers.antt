use Rattle.std.proofs.Common.{refl, ◌≡◌, ◌≤◌, ◌+◌, ◌∙◌, ap, false, map, sym, arith}
use Rattle.std.specs.List.{list_any}
use Rattle.std.specs.Prelude.{is_none}
use Rattle.mqb_model.specs.records.Counting.{commit_size}
use Rattle.mqb_trying.specs.Notes.{record_op}
use Rattle.mqb_trying.specs.Trying.{is_large}
use Rattle.mqb_trying.proofs.Walks.{front_read, large_more, size_more}
use Rattle.mqb_trying.proofs.counting.record_size.Goals as goal

pub loop-k-preserved : goal.loop-k-preserved
loop-k-preserved c =
    let op = c.index-ops-k.result in
    let ops = c.args.ops.now in
    let k = c.loop-k.k in
    let one = c.in_ok-size.field-0 in
    let front = front_read ops k op c.loop-k-test.true c.index-ops-k.is in
    let small : is_large op ≡ false = sym c.op_size.ensures.large ∙ ap is_none c.in_ok-size.was in
    let most : one ≤ 4194309 = c.in_ok-size.ensures.most in
    let before = c.loop-k.invariant.most in
    record {
      size = size_more k c.loop-k.size one (c.loop-k.size + one) (commit_size (map record_op ops)) ops op front c.in_ok-size.ensures.size refl c.loop-k.invariant.size;
      large = large_more k (list_any is_large ops) ops op front small c.loop-k.invariant.large;
      most = omega (arith, most, before);
    }
