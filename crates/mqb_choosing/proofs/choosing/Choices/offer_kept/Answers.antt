use Rattle.std.proofs.Common.{◌≡◌, ℕ, ap, arith}
use Rattle.mqb_base.specs.declared.heads.TxHead.{TxHead}
use Rattle.mqb_orders.specs.Rows.{Row, row_of}
use Rattle.mqb_orders.specs.declared.kept.Kept.{Kept}
use Rattle.mqb_model.specs.calls.pump.Candidates.{tx_of}
use Rattle.mqb_choosing.proofs.Waiting.{kept_offered, kept_ready}
use Rattle.mqb_choosing.proofs.choosing.Choices.offer_kept.Goals as goal

-- the header of a kept message with another one before it
abbrev head_of : Row → Kept → ℕ → TxHead
head_of r k previous = record { sequence = r.sequence; number = k.number; previous = previous }

pub offer-requires : goal.offer-requires
offer-requires c = kept_ready c.args.contents.now.lists c.args.row c.loop-index.index
    (record { sequence = c.out-out.result.now.sequence; number = c.get.result.now.number; previous = c.link_before.result })
    (row_of c.out-out.result.now) c.get.result.now c.requires.sendable c.out-out.ensures.row c.get.ensures.kept

pub loop-index-preserved : goal.loop-index-preserved
loop-index-preserved c =
    let r : Row = row_of c.out-out.result.now in
    let k : Kept = c.get.result.now in
    let tx : TxHead = record { sequence = c.out-out.result.now.sequence; number = k.number; previous = c.link_before.result } in
    let header : tx ≡ tx_of r k = ap (head_of r k) c.link_before.ensures in
    record {
      from = omega (arith, c.loop-index.invariant.from);
      left = kept_offered c.args.contents.now.lists c.args.self.now c.loop-index.self c.offer.new.self c.args.row c.loop-index.index c.args.from tx r k
          c.out-out.ensures.row c.get.ensures.kept header c.in_ok-offer.ensures c.loop-index.invariant.left;
    }
