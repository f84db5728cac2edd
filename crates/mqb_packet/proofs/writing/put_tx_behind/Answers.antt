use Rattle.std.proofs.Common.{◌≤◌, ◌+◌, length}
use Rattle.mqb_heads.specs.Transactions.{plain_tx}
use Rattle.mqb_packet.specs.Plain.{tx_size}
use Rattle.mqb_packet.proofs.Behind.{wrote_behind}
use Rattle.mqb_packet.proofs.writing.put_tx_behind.Goals as goal

pub returns-in-Some : goal.returns-in-Some
returns-in-Some c =
    let room : c.args.at + 20 ≤ length c.args.to.now = rw c.in-Some.is at c.requires in
    rw c.in-Some.is (wrote_behind c.args.to.now c.put_tx.new.to (plain_tx c.in-Some.head) c.args.at c.put_tx.result room c.put_tx.ensures.put c.put_tx.ensures.len)
