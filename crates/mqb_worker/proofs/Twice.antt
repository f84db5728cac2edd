-- No message is taken twice.
use Rattle.std.proofs.Common.{arith}
use Rattle.mqb_history.specs.Copies.{AlwaysCopiedRightly}
use Rattle.mqb_history.specs.Received.{AlwaysReceivedTruly}
use Rattle.mqb_worker.specs.Twice.{NoneIsTakenTwice}

-- No more copies left than came, of which there is one at most.
pub none_is_taken_twice : AlwaysCopiedRightly → AlwaysReceivedTruly → NoneIsTakenTwice
none_is_taken_twice copied received known ms apart run kept id sent =
    let copies = copied known ms apart run kept in
    let told = copies.told id ((received known ms apart run kept).durable id sent) in
    let once = copies.once id sent in
    omega (arith, told, once)
