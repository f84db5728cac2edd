use Rattle.std.proofs.Common.{◌≡◌, ◌≤◌, length, ap, arith}
use Rattle.std.proofs.lemmas.List.{length-map}
use Rattle.mqb_words.proofs.Formed.{asked_formed, asked_stored}
use Rattle.mqb_words.proofs.reading.command_of.Goals as goal

pub returns-clause-formed : goal.returns-clause-formed
returns-clause-formed c = asked_formed _ _ c.in_ok-command_from.ensures.0

pub returns-clause-store : goal.returns-clause-store
returns-clause-store c stored =
    let two : 2 ≤ length c.as_slice.result.now = simp length-map at (asked_stored _ _ c.in_ok-command_from.ensures.0 stored) in
    let lent : length c.as_slice.result.now ≡ length c.in_ok-bytes.bytes.items = ap length c.as_slice.ensures.value in
    let same : length c.in_ok-bytes.bytes.items ≡ length c.args.words.now = simp length-map at (ap length c.in_ok-bytes.ensures) in
    omega arith
