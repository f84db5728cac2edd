use Rattle.std.proofs.Common.{◌≡◌, ◌∙◌, ap, arith, length, take, ℕ}
use Rattle.mqb_names.specs.Printed.{printed_direct}
use Rattle.mqb_names.specs.lemmas.Units.{length_direct, front_put}
use Rattle.mqb_names.proofs.wire_writing.put_direct.Goals as goal

pub put_units-requires : goal.put_units-requires
put_units-requires c =
    let text = printed_direct c.args.host.now c.args.queue.now in
    let is_text : take c.direct_len-len.result c.put_direct.new.to ≡ text =
    ap (λ (n : ℕ). take n c.put_direct.new.to) c.direct_len-len.ensures.length ∙ front_put _ text c.put_direct.new.to c.put_direct.result c.put_direct.ensures in
    rw is_text (omega (arith, c.requires, c.put_u16.auto.to, length_direct (length text) text))
