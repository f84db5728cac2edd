use Rattle.std.proofs.Common.{vec_len, ◌∙◌, arith}
use Rattle.mqb_disk.proofs.Contents.{filled_past}
use Rattle.mqb_disk.proofs.image.fill.Goals as goal

pub returns-clause-filled : goal.returns-clause-filled
returns-clause-filled c =
    let cut = c.truncate.new.self in
    c.in-Ok.ensures.items
    ∙ filled_past c.args.at c.args.n (vec_len cut) 1 cut.items c.args.buffer.now.items c.truncate.ensures.items (omega (arith, c.truncate.ensures.len, c.requires.place)) (omega (arith, c.requires.place)) (omega (arith, c.if-at-n.false, c.len.ensures))
