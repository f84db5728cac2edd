use Rattle.std.proofs.Common.{refl}
use Rattle.std.proofs.Math.Seq.{drop-length}
use Rattle.mqb_plain.proofs.Marking.{none_marked}
use Rattle.mqb_plain.proofs.outgoing.OutList.unmark.Goals as goal

pub returns : goal.returns
returns c =
    rw (
      ← c.self.view_is,
      c.drop_first.ensures,
      c.len.ensures.len,
      drop-length c.self.inside.marks.items,
      none_marked c.self.inside.messages.items c.self.inside.marks.items,
    ) refl
