use Rattle.std.proofs.Common.{sym, ap, ◌∙◌}
use Rattle.mqb_base.specs.Rooms.{Room}
use Rattle.mqb_base.specs.declared.message.Message.{Message}
use Rattle.mqb_plain.specs.declared.outgoing.Outgoing.{Outgoing}
use Rattle.mqb_plain.specs.Lists.{marks_of}
use Rattle.mqb_plain.proofs.Marking.{marks_marked}
use Rattle.mqb_plain.proofs.outgoing.OutList.marks.Goals as goal

pub returns : goal.returns
returns c =
    c.as_slice.ensures.items ∙ sym (marks_marked c.self.inside.messages.items c.self.inside.marks.items c.self.invariant.first_sent)
    ∙ ap (λ (r : Room Outgoing). marks_of r.items) c.self.view_is
