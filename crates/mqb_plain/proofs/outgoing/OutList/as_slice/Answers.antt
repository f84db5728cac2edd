use Rattle.std.proofs.Common.{List, sym, ap, ◌∙◌, subst}
use Rattle.mqb_base.specs.Rooms.{Room}
use Rattle.mqb_base.specs.declared.message.Message.{Message}
use Rattle.mqb_plain.specs.declared.outgoing.Outgoing.{Outgoing}
use Rattle.mqb_plain.specs.Lists.{InOrder, messages_of}
use Rattle.mqb_plain.proofs.Marking.{messages_marked, marked_rises}
use Rattle.mqb_plain.proofs.outgoing.OutList.as_slice.Goals as goal

pub returns-clause-messages : goal.returns-clause-messages
returns-clause-messages c =
    c.as_slice.ensures.items ∙ sym (messages_marked c.self.inside.messages.items c.self.inside.marks.items) ∙ ap (λ (r : Room Outgoing). messages_of r.items) c.self.view_is

pub returns-clause-in_order : goal.returns-clause-in_order
returns-clause-in_order c =
    subst (λ (r : Room Outgoing). InOrder r.items) c.self.view_is (marked_rises 0 c.self.inside.messages.items c.self.inside.marks.items c.self.invariant.rising)
