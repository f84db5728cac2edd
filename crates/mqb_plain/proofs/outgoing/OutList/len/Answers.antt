use Rattle.std.proofs.Common.{◌≡◌, ◌≤◌, length, sym, ap, subst, ◌∙◌, arith}
use Rattle.mqb_base.specs.Rooms.{Room}
use Rattle.mqb_base.specs.declared.message.Message.{Message}
use Rattle.mqb_plain.specs.declared.outgoing.Outgoing.{Outgoing}
use Rattle.mqb_plain.proofs.Marking.{length_marked}
use Rattle.mqb_plain.proofs.outgoing.OutList.len.Goals as goal

pub returns-clause-len : goal.returns-clause-len
returns-clause-len c =
    c.len.ensures.len ∙ sym (length_marked c.self.inside.messages.items c.self.inside.marks.items) ∙ ap (λ (r : Room Outgoing). length r.items) c.self.view_is

pub returns-clause-within : goal.returns-clause-within
returns-clause-within c =
    subst (λ (r : Room Outgoing). length r.items ≤ r.room) c.self.view_is
    (omega (arith, c.self.invariant.within, length_marked c.self.inside.messages.items c.self.inside.marks.items))
