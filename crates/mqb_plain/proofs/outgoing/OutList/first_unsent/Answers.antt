use Rattle.std.proofs.Common.{List, sym, ap, ◌∙◌, slice_get, ℕ}
use Rattle.mqb_base.specs.Rooms.{Room}
use Rattle.mqb_base.specs.declared.message.Message.{Message}
use Rattle.mqb_plain.specs.declared.outgoing.Outgoing.{Outgoing}
use Rattle.mqb_plain.specs.Lists.{first_unsent}
use Rattle.mqb_plain.proofs.Marking.{first_marked}
use Rattle.mqb_plain.proofs.outgoing.OutList.first_unsent.Goals as goal

pub returns : goal.returns
returns c =
    let ms = c.self.inside.messages.items in
    let ks = c.self.inside.marks.items in
    c.message_at.ensures ∙ ap (λ (xs : List Message). slice_get xs c.len.result) c.as_slice.ensures.items ∙ ap (λ (at : ℕ). slice_get ms at) c.len.ensures.len
    ∙ sym (first_marked ms ks c.self.invariant.first_sent) ∙ ap (λ (r : Room Outgoing). first_unsent r.items) c.self.view_is
