use Rattle.std.proofs.Common.{◌<◌, ◌∷◌, [], length, refl, sym, subst, arith, length-append}
use Rattle.mqb_base.specs.Rooms.{Room}
use Rattle.mqb_base.specs.declared.message.Message.{Message}
use Rattle.mqb_plain.specs.declared.outgoing.Outgoing.{Outgoing}
use Rattle.mqb_plain.proofs.Marking.{length_marked, push_marked}
use Rattle.mqb_plain.proofs.outgoing.OutList.push.Goals as goal

pub push-requires : goal.push-requires
push-requires c =
    omega (
      arith,
      subst (λ (r : Room Outgoing). length r.items < r.room) (sym c.self.view_is) c.requires,
      length_marked c.self.inside.messages.items c.self.inside.marks.items,
    )

pub invariant_of-self : goal.invariant_of-self
invariant_of-self c =
    let ms = c.self.inside.messages.items in
    let longer = length-append ms (c.args.message ∷ []) in
    rw c.push.ensures (record {
      first_sent = omega (arith, longer, c.self.invariant.first_sent);
      rising = c.self.invariant.rising;
      within = omega (
        arith,
        longer,
        subst (λ (r : Room Outgoing). length r.items < r.room) (sym c.self.view_is) c.requires,
        length_marked ms c.self.inside.marks.items,
      );
      mark_fits = c.self.invariant.mark_fits;
    })

pub returns : goal.returns
returns c =
    rw (← c.self.view_is, c.push.ensures, push_marked c.self.inside.messages.items c.self.inside.marks.items c.args.message c.self.invariant.first_sent) refl
