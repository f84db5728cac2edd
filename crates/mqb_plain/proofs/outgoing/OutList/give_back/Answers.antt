use Rattle.std.proofs.Common.{◌≤◌, length, sym, subst, arith}
use Rattle.mqb_base.specs.Rooms.{Room}
use Rattle.mqb_base.specs.declared.message.Message.{Message}
use Rattle.mqb_plain.specs.declared.outgoing.Outgoing.{Outgoing}
use Rattle.mqb_plain.proofs.Marking.{length_marked}
use Rattle.mqb_plain.proofs.outgoing.OutList.give_back.Goals as goal

pub give_back-requires-clause-members : goal.give_back-requires-clause-members
give_back-requires-clause-members c =
    omega (
      arith,
      subst (λ (r : Room Outgoing). length r.items ≤ c.args.room) (sym c.self.view_is) c.requires.members,
      length_marked c.self.inside.messages.items c.self.inside.marks.items,
    )

pub invariant_of-self : goal.invariant_of-self
invariant_of-self c = rw c.give_back.ensures (record {
  first_sent = c.self.invariant.first_sent;
  rising = c.self.invariant.rising;
  within = omega (
    arith,
    subst (λ (r : Room Outgoing). length r.items ≤ c.args.room) (sym c.self.view_is) c.requires.members,
    length_marked c.self.inside.messages.items c.self.inside.marks.items,
  );
  mark_fits = omega (arith, subst (λ (r : Room Outgoing). c.args.room ≤ r.room) (sym c.self.view_is) c.requires.less, c.self.invariant.mark_fits);
})
