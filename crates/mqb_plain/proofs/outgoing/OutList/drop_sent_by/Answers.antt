use Rattle.std.proofs.Common.{◌≡◌, ◌≤◌, ℕ, List, length, refl, sym, subst, arith, length-drop}
use Rattle.mqb_base.specs.Rooms.{Room}
use Rattle.mqb_base.specs.declared.message.Message.{Message}
use Rattle.mqb_plain.specs.declared.outgoing.Outgoing.{Outgoing}
use Rattle.mqb_plain.proofs.Marking.{IsSplit, split_at_number, up_to_few, count_is, rising_drop}
use Rattle.mqb_plain.proofs.outgoing.OutList.drop_sent_by.Goals as goal

split_of : (c : goal.After-drop_first-2) → IsSplit c.args.number c.self.inside.messages.items c.self.inside.marks.items c.count_up_to-count.result
split_of c =
    let ms = c.self.inside.messages.items in
    let ks = c.self.inside.marks.items in
    let count = count_is c.args.number ks c.as_slice.result.now c.count_up_to-count.result c.count_up_to-count.ensures c.as_slice.ensures.items in
    subst (IsSplit c.args.number ms ks) (sym count) (split_at_number c.args.number 0 ms ks c.self.invariant.first_sent c.self.invariant.rising)

pub invariant_of-self : goal.invariant_of-self
invariant_of-self c =
    let ms = c.self.inside.messages.items in
    let ks = c.self.inside.marks.items in
    let count = c.count_up_to-count.result in
    rw (c.drop_first.ensures, c.drop_first-2.ensures) (record {
      first_sent = omega (arith, length-drop count ms, length-drop count ks, c.self.invariant.first_sent);
      rising = rising_drop count 0 ks c.self.invariant.rising;
      within = omega (arith, length-drop count ms, c.self.invariant.within);
      mark_fits = c.self.invariant.mark_fits;
    })

pub returns : goal.returns
returns c = rw (← c.self.view_is, c.drop_first.ensures, c.drop_first-2.ensures, (split_of c).rest) refl
