use Rattle.std.proofs.Common.{◌<◌, ◌∷◌, [], length, refl, sym, subst, arith, length-append}
use Rattle.std.specs.Prelude.{IsSome}
use Rattle.mqb_base.specs.Rooms.{Room}
use Rattle.mqb_base.specs.declared.message.Message.{Message}
use Rattle.mqb_plain.specs.declared.outgoing.Outgoing.{Outgoing}
use Rattle.mqb_plain.specs.Lists.{first_unsent, greatest_mark}
use Rattle.mqb_plain.proofs.Marking.{next_marked, rising_push, unsent_left}
use Rattle.mqb_plain.proofs.outgoing.OutList.mark_next.Goals as goal

some_left : (c : goal.After-push) → length c.self.inside.marks.items < length c.self.inside.messages.items
some_left c =
    unsent_left c.self.inside.messages.items c.self.inside.marks.items c.self.invariant.first_sent
    (subst (λ (r : Room Outgoing). IsSome (first_unsent r.items)) (sym c.self.view_is) c.requires.unsent)

pub push-requires : goal.push-requires
push-requires c =
    let left = unsent_left c.self.inside.messages.items c.self.inside.marks.items c.self.invariant.first_sent
    (subst (λ (r : Room Outgoing). IsSome (first_unsent r.items)) (sym c.self.view_is) c.requires.unsent) in
    omega (arith, left, c.self.invariant.within, c.self.invariant.mark_fits)

pub invariant_of-self : goal.invariant_of-self
invariant_of-self c =
    let ms = c.self.inside.messages.items in
    let ks = c.self.inside.marks.items in
    let above = subst (λ (r : Room Outgoing). greatest_mark r.items < c.args.number) (sym c.self.view_is) c.requires.above in
    rw c.push.ensures (record {
      first_sent = omega (arith, length-append ks (c.args.number ∷ []), some_left c);
      rising = rising_push 0 c.args.number ms ks c.self.invariant.rising c.self.invariant.first_sent above;
      within = c.self.invariant.within;
      mark_fits = c.self.invariant.mark_fits;
    })

pub returns : goal.returns
returns c = rw (← c.self.view_is, c.push.ensures, next_marked c.self.inside.messages.items c.self.inside.marks.items c.args.number (some_left c)) refl
