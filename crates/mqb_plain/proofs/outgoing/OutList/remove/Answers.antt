use Rattle.std.proofs.Common.{◌≡◌, ◌<◌, List, Option, Some, ℕ, length, refl, sym, ap, subst, ◌∙◌, arith, slice_get}
use Rattle.std.specs.Prelude.{remove, option_map}
use Rattle.std.proofs.lemmas.List.Edits.{length-remove}
use Rattle.mqb_base.specs.Rooms.{Room}
use Rattle.mqb_base.specs.declared.message.Message.{Message}
use Rattle.mqb_plain.specs.declared.outgoing.Outgoing.{Outgoing}
use Rattle.mqb_plain.proofs.Marking.{length_marked, item_marked, removed_marked, rising_remove, length_removed}
use Rattle.mqb_plain.proofs.outgoing.OutList.remove.Goals as goal

is_within : (c : goal.After-remove_mark-mark) → c.args.at < length c.self.inside.messages.items
is_within c =
    let there = subst (λ (r : Room Outgoing). c.args.at < length r.items) (sym c.self.view_is) c.requires in
    omega (arith, there, length_marked c.self.inside.messages.items c.self.inside.marks.items)

pub remove-message-requires : goal.remove-message-requires
remove-message-requires c =
    let there = subst (λ (r : Room Outgoing). c.args.at < length r.items) (sym c.self.view_is) c.requires in
    omega (arith, there, length_marked c.self.inside.messages.items c.self.inside.marks.items)

pub invariant_of-self : goal.invariant_of-self
invariant_of-self c =
    let ms = c.self.inside.messages.items in
    let ks = c.self.inside.marks.items in
    rw (c.remove-message.ensures.rest, c.remove_mark-mark.ensures.rest) (record {
      first_sent = length_removed ms ks c.args.at (is_within c) c.self.invariant.first_sent;
      rising = rising_remove c.args.at 0 ks c.self.invariant.rising;
      within = omega (arith, length-remove ms c.args.at (is_within c), c.self.invariant.within);
      mark_fits = c.self.invariant.mark_fits;
    })

pub returns-clause-removed : goal.returns-clause-removed
returns-clause-removed c =
    let ms = c.self.inside.messages.items in
    let ks = c.self.inside.marks.items in
    subst (λ (r : Room Outgoing). slice_get r.items c.args.at ≡ Some (record { message = c.remove-message.result; mark = c.remove_mark-mark.result })) c.self.view_is
    (item_marked ms ks c.args.at
    ∙ (ap (option_map (λ (m : Message). record { message = m; mark = slice_get ks c.args.at })) c.remove-message.ensures.removed
    ∙ ap (λ (k : Option ℕ). Some (record { message = c.remove-message.result; mark = k })) (sym c.remove_mark-mark.ensures.removed)))

pub returns-clause-rest : goal.returns-clause-rest
returns-clause-rest c =
    rw (
      ← c.self.view_is,
      c.remove-message.ensures.rest,
      c.remove_mark-mark.ensures.rest,
      removed_marked c.self.inside.messages.items c.self.inside.marks.items c.args.at (is_within c),
    ) refl

pub returns-clause-room : goal.returns-clause-room
returns-clause-room c =
    let ms = c.self.inside.messages.items in
    rw (c.remove-message.ensures.rest, c.remove_mark-mark.ensures.rest)
    (omega (arith, length_marked (remove ms c.args.at) (remove c.self.inside.marks.items c.args.at), length-remove ms c.args.at (is_within c), is_within c, c.self.invariant.within))
