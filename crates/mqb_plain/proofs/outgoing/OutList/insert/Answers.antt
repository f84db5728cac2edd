use Rattle.std.proofs.Common.{◌≡◌, ◌<◌, ◌≤◌, List, Option, Some, None, ℕ, length, refl, sym, ap, subst, ◌∙◌, arith}
use Rattle.std.specs.Prelude.{insert}
use Rattle.std.proofs.lemmas.List.Edits.{length-insert}
use Rattle.mqb_base.specs.Rooms.{Room}
use Rattle.mqb_base.specs.declared.message.Message.{Message}
use Rattle.mqb_plain.specs.declared.outgoing.Outgoing.{Outgoing}
use Rattle.mqb_plain.specs.Lists.{InOrder, marked, unsent}
use Rattle.mqb_plain.proofs.Marking.{length_marked, sent_as, SentIsPut, sent_is_put, unsent_is_put}
use Rattle.mqb_plain.proofs.outgoing.OutList.insert.Goals as goal

-- over the messages ms and the marks ks of a list, and what the list was seen as
module _ (ms : List Message) (ks : List ℕ) (room : ℕ) (seen : Room Outgoing) (view : record { items = marked ms ks; room = room } ≡ seen) (at : ℕ) where
  within : at ≤ length seen.items → at ≤ length ms
  within h = omega (arith, subst (λ (r : Room Outgoing). at ≤ length r.items) (sym view) h, length_marked ms ks)

  roomy : length seen.items < seen.room → length ms < room
  roomy h = omega (arith, subst (λ (r : Room Outgoing). length r.items < r.room) (sym view) h, length_marked ms ks)

  ordered : (o p : Outgoing) → o ≡ p → InOrder (insert seen.items at o) → InOrder (insert (marked ms ks) at p)
  ordered o p is h = subst (λ (q : Outgoing). InOrder (insert (marked ms ks) at q)) is (subst (λ (r : Room Outgoing). InOrder (insert r.items at o)) (sym view) h)

  sent_put : (o : Outgoing) (k : ℕ) → o.mark ≡ Some k → at ≤ length seen.items → length ks ≤ length ms → InOrder (insert seen.items at o)
      → SentIsPut 0 ms ks at o.message k
  sent_put o k is h few order =
      sent_is_put 0 ms ks at o.message k (within h) few
      (ordered o (sent_as o.message k) (ap (λ (m : Option ℕ). record { message = o.message; mark = m }) is) order)

  unsent_put : (o : Outgoing) → o.mark ≡ None → at ≤ length seen.items → length ks ≤ length ms → InOrder (insert seen.items at o)
      → marked (insert ms at o.message) ks ≡ insert (marked ms ks) at o
  unsent_put o is h few order =
      let same : o ≡ unsent o.message = ap (λ (m : Option ℕ). record { message = o.message; mark = m }) is in
      unsent_is_put 0 ms ks at o.message (within h) few (ordered o (unsent o.message) same order)
      ∙ ap (λ (q : Outgoing). insert (marked ms ks) at q) (sym same)

pub insert-requires-clause-place : goal.insert-requires-clause-place
insert-requires-clause-place c = within c.self.inside.messages.items c.self.inside.marks.items c.self.inside.messages.room c.args.self.now c.self.view_is c.args.at c.requires.place

pub insert-requires-clause-room : goal.insert-requires-clause-room
insert-requires-clause-room c = roomy c.self.inside.messages.items c.self.inside.marks.items c.self.inside.messages.room c.args.self.now c.self.view_is c.args.at c.requires.room

pub insert-requires-in-Some-clause-place : goal.insert-requires-in-Some-clause-place
insert-requires-in-Some-clause-place c =
    (sent_put c.self.inside.messages.items c.self.inside.marks.items c.self.inside.messages.room c.args.self.now c.self.view_is c.args.at
    c.args.outgoing c.in-Some.mark c.in-Some.is c.requires.place c.self.invariant.first_sent c.requires.in_order).within

pub insert-requires-in-Some-clause-room : goal.insert-requires-in-Some-clause-room
insert-requires-in-Some-clause-room c =
    omega (
      arith,
      roomy c.self.inside.messages.items c.self.inside.marks.items c.self.inside.messages.room c.args.self.now c.self.view_is c.args.at c.requires.room,
      c.self.invariant.first_sent,
      c.self.invariant.mark_fits,
    )

pub invariant_of-self : goal.invariant_of-self
invariant_of-self c =
    let ms = c.self.inside.messages.items in
    let ks = c.self.inside.marks.items in
    let room = roomy ms ks c.self.inside.messages.room c.args.self.now c.self.view_is c.args.at c.requires.room in
    let place = within ms ks c.self.inside.messages.room c.args.self.now c.self.view_is c.args.at c.requires.place in
    let put = sent_put ms ks c.self.inside.messages.room c.args.self.now c.self.view_is c.args.at
    c.args.outgoing c.in-Some.mark c.in-Some.is c.requires.place c.self.invariant.first_sent c.requires.in_order in
    rw (c.insert-in-Some.ensures, c.insert.ensures) (record {
      first_sent = omega (arith, length-insert ms c.args.at c.args.outgoing.message place, length-insert ks c.args.at c.in-Some.mark put.within, c.self.invariant.first_sent);
      rising = put.rising;
      within = omega (arith, length-insert ms c.args.at c.args.outgoing.message place, room);
      mark_fits = c.self.invariant.mark_fits;
    })

pub invariant_of-self-in_default : goal.invariant_of-self-in_default
invariant_of-self-in_default c =
    let ms = c.self.inside.messages.items in
    let ks = c.self.inside.marks.items in
    let room = roomy ms ks c.self.inside.messages.room c.args.self.now c.self.view_is c.args.at c.requires.room in
    let place = within ms ks c.self.inside.messages.room c.args.self.now c.self.view_is c.args.at c.requires.place in
    rw c.insert.ensures (record {
      first_sent = omega (arith, length-insert ms c.args.at c.args.outgoing.message place, c.self.invariant.first_sent);
      rising = c.self.invariant.rising;
      within = omega (arith, length-insert ms c.args.at c.args.outgoing.message place, room);
      mark_fits = c.self.invariant.mark_fits;
    })

pub returns-in-Some : goal.returns-in-Some
returns-in-Some c =
    let ms = c.self.inside.messages.items in
    let ks = c.self.inside.marks.items in
    let put = sent_put ms ks c.self.inside.messages.room c.args.self.now c.self.view_is c.args.at
    c.args.outgoing c.in-Some.mark c.in-Some.is c.requires.place c.self.invariant.first_sent c.requires.in_order in
    let same : sent_as c.args.outgoing.message c.in-Some.mark ≡ c.args.outgoing =
    ap (λ (m : Option ℕ). record { message = c.args.outgoing.message; mark = m }) (sym c.in-Some.is) in
    rw (← c.self.view_is, c.insert.ensures, c.insert-in-Some.ensures, put.list, same) refl

pub returns-in_default : goal.returns-in_default
returns-in_default c =
    let ms = c.self.inside.messages.items in
    let ks = c.self.inside.marks.items in
    rw (
      ← c.self.view_is,
      c.insert.ensures,
      unsent_put ms ks c.self.inside.messages.room c.args.self.now c.self.view_is c.args.at
          c.args.outgoing c.in_default.is c.requires.place c.self.invariant.first_sent c.requires.in_order,
    ) refl
