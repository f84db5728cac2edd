use Rattle.std.proofs.Common.{◌≡◌, ◌≤◌, ℕ, List, length, take, sym, ap, subst, ◌∙◌, arith}
use Rattle.std.specs.Prelude.{filter, count_by}
use Rattle.mqb_base.specs.Rooms.{Room}
use Rattle.mqb_base.specs.declared.message.Message.{Message}
use Rattle.mqb_plain.specs.declared.outgoing.Outgoing.{Outgoing}
use Rattle.mqb_plain.specs.Lists.{is_sent_by}
use Rattle.mqb_plain.proofs.Marking.{IsSplit, split_at_number, up_to_few, count_is}
use Rattle.mqb_plain.proofs.outgoing.OutList.sent_by.Goals as goal

split_of : (c : goal.After-count_up_to) → IsSplit c.args.number c.self.inside.messages.items c.self.inside.marks.items c.count_up_to.result
split_of c =
    let ms = c.self.inside.messages.items in
    let ks = c.self.inside.marks.items in
    let count = count_is c.args.number ks c.as_slice.result.now c.count_up_to.result c.count_up_to.ensures c.as_slice.ensures.items in
    subst (IsSplit c.args.number ms ks) (sym count) (split_at_number c.args.number 0 ms ks c.self.invariant.first_sent c.self.invariant.rising)

pub returns-clause-within : goal.returns-clause-within
returns-clause-within c =
    let ks = c.self.inside.marks.items in
    let count = count_is c.args.number ks c.as_slice.result.now c.count_up_to.result c.count_up_to.ensures c.as_slice.ensures.items in
    subst (λ (r : Room Outgoing). c.count_up_to.result ≤ r.room) c.self.view_is
    (omega (arith, count, up_to_few c.args.number ks, c.self.invariant.first_sent, c.self.invariant.within))

pub returns-clause-count : goal.returns-clause-count
returns-clause-count c = sym (split_of c).count_is ∙ ap (λ (r : Room Outgoing). count_by (is_sent_by c.args.number) r.items) c.self.view_is

pub returns-clause-first : goal.returns-clause-first
returns-clause-first c =
    subst (λ (r : Room Outgoing). filter (is_sent_by c.args.number) r.items ≡ take c.count_up_to.result r.items) c.self.view_is (split_of c).first
