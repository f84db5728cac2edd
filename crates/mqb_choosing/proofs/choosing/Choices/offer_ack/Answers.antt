use Rattle.std.proofs.Common.{◌≡◌, [], ◌∷◌, ap, subst, sym, ◌∙◌}
use Rattle.mqb_base.specs.declared.ids.Identity.{Identity}
use Rattle.mqb_base.specs.declared.message.Message.{Message}
use Rattle.mqb_fate.specs.Orders.{order_acknowledgement}
use Rattle.mqb_queue.proofs.Changed.{on_ok}
use Rattle.mqb_model.specs.calls.pump.Candidates.{ack_of}
use Rattle.mqb_model.specs.rules.Numbers.{own_id}
use Rattle.mqb_choosing.specs.Choices.{IsSendable, coming_from}
use Rattle.mqb_choosing.specs.Going.{Offers}
use Rattle.mqb_choosing.specs.declared.choice.Origin.TheVariants.{Owed}
use Rattle.mqb_choosing.proofs.Acks.{ack_sendable}
use Rattle.mqb_choosing.proofs.choosing.Choices.offer_ack.Goals as goal

pub offer-requires : goal.offer-requires
offer-requires c =
    let told : c.in_ok-message.message ≡ order_acknowledgement (ack_of c.args.row.now) c.args.peer.now.host (own_id c.args.contents.now.lists c.args.number) c.args.now =
    c.in_ok-message.ensures ∙ ap (λ (i : Identity). order_acknowledgement (ack_of c.args.row.now) c.args.peer.now.host (record { qm = i.guid; number = c.args.number }) c.args.now) c.identity.ensures in
    subst (λ (m : Message). IsSendable (coming_from (Owed c.args.index m) m)) (sym told)
    (ack_sendable c.args.contents.now.lists c.args.peer.now c.args.now c.args.number (c.args.index, c.args.row.now) c.requires)

pub returns : goal.returns
returns c =
    let s = c.args.contents.now.lists in
    let told : c.in_ok-message.message ≡ order_acknowledgement (ack_of c.args.row.now) c.args.peer.now.host (own_id s c.args.number) c.args.now =
    c.in_ok-message.ensures ∙ ap (λ (i : Identity). order_acknowledgement (ack_of c.args.row.now) c.args.peer.now.host (record { qm = i.guid; number = c.args.number }) c.args.now) c.identity.ensures in
    on_ok c.offer.result c.offer.ensures (λ offers.
    subst (λ (m : Message). Offers s c.args.self.now c.offer.new.self (coming_from (Owed c.args.index m) m ∷ [])) told offers)
