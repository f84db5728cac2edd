use Rattle.std.proofs.Common.{◌≡◌, Option, [], ◌∷◌, ap, subst, sym, ◌∙◌}
use Rattle.std.specs.Prelude.{IsSomeAnd}
use Rattle.mqb_base.specs.declared.message.Message.{Message}
use Rattle.mqb_model.specs.calls.pump.Choosing.{candidate_size}
use Rattle.mqb_packet.specs.Plain.{message_size}
use Rattle.mqb_packet.specs.declared.packet.Headers.{Headers}
use Rattle.mqb_queue.proofs.Changed.{on_ok}
use Rattle.mqb_choosing.specs.Choices.{coming_from}
use Rattle.mqb_choosing.specs.Going.{Going, Offers}
use Rattle.mqb_choosing.proofs.Offers.{offers_one}
use Rattle.mqb_choosing.proofs.choosing.Choices.offer.Goals as goal

pub returns : goal.returns
returns c = on_ok c.offer_sized.result c.offer_sized.ensures (λ new.
    let s = c.args.contents.now.lists in
    let m : Message = c.message.result.now in
    let sized : c.size_of-size.result ≡ candidate_size (coming_from c.args.origin m) =
    c.size_of-size.ensures.size ∙ ap (λ (h : Headers). message_size h m) c.headers.ensures in
    subst (λ (o : Option Message). IsSomeAnd o (λ m. Offers s c.args.self.now c.offer_sized.new.self (coming_from c.args.origin m ∷ []))) (sym c.message.ensures)
    (subst (λ (g : Going). Offers s c.args.self.now g (coming_from c.args.origin m ∷ [])) (sym new)
    (offers_one s c.args.self.now c.args.origin m c.size_of-size.result c.message.ensures sized)))
