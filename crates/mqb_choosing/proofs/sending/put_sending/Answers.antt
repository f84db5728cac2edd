use Rattle.std.proofs.Common.{◌≡◌, subst}
use Rattle.std.specs.Prelude.{◌++◌, All, IsSomeAnd, None, Option, Some, flat_map, slice_get}
use Rattle.mqb_base.specs.declared.ids.Guid.{Guid}
use Rattle.mqb_base.specs.declared.ids.Identity.{Identity}
use Rattle.mqb_choosing.specs.Choices.{shown_in}
use Rattle.mqb_model.specs.calls.pump.Pump.{packet_for}
use Rattle.mqb_packet.specs.Plain.{plain_spelling}
use Rattle.mqb_packet.specs.Values.{IsPacket}
use Rattle.mqb_choosing.proofs.sending.put_sending.Goals as goal

-- what is said of the peer at an index
put_to : (o : Option Identity) (guid : Guid) (P : Guid → Type 0) → IsSomeAnd o (λ to. guid ≡ to.guid) → P guid → IsSomeAnd o (λ to. P to.guid)
put_to None guid P is h = absurd is
put_to (Some to) guid P is h = subst P is h

pub returns-clause-put : goal.returns-clause-put
returns-clause-put c =
    put_to (slice_get c.args.contents.now.lists.peers c.args.sending.now.peer) c.guid_at-to.result
    (λ (to : Guid). c.put_choices.new.out.items ≡ c.args.out.now.items ++ flat_map (λ given. plain_spelling (packet_for to c.args.now given))
    (shown_in c.args.contents.now.lists c.args.sending.now.choices.choices)) c.guid_at-to.ensures c.put_choices.ensures.put

pub returns-clause-fits : goal.returns-clause-fits
returns-clause-fits c =
    put_to (slice_get c.args.contents.now.lists.peers c.args.sending.now.peer) c.guid_at-to.result
    (λ (to : Guid). All (λ given. IsPacket (packet_for to c.args.now given)) (shown_in c.args.contents.now.lists c.args.sending.now.choices.choices))
    c.guid_at-to.ensures c.put_choices.ensures.fits
