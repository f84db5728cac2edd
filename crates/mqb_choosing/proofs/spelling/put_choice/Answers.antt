use Rattle.std.proofs.Common.{◌≡◌, ◌++◌, Option, ap, subst, sym, ◌∙◌}
use Rattle.std.specs.Prelude.{IsSomeAnd, option_map}
use Rattle.mqb_base.specs.declared.message.Message.{Message}
use Rattle.mqb_packet.specs.Plain.{carried_user, plain_spelling}
use Rattle.mqb_packet.specs.declared.packet.Carriage.{Carriage}
use Rattle.mqb_packet.specs.declared.packet.Packet.TheVariants as packet
use Rattle.mqb_model.specs.calls.pump.Pump.{packet_for}
use Rattle.mqb_choosing.specs.Choices.{coming_from}
use Rattle.mqb_choosing.proofs.spelling.put_choice.Goals as goal

pub returns-clause-put : goal.returns-clause-put
returns-clause-put c =
    subst (λ (o : Option Message). IsSomeAnd (option_map (λ m. (coming_from c.args.choice.now.origin m, c.args.choice.now.head)) o)
    (λ given. c.put_message.new.out.items ≡ c.args.out.now.items ++ plain_spelling (packet_for c.args.to c.args.now given))) (sym c.message-message.ensures)
    (c.in-Ok.ensures.put ∙ ap (λ (x : Carriage). c.args.out.now.items ++ plain_spelling (packet.User (carried_user c.message-message.result.now x))) c.carriage_for-carriage.ensures)
