use Rattle.std.proofs.Common.{◌≡◌, ◌∙◌, List, Some, ap, subst, sym, ℕ}
use Rattle.mqb_entries.specs.Packets.{packet_of, shown}
use Rattle.mqb_base.specs.declared.ids.Guid.{Guid}
use Rattle.mqb_base.specs.declared.message.Message.{Message}
use Rattle.mqb_model.specs.Typed.{TellsOfCarried}
use Rattle.mqb_model.specs.records.Carrying.{IsRecorded}
use Rattle.mqb_model.specs.records.Reading.{user_packet_of}
use Rattle.mqb_packet.specs.declared.packet.UserPacket.{UserPacket}
use Rattle.mqb_state.proofs.typed.packet_tells.Goals as goal

-- what is read as the packet that tells of a message tells of it
told_as : (m : Message) (to : Guid) (bytes : List ℕ) → user_packet_of bytes ≡ Some (packet_of m to) → IsRecorded m → TellsOfCarried bytes
told_as m to bytes read recorded p is =
    let same : packet_of m to ≡ p = cc in
    subst (λ (p : UserPacket). IsRecorded p.message) same recorded

pub returns-in-Spelled : goal.returns-in-Spelled
returns-in-Spelled c =
    subst TellsOfCarried (sym (ap shown c.in-Spelled.is) ∙ c.form.ensures.shown) (λ p is. c.packets_are_read.ensures c.in-Spelled.bytes.now p c.bytes_are_bytes.ensures is)

pub returns-in-Heard : goal.returns-in-Heard
returns-in-Heard c = subst TellsOfCarried (sym (ap shown c.in-Heard.is) ∙ c.form.ensures.shown)
    (λ p is. c.packets_are_read.ensures c.in-Heard.view.now.whole.now p c.bytes_are_bytes-in-Heard.ensures is)

pub returns-in-Message : goal.returns-in-Message
returns-in-Message c = subst TellsOfCarried (sym (ap shown c.in-Message.is) ∙ c.form.ensures.shown)
    (told_as c.in-Message.message.now c.in-Message.to _ c.told_is_read.ensures.read c.told_is_read.ensures.recorded)
