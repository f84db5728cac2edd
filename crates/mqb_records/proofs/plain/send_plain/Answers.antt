use Rattle.std.proofs.Common.{◌≡◌, ◌+◌, ◌<◌, ◌≤◌, ◌∙◌, ap, arith, subst, sym, true}
use Rattle.mqb_model.specs.declared.limits.TheConstants.{MAX_NUMBER}
use Rattle.mqb_model.specs.records.Packets.{is_sendable}
use Rattle.mqb_model.specs.state.State.{State}
use Rattle.mqb_packet.specs.declared.packet.Headers.TheVariants as headers
use Rattle.mqb_records.proofs.Reading.{sendable_left}
use Rattle.mqb_records.proofs.plain.send_plain.Goals as goal

pub send_message-requires : goal.send_message-requires
send_message-requires c =
    let left : c.next_number-number.result ≤ MAX_NUMBER =
    sendable_left c.contents-2.result.now.lists headers.Session c.next_number-number.result c.in-Some.packet (sym c.is_sendable.ensures ∙ c.if-not-is_sendable.false) in
    subst (λ n. n + 1 < 4294967296) (c.next_number-number.ensures ∙ ap (λ (s : State). s.next_number) c.contents.ensures) (omega arith)
