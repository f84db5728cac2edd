use Rattle.std.proofs.Common.{◌≡◌, Some, inl, subst, sym}
use Rattle.mqb_packet.specs.Parts.{seen_packet}
use Rattle.mqb_packet.specs.Spelled.{packet_in}
use Rattle.mqb_packet.specs.declared.lent.PacketView.{PacketView}
use Rattle.mqb_hearing.specs.Plans.{Brings, whole_of}
use Rattle.mqb_hearing.proofs.Brought.{brings_none}
use Rattle.mqb_hearing.proofs.hearing.plan.Goals as goal

pub returns-in-User-clause-made : goal.returns-in-User-clause-made
returns-in-User-clause-made c = λ p there. c.hear_user_packet.ensures.made p (subst (λ (v : PacketView). packet_in (seen_packet v) ≡ Some p) c.in-User.is there)

pub returns-in-Establish-clause-brings : goal.returns-in-Establish-clause-brings
returns-in-Establish-clause-brings c = inl c.hear_set_up.ensures.brings

pub returns-in-Parameters-clause-brings : goal.returns-in-Parameters-clause-brings
returns-in-Parameters-clause-brings c = inl c.hear_set_up-in-Parameters.ensures.brings

pub returns-in-Ack-clause-brings : goal.returns-in-Ack-clause-brings
returns-in-Ack-clause-brings c = brings_none c.hear_ack.result (whole_of c.args.packet.now) c.hear_ack.ensures.brings

pub returns-in-User-clause-brings : goal.returns-in-User-clause-brings
returns-in-User-clause-brings c = subst (λ (v : PacketView). Brings (whole_of v) c.hear_user_packet.result) (sym c.in-User.is) c.hear_user_packet.ensures.brings
