use Rattle.std.proofs.Common.{refl, subst, sym, ◌∙◌}
use Rattle.mqb_heads.specs.Base.{IsBaseHead}
use Rattle.mqb_packet.specs.declared.packet.Packet.TheVariants.{User}
use Rattle.mqb_snapshot.specs.Spelled.{header_of, stored}
use Rattle.mqb_snapshot.proofs.Sized.{base_fits, props_fit, packet_added}
use Rattle.mqb_snapshot.proofs.tail.Tail.packet.Goals as goal

pub base-requires : goal.base-requires
base-requires c = subst IsBaseHead (sym c.base_of.ensures) (base_fits c.args.message.now c.requires)

pub props-requires : goal.props-requires
props-requires c = props_fit c.args.message.now c.requires

pub returns-clause-added : goal.returns-clause-added
returns-clause-added c =
    packet_added c.args.message.now (header_of c.args.message.now) c.in-Ok.size c.base_of.result c.args.self.now.text c.u32.new.self.text c.base.new.self.text c.stored_user.new.self.text c.props.new.self.text
    (c.in-Ok.ensures.size ∙ sym (c.plain_size.ensures (User (stored c.args.message.now)))) c.base_of.ensures refl
    c.in_ok-u32.ensures.added c.in_ok-base.ensures.added c.in_ok-stored_user.ensures.added c.in_ok-props.ensures.added
