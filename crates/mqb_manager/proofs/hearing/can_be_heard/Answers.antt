use Rattle.std.proofs.Common.{sym, subst}
use Rattle.mqb_hearing.specs.Plans.{ShowsReadable}
use Rattle.mqb_packet.specs.Spelled.{IsLent}
use Rattle.mqb_packet.specs.declared.lent.PacketView.{PacketView}
use Rattle.mqb_manager.proofs.Readable.{user_readable}
use Rattle.mqb_manager.proofs.hearing.can_be_heard.Goals as goal

pub returns-in-User : goal.returns-in-User
returns-in-User c = subst (λ (v : PacketView). ShowsReadable v) (sym c.in-User.is) (user_readable (record {
  spelled = c.each_view_spells_a_packet.ensures;
  well_formed = c.read_is_written.ensures.well_formed;
  values = c.read_is_written.ensures.values;
  size = c.read_is_written.ensures.size;
  fits = c.read_is_written.ensures.fits;
}) c.in-User.view c.are_bytes.ensures (subst IsLent c.in-User.is c.requires))
