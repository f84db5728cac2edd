use Rattle.mqb_packet.proofs.WellFormed.{packet_read}
use Rattle.mqb_packet.specs.Parts.{User, seen_user}
use Rattle.mqb_hearing.proofs.Shown.{shown}
use Rattle.mqb_hearing.proofs.lent.LentPacket.new.Goals as goal

pub to_owned-requires : goal.to_owned-requires
to_owned-requires c = (packet_read c.args.view.now.whole.now (User (seen_user c.args.view.now)) c.requires).user.destination

pub invariant_of-result : goal.invariant_of-result
invariant_of-result c = shown (record {
  spelled = c.each_view_spells_a_packet.ensures;
  well_formed = c.read_is_written.ensures.well_formed;
  values = c.read_is_written.ensures.values;
  size = c.read_is_written.ensures.size;
  fits = c.read_is_written.ensures.fits;
}) c.args.view.now c.in_ok-destination.destination c.are_bytes.ensures c.requires c.in_ok-destination.ensures

pub returns-clause-readable : goal.returns-clause-readable
returns-clause-readable c = (shown (record {
  spelled = c.each_view_spells_a_packet.ensures;
  well_formed = c.read_is_written.ensures.well_formed;
  values = c.read_is_written.ensures.values;
  size = c.read_is_written.ensures.size;
  fits = c.read_is_written.ensures.fits;
}) c.args.view.now c.in_ok-destination.destination c.are_bytes.ensures c.requires c.in_ok-destination.ensures).readable
