use Rattle.mqb_model.proofs.Packets.{packet_is_read}
use Rattle.mqb_model.proofs.record_laws.packets_are_read.Goals as goal

pub returns : goal.returns
returns c = packet_is_read (record {
  well_formed = c.read_is_written.ensures.well_formed;
  values = c.read_is_written.ensures.values;
  size = c.read_is_written.ensures.size;
  fits = c.read_is_written.ensures.fits;
})
