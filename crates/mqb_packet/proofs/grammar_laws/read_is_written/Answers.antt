use Rattle.mqb_packet.proofs.Written.{well_formed, values, no_longer, fits}
use Rattle.mqb_packet.proofs.grammar_laws.read_is_written.Goals as goal

pub returns : goal.returns
returns c = record { well_formed = well_formed; values = values; size = no_longer; fits = fits }
