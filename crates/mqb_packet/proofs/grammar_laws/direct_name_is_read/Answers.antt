use Rattle.mqb_packet.proofs.DirectNames.{direct_form, direct_spelled}
use Rattle.mqb_packet.proofs.grammar_laws.direct_name_is_read.Goals as goal

pub returns : goal.returns
returns c = λ host queue bytes valid is_queue small. (λ read. direct_form host queue bytes small read.0 read.1, λ form. direct_spelled host queue bytes valid is_queue form)
