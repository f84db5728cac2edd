use Rattle.mqb_names.specs.lemmas.TextRead.{text_read}
use Rattle.mqb_names.specs.lemmas.TextWritten.{text_written}
use Rattle.mqb_names.proofs.laws.spelling_is_read.Goals as goal

pub returns : goal.returns
returns c = λ text name valid. (text_written text name, text_read text name valid)
