use Rattle.mqb_svg.proofs.Plain.{escaped_plain}
use Rattle.mqb_svg.proofs.laws.no_text_is_markup.Goals as goal

pub returns : goal.returns
returns c = escaped_plain
