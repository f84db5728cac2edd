use Rattle.std.proofs.Common.{◌<◌}
use Rattle.std.proofs.lemmas.List.Elements.{recursion_from_All}
use Rattle.mqb_entries.proofs.EntryLaws.{entry_took}
use Rattle.mqb_entries.proofs.laws.read_is_spelled.Goals as goal

pub returns : goal.returns
returns c = λ bytes entry all e. entry_took bytes entry (recursion_from_All (λ b. b < 256) bytes all) e
