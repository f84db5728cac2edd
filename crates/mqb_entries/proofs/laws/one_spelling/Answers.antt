use Rattle.std.proofs.Common.{sym, ap, ◌∙◌}
use Rattle.mqb_entries.specs.declared.faults.EntryFault.{EntryFault}
use Rattle.mqb_entries.specs.Entries.{entry_of}
use Rattle.mqb_entries.specs.lemmas.Formats.{ok_same}
use Rattle.mqb_entries.proofs.EntryLaws.{entry_again}
use Rattle.mqb_entries.proofs.laws.one_spelling.Goals as goal

pub returns : goal.returns
returns c = λ a b fits others same. ok_same EntryFault a b (sym (entry_again a fits) ∙ ap entry_of same ∙ entry_again b others)
