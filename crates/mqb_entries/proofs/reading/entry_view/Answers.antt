use Rattle.std.proofs.Common.{rules}
use Rattle.mqb_entries.specs.lemmas.Formats.{are_bytes}
use Rattle.mqb_entries.proofs.EntryLaws.{view_fits, view_spelled}
use Rattle.mqb_entries.proofs.reading.entry_view.Goals as goal

pub returns-clause-spelled : goal.returns-clause-spelled
returns-clause-spelled c = view_spelled c.args.bytes.now c.entry.result (are_bytes c.args.bytes.now (search rules)) c.entry.ensures

pub returns-clause-fits : goal.returns-clause-fits
returns-clause-fits c = view_fits c.args.bytes.now c.entry.result (are_bytes c.args.bytes.now (search rules)) c.entry.ensures
