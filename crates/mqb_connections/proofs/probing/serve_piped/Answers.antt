use Rattle.mqb_connections.proofs.probing.serve_piped.Goals as goal

pub serve_one-requires-clause-up : goal.serve_one-requires-clause-up
serve_one-requires-clause-up g c = c.requires.up

pub serve_one-requires-clause-on : goal.serve_one-requires-clause-on
serve_one-requires-clause-on g c = c.requires.on

pub returns-clause-up : goal.returns-clause-up
returns-clause-up g c = c.serve_one.ensures.up

pub returns-clause-disk : goal.returns-clause-disk
returns-clause-disk g c = c.serve_one.ensures.disk

pub returns-clause-disk_faults : goal.returns-clause-disk_faults
returns-clause-disk_faults g c = c.serve_one.ensures.disk_faults
