use Rattle.mqb_fields.specs.lemmas.Wrote.{◌>>◌}
use Rattle.mqb_names.proofs.texts.put_name.Goals as goal

pub returns-in-Public : goal.returns-in-Public
returns-in-Public c = rw c.in-Public.is (c.put_bytes-end.ensures >> c.put_guid-end.ensures >> c.put_journal.ensures)

pub returns-in-Private : goal.returns-in-Private
returns-in-Private c =
    rw c.in-Private.is
    (c.put_bytes-end-in-Private.ensures >> c.put_guid-end-in-Private.ensures >> (c.put_bytes-end-in-Private-2.ensures >> c.put_number-end.ensures)
    >> c.put_journal-in-Private.ensures)

pub returns-in-Direct : goal.returns-in-Direct
returns-in-Direct c = rw c.in-Direct.is (c.put_bytes-end-in-Direct.ensures >> c.put_direct-end.ensures >> c.put_journal-in-Direct.ensures)

pub returns-in-Machine : goal.returns-in-Machine
returns-in-Machine c = rw c.in-Machine.is (c.put_bytes-end-in-Machine.ensures >> c.put_guid-end-in-Machine.ensures >> c.put_kind.ensures)
