use Rattle.mqb_fields.specs.lemmas.Wrote.{◌>>◌}
use Rattle.mqb_names.proofs.texts.put_host.Goals as goal

pub returns-in-Tcp : goal.returns-in-Tcp
returns-in-Tcp c = rw c.in-Tcp.is (c.put_bytes-end-in-Tcp.ensures >> c.put_address.ensures)
