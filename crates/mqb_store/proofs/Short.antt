-- How long the first entry of a store is.
use Rattle.std.proofs.Common.{arith, length-append}
use Rattle.std.specs.Prelude.{◌++◌, ◌≡◌, None, length}
use Rattle.mqb_base.specs.Names.{name_fault}
use Rattle.mqb_entries.specs.Spelled.{spelled_guid, spelled_name}
use Rattle.mqb_entries.specs.SpelledEntries.{spelled}
use Rattle.mqb_entries.specs.declared.entry.Entry.TheVariants as form
use Rattle.mqb_entries.specs.declared.entry.IdentityView.{IdentityView}
use Rattle.mqb_fields.specs.Writing.{bytes_of}
use Rattle.mqb_queue.proofs.Keys.{name_is_short}
use Rattle.mqb_journal.specs.Store.{IsSmall}

pub identity_is_short : (v : IdentityView) → name_fault v.host ≡ None → length v.address ≡ 4 → IsSmall (spelled (form.Identity v))
identity_is_short v name address = omega (
  arith,
  name_is_short v.host name,
  address,
  length-append (spelled_name v.host ++ spelled_guid v.guid) v.address,
  length-append (spelled_name v.host) (spelled_guid v.guid),
  length-append (bytes_of 1 (length v.host)) v.host,
)
