-- The keys of rows, and what a table of them has.
use Rattle.std.specs.List.{list_any}
use Rattle.std.specs.Prelude.{◌&&◌, ◌==◌, Bool, IsTrue, List, ℕ}
use Rattle.mqb_base.specs.Same.{same_guid, same_name}
use Rattle.mqb_base.specs.declared.ids.Guid.{Guid}
use Rattle.mqb_base.specs.declared.queue_names.QueueName.{QueueName}
use Rattle.mqb_orders.specs.declared.keys.InKey.{InKey}
use Rattle.mqb_orders.specs.declared.keys.OutKey.{OutKey}

-- a source and a destination; a peer and a destination
abbrev pub in_key : Guid → QueueName → InKey
in_key source destination = record { source = source; destination = destination }

abbrev pub out_key : ℕ → QueueName → OutKey
out_key peer destination = record { peer = peer; destination = destination }

abbrev pub same_in_key : InKey → InKey → Bool
same_in_key a b = same_guid a.source b.source && same_name a.destination b.destination

abbrev pub same_out_key : OutKey → OutKey → Bool
same_out_key a b = a.peer == b.peer && same_name a.destination b.destination

-- one of the keys is this one
abbrev pub HasKey : {K : Type 0} → (K → K → Bool) → List K → K → Type 0
HasKey same keys key = IsTrue (list_any (same key) keys)

-- each key stays
abbrev pub AreKeysKept : {K : Type 0} → (K → K → Bool) → List K → List K → Type 0
AreKeysKept {K} same old new = (key : K) → HasKey same old key → HasKey same new key
