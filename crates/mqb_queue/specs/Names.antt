-- The table that leads from the names of queues to their places in the list.
use Rattle.std.specs.Char.{to_ascii_lowercase}
use Rattle.std.specs.Prelude.{◌++◌, ◌+◌, ◌-◌, ◌≡◌, ◌≤◌, All, Bool, List, None, Option, length, map}
use Rattle.std.specs.Prelude.{position, replicate, ℕ}
use Rattle.indexmap.specs.IndexMap.{IndexMap, get, index_map_len, spare}
use Rattle.mqb_base.specs.Names.{name_fault}
use Rattle.mqb_base.specs.Same.{same_bytes}
use Rattle.mqb_base.specs.declared.names.TheConstants.{MAX_NAME}
use Rattle.mqb_queue.specs.Places.{Queue}
use Rattle.mqb_queue.specs.declared.name_keys.NameKey.{NameKey}

-- a name in lower case, followed by zeros
abbrev pub key_of : List ℕ → NameKey
key_of name = record { 0 = map to_ascii_lowercase name ++ replicate (MAX_NAME - length name) 0 }

abbrev pub same_key : NameKey → NameKey → Bool
same_key a b = same_bytes a.0 b.0

-- the place in the list of the queue whose name has a key
abbrev pub with_key : NameKey → List Queue → Option ℕ
with_key key queues = position (λ q. same_key key (key_of q.plan.name)) queues

-- A table leads from the key of each queue's name to its place in the list, and from no other key.
abbrev pub LeadsTo : {S : Type 0} → List Queue → IndexMap NameKey ℕ S → Type 0
LeadsTo queues names = (key : NameKey) → get same_key names key ≡ with_key key queues

-- And it can have as many keys without memory as there can be queues.
pub record IsNamed {S : Type 0} (queues : List Queue) (most : ℕ)
    (names : IndexMap NameKey ℕ S) : Type 0 where
  pub valid : All (λ q. name_fault q.plan.name ≡ None) queues
  pub leads : LeadsTo queues names
  pub count : index_map_len names ≡ length queues
  pub room : most ≤ length queues + spare names
