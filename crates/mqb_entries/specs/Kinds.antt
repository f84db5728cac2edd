use Rattle.std.specs.Prelude.{ℕ, List, [], ◌∷◌}
use Rattle.mqb_entries.specs.declared.kinds.EntryKind.{EntryKind}
use Rattle.mqb_entries.specs.declared.kinds.EntryKind.TheVariants.{Identity, Peer, CreateQueue}
use Rattle.mqb_entries.specs.declared.kinds.EntryKind.TheVariants.{Commit, Plain, Offered, Arrived}
use Rattle.mqb_entries.specs.declared.kinds.EntryKind.TheVariants.{Taken, Purged, Ticked, Roll}

-- the kinds of entries
abbrev pub kinds : List EntryKind
kinds = Identity ∷ Peer ∷ CreateQueue ∷ Commit ∷ Plain ∷ Offered ∷ Arrived ∷ Taken ∷ Purged ∷ Ticked
    ∷ Roll ∷ []

-- the first byte of an entry of a kind
abbrev pub code_of : EntryKind → ℕ
code_of Identity = 1
code_of Peer = 2
code_of CreateQueue = 3
code_of Commit = 4
code_of Plain = 5
code_of Offered = 6
code_of Arrived = 7
code_of Taken = 8
code_of Purged = 9
code_of Ticked = 10
code_of Roll = 11
