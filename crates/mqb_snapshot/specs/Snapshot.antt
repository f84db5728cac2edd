-- A state in bytes.
use Rattle.std.specs.Prelude.{◌++◌, List, flat_map, ℕ}
use Rattle.mqb_model.specs.state.State.{State}
use Rattle.mqb_snapshot.specs.Spelled.{counted, spelled_identity, spelled_in, spelled_out}
use Rattle.mqb_snapshot.specs.Spelled.{spelled_places, spelled_plain, spelled_plan, word}

-- the next number, the next ordinal, and the count at which a sequence is full
abbrev pub spelled_counters : State → List ℕ
spelled_counters s = word s.next_number ++ word s.next_ordinal ++ word s.roll

-- What a store stands for, in bytes: what a state has beside it is left out.
abbrev pub snapshot : State → List ℕ
snapshot s = spelled_identity s.identity ++ counted spelled_identity s.peers
    ++ counted (λ q. spelled_plan q.plan) s.places.queues
    ++ spelled_places s.places ++ flat_map spelled_plain s.plain ++ counted spelled_out s.outs
    ++ counted spelled_in s.ins
    ++ spelled_counters s
