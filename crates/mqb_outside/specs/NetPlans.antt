use Rattle.std.specs.Prelude.{ℕ, List, Option, drop}
use Rattle.mqb_outside.specs.ConnPlans.{Planned, planned_all}
use Rattle.mqb_outside.specs.declared.memory_conn.MemoryConn.{MemoryConn}
use Rattle.mqb_outside.specs.declared.memory_net.MemoryNet.{MemoryNet}

-- what the next calls of a net in memory give, in order
abbrev pub upcoming : MemoryNet → List (Option Planned)
upcoming net = drop net.next (planned_all net.plans.items)

-- the connections that it took back, in order
abbrev pub taken_back : MemoryNet → List MemoryConn
taken_back net = net.finished.items

-- how many it gave that it has not taken back
abbrev pub still_out : MemoryNet → ℕ
still_out net = net.unfinished

-- how often it gave none
abbrev pub faults_of : MemoryNet → ℕ
faults_of net = net.faults

-- how many connections were lost
abbrev pub lost_by : MemoryNet → ℕ
lost_by net = net.lost

-- how often it was waited for a peer and none came
abbrev pub idle_of : MemoryNet → ℕ
idle_of net = net.idle
