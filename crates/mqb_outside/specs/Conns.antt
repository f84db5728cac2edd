use Rattle.std.specs.Prelude.{◌≡◌, ℕ, List, Option, Some}
use Rattle.mqb_outside.specs.Plans.{CallPlan, planned}
use Rattle.mqb_outside.specs.Forms.{held_in, taken_by}
use Rattle.mqb_outside.specs.Forms as forms
use Rattle.mqb_outside.specs.ConnPlans.{Planned}
use Rattle.mqb_outside.specs.declared.memory_conn.MemoryConn.{MemoryConn}

-- what a connection in memory still holds
abbrev pub held_by : MemoryConn → Option (List ℕ)
held_by conn = held_in conn.source

-- what was sent on it
abbrev pub taken_on : MemoryConn → Option (List ℕ)
taken_on conn = taken_by conn.sink

-- what it held when it was given
abbrev pub given_to : MemoryConn → Option (List ℕ)
given_to conn = Some conn.given

-- the address that was asked for
abbrev pub address_of : MemoryConn → Option (List ℕ)
address_of conn = conn.address

-- how often a read of it has failed
abbrev pub read_faults_of : MemoryConn → ℕ
read_faults_of conn = conn.read_faults

-- how often a write to it has failed
abbrev pub write_faults_of : MemoryConn → ℕ
write_faults_of conn = conn.write_faults

-- which reads of a connection in memory fail
abbrev pub reads_of : MemoryConn → CallPlan
reads_of conn = forms.reads_of conn.source

-- which writes to it fail
abbrev pub writes_of : MemoryConn → CallPlan
writes_of conn = forms.writes_of conn.sink

-- a connection before its first call is as it was planned
pub record IsAsPlanned (plan : Planned) (conn : MemoryConn) : Type 0 where
  pub held : held_by conn ≡ Some plan.bytes
  pub reads : reads_of conn ≡ planned plan.failing_reads
  pub writes : writes_of conn ≡ planned plan.failing_writes
