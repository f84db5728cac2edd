use Rattle.std.specs.Prelude.{List, ℕ, Option, Some, drop}
use Rattle.mqb_outside.specs.Plans.{CallPlan}
use Rattle.mqb_outside.specs.Counting.{plan_of}
use Rattle.mqb_outside.specs.declared.source.MemorySource.{MemorySource}
use Rattle.mqb_outside.specs.declared.sink.MemorySink.{MemorySink}

-- what a source in memory still holds
abbrev pub held_in : MemorySource → Option (List ℕ)
held_in source = Some (drop source.at source.bytes.items)

-- what a sink in memory has taken
abbrev pub taken_by : MemorySink → Option (List ℕ)
taken_by sink = Some sink.bytes.items

-- how often a source in memory has failed
abbrev pub read_faults_of : MemorySource → ℕ
read_faults_of source = source.calls.faults

-- how often a sink in memory has failed
abbrev pub write_faults_of : MemorySink → ℕ
write_faults_of sink = sink.calls.faults

-- which reads of a source in memory fail
abbrev pub reads_of : MemorySource → CallPlan
reads_of source = plan_of source.calls

-- which writes to a sink in memory fail
abbrev pub writes_of : MemorySink → CallPlan
writes_of sink = plan_of sink.calls
