use Rattle.std.proofs.Common.{ap, inl, inr, sym}
use Rattle.std.specs.Fmt.{digits}
use Rattle.mqb_shell.specs.Lines.{end_line}
use Rattle.mqb_shell.proofs.asking.end_line.Goals as goal

pub returns-in-Done : goal.returns-in-Done
unfolding digits
returns-in-Done c = sym (ap end_line c.in-Done.is)

pub returns-in-Usage : goal.returns-in-Usage
unfolding digits
returns-in-Usage c = sym (ap end_line c.in-Usage.is)

pub returns-in-Script : goal.returns-in-Script
unfolding digits
returns-in-Script c = elim c.in-Script.is [
  | inl script ↦ sym (ap end_line script.2)
  | inr (inl long) ↦ sym (ap end_line long)
  | inr (inr many) ↦ sym (ap end_line many)
]

pub returns-in-ReadFault : goal.returns-in-ReadFault
unfolding digits
returns-in-ReadFault c = sym (ap end_line c.in-ReadFault.is)

pub returns-in-WriteFault : goal.returns-in-WriteFault
unfolding digits
returns-in-WriteFault c = sym (ap end_line c.in-WriteFault.is)

pub returns-in-DiskFault : goal.returns-in-DiskFault
unfolding digits
returns-in-DiskFault c = sym (ap end_line c.in-DiskFault.is)

pub returns-in-NetFault : goal.returns-in-NetFault
unfolding digits
returns-in-NetFault c = sym (ap end_line c.in-NetFault.is)

pub returns-in-BadStore : goal.returns-in-BadStore
unfolding digits
returns-in-BadStore c = elim c.in-BadStore.is [
  | inl bad ↦ sym (ap end_line bad.1)
  | inr full ↦ sym (ap end_line full)
]

pub returns-in-Peer : goal.returns-in-Peer
unfolding digits
returns-in-Peer c = elim c.in-Peer.is [
  | inl peer ↦ sym (ap end_line peer.1)
  | inr full ↦ sym (ap end_line full)
]

pub returns-in-Memory : goal.returns-in-Memory
unfolding digits
returns-in-Memory c = sym (ap end_line c.in-Memory.is)

pub returns-in-Refused : goal.returns-in-Refused
unfolding digits
returns-in-Refused c = sym (ap end_line c.in-Refused.is)
