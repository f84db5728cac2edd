-- How a command of a manager that is open ends, by what it says.
use Rattle.std.proofs.Common.{◌≡◌, ◌≢◌, List, Option, subst, ℕ}
use Rattle.std.specs.Prelude.{Err, IfErr, MatchResult, Ok, Result}
use Rattle.mqb_commands.specs.Causes.{DiskFaultHasCause}
use Rattle.mqb_commands.specs.Outputs.{GoesOn, IsAnswerEnd, IsLookEnd, IsPlain, Tells, WriteFaultHasCause}
use Rattle.mqb_commands.specs.declared.status.Status.{Status}
use Rattle.mqb_commands.specs.declared.status.Status.TheVariants as status
use Rattle.mqb_commands.specs.lemmas.Taking.{told_is}
use Rattle.mqb_connections.specs.Causes.{IsLinkEnd}
use Rattle.mqb_connections.specs.Served.{end_of}
use Rattle.mqb_shell.specs.Ends.{IsLineEnd}

-- An answer ends as a line does, and with no fault of the output.

answer_ends : (end : Status) → IsAnswerEnd end → IsLineEnd end
answer_ends status.Done ends = tt
answer_ends status.Refused ends = tt
answer_ends status.DiskFault ends = tt
answer_ends status.Memory ends = tt
answer_ends _ ends = absurd ends

pub look_ends : (end : Status) → IsLookEnd end → IsAnswerEnd end
look_ends status.Done ends = tt
look_ends status.Refused ends = tt
look_ends status.Memory ends = tt
look_ends _ ends = absurd ends

pub answer_plain : (end : Status) → IsAnswerEnd end → IsPlain end
answer_plain status.WriteFault ends = absurd ends
answer_plain _ ends = tt

-- It is told whole, or the output failed.
module _ {text : List ℕ} {end : Status} {before after : Option (List ℕ)} {r : Status} (told : Tells text end before after r) where
  pub told_ends : IsAnswerEnd end → IsLineEnd r
  told_ends ends = told_is IsLineEnd text end before after r told (answer_ends end ends) tt

  pub told_cause : (faults faults_now : ℕ) → DiskFaultHasCause faults faults_now end → DiskFaultHasCause faults faults_now r
  told_cause faults faults_now cause = told_is (DiskFaultHasCause faults faults_now) text end before after r told cause tt

  -- a shell that goes on behind that goes on behind the end that was meant
  pub told_goes : GoesOn r → GoesOn end
  told_goes = told_is (λ s. GoesOn s → GoesOn end) text end before after r told (λ goes. goes) (λ goes. absurd goes)

-- What serves connections ends as a line does.

pub link_ends : (end : Status) → IsLinkEnd end → IsLineEnd end
link_ends status.Done ends = tt
link_ends status.WriteFault ends = tt
link_ends status.DiskFault ends = tt
link_ends status.NetFault ends = tt
link_ends (status.Peer why) ends = tt
link_ends status.Memory ends = tt
link_ends status.Refused ends = tt
link_ends _ ends = absurd ends

pub served_ends : (r : Result (Unit {0}) Status) → IfErr r IsLinkEnd → IsLineEnd (end_of r)
served_ends (Ok done) ends = tt
served_ends (Err end) ends = link_ends end ends

pub served_disk : (before after : ℕ) (r : Result (Unit {0}) Status) → MatchResult r (λ _. after ≡ before) (DiskFaultHasCause before after) → DiskFaultHasCause before after (end_of r)
served_disk before after (Ok done) same = tt
served_disk before after (Err end) cause = cause

pub served_write : (before after : ℕ) (r : Result (Unit {0}) Status) → MatchResult r (λ _. after ≡ before) (WriteFaultHasCause before after) → WriteFaultHasCause before after (end_of r)
served_write before after (Ok done) same = tt
served_write before after (Err end) cause = cause

pub goes_up : (end : Status) → GoesOn end → end ≢ status.DiskFault
goes_up end goes same = subst GoesOn same goes
