-- The ends of commands that make one answer, and what they are not.
use Rattle.std.proofs.Common.{inl, inr, ℕ, Err, List, Ok, Option, Result, sym, subst}
use Rattle.mqb_base.specs.declared.ids.Identity.{Identity}
use Rattle.mqb_base.specs.declared.queues.Place.{Place}
use Rattle.mqb_answers.specs.declared.told.CallEnd.{CallEnd}
use Rattle.mqb_answers.specs.declared.told.CallEnd.TheVariants as call
use Rattle.mqb_commands.specs.Called.{Calls, status_of}
use Rattle.mqb_commands.specs.Causes.{DiskFaultHasCause}
use Rattle.mqb_commands.specs.Checkpointed.{Checkpoints, end_of}
use Rattle.mqb_commands.specs.Opened.{IsNotOpened}
use Rattle.mqb_commands.specs.Peeked.{Peeks}
use Rattle.mqb_commands.specs.Said.{Inits, Lists, Makes}
use Rattle.mqb_connections.specs.Causes.{IsProbeEnd, NetFaultHasCause}
use Rattle.mqb_outside.specs.Disk.{View}
use Rattle.mqb_commands.specs.Shown.{Shows}
use Rattle.mqb_commands.specs.lemmas.Taking.{told_is}
use Rattle.mqb_commands.specs.Outputs.{IsFaultLine, IsPlain, ReadFaultHasCause, Tells}
use Rattle.mqb_commands.specs.declared.status.Status.{Status}
use Rattle.mqb_commands.specs.declared.status.Status.TheVariants as status
use Rattle.mqb_words.specs.declared.commands.Command.{Command}
use Rattle.mqb_words.specs.declared.commands.Call as words
use Rattle.mqb.proofs.Peeking.{IsAnswer, peek_answers}
use Rattle.mqb.specs.Runs.{IsDiskFaultOf, IsQuiet, UsageHasCause}

pub quiet_plain : (end : Status) → IsQuiet end → IsPlain end
quiet_plain status.Done quiet = tt
quiet_plain status.Usage quiet = absurd quiet
quiet_plain (status.Script line kind) quiet = tt
quiet_plain status.TooLong quiet = tt
quiet_plain status.TooManyLines quiet = tt
quiet_plain status.ReadFault quiet = absurd quiet
quiet_plain status.WriteFault quiet = absurd quiet
quiet_plain status.DiskFault quiet = tt
quiet_plain status.NetFault quiet = absurd quiet
quiet_plain (status.BadStore at) quiet = tt
quiet_plain status.NotEmpty quiet = tt
quiet_plain (status.Peer why) quiet = tt
quiet_plain status.NetFull quiet = tt
quiet_plain status.Memory quiet = tt
quiet_plain status.Refused quiet = tt

-- Each command that makes one answer.

pub makes_quiet : (orders : ℕ) (text : List ℕ) (end : Status) → Makes orders text end → IsQuiet end
makes_quiet orders text status.Done made = tt
makes_quiet orders text status.Usage made = absurd made
makes_quiet orders text (status.Script line kind) made = tt
makes_quiet orders text status.TooLong made = tt
makes_quiet orders text status.TooManyLines made = tt
makes_quiet orders text status.ReadFault made = absurd made
makes_quiet orders text status.WriteFault made = absurd made
makes_quiet orders text status.DiskFault made = tt
makes_quiet orders text status.NetFault made = absurd made
makes_quiet orders text (status.BadStore at) made = tt
makes_quiet orders text status.NotEmpty made = tt
makes_quiet orders text (status.Peer why) made = tt
makes_quiet orders text status.NetFull made = tt
makes_quiet orders text status.Memory made = tt
makes_quiet orders text status.Refused made = tt

pub inits_quiet : (identity : Identity) (d e : View) (text : List ℕ) (end : Status) → Inits identity d e text end → IsQuiet end
inits_quiet identity d e text status.Done made = tt
inits_quiet identity d e text status.Usage made = absurd made
inits_quiet identity d e text (status.Script line kind) made = tt
inits_quiet identity d e text status.TooLong made = tt
inits_quiet identity d e text status.TooManyLines made = tt
inits_quiet identity d e text status.ReadFault made = absurd made
inits_quiet identity d e text status.WriteFault made = absurd made
inits_quiet identity d e text status.DiskFault made = tt
inits_quiet identity d e text status.NetFault made = absurd made
inits_quiet identity d e text (status.BadStore at) made = tt
inits_quiet identity d e text status.NotEmpty made = tt
inits_quiet identity d e text (status.Peer why) made = tt
inits_quiet identity d e text status.NetFull made = tt
inits_quiet identity d e text status.Memory made = tt
inits_quiet identity d e text status.Refused made = tt

not_opened_quiet : (d e : View) (end : Status) → IsNotOpened d e end → IsQuiet end
not_opened_quiet d e status.Done failed = tt
not_opened_quiet d e status.Usage failed = absurd failed
not_opened_quiet d e (status.Script line kind) failed = tt
not_opened_quiet d e status.TooLong failed = tt
not_opened_quiet d e status.TooManyLines failed = tt
not_opened_quiet d e status.ReadFault failed = absurd failed
not_opened_quiet d e status.WriteFault failed = absurd failed
not_opened_quiet d e status.DiskFault failed = tt
not_opened_quiet d e status.NetFault failed = absurd failed
not_opened_quiet d e (status.BadStore at) failed = tt
not_opened_quiet d e status.NotEmpty failed = tt
not_opened_quiet d e (status.Peer why) failed = tt
not_opened_quiet d e status.NetFull failed = tt
not_opened_quiet d e status.Memory failed = tt
not_opened_quiet d e status.Refused failed = tt

pub lists_quiet : (d e : View) (text : List ℕ) (end : Status) → Lists d e text end → IsQuiet end
lists_quiet d e text end (inl listed) = subst IsQuiet (sym listed.0) tt
lists_quiet d e text end (inr failed) = not_opened_quiet d e end failed.0

ended_quiet : (end : CallEnd) → IsQuiet (status_of end)
ended_quiet call.Done = tt
ended_quiet call.Refused = tt

fault_quiet : (text : List ℕ) (end : Status) → IsFaultLine status.DiskFault text end → IsQuiet end
fault_quiet text end (inl told) = subst IsQuiet (sym told.0) tt
fault_quiet text end (inr none) = subst IsQuiet (sym none.0) tt

pub calls_quiet : (asked : words.Call) (now : ℕ) (d e : View) (text : List ℕ) (end : Status) → Calls asked now d e text end → IsQuiet end
calls_quiet asked now d e text end (inl opened) = elim opened.done [
  | inl answered ↦ subst IsQuiet (sym answered.1) (ended_quiet answered.0)
  | inr (inl broken) ↦ fault_quiet text end broken.0
  | inr (inr none) ↦ subst IsQuiet (sym none.0) tt
]
calls_quiet asked now d e text end (inr failed) = not_opened_quiet d e end failed.0

replied_quiet : {V E : Type 0} (given : Result V E) → IsQuiet (end_of given)
replied_quiet (Ok done) = tt
replied_quiet (Err why) = tt

pub checkpoints_quiet : (d e : View) (text : List ℕ) (end : Status) → Checkpoints d e text end → IsQuiet end
checkpoints_quiet d e text end (inl opened) = elim opened.done [
  | inl made ↦ subst IsQuiet (sym made.ended) (replied_quiet _)
  | inr (inl left) ↦ fault_quiet text end left.0
  | inr (inr none) ↦ subst IsQuiet (sym none.0) tt
]
checkpoints_quiet d e text end (inr failed) = not_opened_quiet d e end failed.0

answer_quiet : (r : Status) → IsAnswer r → IsQuiet r
answer_quiet r (inl done) = subst IsQuiet (sym done) tt
answer_quiet r (inr refused) = subst IsQuiet (sym refused) tt

pub peeks_quiet : (place : Place) (count : ℕ) (steady : Option ℕ) (d e : View) (text : List ℕ) (end : Status) → Peeks place count steady d e text end → IsQuiet end
peeks_quiet place count steady d e text end peeks = elim (peek_answers place count steady d e text end peeks) [
  | inl answered ↦ answer_quiet end answered
  | inr failed ↦ not_opened_quiet d e end failed.0
]

-- The commands that read the input.

-- No net and no disk is used by these.

pub shows_disk : (cause : Type 0) (held left before after : Option (List ℕ)) (r : Status) → Shows held left before after r → IsDiskFaultOf cause r
shows_disk cause held left before after status.Done shown = tt
shows_disk cause held left before after status.Usage shown = tt
shows_disk cause held left before after (status.Script line kind) shown = tt
shows_disk cause held left before after status.TooLong shown = tt
shows_disk cause held left before after status.TooManyLines shown = tt
shows_disk cause held left before after status.ReadFault shown = tt
shows_disk cause held left before after status.WriteFault shown = tt
shows_disk cause held left before after status.DiskFault shown = absurd shown.wrote.0
shows_disk cause held left before after status.NetFault shown = tt
shows_disk cause held left before after (status.BadStore at) shown = tt
shows_disk cause held left before after status.NotEmpty shown = tt
shows_disk cause held left before after (status.Peer why) shown = tt
shows_disk cause held left before after status.NetFull shown = tt
shows_disk cause held left before after status.Memory shown = tt
shows_disk cause held left before after status.Refused shown = tt

pub probe_net : (cause : Type 0) (r : Status) → IsProbeEnd r → NetFaultHasCause cause r
probe_net cause status.Done ends = tt
probe_net cause status.Usage ends = absurd ends
probe_net cause (status.Script line kind) ends = absurd ends
probe_net cause status.TooLong ends = absurd ends
probe_net cause status.TooManyLines ends = absurd ends
probe_net cause status.ReadFault ends = tt
probe_net cause status.WriteFault ends = tt
probe_net cause status.DiskFault ends = tt
probe_net cause status.NetFault ends = absurd ends
probe_net cause (status.BadStore at) ends = tt
probe_net cause status.NotEmpty ends = tt
probe_net cause (status.Peer why) ends = tt
probe_net cause status.NetFull ends = absurd ends
probe_net cause status.Memory ends = tt
probe_net cause status.Refused ends = tt

pub probe_usage : (asked : Option Command) (r : Status) → IsProbeEnd r → UsageHasCause asked r
probe_usage asked status.Done ends = tt
probe_usage asked status.Usage ends = absurd ends
probe_usage asked (status.Script line kind) ends = absurd ends
probe_usage asked status.TooLong ends = absurd ends
probe_usage asked status.TooManyLines ends = absurd ends
probe_usage asked status.ReadFault ends = tt
probe_usage asked status.WriteFault ends = tt
probe_usage asked status.DiskFault ends = tt
probe_usage asked status.NetFault ends = absurd ends
probe_usage asked (status.BadStore at) ends = tt
probe_usage asked status.NotEmpty ends = tt
probe_usage asked (status.Peer why) ends = tt
probe_usage asked status.NetFull ends = absurd ends
probe_usage asked status.Memory ends = tt
probe_usage asked status.Refused ends = tt

pub told_disk : (cause : Type 0) (text : List ℕ) (end : Status) (before after : Option (List ℕ)) (r : Status) → Tells text end before after r
    → IsDiskFaultOf cause end → IsDiskFaultOf cause r
told_disk cause text end before after r told well = told_is (IsDiskFaultOf cause) text end before after r told well tt
