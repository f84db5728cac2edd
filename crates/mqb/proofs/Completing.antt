-- Where no device failed and the store is sound, a command ends well, or memory ran out.
use Rattle.std.proofs.Common.{◌≡◌, ◌⊎◌, ◌∙◌, ◌<◌, [], ℕ, List, Option, Result, Some, None, Ok, Err, ap, inl, inr, refl, sym, subst, arith}
use Rattle.mqb_base.specs.declared.ids.Identity.{Identity}
use Rattle.mqb_base.specs.declared.queues.Place.{Place}
use Rattle.mqb_answers.specs.declared.told.CallEnd.{CallEnd}
use Rattle.mqb_answers.specs.declared.told.CallEnd.TheVariants as call
use Rattle.mqb_commands.specs.Called.{Calls, CallsAt, status_of}
use Rattle.mqb_commands.specs.Causes.{DiskFaultHasCause}
use Rattle.mqb_commands.specs.Checkpointed.{Checkpoints, end_of}
use Rattle.mqb_commands.specs.Opened.{IsNotOpened}
use Rattle.mqb_commands.specs.Peeked.{Peeks}
use Rattle.mqb_commands.specs.Said.{Inits, Lists, Makes}
use Rattle.mqb_connections.specs.Probed.{CompletesProbe, ProbesStore}
use Rattle.mqb_connections.specs.Reached.{CompletesReach}
use Rattle.mqb_connections.specs.Served as served
use Rattle.mqb_connections.specs.Statuses.{IsFaultless, probe_status}
use Rattle.mqb_outside.specs.Disk.{View}
use Rattle.mqb_outside.specs.Net.{Ended}
use Rattle.mqb_outside.specs.Faults.{Rose}
use Rattle.mqb_replay.specs.Completeness.{CompletesTrial, FitMedium, HoldsScript, IsDoneOr}
use Rattle.mqb_replay.specs.Completeness as replay
use Rattle.mqb_replay.specs.Devices.{Devices}
use Rattle.mqb_replay.specs.Replays.{AreEmpty}
use Rattle.mqb_replay.specs.Faults as playing
use Rattle.mqb_replay.specs.declared.faults.ReplayFault.{ReplayFault}
use Rattle.mqb_script.specs.Script.{script_of}
use Rattle.mqb_script.specs.declared.events.Event.{Event}
use Rattle.mqb_serving.specs.Serving.{Answer}
use Rattle.mqb_serving.specs.declared.faults.ConnFault.TheVariants as fault
use Rattle.mqb_commands.specs.Shown.{Shows}
use Rattle.mqb_commands.specs.Outputs.{ReadFaultHasCause, Says, Tells, WriteFaultHasCause}
use Rattle.mqb_commands.specs.declared.status.Status.{Status}
use Rattle.mqb_commands.specs.declared.status.Status.TheVariants as status
use Rattle.mqb_shell.specs.Shells.{IsShellEnd, ShellsStore}
use Rattle.mqb_transcript.specs.Generator.{generated}
use Rattle.mqb_words.specs.declared.commands.Call as words
use Rattle.mqb_words.specs.declared.commands.Command.{Command}
use Rattle.mqb_words.specs.declared.commands.Command.TheVariants as command
use Rattle.mqb.proofs.Peeking.{IsAnswer, peek_answers}
use Rattle.mqb.proofs.Shelling.{shell_ends}
use Rattle.mqb.specs.Completeness.{Completes, Faults, IsDoneOrPeer, IsReplayed, IsSound}

-- what was told where the output did not fail
told_well : (P : Status → Type 0) (text : List ℕ) (end : Status) (before after : Option (List ℕ)) (writes writes_now : ℕ) (r : Status)
    → Tells text end before after r → WriteFaultHasCause writes writes_now r → (Rose writes writes_now → ⊥) → P end → P r
told_well P text end before after writes writes_now r (inl told) cause calm well = subst P (sym told.0) well
told_well P text end before after writes writes_now r (inr told) cause calm well = absurd (calm (subst (WriteFaultHasCause writes writes_now) told.0 cause))

said_well : (P : Status → Type 0) (meant : List ℕ → Status → Type 0) (before after : Option (List ℕ)) (writes writes_now : ℕ) (r : Status)
    → Says meant before after r → WriteFaultHasCause writes writes_now r → (Rose writes writes_now → ⊥) → ((text : List ℕ) (end : Status) → meant text end → P end) → P r
said_well P meant before after writes writes_now r said cause calm well =
    told_well P said.text said.end before after writes writes_now r said.told cause calm (well said.text said.end said.means)

-- an end but want of memory
abbrev Unless : (Status → Type 0) → Status → Type 0
Unless P r = P r ⊎ (r ≡ status.Memory)

made_ends : (orders : ℕ) (text : List ℕ) (end : Status) → Makes orders text end → Unless (λ r. r ≡ status.Done) end
made_ends orders text status.Done made = inl refl
made_ends orders text status.Memory made = inr refl
made_ends orders text _ made = absurd made

-- a sound store is opened, or memory ran out
not_opened_ends : (P : Status → Type 0) (d e : View) (end : Status) → IsNotOpened d e end → (Rose d.faults e.faults → ⊥) → Unless (λ r. IsSound d → P r) end
not_opened_ends P d e (status.BadStore at) failed calm = inl (λ sound. absurd (sound at failed.0))
not_opened_ends P d e status.DiskFault failed calm = absurd (calm failed.0)
not_opened_ends P d e status.Memory failed calm = inr refl
not_opened_ends P d e _ failed calm = absurd failed

inits_ends : (identity : Identity) (d e : View) (text : List ℕ) (end : Status) → Inits identity d e text end → (Rose d.faults e.faults → ⊥)
    → Unless (λ r. d.reads [] → r ≡ status.Done) end
inits_ends identity d e text status.Done made calm = inl (λ empty. refl)
inits_ends identity d e text status.NotEmpty made calm = inl (λ empty. let none : 0 < 0 = made.1 [] empty in absurd (omega (arith, none)))
inits_ends identity d e text status.DiskFault made calm = absurd (calm made.1)
inits_ends identity d e text status.Memory made calm = inr refl
inits_ends identity d e text _ made calm = absurd made

lists_ends : (d e : View) (text : List ℕ) (end : Status) → Lists d e text end → (Rose d.faults e.faults → ⊥) → Unless (λ r. IsSound d → r ≡ status.Done) end
lists_ends d e text end (inl listed) calm = inl (λ sound. listed.0)
lists_ends d e text end (inr failed) calm = not_opened_ends (λ r. r ≡ status.Done) d e end failed.0 calm

answer_ends : (end : CallEnd) → IsAnswer (status_of end)
answer_ends call.Done = inl refl
answer_ends call.Refused = inr refl

calls_ends : (asked : words.Call) (now : ℕ) (d e : View) (text : List ℕ) (end : Status) → Calls asked now d e text end → (Rose d.faults e.faults → ⊥)
    → Unless (λ r. IsSound d → IsAnswer r) end
calls_ends asked now d e text end (inl opened) calm = elim opened.done [
  | inl answered ↦ inl (λ sound. subst IsAnswer (sym answered.1) (answer_ends answered.0))
  | inr (inl broken) ↦ absurd (calm broken.1.rose)
  | inr (inr none) ↦ inr none.0
]
calls_ends asked now d e text end (inr failed) calm = not_opened_ends IsAnswer d e end failed.0 calm

replied_ends : {V E : Type 0} (given : Result V E) → IsAnswer (end_of given)
replied_ends (Ok done) = inl refl
replied_ends (Err why) = inr refl

checkpoints_ends : (d e : View) (text : List ℕ) (end : Status) → Checkpoints d e text end → (Rose d.faults e.faults → ⊥) → Unless (λ r. IsSound d → IsAnswer r) end
checkpoints_ends d e text end (inl opened) calm = elim opened.done [
  | inl made ↦ inl (λ sound. subst IsAnswer (sym made.ended) (replied_ends _))
  | inr (inl left) ↦ absurd (calm left.1.rose)
  | inr (inr none) ↦ inr none.0
]
checkpoints_ends d e text end (inr failed) calm = not_opened_ends IsAnswer d e end failed.0 calm

peeks_ends : (place : Place) (count : ℕ) (steady : Option ℕ) (d e : View) (text : List ℕ) (end : Status) → Peeks place count steady d e text end
    → (Rose d.faults e.faults → ⊥) → Unless (λ r. IsSound d → IsAnswer r) end
peeks_ends place count steady d e text end peeks calm = elim (peek_answers place count steady d e text end peeks) [
  | inl answered ↦ inl (λ sound. answered)
  | inr failed ↦ not_opened_ends IsAnswer d e end failed.0 calm
]

-- The commands of connections, whose own clauses say what they come to.

serve_ends : (sound : Type 0) (r : Status) → (sound → (r ≡ status.Done) ⊎ (r ≡ status.Memory)) → Unless (λ r. sound → r ≡ status.Done) r
serve_ends sound status.Memory ends = inr refl
serve_ends sound status.Done ends = inl (λ is. refl)
serve_ends sound _ ends = inl (λ is. elim (ends is) [
  | inl done ↦ done
  | inr none ↦ absurd (let never : ⊥ = cc in never)
])

abbrev IsReachEnd : Status → Type 0
IsReachEnd r = IsDoneOrPeer r ⊎ (r ≡ status.Refused)

reach_ends : (sound : Type 0) (r : Status) → (sound → IsFaultless r) → Unless (λ r. sound → IsReachEnd r) r
reach_ends sound status.Memory ends = inr refl
reach_ends sound status.Done ends = inl (λ is. inl (inl refl))
reach_ends sound (status.Peer why) ends = inl (λ is. inl (inr (why, refl)))
reach_ends sound status.Refused ends = inl (λ is. inr refl)
reach_ends sound _ ends = inl (λ is. absurd (ends is))

probe_not_refused : (end : Answer) → probe_status end ≡ status.Refused → ⊥
probe_not_refused (Ok done) e = cc
probe_not_refused (Err (fault.Peer why)) e = cc
probe_not_refused (Err fault.ReadFault) e = cc
probe_not_refused (Err fault.WriteFault) e = cc
probe_not_refused (Err fault.DiskFault) e = cc
probe_not_refused (Err fault.Memory) e = cc

not_refused : (steady : Option ℕ) (d e : View) (held left before after : Option (List ℕ)) → ProbesStore steady d e held left before after status.Refused → ⊥
not_refused steady d e held left before after (inl probed) = probe_not_refused probed.end (sym probed.ends)
not_refused steady d e held left before after (inr unopened) = unopened.0

probe_ends : (sound : Type 0) (steady : Option ℕ) (d e : View) (held left before after : Option (List ℕ)) (r : Status) → ProbesStore steady d e held left before after r
    → (sound → IsFaultless r) → Unless (λ r. sound → IsDoneOrPeer r) r
probe_ends sound steady d e held left before after status.Memory probes ends = inr refl
probe_ends sound steady d e held left before after status.Done probes ends = inl (λ is. inl refl)
probe_ends sound steady d e held left before after (status.Peer why) probes ends = inl (λ is. inr (why, refl))
probe_ends sound steady d e held left before after status.Refused probes ends = absurd (not_refused steady d e held left before after probes)
probe_ends sound steady d e held left before after _ probes ends = inl (λ is. absurd (ends is))

show_ends : (held left before after : Option (List ℕ)) (reads reads_now writes writes_now : ℕ) (r : Status) → Shows held left before after r
    → ReadFaultHasCause reads reads_now r → WriteFaultHasCause writes writes_now r → (Rose reads reads_now → ⊥) → (Rose writes writes_now → ⊥) → Unless IsDoneOrPeer r
show_ends held left before after reads reads_now writes writes_now status.Done shown read write unread unwritten = inl (inl refl)
show_ends held left before after reads reads_now writes writes_now (status.Peer why) shown read write unread unwritten = inl (inr (why, refl))
show_ends held left before after reads reads_now writes writes_now status.ReadFault shown read write unread unwritten = absurd (unread read)
show_ends held left before after reads reads_now writes writes_now status.WriteFault shown read write unread unwritten = absurd (unwritten write)
show_ends held left before after reads reads_now writes writes_now status.Memory shown read write unread unwritten = inr refl
show_ends held left before after reads reads_now writes writes_now _ shown read write unread unwritten = absurd shown.wrote.0

-- How a replay ends that comes to its end.
replayed : (end : Result (Unit {0}) ReplayFault) (r : Status) → r ≡ playing.status_of end → IsDoneOr end → IsReplayed r ⊎ (r ≡ status.Memory)
replayed end r is (inl done) = inl (inl (is ∙ ap playing.status_of done))
replayed end r is (inr (inl none)) = inr (is ∙ ap playing.status_of none)
replayed end r is (inr (inr failed)) = inl (inr (is ∙ ap playing.status_of failed))

-- Under some premises it ends so; or memory ran out.
replay_ends : (whole : Type 0) (r : Status) → (whole → IsReplayed r ⊎ (r ≡ status.Memory)) → Unless (λ r. whole → IsReplayed r) r
replay_ends whole status.Memory ends = inr refl
replay_ends whole status.Done ends = inl (λ is. inl refl)
replay_ends whole status.DiskFault ends = inl (λ is. inr refl)
replay_ends whole r ends = inl (λ is. elim (ends is) [
  | inl well ↦ well
  | inr none ↦ absurd (let never : ⊥ = cc in never)
])

-- Each command, by what it says and by its causes.
module _ (d e : View) (b : Devices) (held : Option (List ℕ)) (reads reads_now writes writes_now net net_now lost lost_now : ℕ) (r : Status) where
  abbrev old : Faults
  old = record { input = reads; output = writes; disk = d.faults; net = net; lost = lost }

  abbrev new : Faults
  new = record { input = reads_now; output = writes_now; disk = e.faults; net = net_now; lost = lost_now }

  pub make_completes : (orders : ℕ) (before after : Option (List ℕ)) → Says (Makes orders) before after r → WriteFaultHasCause writes writes_now r → Completes (Some (command.Make orders)) d b held old new r
  make_completes orders before after said cause calm =
      said_well (Unless (λ r. r ≡ status.Done)) (Makes orders) before after writes writes_now r said cause calm.output (made_ends orders)

  pub init_completes : (identity : Identity) (before after : Option (List ℕ)) → Says (Inits identity d e) before after r → WriteFaultHasCause writes writes_now r
      → Completes (Some (command.Init identity)) d b held old new r
  init_completes identity before after said cause calm =
      said_well (Unless (λ r. d.reads [] → r ≡ status.Done)) (Inits identity d e) before after writes writes_now r said cause calm.output
      (λ text end made. inits_ends identity d e text end made calm.disk)

  pub list_completes : (before after : Option (List ℕ)) → Says (Lists d e) before after r → WriteFaultHasCause writes writes_now r → Completes (Some command.List) d b held old new r
  list_completes before after said cause calm =
      said_well (Unless (λ r. IsSound d → r ≡ status.Done)) (Lists d e) before after writes writes_now r said cause calm.output
      (λ text end listed. lists_ends d e text end listed calm.disk)

  pub call_completes : (asked : words.Call) (steady : Option ℕ) (before after : Option (List ℕ)) → Says (CallsAt asked steady d e) before after r → WriteFaultHasCause writes writes_now r
      → Completes (Some (command.Call asked)) d b held old new r
  call_completes asked steady before after said cause calm =
      said_well (Unless (λ r. IsSound d → IsAnswer r)) (CallsAt asked steady d e) before after writes writes_now r said cause calm.output
      (λ text end called. calls_ends asked called.now d e text end called.calls calm.disk)

  pub checkpoint_completes : (before after : Option (List ℕ)) → Says (Checkpoints d e) before after r → WriteFaultHasCause writes writes_now r
      → Completes (Some command.Checkpoint) d b held old new r
  checkpoint_completes before after said cause calm =
      said_well (Unless (λ r. IsSound d → IsAnswer r)) (Checkpoints d e) before after writes writes_now r said cause calm.output
      (λ text end made. checkpoints_ends d e text end made calm.disk)

  pub peek_completes : (place : Place) (count : ℕ) (steady : Option ℕ) (before after : Option (List ℕ)) → Says (Peeks place count steady d e) before after r
      → WriteFaultHasCause writes writes_now r → Completes (Some (command.Peek place count)) d b held old new r
  peek_completes place count steady before after said cause calm =
      said_well (Unless (λ r. IsSound d → IsAnswer r)) (Peeks place count steady d e) before after writes writes_now r said cause calm.output
      (λ text end peeks. peeks_ends place count steady d e text end peeks calm.disk)

  pub help_completes : (text : List ℕ) (before after : Option (List ℕ)) → Tells text status.Done before after r → WriteFaultHasCause writes writes_now r → Completes (Some command.Help) d b held old new r
  help_completes text before after told cause calm = told_well (Unless (λ r. r ≡ status.Done)) text status.Done before after writes writes_now r told cause calm.output (inl refl)

  pub version_completes : (text : List ℕ) (before after : Option (List ℕ)) → Tells text status.Done before after r → WriteFaultHasCause writes writes_now r
      → Completes (Some command.Version) d b held old new r
  version_completes text before after told cause calm = told_well (Unless (λ r. r ≡ status.Done)) text status.Done before after writes writes_now r told cause calm.output (inl refl)

  pub usage_completes : (text : List ℕ) (before after : Option (List ℕ)) → Tells text status.Usage before after r → WriteFaultHasCause writes writes_now r → Completes None d b held old new r
  usage_completes text before after told cause calm = told_well (Unless (λ r. r ≡ status.Usage)) text status.Usage before after writes writes_now r told cause calm.output (inl refl)

  pub show_completes : (left : Option (List ℕ)) (before after : Option (List ℕ)) → Shows held left before after r → ReadFaultHasCause reads reads_now r → WriteFaultHasCause writes writes_now r
      → Completes (Some command.Show) d b held old new r
  show_completes left before after shown read write calm = show_ends held left before after reads reads_now writes writes_now r shown read write calm.input calm.output

  pub probe_completes : (steady : Option ℕ) (left : Option (List ℕ)) (before after : Option (List ℕ)) → ProbesStore steady d e held left before after r
      → CompletesProbe d e reads reads_now writes writes_now r → Completes (Some command.Probe) d b held old new r
  probe_completes steady left before after probes ends calm =
      probe_ends (IsSound d) steady d e held left before after r probes (λ sound. ends sound calm.disk calm.input calm.output)

  pub shell_completes : (steady : Option ℕ) (left before after : Option (List ℕ)) (asked asked_now : ℕ) (nets : served.Nets)
      → ShellsStore steady d e held left before after asked asked_now nets r → IsShellEnd r → ReadFaultHasCause reads reads_now r → WriteFaultHasCause writes writes_now r
      → DiskFaultHasCause d.faults e.faults r → Completes (Some command.Shell) d b held old new r
  shell_completes steady left before after asked asked_now nets shells ends read write disk calm =
      shell_ends steady d e held left before after asked asked_now nets reads reads_now writes writes_now r shells ends read write disk calm.input calm.output calm.disk

  pub serve_completes : (count : ℕ) → served.Completes d e net net_now writes writes_now r → Completes (Some (command.Serve count)) d b held old new r
  serve_completes count ends calm = serve_ends (IsSound d) r (λ sound. ends sound calm.disk calm.net calm.output)

  pub attend_completes : (seconds : ℕ) → served.Completes d e net net_now writes writes_now r → Completes (Some (command.Attend seconds)) d b held old new r
  attend_completes seconds ends calm = serve_ends (IsSound d) r (λ sound. ends sound calm.disk calm.net calm.output)

  pub push_completes : (host : List ℕ) (address : Option (List ℕ)) (finished finished_now : Option (List Ended)) (idle idle_now : ℕ)
      → CompletesReach d e (record { finished = finished; finished_now = finished_now; faults = net; faults_now = net_now; lost = lost; lost_now = lost_now; idle = idle; idle_now = idle_now }) writes writes_now r
      → Completes (Some (command.Push host address)) d b held old new r
  push_completes host address finished finished_now idle idle_now ends calm = reach_ends (IsSound d) r (λ sound. ends sound calm.disk calm.net calm.lost calm.output)

  pub fetch_completes : (host : List ℕ) (address : Option (List ℕ)) (seconds : ℕ) (finished finished_now : Option (List Ended)) (idle idle_now : ℕ)
      → CompletesReach d e (record { finished = finished; finished_now = finished_now; faults = net; faults_now = net_now; lost = lost; lost_now = lost_now; idle = idle; idle_now = idle_now }) writes writes_now r
      → Completes (Some (command.Fetch host address seconds)) d b held old new r
  fetch_completes host address seconds finished finished_now idle idle_now ends calm = reach_ends (IsSound d) r (λ sound. ends sound calm.disk calm.net calm.lost calm.output)

  pub replay_completes : (end : Result (Unit {0}) ReplayFault) → r ≡ playing.status_of end → replay.Completes held b reads reads_now writes writes_now end
      → Completes (Some command.Replay) d b held old new r
  replay_completes end is completes calm = elim (replay_ends ((lines : List (ℕ × Event)) × HoldsScript held lines × FitMedium lines × AreEmpty b) r
      (λ whole. replayed end r is (completes whole.0 whole.1 whole.2 whole.3 calm.input calm.output))) [
        | inl well ↦ inl (λ lines holds fit empty. well (lines, holds, fit, empty))
        | inr none ↦ inr none
      ]

  pub trial_completes : (orders : ℕ) (end : Result (Unit {0}) ReplayFault) → r ≡ playing.status_of end → CompletesTrial orders b writes writes_now end
      → Completes (Some (command.Trial orders)) d b held old new r
  trial_completes orders end is completes calm = elim (replay_ends ((lines : List (ℕ × Event)) × (script_of (generated orders) ≡ Ok lines) × FitMedium lines × AreEmpty b) r
      (λ whole. replayed end r is (completes whole.0 whole.1 whole.2 whole.3 calm.output))) [
        | inl well ↦ inl (λ lines script fit empty. well (lines, script, fit, empty))
        | inr none ↦ inr none
      ]

-- The words are those of a command.
pub of_command : (asked is : Command) (d : View) (b : Devices) (held : Option (List ℕ)) (old new : Faults) (r : Status) → asked ≡ is → Completes (Some is) d b held old new r
    → Completes (Some asked) d b held old new r
of_command asked is d b held old new r same ends = subst (λ (a : Command). Completes (Some a) d b held old new r) (sym same) ends

pub no_memory : (words : Option Command) (d : View) (b : Devices) (held : Option (List ℕ)) (old new : Faults) → Completes words d b held old new status.Memory
no_memory words d b held old new calm = inr refl
