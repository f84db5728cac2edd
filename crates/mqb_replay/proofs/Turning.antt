-- What becomes of a script in one of its lines.
use Rattle.std.proofs.Common.{◌≡◌, ◌⊎◌, List, [], ◌∷◌, ◌++◌, Option, Some, append-nil, append_assoc, inl, inr, refl, sym, ap, subst, ◌∙◌, ℕ}
use Rattle.std.specs.Prelude.{Err, Ok, Result}
use Rattle.mqb_outside.specs.Disk.{Switch, View}
use Rattle.mqb_network.specs.Network.{Network, manager_at}
use Rattle.mqb_network.specs.Runs.{Move, beginning}
use Rattle.mqb_outside.specs.Told.{Took}
use Rattle.mqb_posts.specs.Posting.{HasFront, IsCutOff}
use Rattle.mqb_world.specs.mqb_runs.Events.{event_of}
use Rattle.mqb_world.specs.mqb_runs.Guarantees.{RunsKeepGuarantees}
use Rattle.mqb_world.specs.mqb_runs.Hosts.{hosts}
use Rattle.mqb_world.specs.mqb_runs.Runs.{Played, course_of, moves_of}
use Rattle.mqb_world.specs.mqb_runs.Texts.{reply_lines}
use Rattle.mqb_script.specs.declared.events.Event.{Event}
use Rattle.mqb_script.specs.declared.events.Event.TheVariants as event
use Rattle.mqb_script.specs.declared.managers.Which.{Which}
use Rattle.mqb_script.specs.declared.managers.Which.TheVariants.{Alpha, Beta}
use Rattle.mqb_commands.specs.Outputs.{TookFront}
use Rattle.mqb_commands.specs.lemmas.Taking.{front_then, took_then}
use Rattle.mqb_transcript.specs.Texts.{printed}
use Rattle.mqb_transcript.specs.declared.replies.Reply.{Reply}
use Rattle.mqb_world.specs.Disks.{LeavesIt, SwitchGoes, switching}
use Rattle.mqb_world.specs.Standing.{strings_in}
use Rattle.mqb_traffic.specs.Networks.{index_of}
use Rattle.mqb_world.specs.Keeping.{keeps_all}
use Rattle.mqb_world.specs.Lasting.{Lasts}
use Rattle.mqb_world.specs.Seats.{IsHeldOn, SeatState, seated}
use Rattle.mqb_world.specs.Worlds.{WorldState}
use Rattle.mqb_replay.specs.Disks.{StandsBehind, failures}
use Rattle.mqb_replay.specs.Devices.{Devices}
use Rattle.mqb_replay.specs.Plays.{Answers, HasPlayed, HasRun, IsCountedBy, IsFull, IsShort, IsSwitched, Overflows, RunsOut, Turned, Wrote, strings_next, strings_of}
use Rattle.mqb_replay.specs.Replays.{IsCut, IsNetFull, IsOutOfMemory, PlaysLines}
use Rattle.mqb_replay.specs.declared.faults.ReplayFault.{ReplayFault}
use Rattle.mqb_replay.specs.declared.faults.ReplayFault.TheVariants as fault
use Rattle.mqb_replay.proofs.Counting.{rose_rises, rose_stays, switched_more, switched_stays}
use Rattle.mqb_replay.proofs.Fronts.{front_before, took_all, took_but_last}
use Rattle.mqb_replay.proofs.Playing.{goes_on, held_behind, played_so_far}

-- No event that arms a disk, or starts it again, sends a packet.

not_cut : (xs ys front rest : List (List ℕ)) (next : List ℕ) → [] ≡ front ++ next ∷ rest → ⊥
not_cut xs ys [] rest next is = let none : ⊥ = cc in none
not_cut xs ys (x ∷ front) rest next is = let none : ⊥ = cc in none

left_alone : (which : Which) (ms : List Move) (e : Event) (xs ys : List (List ℕ)) → IsCutOff xs ys (strings_in ms (event_of e)) → switching which e ≡ LeavesIt
left_alone which ms (event.Arm manager call mode) xs ys cut = absurd (not_cut xs ys cut.front cut.rest cut.next cut.wanted_are)
left_alone which ms (event.Restart manager pick) xs ys cut = absurd (not_cut xs ys cut.front cut.rest cut.next cut.wanted_are)
left_alone which ms e xs ys cut = refl

switch_stays : (which : Which) (e : Event) (s t : Switch) → IsSwitched which e s t → switching which e ≡ LeavesIt → t ≡ s
switch_stays which e s t done is = subst (λ x. SwitchGoes x done.0 s t) is done.1

-- Memory ran out behind a run of the first lines.
pub short_of : (keep : RunsKeepGuarantees) (lines first rest : List (ℕ × Event)) → lines ≡ first ++ rest → (w : WorldState) (b a : Devices) (h : HasRun first w b a)
    → (s : IsShort lines b a) × (s.run ≡ h.run)
short_of keep lines first rest split w b a h = (
  record {
    first = first;
    rest = rest;
    split = split;
    run = h.run;
    is_run = h.is_run;
    sent = record {
      front = [];
      rest = strings_next h.run rest;
      wanted_are = refl;
      added = h.stands.stands.spelled ∙ sym (append-nil (strings_of h.run));
    };
    alpha = record { faults = h.alpha.faults; switch = inl h.alpha.switch; stands = stands Alpha a.alpha w.alpha h.alpha_held (ap (λ (n : Network). manager_at n 0) h.stands.stands.network) };
    beta = record { faults = h.beta.faults; switch = inl h.beta.switch; stands = stands Beta a.beta w.beta h.beta_held (ap (λ (n : Network). manager_at n 1) h.stands.stands.network) };
    guarantees = keep (moves_of h.run) h.stands.run;
  },
  refl,
)
  where
    stands : (which : Which) (d : View) (s : SeatState) → IsHeldOn d s → seated s ≡ manager_at (course_of h.run).network (index_of which)
        → StandsBehind (manager_at (course_of h.run).network (index_of which)) d
    stands which d s held is = held_behind d s s (manager_at (course_of h.run).network (index_of which)) held (keeps_all refl refl) is

-- The ends of a loop over lines.

module _ (keep : RunsKeepGuarantees) (lines first rest : List (ℕ × Event)) (line : ℕ × Event) (split : lines ≡ first ++ line ∷ rest) (w w_now : WorldState) (b m a : Devices)
    (before now after : Option (List ℕ)) (h : HasRun first w b m) (written : Took before now (reply_lines h.run)) where
  -- those before the next one, and that
  split_after : lines ≡ (first ++ line ∷ []) ++ rest
  split_after = split ∙ sym (append_assoc first (line ∷ []) rest)

  counted_stays : (which : Which) (d e f : View) → IsCountedBy which first h.run d e → f.faults ≡ e.faults → f.switch ≡ e.switch → IsCountedBy which first h.run d f
  counted_stays which d e f so_far faults switch = record {
    faults = rose_stays _ d.faults e.faults f.faults so_far.faults faults;
    switch = switched_stays which first d.switch e.switch f.switch so_far.switch switch;
  }

  alpha_behind : Lasts m.alpha a.alpha w.alpha w_now.alpha → StandsBehind (manager_at (course_of h.run).network 0) a.alpha
  alpha_behind lasts = held_behind a.alpha w.alpha w_now.alpha (manager_at (course_of h.run).network 0) lasts.held lasts.keeps (ap (λ (n : Network). manager_at n 0) h.stands.stands.network)

  beta_behind : Lasts m.beta a.beta w.beta w_now.beta → StandsBehind (manager_at (course_of h.run).network 1) a.beta
  beta_behind lasts = held_behind a.beta w.beta w_now.beta (manager_at (course_of h.run).network 1) lasts.held lasts.keeps (ap (λ (n : Network). manager_at n 1) h.stands.stands.network)

  full : Overflows line.1 w w_now m a → (f : IsFull lines b a) × (f.run ≡ h.run)
  full over = (
    record {
      first = first;
      next = line;
      rest = rest;
      split = split;
      run = h.run;
      is_run = h.is_run;
      cut = subst (λ (xs : List (List ℕ)). IsCutOff xs a.strings (strings_in (moves_of h.run) (event_of line.1))) h.stands.stands.spelled cut;
      alpha = counted_stays Alpha b.alpha m.alpha a.alpha h.alpha over.alpha_faults
          (switch_stays Alpha line.1 m.alpha.switch a.alpha.switch over.alpha (left_alone Alpha (moves_of h.run) line.1 m.strings a.strings cut));
      beta = counted_stays Beta b.beta m.beta a.beta h.beta over.beta_faults
          (switch_stays Beta line.1 m.beta.switch a.beta.switch over.beta (left_alone Beta (moves_of h.run) line.1 m.strings a.strings cut));
      alpha_stands = alpha_behind over.alpha_lasts;
      beta_stands = beta_behind over.beta_lasts;
      guarantees = keep (moves_of h.run) h.stands.run;
    },
    refl,
  )
    where
      cut : IsCutOff m.strings a.strings (strings_in (moves_of h.run) (event_of line.1))
      cut = over.cut (moves_of h.run) h.stands

  -- memory ran out in the middle of the line
  short : RunsOut line.1 w w_now m a → (s : IsShort lines b a) × (s.run ≡ h.run)
  short out = (
    record {
      first = first;
      rest = line ∷ rest;
      split = split;
      run = h.run;
      is_run = h.is_run;
      sent = subst (λ (xs : List (List ℕ)). HasFront xs a.strings (strings_in (moves_of h.run) (event_of line.1))) h.stands.stands.spelled (out.sent (moves_of h.run) h.stands);
      alpha = record {
        faults = rose_rises (failures Alpha (beginning hosts) h.run) b.alpha.faults m.alpha.faults a.alpha.faults h.alpha.faults out.alpha_lasts.faults;
        switch = inr (switched_more Alpha first line b.alpha.switch m.alpha.switch a.alpha.switch h.alpha.switch out.alpha);
        stands = alpha_behind out.alpha_lasts;
      };
      beta = record {
        faults = rose_rises (failures Beta (beginning hosts) h.run) b.beta.faults m.beta.faults a.beta.faults h.beta.faults out.beta_lasts.faults;
        switch = inr (switched_more Beta first line b.beta.switch m.beta.switch a.beta.switch h.beta.switch out.beta);
        stands = beta_behind out.beta_lasts;
      };
      guarantees = keep (moves_of h.run) h.stands.run;
    },
    refl,
  )

  -- the line was answered
  module _ (given : Reply) (answers : Answers line.1 w m w_now a given) where
    abbrev more : HasRun (first ++ line ∷ []) w_now b a
    more = (goes_on first line w w_now b m a given h answers).0

    abbrev last : Played
    last = (goes_on first line w w_now b m a given h answers).1

    more_is : more.run ≡ h.run ++ last ∷ []
    more_is = (goes_on first line w w_now b m a given h answers).2

    more_text : reply_lines more.run ≡ reply_lines h.run ++ printed hosts (Some line.0) given
    more_text = (goes_on first line w w_now b m a given h answers).3

    -- and memory ran out behind it
    pub short_behind : (s : IsShort lines b a) × (s.run ≡ more.run)
    short_behind = (short_of keep lines (first ++ line ∷ []) rest split_after w_now b a more)

    pub played_one : Took now after (printed hosts (Some line.0) given) → HasPlayed (first ++ line ∷ []) w_now b a before after
    played_one took = (more, subst (Took before after) (sym more_text) (took_then before now after (reply_lines h.run) (printed hosts (Some line.0) given) written took))

    -- or the output failed in its reply
    pub cut_in : TookFront now after (printed hosts (Some line.0) given) → IsCut lines b a before after
    cut_in front = let played = played_so_far keep (first ++ line ∷ []) w_now b a more in record {
      first = first ++ line ∷ [];
      rest = rest;
      split = split_after;
      played = played.0;
      written = front_before rest played.0.run before after
          (subst (TookFront before after) (sym (ap reply_lines played.1 ∙ more_text))
          (front_then before now after (reply_lines h.run) (printed hosts (Some line.0) given) written front));
    }

  -- What becomes of the line ends the loop.

  written_still : after ≡ now → Took before after (reply_lines h.run)
  written_still same = subst (λ (t : Option (List ℕ)). Took before t (reply_lines h.run)) (sym same) written

  memory_in : (given : Reply) (answers : Answers line.1 w m w_now a given) → after ≡ now → IsOutOfMemory lines b a before after
  memory_in given answers same = let s = short_behind given answers in
      (s.0, took_but_last s.0.run h.run (last given answers) before after (s.1 ∙ more_is given answers) (written_still same))

  memory_out : RunsOut line.1 w w_now m a → after ≡ now → IsOutOfMemory lines b a before after
  memory_out out same = let s = short out in
      (s.0, took_all s.0.run before after (subst (λ (ps : List Played). Took before after (reply_lines ps)) (sym s.1) (written_still same)))

  memory : (((given : Reply) × Answers line.1 w m w_now a given) ⊎ RunsOut line.1 w w_now m a) → after ≡ now → IsOutOfMemory lines b a before after
  memory (inl answered) same = memory_in answered.0 answered.1 same
  memory (inr out) same = memory_out out same

  net_full : Overflows line.1 w w_now m a → after ≡ now → IsNetFull lines b a before after
  net_full over same = let f = full over in (f.0, subst (λ (ps : List Played). Took before after (reply_lines ps)) (sym f.1) (written_still same))

  pub turn_stops : (f : ReplayFault) → Turned line w w_now m a now after (Err f) → PlaysLines lines w_now b a before after (Err f)
  turn_stops fault.WriteFault turned = cut_in turned.0 turned.1 turned.2
  turn_stops fault.NetFull turned = net_full turned.0 turned.1
  turn_stops fault.Memory turned = memory turned.0 turned.1
  turn_stops f turned = absurd turned

-- An event was answered, and its reply was to be written.
pub turn_answered : (line : ℕ × Event) (w w_now : WorldState) (b a : Devices) (before after : Option (List ℕ)) (given : Reply) (r : Result (Unit {0}) ReplayFault) → Answers line.1 w b w_now a given
    → Wrote before after (printed hosts (Some line.0) given) r → Turned line w w_now b a before after r
turn_answered line w w_now b a before after given (Ok done) answers wrote = (given, answers, wrote)
turn_answered line w w_now b a before after given (Err fault.WriteFault) answers wrote = (given, answers, wrote)
turn_answered line w w_now b a before after given (Err fault.Memory) answers wrote = (inl (given, answers), wrote)
turn_answered line w w_now b a before after given (Err f) answers wrote = absurd wrote
