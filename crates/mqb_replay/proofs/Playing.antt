-- What stands behind a run, and what it goes on to.
use Rattle.std.proofs.Common.{◌≡◌, Bool, List, [], ◌∷◌, ◌++◌, None, Option, cond, false, inl, inr, refl, sym, ap, subst, true, ◌∙◌, ◌+◌, Some, ℕ}
use Rattle.mqb_outside.specs.Disk.{View}
use Rattle.mqb_model.specs.managers.Manager.{Condition, Down, Manager, Up, doubt_of, is_down}
use Rattle.mqb_model.specs.records.Applying.{apply}
use Rattle.mqb_model.specs.records.Record.{Record}
use Rattle.mqb_model.specs.state.Durable.{durable}
use Rattle.mqb_world.specs.States.{manager_of}
use Rattle.mqb_model.specs.managers.Restarts.{unread}
use Rattle.mqb_world.specs.Restarting.{durable_again}
use Rattle.mqb_world.specs.Keeping.{leads_from, leads_then}
use Rattle.mqb_world.specs.Lasting.{KeepsRecords, LeadTo}
use Rattle.mqb_world.specs.Seats.{IsHeldOn, SeatState, seated}
use Rattle.mqb_network.specs.Courses.{Course}
use Rattle.mqb_network.specs.Network.{Network, Note, manager_at}
use Rattle.mqb_network.specs.Runs.{after_run, beginning, moved_on}
use Rattle.mqb_world.specs.mqb_runs.Events.{event_of}
use Rattle.mqb_world.specs.mqb_runs.Guarantees.{RunsKeepGuarantees}
use Rattle.mqb_world.specs.mqb_runs.Hosts.{hosts}
use Rattle.mqb_world.specs.mqb_runs.Runs.{Played, course_of, move_of, moves_of}
use Rattle.mqb_world.specs.mqb_runs.Texts.{reply_lines}
use Rattle.mqb_world.specs.mqb_runs.lemmas.Growing.{course_one}
use Rattle.mqb_script.specs.declared.events.Event.{Event}
use Rattle.mqb_script.specs.declared.managers.Which.{Which}
use Rattle.mqb_script.specs.declared.managers.Which.TheVariants.{Alpha, Beta}
use Rattle.mqb_store_laws.specs.lemmas.Carrying.{opens_now}
use Rattle.mqb_store_laws.specs.Images.{Opens, OpensTo}
use Rattle.mqb_traffic.specs.Networks.{notes_of}
use Rattle.mqb_transcript.specs.Texts.{printed}
use Rattle.mqb_transcript.specs.declared.replies.Reply.{Reply}
use Rattle.mqb_world.specs.Disks.{FaultsGo, failures_told}
use Rattle.mqb_world.specs.Standing.{GoesOn, Stands}
use Rattle.mqb_world.specs.Worlds.{WorldState, network_of}
use Rattle.mqb_replay.specs.Devices.{Devices}
use Rattle.mqb_replay.specs.Disks.{OpensBehind, RoseBy, StandsBehind, StandsOn, failures}
use Rattle.mqb_replay.specs.Plays.{Answers, GoesBy, HasRun, IsCountedBy, IsPlayed}
use Rattle.mqb_replay.proofs.Counting.{rose_more, switched_more}
use Rattle.mqb_replay.proofs.Growing.{failures_one, one_by, run_by, stands_more, text_one}

-- What stands on a disk that is held.

-- the manager that is held has the state of its store
seated_state : (s : SeatState) → durable (seated s).state ≡ durable s.manager.store.state
seated_state s = at s.unread
  where
    at : (b : Bool) → durable (cond b (unread (manager_of s.manager)) (manager_of s.manager)).state ≡ durable s.manager.store.state
    at true = durable_again s.manager.store.state
    at false = refl

up_no_doubt : (c : Condition) → elim c [ Up ↦ false | Down doubt ↦ true ] ≡ false → doubt_of c ≡ None
up_no_doubt Up up = refl
up_no_doubt (Down doubt) up = absurd (let none : ⊥ = cc in none)

held_opens : (d : View) (s : SeatState) → IsHeldOn d s → (c : List ℕ) → d.leaves c → Opens s.manager.store.journal s.manager.store.state (doubt_of (seated s).condition) c
held_opens d s held c left = at (is_down (seated s)) refl
  where
    at : (b : Bool) → is_down (seated s) ≡ b → Opens s.manager.store.journal s.manager.store.state (doubt_of (seated s).condition) c
    at true down = held.opens down c left
    at false up = subst (λ o. Opens s.manager.store.journal s.manager.store.state o c) (sym (up_no_doubt (seated s).condition up))
        (opens_now d s.manager.store.journal s.manager.store.state (held.on up) c (held.settled up c left))

pub held_stands : (d : View) (s : SeatState) (m : Manager) → IsHeldOn d s → seated s ≡ m → StandsOn m d
held_stands d s m held is = subst (λ (n : Manager). StandsOn n d) is (record {
  journal = s.manager.store.journal;
  state = s.manager.store.state;
  same = sym (seated_state s);
  opens = held_opens d s held;
})

-- and behind it, where records may have been added
pub held_behind : (d : View) (s t : SeatState) (m : Manager) → IsHeldOn d t → KeepsRecords s t → seated s ≡ m → StandsBehind m d
held_behind d s t m held keeps is c left = at (doubt_of (seated t).condition) (held_opens d t held c left)
  where
    leads : LeadTo keeps.added m.state t.manager.store.state
    leads = leads_from keeps.added m.state s.manager.store.state t.manager.store.state (sym (seated_state s) ∙ ap (λ (n : Manager). durable n.state) is) keeps.leads

    old : OpensTo t.manager.store.journal.guid t.manager.store.journal.count (durable t.manager.store.state) c → OpensBehind m c
    old opens = record {
      records = keeps.added;
      state = t.manager.store.state;
      leads = leads;
      guid = t.manager.store.journal.guid;
      count = t.manager.store.journal.count;
      opens = opens;
    }

    at : (o : Option Record) → Opens t.manager.store.journal t.manager.store.state o c → OpensBehind m c
    at None opens = old opens
    at (Some r) (inl opens) = old opens
    at (Some r) (inr opens) = record {
      records = keeps.added ++ r ∷ [];
      state = apply t.manager.store.state r;
      leads = leads_then keeps.added (r ∷ []) m.state t.manager.store.state (apply t.manager.store.state r) leads (t.manager.store.state, refl, refl);
      guid = t.manager.store.journal.guid;
      count = t.manager.store.journal.count + 1;
      opens = opens.0;
    }

-- What was played.

module _ (keep : RunsKeepGuarantees) (lines : List (ℕ × Event)) (w : WorldState) (b a : Devices) (h : HasRun lines w b a) where
  network_is : network_of w ≡ (course_of h.run).network
  network_is = h.stands.stands.network

  pub played_so_far : (p : IsPlayed lines b a) × (p.run ≡ h.run)
  played_so_far = (
    record {
      run = h.run;
      is_run = h.is_run;
      sent = h.stands.stands.spelled;
      fits = h.stands.stands.within.bytes;
      alpha = record { counted = h.alpha; stands = held_stands a.alpha w.alpha (manager_at (course_of h.run).network 0) h.alpha_held (ap (λ (n : Network). manager_at n 0) network_is) };
      beta = record { counted = h.beta; stands = held_stands a.beta w.beta (manager_at (course_of h.run).network 1) h.beta_held (ap (λ (n : Network). manager_at n 1) network_is) };
      guarantees = keep (moves_of h.run) h.stands.run;
    },
    refl,
  )

-- One line more.

module _ (lines : List (ℕ × Event)) (line : ℕ × Event) (w w_now : WorldState) (b m a : Devices) (given : Reply) (h : HasRun lines w b m) (answers : Answers line.1 w m w_now a given) where
  goes : GoesOn (moves_of h.run) (event_of line.1) given w_now a.strings
  goes = answers.goes (moves_of h.run) h.stands

  abbrev one : Played
  one = one_by line h.run given w_now a.strings goes

  stands : Stands w_now a.strings (moves_of (h.run ++ one ∷ []))
  stands = stands_more line h.run given w_now a.strings goes

  -- the notes of the world are those of the run
  notes : notes_of w_now.traffic ≡ (moved_on (after_run hosts (moves_of h.run)) (move_of one)).network.notes
  notes = ap (λ (n : Network). n.notes) (goes.stands.stands.network ∙ ap (λ (c : Course). c.network) (course_one (beginning hosts) (moves_of h.run) (move_of one)))

  counted : (which : Which) (d e f : View) → IsCountedBy which lines h.run d e → (s : SeatState) → GoesBy which line.1 (notes_of w_now.traffic) given e f s
      → IsCountedBy which (lines ++ line ∷ []) (h.run ++ one ∷ []) d f
  counted which d e f so_far s by = record {
    faults = subst (λ (n : ℕ). RoseBy n d.faults f.faults) (sym (failures_one which (beginning hosts) h.run one))
        (rose_more (failures which (beginning hosts) h.run) d.faults e.faults f.faults line.1 by.stopped
        (failures_told (moved_on (after_run hosts (moves_of h.run)) (move_of one)).network.notes which line.1 given) so_far.faults
        (subst (λ (ns : List Note). FaultsGo line.1 by.stopped e.faults f.faults (failures_told ns which line.1 given)) notes by.faults));
    switch = switched_more which lines line d.switch e.switch f.switch so_far.switch (by.armed, by.switch);
  }

  pub goes_on : (more : HasRun (lines ++ line ∷ []) w_now b a) × (last : Played) × (more.run ≡ h.run ++ last ∷ [])
      × (reply_lines more.run ≡ reply_lines h.run ++ printed hosts (Some line.0) given)
  goes_on = (
    record {
      run = h.run ++ one ∷ [];
      is_run = run_by line h.run given w_now a.strings goes lines h.is_run;
      stands = stands;
      alpha = counted Alpha b.alpha m.alpha a.alpha h.alpha w_now.alpha answers.alpha;
      beta = counted Beta b.beta m.beta a.beta h.beta w_now.beta answers.beta;
      alpha_held = answers.alpha.held;
      beta_held = answers.beta.held;
    },
    one,
    refl,
    text_one h.run one,
  )
