-- An event of one manager, as the world of both sees it.
use Rattle.std.proofs.Common.{◌≡◌, ◌&&◌, ℕ, Bool, true, false, cond, List, [], Option, None, refl, sym, ap, subst, ◌∙◌}
use Rattle.std.specs.Prelude.{is_some}
use Rattle.mqb_outside.specs.Disk.{Switch, View}
use Rattle.mqb_outside.specs.declared.power.Mode.{Mode}
use Rattle.mqb_moves.specs.lemmas.Stored.{stored_held}
use Rattle.mqb_moves.specs.Seats.{IsHeldOn, SeatState, records_of}
use Rattle.mqb_network.specs.Network.{Note}
use Rattle.mqb_script.specs.Managers.{index_of, other, which_at}
use Rattle.mqb_script.specs.declared.events.Event.{Event}
use Rattle.mqb_script.specs.declared.events.Event.TheVariants as event
use Rattle.mqb_script.specs.declared.managers.Which.{Which}
use Rattle.mqb_script.specs.declared.managers.Which.TheVariants.{Alpha, Beta}
use Rattle.mqb_traffic.specs.Networks.{notes_of}
use Rattle.mqb_traffic.specs.States.{TrafficState}
use Rattle.mqb_transcript.specs.declared.replies.Reply.{Reply}
use Rattle.mqb_turns.specs.Sides.{side}
use Rattle.mqb_runs.specs.lemmas.Asked.{none_some}
use Rattle.mqb_world.specs.Acting.{Happens, IsActed, IsOf}
use Rattle.mqb_world.specs.Disks.{Arms, FaultsGo, LeavesIt, Restarts, StaysAsLeft, SwitchGoes, Switching, calls_disk_of, failures_alone, failures_of, failures_told, is_same, rewrites, switching}
use Rattle.mqb_runs.specs.Requests.{actor, request_of}
use Rattle.mqb_world.specs.Worlds.{WorldState}
use Rattle.mqb_world.proofs.Actions.{leaves_records, none_far}

not_other : (which : Which) → is_same (other which) (which_at (index_of which)) ≡ false
not_other Alpha = refl
not_other Beta = refl

not_own : (which : Which) (m : ℕ) → m ≡ index_of which → is_same (other which) (which_at m) ≡ false
not_own which m is = ap (λ (m : ℕ). is_same (other which) (which_at m)) is ∙ not_other which

called_by_none : (b same : Bool) → same ≡ false → (b && same) ≡ false
called_by_none true same is = is
called_by_none false same is = refl

-- The other manager's disk is not called.
other_rests : (which : Which) (asked : Event) → IsOf which asked → calls_disk_of (other which) asked ≡ false
other_rests which (event.Pump m now) is = not_own which m is
other_rests which (event.Restart m pick) is = not_own which m is
other_rests which (event.Checkpoint m) is = not_own which m is
other_rests which (event.Resend m) is = refl
other_rests which (event.Arm m call mode) is = refl
other_rests which (event.Disconnect m) is = refl
other_rests which (event.Drop k) is = refl
other_rests which asked is = called_by_none (is_some (request_of asked)) (is_same (other which) (which_at (actor asked))) (not_own which (actor asked) is.1)

-- what is told of disks is told of one
told_alone : (notes : List Note) (who which : Which) (asked : Event) (given : Reply) → IsOf which asked → failures_told notes who asked given ≡ failures_alone who asked given
told_alone notes who which (event.Deliver k now) given is = absurd (none_some is.0)
told_alone notes who which (event.Flow m now) given is = absurd (none_some is.0)
told_alone notes who which asked given is = refl

told_of_other : (notes : List Note) (which : Which) (asked : Event) (given : Reply) → IsOf which asked → failures_told notes (other which) asked given ≡ []
told_of_other notes which asked given is = told_alone notes (other which) which asked given is ∙ ap (λ (b : Bool). cond b (failures_of given) []) (other_rests which asked is)

-- The other manager's switch is left alone.
switch_rests : (which : Which) (asked : Event) → IsOf which asked → switching (other which) asked ≡ LeavesIt
switch_rests which (event.Arm m call mode) is = ap (λ (b : Bool). cond b (Arms call mode) LeavesIt) (not_own which m is)
switch_rests which (event.Restart m pick) is = ap (λ (b : Bool). cond b (Restarts pick) LeavesIt) (not_own which m is)
switch_rests which asked is = refl

pub switch_stays : (which : Which) (asked : Event) → IsOf which asked → (armed : Option (ℕ × Mode)) (s : Switch) → SwitchGoes (switching (other which) asked) armed s s
switch_stays which asked is armed s = subst (λ (x : Switching). SwitchGoes x armed s s) (sym (switch_rests which asked is)) refl

pub left_stays : (which : Which) (asked : Event) → IsOf which asked → (d : View) → StaysAsLeft (switching (other which) asked) d
left_stays which asked is d = subst (λ (x : Switching). StaysAsLeft x d) (sym (switch_rests which asked is)) tt

-- and its state is not written anew
far_rests : (which : Which) (asked : Event) → IsOf which asked → rewrites (other which) asked ≡ false
far_rests which (event.Checkpoint m) is = not_own which m is
far_rests which asked is = refl

module _ (a b c d : SeatState) (t u : TrafficState) (asked : Event) (strings strings_now : List (List ℕ)) (given : Reply) where
  abbrev before : WorldState
  before = record { alpha = a; beta = b; traffic = t }

  abbrev after : WorldState
  after = record { alpha = c; beta = d; traffic = u }

  -- Alpha acts.
  pub alpha_happens : IsOf Alpha asked → (first first_now second : View) (first_stopped second_stopped : Bool) → IsHeldOn second b
      → IsActed Alpha (side a b t) (side c d u) first first_now first_stopped asked strings strings_now given
      → Happens before after None asked strings strings_now first first_now second second first_stopped second_stopped given
  alpha_happens is first first_now second first_stopped second_stopped held x = record {
    step = x.step;
    alpha = x.held;
    beta = stored_held second b d x.beside held;
    alpha_faults = subst (FaultsGo asked first_stopped first.faults first_now.faults) (sym (told_alone (notes_of u) Alpha Alpha asked given is)) x.faults;
    beta_faults = subst (FaultsGo asked second_stopped second.faults second.faults) (sym (told_of_other (notes_of u) Alpha asked given is)) refl;
    alpha_records = x.records;
    beta_records = leaves_records (switching Beta asked) given (records_of b) (records_of d) (switch_rests Alpha asked is);
    alpha_far = x.far;
    beta_far = none_far (rewrites Beta asked) b given (far_rests Alpha asked is);
  }

  -- Beta acts.
  pub beta_happens : IsOf Beta asked → (first second second_now : View) (first_stopped second_stopped : Bool) → IsHeldOn first a
      → IsActed Beta (side b a t) (side d c u) second second_now second_stopped asked strings strings_now given
      → Happens before after None asked strings strings_now first first second second_now first_stopped second_stopped given
  beta_happens is first second second_now first_stopped second_stopped held x = record {
    step = x.step;
    alpha = stored_held first a c x.beside held;
    beta = x.held;
    alpha_faults = subst (FaultsGo asked first_stopped first.faults first.faults) (sym (told_of_other (notes_of u) Beta asked given is)) refl;
    beta_faults = subst (FaultsGo asked second_stopped second.faults second_now.faults) (sym (told_alone (notes_of u) Beta Beta asked given is)) x.faults;
    alpha_records = leaves_records (switching Alpha asked) given (records_of a) (records_of c) (switch_rests Beta asked is);
    beta_records = x.records;
    alpha_far = none_far (rewrites Alpha asked) a given (far_rests Beta asked is);
    beta_far = x.far;
  }
