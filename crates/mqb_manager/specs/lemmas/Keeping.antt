-- What calls leave of a manager's disk, and how one call goes on from another.
use Rattle.std.proofs.Common.{ap, inl, inr, refl, subst, sym, ◌∙◌}
use Rattle.std.specs.Prelude.{[], ◌∷◌, ◌≡◌, Bool, List, None, Option, Result, Some, cond, false}
use Rattle.std.specs.Prelude.{map, true, ℕ}
use Rattle.mqb_outside.specs.Disk.{View}
use Rattle.mqb_journal.specs.States.{JournalState}
use Rattle.mqb_journal.specs.declared.faults.CheckpointFault.{CheckpointFault}
use Rattle.mqb_plain.specs.Lists.{unmarked, unsent}
use Rattle.mqb_plain.specs.Plain.{PlainLists}
use Rattle.mqb_plain.specs.declared.outgoing.Outgoing.{Outgoing}
use Rattle.mqb_model.specs.calls.Link.{link, link_refusal, linking, resend, unlink}
use Rattle.mqb_model.specs.declared.answers.Role.{Role}
use Rattle.mqb_model.specs.declared.faults.LinkFault.{LinkFault}
use Rattle.mqb_model.specs.managers.Beside.{all_unmarked}
use Rattle.mqb_model.specs.managers.Manager.{Down, Manager, Up}
use Rattle.mqb_model.specs.managers.Outcomes.{Outcome, state_after, unless}
use Rattle.mqb_model.specs.records.Reading.{record_of}
use Rattle.mqb_model.specs.records.Record.{Record}
use Rattle.mqb_model.specs.declared.limits.TheConstants.{FIRST_EXPRESS}
use Rattle.mqb_model.specs.state.Durable.{durable, durable_places, durable_plain}
use Rattle.mqb_model.specs.state.State.{State}
use Rattle.mqb_store.specs.mqb_store_laws.lemmas.Carrying.{on_beside}
use Rattle.mqb_store.specs.mqb_store_laws.Images.{IsOn}
use Rattle.mqb_manager.specs.Calls.{Ends, IsCall, Succeeds}
use Rattle.mqb_manager.specs.Checkpoints.{EndsCheckpoint, IsCheckpoint}
use Rattle.mqb_manager.specs.States.{IsUp, ManagerState, condition_of, manager_of}
use Rattle.mqb_manager.specs.Keeping.{KeepsDisk}

-- no call at all
pub nothing_keeps : (d : View) (m : ManagerState) → KeepsDisk d d m m
nothing_keeps d m = record {
  up = λ up. up;
  on = λ on up. on up;
  settled = λ on settled up. settled;
  doubt = λ up on settled down. absurd (down up);
  switch = refl;
}

-- calls, and then further ones
pub keeping_goes_on : (d e f : View) (m n o : ManagerState) → KeepsDisk d e m n → IsUp n
    → KeepsDisk e f n o → KeepsDisk d f m o
keeping_goes_on d e f m n o first up second = record {
  up = λ now. first.up up;
  on = λ on now. second.on (λ _. first.on on up) now;
  settled =
      λ on settled now. second.settled (λ _. first.on on up) (first.settled on settled up) now;
  doubt = λ was on settled down.
      second.doubt up (first.on (λ _. on) up) (first.settled (λ _. on) settled up) down;
  switch = second.switch ∙ first.switch;
}

-- A call with a disk.

up_of : (b : Bool) (r : Option Record) → cond b (Down r) Up ≡ Up → b ≡ false
up_of true r same = absurd (let none : ⊥ = cc in none)
up_of false r same = refl

never_up : (b : Bool) (r s : Option Record) → b ≡ false → cond b (Down r) Up ≡ Down s → ⊥
never_up true r s up same = let none : ⊥ = cc in none
never_up false r s up same = let none : ⊥ = cc in none

up_if : (m n : ManagerState) → condition_of n.store ≡ condition_of m.store → IsUp n → IsUp m
up_if m n same up = up_of m.store.journal.down (record_of m.store.entry)
    (sym same ∙ ap (λ (b : Bool). cond b (Down (record_of n.store.entry)) Up) up)

up_before : {V E : Type 0} (memory broken : E) (m n : ManagerState) (o : Outcome (Result V E))
    (r : Result V E) → Ends memory broken m n o r → IsUp n → IsUp m
up_before memory broken m n o r (inl h) up =
    up_if m n (ap (λ (k : Manager). k.condition) h.1.manager) up
up_before memory broken m n o r (inr (inl h)) up =
    up_if m n (ap (λ (k : Manager). k.condition) h.1.manager) up
up_before memory broken m n o r (inr (inr h)) up =
    absurd (never_up n.store.journal.down (record_of n.store.entry) o.entry up
    (ap (λ (k : Manager). k.condition) h.1.manager))

-- each call with a disk
pub calls_keep_disks : {V E : Type 0} (memory broken : E) (d e : View) (m n : ManagerState)
    (o : Outcome (Result V E)) (r : Result V E)
    → IsCall memory broken d e m n o r → KeepsDisk d e m n
calls_keep_disks memory broken d e m n o r call = record {
  up = up_before memory broken m n o r call.ends;
  on = λ on up. call.on (on (up_before memory broken m n o r call.ends up)) up;
  settled =
      λ on settled up. call.settled (on (up_before memory broken m n o r call.ends up)) settled up;
  doubt = λ up on settled down. call.doubt on settled down;
  switch = call.switch;
}

based_before : (m n : ManagerState) (r : Result (Unit {0}) CheckpointFault) → EndsCheckpoint m n r
    → IsUp n → IsUp m
based_before m n r (inl h) up = up_if m n (ap (λ (k : Manager). k.condition) h.1.manager) up
based_before m n r (inr (inl h)) up = up_if m n (ap (λ (k : Manager). k.condition) h.1.manager) up
based_before m n r (inr (inr h)) up = absurd (never_up n.store.journal.down
    (record_of n.store.entry) None up (ap (λ (k : Manager). k.condition) h.1.manager))

-- and a checkpoint
pub checkpoints_keep_disks : (d e : View) (m n : ManagerState)
    (r : Result (Unit {0}) CheckpointFault) → IsCheckpoint d e m n r → KeepsDisk d e m n
checkpoints_keep_disks d e m n r call = record {
  up = based_before m n r call.ends;
  on = λ on up. call.on (on (based_before m n r call.ends up)) up;
  settled = λ on settled up. call.settled (on (based_before m n r call.ends up)) settled up;
  doubt = λ up on settled down. call.doubt on settled down;
  switch = call.switch;
}

-- A call without one.

same_journal : (d : View) (j k : JournalState) (s : State) → k ≡ j → IsOn d j s → IsOn d k s
same_journal d j k s same on = subst (λ (i : JournalState). IsOn d i s) (sym same) on

-- where the journal stays, and what the store has of the state
pub quiet_calls_keep_disks : (d : View) (m n : ManagerState) → n.store.journal ≡ m.store.journal
    → durable n.store.state ≡ durable m.store.state → KeepsDisk d d m n
quiet_calls_keep_disks d m n journal same = record {
  up = λ up. ap (λ (j : JournalState). j.down) (sym journal) ∙ up;
  on = λ on up. same_journal d m.store.journal n.store.journal n.store.state journal
      (on_beside d m.store.journal m.store.state n.store.state same
      (on (ap (λ (j : JournalState). j.down) (sym journal) ∙ up)));
  settled = λ on settled up. settled;
  doubt = λ up on settled down. absurd (down (ap (λ (j : JournalState). j.down) journal ∙ up));
  switch = refl;
}

by_state : {A : Type 0} (d : View) (m n : ManagerState) (o : Outcome A) → Succeeds m n o
    → n.store.journal ≡ m.store.journal
    → durable (state_after (manager_of m) o) ≡ durable m.store.state → KeepsDisk d d m n
by_state d m n o left journal same =
    quiet_calls_keep_disks d m n journal (ap (λ (k : Manager). durable k.state) left.manager ∙ same)

link_stays : (m : Manager) (why : Option LinkFault) (end : Role) (window : ℕ)
    → state_after m (unless m why (linking m end window)) ≡ m.state
link_stays m None end window = refl
link_stays m (Some fault) end window = refl

pub links_keep_disks : (d : View) (m n : ManagerState) (end : Role) (window : ℕ)
    → Succeeds m n (link (manager_of m) end window)
    → n.store.journal ≡ m.store.journal → KeepsDisk d d m n
links_keep_disks d m n end window left journal =
    by_state d m n (link (manager_of m) end window) left journal
    (ap durable (link_stays (manager_of m) (link_refusal (manager_of m) end window) end window))

pub resends_keep_disks : (d : View) (m n : ManagerState) → Succeeds m n (resend (manager_of m))
    → n.store.journal ≡ m.store.journal → KeepsDisk d d m n
resends_keep_disks d m n left journal = by_state d m n (resend (manager_of m)) left journal refl

-- marks are no part of what a store has

unmarked_again : (items : List Outgoing) → unmarked (unmarked items) ≡ unmarked items
unmarked_again [] = refl
unmarked_again (o ∷ items) = ap (λ os. unsent o.message ∷ os) (unmarked_again items)

abbrev recoverable_alone : List Outgoing → PlainLists
recoverable_alone os = record { recoverable = os; express = [] }

durable_again : (ps : List PlainLists)
    → map durable_plain (map all_unmarked ps) ≡ map durable_plain ps
durable_again [] = refl
durable_again (p ∷ ps) = ap (λ os. recoverable_alone os ∷ map durable_plain (map all_unmarked ps))
    (unmarked_again p.recoverable)
    ∙ ap (λ rest. durable_plain p ∷ rest) (durable_again ps)

unlink_stays : (s : State) → durable (record s { plain = map all_unmarked s.plain }) ≡ durable s
unlink_stays s = ap
    (λ ps. record s { plain = ps; places = durable_places s.places; next_express = FIRST_EXPRESS })
    (durable_again s.plain)

pub unlinks_keep_disks : (d : View) (m n : ManagerState) → Succeeds m n (unlink (manager_of m))
    → n.store.journal ≡ m.store.journal → KeepsDisk d d m n
unlinks_keep_disks d m n left journal =
    by_state d m n (unlink (manager_of m)) left journal (unlink_stays m.store.state)
