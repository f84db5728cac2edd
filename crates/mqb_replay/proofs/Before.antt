-- A script is played over managers that were just made: what was counted before counts too.
use Rattle.std.proofs.Common.{◌≡◌, List, Option, refl, subst, ℕ, inl, inr}
use Rattle.std.specs.Prelude.{Err, Ok, Result}
use Rattle.mqb_outside.specs.Disk.{Switch, View}
use Rattle.mqb_network.specs.Runs.{beginning}
use Rattle.mqb_world.specs.mqb_runs.Hosts.{hosts}
use Rattle.mqb_world.specs.mqb_runs.Runs.{Played}
use Rattle.mqb_script.specs.declared.events.Event.{Event}
use Rattle.mqb_script.specs.declared.managers.Which.{Which}
use Rattle.mqb_script.specs.declared.managers.Which.TheVariants.{Alpha, Beta}
use Rattle.mqb_world.specs.declared.faults.WorldFault.{WorldFault}
use Rattle.mqb_world.specs.declared.faults.WorldFault.TheVariants as world
use Rattle.mqb_replay.specs.Devices.{Devices}
use Rattle.mqb_replay.specs.Disks.{IsSwitchedBy, RoseBy, failures}
use Rattle.mqb_replay.specs.Faults.{world_fault}
use Rattle.mqb_replay.specs.Plays.{IsCountedBy, IsDiskAmid, IsFull, IsPlayed, IsShort, IsSwitchedNearly}
use Rattle.mqb_replay.specs.Replays.{AreEmpty, Begins, HasBytes, HasFailed, IsUnplayed, Play, PlaysWhole}
use Rattle.mqb_replay.specs.Trials.{TriesLines}
use Rattle.mqb_replay.specs.declared.faults.ReplayFault.{ReplayFault}
use Rattle.mqb_replay.specs.declared.faults.ReplayFault.TheVariants as fault

-- what was counted since a disk is that of one with the same counts
counted_before : (which : Which) (lines : List (ℕ × Event)) (run : List Played) (b d e : View) → d.faults ≡ b.faults → d.switch ≡ b.switch → IsCountedBy which lines run d e
    → IsCountedBy which lines run b e
counted_before which lines run b d e faults switch counted = record {
  faults = subst (λ (n : ℕ). RoseBy (failures which (beginning hosts) run) n e.faults) faults counted.faults;
  switch = subst (λ (s : Switch). IsSwitchedBy which lines s e.switch) switch counted.switch;
}

amid_before : (which : Which) (first rest : List (ℕ × Event)) (run : List Played) (b d e : View) → d.faults ≡ b.faults → d.switch ≡ b.switch → IsDiskAmid which first rest run d e
    → IsDiskAmid which first rest run b e
amid_before which first rest run b d e faults switch amid = record {
  faults = subst (λ (n : ℕ). RoseBy (failures which (beginning hosts) run) n e.faults) faults amid.faults;
  switch = subst (λ (s : Switch). IsSwitchedNearly which first rest s e.switch) switch amid.switch;
  stands = amid.stands;
}

module _ (b d a : Devices) (alpha_faults : d.alpha.faults ≡ b.alpha.faults) (beta_faults : d.beta.faults ≡ b.beta.faults) (alpha_switch : d.alpha.switch ≡ b.alpha.switch)
    (beta_switch : d.beta.switch ≡ b.beta.switch) where
  alpha_before : (lines : List (ℕ × Event)) (run : List Played) → IsCountedBy Alpha lines run d.alpha a.alpha → IsCountedBy Alpha lines run b.alpha a.alpha
  alpha_before lines run counted = counted_before Alpha lines run b.alpha d.alpha a.alpha alpha_faults alpha_switch counted

  beta_before : (lines : List (ℕ × Event)) (run : List Played) → IsCountedBy Beta lines run d.beta a.beta → IsCountedBy Beta lines run b.beta a.beta
  beta_before lines run counted = counted_before Beta lines run b.beta d.beta a.beta beta_faults beta_switch counted

  abbrev played_before : (lines : List (ℕ × Event)) → IsPlayed lines d a → IsPlayed lines b a
  played_before lines p = record {
    run = p.run;
    is_run = p.is_run;
    sent = p.sent;
    fits = p.fits;
    alpha = record { counted = alpha_before lines p.run p.alpha.counted; stands = p.alpha.stands };
    beta = record { counted = beta_before lines p.run p.beta.counted; stands = p.beta.stands };
    guarantees = p.guarantees;
  }

  abbrev full_before : (lines : List (ℕ × Event)) → IsFull lines d a → IsFull lines b a
  full_before lines f = record {
    first = f.first;
    next = f.next;
    rest = f.rest;
    split = f.split;
    run = f.run;
    is_run = f.is_run;
    cut = f.cut;
    alpha = alpha_before f.first f.run f.alpha;
    beta = beta_before f.first f.run f.beta;
    alpha_stands = f.alpha_stands;
    beta_stands = f.beta_stands;
    guarantees = f.guarantees;
  }

  abbrev short_before : (lines : List (ℕ × Event)) → IsShort lines d a → IsShort lines b a
  short_before lines s = record {
    first = s.first;
    rest = s.rest;
    split = s.split;
    run = s.run;
    is_run = s.is_run;
    sent = s.sent;
    alpha = amid_before Alpha s.first s.rest s.run b.alpha d.alpha a.alpha alpha_faults alpha_switch s.alpha;
    beta = amid_before Beta s.first s.rest s.run b.beta d.beta a.beta beta_faults beta_switch s.beta;
    guarantees = s.guarantees;
  }

  pub plays_before : (lines : List (ℕ × Event)) (before after : Option (List ℕ)) (r : Result (Unit {0}) ReplayFault) → PlaysWhole lines d a before after r → PlaysWhole lines b a before after r
  plays_before lines before after (Ok done) plays = (played_before lines plays.0, plays.1)
  plays_before lines before after (Err fault.WriteFault) plays =
      record { first = plays.first; rest = plays.rest; split = plays.split; played = played_before plays.first plays.played; written = plays.written }
  plays_before lines before after (Err fault.NetFull) plays = (full_before lines plays.0, plays.1)
  plays_before lines before after (Err fault.Memory) plays = (short_before lines plays.0, plays.1)
  plays_before lines before after (Err f) plays = absurd plays

  pub tries_before : (lines : List (ℕ × Event)) (before after : Option (List ℕ)) (r : Result (Unit {0}) ReplayFault) → TriesLines lines d a before after r → TriesLines lines b a before after r
  tries_before lines before after (Ok done) tries = (played_before lines tries.0, tries.1)
  tries_before lines before after (Err fault.WriteFault) tries = (played_before lines tries.0, tries.1)
  tries_before lines before after (Err fault.NetFull) tries = (full_before lines tries.0, tries.1)
  tries_before lines before after (Err fault.Memory) tries = (short_before lines tries.0, tries.1)
  tries_before lines before after (Err f) tries = absurd tries

-- The managers were not made.

pub err_world : {A : Type 0} (f g : WorldFault) → f ≡ g → ◌≡◌ {A = Result A WorldFault} (Err f) (Err g)
err_world f g is = cc

module _ (plays : Play) (b a : Devices) (before after : Option (List ℕ)) where
  pub not_begun : IsUnplayed b a before after → (f : WorldFault) → (f ≡ world.NotEmpty → HasBytes b) → (f ≡ world.DiskFault → HasFailed b a) → (f ≡ world.Memory → AreEmpty b)
      → (f ≡ world.NetFull → ⊥) → Begins plays b a before after (Err (world_fault f))
  not_begun still world.NotEmpty bytes failed empty full = (bytes refl, still)
  not_begun still world.DiskFault bytes failed empty full = (failed refl, still)
  not_begun still world.NetFull bytes failed empty full = absurd (full refl)
  not_begun still world.Memory bytes failed empty full = (empty refl, inl still)

  -- They were made, over empty disks.
  pub begun : (plays b a before after (Err fault.NotEmpty) → ⊥) → (plays b a before after (Err fault.DiskFault) → ⊥) → AreEmpty b → (r : Result (Unit {0}) ReplayFault)
      → plays b a before after r → Begins plays b a before after r
  begun no_bytes no_fault empty (Ok done) is = (empty, is)
  begun no_bytes no_fault empty (Err fault.NotEmpty) is = absurd (no_bytes is)
  begun no_bytes no_fault empty (Err fault.DiskFault) is = absurd (no_fault is)
  begun no_bytes no_fault empty (Err fault.Memory) is = (empty, inr is)
  begun no_bytes no_fault empty (Err f) is = (empty, is)
