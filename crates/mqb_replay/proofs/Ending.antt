-- How a script ends that is played whole.
use Rattle.std.proofs.Common.{◌≡◌, arith, List, [], Option, append-nil, inl, refl, sym, subst, ℕ}
use Rattle.std.specs.Prelude.{Err, Ok, Result}
use Rattle.mqb_world.specs.Seats.{IsHeldOn}
use Rattle.mqb_network.specs.Network.{Network}
use Rattle.mqb_outside.specs.Told.{Took}
use Rattle.mqb_world.specs.mqb_runs.Guarantees.{RunsKeepGuarantees}
use Rattle.mqb_world.specs.mqb_runs.Runs.{Played, course_of}
use Rattle.mqb_world.specs.mqb_runs.Texts.{end_lines, reply_lines, text_of}
use Rattle.mqb_script.specs.declared.events.Event.{Event}
use Rattle.mqb_script.specs.declared.managers.Which.TheVariants.{Alpha, Beta}
use Rattle.mqb_commands.specs.Outputs.{TookFront}
use Rattle.mqb_commands.specs.lemmas.Taking.{front_then, took_none, took_then}
use Rattle.mqb_world.specs.Standing.{Stands}
use Rattle.mqb_world.specs.Worlds.{WorldState, network_of}
use Rattle.mqb_replay.specs.Devices.{Devices}
use Rattle.mqb_replay.specs.Disks.{RoseBy}
use Rattle.mqb_replay.specs.Plays.{HasPlayed, HasRun, Wrote}
use Rattle.mqb_replay.specs.Replays.{IsCut, IsDone, IsOutOfMemory, PlaysLines, PlaysWhole}
use Rattle.mqb_replay.specs.declared.faults.ReplayFault.{ReplayFault}
use Rattle.mqb_replay.specs.declared.faults.ReplayFault.TheVariants as fault
use Rattle.mqb_replay.proofs.Counting.{switched_none}
use Rattle.mqb_replay.proofs.Fronts.{took_all}
use Rattle.mqb_replay.proofs.Playing.{played_so_far}
use Rattle.mqb_replay.proofs.Turning.{short_of}

-- Nothing was played yet.

pub none_run : (w : WorldState) (b a : Devices) → Stands w a.strings [] → IsHeldOn a.alpha w.alpha → IsHeldOn a.beta w.beta → a.alpha.faults ≡ b.alpha.faults → a.beta.faults ≡ b.beta.faults
    → a.alpha.switch ≡ b.alpha.switch → a.beta.switch ≡ b.beta.switch → HasRun [] w b a
none_run w b a stands alpha beta alpha_faults beta_faults alpha_switch beta_switch = record {
  run = [];
  is_run = record { lines = refl; moves = tt; replies = refl };
  stands = stands;
  alpha = record { faults = none_rose b.alpha.faults a.alpha.faults alpha_faults; switch = switched_none Alpha b.alpha.switch a.alpha.switch alpha_switch };
  beta = record { faults = none_rose b.beta.faults a.beta.faults beta_faults; switch = switched_none Beta b.beta.switch a.beta.switch beta_switch };
  alpha_held = alpha;
  beta_held = beta;
}
  where
    none_rose : (n m : ℕ) → m ≡ n → RoseBy 0 n m
    none_rose n m same = omega arith

-- and nothing was written
pub begins : (w : WorldState) (b a : Devices) (before : Option (List ℕ)) → Stands w a.strings [] → IsHeldOn a.alpha w.alpha → IsHeldOn a.beta w.beta → a.alpha.faults ≡ b.alpha.faults
    → a.beta.faults ≡ b.beta.faults → a.alpha.switch ≡ b.alpha.switch → a.beta.switch ≡ b.beta.switch → HasPlayed [] w b a before before
unfolding none_run
begins w b a before stands alpha beta alpha_faults beta_faults alpha_switch beta_switch =
    (none_run w b a stands alpha beta alpha_faults beta_faults alpha_switch beta_switch, took_none before)

-- Memory ran out before the first line.

pub none_played : RunsKeepGuarantees → (lines : List (ℕ × Event)) (w : WorldState) (b a : Devices) (before after : Option (List ℕ)) → Stands w a.strings [] → IsHeldOn a.alpha w.alpha
    → IsHeldOn a.beta w.beta → a.alpha.faults ≡ b.alpha.faults → a.beta.faults ≡ b.beta.faults → a.alpha.switch ≡ b.alpha.switch → a.beta.switch ≡ b.beta.switch → after ≡ before
    → IsOutOfMemory lines b a before after
unfolding none_run
none_played keep lines w b a before after stands alpha beta alpha_faults beta_faults alpha_switch beta_switch same =
    let s = short_of keep lines [] lines refl w b a (none_run w b a stands alpha beta alpha_faults beta_faults alpha_switch beta_switch) in (
      s.0,
      took_all s.0.run before after (subst (λ (ps : List Played). Took before after (reply_lines ps)) (sym s.1) (subst (λ (t : Option (List ℕ)). Took before t []) (sym same) (took_none before))),
    )

-- All lines were played.

module _ (keep : RunsKeepGuarantees) (lines : List (ℕ × Event)) (w : WorldState) (b a : Devices) (before now after : Option (List ℕ)) (h : HasRun lines w b a)
    (written : Took before now (reply_lines h.run)) where
  abbrev behind : List ℕ
  behind = end_lines (course_of h.run).network

  done : Took now after behind → IsDone lines b a before after
  done took = let p = played_so_far keep lines w b a h in
      (p.0, subst (λ (ps : List Played). Took before after (text_of ps)) (sym p.1) (took_then before now after (reply_lines h.run) behind written took))

  cut_behind : TookFront now after behind → IsCut lines b a before after
  cut_behind front = let p = played_so_far keep lines w b a h in record {
    first = lines;
    rest = [];
    split = sym (append-nil lines);
    played = p.0;
    written = subst (λ (ps : List Played). TookFront before after (text_of ps)) (sym p.1) (front_then before now after (reply_lines h.run) behind written front);
  }

  short_end : after ≡ now → IsOutOfMemory lines b a before after
  short_end same = let s = short_of keep lines lines [] (sym (append-nil lines)) w b a h in (
    s.0,
    took_all s.0.run before after (subst (λ (ps : List Played). Took before after (reply_lines ps)) (sym s.1)
        (subst (λ (t : Option (List ℕ)). Took before t (reply_lines h.run)) (sym same) written)),
  )

  by_end : (r : Result (Unit {0}) ReplayFault) → Wrote now after behind r → PlaysWhole lines b a before after r
  by_end (Ok u) wrote = done wrote
  by_end (Err fault.WriteFault) wrote = cut_behind wrote
  by_end (Err fault.Memory) wrote = short_end wrote
  by_end (Err f) wrote = absurd wrote

  pub ended : (r : Result (Unit {0}) ReplayFault) → Wrote now after (end_lines (network_of w)) r → PlaysWhole lines b a before after r
  ended r wrote = by_end r (subst (λ (n : Network). Wrote now after (end_lines n) r) h.stands.stands.network wrote)

-- The loop stopped.
pub stopped : (lines : List (ℕ × Event)) (w : WorldState) (b a : Devices) (before after : Option (List ℕ)) (f : ReplayFault) → PlaysLines lines w b a before after (Err f)
    → PlaysWhole lines b a before after (Err f)
stopped lines w b a before after fault.WriteFault plays = plays
stopped lines w b a before after fault.NetFull plays = plays
stopped lines w b a before after fault.Memory plays = plays
stopped lines w b a before after f plays = absurd plays
