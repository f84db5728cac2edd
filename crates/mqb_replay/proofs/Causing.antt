-- Where a fault of the output comes from.
use Rattle.std.proofs.Common.{◌≡◌, ◌⊎◌, arith, inl, inr, refl, sym, subst, ℕ}
use Rattle.std.specs.Prelude.{Err, Ok, Result}
use Rattle.mqb_outside.specs.Faults.{Rose}
use Rattle.mqb_script.specs.declared.faults.ScriptFault.{ScriptFault}
use Rattle.mqb_script.specs.declared.faults.ScriptFault.TheVariants as script
use Rattle.mqb_world.specs.declared.faults.WorldFault.{WorldFault}
use Rattle.mqb_world.specs.declared.faults.WorldFault.TheVariants as world
use Rattle.mqb_replay.specs.Faults.{TellCause, WriteCause, script_fault, world_fault}
use Rattle.mqb_replay.specs.declared.faults.ReplayFault.{ReplayFault}
use Rattle.mqb_replay.specs.declared.faults.ReplayFault.TheVariants as fault

-- what was done before raised no count
pub cause_then : (a b c : ℕ) (r : Result (Unit {0}) ReplayFault) → b ≡ a → WriteCause b c r → WriteCause a c r
cause_then a b c r same cause = subst (λ (n : ℕ). WriteCause n c r) same cause

-- a count never falls
never_falls : (a b : ℕ) (r : Result (Unit {0}) ReplayFault) → WriteCause a b r → (b ≡ a) ⊎ Rose a b
never_falls a b (Ok done) cause = inl cause
never_falls a b (Err fault.WriteFault) cause = inr cause
never_falls a b (Err f) cause = inl cause

rose_then : (a b c : ℕ) → (b ≡ a) ⊎ Rose a b → Rose b c → Rose a c
rose_then a b c (inl same) rose = omega arith
rose_then a b c (inr first) rose = omega arith

-- the whole replay
pub write_cause : (a b c : ℕ) (end r : Result (Unit {0}) ReplayFault) → WriteCause a b end → TellCause b c end r → r ≡ Err fault.WriteFault → Rose a c
write_cause a b c end r cause tells is = by (tells is)
  where
    by : ((end ≡ Err fault.WriteFault) × (c ≡ b)) ⊎ Rose b c → Rose a c
    by (inl stays) = subst (λ (n : ℕ). Rose a n) (sym stays.1) (subst (WriteCause a b) stays.0 cause)
    by (inr rose) = rose_then a b c (never_falls a b end cause) rose
