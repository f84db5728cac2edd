-- At which moment a set-up packet is owed.
use Rattle.std.proofs.Common.{◌≡◌, ℕ, false, Option, Some, refl, ap, subst}
use Rattle.mqb_session.specs.Hearing.{stamp_after}
use Rattle.mqb_session.specs.Phases.{owed_by, phase_after_owed}
use Rattle.mqb_session.specs.State.{State}
use Rattle.mqb_session.specs.declared.phase.Phase.{Phase}
use Rattle.mqb_session.specs.declared.phase.Phase.TheVariants as phase
use Rattle.mqb_setup.specs.declared.internal.Establish.{Establish}
use Rattle.mqb_setup.specs.declared.internal.Internal.{Internal}
use Rattle.mqb_setup.specs.declared.internal.Internal.TheVariants as part
use Rattle.mqb_setup.specs.declared.internal.Parameters.{Parameters}
use Rattle.mqb_capture.specs.Laws.{HasItsMoment}

abbrev owes : Internal → Option Internal
owes p = Some p

same_establish : (a b : Establish) → owes (part.Establish a) ≡ owes (part.Establish b) → a ≡ b
same_establish a b e = cc

kinds_apart : (a : Establish) (p : Parameters) → owes (part.Establish a) ≡ owes (part.Parameters p) → ⊥
kinds_apart a p e = cc

establish_by : (p : Phase) (s : State) (e : Establish) (now : ℕ) → owed_by p now s ≡ Some (part.Establish e) → (owed_by p e.stamp s ≡ Some (part.Establish e)) × ((x : ℕ) → stamp_after p now x ≡ stamp_after p e.stamp x)
establish_by phase.Start s e now h =
    let at : now ≡ e.stamp = ap (λ (x : Establish). x.stamp) (same_establish (record s.establish { stamp = now; refused = false }) e h) in
    (subst (λ (n : ℕ). owed_by phase.Start n s ≡ Some (part.Establish e)) at h, λ x. at)
establish_by phase.OweEstablish s e now h = (h, λ x. refl)
establish_by phase.OweRefusal s e now h = (h, λ x. refl)
establish_by phase.OweParameters s e now h = (h, λ x. refl)
establish_by phase.WaitEstablish s e now h = (h, λ x. refl)
establish_by phase.WaitParameters s e now h = (h, λ x. refl)
establish_by phase.Ready s e now h = (h, λ x. refl)
establish_by (phase.Closed why) s e now h = (h, λ x. refl)

parameters_by : (p : Phase) (s : State) (q : Parameters) (now : ℕ) → owed_by p now s ≡ Some (part.Parameters q) → (owed_by p 0 s ≡ Some (part.Parameters q)) × ((x : ℕ) → stamp_after p now x ≡ stamp_after p 0 x)
parameters_by phase.Start s q now h = absurd (kinds_apart (record s.establish { stamp = now; refused = false }) q h)
parameters_by phase.OweEstablish s q now h = (h, λ x. refl)
parameters_by phase.OweRefusal s q now h = (h, λ x. refl)
parameters_by phase.OweParameters s q now h = (h, λ x. refl)
parameters_by phase.WaitEstablish s q now h = (h, λ x. refl)
parameters_by phase.WaitParameters s q now h = (h, λ x. refl)
parameters_by phase.Ready s q now h = (h, λ x. refl)
parameters_by (phase.Closed why) s q now h = (h, λ x. refl)

-- the session with this moment in its Establish
abbrev with_stamp : State → ℕ → State
with_stamp s n = record s { phase = phase_after_owed s.phase s.role; establish = record s.establish { stamp = n } }

pub moments : (s : State) (now : ℕ) → HasItsMoment s now
moments s now = record {
  establish = λ e h. (let by = establish_by s.phase s e now h in (by.0, ap (with_stamp s) (by.1 s.establish.stamp)));
  parameters = λ p h. (let by = parameters_by s.phase s p now h in (by.0, ap (with_stamp s) (by.1 s.establish.stamp)));
}
