-- Counts that go up.
use Rattle.std.proofs.Common.{◌≡◌, ◌+◌, ◌≤◌, Bool, List, [], ◌∷◌, ◌++◌, cond, inl, inr, length, max, min, ℕ, false, true, refl, sym, ap, subst, ◌∙◌, arith}
use Rattle.std.proofs.lemmas.List.Sums.{sum_by-append}
use Rattle.std.specs.Prelude.{Option, count_by, nat_le}
use Rattle.std.proofs.lemmas.Bool.Decides.{nat_tests}
use Rattle.mqb_outside.specs.Disk.{Counted, Switch}
use Rattle.mqb_outside.specs.declared.power.Mode.{Mode}
use Rattle.mqb_network.specs.Choices.{Failure}
use Rattle.mqb_outside.specs.Faults.{END}
use Rattle.mqb_script.specs.declared.events.Event.{Event}
use Rattle.mqb_script.specs.declared.managers.Which.{Which}
use Rattle.mqb_world.specs.Disks.{Arms, FaultsGo, LeavesIt, Restarts, SwitchGoes, Switching, switching}
use Rattle.mqb_replay.specs.Disks.{IsSwitchedBy, RoseBy, WentUpBy, arms, is_arming, is_restart, restarts}
use Rattle.mqb_replay.specs.Plays.{IsSwitched}

-- nothing failed yet
pub rose_none : (n : ℕ) → RoseBy 0 n n
rose_none n = omega arith

rose_again : (n b a c m : ℕ) → RoseBy n b a → a ≤ c → m ≡ n + 0 → RoseBy m b c
rose_again n b a c m rose stays is = omega arith

rose_once : (n b a c m : ℕ) → RoseBy n b a → max a (min (a + 1) END) ≤ c → m ≡ n + 1 → RoseBy m b c
rose_once n b a c m rose again is = omega arith

-- a disk failed as often as is told
pub rose_more : (n b a c : ℕ) (e : Event) (stopped : Bool) (fs : List Failure) → RoseBy n b a → FaultsGo e stopped a c fs → RoseBy (n + length fs) b c
rose_more n b a c e stopped [] rose goes = rose_again n b a c (n + 0) rose (omega arith) refl
rose_more n b a c e stopped (how ∷ []) rose goes = rose_once n b a c (n + 1) rose goes.0 refl
rose_more n b a c e stopped (how ∷ more ∷ fs) rose goes = absurd goes

-- a count does not fall
pub rose_rises : (n b a c : ℕ) → RoseBy n b a → a ≤ c → RoseBy n b c
rose_rises n b a c rose rises = omega (arith, rose, rises)

pub rose_stays : (n b a c : ℕ) → RoseBy n b a → c ≡ a → RoseBy n b c
rose_stays n b a c rose same = omega arith

-- The switch.

went_stays : (n m b a c : ℕ) → WentUpBy n b a → c ≡ a → m ≡ n + 0 → WentUpBy m b c
went_stays n m b a c (inl up) same is = inl (omega arith)
went_stays n m b a c (inr ends) same is = inr (omega arith)

went_once : (n m b a c : ℕ) → WentUpBy n b a → Counted 1 a c → m ≡ n + 1 → WentUpBy m b c
went_once n m b a c (inl up) once is = at (nat_le (a + 1) END) refl
  where
    at : (t : Bool) → nat_le (a + 1) END ≡ t → WentUpBy m b c
    at true below = inl (let sum = once.sum in let less : a + 1 ≤ END = grind (arith, nat_tests) in omega arith)
    at false over = inr (let sum = once.sum in let more : END ≤ a + 1 = grind (arith, nat_tests) in omega arith)
went_once n m b a c (inr ends) once is = inr (let sum = once.sum in omega arith)

-- one line more
count_one : (p : ℕ × Event → Bool) (lines : List (ℕ × Event)) (line : ℕ × Event) → count_by p (lines ++ line ∷ []) ≡ count_by p lines + cond (p line) 1 0
count_one p lines line = sum_by-append (λ x. cond (p x) 1 0) lines (line ∷ []) ∙ ap (λ (n : ℕ). count_by p lines + n) (last (p line))
  where
    last : (t : Bool) → 0 + cond t 1 0 ≡ cond t 1 0
    last true = refl
    last false = refl

module _ (which : Which) (lines : List (ℕ × Event)) (line : ℕ × Event) where
  arms_one : arms which (lines ++ line ∷ []) ≡ arms which lines + cond (is_arming (switching which line.1)) 1 0
  arms_one = count_one (λ l. is_arming (switching which l.1)) lines line

  restarts_one : restarts which (lines ++ line ∷ []) ≡ restarts which lines + cond (is_restart (switching which line.1)) 1 0
  restarts_one = count_one (λ l. is_restart (switching which l.1)) lines line

  -- what a line asks for was done
  switched_by : (x : Switching) → switching which line.1 ≡ x → (armed : Option (ℕ × Mode)) (s t u : Switch) → IsSwitchedBy which lines s t → SwitchGoes x armed t u
      → IsSwitchedBy which (lines ++ line ∷ []) s u
  switched_by (Arms call mode) is armed s t u before goes = record {
    arms = went_once (arms which lines) (arms which (lines ++ line ∷ [])) s.arms t.arms u.arms before.arms goes.1 (arms_one ∙ ap (λ (y : Switching). arms which lines + cond (is_arming y) 1 0) is);
    restarts = went_stays (restarts which lines) (restarts which (lines ++ line ∷ [])) s.restarts t.restarts u.restarts before.restarts goes.2
        (restarts_one ∙ ap (λ (y : Switching). restarts which lines + cond (is_restart y) 1 0) is);
  }
  switched_by (Restarts pick) is armed s t u before goes = record {
    arms = went_stays (arms which lines) (arms which (lines ++ line ∷ [])) s.arms t.arms u.arms before.arms goes.0 (arms_one ∙ ap (λ (y : Switching). arms which lines + cond (is_arming y) 1 0) is);
    restarts = went_once (restarts which lines) (restarts which (lines ++ line ∷ [])) s.restarts t.restarts u.restarts before.restarts goes.1
        (restarts_one ∙ ap (λ (y : Switching). restarts which lines + cond (is_restart y) 1 0) is);
  }
  switched_by LeavesIt is armed s t u before goes = record {
    arms = went_stays (arms which lines) (arms which (lines ++ line ∷ [])) s.arms t.arms u.arms before.arms (ap (λ (x : Switch). x.arms) goes)
        (arms_one ∙ ap (λ (y : Switching). arms which lines + cond (is_arming y) 1 0) is);
    restarts = went_stays (restarts which lines) (restarts which (lines ++ line ∷ [])) s.restarts t.restarts u.restarts before.restarts (ap (λ (x : Switch). x.restarts) goes)
        (restarts_one ∙ ap (λ (y : Switching). restarts which lines + cond (is_restart y) 1 0) is);
  }

  pub switched_more : (s t u : Switch) → IsSwitchedBy which lines s t → IsSwitched which line.1 t u → IsSwitchedBy which (lines ++ line ∷ []) s u
  switched_more s t u before goes = switched_by (switching which line.1) refl goes.0 s t u before goes.1

-- nothing was asked of it yet
pub switched_none : (which : Which) (s t : Switch) → t ≡ s → IsSwitchedBy which [] s t
switched_none which s t same = record {
  arms = inl (ap (λ (x : Switch). x.arms) same ∙ sym_zero s.arms);
  restarts = inl (ap (λ (x : Switch). x.restarts) same ∙ sym_zero s.restarts);
}
  where
    sym_zero : (n : ℕ) → n ≡ n + 0
    sym_zero n = omega arith

-- it was left alone
pub switched_stays : (which : Which) (lines : List (ℕ × Event)) (s t u : Switch) → IsSwitchedBy which lines s t → u ≡ t → IsSwitchedBy which lines s u
switched_stays which lines s t u before same = subst (IsSwitchedBy which lines s) (sym same) before
