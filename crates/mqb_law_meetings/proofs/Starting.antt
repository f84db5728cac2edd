-- A manager that was started anew is alone, and stays so when another one is.
use Rattle.std.proofs.Common.{◌≡◌, ℕ, ◌<◌, ◌⊎◌, inl, inr, ◌==◌, Bool, true, false, List, [], ◌∷◌, Option, Some, None, refl, sym, ap, subst, ◌∙◌}
use Rattle.std.specs.Option.{option_map_or}
use Rattle.std.specs.Prelude.{All, length, map, option_map, slice_get, unwrap_or}
use Rattle.std.proofs.lemmas.List.Elements.{All-head, All-tail}
use Rattle.mqb_exactly_once.specs.Words.{In}
use Rattle.mqb_model.specs.managers.Manager.{Manager, unlinked}
use Rattle.mqb_model.specs.managers.Restarts.{restarted}
use Rattle.mqb_network.proofs.Joining.{move_in_course}
use Rattle.mqb_network.specs.Changes.{ended, ended_by, parted}
use Rattle.mqb_network.specs.Choices.{Choice, Fails, Kept, Lost, TooFar, Unread, Well}
use Rattle.mqb_network.specs.Courses.{Course}
use Rattle.mqb_network.specs.Events as event
use Rattle.mqb_network.specs.Network.{Connection, Network, connection_of, manager_at, nobody, with_manager}
use Rattle.mqb_network.specs.Restarting.{restart}
use Rattle.mqb_network.specs.Runs.{Move, course_after, moved_on, packet_of}
use Rattle.mqb_network.specs.Step.{answer_to}
use Rattle.mqb_model.specs.Lists.{with_changed}
use Rattle.mqb_law_meetings.proofs.Lists.{apart_numbers, changed_apart, changed_length, changed_there, equal_numbers, set_length}
use Rattle.mqb_law_meetings.specs.Drained.{IsAlone}
use Rattle.mqb_law_meetings.specs.Meetings.{is_good, starts}
use Rattle.mqb_law_meetings.proofs.Standing.{elsewhere, there_at}

-- Whatever each start leaves, and each parting keeps, both have behind the starts.
module _ (P : Manager → Type 0) (parts : (m : Manager) → P m → P (parted m)) (begins : (m : Manager) (kept : Bool) → P (restarted m kept)) where
  changed_keeps : (ms : List Manager) (k i : ℕ) → P (unwrap_or (slice_get ms i) nobody) → P (unwrap_or (slice_get (with_changed parted ms k) i) nobody)
  changed_keeps ms k i had = at (k == i) refl
    where
      itself : (o : Option Manager) → P (unwrap_or o nobody) → P (unwrap_or (option_map parted o) nobody)
      itself None h = h
      itself (Some m) h = parts m h

      at : (b : Bool) → (k == i) ≡ b → P (unwrap_or (slice_get (with_changed parted ms k) i) nobody)
      at true e = subst (λ x. P (unwrap_or (slice_get (with_changed parted ms x) i) nobody)) (sym (equal_numbers k i e))
          (subst (λ (o : Option Manager). P (unwrap_or o nobody)) (sym (changed_there parted ms i)) (itself (slice_get ms i) had))
      at false e = subst (λ (o : Option Manager). P (unwrap_or o nobody)) (sym (changed_apart parted ms k i (apart_numbers k i e))) had

  ended_keeps : (n : Network) (i j : ℕ) → P (manager_at n i) → P (manager_at (ended j n) i)
  ended_keeps n i j had = at (connection_of n j)
    where
      at : (o : Option Connection) → P (manager_at (option_map_or (ended_by n) o n) i)
      at None = had
      at (Some d) = changed_keeps (with_changed parted n.managers d.first) d.second i (changed_keeps n.managers d.first i had)

  ended_length : (n : Network) (i : ℕ) → length (ended i n).managers ≡ length n.managers
  ended_length n i = at (connection_of n i)
    where
      at : (o : Option Connection) → length (option_map_or (ended_by n) o n).managers ≡ length n.managers
      at None = refl
      at (Some d) = changed_length parted (with_changed parted n.managers d.first) d.second ∙ changed_length parted n.managers d.first

  module _ (c : Course) (i : ℕ) where
    -- what a start leaves of a manager
    abbrev anew : Bool → Manager
    anew kept = restarted (manager_at (ended i c.network) i) kept

    inside : i < length c.network.managers → i < length (ended i c.network).managers
    inside within = subst (λ n. i < n) (sym (ended_length c.network i)) within

    there : (kept : Bool) → i < length c.network.managers → P (manager_at (with_manager (ended i c.network) i (anew kept)) i)
    there kept within = subst P (sym (there_at (ended i c.network) i (anew kept) (inside within))) (begins (manager_at (ended i c.network) i) kept)

    restart_starts : (choice : Choice) → is_good choice ≡ true → i < length c.network.managers → P (manager_at (restart i choice c).after.network i)
    restart_starts Well good within = there false within
    restart_starts Lost good within = there false within
    restart_starts TooFar good within = there false within
    restart_starts Kept good within = there true within
    restart_starts (Fails before how) good within = absurd (let no : ⊥ = cc in no)
    restart_starts Unread good within = absurd (let no : ⊥ = cc in no)

    restart_length : (choice : Choice) → is_good choice ≡ true → length (restart i choice c).after.network.managers ≡ length c.network.managers
    restart_length Well good = set_length (ended i c.network).managers i (anew false) ∙ ended_length c.network i
    restart_length Lost good = set_length (ended i c.network).managers i (anew false) ∙ ended_length c.network i
    restart_length TooFar good = set_length (ended i c.network).managers i (anew false) ∙ ended_length c.network i
    restart_length Kept good = set_length (ended i c.network).managers i (anew true) ∙ ended_length c.network i
    restart_length (Fails before how) good = absurd (let no : ⊥ = cc in no)
    restart_length Unread good = absurd (let no : ⊥ = cc in no)

    -- another manager
    stays : (kept : Bool) (j : ℕ) → (i ≡ j → ⊥) → P (manager_at c.network j) → P (manager_at (with_manager (ended i c.network) i (anew kept)) j)
    stays kept j apart had = subst P (sym (elsewhere (ended i c.network) i j (anew kept) apart)) (ended_keeps c.network j i had)

    other_keeps : (choice : Choice) → is_good choice ≡ true → (j : ℕ) → (i ≡ j → ⊥) → P (manager_at c.network j) → P (manager_at (restart i choice c).after.network j)
    other_keeps Well good j apart had = stays false j apart had
    other_keeps Lost good j apart had = stays false j apart had
    other_keeps TooFar good j apart had = stays false j apart had
    other_keeps Kept good j apart had = stays true j apart had
    other_keeps (Fails before how) good j apart had = absurd (let no : ⊥ = cc in no)
    other_keeps Unread good j apart had = absurd (let no : ⊥ = cc in no)

    restart_keeps : (choice : Choice) → is_good choice ≡ true → (j : ℕ) → j < length c.network.managers → P (manager_at c.network j) → P (manager_at (restart i choice c).after.network j)
    restart_keeps choice good j within had = at (i == j) refl
      where
        at : (b : Bool) → (i == j) ≡ b → P (manager_at (restart i choice c).after.network j)
        at true e = subst (λ k. P (manager_at (restart i choice c).after.network k)) (equal_numbers i j e)
            (restart_starts choice good (subst (λ k. k < length c.network.managers) (sym (equal_numbers i j e)) within))
        at false e = other_keeps choice good j (apart_numbers i j e) had

  -- These are started, one after another, whatever becomes of the records in doubt.
  pub all_have : (is : List ℕ) (c : Course) (ms : List Move) → map (λ m. m.event) ms ≡ map (λ i. event.Restart i) is → All (λ m. is_good m.choice ≡ true) ms → (j : ℕ) → j < length c.network.managers
      → P (manager_at c.network j) ⊎ In j is → P (manager_at (course_after c ms).network j)
  all_have [] c [] are good j within (inl had) = had
  all_have [] c [] are good j within (inr none) = absurd none
  all_have [] c (m ∷ ms) are good j within had = absurd (let no : ⊥ = cc in no)
  all_have (i ∷ is) c [] are good j within had = absurd (let no : ⊥ = cc in no)
  all_have (i ∷ is) c (m ∷ ms) are good j within had = all_have is z ms (let rest : map (λ x. x.event) ms ≡ map (λ k. event.Restart k) is = cc in rest)
      (All-tail (λ (x : Move). is_good x.choice ≡ true) m ms good) j in_z (next had)
    where
      good_m : is_good m.choice ≡ true
      good_m = All-head (λ (x : Move). is_good x.choice ≡ true) m ms good

      event_m : m.event ≡ event.Restart i
      event_m = cc

      z : Course
      z = moved_on c m

      restarts : z ≡ (restart i m.choice c).after
      restarts = move_in_course c m ∙ ap (λ e. (answer_to e (packet_of c.sent m.event) m.choice c).after) event_m

      in_z : j < length z.network.managers
      in_z = subst (λ n. j < n) (sym (ap (λ (y : Course). length y.network.managers) restarts ∙ restart_length c i m.choice good_m)) within

      there_now : P (manager_at (restart i m.choice c).after.network j) → P (manager_at z.network j)
      there_now h = subst (λ (y : Course). P (manager_at y.network j)) (sym restarts) h

      next : P (manager_at c.network j) ⊎ In j (i ∷ is) → P (manager_at z.network j) ⊎ In j is
      next (inl had) = inl (there_now (restart_keeps c i m.choice good_m j within had))
      next (inr (inl is)) = inl (there_now (subst (λ k. P (manager_at (restart i m.choice c).after.network k)) is (restart_starts c i m.choice good_m (subst (λ k. k < length c.network.managers) (sym is) within))))
      next (inr (inr rest)) = inr rest

  -- Both are.
  pub both_have : (c : Course) (ms : List Move) (a b : ℕ) → a < length c.network.managers → b < length c.network.managers → map (λ m. m.event) ms ≡ starts a b
      → All (λ m. is_good m.choice ≡ true) ms → P (manager_at (course_after c ms).network a) × P (manager_at (course_after c ms).network b)
  both_have c ms a b in_a in_b are good = (all_have (a ∷ b ∷ []) c ms are good a in_a (inr (inl refl)), all_have (a ∷ b ∷ []) c ms are good b in_b (inr (inr (inl refl))))

-- So both are alone, and have nothing express.

pub parted_alone : (m : Manager) → m ≡ unlinked m.state → parted m ≡ unlinked (parted m).state
parted_alone m alone = ap parted alone ∙ ap (λ (x : Manager). unlinked (parted x).state) (sym alone)

pub started_alone : (m : Manager) (kept : Bool) → restarted m kept ≡ unlinked (restarted m kept).state
started_alone m true = refl
started_alone m false = refl

pub both_alone : (c : Course) (ms : List Move) (a b : ℕ) → a < length c.network.managers → b < length c.network.managers → map (λ m. m.event) ms ≡ starts a b
    → All (λ m. is_good m.choice ≡ true) ms → IsAlone (course_after c ms).network a × IsAlone (course_after c ms).network b
both_alone c ms a b in_a in_b are good = both_have (λ m. m ≡ unlinked m.state) parted_alone started_alone c ms a b in_a in_b are good
