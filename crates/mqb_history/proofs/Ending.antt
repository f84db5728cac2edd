-- A connection that ends leaves each manager linked exactly where it has a connection.
use Rattle.std.proofs.Common.{refl, ap, sym, subst, ◌∙◌, inl, inr}
use Rattle.std.specs.List.{list_any}
use Rattle.std.specs.Option.{option_map_or}
use Rattle.std.specs.Prelude.{◌&&◌, ◌==◌, ◌||◌, ◌≡◌, ◌⊎◌, Bool, None, Option, Some, cond, false, is_some, not, option_map, slice_get, true, unwrap_or, ℕ}
use Rattle.mqb_model.specs.Lists.{with_changed}
use Rattle.mqb_model.specs.calls.Link.{unlink}
use Rattle.mqb_model.specs.managers.Manager.{Manager, is_down}
use Rattle.mqb_model.specs.managers.Outcomes.{succeeded}
use Rattle.mqb_network.specs.Changes.{ended, ended_by, parted}
use Rattle.mqb_network.specs.Network.{Connection, Network, connection_of, is_connected, is_end, manager_at, nobody}
use Rattle.mqb_history.specs.Made.{IsMade}
use Rattle.mqb_history.specs.Orderly.{AreAllDisjoint, IsLinkedRightly}
use Rattle.mqb_history.proofs.Connections.{any_ended, found_passes, none_found}
use Rattle.mqb_history.proofs.Lists.{changed_apart, changed_get, changed_there, clash, equal_numbers, same_number, true_not_false}
use Rattle.mqb_history.proofs.Staying.{HasSameRows, IsSameManager, same_manager, same_rows}
use Rattle.std.proofs.Common.{arith}
use Rattle.std.specs.Prelude.{IfSome}
use Rattle.mqb_model.specs.managers.Manager.{doubt_of}

-- a manager that is down is not linked
abbrev pub IsUnlinkedDown : Manager → Type 0
IsUnlinkedDown m = is_down m ≡ true → is_some m.rest.session ≡ false

-- it is linked no more
abbrev pub IsUnlinked : Manager → Type 0
IsUnlinked m = is_some m.rest.session ≡ false

pub parted_unlinked : (m : Manager) → IsUnlinkedDown m → IsUnlinked (parted m)
parted_unlinked m h = at (is_down m) refl
  where
    at : (b : Bool) → is_down m ≡ b → IsUnlinked (cond b m (succeeded m (unlink m)))
    at true e = h e
    at false e = refl

pub linked_down : (b : Bool) (m : Manager) → IsLinkedRightly b m → IsUnlinkedDown m
linked_down true m h down = absurd (true_not_false (is_down m) down (h.up refl))
linked_down false m h down = h.session

pub unlinked_rightly : (m : Manager) → IsUnlinked m → IsLinkedRightly false m
unlinked_rightly m h = record { session = h; up = λ e. absurd (clash (sym e)) }

-- a manager parts, or stays
pub parted_manager : (m : Manager) → IsSameManager m.state (parted m).state
parted_manager m = at (is_down m)
  where
    at : (b : Bool) → IsSameManager m.state (cond b m (succeeded m (unlink m))).state
    at true = same_manager m.state
    at false = record { identity = refl; peers = refl }

-- a record in doubt is one that a call made
abbrev pub HasMade : Manager → Type 0
HasMade m = IfSome (doubt_of m.condition) (IsMade m.state)

pub parted_doubt : (m : Manager) → HasMade m → HasMade (parted m)
parted_doubt m h = at (is_down m)
  where
    at : (b : Bool) → HasMade (cond b m (succeeded m (unlink m)))
    at true = h
    at false = h

pub parted_rows : (m : Manager) → HasSameRows m.state (parted m).state
parted_rows m = at (is_down m)
  where
    at : (b : Bool) → HasSameRows m.state (cond b m (succeeded m (unlink m))).state
    at true = same_rows m.state
    at false = record { manager = record { identity = refl; peers = refl }; outs = refl; ins = refl; next_ordinal = refl; numbers = omega arith }

pub parted_condition : (m : Manager) → (parted m).condition ≡ m.condition
parted_condition m = at (is_down m)
  where
    at : (b : Bool) → (cond b m (succeeded m (unlink m))).condition ≡ m.condition
    at true = refl
    at false = refl

-- the manager at an index, where some parted
pub parted_at : (Q : Manager → Type 0) (n : Network) (i j : ℕ) → ((m : Manager) → Q m → Q (parted m)) → Q (manager_at n j) → Q (manager_at (ended i n) j)
parted_at Q n i j keeps h = at (connection_of n i)
  where
    R : Option Manager → Type 0
    R o = Q (unwrap_or o nobody)

    both : (c : Connection) → R (slice_get (with_changed parted (with_changed parted n.managers c.first) c.second) j)
    both c = let first : R (slice_get (with_changed parted n.managers c.first) j) =
        changed_get R parted n.managers c.first j h (λ e x there. keeps x (subst R there h)) in
        changed_get R parted (with_changed parted n.managers c.first) c.second j first (λ e x there. keeps x (subst R there first))

    at : (o : Option Connection) → Q (manager_at (option_map_or (ended_by n) o n) j)
    at None = h
    at (Some c) = both c

-- both ends are unlinked
end_unlinked : (n : Network) (c : Connection) (j : ℕ) → is_end j c ≡ true → IsUnlinkedDown (manager_at n j) → IsUnlinked (manager_at (ended_by n c) j)
end_unlinked n c j end down = at (c.first == j) refl (c.second == j) refl end
  where
    R : Option Manager → Type 0
    R o = IsUnlinked (unwrap_or o nobody)

    down_parted : (m : Manager) → IsUnlinkedDown m → IsUnlinkedDown (parted m)
    down_parted m h e = parted_unlinked m h

    once : (o : Option Manager) → IsUnlinkedDown (unwrap_or o nobody) → R (option_map parted o)
    once None h = refl
    once (Some m) h = parted_unlinked m h

    first : c.first ≡ j → R (slice_get (with_changed parted n.managers c.first) j)
    first e = subst (λ i. R (slice_get (with_changed parted n.managers i) j)) (sym e) (subst R (sym (changed_there parted n.managers j)) (once (slice_get n.managers j) down))

    first_down : IsUnlinkedDown (unwrap_or (slice_get (with_changed parted n.managers c.first) j) nobody)
    first_down = changed_get (λ o. IsUnlinkedDown (unwrap_or o nobody)) parted n.managers c.first j down
        (λ e x there. down_parted x (subst (λ o. IsUnlinkedDown (unwrap_or o nobody)) there down))

    at : (p : Bool) → (c.first == j) ≡ p → (q : Bool) → (c.second == j) ≡ q → (p || q) ≡ true
        → R (slice_get (with_changed parted (with_changed parted n.managers c.first) c.second) j)
    at p e true f h = subst (λ i. R (slice_get (with_changed parted (with_changed parted n.managers c.first) i) j)) (sym (equal_numbers c.second j f))
        (subst R (sym (changed_there parted (with_changed parted n.managers c.first) j)) (once (slice_get (with_changed parted n.managers c.first) j) first_down))
    at true e false f h = subst R (sym (changed_apart parted (with_changed parted n.managers c.first) c.second j
        (λ same. true_not_false (c.second == j) (subst (λ i. (i == j) ≡ true) (sym same) (same_number j)) f))) (first (equal_numbers c.first j e))
    at false e false f h = absurd (clash (sym h))

-- the others stay
others_stay : (n : Network) (c : Connection) (j : ℕ) → is_end j c ≡ false → manager_at (ended_by n c) j ≡ manager_at n j
others_stay n c j end = at (c.first == j) refl (c.second == j) refl end
  where
    differs : (i : ℕ) → (i == j) ≡ false → i ≡ j → ⊥
    differs i f same = true_not_false (i == j) (subst (λ k. (k == j) ≡ true) (sym same) (same_number j)) f

    at : (p : Bool) → (c.first == j) ≡ p → (q : Bool) → (c.second == j) ≡ q → (p || q) ≡ false → manager_at (ended_by n c) j ≡ manager_at n j
    at true e q f h = absurd (clash h)
    at false e true f h = absurd (clash h)
    at false e false f h = ap (λ o. unwrap_or o nobody) (changed_apart parted (with_changed parted n.managers c.first) c.second j (differs c.second f)
        ∙ changed_apart parted n.managers c.first j (differs c.first e))

-- A manager is linked rightly, or it is the one whose connection is to end, and is down and unlinked.
abbrev pub IsToEnd : Network → ℕ → ℕ → Type 0
IsToEnd n i j = IsLinkedRightly (is_connected n j) (manager_at n j) ⊎ ((i ≡ j) × IsUnlinked (manager_at n j))

to_end_down : (n : Network) (i j : ℕ) → IsToEnd n i j → IsUnlinkedDown (manager_at n j)
to_end_down n i j (inl h) = linked_down (is_connected n j) (manager_at n j) h
to_end_down n i j (inr h) = λ down. h.1

pub ended_linked : (n : Network) (i : ℕ) → AreAllDisjoint n.connections → ((j : ℕ) → IsToEnd n i j)
    → (j : ℕ) → IsLinkedRightly (is_connected (ended i n) j) (manager_at (ended i n) j)
ended_linked n i disjoint all j = at (connection_of n i) refl
  where
    alone : connection_of n i ≡ None → IsToEnd n i j → IsLinkedRightly (is_connected n j) (manager_at n j)
    alone e (inl h) = h
    alone e (inr h) = subst (λ b. IsLinkedRightly b (manager_at n j)) (sym (ap (is_connected n) (sym h.0) ∙ none_found (is_end i) n.connections e)) (unlinked_rightly (manager_at n j) h.1)

    kept : (c : Connection) → connection_of n i ≡ Some c → is_end j c ≡ false → IsToEnd n i j → IsLinkedRightly (is_connected n j) (manager_at n j)
    kept c e end (inl h) = h
    kept c e end (inr h) = absurd (true_not_false (is_end i c) (found_passes (is_end i) n.connections c e) (subst (λ k. is_end k c ≡ false) (sym h.0) end))

    and_false : (b : Bool) → (b && false) ≡ false
    and_false true = refl
    and_false false = refl

    and_true : (b : Bool) → (b && true) ≡ b
    and_true true = refl
    and_true false = refl

    with_test : (c : Connection) → connection_of n i ≡ Some c → (b : Bool) → is_end j c ≡ b → IsLinkedRightly (list_any (is_end j) n.connections && not b) (manager_at (ended_by n c) j)
    with_test c e true end = subst (λ b. IsLinkedRightly b (manager_at (ended_by n c) j)) (sym (and_false (list_any (is_end j) n.connections)))
        (unlinked_rightly (manager_at (ended_by n c) j) (end_unlinked n c j end (to_end_down n i j (all j))))
    with_test c e false end = subst (λ b. IsLinkedRightly b (manager_at (ended_by n c) j)) (sym (and_true (list_any (is_end j) n.connections)))
        (subst (IsLinkedRightly (is_connected n j)) (sym (others_stay n c j end)) (kept c e end (all j)))

    at : (o : Option Connection) → connection_of n i ≡ o → IsLinkedRightly (is_connected (option_map_or (ended_by n) o n) j) (manager_at (option_map_or (ended_by n) o n) j)
    at None e = alone e (all j)
    at (Some c) e = subst (λ b. IsLinkedRightly b (manager_at (ended_by n c) j)) (sym (any_ended i j c n.connections disjoint e)) (with_test c e (is_end j c) refl)
