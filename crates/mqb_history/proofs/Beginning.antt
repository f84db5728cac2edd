-- A connection that begins leaves a network orderly.
use Rattle.std.proofs.Common.{refl, ap, sym, subst, ◌∙◌}
use Rattle.std.specs.List.{AllByRecursion, list_any}
use Rattle.std.specs.Prelude.{[], ◌+◌, ◌++◌, ◌==◌, ◌||◌, ◌∷◌, ◌<◌, ◌≡◌, ◌≤◌, Bool, IfSome, List, None, Option, Some, false, is_some, length, slice_get, true, unwrap_or, ℕ}
use Rattle.mqb_base.specs.declared.ids.Identity.{Identity}
use Rattle.mqb_model.specs.calls.Link.{link, session_for}
use Rattle.mqb_model.specs.declared.answers.Role.{Role}
use Rattle.mqb_model.specs.declared.answers.Role.TheVariants as role
use Rattle.mqb_model.specs.managers.Manager.{Down, Manager, Up, doubt_of, is_down}
use Rattle.mqb_model.specs.managers.Outcomes.{succeeded}
use Rattle.mqb_network.specs.Changes.{connection_to}
use Rattle.mqb_network.specs.Connecting.{any_connected, any_down, asking, both_linked, linked_as}
use Rattle.mqb_network.specs.Laws.{AreApart}
use Rattle.mqb_network.specs.Network.{Connection, Network, is_connected, is_end, manager_at, nobody, with_manager}
use Rattle.mqb_history.specs.Orderly.{AreAllDisjoint, IsItself}
use Rattle.mqb_history.specs.Made.{IsMade}
use Rattle.mqb_history.proofs.Connections.{any_begun, disjoint_begun, numbered_begun, split_or}
use Rattle.mqb_history.proofs.Knowing.{apart_guids}
use Rattle.mqb_history.proofs.Linking.{asks_itself, asks_other, link_state, link_session}
use Rattle.mqb_history.proofs.Lists.{clash, equal_numbers, get_within, set_apart, set_length, set_there, within_get, apart_numbers, none_some}
use Rattle.mqb_history.proofs.Ordering.{IsOrderlyNetwork, with_at}

-- a connection begins between two managers of which each is linked now
begun_orderly : (known : List Identity) (n m : Network) (a b : ℕ) → IsOrderlyNetwork known n → m.connections ≡ n.connections → m.connected ≡ n.connected
    → length m.managers ≡ length n.managers → is_connected n a ≡ false → is_connected n b ≡ false
    → ((j : ℕ) → (manager_at m j).state ≡ (manager_at n j).state)
    → ((j : ℕ) → (manager_at m j).condition ≡ (manager_at n j).condition)
    → ((j : ℕ) → is_some (manager_at m j).rest.session ≡ (is_some (manager_at n j).rest.session || (a == j || b == j)))
    → is_down (manager_at n a) ≡ false → is_down (manager_at n b) ≡ false
    → IsOrderlyNetwork known (record m { connections = m.connections ++ connection_to m a b ∷ []; connected = m.connected + 1 })
begun_orderly known n m a b o connections connected count apart_a apart_b same condition session up_a up_b = record {
  linked = λ j. record {
    session = session j ∙ ap (λ x. x || (a == j || b == j)) (o.linked j).session ∙ sym (now j);
    up = λ c. ap (λ x. elim x [ Up ↦ false | Down doubt ↦ true ]) (condition j) ∙ up j (sym (now j) ∙ c);
  };
  count = count ∙ o.count;
  themselves = λ j. themselves j (slice_get known j) (o.themselves j);
  doubts = λ j. subst (λ s. IfSome (doubt_of (manager_at m j).condition) (IsMade s)) (sym (same j))
      (subst (λ x. IfSome (doubt_of x) (IsMade (manager_at n j).state)) (sym (condition j)) (o.doubts j));
  disjoint = subst₂ (λ ds k. AreAllDisjoint (ds ++ record { number = k + 1; first = a; second = b } ∷ [])) (sym connections) (sym connected)
      (disjoint_begun a b n.connected n.connections o.disjoint o.numbered apart_a apart_b);
  numbered = subst₂ (λ ds k. AllByRecursion (λ (d : Connection). d.number ≤ k + 1) (ds ++ record { number = k + 1; first = a; second = b } ∷ [])) (sym connections) (sym connected)
      (numbered_begun a b n.connected n.connections o.numbered);
}
  where
    subst₂ : {X Y : Type 0} (P : X → Y → Type 0) {x x' : X} {y y' : Y} → x ≡ x' → y ≡ y' → P x y → P x' y'
    subst₂ P {x = x} {y' = y'} e f h = subst (λ z. P z y') e (subst (P x) f h)

    now : (j : ℕ) → list_any (is_end j) (m.connections ++ connection_to m a b ∷ []) ≡ (is_connected n j || (a == j || b == j))
    now j = any_begun a b m.connected j m.connections ∙ ap (λ (ds : List Connection). list_any (is_end j) ds || (a == j || b == j)) connections

    up : (j : ℕ) → (is_connected n j || (a == j || b == j)) ≡ true → is_down (manager_at n j) ≡ false
    up j e = by (is_connected n j) refl (a == j) refl (b == j) refl e
      where
        by : (x : Bool) → is_connected n j ≡ x → (p : Bool) → (a == j) ≡ p → (q : Bool) → (b == j) ≡ q → (x || (p || q)) ≡ true → is_down (manager_at n j) ≡ false
        by true f p g q h e = (o.linked j).up f
        by false f true g q h e = subst (λ k. is_down (manager_at n k) ≡ false) (equal_numbers a j g) up_a
        by false f false g true h e = subst (λ k. is_down (manager_at n k) ≡ false) (equal_numbers b j h) up_b
        by false f false g false h e = absurd (clash (sym e))

    themselves : (j : ℕ) (own : Option Identity) → IfSome own (λ own. IsItself known own (manager_at n j).state) → IfSome own (λ own. IsItself known own (manager_at m j).state)
    themselves j None h = tt
    themselves j (Some own) h = subst (IsItself known own) (sym (same j)) h

-- A manager where another one is put.

pub there : (n : Network) (i : ℕ) (m : Manager) → is_down (manager_at n i) ≡ false → manager_at (with_manager n i m) i ≡ m
there n i m up = at (slice_get n.managers i) refl
  where
    at : (o : Option Manager) → slice_get n.managers i ≡ o → manager_at (with_manager n i m) i ≡ m
    at None e = absurd (clash (subst (λ o. is_down (unwrap_or o nobody) ≡ false) e up))
    at (Some x) e = ap (λ o. unwrap_or o nobody) (set_there n.managers i m (get_within n.managers i x e))

elsewhere : (n : Network) (i j : ℕ) (m : Manager) → (i ≡ j → ⊥) → manager_at (with_manager n i m) j ≡ manager_at n j
elsewhere n i j m apart = ap (λ o. unwrap_or o nobody) (set_apart n.managers i j m apart)

-- one manager of a network is linked
abbrev as_linked : Network → ℕ → Role → ℕ → Manager
as_linked n i end window = succeeded (manager_at n i) (link (manager_at n i) end window)

linked_same : (n : Network) (i j : ℕ) (end : Role) (window : ℕ) → (manager_at (linked_as i end window n) j).state ≡ (manager_at n j).state
linked_same n i j end window = with_at (λ x. x.state ≡ (manager_at n j).state) n i j (as_linked n i end window) refl
    (λ e. link_state (manager_at n i) end window ∙ ap (λ k. (manager_at n k).state) e)

pub linked_condition : (n : Network) (i j : ℕ) (end : Role) (window : ℕ) → (manager_at (linked_as i end window n) j).condition ≡ (manager_at n j).condition
linked_condition n i j end window = with_at (λ x. x.condition ≡ (manager_at n j).condition) n i j (as_linked n i end window) refl
    (λ e. ap (λ k. (manager_at n k).condition) e)

down_by : (m next : Manager) → next.condition ≡ m.condition → is_down next ≡ is_down m
down_by m next e = ap (λ x. elim x [ Up ↦ false | Down doubt ↦ true ]) e

or_false : (b : Bool) → (b || false) ≡ b
or_false true = refl
or_false false = refl

or_true : (b : Bool) → (b || true) ≡ true
or_true true = refl
or_true false = refl

pub linked_same_state : (n : Network) (i j : ℕ) (end : Role) (window : ℕ) → (manager_at (linked_as i end window n) j).state ≡ (manager_at n j).state
linked_same_state = linked_same

-- both are linked
pub links_orderly : (known : List Identity) (n : Network) (a b window_a window_b : ℕ) → AreApart known → any_down n a b ≡ false → any_connected n a b ≡ false
    → IsOrderlyNetwork known n → IsOrderlyNetwork known (both_linked a b window_a window_b n)
links_orderly known n a b window_a window_b apart up free o = begun_orderly known n m a b o refl refl
    (set_length _ b _ ∙ set_length n.managers a _) free_a free_b
    (λ j. linked_same first b j role.Acceptor window_b ∙ linked_same n a j end window_a)
    (λ j. linked_condition first b j role.Acceptor window_b ∙ linked_condition n a j end window_a) session up_a up_b
  where
    end : Role
    end = asking (manager_at n a).state (manager_at n b).state.identity.guid

    first : Network
    first = linked_as a end window_a n

    m : Network
    m = linked_as b role.Acceptor window_b first

    up_a : is_down (manager_at n a) ≡ false
    up_a = (split_or (is_down (manager_at n a)) (is_down (manager_at n b)) up).0

    up_b : is_down (manager_at n b) ≡ false
    up_b = (split_or (is_down (manager_at n a)) (is_down (manager_at n b)) up).1

    free_a : is_connected n a ≡ false
    free_a = (split_or (is_connected n a) (is_connected n b) free).0

    free_b : is_connected n b ≡ false
    free_b = (split_or (is_connected n a) (is_connected n b) free).1

    -- who a manager is that is up
    who : (i : ℕ) → is_down (manager_at n i) ≡ false → (own : Identity) × (slice_get known i ≡ Some own) × IsItself known own (manager_at n i).state
    who i u = by (slice_get n.managers i) refl
      where
        named : (own : Option Identity) → slice_get known i ≡ own → IfSome own (λ own. IsItself known own (manager_at n i).state) → i < length known
            → (own : Identity) × (slice_get known i ≡ Some own) × IsItself known own (manager_at n i).state
        named None e h lt = let found = within_get known i lt in absurd (let none : ⊥ = none_some (sym e ∙ found.1) in none)
        named (Some own) e h lt = (own, e, h)

        by : (x : Option Manager) → slice_get n.managers i ≡ x → (own : Identity) × (slice_get known i ≡ Some own) × IsItself known own (manager_at n i).state
        by None e = absurd (clash (subst (λ x. is_down (unwrap_or x nobody) ≡ false) e u))
        by (Some x) e = named (slice_get known i) refl (o.themselves i) (subst (λ k. i < k) o.count (get_within n.managers i x e))

    -- the first one has a session where it is another than the second
    asks : is_some (manager_at first a).rest.session ≡ is_some (session_for (manager_at n a).state end window_a)
    asks = ap (λ x. is_some x.rest.session) (there n a (as_linked n a end window_a) up_a) ∙ link_session (manager_at n a) end window_a up_a ((o.linked a).session ∙ free_a)

    asks_self : a ≡ b → is_some (session_for (manager_at n a).state end window_a) ≡ false
    asks_self e = let w = who a up_a in
        subst (λ k. is_some (session_for (manager_at n a).state (asking (manager_at n a).state (manager_at n k).state.identity.guid) window_a) ≡ false) e
        (asks_itself known w.0 (manager_at n a).state window_a w.2)

    asks_another : (a ≡ b → ⊥) → is_some (session_for (manager_at n a).state end window_a) ≡ true
    asks_another differ = let w = who a up_a in let v = who b up_b in
        asks_other known w.0 v.0 b (manager_at n a).state (manager_at n b).state.identity.guid window_a w.2 v.1
        (apart_guids known a b w.0 v.0 apart w.1 v.1 differ) (ap (λ (x : Identity). x.guid) v.2.identity)

    -- the second one has none before it is linked
    none_yet : is_some (manager_at first b).rest.session ≡ false
    none_yet = by (a == b) refl
      where
        by : (t : Bool) → (a == b) ≡ t → is_some (manager_at first b).rest.session ≡ false
        by true e = let same = equal_numbers a b e in subst (λ k. is_some (manager_at first k).rest.session ≡ false) same (asks ∙ asks_self same)
        by false e = ap (λ x. is_some x.rest.session) (elsewhere n a b (as_linked n a end window_a) (apart_numbers a b e)) ∙ (o.linked b).session ∙ free_b

    up_first : is_down (manager_at first b) ≡ false
    up_first = down_by (manager_at n b) (manager_at first b) (linked_condition n a b end window_a) ∙ up_b

    answers : is_some (manager_at m b).rest.session ≡ true
    answers = ap (λ x. is_some x.rest.session) (there first b (as_linked first b role.Acceptor window_b) up_first)
        ∙ link_session (manager_at first b) role.Acceptor window_b up_first none_yet

    session : (j : ℕ) → is_some (manager_at m j).rest.session ≡ (is_some (manager_at n j).rest.session || (a == j || b == j))
    session j = by (a == j) refl (b == j) refl
      where
        by : (p : Bool) → (a == j) ≡ p → (q : Bool) → (b == j) ≡ q → is_some (manager_at m j).rest.session ≡ (is_some (manager_at n j).rest.session || (p || q))
        by p e true f = subst (λ k. is_some (manager_at m k).rest.session ≡ true) (equal_numbers b j f) answers
            ∙ sym (ap (λ x. is_some (manager_at n j).rest.session || x) (or_true p) ∙ or_true (is_some (manager_at n j).rest.session))
        by true e false f = ap (λ x. is_some x.rest.session) (elsewhere first b j (as_linked first b role.Acceptor window_b) (apart_numbers b j f))
            ∙ subst (λ k. is_some (manager_at first k).rest.session ≡ true) (equal_numbers a j e)
            (asks ∙ asks_another (λ same. apart_numbers b j f (sym same ∙ equal_numbers a j e)))
            ∙ sym (or_true (is_some (manager_at n j).rest.session))
        by false e false f = ap (λ x. is_some x.rest.session) (elsewhere first b j (as_linked first b role.Acceptor window_b) (apart_numbers b j f)
            ∙ elsewhere n a j (as_linked n a end window_a) (apart_numbers a j e))
            ∙ sym (or_false (is_some (manager_at n j).rest.session))
