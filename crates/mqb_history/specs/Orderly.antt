-- What holds of every course: connections, sessions, notes and identities go together.
use Rattle.std.specs.List.{AllByRecursion}
use Rattle.std.specs.Prelude.{[], ◌==◌, ◌∷◌, ◌≡◌, ◌≤◌, Bool, IfSome, List, false, is_some, length}
use Rattle.std.specs.Prelude.{slice_get, true, ℕ}
use Rattle.mqb_base.specs.declared.ids.Identity.{Identity}
use Rattle.mqb_model.specs.managers.Manager.{Manager, doubt_of, is_down}
use Rattle.mqb_model.specs.state.State.{State}
use Rattle.mqb_network.specs.Courses.{Course}
use Rattle.mqb_network.specs.Network.{Connection, Network, is_connected, is_end, manager_at, others}
use Rattle.mqb_history.specs.Made.{IsMade}

-- a manager is this one, and its peers are all others
pub record IsItself (known : List Identity) (own : Identity) (s : State) : Type 0 where
  pub identity : s.identity ≡ own
  pub peers : s.peers ≡ others known own

-- each manager is
abbrev pub AreThemselves : List Identity → Network → Type 0
AreThemselves known n =
    (i : ℕ) → IfSome (slice_get known i) (λ own. IsItself known own (manager_at n i).state)

-- A manager has a session exactly where it is connected, and is up then.
pub record IsLinkedRightly (connected : Bool) (m : Manager) : Type 0 where
  pub session : is_some m.rest.session ≡ connected
  pub up : connected ≡ true → is_down m ≡ false

-- two connections have different numbers and share no end
pub record AreDisjoint (a b : Connection) : Type 0 where
  pub numbers : (a.number == b.number) ≡ false
  pub ends : (i : ℕ) → is_end i a ≡ true → is_end i b ≡ false

-- each connection is disjoint from those behind it
abbrev pub AreAllDisjoint : List Connection → Type 0
AreAllDisjoint [] = Unit {0}
AreAllDisjoint (c ∷ cs) = AllByRecursion (AreDisjoint c) cs × AreAllDisjoint cs

-- An orderly course, point by point.
pub record IsOrderly (known : List Identity) (c : Course) : Type 0 where
  -- there is a note for each packet
  pub noted : length c.network.notes ≡ length c.sent
  -- sessions are connections
  pub linked : (i : ℕ) → IsLinkedRightly (is_connected c.network i) (manager_at c.network i)
  -- identities of managers stay, and their peers
  pub count : length c.network.managers ≡ length known
  pub themselves : AreThemselves known c.network
  -- a record in doubt is one that a call made
  pub doubts : (i : ℕ)
      → IfSome (doubt_of (manager_at c.network i).condition) (IsMade (manager_at c.network i).state)
  -- a manager has at most one connection, and each connection a number of its own
  pub disjoint : AreAllDisjoint c.network.connections
  pub numbered : AllByRecursion (λ d. d.number ≤ c.network.connected) c.network.connections
