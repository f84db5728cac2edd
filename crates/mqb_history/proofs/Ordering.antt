-- Each change keeps a course orderly.
use Rattle.std.proofs.Common.{refl, ap, sym, subst, ◌∙◌, inl, inr}
use Rattle.std.specs.List.{AllByRecursion}
use Rattle.std.specs.Option.{option_map_or}
use Rattle.std.specs.Prelude.{◌==◌, ◌≡◌, ◌≤◌, ◌⊎◌, IfSome, List, None, Option, Some, false, is_some, length, not, slice_get, unwrap_or, ℕ}
use Rattle.mqb_base.specs.declared.ids.Identity.{Identity}
use Rattle.mqb_model.specs.managers.Manager.{Manager, doubt_of, is_down}
use Rattle.mqb_model.specs.managers.Outcomes.{Outcome, failed, state_after, succeeded}
use Rattle.mqb_model.specs.state.State.{State}
use Rattle.mqb_network.specs.Changes.{ended, ended_by, failed_at, noted, succeeded_at}
use Rattle.mqb_network.specs.Choices.{Failure}
use Rattle.mqb_network.specs.Courses.{Course}
use Rattle.mqb_network.specs.Network.{Connection, Network, Note, connection_of, is_connected, manager_at, nobody, with_manager}
use Rattle.mqb_model.specs.calls.Call.{Call, outcome_of}
use Rattle.mqb_history.specs.Changes.{calling}
use Rattle.mqb_history.specs.Orderly.{AreAllDisjoint, AreThemselves, IsItself, IsLinkedRightly, IsOrderly}
use Rattle.mqb_history.specs.Made.{IsMade}
use Rattle.mqb_history.proofs.Refusing.{down_changes_nothing}
use Rattle.mqb_history.proofs.Ending.{parted_doubt}
use Rattle.mqb_history.proofs.Calling.{IsModest, after_call, calls_are_modest, made_only}
use Rattle.mqb_packet.specs.declared.packet.Packet.{Packet}
use Rattle.mqb_history.proofs.Connections.{disjoint_filter}
use Rattle.mqb_history.proofs.Ending.{HasMade, IsToEnd, ended_linked, parted_at, parted_manager}
use Rattle.mqb_history.proofs.Lists.{all_filter, changed_length, set_get, set_length}
use Rattle.mqb_history.proofs.Staying.{IsSameManager, same_manager}
use Rattle.std.specs.Prelude.{true}
use Rattle.mqb_model.specs.managers.Manager.{Condition, Down, Up}

-- The parts that speak of managers.
pub record IsOrderlyNetwork (known : List Identity) (n : Network) : Type 0 where
  pub linked : (i : ℕ) → IsLinkedRightly (is_connected n i) (manager_at n i)
  pub count : length n.managers ≡ length known
  pub themselves : AreThemselves known n
  pub doubts : (i : ℕ) → HasMade (manager_at n i)
  pub disjoint : AreAllDisjoint n.connections
  pub numbered : AllByRecursion (λ d. d.number ≤ n.connected) n.connections

pub network_of : (known : List Identity) (c : Course) → IsOrderly known c → IsOrderlyNetwork known c.network
network_of known c o = record { linked = o.linked; count = o.count; themselves = o.themselves; doubts = o.doubts; disjoint = o.disjoint; numbered = o.numbered }

pub course_of : (known : List Identity) (c : Course) → length c.network.notes ≡ length c.sent → IsOrderlyNetwork known c.network → IsOrderly known c
course_of known c noted o = record { noted = noted; linked = o.linked; count = o.count; themselves = o.themselves; doubts = o.doubts; disjoint = o.disjoint; numbered = o.numbered }

-- A manager is another one now.

pub itself_then : (known : List Identity) (own : Identity) (a b : State) → IsSameManager a b → IsItself known own a → IsItself known own b
itself_then known own a b same h = record { identity = same.identity ∙ h.identity; peers = same.peers ∙ h.peers }

-- what holds of each manager, where one is changed
pub with_at : (Q : Manager → Type 0) (n : Network) (i j : ℕ) (m : Manager) → Q (manager_at n j) → (i ≡ j → Q m) → Q (manager_at (with_manager n i m) j)
with_at Q n i j m old new = set_get (λ o. Q (unwrap_or o nobody)) n.managers i j m old (λ e lt. new e)

-- it is the same one, as much linked as before
pub record Replaces (m next : Manager) : Type 0 where
  pub session : is_some next.rest.session ≡ is_some m.rest.session
  pub down : is_down next ≡ is_down m
  pub manager : IsSameManager m.state next.state
  pub doubt : HasMade m → HasMade next

pub some_themselves : (known : List Identity) (n : Network) (i : ℕ) (m : Manager) → IsSameManager (manager_at n i).state m.state → AreThemselves known n
    → AreThemselves known (with_manager n i m)
some_themselves known n i m same h j = at (slice_get known j) (h j)
  where
    at : (o : Option Identity) → IfSome o (λ own. IsItself known own (manager_at n j).state) → IfSome o (λ own. IsItself known own (manager_at (with_manager n i m) j).state)
    at None h = tt
    at (Some own) h = with_at (λ x. IsItself known own x.state) n i j m h
        (λ e. itself_then known own (manager_at n i).state m.state same (subst (λ k. IsItself known own (manager_at n k).state) (sym e) h))

pub replaced : (known : List Identity) (n : Network) (i : ℕ) (m : Manager) → Replaces (manager_at n i) m → IsOrderlyNetwork known n
    → IsOrderlyNetwork known (with_manager n i m)
replaced known n i m r o = record {
  linked = λ j. with_at (IsLinkedRightly (is_connected n j)) n i j m (o.linked j)
      (λ e. subst (λ k. IsLinkedRightly (is_connected n k) m) e (record { session = r.session ∙ (o.linked i).session; up = λ c. r.down ∙ (o.linked i).up c }));
  count = set_length n.managers i m ∙ o.count;
  themselves = some_themselves known n i m r.manager o.themselves;
  doubts = λ j. with_at HasMade n i j m (o.doubts j) (λ e. r.doubt (o.doubts i));
  disjoint = o.disjoint;
  numbered = o.numbered;
}

-- Connections end.

ended_themselves : (known : List Identity) (n : Network) (i : ℕ) → AreThemselves known n → AreThemselves known (ended i n)
ended_themselves known n i h j = at (slice_get known j) (h j)
  where
    at : (o : Option Identity) → IfSome o (λ own. IsItself known own (manager_at n j).state) → IfSome o (λ own. IsItself known own (manager_at (ended i n) j).state)
    at None h = tt
    at (Some own) h = parted_at (λ m. IsItself known own m.state) n i j (λ m h. itself_then known own m.state _ (parted_manager m) h) h

ended_count : (n : Network) (i : ℕ) → length (ended i n).managers ≡ length n.managers
ended_count n i = at (connection_of n i)
  where
    at : (o : Option Connection) → length (option_map_or (ended_by n) o n).managers ≡ length n.managers
    at None = refl
    at (Some c) = changed_length _ _ c.second ∙ changed_length _ n.managers c.first

ended_disjoint : (n : Network) (i : ℕ) → AreAllDisjoint n.connections → AreAllDisjoint (ended i n).connections
ended_disjoint n i h = at (connection_of n i)
  where
    at : (o : Option Connection) → AreAllDisjoint (option_map_or (ended_by n) o n).connections
    at None = h
    at (Some c) = disjoint_filter (λ d. not (d.number == c.number)) n.connections h

ended_numbered : (n : Network) (i : ℕ) → AllByRecursion (λ d. d.number ≤ n.connected) n.connections
    → AllByRecursion (λ d. d.number ≤ (ended i n).connected) (ended i n).connections
ended_numbered n i h = at (connection_of n i)
  where
    at : (o : Option Connection) → AllByRecursion (λ d. d.number ≤ (option_map_or (ended_by n) o n).connected) (option_map_or (ended_by n) o n).connections
    at None = h
    at (Some c) = all_filter (λ d. d.number ≤ n.connected) (λ d. not (d.number == c.number)) n.connections h

-- a network that is orderly but for the one whose connection is to end
pub record IsEndingNetwork (known : List Identity) (i : ℕ) (n : Network) : Type 0 where
  pub linked : (j : ℕ) → IsToEnd n i j
  pub count : length n.managers ≡ length known
  pub themselves : AreThemselves known n
  pub doubts : (j : ℕ) → HasMade (manager_at n j)
  pub disjoint : AreAllDisjoint n.connections
  pub numbered : AllByRecursion (λ d. d.number ≤ n.connected) n.connections

pub ends : (known : List Identity) (i : ℕ) (n : Network) → IsEndingNetwork known i n → IsOrderlyNetwork known (ended i n)
ends known i n o = record {
  linked = ended_linked n i o.disjoint o.linked;
  count = ended_count n i ∙ o.count;
  themselves = ended_themselves known n i o.themselves;
  doubts = λ j. parted_at HasMade n i j parted_doubt (o.doubts j);
  disjoint = ended_disjoint n i o.disjoint;
  numbered = ended_numbered n i o.numbered;
}

pub is_ending : (known : List Identity) (i : ℕ) (n : Network) → IsOrderlyNetwork known n → IsEndingNetwork known i n
is_ending known i n o = record { linked = λ j. inl (o.linked j); count = o.count; themselves = o.themselves; doubts = o.doubts; disjoint = o.disjoint; numbered = o.numbered }

pub ended_notes : (n : Network) (i : ℕ) → (ended i n).notes ≡ n.notes
ended_notes n i = at (connection_of n i)
  where
    at : (o : Option Connection) → (option_map_or (ended_by n) o n).notes ≡ n.notes
    at None = refl
    at (Some c) = refl

-- Calls.

-- a manager in doubt makes no record
doubt_stays : {A : Type 0} (m : Manager) (outcome : Outcome A) → (is_down m ≡ true → state_after m outcome ≡ m.state) → HasMade m → HasMade (succeeded m outcome)
doubt_stays m outcome refused h = at m.condition refl h
  where
    at : (x : Condition) → m.condition ≡ x → IfSome (doubt_of x) (IsMade m.state) → IfSome (doubt_of x) (IsMade (state_after m outcome))
    at Up e h = tt
    at (Down doubt) e h = subst (λ s. IfSome doubt (IsMade s)) (sym (refused (ap (λ y. elim y [ Up ↦ false | Down doubt ↦ true ]) e))) h

called_well : {A : Type 0} {a : Option Packet} (known : List Identity) (n : Network) (i : ℕ) (outcome : Outcome A) → IsModest a (manager_at n i) outcome
    → (is_down (manager_at n i) ≡ true → state_after (manager_at n i) outcome ≡ (manager_at n i).state) → IsOrderlyNetwork known n
    → IsOrderlyNetwork known (succeeded_at i outcome n)
called_well known n i outcome modest refused o = let r = replaced known n i (succeeded (manager_at n i) outcome) (record {
  session = modest.session;
  down = refl;
  manager = after_call (manager_at n i) outcome (made_only _ (manager_at n i).state outcome.entry modest.entry);
  doubt = doubt_stays (manager_at n i) outcome refused;
}) o in record { linked = r.linked; count = r.count; themselves = r.themselves; doubts = r.doubts; disjoint = r.disjoint; numbered = r.numbered }

called_ill : {A : Type 0} {a : Option Packet} (known : List Identity) (n : Network) (i : ℕ) (outcome : Outcome A) → IsModest a (manager_at n i) outcome → IsOrderlyNetwork known n
    → IsOrderlyNetwork known (failed_at i outcome n)
called_ill known n i outcome modest o = ends known i (with_manager n i (failed (manager_at n i) outcome)) (record {
  linked = λ j. with_at (λ x. IsLinkedRightly (is_connected n j) x ⊎ ((i ≡ j) × (is_some x.rest.session ≡ false))) n i j (failed (manager_at n i) outcome)
      (inl (o.linked j)) (λ e. inr (e, refl));
  count = set_length n.managers i (failed (manager_at n i) outcome) ∙ o.count;
  themselves = some_themselves known n i (failed (manager_at n i) outcome) (same_manager (manager_at n i).state) o.themselves;
  doubts = λ j. with_at HasMade n i j (failed (manager_at n i) outcome) (o.doubts j) (λ e. made_only _ (manager_at n i).state outcome.entry modest.entry);
  disjoint = o.disjoint;
  numbered = o.numbered;
})

pub calling_orderly : (known : List Identity) (i : ℕ) (call : Call) (failure : Option Failure) (c : Course) → IsOrderly known c → IsOrderly known (calling i call failure c)
calling_orderly known i call None c o = course_of known (calling i call None c) o.noted
    (called_well known c.network i (outcome_of (manager_at c.network i) call) (calls_are_modest (manager_at c.network i) call)
    (down_changes_nothing (manager_at c.network i) call) (network_of known c o))
calling_orderly known i call (Some how) c o = course_of known (calling i call (Some how) c)
    (ap (λ (notes : List Note). length notes) (ended_notes (with_manager c.network i (failed (manager_at c.network i) (outcome_of (manager_at c.network i) call))) i) ∙ o.noted)
    (called_ill known c.network i (outcome_of (manager_at c.network i) call) (calls_are_modest (manager_at c.network i) call) (network_of known c o))
