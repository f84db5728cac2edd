-- What is released was stored before, in every course: each change keeps what connected managers know of their packets.
use Rattle.std.proofs.Common.{refl, sym, subst, ◌∙◌}
use Rattle.std.proofs.lemmas.List.{append_assoc}
use Rattle.std.specs.List.{AllByRecursion}
use Rattle.std.specs.Option.{option_map_or}
use Rattle.std.specs.Prelude.{[], ◌++◌, ◌∷◌, ◌≡◌, ◌≤◌, Bool, IfSome, List, None, Option, Some, cond, false, is_some, true, ℕ}
use Rattle.mqb_base.specs.declared.ids.Guid.{Guid}
use Rattle.mqb_base.specs.declared.ids.MessageId.{MessageId}
use Rattle.mqb_base.specs.declared.message.Lane.{Lane}
use Rattle.mqb_exactly_once.specs.Words.{In}
use Rattle.mqb_model.specs.calls.Link.{unlink}
use Rattle.mqb_model.specs.managers.Manager.{Condition, Down, Manager, Up, doubt_of, is_down}
use Rattle.mqb_packet.specs.declared.packet.Packet.{Packet}
use Rattle.mqb_network.specs.Choices.{Failure}
use Rattle.mqb_history.specs.Changes.{calling}
use Rattle.mqb_history.specs.Orderly.{AreAllDisjoint}
use Rattle.mqb_history.proofs.Ending.{parted_at}
use Rattle.mqb_history.proofs.Ordering.{ended_notes, with_at}
use Rattle.mqb_history.proofs.Refusing.{down_changes_nothing}
use Rattle.mqb_model.specs.managers.Outcomes.{Outcome, failed, recorded, state_after, succeeded}
use Rattle.mqb_model.specs.managers.Restarts.{restarted, unread}
use Rattle.mqb_model.specs.records.Record.{Record}
use Rattle.mqb_model.specs.records.Record as entry
use Rattle.mqb_model.specs.rules.Numbers.{own_id}
use Rattle.mqb_model.specs.state.State.{State}
use Rattle.mqb_network.specs.Courses.{Course, Written, written_by}
use Rattle.mqb_network.specs.Changes.{ended, ended_by, parted}
use Rattle.mqb_network.specs.Network.{Connection, Network, Note, connection_of, manager_at, with_manager}
use Rattle.mqb_model.specs.calls.Call.{Answer, Call, outcome_of}
use Rattle.mqb_history.specs.Stored.{IsStoredIn, WaitsIn}
use Rattle.mqb_history.proofs.Between.{AreEnds, elsewhere, ends_turn, first_end, from_sender, outlives}
use Rattle.mqb_history.proofs.Flowing.{Flows, stored_more}
use Rattle.mqb_history.proofs.Lists.{append_nothing, clash}
use Rattle.mqb_history.proofs.Lasting.{applied_waits, beside_waits}
use Rattle.mqb_history.proofs.Unreleased.{IsOfOwn, IsPlainBeside, Waits, stored_waits, unmarked_waits}

-- nothing is known of a mark, or there is none
abbrev pub AnyMark : Lane → ℕ → MessageId → Type 0
AnyMark kind n id = Unit {0}

abbrev pub NoMark : Lane → ℕ → MessageId → Type 0
NoMark kind n id = ⊥

-- What waits at a manager is its own, and nothing counts as sent where it is up and has no session.
pub record Rests (m : Manager) : Type 0 where
  pub own : Guid
  pub waits : Waits own AnyMark m.state
  pub unsent : is_down m ≡ false → is_some m.rest.session ≡ false → Waits own NoMark m.state
  pub doubt : IfSome (doubt_of m.condition) (IsOfOwn own)

-- what a record releases was stored before
abbrev pub ReleasesStored : List Written → State → Record → Type 0
ReleasesStored ws s (entry.Arrived now numbers part) = AllByRecursion (λ n. IsStoredIn ws (own_id s n) × WaitsIn s n) numbers
ReleasesStored ws s _ = Unit {0}

releases_more : (ws more : List Written) (s : State) (r : Record) → ReleasesStored ws s r → ReleasesStored (ws ++ more) s r
releases_more ws more s (entry.Arrived now numbers part) h = all numbers h
  where
    all : (ns : List ℕ) → AllByRecursion (λ n. IsStoredIn ws (own_id s n) × WaitsIn s n) ns → AllByRecursion (λ n. IsStoredIn (ws ++ more) (own_id s n) × WaitsIn s n) ns
    all [] g = tt
    all (n ∷ ns) g = ((stored_more ws more (own_id s n) g.0.0, g.0.1), all ns g.1)
releases_more ws more s r h = tt

pub some_releases_more : (ws more : List Written) (s : State) (o : Option Record) → IfSome o (ReleasesStored ws s) → IfSome o (ReleasesStored (ws ++ more) s)
some_releases_more ws more s None h = tt
some_releases_more ws more s (Some r) h = releases_more ws more s r h

-- each of these records releases what those before it stored
abbrev pub ReleaseStored : List Written → List Written → Type 0
ReleaseStored before [] = Unit {0}
ReleaseStored before (w ∷ ws) = ReleasesStored before w.before w.entry × ReleaseStored (before ++ w ∷ []) ws

release_more : (before ws : List Written) (w : Written) → ReleaseStored before ws → ReleasesStored (before ++ ws) w.before w.entry → ReleaseStored before (ws ++ w ∷ [])
release_more before [] w h new = (subst (λ xs. ReleasesStored xs w.before w.entry) (append_nothing before) new, tt)
release_more before (x ∷ ws) w h new = (h.0, release_more (before ++ x ∷ []) ws w h.1 (subst (λ xs. ReleasesStored xs w.before w.entry) (sym (append_assoc before (x ∷ []) ws)) new))

pub release_at : (first before behind : List Written) (w : Written) → ReleaseStored first (before ++ w ∷ behind) → ReleasesStored (first ++ before) w.before w.entry
release_at first [] behind w h = subst (λ xs. ReleasesStored xs w.before w.entry) (sym (append_nothing first)) h.0
release_at first (x ∷ before) behind w h = subst (λ xs. ReleasesStored xs w.before w.entry) (append_assoc first (x ∷ []) before) (release_at (first ++ x ∷ []) before behind w h.1)

pub with_release : (ws : List Written) (i : ℕ) (m : Manager) (o : Option Record) → IfSome o (ReleasesStored ws m.state) → ReleaseStored [] ws → ReleaseStored [] (ws ++ written_by i m o)
with_release ws i m None new h = subst (ReleaseStored []) (sym (append_nothing ws)) h
with_release ws i m (Some r) new h = release_more [] ws (record { by = i; before = m.state; entry = r }) h new

-- the packets of a pair of managers in a connection
abbrev pub FlowsIn : Network → List Packet → List Written → ℕ → ℕ → ℕ → Type 0
FlowsIn n sent ws i j d = Flows (manager_at n i) (manager_at n j) (from_sender d i n.notes sent) (from_sender d j n.notes sent) ws

-- What each change keeps.
pub record KeepsStorage (c : Course) : Type 0 where
  pub rests : (i : ℕ) → Rests (manager_at c.network i)
  pub flows : (d : Connection) → In d c.network.connections → (i j : ℕ) → AreEnds d i j → FlowsIn c.network c.sent c.written i j d.number
  pub ends : (note : Note) → In note c.network.notes → (d : Connection) → In d c.network.connections → d.number ≡ note.connection → AreEnds d note.sender note.receiver
  pub numbered : (note : Note) → In note c.network.notes → note.connection ≤ c.network.connected
  pub written : ReleaseStored [] c.written
  pub doubts : (i : ℕ) → IfSome (doubt_of (manager_at c.network i).condition) (ReleasesStored c.written (manager_at c.network i).state)

-- Managers.

pub call_waits : {A : Type 0} (own : Guid) (Bears : Lane → ℕ → MessageId → Type 0) (m : Manager) (outcome : Outcome A) → IfSome outcome.entry (IsOfOwn own) → IsPlainBeside outcome.beside
    → Waits own Bears m.state → Waits own Bears (state_after m outcome)
call_waits own Bears m outcome o b h = beside_waits own Bears outcome.beside (recorded m.state outcome.entry) b (at outcome.entry o)
  where
    at : (r : Option Record) → IfSome r (IsOfOwn own) → Waits own Bears (recorded m.state r)
    at None g = h
    at (Some r) g = applied_waits own Bears m.state r g h

pub parted_rests : (m : Manager) → Rests m → Rests (parted m)
parted_rests m h = at (is_down m) refl
  where
    at : (b : Bool) → is_down m ≡ b → Rests (cond b m (succeeded m (unlink m)))
    at true e = h
    at false e = record {
      own = h.own;
      waits = unmarked_waits h.own AnyMark AnyMark m.state h.waits;
      unsent = λ up none. unmarked_waits h.own AnyMark NoMark m.state h.waits;
      doubt = h.doubt;
    }

recorded_waits : (own : Guid) (Bears : Lane → ℕ → MessageId → Type 0) (s : State) (o : Option Record) → IfSome o (IsOfOwn own) → Waits own Bears s → Waits own Bears (recorded s o)
recorded_waits own Bears s None g h = h
recorded_waits own Bears s (Some r) g h = applied_waits own Bears s r g h

pub found_rests : (m : Manager) → Rests m → Rests (restarted m true)
found_rests m h = record {
  own = h.own;
  waits = stored_waits h.own AnyMark AnyMark (recorded m.state (doubt_of m.condition)) all;
  unsent = λ up none. stored_waits h.own AnyMark NoMark (recorded m.state (doubt_of m.condition)) all;
  doubt = tt;
}
  where
    all : Waits h.own AnyMark (recorded m.state (doubt_of m.condition))
    all = recorded_waits h.own AnyMark m.state (doubt_of m.condition) h.doubt h.waits

pub lost_rests : (m : Manager) → Rests m → Rests (restarted m false)
lost_rests m h = record {
  own = h.own;
  waits = stored_waits h.own AnyMark AnyMark m.state h.waits;
  unsent = λ up none. stored_waits h.own AnyMark NoMark m.state h.waits;
  doubt = tt;
}

pub unread_rests : (m : Manager) → Rests m → Rests (unread m)
unread_rests m h = record {
  own = h.own;
  waits = stored_waits h.own AnyMark AnyMark m.state h.waits;
  unsent = λ up none. stored_waits h.own AnyMark NoMark m.state h.waits;
  doubt = h.doubt;
}

pub failed_rests : (m : Manager) (outcome : Outcome Answer) (h : Rests m) → IfSome outcome.entry (IsOfOwn h.own) → Rests (failed m outcome)
failed_rests m outcome h o = record { own = h.own; waits = h.waits; unsent = λ up none. absurd (clash up); doubt = o }

-- a call that sends nothing
pub called_rests : (m : Manager) (outcome : Outcome Answer) (h : Rests m) → is_some outcome.rest.session ≡ is_some m.rest.session → IfSome outcome.entry (IsOfOwn h.own)
    → IsPlainBeside outcome.beside → Rests (succeeded m outcome)
called_rests m outcome h same o b = record {
  own = h.own;
  waits = call_waits h.own AnyMark m outcome o b h.waits;
  unsent = λ up none. call_waits h.own NoMark m outcome o b (h.unsent up (sym same ∙ none));
  doubt = h.doubt;
}

pub up_doubt : (x : Condition) (P : Record → Type 0) → (elim x [ Up ↦ false | Down doubt ↦ true ]) ≡ false → IfSome (doubt_of x) P
up_doubt Up P e = tt
up_doubt (Down doubt) P e = absurd (clash e)

-- Calls.

pub doubt_after : (ws more : List Written) (m : Manager) (call : Call) → IfSome (doubt_of m.condition) (ReleasesStored ws m.state)
    → IfSome (doubt_of m.condition) (ReleasesStored (ws ++ more) (state_after m (outcome_of m call)))
doubt_after ws more m call h = at (is_down m) refl
  where
    at : (b : Bool) → is_down m ≡ b → IfSome (doubt_of m.condition) (ReleasesStored (ws ++ more) (state_after m (outcome_of m call)))
    at false e = up_doubt m.condition (ReleasesStored (ws ++ more) (state_after m (outcome_of m call))) e
    at true e = subst (λ s. IfSome (doubt_of m.condition) (ReleasesStored (ws ++ more) s)) (sym (down_changes_nothing m call e)) (some_releases_more ws more m.state (doubt_of m.condition) h)

pub parted_doubt_stored : (ws : List Written) (y : Manager) → IfSome (doubt_of y.condition) (ReleasesStored ws y.state) → IfSome (doubt_of (parted y).condition) (ReleasesStored ws (parted y).state)
parted_doubt_stored ws y h = at (is_down y) refl
  where
    at : (b : Bool) → is_down y ≡ b → IfSome (doubt_of (cond b y (succeeded y (unlink y))).condition) (ReleasesStored ws (cond b y (succeeded y (unlink y))).state)
    at true e = h
    at false e = up_doubt y.condition (ReleasesStored ws (succeeded y (unlink y)).state) e

-- where a call goes well
pub well_keeps : (c : Course) (x : ℕ) (call : Call) → KeepsStorage c → Rests (succeeded (manager_at c.network x) (outcome_of (manager_at c.network x) call))
    → IfSome (outcome_of (manager_at c.network x) call).entry (ReleasesStored c.written (manager_at c.network x).state)
    → ((d : Connection) → In d c.network.connections → (i j : ℕ) → AreEnds d i j
    → FlowsIn (with_manager c.network x (succeeded (manager_at c.network x) (outcome_of (manager_at c.network x) call))) c.sent
    (c.written ++ written_by x (manager_at c.network x) (outcome_of (manager_at c.network x) call).entry) i j d.number)
    → KeepsStorage (calling x call None c)
well_keeps c x call k rests stores flows = record {
  rests = λ i. with_at Rests c.network x i (succeeded m outcome) (k.rests i) (λ e. rests);
  flows = flows;
  ends = k.ends;
  numbered = k.numbered;
  written = with_release c.written x m outcome.entry stores k.written;
  doubts = λ i. with_at (λ y. IfSome (doubt_of y.condition) (ReleasesStored (c.written ++ more) y.state)) c.network x i (succeeded m outcome)
      (some_releases_more c.written more (manager_at c.network i).state (doubt_of (manager_at c.network i).condition) (k.doubts i))
      (λ e. doubt_after c.written more m call (k.doubts x));
}
  where
    m : Manager
    m = manager_at c.network x

    outcome : Outcome Answer
    outcome = outcome_of m call

    more : List Written
    more = written_by x m outcome.entry

-- a connection of a network stands in one whose managers are others
pub flows_same : (n next : Network) (sent : List Packet) (ws : List Written) (i j d : ℕ) → manager_at next i ≡ manager_at n i → manager_at next j ≡ manager_at n j → next.notes ≡ n.notes
    → FlowsIn n sent ws i j d → FlowsIn next sent ws i j d
flows_same n next sent ws i j d e f g h = subst (λ y. Flows y (manager_at next j) (from_sender d i next.notes sent) (from_sender d j next.notes sent) ws) (sym e)
    (subst (λ y. Flows (manager_at n i) y (from_sender d i next.notes sent) (from_sender d j next.notes sent) ws) (sym f)
    (subst (λ notes. Flows (manager_at n i) (manager_at n j) (from_sender d i notes sent) (from_sender d j notes sent) ws) (sym g) h))

-- where a connection ends
pub ended_flows : (n next : Network) (x : ℕ) (sent : List Packet) (ws : List Written) → AreAllDisjoint next.connections → next.connections ≡ n.connections → next.notes ≡ n.notes
    → ((i : ℕ) → (i ≡ x → ⊥) → manager_at next i ≡ manager_at n i)
    → ((d : Connection) → In d n.connections → (i j : ℕ) → AreEnds d i j → FlowsIn n sent ws i j d.number)
    → (d : Connection) → In d (ended x next).connections → (i j : ℕ) → AreEnds d i j → FlowsIn (ended x next) sent ws i j d.number
ended_flows n next x sent ws disjoint conns notes same flows d inside i j e = let o = outlives next x d disjoint inside in
    flows_same n (ended x next) sent ws i j d.number
    (o.same i (first_end d i j e) ∙ same i (o.apart i (first_end d i j e)))
    (o.same j (first_end d j i (ends_turn d i j e)) ∙ same j (o.apart j (first_end d j i (ends_turn d i j e))))
    (ended_notes next x ∙ notes) (flows d (subst (In d) conns o.stood) i j e)

ended_count_same : (n : Network) (i : ℕ) → (ended i n).connected ≡ n.connected
ended_count_same n i = at (connection_of n i)
  where
    at : (o : Option Connection) → (option_map_or (ended_by n) o n).connected ≡ n.connected
    at None = refl
    at (Some d) = refl

-- what is known of connections and notes where one ends
pub ended_ends : (n : Network) (x : ℕ) → AreAllDisjoint n.connections
    → ((note : Note) → In note n.notes → (d : Connection) → In d n.connections → d.number ≡ note.connection → AreEnds d note.sender note.receiver)
    → (note : Note) → In note (ended x n).notes → (d : Connection) → In d (ended x n).connections → d.number ≡ note.connection → AreEnds d note.sender note.receiver
ended_ends n x disjoint ends note i d inside e = ends note (subst (In note) (ended_notes n x) i) d (outlives n x d disjoint inside).stood e

pub ended_numbered : (n : Network) (x : ℕ) → ((note : Note) → In note n.notes → note.connection ≤ n.connected)
    → (note : Note) → In note (ended x n).notes → note.connection ≤ (ended x n).connected
ended_numbered n x h note i = subst (λ k. note.connection ≤ k) (sym (ended_count_same n x)) (h note (subst (In note) (ended_notes n x) i))

pub failing_keeps : (c : Course) (x : ℕ) (call : Call) (how : Failure) → AreAllDisjoint c.network.connections → (k : KeepsStorage c)
    → IfSome (outcome_of (manager_at c.network x) call).entry (IsOfOwn (k.rests x).own)
    → IfSome (outcome_of (manager_at c.network x) call).entry (ReleasesStored c.written (manager_at c.network x).state)
    → KeepsStorage (calling x call (Some how) c)
failing_keeps c x call how disjoint k own stores = record {
  rests = λ i. parted_at Rests next x i parted_rests (with_at Rests c.network x i (failed m outcome) (k.rests i) (λ e. failed_rests m outcome (k.rests x) own));
  flows = ended_flows c.network next x c.sent c.written disjoint refl refl (λ i apart. elsewhere c.network x i (failed m outcome) (λ e. apart (sym e))) k.flows;
  ends = ended_ends next x disjoint k.ends;
  numbered = ended_numbered next x k.numbered;
  written = k.written;
  doubts = λ i. parted_at (λ y. IfSome (doubt_of y.condition) (ReleasesStored c.written y.state)) next x i parted_doubts
      (with_at (λ y. IfSome (doubt_of y.condition) (ReleasesStored c.written y.state)) c.network x i (failed m outcome) (k.doubts i) (λ e. stores));
}
  where
    m : Manager
    m = manager_at c.network x

    outcome : Outcome Answer
    outcome = outcome_of m call

    next : Network
    next = with_manager c.network x (failed m outcome)

    parted_doubts : (y : Manager) → IfSome (doubt_of y.condition) (ReleasesStored c.written y.state) → IfSome (doubt_of (parted y).condition) (ReleasesStored c.written (parted y).state)
    parted_doubts y h = parted_doubt_stored c.written y h
