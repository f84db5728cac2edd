-- Packets that a pump gives out keep what is stored.
use Rattle.std.proofs.Common.{refl, ap, sym, subst, ◌∙◌, inl, inr}
use Rattle.std.specs.Option.{option_map_or}
use Rattle.std.specs.Prelude.{[], ◌&&◌, ◌++◌, ◌==◌, ◌≡◌, ◌≤◌, ◌⊎◌, Bool, Err, IfSome, List, None, Option, Some, cond, false, is_some, length, replicate, suc, true, zero, ℕ}
use Rattle.mqb_base.specs.declared.ids.Guid.{Guid}
use Rattle.mqb_base.specs.declared.ids.Identity.{Identity}
use Rattle.mqb_exactly_once.specs.Words.{In}
use Rattle.mqb_packet.specs.declared.packet.Packet.{Packet}
use Rattle.mqb_session.specs.State as one_end
use Rattle.mqb_model.specs.calls.pump.Pump.{PumpOutcome, pump, pump_linked}
use Rattle.mqb_model.specs.declared.faults.PumpFault.TheVariants as fault
use Rattle.mqb_model.specs.managers.Manager.{Manager, doubt_of, is_down}
use Rattle.mqb_model.specs.managers.Outcomes.{Outcome, answering, lines_after, succeeded, unless}
use Rattle.mqb_model.specs.records.Record.{Record}
use Rattle.mqb_model.specs.records.Record as entry
use Rattle.mqb_model.specs.state.State.{State}
use Rattle.mqb_network.specs.Changes.{note_by, with_lines}
use Rattle.mqb_network.specs.Choices.{Failure}
use Rattle.mqb_network.specs.Courses.{Course, Written, posted, written_by}
use Rattle.mqb_network.specs.Network.{Connection, Network, Note, connection_of, is_end, manager_at, other_end, with_manager}
use Rattle.mqb_model.specs.calls.Call.{Answer, Pump, Pumped, outcome_of}
use Rattle.mqb_history.specs.Changes.{calling, pumping}
use Rattle.mqb_history.specs.Orderly.{IsOrderly}
use Rattle.mqb_history.proofs.Beginning.{there}
use Rattle.mqb_history.proofs.Between.{AreEnds, all_in, connection_in, elsewhere, ends_turn, first_end, from_append, from_new, from_sender, in_any, in_either, one_end_of, one_numbered, other_ends}
use Rattle.mqb_history.proofs.Connections.{none_found}
use Rattle.mqb_history.proofs.Flowing.{Flows, flows_more, source_pumps, target_pumps}
use Rattle.mqb_history.proofs.Hearing.{session_of}
use Rattle.mqb_history.proofs.Lists.{append_nothing, apart_numbers, clash, equal_numbers, if_some, same_number, some_is, true_not_false}
use Rattle.mqb_history.proofs.Ordering.{with_at}
use Rattle.mqb_packet.specs.declared.packet.UserPacket.{UserPacket}
use Rattle.mqb_history.proofs.Pumped.{AreMarks, CountsOf, users_of}
use Rattle.mqb_history.proofs.Pumping.{IsOfMarks, Pumps, linked_pumped}
use Rattle.mqb_history.proofs.Serving.{Works, same_works, works_keep}
use Rattle.mqb_history.proofs.Storing.{AnyMark, FlowsIn, KeepsStorage, ReleasesStored, Rests, doubt_after, failing_keeps, some_releases_more, up_doubt, with_release}
use Rattle.mqb_history.proofs.Unreleased.{IsOfOwn, Waits, weaker_waits}

-- nothing is sent
pub posted_nothing : (i now : ℕ) (c : Course) → posted i now [] c ≡ c
posted_nothing i now c = ap (λ n. record { network = n; sent = c.sent ++ []; written = c.written }) (at (connection_of c.network i))
    ∙ ap (λ (xs : List Packet). record { network = c.network; sent = xs; written = c.written }) (append_nothing c.sent)
  where
    at : (o : Option Connection) → option_map_or (λ (d : Connection). record c.network { notes = c.network.notes ++ [] }) o c.network ≡ c.network
    at None = refl
    at (Some d) = ap (λ (notes : List Note). record c.network { notes = notes }) (append_nothing c.network.notes)

marks_own : (own : Guid) (r : Record) → IsOfMarks r → IsOfOwn own r
marks_own own (entry.Offered marks) h = tt
marks_own own r h = absurd h

marks_stored : (ws : List Written) (s : State) (r : Record) → IsOfMarks r → ReleasesStored ws s r
marks_stored ws s (entry.Offered marks) h = tt
marks_stored ws s r h = absurd h

pump_is : (m : Manager) (now : ℕ) (before : one_end.State) → is_down m ≡ false → m.rest.session ≡ Some before → pump m now ≡ pump_linked m now before
pump_is m now before up there = ap (λ b. unless m (cond b (Some fault.Down) None) (option_map_or (pump_linked m now) m.rest.session (answering m (Err fault.NotLinked)))) up
    ∙ ap (λ o. option_map_or (pump_linked m now) o (answering m (Err fault.NotLinked))) there

-- a manager without a session pumps nothing
record IsIdlePump (m : Manager) (outcome : PumpOutcome) : Type 0 where
  pub works : (own : Guid) → Works own m outcome
  pub packets : outcome.packets ≡ []

idle_pump : (m : Manager) (now : ℕ) → m.rest.session ≡ None → IsIdlePump m (pump m now)
idle_pump m now none = subst (IsIdlePump m) (sym same) (at (is_down m))
  where
    same : pump m now ≡ unless m (cond (is_down m) (Some fault.Down) None) (answering m (Err fault.NotLinked))
    same = ap (λ o. unless m (cond (is_down m) (Some fault.Down) None) (option_map_or (pump_linked m now) o (answering m (Err fault.NotLinked)))) none

    at : (b : Bool) → IsIdlePump m (unless m (cond b (Some fault.Down) None) (answering m (Err fault.NotLinked)))
    at true = record { works = λ own. record { session = refl; entry = tt; beside = tt }; packets = refl }
    at false = record { works = λ own. record { session = refl; entry = tt; beside = tt }; packets = refl }

in_replicate : (count : ℕ) (x y : Note) → In y (replicate count x) → x ≡ y
in_replicate zero x y i = absurd i
in_replicate (suc count) x y (inl e) = e
in_replicate (suc count) x y (inr i) = in_replicate count x y i

-- A manager pumps in its connection, and the disk does not fail.
module _ (known : List Identity) (c : Course) (o : IsOrderly known c) (k : KeepsStorage c) (x now : ℕ) (d : Connection) (before : one_end.State)
    (found : connection_of c.network x ≡ Some d) (linked : (manager_at c.network x).rest.session ≡ Some before) (up : is_down (manager_at c.network x) ≡ false) where
  abbrev m : Manager
  m = manager_at c.network x

  abbrev outcome : Outcome Answer
  outcome = outcome_of m (Pump now)

  abbrev next : Manager
  next = succeeded m outcome

  abbrev zs : List Packet
  zs = outcome.packets

  pumps : (own : Guid) (ps : List UserPacket) → Waits own (AreMarks ps) m.state → CountsOf ps before → Pumps own ps m before (pump m now)
  pumps own ps waits e = subst (Pumps own ps m before) (sym (pump_is m now before up linked)) (linked_pumped own ps m waits now before linked e)

  inside : In d c.network.connections
  inside = (connection_in c.network x d found).0

  at_end : is_end x d ≡ true
  at_end = (connection_in c.network x d found).1

  -- what it knows of its own packets
  flow : (e : Connection) → In e c.network.connections → (i j : ℕ) → AreEnds e i j → x ≡ i → Flows m (manager_at c.network j) (from_sender e.number i c.network.notes c.sent) (from_sender e.number j c.network.notes c.sent) c.written
  flow e there i j ends same = subst (λ y. Flows (manager_at c.network y) (manager_at c.network j) (from_sender e.number i c.network.notes c.sent) (from_sender e.number j c.network.notes c.sent) c.written)
      (sym same) (k.flows e there i j ends)

  pumped : (e : Connection) (there : In e c.network.connections) (i j : ℕ) (ends : AreEnds e i j) (same : x ≡ i) → let h = flow e there i j ends same in
      Pumps h.own (users_of (from_sender e.number i c.network.notes c.sent)) m before (pump m now)
  pumped e there i j ends same = let h = flow e there i j ends same in let own = some_is before h.source (sym linked ∙ h.sends) in pumps h.own (users_of (from_sender e.number i c.network.notes c.sent)) h.waits
      (ap (λ (s : one_end.State). s.sent) own ∙ h.sent, ap (λ (s : one_end.State). s.recoverable_sent) own ∙ h.recoverable_sent)

  abbrev other : ℕ
  other = other_end x d

  own_pumps : let h = flow d inside x other (other_ends d x at_end) refl in Pumps h.own (users_of (from_sender d.number x c.network.notes c.sent)) m before (pump m now)
  own_pumps = pumped d inside x other (other_ends d x at_end) refl

  abbrev more : List Written
  more = c.written ++ written_by x m outcome.entry

  abbrev notes : List Note
  notes = c.network.notes ++ replicate (length zs) (note_by x now d)

  abbrev after : Network
  after = record (with_lines (lines_after m outcome) (with_manager c.network x next)) { notes = notes }

  -- packets of a manager in a connection
  sent_now : (e : Connection) (i : ℕ) → In e c.network.connections → is_end i e ≡ true → (b : Bool) → (x == i) ≡ b
      → from_sender e.number i notes (c.sent ++ zs) ≡ from_sender e.number i c.network.notes c.sent ++ cond b zs []
  sent_now e i there ends b same = from_append e.number i c.network.notes (replicate (length zs) (note_by x now d)) c.sent zs o.noted
      ∙ ap (λ ys. from_sender e.number i c.network.notes c.sent ++ ys) (from_new e.number i (note_by x now d) zs ∙ ap (λ y. cond y zs []) (at b same))
    where
      at : (b : Bool) → (x == i) ≡ b → ((d.number == e.number) && (x == i)) ≡ b
      at true f = ap (λ y. y && (x == i)) (subst (λ (y : Connection). (d.number == y.number) ≡ true)
          (one_end_of c.network.connections d e x o.disjoint inside there at_end (subst (λ y. is_end y e ≡ true) (sym (equal_numbers x i f)) ends)) (same_number d.number)) ∙ f
      at false f = ap (λ y. (d.number == e.number) && y) f ∙ none (d.number == e.number)
        where
          none : (b : Bool) → (b && false) ≡ false
          none true = refl
          none false = refl

  here : (i : ℕ) → x ≡ i → manager_at after i ≡ next
  here i same = subst (λ y. manager_at (with_manager c.network x next) y ≡ next) same (there c.network x next up)

  apart : (i : ℕ) → (x == i) ≡ false → manager_at after i ≡ manager_at c.network i
  apart i differ = elsewhere c.network x i next (apart_numbers x i differ)

  -- first what the source knows, then what the target does
  source_now : (e : Connection) → (there : In e c.network.connections) → (i j : ℕ) → (ends : AreEnds e i j) → (b : Bool) → (x == i) ≡ b
      → Flows (manager_at after i) (manager_at c.network j) (from_sender e.number i c.network.notes c.sent ++ cond b zs []) (from_sender e.number j c.network.notes c.sent) more
  source_now e there i j ends true f = let same = equal_numbers x i f in let h = flow e there i j ends same in let p = pumped e there i j ends same in
      subst (λ y. Flows y (manager_at c.network j) (from_sender e.number i c.network.notes c.sent ++ zs) (from_sender e.number j c.network.notes c.sent) more) (sym (here i same))
      (flows_more next (manager_at c.network j) (from_sender e.number i c.network.notes c.sent ++ zs) (from_sender e.number j c.network.notes c.sent) c.written (written_by x m outcome.entry)
      (source_pumps m (manager_at c.network j) next (from_sender e.number i c.network.notes c.sent) (from_sender e.number j c.network.notes c.sent) zs c.written before p.after h
      linked p.session p.sends p.repeats p.waits))
  source_now e there i j ends false f = subst (λ y. Flows y (manager_at c.network j) (from_sender e.number i c.network.notes c.sent ++ []) (from_sender e.number j c.network.notes c.sent) more) (sym (apart i f))
      (subst (λ xs. Flows (manager_at c.network i) (manager_at c.network j) xs (from_sender e.number j c.network.notes c.sent) more) (sym (append_nothing (from_sender e.number i c.network.notes c.sent)))
      (flows_more (manager_at c.network i) (manager_at c.network j) (from_sender e.number i c.network.notes c.sent) (from_sender e.number j c.network.notes c.sent) c.written (written_by x m outcome.entry)
      (k.flows e there i j ends)))

  target_now : (e : Connection) (i j : ℕ) (mi : Manager) (xs ys : List Packet) → (b : Bool) → (x == j) ≡ b → Flows mi (manager_at c.network j) xs ys more
      → Flows mi (manager_at after j) xs (ys ++ cond b zs []) more
  target_now e i j mi xs ys true f h = let same = equal_numbers x j f in let p = own_pumps in
      subst (λ y. Flows mi y xs (ys ++ zs) more) (sym (here j same))
      (target_pumps mi (manager_at c.network j) next xs ys zs more before p.after h (subst (λ y. (manager_at c.network y).rest.session ≡ Some before) same linked)
      p.session p.sends.got p.sends.stored p.told p.told_got)
  target_now e i j mi xs ys false f h = subst (λ y. Flows mi y xs (ys ++ []) more) (sym (apart j f)) (subst (λ zs. Flows mi (manager_at c.network j) xs zs more) (sym (append_nothing ys)) h)

  flows_now : (e : Connection) → In e c.network.connections → (i j : ℕ) → AreEnds e i j → FlowsIn after (c.sent ++ zs) more i j e.number
  flows_now e there i j ends = subst (λ xs. Flows (manager_at after i) (manager_at after j) xs (from_sender e.number j notes (c.sent ++ zs)) more)
      (sym (sent_now e i there (first_end e i j ends) (x == i) refl))
      (subst (λ ys. Flows (manager_at after i) (manager_at after j) (from_sender e.number i c.network.notes c.sent ++ cond (x == i) zs []) ys more)
      (sym (sent_now e j there (first_end e j i (ends_turn e i j ends)) (x == j) refl))
      (target_now e i j (manager_at after i) (from_sender e.number i c.network.notes c.sent ++ cond (x == i) zs []) (from_sender e.number j c.network.notes c.sent) (x == j) refl
      (source_now e there i j ends (x == i) refl)))

  stores_now : IfSome outcome.entry (ReleasesStored c.written m.state)
  stores_now = if_some IsOfMarks (ReleasesStored c.written m.state) outcome.entry (marks_stored c.written m.state) own_pumps.entry

  rests_now : Rests next
  rests_now = let h = flow d inside x other (other_ends d x at_end) refl in record {
    own = h.own;
    waits = weaker_waits h.own _ AnyMark (λ kind n id g. tt) next.state own_pumps.waits;
    unsent = λ free none. absurd (true_not_false (is_some next.rest.session) (ap is_some own_pumps.session) none);
    doubt = up_doubt m.condition (IsOfOwn h.own) up;
  }

  pub pumped_keeps : KeepsStorage (record { network = after; sent = c.sent ++ zs; written = more })
  pumped_keeps = record {
    rests = λ i. with_at Rests c.network x i next (k.rests i) (λ e. rests_now);
    flows = flows_now;
    ends = λ note i e there same. ends_now note (in_either c.network.notes (replicate (length zs) (note_by x now d)) note i) e there same;
    numbered = λ note i. numbered_now note (in_either c.network.notes (replicate (length zs) (note_by x now d)) note i);
    written = with_release c.written x m outcome.entry stores_now k.written;
    doubts = λ i. with_at (λ y. IfSome (doubt_of y.condition) (ReleasesStored more y.state)) c.network x i next
        (some_releases_more c.written (written_by x m outcome.entry) (manager_at c.network i).state (doubt_of (manager_at c.network i).condition) (k.doubts i))
        (λ e. doubt_after c.written (written_by x m outcome.entry) m (Pump now) (k.doubts x));
  }
    where
      ends_now : (note : Note) → In note c.network.notes ⊎ In note (replicate (length zs) (note_by x now d)) → (e : Connection) → In e c.network.connections → e.number ≡ note.connection
          → AreEnds e note.sender note.receiver
      ends_now note (inl i) e there same = k.ends note i e there same
      ends_now note (inr i) e there same = let is = in_replicate (length zs) (note_by x now d) note i in
          subst (λ (y : Note). AreEnds e y.sender y.receiver) is (subst (λ y. AreEnds y x other)
          (one_numbered c.network.connections d e o.disjoint inside there (ap (λ (y : Note). y.connection) is ∙ sym same)) (other_ends d x at_end))

      numbered_now : (note : Note) → In note c.network.notes ⊎ In note (replicate (length zs) (note_by x now d)) → note.connection ≤ c.network.connected
      numbered_now note (inl i) = k.numbered note i
      numbered_now note (inr i) = subst (λ (y : Note). y.connection ≤ c.network.connected) (in_replicate (length zs) (note_by x now d) note i)
          (all_in (λ (y : Connection). y.number ≤ c.network.connected) c.network.connections d o.numbered inside)

unlinked : (known : List Identity) (c : Course) (x : ℕ) → IsOrderly known c → connection_of c.network x ≡ None → (manager_at c.network x).rest.session ≡ None
unlinked known c x o e = at (manager_at c.network x).rest.session ((o.linked x).session ∙ none_found (is_end x) c.network.connections e)
  where
    at : (s : Option one_end.State) → is_some s ≡ false → s ≡ None
    at None f = refl
    at (Some s) f = absurd (clash f)

pub pumping_keeps : (known : List Identity) (c : Course) (x now : ℕ) (failure : Option Failure) → IsOrderly known c → KeepsStorage c → KeepsStorage (pumping x now failure c)
pumping_keeps known c x now (Some how) o k = subst KeepsStorage (sym (posted_nothing x now (calling x (Pump now) (Some how) c))) (at (connection_of c.network x) refl)
  where
    at : (d : Option Connection) → connection_of c.network x ≡ d → KeepsStorage (calling x (Pump now) (Some how) c)
    at None e = works_keep c x (Pump now) (Some how) o.disjoint (λ own f. same_works Pumped own (manager_at c.network x) (pump (manager_at c.network x) now) ((idle_pump (manager_at c.network x) now (unlinked known c x o e)).works own)) k
    at (Some d) e = let end = connection_in c.network x d e in let connected = in_any (is_end x) c.network.connections d end.0 end.1 in let s = session_of known c x o connected in
        let p = own_pumps known c o k x now d s.0 e s.1 ((o.linked x).up connected) in
        failing_keeps c x (Pump now) how o.disjoint k (if_some IsOfMarks (IsOfOwn (k.rests x).own) (outcome_of (manager_at c.network x) (Pump now)).entry (marks_own (k.rests x).own) p.entry)
        (if_some IsOfMarks (ReleasesStored c.written (manager_at c.network x).state) (outcome_of (manager_at c.network x) (Pump now)).entry (marks_stored c.written (manager_at c.network x).state) p.entry)
pumping_keeps known c x now None o k = at (connection_of c.network x) refl
  where
    at : (d : Option Connection) → connection_of c.network x ≡ d → KeepsStorage (pumping x now None c)
    at None e = let idle = idle_pump (manager_at c.network x) now (unlinked known c x o e) in
        subst (λ packets. KeepsStorage (posted x now packets (calling x (Pump now) None c))) (sym idle.packets)
        (subst KeepsStorage (sym (posted_nothing x now (calling x (Pump now) None c))) (works_keep c x (Pump now) None o.disjoint (λ own f. same_works Pumped own (manager_at c.network x) (pump (manager_at c.network x) now) (idle.works own)) k))
    at (Some d) e = let end = connection_in c.network x d e in let connected = in_any (is_end x) c.network.connections d end.0 end.1 in let s = session_of known c x o connected in
        let m = manager_at c.network x in let outcome = outcome_of m (Pump now) in let n = with_lines (lines_after m outcome) (with_manager c.network x (succeeded m outcome)) in
        subst (λ found. KeepsStorage (record {
          network = option_map_or (λ (y : Connection). record n { notes = c.network.notes ++ replicate (length outcome.packets) (note_by x now y) }) found n;
          sent = c.sent ++ outcome.packets;
          written = c.written ++ written_by x m outcome.entry;
        })) (sym e) (pumped_keeps known c o k x now d s.0 e s.1 ((o.linked x).up connected))
