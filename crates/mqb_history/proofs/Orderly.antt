-- Every course with a history is orderly.
use Rattle.std.proofs.lemmas.List.{append_assoc}
use Rattle.std.proofs.Common.{refl, ap, sym, subst, ◌∙◌}
use Rattle.std.specs.Option.{option_map_or}
use Rattle.std.specs.Prelude.{[], ◌+◌, ◌++◌, ◌-◌, ◌∷◌, ◌≡◌, Bool, Err, IfSome, List, None, Option, Some, false, fold, is_some, length, map, not, option_map, replicate, slice_get, slice_set, suc, true, unwrap_or, zero, ℕ}
use Rattle.mqb_base.specs.declared.ids.Identity.{Identity}
use Rattle.mqb_model.specs.calls.pump.Pump.{pump_linked, pump_refusal}
use Rattle.mqb_model.specs.declared.faults.PumpFault.{PumpFault}
use Rattle.mqb_model.specs.declared.faults.PumpFault.TheVariants as fault
use Rattle.mqb_model.specs.managers.Manager.{Manager, doubt_of}
use Rattle.mqb_model.specs.managers.Outcomes.{answering, recorded, unless}
use Rattle.mqb_model.specs.managers.Restarts.{restarted, unread}
use Rattle.mqb_model.specs.records.Applying.{apply}
use Rattle.mqb_model.specs.records.Record as entry
use Rattle.mqb_model.specs.records.Record.{Record}
use Rattle.mqb_model.specs.state.State.{State, empty}
use Rattle.mqb_network.specs.Changes.{as_dropped, dropped, ended, note_by, noted}
use Rattle.mqb_network.specs.Choices.{Failure}
use Rattle.mqb_network.specs.Connecting.{any_connected, any_down}
use Rattle.mqb_network.specs.Courses.{Course, found_kept, moved, posted}
use Rattle.mqb_network.specs.Laws.{AreApart}
use Rattle.mqb_network.specs.Network.{Connection, Network, Note, connection_of, formatted, is_connected, is_end, manager_at, nobody, others, with_manager}
use Rattle.mqb_network.specs.Runs.{beginning}
use Rattle.mqb_packet.specs.declared.packet.Packet.{Packet}
use Rattle.mqb_queue.specs.Places.{numbered, with_numbered}
use Rattle.mqb_session.specs.State as one_end
use Rattle.mqb_model.specs.calls.Call.{Hear, Pump, outcome_of}
use Rattle.mqb_history.specs.Changes.{Change, Calls, Drops, Ends, Fails, Finds, Hears, Links, Pumps, Restarts, calling, changed, hearing, may_change, pumping}
use Rattle.mqb_history.specs.Histories.{IsHistory}
use Rattle.mqb_history.specs.Histories as histories
use Rattle.mqb_history.specs.Laws.{HistoriesAreOrderly}
use Rattle.mqb_history.specs.Orderly.{AreThemselves, IsItself, IsLinkedRightly, IsOrderly}
use Rattle.mqb_history.proofs.Ending.{HasMade}
use Rattle.mqb_history.proofs.Applying.{recorded_manager}
use Rattle.mqb_history.proofs.Connections.{any_found}
use Rattle.mqb_history.proofs.Lists.{append_length, append_nothing, clash, not_true, set_length, split_and, true_not_false}
use Rattle.mqb_history.proofs.Ordering.{IsOrderlyNetwork, calling_orderly, course_of, ended_notes, ends, is_ending, network_of, some_themselves, with_at}
use Rattle.mqb_history.proofs.Staying.{IsSameManager, manager_then}
use Rattle.mqb_history.proofs.Beginning.{links_orderly}

-- A pump.

-- a manager that is not linked gives no packets out
unlinked_silent : (m : Manager) (now : ℕ) → is_some m.rest.session ≡ false → (outcome_of m (Pump now)).packets ≡ []
unlinked_silent m now h = at (pump_refusal m) m.rest.session h
  where
    at : (o : Option PumpFault) (session : Option one_end.State) → is_some session ≡ false
        → (unless m o (option_map_or (pump_linked m now) session (answering m (Err fault.NotLinked)))).packets ≡ []
    at (Some why) session e = refl
    at None None e = refl
    at None (Some s) e = absurd (clash e)

replicate_length : {X : Type 0} (n : ℕ) (x : X) → length (replicate n x) ≡ n
replicate_length zero x = refl
replicate_length (suc n) x = ap (λ k. suc k) (replicate_length n x)

-- there is a note for each packet of a manager that is connected
noted_length : (n : Network) (i now count : ℕ) (c : Connection) → connection_of n i ≡ Some c → length (noted i now count n).notes ≡ length n.notes + count
noted_length n i now count c e = ap (λ (o : Option Connection). length (option_map_or (λ c. record n { notes = n.notes ++ replicate count (note_by i now c) }) o n).notes) e
    ∙ append_length n.notes (replicate count (note_by i now c)) ∙ ap (λ k. length n.notes + k) (replicate_length count (note_by i now c))

-- nothing but notes changes
noted_orderly : (known : List Identity) (n : Network) (i now count : ℕ) → IsOrderlyNetwork known n → IsOrderlyNetwork known (noted i now count n)
noted_orderly known n i now count o = at (connection_of n i)
  where
    at : (c : Option Connection) → IsOrderlyNetwork known (option_map_or (λ c. record n { notes = n.notes ++ replicate count (note_by i now c) }) c n)
    at None = o
    at (Some c) = record { linked = o.linked; count = o.count; themselves = o.themselves; doubts = o.doubts; disjoint = o.disjoint; numbered = o.numbered }

-- packets of a manager, of which there are none where it is not connected
posted_orderly : (known : List Identity) (c : Course) (i now : ℕ) (packets : List Packet) → (is_connected c.network i ≡ false → packets ≡ [])
    → IsOrderly known c → IsOrderly known (posted i now packets c)
posted_orderly known c i now packets silent o = course_of known (posted i now packets c) (at (is_connected c.network i) refl) (noted_orderly known c.network i now (length packets) (network_of known c o))
  where
    none : (n : Network) → length (noted i now 0 n).notes ≡ length n.notes
    none n = by (connection_of n i)
      where
        by : (d : Option Connection) → length (option_map_or (λ c. record n { notes = n.notes ++ replicate 0 (note_by i now c) }) d n).notes ≡ length n.notes
        by None = refl
        by (Some d) = ap (λ (xs : List Note). length xs) (append_nothing n.notes)

    at : (b : Bool) → is_connected c.network i ≡ b → length (noted i now (length packets) c.network).notes ≡ length (c.sent ++ packets)
    at true e = let found = any_found (is_end i) c.network.connections e in
        noted_length c.network i now (length packets) found.0 found.1 ∙ ap (λ k. k + length packets) o.noted ∙ sym (append_length c.sent packets)
    at false e = ap (λ (xs : List Packet). length (noted i now (length xs) c.network).notes) (silent e) ∙ none c.network ∙ o.noted
        ∙ sym (ap (λ (xs : List Packet). length (c.sent ++ xs)) (silent e) ∙ ap (λ (xs : List Packet). length xs) (append_nothing c.sent))

pump_orderly : (known : List Identity) (i now : ℕ) (failure : Option Failure) (c : Course) → IsOrderly known c → IsOrderly known (pumping i now failure c)
pump_orderly known i now None c o = posted_orderly known (calling i (Pump now) None c) i now (outcome_of (manager_at c.network i) (Pump now)).packets
    (λ e. unlinked_silent (manager_at c.network i) now ((o.linked i).session ∙ e)) (calling_orderly known i (Pump now) None c o)
pump_orderly known i now (Some how) c o = posted_orderly known (calling i (Pump now) (Some how) c) i now [] (λ e. refl) (calling_orderly known i (Pump now) (Some how) c o)

hear_orderly : (known : List Identity) (note : Option Note) (p : Option Packet) (now : ℕ) (failure : Option Failure) (c : Course) → IsOrderly known c
    → IsOrderly known (hearing note p now failure c)
hear_orderly known None p now failure c o = o
hear_orderly known (Some note) None now failure c o = o
hear_orderly known (Some note) (Some p) now failure c o = calling_orderly known note.receiver (Hear now p) failure c o

-- Managers are started again.

started : (known : List Identity) (n : Network) (i : ℕ) (m : Manager) → is_connected n i ≡ false → is_some m.rest.session ≡ false
    → IsSameManager (manager_at n i).state m.state → HasMade m → IsOrderlyNetwork known n → IsOrderlyNetwork known (with_manager n i m)
started known n i m apart none same doubt o = record {
  linked = λ j. with_at (IsLinkedRightly (is_connected n j)) n i j m (o.linked j)
      (λ e. subst (λ k. IsLinkedRightly (is_connected n k) m) e (record { session = none ∙ sym apart; up = λ c. absurd (true_not_false (is_connected n i) c apart) }));
  count = set_length n.managers i m ∙ o.count;
  themselves = themselves;
  doubts = λ j. with_at HasMade n i j m (o.doubts j) (λ e. doubt);
  disjoint = o.disjoint;
  numbered = o.numbered;
}
  where
    themselves : AreThemselves known (with_manager n i m)
    themselves = some_themselves known n i m same o.themselves

restart_orderly : (known : List Identity) (i : ℕ) (kept : Bool) (c : Course) → is_connected c.network i ≡ false → IsOrderly known c
    → IsOrderlyNetwork known (with_manager c.network i (restarted (manager_at c.network i) kept))
restart_orderly known i true c apart o = started known c.network i (restarted (manager_at c.network i) true) apart refl
    (manager_then (manager_at c.network i).state (recorded (manager_at c.network i).state (doubt_of (manager_at c.network i).condition)) _
    (recorded_manager (manager_at c.network i).state (doubt_of (manager_at c.network i).condition) (o.doubts i)) (record { identity = refl; peers = refl }))
    tt (network_of known c o)
restart_orderly known i false c apart o = started known c.network i (restarted (manager_at c.network i) false) apart refl (record { identity = refl; peers = refl }) tt (network_of known c o)

-- Every change.

drop_length : (notes : List Note) (k : ℕ) → length (with_numbered notes k as_dropped) ≡ length notes
drop_length notes k = at (numbered notes k)
  where
    at : (o : Option Note) → length (option_map_or (λ x. slice_set notes (k - 1) (as_dropped x)) o notes) ≡ length notes
    at None = refl
    at (Some x) = set_length notes (k - 1) (as_dropped x)

same_network : (known : List Identity) (n m : Network) → m.managers ≡ n.managers → m.connections ≡ n.connections → m.connected ≡ n.connected
    → IsOrderlyNetwork known n → IsOrderlyNetwork known m
same_network known n m managers connections connected o = subst (λ x. IsOrderlyNetwork known (record m { managers = x })) (sym managers)
    (subst (λ x. IsOrderlyNetwork known (record m { managers = n.managers; connections = x })) (sym connections)
    (subst (λ x. IsOrderlyNetwork known (record m { managers = n.managers; connections = n.connections; connected = x })) (sym connected)
    (record { linked = o.linked; count = o.count; themselves = o.themselves; doubts = o.doubts; disjoint = o.disjoint; numbered = o.numbered })))

pub change_orderly : (known : List Identity) (c : Course) (x : Change) → AreApart known → may_change c x ≡ true → IsOrderly known c → IsOrderly known (changed x c)
change_orderly known c (Calls i call failure) apart may o = calling_orderly known i call failure c o
change_orderly known c (Pumps i now failure) apart may o = pump_orderly known i now failure c o
change_orderly known c (Hears k now failure) apart may o = hear_orderly known (numbered c.network.notes k) (numbered c.sent k) now failure c o
change_orderly known c (Links a b window_a window_b) apart may o = let parts = split_and (not (any_down c.network a b)) (not (any_connected c.network a b)) may in
    course_of known (changed (Links a b window_a window_b) c) o.noted
    (links_orderly known c.network a b window_a window_b apart (not_true (any_down c.network a b) parts.0) (not_true (any_connected c.network a b) parts.1) (network_of known c o))
change_orderly known c (Ends i) apart may o = course_of known (moved (ended i) c) (ap (λ (notes : List Note). length notes) (ended_notes c.network i) ∙ o.noted)
    (ends known i c.network (is_ending known i c.network (network_of known c o)))
change_orderly known c (Drops k) apart may o = course_of known (moved (dropped k) c) (drop_length c.network.notes k ∙ o.noted)
    (same_network known c.network (dropped k c.network) refl refl refl (network_of known c o))
change_orderly known c (Restarts i) apart may o = course_of known (changed (Restarts i) c) o.noted (restart_orderly known i false c (not_true (is_connected c.network i) may) o)
change_orderly known c (Finds i) apart may o = let parts = split_and (not (is_connected c.network i)) (is_some (doubt_of (manager_at c.network i).condition)) may in
    course_of known (found_kept i c) o.noted
    (same_network known (with_manager c.network i (restarted (manager_at c.network i) true)) (found_kept i c).network refl refl refl
    (restart_orderly known i true c (not_true (is_connected c.network i) parts.0) o))
change_orderly known c (Fails i) apart may o = course_of known (changed (Fails i) c) o.noted
    (started known c.network i (unread (manager_at c.network i)) (not_true (is_connected c.network i) may) refl (record { identity = refl; peers = refl }) (o.doubts i) (network_of known c o))

-- The start.

joined_peers : (s : State) (peers : List Identity) → (fold apply s (map (λ peer. entry.Peer peer) peers)).peers ≡ s.peers ++ peers
joined_peers s [] = sym (append_nothing s.peers)
joined_peers s (p ∷ ps) = joined_peers (apply s (entry.Peer p)) ps ∙ append_assoc s.peers (p ∷ []) ps

joined_identity : (s : State) (peers : List Identity) → (fold apply s (map (λ peer. entry.Peer peer) peers)).identity ≡ s.identity
joined_identity s [] = refl
joined_identity s (p ∷ ps) = joined_identity (apply s (entry.Peer p)) ps

pub formatted_itself : (known : List Identity) (own : Identity) → IsItself known own (formatted own (others known own)).state
formatted_itself known own = record { identity = joined_identity (empty own) (others known own); peers = joined_peers (empty own) (others known own) }

pub map_get : {X Y : Type 0} (f : X → Y) (xs : List X) (k : ℕ) → slice_get (map f xs) k ≡ option_map f (slice_get xs k)
map_get f [] k = refl
map_get f (x ∷ xs) zero = refl
map_get f (x ∷ xs) (suc k) = map_get f xs k

map_length : {X Y : Type 0} (f : X → Y) (xs : List X) → length (map f xs) ≡ length xs
map_length f [] = refl
map_length f (x ∷ xs) = ap (λ n. suc n) (map_length f xs)

pub begins_orderly : (known : List Identity) → IsOrderly known (beginning known)
begins_orderly known = record {
  noted = refl;
  linked = λ i. by_manager (λ m. IsLinkedRightly false m) i (record { session = refl; up = λ e. absurd (clash (sym e)) }) (λ own. record { session = refl; up = λ e. absurd (clash (sym e)) });
  count = map_length first known;
  themselves = λ i. itself i;
  doubts = λ i. by_manager HasMade i tt (λ own. tt);
  disjoint = tt;
  numbered = tt;
}
  where
    first : Identity → Manager
    first own = formatted own (others known own)

    by_manager : (Q : Manager → Type 0) (i : ℕ) → Q nobody → ((own : Identity) → Q (first own)) → Q (unwrap_or (slice_get (map first known) i) nobody)
    by_manager Q i none some = subst (λ o. Q (unwrap_or o nobody)) (sym (map_get first known i)) (at (slice_get known i))
      where
        at : (o : Option Identity) → Q (unwrap_or (option_map first o) nobody)
        at None = none
        at (Some own) = some own

    itself : (i : ℕ) → IfSome (slice_get known i) (λ own. IsItself known own (unwrap_or (slice_get (map first known) i) nobody).state)
    itself i = subst (λ o. IfSome (slice_get known i) (λ own. IsItself known own (unwrap_or o nobody).state)) (sym (map_get first known i)) (at (slice_get known i))
      where
        at : (o : Option Identity) → IfSome o (λ own. IsItself known own (unwrap_or (option_map first o) nobody).state)
        at None = tt
        at (Some own) = formatted_itself known own

pub histories_are_orderly : HistoriesAreOrderly
histories_are_orderly known [] apart h = begins_orderly known
histories_are_orderly known (x ∷ xs) apart h = change_orderly known (histories.course_of known xs) x apart h.0 (histories_are_orderly known xs apart h.1)
