-- Two managers between whom a connection stands, and what a flow from one to the other makes of them.
use Rattle.std.proofs.Common.{◌≡◌, ℕ, ◌+◌, ◌<◌, ◌==◌, ◌||◌, Bool, true, false, cond, ◌++◌, List, [], ◌∷◌, Option, Some, None, refl, sym, ap, subst, ◌∙◌}
use Rattle.std.specs.List.{enumerate_from, list_any}
use Rattle.std.specs.Option.{option_map_or}
use Rattle.std.specs.Prelude.{Err, Ok, Result, find, length, replicate, slice_get, unwrap_or}
use Rattle.std.proofs.lemmas.List.{append_assoc}
use Rattle.mqb_model.specs.calls.hear.Hear.{hear}
use Rattle.mqb_model.specs.calls.hear.Session.{HeardOutcome}
use Rattle.mqb_model.specs.calls.pump.Pump.{PumpOutcome, pump}
use Rattle.mqb_model.specs.declared.faults.PumpFault.{PumpFault}
use Rattle.mqb_model.specs.managers.Manager.{Manager}
use Rattle.mqb_model.specs.managers.Outcomes.{succeeded}
use Rattle.mqb_model.specs.records.Record.{Record}
use Rattle.mqb_network.specs.Changes.{note_by, noted}
use Rattle.mqb_network.specs.Choices.{Well}
use Rattle.mqb_network.specs.Courses.{Course, Written, called, posted, written_by}
use Rattle.mqb_network.specs.Delivering.{closes, passed, unheard}
use Rattle.mqb_network.specs.Network.{Connection, Network, Note, connection_of, is_end, is_underway, manager_at, nobody, other_end, with_manager}
use Rattle.mqb_network.specs.Sending.{all_passed, flow, flow_by}
use Rattle.mqb_packet.specs.declared.packet.Packet.{Packet}
use Rattle.mqb_queue.specs.Places.{numbered}
use Rattle.mqb_law_meetings.proofs.Lists.{last_numbered, same_number, set_apart, set_length, set_there}

-- Managers of a network, of which one is another one now.

pub elsewhere : (n : Network) (i j : ℕ) (m : Manager) → (i ≡ j → ⊥) → manager_at (with_manager n i m) j ≡ manager_at n j
elsewhere n i j m apart = ap (λ (o : Option Manager). unwrap_or o nobody) (set_apart n.managers i j m apart)

pub there_at : (n : Network) (i : ℕ) (m : Manager) → i < length n.managers → manager_at (with_manager n i m) i ≡ m
there_at n i m inside = ap (λ (o : Option Manager). unwrap_or o nobody) (set_there n.managers i m inside)

pub noted_same : (i now count : ℕ) (n : Network) → (noted i now count n).managers ≡ n.managers
noted_same i now count n = at (connection_of n i)
  where
    at : (o : Option Connection) → (option_map_or (λ d. record n { notes = n.notes ++ replicate count (note_by i now d) }) o n).managers ≡ n.managers
    at None = refl
    at (Some d) = refl

noted_connections : (i now count : ℕ) (n : Network) → (noted i now count n).connections ≡ n.connections
noted_connections i now count n = at (connection_of n i)
  where
    at : (o : Option Connection) → (option_map_or (λ d. record n { notes = n.notes ++ replicate count (note_by i now d) }) o n).connections ≡ n.connections
    at None = refl
    at (Some d) = refl

-- The connection of a manager stands.

stands_in : (i : ℕ) (ds : List Connection) (d : Connection) → find (is_end i) ds ≡ Some d → list_any (λ c. c.number == d.number) ds ≡ true
stands_in i [] d e = absurd (let none : ⊥ = cc in none)
stands_in i (c ∷ cs) d e = at (is_end i c) refl e (stands_in i cs d)
  where
    at : (b : Bool) → is_end i c ≡ b → cond b (Some c) (find (is_end i) cs) ≡ Some d → (find (is_end i) cs ≡ Some d → list_any (λ x. x.number == d.number) cs ≡ true)
        → (c.number == d.number || list_any (λ x. x.number == d.number) cs) ≡ true
    at true is e rest = let same : c ≡ d = cc in subst (λ (x : Connection). (c.number == x.number || list_any (λ y. y.number == x.number) cs) ≡ true) same
        (rw (same_number c.number) refl)
    at false is e rest = either (c.number == d.number) (rest e)
      where
        either : (b : Bool) → list_any (λ x. x.number == d.number) cs ≡ true → (b || list_any (λ x. x.number == d.number) cs) ≡ true
        either true h = refl
        either false h = h

-- these two are the ends of this connection
pub record Stands (n : Network) (i j : ℕ) (d : Connection) (mi mj : Manager) : Type 0 where
  pub apart : i ≡ j → ⊥
  pub at_i : manager_at n i ≡ mi
  pub at_j : manager_at n j ≡ mj
  pub in_i : i < length n.managers
  pub in_j : j < length n.managers
  pub of_i : connection_of n i ≡ Some d
  pub of_j : connection_of n j ≡ Some d
  pub other_i : other_end i d ≡ j
  pub other_j : other_end j d ≡ i

pub turned : (n : Network) (i j : ℕ) (d : Connection) (mi mj : Manager) → Stands n i j d mi mj → Stands n j i d mj mi
turned n i j d mi mj h = record {
  apart = λ e. h.apart (sym e);
  at_i = h.at_j;
  at_j = h.at_i;
  in_i = h.in_j;
  in_j = h.in_i;
  of_i = h.of_j;
  of_j = h.of_i;
  other_i = h.other_j;
  other_j = h.other_i;
}

-- What else there is stays, but for what two managers send and write.
pub record Keeps (c z : Course) (i j : ℕ) (packets : List Packet) (records : List Written) : Type 0 where
  pub others : (x : ℕ) → (i ≡ x → ⊥) → (j ≡ x → ⊥) → manager_at z.network x ≡ manager_at c.network x
  pub count : length z.network.managers ≡ length c.network.managers
  pub connections : z.network.connections ≡ c.network.connections
  pub sent : z.sent ≡ c.sent ++ packets
  pub written : z.written ≡ c.written ++ records

-- a flow of a packet
module _ (c : Course) (i j now : ℕ) (d : Connection) (mi mj : Manager) (h : Stands c.network i j d mi mj) where
  abbrev o : PumpOutcome
  o = pump mi now

  -- what the pump leaves, with these packets on their way
  abbrev pumped : List Packet → Course
  pumped ps = posted i now ps (called i o Well c)

  flow_is : (count : ℕ) → o.answer ≡ Ok count
      → (flow i now Well c).after ≡ (all_passed now Well (pumped o.packets) (enumerate_from (length c.network.notes + 1) o.packets)).after
  flow_is count e = subst (λ (m : Manager). (flow_by i now (pump m now) Well c (pump m now).answer).after
      ≡ (all_passed now Well (pumped o.packets) (enumerate_from (length c.network.notes + 1) o.packets)).after) (sym h.at_i) (by o.answer e)
    where
      by : (r : Result ℕ PumpFault) → r ≡ Ok count
          → (flow_by i now o Well c r).after ≡ (all_passed now Well (pumped o.packets) (enumerate_from (length c.network.notes + 1) o.packets)).after
      by (Ok n) e = refl
      by (Err fault) e = absurd (let none : ⊥ = cc in none)

  -- nothing goes
  pub flow_none : (count : ℕ) → o.answer ≡ Ok count → o.packets ≡ [] → (flow i now Well c).after ≡ pumped []
  flow_none count answers none = flow_is count answers
      ∙ ap (λ ps. (all_passed now Well (pumped ps) (enumerate_from (length c.network.notes + 1) ps)).after) none

  -- which changes nothing, where the pump does not
  pub stands_none : succeeded mi o ≡ mi → Stands (pumped []).network i j d mi mj
  stands_none same = record {
    apart = h.apart;
    at_i = ap (λ (ms : List Manager). unwrap_or (slice_get ms i) nobody) (noted_same i now 0 (called i o Well c).network)
        ∙ there_at c.network i (succeeded (manager_at c.network i) o) h.in_i ∙ ap (λ m. succeeded m o) h.at_i ∙ same;
    at_j = ap (λ (ms : List Manager). unwrap_or (slice_get ms j) nobody) (noted_same i now 0 (called i o Well c).network)
        ∙ elsewhere c.network i j (succeeded (manager_at c.network i) o) h.apart ∙ h.at_j;
    in_i = subst (λ k. i < k) (sym none_count) h.in_i;
    in_j = subst (λ k. j < k) (sym none_count) h.in_j;
    of_i = ap (find (is_end i)) (noted_connections i now 0 (called i o Well c).network) ∙ h.of_i;
    of_j = ap (find (is_end j)) (noted_connections i now 0 (called i o Well c).network) ∙ h.of_j;
    other_i = h.other_i;
    other_j = h.other_j;
  }
    where
      none_count : length (pumped []).network.managers ≡ length c.network.managers
      none_count = ap (λ (ms : List Manager). length ms) (noted_same i now 0 (called i o Well c).network)
          ∙ set_length c.network.managers i (succeeded (manager_at c.network i) o)

  pub keeps_none : o.entry ≡ None → Keeps c (pumped []) i j [] []
  keeps_none none = record {
    others = λ x not_i not_j. ap (λ (ms : List Manager). unwrap_or (slice_get ms x) nobody) (noted_same i now 0 (called i o Well c).network)
        ∙ elsewhere c.network i x (succeeded (manager_at c.network i) o) not_i;
    count = ap (λ (ms : List Manager). length ms) (noted_same i now 0 (called i o Well c).network)
        ∙ set_length c.network.managers i (succeeded (manager_at c.network i) o);
    connections = noted_connections i now 0 (called i o Well c).network;
    sent = refl;
    written = ap (λ (r : Option Record). c.written ++ written_by i (manager_at c.network i) r) none;
  }

  -- one packet goes, and is heard
  module _ (p : Packet) where
    abbrev heard : HeardOutcome
    heard = hear mj p now

    abbrev pub behind : Course
    behind = called j heard Well (pumped (p ∷ []))

    abbrev note : Note
    note = note_by i now d

    underway : is_underway (pumped (p ∷ [])).network note ≡ true
    underway = rw h.of_i (stands_in i c.network.connections d h.of_i)

    noted_there : numbered (pumped (p ∷ [])).network.notes (length c.network.notes + 1) ≡ Some note
    noted_there = rw h.of_i (last_numbered c.network.notes note)

    still : manager_at (pumped (p ∷ [])).network j ≡ mj
    still = ap (λ (ms : List Manager). unwrap_or (slice_get ms j) nobody) (noted_same i now 1 (called i o Well c).network)
        ∙ elsewhere c.network i j (succeeded (manager_at c.network i) o) h.apart ∙ h.at_j

    passes : closes heard.answer ≡ false → (passed note p now Well (pumped (p ∷ []))).after ≡ behind
    passes stands = rw (underway, h.other_i, still, stands) refl

    pub flow_one : (count : ℕ) → o.answer ≡ Ok count → o.packets ≡ p ∷ [] → closes heard.answer ≡ false → (flow i now Well c).after ≡ behind
    flow_one count answers one stands = flow_is count answers
        ∙ ap (λ ps. (all_passed now Well (pumped ps) (enumerate_from (length c.network.notes + 1) ps)).after) one
        ∙ ap (λ x. (option_map_or (λ y. passed y p now Well (pumped (p ∷ []))) x (unheard Well (pumped (p ∷ [])))).after) noted_there
        ∙ passes stands

    sent_i : manager_at (pumped (p ∷ [])).network i ≡ succeeded mi o
    sent_i = ap (λ (ms : List Manager). unwrap_or (slice_get ms i) nobody) (noted_same i now 1 (called i o Well c).network)
        ∙ there_at c.network i (succeeded (manager_at c.network i) o) h.in_i ∙ ap (λ m. succeeded m o) h.at_i

    count_is : length (pumped (p ∷ [])).network.managers ≡ length c.network.managers
    count_is = ap (λ (ms : List Manager). length ms) (noted_same i now 1 (called i o Well c).network)
        ∙ set_length c.network.managers i (succeeded (manager_at c.network i) o)

    connections_are : behind.network.connections ≡ c.network.connections
    connections_are = noted_connections i now 1 (called i o Well c).network

    pub stands_behind : Stands behind.network i j d (succeeded mi o) (succeeded mj heard)
    stands_behind = record {
      apart = h.apart;
      at_i = elsewhere (pumped (p ∷ [])).network j i (succeeded (manager_at (pumped (p ∷ [])).network j) heard) (λ e. h.apart (sym e)) ∙ sent_i;
      at_j = there_at (pumped (p ∷ [])).network j (succeeded (manager_at (pumped (p ∷ [])).network j) heard) (subst (λ k. j < k) (sym count_is) h.in_j)
          ∙ ap (λ m. succeeded m heard) still;
      in_i = subst (λ k. i < k) (sym (set_length (pumped (p ∷ [])).network.managers j (succeeded (manager_at (pumped (p ∷ [])).network j) heard) ∙ count_is)) h.in_i;
      in_j = subst (λ k. j < k) (sym (set_length (pumped (p ∷ [])).network.managers j (succeeded (manager_at (pumped (p ∷ [])).network j) heard) ∙ count_is)) h.in_j;
      of_i = ap (find (is_end i)) connections_are ∙ h.of_i;
      of_j = ap (find (is_end j)) connections_are ∙ h.of_j;
      other_i = h.other_i;
      other_j = h.other_j;
    }

    pub keeps_behind : Keeps c behind i j (p ∷ []) (written_by i mi o.entry ++ written_by j mj heard.entry)
    keeps_behind = record {
      others = λ x not_i not_j. elsewhere (pumped (p ∷ [])).network j x (succeeded (manager_at (pumped (p ∷ [])).network j) heard) not_j
          ∙ ap (λ (ms : List Manager). unwrap_or (slice_get ms x) nobody) (noted_same i now 1 (called i o Well c).network)
          ∙ elsewhere c.network i x (succeeded (manager_at c.network i) o) not_i;
      count = set_length (pumped (p ∷ [])).network.managers j (succeeded (manager_at (pumped (p ∷ [])).network j) heard) ∙ count_is;
      connections = connections_are;
      sent = refl;
      written = ap (λ m. (c.written ++ written_by i m o.entry) ++ written_by j (manager_at (pumped (p ∷ [])).network j) heard.entry) h.at_i
          ∙ ap (λ m. (c.written ++ written_by i mi o.entry) ++ written_by j m heard.entry) still
          ∙ append_assoc c.written (written_by i mi o.entry) (written_by j mj heard.entry);
    }
