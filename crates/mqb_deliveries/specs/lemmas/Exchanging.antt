-- What one end of a session owes is sent, and heard by the other end, and none of it is recorded.
use Rattle.std.proofs.Common.{◌≡◌, ◌==◌, ℕ, ◌+◌, Bool, true, false, cond, List, [], ◌∷◌, ◌++◌}
use Rattle.std.proofs.Common.{Option, Some, None, Err, length, refl, sym, ap, ◌∙◌, arith}
use Rattle.std.proofs.lemmas.Bool.Decides.{nat_tests}
use Rattle.std.proofs.lemmas.List.{append-nil}
use Rattle.std.specs.Option.{option_map_or}
use Rattle.std.specs.Prelude.{◌||◌, if◌then◌else◌, slice_get}
use Rattle.mqb_base.specs.declared.heard.Heard.{Heard}
use Rattle.mqb_base.specs.declared.heard.Heard.TheVariants.{SetUp}
use Rattle.mqb_base.specs.declared.ledger.Line.{Line}
use Rattle.mqb_model.specs.calls.hear.Hear.{hear, hear_linked}
use Rattle.mqb_model.specs.calls.hear.Session.{HeardOutcome, by_session}
use Rattle.mqb_model.specs.calls.pump.Pump.{PumpOutcome, pump, pump_linked, pump_owed}
use Rattle.mqb_model.specs.calls.pump.Pump.{sending_one, set_up_packet}
use Rattle.mqb_model.specs.declared.faults.HearFault.TheVariants as hear_fault
use Rattle.mqb_model.specs.declared.faults.PumpFault.TheVariants as pump_fault
use Rattle.mqb_model.specs.managers.Manager.{Manager, is_down}
use Rattle.mqb_model.specs.managers.Outcomes.{Outcome, answering, lines_after, succeeded, unless}
use Rattle.mqb_model.specs.state.State.{State}
use Rattle.mqb_network.specs.Changes.{noted, succeeded_at}
use Rattle.mqb_network.specs.Choices.{Well}
use Rattle.mqb_network.specs.Courses.{Course, Written}
use Rattle.mqb_network.specs.Delivering.{Delivered, heard_by, passed, unheard}
use Rattle.mqb_network.specs.Network.{Network, Note, manager_at}
use Rattle.mqb_network.specs.Replies as network
use Rattle.mqb_network.specs.Sending.{all_passed, flow, flow_with, flowed, pump_by, with_arrival}
use Rattle.mqb_packet.specs.declared.packet.Packet.{Packet}
use Rattle.mqb_queue.specs.Places.{numbered}
use Rattle.mqb_script.specs.Managers.{other}
use Rattle.mqb_script.specs.declared.managers.Which.{Which}
use Rattle.mqb_script.specs.declared.managers.Which.TheVariants.{Alpha, Beta}
use Rattle.mqb_session.specs.Hearing.{after_owed}
use Rattle.mqb_session.specs.Phases.{owed_by}
use Rattle.mqb_session.specs.State as one_end
use Rattle.mqb_setup.specs.declared.internal.Internal.{Internal}
use Rattle.mqb_traffic.specs.Networks as traffic
use Rattle.mqb_traffic.specs.Networks.{index_of}
use Rattle.mqb_traffic.specs.declared.notes.Link.{Link}
use Rattle.mqb_turns.specs.Passes.{course_in}

-- Two managers in a connection.

abbrev pub pair_of : Which → Manager → Manager → List Manager
pair_of Alpha m o = m ∷ o ∷ []
pair_of Beta m o = o ∷ m ∷ []

-- this one, the other one, and what is between them
abbrev pub network_as : Which → Manager → Manager → Link → ℕ → List Note → List Line → Network
network_as which m o l k notes ledger = record {
  managers = pair_of which m o;
  connections = traffic.connection_of l ∷ [];
  connected = k;
  notes = notes;
  ledger = ledger;
}

-- the note of a packet to the other one
abbrev pub note_to : Which → ℕ → Link → Note
note_to which now l = record {
  sender = index_of which;
  receiver = index_of (other which);
  connection = l.number;
  moment = now;
  dropped = false;
}

pub turned :
    (which : Which) (m o : Manager) (l : Link) (k : ℕ) (notes : List Note) (ledger : List Line)
    → network_as (other which) o m l k notes ledger ≡ network_as which m o l k notes ledger
turned Alpha m o l k notes ledger = refl
turned Beta m o l k notes ledger = refl

own_at : (which : Which) (m o : Manager) (l : Link) (k : ℕ) (notes : List Note) (ledger : List Line)
    → manager_at (network_as which m o l k notes ledger) (index_of which) ≡ m
own_at Alpha m o l k notes ledger = refl
own_at Beta m o l k notes ledger = refl

other_at :
    (which : Which) (m o : Manager) (l : Link) (k : ℕ) (notes : List Note) (ledger : List Line)
    → manager_at (network_as which m o l k notes ledger) (index_of (other which)) ≡ o
other_at Alpha m o l k notes ledger = refl
other_at Beta m o l k notes ledger = refl

-- a call without a record
own_succeeds : {A : Type 0} (which : Which) (m o : Manager) (l : Link) (k : ℕ) (notes : List Note)
    (ledger : List Line) (q : Outcome A) → lines_after m q ≡ []
    → succeeded_at (index_of which) q (network_as which m o l k notes ledger)
    ≡ network_as which (succeeded m q) o l k notes ledger
own_succeeds {A} which m o l k notes ledger q none = at which
    ∙ ap (λ (ls : List Line). network_as which (succeeded m q) o l k notes (ledger ++ ls)) none
    ∙ ap (network_as which (succeeded m q) o l k notes) (append-nil ledger)
  where
    at : (w : Which) → succeeded_at (index_of w) q (network_as w m o l k notes ledger)
        ≡ network_as w (succeeded m q) o l k notes (ledger ++ lines_after m q)
    at Alpha = refl
    at Beta = refl

other_succeeds : {A : Type 0} (which : Which) (m o : Manager) (l : Link) (k : ℕ) (notes : List Note)
    (ledger : List Line) (q : Outcome A) → lines_after o q ≡ []
    → succeeded_at (index_of (other which)) q (network_as which m o l k notes ledger)
    ≡ network_as which m (succeeded o q) l k notes ledger
other_succeeds which m o l k notes ledger q none =
    ap (succeeded_at (index_of (other which)) q) (sym (turned which m o l k notes ledger))
    ∙ own_succeeds (other which) o m l k notes ledger q none
    ∙ turned which m (succeeded o q) l k notes ledger

-- one packet is noted
noted_one : (which : Which) (m o : Manager) (number : ℕ) (initiator : Which) (k now : ℕ)
    (notes : List Note) (ledger : List Line)
    → let l : Link = record { number = number; initiator = initiator } in
    noted (index_of which) now 1 (network_as which m o l k notes ledger)
    ≡ network_as which m o l k (notes ++ note_to which now l ∷ []) ledger
noted_one Alpha m o number Alpha k now notes ledger = refl
noted_one Alpha m o number Beta k now notes ledger = refl
noted_one Beta m o number Alpha k now notes ledger = refl
noted_one Beta m o number Beta k now notes ledger = refl

-- the last one is at the number behind those before
last_numbered : {X : Type 0} (xs : List X) (x : X)
    → numbered (xs ++ x ∷ []) (length xs + 1) ≡ Some x
last_numbered xs x = let some : (length xs + 1 == 0) ≡ false = grind (arith, nat_tests) in
    rw some (ap (slice_get (xs ++ x ∷ [])) (omega arith) ∙ at xs)
  where
    at : (ys : List _) → slice_get (ys ++ x ∷ []) (length ys) ≡ Some x
    at [] = refl
    at (y ∷ ys) = at ys

same_number : (a : ℕ) → (a == a) ≡ true
same_number a = grind (arith, nat_tests)

-- One end of a session.

-- a manager that is up has this state, and is this end of a session
pub record IsAt (m : Manager) (s : State) (x : one_end.State) : Type 0 where
  pub up : is_down m ≡ false
  pub state : m.state ≡ s
  pub session : m.rest.session ≡ Some x

-- it sends what it owes
abbrev sends_owed : Manager → ℕ → one_end.State → Internal → PumpOutcome
sends_owed m now x owed = sending_one m (set_up_packet owed) (after_owed now x)

pump_owes : (m : Manager) (s : State) (x : one_end.State) (now : ℕ) (owed : Internal) → IsAt m s x
    → owed_by x.phase now x ≡ Some owed → pump m now ≡ sends_owed m now x owed
pump_owes m s x now owed at is =
    ap (λ (b : Bool). unless m (if b then Some pump_fault.Down else None)
    (option_map_or (pump_linked m now) m.rest.session (answering m (Err pump_fault.NotLinked))))
    at.up
    ∙ ap (λ (o : Option one_end.State).
    option_map_or (pump_linked m now) o (answering m (Err pump_fault.NotLinked))) at.session
    ∙ ap (pump_owed m now x) is

owed_left : (m : Manager) (s : State) (x : one_end.State) (now : ℕ) (owed : Internal) → IsAt m s x
    → IsAt (succeeded m (sends_owed m now x owed)) s (after_owed now x)
owed_left m s x now owed at = record { up = at.up; state = at.state; session = refl }

-- and hears a packet that is no user's
pub hears_so : (m : Manager) (s : State) (x : one_end.State) (p : Packet) (now : ℕ) → IsAt m s x
    → hear m p now ≡ hear_linked m now p x
hears_so m s x p now at =
    ap (λ (b : Bool). unless m (if b then Some hear_fault.Down else None) (option_map_or
    (hear_linked m now p) m.rest.session (answering m (Err hear_fault.NotLinked)))) at.up
    ∙ ap (λ (o : Option one_end.State).
    option_map_or (hear_linked m now p) o (answering m (Err hear_fault.NotLinked))) at.session

heard_left : (m : Manager) (s : State) (x y : one_end.State) (heard : Heard) → IsAt m s x
    → IsAt (succeeded m (by_session m y heard)) s y
heard_left m s x y heard at = record { up = at.up; state = at.state; session = refl }

-- What it owes is sent, and heard by the other end.
pub record Exchanges (which : Which) (m o : Manager) (l : Link) (k now : ℕ) (notes : List Note)
    (ledger : List Line) (s t : State) (x y : one_end.State) (p : Packet) : Type 0 where
  pub own : Manager
  pub far : Manager
  pub own_at : IsAt own s x
  pub far_at : IsAt far t y
  pub flows : (sent : List Packet) (written : List Written) → flow (index_of which) now Well
      (course_in (network_as which m o l k notes ledger) sent written)
      ≡ record {
        reply = network.Flowed
            (record { packet = length notes + 1; delivery = network.Heard SetUp [] } ∷ []);
        after = course_in (network_as which own far l k (notes ++ note_to which now l ∷ []) ledger)
            (sent ++ p ∷ []) written;
      }

module _ (which : Which) (m o : Manager) (l : Link) (k now : ℕ) (notes : List Note)
    (ledger : List Line) (s t : State) (x y z : one_end.State) (owed : Internal)
    (m_at : IsAt m s x) (o_at : IsAt o t y) (owes : owed_by x.phase now x ≡ Some owed)
    (heard : hear o (set_up_packet owed) now ≡ by_session o z SetUp) where
  abbrev p : Packet
  p = set_up_packet owed

  abbrev i : ℕ
  i = index_of which

  abbrev j : ℕ
  j = index_of (other which)

  abbrev q : PumpOutcome
  q = sends_owed m now x owed

  abbrev h : HeardOutcome
  h = by_session o z SetUp

  abbrev own_now : Manager
  own_now = succeeded m q

  abbrev far_now : Manager
  far_now = succeeded o h

  abbrev before : Network
  before = network_as which m o l k notes ledger

  abbrev note : Note
  note = note_to which now l

  abbrev behind : Network
  behind = network_as which own_now o l k (notes ++ note ∷ []) ledger

  module _ (sent : List Packet) (written : List Written) where
    abbrev c : Course
    c = course_in before sent written

    abbrev d : Course
    d = course_in behind (sent ++ p ∷ []) written

    -- the packet is sent
    pump_is : flow i now Well c ≡ flow_with i now q Well c
    pump_is = ap (λ (r : Manager). flow_with i now (pump r now) Well c)
        (own_at which m o l k notes ledger)
        ∙ ap (λ (r : PumpOutcome). flow_with i now r Well c) (pump_owes m s x now owed m_at owes)

    pumped_is : (pump_by i now q Well c).after ≡ d
    pumped_is = ap (λ (n : Network). course_in (noted i now 1 n) (sent ++ p ∷ []) (written ++ []))
        (own_succeeds which m o l k notes ledger q refl)
        ∙ ap (λ (n : Network). course_in n (sent ++ p ∷ []) (written ++ []))
        (noted_one which own_now o l.number l.initiator k now notes ledger)
        ∙ ap (λ (ws : List Written). course_in behind (sent ++ p ∷ []) ws) (append-nil written)

    -- and heard
    abbrev heard_so : Delivered
    heard_so = record {
      delivery = network.Heard SetUp [];
      after = course_in (network_as which own_now far_now l k (notes ++ note ∷ []) ledger)
          (sent ++ p ∷ []) written;
      left = Well;
    }

    passed_is : passed note p now Well d ≡ heard_so
    passed_is = let same : (l.number == l.number) ≡ true = same_number l.number in
        ap (λ (b : Bool). cond (b || false) (heard_by j (hear (manager_at behind j) p now) Well d)
        (unheard Well d)) same
        ∙ ap (λ (r : Manager). heard_by j (hear r p now) Well d)
        (other_at which own_now o l k (notes ++ note ∷ []) ledger)
        ∙ ap (λ (r : HeardOutcome). heard_by j r Well d) heard
        ∙ ap (λ (n : Network). record {
          delivery = network.Heard SetUp [];
          after = course_in n (sent ++ p ∷ []) (written ++ []);
          left = Well;
        })
        (other_succeeds which own_now o l k (notes ++ note ∷ []) ledger h refl)
        ∙ ap (λ (ws : List Written). record {
          delivery = network.Heard SetUp [];
          after = course_in heard_so.after.network (sent ++ p ∷ []) ws;
          left = Well;
        }) (append-nil written)

    number : ℕ
    number = length notes + 1

    flows_so : flow i now Well c ≡ record {
      reply = network.Flowed
          (record { packet = length notes + 1; delivery = network.Heard SetUp [] } ∷ []);
      after = heard_so.after;
    }
    flows_so = pump_is
        ∙ ap (λ (e : Course). flowed (all_passed now Well e ((length notes + 1, p) ∷ []))) pumped_is
        ∙ ap (λ (o : Option Note). flowed (with_arrival (length notes + 1) []
        (option_map_or (λ note. passed note p now Well d) o (unheard Well d))))
        (last_numbered notes note)
        ∙ ap (λ (g : Delivered). flowed (with_arrival (length notes + 1) [] g)) passed_is

  pub exchanges :
      Exchanges which m o l k now notes ledger s t (after_owed now x) z (set_up_packet owed)
  exchanges = record {
    own = own_now;
    far = far_now;
    own_at = owed_left m s x now owed m_at;
    far_at = heard_left o t y z SetUp o_at;
    flows = flows_so;
  }
