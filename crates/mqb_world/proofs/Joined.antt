-- How two managers are linked, and how flows follow one another while they set a session up.
use Rattle.std.proofs.Common.{◌≡◌, ℕ, ◌+◌, Bool, true, false, List, [], ◌∷◌, ◌++◌, Option, None, Some, Result, Ok, Err, length, refl, sym, ap, subst, ◌∙◌}
use Rattle.std.proofs.lemmas.List.{append-nil, length-map, map-append}
use Rattle.std.specs.Prelude.{◌||◌, IfOk, OnOk, is_some, map}
use Rattle.mqb_base.specs.declared.ledger.Line.{Line}
use Rattle.mqb_deliveries.specs.lemmas.Coming.{flow_comes, flow_none, flow_tells_none, flow_told, quiet_parts, short_before}
use Rattle.mqb_deliveries.specs.lemmas.Connected.{connect_short, connect_step, four_numbers}
use Rattle.mqb_deliveries.specs.Courses.{ComesTo, IsJoined}
use Rattle.mqb_deliveries.specs.Failing.{FailsAs, failures_in}
use Rattle.mqb_deliveries.specs.Peers.{KnowEachOther}
use Rattle.mqb_deliveries.specs.lemmas.SettingUp.{IsSetUp, asks_first, sets_up}
use Rattle.mqb_deliveries.specs.Steps.{FallsShort, IsShort, IsStep}
use Rattle.mqb_model.specs.calls.Link.{link, link_refusal, linking}
use Rattle.mqb_model.specs.declared.answers.Role.{Role}
use Rattle.mqb_model.specs.declared.answers.Role.TheVariants as role
use Rattle.mqb_model.specs.declared.faults.LinkFault.{LinkFault}
use Rattle.mqb_model.specs.managers.Manager.{Manager, is_down}
use Rattle.mqb_model.specs.managers.Outcomes.{lines_after, succeeded, unless}
use Rattle.mqb_moves.specs.Holding.{StaysStored}
use Rattle.mqb_moves.specs.Seats.{SeatState, seated}
use Rattle.mqb_network.specs.Changes.{begun}
use Rattle.mqb_network.specs.Choices.{Failure, Well}
use Rattle.mqb_network.specs.Connecting.{any_connected, any_down, asking, both_linked, exchanged, set_up}
use Rattle.mqb_network.specs.Courses.{Course, course_from}
use Rattle.mqb_network.specs.Events.{Connect, Flow}
use Rattle.mqb_network.specs.Network.{Network, Note}
use Rattle.mqb_network.specs.Sending.{flow, numbers_behind}
use Rattle.mqb_packet.specs.Plain.{plain_spelling}
use Rattle.mqb_packet.specs.declared.packet.Packet.{Packet}
use Rattle.mqb_posts.specs.Packets.{ArePackets, AreWritable}
use Rattle.mqb_posts.specs.declared.faults.PostFault.{PostFault}
use Rattle.mqb_posts.specs.declared.faults.PostFault.TheVariants as post
use Rattle.mqb_script.specs.Managers.{other}
use Rattle.mqb_script.specs.declared.managers.Which.{Which}
use Rattle.mqb_script.specs.declared.managers.Which.TheVariants.{Alpha, Beta}
use Rattle.mqb_traffic.specs.Networks.{connections_of, index_of, network_with, note_of, notes_of}
use Rattle.mqb_traffic.specs.States.{TrafficState}
use Rattle.mqb_traffic.specs.declared.notes.Link.{Link}
use Rattle.mqb_transcript.specs.declared.replies.Reply.{Reply}
use Rattle.mqb_transcript.specs.declared.replies.Reply.TheVariants as reply
use Rattle.mqb_turns.specs.Counts.{counts_with}
use Rattle.mqb_turns.specs.Sides.{network_at, side}
use Rattle.mqb_turns.specs.lemmas.Counting.{both_stored, counts_from}
use Rattle.mqb_world.specs.Sides.{AreUnlinked, network_in}
use Rattle.mqb_world.specs.Worlds.{WorldState, network_of}

-- Both are linked.

link_lines : (k m : Manager) (end : Role) (window : ℕ) → lines_after k (link m end window) ≡ []
link_lines k m end window = at (link_refusal m end window)
  where
    at : (o : Option LinkFault) → lines_after k (unless m o (linking m end window)) ≡ []
    at None = refl
    at (Some why) = refl

-- this one, the other one, and the traffic with this ledger
abbrev network_so : Which → Manager → Manager → TrafficState → List Line → Network
network_so Alpha m o t ls = network_with m o (record t { ledger = ls })
network_so Beta m o t ls = network_with o m (record t { ledger = ls })

-- a connection begins between them
abbrev begun_so : Which → Manager → Manager → TrafficState → List Line → Network
begun_so which m o t ls = begun (index_of which) (index_of (other which)) (network_so which m o t ls)

begins_so : (which : Which) (s b : SeatState) (t u : TrafficState)
    → ((alpha beta : Manager) → network_with alpha beta u ≡ begun (index_of which) (index_of (other which)) (network_with alpha beta t))
    → network_at which (side s b u) ≡ begun_so which (seated s) (seated b) t t.ledger
begins_so Alpha s b t u says = says (seated s) (seated b)
begins_so Beta s b t u says = says (seated b) (seated s)

pub pair_linked : (which : Which) (s b s1 b1 : SeatState) (t u : TrafficState) (wa wb : ℕ) → (seated s).state.peers ≡ (seated b).state.identity ∷ []
    → seated s1 ≡ succeeded (seated s) (link (seated s) (role.Initiator 0) wa) → seated b1 ≡ succeeded (seated b) (link (seated b) role.Acceptor wb)
    → ((alpha beta : Manager) → network_with alpha beta u ≡ begun (index_of which) (index_of (other which)) (network_with alpha beta t))
    → network_at which (side s1 b1 u) ≡ both_linked (index_of which) (index_of (other which)) wa wb (network_at which (side s b t))
pair_linked which s b s1 b1 t u wa wb peers own far says = begins_so which s1 b1 t u says
    ∙ ap (λ (m : Manager). begun_so which m (seated b1) t t.ledger) own
    ∙ ap (λ (o : Manager). begun_so which (succeeded (seated s) (link (seated s) (role.Initiator 0) wa)) o t t.ledger) far
    ∙ ap (λ (end : Role). begun_so which (succeeded (seated s) (link (seated s) end wa)) accepted t t.ledger) (sym (asks_first (seated s).state (seated b).state.identity peers))
    ∙ ap (begun_so which asked accepted t) (sym lines) ∙ at which
  where
    asked : Manager
    asked = succeeded (seated s) (link (seated s) (asking (seated s).state (seated b).state.identity.guid) wa)

    accepted : Manager
    accepted = succeeded (seated b) (link (seated b) role.Acceptor wb)

    own_lines : List Line
    own_lines = lines_after (seated s) (link (seated s) (asking (seated s).state (seated b).state.identity.guid) wa)

    far_lines : List Line
    far_lines = lines_after (seated b) (link (seated b) role.Acceptor wb)

    lines : (t.ledger ++ own_lines) ++ far_lines ≡ t.ledger
    lines = ap (λ (ls : List Line). (t.ledger ++ own_lines) ++ ls) (link_lines (seated b) (seated b) role.Acceptor wb) ∙ append-nil (t.ledger ++ own_lines)
        ∙ ap (λ (ls : List Line). t.ledger ++ ls) (link_lines (seated s) (seated s) (asking (seated s).state (seated b).state.identity.guid) wa) ∙ append-nil t.ledger

    at : (w : Which) → begun_so w asked accepted t ((t.ledger ++ own_lines) ++ far_lines) ≡ both_linked (index_of w) (index_of (other w)) wa wb (network_at w (side s b t))
    at Alpha = refl
    at Beta = refl

-- A flow that writes no record.

module _ (n : Network) (counts : ℕ → ℕ) (n_now : Network) (counts_now : ℕ → ℕ) (i now : ℕ) (strings strings_now : List (List ℕ)) (quiet : (flow i now Well (course_from n)).after.written ≡ []) where
  pub quiet_comes : (given : Reply) → IsStep n counts None (Flow i now) n_now counts_now strings strings_now given → ComesTo (flow i now Well (course_from n)).after counts n_now counts_now strings strings_now
  quiet_comes given step = flow_comes n counts n_now counts_now i now strings strings_now given step quiet

  -- in which no disk failed
  pub quiet_faults : (given : Reply) → IsStep n counts None (Flow i now) n_now counts_now strings strings_now given → (notes : List Note) (q : ℕ) (stopped : Bool) (before after : ℕ)
      → FailsAs (failures_in notes i q given) stopped before after → after ≡ before
  quiet_faults given step notes q stopped before after fails = subst (λ (hows : List Failure). FailsAs hows stopped before after)
      (flow_tells_none n i now given (flow_told n counts n_now counts_now i now strings strings_now given step quiet) notes q) fails

-- One part of a course after the other.

module _ (f g : Course → Course) (f_is : IsJoined f) (n : Network) (quiet : (f (g (course_from n))).written ≡ []) (stands : (f (g (course_from n))).network.connections ≡ [] → ⊥)
    (stays : (c : Course) → c.network.connections ≡ [] → (f c).network.connections ≡ []) where
  pub first_quiet : (g (course_from n)).written ≡ []
  first_quiet = (quiet_parts f f_is (g (course_from n)) quiet).0

  pub first_stands : (g (course_from n)).network.connections ≡ [] → ⊥
  first_stands none = stands (stays (g (course_from n)) none)

  module _ (counts : ℕ → ℕ) (n1 : Network) (counts1 : ℕ → ℕ) (strings strings1 : List (List ℕ)) (first : ComesTo (g (course_from n)) counts n1 counts1 strings strings1) where
    pub second_quiet : (f (course_from n1)).written ≡ []
    second_quiet = subst (λ (m : Network). (f (course_from m)).written ≡ []) first.network (quiet_parts f f_is (g (course_from n)) quiet).1

    pub second_stands : (f (course_from n1)).network.connections ≡ [] → ⊥
    second_stands none = stands (ap (λ (d : Course). d.network.connections) (f_is (g (course_from n)))
        ∙ subst (λ (m : Network). (f (course_from m)).network.connections ≡ []) (sym first.network) none)

-- Results.

pub ok_of : {A E : Type 0} {P : Type 0} (r : Result A E) → ((e : E) → r ≡ Err e → ⊥) → OnOk r P → P
ok_of (Ok x) never p = p
ok_of (Err e) never p = absurd (never e refl)

pub ok_then : {A E : Type 0} {P Q : Type 0} (r : Result A E) → (P → Q) → OnOk r P → OnOk r Q
ok_then (Ok x) f p = f p
ok_then (Err e) f p = tt

-- it is short, whatever else the result would be
pub err_short : (S T : Type 0) (wanted strings strings_now : List (List ℕ)) (r : Result S PostFault) (f : PostFault) → r ≡ Err f → IsShort {T = S} wanted strings strings_now r
    → IsShort {T = T} wanted strings strings_now (Err f)
err_short S T wanted strings strings_now r f is short = at f (subst (IsShort {T = S} wanted strings strings_now) is short)
  where
    at : (f : PostFault) → IsShort {T = S} wanted strings strings_now (Err f) → IsShort {T = T} wanted strings strings_now (Err f)
    at post.NetFull s = s
    at post.Memory s = s

-- where the first part of a course was
pub short_first : (T : Type 0) (f : Course → Course) → IsJoined f → (c : Course) (strings strings_now : List (List ℕ)) (r : Result T PostFault) (e : PostFault) → r ≡ Err e
    → IsShort {T = T} (map plain_spelling c.sent) strings strings_now r → IsShort {T = T} (map plain_spelling (f c).sent) strings strings_now (Err e)
short_first T f f_is c strings strings_now r e is short = subst (IsShort {T = T} (map plain_spelling (f c).sent) strings strings_now) is (short_before f f_is {T = T} c strings strings_now r short)

-- packets join packets
pub packets_then : (c : Course) (counts : ℕ → ℕ) (n : Network) (counts_now : ℕ → ℕ) (strings strings_now : List (List ℕ)) → ArePackets strings → ComesTo c counts n counts_now strings strings_now
    → ArePackets strings_now
packets_then c counts n counts_now strings strings_now packets comes = record {
  packets = packets.packets ++ c.sent;
  writable = both packets.packets packets.writable;
  are = comes.posted ∙ ap (λ (ss : List (List ℕ)). ss ++ map plain_spelling c.sent) packets.are ∙ sym (map-append plain_spelling packets.packets c.sent);
}
  where
    both : (ps : List Packet) → AreWritable ps → AreWritable (ps ++ c.sent)
    both [] front = comes.writable
    both (p ∷ ps) front = (front.0, both ps front.1)

-- A connection stands.
pub unlinked_then : (w : WorldState) (i now : ℕ) → ((flow i now Well (course_from (network_of w))).after.network.connections ≡ [] → ⊥) → AreUnlinked w
unlinked_then w i now stands = record {
  alpha = λ none. absurd (stands (flow_none i now (course_from (network_of w)) (ap connections_of none)));
  beta = λ none. absurd (stands (flow_none i now (course_from (network_of w)) (ap connections_of none)));
}

-- none comes in an exchange
pub exchange_none : (a b now : ℕ) (c : Course) → c.network.connections ≡ [] → (exchanged a b now c).network.connections ≡ []
exchange_none a b now c none = flow_none b now (flow a now Well c).after (flow_none a now c none)

-- Whether they can be connected.

either : (x y : Bool) → (x || y) ≡ (y || x)
either true true = refl
either true false = refl
either false true = refl
either false false = refl

pub any_down_is : (which : Which) (a b : SeatState) (t : TrafficState) → any_down (network_in a b t) (index_of which) (index_of (other which)) ≡ (is_down (seated a) || is_down (seated b))
any_down_is Alpha a b t = refl
any_down_is Beta a b t = either (is_down (seated b)) (is_down (seated a))

pub any_connected_is : (which : Which) (a b : SeatState) (t : TrafficState) → any_connected (network_in a b t) (index_of which) (index_of (other which)) ≡ is_some t.link
any_connected_is which a b t = at t.link which
  where
    by : (k : ℕ) (initiator which : Which)
        → any_connected (network_in a b (record t { link = Some (record { number = k; initiator = initiator }) })) (index_of which) (index_of (other which)) ≡ true
    by k Alpha Alpha = refl
    by k Alpha Beta = refl
    by k Beta Alpha = refl
    by k Beta Beta = refl

    at : (o : Option Link) (which : Which) → any_connected (network_in a b (record t { link = o })) (index_of which) (index_of (other which)) ≡ is_some o
    at None Alpha = refl
    at None Beta = refl
    at (Some l) which = by l.number l.initiator which

-- The session is set up.
pub up_so : (which : Which) (a b : SeatState) (t : TrafficState) (now wa wb : ℕ) → t.link ≡ None → KnowEachOther (seated a).state (seated b).state → is_down (seated a) ≡ false → is_down (seated b) ≡ false
    → (seated a).rest.session ≡ None → (seated b).rest.session ≡ None
    → IsSetUp which now (course_from (both_linked (index_of which) (index_of (other which)) wa wb (network_in a b t))) (length (notes_of t))
up_so which a b t now wa wb none know a_up b_up a_free b_free = subst (λ (o : Option Link). IsSetUp which now (course_from (both_linked (index_of which) (index_of (other which)) wa wb
    (network_in a b (record t { link = o })))) (length (notes_of t))) (sym none) (at which)
  where
    at : (w : Which) → IsSetUp w now (course_from (both_linked (index_of w) (index_of (other w)) wa wb (network_in a b (record t { link = None })))) (length (notes_of t))
    at Alpha = sets_up Alpha (seated a) (seated b) t.connected now wa wb (notes_of t) t.ledger know a_up b_up a_free b_free
    at Beta = sets_up Beta (seated b) (seated a) t.connected now wa wb (notes_of t) t.ledger (record { first = know.second; second = know.first }) b_up a_up b_free a_free

-- what a flow makes of a course
abbrev pub flows_of : ℕ → ℕ → Course → Course
flows_of i now c = (flow i now Well c).after

pub from_ok : {A E : Type 0} {P : Type 0} (r : Result A E) (x : A) → r ≡ Ok x → OnOk r P → P
from_ok {A} {E} {P} r x is p = subst (λ (r : Result A E). OnOk r P) is p

pub on_any : {A E : Type 0} {P : Type 0} (r : Result A E) → P → OnOk r P
on_any (Ok x) p = p
on_any (Err e) p = tt

pub never_ok : {A E : Type 0} (P : Type 0) (r : Result A E) (e : E) → r ≡ Err e → OnOk r P
never_ok {A} {E} P r e is = subst (λ (r : Result A E). OnOk r P) (sym is) tt

pub quiet_ok : (n : Network) (counts : ℕ → ℕ) (n_now : Network) (counts_now : ℕ → ℕ) (i now : ℕ) (strings strings_now : List (List ℕ)) → (flow i now Well (course_from n)).after.written ≡ [] → (r : Result Reply PostFault)
    → IfOk r (IsStep n counts None (Flow i now) n_now counts_now strings strings_now) → (notes : List Note) (q : ℕ) (stopped : Bool) (before after : ℕ)
    → IfOk r (λ given. FailsAs (failures_in notes i q given) stopped before after) → OnOk r (after ≡ before)
quiet_ok n counts n_now counts_now i now strings strings_now quiet (Ok given) step notes q stopped before after fails = quiet_faults n counts n_now counts_now i now strings strings_now quiet given step notes q stopped before after fails
quiet_ok n counts n_now counts_now i now strings strings_now quiet (Err f) step notes q stopped before after fails = tt

pub none_linked : (l : Option Link) → is_some l ≡ false → l ≡ None
none_linked None is = refl
none_linked (Some l) is = absurd (let no : ⊥ = cc in no)

pub both_up : (x y : Bool) → x ≡ false → y ≡ false → (x || y) ≡ false
both_up x y first second = ap (λ (b : Bool). b || y) first ∙ second

-- Two managers that were linked are connected.
module _ (which : Which) (a b : SeatState) (t : TrafficState) (strings : List (List ℕ)) (now wa wb : ℕ) (a_up : is_down (seated a) ≡ false) (b_up : is_down (seated b) ≡ false)
    (none : t.link ≡ None) (n_then : Network) (linked : n_then ≡ both_linked (index_of which) (index_of (other which)) wa wb (network_in a b t)) where
  abbrev n : Network
  n = network_in a b t

  up : any_down n (index_of which) (index_of (other which)) ≡ false
  up = any_down_is which a b t ∙ both_up (is_down (seated a)) (is_down (seated b)) a_up b_up

  free : any_connected n (index_of which) (index_of (other which)) ≡ false
  free = any_connected_is which a b t ∙ ap is_some none

  pub connected_short : (S : Type 0) (strings_now : List (List ℕ)) (r : Result S PostFault) (f : PostFault) → r ≡ Err f
      → IsShort {T = S} (map plain_spelling (set_up (index_of which) (index_of (other which)) now (course_from n_then)).sent) strings strings_now r
      → FallsShort {T = Reply} (network_in a b t) None (Connect (index_of which) (index_of (other which)) now wa wb) strings strings_now (Err f)
  connected_short S strings_now r f is short = connect_short which n (counts_with a b) now wa wb strings up free {T = Reply} strings_now (Err f)
      (subst (λ (m : Network). IsShort {T = Reply} (map plain_spelling (set_up (index_of which) (index_of (other which)) now (course_from m)).sent) strings strings_now (Err f)) linked
      (err_short S Reply (map plain_spelling (set_up (index_of which) (index_of (other which)) now (course_from n_then)).sent) strings strings_now r f is short))

  -- what the managers have had stays where they are linked
  from_linked : (counts_then : ℕ → ℕ) → ((either : Which) → counts_then (index_of either) ≡ counts_with a b (index_of either)) → (c : Course) (n_now : Network) (counts_now : ℕ → ℕ) (strings_now : List (List ℕ))
      → ComesTo c counts_then n_now counts_now strings strings_now → ComesTo c (counts_with a b) n_now counts_now strings strings_now
  from_linked counts_then same c n_now counts_now strings_now comes = record {
    network = comes.network;
    counted = counts_from (counts_with a b) counts_then counts_now c.written same comes.counted;
    posted = comes.posted;
    writable = comes.writable;
    within = comes.within;
  }

  pub connected_so : (is_up : IsSetUp which now (course_from (both_linked (index_of which) (index_of (other which)) wa wb n)) (length (notes_of t)))
      (a1 b1 : SeatState) → StaysStored a a1 → StaysStored b b1 → (n_now : Network) (counts_now : ℕ → ℕ) (strings_now : List (List ℕ))
      → ComesTo (set_up (index_of which) (index_of (other which)) now (course_from n_then)) (counts_with a1 b1) n_now counts_now strings strings_now → (before : ℕ) → before ≡ length t.notes
      → IsStep n (counts_with a b) None (Connect (index_of which) (index_of (other which)) now wa wb) n_now counts_now strings strings_now
      (reply.Connected ((before + 1) ∷ (before + 2) ∷ (before + 3) ∷ (before + 4) ∷ []))
  connected_so is_up a1 b1 own far n_now counts_now strings_now comes before count =
      subst (λ (ks : List ℕ). IsStep n (counts_with a b) None (Connect (index_of which) (index_of (other which)) now wa wb) n_now counts_now strings strings_now (reply.Connected ks))
      (ap (λ (k : ℕ). numbers_behind k 4) (length-map t.notes note_of ∙ sym count) ∙ sym (four_numbers before))
      (connect_step which n (counts_with a b) now wa wb strings up free n_now counts_now strings_now
      (subst (λ (m : Network). ComesTo (set_up (index_of which) (index_of (other which)) now (course_from m)) (counts_with a b) n_now counts_now strings strings_now) linked
      (from_linked (counts_with a1 b1) (both_stored a b a1 b1 own far) (set_up (index_of which) (index_of (other which)) now (course_from n_then)) n_now counts_now strings_now comes)) is_up.notes)
