-- Packets that were just sent are delivered in turn.
use Rattle.std.proofs.Common.{◌≡◌, ◌<◌, ℕ, ◌+◌, Bool, true, false, cond, List, [], ◌∷◌, ◌++◌, Option, Some, None, Result, Ok, Err, length, refl, sym, ap, subst, ◌∙◌, arith}
use Rattle.std.proofs.lemmas.List.{length-map}
use Rattle.std.proofs.lemmas.List.Elements.{filter_map-append}
use Rattle.std.specs.List.{cons_option}
use Rattle.std.specs.Prelude.{IfOk, IsSome, map}
use Rattle.mqb_deliveries.specs.Delivers.{Delivers, WasDelivered}
use Rattle.mqb_deliveries.specs.Failing.{CutBehind, FailsAs, arrived, failure_at, failure_told, failures_at, is_for}
use Rattle.mqb_deliveries.specs.lemmas.Flowing.{flown_next, flown_none}
use Rattle.mqb_deliveries.specs.Flows.{Flown}
use Rattle.mqb_outside.specs.Disk.{View}
use Rattle.mqb_moves.specs.Seats.{IsHeldOn, SeatState}
use Rattle.mqb_network.specs.Choices.{Failure}
use Rattle.mqb_network.specs.Network.{Network, Note}
use Rattle.mqb_outside.specs.Faults.{Rose}
use Rattle.mqb_packet.specs.Plain.{plain_spelling}
use Rattle.mqb_packet.specs.declared.packet.Packet.{Packet}
use Rattle.mqb_posts.specs.Packets.{ArePackets, AreWritable}
use Rattle.mqb_posts.specs.declared.faults.PostFault.{PostFault}
use Rattle.mqb_queue.specs.Places.{numbered}
use Rattle.mqb_script.specs.declared.managers.Which.{Which}
use Rattle.mqb_script.specs.declared.managers.Which.TheVariants.{Alpha, Beta}
use Rattle.mqb_turns.specs.mqb_seats.Lasting.{Lasts}
use Rattle.mqb_turns.specs.mqb_seats.lemmas.Keeping.{lasts_same, lasts_then}
use Rattle.mqb_turns.specs.mqb_seats.Called.{failure_of, how_by}
use Rattle.mqb_turns.specs.mqb_seats.declared.packets.Pumped.{Pumped}
use Rattle.mqb_traffic.specs.Networks.{connections_of, note_of, notes_of}
use Rattle.mqb_traffic.specs.States.{TrafficState}
use Rattle.mqb_traffic.specs.declared.notes.Link.{Link}
use Rattle.mqb_transcript.specs.declared.arrivals.Arrival.{Arrival}
use Rattle.mqb_transcript.specs.declared.arrivals.Outcome.{Outcome}
use Rattle.mqb_turns.specs.Sends.{ComesShort, IsSent, pump_at}
use Rattle.mqb_turns.specs.Sides.{side}
use Rattle.mqb_world.proofs.Delivering.{number_there}
use Rattle.mqb_world.specs.Flowing.{Flows}
use Rattle.mqb_world.specs.Sides.{SentBy, side_of, world}
use Rattle.mqb_world.specs.Worlds.{WorldState, counts_of, network_of}

-- How packets are sent.

pub sent_alpha : (which : Which) (a b a1 b1 : SeatState) (t t1 : TrafficState) (d e f : View) (s s2 : Bool) (strings strings_now : List (List ℕ)) (now : ℕ) (r : Result Pumped PostFault)
    → which ≡ Alpha → IfOk r (IsSent Alpha (side a b t) (side a1 b1 t1) d e s strings strings_now now)
    → IfOk r (SentBy which (world a b t) (world a1 b1 t1) d e f f s s2 strings strings_now now)
sent_alpha which a b a1 b1 t t1 d e f s s2 strings strings_now now r is sent =
    subst (λ (w : Which). IfOk r (SentBy w (world a b t) (world a1 b1 t1) d e f f s s2 strings strings_now now)) (sym is) (at r sent)
  where
    at : (q : Result Pumped PostFault) → IfOk q (IsSent Alpha (side a b t) (side a1 b1 t1) d e s strings strings_now now)
        → IfOk q (SentBy Alpha (world a b t) (world a1 b1 t1) d e f f s s2 strings strings_now now)
    at (Ok pumped) h = (h, refl)
    at (Err fault) h = h

pub sent_beta : (which : Which) (a b a1 b1 : SeatState) (t t1 : TrafficState) (d f g : View) (s s2 : Bool) (strings strings_now : List (List ℕ)) (now : ℕ) (r : Result Pumped PostFault)
    → which ≡ Beta → IfOk r (IsSent Beta (side b a t) (side b1 a1 t1) f g s2 strings strings_now now)
    → IfOk r (SentBy which (world a b t) (world a1 b1 t1) d d f g s s2 strings strings_now now)
sent_beta which a b a1 b1 t t1 d f g s s2 strings strings_now now r is sent =
    subst (λ (w : Which). IfOk r (SentBy w (world a b t) (world a1 b1 t1) d d f g s s2 strings strings_now now)) (sym is) (at r sent)
  where
    at : (q : Result Pumped PostFault) → IfOk q (IsSent Beta (side b a t) (side b1 a1 t1) f g s2 strings strings_now now)
        → IfOk q (SentBy Beta (world a b t) (world a1 b1 t1) d d f g s s2 strings strings_now now)
    at (Ok pumped) h = (h, refl)
    at (Err fault) h = h

pub short_by : (which v : Which) (w : WorldState) (strings strings_now : List (List ℕ)) (now : ℕ) (r : Result Pumped PostFault) → which ≡ v
    → ComesShort strings strings_now (pump_at v (side_of w v) now) r → ComesShort strings strings_now (pump_at which (side_of w which) now) r
short_by which v w strings strings_now now r is short = subst (λ (u : Which). ComesShort strings strings_now (pump_at u (side_of w u) now) r) (sym is) short

-- How failures follow one another.

module _ (n n_now : Network) (s t : Bool) (a b c : ℕ) where
  pub fails_more : (fs gs : List Failure) → FailsAs fs s a b → CutBehind fs n → FailsAs gs t b c → (n.connections ≡ [] → (t ≡ s) × (gs ≡ [])) → FailsAs (fs ++ gs) t a c
  fails_more [] gs same cut more idle = subst (λ (k : ℕ). FailsAs gs t k c) same more
  fails_more (how ∷ []) gs rose cut more idle =
      let is = idle cut in let none : FailsAs [] t b c = subst (λ (hs : List Failure). FailsAs hs t b c) is.1 more in
      subst (λ (hs : List Failure). FailsAs (how ∷ hs) t a c) (sym is.1)
      (subst (Rose a) (sym none) rose.0, rose.1 ∙ ap (λ (u : Bool). failure_of (how_by u)) (sym is.0))
  fails_more (how ∷ more ∷ rest) gs none cut later idle = absurd none

  pub cut_more : (fs gs : List Failure) → CutBehind fs n → CutBehind gs n_now → (n.connections ≡ [] → n_now.connections ≡ []) → CutBehind (fs ++ gs) n_now
  cut_more [] gs cut more stays = more
  cut_more (how ∷ fs) gs cut more stays = stays cut

-- one packet
none_of : (b : Bool) (f : Option Failure) → f ≡ None → cons_option (cond b f None) [] ≡ []
none_of true f none = ap (λ (g : Option Failure). cons_option g []) none
none_of false f none = refl

cut_of : (n : Network) (b : Bool) (f : Option Failure) → (IsSome f → n.connections ≡ []) → CutBehind (cons_option (cond b f None) []) n
cut_of n true None cut = tt
cut_of n true (Some how) cut = cut refl
cut_of n false f cut = tt

-- None was delivered yet.
pub flows_begin : (w : WorldState) (d f : View) (s t : Bool) (strings : List (List ℕ)) (now before : ℕ) → IsHeldOn d w.alpha → IsHeldOn f w.beta
    → Flows w w d d f f s t strings now before 0 []
flows_begin w d f s t strings now before alpha beta = record {
  flown = λ packets writable are c is. subst (λ (n : Network). Flown (counts_of w) (counts_of w) c now [] [] n) is (flown_none (counts_of w) c now);
  notes = refl;
  alpha = lasts_same alpha;
  beta = lasts_same beta;
  alpha_faults = refl;
  beta_faults = refl;
  alpha_cut = tt;
  beta_cut = tt;
  alpha_switch = refl;
  beta_switch = refl;
}

-- One more was.
module _ (w v u : WorldState) (d e e1 f g g1 : View) (s t s1 t1 : Bool) (strings : List (List ℕ)) (now before i : ℕ) (arrivals : List Arrival) (outcome : Outcome) where
  abbrev k : ℕ
  k = before + 1 + i

  abbrev one : List Arrival
  one = record { packet = k; outcome = outcome } ∷ []

  pub flows_more : Flows w v d e f g s t strings now before i arrivals → ArePackets strings
      → ((packets : List Packet) → AreWritable packets → strings ≡ map plain_spelling packets → WasDelivered (network_of v) (counts_of v) (network_of u) (counts_of u) packets k now (Some outcome))
      → Lasts e e1 v.alpha u.alpha → Lasts g g1 v.beta u.beta
      → FailsAs (failures_at (network_of v).notes 0 (arrived k (Some outcome))) s1 e.faults e1.faults
      → FailsAs (failures_at (network_of v).notes 1 (arrived k (Some outcome))) t1 g.faults g1.faults
      → ((network_of v).connections ≡ [] → s1 ≡ s) → ((network_of v).connections ≡ [] → t1 ≡ t)
      → e1.switch ≡ e.switch → g1.switch ≡ g.switch
      → Flows w u d e1 f g1 s1 t1 strings now before (i + 1) (arrivals ++ record { packet = before + 1 + i; outcome = outcome } ∷ [])
  flows_more flows packets delivered alpha beta alpha_faults beta_faults alpha_idle beta_idle alpha_switch beta_switch = record {
    flown = λ ps writable are c is. flown_next (counts_of w) (counts_of v) (counts_of u) c now ps before i arrivals (network_of v) (network_of u) outcome (flows.flown ps writable are c is) (delivered ps writable are);
    notes = it.notes ∙ flows.notes;
    alpha = lasts_then flows.alpha alpha;
    beta = lasts_then flows.beta beta;
    alpha_faults = both 0 s s1 d.faults e.faults e1.faults flows.alpha_faults flows.alpha_cut alpha_faults alpha_idle;
    beta_faults = both 1 t t1 f.faults g.faults g1.faults flows.beta_faults flows.beta_cut beta_faults beta_idle;
    alpha_cut = cuts 0 s s1 d.faults e.faults e1.faults flows.alpha_cut;
    beta_cut = cuts 1 t t1 f.faults g.faults g1.faults flows.beta_cut;
    alpha_switch = alpha_switch ∙ flows.alpha_switch;
    beta_switch = beta_switch ∙ flows.beta_switch;
  }
    where
      was : WasDelivered (network_of v) (counts_of v) (network_of u) (counts_of u) packets.packets k now (Some outcome)
      was = delivered packets.packets packets.writable packets.are

      it : Delivers (network_of v) (counts_of v) (network_of u) (counts_of u) k was.0 now outcome
      it = was.3

      split : (q : ℕ) → failures_at (network_of w).notes q (arrivals ++ one) ≡ failures_at (network_of w).notes q arrivals ++ failures_at (network_of w).notes q one
      split q = filter_map-append (failure_at (network_of w).notes q) arrivals one

      both : (q : ℕ) (x y : Bool) (p r z : ℕ) → FailsAs (failures_at (network_of w).notes q arrivals) x p r → CutBehind (failures_at (network_of w).notes q arrivals) (network_of v)
          → FailsAs (failures_at (network_of v).notes q one) y r z → ((network_of v).connections ≡ [] → y ≡ x) → FailsAs (failures_at (network_of w).notes q (arrivals ++ one)) y p z
      both q x y p r z fails cut more idle = subst (λ (fs : List Failure). FailsAs fs y p z) (sym (split q))
          (fails_more (network_of v) (network_of u) x y p r z (failures_at (network_of w).notes q arrivals) (failures_at (network_of w).notes q one) fails cut
          (subst (λ (notes : List Note). FailsAs (failures_at notes q one) y r z) flows.notes more)
          (λ none. (idle none, none_of (is_for (network_of w).notes q k) (failure_told outcome) (it.idle none).1)))

      cuts : (q : ℕ) (x y : Bool) (p r z : ℕ) → CutBehind (failures_at (network_of w).notes q arrivals) (network_of v) → CutBehind (failures_at (network_of w).notes q (arrivals ++ one)) (network_of u)
      cuts q x y p r z cut = subst (λ (fs : List Failure). CutBehind fs (network_of u)) (sym (split q))
          (cut_more (network_of v) (network_of u) x y p r z (failures_at (network_of w).notes q arrivals) (failures_at (network_of w).notes q one) cut
          (cut_of (network_of u) (is_for (network_of w).notes q k) (failure_told outcome) it.cut)
          (λ none. subst (λ (n : Network). n.connections ≡ []) (it.stays none) none))

-- There is a note for each number.
pub never_none : (w v : WorldState) (before i count : ℕ) → (network_of v).notes ≡ (network_of w).notes → before + count ≡ length w.traffic.notes → i < count
    → numbered (network_of v).notes (before + 1 + i) ≡ None → ⊥
never_none w v before i count same all less none = clash (numbered (network_of v).notes (before + 1 + i)) there.0 there.1 none
  where
    notes : length (network_of v).notes ≡ before + count
    notes = ap length same ∙ length-map w.traffic.notes note_of ∙ sym all

    there : (x : Note) × (numbered (network_of v).notes (before + 1 + i) ≡ Some x)
    there = number_there (network_of v).notes (before + 1 + i) (omega arith) (omega (arith, notes, less))

    clash : (o : Option Note) (x : Note) → o ≡ Some x → o ≡ None → ⊥
    clash (Some y) x is none = let no : ⊥ = cc in no
    clash None x is none = let no : ⊥ = cc in no

pub notes_stay : (w v : WorldState) → (network_of v).notes ≡ (network_of w).notes → length v.traffic.notes ≡ length w.traffic.notes
notes_stay w v same = sym (length-map v.traffic.notes note_of) ∙ ap length same ∙ length-map w.traffic.notes note_of

-- What the loop keeps.

pub flows_first : (w : WorldState) (d f : View) (s t : Bool) (strings : List (List ℕ)) (now before : ℕ) (arrivals : List Arrival) → IsHeldOn d w.alpha → IsHeldOn f w.beta → arrivals ≡ []
    → Flows w w d d f f s t strings now before 0 arrivals
flows_first w d f s t strings now before arrivals alpha beta none =
    subst (λ (so : List Arrival). Flows w w d d f f s t strings now before 0 so) (sym none) (flows_begin w d f s t strings now before alpha beta)

pub flows_last : (w v : WorldState) (d e f g : View) (s t : Bool) (strings : List (List ℕ)) (now before i count : ℕ) (arrivals : List Arrival) → Flows w v d e f g s t strings now before i arrivals
    → i ≡ count → Flows w v d e f g s t strings now before count arrivals
flows_last w v d e f g s t strings now before i count arrivals flows all = subst (λ (k : ℕ). Flows w v d e f g s t strings now before k arrivals) all flows

module _ (w v u : WorldState) (packets : List Packet) (before i now count : ℕ) (given : Option Outcome) where
  pub never_missing : (network_of v).notes ≡ (network_of w).notes → before + count ≡ length w.traffic.notes → i < count → given ≡ None
      → WasDelivered (network_of v) (counts_of v) (network_of u) (counts_of u) packets (before + 1 + i) now given → ⊥
  never_missing same all less is delivered = never_none w v before i count same all less (none.0)
    where
      none : WasDelivered (network_of v) (counts_of v) (network_of u) (counts_of u) packets (before + 1 + i) now None
      none = subst (λ (q : Option Outcome). WasDelivered (network_of v) (counts_of v) (network_of u) (counts_of u) packets (before + 1 + i) now q) is delivered

-- no link, no connection
pub unlinked_so : (o : Option Link) → connections_of o ≡ [] → o ≡ None
unlinked_so None none = refl
unlinked_so (Some l) none = absurd (let no : ⊥ = cc in no)

module _ (w v u : WorldState) (d e e1 f g g1 : View) (s t s1 t1 : Bool) (strings : List (List ℕ)) (now before i : ℕ) (arrivals arrivals_now : List Arrival) (outcome : Outcome) (given : Option Outcome)
    (is : given ≡ Some outcome) (added : arrivals_now ≡ arrivals ++ record { packet = before + 1 + i; outcome = outcome } ∷ []) where
  pub flows_next : Flows w v d e f g s t strings now before i arrivals → ArePackets strings
      → ((packets : List Packet) → AreWritable packets → strings ≡ map plain_spelling packets → WasDelivered (network_of v) (counts_of v) (network_of u) (counts_of u) packets (before + 1 + i) now given)
      → Lasts e e1 v.alpha u.alpha → Lasts g g1 v.beta u.beta
      → FailsAs (failures_at (notes_of v.traffic) 0 (arrived (before + 1 + i) given)) s1 e.faults e1.faults
      → FailsAs (failures_at (notes_of v.traffic) 1 (arrived (before + 1 + i) given)) t1 g.faults g1.faults
      → (v.traffic.link ≡ None → s1 ≡ s) → (v.traffic.link ≡ None → t1 ≡ t)
      → e1.switch ≡ e.switch → g1.switch ≡ g.switch
      → Flows w u d e1 f g1 s1 t1 strings now before (i + 1) arrivals_now
  flows_next flows packets delivered alpha beta alpha_faults beta_faults alpha_idle beta_idle alpha_switch beta_switch =
      subst (λ (so : List Arrival). Flows w u d e1 f g1 s1 t1 strings now before (i + 1) so) (sym added)
      (flows_more w v u d e e1 f g g1 s t s1 t1 strings now before i arrivals outcome flows packets
      (λ ps writable are. subst (λ (o : Option Outcome). WasDelivered (network_of v) (counts_of v) (network_of u) (counts_of u) ps (before + 1 + i) now o) is (delivered ps writable are))
      alpha beta
      (subst (λ (o : Option Outcome). FailsAs (failures_at (notes_of v.traffic) 0 (arrived (before + 1 + i) o)) s1 e.faults e1.faults) is alpha_faults)
      (subst (λ (o : Option Outcome). FailsAs (failures_at (notes_of v.traffic) 1 (arrived (before + 1 + i) o)) t1 g.faults g1.faults) is beta_faults)
      (λ none. alpha_idle (unlinked_so v.traffic.link none)) (λ none. beta_idle (unlinked_so v.traffic.link none)) alpha_switch beta_switch)
