-- The events of a world, of one manager or of both.
use Rattle.std.proofs.Common.{◌≡◌, ◌<◌, arith, suc, zero, ℕ, Bool, true, false, cond, List, [], ◌∷◌, Option, None, Some, Result, Ok, Err, refl, sym, ap, subst, ◌∙◌}
use Rattle.std.specs.List.{cons_option}
use Rattle.std.specs.Prelude.{IfOk, OnOk, is_some, map}
use Rattle.mqb_base.specs.declared.ids.Identity.{Identity}
use Rattle.mqb_deliveries.specs.lemmas.Delivered.{deliver_step, none_step}
use Rattle.mqb_deliveries.specs.Delivers.{WasDelivered, outcome_reply}
use Rattle.mqb_deliveries.specs.Failing.{FailsAs, arrived, failure_told, failures_at, failures_in, is_for}
use Rattle.mqb_deliveries.specs.Peers.{KnowEachOther}
use Rattle.mqb_deliveries.specs.Steps.{FallsShort, IsStep}
use Rattle.mqb_outside.specs.Disk.{View}
use Rattle.mqb_moves.specs.Seats.{IsHeldOn, seated}
use Rattle.mqb_network.specs.Choices.{Failure}
use Rattle.mqb_network.specs.Network.{Network, Note}
use Rattle.mqb_network.specs.Runs.{packet_of}
use Rattle.mqb_packet.specs.Plain.{plain_spelling}
use Rattle.mqb_packet.specs.declared.packet.Packet.{Packet}
use Rattle.mqb_posts.specs.Packets.{AreWritable}
use Rattle.mqb_posts.specs.Posting.{IsWithin}
use Rattle.mqb_posts.specs.declared.faults.PostFault.{PostFault}
use Rattle.mqb_queue.specs.Places.{numbered}
use Rattle.mqb_runs.specs.Events.{event_of}
use Rattle.mqb_script.specs.Formed.{IsFormed}
use Rattle.mqb_script.specs.Hosts.{AreEnds}
use Rattle.mqb_script.specs.Managers.{other, which_at}
use Rattle.mqb_script.specs.declared.grammar.Grammar.TheVariants.{Pair}
use Rattle.mqb_script.specs.declared.events.Event.{Event}
use Rattle.mqb_script.specs.declared.events.Event.TheVariants as event
use Rattle.mqb_script.specs.declared.managers.Which.{Which}
use Rattle.mqb_turns.specs.mqb_seats.Called.{failure_of, how_by}
use Rattle.mqb_session.specs.State.{State}
use Rattle.mqb_traffic.specs.Networks.{index_of}
use Rattle.mqb_traffic.specs.declared.notes.Link.{Link}
use Rattle.mqb_transcript.specs.declared.arrivals.Outcome.{Outcome}
use Rattle.mqb_transcript.specs.declared.arrivals.Outcome.TheVariants as outcome
use Rattle.mqb_transcript.specs.declared.replies.Reply.{Reply}
use Rattle.mqb_transcript.specs.declared.replies.Reply.TheVariants as reply
use Rattle.mqb_runs.specs.lemmas.Asked.{none_some}
use Rattle.mqb_world.specs.Acting.{Happens, HappensAmong, IsOf, ShortAmong}
use Rattle.mqb_world.specs.Ordered.{IsOrdered}
use Rattle.mqb_runs.specs.Requests.{actor}
use Rattle.mqb_world.specs.Sides.{AreUnlinked}
use Rattle.mqb_world.specs.Disks.{FaultsGo, IsToldSo, failures_of}
use Rattle.mqb_world.specs.Worlds.{WorldState, counts_of, network_of}

-- An event of one manager delivers no packet.
none_of : (which : Which) (asked : Event) → IsOf which asked → (packets : List Packet) → packet_of packets (event_of asked) ≡ None
none_of which (event.Deliver k now) is packets = absurd (none_some is.0)
none_of which asked is packets = refl

-- What is told of a disk in a flow or a delivery.
faults_as : (asked : Event) (stopped : Bool) → ((how : Failure) → how ≡ failure_of (how_by stopped) → IsToldSo asked stopped how) → (before after : ℕ) (hows : List Failure)
    → FailsAs hows stopped before after → FaultsGo asked stopped before after hows
faults_as asked stopped says before after [] same = same
faults_as asked stopped says before after (how ∷ []) (rose, so) = (rose, says how so)
faults_as asked stopped says before after (how ∷ more ∷ hows) none = none

told_same : (b : Bool) (given : Outcome) → cons_option (cond b (failure_told given) None) [] ≡ cond b (failures_of (outcome_reply given)) []
told_same true (outcome.Heard heard lines) = refl
told_same true outcome.Gone = refl
told_same true outcome.Stopped = refl
told_same true outcome.Failed = refl
told_same false given = refl

-- the reply to a delivery
abbrev pub delivery_told : Option Outcome → Reply
delivery_told None = reply.NoPacket
delivery_told (Some given) = outcome_reply given

module _ (w w_now : WorldState) (strings strings_now : List (List ℕ)) (first first_now second second_now : View) (first_stopped second_stopped : Bool) where
  abbrev HappensTo : Option Packet → Event → (strings_now : List (List ℕ)) → Reply → Type 0
  HappensTo q asked strings_now given = Happens w w_now q asked strings strings_now first first_now second second_now first_stopped second_stopped given

  -- whatever packets there are
  abbrev HappensSo : Event → (strings_now : List (List ℕ)) → Reply → Type 0
  HappensSo asked strings_now given = HappensAmong w w_now asked strings strings_now first first_now second second_now first_stopped second_stopped given

  -- An event of one manager.
  pub acting_happens : (which : Which) (asked : Event) → IsOf which asked → (r : Result Reply PostFault) → IfOk r (HappensTo None asked strings_now) → IfOk r (HappensSo asked strings_now)
  acting_happens which asked is (Ok given) x = λ packets writable spelled. subst (λ (q : Option Packet). HappensTo q asked strings_now given) (sym (none_of which asked is packets)) x
  acting_happens which asked is (Err f) x = tt

  pub acting_short : (which : Which) (asked : Event) → IsOf which asked → (r : Result Reply PostFault) → FallsShort (network_of w) None (event_of asked) strings strings_now r
      → ShortAmong w asked strings strings_now r
  acting_short which asked is r short = λ packets writable spelled. subst (λ (q : Option Packet). FallsShort (network_of w) q (event_of asked) strings strings_now r) (sym (none_of which asked is packets)) short

  -- A flow.
  pub flow_happens : (m : Which) (now : ℕ) (r : Result Reply PostFault) → IfOk r (IsStep (network_of w) (counts_of w) None (event_of (event.Flow (index_of m) now)) (network_of w_now) (counts_of w_now) strings strings_now)
      → IsHeldOn first_now w_now.alpha → IsHeldOn second_now w_now.beta
      → IfOk r (λ given. FailsAs (failures_in (network_of w_now).notes (index_of m) 0 given) first_stopped first.faults first_now.faults)
      → IfOk r (λ given. FailsAs (failures_in (network_of w_now).notes (index_of m) 1 given) second_stopped second.faults second_now.faults)
      → IfOk r (HappensSo (event.Flow (index_of m) now) strings_now)
  flow_happens m now (Ok given) step alpha beta alpha_fails beta_fails = λ packets writable spelled. record {
    step = step;
    alpha = alpha;
    beta = beta;
    alpha_faults = faults_as (event.Flow (index_of m) now) first_stopped (λ how so. so) first.faults first_now.faults (failures_in (network_of w_now).notes (index_of m) 0 given) alpha_fails;
    beta_faults = faults_as (event.Flow (index_of m) now) second_stopped (λ how so. so) second.faults second_now.faults (failures_in (network_of w_now).notes (index_of m) 1 given) beta_fails;
    alpha_records = tt;
    beta_records = tt;
    alpha_far = tt;
    beta_far = tt;
  }
  flow_happens m now (Err f) step alpha beta alpha_fails beta_fails = tt

  -- A connection.
  pub connect_happens : (m : Which) (now a b : ℕ) (r : Result Reply PostFault) → IfOk r (IsStep (network_of w) (counts_of w) None (event_of (event.Connect (index_of m) (index_of (other m)) now a b)) (network_of w_now) (counts_of w_now) strings strings_now)
      → IsHeldOn first_now w_now.alpha → IsHeldOn second_now w_now.beta → OnOk r (first_now.faults ≡ first.faults) → OnOk r (second_now.faults ≡ second.faults)
      → IfOk r (HappensSo (event.Connect (index_of m) (index_of (other m)) now a b) strings_now)
  connect_happens m now a b (Ok given) step alpha beta alpha_same beta_same = λ packets writable spelled. record {
    step = step;
    alpha = alpha;
    beta = beta;
    alpha_faults = alpha_same;
    beta_faults = beta_same;
    alpha_records = tt;
    beta_records = tt;
    alpha_far = tt;
    beta_far = tt;
  }
  connect_happens m now a b (Err f) step alpha beta alpha_same beta_same = tt

  -- A delivery.
  module _ (within : IsWithin strings) (k now : ℕ) where
    told_by : (notes notes_now : List Note) → notes_now ≡ notes → (i : ℕ) (stopped : Bool) (before after : ℕ) (r : Option Outcome) → FailsAs (failures_at notes i (arrived k r)) stopped before after
        → FaultsGo (event.Deliver k now) stopped before after (cond (is_for notes_now i k) (failures_of (delivery_told r)) [])
    told_by notes notes_now same i stopped before after None fails = at (is_for notes_now i k)
      where
        at : (b : Bool) → FaultsGo (event.Deliver k now) stopped before after (cond b [] [])
        at true = fails
        at false = fails
    told_by notes notes_now same i stopped before after (Some given) fails = faults_as (event.Deliver k now) stopped (λ how so. so) before after (cond (is_for notes_now i k) (failures_of (outcome_reply given)) [])
        (subst (λ (hows : List Failure). FailsAs hows stopped before after)
        (told_same (is_for notes i k) given ∙ ap (λ (ns : List Note). cond (is_for ns i k) (failures_of (outcome_reply given)) []) (sym same)) fails)

    delivers_happens : (packets : List Packet) (r : Option Outcome) → WasDelivered (network_of w) (counts_of w) (network_of w_now) (counts_of w_now) packets k now r → IsHeldOn first_now w_now.alpha → IsHeldOn second_now w_now.beta
        → FailsAs (failures_at (network_of w).notes 0 (arrived k r)) first_stopped first.faults first_now.faults
        → FailsAs (failures_at (network_of w).notes 1 (arrived k r)) second_stopped second.faults second_now.faults
        → HappensTo (numbered packets k) (event.Deliver k now) strings (delivery_told r)
    delivers_happens packets None (none, same, counted) alpha beta alpha_fails beta_fails = record {
      step = subst (λ (n : Network). IsStep (network_of w) (counts_of w) (numbered packets k) (event_of (event.Deliver k now)) n (counts_of w_now) strings strings reply.NoPacket) (sym same)
          (none_step (network_of w) (counts_of w) (counts_of w_now) k (numbered packets k) now strings within none counted);
      alpha = alpha;
      beta = beta;
      alpha_faults = told_by (network_of w).notes (network_of w_now).notes (ap (λ (n : Network). n.notes) same) 0 first_stopped first.faults first_now.faults None alpha_fails;
      beta_faults = told_by (network_of w).notes (network_of w_now).notes (ap (λ (n : Network). n.notes) same) 1 second_stopped second.faults second_now.faults None beta_fails;
      alpha_records = tt;
      beta_records = tt;
      alpha_far = tt;
      beta_far = tt;
    }
    delivers_happens packets (Some given) (p, is, some, one) alpha beta alpha_fails beta_fails = record {
      step = subst (λ (q : Option Packet). IsStep (network_of w) (counts_of w) q (event_of (event.Deliver k now)) (network_of w_now) (counts_of w_now) strings strings (outcome_reply given)) (sym is)
          (deliver_step (network_of w) (counts_of w) (network_of w_now) (counts_of w_now) k p now given strings within some one);
      alpha = alpha;
      beta = beta;
      alpha_faults = told_by (network_of w).notes (network_of w_now).notes one.notes 0 first_stopped first.faults first_now.faults (Some given) alpha_fails;
      beta_faults = told_by (network_of w).notes (network_of w_now).notes one.notes 1 second_stopped second.faults second_now.faults (Some given) beta_fails;
      alpha_records = tt;
      beta_records = tt;
      alpha_far = tt;
      beta_far = tt;
    }

    -- by what the call answers
    pub some_happens : (r : Option Outcome) (o : Outcome) → r ≡ Some o → (told : Reply) → told ≡ outcome_reply o
        → ((packets : List Packet) → AreWritable packets → strings ≡ map plain_spelling packets → WasDelivered (network_of w) (counts_of w) (network_of w_now) (counts_of w_now) packets k now r)
        → IsHeldOn first_now w_now.alpha → IsHeldOn second_now w_now.beta
        → FailsAs (failures_at (network_of w).notes 0 (arrived k r)) first_stopped first.faults first_now.faults
        → FailsAs (failures_at (network_of w).notes 1 (arrived k r)) second_stopped second.faults second_now.faults
        → HappensSo (event.Deliver k now) strings told
    some_happens r o is told told_is was alpha beta alpha_fails beta_fails = λ packets writable spelled.
        subst (λ (given : Reply). HappensTo (numbered packets k) (event.Deliver k now) strings given) (sym told_is)
        (delivers_happens packets (Some o) (subst (λ (r : Option Outcome). WasDelivered (network_of w) (counts_of w) (network_of w_now) (counts_of w_now) packets k now r) is (was packets writable spelled)) alpha beta
        (subst (λ (r : Option Outcome). FailsAs (failures_at (network_of w).notes 0 (arrived k r)) first_stopped first.faults first_now.faults) is alpha_fails)
        (subst (λ (r : Option Outcome). FailsAs (failures_at (network_of w).notes 1 (arrived k r)) second_stopped second.faults second_now.faults) is beta_fails))

  -- of an event that is this one
  pub flow_so : (asked : Event) (m : Which) (now : ℕ) → asked ≡ event.Flow (index_of m) now → (r : Result Reply PostFault) → IfOk r (HappensSo (event.Flow (index_of m) now) strings_now) → IfOk r (HappensSo asked strings_now)
  flow_so asked m now is r = subst (λ (a : Event). IfOk r (HappensSo a strings_now)) (sym is)

  pub flow_short : (asked : Event) (m : Which) (now : ℕ) → asked ≡ event.Flow (index_of m) now → (r : Result Reply PostFault)
      → FallsShort (network_of w) None (event_of (event.Flow (index_of m) now)) strings strings_now r → ShortAmong w asked strings strings_now r
  flow_short asked m now is r short = subst (λ (e : Event). ShortAmong w e strings strings_now r) (sym is) (λ packets writable spelled. short)

  pub connect_so : (asked : Event) (m : Which) (now a b : ℕ) → asked ≡ event.Connect (index_of m) (index_of (other m)) now a b → (r : Result Reply PostFault)
      → IfOk r (HappensSo (event.Connect (index_of m) (index_of (other m)) now a b) strings_now) → IfOk r (HappensSo asked strings_now)
  connect_so asked m now a b is r = subst (λ (x : Event). IfOk r (HappensSo x strings_now)) (sym is)

  pub connect_short : (asked : Event) (m : Which) (now a b : ℕ) → asked ≡ event.Connect (index_of m) (index_of (other m)) now a b → (r : Result Reply PostFault)
      → FallsShort (network_of w) None (event_of (event.Connect (index_of m) (index_of (other m)) now a b)) strings strings_now r → ShortAmong w asked strings strings_now r
  connect_short asked m now a b is r short = subst (λ (e : Event). ShortAmong w e strings strings_now r) (sym is) (λ packets writable spelled. short)

-- The managers of an event are among the two.
at_index : (i : ℕ) → i < 2 → i ≡ index_of (which_at i)
at_index zero small = refl
at_index (suc zero) small = refl
at_index (suc (suc i)) small = absurd (omega arith)

at_other : (i j : ℕ) → AreEnds Pair i j → j ≡ index_of (other (which_at i))
at_other zero zero ends = absurd (ends.2 refl)
at_other zero (suc zero) ends = refl
at_other zero (suc (suc j)) ends = absurd (let small = ends.1 in omega (arith, small))
at_other (suc zero) zero ends = refl
at_other (suc zero) (suc zero) ends = absurd (ends.2 refl)
at_other (suc zero) (suc (suc j)) ends = absurd (let small = ends.1 in omega (arith, small))
at_other (suc (suc i)) j ends = absurd (let small = ends.0 in omega (arith, small))

pub flow_is : (which : Which) (m now : ℕ) (asked : Event) → asked ≡ event.Flow m now → which ≡ which_at m → IsFormed Pair asked → asked ≡ event.Flow (index_of which) now
flow_is which m now asked is at formed =
    is ∙ ap (λ (m : ℕ). event.Flow m now) (at_index m (subst (IsFormed Pair) is formed) ∙ ap index_of (sym at))

pub connect_is : (which : Which) (i j now a b : ℕ) (asked : Event) → asked ≡ event.Connect i j now a b → which ≡ which_at i → IsFormed Pair asked
    → asked ≡ event.Connect (index_of which) (index_of (other which)) now a b
connect_is which i j now a b asked is at formed =
    let ends : AreEnds Pair i j = (subst (IsFormed Pair) is formed).0 in
    is ∙ ap (λ (i : ℕ). event.Connect i j now a b) (at_index i ends.0 ∙ ap index_of (sym at))
    ∙ ap (λ (j : ℕ). event.Connect (index_of which) j now a b) (at_other i j ends ∙ ap (λ (w : Which). index_of (other w)) (sym at))

-- an event of no two managers is of the one that acts
pub is_of : (which : Which) (asked : Event) → which ≡ which_at (actor asked) → IsFormed Pair asked → ((i j now a b : ℕ) → asked ≡ event.Connect i j now a b → ⊥)
    → ((k now : ℕ) → asked ≡ event.Deliver k now → ⊥) → ((m now : ℕ) → asked ≡ event.Flow m now → ⊥) → IsOf which asked
is_of which asked is formed a b c = subst (λ (w : Which). IsOf w asked) (sym is) (at asked formed a b c)
  where
    at : (asked : Event) → IsFormed Pair asked → ((i j now a b : ℕ) → asked ≡ event.Connect i j now a b → ⊥)
        → ((k now : ℕ) → asked ≡ event.Deliver k now → ⊥) → ((m now : ℕ) → asked ≡ event.Flow m now → ⊥) → IsOf (which_at (actor asked)) asked
    at (event.Queue m plan) formed a b c = (refl, at_index m formed)
    at (event.Commit m now ops) formed a b c = (refl, at_index m formed.0)
    at (event.Send m now recoverable parts) formed a b c = (refl, at_index m formed.0)
    at (event.Take m now place) formed a b c = (refl, at_index m formed)
    at (event.Purge m now place) formed a b c = (refl, at_index m formed)
    at (event.Tick m now) formed a b c = (refl, at_index m formed)
    at (event.Roll m count) formed a b c = (refl, at_index m formed.0)
    at (event.Connect i j now x y) formed a b c = absurd (a i j now x y refl)
    at (event.Disconnect m) formed a b c = formed
    at (event.Pump m now) formed a b c = at_index m formed
    at (event.Deliver k now) formed a b c = absurd (b k now refl)
    at (event.Drop k) formed a b c = tt
    at (event.Flow m now) formed a b c = absurd (c m now refl)
    at (event.Resend m) formed a b c = at_index m formed
    at (event.Arm m call mode) formed a b c = at_index m formed.0
    at (event.Restart m pick) formed a b c = at_index m formed
    at (event.Checkpoint m) formed a b c = at_index m formed

-- Where no connection stands there is no session.
pub unlinked_so : (w : WorldState) (strings : List (List ℕ)) → IsOrdered w strings → AreUnlinked w
unlinked_so w strings ordered = record {
  alpha = λ none. by (seated w.alpha).rest.session w.traffic.link ordered.alpha_linked.session none;
  beta = λ none. by (seated w.beta).rest.session w.traffic.link ordered.beta_linked.session none;
}
  where
    by : (s : Option State) (l : Option Link) → is_some s ≡ is_some l → l ≡ None → s ≡ None
    by None l same none = refl
    by (Some s) l same none = absurd (let no : ⊥ = cc (same, none) in no)

-- Each is the other's only peer.
pub known_so : (w : WorldState) (strings : List (List ℕ)) → IsOrdered w strings → KnowEachOther (seated w.alpha).state (seated w.beta).state
known_so w strings ordered = record {
  first = ordered.alpha_itself.peers ∙ ap (λ (i : Identity). i ∷ []) (sym ordered.beta_itself.identity);
  second = ordered.beta_itself.peers ∙ ap (λ (i : Identity). i ∷ []) (sym ordered.alpha_itself.identity);
}
