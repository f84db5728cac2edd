-- As many meetings as there is work bring everything over.
use Rattle.std.proofs.Common.{◌≡◌, ℕ, zero, suc, ◌+◌, ◌<◌, ◌≤◌, ◌⊎◌, inl, inr, Bool, true, false, cond, List, [], ◌∷◌, Some, refl, sym, ap, subst, ◌∙◌, arith}
use Rattle.std.proofs.lemmas.List.Elements.{All-from_recursion}
use Rattle.std.specs.List.{AllByRecursion}
use Rattle.std.specs.Prelude.{All, length, map, position, slice_get}
use Rattle.mqb_base.specs.Same.{same_guid}
use Rattle.mqb_base.specs.declared.ids.Identity.{Identity}
use Rattle.mqb_history.specs.Drafted.{AlwaysValid, AreInOrder, IsDraftedEvent}
use Rattle.mqb_history.specs.Laws.{HistoriesAreOrderly, RunsHaveHistories}
use Rattle.mqb_history.specs.Orderly.{IsItself, IsOrderly}
use Rattle.mqb_model.specs.managers.Manager.{Manager, is_down, unlinked}
use Rattle.mqb_model.specs.calls.Link.{unlink}
use Rattle.mqb_model.specs.managers.Outcomes.{succeeded}
use Rattle.mqb_model.specs.managers.Readers.{is_outstanding_to}
use Rattle.mqb_model.specs.managers.Restarts.{restarted}
use Rattle.mqb_model.specs.state.Durable.{durable_plain}
use Rattle.mqb_model.specs.state.Resolving.{peer_known}
use Rattle.mqb_model.specs.state.State.{State}
use Rattle.mqb_network.specs.Changes.{parted}
use Rattle.mqb_network.specs.Courses.{Course}
use Rattle.mqb_network.specs.Events as event
use Rattle.mqb_network.specs.Network.{manager_at, others}
use Rattle.mqb_network.specs.Runs.{IsRunFrom, Move, after_run, course_after}
use Rattle.mqb_network.specs.Scripts.{well}
use Rattle.mqb_plain.specs.Plain.{PlainLists}
use Rattle.mqb_law_meetings.specs.Drained.{IsAlone, IsDrained, has_for}
use Rattle.mqb_law_meetings.specs.Laws.{MeetsInVain}
use Rattle.mqb_law_meetings.specs.Meetings.{meeting, meetings, starts}
use Rattle.mqb_law_meetings.specs.Recovery.{AreStamped, Recovers}
use Rattle.mqb_law_meetings.specs.Work.{state_work, work}
use Rattle.mqb_law_meetings.proofs.Bounds.{credit_below, work_there}
use Rattle.mqb_law_meetings.proofs.Knowing.{if_there, partners}
use Rattle.mqb_law_meetings.proofs.Laws.{run_is_orderly}
use Rattle.mqb_law_meetings.proofs.Lists.{within_get}
use Rattle.mqb_law_meetings.proofs.Meeting.{ArePartners}
use Rattle.mqb_law_meetings.proofs.Meets.{Meets, meets_with, parted_express}
use Rattle.mqb_law_meetings.proofs.Members.{all_each}
use Rattle.mqb_law_meetings.proofs.Peers.{peer_is}
use Rattle.mqb_law_meetings.proofs.Running.{AlwaysAccord, Facts, InRun, facts_of, run_on}
use Rattle.mqb_law_meetings.proofs.Sides.{HearsAll}
use Rattle.mqb_law_meetings.proofs.Starting.{both_alone, both_have}
use Rattle.mqb_law_meetings.proofs.Turns.{IsWithoutExpress, credit}
use Rattle.mqb_law_meetings.proofs.Vain.{has_is, meets_in_vain}

-- Behind the starts nothing is express.

durable_express : (ps : List PlainLists) (k : ℕ) (q : PlainLists) → slice_get (map durable_plain ps) k ≡ Some q → q.express ≡ []
durable_express [] k q e = absurd (let no : ⊥ = cc in no)
durable_express (p ∷ ps) zero q e = let same : durable_plain p ≡ q = cc in subst (λ (x : PlainLists). x.express ≡ []) same refl
durable_express (p ∷ ps) (suc k) q e = durable_express ps k q e

pub started_express : (m : Manager) (kept : Bool) → IsWithoutExpress (restarted m kept).state
started_express m true = all_each (λ (p : PlainLists). p.express ≡ []) (restarted m true).state.plain (durable_express _)
started_express m false = all_each (λ (p : PlainLists). p.express ≡ []) (restarted m false).state.plain (durable_express _)

pub parted_none : (m : Manager) → IsWithoutExpress m.state → IsWithoutExpress (parted m).state
parted_none m none = at (is_down m)
  where
    at : (b : Bool) → IsWithoutExpress (cond b m (succeeded m (unlink m))).state
    at true = none
    at false = parted_express m.state none

-- The moves of a meeting.

pub meeting_drafted : (a b now : ℕ) → All (λ (m : Move). IsDraftedEvent m.event) (map well (meeting a b now))
meeting_drafted a b now = All-from_recursion (λ (m : Move). IsDraftedEvent m.event) (map well (meeting a b now)) (tt, (tt, (tt, (tt, (tt, (tt, (tt, tt)))))))

pub meeting_runs : (c : Course) (a b now : ℕ) → IsRunFrom c (map well (meeting a b now))
meeting_runs c a b now = (refl, (refl, (refl, (refl, (refl, (refl, (refl, tt)))))))

-- Two managers that are alone, at a point of a run.
pub record AreReady (known : List Identity) (c : Course) (a b k l : ℕ) : Type 0 where
  pub run : InRun known c
  pub first : IsAlone c.network a
  pub second : IsAlone c.network b
  pub express : IsWithoutExpress (manager_at c.network a).state
  pub other_express : IsWithoutExpress (manager_at c.network b).state
  pub stamps : AreStamped (manager_at c.network a).state
  pub other_stamps : AreStamped (manager_at c.network b).state
  pub knows : peer_known (manager_at c.network a).state (manager_at c.network b).state.identity.guid ≡ Some k
  pub known_by : peer_known (manager_at c.network b).state (manager_at c.network a).state.identity.guid ≡ Some l

-- whom a manager knows is the same at each point
knows_as : (known : List Identity) (c : Course) → IsOrderly known c → (i j : ℕ) (own other : Identity) → slice_get known i ≡ Some own → slice_get known j ≡ Some other
    → peer_known (manager_at c.network i).state (manager_at c.network j).state.identity.guid ≡ position (λ (p : Identity). same_guid p.guid other.guid) (others known own)
knows_as known c o i j own other at_i at_j =
    let itself : IsItself known own (manager_at c.network i).state = if_there (λ x. IsItself known x (manager_at c.network i).state) (slice_get known i) own at_i (o.themselves i) in
    let it : IsItself known other (manager_at c.network j).state = if_there (λ x. IsItself known x (manager_at c.network j).state) (slice_get known j) other at_j (o.themselves j) in
    ap (λ (ps : List Identity). position (λ (p : Identity). same_guid p.guid (manager_at c.network j).state.identity.guid) ps) itself.peers
    ∙ ap (λ (x : Identity). position (λ (p : Identity). same_guid p.guid x.guid) (others known own)) it.identity

pub knows_still : (known : List Identity) (c z : Course) → IsOrderly known c → IsOrderly known z → (i j k : ℕ) → i < length known → j < length known
    → peer_known (manager_at c.network i).state (manager_at c.network j).state.identity.guid ≡ Some k → peer_known (manager_at z.network i).state (manager_at z.network j).state.identity.guid ≡ Some k
knows_still known c z o p i j k in_i in_j knows =
    let own = within_get known i in_i in
    let other = within_get known j in_j in
    knows_as known z p i j own.0 other.0 own.1 other.1 ∙ sym (knows_as known c o i j own.0 other.0 own.1 other.1) ∙ knows

-- Sums.

none_left : (w v c d : ℕ) → (c ≡ 0) ⊎ (c + 1 ≤ w) → (d ≡ 0) ⊎ (d + 1 ≤ v) → w + v ≤ c + d → 1 ≤ w + v → ⊥
none_left w v c d (inl e) (inl f) h some = omega (arith, e, f, h, some)
none_left w v c d (inl e) (inr f) h some = omega (arith, e, f, h, some)
none_left w v c d (inr e) (inl f) h some = omega (arith, e, f, h, some)
none_left w v c d (inr e) (inr f) h some = omega (arith, e, f, h, some)

one_less : (w v c d n : ℕ) → w + c + 1 ≤ v + d → v ≤ suc n + c → w ≤ n + d
one_less w v c d n h k = omega (arith, h, k)

module _ (known : List Identity) (order : AreInOrder known) (hears : HearsAll) (fact : (c : Course) → InRun known c → Facts known c) (a b now : ℕ) (in_a : a < length known) (in_b : b < length known) (differ : a ≡ b → ⊥) (k l : ℕ) where
  differ_back : b ≡ a → ⊥
  differ_back e = differ (sym e)

  module _ (c : Course) (r : AreReady known c a b k l) where
    abbrev s : State
    s = (manager_at c.network a).state

    abbrev t : State
    t = (manager_at c.network b).state

    abbrev z : Course
    z = course_after c (map well (meeting a b now))

    pub h : ArePartners c.network a b s t
    h = partners known order.apart c (fact c r.run).orderly a b in_a in_b differ r.first r.second

    pub place_is : h.place_a ≡ k
    place_is = let both : Some h.place_a ≡ Some k = sym h.knows ∙ r.knows in let same : h.place_a ≡ k = cc in same

    pub other_place_is : h.place_b ≡ l
    other_place_is = let both : Some h.place_b ≡ Some l = sym h.known ∙ r.known_by in let same : h.place_b ≡ l = cc in same

    run_z : InRun known z
    run_z = run_on known c (map well (meeting a b now)) r.run (meeting_runs c a b now) (meeting_drafted a b now)

    has_a : has_for c.network a b ≡ is_outstanding_to s h.place_a
    has_a = has_is c.network a b h.place_a s t h.at_a h.at_b h.knows

    has_b : has_for c.network b a ≡ is_outstanding_to t h.place_b
    has_b = has_is c.network b a h.place_b t s h.at_b h.at_a h.known

    -- neither has anything
    vain : IsDrained c.network a b → MeetsInVain c z a b
    vain drained = meets_in_vain c a b now s t h drained

    drained_now : has_for c.network a b ≡ false → has_for c.network b a ≡ false → IsDrained c.network a b
    drained_now one two = record {
      first_up = ap (λ (m : Manager). is_down m) r.first;
      second_up = ap (λ (m : Manager). is_down m) r.second;
      first = one;
      second = two;
    }

    -- one of them has
    pub some : (has_for c.network a b ≡ true) ⊎ ((has_for c.network a b ≡ false) × (has_for c.network b a ≡ true)) → Meets known c z a b h.place_a h.place_b
    some has = meets_with known hears fact c r.run a b now in_a in_b s t h
        (peer_is known order.apart c (fact c r.run).orderly a b in_a in_b h.place_a h.peer h.knows h.there)
        (peer_is known order.apart c (fact c r.run).orderly b a in_b in_a h.place_b h.peer_b h.known h.there_b) r.express r.other_express r.stamps r.other_stamps (at has)
      where
        at : (has_for c.network a b ≡ true) ⊎ ((has_for c.network a b ≡ false) × (has_for c.network b a ≡ true))
            → (is_outstanding_to s h.place_a ≡ true) ⊎ ((is_outstanding_to s h.place_a ≡ false) × (is_outstanding_to t h.place_b ≡ true))
        at (inl one) = inl (sym has_a ∙ one)
        at (inr two) = inr (sym has_a ∙ two.0, sym has_b ∙ two.1)

    -- there is work then
    worked : (has_for c.network a b ≡ true) ⊎ ((has_for c.network a b ≡ false) × (has_for c.network b a ≡ true)) → 1 ≤ state_work s + state_work t
    worked (inl one) = let e = work_there s h.place_a r.express (sym has_a ∙ one) in omega (arith, e)
    worked (inr two) = let e = work_there t h.place_b r.other_express (sym has_b ∙ two.1) in omega (arith, e)

    -- and they are ready again
    pub ready_again : IsAlone z.network a → IsAlone z.network b → IsWithoutExpress (manager_at z.network a).state → IsWithoutExpress (manager_at z.network b).state
        → AreStamped (manager_at z.network a).state → AreStamped (manager_at z.network b).state → AreReady known z a b k l
    ready_again one two none other_none stamps other_stamps = record {
      run = run_z;
      first = one;
      second = two;
      express = none;
      other_express = other_none;
      stamps = stamps;
      other_stamps = other_stamps;
      knows = knows_still known c z (fact c r.run).orderly (fact z run_z).orderly a b k in_a in_b r.knows;
      known_by = knows_still known c z (fact c r.run).orderly (fact z run_z).orderly b a l in_b in_a r.known_by;
    }

    pub ready_with : (m : Meets known c z a b h.place_a h.place_b) → AreReady known z a b k l
    ready_with m = ready_again (m.at_a ∙ ap (λ (v : Manager). unlinked v.state) (sym m.at_a)) (m.at_b ∙ ap (λ (v : Manager). unlinked v.state) (sym m.at_b))
        (subst (λ (v : Manager). IsWithoutExpress v.state) (sym m.at_a) m.express) (subst (λ (v : Manager). IsWithoutExpress v.state) (sym m.at_b) m.other_express)
        (subst (λ (v : Manager). AreStamped v.state) (sym m.at_a) m.stamps) (subst (λ (v : Manager). AreStamped v.state) (sym m.at_b) m.other_stamps)

    pub falls : (m : Meets known c z a b h.place_a h.place_b)
        → state_work (manager_at z.network a).state + state_work (manager_at z.network b).state + (credit s t k + credit t s l) + 1
        ≤ state_work s + state_work t + (credit (manager_at z.network a).state (manager_at z.network b).state k + credit (manager_at z.network b).state (manager_at z.network a).state l)
    falls m = subst (λ p. state_work (manager_at z.network a).state + state_work (manager_at z.network b).state + (credit s t p + credit t s l) + 1
        ≤ state_work s + state_work t + (credit (manager_at z.network a).state (manager_at z.network b).state p + credit (manager_at z.network b).state (manager_at z.network a).state l)) place_is
        (subst (λ q. state_work (manager_at z.network a).state + state_work (manager_at z.network b).state + (credit s t h.place_a + credit t s q) + 1
        ≤ state_work s + state_work t + (credit (manager_at z.network a).state (manager_at z.network b).state h.place_a + credit (manager_at z.network b).state (manager_at z.network a).state q)) other_place_is
        (subst (λ (v : Manager). state_work v.state + state_work (manager_at z.network b).state + (credit s t h.place_a + credit t s h.place_b) + 1
        ≤ state_work s + state_work t + (credit v.state (manager_at z.network b).state h.place_a + credit (manager_at z.network b).state v.state h.place_b)) (sym m.at_a)
        (subst (λ (v : Manager). state_work m.first + state_work v.state + (credit s t h.place_a + credit t s h.place_b) + 1
        ≤ state_work s + state_work t + (credit m.first v.state h.place_a + credit v.state m.first h.place_b)) (sym m.at_b) m.falls)))

  -- Further meetings are in vain.
  stays_drained : (count : ℕ) (c : Course) → InRun known c → IsAlone c.network a → IsAlone c.network b → IsDrained c.network a b → IsDrained (course_after c (map well (meetings a b now count))).network a b
  stays_drained zero c run one two drained = drained
  stays_drained (suc count) c run one two drained =
      let h = partners known order.apart c (fact c run).orderly a b in_a in_b differ one two in
      let v = meets_in_vain c a b now (manager_at c.network a).state (manager_at c.network b).state h drained in
      stays_drained count (course_after c (map well (meeting a b now))) (run_on known c (map well (meeting a b now)) run (meeting_runs c a b now) (meeting_drafted a b now)) v.first v.second v.drained

  -- what they have, less what is credited
  abbrev pub Enough : ℕ → Course → Type 0
  Enough n c = state_work (manager_at c.network a).state + state_work (manager_at c.network b).state
      ≤ n + (credit (manager_at c.network a).state (manager_at c.network b).state k + credit (manager_at c.network b).state (manager_at c.network a).state l)

  abbrev pub Has : Course → Type 0
  Has c = (has_for c.network a b ≡ true) ⊎ ((has_for c.network a b ≡ false) × (has_for c.network b a ≡ true))

  pub either : (c : Course) → AreReady known c a b k l → IsDrained c.network a b ⊎ Has c
  either c r = at (has_for c.network a b) refl (has_for c.network b a) refl
    where
      at : (p : Bool) → has_for c.network a b ≡ p → (q : Bool) → has_for c.network b a ≡ q → IsDrained c.network a b ⊎ Has c
      at true e q f = inr (inl e)
      at false e true f = inr (inr (e, f))
      at false e false f = inl (drained_now c r e f)

  -- As many as there is work suffice.
  pub suffice : (count : ℕ) (c : Course) → AreReady known c a b k l → Enough count c → IsDrained (course_after c (map well (meetings a b now count))).network a b
  suffice zero c r enough = at (either c r)
    where
      at : IsDrained c.network a b ⊎ Has c → IsDrained c.network a b
      at (inl drained) = drained
      at (inr has) = absurd (none_left (state_work (manager_at c.network a).state) (state_work (manager_at c.network b).state)
          (credit (manager_at c.network a).state (manager_at c.network b).state k) (credit (manager_at c.network b).state (manager_at c.network a).state l)
          (credit_below (manager_at c.network a).state k (manager_at c.network b).state) (credit_below (manager_at c.network b).state l (manager_at c.network a).state)
          (let e : state_work (manager_at c.network a).state + state_work (manager_at c.network b).state
          ≤ credit (manager_at c.network a).state (manager_at c.network b).state k + credit (manager_at c.network b).state (manager_at c.network a).state l = omega (arith, enough) in e) (worked c r has))
  suffice (suc n) c r enough = at (either c r) (suffice n (course_after c (map well (meeting a b now))))
    where
      at : IsDrained c.network a b ⊎ Has c
          → (AreReady known (course_after c (map well (meeting a b now))) a b k l → Enough n (course_after c (map well (meeting a b now)))
          → IsDrained (course_after (course_after c (map well (meeting a b now))) (map well (meetings a b now n))).network a b)
          → IsDrained (course_after c (map well (meetings a b now (suc n)))).network a b
      at (inl drained) rest = stays_drained (suc n) c r.run r.first r.second drained
      at (inr has) rest = let m = some c r has in rest (ready_with c r m)
          (one_less (state_work (manager_at (z c r).network a).state + state_work (manager_at (z c r).network b).state) (state_work (manager_at c.network a).state + state_work (manager_at c.network b).state)
          (credit (manager_at c.network a).state (manager_at c.network b).state k + credit (manager_at c.network b).state (manager_at c.network a).state l)
          (credit (manager_at (z c r).network a).state (manager_at (z c r).network b).state k + credit (manager_at (z c r).network b).state (manager_at (z c r).network a).state l) n (falls c r m) enough)

-- The moves that start managers are in order.
pub restarts_drafted : (ms : List Move) (is : List ℕ) → map (λ m. m.event) ms ≡ map (λ i. event.Restart i) is → All (λ (m : Move). IsDraftedEvent m.event) ms
restarts_drafted ms is are = All-from_recursion (λ (m : Move). IsDraftedEvent m.event) ms (each ms is are)
  where
    each : (ms : List Move) (is : List ℕ) → map (λ m. m.event) ms ≡ map (λ i. event.Restart i) is → AllByRecursion (λ (m : Move). IsDraftedEvent m.event) ms
    each [] is are = tt
    each (m ∷ ms) [] are = absurd (let no : ⊥ = cc in no)
    each (m ∷ ms) (i ∷ is) are = (
      let e : m.event ≡ event.Restart i = cc in subst IsDraftedEvent (sym e) tt,
      let rest : map (λ x. x.event) ms ≡ map (λ k. event.Restart k) is = cc in each ms is rest,
    )

pub starts_drafted : (ms : List Move) (a b : ℕ) → map (λ m. m.event) ms ≡ starts a b → All (λ (m : Move). IsDraftedEvent m.event) ms
starts_drafted ms a b are = restarts_drafted ms (a ∷ b ∷ []) are

pub recovers : HistoriesAreOrderly → RunsHaveHistories → AlwaysValid → AlwaysAccord → HearsAll → Recovers
recovers orderly histories always accords hears known before ms a b now order drafted run in_a in_b differ starts stamps other_stamps =
    suffice known order hears fact a b now in_a in_b differ h.place_a h.place_b (work c.network a b) c ready (omega arith)
  where
    fact : (c : Course) → InRun known c → Facts known c
    fact = facts_of orderly histories always accords known order

    first : Course
    first = after_run known before

    c : Course
    c = course_after first ms

    run_c : InRun known c
    run_c = run_on known first ms (record { moves = before; is = refl; drafted = drafted; run = run }) starts.run (starts_drafted ms a b starts.events)

    o : IsOrderly known first
    o = run_is_orderly orderly histories known before order.apart run

    within_a : a < length first.network.managers
    within_a = subst (λ n. a < n) (sym o.count) in_a

    within_b : b < length first.network.managers
    within_b = subst (λ n. b < n) (sym o.count) in_b

    alone : IsAlone c.network a × IsAlone c.network b
    alone = both_alone first ms a b within_a within_b starts.events starts.good

    express : IsWithoutExpress (manager_at c.network a).state × IsWithoutExpress (manager_at c.network b).state
    express = both_have (λ m. IsWithoutExpress m.state) parted_none started_express first ms a b within_a within_b starts.events starts.good

    h : ArePartners c.network a b (manager_at c.network a).state (manager_at c.network b).state
    h = partners known order.apart c (fact c run_c).orderly a b in_a in_b differ alone.0 alone.1

    ready : AreReady known c a b h.place_a h.place_b
    ready = record {
      run = run_c;
      first = alone.0;
      second = alone.1;
      express = express.0;
      other_express = express.1;
      stamps = stamps;
      other_stamps = other_stamps;
      knows = h.knows;
      known_by = h.known;
    }
