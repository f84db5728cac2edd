-- Two rounds bring everything over: behind the first one only notices wait, and what is heard in the second one brings none.
use Rattle.std.proofs.Common.{◌≡◌, ℕ, ◌+◌, ◌<◌, ◌≤◌, ◌⊎◌, inl, inr, Bool, true, false, nat_lt, List, [], ◌∷◌, Option, Some, refl, sym, ap, subst, ◌∙◌, arith}
use Rattle.std.proofs.lemmas.Bool.Decides.{nat_tests}
use Rattle.std.specs.List.{AllByRecursion, flat_map, range_with_len}
use Rattle.std.specs.Prelude.{length, map, unwrap_or}
use Rattle.mqb_base.specs.declared.ids.Identity.{Identity}
use Rattle.mqb_base.specs.declared.message.Message.{Message}
use Rattle.mqb_exactly_once.specs.Words.{In}
use Rattle.mqb_fate.specs.Asking.{is_ordinary}
use Rattle.mqb_history.specs.Drafted.{AlwaysValid, AreInOrder}
use Rattle.mqb_history.specs.Laws.{HistoriesAreOrderly, RunsHaveHistories}
use Rattle.mqb_model.specs.managers.Manager.{Manager, is_down, unlinked}
use Rattle.mqb_model.specs.managers.Readers.{is_outstanding_to}
use Rattle.mqb_model.specs.state.Resolving.{peer_known}
use Rattle.mqb_model.specs.state.State.{State}
use Rattle.mqb_network.specs.Courses.{Course}
use Rattle.mqb_network.specs.Network.{manager_at, nobody}
use Rattle.mqb_network.specs.Runs.{after_run, course_after}
use Rattle.mqb_network.specs.Scripts.{well}
use Rattle.mqb_law_meetings.specs.Drained.{IsDrained}
use Rattle.mqb_law_meetings.specs.Meetings.{meetings}
use Rattle.mqb_law_meetings.specs.Recovery.{AreStamped}
use Rattle.mqb_law_meetings.specs.Rounds.{AllRecover, all_met, behind_round, pairs, round, work_of_all}
use Rattle.mqb_law_meetings.specs.Work.{state_work}
use Rattle.mqb_law_meetings.proofs.Knowing.{partners}
use Rattle.mqb_law_meetings.proofs.Lacking.{BringsNone, IsOfOrdinary, Lacks, of_ordinary, stays}
use Rattle.mqb_law_meetings.proofs.Lists.{within_get}
use Rattle.mqb_law_meetings.proofs.Meeting.{ArePartners}
use Rattle.mqb_law_meetings.proofs.Members.{all_there}
use Rattle.mqb_law_meetings.proofs.Pairs.{AreTwo, in_range, paired, pairs_are_two, round_split}
use Rattle.mqb_law_meetings.proofs.Recovering as pair
use Rattle.mqb_law_meetings.proofs.Recovering.{knows_still, parted_none, restarts_drafted, started_express}
use Rattle.mqb_law_meetings.proofs.Rounds as rounds
use Rattle.mqb_law_meetings.proofs.Rounds.{AllMet, AllReady, Know, Lessen, drained_credit, drained_lacks, lacks_drained, then_all}
use Rattle.mqb_law_meetings.proofs.Running.{AlwaysAccord, Facts, InRun, facts_of, run_on}
use Rattle.mqb_law_meetings.proofs.Sides.{HearsAll}
use Rattle.mqb_law_meetings.proofs.Starting.{all_have, parted_alone, started_alone}
use Rattle.mqb_law_meetings.proofs.Totals.{two_changed, two_within}
use Rattle.mqb_law_meetings.proofs.Turns.{IsWithoutExpress}
use Rattle.mqb_law_meetings.proofs.Vain.{has_is}

module _ (known : List Identity) (order : AreInOrder known) (hears : HearsAll) (fact : (c : Course) → InRun known c → Facts known c) (now : ℕ) where
  abbrev Ready : Course → Type 0
  Ready c = AllReady known order hears fact now c

  abbrev LessenAll : (Message → Bool) → Course → Course → Type 0
  LessenAll test c z = Lessen known order hears fact now test c z

  abbrev LacksFor : (Message → Bool) → Course → ℕ → ℕ → Type 0
  LacksFor test c a b = (k : ℕ) → peer_known (manager_at c.network a).state (manager_at c.network b).state.identity.guid ≡ Some k → Lacks test (manager_at c.network a).state k

  -- neither of two has what passes a test for the other one
  record IsClear (test : Message → Bool) (c : Course) (p : ℕ × ℕ) : Type 0 where
    there : LacksFor test c p.0 p.1
    back : LacksFor test c p.1 p.0

  lacks_on : (test : Message → Bool) (c z : Course) → InRun known c → InRun known z → LessenAll test c z → (a b : ℕ) → a < length known → b < length known → LacksFor test c a b → LacksFor test z a b
  lacks_on test c z run_c run_z less a b in_a in_b lacks k knows = (less a).lacks k (lacks k (knows_still known z c (fact z run_z).orderly (fact c run_c).orderly a b k in_a in_b knows))

  clear_on : (test : Message → Bool) (c z : Course) → InRun known c → InRun known z → LessenAll test c z → (p : ℕ × ℕ) → AreTwo (length known) p → IsClear test c p → IsClear test z p
  clear_on test c z run_c run_z less p two clear = record {
    there = lacks_on test c z run_c run_z less p.0 p.1 two.first two.second clear.there;
    back = lacks_on test c z run_c run_z less p.1 p.0 two.second two.first clear.back;
  }

  all_clear_on : (test : Message → Bool) (c z : Course) → InRun known c → InRun known z → LessenAll test c z → (ps : List (ℕ × ℕ)) → AllByRecursion (AreTwo (length known)) ps
      → AllByRecursion (IsClear test c) ps → AllByRecursion (IsClear test z) ps
  all_clear_on test c z run_c run_z less [] two clear = tt
  all_clear_on test c z run_c run_z less (p ∷ ps) two clear = (clear_on test c z run_c run_z less p two.0 clear.0, all_clear_on test c z run_c run_z less ps two.1 clear.1)

  -- The meetings of a pair.

  -- what a part of a round leaves
  record Leaves (test : Message → Bool) (c z : Course) (ps : List (ℕ × ℕ)) : Type 0 where
    ready : Ready z
    lessen : LessenAll test c z
    notices : LessenAll is_ordinary c z
    fewer : work_of_all z.network ≤ work_of_all c.network
    clear : AllByRecursion (IsClear test z) ps

  module _ (test : Message → Bool) (count : ℕ) where
    pair_leaves : (p : ℕ × ℕ) → AreTwo (length known) p → (c : Course) → Ready c → work_of_all c.network ≤ count → IsClear is_ordinary c p ⊎ IsOfOrdinary test
        → Leaves test c (course_after c (map well (meetings p.0 p.1 now count))) (p ∷ [])
    pair_leaves p two c r within brings = record {
      ready = met.ready;
      lessen = met.lessen test (brought brings).0 (brought brings).1;
      notices = met.lessen is_ordinary (inr of_ordinary) (inr of_ordinary);
      fewer = fewer;
      clear = (
        record {
          there = λ k knows. drained_lacks test (manager_at z.network a).state k (none_there k knows);
          back = λ k knows. drained_lacks test (manager_at z.network b).state k (none_back k knows);
        },
        tt,
      );
    }
      where
        a : ℕ
        a = p.0

        b : ℕ
        b = p.1

        z : Course
        z = course_after c (map well (meetings a b now count))

        h : ArePartners c.network a b (manager_at c.network a).state (manager_at c.network b).state
        h = partners known order.apart c (fact c r.run).orderly a b two.first two.second two.differ (r.alone a two.first) (r.alone b two.second)

        know : Know known order hears fact now a b two.first two.second two.differ h.place_a h.place_b c
        know = record { knows = h.knows; known_by = h.known }

        met : AllMet known order hears fact now a b two.first two.second two.differ h.place_a h.place_b c z
        met = rounds.meetings_on known order hears fact now a b two.first two.second two.differ h.place_a h.place_b count c r know

        -- two of all have no more than all
        some : state_work (manager_at c.network a).state + state_work (manager_at c.network b).state ≤ work_of_all c.network
        some = two_within c.network.managers a b h.in_a h.in_b two.differ

        drained : IsDrained z.network a b
        drained = pair.suffice known order hears fact a b now two.first two.second two.differ h.place_a h.place_b count c
            (rounds.two_ready known order hears fact now a b two.first two.second two.differ h.place_a h.place_b c r know) (let e = some in omega (arith, e, within))

        none_there : (k : ℕ) → peer_known (manager_at z.network a).state (manager_at z.network b).state.identity.guid ≡ Some k → is_outstanding_to (manager_at z.network a).state k ≡ false
        none_there k knows = sym (has_is z.network a b k (manager_at z.network a).state (manager_at z.network b).state (met.ready.alone a two.first) (met.ready.alone b two.second) knows) ∙ drained.first

        none_back : (k : ℕ) → peer_known (manager_at z.network b).state (manager_at z.network a).state.identity.guid ≡ Some k → is_outstanding_to (manager_at z.network b).state k ≡ false
        none_back k knows = sym (has_is z.network b a k (manager_at z.network b).state (manager_at z.network a).state (met.ready.alone b two.second) (met.ready.alone a two.first) knows) ∙ drained.second

        brought : IsClear is_ordinary c p ⊎ IsOfOrdinary test → BringsNone test (manager_at c.network a).state h.place_a × BringsNone test (manager_at c.network b).state h.place_b
        brought (inl clear) = (inl (clear.there h.place_a h.knows), inl (clear.back h.place_b h.known))
        brought (inr silent) = (inr silent, inr silent)

        fewer : work_of_all z.network ≤ work_of_all c.network
        fewer =
            let e = two_changed c.network.managers a b h.in_a h.in_b two.differ z.network.managers ((fact z met.ready.run).orderly.count ∙ sym (fact c r.run).orderly.count) met.others in
            let f = met.falls in
            let one = drained_credit (manager_at z.network a).state (manager_at z.network b).state h.place_a (none_there h.place_a met.know.knows) in
            let other = drained_credit (manager_at z.network b).state (manager_at z.network a).state h.place_b (none_back h.place_b met.know.known_by) in
            omega (arith, e, f, one, other)

    -- A round, or a part of one.

    abbrev Brings : Course → List (ℕ × ℕ) → Type 0
    Brings c ps = AllByRecursion (IsClear is_ordinary c) ps ⊎ IsOfOrdinary test

    abbrev behind : List (ℕ × ℕ) → Course → Course
    behind ps c = course_after c (map well (flat_map (λ (p : ℕ × ℕ). meetings p.0 p.1 now count) ps))

    leave_then : (p : ℕ × ℕ) (ps : List (ℕ × ℕ)) → AllByRecursion (AreTwo (length known)) (p ∷ ps) → (c : Course) → Ready c → work_of_all c.network ≤ count → Brings c (p ∷ ps)
        → ((y : Course) → Ready y → work_of_all y.network ≤ count → Brings y ps → Leaves test y (behind ps y) ps) → Leaves test c (behind (p ∷ ps) c) (p ∷ ps)
    leave_then p ps two c r within brings others = subst (λ (u : Course). Leaves test c u (p ∷ ps)) (sym (round_split c p ps now count)) (record {
      ready = rest.ready;
      lessen = then_all known order hears fact now test c y (behind ps y) first.lessen rest.lessen;
      notices = then_all known order hears fact now is_ordinary c y (behind ps y) first.notices rest.notices;
      fewer = let e = first.fewer in let f = rest.fewer in omega (arith, e, f);
      clear = (clear_on test y (behind ps y) first.ready.run rest.ready.run rest.lessen p two.0 first.clear.0, rest.clear);
    })
      where
        head : Brings c (p ∷ ps) → IsClear is_ordinary c p ⊎ IsOfOrdinary test
        head (inl clear) = inl clear.0
        head (inr silent) = inr silent

        y : Course
        y = course_after c (map well (meetings p.0 p.1 now count))

        first : Leaves test c y (p ∷ [])
        first = pair_leaves p two.0 c r within (head brings)

        tail : Brings c (p ∷ ps) → Brings y ps
        tail (inl clear) = inl (all_clear_on is_ordinary c y r.run first.ready.run first.notices ps two.1 clear.1)
        tail (inr silent) = inr silent

        rest : Leaves test y (behind ps y) ps
        rest = others y first.ready (let e = first.fewer in omega (arith, e, within)) (tail brings)

    all_leave : (ps : List (ℕ × ℕ)) → AllByRecursion (AreTwo (length known)) ps → (c : Course) → Ready c → work_of_all c.network ≤ count → Brings c ps → Leaves test c (behind ps c) ps
    all_leave [] two c r within brings = record {
      ready = r;
      lessen = λ v. stays test (manager_at c.network v).state;
      notices = λ v. stays is_ordinary (manager_at c.network v).state;
      fewer = omega arith;
      clear = tt;
    }
    all_leave (p ∷ ps) two c r within brings = leave_then p ps two c r within brings (all_leave ps two.1)

    round_leaves : (c : Course) → Ready c → work_of_all c.network ≤ count → Brings c (pairs (length known)) → Leaves test c (behind_round count now c) (pairs (length known))
    round_leaves c r within brings = subst (λ n. Leaves test c (course_after c (map well (round n now count))) (pairs (length known))) (sym (fact c r.run).orderly.count)
        (all_leave (pairs (length known)) (pairs_are_two (length known) (length known) (omega arith)) c r within brings)

  -- All of them.

  both_rounds : (c : Course) → Ready c → Leaves (λ m. true) (behind_round (work_of_all c.network) now c) (all_met c now) (pairs (length known))
  both_rounds c r =
      let first = round_leaves is_ordinary (work_of_all c.network) c r (omega arith) (inr of_ordinary) in
      round_leaves (λ m. true) (work_of_all c.network) (behind_round (work_of_all c.network) now c) first.ready first.fewer (inl first.clear)

  clear_drained : (c : Course) → Ready c → (a b : ℕ) → a < length known → b < length known → (a ≡ b → ⊥) → LacksFor (λ m. true) c a b → LacksFor (λ m. true) c b a → IsDrained c.network a b
  clear_drained c r a b in_a in_b differ there back = record {
    first_up = ap (λ (m : Manager). is_down m) (r.alone a in_a);
    second_up = ap (λ (m : Manager). is_down m) (r.alone b in_b);
    first = has_is c.network a b h.place_a s t h.at_a h.at_b h.knows ∙ lacks_drained s h.place_a (r.express a in_a) (there h.place_a h.knows);
    second = has_is c.network b a h.place_b t s h.at_b h.at_a h.known ∙ lacks_drained t h.place_b (r.express b in_b) (back h.place_b h.known);
  }
    where
      s : State
      s = (manager_at c.network a).state

      t : State
      t = (manager_at c.network b).state

      h : ArePartners c.network a b s t
      h = partners known order.apart c (fact c r.run).orderly a b in_a in_b differ (r.alone a in_a) (r.alone b in_b)

  pub all_drained : (c : Course) → Ready c → (a b : ℕ) → a < length known → b < length known → (a ≡ b → ⊥) → IsDrained (all_met c now).network a b
  all_drained c r a b in_a in_b differ = at (nat_lt a b) refl
    where
      left : Leaves (λ m. true) (behind_round (work_of_all c.network) now c) (all_met c now) (pairs (length known))
      left = both_rounds c r

      less : nat_lt a b ≡ true → a < b
      less h = grind (arith, nat_tests, h)

      more : nat_lt a b ≡ false → (a ≡ b → ⊥) → b < a
      more h g = grind (arith, nat_tests, h, g)

      at : (t : Bool) → nat_lt a b ≡ t → IsDrained (all_met c now).network a b
      at true e = let clear = paired (IsClear (λ m. true) (all_met c now)) (length known) a b (less e) in_b left.clear in
          clear_drained (all_met c now) left.ready a b in_a in_b differ clear.there clear.back
      at false e = let clear = paired (IsClear (λ m. true) (all_met c now)) (length known) b a (more e differ) in_a left.clear in
          clear_drained (all_met c now) left.ready a b in_a in_b differ clear.back clear.there

-- Behind the starts all are alone.
pub all_recover : HistoriesAreOrderly → RunsHaveHistories → AlwaysValid → AlwaysAccord → HearsAll → AllRecover
all_recover orderly histories always accords hears known before ms now order drafted run starts stamps = all_drained known order hears fact now c ready
  where
    fact : (c : Course) → InRun known c → Facts known c
    fact = facts_of orderly histories always accords known order

    first : Course
    first = after_run known before

    c : Course
    c = course_after first ms

    run_first : InRun known first
    run_first = record { moves = before; is = refl; drafted = drafted; run = run }

    run_c : InRun known c
    run_c = run_on known first ms run_first starts.run (restarts_drafted ms (range_with_len 0 (length first.network.managers)) starts.events)

    in_first : (i : ℕ) → i < length known → i < length first.network.managers
    in_first i inside = subst (λ n. i < n) (sym (fact first run_first).orderly.count) inside

    among : (i : ℕ) → i < length known → In i (range_with_len 0 (length first.network.managers))
    among i inside = in_range 0 (length first.network.managers) i (omega arith) (let e = in_first i inside in omega (arith, e))

    ready : AllReady known order hears fact now c
    ready = record {
      run = run_c;
      alone = λ i inside. all_have (λ m. m ≡ unlinked m.state) parted_alone started_alone (range_with_len 0 (length first.network.managers)) first ms starts.events starts.good i (in_first i inside)
          (inr (among i inside));
      express = λ i inside. all_have (λ m. IsWithoutExpress m.state) parted_none started_express (range_with_len 0 (length first.network.managers)) first ms starts.events starts.good i (in_first i inside)
          (inr (among i inside));
      stamps = λ i inside. let there = within_get c.network.managers i (subst (λ n. i < n) (sym (fact c run_c).orderly.count) inside) in
          subst (λ (o : Option Manager). AreStamped (unwrap_or o nobody).state) (sym there.1) (all_there (λ (m : Manager). AreStamped m.state) c.network.managers i there.0 stamps there.1);
    }
