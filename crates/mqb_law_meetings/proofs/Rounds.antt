-- Meetings of two managers among many: the others stay, and all are alone again.
use Rattle.std.proofs.Common.{◌≡◌, ℕ, zero, suc, ◌+◌, ◌<◌, ◌≤◌, ◌⊎◌, inl, inr, ◌==◌, ◌||◌, Bool, true, false, not, List, [], ◌∷◌, Option, Some, None, refl, sym, ap, subst, ◌∙◌, arith}
use Rattle.std.proofs.lemmas.Bool.{true≢false}
use Rattle.std.proofs.lemmas.Bool.Decides.{nat_tests}
use Rattle.std.specs.List.{AllByRecursion, list_any}
use Rattle.std.specs.Option.{option_map_or}
use Rattle.std.specs.Prelude.{IfSome, length, map, slice_get}
use Rattle.mqb_base.specs.declared.ids.Identity.{Identity}
use Rattle.mqb_base.specs.declared.message.Message.{Message}
use Rattle.mqb_fate.specs.Asking.{is_ordinary}
use Rattle.mqb_history.specs.Drafted.{AreInOrder}
use Rattle.mqb_model.specs.managers.Manager.{Manager, unlinked}
use Rattle.mqb_model.specs.managers.Readers.{awaits, has_plain, is_outstanding_to}
use Rattle.mqb_model.specs.state.Resolving.{peer_known}
use Rattle.mqb_model.specs.state.State.{State}
use Rattle.mqb_network.specs.Courses.{Course}
use Rattle.mqb_network.specs.Network.{manager_at}
use Rattle.mqb_network.specs.Runs.{course_after}
use Rattle.mqb_network.specs.Scripts.{well}
use Rattle.mqb_plain.specs.Plain.{PlainLists, count}
use Rattle.mqb_plain.specs.declared.outgoing.Outgoing.{Outgoing}
use Rattle.mqb_law_meetings.specs.Drained.{IsAlone, IsDrained}
use Rattle.mqb_law_meetings.specs.Meetings.{meeting, meetings}
use Rattle.mqb_law_meetings.specs.Recovery.{AreStamped}
use Rattle.mqb_law_meetings.specs.Work.{state_work}
use Rattle.mqb_law_meetings.proofs.Bounds.{none_first}
use Rattle.mqb_law_meetings.proofs.Knowing.{partners}
use Rattle.mqb_law_meetings.proofs.Lacking.{BringsNone, HasNone, Lacks, Lessens, brings_still, each_fails, none_passes, of_ordinary, parted_lessens, stays, then}
use Rattle.mqb_law_meetings.proofs.Lists.{apart_numbers, equal_numbers}
use Rattle.mqb_law_meetings.proofs.Meeting.{ArePartners}
use Rattle.mqb_law_meetings.proofs.Meets.{parted_express, parted_work}
use Rattle.mqb_law_meetings.proofs.Members.{all_there}
use Rattle.mqb_law_meetings.proofs.Recovering as pair
use Rattle.mqb_law_meetings.proofs.Recovering.{AreReady, knows_still}
use Rattle.mqb_law_meetings.proofs.Running.{Facts, InRun}
use Rattle.mqb_law_meetings.proofs.Sides.{HearsAll}
use Rattle.mqb_law_meetings.proofs.Turns.{IsWithoutExpress, credit, row_credit}
use Rattle.mqb_law_meetings.proofs.Vain.{parted_state, vain_meeting}

-- What a manager has for a peer, and what it lacks.

-- a manager that has nothing lacks everything
pub drained_lacks : (test : Message → Bool) (s : State) (k : ℕ) → is_outstanding_to s k ≡ false → Lacks test s k
drained_lacks test s k none = record { plain = plain (slice_get s.plain k) none; rows = each_fails (awaits k) s.outs (rows (option_map_or has_plain (slice_get s.plain k) false) none) }
  where
    rows : (b : Bool) → (b || list_any (awaits k) s.outs) ≡ false → list_any (awaits k) s.outs ≡ false
    rows true e = absurd (true≢false e)
    rows false e = e

    empty : (p : PlainLists) → (has_plain p || list_any (awaits k) s.outs) ≡ false → HasNone test p
    empty p e = at p.recoverable refl
      where
        some : (n : ℕ) → not (suc n == 0) ≡ true
        some n = grind (arith, nat_tests)

        at : (os : List Outgoing) → p.recoverable ≡ os → AllByRecursion (λ o. test o.message ≡ false) os
        at [] is = tt
        at (o ∷ os) is = absurd (true≢false (sym (ap (λ b. b || list_any (awaits k) s.outs) (ap (λ n. not (n == 0)) more ∙ some (length os + length p.express))) ∙ e))
          where
            more : count p ≡ suc (length os + length p.express)
            more = let one = ap (λ (xs : List Outgoing). length xs) is in omega (arith, one)

    plain : (o : Option PlainLists) → (option_map_or has_plain o false || list_any (awaits k) s.outs) ≡ false → IfSome o (HasNone test)
    plain None e = tt
    plain (Some p) e = empty p e

-- one that has nothing express, and lacks everything, has nothing
pub lacks_drained : (s : State) (k : ℕ) → IsWithoutExpress s → Lacks (λ m. true) s k → is_outstanding_to s k ≡ false
lacks_drained s k express h = ap (λ b. option_map_or has_plain (slice_get s.plain k) false || b) (none_passes (awaits k) s.outs h.rows) ∙ either (option_map_or has_plain (slice_get s.plain k) false) (plain (slice_get s.plain k) refl h.plain)
  where
    either : (b : Bool) → b ≡ false → (b || false) ≡ false
    either true e = e
    either false e = e

    none : (p : PlainLists) → p.express ≡ [] → HasNone (λ m. true) p → has_plain p ≡ false
    none p no_express has = at p.recoverable refl
      where
        at : (os : List Outgoing) → p.recoverable ≡ os → has_plain p ≡ false
        at [] is = ap (λ n. not (n == 0)) (let one = ap (λ (xs : List Outgoing). length xs) is in let two = ap (λ (xs : List Outgoing). length xs) no_express in
            let both : length p.recoverable + length p.express ≡ 0 = omega (arith, one, two) in both)
        at (o ∷ os) is = absurd (let all : AllByRecursion (λ (x : Outgoing). true ≡ false) (o ∷ os) = subst (λ (xs : List Outgoing). AllByRecursion (λ x. true ≡ false) xs) is has in true≢false all.0)

    plain : (o : Option PlainLists) → slice_get s.plain k ≡ o → IfSome o (HasNone (λ m. true)) → option_map_or has_plain o false ≡ false
    plain None e h = refl
    plain (Some p) e h = none p (all_there (λ (q : PlainLists). q.express ≡ []) s.plain k p express e) h

-- nothing is credited to it
pub drained_credit : (s t : State) (k : ℕ) → is_outstanding_to s k ≡ false → credit s t k ≡ 0
drained_credit s t k none = ap (λ o. option_map_or (row_credit t) o 0) (none_first s k (awaits k) s.outs (none_passes (awaits k) s.outs (drained_lacks (λ m. true) s k none).rows))

module _ (known : List Identity) (order : AreInOrder known) (hears : HearsAll) (fact : (c : Course) → InRun known c → Facts known c) (now : ℕ) where
  -- all managers are alone, at a point of a run
  pub record AllReady (c : Course) : Type 0 where
    pub run : InRun known c
    pub alone : (i : ℕ) → i < length known → IsAlone c.network i
    pub express : (i : ℕ) → i < length known → IsWithoutExpress (manager_at c.network i).state
    pub stamps : (i : ℕ) → i < length known → AreStamped (manager_at c.network i).state

  -- whatever a manager lacked it lacks
  abbrev pub Lessen : (Message → Bool) → Course → Course → Type 0
  Lessen test c z = (v : ℕ) → Lessens test (manager_at c.network v).state (manager_at z.network v).state

  pub then_all : (test : Message → Bool) (c y z : Course) → Lessen test c y → Lessen test y z → Lessen test c z
  then_all test c y z one two v = then test (manager_at c.network v).state (manager_at y.network v).state (manager_at z.network v).state (one v) (two v)

  module _ (a b : ℕ) (in_a : a < length known) (in_b : b < length known) (differ : a ≡ b → ⊥) where
    abbrev pub both : Course → ℕ
    both c = state_work (manager_at c.network a).state + state_work (manager_at c.network b).state

    abbrev pub Others : Course → Course → Type 0
    Others c z = (v : ℕ) → (a ≡ v → ⊥) → (b ≡ v → ⊥) → manager_at z.network v ≡ manager_at c.network v

    -- what holds of the two, and of each other one, holds of each
    by_index : (P : ℕ → Type 0) → P a → P b → ((v : ℕ) → (a ≡ v → ⊥) → (b ≡ v → ⊥) → P v) → (v : ℕ) → P v
    by_index P of_a of_b of_others v = at (a == v) refl (b == v) refl
      where
        at : (p : Bool) → (a == v) ≡ p → (q : Bool) → (b == v) ≡ q → P v
        at true e q f = subst P (equal_numbers a v e) of_a
        at false e true f = subst P (equal_numbers b v f) of_b
        at false e false f = of_others v (apart_numbers a v e) (apart_numbers b v f)

    lessen_by : (test : Message → Bool) (c z : Course) → Others c z → Lessens test (manager_at c.network a).state (manager_at z.network a).state
        → Lessens test (manager_at c.network b).state (manager_at z.network b).state → Lessen test c z
    lessen_by test c z others of_a of_b = by_index (λ v. Lessens test (manager_at c.network v).state (manager_at z.network v).state) of_a of_b
        (λ v not_a not_b. subst (λ (m : Manager). Lessens test (manager_at c.network v).state m.state) (sym (others v not_a not_b)) (stays test (manager_at c.network v).state))

    module _ (k l : ℕ) where
      abbrev pub credits : Course → ℕ
      credits c = credit (manager_at c.network a).state (manager_at c.network b).state k + credit (manager_at c.network b).state (manager_at c.network a).state l

      -- they know each other by these indexes
      pub record Know (c : Course) : Type 0 where
        pub knows : peer_known (manager_at c.network a).state (manager_at c.network b).state.identity.guid ≡ Some k
        pub known_by : peer_known (manager_at c.network b).state (manager_at c.network a).state.identity.guid ≡ Some l

      -- what meetings leave
      pub record AllMet (c z : Course) : Type 0 where
        pub ready : AllReady z
        pub know : Know z
        pub lessen : (test : Message → Bool) → BringsNone test (manager_at c.network a).state k → BringsNone test (manager_at c.network b).state l → Lessen test c z
        pub others : Others c z
        pub falls : both z + credits c ≤ both c + credits z

      pub two_ready : (c : Course) → AllReady c → Know c → AreReady known c a b k l
      two_ready c r w = record {
        run = r.run;
        first = r.alone a in_a;
        second = r.alone b in_b;
        express = r.express a in_a;
        other_express = r.express b in_b;
        stamps = r.stamps a in_a;
        other_stamps = r.stamps b in_b;
        knows = w.knows;
        known_by = w.known_by;
      }

      all_ready : (c z : Course) → AllReady c → AreReady known z a b k l → Others c z → AllReady z
      all_ready c z r two others = record {
        run = two.run;
        alone = by_index (λ v. v < length known → IsAlone z.network v) (λ inside. two.first) (λ inside. two.second)
            (λ v not_a not_b inside. subst (λ (m : Manager). m ≡ unlinked m.state) (sym (others v not_a not_b)) (r.alone v inside));
        express = by_index (λ v. v < length known → IsWithoutExpress (manager_at z.network v).state) (λ inside. two.express) (λ inside. two.other_express)
            (λ v not_a not_b inside. subst (λ (m : Manager). IsWithoutExpress m.state) (sym (others v not_a not_b)) (r.express v inside));
        stamps = by_index (λ v. v < length known → AreStamped (manager_at z.network v).state) (λ inside. two.stamps) (λ inside. two.other_stamps)
            (λ v not_a not_b inside. subst (λ (m : Manager). AreStamped m.state) (sym (others v not_a not_b)) (r.stamps v inside));
      }

      -- A meeting.
      meeting_on : (c : Course) → AllReady c → Know c → AllMet c (course_after c (map well (meeting a b now)))
      meeting_on c r w = at (pair.either known order hears fact a b now in_a in_b differ k l c (two_ready c r w))
        where
          z : Course
          z = course_after c (map well (meeting a b now))

          s : State
          s = (manager_at c.network a).state

          t : State
          t = (manager_at c.network b).state

          h : ArePartners c.network a b s t
          h = partners known order.apart c (fact c r.run).orderly a b in_a in_b differ (r.alone a in_a) (r.alone b in_b)

          in_vain : IsDrained c.network a b → AllMet c z
          in_vain drained =
              let v = vain_meeting c a b now s t h drained in
              let of_a : (manager_at z.network a).state ≡ parted_state s = ap (λ (m : Manager). m.state) v.at_a in
              let of_b : (manager_at z.network b).state ≡ parted_state t = ap (λ (m : Manager). m.state) v.at_b in
              let two = pair.ready_again known order hears fact a b now in_a in_b differ k l c (two_ready c r w) v.meets.first v.meets.second
              (subst (λ (x : State). IsWithoutExpress x) (sym of_a) (parted_express s (r.express a in_a))) (subst (λ (x : State). IsWithoutExpress x) (sym of_b) (parted_express t (r.express b in_b)))
              (subst (λ (x : State). AreStamped x) (sym of_a) (r.stamps a in_a)) (subst (λ (x : State). AreStamped x) (sym of_b) (r.stamps b in_b)) in
              let same : both z ≡ both c = ap (λ (x : State). state_work x + state_work (manager_at z.network b).state) of_a ∙ ap (λ (x : State). state_work (parted_state s) + state_work x) of_b
              ∙ ap (λ n. n + state_work (parted_state t)) (parted_work s) ∙ ap (λ n. state_work s + n) (parted_work t) in
              let credited : credits z ≡ credits c = ap (λ (x : State). credit x (manager_at z.network b).state k + credit (manager_at z.network b).state x l) of_a
              ∙ ap (λ (x : State). credit (parted_state s) x k + credit x (parted_state s) l) of_b in
              record {
                ready = all_ready c z r two v.others;
                know = record { knows = two.knows; known_by = two.known_by };
                lessen = λ test brings other_brings. lessen_by test c z v.others (subst (λ (x : State). Lessens test s x) (sym of_a) (parted_lessens test s)) (subst (λ (x : State). Lessens test t x) (sym of_b) (parted_lessens test t));
                others = v.others;
                falls = omega (arith, same, credited);
              }

          wanted : pair.Has known order hears fact a b now in_a in_b differ k l c → AllMet c z
          wanted has =
              let two = two_ready c r w in
              let m = pair.some known order hears fact a b now in_a in_b differ k l c two has in
              let falls = pair.falls known order hears fact a b now in_a in_b differ k l c two m in
              let again = pair.ready_with known order hears fact a b now in_a in_b differ k l c two m in
              let first = pair.place_is known order hears fact a b now in_a in_b differ k l c two in
              let second = pair.other_place_is known order hears fact a b now in_a in_b differ k l c two in
              record {
                ready = all_ready c z r again m.others;
                know = record { knows = again.knows; known_by = again.known_by };
                lessen = λ test brings other_brings. let less = m.lessens test (subst (λ n. BringsNone test s n) (sym first) brings) (subst (λ n. BringsNone test t n) (sym second) other_brings) in
                    lessen_by test c z m.others (subst (λ (x : Manager). Lessens test s x.state) (sym m.at_a) less.0) (subst (λ (x : Manager). Lessens test t x.state) (sym m.at_b) less.1);
                others = m.others;
                falls = omega (arith, falls);
              }

          at : IsDrained c.network a b ⊎ pair.Has known order hears fact a b now in_a in_b differ k l c → AllMet c z
          at (inl drained) = in_vain drained
          at (inr has) = wanted has

      one_then : (c y z : Course) → AllMet c y → AllMet y z → AllMet c z
      one_then c y z one two = record {
        ready = two.ready;
        know = two.know;
        lessen = λ test brings other_brings.
            let less = one.lessen is_ordinary (inr of_ordinary) (inr of_ordinary) in
            then_all test c y z (one.lessen test brings other_brings)
            (two.lessen test (brings_still test (manager_at c.network a).state (manager_at y.network a).state k (less a) brings)
            (brings_still test (manager_at c.network b).state (manager_at y.network b).state l (less b) other_brings));
        others = λ v not_a not_b. two.others v not_a not_b ∙ one.others v not_a not_b;
        falls = let e = one.falls in let f = two.falls in omega (arith, e, f);
      }

      pub meetings_on : (count : ℕ) (c : Course) → AllReady c → Know c → AllMet c (course_after c (map well (meetings a b now count)))
      meetings_on zero c r w = record {
        ready = r;
        know = w;
        lessen = λ test brings other_brings v. stays test (manager_at c.network v).state;
        others = λ v not_a not_b. refl;
        falls = omega arith;
      }
      meetings_on (suc n) c r w =
          let one = meeting_on c r w in
          one_then c (course_after c (map well (meeting a b now))) (course_after c (map well (meetings a b now (suc n)))) one
          (meetings_on n (course_after c (map well (meeting a b now))) one.ready one.know)
