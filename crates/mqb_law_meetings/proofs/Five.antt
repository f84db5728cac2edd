-- The five flows of a meeting: whatever was outstanding, the work falls.
use Rattle.std.proofs.Common.{◌≡◌, ℕ, zero, suc, ◌+◌, ◌-◌, ◌<◌, ◌≤◌, inr, Bool, true, refl, sym, ap, subst, ◌∙◌, arith}
use Rattle.std.specs.Prelude.{List, length}
use Rattle.mqb_base.specs.declared.ids.Identity.{Identity}
use Rattle.mqb_base.specs.declared.message.Message.{Message}
use Rattle.mqb_fate.specs.Asking.{is_ordinary}
use Rattle.mqb_model.specs.managers.Manager.{Manager}
use Rattle.mqb_model.specs.managers.Readers.{is_outstanding_to}
use Rattle.mqb_model.specs.state.Resolving.{peer_known}
use Rattle.mqb_network.proofs.Joining.{move_in_course}
use Rattle.mqb_network.specs.Courses.{Course}
use Rattle.mqb_network.specs.Events as event
use Rattle.mqb_network.specs.Network.{Connection, manager_at}
use Rattle.mqb_network.specs.Runs.{moved_on}
use Rattle.mqb_network.specs.Scripts.{well}
use Rattle.mqb_session.specs.State as one_end
use Rattle.mqb_law_meetings.specs.Work.{state_work}
use Rattle.mqb_law_meetings.proofs.Bounds.{promise_most, some_ordinary}
use Rattle.mqb_law_meetings.proofs.Lacking.{BringsNone, Lessens, brings_still, of_ordinary, then}
use Rattle.mqb_law_meetings.proofs.Running.{Facts, InRun, run_move}
use Rattle.mqb_law_meetings.proofs.Sides.{Accord, HearsAll}
use Rattle.mqb_law_meetings.proofs.Standing.{Stands}
use Rattle.mqb_law_meetings.proofs.Stepping.{Moved, both_work, credits}
use Rattle.mqb_law_meetings.proofs.Turned.{turn_moves}
use Rattle.mqb_law_meetings.specs.Recovery.{AreStamped}
use Rattle.mqb_law_meetings.proofs.Turns.{Clear, Turn, Way, credit, ordinaries, promise}

-- Sums.

turned_sum : (s m x y cxy cyx csm cms p r : ℕ) → s + m + (cxy + cyx) + p ≤ x + y + (csm + cms) + r → m + s + (cyx + cxy) + p ≤ y + x + (cms + csm) + r
turned_sum s m x y cxy cyx csm cms p r h = omega (arith, h)

total : (w0 w1 w2 w3 w4 w5 c0 c1 c2 c3 c4 c5 p1 p2 p3 p4 r1 r2 r3 r4 r5 : ℕ) → w1 + c0 + 0 ≤ w0 + c1 + r1 → w2 + c1 + p1 ≤ w1 + c2 + r2 → w3 + c2 + p2 ≤ w2 + c3 + r3 → w4 + c3 + p3 ≤ w3 + c4 + r4 → w5 + c4 + p4 ≤ w4 + c5 + r5
    → r1 + r2 + r3 + r4 + r5 + 1 ≤ p1 + p2 + p3 + p4 → w5 + c0 + 1 ≤ w0 + c5
total w0 w1 w2 w3 w4 w5 c0 c1 c2 c3 c4 c5 p1 p2 p3 p4 r1 r2 r3 r4 r5 one two three four five gain = omega (arith, one, two, three, four, five, gain)

less : (p : ℕ) → p - 1 ≤ p
less p = omega arith

less_one : (p : ℕ) → 1 ≤ p → (p - 1) + 1 ≤ p
less_one p h = omega (arith, h)

gain_first : (p1 p2 p3 p4 p5 : ℕ) → 1 ≤ p1 → p5 ≤ 2 → (1 ≤ p5 - 1 → 1 ≤ p2 + p3) → (p1 - 1) + (p2 - 1) + (p3 - 1) + (p4 - 1) + (p5 - 1) + 1 ≤ p1 + p2 + p3 + p4
gain_first p1 p2 p3 p4 zero one most more = let a = less_one p1 one in let b = less p2 in let c = less p3 in let d = less p4 in let e : zero - 1 ≡ 0 = omega arith in omega (arith, a, b, c, d, e)
gain_first p1 p2 p3 p4 (suc zero) one most more = let a = less_one p1 one in let b = less p2 in let c = less p3 in let d = less p4 in let e : suc zero - 1 ≡ 0 = omega arith in omega (arith, a, b, c, d, e)
gain_first p1 p2 p3 p4 (suc (suc p)) one most more =
    let a = less_one p1 one in
    let d = less p4 in
    let some : 1 ≤ p2 + p3 = more (omega arith) in
    let both : (p2 - 1) + (p3 - 1) + 1 ≤ p2 + p3 = two p2 p3 some in
    let e : suc (suc p) - 1 ≤ 1 = omega (arith, most) in
    omega (arith, a, both, d, e)
  where
    two : (q r : ℕ) → 1 ≤ q + r → (q - 1) + (r - 1) + 1 ≤ q + r
    two q r h = omega (arith, h)

gain_second : (p1 p2 p3 p4 p5 : ℕ) → p1 ≡ 0 → 1 ≤ p2 → p5 - 1 ≡ 0 → (p1 - 1) + (p2 - 1) + (p3 - 1) + (p4 - 1) + (p5 - 1) + 1 ≤ p1 + p2 + p3 + p4
gain_second p1 p2 p3 p4 p5 none one last = let a = less p1 in let b = less_one p2 one in let c = less p3 in let d = less p4 in omega (arith, none, a, b, c, d, last)

module _ (known : List Identity) (hears : HearsAll) (fact : (c : Course) → InRun known c → Facts known c) (now : ℕ) where
  -- one flow
  pub step_on : (c : Course) → InRun known c → (i j : ℕ) → i < length known → j < length known → (i ≡ j → ⊥) → (d : Connection) (x y : Manager) (a b : one_end.State) (k l : ℕ) (own other : Identity) (way : Way) (n : ℕ)
      → Turn x y a b k l own other way n → n < 65535 → AreStamped y.state → Stands c.network i j d x y → Moved c (moved_on c (well (event.Flow i now))) i j d x y k l own other way n
  step_on c r i j in_i in_j differ d x y a b k l own other way n t few stamps st =
      turn_moves c (moved_on c (well (event.Flow i now))) i j now d x y a b k l own other way n t few st (move_in_course c (well (event.Flow i now)))
      (fact (moved_on c (well (event.Flow i now))) (run_move known c (well (event.Flow i now)) r refl tt)).valid hears there back stamps
    where
      there : Accord x.state y.state k
      there = subst (λ (m : Manager). Accord m.state y.state k) st.at_i (subst (λ (m : Manager). Accord (manager_at c.network i).state m.state k) st.at_j
          ((fact c r).accord i j k in_i in_j differ (ap (λ (m : Manager). peer_known m.state (manager_at c.network j).state.identity.guid) st.at_i
          ∙ ap (λ (m : Manager). peer_known x.state m.state.identity.guid) st.at_j ∙ ap (λ (g : Identity). peer_known x.state g.guid) t.other_is ∙ t.one.knows)))

      back : Accord y.state x.state l
      back = subst (λ (m : Manager). Accord m.state x.state l) st.at_j (subst (λ (m : Manager). Accord (manager_at c.network j).state m.state l) st.at_i
          ((fact c r).accord j i l in_j in_i (λ e. differ (sym e)) (ap (λ (m : Manager). peer_known m.state (manager_at c.network i).state.identity.guid) st.at_j
          ∙ ap (λ (m : Manager). peer_known y.state m.state.identity.guid) st.at_i ∙ ap (λ (g : Identity). peer_known y.state g.guid) t.own_is ∙ t.two.knows)))

  module _ (a b : ℕ) (in_a : a < length known) (in_b : b < length known) (differ : a ≡ b → ⊥) (d : Connection) (x y : Manager) (k l : ℕ) (own other : Identity) (z1 z2 : Course) (r2 : InRun known z2)
      (m1 : Moved z1 z2 a b d x y k l own other Clear 0) (stamps : AreStamped x.state) (other_stamps : AreStamped y.state) where
    differ_back : b ≡ a → ⊥
    differ_back e = differ (sym e)

    small : (n : ℕ) → n ≤ 4 → n < 65535
    small n h = omega (arith, h)

    abbrev pub z3 : Course
    z3 = moved_on z2 (well (event.Flow b now))

    abbrev pub z4 : Course
    z4 = moved_on z3 (well (event.Flow a now))

    abbrev pub z5 : Course
    z5 = moved_on z4 (well (event.Flow b now))

    abbrev pub z6 : Course
    z6 = moved_on z5 (well (event.Flow a now))

    pub r3 : InRun known z3
    r3 = run_move known z2 (well (event.Flow b now)) r2 refl tt

    pub r4 : InRun known z4
    r4 = run_move known z3 (well (event.Flow a now)) r3 refl tt

    pub r5 : InRun known z5
    r5 = run_move known z4 (well (event.Flow b now)) r4 refl tt

    pub r6 : InRun known z6
    r6 = run_move known z5 (well (event.Flow a now)) r5 refl tt

    pub m2 : Moved z2 z3 b a d m1.hearer m1.sender l k other own m1.next (0 + 1)
    m2 = step_on z2 r2 b a in_b in_a differ_back d m1.hearer m1.sender m1.heard m1.told l k other own m1.next (0 + 1) m1.turn (small (0 + 1) (omega arith)) (m1.stamps stamps) m1.stands

    pub m3 : Moved z3 z4 a b d m2.hearer m2.sender k l own other m2.next (0 + 1 + 1)
    m3 = step_on z3 r3 a b in_a in_b differ d m2.hearer m2.sender m2.heard m2.told k l own other m2.next (0 + 1 + 1) m2.turn (small (0 + 1 + 1) (omega arith)) (m2.stamps (m1.other_stamps other_stamps)) m2.stands

    pub m4 : Moved z4 z5 b a d m3.hearer m3.sender l k other own m3.next (0 + 1 + 1 + 1)
    m4 = step_on z4 r4 b a in_b in_a differ_back d m3.hearer m3.sender m3.heard m3.told l k other own m3.next (0 + 1 + 1 + 1) m3.turn (small (0 + 1 + 1 + 1) (omega arith))
        (m3.stamps (m2.other_stamps (m1.stamps stamps))) m3.stands

    pub m5 : Moved z5 z6 a b d m4.hearer m4.sender k l own other m4.next (0 + 1 + 1 + 1 + 1)
    m5 = step_on z5 r5 a b in_a in_b differ d m4.hearer m4.sender m4.heard m4.told k l own other m4.next (0 + 1 + 1 + 1 + 1) m4.turn (small (0 + 1 + 1 + 1 + 1) (omega arith))
        (m4.stamps (m3.other_stamps (m2.stamps (m1.other_stamps other_stamps)))) m4.stands

    pub last_stamps : AreStamped m5.sender.state
    last_stamps = m5.stamps (m4.other_stamps (m3.stamps (m2.other_stamps (m1.stamps stamps))))

    pub last_other_stamps : AreStamped m5.hearer.state
    last_other_stamps = m5.other_stamps (m4.stamps (m3.other_stamps (m2.stamps (m1.other_stamps other_stamps))))

    -- what either lacks it still lacks, but for notices about what the other one had
    pub all_lessen : (test : Message → Bool) → BringsNone test x.state k → BringsNone test y.state l → Lessens test x.state m5.sender.state × Lessens test y.state m5.hearer.state
    all_lessen test brings other_brings =
        let c1 = m1.lessens test brings in
        let o1 = m1.lessens is_ordinary (inr of_ordinary) in
        let b1 = brings_still test y.state m1.hearer.state l o1.1 other_brings in
        let a1 = brings_still test x.state m1.sender.state k o1.0 brings in
        let c2 = m2.lessens test b1 in
        let o2 = m2.lessens is_ordinary (inr of_ordinary) in
        let a2 = brings_still test m1.sender.state m2.hearer.state k o2.1 a1 in
        let b2 = brings_still test m1.hearer.state m2.sender.state l o2.0 b1 in
        let c3 = m3.lessens test a2 in
        let o3 = m3.lessens is_ordinary (inr of_ordinary) in
        let b3 = brings_still test m2.sender.state m3.hearer.state l o3.1 b2 in
        let a3 = brings_still test m2.hearer.state m3.sender.state k o3.0 a2 in
        let c4 = m4.lessens test b3 in
        let o4 = m4.lessens is_ordinary (inr of_ordinary) in
        let a4 = brings_still test m3.sender.state m4.hearer.state k o4.1 a3 in
        let c5 = m5.lessens test a4 in (
          then test x.state m1.sender.state m5.sender.state c1.0 (then test m1.sender.state m2.hearer.state m5.sender.state c2.1 (then test m2.hearer.state m3.sender.state m5.sender.state c3.0
              (then test m3.sender.state m4.hearer.state m5.sender.state c4.1 c5.0))),
          then test y.state m1.hearer.state m5.hearer.state c1.1 (then test m1.hearer.state m2.sender.state m5.hearer.state c2.0 (then test m2.sender.state m3.hearer.state m5.hearer.state c3.1
              (then test m3.hearer.state m4.sender.state m5.hearer.state c4.0 c5.1))),
        )

    -- and other managers stay
    pub all_others : (v : ℕ) → (a ≡ v → ⊥) → (b ≡ v → ⊥) → manager_at z6.network v ≡ manager_at z1.network v
    all_others v not_a not_b = m5.others v not_a not_b ∙ m4.others v not_b not_a ∙ m3.others v not_a not_b ∙ m2.others v not_b not_a ∙ m1.others v not_a not_b

    -- what was asked for of the first end stays
    last_ordinary : promise m5.next - 1 ≤ ordinaries m2.hearer.state k
    last_ordinary = let e = m5.seldom in let f = m4.other_ordinary in let g = m3.ordinary in omega (arith, e, f, g)

    falls : (promise m1.next - 1) + (promise m2.next - 1) + (promise m3.next - 1) + (promise m4.next - 1) + (promise m5.next - 1) + 1 ≤ promise m1.next + promise m2.next + promise m3.next + promise m4.next
        → both_work m5.sender m5.hearer + credits x y k l + 1 ≤ both_work x y + credits m5.sender m5.hearer k l
    falls gain = total (both_work x y) (both_work m1.sender m1.hearer) (both_work m2.hearer m2.sender) (both_work m3.sender m3.hearer) (both_work m4.hearer m4.sender) (both_work m5.sender m5.hearer)
        (credits x y k l) (credits m1.sender m1.hearer k l) (credits m2.hearer m2.sender k l) (credits m3.sender m3.hearer k l) (credits m4.hearer m4.sender k l) (credits m5.sender m5.hearer k l)
        (promise m1.next) (promise m2.next) (promise m3.next) (promise m4.next) (promise m1.next - 1) (promise m2.next - 1) (promise m3.next - 1) (promise m4.next - 1) (promise m5.next - 1)
        m1.falls
        (turned_sum (state_work m2.sender.state) (state_work m2.hearer.state) (state_work m1.hearer.state) (state_work m1.sender.state) (credit m1.hearer.state m1.sender.state l) (credit m1.sender.state m1.hearer.state k)
        (credit m2.sender.state m2.hearer.state l) (credit m2.hearer.state m2.sender.state k) (promise m1.next) (promise m2.next - 1) m2.falls)
        m3.falls
        (turned_sum (state_work m4.sender.state) (state_work m4.hearer.state) (state_work m3.hearer.state) (state_work m3.sender.state) (credit m3.hearer.state m3.sender.state l) (credit m3.sender.state m3.hearer.state k)
        (credit m4.sender.state m4.hearer.state l) (credit m4.hearer.state m4.sender.state k) (promise m3.next) (promise m4.next - 1) m4.falls)
        m5.falls gain

    -- the first end has something to send
    pub first_falls : 0 < promise m1.next → both_work m5.sender m5.hearer + credits x y k l + 1 ≤ both_work x y + credits m5.sender m5.hearer k l
    first_falls some = falls (gain_first (promise m1.next) (promise m2.next) (promise m3.next) (promise m4.next) (promise m5.next) (omega (arith, some)) (promise_most m5.next)
        (λ last. let e = last_ordinary in let f = m3.live (some_ordinary m2.hearer.state k (omega (arith, last, e))) in omega (arith, f)))

    -- or the second one alone
    pub second_falls : promise m1.next ≡ 0 → ordinaries m1.sender.state k ≡ 0 → is_outstanding_to m1.hearer.state l ≡ true → both_work m5.sender m5.hearer + credits x y k l + 1 ≤ both_work x y + credits m5.sender m5.hearer k l
    second_falls none ordinary out = falls (gain_second (promise m1.next) (promise m2.next) (promise m3.next) (promise m4.next) (promise m5.next) none
        (let e = m2.live out in omega (arith, e, none)) (let e = last_ordinary in let f = m2.other_ordinary in omega (arith, e, f, ordinary)))
