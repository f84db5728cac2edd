-- A meeting of two managers, of which one has something for the other: the work falls.
use Rattle.std.proofs.Common.{◌≡◌, ℕ, zero, suc, ◌*◌, ◌+◌, ◌<◌, ◌≤◌, ◌⊎◌, inl, inr, Bool, true, false, cond, List, [], ◌∷◌, Some, refl, sym, ap, subst, ◌∙◌, arith}
use Rattle.std.proofs.lemmas.Bool.{true≢false}
use Rattle.std.specs.Prelude.{All, length, map, replicate, slice_get, sum, unwrap_or}
use Rattle.mqb_base.specs.declared.ids.Identity.{Identity}
use Rattle.mqb_base.specs.declared.message.Message.{Message}
use Rattle.mqb_law_progress.specs.Progress.{unacknowledged}
use Rattle.mqb_model.specs.calls.pump.Pump.{pump}
use Rattle.mqb_model.specs.managers.Beside.{all_unmarked}
use Rattle.mqb_model.specs.managers.Manager.{Condition, Manager, Up, unlinked}
use Rattle.mqb_model.specs.managers.Readers.{is_outstanding_to}
use Rattle.mqb_model.specs.managers.Valid.{IsUnsent, IsValidManager}
use Rattle.mqb_model.specs.state.State.{State}
use Rattle.mqb_network.proofs.Joining.{move_in_course}
use Rattle.mqb_network.specs.Answers.{only}
use Rattle.mqb_network.specs.Changes.{ended, parted}
use Rattle.mqb_network.specs.Courses.{Course, moved}
use Rattle.mqb_network.specs.Events as event
use Rattle.mqb_network.specs.Network.{Connection, is_end, manager_at}
use Rattle.mqb_network.specs.Replies as reply
use Rattle.mqb_network.specs.Runs.{course_after, moved_on}
use Rattle.mqb_network.specs.Scripts.{well}
use Rattle.mqb_orders.specs.Rows.{Row}
use Rattle.mqb_plain.specs.Lists.{messages_of, unmarked}
use Rattle.mqb_plain.specs.Plain.{PlainLists}
use Rattle.mqb_plain.specs.declared.outgoing.Outgoing.{Outgoing}
use Rattle.mqb_session.specs.State as one_end
use Rattle.mqb_session.specs.declared.phase.Phase.TheVariants as phase
use Rattle.mqb_law_meetings.specs.Meetings.{meeting}
use Rattle.mqb_law_meetings.specs.Work.{plain_work, state_work, work_for}
use Rattle.mqb_law_meetings.proofs.Bounds.{some_ordinary}
use Rattle.mqb_law_meetings.proofs.Five as five
use Rattle.mqb_law_meetings.proofs.Idle as idle
use Rattle.mqb_law_meetings.proofs.Lacking.{BringsNone, Lessens, parted_lessens, then}
use Rattle.mqb_law_meetings.proofs.Lists.{any_found}
use Rattle.mqb_law_meetings.proofs.Meeting as meets
use Rattle.mqb_law_meetings.proofs.Meeting.{ArePartners}
use Rattle.mqb_law_meetings.proofs.Members.{all_each, all_there}
use Rattle.mqb_law_meetings.proofs.Running.{Facts, InRun, run_move}
use Rattle.mqb_law_meetings.proofs.Setting as one
use Rattle.mqb_law_meetings.proofs.Setting.{grown_once, sends_nothing}
use Rattle.mqb_law_meetings.proofs.Sides.{HearsAll}
use Rattle.mqb_law_meetings.proofs.Standing.{Stands, turned}
use Rattle.mqb_law_meetings.proofs.Stepping.{Moved, both_work, credits, moved_idle, none_pends}
use Rattle.mqb_law_meetings.specs.Recovery.{AreStamped}
use Rattle.mqb_law_meetings.proofs.Turns.{Clear, Hears, IsSettled, IsWithoutExpress, Turn, credit, ordinaries, promise}
use Rattle.mqb_law_meetings.proofs.Vain.{connect_is, ended_a, ended_b, ended_others, parted_state}

-- What a parting leaves.

messages_same : (os : List Outgoing) → messages_of (unmarked os) ≡ messages_of os
messages_same [] = refl
messages_same (o ∷ os) = ap (λ ms. o.message ∷ ms) (messages_same os)

plain_same : (ps : List PlainLists) → map plain_work (map all_unmarked ps) ≡ map plain_work ps
plain_same [] = refl
plain_same (p ∷ ps) = ap (λ w. w ∷ map plain_work (map all_unmarked ps)) (ap (λ ms. sum (map work_for ms)) (messages_same p.recoverable)) ∙ ap (λ ws. plain_work p ∷ ws) (plain_same ps)

pub parted_work : (s : State) → state_work (parted_state s) ≡ state_work s
parted_work s = ap (λ ws. 3 * sum (map unacknowledged s.outs) + sum ws) (plain_same s.plain)

none_express : (ps : List PlainLists) → (k : ℕ) (q : PlainLists) → slice_get (map all_unmarked ps) k ≡ Some q → All (λ (p : PlainLists). p.express ≡ []) ps → q.express ≡ []
none_express [] k q e all = absurd (let no : ⊥ = cc in no)
none_express (p ∷ ps) zero q e all = let same : all_unmarked p ≡ q = cc in subst (λ (x : PlainLists). x.express ≡ []) same
    (ap (λ os. unmarked os) (all_there (λ (x : PlainLists). x.express ≡ []) (p ∷ ps) 0 p all refl))
none_express (p ∷ ps) (suc k) q e all = none_express ps k q e (all_each (λ (x : PlainLists). x.express ≡ []) ps (λ i x there. all_there (λ (y : PlainLists). y.express ≡ []) (p ∷ ps) (suc i) x all there))

pub parted_express : (s : State) → IsWithoutExpress s → IsWithoutExpress (parted_state s)
parted_express s all = all_each (λ (p : PlainLists). p.express ≡ []) (map all_unmarked s.plain) (λ k q there. none_express s.plain k q there all)

parted_up : (m : Manager) → m.condition ≡ Up → parted m ≡ unlinked (parted_state m.state)
parted_up m up = ap (λ (c : Condition). parted (record m { condition = c })) up

-- Nothing of a row was sent in a new connection.

zeros_got : (n i c : ℕ) → slice_get (replicate n 0) i ≡ Some c → c ≡ 0
zeros_got zero i c e = absurd (let no : ⊥ = cc in no)
zeros_got (suc n) zero c e = let same : 0 ≡ c = cc in sym same
zeros_got (suc n) (suc i) c e = zeros_got n i c e

settled_first : (k : ℕ) (rows : List Row) (cs : List ℕ) → cs ≡ replicate (length rows) 0 → IsSettled k rows cs
settled_first k rows cs are i row c there got leads = let e = zeros_got (length rows) i c (ap (λ ds. slice_get ds i) (sym are) ∙ got) in omega (arith, e)

-- what a meeting comes to
pub record Meets (known : List Identity) (c z : Course) (a b k l : ℕ) : Type 0 where
  pub first : State
  pub second : State
  pub at_a : manager_at z.network a ≡ unlinked first
  pub at_b : manager_at z.network b ≡ unlinked second
  pub express : IsWithoutExpress first
  pub other_express : IsWithoutExpress second
  pub stamps : AreStamped first
  pub other_stamps : AreStamped second
  pub falls : state_work first + state_work second + (credit (manager_at c.network a).state (manager_at c.network b).state k + credit (manager_at c.network b).state (manager_at c.network a).state l) + 1
      ≤ state_work (manager_at c.network a).state + state_work (manager_at c.network b).state + (credit first second k + credit second first l)
  pub run : InRun known z
  pub lessens : (test : Message → Bool) → BringsNone test (manager_at c.network a).state k → BringsNone test (manager_at c.network b).state l
      → Lessens test (manager_at c.network a).state first × Lessens test (manager_at c.network b).state second
  pub others : (v : ℕ) → (a ≡ v → ⊥) → (b ≡ v → ⊥) → manager_at z.network v ≡ manager_at c.network v

module _ (known : List Identity) (hears : HearsAll) (fact : (c : Course) → InRun known c → Facts known c) (c : Course) (r : InRun known c) (a b now : ℕ) (in_a : a < length known) (in_b : b < length known)
    (s t : State) (h : ArePartners c.network a b s t) (peer_is : h.peer ≡ t.identity) (peer_b_is : h.peer_b ≡ s.identity) (express : IsWithoutExpress s) (other_express : IsWithoutExpress t)
    (stamps : AreStamped s) (other_stamps : AreStamped t) where
  abbrev z1 : Course
  z1 = moved_on c (well (event.Connect a b now 1 1))

  abbrev z2 : Course
  z2 = moved_on z1 (well (event.Flow a now))

  r1 : InRun known z1
  r1 = run_move known c (well (event.Connect a b now 1 1)) r refl tt

  r2 : InRun known z2
  r2 = run_move known z1 (well (event.Flow a now)) r1 refl tt

  abbrev d : Connection
  d = meets.between c a b now 1 1 s t h

  abbrev x : Manager
  x = meets.asking_with c.network a b now 1 1 s t h phase.Ready 1

  abbrev y : Manager
  y = meets.asked_with c.network a b now 1 1 s t h phase.Ready 1

  abbrev xs : one_end.State
  xs = one.asking_in s t h.place_a h.place_b h.peer h.knows h.there h.is h.known now 1 1 phase.Ready 1

  abbrev ys : one_end.State
  ys = one.asked_in s t h.place_a h.place_b h.peer h.knows h.there h.is h.known now 1 1 phase.Ready 1

  met : z1 ≡ meets.ready_on c a b now 1 1 s t h
  met = move_in_course c (well (event.Connect a b now 1 1)) ∙ connect_is c a b now s t h 1 1

  stands : Stands z1.network a b d x y
  stands = subst (λ (z : Course). Stands z.network a b d x y) (sym met) (meets.ready_stands c a b now 1 1 s t h)

  unsent_a : All IsUnsent s.plain
  unsent_a = (subst IsValidManager h.at_a ((fact c r).valid a)).session

  unsent_b : All IsUnsent t.plain
  unsent_b = (subst IsValidManager h.at_b ((fact c r).valid b)).session

  hears_a : Hears x xs h.place_a t.identity
  hears_a = record {
    up = refl;
    valid = subst IsValidManager stands.at_i ((fact z1 r1).valid a);
    linked = refl;
    ready = refl;
    who = refl;
    knows = h.knows;
    there = h.there ∙ ap (λ p. Some p) peer_is;
    express = express;
  }

  hears_b : Hears y ys h.place_b s.identity
  hears_b = record {
    up = refl;
    valid = subst IsValidManager stands.at_j ((fact z1 r1).valid b);
    linked = refl;
    ready = refl;
    who = refl;
    knows = h.known;
    there = h.there_b ∙ ap (λ p. Some p) peer_b_is;
    express = other_express;
  }

  begins : Turn x y xs ys h.place_a h.place_b s.identity t.identity Clear 0
  begins = record {
    own_is = refl;
    other_is = refl;
    one = hears_a;
    two = hears_b;
    window = refl;
    other_window = refl;
    step = record { there = refl; stored_there = refl; back = refl; stored_back = refl };
    free = refl;
    freed = refl;
    few = omega arith;
    other_few = omega arith;
    told = inr (refl, refl);
    unsent = unsent_a;
    settled = settled_first h.place_a s.outs x.rest.cursors (grown_once 0 (length s.outs));
    still = grown_once false (length t.ins);
    pends = none_pends y y ys ys h.place_b s.identity hears_b unsent_b refl;
    under = (unsent_b, settled_first h.place_b t.outs y.rest.cursors (grown_once 0 (length t.outs)), grown_once false (length s.ins));
  }

  abbrev Falls : Manager → Manager → Type 0
  Falls m n = both_work m n + credits x y h.place_a h.place_b + 1 ≤ both_work x y + credits m n h.place_a h.place_b

  -- what it comes to in the numbers of the managers of the network
  falls_at : (m n : Manager) → Falls m n
      → state_work (parted_state m.state) + state_work (parted_state n.state) + (credit (manager_at c.network a).state (manager_at c.network b).state h.place_a + credit (manager_at c.network b).state (manager_at c.network a).state h.place_b) + 1
      ≤ state_work (manager_at c.network a).state + state_work (manager_at c.network b).state + (credit m.state n.state h.place_a + credit n.state m.state h.place_b)
  falls_at m n falls =
      subst (λ (v : Manager). state_work (parted_state m.state) + state_work (parted_state n.state) + (credit v.state (manager_at c.network b).state h.place_a + credit (manager_at c.network b).state v.state h.place_b) + 1
      ≤ state_work v.state + state_work (manager_at c.network b).state + (credit m.state n.state h.place_a + credit n.state m.state h.place_b)) (sym h.at_a)
      (subst (λ (v : Manager). state_work (parted_state m.state) + state_work (parted_state n.state) + (credit s v.state h.place_a + credit v.state s h.place_b) + 1
      ≤ state_work s + state_work v.state + (credit m.state n.state h.place_a + credit n.state m.state h.place_b)) (sym h.at_b)
      (let one = parted_work m.state in let two = parted_work n.state in
      plain_sum (state_work m.state) (state_work n.state) (state_work (parted_state m.state)) (state_work (parted_state n.state)) (state_work s) (state_work t)
      (credit s t h.place_a + credit t s h.place_b) (credit m.state n.state h.place_a + credit n.state m.state h.place_b) one two falls))
    where
      plain_sum : (m n pm pn s t c d : ℕ) → pm ≡ m → pn ≡ n → m + n + c + 1 ≤ s + t + d → pm + pn + c + 1 ≤ s + t + d
      plain_sum m n pm pn s t c d one two h = omega (arith, one, two, h)

  abbrev AllLessen : State → State → Type 0
  AllLessen m n = (test : Message → Bool) → BringsNone test s h.place_a → BringsNone test t h.place_b → Lessens test s m × Lessens test t n

  lessens_at : (test : Message → Bool) (m n : State) → Lessens test s m × Lessens test t n
      → Lessens test (manager_at c.network a).state (parted_state m) × Lessens test (manager_at c.network b).state (parted_state n)
  lessens_at test m n less = (
    subst (λ (v : Manager). Lessens test v.state (parted_state m)) (sym h.at_a) (then test s m (parted_state m) less.0 (parted_lessens test m)),
    subst (λ (v : Manager). Lessens test v.state (parted_state n)) (sym h.at_b) (then test t n (parted_state n) less.1 (parted_lessens test n)),
  )

  -- it ends
  ends : (z : Course) → InRun known z → (m n : Manager) → Stands z.network a b d m n → m.condition ≡ Up → n.condition ≡ Up → IsWithoutExpress m.state → IsWithoutExpress n.state
      → AreStamped m.state → AreStamped n.state → Falls m n → AllLessen m.state n.state
      → ((v : ℕ) → (a ≡ v → ⊥) → (b ≡ v → ⊥) → manager_at z.network v ≡ manager_at z1.network v) → Meets known c (moved_on z (well (event.Disconnect a))) a b h.place_a h.place_b
  ends z rz m n st up_m up_n none_m none_n stamps_m stamps_n falls lessen others = record {
    first = parted_state m.state;
    second = parted_state n.state;
    at_a = ap (λ (v : Course). manager_at v.network a) parted_on ∙ ended_a z.network a b d m n st refl refl ∙ parted_up m up_m;
    at_b = ap (λ (v : Course). manager_at v.network b) parted_on ∙ ended_b z.network a b d m n st refl refl ∙ parted_up n up_n;
    express = parted_express m.state none_m;
    other_express = parted_express n.state none_n;
    stamps = stamps_m;
    other_stamps = stamps_n;
    falls = falls_at m n falls;
    run = run_move known z (well (event.Disconnect a)) rz refl tt;
    lessens = λ test brings other_brings. lessens_at test m.state n.state
        (lessen test (subst (λ (v : Manager). BringsNone test v.state h.place_a) h.at_a brings) (subst (λ (v : Manager). BringsNone test v.state h.place_b) h.at_b other_brings));
    others = λ v not_a not_b. ap (λ (u : Course). manager_at u.network v) parted_on ∙ ended_others z.network a b d m n st refl refl v not_a not_b ∙ others v not_a not_b
        ∙ ap (λ (u : Course). manager_at u.network v) met ∙ meets.ready_others c a b now 1 1 s t h v not_a not_b;
  }
    where
      parted_on : moved_on z (well (event.Disconnect a)) ≡ moved (ended a) z
      parted_on = move_in_course z (well (event.Disconnect a))
          ∙ ap (λ v. (cond v (record { reply = reply.Disconnected; after = moved (ended a) z }) (only z reply.Unlinked)).after) (any_found (is_end a) z.network.connections d st.of_i)

  -- whichever its first flow was
  meets_from : (m1 : Moved z1 z2 a b d x y h.place_a h.place_b s.identity t.identity Clear 0)
      → (0 < promise m1.next) ⊎ ((promise m1.next ≡ 0) × (ordinaries m1.sender.state h.place_a ≡ 0) × (is_outstanding_to m1.hearer.state h.place_b ≡ true))
      → Meets known c (course_after c (map well (meeting a b now))) a b h.place_a h.place_b
  meets_from m1 some =
      let last = five.m5 known hears fact now a b in_a in_b h.apart d x y h.place_a h.place_b s.identity t.identity z1 z2 r2 m1 stamps other_stamps in
      ends (five.z6 known hears fact now a b in_a in_b h.apart d x y h.place_a h.place_b s.identity t.identity z1 z2 r2 m1 stamps other_stamps)
      (five.r6 known hears fact now a b in_a in_b h.apart d x y h.place_a h.place_b s.identity t.identity z1 z2 r2 m1 stamps other_stamps)
      last.sender last.hearer
      (turned (five.z6 known hears fact now a b in_a in_b h.apart d x y h.place_a h.place_b s.identity t.identity z1 z2 r2 m1 stamps other_stamps).network b a d last.hearer last.sender last.stands)
      last.turn.two.up last.turn.one.up last.turn.two.express last.turn.one.express
      (five.last_stamps known hears fact now a b in_a in_b h.apart d x y h.place_a h.place_b s.identity t.identity z1 z2 r2 m1 stamps other_stamps)
      (five.last_other_stamps known hears fact now a b in_a in_b h.apart d x y h.place_a h.place_b s.identity t.identity z1 z2 r2 m1 stamps other_stamps)
      (at some)
      (five.all_lessen known hears fact now a b in_a in_b h.apart d x y h.place_a h.place_b s.identity t.identity z1 z2 r2 m1 stamps other_stamps)
      (five.all_others known hears fact now a b in_a in_b h.apart d x y h.place_a h.place_b s.identity t.identity z1 z2 r2 m1 stamps other_stamps)
    where
      at : (0 < promise m1.next) ⊎ ((promise m1.next ≡ 0) × (ordinaries m1.sender.state h.place_a ≡ 0) × (is_outstanding_to m1.hearer.state h.place_b ≡ true))
          → Falls (five.m5 known hears fact now a b in_a in_b h.apart d x y h.place_a h.place_b s.identity t.identity z1 z2 r2 m1 stamps other_stamps).sender
          (five.m5 known hears fact now a b in_a in_b h.apart d x y h.place_a h.place_b s.identity t.identity z1 z2 r2 m1 stamps other_stamps).hearer
      at (inl one) = five.first_falls known hears fact now a b in_a in_b h.apart d x y h.place_a h.place_b s.identity t.identity z1 z2 r2 m1 stamps other_stamps one
      at (inr two) = five.second_falls known hears fact now a b in_a in_b h.apart d x y h.place_a h.place_b s.identity t.identity z1 z2 r2 m1 stamps other_stamps two.0 two.1 two.2

  -- the first one has something, or the second one alone
  pub meets_with : (is_outstanding_to s h.place_a ≡ true) ⊎ ((is_outstanding_to s h.place_a ≡ false) × (is_outstanding_to t h.place_b ≡ true))
      → Meets known c (course_after c (map well (meeting a b now))) a b h.place_a h.place_b
  meets_with (inl out) =
      let m1 = five.step_on known hears fact now z1 r1 a b in_a in_b h.apart d x y xs ys h.place_a h.place_b s.identity t.identity Clear 0 begins (omega arith) other_stamps stands in
      meets_from m1 (inl (let e = m1.live out in omega (arith, e)))
  meets_with (inr (none, out)) =
      let quiet : pump x now ≡ sends_nothing x = idle.pump_idle s xs now h.place_a h.peer refl refl (ap (λ o. unwrap_or o (length s.peers)) h.knows) h.there none in
      let m1 = moved_idle z1 z2 a b now d x y xs ys h.place_a h.place_b s.identity t.identity Clear 0 begins stands (move_in_course z1 (well (event.Flow a now))) (fact z2 r2).valid quiet refl none refl in
      meets_from m1.0 (inr (m1.1, ap (λ (m : Manager). ordinaries m.state h.place_a) m1.3 ∙ no_ordinary s h.place_a none, ap (λ (m : Manager). is_outstanding_to m.state h.place_b) m1.2 ∙ out))
    where
      no_ordinary : (v : State) (k : ℕ) → is_outstanding_to v k ≡ false → ordinaries v k ≡ 0
      no_ordinary v k no_one = at (ordinaries v k) refl
        where
          at : (n : ℕ) → ordinaries v k ≡ n → ordinaries v k ≡ 0
          at zero e = e
          at (suc n) e = absurd (true≢false (sym (some_ordinary v k (omega (arith, e))) ∙ no_one))
