-- A flow of an end whose turn it is: one packet goes and is heard, and then it is the turn of the other end.
use Rattle.std.proofs.Common.{◌≡◌, ℕ, ◌+◌, ◌-◌, ◌<◌, ◌≤◌, ◌⊎◌, inl, inr, Bool, true, false, List, [], ◌∷◌, Some, refl, sym, ap, subst, ◌∙◌, arith}
use Rattle.std.specs.Prelude.{All, Ok, map, slice_get}
use Rattle.mqb_base.specs.declared.ids.Identity.{Identity}
use Rattle.mqb_base.specs.declared.message.Message.{Message}
use Rattle.mqb_fate.specs.Asking.{is_ordinary}
use Rattle.mqb_law_progress.specs.Steps.{AreInStep}
use Rattle.mqb_model.specs.calls.hear.Hear.{hear}
use Rattle.mqb_model.specs.calls.hear.Session.{HeardOutcome}
use Rattle.mqb_model.specs.calls.pump.Pump.{pump}
use Rattle.mqb_model.specs.managers.Manager.{Manager}
use Rattle.mqb_model.specs.managers.Outcomes.{answering, succeeded}
use Rattle.mqb_model.specs.managers.Readers.{is_outstanding_to}
use Rattle.mqb_model.specs.managers.Valid.{IsUnsent, IsValidManager}
use Rattle.mqb_model.specs.state.Resolving.{peer_known}
use Rattle.mqb_model.specs.state.State.{State}
use Rattle.mqb_network.specs.Choices.{Well}
use Rattle.mqb_network.specs.Courses.{Course}
use Rattle.mqb_network.specs.Delivering.{closes}
use Rattle.mqb_network.specs.Network.{Connection, manager_at}
use Rattle.mqb_network.specs.Sending.{flow}
use Rattle.mqb_orders.specs.Rows.{Row}
use Rattle.mqb_orders.specs.declared.rows.InRow.{InRow}
use Rattle.mqb_packet.specs.declared.packet.Packet.{Packet}
use Rattle.mqb_plain.specs.Plain.{PlainLists}
use Rattle.mqb_session.specs.State as one_end
use Rattle.mqb_law_meetings.specs.Work.{state_work}
use Rattle.mqb_law_meetings.proofs.Bringing.{hear_lessens, pump_lessens}
use Rattle.mqb_law_meetings.proofs.Lacking.{BringsNone, IsOfOrdinary, Lacks, Lessens, SaysNoOrdinary, stays}
use Rattle.mqb_law_meetings.proofs.Leaving.{Gone, idle_is}
use Rattle.mqb_law_meetings.proofs.Meeting.{Idles, flow_idle}
use Rattle.mqb_law_meetings.proofs.Lists.{get_within, within_get}
use Rattle.mqb_law_meetings.proofs.Members.{all_each, all_there, mapped_at}
use Rattle.mqb_law_meetings.proofs.Pumping.{core}
use Rattle.mqb_law_meetings.proofs.Standing.{Stands, behind, flow_one, keeps_behind, stands_behind, turned}
use Rattle.mqb_law_meetings.specs.Recovery.{AreStamped, IsSpelled}
use Rattle.mqb_law_meetings.proofs.Turns.{AreRaised, Clear, Heard, Hears, IsSettled, IsUnder, OwesNone, Pends, Turn, Way, credit, ordinaries, promise, promised}

-- Sums over both ends.

abbrev pub both_work : Manager → Manager → ℕ
both_work x y = state_work x.state + state_work y.state

abbrev pub credits : Manager → Manager → (k l : ℕ) → ℕ
credits x y k l = credit x.state y.state k + credit y.state x.state l

-- what a flow comes to
pub record Moved (c z : Course) (i j : ℕ) (d : Connection) (x y : Manager) (k l : ℕ) (own other : Identity) (way : Way) (n : ℕ) : Type 0 where
  pub sender : Manager
  pub hearer : Manager
  pub told : one_end.State
  pub heard : one_end.State
  pub next : Way
  pub stands : Stands z.network j i d hearer sender
  pub turn : Turn hearer sender heard told l k other own next (n + 1)
  pub falls : both_work sender hearer + credits x y k l + promise way ≤ both_work x y + credits sender hearer k l + (promise next - 1)
  pub ordinary : ordinaries sender.state k ≤ ordinaries x.state k
  pub other_ordinary : ordinaries hearer.state l ≤ ordinaries y.state l
  pub seldom : promise next - 1 ≤ ordinaries x.state k
  pub live : is_outstanding_to x.state k ≡ true → 0 < promise way + promise next
  pub stamps : AreStamped x.state → AreStamped sender.state
  pub other_stamps : AreStamped y.state → AreStamped hearer.state
  pub lessens : (test : Message → Bool) → BringsNone test x.state k → Lessens test x.state sender.state × Lessens test y.state hearer.state
  pub others : (v : ℕ) → (i ≡ v → ⊥) → (j ≡ v → ⊥) → manager_at z.network v ≡ manager_at c.network v

-- the sums of it
linear : (s m x y cxy cyx csy cys csm cms w v lowers raises : ℕ) → s ≡ x → csy ≡ cxy → cys ≡ cyx → m + cys + lowers ≤ y + cms + raises → w ≤ lowers → raises + csy ≤ csm + v
    → s + m + (cxy + cyx) + w ≤ x + y + (csm + cms) + v
linear s m x y cxy cyx csy cys csm cms w v lowers raises one two three four five six = omega (arith, one, two, three, four, five, six)

-- What is the same of the end that sent.

pub credit_of : (t x n : State) (l : ℕ) → n.ins ≡ x.ins → credit t n l ≡ credit t x l
credit_of t x n l same = ap (λ (ins : List InRow). credit t (record x { ins = ins }) l) same

pub still_settled : (k : ℕ) (x n : Manager) → map core n.state.outs ≡ map core x.state.outs → n.rest.cursors ≡ x.rest.cursors → IsSettled k x.state.outs x.rest.cursors → IsSettled k n.state.outs n.rest.cursors
still_settled k x n same cursors settled i row c there got leads =
    let m = mapped_at core x.state.outs n.state.outs same i row there in
    subst (λ v. c ≤ v) (ap (λ (r : Row). r.acked) m.2)
    (settled i m.0 c m.1 (ap (λ cs. slice_get cs i) (sym cursors) ∙ got) (ap (λ (r : Row). r.peer) m.2 ∙ leads))

-- The stamps of sequences stay.

abbrev IsStamped : Row → Type 0
IsStamped row = IsSpelled row.sequence

core_stamped : (xs ys : List Row) → map core ys ≡ map core xs → All IsStamped xs → All IsStamped ys
core_stamped xs ys same all = all_each IsStamped ys (λ i row there.
    let m = mapped_at core xs ys same i row there in subst IsSpelled (ap (λ (r : Row). r.sequence) m.2) (all_there IsStamped xs i m.0 all m.1))

raised_stamped : (xs ys : List Row) → AreRaised xs ys → All IsStamped xs → All IsStamped ys
raised_stamped xs ys raised all = all_each IsStamped ys (λ i row there. let b = raised i row there in subst IsSpelled b.3 (all_there IsStamped xs i b.0 all b.1))

-- Rows of which more is acknowledged are settled.
pub raised_settled : (l : ℕ) (xs ys : List Row) (cs ds : List ℕ) → AreRaised xs ys → ds ≡ cs → IsSettled l xs cs → IsSettled l ys ds
raised_settled l xs ys cs ds raised same settled i row c there got leads =
    let b = raised i row there in
    let before = settled i b.0 c b.1 (ap (λ es. slice_get es i) (sym same) ∙ got) (b.2 ∙ leads) in
    let rises = b.4 in
    omega (arith, before, rises)

-- An end that sent no plain message has none under way.
pub none_pends : (x m : Manager) (a e : one_end.State) (k : ℕ) (peer : Identity) → Hears x a k peer → All IsUnsent x.state.plain → m.state.plain ≡ x.state.plain → Pends m e k []
none_pends x m a e k peer h unsent same =
    let w = within_get x.state.plain k (subst (λ n. k < n) (sym h.valid.state.plain_lists) (get_within x.state.peers k peer h.there)) in record {
      lists = w.0;
      there = ap (λ (ps : List PlainLists). slice_get ps k) same ∙ w.1;
      rest = w.0.recoverable;
      are = refl;
      unsent = (all_there IsUnsent x.state.plain k w.0 unsent w.1).recoverable;
      single = omega arith;
    }

-- the sessions of both ends behind a packet
pub record Steps (a b e f : one_end.State) : Type 0 where
  pub ready : e.phase ≡ a.phase
  pub other_ready : f.phase ≡ b.phase
  pub peer : e.peer ≡ a.peer
  pub other_peer : f.peer ≡ b.peer
  pub window : e.peer_window ≡ a.peer_window
  pub other_window : f.peer_window ≡ b.peer_window
  pub step : AreInStep f e
  pub free : f.acked ≡ f.sent
  pub freed : f.recoverable_acked ≡ f.recoverable_sent
  pub few : e.sent ≤ a.sent + 1
  pub other_few : f.sent ≡ b.sent
  pub told : (f.owes ≡ true) ⊎ ((e.acked ≡ e.sent) × (e.recoverable_acked ≡ e.recoverable_sent))

module _ (c z : Course) (i j now : ℕ) (d : Connection) (x y : Manager) (a b : one_end.State) (k l : ℕ) (own other : Identity) (way : Way) (n : ℕ)
    (t : Turn x y a b k l own other way n) (st : Stands c.network i j d x y) (is : z ≡ (flow i now Well c).after) (valid : (v : ℕ) → IsValidManager (manager_at z.network v)) where
  -- A manager at an end that is ready still is.
  hears_still : (m s : Manager) (e f : one_end.State) (v : ℕ) (peer : Identity) → Hears m e v peer → s.condition ≡ m.condition → IsValidManager s → s.rest.session ≡ Some f → f.phase ≡ e.phase → f.peer ≡ e.peer
      → s.state.peers ≡ m.state.peers → All (λ p. p.express ≡ []) s.state.plain → Hears s f v peer
  hears_still m s e f v peer h up ok linked phase who peers express = record {
    up = up ∙ h.up;
    valid = ok;
    linked = linked;
    ready = phase ∙ h.ready;
    who = who ∙ h.who;
    knows = ap (λ (ps : List Identity). peer_known (record s.state { peers = ps }) peer.guid) peers ∙ h.knows;
    there = ap (λ (ps : List Identity). slice_get ps v) peers ∙ h.there;
    express = express;
  }

  -- Nothing goes.
  module _ (idle : pump x now ≡ answering x (Ok 0)) (quiet : a.owes ≡ false) (none : is_outstanding_to x.state k ≡ false) (clear : way ≡ Clear) where
    idles : Idles c z i j d x y
    idles = flow_idle c z i j now d x y is st idle (idle_is x a k other t.one)

    back : Stands z.network j i d y x
    back = turned z.network i j d x y idles.stands

    under : All IsUnsent y.state.plain × IsSettled l y.state.outs y.rest.cursors × OwesNone x
    under = subst (λ w. IsUnder w x y a l) clear t.under

    acked : (b.acked ≡ b.sent) × (b.recoverable_acked ≡ b.recoverable_sent)
    acked = at t.told
      where
        at : (a.owes ≡ true) ⊎ ((b.acked ≡ b.sent) × (b.recoverable_acked ≡ b.recoverable_sent)) → (b.acked ≡ b.sent) × (b.recoverable_acked ≡ b.recoverable_sent)
        at (inl owes) = absurd (let no : ⊥ = cc in no)
        at (inr told) = told

    pub moved_idle : (m : Moved c z i j d x y k l own other way n) × (promise m.next ≡ 0) × (m.hearer ≡ y) × (m.sender ≡ x)
    moved_idle = (moves, refl, refl, refl)
      where
        moves : Moved c z i j d x y k l own other way n
        moves = record {
          sender = x;
          hearer = y;
          told = a;
          heard = b;
          next = Clear;
          stands = back;
          turn = record {
            own_is = t.other_is;
            other_is = t.own_is;
            one = record t.two { valid = subst IsValidManager back.at_i (valid j) };
            two = record t.one { valid = subst IsValidManager back.at_j (valid i) };
            window = t.other_window;
            other_window = t.window;
            step = record { there = t.step.back; stored_there = t.step.stored_back; back = t.step.there; stored_back = t.step.stored_there };
            free = acked.0;
            freed = acked.1;
            few = let e = t.other_few in omega (arith, e);
            other_few = let e = t.few in omega (arith, e);
            told = inr (t.free, t.freed);
            unsent = under.0;
            settled = under.1;
            still = under.2;
            pends = none_pends x x a a k other t.one t.unsent refl;
            under = (t.unsent, t.settled, t.still);
          };
          falls = let e = ap promise clear in omega (arith, e);
          ordinary = omega arith;
          other_ordinary = omega arith;
          seldom = omega arith;
          live = λ some. absurd (let no : ⊥ = cc in no);
          stamps = λ h. h;
          other_stamps = λ h. h;
          lessens = λ test brings. (stays test x.state, stays test y.state);
          others = idles.keeps.others;
        }

  -- A packet goes, and is heard.

  module _ (p : Packet) (s : Manager) (e f : one_end.State) (next : Way) (lowers raises : ℕ) where
    abbrev o : HeardOutcome
    o = hear y p now

    abbrev pub m : Manager
    m = succeeded y o

    -- what is known of a packet that goes
    pub record Goes : Type 0 where
      pub after : succeeded x (pump x now) ≡ s
      pub packets : (pump x now).packets ≡ p ∷ []
      pub answer : (pump x now).answer ≡ Ok 1
      pub gone : Gone x s e k
      pub open_ : closes o.answer ≡ false
      pub hearing : Heard y m l f lowers raises
      pub steps : Steps a b e f
      pub enough : promise way ≤ lowers
      pub credited : raises + credit s.state y.state k ≤ credit s.state m.state k + (promise next - 1)
      pub settled : IsSettled l m.state.outs m.rest.cursors
      pub still : OwesNone s
      pub pends : Pends s e k (promised next)
      pub under : IsUnder next m s f k
      pub seldom : promise next - 1 ≤ ordinaries x.state k
      pub live : is_outstanding_to x.state k ≡ true → 0 < promise way + promise next
      pub says : Lacks is_ordinary x.state k → SaysNoOrdinary p

    pub moved_by : Goes → Moved c z i j d x y k l own other way n
    moved_by g = record {
      sender = s;
      hearer = m;
      told = e;
      heard = f;
      next = next;
      stands = back;
      turn = record {
        own_is = g.hearing.identity ∙ t.other_is;
        other_is = g.gone.identity ∙ t.own_is;
        one = hears_still y m b f l own t.two (g.hearing.up ∙ sym t.two.up) (subst IsValidManager back.at_i (valid j)) g.hearing.linked g.steps.other_ready g.steps.other_peer g.hearing.peers g.hearing.express;
        two = hears_still x s a e k other t.one (g.gone.up ∙ sym t.one.up) (subst IsValidManager back.at_j (valid i)) g.gone.linked g.steps.ready g.steps.peer g.gone.peers g.gone.express;
        window = g.steps.other_window ∙ t.other_window;
        other_window = g.steps.window ∙ t.window;
        step = g.steps.step;
        free = g.steps.free;
        freed = g.steps.freed;
        few = let w = t.other_few in let v = g.steps.other_few in omega (arith, w, v);
        other_few = let w = t.few in let v = g.steps.few in omega (arith, w, v);
        told = g.steps.told;
        unsent = g.hearing.unsent;
        settled = g.settled;
        still = g.still;
        pends = g.pends;
        under = g.under;
      };
      falls = falls;
      ordinary = let w = g.gone.ordinary in omega (arith, w);
      other_ordinary = g.hearing.ordinary;
      seldom = g.seldom;
      live = g.live;
      stamps = core_stamped x.state.outs s.state.outs g.gone.same;
      other_stamps = raised_stamped y.state.outs m.state.outs g.hearing.raised;
      lessens = λ test brings. (subst (λ (v : Manager). Lessens test x.state v.state) g.after (pump_lessens test x now), hear_lessens test y now p (says test brings));
      others = λ v not_i not_j. ap (λ (u : Course). manager_at u.network v) went ∙ (keeps_behind c i j now d x y st p).others v not_i not_j;
    }
      where
        says : (test : Message → Bool) → BringsNone test x.state k → SaysNoOrdinary p ⊎ IsOfOrdinary test
        says test (inl lacks) = inl (g.says lacks)
        says test (inr silent) = inr silent

        went : z ≡ behind c i j now d x y st p
        went = is ∙ flow_one c i j now d x y st p 1 g.answer g.packets g.open_

        back : Stands z.network j i d m s
        back = turned z.network i j d s m (subst (λ (v : Course). Stands v.network i j d s m) (sym went)
            (subst (λ (v : Manager). Stands (behind c i j now d x y st p).network i j d v m) g.after (stands_behind c i j now d x y st p)))

        falls : both_work s m + credits x y k l + promise way ≤ both_work x y + credits s m k l + (promise next - 1)
        falls =
            let one : state_work s.state ≡ state_work x.state = g.gone.work in
            let two : credit s.state y.state k ≡ credit x.state y.state k = g.gone.credit y.state k in
            let three : credit y.state s.state l ≡ credit y.state x.state l = credit_of y.state x.state s.state l g.gone.ins in
            let four = g.hearing.work s.state in
            let five = g.enough in
            let six = g.credited in
            linear (state_work s.state) (state_work m.state) (state_work x.state) (state_work y.state) (credit x.state y.state k) (credit y.state x.state l) (credit s.state y.state k) (credit y.state s.state l)
            (credit s.state m.state k) (credit m.state s.state l) (promise way) (promise next - 1) lowers raises one two three four five six
