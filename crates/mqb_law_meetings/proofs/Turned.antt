-- A turn in which a number of a row goes, or the acknowledgement of one; and each turn.
use Rattle.std.proofs.Common.{◌≡◌, ℕ, ◌<◌, ◌≤◌, ◌⊎◌, inl, inr, true, false, nat_lt, List, [], ◌∷◌, Some, refl, sym, ap, subst, ◌∙◌, arith}
use Rattle.std.proofs.lemmas.Bool.{true≢false}
use Rattle.std.specs.List.{enumerate_from}
use Rattle.std.specs.Prelude.{All, length, map, slice_get, slice_set, sum, zip}
use Rattle.mqb_base.specs.Same.{same_guid}
use Rattle.mqb_base.specs.declared.ids.Identity.{Identity}
use Rattle.mqb_base.specs.declared.message.Message.{Message}
use Rattle.mqb_model.specs.calls.hear.Hear.{hear}
use Rattle.mqb_model.specs.calls.pump.Candidates.{of_row}
use Rattle.mqb_model.specs.calls.pump.Pump.{PumpOutcome, packet_for, pump, sending_all}
use Rattle.mqb_model.specs.managers.Manager.{Manager}
use Rattle.mqb_model.specs.managers.Outcomes.{succeeded}
use Rattle.mqb_model.specs.managers.Readers.{awaits}
use Rattle.mqb_model.specs.managers.Valid.{IsUnsent, IsValidManager}
use Rattle.mqb_model.specs.state.Valid.{IsInOrder, IsOwn}
use Rattle.mqb_network.specs.Choices.{Well}
use Rattle.mqb_network.specs.Courses.{Course}
use Rattle.mqb_network.specs.Network.{Connection, manager_at}
use Rattle.mqb_network.specs.Sending.{flow}
use Rattle.mqb_orders.specs.Rows.{Row}
use Rattle.mqb_orders.specs.declared.kept.Kept.{Kept}
use Rattle.mqb_session.specs.Sending.{stamped}
use Rattle.mqb_session.specs.State as one_end
use Rattle.mqb_session.specs.declared.heads.Kind.TheVariants as kind
use Rattle.mqb_law_meetings.specs.Work.{work_for}
use Rattle.mqb_law_meetings.proofs.Choosing.{Waits}
use Rattle.mqb_law_meetings.proofs.Finishing.{first_in}
use Rattle.mqb_law_meetings.proofs.Firsts.{all_got}
use Rattle.mqb_law_meetings.proofs.Going as going
use Rattle.mqb_law_meetings.proofs.Leaving as leaves
use Rattle.mqb_law_meetings.proofs.Leaving.{order_of}
use Rattle.mqb_law_meetings.proofs.Members.{all_there, first_has, flat_part, mapped_at, set_cases, set_replicate}
use Rattle.mqb_law_meetings.proofs.Pumping.{core}
use Rattle.mqb_law_meetings.proofs.Sides.{Accord, Acknowledged, Brought, HearsAll, HearsOrder, HearsRow, after_user}
use Rattle.mqb_law_meetings.proofs.Standing.{Stands}
use Rattle.mqb_law_meetings.proofs.Stepping.{Moved, credit_of, moved_by, moved_idle, none_pends, raised_settled, still_settled}
use Rattle.mqb_law_meetings.proofs.Turning as turning
use Rattle.mqb_law_meetings.specs.Recovery.{AreStamped}
use Rattle.mqb_law_meetings.proofs.Turns.{AreRaised, Brings, Carries, Clear, IsBrought, IsSettled, IsSettledBut, IsUnder, Pends, Turn, Way, first_unacked, promise, promised}

module _ (c z : Course) (i j now : ℕ) (d : Connection) (x y : Manager) (a b : one_end.State) (k l : ℕ) (own other : Identity) (way : Way) (n : ℕ)
    (t : Turn x y a b k l own other way n) (few : n < 65535) (st : Stands c.network i j d x y) (is : z ≡ (flow i now Well c).after) (valid : (v : ℕ) → IsValidManager (manager_at z.network v)) where
  abbrev Result : Type 0
  Result = Moved c z i j d x y k l own other way n

  abbrev few_a : a.sent < 65535
  few_a = turning.few_a c z i j now d x y a b k l own other way n t few st is valid

  own_guid : x.state.identity.guid ≡ own.guid
  own_guid = ap (λ (v : Identity). v.guid) t.own_is

  other_guid : y.state.identity.guid ≡ other.guid
  other_guid = ap (λ (v : Identity). v.guid) t.other_is

  -- A number of a row goes.
  module _ (small : (way ≡ Clear) ⊎ ((q : Message) × (way ≡ Carries q))) (w : Waits x.state k (enumerate_from 0 (zip x.state.outs x.rest.cursors))) where
    abbrev left : Manager
    left = leaves.row_left x a k other t.one now w.index w.row w.number

    -- its row
    there : (row : Row) × (slice_get left.state.outs w.index ≡ Some row) × (core row ≡ core w.row)
    there = mapped_at core left.state.outs x.state.outs (sym (leaves.row_gone x a k other t.one now w.index w.row w.number).same) w.index w.row w.there

    settled_but : IsSettledBut w.index w.number.number k left.state.outs left.rest.cursors
    settled_but v row e inside got leads =
        let m = mapped_at core x.state.outs left.state.outs (leaves.row_gone x a k other t.one now w.index w.row w.number).same v row inside in
        set_cases (λ u. (u ≤ row.acked) ⊎ ((v ≡ w.index) × (u ≤ w.number.number))) x.rest.cursors w.index v w.number.number e got
        (λ same. inr (same, omega arith))
        (λ before. inl (subst (λ u. e ≤ u) (ap (λ (r : Row). r.acked) m.2) (t.settled v m.0 e m.1 before (ap (λ (r : Row). r.peer) m.2 ∙ leads))))

    mine : same_guid w.number.message.id.qm own.guid ≡ true
    mine = subst (λ g. same_guid w.number.message.id.qm g ≡ true) own_guid
        ((first_has (IsOwn x.state.identity.guid x.state.next_number) (λ (v : Kept). v.message) (λ (v : Kept). nat_lt w.row.acked v.number) w.row.kept w.number
        (flat_part (IsOwn x.state.identity.guid x.state.next_number) (λ (row : Row). map (λ v. v.message) row.kept) x.state.outs w.index w.row
        (turning.owned c z i j now d x y a b k l own other way n t few st is valid).0 w.there) w.first).source)

    brings : HearsRow → Accord x.state y.state k → pump x now ≡ sending_all x now a k other.guid (of_row w.index w.row w.number ∷ []) → Result
    brings hears accord goes =
        let p = packet_for other.guid now (of_row w.index w.row w.number, (stamped kind.Plain a).0) in
        let e = (stamped kind.Plain a).1 in
        let m = succeeded y (hear y p now) in
        let gone = leaves.row_gone x a k other t.one now w.index w.row w.number in
        let h : Brought y (hear y p now) l (after_user b) own x.state k w.row w.number (sum (map work_for (promised way))) =
        subst (λ (g : Identity). Brought y (hear y (packet_for g.guid now (of_row w.index w.row w.number, (stamped kind.Plain a).0)) now) l (after_user b) own x.state k w.row w.number
        (sum (map work_for (promised way)))) t.other_is
        (hears y a b l own (promised way) now t.two t.pends t.step t.still x.state k w.index (length x.state.peers) w.row w.number
        (all_there (IsInOrder (length x.state.peers)) x.state.outs w.index w.row t.one.valid.state.rows w.there) w.waits w.first mine
        (accord.ordinary w.index w.row w.number w.there w.peer w.first) (accord.decided w.index w.row w.number w.there w.peer w.first)) in
        moved_by c z i j now d x y a b k l own other way n t st is valid p left e (after_user b) (Brings w.index w.number h.place) (sum (map work_for (promised way))) h.raises (record {
          after = ap (succeeded x) goes ∙ leaves.row_is x a k other t.one now w.index w.row w.number;
          packets = ap (λ (o : PumpOutcome). o.packets) goes;
          answer = ap (λ (o : PumpOutcome). o.answer) goes;
          gone = gone;
          open_ = h.stands;
          hearing = h.heard;
          steps = turning.user_steps c z i j now d x y a b k l own other way n t few st is valid;
          enough = turning.enough_of way small;
          credited = let u = gone.credit y.state k in let v = gone.credit m.state k in let r = h.credited in omega (arith, u, v, r);
          settled = raised_settled l y.state.outs m.state.outs y.rest.cursors m.rest.cursors h.heard.raised h.heard.cursors
              (turning.under_settled c z i j now d x y a b k l own other way n t few st is valid small);
          still = turning.owes_none c z i j now d x y a b k l own other way n t few st is valid small;
          pends = none_pends x left a e k other t.one t.unsent refl;
          under = (
            t.unsent,
            record {
              row = there.0;
              there = there.1;
              peer = ap (λ (r : Row). r.peer) there.2 ∙ w.peer;
              first = ap first_unacked there.2 ∙ w.first;
              settled = settled_but;
              owing = h.owing;
              owing_there = h.there;
              found = h.found;
              source = subst (λ g. same_guid h.owing.source g ≡ true) (sym own_guid) h.source;
              sequence = h.sequence ∙ sym (ap (λ (r : Row). r.sequence) there.2);
              reached = h.reached;
              owes = h.owes;
            },
          );
          seldom = omega arith;
          live = λ some. omega arith;
          says = λ lacks. absurd (true≢false (sym (first_in (awaits k) x.state.outs w.row w.waits).1 ∙ all_got (λ (r : Row). awaits k r ≡ false) x.state.outs w.index w.row w.there lacks.rows));
        })

  -- The acknowledgement of a row goes.
  module _ (at : ℕ) (number : Kept) (place : ℕ) (brought : way ≡ Brings at number place) where
    under : All IsUnsent y.state.plain × IsBrought x y l at number place
    under = subst (λ w. IsUnder w x y a l) brought t.under

    orders : HearsOrder → AreStamped y.state → Accord y.state x.state l → Result
    orders hears stamps accord =
        let u = under.1 in
        let p = packet_for other.guid now (order_of x.state other now place u.owing, (stamped kind.Plain a).0) in
        let s = leaves.order_left x a k other t.one now place u.owing in
        let e = (stamped kind.Plain a).1 in
        let m = succeeded y (hear y p now) in
        let gone = leaves.order_gone x a k other t.one now place u.owing in
        let goes = going.order_goes x a k other now t.one t.window t.free few_a t.settled t.unsent place u.owing u.owing_there
        (subst (λ g. same_guid u.owing.source g ≡ true) other_guid u.source) u.owes in
        let h : Acknowledged y (hear y p now) l (after_user b) at number.number =
        subst (λ (g : Identity). Acknowledged y (hear y (packet_for g.guid now (order_of x.state g now place u.owing, (stamped kind.Plain a).0)) now) l (after_user b) at number.number) t.other_is
        (hears x y a b l own now t.two (subst (λ (ps : List Message). Pends y b l ps) (ap promised brought) t.pends) t.step t.own_is stamps accord at place number u) in
        moved_by c z i j now d x y a b k l own other way n t st is valid p s e (after_user b) Clear 1 0 (record {
          after = ap (succeeded x) goes ∙ leaves.order_is x a k other t.one now place u.owing;
          packets = ap (λ (o : PumpOutcome). o.packets) goes;
          answer = ap (λ (o : PumpOutcome). o.answer) goes;
          gone = gone;
          open_ = h.quiet.stands;
          hearing = h.quiet.heard;
          steps = turning.user_steps c z i j now d x y a b k l own other way n t few st is valid;
          enough = let r = ap promise brought in omega (arith, r);
          credited = let v = credit_of s.state y.state m.state k h.quiet.ins in omega (arith, v);
          settled = settled m h.row h.there h.reached h.quiet.heard.raised h.quiet.heard.cursors;
          still = ap (λ os. slice_set os place false) u.owes ∙ set_replicate false true (length x.state.ins) place;
          pends = none_pends x s a e k other t.one t.unsent refl;
          under = (t.unsent, still_settled k x s gone.same refl t.settled, turning.still_none c z i j now d x y a b k l own other way n t few st is valid m h.quiet.ins h.quiet.owes);
          seldom = omega arith;
          live = λ some. let r = ap promise brought in omega (arith, r);
          says = λ lacks. refl;
        })
      where
        settled : (m : Manager) (row : Row) → slice_get m.state.outs at ≡ Some row → number.number ≤ row.acked → AreRaised y.state.outs m.state.outs → m.rest.cursors ≡ y.rest.cursors
            → IsSettled l m.state.outs m.rest.cursors
        settled m row at_row reached raised same v r e inside got leads =
            let q = raised v r inside in
            by (under.1.settled v q.0 e q.1 (ap (λ es. slice_get es v) (sym same) ∙ got) (q.2 ∙ leads)) q.4
          where
            by : {before : ℕ} → (e ≤ before) ⊎ ((v ≡ at) × (e ≤ number.number)) → before ≤ r.acked → e ≤ r.acked
            by (inl low) rises = omega (arith, low, rises)
            by (inr (same_place, low)) rises =
                let is : Some r ≡ Some row = sym inside ∙ ap (slice_get m.state.outs) same_place ∙ at_row in
                let one : r ≡ row = cc in
                let top : number.number ≤ r.acked = subst (λ (w : Row). number.number ≤ w.acked) (sym one) reached in
                omega (arith, low, top)

  -- Each turn.
  pub turn_moves : HearsAll → Accord x.state y.state k → Accord y.state x.state l → AreStamped y.state → Result
  turn_moves hears agree back stamps = at way refl
    where
      by : (w : Way) → way ≡ w → (small : (way ≡ Clear) ⊎ ((q : Message) × (way ≡ Carries q))) → (a.owes ≡ false → way ≡ Clear) → Result
      by w e small idle = going.by_first x a k other now t.one t.window t.free few_a t.settled t.unsent Result (turning.owes_none c z i j now d x y a b k l own other way n t few st is valid small)
          (turning.plain c z i j now d x y a b k l own other way n t few st is valid small hears.plain)
          (λ v goes. brings small v hears.row agree goes)
          (λ none owes goes. turning.acks c z i j now d x y a b k l own other way n t few st is valid small hears.ack none goes)
          (λ none quiet goes. (moved_idle c z i j now d x y a b k l own other way n t st is valid goes quiet none (idle quiet)).0)

      at : (w : Way) → way ≡ w → Result
      at Clear e = by Clear e (inl e) (λ quiet. e)
      at (Carries q) e = by (Carries q) e (inr (q, e)) (λ quiet. absurd (let u : IsUnder (Carries q) x y a l = subst (λ w. IsUnder w x y a l) e t.under in let owes = u.0 in let no : ⊥ = cc in no))
      at (Brings v number place) e = orders v number place e hears.order stamps back
