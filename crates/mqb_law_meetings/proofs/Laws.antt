-- The laws, of runs.
use Rattle.std.proofs.Common.{◌≡◌, ℕ, ◌<◌, Bool, true, false, not, List, Some, refl, sym, ap, subst, ◌∙◌}
use Rattle.std.specs.Prelude.{IsTrue, length, replicate, unwrap_or}
use Rattle.std.proofs.lemmas.List.{append-nil}
use Rattle.mqb_base.specs.declared.ids.Identity.{Identity}
use Rattle.mqb_model.specs.managers.Manager.{Manager, is_down}
use Rattle.mqb_model.specs.state.State.{State}
use Rattle.mqb_network.proofs.Joining.{move_in_course}
use Rattle.mqb_network.specs.Choices.{Choice, Lost, Well}
use Rattle.mqb_network.specs.Courses.{Course}
use Rattle.mqb_network.specs.Events.{Connect}
use Rattle.mqb_network.specs.Events as event
use Rattle.mqb_network.specs.Laws.{AreApart}
use Rattle.mqb_network.specs.Network.{manager_at}
use Rattle.mqb_network.specs.Runs.{IsRun, Move, after_run, may, moved_on}
use Rattle.mqb_network.specs.Scripts.{well}
use Rattle.mqb_session.specs.declared.phase.Phase.TheVariants as phase
use Rattle.mqb_history.specs.Drafted.{AlwaysValid}
use Rattle.mqb_history.specs.Laws.{HistoriesAreOrderly, RunsHaveHistories}
use Rattle.mqb_law_progress.specs.Progress.{SomethingGoes}
use Rattle.mqb_model.specs.calls.pump.Pump.{pump}
use Rattle.mqb_model.specs.managers.Valid.{IsValidManager}
use Rattle.mqb_history.specs.Orderly.{IsOrderly}
use Rattle.mqb_law_meetings.specs.Laws.{Begins, DrainedMeetInVain, GoodMovesExist, MeetingsBegin, SomethingIsSent, StartsLeaveAlone}
use Rattle.mqb_law_meetings.specs.Meetings.{is_good}
use Rattle.mqb_law_meetings.proofs.Knowing.{partners}
use Rattle.mqb_law_meetings.proofs.Meeting as meets
use Rattle.mqb_law_meetings.proofs.Meeting.{ArePartners}
use Rattle.mqb_law_meetings.proofs.Setting as one
use Rattle.mqb_law_meetings.proofs.Starting.{both_alone}
use Rattle.mqb_law_meetings.proofs.Lists.{get_within}
use Rattle.mqb_law_meetings.proofs.Sending.{something_sent, valid_now}
use Rattle.mqb_law_meetings.proofs.Vain.{connect_is, has_is, meets_in_vain}

-- A good choice may always be made.

restarts : (c : Course) (i : ℕ) (b : Bool) → is_down (manager_at c.network i) ≡ b
    → (choice : Choice) × IsTrue (is_good choice) × IsTrue (may c (event.Restart i) choice)
restarts c i true is = (Lost, refl, is)
restarts c i false is = (Well, refl, ap not is)

pub good_moves_exist : GoodMovesExist
good_moves_exist c (event.Restart i) = restarts c i (is_down (manager_at c.network i)) refl
good_moves_exist c _ = (Well, refl, refl)

-- Both are ready.

module _ (c : Course) (a b now window_a window_b : ℕ) (s t : State) (h : ArePartners c.network a b s t) where
  abbrev z : Course
  z = moved_on c (well (Connect a b now window_a window_b))

  is_ready : z ≡ meets.ready_on c a b now window_a window_b s t h
  is_ready = move_in_course c (well (Connect a b now window_a window_b)) ∙ connect_is c a b now s t h window_a window_b

  at_a : manager_at z.network a ≡ meets.asking_with c.network a b now window_a window_b s t h phase.Ready window_b
  at_a = ap (λ (y : Course). manager_at y.network a) is_ready ∙ (meets.ready_stands c a b now window_a window_b s t h).at_i

  at_b : manager_at z.network b ≡ meets.asked_with c.network a b now window_a window_b s t h phase.Ready window_a
  at_b = ap (λ (y : Course). manager_at y.network b) is_ready ∙ (meets.ready_stands c a b now window_a window_b s t h).at_j

  was_a : (manager_at c.network a).state ≡ s
  was_a = ap (λ (m : Manager). m.state) h.at_a

  was_b : (manager_at c.network b).state ≡ t
  was_b = ap (λ (m : Manager). m.state) h.at_b

  begins : Begins c z a b window_a window_b
  begins = record {
    first = record {
      up = ap (λ (m : Manager). is_down m) at_a;
      state = ap (λ (m : Manager). m.state) at_a ∙ sym was_a;
      session = one.asking_in s t h.place_a h.place_b h.peer h.knows h.there h.is h.known now window_a window_b phase.Ready window_b;
      there = ap (λ (m : Manager). m.rest.session) at_a;
      phase = refl;
      peer = ap (λ (x : State). Some x.identity.guid) (sym was_b);
      window = refl;
      peer_window = refl;
      sent = refl;
      got = refl;
      owes = refl;
      cursors = ap (λ (m : Manager). m.rest.cursors) at_a ∙ one.grown_once 0 (length s.outs) ∙ ap (λ (x : State). replicate (length x.outs) 0) (sym was_a);
      owed = ap (λ (m : Manager). m.rest.owes) at_a ∙ one.grown_once false (length s.ins) ∙ ap (λ (x : State). replicate (length x.ins) false) (sym was_a);
    };
    second = record {
      up = ap (λ (m : Manager). is_down m) at_b;
      state = ap (λ (m : Manager). m.state) at_b ∙ sym was_b;
      session = one.asked_in s t h.place_a h.place_b h.peer h.knows h.there h.is h.known now window_a window_b phase.Ready window_a;
      there = ap (λ (m : Manager). m.rest.session) at_b;
      phase = refl;
      peer = ap (λ (x : State). Some x.identity.guid) (sym was_a);
      window = refl;
      peer_window = refl;
      sent = refl;
      got = refl;
      owes = refl;
      cursors = ap (λ (m : Manager). m.rest.cursors) at_b ∙ one.grown_once 0 (length t.outs) ∙ ap (λ (x : State). replicate (length x.outs) 0) (sym was_b);
      owed = ap (λ (m : Manager). m.rest.owes) at_b ∙ one.grown_once false (length t.ins) ∙ ap (λ (x : State). replicate (length x.ins) false) (sym was_b);
    };
    packets = meets.went c.network a b now window_a window_b s t h;
    four = refl;
    sent = ap (λ (y : Course). y.sent) is_ready ∙ (meets.ready_keeps c a b now window_a window_b s t h).sent;
    written = ap (λ (y : Course). y.written) is_ready ∙ (meets.ready_keeps c a b now window_a window_b s t h).written ∙ append-nil c.written;
  }

-- Courses of runs are orderly.

module _ (orderly : HistoriesAreOrderly) (histories : RunsHaveHistories) where
  pub run_is_orderly : (known : List Identity) (ms : List Move) → AreApart known → IsRun known ms → IsOrderly known (after_run known ms)
  run_is_orderly known ms apart run = let h = (histories known ms apart run (λ i. false)).0 in subst (IsOrderly known) h.2 (orderly known h.0 apart h.1)

  pub starts_leave_alone : StartsLeaveAlone
  starts_leave_alone known before ms a b apart run in_a in_b are good goes =
      let o = run_is_orderly known before apart run in
      both_alone (after_run known before) ms a b (subst (λ n. a < n) (sym o.count) in_a) (subst (λ n. b < n) (sym o.count) in_b) are good

  pub drained_meet_in_vain : DrainedMeetInVain
  drained_meet_in_vain known before a b now apart run in_a in_b differ alone_a alone_b drained =
      let c = after_run known before in
      meets_in_vain c a b now (manager_at c.network a).state (manager_at c.network b).state
      (partners known apart c (run_is_orderly known before apart run) a b in_a in_b differ alone_a alone_b) drained

  pub meetings_begin : MeetingsBegin
  meetings_begin known before a b now window_a window_b apart run in_a in_b differ alone_a alone_b =
      begins (after_run known before) a b now window_a window_b (manager_at (after_run known before).network a).state (manager_at (after_run known before).network b).state
      (partners known apart (after_run known before) (run_is_orderly known before apart run) a b in_a in_b differ alone_a alone_b)

-- Neither keeps back what it has.
module _ (orderly : HistoriesAreOrderly) (histories : RunsHaveHistories) (always : AlwaysValid) (goes : SomethingGoes) where
  pub something_is_sent : SomethingIsSent
  something_is_sent known before a b now window_a window_b in_order drafted run in_a in_b differ alone_a alone_b =
      let c = after_run known before in
      let s = (manager_at c.network a).state in
      let t = (manager_at c.network b).state in
      let h = partners known in_order.apart c (run_is_orderly orderly histories known before in_order.apart run) a b in_a in_b differ alone_a alone_b in (
        λ open_ has. subst (λ (m : Manager). 0 < length (pump m now).packets) (sym (at_a c a b now window_a window_b s t h))
            (something_sent goes s (subst (λ (m : Manager). IsValidManager m) alone_a (valid_now c a (always known before in_order drafted run (λ i. false) a)))
            (one.asking_in s t h.place_a h.place_b h.peer h.knows h.there h.is h.known now window_a window_b phase.Ready window_b) now h.place_a window_b h.peer
            refl refl refl refl (ap (λ o. unwrap_or o (length s.peers)) h.knows) h.there (get_within s.peers h.place_a h.peer h.there) open_
            (sym (has_is c.network a b h.place_a s t h.at_a h.at_b h.knows) ∙ has)),
        λ open_ has. subst (λ (m : Manager). 0 < length (pump m now).packets) (sym (at_b c a b now window_a window_b s t h))
            (something_sent goes t (subst (λ (m : Manager). IsValidManager m) alone_b (valid_now c b (always known before in_order drafted run (λ i. false) b)))
            (one.asked_in s t h.place_a h.place_b h.peer h.knows h.there h.is h.known now window_a window_b phase.Ready window_a) now h.place_b window_a h.peer_b
            refl refl refl refl (ap (λ o. unwrap_or o (length t.peers)) h.known) h.there_b (get_within t.peers h.place_b h.peer_b h.there_b) open_
            (sym (has_is c.network b a h.place_b t s h.at_b h.at_a h.known) ∙ has)),
      )
