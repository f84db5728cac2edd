-- How meetings begin, and what they come to where neither has anything for the other.
use Rattle.std.specs.Prelude.{◌++◌, ◌<◌, ◌≡◌, All, IsTrue, List, Some, false, length, map}
use Rattle.std.specs.Prelude.{replicate, true, ℕ}
use Rattle.mqb_base.specs.declared.ids.Identity.{Identity}
use Rattle.mqb_history.specs.Drafted.{AreInOrder, IsDraftedEvent}
use Rattle.mqb_model.specs.calls.pump.Pump.{pump}
use Rattle.mqb_model.specs.managers.Manager.{is_down}
use Rattle.mqb_network.specs.Choices.{Choice}
use Rattle.mqb_network.specs.Courses.{Course}
use Rattle.mqb_network.specs.Events.{Connect, Event}
use Rattle.mqb_network.specs.Laws.{AreApart}
use Rattle.mqb_network.specs.Network.{manager_at}
use Rattle.mqb_network.specs.Runs.{IsRun, IsRunFrom, Move, after_run, course_after, may, moved_on}
use Rattle.mqb_network.specs.Scripts.{well}
use Rattle.mqb_packet.specs.declared.packet.Packet.{Packet}
use Rattle.mqb_session.specs.State as one_end
use Rattle.mqb_session.specs.declared.phase.Phase.TheVariants.{Ready}
use Rattle.mqb_law_meetings.specs.Drained.{IsAlone, IsDrained, has_for}
use Rattle.mqb_law_meetings.specs.Meetings.{is_good, meeting, starts}

-- In each event a good choice may be made.
abbrev pub GoodMovesExist : Type 0
GoodMovesExist =
    (c : Course) (e : Event) → (choice : Choice) × IsTrue (is_good choice) × IsTrue (may c e choice)

-- Two managers that were started anew are alone.
abbrev pub StartsLeaveAlone : Type 0
StartsLeaveAlone = (known : List Identity) (before ms : List Move) (a b : ℕ) → AreApart known
    → IsRun known before → a < length known → b < length known
    → map (λ m. m.event) ms ≡ starts a b → All (λ m. is_good m.choice ≡ true) ms
    → IsRunFrom (after_run known before) ms
    → IsAlone (course_after (after_run known before) ms).network a
    × IsAlone (course_after (after_run known before) ms).network b

-- A manager has what it had, and a new session with another one, ready, in which nothing went, and
-- in which no row owes anything.
pub record IsReadyFor (c z : Course) (i j own_window other_window : ℕ) : Type 0 where
  pub up : is_down (manager_at z.network i) ≡ false
  pub state : (manager_at z.network i).state ≡ (manager_at c.network i).state
  pub session : one_end.State
  pub there : (manager_at z.network i).rest.session ≡ Some session
  pub phase : session.phase ≡ Ready
  pub peer : session.peer ≡ Some (manager_at c.network j).state.identity.guid
  pub window : session.window ≡ own_window
  pub peer_window : session.peer_window ≡ other_window
  pub sent : session.sent ≡ 0
  pub got : session.got ≡ 0
  pub owes : session.owes ≡ false
  pub cursors : (manager_at z.network i).rest.cursors
      ≡ replicate (length (manager_at c.network i).state.outs) 0
  pub owed : (manager_at z.network i).rest.owes
      ≡ replicate (length (manager_at c.network i).state.ins) false

-- Both are ready for one another, by four packets and without a record.
pub record Begins (c z : Course) (a b window_a window_b : ℕ) : Type 0 where
  pub first : IsReadyFor c z a b window_a window_b
  pub second : IsReadyFor c z b a window_b window_a
  pub packets : List Packet
  pub four : length packets ≡ 4
  pub sent : z.sent ≡ c.sent ++ packets
  pub written : z.written ≡ c.written

-- Two managers that are alone are ready for one another once they are connected,
-- whatever their windows.
abbrev pub MeetingsBegin : Type 0
MeetingsBegin = (known : List Identity) (before : List Move) (a b now window_a window_b : ℕ)
    → AreApart known → IsRun known before → a < length known → b < length known → (a ≡ b → ⊥)
    → IsAlone (after_run known before).network a → IsAlone (after_run known before).network b
    → Begins (after_run known before)
    (moved_on (after_run known before) (well (Connect a b now window_a window_b))) a b window_a
    window_b

-- Whatever a manager has for another one, its pump gives a packet out where the other
-- one's window is not 0.
abbrev pub SendsWhatItHas : (c z : Course) → (i j now window : ℕ) → Type 0
SendsWhatItHas c z i j now window = 0 < window → has_for c.network i j ≡ true
    → 0 < length (pump (manager_at z.network i) now).packets

-- Neither keeps back what it has for the other one, once they are connected.
abbrev pub SomethingIsSent : Type 0
SomethingIsSent = (known : List Identity) (before : List Move) (a b now window_a window_b : ℕ)
    → AreInOrder known → All (λ m. IsDraftedEvent m.event) before → IsRun known before
    → a < length known → b < length known → (a ≡ b → ⊥) → IsAlone (after_run known before).network a
    → IsAlone (after_run known before).network b
    → let z : Course =
    moved_on (after_run known before) (well (Connect a b now window_a window_b)) in
    SendsWhatItHas (after_run known before) z a b now window_b
    × SendsWhatItHas (after_run known before) z b a now window_a

-- A meeting came to four packets that set a session up, and to nothing else, and both are
-- drained and alone again.
pub record MeetsInVain (c z : Course) (a b : ℕ) : Type 0 where
  pub packets : List Packet
  pub four : length packets ≡ 4
  pub sent : z.sent ≡ c.sent ++ packets
  pub written : z.written ≡ c.written
  pub first : IsAlone z.network a
  pub second : IsAlone z.network b
  pub drained : IsDrained z.network a b

-- So does each meeting of two managers that are drained and alone.
abbrev pub DrainedMeetInVain : Type 0
DrainedMeetInVain = (known : List Identity) (before : List Move) (a b now : ℕ) → AreApart known
    → IsRun known before → a < length known → b < length known → (a ≡ b → ⊥)
    → IsAlone (after_run known before).network a → IsAlone (after_run known before).network b
    → IsDrained (after_run known before).network a b
    → MeetsInVain (after_run known before)
    (course_after (after_run known before) (map well (meeting a b now))) a b
