-- A meeting of two managers that have nothing for one another: four packets set a session up, and nothing else happens.
use Rattle.std.proofs.Common.{◌≡◌, ℕ, ◌<◌, ◌||◌, false, cond, List, [], ◌∷◌, Option, Some, zero, suc, refl, sym, ap, subst, ◌∙◌}
use Rattle.std.specs.List.{list_any}
use Rattle.std.specs.Option.{option_map_or}
use Rattle.std.specs.Prelude.{length, map, option_map, slice_get, unwrap_or}
use Rattle.std.proofs.lemmas.List.{append-nil}
use Rattle.mqb_plain.specs.Lists.{unsent}
use Rattle.mqb_plain.specs.Plain.{PlainLists}
use Rattle.mqb_plain.specs.declared.outgoing.Outgoing.{Outgoing}
use Rattle.mqb_model.specs.Lists.{with_changed}
use Rattle.mqb_model.specs.calls.pump.Pump.{pump}
use Rattle.mqb_model.specs.managers.Beside.{all_unmarked}
use Rattle.mqb_model.specs.managers.Manager.{Manager, is_down, unlinked}
use Rattle.mqb_model.specs.managers.Outcomes.{succeeded}
use Rattle.mqb_model.specs.managers.Readers.{awaits, has_plain, is_outstanding_to}
use Rattle.mqb_model.specs.state.Resolving.{peer_known}
use Rattle.mqb_model.specs.state.State.{State}
use Rattle.mqb_network.proofs.Joining.{move_in_course}
use Rattle.mqb_network.specs.Changes.{ended, ended_by, parted}
use Rattle.mqb_network.specs.Choices.{Well}
use Rattle.mqb_network.specs.Connecting.{any_connected, any_down, connect, connecting, disconnect}
use Rattle.mqb_network.specs.Answers.{only}
use Rattle.mqb_network.specs.Courses.{Course, moved}
use Rattle.mqb_network.specs.Events as event
use Rattle.mqb_network.specs.Network.{Connection, Network, is_connected, is_end, manager_at, nobody}
use Rattle.mqb_network.specs.Replies as reply
use Rattle.mqb_network.specs.Runs.{course_after, moved_on}
use Rattle.mqb_network.specs.Scripts.{well}
use Rattle.mqb_network.specs.Sending.{flow}
use Rattle.mqb_session.specs.declared.phase.Phase.TheVariants as phase
use Rattle.mqb_session.specs.State as one_end
use Rattle.mqb_law_meetings.proofs.Lists.{any_found, changed_apart, changed_there, within_get}
use Rattle.mqb_law_meetings.specs.Drained.{IsDrained, has_for}
use Rattle.mqb_law_meetings.specs.Laws.{MeetsInVain}
use Rattle.mqb_law_meetings.specs.Meetings.{meeting}
use Rattle.mqb_law_meetings.proofs.Idle as idle
use Rattle.mqb_law_meetings.proofs.Meeting as meets
use Rattle.mqb_law_meetings.proofs.Meeting.{ArePartners, Idles, flow_idle}
use Rattle.mqb_law_meetings.proofs.Setting as one
use Rattle.mqb_law_meetings.proofs.Setting.{linked_with, sends_nothing}
use Rattle.mqb_law_meetings.proofs.Standing.{Stands, turned}

-- A connection ends.

got_parted : (ms : List Manager) (i : ℕ) → i < length ms → unwrap_or (option_map parted (slice_get ms i)) nobody ≡ parted (unwrap_or (slice_get ms i) nobody)
got_parted ms i inside = let g = within_get ms i inside in rw g.1 refl

module _ (n : Network) (a b : ℕ) (d : Connection) (ma mb : Manager) (h : Stands n a b d ma mb) (first : d.first ≡ a) (second : d.second ≡ b) where
  ended_is : (x : ℕ) → manager_at (ended a n) x ≡ unwrap_or (slice_get (with_changed parted (with_changed parted n.managers a) b) x) nobody
  ended_is x = ap (λ o. manager_at (option_map_or (ended_by n) o n) x) h.of_i
      ∙ ap (λ k. unwrap_or (slice_get (with_changed parted (with_changed parted n.managers k) d.second) x) nobody) first
      ∙ ap (λ k. unwrap_or (slice_get (with_changed parted (with_changed parted n.managers a) k) x) nobody) second

  pub ended_a : manager_at (ended a n) a ≡ parted ma
  ended_a = ended_is a ∙ ap (λ (o : Option Manager). unwrap_or o nobody) (changed_apart parted (with_changed parted n.managers a) b a (λ e. h.apart (sym e)) ∙ changed_there parted n.managers a)
      ∙ got_parted n.managers a h.in_i ∙ ap parted h.at_i

  pub ended_b : manager_at (ended a n) b ≡ parted mb
  ended_b = ended_is b ∙ ap (λ (o : Option Manager). unwrap_or o nobody) (changed_there parted (with_changed parted n.managers a) b
      ∙ ap (option_map parted) (changed_apart parted n.managers a b h.apart))
      ∙ got_parted n.managers b h.in_j ∙ ap parted h.at_j

  pub ended_others : (v : ℕ) → (a ≡ v → ⊥) → (b ≡ v → ⊥) → manager_at (ended a n) v ≡ manager_at n v
  ended_others v not_a not_b = ended_is v ∙ ap (λ (o : Option Manager). unwrap_or o nobody) (changed_apart parted (with_changed parted n.managers a) b v not_b ∙ changed_apart parted n.managers a v not_a)

-- what is left of a manager's state: nothing counts as sent
abbrev pub parted_state : State → State
parted_state s = record s { plain = map all_unmarked s.plain }

parted_is : (s : State) (x : one_end.State) → parted (linked_with s (Some x)) ≡ unlinked (parted_state s)
parted_is s x = refl

-- What is outstanding.

length_map : {X Y : Type 0} (f : X → Y) (xs : List X) → length (map f xs) ≡ length xs
length_map f [] = refl
length_map f (x ∷ xs) = ap (λ n. suc n) (length_map f xs)

as_many : (p : PlainLists) → has_plain (all_unmarked p) ≡ has_plain p
as_many p = rw (length_map (λ (o : Outgoing). unsent o.message) p.recoverable, length_map (λ (o : Outgoing). unsent o.message) p.express) refl

plain_parted : (ps : List PlainLists) (k : ℕ) → option_map_or has_plain (slice_get (map all_unmarked ps) k) false ≡ option_map_or has_plain (slice_get ps k) false
plain_parted [] k = refl
plain_parted (p ∷ ps) zero = as_many p
plain_parted (p ∷ ps) (suc k) = plain_parted ps k

outstanding_parted : (s : State) (k : ℕ) → is_outstanding_to (parted_state s) k ≡ is_outstanding_to s k
outstanding_parted s k = ap (λ b. b || list_any (awaits k) s.outs) (plain_parted s.plain k)

-- what a manager has for another one that it knows
pub has_is : (n : Network) (a b k : ℕ) (s t : State) → manager_at n a ≡ unlinked s → manager_at n b ≡ unlinked t → peer_known s t.identity.guid ≡ Some k
    → has_for n a b ≡ is_outstanding_to s k
has_is n a b k s t at_a at_b knows = ap (λ (m : Manager). option_map_or (is_outstanding_to m.state) (peer_known m.state (manager_at n b).state.identity.guid) false) at_a
    ∙ ap (λ (m : Manager). option_map_or (is_outstanding_to s) (peer_known s m.state.identity.guid) false) at_b
    ∙ ap (λ o. option_map_or (is_outstanding_to s) o false) knows

-- The flows of a meeting, and its end.

module _ (a b now : ℕ) (d : Connection) (ma mb : Manager) (first : d.first ≡ a) (second : d.second ≡ b) (idle_a : pump ma now ≡ sends_nothing ma) (same_a : succeeded ma (sends_nothing ma) ≡ ma)
    (idle_b : pump mb now ≡ sends_nothing mb) (same_b : succeeded mb (sends_nothing mb) ≡ mb) (z1 z2 z3 z4 z5 z6 z7 : Course) (stands : Stands z1.network a b d ma mb)
    (is_2 : z2 ≡ (flow a now Well z1).after) (is_3 : z3 ≡ (flow b now Well z2).after) (is_4 : z4 ≡ (flow a now Well z3).after) (is_5 : z5 ≡ (flow b now Well z4).after)
    (is_6 : z6 ≡ (flow a now Well z5).after) (is_7 : z7 ≡ (disconnect a z6).after) where
  step_2 : Idles z1 z2 a b d ma mb
  step_2 = flow_idle z1 z2 a b now d ma mb is_2 stands idle_a same_a

  step_3 : Idles z2 z3 b a d mb ma
  step_3 = flow_idle z2 z3 b a now d mb ma is_3 (turned z2.network a b d ma mb step_2.stands) idle_b same_b

  step_4 : Idles z3 z4 a b d ma mb
  step_4 = flow_idle z3 z4 a b now d ma mb is_4 (turned z3.network b a d mb ma step_3.stands) idle_a same_a

  step_5 : Idles z4 z5 b a d mb ma
  step_5 = flow_idle z4 z5 b a now d mb ma is_5 (turned z4.network a b d ma mb step_4.stands) idle_b same_b

  step_6 : Idles z5 z6 a b d ma mb
  step_6 = flow_idle z5 z6 a b now d ma mb is_6 (turned z5.network b a d mb ma step_5.stands) idle_a same_a

  parted_on : z7 ≡ moved (ended a) z6
  parted_on = is_7 ∙ ap (λ x. (cond x (record { reply = reply.Disconnected; after = moved (ended a) z6 }) (only z6 reply.Unlinked)).after)
      (any_found (is_end a) z6.network.connections d step_6.stands.of_i)

  pub left_a : manager_at z7.network a ≡ parted ma
  left_a = ap (λ (z : Course). manager_at z.network a) parted_on ∙ ended_a z6.network a b d ma mb step_6.stands first second

  pub left_b : manager_at z7.network b ≡ parted mb
  left_b = ap (λ (z : Course). manager_at z.network b) parted_on ∙ ended_b z6.network a b d ma mb step_6.stands first second

  pub others_same : (v : ℕ) → (a ≡ v → ⊥) → (b ≡ v → ⊥) → manager_at z7.network v ≡ manager_at z1.network v
  others_same v not_a not_b = ap (λ (z : Course). manager_at z.network v) parted_on ∙ ended_others z6.network a b d ma mb step_6.stands first second v not_a not_b
      ∙ step_6.keeps.others v not_a not_b ∙ step_5.keeps.others v not_b not_a ∙ step_4.keeps.others v not_a not_b ∙ step_3.keeps.others v not_b not_a ∙ step_2.keeps.others v not_a not_b

  pub sent_same : z7.sent ≡ z1.sent
  sent_same = ap (λ (z : Course). z.sent) parted_on ∙ step_6.keeps.sent ∙ append-nil z5.sent ∙ step_5.keeps.sent ∙ append-nil z4.sent
      ∙ step_4.keeps.sent ∙ append-nil z3.sent ∙ step_3.keeps.sent ∙ append-nil z2.sent ∙ step_2.keeps.sent ∙ append-nil z1.sent

  pub written_same : z7.written ≡ z1.written
  written_same = ap (λ (z : Course). z.written) parted_on ∙ step_6.keeps.written ∙ append-nil z5.written ∙ step_5.keeps.written ∙ append-nil z4.written
      ∙ step_4.keeps.written ∙ append-nil z3.written ∙ step_3.keeps.written ∙ append-nil z2.written ∙ step_2.keeps.written ∙ append-nil z1.written

-- The meeting of two that have nothing for one another.

-- what it leaves
pub record IsVain (c z : Course) (a b : ℕ) (s t : State) : Type 0 where
  pub meets : MeetsInVain c z a b
  pub at_a : manager_at z.network a ≡ unlinked (parted_state s)
  pub at_b : manager_at z.network b ≡ unlinked (parted_state t)
  pub others : (v : ℕ) → (a ≡ v → ⊥) → (b ≡ v → ⊥) → manager_at z.network v ≡ manager_at c.network v

module _ (c : Course) (a b now : ℕ) (s t : State) (h : ArePartners c.network a b s t) where
  none_down : any_down c.network a b ≡ false
  none_down = ap (λ (m : Manager). is_down m || is_down (manager_at c.network b)) h.at_a ∙ ap (λ (m : Manager). is_down m) h.at_b

  none_connected : any_connected c.network a b ≡ false
  none_connected = ap (λ x. x || is_connected c.network b) h.free_a ∙ h.free_b

  -- they are connected
  pub connect_is : (window_a window_b : ℕ) → (connect a b now window_a window_b c).after ≡ meets.ready_on c a b now window_a window_b s t h
  connect_is window_a window_b = ap (λ x. (cond x (only c reply.NotUp) (cond (any_connected c.network a b) (only c reply.Linked) (connecting a b now window_a window_b c))).after) none_down
      ∙ ap (λ x. (cond x (only c reply.Linked) (connecting a b now window_a window_b c)).after) none_connected

  abbrev d : Connection
  d = meets.between c a b now 1 1 s t h

  abbrev ma : Manager
  ma = meets.asking_with c.network a b now 1 1 s t h phase.Ready 1

  abbrev mb : Manager
  mb = meets.asked_with c.network a b now 1 1 s t h phase.Ready 1

  pub vain : is_outstanding_to s h.place_a ≡ false → is_outstanding_to t h.place_b ≡ false → (z1 z2 z3 z4 z5 z6 z7 : Course)
      → z1 ≡ (connect a b now 1 1 c).after → z2 ≡ (flow a now Well z1).after → z3 ≡ (flow b now Well z2).after → z4 ≡ (flow a now Well z3).after
      → z5 ≡ (flow b now Well z4).after → z6 ≡ (flow a now Well z5).after → z7 ≡ (disconnect a z6).after → IsVain c z7 a b s t
  vain none_a none_b z1 z2 z3 z4 z5 z6 z7 is_1 is_2 is_3 is_4 is_5 is_6 is_7 = record {
    meets = record {
      packets = meets.went c.network a b now 1 1 s t h;
      four = refl;
      sent = all_sent ∙ ap (λ (z : Course). z.sent) met ∙ (meets.ready_keeps c a b now 1 1 s t h).sent;
      written = all_written ∙ ap (λ (z : Course). z.written) met ∙ (meets.ready_keeps c a b now 1 1 s t h).written ∙ append-nil c.written;
      first = at_a ∙ ap (λ (m : Manager). unlinked m.state) (sym at_a);
      second = at_b ∙ ap (λ (m : Manager). unlinked m.state) (sym at_b);
      drained = record {
        first_up = ap (λ (m : Manager). is_down m) at_a;
        second_up = ap (λ (m : Manager). is_down m) at_b;
        first = has_is z7.network a b h.place_a (parted_state s) (parted_state t) at_a at_b h.knows ∙ outstanding_parted s h.place_a ∙ none_a;
        second = has_is z7.network b a h.place_b (parted_state t) (parted_state s) at_b at_a h.known ∙ outstanding_parted t h.place_b ∙ none_b;
      };
    };
    at_a = at_a;
    at_b = at_b;
    others = all_others;
  }
    where
      met : z1 ≡ meets.ready_on c a b now 1 1 s t h
      met = is_1 ∙ connect_is 1 1

      stands : Stands z1.network a b d ma mb
      stands = subst (λ (z : Course). Stands z.network a b d ma mb) (sym met) (meets.ready_stands c a b now 1 1 s t h)

      idle_a : pump ma now ≡ sends_nothing ma
      idle_a = idle.pump_idle s (one.asking_in s t h.place_a h.place_b h.peer h.knows h.there h.is h.known now 1 1 phase.Ready 1) now h.place_a h.peer refl refl
          (ap (λ o. unwrap_or o (length s.peers)) h.knows) h.there none_a

      same_a : succeeded ma (sends_nothing ma) ≡ ma
      same_a = idle.stays_idle s (one.asking_in s t h.place_a h.place_b h.peer h.knows h.there h.is h.known now 1 1 phase.Ready 1) now h.place_a h.peer refl refl
          (ap (λ o. unwrap_or o (length s.peers)) h.knows) h.there

      idle_b : pump mb now ≡ sends_nothing mb
      idle_b = idle.pump_idle t (one.asked_in s t h.place_a h.place_b h.peer h.knows h.there h.is h.known now 1 1 phase.Ready 1) now h.place_b h.peer_b refl refl
          (ap (λ o. unwrap_or o (length t.peers)) h.known) h.there_b none_b

      same_b : succeeded mb (sends_nothing mb) ≡ mb
      same_b = idle.stays_idle t (one.asked_in s t h.place_a h.place_b h.peer h.knows h.there h.is h.known now 1 1 phase.Ready 1) now h.place_b h.peer_b refl refl
          (ap (λ o. unwrap_or o (length t.peers)) h.known) h.there_b

      at_a : manager_at z7.network a ≡ unlinked (parted_state s)
      at_a = left_a a b now d ma mb refl refl idle_a same_a idle_b same_b z1 z2 z3 z4 z5 z6 z7 stands is_2 is_3 is_4 is_5 is_6 is_7

      at_b : manager_at z7.network b ≡ unlinked (parted_state t)
      at_b = left_b a b now d ma mb refl refl idle_a same_a idle_b same_b z1 z2 z3 z4 z5 z6 z7 stands is_2 is_3 is_4 is_5 is_6 is_7

      all_others : (v : ℕ) → (a ≡ v → ⊥) → (b ≡ v → ⊥) → manager_at z7.network v ≡ manager_at c.network v
      all_others v not_a not_b = others_same a b now d ma mb refl refl idle_a same_a idle_b same_b z1 z2 z3 z4 z5 z6 z7 stands is_2 is_3 is_4 is_5 is_6 is_7 v not_a not_b
          ∙ ap (λ (z : Course). manager_at z.network v) met ∙ meets.ready_others c a b now 1 1 s t h v not_a not_b

      all_sent : z7.sent ≡ z1.sent
      all_sent = sent_same a b now d ma mb refl refl idle_a same_a idle_b same_b z1 z2 z3 z4 z5 z6 z7 stands is_2 is_3 is_4 is_5 is_6 is_7

      all_written : z7.written ≡ z1.written
      all_written = written_same a b now d ma mb refl refl idle_a same_a idle_b same_b z1 z2 z3 z4 z5 z6 z7 stands is_2 is_3 is_4 is_5 is_6 is_7

-- The moves of a meeting.
meeting_is : (c : Course) (a b now : ℕ) (P : Course → Type 0) → ((z1 z2 z3 z4 z5 z6 z7 : Course)
    → z1 ≡ (connect a b now 1 1 c).after → z2 ≡ (flow a now Well z1).after → z3 ≡ (flow b now Well z2).after → z4 ≡ (flow a now Well z3).after
    → z5 ≡ (flow b now Well z4).after → z6 ≡ (flow a now Well z5).after → z7 ≡ (disconnect a z6).after → P z7) → P (course_after c (map well (meeting a b now)))
meeting_is c a b now P f =
    let z1 = moved_on c (well (event.Connect a b now 1 1)) in
    let z2 = moved_on z1 (well (event.Flow a now)) in
    let z3 = moved_on z2 (well (event.Flow b now)) in
    let z4 = moved_on z3 (well (event.Flow a now)) in
    let z5 = moved_on z4 (well (event.Flow b now)) in
    let z6 = moved_on z5 (well (event.Flow a now)) in
    f z1 z2 z3 z4 z5 z6 (moved_on z6 (well (event.Disconnect a)))
    (move_in_course c (well (event.Connect a b now 1 1))) (move_in_course z1 (well (event.Flow a now))) (move_in_course z2 (well (event.Flow b now)))
    (move_in_course z3 (well (event.Flow a now))) (move_in_course z4 (well (event.Flow b now))) (move_in_course z5 (well (event.Flow a now)))
    (move_in_course z6 (well (event.Disconnect a)))

-- So it is where neither has anything for the other.
pub vain_meeting : (c : Course) (a b now : ℕ) (s t : State) → ArePartners c.network a b s t → IsDrained c.network a b → IsVain c (course_after c (map well (meeting a b now))) a b s t
vain_meeting c a b now s t h drained = meeting_is c a b now (λ z. IsVain c z a b s t) (vain c a b now s t h
    (sym (has_is c.network a b h.place_a s t h.at_a h.at_b h.knows) ∙ drained.first)
    (sym (has_is c.network b a h.place_b t s h.at_b h.at_a h.known) ∙ drained.second))

pub meets_in_vain : (c : Course) (a b now : ℕ) (s t : State) → ArePartners c.network a b s t → IsDrained c.network a b
    → MeetsInVain c (course_after c (map well (meeting a b now))) a b
meets_in_vain c a b now s t h drained = (vain_meeting c a b now s t h drained).meets
