-- The choice is read from the reply to each event, and so a run from its events and replies.
use Rattle.std.proofs.Common.{refl, ap, sym, subst, ◌∙◌}
use Rattle.std.specs.List.{enumerate_from}
use Rattle.std.specs.Option.{option_map_or}
use Rattle.std.specs.Prelude.{[], ◌&&◌, ◌+◌, ◌++◌, ◌==◌, ◌∷◌, ◌≡◌, Bool, List, None, Option, Result, Some, cond, false, is_some, length, map, not, true, ℕ}
use Rattle.mqb_base.specs.declared.ids.Identity.{Identity}
use Rattle.mqb_journal.specs.declared.faults.CheckpointFault.{CheckpointFault}
use Rattle.mqb_journal.specs.declared.faults.CheckpointFault.TheVariants as fault
use Rattle.mqb_model.specs.calls.Call.{requested}
use Rattle.mqb_model.specs.calls.Link.{resend}
use Rattle.mqb_model.specs.calls.hear.Hear.{hear}
use Rattle.mqb_model.specs.calls.hear.Session.{HeardOutcome}
use Rattle.mqb_model.specs.calls.pump.Pump.{PumpOutcome, pump}
use Rattle.mqb_model.specs.laws.Refusals.{RefusalsChangeNothing}
use Rattle.mqb_model.specs.managers.Manager.{Down, Manager, Up, is_down}
use Rattle.mqb_model.specs.managers.Outcomes.{Outcome, unless}
use Rattle.mqb_network.specs.Answers.{Answer, only, reply_to}
use Rattle.mqb_network.specs.Changes.{dropped, ended, succeeded_at}
use Rattle.mqb_network.specs.mqb_store_laws.Checkpoints.{checkpoint_made, is_large}
use Rattle.mqb_network.specs.Checkpointing.{checkpoint_by, may_be_far, may_checkpoint, record_count}
use Rattle.mqb_network.specs.Choices.{Choice, Failure, Fails, Kept, Lost, TooFar, Unread, Well}
use Rattle.mqb_network.specs.Connecting.{any_connected, any_down, both_linked, connect, connected, set_up}
use Rattle.mqb_network.specs.Courses.{Course, course_from, moved}
use Rattle.mqb_network.specs.Delivering.{deliver_packet, delivered, heard_by, unheard}
use Rattle.mqb_network.specs.Events.{Event}
use Rattle.mqb_network.specs.Events as event
use Rattle.mqb_network.specs.Laws.{AreApart}
use Rattle.mqb_network.specs.Network.{Network, Note, is_connected, is_underway, manager_at}
use Rattle.mqb_network.specs.Replies.{Reply}
use Rattle.mqb_network.specs.Replies as reply
use Rattle.mqb_network.specs.Restarting.{reopen}
use Rattle.mqb_network.specs.Runs.{IsRunFrom, Move, answer, beginning, may, may_fail, may_restart, moved_on, records_in, replies_from}
use Rattle.mqb_network.specs.Sending.{pump_by}
use Rattle.mqb_network.proofs.Joining.{move_in_course}
use Rattle.mqb_packet.specs.declared.packet.Packet.{Packet}
use Rattle.mqb_queue.specs.Places.{numbered}
use Rattle.mqb_history.specs.Changes.{changed, may_change}
use Rattle.mqb_history.specs.Choosing.{Broke, Found, IsShown, Missed, RepliesShowChoices, RunsAreShown, Sign, signs_of}
use Rattle.mqb_history.specs.Histories.{HasHistory}
use Rattle.mqb_history.specs.Orderly.{IsOrderly}
use Rattle.mqb_history.proofs.Choosing.{by_first, call_shown, first_shown, flow_shown, heard_shown, once, only_well, pump_shown, shown_by_flow, shown_once}
use Rattle.mqb_history.proofs.Ending.{parted_at, parted_condition}
use Rattle.mqb_history.proofs.Keeping.{IsClosed, event_keeps}
use Rattle.mqb_history.proofs.Lists.{clash, equal_numbers, not_true}
use Rattle.mqb_history.proofs.Ordering.{network_of}
use Rattle.mqb_history.proofs.Orderly.{histories_are_orderly}
use Rattle.mqb_history.proofs.Runs.{runs_have_histories}
use Rattle.mqb_history.proofs.SettingUp.{setting_up_writes_nothing}

-- what was chosen in an event can be read from its reply
record IsRead (c : Course) (e : Event) : Type 0 where
  pub read : List Sign → Choice
  pub right : (a : Choice) (x : List Sign) → may c e a ≡ true → read (signs_of (answer c (record { event = e; choice = a })).reply ++ x) ≡ a

-- of one call it is by the first sign
by_once : (c : Course) (e : Event) → ((a : Choice) → may c e a ≡ true → shown_once (answer c (record { event = e; choice = a })).reply ≡ a) → IsRead c e
by_once c e h = record { read = once; right = λ a x m. first_shown (answer c (record { event = e; choice = a })).reply x ∙ h a m }

-- and where no record is written nothing has to be read
unwritten : (c : Course) (e : Event) → ((a : Choice) → may c e a ≡ true → Well ≡ a) → IsRead c e
unwritten c e h = record { read = λ signs. Well; right = λ a x m. h a m }

-- Events in which no record is written.

always_well : (records : ℕ) → records ≡ 0 → (a : Choice) → may_fail records a ≡ true → Well ≡ a
always_well records none a m = sym (only_well records none a m)

either_empty : (b : Bool) (x y : Answer) → length x.after.written ≡ 0 → length y.after.written ≡ 0 → length (cond b x y).after.written ≡ 0
either_empty true x y first second = first
either_empty false x y first second = second

connect_empty : (known : List Identity) (c : Course) → IsOrderly known c → (a b now window_a window_b : ℕ)
    → length (connect a b now window_a window_b (course_from c.network)).after.written ≡ 0
connect_empty known c o a b now window_a window_b = at (any_down n a b) refl (any_connected n a b) refl
  where
    n : Network
    n = c.network

    from : Course
    from = course_from n

    linked : Course
    linked = set_up a b now (moved (both_linked a b window_a window_b) from)

    at : (down : Bool) → any_down n a b ≡ down → (joined : Bool) → any_connected n a b ≡ joined
        → length (cond down (only from reply.NotUp) (cond joined (only from reply.Linked) (connected (length n.notes) linked))).after.written ≡ 0
    at true e joined f = refl
    at false e true f = refl
    at false e false f = ap length (setting_up_writes_nothing known from a b now window_a window_b (network_of known c o) e f)

-- Deliveries.

deliver_read : RefusalsChangeNothing → (n : Network) (note : Option Note) (p : Option Packet) (now : ℕ) (a : Choice)
    → may_fail (length (deliver_packet note p now Well (course_from n)).after.written) a ≡ true → shown_once (deliver_packet note p now a (course_from n)).reply ≡ a
deliver_read law n None p now a m = always_well 0 refl a m
deliver_read law n (Some note) None now a m = always_well 0 refl a m
deliver_read law n (Some note) (Some p) now a m = at (is_underway n note) m
  where
    outcome : HeardOutcome
    outcome = hear (manager_at n note.receiver) p now

    at : (b : Bool) → may_fail (length (delivered (cond b (heard_by note.receiver outcome Well (course_from n)) (unheard Well (course_from n)))).after.written) a ≡ true
        → shown_once (delivered (cond b (heard_by note.receiver outcome a (course_from n)) (unheard a (course_from n)))).reply ≡ a
    at true m = heard_shown n note.receiver outcome ((law (manager_at n note.receiver)).hear_whole p now).touches a m
    at false m = always_well 0 refl a m

-- Checkpoints.

checkpoint_read : (c : Course) (i : ℕ) (a : Choice) → may_checkpoint c i a ≡ true → shown_once (checkpoint_by i a (course_from c.network)).reply ≡ a
checkpoint_read c i a m = shown a m
  where
    own : Manager
    own = manager_at c.network i

    -- what it comes to, by each reason against it
    by : (down far large : Bool) → Outcome (Result (Unit {0}) CheckpointFault)
    by down far large = unless own (cond down (Some fault.Down) (cond far (Some fault.TooFar) (cond large (Some fault.TooLarge) None))) (checkpoint_made own)

    says : (down far large : Bool) → Choice → Reply
    says down far large a = reply_to i (by down far large) a (λ answer lines. reply.Checkpointed answer) (course_from c.network)

    well : (down large : Bool) → shown_once (says down false large Well) ≡ Well
    well true large = refl
    well false true = refl
    well false false = refl

    far : (down large : Bool) → (not down && may_be_far (record_count c i)) ≡ true → shown_once (says down true large TooFar) ≡ TooFar
    far true large m = absurd (clash (sym m))
    far false large m = refl

    fails : (down large first : Bool) (before : ℕ) (how : Failure) → (before == 0) ≡ first → (first && (by down false large).touches) ≡ true
        → shown_once (option_map_or reply.DiskFailed (cond (first && (by down false large).touches) (Some how) None) (reply.Checkpointed (by down false large).answer)) ≡ Fails before how
    fails down large false before how e m = absurd (clash (sym m))
    fails true large true before how e m = absurd (clash (sym m))
    fails false true true before how e m = absurd (clash (sym m))
    fails false false true before how e m = ap (λ n. Fails n how) (sym (equal_numbers before 0 e))

    shown : (a : Choice) → may_checkpoint c i a ≡ true → shown_once (checkpoint_by i a (course_from c.network)).reply ≡ a
    shown Well m = well (is_down own) (is_large own.state)
    shown TooFar m = far (is_down own) (is_large own.state) m
    shown (Fails before how) m = fails (is_down own) (is_large own.state) (before == 0) before how refl m
    shown a m = absurd (clash (sym m))

-- Starts.

-- the choice that signs show to a start
abbrev shown_by_start : List Sign → Choice
shown_by_start (Broke how ∷ signs) = Unread
shown_by_start (Found ∷ signs) = Kept
shown_by_start (Missed ∷ signs) = Lost
shown_by_start _ = Well

-- by the first alone
started : (s : Sign) (x y : List Sign) → shown_by_start (s ∷ x) ≡ shown_by_start (s ∷ y)
started (Broke how) x y = refl
started s x y = refl

still_down : (n : Network) (i : ℕ) (b : Bool) → is_down (manager_at n i) ≡ b → is_down (manager_at (ended i n) i) ≡ b
still_down n i b e = parted_at (λ m. is_down m ≡ b) n i i (λ m h. ap (λ x. elim x [ Up ↦ false | Down doubt ↦ true ]) (parted_condition m) ∙ h) e

restart_read : (n : Network) (i : ℕ) (a : Choice) → may_restart n i a ≡ true → shown_by_start (signs_of (reopen i a (moved (ended i) (course_from n))).reply) ≡ a
restart_read n i Well m = ap (λ b. shown_by_start (signs_of (cond b reply.OpenedLost reply.Opened))) (still_down n i false (not_true (is_down (manager_at n i)) m))
restart_read n i Kept m = refl
restart_read n i Lost m = ap (λ b. shown_by_start (signs_of (cond b reply.OpenedLost reply.Opened))) (still_down n i true m)
restart_read n i Unread m = refl
restart_read n i a m = absurd (clash (sym m))

-- Every event.

each_read : RefusalsChangeNothing → (known : List Identity) (c : Course) → IsOrderly known c → (e : Event) → IsRead c e
each_read law known c o (event.Asks i request) = by_once c (event.Asks i request) (call_shown c.network i (requested (manager_at c.network i) request) reply.Called
    ((law (manager_at c.network i)).request_whole request).touches (λ given lines. refl))
each_read law known c o (event.Connect a b now window_a window_b) = unwritten c (event.Connect a b now window_a window_b)
    (always_well (records_in c (event.Connect a b now window_a window_b)) (connect_empty known c o a b now window_a window_b))
each_read law known c o (event.Disconnect i) = unwritten c (event.Disconnect i) (always_well (records_in c (event.Disconnect i))
    (either_empty (is_connected c.network i) (record { reply = reply.Disconnected; after = moved (ended i) (course_from c.network) })
    (only (course_from c.network) reply.Unlinked) refl refl))
each_read law known c o (event.Resend i) = unwritten c (event.Resend i) (always_well (records_in c (event.Resend i))
    (either_empty (is_connected c.network i)
    (record { reply = reply.Resent; after = moved (succeeded_at i (resend (manager_at c.network i))) (course_from c.network) })
    (only (course_from c.network) reply.Unlinked) refl refl))
each_read law known c o (event.Pump i now) = by_once c (event.Pump i now)
    (pump_shown c.network i now (pump (manager_at c.network i) now) ((law (manager_at c.network i)).pump_whole now).touches)
each_read law known c o (event.Deliver k now) = by_once c (event.Deliver k now) (deliver_read law c.network (numbered c.network.notes k) (numbered c.sent k) now)
each_read law known c o (event.Drop k) = unwritten c (event.Drop k) (always_well (records_in c (event.Drop k))
    (either_empty (is_some (numbered c.network.notes k)) (record { reply = reply.Dropped; after = moved (dropped k) (course_from c.network) })
    (only (course_from c.network) reply.NoPacket) refl refl))
each_read law known c o (event.Flow i now) = record {
  read = shown_by_flow now outcome.touches (pump_by i now outcome Well (course_from c.network)).after (enumerate_from (length c.network.notes + 1) outcome.packets) outcome.answer;
  right = flow_shown law c.network i now outcome ((law (manager_at c.network i)).pump_whole now).touches outcome.answer;
}
  where
    outcome : PumpOutcome
    outcome = pump (manager_at c.network i) now
each_read law known c o (event.Checkpoint i) = by_once c (event.Checkpoint i) (checkpoint_read c i)
each_read law known c o (event.Arm i) = unwritten c (event.Arm i) (always_well (records_in c (event.Arm i)) refl)
each_read law known c o (event.Restart i) = record {
  read = shown_by_start;
  right = λ a x m. by_first shown_by_start started (reopen i a (moved (ended i) (course_from c.network))).reply x ∙ restart_read c.network i a m;
}

each_shown : RefusalsChangeNothing → (known : List Identity) (c : Course) → AreApart known → HasHistory known c → (e : Event) → IsShown c e
each_shown law known c apart h e a b x y may_a may_b same = let found = each_read law known c (subst (IsOrderly known) h.2 (histories_are_orderly known h.0 apart h.1)) e in
    sym (found.right a x may_a) ∙ ap found.read same ∙ found.right b y may_b

pub replies_show_choices : RefusalsChangeNothing → RepliesShowChoices
replies_show_choices law known ms apart run e = (
  each_shown law known _ apart (runs_have_histories known ms apart run (λ _. false)).0 e,
  λ kept. each_shown law known _ apart (runs_have_histories known ms apart run kept).1 e,
)

-- Runs.

goes_on : (known : List Identity) → AreApart known → IsClosed known (HasHistory known)
goes_on known apart = record {
  orderly = λ c h. subst (IsOrderly known) h.2 (histories_are_orderly known h.0 apart h.1);
  keeps = λ c x may h. (x ∷ h.0, (subst (λ d. may_change d x ≡ true) (sym h.2) may, h.1), ap (changed x) h.2);
}

moved_history : (known : List Identity) → AreApart known → (c : Course) (m : Move) → may c m.event m.choice ≡ true → HasHistory known c → HasHistory known (moved_on c m)
moved_history known apart c m allowed h = subst (HasHistory known) (sym (move_in_course c m))
    (event_keeps known (HasHistory known) (goes_on known apart) c m.event m.choice allowed h)

first_same : {X : Type 0} (x y : X) (xs ys : List X) → (x ∷ xs) ≡ (y ∷ ys) → x ≡ y
first_same x y xs ys e = cc

rest_same : {X : Type 0} (x y : X) (xs ys : List X) → (x ∷ xs) ≡ (y ∷ ys) → xs ≡ ys
rest_same x y xs ys e = cc

not_empty : {X : Type 0} (x : X) (xs : List X) → [] ≡ (x ∷ xs) → ⊥
not_empty x xs e = let none : ⊥ = cc in none

same_move : (m n : Move) → m.event ≡ n.event → m.choice ≡ n.choice → m ≡ n
same_move m n e f = ap (λ x. made x m.choice) e ∙ ap (made n.event) f
  where
    made : Event → Choice → Move
    made e a = record { event = e; choice = a }

move_shown : RefusalsChangeNothing → (known : List Identity) (c : Course) → AreApart known → HasHistory known c → (m n : Move)
    → may c m.event m.choice ≡ true → may c n.event n.choice ≡ true → m.event ≡ n.event → signs_of (answer c m).reply ≡ signs_of (answer c n).reply → m ≡ n
move_shown law known c apart h m n may_m may_n e same = same_move m n e
    (subst (λ x. (b : Choice) → may c x b ≡ true
    → signs_of (answer c m).reply ≡ signs_of (answer c (record { event = x; choice = b })).reply → m.choice ≡ b) e
    (λ b may_b alike. each_shown law known c apart h m.event m.choice b [] [] may_m may_b (ap (λ signs. signs ++ []) alike)) n.choice may_n same)

moves_shown : RefusalsChangeNothing → (known : List Identity) → AreApart known → (c : Course) → HasHistory known c → (ms ns : List Move) → IsRunFrom c ms → IsRunFrom c ns
    → map (λ m. m.event) ms ≡ map (λ n. n.event) ns → map signs_of (replies_from c ms) ≡ map signs_of (replies_from c ns) → ms ≡ ns
moves_shown law known apart c h [] [] run other events replies = refl
moves_shown law known apart c h [] (n ∷ ns) run other events replies = absurd (not_empty _ _ events)
moves_shown law known apart c h (m ∷ ms) [] run other events replies = absurd (not_empty _ _ (sym events))
moves_shown law known apart c h (m ∷ ms) (n ∷ ns) run other events replies = let same = move_shown law known c apart h m n run.0 other.0 (first_same _ _ _ _ events) (first_same _ _ _ _ replies) in
    ap (λ x. x ∷ ms) same ∙ ap (λ xs. n ∷ xs) (moves_shown law known apart (moved_on c n) (moved_history known apart c n other.0 h) ms ns
    (subst (λ x. IsRunFrom (moved_on c x) ms) same run.1) other.1 (rest_same _ _ _ _ events)
    (subst (λ x. map signs_of (replies_from (moved_on c x) ms) ≡ map signs_of (replies_from (moved_on c n) ns)) same (rest_same _ _ _ _ replies)))

pub runs_are_shown : RefusalsChangeNothing → RunsAreShown
runs_are_shown law known ms ns apart run other events replies = moves_shown law known apart (beginning known) ([], tt, refl) ms ns run other events replies
