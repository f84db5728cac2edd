-- The tests of an event are what is asked of it.
use Rattle.std.proofs.Common.{◌≡◌, ◌<◌, ◌≤◌, ℕ, Bool, true, false, not, ◌&&◌, ◌||◌, List, [], ◌∷◌, ◌++◌, Option, None, Some, nat_lt, nat_le, refl, sym, ap, ◌∙◌, arith}
use Rattle.std.specs.Prelude.{◌==◌, is_some, is_none, IsSome, if◌then◌else◌, option_map}
use Rattle.std.specs.List.{AllByRecursion, list_all}
use Rattle.std.specs.Option.{option_map_or, option_or}
use Rattle.std.proofs.lemmas.Bool.{true≢false}
use Rattle.mqb_base.specs.declared.heard.Cause.{Cause}
use Rattle.mqb_base.specs.declared.ids.Guid.{Guid}
use Rattle.mqb_packet.specs.declared.packet.Packet.{Packet}
use Rattle.mqb_packet.specs.declared.packet.Packet.TheVariants as packet
use Rattle.mqb_packet.specs.declared.packet.UserPacket.{UserPacket}
use Rattle.mqb_session.specs.Hearing.{after_owed}
use Rattle.mqb_session.specs.Phases.{owed_by}
use Rattle.mqb_session.specs.Sending.{stamped}
use Rattle.mqb_session.specs.State.{State}
use Rattle.mqb_session.specs.declared.heads.Kind.TheVariants as kind
use Rattle.mqb_session.specs.declared.phase.Phase.{Phase}
use Rattle.mqb_session.specs.declared.phase.Phase.TheVariants as phase
use Rattle.mqb_setup.specs.declared.internal.Internal.{Internal}
use Rattle.mqb_setup.specs.declared.internal.Internal.TheVariants as part
use Rattle.mqb_capture.specs.declared.answers.BreakCause.TheVariants as cause
use Rattle.mqb_capture.specs.declared.answers.Way.TheVariants as way
use Rattle.mqb_capture.specs.Grammar.{Head}
use Rattle.mqb_capture.specs.Events.{Bad, Event, Heard, Sent}
use Rattle.mqb_capture.specs.Links.{AreLinked, AreOfOneSequence, AreSameMessage, Fit, Link, links}
use Rattle.mqb_capture.specs.Lawful.{GoesBetween, IsBetween, IsOfPhase, IsOpen, IsStamped, IsWithinWindow, cause_of, heard_by, kind_for, session_behind}
use Rattle.mqb_capture.specs.Breaks.{AreBothLinked, Judges}
use Rattle.mqb_capture.specs.Judged.{are_both_linked, are_linked, break_of, fits, goes_between, is_between, is_of_phase, is_one_sequence, is_owed, is_stamped, is_within_window, same_head, same_message, same_part}
use Rattle.mqb_capture.proofs.Sames.{Tests, tests_all, tests_and, tests_as, tests_guid, tests_head, tests_less, tests_message, tests_most, tests_name, tests_number, tests_part, tests_sequence}

-- links

tests_one : (a b : Link) → Tests (is_one_sequence a b) (AreOfOneSequence a b)
tests_one a b = tests_as (is_one_sequence a b) (tests_and _ _ (tests_name a.message.destination b.message.destination) (tests_sequence a.tx.sequence b.tx.sequence))
    (λ e. record { destination = e.0; sequence = e.1 }) (λ e. (e.destination, e.sequence))

fit_by : (a b : Link) (one less most equal again : Bool) → Tests one (AreOfOneSequence a b) → Tests less (a.tx.number < b.tx.number) → Tests most (a.tx.number ≤ b.tx.previous)
    → Tests equal (a.tx.number ≡ b.tx.number) → Tests again ((a.tx.previous ≡ b.tx.previous) × AreSameMessage a.message b.message)
    → Tests (not one || (if less then most else (not equal || again))) (Fit a b)
fit_by a b false less most equal again o l m e g = record {
  holds = λ _. record { later = λ is. absurd (true≢false (sym (o.passes is))); again = λ is. absurd (true≢false (sym (o.passes is))) };
  passes = λ _. refl;
}
fit_by a b true true most equal again o l m e g = record {
  holds = λ is. record { later = λ _ _. m.holds is; again = λ _ same. absurd (apart (l.holds refl) same) };
  passes = λ fit. m.passes (fit.later (o.holds refl) (l.holds refl));
}
  where
    apart : {x y : ℕ} → x < y → x ≡ y → ⊥
    apart less same = omega (arith, less, same)
fit_by a b true false most false again o l m e g = record {
  holds = λ is. record { later = λ _ less. absurd (true≢false (sym (l.passes less))); again = λ _ same. absurd (true≢false (sym (e.passes same))) };
  passes = λ _. refl;
}
fit_by a b true false most true again o l m e g = record {
  holds = λ is. record { later = λ _ less. absurd (true≢false (sym (l.passes less))); again = λ _ _. g.holds is };
  passes = λ fit. g.passes (fit.again (o.holds refl) (e.holds refl));
}

pub tests_fit : (a b : Link) → Tests (fits a b) (Fit a b)
tests_fit a b = fit_by a b (is_one_sequence a b) (nat_lt a.tx.number b.tx.number) (nat_le a.tx.number b.tx.previous) (a.tx.number == b.tx.number)
    (a.tx.previous == b.tx.previous && same_message a.message b.message) (tests_one a b) (tests_less a.tx.number b.tx.number) (tests_most a.tx.number b.tx.previous)
    (tests_number a.tx.number b.tx.number) (tests_and _ _ (tests_number a.tx.previous b.tx.previous) (tests_message a.message b.message))

tests_linked : (all : List Link) → Tests (are_linked all) (AreLinked all)
tests_linked all = tests_as (are_linked all)
    (tests_and _ _ (tests_all (λ a. nat_lt a.tx.previous a.tx.number) (λ a. a.tx.previous < a.tx.number) (λ a. tests_less a.tx.previous a.tx.number) all)
    (tests_all (λ a. list_all (fits a) all) (λ a. AllByRecursion (Fit a) all) (λ a. tests_all (fits a) (Fit a) (tests_fit a) all) all))
    (λ e. record { below = e.0; fit = e.1 }) (λ e. (e.below, e.fit))

pub tests_both_linked : (events : List Event) → Tests (are_both_linked events) (AreBothLinked events)
tests_both_linked events = tests_as (are_both_linked events) (tests_and _ _ (tests_linked (links way.Sent events)) (tests_linked (links way.Heard events)))
    (λ e. record { sent = e.0; heard = e.1 }) (λ e. (e.sent, e.heard))

-- origin

tests_some : {X : Type 0} (o : Option X) → Tests (is_some o) (IsSome o)
tests_some o = record { holds = λ e. e; passes = λ e. e }

tests_goes : (from to : Guid) (p : UserPacket) → Tests (goes_between from to p) (GoesBetween from to p)
tests_goes from to p = tests_as (goes_between from to p)
    (tests_and _ _ (tests_and _ _ (tests_some p.session) (tests_guid p.message.id.qm from)) (tests_guid p.to to))
    (λ e. record { session = e.0.0; source = e.0.1; target = e.1 }) (λ e. ((e.session, e.source), e.target))

tests_true : Tests true (Unit {0})
tests_true = record { holds = λ _. tt; passes = λ _. refl }

pub tests_between : (h : Head) (e : Event) → Tests (is_between h e) (IsBetween h e)
tests_between h (Sent (packet.User p)) = tests_goes h.own h.peer p
tests_between h (Heard (packet.User p)) = tests_goes h.peer h.own p
tests_between h (Sent (packet.Establish e)) = tests_true
tests_between h (Sent (packet.Parameters p)) = tests_true
tests_between h (Sent (packet.Ack head)) = tests_true
tests_between h (Heard (packet.Establish e)) = tests_true
tests_between h (Heard (packet.Parameters p)) = tests_true
tests_between h (Heard (packet.Ack head)) = tests_true
tests_between h (Bad fault) = tests_true

-- what is sent

tests_none : {X : Type 0} (o : Option X) → Tests (is_none o) (o ≡ None)
tests_none None = record { holds = λ _. refl; passes = λ _. refl }
tests_none (Some x) = record { holds = λ e. absurd (true≢false (sym e)); passes = λ e. absurd (cc) }

tests_here : {X : Type 0} (f : X → Bool) (x : X) (o : Option X) → ((y : X) → Tests (f y) (y ≡ x)) → Tests (option_map_or f o false) (o ≡ Some x)
tests_here f x None t = record { holds = λ e. absurd (true≢false (sym e)); passes = λ e. absurd (cc) }
tests_here f x (Some y) t = record { holds = λ e. ap (λ z. Some z) ((t y).holds e); passes = λ e. (t y).passes (same y x e) }
  where
    same : {X : Type 0} (y x : X) → Some y ≡ Some x → y ≡ x
    same y x e = cc

turned : {X : Type 0} (b : Bool) (x y : X) → Tests b (x ≡ y) → Tests b (y ≡ x)
turned b x y t = tests_as b t (λ e. sym e) (λ e. sym e)

tests_owed : (p : Internal) (now : ℕ) (s : State) → Tests (is_owed p now s) ((owed_by s.phase now s ≡ Some p) × IsOpen (after_owed now s))
tests_owed p now s = tests_and _ _ (tests_here (same_part p) p (owed_by s.phase now s) (λ y. turned (same_part p y) p y (tests_part p y))) (tests_none (cause_of (after_owed now s).phase))

tests_phase : (p : Packet) (s : State) → Tests (is_of_phase p s) (IsOfPhase p s)
tests_phase (packet.Establish e) s = tests_owed (part.Establish e) e.stamp s
tests_phase (packet.Parameters p) s = tests_owed (part.Parameters p) 0 s
tests_phase (packet.Ack head) s = record { holds = λ e. e; passes = λ e. e }
tests_phase (packet.User p) s = record { holds = λ e. e; passes = λ e. e }

tests_window : (p : Packet) (s : State) → Tests (is_within_window p s) (IsWithinWindow p s)
tests_window (packet.Establish e) s = tests_true
tests_window (packet.Parameters p) s = tests_true
tests_window (packet.Ack head) s = tests_true
tests_window (packet.User p) s = record { holds = λ e. e; passes = λ e. e }

tests_stamp : (p : Packet) (s : State) → Tests (is_stamped p s) (IsStamped p s)
tests_stamp (packet.Establish e) s = tests_true
tests_stamp (packet.Parameters p) s = tests_true
tests_stamp (packet.Ack head) s = tests_head head (stamped kind.Ack s).0
tests_stamp (packet.User p) s =
    let head = (stamped (kind_for p.message.delivery) s).0 in
    tests_here (same_head head) head p.session (λ y. turned (same_head head y) head y (tests_head head y))

-- an event

refused : {P : Type 0} (b : Bool) → Tests b P → b ≡ false → P → ⊥
refused b t e p = true≢false (sym (t.passes p) ∙ e)

sent_by : (h : Head) (before : List Event) (p : Packet) (o q w st l : Bool) → Tests o (IsBetween h (Sent p)) → Tests q (IsOfPhase p (session_behind h before))
    → Tests w (IsWithinWindow p (session_behind h before)) → Tests st (IsStamped p (session_behind h before)) → Tests l (AreBothLinked (before ++ Sent p ∷ []))
    → Judges h before (Sent p) (if not o then Some cause.Origin
    else option_or (if not q then Some cause.Phase else if not w then Some cause.Window else if not st then Some cause.Stamp else None) (if l then None else Some cause.Link))
sent_by h before p false q w st l to tq tw ts tl = refused false to refl
sent_by h before p true false w st l to tq tw ts tl = (to.holds refl, refused false tq refl)
sent_by h before p true true false st l to tq tw ts tl = (to.holds refl, tq.holds refl, refused false tw refl)
sent_by h before p true true true false l to tq tw ts tl = (to.holds refl, tq.holds refl, tw.holds refl, refused false ts refl)
sent_by h before p true true true true false to tq tw ts tl = (to.holds refl, (tq.holds refl, tw.holds refl, ts.holds refl), refused false tl refl)
sent_by h before p true true true true true to tq tw ts tl = (to.holds refl, (tq.holds refl, tw.holds refl, ts.holds refl), tl.holds refl)

closed_is : (p : Phase) (why : Cause) → cause_of p ≡ Some why → p ≡ phase.Closed why
closed_is (phase.Closed c) why e = ap (λ x. phase.Closed x) (cc)
closed_is phase.Start why e = absurd (cc)
closed_is phase.WaitEstablish why e = absurd (cc)
closed_is phase.OweEstablish why e = absurd (cc)
closed_is phase.OweRefusal why e = absurd (cc)
closed_is phase.OweParameters why e = absurd (cc)
closed_is phase.WaitParameters why e = absurd (cc)
closed_is phase.Ready why e = absurd (cc)

heard_as : (h : Head) (before : List Event) (p : Packet) (o l : Bool) (c : Option Cause) → Tests o (IsBetween h (Heard p)) → Tests l (AreBothLinked (before ++ Heard p ∷ []))
    → cause_of (heard_by h.peer p (session_behind h before)).phase ≡ c
    → Judges h before (Heard p) (if not o then Some cause.Origin else option_or (option_map (λ why. cause.Closed why) c) (if l then None else Some cause.Link))
heard_as h before p false l c to tl e = refused false to refl
heard_as h before p true l (Some why) to tl e = (to.holds refl, closed_is _ why e)
heard_as h before p true false None to tl e = (to.holds refl, e, refused false tl refl)
heard_as h before p true true None to tl e = (to.holds refl, e, tl.holds refl)

pub judges : (h : Head) (before : List Event) (e : Event) → Judges h before e (break_of h before (session_behind h before) e)
judges h before (Sent p) =
    let s = session_behind h before in
    sent_by h before p (is_between h (Sent p)) (is_of_phase p s) (is_within_window p s) (is_stamped p s) (are_both_linked (before ++ Sent p ∷ []))
    (tests_between h (Sent p)) (tests_phase p s) (tests_window p s) (tests_stamp p s) (tests_both_linked (before ++ Sent p ∷ []))
judges h before (Heard p) =
    heard_as h before p (is_between h (Heard p)) (are_both_linked (before ++ Heard p ∷ [])) (cause_of (heard_by h.peer p (session_behind h before)).phase)
    (tests_between h (Heard p)) (tests_both_linked (before ++ Heard p ∷ [])) refl
judges h before (Bad fault) = refl
