-- What is known behind one more event.
use Rattle.std.proofs.Common.{◌≡◌, ◌+◌, Bool, true, false, cond, List, [], ◌∷◌, ◌++◌, length, Option, None, Some, refl, sym, ap, subst, ◌∙◌, inl, inr, append-nil, arith}
use Rattle.std.specs.Prelude.{count_by, filter_map}
use Rattle.std.proofs.lemmas.Bool.{true≢false}
use Rattle.std.proofs.lemmas.List.Elements.{filter_map-append}
use Rattle.std.proofs.lemmas.List.Sums.{sum_by-append, sum_by-cons}
use Rattle.mqb_base.specs.declared.heard.Cause.{Cause}
use Rattle.mqb_base.specs.declared.ids.Guid.{Guid}
use Rattle.mqb_capture.specs.Breaks.{AreBothLinked, IsFirstCause}
use Rattle.mqb_capture.specs.Events.{Bad, Event, Heard, Sent}
use Rattle.mqb_capture.specs.Grammar.{Head}
use Rattle.mqb_capture.specs.Judged.{is_between}
use Rattle.mqb_capture.specs.Lawful.{AreRun, IsBetween, IsOfPhase, IsStamped, IsWithinWindow, MayCome, cause_of, first_session, heard_by, sent, session_after, session_behind}
use Rattle.mqb_capture.specs.Links.{AreLinked, link_by, link_of, links}
use Rattle.mqb_capture.specs.declared.link.Link.{Link}
use Rattle.mqb_capture.specs.Verdicts.{is_heard, is_sent}
use Rattle.mqb_capture.specs.declared.answers.BreakCause.{BreakCause}
use Rattle.mqb_capture.specs.declared.answers.BreakCause.TheVariants as cause
use Rattle.mqb_capture.specs.declared.answers.Way.{Way}
use Rattle.mqb_capture.specs.declared.answers.Way.TheVariants as way
use Rattle.mqb_capture.proofs.Deciding.{behind_more, lawful_more}
use Rattle.mqb_capture.proofs.Judging.{tests_between}
use Rattle.mqb_inspect.proofs.Linking.{join_linked, join_refused}
use Rattle.mqb_inspect.specs.Passing.{IsSentCause, goes_from}
use Rattle.mqb_inspect.specs.Standing.{Knows}
use Rattle.mqb_inspect.specs.Taking.{BreaksHeard, BreaksSent, IsTakenHeard, IsTakenSent, JoinsBy}
use Rattle.mqb_inspect.specs.declared.standing.Inspection.{Inspection}
use Rattle.mqb_packet.specs.declared.packet.Packet.{Packet}
use Rattle.mqb_packet.specs.declared.packet.Packet.TheVariants as packet
use Rattle.mqb_session.specs.State.{State}
use Rattle.mqb_session.specs.declared.phase.Phase.{Phase}
use Rattle.mqb_session.specs.declared.phase.Phase.TheVariants as phase

-- Counts.

count_more : (f : Event → Bool) (es : List Event) (e : Event) → count_by f (es ++ e ∷ []) ≡ count_by f es + cond (f e) 1 0
count_more f es e =
    let all = sum_by-append (λ x. cond (f x) 1 0) es (e ∷ []) in
    let one = sum_by-cons (λ x. cond (f x) 1 0) e [] in
    omega (arith, all, one)

-- of events that are a run each was sent or heard
counts_all : (h : Head) (s : State) (es : List Event) → AreRun h s es → count_by is_sent es + count_by is_heard es ≡ length es
counts_all h s [] run = refl
counts_all h s (Sent p ∷ es) run =
    let more = counts_all h (session_after h s (Sent p)) es run.1 in
    omega (arith, more, sum_by-cons (λ x. cond (is_sent x) 1 0) (Sent p) es, sum_by-cons (λ x. cond (is_heard x) 1 0) (Sent p) es)
counts_all h s (Heard p ∷ es) run =
    let more = counts_all h (session_after h s (Heard p)) es run.1 in
    omega (arith, more, sum_by-cons (λ x. cond (is_sent x) 1 0) (Heard p) es, sum_by-cons (λ x. cond (is_heard x) 1 0) (Heard p) es)
counts_all h s (Bad fault ∷ es) run = absurd run.0

pub counted : (h : Head) (es : List Event) (i : Inspection) → Knows h es i → i.sent_count + i.heard_count ≡ length es
counted h es i k = omega (arith, k.sent_count, k.heard_count, counts_all h (first_session h) es k.lawful.run)

-- Links.

abbrev of_one : Option Link → List Link
of_one None = []
of_one (Some n) = n ∷ []

by_link : (o : Option Link) (f : Event → Option Link) (e : Event) → f e ≡ o → filter_map f (e ∷ []) ≡ of_one o
by_link None f e is = rw is refl
by_link (Some n) f e is = rw is refl

links_more : (d : Way) (es : List Event) (e : Event) → links d (es ++ e ∷ []) ≡ links d es ++ of_one (link_by d e)
links_more d es e = filter_map-append (link_by d) es (e ∷ []) ∙ ap (λ (ls : List Link). links d es ++ ls) (by_link (link_by d e) (link_by d) e refl)

-- what joins is linked, and all of that way
record IsJoined (came after more : List Link) : Type 0 where
  pub is : after ≡ more
  pub linked : AreLinked more

joined_by : (o : Option Link) (came after : List Link) → AreLinked came → JoinsBy o came after true → IsJoined came after (came ++ of_one o)
joined_by None came after linked j = record { is = j.1 ∙ sym (append-nil came); linked = subst AreLinked (sym (append-nil came)) linked }
joined_by (Some n) came after linked j = record { is = j.1 refl; linked = join_linked came n linked j.0 }

refused_by : (o : Option Link) (came after : List Link) → JoinsBy o came after false → AreLinked (came ++ of_one o) → ⊥
refused_by None came after j linked = true≢false (sym j.0)
refused_by (Some n) came after j linked = join_refused came n j.0 linked

same_links : (came : List Link) → AreLinked came → AreLinked (came ++ [])
same_links came linked = subst AreLinked (sym (append-nil came)) linked

-- Where packets go.

sent_goes : (h : Head) (p : Packet) → goes_from h.own h.peer p ≡ is_between h (Sent p)
sent_goes h (packet.User p) = refl
sent_goes h (packet.Establish e) = refl
sent_goes h (packet.Parameters q) = refl
sent_goes h (packet.Ack head) = refl

heard_goes : (h : Head) (p : Packet) → goes_from h.peer h.own p ≡ is_between h (Heard p)
heard_goes h (packet.User p) = refl
heard_goes h (packet.Establish e) = refl
heard_goes h (packet.Parameters q) = refl
heard_goes h (packet.Ack head) = refl

goes_by : (a b c d : Guid) (p : Packet) (is : Bool) → a ≡ c → b ≡ d → goes_from a b p ≡ is → goes_from c d p ≡ is
goes_by a b c d p is e f g = subst (λ (x : Guid). goes_from x d p ≡ is) e (subst (λ (y : Guid). goes_from a y p ≡ is) f g)

-- A packet that was sent.
module _ (h : Head) (es : List Event) (i : Inspection) (k : Knows h es i) (p : Packet) where
  sent_is : (is : Bool) → goes_from i.own i.peer p ≡ is → is_between h (Sent p) ≡ is
  sent_is is g = sym (sent_goes h p) ∙ goes_by i.own i.peer h.own h.peer p is k.own k.peer g

  goes_sent : goes_from i.own i.peer p ≡ true → IsBetween h (Sent p)
  goes_sent g = (tests_between h (Sent p)).holds (sent_is true g)

  linked_sent : AreBothLinked (es ++ Sent p ∷ []) → AreLinked (i.sent_links ++ of_one (link_of p))
  linked_sent both = subst (λ (ls : List Link). AreLinked (ls ++ of_one (link_of p))) (sym k.sent_links) (subst AreLinked (links_more way.Sent es (Sent p)) both.sent)

  may_send : IsOfPhase p i.session → IsWithinWindow p i.session → IsStamped p i.session → MayCome h (session_behind h es) (Sent p)
  may_send a b c = (
    subst (IsOfPhase p) k.session a,
    subst (IsWithinWindow p) k.session b,
    subst (IsStamped p) k.session c,
  )

  -- what the session does not send
  first_sent : (why : BreakCause) → goes_from i.own i.peer p ≡ true → IsSentCause why p i.session → IsFirstCause h es (Sent p) why
  first_sent cause.Phase g b = (goes_sent g, λ is. b (subst (IsOfPhase p) (sym k.session) is))
  first_sent cause.Window g b = (goes_sent g, subst (IsOfPhase p) k.session b.0, λ is. b.1 (subst (IsWithinWindow p) (sym k.session) is))
  first_sent cause.Stamp g b = (
    goes_sent g,
    subst (IsOfPhase p) k.session b.0,
    subst (IsWithinWindow p) k.session b.1,
    λ is. b.2 (subst (IsStamped p) (sym k.session) is),
  )
  first_sent cause.Origin g b = absurd b
  first_sent cause.Link g b = absurd b
  first_sent (cause.Bad fault) g b = absurd b
  first_sent (cause.Closed why) g b = absurd b
  first_sent cause.Cut g b = absurd b

  pub breaks_sent : (why : BreakCause) → BreaksSent why p i → IsFirstCause h es (Sent p) why
  breaks_sent why (inl b) = subst (IsFirstCause h es (Sent p)) (sym b.0) (λ is. true≢false (sym ((tests_between h (Sent p)).passes is) ∙ sent_is false b.1))
  breaks_sent why (inr (inl b)) = first_sent why b.0 b.1
  breaks_sent why (inr (inr b)) = subst (IsFirstCause h es (Sent p)) (sym b.0) (
    goes_sent b.1,
    may_send b.3.phase b.3.window b.3.stamp,
    λ both. refused_by (link_of p) i.sent_links b.4 b.5 (linked_sent both),
  )

  pub knows_sent : (j : Inspection) → IsTakenSent p i j → Knows h (es ++ Sent p ∷ []) j
  knows_sent j t =
      let joined = joined_by (link_of p) i.sent_links j.sent_links (subst AreLinked (sym k.sent_links) k.lawful.sent) t.joins in
      let sent_links_is : i.sent_links ++ of_one (link_of p) ≡ links way.Sent (es ++ Sent p ∷ []) =
      ap (λ (ls : List Link). ls ++ of_one (link_of p)) k.sent_links ∙ sym (links_more way.Sent es (Sent p)) in
      let heard_is : links way.Heard es ≡ links way.Heard (es ++ Sent p ∷ []) =
      sym (append-nil (links way.Heard es)) ∙ sym (links_more way.Heard es (Sent p)) in
      record {
        lawful = lawful_more h es (Sent p) k.lawful (
          goes_sent t.between,
          may_send t.sends.phase t.sends.window t.sends.stamp,
          record { sent = subst AreLinked sent_links_is joined.linked; heard = subst AreLinked heard_is k.lawful.heard },
        );
        own = t.keeps.own ∙ k.own;
        peer = t.keeps.peer ∙ k.peer;
        session = t.sends.left ∙ ap (sent p) k.session ∙ behind_more h es (Sent p);
        sent_links = joined.is ∙ sent_links_is;
        heard_links = t.links ∙ k.heard_links ∙ heard_is;
        sent_count = omega (arith, t.count, k.sent_count, count_more is_sent es (Sent p));
        heard_count = omega (arith, t.other, k.heard_count, count_more is_heard es (Sent p));
      }

-- A packet that was heard.

closed_is : (p : Phase) (why : Cause) → cause_of p ≡ Some why → p ≡ phase.Closed why
closed_is (phase.Closed c) why e = ap (λ x. phase.Closed x) (cc)
closed_is phase.Start why e = absurd (cc)
closed_is phase.WaitEstablish why e = absurd (cc)
closed_is phase.OweEstablish why e = absurd (cc)
closed_is phase.OweRefusal why e = absurd (cc)
closed_is phase.OweParameters why e = absurd (cc)
closed_is phase.WaitParameters why e = absurd (cc)
closed_is phase.Ready why e = absurd (cc)

module _ (h : Head) (es : List Event) (i : Inspection) (k : Knows h es i) (p : Packet) where
  heard_goes_is : (is : Bool) → goes_from i.peer i.own p ≡ is → is_between h (Heard p) ≡ is
  heard_goes_is is g = sym (heard_goes h p) ∙ goes_by i.peer i.own h.peer h.own p is k.peer k.own g

  goes_heard : goes_from i.peer i.own p ≡ true → IsBetween h (Heard p)
  goes_heard g = (tests_between h (Heard p)).holds (heard_goes_is true g)

  linked_heard : AreBothLinked (es ++ Heard p ∷ []) → AreLinked (i.heard_links ++ of_one (link_of p))
  linked_heard both = subst (λ (ls : List Link). AreLinked (ls ++ of_one (link_of p))) (sym k.heard_links) (subst AreLinked (links_more way.Heard es (Heard p)) both.heard)

  heard_is : heard_by i.peer p i.session ≡ heard_by h.peer p (session_behind h es)
  heard_is = ap (λ (g : Guid). heard_by g p i.session) k.peer ∙ ap (λ (s : State). heard_by h.peer p s) k.session

  cause_is : (o : Option Cause) → cause_of (heard_by i.peer p i.session).phase ≡ o → cause_of (heard_by h.peer p (session_behind h es)).phase ≡ o
  cause_is o e = subst (λ (s : State). cause_of s.phase ≡ o) heard_is e

  pub breaks_heard : (why : BreakCause) → BreaksHeard why p i → IsFirstCause h es (Heard p) why
  breaks_heard cause.Origin b = λ is. true≢false (sym ((tests_between h (Heard p)).passes is) ∙ heard_goes_is false b)
  breaks_heard (cause.Closed why) b = (goes_heard b.0, closed_is (heard_by h.peer p (session_behind h es)).phase why (cause_is (Some why) b.1))
  breaks_heard cause.Link b = (
    goes_heard b.0,
    cause_is None b.1,
    λ both. refused_by (link_of p) i.heard_links b.2 b.3 (linked_heard both),
  )
  breaks_heard cause.Phase b = absurd b
  breaks_heard cause.Window b = absurd b
  breaks_heard cause.Stamp b = absurd b
  breaks_heard (cause.Bad fault) b = absurd b
  breaks_heard cause.Cut b = absurd b

  pub knows_heard : (j : Inspection) → IsTakenHeard p i j → Knows h (es ++ Heard p ∷ []) j
  knows_heard j t =
      let joined = joined_by (link_of p) i.heard_links j.heard_links (subst AreLinked (sym k.heard_links) k.lawful.heard) t.joins in
      let links_is : i.heard_links ++ of_one (link_of p) ≡ links way.Heard (es ++ Heard p ∷ []) =
      ap (λ (ls : List Link). ls ++ of_one (link_of p)) k.heard_links ∙ sym (links_more way.Heard es (Heard p)) in
      let sent_is : links way.Sent es ≡ links way.Sent (es ++ Heard p ∷ []) =
      sym (append-nil (links way.Sent es)) ∙ sym (links_more way.Sent es (Heard p)) in
      record {
        lawful = lawful_more h es (Heard p) k.lawful (
          goes_heard t.between,
          cause_is None (ap (λ (s : State). cause_of s.phase) (sym t.left) ∙ t.goes_on),
          record { sent = subst AreLinked sent_is k.lawful.sent; heard = subst AreLinked links_is joined.linked },
        );
        own = t.keeps.own ∙ k.own;
        peer = t.keeps.peer ∙ k.peer;
        session = t.left ∙ heard_is ∙ behind_more h es (Heard p);
        sent_links = t.links ∙ k.sent_links ∙ sent_is;
        heard_links = joined.is ∙ links_is;
        sent_count = omega (arith, t.other, k.sent_count, count_more is_sent es (Heard p));
        heard_count = omega (arith, t.count, k.heard_count, count_more is_heard es (Heard p));
      }
