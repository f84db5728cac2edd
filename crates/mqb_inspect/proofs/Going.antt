-- Where an inspection stands behind one more byte.
use Rattle.std.proofs.Common.{◌≡◌, ◌+◌, ◌-◌, ◌≤◌, List, [], ◌∷◌, ◌++◌, drop, get_or, length, take, Option, None, Some, Result, Ok, Err, refl, sym, ap, subst, ◌∙◌, append_assoc, arith, ℕ}
use Rattle.std.specs.Prelude.{IfOk, fold}
use Rattle.std.proofs.lemmas.List.{take_all}
use Rattle.mqb_capture.specs.Breaks.{IsFirstCause}
use Rattle.mqb_capture.specs.Events.{Bad, Event, Heard, Sent, Watch, byte_came}
use Rattle.mqb_capture.specs.Grammar.{Head}
use Rattle.mqb_capture.specs.declared.answers.BreakCause.{BreakCause}
use Rattle.mqb_capture.specs.declared.answers.BreakCause.TheVariants as cause
use Rattle.mqb_capture.specs.declared.answers.Way.{Way}
use Rattle.mqb_capture.specs.declared.answers.Way.TheVariants as way
use Rattle.mqb_capture.proofs.Growing.{Grow, bytes_grow}
use Rattle.mqb_fields.specs.declared.faults.HeadFault.{HeadFault}
use Rattle.mqb_heads.specs.declared.base.TheConstants.{MAX_PACKET}
use Rattle.mqb_inspect.specs.Cutting.{Comes, fed_byte, held_behind}
use Rattle.mqb_inspect.specs.Standing.{Goes, Knows, Stands, StopsAt}
use Rattle.mqb_inspect.specs.Taking.{KeepsCounts, TakesHeard, TakesSent}
use Rattle.mqb_inspect.specs.declared.cutting.Came.{Came}
use Rattle.mqb_inspect.specs.declared.cutting.Came.TheVariants as came
use Rattle.mqb_inspect.specs.declared.standing.Inspection.{Inspection}
use Rattle.mqb_inspect.proofs.Coming.{bad_heard, bad_sent, nothing_heard, nothing_sent, packet_heard, packet_sent}
use Rattle.mqb_inspect.proofs.Knowing.{breaks_heard, breaks_sent, counted, knows_heard, knows_sent}
use Rattle.mqb_packet.specs.declared.packet.Packet.{Packet}
use Rattle.mqb_stream.specs.Framing.{Framing, next}

-- Two inspections know the same.
pub record SameKnown (i j : Inspection) : Type 0 where
  pub own : j.own ≡ i.own
  pub peer : j.peer ≡ i.peer
  pub session : j.session ≡ i.session
  pub sent_links : j.sent_links ≡ i.sent_links
  pub heard_links : j.heard_links ≡ i.heard_links
  pub sent_count : j.sent_count ≡ i.sent_count
  pub heard_count : j.heard_count ≡ i.heard_count

knows_same : (h : Head) (es : List Event) (i j : Inspection) → SameKnown i j → Knows h es i → Knows h es j
knows_same h es i j s k = record {
  lawful = k.lawful;
  own = s.own ∙ k.own;
  peer = s.peer ∙ k.peer;
  session = s.session ∙ k.session;
  sent_links = s.sent_links ∙ k.sent_links;
  heard_links = s.heard_links ∙ k.heard_links;
  sent_count = s.sent_count ∙ k.sent_count;
  heard_count = s.heard_count ∙ k.heard_count;
}

-- it stops at an event behind what is known
stops_at : (h : Head) (es : List Event) (v : Watch) (e : Event) (why : BreakCause) (i j : Inspection) → v.events ≡ es ++ e ∷ [] → Knows h es i → KeepsCounts i j
    → IsFirstCause h es e why → StopsAt h v why j
stops_at h es v e why i j is k same first = record {
  before = es;
  event = e;
  behind = [];
  is = is;
  lawful = k.lawful;
  cause = first;
  count = omega (arith, same.sent, same.heard, counted h es i k);
}

counts_same : (i j : Inspection) → SameKnown i j → KeepsCounts i j
counts_same i j s = record { sent = s.sent_count; heard = s.heard_count }

-- A byte that was sent, which completed this.
module _ (h : Head) (w : Watch) (i m : Inspection) (f : Framing) (b : ℕ) (s : Stands h w i) (same : SameKnown i m) (is : f ≡ i.sent) (limit : f.limit ≡ MAX_PACKET) (other : m.heard ≡ i.heard) where
  held_sent : f.held ≡ w.sent
  held_sent = ap (λ (x : Framing). x.held) is ∙ s.sent

  known_sent : Knows h w.events m
  known_sent = knows_same h w.events i m same s.knows

  pub sent_nothing : Comes (next (fed_byte f b)) came.Nothing → m.sent.held ≡ f.held ++ b ∷ [] → Stands h (byte_came way.Sent w b) m
  sent_nothing comes held = subst (λ (v : Watch). Stands h v m) (sym (nothing_sent f w b held_sent limit comes)) (record {
    knows = known_sent;
    sent = held ∙ ap (λ (t : List ℕ). t ++ b ∷ []) held_sent;
    heard = ap (λ (x : Framing). x.held) other ∙ s.heard;
  })

  -- the same of what came, as it is known
  pub sent_nothing_came : (x : Came) → x ≡ came.Nothing → Comes (next (fed_byte f b)) x → m.sent.held ≡ held_behind x (f.held ++ b ∷ []) → Stands h (byte_came way.Sent w b) m
  sent_nothing_came x is comes held = sent_nothing (subst (Comes (next (fed_byte f b))) is comes) (held ∙ ap (λ (y : Came). held_behind y (f.held ++ b ∷ [])) is)

  pub sent_bad : (fault : HeadFault) → Comes (next (fed_byte f b)) (came.Bad fault) → StopsAt h (byte_came way.Sent w b) (cause.Bad fault) m
  sent_bad fault comes = stops_at h w.events (byte_came way.Sent w b) (Bad fault) (cause.Bad fault) m m (bad_sent f w b held_sent limit fault comes) known_sent
      (record { sent = refl; heard = refl }) refl

  pub sent_bad_came : (x : Came) (fault : HeadFault) → x ≡ came.Bad fault → Comes (next (fed_byte f b)) x → StopsAt h (byte_came way.Sent w b) (cause.Bad fault) m
  sent_bad_came x fault is comes = sent_bad fault (subst (Comes (next (fed_byte f b))) is comes)

  pub sent_packet : (p : Packet) (j : Inspection) (found : Option BreakCause) → Comes (next (fed_byte f b)) (came.Packet p) → m.sent.held ≡ [] → TakesSent p m j found
      → Goes h (byte_came way.Sent w b) j found
  sent_packet p j (Some why) comes held t =
      stops_at h w.events (byte_came way.Sent w b) (Sent p) why m j (ap (λ (v : Watch). v.events) (packet_sent f w b held_sent limit p comes)) known_sent t.1
      (breaks_sent h w.events m known_sent p why t.0)
  sent_packet p j None comes held t = subst (λ (v : Watch). Stands h v j) (sym (packet_sent f w b held_sent limit p comes)) (record {
    knows = knows_sent h w.events m known_sent p j t;
    sent = ap (λ (x : Framing). x.held) t.keeps.sent ∙ held;
    heard = ap (λ (x : Framing). x.held) t.keeps.heard ∙ ap (λ (x : Framing). x.held) other ∙ s.heard;
  })

  pub sent_packet_came : (x : Came) (p : Packet) (j : Inspection) (found : Option BreakCause) → x ≡ came.Packet p → Comes (next (fed_byte f b)) x
      → m.sent.held ≡ held_behind x (f.held ++ b ∷ []) → TakesSent p m j found → Goes h (byte_came way.Sent w b) j found
  sent_packet_came x p j found is comes held t =
      sent_packet p j found (subst (Comes (next (fed_byte f b))) is comes) (held ∙ ap (λ (y : Came). held_behind y (f.held ++ b ∷ [])) is) t

-- A byte that was heard.
module _ (h : Head) (w : Watch) (i m : Inspection) (f : Framing) (b : ℕ) (s : Stands h w i) (same : SameKnown i m) (is : f ≡ i.heard) (limit : f.limit ≡ MAX_PACKET) (other : m.sent ≡ i.sent) where
  held_heard : f.held ≡ w.heard
  held_heard = ap (λ (x : Framing). x.held) is ∙ s.heard

  known_heard : Knows h w.events m
  known_heard = knows_same h w.events i m same s.knows

  pub heard_nothing : Comes (next (fed_byte f b)) came.Nothing → m.heard.held ≡ f.held ++ b ∷ [] → Stands h (byte_came way.Heard w b) m
  heard_nothing comes held = subst (λ (v : Watch). Stands h v m) (sym (nothing_heard f w b held_heard limit comes)) (record {
    knows = known_heard;
    sent = ap (λ (x : Framing). x.held) other ∙ s.sent;
    heard = held ∙ ap (λ (t : List ℕ). t ++ b ∷ []) held_heard;
  })

  -- the same of what came, as it is known
  pub heard_nothing_came : (x : Came) → x ≡ came.Nothing → Comes (next (fed_byte f b)) x → m.heard.held ≡ held_behind x (f.held ++ b ∷ []) → Stands h (byte_came way.Heard w b) m
  heard_nothing_came x is comes held = heard_nothing (subst (Comes (next (fed_byte f b))) is comes) (held ∙ ap (λ (y : Came). held_behind y (f.held ++ b ∷ [])) is)

  pub heard_bad : (fault : HeadFault) → Comes (next (fed_byte f b)) (came.Bad fault) → StopsAt h (byte_came way.Heard w b) (cause.Bad fault) m
  heard_bad fault comes = stops_at h w.events (byte_came way.Heard w b) (Bad fault) (cause.Bad fault) m m (bad_heard f w b held_heard limit fault comes) known_heard
      (record { sent = refl; heard = refl }) refl

  pub heard_bad_came : (x : Came) (fault : HeadFault) → x ≡ came.Bad fault → Comes (next (fed_byte f b)) x → StopsAt h (byte_came way.Heard w b) (cause.Bad fault) m
  heard_bad_came x fault is comes = heard_bad fault (subst (Comes (next (fed_byte f b))) is comes)

  pub heard_packet : (p : Packet) (j : Inspection) (found : Option BreakCause) → Comes (next (fed_byte f b)) (came.Packet p) → m.heard.held ≡ [] → TakesHeard p m j found
      → Goes h (byte_came way.Heard w b) j found
  heard_packet p j (Some why) comes held t =
      stops_at h w.events (byte_came way.Heard w b) (Heard p) why m j (ap (λ (v : Watch). v.events) (packet_heard f w b held_heard limit p comes)) known_heard t.1
      (breaks_heard h w.events m known_heard p why t.0)
  heard_packet p j None comes held t = subst (λ (v : Watch). Stands h v j) (sym (packet_heard f w b held_heard limit p comes)) (record {
    knows = knows_heard h w.events m known_heard p j t;
    sent = ap (λ (x : Framing). x.held) t.keeps.sent ∙ ap (λ (x : Framing). x.held) other ∙ s.sent;
    heard = ap (λ (x : Framing). x.held) t.keeps.heard ∙ held;
  })

  pub heard_packet_came : (x : Came) (p : Packet) (j : Inspection) (found : Option BreakCause) → x ≡ came.Packet p → Comes (next (fed_byte f b)) x
      → m.heard.held ≡ held_behind x (f.held ++ b ∷ []) → TakesHeard p m j found → Goes h (byte_came way.Heard w b) j found
  heard_packet_came x p j found is comes held t =
      heard_packet p j found (subst (Comes (next (fed_byte f b))) is comes) (held ∙ ap (λ (y : Came). held_behind y (f.held ++ b ∷ [])) is) t

pub if_ok : {T E : Type 0} {P Q : T → Type 0} (r : Result T E) → IfOk r P → ((x : T) → P x → Q x) → IfOk r Q
if_ok (Ok x) h f = f x h
if_ok (Err e) h f = tt

-- Bytes of a piece, one after another.

-- more bytes do not take back the event at which it stops
stops_more : (h : Head) (v u : Watch) (why : BreakCause) (i : Inspection) → Grow v.events u.events → StopsAt h v why i → StopsAt h u why i
stops_more h v u why i grow s = record {
  before = s.before;
  event = s.event;
  behind = s.behind ++ grow.0;
  is = grow.1 ∙ ap (λ (es : List Event). es ++ grow.0) s.is ∙ append_assoc s.before (s.event ∷ s.behind) grow.0;
  lawful = s.lawful;
  cause = s.cause;
  count = s.count;
}

-- Of bytes these are left, and the inspection stands behind those before them.
pub record StandsWithin (h : Head) (w : Watch) (d : Way) (bytes rest : List ℕ) (i : Inspection) : Type 0 where
  pub watch : Watch
  pub stands : Stands h watch i
  pub left : fold (byte_came d) watch rest ≡ fold (byte_came d) w bytes

pub within_first : (h : Head) (w : Watch) (d : Way) (bytes : List ℕ) (i : Inspection) → Stands h w i → StandsWithin h w d bytes bytes i
within_first h w d bytes i s = record { watch = w; stands = s; left = refl }

-- the first of the bytes that are left, and those behind it

first_is : (rest : List ℕ) → 1 ≤ length rest → rest ≡ get_or rest 0 0 ∷ take (length rest - 1) (drop 1 rest)
first_is [] some = absurd (omega (arith, some))
first_is (b ∷ rest) some =
    let less : length (b ∷ rest) - 1 ≡ length rest = omega arith in
    ap (λ (t : List ℕ). b ∷ t) (sym (ap (λ (n : ℕ). take n rest) less ∙ take_all (length rest) rest (omega arith)))

pub seen_next : (rest : List ℕ) (old new all : ℕ) → 1 ≤ length rest → new ≡ old + 1 → old + length rest ≡ all → new + length (take (length rest - 1) (drop 1 rest)) ≡ all
seen_next rest old new all some more same =
    let is : length rest ≡ length (get_or rest 0 0 ∷ take (length rest - 1) (drop 1 rest)) = ap (λ (t : List ℕ). length t) (first_is rest some) in
    omega (arith, is, more, same)

module _ (h : Head) (w : Watch) (d : Way) (bytes rest : List ℕ) (i j : Inspection) (found : Option BreakCause) (some : 1 ≤ length rest) (s : StandsWithin h w d bytes rest i)
    (goes : Goes h (byte_came d s.watch (get_or rest 0 0)) j found) where
  left_behind : fold (byte_came d) (byte_came d s.watch (get_or rest 0 0)) (take (length rest - 1) (drop 1 rest)) ≡ fold (byte_came d) w bytes
  left_behind = sym (ap (λ (t : List ℕ). fold (byte_came d) s.watch t) (first_is rest some)) ∙ s.left

  pub within_next : found ≡ None → StandsWithin h w d bytes (take (length rest - 1) (drop 1 rest)) j
  within_next is = record {
    watch = byte_came d s.watch (get_or rest 0 0);
    stands = subst (λ (o : Option BreakCause). Goes h (byte_came d s.watch (get_or rest 0 0)) j o) is goes;
    left = left_behind;
  }

  pub within_stop : (why : BreakCause) → found ≡ Some why → StopsAt h (fold (byte_came d) w bytes) why j
  within_stop why is =
      subst (λ (v : Watch). StopsAt h v why j) left_behind
      (stops_more h (byte_came d s.watch (get_or rest 0 0)) (fold (byte_came d) (byte_came d s.watch (get_or rest 0 0)) (take (length rest - 1) (drop 1 rest))) why j
      (bytes_grow d (take (length rest - 1) (drop 1 rest)) (byte_came d s.watch (get_or rest 0 0)))
      (subst (λ (o : Option BreakCause). Goes h (byte_came d s.watch (get_or rest 0 0)) j o) is goes))

pub within_last : (h : Head) (w : Watch) (d : Way) (bytes : List ℕ) (i : Inspection) → StandsWithin h w d bytes [] i → Stands h (fold (byte_came d) w bytes) i
within_last h w d bytes i s = subst (λ (v : Watch). Stands h v i) s.left s.stands
