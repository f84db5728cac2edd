-- How a viewer goes on.
use Rattle.std.proofs.Common.{◌≡◌, ◌≤◌, ◌<◌, ◌+◌, ◌-◌, ℕ, zero, suc, Bool, true, false, cond, ltb, List, [], ◌∷◌, ◌++◌, length, take, drop, Option, Result, Ok, Err, refl, sym, ap, subst, ◌∙◌, inl, inr, arith, length-append, append_assoc, append-nil}
use Rattle.std.specs.List.{AllByRecursion}
use Rattle.std.specs.Prelude.{IsOk}
use Rattle.std.proofs.lemmas.Bool.{cases_lt, le-ltb, lt-ltb, ltb-true}
use Rattle.std.proofs.lemmas.List.{length-take, take-append-drop}
use Rattle.mqb_fields.specs.declared.faults.HeadFault.{HeadFault}
use Rattle.mqb_outside.specs.Told.{Took}
use Rattle.mqb_packet.specs.Parts.{packet_of}
use Rattle.mqb_serving.specs.declared.faults.PeerFault.TheVariants as peer
use Rattle.mqb_stream.specs.Cutting.{joined, packet_size}
use Rattle.mqb_stream.specs.declared.framer.Full.{Full}
use Rattle.mqb_stream.specs.Framing.{Broken, Framing, Wants, Whole, advanced, by_size, end_by, fed, next, packet_end, taken_of, wants_more}
use Rattle.mqb_stream.proofs.Filling.{end_least, end_long, same_end}
use Rattle.mqb_commands.specs.lemmas.Taking.{took_then, took_none, front_then, front_more, front_none}
use Rattle.mqb_commands.specs.Outputs.{TookFront}
use Rattle.mqb_commands.specs.declared.shown_faults.ShowFault.{ShowFault}
use Rattle.mqb_commands.specs.declared.shown_faults.ShowFault.TheVariants as fault
use Rattle.mqb_commands.specs.Cuts.{BeginsBad, IsCut, held_at}
use Rattle.mqb_commands.specs.Lines.{lines_from}
use Rattle.mqb_commands.specs.Viewing.{GoesOn, IsOpen, ShowsFrame, Stops, StopsBehind, frame_line}

-- What a framer answers.

short_wants : (f : Framing) → length f.held < 16 → next f ≡ Wants (16 - length f.held)
unfolding next
short_wants f short = rw (lt-ltb (length f.held) 16 short) refl

long_by : (f : Framing) → 16 ≤ length f.held → next f ≡ by_size f (packet_size f.limit f.held)
unfolding next
long_by f long = rw (le-ltb (length f.held) 16 long) refl

pub open_empty : (place : ℕ) → IsOpen (held_at place [])
open_empty place = ap wants_more (short_wants (held_at place []) (omega arith))

by_whole : (f : Framing) (read : Result ℕ HeadFault) (bytes : List ℕ) → by_size f read ≡ Whole bytes → bytes ≡ f.held
by_whole f (Ok size) bytes e = tested (ltb (length f.held) size) e
  where
    tested : (b : Bool) → cond b (Wants (size - length f.held)) (Whole f.held) ≡ Whole bytes → bytes ≡ f.held
    tested true e = absurd cc
    tested false e = cc
by_whole f (Err why) bytes e = absurd cc

-- the whole packet is what is held
pub whole_held : (f : Framing) (bytes : List ℕ) → next f ≡ Whole bytes → bytes ≡ f.held
whole_held f bytes e = elim (cases_lt (length f.held) 16) [
  | inl short ↦ absurd (apart (sym (short_wants f short) ∙ e))
  | inr long ↦ by_whole f (packet_size f.limit f.held) bytes (sym (long_by f long) ∙ e)
]
  where
    apart : Wants (16 - length f.held) ≡ Whole bytes → ⊥
    apart e = cc

-- a bad header stands at the framer's place
by_broken : (f : Framing) (read : Result ℕ HeadFault) (why : HeadFault) (place : ℕ) → by_size f read ≡ Broken why place → place ≡ f.place
by_broken f (Ok size) why place e = tested (ltb (length f.held) size) e
  where
    tested : (b : Bool) → cond b (Wants (size - length f.held)) (Whole f.held) ≡ Broken why place → place ≡ f.place
    tested true e = absurd cc
    tested false e = absurd cc
by_broken f (Err other) why place e = cc

pub broken_place : (f : Framing) (why : HeadFault) (place : ℕ) → next f ≡ Broken why place → place ≡ f.place
broken_place f why place e = elim (cases_lt (length f.held) 16) [
  | inl short ↦ absurd (apart (sym (short_wants f short) ∙ e))
  | inr long ↦ by_broken f (packet_size f.limit f.held) why place (sym (long_by f long) ∙ e)
]
  where
    apart : Wants (16 - length f.held) ≡ Broken why place → ⊥
    apart e = cc

-- What a framer that wants more takes of a piece.

by_before : (f : Framing) (read : Result ℕ HeadFault) → wants_more (by_size f read) ≡ true → length f.held < end_by read
by_before f (Ok size) e = tested (ltb (length f.held) size) refl e
  where
    tested : (b : Bool) → ltb (length f.held) size ≡ b → wants_more (cond b (Wants (size - length f.held)) (Whole f.held)) ≡ true → length f.held < size
    tested true is e = ltb-true (length f.held) size is
    tested false is e = absurd cc
by_before f (Err why) e = absurd cc

reaches : (f : Framing) (piece : List ℕ) → IsOpen f → length f.held < packet_end f.limit (f.held ++ piece)
reaches f piece wants = elim (cases_lt (length f.held) 16) [
  | inl short ↦ omega (arith, short, end_least f.limit (f.held ++ piece))
  | inr long ↦ omega (arith, by_before f (packet_size f.limit f.held) (ap wants_more (sym (long_by f long)) ∙ wants), end_long f.limit f.held long, same_end f.limit f.held piece long)
]

take_over : (held bytes : List ℕ) (n : ℕ) → length held ≤ n → take n (held ++ bytes) ≡ held ++ take (n - length held) bytes
take_over [] bytes n within = let same : n ≡ n - 0 = omega arith in ap (λ (k : ℕ). take k bytes) same
take_over (x ∷ held) bytes zero within = absurd (omega (arith, within))
take_over (x ∷ held) bytes (suc n) within =
    let same : n - length held ≡ suc n - suc (length held) = omega arith in
    ap (λ (t : List ℕ). x ∷ t) (take_over held bytes n (omega (arith, within)) ∙ ap (λ (k : ℕ). held ++ take k bytes) same)

take_len : (m : ℕ) (bytes : List ℕ) → take (length (take m bytes)) bytes ≡ take m bytes
take_len zero bytes = refl
take_len (suc m) [] = refl
take_len (suc m) (b ∷ bytes) = ap (λ (t : List ℕ). b ∷ t) (take_len m bytes)

-- the part of a piece that is taken joins what is held, and the rest is behind it
pub record IsFed (f : Framing) (piece : List ℕ) (n : ℕ) : Type 0 where
  pub some : 0 < length piece → 0 < n
  pub within : n ≤ length piece
  pub sum : (fed f piece).held ++ drop n piece ≡ f.held ++ piece
  pub count : length (fed f piece).held ≡ length f.held + n
  pub framer : f ≡ held_at f.place f.held → fed f piece ≡ held_at f.place (fed f piece).held

fed_count : (f : Framing) (piece : List ℕ) → IsOpen f → IsFed f piece (length (fed f piece).held - length f.held)
unfolding fed
fed_count f piece wants =
    let n = packet_end f.limit (f.held ++ piece) in
    let more = take (n - length f.held) piece in
    let behind = reaches f piece wants in
    let over : take n (f.held ++ piece) ≡ f.held ++ more = take_over f.held piece n (omega (arith, behind)) in
    let all : length (take n (f.held ++ piece)) ≡ length f.held + length more = omega (arith, ap (λ (t : List ℕ). length t) over, length-append f.held more) in
    let count : length (take n (f.held ++ piece)) - length f.held ≡ length more = omega (arith, all) in
    let part : take (length (take n (f.held ++ piece)) - length f.held) piece ≡ more = ap (λ (k : ℕ). take k piece) count ∙ take_len (n - length f.held) piece in
    let k = length (take n (f.held ++ piece)) - length f.held in
    record {
      some = λ there. omega (arith, count, length-take (n - length f.held) piece, behind, there);
      within = omega (arith, count, length-take (n - length f.held) piece);
      sum = ap (λ (t : List ℕ). t ++ drop k piece) (over ∙ ap (λ (t : List ℕ). f.held ++ t) (sym part))
          ∙ append_assoc f.held (take k piece) (drop k piece) ∙ ap (λ (t : List ℕ). f.held ++ t) (take-append-drop k piece);
      count = omega (arith, all, count);
      framer = λ is. ap (λ (g : Framing). record g { held = take n (f.held ++ piece) }) is;
    }

abbrev full : Full
full = record {}

abbrev counted : ℕ → Result ℕ Full
counted n = Ok n

abbrev refused : Result ℕ Full
refused = Err full

by_count : (b : Bool) (m n : ℕ) → b ≡ true → cond b (counted m) refused ≡ counted n → m ≡ n
by_count true m n is e = cc
by_count false m n is e = absurd cc

-- the count that a feed answers
pub is_fed : (f : Framing) (piece : List ℕ) (n : ℕ) → IsOpen f → counted n ≡ taken_of f piece → IsFed f piece n
is_fed f piece n wants answers =
    subst (IsFed f piece) (by_count (wants_more (next f)) (length (fed f piece).held - length f.held) n wants (sym answers)) (fed_count f piece wants)

-- Lists of packets.

joined_then : (xs ys : List (List ℕ)) → joined (xs ++ ys) ≡ joined xs ++ joined ys
joined_then [] ys = refl
joined_then (x ∷ xs) ys = ap (λ (t : List ℕ). x ++ t) (joined_then xs ys) ∙ sym (append_assoc x (joined xs) (joined ys))

lines_then : (place : ℕ) (xs ys : List (List ℕ)) → lines_from place (xs ++ ys) ≡ lines_from place xs ++ lines_from (place + length (joined xs)) ys
lines_then place [] ys = let same : place ≡ place + 0 = omega arith in ap (λ (p : ℕ). lines_from p ys) same
lines_then place (x ∷ xs) ys =
    let same : (place + length x) + length (joined xs) ≡ place + length (x ++ joined xs) = omega (arith, length-append x (joined xs)) in
    ap (λ (t : List ℕ). frame_line place x ++ t) (lines_then (place + length x) xs ys ∙ ap (λ (p : ℕ). lines_from (place + length x) xs ++ lines_from p ys) same)
    ∙ sym (append_assoc (frame_line place x) (lines_from (place + length x) xs) (lines_from (place + length (x ++ joined xs)) ys))

abbrev IsPacket : List ℕ → Type 0
IsPacket packet = IsOk (packet_of packet)

all_then : (xs ys : List (List ℕ)) → AllByRecursion IsPacket xs → AllByRecursion IsPacket ys → AllByRecursion IsPacket (xs ++ ys)
all_then [] ys first second = second
all_then (x ∷ xs) ys first second = (first.0, all_then xs ys first.1 second)

cut_then : (bytes middle rest : List ℕ) (xs ys : List (List ℕ)) → IsCut bytes xs middle → IsCut middle ys rest → IsCut bytes (xs ++ ys) rest
cut_then bytes middle rest xs ys first second = record {
  whole = first.whole ∙ ap (λ (t : List ℕ). joined xs ++ t) second.whole ∙ sym (append_assoc (joined xs) (joined ys) rest)
      ∙ ap (λ (t : List ℕ). t ++ rest) (sym (joined_then xs ys));
  each = all_then xs ys first.each second.each;
}

-- Going on.

pub goes_nowhere : (f : Framing) (bytes : List ℕ) (a : Option (List ℕ)) → f ≡ held_at f.place f.held → GoesOn f f bytes bytes a a
goes_nowhere f bytes a is = record {
  packets = [];
  cut = record { whole = refl; each = tt };
  framer = let same : f.place ≡ f.place + 0 = omega arith in is ∙ ap (λ (p : ℕ). held_at p f.held) same;
  wrote = took_none a;
}

place_is : (f g : Framing) (n : ℕ) → g ≡ held_at (f.place + n) g.held → g.place ≡ f.place + n
place_is f g n is = ap (λ (h : Framing). h.place) is

place_then : (f g : Framing) (xs ys : List (List ℕ)) → g ≡ held_at (f.place + length (joined xs)) g.held
    → g.place + length (joined ys) ≡ f.place + length (joined (xs ++ ys))
place_then f g xs ys is = omega (arith, place_is f g (length (joined xs)) is, ap (λ (t : List ℕ). length t) (joined_then xs ys), length-append (joined xs) (joined ys))

lines_on : (f g : Framing) (xs ys : List (List ℕ)) → g ≡ held_at (f.place + length (joined xs)) g.held
    → lines_from f.place xs ++ lines_from g.place ys ≡ lines_from f.place (xs ++ ys)
lines_on f g xs ys is =
    ap (λ (p : ℕ). lines_from f.place xs ++ lines_from p ys) (place_is f g (length (joined xs)) is) ∙ sym (lines_then f.place xs ys)

pub goes_then : (f g h : Framing) (bytes middle unread : List ℕ) (a b c : Option (List ℕ)) → GoesOn f g bytes middle a b → GoesOn g h middle unread b c
    → GoesOn f h bytes unread a c
goes_then f g h bytes middle unread a b c first second = record {
  packets = first.packets ++ second.packets;
  cut = cut_then (f.held ++ bytes) (g.held ++ middle) (h.held ++ unread) first.packets second.packets first.cut second.cut;
  framer = second.framer ∙ ap (λ (p : ℕ). held_at p h.held) (place_then f g first.packets second.packets first.framer);
  wrote = subst (Took a c) (lines_on f g first.packets second.packets first.framer)
      (took_then a b c (lines_from f.place first.packets) (lines_from g.place second.packets) first.wrote second.wrote);
}

-- the framer takes its part of what is unread
pub feed_goes : (f : Framing) (piece : List ℕ) (n : ℕ) (a : Option (List ℕ)) → f ≡ held_at f.place f.held → IsFed f piece n
    → GoesOn f (fed f piece) piece (drop n piece) a a
feed_goes f piece n a is part = record {
  packets = [];
  cut = record { whole = sym part.sum; each = tt };
  framer = let same : f.place ≡ f.place + 0 = omega arith in part.framer is ∙ ap (λ (p : ℕ). held_at p (fed f piece).held) same;
  wrote = took_none a;
}

-- more bytes come
pub more_goes : (f g : Framing) (bytes piece : List ℕ) (a b : Option (List ℕ)) → GoesOn f g bytes [] a b → GoesOn f g (bytes ++ piece) piece a b
more_goes f g bytes piece a b so = record {
  packets = so.packets;
  cut = record {
    whole = sym (append_assoc f.held bytes piece) ∙ ap (λ (t : List ℕ). t ++ piece) (so.cut.whole)
        ∙ append_assoc (joined so.packets) (g.held ++ []) piece ∙ ap (λ (t : List ℕ). joined so.packets ++ (t ++ piece)) (append-nil g.held);
    each = so.cut.each;
  };
  framer = so.framer;
  wrote = so.wrote;
}

-- a frame that is held was shown
pub frame_goes : (f : Framing) (unread : List ℕ) (a b : Option (List ℕ)) → f ≡ held_at f.place f.held → ShowsFrame f.place f.held a b (Ok tt)
    → GoesOn f (advanced f) unread unread a b
frame_goes f unread a b is shown =
    let none : (f.held ++ []) ≡ f.held = append-nil f.held in
    record {
      packets = f.held ∷ [];
      cut = record { whole = ap (λ (t : List ℕ). t ++ unread) (sym none); each = (shown.0, tt) };
      framer = ap advanced is ∙ ap (λ (t : List ℕ). held_at (f.place + length t) []) (sym none);
      wrote = subst (Took a b) (sym (append-nil (frame_line f.place f.held))) shown.1;
    }

-- Stopping.

behind_then : (place other : ℕ) (rest x y z : List ℕ) (a b c : Option (List ℕ)) (why : ShowFault) → place ≡ other → x ++ y ≡ z → Took a b x
    → StopsBehind place rest y b c why → StopsBehind other rest z a c why
behind_then place other rest x y z a b c (fault.Peer (peer.Bad at why)) same lines first second =
    (second.0 ∙ same, subst (λ (p : ℕ). BeginsBad p rest why) same second.1, subst (Took a c) lines (took_then a b c x y first second.2))
behind_then place other rest x y z a b c fault.WriteFault same lines first second = subst (TookFront a c) lines (front_then a b c x y first second)
behind_then place other rest x y z a b c fault.Memory same lines first second = subst (TookFront a c) lines (front_then a b c x y first second)
behind_then place other rest x y z a b c why same lines first second = absurd second

pub stops_then : (f g : Framing) (bytes middle : List ℕ) (a b c : Option (List ℕ)) (why : ShowFault) → GoesOn f g bytes middle a b → Stops g middle b c why
    → Stops f bytes a c why
stops_then f g bytes middle a b c why first second = record {
  packets = first.packets ++ second.packets;
  rest = second.rest;
  cut = cut_then (f.held ++ bytes) (g.held ++ middle) second.rest first.packets second.packets first.cut second.cut;
  stops = behind_then (g.place + length (joined second.packets)) (f.place + length (joined (first.packets ++ second.packets))) second.rest
      (lines_from f.place first.packets) (lines_from g.place second.packets) (lines_from f.place (first.packets ++ second.packets)) a b c why
      (place_then f g first.packets second.packets first.framer) (lines_on f g first.packets second.packets first.framer) first.wrote second.stops;
}

at_place : (f : Framing) (p : ℕ) → f ≡ held_at f.place f.held → p ≡ f.place → f ≡ held_at p f.held
at_place f p is same = is ∙ ap (λ (q : ℕ). held_at q f.held) (sym same)

-- a bad header waits
pub bad_stops : (f : Framing) (unread : List ℕ) (a : Option (List ℕ)) (why : HeadFault) (place : ℕ) → f ≡ held_at f.place f.held → next f ≡ Broken why place
    → Stops f unread a a (fault.Peer (peer.Bad place why))
bad_stops f unread a why place is broken =
    let at : place ≡ f.place + 0 = omega (arith, broken_place f why place broken) in
    let same : f ≡ held_at (f.place + 0) f.held = at_place f (f.place + 0) is (omega arith) in
    record {
      packets = [];
      rest = f.held ++ unread;
      cut = record { whole = refl; each = tt };
      stops = (at, record { front = f.held; unread = unread; whole = refl; bad = inl (ap next (sym same) ∙ broken ∙ ap (Broken why) at) }, took_none a);
    }

front_same : (a b : Option (List ℕ)) (text : List ℕ) → b ≡ a → TookFront a b text
front_same a b text same = subst (λ (o : Option (List ℕ)). TookFront a o text) (sym same) (front_none a text)

-- a frame was not shown
pub frame_stops : (f : Framing) (unread : List ℕ) (a b : Option (List ℕ)) (why : ShowFault) → f ≡ held_at f.place f.held → next f ≡ Whole f.held
    → ShowsFrame f.place f.held a b (Err why) → Stops f unread a b why
frame_stops f unread a b (fault.Peer (peer.Bad at kind)) is whole shown =
    let place : at ≡ f.place + 0 = omega (arith, shown.0) in
    let same : f ≡ held_at (f.place + 0) f.held = at_place f (f.place + 0) is (omega arith) in
    record {
      packets = [];
      rest = f.held ++ unread;
      cut = record { whole = refl; each = tt };
      stops = (
        place,
        record { front = f.held; unread = unread; whole = refl; bad = inr (ap next (sym same) ∙ whole, shown.1) },
        subst (λ (o : Option (List ℕ)). Took a o []) (sym shown.2) (took_none a),
      );
    }
frame_stops f unread a b fault.WriteFault is whole shown =
    let none : (f.held ++ []) ≡ f.held = append-nil f.held in
    record {
      packets = f.held ∷ [];
      rest = unread;
      cut = record { whole = ap (λ (t : List ℕ). t ++ unread) (sym none); each = (shown.0, tt) };
      stops = front_more a b (frame_line f.place f.held) [] shown.1;
    }
frame_stops f unread a b fault.Memory is whole shown = record {
  packets = [];
  rest = f.held ++ unread;
  cut = record { whole = refl; each = tt };
  stops = front_same a b [] shown;
}
frame_stops f unread a b why is whole shown = absurd shown

-- the bytes of a framer's packet and those that are unread are those that were there, less the packets
pub goes_count : (f g : Framing) (bytes unread : List ℕ) (a b : Option (List ℕ)) → GoesOn f g bytes unread a b
    → g.place + (length g.held + length unread) ≡ f.place + (length f.held + length bytes)
goes_count f g bytes unread a b so =
    omega (
      arith,
      place_is f g (length (joined so.packets)) so.framer,
      ap (λ (t : List ℕ). length t) so.cut.whole,
      length-append f.held bytes,
      length-append (joined so.packets) (g.held ++ unread),
      length-append g.held unread,
    )

pub goes_framer : (f g : Framing) (bytes unread : List ℕ) (a b : Option (List ℕ)) → GoesOn f g bytes unread a b → g ≡ held_at g.place g.held
goes_framer f g bytes unread a b so = so.framer ∙ ap (λ (p : ℕ). held_at p g.held) (sym (place_is f g (length (joined so.packets)) so.framer))

-- a framer that was fed is one of a viewer still
pub fed_framer : (f : Framing) (piece : List ℕ) (n : ℕ) → f ≡ held_at f.place f.held → IsFed f piece n → fed f piece ≡ held_at (fed f piece).place (fed f piece).held
unfolding fed
fed_framer f piece n is part = part.framer is
