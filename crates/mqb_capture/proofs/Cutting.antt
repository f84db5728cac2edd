-- The bytes of each way are cut into the packets of the events.
use Rattle.std.proofs.Common.{◌≡◌, ◌<◌, ◌≤◌, ℕ, ◌+◌, ◌-◌, Bool, true, false, cond, ltb, List, [], ◌∷◌, ◌++◌, length, Option, None, Some, Result, Ok, Err, refl, sym, ap, subst, ◌∙◌, inl, inr, append_assoc, append-nil, arith, length-append}
use Rattle.std.specs.Prelude.{fold}
use Rattle.std.specs.List.{AllByRecursion, AllZip}
use Rattle.std.specs.Option.{option_map_or}
use Rattle.std.proofs.lemmas.Bool.{cases_lt, le-ltb, lt-ltb, ltb-false, ltb-true}
use Rattle.std.proofs.lemmas.List.{flat_map_more}
use Rattle.std.proofs.lemmas.List.Elements.{filter_map-append}
use Rattle.mqb_fields.specs.declared.faults.HeadFault.{HeadFault}
use Rattle.mqb_heads.specs.declared.base.TheConstants.{MAX_PACKET}
use Rattle.mqb_packet.specs.Parts.{PacketParts, packet_of}
use Rattle.mqb_packet.specs.Spelled.{Spells, packet_in}
use Rattle.mqb_packet.specs.declared.packet.Packet.{Packet}
use Rattle.mqb_packet.proofs.WellFormed.{packet_read, said_packet}
use Rattle.mqb_stream.specs.Cutting.{BeginsNoFrame, IsFrame, joined, packet_size}
use Rattle.mqb_stream.specs.Framing.{Answer, Broken, Framing, Wants, Whole, by_size, end_by, next, packet_end, wants_more}
use Rattle.mqb_stream.proofs.Filling.{end_least, end_long, same_end, same_size, size_is}
use Rattle.mqb_capture.specs.declared.answers.Way.{Way}
use Rattle.mqb_capture.specs.declared.answers.Way.TheVariants as way
use Rattle.mqb_capture.specs.Grammar.{Piece}
use Rattle.mqb_capture.specs.Events.{Bad, Event, Heard, Sent, Watch, answer_to, answered, byte_came, event_of, held, holding, no_events, piece_came, read_as, watched, with_event}
use Rattle.mqb_capture.specs.Cuts.{AreCut, IsGood, bytes_if, packet_by, packets, stream}
use Rattle.mqb_capture.proofs.Lists.{all_back, all_front}
use Rattle.mqb_capture.proofs.Growing.{Grow, bytes_grow, pieces_grow}

-- Of framers, as in the crate of streams.

abbrev sized_as : ℕ → Result ℕ HeadFault
sized_as n = Ok n

same_number : (m n : ℕ) → sized_as m ≡ sized_as n → m ≡ n
same_number m n e = cc

-- a frame at the front of bytes tells their size
frame_size : (limit : ℕ) (frame rest : List ℕ) → IsFrame limit frame → packet_size limit (frame ++ rest) ≡ sized_as (length frame)
frame_size limit frame rest is = same_size limit frame rest (size_is limit frame (length frame) is).head ∙ is

all_more : (limit : ℕ) (frames : List (List ℕ)) (frame : List ℕ) → AllByRecursion (IsFrame limit) frames → IsFrame limit frame → AllByRecursion (IsFrame limit) (frames ++ frame ∷ [])
all_more limit [] frame each is = (is, tt)
all_more limit (x ∷ frames) frame each is = (each.0, all_more limit frames frame each.1 is)

short_wants : (f : Framing) → length f.held < 16 → next f ≡ Wants (16 - length f.held)
unfolding next
short_wants f short = rw (lt-ltb (length f.held) 16 short) refl

long_by : (f : Framing) → 16 ≤ length f.held → next f ≡ by_size f (packet_size f.limit f.held)
unfolding next
long_by f long = rw (le-ltb (length f.held) 16 long) refl

sized_whole : (f : Framing) (size : ℕ) → packet_size f.limit f.held ≡ Ok size → size ≤ length f.held → next f ≡ Whole f.held
sized_whole f size read within =
    let long = (size_is f.limit f.held size read).head in
    long_by f long ∙ ap (by_size f) read ∙ ap (λ (b : Bool). cond b (Wants (size - length f.held)) (Whole f.held)) (le-ltb (length f.held) size within)

whole_apart : (f : Framing) (answer : Answer) → next f ≡ answer → wants_more answer ≡ true → next f ≡ Whole f.held → ⊥
whole_apart f (Whole bytes) e wants is = absurd cc
whole_apart f (Broken fault place) e wants is = absurd cc
whole_apart f (Wants need) e wants is = cc

front_waits : (f : Framing) (front back : List ℕ) → f.held ≡ front ++ back → IsFrame f.limit front → next f ≡ Whole f.held
front_waits f front back e is =
    let size : packet_size f.limit f.held ≡ Ok (length front) = ap (packet_size f.limit) e ∙ frame_size f.limit front back is in
    sized_whole f (length front) size (omega (arith, ap (λ (t : List ℕ). length t) e, length-append front back))

by_whole : (f : Framing) (read : Result ℕ HeadFault) (bytes : List ℕ) → packet_size f.limit f.held ≡ read → by_size f read ≡ Whole bytes → length f.held ≤ end_by read
    → (bytes ≡ f.held) × IsFrame f.limit f.held
by_whole f (Ok size) bytes read e within = test_whole (ltb (length f.held) size) refl e
  where
    test_whole : (b : Bool) → ltb (length f.held) size ≡ b → cond b (Wants (size - length f.held)) (Whole f.held) ≡ Whole bytes → (bytes ≡ f.held) × IsFrame f.limit f.held
    test_whole true is e = absurd cc
    test_whole false is e = (cc, read ∙ ap sized_as (omega (arith, ltb-false (length f.held) size is, within)))
by_whole f (Err fault) bytes read e within = absurd cc

whole_is : (f : Framing) (bytes : List ℕ) → length f.held ≤ packet_end f.limit f.held → next f ≡ Whole bytes → (bytes ≡ f.held) × IsFrame f.limit f.held
whole_is f bytes within e = elim (cases_lt (length f.held) 16) [
  | inl short ↦ absurd (apart f bytes (short_wants f short) e)
  | inr long ↦ by_whole f (packet_size f.limit f.held) bytes refl (sym (long_by f long) ∙ e) (omega (arith, within, end_long f.limit f.held long))
]
  where
    apart : (f : Framing) (bytes : List ℕ) → next f ≡ Wants (16 - length f.held) → next f ≡ Whole bytes → ⊥
    apart f bytes wants whole = cc

nothing_begins : (limit : ℕ) → BeginsNoFrame limit []
nothing_begins limit front back e is =
    let none = ap (λ (t : List ℕ). length t) e in
    absurd (omega (arith, none, length-append front back, (size_is limit front (length front) is).head))

joined_more : (frames : List (List ℕ)) (frame : List ℕ) → joined frames ++ frame ≡ joined (frames ++ frame ∷ [])
joined_more frames frame = flat_map_more (λ (t : List ℕ). t) [] frames frame

-- A byte joins what is held.

abbrev frame_of : List ℕ → Framing
frame_of bytes = record { limit = MAX_PACKET; room = MAX_PACKET; place = 0; held = bytes }

-- what waits for more has room for a byte
pub room_left : (r : List ℕ) (b : ℕ) → wants_more (answer_to r) ≡ true → length (r ++ b ∷ []) ≤ packet_end MAX_PACKET (r ++ b ∷ [])
room_left r b wants = elim (cases_lt (length r) 16) [
  | inl short ↦ omega (arith, short, end_least MAX_PACKET (r ++ b ∷ []), length-append r (b ∷ []))
  | inr long ↦ long_room long (packet_size MAX_PACKET r) refl (subst (λ (a : Answer). wants_more a ≡ true) (long_by (frame_of r) long) wants)
]
  where
    long_room : 16 ≤ length r → (read : Result ℕ HeadFault) → packet_size MAX_PACKET r ≡ read → wants_more (by_size (frame_of r) read) ≡ true → length (r ++ b ∷ []) ≤ packet_end MAX_PACKET (r ++ b ∷ [])
    long_room long (Err fault) e wants = absurd cc
    long_room long (Ok size) e wants =
        let less : length r < size = by_test (ltb (length r) size) refl wants in
        let end : packet_end MAX_PACKET r ≡ size = end_long MAX_PACKET r long ∙ ap end_by e in
        omega (arith, less, end, same_end MAX_PACKET r (b ∷ []) long, length-append r (b ∷ []))
      where
        by_test : (t : Bool) → ltb (length r) size ≡ t → wants_more (cond t (Wants (size - length r)) (Whole r)) ≡ true → length r < size
        by_test true is wants = ltb-true (length r) size is
        by_test false is wants = absurd cc

longer : (bytes : List ℕ) (frames : List (List ℕ)) (r : List ℕ) (b : ℕ) → bytes ≡ joined frames ++ r → bytes ++ b ∷ [] ≡ joined frames ++ (r ++ b ∷ [])
longer bytes frames r b e = ap (λ (t : List ℕ). t ++ b ∷ []) e ∙ append_assoc (joined frames) r (b ∷ [])

wants_cut : (bytes r : List ℕ) (ps : List Packet) (b : ℕ) (need : ℕ) → AreCut bytes ps r → answer_to (r ++ b ∷ []) ≡ Wants need → AreCut (bytes ++ b ∷ []) ps (r ++ b ∷ [])
wants_cut bytes r ps b need c e = record {
  frames = c.frames;
  cut = record {
    whole = longer bytes c.frames r b c.cut.whole;
    each = c.cut.each;
    end = λ front back parts frame. whole_apart (frame_of (r ++ b ∷ [])) (Wants need) e refl (front_waits (frame_of (r ++ b ∷ [])) front back parts frame);
  };
  spell = c.spell;
}

zip_more : (ps : List Packet) (frames : List (List ℕ)) (p : Packet) (frame : List ℕ) → AllZip Spells ps frames → Spells p frame → AllZip Spells (ps ++ p ∷ []) (frames ++ frame ∷ [])
zip_more [] [] p frame all is = (is, tt)
zip_more [] (f ∷ frames) p frame all is = absurd all
zip_more (q ∷ ps) [] p frame all is = absurd all
zip_more (q ∷ ps) (f ∷ frames) p frame all is = (all.0, zip_more ps frames p frame all.1 is)

whole_cut : (bytes r : List ℕ) (ps : List Packet) (b : ℕ) (frame : List ℕ) (p : Packet) → AreCut bytes ps r → wants_more (answer_to r) ≡ true → answer_to (r ++ b ∷ []) ≡ Whole frame → Spells p frame
    → AreCut (bytes ++ b ∷ []) (ps ++ p ∷ []) []
whole_cut bytes r ps b frame p c wants e spells =
    let is = whole_is (frame_of (r ++ b ∷ [])) frame (room_left r b wants) e in
    record {
      frames = c.frames ++ frame ∷ [];
      cut = record {
        whole = longer bytes c.frames r b c.cut.whole ∙ ap (λ (t : List ℕ). joined c.frames ++ t) (sym is.0) ∙ joined_more c.frames frame ∙ sym (append-nil (joined (c.frames ++ frame ∷ [])));
        each = all_more MAX_PACKET c.frames frame c.cut.each (subst (IsFrame MAX_PACKET) (sym is.0) is.1);
        end = nothing_begins MAX_PACKET;
      };
      spell = zip_more ps c.frames p frame c.spell spells;
    }

none_wants : wants_more (answer_to []) ≡ true
unfolding next
none_wants = refl

-- What is so far known of a way.
pub record IsSoFar (direction : Way) (w : Watch) (bytes : List ℕ) : Type 0 where
  pub cut : AreCut bytes (packets direction w.events) (held direction w)
  pub wants : wants_more (answer_to (held direction w)) ≡ true

-- the packet that is read of a frame

said_of : (frame : List ℕ) (parts : PacketParts) (p : Packet) → packet_of frame ≡ Ok parts → packet_in parts ≡ Some p → Spells p frame
said_of frame parts p read said = record { parts = parts; read = read; said = said }

abbrev as_ok : PacketParts → Result PacketParts HeadFault
as_ok parts = Ok parts

same_parts : (a b : PacketParts) → as_ok a ≡ as_ok b → a ≡ b
same_parts a b e = cc

some_apart : (p : Packet) (o : Option Packet) → o ≡ Some p → o ≡ None → ⊥
some_apart p o e f = cc

says_some : (frame : List ℕ) (parts : PacketParts) → packet_of frame ≡ Ok parts → packet_in parts ≡ None → ⊥
says_some frame parts read none =
    let s = said_packet frame parts read (packet_read frame parts read) in
    some_apart s.0 (packet_in parts) (subst (λ (x : PacketParts). packet_in x ≡ Some s.0) (same_parts s.1.parts parts (sym s.1.read ∙ read)) s.1.said) none

sent_said : (w : Watch) (bytes : List ℕ) (b : ℕ) (frame : List ℕ) (parts : PacketParts) (o : Option Packet) → IsSoFar way.Sent w bytes → answer_to (w.sent ++ b ∷ []) ≡ Whole frame
    → packet_of frame ≡ Ok parts → packet_in parts ≡ o
    → IsSoFar way.Sent (option_map_or (λ p. with_event (event_of way.Sent p) (holding way.Sent [] w)) o (holding way.Sent [] w)) (bytes ++ b ∷ [])
sent_said w bytes b frame parts None so e read none = absurd (says_some frame parts read none)
sent_said w bytes b frame parts (Some p) so e read said = record {
  cut = subst (λ (ps : List Packet). AreCut (bytes ++ b ∷ []) ps []) (sym (filter_map-append (packet_by way.Sent) w.events (Sent p ∷ [])))
      (whole_cut bytes w.sent (packets way.Sent w.events) b frame p so.cut so.wants e (said_of frame parts p read said));
  wants = none_wants;
}

sent_read : (w : Watch) (bytes : List ℕ) (b : ℕ) (frame : List ℕ) (r : Result PacketParts HeadFault) → IsSoFar way.Sent w bytes → answer_to (w.sent ++ b ∷ []) ≡ Whole frame → packet_of frame ≡ r
    → AllByRecursion IsGood (read_as way.Sent r (holding way.Sent [] w)).events → IsSoFar way.Sent (read_as way.Sent r (holding way.Sent [] w)) (bytes ++ b ∷ [])
sent_read w bytes b frame (Err fault) so e read good = absurd (all_back IsGood w.events (Bad fault ∷ []) good).0
sent_read w bytes b frame (Ok parts) so e read good = sent_said w bytes b frame parts (packet_in parts) so e read refl

sent_answer : (w : Watch) (bytes : List ℕ) (b : ℕ) (a : Answer) → IsSoFar way.Sent w bytes → answer_to (w.sent ++ b ∷ []) ≡ a
    → AllByRecursion IsGood (answered way.Sent a (holding way.Sent (w.sent ++ b ∷ []) w)).events
    → IsSoFar way.Sent (answered way.Sent a (holding way.Sent (w.sent ++ b ∷ []) w)) (bytes ++ b ∷ [])
sent_answer w bytes b (Wants need) so e good = record { cut = wants_cut bytes w.sent (packets way.Sent w.events) b need so.cut e; wants = ap wants_more e }
sent_answer w bytes b (Broken fault place) so e good = absurd (all_back IsGood w.events (Bad fault ∷ []) good).0
sent_answer w bytes b (Whole frame) so e good = sent_read w bytes b frame (packet_of frame) so e refl good

sent_byte : (w : Watch) (bytes : List ℕ) (b : ℕ) → IsSoFar way.Sent w bytes → AllByRecursion IsGood (byte_came way.Sent w b).events → IsSoFar way.Sent (byte_came way.Sent w b) (bytes ++ b ∷ [])
sent_byte w bytes b so good = sent_answer w bytes b (answer_to (w.sent ++ b ∷ [])) so refl good

heard_beside_said : (w : Watch) (bytes : List ℕ) (o : Option Packet) → IsSoFar way.Heard w bytes → IsSoFar way.Heard (option_map_or (λ p. with_event (event_of way.Sent p) w) o w) bytes
heard_beside_said w bytes None so = so
heard_beside_said w bytes (Some p) so = record {
  cut = subst (λ (ps : List Packet). AreCut bytes ps w.heard) (sym (append-nil (packets way.Heard w.events)) ∙ sym (filter_map-append (packet_by way.Heard) w.events (Sent p ∷ []))) so.cut;
  wants = so.wants;
}

heard_beside_read : (w : Watch) (bytes : List ℕ) (r : Result PacketParts HeadFault) → IsSoFar way.Heard w bytes → AllByRecursion IsGood (read_as way.Sent r w).events → IsSoFar way.Heard (read_as way.Sent r w) bytes
heard_beside_read w bytes (Ok parts) so good = heard_beside_said w bytes (packet_in parts) so
heard_beside_read w bytes (Err fault) so good = absurd (all_back IsGood w.events (Bad fault ∷ []) good).0

heard_beside_answer : (w : Watch) (bytes : List ℕ) (a : Answer) → IsSoFar way.Heard w bytes → AllByRecursion IsGood (answered way.Sent a w).events → IsSoFar way.Heard (answered way.Sent a w) bytes
heard_beside_answer w bytes (Wants need) so good = so
heard_beside_answer w bytes (Broken fault place) so good = absurd (all_back IsGood w.events (Bad fault ∷ []) good).0
heard_beside_answer w bytes (Whole frame) so good = heard_beside_read (holding way.Sent [] w) bytes (packet_of frame) (record { cut = so.cut; wants = so.wants }) good

heard_beside_byte : (w : Watch) (bytes : List ℕ) (b : ℕ) → IsSoFar way.Heard w bytes → AllByRecursion IsGood (byte_came way.Sent w b).events → IsSoFar way.Heard (byte_came way.Sent w b) bytes
heard_beside_byte w bytes b so good = heard_beside_answer (holding way.Sent (w.sent ++ b ∷ []) w) bytes (answer_to (w.sent ++ b ∷ [])) (record { cut = so.cut; wants = so.wants }) good

heard_said : (w : Watch) (bytes : List ℕ) (b : ℕ) (frame : List ℕ) (parts : PacketParts) (o : Option Packet) → IsSoFar way.Heard w bytes → answer_to (w.heard ++ b ∷ []) ≡ Whole frame
    → packet_of frame ≡ Ok parts → packet_in parts ≡ o
    → IsSoFar way.Heard (option_map_or (λ p. with_event (event_of way.Heard p) (holding way.Heard [] w)) o (holding way.Heard [] w)) (bytes ++ b ∷ [])
heard_said w bytes b frame parts None so e read none = absurd (says_some frame parts read none)
heard_said w bytes b frame parts (Some p) so e read said = record {
  cut = subst (λ (ps : List Packet). AreCut (bytes ++ b ∷ []) ps []) (sym (filter_map-append (packet_by way.Heard) w.events (Heard p ∷ [])))
      (whole_cut bytes w.heard (packets way.Heard w.events) b frame p so.cut so.wants e (said_of frame parts p read said));
  wants = none_wants;
}

heard_read : (w : Watch) (bytes : List ℕ) (b : ℕ) (frame : List ℕ) (r : Result PacketParts HeadFault) → IsSoFar way.Heard w bytes → answer_to (w.heard ++ b ∷ []) ≡ Whole frame → packet_of frame ≡ r
    → AllByRecursion IsGood (read_as way.Heard r (holding way.Heard [] w)).events → IsSoFar way.Heard (read_as way.Heard r (holding way.Heard [] w)) (bytes ++ b ∷ [])
heard_read w bytes b frame (Err fault) so e read good = absurd (all_back IsGood w.events (Bad fault ∷ []) good).0
heard_read w bytes b frame (Ok parts) so e read good = heard_said w bytes b frame parts (packet_in parts) so e read refl

heard_answer : (w : Watch) (bytes : List ℕ) (b : ℕ) (a : Answer) → IsSoFar way.Heard w bytes → answer_to (w.heard ++ b ∷ []) ≡ a
    → AllByRecursion IsGood (answered way.Heard a (holding way.Heard (w.heard ++ b ∷ []) w)).events
    → IsSoFar way.Heard (answered way.Heard a (holding way.Heard (w.heard ++ b ∷ []) w)) (bytes ++ b ∷ [])
heard_answer w bytes b (Wants need) so e good = record { cut = wants_cut bytes w.heard (packets way.Heard w.events) b need so.cut e; wants = ap wants_more e }
heard_answer w bytes b (Broken fault place) so e good = absurd (all_back IsGood w.events (Bad fault ∷ []) good).0
heard_answer w bytes b (Whole frame) so e good = heard_read w bytes b frame (packet_of frame) so e refl good

heard_byte : (w : Watch) (bytes : List ℕ) (b : ℕ) → IsSoFar way.Heard w bytes → AllByRecursion IsGood (byte_came way.Heard w b).events → IsSoFar way.Heard (byte_came way.Heard w b) (bytes ++ b ∷ [])
heard_byte w bytes b so good = heard_answer w bytes b (answer_to (w.heard ++ b ∷ [])) so refl good

sent_beside_said : (w : Watch) (bytes : List ℕ) (o : Option Packet) → IsSoFar way.Sent w bytes → IsSoFar way.Sent (option_map_or (λ p. with_event (event_of way.Heard p) w) o w) bytes
sent_beside_said w bytes None so = so
sent_beside_said w bytes (Some p) so = record {
  cut = subst (λ (ps : List Packet). AreCut bytes ps w.sent) (sym (append-nil (packets way.Sent w.events)) ∙ sym (filter_map-append (packet_by way.Sent) w.events (Heard p ∷ []))) so.cut;
  wants = so.wants;
}

sent_beside_read : (w : Watch) (bytes : List ℕ) (r : Result PacketParts HeadFault) → IsSoFar way.Sent w bytes → AllByRecursion IsGood (read_as way.Heard r w).events → IsSoFar way.Sent (read_as way.Heard r w) bytes
sent_beside_read w bytes (Ok parts) so good = sent_beside_said w bytes (packet_in parts) so
sent_beside_read w bytes (Err fault) so good = absurd (all_back IsGood w.events (Bad fault ∷ []) good).0

sent_beside_answer : (w : Watch) (bytes : List ℕ) (a : Answer) → IsSoFar way.Sent w bytes → AllByRecursion IsGood (answered way.Heard a w).events → IsSoFar way.Sent (answered way.Heard a w) bytes
sent_beside_answer w bytes (Wants need) so good = so
sent_beside_answer w bytes (Broken fault place) so good = absurd (all_back IsGood w.events (Bad fault ∷ []) good).0
sent_beside_answer w bytes (Whole frame) so good = sent_beside_read (holding way.Heard [] w) bytes (packet_of frame) (record { cut = so.cut; wants = so.wants }) good

sent_beside_byte : (w : Watch) (bytes : List ℕ) (b : ℕ) → IsSoFar way.Sent w bytes → AllByRecursion IsGood (byte_came way.Heard w b).events → IsSoFar way.Sent (byte_came way.Heard w b) bytes
sent_beside_byte w bytes b so good = sent_beside_answer (holding way.Heard (w.heard ++ b ∷ []) w) bytes (answer_to (w.heard ++ b ∷ [])) (record { cut = so.cut; wants = so.wants }) good

-- All bytes.

byte_so_far : (direction other : Way) (w : Watch) (bytes : List ℕ) (b : ℕ) → IsSoFar direction w bytes → AllByRecursion IsGood (byte_came other w b).events
    → IsSoFar direction (byte_came other w b) (bytes ++ bytes_if direction other (b ∷ []))
byte_so_far way.Sent way.Sent w bytes b so good = sent_byte w bytes b so good
byte_so_far way.Heard way.Heard w bytes b so good = heard_byte w bytes b so good
byte_so_far way.Sent way.Heard w bytes b so good = subst (IsSoFar way.Sent (byte_came way.Heard w b)) (sym (append-nil bytes)) (sent_beside_byte w bytes b so good)
byte_so_far way.Heard way.Sent w bytes b so good = subst (IsSoFar way.Heard (byte_came way.Sent w b)) (sym (append-nil bytes)) (heard_beside_byte w bytes b so good)

-- what holds of all events holds of the first ones
good_before : (old new : List Event) → Grow old new → AllByRecursion IsGood new → AllByRecursion IsGood old
good_before old new grow good = all_front IsGood old grow.0 (subst (AllByRecursion IsGood) grow.1 good)

if_more : (direction other : Way) (b : ℕ) (bytes : List ℕ) → bytes_if direction other (b ∷ []) ++ bytes_if direction other bytes ≡ bytes_if direction other (b ∷ bytes)
if_more way.Sent way.Sent b bytes = refl
if_more way.Heard way.Heard b bytes = refl
if_more way.Sent way.Heard b bytes = refl
if_more way.Heard way.Sent b bytes = refl

if_none : (direction other : Way) → bytes_if direction other [] ≡ []
if_none way.Sent way.Sent = refl
if_none way.Heard way.Heard = refl
if_none way.Sent way.Heard = refl
if_none way.Heard way.Sent = refl

bytes_so_far : (direction other : Way) (more : List ℕ) (w : Watch) (bytes : List ℕ) → IsSoFar direction w bytes → AllByRecursion IsGood (fold (byte_came other) w more).events
    → IsSoFar direction (fold (byte_came other) w more) (bytes ++ bytes_if direction other more)
bytes_so_far direction other [] w bytes so good = subst (IsSoFar direction w) (sym (append-nil bytes) ∙ ap (λ (t : List ℕ). bytes ++ t) (sym (if_none direction other))) so
bytes_so_far direction other (b ∷ more) w bytes so good =
    let next = byte_came other w b in
    let here = good_before next.events (fold (byte_came other) next more).events (bytes_grow other more next) good in
    subst (IsSoFar direction (fold (byte_came other) next more))
    (append_assoc bytes (bytes_if direction other (b ∷ [])) (bytes_if direction other more) ∙ ap (λ (t : List ℕ). bytes ++ t) (if_more direction other b more))
    (bytes_so_far direction other more next (bytes ++ bytes_if direction other (b ∷ [])) (byte_so_far direction other w bytes b so here) good)

pieces_so_far : (direction : Way) (pieces : List Piece) (w : Watch) (bytes : List ℕ) → IsSoFar direction w bytes → AllByRecursion IsGood (fold piece_came w pieces).events
    → IsSoFar direction (fold piece_came w pieces) (bytes ++ stream direction pieces)
pieces_so_far direction [] w bytes so good = subst (IsSoFar direction w) (sym (append-nil bytes)) so
pieces_so_far direction (p ∷ pieces) w bytes so good =
    let next = piece_came w p in
    let here = good_before next.events (fold piece_came next pieces).events (pieces_grow pieces next) good in
    subst (IsSoFar direction (fold piece_came next pieces)) (append_assoc bytes (bytes_if direction p.way p.bytes) (stream direction pieces))
    (pieces_so_far direction pieces next (bytes ++ bytes_if direction p.way p.bytes) (bytes_so_far direction p.way p.bytes w bytes so here) good)

first_so_far : (direction : Way) → IsSoFar direction no_events []
first_so_far way.Sent = record { cut = record { frames = []; cut = record { whole = refl; each = tt; end = nothing_begins MAX_PACKET }; spell = tt }; wants = none_wants }
first_so_far way.Heard = record { cut = record { frames = []; cut = record { whole = refl; each = tt; end = nothing_begins MAX_PACKET }; spell = tt }; wants = none_wants }

pub events_are_cut : (pieces : List Piece) (direction : Way) → AllByRecursion IsGood (watched pieces).events
    → AreCut (stream direction pieces) (packets direction (watched pieces).events) (held direction (watched pieces))
unfolding watched
events_are_cut pieces direction good = (pieces_so_far direction pieces no_events [] (first_so_far direction) good).cut
