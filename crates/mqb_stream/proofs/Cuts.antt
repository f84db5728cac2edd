-- Bytes are cut in one way, and a framer cuts them so.
use Rattle.std.proofs.Common.{◌≡◌, ◌≤◌, ◌<◌, ℕ, zero, suc, ◌-◌, Bool, true, false, cond, ltb, List, [], ◌∷◌, ◌++◌, length, take, drop, Result, Ok, Err, refl, sym, ap, subst, ◌∙◌, inl, inr, append_assoc, arith, length-append}
use Rattle.std.specs.Prelude.{fold}
use Rattle.std.specs.List.{AllByRecursion}
use Rattle.std.proofs.lemmas.Bool.{cases_lt, ltb-false, le-ltb, lt-ltb}
use Rattle.std.proofs.lemmas.List.{take_at, drop_at, append-nil, flat_map_more}
use Rattle.mqb_fields.specs.declared.faults.HeadFault.{HeadFault}
use Rattle.mqb_stream.specs.Cutting.{packet_size, IsFrame, BeginsNoFrame, CutsInto, joined}
use Rattle.mqb_stream.specs.Framing.{Framing, Answer, Whole, Broken, Wants, by_size, next, wants_more, packet_end, end_by, fed}
use Rattle.mqb_stream.specs.Histories.{Step, Feed, Advance, History, start, part_of, after_advance, after, history, IsAnswerOf}
use Rattle.mqb_stream.proofs.Filling.{same_size, size_is, end_long, end_least, same_end, held_end}

abbrev read_as : ℕ → Result ℕ HeadFault
read_as n = Ok n

same_number : (m n : ℕ) → read_as m ≡ read_as n → m ≡ n
same_number m n e = cc

-- a frame at the front of bytes tells their size
frame_size : (limit : ℕ) (frame rest : List ℕ) → IsFrame limit frame → packet_size limit (frame ++ rest) ≡ read_as (length frame)
frame_size limit frame rest is = same_size limit frame rest (size_is limit frame (length frame) is).head ∙ is

-- the frames one after another, and the rest, from an equation of the bytes
one_way : (limit : ℕ) (frames others : List (List ℕ)) (rest end : List ℕ) → joined frames ++ rest ≡ joined others ++ end
    → AllByRecursion (IsFrame limit) frames → AllByRecursion (IsFrame limit) others → BeginsNoFrame limit rest → BeginsNoFrame limit end → (frames ≡ others) × (rest ≡ end)
one_way limit [] [] rest end e each all none no_more = (refl, e)
one_way limit [] (y ∷ others) rest end e each all none no_more = absurd (none y (joined others ++ end) (e ∙ append_assoc y (joined others) end) all.0)
one_way limit (x ∷ frames) [] rest end e each all none no_more = absurd (no_more x (joined frames ++ rest) (sym e ∙ append_assoc x (joined frames) rest) each.0)
one_way limit (x ∷ frames) (y ∷ others) rest end e each all none no_more =
    let a = joined frames ++ rest in
    let b = joined others ++ end in
    let both : x ++ a ≡ y ++ b = sym (append_assoc x (joined frames) rest) ∙ e ∙ append_assoc y (joined others) end in
    let size : length x ≡ length y = same_number (length x) (length y) (sym (frame_size limit x a each.0) ∙ ap (packet_size limit) both ∙ frame_size limit y b all.0) in
    let first : x ≡ y = sym (take_at x a (length x) refl) ∙ ap (take (length x)) both ∙ take_at y b (length x) (sym size) in
    let behind : a ≡ b = sym (drop_at x a (length x) refl) ∙ ap (drop (length x)) both ∙ drop_at y b (length x) (sym size) in
    let later = one_way limit frames others rest end behind each.1 all.1 none no_more in
    (ap (λ (z : List ℕ). z ∷ frames) first ∙ ap (λ (zs : List (List ℕ)). y ∷ zs) later.0, later.1)

pub cut_once : (limit : ℕ) (bytes rest end : List ℕ) (frames others : List (List ℕ)) → CutsInto limit bytes frames rest → CutsInto limit bytes others end → (frames ≡ others) × (rest ≡ end)
cut_once limit bytes rest end frames others c d = one_way limit frames others rest end (sym c.whole ∙ d.whole) c.each d.each c.end d.end

-- lists
take_over : (held bytes : List ℕ) (n : ℕ) → length held ≤ n → take n (held ++ bytes) ≡ held ++ take (n - length held) bytes
take_over [] bytes n within = let same : n ≡ n - 0 = omega arith in ap (λ (k : ℕ). take k bytes) same
take_over (x ∷ held) bytes zero within = absurd (omega (arith, within))
take_over (x ∷ held) bytes (suc n) within =
    let same : n - length held ≡ suc n - suc (length held) = omega arith in
    ap (λ (t : List ℕ). x ∷ t) (take_over held bytes n (omega (arith, within)) ∙ ap (λ (k : ℕ). held ++ take k bytes) same)

take_len : (m : ℕ) (bytes : List ℕ) → take (length (take m bytes)) bytes ≡ take m bytes
take_len zero bytes = refl
take_len (suc m) [] = refl
take_len (suc m) (b ∷ bytes) = ap (λ (t : List ℕ). b ∷ t) (take_len m bytes)

all_more : (limit : ℕ) (frames : List (List ℕ)) (frame : List ℕ) → AllByRecursion (IsFrame limit) frames → IsFrame limit frame → AllByRecursion (IsFrame limit) (frames ++ frame ∷ [])
all_more limit [] frame each is = (is, tt)
all_more limit (x ∷ frames) frame each is = (each.0, all_more limit frames frame each.1 is)

-- what holds of each history
pub record IsRun (h : History) : Type 0 where
  pub least : 20 ≤ h.framing.limit
  pub whole : h.taken ≡ joined h.frames ++ h.framing.held
  pub each : AllByRecursion (IsFrame h.framing.limit) h.frames
  pub place : h.framing.place ≡ length (joined h.frames)
  pub one_packet : length h.framing.held ≤ packet_end h.framing.limit h.framing.held

-- what is answered
short_wants : (f : Framing) → length f.held < 16 → next f ≡ Wants (16 - length f.held)
unfolding next
short_wants f short = rw (lt-ltb (length f.held) 16 short) refl

long_by : (f : Framing) → 16 ≤ length f.held → next f ≡ by_size f (packet_size f.limit f.held)
unfolding next
long_by f long = rw (le-ltb (length f.held) 16 long) refl

sized_whole : (f : Framing) (size : ℕ) → packet_size f.limit f.held ≡ Ok size → size ≤ length f.held → next f ≡ Whole f.held
sized_whole f size read within =
    let long = (size_is f.limit f.held size read).head in
    long_by f long ∙ ap (by_size f) read ∙ ap (λ (b : Bool). cond b (Wants (size - length f.held)) (Whole f.held)) (le-ltb (length f.held) size within)

whole_apart : (f : Framing) (answer : Answer) → next f ≡ answer → wants_more answer ≡ true → next f ≡ Whole f.held → ⊥
whole_apart f (Whole bytes) e wants is = absurd cc
whole_apart f (Broken fault place) e wants is = absurd cc
whole_apart f (Wants need) e wants is = cc

broken_apart : (f : Framing) (fault : HeadFault) (place : ℕ) → next f ≡ Broken fault place → next f ≡ Whole f.held → ⊥
broken_apart f fault place e is = cc

-- a frame that begins the bytes that are held waits
front_waits : (f : Framing) (front back : List ℕ) → f.held ≡ front ++ back → IsFrame f.limit front → next f ≡ Whole f.held
front_waits f front back e is =
    let size : packet_size f.limit f.held ≡ Ok (length front) = ap (packet_size f.limit) e ∙ frame_size f.limit front back is in
    sized_whole f (length front) size (omega (arith, ap (λ (t : List ℕ). length t) e, length-append front back))

by_whole : (f : Framing) (read : Result ℕ HeadFault) (bytes : List ℕ) → packet_size f.limit f.held ≡ read → by_size f read ≡ Whole bytes → length f.held ≤ end_by read
    → (bytes ≡ f.held) × IsFrame f.limit f.held
by_whole f (Ok size) bytes read e within = test_whole (ltb (length f.held) size) refl e
  where
    test_whole : (b : Bool) → ltb (length f.held) size ≡ b → cond b (Wants (size - length f.held)) (Whole f.held) ≡ Whole bytes → (bytes ≡ f.held) × IsFrame f.limit f.held
    test_whole true is e = absurd cc
    test_whole false is e = (cc, read ∙ ap read_as (omega (arith, ltb-false (length f.held) size is, within)))
by_whole f (Err fault) bytes read e within = absurd cc

whole_is : (f : Framing) (bytes : List ℕ) → length f.held ≤ packet_end f.limit f.held → next f ≡ Whole bytes → (bytes ≡ f.held) × IsFrame f.limit f.held
whole_is f bytes within e = elim (cases_lt (length f.held) 16) [
  | inl short ↦ absurd (apart f bytes (short_wants f short) e)
  | inr long ↦ by_whole f (packet_size f.limit f.held) bytes refl (sym (long_by f long) ∙ e) (omega (arith, within, end_long f.limit f.held long))
]
  where
    apart : (f : Framing) (bytes : List ℕ) → next f ≡ Wants (16 - length f.held) → next f ≡ Whole bytes → ⊥
    apart f bytes wants whole = cc

by_broken : (f : Framing) (read : Result ℕ HeadFault) (fault : HeadFault) (place : ℕ) → packet_size f.limit f.held ≡ read → by_size f read ≡ Broken fault place
    → (packet_size f.limit f.held ≡ Err fault) × (place ≡ f.place)
by_broken f (Ok size) fault place read e = test_broken (ltb (length f.held) size) e
  where
    test_broken : (b : Bool) → cond b (Wants (size - length f.held)) (Whole f.held) ≡ Broken fault place → (packet_size f.limit f.held ≡ Err fault) × (place ≡ f.place)
    test_broken true e = absurd cc
    test_broken false e = absurd cc
by_broken f (Err other) fault place read e = (read ∙ cc, cc)

broken_is : (f : Framing) (fault : HeadFault) (place : ℕ) → next f ≡ Broken fault place → (packet_size f.limit f.held ≡ Err fault) × (place ≡ f.place)
broken_is f fault place e = elim (cases_lt (length f.held) 16) [
  | inl short ↦ absurd (apart f fault place (short_wants f short) e)
  | inr long ↦ by_broken f (packet_size f.limit f.held) fault place refl (sym (long_by f long) ∙ e)
]
  where
    apart : (f : Framing) (fault : HeadFault) (place : ℕ) → next f ≡ Wants (16 - length f.held) → next f ≡ Broken fault place → ⊥
    apart f fault place wants broken = cc

-- a feed keeps a run
still_within : (f : Framing) (bytes : List ℕ) → length f.held ≤ packet_end f.limit f.held → length f.held ≤ packet_end f.limit (f.held ++ bytes)
still_within f bytes one = elim (cases_lt (length f.held) 16) [
  | inl short ↦ omega (arith, short, end_least f.limit (f.held ++ bytes))
  | inr long ↦ omega (arith, one, same_end f.limit f.held bytes long)
]

fed_run : (h : History) (bytes : List ℕ) → IsRun h
    → IsRun (record { framing = fed h.framing bytes; taken = h.taken ++ part_of h.framing bytes; frames = h.frames })
unfolding fed
fed_run h bytes run =
    let held = h.framing.held in
    let limit = h.framing.limit in
    let stream = held ++ bytes in
    let n = packet_end limit stream in
    let more = take (n - length held) bytes in
    let over : take n stream ≡ held ++ more = take_over held bytes n (still_within h.framing bytes run.one_packet) in
    let count : length (take n stream) - length held ≡ length more = omega (arith, ap (λ (t : List ℕ). length t) over, length-append held more) in
    let part : take (length (take n stream) - length held) bytes ≡ more = ap (λ (k : ℕ). take k bytes) count ∙ take_len (n - length held) bytes in
    record {
      least = run.least;
      whole = ap (λ (t : List ℕ). h.taken ++ t) part ∙ ap (λ (t : List ℕ). t ++ more) run.whole ∙ append_assoc (joined h.frames) held more
          ∙ ap (λ (t : List ℕ). joined h.frames ++ t) (sym over);
      each = run.each;
      place = run.place;
      one_packet = held_end limit stream;
    }

feed_run : (h : History) (bytes : List ℕ) (b : Bool) → IsRun h
    → IsRun (cond b (record { framing = fed h.framing bytes; taken = h.taken ++ part_of h.framing bytes; frames = h.frames }) h)
feed_run h bytes true run = fed_run h bytes run
feed_run h bytes false run = run

-- so does an advance
joined_more : (frames : List (List ℕ)) (frame : List ℕ) → joined frames ++ frame ≡ joined (frames ++ frame ∷ [])
joined_more frames frame = flat_map_more (λ (t : List ℕ). t) [] frames frame

advance_run : (h : History) (answer : Answer) → IsRun h → next h.framing ≡ answer → IsRun (after_advance h answer)
advance_run h (Whole bytes) run e =
    let is = whole_is h.framing bytes run.one_packet e in
    let frame : IsFrame h.framing.limit bytes = subst (IsFrame h.framing.limit) (sym is.0) is.1 in
    let taken : h.taken ≡ joined (h.frames ++ bytes ∷ []) = run.whole ∙ ap (λ (t : List ℕ). joined h.frames ++ t) (sym is.0) ∙ joined_more h.frames bytes in
    record {
      least = run.least;
      whole = taken ∙ sym (append-nil (joined (h.frames ++ bytes ∷ [])));
      each = all_more h.framing.limit h.frames bytes run.each frame;
      place = omega (arith, run.place, ap (λ (t : List ℕ). length t) (joined_more h.frames bytes), length-append (joined h.frames) bytes, ap (λ (t : List ℕ). length t) is.0);
      one_packet = omega (arith, end_least h.framing.limit []);
    }
advance_run h (Broken fault place) run e = run
advance_run h (Wants need) run e = run

step_run : (h : History) (step : Step) → IsRun h → IsRun (after h step)
step_run h (Feed bytes) run = feed_run h bytes (wants_more (next h.framing)) run
step_run h Advance run = advance_run h (next h.framing) run refl

all_run : (h : History) (steps : List Step) → IsRun h → IsRun (fold after h steps)
all_run h [] run = run
all_run h (step ∷ steps) run = all_run (after h step) steps (step_run h step run)

history_run : (limit room : ℕ) (steps : List Step) → 20 ≤ limit → IsRun (history limit room steps)
history_run limit room steps least = all_run (start limit room) steps (record { least = least; whole = refl; each = tt; place = refl; one_packet = omega (arith, end_least limit []) })

-- the limit stays
feed_limit : (h : History) (bytes : List ℕ) (b : Bool)
    → (cond b (record { framing = fed h.framing bytes; taken = h.taken ++ part_of h.framing bytes; frames = h.frames }) h).framing.limit ≡ h.framing.limit
unfolding fed
feed_limit h bytes true = refl
feed_limit h bytes false = refl

advance_limit : (h : History) (answer : Answer) → (after_advance h answer).framing.limit ≡ h.framing.limit
advance_limit h (Whole bytes) = refl
advance_limit h (Broken fault place) = refl
advance_limit h (Wants need) = refl

step_limit : (h : History) (step : Step) → (after h step).framing.limit ≡ h.framing.limit
step_limit h (Feed bytes) = feed_limit h bytes (wants_more (next h.framing))
step_limit h Advance = advance_limit h (next h.framing)

same_limit : (limit : ℕ) (h : History) (steps : List Step) → h.framing.limit ≡ limit → (fold after h steps).framing.limit ≡ limit
same_limit limit h [] e = e
same_limit limit h (step ∷ steps) e = same_limit limit (after h step) steps (step_limit h step ∙ e)

-- answers
nothing_begins : (limit : ℕ) → BeginsNoFrame limit []
nothing_begins limit front back e is =
    let none = ap (λ (t : List ℕ). length t) e in
    absurd (omega (arith, none, length-append front back, (size_is limit front (length front) is).head))

answer_run : (h : History) (answer : Answer) → IsRun h → next h.framing ≡ answer → IsAnswerOf h answer
answer_run h (Whole bytes) run e =
    let next_run = advance_run h (Whole bytes) run e in
    record { whole = next_run.whole; each = next_run.each; end = nothing_begins h.framing.limit }
answer_run h (Broken fault place) run e =
    let is = broken_is h.framing fault place e in
    (record { whole = run.whole; each = run.each; end = λ front back parts frame. broken_apart h.framing fault place e (front_waits h.framing front back parts frame) }, is.0, is.1 ∙ run.place)
answer_run h (Wants need) run e =
    record { whole = run.whole; each = run.each; end = λ front back parts frame. whole_apart h.framing (Wants need) e refl (front_waits h.framing front back parts frame) }

pub answer_is_cut : (limit room : ℕ) (steps : List Step) → 20 ≤ limit → IsAnswerOf (history limit room steps) (next (history limit room steps).framing)
answer_is_cut limit room steps least = answer_run (history limit room steps) (next (history limit room steps).framing) (history_run limit room steps least) refl

wants_cut : (h : History) (answer : Answer) → wants_more answer ≡ true → IsAnswerOf h answer → CutsInto h.framing.limit h.taken h.frames h.framing.held
wants_cut h (Whole bytes) wants is = absurd cc
wants_cut h (Broken fault place) wants is = absurd cc
wants_cut h (Wants need) wants is = is

pub same_packets : (limit room : ℕ) (steps others : List Step) → 20 ≤ limit
    → wants_more (next (history limit room steps).framing) ≡ true → wants_more (next (history limit room others).framing) ≡ true
    → (history limit room steps).taken ≡ (history limit room others).taken
    → ((history limit room steps).frames ≡ (history limit room others).frames) × ((history limit room steps).framing.held ≡ (history limit room others).framing.held)
same_packets limit room steps others least wants more same =
    let h = history limit room steps in
    let g = history limit room others in
    let one = wants_cut h (next h.framing) wants (answer_is_cut limit room steps least) in
    let two = wants_cut g (next g.framing) more (answer_is_cut limit room others least) in
    let first = subst (λ (n : ℕ). CutsInto n h.taken h.frames h.framing.held) (same_limit limit (start limit room) steps refl) one in
    let second = subst (λ (n : ℕ). CutsInto n g.taken g.frames g.framing.held) (same_limit limit (start limit room) others refl) two in
    cut_once limit h.taken h.framing.held g.framing.held h.frames g.frames first (subst (λ (t : List ℕ). CutsInto limit t g.frames g.framing.held) (sym same) second)
