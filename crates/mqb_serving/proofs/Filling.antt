-- A piece is read byte by byte, and only behind its last byte there is something to be done.
use Rattle.std.proofs.Common.{◌≡◌, ◌≤◌, ◌<◌, ◌+◌, ◌-◌, ◌==◌, ℕ, zero, suc, Bool, true, false, cond, ltb, List, [], ◌∷◌, ◌++◌, length, take, Option, None, Some, Result, Ok, Err, refl, sym, ap, subst, ◌∙◌, inl, inr, arith, length-append, append_assoc}
use Rattle.std.proofs.lemmas.Bool.{cases_lt, le-ltb, lt-ltb, ltb-true, ne_eqb}
use Rattle.std.proofs.lemmas.List.{length-take}
use Rattle.mqb_fields.specs.declared.faults.HeadFault.{HeadFault}
use Rattle.mqb_stream.specs.Cutting.{packet_size}
use Rattle.mqb_stream.specs.Framing.{Answer, Broken, Framing, Wants, Whole, by_size, end_by, fed, next, packet_end, wants_more}
use Rattle.mqb_stream.specs.Histories.{part_of}
use Rattle.mqb_stream.proofs.Filling.{end_least, end_long, end_short, held_end, same_end}
use Rattle.mqb_serving.specs.Conversations.{Conversation, answered, byte_read, count_read, holding, limited, looked_at, read_on}
use Rattle.mqb_serving.specs.Laws.{GoesOn, PiecesFillPackets}
use Rattle.mqb_serving.specs.declared.limits.TheConstants.{MAX_READ}

-- Where a packet is not whole yet.

by_wants : (f : Framing) (read : Result ℕ HeadFault) → length f.held < end_by read → 16 ≤ length f.held → wants_more (by_size f read) ≡ true
by_wants f (Ok size) less long = rw (lt-ltb (length f.held) size less) refl
by_wants f (Err fault) less long = absurd (omega (arith, less, long))

pub wants_before : (f : Framing) → length f.held < packet_end f.limit f.held → wants_more (next f) ≡ true
unfolding next
wants_before f less = elim (cases_lt (length f.held) 16) [
  | inl short ↦ rw (lt-ltb (length f.held) 16 short) refl
  | inr long ↦ rw (le-ltb (length f.held) 16 long) (by_wants f (packet_size f.limit f.held) (omega (arith, less, end_long f.limit f.held long)) long)
]

by_before : (f : Framing) (read : Result ℕ HeadFault) → wants_more (by_size f read) ≡ true → length f.held < end_by read
by_before f (Ok size) e = tested (ltb (length f.held) size) refl e
  where
    tested : (b : Bool) → ltb (length f.held) size ≡ b → wants_more (cond b (Wants (size - length f.held)) (Whole f.held)) ≡ true → length f.held < size
    tested true is e = ltb-true (length f.held) size is
    tested false is e = absurd cc
by_before f (Err fault) e = absurd cc

wanting_before : (f : Framing) → wants_more (next f) ≡ true → length f.held < packet_end f.limit f.held
unfolding next
wanting_before f e = elim (cases_lt (length f.held) 16) [
  | inl short ↦ omega (arith, short, end_short f.limit f.held short)
  | inr long ↦ omega (arith, end_long f.limit f.held long, by_before f (packet_size f.limit f.held) (ap wants_more (long_is f long) ∙ e))
]
  where
    long_is : (f : Framing) → 16 ≤ length f.held → by_size f (packet_size f.limit f.held) ≡ next f
    long_is f long = rw (le-ltb (length f.held) 16 long) refl

-- a front of what is held in the end is no whole packet
front_before : (limit : ℕ) (front more : List ℕ) → 0 < length more → length (front ++ more) ≤ packet_end limit (front ++ more) → length front < packet_end limit front
front_before limit front more some one = elim (cases_lt (length front) 16) [
  | inl short ↦ omega (arith, short, end_short limit front short)
  | inr long ↦ omega (arith, some, one, same_end limit front more long, length-append front more)
]

-- Nothing is done there.

pub answer_wants : (answer : Answer) (c : Conversation) → wants_more answer ≡ true → answered answer c ≡ c
answer_wants (Whole frame) c e = absurd cc
answer_wants (Broken fault place) c e = absurd cc
answer_wants (Wants need) c e = refl

pub limit_far : (c : Conversation) → count_read c < MAX_READ → limited c ≡ c
limit_far c less = rw (ne_eqb (count_read c) MAX_READ (λ same. absurd (omega (arith, less, same)))) refl

pub look_wants : (c : Conversation) → wants_more (next c.framing) ≡ true → count_read c < MAX_READ → looked_at c ≡ c
look_wants c wants less = ap limited (answer_wants (next c.framing) c wants) ∙ limit_far c less

byte_goes_on : (c : Conversation) (byte : ℕ) → c.end ≡ None → byte_read c byte ≡ looked_at (holding c (byte ∷ []))
byte_goes_on c byte e = rw e refl

-- bytes up to the end of the packet
pub fills : (c : Conversation) (bytes : List ℕ) → c.end ≡ None → 0 < length bytes → length (c.framing.held ++ bytes) ≤ packet_end c.framing.limit (c.framing.held ++ bytes)
    → count_read c + length bytes ≤ MAX_READ → read_on c bytes ≡ looked_at (holding c bytes)
fills c [] e some one few = absurd (omega (arith, some))
fills c (b ∷ []) e some one few = byte_goes_on c b e
fills c (b ∷ x ∷ rest) e some one few =
    let d = holding c (b ∷ []) in
    let held = c.framing.held in
    let over : (held ++ b ∷ []) ++ x ∷ rest ≡ held ++ b ∷ x ∷ rest = append_assoc held (b ∷ []) (x ∷ rest) in
    let end : length ((held ++ b ∷ []) ++ x ∷ rest) ≤ packet_end c.framing.limit ((held ++ b ∷ []) ++ x ∷ rest) =
    subst (λ (t : List ℕ). length t ≤ packet_end c.framing.limit t) (sym over) one in
    let wants = wants_before d.framing (front_before c.framing.limit (held ++ b ∷ []) (x ∷ rest) (omega arith) end) in
    let count : count_read d ≡ count_read c + 1 = omega (arith, length-append held (b ∷ [])) in
    let stays : byte_read c b ≡ d = byte_goes_on c b e ∙ look_wants d wants (omega (arith, count, few)) in
    ap (λ (d : Conversation). read_on d (x ∷ rest)) stays
    ∙ fills d (x ∷ rest) e (omega arith) end (omega (arith, count, few))
    ∙ ap (λ (t : List ℕ). looked_at (record c { framing = record c.framing { held = t } })) over

-- A piece of which the framer takes its part.

take_over : (held bytes : List ℕ) (n : ℕ) → length held ≤ n → take n (held ++ bytes) ≡ held ++ take (n - length held) bytes
take_over [] bytes n within = let same : n ≡ n - 0 = omega arith in ap (λ (k : ℕ). take k bytes) same
take_over (x ∷ held) bytes zero within = absurd (omega (arith, within))
take_over (x ∷ held) bytes (suc n) within =
    let same : n - length held ≡ suc n - suc (length held) = omega arith in
    ap (λ (t : List ℕ). x ∷ t) (take_over held bytes n (omega (arith, within)) ∙ ap (λ (k : ℕ). held ++ take k bytes) same)

take_len : (m : ℕ) (bytes : List ℕ) → take (length (take m bytes)) bytes ≡ take m bytes
take_len zero bytes = refl
take_len (suc m) [] = refl
take_len (suc m) (b ∷ bytes) = ap (λ (t : List ℕ). b ∷ t) (take_len m bytes)

-- the packet reaches behind what is held
reaches : (f : Framing) (piece : List ℕ) → wants_more (next f) ≡ true → length f.held < packet_end f.limit (f.held ++ piece)
reaches f piece wants = elim (cases_lt (length f.held) 16) [
  | inl short ↦ omega (arith, short, end_least f.limit (f.held ++ piece))
  | inr long ↦ omega (arith, wanting_before f wants, same_end f.limit f.held piece long)
]

-- what a framer takes, and what it holds then
record IsTaken (f : Framing) (piece more : List ℕ) : Type 0 where
  pub part : part_of f piece ≡ more
  pub held : fed f piece ≡ record f { held = f.held ++ more }
  pub some : 0 < length more
  pub few : length more ≤ length piece
  pub one : length (f.held ++ more) ≤ packet_end f.limit (f.held ++ more)

taken_is : (f : Framing) (piece : List ℕ) → wants_more (next f) ≡ true → 0 < length piece → IsTaken f piece (take (packet_end f.limit (f.held ++ piece) - length f.held) piece)
unfolding fed
taken_is f piece wants some =
    let n = packet_end f.limit (f.held ++ piece) in
    let more = take (n - length f.held) piece in
    let behind = reaches f piece wants in
    let over : take n (f.held ++ piece) ≡ f.held ++ more = take_over f.held piece n (omega (arith, behind)) in
    let count : length (take n (f.held ++ piece)) - length f.held ≡ length more = omega (arith, ap (λ (t : List ℕ). length t) over, length-append f.held more) in
    record {
      part = ap (λ (k : ℕ). take k piece) count ∙ take_len (n - length f.held) piece;
      held = ap (λ (t : List ℕ). record f { held = t }) over;
      some = omega (arith, length-take (n - length f.held) piece, behind, some);
      few = omega (arith, length-take (n - length f.held) piece);
      one = subst (λ (t : List ℕ). length t ≤ packet_end f.limit t) over (held_end f.limit (f.held ++ piece));
    }

pub pieces_fill_packets : PiecesFillPackets
pieces_fill_packets c piece on some few =
    let more = take (packet_end c.framing.limit (c.framing.held ++ piece) - length c.framing.held) piece in
    let taken = taken_is c.framing piece on.wants some in
    ap (read_on c) taken.part
    ∙ fills c more on.end taken.some taken.one (omega (arith, few, taken.few))
    ∙ ap (λ (f : Framing). looked_at (record c { framing = f })) (sym taken.held)
