-- A piece is taken, packet by packet.
use Rattle.std.proofs.Common.{◌≡◌, ◌≤◌, ◌<◌, ◌+◌, ◌-◌, ℕ, zero, suc, Bool, true, false, cond, ltb, List, [], ◌∷◌, ◌++◌, length, take, Option, Result, Ok, Err, refl, sym, ap, subst, ◌∙◌, inl, inr, arith, length-append, append_assoc}
use Rattle.std.proofs.lemmas.Bool.{cases_lt, le-ltb, ltb-true}
use Rattle.std.proofs.lemmas.List.{append-nil, length-take}
use Rattle.mqb_fields.specs.declared.faults.HeadFault.{HeadFault}
use Rattle.mqb_stream.specs.Cutting.{packet_size}
use Rattle.mqb_stream.specs.Framing.{Framing, Wants, Whole, advanced, by_size, end_by, fed, next, packet_end, taken_of, wants_more}
use Rattle.mqb_stream.specs.Histories.{part_of}
use Rattle.mqb_stream.proofs.Filling.{end_least, end_long, end_short, held_end, same_end}
use Rattle.mqb_serving.specs.Conversations.{Conversation, StoredManager, count_read, holding, looked_at, read_on}
use Rattle.mqb_serving.specs.Laws.{GoesOn, passed}
use Rattle.mqb_serving.specs.declared.limits.TheConstants.{MAX_READ}
use Rattle.mqb_serving.proofs.Filling.{fills, look_wants, pieces_fill_packets, wants_before}
use Rattle.mqb_model.specs.records.Record.{Record}
use Rattle.mqb_serving.specs.Serving.{Fills, Hears, heard_by, hearing}
use Rattle.mqb_serving.specs.Steps.{HearsHeld}

-- What a framer takes of a piece.

by_before : (f : Framing) (read : Result ℕ HeadFault) → wants_more (by_size f read) ≡ true → length f.held < end_by read
by_before f (Ok size) e = tested (ltb (length f.held) size) refl e
  where
    tested : (b : Bool) → ltb (length f.held) size ≡ b → wants_more (cond b (Wants (size - length f.held)) (Whole f.held)) ≡ true → length f.held < size
    tested true is e = ltb-true (length f.held) size is
    tested false is e = absurd (let wrong : ⊥ = cc in wrong)
by_before f (Err why) e = absurd (let wrong : ⊥ = cc in wrong)

long_is : (f : Framing) → 16 ≤ length f.held → by_size f (packet_size f.limit f.held) ≡ next f
unfolding next
long_is f long = rw (le-ltb (length f.held) 16 long) refl

wanting_before : (f : Framing) → wants_more (next f) ≡ true → length f.held < packet_end f.limit f.held
wanting_before f e = elim (cases_lt (length f.held) 16) [
  | inl short ↦ omega (arith, short, end_short f.limit f.held short)
  | inr long ↦ omega (arith, end_long f.limit f.held long, by_before f (packet_size f.limit f.held) (ap wants_more (long_is f long) ∙ e))
]

-- the packet reaches behind what is held
reaches : (f : Framing) (piece : List ℕ) → wants_more (next f) ≡ true → length f.held < packet_end f.limit (f.held ++ piece)
reaches f piece wants = elim (cases_lt (length f.held) 16) [
  | inl short ↦ omega (arith, short, end_least f.limit (f.held ++ piece))
  | inr long ↦ omega (arith, wanting_before f wants, same_end f.limit f.held piece long)
]

take_over : (held bytes : List ℕ) (n : ℕ) → length held ≤ n → take n (held ++ bytes) ≡ held ++ take (n - length held) bytes
take_over [] bytes n within = let same : n ≡ n - 0 = omega arith in ap (λ (k : ℕ). take k bytes) same
take_over (x ∷ held) bytes zero within = absurd (omega (arith, within))
take_over (x ∷ held) bytes (suc n) within =
    let same : n - length held ≡ suc n - suc (length held) = omega arith in
    ap (λ (t : List ℕ). x ∷ t) (take_over held bytes n (omega (arith, within)) ∙ ap (λ (k : ℕ). held ++ take k bytes) same)

take_len : (m : ℕ) (bytes : List ℕ) → take (length (take m bytes)) bytes ≡ take m bytes
take_len zero bytes = refl
take_len (suc m) [] = refl
take_len (suc m) (b ∷ bytes) = ap (λ (t : List ℕ). b ∷ t) (take_len m bytes)

-- what a framer takes, and what it holds then
pub record IsTaken (f : Framing) (piece more : List ℕ) : Type 0 where
  pub part : part_of f piece ≡ more
  pub held : fed f piece ≡ record f { held = f.held ++ more }
  pub some : 0 < length more
  pub few : length more ≤ length piece
  pub one : length (f.held ++ more) ≤ packet_end f.limit (f.held ++ more)

taken_is : (f : Framing) (piece : List ℕ) → wants_more (next f) ≡ true → 0 < length piece → IsTaken f piece (take (packet_end f.limit (f.held ++ piece) - length f.held) piece)
unfolding fed
taken_is f piece wants some =
    let n = packet_end f.limit (f.held ++ piece) in
    let more = take (n - length f.held) piece in
    let behind = reaches f piece wants in
    let over : take n (f.held ++ piece) ≡ f.held ++ more = take_over f.held piece n (omega (arith, behind)) in
    let count : length (take n (f.held ++ piece)) - length f.held ≡ length more = omega (arith, ap (λ (t : List ℕ). length t) over, length-append f.held more) in
    record {
      part = ap (λ (k : ℕ). take k piece) count ∙ take_len (n - length f.held) piece;
      held = ap (λ (t : List ℕ). record f { held = t }) over;
      some = omega (arith, length-take (n - length f.held) piece, behind, some);
      few = omega (arith, length-take (n - length f.held) piece);
      one = subst (λ (t : List ℕ). length t ≤ packet_end f.limit t) over (held_end f.limit (f.held ++ piece));
    }

-- that of the part itself
pub part_taken : (f : Framing) (piece : List ℕ) → wants_more (next f) ≡ true → 0 < length piece → IsTaken f piece (part_of f piece)
part_taken f piece wants some = let t = taken_is f piece wants some in subst (λ (more : List ℕ). IsTaken f piece more) (sym t.part) t

-- how many bytes it takes
pub record IsCounted (f : Framing) (piece : List ℕ) (count : ℕ) : Type 0 where
  pub part : take count piece ≡ part_of f piece
  pub some : 0 < count
  pub within : count ≤ length piece
  pub held : length (fed f piece).held ≡ length f.held + count

pub counted : (f : Framing) (piece : List ℕ) (count : ℕ) → wants_more (next f) ≡ true → 0 < length piece → count ≡ length (fed f piece).held - length f.held → IsCounted f piece count
counted f piece count wants some is =
    let t = part_taken f piece wants some in
    let held : length (fed f piece).held ≡ length f.held + length (part_of f piece) = ap (λ (g : Framing). length g.held) t.held ∙ length-append f.held (part_of f piece) in
    record {
      part = ap (λ (k : ℕ). take k piece) is;
      some = omega (arith, is, held, t.some);
      within = omega (arith, is, held, t.few);
      held = omega (arith, is, held);
    }

-- A packet that is heard of what is held then is heard of the part.

front_before : (limit : ℕ) (front more : List ℕ) → 0 < length more → length (front ++ more) ≤ packet_end limit (front ++ more) → length front < packet_end limit front
front_before limit front more some one = elim (cases_lt (length front) 16) [
  | inl short ↦ omega (arith, short, end_short limit front short)
  | inr long ↦ omega (arith, some, one, same_end limit front more long, length-append front more)
]

-- a front of the part is held
front_held : (d : Conversation) (front more : List ℕ) → GoesOn d → 0 < length more → length (d.framing.held ++ (front ++ more)) ≤ packet_end d.framing.limit (d.framing.held ++ (front ++ more))
    → count_read d + length (front ++ more) ≤ MAX_READ → read_on d front ≡ holding d front
front_held d [] more on some one few = ap (λ (t : List ℕ). record d { framing = record d.framing { held = t } }) (sym (append-nil d.framing.held))
front_held d (x ∷ front) more on some one few =
    let held = d.framing.held in
    let bytes = x ∷ front in
    let over : held ++ (bytes ++ more) ≡ (held ++ bytes) ++ more = sym (append_assoc held bytes more) in
    let within : length ((held ++ bytes) ++ more) ≤ packet_end d.framing.limit ((held ++ bytes) ++ more) =
    subst (λ (t : List ℕ). length t ≤ packet_end d.framing.limit t) over one in
    let before : length (held ++ bytes) < packet_end d.framing.limit (held ++ bytes) = front_before d.framing.limit (held ++ bytes) more some within in
    let wants = wants_before (holding d bytes).framing before in
    let count : count_read (holding d bytes) ≡ count_read d + length bytes = omega (arith, length-append held bytes) in
    fills d bytes on.end (omega arith) (omega (arith, before)) (omega (arith, few, length-append bytes more))
    ∙ look_wants (holding d bytes) wants (omega (arith, count, few, some, length-append bytes more))

-- a list with a last member
record IsSnoc (bytes : List ℕ) : Type 0 where
  pub front : List ℕ
  pub last : ℕ
  pub is : bytes ≡ front ++ last ∷ []

snoc : (bytes : List ℕ) → 0 < length bytes → IsSnoc bytes
snoc [] some = absurd (omega (arith, some))
snoc (x ∷ []) some = record { front = []; last = x; is = refl }
snoc (x ∷ y ∷ rest) some = let s = snoc (y ∷ rest) (omega arith) in record { front = x ∷ s.front; last = s.last; is = ap (λ (t : List ℕ). x ∷ t) s.is }

module _ (d : Conversation) (piece : List ℕ) (on : GoesOn d) (some : 0 < length piece) (few : count_read d + length piece ≤ MAX_READ) where
  abbrev part : List ℕ
  part = part_of d.framing piece

  taken : IsTaken d.framing piece (part_of d.framing piece)
  taken = part_taken d.framing piece on.wants some

  -- as the framer holds the part
  abbrev pub filled : Conversation
  filled = record d { framing = fed d.framing piece }

  pub part_read : read_on d (part_of d.framing piece) ≡ looked_at (record d { framing = fed d.framing piece })
  part_read = pieces_fill_packets d piece on some few

  pub held_part : (by : StoredManager) (entry : Option Record) (from : Conversation) → HearsHeld (record d { framing = fed d.framing piece }) by entry from → Hears d (part_of d.framing piece) by entry from
  held_part by entry from h = record {
    front = s.front;
    byte = s.last;
    packet = h.packet;
    begins = ([], s.is ∙ sym (append-nil (s.front ++ s.last ∷ [])));
    fills = subst (λ (e : Conversation). Fills e s.last h.packet) (sym front)
        (record { end = on.end; frame = h.frame; whole = ap next framing ∙ h.whole; spells = h.spells });
    manager = h.manager ∙ sym (ap (λ (e : Conversation). e.stored) front);
    comes_to = ap (λ (e : Conversation). heard_by e h.packet) front ∙ h.comes_to;
    heard = h.heard ∙ ap (λ (f : Framing). hearing (record d { framing = advanced f }) h.packet) (sym framing)
        ∙ ap (λ (e : Conversation). hearing (passed e (s.last ∷ [])) h.packet) (sym front);
  }
    where
      s : IsSnoc (part_of d.framing piece)
      s = snoc (part_of d.framing piece) taken.some

      one : length (d.framing.held ++ (s.front ++ s.last ∷ [])) ≤ packet_end d.framing.limit (d.framing.held ++ (s.front ++ s.last ∷ []))
      one = subst (λ (t : List ℕ). length (d.framing.held ++ t) ≤ packet_end d.framing.limit (d.framing.held ++ t)) s.is taken.one

      front : read_on d s.front ≡ holding d s.front
      front = front_held d s.front (s.last ∷ []) on (omega arith) one (omega (arith, few, taken.few, ap (λ (t : List ℕ). length t) s.is))

      framing : (holding (holding d s.front) (s.last ∷ [])).framing ≡ fed d.framing piece
      framing = ap (λ (t : List ℕ). record d.framing { held = t }) (append_assoc d.framing.held s.front (s.last ∷ []) ∙ ap (λ (t : List ℕ). d.framing.held ++ t) (sym s.is)) ∙ sym taken.held

-- The code's count is that of the framer.
pub fed_counted : (f g : Framing) (piece : List ℕ) (count : ℕ) → wants_more (next f) ≡ true → 0 < length piece → Ok count ≡ taken_of f piece → g ≡ fed f piece → IsCounted f piece count
fed_counted f g piece count wants some answer is =
    let e : Ok count ≡ Ok (length (fed f piece).held - length f.held) = answer ∙ ap (λ (b : Bool). cond b (Ok (length (fed f piece).held - length f.held)) (Err (record {}))) wants in
    counted f piece count wants some (let same : count ≡ length (fed f piece).held - length f.held = cc in same)
