-- Each place, part and entry is read as it is spelled.
use Rattle.std.proofs.Common.{◌≡◌, ◌<◌, ℕ, ◌^◌, true, cond, eqb, List, [], ◌∷◌, ◌++◌, length, Result, Ok, refl, sym, ap, subst, ◌∙◌, inl, inr, arith, append_assoc}
use Rattle.mqb_fields.specs.Reading.{◌>>=◌, Reading, rest_of, moved, number_at}
use Rattle.mqb_fields.specs.Writing.{bytes_of}
use Rattle.mqb_base.specs.declared.queues.EntryPlace.{EntryPlace}
use Rattle.mqb_base.specs.declared.queues.EntryPlace.TheVariants as place
use Rattle.mqb_entries.specs.declared.entry.ArrivedPart.{ArrivedPart}
use Rattle.mqb_entries.specs.declared.entry.ArrivedPart.TheVariants as part
use Rattle.mqb_entries.specs.Fields.{field, outside, u8_at, u32_at}
use Rattle.mqb_entries.specs.Spelled.{spelled_packet, IsWord, IsPacket}
use Rattle.mqb_entries.specs.SpelledEntries.{spelled_place, spelled_part, IsPlace, IsPart}
use Rattle.mqb_entries.specs.Entries.{queue_in, place_at, heard_at, acknowledged_at, part_at}
use Rattle.mqb_entries.specs.Formats.{IsBytes, Took, IsFormat, seen, behind}
use Rattle.mqb_entries.specs.lemmas.Formats.{bind_gives, ok_same, rest_again, both_moved, map_again, field_gives, pair_format}
use Rattle.mqb_entries.specs.FieldFormats.{Spans}
use Rattle.mqb_entries.specs.lemmas.FieldFormats.{number_format, four_bytes, u8_format, u32_format, packet_format, chosen, spans, spans_both, took_of, byte_is, outside_apart}
use Rattle.mqb_entries.proofs.EntryFormats.{Fault, pair_seen}

-- what a reader made of what it read
pub record IsMade {A Y : Type 0} (spell : A → List ℕ) (Fits : A → Type 0) (to : A → Y) (r : Reading) (x : Y × Reading) : Type 0 where
  pub from : A
  pub is : x.0 ≡ to from
  pub spans : Spans r (spell from) x.1
  pub fits : Fits from

pub made : {A Y : Type 0} {read : Reading → Result (A × Reading) Fault} {spell : A → List ℕ} {Fits : A → Type 0}
    → IsFormat read spell Fits → (to : A → Y) → (r : Reading) (x : Y × Reading) → IsBytes (rest_of r) → (read r >>= seen Fault to) ≡ Ok x → IsMade spell Fits to r x
made {A = A} {Y = Y} {read = read} {spell = spell} f to r x all e =
    let step = bind_gives (read r) (seen Fault to) x e in
    let a = step.0 in
    let y : Y × Reading = (to a.0, a.1) in
    let same : y ≡ x = ok_same Fault y x step.2 in
    let s = spans r a all (f.took r a all step.1) in
    record {
      from = a.0;
      is = sym (ap (λ (z : Y × Reading). z.0) same);
      spans = subst (λ (z : Y × Reading). Spans r (spell a.0) z.1) same s;
      fits = (f.took r a all step.1).fits;
    }

-- places
place_again : (r : Reading) (at : EntryPlace) (rest : List ℕ) → IsPlace at → rest_of r ≡ spelled_place at ++ rest → place_at r ≡ Ok (at, moved (length (spelled_place at)) r)
unfolding place_at
place_again r (place.Queue n) rest fits e =
    let one = u8_format.again r 1 (bytes_of 4 n ++ rest) (omega arith) e in
    let two = (number_format 4 four_bytes).again (moved 1 r) n rest fits (rest_again r (1 ∷ []) (bytes_of 4 n ++ rest) e) in
    rw (one, two, both_moved (1 ∷ []) (bytes_of 4 n) r) refl
place_again r (place.JournalOf n) rest fits e =
    let one = u8_format.again r 2 (bytes_of 4 n ++ rest) (omega arith) e in
    let two = (number_format 4 four_bytes).again (moved 1 r) n rest fits (rest_again r (2 ∷ []) (bytes_of 4 n ++ rest) e) in
    rw (one, two, both_moved (2 ∷ []) (bytes_of 4 n) r) refl
place_again r place.Dead rest fits e = rw (u8_format.again r 3 rest (omega arith) e) refl
place_again r place.DeadXact rest fits e = rw (u8_format.again r 4 rest (omega arith) e) refl
place_again r place.Journal rest fits e = rw (u8_format.again r 5 rest (omega arith) e) refl

pub queue_format_in : (r : Reading) → IsFormat (λ middle. field r (number_at 4 middle)) (bytes_of 4) IsWord
queue_format_in r = record {
  again = λ middle n rest fits e. rw ((number_format 4 four_bytes).again middle n rest fits e) refl;
  took = λ middle x all e. (number_format 4 four_bytes).took middle x all (field_gives r (number_at 4 middle) x e);
}

-- a value behind its byte
with_code : {A Y : Type 0} {spell : A → List ℕ} {Fits : A → Type 0} (tell : Y → List ℕ) (Suits : Y → Type 0) (to : A → Y) (code : ℕ) (r : Reading) (byte : ℕ × Reading) (x : Y × Reading)
    → Spans r (bytes_of 1 code) byte.1 → IsMade spell Fits to byte.1 x → ((a : A) → tell (to a) ≡ bytes_of 1 code ++ spell a) → ((a : A) → Fits a → Suits (to a)) → Took tell Suits r x
with_code {spell = spell} tell Suits to code r byte x front m text suits =
    let s = spans_both r byte.1 x.1 (bytes_of 1 code) (spell m.from) front m.spans in
    let told : bytes_of 1 code ++ spell m.from ≡ tell x.0 = sym (ap tell m.is ∙ text m.from) in
    took_of r x (subst (λ (t : List ℕ). Spans r t x.1) told s) (subst Suits (sym m.is) (suits m.from m.fits))

abbrev pub read_one : {Y : Type 0} → Y → Reading → Result (Y × Reading) Fault
read_one y after = Ok (y, after)

-- a value that is its byte
alone : {Y : Type 0} (tell : Y → List ℕ) (Suits : Y → Type 0) (y : Y) (code : ℕ) (r : Reading) (byte : ℕ × Reading) (x : Y × Reading)
    → Spans r (bytes_of 1 code) byte.1 → read_one y byte.1 ≡ Ok x → bytes_of 1 code ≡ tell y → Suits y → Took tell Suits r x
alone {Y = Y} tell Suits y code r byte x front e text suits =
    let z : Y × Reading = (y, byte.1) in
    subst (λ (w : Y × Reading). Took tell Suits r w) (ok_same Fault z x e) (took_of r z (subst (λ (t : List ℕ). Spans r t byte.1) text front) suits)

abbrev place_in : Reading → ℕ × Reading → Result (EntryPlace × Reading) Fault
place_in r byte = cond (eqb byte.0 1) (queue_in r place.Queue byte.1)
    (cond (eqb byte.0 2) (queue_in r place.JournalOf byte.1)
    (cond (eqb byte.0 3) (read_one place.Dead byte.1)
    (cond (eqb byte.0 4) (read_one place.DeadXact byte.1)
    (cond (eqb byte.0 5) (read_one place.Journal byte.1) (outside r)))))

place_took : (r : Reading) (x : EntryPlace × Reading) → IsBytes (rest_of r) → place_at r ≡ Ok x → Took spelled_place IsPlace r x
unfolding place_at
place_took r x all e =
    let step = bind_gives (u8_at r) (place_in r) x e in
    let byte = step.0 in
    let front : (code : ℕ) → eqb byte.0 code ≡ true → Spans r (bytes_of 1 code) byte.1 = λ code is. byte_is code r byte all step.1 is in
    elim (chosen (eqb byte.0 1) _ _ (Ok x) step.2) [
      | inl one ↦ with_code spelled_place IsPlace place.Queue 1 r byte x (front 1 one.0) (made (queue_format_in r) place.Queue byte.1 x (front 1 one.0).bytes one.1) (λ n. refl) (λ n fits. fits)
      | inr not_one ↦ elim (chosen (eqb byte.0 2) _ _ (Ok x) not_one.1) [
        | inl two ↦ with_code spelled_place IsPlace place.JournalOf 2 r byte x (front 2 two.0) (made (queue_format_in r) place.JournalOf byte.1 x (front 2 two.0).bytes two.1) (λ n. refl) (λ n fits. fits)
        | inr not_two ↦ elim (chosen (eqb byte.0 3) _ _ (Ok x) not_two.1) [
          | inl three ↦ alone spelled_place IsPlace place.Dead 3 r byte x (front 3 three.0) three.1 refl tt
          | inr not_three ↦ elim (chosen (eqb byte.0 4) _ _ (Ok x) not_three.1) [
            | inl four ↦ alone spelled_place IsPlace place.DeadXact 4 r byte x (front 4 four.0) four.1 refl tt
            | inr not_four ↦ elim (chosen (eqb byte.0 5) _ _ (Ok x) not_four.1) [
              | inl five ↦ alone spelled_place IsPlace place.Journal 5 r byte x (front 5 five.0) five.1 refl tt
              | inr none ↦ absurd (outside_apart r x none.1)
            ]
          ]
        ]
      ]
    ]

pub place_format : IsFormat place_at spelled_place IsPlace
place_format = record { again = place_again; took = place_took }

-- parts
abbrev made_acknowledged : ℕ × ℕ → ArrivedPart
made_acknowledged p = part.OrderAcknowledged p.0 p.1

abbrev two_words : Reading → Result ((ℕ × ℕ) × Reading) Fault
two_words r = u32_at r >>= λ x. u32_at x.1 >>= behind Fault x.0

packet_part_again : (code : ℕ) (to : List ℕ → ArrivedPart) (r : Reading) (packet rest : List ℕ) → code < 256 ^ 1 → IsPacket packet
    → rest_of r ≡ (bytes_of 1 code ++ spelled_packet packet) ++ rest
    → (u8_at r ≡ Ok (code, moved 1 r)) × (heard_at to (moved 1 r) ≡ Ok (to packet, moved (length (bytes_of 1 code ++ spelled_packet packet)) r))
packet_part_again code to r packet rest small fits e =
    let text = e ∙ append_assoc (bytes_of 1 code) (spelled_packet packet) rest in
    let one = u8_format.again r code (spelled_packet packet ++ rest) small text in
    let two = packet_format.again (moved 1 r) packet rest fits (rest_again r (bytes_of 1 code) (spelled_packet packet ++ rest) text) in
    (one, rw two (ap (λ (after : Reading). read_one (to packet) after) (both_moved (bytes_of 1 code) (spelled_packet packet) r)))

part_again : (r : Reading) (arrived : ArrivedPart) (rest : List ℕ) → IsPart arrived → rest_of r ≡ spelled_part arrived ++ rest → part_at r ≡ Ok (arrived, moved (length (spelled_part arrived)) r)
unfolding part_at
part_again r part.Nothing rest fits e = rw (u8_format.again r 0 rest (omega arith) e) refl
part_again r (part.Decided packet) rest fits e = let both = packet_part_again 1 part.Decided r packet rest (omega arith) fits e in rw both.0 both.1
part_again r (part.Stored packet) rest fits e = let both = packet_part_again 2 part.Stored r packet rest (omega arith) fits e in rw both.0 both.1
part_again r (part.OrderAcknowledged ordinal number) rest fits e =
    let words = pair_format u32_format u32_format in
    let text = bytes_of 4 ordinal ++ bytes_of 4 number in
    let one = u8_format.again r 3 (text ++ rest) (omega arith) e in
    let two = words.again (moved 1 r) (ordinal, number) rest fits (rest_again r (3 ∷ []) (text ++ rest) e) in
    let pair : ℕ × ℕ = (ordinal, number) in
    rw one (sym (pair_seen (u32_at (moved 1 r)) (λ x. u32_at x.1) made_acknowledged)
    ∙ map_again (two_words (moved 1 r)) made_acknowledged pair (part.OrderAcknowledged ordinal number) _ two refl
    ∙ ap (λ (after : Reading). read_one (part.OrderAcknowledged ordinal number) after) (both_moved (3 ∷ []) text r))
part_again r (part.Final packet) rest fits e = let both = packet_part_again 4 part.Final r packet rest (omega arith) fits e in rw both.0 both.1

abbrev part_in : Reading → ℕ × Reading → Result (ArrivedPart × Reading) Fault
part_in r byte = cond (eqb byte.0 0) (read_one part.Nothing byte.1)
    (cond (eqb byte.0 1) (heard_at part.Decided byte.1)
    (cond (eqb byte.0 2) (heard_at part.Stored byte.1)
    (cond (eqb byte.0 3) (acknowledged_at byte.1)
    (cond (eqb byte.0 4) (heard_at part.Final byte.1) (outside r)))))

part_took : (r : Reading) (x : ArrivedPart × Reading) → IsBytes (rest_of r) → part_at r ≡ Ok x → Took spelled_part IsPart r x
unfolding part_at
part_took r x all e =
    let step = bind_gives (u8_at r) (part_in r) x e in
    let byte = step.0 in
    let front : (code : ℕ) → eqb byte.0 code ≡ true → Spans r (bytes_of 1 code) byte.1 = λ code is. byte_is code r byte all step.1 is in
    elim (chosen (eqb byte.0 0) _ _ (Ok x) step.2) [
      | inl zero_byte ↦ alone spelled_part IsPart part.Nothing 0 r byte x (front 0 zero_byte.0) zero_byte.1 refl tt
      | inr not_zero ↦ elim (chosen (eqb byte.0 1) _ _ (Ok x) not_zero.1) [
        | inl one ↦ with_code spelled_part IsPart part.Decided 1 r byte x (front 1 one.0) (made packet_format part.Decided byte.1 x (front 1 one.0).bytes one.1) (λ p. refl) (λ p fits. fits)
        | inr not_one ↦ elim (chosen (eqb byte.0 2) _ _ (Ok x) not_one.1) [
          | inl two ↦ with_code spelled_part IsPart part.Stored 2 r byte x (front 2 two.0) (made packet_format part.Stored byte.1 x (front 2 two.0).bytes two.1) (λ p. refl) (λ p fits. fits)
          | inr not_two ↦ elim (chosen (eqb byte.0 3) _ _ (Ok x) not_two.1) [
            | inl three ↦
                let read = pair_seen (u32_at byte.1) (λ y. u32_at y.1) made_acknowledged ∙ three.1 in
                with_code spelled_part IsPart made_acknowledged 3 r byte x (front 3 three.0) (made (pair_format u32_format u32_format) made_acknowledged byte.1 x (front 3 three.0).bytes read) (λ p. refl) (λ p fits. fits)
            | inr not_three ↦ elim (chosen (eqb byte.0 4) _ _ (Ok x) not_three.1) [
              | inl four ↦ with_code spelled_part IsPart part.Final 4 r byte x (front 4 four.0) (made packet_format part.Final byte.1 x (front 4 four.0).bytes four.1) (λ p. refl) (λ p fits. fits)
              | inr none ↦ absurd (outside_apart r x none.1)
            ]
          ]
        ]
      ]
    ]

pub part_format : IsFormat part_at spelled_part IsPart
part_format = record { again = part_again; took = part_took }
