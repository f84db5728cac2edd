-- Of all bytes the answer that is computed is said.
use Rattle.std.proofs.Common.{◌≡◌, ◌<◌, ◌≤◌, ℕ, min, Bool, true, false, not, List, [], ◌∷◌, length, Option, None, Some, Result, Ok, Err, nat_le, refl, sym, ap, subst, ◌∙◌, arith, length-take, zero-le, inl, inr, ◌⊎◌}
use Rattle.std.specs.Prelude.{◌==◌, ◌↔◌, count_by, if◌then◌else◌}
use Rattle.std.proofs.lemmas.Bool.{cases_lt, true≢false}
use Rattle.std.proofs.lemmas.List.{take_all}
use Rattle.mqb_fields.specs.Reading.{Reading, rest_of}
use Rattle.mqb_capture.specs.declared.answers.BreakCause.{BreakCause}
use Rattle.mqb_capture.specs.declared.answers.BreakCause.TheVariants as cause
use Rattle.mqb_capture.specs.declared.answers.InspectFault.{InspectFault}
use Rattle.mqb_capture.specs.declared.answers.InspectFault.TheVariants as fault
use Rattle.mqb_capture.specs.declared.answers.TheConstants.{MAX_CAPTURE}
use Rattle.mqb_capture.specs.declared.answers.Verdict.{Verdict}
use Rattle.mqb_capture.specs.declared.answers.Verdict.TheVariants as verdict
use Rattle.mqb_capture.specs.Grammar.{Begins, Head, head_at}
use Rattle.mqb_capture.specs.Events.{Bad, Event, Heard, Sent, Watch, watched}
use Rattle.mqb_capture.specs.Lawful.{AreLawful, NothingIsLeft, first_session}
use Rattle.mqb_capture.specs.Breaks.{IsFirstCause}
use Rattle.mqb_capture.specs.Verdicts.{Breaks, IsLawfulUpTo, NoHead, NoPiece, Says, is_heard, is_sent}
use Rattle.mqb_capture.specs.Judged.{Found, broken_or, first_break, judged, judged_head, judged_pieces, lawful_up_to, nothing_left, pieces_in}
use Rattle.mqb_capture.specs.Laws.{IsOfBytes}
use Rattle.mqb_capture.proofs.Exclusive.{looked, no_more, no_piece, same_stop, says_one, start}
use Rattle.mqb_capture.proofs.Sames.{Tests, tests_and, tests_as, tests_most, tests_number}
use Rattle.mqb_capture.proofs.Reading.{IsFound, found_right, head_goes, piece_tells}
use Rattle.mqb_capture.proofs.Deciding.{Finds, finds}

-- It is said, and is about the bytes.
pub record IsAnswer (bytes : List ℕ) (x : Result Verdict InspectFault) : Type 0 where
  pub said : Says bytes x
  pub of_bytes : IsOfBytes x

-- Lengths.

looked_length : (bytes : List ℕ) → length (looked bytes) ≡ min MAX_CAPTURE (length bytes)
looked_length bytes = length-take MAX_CAPTURE bytes

looked_most : (bytes : List ℕ) → length (looked bytes) ≤ MAX_CAPTURE
looked_most bytes = omega (arith, looked_length bytes)

looked_less : (bytes : List ℕ) → length (looked bytes) ≤ length bytes
looked_less bytes = omega (arith, looked_length bytes)

short_by : (bytes : List ℕ) → length (looked bytes) < MAX_CAPTURE → length bytes < MAX_CAPTURE
short_by bytes less = omega (arith, less, looked_length bytes)

all_looked : (bytes : List ℕ) → length bytes < MAX_CAPTURE → looked bytes ≡ bytes
all_looked bytes short = take_all MAX_CAPTURE bytes (omega (arith, short))

-- A packet breaks it.

no_cut : (h : Head) (before : List Event) (e : Event) → IsFirstCause h before e cause.Cut → ⊥
no_cut h before (Sent p) c = c
no_cut h before (Heard p) c = c
no_cut h before (Bad f) c = c

pub broken_said : (bytes : List ℕ) (i : ℕ) (why : BreakCause) → Breaks (looked bytes) i why → IsAnswer bytes (Ok (verdict.Broken i why))
broken_said bytes i (cause.Bad f) b = record { said = b; of_bytes = tt }
broken_said bytes i cause.Origin b = record { said = b; of_bytes = tt }
broken_said bytes i cause.Phase b = record { said = b; of_bytes = tt }
broken_said bytes i cause.Window b = record { said = b; of_bytes = tt }
broken_said bytes i cause.Stamp b = record { said = b; of_bytes = tt }
broken_said bytes i (cause.Closed why) b = record { said = b; of_bytes = tt }
broken_said bytes i cause.Link b = record { said = b; of_bytes = tt }
broken_said bytes i cause.Cut b = absurd (no_cut b.head b.breaks.before b.breaks.event b.breaks.cause)

-- None does.

less : {n : ℕ} → Tests false (MAX_CAPTURE ≤ n) → n < MAX_CAPTURE
less {n} t = by (cases_lt n MAX_CAPTURE)
  where
    by : (n < MAX_CAPTURE) ⊎ (MAX_CAPTURE ≤ n) → n < MAX_CAPTURE
    by (inl l) = l
    by (inr m) = absurd (true≢false (sym (t.passes m)))

pub tests_empty : (xs : List ℕ) → Tests (length xs == 0) (xs ≡ [])
tests_empty xs = tests_as (length xs == 0) (tests_number (length xs) 0) (none xs) (λ e. ap length e)
  where
    none : (xs : List ℕ) → length xs ≡ 0 → xs ≡ []
    none [] e = refl
    none (x ∷ xs) e = absurd (omega (arith, e))

pub tests_left : (w : Watch) → Tests (nothing_left w) (NothingIsLeft w)
tests_left w = tests_and (length w.sent == 0) (length w.heard == 0) (tests_empty w.sent) (tests_empty w.heard)

module _ (bytes : List ℕ) (h : Head) (behind : Reading) (is_head : head_at (start (looked bytes)) ≡ Ok (h, behind)) (f : Found) (found : IsFound behind f) (same : behind.bytes ≡ looked bytes) where
  begins : Begins (looked bytes) h f.pieces f.end
  begins = record { behind = behind; is_head = is_head; are_pieces = found.are }

  end_length : length f.end.bytes ≡ length (looked bytes)
  end_length = ap length (found.bytes ∙ same)

  up_to : AreLawful h (watched f.pieces).events → IsLawfulUpTo (looked bytes) f.stop
  up_to lawful = record { head = h; pieces = f.pieces; end = f.end; begins = begins; stops = found.stops; lawful = lawful }

  -- where the bytes end in no piece
  stop_at : rest_of f.end ≡ [] → f.stop ≡ length (looked bytes)
  stop_at none = same_stop f.stop (length f.end.bytes) (sym found.stops ∙ no_more f.end none) ∙ end_length

  abbrev pub said_up_to : (long whole none : Bool) → Result Verdict InspectFault
  said_up_to long whole none = if long then Err fault.TooMuch
      else if not whole then Err (fault.Capture f.stop)
      else if none then Ok (verdict.Lawful (count_by is_sent (watched f.pieces).events) (count_by is_heard (watched f.pieces).events))
      else Ok (verdict.Broken (length (watched f.pieces).events) cause.Cut)

  tells : f.stop ≤ length f.end.bytes
  tells = piece_tells f.end f.stop found.within found.stops

  too_much : AreLawful h (watched f.pieces).events → MAX_CAPTURE ≤ f.stop → IsAnswer bytes (Err fault.TooMuch)
  too_much lawful long =
      let most : f.stop ≡ MAX_CAPTURE = omega (arith, long, tells, end_length, looked_most bytes) in
      record { said = (omega (arith, long, tells, end_length, looked_less bytes), subst (λ (n : ℕ). IsLawfulUpTo (looked bytes) n) most (up_to lawful)); of_bytes = tt }

  short : (f.stop < MAX_CAPTURE) → rest_of f.end ≡ [] → length bytes < MAX_CAPTURE
  short less none = short_by bytes (omega (arith, less, stop_at none))

  good : AreLawful h (watched f.pieces).events → rest_of f.end ≡ [] → NothingIsLeft (watched f.pieces) → looked bytes ≡ bytes → length bytes < MAX_CAPTURE
      → IsAnswer bytes (Ok (verdict.Lawful (count_by is_sent (watched f.pieces).events) (count_by is_heard (watched f.pieces).events)))
  good lawful whole none all less = record {
    said = (
      less,
      record { head = h; pieces = f.pieces; end = f.end; begins = subst (λ (t : List ℕ). Begins t h f.pieces f.end) all begins; whole = whole; cut = none; lawful = lawful },
      refl,
      refl,
    );
    of_bytes = tt;
  }

  cut : AreLawful h (watched f.pieces).events → rest_of f.end ≡ [] → (NothingIsLeft (watched f.pieces) → ⊥) → looked bytes ≡ bytes → length bytes < MAX_CAPTURE
      → IsAnswer bytes (Ok (verdict.Broken (length (watched f.pieces).events) cause.Cut))
  cut lawful whole some all less = record {
    said = (
      less,
      record {
        up_to = record {
          head = h;
          pieces = f.pieces;
          end = f.end;
          begins = subst (λ (t : List ℕ). Begins t h f.pieces f.end) all begins;
          stops = found.stops ∙ ap no_piece (stop_at whole ∙ ap length all);
          lawful = lawful;
        };
        whole = whole;
        left = some;
        at = refl;
      },
    );
    of_bytes = tt;
  }

  -- what is said where nothing breaks it, by three tests
  pub none_breaks : AreLawful h (watched f.pieces).events → (long whole none : Bool) → Tests long (MAX_CAPTURE ≤ f.stop) → Tests whole (rest_of f.end ≡ []) → Tests none (NothingIsLeft (watched f.pieces))
      → IsAnswer bytes (said_up_to long whole none)
  unfolding up_to
  none_breaks lawful true whole none l w n = too_much lawful (l.holds refl)
  none_breaks lawful false false none l w n = record {
    said = NoPiece (up_to lawful) (λ e. true≢false (sym (w.passes e))) (less l);
    of_bytes = tt;
  }
  none_breaks lawful false true true l w n = good lawful (w.holds refl) (n.holds refl) (all_looked bytes (short (less l) (w.holds refl))) (short (less l) (w.holds refl))
  none_breaks lawful false true false l w n =
      cut lawful (w.holds refl) (λ e. true≢false (sym (n.passes e))) (all_looked bytes (short (less l) (w.holds refl))) (short (less l) (w.holds refl))

  -- one does, or none
  by_break : (o : Option (ℕ × BreakCause)) → Finds h (watched f.pieces).events o → IsAnswer bytes (broken_or (lawful_up_to f (watched f.pieces)) o)
  by_break (Some b) breaks = broken_said bytes b.0 b.1 (record { head = h; pieces = f.pieces; end = f.end; begins = begins; breaks = breaks })
  by_break None lawful = none_breaks lawful (nat_le MAX_CAPTURE f.stop) (length (rest_of f.end) == 0) (nothing_left (watched f.pieces))
      (tests_most MAX_CAPTURE f.stop) (tests_empty (rest_of f.end)) (tests_left (watched f.pieces))

  by_pieces : IsAnswer bytes (judged_pieces h f)
  by_pieces = by_break (first_break h [] (first_session h) (watched f.pieces).events)
      (finds h (watched f.pieces).events [] (first_session h) refl (record { run = tt; between = tt; sent = record { below = tt; fit = tt }; heard = record { below = tt; fit = tt } }))

by_head : (bytes : List ℕ) (o : Result (Head × Reading) ℕ) → head_at (start (looked bytes)) ≡ o → IsAnswer bytes (judged_head (looked bytes) o)
by_head bytes (Err at) e = record { said = NoHead e; of_bytes = tt }
by_head bytes (Ok head) e =
    let goes = head_goes (start (looked bytes)) head zero-le e in
    by_pieces bytes head.0 head.1 e (pieces_in (length (looked bytes)) head.1)
    (found_right (length (looked bytes)) head.1 goes.within (omega (arith, ap length goes.bytes))) goes.bytes

-- The answer that is computed.
pub answer_is_judged : (bytes : List ℕ) → IsAnswer bytes (judged bytes)
answer_is_judged bytes = by_head bytes (head_at (start (looked bytes))) refl

-- It is the only one.
pub is_decided : (bytes : List ℕ) (answer : Result Verdict InspectFault) → IsOfBytes answer → Says bytes answer ↔ (answer ≡ judged bytes)
is_decided bytes answer is = (
  (λ said. says_one bytes answer (judged bytes) is (answer_is_judged bytes).of_bytes said (answer_is_judged bytes).said),
  (λ e. subst (Says bytes) (sym e) (answer_is_judged bytes).said),
)
