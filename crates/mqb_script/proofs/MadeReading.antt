-- The lines of events are read one after another.
use Rattle.std.proofs.Common.{◌≡◌, ◌+◌, ◌≤◌, Bool, cond, List, [], ◌∷◌, ◌++◌, append_assoc, arith, length, refl, ap, ◌∙◌, ℕ, true, false}
use Rattle.std.proofs.lemmas.List.Elements.{All-from_recursion}
use Rattle.std.proofs.lemmas.List.Splits.{slice_split_at}
use Rattle.std.proofs.lemmas.Bool.Decides.{nat_tests}
use Rattle.std.specs.List.{AllByRecursion, flat_map, list_all}
use Rattle.std.specs.Prelude.{Err, Ok, ◌==◌, ◌&&◌, map}
use Rattle.mqb_forms.specs.declared.faults.LineKind.TheVariants.{Byte}
use Rattle.mqb_script.specs.Lines.{event_of, event_of_words, is_printable, is_skipped, words_of}
use Rattle.mqb_script.specs.Reading.{begun}
use Rattle.mqb_script.specs.Script.{lines_of, script_from}
use Rattle.mqb_script.specs.Spelling.{IsSpelled, line_of}
use Rattle.mqb_script.specs.declared.events.Event.{Event}
use Rattle.mqb_script.specs.declared.grammar.Grammar.TheVariants.{Pair}

-- the text of events, a line each
abbrev pub text_of : List Event → List ℕ
text_of es = flat_map (λ e. line_of Pair e ++ 10 ∷ []) es

-- events with the numbers of their lines
abbrev pub counted_from : ℕ → List Event → List (ℕ × Event)
counted_from n [] = []
counted_from n (e ∷ es) = (n, e) ∷ counted_from (n + 1) es

pub events_in : (n : ℕ) (es : List Event) → map (λ (line : ℕ × Event). line.1) (counted_from n es) ≡ es
events_in n [] = refl
events_in n (e ∷ es) = ap (λ (fs : List Event). e ∷ fs) (events_in (n + 1) es)

-- what is printable has no line feed
no_feed : (b : ℕ) → is_printable b ≡ true → (b == 10) ≡ false
no_feed b is = grind (arith, nat_tests)

both : (x y : Bool) → (x && y) ≡ true → (x ≡ true) × (y ≡ true)
both true true is = (refl, refl)
both true false is = absurd (let none : ⊥ = cc in none)
both false y is = absurd (let none : ⊥ = cc in none)

none_feed : (bs : List ℕ) → list_all is_printable bs ≡ true → AllByRecursion (λ b. (b == 10) ≡ false) bs
none_feed [] is = tt
none_feed (b ∷ bs) is = let two = both (is_printable b) (list_all is_printable bs) is in (no_feed b two.0, none_feed bs two.1)

-- a line that is an event is printable
printable : (line : List ℕ) (e : Event) → event_of Pair line ≡ Ok e → list_all is_printable line ≡ true
unfolding event_of
printable line e is = at (list_all is_printable line) refl is
  where
    at : (t : Bool) → list_all is_printable line ≡ t → cond t (event_of_words Pair (words_of line)) (Err Byte) ≡ Ok e → list_all is_printable line ≡ true
    at true same is = same
    at false same is = absurd (let none : ⊥ = cc in none)

-- The law of lines.
pub record ReadBack : Type 0 where
  pub kept : (e : Event) → IsSpelled Pair e → is_skipped (line_of Pair e) ≡ false
  pub event : (e : Event) → IsSpelled Pair e → event_of Pair (line_of Pair e) ≡ Ok e

module _ (law : ReadBack) where
  -- the first line is cut off
  cut : (e : Event) (rest : List ℕ) → IsSpelled Pair e → lines_of ((line_of Pair e ++ 10 ∷ []) ++ rest) ≡ line_of Pair e ∷ lines_of rest
  cut e rest spelled = ap lines_of (append_assoc (line_of Pair e) (10 ∷ []) rest)
      ∙ slice_split_at (λ (b : ℕ). b == 10) (line_of Pair e) 10 rest
      (All-from_recursion (λ (b : ℕ). (b == 10) ≡ false) (line_of Pair e) (none_feed (line_of Pair e) (printable (line_of Pair e) e (law.event e spelled)))) refl

  -- an event and those behind it
  first_read : (n : ℕ) (line : List ℕ) (lines : List (List ℕ)) (e : Event) (es : List (ℕ × Event)) → is_skipped line ≡ false → event_of Pair line ≡ Ok e → script_from Pair (n + 1) lines ≡ Ok es
      → script_from Pair n (line ∷ lines) ≡ Ok ((n, e) ∷ es)
  first_read n line lines e es kept is rest = rw (kept, is, rest) refl

  pub all_read : (n : ℕ) (es : List Event) → AllByRecursion (IsSpelled Pair) es → script_from Pair n (lines_of (text_of es)) ≡ Ok (counted_from n es)
  all_read n [] spelled = refl
  all_read n (e ∷ es) spelled = ap (script_from Pair n) (cut e (text_of es) spelled.0)
      ∙ first_read n (line_of Pair e) (lines_of (text_of es)) e (counted_from (n + 1) es) (law.kept e spelled.0) (law.event e spelled.0) (all_read (n + 1) es spelled.1)

  -- as many lines as events, and what is behind the last one
  pub lines_counted : (es : List Event) → AllByRecursion (IsSpelled Pair) es → length (lines_of (text_of es)) ≡ length es + 1
  lines_counted [] spelled = refl
  lines_counted (e ∷ es) spelled = ap length (cut e (text_of es) spelled.0) ∙ (let rest = lines_counted es spelled.1 in omega (arith, rest))

-- no more lines are begun than there are parts
pub begun_few : (lines : List (List ℕ)) → begun lines ≤ length lines
begun_few [] = omega arith
begun_few ([] ∷ []) = omega arith
begun_few ([] ∷ m ∷ lines) = let rest = begun_few (m ∷ lines) in omega (arith, rest)
begun_few ((b ∷ bs) ∷ lines) = let rest = begun_few lines in omega (arith, rest)
