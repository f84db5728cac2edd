-- What a line adds to the events that were read, and what a read adds to the bytes that were taken.
use Rattle.std.proofs.Common.{◌≡◌, ℕ, ◌+◌, ◌-◌, ◌<◌, ◌≤◌, Bool, true, false, ◌==◌, List, [], ◌∷◌, ◌++◌, length, take, drop, cond, map, get_or, count_by, Option, Some, None, Result, Ok, Err, refl, sym, ap, ◌∙◌, arith, append_assoc, Bor}
use Rattle.std.specs.List.{onto_first}
use Rattle.std.proofs.lemmas.List.{at_drop_more}
use Rattle.std.proofs.lemmas.List.Sums.{count_by-le-length, sum_by-cons}
use Rattle.std.proofs.lemmas.List.Splits.{length-slice_split}
use Rattle.mqb_outside.specs.Told.{Gave}
use Rattle.mqb_fields.specs.Reading.{◌>>=◌}
use Rattle.mqb_forms.specs.declared.faults.LineKind.{LineKind}
use Rattle.mqb_forms.specs.Faults.{behind}
use Rattle.mqb_script.specs.declared.faults.ScriptFault.{ScriptFault}
use Rattle.mqb_script.specs.declared.faults.ScriptFault.TheVariants as fault
use Rattle.mqb_script.specs.declared.grammar.Grammar.{Grammar}
use Rattle.mqb_script.specs.declared.events.Event.{Event}
use Rattle.mqb_script.specs.Script.{lines_of, numbered, script_from}
use Rattle.mqb_script.specs.Lines.{is_skipped, event_of}
use Rattle.mqb_script.specs.Reading.{begun, line_count, in_front, ReadsLine, IsScriptFault}

pushed : (n : ℕ) (event : Event) (before : List (ℕ × Event)) (r : Result (List (ℕ × Event)) (ℕ × LineKind))
    → in_front before (r >>= λ events. Ok ((n, event) ∷ events)) ≡ in_front (before ++ (n, event) ∷ []) r
pushed n event before (Ok more) = ap Ok (sym (append_assoc before ((n, event) ∷ []) more))
pushed n event before (Err first) = refl

added : (n : ℕ) (read : Result Event LineKind) (before after : List (ℕ × Event)) (r : Result (List (ℕ × Event)) (ℕ × LineKind))
    → behind (λ event. (n, event)) before read ≡ Ok after
    → in_front before (numbered n read >>= λ event. r >>= λ events. Ok ((n, event) ∷ events)) ≡ in_front after r
added n (Ok event) before after r is =
    let same : before ++ (n, event) ∷ [] ≡ after = cc in
    pushed n event before r ∙ ap (λ events. in_front events r) same
added n (Err kind) before after r is = absurd cc

faulty_line : (g : Grammar) (n : ℕ) (line : List ℕ) (first : ℕ × LineKind) (before : List (ℕ × Event)) (rest : List (List ℕ)) → is_skipped line ≡ false
    → numbered n (event_of g line) ≡ Err first → in_front before (script_from g n (line ∷ rest)) ≡ Err first
faulty_line g n line first before rest kept is = rw (kept, is) refl

pub few_lines : (text : List ℕ) → length (lines_of text) ≤ length text + 1
few_lines text =
    let parts : length (lines_of text) ≡ count_by (λ b. b == 10) text + 1 = length-slice_split (λ b. b == 10) text in
    let marks : count_by (λ b. b == 10) text ≤ length text = count_by-le-length (λ b. b == 10) text in
    omega arith

-- a byte in front of a text that begins n + 1 lines
begin_step : (b n : ℕ) (ends : Bool) (lines : List (List ℕ)) → begun lines ≡ n + 1
    → begun (cond ends ([] ∷ lines) (onto_first b lines)) ≡ (cond ends 1 0 + n) + 1
begin_step b n ends [] h = absurd (omega arith)
begin_step b n ends ([] ∷ []) h = absurd (omega arith)
begin_step b n true ([] ∷ line ∷ lines) h = omega arith
begin_step b n false ([] ∷ line ∷ lines) h = omega arith
begin_step b n true ((c ∷ cs) ∷ lines) h = omega arith
begin_step b n false ((c ∷ cs) ∷ lines) h = omega arith

-- one byte begins one line
begin_one : (b : ℕ) (ends : Bool) → begun (cond ends ([] ∷ [] ∷ []) (onto_first b ([] ∷ []))) ≡ 1
begin_one b true = refl
begin_one b false = refl

begun_from : (b : ℕ) (text : List ℕ) → line_count (b ∷ text) ≡ count_by (λ c. c == 10) (take (length text) (b ∷ text)) + 1
begun_from b [] = begin_one b (b == 10)
begun_from b (c ∷ text) =
    let front : List ℕ = take (length text) (c ∷ text) in
    begin_step b (count_by (λ d. d == 10) front) (b == 10) (lines_of (c ∷ text)) (begun_from c text)
    ∙ ap (λ n. n + 1) (sym (sum_by-cons (λ d. cond (d == 10) 1 0) b front))

-- the first line is begun, and one behind each line feed but the last byte
pub begun_lines : (text : List ℕ) → 1 ≤ length text → line_count text ≡ count_by (λ b. b == 10) (take (length text - 1) text) + 1
begun_lines [] some = absurd (omega arith)
begun_lines (b ∷ text) some = let same : length (b ∷ text) - 1 ≡ length text = omega arith in rw same (begun_from b text)

-- The lines before a place were read: the whole is their events in front of what the lines from there on give, the first of which is line n.
abbrev pub IsGathered : Grammar → Result (List (ℕ × Event)) (ℕ × LineKind) → ℕ → ℕ → List (Bor (List ℕ)) → List (ℕ × Event) → Type 0
IsGathered g whole n place lines before = whole ≡ in_front before (script_from g n (map (λ line. line.now) (drop place lines)))

pub goes_on : (g : Grammar) (whole : Result (List (ℕ × Event)) (ℕ × LineKind)) (n place : ℕ) (lines : List (Bor (List ℕ))) (before after : List (ℕ × Event))
    (d : Bor (List ℕ))
    → IsGathered g whole n place lines before → place < length lines → ReadsLine g n (get_or lines place d).now before after
    → IsGathered g whole (n + 1) (place + 1) lines after
goes_on g whole n place lines before after d read within line =
    read ∙ at_drop_more (λ rest. in_front before (script_from g n (map (λ l. l.now) rest))) lines place d within
    ∙ line (map (λ l. l.now) (drop (place + 1) lines))

stops_at : (g : Grammar) (whole : Result (List (ℕ × Event)) (ℕ × LineKind)) (n place : ℕ) (lines : List (Bor (List ℕ))) (before : List (ℕ × Event)) (d : Bor (List ℕ))
    (first : ℕ × LineKind)
    → IsGathered g whole n place lines before → place < length lines → is_skipped (get_or lines place d).now ≡ false
    → numbered n (event_of g (get_or lines place d).now) ≡ Err first
    → whole ≡ Err first
stops_at g whole n place lines before d first read within kept is =
    read ∙ at_drop_more (λ rest. in_front before (script_from g n (map (λ l. l.now) rest))) lines place d within
    ∙ faulty_line g n _ first before (map (λ l. l.now) (drop (place + 1) lines)) kept is

pub stops : (g : Grammar) (whole : Result (List (ℕ × Event)) (ℕ × LineKind)) (n place : ℕ) (lines : List (Bor (List ℕ))) (before : List (ℕ × Event))
    (d : Bor (List ℕ)) (e : ScriptFault)
    → IsGathered g whole n place lines before → place < length lines → is_skipped (get_or lines place d).now ≡ false
    → IsScriptFault (numbered n (event_of g (get_or lines place d).now)) e
    → IsScriptFault whole e
stops g whole n place lines before d (fault.Line number kind) read within kept is = stops_at g whole n place lines before d (number, kind) read within kept is
stops g whole n place lines before d fault.Memory read within kept is = tt
stops g whole n place lines before d fault.TooLong read within kept is = is
stops g whole n place lines before d fault.TooManyLines read within kept is = is
stops g whole n place lines before d fault.ReadFault read within kept is = is

pub gave_more : (first middle last : Option (List ℕ)) (text more : List ℕ) → Gave first middle text → Gave middle last more
    → Gave first last (text ++ more)
gave_more first middle None text more a b = rw (a, b) refl
gave_more first middle (Some rest) text more a b = rw (a, b) (ap Some (sym (append_assoc text more rest)))
