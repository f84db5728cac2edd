-- A replay of a script whose packets fit the medium ends as done, where no device fails that must not and memory is left.
use Rattle.std.proofs.Common.{◌≡◌, ◌+◌, ◌<◌, ◌≤◌, ◌⊎◌, List, [], ◌∷◌, ◌++◌, Option, Some, append_assoc, arith, inl, inr, length, refl, sym, ap, subst, ◌∙◌, ℕ}
use Rattle.std.proofs.lemmas.List.{map-append}
use Rattle.std.proofs.lemmas.List.Sums.{sum_by-append, sum_by-cons}
use Rattle.std.specs.Prelude.{Err, IsTrue, Ok, Result, map}
use Rattle.mqb_outside.specs.Disk.{View}
use Rattle.mqb_outside.specs.Images.{Each}
use Rattle.mqb_network.specs.Choices.{Well}
use Rattle.mqb_network.specs.Courses.{Course}
use Rattle.mqb_network.specs.Events as network
use Rattle.mqb_network.specs.Runs.{Move, after_run, answer, beginning, may}
use Rattle.mqb_outside.specs.Faults.{Rose}
use Rattle.mqb_outside.specs.Strings.{bytes_in}
use Rattle.mqb_outside.specs.Told.{Gave}
use Rattle.mqb_packet.specs.Plain.{plain_spelling}
use Rattle.mqb_packet.specs.declared.packet.Packet.{Packet}
use Rattle.mqb_posts.specs.declared.posting.TheConstants.{MAX_MEDIUM}
use Rattle.mqb_world.specs.mqb_runs.Events.{event_of}
use Rattle.mqb_world.specs.mqb_runs.Hosts.{hosts}
use Rattle.mqb_world.specs.mqb_runs.Runs.{Played, lines_of, moves_of}
use Rattle.mqb_world.specs.mqb_runs.lemmas.Growing.{course_one, run_one}
use Rattle.mqb_script.specs.Reading.{LONGEST, MOST_LINES, line_count}
use Rattle.mqb_script.specs.Script.{script_of}
use Rattle.mqb_script.specs.declared.events.Event.{Event}
use Rattle.mqb_transcript.specs.Generator.{generated}
use Rattle.mqb_world.specs.Standing.{strings_in}
use Rattle.mqb_replay.specs.Completeness.{AskFor, Completes, CompletesTrial, FitMedium, HoldsScript, IsDoneOr}
use Rattle.mqb_replay.specs.Devices.{Devices}
use Rattle.mqb_replay.specs.Plays.{IsFull}
use Rattle.mqb_replay.specs.Replays.{AreEmpty, Begins, Ends, HasBytes, IsAtEnd, IsScript, Replays, Tells}
use Rattle.mqb_replay.specs.Trials.{EndsTrial, Tries, TriesLines}
use Rattle.mqb_replay.specs.declared.faults.ReplayFault.{ReplayFault}
use Rattle.mqb_replay.specs.declared.faults.ReplayFault.TheVariants as fault
use Rattle.mqb_replay.proofs.Taken.{IsTaken, taken_all, taken_of, taken_short}

-- The moves of a run ask for its lines.

asks : (ps : List Played) → AskFor (moves_of ps) (lines_of ps)
asks [] = refl
asks (p ∷ ps) = ap (λ (es : List network.Event). event_of p.event ∷ es) (asks ps)

-- An event may go well; or it is a restart, which sends nothing.
goes_well : (c : Course) (e : network.Event) → IsTrue (may c e Well) ⊎ ((answer c (record { event = e; choice = Well })).after.sent ≡ [])
goes_well c (network.Restart i) = inr refl
goes_well c e = inl refl

-- a string that does not fit makes the packets of the run too many
over : (xs ys front rest : List (List ℕ)) (next : List ℕ) → ys ≡ xs ++ front → MAX_MEDIUM < bytes_in ys + length next → MAX_MEDIUM < bytes_in (xs ++ (front ++ next ∷ rest))
over xs ys front rest next added full =
    let a : bytes_in (xs ++ (front ++ next ∷ rest)) ≡ bytes_in xs + bytes_in (front ++ next ∷ rest) = sum_by-append length xs (front ++ next ∷ rest) in
    let b : bytes_in (front ++ next ∷ rest) ≡ bytes_in front + (length next + bytes_in rest) = sum_by-append length front (next ∷ rest) ∙ ap (λ (n : ℕ). bytes_in front + n) (sum_by-cons length next rest) in
    let c : bytes_in ys ≡ bytes_in xs + bytes_in front = ap bytes_in added ∙ sum_by-append length xs front in
    omega (arith, a, b, c, full)

not_empty_wanted : (front rest : List (List ℕ)) (next : List ℕ) → [] ≡ front ++ next ∷ rest → ⊥
not_empty_wanted [] rest next is = let none : ⊥ = cc in none
not_empty_wanted (x ∷ front) rest next is = let none : ⊥ = cc in none

-- so a script whose packets fit is not cut off
module _ (lines : List (ℕ × Event)) (fit : FitMedium lines) (b a : Devices) (full : IsFull lines b a) where
  ms : List Move
  ms = moves_of full.run

  e : network.Event
  e = event_of full.next.1

  abbrev well : Move
  well = record { event = event_of full.next.1; choice = Well }

  abbrev run : List Move
  run = moves_of full.run

  asked : AskFor (run ++ well ∷ []) (full.first ++ full.next ∷ [])
  asked = map-append (λ (m : Move). m.event) run (well ∷ [])
      ∙ ap (λ (es : List network.Event). es ++ event_of full.next.1 ∷ []) (asks full.run ∙ ap (map (λ (line : ℕ × Event). event_of line.1)) full.is_run.lines)
      ∙ sym (map-append (λ (line : ℕ × Event). event_of line.1) full.first (full.next ∷ []))

  split : lines ≡ (full.first ++ full.next ∷ []) ++ full.rest
  split = full.split ∙ sym (append_assoc full.first (full.next ∷ []) full.rest)

  packets : List Packet
  packets = (answer (after_run hosts run) well).after.sent

  -- the strings of the run with this move
  strings : map plain_spelling (after_run hosts (run ++ well ∷ [])).sent ≡ map plain_spelling (after_run hosts run).sent ++ strings_in run (event_of full.next.1)
  strings = ap (λ (c : Course). map plain_spelling c.sent) (course_one (beginning hosts) run well)
      ∙ map-append plain_spelling (after_run hosts run).sent (answer (after_run hosts run) well).after.sent

  too_many : MAX_MEDIUM < bytes_in (map plain_spelling (after_run hosts (run ++ well ∷ [])).sent)
  too_many = subst (λ (xs : List (List ℕ)). MAX_MEDIUM < bytes_in xs)
      (sym (strings ∙ ap (λ (ys : List (List ℕ)). map plain_spelling (after_run hosts run).sent ++ ys) full.cut.wanted_are))
      (over (map plain_spelling (after_run hosts run).sent) a.strings full.cut.front full.cut.rest full.cut.next full.cut.added full.cut.full)

  clash : (n m : ℕ) → n < m → m ≤ n → ⊥
  clash n m less more = omega arith

  by_choice : IsTrue (may (after_run hosts run) (event_of full.next.1) Well) ⊎ ((answer (after_run hosts run) well).after.sent ≡ []) → ⊥
  by_choice (inl may_be) = clash MAX_MEDIUM (bytes_in (map plain_spelling (after_run hosts (run ++ well ∷ [])).sent)) too_many
      (fit (full.first ++ full.next ∷ []) full.rest (run ++ well ∷ []) split asked (run_one (beginning hosts) run well full.is_run.moves may_be))
  by_choice (inr none) = not_empty_wanted full.cut.front full.cut.rest full.cut.next (sym (ap (map plain_spelling) none) ∙ full.cut.wanted_are)

  pub not_full : ⊥
  not_full = by_choice (goes_well (after_run hosts run) (event_of full.next.1))

-- What was read of an input that holds a script.

read_apart : {E V : Type 0} (read : Result V E) (x : V) (e : E) → read ≡ Ok x → read ≡ Err e → ⊥
read_apart read x e good bad = cc

read_once : {E V : Type 0} (read : Result V E) (x y : V) → read ≡ Ok x → read ≡ Ok y → x ≡ y
read_once read x y one two = cc

-- a disk that is empty has no bytes
has_none : (d : View) → (c : List ℕ) × d.reads c → Each d.reads (λ c. c ≡ []) → Each d.reads (λ c. 0 < length c) → ⊥
has_none d tells empty bytes =
    let none : tells.0 ≡ [] = empty tells.0 tells.1 in
    let some : 0 < length tells.0 = bytes tells.0 tells.1 in
    let zero : length tells.0 ≡ 0 = ap length none in
    omega (arith, some, zero)

module _ (text taken : List ℕ) (rest before after : Option (List ℕ)) (b a : Devices) (lines : List (ℕ × Event)) (is : IsScript text (Some []) lines) (fit : FitMedium lines) (empty : AreEmpty b)
    (alpha : (c : List ℕ) × b.alpha.reads c) (beta : (c : List ℕ) × b.beta.reads c) (t : IsTaken text taken rest) where
  not_long : LONGEST < length taken → ⊥
  not_long long =
      let front : length taken ≤ length text = taken_short text taken rest t in
      let short : length text ≤ LONGEST = is.short in
      omega (arith, front, short, long)

  not_many_lines : IsAtEnd rest → MOST_LINES < line_count taken → ⊥
  not_many_lines ended many =
      let few : line_count taken ≤ MOST_LINES = subst (λ (xs : List ℕ). line_count xs ≤ MOST_LINES) (sym (taken_all text taken rest t ended)) is.few_lines in
      omega (arith, few, many)

  -- what was taken is the script
  script_taken : IsAtEnd rest → script_of taken ≡ Ok lines
  script_taken ended = ap script_of (taken_all text taken rest t ended) ∙ is.script

  fits : (others : List (ℕ × Event)) → IsScript taken rest others → FitMedium others
  fits others script = subst FitMedium (read_once (script_of taken) lines others (script_taken script.ended) script.script) fit

  bytes : HasBytes b → ⊥
  bytes (inl some) = has_none b.alpha alpha empty.0 some
  bytes (inr some) = has_none b.beta beta empty.1 some

  -- no other fault is left
  by_fault : (why : ReplayFault) → (why ≡ fault.ReadFault → ⊥) → (why ≡ fault.WriteFault → ⊥) → Ends taken rest b a before after (Err why) → (why ≡ fault.Memory) ⊎ (why ≡ fault.DiskFault)
  by_fault (fault.Script line kind) no_read no_write ends = absurd (read_apart (script_of taken) lines (line, kind) (script_taken ends.0.ended) ends.0.script)
  by_fault fault.TooLong no_read no_write ends = absurd (not_long ends.0)
  by_fault fault.TooManyLines no_read no_write ends = absurd (not_many_lines ends.0.2 ends.0.1)
  by_fault fault.ReadFault no_read no_write ends = absurd (no_read refl)
  by_fault fault.WriteFault no_read no_write ends = absurd (no_write refl)
  by_fault fault.NotEmpty no_read no_write ends = absurd (bytes ends.2.0)
  by_fault fault.DiskFault no_read no_write ends = inr refl
  by_fault fault.NetFull no_read no_write ends = absurd (not_full ends.0 (fits ends.0 ends.1) b a ends.2.1.0)
  by_fault fault.Memory no_read no_write ends = inl refl

err_is : (r : Result (Unit {0}) ReplayFault) (f g : ReplayFault) → r ≡ Err f → f ≡ g → r ≡ Err g
err_is r f g is same = is ∙ ap (λ (h : ReplayFault). err h) same
  where
    err : ReplayFault → Result (Unit {0}) ReplayFault
    err h = Err h

module _ (held rest before after : Option (List ℕ)) (b a : Devices) (reads reads_now writes writes_now : ℕ) (r : Result (Unit {0}) ReplayFault)
    (alpha : (c : List ℕ) × b.alpha.reads c) (beta : (c : List ℕ) × b.beta.reads c) (read : r ≡ Err fault.ReadFault → Rose reads reads_now)
    (write : r ≡ Err fault.WriteFault → Rose writes writes_now) where
  by_why : (taken : Option (List ℕ)) (lines : List (ℕ × Event)) → HoldsScript held lines → FitMedium lines → AreEmpty b → (Rose reads reads_now → ⊥) → (Rose writes writes_now → ⊥)
      → (text : List ℕ) → Gave held rest text → (why : ReplayFault) → Ends text rest b a before taken (Err why) → r ≡ Err why → IsDoneOr r
  by_why taken lines holds fit empty no_read no_write text gave why ends is = at (by_fault holds.0 text rest before taken b a lines holds.2 fit empty alpha beta
      (taken_of held rest holds.0 text holds.1 gave) why (λ same. no_read (read (err_is r why fault.ReadFault is same))) (λ same. no_write (write (err_is r why fault.WriteFault is same))) ends)
    where
      at : (why ≡ fault.Memory) ⊎ (why ≡ fault.DiskFault) → IsDoneOr r
      at (inl same) = inr (inl (err_is r why fault.Memory is same))
      at (inr same) = inr (inr (err_is r why fault.DiskFault is same))

  by_end : (taken : Option (List ℕ)) (lines : List (ℕ × Event)) → HoldsScript held lines → FitMedium lines → AreEmpty b → (Rose reads reads_now → ⊥) → (Rose writes writes_now → ⊥)
      → (text : List ℕ) → Gave held rest text → (end : Result (Unit {0}) ReplayFault) → Ends text rest b a before taken end → Tells end taken after r → IsDoneOr r
  by_end taken lines holds fit empty no_read no_write text gave (Ok done) ends told = inl told.0
  by_end taken lines holds fit empty no_read no_write text gave (Err fault.WriteFault) ends told = absurd (no_write (write told.0))
  by_end taken lines holds fit empty no_read no_write text gave (Err fault.Memory) ends told = inr (inl told.0)
  by_end taken lines holds fit empty no_read no_write text gave (Err why) ends (inl told) = by_why taken lines holds fit empty no_read no_write text gave why ends told.0
  by_end taken lines holds fit empty no_read no_write text gave (Err why) ends (inr (inl told)) = absurd (no_write (write told.0))
  by_end taken lines holds fit empty no_read no_write text gave (Err why) ends (inr (inr told)) = inr (inl told.0)

  pub completes : Replays held rest b a before after r → Completes held b reads reads_now writes writes_now r
  completes replays lines holds fit empty no_read no_write =
      by_end replays.taken lines holds fit empty no_read no_write replays.ends.0 replays.ends.1 replays.end replays.ends.2 replays.told

-- A trial.

module _ (n : ℕ) (before after : Option (List ℕ)) (b a : Devices) (writes writes_now : ℕ) (r : Result (Unit {0}) ReplayFault)
    (alpha : (c : List ℕ) × b.alpha.reads c) (beta : (c : List ℕ) × b.beta.reads c) (write : r ≡ Err fault.WriteFault → Rose writes writes_now) where
  no_bytes : AreEmpty b → HasBytes b → ⊥
  no_bytes empty (inl some) = has_none b.alpha alpha empty.0 some
  no_bytes empty (inr some) = has_none b.beta beta empty.1 some

  by_lines : (taken : Option (List ℕ)) (lines : List (ℕ × Event)) → FitMedium lines → AreEmpty b → (Rose writes writes_now → ⊥)
      → (why : ReplayFault) → Begins (TriesLines lines) b a before taken (Err why) → r ≡ Err why → IsDoneOr r
  by_lines taken lines fit empty no_write fault.WriteFault tries is = absurd (no_write (write is))
  by_lines taken lines fit empty no_write fault.NotEmpty tries is = absurd (no_bytes empty tries.0)
  by_lines taken lines fit empty no_write fault.DiskFault tries is = inr (inr is)
  by_lines taken lines fit empty no_write fault.NetFull tries is = absurd (not_full lines fit b a tries.1.0)
  by_lines taken lines fit empty no_write fault.Memory tries is = inr (inl is)
  by_lines taken lines fit empty no_write _ tries is = absurd tries.1

  by_trial : (taken : Option (List ℕ)) (lines : List (ℕ × Event)) → script_of (generated n) ≡ Ok lines → FitMedium lines → AreEmpty b → (Rose writes writes_now → ⊥)
      → (why : ReplayFault) → EndsTrial n b a before taken (Err why) → r ≡ Err why → IsDoneOr r
  by_trial taken lines script fit empty no_write fault.Memory ends is = inr (inl is)
  by_trial taken lines script fit empty no_write why ends is =
      by_lines taken ends.0 (subst FitMedium (read_once (script_of (generated n)) lines ends.0 script ends.1) fit) empty no_write why ends.2 is

  by_told : (taken : Option (List ℕ)) (lines : List (ℕ × Event)) → script_of (generated n) ≡ Ok lines → FitMedium lines → AreEmpty b → (Rose writes writes_now → ⊥)
      → (end : Result (Unit {0}) ReplayFault) → EndsTrial n b a before taken end → Tells end taken after r → IsDoneOr r
  by_told taken lines script fit empty no_write (Ok done) ends told = inl told.0
  by_told taken lines script fit empty no_write (Err fault.WriteFault) ends told = absurd (no_write (write told.0))
  by_told taken lines script fit empty no_write (Err fault.Memory) ends told = inr (inl told.0)
  by_told taken lines script fit empty no_write (Err why) ends (inl told) = by_trial taken lines script fit empty no_write why ends told.0
  by_told taken lines script fit empty no_write (Err why) ends (inr (inl told)) = absurd (no_write (write told.0))
  by_told taken lines script fit empty no_write (Err why) ends (inr (inr told)) = inr (inl told.0)

  pub trial_completes : Tries n b a before after r → CompletesTrial n b writes writes_now r
  trial_completes tries lines script fit empty no_write = by_told tries.taken lines script fit empty no_write tries.end tries.ends tries.told
