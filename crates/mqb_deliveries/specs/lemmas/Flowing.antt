-- Packets that are delivered in turn.
use Rattle.std.proofs.Common.{◌≡◌, ◌==◌, ◌≤◌, ℕ, zero, suc, ◌+◌, ◌-◌, Bool, true, false, cond, List}
use Rattle.std.proofs.Common.{[], ◌∷◌, ◌++◌, Option, Some, None, length, refl, sym, ap, subst, ◌∙◌}
use Rattle.std.proofs.Common.{arith, append_assoc, length-append}
use Rattle.std.proofs.lemmas.List.{append-nil, map-append}
use Rattle.std.proofs.lemmas.Bool.Decides.{nat_tests}
use Rattle.std.specs.List.{enumerate_from}
use Rattle.std.specs.Option.{option_map_or}
use Rattle.std.specs.Prelude.{◌&&◌, IsSome, drop, fold, if◌then◌else◌, map, slice_get, take}
use Rattle.mqb_model.specs.calls.hear.Hear.{hear}
use Rattle.mqb_model.specs.calls.hear.Session.{HeardOutcome}
use Rattle.mqb_model.specs.managers.Outcomes as managers
use Rattle.mqb_network.specs.Choices.{Choice, Failure, Fails, Well, choice_behind, failure_in}
use Rattle.mqb_network.specs.Changes.{ended}
use Rattle.mqb_network.specs.Courses.{Course, Written, called, called_unless, moved, written_by}
use Rattle.mqb_network.specs.Delivering.{Delivered, closes, heard_by, passed, unheard}
use Rattle.mqb_network.specs.Network.{Network, Note, is_underway, manager_at}
use Rattle.mqb_network.specs.Replies.{Delivery}
use Rattle.mqb_network.specs.Replies as network
use Rattle.mqb_network.specs.Sending.{Passing, passed_on, with_arrival}
use Rattle.mqb_packet.specs.declared.packet.Packet.{Packet}
use Rattle.mqb_queue.specs.Places.{numbered}
use Rattle.mqb_transcript.specs.declared.arrivals.Arrival.{Arrival}
use Rattle.mqb_transcript.specs.declared.arrivals.Outcome.{Outcome}
use Rattle.mqb_turns.specs.Counts.{CountsGo}
use Rattle.mqb_turns.specs.Passes.{course_in, touched}
use Rattle.mqb_turns.specs.Replies.{arrival_of}
use Rattle.mqb_turns.specs.lemmas.Counting.{counts_joined, counts_same}
use Rattle.mqb_deliveries.specs.Delivers.{Delivers, WasDelivered}
use Rattle.mqb_deliveries.specs.Failing.{failure_told}
use Rattle.mqb_deliveries.specs.Flows.{Flown, IsFailing, LeadsTo, flowing, later, sent_behind}

-- one packet more
fold_more : {A B : Type 0} (f : A → B → A) (a : A) (bs : List B) (b : B)
    → fold f a (bs ++ b ∷ []) ≡ f (fold f a bs) b
fold_more f a [] b = refl
fold_more f a (x ∷ bs) b = fold_more f (f a x) bs b

-- What was written stays.

more_called : (i : ℕ) (o : HeardOutcome) (choice : Choice) (c : Course)
    → length c.written ≤ length (called i o choice c).written
more_called i o choice c = at (failure_in choice o)
  where
    at : (f : Option Failure) → length c.written ≤ length (called_unless i o f c).written
    at None = omega (arith, length-append c.written (written_by i (manager_at c.network i) o.entry))
    at (Some how) = omega arith

more_heard : (i : ℕ) (o : HeardOutcome) (choice : Choice) (c : Course) (b : Bool)
    → length c.written
    ≤ length (cond b (moved (ended i) (called i o choice c)) (called i o choice c)).written
more_heard i o choice c true = more_called i o choice c
more_heard i o choice c false = more_called i o choice c

more_delivered : (note : Note) (p : Packet) (now : ℕ) (choice : Choice) (c : Course) (b : Bool)
    → length c.written ≤ length (cond b
    (heard_by note.receiver (hear (manager_at c.network note.receiver) p now) choice c)
    (unheard choice c)).after.written
more_delivered note p now choice c true =
    let o = hear (manager_at c.network note.receiver) p now in
    more_heard note.receiver o choice c (closes o.answer)
more_delivered note p now choice c false = omega arith

more_passed : (now : ℕ) (t : Passing) (given : ℕ × Packet)
    → length t.after.written ≤ length (passed_on now t given).after.written
more_passed now t given = at (numbered t.after.network.notes given.0)
  where
    at : (o : Option Note) → length t.after.written
        ≤ length (with_arrival given.0 t.arrivals
        (option_map_or (λ note. passed note given.1 now t.left t.after) o
        (unheard t.left t.after))).after.written
    at None = omega arith
    at (Some note) =
        more_delivered note given.1 now t.left t.after (is_underway t.after.network note)

more_flowed : (now : ℕ) (t : Passing) (given : List (ℕ × Packet))
    → length t.after.written ≤ length (fold (passed_on now) t given).after.written
more_flowed now t [] = omega arith
more_flowed now t (x ∷ given) =
    let one = more_passed now t x in let all = more_flowed now (passed_on now t x) given in
    omega (arith, one, all)

-- so are the records of all that flows
pub more_flows : (c : Course) (now : ℕ) (given : List (ℕ × Packet)) (choice : Choice)
    → length c.written ≤ length (flowing c now given choice).after.written
more_flows c now given choice =
    more_flowed now (record { arrivals = []; after = c; left = choice }) given

-- The choices that are left behind a call in which the disk works.

pub works_by : {A : Type 0} (o : managers.Outcome A) (b : Bool) → o.touches ≡ b → (l : Choice)
    → IsFailing l
    → (failure_in (later (touched b) l) o ≡ None) × (choice_behind (later (touched b) l) o ≡ l)
works_by o b is Well fails = (refl, refl)
works_by o true is (Fails x how) fails = (
  ap (λ (c : Bool). cond (c && o.touches) (Some how) None) never,
  ap (λ (c : Bool). cond c (Fails (1 + x - 1) how) (Fails (1 + x) how)) is
      ∙ ap (λ (k : ℕ). Fails k how) (omega arith),
)
  where
    never : (1 + x == 0) ≡ false
    never = grind (arith, nat_tests)
works_by o false is (Fails x how) fails = (
  ap (λ (c : Bool). cond ((0 + x == 0) && c) (Some how) None) is ∙ at (0 + x == 0),
  ap (λ (c : Bool). cond c (Fails (0 + x - 1) how) (Fails (0 + x) how)) is
      ∙ ap (λ (k : ℕ). Fails k how) (omega arith),
)
  where
    at : (c : Bool) → cond (c && false) (Some how) None ≡ None
    at true = refl
    at false = refl
works_by o b is x fails = absurd fails

later_twice : (s t : ℕ) (l : Choice) → later (s + t) l ≡ later s (later t l)
later_twice s t (Fails x how) = ap (λ (k : ℕ). Fails k how) (omega arith)
later_twice s t l = refl

still_failing : (t : ℕ) (l : Choice) → IsFailing l → IsFailing (later t l)
still_failing t Well fails = tt
still_failing t (Fails x how) fails = tt
still_failing t l fails = fails

module _ (counts counts_then counts_now : ℕ → ℕ) (c : Course) (now : ℕ) (given : List (ℕ × Packet))
    (arrivals : List Arrival) (n n_now : Network)
    (flown : Flown counts counts_then c now given arrivals n) (k : ℕ) (p : Packet)
    (outcome : Outcome) (one : Delivers n counts_then n_now counts_now k p now outcome) where
  abbrev all : List (ℕ × Packet)
  all = given ++ (k, p) ∷ []

  abbrev before : Course
  before = course_in n c.sent (c.written ++ flown.written)

  abbrev after : Course
  after = course_in n_now c.sent (c.written ++ (flown.written ++ one.written))

  abbrev arrived : List network.Arrival
  arrived = flown.passed ++ record { packet = k; delivery = one.delivery } ∷ []

  -- the next packet, behind a choice that led here
  next : (first l : Choice)
      → flowing c now given first ≡ record { arrivals = flown.passed; after = before; left = l }
      → failure_in l one.outcome ≡ failure_told outcome
      → flowing c now all first
      ≡ record { arrivals = arrived; after = after; left = choice_behind l one.outcome }
  next first l led fails =
      fold_more (passed_on now) (record { arrivals = []; after = c; left = first }) given (k, p)
      ∙ ap (λ (t : Passing). passed_on now t (k, p)) led
      ∙ ap (with_arrival k flown.passed) (one.passes l fails c.sent (c.written ++ flown.written))
      ∙ ap (λ (ws : List Written). ended_with ws) (append_assoc c.written flown.written one.written)
    where
      ended_with : List Written → Passing
      ended_with ws = record {
        arrivals = arrived;
        after = course_in n_now c.sent ws;
        left = choice_behind l one.outcome;
      }

  told_so : map arrival_of arrived ≡ arrivals ++ record { packet = k; outcome = outcome } ∷ []
  told_so = map-append arrival_of flown.passed (record { packet = k; delivery = one.delivery } ∷ [])
      ∙ ap (λ (told : List Arrival). told
      ++ map arrival_of (record { packet = k; delivery = one.delivery } ∷ [])) flown.told
      ∙ ap (λ (o : Outcome). arrivals ++ record { packet = k; outcome = o } ∷ []) one.told

  counted : CountsGo counts counts_now (flown.written ++ one.written)
  counted = counts_joined counts counts_then counts_now flown.written one.written flown.counted
      one.counted

  -- No disk failed so far.

  well_then : flown.failure ≡ None → (l : Choice) → IsFailing l
      → flowing c now given (later flown.records l)
      ≡ record { arrivals = flown.passed; after = before; left = l }
  well_then is l fails =
      subst (LeadsTo c now given flown.records flown.passed before) is flown.leads l fails

  well_still : flown.failure ≡ None → failure_told outcome ≡ None
      → Flown counts counts_now c now all
      (arrivals ++ record { packet = k; outcome = outcome } ∷ []) n_now
  well_still is works = record {
    passed = arrived;
    failure = None;
    written = flown.written ++ one.written;
    records = flown.records + touched one.outcome.touches;
    told = told_so;
    leads = λ l fails. let by = works_by one.outcome one.outcome.touches refl l fails in
        ap (flowing c now all) (later_twice flown.records (touched one.outcome.touches) l)
        ∙ next (later flown.records (later (touched one.outcome.touches) l))
        (later (touched one.outcome.touches) l)
        (well_then is (later (touched one.outcome.touches) l)
        (still_failing (touched one.outcome.touches) l fails)) (by.0 ∙ sym works)
        ∙ ap (λ (x : Choice). record { arrivals = arrived; after = after; left = x }) by.1;
    notes = one.notes ∙ flown.notes;
    count = λ _. length-append flown.written one.written ∙ ap (λ (x : ℕ). x + length one.written)
        (flown.count is) ∙ ap (λ (x : ℕ). flown.records + x) one_written;
    counted = counted;
    cut = λ some. absurd (let none : ⊥ = cc in none);
  }
    where
      -- what is written where no disk fails
      one_written : length one.written ≡ touched one.outcome.touches
      one_written = let all_of : length ([] ++ one.written) ≡ 0 + touched one.outcome.touches =
          sym (ap (λ (q : Delivered). length q.after.written) (one.passes Well (sym works) [] []))
          ∙ one.would [] [] in
          all_of ∙ omega arith

  -- It fails now.
  fails_now : (how : Failure) → flown.failure ≡ None → failure_told outcome ≡ Some how
      → Flown counts counts_now c now all
      (arrivals ++ record { packet = k; outcome = outcome } ∷ []) n_now
  fails_now how is fails = record {
    passed = arrived;
    failure = Some how;
    written = flown.written ++ one.written;
    records = flown.records;
    told = told_so;
    leads = (
      ap (λ (x : ℕ). flowing c now all (Fails x how)) none_more
          ∙ next (Fails (flown.records + 0) how) (Fails 0 how) (well_then is (Fails 0 how) tt)
          (here ∙ sym fails)
          ∙ ap (λ (b : Bool). record {
            arrivals = arrived;
            after = after;
            left = cond b (Fails 0 how) (Fails 0 how);
          }) touches,
      omega (arith, would, flown.count is, length-append c.written flown.written),
    );
    notes = one.notes ∙ flown.notes;
    count = λ none. absurd (let no : ⊥ = cc in no);
    counted = counted;
    cut = λ some. one.cut (subst (λ (o : Option Failure). IsSome o) (sym fails) refl);
  }
    where
      none_more : flown.records ≡ flown.records + 0
      none_more = omega arith

      touches : one.outcome.touches ≡ true
      touches = one.touches (subst (λ (o : Option Failure). IsSome o) (sym fails) refl)

      here : failure_in (Fails 0 how) one.outcome ≡ Some how
      here = ap (λ (b : Bool). if b then Some how else None) touches

      would : length (flowing c now all Well).after.written
          ≡ length (c.written ++ flown.written) + 1
      would = ap (λ (t : Passing). length t.after.written)
          (fold_more (passed_on now) (record { arrivals = []; after = c; left = Well }) given (k, p)
          ∙ ap (λ (t : Passing). passed_on now t (k, p)) (well_then is Well tt))
          ∙ one.would c.sent (c.written ++ flown.written)
          ∙ ap (λ (b : Bool). length (c.written ++ flown.written) + touched b) touches

  -- It failed before, and no connection stands any more.
  failed_before : (how : Failure) → flown.failure ≡ Some how → Flown counts counts_now c now all
      (arrivals ++ record { packet = k; outcome = outcome } ∷ []) n_now
  failed_before how is = record {
    passed = arrived;
    failure = Some how;
    written = flown.written ++ one.written;
    records = flown.records;
    told = told_so;
    leads = (
      next (Fails flown.records how) (Fails 0 how) led.0
          (ap (λ (b : Bool). if b then Some how else None) idle.0 ∙ sym idle.1)
          ∙ ap (λ (b : Bool). record {
            arrivals = arrived;
            after = after;
            left = cond b (Fails 0 how) (Fails 0 how);
          }) idle.0,
      omega (arith, led.1, grown),
    );
    notes = one.notes ∙ flown.notes;
    count = λ none. absurd (let no : ⊥ = cc in no);
    counted = counted;
    cut = λ some. subst (λ (m : Network). m.connections ≡ []) still cut;
  }
    where
      led : LeadsTo c now given flown.records flown.passed before (Some how)
      led = subst (LeadsTo c now given flown.records flown.passed before) is flown.leads

      cut : n.connections ≡ []
      cut = flown.cut (subst (λ (o : Option Failure). IsSome o) (sym is) refl)

      idle : (one.outcome.touches ≡ false) × (failure_told outcome ≡ None)
      idle = one.idle cut

      still : n ≡ n_now
      still = one.stays cut

      grown : length (flowing c now given Well).after.written
          ≤ length (flowing c now all Well).after.written
      grown = subst (λ (t : Passing). length (flowing c now given Well).after.written
          ≤ length t.after.written)
          (sym (fold_more (passed_on now) (record { arrivals = []; after = c; left = Well }) given
          (k, p))) (more_passed now (flowing c now given Well) (k, p))

  -- One packet more was delivered.
  pub flown_more : Flown counts counts_now c now all
      (arrivals ++ record { packet = k; outcome = outcome } ∷ []) n_now
  flown_more = at flown.failure (failure_told outcome) refl refl
    where
      at : (o q : Option Failure) → flown.failure ≡ o → failure_told outcome ≡ q
          → Flown counts counts_now c now all
          (arrivals ++ record { packet = k; outcome = outcome } ∷ []) n_now
      at None None is works = well_still is works
      at None (Some how) is fails = fails_now how is fails
      at (Some how) q is any = failed_before how is

-- none yet
pub flown_none : (counts : ℕ → ℕ) (c : Course) (now : ℕ) → Flown counts counts c now [] [] c.network
flown_none counts c now = record {
  passed = [];
  failure = None;
  written = [];
  records = 0;
  told = refl;
  leads =
      λ l fails. ap (λ (x : Choice). record { arrivals = []; after = c; left = x }) (never_later l)
      ∙ ap (λ (ws : List Written).
      record { arrivals = []; after = course_in c.network c.sent ws; left = l })
      (sym (append-nil c.written));
  count = λ _. refl;
  counted = counts_same counts;
  notes = refl;
  cut = λ some. absurd (let none : ⊥ = cc in none);
}
  where
    never_later : (l : Choice) → later 0 l ≡ l
    never_later (Fails x how) = ap (λ (k : ℕ). Fails k how) (omega arith)
    never_later l = refl

-- Packets that were ever sent, by their numbers.

one_numbered : (n : ℕ) (ps : List Packet) (p : Packet)
    → enumerate_from n (ps ++ p ∷ []) ≡ enumerate_from n ps ++ (n + length ps, p) ∷ []
one_numbered n [] p = ap (λ (k : ℕ). (k, p) ∷ []) (omega arith)
one_numbered n (x ∷ ps) p = ap (λ (qs : List (ℕ × Packet)). (n, x) ∷ qs) (one_numbered (n + 1) ps p)
    ∙ ap (λ (k : ℕ). (n, x) ∷ (enumerate_from (n + 1) ps ++ (k, p) ∷ [])) (omega arith)

-- at another number that is the same
moved_to : {X : Type 0} (xs : List X) (o : Option X) (k l : ℕ) → k ≡ l → slice_get xs l ≡ o
    → slice_get xs k ≡ o
moved_to xs o k l same there = ap (slice_get xs) same ∙ there

-- one more is taken
taken_more : (ps : List Packet) (b i : ℕ) (p : Packet) → slice_get ps (b + i) ≡ Some p
    → take (suc i) (drop b ps) ≡ take i (drop b ps) ++ p ∷ []
taken_more [] b i p there = absurd (let none : ⊥ = cc in none)
taken_more (x ∷ ps) zero zero p there = ap (λ (y : Packet). y ∷ []) (somes there)
  where
    somes : {X : Type 0} {a b : X} → ◌≡◌ {A = Option X} (Some a) (Some b) → a ≡ b
    somes same = cc
taken_more (x ∷ ps) zero (suc i) p there = ap (λ (ys : List Packet). x ∷ ys) (taken_more ps zero i p
    (moved_to ps (Some p) (0 + i) i (omega arith)
    (moved_to (x ∷ ps) (Some p) (suc i) (0 + suc i) (omega arith) there)))
taken_more (x ∷ ps) (suc b) i p there =
    taken_more ps b i p (moved_to (x ∷ ps) (Some p) (suc (b + i)) (suc b + i) (omega arith) there)

taken_count : (ps : List Packet) (b i : ℕ) (p : Packet) → slice_get ps (b + i) ≡ Some p
    → length (take i (drop b ps)) ≡ i
taken_count [] b i p there = absurd (let none : ⊥ = cc in none)
taken_count (x ∷ ps) zero zero p there = refl
taken_count (x ∷ ps) zero (suc i) p there = ap suc (taken_count ps zero i p
    (moved_to ps (Some p) (0 + i) i (omega arith)
    (moved_to (x ∷ ps) (Some p) (suc i) (0 + suc i) (omega arith) there)))
taken_count (x ∷ ps) (suc b) i p there =
    taken_count ps b i p (moved_to (x ∷ ps) (Some p) (suc (b + i)) (suc b + i) (omega arith) there)

-- the packet of a number
numbered_at : {X : Type 0} (xs : List X) (b i : ℕ) → numbered xs (b + 1 + i) ≡ slice_get xs (b + i)
numbered_at xs b i =
    let some : (b + 1 + i == 0) ≡ false = grind (arith, nat_tests) in
    rw some (ap (slice_get xs) (omega arith))

behind_more : (packets : List Packet) (b i : ℕ) (p : Packet) → numbered packets (b + 1 + i) ≡ Some p
    → sent_behind packets b (i + 1) ≡ sent_behind packets b i ++ (b + 1 + i, p) ∷ []
behind_more packets b i p is = let there = sym (numbered_at packets b i) ∙ is in
    let next : i + 1 ≡ suc i = omega arith in
    ap (λ (k : ℕ). enumerate_from (b + 1) (take k (drop b packets))) next
    ∙ ap (enumerate_from (b + 1)) (taken_more packets b i p there)
    ∙ one_numbered (b + 1) (take i (drop b packets)) p
    ∙ ap (λ (k : ℕ). sent_behind packets b i ++ (b + 1 + k, p) ∷ [])
    (taken_count packets b i p there)

-- The next packet was delivered.
pub flown_next :
    (counts counts_then counts_now : ℕ → ℕ) (c : Course) (now : ℕ) (packets : List Packet) (b i : ℕ)
    (arrivals : List Arrival) (n n_now : Network) (outcome : Outcome)
    → Flown counts counts_then c now (sent_behind packets b i) arrivals n
    → WasDelivered n counts_then n_now counts_now packets (b + 1 + i) now (Some outcome)
    → Flown counts counts_now c now (sent_behind packets b (i + 1))
    (arrivals ++ record { packet = b + 1 + i; outcome = outcome } ∷ []) n_now
flown_next counts counts_then counts_now c now packets b i arrivals n n_now outcome flown
    (p, is, there, one) =
    subst (λ (given : List (ℕ × Packet)). Flown counts counts_now c now given
    (arrivals ++ record { packet = b + 1 + i; outcome = outcome } ∷ []) n_now)
    (sym (behind_more packets b i p is))
    (flown_more counts counts_then counts_now c now (sent_behind packets b i) arrivals n n_now flown
    (b + 1 + i) p outcome one)
