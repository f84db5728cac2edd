-- Each event of the script can be told by a line, and the script is within the limits.
use Rattle.std.proofs.Common.{◌≡◌, ◌+◌, ◌-◌, ◌*◌, ◌/◌, ◌%◌, ◌^◌, ◌<◌, ◌≤◌, Bool, List, [], ◌∷◌, ◌++◌, arith, length, refl, ℕ, zero, suc, true, false}
use Rattle.std.proofs.lemmas.Bool.Decides.{nat_tests}
use Rattle.std.proofs.lemmas.Fmt.{decimal_by_steps}
use Rattle.std.proofs.lemmas.List.Folds.{list_all-append}
use Rattle.std.specs.Fmt.{decimal}
use Rattle.std.specs.List.{AllByRecursion, cons_option, filter_map, flat_map, list_all, range_with_len}
use Rattle.std.specs.Prelude.{IsTrue, None, Some, cond, nat_le, ◌==◌}
use Rattle.mqb_base.specs.declared.draft.Op.{Op}
use Rattle.mqb_forms.specs.Sends.{is_body_byte}
use Rattle.mqb_forms.specs.Values.{MOST}
use Rattle.mqb_script.specs.Hosts.{AreEnds}
use Rattle.mqb_script.specs.Spelling.{IsSpelled, IsSpelledOp, IsTold}
use Rattle.mqb_script.specs.Spelling as spell
use Rattle.mqb_script.specs.declared.events.Event.{Event}
use Rattle.mqb_script.specs.declared.events.Event.TheVariants.{Disconnect, Restart}
use Rattle.mqb_script.specs.declared.grammar.Grammar.TheVariants.{Pair}
use Rattle.mqb_outside.specs.declared.power.Pick.TheVariants.{Old}
use Rattle.mqb_transcript.specs.Generator.{block_count, moment_of}
use Rattle.mqb_script.specs.Orders.{alpha, beta, block_of, breaks_in, broken_by, events_of, flows_at, head_events, order, order_body, order_names, order_terms, order_within, orders_in}

-- Numbers are printable.

one_body : (n : ℕ) → n < 10 → list_all is_body_byte ((48 + n) ∷ []) ≡ true
one_body n small = grind (arith, nat_tests)

last_body : (n : ℕ) → list_all is_body_byte ((48 + n % 10) ∷ []) ≡ true
last_body n = one_body (n % 10) (omega arith)

more_body : (n : ℕ) (front : List ℕ) → 10 ≤ n → list_all is_body_byte front ≡ true → list_all is_body_byte (front ++ (48 + n % 10) ∷ []) ≡ true
more_body n front large is = rw (list_all-append is_body_byte front ((48 + n % 10) ∷ []), is, last_body n) refl

decimal_body : (n : ℕ) → n < 2 ^ 64 → list_all is_body_byte (decimal n) ≡ true
decimal_body = decimal_by_steps (λ n ds. list_all is_body_byte ds ≡ true) one_body more_body

-- Orders.

order_plain : (k : ℕ) → k < 2 ^ 64 → IsTrue (spell.is_plain (order_body k))
order_plain k small = let is = decimal_body k small in rw is refl

order_spelled : (k : ℕ) → k < 2 ^ 64 → IsSpelledOp (order k)
order_spelled k small = spell.send order_names order_terms (order_body k) (record {
  queues = (refl, refl, refl);
  destination = (refl, refl);
  admin = (refl, refl);
  response = (refl, refl);
  reach = omega arith;
  life = omega arith;
  flags = omega arith;
  plain = order_plain k small;
})

within_spelled : (k : ℕ) (b : Bool) (ops : List Op) → k < 2 ^ 64 → AllByRecursion IsSpelledOp ops → AllByRecursion IsSpelledOp (cons_option (cond b (Some (order k)) None) ops)
within_spelled k true ops small rest = (order_spelled k small, rest)
within_spelled k false ops small rest = rest

orders_spelled : (n from count : ℕ) → from + count < 2 ^ 64 → AllByRecursion IsSpelledOp (filter_map (order_within n) (range_with_len from count))
orders_spelled n from zero small = tt
orders_spelled n from (suc count) small = within_spelled from (nat_le from n) (filter_map (order_within n) (range_with_len (from + 1) count)) (omega arith)
    (orders_spelled n (from + 1) count (omega arith))

first_order : (n k : ℕ) (ops : List Op) → nat_le k n ≡ true → 1 ≤ length (cons_option (order_within n k) ops)
first_order n k ops is = rw is (omega arith)

all_append : {A : Type 0} (P : A → Type 0) (xs ys : List A) → AllByRecursion P xs → AllByRecursion P ys → AllByRecursion P (xs ++ ys)
all_append P [] ys first second = second
all_append P (x ∷ xs) ys first second = (first.0, all_append P xs ys first.1 second)

ends : AreEnds Pair alpha beta
ends = (omega arith, omega arith, (λ same. cc))

broken_spelled : (here : Bool) (e : Event) (moment : ℕ) → IsSpelled Pair e → moment ≤ MOST → AllByRecursion (IsSpelled Pair) (broken_by here e moment)
broken_spelled true e moment is small = (is, (spell.connect alpha beta moment 64 64 ends small (omega arith) (omega arith) (omega arith) (omega arith), tt))
broken_spelled false e moment is small = tt

-- Blocks.

module _ (n block : ℕ) (within : n ≤ 10000) (least : 1 ≤ block) (most : block ≤ block_count n) where
  few_blocks : block ≤ 2501
  few_blocks = omega arith

  now_fits : moment_of block ≤ MOST
  now_fits = omega arith

  has_first : nat_le (4 * block - 3) n ≡ true
  has_first = grind (arith, nat_tests)

  abbrev a : List Event
  a = broken_by (block == block_count n / 4 + 1) (Disconnect alpha) (moment_of block)

  abbrev b : List Event
  b = broken_by (block == block_count n / 2 + 1) (Restart alpha Old) (moment_of block)

  abbrev c : List Event
  c = broken_by (block == 3 * block_count n / 4 + 1) (Restart beta Old) (moment_of block)

  abbrev d : List Event
  d = broken_by (block == block_count n) (Disconnect alpha) (moment_of block)

  breaks_spelled : AllByRecursion (IsSpelled Pair) (breaks_in (block_count n) block)
  breaks_spelled = all_append (IsSpelled Pair) ((a ++ b) ++ c) d (all_append (IsSpelled Pair) (a ++ b) c (all_append (IsSpelled Pair) a b
      (broken_spelled (block == block_count n / 4 + 1) (Disconnect alpha) (moment_of block) (spell.disconnect alpha refl) now_fits)
      (broken_spelled (block == block_count n / 2 + 1) (Restart alpha Old) (moment_of block) (spell.restart alpha Old (omega arith)) now_fits))
      (broken_spelled (block == 3 * block_count n / 4 + 1) (Restart beta Old) (moment_of block) (spell.restart beta Old (omega arith)) now_fits))
      (broken_spelled (block == block_count n) (Disconnect alpha) (moment_of block) (spell.disconnect alpha refl) now_fits)

  block_spelled : AllByRecursion (IsSpelled Pair) (block_of n block)
  block_spelled = (
    spell.commit alpha (moment_of block) (orders_in n block) (omega arith) now_fits
        (first_order n (4 * block - 3) (filter_map (order_within n) (range_with_len (4 * block - 3 + 1) 3)) has_first)
        (orders_spelled n (4 * block - 3) 4 (omega arith)),
    all_append (IsSpelled Pair) (breaks_in (block_count n) block) (flows_at (moment_of block)) breaks_spelled
        (spell.flow alpha (moment_of block) (omega arith) now_fits, (spell.flow beta (moment_of block) (omega arith) now_fits, (spell.flow alpha (moment_of block) (omega arith) now_fits, tt))),
  )

blocks_spelled : (n from count : ℕ) → n ≤ 10000 → 1 ≤ from → from + count ≤ block_count n + 1 → AllByRecursion (IsSpelled Pair) (flat_map (block_of n) (range_with_len from count))
blocks_spelled n from zero within least most = tt
blocks_spelled n from (suc count) within least most = all_append (IsSpelled Pair) (block_of n from) (flat_map (block_of n) (range_with_len (from + 1) count))
    (block_spelled n from within least (omega arith)) (blocks_spelled n (from + 1) count within (omega arith) (omega arith))

head_spelled : AllByRecursion (IsSpelled Pair) head_events
head_spelled = (spell.queue alpha _ (omega arith) refl (omega arith) tt, (spell.queue beta _ (omega arith) refl (omega arith) tt, (spell.connect alpha beta 1000 64 64 ends (omega arith) (omega arith) (omega arith) (omega arith) (omega arith), tt)))

pub all_spelled : (n : ℕ) → n ≤ 10000 → AllByRecursion (IsSpelled Pair) (events_of n)
all_spelled n within = all_append (IsSpelled Pair) head_events (flat_map (block_of n) (range_with_len 1 (block_count n))) head_spelled
    (blocks_spelled n 1 (block_count n) within (omega arith) (omega arith))
