-- The script is within the limits.
use Rattle.std.proofs.Common.{◌≡◌, ◌+◌, ◌-◌, ◌*◌, ◌/◌, ◌<◌, ◌≤◌, Bool, List, [], ◌∷◌, ◌++◌, arith, length, length-append, refl, ℕ, zero, suc, true, false}
use Rattle.std.proofs.lemmas.Fmt.{length-decimal-le}
use Rattle.std.specs.Fmt.{decimal}
use Rattle.std.specs.List.{flat_map, range_with_len}
use Rattle.std.specs.Prelude.{codes, cond, nat_le, ◌==◌}
use Rattle.mqb_script.specs.declared.events.Event.{Event}
use Rattle.mqb_outside.specs.declared.power.Pick.TheVariants.{Old}
use Rattle.mqb_script.specs.declared.events.Event.TheVariants.{Disconnect, Restart}
use Rattle.mqb_transcript.specs.Generator.{block_count, block_text, breaks_text, broken_text, commit_text, connect_text, flow_text, flows_text, generated, head_text, moment_of, order_of, order_text}
use Rattle.mqb_script.specs.Orders.{alpha, beta, block_of, breaks_in, broken_by, events_of, flows_at, head_events}

-- How long its texts are.

number_short : (n : ℕ) → n < 100000 → length (decimal n) ≤ 5
number_short n small = length-decimal-le 5 n (omega arith) (omega arith) (omega arith)

order_short : (k : ℕ) → k < 100000 → length (order_text k) ≤ 200
unfolding order_text
order_short k small = let digits = number_short k small in omega arith

connect_short : (moment : ℕ) → moment < 100000 → length (connect_text moment) ≤ 40
unfolding connect_text
connect_short moment small = let digits = number_short moment small in
    let whole : length (connect_text moment) ≡ length (codes "connect alpha " ++ decimal moment) + 7 = length-append (codes "connect alpha " ++ decimal moment) (codes " 64 64\n") in omega arith

flow_short : (host : List ℕ) (moment : ℕ) → length host ≤ 5 → moment < 100000 → length (flow_text host moment) ≤ 20
unfolding flow_text
flow_short host moment short small = let digits = number_short moment small in
    let a : length (host ++ codes " ") ≡ length host + 1 = length-append host (codes " ") in
    let b : length ((host ++ codes " ") ++ decimal moment) ≡ length (host ++ codes " ") + length (decimal moment) = length-append (host ++ codes " ") (decimal moment) in
    let whole : length (((host ++ codes " ") ++ decimal moment) ++ codes "\n") ≡ length ((host ++ codes " ") ++ decimal moment) + 1 = length-append ((host ++ codes " ") ++ decimal moment) (codes "\n") in
    omega arith

-- at most so many of a list that has no more
lengths_add : {A : Type 0} (xs ys : List A) (a b : ℕ) → length xs ≤ a → length ys ≤ b → length (xs ++ ys) ≤ a + b
lengths_add xs ys a b first second = let whole = length-append xs ys in omega (arith, whole)

flows_short : (moment : ℕ) → moment < 100000 → length (flows_text moment) ≤ 60
unfolding flows_text
flows_short moment small = let alpha = flow_short (codes "alpha") moment (omega arith) small in
    lengths_add (flow_text (codes "alpha") moment ++ flow_text (codes "beta") moment) (flow_text (codes "alpha") moment) 40 20
    (lengths_add (flow_text (codes "alpha") moment) (flow_text (codes "beta") moment) 20 20 alpha (flow_short (codes "beta") moment (omega arith) small)) alpha

broken_short : (here : Bool) (line : List ℕ) (moment : ℕ) → length line ≤ 20 → moment < 100000 → length (broken_text here line moment) ≤ 61
unfolding broken_text
broken_short true line moment short small = lengths_add (line ++ codes "\n") (connect_text moment) 21 40 (lengths_add line (codes "\n") 20 1 short (omega arith)) (connect_short moment small)
broken_short false line moment short small = omega arith

breaks_short : (count block : ℕ) → block ≤ 2501 → length (breaks_text count block) ≤ 244
unfolding breaks_text
breaks_short count block small = lengths_add ((a ++ b) ++ c) d 183 61 (lengths_add (a ++ b) c 122 61 (lengths_add a b 61 61
    (broken_short (block == count / 4 + 1) (codes "disconnect") (moment_of block) (omega arith) (omega arith))
    (broken_short (block == count / 2 + 1) (codes "restart alpha old") (moment_of block) (omega arith) (omega arith)))
    (broken_short (block == 3 * count / 4 + 1) (codes "restart beta old") (moment_of block) (omega arith) (omega arith)))
    (broken_short (block == count) (codes "disconnect") (moment_of block) (omega arith) (omega arith))
  where
    a : List ℕ
    a = broken_text (block == count / 4 + 1) (codes "disconnect") (moment_of block)

    b : List ℕ
    b = broken_text (block == count / 2 + 1) (codes "restart alpha old") (moment_of block)

    c : List ℕ
    c = broken_text (block == 3 * count / 4 + 1) (codes "restart beta old") (moment_of block)

    d : List ℕ
    d = broken_text (block == count) (codes "disconnect") (moment_of block)

one_short : (n k : ℕ) → k < 100000 → length (order_of n k) ≤ 200
unfolding order_of
one_short n k small = at (nat_le k n)
  where
    at : (b : Bool) → length (cond b (order_text k) []) ≤ 200
    at true = order_short k small
    at false = omega arith

orders_short : (n from count : ℕ) → from + count ≤ 100000 → length (flat_map (order_of n) (range_with_len from count)) ≤ 200 * count
orders_short n from zero small = omega arith
orders_short n from (suc count) small = let rest = orders_short n (from + 1) count (omega arith) in let first = one_short n from (omega arith) in
    let whole = length-append (order_of n from) (flat_map (order_of n) (range_with_len (from + 1) count)) in omega arith

commit_short : (n block : ℕ) → block ≤ 2501 → length (commit_text n block) ≤ 820
unfolding commit_text
commit_short n block small = lengths_add ((codes "commit alpha " ++ decimal (moment_of block)) ++ flat_map (order_of n) (range_with_len (4 * block - 3) 4)) (codes "\n") 819 1
    (lengths_add (codes "commit alpha " ++ decimal (moment_of block)) (flat_map (order_of n) (range_with_len (4 * block - 3) 4)) 19 800
    (lengths_add (codes "commit alpha ") (decimal (moment_of block)) 14 5 (omega arith) (number_short (moment_of block) (omega arith)))
    (orders_short n (4 * block - 3) 4 (omega arith))) (omega arith)

block_short : (n block : ℕ) → block ≤ 2501 → length (block_text n block) ≤ 1200
unfolding block_text
block_short n block small = let all = lengths_add (commit_text n block ++ breaks_text (block_count n) block) (flows_text (moment_of block)) 1064 60
    (lengths_add (commit_text n block) (breaks_text (block_count n) block) 820 244 (commit_short n block small) (breaks_short (block_count n) block small))
    (flows_short (moment_of block) (omega arith)) in omega (arith, all)

blocks_short : (n from count : ℕ) → from + count ≤ 2502 → length (flat_map (block_text n) (range_with_len from count)) ≤ 1200 * count
blocks_short n from zero small = omega arith
blocks_short n from (suc count) small = let rest = blocks_short n (from + 1) count (omega arith) in let first = block_short n from (omega arith) in
    let whole = length-append (block_text n from) (flat_map (block_text n) (range_with_len (from + 1) count)) in omega arith

pub text_short : (n : ℕ) → n ≤ 10000 → length (generated n) ≤ 16777216
unfolding generated
text_short n within = let blocks = blocks_short n 1 (block_count n) (omega arith) in
    let whole = length-append head_text (flat_map (block_text n) (range_with_len 1 (block_count n))) in omega arith

-- How many events there are.

broken_few : (here : Bool) (e : Event) (moment : ℕ) → length (broken_by here e moment) ≤ 2
broken_few true e moment = omega arith
broken_few false e moment = omega arith

breaks_few : (count block : ℕ) → length (breaks_in count block) ≤ 8
breaks_few count block = lengths_add ((a ++ b) ++ c) d 6 2 (lengths_add (a ++ b) c 4 2 (lengths_add a b 2 2 (broken_few _ _ _) (broken_few _ _ _)) (broken_few _ _ _)) (broken_few _ _ _)
  where
    a : List Event
    a = broken_by (block == count / 4 + 1) (Disconnect alpha) (moment_of block)

    b : List Event
    b = broken_by (block == count / 2 + 1) (Restart alpha Old) (moment_of block)

    c : List Event
    c = broken_by (block == 3 * count / 4 + 1) (Restart beta Old) (moment_of block)

    d : List Event
    d = broken_by (block == count) (Disconnect alpha) (moment_of block)

block_few : (n block : ℕ) → length (block_of n block) ≤ 12
block_few n block = let behind = lengths_add (breaks_in (block_count n) block) (flows_at (moment_of block)) 8 3 (breaks_few (block_count n) block) (omega arith) in omega (arith, behind)

blocks_few : (n : ℕ) (blocks : List ℕ) → length (flat_map (block_of n) blocks) ≤ 12 * length blocks
blocks_few n [] = omega arith
blocks_few n (block ∷ blocks) = let rest = blocks_few n blocks in let first = block_few n block in
    let whole = length-append (block_of n block) (flat_map (block_of n) blocks) in omega (arith, rest, first, whole)

range_counted : (from count : ℕ) → length (range_with_len from count) ≡ count
range_counted from zero = refl
range_counted from (suc count) = let rest = range_counted (from + 1) count in omega arith

pub events_few : (n : ℕ) → n ≤ 10000 → length (events_of n) ≤ 40000
events_few n within = let blocks = blocks_few n (range_with_len 1 (block_count n)) in let counted = range_counted 1 (block_count n) in
    let whole = length-append head_events (flat_map (block_of n) (range_with_len 1 (block_count n))) in omega (arith, blocks, counted, whole)
