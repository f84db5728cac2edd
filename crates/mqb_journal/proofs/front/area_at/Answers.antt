use Rattle.std.proofs.Common.{◌≡◌, ℕ, ◌+◌, ◌-◌, List, length, drop, take, sym, ◌∙◌, ap, arith}
use Rattle.mqb_fields.specs.Reading.{number_of}
use Rattle.mqb_fields.specs.Writing.{bytes_of}
use Rattle.mqb_journal.specs.Scan.{IsNoArea, Low, Past, Short, Over, Cut, Counts}
use Rattle.mqb_layout.specs.declared.layout.Layout.{Layout}
use Rattle.mqb_layout.specs.Store.{head_of}
use Rattle.mqb_journal.proofs.Bytes.{number_at_part}
use Rattle.mqb_journal.proofs.Fronts.{area_at}
use Rattle.mqb_journal.proofs.Beginning.{no_area, area_reads}
use Rattle.mqb_journal.proofs.front.area_at.Goals.{then-place-head-via-then-place-head, then-place-head-via-else-place-head+then-place-len, then-n-lt8-via-then-n-lt8, then-n-lt8-via-else-n-lt8+then-n, then-n-lt8-via-else-n-lt8+else-n+then-len-place}
use Rattle.mqb_journal.proofs.front.area_at.Goals as goal

pub returns-then-place-head-clause-bad : goal.returns-then-place-head-clause-bad
returns-then-place-head-clause-bad g c at is d told =
    let l : Layout = c.args.layout in
    let laid = c.requires.laid d told in
    let head_is : head_of d ≡ l.head = ap (λ (k : Layout). k.head) laid in
    let long : c.args.len ≡ length d = c.requires.length d told in
    let none : IsNoArea l.place d = elim c.then-place-head.branch [
      | then-place-head-via-then-place-head w ↦ Low (let under = w.if-place-head.true in omega (arith, under, head_is))
      | then-place-head-via-else-place-head+then-place-len w ↦ Past (let over = w.if-place-len.true in let inside = c.requires.inside in omega (arith, over, long, inside))
    ] in
    no_area at c.args.len l d (let same : at ≡ l.place = cc in same) (c.requires.later d told) laid long c.requires.low c.requires.inside none

pub returns-then-n-lt8-clause-bad : goal.returns-then-n-lt8-clause-bad
returns-then-n-lt8-clause-bad g c at is d told =
    let l : Layout = c.args.layout in
    let laid = c.requires.laid d told in
    let long : c.args.len ≡ length d = c.requires.length d told in
    let number : c.in_ok-n.n ≡ number_of 4 (drop l.place d) = c.in_ok-n.ensures.number d told in
    let none : IsNoArea l.place d = elim c.then-n-lt8.branch [
      | then-n-lt8-via-then-n-lt8 w ↦ Short (let under = w.if-n-lt8.true in omega (arith, under, number))
      | then-n-lt8-via-else-n-lt8+then-n w ↦ Over (let over = w.if-n.true in omega (arith, over, number))
      | then-n-lt8-via-else-n-lt8+else-n+then-len-place w ↦ Cut (let over = w.if-len-place.true in let same = w.from.ensures in omega (arith, over, same, number, long))
    ] in
    no_area at c.args.len l d (let same : at ≡ l.place = cc in same) (c.requires.later d told) laid long c.requires.low c.requires.inside none

pub returns-then-count-gt-MOST_COUNT-clause-bad : goal.returns-then-count-gt-MOST_COUNT-clause-bad
returns-then-count-gt-MOST_COUNT-clause-bad g c at is d told =
    let l : Layout = c.args.layout in
    let laid = c.requires.laid d told in
    let long : c.args.len ≡ length d = c.requires.length d told in
    let there = c.in_ok-n.ensures.reads.unchanged.reads.none_lost d told in
    let small = c.in_ok-count.ensures.range in
    let told_count : number_of 8 (drop (l.place + 4) d) ≡ c.in_ok-count.count = number_at_part 8 (l.place + 4) c.in_ok-count.count d (omega (arith, small)) (c.in_ok-count.ensures.spelled d there) in
    let none : IsNoArea l.place d = Counts (let over = c.if-count-gt-MOST_COUNT.true in omega (arith, over, told_count)) in
    no_area at c.args.len l d (let same : at ≡ l.place = cc in same) (c.requires.later d told) laid long c.requires.low c.requires.inside none

pub returns-clause-area : goal.returns-clause-area
returns-clause-area g c d told =
    let l : Layout = c.args.layout in
    let n : ℕ = c.in_ok-n.n in
    let first = c.in_ok-n.ensures.reads.unchanged.reads.none_lost d told in
    let second = c.in_ok-count.ensures.reads.unchanged.reads.none_lost d first in
    let whole : n ≡ 8 + (n - 8) = omega arith in
    area_at l.place c.in_ok-count.count (n - 8) c.in_ok-base.base.items d
    (ap (λ (r : List ℕ). take 4 r) (c.in_ok-n.ensures.spelled d told) ∙ ap (λ (k : ℕ). bytes_of 4 k) whole)
    (c.in_ok-count.ensures.spelled d first) (c.in_ok-base.ensures.bytes d second) c.in_ok-base.ensures.length

pub returns-in_err-n-clause-no_further : goal.returns-in_err-n-clause-no_further
returns-in_err-n-clause-no_further g c d told =
    area_reads c.args.layout (number_of 4 (drop c.args.layout.place d)) (g.D.Disk.view c.args.disk.now).reached (g.D.Disk.view c.number_at.new.disk).reached d (c.requires.later d told) (c.requires.laid d told) c.requires.low (omega arith)
    (λ _. number_of 4 (drop c.args.layout.place d)) (omega (arith, c.number_at.ensures.reached))

pub returns-then-n-lt8-clause-no_further : goal.returns-then-n-lt8-clause-no_further
returns-then-n-lt8-clause-no_further g c d told =
    area_reads c.args.layout (number_of 4 (drop c.args.layout.place d)) (g.D.Disk.view c.args.disk.now).reached (g.D.Disk.view c.number_at.new.disk).reached d (c.requires.later d told) (c.requires.laid d told) c.requires.low (omega arith)
    (λ _. number_of 4 (drop c.args.layout.place d)) (omega (arith, c.number_at.ensures.reached))

pub returns-in_err-count-clause-no_further : goal.returns-in_err-count-clause-no_further
returns-in_err-count-clause-no_further g c d told =
    area_reads c.args.layout c.in_ok-n.n (g.D.Disk.view c.args.disk.now).reached (g.D.Disk.view c.long_at.new.disk).reached d (c.requires.later d told) (c.requires.laid d told) c.requires.low (omega arith)
    (sym (c.in_ok-n.ensures.number d told)) (omega (arith, c.number_at.ensures.reached, c.long_at.ensures.reached))

pub returns-then-count-gt-MOST_COUNT-clause-no_further : goal.returns-then-count-gt-MOST_COUNT-clause-no_further
returns-then-count-gt-MOST_COUNT-clause-no_further g c d told =
    area_reads c.args.layout c.in_ok-n.n (g.D.Disk.view c.args.disk.now).reached (g.D.Disk.view c.long_at.new.disk).reached d (c.requires.later d told) (c.requires.laid d told) c.requires.low (omega arith)
    (sym (c.in_ok-n.ensures.number d told)) (omega (arith, c.number_at.ensures.reached, c.long_at.ensures.reached))

pub returns-in_err-base-clause-no_further : goal.returns-in_err-base-clause-no_further
returns-in_err-base-clause-no_further g c d told =
    area_reads c.args.layout c.in_ok-n.n (g.D.Disk.view c.args.disk.now).reached (g.D.Disk.view c.bytes_at.new.disk).reached d (c.requires.later d told) (c.requires.laid d told) c.requires.low (omega arith)
    (sym (c.in_ok-n.ensures.number d told)) (omega (arith, c.number_at.ensures.reached, c.long_at.ensures.reached, c.bytes_at.ensures.reached))

pub returns-clause-no_further : goal.returns-clause-no_further
returns-clause-no_further g c d told =
    area_reads c.args.layout c.in_ok-n.n (g.D.Disk.view c.args.disk.now).reached (g.D.Disk.view c.bytes_at.new.disk).reached d (c.requires.later d told) (c.requires.laid d told) c.requires.low (omega arith)
    (sym (c.in_ok-n.ensures.number d told)) (omega (arith, c.number_at.ensures.reached, c.long_at.ensures.reached, c.bytes_at.ensures.reached))
