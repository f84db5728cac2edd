-- How a run of device calls goes on.
use Rattle.std.proofs.Common.{◌≡◌, inl, inr, ⊎_elim, ℕ, List, ◌∙◌, arith}
use Rattle.mqb_outside.specs.Images.{Each}
use Rattle.mqb_outside.specs.Disk.{View, Unchanged, Elapses, LeavesOnly, OnlyReads, Lawful}

-- before the first call
pub started : (old : View) (P : List ℕ → Type 0) → Lawful old → Each old.leaves P
    → LeavesOnly old old P
started old P law here = record {
  now = here;
  later = omega arith;
  each = λ c left. here c (law.only_now c left);
  before = λ t c le left. inl left;
  keeping = λ _. old.keeps_calls;
}

-- one call more, after which a crash leaves what has P
pub goes_on : (old mid new : View) (P : List ℕ → Type 0) → LeavesOnly old mid P → Elapses mid new
    → Each new.leaves P → LeavesOnly old new P
goes_on old mid new P so_far time here = record {
  now = here;
  later = omega (arith, so_far.later, time.later);
  each =
      λ c left. ⊎_elim (so_far.each c) (here c) (time.nothing_else old.moment c so_far.later left);
  before = λ t c le left. ⊎_elim (so_far.before t c le) (λ now. inr (here c now))
      (time.nothing_else t c (omega (arith, le, so_far.later)) left);
  keeping = time.keeping ∙ so_far.keeping;
}

-- one call more that adds no image
pub stays : (old mid new : View) (P : List ℕ → Type 0) → LeavesOnly old mid P → Elapses mid new
    → Each new.leaves mid.leaves → LeavesOnly old new P
stays old mid new P so_far time fewer =
    goes_on old mid new P so_far time (λ c now. so_far.now c (fewer c now))

-- one run and then another
pub then_on : (old mid new : View) (P : List ℕ → Type 0) → LeavesOnly old mid P
    → LeavesOnly mid new P → LeavesOnly old new P
then_on old mid new P first second = record {
  now = second.now;
  later = omega (arith, first.later, second.later);
  each = λ c left. ⊎_elim (first.each c) (λ has. has) (second.before old.moment c first.later left);
  before = λ t c le left. ⊎_elim (first.before t c le) (λ has. inr has)
      (second.before t c (omega (arith, le, first.later)) left);
  keeping = second.keeping ∙ first.keeping;
}

-- what has P has Q
pub weaker : (old new : View) (P Q : List ℕ → Type 0) → LeavesOnly old new P → Each P Q
    → LeavesOnly old new Q
weaker old new P Q run has = record {
  now = λ c left. has c (run.now c left);
  later = run.later;
  each = λ c left. has c (run.each c left);
  before = λ t c le left. ⊎_elim (λ was. inl was) (λ p. inr (has c p)) (run.before t c le left);
  keeping = run.keeping;
}

pub unchanged_none : (old : View) → Unchanged old old
unchanged_none old = record {
  reads = record { none_new = λ c told. told; none_lost = λ c told. told };
  leaves = record { none_new = λ c told. told; none_lost = λ c told. told };
}

pub unchanged_then : (old mid new : View) → Unchanged old mid → Unchanged mid new
    → Unchanged old new
unchanged_then old mid new first second = record {
  reads = record {
    none_new = λ c told. first.reads.none_new c (second.reads.none_new c told);
    none_lost = λ c told. second.reads.none_lost c (first.reads.none_lost c told);
  };
  leaves = record {
    none_new = λ c told. first.leaves.none_new c (second.leaves.none_new c told);
    none_lost = λ c told. second.leaves.none_lost c (first.leaves.none_lost c told);
  };
}

-- before the first call that only reads
pub reads_none : (old : View) → Lawful old → OnlyReads old old
reads_none old law = record {
  unchanged = unchanged_none old;
  run = started old old.leaves law (λ c left. left);
  switch = λ _. old.switch;
}

-- calls that only read, and then more of them
pub reads_then : (old mid new : View) → OnlyReads old mid → OnlyReads mid new → OnlyReads old new
reads_then old mid new first second = record {
  unchanged = unchanged_then old mid new first.unchanged second.unchanged;
  run = then_on old mid new old.leaves first.run
      (weaker mid new mid.leaves old.leaves second.run first.unchanged.leaves.none_new);
  switch = second.switch ∙ first.switch;
}

-- a run of calls, and then calls that only read
pub then_reads : (old mid new : View) (P : List ℕ → Type 0) → LeavesOnly old mid P
    → OnlyReads mid new → LeavesOnly old new P
then_reads old mid new P so_far reads =
    then_on old mid new P so_far (weaker mid new mid.leaves P reads.run so_far.now)

-- calls that only read leave what has P where each image before has it
pub weaken : (old new : View) (P : List ℕ → Type 0) → OnlyReads old new → Each old.leaves P
    → LeavesOnly old new P
weaken old new P reads has = weaker old new old.leaves P reads.run has

-- a call at which time stands still, and which leaves what it left, only reads
pub reads_once : (old new : View) → Lawful old → Unchanged old new → Elapses old new
    → new.switch ≡ old.switch → OnlyReads old new
reads_once old new law same time switch = record {
  unchanged = same;
  run = goes_on old old new old.leaves
      (started old old.leaves law (λ c left. left)) time same.leaves.none_new;
  switch = switch;
}
