-- What is noted follows what is tried by the definitions.
use Rattle.std.proofs.Common.{refl, ap, sym, subst, arith}
use Rattle.std.proofs.lemmas.Bool.{eqb-true}
use Rattle.std.proofs.lemmas.List.Elements.{recursion_from_All}
use Rattle.std.specs.List.{AllByRecursion, last_or}
use Rattle.std.specs.Option.{option_map_or}
use Rattle.std.specs.Prelude.{[], ◌+◌, ◌<◌, ◌==◌, ◌∷◌, ◌≡◌, All, AllPairs, Bool, Err, List, None, Ok, Option, Result, Some, cond, false, filter, is_some, map, option_map, suc, true, ℕ}
use Rattle.mqb_base.specs.declared.message.Message.{Message}
use Rattle.mqb_base.specs.declared.queues.EntryPlace.TheVariants as place
use Rattle.mqb_orders.specs.Rows.{Row}
use Rattle.mqb_orders.specs.declared.keys.OutKey.{OutKey}
use Rattle.mqb_queue.specs.Lists.{Lists, count}
use Rattle.mqb_queue.specs.Places.{Places, Queue, changed_at, lists_at, numbered, with_lists}
use Rattle.mqb_queue.proofs.Others.{one_place}
use Rattle.mqb_model.specs.calls.Commit.{Trial, trial_of}
use Rattle.mqb_model.specs.state.State.{State}
use Rattle.mqb_model.specs.state.Valid.{IsGivenOrdinal, IsValidState}
use Rattle.mqb_trying.specs.declared.notes.Take.{Take}
use Rattle.mqb_trying.specs.Notes.{Noted, nothing_noted, record_op}
use Rattle.mqb_trying.specs.Sends.{count_in, end_of, last_end}
use Rattle.mqb_trying.proofs.Ends.{Rise, of, ordinal_of}
use Rattle.mqb_trying.proofs.Left.{left_in, nothing_taken}
use Rattle.mqb_trying.proofs.Marks.{IsOrdered, first_ordered}
use Rattle.mqb_trying.proofs.Names.{names}

-- the messages of the queue of a number
abbrev pub queue_at : State → ℕ → Option Lists
queue_at s number = lists_at s.places (place.Queue number)

abbrev pub durable : Lists → List Message
durable l = l.durable

-- of each queue the takes are in order
abbrev pub InOrder : State → ℕ → List Take → Type 0
InOrder s now takes = (number : ℕ) (q : Queue) → numbered s.places.queues number ≡ Some q → IsOrdered takes number now q.lists.durable

pub record Follows (s : State) (now : ℕ) (n : Noted) (t : Trial) : Type 0 where
  -- names lead where they led
  pub leads : names t.sending ≡ names s
  pub takes_lead : names t.taking ≡ names s
  -- the counters
  pub roll : t.sending.roll ≡ s.roll
  pub number : t.sending.next_number ≡ n.next_number
  pub ordinal : t.sending.next_ordinal ≡ n.next_ordinal
  -- how many messages a queue has, how far sequences came, and what is left to be taken
  pub counts : (number : ℕ) → option_map count (queue_at t.sending number) ≡ option_map (λ l. count l + count_in number n.puts) (queue_at s number)
  pub ends : (key : OutKey) → option_map end_of (last_or None (filter (of key) t.sending.outs)) ≡ last_end s n.ends key.peer key.destination
  pub rise : Rise t.sending.next_ordinal (map ordinal_of t.sending.outs)
  pub left : (number : ℕ) → option_map durable (queue_at t.taking number) ≡ option_map (λ l. left_in n.takes number l.durable) (queue_at s number)
  pub order : InOrder s now n.takes
  -- the record and the answer
  pub ops : t.ops ≡ map record_op n.ops
  pub done : t.done ≡ n.done

-- both pass, or both fail for the same reason
abbrev pub Agrees : {E : Type 0} → State → ℕ → Result Noted E → Result Trial E → Type 0
Agrees s now (Ok n) (Ok t) = Follows s now n t
Agrees s now (Err a) (Err b) = a ≡ b
Agrees s now (Ok n) (Err b) = ⊥
Agrees s now (Err a) (Ok t) = ⊥

-- In the beginning.

all_mapped : {X Y : Type 0} (P : Y → Type 0) (f : X → Y) (xs : List X) → AllByRecursion (λ x. P (f x)) xs → AllByRecursion P (map f xs)
all_mapped P f [] h = tt
all_mapped P f (x ∷ xs) h = (h.0, all_mapped P f xs h.1)

rise_from : (next : ℕ) (rows : List Row) → AllPairs (λ a b. a.sequence.ordinal < b.sequence.ordinal) rows → All (IsGivenOrdinal next) rows → Rise next (map ordinal_of rows)
rise_from next [] pairs given = tt
rise_from next (r ∷ rows) pairs given = (
  (given 0 r (omega arith)).below,
  all_mapped (λ m. ordinal_of r < m) ordinal_of rows (recursion_from_All (λ x. ordinal_of r < ordinal_of x) rows (λ k d lt. pairs 0 (suc k) d (omega arith) (omega (arith, lt)))),
  rise_from next rows (λ i j d less lt. pairs (suc i) (suc j) d (omega (arith, less)) (omega (arith, lt))) (λ k d lt. given (suc k) d (omega (arith, lt))),
)

pub follows_first : (s : State) (now : ℕ) → IsValidState s → Follows s now (nothing_noted s) (trial_of s)
follows_first s now v = record {
  leads = refl;
  takes_lead = refl;
  roll = refl;
  number = refl;
  ordinal = refl;
  counts = λ number. none_put (queue_at s number);
  ends = λ key. refl;
  rise = rise_from s.next_ordinal s.outs v.ordinals_rise v.ordinals_given;
  left = λ number. none_taken number (queue_at s number);
  order = λ number q there. first_ordered number now q.lists.durable;
  ops = refl;
  done = refl;
}
  where
    none_put : (o : Option Lists) → option_map count o ≡ option_map (λ l. count l + 0) o
    none_put None = refl
    none_put (Some l) = let same : count l ≡ count l + 0 = omega arith in ap (λ n. Some n) same

    none_taken : (number : ℕ) (o : Option Lists) → option_map durable o ≡ option_map (λ l. left_in [] number l.durable) o
    none_taken number None = refl
    none_taken number (Some l) = ap (λ ms. Some ms) (sym (nothing_taken number 0 l.durable))

-- The messages of a queue, where those of one are changed.
pub changed_lists : (p : Places) (number other : ℕ) (f : Lists → Lists)
    → lists_at (changed_at p (place.Queue number) f) (place.Queue other)
    ≡ cond (number == other) (option_map f (lists_at p (place.Queue number))) (lists_at p (place.Queue other))
changed_lists p number other f = at (lists_at p (place.Queue number)) refl
  where
    absent : (b : Bool) → (number == other) ≡ b → lists_at p (place.Queue number) ≡ None → lists_at p (place.Queue other) ≡ cond b None (lists_at p (place.Queue other))
    absent true same none = subst (λ k. lists_at p (place.Queue k) ≡ None) (eqb-true number other same) none
    absent false same none = refl

    at : (o : Option Lists) → lists_at p (place.Queue number) ≡ o
        → lists_at (option_map_or (λ l. with_lists p (place.Queue number) (f l)) o p) (place.Queue other)
        ≡ cond (number == other) (option_map f o) (lists_at p (place.Queue other))
    at None e = absent (number == other) refl e
    at (Some l) e = one_place p (place.Queue number) (place.Queue other) (f l) (ap is_some e)
