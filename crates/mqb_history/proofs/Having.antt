-- A fact of the lists of all places, and what keeps it.
use Rattle.std.specs.List.{AllByRecursion}
use Rattle.std.specs.Option.{option_map_or}
use Rattle.std.specs.Prelude.{◌-◌, ◌==◌, ◌∷◌, [], Bool, IfSome, List, None, Option, Some, cond, false, option_map, slice_get, slice_set, suc, true, zero, ℕ}
use Rattle.mqb_base.specs.declared.queues.EntryPlace.{EntryPlace}
use Rattle.mqb_base.specs.declared.queues.EntryPlace.TheVariants as place
use Rattle.mqb_queue.specs.Lists.{Lists}
use Rattle.mqb_queue.specs.Places.{Places, Queue, changed_at, lists_at, numbered, with_lists, with_numbered}

set_holds : {X : Type 0} (Q : X → Type 0) (xs : List X) (i : ℕ) (y : X) → Q y → AllByRecursion Q xs → AllByRecursion Q (slice_set xs i y)
set_holds Q [] i y h all = tt
set_holds Q (x ∷ xs) zero y h all = (h, all.1)
set_holds Q (x ∷ xs) (suc i) y h all = (all.0, set_holds Q xs i y h all.1)

pub get_holds : {X : Type 0} (Q : X → Type 0) (xs : List X) (k : ℕ) → AllByRecursion Q xs → IfSome (slice_get xs k) Q
get_holds Q [] k all = tt
get_holds Q (x ∷ xs) zero all = all.0
get_holds Q (x ∷ xs) (suc k) all = get_holds Q xs k all.1

pub numbered_holds : {X : Type 0} (Q : X → Type 0) (xs : List X) (n : ℕ) → AllByRecursion Q xs → IfSome (numbered xs n) Q
numbered_holds Q xs n all = at (n == 0)
  where
    at : (b : Bool) → IfSome (cond b None (slice_get xs (n - 1))) Q
    at true = tt
    at false = get_holds Q xs (n - 1) all

pub with_numbered_holds : {X : Type 0} (Q : X → Type 0) (change : X → X) (xs : List X) (n : ℕ) → ((x : X) → Q x → Q (change x)) → AllByRecursion Q xs
    → AllByRecursion Q (with_numbered xs n change)
with_numbered_holds Q change xs n keeps all = at (numbered xs n) (numbered_holds Q xs n all)
  where
    at : (o : Option _) → IfSome o Q → AllByRecursion Q (option_map_or (λ x. slice_set xs (n - 1) (change x)) o xs)
    at None h = all
    at (Some x) h = set_holds Q xs (n - 1) (change x) (keeps x h) all

-- a queue's lists and those of its journal have it
abbrev pub QueueHas : (Lists → Type 0) → Queue → Type 0
QueueHas Q q = Q q.lists × Q q.journal

-- all places do
pub record PlacesHave (Q : Lists → Type 0) (p : Places) : Type 0 where
  pub queues : AllByRecursion (QueueHas Q) p.queues
  pub dead : Q p.dead
  pub dead_xact : Q p.dead_xact
  pub journal : Q p.journal

pub lists_have : (Q : Lists → Type 0) (p : Places) (at : EntryPlace) → PlacesHave Q p → IfSome (lists_at p at) Q
lists_have Q p (place.Queue n) h = of (numbered p.queues n) (numbered_holds (QueueHas Q) p.queues n h.queues)
  where
    of : (o : Option Queue) → IfSome o (QueueHas Q) → IfSome (option_map (λ q. q.lists) o) Q
    of None h = tt
    of (Some q) h = h.0
lists_have Q p (place.JournalOf n) h = of (numbered p.queues n) (numbered_holds (QueueHas Q) p.queues n h.queues)
  where
    of : (o : Option Queue) → IfSome o (QueueHas Q) → IfSome (option_map (λ q. q.journal) o) Q
    of None h = tt
    of (Some q) h = h.1
lists_have Q p place.Dead h = h.dead
lists_have Q p place.DeadXact h = h.dead_xact
lists_have Q p place.Journal h = h.journal

with_lists_have : (Q : Lists → Type 0) (p : Places) (at : EntryPlace) (l : Lists) → PlacesHave Q p → Q l → PlacesHave Q (with_lists p at l)
with_lists_have Q p (place.Queue n) l h d = record {
  queues = with_numbered_holds (QueueHas Q) (λ q. record q { lists = l }) p.queues n (λ q k. (d, k.1)) h.queues;
  dead = h.dead;
  dead_xact = h.dead_xact;
  journal = h.journal;
}
with_lists_have Q p (place.JournalOf n) l h d = record {
  queues = with_numbered_holds (QueueHas Q) (λ q. record q { journal = l }) p.queues n (λ q k. (k.0, d)) h.queues;
  dead = h.dead;
  dead_xact = h.dead_xact;
  journal = h.journal;
}
with_lists_have Q p place.Dead l h d = record { queues = h.queues; dead = d; dead_xact = h.dead_xact; journal = h.journal }
with_lists_have Q p place.DeadXact l h d = record { queues = h.queues; dead = h.dead; dead_xact = d; journal = h.journal }
with_lists_have Q p place.Journal l h d = record { queues = h.queues; dead = h.dead; dead_xact = h.dead_xact; journal = d }

pub changed_have : (Q : Lists → Type 0) (p : Places) (at : EntryPlace) (g : Lists → Lists) → ((l : Lists) → Q l → Q (g l)) → PlacesHave Q p → PlacesHave Q (changed_at p at g)
changed_have Q p at g keeps h = by (lists_at p at) (lists_have Q p at h)
  where
    by : (o : Option Lists) → IfSome o Q → PlacesHave Q (option_map_or (λ l. with_lists p at (g l)) o p)
    by None d = h
    by (Some l) d = with_lists_have Q p at (g l) h (keeps l d)

-- the lists of a queue at an index
pub queue_has : (Q : Lists → Type 0) (p : Places) (k : ℕ) → PlacesHave Q p → IfSome (option_map (λ q. q.lists) (slice_get p.queues k)) Q
queue_has Q p k h = of (slice_get p.queues k) (get_holds (QueueHas Q) p.queues k h.queues)
  where
    of : (o : Option Queue) → IfSome o (QueueHas Q) → IfSome (option_map (λ q. q.lists) o) Q
    of None h = tt
    of (Some q) h = h.0

queues_weaker : (P Q : Lists → Type 0) → ((l : Lists) → P l → Q l) → (qs : List Queue) → AllByRecursion (QueueHas P) qs → AllByRecursion (QueueHas Q) qs
queues_weaker P Q f [] h = tt
queues_weaker P Q f (q ∷ qs) h = ((f q.lists (h.0).0, f q.journal (h.0).1), queues_weaker P Q f qs h.1)

pub weaker_have : (P Q : Lists → Type 0) → ((l : Lists) → P l → Q l) → (p : Places) → PlacesHave P p → PlacesHave Q p
weaker_have P Q f p h = record { queues = queues_weaker P Q f p.queues h.queues; dead = f p.dead h.dead; dead_xact = f p.dead_xact h.dead_xact; journal = f p.journal h.journal }
