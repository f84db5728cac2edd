-- A fact of the lists of all places, and what keeps it.
use Rattle.std.specs.List.{AllByRecursion, flat_map}
use Rattle.std.specs.Option.{option_map_or}
use Rattle.std.specs.Prelude.{◌++◌, ◌∷◌, [], IfSome, List, None, Option, Some, option_map, slice_get, ℕ}
use Rattle.mqb_base.specs.declared.message.Message.{Message}
use Rattle.mqb_base.specs.declared.queues.EntryPlace.{EntryPlace}
use Rattle.mqb_base.specs.declared.queues.EntryPlace.TheVariants as place
use Rattle.mqb_queue.specs.Lists.{Lists}
use Rattle.mqb_queue.specs.Places.{Places, Queue, changed_at, lists_at, numbered, with_lists}
use Rattle.mqb_model.proofs.Holding.{get_holds, numbered_holds, with_numbered_holds}
use Rattle.mqb_model.proofs.Members.{all_append, all_left, all_right}

-- a queue's lists and those of its journal have it
abbrev pub QueueHas : (Lists → Type 0) → Queue → Type 0
QueueHas Q q = Q q.lists × Q q.journal

-- all places do
pub record PlacesHave (Q : Lists → Type 0) (p : Places) : Type 0 where
  pub queues : AllByRecursion (QueueHas Q) p.queues
  pub dead : Q p.dead
  pub dead_xact : Q p.dead_xact
  pub journal : Q p.journal

pub lists_have : (Q : Lists → Type 0) (p : Places) (at : EntryPlace) → PlacesHave Q p → IfSome (lists_at p at) Q
lists_have Q p (place.Queue n) h = of (numbered p.queues n) (numbered_holds (QueueHas Q) p.queues n h.queues)
  where
    of : (o : Option Queue) → IfSome o (QueueHas Q) → IfSome (option_map (λ q. q.lists) o) Q
    of None h = tt
    of (Some q) h = h.0
lists_have Q p (place.JournalOf n) h = of (numbered p.queues n) (numbered_holds (QueueHas Q) p.queues n h.queues)
  where
    of : (o : Option Queue) → IfSome o (QueueHas Q) → IfSome (option_map (λ q. q.journal) o) Q
    of None h = tt
    of (Some q) h = h.1
lists_have Q p place.Dead h = h.dead
lists_have Q p place.DeadXact h = h.dead_xact
lists_have Q p place.Journal h = h.journal

with_lists_have : (Q : Lists → Type 0) (p : Places) (at : EntryPlace) (l : Lists) → PlacesHave Q p → Q l → PlacesHave Q (with_lists p at l)
with_lists_have Q p (place.Queue n) l h d = record {
  queues = with_numbered_holds (QueueHas Q) (λ q. record q { lists = l }) p.queues n (λ q k. (d, k.1)) h.queues;
  dead = h.dead;
  dead_xact = h.dead_xact;
  journal = h.journal;
}
with_lists_have Q p (place.JournalOf n) l h d = record {
  queues = with_numbered_holds (QueueHas Q) (λ q. record q { journal = l }) p.queues n (λ q k. (k.0, d)) h.queues;
  dead = h.dead;
  dead_xact = h.dead_xact;
  journal = h.journal;
}
with_lists_have Q p place.Dead l h d = record { queues = h.queues; dead = d; dead_xact = h.dead_xact; journal = h.journal }
with_lists_have Q p place.DeadXact l h d = record { queues = h.queues; dead = h.dead; dead_xact = d; journal = h.journal }
with_lists_have Q p place.Journal l h d = record { queues = h.queues; dead = h.dead; dead_xact = h.dead_xact; journal = d }

pub changed_have : (Q : Lists → Type 0) (p : Places) (at : EntryPlace) (g : Lists → Lists) → ((l : Lists) → Q l → Q (g l)) → PlacesHave Q p → PlacesHave Q (changed_at p at g)
changed_have Q p at g keeps h = by (lists_at p at) (lists_have Q p at h)
  where
    by : (o : Option Lists) → IfSome o Q → PlacesHave Q (option_map_or (λ l. with_lists p at (g l)) o p)
    by None d = h
    by (Some l) d = with_lists_have Q p at (g l) h (keeps l d)

-- the lists of a queue at an index
pub queue_has : (Q : Lists → Type 0) (p : Places) (k : ℕ) → PlacesHave Q p → IfSome (option_map (λ q. q.lists) (slice_get p.queues k)) Q
queue_has Q p k h = of (slice_get p.queues k) (get_holds (QueueHas Q) p.queues k h.queues)
  where
    of : (o : Option Queue) → IfSome o (QueueHas Q) → IfSome (option_map (λ q. q.lists) o) Q
    of None h = tt
    of (Some q) h = h.0

queues_weaker : (P Q : Lists → Type 0) → ((l : Lists) → P l → Q l) → (qs : List Queue) → AllByRecursion (QueueHas P) qs → AllByRecursion (QueueHas Q) qs
queues_weaker P Q f [] h = tt
queues_weaker P Q f (q ∷ qs) h = ((f q.lists (h.0).0, f q.journal (h.0).1), queues_weaker P Q f qs h.1)

pub weaker_have : (P Q : Lists → Type 0) → ((l : Lists) → P l → Q l) → (p : Places) → PlacesHave P p → PlacesHave Q p
weaker_have P Q f p h = record { queues = queues_weaker P Q f p.queues h.queues; dead = f p.dead h.dead; dead_xact = f p.dead_xact h.dead_xact; journal = f p.journal h.journal }

-- Two facts are one.

queues_both : (P Q : Lists → Type 0) (qs : List Queue) → AllByRecursion (QueueHas P) qs → AllByRecursion (QueueHas Q) qs → AllByRecursion (QueueHas (λ l. P l × Q l)) qs
queues_both P Q [] a b = tt
queues_both P Q (q ∷ qs) a b = ((((a.0).0, (b.0).0), ((a.0).1, (b.0).1)), queues_both P Q qs a.1 b.1)

pub both_have : (P Q : Lists → Type 0) (p : Places) → PlacesHave P p → PlacesHave Q p → PlacesHave (λ l. P l × Q l) p
both_have P Q p a b = record {
  queues = queues_both P Q p.queues a.queues b.queues;
  dead = (a.dead, b.dead);
  dead_xact = (a.dead_xact, b.dead_xact);
  journal = (a.journal, b.journal);
}

-- A fact of the messages of all places is one of the lists of all places.
module _ (of : Lists → List Message) (P : Message → Type 0) where
  -- the messages of queues
  abbrev pub in_queues : List Queue → List Message
  in_queues qs = flat_map (λ q. of q.lists ++ of q.journal) qs

  -- and of all places
  abbrev pub in_places : Places → List Message
  in_places p = in_queues p.queues ++ of p.dead ++ of p.dead_xact ++ of p.journal

  split_queues : (qs : List Queue) → AllByRecursion P (in_queues qs) → AllByRecursion (QueueHas (λ l. AllByRecursion P (of l))) qs
  split_queues [] h = tt
  split_queues (q ∷ qs) h = let both = all_left P (of q.lists ++ of q.journal) (in_queues qs) h in (
    (all_left P (of q.lists) (of q.journal) both, all_right P (of q.lists) (of q.journal) both),
    split_queues qs (all_right P (of q.lists ++ of q.journal) (in_queues qs) h),
  )

  pub split_places : (p : Places) → AllByRecursion P (in_places p) → PlacesHave (λ l. AllByRecursion P (of l)) p
  split_places p h = record {
    queues = split_queues p.queues (all_left P (in_queues p.queues) (of p.dead) two);
    dead = all_right P (in_queues p.queues) (of p.dead) two;
    dead_xact = all_right P (in_queues p.queues ++ of p.dead) (of p.dead_xact) three;
    journal = all_right P (in_queues p.queues ++ of p.dead ++ of p.dead_xact) (of p.journal) h;
  }
    where
      three : AllByRecursion P (in_queues p.queues ++ of p.dead ++ of p.dead_xact)
      three = all_left P (in_queues p.queues ++ of p.dead ++ of p.dead_xact) (of p.journal) h

      two : AllByRecursion P (in_queues p.queues ++ of p.dead)
      two = all_left P (in_queues p.queues ++ of p.dead) (of p.dead_xact) three

  join_queues : (qs : List Queue) → AllByRecursion (QueueHas (λ l. AllByRecursion P (of l))) qs → AllByRecursion P (in_queues qs)
  join_queues [] h = tt
  join_queues (q ∷ qs) h = all_append P (of q.lists ++ of q.journal) (in_queues qs) (all_append P (of q.lists) (of q.journal) (h.0).0 (h.0).1) (join_queues qs h.1)

  pub join_places : (p : Places) → PlacesHave (λ l. AllByRecursion P (of l)) p → AllByRecursion P (in_places p)
  join_places p h = all_append P (in_queues p.queues ++ of p.dead ++ of p.dead_xact) (of p.journal)
      (all_append P (in_queues p.queues ++ of p.dead) (of p.dead_xact)
      (all_append P (in_queues p.queues) (of p.dead) (join_queues p.queues h.queues) h.dead) h.dead_xact) h.journal
