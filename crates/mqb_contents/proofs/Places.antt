-- One place is changed, and changed back.
use Rattle.std.proofs.Common.{◌≡◌, ℕ, ◌-◌, List, set, Option, Some, None, refl, sym, ap, ◌∙◌}
use Rattle.std.specs.Option.{option_map, option_map_or}
use Rattle.std.proofs.lemmas.List.{set-set}
use Rattle.std.proofs.lemmas.Option.{none-some}
use Rattle.mqb_base.specs.declared.queues.EntryPlace.{EntryPlace}
use Rattle.mqb_base.specs.declared.queues.EntryPlace.TheVariants as entry
use Rattle.mqb_queue.specs.Lists.{Lists}
use Rattle.mqb_queue.specs.Places.{Places, Queue, changed_at, lists_at, numbered, with_lists, with_numbered}
use Rattle.mqb_queue.proofs.Changed.{given, lists_given, lists_restored}

-- a member that is there, seen by a part of it
with_part : {X Y P : Type 0} (part : X → Y) (o : Option X) (y : Y) → option_map part o ≡ Some y → ((x : X) → o ≡ Some x → P) → P
with_part part None y is then = absurd (none-some y is)
with_part part (Some x) y is then = then x refl

written : {X : Type 0} (xs : List X) (n : ℕ) (x : X) (change : X → X) → numbered xs n ≡ Some x → with_numbered xs n change ≡ set xs (n - 1) (change x)
written {X} xs n x change is = ap (λ (o : Option X). option_map_or (λ y. set xs (n - 1) (change y)) o xs) is

numbered_twice : {X : Type 0} (xs : List X) (n : ℕ) (x : X) (f g h : X → X) → numbered xs n ≡ Some x → g (f x) ≡ h x
    → with_numbered (with_numbered xs n f) n g ≡ with_numbered xs n h
numbered_twice {X} xs n x f g h is same =
    written (with_numbered xs n f) n (f x) g (given xs n x f is)
    ∙ (ap (λ (ys : List X). set ys (n - 1) (g (f x))) (written xs n x f is)
    ∙ (set-set xs (n - 1) (f x) (g (f x))
    ∙ (ap (λ (y : X). set xs (n - 1) y) same ∙ sym (written xs n x h is))))

lists_twice : (s : Places) (at : EntryPlace) (l a b : Lists) → lists_at s at ≡ Some l → with_lists (with_lists s at a) at b ≡ with_lists s at b
lists_twice s (entry.Queue n) l a b is = with_part (λ q. q.lists) (numbered s.queues n) l is
    (λ q at_q. ap (λ (qs : List Queue). record s { queues = qs }) (numbered_twice s.queues n q (λ r. record r { lists = a }) (λ r. record r { lists = b }) (λ r. record r { lists = b }) at_q refl))
lists_twice s (entry.JournalOf n) l a b is = with_part (λ q. q.journal) (numbered s.queues n) l is
    (λ q at_q. ap (λ (qs : List Queue). record s { queues = qs }) (numbered_twice s.queues n q (λ r. record r { journal = a }) (λ r. record r { journal = b }) (λ r. record r { journal = b }) at_q refl))
lists_twice s entry.Dead l a b is = refl
lists_twice s entry.DeadXact l a b is = refl
lists_twice s entry.Journal l a b is = refl

pub place_changed : (s : Places) (at : EntryPlace) (l : Lists) (change : Lists → Lists) → lists_at s at ≡ Some l → changed_at s at change ≡ with_lists s at (change l)
place_changed s at l change is = ap (λ (o : Option Lists). option_map_or (λ m. with_lists s at (change m)) o s) is

-- the lists of a place that was changed
pub place_there : (s : Places) (at : EntryPlace) (l : Lists) (change : Lists → Lists) → lists_at s at ≡ Some l → lists_at (changed_at s at change) at ≡ Some (change l)
place_there s at l change is = ap (λ (t : Places). lists_at t at) (place_changed s at l change is) ∙ lists_given s at l (change l) is

pub place_back : (s : Places) (at : EntryPlace) (l : Lists) (change back : Lists → Lists) → lists_at s at ≡ Some l → back (change l) ≡ l
    → changed_at (changed_at s at change) at back ≡ s
place_back s at l change back is same =
    place_changed (changed_at s at change) at (change l) back (place_there s at l change is)
    ∙ (ap (λ (t : Places). with_lists t at (back (change l))) (place_changed s at l change is)
    ∙ (lists_twice s at l (change l) (back (change l)) is
    ∙ (ap (with_lists s at) same ∙ lists_restored s at l is)))
