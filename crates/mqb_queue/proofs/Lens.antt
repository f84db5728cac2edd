-- One queue of a list is written, and one place.
use Rattle.std.proofs.Common.{◌≡◌, ℕ, zero, suc, ◌<◌, ◌==◌, Bool, true, false, cond, List, [], ◌∷◌, length, get_or, set, map, Option, Some, None, Result, Ok, Err, refl, sym, ap, ◌∙◌, subst, arith}
use Rattle.std.specs.Prelude.{slice_get, ◌-◌}
use Rattle.std.specs.List.{AllPairs}
use Rattle.std.specs.Option.{option_map, option_map_or, option_and_then, is_some, IsSome}
use Rattle.std.specs.Result.{OnErr, OnOk}
use Rattle.std.proofs.lemmas.Bool.{true≢false}
use Rattle.std.proofs.lemmas.List.{map-set, length-map}
use Rattle.std.proofs.lemmas.Option.{slice_get-map, slice_get_within, none-some, same_Some}
use Rattle.mqb_base.specs.Rooms.{Room, WithRooms}
use Rattle.mqb_base.specs.Same.{same_ignoring_case}
use Rattle.mqb_base.specs.declared.queues.EntryPlace.{EntryPlace}
use Rattle.mqb_base.specs.declared.queues.EntryPlace.TheVariants as entry
use Rattle.mqb_queue.specs.declared.queue.Queue as code
use Rattle.mqb_queue.specs.Lists.{Lists, ListRooms}
use Rattle.mqb_queue.specs.Lending.{with_place}
use Rattle.mqb_queue.specs.Places.{Places, PlaceRooms, Queue, QueueRooms, NamesDiffer, numbered, with_numbered, lists_at, with_lists, changed_at, rooms_at, with_rooms}
use Rattle.mqb_queue.specs.Seen.{queue_of, rooms_of, seen}

pub set_same : {X : Type 0} (xs : List X) (k : ℕ) (x : X) → slice_get xs k ≡ Some x → set xs k x ≡ xs
set_same [] k x got = refl
set_same (y ∷ xs) zero x got = ap (λ z. z ∷ xs) (sym (same_Some y x got))
set_same (y ∷ xs) (suc k) x got = ap (λ ys. y ∷ ys) (set_same xs k x got)

pub numbered_is : {X : Type 0} (xs : List X) (number : ℕ) → (number == 0) ≡ false → numbered xs number ≡ slice_get xs (number - 1)
numbered_is xs number some = ap (λ b. cond b None (slice_get xs (number - 1))) some

-- a member of a number that is there
pub is_there : {X : Type 0} (xs : List X) (number : ℕ) (x : X) → numbered xs number ≡ Some x → ((number == 0) ≡ false) × (slice_get xs (number - 1) ≡ Some x)
is_there xs number x is = at (number == 0) refl is
  where
    at : (b : Bool) → (number == 0) ≡ b → cond b None (slice_get xs (number - 1)) ≡ Some x → ((number == 0) ≡ false) × (slice_get xs (number - 1) ≡ Some x)
    at true zero_is h = absurd (none-some x h)
    at false some h = (some, h)

-- over the queue of a number
module _ (items : List code.Queue) (number : ℕ) (q : code.Queue) (some : (number == 0) ≡ false) (got : slice_get items (number - 1) ≡ Some q) where
  pub read : {Y : Type 0} (f : code.Queue → Y) → numbered (map f items) number ≡ Some (f q)
  read f = numbered_is (map f items) number some ∙ (slice_get-map f items (number - 1) ∙ ap (option_map f) got)

  pub written : {Y : Type 0} (f : code.Queue → Y) (change : Y → Y) (r : code.Queue) → f r ≡ change (f q)
      → map f (set items (number - 1) r) ≡ with_numbered (map f items) number change
  written {Y} f change r is =
      map-set f items (number - 1) r
      ∙ (ap (λ (y : Y). set (map f items) (number - 1) y) is
      ∙ sym (ap (λ (o : Option Y). option_map_or (λ y. set (map f items) (number - 1) (change y)) o (map f items)) (read f)))

  pub still_differ : (r : code.Queue) → r.plan ≡ q.plan → NamesDiffer (map queue_of items) → NamesDiffer (map queue_of (set items (number - 1) r))
  still_differ r same differ =
      let name_of : Queue → List ℕ = λ s. s.plan.name in
      let names : map name_of (map queue_of (set items (number - 1) r)) ≡ map name_of (map queue_of items) =
      ap (map name_of) (map-set queue_of items (number - 1) r)
      ∙ (map-set name_of (map queue_of items) (number - 1) (queue_of r)
      ∙ set_same (map name_of (map queue_of items)) (number - 1) r.plan.name
      (slice_get-map name_of (map queue_of items) (number - 1)
      ∙ (ap (option_map name_of) (slice_get-map queue_of items (number - 1) ∙ ap (option_map queue_of) got)
      ∙ ap (λ p. Some p.name) (sym same)))) in
      subst (λ ns. AllPairs (λ a b. same_ignoring_case a b ≡ false) ns) (sym names) differ

-- over the queue of a number that a place names
module _ (queues : Room code.Queue) (dead dead_xact journal : WithRooms Lists ListRooms) (s : WithRooms Places PlaceRooms)
    (view : seen queues dead dead_xact journal ≡ s) (number : ℕ) (at : EntryPlace) where
  abbrev v : WithRooms Places PlaceRooms
  v = seen queues dead dead_xact journal

  inside : {Y : Type 0} (part : Queue → Y) → IsSome (option_map part (numbered (map queue_of queues.items) number))
      → ((number == 0) ≡ false) × (number - 1 < length queues.items)
  inside {Y} part there = with_member (numbered (map queue_of queues.items) number) refl there
    where
      with_member : (o : Option Queue) → numbered (map queue_of queues.items) number ≡ o → IsSome (option_map part o)
          → ((number == 0) ≡ false) × (number - 1 < length queues.items)
      with_member None is h = absurd (true≢false (sym h))
      with_member (Some r) is h =
          let found = is_there (map queue_of queues.items) number r is in
          (found.0, subst (λ n. number - 1 < n) (length-map queues.items queue_of) (slice_get_within (map queue_of queues.items) (number - 1) r found.1))

  pub queue_inside : at ≡ entry.Queue number → IsSome (lists_at s.lists at) → ((number == 0) ≡ false) × (number - 1 < length queues.items)
  queue_inside is there =
      inside (λ q. q.lists) (subst (λ p. IsSome (lists_at v.lists p)) is (subst (λ (t : WithRooms Places PlaceRooms). IsSome (lists_at t.lists at)) (sym view) there))

  pub journal_inside : at ≡ entry.JournalOf number → IsSome (lists_at s.lists at) → ((number == 0) ≡ false) × (number - 1 < length queues.items)
  journal_inside is there =
      inside (λ q. q.journal) (subst (λ p. IsSome (lists_at v.lists p)) is (subst (λ (t : WithRooms Places PlaceRooms). IsSome (lists_at t.lists at)) (sym view) there))

  module _ (q : code.Queue) (some : (number == 0) ≡ false) (got : slice_get queues.items (number - 1) ≡ Some q) where
    -- a place of a manager in which one queue is another
    abbrev with_item : code.Queue → WithRooms Places PlaceRooms
    with_item r = seen (record queues { items = set queues.items (number - 1) r }) dead dead_xact journal

    changed_to : (r : code.Queue) (change : Queue → Queue) (more : QueueRooms → QueueRooms) → queue_of r ≡ change (queue_of q) → rooms_of r ≡ more (rooms_of q)
        → with_item r ≡ record {
          lists = record v.lists { queues = with_numbered v.lists.queues number change };
          rooms = record v.rooms { queues = with_numbered v.rooms.queues number more };
        }
    changed_to r change more lists rooms =
        ap (λ (qs : List Queue). record { lists = record v.lists { queues = qs }; rooms = (with_item r).rooms })
        (written queues.items number q some got queue_of change r lists)
        ∙ ap (λ (rs : List QueueRooms). record { lists = record v.lists { queues = with_numbered v.lists.queues number change }; rooms = record v.rooms { queues = rs } })
        (written queues.items number q some got rooms_of more r rooms)

    pub queue_lists : at ≡ entry.Queue number → lists_at s.lists at ≡ Some q.lists.lists
    queue_lists is =
        ap (λ (t : WithRooms Places PlaceRooms). lists_at t.lists at) (sym view)
        ∙ (ap (λ p. lists_at v.lists p) is ∙ ap (option_map (λ (r : Queue). r.lists)) (read queues.items number q some got queue_of))

    pub queue_rooms : at ≡ entry.Queue number → rooms_at s.rooms at ≡ Some q.lists.rooms
    queue_rooms is =
        ap (λ (t : WithRooms Places PlaceRooms). rooms_at t.rooms at) (sym view)
        ∙ (ap (λ p. rooms_at v.rooms p) is ∙ ap (option_map (λ (r : QueueRooms). r.lists)) (read queues.items number q some got rooms_of))

    pub queue_lent : at ≡ entry.Queue number → (w : WithRooms Lists ListRooms) → with_item (record q { lists = w }) ≡ with_place s at w
    queue_lent is w =
        changed_to (record q { lists = w }) (λ r. record r { lists = w.lists }) (λ r. record r { lists = w.rooms }) refl refl
        ∙ (ap (λ p. with_place v p w) (sym is) ∙ ap (λ (t : WithRooms Places PlaceRooms). with_place t at w) view)

    pub journal_lists : at ≡ entry.JournalOf number → lists_at s.lists at ≡ Some q.journal.lists
    journal_lists is =
        ap (λ (t : WithRooms Places PlaceRooms). lists_at t.lists at) (sym view)
        ∙ (ap (λ p. lists_at v.lists p) is ∙ ap (option_map (λ (r : Queue). r.journal)) (read queues.items number q some got queue_of))

    pub journal_rooms : at ≡ entry.JournalOf number → rooms_at s.rooms at ≡ Some q.journal.rooms
    journal_rooms is =
        ap (λ (t : WithRooms Places PlaceRooms). rooms_at t.rooms at) (sym view)
        ∙ (ap (λ p. rooms_at v.rooms p) is ∙ ap (option_map (λ (r : QueueRooms). r.journal)) (read queues.items number q some got rooms_of))

    pub journal_lent : at ≡ entry.JournalOf number → (w : WithRooms Lists ListRooms) → with_item (record q { journal = w }) ≡ with_place s at w
    journal_lent is w =
        changed_to (record q { journal = w }) (λ r. record r { journal = w.lists }) (λ r. record r { journal = w.rooms }) refl refl
        ∙ (ap (λ p. with_place v p w) (sym is) ∙ ap (λ (t : WithRooms Places PlaceRooms). with_place t at w) view)
