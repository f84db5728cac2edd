-- One place is changed.
use Rattle.std.proofs.Common.{◌≡◌, ℕ, ◌<◌, ◌==◌, zero, suc, Bool, true, false, cond, List, [], ◌∷◌, length, set, Option, Some, None, Result, Ok, Err, refl, sym, ap, ◌∙◌, subst, arith}
use Rattle.std.specs.Prelude.{slice_get, ◌-◌}
use Rattle.std.specs.Option.{option_map, option_map_or, IsSome}
use Rattle.std.specs.Result.{OnErr, OnOk}
use Rattle.std.proofs.lemmas.Bool.{true≢false}
use Rattle.std.proofs.lemmas.Option.{slice_get_within, none-some, same_Some}
use Rattle.mqb_base.specs.Rooms.{WithRooms}
use Rattle.mqb_base.specs.declared.message.Lane.{Lane}
use Rattle.mqb_base.specs.declared.queues.EntryPlace.{EntryPlace}
use Rattle.mqb_base.specs.declared.queues.EntryPlace.TheVariants as entry
use Rattle.mqb_queue.specs.Lists.{Lists, ListRooms, messages_in, room_in, spare}
use Rattle.mqb_queue.specs.Lending.{with_place}
use Rattle.mqb_queue.specs.Places.{Places, PlaceRooms, Queue, QueueRooms, numbered, with_numbered, lists_at, with_lists, changed_at, rooms_at, with_rooms, with_more_room, spare_at}
use Rattle.mqb_queue.proofs.Lens.{set_same, numbered_is, is_there}

pub unchanged : {X : Type 0} (xs : List X) (number : ℕ) (x : X) (change : X → X) → numbered xs number ≡ Some x → change x ≡ x → with_numbered xs number change ≡ xs
unchanged {X} xs number x change is same =
    ap (λ (o : Option X). option_map_or (λ y. set xs (number - 1) (change y)) o xs) is
    ∙ (ap (λ y. set xs (number - 1) y) same ∙ set_same xs (number - 1) x (is_there xs number x is).1)

-- a member that is there, seen by a part of it
with_part : {X Y P : Type 0} (part : X → Y) (o : Option X) (y : Y) → option_map part o ≡ Some y → ((x : X) → o ≡ Some x → part x ≡ y → P) → P
with_part part None y is then = absurd (none-some y is)
with_part part (Some x) y is then = then x refl (same_Some (part x) y is)

pub lists_restored : (s : Places) (at : EntryPlace) (l : Lists) → lists_at s at ≡ Some l → with_lists s at l ≡ s
lists_restored s (entry.Queue number) l is = with_part (λ q. q.lists) (numbered s.queues number) l is
    (λ q at_q same. ap (λ qs. record s { queues = qs }) (unchanged s.queues number q (λ r. record r { lists = l }) at_q (ap (λ m. record q { lists = m }) (sym same))))
lists_restored s (entry.JournalOf number) l is = with_part (λ q. q.journal) (numbered s.queues number) l is
    (λ q at_q same. ap (λ qs. record s { queues = qs }) (unchanged s.queues number q (λ r. record r { journal = l }) at_q (ap (λ m. record q { journal = m }) (sym same))))
lists_restored s entry.Dead l is = ap (λ m. record s { dead = m }) (sym (same_Some s.dead l is))
lists_restored s entry.DeadXact l is = ap (λ m. record s { dead_xact = m }) (sym (same_Some s.dead_xact l is))
lists_restored s entry.Journal l is = ap (λ m. record s { journal = m }) (sym (same_Some s.journal l is))

pub rooms_restored : (s : PlaceRooms) (at : EntryPlace) (l : ListRooms) → rooms_at s at ≡ Some l → with_rooms s at l ≡ s
rooms_restored s (entry.Queue number) l is = with_part (λ q. q.lists) (numbered s.queues number) l is
    (λ q at_q same. ap (λ qs. record s { queues = qs }) (unchanged s.queues number q (λ r. record r { lists = l }) at_q (ap (λ m. record q { lists = m }) (sym same))))
rooms_restored s (entry.JournalOf number) l is = with_part (λ q. q.journal) (numbered s.queues number) l is
    (λ q at_q same. ap (λ qs. record s { queues = qs }) (unchanged s.queues number q (λ r. record r { journal = l }) at_q (ap (λ m. record q { journal = m }) (sym same))))
rooms_restored s entry.Dead l is = ap (λ m. record s { dead = m }) (sym (same_Some s.dead l is))
rooms_restored s entry.DeadXact l is = ap (λ m. record s { dead_xact = m }) (sym (same_Some s.dead_xact l is))
rooms_restored s entry.Journal l is = ap (λ m. record s { journal = m }) (sym (same_Some s.journal l is))

get-set : {X : Type 0} (xs : List X) (k : ℕ) (y : X) → k < length xs → slice_get (set xs k y) k ≡ Some y
get-set [] k y h = absurd (omega arith)
get-set (x ∷ xs) zero y h = refl
get-set (x ∷ xs) (suc k) y h = get-set xs k y (omega arith)

pub given : {X : Type 0} (xs : List X) (number : ℕ) (x : X) (change : X → X) → numbered xs number ≡ Some x → numbered (with_numbered xs number change) number ≡ Some (change x)
given {X} xs number x change is =
    let there = is_there xs number x is in
    ap (λ (ys : List X). numbered ys number) (ap (λ (o : Option X). option_map_or (λ y. set xs (number - 1) (change y)) o xs) is)
    ∙ (numbered_is (set xs (number - 1) (change x)) number there.0
    ∙ get-set xs (number - 1) (change x) (slice_get_within xs (number - 1) x there.1))

-- a place that is given lists has them
pub lists_given : (s : Places) (at : EntryPlace) (l m : Lists) → lists_at s at ≡ Some l → lists_at (with_lists s at m) at ≡ Some m
lists_given s (entry.Queue number) l m is = with_part (λ q. q.lists) (numbered s.queues number) l is
    (λ q at_q same. ap (option_map (λ (r : Queue). r.lists)) (given s.queues number q (λ r. record r { lists = m }) at_q))
lists_given s (entry.JournalOf number) l m is = with_part (λ q. q.journal) (numbered s.queues number) l is
    (λ q at_q same. ap (option_map (λ (r : Queue). r.journal)) (given s.queues number q (λ r. record r { journal = m }) at_q))
lists_given s entry.Dead l m is = refl
lists_given s entry.DeadXact l m is = refl
lists_given s entry.Journal l m is = refl

pub rooms_given : (s : PlaceRooms) (at : EntryPlace) (l m : ListRooms) → rooms_at s at ≡ Some l → rooms_at (with_rooms s at m) at ≡ Some m
rooms_given s (entry.Queue number) l m is = with_part (λ q. q.lists) (numbered s.queues number) l is
    (λ q at_q same. ap (option_map (λ (r : QueueRooms). r.lists)) (given s.queues number q (λ r. record r { lists = m }) at_q))
rooms_given s (entry.JournalOf number) l m is = with_part (λ q. q.journal) (numbered s.queues number) l is
    (λ q at_q same. ap (option_map (λ (r : QueueRooms). r.journal)) (given s.queues number q (λ r. record r { journal = m }) at_q))
rooms_given s entry.Dead l m is = refl
rooms_given s entry.DeadXact l m is = refl
rooms_given s entry.Journal l m is = refl

pub on_ok : {A E P Q : Type 0} (r : Result A E) → OnOk r P → (P → Q) → OnOk r Q
on_ok (Ok x) p f = f p
on_ok (Err e) p f = p

pub on_err : {A E P Q : Type 0} (r : Result A E) → OnErr r P → (P → Q) → OnErr r Q
on_err (Ok x) p f = p
on_err (Err e) p f = f p

-- over a place that is there, and what it has
module _ (s : WithRooms Places PlaceRooms) (at : EntryPlace) (l m : WithRooms Lists ListRooms) (lists : lists_at s.lists at ≡ Some l.lists)
    (rooms : rooms_at s.rooms at ≡ Some l.rooms) where
  pub restored : m ≡ l → with_place s at m ≡ s
  restored same =
      ap (with_place s at) same
      ∙ (ap (λ (x : Places). record { lists = x; rooms = with_rooms s.rooms at l.rooms }) (lists_restored s.lists at l.lists lists)
      ∙ ap (λ (r : PlaceRooms). record { lists = s.lists; rooms = r }) (rooms_restored s.rooms at l.rooms rooms))

  -- the lists are changed
  pub lists_changed : (f : Lists → Lists) → m.lists ≡ f l.lists → with_lists s.lists at m.lists ≡ changed_at s.lists at f
  lists_changed f is =
      ap (with_lists s.lists at) is
      ∙ sym (ap (λ (o : Option Lists). option_map_or (λ x. with_lists s.lists at (f x)) o s.lists) lists)

  pub only_lists : (f : Lists → Lists) → m ≡ record l { lists = f l.lists } → with_place s at m ≡ record s { lists = changed_at s.lists at f }
  only_lists f is =
      ap (λ (r : PlaceRooms). record { lists = with_lists s.lists at m.lists; rooms = r })
      (ap (λ (x : WithRooms Lists ListRooms). with_rooms s.rooms at x.rooms) is ∙ rooms_restored s.rooms at l.rooms rooms)
      ∙ ap (λ (x : Places). record s { lists = x }) (lists_changed f (ap (λ (x : WithRooms Lists ListRooms). x.lists) is))

  -- room is made
  pub rooms_made : (more : Lists → ListRooms → ListRooms) → m.rooms ≡ more l.lists l.rooms → with_rooms s.rooms at m.rooms ≡ with_more_room s at more
  rooms_made more is =
      ap (with_rooms s.rooms at) is
      ∙ (sym (ap (λ (o : Option ListRooms). option_map_or (λ r. with_rooms s.rooms at (more l.lists r)) o s.rooms) rooms)
      ∙ sym (ap (λ (o : Option Lists). option_map_or (λ x. option_map_or (λ r. with_rooms s.rooms at (more x r)) (rooms_at s.rooms at) s.rooms) o s.rooms) lists))

  pub only_rooms : (more : Lists → ListRooms → ListRooms) → m ≡ record l { rooms = more l.lists l.rooms }
      → with_place s at m ≡ record s { rooms = with_more_room s at more }
  only_rooms more is =
      ap (λ (x : Places). record { lists = x; rooms = with_rooms s.rooms at m.rooms })
      (ap (λ (x : WithRooms Lists ListRooms). with_lists s.lists at x.lists) is ∙ lists_restored s.lists at l.lists lists)
      ∙ ap (λ (r : PlaceRooms). record s { rooms = r }) (rooms_made more (ap (λ (x : WithRooms Lists ListRooms). x.rooms) is))

  -- what is spare in a place
  pub spare_there : (kind : Lane) → spare_at s at kind ≡ spare kind l
  spare_there kind =
      ap (λ (o : Option ListRooms). option_map_or (λ r. room_in kind r - option_map_or (λ x. length (messages_in kind x)) (lists_at s.lists at) 0) o 0) rooms
      ∙ ap (λ (o : Option Lists). room_in kind l.rooms - option_map_or (λ x. length (messages_in kind x)) o 0) lists

  -- and in a place that was given lists
  pub given_lists : lists_at (with_lists s.lists at m.lists) at ≡ Some m.lists
  given_lists = lists_given s.lists at l.lists m.lists lists

  pub given_rooms : rooms_at (with_rooms s.rooms at m.rooms) at ≡ Some m.rooms
  given_rooms = rooms_given s.rooms at l.rooms m.rooms rooms
