-- Rooms grow.
use Rattle.std.proofs.Common.{◌≡◌, ◌≢◌, ◌⊎◌, inl, inr, ℕ, zero, suc, ◌+◌, ◌-◌, ◌≤◌, ◌==◌, Bool, true, false, cond, List, [], ◌∷◌, ◌++◌, length, set, take, Option, Some, None, refl, sym, ap, ◌∙◌, subst, arith}
use Rattle.std.specs.Prelude.{slice_get}
use Rattle.std.specs.Option.{option_map, option_map_or}
use Rattle.std.proofs.lemmas.Bool.Decides.{nat_tests}
use Rattle.std.proofs.lemmas.Bool.{cases_eq}
use Rattle.std.proofs.lemmas.List.{length-set, length_push}
use Rattle.std.proofs.lemmas.Option.{none-some, same_Some}
use Rattle.mqb_base.specs.declared.message.Lane.{Lane}
use Rattle.mqb_base.specs.declared.queues.EntryPlace.{EntryPlace}
use Rattle.mqb_base.specs.declared.queues.EntryPlace.TheVariants as entry
use Rattle.mqb_plain.specs.Plain as plain
use Rattle.mqb_queue.specs.Lists as lists
use Rattle.mqb_queue.specs.Lists.{ListRooms}
use Rattle.mqb_queue.specs.Places.{PlaceRooms, QueueRooms, numbered, rooms_at, with_numbered, with_rooms}
use Rattle.mqb_queue.proofs.Lens.{is_there, numbered_is}
use Rattle.mqb_contents.specs.Changes.{rooms_after, rooms_redone}
use Rattle.mqb_tables.specs.Ends.{without_last}
use Rattle.mqb_contents.specs.Rooms.{ArePlacesGrown, IsGrown, StateRooms, place_room}
use Rattle.mqb_tables.specs.Rooms.{AreMembersGrown, MemberRooms}
use Rattle.mqb_contents.specs.declared.change.Change.{Change}
use Rattle.mqb_contents.specs.declared.change.Change.TheVariants as change
use Rattle.mqb_tables.proofs.Members.{get-set, get-set_other, length-without_last}

pub places_refl : (r : PlaceRooms) → ArePlacesGrown r r
places_refl r = record { rooms = λ at kind. omega arith; count = refl; more = omega arith }

pub members_refl : {R : Type 0} (room : R → ℕ) (r : MemberRooms R) → AreMembersGrown room r r
members_refl room r = record { rooms = λ k. omega arith; count = refl; more = omega arith }

pub grown_refl : (r : StateRooms) → IsGrown r r
grown_refl r = record {
  places = places_refl r.places;
  peers = omega arith;
  plain = λ kind. members_refl (plain.room_in kind) r.plain;
  outs = members_refl (λ n. n) r.outs;
  in_use = λ key h. h;
  ins = omega arith;
  sources = λ key h. h;
}

places_trans : {a b c : PlaceRooms} → ArePlacesGrown a b → ArePlacesGrown b c → ArePlacesGrown a c
places_trans g h = record {
  rooms = λ at kind. let x = g.rooms at kind in let y = h.rooms at kind in omega (arith, x, y);
  count = h.count ∙ g.count;
  more = omega (arith, g.more, h.more);
}

members_trans : {R : Type 0} {room : R → ℕ} {a b c : MemberRooms R} → AreMembersGrown room a b → AreMembersGrown room b c → AreMembersGrown room a c
members_trans g h = record {
  rooms = λ k. let x = g.rooms k in let y = h.rooms k in omega (arith, x, y);
  count = h.count ∙ g.count;
  more = omega (arith, g.more, h.more);
}

pub grown_trans : {a b c : StateRooms} → IsGrown a b → IsGrown b c → IsGrown a c
grown_trans g h = record {
  places = places_trans g.places h.places;
  peers = omega (arith, g.peers, h.peers);
  plain = λ kind. members_trans (g.plain kind) (h.plain kind);
  outs = members_trans g.outs h.outs;
  in_use = λ key there. h.in_use key (g.in_use key there);
  ins = omega (arith, g.ins, h.ins);
  sources = λ key there. h.sources key (g.sources key there);
}

-- ---- members with rooms come and go

module _ {X : Type 0} (room : X → ℕ) where
  abbrev room_at : List X → ℕ → ℕ
  room_at xs k = option_map_or room (slice_get xs k) 0

  pub pushed_grow : (xs ys : List X) (x : X) → length ys ≡ length xs → ((k : ℕ) → room_at xs k ≤ room_at ys k) → (k : ℕ) → room_at (xs ++ x ∷ []) k ≤ room_at (ys ++ x ∷ []) k
  pushed_grow [] [] x same more k = omega arith
  pushed_grow [] (y ∷ ys) x same more k = absurd (omega (arith, same))
  pushed_grow (z ∷ xs) [] x same more k = absurd (omega (arith, same))
  pushed_grow (z ∷ xs) (y ∷ ys) x same more zero = more zero
  pushed_grow (z ∷ xs) (y ∷ ys) x same more (suc k) = pushed_grow xs ys x (omega (arith, same)) (λ j. more (suc j)) k

  pub taken_grow : (n : ℕ) (xs ys : List X) → length ys ≡ length xs → ((k : ℕ) → room_at xs k ≤ room_at ys k) → (k : ℕ) → room_at (take n xs) k ≤ room_at (take n ys) k
  taken_grow zero xs ys same more k = omega arith
  taken_grow (suc n) [] [] same more k = omega arith
  taken_grow (suc n) [] (y ∷ ys) same more k = absurd (omega (arith, same))
  taken_grow (suc n) (z ∷ xs) [] same more k = absurd (omega (arith, same))
  taken_grow (suc n) (z ∷ xs) (y ∷ ys) same more zero = more zero
  taken_grow (suc n) (z ∷ xs) (y ∷ ys) same more (suc k) = taken_grow n xs ys (omega (arith, same)) (λ j. more (suc j)) k

  pub last_gone_grow : (xs ys : List X) → length ys ≡ length xs → ((k : ℕ) → room_at xs k ≤ room_at ys k) → (k : ℕ) → room_at (without_last xs) k ≤ room_at (without_last ys) k
  last_gone_grow xs ys same more k = subst (λ n. room_at (take (length xs - 1) xs) k ≤ room_at (take (n - 1) ys) k) (sym same) (taken_grow (length xs - 1) xs ys same more k)

same_pushed : {X : Type 0} (xs ys : List X) (x : X) → length ys ≡ length xs → length (ys ++ x ∷ []) ≡ length (xs ++ x ∷ [])
same_pushed xs ys x same = length_push ys x ∙ (ap (λ n. n + 1) same ∙ sym (length_push xs x))

same_last_gone : {X : Type 0} (xs ys : List X) → length ys ≡ length xs → length (without_last ys) ≡ length (without_last xs)
same_last_gone xs ys same = length-without_last ys ∙ (ap (λ n. n - 1) same ∙ sym (length-without_last xs))

-- ---- queues by their numbers

module _ (part : QueueRooms → ListRooms) (kind : Lane) where
  abbrev by_number : List QueueRooms → ℕ → ℕ
  by_number qs n = option_map_or (lists.room_in kind) (option_map part (numbered qs n)) 0

  abbrev by_index : QueueRooms → ℕ
  by_index q = lists.room_in kind (part q)

  through : (o : Option QueueRooms) → option_map_or (lists.room_in kind) (option_map part o) 0 ≡ option_map_or by_index o 0
  through None = refl
  through (Some q) = refl

  at_index : (qs : List QueueRooms) (n : ℕ) → (n == 0) ≡ false → by_number qs n ≡ option_map_or by_index (slice_get qs (n - 1)) 0
  at_index qs n some = ap (λ (o : Option QueueRooms). option_map_or (lists.room_in kind) (option_map part o) 0) (numbered_is qs n some) ∙ through (slice_get qs (n - 1))

  at_none : (qs : List QueueRooms) (n : ℕ) → (n == 0) ≡ true → by_number qs n ≡ 0
  at_none qs n none = ap (λ (b : Bool). option_map_or (lists.room_in kind) (option_map part (cond b None (slice_get qs (n - 1)))) 0) none

  at_next : (qs : List QueueRooms) (k : ℕ) → by_number qs (k + 1) ≡ option_map_or by_index (slice_get qs k) 0
  at_next qs k = at_index qs (k + 1) (grind (arith, nat_tests)) ∙ ap (λ j. option_map_or by_index (slice_get qs j) 0) (omega arith)

  indexes : (olds news : List QueueRooms) → ((n : ℕ) → by_number olds n ≤ by_number news n) → (k : ℕ)
      → option_map_or by_index (slice_get olds k) 0 ≤ option_map_or by_index (slice_get news k) 0
  indexes olds news more k =
      let h : by_number olds (k + 1) ≤ by_number news (k + 1) = more (k + 1) in
      let a = at_next olds k in
      let b = at_next news k in
      omega (arith, h, a, b)

  numbers : (olds news : List QueueRooms)
      → ((k : ℕ) → option_map_or by_index (slice_get olds k) 0 ≤ option_map_or by_index (slice_get news k) 0) → (n : ℕ) → by_number olds n ≤ by_number news n
  numbers olds news more n = at (n == 0) refl
    where
      at : (b : Bool) → (n == 0) ≡ b → by_number olds n ≤ by_number news n
      at true is = let a = at_none olds n is in omega (arith, a)
      at false is =
          let h : option_map_or by_index (slice_get olds (n - 1)) 0 ≤ option_map_or by_index (slice_get news (n - 1)) 0 = more (n - 1) in
          let a = at_index olds n is in
          let b = at_index news n is in
          omega (arith, h, a, b)

  pub queue_pushed : (olds news : List QueueRooms) (q : QueueRooms) → length news ≡ length olds → ((n : ℕ) → by_number olds n ≤ by_number news n)
      → (n : ℕ) → by_number (olds ++ q ∷ []) n ≤ by_number (news ++ q ∷ []) n
  queue_pushed olds news q same more = numbers (olds ++ q ∷ []) (news ++ q ∷ []) (pushed_grow by_index olds news q same (indexes olds news more))

  pub queue_gone : (olds news : List QueueRooms) → length news ≡ length olds → ((n : ℕ) → by_number olds n ≤ by_number news n)
      → (n : ℕ) → by_number (without_last olds) n ≤ by_number (without_last news) n
  queue_gone olds news same more = numbers (without_last olds) (without_last news) (last_gone_grow by_index olds news same (indexes olds news more))

-- ---- the rooms of one place grow

set_grow : {X : Type 0} (size : X → ℕ) (xs : List X) (k : ℕ) (x y : X) → slice_get xs k ≡ Some x → size x ≤ size y → (j : ℕ)
    → option_map_or size (slice_get xs j) 0 ≤ option_map_or size (slice_get (set xs k y) j) 0
set_grow {X} size xs k x y is more j = at (cases_eq j k)
  where
    at : (j ≡ k) ⊎ (j ≢ k) → option_map_or size (slice_get xs j) 0 ≤ option_map_or size (slice_get (set xs k y) j) 0
    at (inl e) =
        subst (λ (i : ℕ). option_map_or size (slice_get xs i) 0 ≤ option_map_or size (slice_get (set xs k y) i) 0) (sym e)
        (subst (λ (o : Option X). option_map_or size o 0 ≤ option_map_or size (slice_get (set xs k y) k) 0) (sym is)
        (subst (λ (o : Option X). size x ≤ option_map_or size o 0) (sym (get-set xs k x y is)) more))
    at (inr e) =
        subst (λ (o : Option X). option_map_or size (slice_get xs j) 0 ≤ option_map_or size o 0) (sym (get-set_other xs k j y e)) (omega arith)

-- a queue of rooms that is there
queue_there : {P : Type 0} (part : QueueRooms → ListRooms) (o : Option QueueRooms) (l : ListRooms) → option_map part o ≡ Some l
    → ((q : QueueRooms) → o ≡ Some q → part q ≡ l → P) → P
queue_there part None l is then = absurd (none-some l is)
queue_there part (Some q) l is then = then q refl (same_Some (part q) l is)

one_queue_grow : (part : QueueRooms → ListRooms) (kind : Lane) (qs : List QueueRooms) (n : ℕ) (q : QueueRooms) (change : QueueRooms → QueueRooms) → numbered qs n ≡ Some q
    → lists.room_in kind (part q) ≤ lists.room_in kind (part (change q)) → (j : ℕ) → by_number part kind qs j ≤ by_number part kind (with_numbered qs n change) j
one_queue_grow part kind qs n q change is more j =
    subst (λ (rs : List QueueRooms). by_number part kind qs j ≤ by_number part kind rs j)
    (sym (ap (λ (o : Option QueueRooms). option_map_or (λ r. set qs (n - 1) (change r)) o qs) is))
    (numbers part kind qs (set qs (n - 1) (change q)) (set_grow (by_index part kind) qs (n - 1) q (change q) (is_there qs n q is).1 more) j)

same_count : (qs : List QueueRooms) (n : ℕ) (change : QueueRooms → QueueRooms) → length (with_numbered qs n change) ≡ length qs
same_count qs n change = at (numbered qs n)
  where
    at : (o : Option QueueRooms) → length (option_map_or (λ r. set qs (n - 1) (change r)) o qs) ≡ length qs
    at None = refl
    at (Some q) = length-set qs (n - 1) (change q)

pub one_place_grown : (r : PlaceRooms) (at : EntryPlace) (l m : ListRooms) → rooms_at r at ≡ Some l → ((kind : Lane) → lists.room_in kind l ≤ lists.room_in kind m)
    → ArePlacesGrown r (with_rooms r at m)
one_place_grown r (entry.Queue n) l m is more = queue_there (λ q. q.lists) (numbered r.queues n) l is (λ q there same. record {
  rooms = grow q there same;
  count = same_count r.queues n (λ p. record p { lists = m });
  more = omega arith;
})
  where
    grow : (q : QueueRooms) → numbered r.queues n ≡ Some q → q.lists ≡ l → (at : EntryPlace) (kind : Lane) → place_room r at kind ≤ place_room (with_rooms r (entry.Queue n) m) at kind
    grow q there same (entry.Queue j) kind = one_queue_grow (λ p. p.lists) kind r.queues n q (λ p. record p { lists = m }) there
        (subst (λ (x : ListRooms). lists.room_in kind x ≤ lists.room_in kind m) (sym same) (more kind)) j
    grow q there same (entry.JournalOf j) kind = one_queue_grow (λ p. p.journal) kind r.queues n q (λ p. record p { lists = m }) there (omega arith) j
    grow q there same entry.Dead kind = omega arith
    grow q there same entry.DeadXact kind = omega arith
    grow q there same entry.Journal kind = omega arith
one_place_grown r (entry.JournalOf n) l m is more = queue_there (λ q. q.journal) (numbered r.queues n) l is (λ q there same. record {
  rooms = grow q there same;
  count = same_count r.queues n (λ p. record p { journal = m });
  more = omega arith;
})
  where
    grow : (q : QueueRooms) → numbered r.queues n ≡ Some q → q.journal ≡ l → (at : EntryPlace) (kind : Lane)
        → place_room r at kind ≤ place_room (with_rooms r (entry.JournalOf n) m) at kind
    grow q there same (entry.Queue j) kind = one_queue_grow (λ p. p.lists) kind r.queues n q (λ p. record p { journal = m }) there (omega arith) j
    grow q there same (entry.JournalOf j) kind = one_queue_grow (λ p. p.journal) kind r.queues n q (λ p. record p { journal = m }) there
        (subst (λ (x : ListRooms). lists.room_in kind x ≤ lists.room_in kind m) (sym same) (more kind)) j
    grow q there same entry.Dead kind = omega arith
    grow q there same entry.DeadXact kind = omega arith
    grow q there same entry.Journal kind = omega arith
one_place_grown r entry.Dead l m is more = record { rooms = grow; count = refl; more = omega arith }
  where
    grow : (at : EntryPlace) (kind : Lane) → place_room r at kind ≤ place_room (record r { dead = m }) at kind
    grow (entry.Queue j) kind = omega arith
    grow (entry.JournalOf j) kind = omega arith
    grow entry.Dead kind = subst (λ (x : ListRooms). lists.room_in kind x ≤ lists.room_in kind m) (sym (same_Some r.dead l is)) (more kind)
    grow entry.DeadXact kind = omega arith
    grow entry.Journal kind = omega arith
one_place_grown r entry.DeadXact l m is more = record { rooms = grow; count = refl; more = omega arith }
  where
    grow : (at : EntryPlace) (kind : Lane) → place_room r at kind ≤ place_room (record r { dead_xact = m }) at kind
    grow (entry.Queue j) kind = omega arith
    grow (entry.JournalOf j) kind = omega arith
    grow entry.Dead kind = omega arith
    grow entry.DeadXact kind = subst (λ (x : ListRooms). lists.room_in kind x ≤ lists.room_in kind m) (sym (same_Some r.dead_xact l is)) (more kind)
    grow entry.Journal kind = omega arith
one_place_grown r entry.Journal l m is more = record { rooms = grow; count = refl; more = omega arith }
  where
    grow : (at : EntryPlace) (kind : Lane) → place_room r at kind ≤ place_room (record r { journal = m }) at kind
    grow (entry.Queue j) kind = omega arith
    grow (entry.JournalOf j) kind = omega arith
    grow entry.Dead kind = omega arith
    grow entry.DeadXact kind = omega arith
    grow entry.Journal kind = subst (λ (x : ListRooms). lists.room_in kind x ≤ lists.room_in kind m) (sym (same_Some r.journal l is)) (more kind)

-- ---- after a change

with_queue_rooms : {old new : PlaceRooms} (q : QueueRooms) → ArePlacesGrown old new
    → ArePlacesGrown (record old { queues = old.queues ++ q ∷ [] }) (record new { queues = new.queues ++ q ∷ [] })
with_queue_rooms {old} {new} q g = record {
  rooms = grow;
  count = same_pushed old.queues new.queues q g.count;
  more = g.more;
}
  where
    grow : (at : EntryPlace) (kind : Lane) → place_room (record old { queues = old.queues ++ q ∷ [] }) at kind ≤ place_room (record new { queues = new.queues ++ q ∷ [] }) at kind
    grow (entry.Queue n) kind = queue_pushed (λ r. r.lists) kind old.queues new.queues q g.count (λ j. g.rooms (entry.Queue j) kind) n
    grow (entry.JournalOf n) kind = queue_pushed (λ r. r.journal) kind old.queues new.queues q g.count (λ j. g.rooms (entry.JournalOf j) kind) n
    grow entry.Dead kind = g.rooms entry.Dead kind
    grow entry.DeadXact kind = g.rooms entry.DeadXact kind
    grow entry.Journal kind = g.rooms entry.Journal kind

without_queue_rooms : {old new : PlaceRooms} → ArePlacesGrown old new
    → ArePlacesGrown (record old { queues = without_last old.queues }) (record new { queues = without_last new.queues })
without_queue_rooms {old} {new} g = record {
  rooms = grow;
  count = same_last_gone old.queues new.queues g.count;
  more = g.more;
}
  where
    grow : (at : EntryPlace) (kind : Lane) → place_room (record old { queues = without_last old.queues }) at kind ≤ place_room (record new { queues = without_last new.queues }) at kind
    grow (entry.Queue n) kind = queue_gone (λ r. r.lists) kind old.queues new.queues g.count (λ j. g.rooms (entry.Queue j) kind) n
    grow (entry.JournalOf n) kind = queue_gone (λ r. r.journal) kind old.queues new.queues g.count (λ j. g.rooms (entry.JournalOf j) kind) n
    grow entry.Dead kind = g.rooms entry.Dead kind
    grow entry.DeadXact kind = g.rooms entry.DeadXact kind
    grow entry.Journal kind = g.rooms entry.Journal kind

module _ {R : Type 0} (room : R → ℕ) {old new : MemberRooms R} (g : AreMembersGrown room old new) where
  with_member : (r : R) → AreMembersGrown room (record old { each = old.each ++ r ∷ [] }) (record new { each = new.each ++ r ∷ [] })
  with_member r = record {
    rooms = pushed_grow room old.each new.each r g.count g.rooms;
    count = same_pushed old.each new.each r g.count;
    more = g.more;
  }

  without_member : AreMembersGrown room (record old { each = without_last old.each }) (record new { each = without_last new.each })
  without_member = record {
    rooms = last_gone_grow room old.each new.each g.count g.rooms;
    count = same_last_gone old.each new.each g.count;
    more = g.more;
  }

pub grown_after : {old new : StateRooms} (c : Change) → IsGrown old new → IsGrown (rooms_after old c) (rooms_after new c)
grown_after (change.Insert at kind k m) g = g
grown_after (change.Remove at kind k) g = g
grown_after (change.InsertPlain peer kind k o) g = g
grown_after (change.RemovePlain peer kind k) g = g
grown_after (change.InsertKept row k x) g = g
grown_after (change.RemoveKept row k) g = g
grown_after (change.Mark row marks) g = g
grown_after (change.AddRow r) g = record { places = g.places; peers = g.peers; plain = g.plain; outs = with_member (λ n. n) g.outs r.room; in_use = g.in_use; ins = g.ins; sources = g.sources }
grown_after change.DropRow g = record { places = g.places; peers = g.peers; plain = g.plain; outs = without_member (λ n. n) g.outs; in_use = g.in_use; ins = g.ins; sources = g.sources }
grown_after (change.Decide k sequence last) g = g
grown_after (change.AddIn r) g = g
grown_after change.DropIn g = g
grown_after (change.AddPeer p) g = record { places = g.places; peers = g.peers; plain = λ kind. with_member (plain.room_in kind) (g.plain kind) p.rooms; outs = g.outs; in_use = g.in_use; ins = g.ins; sources = g.sources }
grown_after change.DropPeer g = record { places = g.places; peers = g.peers; plain = λ kind. without_member (plain.room_in kind) (g.plain kind); outs = g.outs; in_use = g.in_use; ins = g.ins; sources = g.sources }
grown_after (change.AddQueue q) g = record { places = with_queue_rooms q.rooms g.places; peers = g.peers; plain = g.plain; outs = g.outs; in_use = g.in_use; ins = g.ins; sources = g.sources }
grown_after change.DropQueue g = record { places = without_queue_rooms g.places; peers = g.peers; plain = g.plain; outs = g.outs; in_use = g.in_use; ins = g.ins; sources = g.sources }
grown_after (change.Count c) g = g

pub grown_redone : (cs : List Change) {old new : StateRooms} → IsGrown old new → IsGrown (rooms_redone old cs) (rooms_redone new cs)
grown_redone [] g = g
grown_redone (c ∷ cs) g = grown_redone cs (grown_after c g)
