-- One member of a list with rooms is written, and seen.
use Rattle.std.proofs.Common.{◌≡◌, ◌≢◌, ◌⊎◌, inl, inr, ℕ, ◌<◌, ◌≤◌, List, length, map, set, Option, Some, sym, ap, ◌∙◌, subst, arith}
use Rattle.std.specs.Prelude.{slice_get}
use Rattle.std.specs.Option.{IsSomeAnd, option_map, option_map_or}
use Rattle.std.proofs.lemmas.Bool.{cases_eq}
use Rattle.std.proofs.lemmas.List.{length-map, length-set}
use Rattle.std.proofs.lemmas.Option.{slice_get-map, slice_get_within}
use Rattle.mqb_base.specs.Rooms.{Room, WithRooms}
use Rattle.mqb_model.specs.Lists.{with_changed}
use Rattle.mqb_tables.specs.Rooms.{AreMembersGrown, MemberRooms, member_room}
use Rattle.mqb_tables.specs.Seen.{seen_members}
use Rattle.mqb_tables.proofs.Members.{at_some, get-set_other, seen_changed, seen_now, seen_same, seen_there}

-- see: what a member is seen as; room: its room; s: all of them as they are seen
module _ {X Y R : Type 0} (see : X → Y) (room : X → R) (l : Room X) (s : WithRooms (List Y) (MemberRooms R)) (view : seen_members see room l ≡ s) (k : ℕ) where
  pub inside : k < length s.lists → k < length l.items
  inside h = subst (λ n. k < n) (ap (λ (w : WithRooms (List Y) (MemberRooms R)). length w.lists) (sym view) ∙ length-map l.items see) h

  pub inside_some : (P : Y → Type 0) → IsSomeAnd (slice_get s.lists k) P → k < length l.items
  inside_some P h = let a = at_some P (slice_get s.lists k) h in inside (slice_get_within s.lists k a.0 a.1)

  -- the member that is there
  module _ (x : X) (is : slice_get l.items k ≡ Some x) where
    pub lists_there : slice_get s.lists k ≡ Some (see x)
    lists_there = ap (λ (w : WithRooms (List Y) (MemberRooms R)). slice_get w.lists k) (sym view) ∙ seen_there see l.items k x x is

    pub rooms_there : slice_get s.rooms.each k ≡ Some (room x)
    rooms_there = ap (λ (w : WithRooms (List Y) (MemberRooms R)). slice_get w.rooms.each k) (sym view) ∙ seen_there room l.items k x x is

    pub fact_there : (P : Y → Type 0) → IsSomeAnd (slice_get s.lists k) P → P (see x)
    fact_there P h = subst (λ (o : Option Y). IsSomeAnd o P) lists_there h

    pub fact_back : (P : Y → Type 0) → P (see x) → IsSomeAnd (slice_get s.lists k) P
    fact_back P h = subst (λ (o : Option Y). IsSomeAnd o P) (sym lists_there) h

    pub room_there : (count : Y → ℕ) (size : R → ℕ) → option_map_or count (slice_get s.lists k) 0 < member_room size s.rooms k → count (see x) < size (room x)
    room_there count size h =
        subst (λ (o : Option R). count (see x) < option_map_or size o 0) rooms_there
        (subst (λ (o : Option Y). option_map_or count o 0 < member_room size s.rooms k) lists_there h)

    -- the one that is written
    module _ (y : X) where
      -- it is changed, and its room stays
      pub changed : (change : Y → Y) → see y ≡ change (see x) → room y ≡ room x
          → seen_members see room (record l { items = set l.items k y }) ≡ record s { lists = with_changed change s.lists k }
      changed change lists rooms =
          ap (λ (ys : List Y). record { lists = ys; rooms = record { each = map room (set l.items k y); more = l.room } }) (seen_changed see l.items k x y is change lists)
          ∙ (ap (λ (rs : List R). record { lists = with_changed change (map see l.items) k; rooms = record { each = rs; more = l.room } }) (seen_same room l.items k x y is rooms)
          ∙ ap (λ (w : WithRooms (List Y) (MemberRooms R)). record w { lists = with_changed change w.lists k }) view)

      -- it stays, whatever its room
      pub stays : see y ≡ see x → map see (set l.items k y) ≡ s.lists
      stays lists = seen_same see l.items k x y is lists ∙ ap (λ (w : WithRooms (List Y) (MemberRooms R)). w.lists) view

      pub lists_now : slice_get (map see (set l.items k y)) k ≡ Some (see y)
      lists_now = seen_now see l.items k x y is

      pub rooms_now : slice_get (map room (set l.items k y)) k ≡ Some (room y)
      rooms_now = seen_now room l.items k x y is

      pub fact_now : (P : Y → Type 0) → P (see y) → IsSomeAnd (slice_get (map see (set l.items k y)) k) P
      fact_now P h = subst (λ (o : Option Y). IsSomeAnd o P) (sym lists_now) h

      -- there is room for more
      pub left : (count : Y → ℕ) (size : R → ℕ) → count (see y) < size (room y)
          → option_map_or count (slice_get (map see (set l.items k y)) k) 0 < option_map_or size (slice_get (map room (set l.items k y)) k) 0
      left count size h =
          subst (λ (o : Option Y). option_map_or count o 0 < option_map_or size (slice_get (map room (set l.items k y)) k) 0) (sym lists_now)
          (subst (λ (o : Option R). count (see y) < option_map_or size o 0) (sym rooms_now) h)

      -- its room grows
      pub grown : (size : R → ℕ) → size (room x) ≤ size (room y) → AreMembersGrown size s.rooms (record { each = map room (set l.items k y); more = l.room })
      grown size more =
          subst (λ (w : WithRooms (List Y) (MemberRooms R)). AreMembersGrown size w.rooms (record { each = map room (set l.items k y); more = l.room })) view (record {
            rooms = λ j. at j (cases_eq j k);
            count = length-map (set l.items k y) room ∙ (length-set l.items k y ∙ sym (length-map l.items room));
            more = omega arith;
          })
        where
          at : (j : ℕ) → (j ≡ k) ⊎ (j ≢ k) → option_map_or size (slice_get (map room l.items) j) 0 ≤ option_map_or size (slice_get (map room (set l.items k y)) j) 0
          at j (inl e) =
              subst (λ (i : ℕ). option_map_or size (slice_get (map room l.items) i) 0 ≤ option_map_or size (slice_get (map room (set l.items k y)) i) 0) (sym e)
              (subst (λ (o : Option R). option_map_or size o 0 ≤ option_map_or size (slice_get (map room (set l.items k y)) k) 0) (sym (seen_there room l.items k x x is))
              (subst (λ (o : Option R). size (room x) ≤ option_map_or size o 0) (sym rooms_now) more))
          at j (inr e) =
              subst (λ (o : Option R). option_map_or size (slice_get (map room l.items) j) 0 ≤ option_map_or size o 0)
              (slice_get-map room l.items j ∙ (ap (option_map room) (sym (get-set_other l.items k j y e)) ∙ sym (slice_get-map room (set l.items k y) j)))
              (omega arith)
