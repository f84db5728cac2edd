-- The definitions, evaluated.
use Rattle.std.proofs.Common.{◌≡◌, inl, inr, ◌⊎◌, ⊎_elim, ℕ, ◌+◌, ◌≤◌, true, false, List, [], ◌∷◌, ◌++◌, length, take, replicate, Some, None, refl, arith}
use Rattle.std.proofs.lemmas.List.Elements.{All-nil}
use Rattle.mqb_fields.specs.Guids.{swapped}
use Rattle.mqb_fields.specs.Writing.{bytes_of, put_at}
use Rattle.mqb_layout.specs.declared.layout.Layout.{Layout}
use Rattle.mqb_layout.specs.Store.{MAGIC, head_of, place_of}
use Rattle.mqb_journal.specs.Store.{Nothing, After, IsSmall, StandsFor, IsSecondVersion}
use Rattle.mqb_journal.specs.Scan.{IsLater, IsNoArea, Low, Past, Short, Over, Cut, Counts, IsBadStore}
use Rattle.mqb_layout.specs.Layouts.{layout_then, area_size, head_behind}
use Rattle.mqb_layout.specs.Checkpoints.{head, block_for, mark_for}

abbrev guid : List ℕ
guid = 1 ∷ 2 ∷ 3 ∷ 4 ∷ 5 ∷ 6 ∷ 7 ∷ 8 ∷ 9 ∷ 10 ∷ 11 ∷ 12 ∷ 13 ∷ 14 ∷ 15 ∷ 16 ∷ []

abbrev header : (version pages : ℕ) → List ℕ
header version pages = MAGIC ++ version ∷ pages ∷ 0 ∷ 0 ∷ swapped guid

abbrev empty : List ℕ
empty = header 1 0 ++ 0 ∷ []

abbrev base : List ℕ
base = 7 ∷ 8 ∷ 9 ∷ []

-- the store without records
empty_stands : StandsFor guid Nothing [] empty
empty_stands = record {
  first = 24;
  front = record { magic = refl; version = λ is. absurd (let no : ⊥ = omega (arith, is) in no); has_guid = refl; begins = refl };
  small = All-nil IsSmall;
  stands = record { gate = 0; rest = []; closed = λ is. absurd (let no : ⊥ = omega (arith, is) in no); is = refl };
}

-- any version but 2 is the first
third_stands : StandsFor guid Nothing [] (header 3 0 ++ 0 ∷ [])
third_stands = record {
  first = 24;
  front = record { magic = refl; version = λ is. absurd (let no : ⊥ = omega (arith, is) in no); has_guid = refl; begins = refl };
  small = All-nil IsSmall;
  stands = record { gate = 0; rest = []; closed = λ is. absurd (let no : ⊥ = omega (arith, is) in no); is = refl };
}

-- its migration
abbrev block : List ℕ
block = block_for None 24 1 base

pages : head_behind 24 ≡ 4096
pages = refl

marked : mark_for None 24 3 ≡ 1 ∷ 0 ∷ 0 ∷ []
marked = refl

block_is : block ≡ replicate 4071 0 ++ (0 ∷ 17 ∷ 16 ∷ 0 ∷ 0 ∷ 0 ∷ 0 ∷ 0 ∷ 0 ∷ 17 ∷ 16 ∷ 0 ∷ 0 ∷ 0 ∷ 0 ∷ 0 ∷ 0 ∷ []) ++ (11 ∷ 0 ∷ 0 ∷ 0 ∷ 1 ∷ 0 ∷ 0 ∷ 0 ∷ 0 ∷ 0 ∷ 0 ∷ 0 ∷ 7 ∷ 8 ∷ 9 ∷ 0 ∷ [])
block_is = refl

abbrev migrated : List ℕ
migrated = take 4129 (put_at (put_at (put_at empty 25 block) 5 (mark_for None 24 3)) 4 (2 ∷ []))

migrated_long : length migrated ≡ 4129
migrated_long = refl

migrated_stands : StandsFor guid (After 1 base) [] migrated
migrated_stands = record {
  first = 4128;
  front = record {
    version = refl;
    has_guid = refl;
    head = let low : 4096 ≤ 4096 = omega arith in low;
    behind = let behind : 4113 ≤ 4113 = omega arith in behind;
    counted = omega arith;
    small = omega arith;
    has_area = refl;
    begins = refl;
  };
  small = All-nil IsSmall;
  stands = record { gate = 0; rest = []; closed = λ is. absurd (let no : ⊥ = omega (arith, is) in no); is = refl };
}

-- The first three checkpoints of a store with a base of three bytes: 4126, 4139 and 4126 bytes more than the bases.
abbrev first_layout : Layout
first_layout = layout_then None 24 3

abbrev second_layout : Layout
second_layout = layout_then (Some first_layout) 4128 3

abbrev third_layout : Layout
third_layout = layout_then (Some second_layout) 4144 3

lengths : (first_layout.place + area_size 3 ≡ 4126 + 3) × (second_layout.place + area_size 3 ≡ 4139 + 3 + 3) × (third_layout.place + area_size 3 ≡ 4126 + 3)
lengths = (refl, refl, refl)

selectors : (first_layout.second ≡ false) × (second_layout.second ≡ true) × (third_layout.second ≡ false)
selectors = (refl, refl, refl)

-- A head on the header: the area would be told by the magic and the version.
told_by_header : place_of (MAGIC ++ 2 ∷ 0 ∷ 0 ∷ 0 ∷ replicate 16 0) ≡ 38421073
told_by_header = refl

no_head : (id : List ℕ) (count first : ℕ) (bytes image : List ℕ) → head_of image ≡ 0 → IsSecondVersion id count bytes first image → ⊥
no_head id count first bytes image none is = let low = is.head in (let no : ⊥ = omega (arith, low, none) in no)

on_header : (id : List ℕ) (count first : ℕ) (bytes rest : List ℕ) → IsSecondVersion id count bytes first (header 2 0 ++ rest) → ⊥
on_header id count first bytes rest is = no_head id count first bytes (header 2 0 ++ rest) refl is

-- An area before the head: one that begins behind the header.
abbrev low : List ℕ
low = header 2 1 ++ replicate 4072 0 ++ head 24

low_place : place_of low ≡ 24
low_place = refl

no_low : (id : List ℕ) (count first : ℕ) (bytes rest : List ℕ) → place_of (low ++ rest) ≡ 24 → head_of (low ++ rest) ≡ 4096 → IsSecondVersion id count bytes first (low ++ rest) → ⊥
no_low id count first bytes rest place head is = let behind = is.behind in (let no : ⊥ = omega (arith, behind, place, head) in no)

-- Hostile stores, and where each is bad.
abbrev with_head : (places behind : List ℕ) → List ℕ
with_head places behind = header 2 1 ++ replicate 4072 0 ++ places ++ behind

is_later : (image : List ℕ) → 25 ≤ length image → take 5 image ≡ MAGIC ++ 2 ∷ [] → IsLater image
is_later image long version = record { long = long; version = version }

bad_head : IsBadStore 4 (header 2 0 ++ 0 ∷ [])
bad_head = inl (inr (inl (record { place = refl; later = is_later _ (omega arith) refl; none = inl (omega arith) })))

bad_past : IsBadStore 4 (with_head (replicate 16 0) [])
bad_past = inl (inr (inl (record { place = refl; later = is_later _ (omega arith) refl; none = inr (omega arith) })))

no_area : (at : ℕ) (image : List ℕ) → at ≡ place_of image → head_of image ≡ 4096 → length image ≡ 4113 ⊎ (4113 ≤ length image) → take 5 image ≡ MAGIC ++ 2 ∷ [] → IsNoArea at image → IsBadStore at image
no_area at image is head long version none =
    let far : 4113 ≤ length image = ⊎_elim (λ same. omega (arith, same)) (λ more. more) long in
    inl (inr (inr (record { place = is; later = is_later image (omega arith) version; head = omega (arith, head); inside = omega (arith, head); none = none })))

bad_low : IsBadStore 24 (with_head (head 24) [])
bad_low = no_area 24 _ refl refl (inl refl) refl (Low (omega arith))

bad_far : IsBadStore 18446744073709551615 (with_head (head 18446744073709551615) [])
bad_far = no_area 18446744073709551615 _ refl refl (inl refl) refl (Past (omega arith))

bad_short : IsBadStore 4113 (with_head (head 4113) (bytes_of 4 7 ++ replicate 20 0))
bad_short = no_area 4113 _ refl refl (inr (omega arith)) refl (Short (omega arith))

bad_over : IsBadStore 4113 (with_head (head 4113) (bytes_of 4 1073741833 ++ replicate 20 0))
bad_over = no_area 4113 _ refl refl (inr (omega arith)) refl (Over (omega arith))

bad_cut : IsBadStore 4113 (with_head (head 4113) (bytes_of 4 8 ++ replicate 8 0))
bad_cut = no_area 4113 _ refl refl (inr (omega arith)) refl (Cut (omega arith))

bad_count : IsBadStore 4113 (with_head (head 4113) (bytes_of 4 8 ++ bytes_of 8 9223372036854775809 ++ 0 ∷ []))
bad_count = no_area 4113 _ refl refl (inr (omega arith)) refl (Counts (omega arith))
