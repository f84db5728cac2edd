-- What the bytes of an image determine of its front.
use Rattle.std.proofs.Common.{◌≡◌, inl, inr, ⊎_elim, ℕ, ◌+◌, ◌^◌, ◌<◌, ◌≤◌, List, [], ◌∷◌, ◌++◌, length, take, drop, slice_index, sym, ◌∙◌, ap, subst, arith, append_assoc, length-drop}
use Rattle.std.proofs.lemmas.List.{take-take, get_or-take, length-take, drop-drop}
use Rattle.std.proofs.Math.Seq.{take-add}
use Rattle.mqb_fields.specs.Guids.{swapped}
use Rattle.mqb_fields.specs.Reading.{number_of}
use Rattle.mqb_fields.specs.Writing.{bytes_of}
use Rattle.mqb_layout.specs.declared.limits.TheConstants.{MAX_BASE, HEAD, AREA}
use Rattle.mqb_layout.specs.Store.{MAGIC, part, area, head_of, place_of}
use Rattle.mqb_journal.specs.Store.{Base, Nothing, After, HasFront}
use Rattle.mqb_journal.specs.Scan.{HasNoHeader, IsLater, HasNoHead, IsNoArea, Low, Past, Short, Over, Cut, Counts, HasNoArea, HasNoFront}
use Rattle.mqb_journal.specs.lemmas.Reaching.{first_low}
use Rattle.mqb_journal.proofs.Bytes.{number_at_part, part_of_part}
use Rattle.mqb_layout.specs.lemmas.Reading.{swapped_twice}
use Rattle.mqb_journal.proofs.Staging.{length-area}

fifth : (image : List ℕ) → take 5 image ≡ MAGIC ++ 2 ∷ [] → slice_index image 4 ≡ 2
fifth image is = sym (get_or-take 5 image 4 0 (omega arith)) ∙ ap (λ (l : List ℕ). slice_index l 4) is

magic_later : (image : List ℕ) → take 5 image ≡ MAGIC ++ 2 ∷ [] → take 4 image ≡ MAGIC
magic_later image is = sym (take-take 4 5 image (omega arith)) ∙ ap (λ (l : List ℕ). take 4 l) is

-- an area, as it stands at its place
pub record IsArea (place count : ℕ) (base image : List ℕ) : Type 0 where
  pub inside : place + AREA + length base ≤ length image
  pub size : number_of 4 (drop place image) ≡ 8 + length base
  pub count_is : number_of 8 (drop (place + 4) image) ≡ count

pub area_is : (place count : ℕ) (base image : List ℕ) → count ≤ 2 ^ 63 → length base ≤ MAX_BASE → part place (AREA + length base) image ≡ area count base → IsArea place count base image
area_is place count base image counted small is =
    let n : ℕ = length base in
    let there : place + (AREA + n) ≤ length image =
    omega (arith, ap length is, length-area count base, length-take (AREA + n) (drop place image), length-drop place image) in
    let front : part place 4 image ≡ bytes_of 4 (8 + n) = sym (take-take 4 (AREA + n) (drop place image) (omega arith)) ∙ ap (λ (l : List ℕ). take 4 l) is in
    let behind : part (place + 4) 8 image ≡ bytes_of 8 count = sym (part_of_part place (AREA + n) 4 8 image (omega arith) there) ∙ ap (λ (l : List ℕ). part 4 8 l) is in
    record {
      inside = omega arith;
      size = number_at_part 4 place (8 + n) image (omega arith) front;
      count_is = number_at_part 8 (place + 4) count image (omega arith) behind;
    }

one_base : (place count other : ℕ) (base more image : List ℕ) → count ≤ 2 ^ 63 → other ≤ 2 ^ 63 → length base ≤ MAX_BASE → length more ≤ MAX_BASE
    → part place (AREA + length base) image ≡ area count base → part place (AREA + length more) image ≡ area other more → (count ≡ other) × (base ≡ more)
one_base place count other base more image counted limited small little first second =
    let a = area_is place count base image counted small first in
    let b = area_is place other more image limited little second in
    let size : length base ≡ length more = omega (arith, a.size, b.size) in
    let same : area count base ≡ area other more = sym first ∙ ap (λ (n : ℕ). part place (AREA + n) image) size ∙ second in
    (sym a.count_is ∙ b.count_is, ap (λ (l : List ℕ). drop 12 l) same)

-- an image has one front
pub one_front : (g h : List ℕ) (b c : Base) (first other : ℕ) (image : List ℕ) → HasFront g b first image → HasFront h c other image → (first ≡ other) × (b ≡ c)
one_front g h Nothing Nothing first other image one two = (one.begins ∙ sym two.begins, λ _. Nothing)
one_front g h Nothing (After count base) first other image one two = absurd (one.version (fifth image two.version))
one_front g h (After count base) Nothing first other image one two = absurd (two.version (fifth image one.version))
one_front g h (After count base) (After more later) first other image one two =
    let same = one_base (place_of image) count more base later image one.counted two.counted one.small two.small one.has_area two.has_area in
    let size : length base ≡ length later = ap length same.1 in (
      one.begins ∙ ap (λ (n : ℕ). place_of image + AREA + n) size ∙ sym two.begins,
      ap (λ (n : ℕ). After n base) same.0 ∙ ap (λ (l : List ℕ). After more l) same.1,
    )

guid_in : (g : List ℕ) (b : Base) (first : ℕ) (image : List ℕ) → HasFront g b first image → part 8 16 image ≡ swapped g
guid_in g Nothing first image is = is.has_guid
guid_in g (After count base) first image is = is.has_guid

pub one_guid : (g h : List ℕ) (b c : Base) (first other : ℕ) (image : List ℕ) → length g ≡ 16 → length h ≡ 16 → HasFront g b first image → HasFront h c other image → g ≡ h
one_guid g h b c first other image long size one two =
    sym (swapped_twice g long) ∙ ap (λ (l : List ℕ). swapped l) (sym (guid_in g b first image one) ∙ guid_in h c other image two) ∙ swapped_twice h size

magic_in : (g : List ℕ) (b : Base) (first : ℕ) (image : List ℕ) → HasFront g b first image → take 4 image ≡ MAGIC
magic_in g Nothing first image is = is.magic
magic_in g (After count base) first image is = magic_later image is.version

no_area : (place count : ℕ) (base image : List ℕ) → head_of image + HEAD ≤ place → count ≤ 2 ^ 63 → length base ≤ MAX_BASE → IsArea place count base image → place + AREA + length base < length image
    → IsNoArea place image → ⊥
no_area place count base image behind counted small is within (Low low) = omega (arith, low, behind)
no_area place count base image behind counted small is within (Past past) = omega (arith, past, within)
no_area place count base image behind counted small is within (Short short) = let size = is.size in omega (arith, short, size)
no_area place count base image behind counted small is within (Over over) = let size = is.size in omega (arith, over, size)
no_area place count base image behind counted small is within (Cut cut) = let size = is.size in omega (arith, cut, size, within)
no_area place count base image behind counted small is within (Counts over) = let same = is.count_is in omega (arith, over, same, counted)

-- a store with a front and a gate has a header, a head and an area
pub has_front : (g : List ℕ) (b : Base) (first at : ℕ) (image : List ℕ) → HasFront g b first image → first < length image → HasNoFront at image → ⊥
has_front g b first at image is within (inl none) = ⊎_elim
    (λ short. (let low : 24 ≤ first = first_low g b first image is in let no : ⊥ = omega (arith, short, low, within) in no))
    (λ other. other (magic_in g b first image is)) none.none
has_front g Nothing first at image is within (inr (inl none)) = absurd (is.version (fifth image none.later.version))
has_front g Nothing first at image is within (inr (inr none)) = absurd (is.version (fifth image none.later.version))
has_front g (After count base) first at image is within (inr (inl none)) = ⊎_elim
    (λ low. (let high = is.head in let no : ⊥ = omega (arith, low, high) in no))
    (λ past. (let behind = is.behind in let begins = is.begins in let no : ⊥ = omega (arith, past, behind, begins, within) in no)) none.none
has_front g (After count base) first at image is within (inr (inr none)) =
    let begins = is.begins in
    no_area (place_of image) count base image is.behind is.counted is.small (area_is (place_of image) count base image is.counted is.small is.has_area) (omega (arith, begins, within))
    (subst (λ (p : ℕ). IsNoArea p image) none.place none.none)

later_header : (at : ℕ) (image : List ℕ) → IsLater image → HasNoHeader at image → ⊥
later_header at image is none = ⊎_elim (λ short. (let long = is.long in let no : ⊥ = omega (arith, short, long) in no)) (λ other. other (magic_later image is.version)) none.none

head_or_area : (at other : ℕ) (image : List ℕ) → HasNoHead at image → HasNoArea other image → ⊥
head_or_area at other image none has = ⊎_elim
    (λ low. (let high = has.head in let no : ⊥ = omega (arith, low, high) in no))
    (λ past. (let inside = has.inside in let no : ⊥ = omega (arith, past, inside) in no)) none.none

pub front_at_one : (at other : ℕ) (image : List ℕ) → HasNoFront at image → HasNoFront other image → at ≡ other
front_at_one at other image (inl a) (inl b) = a.place ∙ sym b.place
front_at_one at other image (inl a) (inr (inl b)) = absurd (later_header at image b.later a)
front_at_one at other image (inl a) (inr (inr b)) = absurd (later_header at image b.later a)
front_at_one at other image (inr (inl a)) (inl b) = absurd (later_header other image a.later b)
front_at_one at other image (inr (inl a)) (inr (inl b)) = a.place ∙ sym b.place
front_at_one at other image (inr (inl a)) (inr (inr b)) = absurd (head_or_area at other image a b)
front_at_one at other image (inr (inr a)) (inl b) = absurd (later_header other image a.later b)
front_at_one at other image (inr (inr a)) (inr (inl b)) = absurd (head_or_area other at image b a)
front_at_one at other image (inr (inr a)) (inr (inr b)) = a.place ∙ sym b.place

-- an area from its three parts
pub area_at : (place count n : ℕ) (base image : List ℕ) → part place 4 image ≡ bytes_of 4 (8 + n) → part (place + 4) 8 image ≡ bytes_of 8 count → base ≡ part (place + AREA) n image → length base ≡ n
    → part place (AREA + length base) image ≡ area count base
area_at place count n base image size number is long =
    let l : List ℕ = drop place image in
    let parts : part place (AREA + n) image ≡ bytes_of 4 (8 + n) ++ bytes_of 8 count ++ base =
    ap (λ (k : ℕ). take k l) (let same : AREA + n ≡ 4 + (8 + n) = omega arith in same) ∙ take-add 4 (8 + n) l ∙ ap (λ (r : List ℕ). r ++ take (8 + n) (drop 4 l)) size
    ∙ ap (λ (r : List ℕ). bytes_of 4 (8 + n) ++ take (8 + n) r) (drop-drop 4 place image)
    ∙ ap (λ (r : List ℕ). bytes_of 4 (8 + n) ++ r) (take-add 8 n (drop (place + 4) image) ∙ ap (λ (r : List ℕ). r ++ take n (drop 8 (drop (place + 4) image))) number
    ∙ ap (λ (r : List ℕ). bytes_of 8 count ++ take n r) (drop-drop 8 (place + 4) image ∙ ap (λ (k : ℕ). drop k image) (let same : place + 4 + 8 ≡ place + AREA = omega arith in same))
    ∙ ap (λ (r : List ℕ). bytes_of 8 count ++ r) (sym is))
    ∙ sym (append_assoc (bytes_of 4 (8 + n)) (bytes_of 8 count) base) in
    ap (λ (k : ℕ). part place (AREA + k) image) long ∙ parts ∙ ap (λ (k : ℕ). bytes_of 4 (8 + k) ++ bytes_of 8 count ++ base) (sym long)
