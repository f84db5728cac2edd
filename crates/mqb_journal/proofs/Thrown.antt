-- What an image stands for whose switch is thrown.
use Rattle.std.proofs.Common.{◌≡◌, inl, inr, ◌⊎◌, ⊎_elim, ℕ, ◌+◌, ◌-◌, ◌*◌, ◌/◌, ◌^◌, ◌<◌, ◌≤◌, not, List, [], ◌∷◌, ◌++◌, length, take, drop, replicate, slice_index, Some, None, refl, sym, ◌∙◌, ap, arith, length-append}
use Rattle.std.specs.Prelude.{◌==◌}
use Rattle.std.proofs.lemmas.Bool.{cases_eq}
use Rattle.std.proofs.lemmas.List.{take_all, take_more, drop_at, length-replicate}
use Rattle.mqb_fields.specs.Writing.{bytes_of}
use Rattle.mqb_fields.specs.Reading.{number_of}
use Rattle.mqb_outside.specs.Images.{Torn}
use Rattle.mqb_layout.specs.declared.limits.TheConstants.{MAX_BASE, MOST_HEAD, PAGE, HEAD, AREA}
use Rattle.mqb_layout.specs.Store.{MAGIC, part, head_of, place_told}
use Rattle.mqb_journal.specs.Store.{Nothing, After, chain}
use Rattle.mqb_layout.specs.declared.layout.Layout.{Layout}
use Rattle.mqb_layout.specs.Layouts.{IsLaidOut, area_size, head_behind, place_then, layout_then}
use Rattle.mqb_journal.specs.Journals.{StandsIn}
use Rattle.mqb_layout.specs.Layouts.{layout_of}
use Rattle.mqb_layout.specs.Checkpoints.{head, closed_area, block_for, mark_for}
use Rattle.mqb_journal.specs.Checkpoints.{KeepsOld}
use Rattle.mqb_journal.proofs.Bytes.{byte_in_part, same_part, same_number, number_at_part, part_of_part, part_at, torn_same}
use Rattle.mqb_journal.proofs.Regions.{length-chained}
use Rattle.mqb_journal.proofs.Writes.{HasWritten}
use Rattle.mqb_journal.proofs.Staging.{new_base, length-closed, bounds, place_cases, place_low, told_within, other_bool}

-- What lies ready in a store of version 2, behind its selector.
pub thrown_later : (guid : List ℕ) (l : Layout) (first end c : ℕ) (b : List ℕ) (records : List (List ℕ)) (count : ℕ) (base image mid new : List ℕ)
    → StandsIn guid (Some l) first (After c b) records image → end ≡ first + length (chain records)
    → HasWritten (place_then l end (area_size (length base))) (closed_area count base) (place_told l.head (not l.second)) (bytes_of 8 (place_then l end (area_size (length base)))) image mid
    → Torn l.head 1 mid new → (KeepsOld (Some l) (slice_index new l.head) → ⊥) → count ≤ 2 ^ 63 → length base ≤ MAX_BASE → end < 2 ^ 62
    → StandsIn guid (Some (layout_then (Some l) end (length base))) (place_then l end (area_size (length base)) + AREA + length base) (After count base) [] new
thrown_later guid l first end c b records count base image mid new is at written torn throws counted small bound =
    let q : ℕ = place_then l end (area_size (length base)) in
    let mark : ℕ = place_told l.head (not l.second) in
    let next : Layout = layout_then (Some l) end (length base) in
    let within : IsLaidOut l end = bounds guid l first end c b records image is at in
    let low : PAGE ≤ l.head = within.low in
    let behind : l.head + HEAD ≤ q = place_low l end (area_size (length base)) within in
    let above : l.head + 1 ≤ mark = (told_within l.head (not l.second)).0 in
    let under : mark + 8 ≤ l.head + HEAD = (told_within l.head (not l.second)).1 in
    let long : end < length image = omega (arith, length-chained first records image is.stands) in
    let size : length (closed_area count base) ≡ area_size (length base) = length-closed count base in
    let room : q + area_size (length base) ≤ length mid = omega (arith, written.long) in
    let more : length mid ≤ length new = torn.no_shorter in
    let over : length image ≤ length mid = written.differs.long in
    let inside : l.place + AREA ≤ end = within.within in
    let header : (i : ℕ) → i < 24 → slice_index new i ≡ slice_index image i =
    λ i lt. torn_same l.head 1 mid new torn i (inl (omega arith)) ∙ written.differs.same i (inl (omega arith)) (inl (omega arith)) in
    let laid : layout_of image ≡ l = (let both : Some (layout_of image) ≡ Some l = is.laid in cc) in
    let head_is : head_of new ≡ l.head =
    ap (λ (n : ℕ). PAGE * n) (same_number 3 5 image new (λ i lo hi. header i (omega arith))) ∙ ap (λ (k : Layout). k.head) laid in
    let place_fits : q < 256 ^ 8 = place_fits_in l end (area_size (length base)) within bound in
    let told : number_of 8 (drop mark new) ≡ q =
    number_at_part 8 mark q new place_fits (same_part mid new mark 8 (omega arith) (omega arith) (λ i lo hi. torn_same l.head 1 mid new torn i (inr (omega arith))) ∙ written.has_mark) in
    let area_is : part q (area_size (length base)) new ≡ closed_area count base =
    same_part mid new q (area_size (length base)) room (omega arith) (λ i lo hi. torn_same l.head 1 mid new torn i (inr (omega arith)))
    ∙ ap (λ (n : ℕ). part q n mid) (sym size) ∙ written.has_block in
    new_base guid next count base new
    (same_part image new 0 5 (omega arith) (omega arith) (λ i lo hi. header i (omega arith)) ∙ is.front.version)
    (same_part image new 8 16 (omega arith) (omega arith) (λ i lo hi. header i (omega arith)) ∙ is.front.has_guid)
    head_is (other_bool _ _ throws) told low behind counted small area_is (omega arith)
  where
    place_fits_in : (l : Layout) (end size : ℕ) → IsLaidOut l end → end < 2 ^ 62 → place_then l end size < 256 ^ 8
    place_fits_in l end size b bound = ⊎_elim
        (λ first. (let is = first.0 in let far = b.behind in let inside = b.within in omega (arith, is, far, inside, bound)))
        (λ last. omega (arith, last, bound)) (place_cases l end size)

pub behind_end : (end : ℕ) → (end + 1 ≤ head_behind end) × (head_behind end ≤ end + PAGE)
behind_end end = (omega arith, omega arith)

pages : (end : ℕ) → head_behind end / PAGE ≡ (end + PAGE) / PAGE
pages end = omega arith

-- What lies ready behind a store of version 1, behind its version.
pub thrown_first : (guid : List ℕ) (first end : ℕ) (records : List (List ℕ)) (count : ℕ) (base image mid new : List ℕ)
    → StandsIn guid None first Nothing records image → end ≡ first + length (chain records)
    → HasWritten (end + 1) (block_for None end count base) 5 (mark_for None end (length base)) image mid
    → Torn 4 1 mid new → (KeepsOld None (slice_index new 4) → ⊥) → count ≤ 2 ^ 63 → length base ≤ MAX_BASE → end < 2 ^ 62 → head_behind end ≤ MOST_HEAD
    → StandsIn guid (Some (layout_then None end (length base))) (head_behind end + HEAD + AREA + length base) (After count base) [] new
thrown_first guid first end records count base image mid new is at written torn throws counted small bound near =
    let n : ℕ = length base in
    let h : ℕ = head_behind end in
    let zeros : List ℕ = replicate (h - (end + 1)) 0 in
    let block : List ℕ = block_for None end count base in
    let behind : end + 1 ≤ h = (behind_end end).0 in
    let begins : first ≡ 24 = is.front.begins in
    let long : end < length image = omega (arith, length-chained first records image is.stands) in
    let size : length (closed_area count base) ≡ area_size n = length-closed count base in
    let fill : length zeros ≡ h - (end + 1) = length-replicate (h - (end + 1)) 0 in
    let front : length (zeros ++ head (h + HEAD)) ≡ h - (end + 1) + 17 = omega (arith, fill, length-append zeros (head (h + HEAD))) in
    let whole : length block ≡ h - (end + 1) + 17 + area_size n = omega (arith, size, front, length-append (zeros ++ head (h + HEAD)) (closed_area count base)) in
    let there : end + 1 + length block ≤ length mid = written.long in
    let more : length mid ≤ length new = torn.no_shorter in
    let over : length image ≤ length mid = written.differs.long in
    let header : (i : ℕ) → (i < 4) ⊎ (8 ≤ i) → i < 24 → slice_index new i ≡ slice_index image i =
    λ i apart lt. ⊎_elim
    (λ lo. torn_same 4 1 mid new torn i (inl lo) ∙ written.differs.same i (inl (omega arith)) (inl (omega arith)))
    (λ hi. torn_same 4 1 mid new torn i (inr (omega arith)) ∙ written.differs.same i (inl (omega arith)) (inr (omega arith))) apart in
    let two : slice_index new 4 ≡ 2 = ⊎_elim (λ is_two. is_two) (λ is_not. absurd (throws is_not)) (cases_eq (slice_index new 4) 2) in
    let version : take 5 new ≡ MAGIC ++ 2 ∷ [] =
    take_more new 4 0 (omega arith)
    ∙ ap (λ (l : List ℕ). l ++ slice_index new 4 ∷ []) (same_part image new 0 4 (omega arith) (omega arith) (λ i lo hi. header i (inl hi) (omega arith)) ∙ is.front.magic)
    ∙ ap (λ (v : ℕ). MAGIC ++ v ∷ []) two in
    let count_of_pages : h / PAGE < 256 ^ 3 = omega arith in
    let head_is : head_of new ≡ h =
    ap (λ (k : ℕ). PAGE * k) (number_at_part 3 5 (h / PAGE) new count_of_pages
    (same_part mid new 5 3 (omega arith) (omega arith) (λ i lo hi. torn_same 4 1 mid new torn i (inr lo)) ∙ written.has_mark) ∙ pages end) in
    let kept : (from m : ℕ) → from + m ≤ length block → part (end + 1 + from) m new ≡ part from m block =
    λ from m fits. same_part mid new (end + 1 + from) m (omega arith) (omega arith) (λ i lo hi. torn_same 4 1 mid new torn i (inr (omega arith)))
    ∙ sym (part_of_part (end + 1) (length block) from m mid fits there) ∙ ap (λ (l : List ℕ). part from m l) written.has_block in
    let head_at : part h 17 new ≡ head (h + HEAD) =
    ap (λ (k : ℕ). part k 17 new) (let same : h ≡ end + 1 + (h - (end + 1)) = omega arith in same) ∙ kept (h - (end + 1)) 17 (omega arith)
    ∙ part_at zeros (head (h + HEAD)) (closed_area count base) (h - (end + 1)) 17 fill refl in
    let area_at : part (h + HEAD) (area_size n) new ≡ closed_area count base =
    ap (λ (k : ℕ). part k (area_size n) new) (let same : h + HEAD ≡ end + 1 + (h - (end + 1) + 17) = omega arith in same) ∙ kept (h - (end + 1) + 17) (area_size n) (omega arith)
    ∙ ap (λ (l : List ℕ). take (area_size n) l) (drop_at (zeros ++ head (h + HEAD)) (closed_area count base) (h - (end + 1) + 17) front)
    ∙ take_all (area_size n) (closed_area count base) (omega (arith, size)) in
    let selector : slice_index new h ≡ 0 =
    ap (λ (k : ℕ). slice_index new k) (let same : h ≡ h + 0 = omega arith in same) ∙ sym (byte_in_part h 17 0 new (omega arith)) ∙ ap (λ (l : List ℕ). slice_index l 0) head_at in
    let told : number_of 8 (drop (h + 1) new) ≡ h + HEAD =
    number_at_part 8 (h + 1) (h + HEAD) new (omega arith)
    (sym (part_of_part h 17 1 8 new (omega arith) (omega arith)) ∙ ap (λ (l : List ℕ). part 1 8 l) head_at) in
    new_base guid (layout_then None end n) count base new version
    (same_part image new 8 16 (omega arith) (omega arith) (λ i lo hi. header i (inr lo) (omega arith)) ∙ is.front.has_guid)
    head_is (ap (λ (v : ℕ). v == 1) selector) told (omega arith) (omega arith) counted small area_at (omega arith)
