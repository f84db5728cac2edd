-- What every image at every moment of a checkpoint stands for.
use Rattle.std.proofs.Common.{◌≡◌, inl, inr, ◌⊎◌, ⊎_elim, ℕ, ◌+◌, ◌-◌, ◌^◌, ◌<◌, ◌≤◌, Bool, true, false, not, ◌&&◌, List, [], ◌∷◌, ◌++◌, length, take, replicate, slice_index, Option, Some, None, is_none, refl, sym, ◌∙◌, ap, subst, arith, length-append}
use Rattle.std.specs.Prelude.{◌==◌, nat_lt, if◌then◌else◌}
use Rattle.std.specs.List.{All}
use Rattle.std.proofs.lemmas.List.Elements.{All-nil}
use Rattle.std.proofs.lemmas.Bool.{cases_eq, ltb-false, true≢false, false≢true}
use Rattle.std.proofs.lemmas.List.{get_or-take, length-take-le, length-replicate}
use Rattle.mqb_fields.specs.Writing.{put_at}
use Rattle.mqb_outside.specs.Images.{Each, Torn, MayBeCut}
use Rattle.mqb_outside.specs.Disk.{View, IsSettled, LeavesOnly}
use Rattle.mqb_outside.specs.lemmas.Runs.{weaker}
use Rattle.mqb_outside.specs.lemmas.Steps.{length-written, written_torn}
use Rattle.mqb_layout.specs.declared.limits.TheConstants.{MAX_BASE, MOST_HEAD, PAGE, HEAD, AREA}
use Rattle.mqb_layout.specs.declared.layout.Layout.{Layout}
use Rattle.mqb_journal.specs.Store.{Base, Nothing, After, StandsFor, IsSmall, IsOldOrNew, chain}
use Rattle.mqb_layout.specs.Store.{place_told}
use Rattle.mqb_layout.specs.Layouts.{IsLaidOut, IsWithinStore, area_size, head_behind, layout_then}
use Rattle.mqb_journal.specs.Journals.{StandsIn}
use Rattle.mqb_layout.specs.Layouts.{layout_of}
use Rattle.mqb_journal.specs.Gates.{IsTornFrom, IsSwitchedFrom}
use Rattle.mqb_layout.specs.Checkpoints.{head, closed_area, block_for, block_place, mark_for, mark_place, switch_place, switch_byte}
use Rattle.mqb_journal.specs.Checkpoints.{KeepsOld, IsStaged}
use Rattle.mqb_journal.proofs.Bytes.{byte_in_part, written_part}
use Rattle.mqb_journal.proofs.Regions.{length-chained, stands_by_region, stands_for}
use Rattle.mqb_journal.proofs.Writes.{Differs, HasWritten, torn_both, written_both}
use Rattle.mqb_journal.proofs.Staging.{length-closed, bounds, place_cases, place_low, told_within, agrees_written, agrees_switched}
use Rattle.mqb_journal.proofs.Thrown.{behind_end, thrown_first, thrown_later}

-- where the new area ends
pub block_ends : (later : Option Layout) (end count : ℕ) (base : List ℕ)
    → block_place later end (length base) + length (block_for later end count base) ≡ (layout_then later end (length base)).place + AREA + length base + 1
block_ends None end count base =
    let h : ℕ = head_behind end in
    let zeros : List ℕ = replicate (h - (end + 1)) 0 in
    let behind : end + 1 ≤ h = (behind_end end).0 in
    omega (arith, length-closed count base, length-replicate {A = ℕ} (h - (end + 1)) 0, length-append zeros (head (h + HEAD)), length-append (zeros ++ head (h + HEAD)) (closed_area count base))
block_ends (Some l) end count base = omega (arith, length-closed count base)

pub block_starts : (later : Option Layout) (end base : ℕ) → IsWithinStore later end → block_place later end base ≤ end + 1
block_starts None end base within = omega arith
block_starts (Some l) end base within = ⊎_elim
    (λ first. (let is = first.0 in let far = within.behind in let inside = within.within in omega (arith, is, far, inside)))
    (λ last. omega (arith, last)) (place_cases l end (area_size base))

pub mark_before : (later : Option Layout) (end base : ℕ) → IsWithinStore later end → mark_place later + length (mark_for later end base) ≤ block_place later end base
mark_before None end base within = omega arith
mark_before (Some l) end base within =
    let low = place_low l end (area_size base) within in
    let under = (told_within l.head (not l.second)).1 in
    omega (arith, low, under)

pub switch_before : (later : Option Layout) (end base : ℕ) → IsWithinStore later end → switch_place later < (layout_then later end base).place + AREA + base
switch_before None end base within = omega arith
switch_before (Some l) end base within = let low = place_low l end (area_size base) within in omega (arith, low)

near_first : (end : ℕ) → nat_lt MOST_HEAD (head_behind end) ≡ false → head_behind end ≤ MOST_HEAD
near_first end near = ltb-false MOST_HEAD (head_behind end) near

pub throws : (guid : List ℕ) (later : Option Layout) (first end : ℕ) (old : Base) (records : List (List ℕ)) (count : ℕ) (base image mid new : List ℕ)
    → StandsIn guid later first old records image → end ≡ first + length (chain records)
    → HasWritten (block_place later end (length base)) (block_for later end count base) (mark_place later) (mark_for later end (length base)) image mid
    → Torn (switch_place later) 1 mid new → (KeepsOld later (slice_index new (switch_place later)) → ⊥)
    → count ≤ 2 ^ 63 → length base ≤ MAX_BASE → end < 2 ^ 62 → (is_none later && nat_lt MOST_HEAD (head_behind end)) ≡ false
    → StandsIn guid (Some (layout_then later end (length base))) ((layout_then later end (length base)).place + AREA + length base) (After count base) [] new
throws guid None first end Nothing records count base image mid new is at written torn thrown counted small bound near =
    thrown_first guid first end records count base image mid new is at written torn thrown counted small bound (near_first end near)
throws guid (Some l) first end Nothing records count base image mid new is at written torn thrown counted small bound near = absurd (let no : None ≡ Some l = is.laid in cc)
throws guid None first end (After c b) records count base image mid new is at written torn thrown counted small bound near = absurd (let no : Some (layout_of image) ≡ None = is.laid in cc)
throws guid (Some l) first end (After c b) records count base image mid new is at written torn thrown counted small bound near =
    thrown_later guid l first end c b records count base image mid new is at written torn thrown counted small bound

-- What was written lies ready.
pub staged : (guid : List ℕ) (later : Option Layout) (first end : ℕ) (old : Base) (records : List (List ℕ)) (count : ℕ) (base image mid : List ℕ)
    → All IsSmall records → StandsIn guid later first old records image → end ≡ first + length (chain records)
    → HasWritten (block_place later end (length base)) (block_for later end count base) (mark_place later) (mark_for later end (length base)) image mid
    → count ≤ 2 ^ 63 → length base ≤ MAX_BASE → end < 2 ^ 62 → (is_none later && nat_lt MOST_HEAD (head_behind end)) ≡ false
    → IsStaged guid later old records (layout_then later end (length base)) ((layout_then later end (length base)).place + AREA + length base) (After count base) mid
staged guid later first end old records count base image mid fits is at written counted small bound near = record {
  long = omega (arith, written.long, block_ends later end count base);
  keeps = λ c torn keeps. stands_for guid later first old records c fits (stands_by_region guid later first end old records image c is at
      (agrees_switched guid later first end old records image mid c is at (agrees_written guid later first end old records count base image mid is at written.differs) torn keeps));
  throws = λ c torn thrown. throws guid later first end old records count base image mid c is at written torn thrown counted small bound near;
}

-- cut behind its gate a store with a base and no records stands for the same
pub stands_cut : (guid : List ℕ) (l : Layout) (end count : ℕ) (base image : List ℕ) → StandsIn guid (Some l) end (After count base) [] image → StandsIn guid (Some l) end (After count base) [] (take (end + 1) image)
stands_cut guid l end count base image is =
    let laid : layout_of image ≡ l = (let both : Some (layout_of image) ≡ Some l = is.laid in cc) in
    let long : end < length image = omega (arith, length-chained end [] image is.stands) in
    let bound : IsLaidOut l end = bounds guid l end end count base [] image is (omega arith) in
    let inside : l.place + AREA ≤ end = bound.within in
    let behind : l.head + HEAD ≤ l.place = bound.behind in
    let low : PAGE ≤ l.head = bound.low in
    let under : place_told l.head l.second + 8 ≤ l.head + HEAD = (told_within l.head l.second).1 in
    let same : (i : ℕ) → i < end + 1 → slice_index (take (end + 1) image) i ≡ slice_index image i = λ i lt. get_or-take (end + 1) image i 0 lt in
    let was : (slice_index image l.head == 1) ≡ l.second = ap (λ (h : ℕ). slice_index image h == 1) (sym (ap (λ (k : Layout). k.head) laid)) ∙ ap (λ (k : Layout). k.second) laid in
    stands_by_region guid (Some l) end end (After count base) [] image (take (end + 1) image) is (omega arith) (record {
      header = λ i lt. same i (omega arith);
      selector = ap (λ (v : ℕ). v == 1) (same l.head (omega arith)) ∙ was;
      told = λ i lo hi. same i (omega arith);
      behind = λ i lo hi. same i (omega arith);
      long = omega (arith, length-take-le (end + 1) image (omega arith));
    })

same_bool : (a b : Bool) → (a ≡ b) ⊎ (a ≡ b → ⊥)
same_bool true true = inl refl
same_bool true false = inr true≢false
same_bool false true = inr false≢true
same_bool false false = inl refl

keeps_or_throws : (later : Option Layout) (byte : ℕ) → KeepsOld later byte ⊎ (KeepsOld later byte → ⊥)
keeps_or_throws None byte = ⊎_elim (λ two. inr (λ is_not. is_not two)) (λ is_not. inl is_not) (cases_eq byte 2)
keeps_or_throws (Some l) byte = same_bool (byte == 1) l.second

selected : (s : Bool) → ((if s then 0 else 1) == 1) ≡ s → ⊥
selected true same = false≢true same
selected false same = true≢false same

thrown_over : (later : Option Layout) → KeepsOld later (switch_byte later) → ⊥
thrown_over None keeps = keeps refl
thrown_over (Some l) keeps = selected l.second keeps

-- the byte that switches over, written
switched_byte : (later : Option Layout) (mid : List ℕ) → switch_place later < length mid → slice_index (put_at mid (switch_place later) (switch_byte later ∷ [])) (switch_place later) ≡ switch_byte later
switched_byte later mid within =
    let s : ℕ = switch_place later in
    let new : List ℕ = put_at mid s (switch_byte later ∷ []) in
    ap (λ (k : ℕ). slice_index new k) (let same : s ≡ s + 0 = omega arith in same) ∙ sym (byte_in_part s 1 0 new (omega arith))
    ∙ ap (λ (l : List ℕ). slice_index l 0) (written_part s (switch_byte later ∷ []) mid new (omega arith) refl)

pub switched : (guid : List ℕ) (later : Option Layout) (old : Base) (records : List (List ℕ)) (next : Layout) (end : ℕ) (new : Base) (mid : List ℕ) → IsStaged guid later old records next end new mid
    → switch_place later < end → StandsIn guid (Some next) end new [] (put_at mid (switch_place later) (switch_byte later ∷ []))
switched guid later old records next end new mid ready below =
    let long : end < length mid = ready.long in
    let at : switch_place later < length mid = omega arith in
    ready.throws (put_at mid (switch_place later) (switch_byte later ∷ [])) (written_torn (switch_place later) 1 (switch_byte later ∷ []) mid _ (omega arith) (omega arith) refl)
    (λ keeps. thrown_over later (subst (λ (b : ℕ). KeepsOld later b) (switched_byte later mid at) keeps))

-- Whatever the switch and the cut leave is the old store or the new one.
pub old_or_new : (guid : List ℕ) (later : Option Layout) (old : Base) (records : List (List ℕ)) (next : Layout) (end count : ℕ) (base mid c : List ℕ)
    → IsStaged guid later old records next end (After count base) mid → switch_place later < end
    → Torn (switch_place later) 1 mid c ⊎ MayBeCut (end + 1) (put_at mid (switch_place later) (switch_byte later ∷ [])) c → IsOldOrNew guid old (After count base) records c
old_or_new guid later old records next end count base mid c ready below (inl torn) = ⊎_elim
    (λ keeps. inl (ready.keeps c torn keeps))
    (λ thrown. inr (stands_for guid (Some next) end (After count base) [] c (All-nil IsSmall) (ready.throws c torn thrown)))
    (keeps_or_throws later (slice_index c (switch_place later)))
old_or_new guid later old records next end count base mid c ready below (inr (inl whole)) =
    inr (subst (λ (l : List ℕ). StandsFor guid (After count base) [] l) (sym whole)
    (stands_for guid (Some next) end (After count base) [] _ (All-nil IsSmall) (switched guid later old records next end (After count base) mid ready below)))
old_or_new guid later old records next end count base mid c ready below (inr (inr cut)) =
    inr (subst (λ (l : List ℕ). StandsFor guid (After count base) [] l) (sym cut)
    (stands_for guid (Some next) end (After count base) [] _ (All-nil IsSmall) (stands_cut guid next end count base _ (switched guid later old records next end (After count base) mid ready below))))

-- The first half of a checkpoint leaves the old store at every moment.
pub first_half : (d m : View) (guid : List ℕ) (later : Option Layout) (first end : ℕ) (old : Base) (records : List (List ℕ)) (count : ℕ) (base : List ℕ) (at k mark n : ℕ)
    → at ≡ block_place later end (length base) → k ≡ length (block_for later end count base) → mark ≡ mark_place later → n ≡ length (mark_for later end (length base))
    → All IsSmall records → Each d.reads (StandsIn guid later first old records) → end ≡ first + length (chain records) → IsSettled d
    → LeavesOnly d m (IsTornFrom mark n (IsTornFrom at k d.leaves)) → LeavesOnly d m (StandsFor guid old records)
first_half d m guid later first end old records count base at k mark n at_is k_is mark_is n_is small stands ends settled run =
    weaker d m (IsTornFrom mark n (IsTornFrom at k d.leaves)) (StandsFor guid old records) run
    (λ c torn. (
    let mid = torn.0 in
    let from = torn.1 in
    let image = from.0 in
    let is = stands image (settled image from.1) in
    let differs : Differs (block_place later end (length base)) (length (block_for later end count base)) (mark_place later) (length (mark_for later end (length base))) image c =
    subst (λ (x : ℕ). Differs x (length (block_for later end count base)) (mark_place later) (length (mark_for later end (length base))) image c) at_is
    (subst (λ (x : ℕ). Differs at x (mark_place later) (length (mark_for later end (length base))) image c) k_is
    (subst (λ (x : ℕ). Differs at k x (length (mark_for later end (length base))) image c) mark_is
    (subst (λ (x : ℕ). Differs at k mark x image c) n_is (torn_both at k mark n image mid c from.2 torn.2)))) in
    stands_for guid later first old records c small (stands_by_region guid later first end old records image c is ends (agrees_written guid later first end old records count base image c is ends differs))
    ))

-- the two writes of a checkpoint, as they were made
pub as_made : (later : Option Layout) (end count : ℕ) (base : List ℕ) (at : ℕ) (block : List ℕ) (mark : ℕ) (bytes image mid : List ℕ)
    → at ≡ block_place later end (length base) → block ≡ block_for later end count base → mark ≡ mark_place later → bytes ≡ mark_for later end (length base)
    → mid ≡ put_at (put_at image at block) mark bytes
    → mid ≡ put_at (put_at image (block_place later end (length base)) (block_for later end count base)) (mark_place later) (mark_for later end (length base))
as_made later end count base at block mark bytes image mid at_is block_is mark_is bytes_is is =
    is
    ∙ ap (λ (x : ℕ). put_at (put_at image x block) mark bytes) at_is
    ∙ ap (λ (x : List ℕ). put_at (put_at image (block_place later end (length base)) x) mark bytes) block_is
    ∙ ap (λ (x : ℕ). put_at (put_at image (block_place later end (length base)) (block_for later end count base)) x bytes) mark_is
    ∙ ap (λ (x : List ℕ). put_at (put_at image (block_place later end (length base)) (block_for later end count base)) (mark_place later) x) bytes_is

pub written_for : (later : Option Layout) (end count : ℕ) (base : List ℕ) (at : ℕ) (block : List ℕ) (mark : ℕ) (bytes image mid : List ℕ)
    → at ≡ block_place later end (length base) → block ≡ block_for later end count base → mark ≡ mark_place later → bytes ≡ mark_for later end (length base)
    → IsWithinStore later end → end < length image → mid ≡ put_at (put_at image at block) mark bytes
    → HasWritten (block_place later end (length base)) (block_for later end count base) (mark_place later) (mark_for later end (length base)) image mid
written_for later end count base at block mark bytes image mid at_is block_is mark_is bytes_is within long is =
    written_both (block_place later end (length base)) (block_for later end count base) (mark_place later) (mark_for later end (length base)) image mid
    (omega (arith, block_starts later end (length base) within)) (mark_before later end (length base) within)
    (as_made later end count base at block mark bytes image mid at_is block_is mark_is bytes_is is)

-- The second half of a checkpoint leaves the old store or the new one.
pub second_half : (m e : View) (guid : List ℕ) (later : Option Layout) (old : Base) (records : List (List ℕ)) (next : Layout) (end count : ℕ) (base : List ℕ) (s b stop : ℕ)
    → s ≡ switch_place later → b ≡ switch_byte later → stop ≡ end + 1 → switch_place later < end → Each m.reads (IsStaged guid later old records next end (After count base))
    → LeavesOnly m e (IsSwitchedFrom s b stop m.reads) → LeavesOnly m e (IsOldOrNew guid old (After count base) records)
second_half m e guid later old records next end count base s b stop s_is b_is stop_is below ready run =
    weaker m e (IsSwitchedFrom s b stop m.reads) (IsOldOrNew guid old (After count base) records) run
    (λ c left. old_or_new guid later old records next end count base left.0 c (ready left.0 left.1) below
    (subst (λ (x : ℕ). Torn x 1 left.0 c ⊎ MayBeCut (end + 1) (put_at left.0 x (switch_byte later ∷ [])) c) s_is
    (subst (λ (x : ℕ). Torn s 1 left.0 c ⊎ MayBeCut (end + 1) (put_at left.0 s (x ∷ [])) c) b_is
    (subst (λ (x : ℕ). Torn s 1 left.0 c ⊎ MayBeCut x (put_at left.0 s (b ∷ [])) c) stop_is left.2))))

-- And at its end it is the new one.
pub stands_at_end : (guid : List ℕ) (later : Option Layout) (old : Base) (records : List (List ℕ)) (next : Layout) (end count : ℕ) (base : List ℕ) (s b stop : ℕ) (mid c : List ℕ)
    → s ≡ switch_place later → b ≡ switch_byte later → stop ≡ end + 1 → switch_place later < end → IsStaged guid later old records next end (After count base) mid
    → c ≡ take stop (put_at mid s (b ∷ [])) → StandsIn guid (Some next) end (After count base) [] c
stands_at_end guid later old records next end count base s b stop mid c s_is b_is stop_is below ready is =
    subst (λ (l : List ℕ). StandsIn guid (Some next) end (After count base) [] l)
    (sym (is ∙ ap (λ (x : ℕ). take x (put_at mid s (b ∷ []))) stop_is ∙ ap (λ (x : ℕ). take (end + 1) (put_at mid x (b ∷ []))) s_is
    ∙ ap (λ (x : ℕ). take (end + 1) (put_at mid (switch_place later) (x ∷ []))) b_is))
    (stands_cut guid next end count base _ (switched guid later old records next end (After count base) mid ready below))

pub length-switched : (s b stop : ℕ) (mid c : List ℕ) → s < stop → stop ≤ length mid → c ≡ take stop (put_at mid s (b ∷ [])) → length c ≡ stop
length-switched s b stop mid c below long is =
    ap length is ∙ length-take-le stop (put_at mid s (b ∷ [])) (omega (arith, length-written s (b ∷ []) mid (put_at mid s (b ∷ [])) (omega arith) refl))
