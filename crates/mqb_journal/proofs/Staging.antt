-- What an image stands for when the new area lies ready, and when the switch is thrown.
use Rattle.std.proofs.Common.{◌≡◌, inl, inr, ◌⊎◌, ⊎_elim, ℕ, ◌+◌, ◌^◌, ◌<◌, ◌≤◌, Bool, true, false, not, List, [], ◌∷◌, ◌++◌, length, take, drop, slice_index, Option, Some, None, refl, sym, ◌∙◌, ap, subst, arith, length-append}
use Rattle.std.specs.Prelude.{◌==◌, if◌then◌else◌}
use Rattle.std.proofs.lemmas.Bool.Decides.{leb_tells}
use Rattle.std.proofs.lemmas.List.{take_at, take-take, drop_more, get_or_at}
use Rattle.mqb_fields.specs.Guids.{swapped}
use Rattle.mqb_fields.specs.Reading.{number_of}
use Rattle.mqb_fields.specs.Writing.{bytes_of}
use Rattle.mqb_outside.specs.Images.{Torn}
use Rattle.mqb_layout.specs.declared.limits.TheConstants.{MAX_BASE, PAGE, HEAD, AREA}
use Rattle.mqb_layout.specs.Store.{MAGIC, part, area, head_of, place_of, place_told, uses_second}
use Rattle.mqb_journal.specs.Store.{Base, Nothing, After, IsFirstVersion, chain}
use Rattle.mqb_layout.specs.declared.layout.Layout.{Layout}
use Rattle.mqb_layout.specs.Layouts.{IsLaidOut, area_size, place_then}
use Rattle.mqb_journal.specs.Journals.{StandsIn}
use Rattle.mqb_layout.specs.Layouts.{layout_of}
use Rattle.mqb_layout.specs.Checkpoints.{head, closed_area, block_for, block_place, mark_for, mark_place, switch_place}
use Rattle.mqb_journal.specs.Checkpoints.{KeepsOld}
use Rattle.mqb_journal.proofs.Bytes.{byte_in_part, torn_same}
use Rattle.mqb_journal.proofs.Regions.{AgreesFirst, AgreesLater, Agrees, length-chained, layout_is}
use Rattle.mqb_journal.proofs.Writes.{Differs}

pub length-area : (count : ℕ) (base : List ℕ) → length (area count base) ≡ AREA + length base
length-area count base = omega (arith, length-append (bytes_of 4 (8 + length base) ++ bytes_of 8 count) base)

pub length-closed : (count : ℕ) (base : List ℕ) → length (closed_area count base) ≡ area_size (length base)
length-closed count base = omega (arith, length-append (area count base) (0 ∷ []), length-area count base)

-- a head that selects an area, which has a closed gate
pub new_base : (guid : List ℕ) (l : Layout) (count : ℕ) (base image : List ℕ) → take 5 image ≡ MAGIC ++ 2 ∷ [] → part 8 16 image ≡ swapped guid
    → head_of image ≡ l.head → (slice_index image l.head == 1) ≡ l.second → number_of 8 (drop (place_told l.head l.second) image) ≡ l.place
    → PAGE ≤ l.head → l.head + HEAD ≤ l.place → count ≤ 2 ^ 63 → length base ≤ MAX_BASE
    → part l.place (area_size (length base)) image ≡ closed_area count base → l.place + area_size (length base) ≤ length image
    → StandsIn guid (Some l) (l.place + AREA + length base) (After count base) [] image
new_base guid l count base image version of_guid head selector told low behind counted small written long =
    let n : ℕ = length base in
    let end : ℕ = l.place + AREA + n in
    let second : uses_second image ≡ l.second = ap (λ (h : ℕ). slice_index image h == 1) head ∙ selector in
    let at : place_told (head_of image) (uses_second image) ≡ place_told l.head l.second =
    ap (λ (h : ℕ). place_told h (uses_second image)) head ∙ ap (λ (s : Bool). place_told l.head s) second in
    let place : place_of image ≡ l.place = ap (λ (k : ℕ). number_of 8 (drop k image)) at ∙ told in
    let whole : part l.place (AREA + n) image ≡ area count base =
    sym (take-take (AREA + n) (area_size n) (drop l.place image) (omega arith)) ∙ ap (λ (r : List ℕ). take (AREA + n) r) written
    ∙ take_at (area count base) (0 ∷ []) (AREA + n) (length-area count base) in
    let gate : slice_index image end ≡ 0 =
    ap (λ (k : ℕ). slice_index image k) (let same : end ≡ l.place + (AREA + n) = omega arith in same) ∙ sym (byte_in_part l.place (area_size n) (AREA + n) image (omega arith))
    ∙ ap (λ (r : List ℕ). slice_index r (AREA + n)) written ∙ get_or_at (area count base) 0 [] 0 (AREA + n) (length-area count base) in
    record {
      front = record {
        version = version;
        has_guid = of_guid;
        head = omega (arith, head);
        behind = omega (arith, head, place);
        counted = counted;
        small = small;
        has_area = ap (λ (k : ℕ). part k (AREA + n) image) place ∙ whole;
        begins = omega (arith, place);
      };
      laid = ap (λ (k : Layout). Some k) (layout_is (layout_of image) l head place second);
      stands = record {
        gate = slice_index image end;
        rest = drop (end + 1) image;
        closed = λ is_open. absurd (let no : ⊥ = omega (arith, gate, is_open) in no);
        is = drop_more image end 0 (omega arith);
      };
    }

pub told_within : (h : ℕ) (s : Bool) → (h + 1 ≤ place_told h s) × (place_told h s + 8 ≤ h + HEAD)
told_within h true = (omega arith, omega arith)
told_within h false = (omega arith, omega arith)

told_apart : (h : ℕ) (s : Bool) (i : ℕ) → place_told h s ≤ i → i < place_told h s + 8 → (i < place_told h (not s)) ⊎ (place_told h (not s) + 8 ≤ i)
told_apart h true i lo hi = inr (omega arith)
told_apart h false i lo hi = inl (omega arith)

pub other_bool : (a b : Bool) → (a ≡ b → ⊥) → a ≡ not b
other_bool true true differ = absurd (differ refl)
other_bool true false differ = refl
other_bool false true differ = refl
other_bool false false differ = absurd (differ refl)

-- the next area lies between the head and the area in use, or behind the closed gate
pub place_cases : (l : Layout) (end size : ℕ) → ((place_then l end size ≡ l.head + HEAD) × (l.head + HEAD + size ≤ l.place)) ⊎ (place_then l end size ≡ end + 1)
place_cases l end size = ⊎_elim
    (λ fits. inl (ap (λ (b : Bool). if b then l.head + HEAD else end + 1) fits.0, fits.1))
    (λ over. inr (ap (λ (b : Bool). if b then l.head + HEAD else end + 1) over.0))
    (leb_tells (l.head + HEAD + size) l.place)

-- a layout that stands is within the store
pub bounds : (guid : List ℕ) (l : Layout) (first end count : ℕ) (base : List ℕ) (records : List (List ℕ)) (image : List ℕ) → StandsIn guid (Some l) first (After count base) records image
    → end ≡ first + length (chain records) → IsLaidOut l end
bounds guid l first end count base records image is at =
    let laid : layout_of image ≡ l = (let both : Some (layout_of image) ≡ Some l = is.laid in cc) in
    let head : head_of image ≡ l.head = ap (λ (k : Layout). k.head) laid in
    let place : place_of image ≡ l.place = ap (λ (k : Layout). k.place) laid in
    let low : PAGE ≤ head_of image = is.front.head in
    let behind : head_of image + HEAD ≤ place_of image = is.front.behind in
    let begins : first ≡ place_of image + AREA + length base = is.front.begins in
    record { low = omega arith; behind = omega arith; within = omega arith }

-- the next area is behind the head too
pub place_low : (l : Layout) (end size : ℕ) → IsLaidOut l end → l.head + HEAD ≤ place_then l end size
place_low l end size b = ⊎_elim (λ first. (let is = first.0 in omega (arith, is))) (λ last. omega (arith, last, b.behind, b.within)) (place_cases l end size)

-- and apart from the one in use
place_apart : (l : Layout) (end size i : ℕ) → IsLaidOut l end → l.place ≤ i → i ≤ end → (i < place_then l end size) ⊎ (place_then l end size + size ≤ i)
place_apart l end size i b lo hi = ⊎_elim (λ first. inr (let is = first.0 in let fits = first.1 in omega (arith, is, fits, lo))) (λ last. inl (omega (arith, last, hi))) (place_cases l end size)

agrees_first : (guid : List ℕ) (first end m : ℕ) (old new : List ℕ) → IsFirstVersion guid first old → first ≤ end → end < length old → Differs (end + 1) m 5 3 old new → AgreesFirst end old new
agrees_first guid first end m old new is within long differs =
    let begins : first ≡ 24 = is.begins in
    let four : slice_index new 4 ≡ slice_index old 4 = differs.same 4 (inl (omega arith)) (inl (omega arith)) in
    record {
      magic = λ i lt. differs.same i (inl (omega arith)) (inl (omega arith));
      version = λ two. is.version (sym four ∙ two);
      behind = λ i lo hi. differs.same i (inl (omega arith)) (inr (omega arith));
      long = omega (arith, differs.long);
    }

agrees_later : (l : Layout) (end size : ℕ) (old new : List ℕ) → IsLaidOut l end → layout_of old ≡ l → end < length old → Differs (place_then l end size) size (place_told l.head (not l.second)) 8 old new
    → AgreesLater l end old new
agrees_later l end size old new b laid long differs =
    let q : l.head + HEAD ≤ place_then l end size = place_low l end size b in
    let mark = told_within l.head (not l.second) in
    let used = told_within l.head l.second in
    let above : l.head + 1 ≤ place_told l.head (not l.second) = mark.0 in
    let under : place_told l.head (not l.second) + 8 ≤ l.head + HEAD = mark.1 in
    let low : PAGE ≤ l.head = b.low in
    let selector : slice_index new l.head ≡ slice_index old l.head = differs.same l.head (inl (omega arith)) (inl (omega arith)) in
    let was : (slice_index old l.head == 1) ≡ l.second = ap (λ (h : ℕ). slice_index old h == 1) (sym (ap (λ (k : Layout). k.head) laid)) ∙ ap (λ (k : Layout). k.second) laid in
    record {
      header = λ i lt. differs.same i (inl (omega arith)) (inl (omega arith));
      selector = ap (λ (v : ℕ). v == 1) selector ∙ was;
      told = λ i lo hi. differs.same i (inl (let top = used.1 in omega arith)) (told_apart l.head l.second i lo hi);
      behind = λ i lo hi. differs.same i (place_apart l end size i b lo hi) (inr (let far = b.behind in omega arith));
      long = omega (arith, differs.long);
    }

-- Two writes of a checkpoint leave the old region.
pub agrees_written : (guid : List ℕ) (later : Option Layout) (first end : ℕ) (old : Base) (records : List (List ℕ)) (count : ℕ) (base image new : List ℕ)
    → StandsIn guid later first old records image → end ≡ first + length (chain records)
    → Differs (block_place later end (length base)) (length (block_for later end count base)) (mark_place later) (length (mark_for later end (length base))) image new → Agrees later end image new
agrees_written guid None first end Nothing records count base image new is at differs =
    agrees_first guid first end _ image new is.front (omega arith) (omega (arith, length-chained first records image is.stands)) differs
agrees_written guid (Some l) first end Nothing records count base image new is at differs = absurd (let no : None ≡ Some l = is.laid in cc)
agrees_written guid None first end (After c b) records count base image new is at differs = absurd (let no : Some (layout_of image) ≡ None = is.laid in cc)
agrees_written guid (Some l) first end (After c b) records count base image new is at differs =
    let laid : layout_of image ≡ l = (let both : Some (layout_of image) ≡ Some l = is.laid in cc) in
    agrees_later l end (area_size (length base)) image new (bounds guid l first end c b records image is at) laid (omega (arith, length-chained first records image is.stands))
    (subst (λ (m : ℕ). Differs (place_then l end (area_size (length base))) m (place_told l.head (not l.second)) 8 image new) (length-closed count base) differs)

-- with a byte at the switch that keeps the old store
pub agrees_switched : (guid : List ℕ) (later : Option Layout) (first end : ℕ) (old : Base) (records : List (List ℕ)) (image mid new : List ℕ)
    → StandsIn guid later first old records image → end ≡ first + length (chain records)
    → Agrees later end image mid → Torn (switch_place later) 1 mid new → KeepsOld later (slice_index new (switch_place later)) → Agrees later end image new
agrees_switched guid None first end base records image mid new is at agrees torn keeps = record {
  magic = λ i lt. torn_same 4 1 mid new torn i (inl lt) ∙ agrees.magic i lt;
  version = keeps;
  behind = λ i lo hi. torn_same 4 1 mid new torn i (inr (omega arith)) ∙ agrees.behind i lo hi;
  long = omega (arith, agrees.long, torn.no_shorter);
}
agrees_switched guid (Some l) first end Nothing records image mid new is at agrees torn keeps = absurd (let no : None ≡ Some l = is.laid in cc)
agrees_switched guid (Some l) first end (After c b) records image mid new is at agrees torn keeps =
    let bound = bounds guid l first end c b records image is at in
    let low : PAGE ≤ l.head = bound.low in
    let far : l.head + HEAD ≤ l.place = bound.behind in
    record {
      header = λ i lt. torn_same l.head 1 mid new torn i (inl (omega arith)) ∙ agrees.header i lt;
      selector = keeps;
      told = λ i lo hi. torn_same l.head 1 mid new torn i (inr (let above = (told_within l.head l.second).0 in omega (arith, above, lo))) ∙ agrees.told i lo hi;
      behind = λ i lo hi. torn_same l.head 1 mid new torn i (inr (omega arith)) ∙ agrees.behind i lo hi;
      long = omega (arith, agrees.long, torn.no_shorter);
    }
