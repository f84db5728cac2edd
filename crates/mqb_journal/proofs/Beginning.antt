-- What was read before the first gate of a store.
use Rattle.std.proofs.Common.{◌≡◌, inl, inr, ◌⊎◌, ℕ, ◌+◌, ◌^◌, ◌<◌, ◌≤◌, max, Bool, List, ◌∷◌, length, drop, slice_index, sym, ◌∙◌, ap, subst, arith}
use Rattle.std.specs.Prelude.{◌==◌}
use Rattle.std.proofs.lemmas.List.{get_or-drop}
use Rattle.mqb_fields.specs.Guids.{swapped}
use Rattle.mqb_fields.specs.Reading.{number_of}
use Rattle.mqb_fields.specs.Writing.{bytes_of}
use Rattle.mqb_layout.specs.declared.limits.TheConstants.{MAX_BASE, PAGE, HEAD, AREA}
use Rattle.mqb_layout.specs.declared.layout.Layout.{Layout}
use Rattle.mqb_layout.specs.Layouts.{layout_of}
use Rattle.mqb_layout.specs.Store.{part, area, head_of, place_of, place_told, uses_second}
use Rattle.mqb_journal.specs.Store.{Base, Nothing, After, HasFront, IsSecondVersion}
use Rattle.mqb_journal.specs.Scan.{IsLater, IsNoArea, HasNoFront, ReadsOnlyFront, first_gate}
use Rattle.mqb_journal.proofs.Bytes.{number_at_part}
use Rattle.mqb_journal.proofs.Regions.{layout_is}
use Rattle.mqb_journal.proofs.Fronts.{area_is}

-- how a store lies whose head was read
pub head_read : (head byte place : ℕ) (second : Bool) (rest c : List ℕ) → head ≡ head_of c → drop head c ≡ byte ∷ rest → second ≡ (byte == 1) → place < 256 ^ 8 → part (place_told head second) 8 c ≡ bytes_of 8 place
    → layout_of c ≡ record { head = head; place = place; second = second }
head_read head byte place second rest c head_is read second_of fits told =
    let here : slice_index c (head_of c) ≡ byte =
    ap (λ (k : ℕ). slice_index c k) (sym head_is ∙ (let same : head ≡ head + 0 = omega arith in same)) ∙ sym (get_or-drop head c 0 0) ∙ ap (λ (l : List ℕ). slice_index l 0) read in
    let second_is : second ≡ uses_second c = second_of ∙ ap (λ (b : ℕ). b == 1) (sym here) in
    let place_is : place ≡ place_of c =
    sym (number_at_part 8 (place_told head second) place c fits told) ∙ ap (λ (h : ℕ). number_of 8 (drop (place_told h second) c)) head_is
    ∙ ap (λ (s : Bool). number_of 8 (drop (place_told (head_of c) s) c)) second_is in
    layout_is (layout_of c) (record { head = head; place = place; second = second }) (sym head_is) (sym place_is) (sym second_is)

pub no_head : (at head len : ℕ) (c : List ℕ) → at ≡ 4 → IsLater c → head ≡ head_of c → len ≡ length c → (head < PAGE) ⊎ (len < head + HEAD) → HasNoFront at c
no_head at head len c is later head_is long none = inr (inl (record {
  place = is;
  later = later;
  none = subst (λ (h : ℕ). (h < PAGE) ⊎ (length c < h + HEAD)) head_is (subst (λ (n : ℕ). (head < PAGE) ⊎ (n < head + HEAD)) long none);
}))

pub no_area : (at len : ℕ) (l : Layout) (c : List ℕ) → at ≡ l.place → IsLater c → layout_of c ≡ l → len ≡ length c → PAGE ≤ l.head → l.head + HEAD ≤ len → IsNoArea l.place c → HasNoFront at c
no_area at len l c is later laid long low inside none =
    let head_is : head_of c ≡ l.head = ap (λ (k : Layout). k.head) laid in
    let place_is : place_of c ≡ l.place = ap (λ (k : Layout). k.place) laid in
    inr (inr (record {
      place = is ∙ sym place_is;
      later = later;
      head = omega (arith, low, head_is);
      inside = omega (arith, inside, head_is, long);
      none = subst (λ (p : ℕ). IsNoArea p c) (sym is) none;
    }))

-- the front of a store of version 2
pub second_version : (guid : List ℕ) (l : Layout) (count : ℕ) (base c : List ℕ) → IsLater c → part 8 16 c ≡ swapped guid → layout_of c ≡ l → PAGE ≤ l.head → l.head + HEAD ≤ l.place
    → count ≤ 2 ^ 63 → length base ≤ MAX_BASE → part l.place (AREA + length base) c ≡ area count base → IsSecondVersion guid count base (l.place + AREA + length base) c
second_version guid l count base c later of_guid laid low behind counted small is =
    let head_is : head_of c ≡ l.head = ap (λ (k : Layout). k.head) laid in
    let place_is : place_of c ≡ l.place = ap (λ (k : Layout). k.place) laid in
    record {
      version = later.version;
      has_guid = of_guid;
      head = omega (arith, low, head_is);
      behind = omega (arith, behind, head_is, place_is);
      counted = counted;
      small = small;
      has_area = ap (λ (p : ℕ). part p (AREA + length base) c) place_is ∙ is;
      begins = omega (arith, place_is);
    }

-- reads of a head
pub head_reads : (head before now : ℕ) (c : List ℕ) → IsLater c → head ≡ head_of c → PAGE ≤ head → now ≤ max before (head + HEAD) → ReadsOnlyFront before now c
head_reads head before now c later head_is low within = inr (inl (later, omega (arith, low, head_is), omega (arith, within, head_is)))

-- and of an area of n bytes in all, behind its length
pub area_reads : (l : Layout) (n before now : ℕ) (c : List ℕ) → IsLater c → layout_of c ≡ l → PAGE ≤ l.head → l.head + HEAD ≤ l.place → number_of 4 (drop l.place c) ≡ n → now ≤ max before (l.place + 4 + n + 1)
    → ReadsOnlyFront before now c
area_reads l n before now c later laid low behind size within =
    let head_is : head_of c ≡ l.head = ap (λ (k : Layout). k.head) laid in
    let place_is : place_of c ≡ l.place = ap (λ (k : Layout). k.place) laid in
    let gate : first_gate c ≡ l.place + 4 + n =
    ap (λ (p : ℕ). p + 4 + number_of 4 (drop p c)) place_is ∙ ap (λ (k : ℕ). l.place + 4 + k) size in
    inr (inr (later, omega (arith, low, head_is), omega (arith, behind, head_is, place_is), omega (arith, within, gate)))

-- reads that go on from the header, or from a head
pub reads_on_header : (before mid now : ℕ) (c : List ℕ) → mid ≤ max before 24 → ReadsOnlyFront mid now c → ReadsOnlyFront before now c
reads_on_header before mid now c so_far (inl within) = inl (omega (arith, so_far, within))
reads_on_header before mid now c so_far (inr (inl head)) = inr (inl (head.0, head.1, (let low = head.1 in let within = head.2 in omega (arith, so_far, low, within))))
reads_on_header before mid now c so_far (inr (inr all)) =
    inr (inr (all.0, all.1, all.2, (let low = all.1 in let behind = all.2 in let within = all.3 in omega (arith, so_far, low, behind, within))))

pub reads_on_head : (head before mid now : ℕ) (c : List ℕ) → IsLater c → head ≡ head_of c → PAGE ≤ head → mid ≤ max before (head + HEAD) → ReadsOnlyFront mid now c → ReadsOnlyFront before now c
reads_on_head head before mid now c later head_is low so_far (inl within) = head_reads head before now c later head_is low (omega (arith, so_far, within, low))
reads_on_head head before mid now c later head_is low so_far (inr (inl more)) = head_reads head before now c later head_is low (let within = more.2 in omega (arith, so_far, within, head_is))
reads_on_head head before mid now c later head_is low so_far (inr (inr all)) =
    inr (inr (all.0, all.1, all.2, (let behind = all.2 in let within = all.3 in omega (arith, so_far, behind, within, head_is))))

-- reads to the first gate
pub gate_reads : (guid : List ℕ) (base : Base) (first before now : ℕ) (c : List ℕ) → HasFront guid base first c → first < length c → now ≤ max before (first + 1) → ReadsOnlyFront before now c
gate_reads guid Nothing first before now c is long within = inl (let begins = is.begins in omega (arith, begins, within))
gate_reads guid (After count base) first before now c is long within =
    let there = area_is (place_of c) count base c is.counted is.small is.has_area in
    let size : number_of 4 (drop (place_of c) c) ≡ 8 + length base = there.size in
    let begins : first ≡ place_of c + AREA + length base = is.begins in
    let low : PAGE ≤ head_of c = is.head in
    let behind : head_of c + HEAD ≤ place_of c = is.behind in
    inr (inr (record { long = omega (arith, long, begins, low, behind); version = is.version }, low, behind, omega (arith, within, begins, size)))
