-- What a store stands for rests on some of its bytes alone.
use Rattle.std.proofs.Common.{◌≡◌, ◌≢◌, ℕ, ◌+◌, ◌*◌, ◌<◌, ◌≤◌, Bool, List, [], ◌∷◌, ◌++◌, length, take, drop, slice_index, Option, Some, None, refl, sym, ◌∙◌, ap, arith, append_assoc, length-append, length-drop}
use Rattle.std.specs.Prelude.{◌==◌}
use Rattle.std.specs.List.{All}
use Rattle.std.proofs.lemmas.List.{take_at}
use Rattle.mqb_fields.specs.Reading.{number_of}
use Rattle.mqb_layout.specs.declared.limits.TheConstants.{PAGE, AREA}
use Rattle.mqb_journal.specs.Store.{Base, Nothing, After, IsFirstVersion, IsSecondVersion, HasChain, StandsFor, IsSmall, chain}
use Rattle.mqb_layout.specs.Store.{part, head_of, place_of, place_told, uses_second}
use Rattle.mqb_layout.specs.declared.layout.Layout.{Layout}
use Rattle.mqb_journal.specs.Journals.{StandsIn}
use Rattle.mqb_layout.specs.Layouts.{layout_of}
use Rattle.mqb_journal.proofs.Bytes.{same_part, same_number, drop_in_parts}

-- Up to its closed gate an image agrees with another on all that it means, and its switch keeps the old store: of version 1
pub record AgreesFirst (end : ℕ) (old new : List ℕ) : Type 0 where
  pub magic : (i : ℕ) → i < 4 → slice_index new i ≡ slice_index old i
  pub version : slice_index new 4 ≢ 2
  pub behind : (i : ℕ) → 8 ≤ i → i ≤ end → slice_index new i ≡ slice_index old i
  pub long : end < length new

-- of version 2
pub record AgreesLater (l : Layout) (end : ℕ) (old new : List ℕ) : Type 0 where
  pub header : (i : ℕ) → i < 24 → slice_index new i ≡ slice_index old i
  pub selector : (slice_index new l.head == 1) ≡ l.second
  pub told : (i : ℕ) → place_told l.head l.second ≤ i → i < place_told l.head l.second + 8 → slice_index new i ≡ slice_index old i
  pub behind : (i : ℕ) → l.place ≤ i → i ≤ end → slice_index new i ≡ slice_index old i
  pub long : end < length new

abbrev pub Agrees : Option Layout → ℕ → List ℕ → List ℕ → Type 0
Agrees None end old new = AgreesFirst end old new
Agrees (Some l) end old new = AgreesLater l end old new

pub length-chained : (first : ℕ) (records : List (List ℕ)) (image : List ℕ) → HasChain first records image → first + length (chain records) < length image
length-chained first records image has = omega (arith, ap length has.is, length-drop first image, length-append (chain records) (has.gate ∷ has.rest))

-- the chain with the gate behind it
pub part_chained : (first : ℕ) (records : List (List ℕ)) (image : List ℕ) (has : HasChain first records image) → part first (length (chain records) + 1) image ≡ chain records ++ has.gate ∷ []
part_chained first records image has =
    ap (λ (l : List ℕ). take (length (chain records) + 1) l) (has.is ∙ sym (append_assoc (chain records) (has.gate ∷ []) has.rest))
    ∙ take_at (chain records ++ has.gate ∷ []) has.rest (length (chain records) + 1) (length-append (chain records) (has.gate ∷ []))

pub same_chain : (first end : ℕ) (records : List (List ℕ)) (old new : List ℕ) → HasChain first records old → end ≡ first + length (chain records)
    → ((i : ℕ) → first ≤ i → i ≤ end → slice_index new i ≡ slice_index old i) → end < length new → HasChain first records new
same_chain first end records old new has is same long =
    let size : ℕ = length (chain records) + 1 in
    let parts : part first size new ≡ chain records ++ has.gate ∷ [] =
    same_part old new first size (omega (arith, length-chained first records old has)) (omega arith) (λ i lo hi. same i lo (omega arith)) ∙ part_chained first records old has in
    record {
      gate = has.gate;
      rest = drop (first + size) new;
      closed = has.closed;
      is = drop_in_parts first size new ∙ ap (λ (l : List ℕ). l ++ drop (first + size) new) parts ∙ append_assoc (chain records) (has.gate ∷ []) (drop (first + size) new);
    }

pub same_first : (guid : List ℕ) (first end : ℕ) (old new : List ℕ) → IsFirstVersion guid first old → first ≤ end + 1 → end < length old → AgreesFirst end old new → IsFirstVersion guid first new
same_first guid first end old new is within long agrees = record {
  magic = same_part old new 0 4 (omega (arith, is.begins)) (omega (arith, agrees.long, is.begins)) (λ i lo hi. agrees.magic i hi) ∙ is.magic;
  version = agrees.version;
  has_guid = same_part old new 8 16 (omega (arith, is.begins)) (omega (arith, agrees.long, is.begins)) (λ i lo hi. agrees.behind i lo (omega (arith, hi, is.begins))) ∙ is.has_guid;
  begins = is.begins;
}

pub layout_is : (l k : Layout) → l.head ≡ k.head → l.place ≡ k.place → l.second ≡ k.second → l ≡ k
layout_is l k head place second =
    ap (λ (h : ℕ). record { head = h; place = l.place; second = l.second }) head ∙ ap (λ (p : ℕ). record { head = k.head; place = p; second = l.second }) place
    ∙ ap (λ (s : Bool). record { head = k.head; place = k.place; second = s }) second

-- two images that lie alike
pub same_layout : (l : Layout) (end : ℕ) (old new : List ℕ) → layout_of old ≡ l → AgreesLater l end old new → layout_of new ≡ l
same_layout l end old new laid agrees =
    let was : head_of old ≡ l.head = ap (λ (k : Layout). k.head) laid in
    let second_was : uses_second old ≡ l.second = ap (λ (k : Layout). k.second) laid in
    let head : head_of new ≡ l.head = ap (λ (n : ℕ). PAGE * n) (same_number 3 5 old new (λ i lo hi. agrees.header i (omega (arith, hi)))) ∙ was in
    let second : uses_second new ≡ l.second = ap (λ (h : ℕ). slice_index new h == 1) head ∙ agrees.selector in
    let at : place_told (head_of new) (uses_second new) ≡ place_told l.head l.second = ap (λ (h : ℕ). place_told h (uses_second new)) head ∙ ap (λ (s : Bool). place_told l.head s) second in
    let at_was : place_told (head_of old) (uses_second old) ≡ place_told l.head l.second = ap (λ (h : ℕ). place_told h (uses_second old)) was ∙ ap (λ (s : Bool). place_told l.head s) second_was in
    let place : place_of new ≡ l.place =
    ap (λ (k : ℕ). number_of 8 (drop k new)) at ∙ same_number 8 (place_told l.head l.second) old new agrees.told ∙ ap (λ (k : ℕ). number_of 8 (drop k old)) (sym at_was)
    ∙ ap (λ (k : Layout). k.place) laid in
    layout_is (layout_of new) l head place second

pub same_later : (guid : List ℕ) (count : ℕ) (base : List ℕ) (first end : ℕ) (l : Layout) (old new : List ℕ) → IsSecondVersion guid count base first old → layout_of old ≡ l
    → first ≤ end + 1 → end < length old → AgreesLater l end old new → IsSecondVersion guid count base first new
same_later guid count base first end l old new is laid within long agrees =
    let here : layout_of new ≡ layout_of old = same_layout l end old new laid agrees ∙ sym laid in
    let head : head_of new ≡ head_of old = ap (λ (k : Layout). k.head) here in
    let place : place_of new ≡ place_of old = ap (λ (k : Layout). k.place) here in
    let place_is : place_of old ≡ l.place = ap (λ (k : Layout). k.place) laid in
    let low : PAGE ≤ head_of old = is.head in
    let behind : head_of old + 17 ≤ place_of old = is.behind in
    let begins : first ≡ place_of old + AREA + length base = is.begins in
    let more : end < length new = agrees.long in
    record {
      version = same_part old new 0 5 (omega arith) (omega arith) (λ i lo hi. agrees.header i (omega arith)) ∙ is.version;
      has_guid = same_part old new 8 16 (omega arith) (omega arith) (λ i lo hi. agrees.header i (omega arith)) ∙ is.has_guid;
      head = omega (arith, head);
      behind = omega (arith, head, place);
      counted = is.counted;
      small = is.small;
      has_area = ap (λ (k : ℕ). part k (AREA + length base) new) place
          ∙ same_part old new (place_of old) (AREA + length base) (omega arith) (omega arith) (λ i lo hi. agrees.behind i (omega arith) (omega arith)) ∙ is.has_area;
      begins = omega (arith, place);
    }

-- An image that agrees with another on the old region stands for the same.
pub stands_by_region : (guid : List ℕ) (later : Option Layout) (first end : ℕ) (base : Base) (records : List (List ℕ)) (old new : List ℕ)
    → StandsIn guid later first base records old → end ≡ first + length (chain records) → Agrees later end old new → StandsIn guid later first base records new
stands_by_region guid None first end Nothing records old new is at agrees =
    let long : end < length old = omega (arith, length-chained first records old is.stands) in
    record {
      front = same_first guid first end old new is.front (omega arith) long agrees;
      laid = refl;
      stands = same_chain first end records old new is.stands at (λ i lo hi. agrees.behind i (omega (arith, is.front.begins)) hi) agrees.long;
    }
stands_by_region guid (Some l) first end Nothing records old new is at agrees = absurd (let no : None ≡ Some l = is.laid in cc)
stands_by_region guid None first end (After count base) records old new is at agrees = absurd (let no : Some (layout_of old) ≡ None = is.laid in cc)
stands_by_region guid (Some l) first end (After count base) records old new is at agrees =
    let laid : layout_of old ≡ l = (let both : Some (layout_of old) ≡ Some l = is.laid in cc) in
    let long : end < length old = omega (arith, length-chained first records old is.stands) in
    let place : place_of old ≡ l.place = ap (λ (k : Layout). k.place) laid in
    let begins : first ≡ place_of old + AREA + length base = is.front.begins in
    record {
      front = same_later guid count base first end l old new is.front laid (omega arith) long agrees;
      laid = ap (λ (k : Layout). Some k) (same_layout l end old new laid agrees);
      stands = same_chain first end records old new is.stands at (λ i lo hi. agrees.behind i (omega arith) hi) agrees.long;
    }

pub stands_for : (guid : List ℕ) (later : Option Layout) (first : ℕ) (base : Base) (records : List (List ℕ)) (image : List ℕ) → All IsSmall records
    → StandsIn guid later first base records image → StandsFor guid base records image
stands_for guid later first base records image small is = record { first = first; front = is.front; small = small; stands = is.stands }
