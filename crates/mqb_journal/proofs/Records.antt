-- What an image with a record more or less stands for.
use Rattle.std.proofs.Common.{◌≡◌, inl, inr, ⊎_elim, ℕ, ◌+◌, ◌<◌, ◌≤◌, List, [], ◌∷◌, ◌++◌, length, take, drop, slice_index, Option, Some, None, refl, sym, ◌∙◌, ap, subst, arith, append_assoc, length-append}
use Rattle.std.specs.Prelude.{◌==◌}
use Rattle.mqb_fields.specs.Writing.{bytes_of}
use Rattle.std.proofs.lemmas.List.{append-nil, length-take, length-take-le, get_or-take, take-append-drop, drop-append-le, drop-take, drop-drop, take_at, drop_at, drop_all}
use Rattle.std.proofs.lemmas.List.Elements.{All-push}
use Rattle.mqb_outside.specs.Images.{Each, Written}
use Rattle.mqb_outside.specs.Disk.{View, IsSettled, LeavesOnly, Lawful}
use Rattle.mqb_outside.specs.lemmas.Runs.{started, weaker}
use Rattle.mqb_layout.specs.declared.limits.TheConstants.{PAGE, HEAD, AREA}
use Rattle.mqb_layout.specs.declared.layout.Layout.{Layout}
use Rattle.mqb_journal.specs.States.{JournalState}
use Rattle.mqb_journal.specs.Journals.{GoesOn, StandsIn, layout_in}
use Rattle.mqb_layout.specs.Layouts.{layout_of}
use Rattle.mqb_journal.specs.lemmas.Carrying.{goes_on_stands}
use Rattle.mqb_journal.specs.Gates.{HasRecord, KeepsGate, ClosedOrWhole}
use Rattle.mqb_layout.specs.Gates.{IsClosedAt}
use Rattle.mqb_journal.specs.Blocks.{block_of}
use Rattle.mqb_journal.specs.Store.{Base, Nothing, After, HasFront, HasChain, IsSmall, framed, chain, IsBeforeOrAfter}
use Rattle.mqb_layout.specs.Store.{header, head_of, place_of, place_told, uses_second}
use Rattle.mqb_journal.proofs.Regions.{AgreesLater, length-chained, same_first, same_later, same_layout, stands_for}
use Rattle.mqb_journal.proofs.Staging.{told_within}

pub chain-push : (records : List (List ℕ)) (entry : List ℕ) → chain (records ++ entry ∷ []) ≡ chain records ++ framed entry
chain-push [] entry = append-nil (framed entry)
chain-push (first ∷ records) entry = ap (λ (l : List ℕ). framed first ++ l) (chain-push records entry) ∙ sym (append_assoc (framed first) (chain records) (framed entry))

pub length-chain-push : (records : List (List ℕ)) (entry : List ℕ) → length (chain (records ++ entry ∷ [])) ≡ length (chain records) + length (block_of entry)
length-chain-push records entry =
    ap length (chain-push records entry) ∙ omega (arith, length-append (chain records) (framed entry), length-append (bytes_of 4 (length entry)) entry, length-append (bytes_of 4 (length entry) ++ entry) (0 ∷ []))

pub length-block : (entry : List ℕ) → length (block_of entry) ≡ 5 + length entry
length-block entry = omega (arith, length-append (bytes_of 4 (length entry)) entry, length-append (bytes_of 4 (length entry) ++ entry) (0 ∷ []))

pub length-chain-more : (records : List (List ℕ)) (entry : List ℕ) → length (chain (records ++ entry ∷ [])) ≡ length (chain records) + 5 + length entry
length-chain-more records entry = length-chain-push records entry ∙ omega (arith, length-block entry)

-- what stands behind a front, one record on
pub chained_more : (records : List (List ℕ)) (entry from behind later : List ℕ) → from ≡ chain records ++ behind → behind ≡ framed entry ++ later → from ≡ chain (records ++ entry ∷ []) ++ later
chained_more records entry from behind later is next =
    is ∙ ap (λ (l : List ℕ). chain records ++ l) next ∙ sym (append_assoc (chain records) (framed entry) later) ∙ ap (λ (l : List ℕ). l ++ later) (sym (chain-push records entry))

same_before : (gate : ℕ) (old new : List ℕ) → take gate new ≡ take gate old → (i : ℕ) → i < gate → slice_index new i ≡ slice_index old i
same_before gate old new before i lt = sym (get_or-take gate new i 0 lt) ∙ ap (λ (l : List ℕ). slice_index l i) before ∙ get_or-take gate old i 0 lt

long_before : (gate : ℕ) (old new : List ℕ) → gate < length old → take gate new ≡ take gate old → gate ≤ length new
long_before gate old new long before = omega (arith, ap length before, length-take gate new, length-take gate old)

-- where all before a gate is as it was, so is the front
pub same_front : (guid : List ℕ) (later : Option Layout) (first : ℕ) (base : Base) (gate : ℕ) (old new : List ℕ) → HasFront guid base first old → layout_in base old ≡ later → first ≤ gate → gate < length old
    → take gate new ≡ take gate old → HasFront guid base first new × (layout_in base new ≡ later)
same_front guid later first Nothing gate old new is laid within long before =
    let more : gate ≤ length new = long_before gate old new long before in
    let begins : first ≡ 24 = is.begins in (
      same_first guid first 23 old new is (omega arith) (omega arith) (record {
        magic = λ i lt. same_before gate old new before i (omega arith);
        version = λ two. is.version (sym (same_before gate old new before 4 (omega arith)) ∙ two);
        behind = λ i lo hi. same_before gate old new before i (omega arith);
        long = omega arith;
      }),
      laid,
    )
same_front guid later first (After count base) gate old new is laid within long before =
    let more : gate ≤ length new = long_before gate old new long before in
    let head : ℕ = head_of old in
    let low : PAGE ≤ head = is.head in
    let behind : head + HEAD ≤ place_of old = is.behind in
    let begins : first ≡ place_of old + AREA + length base = is.begins in
    let end : ℕ = place_of old + 11 + length base in
    let under : place_told head (uses_second old) + 8 ≤ head + HEAD = (told_within head (uses_second old)).1 in
    let agrees : AgreesLater (layout_of old) end old new = record {
      header = λ i lt. same_before gate old new before i (omega arith);
      selector = ap (λ (v : ℕ). v == 1) (same_before gate old new before head (omega arith));
      told = λ i lo hi. same_before gate old new before i (omega arith);
      behind = λ i lo hi. same_before gate old new before i (omega arith);
      long = omega arith;
    } in (
      same_later guid count base first end (layout_of old) old new is refl (omega arith) (omega arith) agrees,
      ap (λ (l : Layout). Some l) (same_layout (layout_of old) end old new refl agrees) ∙ laid,
    )

-- and so is the chain up to there
pub same_chained : (first gate : ℕ) (records : List (List ℕ)) (old new : List ℕ) → HasChain first records old → gate ≡ first + length (chain records) → take gate new ≡ take gate old
    → drop first new ≡ chain records ++ drop gate new
same_chained first gate records old new has at before =
    let long : gate < length old = omega (arith, length-chained first records old has) in
    let more : gate ≤ length new = long_before gate old new long before in
    let front : drop first (take gate new) ≡ chain records =
    ap (λ (l : List ℕ). drop first l) before ∙ ap (λ (n : ℕ). drop first (take n old)) at ∙ drop-take first (length (chain records)) old
    ∙ ap (λ (l : List ℕ). take (length (chain records)) l) has.is ∙ take_at (chain records) (has.gate ∷ has.rest) (length (chain records)) refl in
    ap (λ (l : List ℕ). drop first l) (sym (take-append-drop gate new)) ∙ drop-append-le first (take gate new) (drop gate new) (omega (arith, length-take-le gate new more))
    ∙ ap (λ (l : List ℕ). l ++ drop gate new) front

-- an image whose gate is not open stands for the same
pub keeps_stands : (guid : List ℕ) (later : Option Layout) (first gate : ℕ) (base : Base) (records : List (List ℕ)) (old new : List ℕ) → StandsIn guid later first base records old
    → gate ≡ first + length (chain records) → KeepsGate gate old new → StandsIn guid later first base records new
keeps_stands guid later first gate base records old new is at keeps =
    let long : gate < length old = omega (arith, length-chained first records old is.stands) in
    let front = same_front guid later first base gate old new is.front is.laid (omega arith) long keeps.before in
    record {
      front = front.0;
      laid = front.1;
      stands = record {
        gate = keeps.byte;
        rest = keeps.rest;
        closed = keeps.closed;
        is = same_chained first gate records old new is.stands at keeps.before ∙ ap (λ (l : List ℕ). chain records ++ l) keeps.is;
      };
    }

-- and one with a record behind an open gate for one record more
pub record_stands : (guid : List ℕ) (later : Option Layout) (first gate : ℕ) (base : Base) (records : List (List ℕ)) (entry block old new : List ℕ) → StandsIn guid later first base records old
    → gate ≡ first + length (chain records) → block ≡ block_of entry → HasRecord gate block old new → StandsIn guid later first base (records ++ entry ∷ []) new
record_stands guid later first gate base records entry block old new is at block_is has =
    let long : gate < length old = omega (arith, length-chained first records old is.stands) in
    let front = same_front guid later first base gate old new is.front is.laid (omega arith) long has.before in
    record {
      front = front.0;
      laid = front.1;
      stands = record {
        gate = 0;
        rest = has.rest;
        closed = λ is_one. absurd (let no : ⊥ = omega (arith, is_one) in no);
        is = chained_more records entry (drop first new) (drop gate new) (0 ∷ has.rest) (same_chained first gate records old new is.stands at has.before)
            (has.is ∙ ap (λ (l : List ℕ). 1 ∷ (l ++ has.rest)) block_is ∙ ap (λ (l : List ℕ). 1 ∷ l) (append_assoc (bytes_of 4 (length entry) ++ entry) (0 ∷ []) has.rest));
      };
    }

-- each image of the run that writes the block
pub run_before_or_after : (old new : View) (j : JournalState) (base : Base) (records : List (List ℕ)) (entry block : List ℕ) (gate : ℕ) → GoesOn old j base records → IsSmall entry → gate ≡ j.end
    → block ≡ block_of entry → LeavesOnly old new (ClosedOrWhole gate block old.reads) → LeavesOnly old new (IsBeforeOrAfter j.guid.0 base records entry)
run_before_or_after old new j base records entry block gate on fits at block_is run =
    weaker old new (ClosedOrWhole gate block old.reads) (IsBeforeOrAfter j.guid.0 base records entry) run
    (λ c left. (
    let is = on.stands left.0 left.1 in
    ⊎_elim
    (λ keeps. inl (stands_for j.guid.0 j.later on.first base records c on.small (keeps_stands j.guid.0 j.later on.first gate base records left.0 c is (at ∙ on.end) keeps)))
    (λ has. inr (stands_for j.guid.0 j.later on.first base (records ++ entry ∷ []) c (All-push IsSmall records entry on.small fits)
    (record_stands j.guid.0 j.later on.first gate base records entry block left.0 c is (at ∙ on.end) block_is has)))
    left.2
    ))

-- the closed gate is where the journal has it
pub closed_at : (d : View) (j : JournalState) (base : Base) (records : List (List ℕ)) (gate : ℕ) → GoesOn d j base records → gate ≡ j.end → Each d.reads (IsClosedAt gate)
closed_at d j base records gate on at c told =
    let is = on.stands c told in
    let here : drop gate c ≡ is.stands.gate ∷ is.stands.rest =
    ap (λ (n : ℕ). drop n c) (at ∙ on.end) ∙ sym (drop-drop (length (chain records)) on.first c) ∙ ap (λ (l : List ℕ). drop (length (chain records)) l) is.stands.is
    ∙ drop_at (chain records) (is.stands.gate ∷ is.stands.rest) (length (chain records)) refl in
    record { byte = is.stands.gate; closed = is.stands.closed; is = here ∙ ap (λ (l : List ℕ). is.stands.gate ∷ l) (ap (λ (l : List ℕ). drop 1 l) (sym here) ∙ drop-drop 1 gate c) }

-- the store that is written on an empty disk
formatted : (guid rest : List ℕ) → StandsIn guid None 24 Nothing [] (header guid ++ 0 ∷ rest)
formatted guid rest = record {
  front = record { magic = refl; version = λ two. absurd (let no : ⊥ = omega (arith, two) in no); has_guid = refl; begins = refl };
  laid = refl;
  stands = record { gate = 0; rest = rest; closed = λ is_one. absurd (let no : ⊥ = omega (arith, is_one) in no); is = refl };
}

pub formatted_stands : (guid store old new : List ℕ) → store ≡ header guid ++ 0 ∷ [] → Written 0 store old new → StandsIn guid None 24 Nothing [] new
formatted_stands guid store old new is written =
    subst (λ (l : List ℕ). StandsIn guid None 24 Nothing [] l)
    (sym (written ∙ ap (λ (l : List ℕ). l ++ drop (0 + length store) old) is ∙ append_assoc (header guid) (0 ∷ []) (drop (0 + length store) old)))
    (formatted guid (drop (0 + length store) old))

-- on an empty disk it is all that stands there
pub formatted_whole : (store old new : List ℕ) → length old ≡ 0 → Written 0 store old new → new ≡ store
formatted_whole store [] new none written = written ∙ ap (λ (l : List ℕ). store ++ l) (drop_all (0 + length store) [] (omega arith)) ∙ append-nil store
formatted_whole store (byte ∷ old) new none written = absurd (let no : ⊥ = omega (arith, none) in no)

-- a call that was refused
pub quiet_moments : (d : View) (j : JournalState) (base : Base) (records : List (List ℕ)) (entry : List ℕ) → Lawful d → GoesOn d j base records → IsSettled d
    → LeavesOnly d d (IsBeforeOrAfter j.guid.0 base records entry)
quiet_moments d j base records entry law on settled = started d _ law (λ c left. inl (goes_on_stands d j base records on c (settled c left)))
