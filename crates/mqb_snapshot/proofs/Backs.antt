-- What is spelled is read: parts one behind the other, and lists of parts that join those before them.
use Rattle.std.proofs.Common.{◌≡◌, ◌<◌, ◌^◌, ℕ, suc, Bool, true, List, [], ◌∷◌, ◌++◌, length, Result, Ok, refl, sym, ap, subst, ◌∙◌, append_assoc, arith, length-append}
use Rattle.std.specs.List.{flat_map}
use Rattle.std.proofs.lemmas.List.{append-nil}
use Rattle.mqb_entries.specs.lemmas.FieldFormats.{u32_format}
use Rattle.mqb_entries.specs.Fields.{u32_at}
use Rattle.mqb_entries.specs.Formats.{IsFormat}
use Rattle.mqb_entries.specs.lemmas.Formats.{both_moved, rest_again}
use Rattle.mqb_entries.specs.declared.faults.EntryFault.{EntryFault}
use Rattle.mqb_fields.specs.Reading.{◌>>=◌, Reading, moved, rest_of}
use Rattle.mqb_snapshot.specs.Parts.{Parts, each_joined, joined, list_joined, tested}
use Rattle.mqb_snapshot.specs.Spelled.{counted, word}

-- this text is read as a value, whatever follows
abbrev pub IsReadAs : {X : Type 0} → (Reading → Result (X × Reading) EntryFault) → List ℕ → X → Type 0
IsReadAs read text x = (r : Reading) (rest : List ℕ) → rest_of r ≡ text ++ rest → read r ≡ Ok (x, moved (length text) r)

pub of_format : {X : Type 0} {read : Reading → Result (X × Reading) EntryFault} {spell : X → List ℕ} {Fits : X → Type 0} → IsFormat read spell Fits
    → (x : X) → Fits x → IsReadAs read (spell x) x
of_format f x fits r rest e = f.again r x rest fits e

pub then_read : {X Y : Type 0} (read : Reading → Result (X × Reading) EntryFault) (next : X → Reading → Result (Y × Reading) EntryFault) (a b : List ℕ) (x : X) (y : Y)
    → IsReadAs read a x → IsReadAs (next x) b y → IsReadAs (λ r. read r >>= λ z. next z.0 z.1) (a ++ b) y
then_read read next a b x y one two r rest e =
    let text = e ∙ append_assoc a b rest in
    let first = one r (b ++ rest) text in
    let second = two (moved (length a) r) rest (rest_again r a (b ++ rest) text) in
    rw (first, second, both_moved a b r) refl

-- what was read, seen otherwise
pub seen_read : {X Y : Type 0} (read : Reading → Result (X × Reading) EntryFault) (to : X → Y) (a : List ℕ) (x : X)
    → IsReadAs read a x → IsReadAs (λ r. read r >>= λ z. Ok (to z.0, z.1)) a (to x)
seen_read read to a x one r rest e = rw (one r rest e) refl

pub tested_read : {X : Type 0} (passes : X → Bool) (read : Reading → Result (X × Reading) EntryFault) (a : List ℕ) (x : X)
    → IsReadAs read a x → passes x ≡ true → IsReadAs (tested passes read) a x
tested_read passes read a x one pass r rest e = rw (one r rest e, pass) refl

pub same_text : {X : Type 0} (read : Reading → Result (X × Reading) EntryFault) (a b : List ℕ) (x : X) → a ≡ b → IsReadAs read a x → IsReadAs read b x
same_text read a b x same h = subst (λ (t : List ℕ). IsReadAs read t x) same h

pub same_value : {X : Type 0} (read : Reading → Result (X × Reading) EntryFault) (a : List ℕ) (x y : X) → x ≡ y → IsReadAs read a x → IsReadAs read a y
same_value {X} read a x y same h = subst (λ (z : X). IsReadAs read a z) same h

pub append_push : {X : Type 0} (before : List X) (x : X) (xs : List X) → before ++ (x ∷ xs) ≡ (before ++ x ∷ []) ++ xs
append_push [] x xs = refl
append_push (b ∷ before) x xs = ap (λ rest. b ∷ rest) (append_push before x xs)

moved_nowhere : (r : Reading) → r ≡ moved 0 r
moved_nowhere r = ap (λ (at : ℕ). record r { at = at }) (omega arith)

abbrev read_parts : Parts → Reading → Result (Parts × Reading) EntryFault
read_parts p after = Ok (p, after)

nothing_left : {X : Type 0} (at : List X → List X → Parts) (all before : List X) (r : Reading) → all ≡ before ++ [] → read_parts (at before []) r ≡ read_parts (at all []) (moved 0 r)
nothing_left {X} at all before r e =
    ap (λ (b : List X). read_parts (at b []) r) (sym (e ∙ append-nil before)) ∙ ap (λ (after : Reading). read_parts (at all []) after) (moved_nowhere r)

-- one part more is read, which joins those before it
abbrev pub Joins : {X : Type 0} → (Parts → Reading → Result (Parts × Reading) EntryFault) → (X → List ℕ) → (List X → List X → Parts) → List X → Type 0
Joins {X} part spell at all = (before : List X) (x : X) (behind : List X) → all ≡ before ++ (x ∷ behind)
    → IsReadAs (part (at before (x ∷ behind))) (spell x) (at (before ++ x ∷ []) behind)

joined_read : {X : Type 0} (part : Parts → Reading → Result (Parts × Reading) EntryFault) (spell : X → List ℕ) (at : List X → List X → Parts) (all before xs : List X)
    → all ≡ before ++ xs → Joins part spell at all → IsReadAs (joined (length xs) part (at before xs)) (flat_map spell xs) (at all [])
joined_read part spell at all before [] e step r rest t = nothing_left at all before r e
joined_read part spell at all before (x ∷ xs) e step r rest t =
    let others = flat_map spell xs in
    let text = t ∙ append_assoc (spell x) others rest in
    let one = step before x xs e r (others ++ rest) text in
    let two = joined_read part spell at all (before ++ x ∷ []) xs (e ∙ append_push before x xs) step (moved (length (spell x)) r) rest (rest_again r (spell x) (others ++ rest) text) in
    rw (one, two, both_moved (spell x) others r) refl

-- so many of them
pub all_joined : {X : Type 0} (part : Parts → Reading → Result (Parts × Reading) EntryFault) (spell : X → List ℕ) (at : List X → List X → Parts) (all : List X)
    → Joins part spell at all → IsReadAs (joined (length all) part (at [] all)) (flat_map spell all) (at all [])
all_joined part spell at all step = joined_read part spell at all [] all refl step

-- and behind their count, which is read so
pub counted_joined : {X : Type 0} (count : Reading → Result (ℕ × Reading) EntryFault) (part : Parts → Reading → Result (Parts × Reading) EntryFault) (spell : X → List ℕ)
    (at : List X → List X → Parts) (all : List X) → IsReadAs count (word (length all)) (length all) → Joins part spell at all
    → IsReadAs (λ r. count r >>= λ n. joined n.0 part (at [] all) n.1) (counted spell all) (at all [])
counted_joined count part spell at all read step =
    then_read count (λ n after. joined n part (at [] all) after) (word (length all)) (flat_map spell all) (length all) (at all []) read (all_joined part spell at all step)

pub list_joined_read : {X : Type 0} (part : Parts → Reading → Result (Parts × Reading) EntryFault) (spell : X → List ℕ) (at : List X → List X → Parts) (all : List X)
    → length all < 2 ^ 32 → Joins part spell at all → IsReadAs (list_joined part (at [] all)) (counted spell all) (at all [])
list_joined_read part spell at all few step = counted_joined u32_at part spell at all (of_format u32_format (length all) few) step

-- one part more is read, by the index that it has
abbrev pub JoinsEach : {X : Type 0} → (ℕ → Parts → Reading → Result (Parts × Reading) EntryFault) → (X → List ℕ) → (List X → List X → Parts) → List X → Type 0
JoinsEach {X} part spell at all = (before : List X) (x : X) (behind : List X) → all ≡ before ++ (x ∷ behind)
    → IsReadAs (part (length before) (at before (x ∷ behind))) (spell x) (at (before ++ x ∷ []) behind)

each_from : {X : Type 0} (part : ℕ → Parts → Reading → Result (Parts × Reading) EntryFault) (spell : X → List ℕ) (at : List X → List X → Parts) (all before xs : List X) (k : ℕ)
    → k ≡ length before → all ≡ before ++ xs → JoinsEach part spell at all → IsReadAs (each_joined (length xs) k part (at before xs)) (flat_map spell xs) (at all [])
each_from part spell at all before [] k counted e step r rest t = nothing_left at all before r e
each_from part spell at all before (x ∷ xs) k counted e step r rest t =
    let others = flat_map spell xs in
    let text = t ∙ append_assoc (spell x) others rest in
    let one = subst (λ (n : ℕ). IsReadAs (part n (at before (x ∷ xs))) (spell x) (at (before ++ x ∷ []) xs)) (sym counted) (step before x xs e) r (others ++ rest) text in
    let longer : suc k ≡ length (before ++ x ∷ []) = omega (arith, counted, length-append before (x ∷ [])) in
    let two = each_from part spell at all (before ++ x ∷ []) xs (suc k) longer (e ∙ append_push before x xs) step (moved (length (spell x)) r) rest (rest_again r (spell x) (others ++ rest) text) in
    rw (one, two, both_moved (spell x) others r) refl

pub each_joined_read : {X : Type 0} (part : ℕ → Parts → Reading → Result (Parts × Reading) EntryFault) (spell : X → List ℕ) (at : List X → List X → Parts) (all : List X)
    → JoinsEach part spell at all → IsReadAs (each_joined (length all) 0 part (at [] all)) (flat_map spell all) (at all [])
each_joined_read part spell at all step = each_from part spell at all [] all 0 refl refl step
