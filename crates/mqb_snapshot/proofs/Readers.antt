-- What holds of whatever is read: of one part, of parts one behind the other, and of parts that join those before them.
use Rattle.std.proofs.Common.{◌≡◌, ◌<◌, ◌+◌, ◌^◌, ℕ, zero, suc, Bool, true, List, Option, Some, None, Result, Ok, ap, subst, arith}
use Rattle.mqb_entries.specs.lemmas.FieldFormats.{outside_apart, u32_format}
use Rattle.mqb_entries.specs.Formats.{IsBytes, IsFormat}
use Rattle.mqb_entries.specs.lemmas.Formats.{bind_gives, bytes_stay, ok_same}
use Rattle.mqb_entries.specs.declared.faults.EntryFault.{EntryFault}
use Rattle.mqb_fields.specs.Reading.{◌>>=◌, Reading, rest_of}
use Rattle.mqb_heads.specs.lemmas.ReadLaws.{if_ok}
use Rattle.mqb_snapshot.specs.Parts.{Parts, each_joined, found_in, joined, list_joined, tested}

-- whatever is read of bytes has a property, and bytes are left
pub record Reads {X : Type 0} (read : Reading → Result (X × Reading) EntryFault) (Holds : X → Type 0) : Type 0 where
  pub gives : (r : Reading) (x : X × Reading) → IsBytes (rest_of r) → read r ≡ Ok x → Holds x.0 × IsBytes (rest_of x.1)

pub of_format : {X : Type 0} {read : Reading → Result (X × Reading) EntryFault} {spell : X → List ℕ} {Fits : X → Type 0} → IsFormat read spell Fits → Reads read Fits
of_format f = record { gives = λ r x all e. let t = f.took r x all e in (t.fits, bytes_stay _ r x.1 t.place all) }

pub weaker : {X : Type 0} {read : Reading → Result (X × Reading) EntryFault} {Holds : X → Type 0} (Less : X → Type 0) → ((x : X) → Holds x → Less x) → Reads read Holds → Reads read Less
weaker Less less h = record { gives = λ r x all e. let one = h.gives r x all e in (less x.0 one.0, one.1) }

pub both_read : {X : Type 0} {read : Reading → Result (X × Reading) EntryFault} {One Two : X → Type 0} → Reads read One → Reads read Two → Reads read (λ x. One x × Two x)
both_read h k = record { gives = λ r x all e. let one = h.gives r x all e in ((one.0, (k.gives r x all e).0), one.1) }

-- a part that was read, and what is read behind it
pub record Step {X Y : Type 0} (Holds : X → Type 0) (next : X × Reading → Result Y EntryFault) (y : Y) : Type 0 where
  pub part : X × Reading
  pub holds : Holds part.0
  pub bytes : IsBytes (rest_of part.1)
  pub rest : next part ≡ Ok y

pub step : {X Y : Type 0} {read : Reading → Result (X × Reading) EntryFault} {Holds : X → Type 0} → Reads read Holds → (r : Reading) (next : X × Reading → Result Y EntryFault) (y : Y)
    → IsBytes (rest_of r) → (read r >>= next) ≡ Ok y → Step Holds next y
step {read = read} h r next y all e =
    let given = bind_gives (read r) next y e in
    let one = h.gives r given.0 all given.1 in
    record { part = given.0; holds = one.0; bytes = one.1; rest = given.2 }

abbrev pub given : {X : Type 0} → X × Reading → Result (X × Reading) EntryFault
given x = Ok x

-- nothing more is read
pub finished : {X : Type 0} (Holds : X → Type 0) (x : X) (after : Reading) (y : X × Reading) → Holds x → IsBytes (rest_of after) → given (x, after) ≡ given y
    → Holds y.0 × IsBytes (rest_of y.1)
finished {X} Holds x after y holds all e = subst (λ (z : X × Reading). Holds z.0 × IsBytes (rest_of z.1)) (ok_same EntryFault (x, after) y e) (holds, all)

-- What is read behind a part has a property, where it has it for each value of that part.
pub behind : {X Y : Type 0} {read : Reading → Result (X × Reading) EntryFault} {Holds : X → Type 0} (Less : Y → Type 0) → Reads read Holds
    → (r : Reading) (next : X × Reading → Result (Y × Reading) EntryFault) (y : Y × Reading) → IsBytes (rest_of r) → (read r >>= next) ≡ Ok y
    → ((x : X) (after : Reading) → Holds x → IsBytes (rest_of after) → next (x, after) ≡ Ok y → Less y.0 × IsBytes (rest_of y.1)) → Less y.0 × IsBytes (rest_of y.1)
behind {read = read} Less h r next y all e then =
    let found = bind_gives (read r) next y e in
    let one = h.gives r found.0 all found.1 in
    then found.0.0 found.0.1 one.0 one.1 found.2

pub tested_reads : {X : Type 0} {read : Reading → Result (X × Reading) EntryFault} {Holds : X → Type 0} (passes : X → Bool) → Reads read Holds
    → Reads (tested passes read) (λ x. Holds x × (passes x ≡ true))
tested_reads {X} {Holds = Holds} passes h = record {
  gives = λ r x all e.
      let one = step h r _ x all e in
      let test = if_ok (passes one.part.0) (record { at = r.at }) one.part x one.rest in
      subst (λ (z : X × Reading). (Holds z.0 × (passes z.0 ≡ true)) × IsBytes (rest_of z.1)) test.1 ((one.holds, test.0), one.bytes);
}

pub found_gives : {X : Type 0} (r after : Reading) (o : Option X) (x : X × Reading) → found_in r after o ≡ Ok x → (o ≡ Some x.0) × (after ≡ x.1)
found_gives {X} r after (Some y) x e = let same = ok_same EntryFault (y, after) x e in (ap (λ (z : X × Reading). Some z.0) same, ap (λ (z : X × Reading). z.1) same)
found_gives r after None x e = absurd (outside_apart r x e)

-- Parts that join those before them: what holds while so many more are to come.

pub joined_reads : {part : Parts → Reading → Result (Parts × Reading) EntryFault} (Holds : ℕ → Parts → Type 0)
    → ((n : ℕ) (p : Parts) → Holds (suc n) p → Reads (part p) (Holds n)) → (count : ℕ) (p : Parts) → Holds count p → Reads (joined count part p) (Holds 0)
joined_reads Holds each zero p is = record { gives = λ r x all e. finished (Holds 0) p r x is all e }
joined_reads Holds each (suc count) p is = record {
  gives = λ r x all e.
      let one = step (each count p is) r _ x all e in
      (joined_reads Holds each count one.part.0 one.holds).gives one.part.1 x one.bytes one.rest;
}

pub list_reads : {part : Parts → Reading → Result (Parts × Reading) EntryFault} (Holds : ℕ → Parts → Type 0)
    → ((n : ℕ) (p : Parts) → Holds (suc n) p → Reads (part p) (Holds n)) → (p : Parts) → ((n : ℕ) → n < 2 ^ 32 → Holds n p) → Reads (list_joined part p) (Holds 0)
list_reads Holds each p is = record {
  gives = λ r x all e.
      let count = step (of_format u32_format) r _ x all e in
      (joined_reads Holds each count.part.0 p (is count.part.0 count.holds)).gives count.part.1 x count.bytes count.rest;
}

-- what holds before the part of an index
pub each_reads : {part : ℕ → Parts → Reading → Result (Parts × Reading) EntryFault} (Holds : ℕ → Parts → Type 0)
    → ((k : ℕ) (p : Parts) → Holds k p → Reads (part k p) (Holds (suc k))) → (count k : ℕ) (p : Parts) → Holds k p → Reads (each_joined count k part p) (Holds (k + count))
each_reads Holds each zero k p is = record {
  gives = λ r x all e. let end : k ≡ k + 0 = omega arith in finished (Holds (k + 0)) p r x (subst (λ (n : ℕ). Holds n p) end is) all e;
}
each_reads Holds each (suc count) k p is = record {
  gives = λ r x all e.
      let one = step (each k p is) r _ x all e in
      let end : suc k + count ≡ k + suc count = omega arith in
      let others = (each_reads Holds each count (suc k) one.part.0 one.holds).gives one.part.1 x one.bytes one.rest in
      (subst (λ (n : ℕ). Holds n x.0) end others.0, others.1);
}
