-- Each field is read as it is spelled.
use Rattle.std.proofs.Common.{zero, suc, ◌+◌, drop, slice_index, drop-cons, ◌≡◌, ◌≤◌, ◌<◌, ℕ, ◌^◌}
use Rattle.std.proofs.Common.{Bool, true, false, cond, ltb, eqb, ◌||◌, List, [], ◌∷◌, ◌++◌, length}
use Rattle.std.proofs.Common.{Option, Some, None, Result, Ok, refl, sym, ap, subst, ◌∙◌, ◌⊎◌, inl}
use Rattle.std.proofs.Common.{inr, arith, append_assoc}
use Rattle.std.specs.Prelude.{IfSome, is_none}
use Rattle.std.specs.Int.{byte_at}
use Rattle.std.proofs.lemmas.Bool.{eqb-true, ltb-false}
use Rattle.std.proofs.lemmas.List.{append-nil, drop_all}
use Rattle.byteorder.specs.Numbers.{little_number-reads_back}
use Rattle.mqb_base.specs.declared.ids.Guid.{Guid}
use Rattle.mqb_base.specs.declared.ids.MessageId.{MessageId}
use Rattle.mqb_base.specs.declared.names.NameError.{NameError}
use Rattle.mqb_base.specs.Names.{name_fault}
use Rattle.mqb_fields.specs.declared.faults.Short.{Short}
use Rattle.mqb_fields.specs.Guids.{swapped}
use Rattle.mqb_fields.specs.Reading.{◌>>=◌, Reading, rest_of, moved, part_at, number_of, number_at}
use Rattle.mqb_fields.specs.Writing.{bytes_of}
use Rattle.mqb_entries.specs.declared.faults.EntryFault.{EntryFault}
use Rattle.mqb_entries.specs.Fields.{outside, u8_at, u16_at, u32_at, address_at, guid_part, guid_at}
use Rattle.mqb_entries.specs.Fields.{id_part, id_at, counted_part, name_at, packet_at}
use Rattle.mqb_entries.specs.Fields.{flag_at, public_at}
use Rattle.mqb_entries.specs.Spelled.{spelled_guid, spelled_id, spelled_name, spelled_packet}
use Rattle.mqb_entries.specs.Spelled.{spelled_flag, spelled_public, IsWord, IsName, IsPacket}
use Rattle.mqb_entries.specs.Spelled.{IsGuid, IsId}
use Rattle.mqb_entries.specs.Formats.{IsBytes, Took, IsFormat, seen, behind}
use Rattle.mqb_entries.specs.lemmas.Formats.{bind_gives, ok_same, rest_again, both_moved}
use Rattle.mqb_entries.specs.lemmas.Formats.{bytes_stay, part_format, field_format, map_format}
use Rattle.mqb_entries.specs.lemmas.Formats.{pair_format, test_format, read_same}
use Rattle.mqb_entries.specs.lemmas.Formats.{bind_assoc, bind_same}
use Rattle.mqb_entries.specs.FieldFormats.{IsWidth, Spans}

-- a GUID in its other order twice is itself
abbrev members : ℕ → ℕ → List ℕ → List ℕ
members i zero list = []
members i (suc count) list = slice_index list i ∷ members (suc i) count list

members_all : (i count : ℕ) (list : List ℕ) → length list ≡ i + count
    → members i count list ≡ drop i list
members_all i zero list len = sym (drop_all i list (omega arith))
members_all i (suc count) list len =
    let here : i < length list = omega arith in
    rw (members_all (suc i) count list (omega arith), drop-cons list i 0) refl

swapped_twice : (guid : List ℕ) → length guid ≡ 16 → swapped (swapped guid) ≡ guid
swapped_twice guid len = members_all 0 16 guid len

-- numbers
number_back : (width number : ℕ) → number < 256 ^ width
    → number_of width (bytes_of width number) ≡ number
number_back width number fits =
    ap (number_of width) (sym (append-nil (bytes_of width number)))
    ∙ little_number-reads_back width number [] fits

one_back : (bytes : List ℕ) → IsBytes bytes → length bytes ≡ 1
    → (number_of 1 bytes < 256 ^ 1) × (bytes_of 1 (number_of 1 bytes) ≡ bytes)
one_back [] all len = absurd (omega (arith, len))
one_back (a ∷ []) all len =
    let n = number_of 1 (a ∷ []) in
    let low : byte_at 0 n ≡ a = omega (arith, all.0) in
    (omega (arith, all.0), ap (λ (x : ℕ). x ∷ []) low)
one_back (a ∷ b ∷ bytes) all len = absurd (omega (arith, len))

two_back : (bytes : List ℕ) → IsBytes bytes → length bytes ≡ 2
    → (number_of 2 bytes < 256 ^ 2) × (bytes_of 2 (number_of 2 bytes) ≡ bytes)
two_back [] all len = absurd (omega (arith, len))
two_back (a ∷ []) all len = absurd (omega (arith, len))
two_back (a ∷ b ∷ []) all len =
    let n = number_of 2 (a ∷ b ∷ []) in
    let first : byte_at 0 n ≡ a = omega (arith, all.0, all.1.0) in
    let second : byte_at 1 n ≡ b = omega (arith, all.0, all.1.0) in
    (omega (arith, all.0, all.1.0), rw (first, second) refl)
two_back (a ∷ b ∷ c ∷ bytes) all len = absurd (omega (arith, len))

four_back : (bytes : List ℕ) → IsBytes bytes → length bytes ≡ 4
    → (number_of 4 bytes < 256 ^ 4) × (bytes_of 4 (number_of 4 bytes) ≡ bytes)
four_back [] all len = absurd (omega (arith, len))
four_back (a ∷ []) all len = absurd (omega (arith, len))
four_back (a ∷ b ∷ []) all len = absurd (omega (arith, len))
four_back (a ∷ b ∷ c ∷ []) all len = absurd (omega (arith, len))
four_back (a ∷ b ∷ c ∷ d ∷ []) all len =
    let n = number_of 4 (a ∷ b ∷ c ∷ d ∷ []) in
    let w = all.0 in
    let x = all.1.0 in
    let y = all.1.1.0 in
    let z = all.1.1.1.0 in
    let first : byte_at 0 n ≡ a = omega (arith, w, x, y, z) in
    let second : byte_at 1 n ≡ b = omega (arith, w, x, y, z) in
    let third : byte_at 2 n ≡ c = omega (arith, w, x, y, z) in
    let fourth : byte_at 3 n ≡ d = omega (arith, w, x, y, z) in
    (omega (arith, w, x, y, z), rw (first, second, third, fourth) refl)
four_back (a ∷ b ∷ c ∷ d ∷ e ∷ bytes) all len = absurd (omega (arith, len))

pub one_byte : IsWidth 1
one_byte = record { count = λ n. refl; back = one_back }

pub two_bytes : IsWidth 2
two_bytes = record { count = λ n. refl; back = two_back }

pub four_bytes : IsWidth 4
four_bytes = record { count = λ n. refl; back = four_back }

pub number_format : (width : ℕ) → IsWidth width
    → IsFormat (number_at width) (bytes_of width) (λ n. n < 256 ^ width)
number_format width is =
    map_format (part_format width) (number_of width) (bytes_of width) (λ n. n < 256 ^ width)
    (λ n fits. (is.count n, number_back width n fits))
    (λ bytes all len. is.back bytes all len)

pub u8_format : IsFormat u8_at (bytes_of 1) (λ n. n < 256 ^ 1)
u8_format = field_format (number_format 1 one_byte)

pub u16_format : IsFormat u16_at (bytes_of 2) (λ n. n < 256 ^ 2)
u16_format = field_format (number_format 2 two_bytes)

pub u32_format : IsFormat u32_at (bytes_of 4) IsWord
u32_format = field_format (number_format 4 four_bytes)

pub address_format : IsFormat address_at (λ t. t) (λ t. length t ≡ 4)
address_format = field_format (part_format 4)

-- GUIDs and identifiers
guid_part_format : IsFormat guid_part spelled_guid IsGuid
guid_part_format = map_format
    (map_format (part_format 16) swapped swapped (λ g. length g ≡ 16)
    (λ g len. (refl, swapped_twice g len)) (λ g all len. (refl, swapped_twice g len)))
    (λ g. record { 0 = g }) (λ g. g.0) IsGuid (λ g is. (is, refl)) (λ g all is. (is, refl))

pub guid_format : IsFormat guid_at spelled_guid IsGuid
guid_format = field_format guid_part_format

abbrev made_id : Guid × ℕ → MessageId
made_id p = record { qm = p.0; number = p.1 }

abbrev id_parts : MessageId → Guid × ℕ
id_parts id = (id.qm, id.number)

id_same : (r : Reading)
    → ((guid_part r >>= λ x. number_at 4 x.1 >>= behind Short x.0) >>= seen Short made_id)
    ≡ id_part r
id_same r =
    bind_assoc (guid_part r) (λ x. number_at 4 x.1 >>= behind Short x.0) (seen Short made_id)
    ∙ bind_same (guid_part r) _ _
    (λ x. bind_assoc (number_at 4 x.1) (behind Short x.0) (seen Short made_id))

id_part_format : IsFormat id_part spelled_id IsId
id_part_format = read_same
    (map_format (pair_format guid_part_format (number_format 4 four_bytes)) made_id id_parts IsId
    (λ id is. (is, refl)) (λ p all is. (is, refl)))
    id_same

pub id_format : IsFormat id_at spelled_id IsId
id_format = field_format id_part_format

-- bytes behind their count
counted_again : (width : ℕ) → IsWidth width → (r : Reading) (t rest : List ℕ)
    → length t < 256 ^ width → rest_of r ≡ (bytes_of width (length t) ++ t) ++ rest
    → counted_part width r ≡ Ok (t, moved (length (bytes_of width (length t) ++ t)) r)
counted_again width is r t rest fits e =
    let count = bytes_of width (length t) in
    let text = e ∙ append_assoc count t rest in
    let one = (number_format width is).again r (length t) (t ++ rest) fits text in
    let two = (part_format (length t)).again (moved (length count) r) t rest refl
    (rest_again r count (t ++ rest) text) in
    rw (one, two, both_moved count t r) refl

counted_took : (width : ℕ) → IsWidth width → (r : Reading) (x : List ℕ × Reading)
    → IsBytes (rest_of r) → counted_part width r ≡ Ok x
    → Took (λ t. bytes_of width (length t) ++ t) (λ t. length t < 256 ^ width) r x
counted_took width is r x all e =
    let one = bind_gives (number_at width r) (λ count. part_at count.0 count.1) x e in
    let n = one.0 in
    let t = (number_format width is).took r n all one.1 in
    let u = (part_format n.0).took n.1 x (bytes_stay _ r n.1 t.place all) one.2 in
    let count : bytes_of width (length x.0) ≡ bytes_of width n.0 = ap (bytes_of width) u.fits in
    record {
      text = rw count (t.text ∙ ap (λ (s : List ℕ). bytes_of width n.0 ++ s) u.text
          ∙ sym (append_assoc (bytes_of width n.0) x.0 (rest_of x.1)));
      place = rw count
          (u.place ∙ ap (moved (length x.0)) t.place ∙ both_moved (bytes_of width n.0) x.0 r);
      fits = rw u.fits t.fits;
    }

counted_format : (width : ℕ) → IsWidth width → IsFormat (counted_part width)
    (λ t. bytes_of width (length t) ++ t) (λ t. length t < 256 ^ width)
counted_format width is = record { again = counted_again width is; took = counted_took width is }

pub packet_format : IsFormat packet_at spelled_packet IsPacket
packet_format = field_format (counted_format 4 four_bytes)

-- names
some_fault : (b : Bool) (fault : NameError) (other : Option NameError)
    → cond b (Some fault) other ≡ None → b ≡ false
some_fault true fault other e = absurd cc
some_fault false fault other e = refl

either_false : (a b : Bool) → (a || b) ≡ false → b ≡ false
either_false true b e = absurd cc
either_false false b e = e

name_short : (name : List ℕ) → IsName name → length name < 256 ^ 1
name_short name is =
    let few : length name ≤ 64 = ltb-false 64 (length name)
    (either_false (eqb (length name) 0) (ltb 64 (length name)) (some_fault _ _ _ is)) in
    omega (arith, few)

no_fault : (fault : Option NameError) → is_none fault ≡ true → fault ≡ None
no_fault None e = refl
no_fault (Some fault) e = absurd cc

pub name_format : IsFormat name_at spelled_name IsName
unfolding name_at
name_format =
    let f = test_format (λ name. is_none (name_fault name))
    (field_format (counted_format 1 one_byte)) in
    record {
      again = λ r name rest is e. f.again r name rest (name_short name is, ap is_none is) e;
      took = λ r x all e. let t = f.took r x all e in
          record { text = t.text; place = t.place; fits = no_fault _ t.fits.1 };
    }

-- bytes that say what follows
pub chosen : {X : Type 0} (b : Bool) (x y z : X) → cond b x y ≡ z
    → ((b ≡ true) × (x ≡ z)) ⊎ ((b ≡ false) × (y ≡ z))
chosen true x y z e = inl (refl, e)
chosen false x y z e = inr (refl, e)

pub spans : {X : Type 0} {spell : X → List ℕ} {Fits : X → Type 0} (r : Reading) (x : X × Reading)
    → IsBytes (rest_of r) → Took spell Fits r x → Spans r (spell x.0) x.1
spans r x all t =
    record { stands = t.text; place = t.place; bytes = bytes_stay _ r x.1 t.place all }

pub spans_both : (r middle after : Reading) (first second : List ℕ) → Spans r first middle
    → Spans middle second after → Spans r (first ++ second) after
spans_both r middle after first second s t = record {
  stands = s.stands ∙ ap (λ (x : List ℕ). first ++ x) t.stands
      ∙ sym (append_assoc first second (rest_of after));
  place = t.place ∙ ap (moved (length second)) s.place ∙ both_moved first second r;
  bytes = t.bytes;
}

pub took_of : {X : Type 0} {spell : X → List ℕ} {Fits : X → Type 0} (r : Reading) (x : X × Reading)
    → Spans r (spell x.0) x.1 → Fits x.0 → Took spell Fits r x
took_of r x s fits = record { text = s.stands; place = s.place; fits = fits }

-- the byte is this one
pub byte_is : (code : ℕ) (r : Reading) (byte : ℕ × Reading) → IsBytes (rest_of r)
    → u8_at r ≡ Ok byte → eqb byte.0 code ≡ true → Spans r (bytes_of 1 code) byte.1
byte_is code r byte all read is =
    subst (λ (n : ℕ). Spans r (bytes_of 1 n) byte.1) (eqb-true _ _ is)
    (spans r byte all (u8_format.took r byte all read))

abbrev flag_in : Reading → ℕ × Reading → Result (Bool × Reading) EntryFault
flag_in r byte =
    cond (eqb byte.0 0) (Ok (false, byte.1)) (cond (eqb byte.0 1) (Ok (true, byte.1)) (outside r))

flag_took : (r : Reading) (x : Bool × Reading) → IsBytes (rest_of r) → flag_at r ≡ Ok x
    → Took spelled_flag (λ flag. Unit {0}) r x
unfolding flag_at
flag_took r x all e =
    let step = bind_gives (u8_at r) (flag_in r) x e in
    let byte = step.0 in
    let low : Bool × Reading = (false, byte.1) in
    let high : Bool × Reading = (true, byte.1) in
    let Goal : Bool × Reading → Type 0 = λ y. Took spelled_flag (λ flag. Unit {0}) r y in
    elim (chosen (eqb byte.0 0) (Ok low) (cond (eqb byte.0 1) (Ok high) (outside r))
    (Ok x) step.2) [
      | inl zero_byte ↦ subst Goal (ok_same EntryFault low x zero_byte.1)
          (took_of r low (byte_is 0 r byte all step.1 zero_byte.0) tt)
      | inr other ↦ elim (chosen (eqb byte.0 1) (Ok high) (outside r) (Ok x) other.1) [
        | inl one_byte ↦ subst Goal (ok_same EntryFault high x one_byte.1)
            (took_of r high (byte_is 1 r byte all step.1 one_byte.0) tt)
        | inr none ↦ absurd (no_fault_read r x none.1)
      ]
    ]
  where
    no_fault_read : (r : Reading) (x : Bool × Reading) → outside r ≡ Ok x → ⊥
    no_fault_read r x e = cc

flag_again : (r : Reading) (flag : Bool) (rest : List ℕ) → rest_of r ≡ spelled_flag flag ++ rest
    → flag_at r ≡ Ok (flag, moved (length (spelled_flag flag)) r)
unfolding flag_at
flag_again r false rest e = rw (u8_format.again r 0 rest (omega arith) e) refl
flag_again r true rest e = rw (u8_format.again r 1 rest (omega arith) e) refl

pub flag_format : IsFormat flag_at spelled_flag (λ flag. Unit {0})
flag_format = record { again = λ r flag rest fits e. flag_again r flag rest e; took = flag_took }

-- a fault is nothing that was read
pub outside_apart : {X : Type 0} (r : Reading) (x : X × Reading) → outside r ≡ Ok x → ⊥
outside_apart r x e = cc

abbrev public_in : Bool × Reading → Result (Option Guid × Reading) EntryFault
public_in flag = cond flag.0 (guid_at flag.1 >>= seen EntryFault Some) (Ok (None, flag.1))

public_took : (r : Reading) (x : Option Guid × Reading) → IsBytes (rest_of r) → public_at r ≡ Ok x
    → Took spelled_public (λ public. IfSome public IsGuid) r x
unfolding public_at
public_took r x all e =
    let step = bind_gives (flag_at r) public_in x e in
    let flag = step.0 in
    let s = spans r flag all (flag_format.took r flag all step.1) in
    let none : Option Guid × Reading = (None, flag.1) in
    let Goal : Option Guid × Reading → Type 0 =
    λ y. Took spelled_public (λ public. IfSome public IsGuid) r y in
    elim (chosen flag.0 (guid_at flag.1 >>= seen EntryFault Some) (Ok none) (Ok x) step.2) [
      | inl there ↦
          let second = bind_gives (guid_at flag.1) (seen EntryFault Some) x there.1 in
          let guid = second.0 in
          let t = guid_format.took flag.1 guid s.bytes second.1 in
          let some : Option Guid × Reading = (Some guid.0, guid.1) in
          let one : Spans r (spelled_flag true) flag.1 =
          subst (λ (b : Bool). Spans r (spelled_flag b) flag.1) there.0 s in
          subst Goal (ok_same EntryFault some x second.2)
          (took_of r some (spans_both r flag.1 guid.1 (spelled_flag true)
          (spelled_guid guid.0) one (spans flag.1 guid s.bytes t)) t.fits)
      | inr absent ↦
          let one : Spans r (spelled_flag false) flag.1 =
          subst (λ (b : Bool). Spans r (spelled_flag b) flag.1) absent.0 s in
          subst Goal (ok_same EntryFault none x absent.1) (took_of r none one tt)
    ]

public_again : (r : Reading) (public : Option Guid) (rest : List ℕ) → IfSome public IsGuid
    → rest_of r ≡ spelled_public public ++ rest
    → public_at r ≡ Ok (public, moved (length (spelled_public public)) r)
unfolding public_at
public_again r None rest fits e = rw (flag_format.again r false rest tt e) refl
public_again r (Some guid) rest fits e =
    let one = flag_format.again r true (spelled_guid guid ++ rest) tt e in
    let two = guid_format.again (moved 1 r) guid rest fits
    (rest_again r (1 ∷ []) (spelled_guid guid ++ rest) e) in
    rw (one, two, both_moved (1 ∷ []) (spelled_guid guid) r) refl

pub public_format : IsFormat public_at spelled_public (λ public. IfSome public IsGuid)
public_format = record { again = public_again; took = public_took }
