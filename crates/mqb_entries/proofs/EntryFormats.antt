-- Each entry is read as it is spelled.
use Rattle.std.proofs.Common.{◌≡◌, ℕ, Bool, true, leb, ◌&&◌, List, ◌++◌, length, Option, Result, Ok, refl, sym, ap, subst, ◌∙◌, arith, append_assoc}
use Rattle.std.specs.List.{flat_map, AllByRecursion}
use Rattle.std.proofs.lemmas.Bool.Decides.{nat_tests}
use Rattle.mqb_base.specs.declared.ids.Guid.{Guid}
use Rattle.mqb_fields.specs.Reading.{◌>>=◌, Reading, rest_of, moved}
use Rattle.mqb_fields.specs.Writing.{bytes_of}
use Rattle.mqb_entries.specs.declared.faults.EntryFault.{EntryFault}
use Rattle.mqb_entries.specs.declared.entry.IdentityView.{IdentityView}
use Rattle.mqb_entries.specs.declared.entry.QueueView.{QueueView}
use Rattle.mqb_entries.specs.Fields.{u32_at, address_at, guid_at, name_at, flag_at, public_at}
use Rattle.mqb_entries.specs.Lists.{many, count_at}
use Rattle.mqb_entries.specs.Spelled.{spelled_guid, spelled_name, spelled_flag, spelled_public}
use Rattle.mqb_entries.specs.SpelledEntries.{spelled_identity, spelled_queue, spelled_ops, spelled_marks, spelled_numbers, IsFew, IsFull, AreOps, AreMarks, AreNumbers, IsIdentity, IsQueue}
use Rattle.mqb_entries.specs.Entries.{identity_at, queue_at, few_at, numbers_at}
use Rattle.mqb_entries.specs.Formats.{IsBytes, Took, IsFormat, seen, behind}
use Rattle.mqb_entries.specs.lemmas.Formats.{bind_gives, bind_assoc, bind_same, rest_again, both_moved, bytes_stay, map_format, pair_format, test_format, many_format, read_same}
use Rattle.mqb_entries.specs.FieldFormats.{Spans}
use Rattle.mqb_entries.specs.lemmas.FieldFormats.{u8_format, u16_format, u32_format, address_format, guid_format, name_format, flag_format, public_format, spans, spans_both, took_of}
use Rattle.mqb_entries.specs.lemmas.MemberFormats.{op_format, mark_format}
use Rattle.mqb_entries.specs.Members.{op_at, mark_at}
use Rattle.mqb_entries.specs.declared.limits.TheConstants.{MAX_FEW, MAX_ROLL}

abbrev pub Fault : Type 0
Fault = EntryFault

-- two reads in one, and what they make
pub pair_seen : {A B Y : Type 0} (read : Result (A × Reading) Fault) (next : A × Reading → Result (B × Reading) Fault) (to : A × B → Y)
    → ((read >>= λ x. next x >>= behind Fault x.0) >>= seen Fault to) ≡ (read >>= λ x. next x >>= seen Fault (λ y. to (x.0, y)))
pair_seen read next to =
    bind_assoc read (λ x. next x >>= behind Fault x.0) (seen Fault to) ∙ bind_same read _ _ (λ x. bind_assoc (next x) (behind Fault x.0) (seen Fault to))

-- the same condition, said otherwise
pub fits_same : {X E : Type 0} {read : Reading → Result (X × Reading) E} {spell : X → List ℕ} {Fits : X → Type 0}
    → IsFormat read spell Fits → (Suits : X → Type 0) → ((x : X) → Suits x → Fits x) → ((x : X) → Fits x → Suits x) → IsFormat read spell Suits
fits_same f Suits there back = record {
  again = λ r x rest suits e. f.again r x rest (there x suits) e;
  took = λ r x all e. let t = f.took r x all e in record { text = t.text; place = t.place; fits = back x.0 t.fits };
}

-- the same text, joined otherwise
pub text_same : {X E : Type 0} {read : Reading → Result (X × Reading) E} {spell : X → List ℕ} {Fits : X → Type 0}
    → IsFormat read spell Fits → (tell : X → List ℕ) → ((x : X) → spell x ≡ tell x) → IsFormat read tell Fits
text_same f tell same = record {
  again = λ r x rest fits e.
      f.again r x rest fits (e ∙ ap (λ (t : List ℕ). t ++ rest) (sym (same x))) ∙ ap (λ (t : List ℕ). Ok (x, moved (length t) r)) (same x);
  took = λ r x all e.
      let t = f.took r x all e in
      record { text = t.text ∙ ap (λ (s : List ℕ). s ++ rest_of x.1) (same x.0); place = t.place ∙ ap (λ (s : List ℕ). moved (length s) r) (same x.0); fits = t.fits };
}

pub three_joined : (a b c : List ℕ) → a ++ (b ++ c) ≡ (a ++ b) ++ c
three_joined a b c = sym (append_assoc a b c)

six_joined : (a b c d e f : List ℕ) → a ++ (b ++ (c ++ (d ++ (e ++ f)))) ≡ ((((a ++ b) ++ c) ++ d) ++ e) ++ f
six_joined a b c d e f =
    three_joined a b (c ++ (d ++ (e ++ f))) ∙ three_joined (a ++ b) c (d ++ (e ++ f)) ∙ three_joined ((a ++ b) ++ c) d (e ++ f) ∙ three_joined (((a ++ b) ++ c) ++ d) e f

-- identities and queues
abbrev made_identity : List ℕ × (Guid × List ℕ) → IdentityView
made_identity p = record { host = p.0; guid = p.1.0; address = p.1.1 }

abbrev identity_parts : IdentityView → List ℕ × (Guid × List ℕ)
identity_parts m = (m.host, (m.guid, m.address))

pub identity_format : IsFormat identity_at spelled_identity IsIdentity
unfolding identity_at
identity_format = text_same (read_same
    (map_format (pair_format name_format (pair_format guid_format address_format)) made_identity identity_parts IsIdentity
    (λ m is. ((is.0, (is.1, is.2)), refl)) (λ p all is. ((is.0, is.1.0, is.1.1), refl)))
    (λ r. pair_seen (name_at r) (λ x. guid_at x.1 >>= λ y. address_at y.1 >>= behind Fault y.0) made_identity
    ∙ bind_same (name_at r) _ _ (λ x. pair_seen (guid_at x.1) (λ y. address_at y.1) (λ p. made_identity (x.0, p)))))
    spelled_identity (λ m. three_joined (spelled_name m.host) (spelled_guid m.guid) m.address)

abbrev QueueParts : Type 0
QueueParts = List ℕ × (ℕ × (Option Guid × (Bool × (ℕ × Bool))))

abbrev made_queue : QueueParts → QueueView
made_queue p = record { name = p.0; number = p.1.0; public = p.1.1.0; transactional = p.1.1.1.0; quota = p.1.1.1.1.0; journal = p.1.1.1.1.1 }

abbrev queue_parts : QueueView → QueueParts
queue_parts q = (q.name, (q.number, (q.public, (q.transactional, (q.quota, q.journal)))))

pub queue_format : IsFormat queue_at spelled_queue IsQueue
unfolding queue_at
queue_format =
    let last = pair_format u32_format flag_format in
    let fourth = pair_format flag_format last in
    let third = pair_format public_format fourth in
    let second = pair_format u32_format third in
    text_same (read_same
    (map_format (pair_format name_format second) made_queue queue_parts IsQueue
    (λ q is. ((is.name, (is.number, (is.public, (tt, (is.quota, tt))))), refl))
    (λ p all is. (record { name = is.0; number = is.1.0; public = is.1.1.0; quota = is.1.1.1.1.0 }, refl)))
    (λ r. pair_seen (name_at r) (λ a. u32_at a.1 >>= λ b. (public_at b.1 >>= λ c. (flag_at c.1 >>= λ d. (u32_at d.1 >>= λ e. flag_at e.1 >>= behind Fault e.0) >>= behind Fault d.0) >>= behind Fault c.0) >>= behind Fault b.0) made_queue
    ∙ bind_same (name_at r) _ _ (λ a. pair_seen (u32_at a.1) (λ b. public_at b.1 >>= λ c. (flag_at c.1 >>= λ d. (u32_at d.1 >>= λ e. flag_at e.1 >>= behind Fault e.0) >>= behind Fault d.0) >>= behind Fault c.0) (λ p. made_queue (a.0, p))
    ∙ bind_same (u32_at a.1) _ _ (λ b. pair_seen (public_at b.1) (λ c. flag_at c.1 >>= λ d. (u32_at d.1 >>= λ e. flag_at e.1 >>= behind Fault e.0) >>= behind Fault d.0) (λ p. made_queue (a.0, (b.0, p)))
    ∙ bind_same (public_at b.1) _ _ (λ c. pair_seen (flag_at c.1) (λ d. u32_at d.1 >>= λ e. flag_at e.1 >>= behind Fault e.0) (λ p. made_queue (a.0, (b.0, (c.0, p))))
    ∙ bind_same (flag_at c.1) _ _ (λ d. pair_seen (u32_at d.1) (λ e. flag_at e.1) (λ p. made_queue (a.0, (b.0, (c.0, (d.0, p)))))))))))
    spelled_queue
    (λ q. six_joined (spelled_name q.name) (bytes_of 4 q.number) (spelled_public q.public) (spelled_flag q.transactional) (bytes_of 4 q.quota) (spelled_flag q.journal))

-- lists behind their count
listed_again : {X : Type 0} {counter : Reading → Result (ℕ × Reading) Fault} {tell : ℕ → List ℕ} {Counts : ℕ → Type 0} {member : Reading → Result (X × Reading) Fault} {spell : X → List ℕ} {Fits : X → Type 0}
    → IsFormat counter tell Counts → IsFormat member spell Fits → (r : Reading) (xs : List X) (rest : List ℕ) → Counts (length xs) → AllByRecursion Fits xs
    → rest_of r ≡ (tell (length xs) ++ flat_map spell xs) ++ rest
    → (counter r >>= λ count. many member count.0 count.1) ≡ Ok (xs, moved (length (tell (length xs) ++ flat_map spell xs)) r)
listed_again {tell = tell} {spell = spell} f g r xs rest few each e =
    let count = tell (length xs) in
    let text = flat_map spell xs in
    let stands = e ∙ append_assoc count text rest in
    let one = f.again r (length xs) (text ++ rest) few stands in
    let two = (many_format g (length xs)).again (moved (length count) r) xs rest (refl, each) (rest_again r count (text ++ rest) stands) in
    rw (one, two, both_moved count text r) refl

listed_took : {X : Type 0} {counter : Reading → Result (ℕ × Reading) Fault} {tell : ℕ → List ℕ} {Counts : ℕ → Type 0} {member : Reading → Result (X × Reading) Fault} {spell : X → List ℕ} {Fits : X → Type 0}
    → IsFormat counter tell Counts → IsFormat member spell Fits → (r : Reading) (x : List X × Reading) → IsBytes (rest_of r)
    → (counter r >>= λ count. many member count.0 count.1) ≡ Ok x
    → Took (λ xs. tell (length xs) ++ flat_map spell xs) (λ xs. Counts (length xs) × AllByRecursion Fits xs) r x
listed_took {counter = counter} {tell = tell} {Counts = Counts} {member = member} {spell = spell} f g r x all e =
    let one = bind_gives (counter r) (λ count. many member count.0 count.1) x e in
    let n = one.0 in
    let t = f.took r n all one.1 in
    let u = (many_format g n.0).took n.1 x (bytes_stay _ r n.1 t.place all) one.2 in
    let first = spans r n all t in
    let both = spans_both r n.1 x.1 (tell n.0) (flat_map spell x.0) first (spans n.1 x first.bytes u) in
    took_of r x (subst (λ (k : ℕ). Spans r (tell k ++ flat_map spell x.0) x.1) (sym u.fits.0) both) (subst Counts (sym u.fits.0) t.fits, u.fits.1)

listed_format : {X : Type 0} {counter : Reading → Result (ℕ × Reading) Fault} {tell : ℕ → List ℕ} {Counts : ℕ → Type 0} {member : Reading → Result (X × Reading) Fault} {spell : X → List ℕ} {Fits : X → Type 0}
    → IsFormat counter tell Counts → IsFormat member spell Fits
    → IsFormat (λ r. counter r >>= λ count. many member count.0 count.1) (λ xs. tell (length xs) ++ flat_map spell xs) (λ xs. Counts (length xs) × AllByRecursion Fits xs)
listed_format f g = record { again = λ r xs rest fits e. listed_again f g r xs rest fits.0 fits.1 e; took = listed_took f g }

few_is : (n : ℕ) → IsFew n → (leb 1 n && leb n MAX_FEW) ≡ true
few_is n few = grind (arith, nat_tests)

is_few : (n : ℕ) → (leb 1 n && leb n MAX_FEW) ≡ true → IsFew n
is_few n e = (grind (arith, nat_tests), grind (arith, nat_tests))

few_format : IsFormat (count_at 1 1 MAX_FEW) (bytes_of 1) IsFew
unfolding count_at
few_format = fits_same (test_format (λ n. leb 1 n && leb n MAX_FEW) u8_format) IsFew
    (λ n few. (omega (arith, few.0, few.1), few_is n few)) (λ n is. is_few n is.1)

full_is : (n : ℕ) → IsFull n → (leb 1 n && leb n MAX_ROLL) ≡ true
full_is n full = grind (arith, nat_tests)

is_full : (n : ℕ) → (leb 1 n && leb n MAX_ROLL) ≡ true → IsFull n
is_full n e = (grind (arith, nat_tests), grind (arith, nat_tests))

pub full_format : IsFormat (count_at 4 1 MAX_ROLL) (bytes_of 4) IsFull
unfolding count_at
full_format = fits_same (test_format (λ n. leb 1 n && leb n MAX_ROLL) u32_format) IsFull
    (λ n full. (omega (arith, full.0, full.1), full_is n full)) (λ n is. is_full n is.1)

pub ops_format : IsFormat (few_at op_at) spelled_ops AreOps
ops_format = listed_format few_format op_format

pub marks_format : IsFormat (few_at mark_at) spelled_marks AreMarks
marks_format = listed_format few_format mark_format

pub numbers_format : IsFormat numbers_at spelled_numbers AreNumbers
unfolding numbers_at
numbers_format = fits_same (listed_format u16_format u32_format) AreNumbers (λ xs is. (omega (arith, is.0), is.1)) (λ xs is. (omega (arith, is.0), is.1))
