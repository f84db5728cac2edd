-- Each entry is read as it is spelled, and what is read as an entry is what it is spelled as.
use Rattle.std.specs.Prelude.{IfOk}
use Rattle.std.proofs.Common.{◌≡◌, ℕ, Bool, true, false, cond, eqb, List, [], ◌∷◌, ◌++◌, length, Option, Some, None, Result, Ok, Err, refl, sym, ap, subst, ◌∙◌, inl, inr, arith, find}
use Rattle.std.proofs.lemmas.Bool.{eqb-true}
use Rattle.std.proofs.lemmas.List.{nil_from_length, append-nil}
use Rattle.mqb_base.specs.declared.ids.MessageId.{MessageId}
use Rattle.mqb_fields.specs.Reading.{◌>>=◌, Reading, rest_of, moved}
use Rattle.mqb_fields.specs.Writing.{bytes_of}
use Rattle.mqb_entries.specs.declared.kinds.EntryKind.{EntryKind}
use Rattle.mqb_entries.specs.declared.kinds.EntryKind.TheVariants as kind
use Rattle.mqb_entries.specs.declared.members.OpView.{OpView}
use Rattle.mqb_base.specs.declared.queues.EntryPlace.{EntryPlace}
use Rattle.mqb_entries.specs.declared.entry.ArrivedPart.{ArrivedPart}
use Rattle.mqb_entries.specs.declared.entry.Entry.{Entry}
use Rattle.mqb_entries.specs.declared.entry.Entry.TheVariants.{Identity, Peer, CreateQueue, Commit, Plain, Offered, Arrived, Taken, Purged, Ticked, Roll}
use Rattle.mqb_entries.specs.Fields.{outside, u8_at, u32_at, id_at, packet_at}
use Rattle.mqb_entries.specs.Lists.{count_at, start}
use Rattle.mqb_entries.specs.Members.{op_at, mark_at}
use Rattle.mqb_entries.specs.Kinds.{kinds, code_of}
use Rattle.mqb_entries.specs.Spelled.{spelled_id, spelled_packet, IsWord, IsPacket, IsId}
use Rattle.mqb_entries.specs.SpelledEntries.{spelled_ops, spelled_numbers, spelled_place, spelled_part, kind_of, spelled_fields, spelled, AreOps, AreNumbers, IsPlace, IsPart, IsEntry, Fits}
use Rattle.mqb_entries.specs.Entries.{identity_at, queue_at, few_at, numbers_at, place_at, part_at, arrived_at, taken_at, fields_at, kind_in, kind_at, entry_of}
use Rattle.mqb_entries.specs.Formats.{IsBytes, IsFormat, seen, behind}
use Rattle.mqb_entries.specs.lemmas.Formats.{bind_gives, bind_same, ok_same, rest_again, map_again, pair_format}
use Rattle.mqb_entries.specs.FieldFormats.{Spans}
use Rattle.mqb_entries.specs.lemmas.FieldFormats.{u8_format, u32_format, id_format, packet_format, chosen, spans, spans_both, outside_apart}
use Rattle.mqb_entries.proofs.ListFormats.{nothing_left}
use Rattle.mqb_entries.proofs.EntryFormats.{Fault, pair_seen, text_same, three_joined, identity_format, queue_format, full_format, ops_format, marks_format, numbers_format}
use Rattle.mqb_entries.proofs.EntryAgain.{IsMade, made, read_one, place_format, part_format}
use Rattle.mqb_entries.specs.declared.limits.TheConstants.{MAX_ROLL}

abbrev read_entry : Entry → Reading → Result (Entry × Reading) Fault
read_entry = read_one

abbrev Arrival : Type 0
Arrival = ℕ × (List ℕ × ArrivedPart)

abbrev Taking : Type 0
Taking = ℕ × (EntryPlace × MessageId)

abbrev made_commit : ℕ × List OpView → Entry
made_commit p = Commit p.0 p.1

abbrev made_plain : ℕ × List ℕ → Entry
made_plain p = Plain p.0 p.1

abbrev made_arrived : Arrival → Entry
made_arrived p = Arrived p.0 p.1.0 p.1.1

abbrev made_taken : Taking → Entry
made_taken p = Taken p.0 p.1.0 p.1.1

abbrev made_purged : ℕ × EntryPlace → Entry
made_purged p = Purged p.0 p.1

-- the forms of two and three fields
commit_format : IsFormat (λ r. u32_at r >>= λ x. few_at op_at x.1 >>= behind Fault x.0) (λ p. bytes_of 4 p.0 ++ spelled_ops p.1) (λ p. IsWord p.0 × AreOps p.1)
commit_format = pair_format u32_format ops_format

plain_format : IsFormat (λ r. u32_at r >>= λ x. packet_at x.1 >>= behind Fault x.0) (λ p. bytes_of 4 p.0 ++ spelled_packet p.1) (λ p. IsWord p.0 × IsPacket p.1)
plain_format = pair_format u32_format packet_format

purged_format : IsFormat (λ r. u32_at r >>= λ x. place_at x.1 >>= behind Fault x.0) (λ p. bytes_of 4 p.0 ++ spelled_place p.1) (λ p. IsWord p.0 × IsPlace p.1)
purged_format = pair_format u32_format place_format

abbrev arrival_at : Reading → Result (Arrival × Reading) Fault
arrival_at r = u32_at r >>= λ x. (numbers_at x.1 >>= λ y. part_at y.1 >>= behind Fault y.0) >>= behind Fault x.0

arrived_format : IsFormat arrival_at (λ p. (bytes_of 4 p.0 ++ spelled_numbers p.1.0) ++ spelled_part p.1.1) (λ p. IsWord p.0 × (AreNumbers p.1.0 × IsPart p.1.1))
arrived_format = text_same (pair_format u32_format (pair_format numbers_format part_format)) _ (λ p. three_joined (bytes_of 4 p.0) (spelled_numbers p.1.0) (spelled_part p.1.1))

arrived_same : (r : Reading) → (arrival_at r >>= seen Fault made_arrived) ≡ arrived_at r
arrived_same r =
    pair_seen (u32_at r) (λ x. numbers_at x.1 >>= λ y. part_at y.1 >>= behind Fault y.0) made_arrived
    ∙ bind_same (u32_at r) _ _ (λ x. pair_seen (numbers_at x.1) (λ y. part_at y.1) (λ p. made_arrived (x.0, p)))

abbrev taking_at : Reading → Result (Taking × Reading) Fault
taking_at r = u32_at r >>= λ x. (place_at x.1 >>= λ y. id_at y.1 >>= behind Fault y.0) >>= behind Fault x.0

taken_format : IsFormat taking_at (λ p. (bytes_of 4 p.0 ++ spelled_place p.1.0) ++ spelled_id p.1.1) (λ p. IsWord p.0 × (IsPlace p.1.0 × IsId p.1.1))
taken_format = text_same (pair_format u32_format (pair_format place_format id_format)) _ (λ p. three_joined (bytes_of 4 p.0) (spelled_place p.1.0) (spelled_id p.1.1))

taken_same : (r : Reading) → (taking_at r >>= seen Fault made_taken) ≡ taken_at r
taken_same r =
    pair_seen (u32_at r) (λ x. place_at x.1 >>= λ y. id_at y.1 >>= behind Fault y.0) made_taken
    ∙ bind_same (u32_at r) _ _ (λ x. pair_seen (place_at x.1) (λ y. id_at y.1) (λ p. made_taken (x.0, p)))

-- fields that are spelled are read
fields_again : (entry : Entry) (r : Reading) (rest : List ℕ) → IsEntry entry → rest_of r ≡ spelled_fields entry ++ rest
    → fields_at (kind_of entry) r ≡ Ok (entry, moved (length (spelled_fields entry)) r)
unfolding fields_at
fields_again (Identity m) r rest fits e = map_again (identity_at r) Identity m (Identity m) _ (identity_format.again r m rest fits e) refl
fields_again (Peer m) r rest fits e = map_again (identity_at r) Peer m (Peer m) _ (identity_format.again r m rest fits e) refl
fields_again (CreateQueue q) r rest fits e = map_again (queue_at r) CreateQueue q (CreateQueue q) _ (queue_format.again r q rest fits e) refl
fields_again (Commit now ops) r rest fits e =
    sym (pair_seen (u32_at r) (λ x. few_at op_at x.1) made_commit) ∙ map_again _ made_commit (now, ops) (Commit now ops) _ (commit_format.again r (now, ops) rest fits e) refl
fields_again (Plain now packet) r rest fits e =
    sym (pair_seen (u32_at r) (λ x. packet_at x.1) made_plain) ∙ map_again _ made_plain (now, packet) (Plain now packet) _ (plain_format.again r (now, packet) rest fits e) refl
fields_again (Offered marks) r rest fits e = map_again (few_at mark_at r) Offered marks (Offered marks) _ (marks_format.again r marks rest fits e) refl
fields_again (Arrived now released part) r rest fits e =
    sym (arrived_same r) ∙ map_again (arrival_at r) made_arrived (now, (released, part)) (Arrived now released part) _ (arrived_format.again r (now, (released, part)) rest (fits.0, (fits.1, fits.2)) e) refl
fields_again (Taken now place id) r rest fits e =
    sym (taken_same r) ∙ map_again (taking_at r) made_taken (now, (place, id)) (Taken now place id) _ (taken_format.again r (now, (place, id)) rest (fits.0, (fits.1, fits.2)) e) refl
fields_again (Purged now place) r rest fits e =
    sym (pair_seen (u32_at r) (λ x. place_at x.1) made_purged) ∙ map_again _ made_purged (now, place) (Purged now place) _ (purged_format.again r (now, place) rest fits e) refl
fields_again (Ticked now) r rest fits e = map_again (u32_at r) Ticked now (Ticked now) _ (u32_format.again r now rest fits e) refl
fields_again (Roll count) r rest fits e = map_again (count_at 4 1 MAX_ROLL r) Roll count (Roll count) _ (full_format.again r count rest fits e) refl

-- fields that were read are those of an entry of the kind
pub record IsEntryOf (kind : EntryKind) (r : Reading) (x : Entry × Reading) : Type 0 where
  pub spans : Spans r (spelled_fields x.0) x.1
  pub fits : IsEntry x.0
  pub kind_is : kind_of x.0 ≡ kind

entry_made : {A : Type 0} {spell : A → List ℕ} {Fits : A → Type 0} (to : A → Entry) (kind : EntryKind) (r : Reading) (x : Entry × Reading) → IsMade spell Fits to r x
    → ((a : A) → spell a ≡ spelled_fields (to a)) → ((a : A) → Fits a → IsEntry (to a)) → ((a : A) → kind_of (to a) ≡ kind) → IsEntryOf kind r x
entry_made to kind r x m text suits same = record {
  spans = subst (λ (t : List ℕ). Spans r t x.1) (text m.from ∙ sym (ap spelled_fields m.is)) m.spans;
  fits = subst IsEntry (sym m.is) (suits m.from m.fits);
  kind_is = ap kind_of m.is ∙ same m.from;
}

fields_took : (kind : EntryKind) (r : Reading) (x : Entry × Reading) → IsBytes (rest_of r) → fields_at kind r ≡ Ok x → IsEntryOf kind r x
unfolding fields_at
fields_took kind.Identity r x all e = entry_made Identity kind.Identity r x (made identity_format Identity r x all e) (λ m. refl) (λ m fits. fits) (λ m. refl)
fields_took kind.Peer r x all e = entry_made Peer kind.Peer r x (made identity_format Peer r x all e) (λ m. refl) (λ m fits. fits) (λ m. refl)
fields_took kind.CreateQueue r x all e = entry_made CreateQueue kind.CreateQueue r x (made queue_format CreateQueue r x all e) (λ q. refl) (λ q fits. fits) (λ q. refl)
fields_took kind.Commit r x all e =
    let read = pair_seen (u32_at r) (λ y. few_at op_at y.1) made_commit ∙ e in
    entry_made made_commit kind.Commit r x (made commit_format made_commit r x all read) (λ p. refl) (λ p fits. fits) (λ p. refl)
fields_took kind.Plain r x all e =
    let read = pair_seen (u32_at r) (λ y. packet_at y.1) made_plain ∙ e in
    entry_made made_plain kind.Plain r x (made plain_format made_plain r x all read) (λ p. refl) (λ p fits. fits) (λ p. refl)
fields_took kind.Offered r x all e = entry_made Offered kind.Offered r x (made marks_format Offered r x all e) (λ m. refl) (λ m fits. fits) (λ m. refl)
fields_took kind.Arrived r x all e =
    entry_made made_arrived kind.Arrived r x (made arrived_format made_arrived r x all (arrived_same r ∙ e)) (λ p. refl) (λ p fits. (fits.0, fits.1.0, fits.1.1)) (λ p. refl)
fields_took kind.Taken r x all e =
    entry_made made_taken kind.Taken r x (made taken_format made_taken r x all (taken_same r ∙ e)) (λ p. refl) (λ p fits. (fits.0, fits.1.0, fits.1.1)) (λ p. refl)
fields_took kind.Purged r x all e =
    let read = pair_seen (u32_at r) (λ y. place_at y.1) made_purged ∙ e in
    entry_made made_purged kind.Purged r x (made purged_format made_purged r x all read) (λ p. refl) (λ p fits. fits) (λ p. refl)
fields_took kind.Ticked r x all e = entry_made Ticked kind.Ticked r x (made u32_format Ticked r x all e) (λ n. refl) (λ n fits. fits) (λ n. refl)
fields_took kind.Roll r x all e = entry_made Roll kind.Roll r x (made full_format Roll r x all e) (λ n. refl) (λ n fits. fits) (λ n. refl)

-- kinds
kind_again : (k : EntryKind) (r : Reading) (rest : List ℕ) → rest_of r ≡ (code_of k ∷ []) ++ rest → kind_at r ≡ Ok (k, moved 1 r)
unfolding kind_at
kind_again kind.Identity r rest e = rw (u8_format.again r 1 rest (omega arith) e) refl
kind_again kind.Peer r rest e = rw (u8_format.again r 2 rest (omega arith) e) refl
kind_again kind.CreateQueue r rest e = rw (u8_format.again r 3 rest (omega arith) e) refl
kind_again kind.Commit r rest e = rw (u8_format.again r 4 rest (omega arith) e) refl
kind_again kind.Plain r rest e = rw (u8_format.again r 5 rest (omega arith) e) refl
kind_again kind.Offered r rest e = rw (u8_format.again r 6 rest (omega arith) e) refl
kind_again kind.Arrived r rest e = rw (u8_format.again r 7 rest (omega arith) e) refl
kind_again kind.Taken r rest e = rw (u8_format.again r 8 rest (omega arith) e) refl
kind_again kind.Purged r rest e = rw (u8_format.again r 9 rest (omega arith) e) refl
kind_again kind.Ticked r rest e = rw (u8_format.again r 10 rest (omega arith) e) refl
kind_again kind.Roll r rest e = rw (u8_format.again r 11 rest (omega arith) e) refl

abbrev one_code : EntryKind → List ℕ
one_code k = code_of k ∷ []

code_is : (k : EntryKind) → bytes_of 1 (code_of k) ≡ one_code k
code_is kind.Identity = refl
code_is kind.Peer = refl
code_is kind.CreateQueue = refl
code_is kind.Commit = refl
code_is kind.Plain = refl
code_is kind.Offered = refl
code_is kind.Arrived = refl
code_is kind.Taken = refl
code_is kind.Purged = refl
code_is kind.Ticked = refl
code_is kind.Roll = refl

find_passes : {X : Type 0} (test : X → Bool) (xs : List X) (x : X) → find test xs ≡ Some x → test x ≡ true
find_passes test [] x e = absurd cc
find_passes test (y ∷ ys) x e = elim (chosen (test y) (Some y) (find test ys) (Some x) e) [
  | inl passes ↦ subst (λ z. test z ≡ true) (some_same y x passes.1) passes.0
  | inr fails ↦ find_passes test ys x fails.1
]
  where
    some_same : {X : Type 0} (y x : X) → Some y ≡ Some x → y ≡ x
    some_same y x e = cc

kind_given : (r : Reading) (byte : ℕ × Reading) (found : Option EntryKind) (x : EntryKind × Reading) → kind_in r byte found ≡ Ok x → (found ≡ Some x.0) × (byte.1 ≡ x.1)
kind_given r byte (Some k) x e =
    let pair : EntryKind × Reading = (k, byte.1) in
    let same : pair ≡ x = ok_same Fault pair x e in
    (ap (λ (y : EntryKind × Reading). Some y.0) same, ap (λ (y : EntryKind × Reading). y.1) same)
kind_given r byte None x e = absurd (outside_apart r x e)

kind_took : (r : Reading) (x : EntryKind × Reading) → IsBytes (rest_of r) → kind_at r ≡ Ok x → Spans r (one_code x.0) x.1
unfolding kind_at
kind_took r x all e =
    let step = bind_gives (u8_at r) (λ byte. kind_in r byte (find (λ k. eqb (code_of k) byte.0) kinds)) x e in
    let byte = step.0 in
    let given = kind_given r byte (find (λ k. eqb (code_of k) byte.0) kinds) x step.2 in
    let same : code_of x.0 ≡ byte.0 = eqb-true _ _ (find_passes (λ k. eqb (code_of k) byte.0) kinds x.0 given.0) in
    let s = spans r byte all (u8_format.took r byte all step.1) in
    let told : bytes_of 1 byte.0 ≡ one_code x.0 = ap (bytes_of 1) (sym same) ∙ code_is x.0 in
    subst (λ (after : Reading). Spans r (one_code x.0) after) given.1 (subst (λ (t : List ℕ). Spans r t byte.1) told s)

-- the laws
pub entry_again : (entry : Entry) → IsEntry entry → entry_of (spelled entry) ≡ Ok entry
unfolding entry_of
entry_again entry fits =
    let r = start (spelled entry) in
    let text = spelled_fields entry in
    let one = kind_again (kind_of entry) r text refl in
    let stands = rest_again r (one_code (kind_of entry)) text refl in
    let two = fields_again entry (moved 1 r) [] fits (stands ∙ sym (append-nil text)) in
    rw (one, two, nothing_left (moved 1 r) text stands) refl

all_read : {X : Type 0} (b : Bool) (x y : X) (r : Reading) → cond b (Ok x) (outside r) ≡ Ok y → (b ≡ true) × (x ≡ y)
all_read true x y r e = (refl, cc)
all_read false x y r e = absurd cc

pub entry_took : (bytes : List ℕ) (entry : Entry) → IsBytes bytes → entry_of bytes ≡ Ok entry → IsEntry entry × (bytes ≡ spelled entry)
unfolding entry_of
entry_took bytes entry all e =
    let r = start bytes in
    let one = bind_gives (kind_at r) (λ k. fields_at k.0 k.1 >>= λ x. cond (eqb (length (rest_of x.1)) 0) (Ok x.0) (outside x.1)) entry e in
    let k = one.0 in
    let two = bind_gives (fields_at k.0 k.1) (λ x. cond (eqb (length (rest_of x.1)) 0) (Ok x.0) (outside x.1)) entry one.2 in
    let x = two.0 in
    let end = all_read (eqb (length (rest_of x.1)) 0) x.0 entry x.1 two.2 in
    let first = kind_took r k all one.1 in
    let fields = fields_took k.0 k.1 x first.bytes two.1 in
    let both = spans_both r k.1 x.1 (one_code k.0) (spelled_fields x.0) first fields.spans in
    let nothing : rest_of x.1 ≡ [] = nil_from_length (rest_of x.1) (eqb-true _ _ end.0) in
    let whole : bytes ≡ one_code k.0 ++ spelled_fields x.0 =
    both.stands ∙ ap (λ (t : List ℕ). (one_code k.0 ++ spelled_fields x.0) ++ t) nothing ∙ append-nil (one_code k.0 ++ spelled_fields x.0) in
    let told : bytes ≡ spelled x.0 = whole ∙ ap (λ (kind : EntryKind). one_code kind ++ spelled_fields x.0) (sym fields.kind_is) in
    subst (λ (y : Entry). IsEntry y × (bytes ≡ spelled y)) end.1 (fields.fits, told)

-- what is read can be put again
entry_fits : (entry : Entry) → IsEntry entry → Fits entry
entry_fits (Identity m) is = tt
entry_fits (Peer m) is = tt
entry_fits (CreateQueue q) is = tt
entry_fits (Commit now ops) is = is.1.0
entry_fits (Plain now packet) is = tt
entry_fits (Offered marks) is = is.0
entry_fits (Arrived now released arrived) is = tt
entry_fits (Taken now place id) is = tt
entry_fits (Purged now place) is = tt
entry_fits (Ticked now) is = tt
entry_fits (Roll count) is = is

pub view_fits : (bytes : List ℕ) (view : Result Entry Fault) → IsBytes bytes → view ≡ entry_of bytes → IfOk view Fits
view_fits bytes (Ok entry) all e = entry_fits entry (entry_took bytes entry all (sym e)).0
view_fits bytes (Err fault) all e = tt

pub view_spelled : (bytes : List ℕ) (view : Result Entry Fault) → IsBytes bytes → view ≡ entry_of bytes → IfOk view (λ entry. bytes ≡ spelled entry)
view_spelled bytes (Ok entry) all e = (entry_took bytes entry all (sym e)).1
view_spelled bytes (Err fault) all e = tt
