-- Each spelling of a name is read as that name.
use Rattle.std.proofs.Common.{◌≡◌, ◌≤◌, ℕ, ◌+◌, Bool, true, false, not, leb, subst, append_assoc}
use Rattle.std.proofs.Common.{List, [], ◌∷◌, ◌++◌, length, take, drop, Some, Result, Ok, refl, sym}
use Rattle.std.proofs.Common.{ap, ◌∙◌, arith}
use Rattle.std.proofs.lemmas.Bool.Decides.{nat_tests}
use Rattle.std.proofs.lemmas.Bool.{lt-ltb}
use Rattle.std.proofs.lemmas.List.{take_at, drop_at, nil_from_length}
use Rattle.std.specs.List.{prefix_len, list_all, before_first}
use Rattle.std.specs.Prelude.{codes}
use Rattle.uuid.specs.Text.{is_hex_digit, parsed_hyphenated}
use Rattle.mqb_base.specs.declared.ids.Guid.{Guid}
use Rattle.mqb_base.specs.declared.queue_names.Host.{Host}
use Rattle.mqb_base.specs.declared.queue_names.Host.TheVariants.{Os, Tcp}
use Rattle.mqb_base.specs.declared.queue_names.MachineQueue.{MachineQueue}
use Rattle.mqb_base.specs.declared.queue_names.MachineQueue.TheVariants.{DeadLetter, DeadXact}
use Rattle.mqb_base.specs.declared.queue_names.MachineQueue.TheVariants.{Journal}
use Rattle.mqb_base.specs.declared.queue_names.QueueName.{QueueName}
use Rattle.mqb_base.specs.declared.queue_names.QueueName.TheVariants.{Public, Private}
use Rattle.mqb_base.specs.declared.queue_names.QueueName.TheVariants.{Direct, Machine}
use Rattle.mqb_fields.specs.Reading.{Reading, rest_of, moved}
use Rattle.mqb_names.specs.declared.faults.PartFault.{PartFault}
use Rattle.mqb_names.specs.declared.faults.NameKind.TheVariants as part
use Rattle.mqb_names.specs.Printed.{backslash, path, printed_address, printed_guid, printed_kind}
use Rattle.mqb_names.specs.Parts.{begins, guid_of, is_stop, hex_digits}
use Rattle.mqb_names.specs.Reading.{guid_at, number_at, host_at, direct_at, journal_at, kind_at}
use Rattle.mqb_names.specs.Reading.{public_at, private_at, direct_name_at, machine_at, name_of}
use Rattle.mqb_names.specs.Grammar.{◌then◌, Exactly, Word, GuidText, Digits, HostText}
use Rattle.mqb_names.specs.Grammar.{JournalText, IsText}
use Rattle.mqb_names.specs.Values.{AreBytes, IsName, IsHost, IsQueueName}
use Rattle.uuid.proofs.TextLemmas.{by_index_length}
use Rattle.mqb_names.specs.lemmas.Again.{rest_again}
use Rattle.mqb_names.specs.lemmas.TextGuids.{guid_from_word}
use Rattle.mqb_names.specs.lemmas.DirectAgain.{Stops, name_again, address_again}
use Rattle.mqb_names.specs.lemmas.DirectAgain.{runs_before, further}
use Rattle.mqb_names.specs.lemmas.TextWords.{clash, both_hold, word_length, word_begins}
use Rattle.mqb_names.specs.lemmas.TextWords.{begins_apart, words_apart, backslash_front}
use Rattle.mqb_names.specs.lemmas.TextWords.{semicolon_front, semicolon_behind_digits}

-- reading gives a value and leaves the rest
abbrev Leaves : {X : Type 0} → X → List ℕ → Result (X × Reading) PartFault → Type 0
Leaves x rest read = (r : Reading) × (read ≡ Ok (x, r)) × (rest_of r ≡ rest)

guid_read : (r : Reading) (g : Guid) (text rest : List ℕ) → AreBytes 16 g.0 → GuidText g text
    → rest_of r ≡ text ++ rest → Leaves g rest (guid_at r)
unfolding guid_of
guid_read r g text rest valid is e =
    let len : length text ≡ 36 = word_length text (printed_guid g) is ∙ by_index_length 36 _ in
    let front : take 36 (rest_of r) ≡ text = ap (take 36) e ∙ take_at text rest 36 len in
    let read : guid_of (rest_of r) ≡ Some g.0 =
    ap parsed_hyphenated front ∙ guid_from_word text g.0 valid.0 valid.1 is in
    let leads : guid_at r ≡ Ok (g, moved 36 r) = rw read refl in
    (moved 36 r, leads, rest_again r text rest 36 len e)

-- digits, up to what is none
hex_run : (text rest : List ℕ) → list_all is_hex_digit text ≡ true
    → prefix_len (λ b. not (not (is_hex_digit b))) rest ≡ 0
    → prefix_len (λ b. not (not (is_hex_digit b))) (text ++ rest) ≡ length text
hex_run [] rest all ends = ends
hex_run (b ∷ text) rest all ends =
    let both = both_hold (is_hex_digit b) (list_all is_hex_digit text) all in
    rw (both.0, hex_run text rest both.1 ends) (omega arith)

hex_front : (text rest : List ℕ) → list_all is_hex_digit text ≡ true
    → prefix_len (λ b. not (not (is_hex_digit b))) rest ≡ 0 → hex_digits (text ++ rest) ≡ text
hex_front text rest all ends =
    rw (hex_run text rest all ends) (take_at text rest (length text) refl)

is_most : (n m : ℕ) → n ≤ m → leb n m ≡ true
is_most n m within = grind (arith, nat_tests)

number_read : (r : Reading) (n : ℕ) (mark text rest : List ℕ) → Word (backslash ∷ []) mark
    → Digits n text → prefix_len (λ b. not (not (is_hex_digit b))) rest ≡ 0
    → rest_of r ≡ mark ++ (text ++ rest) → Leaves n rest (number_at r)
number_read r n mark text rest is digits ends e =
    let len = word_length mark (backslash ∷ []) is in
    let begun : begins (rest_of r) (backslash ∷ []) ≡ true =
    ap (λ (all : List ℕ). begins all (backslash ∷ [])) e
    ∙ word_begins mark (text ++ rest) (backslash ∷ []) is in
    let behind : rest_of (moved 1 r) ≡ text ++ rest = rest_again r mark (text ++ rest) 1 len e in
    let inside : drop 1 (rest_of r) ≡ text ++ rest =
    ap (drop 1) e ∙ drop_at mark (text ++ rest) 1 len in
    let front : hex_digits (drop 1 (rest_of r)) ≡ text =
    ap hex_digits inside ∙ hex_front text rest digits.2 ends in
    let leads : number_at r ≡ Ok (n, moved (1 + length text) r) = rw (
      begun,
      front,
      lt-ltb 0 (length text) digits.0,
      is_most (length text) 8 digits.1,
      digits.3,
    ) refl in (
      moved (1 + length text) r,
      leads,
      ap rest_of (sym (further 1 (length text) r))
          ∙ rest_again (moved 1 r) text rest (length text) refl behind,
    )

journal_read : (r : Reading) (journal : Bool) → JournalText journal (rest_of r)
    → journal_at r ≡ Ok journal
journal_read r true is = rw (word_length (rest_of r) (codes ";JOURNAL") is, is) refl
journal_read r false is = rw (word_length (rest_of r) [] is) refl

kind_read : (r : Reading) (kind : MachineQueue) → Word (printed_kind kind) (rest_of r)
    → kind_at r ≡ Ok kind
kind_read r DeadLetter is = rw is refl
kind_read r DeadXact is =
    rw (words_apart (rest_of r) (codes ";DEADXACT") (codes ";DEADLETTER") is refl, is) refl
kind_read r Journal is =
    rw (
      words_apart (rest_of r) (codes ";JOURNAL") (codes ";DEADLETTER") is refl,
      words_apart (rest_of r) (codes ";JOURNAL") (codes ";DEADXACT") is refl,
      is,
    ) refl

-- what ends a queue or a number
journal_stops : (journal : Bool) (text : List ℕ) → JournalText journal text → Stops text
journal_stops true text is = semicolon_front text (codes "JOURNAL") is
journal_stops false text is = rw (nil_from_length text (word_length text [] is)) refl

journal_behind_digits : (journal : Bool) (text : List ℕ) → JournalText journal text
    → prefix_len (λ b. not (not (is_hex_digit b))) text ≡ 0
journal_behind_digits true text is = semicolon_behind_digits text (codes "JOURNAL") is
journal_behind_digits false text is = rw (nil_from_length text (word_length text [] is)) refl

-- hosts
host_read : (r : Reading) (host : Host) (text rest : List ℕ) → IsHost host → HostText host text
    → Stops rest → rest_of r ≡ text ++ rest → Leaves host rest (host_at r)
host_read r (Os name) text rest valid (word, second, whole, is_word, is_name) stops e =
    let parts : rest_of r ≡ word ++ (name ++ rest) = e ∙ ap (λ (t : List ℕ). t ++ rest) (sym whole)
    ∙ append_assoc word second rest ∙ ap (λ (t : List ℕ). word ++ (t ++ rest)) is_name in
    let begun : begins (rest_of r) (codes "OS:") ≡ true =
    ap (λ (all : List ℕ). begins all (codes "OS:")) parts
    ∙ word_begins word (name ++ rest) (codes "OS:") is_word in
    let behind : rest_of (moved 3 r) ≡ name ++ rest =
    rest_again r word (name ++ rest) 3 (word_length word (codes "OS:") is_word) parts in
    let leads : host_at r ≡ Ok (Os name, moved (length name) (moved 3 r)) =
    rw (begun, name_again part.Host (moved 3 r) name rest valid stops behind) refl in (
      moved (length name) (moved 3 r),
      leads,
      rest_again (moved 3 r) name rest (length name) refl behind,
    )
host_read r (Tcp address) text rest valid (word, second, whole, is_word, is_address) stops e =
    let printed = printed_address address in
    let again = address_again address valid in
    let parts : rest_of r ≡ word ++ (printed ++ rest) =
    e ∙ ap (λ (t : List ℕ). t ++ rest) (sym whole) ∙ append_assoc word second rest
    ∙ ap (λ (t : List ℕ). word ++ (t ++ rest)) is_address in
    let begun : begins (rest_of r) (codes "TCP:") ≡ true =
    ap (λ (all : List ℕ). begins all (codes "TCP:")) parts
    ∙ word_begins word (printed ++ rest) (codes "TCP:") is_word in
    let not_os : begins (rest_of r) (codes "OS:") ≡ false =
    ap (λ (all : List ℕ). begins all (codes "OS:")) parts
    ∙ begins_apart word (printed ++ rest) (codes "TCP:") (codes "OS:") is_word refl in
    let behind : rest_of (moved 4 r) ≡ printed ++ rest =
    rest_again r word (printed ++ rest) 4 (word_length word (codes "TCP:") is_word) parts in
    let front : before_first is_stop (rest_of (moved 4 r)) ≡ printed =
    ap (before_first is_stop) behind ∙ runs_before printed rest again.1 stops in
    let leads : host_at r ≡ Ok (Tcp address, moved (length printed) (moved 4 r)) =
    rw (not_os, begun, front, again.0) refl in (
      moved (length printed) (moved 4 r),
      leads,
      rest_again (moved 4 r) printed rest (length printed) refl behind,
    )

-- what stands behind the prefix
public_read : (r : Reading) (g : Guid) (journal : Bool) → AreBytes 16 g.0
    → (GuidText g then JournalText journal) (rest_of r) → public_at r ≡ Ok (Public g journal)
unfolding public_at
public_read r g journal valid (id, tail, whole, is_id, is_tail) =
    let guid = guid_read r g id tail valid is_id (sym whole) in
    rw (guid.1, journal_read guid.0 journal (subst (JournalText journal) (sym guid.2) is_tail)) refl

machine_read : (r : Reading) (g : Guid) (kind : MachineQueue) → AreBytes 16 g.0
    → (GuidText g then Word (printed_kind kind)) (rest_of r) → machine_at r ≡ Ok (Machine g kind)
unfolding machine_at
machine_read r g kind valid (id, tail, whole, is_id, is_tail) =
    let guid = guid_read r g id tail valid is_id (sym whole) in
    rw (guid.1, kind_read guid.0 kind (subst (Word (printed_kind kind)) (sym guid.2) is_tail)) refl

private_read : (r : Reading) (g : Guid) (n : ℕ) (journal : Bool) → AreBytes 16 g.0
    → (GuidText g then Word (backslash ∷ []) then Digits n then JournalText journal) (rest_of r)
    → private_at r ≡ Ok (Private g n journal)
unfolding private_at
private_read r g n journal valid (
  id,
  behind_id,
  whole,
  is_id,
  (mark, behind_mark, whole_mark, is_mark, (digits, tail, whole_digits, are_digits, is_tail)),
) =
    let guid = guid_read r g id behind_id valid is_id (sym whole) in
    let rest : rest_of guid.0 ≡ mark ++ (digits ++ tail) =
    guid.2 ∙ sym whole_mark ∙ ap (λ (t : List ℕ). mark ++ t) (sym whole_digits) in
    let number = number_read guid.0 n mark digits tail is_mark are_digits
    (journal_behind_digits journal tail is_tail) rest in
    rw (
      guid.1,
      number.1,
      journal_read number.0 journal (subst (JournalText journal) (sym number.2) is_tail),
    ) refl

pub direct_read : (r : Reading) (host : Host) (queue : List ℕ) (journal : Bool) → IsHost host
    → IsName queue
    → (HostText host then Word path then Exactly queue then JournalText journal) (rest_of r)
    → direct_name_at r ≡ Ok (Direct host queue journal)
unfolding direct_name_at direct_at
direct_read r host queue journal valid is_queue (
  front,
  behind_host,
  whole,
  is_host,
  (middle, behind_path, whole_path, is_path, (end, tail, whole_queue, is_end, is_tail)),
) =
    let stops : Stops behind_host =
    subst Stops whole_path (backslash_front middle behind_path (drop 1 path) is_path) in
    let read = host_read r host front behind_host valid is_host stops (sym whole) in
    let rest : rest_of read.0 ≡ middle ++ behind_path = read.2 ∙ sym whole_path in
    let begun : begins (rest_of read.0) path ≡ true =
    ap (λ (all : List ℕ). begins all path) rest ∙ word_begins middle behind_path path is_path in
    let behind : rest_of (moved 10 read.0) ≡ queue ++ tail =
    rest_again read.0 middle behind_path 10 (word_length middle path is_path) rest ∙ sym whole_queue
    ∙ ap (λ (t : List ℕ). t ++ tail) is_end in
    let last : rest_of (moved (length queue) (moved 10 read.0)) ≡ tail =
    rest_again (moved 10 read.0) queue tail (length queue) refl behind in
    rw (
      read.1,
      begun,
      name_again part.Queue (moved 10 read.0) queue tail is_queue
          (journal_stops journal tail is_tail) behind,
      journal_read (moved (length queue) (moved 10 read.0)) journal
          (subst (JournalText journal) (sym last) is_tail),
    ) refl

-- the whole text
abbrev start : List ℕ → Reading
start text = record { bytes = text; at = 0 }

starts : (text word rest known : List ℕ) → word ++ rest ≡ text → Word known word
    → begins text known ≡ true
starts text word rest known whole is =
    ap (λ (all : List ℕ). begins all known) (sym whole) ∙ word_begins word rest known is

starts_not : (text word rest known other : List ℕ) → word ++ rest ≡ text → Word known word
    → clash known other ≡ true → begins text other ≡ false
starts_not text word rest known other whole is apart =
    ap (λ (all : List ℕ). begins all other) (sym whole)
    ∙ begins_apart word rest known other is apart

behind_word : (text word rest known : List ℕ) → word ++ rest ≡ text → Word known word
    → rest ≡ rest_of (moved (length known) (start text))
behind_word text word rest known whole is =
    sym (rest_again (start text) word rest (length known) (word_length word known is) (sym whole))

pub text_read : (text : List ℕ) (name : QueueName) → IsQueueName name → IsText text name
    → name_of text ≡ Ok name
text_read text (Public g journal) valid (word, rest, whole, is_word, is_rest) =
    let known = codes "PUBLIC=" in
    let parts = subst (GuidText g then JournalText journal)
    (behind_word text word rest known whole is_word) is_rest in
    rw (starts text word rest known whole is_word)
    (public_read (moved 7 (start text)) g journal valid parts)
text_read text (Private g n journal) valid (word, rest, whole, is_word, is_rest) =
    let known = codes "PRIVATE=" in
    let parts = subst (GuidText g then Word (backslash ∷ []) then Digits n then JournalText journal)
    (behind_word text word rest known whole is_word) is_rest in
    rw (
      starts_not text word rest known (codes "PUBLIC=") whole is_word refl,
      starts text word rest known whole is_word,
    ) (private_read (moved 8 (start text)) g n journal valid.0 parts)
text_read text (Direct host queue journal) valid (word, rest, whole, is_word, is_rest) =
    let known = codes "DIRECT=" in
    let parts = subst (HostText host then Word path then Exactly queue then JournalText journal)
    (behind_word text word rest known whole is_word) is_rest in
    rw (
      starts_not text word rest known (codes "PUBLIC=") whole is_word refl,
      starts_not text word rest known (codes "PRIVATE=") whole is_word refl,
      starts text word rest known whole is_word,
    ) (direct_read (moved 7 (start text)) host queue journal valid.0 valid.1 parts)
text_read text (Machine g kind) valid (word, rest, whole, is_word, is_rest) =
    let known = codes "MACHINE=" in
    let parts = subst (GuidText g then Word (printed_kind kind))
    (behind_word text word rest known whole is_word) is_rest in
    rw (
      starts_not text word rest known (codes "PUBLIC=") whole is_word refl,
      starts_not text word rest known (codes "PRIVATE=") whole is_word refl,
      starts_not text word rest known (codes "DIRECT=") whole is_word refl,
      starts text word rest known whole is_word,
    ) (machine_read (moved 8 (start text)) g kind valid parts)
