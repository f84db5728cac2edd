-- Each part that is printed is read again.
use Rattle.std.proofs.Common.{◌≡◌, ◌<◌, ℕ, ◌/◌, ◌%◌, ◌^◌, Bool, true, false, List, [], ◌∷◌, ◌++◌}
use Rattle.std.proofs.Common.{length, take, drop, Some, Ok, refl, sym, ap, ◌∙◌, arith}
use Rattle.std.proofs.Common.{inl, append_assoc}
use Rattle.std.proofs.lemmas.Bool.Decides.{nat_tests}
use Rattle.std.proofs.lemmas.List.{take_at, drop_at, drop-drop}
use Rattle.uuid.specs.Text.{lower, hex_digit, is_hex_digit, parsed_hyphenated}
use Rattle.uuid.proofs.TextLemmas.{by_index_length}
use Rattle.uuid.proofs.RoundTrips.{parses_hyphenated_text}
use Rattle.mqb_base.specs.declared.ids.Guid.{Guid}
use Rattle.mqb_base.specs.declared.queue_names.MachineQueue.{MachineQueue}
use Rattle.mqb_base.specs.declared.queue_names.MachineQueue.TheVariants.{DeadLetter, DeadXact}
use Rattle.mqb_base.specs.declared.queue_names.MachineQueue.TheVariants.{Journal}
use Rattle.mqb_base.specs.declared.queue_names.QueueName.TheVariants.{Public, Private, Machine}
use Rattle.mqb_fields.specs.Reading.{Reading, rest_of, moved}
use Rattle.mqb_names.specs.Printed.{backslash, printed, printed_guid, printed_number}
use Rattle.mqb_names.specs.Printed.{printed_journal, printed_kind}
use Rattle.mqb_names.specs.Parts.{same_word, guid_of, hex_digits, hex_value, hex_number}
use Rattle.mqb_names.specs.Reading.{guid_at, number_at, journal_at, kind_at, public_at, private_at}
use Rattle.mqb_names.specs.Reading.{machine_at, name_of}
use Rattle.mqb_names.specs.Values.{AreBytes}

pub rest_again : (r : Reading) (part rest : List ℕ) (count : ℕ) → length part ≡ count
    → rest_of r ≡ part ++ rest → rest_of (moved count r) ≡ rest
rest_again r part rest count len e =
    sym (drop-drop count r.at r.bytes) ∙ ap (drop count) e ∙ drop_at part rest count len

pub length_guid : (g : Guid) → length (printed_guid g) ≡ 36
length_guid g = by_index_length 36 _

guid_again : (r : Reading) (g : Guid) (rest : List ℕ) → AreBytes 16 g.0
    → rest_of r ≡ printed_guid g ++ rest → guid_at r ≡ Ok (g, moved 36 r)
unfolding guid_of
guid_again r g rest valid e =
    let front : take 36 (rest_of r) ≡ printed_guid g =
    ap (take 36) e ∙ take_at (printed_guid g) rest 36 (length_guid g) in
    let read : guid_of (rest_of r) ≡ Some g.0 = ap parsed_hyphenated front
    ∙ sym (parses_hyphenated_text lower g.0 (inl refl) valid.0 valid.1) in
    rw read refl

pub journal_again : (r : Reading) (journal : Bool) → rest_of r ≡ printed_journal journal
    → journal_at r ≡ Ok journal
unfolding same_word
journal_again r true e = rw e refl
journal_again r false e = rw e refl

kind_again : (r : Reading) (kind : MachineQueue) → rest_of r ≡ printed_kind kind
    → kind_at r ≡ Ok kind
unfolding same_word
kind_again r DeadLetter e = rw e refl
kind_again r DeadXact e = rw e refl
kind_again r Journal e = rw e refl

pub public_again : (r : Reading) (g : Guid) (journal : Bool) → AreBytes 16 g.0
    → rest_of r ≡ printed_guid g ++ printed_journal journal → public_at r ≡ Ok (Public g journal)
unfolding public_at
public_again r g journal valid e =
    let behind = rest_again r (printed_guid g) (printed_journal journal) 36 (length_guid g) e in
    rw (guid_again r g (printed_journal journal) valid e, journal_again (moved 36 r) journal behind)
    refl

pub machine_again : (r : Reading) (g : Guid) (kind : MachineQueue) → AreBytes 16 g.0
    → rest_of r ≡ printed_guid g ++ printed_kind kind → machine_at r ≡ Ok (Machine g kind)
unfolding machine_at
machine_again r g kind valid e =
    let behind = rest_again r (printed_guid g) (printed_kind kind) 36 (length_guid g) e in
    rw (guid_again r g (printed_kind kind) valid e, kind_again (moved 36 r) kind behind) refl

-- a hexadecimal digit
digit_is_hex : (d : ℕ) → d < 16 → is_hex_digit (hex_digit lower d) ≡ true
digit_is_hex d small = grind (arith, nat_tests)

digit_value : (d : ℕ) → d < 16 → hex_value (hex_digit lower d) ≡ d
digit_value d small = grind (arith, nat_tests)

eight_digits : (a b c d e f g h : ℕ) (journal : Bool) → is_hex_digit a ≡ true
    → is_hex_digit b ≡ true → is_hex_digit c ≡ true → is_hex_digit d ≡ true
    → is_hex_digit e ≡ true → is_hex_digit f ≡ true → is_hex_digit g ≡ true → is_hex_digit h ≡ true
    → hex_digits (a ∷ b ∷ c ∷ d ∷ e ∷ f ∷ g ∷ h ∷ printed_journal journal)
    ≡ a ∷ b ∷ c ∷ d ∷ e ∷ f ∷ g ∷ h ∷ []
eight_digits a b c d e f g h true ha hb hc hd he hf hg hh = rw (ha, hb, hc, hd, he, hf, hg, hh) refl
eight_digits a b c d e f g h false ha hb hc hd he hf hg hh =
    rw (ha, hb, hc, hd, he, hf, hg, hh) refl

number_front : (n : ℕ) (journal : Bool)
    → hex_digits (printed_number n ++ printed_journal journal) ≡ printed_number n
number_front n journal =
    eight_digits (hex_digit lower (n / 16 ^ 7 % 16)) (hex_digit lower (n / 16 ^ 6 % 16))
    (hex_digit lower (n / 16 ^ 5 % 16)) (hex_digit lower (n / 16 ^ 4 % 16))
    (hex_digit lower (n / 16 ^ 3 % 16)) (hex_digit lower (n / 16 ^ 2 % 16))
    (hex_digit lower (n / 16 ^ 1 % 16)) (hex_digit lower (n / 16 ^ 0 % 16)) journal
    (digit_is_hex (n / 16 ^ 7 % 16) (omega arith))
    (digit_is_hex (n / 16 ^ 6 % 16) (omega arith))
    (digit_is_hex (n / 16 ^ 5 % 16) (omega arith))
    (digit_is_hex (n / 16 ^ 4 % 16) (omega arith))
    (digit_is_hex (n / 16 ^ 3 % 16) (omega arith))
    (digit_is_hex (n / 16 ^ 2 % 16) (omega arith))
    (digit_is_hex (n / 16 ^ 1 % 16) (omega arith))
    (digit_is_hex (n / 16 ^ 0 % 16) (omega arith))

number_back : (n : ℕ) → n < 2 ^ 32 → hex_number (printed_number n) ≡ n
number_back n small =
    let a = digit_value (n / 16 ^ 7 % 16) (omega arith) in
    let b = digit_value (n / 16 ^ 6 % 16) (omega arith) in
    let c = digit_value (n / 16 ^ 5 % 16) (omega arith) in
    let d = digit_value (n / 16 ^ 4 % 16) (omega arith) in
    let e = digit_value (n / 16 ^ 3 % 16) (omega arith) in
    let f = digit_value (n / 16 ^ 2 % 16) (omega arith) in
    let g = digit_value (n / 16 ^ 1 % 16) (omega arith) in
    let h = digit_value (n / 16 ^ 0 % 16) (omega arith) in
    rw (a, b, c, d, e, f, g, h) (omega arith)

number_again : (r : Reading) (n : ℕ) (journal : Bool) → n < 2 ^ 32
    → rest_of r ≡ backslash ∷ printed_number n ++ printed_journal journal
    → number_at r ≡ Ok (n, moved 9 r)
unfolding same_word
number_again r n journal small e = rw (e, number_front n journal, number_back n small) refl

pub private_again : (r : Reading) (g : Guid) (n : ℕ) (journal : Bool) → AreBytes 16 g.0 → n < 2 ^ 32
    → rest_of r ≡ printed_guid g ++ (backslash ∷ printed_number n ++ printed_journal journal)
    → private_at r ≡ Ok (Private g n journal)
unfolding private_at
private_again r g n journal valid small e =
    let number = backslash ∷ printed_number n in
    let behind =
    rest_again r (printed_guid g) (number ++ printed_journal journal) 36 (length_guid g) e in
    let last = rest_again (moved 36 r) number (printed_journal journal) 9 refl behind in
    rw (
      guid_again r g (number ++ printed_journal journal) valid e,
      number_again (moved 36 r) n journal small behind,
      journal_again (moved 9 (moved 36 r)) journal last,
    ) refl

-- the forms but the direct one
pub public_name : (g : Guid) (journal : Bool) → AreBytes 16 g.0
    → name_of (printed (Public g journal)) ≡ Ok (Public g journal)
unfolding same_word
public_name g journal valid =
    public_again (moved 7 (record { bytes = printed (Public g journal); at = 0 })) g journal
    valid refl

pub private_name : (g : Guid) (n : ℕ) (journal : Bool) → AreBytes 16 g.0 → n < 2 ^ 32
    → name_of (printed (Private g n journal)) ≡ Ok (Private g n journal)
unfolding same_word
private_name g n journal valid small =
    private_again (moved 8 (record { bytes = printed (Private g n journal); at = 0 })) g n journal
    valid small
    (append_assoc (printed_guid g) (backslash ∷ printed_number n) (printed_journal journal))

pub machine_name : (g : Guid) (kind : MachineQueue) → AreBytes 16 g.0
    → name_of (printed (Machine g kind)) ≡ Ok (Machine g kind)
unfolding same_word
machine_name g kind valid =
    machine_again (moved 8 (record { bytes = printed (Machine g kind); at = 0 })) g kind valid refl
