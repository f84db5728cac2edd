-- The bytes of what stands in a line.
use Rattle.std.proofs.Common.{◌≡◌, ℕ, zero, suc, ◌/◌, ◌%◌, ◌^◌, ◌<◌, ◌≤◌, Bool, true, false, ◌==◌, ◌||◌, not, nat_lt, if◌then◌else◌, cond, List, [], ◌∷◌, ◌++◌, length, get_or, codes, Some, None, refl, arith}
use Rattle.std.specs.List.{list_all, position_or_len}
use Rattle.std.specs.Option.{option_map}
use Rattle.std.specs.Fmt.{decimal}
use Rattle.std.proofs.lemmas.List.Folds.{list_all-append}
use Rattle.std.proofs.lemmas.List.Sums.{fails_before_first, list_all-from_AllPass}
use Rattle.std.proofs.lemmas.Bool.Decides.{nat_tests}
use Rattle.uuid.specs.Text.{by_index, hex_digit, nibble, lower, hyphen, is_hyphen_place, digit_place}
use Rattle.uuid.proofs.TextLemmas.{nibble_small}
use Rattle.mqb_base.specs.declared.ids.Guid.{Guid}
use Rattle.mqb_base.specs.declared.names.NameError.TheVariants.{Length, Byte}
use Rattle.mqb_base.specs.declared.queue_names.Host.{Host}
use Rattle.mqb_base.specs.declared.queue_names.Host.TheVariants.{Os, Tcp}
use Rattle.mqb_base.specs.declared.queue_names.QueueName.{QueueName}
use Rattle.mqb_base.specs.declared.queue_names.QueueName.TheVariants.{Public, Private, Direct, Machine}
use Rattle.mqb_base.specs.Names.{is_name_byte}
use Rattle.mqb_base.specs.QueueNames.{names_queue}
use Rattle.mqb_names.specs.Printed.{decimal_octet, dot, path, printed, printed_guid, printed_number, printed_octet, printed_address, printed_host, printed_direct}
use Rattle.mqb_names.specs.Values.{AreBytes, IsName, IsHost, IsQueueName}
use Rattle.mqb_forms.specs.Words.{is_digit}
use Rattle.mqb_forms.specs.Sends.{is_body_byte}
use Rattle.mqb_forms.proofs.Tests.{both}
use Rattle.mqb_script.proofs.Decimals.{decimal_spells}

-- each byte of a text can stand in a field of a send
abbrev pub is_field : List ℕ → Bool
is_field text = list_all is_body_byte text

pub all_weaker : (p q : ℕ → Bool) → ((b : ℕ) → p b ≡ true → q b ≡ true) → (xs : List ℕ) → list_all p xs ≡ true → list_all q xs ≡ true
all_weaker p q weaker [] h = refl
all_weaker p q weaker (x ∷ xs) h = let k = both (p x) (list_all p xs) h in rw (weaker x k.0, all_weaker p q weaker xs k.1) refl

pub field-append : (a b : List ℕ) → is_field a ≡ true → is_field b ≡ true → is_field (a ++ b) ≡ true
field-append a b h k = rw (list_all-append is_body_byte a b, h, k) refl

-- Names.

not_false : (b : Bool) → not b ≡ false → b ≡ true
not_false true h = refl
not_false false h = cc

all_pass : (p : ℕ → Bool) (xs : List ℕ) → length xs ≤ position_or_len (λ b. not (p b)) xs → list_all p xs ≡ true
all_pass p xs h =
    list_all-from_AllPass p xs (λ k d within. not_false (p (get_or xs k d)) (fails_before_first (λ b. not (p b)) xs k d (omega arith)))

none_outside : (bad below : Bool) (at : ℕ) → (if bad then Some Length else option_map (λ n. Byte n) (cond below (Some at) None)) ≡ None
    → below ≡ false
none_outside true below at h = cc
none_outside false true at h = cc
none_outside false false at h = refl

not_below : (a b : ℕ) → nat_lt a b ≡ false → b ≤ a
not_below a b h = grind (arith, nat_tests)

pub name_bytes : (name : List ℕ) → IsName name → list_all is_name_byte name ≡ true
name_bytes name h =
    let at : ℕ = position_or_len (λ b. not (is_name_byte b)) name in
    all_pass is_name_byte name (not_below at (length name)
    (none_outside (length name == 0 || nat_lt 64 (length name)) (nat_lt at (length name)) at h))

name_byte : (b : ℕ) → is_name_byte b ≡ true → is_body_byte b ≡ true
name_byte b h = grind (arith, nat_tests)

pub name_field : (name : List ℕ) → IsName name → is_field name ≡ true
name_field name h = all_weaker is_name_byte is_body_byte name_byte name (name_bytes name h)

-- Numbers and GUIDs.

digit_byte : (b : ℕ) → is_digit b ≡ true → is_body_byte b ≡ true
digit_byte b h = grind (arith, nat_tests)

pub number_field : (n : ℕ) → n < 2 ^ 64 → is_field (decimal n) ≡ true
number_field n fits = all_weaker is_digit is_body_byte digit_byte (decimal n) (decimal_spells n fits).digit

hex_byte : (n : ℕ) → n < 16 → is_body_byte (hex_digit lower n) ≡ true
hex_byte n small = grind (arith, nat_tests)

by_index_all : (p : ℕ → Bool) (n : ℕ) (f : ℕ → ℕ) → ((k : ℕ) → p (f k) ≡ true) → list_all p (by_index n f) ≡ true
unfolding by_index
by_index_all p zero f each = refl
by_index_all p (suc n) f each = rw (list_all-append p (by_index n f) (f n ∷ []), by_index_all p n f each, each n) refl

hyphened : (place : Bool) (digit : ℕ) → is_body_byte digit ≡ true → is_body_byte (if place then hyphen else digit) ≡ true
hyphened true digit h = refl
hyphened false digit h = h

pub guid_field : (guid : Guid) → is_field (printed_guid guid) ≡ true
guid_field guid =
    by_index_all is_body_byte 36 (λ k. if is_hyphen_place k then hyphen else hex_digit lower (nibble guid.0 (digit_place k)))
    (λ k. hyphened (is_hyphen_place k) (hex_digit lower (nibble guid.0 (digit_place k))) (hex_byte (nibble guid.0 (digit_place k)) (nibble_small guid.0 (digit_place k))))

hex_place : (n place : ℕ) → is_body_byte (hex_digit lower (n / 16 ^ place % 16)) ≡ true
hex_place n place = hex_byte (n / 16 ^ place % 16) (omega arith)

number_digits : (n : ℕ) → is_field (printed_number n) ≡ true
number_digits n =
    rw (hex_place n 7, hex_place n 6, hex_place n 5, hex_place n 4, hex_place n 3, hex_place n 2, hex_place n 1, hex_place n 0) refl

-- Names of queues.

octet_one : (n : ℕ) (small : Bool) (medium : Bool) → nat_lt n 10 ≡ small → nat_lt n 100 ≡ medium → n < 256
    → is_field (decimal_octet small medium n) ≡ true
octet_one n true medium e f byte = grind (arith, nat_tests)
octet_one n false true e f byte = grind (arith, nat_tests)
octet_one n false false e f byte = grind (arith, nat_tests)

octet_field : (n : ℕ) → n < 256 → is_field (printed_octet n) ≡ true
octet_field n byte = octet_one n (nat_lt n 10) (nat_lt n 100) refl refl byte

pub path_field : is_field path ≡ true
path_field = refl

dotted : (rest : List ℕ) → is_field rest ≡ true → is_field (dot ∷ rest) ≡ true
dotted rest h = rw h refl

address_four : (a b c d : ℕ) → a < 256 → b < 256 → c < 256 → d < 256 → is_field (printed_address (a ∷ b ∷ c ∷ d ∷ [])) ≡ true
address_four a b c d is_a is_b is_c is_d =
    field-append (printed_octet a ++ dot ∷ printed_octet b ++ dot ∷ printed_octet c) (dot ∷ printed_octet d)
    (field-append (printed_octet a ++ dot ∷ printed_octet b) (dot ∷ printed_octet c)
    (field-append (printed_octet a) (dot ∷ printed_octet b) (octet_field a is_a) (dotted (printed_octet b) (octet_field b is_b)))
    (dotted (printed_octet c) (octet_field c is_c)))
    (dotted (printed_octet d) (octet_field d is_d))

address_field : (address : List ℕ) → AreBytes 4 address → is_field (printed_address address) ≡ true
address_field [] valid = absurd (omega (arith, valid.0))
address_field (a ∷ []) valid = absurd (omega (arith, valid.0))
address_field (a ∷ b ∷ []) valid = absurd (omega (arith, valid.0))
address_field (a ∷ b ∷ c ∷ []) valid = absurd (omega (arith, valid.0))
address_field (a ∷ b ∷ c ∷ d ∷ []) valid =
    address_four a b c d (valid.1 0 0 (omega arith)) (valid.1 1 0 (omega arith)) (valid.1 2 0 (omega arith)) (valid.1 3 0 (omega arith))
address_field (a ∷ b ∷ c ∷ d ∷ e ∷ more) valid = absurd (omega (arith, valid.0))

host_field : (host : Host) → IsHost host → is_field (printed_host host) ≡ true
host_field (Os name) valid = field-append (codes "OS:") name refl (name_field name valid)
host_field (Tcp address) valid = field-append (codes "TCP:") (printed_address address) refl (address_field address valid)

direct_field : (host : Host) (queue : List ℕ) → IsHost host → IsName queue → is_field (printed_direct host queue) ≡ true
direct_field host queue host_is queue_is =
    field-append (printed_host host ++ path) queue (field-append (printed_host host) path (host_field host host_is) path_field) (name_field queue queue_is)

pub queue_field : (name : QueueName) → IsQueueName name → names_queue name ≡ true → is_field (printed name) ≡ true
queue_field (Public guid true) valid queue = cc
queue_field (Public guid false) valid queue =
    field-append (codes "PUBLIC=" ++ printed_guid guid) [] (field-append (codes "PUBLIC=") (printed_guid guid) refl (guid_field guid)) refl
queue_field (Private qm number true) valid queue = cc
queue_field (Private qm number false) valid queue =
    field-append (codes "PRIVATE=" ++ printed_guid qm ++ 0x5C ∷ printed_number number) []
    (field-append (codes "PRIVATE=" ++ printed_guid qm) (0x5C ∷ printed_number number)
    (field-append (codes "PRIVATE=") (printed_guid qm) refl (guid_field qm)) (number_digits number))
    refl
queue_field (Direct host queue true) valid is_queue = cc
queue_field (Direct host queue false) valid is_queue =
    field-append (codes "DIRECT=" ++ printed_direct host queue) []
    (field-append (codes "DIRECT=") (printed_direct host queue) refl (direct_field host queue valid.0 valid.1)) refl
queue_field (Machine qm kind) valid queue = cc
