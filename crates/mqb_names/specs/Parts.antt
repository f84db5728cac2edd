-- The parts of a name's text.
use Rattle.std.specs.Prelude.{ℕ, ◌+◌, ◌*◌, ◌-◌, Bool, not, ◌==◌, ◌||◌, ◌&&◌, nat_le, nat_lt}
use Rattle.std.specs.Prelude.{is_none, List, [], ◌∷◌, length, take, drop, Option, Some, None}
use Rattle.std.specs.Prelude.{position, option_map, option_and_then, if◌then◌else◌}
use Rattle.std.specs.List.{fold, before_first}
use Rattle.std.specs.Str.{str_eq_ignore_ascii_case}
use Rattle.uuid.specs.Text.{is_hex_digit, parsed_hyphenated}
use Rattle.mqb_base.specs.Names.{name_fault}
use Rattle.mqb_names.specs.Printed.{backslash, dot}

-- the same text, whatever its case
unfoldable pub same_word : List ℕ → List ℕ → Bool
same_word text word = str_eq_ignore_ascii_case text word

-- a text that begins with a word, whatever its case
abbrev pub begins : List ℕ → List ℕ → Bool
begins text word = same_word (take (length word) text) word

-- the GUID that the first 36 characters spell
unfoldable pub guid_of : List ℕ → Option (List ℕ)
guid_of text = parsed_hyphenated (take 36 text)

-- a backslash or a semicolon, where a host or a queue ends
abbrev pub is_stop : ℕ → Bool
is_stop b = (b == backslash) || (b == 0x3B)

abbrev pub is_name : List ℕ → Bool
is_name bytes = is_none (name_fault bytes)

-- the hexadecimal digits that a text begins with
abbrev pub hex_digits : List ℕ → List ℕ
hex_digits text = before_first (λ b. not (is_hex_digit b)) text

-- a hexadecimal digit's value, and 0 for any other byte
abbrev pub hex_value : ℕ → ℕ
hex_value b = if nat_le 48 b && nat_le b 57 then b - 48
    else if nat_le 97 b && nat_le b 102 then b - 87
    else if nat_le 65 b && nat_le b 70 then b - 55
    else 0

-- the number that hexadecimal digits stand for
abbrev pub hex_number : List ℕ → ℕ
hex_number digits = fold (λ n digit. n * 16 + hex_value digit) 0 digits

abbrev pub is_digit : ℕ → Bool
is_digit b = nat_le 48 b && nat_le b 57

-- the number from 0 to 255 of decimal digits without leading zeros
abbrev pub octet_of : List ℕ → Option ℕ
octet_of (a ∷ []) = if is_digit a then Some (a - 48) else None
octet_of (a ∷ b ∷ []) =
    if is_digit a && is_digit b && nat_lt 48 a then Some ((a - 48) * 10 + (b - 48)) else None
octet_of (a ∷ b ∷ c ∷ []) = if is_digit a && is_digit b && is_digit c && nat_lt 48 a
    && nat_lt ((a - 48) * 100 + (b - 48) * 10 + (c - 48)) 256
    then Some ((a - 48) * 100 + (b - 48) * 10 + (c - 48)) else None
octet_of _ = None

-- such a number before the first dot, and what stands behind the dot
abbrev pub octet_before : List ℕ → ℕ → Option (ℕ × List ℕ)
octet_before text end = option_map (λ n. (n, drop (end + 1) text)) (octet_of (take end text))

abbrev pub octet_and_rest : List ℕ → Option (ℕ × List ℕ)
octet_and_rest text = option_and_then (octet_before text) (position (λ b. b == dot) text)

-- the four bytes of an address
abbrev pub address_of : List ℕ → Option (List ℕ)
address_of text =
    option_and_then (λ a.
    option_and_then (λ b.
    option_and_then (λ c.
    option_map (λ d. a.0 ∷ b.0 ∷ c.0 ∷ d ∷ [])
    (octet_of c.1)) (octet_and_rest b.1)) (octet_and_rest a.1)) (octet_and_rest text)
