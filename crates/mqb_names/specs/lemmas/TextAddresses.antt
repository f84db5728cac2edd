-- A text that is read as an address is that address printed.
use Rattle.std.proofs.Common.{◌≡◌, ◌≤◌, ◌<◌, ℕ, ◌+◌, ◌-◌, ◌*◌, ◌/◌, ◌%◌, Bool, true, false, cond}
use Rattle.std.proofs.Common.{◌&&◌, ◌==◌, ltb, subst, List, [], ◌∷◌, ◌++◌, length, take, drop}
use Rattle.std.proofs.Common.{Option, Some, None, option_map, refl, sym, ap, ◌∙◌, arith}
use Rattle.std.proofs.lemmas.Bool.Decides.{nat_tests}
use Rattle.std.proofs.lemmas.Bool.{lt-ltb, le-ltb}
use Rattle.std.proofs.lemmas.List.{take-append-drop, drop_more}
use Rattle.std.proofs.lemmas.List.Sums.{passes_at_first}
use Rattle.std.specs.List.{position_or_len}
use Rattle.std.specs.Prelude.{option_and_then, nat_lt, position, get_or}
use Rattle.mqb_names.specs.Printed.{dot, printed_octet, printed_address}
use Rattle.mqb_names.specs.Parts.{is_digit, octet_of, octet_before, octet_and_rest, address_of}
use Rattle.mqb_names.specs.lemmas.DirectAgain.{apart}
use Rattle.mqb_names.specs.lemmas.TextWords.{both_hold}

some_if : (b : Bool) (x y : ℕ) → cond b (Some x) None ≡ Some y → (b ≡ true) × (x ≡ y)
some_if true x y e = (refl, cc)
some_if false x y e = absurd cc

digit_bounds : (b : ℕ) → is_digit b ≡ true → (48 ≤ b) × (b ≤ 57)
digit_bounds b e = (grind (arith, nat_tests), grind (arith, nat_tests))

above_zero : (a : ℕ) → ltb 48 a ≡ true → 49 ≤ a
above_zero a e = grind (arith, nat_tests)

octet_text : (text : List ℕ) (n : ℕ) → octet_of text ≡ Some n → text ≡ printed_octet n
unfolding printed_octet
octet_text [] n e = absurd cc
octet_text (a ∷ []) n e =
    let given = some_if (is_digit a) (a - 48) n e in
    let is_a = digit_bounds a given.0 in
    let one : a ≡ 48 + n = omega (arith, given.1, is_a.0) in
    rw (lt-ltb n 10 (omega (arith, given.1, is_a.0, is_a.1))) (ap (λ (x : ℕ). x ∷ []) one)
octet_text (a ∷ b ∷ []) n e =
    let given = some_if (is_digit a && is_digit b && nat_lt 48 a) ((a - 48) * 10 + (b - 48)) n e in
    let more = both_hold (is_digit a && is_digit b) (nat_lt 48 a) given.0 in
    let digits = both_hold (is_digit a) (is_digit b) more.0 in
    let is_a = digit_bounds a digits.0 in
    let is_b = digit_bounds b digits.1 in
    let no_zero = above_zero a more.1 in
    let value = given.1 in
    let one : a ≡ 48 + n / 10 = omega arith in
    let two : b ≡ 48 + n % 10 = omega arith in
    rw (le-ltb n 10 (omega arith), lt-ltb n 100 (omega arith))
    (ap (λ (x : ℕ). x ∷ b ∷ []) one ∙ ap (λ (x : ℕ). (48 + n / 10) ∷ x ∷ []) two)
octet_text (a ∷ b ∷ c ∷ []) n e =
    let number = (a - 48) * 100 + (b - 48) * 10 + (c - 48) in
    let given = some_if (is_digit a && is_digit b && is_digit c && nat_lt 48 a && nat_lt number 256)
    number n e in
    let most = both_hold (is_digit a && is_digit b && is_digit c && nat_lt 48 a)
    (nat_lt number 256) given.0 in
    let more = both_hold (is_digit a && is_digit b && is_digit c) (nat_lt 48 a) most.0 in
    let digits = both_hold (is_digit a && is_digit b) (is_digit c) more.0 in
    let first = both_hold (is_digit a) (is_digit b) digits.0 in
    let is_a = digit_bounds a first.0 in
    let is_b = digit_bounds b first.1 in
    let is_c = digit_bounds c digits.1 in
    let no_zero = above_zero a more.1 in
    let value = given.1 in
    let one : a ≡ 48 + n / 100 = omega arith in
    let two : b ≡ 48 + n / 10 % 10 = omega arith in
    let three : c ≡ 48 + n % 10 = omega arith in
    rw (le-ltb n 10 (omega arith), le-ltb n 100 (omega arith))
    (ap (λ (x : ℕ). x ∷ b ∷ c ∷ []) one ∙ ap (λ (x : ℕ). (48 + n / 100) ∷ x ∷ c ∷ []) two
    ∙ ap (λ (x : ℕ). (48 + n / 100) ∷ (48 + n / 10 % 10) ∷ x ∷ []) three)
octet_text (a ∷ b ∷ c ∷ d ∷ text) n e = absurd cc

then_gives : {X Y : Type 0} (next : X → Option Y) (o : Option X) (y : Y)
    → option_and_then next o ≡ Some y → (x : X) × (o ≡ Some x) × (next x ≡ Some y)
then_gives next (Some x) y e = (x, refl, e)
then_gives next None y e = absurd cc

map_gives : {X Y : Type 0} (f : X → Y) (o : Option X) (y : Y) → option_map f o ≡ Some y
    → (x : X) × (o ≡ Some x) × (f x ≡ y)
map_gives f (Some x) y e = (x, refl, cc)
map_gives f None y e = absurd cc

is_dot : (b : ℕ) → (b == dot) ≡ true → b ≡ dot
is_dot b e = grind (arith, nat_tests)

within_text : (end len found : ℕ) → cond (ltb end len) (Some end) None ≡ Some found
    → (end < len) × (end ≡ found)
within_text end len found e =
    let given = some_if (ltb end len) end found e in (grind (arith, nat_tests, given.0), given.1)

joined : (text : List ℕ) (end n : ℕ) (x : ℕ × List ℕ) → end < length text → get_or text end 0 ≡ dot
    → octet_of (take end text) ≡ Some n → (n, drop (end + 1) text) ≡ x
    → text ≡ printed_octet x.0 ++ dot ∷ x.1
joined text end n x within stands octet same =
    let front = take end text in
    let behind = drop (end + 1) text in
    sym (take-append-drop end text)
    ∙ ap (λ (t : List ℕ). front ++ t) (drop_more text end 0 within)
    ∙ ap (λ (b : ℕ). front ++ b ∷ behind) stands
    ∙ ap (λ (t : List ℕ). t ++ dot ∷ behind) (octet_text front n octet)
    ∙ ap (λ (y : ℕ × List ℕ). printed_octet y.0 ++ dot ∷ y.1) same

octet_and_rest_text : (text : List ℕ) (x : ℕ × List ℕ) → octet_and_rest text ≡ Some x
    → text ≡ printed_octet x.0 ++ dot ∷ x.1
octet_and_rest_text text x e =
    let at = then_gives (octet_before text) (position (λ b. b == dot) text) x e in
    let octet = map_gives (λ n. (n, drop (at.0 + 1) text)) (octet_of (take at.0 text)) x at.2 in
    let place = within_text (position_or_len (λ b. b == dot) text) (length text) at.0 at.1 in
    let stands : get_or text (position_or_len (λ b. b == dot) text) 0 ≡ dot =
    is_dot _ (passes_at_first (λ b. b == dot) text 0 place.0) in
    joined text at.0 octet.0 x (subst (λ (k : ℕ). k < length text) place.1 place.0)
    (subst (λ (k : ℕ). get_or text k 0 ≡ dot) place.1 stands) octet.1 octet.2

abbrev last_of : ℕ → ℕ → ℕ × List ℕ → Option (List ℕ)
last_of a b c = option_map (λ d. a ∷ b ∷ c.0 ∷ d ∷ []) (octet_of c.1)

abbrev third_of : ℕ → ℕ × List ℕ → Option (List ℕ)
third_of a b = option_and_then (last_of a b.0) (octet_and_rest b.1)

abbrev second_of : ℕ × List ℕ → Option (List ℕ)
second_of a = option_and_then (third_of a.0) (octet_and_rest a.1)

four_joined : (text a b c d behind_a behind_b behind_c : List ℕ) → text ≡ a ++ dot ∷ behind_a
    → behind_a ≡ b ++ dot ∷ behind_b → behind_b ≡ c ++ dot ∷ behind_c → behind_c ≡ d
    → text ≡ a ++ dot ∷ b ++ dot ∷ c ++ dot ∷ d
four_joined text a b c d behind_a behind_b behind_c first second third last =
    first
    ∙ ap (λ (t : List ℕ). a ++ dot ∷ t) (second
    ∙ ap (λ (t : List ℕ). b ++ dot ∷ t) (third ∙ ap (λ (t : List ℕ). c ++ dot ∷ t) last))
    ∙ sym (apart a b c d)

pub address_text : (text address : List ℕ) → address_of text ≡ Some address
    → text ≡ printed_address address
address_text text address e =
    let a = then_gives second_of (octet_and_rest text) address e in
    let b = then_gives (third_of a.0.0) (octet_and_rest a.0.1) address a.2 in
    let c = then_gives (last_of a.0.0 b.0.0) (octet_and_rest b.0.1) address b.2 in
    let d = map_gives (λ d. a.0.0 ∷ b.0.0 ∷ c.0.0 ∷ d ∷ []) (octet_of c.0.1) address c.2 in
    four_joined text (printed_octet a.0.0) (printed_octet b.0.0) (printed_octet c.0.0)
    (printed_octet d.0) a.0.1 b.0.1 c.0.1
    (octet_and_rest_text text a.0 a.1) (octet_and_rest_text a.0.1 b.0 b.1)
    (octet_and_rest_text b.0.1 c.0 c.1) (octet_text c.0.1 d.0 d.1)
    ∙ ap printed_address d.2
