-- A GUID's text by the reader of all forms, at 36 characters.
use Rattle.std.proofs.Common.{◌≡◌, ◌≤◌, ◌<◌, ℕ, List, length, take, Option, Some, None, true, false}
use Rattle.std.proofs.Common.{refl, sym, arith, length-take, true≢false}
use Rattle.std.proofs.lemmas.Bool.Decides.{nat_tests}
use Rattle.std.proofs.lemmas.List.{length-take-le}
use Rattle.uuid.specs.Text.{parsed, parsed_hyphenated}
use Rattle.mqb_names.specs.Parts.{guid_of}

at_36 : (text : List ℕ) → length text ≡ 36 → parsed text ≡ parsed_hyphenated text
at_36 text len = rw len refl

not_at_36 : (text : List ℕ) → length text < 36 → parsed_hyphenated text ≡ None
not_at_36 text short = grind (arith, nat_tests)

pub guid_short : (text : List ℕ) → length text < 36 → guid_of text ≡ None
unfolding guid_of
guid_short text short = not_at_36 (take 36 text) (omega (arith, length-take 36 text))

pub guid_parsed : (text : List ℕ) → 36 ≤ length text → guid_of text ≡ parsed (take 36 text)
unfolding guid_of
guid_parsed text long = sym (at_36 (take 36 text) (length-take-le 36 text long))

pub none_parsed : (o : Option (List ℕ)) → ((u : List ℕ) × (o ≡ Some u) → false ≡ true) → o ≡ None
none_parsed None refused = refl
none_parsed (Some u) refused = absurd (true≢false (sym (refused (u, refl))))
