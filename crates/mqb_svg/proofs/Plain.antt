-- Escaped texts.
use Rattle.std.proofs.Common.{◌≡◌, ℕ, Bool, true, false, ◌==◌, ◌&&◌, List, [], ◌∷◌, refl, ◌∙◌, codes}
use Rattle.std.specs.Prelude.{if◌then◌else◌, nat_le}
use Rattle.std.specs.List.{list_all, flat_map}
use Rattle.std.proofs.lemmas.List.Folds.{list_all-append}
use Rattle.mqb_svg.specs.Svg.{escaped_byte, escaped}
use Rattle.mqb_svg.specs.Laws.{is_plain}

both : (a b : Bool) → a ≡ true → b ≡ true → (a && b) ≡ true
both a b p q = rw (p, q) refl

-- a byte by the tests that it passes and fails
tested : (b : ℕ) (amp less more quote tick printable : Bool) → (b == 60) ≡ less → (b == 62) ≡ more → (b == 34) ≡ quote → (b == 39) ≡ tick
    → (nat_le 32 b && nat_le b 126) ≡ printable
    → list_all is_plain (if amp then codes "&amp;" else if less then codes "&lt;" else if more then codes "&gt;" else if quote then codes "&quot;"
    else if tick then codes "&#39;" else if printable then b ∷ [] else codes "?") ≡ true
tested b true less more quote tick printable l m q t p = refl
tested b false true more quote tick printable l m q t p = refl
tested b false false true quote tick printable l m q t p = refl
tested b false false false true tick printable l m q t p = refl
tested b false false false false true printable l m q t p = refl
tested b false false false false false false l m q t p = refl
tested b false false false false false true l m q t p = rw (p, l, m, q, t) refl

byte_plain : (b : ℕ) → list_all is_plain (escaped_byte b) ≡ true
byte_plain b = tested b (b == 38) (b == 60) (b == 62) (b == 34) (b == 39) (nat_le 32 b && nat_le b 126) refl refl refl refl refl

flat_plain : (text : List ℕ) → list_all is_plain (flat_map escaped_byte text) ≡ true
flat_plain [] = refl
flat_plain (b ∷ text) =
    list_all-append is_plain (escaped_byte b) (flat_map escaped_byte text) ∙ both _ _ (byte_plain b) (flat_plain text)

pub escaped_plain : (text : List ℕ) → list_all is_plain (escaped text) ≡ true
unfolding escaped
escaped_plain text = flat_plain text
