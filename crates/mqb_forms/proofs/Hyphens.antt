-- A text of 36 characters has one form of a GUID.
use Rattle.std.proofs.Common.{◌≡◌, ℕ, List, length, None, Err, refl, ap, sym, ◌∙◌}
use Rattle.uuid.specs.Text.{parsed, parsed_hyphenated}
use Rattle.mqb_forms.specs.declared.faults.LineKind.TheVariants.{Value}
use Rattle.mqb_forms.specs.Values.{guid_from, guid_of}

hyphenated_parsed : (word : List ℕ) → length word ≡ 36 → parsed word ≡ parsed_hyphenated word
hyphenated_parsed word long = rw long refl

pub no_guid : (word : List ℕ) → length word ≡ 36 → parsed word ≡ None → guid_of word ≡ Err Value
unfolding guid_of
no_guid word long none = ap guid_from (sym (hyphenated_parsed word long) ∙ none)
