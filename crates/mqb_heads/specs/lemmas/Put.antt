-- What is written part by part is written as one.
use Rattle.std.proofs.Common.{◌≡◌, ℕ, ◌+◌, ◌*◌, ◌<◌, ◌≤◌, List, [], ◌∷◌, ◌++◌, length, get_or, take}
use Rattle.std.proofs.Common.{drop, replicate, refl, sym, ap, subst, ◌∙◌, arith}
use Rattle.std.proofs.Common.{length-append, length-drop}
use Rattle.std.proofs.lemmas.List.{length-take-le, length-replicate, take_more, flat_map_more}
use Rattle.mqb_base.specs.declared.message.Message.{Message}
use Rattle.mqb_base.specs.declared.ids.Guid.{Guid}
use Rattle.mqb_fields.specs.Writing.{put_at, bytes_of}
use Rattle.mqb_heads.specs.Fields.{padding, padded}
use Rattle.mqb_heads.specs.Properties.{label_bytes, props_fields, props_parts}
use Rattle.mqb_heads.specs.Properties.{plain_props, props_size}
use Rattle.mqb_heads.specs.User.{user_fields, user_names, plain_user, user_size}

-- padding behind what was written
pub padding_is : (bytes : List ℕ) (count end : ℕ) → count ≡ padding end → end ≡ 0 + length bytes
    → replicate {A = ℕ} count 0 ≡ replicate (padding (length bytes)) 0
padding_is bytes count end is at =
    ap (λ (n : ℕ). replicate {A = ℕ} n 0) (is ∙ ap padding (at ∙ omega arith))

pub length_label : (units : List ℕ) → length (label_bytes units) ≡ 2 * length units
length_label [] = refl
length_label (u ∷ units) = omega (arith, length_label units)

pub length_padded : (bytes : List ℕ) → length (padded bytes) ≡ length bytes + padding (length bytes)
length_padded bytes = omega (
  arith,
  length-append bytes (replicate (padding (length bytes)) 0),
  length-replicate {A = ℕ} (padding (length bytes)) 0,
)

pub length_user : (m : Message) (target : Guid)
    → length (user_fields m target ++ user_names m) ≡ 48 + length (user_names m)
length_user m target = omega (arith, length-append (user_fields m target) (user_names m))

pub user_sizes : (m : Message) (target : Guid) → length (plain_user m target) ≡ user_size m
user_sizes m target =
    length_padded (user_fields m target ++ user_names m)
    ∙ ap (λ (n : ℕ). n + padding n) (length_user m target)

pub length_parts : (m : Message)
    → length (props_parts m) ≡ 2 * length m.label + length m.extension + length m.body
length_parts m = omega (
  arith,
  length-append (label_bytes m.label ++ m.extension) m.body,
  length-append (label_bytes m.label) m.extension,
  length_label m.label,
)

pub length_props : (m : Message) → length (props_fields m ++ props_parts m)
    ≡ 56 + 2 * length m.label + length m.extension + length m.body
length_props m = omega (arith, length-append (props_fields m) (props_parts m), length_parts m)

pub props_sizes : (m : Message) → length (plain_props m) ≡ props_size m
props_sizes m =
    length_padded (props_fields m ++ props_parts m) ∙ ap (λ (n : ℕ). n + padding n) (length_props m)

pub label_more : (units : List ℕ) (i : ℕ) → i < length units
    → label_bytes (take i units) ++ bytes_of 2 (get_or units i 0) ≡ label_bytes (take (i + 1) units)
label_more units i within = flat_map_more (bytes_of 2) [] (take i units) (get_or units i 0)
    ∙ ap label_bytes (sym (take_more units i 0 within))

pub label_room : (units : List ℕ) (i : ℕ) → i < length units
    → length (label_bytes (take i units)) + 2 ≤ length (label_bytes units)
label_room units i within = omega
    (arith, length_label units, length_label (take i units), length-take-le i units (omega arith))
