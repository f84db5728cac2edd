-- How long what was read is, and what lists are spelled as.
use Rattle.std.proofs.Common.{◌≡◌, ◌≤◌, ◌-◌, ℕ, true, false, Bool, cond, ltb, List, length, take, Ok, Err, subst, arith}
use Rattle.std.proofs.lemmas.List.{length-take}
use Rattle.mqb_fields.specs.declared.faults.Short.{Short}
use Rattle.mqb_fields.specs.Reading.{Reading, rest_of, moved, part_at}

given : {A E : Type 0} (b : Bool) (x y : A) (fault : E) → cond b (Err fault) (Ok x) ≡ Ok y → x ≡ y
given true x y fault e = absurd cc
given false x y fault e = cc

pub taken_len : (count : ℕ) (r after : Reading) (part : List ℕ) → part_at count r ≡ Ok (part, after) → length part ≤ count
taken_len count r after part e =
    let fault : Short = record { at = r.at } in
    let mine : List ℕ × Reading = (take count (rest_of r), moved count r) in
    let theirs : List ℕ × Reading = (part, after) in
    let same : mine ≡ theirs = given (ltb (length r.bytes - r.at) count) mine theirs fault e in
    subst (λ (x : List ℕ × Reading). length x.0 ≤ count) same (omega (arith, length-take count (rest_of r)))
