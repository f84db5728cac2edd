-- What the buffer of an image holds after a call.
use Rattle.std.proofs.Common.{◌≡◌, ℕ, ◌+◌, ◌-◌, ◌≤◌, max, List, ◌++◌, length, take, drop, min, replicate, sym, ◌∙◌, ap, arith, length-append, length-drop}
use Rattle.std.proofs.lemmas.List.{append-nil, drop_all, drop_min, length-take-le, take_all, take_at, take_min, take-take, take-append-drop}
use Rattle.std.proofs.lemmas.Slice.{between_is}
use Rattle.std.proofs.Math.Seq.{take-append-add}

-- a part of the front of a list
pub drop_take_any : (n len : ℕ) (l : List ℕ) → drop n (take len l) ≡ take (len - n) (drop n l)
drop_take_any n len l = sym (between_is l n len)

-- bytes that were written over a buffer stand in its contents
pub written_front : (at len : ℕ) (bytes buffer : List ℕ) → at ≤ len → len ≤ length buffer → take (max len (at + length bytes)) (take at buffer ++ bytes ++ drop (at + length bytes) buffer) ≡ take at (take len buffer) ++ bytes ++ drop (at + length bytes) (take len buffer)
written_front at len bytes buffer place within =
    let front : List ℕ = take at buffer ++ bytes in
    let size : length front ≡ at + length bytes = omega (arith, length-append (take at buffer) bytes, length-take-le at buffer (omega arith)) in
    let rest : ℕ = len - (at + length bytes) in
    let end : max len (at + length bytes) ≡ length front + rest = omega (arith, size) in
    ap (λ (n : ℕ). take n (front ++ drop (at + length bytes) buffer)) end
    ∙ take-append-add front (drop (at + length bytes) buffer) rest
    ∙ ap (λ (l : List ℕ). front ++ l) (sym (drop_take_any (at + length bytes) len buffer))
    ∙ ap (λ (l : List ℕ). l ++ bytes ++ drop (at + length bytes) (take len buffer)) (sym (take-take at len buffer place))

-- the same where the length of the bytes has another name
pub filled_front : (at len n : ℕ) (bytes buffer : List ℕ) → length bytes ≡ n → at ≤ len → len ≤ length buffer → take (max len (at + n)) (take at buffer ++ bytes ++ drop (at + n) buffer) ≡ take at (take len buffer) ++ bytes ++ drop (at + length bytes) (take len buffer)
filled_front at len n bytes buffer size place within =
    ap (λ (k : ℕ). take (max len (at + k)) (take at buffer ++ bytes ++ drop (at + k) buffer)) (sym size) ∙ written_front at len bytes buffer place within

-- as much of a range as a buffer has
pub range_there : (at n : ℕ) (buffer : List ℕ) → take (min n (length (drop (min at (length buffer)) buffer))) (drop (min at (length buffer)) buffer) ≡ take n (drop at buffer)
range_there at n buffer = take_min n (drop (min at (length buffer)) buffer) ∙ ap (λ (l : List ℕ). take n l) (drop_min at buffer)

-- a range of what stands in a buffer
pub standing_range : (at n len : ℕ) (buffer : List ℕ) → take n (drop at (take len buffer ++ drop len buffer)) ≡ take n (drop at buffer)
standing_range at n len buffer = ap (λ (l : List ℕ). take n (drop at l)) (take-append-drop len buffer)

-- a buffer that takes the rest of another, which it is like up to there
pub followed : (from : ℕ) (buffer other : List ℕ) → from ≤ length other → length other ≤ length buffer → take from buffer ≡ take from other → take (length other) (take from buffer ++ drop from other ++ drop (from + length (drop from other)) buffer) ≡ other
followed from buffer other place fits alike =
    let front : List ℕ = take from buffer ++ drop from other in
    let size : length front ≡ length other = omega (arith, length-append (take from buffer) (drop from other), length-take-le from buffer (omega arith), length-drop from other) in
    take_at front (drop (from + length (drop from other)) buffer) (length other) size
    ∙ ap (λ (l : List ℕ). l ++ drop from other) alike ∙ take-append-drop from other

pub alike_fronts : (from len : ℕ) (buffer other : List ℕ) → from ≤ len → take from (take len buffer) ≡ take from other → take from buffer ≡ take from other
alike_fronts from len buffer other place alike = sym (take-take from len buffer place) ∙ alike

-- bytes that are put at a place of a buffer and reach its end or past it
pub put_past : (at : ℕ) (bytes buffer : List ℕ) → length buffer ≤ at + length bytes → take at buffer ++ bytes ≡ take at buffer ++ bytes ++ drop (at + length bytes) buffer
put_past at bytes buffer past =
    sym (append-nil (take at buffer ++ bytes)) ∙ ap (λ (l : List ℕ). take at buffer ++ bytes ++ l) (sym (drop_all (at + length bytes) buffer past))

-- the same where a front of the buffer is filled up with one byte
pub filled_past : (at n len byte : ℕ) (front buffer : List ℕ) → front ≡ take at buffer → len ≡ at → at ≤ length buffer → length buffer ≤ at + n → take (at + n) front ++ replicate (at + n - len) byte ≡ take at buffer ++ replicate n byte ++ drop (at + n) buffer
filled_past at n len byte front buffer is size place past =
    let short : length front ≤ at + n = omega (arith, ap length is, length-take-le at buffer place) in
    let count : at + n - len ≡ n = omega (arith, size) in
    ap (λ (l : List ℕ). l ++ replicate (at + n - len) byte) (take_all (at + n) front short ∙ is)
    ∙ ap (λ (k : ℕ). take at buffer ++ replicate k byte) count
    ∙ sym (append-nil (take at buffer ++ replicate n byte))
    ∙ ap (λ (l : List ℕ). take at buffer ++ replicate n byte ++ l) (sym (drop_all (at + n) buffer past))
