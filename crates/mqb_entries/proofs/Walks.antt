-- Members that are counted and put one after the other, as loops do.
use Rattle.std.proofs.Common.{◌≡◌, ◌≤◌, ◌<◌, ◌+◌, ◌*◌, ◌^◌, ℕ, suc, List, [], ◌∷◌, ◌++◌, length, drop, get_or, refl, sym, ap, subst, ◌∙◌, arith, append_assoc, length-append, drop-cons}
use Rattle.std.specs.List.{flat_map, AllByRecursion}
use Rattle.std.proofs.lemmas.List.{append-nil, drop_all}

pub front_of : {A : Type 0} (xs : List A) (i : ℕ) (x : A) → i < length xs → x ≡ get_or xs i x → drop i xs ≡ x ∷ drop (i + 1) xs
front_of {A} xs i x within is =
    let next : suc i ≡ i + 1 = omega arith in
    drop-cons xs i x within ∙ ap (λ (y : A). y ∷ drop (suc i) xs) (sym is) ∙ ap (λ (n : ℕ). x ∷ drop n xs) next

-- the bytes of the members that are left
abbrev pub left : {M : Type 0} → (M → List ℕ) → List M → ℕ → List ℕ
left spell members i = flat_map spell (drop i members)

left_of : {M : Type 0} (spell : M → List ℕ) (members : List M) (i : ℕ) (x : M) → i < length members → x ≡ get_or members i x
    → left spell members i ≡ spell x ++ left spell members (i + 1)
left_of spell members i x within is = ap (flat_map spell) (front_of members i x within is)

nothing_left : {M : Type 0} (spell : M → List ℕ) (members : List M) (i : ℕ) → length members ≤ i → left spell members i ≡ []
nothing_left spell members i past = ap (flat_map spell) (drop_all i members past)

pub record LenSoFar {M : Type 0} (spell : M → List ℕ) (members : List M) (i len : ℕ) : Type 0 where
  pub within : i ≤ length members
  pub all : len + length (left spell members i) ≡ length (flat_map spell members)
  pub bound : len ≤ i * 2 ^ 33

pub len_more : {M : Type 0} (spell : M → List ℕ) (members : List M) (i len : ℕ) (x : M) (count : ℕ)
    → LenSoFar spell members i len → i < length members → x ≡ get_or members i x → count ≡ length (spell x) → count < 2 ^ 33
    → LenSoFar spell members (i + 1) (len + count)
len_more spell members i len x count s within is counted bound =
    let both = ap (λ (t : List ℕ). length t) (left_of spell members i x within is) ∙ length-append (spell x) (left spell members (i + 1)) in
    record {
      within = omega (arith, within);
      all = omega (arith, s.all, both, counted);
      bound = omega (arith, s.bound, bound);
    }

pub len_done : {M : Type 0} (spell : M → List ℕ) (members : List M) (i len : ℕ) → LenSoFar spell members i len → length members ≤ i → len ≡ length (flat_map spell members)
len_done spell members i len s past = omega (arith, s.all, ap (λ (t : List ℕ). length t) (nothing_left spell members i past))

pub record PutSoFar {M : Type 0} (spell : M → List ℕ) (Fits : M → Type 0) (members : List M) (i : ℕ) (old new : List ℕ) (first now : ℕ) : Type 0 where
  pub within : i ≤ length members
  pub text : new ++ left spell members i ≡ old ++ flat_map spell members
  pub room : length (left spell members i) ≤ now
  pub used : first + length (left spell members i) ≤ length (flat_map spell members) + now
  pub fits : AllByRecursion Fits (drop i members) → AllByRecursion Fits members

pub put_begins : {M : Type 0} (spell : M → List ℕ) (Fits : M → Type 0) (members : List M) (old : List ℕ) (room : ℕ)
    → length (flat_map spell members) ≤ room → PutSoFar spell Fits members 0 old old room room
put_begins spell Fits members old room enough = record {
  within = omega arith;
  text = refl;
  room = enough;
  used = omega arith;
  fits = λ all. all;
}

pub put_room : {M : Type 0} (spell : M → List ℕ) (Fits : M → Type 0) (members : List M) (i : ℕ) (old new : List ℕ) (first now : ℕ) (x : M)
    → PutSoFar spell Fits members i old new first now → i < length members → x ≡ get_or members i x → length (spell x) ≤ now
put_room spell Fits members i old new first now x s within is =
    let both = ap (λ (t : List ℕ). length t) (left_of spell members i x within is) ∙ length-append (spell x) (left spell members (i + 1)) in
    omega (arith, s.room, both)

pub put_more : {M : Type 0} (spell : M → List ℕ) (Fits : M → Type 0) (members : List M) (i : ℕ) (old new : List ℕ) (first now : ℕ) (x : M) (newer : List ℕ) (later : ℕ)
    → PutSoFar spell Fits members i old new first now → i < length members → x ≡ get_or members i x
    → newer ≡ new ++ spell x → now ≤ length (spell x) + later → Fits x
    → PutSoFar spell Fits members (i + 1) old newer first later
put_more {M = M} spell Fits members i old new first now x newer later s within is added uses fit =
    let front = left_of spell members i x within is in
    let rest = left spell members (i + 1) in
    let both = ap (λ (t : List ℕ). length t) front ∙ length-append (spell x) rest in
    record {
      within = omega (arith, within);
      text = ap (λ (t : List ℕ). t ++ rest) added ∙ append_assoc new (spell x) rest ∙ ap (λ (t : List ℕ). new ++ t) (sym front) ∙ s.text;
      room = omega (arith, s.room, both, uses);
      used = omega (arith, s.used, both, uses);
      fits = λ all. s.fits (subst (AllByRecursion Fits) (sym (front_of members i x within is)) (fit, all));
    }

-- all of them were put
pub record PutAll {M : Type 0} (spell : M → List ℕ) (Fits : M → Type 0) (members : List M) (old new : List ℕ) (first now : ℕ) : Type 0 where
  pub items : new ≡ old ++ flat_map spell members
  pub room : first ≤ length (flat_map spell members) + now
  pub fits : AllByRecursion Fits members

pub put_done : {M : Type 0} (spell : M → List ℕ) (Fits : M → Type 0) (members : List M) (i : ℕ) (old new : List ℕ) (first now : ℕ)
    → PutSoFar spell Fits members i old new first now → length members ≤ i → PutAll spell Fits members old new first now
put_done spell Fits members i old new first now s past =
    let none = nothing_left spell members i past in
    record {
      items = sym (append-nil new) ∙ ap (λ (t : List ℕ). new ++ t) (sym none) ∙ s.text;
      room = omega (arith, s.used);
      fits = s.fits (subst (AllByRecursion Fits) (sym (drop_all i members past)) tt);
    }
