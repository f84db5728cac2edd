-- The bytes of a list are those of its members.
use Rattle.std.proofs.Common.{Bor, ◌≡◌, ◌≤◌, ◌<◌, ℕ, suc, ◌+◌, ◌-◌, List, [], ◌∷◌, length, take, Option, Some, Result, Ok, Err, refl, sym, ap, subst, ◌∙◌, arith, length-append}
use Rattle.std.specs.Prelude.{unwrap_or}
use Rattle.std.specs.List.{flat_map, AllByRecursion}
use Rattle.std.proofs.lemmas.List.{take_at, append-nil}
use Rattle.mqb_fields.specs.Reading.{◌>>=◌, Reading, rest_of, moved}
use Rattle.mqb_entries.specs.declared.faults.EntryFault.{EntryFault}
use Rattle.mqb_entries.specs.declared.lists.Form.{Form}
use Rattle.mqb_entries.specs.declared.lists.Form.TheVariants.{Spelled}
use Rattle.mqb_entries.specs.Forms.{listed, IsList}
use Rattle.mqb_entries.specs.Lists.{many, passed, start, members_of, AreSpelled}
use Rattle.mqb_entries.specs.Formats.{IsBytes, IsFormat}
use Rattle.mqb_entries.specs.lemmas.Formats.{bind_gives, ok_same, rest_again, many_format}

-- lists
abbrev ended : {X : Type 0} → List X × Reading → Result Reading EntryFault
ended xs = Ok xs.1

pub nothing_left : (r : Reading) (text : List ℕ) → rest_of r ≡ text → length (rest_of (moved (length text) r)) ≡ 0
nothing_left r text e = ap (λ (t : List ℕ). length t) (rest_again r text [] (e ∙ sym (append-nil text)))

-- what is spelled is what the bytes have as members
pub members_again : {X : Type 0} {member : Reading → Result (X × Reading) EntryFault} {spell : X → List ℕ} {Fits : X → Type 0}
    → IsFormat member spell Fits → (n : ℕ) (xs : List X) → length xs ≡ n → AllByRecursion Fits xs → members_of member n (flat_map spell xs) ≡ Some xs
unfolding members_of
members_again {spell = spell} f n xs len fits =
    let text = flat_map spell xs in
    let read = (many_format f n).again (start text) xs [] (len, fits) (sym (append-nil text)) in
    rw (read, nothing_left (start text) text refl) refl

-- the bytes of a list that was read
pub record IsCut {X : Type 0} (member : Reading → Result (X × Reading) EntryFault) (spell : X → List ℕ) (Fits : X → Type 0) (n : ℕ) (r after : Reading) : Type 0 where
  pub members : List X
  pub ahead : r.at ≤ after.at
  pub within : after.at - r.at ≤ length (rest_of r)
  pub read : many member n r ≡ Ok (members, after)
  pub cut : members_of member n (take (after.at - r.at) (rest_of r)) ≡ Some members
  pub spelled : AreSpelled spell Fits n (take (after.at - r.at) (rest_of r)) members

pub cut_at : {X : Type 0} {member : Reading → Result (X × Reading) EntryFault} {spell : X → List ℕ} {Fits : X → Type 0}
    → IsFormat member spell Fits → (n : ℕ) (r after : Reading) → IsBytes (rest_of r) → passed member n r ≡ Ok after → IsCut member spell Fits n r after
unfolding passed
cut_at {X = X} {member = member} {spell = spell} f n r after all e =
    let step = bind_gives (many member n r) ended after e in
    let found = step.0 in
    let xs = found.0 in
    let end : found.1 ≡ after = ok_same EntryFault found.1 after step.2 in
    let t = (many_format f n).took r found all step.1 in
    let text = flat_map spell xs in
    let place : after.at ≡ r.at + length text = sym (ap (λ (x : Reading). x.at) end) ∙ ap (λ (x : Reading). x.at) t.place in
    let used : after.at - r.at ≡ length text = omega (arith, place) in
    let front : take (after.at - r.at) (rest_of r) ≡ text = ap (λ (k : ℕ). take k (rest_of r)) used ∙ ap (take (length text)) t.text ∙ take_at text (rest_of found.1) (length text) refl in
    record {
      members = xs;
      ahead = omega (arith, place);
      within = omega (arith, used, ap (λ (x : List ℕ). length x) t.text, length-append text (rest_of found.1));
      read = step.1 ∙ ap (λ (x : Reading). Ok (xs, x)) end;
      cut = ap (members_of member n) front ∙ members_again f n xs t.fits.0 t.fits.1;
      spelled = record { text = front; count = t.fits.0; each = t.fits.1 };
    }

-- the list that a part of the bytes is
pub record IsListed {X : Type 0} (member : Reading → Result (X × Reading) EntryFault) (spell : X → List ℕ) (Fits : X → Type 0) (n : ℕ) (r after : Reading) (part : List ℕ) : Type 0 where
  pub spelled : AreSpelled spell Fits n part (unwrap_or (members_of member n part) [])
  pub read : many member n r ≡ Ok (unwrap_or (members_of member n part) [], after)

pub cut_as : {X : Type 0} {member : Reading → Result (X × Reading) EntryFault} {spell : X → List ℕ} {Fits : X → Type 0} (n : ℕ) (r after : Reading)
    → IsCut member spell Fits n r after → (k : ℕ) (bytes : List ℕ) → k ≡ after.at - r.at → bytes ≡ rest_of r → IsListed member spell Fits n r after (take k bytes)
cut_as {X = X} {member = member} {spell = spell} {Fits = Fits} n r after cut k bytes used is =
    let part : take k bytes ≡ take (after.at - r.at) (rest_of r) = ap (λ (j : ℕ). take j bytes) used ∙ ap (take (after.at - r.at)) is in
    let same : unwrap_or (members_of member n (take k bytes)) [] ≡ cut.members =
    ap (λ (t : List ℕ). unwrap_or (members_of member n t) []) part ∙ ap (λ (o : Option (List X)). unwrap_or o []) cut.cut in
    record {
      spelled = rw (same, part) cut.spelled;
      read = rw same cut.read;
    }

-- the members of bytes that spell members
pub members_are : {X : Type 0} {member : Reading → Result (X × Reading) EntryFault} {spell : X → List ℕ} {Fits : X → Type 0}
    → IsFormat member spell Fits → (n : ℕ) (bytes : List ℕ) (xs : List X) → AreSpelled spell Fits n bytes xs → members_of member n bytes ≡ Some xs
members_are {member = member} f n bytes xs s = ap (members_of member n) s.text ∙ members_again f n xs s.count s.each

-- where members fail, so does the passing of them
pub passing_fails : {X : Type 0} (member : Reading → Result (X × Reading) EntryFault) (n : ℕ) (r : Reading) (fault : EntryFault)
    → passed member n r ≡ Err fault → many member n r ≡ Err fault
unfolding passed
passing_fails {X = X} member n r fault e = ended_fails (many member n r) fault e
  where
    ended_fails : {X : Type 0} (read : Result (List X × Reading) EntryFault) (fault : EntryFault) → (read >>= ended) ≡ Err fault → read ≡ Err fault
    ended_fails (Ok xs) fault e = absurd cc
    ended_fails (Err other) fault e = cc

-- a list of one member more
pub record IsSplit {X : Type 0} (member : Reading → Result (X × Reading) EntryFault) (spell : X → List ℕ) (Fits : X → Type 0) (n : ℕ) (bytes : List ℕ) (xs : List X) : Type 0 where
  pub first : X
  pub others : List X
  pub after : Reading
  pub all : xs ≡ first ∷ others
  pub one : member (start bytes) ≡ Ok (first, after)
  pub rest : members_of member n (rest_of after) ≡ Some others
  pub spelled : AreSpelled spell Fits n (rest_of after) others

pub split_of : {X : Type 0} {member : Reading → Result (X × Reading) EntryFault} {spell : X → List ℕ} {Fits : X → Type 0}
    → IsFormat member spell Fits → (n : ℕ) (bytes : List ℕ) (xs : List X) → AreSpelled spell Fits (suc n) bytes xs → IsSplit member spell Fits n bytes xs
split_of f n bytes [] s = absurd (omega (arith, s.count))
split_of {member = member} {spell = spell} f n bytes (x ∷ xs) s =
    let r = start bytes in
    let others = flat_map spell xs in
    let after = moved (length (spell x)) r in
    record {
      first = x;
      others = xs;
      after = after;
      all = refl;
      one = f.again r x others s.each.0 s.text;
      rest = ap (members_of member n) (rest_again r (spell x) others s.text) ∙ members_again f n xs (omega (arith, s.count)) s.each.1;
      spelled = record { text = rest_again r (spell x) others s.text; count = omega (arith, s.count); each = s.each.1 };
    }

pub split_here : {X : Type 0} {member : Reading → Result (X × Reading) EntryFault} {spell : X → List ℕ} {Fits : X → Type 0}
    → IsFormat member spell Fits → (n : ℕ) (bytes : List ℕ) (xs : List X) → 0 < n → AreSpelled spell Fits n bytes xs → IsSplit member spell Fits (n - 1) bytes xs
split_here {spell = spell} {Fits = Fits} f n bytes xs some s =
    let more : n ≡ suc (n - 1) = omega arith in
    split_of f (n - 1) bytes xs (subst (λ (k : ℕ). AreSpelled spell Fits k bytes xs) more s)

-- the same where the members stand in a record
pub split_in : {X : Type 0} {member : Reading → Result (X × Reading) EntryFault} {spell : X → List ℕ} {Fits : X → Type 0}
    → IsFormat member spell Fits → (form : Form X) (bytes : Bor (List ℕ)) (n : ℕ) (xs : List X) → form ≡ Spelled bytes n → IsList member spell Fits form
    → listed member form ≡ xs → 0 < n → IsSplit member spell Fits (n - 1) bytes.now xs
split_in {member = member} {spell = spell} {Fits = Fits} f form bytes n xs is kept all some =
    let mine = subst (λ form. IsList member spell Fits form) is kept in
    let seen = ap (λ form. listed member form) (sym is) ∙ all in
    split_here f n bytes.now xs some (subst (λ members. AreSpelled spell Fits n bytes.now members) seen mine)

-- its first member and the list that follows
pub record IsHead {X : Type 0} (member : Reading → Result (X × Reading) EntryFault) (spell : X → List ℕ) (Fits : X → Type 0) (n : ℕ) (xs : List X) (first : X) (rest : List ℕ) : Type 0 where
  pub spelled : AreSpelled spell Fits n rest (unwrap_or (members_of member n rest) [])
  pub all : xs ≡ first ∷ unwrap_or (members_of member n rest) []

pub split_as : {X : Type 0} {member : Reading → Result (X × Reading) EntryFault} {spell : X → List ℕ} {Fits : X → Type 0} (n : ℕ) (bytes : List ℕ) (xs : List X)
    → IsSplit member spell Fits n bytes xs → (first : X) (after : Reading) (rest : List ℕ) → member (start bytes) ≡ Ok (first, after) → rest ≡ rest_of after
    → IsHead member spell Fits n xs first rest
split_as {X = X} {member = member} {spell = spell} {Fits = Fits} n bytes xs s first after rest read is =
    let mine : X × Reading = (s.first, s.after) in
    let theirs : X × Reading = (first, after) in
    let same : mine ≡ theirs = ok_same EntryFault mine theirs (sym s.one ∙ read) in
    let place : rest_of s.after ≡ rest = ap (λ (x : X × Reading). rest_of x.1) same ∙ sym is in
    let others : unwrap_or (members_of member n rest) [] ≡ s.others =
    ap (λ (t : List ℕ). unwrap_or (members_of member n t) []) (sym place) ∙ ap (λ (o : Option (List X)). unwrap_or o []) s.rest in
    record {
      spelled = rw (others, ← place) s.spelled;
      all = rw others (s.all ∙ ap (λ (x : X × Reading). x.0 ∷ s.others) same);
    }

pub read_apart : {X : Type 0} (read : Result (X × Reading) EntryFault) (x : X × Reading) (fault : EntryFault) → read ≡ Ok x → read ≡ Err fault → ⊥
read_apart read x fault good bad = cc
