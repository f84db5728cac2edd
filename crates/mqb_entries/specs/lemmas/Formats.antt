-- A reader and a spelling that belong together: what is spelled is read, and what
-- was read is spelled so.
use Rattle.std.proofs.Common.{◌≡◌, ℕ, zero, suc, ◌+◌, ◌-◌, ◌<◌, ◌≤◌, Bool, true, false, cond, ltb}
use Rattle.std.proofs.Common.{List, [], ◌∷◌, ◌++◌, length, take, drop, get_or, Result, Ok, Err}
use Rattle.std.proofs.Common.{refl, sym, ap, subst, ◌∙◌, append_assoc, arith}
use Rattle.std.proofs.Common.{length-append, length-drop}
use Rattle.std.specs.List.{flat_map, AllByRecursion}
use Rattle.std.proofs.lemmas.Bool.{ltb-false, le-ltb}
use Rattle.std.proofs.lemmas.List.{take_at, drop_at, take-append-drop, drop-drop, length-take}
use Rattle.mqb_fields.specs.declared.faults.Short.{Short}
use Rattle.mqb_fields.specs.Reading.{◌>>=◌, Reading, rest_of, moved, part_at}
use Rattle.mqb_entries.specs.declared.faults.EntryFault.{EntryFault}
use Rattle.mqb_entries.specs.Fields.{field, outside}
use Rattle.mqb_entries.specs.Lists.{many}
use Rattle.mqb_entries.specs.Formats.{IsBytes, Took, IsFormat, seen, behind}

pub are_bytes : (bytes : List ℕ) → ((i : ℕ) → get_or bytes i 0 < 256) → IsBytes bytes
are_bytes [] each = tt
are_bytes (b ∷ bytes) each = (each 0, are_bytes bytes (λ i. each (suc i)))

bytes_front : (front rest : List ℕ) → IsBytes (front ++ rest) → IsBytes front
bytes_front [] rest all = tt
bytes_front (b ∷ front) rest all = (all.0, bytes_front front rest all.1)

bytes_behind : (front rest : List ℕ) → IsBytes (front ++ rest) → IsBytes rest
bytes_behind [] rest all = all
bytes_behind (b ∷ front) rest all = bytes_behind front rest all.1

pub bytes_rest : (n : ℕ) (bytes : List ℕ) → IsBytes bytes → IsBytes (drop n bytes)
bytes_rest n bytes all =
    bytes_behind (take n bytes) (drop n bytes) (subst IsBytes (sym (take-append-drop n bytes)) all)

-- steps of reading
pub bind_gives : {A B E : Type 0} (read : Result A E) (next : A → Result B E) (y : B)
    → (read >>= next) ≡ Ok y → (x : A) × (read ≡ Ok x) × (next x ≡ Ok y)
bind_gives (Ok x) next y e = (x, refl, e)
bind_gives (Err fault) next y e = absurd cc

abbrev read_as : {A : Type 0} → (E : Type 0) → A → Result A E
read_as E x = Ok x

pub ok_same : {A : Type 0} (E : Type 0) (x y : A) → read_as E x ≡ read_as E y → x ≡ y
ok_same E x y e = cc

pub bind_assoc : {A B C E : Type 0} (read : Result A E) (f : A → Result B E) (g : B → Result C E)
    → ((read >>= f) >>= g) ≡ (read >>= λ x. f x >>= g)
bind_assoc (Ok x) f g = refl
bind_assoc (Err fault) f g = refl

pub bind_same : {A B E : Type 0} (read : Result A E) (f g : A → Result B E) → ((x : A) → f x ≡ g x)
    → (read >>= f) ≡ (read >>= g)
bind_same (Ok x) f g same = same x
bind_same (Err fault) f g same = refl

test_gives : {A E : Type 0} (b : Bool) (x y : A) (fault : E) → cond b (Ok x) (Err fault) ≡ Ok y
    → (b ≡ true) × (x ≡ y)
test_gives true x y fault e = (refl, cc)
test_gives false x y fault e = absurd cc

room_gives : {A E : Type 0} (b : Bool) (x y : A) (fault : E) → cond b (Err fault) (Ok x) ≡ Ok y
    → (b ≡ false) × (x ≡ y)
room_gives true x y fault e = absurd cc
room_gives false x y fault e = (refl, cc)

-- places
pub further : (first second : ℕ) (r : Reading)
    → moved second (moved first r) ≡ moved (first + second) r
further first second r = ap (λ (at : ℕ). record r { at = at }) (omega arith)

pub both_moved : (first second : List ℕ) (r : Reading)
    → moved (length second) (moved (length first) r) ≡ moved (length (first ++ second)) r
both_moved first second r = further (length first) (length second) r
    ∙ ap (λ (n : ℕ). moved n r) (sym (length-append first second))

pub rest_again : (r : Reading) (text rest : List ℕ) → rest_of r ≡ text ++ rest
    → rest_of (moved (length text) r) ≡ rest
rest_again r text rest e = sym (drop-drop (length text) r.at r.bytes) ∙ ap (drop (length text)) e
    ∙ drop_at text rest (length text) refl

split : (n : ℕ) (r : Reading) → rest_of r ≡ take n (rest_of r) ++ rest_of (moved n r)
split n r = sym (ap (λ (t : List ℕ). take n (rest_of r) ++ t) (sym (drop-drop n r.at r.bytes))
    ∙ take-append-drop n (rest_of r))

pub bytes_stay : (n : ℕ) (r after : Reading) → after ≡ moved n r → IsBytes (rest_of r)
    → IsBytes (rest_of after)
bytes_stay n r after e all =
    subst (λ (x : Reading). IsBytes (rest_of x)) (sym e)
    (subst IsBytes (drop-drop n r.at r.bytes) (bytes_rest n (rest_of r) all))

pub text_bytes : (r after : Reading) (text : List ℕ) → rest_of r ≡ text ++ rest_of after
    → IsBytes (rest_of r) → IsBytes text
text_bytes r after text e all = bytes_front text (rest_of after) (subst IsBytes e all)

-- so many bytes
part_again : (count : ℕ) (r : Reading) (x rest : List ℕ) → length x ≡ count → rest_of r ≡ x ++ rest
    → part_at count r ≡ Ok (x, moved (length x) r)
part_again count r x rest len e =
    let enough : ltb (length r.bytes - r.at) count ≡ false = le-ltb _ _
    (omega (arith, length-drop r.at r.bytes, ap length e, length-append x rest, len)) in
    let part : take count (rest_of r) ≡ x = ap (take count) e ∙ take_at x rest count len in
    rw (enough, part, len) refl

part_took : (count : ℕ) (r : Reading) (x : List ℕ × Reading) → IsBytes (rest_of r)
    → part_at count r ≡ Ok x → Took (λ t. t) (λ t. length t ≡ count) r x
part_took count r x all e =
    let fault : Short = record { at = r.at } in
    let given = room_gives (ltb (length r.bytes - r.at) count)
    (take count (rest_of r), moved count r) x fault e in
    let enough : count ≤ length r.bytes - r.at = ltb-false _ _ given.0 in
    let len : length (take count (rest_of r)) ≡ count =
    omega (arith, length-take count (rest_of r), length-drop r.at r.bytes) in
    subst (λ (y : List ℕ × Reading). Took (λ t. t) (λ t. length t ≡ count) r y) given.1
    (record { text = split count r; place = ap (λ (n : ℕ). moved n r) (sym len); fits = len })

pub part_format : (count : ℕ) → IsFormat (part_at count) (λ t. t) (λ t. length t ≡ count)
part_format count = record { again = part_again count; took = part_took count }

-- a field of an entry
field_again : {X : Type 0} (r : Reading) (read : Result X Short) (x : X) → read ≡ Ok x
    → field r read ≡ Ok x
field_again r read x e = rw e refl

pub field_gives : {X : Type 0} (r : Reading) (read : Result X Short) (x : X) → field r read ≡ Ok x
    → read ≡ Ok x
field_gives {X = X} r (Ok y) x e = ap (λ (z : X). Ok z) (ok_same EntryFault y x e)
field_gives r (Err short) x e = absurd cc

pub field_format : {X : Type 0} {read : Reading → Result (X × Reading) Short} {spell : X → List ℕ}
    {Fits : X → Type 0}
    → IsFormat read spell Fits → IsFormat (λ r. field r (read r)) spell Fits
field_format {read = read} f = record {
  again = λ r x rest fits e. field_again r (read r) _ (f.again r x rest fits e);
  took = λ r x all e. f.took r x all (field_gives r (read r) x e);
}

-- the same, seen otherwise
pub map_again : {A B E : Type 0} (read : Result (A × Reading) E) (to : A → B) (a : A) (b : B)
    (after : Reading) → read ≡ Ok (a, after) → to a ≡ b
    → (read >>= seen E to) ≡ Ok (b, after)
map_again read to a b after e same = rw (e, same) refl

pub map_format : {A B E : Type 0} {read : Reading → Result (A × Reading) E} {spell : A → List ℕ}
    {Fits : A → Type 0}
    → IsFormat read spell Fits → (to : A → B) (from : B → A) (Suits : B → Type 0)
    → ((b : B) → Suits b → Fits (from b) × (to (from b) ≡ b))
    → ((a : A) → IsBytes (spell a) → Fits a → Suits (to a) × (from (to a) ≡ a))
    → IsFormat (λ r. read r >>= seen E to) (λ b. spell (from b)) Suits
map_format {B = B} {E = E} {read = read} {spell = spell} f to from Suits there back = record {
  again = λ r b rest suits e. let is = there b suits in
      map_again (read r) to (from b) b _ (f.again r (from b) rest is.0 e) is.1;
  took = λ r y all e.
      let step = bind_gives (read r) (seen E to) y e in
      let t = f.took r step.0 all step.1 in
      let is = back step.0.0 (text_bytes r step.0.1 (spell step.0.0) t.text all) t.fits in
      let made : B × Reading = (to step.0.0, step.0.1) in
      subst (λ (z : B × Reading). Took (λ b. spell (from b)) Suits r z) (ok_same E made y step.2)
      (record {
        text = rw is.1 t.text;
        place = rw is.1 t.place;
        fits = is.0;
      });
}

-- one behind the other
pub pair_format : {A B E : Type 0} {first : Reading → Result (A × Reading) E}
    {second : Reading → Result (B × Reading) E} {spell : A → List ℕ} {tell : B → List ℕ}
    {Fits : A → Type 0} {Suits : B → Type 0}
    → IsFormat first spell Fits → IsFormat second tell Suits
    → IsFormat (λ r. first r >>= λ x. second x.1 >>= behind E x.0) (λ p. spell p.0 ++ tell p.1)
    (λ p. Fits p.0 × Suits p.1)
pair_format {A = A} {B = B} {E = E} {first = first} {second = second} {spell = spell} {tell = tell}
    {Fits = Fits} {Suits = Suits} f g = record {
      again = λ r p rest fits e.
          let text = e ∙ append_assoc (spell p.0) (tell p.1) rest in
          let one = f.again r p.0 (tell p.1 ++ rest) fits.0 text in
          let two = g.again (moved (length (spell p.0)) r) p.1 rest fits.1
          (rest_again r (spell p.0) (tell p.1 ++ rest) text) in
          rw (one, two, both_moved (spell p.0) (tell p.1) r) refl;
      took = λ r y all e.
          let one = bind_gives (first r) (λ x. second x.1 >>= behind E x.0) y e in
          let x = one.0 in
          let two = bind_gives (second x.1) (behind E x.0) y one.2 in
          let z = two.0 in
          let t = f.took r x all one.1 in
          let u = g.took x.1 z (bytes_stay _ r x.1 t.place all) two.1 in
          let made : (A × B) × Reading = ((x.0, z.0), z.1) in
          subst (λ (w : (A × B) × Reading). Took (λ p. spell p.0 ++ tell p.1)
          (λ p. Fits p.0 × Suits p.1) r w) (ok_same E made y two.2) (record {
            text = t.text ∙ ap (λ (s : List ℕ). spell x.0 ++ s) u.text
                ∙ sym (append_assoc (spell x.0) (tell z.0) (rest_of z.1));
            place =
                u.place ∙ ap (moved (length (tell z.0))) t.place
                ∙ both_moved (spell x.0) (tell z.0) r;
            fits = (t.fits, u.fits);
          });
    }

-- those that pass a test
pub test_format : {A : Type 0} {read : Reading → Result (A × Reading) EntryFault}
    {spell : A → List ℕ} {Fits : A → Type 0} (test : A → Bool)
    → IsFormat read spell Fits
    → IsFormat (λ r. read r >>= λ x. cond (test x.0) (Ok x) (outside r)) spell
    (λ a. Fits a × (test a ≡ true))
test_format {A = A} {read = read} {spell = spell} {Fits = Fits} test f = record {
  again = λ r a rest fits e. rw (f.again r a rest fits.0 e, fits.1) refl;
  took = λ r y all e.
      let step = bind_gives (read r) (λ x. cond (test x.0) (Ok x) (outside r)) y e in
      let fault : EntryFault = record { at = r.at } in
      let given = test_gives (test step.0.0) step.0 y fault step.2 in
      let t = f.took r step.0 all step.1 in
      subst (λ (z : A × Reading). Took spell (λ a. Fits a × (test a ≡ true)) r z) given.1
      (record { text = t.text; place = t.place; fits = (t.fits, given.0) });
}

-- another reader that reads the same, and another text that is the same
pub read_same : {X E : Type 0} {read other : Reading → Result (X × Reading) E} {spell : X → List ℕ}
    {Fits : X → Type 0}
    → IsFormat read spell Fits → ((r : Reading) → read r ≡ other r) → IsFormat other spell Fits
read_same f same = record {
  again = λ r x rest fits e. sym (same r) ∙ f.again r x rest fits e;
  took = λ r x all e. f.took r x all (same r ∙ e);
}

-- so many of one form
abbrev consed : {X : Type 0} → X → List X × Reading → Result (List X × Reading) EntryFault
consed x xs = Ok (x ∷ xs.0, xs.1)

many_again : {X : Type 0} {member : Reading → Result (X × Reading) EntryFault} {spell : X → List ℕ}
    {Fits : X → Type 0}
    → IsFormat member spell Fits → (xs : List X) (r : Reading) (rest : List ℕ)
    → AllByRecursion Fits xs → rest_of r ≡ flat_map spell xs ++ rest
    → many member (length xs) r ≡ Ok (xs, moved (length (flat_map spell xs)) r)
many_again f [] r rest fits e = ap (λ (at : ℕ). Ok ([], record r { at = at })) (omega arith)
many_again {member = member} {spell = spell} f (x ∷ xs) r rest fits e =
    let others = flat_map spell xs in
    let text = e ∙ append_assoc (spell x) others rest in
    let one = f.again r x (others ++ rest) fits.0 text in
    let two = many_again f xs (moved (length (spell x)) r) rest fits.1
    (rest_again r (spell x) (others ++ rest) text) in
    rw (one, two, both_moved (spell x) others r) refl

many_took : {X : Type 0} {member : Reading → Result (X × Reading) EntryFault} {spell : X → List ℕ}
    {Fits : X → Type 0}
    → IsFormat member spell Fits → (n : ℕ) (r : Reading) (y : List X × Reading)
    → IsBytes (rest_of r) → many member n r ≡ Ok y
    → Took (flat_map spell) (λ xs. (length xs ≡ n) × AllByRecursion Fits xs) r y
many_took {X = X} {spell = spell} {Fits = Fits} f zero r y all e =
    let none : List X × Reading = ([], r) in
    subst (λ (z : List X × Reading).
    Took (flat_map spell) (λ xs. (length xs ≡ 0) × AllByRecursion Fits xs) r z)
    (ok_same EntryFault none y e) (record {
      text = refl;
      place = ap (λ (at : ℕ). record r { at = at }) (omega arith);
      fits = (refl, tt);
    })
many_took {X = X} {member = member} {spell = spell} {Fits = Fits} f (suc n) r y all e =
    let one = bind_gives (member r) (λ x. many member n x.1 >>= consed x.0) y e in
    let x = one.0 in
    let two = bind_gives (many member n x.1) (consed x.0) y one.2 in
    let xs = two.0 in
    let t = f.took r x all one.1 in
    let u = many_took f n x.1 xs (bytes_stay _ r x.1 t.place all) two.1 in
    let made : List X × Reading = (x.0 ∷ xs.0, xs.1) in
    subst (λ (z : List X × Reading).
    Took (flat_map spell) (λ xs. (length xs ≡ suc n) × AllByRecursion Fits xs) r z)
    (ok_same EntryFault made y two.2) (record {
      text = t.text ∙ ap (λ (s : List ℕ). spell x.0 ++ s) u.text
          ∙ sym (append_assoc (spell x.0) (flat_map spell xs.0) (rest_of xs.1));
      place = u.place ∙ ap (moved (length (flat_map spell xs.0))) t.place
          ∙ both_moved (spell x.0) (flat_map spell xs.0) r;
      fits = (ap suc u.fits.0, (t.fits, u.fits.1));
    })

pub many_format : {X : Type 0} {member : Reading → Result (X × Reading) EntryFault}
    {spell : X → List ℕ} {Fits : X → Type 0}
    → IsFormat member spell Fits → (n : ℕ)
    → IsFormat (many member n) (flat_map spell) (λ xs. (length xs ≡ n) × AllByRecursion Fits xs)
many_format {member = member} {spell = spell} f n = record {
  again = λ r xs rest fits e. ap (λ (count : ℕ). many member count r) (sym fits.0)
      ∙ many_again f xs r rest fits.1 e;
  took = many_took f n;
}
