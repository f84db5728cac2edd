-- How far the messages of each level have ended, as messages come and go.
use Rattle.std.proofs.Common.{◌≡◌, ℕ, zero, suc, ◌<◌, ◌≤◌, ◌+◌, ◌-◌, ◌^◌, Bool, true, false, cond, eqb, leb, ltb, ◌&&◌, List, [], ◌∷◌, ◌++◌, length, map, take, drop, get_or, set, refl, sym, ap, ◌∙◌, subst, arith}
use Rattle.std.specs.List.{All, insert, remove, position, slice_get}
use Rattle.std.specs.Prelude.{None, Option, Some, not, option_map}
use Rattle.std.proofs.lemmas.Bool.{true≢false, eqb-true, eq-eqb, leb-true, leb-false, le-leb, ltb-true, ltb-false, lt-ltb}
use Rattle.std.proofs.lemmas.List.{take-append-le, take-take, length-take-le, length-append, length-set, take_all, get_or-set_same, get_or-set_other, get_or-take}
use Rattle.std.proofs.lemmas.List.Edits.{length-remove}
use Rattle.std.proofs.lemmas.List.Elements.{All-nil, All-cons, All-head, All-tail, All-take, All-more, All-weaker}
use Rattle.std.proofs.lemmas.Option.{none-some, same_Some, slice_get-map, slice_get_within, slice_get-get_or, get_or_from_slice_get}
use Rattle.mqb_base.specs.declared.message.Message.{Message}
use Rattle.mqb_base.specs.declared.ids.MessageId.{MessageId}
use Rattle.mqb_base.specs.declared.queues.EntryPlace.{EntryPlace}
use Rattle.mqb_base.specs.declared.times.TheConstants.{UNLIMITED}
use Rattle.mqb_base.specs.Times.{is_due}
use Rattle.mqb_queue.specs.First.{first_index, is_free, is_queue, is_wanted}
use Rattle.mqb_queue.specs.Levels.{at_level, level, one_at}
use Rattle.mqb_queue.specs.Passes.{ArePassed, HasEnded, IsPassed, end_of, has_passed, shifted}
use Rattle.mqb_queue.specs.declared.passes.Pass.{Pass}
use Rattle.mqb_queue.proofs.Positions.{all_left, none_passes, passes_none}
use Rattle.mqb_queue.proofs.Tops.{none_is_first}

-- passes as messages come and go

pub passed_pushed : (k : ℕ) (p : Pass) (m : Message) (xs : List Message) → IsPassed k p xs → IsPassed k p (xs ++ m ∷ [])
passed_pushed k p m xs h = record {
  within = let len : length (xs ++ m ∷ []) ≡ length xs + 1 = length-append xs (m ∷ []) in omega (arith, len, h.within);
  ended = subst (λ (ms : List Message). All (HasEnded k p.bound) ms) (sym (take-append-le p.index xs (m ∷ []) h.within)) h.ended;
}

pub passes_pushed : (passes : List Pass) (m : Message) (xs : List Message) → ArePassed passes xs → ArePassed passes (xs ++ m ∷ [])
passes_pushed passes m xs h k p is = passed_pushed k p m xs (h k p is)

mapped : (f : Pass → Pass) (passes : List Pass) (k : ℕ) (q : Pass) → slice_get (map f passes) k ≡ Some q
    → (p : Pass) × (slice_get passes k ≡ Some p) × (f p ≡ q)
mapped f passes k q is = at (slice_get passes k) refl
  where
    at : (o : Option Pass) → slice_get passes k ≡ o → (p : Pass) × (slice_get passes k ≡ Some p) × (f p ≡ q)
    at None e = absurd (none-some q (sym (ap (option_map f) e) ∙ (sym (slice_get-map f passes k) ∙ is)))
    at (Some p) e = (p, e, same_Some (f p) q (sym (ap (option_map f) e) ∙ (sym (slice_get-map f passes k) ∙ is)))

take_remove : {X : Type 0} (at i : ℕ) (xs : List X) → at < i → take (i - 1) (remove xs at) ≡ remove (take i xs) at
take_remove at zero xs before = absurd (omega (arith, before))
take_remove zero (suc i) [] before = let e : suc i - 1 ≡ i = omega arith in ap (λ (j : ℕ). take j []) e ∙ nothing i
  where
    nothing : {X : Type 0} (j : ℕ) → take {A = X} j [] ≡ []
    nothing zero = refl
    nothing (suc j) = refl
take_remove zero (suc i) (x ∷ xs) before = let e : suc i - 1 ≡ i = omega arith in ap (λ (j : ℕ). take j xs) e
take_remove (suc at) (suc i) [] before = let e : suc i - 1 ≡ i = omega arith in ap (λ (j : ℕ). take j []) e ∙ nothing i
  where
    nothing : {X : Type 0} (j : ℕ) → take {A = X} j [] ≡ []
    nothing zero = refl
    nothing (suc j) = refl
take_remove (suc at) (suc zero) (x ∷ xs) before = absurd (omega (arith, before))
take_remove (suc at) (suc (suc i)) (x ∷ xs) before =
    let e : suc (suc i) - 1 ≡ suc i = omega arith in
    let f : i ≡ suc i - 1 = omega arith in
    ap (λ (j : ℕ). take j (remove (x ∷ xs) (suc at))) e
    ∙ (ap (λ (j : ℕ). x ∷ take j (remove xs at)) f ∙ ap (λ (ys : List _). x ∷ ys) (take_remove at (suc i) xs (omega (arith, before))))

passed_removed : (k at : ℕ) (p : Pass) (xs : List Message) → at < length xs → IsPassed k p xs → IsPassed k (shifted at p) (remove xs at)
passed_removed k at p xs there h = by (ltb at p.index) refl
  where
    len : length (remove xs at) + 1 ≡ length xs
    len = length-remove xs at there

    by : (b : Bool) → ltb at p.index ≡ b → IsPassed k (record p { index = cond b (p.index - 1) p.index }) (remove xs at)
    by true is =
        let before : at < p.index = ltb-true at p.index is in
        record {
          within = omega (arith, len, h.within, before);
          ended = subst (λ (ms : List Message). All (HasEnded k p.bound) ms) (sym (take_remove at p.index xs before))
              (all_left (HasEnded k p.bound) (take p.index xs) at h.ended);
        }
    by false is =
        let behind : p.index ≤ at = ltb-false at p.index is in
        let l : length (take at xs) ≡ at = length-take-le at xs (omega (arith, there)) in
        record {
          within = omega (arith, len, behind, there);
          ended = subst (λ (ms : List Message). All (HasEnded k p.bound) ms)
              (sym (take-append-le p.index (take at xs) (drop (suc at) xs) (omega (arith, l, behind)) ∙ take-take p.index at xs behind)) h.ended;
        }

pub passes_removed : (passes : List Pass) (at : ℕ) (xs : List Message) → at < length xs → ArePassed passes xs
    → ArePassed (map (shifted at) passes) (remove xs at)
passes_removed passes at xs there h k q is =
    let s = mapped (shifted at) passes k q is in
    subst (λ (p : Pass). IsPassed k p (remove xs at)) s.2 (passed_removed k at s.0 xs there (h k s.0 s.1))

-- one pass is another one
pub passed_set : (passes : List Pass) (k : ℕ) (p : Pass) (xs : List Message) → ArePassed passes xs → IsPassed k p xs → ArePassed (set passes k p) xs
passed_set passes k p xs h mine j q is = at (eqb j k) refl
  where
    within : j < length (set passes k p)
    within = slice_get_within (set passes k p) j q is

    len : length (set passes k p) ≡ length passes
    len = length-set passes k p

    there : j < length passes
    there = omega (arith, within, len)

    got : get_or (set passes k p) j p ≡ q
    got = get_or_from_slice_get (set passes k p) j q p is

    at : (b : Bool) → eqb j k ≡ b → IsPassed j q xs
    at true e =
        let same : j ≡ k = eqb-true j k e in
        let mine_is : get_or (set passes k p) j p ≡ p =
        subst (λ (i : ℕ). get_or (set passes i p) j p ≡ p) same (get_or-set_same passes j p p there) in
        subst (λ (i : ℕ). IsPassed i q xs) (sym same) (subst (λ (r : Pass). IsPassed k r xs) (sym mine_is ∙ got) mine)
    at false e =
        let other : get_or (set passes k p) j p ≡ get_or passes j p =
        get_or-set_other passes k j p p (λ same. true≢false (sym (eq-eqb j k same) ∙ e)) in
        h j q (slice_get-get_or passes j p there ∙ ap Some (sym other ∙ got))

-- what holds of all but one, and of that one, holds of all
all_back : {X : Type 0} (P : X → Type 0) (ys : List X) (at : ℕ) (d : X) → at < length ys → All P (remove ys at) → P (get_or ys at d) → All P ys
all_back P [] at d there all mine = absurd (omega (arith, there))
all_back P (y ∷ ys) zero d there all mine = All-cons P y ys mine all
all_back P (y ∷ ys) (suc at) d there all mine =
    All-cons P y ys (All-head P y (remove ys at) all) (all_back P ys at d (omega (arith, there)) (All-tail P y (remove ys at) all) mine)

-- one that joined leaves again
pub removed_again : {X : Type 0} (xs : List X) (at : ℕ) (x : X) → at ≤ length xs → remove (insert xs at x) at ≡ xs
removed_again xs zero x there = refl
removed_again [] (suc at) x there = absurd (omega (arith, there))
removed_again (y ∷ xs) (suc at) x there = ap (λ (ys : List _). y ∷ ys) (removed_again xs at x (omega (arith, there)))

-- what stands before the place of one that left
before_removed : {X : Type 0} (i at : ℕ) (xs : List X) → i ≤ at → at < length xs → take i (remove xs at) ≡ take i xs
before_removed i at xs before there =
    let l : length (take at xs) ≡ at = length-take-le at xs (omega (arith, there)) in
    take-append-le i (take at xs) (drop (suc at) xs) (omega (arith, l, before)) ∙ take-take i at xs before

-- a message joined that stands before the index of a pass

pub passed_up_to : (k at : ℕ) (p : Pass) (xs : List Message) → at < length xs → at < p.index → IsPassed k p (remove xs at)
    → IsPassed k (record p { index = at }) xs
passed_up_to k at p xs there behind h = record {
  within = omega (arith, there);
  ended = subst (λ (ms : List Message). All (HasEnded k p.bound) ms)
      (take-take at p.index (remove xs at) (omega (arith, behind)) ∙ before_removed at at xs (omega arith) there)
      (All-take (HasEnded k p.bound) at (take p.index (remove xs at)) h.ended);
}

pub passed_over : (k at : ℕ) (p : Pass) (m : Message) (xs : List Message) → slice_get xs at ≡ Some m → at < p.index → HasEnded k p.bound m
    → IsPassed k p (remove xs at) → IsPassed k (record p { index = p.index + 1 }) xs
passed_over k at p m xs is behind mine h = record {
  within = omega (arith, len, h.within);
  ended = all_back (HasEnded k p.bound) (take (p.index + 1) xs) at m (omega (arith, front, behind))
      (subst (λ (ms : List Message). All (HasEnded k p.bound) ms)
      (ap (λ (j : ℕ). take j (remove xs at)) one ∙ take_remove at (p.index + 1) xs (omega (arith, behind))) h.ended)
      (subst (HasEnded k p.bound) (sym (get_or-take (p.index + 1) xs at m (omega (arith, behind)) ∙ get_or_from_slice_get xs at m m is)) mine);
}
  where
    len : length (remove xs at) + 1 ≡ length xs
    len = length-remove xs at (slice_get_within xs at m is)

    front : length (take (p.index + 1) xs) ≡ p.index + 1
    front = length-take-le (p.index + 1) xs (omega (arith, len, h.within))

    one : p.index ≡ p.index + 1 - 1
    one = omega arith

-- the passes before a level are those of the list with the message, the others those of the list without it
abbrev pub AreRaised : ℕ → List Pass → List Message → List Message → Type 0
AreRaised k passes old new = (j : ℕ) (p : Pass) → slice_get passes j ≡ Some p → IsPassed j p (cond (ltb j k) new old)

pub none_raised : (passes : List Pass) (old new : List Message) → ArePassed passes old → AreRaised 0 passes old new
none_raised passes old new h j p is = at (ltb j 0) refl
  where
    at : (b : Bool) → ltb j 0 ≡ b → IsPassed j p (cond b new old)
    at true e = absurd (omega (arith, ltb-true j 0 e))
    at false e = h j p is

pub all_raised : (k : ℕ) (passes : List Pass) (old new : List Message) → length passes ≤ k → AreRaised k passes old new → ArePassed passes new
all_raised k passes old new few h j p is =
    subst (λ (b : Bool). IsPassed j p (cond b new old)) (lt-ltb j k (omega (arith, few, slice_get_within passes j p is))) (h j p is)

-- a pass goes on

none_has : (k : ℕ) (xs : List Message) → at_level k xs ≡ 0 → All (λ m. level m.priority ≡ k → ⊥) xs
none_has k [] none = All-nil (λ m. level m.priority ≡ k → ⊥)
none_has k (x ∷ xs) none =
    All-cons (λ m. level m.priority ≡ k → ⊥) x xs
    (λ is. let one : one_at k (level x.priority) ≡ 1 = ap (λ (b : Bool). cond b 1 0) (eq-eqb k (level x.priority) (sym is)) in omega (arith, one, none))
    (none_has k xs (omega (arith, none)))

pub passed_all : (k : ℕ) (xs : List Message) → at_level k xs ≡ 0 → IsPassed k (record { index = length xs; bound = 0 }) xs
passed_all k xs none = record {
  within = omega arith;
  ended = subst (λ (ms : List Message). All (HasEnded k 0) ms) (sym (take_all (length xs) xs (omega arith)))
      (All-weaker (λ m. level m.priority ≡ k → ⊥) (HasEnded k 0) (λ m h is. absurd (h is)) xs (none_has k xs none));
}

pub one_further : (k bound next i : ℕ) (m : Message) (xs : List Message) → bound ≤ next → All (HasEnded k bound) (take i xs)
    → slice_get xs i ≡ Some m → HasEnded k next m → All (HasEnded k next) (take (i + 1) xs)
one_further k bound next i m xs more all is mine =
    All-more (HasEnded k next) xs i m (slice_get_within xs i m is)
    (All-weaker (HasEnded k bound) (HasEnded k next) (λ n h at. omega (arith, h at, more)) (take i xs) all)
    (subst (HasEnded k next) (sym (get_or_from_slice_get xs i m m is)) mine)

-- what stands at a place, whatever would stand there if none did
pub read_again : {X : Type 0} (xs : List X) (k : ℕ) (d : X) → get_or xs k d ≡ get_or xs k (get_or xs k d)
read_again [] k d = refl
read_again (x ∷ xs) zero d = refl
read_again (x ∷ xs) (suc k) d = read_again xs k d

-- what has ended is not wanted

ended_is_due : (m : Message) (now : ℕ) → end_of m ≤ now + 1 → now < 2 ^ 32 → is_due m.sent m.life now ≡ true
ended_is_due m now ended few = at (eqb m.life UNLIMITED) ended
  where
    at : (b : Bool) → cond b 0xFFFFFFFFFFFFFFFF (m.sent + m.life + 1) ≤ now + 1 → (not b && leb (m.sent + m.life) now) ≡ true
    at true h = absurd (omega (arith, h, few))
    at false h = le-leb (m.sent + m.life) now (omega (arith, h))

ends_later : (m : Message) → end_of m ≤ 0 → ⊥
ends_later m = at (eqb m.life UNLIMITED)
  where
    at : (b : Bool) → cond b 0xFFFFFFFFFFFFFFFF (m.sent + m.life + 1) ≤ 0 → ⊥
    at true h = omega (arith, h)
    at false h = omega (arith, h)

first_of_both : (a b : Bool) → (a && b) ≡ true → a ≡ true
first_of_both true b h = refl
first_of_both false b h = h

wanted_is_free : (at : EntryPlace) (now : ℕ) (id : Option MessageId) (m : Message) → is_wanted at now id m ≡ true → is_free at now m ≡ true
wanted_is_free at now None m is = is
wanted_is_free at now (Some id) m is = first_of_both (is_free at now m) _ is

ended_not_free : (at : EntryPlace) (now : ℕ) (pass : Pass) (m : Message) → now < 2 ^ 32 → has_passed at now pass ≡ true → end_of m ≤ pass.bound
    → is_free at now m ≡ true → ⊥
ended_not_free at now pass m few passed ended free = by (is_queue at) passed free
  where
    by : (q : Bool) → cond q (leb pass.bound (now + 1)) (eqb pass.bound 0) ≡ true → not (q && is_due m.sent m.life now) ≡ true → ⊥
    by true h f =
        let le : pass.bound ≤ now + 1 = leb-true pass.bound (now + 1) h in
        let due : is_due m.sent m.life now ≡ true = ended_is_due m now (omega (arith, le, ended)) few in
        true≢false (sym f ∙ ap not due)
    by false h f =
        let none : pass.bound ≡ 0 = eqb-true pass.bound 0 h in
        ends_later m (omega (arith, none, ended))

-- where a message is free and has at least a priority, it has that priority
abbrev wanted_from : (Message → Bool) → ℕ → Message → Bool
wanted_from free p m = free m && leb p m.priority

none_from : (free : Message → Bool) (p : ℕ) (m : Message) → (free m ≡ true → m.priority ≤ p) → (free m ≡ true → level m.priority ≡ level p → ⊥)
    → wanted_from free p m ≡ false
none_from free p m most other = at (free m) most other (leb p m.priority) refl
  where
    at : (b : Bool) → (b ≡ true → m.priority ≤ p) → (b ≡ true → level m.priority ≡ level p → ⊥) → (l : Bool) → leb p m.priority ≡ l → (b && l) ≡ false
    at false g h l e = refl
    at true g h false e = refl
    at true g h true e =
        let same : m.priority ≡ p = omega (arith, g refl, leb-true p m.priority e) in
        absurd (h refl (ap level same))

pub none_before : (at : EntryPlace) (now : ℕ) (id : Option MessageId) (p : ℕ) (pass : Pass) (xs : List Message) → now < 2 ^ 32
    → IsPassed (level p) pass xs → has_passed at now pass ≡ true → All (λ m. is_wanted at now id m ≡ true → m.priority ≤ p) xs
    → All (λ m. wanted_from (is_wanted at now id) p m ≡ false) (take pass.index xs)
none_before at now id p pass xs few known passed most k d within =
    let m = get_or (take pass.index xs) k d in
    none_from (is_wanted at now id) p m
    (All-take (λ m. is_wanted at now id m ≡ true → m.priority ≤ p) pass.index xs most k d within)
    (λ so has. ended_not_free at now pass m few passed (known.ended k d within has) (wanted_is_free at now id m so))

pub none_counted : (free : Message → Bool) (p : ℕ) (xs : List Message) → at_level (level p) xs ≡ 0 → All (λ m. free m ≡ true → m.priority ≤ p) xs
    → position (wanted_from free p) xs ≡ None
none_counted free p xs none most =
    passes_none (wanted_from free p) xs
    (λ k d within. none_from free p (get_or xs k d) (most k d within) (λ so has. none_has (level p) xs none k d within has))

-- each priority from the greatest one down

pub at_most : (free : Message → Bool) (k bound p : ℕ) (xs : List Message) → k ≤ bound → p ≡ bound - k
    → All (λ m. free m ≡ true → m.priority + k ≤ bound) xs → All (λ m. free m ≡ true → m.priority ≤ p) xs
at_most free k bound p xs within is all =
    All-weaker (λ m. free m ≡ true → m.priority + k ≤ bound) (λ m. free m ≡ true → m.priority ≤ p) (λ m h so. omega (arith, h so, is)) xs all

pub none_left : (free : Message → Bool) (k bound p : ℕ) (xs : List Message) → k ≤ bound → p ≡ bound - k → position (wanted_from free p) xs ≡ None
    → All (λ m. free m ≡ true → m.priority + (k + 1) ≤ bound) xs
none_left free k bound p xs within is none =
    All-weaker (λ m. wanted_from free p m ≡ false) (λ m. free m ≡ true → m.priority + (k + 1) ≤ bound)
    (λ m fails so. let low : m.priority < p = leb-false p m.priority (sym (ap (λ (b : Bool). b && leb p m.priority) so) ∙ fails) in omega (arith, low, is, within))
    xs (none_passes (wanted_from free p) xs none)

pub none_first : (free : Message → Bool) (k bound : ℕ) (xs : List Message) → bound < k → All (λ m. free m ≡ true → m.priority + k ≤ bound) xs
    → first_index free xs ≡ None
none_first free k bound xs past all =
    none_is_first free xs
    (All-weaker (λ m. free m ≡ true → m.priority + k ≤ bound) (λ m. free m ≡ false) (λ m h. at m (free m) refl h) xs all)
  where
    at : (m : Message) (b : Bool) → free m ≡ b → (free m ≡ true → m.priority + k ≤ bound) → free m ≡ false
    at m true e h = absurd (omega (arith, h e, past))
    at m false e h = e
