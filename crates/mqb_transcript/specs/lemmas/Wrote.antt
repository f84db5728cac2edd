-- Texts that are written one behind the other.
use Rattle.std.proofs.Common.{◌≡◌, ℕ, zero, suc, ◌+◌, ◌<◌, List, [], ◌∷◌, ◌++◌, length, take}
use Rattle.std.proofs.Common.{get_or, Result, Ok, Err, OnOk, refl, sym, ap, ◌∙◌, append_assoc}
use Rattle.std.proofs.Common.{append-nil, arith}
use Rattle.std.specs.List.{flat_map, range_with_len}
use Rattle.std.proofs.lemmas.List.{take_more}
use Rattle.std.proofs.lemmas.Grind.{flat_map-append}
use Rattle.mqb_base.specs.declared.ids.Identity.{Identity}
use Rattle.mqb_transcript.specs.Printing.{Page, wrote}

abbrev with_text : Page → List ℕ → Page
with_text page text = record page { text = text }

pub wrote_twice : (page : Page) (a b : List ℕ) → wrote (wrote page a) b ≡ wrote page (a ++ b)
unfolding wrote
wrote_twice page a b = ap (with_text page) (append_assoc page.text a b)

pub hosts_wrote : (page : Page) (a : List ℕ) → (wrote page a).hosts ≡ page.hosts
unfolding wrote
hosts_wrote page a = refl

pub text_wrote : (page : Page) (a : List ℕ) → (wrote page a).text ≡ page.text ++ a
unfolding wrote
text_wrote page a = refl

pub wrote_nothing : (page : Page) → wrote page [] ≡ page
unfolding wrote
wrote_nothing page = ap (with_text page) (append-nil page.text)

pub ruleset writing = (wrote_twice, hosts_wrote, wrote_nothing)

-- Texts of a list's members, one behind the other.

flat_more : {X : Type 0} (f : X → List ℕ) (xs : List X) (k : ℕ) (d : X) → k < length xs
    → flat_map f (take (k + 1) xs) ≡ flat_map f (take k xs) ++ f (get_or xs k d)
flat_more f xs k d within =
    ap (flat_map f) (take_more xs k d within) ∙ flat_map-append f (take k xs) (get_or xs k d ∷ [])
    ∙ ap (λ rest. flat_map f (take k xs) ++ rest) (append-nil (f (get_or xs k d)))

pub wrote_more : {X : Type 0} (f : List Identity → X → List ℕ) (start page next : Page)
    (xs : List X) (k : ℕ) (d : X)
    → page ≡ wrote start (flat_map (f start.hosts) (take k xs)) → k < length xs
    → next ≡ wrote page (f page.hosts (get_or xs k d))
    → next ≡ wrote start (flat_map (f start.hosts) (take (k + 1) xs))
wrote_more f start page next xs k d before within now =
    let known : page.hosts ≡ start.hosts = ap (λ (p : Page). p.hosts) before
    ∙ hosts_wrote start (flat_map (f start.hosts) (take k xs)) in
    now ∙ ap (λ hosts. wrote page (f hosts (get_or xs k d))) known
    ∙ ap (λ p. wrote p (f start.hosts (get_or xs k d))) before
    ∙ wrote_twice start (flat_map (f start.hosts) (take k xs)) (f start.hosts (get_or xs k d))
    ∙ ap (wrote start) (sym (flat_more (f start.hosts) xs k d within))

-- the same of a member that owns memory
pub wrote_item : {X : Type 0} (f : List Identity → X → List ℕ) (start page next : Page)
    (xs : List X) (k : ℕ) (x : X)
    → page ≡ wrote start (flat_map (f start.hosts) (take k xs)) → k < length xs → x ≡ get_or xs k x
    → next ≡ wrote page (f page.hosts x)
    → next ≡ wrote start (flat_map (f start.hosts) (take (k + 1) xs))
wrote_item f start page next xs k x before within is now =
    wrote_more f start page next xs k x before within
    (now ∙ ap (λ y. wrote page (f page.hosts y)) is)

-- Texts of the numbers of a range, one behind the other.

range_more : (a n : ℕ) → range_with_len a (n + 1) ≡ range_with_len a n ++ (a + n) ∷ []
range_more a zero = let same : a + 0 ≡ a = omega arith in rw same refl
range_more a (suc n) =
    let more : suc n + 1 ≡ suc (n + 1) = omega arith in
    let same : a + suc n ≡ (a + 1) + n = omega arith in
    rw (more, same) (ap (λ rest. a ∷ rest) (range_more (a + 1) n))

pub wrote_number : (f : ℕ → List ℕ) (start page next : Page) (a n : ℕ)
    → page ≡ wrote start (flat_map f (range_with_len a n))
    → next ≡ wrote page (f (a + n)) → next ≡ wrote start (flat_map f (range_with_len a (n + 1)))
wrote_number f start page next a n before now =
    now ∙ ap (λ p. wrote p (f (a + n))) before
    ∙ wrote_twice start (flat_map f (range_with_len a n)) (f (a + n))
    ∙ ap (wrote start) (sym
    (ap (flat_map f) (range_more a n) ∙ flat_map-append f (range_with_len a n) ((a + n) ∷ [])
    ∙ ap (λ rest. flat_map f (range_with_len a n) ++ rest) (append-nil (f (a + n)))))

-- Texts in a row, the last one by a call that may want memory.

pub then_wrote : (start page next : Page) (a b : List ℕ) → page ≡ wrote start a
    → next ≡ wrote page b → next ≡ wrote start (a ++ b)
then_wrote start page next a b first second =
    second ∙ ap (λ p. wrote p b) first ∙ wrote_twice start a b

pub last_wrote : {T E : Type 0} (r : Result T E) (start page last : Page) (a b : List ℕ)
    → page ≡ wrote start a → OnOk r (last ≡ wrote page b)
    → OnOk r (last ≡ wrote start (a ++ b))
last_wrote (Ok x) start page last a b first second = then_wrote start page last a b first second
last_wrote (Err e) start page last a b first second = tt
