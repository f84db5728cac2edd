-- The keys of names, and a table of them.
use Rattle.std.proofs.Common.{◌≡◌, ◌≢◌, ℕ, zero, suc, ◌+◌, ◌-◌, ◌<◌, ◌≤◌, Bool, true, false, cond, ◌||◌, not, List, [], ◌∷◌, ◌++◌, length, get_or, set, map, take, replicate, Option, Some, None, refl, sym, ap, ◌∙◌, subst, arith, append_assoc, length-append}
use Rattle.std.specs.Char.{to_ascii_lowercase}
use Rattle.std.specs.Cmp.Lexicographic.{bytes_decides}
use Rattle.std.specs.List.{All, position}
use Rattle.std.specs.Map.{lookup}
use Rattle.std.specs.Option.{option_map}
use Rattle.std.specs.Prelude.{IfSome, nat_lt, ◌==◌, slice_get}
use Rattle.std.proofs.lemmas.Bool.Decides.{nat_tests, same_from_decides}
use Rattle.std.proofs.lemmas.List.{get_or-map, length-map, length-take-le, length_push, map-append, map-set, set-append_right, take-map, take_more}
use Rattle.std.proofs.lemmas.List.Elements.{All-append, All-cons, All-head, All-map, All-nil, All-tail, All-take}
use Rattle.std.proofs.lemmas.Option.{get_or_from_slice_get, none-some, slice_get-map, slice_get_within}
use Rattle.indexmap.specs.IndexMap.{IndexMap, Updates, get, index_map_len, spare}
use Rattle.mqb_base.specs.Names.{is_name_byte, name_fault}
use Rattle.mqb_base.specs.Same.{same_ignoring_case}
use Rattle.mqb_base.specs.declared.names.NameError.TheVariants as error
use Rattle.mqb_base.specs.declared.names.TheConstants.{MAX_NAME}
use Rattle.mqb_queue.specs.declared.queue.Queue as code
use Rattle.mqb_queue.specs.Names.{IsNamed, LeadsTo, key_of, same_key, with_key}
use Rattle.mqb_queue.specs.Places.{NamesDiffer, Queue, found}
use Rattle.mqb_queue.specs.Seen.{queue_of}
use Rattle.mqb_queue.specs.declared.name_keys.NameKey.{NameKey}
use Rattle.mqb_queue.proofs.Distinct.{none_before}
use Rattle.mqb_queue.proofs.Lens.{set_same}
use Rattle.mqb_queue.proofs.Positions.{none_passes, passing, position_behind, position_joined, position_map, position_same, position_step}

-- ---- names are 1 to 64 bytes, none of which is 0

fault_parts : (b c : Bool) (o : Option ℕ) → cond (b || c) (Some error.Length) (option_map (λ at. error.Byte at) o) ≡ None → (c ≡ false) × (o ≡ None)
fault_parts true c o h = absurd (none-some error.Length (sym h))
fault_parts false true o h = absurd (none-some error.Length (sym h))
fault_parts false false None h = (refl, refl)
fault_parts false false (Some k) h = absurd (none-some (error.Byte k) (sym h))

parts : (name : List ℕ) → name_fault name ≡ None → (nat_lt MAX_NAME (length name) ≡ false) × (position (λ b. not (is_name_byte b)) name ≡ None)
parts name h = fault_parts (length name == 0) (nat_lt MAX_NAME (length name)) (position (λ b. not (is_name_byte b)) name) h

pub name_is_short : (name : List ℕ) → name_fault name ≡ None → length name ≤ MAX_NAME
name_is_short name h = let p = (parts name h).0 in grind (arith, nat_tests)

no_zero : (b : ℕ) → not (is_name_byte b) ≡ false → to_ascii_lowercase b ≢ 0
no_zero b h e = grind (arith, nat_tests)

lower_some : (name : List ℕ) → All (λ b. not (is_name_byte b) ≡ false) name → All (λ x. x ≢ 0) (map to_ascii_lowercase name)
lower_some [] h = All-nil (λ x. x ≢ 0)
lower_some (b ∷ name) h =
    All-cons (λ x. x ≢ 0) (to_ascii_lowercase b) (map to_ascii_lowercase name) (no_zero b (All-head (λ b. not (is_name_byte b) ≡ false) b name h))
    (lower_some name (All-tail (λ b. not (is_name_byte b) ≡ false) b name h))

-- what stands before zeros is known by the whole
before_zeros : (a b : List ℕ) (m n : ℕ) → All (λ x. x ≢ 0) a → All (λ x. x ≢ 0) b → a ++ replicate m 0 ≡ b ++ replicate n 0 → a ≡ b
before_zeros [] [] m n some_a some_b e = refl
before_zeros [] (y ∷ b) zero n some_a some_b e = absurd (let none : ⊥ = cc in none)
before_zeros [] (y ∷ b) (suc m) n some_a some_b e = absurd (All-head (λ x. x ≢ 0) y b some_b (sym (ap (λ l. get_or l 0 0) e)))
before_zeros (x ∷ a) [] m zero some_a some_b e = absurd (let none : ⊥ = cc in none)
before_zeros (x ∷ a) [] m (suc n) some_a some_b e = absurd (All-head (λ x. x ≢ 0) x a some_a (ap (λ l. get_or l 0 0) e))
before_zeros (x ∷ a) (y ∷ b) m n some_a some_b e =
    let first : x ≡ y = cc in
    let rest : a ++ replicate m 0 ≡ b ++ replicate n 0 = cc in
    ap (λ z. z ∷ a) first ∙ ap (λ l. y ∷ l) (before_zeros a b m n (All-tail (λ x. x ≢ 0) x a some_a) (All-tail (λ x. x ≢ 0) y b some_b) rest)

-- ---- keys agree where the names do, the case of letters left aside

same_keys : (a b : List ℕ) → name_fault a ≡ None → name_fault b ≡ None → same_key (key_of b) (key_of a) ≡ same_ignoring_case a b
same_keys a b valid_a valid_b =
    same_from_decides (same_key (key_of b) (key_of a)) (same_ignoring_case a b) (λ e. to e, λ e. from e)
    (bytes_decides (map to_ascii_lowercase a) (map to_ascii_lowercase b))
  where
    some_of : (name : List ℕ) → name_fault name ≡ None → All (λ x. x ≢ 0) (map to_ascii_lowercase name)
    some_of name valid = lower_some name (none_passes (λ b. not (is_name_byte b)) name (parts name valid).1)

    to : same_key (key_of b) (key_of a) ≡ true → map to_ascii_lowercase a ≡ map to_ascii_lowercase b
    to e = before_zeros (map to_ascii_lowercase a) (map to_ascii_lowercase b) (MAX_NAME - length a) (MAX_NAME - length b) (some_of a valid_a) (some_of b valid_b)
        (sym ((bytes_decides (key_of b).0 (key_of a).0).0 e))

    from : map to_ascii_lowercase a ≡ map to_ascii_lowercase b → same_key (key_of b) (key_of a) ≡ true
    from e =
        let lengths : length b ≡ length a = sym (length-map b to_ascii_lowercase) ∙ (ap length (sym e) ∙ length-map a to_ascii_lowercase) in
        (bytes_decides (key_of b).0 (key_of a).0).1
        (ap (λ l. l ++ replicate (MAX_NAME - length b) 0) (sym e) ∙ ap (λ n. map to_ascii_lowercase a ++ replicate (MAX_NAME - n) 0) lengths)

-- the queue of a key is the one of the name
pub key_finds : (queues : List Queue) (name : List ℕ) → All (λ q. name_fault q.plan.name ≡ None) queues → name_fault name ≡ None
    → with_key (key_of name) queues ≡ found queues name
key_finds queues name valid named =
    position_same (λ q. same_key (key_of name) (key_of q.plan.name)) (λ q. same_ignoring_case q.plan.name name) queues (each queues valid)
  where
    each : (qs : List Queue) → All (λ q. name_fault q.plan.name ≡ None) qs → All (λ q. same_key (key_of name) (key_of q.plan.name) ≡ same_ignoring_case q.plan.name name) qs
    each [] h = All-nil (λ q. same_key (key_of name) (key_of q.plan.name) ≡ same_ignoring_case q.plan.name name)
    each (q ∷ qs) h =
        All-cons (λ q. same_key (key_of name) (key_of q.plan.name) ≡ same_ignoring_case q.plan.name name) q qs
        (same_keys q.plan.name name (All-head (λ q. name_fault q.plan.name ≡ None) q qs h) named) (each qs (All-tail (λ q. name_fault q.plan.name ≡ None) q qs h))

-- ---- a table with one key more

pub leads_on : {S : Type 0} (queues : List Queue) (q : Queue) (m n : IndexMap NameKey ℕ S) (number : ℕ) → LeadsTo queues m → number ≡ length queues
    → get same_key m (key_of q.plan.name) ≡ None → Updates same_key m n (key_of q.plan.name) (Some number) → LeadsTo (queues ++ q ∷ []) n
leads_on queues q m n number leads is absent updates key = updates.0 key ∙ at (with_key key queues) refl (same_key (key_of q.plan.name) key) refl
  where
    p : Queue → Bool
    p r = same_key key (key_of r.plan.name)

    swapped : same_key key (key_of q.plan.name) ≡ same_key (key_of q.plan.name) key
    swapped = same_from_decides (same_key key (key_of q.plan.name)) (same_key (key_of q.plan.name) key) (bytes_decides key.0 (key_of q.plan.name).0)
        ((λ e. sym ((bytes_decides (key_of q.plan.name).0 key.0).0 e)), (λ e. (bytes_decides (key_of q.plan.name).0 key.0).1 (sym e)))

    -- the key of the new one is not there
    apart : same_key (key_of q.plan.name) key ≡ true → with_key key queues ≡ None
    apart same =
        let bytes : (key_of q.plan.name).0 ≡ key.0 = (bytes_decides (key_of q.plan.name).0 key.0).0 same in
        let keys : key ≡ key_of q.plan.name = ap (λ (l : List ℕ). record { 0 = l }) (sym bytes) in
        sym (leads key) ∙ (ap (λ (k : NameKey). get same_key m k) keys ∙ absent)

    at : (o : Option ℕ) → with_key key queues ≡ o → (b : Bool) → same_key (key_of q.plan.name) key ≡ b
        → cond (same_key (key_of q.plan.name) key) (Some number) (get same_key m key) ≡ with_key key (queues ++ q ∷ [])
    at (Some j) there true same = absurd (none-some j (sym (apart same) ∙ there))
    at (Some j) there false same =
        ap (λ b. cond b (Some number) (get same_key m key)) same ∙ (leads key ∙ (there ∙ sym (position_joined p queues (q ∷ []) j there)))
    at None none b same =
        ap (λ c. cond c (Some number) (get same_key m key)) same
        ∙ (ap (λ o. cond b (Some number) o) (leads key ∙ none)
        ∙ sym (position_behind p queues (q ∷ []) (none_passes p queues none)
        ∙ (ap (option_map (λ k. length queues + k)) (position_step p q [] ∙ ap (λ c. cond c (Some 0) None) (swapped ∙ same)) ∙ last b)))
      where
        last : (b : Bool) → option_map (λ k. length queues + k) (cond b (Some 0) None) ≡ cond b (Some number) None
        last true = ap Some (omega (arith, is))
        last false = refl

-- ---- the names of a list of queues in a table

abbrev Valid : Queue → Type 0
Valid q = name_fault q.plan.name ≡ None

pub leads_empty : {S : Type 0} (m : IndexMap NameKey ℕ S) → m.entries ≡ [] → LeadsTo [] m
leads_empty m none key = ap (λ (es : List (NameKey × ℕ)). lookup (same_key key) es) none

pub leads_same : {S : Type 0} (queues : List Queue) (m n : IndexMap NameKey ℕ S) → n.entries ≡ m.entries → LeadsTo queues m → LeadsTo queues n
leads_same queues m n same leads key = ap (λ (es : List (NameKey × ℕ)). lookup (same_key key) es) same ∙ leads key

-- a queue joins the others
pub named_more : {S : Type 0} (queues : List Queue) (q : Queue) (room number : ℕ) (m n : IndexMap NameKey ℕ S) → Valid q → number ≡ length queues
    → get same_key m (key_of q.plan.name) ≡ None → Updates same_key m n (key_of q.plan.name) (Some number) → index_map_len n ≡ index_map_len m + 1
    → spare m ≤ spare n + 1 → IsNamed queues room m → IsNamed (queues ++ q ∷ []) room n
named_more queues q room number m n valid is absent updates longer left h =
    let e : length (queues ++ q ∷ []) ≡ length queues + 1 = length_push queues q in
    record {
      valid = All-append Valid queues (q ∷ []) h.valid (All-cons Valid q [] valid (All-nil Valid));
      leads = leads_on queues q m n number h.leads is absent updates;
      count = omega (arith, longer, h.count, e);
      room = omega (arith, left, h.room, e);
    }

pub absent_name : {S : Type 0} (queues : List Queue) (name : List ℕ) (m : IndexMap NameKey ℕ S) → LeadsTo queues m → All Valid queues → name_fault name ≡ None
    → found queues name ≡ None → get same_key m (key_of name) ≡ None
absent_name queues name m leads valid named none = leads (key_of name) ∙ (key_finds queues name valid named ∙ none)

all_members : {X : Type 0} (P : X → Type 0) (xs : List X) (k : ℕ) (x : X) → slice_get xs k ≡ Some x → All P xs → P x
all_members P xs k x is h = subst P (get_or_from_slice_get xs k x x is) (h k x (slice_get_within xs k x is))

valid_of : (queues : List Queue) → All (λ n. name_fault n ≡ None) (map (λ (q : Queue). q.plan.name) queues) → All Valid queues
valid_of queues h k d within =
    let name_of : Queue → List ℕ = λ q. q.plan.name in
    subst (λ n. name_fault n ≡ None) (get_or-map name_of queues k d (name_of d) within) (h k (name_of d) (subst (λ n. k < n) (sym (length-map queues name_of)) within))

-- other queues with the same names
pub named_same : {S : Type 0} (queues others : List Queue) (room : ℕ) (m : IndexMap NameKey ℕ S)
    → map (λ (q : Queue). q.plan.name) others ≡ map (λ (q : Queue). q.plan.name) queues → IsNamed queues room m → IsNamed others room m
named_same queues others room m same h =
    let name_of : Queue → List ℕ = λ q. q.plan.name in
    let e : length others ≡ length queues = sym (length-map others name_of) ∙ (ap length same ∙ length-map queues name_of) in
    record {
      valid = valid_of others (subst (All (λ n. name_fault n ≡ None)) (sym same) (All-map (λ n. name_fault n ≡ None) name_of queues h.valid));
      leads = λ key. h.leads key
          ∙ (sym (position_map name_of (λ n. same_key key (key_of n)) queues)
          ∙ (ap (λ (ns : List (List ℕ)). position (λ n. same_key key (key_of n)) ns) (sym same)
          ∙ position_map name_of (λ n. same_key key (key_of n)) others));
      count = h.count ∙ sym e;
      room = omega (arith, h.room, e);
    }

-- one of them is written, and its plan stays
pub named_written : {S : Type 0} (items : List code.Queue) (k : ℕ) (q r : code.Queue) (room : ℕ) (m : IndexMap NameKey ℕ S) → slice_get items k ≡ Some q → r.plan ≡ q.plan
    → IsNamed (map queue_of items) room m → IsNamed (map queue_of (set items k r)) room m
named_written items k q r room m is same h =
    let name_of : Queue → List ℕ = λ s. s.plan.name in
    named_same (map queue_of items) (map queue_of (set items k r)) room m
    (ap (map name_of) (map-set queue_of items k r)
    ∙ (map-set name_of (map queue_of items) k (queue_of r)
    ∙ set_same (map name_of (map queue_of items)) k r.plan.name
    (slice_get-map name_of (map queue_of items) k
    ∙ (ap (option_map name_of) (slice_get-map queue_of items k ∙ ap (option_map queue_of) is) ∙ ap (λ p. Some p.name) (sym same))))) h

-- the place that a search gives
pub found_within : (queues : List Queue) (name : List ℕ) → IfSome (found queues name) (λ k. k < length queues)
found_within queues name = at (found queues name) refl
  where
    at : (o : Option ℕ) → found queues name ≡ o → IfSome o (λ k. k < length queues)
    at None is = tt
    at (Some k) is = let p = passing (λ q. same_ignoring_case q.plan.name name) queues k is in
        let e : length queues ≡ length (p.before ++ p.at ∷ p.behind) = ap length p.whole in
        let f : length (p.before ++ p.at ∷ p.behind) ≡ length p.before + length (p.at ∷ p.behind) = length-append p.before (p.at ∷ p.behind) in
        omega (arith, e, f, p.place)

-- ---- the bytes of a key, one by one

pub one_more_byte : (name key : List ℕ) (k : ℕ) → k < length name → length name ≤ MAX_NAME
    → key ≡ map to_ascii_lowercase (take k name) ++ replicate (MAX_NAME - k) 0
    → set key k (to_ascii_lowercase (get_or name k 0)) ≡ map to_ascii_lowercase (take (k + 1) name) ++ replicate (MAX_NAME - (k + 1)) 0
one_more_byte name key k within short so_far =
    let b : ℕ = get_or name k 0 in
    let low : List ℕ = map to_ascii_lowercase (take k name) in
    let long : length low ≡ k = length-map (take k name) to_ascii_lowercase ∙ length-take-le k name (omega (arith, within)) in
    let left : MAX_NAME - k ≡ suc (MAX_NAME - (k + 1)) = omega (arith, within, short) in
    let none : k - k ≡ 0 = omega arith in
    let more : map to_ascii_lowercase (take (k + 1) name) ≡ low ++ to_ascii_lowercase b ∷ [] =
    ap (map to_ascii_lowercase) (take_more name k 0 within) ∙ map-append to_ascii_lowercase (take k name) (b ∷ []) in
    ap (λ (l : List ℕ). set l k (to_ascii_lowercase b)) so_far
    ∙ (set-append_right low (replicate (MAX_NAME - k) 0) k k (to_ascii_lowercase b) long (omega arith)
    ∙ (ap (λ i. low ++ set (replicate (MAX_NAME - k) 0) i (to_ascii_lowercase b)) none
    ∙ (ap (λ n. low ++ set (replicate n 0) 0 (to_ascii_lowercase b)) left
    ∙ (sym (append_assoc low (to_ascii_lowercase b ∷ []) (replicate (MAX_NAME - (k + 1)) 0))
    ∙ ap (λ (l : List ℕ). l ++ replicate (MAX_NAME - (k + 1)) 0) (sym more)))))

-- ---- the names of the first queues of a list

module _ {S : Type 0} (items : List code.Queue) (k : ℕ) (q : code.Queue) (m : IndexMap NameKey ℕ S) (leads : LeadsTo (map queue_of (take k items)) m)
    (valid : All (λ r. name_fault r.plan.name ≡ None) (map queue_of items)) (differ : NamesDiffer (map queue_of items)) (is : slice_get items k ≡ Some q) where
  seen_is : slice_get (map queue_of items) k ≡ Some (queue_of q)
  seen_is = slice_get-map queue_of items k ∙ ap (option_map queue_of) is

  within : k < length items
  within = slice_get_within items k q is

  -- the next one is not there
  pub absent_next : get same_key m (key_of q.plan.name) ≡ None
  absent_next = absent_name (map queue_of (take k items)) q.plan.name m leads
      (subst (All (λ r. name_fault r.plan.name ≡ None)) (take-map queue_of k items) (All-take (λ r. name_fault r.plan.name ≡ None) k (map queue_of items) valid))
      (all_members (λ r. name_fault r.plan.name ≡ None) (map queue_of items) k (queue_of q) seen_is valid)
      (subst (λ (qs : List Queue). found qs q.plan.name ≡ None) (take-map queue_of k items) (none_before (map queue_of items) k (queue_of q) differ seen_is))

  -- and joins
  pub leads_next : (n : IndexMap NameKey ℕ S) → Updates same_key m n (key_of q.plan.name) (Some k) → LeadsTo (map queue_of (take (k + 1) items)) n
  leads_next n updates =
      let long : k ≡ length (map queue_of (take k items)) = sym (length-map (take k items) queue_of ∙ length-take-le k items (omega (arith, within))) in
      let more : take (k + 1) items ≡ take k items ++ q ∷ [] =
      take_more items k q within ∙ ap (λ (x : code.Queue). take k items ++ x ∷ []) (get_or_from_slice_get items k q q is) in
      subst (λ (qs : List Queue). LeadsTo qs n) (sym (ap (map queue_of) more ∙ map-append queue_of (take k items) (q ∷ [])))
      (leads_on (map queue_of (take k items)) (queue_of q) m n k leads long absent_next updates)
