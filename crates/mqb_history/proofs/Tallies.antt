-- How often the durable messages of queues bear an identifier, and how often lines say that one came to a queue, or left it.
use Rattle.std.proofs.Common.{refl, ap, sym, subst, ◌∙◌, arith, inl, inr}
use Rattle.std.specs.Option.{option_map_or}
use Rattle.std.specs.Prelude.{[], ◌+◌, ◌++◌, ◌-◌, ◌==◌, ◌∷◌, ◌≡◌, ◌≤◌, Bool, List, None, Option, Some, cond, false, option_map, remove, slice_get, slice_set, suc, true, zero, ℕ}
use Rattle.mqb_base.specs.Lanes.{lane_of}
use Rattle.mqb_base.specs.Same.{same_guid, same_id}
use Rattle.mqb_base.specs.declared.ids.MessageId.{MessageId}
use Rattle.mqb_base.specs.declared.ledger.Line.{Line}
use Rattle.mqb_base.specs.declared.ledger.Line.TheVariants as line
use Rattle.mqb_base.specs.declared.message.Delivery.{Delivery}
use Rattle.mqb_base.specs.declared.message.Delivery.TheVariants as delivery
use Rattle.mqb_base.specs.declared.message.Message.{Message}
use Rattle.mqb_base.specs.declared.queues.EntryPlace.{EntryPlace}
use Rattle.mqb_base.specs.declared.queues.EntryPlace.TheVariants as place
use Rattle.mqb_exactly_once.specs.Words.{In}
use Rattle.mqb_model.specs.state.Places.{is_express}
use Rattle.mqb_model.specs.state.State.{State}
use Rattle.mqb_queue.specs.First.{is_queue}
use Rattle.mqb_queue.specs.Lists.{Lists, put}
use Rattle.mqb_queue.specs.Places.{Places, Queue, changed_at, lists_at, numbered}
use Rattle.mqb_history.proofs.Believing.{same_id_is}
use Rattle.mqb_history.proofs.Carrying.{place_there}
use Rattle.mqb_history.proofs.Lists.{clash, join_and, none_some, same_number, some_is}
use Rattle.mqb_history.proofs.Names.{same_guid_refl}

-- the sum of what the members of a list count for
abbrev pub tally : {X : Type 0} → (X → ℕ) → List X → ℕ
tally f [] = 0
tally f (x ∷ xs) = f x + tally f xs

pub tally_append : {X : Type 0} (f : X → ℕ) (xs ys : List X) → tally f (xs ++ ys) ≡ tally f xs + tally f ys
tally_append f [] ys = omega arith
tally_append f (x ∷ xs) ys = let rest = tally_append f xs ys in omega (arith, rest)

pub tally_removed : {X : Type 0} (f : X → ℕ) (xs : List X) (k : ℕ) (x : X) → slice_get xs k ≡ Some x → tally f (remove xs k) + f x ≡ tally f xs
tally_removed f [] k x e = absurd (none_some e)
tally_removed f (y ∷ xs) zero x e = let same = ap f (some_is y x e) in omega (arith, same)
tally_removed f (y ∷ xs) (suc k) x e = let rest = tally_removed f xs k x e in omega (arith, rest)

pub tally_set : {X : Type 0} (f : X → ℕ) (xs : List X) (k : ℕ) (x y : X) → slice_get xs k ≡ Some x → tally f (slice_set xs k y) + f x ≡ tally f xs + f y
tally_set f [] k x y e = absurd (none_some e)
tally_set f (z ∷ xs) zero x y e = let same = ap f (some_is z x e) in omega (arith, same)
tally_set f (z ∷ xs) (suc k) x y e = let rest = tally_set f xs k x y e in omega (arith, rest)

-- what counts for something is there
pub tally_from : {X : Type 0} (f : X → ℕ) (xs : List X) → 1 ≤ tally f xs → (x : X) × In x xs × (1 ≤ f x)
tally_from f [] h = absurd (omega (arith, h))
tally_from {X} f (x ∷ xs) h = at (f x) refl (tally_from f xs)
  where
    at : (n : ℕ) → f x ≡ n → (1 ≤ tally f xs → (y : X) × In y xs × (1 ≤ f y)) → (y : X) × In y (x ∷ xs) × (1 ≤ f y)
    at zero e rest = let g = rest (omega (arith, h, e)) in (g.0, inr g.1, g.2)
    at (suc n) e rest = (x, inl refl, omega (arith, e))

-- a member counts
pub tally_there : {X : Type 0} (f : X → ℕ) (xs : List X) (x : X) → In x xs → f x ≤ tally f xs
tally_there f [] x i = absurd i
tally_there f (y ∷ xs) x (inl e) = let same = ap f e in omega (arith, same)
tally_there f (y ∷ xs) x (inr i) = let le = tally_there f xs x i in omega (arith, le)

-- and so do two that differ
pub tally_both : {X : Type 0} (f : X → ℕ) (xs : List X) (x y : X) → In x xs → In y xs → (x ≡ y → ⊥) → f x + f y ≤ tally f xs
tally_both f [] x y i j apart = absurd i
tally_both f (z ∷ xs) x y (inl e) (inl g) apart = absurd (apart (sym e ∙ g))
tally_both f (z ∷ xs) x y (inl e) (inr j) apart = let same = ap f e in let le = tally_there f xs y j in omega (arith, same, le)
tally_both f (z ∷ xs) x y (inr i) (inl g) apart = let same = ap f g in let le = tally_there f xs x i in omega (arith, same, le)
tally_both f (z ∷ xs) x y (inr i) (inr j) apart = let le = tally_both f xs x y i j apart in omega (arith, le)

-- an identifier is the one that is counted
abbrev pub one_if : Bool → ℕ
one_if b = cond b 1 0

abbrev pub weight : MessageId → MessageId → ℕ
weight x id = one_if (same_id x id)

pub weight_apart : (x id : MessageId) → (x ≡ id → ⊥) → weight x id ≡ 0
weight_apart x id apart = at (same_id x id) refl
  where
    at : (b : Bool) → same_id x id ≡ b → one_if b ≡ 0
    at true e = absurd (apart (same_id_is x id e))
    at false e = refl

pub weight_own : (x : MessageId) → weight x x ≡ 1
weight_own x = ap one_if (join_and (same_guid x.qm x.qm) (x.number == x.number) (same_guid_refl x.qm) (same_number x.number))

pub weight_is : (x id : MessageId) → 1 ≤ weight x id → x ≡ id
weight_is x id h = at (same_id x id) refl h
  where
    at : (b : Bool) → same_id x id ≡ b → 1 ≤ one_if b → x ≡ id
    at true e h = same_id_is x id e
    at false e h = absurd (omega (arith, h))

-- durable messages of a place, of all queues
abbrev pub in_lists : MessageId → Lists → ℕ
in_lists x l = tally (λ (m : Message). weight x m.id) l.durable

abbrev pub in_queue : MessageId → Queue → ℕ
in_queue x q = in_lists x q.lists

abbrev pub in_queues : MessageId → Places → ℕ
in_queues x p = tally (in_queue x) p.queues

abbrev pub copies : MessageId → State → ℕ
copies x s = in_queues x s.places

-- what a line says of it: that it left a queue, or joined a stream, and so is in none
abbrev pub left : MessageId → Line → ℕ
left x (line.Took id) = weight x id
left x (line.Purged id) = weight x id
left x (line.Swept id) = weight x id
left x (line.Committed stream number id) = weight x id
left x _ = 0

-- that it arrived from another manager
abbrev pub arrives : MessageId → Line → ℕ
arrives x (line.Put stream number id) = weight x id
arrives x (line.Stored id) = weight x id
arrives x _ = 0

-- that it joined a stream here, or was put where it was sent
abbrev pub begins : MessageId → Line → ℕ
begins x (line.Committed stream number id) = weight x id
begins x (line.Local id) = weight x id
begins x _ = 0

-- one of both
abbrev pub come : MessageId → Line → ℕ
come x l = arrives x l + begins x l

-- Places that change.

module _ (x : MessageId) where
  pub changed_more : (p : Places) (at : EntryPlace) (g : Lists → Lists) (n : ℕ) → ((l : Lists) → in_lists x (g l) ≤ in_lists x l + n) → in_queues x (changed_at p at g) ≤ in_queues x p + n
  changed_more p (place.Queue k) g n more = by (numbered p.queues k) refl
    where
      by : (o : Option Queue) → numbered p.queues k ≡ o
          → in_queues x (option_map_or (λ l. record p { queues = option_map_or (λ q. slice_set p.queues (k - 1) (record q { lists = g l })) o p.queues }) (option_map (λ q. q.lists) o) p) ≤ in_queues x p + n
      by None e = omega arith
      by (Some q) e = let set = tally_set (in_queue x) p.queues (k - 1) q (record q { lists = g q.lists }) (place_there p.queues k q e) in let le = more q.lists in omega (arith, set, le)
  changed_more p (place.JournalOf k) g n more = by (numbered p.queues k) refl
    where
      by : (o : Option Queue) → numbered p.queues k ≡ o
          → in_queues x (option_map_or (λ l. record p { queues = option_map_or (λ q. slice_set p.queues (k - 1) (record q { journal = g l })) o p.queues }) (option_map (λ q. q.journal) o) p) ≤ in_queues x p + n
      by None e = omega arith
      by (Some q) e = let set = tally_set (in_queue x) p.queues (k - 1) q (record q { journal = g q.journal }) (place_there p.queues k q e) in omega (arith, set)
  changed_more p at g n more = omega arith

  -- what is no queue is not counted
  pub elsewhere : (p : Places) (at : EntryPlace) (g : Lists → Lists) → is_queue at ≡ false → in_queues x (changed_at p at g) ≤ in_queues x p
  elsewhere p (place.Queue k) g e = absurd (clash e)
  elsewhere p (place.JournalOf k) g e = by (numbered p.queues k) refl
    where
      by : (o : Option Queue) → numbered p.queues k ≡ o
          → in_queues x (option_map_or (λ l. record p { queues = option_map_or (λ q. slice_set p.queues (k - 1) (record q { journal = g l })) o p.queues }) (option_map (λ q. q.journal) o) p) ≤ in_queues x p
      by None e = omega arith
      by (Some q) e = let set = tally_set (in_queue x) p.queues (k - 1) q (record q { journal = g q.journal }) (place_there p.queues k q e) in omega (arith, set)
  elsewhere p at g e = omega arith

  -- the lists of a queue have fewer
  pub changed_less : (p : Places) (k : ℕ) (g : Lists → Lists) (l : Lists) (n : ℕ) → lists_at p (place.Queue k) ≡ Some l → in_lists x (g l) + n ≤ in_lists x l → in_queues x (changed_at p (place.Queue k) g) + n ≤ in_queues x p
  changed_less p k g l n there less = by (numbered p.queues k) refl there
    where
      by : (o : Option Queue) → numbered p.queues k ≡ o → option_map (λ (q : Queue). q.lists) o ≡ Some l
          → in_queues x (option_map_or (λ l. record p { queues = option_map_or (λ q. slice_set p.queues (k - 1) (record q { lists = g l })) o p.queues }) (option_map (λ q. q.lists) o) p) + n ≤ in_queues x p
      by None e f = absurd (none_some f)
      by (Some q) e f = let set = tally_set (in_queue x) p.queues (k - 1) q (record q { lists = g q.lists }) (place_there p.queues k q e) in
          let le = subst (λ y. in_lists x (g y) + n ≤ in_lists x y) (sym (some_is q.lists l f)) less in omega (arith, set, le)

  pub put_more : (p : Places) (at : EntryPlace) (m : Message) (n : ℕ) → (is_express m.delivery ≡ false → weight x m.id ≤ n) → in_queues x (changed_at p at (put (lane_of m.delivery) m)) ≤ in_queues x p + n
  put_more p at m n few = changed_more p at (put (lane_of m.delivery) m) n (λ l. by m.delivery few l)
    where
      durable : (l : Lists) → weight x m.id ≤ n → tally (λ (y : Message). weight x y.id) (l.durable ++ m ∷ []) ≤ in_lists x l + n
      durable l le = let e = tally_append (λ (y : Message). weight x y.id) l.durable (m ∷ []) in omega (arith, e, le)

      by : (d : Delivery) → (is_express d ≡ false → weight x m.id ≤ n) → (l : Lists) → in_lists x (put (lane_of d) m l) ≤ in_lists x l + n
      by delivery.Express f l = omega arith
      by delivery.Recoverable f l = durable l (f refl)
      by delivery.Transactional f l = durable l (f refl)
