-- How far sequences came, once one more end is noted.
use Rattle.std.proofs.Common.{refl, ap, ap₂, sym, ◌∙◌, arith, get_or, length, set, take}
use Rattle.std.proofs.lemmas.Bool.{and_parts, eqb-true, true≢false}
use Rattle.std.proofs.lemmas.List.{length-set, take_all, take_more, take_more_set}
use Rattle.std.proofs.lemmas.Option.{get_or_from_slice_get, slice_get_within}
use Rattle.std.specs.Cmp.Lexicographic.{bytes_decides}
use Rattle.std.specs.Option.{option_map_or}
use Rattle.std.specs.Prelude.{[], ◌&&◌, ◌++◌, ◌+◌, ◌-◌, ◌<◌, ◌==◌, ◌∷◌, ◌≡◌, Bool, List, None, Option, Some, cond, false, fold, option_map, slice_get, true, ℕ}
use Rattle.mqb_base.specs.Same.{same_flag, same_guid, same_host, same_kind, same_name}
use Rattle.mqb_base.specs.declared.ids.Guid.{Guid}
use Rattle.mqb_base.specs.declared.ids.SequenceId.{SequenceId}
use Rattle.mqb_base.specs.declared.queue_names.Host.{Host}
use Rattle.mqb_base.specs.declared.queue_names.Host.TheVariants.{Os, Tcp}
use Rattle.mqb_base.specs.declared.queue_names.MachineQueue.{MachineQueue}
use Rattle.mqb_base.specs.declared.queue_names.MachineQueue.TheVariants.{DeadLetter, DeadXact, Journal}
use Rattle.mqb_base.specs.declared.queue_names.QueueName.{QueueName}
use Rattle.mqb_base.specs.declared.queue_names.QueueName.TheVariants.{Direct, Machine, Private, Public}
use Rattle.mqb_orders.specs.declared.keys.OutKey.{OutKey}
use Rattle.mqb_model.specs.state.Rows.{last_sequence}
use Rattle.mqb_model.specs.state.State.{State}
use Rattle.mqb_trying.specs.declared.notes.SequenceEnd.{SequenceEnd}
use Rattle.mqb_trying.specs.Sends.{end_of, end_with, last_end, last_leads_to, leads_to, with_end}

fold_push : {X Y : Type 0} (f : Y → X → Y) (y : Y) (xs : List X) (x : X) → fold f y (xs ++ x ∷ []) ≡ f (fold f y xs) x
fold_push f y [] x = refl
fold_push f y (z ∷ xs) x = fold_push f (f y z) xs x

-- another member stands in the place of the last one, which says nothing beside it
fold_last : {X Y : Type 0} (f : Y → X → Y) (y : Y) (xs : List X) (last x : X) → slice_get xs (length xs - 1) ≡ Some last → ((z : Y) → f (f z last) x ≡ f z x)
    → fold f y (set xs (length xs - 1) x) ≡ f (fold f y xs) x
fold_last {X} f y xs last x there over = ap (fold f y) changed ∙ fold_push f y front x ∙ sym (over (fold f y front)) ∙ sym (ap (λ z. f z x) (fold_push f y front last))
    ∙ sym (ap (λ (zs : List X). f (fold f y zs) x) parts)
  where
    i : ℕ
    i = length xs - 1

    front : List X
    front = take i xs

    within : i < length xs
    within = slice_get_within xs i last there

    parts : xs ≡ front ++ last ∷ []
    parts = sym (take_all (i + 1) xs (omega (arith, within))) ∙ take_more xs i last within ∙ ap (λ (z : X). front ++ z ∷ []) (get_or_from_slice_get xs i last last there)

    changed : set xs i x ≡ front ++ x ∷ []
    changed = sym (take_all (i + 1) (set xs i x) (omega (arith, within, length-set xs i x))) ∙ take_more_set xs i x within

-- Names that test as the same are the same.

same_flag_is : (a b : Bool) → same_flag a b ≡ true → a ≡ b
same_flag_is true true h = refl
same_flag_is false false h = refl
same_flag_is true false h = absurd (true≢false (sym h))
same_flag_is false true h = absurd (true≢false (sym h))

same_guid_is : (a b : Guid) → same_guid a b ≡ true → a ≡ b
same_guid_is a b h = ap (λ (x : List ℕ). record { 0 = x }) ((bytes_decides a.0 b.0).0 h)

same_host_is : (a b : Host) → same_host a b ≡ true → a ≡ b
same_host_is (Os a) (Os b) h = ap (λ (x : List ℕ). Os x) ((bytes_decides a b).0 h)
same_host_is (Tcp a) (Tcp b) h = ap (λ (x : List ℕ). Tcp x) ((bytes_decides a b).0 h)
same_host_is _ _ h = absurd (true≢false (sym h))

same_kind_is : (a b : MachineQueue) → same_kind a b ≡ true → a ≡ b
same_kind_is DeadLetter DeadLetter h = refl
same_kind_is DeadXact DeadXact h = refl
same_kind_is Journal Journal h = refl
same_kind_is _ _ h = absurd (true≢false (sym h))

same_name_is : (a b : QueueName) → same_name a b ≡ true → a ≡ b
same_name_is (Public g i) (Public h j) e = let p = and_parts _ _ e in ap₂ (λ x y. Public x y) (same_guid_is g h p.0) (same_flag_is i j p.1)
same_name_is (Private g m i) (Private h n j) e =
    let p = and_parts _ _ e in
    let q = and_parts _ _ p.0 in
    let guid : g ≡ h = same_guid_is g h q.0 in
    let number : m ≡ n = eqb-true m n q.1 in
    let flag : i ≡ j = same_flag_is i j p.1 in
    rw (guid, number, flag) refl
same_name_is (Direct a p i) (Direct b q j) e =
    let x = and_parts _ _ e in
    let y = and_parts _ _ x.0 in
    let host : a ≡ b = same_host_is a b y.0 in
    let queue : p ≡ q = (bytes_decides p q).0 y.1 in
    let flag : i ≡ j = same_flag_is i j x.1 in
    rw (host, queue, flag) refl
same_name_is (Machine g k) (Machine h l) e = let p = and_parts _ _ e in ap₂ (λ x y. Machine x y) (same_guid_is g h p.0) (same_kind_is k l p.1)
same_name_is _ _ e = absurd (true≢false (sym e))

-- two ends lead to the same
same_place : (e last : SequenceEnd) → leads_to e.peer e.destination last ≡ true → (last.peer ≡ e.peer) × (last.destination ≡ e.destination)
same_place e last leads = let both = and_parts (last.peer == e.peer) (same_name last.destination e.destination) leads in
    (eqb-true last.peer e.peer both.0, same_name_is last.destination e.destination both.1)

-- what decides where an end is noted
abbrev leads : SequenceEnd → Option SequenceEnd → Bool
leads e o = option_map_or (leads_to e.peer e.destination) o false

abbrev noted : List SequenceEnd → SequenceEnd → Bool → List SequenceEnd
noted ends e b = cond b (set ends (length ends - 1) e) (ends ++ e ∷ [])

-- The last end is taken on.

pub taken_on : (ends : List SequenceEnd) (n : ℕ) (last e : SequenceEnd) → n ≡ length ends → last ≡ get_or ends (n - 1) last → last_leads_to e.peer e.destination ends ≡ true
    → set ends (n - 1) (record { peer = last.peer; destination = last.destination; sequence = e.sequence; number = e.number }) ≡ with_end ends e
taken_on ends n last e all read there = at (slice_get ends (length ends - 1)) refl
  where
    at : (o : Option SequenceEnd) → slice_get ends (length ends - 1) ≡ o
        → set ends (n - 1) (record { peer = last.peer; destination = last.destination; sequence = e.sequence; number = e.number }) ≡ with_end ends e
    at None none = absurd (true≢false (sym there ∙ ap (leads e) none))
    at (Some x) some =
        let same : x ≡ last = sym (get_or_from_slice_get ends (length ends - 1) x last some) ∙ ap (λ n. get_or ends (n - 1) last) (sym all) ∙ sym read in
        let place : (last.peer ≡ e.peer) × (last.destination ≡ e.destination) = same_place e last (ap (leads_to e.peer e.destination) (sym same) ∙ sym (ap (leads e) some) ∙ there) in
        ap (λ n. set ends (n - 1) (record { peer = last.peer; destination = last.destination; sequence = e.sequence; number = e.number })) all
        ∙ ap₂ (λ (peer : ℕ) (destination : QueueName). set ends (length ends - 1) (record { peer = peer; destination = destination; sequence = e.sequence; number = e.number })) place.0 place.1
        ∙ sym (ap (noted ends e) there)

-- How far sequences came then.

over : {Z : Type 0} (b c : Bool) → b ≡ c → (x y z : Z) → cond c x (cond b y z) ≡ cond c x z
over b true e x y z = refl
over false false e x y z = refl
over true false e x y z = absurd (true≢false e)

module _ (s : State) (ends : List SequenceEnd) (e : SequenceEnd) (key : OutKey) where
  abbrev row : Option (SequenceId × ℕ)
  row = option_map end_of (last_sequence s key.peer key.destination)

  abbrev f : Option (SequenceId × ℕ) → SequenceEnd → Option (SequenceId × ℕ)
  f = end_with key.peer key.destination

  added : last_leads_to e.peer e.destination ends ≡ false → fold f row (with_end ends e) ≡ f (fold f row ends) e
  added apart = ap (λ b. fold f row (noted ends e b)) apart ∙ fold_push f row ends e

  changed : (last : SequenceEnd) → slice_get ends (length ends - 1) ≡ Some last → (b : Bool) → leads_to e.peer e.destination last ≡ b → fold f row (with_end ends e) ≡ f (fold f row ends) e
  changed last there false apart = added (ap (leads e) there ∙ apart)
  changed last there true same = ap (λ b. fold f row (noted ends e b)) (ap (leads e) there ∙ same) ∙ fold_last f row ends last e there
      (over (leads_to key.peer key.destination last) (leads_to key.peer key.destination e)
      (ap₂ (λ p d. p == key.peer && same_name d key.destination) (same_place e last same).0 (same_place e last same).1) (Some (e.sequence, e.number)) (Some (last.sequence, last.number)))

  -- one end more
  pub last_more : last_end s (with_end ends e) key.peer key.destination ≡ end_with key.peer key.destination (last_end s ends key.peer key.destination) e
  last_more = at (slice_get ends (length ends - 1)) refl
    where
      at : (o : Option SequenceEnd) → slice_get ends (length ends - 1) ≡ o → fold f row (with_end ends e) ≡ f (fold f row ends) e
      at None there = added (ap (leads e) there)
      at (Some last) there = changed last there (leads_to e.peer e.destination last) refl
