-- A valid state can be spelled.
use Rattle.std.proofs.Common.{◌≡◌, ◌≤◌, ◌<◌, ℕ, List, [], ◌∷◌, ◌++◌, None, Option, Some, get_or, inl, inr, refl, subst, sym, ◌∙◌, arith}
use Rattle.std.proofs.lemmas.Bool.{ltb-false}
use Rattle.std.proofs.lemmas.List.Elements.{All-cons, All-head, All-nil, All-tail}
use Rattle.std.proofs.lemmas.Option.{get_or_from_slice_get, slice_get_cases}
use Rattle.std.specs.Prelude.{All, IsSomeAnd, flat_map, length, map, slice_get}
use Rattle.mqb_base.specs.declared.message.Message.{Message}
use Rattle.mqb_heads.specs.declared.base.TheConstants.{MAX_PACKET}
use Rattle.mqb_model.specs.state.State.{State}
use Rattle.mqb_model.specs.state.Valid.{IsCarried, IsValidState}
use Rattle.mqb_packet.specs.Plain.{message_size}
use Rattle.mqb_packet.specs.declared.packet.Headers.TheVariants.{Bare, Session, TxAndSession}
use Rattle.mqb_plain.specs.Lists.{messages_of}
use Rattle.mqb_snapshot.specs.Spellable.{IsSpellable}
use Rattle.mqb_snapshot.specs.Spelled.{IsSized}

pub append_left : {X : Type 0} (P : X → Type 0) (xs ys : List X) → All P (xs ++ ys) → All P xs
append_left P [] ys h = All-nil P
append_left P (x ∷ xs) ys h = All-cons P x xs (All-head P x (xs ++ ys) h) (append_left P xs ys (All-tail P x (xs ++ ys) h))

pub append_right : {X : Type 0} (P : X → Type 0) (xs ys : List X) → All P (xs ++ ys) → All P ys
append_right P [] ys h = h
append_right P (x ∷ xs) ys h = append_right P xs ys (All-tail P x (xs ++ ys) h)

-- what holds of all members of lists holds of those of each
pub each_of : {X Y : Type 0} (P : Y → Type 0) (f : X → List Y) (xs : List X) → All P (flat_map f xs) → All (λ x. All P (f x)) xs
each_of P f [] h = All-nil (λ x. All P (f x))
each_of P f (x ∷ xs) h =
    All-cons (λ x. All P (f x)) x xs (append_left P (f x) (flat_map f xs) h) (each_of P f xs (append_right P (f x) (flat_map f xs) h))

pub unmapped : {X Y : Type 0} (P : Y → Type 0) (f : X → Y) (xs : List X) → All P (map f xs) → All (λ x. P (f x)) xs
unmapped P f [] h = All-nil (λ x. P (f x))
unmapped P f (x ∷ xs) h = All-cons (λ x. P (f x)) x xs (All-head P (f x) (map f xs) h) (unmapped P f xs (All-tail P (f x) (map f xs) h))

-- what holds of each member holds of the one at an index
pub all_there : {X : Type 0} (P : X → Type 0) (xs : List X) (i : ℕ) → All P xs → i < length xs → IsSomeAnd (slice_get xs i) P
all_there {X} P xs i all within = at (slice_get xs i) refl
  where
    apart : (x : X) → Some x ≡ None → ⊥
    apart x e = cc

    here_not_past : length xs ≤ i → ⊥
    here_not_past past = omega arith

    not_none : slice_get xs i ≡ None → ⊥
    not_none got = elim (slice_get_cases xs i).1 [
      | inl here ↦ apart here.0 (sym here.2 ∙ got)
      | inr past ↦ here_not_past past.0
    ]

    at : (o : Option X) → slice_get xs i ≡ o → IsSomeAnd o P
    at (Some x) got = subst P (get_or_from_slice_get xs i x x got) (all i x within)
    at None got = absurd (not_none got)

-- and what holds of what is seen of each
pub item_of : {X Y : Type 0} (P : Y → Type 0) (f : X → Y) (xs : List X) (i : ℕ) (x : X) → All P (map f xs) → i < length xs → x ≡ get_or xs i x → P (f x)
item_of P f xs i x all within is = subst (λ y. P (f y)) (sym is) (unmapped P f xs all i x within)

pub bare : (m : Message) → IsCarried Bare m → IsSized m
bare m c = record { well_formed = c.well_formed; size = ltb-false MAX_PACKET (message_size Bare m) c.size }

pub in_session : (m : Message) → IsCarried Session m → IsSized m
in_session m c = let most : message_size Session m ≤ MAX_PACKET = ltb-false MAX_PACKET (message_size Session m) c.size in
    record { well_formed = c.well_formed; size = omega (arith, most) }

pub in_transaction : (m : Message) → IsCarried TxAndSession m → IsSized m
in_transaction m c = let most : message_size TxAndSession m ≤ MAX_PACKET = ltb-false MAX_PACKET (message_size TxAndSession m) c.size in
    record { well_formed = c.well_formed; size = omega (arith, most) }

pub spellable : (s : State) → IsValidState s → IsSpellable s
spellable s v = record {
  places = record {
    queues = λ k d lt. (
      λ j e less. bare _ (append_left (IsCarried Bare) _ _ (queue_at k d lt) j e less),
      λ j e less. bare _ (append_right (IsCarried Bare) _ _ (queue_at k d lt) j e less),
    );
    dead = λ j e less. bare _ (append_right (IsCarried Bare) in_queues s.places.dead.durable two j e less);
    dead_xact = λ j e less. bare _ (append_right (IsCarried Bare) (in_queues ++ s.places.dead.durable) s.places.dead_xact.durable three j e less);
    journal = λ j e less. bare _ (append_right (IsCarried Bare) (in_queues ++ s.places.dead.durable ++ s.places.dead_xact.durable) s.places.journal.durable v.placed j e less);
  };
  plain = λ k d lt j e less. in_session _ (each_of (IsCarried Session) (λ p. messages_of p.recoverable) s.plain v.plain k d lt j e less);
  kept = kept_at;
  outs = v.outs_to_queues;
  ins = v.ins_to_queues;
}
  where
    in_queues : List Message
    in_queues = flat_map (λ q. q.lists.durable ++ q.journal.durable) s.places.queues

    three : All (IsCarried Bare) (in_queues ++ s.places.dead.durable ++ s.places.dead_xact.durable)
    three = append_left (IsCarried Bare) (in_queues ++ s.places.dead.durable ++ s.places.dead_xact.durable) s.places.journal.durable v.placed

    two : All (IsCarried Bare) (in_queues ++ s.places.dead.durable)
    two = append_left (IsCarried Bare) (in_queues ++ s.places.dead.durable) s.places.dead_xact.durable three

    queue_at : All (λ q. All (IsCarried Bare) (q.lists.durable ++ q.journal.durable)) s.places.queues
    queue_at = each_of (IsCarried Bare) (λ q. q.lists.durable ++ q.journal.durable) s.places.queues (append_left (IsCarried Bare) in_queues s.places.dead.durable two)

    kept_at : All (λ row. All (λ k. IsSized k.message) row.kept) s.outs
    kept_at k d lt j e less =
        in_transaction _ (unmapped (IsCarried TxAndSession) (λ k. k.message) _ (each_of (IsCarried TxAndSession) (λ row. map (λ k. k.message) row.kept) s.outs v.kept k d lt) j e less)
