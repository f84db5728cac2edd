-- An unsent message joins the plain messages for a peer.
use Rattle.std.proofs.Common.{◌≡◌, ℕ, ◌<◌, List, [], ◌∷◌, ◌++◌, length, Option, Some, None, refl, sym, subst, arith}
use Rattle.std.specs.Option.{IsSomeAnd, option_map_or}
use Rattle.std.specs.Prelude.{All, IsNone, MatchOption, slice_get}
use Rattle.std.proofs.lemmas.List.Elements.{All-append, All-cons, All-nil}
use Rattle.mqb_base.specs.declared.message.Lane.{Lane}
use Rattle.mqb_base.specs.declared.message.Message.{Message}
use Rattle.mqb_contents.specs.mqb_tables.Waits.{CanWait, plain_count}
use Rattle.mqb_plain.specs.Lists.{InOrder, RisesFrom, unsent}
use Rattle.mqb_plain.specs.Plain.{PlainLists, outgoing_in}
use Rattle.mqb_plain.specs.declared.outgoing.Outgoing.{Outgoing}
use Rattle.mqb_drafts.proofs.Ends.{insert_end}

-- nothing was sent behind it
pub rises_on : (low : ℕ) (items : List Outgoing) (m : Message) → RisesFrom low items → RisesFrom low (items ++ unsent m ∷ [])
rises_on low [] m h = All-nil (λ p. IsNone p.mark)
rises_on low (o ∷ items) m h = at o.mark (λ mark. rises_on mark items m) h
  where
    at : (mark : Option ℕ) → ((mark : ℕ) → RisesFrom mark items → RisesFrom mark (items ++ unsent m ∷ []))
        → MatchOption mark (All (λ p. IsNone p.mark) items) (λ mark. (low < mark) × RisesFrom mark items)
        → MatchOption mark (All (λ p. IsNone p.mark) (items ++ unsent m ∷ [])) (λ mark. (low < mark) × RisesFrom mark (items ++ unsent m ∷ []))
    at None rest h = All-append (λ p. IsNone p.mark) items (unsent m ∷ []) h (All-cons (λ p. IsNone p.mark) (unsent m) [] refl (All-nil (λ p. IsNone p.mark)))
    at (Some mark) rest h = (h.0, rest mark h.1)

waits : (kind : Lane) (p : PlainLists) (m : Message) → InOrder (outgoing_in kind p) → CanWait kind (length (outgoing_in kind p)) (unsent m) p
waits kind p m h = (
  omega arith,
  subst InOrder (sym (insert_end (outgoing_in kind p) (unsent m))) (rises_on 0 (outgoing_in kind p) m h),
)

pub can_wait : (kind : Lane) (plain : List PlainLists) (peer k : ℕ) (m : Message) → k ≡ plain_count plain peer kind
    → IsSomeAnd (slice_get plain peer) (λ p. InOrder (outgoing_in kind p)) → IsSomeAnd (slice_get plain peer) (CanWait kind k (unsent m))
can_wait kind plain peer k m is h = subst (λ n. IsSomeAnd (slice_get plain peer) (CanWait kind n (unsent m))) (sym is) (at (slice_get plain peer) h)
  where
    at : (o : Option PlainLists) → IsSomeAnd o (λ p. InOrder (outgoing_in kind p))
        → IsSomeAnd o (CanWait kind (option_map_or (λ p. length (outgoing_in kind p)) o 0) (unsent m))
    at None h = h
    at (Some p) h = waits kind p m h
