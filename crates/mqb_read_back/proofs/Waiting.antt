-- A recoverable message that was not sent joins those for a peer.
use Rattle.std.proofs.Common.{◌≡◌, ℕ, ◌<◌, List, [], ◌∷◌, ◌++◌, length, Option, Some, None, refl, sym, subst, arith}
use Rattle.std.specs.Option.{IsSomeAnd, option_map_or}
use Rattle.std.specs.Prelude.{All, IsNone, MatchOption, slice_get}
use Rattle.std.proofs.lemmas.List.Elements.{All-append, All-cons, All-nil}
use Rattle.mqb_base.specs.declared.message.Lane.TheVariants.{Durable}
use Rattle.mqb_base.specs.declared.message.Message.{Message}
use Rattle.mqb_contents.specs.mqb_tables.Waits.{CanWait, plain_count}
use Rattle.mqb_plain.specs.Lists.{InOrder, RisesFrom, unsent}
use Rattle.mqb_plain.specs.Plain.{PlainLists}
use Rattle.mqb_plain.specs.declared.outgoing.Outgoing.{Outgoing}
use Rattle.mqb_read_back.proofs.Keeping.{insert_end}

-- nothing was sent behind it
rises_on : (low : ℕ) (items : List Outgoing) (m : Message) → RisesFrom low items → RisesFrom low (items ++ unsent m ∷ [])
rises_on low [] m h = All-nil (λ p. IsNone p.mark)
rises_on low (o ∷ items) m h = at o.mark (λ mark. rises_on mark items m) h
  where
    at : (mark : Option ℕ) → ((mark : ℕ) → RisesFrom mark items → RisesFrom mark (items ++ unsent m ∷ []))
        → MatchOption mark (All (λ p. IsNone p.mark) items) (λ mark. (low < mark) × RisesFrom mark items)
        → MatchOption mark (All (λ p. IsNone p.mark) (items ++ unsent m ∷ [])) (λ mark. (low < mark) × RisesFrom mark (items ++ unsent m ∷ []))
    at None rest h = All-append (λ p. IsNone p.mark) items (unsent m ∷ []) h (All-cons (λ p. IsNone p.mark) (unsent m) [] refl (All-nil (λ p. IsNone p.mark)))
    at (Some mark) rest h = (h.0, rest mark h.1)

pub can_wait : (plain : List PlainLists) (peer k : ℕ) (m : Message) → k ≡ plain_count plain peer Durable
    → IsSomeAnd (slice_get plain peer) (λ p. InOrder p.recoverable) → IsSomeAnd (slice_get plain peer) (CanWait Durable k (unsent m))
can_wait plain peer k m is h = subst (λ n. IsSomeAnd (slice_get plain peer) (CanWait Durable n (unsent m))) (sym is) (at (slice_get plain peer) h)
  where
    at : (o : Option PlainLists) → IsSomeAnd o (λ p. InOrder p.recoverable) → IsSomeAnd o (CanWait Durable (option_map_or (λ p. length p.recoverable) o 0) (unsent m))
    at None h = h
    at (Some p) h = (omega arith, subst InOrder (sym (insert_end p.recoverable (unsent m))) (rises_on 0 p.recoverable m h))
