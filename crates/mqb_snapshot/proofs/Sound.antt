-- What holds of the parts that were read so far: the state would be valid, but for its counters.
use Rattle.std.proofs.Common.{◌≡◌, ◌≤◌, ◌<◌, ◌^◌, ℕ, Bool, true, false, List, [], ◌∷◌, ◌++◌, length, map, ◌⊎◌, inl, inr, refl, sym, ap, subst, ◌∙◌, arith}
use Rattle.std.proofs.lemmas.Bool.{and_parts, ltb-true, not-true, or_parts}
use Rattle.std.proofs.lemmas.Bool.Decides.{nat_tests}
use Rattle.std.specs.List.{AllByRecursion, list_all, list_any}
use Rattle.std.specs.Prelude.{◌&&◌, ◌==◌, IsTrue, nat_lt, not}
use Rattle.mqb_base.specs.QueueNames.{names_queue}
use Rattle.mqb_base.specs.Same.{same_guid, same_id}
use Rattle.mqb_base.specs.declared.ids.Guid.{Guid}
use Rattle.mqb_base.specs.declared.ids.Identity.{Identity}
use Rattle.mqb_base.specs.declared.message.Message.{Message}
use Rattle.mqb_model.specs.declared.limits.TheConstants.{MAX_PEERS, MAX_QUEUES}
use Rattle.mqb_model.specs.records.Packets.{is_recoverable}
use Rattle.mqb_model.specs.state.Places.{is_express}
use Rattle.mqb_model.specs.state.Rows.{is_row_of}
use Rattle.mqb_model.specs.state.State.{State}
use Rattle.mqb_model.specs.state.Valid.{AreNew, IsCarried, IsInOrder, kept_messages, met_among, placed_messages, recoverable_messages, taken_among}
use Rattle.mqb_names.specs.Values.{IsQueueName}
use Rattle.mqb_orders.specs.Rows.{Row}
use Rattle.mqb_orders.specs.declared.rows.InRow.{InRow}
use Rattle.mqb_packet.specs.declared.packet.Headers.{Headers}
use Rattle.mqb_packet.specs.declared.packet.Headers.TheVariants.{Bare, Session, TxAndSession}
use Rattle.mqb_queue.specs.Places.{Queue}
use Rattle.mqb_snapshot.proofs.Members.{Pairs, all_weaker}
use Rattle.mqb_snapshot.specs.Fields.{is_own}
use Rattle.mqb_snapshot.specs.Parts.{Parts}
use Rattle.mqb_snapshot.specs.Values.{IsHeld, IsIdentity, IsIn, IsPlan}
use Rattle.mqb_snapshot.proofs.Lists.{IsGrown, all_grown, pairs_grown}

-- Parts of a state.

pub record ArePeers (own : Identity) (peers : List Identity) : Type 0 where
  pub few : length peers ≤ MAX_PEERS
  pub differ : AreNew met_among (own ∷ []) peers
  pub each : AllByRecursion IsIdentity peers

pub record AreQueues (queues : List Queue) : Type 0 where
  pub few : length queues ≤ MAX_QUEUES
  pub differ : AreNew taken_among [] queues
  pub each : AllByRecursion IsPlan (map (λ q. q.plan) queues)

-- a message that can be carried with these headers
abbrev pub CanBeCarried : Headers → Message → Type 0
CanBeCarried beside m = IsCarried beside m × IsHeld m

abbrev pub IsPlaced : Message → Type 0
IsPlaced m = CanBeCarried Bare m × (is_express m.delivery ≡ false)

abbrev pub IsWaiting : Message → Type 0
IsWaiting m = CanBeCarried Session m × (is_recoverable m.delivery ≡ true)

-- an outgoing row where there are so many peers
pub record IsSoundRow (peers : ℕ) (row : Row) : Type 0 where
  pub order : IsInOrder peers row
  pub first : 1 ≤ row.sequence.ordinal
  pub stamp : row.sequence.stamp < 2 ^ 32
  pub destination : IsQueueName row.destination
  pub queue : IsTrue (names_queue row.destination)

abbrev pub Rise : Row → Row → Type 0
Rise a b = a.sequence.ordinal < b.sequence.ordinal

pub record AreOuts (peers : ℕ) (outs : List Row) : Type 0 where
  pub rise : Pairs Rise outs
  pub each : AllByRecursion (IsSoundRow peers) outs

abbrev pub Differ : InRow → InRow → Type 0
Differ a b = is_row_of a.source a.destination b ≡ false

pub record AreIns (ins : List InRow) : Type 0 where
  pub differ : Pairs Differ ins
  pub each : AllByRecursion (λ row. IsIn row × IsTrue (names_queue row.destination)) ins

-- a number is one of these
abbrev pub Among : ℕ → List ℕ → Type 0
Among n [] = ⊥
Among n (k ∷ ks) = (n ≡ k) ⊎ Among n ks

-- messages of one manager that differ, with these numbers
pub record AreOwn (own : Guid) (numbers : List ℕ) (messages : List Message) : Type 0 where
  pub source : AllByRecursion (λ m. same_guid m.id.qm own ≡ true) messages
  pub known : AllByRecursion (λ m. Among m.id.number numbers) messages
  pub differ : Pairs (λ a b. same_id a.id b.id ≡ false) messages

abbrev pub own_messages : State → List Message
own_messages s = kept_messages s ++ recoverable_messages s

pub record IsSound (p : Parts) : Type 0 where
  pub identity : IsIdentity p.state.identity
  pub peers : ArePeers p.state.identity p.state.peers
  pub lists : length p.state.plain ≡ length p.state.peers
  pub queues : AreQueues p.state.places.queues
  pub placed : AllByRecursion IsPlaced (placed_messages p.state)
  pub outs : AreOuts (length p.state.peers) p.state.outs
  pub ins : AreIns p.state.ins
  pub kept : AllByRecursion (CanBeCarried TxAndSession) (kept_messages p.state)
  pub waiting : AllByRecursion IsWaiting (recoverable_messages p.state)
  pub own : AreOwn p.state.identity.guid p.numbers (own_messages p.state)

-- Numbers that were read.

among_front : (n : ℕ) (xs ys : List ℕ) → Among n xs → Among n (xs ++ ys)
among_front n [] ys h = absurd h
among_front n (x ∷ xs) ys (inl same) = inl same
among_front n (x ∷ xs) ys (inr rest) = inr (among_front n xs ys rest)

among_end : (n : ℕ) (xs : List ℕ) → Among n (xs ++ n ∷ [])
among_end n [] = inl refl
among_end n (x ∷ xs) = inr (among_end n xs)

-- another number is none of these
apart : (n m : ℕ) (ks : List ℕ) → list_any (λ k. n == k) ks ≡ false → Among m ks → (n == m) ≡ false
apart n m [] none h = absurd h
apart n m (k ∷ ks) none (inl same) = ap (λ (j : ℕ). n == j) same ∙ (or_parts (n == k) (list_any (λ k. n == k) ks) none).0
apart n m (k ∷ ks) none (inr rest) = apart n m ks (or_parts (n == k) (list_any (λ k. n == k) ks) none).1 rest

pub below_next : (n next : ℕ) (ks : List ℕ) → list_all (λ k. nat_lt k next) ks ≡ true → Among n ks → n < next
below_next n next [] all h = absurd h
below_next n next (k ∷ ks) all (inl same) =
    let first : k < next = ltb-true k next (and_parts (nat_lt k next) (list_all (λ k. nat_lt k next) ks) all).0 in
    subst (λ (j : ℕ). j < next) (sym same) first
below_next n next (k ∷ ks) all (inr rest) = below_next n next ks (and_parts (nat_lt k next) (list_all (λ k. nat_lt k next) ks) all).1 rest

-- A message more of the manager.

and_false : (a b : Bool) → b ≡ false → (a && b) ≡ false
and_false true b e = e
and_false false b e = refl

turned : (m n : ℕ) → (m == n) ≡ false → (n == m) ≡ false
turned m n e = grind (arith, nat_tests)

pub own_more : (p : Parts) (m : Message) (before after : List Message) → IsGrown m before after → is_own p m ≡ true → AreOwn p.state.identity.guid p.numbers before
    → AreOwn p.state.identity.guid (p.numbers ++ m.id.number ∷ []) after
own_more p m before after grown own is = record {
  source = all_grown (λ a. same_guid a.id.qm p.state.identity.guid ≡ true) m before after grown is.source parts.0;
  known = all_grown (λ a. Among a.id.number more) m before after grown
      (all_weaker (λ a. Among a.id.number p.numbers) (λ a. Among a.id.number more) (λ a h. among_front a.id.number p.numbers (m.id.number ∷ []) h) before is.known)
      (among_end m.id.number p.numbers);
  differ = pairs_grown (λ a b. same_id a.id b.id ≡ false) m before after grown is.differ
      (all_weaker (λ a. Among a.id.number p.numbers) (λ a. (same_id a.id m.id ≡ false) × (same_id m.id a.id ≡ false)) other before is.known);
}
  where
    more : List ℕ
    more = p.numbers ++ m.id.number ∷ []

    parts : (same_guid m.id.qm p.state.identity.guid ≡ true) × (not (list_any (λ n. m.id.number == n) p.numbers) ≡ true)
    parts = and_parts _ _ own

    other : (a : Message) → Among a.id.number p.numbers → (same_id a.id m.id ≡ false) × (same_id m.id a.id ≡ false)
    other a h =
        let new = apart m.id.number a.id.number p.numbers (not-true _ parts.1) h in
        (and_false (same_guid a.id.qm m.id.qm) (a.id.number == m.id.number) (turned m.id.number a.id.number new), and_false (same_guid m.id.qm a.id.qm) (m.id.number == a.id.number) new)
