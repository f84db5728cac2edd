-- Over all managers no more copies stand in queues, or left them, than came, or one that was sent where it stands.
use Rattle.std.proofs.Common.{refl, ap, sym, subst, ◌∙◌, arith}
use Rattle.std.specs.List.{AllByRecursion}
use Rattle.std.specs.Prelude.{[], ◌&&◌, ◌+◌, ◌<◌, ◌==◌, ◌∷◌, ◌≡◌, ◌≤◌, Bool, List, Some, cond, false, length, nat_lt, slice_get, suc, sum_by, true, zero, ℕ}
use Rattle.mqb_base.specs.Same.{same_guid, same_id}
use Rattle.mqb_base.specs.declared.ids.Identity.{Identity}
use Rattle.mqb_base.specs.declared.ids.MessageId.{MessageId}
use Rattle.mqb_base.specs.declared.ledger.Line.{Line}
use Rattle.mqb_base.specs.declared.message.Message.{Message}
use Rattle.mqb_exactly_once.specs.Words.{In}
use Rattle.mqb_model.specs.declared.limits.TheConstants.{FIRST_EXPRESS}
use Rattle.mqb_model.specs.managers.Manager.{Manager}
use Rattle.mqb_model.specs.state.State.{State}
use Rattle.mqb_network.specs.Courses.{Course, Written}
use Rattle.mqb_network.specs.Laws.{AreApart, lines_written}
use Rattle.mqb_network.specs.Network.{manager_at, nobody}
use Rattle.mqb_queue.specs.Places.{Queue}
use Rattle.mqb_history.specs.Copies.{bearing, standing}
use Rattle.mqb_history.specs.Decided.{written_of}
use Rattle.mqb_history.specs.Orderly.{IsOrderly}
use Rattle.mqb_history.specs.Truths.{all_of}
use Rattle.mqb_history.proofs.Courses.{Agrees, one_guid}
use Rattle.mqb_history.proofs.Fates.{IsFairExpress, ListsFair}
use Rattle.mqb_history.proofs.Gone.{IsAccounted, IsGone}
use Rattle.mqb_history.proofs.Having.{QueueHas}
use Rattle.mqb_history.proofs.Lists.{equal_numbers, get_within, apart_numbers, within_get}
use Rattle.mqb_history.proofs.Names.{same_guid_is}
use Rattle.mqb_history.proofs.Noticed.{guid_of, heard_in}
use Rattle.mqb_history.proofs.Owned.{given, given_once}
use Rattle.mqb_history.proofs.Remaining.{arrivals, beginnings, lefts}
use Rattle.mqb_history.proofs.Sums.{lines_split, summed, summed_less, summed_one, summed_plus, tally_is, tally_members}
use Rattle.mqb_history.proofs.Tallies.{arrives, begins, copies, in_queue, left, one_if, tally, tally_append, weight, weight_apart}

-- Who gave a number.

pub given_own : (x : MessageId) (s : State) → 1 ≤ given x s → x.qm ≡ s.identity.guid
given_own x s h = at (same_guid x.qm s.identity.guid) refl h
  where
    at : (b : Bool) → same_guid x.qm s.identity.guid ≡ b → 1 ≤ one_if (b && nat_lt x.number s.next_number) → x.qm ≡ s.identity.guid
    at true e one = same_guid_is x.qm s.identity.guid e
    at false e one = absurd (omega (arith, one))

-- What queues have. Express messages bear other numbers.

module _ (T : Line → Type 0) (id : MessageId) (low : id.number < FIRST_EXPRESS) where
  express_apart : (ms : List Message) → AllByRecursion (IsFairExpress T) ms → tally (λ (m : Message). weight id m.id) ms ≡ 0
  express_apart [] h = omega arith
  express_apart (m ∷ ms) h = let one = weight_apart id m.id (λ e. let same = ap (λ (i : MessageId). i.number) e in let high = h.0.0.express h.0.1 in omega (arith, same, high, low)) in let rest = express_apart ms h.1 in omega (arith, one, rest)

  bearing_is : (q : Queue) → ListsFair T q.lists → bearing id q ≡ in_queue id q
  bearing_is q h = let all = tally_is (λ (m : Message). cond (same_id id m.id) 1 0) (all_of q.lists) in let both = tally_append (λ (m : Message). weight id m.id) q.lists.durable q.lists.express in
      let none = express_apart q.lists.express h.express in omega (arith, all, both, none)

  queues_are : (qs : List Queue) → AllByRecursion (QueueHas (ListsFair T)) qs → sum_by (bearing id) qs ≡ tally (in_queue id) qs
  queues_are qs h = let all = tally_is (bearing id) qs in let same = each qs h in omega (arith, all, same)
    where
      each : (qs : List Queue) → AllByRecursion (QueueHas (ListsFair T)) qs → tally (bearing id) qs ≡ tally (in_queue id) qs
      each [] h = omega arith
      each (q ∷ qs) h = let one = bearing_is q h.0.0 in let rest = each qs h.1 in omega (arith, one, rest)

module _ (known : List Identity) (apart : AreApart known) (c : Course) (t : IsAccounted known c) (id : MessageId) where
  abbrev o : IsOrderly known c
  o = t.agreed.0.0

  abbrev h : Agrees known c
  h = t.agreed.1

  abbrev count : ℕ
  count = length c.network.managers

  abbrev state : ℕ → State
  state k = (manager_at c.network k).state

  abbrev mine : ℕ → List Line
  mine k = lines_written (written_of k c.written)

  who : (k : ℕ) → k < count → (own : Identity) × (slice_get known k ≡ Some own)
  who k lt = within_get known k (subst (λ n. k < n) o.count lt)

  -- each line is of a manager
  pub by_manager : (w : Written) → In w c.written → w.by < count
  by_manager w i = let g = heard_in known apart c o h w i in subst (λ n. w.by < n) (sym o.count) (get_within known w.by g.0 g.1)

  pub over_all : (f : Line → ℕ) → tally f (lines_written c.written) ≡ summed (λ k. tally f (mine k)) count
  over_all f = lines_split f c.written count by_manager

  -- one manager gave the number
  one_giver : (j k : ℕ) → j < count → k < count → 1 ≤ given id (state j) → 1 ≤ given id (state k) → j ≡ k
  one_giver j k a b f g = let x = who j a in let y = who k b in one_guid known j k x.0 y.0 apart x.1 y.1
      (sym (guid_of known apart c o h j x.0 x.1) ∙ sym (given_own id (state j) f) ∙ given_own id (state k) g ∙ guid_of known apart c o h k y.0 y.1)

  pub numbered_once : summed (λ k. given id (state k)) count ≤ 1
  numbered_once = summed_one (λ k. given id (state k)) count (λ k. given_once id (state k)) one_giver

  -- and lets it begin once
  pub begun_once : tally (begins id) (lines_written c.written) ≤ 1
  begun_once = let all = over_all (begins id) in let less = summed_less (λ k. beginnings id (mine k)) (λ k. given id (state k)) count (λ k lt. (t.tallied k).begun id) in let one = numbered_once in omega (arith, all, less, one)

  -- Copies.

  stands : id.number < FIRST_EXPRESS → standing id c ≤ summed (λ k. copies id (state k)) count
  stands low = let all = tally_is (λ (m : Manager). sum_by (bearing id) m.state.places.queues) c.network.managers in let each = tally_members (λ (m : Manager). sum_by (bearing id) m.state.places.queues) c.network.managers nobody in
      let less = summed_less (λ k. sum_by (bearing id) (state k).places.queues) (λ k. copies id (state k)) count (λ k lt. same k lt) in omega (arith, all, each, less)
    where
      same : (k : ℕ) → k < count → sum_by (bearing id) (state k).places.queues ≤ copies id (state k)
      same k lt = let x = who k lt in let e = queues_are (λ l. In l (lines_written c.written)) id low (state k).places.queues (h.stand k x.0 x.1).keeps.places.queues in omega (arith, e)

  -- in all no more than arrive, or one
  pub balance : id.number < FIRST_EXPRESS → standing id c + tally (left id) (lines_written c.written) ≤ 1 + tally (arrives id) (lines_written c.written)
  balance low = let stand = stands low in let out = over_all (left id) in let in_all = over_all (arrives id) in let one = numbered_once in
      let both = summed_plus (λ k. copies id (state k)) (λ k. lefts id (mine k)) count in let more = summed_plus (λ k. given id (state k)) (λ k. arrivals id (mine k)) count in
      let less = summed_less (λ k. copies id (state k) + lefts id (mine k)) (λ k. given id (state k) + arrivals id (mine k)) count (λ k lt. let le = (t.tallied k).remains id in omega (arith, le)) in
      omega (arith, stand, out, in_all, one, both, more, less)

  -- no more than arrive of what went from its manager
  pub balance_gone : id.number < FIRST_EXPRESS → (i : ℕ) → i < count → IsGone id (state i) (written_of i c.written) → standing id c + tally (left id) (lines_written c.written) ≤ tally (arrives id) (lines_written c.written)
  balance_gone low i inside g = let stand = stands low in let out = over_all (left id) in let in_all = over_all (arrives id) in let both = summed_plus (λ k. copies id (state k)) (λ k. lefts id (mine k)) count in
      let less = summed_less (λ k. copies id (state k) + lefts id (mine k)) (λ k. arrivals id (mine k)) count (λ k lt. each k lt (k == i) refl) in omega (arith, stand, out, in_all, both, less)
    where
      each : (k : ℕ) → k < count → (b : Bool) → (k == i) ≡ b → copies id (state k) + lefts id (mine k) ≤ arrivals id (mine k)
      each k lt true e = subst (λ j. copies id (state j) + lefts id (mine j) ≤ arrivals id (mine j)) (sym (equal_numbers k i e)) g.none
      each k lt false e = by (given id (state k)) refl
        where
          by : (n : ℕ) → given id (state k) ≡ n → copies id (state k) + lefts id (mine k) ≤ arrivals id (mine k)
          by zero f = let le = (t.tallied k).remains id in omega (arith, le, f)
          by (suc n) f = absurd (apart_numbers k i e (one_giver k i lt inside (omega (arith, f)) g.numbered))
