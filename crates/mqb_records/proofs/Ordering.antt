-- Ordinals stay in order: rules leave the sequences alone, and a message joins one of them or begins the next.
use Rattle.std.proofs.Common.{refl, ap, sym, subst, ◌∙◌, arith, get_or, set}
use Rattle.std.proofs.lemmas.List.{length-set}
use Rattle.std.proofs.lemmas.List.Elements.{All-push}
use Rattle.std.proofs.lemmas.List.Quantifiers.{all_pairs_push}
use Rattle.std.specs.Option.{option_map_or}
use Rattle.std.specs.Prelude.{◌++◌, ◌+◌, ◌<◌, ◌∷◌, ◌≡◌, [], All, AllPairs, Bool, List, None, Option, Some, cond, false, position, slice_get, suc, true, zero, ℕ}
use Rattle.mqb_base.specs.Bits.{keeps_copy}
use Rattle.mqb_base.specs.declared.class.Class.{Class}
use Rattle.mqb_base.specs.declared.class.TheConstants.Class.{REACHED_QUEUE, RECEIVED}
use Rattle.mqb_base.specs.declared.ids.Identity.{Identity}
use Rattle.mqb_base.specs.declared.ids.MessageId.{MessageId}
use Rattle.mqb_base.specs.declared.message.Delivery.{Delivery}
use Rattle.mqb_base.specs.declared.message.Delivery.TheVariants as delivery
use Rattle.mqb_base.specs.declared.message.Lane.TheVariants as lane
use Rattle.mqb_base.specs.declared.message.Message.{Message}
use Rattle.mqb_base.specs.declared.queues.EntryPlace.{EntryPlace}
use Rattle.mqb_base.specs.declared.queues.EntryPlace.TheVariants as place
use Rattle.mqb_orders.specs.Rows.{Row}
use Rattle.mqb_queue.specs.First.{index_named}
use Rattle.mqb_queue.specs.Places.{Queue, numbered}
use Rattle.mqb_model.specs.declared.target.Target.{Target}
use Rattle.mqb_model.specs.declared.target.Target.TheVariants.{AtPeer, Here, Nowhere}
use Rattle.mqb_model.specs.Lists.{with_changed}
use Rattle.mqb_model.specs.records.Commit.{send_made}
use Rattle.mqb_model.specs.rules.Effects.{Effect}
use Rattle.mqb_model.specs.rules.Notices.{admin_about, admin_told, buried, dead_place, final_about, final_told, may_go, meets, told}
use Rattle.mqb_model.specs.rules.Numbers.{number_taken, numbers_taken}
use Rattle.mqb_model.specs.rules.Sends.{committed_to, delivered, journalled}
use Rattle.mqb_model.specs.rules.Sequences.{join, new_sequence, sequence_in_use, with_kept, with_sequence}
use Rattle.mqb_model.specs.rules.Takes.{after_take, copied, message_at, message_taken, taken, taken_at}
use Rattle.mqb_model.specs.state.Places.{placed, put_at, without_at}
use Rattle.mqb_model.specs.state.Resolving.{peer_known, resolved}
use Rattle.mqb_model.specs.state.Rows.{has_ordinal, with_row}
use Rattle.mqb_model.specs.state.State.{State}
use Rattle.mqb_records.specs.Ordered.{IsOrdered}

-- the sequences, and the next ordinal
abbrev pub rows : State → List Row × ℕ
rows s = (s.outs, s.next_ordinal)

-- Rules leave them alone.

placed_rows : (s : State) (t : Target) (m : Message) → rows (placed s t m) ≡ rows s
placed_rows s (Here None) m = refl
placed_rows s (Here (Some n)) m = refl
placed_rows s (AtPeer k) m = refl
placed_rows s Nowhere m = refl

number_rows : (s : State) (d : Delivery) → rows (number_taken s d) ≡ rows s
number_rows s delivery.Express = refl
number_rows s delivery.Recoverable = refl
number_rows s delivery.Transactional = refl

told_rows : (s : State) (t : Target) (n : Message) → rows (told s t n) ≡ rows s
told_rows s t n = at (may_go s t n.delivery)
  where
    at : (b : Bool) → rows (cond b (placed (number_taken s n.delivery) t n) s) ≡ rows s
    at true = placed_rows (number_taken s n.delivery) t n ∙ number_rows s n.delivery
    at false = refl

admin_rows : (s : State) (m : Message) (class : Class) (now : ℕ) → rows (admin_told s m class now) ≡ rows s
admin_rows s m class now = at (admin_about s m class now)
  where
    at : (o : Option Message) → rows (option_map_or (λ n. told s (resolved s n.destination) n) o s) ≡ rows s
    at None = refl
    at (Some n) = told_rows s (resolved s n.destination) n

final_rows : (s : State) (m : Message) (class : Class) (now : ℕ) → rows (final_told s m class now) ≡ rows s
final_rows s m class now = at (peer_known s m.id.qm)
  where
    about : (k : ℕ) (o : Option Message) → rows (option_map_or (told s (AtPeer k)) o s) ≡ rows s
    about k None = refl
    about k (Some n) = told_rows s (AtPeer k) n

    from : (k : ℕ) (o : Option Identity)
        → rows (option_map_or (λ peer. option_map_or (told s (AtPeer k)) (final_about s peer m class now) s) o s) ≡ rows s
    from k None = refl
    from k (Some peer) = about k (final_about s peer m class now)

    at : (o : Option ℕ) → rows (option_map_or (λ k. option_map_or (λ peer. option_map_or (told s (AtPeer k)) (final_about s peer m class now) s)
        (slice_get s.peers k) s) o s) ≡ rows s
    at None = refl
    at (Some k) = from k (slice_get s.peers k)

buried_rows : (s : State) (m : Message) (class : Class) → rows (buried s m class) ≡ rows s
buried_rows s m class = at (dead_place s m class)
  where
    at : (o : Option EntryPlace) → rows (option_map_or (λ at. put_at s at m) o s) ≡ rows s
    at None = refl
    at (Some p) = refl

meets_rows : (s : State) (m : Message) (class : Class) (now : ℕ) → rows (meets s m class now) ≡ rows s
meets_rows s m class now = buried_rows (final_told (admin_told s m class now) m class now) m class
    ∙ (final_rows (admin_told s m class now) m class now ∙ admin_rows s m class now)

copied_rows : (s : State) (n : ℕ) (m : Message) → rows (copied s n m) ≡ rows s
copied_rows s n m = at (numbered s.places.queues n)
  where
    kept : (b : Bool) → rows (cond b (put_at s (place.JournalOf n) m) s) ≡ rows s
    kept true = refl
    kept false = refl

    at : (o : Option Queue) → rows (option_map_or (λ q. cond q.plan.journal (put_at s (place.JournalOf n) m) s) o s) ≡ rows s
    at None = refl
    at (Some q) = kept q.plan.journal

after_rows : (s : State) (at : EntryPlace) (m : Message) (now : ℕ) → rows (after_take s at m now) ≡ rows s
after_rows s (place.Queue n) m now = meets_rows (copied s n m) m RECEIVED now ∙ copied_rows s n m
after_rows s (place.JournalOf n) m now = refl
after_rows s place.Dead m now = refl
after_rows s place.DeadXact m now = refl
after_rows s place.Journal m now = refl

taken_rows : (at : EntryPlace) (id : MessageId) (now : ℕ) (e : Effect) → rows (taken at id now e).state ≡ rows e.state
taken_rows at id now e = by (index_named e.state.places at id now)
  where
    one : (k : ℕ) (o : Option Message) → rows (option_map_or (λ m. record {
      state = (message_taken lane.Durable at k now e.state m).state;
      lines = e.lines ++ (message_taken lane.Durable at k now e.state m).lines;
    }) o e).state ≡ rows e.state
    one k None = refl
    one k (Some m) = after_rows (without_at lane.Durable e.state at k) at m now

    by : (o : Option ℕ) → rows (option_map_or (λ k. taken_at lane.Durable at k now e) o e).state ≡ rows e.state
    by None = refl
    by (Some k) = one k (message_at lane.Durable e.state at k)

journalled_rows : (s : State) (m : Message) → rows (journalled s m) ≡ rows s
journalled_rows s m = at (keeps_copy m)
  where
    at : (b : Bool) → rows (cond b (put_at s place.Journal m) s) ≡ rows s
    at true = refl
    at false = refl

-- Ordinals in order.

abbrev AreOrdered : List Row × ℕ → Type 0
AreOrdered r = AllPairs (λ a b. a.sequence.ordinal < b.sequence.ordinal) r.0 × All (λ row. row.sequence.ordinal < r.1) r.0

pub ordered_as : (a b : State) → rows a ≡ rows b → IsOrdered b → IsOrdered a
ordered_as a b h o = let p = subst AreOrdered (sym h) (o.rises, o.given) in record { rises = p.0; given = p.1 }

-- A message joins.

-- ordinals stay where a row with the same one is written
set_ordinal : (xs : List Row) (k : ℕ) (x y : Row) → slice_get xs k ≡ Some x → y.sequence.ordinal ≡ x.sequence.ordinal
    → (i : ℕ) (d : Row) → (get_or (set xs k y) i d).sequence.ordinal ≡ (get_or xs i d).sequence.ordinal
set_ordinal [] k x y is same i d = refl
set_ordinal (z ∷ zs) zero x y is same zero d = same ∙ ap (λ o. option_map_or (λ r. r.sequence.ordinal) o 0) (sym is)
set_ordinal (z ∷ zs) zero x y is same (suc i) d = refl
set_ordinal (z ∷ zs) (suc k) x y is same zero d = refl
set_ordinal (z ∷ zs) (suc k) x y is same (suc i) d = set_ordinal zs k x y is same i d

less_as : (a b c d : ℕ) → c ≡ a → d ≡ b → a < b → c < d
less_as a b c d e f h = omega (arith, e, f, h)

set_ordered : (s : State) (k : ℕ) (x y : Row) → slice_get s.outs k ≡ Some x → y.sequence.ordinal ≡ x.sequence.ordinal → IsOrdered s
    → IsOrdered (record s { outs = set s.outs k y })
set_ordered s k x y is same o = record {
  rises = λ i j d lt within. less_as _ _ _ _ (set_ordinal s.outs k x y is same i d) (set_ordinal s.outs k x y is same j d)
      (o.rises i j d lt (subst (λ n. j < n) (length-set s.outs k y) within));
  given = λ i d within. less_as _ _ _ _ (set_ordinal s.outs k x y is same i d) refl
      (o.given i d (subst (λ n. i < n) (length-set s.outs k y) within));
}

row_ordered : (change : Row → Row) → ((r : Row) → (change r).sequence.ordinal ≡ r.sequence.ordinal) → (s : State) (ordinal : ℕ) → IsOrdered s
    → IsOrdered (with_row change s ordinal)
row_ordered change same s ordinal o = at (position (has_ordinal ordinal) s.outs)
  where
    one : (k : ℕ) (r : Option Row) → slice_get s.outs k ≡ r → IsOrdered (record s { outs = option_map_or (λ x. set s.outs k (change x)) r s.outs })
    one k None is = o
    one k (Some x) is = set_ordered s k x (change x) is (same x) o

    at : (k : Option ℕ) → IsOrdered (record s { outs = option_map_or (with_changed change s.outs) k s.outs })
    at None = o
    at (Some k) = one k (slice_get s.outs k) refl

begun_ordered : (s : State) (row : Row) → row.sequence.ordinal ≡ s.next_ordinal → IsOrdered s → IsOrdered (with_sequence s row)
begun_ordered s row is o = record {
  rises = all_pairs_push (λ (a b : Row). a.sequence.ordinal < b.sequence.ordinal) s.outs row o.rises
      (λ k d within. less_as _ _ _ _ refl is (o.given k d within));
  given = All-push (λ (r : Row). r.sequence.ordinal < s.next_ordinal + 1) s.outs row
      (λ k d within. let lt = o.given k d within in omega (arith, lt)) (omega (arith, is));
}

pub join_ordered : (s : State) (peer now : ℕ) (m : Message) → IsOrdered s → IsOrdered (join s peer now m)
join_ordered s peer now m o = at (sequence_in_use s peer m.destination)
  where
    at : (r : Option Row) → IsOrdered (option_map_or (λ row. with_row (with_kept m) s row.sequence.ordinal) r
        (with_sequence s (with_kept m (new_sequence s peer m.destination now))))
    at None = begun_ordered s (with_kept m (new_sequence s peer m.destination now)) refl o
    at (Some row) = row_ordered (with_kept m) (λ r. refl) s row.sequence.ordinal o

-- The steps of a transaction.

pub taken_ordered : (at : EntryPlace) (id : MessageId) (now : ℕ) (e : Effect) → IsOrdered e.state → IsOrdered (taken at id now e).state
taken_ordered at id now e o = ordered_as (taken at id now e).state e.state (taken_rows at id now e) o

pub sent_ordered : (now : ℕ) (e : Effect) (m : Message) → IsOrdered e.state → IsOrdered (send_made now e m).state
sent_ordered now e m o = at (resolved e.state m.destination)
  where
    s : State
    s = journalled e.state m

    before : IsOrdered s
    before = ordered_as s e.state (journalled_rows e.state m) o

    at : (t : Target) → IsOrdered (committed_to now s t m).state
    at (AtPeer k) = join_ordered s k now m before
    at (Here queue) = ordered_as (delivered s (Here queue) m now) s (meets_rows (placed s (Here queue) m) m REACHED_QUEUE now ∙ placed_rows s (Here queue) m) before
    at Nowhere = ordered_as (delivered s Nowhere m now) s (meets_rows (placed s Nowhere m) m REACHED_QUEUE now ∙ placed_rows s Nowhere m) before
