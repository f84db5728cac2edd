-- The rows of a source, and a stream world that they show.
use Rattle.std.proofs.Common.{refl, ap, sym, subst, ◌∙◌, arith, inl, inr}
use Rattle.std.proofs.lemmas.Bool.Decides.{nat_tests}
use Rattle.std.specs.List.{AllByRecursion, cons_option, last_or}
use Rattle.std.specs.Prelude.{[], ◌&&◌, ◌+◌, ◌++◌, ◌<◌, ◌==◌, ◌||◌, ◌∷◌, ◌≡◌, ◌≤◌, ◌⊎◌, Bool, List, None, Option, Some, cond, false, filter, nat_lt, reverse, suc, true, ℕ}
use Rattle.mqb_base.specs.Same.{same_name}
use Rattle.mqb_base.specs.Sequences.{earlier, same_sequence}
use Rattle.mqb_base.specs.declared.ids.SequenceId.{SequenceId}
use Rattle.mqb_base.specs.declared.ledger.Line.{Line}
use Rattle.mqb_base.specs.declared.message.Message.{Message}
use Rattle.mqb_base.specs.declared.queue_names.QueueName.{QueueName}
use Rattle.mqb_exactly_once.proofs.Always.{StreamInvariant}
use Rattle.mqb_exactly_once.proofs.Growing.{mark_within}
use Rattle.mqb_exactly_once.proofs.Members.{In_from_any}
use Rattle.mqb_exactly_once.proofs.Numbers.{numbers_within}
use Rattle.mqb_exactly_once.proofs.Positions.{not_earlier_itself, same_position_is}
use Rattle.mqb_exactly_once.specs.Steps.{Commit, May, commitment, happens}
use Rattle.mqb_exactly_once.specs.Truths.{IsMark}
use Rattle.mqb_exactly_once.specs.Words.{In, count, is_expired, same_position}
use Rattle.mqb_exactly_once.specs.World.{Channel, Commitment, Expiry, Position, StreamWorld}
use Rattle.mqb_model.specs.rules.Sequences.{with_kept}
use Rattle.mqb_orders.specs.Rows.{Row, leads_to}
use Rattle.mqb_orders.specs.declared.kept.Kept.{Kept}
use Rattle.mqb_history.specs.Committed.{commitment_to}
use Rattle.mqb_history.specs.Shown.{commitments_to, expiries_to, to_destination}
use Rattle.mqb_history.proofs.Committing.{OrdinalsRise, all_in, differ_by_ordinal, in_append, in_end, in_split, itself, kept_at}
use Rattle.mqb_history.proofs.Due.{one_row}
use Rattle.mqb_history.proofs.Lists.{some_is, true_not_false}
use Rattle.mqb_history.proofs.Names.{same_name_is, same_name_refl}
use Rattle.mqb_history.proofs.Numbering.{last_in}
use Rattle.mqb_history.proofs.Reaching.{Reached, chosen_append, kept_invariant, more, reverse_last}
use Rattle.mqb_history.proofs.Replacing.{Replaced}

-- where a row keeps a message
abbrev pub position_at : Row → Kept → Position
position_at row k = record { sequence = row.sequence; number = k.number }

-- a world has a row's count and marks, and what the row keeps was committed and did not expire
pub record IsRowShown (w : StreamWorld) (row : Row) : Type 0 where
  pub counted : count w.committed row.sequence ≡ row.committed
  pub offered : w.offered row.sequence ≡ row.offered
  pub acked : w.acknowledged row.sequence ≡ row.acked
  pub kept : (k : Kept) → In k row.kept → In (kept_at row k) w.committed × (is_expired w.expired (position_at row k) ≡ false)

-- the row of a commitment to a destination is there
abbrev pub HasRowTo : QueueName → List Row → Commitment → Type 0
HasRowTo d outs x = (row : Row) × In row outs × (row.sequence ≡ x.position.sequence) × (row.destination ≡ d)

-- a world shows the rows to a destination, which are all to one peer
pub record AreRowsShown (d : QueueName) (peer : ℕ) (outs : List Row) (w : StreamWorld) : Type 0 where
  pub rows : (row : Row) → In row outs → row.destination ≡ d → IsRowShown w row
  pub peers : (row : Row) → In row outs → row.destination ≡ d → row.peer ≡ peer
  pub rowed : (x : Commitment) → In x w.committed → HasRowTo d outs x

-- a world that is the same at the source shows the same rows
pub rows_over : (d : QueueName) (peer : ℕ) (outs : List Row) (w z : StreamWorld) → z.committed ≡ w.committed → z.expired ≡ w.expired → z.offered ≡ w.offered → z.acknowledged ≡ w.acknowledged
    → AreRowsShown d peer outs w → AreRowsShown d peer outs z
rows_over d peer outs w z cs es offered acked h = record {
  rows = λ r i e. row r (h.rows r i e);
  peers = h.peers;
  rowed = λ x i. h.rowed x (subst (In x) cs i);
}
  where
    row : (r : Row) → IsRowShown w r → IsRowShown z r
    row r g = record {
      counted = ap (λ xs. count xs r.sequence) cs ∙ g.counted;
      offered = ap (λ marks. marks r.sequence) offered ∙ g.offered;
      acked = ap (λ marks. marks r.sequence) acked ∙ g.acked;
      kept = λ k i. let x = g.kept k i in (subst (In (kept_at r k)) (sym cs) x.0, subst (λ xs. is_expired xs (position_at r k) ≡ false) (sym es) x.1);
    }

-- steps at the source change nothing else
pub record IsSameElsewhere (v w : StreamWorld) : Type 0 where
  pub channel : w.channel ≡ v.channel
  pub decided : w.decided ≡ v.decided
  pub fates : w.fates ≡ v.fates
  pub transfers : w.transfers ≡ v.transfers
  pub order_acks : w.order_acks ≡ v.order_acks
  pub final_acks : w.final_acks ≡ v.final_acks
  pub connection : w.connection ≡ v.connection
  pub connected : w.connected ≡ v.connected

pub same_elsewhere : (w : StreamWorld) → IsSameElsewhere w w
same_elsewhere w = record { channel = refl; decided = refl; fates = refl; transfers = refl; order_acks = refl; final_acks = refl; connection = refl; connected = refl }

-- from a world a run goes on at the source to one that shows these rows, commitments and lines
pub record IsSourced (d : QueueName) (peer : ℕ) (c : Channel) (v : StreamWorld) (outs : List Row) (cs : List Commitment) (ls : List Line) : Type 0 where
  pub world : StreamWorld
  pub reached : Reached c world
  pub same : IsSameElsewhere v world
  pub rows : AreRowsShown d peer outs world
  pub committed : world.committed ≡ reverse (commitments_to d cs)
  pub expired : world.expired ≡ reverse (expiries_to d ls)

pub sourced_outs : (d : QueueName) (peer : ℕ) (c : Channel) (v : StreamWorld) (a b : List Row) (cs : List Commitment) (ls : List Line) → b ≡ a
    → IsSourced d peer c v a cs ls → IsSourced d peer c v b cs ls
sourced_outs d peer c v a b cs ls e h = subst (λ outs. IsSourced d peer c v outs cs ls) (sym e) h

-- One row is another now.

-- one that is not to the destination
pub other_row : (d : QueueName) (peer : ℕ) (olds news : List Row) (a b : Row) (w : StreamWorld) → Replaced olds news a b → b.destination ≡ a.destination
    → (a.destination ≡ d → ⊥) → AreRowsShown d peer olds w → AreRowsShown d peer news w
other_row d peer olds news a b w r leads apart h = record {
  rows = λ x i e. h.rows x (old x e (r.each x i)) e;
  peers = λ x i e. h.peers x (old x e (r.each x i)) e;
  rowed = λ x i. rowed x (h.rowed x i);
}
  where
    old : (x : Row) → x.destination ≡ d → (b ≡ x) ⊎ (In x olds × (x.sequence.ordinal ≡ a.sequence.ordinal → ⊥)) → In x olds
    old x e (inl f) = absurd (apart (sym leads ∙ ap (λ (y : Row). y.destination) f ∙ e))
    old x e (inr g) = g.0

    rowed : (x : Commitment) → HasRowTo d olds x → HasRowTo d news x
    rowed x g = by (r.back g.0 g.1)
      where
        by : (a ≡ g.0) ⊎ In g.0 news → HasRowTo d news x
        by (inl e) = absurd (apart (ap (λ (y : Row). y.destination) e ∙ g.3))
        by (inr i) = (g.0, i, g.2, g.3)

-- what becomes of the row, and of the others
pub record RowSteps (w z : StreamWorld) (a b : Row) : Type 0 where
  pub others : (r : Row) → (r.sequence.ordinal ≡ a.sequence.ordinal → ⊥) → IsRowShown w r → IsRowShown z r
  pub row : IsRowShown w a → IsRowShown z b
  pub committed : (x : Commitment) → In x z.committed → In x w.committed ⊎ (x.position.sequence ≡ a.sequence)

-- one that is
pub own_row : (d : QueueName) (peer : ℕ) (olds news : List Row) (a b : Row) (w z : StreamWorld) → In a olds → a.destination ≡ d → Replaced olds news a b
    → b.destination ≡ a.destination → b.peer ≡ a.peer → b.sequence ≡ a.sequence → RowSteps w z a b → AreRowsShown d peer olds w → AreRowsShown d peer news z
own_row d peer olds news a b w z there own r leads same_peer sequence s h = record {
  rows = λ x i e. rows x e (r.each x i);
  peers = λ x i e. peers x e (r.each x i);
  rowed = λ x i. by x (s.committed x i);
}
  where
    rows : (x : Row) → x.destination ≡ d → (b ≡ x) ⊎ (In x olds × (x.sequence.ordinal ≡ a.sequence.ordinal → ⊥)) → IsRowShown z x
    rows x e (inl f) = subst (IsRowShown z) f (s.row (h.rows a there own))
    rows x e (inr g) = s.others x g.1 (h.rows x g.0 e)

    peers : (x : Row) → x.destination ≡ d → (b ≡ x) ⊎ (In x olds × (x.sequence.ordinal ≡ a.sequence.ordinal → ⊥)) → x.peer ≡ peer
    peers x e (inl f) = ap (λ (y : Row). y.peer) (sym f) ∙ same_peer ∙ h.peers a there own
    peers x e (inr g) = h.peers x g.0 e

    new : (x : Commitment) → x.position.sequence ≡ a.sequence → HasRowTo d news x
    new x e = (b, r.there, sequence ∙ sym e, leads ∙ own)

    old : (x : Commitment) → HasRowTo d olds x → HasRowTo d news x
    old x g = at (r.back g.0 g.1)
      where
        at : (a ≡ g.0) ⊎ In g.0 news → HasRowTo d news x
        at (inl e) = new x (sym g.2 ∙ ap (λ (y : Row). y.sequence) (sym e))
        at (inr i) = (g.0, i, g.2, g.3)

    by : (x : Commitment) → In x w.committed ⊎ (x.position.sequence ≡ a.sequence) → HasRowTo d news x
    by x (inl i) = old x (h.rowed x i)
    by x (inr e) = new x e

-- Commitments.

-- a number above the count did not expire
pub not_expired : (w : StreamWorld) (q : SequenceId) (n : ℕ) → StreamInvariant w → count w.committed q < n → is_expired w.expired (record { sequence = q; number = n }) ≡ false
not_expired w q n i above = at (is_expired w.expired p) refl
  where
    p : Position
    p = record { sequence = q; number = n }

    none : is_expired w.expired p ≡ true → ⊥
    none e = let found = In_from_any (λ (x : Expiry). same_position x.position p) w.expired e in let due = i.expiries found.0 found.1 in
        let place = due.2 ∙ same_position_is found.0.position p found.2 in
        let within = (numbers_within w.committed due.0 i.numbered due.1).1 in
        let low = subst (λ (x : Position). x.number ≤ count w.committed x.sequence) place within in omega (arith, low, above)

    at : (b : Bool) → is_expired w.expired p ≡ b → b ≡ false
    at true e = absurd (none e)
    at false e = refl

-- what was committed and did not expire stays so where something joins another sequence, and what joins it
kept_more : (w : StreamWorld) (q : SequenceId) (m : Message) (x : Commitment) (p : Position) → In x w.committed × (is_expired w.expired p ≡ false)
    → In x (happens w (Commit q m)).committed × (is_expired w.expired p ≡ false)
kept_more w q m x p h = (inr h.0, h.1)

-- the row that a message joins
joined_shown : (w : StreamWorld) (row : Row) (m : Message) → StreamInvariant w → IsRowShown w row → IsRowShown (happens w (Commit row.sequence m)) (with_kept m row)
joined_shown w row m i h = record {
  counted = ap (λ b. cond b (suc (count w.committed row.sequence)) (count w.committed row.sequence)) (itself row.sequence) ∙ number;
  offered = h.offered;
  acked = h.acked;
  kept = λ k inside. kept k (in_split row.kept (record { number = row.committed + 1; message = m } ∷ []) k inside);
}
  where
    number : suc (count w.committed row.sequence) ≡ row.committed + 1
    number = let e = h.counted in omega (arith, e)

    new : In (record { position = record { sequence = row.sequence; number = row.committed + 1 }; message = m }) (happens w (Commit row.sequence m)).committed
    new = inl (ap (λ n. record { position = record { sequence = row.sequence; number = n }; message = m }) number)

    kept : (k : Kept) → In k row.kept ⊎ In k (record { number = row.committed + 1; message = m } ∷ [])
        → In (kept_at (with_kept m row) k) (happens w (Commit row.sequence m)).committed × (is_expired w.expired (position_at (with_kept m row) k) ≡ false)
    kept k (inl j) = kept_more w row.sequence m (kept_at row k) (position_at row k) (h.kept k j)
    kept k (inr (inl e)) = subst (λ (x : Kept). In (kept_at (with_kept m row) x) (happens w (Commit row.sequence m)).committed × (is_expired w.expired (position_at (with_kept m row) x) ≡ false)) e
        (new, not_expired w row.sequence (row.committed + 1) i (omega (arith, number)))
    kept k (inr (inr none)) = absurd none

-- another one
unjoined_shown : (w : StreamWorld) (q : SequenceId) (m : Message) (row : Row) → same_sequence q row.sequence ≡ false → IsRowShown w row → IsRowShown (happens w (Commit q m)) row
unjoined_shown w q m row apart h = record {
  counted = ap (λ b. cond b (suc (count w.committed row.sequence)) (count w.committed row.sequence)) apart ∙ h.counted;
  offered = h.offered;
  acked = h.acked;
  kept = λ k inside. kept_more w q m (kept_at row k) (position_at row k) (h.kept k inside);
}

commit_steps : (w : StreamWorld) (row : Row) (m : Message) → StreamInvariant w → RowSteps w (happens w (Commit row.sequence m)) row (with_kept m row)
commit_steps w row m i = record {
  others = λ r apart h. unjoined_shown w row.sequence m r (differ_by_ordinal row.sequence r.sequence (λ same. apart (sym same))) h;
  row = joined_shown w row m i;
  committed = λ x inside. by x inside;
}
  where
    by : (x : Commitment) → In x (commitment w row.sequence m ∷ w.committed) → In x w.committed ⊎ (x.position.sequence ≡ row.sequence)
    by x (inl e) = inr (ap (λ (y : Commitment). y.position.sequence) (sym e))
    by x (inr j) = inl j

-- no row to the destination is later
abbrev pub IsLast : QueueName → List Row → Row → Type 0
IsLast d outs row = (r : Row) → In r outs → r.destination ≡ d → r.sequence.ordinal ≤ row.sequence.ordinal

not_later : (a b : SequenceId) → b.ordinal ≤ a.ordinal → (b.ordinal ≡ a.ordinal → a ≡ b) → earlier a b ≡ false
not_later a b le same = at (a.ordinal == b.ordinal) refl
  where
    less : nat_lt a.ordinal b.ordinal ≡ false
    less = grind (arith, nat_tests)

    at : (t : Bool) → (a.ordinal == b.ordinal) ≡ t → earlier a b ≡ false
    at true e = let own : b.ordinal ≡ a.ordinal = grind (arith, nat_tests) in subst (λ x. earlier a x ≡ false) (same own) (not_earlier_itself a)
    at false e = ap (λ x. x || ((a.ordinal == b.ordinal) && nat_lt a.stamp b.stamp)) less ∙ ap (λ x. x && nat_lt a.stamp b.stamp) e

-- a message may join the last row
last_may : (d : QueueName) (peer : ℕ) (outs : List Row) (w : StreamWorld) (row : Row) (m : Message) → OrdinalsRise outs → In row outs → IsLast d outs row → AreRowsShown d peer outs w
    → May w (Commit row.sequence m)
last_may d peer outs w row m rise there last h x inside = let g = h.rowed x inside in
    subst (λ q. earlier row.sequence q ≡ false) g.2 (not_later row.sequence g.0.sequence (last g.0 g.1 g.3)
    (λ same. ap (λ (y : Row). y.sequence) (one_row outs row g.0 rise there g.1 (sym same))))

-- a commitment joins the others
joins_committed : (d : QueueName) (cs : List Commitment) (x : Commitment) → x.message.destination ≡ d → reverse (commitments_to d (cs ++ x ∷ [])) ≡ x ∷ reverse (commitments_to d cs)
joins_committed d cs x e = ap reverse (chosen_append (to_destination d) cs (x ∷ [])
    ∙ ap (λ b. commitments_to d cs ++ cons_option (cond b (Some x) None) []) (subst (λ n. same_name n d ≡ true) (sym e) (same_name_refl d)))
    ∙ reverse_last (commitments_to d cs) x

-- or it is to another destination
pub joins_apart : (d : QueueName) (cs : List Commitment) (x : Commitment) → (x.message.destination ≡ d → ⊥) → commitments_to d (cs ++ x ∷ []) ≡ commitments_to d cs
joins_apart d cs x apart = chosen_append (to_destination d) cs (x ∷ []) ∙ at (same_name x.message.destination d) refl
  where
    nothing : (xs : List Commitment) → xs ++ [] ≡ xs
    nothing [] = refl
    nothing (y ∷ ys) = ap (λ zs. y ∷ zs) (nothing ys)

    at : (b : Bool) → same_name x.message.destination d ≡ b → commitments_to d cs ++ cons_option (cond b (Some x) None) [] ≡ commitments_to d cs
    at true e = absurd (apart (same_name_is x.message.destination d e))
    at false e = nothing (commitments_to d cs)

module _ (d : QueueName) (peer : ℕ) (c : Channel) (v : StreamWorld) (outs : List Row) (cs : List Commitment) (ls : List Line) (rise : OrdinalsRise outs) where
  -- a message joins the last row to the destination
  pub row_joined : (news : List Row) (row : Row) (m : Message) → In row outs → IsLast d outs row → row.destination ≡ d → m.destination ≡ d
      → Replaced outs news row (with_kept m row) → IsSourced d peer c v outs cs ls → IsSourced d peer c v news (cs ++ commitment_to row m ∷ []) ls
  row_joined news row m there last leads to r h = record {
    world = happens h.world (Commit row.sequence m);
    reached = more c h.world (Commit row.sequence m) h.reached (last_may d peer outs h.world row m rise there last h.rows);
    same = record { channel = h.same.channel; decided = h.same.decided; fates = h.same.fates; transfers = h.same.transfers; order_acks = h.same.order_acks; final_acks = h.same.final_acks; connection = h.same.connection; connected = h.same.connected };
    rows = own_row d peer outs news row (with_kept m row) h.world (happens h.world (Commit row.sequence m)) there leads r refl refl refl
        (commit_steps h.world row m (kept_invariant c h.world h.reached)) h.rows;
    committed = ap (λ n. record { position = record { sequence = row.sequence; number = n }; message = m } ∷ h.world.committed)
        (let e = (h.rows.rows row there leads).counted in let f : suc (count h.world.committed row.sequence) ≡ row.committed + 1 = omega (arith, e) in f)
        ∙ ap (λ xs. commitment_to row m ∷ xs) h.committed ∙ sym (joins_committed d cs (commitment_to row m) to);
    expired = h.expired;
  }

  -- or a new one
  fresh : (next : ℕ) (q : SequenceId) (w : StreamWorld) → AllByRecursion (λ (r : Row). r.sequence.ordinal < next) outs → next ≤ q.ordinal → AreRowsShown d peer outs w
      → (x : Commitment) → In x w.committed → x.position.sequence.ordinal < q.ordinal
  fresh next q w below le h x i = let g = h.rowed x i in let less = all_in (λ (r : Row). r.sequence.ordinal < next) outs g.0 below g.1 in
      let same = ap (λ (s : SequenceId). s.ordinal) g.2 in omega (arith, less, le, same)

  none_counted : (q : SequenceId) (xs : List Commitment) → ((x : Commitment) → In x xs → x.position.sequence.ordinal < q.ordinal) → count xs q ≡ 0
  none_counted q [] low = refl
  none_counted q (x ∷ xs) low = ap (λ b. cond b (suc (count xs q)) (count xs q))
      (differ_by_ordinal x.position.sequence q (λ same. let less = low x (inl refl) in omega (arith, less, same))) ∙ none_counted q xs (λ y i. low y (inr i))

  unmarked : (w : StreamWorld) (q : SequenceId) (n : ℕ) → StreamInvariant w → count w.committed q ≡ 0 → IsMark w q n → n ≡ 0
  unmarked w q n i none mark = let le = mark_within w q n i.numbered mark in omega (arith, le, none)

  new_may : (w : StreamWorld) (q : SequenceId) (m : Message) → ((x : Commitment) → In x w.committed → x.position.sequence.ordinal < q.ordinal) → May w (Commit q m)
  new_may w q m low x inside = not_later q x.position.sequence (let less = low x inside in omega (arith, less)) (λ same. let less = low x inside in absurd (omega (arith, less, same)))

  pub row_begun : (next : ℕ) (new : Row) (m : Message) → AllByRecursion (λ (r : Row). r.sequence.ordinal < next) outs → next ≤ new.sequence.ordinal → new.committed ≡ 0
      → new.offered ≡ 0 → new.acked ≡ 0 → new.kept ≡ [] → new.destination ≡ d → new.peer ≡ peer → m.destination ≡ d
      → IsSourced d peer c v outs cs ls → IsSourced d peer c v (outs ++ with_kept m new ∷ []) (cs ++ commitment_to new m ∷ []) ls
  row_begun next new m below le zero_of offered acked empty_of leads to_peer to h = record {
    world = z;
    reached = more c w (Commit q m) h.reached (new_may w q m low);
    same = record { channel = h.same.channel; decided = h.same.decided; fates = h.same.fates; transfers = h.same.transfers; order_acks = h.same.order_acks; final_acks = h.same.final_acks; connection = h.same.connection; connected = h.same.connected };
    rows = record {
      rows = λ r i e. row r e (in_split outs (with_kept m new ∷ []) r i);
      peers = λ r i e. peers r e (in_split outs (with_kept m new ∷ []) r i);
      rowed = λ x i. rowed x i;
    };
    committed = ap (λ n. record { position = record { sequence = q; number = n }; message = m } ∷ w.committed) number
        ∙ ap (λ xs. commitment_to new m ∷ xs) h.committed ∙ sym (joins_committed d cs (commitment_to new m) to);
    expired = h.expired;
  }
    where
      w : StreamWorld
      w = h.world

      q : SequenceId
      q = new.sequence

      z : StreamWorld
      z = happens w (Commit q m)

      i : StreamInvariant w
      i = kept_invariant c w h.reached

      low : (x : Commitment) → In x w.committed → x.position.sequence.ordinal < q.ordinal
      low = fresh next q w below le h.rows

      none : count w.committed q ≡ 0
      none = none_counted q w.committed low

      number : suc (count w.committed q) ≡ new.committed + 1
      number = omega (arith, none, zero_of)

      begun : IsRowShown w new
      begun = record {
        counted = none ∙ sym zero_of;
        offered = unmarked w q (w.offered q) i none (i.marks q).offered ∙ sym offered;
        acked = unmarked w q (w.acknowledged q) i none (i.marks q).acknowledged ∙ sym acked;
        kept = λ k inside. absurd (subst (In k) empty_of inside);
      }

      row : (r : Row) → r.destination ≡ d → In r outs ⊎ In r (with_kept m new ∷ []) → IsRowShown z r
      row r e (inl j) = unjoined_shown w q m r (differ_by_ordinal q r.sequence
          (λ same. let less = all_in (λ (x : Row). x.sequence.ordinal < next) outs r below j in omega (arith, less, le, same))) (h.rows.rows r j e)
      row r e (inr (inl f)) = subst (IsRowShown z) f (joined_shown w new m i begun)
      row r e (inr (inr nothing)) = absurd nothing

      peers : (r : Row) → r.destination ≡ d → In r outs ⊎ In r (with_kept m new ∷ []) → r.peer ≡ peer
      peers r e (inl j) = h.rows.peers r j e
      peers r e (inr (inl f)) = ap (λ (x : Row). x.peer) (sym f) ∙ to_peer
      peers r e (inr (inr nothing)) = absurd nothing

      rowed : (x : Commitment) → In x (commitment w q m ∷ w.committed) → HasRowTo d (outs ++ with_kept m new ∷ []) x
      rowed x (inl e) = (with_kept m new, in_end outs (with_kept m new), ap (λ (y : Commitment). y.position.sequence) e, leads)
      rowed x (inr j) = let g = h.rows.rowed x j in (g.0, in_append outs (with_kept m new ∷ []) g.0 g.1, g.2, g.3)

-- the last row that leads to a place
pub last_is_last : (peer : ℕ) (d : QueueName) (o : Option Row) (rows : List Row) (row : Row) → last_or o (filter (leads_to peer d) rows) ≡ Some row → OrdinalsRise rows
    → (r : Row) → In r rows → leads_to peer d r ≡ true → r.sequence.ordinal ≤ row.sequence.ordinal
last_is_last peer d o [] row e rise r i t = absurd i
last_is_last peer d o (x ∷ rows) row e rise r i t = at (leads_to peer d x) refl e i (λ o' f j. last_is_last peer d o' rows row f rise.1 r j t)
  where
    here : (o' : Option Row) → last_or o' (filter (leads_to peer d) rows) ≡ Some row → o' ≡ Some x → x.sequence.ordinal ≤ row.sequence.ordinal
    here o' f g = by (last_in (leads_to peer d) o' rows row f)
      where
        by : (o' ≡ Some row) ⊎ In row rows → x.sequence.ordinal ≤ row.sequence.ordinal
        by (inl k) = let same = ap (λ (y : Row). y.sequence.ordinal) (some_is x row (sym g ∙ k)) in omega (arith, same)
        by (inr j) = let less = all_in (λ (y : Row). x.sequence.ordinal < y.sequence.ordinal) rows row rise.0 j in omega (arith, less)

    at : (b : Bool) → leads_to peer d x ≡ b → last_or o (cond b (x ∷ filter (leads_to peer d) rows) (filter (leads_to peer d) rows)) ≡ Some row → In r (x ∷ rows)
        → ((o' : Option Row) → last_or o' (filter (leads_to peer d) rows) ≡ Some row → In r rows → r.sequence.ordinal ≤ row.sequence.ordinal) → r.sequence.ordinal ≤ row.sequence.ordinal
    at true f g (inl k) rest = let le = here (Some x) g refl in let same = ap (λ (y : Row). y.sequence.ordinal) k in omega (arith, le, same)
    at true f g (inr j) rest = rest (Some x) g j
    at false f g (inl k) rest = absurd (true_not_false (leads_to peer d r) t (subst (λ y. leads_to peer d y ≡ false) k f))
    at false f g (inr j) rest = rest o g j
