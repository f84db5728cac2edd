-- A call that is honest leaves what is known of its manager's messages and rows.
use Rattle.std.proofs.Common.{refl, ap, sym, subst, ◌∙◌, arith, inl, inr}
use Rattle.std.proofs.lemmas.Bool.Decides.{nat_tests}
use Rattle.std.specs.List.{AllByRecursion}
use Rattle.std.specs.Prelude.{[], ◌+◌, ◌++◌, ◌<◌, ◌||◌, ◌∷◌, ◌≡◌, ◌≤◌, ◌⊎◌, Bool, List, Some, false, find, max, nat_le, nat_lt, position, slice_get, true, ℕ}
use Rattle.mqb_base.specs.Bits.{keeps_dead}
use Rattle.mqb_base.specs.Same.{same_guid, same_id}
use Rattle.mqb_base.specs.declared.ids.Guid.{Guid}
use Rattle.mqb_base.specs.declared.ids.Identity.{Identity}
use Rattle.mqb_base.specs.declared.ids.MessageId.{MessageId}
use Rattle.mqb_base.specs.declared.message.Message.{Message}
use Rattle.mqb_exactly_once.specs.Words.{In}
use Rattle.mqb_exactly_once.specs.World.{Commitment, Position}
use Rattle.mqb_fate.specs.Asking.{is_ordinary}
use Rattle.mqb_orders.specs.Rows.{Row}
use Rattle.mqb_orders.specs.declared.kept.Kept.{Kept}
use Rattle.mqb_plain.specs.Plain.{PlainLists}
use Rattle.mqb_plain.specs.declared.outgoing.Outgoing.{Outgoing}
use Rattle.mqb_queue.specs.Lists.{Lists}
use Rattle.mqb_queue.specs.Places.{Queue}
use Rattle.mqb_model.specs.Lists.{without_first}
use Rattle.mqb_model.specs.declared.limits.TheConstants.{MAX_NUMBER}
use Rattle.mqb_model.specs.managers.Beside.{Beside, beside_done}
use Rattle.mqb_model.specs.managers.Beside as beside
use Rattle.mqb_model.specs.records.Applying.{apply}
use Rattle.mqb_model.specs.records.Finals.{is_offered_as, kept_named, names_kept}
use Rattle.mqb_model.specs.records.Record.{Record}
use Rattle.mqb_model.specs.records.Record as entry
use Rattle.mqb_model.specs.rules.Timeouts.{expires}
use Rattle.mqb_model.specs.state.Resolving.{peer_known}
use Rattle.mqb_model.specs.state.State.{State}
use Rattle.mqb_network.specs.Courses.{Course}
use Rattle.mqb_network.specs.Network.{manager_at}
use Rattle.mqb_history.specs.Acked.{IsDecidedThere}
use Rattle.mqb_history.specs.Committed.{commitments, commitments_in}
use Rattle.mqb_history.specs.Decided.{decisions, written_of}
use Rattle.mqb_history.specs.Made.{IsMade}
use Rattle.mqb_history.proofs.Acting.{IsTrueRecord}
use Rattle.mqb_history.proofs.Committing.{IsOwnBelow, all_in, in_end, in_split}
use Rattle.mqb_history.proofs.Connections.{found_passes}
use Rattle.mqb_history.proofs.Deciding.{first_is_found}
use Rattle.mqb_history.proofs.Fresh.{commits_within, sent_by}
use Rattle.mqb_history.proofs.Later.{IsAckedTruly, Known, Later, Vacant, known_later, came_later, there_later}
use Rattle.mqb_history.proofs.Lists.{all_weaker, split_and}
use Rattle.mqb_history.proofs.Named.{IsRightBeside}
use Rattle.mqb_history.proofs.Naming.{AreListed, ArePlaced, ArePlain, AreQueued, IsSafe, Knows}
use Rattle.mqb_history.proofs.Numbering.{AreCounted, commitments_more}
use Rattle.mqb_history.proofs.Outside.{filtered_in, without_in}
use Rattle.mqb_history.proofs.Recalling.{IsRight, applied_knows, started}
use Rattle.mqb_history.proofs.Rowwise.{Acknowledges, Allows, Finishes, IsCommit, applied_each, resolved_peer}
use Rattle.mqb_history.proofs.Sparing.{all_of, found_kept}
use Rattle.mqb_history.proofs.Staying.{IsSameManager}

-- What is known is known of more.

module _ (own : Guid) (K J : MessageId → Type 0) (V W : ℕ → Type 0) (more : (id : MessageId) → K id → J id) where
  safe_weaker : (low high : ℕ) → low ≤ high → ((n : ℕ) → n < low → V n → W n) → (o : Outgoing) → IsSafe own K V low o → IsSafe own J W high o
  safe_weaker low high le vacant o h = record {
    source = h.source;
    durable = h.durable;
    below = let less = h.below in omega (arith, less, le);
    unused = vacant o.message.id.number h.below h.unused;
    about = at h.about;
  }
    where
      at : (is_ordinary o.message ≡ true) ⊎ K o.message.correlation → (is_ordinary o.message ≡ true) ⊎ J o.message.correlation
      at (inl e) = inl e
      at (inr k) = inr (more o.message.correlation k)

  plain_weaker : (low high : ℕ) → low ≤ high → ((n : ℕ) → n < low → V n → W n) → (ps : List PlainLists) → AllByRecursion (ArePlain own K V low) ps → AllByRecursion (ArePlain own J W high) ps
  plain_weaker low high le vacant ps h = all_weaker (ArePlain own K V low) (ArePlain own J W high) (λ p g. record {
    recoverable = all_weaker (IsSafe own K V low) (IsSafe own J W high) (safe_weaker low high le vacant) p.recoverable g.recoverable;
    express = g.express;
  }) ps h

  listed_weaker : (l : Lists) → AreListed K l → AreListed J l
  listed_weaker l h = record { durable = all_weaker (λ (m : Message). K m.id) (λ m. J m.id) (λ m k. more m.id k) l.durable h.durable; express = h.express }

  queued_weaker : (q : Queue) → AreQueued K q → AreQueued J q
  queued_weaker q h = record { lists = listed_weaker q.lists h.lists; journal = listed_weaker q.journal h.journal }

  placed_weaker : (s : State) → ArePlaced K s.places → ArePlaced J s.places
  placed_weaker s h = record {
    queues = all_weaker (AreQueued K) (AreQueued J) queued_weaker s.places.queues h.queues;
    dead = listed_weaker s.places.dead h.dead;
    dead_xact = listed_weaker s.places.dead_xact h.dead_xact;
    journal = listed_weaker s.places.journal h.journal;
  }

  pub knows_weaker : (s : State) → ((n : ℕ) → V n → W n) → Knows own K V s → Knows own J W s
  knows_weaker s vacant h = record {
    identity = h.identity;
    bounded = h.bounded;
    fresh = λ n le. vacant n (h.fresh n le);
    plain = plain_weaker s.next_number s.next_number (omega arith) (λ n low v. vacant n v) s.plain h.plain;
    places = placed_weaker s h.places;
    rows = h.rows;
  }

-- what is done beside a record is right in each state of the manager
pub beside_moved : (b : Beside) (s t : State) → IsSameManager s t → IsRightBeside s b → IsRightBeside t b
beside_moved (beside.SendsExpress now m) s t same h = h
beside_moved (beside.HearsExpress peer number now m refusal) s t same h = (
  h.0,
  λ e k f. h.1 e k (resolved_peer t s (record { identity = sym same.identity; peers = sym same.peers }) m.destination k f),
)
beside_moved b s t same h = tt

-- A number of a row, whatever else changes of it.
there_as : (c : Course) (i : ℕ) (a b : Row) (n : ℕ) → b.peer ≡ a.peer → b.destination ≡ a.destination → b.sequence ≡ a.sequence → IsDecidedThere c i a n → IsDecidedThere c i b n
there_as c i a b n peer destination sequence h = record {
  decider = h.decider;
  leads = record {
    peer = h.leads.peer;
    there = ap (slice_get (manager_at c.network i).state.peers) peer ∙ h.leads.there;
    is = h.leads.is;
  };
  decided = subst (λ d. In {A = Position} (record { sequence = b.sequence; number = n }) (decisions (record { source = (manager_at c.network i).state.identity.guid; destination = d }) (written_of h.decider c.written)))
      (sym destination)
      (subst (λ q. In {A = Position} (record { sequence = q; number = n }) (decisions (record { source = (manager_at c.network i).state.identity.guid; destination = a.destination }) (written_of h.decider c.written)))
      (sym sequence) h.decided);
}

-- the greater of two
max_there : (c : Course) (i : ℕ) (row : Row) (a n : ℕ) → (a ≡ 0) ⊎ IsDecidedThere c i row a → IsDecidedThere c i row n → IsDecidedThere c i row (max a n)
max_there c i row a n h g = at (nat_le a n) refl h
  where
    small : nat_le a n ≡ true → max a n ≡ n
    small e = grind (arith, nat_tests)

    great : nat_le a n ≡ false → max a n ≡ a
    great e = grind (arith, nat_tests)

    none : nat_le a n ≡ false → a ≡ 0 → ⊥
    none e f = grind (arith, nat_tests)

    at : (b : Bool) → nat_le a n ≡ b → (a ≡ 0) ⊎ IsDecidedThere c i row a → IsDecidedThere c i row (max a n)
    at true e x = subst (IsDecidedThere c i row) (sym (small e)) g
    at false e (inl f) = absurd (none e f)
    at false e (inr x) = subst (IsDecidedThere c i row) (sym (great e)) x

-- Rows under a record that is true.

record MayBeAcked (c : Course) (i : ℕ) (s : State) (r : Record) (row : Row) : Type 0 where
  pub acked : IsAckedTruly c i row
  pub order : (ordinal number : ℕ) → Acknowledges r ordinal number → row.sequence.ordinal ≡ ordinal → IsDecidedThere c i row number
  pub final : (m : Message) (k : Kept) → Finishes r m → peer_known s m.id.qm ≡ Some row.peer → In k row.kept → same_id k.message.id m.correlation ≡ true → IsDecidedThere c i row k.number

no_acks : (r : Record) (ordinal number : ℕ) → IsCommit r → Acknowledges r ordinal number → ⊥
no_acks (entry.Commit now ops) ordinal number h g = g
no_acks r ordinal number h g = h

no_final : (r : Record) (m : Message) → IsCommit r → Finishes r m → ⊥
no_final (entry.Commit now ops) m h g = g
no_final r m h g = h

acked_as : (c : Course) (i : ℕ) (a b : Row) → b.peer ≡ a.peer → b.destination ≡ a.destination → b.sequence ≡ a.sequence → b.acked ≡ a.acked → IsAckedTruly c i a → IsAckedTruly c i b
acked_as c i a b peer destination sequence same (inl e) = inl (same ∙ e)
acked_as c i a b peer destination sequence same (inr h) = inr (subst (IsDecidedThere c i b) (sym same) (there_as c i a b a.acked peer destination sequence h))

-- a row that keeps less, acknowledged as far as may be
less_acked : (c : Course) (i : ℕ) (s : State) (r : Record) (row : Row) (acked : ℕ) (kept : List Kept) → ((k : Kept) → In k kept → In k row.kept)
    → IsAckedTruly c i (record row { acked = acked; kept = kept }) → MayBeAcked c i s r row → MayBeAcked c i s r (record row { acked = acked; kept = kept })
less_acked c i s r row acked kept fewer truly h = record {
  acked = truly;
  order = λ ordinal number acks same. there_as c i row (record row { acked = acked; kept = kept }) number refl refl refl (h.order ordinal number acks same);
  final = λ m k ends peer inside named. there_as c i row (record row { acked = acked; kept = kept }) k.number refl refl refl (h.final m k ends peer (fewer k inside) named);
}

acked_allows : (c : Course) (i : ℕ) (s : State) (r : Record) → Allows (MayBeAcked c i s r) s r
acked_allows c i s r = record {
  begins = λ commit t peer destination now low manager leads. record {
    acked = inl refl;
    order = λ ordinal number acks same. absurd (no_acks r ordinal number commit acks);
    final = λ m k ends. absurd (no_final r m commit ends);
  };
  joins = λ commit m row h. record {
    acked = acked_as c i row _ refl refl refl refl h.acked;
    order = λ ordinal number acks same. absurd (no_acks r ordinal number commit acks);
    final = λ x k ends. absurd (no_final r x commit ends);
  };
  offers = λ mark row raises same h. record {
    acked = acked_as c i row _ refl refl refl refl h.acked;
    order = λ ordinal number acks of_row. there_as c i row _ number refl refl refl (h.order ordinal number acks of_row);
    final = λ m k ends peer inside named. there_as c i row _ k.number refl refl refl (h.final m k ends peer inside named);
  };
  acknowledges = λ ordinal number row acks same h. less_acked c i s r row (max row.acked number) _
      (λ k j. filtered_in (λ (x : Kept). nat_lt (max row.acked number) x.number || keeps_dead x.message) row.kept k j)
      (inr (there_as c i row _ (max row.acked number) refl refl refl (max_there c i row row.acked number h.acked (h.order ordinal number acks same)))) h;
  finishes = λ m k row ends peer named h. less_acked c i s r row (max row.acked k.number) _
      (λ x j. without_in (is_offered_as m.correlation row) row.kept x
      (filtered_in (λ (y : Kept). nat_lt (max row.acked k.number) y.number || keeps_dead y.message) (without_first (is_offered_as m.correlation row) row.kept) x j))
      (inr (there_as c i row _ (max row.acked k.number) refl refl refl (max_there c i row row.acked k.number h.acked
      (h.final m k ends peer (found_kept (is_offered_as m.correlation row) row.kept k (found m row k named))
      (split_and (names_kept m.correlation k) (nat_le k.number row.offered) (found_passes (is_offered_as m.correlation row) row.kept k (found m row k named))).0)))) h;
  expires = λ now row h. less_acked c i s r row row.acked _ (λ k j. without_in (expires now row) row.kept k j) (acked_as c i row _ refl refl refl refl h.acked) h;
}
  where
    found : (m : Message) (row : Row) (k : Kept) → kept_named m.correlation row ≡ Some k → find (is_offered_as m.correlation row) row.kept ≡ Some k
    found m row k named = sym (first_is_found (is_offered_as m.correlation row) row.kept) ∙ named

-- Records that may have been made.

pub true_later : (known : List Identity) (c d : Course) → Later known c d → (i : ℕ) (s : State) (r : Record) → IsTrueRecord known c i s r → IsTrueRecord known d i s r
true_later known c d later i s r h = record {
  decided = λ p f. came_later known c d later i p (h.decided p f);
  stored = λ p f e. later.unused p.message.id (h.stored p f e);
  acked = λ ordinal number row acks inside same. there_later known c d later i row number (h.acked ordinal number row acks inside same);
  finished = λ m k row ends inside peer kept named. there_later known c d later i row k.number (h.finished m k row ends inside peer kept named);
}

pub true_moved : (known : List Identity) (c : Course) (i : ℕ) (s t : State) (r : Record) → t.outs ≡ s.outs → t.peers ≡ s.peers → IsTrueRecord known c i s r → IsTrueRecord known c i t r
true_moved known c i s t r outs peers h = record {
  decided = h.decided;
  stored = h.stored;
  acked = λ ordinal number row acks inside same. h.acked ordinal number row acks (subst (In row) outs inside) same;
  finished = λ m k row ends inside peer kept named. h.finished m k row ends (subst (In row) outs inside)
      (ap (λ (ps : List Identity). position (λ p. same_guid p.guid m.id.qm) ps) (sym peers) ∙ peer) kept named;
}

-- A call.

module _ (known : List Identity) (c d : Course) (later : Later known c d) (i : ℕ) where
  abbrev own : Guid
  own = (manager_at c.network i).state.identity.guid

  abbrev state : State
  state = (manager_at c.network i).state

  mine : (id : MessageId) → id.qm ≡ own → Known known d i id
  mine id e = inl (e ∙ sym (later.guid i))

  -- a record is right where it is true
  right : (r : Record) → IsMade state r → IsTrueRecord known c i state r → In (record { by = i; before = state; entry = r }) (written_of i d.written) → IsRight own (Known known d i) state r
  right (entry.Commit now ops) made h there = made.numbered
  right (entry.Plain now p) made h there = (made.id, made.left, made.ordinary)
  right (entry.Arrived now numbers (entry.Decided p)) made h there = λ e. inr (inl (record {
    written = record { by = i; before = state; entry = entry.Arrived now numbers (entry.Decided p) };
    there = there;
    now = now;
    numbers = numbers;
    packet = p;
    head = made.head;
    entry = refl;
    tx = made.there;
    names = refl;
  }))
  right (entry.Arrived now numbers (entry.Stored p)) made h there = λ e. inr (inr (later.unused p.message.id (h.stored p refl e)))
  right r made h there = tt

  -- how a record begins
  start_is : (r : Record) → (started state r).next_number ≡ state.next_number + sent_by r
  start_is (entry.Commit now ops) = refl
  start_is r = omega arith

  module _ (counted : AreCounted state (written_of i c.written)) (knows : Knows own (Known known c i) (Vacant c i) state) where
    more_known : (id : MessageId) → Known known c i id → Known known d i id
    more_known id k = known_later known c d later i id k

    -- without a record
    pub quiet_knows : written_of i d.written ≡ written_of i c.written → Knows own (Known known d i) (Vacant d i) state
    quiet_knows same = knows_weaker own (Known known c i) (Known known d i) (Vacant c i) (Vacant d i) more_known state
        (λ n v m inside. v m (subst (λ ws. In m (commitments ws)) same inside)) knows

    module _ (r : Record) (made : IsMade state r) (truly : IsTrueRecord known c i state r)
        (written : written_of i d.written ≡ written_of i c.written ++ record { by = i; before = state; entry = r } ∷ []) where
      split : (m : Commitment) → In m (commitments (written_of i d.written)) → In m (commitments (written_of i c.written)) ⊎ In m (commitments_in state r)
      split m inside = in_split (commitments (written_of i c.written)) (commitments_in state r) m
          (subst (In m) (ap commitments written ∙ commitments_more (written_of i c.written) (record { by = i; before = state; entry = r })) inside)

      still_vacant : (n : ℕ) → n < state.next_number → Vacant c i n → Vacant d i n
      still_vacant n low v m inside same = at (split m inside)
        where
          at : In m (commitments (written_of i c.written)) ⊎ In m (commitments_in state r) → ⊥
          at (inl x) = v m x same
          at (inr x) = let high = (commits_within state r m made x).0 in omega (arith, low, high, same)

      fresh : (n : ℕ) → state.next_number + sent_by r ≤ n → Vacant d i n
      fresh n le m inside same = at (split m inside)
        where
          at : In m (commitments (written_of i c.written)) ⊎ In m (commitments_in state r) → ⊥
          at (inl x) = let low = (all_in (IsOwnBelow own state.next_number) (commitments (written_of i c.written)) m counted.own_ids x).1 in omega (arith, low, le, same)
          at (inr x) = let low = (commits_within state r m made x).1 in omega (arith, low, le, same)

      -- so many numbers are left
      bounded : (x : Record) → IsMade state x → (started state x).next_number ≤ MAX_NUMBER + 1
      bounded (entry.Commit now ops) m = m.left
      bounded x m = knows.bounded

      -- what it begins with, but for the number
      record Begins (t : State) : Type 0 where
        pub identity : t.identity ≡ state.identity
        pub plain : t.plain ≡ state.plain
        pub places : t.places ≡ state.places
        pub outs : t.outs ≡ state.outs

      begins : (x : Record) → Begins (started state x)
      begins (entry.Identity identity) = record { identity = refl; plain = refl; places = refl; outs = refl }
      begins x = record { identity = refl; plain = refl; places = refl; outs = refl }

      starts : Knows own (Known known d i) (Vacant d i) (started state r)
      starts = let b = begins r in let next = start_is r in record {
        identity = ap (λ (x : Identity). x.guid) b.identity ∙ knows.identity;
        bounded = bounded r made;
        fresh = λ n le. fresh n (omega (arith, le, next));
        plain = subst (AllByRecursion (ArePlain own (Known known d i) (Vacant d i) (started state r).next_number)) (sym b.plain)
            (plain_weaker own (Known known c i) (Known known d i) (Vacant c i) (Vacant d i) more_known state.next_number (started state r).next_number (omega (arith, next)) still_vacant state.plain knows.plain);
        places = subst (ArePlaced (Known known d i)) (sym b.places) (placed_weaker own (Known known c i) (Known known d i) (Vacant c i) (Vacant d i) more_known state knows.places);
        rows = subst (AllByRecursion _) (sym b.outs) knows.rows;
      }

      pub record_knows : Knows own (Known known d i) (Vacant d i) (apply state r)
      record_knows = applied_knows own (Known known d i) (Vacant d i) mine state r
          (right r made truly (subst (In (record { by = i; before = state; entry = r })) (sym written) (in_end (written_of i c.written) (record { by = i; before = state; entry = r })))) starts

      pub record_rows : AllByRecursion (IsAckedTruly c i) state.outs → AllByRecursion (IsAckedTruly d i) (apply state r).outs
      record_rows h = all_weaker (MayBeAcked d i state r) (IsAckedTruly d i) (λ row g. g.acked) (apply state r).outs
          (applied_each (MayBeAcked d i state r) state r (acked_allows d i state r) (all_of (MayBeAcked d i state r) state.outs (λ row inside. record {
            acked = acked_later row (all_in (IsAckedTruly c i) state.outs row h inside);
            order = λ ordinal number acks same. there_later known c d later i row number (truly.acked ordinal number row acks inside same);
            final = λ m k ends peer kept named. there_later known c d later i row k.number (truly.finished m k row ends inside peer kept named);
          })))
        where
          acked_later : (row : Row) → IsAckedTruly c i row → IsAckedTruly d i row
          acked_later row (inl e) = inl e
          acked_later row (inr x) = inr (there_later known c d later i row row.acked x)
