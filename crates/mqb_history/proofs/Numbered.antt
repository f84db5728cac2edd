-- Whatever lines name, and whatever message there is, has a number that a manager gave; and no notice has that of a message which joined a stream.
use Rattle.std.proofs.Common.{refl, ap, sym, subst, ◌∙◌, arith, inl, inr}
use Rattle.std.proofs.lemmas.Bool.Decides.{nat_tests}
use Rattle.std.specs.Prelude.{[], ◌&&◌, ◌+◌, ◌++◌, ◌<◌, ◌==◌, ◌∷◌, ◌≡◌, ◌≤◌, ◌⊎◌, Bool, List, Some, false, length, map, nat_lt, slice_get, suc, true, zero, ℕ}
use Rattle.mqb_base.specs.Same.{same_guid}
use Rattle.mqb_base.specs.declared.ids.Identity.{Identity}
use Rattle.mqb_base.specs.declared.ids.MessageId.{MessageId}
use Rattle.mqb_base.specs.declared.ledger.Line.{Line}
use Rattle.mqb_base.specs.declared.ledger.Line.TheVariants as line
use Rattle.mqb_exactly_once.specs.Words.{In}
use Rattle.mqb_exactly_once.specs.World.{Commitment}
use Rattle.mqb_model.specs.records.Applying.{lines_of}
use Rattle.mqb_model.specs.state.Places.{is_express}
use Rattle.mqb_model.specs.state.State.{State}
use Rattle.mqb_network.specs.Courses.{Course, Written}
use Rattle.mqb_network.specs.Laws.{AreApart, lines_written}
use Rattle.mqb_network.specs.Network.{manager_at}
use Rattle.mqb_history.specs.Carried.{AreDecidedTruly}
use Rattle.mqb_history.specs.Committed.{commitments}
use Rattle.mqb_history.specs.Decided.{written_of}
use Rattle.mqb_history.specs.Expired.{AreExpiredDuly}
use Rattle.mqb_history.specs.Invariants.{AreOwnBelow}
use Rattle.mqb_history.specs.Numbers.{AreCorrelationsNumbered, AreLinesNumbered, AreMessagesNumbered, AreNoticesApart, HasNumber, named_in}
use Rattle.mqb_history.specs.Orderly.{IsOrderly}
use Rattle.mqb_history.specs.Stored.{IsStorageKept, IsStorageOf}
use Rattle.mqb_history.specs.Told.{AreCommitmentsTold, Joined, commitment_told, joined_by}
use Rattle.mqb_history.specs.Truths.{committed_in, told_by}
use Rattle.mqb_history.proofs.Accounted.{IsPlainId, NamesOwn}
use Rattle.mqb_history.proofs.Arriving.{IsPut, arrived, stored_from}
use Rattle.mqb_history.proofs.Balance.{given_own}
use Rattle.mqb_history.proofs.Between.{all_in}
use Rattle.mqb_history.proofs.Borne.{AreBorne, noticed_borne}
use Rattle.mqb_history.proofs.Committing.{in_append}
use Rattle.mqb_history.proofs.Courses.{Agrees, HasSender}
use Rattle.mqb_history.proofs.Gone.{IsAccounted}
use Rattle.mqb_history.proofs.Lists.{get_within, none_some, some_is}
use Rattle.mqb_history.proofs.Noticed.{IsStoring, StoredBy, Told, committed_by, guid_of, heard_in, in_flat, noticed_fair, names_in, own_line, sayings, says_truly, told_from, written_in}
use Rattle.mqb_history.proofs.Numbering.{AreCounted}
use Rattle.mqb_history.proofs.Outside.{filtered_in}
use Rattle.mqb_history.proofs.Puts.{told_in}
use Rattle.mqb_history.proofs.Owned.{given}
use Rattle.mqb_history.proofs.Remaining.{lefts}
use Rattle.mqb_history.proofs.Saying.{Says}
use Rattle.mqb_history.proofs.Sources.{IsCommittedAt, expired_at, put_at, refused_at}
use Rattle.mqb_history.proofs.Tallies.{arrives, copies, left, one_if, tally_from, tally_there, weight, weight_own}

-- a number that was given is below the next one
given_low : (x : MessageId) (s : State) → 1 ≤ given x s → x.number < s.next_number
given_low x s h = at (same_guid x.qm s.identity.guid) (nat_lt x.number s.next_number) refl h
  where
    at : (a b : Bool) → nat_lt x.number s.next_number ≡ b → 1 ≤ one_if (a && b) → x.number < s.next_number
    at false b e one = absurd (omega (arith, one))
    at true false e one = absurd (omega (arith, one))
    at true true e one = grind (arith, nat_tests, e)

-- a member of a list that was mapped
in_mapped : {X Y : Type 0} (f : X → Y) (xs : List X) (y : Y) → In y (map f xs) → (x : X) × In x xs × (f x ≡ y)
in_mapped f [] y i = absurd i
in_mapped f (x ∷ xs) y (inl e) = (x, inl refl, e)
in_mapped f (x ∷ xs) y (inr i) = let g = in_mapped f xs y i in (g.0, inr g.1, g.2)

-- a member parts a list
parted_at : {X : Type 0} (xs : List X) (x : X) → In x xs → (before : List X) × (behind : List X) × (xs ≡ before ++ x ∷ behind)
parted_at [] x i = absurd i
parted_at (y ∷ ys) x (inl e) = ([], ys, ap (λ z. z ∷ ys) e)
parted_at (y ∷ ys) x (inr i) = let g = parted_at ys x i in (y ∷ g.0, g.1, ap (λ zs. y ∷ zs) g.2)

module _ (known : List Identity) (apart : AreApart known) (c : Course) (t : IsAccounted known c) (own_below : AreOwnBelow c) (truly : AreDecidedTruly c) (duly : AreExpiredDuly c) (stored_first : IsStorageKept c)
    (told : AreCommitmentsTold c) (borne : AreBorne known c) where
  abbrev o : IsOrderly known c
  o = t.agreed.0.0

  abbrev h : Agrees known c
  h = t.agreed.1

  abbrev all : List Line
  all = lines_written c.written

  abbrev mine : ℕ → List Line
  mine i = lines_written (written_of i c.written)

  abbrev state : ℕ → State
  state i = (manager_at c.network i).state

  counted : (i : ℕ) → AreCounted (manager_at c.network i).state (written_of i c.written)
  counted i = (t.tallied i).counted

  known_there : (i : ℕ) (own : Identity) → slice_get known i ≡ Some own → i < length c.network.managers
  known_there i own e = subst (λ n. i < n) (sym o.count) (get_within known i own e)

  -- what was committed
  of_committed : (id : MessageId) → IsCommittedAt known c id → HasNumber c id
  of_committed id x = let own = own_below x.source x.commitment x.inside in record {
    by = x.source;
    there = known_there x.source x.own x.there;
    source = ap (λ (i : MessageId). i.qm) (sym x.names) ∙ own.0;
    below = subst (λ (i : MessageId). i.number < (state x.source).next_number) x.names own.1;
  }

  of_plain : (id : MessageId) (i : ℕ) (own : Identity) → slice_get known i ≡ Some own → IsPlainId (state i).identity.guid (state i).next_number (mine i) id → HasNumber c id
  of_plain id i own e g = record { by = i; there = known_there i own e; source = g.source; below = g.below }

  -- what was stored went in a packet
  of_stored : (id : MessageId) (w : Written) → In w c.written → StoredBy w.entry id → HasNumber c id
  of_stored id w i stored = of_plain id sender.sender sender.own sender.there
      (subst (IsPlainId (state sender.sender).identity.guid (state sender.sender).next_number (mine sender.sender)) x.1.names
      ((h.stand sender.sender sender.own sender.there).packets x.1.heard x.1.sent_it (sender.source ∙ sym (guid_of known apart c o h sender.sender sender.own sender.there)) x.1.plain).plain)
    where
      x : (own : Identity) × IsStoring c.sent own.guid id
      x = stored_from known apart c o h counted truly id w i stored

      sender : HasSender known x.1.heard
      sender = h.senders x.1.heard x.1.sent_it x.1.plain

  -- what stands in a queue, or left it, was given, or arrived
  of_kept : (id : MessageId) (i : ℕ) → i < length c.network.managers → 1 ≤ copies id (state i) + lefts id (mine i) → HasNumber c id
  of_kept id i low one = at (given id (state i)) refl
    where
      came : (l : Line) → In l (mine i) → 1 ≤ arrives id l → HasNumber c id
      came l inside counts = by (arrived known apart c o h counted truly id w.0 l (filtered_in (λ (v : Written). v.by == i) c.written w.0 w.1) w.2 counts)
        where
          w : (w : Written) × In w (written_of i c.written) × In l (lines_of w.before w.entry)
          w = in_flat (λ (v : Written). lines_of v.before v.entry) (written_of i c.written) l inside

          by : IsPut known apart c o h counted truly w.0.by id l ⊎ StoredBy w.0.entry id → HasNumber c id
          by (inl put) = of_committed id put.decided.committed
          by (inr stored) = of_stored id w.0 (filtered_in (λ (v : Written). v.by == i) c.written w.0 w.1) stored

      at : (n : ℕ) → given id (state i) ≡ n → HasNumber c id
      at zero e = let le = (t.tallied i).remains id in let l = tally_from (arrives id) (mine i) (omega (arith, le, one, e)) in came l.0 l.1 l.2
      at (suc n) e = record { by = i; there = low; source = given_own id (state i) (omega (arith, e)); below = given_low id (state i) (omega (arith, e)) }

  -- Lines.

  stored_says : (w : Written) (l : Line) → In w c.written → In l (lines_of w.before w.entry) → Says (sayings w.entry) l
  stored_says w l i j = all_in (Says (sayings w.entry)) (lines_of w.before w.entry) l (says_truly w.before w.entry) j

  of_storage : (id : MessageId) (l : Line) → IsStorageOf id l → Told c l → HasNumber c id
  of_storage id l says told = by says
    where
      w : (w : Written) × In w c.written × In l (lines_of w.before w.entry)
      w = written_in known apart c o h l told

      by : IsStorageOf id l → HasNumber c id
      by (inl e) = of_stored id w.0 w.1 (stored_says w.0 (line.Stored id) w.1 (subst (λ x. In x (lines_of w.0.before w.0.entry)) e w.2))
      by (inr (class, e)) = of_stored id w.0 w.1 (stored_says w.0 (line.Bounced class id) w.1 (subst (λ x. In x (lines_of w.0.before w.0.entry)) e w.2))

  -- what was released was stored before
  of_released : (id : MessageId) → Told c (line.Released id) → HasNumber c id
  of_released id told = let parts = parted_at all (line.Released id) told in let found = stored_first parts.0 parts.1 id parts.2 in
      of_storage id found.0 found.2 (subst (In found.0) (sym parts.2) (in_append parts.0 (line.Released id ∷ parts.1) found.0 found.1))

  of_line : (l : Line) (id : MessageId) → named_in l ≡ Some id → Told c l → HasNumber c id
  of_line l id e told = by l e told w.2 names there
    where
      w : (w : Written) × In w c.written × In l (lines_of w.before w.entry)
      w = written_in known apart c o h l told

      own : (own : Identity) × (slice_get known w.0.by ≡ Some own)
      own = let g = heard_in known apart c o h w.0 w.1 in (g.0, g.1)

      low : w.0.by < length c.network.managers
      low = known_there w.0.by own.0 own.1

      there : In l (mine w.0.by)
      there = own_line known apart c o h w.0 l w.1 w.2

      names : NamesOwn (state w.0.by).identity.guid (state w.0.by).next_number (mine w.0.by) l
      names = names_in known apart c o h w.0.by own.0 own.1 l there

      its_own : (id : MessageId) → (id.qm ≡ (state w.0.by).identity.guid) × (id.number < (state w.0.by).next_number) → HasNumber c id
      its_own id g = record { by = w.0.by; there = low; source = g.0; below = g.1 }

      gone : (l : Line) (id : MessageId) → In l (mine w.0.by) → 1 ≤ left id l → HasNumber c id
      gone l id i one = of_kept id w.0.by low (let le = tally_there (left id) (mine w.0.by) l i in omega (arith, le, one))

      weighs : (id : MessageId) → 1 ≤ weight id id
      weighs id = let own = weight_own id in omega (arith, own)

      by : (x : Line) → named_in x ≡ Some id → Told c x → In x (lines_of w.0.before w.0.entry) → NamesOwn (state w.0.by).identity.guid (state w.0.by).next_number (mine w.0.by) x → In x (mine w.0.by) → HasNumber c id
      by (line.Committed stream number other) f i j n k = subst (HasNumber c) (some_is other id f) (its_own other n)
      by (line.Local other) f i j n k = subst (HasNumber c) (some_is other id f) (its_own other n)
      by (line.Lapsed other) f i j n k = subst (HasNumber c) (some_is other id f) (of_plain other w.0.by own.0 own.1 n)
      by (line.Put stream number other) f i j n k = subst (HasNumber c) (some_is other id f) (of_committed other (put_at known apart c o h counted truly w.0 stream number other w.1 j).committed)
      by (line.Refused stream number class other) f i j n k = subst (HasNumber c) (some_is other id f) (of_committed other (refused_at known apart c o h counted truly w.0 stream number class other w.1 j).committed)
      by (line.Expired stream number other moment) f i j n k = subst (HasNumber c) (some_is other id f) (of_committed other (expired_at known apart c o h counted duly w.0 stream number other moment w.1 j).0)
      by (line.Stored other) f i j n k = subst (HasNumber c) (some_is other id f) (of_storage other (line.Stored other) (inl refl) i)
      by (line.Bounced class other) f i j n k = subst (HasNumber c) (some_is other id f) (of_storage other (line.Bounced class other) (inr (class, refl)) i)
      by (line.Released other) f i j n k = subst (HasNumber c) (some_is other id f) (of_released other i)
      by (line.Took other) f i j n k = subst (HasNumber c) (some_is other id f) (gone (line.Took other) other k (weighs other))
      by (line.Purged other) f i j n k = subst (HasNumber c) (some_is other id f) (gone (line.Purged other) other k (weighs other))
      by (line.Swept other) f i j n k = subst (HasNumber c) (some_is other id f) (gone (line.Swept other) other k (weighs other))
      by (line.Emptied other) f i j n k = subst (HasNumber c) (some_is other id f) (borne.emptied w.0.by (get_within known w.0.by own.0 own.1) other k)

  pub lines_numbered : AreLinesNumbered c
  lines_numbered id i = let l = told_from named_in all id i in of_line l.0 id l.2 l.1

  -- Messages, and the notices about them.

  pub messages_numbered : AreMessagesNumbered c
  messages_numbered m i durable = (noticed_borne known c borne m i durable).numbered

  pub correlations_numbered : AreCorrelationsNumbered c
  correlations_numbered m i notice durable = ((noticed_borne known c borne m i durable).notice notice).1

  -- what a line says to have joined a stream did
  committed_told : (id : MessageId) → In id (told_by committed_in c) → (k : ℕ) × (k < length known) × (x : Commitment) × In x (commitments (written_of k c.written)) × (x.message.id ≡ id)
  committed_told id i = by l.0 l.2 w.2
    where
      l : (l : Line) × Told c l × (committed_in l ≡ Some id)
      l = told_from committed_in all id i

      w : (w : Written) × In w c.written × In l.0 (lines_of w.before w.entry)
      w = written_in known apart c o h l.0 l.1

      k : ℕ
      k = w.0.by

      low : k < length known
      low = let g = heard_in known apart c o h w.0 w.1 in get_within known k g.0 g.1

      of : (j : Joined) → In j (map (joined_by (state k).identity.guid) (commitments (written_of k c.written))) → j.id ≡ id
          → (k : ℕ) × (k < length known) × (x : Commitment) × In x (commitments (written_of k c.written)) × (x.message.id ≡ id)
      of j inside names = let x = in_mapped (joined_by (state k).identity.guid) (commitments (written_of k c.written)) j inside in (k, low, x.0, x.1, ap (λ (y : Joined). y.id) x.2 ∙ names)

      by : (x : Line) → committed_in x ≡ Some id → In x (lines_of w.0.before w.0.entry) → (k : ℕ) × (k < length known) × (x : Commitment) × In x (commitments (written_of k c.written)) × (x.message.id ≡ id)
      by (line.Committed stream number other) e j = of (record { stream = stream; number = number; id = other }) (subst (In {A = Joined} (record { stream = stream; number = number; id = other })) (told k)
          (told_in commitment_told (mine k) (line.Committed stream number other) (record { stream = stream; number = number; id = other })
          (own_line known apart c o h w.0 (line.Committed stream number other) w.1 j) refl)) (some_is other id e)
      by x e j = absurd (none_some e)

  pub notices_apart : AreNoticesApart c
  notices_apart m i notice committed = at (is_express m.delivery) refl
    where
      at : (b : Bool) → is_express m.delivery ≡ b → ⊥
      at true e = let high = (noticed_fair known c o h m i).express e in let low = (committed_by known apart c o h m.id committed).number in absurd (omega (arith, high, low))
      at false e = let x = committed_told m.id committed in let unused = ((noticed_borne known c borne m i e).notice notice).0 in
          (unused x.0 x.1 (sym (own_below x.0 x.2 x.3).0 ∙ ap (λ (y : MessageId). y.qm) x.4)).uncommitted x.2 x.3 (ap (λ (y : MessageId). y.number) x.4)
