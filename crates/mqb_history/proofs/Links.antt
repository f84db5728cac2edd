-- Each outgoing row keeps its stream: what the ledger tells of it is what the row's manager committed and let expire.
use Rattle.std.proofs.Common.{refl, ap, sym, subst, ◌∙◌, arith, inl, inr}
use Rattle.std.proofs.lemmas.List.Elements.{All-contains_itself, All-weaker}
use Rattle.std.specs.List.{All, AllByRecursion, Contains, list_any}
use Rattle.std.specs.Prelude.{[], ◌<◌, ◌==◌, ◌∷◌, ◌≡◌, ◌≤◌, ◌⊎◌, Bool, List, None, Some, cond, false, filter, filter_map, fold, length, map, not, option_map, reverse, suc, true, zero, ℕ}
use Rattle.mqb_base.specs.declared.ids.Guid.{Guid}
use Rattle.mqb_base.specs.declared.ids.Identity.{Identity}
use Rattle.mqb_base.specs.declared.ids.MessageId.{MessageId}
use Rattle.mqb_base.specs.declared.ids.SequenceId.{SequenceId}
use Rattle.mqb_base.specs.declared.ledger.Line.{Line}
use Rattle.mqb_base.specs.declared.ledger.Line.TheVariants as line
use Rattle.mqb_base.specs.declared.ledger.Stream.{Stream}
use Rattle.mqb_base.specs.declared.queue_names.QueueName.{QueueName}
use Rattle.mqb_exactly_once.proofs.Members.{In_from_any, In_from_committed, any_from_In, kept_is_committed, kept_is_not_expired}
use Rattle.mqb_exactly_once.specs.Truths.{IsMark}
use Rattle.mqb_exactly_once.specs.Words.{In, is_expired}
use Rattle.mqb_exactly_once.specs.World.{Commitment, Position}
use Rattle.mqb_model.specs.declared.target.Target.TheVariants.{AtPeer}
use Rattle.mqb_model.specs.records.Applying.{apply, lines_of}
use Rattle.mqb_model.specs.records.Record.{Record}
use Rattle.mqb_model.specs.records.Record as entry
use Rattle.mqb_model.specs.state.Resolving.{resolved}
use Rattle.mqb_model.specs.state.Rows.{stream_of}
use Rattle.mqb_model.specs.state.State.{State, empty}
use Rattle.mqb_network.specs.Courses.{Course, Written}
use Rattle.mqb_network.specs.Doubts.{settled}
use Rattle.mqb_network.specs.Laws.{AreApart, lines_written}
use Rattle.mqb_network.specs.Network.{manager_at}
use Rattle.mqb_network.specs.Runs.{after_run}
use Rattle.mqb_orders.specs.KeptLists.{numbers}
use Rattle.mqb_orders.specs.Laws.{KeepsStream, LinkIsBefore}
use Rattle.mqb_orders.specs.Rows.{Row}
use Rattle.mqb_orders.specs.Streams.{expired_of, kept_of, number_committed, number_expired, same_stream}
use Rattle.mqb_orders.specs.declared.kept.Kept.{Kept}
use Rattle.mqb_orders.proofs.Members.{Contains-behind, Contains-front}
use Rattle.mqb_history.specs.Committed.{commitments, numbers_in}
use Rattle.mqb_history.specs.Decided.{written_of}
use Rattle.mqb_history.specs.Expired.{WasDue, expiry_told}
use Rattle.mqb_history.specs.Invariants.{OneStreamWorld}
use Rattle.mqb_history.specs.Leading.{LeadsFrom}
use Rattle.mqb_history.specs.Links.{AreStreamsKept, LinksAreBefore}
use Rattle.mqb_history.specs.Orderly.{IsOrderly}
use Rattle.mqb_history.specs.Shown.{HasMarks, Leads, expiries_to}
use Rattle.mqb_history.specs.Told.{AreCommitmentsTold, Joined, commitment_told, joined_by}
use Rattle.mqb_history.proofs.Acquainting.{committed_to}
use Rattle.mqb_history.proofs.Agreeing.{agreeing}
use Rattle.mqb_history.proofs.Applying.{applied_manager, made_of_no_peer}
use Rattle.mqb_history.proofs.Committing.{IsCounted, all_in, kept_at}
use Rattle.mqb_history.proofs.Courses.{Agrees, one_guid}
use Rattle.mqb_history.proofs.Dispatching.{in_kept}
use Rattle.mqb_history.proofs.Due.{AreDue, IsDue, one_row}
use Rattle.mqb_history.proofs.Exactly.{same_stream_is, same_stream_refl}
use Rattle.mqb_history.proofs.Finding.{expiry_is, joined_line, mapped_from, only_by}
use Rattle.mqb_history.proofs.Holding.{HasExpired, IsWhole, Keeps, in_filter}
use Rattle.mqb_history.proofs.Kept.{KeepsLeft, left_by_records}
use Rattle.mqb_history.proofs.Leading.{leads_on}
use Rattle.mqb_history.proofs.Leads.{leads_there}
use Rattle.mqb_history.proofs.Leaving.{IsClean}
use Rattle.mqb_history.proofs.Lists.{all_weaker, equal_numbers, none_some, not_true, same_number, some_is, true_not_false}
use Rattle.mqb_history.proofs.Noticed.{guid_of, heard_in, own_line, told_from}
use Rattle.mqb_history.proofs.Numbering.{joined_outs}
use Rattle.mqb_history.proofs.Outside.{filtered_in}
use Rattle.mqb_history.proofs.Pledging.{expired_shown}
use Rattle.mqb_history.proofs.Previous.{in_numbers, in_range}
use Rattle.mqb_history.proofs.Puts.{told_in}
use Rattle.mqb_history.proofs.Rows.{HasRow}
use Rattle.mqb_history.proofs.Rowwise.{Allows, applied_each, resolved_peer}
use Rattle.mqb_history.proofs.Showing.{route_of}
use Rattle.mqb_history.proofs.Staying.{IsSameManager, same_manager}
use Rattle.mqb_history.proofs.Telling.{always_told_commitments}
use Rattle.mqb_history.proofs.Witnessing.{always_one_stream_world}
use Rattle.mqb_history.proofs.Written.{IsByRecords, always_by_records}

-- Each row leads to its peer.

abbrev LeadsToPeer : State → Row → Type 0
LeadsToPeer s row = resolved s row.destination ≡ AtPeer row.peer

abbrev AreRowsLed : State → List Written → Type 0
AreRowsLed s ws = AllByRecursion (LeadsToPeer s) s.outs

same_back : (a b : State) → IsSameManager a b → IsSameManager b a
same_back a b same = record { identity = sym same.identity; peers = sym same.peers }

lead_after : (a b : State) → IsSameManager a b → (rows : List Row) → AllByRecursion (LeadsToPeer a) rows → AllByRecursion (LeadsToPeer b) rows
lead_after a b same rows h = all_weaker (LeadsToPeer a) (LeadsToPeer b) (λ (row : Row) g. resolved_peer a b same row.destination row.peer g) rows h

leads_allows : (s : State) (r : Record) → Allows (LeadsToPeer s) s r
leads_allows s r = record {
  begins = λ commit t peer destination now low same leads. resolved_peer t s (same_back s t same) destination peer leads;
  joins = λ commit m row h. h;
  offers = λ mark row raises same h. h;
  acknowledges = λ ordinal number row acks same h. h;
  finishes = λ m k row ends peer named h. h;
  expires = λ now row h. h;
}

rows_led_by_records : IsByRecords AreRowsLed
rows_led_by_records = record {
  starts = λ own peers. begins (fold apply (empty own) (map (λ peer. entry.Peer peer) peers)) (joined_outs (empty own) peers);
  quiet = λ a b ws same h. lead_after a b same.manager b.outs (subst (AllByRecursion (LeadsToPeer a)) (sym same.outs) h);
  grows = λ i s r ws made h. lead_after s (apply s r) (applied_manager s r (made_of_no_peer s r made)) (apply s r).outs (applied_each (LeadsToPeer s) s r (leads_allows s r) h);
}
  where
    begins : (s : State) → s.outs ≡ [] → AreRowsLed s []
    begins s e = subst (AllByRecursion (LeadsToPeer s)) (sym e) tt

-- Lists.

in_contained : (xs : List ℕ) (x : ℕ) → In x xs → Contains xs x
in_contained [] x i = absurd i
in_contained (y ∷ ys) x (inl e) = subst (Contains (y ∷ ys)) e (Contains-front y ys)
in_contained (y ∷ ys) x (inr i) = Contains-behind y ys x (in_contained ys x i)

contained_in : (xs : List ℕ) (x : ℕ) → Contains xs x → In x xs
contained_in [] x (k, within, is) = absurd (omega (arith, within))
contained_in (y ∷ ys) x (zero, within, is) = inl is
contained_in (y ∷ ys) x (suc k, within, is) = inr (contained_in ys x (k, omega (arith, within), is))

all_of : (P : ℕ → Type 0) (xs : List ℕ) → ((x : ℕ) → In x xs → P x) → All P xs
all_of P xs h = All-weaker (Contains xs) P (λ x inside. h x (contained_in xs x inside)) xs (All-contains_itself xs)

passing : (test : ℕ → Bool) (xs : List ℕ) (x : ℕ) → In x (filter test xs) → test x ≡ true
passing test [] x i = absurd i
passing test (y ∷ ys) x i = at (test y) refl i (passing test ys x)
  where
    at : (b : Bool) → test y ≡ b → In x (cond b (y ∷ filter test ys) (filter test ys)) → (In x (filter test ys) → test x ≡ true) → test x ≡ true
    at true e (inl f) rest = ap test (sym f) ∙ e
    at true e (inr j) rest = rest j
    at false e j rest = rest j

-- Lines of a stream.

numbered : (s t : Stream) (number n : ℕ) → cond (same_stream s t) (Some number) None ≡ Some n → (t ≡ s) × (number ≡ n)
numbered s t number n e = at (same_stream s t) refl e
  where
    at : (b : Bool) → same_stream s t ≡ b → cond b (Some number) None ≡ Some n → (t ≡ s) × (number ≡ n)
    at true same f = (same_stream_is s t same, some_is number n f)
    at false same f = absurd (none_some f)

committed_line : (s : Stream) (l : Line) (n : ℕ) → number_committed s l ≡ Some n → (id : MessageId) × (l ≡ line.Committed s n id)
committed_line s (line.Committed t number id) n e = let is = numbered s t number n e in
    (id, ap (λ (x : Stream). line.Committed x number id) is.0 ∙ ap (λ (x : ℕ). line.Committed s x id) is.1)
committed_line s l n e = absurd (none_some e)

expired_line : (s : Stream) (l : Line) (n : ℕ) → number_expired s l ≡ Some n → (id : MessageId) × (moment : ℕ) × (l ≡ line.Expired s n id moment)
expired_line s (line.Expired t number id moment) n e = let is = numbered s t number n e in
    (id, moment, ap (λ (x : Stream). line.Expired x number id moment) is.0 ∙ ap (λ (x : ℕ). line.Expired s x id moment) is.1)
expired_line s l n e = absurd (none_some e)

commits_its_own : (s : Stream) (n : ℕ) (id : MessageId) → number_committed s (line.Committed s n id) ≡ Some n
commits_its_own s n id = ap (λ b. cond b (Some n) None) (same_stream_refl s)

expires_its_own : (s : Stream) (n : ℕ) (id : MessageId) (moment : ℕ) → number_expired s (line.Expired s n id moment) ≡ Some n
expires_its_own s n id moment = ap (λ b. cond b (Some n) None) (same_stream_refl s)

is_same : (a b : ℕ) → (a == b) ≡ true → a ≡ b
is_same a b e = equal_numbers a b e

-- One row of a manager, by the lines of the manager.
module _ (s : State) (ws : List Written) (left : KeepsLeft s ws) (told : filter_map commitment_told (lines_written ws) ≡ map (joined_by s.identity.guid) (commitments ws))
    (row : Row) (there : In row s.outs) where
  abbrev ls : List Line
  ls = lines_written ws

  abbrev cs : List Commitment
  cs = commitments ws

  abbrev stream : Stream
  stream = stream_of s row

  abbrev due : AreDue s ws
  due = left.0

  abbrev own : SequenceId → ℕ → Position
  own q n = record { sequence = q; number = n }

  -- what is committed to its sequence goes to its destination
  to_its_own : (m : Commitment) → In m cs → m.position.sequence ≡ row.sequence → m.message.destination ≡ row.destination
  to_its_own m inside same = let place = all_in (HasRow s.outs) cs m due.0.1 inside in
      sym place.3 ∙ ap (λ (r : Row). r.destination) (one_row s.outs place.0 row due.0.0.0.rise place.1 there (ap (λ (q : SequenceId). q.ordinal) (place.2 ∙ same)))

  -- each commitment to it has its line
  line_made : (m : Commitment) → In m cs → m.position.sequence ≡ row.sequence → In m.position.number (filter_map (number_committed stream) ls)
  line_made m inside same = told_in (number_committed stream) ls found.0 m.position.number found.1
      (ap (number_committed stream) (joined_line found.0 j found.2 ∙ ap (λ (x : Stream). line.Committed x m.position.number m.message.id) is_stream)
      ∙ commits_its_own stream m.position.number m.message.id)
    where
      j : Joined
      j = joined_by s.identity.guid m

      is_stream : j.stream ≡ stream
      is_stream = ap (λ d. record { source = s.identity.guid; destination = d; sequence = m.position.sequence }) (to_its_own m inside same)
          ∙ ap (λ q. record { source = s.identity.guid; destination = row.destination; sequence = q }) same

      mapped : (xs : List Commitment) → In m xs → In j (map (joined_by s.identity.guid) xs)
      mapped [] i = absurd i
      mapped (x ∷ xs) (inl e) = inl (ap (joined_by s.identity.guid) e)
      mapped (x ∷ xs) (inr i) = inr (mapped xs i)

      found : (l : Line) × In l ls × (commitment_told l ≡ Some j)
      found = told_from commitment_told ls j (subst (In j) (sym told) (mapped cs inside))

  -- and each line has its commitment
  made_of : (n : ℕ) → In n (filter_map (number_committed stream) ls) → (m : Commitment) × In m cs × (m.position ≡ own row.sequence n)
  made_of n i = (m.0, m.1, ap (λ (x : Joined). own x.stream.sequence x.number) m.2)
    where
      l : (l : Line) × In l ls × (number_committed stream l ≡ Some n)
      l = told_from (number_committed stream) ls n i

      as_line : (id : MessageId) × (l.0 ≡ line.Committed stream n id)
      as_line = committed_line stream l.0 n l.2

      j : Joined
      j = record { stream = stream; number = n; id = as_line.0 }

      m : (m : Commitment) × In m cs × (joined_by s.identity.guid m ≡ j)
      m = mapped_from (joined_by s.identity.guid) cs j (subst (In j) told (told_in commitment_told ls l.0 j l.1 (ap commitment_told as_line.1)))

  -- what expired in its sequence has a line of its stream
  expiry_made : (n : ℕ) → HasExpired ls row.sequence n → In n (expired_of stream ls)
  expiry_made n i = told_in (number_expired stream) ls l.0 n l.1
      (ap (number_expired stream) (is.3 ∙ ap (λ (x : Stream). line.Expired x n is.1 is.2) is_stream) ∙ expires_its_own stream n is.1 is.2)
    where
      l : (l : Line) × In l ls × (expiry_told l ≡ Some (own row.sequence n))
      l = told_from expiry_told ls (own row.sequence n) i

      is : (t : Stream) × (id : MessageId) × (moment : ℕ) × (l.0 ≡ line.Expired t n id moment) × (t.sequence ≡ row.sequence)
      is = expiry_is l.0 (own row.sequence n) l.2

      was : WasDue s.identity.guid cs is.0 n is.1 is.2
      was = all_in (IsDue s.identity.guid cs) ls (line.Expired is.0 n is.1 is.2) due.1 (subst (λ x. In x ls) is.3 l.1)

      is_stream : is.0 ≡ stream
      is_stream = sym (ap (λ (j : Joined). j.stream) was.joined)
          ∙ ap (λ d. record { source = s.identity.guid; destination = d; sequence = was.commitment.position.sequence })
          (to_its_own was.commitment was.there (ap (λ (j : Joined). j.stream.sequence) was.joined ∙ is.4))
          ∙ ap (λ q. record { source = s.identity.guid; destination = row.destination; sequence = q }) (ap (λ (j : Joined). j.stream.sequence) was.joined ∙ is.4)

  expiry_of : (n : ℕ) → In n (expired_of stream ls) → HasExpired ls row.sequence n
  expiry_of n i = told_in expiry_told ls l.0 (own row.sequence n) l.1 (ap expiry_told is.2)
    where
      l : (l : Line) × In l ls × (number_expired stream l ≡ Some n)
      l = told_from (number_expired stream) ls n i

      is : (id : MessageId) × (moment : ℕ) × (l.0 ≡ line.Expired stream n id moment)
      is = expired_line stream l.0 n l.2

  abbrev test : ℕ → Bool
  test n = not (list_any (λ m. m == n) (expired_of stream ls))

  still_kept : (n : ℕ) → (HasExpired ls row.sequence n → ⊥) → test n ≡ true
  still_kept n none = at (list_any (λ m. m == n) (expired_of stream ls)) refl
    where
      at : (b : Bool) → list_any (λ m. m == n) (expired_of stream ls) ≡ b → not b ≡ true
      at false e = refl
      at true e = let x = In_from_any (λ m. m == n) (expired_of stream ls) e in absurd (none (subst (HasExpired ls row.sequence) (is_same x.0 n x.2) (expiry_of x.0 x.1)))

  not_expired : (n : ℕ) → test n ≡ true → HasExpired ls row.sequence n → ⊥
  not_expired n e h = true_not_false (list_any (λ m. m == n) (expired_of stream ls)) (any_from_In (λ m. m == n) n (expired_of stream ls) (expiry_made n h) (same_number n)) (not_true _ e)

  -- what it keeps above the acknowledged number is what was committed and did not expire

  all_kept : (n : ℕ) → In n (kept_of stream ls) → row.acked < n → Contains (numbers row.kept) n
  all_kept n i above = at (all_in (IsWhole ls) s.outs row due.0.0.1 there n above within)
    where
      m : (m : Commitment) × In m cs × (m.position ≡ own row.sequence n)
      m = made_of n (filtered_in test (filter_map (number_committed stream) ls) n i)

      within : n ≤ row.committed
      within = let counted = all_in (IsCounted cs) s.outs row due.0.0.0.rows there in
          let less = in_range 1 (length (numbers_in row.sequence cs)) n (subst (In n) (due.0.0.0.numbered row.sequence)
          (subst (λ (p : Position). In p.number (numbers_in p.sequence cs)) m.2 (in_numbers cs m.0 m.1))) in
          let count = counted.count in omega (arith, less, count)

      numbered_in : (ks : List Kept) (k : Kept) → In k ks → In k.number (numbers ks)
      numbered_in [] k j = absurd j
      numbered_in (x ∷ ks) k (inl e) = inl (ap (λ (y : Kept). y.number) e)
      numbered_in (x ∷ ks) k (inr j) = inr (numbered_in ks k j)

      at : Keeps row n ⊎ HasExpired ls row.sequence n → Contains (numbers row.kept) n
      at (inl k) = in_contained (numbers row.kept) n (subst (λ x. In x (numbers row.kept)) k.2 (numbered_in row.kept k.0 k.1))
      at (inr e) = absurd (not_expired n (passing test (filter_map (number_committed stream) ls) n i) e)

  only_kept : (n : ℕ) → In n (numbers row.kept) → Contains (kept_of stream ls) n
  only_kept n i = in_contained (kept_of stream ls) n (subst (λ x. In x (kept_of stream ls)) k.2 (in_filter test (filter_map (number_committed stream) ls) k.0.number
      (still_kept k.0.number (clean.left k.0 k.1)) (line_made (kept_at row k.0) (counted.kept k.0 k.1) refl)))
    where
      k : (k : Kept) × In k row.kept × (k.number ≡ n)
      k = in_kept row.kept n i

      clean : IsClean ls row
      clean = all_in (IsClean ls) s.outs row left.1 there

      counted : IsCounted cs row
      counted = all_in (IsCounted cs) s.outs row due.0.0.0.rows there

  -- so was the acknowledged number, by the stream world of its channel
  acked_kept : (c : Course) (i j : ℕ) → (manager_at c.network i).state ≡ s → written_of i c.written ≡ ws → OneStreamWorld c i j row.destination
      → (row.acked ≡ 0) ⊎ Contains (kept_of stream ls) row.acked
  acked_kept c i j is_state is_written one = at (subst (IsMark one.world row.sequence) marked.acks (one.invariant.marks_stand row.sequence).acknowledged)
    where
      marked : HasMarks one.world.offered one.world.acknowledged row
      marked = one.shown.at_source.marks row (subst (λ (x : State). In row x.outs) (sym is_state) there) refl

      p : Position
      p = own row.sequence row.acked

      at : IsMark one.world row.sequence row.acked → (row.acked ≡ 0) ⊎ Contains (kept_of stream ls) row.acked
      at (inl none) = inl none
      at (inr kept) = inr (in_contained (kept_of stream ls) row.acked (in_filter test (filter_map (number_committed stream) ls) row.acked (still_kept row.acked unexpired)
          (subst (λ (q : Position). In q.number (filter_map (number_committed stream) ls)) x.2 (line_made x.0 mine (ap (λ (q : Position). q.sequence) x.2)))))
        where
          x : (x : Commitment) × In x one.world.committed × (x.position ≡ p)
          x = In_from_committed one.world.committed p (kept_is_committed one.world.committed one.world.expired p kept)

          mine : In x.0 cs
          mine = subst (λ (vs : List Written). In x.0 (commitments vs)) is_written
              (committed_to row.destination (commitments (written_of i c.written)) x.0 (subst (In x.0) one.shown.at_source.commits x.1)).0

          unexpired : HasExpired ls row.sequence row.acked → ⊥
          unexpired e = true_not_false _ (expired_shown row.destination s ws row p due there refl refl e)
              (subst (λ es. is_expired es p ≡ false) (one.shown.at_source.expiries ∙ ap (λ (vs : List Written). reverse (expiries_to row.destination (lines_written vs))) is_written)
              (kept_is_not_expired one.world.committed one.world.expired p kept))

-- By the whole ledger.
module _ (known : List Identity) (apart : AreApart known) (c : Course) (o : IsOrderly known c) (h : Agrees known c) (told : AreCommitmentsTold c)
    (left : (i : ℕ) → KeepsLeft (manager_at c.network i).state (written_of i c.written)) (led : (i : ℕ) → AreRowsLed (manager_at c.network i).state (written_of i c.written))
    (one : (i j : ℕ) (d : QueueName) → Leads c.network i j d → OneStreamWorld c i j d) where
  abbrev guid_at : ℕ → Guid
  guid_at i = (manager_at c.network i).state.identity.guid

  abbrev mine : ℕ → List Line
  mine i = lines_written (written_of i c.written)

  abbrev all : List Line
  all = lines_written c.written

  module _ (i : ℕ) (row : Row) (there : In row (manager_at c.network i).state.outs) where
    abbrev s : State
    s = (manager_at c.network i).state

    abbrev its : Stream
    its = stream_of s row

    from : (j : ℕ) × LeadsFrom s c.network row.destination j × LeadsFrom s c.network row.destination j × (i ≡ j → ⊥)
    from = leads_on known c o i s (same_manager s) row.destination row.peer (leads_there s row.destination row.peer (all_in (LeadsToPeer s) s.outs row (led i) there))

    leads : Leads c.network i from.0 row.destination
    leads = record { there = from.1.there; peer = from.1.peer; target = from.1.target; identity = ap (option_map (λ (p : Identity). p.guid)) from.1.identity }

    -- whoever writes lines with this source is the row's manager
    by_it : (w : Written) → In w c.written → guid_at w.by ≡ guid_at i → w.by ≡ i
    by_it w inside same = let a = heard_in known apart c o h w inside in let r = route_of known c i from.0 row.destination o leads in
        one_guid known w.by i a.0 r.own apart a.1 r.own_there (sym (guid_of known apart c o h w.by a.0 a.1) ∙ same ∙ guid_of known apart c o h i r.own r.own_there)

    commits_here : (w : Written) (l : Line) (n : ℕ) → In w c.written → In l (lines_of w.before w.entry) → number_committed its l ≡ Some n → w.by ≡ i
    commits_here w l n inside j e = by_it w inside (ap (λ (x : Joined). x.stream.source) m.2)
      where
        as_line : (id : MessageId) × (l ≡ line.Committed its n id)
        as_line = committed_line its l n e

        x : Joined
        x = record { stream = its; number = n; id = as_line.0 }

        m : (m : Commitment) × In m (commitments (written_of w.by c.written)) × (joined_by (guid_at w.by) m ≡ x)
        m = mapped_from (joined_by (guid_at w.by)) (commitments (written_of w.by c.written)) x
            (subst (In x) (told w.by) (told_in commitment_told (mine w.by) l x (own_line known apart c o h w l inside j) (ap commitment_told as_line.1)))

    expires_here : (w : Written) (l : Line) (n : ℕ) → In w c.written → In l (lines_of w.before w.entry) → number_expired its l ≡ Some n → w.by ≡ i
    expires_here w l n inside j e = by_it w inside (ap (λ (x : Joined). x.stream.source) was.joined)
      where
        as_line : (id : MessageId) × (moment : ℕ) × (l ≡ line.Expired its n id moment)
        as_line = expired_line its l n e

        was : WasDue (guid_at w.by) (commitments (written_of w.by c.written)) its n as_line.0 as_line.1
        was = all_in (IsDue (guid_at w.by) (commitments (written_of w.by c.written))) (mine w.by) (line.Expired its n as_line.0 as_line.1) (left w.by).0.1
            (subst (λ y. In y (mine w.by)) as_line.2 (own_line known apart c o h w l inside j))

    same_kept : kept_of its all ≡ kept_of its (mine i)
    same_kept = ap (λ ns. filter (λ n. not (list_any (λ m. m == n) (expired_of its all))) ns) (only_by (number_committed its) i c.written commits_here)
        ∙ ap (λ es. filter (λ n. not (list_any (λ m. m == n) es)) (filter_map (number_committed its) (mine i))) (only_by (number_expired its) i c.written expires_here)

    keeps_own : KeepsStream its (mine i) row.acked row.kept
    keeps_own = record {
      all = all_of (λ n. row.acked < n → Contains (numbers row.kept) n) (kept_of its (mine i)) (λ n inside above. all_kept s (written_of i c.written) (left i) (told i) row there n inside above);
      only = all_of (λ n. row.acked < n → Contains (kept_of its (mine i)) n) (numbers row.kept) (λ n inside above. only_kept s (written_of i c.written) (left i) (told i) row there n inside);
      acked_kept = acked_kept s (written_of i c.written) (left i) (told i) row there c i from.0 refl refl (one i from.0 row.destination leads);
    }

    pub keeps : KeepsStream its all row.acked row.kept
    keeps = record {
      all = subst (All (λ n. row.acked < n → Contains (numbers row.kept) n)) (sym same_kept) keeps_own.all;
      only = subst (λ ks. All (λ n. row.acked < n → Contains ks n) (numbers row.kept)) (sym same_kept) keeps_own.only;
      acked_kept = subst (λ ks. (row.acked ≡ 0) ⊎ Contains ks row.acked) (sym same_kept) keeps_own.acked_kept;
    }

pub links_are_before : LinkIsBefore → LinksAreBefore
links_are_before law known ms apart run kept = (streams, λ i row n there above. law (stream_of (manager_at c.network i).state row) (lines_written c.written) row.acked row.kept n (streams i row there) above)
  where
    c : Course
    c = settled kept (after_run known ms)

    streams : AreStreamsKept c
    streams i row there = let h = agreeing known apart ms run kept in keeps known apart c h.0 h.1 (always_told_commitments known ms apart run kept)
        (always_by_records KeepsLeft left_by_records known ms apart run kept) (always_by_records AreRowsLed rows_led_by_records known ms apart run kept)
        (always_one_stream_world known ms apart run kept) i row there
