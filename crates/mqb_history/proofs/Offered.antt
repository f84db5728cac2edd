-- What a pump sends of a stream is kept by its row, and is offered behind the pump's record.
use Rattle.std.proofs.Common.{refl, ap, sym, subst, ◌∙◌, arith, inl, inr}
use Rattle.std.proofs.lemmas.Bool.Decides.{nat_tests}
use Rattle.std.specs.List.{AllByRecursion, cons_option, enumerate_from, flat_map}
use Rattle.std.specs.Option.{option_map_or}
use Rattle.std.specs.Prelude.{[], ◌&&◌, ◌+◌, ◌++◌, ◌<◌, ◌==◌, ◌∷◌, ◌≡◌, ◌≤◌, ◌⊎◌, Bool, Err, IfSome, List, None, Ok, Option, Some, cond, false, filter_map, fold, is_none, length, map, max, nat_lt, not, slice_get, suc, true, zero, zip, ℕ}
use Rattle.mqb_base.specs.declared.heads.SessionHead.{SessionHead}
use Rattle.mqb_base.specs.declared.heads.TxHead.{TxHead}
use Rattle.mqb_base.specs.declared.ids.Guid.{Guid}
use Rattle.mqb_base.specs.declared.ids.Identity.{Identity}
use Rattle.mqb_entries.specs.declared.members.Mark.{Mark}
use Rattle.mqb_exactly_once.specs.Words.{In}
use Rattle.mqb_model.specs.calls.pump.Candidates.{Candidate, acks, candidates, of_row, plain_candidates, row_candidates, rows_owing, tx_of, unsent_from, unsent_of, waiting}
use Rattle.mqb_model.specs.calls.pump.Choosing.{candidate_size, chosen, head_for, may_follow, session_after, with_heads}
use Rattle.mqb_model.specs.calls.pump.Pump.{PumpOutcome, carriage_for, greatest_sent, mark_for, marks_for, number_of_row, offered_entry, packet_for, pump_at, pump_linked, pump_owed, pump_refusal, pump_to, sending_chosen, sending_one, set_up_packet}
use Rattle.mqb_model.specs.declared.faults.PumpFault.{PumpFault}
use Rattle.mqb_model.specs.declared.faults.PumpFault.TheVariants as fault
use Rattle.mqb_model.specs.managers.Beside.{OfExpress, OfRecoverable, OfRow, Origin}
use Rattle.mqb_model.specs.managers.Manager.{Manager, Rest, linked_peer}
use Rattle.mqb_model.specs.managers.Outcomes.{answering, recorded, unless}
use Rattle.mqb_model.specs.records.Record.{Record}
use Rattle.mqb_model.specs.records.Record as entry
use Rattle.mqb_model.specs.rules.Numbers.{express_after}
use Rattle.mqb_model.specs.state.State.{State}
use Rattle.mqb_orders.specs.Rows.{Row, is_open}
use Rattle.mqb_orders.specs.declared.kept.Kept.{Kept}
use Rattle.mqb_orders.specs.declared.rows.InRow.{InRow}
use Rattle.mqb_packet.specs.Plain.{carried_user}
use Rattle.mqb_packet.specs.declared.packet.Packet.{Packet}
use Rattle.mqb_packet.specs.declared.packet.Packet.TheVariants as packet
use Rattle.mqb_packet.specs.declared.packet.UserPacket.{UserPacket}
use Rattle.mqb_plain.specs.Plain.{PlainLists}
use Rattle.mqb_plain.specs.declared.outgoing.Outgoing.{Outgoing}
use Rattle.mqb_session.specs.Phases.{owed_by}
use Rattle.mqb_session.specs.Sending.{is_ready, is_spent, stamped}
use Rattle.mqb_session.specs.State as one_end
use Rattle.mqb_session.specs.declared.heads.Kind.TheVariants as kind
use Rattle.mqb_setup.specs.declared.internal.Internal.{Internal}
use Rattle.mqb_setup.specs.declared.internal.Internal.TheVariants as internal
use Rattle.mqb_network.specs.Courses.{Written}
use Rattle.mqb_model.specs.calls.Call.{Pump, outcome_of}
use Rattle.mqb_history.specs.Made.{IsMade}
use Rattle.mqb_history.proofs.Between.{all_in}
use Rattle.mqb_history.proofs.Due.{one_row}
use Rattle.mqb_history.proofs.Lists.{all_append, get_in, none_some, other_numbers, same_number, some_is}
use Rattle.mqb_history.proofs.Numbering.{AreCounted}
use Rattle.mqb_history.proofs.Offering.{StandsIn, WasOffered, new_stand, record_stands}
use Rattle.mqb_history.proofs.Outside.{filtered_in}

-- the mark of a packet of a stream
abbrev pub mark_of : TxHead → Mark
mark_of tx = record { ordinal = tx.sequence.ordinal; number = tx.number }

-- a packet goes of a row that keeps its message, and stands behind a record
pub record IsOffered (s : State) (o : Option Record) (p : UserPacket) (tx : TxHead) : Type 0 where
  pub row : Row
  pub there : In row s.outs
  pub kept : Kept
  pub inside : In kept row.kept
  pub id : p.message.id ≡ kept.message.id
  pub sequence : tx.sequence ≡ row.sequence
  pub number : tx.number ≡ kept.number
  pub stands : StandsIn (recorded s o) (mark_of tx)

-- a candidate of a stream is of a row
record IsOfRow (s : State) (c : Candidate) (tx : TxHead) : Type 0 where
  pub index : ℕ
  pub row : Row
  pub there : slice_get s.outs index ≡ Some row
  pub kept : Kept
  pub inside : In kept row.kept
  pub origin : c.origin ≡ OfRow index kept.number
  pub message : c.message ≡ kept.message
  pub head : tx ≡ tx_of row kept

-- The greatest number.

greatest_low : (a : ℕ) (ns : List ℕ) → a ≤ fold max a ns
greatest_low a [] = omega arith
greatest_low a (n ∷ ns) = let le = greatest_low (max a n) ns in omega (arith, le)

greatest_in : (a n : ℕ) (ns : List ℕ) → In n ns → n ≤ fold max a ns
greatest_in a n [] i = absurd i
greatest_in a n (x ∷ ns) (inl e) = let le = greatest_low (max a x) ns in omega (arith, le, e)
greatest_in a n (x ∷ ns) (inr i) = greatest_in (max a x) n ns i

found_in : {X Y : Type 0} (f : X → Option Y) (xs : List X) (x : X) (y : Y) → In x xs → f x ≡ Some y → In y (filter_map f xs)
found_in f [] x y i e = absurd i
found_in {X} {Y} f (z ∷ xs) x y (inl g) e = subst (λ o. In y (cons_option o (filter_map f xs))) (sym (ap f g ∙ e)) (inl refl)
found_in {X} {Y} f (z ∷ xs) x y (inr i) e = at (f z) (found_in f xs x y i e)
  where
    at : (o : Option Y) → In y (filter_map f xs) → In y (cons_option o (filter_map f xs))
    at None j = j
    at (Some w) j = inr j

enumerated : {X : Type 0} (n : ℕ) (xs : List X) (k : ℕ) (x : X) → slice_get xs k ≡ Some x → In (n + k, x) (enumerate_from n xs)
enumerated n [] k x e = absurd (none_some e)
enumerated {X} n (y ∷ xs) zero x e = inl (ap (λ z. (n, z)) (some_is y x e) ∙ ap (λ j. (j, x)) (let f : n ≡ n + 0 = omega arith in f))
enumerated {X} n (y ∷ xs) (suc k) x e = inr (subst (λ j. In (j, x) (enumerate_from (n + 1) xs)) (let f : (n + 1) + k ≡ n + suc k = omega arith in f) (enumerated (n + 1) xs k x e))

-- What goes stands.

-- a smaller mark stands where a greater one does
smaller : (s : State) (ordinal n m : ℕ) → n ≤ m → StandsIn s (record { ordinal = ordinal; number = m }) → StandsIn s (record { ordinal = ordinal; number = n })
smaller s ordinal n m le h = record { given = h.given; offered = all s.outs h.offered }
  where
    all : (rows : List Row) → AllByRecursion (WasOffered (record { ordinal = ordinal; number = m })) rows → AllByRecursion (WasOffered (record { ordinal = ordinal; number = n })) rows
    all [] g = tt
    all (row ∷ rows) g = ((λ same. let low = g.0 same in omega (arith, low, le)), all rows g.1)

never : (ys : List Mark) → (suc (length ys) == 0) ≡ false
never ys = other_numbers (suc (length ys)) 0 (λ g. omega (arith, g))

module _ (s : State) (ws : List Written) (counted : AreCounted s ws) (cs : List Candidate) (made : IfSome (offered_entry s cs) (IsMade s)) where
  abbrev marks : List Mark
  marks = marks_for s cs

  -- one that a row was offered already
  was_there : (row : Row) → In row s.outs → (n : ℕ) → n ≤ row.offered → StandsIn s (record { ordinal = row.sequence.ordinal; number = n })
  was_there row i n le = record { given = all_in (λ (x : Row). x.sequence.ordinal < s.next_ordinal) s.outs row counted.below i; offered = all s.outs (λ x j. j) }
    where
      all : (xs : List Row) → ((x : Row) → In x xs → In x s.outs) → AllByRecursion (WasOffered (record { ordinal = row.sequence.ordinal; number = n })) xs
      all [] sub = tt
      all (x ∷ xs) sub = (
        λ same. subst (λ (y : Row). n ≤ y.offered) (one_row s.outs row x counted.rise i (sub x (inl refl)) (sym same)) le,
        all xs (λ y j. sub y (inr j)),
      )

  -- behind the record
  behind : (mark : Mark) → In mark marks ⊎ StandsIn s mark → StandsIn (recorded s (offered_entry s cs)) mark
  behind mark h = at marks refl made h
    where
      at : (xs : List Mark) → marks ≡ xs → IfSome (cond (length xs == 0) None (Some (entry.Offered xs))) (IsMade s) → In mark marks ⊎ StandsIn s mark → StandsIn (recorded s (cond (length xs == 0) None (Some (entry.Offered xs)))) mark
      at [] e g (inl i) = absurd (subst (In mark) e i)
      at [] e k (inr g) = g
      at (x ∷ xs) e k (inl i) = subst (λ b. StandsIn (recorded s (cond b None (Some (entry.Offered (x ∷ xs))))) mark) (sym (never xs))
          (all_in _ (x ∷ xs) mark (new_stand s (entry.Offered (x ∷ xs)) counted.rise counted.below (subst (λ b. IfSome (cond b None (Some (entry.Offered (x ∷ xs)))) (IsMade s)) (never xs) k)) (subst (In mark) e i))
      at (x ∷ xs) e k (inr g) = subst (λ b. StandsIn (recorded s (cond b None (Some (entry.Offered (x ∷ xs))))) mark) (sym (never xs))
          (record_stands s (entry.Offered (x ∷ xs)) counted.rise (subst (λ b. IfSome (cond b None (Some (entry.Offered (x ∷ xs)))) (IsMade s)) (never xs) k) mark g)

  row_stands : (c : Candidate) → In c cs → (tx : TxHead) → IsOfRow s c tx → StandsIn (recorded s (offered_entry s cs)) (mark_of tx)
  row_stands c i tx h = subst (λ t. StandsIn (recorded s (offered_entry s cs)) (mark_of t)) (sym h.head) (at (nat_lt h.row.offered top) refl)
    where
      top : ℕ
      top = greatest_sent cs h.index

      here : number_of_row h.index c.origin ≡ Some h.kept.number
      here = ap (number_of_row h.index) h.origin ∙ ap (λ b. cond b (Some h.kept.number) None) (same_number h.index)

      low : h.kept.number ≤ top
      low = greatest_in 0 h.kept.number (filter_map (λ (x : Candidate). number_of_row h.index x.origin) cs) (found_in (λ (x : Candidate). number_of_row h.index x.origin) cs c h.kept.number i here)

      at : (b : Bool) → nat_lt h.row.offered (greatest_sent cs h.index) ≡ b → StandsIn (recorded s (offered_entry s cs)) (record { ordinal = h.row.sequence.ordinal; number = h.kept.number })
      at true e = smaller (recorded s (offered_entry s cs)) h.row.sequence.ordinal h.kept.number top low (behind (record { ordinal = h.row.sequence.ordinal; number = top }) (inl mark))
        where
          mark : In (record { ordinal = h.row.sequence.ordinal; number = greatest_sent cs h.index }) (marks_for s cs)
          mark = found_in (mark_for cs) (enumerate_from 0 s.outs) (h.index, h.row) (record { ordinal = h.row.sequence.ordinal; number = greatest_sent cs h.index })
              (subst (λ j. In (j, h.row) (enumerate_from 0 s.outs)) (let f : 0 + h.index ≡ h.index = omega arith in f) (enumerated 0 s.outs h.index h.row h.there))
              (ap (λ b. cond b (Some (record { ordinal = h.row.sequence.ordinal; number = greatest_sent cs h.index })) None) e)
      at false e = behind (record { ordinal = h.row.sequence.ordinal; number = h.kept.number }) (inr (was_there h.row (get_in s.outs h.index h.row h.there) h.kept.number (within e)))
        where
          within : nat_lt h.row.offered (greatest_sent cs h.index) ≡ false → h.kept.number ≤ h.row.offered
          within f = let le : greatest_sent cs h.index ≤ h.row.offered = grind (arith, nat_tests, f) in omega (arith, le, low)

-- Candidates.

user_is : (a b : UserPacket) → packet.User a ≡ packet.User b → a ≡ b
user_is a b e = cc

module _ (m : Manager) (ws : List Written) (counted : AreCounted m.state ws) where
  abbrev s : State
  s = m.state

  abbrev OfStream : Candidate → Type 0
  OfStream c = (tx : TxHead) → c.tx ≡ Some tx → IsOfRow s c tx

  acks_of : (peer : Identity) (now number : ℕ) (rows : List (ℕ × InRow)) → AllByRecursion OfStream (acks s peer now number rows)
  acks_of peer now number [] = tt
  acks_of peer now number (row ∷ rows) = (λ tx e. absurd (none_some e), acks_of peer now (express_after number) rows)

  unsent_all : (origin : Origin) (os : List Outgoing) → AllByRecursion OfStream (filter_map (unsent_from origin) os)
  unsent_all origin [] = tt
  unsent_all origin (o ∷ os) = at (is_none o.mark) (unsent_all origin os)
    where
      at : (b : Bool) → AllByRecursion OfStream (filter_map (unsent_from origin) os)
          → AllByRecursion OfStream (cons_option (cond b (Some (record { origin = origin; message = o.message; tx = None })) None) (filter_map (unsent_from origin) os))
      at true rest = (λ tx e. absurd (none_some e), rest)
      at false rest = rest

  kept_of : (index : ℕ) (row : Row) (ks : List Kept) → slice_get s.outs index ≡ Some row → ((k : Kept) → In k ks → In k row.kept) → AllByRecursion OfStream (map (of_row index row) ks)
  kept_of index row [] there sub = tt
  kept_of index row (k ∷ ks) there sub = (
    λ tx e. record { index = index; row = row; there = there; kept = k; inside = sub k (inl refl); origin = refl; message = refl; head = sym (some_is (tx_of row k) tx e) },
    kept_of index row ks there (λ x i. sub x (inr i)),
  )

  waiting_of : (k index : ℕ) (row : Row) (cursor : ℕ) → slice_get s.outs index ≡ Some row → AllByRecursion OfStream (waiting s k (index, (row, cursor)))
  waiting_of k index row cursor there = at (row.peer == k && is_open s.outs index)
    where
      at : (b : Bool) → AllByRecursion OfStream (cond b (map (of_row index row) (unsent_of row cursor)) [])
      at true = kept_of index row (unsent_of row cursor) there (λ x i. filtered_in (λ (y : Kept). nat_lt (max row.acked cursor) y.number) row.kept x i)
      at false = tt

  rows_of : (k n : ℕ) (rows : List Row) (cursors : List ℕ) → ((i : ℕ) (row : Row) → slice_get rows i ≡ Some row → slice_get s.outs (n + i) ≡ Some row)
      → AllByRecursion OfStream (flat_map (waiting s k) (enumerate_from n (zip rows cursors)))
  rows_of k n [] cursors get = tt
  rows_of k n (row ∷ rows) [] get = tt
  rows_of k n (row ∷ rows) (cursor ∷ cursors) get = all_append OfStream (waiting s k (n, (row, cursor))) (flat_map (waiting s k) (enumerate_from (n + 1) (zip rows cursors)))
      (waiting_of k n row cursor (ap (slice_get s.outs) (let f : n ≡ n + 0 = omega arith in f) ∙ get 0 row refl))
      (rows_of k (n + 1) rows cursors (λ i x e. ap (slice_get s.outs) (let f : (n + 1) + i ≡ n + suc i = omega arith in f) ∙ get (suc i) x e))

  candidates_of : (rest : Rest) (now k : ℕ) (peer : Identity) (p : PlainLists) → AllByRecursion OfStream (candidates s rest now k peer p)
  candidates_of rest now k peer p = all_append OfStream (acks s peer now s.next_express (rows_owing s rest peer.guid) ++ plain_candidates p) (row_candidates s rest k)
      (all_append OfStream (acks s peer now s.next_express (rows_owing s rest peer.guid)) (plain_candidates p)
      (acks_of peer now s.next_express (rows_owing s rest peer.guid))
      (all_append OfStream (filter_map (unsent_from OfRecoverable) p.recoverable) (filter_map (unsent_from OfExpress) p.express)
      (unsent_all OfRecoverable p.recoverable) (unsent_all OfExpress p.express)))
      (rows_of k 0 s.outs rest.cursors (λ i row e. ap (slice_get s.outs) (let f : 0 + i ≡ i = omega arith in f) ∙ e))

  chosen_of : (session : one_end.State) (count bytes : ℕ) (xs : List Candidate) → AllByRecursion OfStream xs → AllByRecursion OfStream (chosen session count bytes xs)
  chosen_of session count bytes [] g = tt
  chosen_of session count bytes (x ∷ xs) g = at (may_follow session count bytes x) (chosen_of (session_after session x) (count + 1) (bytes + candidate_size x) xs g.1)
    where
      at : (b : Bool) → AllByRecursion OfStream (chosen (session_after session x) (count + 1) (bytes + candidate_size x) xs)
          → AllByRecursion OfStream (cond b (x ∷ chosen (session_after session x) (count + 1) (bytes + candidate_size x) xs) [])
      at true rest = (g.0, rest)
      at false rest = tt

  -- Packets.

  abbrev IsSentOf : Option Record → Packet → Type 0
  IsSentOf o x = (p : UserPacket) (tx : TxHead) → x ≡ packet.User p → p.tx ≡ Some tx → IsOffered s o p tx

  packet_of : (now : ℕ) (to : Guid) (cs : List Candidate) → IfSome (offered_entry s cs) (IsMade s) → (c : Candidate) (head : SessionHead) → In c cs → OfStream c → IsSentOf (offered_entry s cs) (packet_for to now (c, head))
  packet_of now to cs made c head i g p tx e f = subst (λ x. IsOffered s (offered_entry s cs) x tx) same (record {
    row = of.row;
    there = get_in s.outs of.index of.row of.there;
    kept = of.kept;
    inside = of.inside;
    id = ap (λ y. y.id) of.message;
    sequence = ap (λ (t : TxHead). t.sequence) of.head;
    number = ap (λ (t : TxHead). t.number) of.head;
    stands = row_stands s ws counted cs made c i tx of;
  })
    where
      same : carried_user c.message (carriage_for to now (c, head)) ≡ p
      same = user_is (carried_user c.message (carriage_for to now (c, head))) p e

      of : IsOfRow s c tx
      of = g tx (ap (λ (x : UserPacket). x.tx) same ∙ f)

  packets_of : (now : ℕ) (to : Guid) (cs : List Candidate) → IfSome (offered_entry s cs) (IsMade s) → (session : one_end.State) (xs : List Candidate) → ((c : Candidate) → In c xs → In c cs) → AllByRecursion OfStream xs
      → AllByRecursion (IsSentOf (offered_entry s cs)) (map (packet_for to now) (with_heads session xs))
  packets_of now to cs made session [] sub g = tt
  packets_of now to cs made session (x ∷ xs) sub g = (packet_of now to cs made x (head_for session x) (sub x (inl refl)) g.0, packets_of now to cs made (session_after session x) xs (λ c i. sub c (inr i)) g.1)

  -- The whole pump.

  abbrev AreSentOf : PumpOutcome → Type 0
  AreSentOf outcome = IfSome outcome.entry (IsMade s) → AllByRecursion (IsSentOf outcome.entry) outcome.packets

  either_of : (b : Bool) (x y : PumpOutcome) → AreSentOf x → AreSentOf y → AreSentOf (cond b x y)
  either_of true x y left right = left
  either_of false x y left right = right

  no_user : (o : Option Record) (x : Packet) → ((p : UserPacket) → x ≡ packet.User p → ⊥) → IsSentOf o x
  no_user o x none p tx e f = absurd (none p e)

  set_up_of : (o : Option Record) (owed : Internal) → IsSentOf o (set_up_packet owed)
  set_up_of o (internal.Establish e) = no_user o (packet.Establish e) (λ p f. let none : ⊥ = cc in none)
  set_up_of o (internal.Parameters p) = no_user o (packet.Parameters p) (λ q f. let none : ⊥ = cc in none)
  set_up_of o (internal.Ack a) = no_user o (packet.Ack a) (λ p f. let none : ⊥ = cc in none)

  chosen_go : (now : ℕ) (session : one_end.State) (k : ℕ) (to : Guid) (xs : List Candidate) → AllByRecursion OfStream xs → AreSentOf (sending_chosen m now session k to xs)
  chosen_go now session k to [] g = either_of session.owes (sending_one m (packet.Ack (stamped kind.Ack session).0) (stamped kind.Ack session).1) (answering m (Ok 0))
      (λ made. (no_user None (packet.Ack (stamped kind.Ack session).0) (λ p f. let none : ⊥ = cc in none), tt)) (λ made. tt)
  chosen_go now session k to (x ∷ xs) g = λ made. packets_of now to (x ∷ xs) made session (x ∷ xs) (λ c i. i) g

  to_of : (now : ℕ) (session : one_end.State) (k : ℕ) (peer : Identity) (p : PlainLists) → AreSentOf (pump_to m now session k peer p)
  to_of now session k peer p = let cs = candidates s m.rest now k peer p in
      either_of (is_spent session && not (length cs == 0)) (answering m (Err fault.Spent)) (sending_chosen m now session k peer.guid (chosen session 0 0 cs)) (λ made. tt)
      (chosen_go now session k peer.guid (chosen session 0 0 cs) (chosen_of session 0 0 cs (candidates_of m.rest now k peer p)))

  at_of : (now : ℕ) (session : one_end.State) (k : ℕ) → AreSentOf (pump_at m now session k)
  at_of now session k = at (slice_get s.peers k)
    where
      lists : (peer : Identity) (o : Option PlainLists) → AreSentOf (option_map_or (pump_to m now session k peer) o (answering m (Ok 0)))
      lists peer None = λ made. tt
      lists peer (Some p) = to_of now session k peer p

      at : (o : Option Identity) → AreSentOf (option_map_or (λ peer. option_map_or (pump_to m now session k peer) (slice_get s.plain k) (answering m (Ok 0))) o (answering m (Ok 0)))
      at None = λ made. tt
      at (Some peer) = lists peer (slice_get s.plain k)

  owed_of : (now : ℕ) (session : one_end.State) (o : Option Internal) → AreSentOf (pump_owed m now session o)
  owed_of now session (Some owed) = λ made. (set_up_of None owed, tt)
  owed_of now session None = either_of (is_ready session.phase) (pump_at m now session (linked_peer s session)) (answering m (Ok 0)) (at_of now session (linked_peer s session)) (λ made. tt)

  pub pumped_offers : (now : ℕ) → IfSome (outcome_of m (Pump now)).entry (IsMade s) → AllByRecursion (IsSentOf (outcome_of m (Pump now)).entry) (outcome_of m (Pump now)).packets
  pumped_offers now = at (pump_refusal m) m.rest.session
    where
      at : (o : Option PumpFault) (session : Option one_end.State) → AreSentOf (unless m o (option_map_or (pump_linked m now) session (answering m (Err fault.NotLinked))))
      at (Some why) session = λ made. tt
      at None None = λ made. tt
      at None (Some session) = owed_of now session (owed_by session.phase now session)
