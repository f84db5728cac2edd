-- A valid manager hears a packet: the record fits, has a spelling and is as one that was read, and the manager is valid after it.
use Rattle.std.proofs.Common.{refl, ap, sym, subst, ◌∙◌, length, arith, length-append}
use Rattle.std.proofs.lemmas.Bool.Decides.{nat_tests}
use Rattle.std.proofs.lemmas.List.{length-replicate}
use Rattle.std.proofs.lemmas.List.Elements.{recursion_from_All}
use Rattle.std.specs.List.{AllByRecursion, list_any, prefix_len}
use Rattle.std.specs.Option.{option_map_or}
use Rattle.std.specs.Prelude.{◌&&◌, ◌+◌, ◌++◌, ◌-◌, ◌<◌, ◌==◌, ◌||◌, ◌∷◌, ◌≡◌, ◌≤◌, [], Bool, IfSome, List, None, Option, Some, cond, false, fold, is_some, nat_lt, not, option_and_then, position, replicate, slice_get, slice_set, true, unwrap_or, ℕ}
use Rattle.mqb_base.specs.Sequences.{same_sequence}
use Rattle.mqb_base.specs.declared.class.Class.{Class}
use Rattle.mqb_base.specs.declared.heads.TxHead.{TxHead}
use Rattle.mqb_base.specs.declared.heard.Heard.{Heard}
use Rattle.mqb_base.specs.declared.heard.Heard.TheVariants as heard
use Rattle.mqb_base.specs.declared.message.Delivery.{Delivery}
use Rattle.mqb_base.specs.declared.message.Delivery.TheVariants as delivery
use Rattle.mqb_base.specs.declared.message.Lane.TheVariants as lane
use Rattle.mqb_base.specs.declared.message.Message.{Message}
use Rattle.mqb_base.specs.declared.queue_names.QueueName.{QueueName}
use Rattle.mqb_base.specs.declared.queue_names.QueueName.TheVariants.{Public}
use Rattle.mqb_fate.specs.Asking.{is_ordinary, is_transactional}
use Rattle.mqb_fate.specs.Orders.{is_final_class, names_order_layer}
use Rattle.mqb_fate.specs.declared.orders.OrderAck.{OrderAck}
use Rattle.mqb_orders.specs.Judging.{verdict_of}
use Rattle.mqb_orders.specs.Rows.{Row}
use Rattle.mqb_orders.specs.declared.judging.Verdict.{Verdict}
use Rattle.mqb_orders.specs.declared.judging.Verdict.TheVariants as verdict
use Rattle.mqb_packet.specs.declared.packet.Headers.TheVariants as headers
use Rattle.mqb_packet.specs.declared.packet.UserPacket.{UserPacket}
use Rattle.mqb_plain.specs.Plain.{PlainLists}
use Rattle.mqb_model.specs.Lists.{first_where, grown}
use Rattle.mqb_model.specs.calls.hear.Hear.{hear_user}
use Rattle.mqb_model.specs.calls.hear.Plain.{express_answer, hear_arriving, hear_express, hear_final, hear_in_order, hear_message, hear_plain, hear_recoverable, hear_stored, stored_answer, with_stored}
use Rattle.mqb_model.specs.calls.hear.Session.{Listening, arrival_entry, discarded, heard_as, numbers_released, peer_heard, released_of, with_session}
use Rattle.mqb_model.specs.calls.hear.Streams.{acknowledged_in, decided_answer, duplicate_heard, has_sequence, hear_duplicate, hear_in_stream, hear_next, hear_order_ack, index_for, judged, order_acked, owing, raises, with_owed}
use Rattle.mqb_model.specs.declared.limits.TheConstants.{MAX_RELEASED}
use Rattle.mqb_model.specs.laws.Fitting.{IsSpelled}
use Rattle.mqb_model.specs.managers.Beside as beside
use Rattle.mqb_model.specs.managers.Beside.{Beside, beside_done, without_acked}
use Rattle.mqb_model.specs.managers.Manager.{Manager, Rest, is_down}
use Rattle.mqb_model.specs.managers.Outcomes.{Outcome, answering, recorded}
use Rattle.mqb_model.specs.managers.Valid.{IsValidManager, MarksRise}
use Rattle.mqb_model.specs.records.Applying.{fits}
use Rattle.mqb_model.specs.records.Arrived.{arrived_fits, is_from_peer, part_fits, raises_ack}
use Rattle.mqb_model.specs.records.Carrying.{IsRead, IsRecorded, IsRecordedPart}
use Rattle.mqb_model.specs.records.Counting.{IsSpellable}
use Rattle.mqb_model.specs.records.Decisions.{decided_fits, decided_row, is_next}
use Rattle.mqb_model.specs.records.Finals.{is_final}
use Rattle.mqb_model.specs.records.Packets.{is_recoverable}
use Rattle.mqb_model.specs.records.Record.{Part, Record}
use Rattle.mqb_model.specs.records.Record as entry
use Rattle.mqb_model.specs.records.Releases.{message_released, releases_fit, releases_made}
use Rattle.mqb_model.specs.rules.Arrivals.{refusal_of, storing_refusal}
use Rattle.mqb_model.specs.rules.Effects.{Effect, begun}
use Rattle.mqb_model.specs.state.Durable.{durable}
use Rattle.mqb_model.specs.state.Places.{is_express, with_plain}
use Rattle.mqb_model.specs.state.Resolving.{is_for_order_layer, is_here, resolved}
use Rattle.mqb_model.specs.state.Rows.{has_ordinal, in_index, in_row, is_row_of}
use Rattle.mqb_model.specs.state.State.{State}
use Rattle.mqb_model.proofs.Accepting.{IsHere, refusal_here, refusal_known}
use Rattle.mqb_model.proofs.Accord.{Accords, IsHeld, IsLinked, rests_accord}
use Rattle.mqb_model.proofs.Besides.{acked_accords}
use Rattle.mqb_model.proofs.Finding.{first_cons}
use Rattle.mqb_model.proofs.Holding.{get_holds, transactional_durable}
use Rattle.mqb_model.proofs.Members.{PairsByRecursion, pairs_of, set_length, some_is, split_and}
use Rattle.mqb_model.proofs.Offering.{Precedes}
use Rattle.mqb_model.proofs.Recorded.{IsDurablePart, arrival_accords, ins_after}
use Rattle.mqb_model.proofs.Releasing.{AreThere, Apart, released_apart, released_few, released_there, releases_go}
use Rattle.mqb_model.proofs.Sessions.{Links, stored_linked}
use Rattle.mqb_model.proofs.Succeeding.{IsKept, IsWritten, same_kept, valid_accords, well_kept}
use Rattle.mqb_model.proofs.Volatile.{plain_volatile, volatile_arrived}

-- What is said of the outcome of a call.
pub record IsSound {A : Type 0} (m : Manager) (outcome : Outcome A) : Type 0 where
  pub written : IsWritten m outcome
  pub spelled : IsSpelled outcome
  pub kept : IsKept m outcome

pub same_sound : {A : Type 0} (m : Manager) (answer : A) → IsValidManager m → IsSound m (answering m answer)
same_sound m answer v = record { written = record { fits = tt; read = tt }; spelled = tt; kept = same_kept m answer v }

-- a manager that listens: it is valid and up, and its session is this one
pub record Listens (l : Listening) : Type 0 where
  pub valid : IsValidManager l.manager
  pub up : is_down l.manager ≡ false
  pub linked : Links l.manager.state.identity l.manager.state.peers l.manager.state.plain l.session

-- Names lead where they led, whatever plain messages wait.

resolved_plain : (s : State) (ps : List PlainLists) (name : QueueName) → resolved (record s { plain = ps }) name ≡ resolved s name
resolved_plain s ps (Public guid true) = refl
resolved_plain s ps name = refl

final_plain : (s : State) (ps : List PlainLists) (m : Message) → is_final (record s { plain = ps }) m ≡ is_final s m
final_plain s ps m = ap (λ t. (is_recoverable m.delivery && is_final_class m.class) && (names_order_layer m.destination && is_here t)) (resolved_plain s ps m.destination)

part_plain : (s : State) (ps : List PlainLists) (part : Part) → part_fits (record s { plain = ps }) part ≡ part_fits s part
part_plain s ps (entry.Stored p) = ap (λ b. is_from_peer s p.message && is_recoverable p.message.delivery && not b) (final_plain s ps p.message)
part_plain s ps (entry.Final p) = ap (λ b. is_from_peer s p.message && b) (final_plain s ps p.message)
part_plain s ps part = refl

released_plain : (e : Effect) (numbers : List ℕ) → (ps : List PlainLists) × ((fold message_released e numbers).state ≡ record e.state { plain = ps })
released_plain e [] = (e.state.plain, refl)
released_plain e (number ∷ numbers) = let more = released_plain (message_released e number) numbers in (more.0, more.1)

-- Releases and what arrived.

and : (a b : Bool) → a ≡ true → b ≡ true → (a && b) ≡ true
and a b h k = ap (λ x. x && b) h ∙ k

-- what is asked of a part
pub record IsFit (s : State) (part : Part) : Type 0 where
  pub fits : part_fits s part ≡ true
  pub recorded : IsRecordedPart part
  pub durable : IsDurablePart part

pub nothing_fits : (s : State) → IsFit s entry.Nothing
nothing_fits s = record { fits = refl; recorded = tt; durable = tt }

module _ (l : Listening) (h : Listens l) where
  abbrev pub s : State
  s = l.manager.state

  -- the released numbers are there, and few
  released : AreThere s (numbers_released l) × PairsByRecursion Apart (numbers_released l) × (length (numbers_released l) ≤ MAX_RELEASED)
  released = at (slice_get s.plain (peer_heard l)) refl (get_holds MarksRise s.plain (peer_heard l) (recursion_from_All MarksRise s.plain h.valid.marks))
    where
      at : (o : Option PlainLists) → slice_get s.plain (peer_heard l) ≡ o → IfSome o MarksRise
          → let numbers = option_map_or (released_of l.session.recoverable_acked) o [] in AreThere s numbers × PairsByRecursion Apart numbers × (length numbers ≤ MAX_RELEASED)
      at None e r = (tt, tt, omega arith)
      at (Some p) e r = (
        released_there s h.valid.state (peer_heard l) p e l.session.recoverable_acked,
        released_apart s h.valid.state (peer_heard l) p e l.session.recoverable_acked,
        let few = released_few l.session.recoverable_acked p r.recoverable in
            let acked = h.linked.kept.recoverable_acked in let sent = h.linked.kept.recoverable_sent in let most = h.linked.kept.sent in
            omega (arith, few, acked, sent, most),
      )

  arrived_go : (part : Part) → IsFit s part → arrived_fits s (numbers_released l) part ≡ true
  arrived_go part f = and (releases_fit (begun s) (numbers_released l)) (part_fits (releases_made s (numbers_released l)).state part)
      (releases_go (begun s) (numbers_released l) released.0 released.1)
      (let frame = released_plain (begun s) (numbers_released l) in ap (λ t. part_fits t part) frame.1 ∙ part_plain s frame.0 part ∙ f.fits)

  pub base : Accords (with_session l.manager.rest l.session) s
  base = let a = valid_accords l.manager h.up h.valid in rests_accord l.manager.rest (with_session l.manager.rest l.session) s h.linked a.cursors a.owes a

  -- the record of what arrived, and what accords after it
  pub record HasArrived (after : Rest) (o : Option Record) : Type 0 where
    pub fits : IfSome o (λ r. fits s r ≡ true)
    pub read : IfSome o IsRead
    pub spelled : IfSome o IsSpellable
    pub accords : Accords after (recorded s o)

  module _ (after : Rest) (e : after.session ≡ Some l.session) (cursors : length after.cursors ≤ length s.outs) where
    written : (part : Part) → IsFit s part → length after.owes ≤ length (ins_after s.ins part) → HasArrived after (Some (entry.Arrived l.now (numbers_released l) part))
    written part f owes = record {
      fits = arrived_go part f;
      read = f.recorded;
      spelled = (released.2);
      accords = arrival_accords (with_session l.manager.rest l.session) after e l.now s (numbers_released l) part cursors owes f.durable base;
    }

    pub arrival : (part : Part) → IsFit s part → length after.owes ≤ length (ins_after s.ins part) → HasArrived after (arrival_entry l part)
    arrival entry.Nothing f owes = at (length (numbers_released l) == 0)
      where
        at : (b : Bool) → HasArrived after (cond b None (Some (entry.Arrived l.now (numbers_released l) entry.Nothing)))
        at true = record {
          fits = tt;
          read = tt;
          spelled = tt;
          accords = rests_accord (with_session l.manager.rest l.session) after s (subst (IsLinked s.identity s.peers s.plain) (sym e) h.linked) cursors owes base;
        }
        at false = written entry.Nothing f owes
    arrival part f owes = written part f owes

    -- the whole outcome, where what is done beside the record accords and leaves what is durable
    pub beside_sound : (part : Part) (answer : Heard) (b : Beside) → IsFit s part → length after.owes ≤ length (ins_after s.ins part)
        → (Accords after (recorded s (arrival_entry l part)) → let t = recorded s (arrival_entry l part) in Accords after (beside_done b t) × (durable (beside_done b t) ≡ durable t))
        → IsSound l.manager (record (heard_as l part answer) { beside = b; rest = after })
    beside_sound part answer b f owes done = let a = arrival part f owes in let d = done a.accords in record {
      written = record { fits = a.fits; read = a.read };
      spelled = a.spelled;
      kept = well_kept l.manager (record (heard_as l part answer) { beside = b; rest = after }) h.up h.valid (record { fits = a.fits; read = a.read }) (record { accords = d.0; volatile = d.1 });
    }

    pub heard_sound : (part : Part) (answer : Heard) → IsFit s part → length after.owes ≤ length (ins_after s.ins part) → IsSound l.manager (record (heard_as l part answer) { rest = after })
    heard_sound part answer f owes = beside_sound part answer (beside.DropsExpress (peer_heard l) l.session.acked) f owes
        (λ a. (
          acked_accords after (recorded s (arrival_entry l part)) (peer_heard l) l.session.acked a,
          plain_volatile (recorded s (arrival_entry l part)) (peer_heard l) (without_acked l.session.acked) (λ p. refl),
        ))

  -- a packet that leaves the rows alone
  pub plainly_sound : (part : Part) (answer : Heard) → IsFit s part → length l.manager.rest.owes ≤ length (ins_after s.ins part) → IsSound l.manager (heard_as l part answer)
  plainly_sound part answer f owes = heard_sound (with_session l.manager.rest l.session) refl base.cursors part answer f owes

  pub nothing_sound : (answer : Heard) → IsSound l.manager (heard_as l entry.Nothing answer)
  nothing_sound answer = plainly_sound entry.Nothing answer (nothing_fits s) base.owes

-- Express messages.

entry_plain : (l : Listening) → (ps : List PlainLists) × (recorded l.manager.state (arrival_entry l entry.Nothing) ≡ record l.manager.state { plain = ps })
entry_plain l = at (length (numbers_released l) == 0)
  where
    at : (b : Bool) → (ps : List PlainLists) × (recorded l.manager.state (cond b None (Some (entry.Arrived l.now (numbers_released l) entry.Nothing))) ≡ record l.manager.state { plain = ps })
    at true = (l.manager.state.plain, refl)
    at false = released_plain (begun l.manager.state) (numbers_released l)

pub arriving_sound : (l : Listening) → Listens l → (p : UserPacket) → IsHeld lane.Express headers.Bare p.message
    → IsSound l.manager (hear_arriving l p.message (refusal_of l.manager.state p))
arriving_sound l h p held = beside_sound l h (with_session l.manager.rest l.session) refl (base l h).cursors entry.Nothing (express_answer p.message refusal)
    (beside.HearsExpress (peer_heard l) l.session.acked l.now p.message refusal) (nothing_fits s) (base l h).owes
    (λ a. volatile_arrived (with_session l.manager.rest l.session) (durable t) (with_plain (without_acked l.session.acked) t (peer_heard l)) p.message l.now refusal (refusal_known s p) here held
    (acked_accords (with_session l.manager.rest l.session) t (peer_heard l) l.session.acked a, plain_volatile t (peer_heard l) (without_acked l.session.acked) (λ p. refl)))
  where
    s : State
    s = l.manager.state

    t : State
    t = recorded l.manager.state (arrival_entry l entry.Nothing)

    refusal : Option Class
    refusal = refusal_of l.manager.state p

    here : refusal ≡ None → IsHere (resolved (with_plain (without_acked l.session.acked) t (peer_heard l)) p.message.destination)
    here e = subst IsHere (sym (resolved_plain t (with_plain (without_acked l.session.acked) t (peer_heard l)).plain p.message.destination
        ∙ ap (λ x. resolved x p.message.destination) (entry_plain l).1 ∙ resolved_plain s (entry_plain l).0 p.message.destination)) (refusal_here s p e)

-- Order acknowledgements: the row that is raised is the one of the ordinal.

ordinal_is : (a b : ℕ) → (a == b) ≡ true → a ≡ b
ordinal_is a b e = grind (arith, nat_tests)

below_not : (a b c : ℕ) → (a == c) ≡ true → a < b → (b == c) ≡ false
below_not a b c e lt = grind (arith, nat_tests)

middle : (a b c d : Bool) → b ≡ false → ((a && (b && c)) && d) ≡ false
middle true b c d e = ap (λ b. (b && c) && d) e
middle false b c d e = refl

none_raised : (peer : ℕ) (ack : OrderAck) (row : Row) (rows : List Row) → (row.sequence.ordinal == ack.sequence.ordinal) ≡ true → AllByRecursion (Precedes row) rows
    → list_any (raises peer ack) rows ≡ false
none_raised peer ack row [] e h = refl
none_raised peer ack row (z ∷ rows) e h = ap (λ b. b || list_any (raises peer ack) rows)
    (middle (z.peer == peer) (z.sequence.ordinal == ack.sequence.ordinal) (z.sequence.stamp == ack.sequence.stamp) (raises_ack ack.number z)
    (below_not row.sequence.ordinal z.sequence.ordinal ack.sequence.ordinal e h.0)) ∙ none_raised peer ack row rows e h.1

raised_row : (peer : ℕ) (ack : OrderAck) (rows : List Row) → PairsByRecursion Precedes rows → list_any (raises peer ack) rows ≡ true
    → option_map_or (raises_ack ack.number) (first_where (has_ordinal ack.sequence.ordinal) rows) false ≡ true
raised_row peer ack [] rise e = absurd (let none : ⊥ = cc in none)
raised_row peer ack (row ∷ rows) rise e = ap (λ o. option_map_or (raises_ack ack.number) o false) (first_cons (has_ordinal ack.sequence.ordinal) row rows)
    ∙ at (λ f. raised_row peer ack rows rise.1 f) (row.sequence.ordinal == ack.sequence.ordinal) refl
  where
    last : (a b c : Bool) → ((a && b) && c) ≡ true → c ≡ true
    last a b c f = (split_and (a && b) c f).1

    by : (b : Bool) → (row.sequence.ordinal == ack.sequence.ordinal) ≡ true → raises peer ack row ≡ b → (b || list_any (raises peer ack) rows) ≡ true → raises_ack ack.number row ≡ true
    by true same f g = last (row.peer == peer) (same_sequence row.sequence ack.sequence) (raises_ack ack.number row) f
    by false same f g = absurd (let none = none_raised peer ack row rows same rise.0 in let no : ⊥ = cc in no)

    rest : (b : Bool) → b ≡ false → (b || list_any (raises peer ack) rows) ≡ true → list_any (raises peer ack) rows ≡ true
    rest true f g = absurd (let none : ⊥ = cc in none)
    rest false f g = g

    at : (list_any (raises peer ack) rows ≡ true → option_map_or (raises_ack ack.number) (first_where (has_ordinal ack.sequence.ordinal) rows) false ≡ true)
        → (b : Bool) → (row.sequence.ordinal == ack.sequence.ordinal) ≡ b
        → option_map_or (raises_ack ack.number) (cond b (Some row) (first_where (has_ordinal ack.sequence.ordinal) rows)) false ≡ true
    at more true same = by (raises peer ack row) same refl e
    at more false other = more (rest (raises peer ack row)
        (middle (row.peer == peer) (row.sequence.ordinal == ack.sequence.ordinal) (row.sequence.stamp == ack.sequence.stamp) (raises_ack ack.number row) other) e)

pub order_sound : (l : Listening) → Listens l → (ack : OrderAck) → IsSound l.manager (hear_order_ack l ack)
order_sound l h ack = at (list_any (raises (peer_heard l) ack) l.manager.state.outs) refl
  where
    at : (b : Bool) → list_any (raises (peer_heard l) ack) l.manager.state.outs ≡ b → IsSound l.manager (cond b (order_acked l ack) (heard_as l entry.Nothing heard.OldAck))
    at true e = plainly_sound l h (entry.OrderAcknowledged ack.sequence.ordinal ack.number) (heard.OrderAcked ack.sequence.ordinal ack.number)
        (record { fits = raised_row (peer_heard l) ack l.manager.state.outs (pairs_of Precedes l.manager.state.outs h.valid.state.ordinals_rise) e; recorded = tt; durable = tt }) (base l h).owes
    at false e = nothing_sound l h heard.OldAck

-- Messages.

-- what is known of a user packet that a session heard: it is from a peer, and what it carries is what it says
pub record IsGiven (l : Listening) (p : UserPacket) : Type 0 where
  pub from : is_from_peer l.manager.state p.message ≡ true
  pub carried : IsRecorded p.message
  pub kind : is_some p.tx ≡ is_transactional p.message.delivery

owed_length : (k : ℕ) (rest : Rest) (n : ℕ) → length rest.owes ≤ n → k + 1 ≤ n → length (with_owed k rest).owes ≤ n
owed_length k rest n le lt = let more = set_length (grown false (k + 1) rest.owes) k true in let whole = length-append rest.owes (replicate (k + 1 - length rest.owes) false) in
    let rep = length-replicate (k + 1 - length rest.owes) false in omega (arith, le, lt, more, whole, rep)

in_list : {X : Type 0} (p : X → Bool) (xs : List X) (k : ℕ) → position p xs ≡ Some k → k < length xs
in_list p xs k e = at (nat_lt (prefix_len (λ x. not (p x)) xs) (length xs)) refl e
  where
    at : (b : Bool) → nat_lt (prefix_len (λ x. not (p x)) xs) (length xs) ≡ b → cond b (Some (prefix_len (λ x. not (p x)) xs)) None ≡ Some k → k < length xs
    at true lt e = subst (λ n. n < length xs) (some_is (prefix_len (λ x. not (p x)) xs) k e) (less (prefix_len (λ x. not (p x)) xs) (length xs) lt)
      where
        less : (a b : ℕ) → nat_lt a b ≡ true → a < b
        less a b h = grind (arith, nat_tests)
    at false lt e = absurd (let none : ⊥ = cc in none)

module _ (l : Listening) (h : Listens l) (p : UserPacket) (g : IsGiven l p) where
  -- a transactional message that is judged
  next_sound : (tx : TxHead) → p.tx ≡ Some tx → is_ordinary p.message ≡ true → verdict_of (in_row l.manager.state p.message) tx ≡ verdict.Next → IsSound l.manager (hear_next l p tx)
  next_sound tx e ordinary v = heard_sound l h (with_owed k (with_session l.manager.rest l.session)) refl (base l h).cursors (entry.Decided p) (decided_answer tx (refusal_of l.manager.state p))
      (record { fits = goes; recorded = g.carried; durable = transactional_durable p.message.delivery transactional })
      (subst (λ o. length (with_owed k (with_session l.manager.rest l.session)).owes ≤ length (option_map_or (λ tx. option_map_or (λ i. slice_set l.manager.state.ins i (decided_row p.message tx))
      (in_index l.manager.state p.message) (l.manager.state.ins ++ decided_row p.message tx ∷ [])) o l.manager.state.ins)) (sym e) (room (in_index l.manager.state p.message) refl))
    where
      k : ℕ
      k = index_for l.manager.state p.message

      transactional : is_transactional p.message.delivery ≡ true
      transactional = sym g.kind ∙ ap is_some e

      next : (w : Verdict) → w ≡ verdict.Next → is_next w ≡ true
      next w same = ap is_next same

      goes : part_fits l.manager.state (entry.Decided p) ≡ true
      goes = and (is_from_peer l.manager.state p.message) (decided_fits l.manager.state p) g.from
          (and (is_transactional p.message.delivery && is_ordinary p.message) (option_map_or (λ tx. is_next (verdict_of (in_row l.manager.state p.message) tx)) p.tx false)
          (and (is_transactional p.message.delivery) (is_ordinary p.message) transactional ordinary)
          (ap (λ o. option_map_or (λ tx. is_next (verdict_of (in_row l.manager.state p.message) tx)) o false) e ∙ next (verdict_of (in_row l.manager.state p.message) tx) v))

      room : (o : Option ℕ) → in_index l.manager.state p.message ≡ o
          → length (with_owed (unwrap_or o (length l.manager.state.ins)) (with_session l.manager.rest l.session)).owes
          ≤ length (option_map_or (λ i. slice_set l.manager.state.ins i (decided_row p.message tx)) o (l.manager.state.ins ++ decided_row p.message tx ∷ []))
      room None there = let whole = length-append l.manager.state.ins (decided_row p.message tx ∷ []) in let owes = (base l h).owes in
          owed_length (length l.manager.state.ins) (with_session l.manager.rest l.session) (length (l.manager.state.ins ++ decided_row p.message tx ∷ []))
          (omega (arith, whole, owes)) (omega (arith, whole))
      room (Some i) there = let same = set_length l.manager.state.ins i (decided_row p.message tx) in let owes = (base l h).owes in
          let within = in_list (is_row_of p.message.id.qm p.message.destination) l.manager.state.ins i there in
          owed_length i (with_session l.manager.rest l.session) (length (slice_set l.manager.state.ins i (decided_row p.message tx))) (omega (arith, same, owes)) (omega (arith, same, within))

  duplicate_sound : (tx : TxHead) → IsSound l.manager (hear_duplicate l p.message tx)
  duplicate_sound tx = at (has_sequence l.manager.state p.message tx) refl
    where
      there : (o : Option ℕ) → in_index l.manager.state p.message ≡ o
          → option_map_or (λ row. same_sequence row.sequence tx.sequence) (option_and_then (slice_get l.manager.state.ins) o) false ≡ true
          → unwrap_or o (length l.manager.state.ins) + 1 ≤ length l.manager.state.ins
      there None e f = absurd (let none : ⊥ = cc in none)
      there (Some i) e f = let within = in_list (is_row_of p.message.id.qm p.message.destination) l.manager.state.ins i e in omega (arith, within)

      at : (b : Bool) → has_sequence l.manager.state p.message tx ≡ b
          → IsSound l.manager (cond b (owing (index_for l.manager.state p.message) (duplicate_heard l tx)) (duplicate_heard l tx))
      at true f = heard_sound l h (with_owed (index_for l.manager.state p.message) (with_session l.manager.rest l.session)) refl (base l h).cursors entry.Nothing (heard.Duplicate tx.sequence tx.number)
          (nothing_fits l.manager.state) (owed_length (index_for l.manager.state p.message) (with_session l.manager.rest l.session) (length l.manager.state.ins) (base l h).owes
          (there (in_index l.manager.state p.message) refl f))
      at false f = nothing_sound l h (heard.Duplicate tx.sequence tx.number)

  judged_sound : (tx : TxHead) (v : Verdict) → p.tx ≡ Some tx → is_ordinary p.message ≡ true → verdict_of (in_row l.manager.state p.message) tx ≡ v → IsSound l.manager (judged l p tx v)
  judged_sound tx verdict.Next e o f = next_sound tx e o f
  judged_sound tx verdict.Duplicate e o f = duplicate_sound tx
  judged_sound tx verdict.Gap e o f = nothing_sound l h (heard.Gap tx.sequence tx.number)
  judged_sound tx verdict.Stale e o f = nothing_sound l h (heard.Stale tx.sequence tx.number)

  stream_sound : (tx : TxHead) → p.tx ≡ Some tx → IsSound l.manager (hear_in_stream l p tx)
  stream_sound tx e = at (is_ordinary p.message) refl
    where
      at : (b : Bool) → is_ordinary p.message ≡ b → IsSound l.manager (cond b (judged l p tx (verdict_of (in_row l.manager.state p.message) tx)) (discarded l))
      at true o = judged_sound tx (verdict_of (in_row l.manager.state p.message) tx) e o refl
      at false o = nothing_sound l h heard.Discarded

  -- a message that is not transactional
  express_sound : is_express p.message.delivery ≡ true → IsSound l.manager (hear_express l p)
  express_sound e = at (is_for_order_layer l.manager.state p.message.destination)
    where
      at : (b : Bool) → IsSound l.manager (cond b (discarded l) (hear_arriving l p.message (refusal_of l.manager.state p)))
      at true = nothing_sound l h heard.Discarded
      at false = arriving_sound l h p (g.carried, e)

  counted : l.session.stored < l.session.got → Listens (with_stored l)
  counted lt = record { valid = h.valid; up = h.up; linked = stored_linked l.manager.state.identity l.manager.state.peers l.manager.state.plain l.session lt h.linked }

  recoverable_sound : is_recoverable p.message.delivery ≡ true → is_express p.message.delivery ≡ false → l.session.stored < l.session.got → IsSound l.manager (hear_recoverable l p)
  recoverable_sound r d lt = at (is_final l.manager.state p.message) refl
    where
      at : (b : Bool) → is_final l.manager.state p.message ≡ b → IsSound l.manager (cond b (hear_final l p) (hear_stored l p))
      at true f = plainly_sound (with_stored l) (counted lt) (entry.Final p) (heard.Final p.message.correlation p.message.class)
          (record { fits = and (is_from_peer l.manager.state p.message) (is_final l.manager.state p.message) g.from f; recorded = tt; durable = tt }) (base l h).owes
      at false f = plainly_sound (with_stored l) (counted lt) (entry.Stored p) (stored_answer (storing_refusal l.manager.state p)) (record {
        fits = and (is_from_peer l.manager.state p.message && is_recoverable p.message.delivery) (not (is_final l.manager.state p.message))
            (and (is_from_peer l.manager.state p.message) (is_recoverable p.message.delivery) g.from r) (ap not f);
        recorded = g.carried;
        durable = d;
      }) (base l h).owes

  kind_of : (x : Delivery) → is_transactional x ≡ false → is_express x ≡ false → is_recoverable x ≡ true
  kind_of delivery.Express t e = sym e
  kind_of delivery.Recoverable t e = refl
  kind_of delivery.Transactional t e = sym t

  in_order_sound : is_transactional p.message.delivery ≡ false → l.session.stored < l.session.got → IsSound l.manager (hear_in_order l p)
  in_order_sound t lt = at (is_express p.message.delivery) refl
    where
      at : (b : Bool) → is_express p.message.delivery ≡ b → IsSound l.manager (cond b (hear_express l p) (hear_recoverable l p))
      at true e = express_sound e
      at false e = recoverable_sound (kind_of p.message.delivery t e) e lt

  plain_sound : (in_order : Bool) → is_transactional p.message.delivery ≡ false → (in_order ≡ true → l.session.stored < l.session.got) → IsSound l.manager (hear_plain l in_order p)
  plain_sound in_order t lt = at (acknowledged_in l.manager.state p.message)
    where
      told : (b : Bool) → (b ≡ true → l.session.stored < l.session.got) → IsSound l.manager (cond b (hear_in_order l p) (discarded l))
      told true lt = in_order_sound t (lt refl)
      told false lt = nothing_sound l h heard.Discarded

      at : (o : Option OrderAck) → IsSound l.manager (option_map_or (hear_order_ack l) o (hear_message l in_order p))
      at None = told in_order lt
      at (Some ack) = order_sound l h ack

  pub user_sound : (in_order : Bool) → (in_order ≡ true → l.session.stored < l.session.got) → IsSound l.manager (hear_user l in_order p)
  user_sound in_order lt = at p.tx refl
    where
      at : (o : Option TxHead) → p.tx ≡ o → IsSound l.manager (option_map_or (hear_in_stream l p) o (hear_plain l in_order p))
      at None e = plain_sound in_order (sym g.kind ∙ ap is_some e) lt
      at (Some tx) e = stream_sound tx e
