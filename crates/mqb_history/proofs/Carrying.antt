-- Each packet of a stream carries what its sender committed, and so does each that is decided.
use Rattle.std.proofs.Common.{refl, ap, sym, subst, ◌∙◌, arith, inl, inr}
use Rattle.std.proofs.lemmas.List.{append_assoc}
use Rattle.std.specs.Option.{option_map_or}
use Rattle.std.specs.Prelude.{[], ◌++◌, ◌-◌, ◌<◌, ◌∷◌, ◌≡◌, ◌≤◌, ◌⊎◌, IfSome, List, None, Option, Some, cond, false, length, option_map, replicate, slice_get, slice_set, suc, true, unwrap_or, zero, ℕ}
use Rattle.mqb_base.specs.declared.heads.TxHead.{TxHead}
use Rattle.mqb_base.specs.declared.ids.Identity.{Identity}
use Rattle.mqb_exactly_once.specs.Words.{In}
use Rattle.mqb_model.specs.declared.answers.Role.TheVariants as role
use Rattle.mqb_model.specs.managers.Manager.{Manager, doubt_of}
use Rattle.mqb_model.specs.managers.Outcomes.{Outcome, failed, succeeded}
use Rattle.mqb_model.specs.managers.Restarts.{restarted, unread}
use Rattle.mqb_model.specs.records.Record.{Record}
use Rattle.mqb_model.specs.records.Record as entry
use Rattle.mqb_network.specs.Changes.{as_dropped, ended, ended_by, note_by}
use Rattle.mqb_network.specs.Choices.{Failure}
use Rattle.mqb_network.specs.Connecting.{asking, linked_as}
use Rattle.mqb_network.specs.Courses.{Course, Written, posted, written_by}
use Rattle.mqb_network.specs.Laws.{AreApart}
use Rattle.mqb_network.specs.Network.{Connection, Network, Note, connection_of, formatted, manager_at, nobody, others, with_manager}
use Rattle.mqb_network.specs.Runs.{beginning}
use Rattle.mqb_packet.specs.declared.packet.Packet.{Packet}
use Rattle.mqb_packet.specs.declared.packet.Packet.TheVariants as packet
use Rattle.mqb_packet.specs.declared.packet.UserPacket.{UserPacket}
use Rattle.mqb_queue.specs.Places.{numbered, with_numbered}
use Rattle.mqb_model.specs.calls.Call.{Answer, Call, Hear, Pump, outcome_of}
use Rattle.mqb_history.specs.Carried.{AreCarriedTruly, AreDecidedTruly, IsCommittedBy}
use Rattle.mqb_history.specs.Changes.{Change, Calls, Drops, Ends, Fails, Finds, Hears, Links, Pumps, Restarts, calling, changed, given_out, hearing, is_of_packets, may_change}
use Rattle.mqb_history.specs.Committed.{commitments, commitments_in}
use Rattle.mqb_history.specs.Decided.{written_of}
use Rattle.mqb_history.specs.Laws.{AlwaysCarriedTruly, AlwaysDecidedTruly}
use Rattle.mqb_history.specs.Made.{IsFrom}
use Rattle.mqb_history.proofs.Beginning.{linked_condition}
use Rattle.mqb_history.proofs.Calling.{calls_are_modest, from_only, packet_heard}
use Rattle.mqb_history.proofs.Committing.{IsOwnBelow, all_in, in_append}
use Rattle.mqb_base.specs.declared.message.Message.{Message}
use Rattle.mqb_network.specs.Doubts.{settled}
use Rattle.mqb_network.specs.Runs.{after_run}
use Rattle.std.specs.Prelude.{not}
use Rattle.mqb_history.proofs.Ending.{parted_at, parted_condition}
use Rattle.mqb_history.proofs.Keeping.{IsClosed}
use Rattle.mqb_history.proofs.Lists.{append_nothing, clash, get_in, get_within, none_some, not_true, set_get, other_numbers, some_is, split_and}
use Rattle.mqb_history.proofs.Holding.{HasExpired, expired_more}
use Rattle.mqb_history.proofs.Previous.{IsKnownTo, rows_known}
use Rattle.mqb_entries.specs.declared.members.Mark.{Mark}
use Rattle.mqb_exactly_once.specs.World.{Position}
use Rattle.mqb_history.specs.Offered.{IsOffered}
use Rattle.mqb_history.proofs.Departing.{GoesFrom, IsMarkedBy, IsSentFrom, pump_goes}
use Rattle.mqb_history.proofs.Marked.{AreMarked, IsMarked, marked_by_records, offered_more}
use Rattle.mqb_history.proofs.Sparing.{IsTidy}
use Rattle.mqb_network.specs.Laws.{lines_written}
use Rattle.mqb_model.specs.records.Applying.{lines_of}
use Rattle.mqb_exactly_once.specs.Words.{position_of}
use Rattle.mqb_history.proofs.Ordering.{with_at}
use Rattle.mqb_history.proofs.Orderly.{change_orderly, map_get}
use Rattle.mqb_history.proofs.Runs.{always_kept}
use Rattle.mqb_history.proofs.Sending.{IsPacketOf, pump_carries}
use Rattle.mqb_history.proofs.Written.{IsOrderlyWith, begins_with, change_keeps, noted_managers, of_append, own_more}

-- What was committed stays committed.

pub commitments_append : (xs ys : List Written) → commitments (xs ++ ys) ≡ commitments xs ++ commitments ys
commitments_append [] ys = refl
commitments_append (x ∷ xs) ys = ap (λ cs. commitments_in x.before x.entry ++ cs) (commitments_append xs ys)
    ∙ sym (append_assoc (commitments_in x.before x.entry) (commitments xs) (commitments ys))

pub lines_append : (xs ys : List Written) → lines_written (xs ++ ys) ≡ lines_written xs ++ lines_written ys
lines_append [] ys = refl
lines_append (x ∷ xs) ys = ap (λ ls. lines_of x.before x.entry ++ ls) (lines_append xs ys)
    ∙ sym (append_assoc (lines_of x.before x.entry) (lines_written xs) (lines_written ys))

pub grown : (i : ℕ) (ws more : List Written) (moment : ℕ) (p : UserPacket) (tx : TxHead) → IsCommittedBy i ws moment p tx → IsCommittedBy i (ws ++ more) moment p tx
grown i ws more moment p tx h = record {
  commitment = h.commitment;
  there = subst (In h.commitment) (sym (ap commitments (of_append i ws more) ∙ commitments_append (written_of i ws) (written_of i more)))
      (in_append (commitments (written_of i ws)) (commitments (written_of i more)) h.commitment h.there);
  position = h.position;
  message = h.message;
  late = h.late;
  offered = subst (λ xs. IsOffered xs (position_of tx)) (sym (of_append i ws more)) (offered_more (written_of i ws) (written_of i more) (position_of tx) h.offered);
  between = λ n low high. subst (λ ls. HasExpired ls tx.sequence n) (sym (ap lines_written (of_append i ws more) ∙ lines_append (written_of i ws) (written_of i more)))
      (expired_more (lines_written (written_of i ws)) (lines_written (written_of i more)) tx.sequence n (h.between n low high));
}

-- a record decides nothing that some manager has not committed
abbrev pub DecidesTruly : List Written → Record → Type 0
DecidesTruly ws (entry.Arrived now numbers (entry.Decided p)) = (tx : TxHead) → p.tx ≡ Some tx → (i : ℕ) × (moment : ℕ) × IsCommittedBy i ws moment p tx
DecidesTruly ws _ = Unit {0}

true_grown : (ws more : List Written) (r : Record) → DecidesTruly ws r → DecidesTruly (ws ++ more) r
true_grown ws more (entry.Arrived now numbers (entry.Decided p)) h = λ tx e. let g = h tx e in (g.0, g.1, grown g.0 ws more g.1 p tx g.2)
true_grown ws more r h = tt

some_true_grown : (ws more : List Written) (o : Option Record) → IfSome o (DecidesTruly ws) → IfSome o (DecidesTruly (ws ++ more))
some_true_grown ws more None h = tt
some_true_grown ws more (Some r) h = true_grown ws more r h

-- each of these records decides nothing but what those before it committed
abbrev pub DecideTruly : List Written → List Written → Type 0
DecideTruly before [] = Unit {0}
DecideTruly before (w ∷ ws) = DecidesTruly before w.entry × DecideTruly (before ++ w ∷ []) ws

truly_more : (before ws : List Written) (w : Written) → DecideTruly before ws → DecidesTruly (before ++ ws) w.entry → DecideTruly before (ws ++ w ∷ [])
truly_more before [] w h new = (subst (λ xs. DecidesTruly xs w.entry) (append_nothing before) new, tt)
truly_more before (x ∷ ws) w h new = (h.0, truly_more (before ++ x ∷ []) ws w h.1 (subst (λ xs. DecidesTruly xs w.entry) (sym (append_assoc before (x ∷ []) ws)) new))

truly_at : (first before behind : List Written) (w : Written) → DecideTruly first (before ++ w ∷ behind) → DecidesTruly (first ++ before) w.entry
truly_at first [] behind w h = subst (λ xs. DecidesTruly xs w.entry) (sym (append_nothing first)) h.0
truly_at first (x ∷ before) behind w h = subst (λ xs. DecidesTruly xs w.entry) (append_assoc first (x ∷ []) before) (truly_at (first ++ x ∷ []) before behind w h.1)

-- What holds of a course beside its order and its counts.
pub record IsTruthful (c : Course) : Type 0 where
  pub carried : AreCarriedTruly c
  pub written : DecideTruly [] c.written
  pub doubts : (j : ℕ) → IfSome (doubt_of (manager_at c.network j).condition) (DecidesTruly c.written)

-- a manager's record joins those before it
with_record : (ws : List Written) (i : ℕ) (m : Manager) (o : Option Record) → IfSome o (DecidesTruly ws) → DecideTruly [] ws → DecideTruly [] (ws ++ written_by i m o)
with_record ws i m None new h = subst (DecideTruly []) (sym (append_nothing ws)) h
with_record ws i m (Some r) new h = truly_more [] ws (record { by = i; before = m.state; entry = r }) h new

-- Calls.

ended_notes_same : (n : Network) (i : ℕ) → (ended i n).notes ≡ n.notes
ended_notes_same n i = at (connection_of n i)
  where
    at : (o : Option Connection) → (option_map_or (ended_by n) o n).notes ≡ n.notes
    at None = refl
    at (Some c) = refl

calling_true : (i : ℕ) (call : Call) (failure : Option Failure) (c : Course) → IfSome (outcome_of (manager_at c.network i) call).entry (DecidesTruly c.written) → IsTruthful c
    → IsTruthful (calling i call failure c)
calling_true i call None c new h = record {
  carried = λ k note p tx e f t. grown note.sender c.written more note.moment p tx (h.carried k note p tx e f t);
  written = with_record c.written i m outcome.entry new h.written;
  doubts = λ j. with_at (λ x. IfSome (doubt_of x.condition) (DecidesTruly (c.written ++ more))) c.network i j (succeeded m outcome)
      (some_true_grown c.written more (doubt_of (manager_at c.network j).condition) (h.doubts j))
      (λ e. some_true_grown c.written more (doubt_of m.condition) (h.doubts i));
}
  where
    m : Manager
    m = manager_at c.network i

    outcome : Outcome Answer
    outcome = outcome_of m call

    more : List Written
    more = written_by i m outcome.entry
calling_true i call (Some how) c new h = record {
  carried = λ k note p tx e f t. h.carried k note p tx (subst (λ (notes : List Note). numbered notes k ≡ Some note) (ended_notes_same (with_manager c.network i (failed m outcome)) i) e) f t;
  written = h.written;
  doubts = λ j. parted_at (λ x. IfSome (doubt_of x.condition) (DecidesTruly c.written)) (with_manager c.network i (failed m outcome)) i j
      (λ x g. subst (λ y. IfSome (doubt_of y) (DecidesTruly c.written)) (sym (parted_condition x)) g)
      (with_at (λ x. IfSome (doubt_of x.condition) (DecidesTruly c.written)) c.network i j (failed m outcome) (h.doubts j) (λ e. new));
}
  where
    m : Manager
    m = manager_at c.network i

    outcome : Outcome Answer
    outcome = outcome_of m call

-- a call that hears no packet decides nothing
from_none : (ws : List Written) (o : Option Record) → IfSome o (IsFrom None) → IfSome o (DecidesTruly ws)
from_none ws (Some (entry.Arrived now numbers (entry.Decided p))) h = absurd (none_some h)
from_none ws o h = tt

-- one that hears a packet which carries what was committed decides that
from_packet : (ws : List Written) (i moment : ℕ) (x : Packet) (o : Option Record) → IfSome o (IsFrom (Some x))
    → ((p : UserPacket) (tx : TxHead) → x ≡ packet.User p → p.tx ≡ Some tx → IsCommittedBy i ws moment p tx) → IfSome o (DecidesTruly ws)
from_packet ws i moment x (Some (entry.Arrived now numbers (entry.Decided p))) h g = λ tx e. (i, moment, g p tx (some_is x (packet.User p) h) e)
from_packet ws i moment x o h g = tt

pub none_heard : (call : Call) → is_of_packets call ≡ false → packet_heard call ≡ None
none_heard (Hear now p) e = absurd (clash e)
none_heard call e = refl

-- Pumps.

pub numbered_suc : {X : Type 0} (xs : List X) (k : ℕ) → numbered xs (suc k) ≡ slice_get xs k
numbered_suc xs k = ap (λ b. cond b None (slice_get xs (suc k - 1))) (other_numbers (suc k) 0 (λ e. omega (arith, e)))
    ∙ ap (slice_get xs) (let e : suc k - 1 ≡ k = omega arith in e)

pub numbered_within : {X : Type 0} (xs : List X) (k : ℕ) (x : X) → numbered xs k ≡ Some x → k ≤ length xs
numbered_within xs zero x e = absurd (none_some e)
numbered_within xs (suc k) x e = let less = get_within xs k x (sym (numbered_suc xs k) ∙ e) in omega (arith, less)

get_split : {X : Type 0} (xs ys : List X) (k : ℕ) (y : X) → slice_get (xs ++ ys) k ≡ Some y → (slice_get xs k ≡ Some y) ⊎ ((length xs ≤ k) × In y ys)
get_split [] ys k y e = inr (omega arith, get_in ys k y e)
get_split (x ∷ xs) ys zero y e = inl e
get_split (x ∷ xs) ys (suc k) y e = by (get_split xs ys k y e)
  where
    by : (slice_get xs k ≡ Some y) ⊎ ((length xs ≤ k) × In y ys) → (slice_get xs k ≡ Some y) ⊎ ((length (x ∷ xs) ≤ suc k) × In y ys)
    by (inl f) = inl f
    by (inr g) = inr (let le = g.0 in omega (arith, le), g.1)

-- the packet of a number was there, or is one of those that were sent now
pub numbered_split : {X : Type 0} (xs ys : List X) (k : ℕ) (y : X) → numbered (xs ++ ys) k ≡ Some y → (numbered xs k ≡ Some y) ⊎ ((length xs < k) × In y ys)
numbered_split xs ys zero y e = absurd (none_some e)
numbered_split xs ys (suc k) y e = by (get_split xs ys k y (sym (numbered_suc (xs ++ ys) k) ∙ e))
  where
    by : (slice_get xs k ≡ Some y) ⊎ ((length xs ≤ k) × In y ys) → (numbered xs (suc k) ≡ Some y) ⊎ ((length xs < suc k) × In y ys)
    by (inl f) = inl (numbered_suc xs k ∙ f)
    by (inr g) = inr (let le = g.0 in omega (arith, le), g.1)

pub replicated : {X : Type 0} (n : ℕ) (x y : X) → In y (replicate n x) → x ≡ y
replicated zero x y h = absurd h
replicated (suc n) x y (inl e) = e
replicated (suc n) x y (inr h) = replicated n x y h

-- packets that carry what their sender committed join the others
posted_carried : (i now : ℕ) (packets : List Packet) (c : Course) → length c.network.notes ≡ length c.sent
    → ((x : Packet) → In x packets → (p : UserPacket) (tx : TxHead) → x ≡ packet.User p → p.tx ≡ Some tx → IsCommittedBy i c.written now p tx) → AreCarriedTruly c
    → AreCarriedTruly (posted i now packets c)
posted_carried i now packets c noted_all new h = λ k note p tx e f t. at (connection_of c.network i) k note p tx e (numbered_split c.sent packets k (packet.User p) f) t
  where
    notes_of : Option Connection → List Note
    notes_of o = (option_map_or (λ (d : Connection). record c.network { notes = c.network.notes ++ replicate (length packets) (note_by i now d) }) o c.network).notes

    sender_of : (d : Connection) (note : Note) (p : UserPacket) (tx : TxHead) → In note (replicate (length packets) (note_by i now d)) → IsCommittedBy i c.written now p tx
        → IsCommittedBy note.sender c.written note.moment p tx
    sender_of d note p tx inside g = subst (λ (x : Note). IsCommittedBy x.sender c.written x.moment p tx) (replicated (length packets) (note_by i now d) note inside) g

    with_sender : (d : Connection) (k : ℕ) (note : Note) (p : UserPacket) (tx : TxHead)
        → (numbered c.network.notes k ≡ Some note) ⊎ ((length c.network.notes < k) × In note (replicate (length packets) (note_by i now d)))
        → (numbered c.sent k ≡ Some (packet.User p)) ⊎ ((length c.sent < k) × In (packet.User p) packets) → p.tx ≡ Some tx → IsCommittedBy note.sender c.written note.moment p tx
    with_sender d k note p tx (inl a) (inl b) t = h k note p tx a b t
    with_sender d k note p tx (inl a) (inr b) t = let low = numbered_within c.network.notes k note a in let high = b.0 in absurd (omega (arith, low, high, noted_all))
    with_sender d k note p tx (inr a) (inl b) t = let low = numbered_within c.sent k (packet.User p) b in let high = a.0 in absurd (omega (arith, low, high, noted_all))
    with_sender d k note p tx (inr a) (inr b) t = sender_of d note p tx a.1 (new (packet.User p) b.1 p tx refl t)

    at : (o : Option Connection) (k : ℕ) (note : Note) (p : UserPacket) (tx : TxHead) → numbered (notes_of o) k ≡ Some note
        → (numbered c.sent k ≡ Some (packet.User p)) ⊎ ((length c.sent < k) × In (packet.User p) packets) → p.tx ≡ Some tx → IsCommittedBy note.sender c.written note.moment p tx
    at None k note p tx e (inl b) t = h k note p tx e b t
    at None k note p tx e (inr b) t = let low = numbered_within c.network.notes k note e in let high = b.0 in absurd (omega (arith, low, high, noted_all))
    at (Some d) k note p tx e b t = with_sender d k note p tx (numbered_split c.network.notes (replicate (length packets) (note_by i now d)) k note e) b t

posted_true : (i now : ℕ) (packets : List Packet) (c : Course) → length c.network.notes ≡ length c.sent
    → ((x : Packet) → In x packets → (p : UserPacket) (tx : TxHead) → x ≡ packet.User p → p.tx ≡ Some tx → IsCommittedBy i c.written now p tx) → IsTruthful c
    → IsTruthful (posted i now packets c)
posted_true i now packets c noted_all new h = record {
  carried = posted_carried i now packets c noted_all new h.carried;
  written = h.written;
  doubts = λ j. subst (λ ms. IfSome (doubt_of (unwrap_or (slice_get ms j) nobody).condition) (DecidesTruly c.written)) (sym (noted_managers i now (length packets) c.network)) (h.doubts j);
}

-- what a manager's records committed, a packet of its rows carries, once it is offered
packet_true : (i : ℕ) (ws more : List Written) (moment : ℕ) (x : Packet) → IsPacketOf (IsKnownTo (written_of i ws)) moment x
    → (p : UserPacket) (tx : TxHead) → x ≡ packet.User p → p.tx ≡ Some tx → IsOffered (written_of i (ws ++ more)) (position_of tx) → IsCommittedBy i (ws ++ more) moment p tx
packet_true i ws more moment x h p tx e t offered = let g = h p tx e t in record {
  commitment = record { position = position_of tx; message = g.source };
  there = subst (In (record { position = position_of tx; message = g.source })) (sym (ap commitments (of_append i ws more) ∙ commitments_append (written_of i ws) (written_of i more)))
      (in_append (commitments (written_of i ws)) (commitments (written_of i more)) (record { position = position_of tx; message = g.source }) g.known.0);
  position = refl;
  message = g.message;
  late = g.late;
  offered = offered;
  between = λ n low high. subst (λ ls. HasExpired ls tx.sequence n) (sym (ap lines_written (of_append i ws more) ∙ lines_append (written_of i ws) (written_of i more)))
      (expired_more (lines_written (written_of i ws)) (lines_written (written_of i more)) tx.sequence n (g.known.1 n low high));
}

-- what a pump sends was offered, by its own record or before
sent_offered : (i : ℕ) (m : Manager) (o : Option Record) (ws : List Written) (tx : TxHead) → AreMarked m.state (written_of i ws) → IsSentFrom m.state o tx
    → IsOffered (written_of i (ws ++ written_by i m o)) (position_of tx)
sent_offered i m o ws tx held g = subst (λ xs. IsOffered xs (position_of tx)) (sym (own_more i m o ws)) (subst (λ h. IsOffered (written_of i ws ++ written_by i m o) (position_of h)) (sym g.head) (at g.marked))
  where
    inside : In g.row m.state.outs
    inside = get_in m.state.outs g.index g.row g.there

    place : Position
    place = record { sequence = g.row.sequence; number = g.kept.number }

    by : (marks : List Mark) (mark : Mark) → o ≡ Some (entry.Offered marks) → In mark marks → mark.ordinal ≡ g.row.sequence.ordinal → g.kept.number ≤ mark.number
        → IsOffered (written_of i ws ++ written_by i m o) place
    by marks mark offers there ordinal enough = subst (λ x. IsOffered (written_of i ws ++ written_by i m x) place) (sym offers) (record {
      before = written_of i ws;
      offering = record { by = i; before = m.state; entry = entry.Offered marks };
      behind = [];
      split = refl;
      marks = marks;
      offers = refl;
      mark = mark;
      there = there;
      ordinal = ordinal;
      enough = enough;
      unexpired = (all_in (IsTidy (lines_written (written_of i ws))) m.state.outs g.row held.0.1 inside).spared g.kept g.inside;
    })

    at : (g.kept.number ≤ g.row.offered) ⊎ IsMarkedBy o g.row g.kept.number → IsOffered (written_of i ws ++ written_by i m o) place
    at (inl le) = offered_more (written_of i ws) (written_by i m o) place ((all_in (IsMarked (written_of i ws)) m.state.outs g.row held.1 inside).kept g.kept g.inside le)
    at (inr k) = by k.marks k.mark k.offers k.there k.ordinal k.enough

given_true : (i now : ℕ) (failure : Option Failure) (c : Course) → AreMarked (manager_at c.network i).state (written_of i c.written)
    → (x : Packet) → In x (given_out (outcome_of (manager_at c.network i) (Pump now)) failure) → (p : UserPacket) (tx : TxHead) → x ≡ packet.User p → p.tx ≡ Some tx
    → IsCommittedBy i (calling i (Pump now) failure c).written now p tx
given_true i now None c held x inside p tx e t = let m = manager_at c.network i in let known = IsKnownTo (written_of i c.written) in let outcome = outcome_of m (Pump now) in
    packet_true i c.written (written_by i m outcome.entry) now x
    (all_in (IsPacketOf known now) outcome.packets x (pump_carries known m now (rows_known m.state (written_of i c.written) held.0.0.0.0)) inside) p tx e t
    (sent_offered i m outcome.entry c.written tx held (all_in (GoesFrom m.state outcome.entry) outcome.packets x (pump_goes m now) inside p tx e t))
given_true i now (Some how) c held x inside p tx e t = absurd inside

pub calling_noted : (i : ℕ) (call : Call) (failure : Option Failure) (c : Course) → length c.network.notes ≡ length c.sent
    → length (calling i call failure c).network.notes ≡ length (calling i call failure c).sent
calling_noted i call None c e = e
calling_noted i call (Some how) c e = ap (λ (notes : List Note). length notes)
    (ended_notes_same (with_manager c.network i (failed (manager_at c.network i) (outcome_of (manager_at c.network i) call))) i) ∙ e

-- Hears.

hearing_true : (k now : ℕ) (failure : Option Failure) (c : Course) (note : Option Note) (x : Option Packet) → numbered c.network.notes k ≡ note → numbered c.sent k ≡ x
    → IsTruthful c → IsTruthful (hearing note x now failure c)
hearing_true k now failure c None x e f h = h
hearing_true k now failure c (Some note) None e f h = h
hearing_true k now failure c (Some note) (Some x) e f h = calling_true note.receiver (Hear now x) failure c
    (from_packet c.written note.sender note.moment x (outcome_of (manager_at c.network note.receiver) (Hear now x)).entry
    (from_only _ (manager_at c.network note.receiver).state (outcome_of (manager_at c.network note.receiver) (Hear now x)).entry
    (calls_are_modest (manager_at c.network note.receiver) (Hear now x)).entry)
    (λ p tx g t. h.carried k note p tx e (f ∙ ap (λ y. Some y) g) t)) h

-- Other changes.

same_doubts : (c : Course) (n : Network) (ws : List Written) → ((j : ℕ) → (manager_at n j).condition ≡ (manager_at c.network j).condition)
    → ((j : ℕ) → IfSome (doubt_of (manager_at c.network j).condition) (DecidesTruly ws)) → (j : ℕ) → IfSome (doubt_of (manager_at n j).condition) (DecidesTruly ws)
same_doubts c n ws same h j = subst (λ x. IfSome (doubt_of x) (DecidesTruly ws)) (sym (same j)) (h j)

-- the sender of a packet of a number
abbrev pub HasSender : List Note → ℕ → Note → Type 0
HasSender notes k note = (old : Note) × (numbered notes k ≡ Some old) × (old.sender ≡ note.sender) × (old.moment ≡ note.moment)

pub place_there : {X : Type 0} (xs : List X) (d : ℕ) (x : X) → numbered xs d ≡ Some x → slice_get xs (d - 1) ≡ Some x
place_there xs zero x e = absurd (none_some e)
place_there xs (suc d) x e = ap (slice_get xs) (let f : suc d - 1 ≡ d = omega arith in f) ∙ sym (numbered_suc xs d) ∙ e

set_sender : (notes : List Note) (d k : ℕ) (x note : Note) → slice_get notes (d - 1) ≡ Some x → numbered (slice_set notes (d - 1) (as_dropped x)) k ≡ Some note → HasSender notes k note
set_sender notes d zero x note place e = absurd (none_some e)
set_sender notes d (suc k) x note place e = set_get (λ o. o ≡ Some note → HasSender notes (suc k) note) notes (d - 1) k (as_dropped x)
    (λ f. (note, numbered_suc notes k ∙ f, refl, refl))
    (λ same lt f. (x, numbered_suc notes k ∙ ap (slice_get notes) (sym same) ∙ place, ap (λ (y : Note). y.sender) (some_is (as_dropped x) note f), ap (λ (y : Note). y.moment) (some_is (as_dropped x) note f)))
    (sym (numbered_suc (slice_set notes (d - 1) (as_dropped x)) k) ∙ e)

pub dropped_note : (notes : List Note) (d k : ℕ) (note : Note) → numbered (with_numbered notes d as_dropped) k ≡ Some note → HasSender notes k note
dropped_note notes d k note e = at (numbered notes d) refl e
  where
    at : (o : Option Note) → numbered notes d ≡ o → numbered (option_map_or (λ x. slice_set notes (d - 1) (as_dropped x)) o notes) k ≡ Some note → HasSender notes k note
    at None f e = (note, e, refl, refl)
    at (Some x) f e = set_sender notes d k x note (place_there notes d x f) e

-- Every change.

with_condition : (n : Network) (ws : List Written) (i : ℕ) (m : Manager) → ((j : ℕ) → IfSome (doubt_of (manager_at n j).condition) (DecidesTruly ws))
    → IfSome (doubt_of m.condition) (DecidesTruly ws) → (j : ℕ) → IfSome (doubt_of (manager_at (with_manager n i m) j).condition) (DecidesTruly ws)
with_condition n ws i m h new j = with_at (λ x. IfSome (doubt_of x.condition) (DecidesTruly ws)) n i j m (h j) (λ e. new)

change_true : (c : Course) (x : Change) → may_change c x ≡ true → length c.network.notes ≡ length c.sent → ((i : ℕ) → AreMarked (manager_at c.network i).state (written_of i c.written))
    → IsTruthful c → IsTruthful (changed x c)
change_true c (Calls i call failure) may noted_all held h = calling_true i call failure c
    (from_none c.written (outcome_of (manager_at c.network i) call).entry
    (subst (λ a. IfSome (outcome_of (manager_at c.network i) call).entry (IsFrom a)) (none_heard call (not_true (is_of_packets call) (split_and (not (is_of_packets call)) _ may).0))
    (from_only _ (manager_at c.network i).state (outcome_of (manager_at c.network i) call).entry (calls_are_modest (manager_at c.network i) call).entry))) h
change_true c (Pumps i now failure) may noted_all held h = posted_true i now (given_out (outcome_of (manager_at c.network i) (Pump now)) failure) (calling i (Pump now) failure c)
    (calling_noted i (Pump now) failure c noted_all)
    (given_true i now failure c (held i))
    (calling_true i (Pump now) failure c (from_none c.written (outcome_of (manager_at c.network i) (Pump now)).entry
    (from_only _ (manager_at c.network i).state (outcome_of (manager_at c.network i) (Pump now)).entry (calls_are_modest (manager_at c.network i) (Pump now)).entry)) h)
change_true c (Hears k now failure) may noted_all held h = hearing_true k now failure c (numbered c.network.notes k) (numbered c.sent k) refl refl h
change_true c (Links a b window_a window_b) may noted_all held h = record {
  carried = h.carried;
  written = h.written;
  doubts = let end = asking (manager_at c.network a).state (manager_at c.network b).state.identity.guid in
      same_doubts c (linked_as b role.Acceptor window_b (linked_as a end window_a c.network)) c.written
      (λ j. linked_condition (linked_as a end window_a c.network) b j role.Acceptor window_b ∙ linked_condition c.network a j end window_a) h.doubts;
}
change_true c (Ends i) may noted_all held h = record {
  carried = λ k note p tx e f t. h.carried k note p tx (subst (λ (notes : List Note). numbered notes k ≡ Some note) (ended_notes_same c.network i) e) f t;
  written = h.written;
  doubts = λ j. parted_at (λ x. IfSome (doubt_of x.condition) (DecidesTruly c.written)) c.network i j
      (λ x g. subst (λ y. IfSome (doubt_of y) (DecidesTruly c.written)) (sym (parted_condition x)) g) (h.doubts j);
}
change_true c (Drops d) may noted_all held h = record {
  carried = λ k note p tx e f t. let old = dropped_note c.network.notes d k note e in
      subst (λ s. IsCommittedBy s c.written note.moment p tx) old.2 (subst (λ moment. IsCommittedBy old.0.sender c.written moment p tx) old.3 (h.carried k old.0 p tx old.1 f t));
  written = h.written;
  doubts = h.doubts;
}
change_true c (Restarts i) may noted_all held h = record {
  carried = h.carried;
  written = h.written;
  doubts = with_condition c.network c.written i (restarted (manager_at c.network i) false) h.doubts tt;
}
change_true c (Finds i) may noted_all held h = let m = manager_at c.network i in let more = written_by i m (doubt_of m.condition) in record {
  carried = λ k note p tx e f t. grown note.sender c.written more note.moment p tx (h.carried k note p tx e f t);
  written = with_record c.written i m (doubt_of m.condition) (h.doubts i) h.written;
  doubts = with_condition c.network (c.written ++ more) i (restarted m true) (λ j. some_true_grown c.written more (doubt_of (manager_at c.network j).condition) (h.doubts j)) tt;
}
change_true c (Fails i) may noted_all held h = record {
  carried = h.carried;
  written = h.written;
  doubts = with_condition c.network c.written i (unread (manager_at c.network i)) h.doubts (h.doubts i);
}

-- The laws.

-- what holds of each course
abbrev pub IsCarrying : List Identity → Course → Type 0
IsCarrying known c = IsOrderlyWith known AreMarked c × IsTruthful c

pub carrying_closed : (known : List Identity) → AreApart known → IsClosed known (IsCarrying known)
carrying_closed known apart = record {
  orderly = λ c h. h.0.0;
  keeps = λ c x may h. (
    (change_orderly known c x apart may h.0.0, change_keeps known AreMarked marked_by_records c x may h.0.0 h.0.1),
    change_true c x may h.0.0.noted h.0.1 h.1,
  );
}

pub carrying_begins : (known : List Identity) → IsCarrying known (beginning known)
carrying_begins known = (
  begins_with known AreMarked marked_by_records,
  record {
    carried = λ k note p tx e f t. absurd (nothing_numbered k note e);
    written = tt;
    doubts = λ j. subst (λ o. IfSome (doubt_of (unwrap_or o nobody).condition) (DecidesTruly [])) (sym (map_get (λ own. formatted own (others known own)) known j)) (at (slice_get known j));
  },
)
  where
    nothing_numbered : (k : ℕ) (note : Note) → numbered [] k ≡ Some note → ⊥
    nothing_numbered zero note e = none_some e
    nothing_numbered (suc k) note e = none_some (sym (numbered_suc [] k) ∙ e)

    at : (o : Option Identity) → IfSome (doubt_of (unwrap_or (option_map (λ own. formatted own (others known own)) o) nobody).condition) (DecidesTruly [])
    at None = tt
    at (Some own) = tt

pub always_carried_truly : AlwaysCarriedTruly
always_carried_truly known ms apart run kept = (always_kept known (IsCarrying known) (carrying_closed known apart) ms run kept (carrying_begins known)).1.carried

pub carrying_decided : (known : List Identity) (c : Course) → IsCarrying known c → AreDecidedTruly c
carrying_decided known c h before behind w now numbers p tx split e t =
    let g = (subst (DecidesTruly before) e (truly_at [] before behind w (subst (DecideTruly []) split h.1.written))) tx t in
    let all = subst (λ ws. IsCommittedBy g.0 ws g.1 p tx) (sym split) (grown g.0 before (w ∷ behind) g.1 p tx g.2) in record {
      source = g.0;
      own = sym ((all_in (IsOwnBelow (manager_at c.network g.0).state.identity.guid (manager_at c.network g.0).state.next_number) (commitments (written_of g.0 c.written))
          all.commitment (h.0.1 g.0).0.0.0.0.0.own_ids all.there).0) ∙ ap (λ (m : Message). m.id.qm) (sym all.message);
      moment = g.1;
      committed = g.2;
    }

pub always_decided_truly : AlwaysDecidedTruly
always_decided_truly known ms apart run kept = carrying_decided known (settled kept (after_run known ms))
    (always_kept known (IsCarrying known) (carrying_closed known apart) ms run kept (carrying_begins known))
