-- A message of a stream that a pump sends is kept by an open row, and stands at or below its mark, which the pump may have raised.
use Rattle.std.proofs.Common.{refl, ap, sym, subst, ◌∙◌, arith, inl, inr}
use Rattle.std.proofs.lemmas.Bool.Decides.{nat_tests}
use Rattle.std.specs.List.{AllByRecursion}
use Rattle.std.specs.Option.{option_map_or}
use Rattle.std.specs.Prelude.{[], ◌<◌, ◌&&◌, ◌+◌, ◌==◌, ◌∷◌, ◌≡◌, ◌≤◌, ◌⊎◌, Bool, Err, List, None, Ok, Option, Some, cond, false, length, map, nat_lt, not, slice_get, true, ℕ}
use Rattle.mqb_base.specs.declared.heads.TxHead.{TxHead}
use Rattle.mqb_base.specs.declared.ids.Guid.{Guid}
use Rattle.mqb_base.specs.declared.ids.Identity.{Identity}
use Rattle.mqb_entries.specs.declared.members.Mark.{Mark}
use Rattle.mqb_exactly_once.specs.Words.{In}
use Rattle.mqb_model.specs.calls.pump.Candidates.{Candidate, candidates, tx_of}
use Rattle.mqb_model.specs.calls.pump.Choosing.{chosen, head_for, session_after, with_heads}
use Rattle.mqb_model.specs.calls.pump.Pump.{PumpOutcome, carriage_for, greatest_sent, marks_for, offered_entry, packet_for, pump_at, pump_linked, pump_owed, pump_refusal, pump_to, pump_with, sending_chosen, sending_one, set_up_packet}
use Rattle.mqb_model.specs.declared.faults.PumpFault.{PumpFault}
use Rattle.mqb_model.specs.declared.faults.PumpFault.TheVariants as fault
use Rattle.mqb_model.specs.managers.Beside.{OfRow, Origin}
use Rattle.mqb_model.specs.managers.Manager.{Manager, linked_peer}
use Rattle.mqb_model.specs.managers.Outcomes.{answering, unless}
use Rattle.mqb_model.specs.records.Record.{Record}
use Rattle.mqb_model.specs.records.Record as entry
use Rattle.mqb_model.specs.state.State.{State}
use Rattle.mqb_orders.specs.Rows.{Row, is_open}
use Rattle.mqb_orders.specs.declared.kept.Kept.{Kept}
use Rattle.mqb_packet.specs.Plain.{carried_user}
use Rattle.mqb_packet.specs.declared.packet.Packet.{Packet}
use Rattle.mqb_packet.specs.declared.packet.Packet.TheVariants as packet
use Rattle.mqb_packet.specs.declared.packet.UserPacket.{UserPacket}
use Rattle.mqb_plain.specs.Plain.{PlainLists}
use Rattle.mqb_session.specs.Phases.{owed_by}
use Rattle.mqb_session.specs.Sending.{is_ready, is_spent, stamped}
use Rattle.mqb_session.specs.State as one_end
use Rattle.mqb_session.specs.declared.heads.Kind.TheVariants as kind
use Rattle.mqb_setup.specs.declared.internal.Internal.{Internal}
use Rattle.mqb_setup.specs.declared.internal.Internal.TheVariants as internal
use Rattle.mqb_model.specs.calls.Call.{Pump, outcome_of}
use Rattle.mqb_history.specs.Made.{IsOfRows}
use Rattle.mqb_history.proofs.Committing.{all_in}
use Rattle.mqb_history.proofs.Lists.{none_some, other_numbers, some_is}
use Rattle.mqb_history.proofs.Marked.{mark_in, sent_below}
use Rattle.mqb_history.proofs.Opening.{AreOfRows, candidates_open, chosen_all}

-- a mark of a record, where there is one, stands at a number of a row or above
pub record IsMarkedBy (o : Option Record) (row : Row) (number : ℕ) : Type 0 where
  pub marks : List Mark
  pub offers : o ≡ Some (entry.Offered marks)
  pub mark : Mark
  pub there : In mark marks
  pub ordinal : mark.ordinal ≡ row.sequence.ordinal
  pub enough : number ≤ mark.number

-- what goes under a header is kept by an open row, at or below its mark, or one of the record
pub record IsSentFrom (s : State) (o : Option Record) (tx : TxHead) : Type 0 where
  pub index : ℕ
  pub row : Row
  pub there : slice_get s.outs index ≡ Some row
  pub kept : Kept
  pub inside : In kept row.kept
  pub unacknowledged : row.acked < kept.number
  pub head : tx ≡ tx_of row kept
  pub open_ : is_open s.outs index ≡ true
  pub marked : (kept.number ≤ row.offered) ⊎ IsMarkedBy o row kept.number

abbrev pub GoesFrom : State → Option Record → Packet → Type 0
GoesFrom s o x = (p : UserPacket) (tx : TxHead) → x ≡ packet.User p → p.tx ≡ Some tx → IsSentFrom s o tx

-- A pump whose packets do.
abbrev AllGo : State → PumpOutcome → Type 0
AllGo s outcome = AllByRecursion (GoesFrom s outcome.entry) outcome.packets

pub user_is : (a b : UserPacket) → packet.User a ≡ packet.User b → a ≡ b
user_is a b e = cc

-- the record of marks, of which there is one
some_entry : (s : State) (cs : List Candidate) (mark : Mark) → In mark (marks_for s cs) → offered_entry s cs ≡ Some (entry.Offered (marks_for s cs))
some_entry s cs mark i = at (marks_for s cs) i
  where
    at : (marks : List Mark) → In mark marks → cond (length marks == 0) None (Some (entry.Offered marks)) ≡ Some (entry.Offered marks)
    at [] j = absurd j
    at (m ∷ marks) j = ap (λ b. cond b None (Some (entry.Offered (m ∷ marks)))) (other_numbers (length (m ∷ marks)) 0 (λ e. omega (arith, e)))

-- what a candidate of a row carries
candidate_goes : (s : State) (cs : List Candidate) (c : Candidate) (o : Origin) (tx : TxHead) → In c cs → c.origin ≡ o → IsOfRows s.outs c o → c.tx ≡ Some tx → IsSentFrom s (offered_entry s cs) tx
candidate_goes s cs c (OfRow index number) tx i same g e = record {
  index = index;
  row = g.row;
  there = g.there;
  kept = g.kept;
  inside = g.inside;
  unacknowledged = g.unacknowledged;
  head = some_is tx (tx_of g.row g.kept) (sym e ∙ g.head);
  open_ = g.open_;
  marked = at (nat_lt g.row.offered (greatest_sent cs index)) refl;
}
  where
    low : g.kept.number ≤ greatest_sent cs index
    low = let f = sent_below cs c index number i same in let h = g.numbered in omega (arith, f, h)

    under : nat_lt g.row.offered (greatest_sent cs index) ≡ false → greatest_sent cs index ≤ g.row.offered
    under f = grind (arith, nat_tests)

    at : (b : Bool) → nat_lt g.row.offered (greatest_sent cs index) ≡ b → (g.kept.number ≤ g.row.offered) ⊎ IsMarkedBy (offered_entry s cs) g.row g.kept.number
    at true f = inr (record {
      marks = marks_for s cs;
      offers = some_entry s cs (record { ordinal = g.row.sequence.ordinal; number = greatest_sent cs index }) there;
      mark = record { ordinal = g.row.sequence.ordinal; number = greatest_sent cs index };
      there = there;
      ordinal = refl;
      enough = low;
    })
      where
        zero_more : 0 + index ≡ index
        zero_more = omega arith

        there : In (record { ordinal = g.row.sequence.ordinal; number = greatest_sent cs index }) (marks_for s cs)
        there = subst (λ k. In (record { ordinal = g.row.sequence.ordinal; number = greatest_sent cs k }) (marks_for s cs)) zero_more
            (mark_in cs 0 s.outs index g.row g.there (subst (λ k. nat_lt g.row.offered (greatest_sent cs k) ≡ true) (sym zero_more) f))
    at false f = inl (let le = under f in omega (arith, low, le))
candidate_goes s cs c o tx i same g e = absurd (none_some (sym g ∙ e))

all_go : (s : State) (cs : List Candidate) (to : Guid) (now : ℕ) (session : one_end.State) (xs : List Candidate) → AreOfRows s.outs cs → ((c : Candidate) → In c xs → In c cs)
    → AllByRecursion (GoesFrom s (offered_entry s cs)) (map (packet_for to now) (with_heads session xs))
all_go s cs to now session [] h within = tt
all_go s cs to now session (x ∷ xs) h within = (own, all_go s cs to now (session_after session x) xs h (λ c i. within c (inr i)))
  where
    own : GoesFrom s (offered_entry s cs) (packet_for to now (x, head_for session x))
    own p tx e t = candidate_goes s cs x x.origin tx (within x (inl refl)) refl (all_in (λ c. IsOfRows s.outs c c.origin) cs x h (within x (inl refl)))
        (ap (λ (y : UserPacket). y.tx) (user_is (carried_user x.message (carriage_for to now (x, head_for session x))) p e) ∙ t)

-- Pumps.

go_or : {X : Type 0} (s : State) (f : X → PumpOutcome) (o : Option X) (other : PumpOutcome) → ((x : X) → AllGo s (f x)) → AllGo s other → AllGo s (option_map_or f o other)
go_or s f None other some none = none
go_or s f (Some x) other some none = some x

go_either : (s : State) (b : Bool) (x y : PumpOutcome) → AllGo s x → AllGo s y → AllGo s (cond b x y)
go_either s true x y left right = left
go_either s false x y left right = right

no_user : (s : State) (o : Option Record) (x : Packet) → ((p : UserPacket) → x ≡ packet.User p → ⊥) → GoesFrom s o x
no_user s o x none p tx e t = absurd (none p e)

set_up_goes : (s : State) (o : Option Record) (owed : Internal) → GoesFrom s o (set_up_packet owed)
set_up_goes s o (internal.Establish e) = no_user s o (packet.Establish e) (λ p f. let none : ⊥ = cc in none)
set_up_goes s o (internal.Parameters p) = no_user s o (packet.Parameters p) (λ q f. let none : ⊥ = cc in none)
set_up_goes s o (internal.Ack h) = no_user s o (packet.Ack h) (λ p f. let none : ⊥ = cc in none)

chosen_go : (m : Manager) (now : ℕ) (session : one_end.State) (k : ℕ) (to : Guid) (cs : List Candidate) → AreOfRows m.state.outs cs → AllGo m.state (sending_chosen m now session k to cs)
chosen_go m now session k to [] h = go_either m.state session.owes (sending_one m (packet.Ack (stamped kind.Ack session).0) (stamped kind.Ack session).1) (answering m (Ok 0))
    (no_user m.state None (packet.Ack (stamped kind.Ack session).0) (λ p f. let none : ⊥ = cc in none), tt) tt
chosen_go m now session k to (c ∷ cs) h = all_go m.state (c ∷ cs) to now session (c ∷ cs) h (λ x i. i)

with_go : (m : Manager) (now : ℕ) (session : one_end.State) (k : ℕ) (to : Guid) (cs : List Candidate) → AreOfRows m.state.outs cs → AllGo m.state (pump_with m now session k to cs)
with_go m now session k to cs h = go_either m.state (is_spent session && not (length cs == 0)) (answering m (Err fault.Spent)) (sending_chosen m now session k to (chosen session 0 0 cs)) tt
    (chosen_go m now session k to (chosen session 0 0 cs) (chosen_all (λ c. IsOfRows m.state.outs c c.origin) session 0 0 cs h))

owed_go : (m : Manager) (now : ℕ) (session : one_end.State) (owed : Option Internal) → AllGo m.state (pump_owed m now session owed)
owed_go m now session (Some owed) = (set_up_goes m.state None owed, tt)
owed_go m now session None = let k = linked_peer m.state session in
    go_either m.state (is_ready session.phase) (pump_at m now session k) (answering m (Ok 0))
    (go_or m.state (λ peer. option_map_or (pump_to m now session k peer) (slice_get m.state.plain k) (answering m (Ok 0))) (slice_get m.state.peers k) (answering m (Ok 0))
    (λ (peer : Identity). go_or m.state (pump_to m now session k peer) (slice_get m.state.plain k) (answering m (Ok 0))
    (λ (p : PlainLists). with_go m now session k peer.guid (candidates m.state m.rest now k peer p) (candidates_open m.state m.rest now k peer p)) tt) tt) tt

pub pump_goes : (m : Manager) (now : ℕ) → AllByRecursion (GoesFrom m.state (outcome_of m (Pump now)).entry) (outcome_of m (Pump now)).packets
pump_goes m now = at (pump_refusal m)
  where
    at : (o : Option PumpFault) → AllGo m.state (unless m o (option_map_or (pump_linked m now) m.rest.session (answering m (Err fault.NotLinked))))
    at (Some why) = tt
    at None = go_or m.state (pump_linked m now) m.rest.session (answering m (Err fault.NotLinked)) (λ session. owed_go m now session (owed_by session.phase now session)) tt
