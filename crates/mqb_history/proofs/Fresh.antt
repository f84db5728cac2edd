-- Numbers of messages and of sequences are given once, and few of them.
use Rattle.std.proofs.Common.{refl, ap, sym, subst, ◌∙◌, arith, inl, inr}
use Rattle.std.specs.List.{AllByRecursion, cons_option}
use Rattle.std.specs.Option.{option_map_or}
use Rattle.std.specs.Prelude.{[], ◌+◌, ◌++◌, ◌<◌, ◌∷◌, ◌≡◌, ◌≤◌, List, None, Option, Some, cond, fold, length, map, slice_set, suc, zero, ℕ}
use Rattle.mqb_base.specs.Same.{same_guid, same_name}
use Rattle.mqb_base.specs.declared.ids.Guid.{Guid}
use Rattle.mqb_base.specs.declared.ids.Identity.{Identity}
use Rattle.mqb_base.specs.declared.ids.MessageId.{MessageId}
use Rattle.mqb_base.specs.declared.message.Message.{Message}
use Rattle.mqb_entries.specs.declared.members.Mark.{Mark}
use Rattle.mqb_exactly_once.specs.Words.{In, position_of}
use Rattle.mqb_exactly_once.specs.World.{Channel, Commitment, Position}
use Rattle.mqb_model.specs.declared.target.Target.{Target}
use Rattle.mqb_model.specs.declared.target.Target.TheVariants.{AtPeer, Here, Nowhere}
use Rattle.mqb_model.specs.records.Applying.{apply}
use Rattle.mqb_model.specs.records.Commit.{send_made, sends_numbered, sends_of, takes_made}
use Rattle.mqb_model.specs.records.Decisions.{decided_row}
use Rattle.mqb_model.specs.records.Offered.{mark_raised}
use Rattle.mqb_model.specs.records.Record.{Record}
use Rattle.mqb_model.specs.records.Record as entry
use Rattle.mqb_model.specs.rules.Effects.{Effect}
use Rattle.mqb_model.specs.rules.Sends.{committed_to, journalled}
use Rattle.mqb_model.specs.rules.Sequences.{join, new_sequence, sequence_in_use, with_kept, with_sequence}
use Rattle.mqb_model.specs.state.Resolving.{resolved}
use Rattle.mqb_model.specs.state.Rows.{in_index, with_row}
use Rattle.mqb_model.specs.state.State.{State, empty}
use Rattle.mqb_network.specs.Courses.{Written}
use Rattle.mqb_orders.specs.Rows.{Row}
use Rattle.mqb_orders.specs.declared.rows.InRow.{InRow}
use Rattle.mqb_packet.specs.declared.packet.UserPacket.{UserPacket}
use Rattle.mqb_history.specs.Committed.{commitment_at, commitments_in, commitments_of}
use Rattle.mqb_history.specs.Decided.{decided_in, decisions, position_in}
use Rattle.mqb_history.specs.Made.{AreNumbered, IsMade, IsNext}
use Rattle.mqb_history.proofs.Applying.{ops_taken_rows, takes_made_rows}
use Rattle.mqb_history.proofs.Committing.{in_append}
use Rattle.mqb_history.proofs.Deciding.{one_more, place_of}
use Rattle.mqb_history.proofs.Inside.{DecidesNothing, applied_ins, decided_ins}
use Rattle.mqb_history.proofs.Lists.{all_append, all_weaker, join_and}
use Rattle.mqb_history.proofs.Names.{same_guid_refl, same_name_refl}
use Rattle.mqb_history.proofs.Numbering.{sends_numbers}
use Rattle.mqb_history.proofs.Outside.{NoMore, applied_no_more}
use Rattle.mqb_history.proofs.Staying.{delivered_rows, journalled_rows}
use Rattle.mqb_history.proofs.Written.{IsByRecords}

-- What a transaction commits is among the messages that it sends.

at_sent : (now : ℕ) (s : State) (t : Target) (x : Message) (m : Commitment) → commitment_at now s t x ≡ Some m → m.message ≡ x
at_sent now s (AtPeer k) x m e = sym (ap (λ (c : Commitment). c.message) (some_is _ m e))
  where
    some_is : (a b : Commitment) → Some a ≡ Some b → a ≡ b
    some_is a b f = cc
at_sent now s (Here queue) x m e = absurd (let none : ⊥ = cc in none)
at_sent now s Nowhere x m e = absurd (let none : ⊥ = cc in none)

commits_sent : (now : ℕ) (e : Effect) (ms : List Message) (m : Commitment) → In m (commitments_of now e ms) → In m.message ms
commits_sent now e [] m i = absurd i
commits_sent now e (x ∷ ms) m i = at (commitment_at now (journalled e.state x) (resolved e.state x.destination) x) refl (λ j. commits_sent now (send_made now e x) ms m j) i
  where
    at : (o : Option Commitment) → commitment_at now (journalled e.state x) (resolved e.state x.destination) x ≡ o → (In m (commitments_of now (send_made now e x) ms) → In m.message ms)
        → In m (cons_option o (commitments_of now (send_made now e x) ms)) → In m.message (x ∷ ms)
    at None f rest j = inr (rest j)
    at (Some c) f rest (inl g) = inl (sym (at_sent now (journalled e.state x) (resolved e.state x.destination) x m (f ∙ ap (λ y. Some y) g)))
    at (Some c) f rest (inr j) = inr (rest j)

numbered_within : (own : Guid) (n : ℕ) (ms : List Message) (x : Message) → AreNumbered own n ms → In x ms → (n ≤ x.id.number) × (x.id.number < n + length ms)
numbered_within own n [] x h i = absurd i
numbered_within own n (m ∷ ms) x h (inl e) = let same = ap (λ (i : MessageId). i.number) h.0 in let f = ap (λ (y : Message). y.id.number) e in
    (omega (arith, same, f), omega (arith, same, f))
numbered_within own n (m ∷ ms) x h (inr i) = let g = numbered_within own (n + 1) ms x h.1 i in let low = g.0 in let high = g.1 in (omega (arith, low), omega (arith, high))

-- how many messages a record sends in a transaction
abbrev pub sent_by : Record → ℕ
sent_by (entry.Commit now ops) = length (sends_of ops)
sent_by _ = 0

pub commits_within : (s : State) (r : Record) (m : Commitment) → IsMade s r → In m (commitments_in s r)
    → (s.next_number ≤ m.message.id.number) × (m.message.id.number < s.next_number + sent_by r)
commits_within s (entry.Commit now ops) m made i = numbered_within s.identity.guid s.next_number (sends_of ops) m.message made.numbered (commits_sent now (takes_made s now ops) (sends_of ops) m i)
commits_within s r m made i = absurd i

-- Numbers rise, and ordinals do not rise more.

pub record Rises (s t : State) : Type 0 where
  pub numbers : s.next_number ≤ t.next_number
  pub ordinals : s.next_ordinal ≤ s.next_number → t.next_ordinal ≤ t.next_number

from_no_more : (s t : State) → NoMore s t → Rises s t
from_no_more s t h = record {
  numbers = h.numbers;
  ordinals = λ few. let same = h.next_ordinal in let low = h.numbers in omega (arith, few, same, low);
}

marks_same : (s : State) (marks : List Mark) → ((fold mark_raised s marks).next_number ≡ s.next_number) × ((fold mark_raised s marks).next_ordinal ≡ s.next_ordinal)
marks_same s [] = (refl, refl)
marks_same s (mark ∷ marks) = marks_same (mark_raised s mark) marks

join_ordinals : (s : State) (peer now : ℕ) (m : Message) → (join s peer now m).next_ordinal ≤ s.next_ordinal + 1
join_ordinals s peer now m = at (sequence_in_use s peer m.destination)
  where
    at : (o : Option Row) → (option_map_or (λ row. with_row (with_kept m) s row.sequence.ordinal) o (with_sequence s (with_kept m (new_sequence s peer m.destination now)))).next_ordinal ≤ s.next_ordinal + 1
    at None = omega arith
    at (Some row) = omega arith

to_ordinals : (now : ℕ) (s : State) (t : Target) (m : Message) → (committed_to now s t m).state.next_ordinal ≤ s.next_ordinal + 1
to_ordinals now s (AtPeer k) m = join_ordinals s k now m
to_ordinals now s (Here queue) m = let same = (delivered_rows s (Here queue) m now).next_ordinal in omega (arith, same)
to_ordinals now s Nowhere m = let same = (delivered_rows s Nowhere m now).next_ordinal in omega (arith, same)

sends_ordinals : (now : ℕ) (e : Effect) (ms : List Message) → (fold (send_made now) e ms).state.next_ordinal ≤ e.state.next_ordinal + length ms
sends_ordinals now e [] = omega arith
sends_ordinals now e (m ∷ ms) = let rest = sends_ordinals now (send_made now e m) ms in let one = to_ordinals now (journalled e.state m) (resolved e.state m.destination) m in
    let same = (journalled_rows e.state m).next_ordinal in omega (arith, rest, one, same)

pub record_rises : (s : State) (r : Record) → IsMade s r → Rises s (apply s r)
record_rises s (entry.Peer peer) made = absurd made
record_rises s (entry.Commit now ops) made = record {
  numbers = omega (arith, a, b);
  ordinals = λ few. let high = sends_ordinals now taken (sends_of ops) in let same = (takes_made_rows s now ops).next_ordinal in omega (arith, few, a, b, high, same);
}
  where
    taken : Effect
    taken = takes_made s now ops

    a : s.next_number + length (sends_of ops) ≤ taken.state.next_number
    a = (ops_taken_rows now (sends_numbered s ops) ops).numbers

    b : taken.state.next_number ≤ (apply s (entry.Commit now ops)).next_number
    b = sends_numbers now taken (sends_of ops)
record_rises s (entry.Offered marks) made = let same = marks_same s marks in let number = same.0 in let ordinal = same.1 in
    record { numbers = omega (arith, number); ordinals = λ few. omega (arith, few, number, ordinal) }
record_rises s r made = from_no_more s _ (applied_no_more s r tt tt)

-- What a manager's incoming rows tell was decided.

abbrev pub IsToldTruly : List Written → InRow → Type 0
IsToldTruly ws row = In (place_of row) (decisions (record { source = row.source; destination = row.destination }) ws)

-- what holds of a manager's rows that come in, and of its numbers
pub record AreTold (s : State) (ws : List Written) : Type 0 where
  pub ins : AllByRecursion (IsToldTruly ws) s.ins
  pub few : s.next_ordinal ≤ s.next_number

told_more : (ws : List Written) (w : Written) (row : InRow) → IsToldTruly ws row → IsToldTruly (ws ++ w ∷ []) row
told_more ws w row h = let channel : Channel = record { source = row.source; destination = row.destination } in
    subst (In (place_of row)) (sym (one_more channel ws w)) (in_append (decisions channel ws) (cons_option (decided_in channel w.entry) []) (place_of row) h)

all_told_more : (ws : List Written) (w : Written) (rows : List InRow) → AllByRecursion (IsToldTruly ws) rows → AllByRecursion (IsToldTruly (ws ++ w ∷ [])) rows
all_told_more ws w rows h = all_weaker (IsToldTruly ws) (IsToldTruly (ws ++ w ∷ [])) (told_more ws w) rows h

set_told : (ws : List Written) (rows : List InRow) (k : ℕ) (row : InRow) → IsToldTruly ws row → AllByRecursion (IsToldTruly ws) rows → AllByRecursion (IsToldTruly ws) (slice_set rows k row)
set_told ws [] k row new h = tt
set_told ws (x ∷ rows) zero row new h = (new, h.1)
set_told ws (x ∷ rows) (suc k) row new h = (h.0, set_told ws rows k row new h.1)

decided_told : (i : ℕ) (s : State) (now : ℕ) (numbers : List ℕ) (p : UserPacket) (ws : List Written) → IsNext s.ins p → AllByRecursion (IsToldTruly ws) s.ins
    → (let r = entry.Arrived now numbers (entry.Decided p) in AllByRecursion (IsToldTruly (ws ++ record { by = i; before = s; entry = r } ∷ [])) (apply s r).ins)
decided_told i s now numbers p ws next h = subst (AllByRecursion (IsToldTruly (ws ++ w ∷ []))) (sym (decided_ins s now numbers p next.head next.there)) (at (in_index s p.message))
  where
    w : Written
    w = record { by = i; before = s; entry = entry.Arrived now numbers (entry.Decided p) }

    row : InRow
    row = decided_row p.message next.head

    channel : Channel
    channel = record { source = p.message.id.qm; destination = p.message.destination }

    own : decided_in channel w.entry ≡ Some (position_of next.head)
    own = ap (position_in channel p.message) next.there
        ∙ ap (λ b. cond b (Some (position_of next.head)) None) (join_and (same_guid p.message.id.qm p.message.id.qm) (same_name p.message.destination p.message.destination) (same_guid_refl p.message.id.qm) (same_name_refl p.message.destination))

    behind : (ps : List Position) (x : Position) → In x (ps ++ x ∷ [])
    behind [] x = inl refl
    behind (y ∷ ps) x = inr (behind ps x)

    new : IsToldTruly (ws ++ w ∷ []) row
    new = subst (In (place_of row)) (sym (one_more channel ws w)) (subst (λ o. In (place_of row) (decisions channel ws ++ cons_option o [])) (sym own) (behind (decisions channel ws) (place_of row)))

    at : (o : Option ℕ) → AllByRecursion (IsToldTruly (ws ++ w ∷ [])) (option_map_or (λ k. slice_set s.ins k row) o (s.ins ++ row ∷ []))
    at None = all_append (IsToldTruly (ws ++ w ∷ [])) s.ins (row ∷ []) (all_told_more ws w s.ins h) (new, tt)
    at (Some k) = set_told (ws ++ w ∷ []) s.ins k row new (all_told_more ws w s.ins h)

quiet_told : (i : ℕ) (s : State) (r : Record) (ws : List Written) → DecidesNothing r → AllByRecursion (IsToldTruly ws) s.ins
    → AllByRecursion (IsToldTruly (ws ++ record { by = i; before = s; entry = r } ∷ [])) (apply s r).ins
quiet_told i s r ws nothing h = subst (AllByRecursion (IsToldTruly (ws ++ record { by = i; before = s; entry = r } ∷ []))) (sym (applied_ins s r nothing)) (all_told_more ws (record { by = i; before = s; entry = r }) s.ins h)

record_told : (i : ℕ) (s : State) (r : Record) (ws : List Written) → IsMade s r → AllByRecursion (IsToldTruly ws) s.ins
    → AllByRecursion (IsToldTruly (ws ++ record { by = i; before = s; entry = r } ∷ [])) (apply s r).ins
record_told i s (entry.Arrived now numbers (entry.Decided p)) ws made h = decided_told i s now numbers p ws made h
record_told i s r ws made h = quiet_told i s r ws tt h

pub told_by_records : IsByRecords AreTold
told_by_records = record {
  starts = λ own peers. begins (empty own) peers (record { ins = tt; few = omega arith });
  quiet = λ a b ws same h. record {
    ins = subst (AllByRecursion (IsToldTruly ws)) (sym same.ins) h.ins;
    few = let ordinal = same.next_ordinal in let number = same.numbers in let low = h.few in omega (arith, ordinal, number, low);
  };
  grows = λ i s r ws made h. record { ins = record_told i s r ws made h.ins; few = (record_rises s r made).ordinals h.few };
}
  where
    begins : (s : State) (peers : List Identity) → AreTold s [] → AreTold (fold apply s (map (λ peer. entry.Peer peer) peers)) []
    begins s [] h = h
    begins s (p ∷ ps) h = begins (apply s (entry.Peer p)) ps (record { ins = h.ins; few = h.few })
