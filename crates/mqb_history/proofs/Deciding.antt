-- A manager decides the messages of a channel in the order of their positions: the row of the channel is the last one.
use Rattle.std.proofs.Common.{refl, ap, sym, subst, ◌∙◌, arith}
use Rattle.std.proofs.lemmas.Bool.Decides.{nat_tests}
use Rattle.std.specs.List.{AllByRecursion, prefix_len}
use Rattle.std.specs.Option.{option_map_or}
use Rattle.std.specs.Prelude.{[], ◌&&◌, ◌+◌, ◌++◌, ◌<◌, ◌∷◌, ◌≡◌, Bool, List, None, Option, Some, cond, false, find, length, nat_le, nat_lt, not, option_and_then, option_map, position, slice_get, slice_set, suc, true, ℕ}
use Rattle.mqb_base.specs.Same.{same_guid, same_name}
use Rattle.mqb_base.specs.Sequences.{earlier, same_sequence}
use Rattle.mqb_base.specs.declared.heads.TxHead.{TxHead}
use Rattle.mqb_base.specs.declared.message.Message.{Message}
use Rattle.mqb_exactly_once.specs.Words.{position_of, precedes}
use Rattle.mqb_exactly_once.specs.World.{Channel, Position}
use Rattle.mqb_exactly_once.proofs.Positions.{later_else, precedes_below, precedes_earlier, precedes_trans, same_sequence_is}
use Rattle.mqb_model.specs.Lists.{first_where}
use Rattle.mqb_model.specs.records.Applying.{apply}
use Rattle.mqb_model.specs.records.Decisions.{decided_row}
use Rattle.mqb_model.specs.records.Record.{Record}
use Rattle.mqb_model.specs.records.Record as entry
use Rattle.mqb_model.specs.state.Rows.{is_row_of}
use Rattle.mqb_model.specs.state.State.{State}
use Rattle.mqb_network.specs.Courses.{Written}
use Rattle.mqb_orders.specs.Judging.{verdict_after, verdict_of}
use Rattle.mqb_orders.specs.declared.judging.Verdict.TheVariants as verdict
use Rattle.mqb_orders.specs.declared.rows.InRow.{InRow}
use Rattle.mqb_packet.specs.declared.packet.UserPacket.{UserPacket}
use Rattle.mqb_history.specs.Decided.{RiseStrictly, decided_in, decisions, is_in_channel, position_in}
use Rattle.mqb_history.specs.Made.{IsMade, IsNext}
use Rattle.mqb_history.proofs.Inside.{DecidesNothing, applied_ins, decided_ins}
use Rattle.mqb_history.proofs.Knowing.{counted, none_below}
use Rattle.mqb_history.proofs.Names.{same_guid_is, same_guid_refl, same_name_is, same_name_refl}
use Rattle.mqb_history.proofs.Written.{IsByRecords, always_by_records}
use Rattle.mqb_history.specs.Laws.{AlwaysDecidedInOrder}
use Rattle.mqb_model.specs.state.State.{empty}
use Rattle.mqb_base.specs.declared.ids.Identity.{Identity}
use Rattle.std.specs.List.{cons_option}
use Rattle.std.specs.Prelude.{fold, map}
use Rattle.mqb_history.proofs.Lists.{all_append, append_nothing, join_and, split_and, true_not_false}

-- Rows.

-- the first row that passes is the one that is found
pub first_is_found : {X : Type 0} (p : X → Bool) (xs : List X) → first_where p xs ≡ find p xs
first_is_found p [] = refl
first_is_found p (x ∷ xs) = at (p x) (first_is_found p xs)
  where
    behind : (b : Bool) → nat_lt (prefix_len (λ x. not (p x)) xs) (length xs) ≡ b
        → option_and_then (slice_get (x ∷ xs)) (cond b (Some (1 + prefix_len (λ x. not (p x)) xs)) None)
        ≡ option_and_then (slice_get xs) (cond b (Some (prefix_len (λ x. not (p x)) xs)) None)
    behind true e = ap (slice_get (x ∷ xs)) (let f : 1 + prefix_len (λ x. not (p x)) xs ≡ suc (prefix_len (λ x. not (p x)) xs) = omega arith in f)
    behind false e = refl

    at : (b : Bool) → first_where p xs ≡ find p xs
        → option_and_then (slice_get (x ∷ xs)) (cond (nat_lt (cond (not b) (1 + prefix_len (λ x. not (p x)) xs) 0) (suc (length xs)))
        (Some (cond (not b) (1 + prefix_len (λ x. not (p x)) xs) 0)) None) ≡ cond b (Some x) (find p xs)
    at true rest = ap (λ b. option_and_then (slice_get (x ∷ xs)) (cond b (Some 0) None)) (none_below (length xs))
    at false rest = ap (λ b. option_and_then (slice_get (x ∷ xs)) (cond b (Some (1 + prefix_len (λ x. not (p x)) xs)) None)) (counted (prefix_len (λ x. not (p x)) xs) (length xs))
        ∙ behind (nat_lt (prefix_len (λ x. not (p x)) xs) (length xs)) refl ∙ rest

-- a row takes the place of the first that passes, or stands behind the others
abbrev pub put : {X : Type 0} → (X → Bool) → X → List X → List X
put p y [] = y ∷ []
put p y (x ∷ xs) = cond (p x) (y ∷ xs) (x ∷ put p y xs)

pub set_is_put : {X : Type 0} (p : X → Bool) (y : X) (xs : List X) → option_map_or (λ k. slice_set xs k y) (position p xs) (xs ++ y ∷ []) ≡ put p y xs
set_is_put p y [] = refl
set_is_put p y (x ∷ xs) = at (p x) (set_is_put p y xs)
  where
    behind : (b : Bool) → option_map_or (λ k. slice_set (x ∷ xs) k y) (cond b (Some (1 + prefix_len (λ x. not (p x)) xs)) None) (x ∷ (xs ++ y ∷ []))
        ≡ x ∷ option_map_or (λ k. slice_set xs k y) (cond b (Some (prefix_len (λ x. not (p x)) xs)) None) (xs ++ y ∷ [])
    behind true = ap (λ k. slice_set (x ∷ xs) k y) (let f : 1 + prefix_len (λ x. not (p x)) xs ≡ suc (prefix_len (λ x. not (p x)) xs) = omega arith in f)
    behind false = refl

    at : (b : Bool) → option_map_or (λ k. slice_set xs k y) (position p xs) (xs ++ y ∷ []) ≡ put p y xs
        → option_map_or (λ k. slice_set (x ∷ xs) k y) (cond (nat_lt (cond (not b) (1 + prefix_len (λ x. not (p x)) xs) 0) (suc (length xs)))
        (Some (cond (not b) (1 + prefix_len (λ x. not (p x)) xs) 0)) None) (x ∷ (xs ++ y ∷ [])) ≡ cond b (y ∷ xs) (x ∷ put p y xs)
    at true rest = ap (λ b. option_map_or (λ k. slice_set (x ∷ xs) k y) (cond b (Some 0) None) (x ∷ (xs ++ y ∷ []))) (none_below (length xs))
    at false rest = ap (λ b. option_map_or (λ k. slice_set (x ∷ xs) k y) (cond b (Some (1 + prefix_len (λ x. not (p x)) xs)) None) (x ∷ (xs ++ y ∷ [])))
        (counted (prefix_len (λ x. not (p x)) xs) (length xs)) ∙ behind (nat_lt (prefix_len (λ x. not (p x)) xs) (length xs)) ∙ ap (λ zs. x ∷ zs) rest

pub found_put : {X : Type 0} (p : X → Bool) (y : X) (xs : List X) → p y ≡ true → find p (put p y xs) ≡ Some y
found_put p y [] e = ap (λ b. cond b (Some y) None) e
found_put p y (x ∷ xs) e = at (p x) refl (found_put p y xs e)
  where
    at : (b : Bool) → p x ≡ b → find p (put p y xs) ≡ Some y → find p (cond b (y ∷ xs) (x ∷ put p y xs)) ≡ Some y
    at true f rest = ap (λ b. cond b (Some y) (find p xs)) e
    at false f rest = ap (λ b. cond b (Some x) (find p (put p y xs))) f ∙ rest

pub other_put : {X : Type 0} (p q : X → Bool) (y : X) (xs : List X) → ((x : X) → p x ≡ true → q x ≡ false) → q y ≡ false → find q (put p y xs) ≡ find q xs
other_put p q y [] apart e = ap (λ b. cond b (Some y) None) e
other_put p q y (x ∷ xs) apart e = at (p x) refl (other_put p q y xs apart e)
  where
    at : (b : Bool) → p x ≡ b → find q (put p y xs) ≡ find q xs → find q (cond b (y ∷ xs) (x ∷ put p y xs)) ≡ cond (q x) (Some x) (find q xs)
    at true f rest = ap (λ b. cond b (Some y) (find q xs)) e ∙ sym (ap (λ b. cond b (Some x) (find q xs)) (apart x f))
    at false f rest = ap (λ o. cond (q x) (Some x) o) rest

-- Positions.

-- the last one
abbrev pub last_of : List Position → Option Position
last_of [] = None
last_of (p ∷ []) = Some p
last_of (p ∷ q ∷ ps) = last_of (q ∷ ps)

last_append : (ps : List Position) (p : Position) → last_of (ps ++ p ∷ []) ≡ Some p
last_append [] p = refl
last_append (q ∷ []) p = refl
last_append (q ∷ r ∷ ps) p = last_append (r ∷ ps) p

-- the last of positions that rise precedes another, or there is none
abbrev LastPrecedes : Option Position → Position → Type 0
LastPrecedes None p = Unit {0}
LastPrecedes (Some q) p = precedes q p ≡ true

all_precede : (ps : List Position) (p : Position) → RiseStrictly ps → LastPrecedes (last_of ps) p → AllByRecursion (λ q. precedes q p ≡ true) ps
all_precede [] p rise h = tt
all_precede (q ∷ []) p rise h = (h, tt)
all_precede (q ∷ r ∷ ps) p rise h = let rest = all_precede (r ∷ ps) p rise.1 h in (precedes_trans q r p rise.0.0 rest.0, rest)

rise_more : (ps : List Position) (p : Position) → RiseStrictly ps → AllByRecursion (λ q. precedes q p ≡ true) ps → RiseStrictly (ps ++ p ∷ [])
rise_more [] p rise h = (tt, tt)
rise_more (q ∷ ps) p rise h = (all_append (λ r. precedes q r ≡ true) ps (p ∷ []) rise.0 (h.0, tt), rise_more ps p rise.1 h.1)

pub rises : (ps : List Position) (p : Position) → RiseStrictly ps → LastPrecedes (last_of ps) p → RiseStrictly (ps ++ p ∷ [])
rises ps p rise h = rise_more ps p rise (all_precede ps p rise h)

-- What a record decides of a channel.

pub one_more : (channel : Channel) (ws : List Written) (w : Written) → decisions channel (ws ++ w ∷ []) ≡ decisions channel ws ++ cons_option (decided_in channel w.entry) []
one_more channel [] w = refl
one_more channel (x ∷ ws) w = at (decided_in channel x.entry) (one_more channel ws w)
  where
    at : (o : Option Position) → decisions channel (ws ++ w ∷ []) ≡ decisions channel ws ++ cons_option (decided_in channel w.entry) []
        → cons_option o (decisions channel (ws ++ w ∷ [])) ≡ cons_option o (decisions channel ws) ++ cons_option (decided_in channel w.entry) []
    at None rest = rest
    at (Some p) rest = ap (λ ps. p ∷ ps) rest

-- where a row stands
abbrev pub place_of : InRow → Position
place_of row = record { sequence = row.sequence; number = row.last }

-- the row of a channel
abbrev pub row_of : Channel → List InRow → Option InRow
row_of channel ins = find (is_row_of channel.source channel.destination) ins

-- the decided positions rise, and the row is the last of them
pub record IsInOrder (channel : Channel) (ins : List InRow) (ps : List Position) : Type 0 where
  pub rise : RiseStrictly ps
  pub row : option_map place_of (row_of channel ins) ≡ last_of ps

abbrev pub AreInOrder : State → List Written → Type 0
AreInOrder s ws = (channel : Channel) → IsInOrder channel s.ins (decisions channel ws)

-- a message that is next is behind the row
above : (d : ℕ) (tx : TxHead) → verdict_after d tx ≡ verdict.Next → d < tx.number
above d tx e = at (nat_le tx.number d) refl e
  where
    more : nat_le tx.number d ≡ false → d < tx.number
    more f = grind (arith, nat_tests)

    at : (b : Bool) → nat_le tx.number d ≡ b → cond b verdict.Duplicate (cond (nat_lt d tx.previous) verdict.Gap verdict.Next) ≡ verdict.Next → d < tx.number
    at true f e = absurd (let none : ⊥ = cc in none)
    at false f e = more f

behind_row : (row : InRow) (tx : TxHead) → verdict_of (Some row) tx ≡ verdict.Next → precedes (place_of row) (position_of tx) ≡ true
behind_row row tx e = at (earlier tx.sequence row.sequence) refl (same_sequence row.sequence tx.sequence) refl e
  where
    at : (b : Bool) → earlier tx.sequence row.sequence ≡ b → (same : Bool) → same_sequence row.sequence tx.sequence ≡ same
        → cond b verdict.Stale (verdict_after (cond same row.last 0) tx) ≡ verdict.Next → precedes (place_of row) (position_of tx) ≡ true
    at true f same g e = absurd (let none : ⊥ = cc in none)
    at false f true g e = precedes_below (place_of row) (position_of tx) (same_sequence_is row.sequence tx.sequence g) (above row.last tx e)
    at false f false g e = precedes_earlier (place_of row) (position_of tx) (later_else row.sequence tx.sequence f g)

behind_last : (o : Option InRow) (last : Option Position) (tx : TxHead) → option_map place_of o ≡ last → verdict_of o tx ≡ verdict.Next → LastPrecedes last (position_of tx)
behind_last None last tx e v = subst (λ p. LastPrecedes p (position_of tx)) e tt
behind_last (Some row) last tx e v = subst (λ p. LastPrecedes p (position_of tx)) e (behind_row row tx v)

-- the channel of a message
abbrev pub channel_of : Message → Channel
channel_of m = record { source = m.id.qm; destination = m.destination }

pub in_its_channel : (channel : Channel) (m : Message) → is_in_channel channel m ≡ true → channel_of m ≡ channel
in_its_channel channel m e = let both = split_and (same_guid m.id.qm channel.source) (same_name m.destination channel.destination) e in
    ap (λ g. record { source = g; destination = m.destination }) (same_guid_is m.id.qm channel.source both.0)
    ∙ ap (λ d. record { source = channel.source; destination = d }) (same_name_is m.destination channel.destination both.1)

-- no row is of two channels
pub of_one : (channel : Channel) (m : Message) → is_in_channel channel m ≡ false → (row : InRow) → is_row_of m.id.qm m.destination row ≡ true
    → is_row_of channel.source channel.destination row ≡ false
of_one channel m apart row here = at (is_row_of channel.source channel.destination row) refl
  where
    mine : (same_guid row.source m.id.qm ≡ true) × (same_name row.destination m.destination ≡ true)
    mine = split_and (same_guid row.source m.id.qm) (same_name row.destination m.destination) here

    at : (b : Bool) → is_row_of channel.source channel.destination row ≡ b → b ≡ false
    at true e = let both = split_and (same_guid row.source channel.source) (same_name row.destination channel.destination) e in
        absurd (true_not_false (is_in_channel channel m)
        (subst (λ g. (same_guid g channel.source && same_name m.destination channel.destination) ≡ true) (same_guid_is row.source m.id.qm mine.0)
        (subst (λ d. (same_guid row.source channel.source && same_name d channel.destination) ≡ true) (same_name_is row.destination m.destination mine.1) e)) apart)
    at false e = refl

decided_keeps : (s : State) (now : ℕ) (numbers : List ℕ) (p : UserPacket) (channel : Channel) (ps : List Position) → IsNext s.ins p → IsInOrder channel s.ins ps
    → IsInOrder channel (apply s (entry.Arrived now numbers (entry.Decided p))).ins (ps ++ cons_option (position_in channel p.message p.tx) [])
decided_keeps s now numbers p channel ps next h = subst (λ ins. IsInOrder channel ins (ps ++ cons_option (position_in channel p.message p.tx) [])) (sym rows)
    (subst (λ o. IsInOrder channel (put here row s.ins) (ps ++ cons_option (position_in channel p.message o) [])) (sym next.there) (at (is_in_channel channel p.message) refl))
  where
    here : InRow → Bool
    here = is_row_of p.message.id.qm p.message.destination

    row : InRow
    row = decided_row p.message next.head

    rows : (apply s (entry.Arrived now numbers (entry.Decided p))).ins ≡ put here row s.ins
    rows = decided_ins s now numbers p next.head next.there ∙ set_is_put here row s.ins

    itself : here row ≡ true
    itself = join_and (same_guid p.message.id.qm p.message.id.qm) (same_name p.message.destination p.message.destination)
        (same_guid_refl p.message.id.qm) (same_name_refl p.message.destination)

    of_channel : IsInOrder (channel_of p.message) s.ins ps → IsInOrder (channel_of p.message) (put here row s.ins) (ps ++ position_of next.head ∷ [])
    of_channel h = record {
      rise = rises ps (position_of next.head) h.rise (behind_last (find here s.ins) (last_of ps) next.head h.row
          (ap (λ o. verdict_of o next.head) (sym (first_is_found here s.ins)) ∙ next.next));
      row = ap (λ o. option_map place_of o) (found_put here row s.ins itself) ∙ sym (last_append ps (position_of next.head));
    }

    at : (b : Bool) → is_in_channel channel p.message ≡ b
        → IsInOrder channel (put here row s.ins) (ps ++ cons_option (cond b (Some (position_of next.head)) None) [])
    at true e = let same = in_its_channel channel p.message e in
        subst (λ c. IsInOrder c (put here row s.ins) (ps ++ position_of next.head ∷ [])) same (of_channel (subst (λ c. IsInOrder c s.ins ps) (sym same) h))
    at false e = subst (IsInOrder channel (put here row s.ins)) (sym (append_nothing ps)) (record {
      rise = h.rise;
      row = ap (λ o. option_map place_of o) (other_put here (is_row_of channel.source channel.destination) row s.ins (of_one channel p.message e) e) ∙ h.row;
    })

-- a record that decides nothing
quiet_keeps : (s : State) (r : Record) (channel : Channel) (ps : List Position) → DecidesNothing r → decided_in channel r ≡ None → IsInOrder channel s.ins ps
    → IsInOrder channel (apply s r).ins (ps ++ cons_option (decided_in channel r) [])
quiet_keeps s r channel ps nothing none h = subst (λ o. IsInOrder channel (apply s r).ins (ps ++ cons_option o [])) (sym none)
    (subst (IsInOrder channel (apply s r).ins) (sym (append_nothing ps)) (subst (λ ins. IsInOrder channel ins ps) (sym (applied_ins s r nothing)) h))

record_keeps : (s : State) (r : Record) (channel : Channel) (ps : List Position) → IsMade s r → IsInOrder channel s.ins ps
    → IsInOrder channel (apply s r).ins (ps ++ cons_option (decided_in channel r) [])
record_keeps s (entry.Peer peer) channel ps made h = absurd made
record_keeps s (entry.Arrived now numbers (entry.Decided p)) channel ps made h = decided_keeps s now numbers p channel ps made h
record_keeps s r channel ps made h = quiet_keeps s r channel ps tt refl h

-- The law.

pub joined_ins : (s : State) (peers : List Identity) → (fold apply s (map (λ peer. entry.Peer peer) peers)).ins ≡ s.ins
joined_ins s [] = refl
joined_ins s (p ∷ ps) = joined_ins (apply s (entry.Peer p)) ps

pub in_order_by_records : IsByRecords AreInOrder
in_order_by_records = record {
  starts = λ own peers channel. record { rise = tt; row = ap (λ ins. option_map place_of (row_of channel ins)) (joined_ins (empty own) peers) };
  quiet = λ a b ws same h channel. subst (λ ins. IsInOrder channel ins (decisions channel ws)) (sym same.ins) (h channel);
  grows = λ i s r ws made h channel. subst (IsInOrder channel (apply s r).ins) (sym (one_more channel ws (record { by = i; before = s; entry = r })))
      (record_keeps s r channel (decisions channel ws) made (h channel));
}

pub always_decided_in_order : AlwaysDecidedInOrder
always_decided_in_order known ms apart run kept = λ i channel. (always_by_records AreInOrder in_order_by_records known ms apart run kept i channel).rise
