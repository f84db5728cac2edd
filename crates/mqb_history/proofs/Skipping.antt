-- A manager skips none of a sequence: the previous number that a decided message names is at most the last decided one, and what stands between expired.
use Rattle.std.proofs.Common.{refl, ap, sym, subst, ◌∙◌, arith, inl, inr}
use Rattle.std.proofs.lemmas.Bool.Decides.{nat_tests}
use Rattle.std.proofs.lemmas.List.{append_assoc}
use Rattle.std.specs.List.{cons_option}
use Rattle.std.specs.Prelude.{[], ◌++◌, ◌<◌, ◌==◌, ◌∷◌, ◌≡◌, ◌≤◌, ◌⊎◌, Bool, List, None, Option, Some, cond, false, find, nat_le, nat_lt, option_map, true, ℕ}
use Rattle.mqb_base.specs.Same.{same_guid, same_name}
use Rattle.mqb_base.specs.Sequences.{earlier, same_sequence}
use Rattle.mqb_base.specs.declared.heads.TxHead.{TxHead}
use Rattle.mqb_base.specs.declared.ids.SequenceId.{SequenceId}
use Rattle.mqb_exactly_once.specs.Words.{In, position_of}
use Rattle.mqb_exactly_once.specs.World.{Channel, Position}
use Rattle.mqb_exactly_once.proofs.Positions.{same_sequence_is}
use Rattle.mqb_model.specs.records.Record.{Record}
use Rattle.mqb_model.specs.records.Record as entry
use Rattle.mqb_model.specs.state.Rows.{is_row_of}
use Rattle.mqb_model.specs.state.State.{State}
use Rattle.mqb_network.specs.Courses.{Course, Written}
use Rattle.mqb_network.specs.Doubts.{settled}
use Rattle.mqb_network.specs.Runs.{after_run}
use Rattle.mqb_orders.specs.Judging.{verdict_after, verdict_of}
use Rattle.mqb_orders.specs.declared.judging.Verdict.TheVariants as verdict
use Rattle.mqb_orders.specs.declared.rows.InRow.{InRow}
use Rattle.mqb_packet.specs.declared.packet.UserPacket.{UserPacket}
use Rattle.mqb_history.specs.Carried.{AreDecidedTruly, ComesFromItsSource, IsCommittedBy}
use Rattle.mqb_history.specs.Decided.{decided_in, decisions, is_in_channel, position_in, written_of}
use Rattle.mqb_history.specs.Laws.{AlwaysUnskipped}
use Rattle.mqb_history.specs.Made.{IsMade, IsNext, row_heard}
use Rattle.mqb_history.specs.Skipped.{AreUnskipped, HasExpiredAt}
use Rattle.mqb_history.proofs.Carrying.{always_decided_truly, grown}
use Rattle.mqb_history.proofs.Committing.{in_append, in_split}
use Rattle.mqb_history.proofs.Deciding.{AreInOrder, IsInOrder, first_is_found, in_its_channel, in_order_by_records, last_of, one_more, place_of, row_of}
use Rattle.mqb_history.proofs.Lists.{append_nothing, none_some, some_is, split_and}
use Rattle.mqb_history.proofs.Names.{same_guid_is}
use Rattle.mqb_history.proofs.Outside.{filtered_in}
use Rattle.mqb_history.proofs.Written.{IsByRecords, always_by_records}

-- the previous number that a header names is 0, or no more than one that was decided of its sequence
abbrev FollowsOn : List Position → TxHead → Type 0
FollowsOn ps tx = (tx.previous ≤ 0) ⊎ ((m : ℕ) × In (record { sequence = tx.sequence; number = m }) ps × (tx.previous ≤ m))

not_beyond : (d : ℕ) (tx : TxHead) → verdict_after d tx ≡ verdict.Next → tx.previous ≤ d
not_beyond d tx e = at (nat_le tx.number d) (nat_lt d tx.previous) refl e
  where
    low : nat_lt d tx.previous ≡ false → tx.previous ≤ d
    low f = grind (arith, nat_tests)

    at : (a b : Bool) → nat_lt d tx.previous ≡ b → cond a verdict.Duplicate (cond b verdict.Gap verdict.Next) ≡ verdict.Next → tx.previous ≤ d
    at true b f e = absurd (let none : ⊥ = cc in none)
    at false true f e = absurd (let none : ⊥ = cc in none)
    at false false f e = low f

in_last : (ps : List Position) (p : Position) → last_of ps ≡ Some p → In p ps
in_last [] p e = absurd (none_some e)
in_last (q ∷ []) p e = inl (some_is q p e)
in_last (q ∷ r ∷ ps) p e = inr (in_last (r ∷ ps) p e)

row_follows : (o : Option InRow) (ps : List Position) (tx : TxHead) → option_map place_of o ≡ last_of ps → verdict_of o tx ≡ verdict.Next → FollowsOn ps tx
row_follows None ps tx last v = inl (not_beyond 0 tx v)
row_follows (Some row) ps tx last v = at (earlier tx.sequence row.sequence) (same_sequence row.sequence tx.sequence) refl v
  where
    own : row.sequence ≡ tx.sequence → In (record { sequence = tx.sequence; number = row.last }) ps
    own e = subst (λ q. In (record { sequence = q; number = row.last }) ps) e (in_last ps (place_of row) (sym last))

    at : (a b : Bool) → same_sequence row.sequence tx.sequence ≡ b → cond a verdict.Stale (verdict_after (cond b row.last 0) tx) ≡ verdict.Next → FollowsOn ps tx
    at true b f v = absurd (let none : ⊥ = cc in none)
    at false true f v = inr (row.last, own (same_sequence_is row.sequence tx.sequence f), not_beyond row.last tx v)
    at false false f v = inl (not_beyond 0 tx v)

-- Records.

-- what a record decides of a channel follows on
abbrev IsStep : Channel → List Position → Written → Type 0
IsStep channel ps w = (now : ℕ) (numbers : List ℕ) (p : UserPacket) (tx : TxHead) → w.entry ≡ entry.Arrived now numbers (entry.Decided p) → p.tx ≡ Some tx
    → is_in_channel channel p.message ≡ true → FollowsOn ps tx

-- what each of these records decides follows on what those before it decided
abbrev AreSteps : Channel → List Written → List Written → Type 0
AreSteps channel before [] = Unit {0}
AreSteps channel before (w ∷ ws) = IsStep channel (decisions channel before) w × AreSteps channel (before ++ w ∷ []) ws

steps_more : (channel : Channel) (before ws : List Written) (w : Written) → AreSteps channel before ws → IsStep channel (decisions channel (before ++ ws)) w
    → AreSteps channel before (ws ++ w ∷ [])
steps_more channel before [] w h new = (subst (λ xs. IsStep channel (decisions channel xs) w) (append_nothing before) new, tt)
steps_more channel before (x ∷ ws) w h new = (
  h.0,
  steps_more channel (before ++ x ∷ []) ws w h.1
      (subst (λ xs. IsStep channel (decisions channel xs) w) (sym (append_assoc before (x ∷ []) ws)) new),
)

next_follows : (channel : Channel) (s : State) (p : UserPacket) (tx : TxHead) (ps : List Position) → IsInOrder channel s.ins ps → IsNext s.ins p → p.tx ≡ Some tx
    → is_in_channel channel p.message ≡ true → FollowsOn ps tx
next_follows channel s p tx ps order next there inside = row_follows (row_of channel s.ins) ps tx order.row
    (ap (λ (c : Channel). verdict_of (find (is_row_of c.source c.destination) s.ins) tx) (sym (in_its_channel channel p.message inside))
    ∙ ap (λ o. verdict_of o tx) (sym (first_is_found (is_row_of p.message.id.qm p.message.destination) s.ins))
    ∙ ap (verdict_of (row_heard s.ins p.message)) (some_is tx next.head (sym there ∙ next.there)) ∙ next.next)

made_step : (channel : Channel) (i : ℕ) (s : State) (r : Record) (ps : List Position) → IsInOrder channel s.ins ps → IsMade s r
    → IsStep channel ps (record { by = i; before = s; entry = r })
made_step channel i s r ps order made now numbers p tx e there inside = next_follows channel s p tx ps order (subst (IsMade s) e made) there inside

abbrev AreFollowing : State → List Written → Type 0
AreFollowing s ws = AreInOrder s ws × ((channel : Channel) → AreSteps channel [] ws)

following_by_records : IsByRecords AreFollowing
following_by_records = record {
  starts = λ own peers. (in_order_by_records.starts own peers, λ channel. tt);
  quiet = λ a b ws same h. (in_order_by_records.quiet a b ws same h.0, h.1);
  grows = λ i s r ws made h. (
    in_order_by_records.grows i s r ws made h.0,
    λ channel. steps_more channel [] ws (record { by = i; before = s; entry = r }) (h.1 channel) (made_step channel i s r (decisions channel ws) (h.0 channel) made),
  );
}

-- Sources.

-- what a record decides comes from its source
abbrev pub IsSourced : Course → Written → Type 0
IsSourced c w = (now : ℕ) (numbers : List ℕ) (p : UserPacket) (tx : TxHead) → w.entry ≡ entry.Arrived now numbers (entry.Decided p) → p.tx ≡ Some tx
    → ComesFromItsSource c c.written p tx

pub record Split (ws : List Written) (w : Written) : Type 0 where
  pub before : List Written
  pub behind : List Written
  pub all : ws ≡ before ++ w ∷ behind

pub split_at : (ws : List Written) (w : Written) → In w ws → Split ws w
split_at [] w i = absurd i
split_at (x ∷ ws) w (inl e) = record { before = []; behind = ws; all = ap (λ y. y ∷ ws) e }
split_at (x ∷ ws) w (inr i) = let s = split_at ws w i in record { before = x ∷ s.before; behind = s.behind; all = ap (λ ys. x ∷ ys) s.all }

pub sourced : (c : Course) → AreDecidedTruly c → (w : Written) → In w c.written → IsSourced c w
sourced c truly w i = λ now numbers p tx e there. let s = split_at c.written w i in let h = truly s.before s.behind w now numbers p tx s.all e there in record {
  source = h.source;
  own = h.own;
  moment = h.moment;
  committed = subst (λ ws. IsCommittedBy h.source ws h.moment p tx) (sym s.all) (grown h.source s.before (w ∷ s.behind) h.moment p tx h.committed);
}

-- None is skipped.

-- a record decides a position
pub record Decides (channel : Channel) (r : Record) (q : Position) : Type 0 where
  pub now : ℕ
  pub numbers : List ℕ
  pub packet : UserPacket
  pub head : TxHead
  pub entry : r ≡ entry.Arrived now numbers (entry.Decided packet)
  pub there : packet.tx ≡ Some head
  pub inside : is_in_channel channel packet.message ≡ true
  pub position : position_of head ≡ q

decides_packet : (channel : Channel) (now : ℕ) (numbers : List ℕ) (p : UserPacket) (q : Position) (o : Option TxHead) → p.tx ≡ o → position_in channel p.message o ≡ Some q
    → Decides channel (entry.Arrived now numbers (entry.Decided p)) q
decides_packet channel now numbers p q None there e = absurd (none_some e)
decides_packet channel now numbers p q (Some tx) there e = at (is_in_channel channel p.message) refl e
  where
    at : (b : Bool) → is_in_channel channel p.message ≡ b → cond b (Some (position_of tx)) None ≡ Some q → Decides channel (entry.Arrived now numbers (entry.Decided p)) q
    at true f e = record { now = now; numbers = numbers; packet = p; head = tx; entry = refl; there = there; inside = f; position = some_is (position_of tx) q e }
    at false f e = absurd (none_some e)

pub decides : (channel : Channel) (r : Record) (q : Position) → decided_in channel r ≡ Some q → Decides channel r q
decides channel (entry.Arrived now numbers (entry.Decided p)) q e = decides_packet channel now numbers p q p.tx refl e
decides channel r q e = absurd (none_some e)

-- a number of a sequence was decided, or expired at the source
abbrev IsSettledIn : Course → Channel → List Position → SequenceId → ℕ → Type 0
IsSettledIn c channel ps q n = In (record { sequence = q; number = n }) ps ⊎ HasExpiredAt c channel.source (record { sequence = q; number = n })

abbrev HaveNoGap : Course → Channel → List Position → Type 0
HaveNoGap c channel ps = (p : Position) (n : ℕ) → In p ps → 0 < n → n < p.number → IsSettledIn c channel ps p.sequence n

settled_more : (c : Course) (channel : Channel) (ps more : List Position) (q : SequenceId) (n : ℕ) → IsSettledIn c channel ps q n → IsSettledIn c channel (ps ++ more) q n
settled_more c channel ps more q n (inl i) = inl (in_append ps more (record { sequence = q; number = n }) i)
settled_more c channel ps more q n (inr e) = inr e

-- what stands below a message that follows on
below : (c : Course) (channel : Channel) (ps : List Position) (p : UserPacket) (tx : TxHead) → HaveNoGap c channel ps → FollowsOn ps tx → ComesFromItsSource c c.written p tx
    → is_in_channel channel p.message ≡ true → (n : ℕ) → 0 < n → n < tx.number → IsSettledIn c channel ps tx.sequence n
below c channel ps p tx gapless follows source inside n some less = at (nat_lt tx.previous n) refl
  where
    above : nat_lt tx.previous n ≡ true → tx.previous < n
    above e = grind (arith, nat_tests)

    under : nat_lt tx.previous n ≡ false → n ≤ tx.previous
    under e = grind (arith, nat_tests)

    strictly : (m : ℕ) → nat_lt n m ≡ true → n < m
    strictly m e = grind (arith, nat_tests)

    equal : (m : ℕ) → n ≤ m → nat_lt n m ≡ false → m ≡ n
    equal m le e = grind (arith, nat_tests)

    decided : (m : ℕ) → In (record { sequence = tx.sequence; number = m }) ps → n ≤ m → (b : Bool) → nat_lt n m ≡ b → IsSettledIn c channel ps tx.sequence n
    decided m i le true e = gapless (record { sequence = tx.sequence; number = m }) n i some (strictly m e)
    decided m i le false e = inl (subst (λ k. In (record { sequence = tx.sequence; number = k }) ps) (equal m le e) i)

    by : FollowsOn ps tx → n ≤ tx.previous → IsSettledIn c channel ps tx.sequence n
    by (inl none) le = absurd (omega (arith, none, le, some))
    by (inr f) le = let more = f.2 in decided f.0 f.1 (omega (arith, le, more)) (nat_lt n f.0) refl

    at : (b : Bool) → nat_lt tx.previous n ≡ b → IsSettledIn c channel ps tx.sequence n
    at true e = inr (record {
      manager = source.source;
      own = source.own ∙ same_guid_is p.message.id.qm channel.source (split_and (same_guid p.message.id.qm channel.source) (same_name p.message.destination channel.destination) inside).0;
      told = source.committed.between n (above e) less;
    })
    at false e = by follows (under e)

-- one record more
one_gapless : (c : Course) (channel : Channel) (before : List Written) (w : Written) → HaveNoGap c channel (decisions channel before) → IsStep channel (decisions channel before) w → IsSourced c w
    → HaveNoGap c channel (decisions channel (before ++ w ∷ []))
one_gapless c channel before w gapless step source = subst (HaveNoGap c channel) (sym (one_more channel before w)) (λ p n i some less. by p n some less (in_split ps new p i))
  where
    ps : List Position
    ps = decisions channel before

    new : List Position
    new = cons_option (decided_in channel w.entry) []

    in_new : (o : Option Position) (p : Position) → In p (cons_option o []) → o ≡ Some p
    in_new None p i = absurd i
    in_new (Some q) p (inl e) = ap (λ x. Some x) e
    in_new (Some q) p (inr i) = absurd i

    decided : (p : Position) (n : ℕ) → 0 < n → n < p.number → Decides channel w.entry p → IsSettledIn c channel ps p.sequence n
    decided p n some less d = subst (λ (q : Position). IsSettledIn c channel ps q.sequence n) d.position
        (below c channel ps d.packet d.head gapless (step d.now d.numbers d.packet d.head d.entry d.there d.inside) (source d.now d.numbers d.packet d.head d.entry d.there) d.inside n some
        (let same = ap (λ (q : Position). q.number) d.position in omega (arith, less, same)))

    by : (p : Position) (n : ℕ) → 0 < n → n < p.number → In p ps ⊎ In p new → IsSettledIn c channel (ps ++ new) p.sequence n
    by p n some less (inl i) = settled_more c channel ps new p.sequence n (gapless p n i some less)
    by p n some less (inr i) = settled_more c channel ps new p.sequence n (decided p n some less (decides channel w.entry p (in_new (decided_in channel w.entry) p i)))

all_gapless : (c : Course) (channel : Channel) (before ws : List Written) → HaveNoGap c channel (decisions channel before) → AreSteps channel before ws → ((w : Written) → In w ws → IsSourced c w)
    → HaveNoGap c channel (decisions channel (before ++ ws))
all_gapless c channel before [] gapless steps source = subst (λ xs. HaveNoGap c channel (decisions channel xs)) (sym (append_nothing before)) gapless
all_gapless c channel before (w ∷ ws) gapless steps source = subst (λ xs. HaveNoGap c channel (decisions channel xs)) (append_assoc before (w ∷ []) ws)
    (all_gapless c channel (before ++ w ∷ []) ws (one_gapless c channel before w gapless steps.0 (source w (inl refl))) steps.1 (λ x i. source x (inr i)))

unskipped : (c : Course) → AreDecidedTruly c → ((j : ℕ) (channel : Channel) → AreSteps channel [] (written_of j c.written)) → AreUnskipped c
unskipped c truly steps j channel p n i some less = (all_gapless c channel [] (written_of j c.written) (λ q k inside. absurd inside) (steps j channel)
    (λ w inside. sourced c truly w (filtered_in (λ x. x.by == j) c.written w inside))) p n i some less

pub always_unskipped : AlwaysUnskipped
always_unskipped known ms apart run kept = unskipped (settled kept (after_run known ms)) (always_decided_truly known ms apart run kept)
    (λ j channel. (always_by_records AreFollowing following_by_records known ms apart run kept j).1 channel)
