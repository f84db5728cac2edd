-- Rows are counted, and the messages that they keep.
use Rattle.std.proofs.Common.{◌≡◌, ◌<◌, ◌+◌, ◌^◌, ℕ, suc, true, List, [], ◌∷◌, ◌++◌, length, sym, ap, subst, arith}
use Rattle.std.proofs.lemmas.List.{length_push}
use Rattle.std.specs.List.{AllByRecursion}
use Rattle.mqb_orders.specs.Rows.{Row}
use Rattle.mqb_orders.specs.declared.kept.Kept.{Kept}
use Rattle.mqb_orders.specs.declared.rows.InRow.{InRow}
use Rattle.mqb_packet.specs.declared.packet.Headers.TheVariants.{TxAndSession}
use Rattle.mqb_snapshot.specs.Parts.{Parts, list_joined}
use Rattle.mqb_snapshot.specs.Reading.{keeping, kept_joined, may_keep, row_joined, source_joined, with_row}
use Rattle.mqb_snapshot.specs.Values.{IsCounted}
use Rattle.mqb_snapshot.proofs.FieldsRead.{flag_reads, word_reads}
use Rattle.mqb_snapshot.proofs.Filled.{UpTo, all_done, filled_more, one_added}
use Rattle.mqb_snapshot.proofs.InsSound.{source_reads}
use Rattle.mqb_snapshot.proofs.MessagesRead.{own_reads}
use Rattle.mqb_snapshot.proofs.OutsSound.{head_reads, keeping_more}
use Rattle.mqb_snapshot.proofs.PlacesFilled.{HasFew, IsFilled, IsFullQueue}
use Rattle.mqb_snapshot.proofs.PlainFilled.{IsFullPlain}
use Rattle.mqb_snapshot.proofs.Readers.{Reads, behind, finished, list_reads, step, tested_reads, weaker}

-- parts of which the places and the plain lists are filled, and the rows so
abbrev pub RowsFilled : (List Row → Type 0) → (List InRow → Type 0) → Parts → Type 0
RowsFilled O I p = IsFilled (AllByRecursion IsFullQueue) HasFew HasFew HasFew (AllByRecursion IsFullPlain) O I p

with_rows_filled : (O N : List Row → Type 0) (I J : List InRow → Type 0) (p : Parts) (numbers : List ℕ) (outs : List Row) (ins : List InRow) → RowsFilled O I p → N outs → J ins
    → RowsFilled N J (record { state = record p.state { outs = outs; ins = ins }; numbers = numbers })
with_rows_filled O N I J p numbers outs ins is one two = record {
  queues = is.queues;
  dead = is.dead;
  dead_xact = is.dead_xact;
  journal = is.journal;
  plain = is.plain;
  outs = one;
  ins = two;
  express = is.express;
}

abbrev pub IsCountedRow : Row → Type 0
IsCountedRow row = IsCounted row.kept

abbrev HasKeptRoom : ℕ → Row → Type 0
HasKeptRoom n row = length row.kept + n < 2 ^ 32

-- Outgoing rows, where these are the incoming ones.

-- the row at an index keeps messages more
abbrev KeepingTo : (List InRow → Type 0) → (long : ℕ) → (Row → Type 0) → ℕ → Parts → Type 0
KeepingTo I long Open k p = RowsFilled (UpTo long IsCountedRow Open IsCountedRow k) I p

room_kept : (n : ℕ) (k : Kept) (row : Row) → HasKeptRoom (suc n) row → HasKeptRoom n (keeping k row)
room_kept n k row h = let room : length row.kept + suc n < 2 ^ 32 = h in omega (arith, room, length_push row.kept k)

kept_fills : (I : List InRow → Type 0) (long k n : ℕ) (p : Parts) → KeepingTo I long (HasKeptRoom (suc n)) k p → Reads (kept_joined k p) (KeepingTo I long (HasKeptRoom n) k)
unfolding kept_joined
kept_fills I long k n p is = record {
  gives = λ r x all e.
      behind (KeepingTo I long (HasKeptRoom n) k) (tested_reads (may_keep p.state k) word_reads) r _ x all e (λ number number_end is_number number_left number_rest.
      behind (KeepingTo I long (HasKeptRoom n) k) (tested_reads (λ flag. flag) flag_reads) number_end _ x number_left number_rest (λ transactional transactional_end is_flag transactional_left transactional_rest.
      behind (KeepingTo I long (HasKeptRoom n) k) (own_reads p TxAndSession true) transactional_end _ x transactional_left transactional_rest (λ message message_end is_message message_left message_rest.
      let kept : Kept = record { number = number; message = message } in
      finished (KeepingTo I long (HasKeptRoom n) k) (keeping_more k p kept) message_end x
      (with_rows_filled _ (UpTo long IsCountedRow (HasKeptRoom n) IsCountedRow k) I I p _ _ p.state.ins is
      (filled_more (HasKeptRoom n) (keeping kept) (room_kept n kept) k p.state.outs is.outs) is.ins) message_left message_rest)));
}

-- counted rows, and room for so many more
abbrev HasRowRoom : ℕ → List Row → Type 0
HasRowRoom n rows = AllByRecursion IsCountedRow rows × (length rows + n < 2 ^ 32)

row_fills : (I : List InRow → Type 0) (n : ℕ) (p : Parts) → RowsFilled (HasRowRoom (suc n)) I p → Reads (row_joined p) (RowsFilled (HasRowRoom n) I)
unfolding row_joined
row_fills I n p is = record {
  gives = λ r x all e.
      let room : length p.state.outs + suc n < 2 ^ 32 = (is.outs).1 in
      let head = step (head_reads p.state) r _ x all e in
      let row = head.part.0 in
      let k = length p.state.outs in
      let long = length (p.state.outs ++ row ∷ []) in
      let q : Parts = record p { state = with_row p.state row } in
      let kept = (list_reads (λ j. KeepingTo I long (HasKeptRoom j) k) (kept_fills I long k) q (λ j few. with_rows_filled _ (UpTo long IsCountedRow (HasKeptRoom j) IsCountedRow k) I I p p.numbers _ p.state.ins is
      (one_added IsCountedRow (HasKeptRoom j) IsCountedRow p.state.outs row (is.outs).0 (omega (arith, few, ap length (head.holds).none))) is.ins)).gives head.part.1 x head.bytes head.rest in
      let counted : length x.0.state.outs ≡ long = ((kept.0).outs).count in (
        with_rows_filled _ (HasRowRoom n) I I x.0 x.0.numbers x.0.state.outs x.0.state.ins kept.0
            (all_done (λ y h. let few : length y.kept + 0 < 2 ^ 32 = h in omega (arith, few)) k x.0.state.outs (kept.0).outs, omega (arith, room, counted, length_push p.state.outs row)) (kept.0).ins,
        kept.1,
      );
}

-- counted rows, whose kept messages are counted
abbrev pub AreCountedOuts : List Row → Type 0
AreCountedOuts rows = AllByRecursion IsCountedRow rows × IsCounted rows

pub rows_fill : (I : List InRow → Type 0) (p : Parts) → RowsFilled (λ rows. rows ≡ []) I p → Reads (list_joined row_joined p) (RowsFilled AreCountedOuts I)
rows_fill I p is = weaker (RowsFilled AreCountedOuts I)
    (λ q h. let room : length q.state.outs + 0 < 2 ^ 32 = (h.outs).1 in with_rows_filled _ AreCountedOuts I I q q.numbers q.state.outs q.state.ins h ((h.outs).0, omega (arith, room)) h.ins)
    (list_reads (λ n. RowsFilled (HasRowRoom n) I) (row_fills I) p
    (λ n few. with_rows_filled _ (HasRowRoom n) I I p p.numbers p.state.outs p.state.ins is (subst (HasRowRoom n) (sym is.outs) (tt, omega (arith, few))) is.ins))

-- Incoming rows.

abbrev HasInRoom : ℕ → List InRow → Type 0
HasInRoom n rows = length rows + n < 2 ^ 32

source_fills : (n : ℕ) (p : Parts) → RowsFilled AreCountedOuts (HasInRoom (suc n)) p → Reads (source_joined p) (RowsFilled AreCountedOuts (HasInRoom n))
unfolding source_joined
source_fills n p is = record {
  gives = λ r x all e.
      let room : length p.state.ins + suc n < 2 ^ 32 = is.ins in
      behind (RowsFilled AreCountedOuts (HasInRoom n)) (source_reads p.state) r _ x all e (λ row row_end is_row row_left row_rest.
      finished (RowsFilled AreCountedOuts (HasInRoom n)) (record p { state = record p.state { ins = p.state.ins ++ row ∷ [] } }) row_end x
      (with_rows_filled AreCountedOuts AreCountedOuts _ (HasInRoom n) p p.numbers p.state.outs _ is is.outs (omega (arith, room, length_push p.state.ins row))) row_left row_rest);
}

pub sources_fill : (p : Parts) → RowsFilled AreCountedOuts (λ rows. rows ≡ []) p → Reads (list_joined source_joined p) (RowsFilled AreCountedOuts IsCounted)
sources_fill p is = weaker (RowsFilled AreCountedOuts IsCounted)
    (λ q h. let room : length q.state.ins + 0 < 2 ^ 32 = h.ins in with_rows_filled AreCountedOuts AreCountedOuts _ IsCounted q q.numbers q.state.outs q.state.ins h h.outs (omega (arith, room)))
    (list_reads (λ n. RowsFilled AreCountedOuts (HasInRoom n)) source_fills p
    (λ n few. with_rows_filled AreCountedOuts AreCountedOuts _ (HasInRoom n) p p.numbers p.state.outs p.state.ins is is.outs (subst (HasInRoom n) (sym is.ins) (omega (arith, few)))))
