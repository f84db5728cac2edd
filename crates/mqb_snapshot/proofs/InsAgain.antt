-- The incoming rows and the counters of a state are read as they are spelled.
use Rattle.std.proofs.Common.{◌≡◌, ◌≤◌, ◌<◌, ◌+◌, ◌^◌, ℕ, Bool, true, false, List, [], ◌∷◌, ◌++◌, length, Ok, refl, ap, ap₂, ◌∙◌, arith}
use Rattle.std.proofs.lemmas.Bool.{and_from, and_parts}
use Rattle.std.proofs.lemmas.Bool.Decides.{nat_tests}
use Rattle.std.specs.List.{AllByRecursion, list_all}
use Rattle.std.specs.Prelude.{◌&&◌, ◌-◌, All, AllPairs, IsTrue, is_none, nat_le, nat_lt, position, slice_get}
use Rattle.mqb_base.specs.QueueNames.{names_queue}
use Rattle.mqb_base.specs.declared.ids.Guid.{Guid}
use Rattle.mqb_base.specs.declared.message.Message.{Message}
use Rattle.mqb_base.specs.declared.queue_names.QueueName.{QueueName}
use Rattle.mqb_entries.specs.lemmas.FieldFormats.{guid_format}
use Rattle.mqb_entries.specs.Fields.{guid_at, u32_at}
use Rattle.mqb_entries.specs.Spelled.{spelled_guid}
use Rattle.mqb_fields.specs.Reading.{◌>>=◌}
use Rattle.mqb_model.specs.declared.limits.TheConstants.{MAX_NUMBER, MAX_ORDINAL, MAX_ROLL}
use Rattle.mqb_model.specs.records.Applying.{is_roll}
use Rattle.mqb_model.specs.state.Rows.{is_row_of}
use Rattle.mqb_model.specs.state.State.{State}
use Rattle.mqb_orders.specs.Rows.{Row}
use Rattle.mqb_orders.specs.declared.rows.InRow.{InRow}
use Rattle.mqb_snapshot.proofs.Backs.{IsReadAs, Joins, list_joined_read, of_format, same_text, seen_read, tested_read, then_read}
use Rattle.mqb_snapshot.proofs.FieldsAgain.{destination_read, three_parts, within_read, word_read}
use Rattle.mqb_snapshot.proofs.Members.{all_mapped, all_weaker, at_index, before_here, here, no_position}
use Rattle.mqb_snapshot.proofs.OutsAgain.{above_last, less, not_more}
use Rattle.mqb_snapshot.proofs.OwnAgain.{numbers_of}
use Rattle.mqb_snapshot.proofs.PeersAgain.{five_parts}
use Rattle.mqb_snapshot.proofs.Turned.{guid_turned, name_turned}
use Rattle.mqb_snapshot.specs.Fields.{destination_at, within_at}
use Rattle.mqb_snapshot.specs.Parts.{Parts, list_joined, tested}
use Rattle.mqb_snapshot.specs.Reading.{counters_joined, is_next, is_next_ordinal, source_at, source_joined}
use Rattle.mqb_snapshot.specs.Snapshot.{spelled_counters}
use Rattle.mqb_snapshot.specs.Spelled.{counted, spelled_destination, spelled_in, word}
use Rattle.mqb_snapshot.specs.Values.{IsIn}

-- Incoming rows.

-- an incoming row that can be read
abbrev pub IsHeard : InRow → Type 0
IsHeard row = IsIn row × IsTrue (names_queue row.destination)

abbrev made_row : Guid → QueueName → ℕ → ℕ → ℕ → InRow
made_row source destination ordinal stamp last = record { source = source; destination = destination; sequence = record { ordinal = ordinal; stamp = stamp }; last = last }

source_read : (s : State) (row : InRow) → IsHeard row → is_none (position (is_row_of row.source row.destination) s.ins) ≡ true → IsReadAs (source_at s) (spelled_in row) row
unfolding source_at
source_read s row is new =
    let value = is.0 in
    let five = seen_read {Y = InRow} u32_at (made_row row.source row.destination row.sequence.ordinal row.sequence.stamp) (word row.last) row.last (word_read row.last value.last) in
    let four = then_read {Y = InRow} u32_at (λ stamp r. u32_at r >>= λ last. Ok (made_row row.source row.destination row.sequence.ordinal stamp last.0, last.1))
    (word row.sequence.stamp) (word row.last) row.sequence.stamp row (word_read row.sequence.stamp value.stamp) five in
    let three = then_read {Y = InRow} u32_at (λ ordinal r. u32_at r >>= λ stamp. u32_at stamp.1 >>= λ last. Ok (made_row row.source row.destination ordinal stamp.0 last.0, last.1))
    (word row.sequence.ordinal) (word row.sequence.stamp ++ word row.last) row.sequence.ordinal row (word_read row.sequence.ordinal value.ordinal) four in
    let two = then_read {Y = InRow} (tested (λ name. is_none (position (is_row_of row.source name) s.ins)) destination_at)
    (λ destination r. u32_at r >>= λ ordinal. u32_at ordinal.1 >>= λ stamp. u32_at stamp.1 >>= λ last. Ok (made_row row.source destination ordinal.0 stamp.0 last.0, last.1))
    (spelled_destination row.destination) (word row.sequence.ordinal ++ (word row.sequence.stamp ++ word row.last)) row.destination row
    (tested_read (λ name. is_none (position (is_row_of row.source name) s.ins)) destination_at (spelled_destination row.destination) row.destination
    (destination_read row.destination value.destination is.1) new) three in
    same_text (source_at s) _ (spelled_in row) row (five_parts (spelled_guid row.source) (spelled_destination row.destination) (word row.sequence.ordinal) (word row.sequence.stamp) (word row.last))
    (then_read {Y = InRow} guid_at (λ source r. tested (λ name. is_none (position (is_row_of source name) s.ins)) destination_at r
    >>= λ destination. u32_at destination.1 >>= λ ordinal. u32_at ordinal.1 >>= λ stamp. u32_at stamp.1 >>= λ last. Ok (made_row source destination.0 ordinal.0 stamp.0 last.0, last.1))
    (spelled_guid row.source) (spelled_destination row.destination ++ (word row.sequence.ordinal ++ (word row.sequence.stamp ++ word row.last))) row.source row
    (of_format guid_format row.source value.source.0) two)

-- parts with these incoming rows
abbrev pub ins_with : State → List ℕ → List InRow → Parts
ins_with s numbers rows = record { state = record s { ins = rows }; numbers = numbers }

turned : (a b : InRow) → is_row_of a.source a.destination b ≡ false → is_row_of b.source b.destination a ≡ false
turned a b e = ap₂ (λ x y. x && y) (guid_turned a.source b.source) (name_turned a.destination b.destination) ∙ e

row_joins : (s : State) (numbers : List ℕ) (rows : List InRow) → All IsHeard rows → AllPairs (λ a b. is_row_of a.source a.destination b ≡ false) rows
    → Joins source_joined spelled_in (λ before behind. ins_with s numbers before) rows
unfolding source_joined
row_joins s numbers rows are differ before row behind e = seen_read {Y = Parts} (source_at (ins_with s numbers before).state) (λ row. ins_with s numbers (before ++ row ∷ [])) (spelled_in row) row
    (source_read (ins_with s numbers before).state row (here IsHeard rows before row behind e are) (ap is_none (no_position (is_row_of row.source row.destination) before
    (all_weaker (λ y. is_row_of y.source y.destination row ≡ false) (λ y. is_row_of row.source row.destination y ≡ false) (λ y f. turned y row f) before
    (before_here (λ a b. is_row_of a.source a.destination b ≡ false) rows before row behind e differ)))))

pub ins_read : (s : State) (numbers : List ℕ) (rows : List InRow) → length rows < 2 ^ 32 → All IsHeard rows → AllPairs (λ a b. is_row_of a.source a.destination b ≡ false) rows
    → IsReadAs (list_joined source_joined (ins_with s numbers [])) (counted spelled_in rows) (ins_with s numbers rows)
ins_read s numbers rows few are differ = list_joined_read source_joined spelled_in (λ before behind. ins_with s numbers before) rows few (row_joins s numbers rows are differ)

-- Counters.

all_pass : {X : Type 0} (p : X → Bool) (xs : List X) → AllByRecursion (λ x. p x ≡ true) xs → list_all p xs ≡ true
all_pass p [] h = refl
all_pass p (x ∷ xs) h = and_from (p x) (list_all p xs) h.0 (all_pass p xs h.1)

-- what the counters of a state are, beside the numbers of own messages and the rows
pub record AreCounters (given : State) (messages : List Message) (outs : List Row) : Type 0 where
  pub next_number : (1 ≤ given.next_number) × (given.next_number ≤ MAX_NUMBER + 1)
  pub next_ordinal : (1 ≤ given.next_ordinal) × (given.next_ordinal ≤ MAX_ORDINAL + 1)
  pub roll : is_roll given.roll ≡ true
  pub numbers : AllByRecursion (λ m. m.id.number < given.next_number) messages
  pub ordinals : AllByRecursion (λ row. row.sequence.ordinal < given.next_ordinal) outs

-- parts with the counters of a state
abbrev pub counters_with : Parts → State → Parts
counters_with p given = record p { state = record p.state { next_number = given.next_number; next_ordinal = given.next_ordinal; roll = given.roll } }

abbrev made_counters : Parts → ℕ → ℕ → ℕ → Parts
made_counters p number ordinal roll = record p { state = record p.state { next_number = number; next_ordinal = ordinal; roll = roll } }

within : (low n : ℕ) → nat_le low n ≡ true → low ≤ n
within low n h = grind (arith, nat_tests)

pub counters_read : (p : Parts) (given : State) (messages : List Message) → p.numbers ≡ numbers_of messages → AreCounters given messages p.state.outs
    → IsReadAs (counters_joined p) (spelled_counters given) (counters_with p given)
unfolding counters_joined
counters_read p given messages counted is = same_text (counters_joined p) _ (spelled_counters given) (counters_with p given)
    (three_parts (word given.next_number) (word given.next_ordinal) (word given.roll))
    (then_read {Y = Parts} (tested (is_next p.numbers) u32_at) (λ number r. tested (is_next_ordinal p.state) u32_at r >>= λ ordinal. within_at 1 MAX_ROLL ordinal.1 >>= λ roll.
    Ok (made_counters p number ordinal.0 roll.0, roll.1)) (word given.next_number) (word given.next_ordinal ++ word given.roll) given.next_number (counters_with p given)
    (tested_read (is_next p.numbers) u32_at (word given.next_number) given.next_number (word_read given.next_number (omega (arith, most_number))) next)
    (then_read {Y = Parts} (tested (is_next_ordinal p.state) u32_at) (λ ordinal r. within_at 1 MAX_ROLL r >>= λ roll. Ok (made_counters p given.next_number ordinal roll.0, roll.1))
    (word given.next_ordinal) (word given.roll) given.next_ordinal (counters_with p given)
    (tested_read (is_next_ordinal p.state) u32_at (word given.next_ordinal) given.next_ordinal (word_read given.next_ordinal (omega (arith, most_ordinal))) next_ordinal)
    (seen_read {Y = Parts} (within_at 1 MAX_ROLL) (made_counters p given.next_number given.next_ordinal) (word given.roll) given.roll
    (within_read 1 MAX_ROLL given.roll (within 1 given.roll roll.0) (within given.roll MAX_ROLL roll.1) (omega arith)))))
  where
    most_number : given.next_number ≤ MAX_NUMBER + 1
    most_number = is.next_number.1

    most_ordinal : given.next_ordinal ≤ MAX_ORDINAL + 1
    most_ordinal = is.next_ordinal.1

    roll : (nat_le 1 given.roll ≡ true) × (nat_le given.roll MAX_ROLL ≡ true)
    roll = and_parts (nat_le 1 given.roll) (nat_le given.roll MAX_ROLL) is.roll

    next : is_next p.numbers given.next_number ≡ true
    next = and_from _ _ (and_from _ _ (not_more 1 given.next_number is.next_number.0) (not_more given.next_number (MAX_NUMBER + 1) most_number))
        (ap (list_all (λ n. nat_lt n given.next_number)) counted ∙ all_pass (λ n. nat_lt n given.next_number) (numbers_of messages)
        (all_mapped (λ n. nat_lt n given.next_number ≡ true) (λ m. m.id.number) messages
        (all_weaker (λ m. m.id.number < given.next_number) (λ m. nat_lt m.id.number given.next_number ≡ true) (λ m f. less m.id.number given.next_number f) messages is.numbers)))

    next_ordinal : is_next_ordinal p.state given.next_ordinal ≡ true
    next_ordinal = and_from _ _ (above_last (λ row. row.sequence.ordinal) given.next_ordinal (slice_get p.state.outs (length p.state.outs - 1))
        (let first : 1 ≤ given.next_ordinal = is.next_ordinal.0 in omega arith)
        (at_index (λ row. row.sequence.ordinal < given.next_ordinal) p.state.outs (length p.state.outs - 1) is.ordinals)) (not_more given.next_ordinal (MAX_ORDINAL + 1) most_ordinal)
