-- Incoming rows that join those before them.
use Rattle.std.proofs.Common.{◌≡◌, ℕ, true, false, [], ◌∷◌, ◌++◌, Option, Some, None, refl, ap₂, ◌∙◌}
use Rattle.std.proofs.lemmas.List.Elements.{recursion_from_All}
use Rattle.std.specs.List.{AllByRecursion}
use Rattle.std.specs.Prelude.{◌&&◌, IsTrue, is_none, position}
use Rattle.mqb_base.specs.QueueNames.{names_queue}
use Rattle.mqb_model.specs.state.Rows.{is_row_of}
use Rattle.mqb_model.specs.state.State.{State}
use Rattle.mqb_orders.specs.declared.rows.InRow.{InRow}
use Rattle.mqb_queue.proofs.Positions.{none_passes}
use Rattle.mqb_snapshot.proofs.Members.{all_weaker}
use Rattle.mqb_snapshot.proofs.Turned.{guid_turned, name_turned}
use Rattle.mqb_snapshot.specs.Parts.{Parts}
use Rattle.mqb_snapshot.specs.Reading.{source_at, source_joined}
use Rattle.mqb_snapshot.specs.Values.{IsIn}
use Rattle.mqb_snapshot.proofs.FieldsRead.{destination_reads, guid_reads, word_reads}
use Rattle.mqb_snapshot.proofs.Lists.{all_pushed, pairs_pushed}
use Rattle.mqb_snapshot.proofs.Readers.{Reads, behind, finished, tested_reads}
use Rattle.mqb_snapshot.proofs.Sound.{Differ, IsSound}

abbrev pub IsHeard : InRow → Type 0
IsHeard row = IsIn row × IsTrue (names_queue row.destination)

-- a row of a source and a destination that no other one has
abbrev pub IsNewSource : State → InRow → Type 0
IsNewSource s row = IsHeard row × (is_none (position (is_row_of row.source row.destination) s.ins) ≡ true)

pub source_reads : (s : State) → Reads (source_at s) (IsNewSource s)
unfolding source_at
source_reads s = record {
  gives = λ r x all e.
      behind (IsNewSource s) guid_reads r _ x all e (λ source source_end is_source source_left source_rest.
      behind (IsNewSource s) (tested_reads (λ name. is_none (position (is_row_of source name) s.ins)) destination_reads) source_end _ x source_left source_rest (λ destination destination_end is_destination destination_left destination_rest.
      behind (IsNewSource s) word_reads destination_end _ x destination_left destination_rest (λ ordinal ordinal_end is_ordinal ordinal_left ordinal_rest.
      behind (IsNewSource s) word_reads ordinal_end _ x ordinal_left ordinal_rest (λ stamp stamp_end is_stamp stamp_left stamp_rest.
      behind (IsNewSource s) word_reads stamp_end _ x stamp_left stamp_rest (λ last last_end is_last last_left last_rest.
      finished (IsNewSource s) (record {
        source = source;
        destination = destination;
        sequence = record { ordinal = ordinal; stamp = stamp };
        last = last;
      }) last_end x (
        (
          record {
            source = is_source;
            destination = is_destination.0.0;
            ordinal = is_ordinal;
            stamp = is_stamp;
            last = is_last;
          },
          is_destination.0.1,
        ),
        is_destination.1,
      ) last_left last_rest)))));
}

none_there : (o : Option ℕ) → is_none o ≡ true → o ≡ None
none_there None e = refl
none_there (Some k) e = absurd cc

turned : (a b : InRow) → is_row_of a.source a.destination b ≡ false → is_row_of b.source b.destination a ≡ false
turned a b e = ap₂ (λ x y. x && y) (guid_turned a.source b.source) (name_turned a.destination b.destination) ∙ e

differ_from : (s : State) (row : InRow) → is_none (position (is_row_of row.source row.destination) s.ins) ≡ true → AllByRecursion (λ y. Differ y row) s.ins
differ_from s row new = all_weaker (λ y. is_row_of row.source row.destination y ≡ false) (λ y. Differ y row) (λ y e. turned row y e) s.ins
    (recursion_from_All (λ y. is_row_of row.source row.destination y ≡ false) s.ins
    (none_passes (is_row_of row.source row.destination) s.ins (none_there (position (is_row_of row.source row.destination) s.ins) new)))

pub source_joins : (p : Parts) → IsSound p → Reads (source_joined p) IsSound
unfolding source_joined
source_joins p is = record {
  gives = λ r x all e.
      behind IsSound (source_reads p.state) r _ x all e (λ row row_end is_row row_left row_rest.
      finished IsSound (record p { state = record p.state { ins = p.state.ins ++ row ∷ [] } }) row_end x (record {
        identity = is.identity;
        peers = is.peers;
        lists = is.lists;
        queues = is.queues;
        placed = is.placed;
        outs = is.outs;
        ins = record {
          differ = pairs_pushed Differ p.state.ins row (is.ins).differ (differ_from p.state row is_row.1);
          each = all_pushed IsHeard p.state.ins row (is.ins).each is_row.0;
        };
        kept = is.kept;
        waiting = is.waiting;
        own = is.own;
      }) row_left row_rest);
}
