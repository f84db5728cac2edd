-- The entry of a transaction whose ops passed.
use Rattle.std.proofs.Common.{refl, ap, sym, subst, ◌∙◌, arith, length, length-append}
use Rattle.std.proofs.lemmas.Bool.Decides.{nat_tests}
use Rattle.std.proofs.lemmas.List.{length-map}
use Rattle.std.proofs.lemmas.List.Concat.{flat_map-cons}
use Rattle.std.proofs.lemmas.List.Elements.{All-from_recursion, recursion_from_All}
use Rattle.std.proofs.lemmas.List.Sums.{sum_by-cons}
use Rattle.std.specs.List.{AllByRecursion, flat_map}
use Rattle.std.specs.Prelude.{[], ◌++◌, ◌∷◌, ◌≡◌, ◌≤◌, All, List, None, Ok, Option, Some, map, option_and_then, option_map, false, sum_by, true, ℕ}
use Rattle.mqb_base.specs.declared.draft.Op.{Op}
use Rattle.mqb_entries.specs.Spelled.{spelled_op}
use Rattle.mqb_entries.specs.SpelledEntries.{Fits, spelled}
use Rattle.mqb_entries.specs.declared.entry.Entry.TheVariants as form
use Rattle.mqb_entries.specs.declared.members.OpView.{OpView}
use Rattle.mqb_fields.specs.Reading.{◌>>=◌}
use Rattle.mqb_fields.specs.Writing.{bytes_of}
use Rattle.mqb_heads.specs.declared.base.TheConstants.{MAX_PACKET}
use Rattle.mqb_base.specs.declared.message.Message.{Message}
use Rattle.mqb_packet.specs.Plain.{message_size, packet_size, plain_spelling}
use Rattle.mqb_packet.specs.declared.packet.Headers.TheVariants.{Bare, TxAndSession}
use Rattle.mqb_entries.specs.Packets.{packet_of}
use Rattle.mqb_packet.specs.declared.packet.Packet.{Packet}
use Rattle.mqb_packet.specs.declared.packet.Packet.TheVariants as packet
use Rattle.mqb_model.specs.calls.Call.{Commit}
use Rattle.mqb_model.specs.calls.Commit.{Trial, commit, commit_tried, trial_of, try_ops, whole_refusal}
use Rattle.mqb_model.specs.declared.faults.CommitFault.{CommitFault}
use Rattle.mqb_model.specs.laws.Fitting.{IsFitting, IsSpelled, RecordsAreSpelled, RecordsFit}
use Rattle.mqb_model.specs.managers.Manager.{Manager, unlinked}
use Rattle.mqb_model.specs.managers.Outcomes.{recording, unless}
use Rattle.mqb_model.specs.records.Applying.{fits}
use Rattle.mqb_model.specs.records.Counting.{IsSpellable, commit_size, op_size}
use Rattle.mqb_model.specs.records.Packets.{is_too_large}
use Rattle.mqb_model.specs.records.Reading.{all_some, op_of}
use Rattle.mqb_model.specs.records.Record.{RecordOp}
use Rattle.mqb_model.specs.records.Record as entry
use Rattle.mqb_model.specs.state.State.{State}
use Rattle.mqb_trying.specs.declared.notes.PlannedOp.{PlannedOp}
use Rattle.mqb_trying.specs.declared.notes.PlannedOp.TheVariants.{Send, Take}
use Rattle.mqb_trying.specs.Notes.{IsWritable, record_op}
use Rattle.mqb_trying.specs.Trials.{CanTellOp, op_view}
use Rattle.mqb_trying.specs.Trying.{count_refusal, is_large, tried}
use Rattle.mqb_trying.specs.Trying as trying

-- What the definitions say of it.

pub tried_is : (s : State) (now : ℕ) (ops : List Op) (t : Trial) → count_refusal (length ops) ≡ None → try_ops now 0 (trial_of s) ops ≡ Ok t → whole_refusal t ≡ None → tried s now ops ≡ Ok t
tried_is s now ops t few passed whole =
    ap (λ c. trying.unless c (try_ops now 0 (trial_of s) ops >>= λ t. trying.unless (whole_refusal t) (Ok t))) few
    ∙ ap (λ r. r >>= λ t. trying.unless (whole_refusal t) (Ok t)) passed
    ∙ ap (λ w. trying.unless w (Ok t)) whole

module _ (s : State) (now : ℕ) (ops : List Op) (t : Trial) (few : count_refusal (length ops) ≡ None) (passed : try_ops now 0 (trial_of s) ops ≡ Ok t) (whole : whole_refusal t ≡ None) where
  abbrev m : Manager
  m = unlinked s

  commit_is : commit m ops now ≡ recording m (entry.Commit now t.ops) (Ok t.done)
  commit_is =
      ap (λ (c : Option CommitFault). unless m c (commit_tried m now (try_ops now 0 (trial_of s) ops))) few
      ∙ ap (commit_tried m now) passed
      ∙ ap (λ (w : Option CommitFault). unless m w (recording m (entry.Commit now t.ops) (Ok t.done))) whole

  pub fits_is : RecordsFit → fits s (entry.Commit now t.ops) ≡ true
  fits_is law = subst (IsFitting m) commit_is ((law m).requests (Commit now ops) tt)

  pub spellable : RecordsAreSpelled → IsSpellable (entry.Commit now t.ops)
  spellable law = subst IsSpelled commit_is ((law m).requests (Commit now ops) tt)

-- How long it is.

module _ (sized : (p : Packet) → length (plain_spelling p) ≡ packet_size p) where
  op_len : (op : PlannedOp) → length (spelled_op (op_view (record_op op))) ≡ op_size (record_op op)
  op_len (Send m to) = let bytes : List ℕ = plain_spelling (packet.User (packet_of m to)) in
      let long = sized (packet.User (packet_of m to)) in let joined = length-append (bytes_of 4 (length bytes)) bytes in omega (arith, long, joined)
  op_len (Take queue id) = refl

  ops_len : (ops : List PlannedOp) → length (flat_map spelled_op (map op_view (map record_op ops))) ≡ sum_by op_size (map record_op ops)
  ops_len [] = refl
  ops_len (op ∷ ops) =
      let rest : List OpView = map op_view (map record_op ops) in
      let split = ap length (flat_map-cons spelled_op (op_view (record_op op)) rest) in
      let joined = length-append (spelled_op (op_view (record_op op))) (flat_map spelled_op rest) in
      omega (arith, split, joined, op_len op, ops_len ops, sum_by-cons op_size (record_op op) (map record_op ops))

  pub entry_len : (now : ℕ) (ops : List PlannedOp) → length (spelled (form.Commit now (map op_view (map record_op ops)))) ≡ commit_size (map record_op ops)
  entry_len now ops =
      let views : List OpView = map op_view (map record_op ops) in
      let whole = length-append (bytes_of 4 now) (bytes_of 1 (length views) ++ flat_map spelled_op views) in
      let list = length-append (bytes_of 1 (length views)) (flat_map spelled_op views) in
      omega (arith, whole, list, ops_len ops)

-- What it is read as.

-- where the headers of a transaction have room, none do
bare_fits : (m : Message) → is_too_large TxAndSession m ≡ false → message_size Bare m ≤ MAX_PACKET
bare_fits m small = grind (arith, nat_tests)

-- ops that are read each are read together
pub all_read : (ops : List PlannedOp) → AllByRecursion (λ op. op_of (op_view (record_op op)) ≡ Some (record_op op)) ops
    → all_some (map op_of (map op_view (map record_op ops))) ≡ Some (map record_op ops)
all_read [] h = refl
all_read (op ∷ ops) h = ap (λ o. option_and_then (λ x. option_map (λ xs. x ∷ xs) (all_some (map op_of (map op_view (map record_op ops))))) o) h.0
    ∙ ap (option_map (λ xs. record_op op ∷ xs)) (all_read ops h.1)

pub few_ops : (now : ℕ) (ops : List RecordOp) → (1 ≤ length ops) × (length ops ≤ 64) → Fits (form.Commit now (map op_view ops))
few_ops now ops h = subst (λ n. (1 ≤ n) × (n ≤ 64)) (sym (length-map ops op_view)) h

can_tell : (ops : List PlannedOp) → AllByRecursion IsWritable ops → AllByRecursion (λ op. is_large op ≡ false) ops → AllByRecursion CanTellOp ops
can_tell [] writable small = tt
can_tell (Send m to ∷ ops) writable small =
    let size : is_too_large TxAndSession m ≡ false = small.0 in
    (record { well_formed = writable.0.0; recoverable = writable.0.1; small = bare_fits m size }, can_tell ops writable.1 small.1)
can_tell (Take queue id ∷ ops) writable small = (tt, can_tell ops writable.1 small.1)

-- a record can tell of the ops that may be written and are not too large
pub all_can_tell : (ops : List PlannedOp) → All IsWritable ops → All (λ op. is_large op ≡ false) ops → All CanTellOp ops
all_can_tell ops writable small =
    All-from_recursion CanTellOp ops (can_tell ops (recursion_from_All IsWritable ops writable) (recursion_from_All (λ (op : PlannedOp). is_large op ≡ false) ops small))
