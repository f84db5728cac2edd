-- A store that is too far on for another base has had so many records that it may be.
use Rattle.std.proofs.Common.{⊎_elim, arith, length-append, refl}
use Rattle.std.proofs.lemmas.Bool.{lt-ltb, ltb-true, or_cases}
use Rattle.std.proofs.lemmas.List.Elements.{All-head, All-tail}
use Rattle.std.specs.List.{All}
use Rattle.std.specs.Prelude.{[], ◌&&◌, ◌*◌, ◌+◌, ◌<◌, ◌^◌, ◌∷◌, ◌≡◌, ◌≤◌, ◌||◌, List, None, Option}
use Rattle.std.specs.Prelude.{Some, is_none, length, nat_lt, true, ℕ}
use Rattle.mqb_fields.specs.Writing.{bytes_of}
use Rattle.mqb_outside.specs.Disk.{View}
use Rattle.mqb_layout.specs.Layouts.{head_behind}
use Rattle.mqb_layout.specs.declared.layout.Layout.{Layout}
use Rattle.mqb_layout.specs.declared.limits.TheConstants.{HEADER, MOST_HEAD}
use Rattle.mqb_journal.specs.States.{JournalState, is_too_far}
use Rattle.mqb_journal.specs.Store.{IsSmall, chain, framed}
use Rattle.mqb_model.specs.declared.limits.TheConstants.{MAX_RECORD}
use Rattle.mqb_model.specs.state.State.{State}
use Rattle.mqb_network.specs.Checkpointing.{may_be_far}
use Rattle.mqb_network.specs.mqb_store_laws.Images.{IsOn}

-- records are no longer than they may be
chain_length : (records : List (List ℕ)) → All IsSmall records
    → length (chain records) ≤ length records * (5 + MAX_RECORD)
chain_length [] small = omega arith
chain_length (entry ∷ records) small =
    let one : length entry ≤ MAX_RECORD = All-head IsSmall entry records small in
    let rest : length (chain records) ≤ length records * (5 + MAX_RECORD) =
    chain_length records (All-tail IsSmall entry records small) in
    omega (
      arith,
      one,
      rest,
      length-append (framed entry) (chain records),
      length-append (bytes_of 4 (length entry)) entry,
    )

module _ (d : View) (j : JournalState) (s : State) (on : IsOn d j s) where
  -- of version 1 all records stand in the store
  bounded : j.later ≡ None → j.end ≤ HEADER + j.count * (5 + MAX_RECORD)
  bounded none =
      let first = on.goes_on.behind none in
      let end = on.goes_on.end in
      let count = on.goes_on.count in
      let chained = chain_length on.entries on.goes_on.small in
      omega (arith, first, end, count, chained)

  by_end : j.later ≡ None → MOST_HEAD < head_behind j.end
      → MOST_HEAD < head_behind (HEADER + j.count * (5 + MAX_RECORD))
  by_end none far = omega (arith, bounded none, far)

  by_count : 2 ^ 63 < j.count → MOST_HEAD < head_behind (HEADER + j.count * (5 + MAX_RECORD))
  by_count far = omega (arith, far)

  -- by its head, or by its count
  far_by : (later : Option Layout) → j.later ≡ later
      → ((is_none later && nat_lt MOST_HEAD (head_behind j.end)) || nat_lt (2 ^ 63) j.count) ≡ true
      → MOST_HEAD < head_behind (HEADER + j.count * (5 + MAX_RECORD))
  far_by None none far = ⊎_elim
      (λ head. by_end none (ltb-true MOST_HEAD (head_behind j.end) head))
      (λ count. by_count (ltb-true (2 ^ 63) j.count count))
      (or_cases (nat_lt MOST_HEAD (head_behind j.end)) (nat_lt (2 ^ 63) j.count) far)
  far_by (Some l) some far = by_count (ltb-true (2 ^ 63) j.count far)

  pub far_counted : is_too_far j ≡ true → may_be_far j.count ≡ true
  unfolding may_be_far
  far_counted far =
      lt-ltb MOST_HEAD (head_behind (HEADER + j.count * (5 + MAX_RECORD))) (far_by j.later refl far)
