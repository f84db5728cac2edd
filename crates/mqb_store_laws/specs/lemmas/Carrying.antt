-- What carries the condition of a state on a disk from call to call.
use Rattle.std.proofs.Common.{inl, inr, sym, ⊎_elim, ◌∙◌, ap, subst, arith, length-append}
use Rattle.std.specs.Prelude.{[], ◌++◌, ◌∷◌, ◌≡◌, List, None, Option, Some, ℕ}
use Rattle.mqb_base.specs.declared.ids.Guid.{Guid}
use Rattle.mqb_outside.specs.Disk.{IsSettled, Lawful, LeavesOnly, OnlyReads, View}
use Rattle.mqb_outside.specs.Images.{Each}
use Rattle.mqb_outside.specs.lemmas.Runs.{started, weaker}
use Rattle.mqb_journal.specs.lemmas.Carrying.{goes_on_read, goes_on_stands, goes_on_told}
use Rattle.mqb_journal.specs.Journals.{GoesOn}
use Rattle.mqb_journal.specs.States.{JournalState}
use Rattle.mqb_journal.specs.Store.{Base, IsBeforeOrAfter}
use Rattle.mqb_model.specs.records.Applying.{apply, fits}
use Rattle.mqb_model.specs.records.Record.{Record}
use Rattle.mqb_model.specs.state.Durable.{durable}
use Rattle.mqb_model.specs.state.State.{State}
use Rattle.mqb_store_laws.specs.Images.{IsOn, Opens, OpensTo, state_in}
use Rattle.mqb_store_laws.specs.Laws.{RecordsJoin}
use Rattle.mqb_store_laws.specs.Carrying.{Joins}

-- over a disk of which nothing new is told
pub on_told : (d e : View) (j : JournalState) (s : State) → IsOn d j s → Each e.reads d.reads
    → IsOn e j s
on_told d e j s on told = record {
  base = on.base;
  entries = on.entries;
  goes_on = goes_on_told d e j on.base on.entries on.goes_on told;
  state = on.state;
}

-- through a call that only reads
pub on_read : (d e : View) (j : JournalState) (s : State) → IsOn d j s → OnlyReads d e → IsOn e j s
on_read d e j s on reads = record {
  base = on.base;
  entries = on.entries;
  goes_on = goes_on_read d e j on.base on.entries on.goes_on reads;
  state = on.state;
}

-- by what is done beside a record
pub on_beside : (d : View) (j : JournalState) (s t : State) → durable t ≡ durable s → IsOn d j s
    → IsOn d j t
on_beside d j s t same on = record {
  base = on.base;
  entries = on.entries;
  goes_on = on.goes_on;
  state = on.state ∙ ap Some (sym same);
}

-- what a read gives opens to the state
pub opens_now : (d : View) (j : JournalState) (s : State) → IsOn d j s
    → Each d.reads (OpensTo j.guid j.count (durable s))
opens_now d j s on c told = record {
  base = on.base;
  entries = on.entries;
  stands = goes_on_stands d j on.base on.entries on.goes_on c told;
  counted = sym on.goes_on.count;
  state = on.state;
}

-- by a record that was written
pub on_written : RecordsJoin
    → (d e : View) (j k : JournalState) (s : State) (entry : List ℕ) (r : Record) → IsOn d j s
    → Joins s entry r
    → ((base : Base) (entries : List (List ℕ)) → GoesOn d j base entries
    → GoesOn e k base (entries ++ entry ∷ [])) → k.guid ≡ j.guid
    → IsOn e k (apply s r)
on_written join d e j k s entry r on new goes guid = record {
  base = on.base;
  entries = on.entries ++ entry ∷ [];
  goes_on = goes on.base on.entries on.goes_on;
  state = subst
      (λ (g : Guid). state_in g on.base (on.entries ++ entry ∷ []) ≡ Some (durable (apply s r)))
      (sym guid)
      (join.state j.guid on.base on.entries entry s r new.valid on.state new.reads new.fits);
}

-- images with the record or without it
opens_after : RecordsJoin
    → (d : View) (j : JournalState) (s : State) (entry : List ℕ) (r : Record) (on : IsOn d j s)
    → Joins s entry r
    → Each (IsBeforeOrAfter j.guid.0 on.base on.entries entry) (Opens j s (Some r))
opens_after join d j s entry r on new c stands = ⊎_elim
    (λ before. inl (record {
      base = on.base;
      entries = on.entries;
      stands = before;
      counted = sym on.goes_on.count;
      state = on.state;
    }))
    (λ after. inr (
      record {
        base = on.base;
        entries = on.entries ++ entry ∷ [];
        stands = after;
        counted = omega (arith, on.goes_on.count, length-append on.entries (entry ∷ []));
        state =
            join.state j.guid on.base on.entries entry s r new.valid on.state new.reads new.fits;
      },
      record {
        base = on.base;
        entries = on.entries ++ entry ∷ [];
        stands = after;
        added =
            join.lines j.guid on.base on.entries entry s r new.valid on.state new.reads new.fits;
      },
    ))
    stands

-- at each moment while it is written
pub moments_open : RecordsJoin
    → (d e : View) (j : JournalState) (s : State) (entry : List ℕ) (r : Record) → IsOn d j s
    → Joins s entry r
    → ((base : Base) (entries : List (List ℕ)) → GoesOn d j base entries → IsSettled d
    → LeavesOnly d e (IsBeforeOrAfter j.guid.0 base entries entry))
    → IsSettled d → LeavesOnly d e (Opens j s (Some r))
moments_open join d e j s entry r on new moments settled =
    weaker d e _ _ (moments on.base on.entries on.goes_on settled)
    (opens_after join d j s entry r on new)

-- what a read gives opens to the state, whatever record there is beside
opens_first : (d : View) (j : JournalState) (s : State) (r : Option Record) → IsOn d j s
    → Each d.reads (Opens j s r)
opens_first d j s None on c told = opens_now d j s on c told
opens_first d j s (Some r) on c told = inl (opens_now d j s on c told)

-- where the disk was not called
pub quiet_opens : (d : View) (j : JournalState) (s : State) (r : Option Record) → Lawful d
    → IsOn d j s → IsSettled d → LeavesOnly d d (Opens j s r)
quiet_opens d j s r law on settled =
    started d (Opens j s r) law (λ c left. opens_first d j s r on c (settled c left))
