-- Where a store that is read is bad.
use Rattle.std.proofs.Common.{◌∙◌, ap, arith, inl, inr, refl, subst, sym}
use Rattle.std.specs.Option.{option_map_or}
use Rattle.std.specs.Prelude.{[], ◌++◌, ◌<◌, ◌≡◌, ◌∷◌, List, None, Option, Some, false, length, true, ℕ}
use Rattle.mqb_base.specs.Same.{same_guid}
use Rattle.mqb_base.specs.declared.ids.Guid.{Guid}
use Rattle.mqb_base.specs.declared.ids.Identity.{Identity}
use Rattle.mqb_outside.specs.Disk.{OnlyReads, View}
use Rattle.mqb_outside.specs.Images.{Each}
use Rattle.mqb_journal.specs.lemmas.Carrying.{goes_on_stands, lent_goes_on}
use Rattle.mqb_journal.specs.Journals.{Lent}
use Rattle.mqb_journal.specs.Scan.{GoesTo, IsBadAt}
use Rattle.mqb_journal.specs.States.{ScanState, finished}
use Rattle.mqb_journal.specs.Store.{After, Base, Nothing}
use Rattle.mqb_layout.specs.declared.layout.Layout.{Layout}
use Rattle.mqb_store_laws.specs.Faults.{GoesWell, IsBadStore, MayGoOn, identity_told}
use Rattle.mqb_store_laws.specs.Images.{state_at, state_from}

-- A scan stands within the disk of a store with a whole GUID, behind this base and these records.
pub record StandsBehind (d : View) (s : ScanState) (base : Base) (records : List (List ℕ)) : Type 0 where
  pub whole : length s.guid.0 ≡ 16
  pub within : s.gate < s.len
  pub lent : Lent d s base records

-- up to where it stands
pub goes_to : (d : View) (s : ScanState) (base : Base) (records : List (List ℕ)) → StandsBehind d s base records → Each d.reads (GoesTo s.guid.0 base records s.gate)
goes_to d s base records at c told = record {
  first = at.lent.first;
  front = at.lent.front c told;
  small = at.lent.small;
  place = at.lent.place;
  begins = at.lent.begins c told;
  within = omega (arith, at.within, at.lent.long c told);
}

pub goes_well : (d : View) (s : ScanState) (base : Base) (records : List (List ℕ)) → StandsBehind d s base records → MayGoOn s.guid base records
    → Each d.reads (GoesWell s.guid base records s.gate)
goes_well d s base records at good c told = record { whole = at.whole; goes = goes_to d s base records at c told; good = good }

-- there is no record
pub no_record : (d : View) (s : ScanState) → StandsBehind d s Nothing [] → s.ended ≡ true → Each d.reads (IsBadStore s.gate)
no_record d s at ended c told = inr (inr (inr (inl (record {
  guid = s.guid;
  here = goes_well d s Nothing [] at (inl (refl, refl)) c told;
  none = goes_on_stands d (finished s 0) Nothing [] (lent_goes_on d s 0 Nothing [] at.lent ended) c told;
}))))

-- a record breaks off
pub breaks_off : (d : View) (s : ScanState) (base : Base) (records : List (List ℕ)) (at : ℕ) → StandsBehind d s base records → MayGoOn s.guid base records
    → at ≡ s.gate → Each d.reads (IsBadAt at) → Each d.reads (IsBadStore at)
breaks_off d s base records at behind good place bad c told = inr (inr (inr (inr (inl (record {
  guid = s.guid;
  base = base;
  entries = records;
  here = subst (λ (k : ℕ). GoesWell s.guid base records k c) (sym place) (goes_well d s base records behind good c told);
  broken = bad c told;
})))))

-- an entry does not go on from those before it
pub does_not_fit : (d e : View) (s t : ScanState) (base : Base) (records : List (List ℕ)) (last : List ℕ) (at : ℕ) → StandsBehind d s base records
    → MayGoOn s.guid base records → StandsBehind e t base (records ++ last ∷ []) → t.guid ≡ s.guid → OnlyReads d e → at ≡ s.gate
    → state_from base (records ++ last ∷ []) ≡ None → Each d.reads (IsBadStore at)
does_not_fit d e s t base records last at behind good next guid reads place unfit c told = inr (inr (inr (inr (inr (record {
  guid = s.guid;
  base = base;
  entries = records;
  here = subst (λ (k : ℕ). GoesWell s.guid base records k c) (sym place) (goes_well d s base records behind good c told);
  entry = last;
  next = t.gate;
  behind = subst (λ (g : Guid). GoesTo g.0 base (records ++ last ∷ []) t.gate c) guid
      (goes_to e t base (records ++ last ∷ []) next c (reads.unchanged.reads.none_lost c told));
  unfit = unfit;
})))))

-- the identity that stands first is that of another store
pub other_guid : (d : View) (t : ScanState) (base : Base) (records : List (List ℕ)) (identity : Identity) → StandsBehind d t base records
    → identity_told base records ≡ Some identity → same_guid identity.guid t.guid ≡ false → Each d.reads (IsBadStore 0)
other_guid d t base records identity behind is other c told = inr (inr (inl (record {
  place = λ _. 0;
  guid = t.guid;
  whole = behind.whole;
  base = base;
  entries = records;
  next = t.gate;
  behind = goes_to d t base records behind c told;
  identity = identity;
  is_identity = is;
  other = other;
})))

-- where the area in use stands
abbrev pub area_in : Option Layout → ℕ
area_in later = option_map_or (λ (l : Layout). l.place) later 0

-- the base spells no state
pub bad_base : (d : View) (s : ScanState) (count : ℕ) (bytes : List ℕ) (at : ℕ) → StandsBehind d s (After count bytes) [] → at ≡ area_in s.later
    → state_at bytes ≡ None → Each d.reads (IsBadStore at)
bad_base d s count bytes at behind place none c told = inr (inl (record {
  place = place ∙ ap area_in (sym (behind.lent.laid c told));
  guid = s.guid.0;
  count = count;
  bytes = bytes;
  next = s.gate;
  behind = goes_to d s (After count bytes) [] behind c told;
  none = none;
}))
