-- What a step of a scan tells of a store.
use Rattle.std.proofs.Common.{◌∙◌, ap, refl, subst, sym, true≢false}
use Rattle.std.specs.Prelude.{[], ◌++◌, ◌<◌, ◌≡◌, ◌∷◌, Bool, Err, List, None, Ok, Result, cond, false, length, not, option_map, true, ℕ}
use Rattle.mqb_base.specs.declared.ids.Guid.{Guid}
use Rattle.mqb_outside.specs.Disk.{OnlyReads, View}
use Rattle.mqb_outside.specs.Images.{Each}
use Rattle.mqb_outside.specs.lemmas.Runs.{reads_then}
use Rattle.mqb_journal.specs.Causes.{open_failed, opening_of}
use Rattle.mqb_journal.specs.Journals.{Lent}
use Rattle.mqb_journal.specs.States.{ScanState, advanced, ended}
use Rattle.mqb_journal.specs.Store.{Base, Nothing}
use Rattle.mqb_journal.specs.declared.faults.OpenFault.{OpenFault}
use Rattle.mqb_journal.specs.declared.faults.OpenFault.TheVariants as opening
use Rattle.mqb_journal.specs.declared.faults.ScanFault.{ScanFault}
use Rattle.mqb_journal.specs.declared.faults.ScanFault.TheVariants as scanning
use Rattle.mqb_model.specs.records.Reading.{record_of}
use Rattle.mqb_model.specs.state.State.{empty}
use Rattle.mqb_outside.specs.Faults.{Rose}
use Rattle.mqb_store.proofs.Faulty.{StandsBehind, does_not_fit, no_record}
use Rattle.mqb_store_laws.specs.Faults.{IsBadStore, MayGoOn}
use Rattle.mqb_store_laws.specs.Images.{identity_in, state_from}
use Rattle.mqb_store_laws.specs.lemmas.Settling.{reads_settle, settles_then}
use Rattle.mqb_store_laws.specs.Laws.{EntriesBegin}
use Rattle.mqb_store_laws.specs.Settling.{OnlySettles}

-- the place that a fault tells
place_in : {T : Type 0} → Result T OpenFault → ℕ
place_in (Err (opening.BadStore at)) = at
place_in x = 0

pub same_place : {T : Type 0} (at other : ℕ) → ◌≡◌ {A = Result T OpenFault} (Err (opening.BadStore at)) (Err (opening.BadStore other)) → at ≡ other
unfolding place_in
same_place {T} at other is = ap (place_in {T = T}) is

-- A scan that stood behind this base and these records went on to one more.
pub record HasGoneOn (d e : View) (s t : ScanState) (base : Base) (records : List (List ℕ)) : Type 0 where
  pub behind : StandsBehind d s base records
  pub next : t ≡ advanced s t.lent t.is_open
  pub within : t.gate < t.len
  pub lent : Lent e t base (records ++ t.lent ∷ [])
  pub reads : OnlyReads d e

pub same_guid_then : {d e : View} {s t : ScanState} {base : Base} {records : List (List ℕ)} → HasGoneOn d e s t base records → t.guid ≡ s.guid
same_guid_then gone = ap (λ (u : ScanState). u.guid) gone.next

pub stands_then : {d e : View} {s t : ScanState} {base : Base} {records : List (List ℕ)} → HasGoneOn d e s t base records → StandsBehind e t base (records ++ t.lent ∷ [])
stands_then gone = record {
  whole = subst (λ (g : Guid). length g.0 ≡ 16) (sym (same_guid_then gone)) gone.behind.whole;
  within = gone.within;
  lent = gone.lent;
}

-- the entry that was lent does not go on from those before it
pub unfit_then : {d e : View} {s t : ScanState} {base : Base} {records : List (List ℕ)} (gone : HasGoneOn d e s t base records) (at : ℕ) → MayGoOn s.guid base records
    → at ≡ t.place → state_from base (records ++ t.lent ∷ []) ≡ None → Each d.reads (IsBadStore at)
unfit_then {d} {e} {s} {t} {base} {records} gone at good place unfit =
    does_not_fit d e s t base records t.lent at gone.behind good (stands_then gone) (same_guid_then gone) gone.reads
    (place ∙ ap (λ (u : ScanState). u.place) gone.next) unfit

-- A scan that stood behind this base and these records came to their end.
pub record HasEnded (d e : View) (s t : ScanState) (base : Base) (records : List (List ℕ)) : Type 0 where
  pub behind : StandsBehind d s base records
  pub next : t ≡ ended s
  pub within : t.gate < t.len
  pub lent : Lent e t base records
  pub reads : OnlyReads d e

pub stands_at_end : {d e : View} {s t : ScanState} {base : Base} {records : List (List ℕ)} → HasEnded d e s t base records → StandsBehind e t base records
stands_at_end done = record {
  whole = subst (λ (u : ScanState). length u.guid.0 ≡ 16) (sym done.next) done.behind.whole;
  within = done.within;
  lent = done.lent;
}

-- there is no first record
pub none_then : {d e : View} {s t : ScanState} (done : HasEnded d e s t Nothing []) (at : ℕ) → s.place ≡ s.gate → at ≡ t.place → Each d.reads (IsBadStore at)
none_then {d} {e} {s} {t} done at first place c told =
    subst (λ (k : ℕ). IsBadStore k c)
    (ap (λ (u : ScanState). u.gate) done.next ∙ (sym first ∙ (sym (ap (λ (u : ScanState). u.place) done.next) ∙ sym place)))
    (no_record e t (stands_at_end done) (ap (λ (u : ScanState). u.ended) done.next) c (done.reads.unchanged.reads.none_lost c told))

-- the first record is no identity
pub no_identity : EntriesBegin → (first : List ℕ) → identity_in (record_of first) ≡ None → state_from Nothing ([] ++ first ∷ []) ≡ None
no_identity law first none = law.anywhere first ∙ ap (λ o. option_map empty o) none

pub not_false : (b : Bool) → true ≡ not b → b ≡ false
not_false false is = refl
not_false true is = is

pub not_true : (b : Bool) → false ≡ not b → b ≡ true
not_true true is = refl
not_true false is = is

fault_in : {T : Type 0} → Result T OpenFault → OpenFault
fault_in (Ok x) = opening.Memory
fault_in (Err fault) = fault

pub same_fault : {T : Type 0} (a b : OpenFault) → ◌≡◌ {A = Result T OpenFault} (Err a) (Err b) → a ≡ b
unfolding fault_in
same_fault {T} a b is = ap (fault_in {T = T}) is

is_bad_place : OpenFault → Bool
is_bad_place (opening.BadStore at) = true
is_bad_place x = false

fault_place : OpenFault → ℕ
fault_place fault = place_in {T = ℕ} (Err fault)

-- a store that is called bad at a place was so called by its scan
pub bad_scan : (f : ScanFault) (at : ℕ) → opening_of f ≡ opening.BadStore at → f ≡ scanning.BadStore at
unfolding is_bad_place place_in fault_place
bad_scan (scanning.BadStore k) at is = ap (λ (n : ℕ). scanning.BadStore n) (ap fault_place is)
bad_scan scanning.DiskFault at is = absurd (true≢false (sym (ap is_bad_place is)))

-- over the disk from before calls that only read
pub bad_before : (d e : View) (at : ℕ) → OnlyReads d e → Each e.reads (IsBadStore at) → Each d.reads (IsBadStore at)
bad_before d e at reads bad c told = bad c (reads.unchanged.reads.none_lost c told)

-- two calls that only read, and then one that reads and syncs
pub reads_then_settles : (d m n e : View) → OnlyReads d m → OnlyReads m n → OnlySettles n e → OnlySettles d e
reads_then_settles d m n e first second settles = settles_then d n e (reads_settle d n (reads_then d m n first second)) settles

-- a fault that is handed on has the cause that it had, where the calls before it had none
pub cause_of : (fault : OpenFault) (before mid after : ℕ) → mid ≡ before → cond (open_failed fault) (Rose mid after) (after ≡ mid)
    → cond (open_failed fault) (Rose before after) (after ≡ before)
cause_of fault before mid after quiet said = subst (λ (n : ℕ). cond (open_failed fault) (Rose n after) (after ≡ n)) quiet said
