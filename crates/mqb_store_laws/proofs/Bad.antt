-- Where a store is bad.
use Rattle.std.proofs.Common.{inl, inr, ⊎_elim, refl, sym, ◌∙◌, ap, append-nil, subst, arith, length-append}
use Rattle.std.proofs.lemmas.List.Sums.{fold-append}
use Rattle.std.specs.Prelude.{[], ◌+◌, ◌++◌, ◌∷◌, ◌≡◌, ◌⊎◌, Bool, IsSome, List, None, Option, Some, cond, false, fold, length, map, option_and_then, option_map, true, ℕ}
use Rattle.mqb_base.specs.Same.{same_guid}
use Rattle.mqb_base.specs.declared.ids.Guid.{Guid}
use Rattle.mqb_base.specs.declared.ids.Identity.{Identity}
use Rattle.mqb_journal.specs.Scan.{Begins, GoesTo, HasNoFront, IsBadAt}
use Rattle.mqb_journal.specs.Scan as journal
use Rattle.mqb_journal.specs.Store.{After, Base, HasFront, Nothing, StandsFor, chain, count_of}
use Rattle.mqb_layout.specs.Store.{place_of}
use Rattle.mqb_layout.specs.declared.limits.TheConstants.{AREA, HEADER}
use Rattle.mqb_model.specs.records.Folding.{applied_after}
use Rattle.mqb_model.specs.records.Reading.{all_some, record_of}
use Rattle.mqb_model.specs.records.Record.{Record}
use Rattle.mqb_model.specs.records.Record as entry
use Rattle.mqb_model.specs.state.State.{State, empty}
use Rattle.mqb_store_laws.proofs.Joining.{entries_begin, fold_none, from_store}
use Rattle.mqb_store_laws.specs.Faults.{BreaksOff, GoesWell, HasBadBase, HasNoRecord, HasOtherGuid, HasUnfit, IsBadStore, MayGoOn, identity_told}
use Rattle.mqb_store_laws.specs.Images.{identity_in, of_guid, records_in, state_at, state_by, state_from, state_in}
use Rattle.mqb_store_laws.specs.Laws.{BadAtOnePlace, ImagesOpenToOne, OpenedIsNotBad}

-- What the journal knows of the fronts and the chains in one image.
pub record Alike : Type 0 where
  pub one : (guid other image : List ℕ) (base later : Base) (records more : List (List ℕ)) (at place : ℕ) → GoesTo guid base records at image
      → GoesTo other later more place image → Begins records more ⊎ Begins more records
  pub guid : (guid other image : List ℕ) (base later : Base) (records more : List (List ℕ)) (at place : ℕ) → length guid ≡ 16 → length other ≡ 16
      → GoesTo guid base records at image → GoesTo other later more place image → guid ≡ other
  pub base : (guid other image : List ℕ) (base later : Base) (records more : List (List ℕ)) (at place : ℕ) → GoesTo guid base records at image
      → GoesTo other later more place image → base ≡ later
  pub whole : (guid other image : List ℕ) (base later : Base) (records all : List (List ℕ)) (at : ℕ) → GoesTo guid base records at image
      → StandsFor other later all image → Begins records all
  pub broken : (guid other image : List ℕ) (base later : Base) (records all : List (List ℕ)) (at place : ℕ) → GoesTo guid base records at image
      → GoesTo other later all place image → IsBadAt place image → Begins records all
  pub front : (guid image : List ℕ) (base : Base) (records : List (List ℕ)) (at place : ℕ) → GoesTo guid base records at image → HasNoFront place image → ⊥
  pub end : (guid image : List ℕ) (base : Base) (records : List (List ℕ)) → StandsFor guid base records image → (at : ℕ) × GoesTo guid base records at image
  pub stands : (guid image : List ℕ) (base : Base) (records : List (List ℕ)) (at : ℕ) → StandsFor guid base records image → journal.IsBadStore at image → ⊥
  pub same : (guid other image : List ℕ) (base later : Base) (records more : List (List ℕ)) → StandsFor guid base records image
      → StandsFor other later more image → (base ≡ later) × (records ≡ more)
  pub place : (at other : ℕ) (image : List ℕ) → journal.IsBadStore at image → journal.IsBadStore other image → at ≡ other

-- Once entries stand for no state, they do not with more behind them.

by_more : (guid : Guid) (base : Base) (first : Record) (records more : List Record) → state_by guid base (first ∷ records) ≡ None
    → state_by guid base ((first ∷ records) ++ more) ≡ None
by_more guid (After count bytes) first records more none =
    fold-append applied_after (option_and_then (of_guid guid) (state_at bytes)) (first ∷ records) more ∙ ap (λ o. fold applied_after o more) none ∙ fold_none more
by_more guid Nothing (entry.Identity identity) records more none = at (same_guid identity.guid guid) none
  where
    at : (b : Bool) → cond b (fold applied_after (Some (empty identity)) records) None ≡ None
        → cond b (fold applied_after (Some (empty identity)) (records ++ more)) None ≡ None
    at false is = refl
    at true is = fold-append applied_after (Some (empty identity)) records more ∙ ap (λ o. fold applied_after o more) is ∙ fold_none more
by_more guid Nothing first records more none = refl

-- records, and more records
abbrev both : Option (List Record) → Option (List Record) → Option (List Record)
both a b = option_and_then (λ x. option_map (λ y. x ++ y) b) a

all_some_both : (xs ys : List (Option Record)) → all_some (xs ++ ys) ≡ both (all_some xs) (all_some ys)
all_some_both [] ys = sym (none (all_some ys))
  where
    none : (o : Option (List Record)) → option_map (λ y. y) o ≡ o
    none None = refl
    none (Some y) = refl
all_some_both (None ∷ xs) ys = refl
all_some_both (Some x ∷ xs) ys = ap (λ o. option_map (λ rs. x ∷ rs) o) (all_some_both xs ys) ∙ at (all_some xs) (all_some ys)
  where
    at : (a b : Option (List Record)) → option_map (λ rs. x ∷ rs) (both a b) ≡ both (option_map (λ rs. x ∷ rs) a) b
    at None b = refl
    at (Some rs) None = refl
    at (Some rs) (Some y) = refl

mapped_both : (xs ys : List (List ℕ)) → map record_of (xs ++ ys) ≡ map record_of xs ++ map record_of ys
mapped_both [] ys = refl
mapped_both (x ∷ xs) ys = ap (λ rs. record_of x ∷ rs) (mapped_both xs ys)

records_both : (entries more : List (List ℕ)) → records_in (entries ++ more) ≡ both (records_in entries) (records_in more)
records_both entries more = ap all_some (mapped_both entries more) ∙ all_some_both (map record_of entries) (map record_of more)

-- a record behind which these stand
abbrev begun : Option Record → Option (List Record) → Option (List Record)
begun first rest = option_and_then (λ x. option_map (λ xs. x ∷ xs) rest) first

none_stays : (guid : Guid) (base : Base) (first : List ℕ) (entries more : List (List ℕ)) → state_in guid base (first ∷ entries) ≡ None
    → state_in guid base ((first ∷ entries) ++ more) ≡ None
none_stays guid base first entries more none = ap (option_and_then (state_by guid base)) (records_both (first ∷ entries) more)
    ∙ at (record_of first) (records_in entries) (records_in more) none
  where
    at : (o : Option Record) (rest behind : Option (List Record)) → option_and_then (state_by guid base) (begun o rest) ≡ None
        → option_and_then (state_by guid base) (both (begun o rest) behind) ≡ None
    at None rest behind is = refl
    at (Some r) None behind is = refl
    at (Some r) (Some rs) None is = refl
    at (Some r) (Some rs) (Some later) is = by_more guid base r rs later is

none_behind : (guid : Guid) (base : Base) (entries : List (List ℕ)) (entry : List ℕ) (more : List (List ℕ)) → state_in guid base (entries ++ entry ∷ []) ≡ None
    → state_in guid base ((entries ++ entry ∷ []) ++ more) ≡ None
none_behind guid base [] entry more none = none_stays guid base entry [] more none
none_behind guid base (first ∷ entries) entry more none = none_stays guid base first (entries ++ entry ∷ []) more none

-- entries that may go on do not begin with some that stand for no state
none_within : (guid : Guid) (base : Base) (entries all : List (List ℕ)) (entry : List ℕ) → MayGoOn guid base all
    → state_in guid base (entries ++ entry ∷ []) ≡ None → Begins (entries ++ entry ∷ []) all → ⊥
none_within guid base entries all entry good none begins = ⊎_elim empty some good
  where
    empty : (base ≡ Nothing) × (all ≡ []) → ⊥
    empty is = let long = ap length (sym begins.1 ∙ is.1) in
        omega (arith, long, length-append (entries ++ entry ∷ []) begins.0, length-append entries (entry ∷ []))

    some : IsSome (state_in guid base all) → ⊥
    some is = let no : false ≡ true = subst IsSome (ap (state_in guid base) begins.1 ∙ none_behind guid base entries entry begins.0 none) is in absurd cc

-- what stands for no state does not in a store
none_in : (guid : Guid) (base : Base) (entries : List (List ℕ)) → state_from base entries ≡ None → state_in guid base entries ≡ None
none_in guid base entries none = at (state_in guid base entries) refl
  where
    at : (o : Option State) → state_in guid base entries ≡ o → o ≡ None
    at None is = refl
    at (Some s) is = sym (from_store guid base entries s is) ∙ none

-- In no store does a base that spells no state stand for one.
base_none : (guid : Guid) (count : ℕ) (bytes : List ℕ) (entries : List (List ℕ)) → state_at bytes ≡ None → state_in guid (After count bytes) entries ≡ None
base_none guid count bytes entries none = at (records_in entries)
  where
    at : (o : Option (List Record)) → option_and_then (state_by guid (After count bytes)) o ≡ None
    at None = refl
    at (Some records) = ap (λ (o : Option State). fold applied_after (option_and_then (of_guid guid) o) records) none ∙ fold_none records

-- Nor does an identity with another GUID, whatever stands behind it.
other_none : (guid : Guid) (base : Base) (entries : List (List ℕ)) (identity : Identity) → identity_told base entries ≡ Some identity
    → same_guid identity.guid guid ≡ false → state_in guid base entries ≡ None
other_none guid Nothing [] identity told other = refl
other_none guid Nothing (first ∷ entries) identity told other = at (record_of first) (records_in entries) told
  where
    tested : (own : Identity) (records : List Record) → Some own ≡ Some identity → state_by guid Nothing (entry.Identity own ∷ records) ≡ None
    tested own records is = let same : own ≡ identity = cc in
        ap (λ (b : Bool). cond b (fold applied_after (Some (empty own)) records) None) (ap (λ (i : Identity). same_guid i.guid guid) same ∙ other)

    at : (o : Option Record) (rest : Option (List Record)) → identity_in o ≡ Some identity → option_and_then (state_by guid Nothing) (begun o rest) ≡ None
    at None rest is = refl
    at (Some r) None is = refl
    at (Some (entry.Identity own)) (Some records) is = tested own records is
    at (Some r) (Some records) is = refl
other_none guid (After count bytes) entries identity told other = at (state_at bytes) (records_in entries) told
  where
    tested : (s : State) (records : List Record) → Some s.identity ≡ Some identity → fold applied_after (of_guid guid s) records ≡ None
    tested s records is = let same : s.identity ≡ identity = cc in
        ap (λ (b : Bool). fold applied_after (cond b (Some s) None) records) (ap (λ (i : Identity). same_guid i.guid guid) same ∙ other) ∙ fold_none records

    at : (o : Option State) (rest : Option (List Record)) → option_map (λ (s : State). s.identity) o ≡ Some identity
        → option_and_then (λ (records : List Record). fold applied_after (option_and_then (of_guid guid) o) records) rest ≡ None
    at o None is = refl
    at None (Some records) is = fold_none records
    at (Some s) (Some records) is = tested s records is

-- the identity stays with more behind it
told_more : (base : Base) (entries more : List (List ℕ)) (identity : Identity) → identity_told base entries ≡ Some identity
    → identity_told base (entries ++ more) ≡ Some identity
told_more Nothing [] more identity told = absurd (let no : None ≡ Some identity = told in cc)
told_more Nothing (first ∷ entries) more identity told = told
told_more (After count bytes) entries more identity told = told

-- and with less
told_less : (base : Base) (entries : List (List ℕ)) (entry : List ℕ) (more : List (List ℕ)) (identity : Identity)
    → identity_told base ((entries ++ entry ∷ []) ++ more) ≡ Some identity → identity_told base (entries ++ entry ∷ []) ≡ Some identity
told_less Nothing [] entry more identity told = told
told_less Nothing (first ∷ entries) entry more identity told = told
told_less (After count bytes) entries entry more identity told = told

-- entries that may go on have no identity with another GUID
other_not_good : (guid : Guid) (base : Base) (entries : List (List ℕ)) (identity : Identity) → MayGoOn guid base entries
    → identity_told base entries ≡ Some identity → same_guid identity.guid guid ≡ false → ⊥
other_not_good guid base entries identity good told other = ⊎_elim none some good
  where
    none : (base ≡ Nothing) × (entries ≡ []) → ⊥
    none is = let no : None ≡ Some identity =
        sym (ap (λ (b : Base). identity_told b entries) is.0 ∙ ap (identity_told Nothing) is.1) ∙ told in absurd cc

    some : IsSome (state_in guid base entries) → ⊥
    some is = let no : false ≡ true = subst IsSome (other_none guid base entries identity told other) is in absurd cc

-- nor an entry behind them, with which they stand for no state
other_not_unfit : (guid : Guid) (base : Base) (entries : List (List ℕ)) (entry : List ℕ) (identity : Identity) → MayGoOn guid base entries
    → identity_told base (entries ++ entry ∷ []) ≡ Some identity → same_guid identity.guid guid ≡ false → state_from base (entries ++ entry ∷ []) ≡ None → ⊥
other_not_unfit guid Nothing [] entry identity good told other unfit =
    let no : None ≡ Some (empty identity) = sym unfit ∙ entries_begin.anywhere entry ∙ ap (option_map empty) told in absurd cc
other_not_unfit guid Nothing (first ∷ entries) entry identity good told other unfit = other_not_good guid Nothing (first ∷ entries) identity good told other
other_not_unfit guid (After count bytes) entries entry identity good told other unfit =
    other_not_good guid (After count bytes) entries identity good told other

-- the first entry of a list, and those behind it
abbrev head_of : List (List ℕ) → List ℕ
head_of [] = []
head_of (e ∷ es) = e

abbrev tail_of : List (List ℕ) → List (List ℕ)
tail_of [] = []
tail_of (e ∷ es) = es

-- A list that begins another, which begins it, is that one.
nothing_more : (a b : List (List ℕ)) → Begins a b → Begins b a → a ≡ b
nothing_more a b first second = let size = ap length first.1 in let back = ap length second.1 in
    at first.0 (omega (arith, size, back, length-append a first.0, length-append b second.0)) first.1
  where
    at : (more : List (List ℕ)) → length more ≡ 0 → b ≡ a ++ more → a ≡ b
    at [] none is = sym (is ∙ append-nil a)
    at (x ∷ more) none is = absurd (let no : ⊥ = omega (arith, none) in no)

-- where the first gate stands behind a base
abbrev gate_of : Base → List ℕ → ℕ
gate_of Nothing image = HEADER
gate_of (After count bytes) image = place_of image + AREA + length bytes

gate_is : (guid : List ℕ) (base : Base) (first : ℕ) (image : List ℕ) → HasFront guid base first image → first ≡ gate_of base image
gate_is guid Nothing first image is = is.begins
gate_is guid (After count bytes) first image is = is.begins

place_is : (guid : List ℕ) (base : Base) (records : List (List ℕ)) (at : ℕ) (image : List ℕ) → GoesTo guid base records at image
    → at ≡ gate_of base image + length (chain records)
place_is guid base records at image goes = goes.place ∙ ap (λ (n : ℕ). n + length (chain records)) (gate_is guid base goes.first image goes.front)

guid_is : (g h : Guid) → g.0 ≡ h.0 → g ≡ h
guid_is g h same = ap (λ (l : List ℕ). record { 0 = l }) same

-- What stands behind the front of an image is bad.
abbrev IsBadBehind : ℕ → List ℕ → Type 0
IsBadBehind at image = HasBadBase at image ⊎ HasOtherGuid at image ⊎ HasNoRecord at image ⊎ BreaksOff at image ⊎ HasUnfit at image

-- An entry is bad, or is not there.
abbrev IsBadEntry : ℕ → List ℕ → Type 0
IsBadEntry at image = HasNoRecord at image ⊎ BreaksOff at image ⊎ HasUnfit at image

module _ (k : Alike) where
  same_place : (guid other image : List ℕ) (base later : Base) (r s : List (List ℕ)) (at place : ℕ) → r ≡ s → GoesTo guid base r at image
      → GoesTo other later s place image → at ≡ place
  same_place guid other image base later r s at place same first second =
      place_is guid base r at image first ∙ ap (λ (b : Base). gate_of b image + length (chain r)) (k.base guid other image base later r s at place first second)
      ∙ ap (λ (l : List (List ℕ)). gate_of later image + length (chain l)) same ∙ sym (place_is other later s place image second)

  -- no record where entries stand
  nothing_there : (a b : ℕ) (image : List ℕ) (none : HasNoRecord a image) (guid : List ℕ) (base : Base) (records : List (List ℕ))
      → GoesTo guid base records b image → a ≡ b
  nothing_there a b image none guid base records goes =
      let begins = k.whole guid none.guid.0 image base Nothing records [] b goes none.none in
      same_place none.guid.0 guid image Nothing base [] records a b (at records begins) none.here.goes goes
    where
      at : (rs : List (List ℕ)) → Begins rs [] → [] ≡ rs
      at [] begins = refl
      at (r ∷ rs) begins = absurd (let long = ap length begins.1 in let no : ⊥ = omega (arith, long) in no)

  -- in one image the entries that may go on do not begin with some that stand for no state
  unfit_within : (a b : ℕ) (image : List ℕ) (bad : HasUnfit a image) (guid : Guid) (base : Base) (all : List (List ℕ)) → GoesWell guid base all b image
      → Begins (bad.entries ++ bad.entry ∷ []) all → ⊥
  unfit_within a b image bad guid base all well begins =
      let same : bad.base ≡ base = k.base bad.guid.0 guid.0 image bad.base base bad.entries all a b bad.here.goes well.goes in
      none_within guid base bad.entries all bad.entry well.good
      (none_in guid base (bad.entries ++ bad.entry ∷ []) (subst (λ (x : Base). state_from x (bad.entries ++ bad.entry ∷ []) ≡ None) same bad.unfit)) begins

  -- entries that may go on have no identity with another GUID before them
  other_within : (a b : ℕ) (image : List ℕ) (bad : HasOtherGuid a image) (guid : Guid) (base : Base) (all : List (List ℕ)) → GoesWell guid base all b image
      → Begins bad.entries all → ⊥
  other_within a b image bad guid base all well begins =
      let same : bad.guid ≡ guid =
      guid_is bad.guid guid (k.guid bad.guid.0 guid.0 image bad.base base bad.entries all bad.next b bad.whole well.whole bad.behind well.goes) in
      let one : bad.base ≡ base = k.base bad.guid.0 guid.0 image bad.base base bad.entries all bad.next b bad.behind well.goes in
      let told : identity_told base all ≡ Some bad.identity =
      ap (λ (x : Base). identity_told x all) (sym one) ∙ ap (identity_told bad.base) begins.1
      ∙ told_more bad.base bad.entries begins.0 bad.identity bad.is_identity in
      other_not_good guid base all bad.identity well.good told (subst (λ (g : Guid). same_guid bad.identity.guid g ≡ false) same bad.other)

  -- nor are they one, and unfit
  other_or_unfit : (a b : ℕ) (image : List ℕ) → HasOtherGuid a image → HasUnfit b image → ⊥
  other_or_unfit a b image bad unfit =
      let all : List (List ℕ) = unfit.entries ++ unfit.entry ∷ [] in
      let same : bad.guid ≡ unfit.guid =
      guid_is bad.guid unfit.guid (k.guid bad.guid.0 unfit.guid.0 image bad.base unfit.base bad.entries all bad.next unfit.next bad.whole unfit.here.whole bad.behind unfit.behind) in
      let one : bad.base ≡ unfit.base = k.base bad.guid.0 unfit.guid.0 image bad.base unfit.base bad.entries all bad.next unfit.next bad.behind unfit.behind in
      let told : identity_told bad.base all ≡ Some bad.identity = ⊎_elim
      (λ (begins : Begins bad.entries all). ap (identity_told bad.base) begins.1 ∙ told_more bad.base bad.entries begins.0 bad.identity bad.is_identity)
      (λ (begins : Begins all bad.entries). told_less bad.base unfit.entries unfit.entry begins.0 bad.identity
      (ap (identity_told bad.base) (sym begins.1) ∙ bad.is_identity))
      (k.one bad.guid.0 unfit.guid.0 image bad.base unfit.base bad.entries all bad.next unfit.next bad.behind unfit.behind) in
      other_not_unfit unfit.guid unfit.base unfit.entries unfit.entry bad.identity unfit.here.good
      (ap (λ (x : Base). identity_told x all) (sym one) ∙ told)
      (subst (λ (g : Guid). same_guid bad.identity.guid g ≡ false) same bad.other) unfit.unfit

  -- behind a base that spells no state no entries may go on
  base_within : (a b : ℕ) (image : List ℕ) (bad : HasBadBase a image) (guid : Guid) (base : Base) (all : List (List ℕ)) → GoesWell guid base all b image → ⊥
  base_within a b image bad guid base all well =
      let same : After bad.count bad.bytes ≡ base =
      k.base bad.guid guid.0 image (After bad.count bad.bytes) base [] all bad.next b bad.behind well.goes in
      ⊎_elim
      (λ (none : (base ≡ Nothing) × (all ≡ [])). let both : After bad.count bad.bytes ≡ Nothing = same ∙ none.0 in let no : ⊥ = cc in no)
      (λ (some : IsSome (state_in guid base all)). let both : false ≡ true = subst IsSome
      (ap (λ (x : Base). state_in guid x all) (sym same) ∙ base_none guid bad.count bad.bytes all bad.none) some in let no : ⊥ = cc in no)
      well.good

  -- and it tells no identity
  base_or_other : (a b : ℕ) (image : List ℕ) → HasBadBase a image → HasOtherGuid b image → ⊥
  base_or_other a b image bad other =
      let same : After bad.count bad.bytes ≡ other.base =
      k.base bad.guid other.guid.0 image (After bad.count bad.bytes) other.base [] other.entries bad.next other.next bad.behind other.behind in
      let both : None ≡ Some other.identity = sym (ap (option_map (λ (s : State). s.identity)) bad.none)
      ∙ ap (λ (x : Base). identity_told x other.entries) same ∙ other.is_identity in let no : ⊥ = cc in no

  unfit_alike : (a b : ℕ) (image : List ℕ) (first : HasUnfit a image) (second : HasUnfit b image) → Begins (first.entries ++ first.entry ∷ []) (second.entries ++ second.entry ∷ []) → a ≡ b
  unfit_alike a b image first second begins = ⊎_elim
      (λ before. absurd (unfit_within a b image first second.guid second.base second.entries second.here before))
      (λ is. same_place first.guid.0 second.guid.0 image first.base second.base first.entries second.entries a b is first.here.goes second.here.goes)
      (last_or_before first.entries second.entries first.entry second.entry begins)
    where
      -- a list that begins another one with one more begins it, or is it
      last_or_before : (xs ys : List (List ℕ)) (x y : List ℕ) → Begins (xs ++ x ∷ []) (ys ++ y ∷ []) → Begins (xs ++ x ∷ []) ys ⊎ (xs ≡ ys)
      last_or_before [] [] x y is = inr refl
      last_or_before [] (z ∷ ys) x y is = inl (ys, ap (λ (l : List (List ℕ)). head_of l ∷ ys) is.1)
      last_or_before (z ∷ xs) [] x y is = absurd (let long = ap length is.1 in let no : ⊥ = omega (arith, long, length-append (xs ++ x ∷ []) is.0, length-append xs (x ∷ [])) in no)
      last_or_before (z ∷ xs) (w ∷ ys) x y is = ⊎_elim
          (λ before. inl (before.0, ap (λ (l : List (List ℕ)). head_of l ∷ ys) is.1 ∙ ap (λ (l : List (List ℕ)). z ∷ l) before.1))
          (λ same. inr (ap (λ (l : List (List ℕ)). head_of l ∷ xs) (sym is.1) ∙ ap (λ (l : List (List ℕ)). w ∷ l) same))
          (last_or_before xs ys x y (is.0, ap tail_of is.1))

  entry_at_one : (a b : ℕ) (image : List ℕ) → IsBadEntry a image → IsBadEntry b image → a ≡ b
  entry_at_one a b image (inl none) (inl other) = nothing_there a b image none other.guid.0 Nothing [] other.here.goes
  entry_at_one a b image (inl none) (inr (inl other)) = nothing_there a b image none other.guid.0 other.base other.entries other.here.goes
  entry_at_one a b image (inl none) (inr (inr other)) = nothing_there a b image none other.guid.0 other.base other.entries other.here.goes
  entry_at_one a b image (inr (inl off)) (inl other) = sym (nothing_there b a image other off.guid.0 off.base off.entries off.here.goes)
  entry_at_one a b image (inr (inl off)) (inr (inl other)) =
      same_place off.guid.0 other.guid.0 image off.base other.base off.entries other.entries a b
      (nothing_more off.entries other.entries
      (k.broken off.guid.0 other.guid.0 image off.base other.base off.entries other.entries a b off.here.goes other.here.goes other.broken)
      (k.broken other.guid.0 off.guid.0 image other.base off.base other.entries off.entries b a other.here.goes off.here.goes off.broken)) off.here.goes other.here.goes
  entry_at_one a b image (inr (inl off)) (inr (inr other)) =
      absurd (unfit_within b a image other off.guid off.base off.entries off.here
      (k.broken other.guid.0 off.guid.0 image other.base off.base (other.entries ++ other.entry ∷ []) off.entries other.next a other.behind off.here.goes off.broken))
  entry_at_one a b image (inr (inr bad)) (inl other) = sym (nothing_there b a image other bad.guid.0 bad.base bad.entries bad.here.goes)
  entry_at_one a b image (inr (inr bad)) (inr (inl off)) =
      absurd (unfit_within a b image bad off.guid off.base off.entries off.here
      (k.broken bad.guid.0 off.guid.0 image bad.base off.base (bad.entries ++ bad.entry ∷ []) off.entries bad.next b bad.behind off.here.goes off.broken))
  entry_at_one a b image (inr (inr bad)) (inr (inr other)) = ⊎_elim
      (λ begins. unfit_alike a b image bad other begins)
      (λ begins. sym (unfit_alike b a image other bad begins))
      (k.one bad.guid.0 other.guid.0 image bad.base other.base (bad.entries ++ bad.entry ∷ []) (other.entries ++ other.entry ∷ []) bad.next other.next bad.behind other.behind)

  -- no entry is bad behind an identity with another GUID
  other_or_entry : (a b : ℕ) (image : List ℕ) → HasOtherGuid a image → IsBadEntry b image → ⊥
  other_or_entry a b image bad (inl none) = other_within a b image bad none.guid Nothing [] none.here
      (k.whole bad.guid.0 none.guid.0 image bad.base Nothing bad.entries [] bad.next bad.behind none.none)
  other_or_entry a b image bad (inr (inl off)) = other_within a b image bad off.guid off.base off.entries off.here
      (k.broken bad.guid.0 off.guid.0 image bad.base off.base bad.entries off.entries bad.next b bad.behind off.here.goes off.broken)
  other_or_entry a b image bad (inr (inr unfit)) = other_or_unfit a b image bad unfit

  -- nor behind a base that spells no state
  base_or_entry : (a b : ℕ) (image : List ℕ) → HasBadBase a image → IsBadEntry b image → ⊥
  base_or_entry a b image bad (inl none) = base_within a b image bad none.guid Nothing [] none.here
  base_or_entry a b image bad (inr (inl off)) = base_within a b image bad off.guid off.base off.entries off.here
  base_or_entry a b image bad (inr (inr unfit)) = base_within a b image bad unfit.guid unfit.base unfit.entries unfit.here

  behind_at_one : (a b : ℕ) (image : List ℕ) → IsBadBehind a image → IsBadBehind b image → a ≡ b
  behind_at_one a b image (inl bad) (inl other) = bad.place ∙ sym other.place
  behind_at_one a b image (inl bad) (inr (inl other)) = absurd (base_or_other a b image bad other)
  behind_at_one a b image (inl bad) (inr (inr entry)) = absurd (base_or_entry a b image bad entry)
  behind_at_one a b image (inr (inl bad)) (inl other) = absurd (base_or_other b a image other bad)
  behind_at_one a b image (inr (inl bad)) (inr (inl other)) = bad.place ∙ sym other.place
  behind_at_one a b image (inr (inl bad)) (inr (inr entry)) = absurd (other_or_entry a b image bad entry)
  behind_at_one a b image (inr (inr entry)) (inl other) = absurd (base_or_entry b a image other entry)
  behind_at_one a b image (inr (inr entry)) (inr (inl other)) = absurd (other_or_entry b a image other entry)
  behind_at_one a b image (inr (inr entry)) (inr (inr other)) = entry_at_one a b image entry other

  -- what is bad behind a front has one
  has_front : (a b : ℕ) (image : List ℕ) → HasNoFront a image → IsBadBehind b image → ⊥
  has_front a b image none (inl bad) = k.front bad.guid image (After bad.count bad.bytes) [] bad.next a bad.behind none
  has_front a b image none (inr (inl bad)) = k.front bad.guid.0 image bad.base bad.entries bad.next a bad.behind none
  has_front a b image none (inr (inr (inl bad))) = k.front bad.guid.0 image Nothing [] b a bad.here.goes none
  has_front a b image none (inr (inr (inr (inl bad)))) = k.front bad.guid.0 image bad.base bad.entries b a bad.here.goes none
  has_front a b image none (inr (inr (inr (inr bad)))) = k.front bad.guid.0 image bad.base bad.entries b a bad.here.goes none

  pub bad_at_one : BadAtOnePlace
  bad_at_one a b image (inl none) (inl other) = k.place a b image (inl none) (inl other)
  bad_at_one a b image (inl none) (inr other) = absurd (has_front a b image none other)
  bad_at_one a b image (inr bad) (inl other) = absurd (has_front b a image other bad)
  bad_at_one a b image (inr bad) (inr other) = behind_at_one a b image bad other

  pub opened_not_bad : OpenedIsNotBad
  opened_not_bad guid count at s image long opens bad = by bad
    where
      end : (place : ℕ) × GoesTo guid.0 opens.base opens.entries place image
      end = k.end guid.0 image opens.base opens.entries opens.stands

      well : GoesWell guid opens.base opens.entries end.0 image
      well = record { whole = long; goes = end.1; good = inr (subst IsSome (sym opens.state) refl) }

      by : IsBadStore at image → ⊥
      by (inl none) = k.stands guid.0 image opens.base opens.entries at opens.stands (inl none)
      by (inr (inl bad)) = base_within at end.0 image bad guid opens.base opens.entries well
      by (inr (inr (inl bad))) = other_within at end.0 image bad guid opens.base opens.entries well
          (k.whole bad.guid.0 guid.0 image bad.base opens.base bad.entries opens.entries bad.next bad.behind opens.stands)
      by (inr (inr (inr (inl none)))) =
          let is = k.same none.guid.0 guid.0 image Nothing opens.base [] opens.entries none.none opens.stands in
          let no : None ≡ Some s = ap (λ (b : Base). state_in guid b []) is.0 ∙ ap (state_in guid opens.base) is.1 ∙ opens.state in cc
      by (inr (inr (inr (inr (inl off))))) = k.stands guid.0 image opens.base opens.entries at opens.stands (inr (record {
        guid = off.guid.0;
        base = off.base;
        first = off.here.goes.first;
        records = off.entries;
        front = off.here.goes.front;
        small = off.here.goes.small;
        place = off.here.goes.place;
        begins = off.here.goes.begins;
        broken = off.broken;
      }))
      by (inr (inr (inr (inr (inr bad))))) = unfit_within at end.0 image bad guid opens.base opens.entries well
          (k.whole bad.guid.0 guid.0 image bad.base opens.base (bad.entries ++ bad.entry ∷ []) opens.entries bad.next bad.behind opens.stands)

pub one_opening : ((guid other image : List ℕ) (base later : Base) (records more : List (List ℕ)) → StandsFor guid base records image
    → StandsFor other later more image → (base ≡ later) × (records ≡ more)) → ImagesOpenToOne
one_opening one guid other count more s t image first second =
    let same = one guid.0 other.0 image first.base second.base first.entries second.entries first.stands second.stands in
    let is : Some s ≡ Some t = sym (from_store guid first.base first.entries s first.state)
    ∙ ap (λ (b : Base). state_from b first.entries) same.0 ∙ ap (state_from second.base) same.1
    ∙ from_store other second.base second.entries t second.state in (
      sym first.counted ∙ ap (λ (b : Base). count_of b + length first.entries) same.0
          ∙ ap (λ (l : List (List ℕ)). count_of second.base + length l) same.1 ∙ second.counted,
      cc,
    )
