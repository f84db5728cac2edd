-- How entries join those of a store.
use Rattle.std.proofs.Common.{refl, sym, ◌∙◌, ap, append-nil, append_assoc}
use Rattle.std.proofs.lemmas.List.Sums.{fold-append}
use Rattle.std.specs.Option.{option_map_or}
use Rattle.std.specs.Prelude.{[], ◌++◌, ◌∷◌, ◌≡◌, Bool, List, None, Option, Some, cond, false, fold, map, option_and_then, option_map, true, ℕ}
use Rattle.mqb_base.specs.Same.{same_guid}
use Rattle.mqb_base.specs.declared.ids.Guid.{Guid}
use Rattle.mqb_base.specs.declared.ids.Identity.{Identity}
use Rattle.mqb_journal.specs.Store.{After, Base, Nothing}
use Rattle.mqb_model.specs.laws.Durable.{DurableIsApplied, DurableIsFitted}
use Rattle.mqb_model.specs.records.Applying.{apply, fits, lines_of}
use Rattle.mqb_model.specs.records.Folding.{applied, applied_after, state_of}
use Rattle.mqb_model.specs.records.Reading.{all_some, record_of}
use Rattle.mqb_model.specs.records.Record.{Record}
use Rattle.mqb_model.specs.records.Record as entry
use Rattle.mqb_model.specs.rules.Effects.{Effect}
use Rattle.mqb_model.specs.state.Durable.{durable}
use Rattle.mqb_model.specs.state.State.{State, empty}
use Rattle.mqb_store_laws.specs.Images.{begins_as, identity_in, last_added, last_lines, lines_added, of_guid, records_in, state_at, state_behind, state_by, state_from, state_in, with_guid}
use Rattle.mqb_store_laws.specs.Laws.{EntriesBegin, EntriesGoOn, RecordsJoin}

-- what is there, and one more
abbrev push : {X : Type 0} → X → List X → List X
push x xs = xs ++ x ∷ []

all_some_push : {X : Type 0} (xs : List (Option X)) (x : X) → all_some (xs ++ Some x ∷ []) ≡ option_map (push x) (all_some xs)
all_some_push [] x = refl
all_some_push (None ∷ xs) x = refl
all_some_push {X = X} (Some y ∷ xs) x = ap (λ o. option_map (λ ys. y ∷ ys) o) (all_some_push xs x) ∙ behind (all_some xs)
  where
    behind : (o : Option (List X)) → option_map (λ ys. y ∷ ys) (option_map (push x) o) ≡ option_map (push x) (option_map (λ ys. y ∷ ys) o)
    behind None = refl
    behind (Some ys) = refl

all_some_pushed : {X : Type 0} (xs : List (Option X)) (more : Option X) (x : X) → more ≡ Some x → all_some (xs ++ more ∷ []) ≡ option_map (push x) (all_some xs)
all_some_pushed xs more x is = ap (λ o. all_some (xs ++ o ∷ [])) is ∙ all_some_push xs x

mapped_push : {X Y : Type 0} (f : X → Y) (xs : List X) (x : X) → map f (xs ++ x ∷ []) ≡ map f xs ++ f x ∷ []
mapped_push f [] x = refl
mapped_push f (y ∷ xs) x = ap (λ ys. f y ∷ ys) (mapped_push f xs x)

-- one record more was read
records_push : (entries : List (List ℕ)) (more : List ℕ) (r : Record) → record_of more ≡ Some r → records_in (entries ++ more ∷ []) ≡ option_map (push r) (records_in entries)
records_push entries more r is = ap all_some (mapped_push record_of entries more) ∙ all_some_pushed (map record_of entries) (record_of more) r is

-- the state that they stand for goes on by it
of_push : (base : Base) (records : List Record) (s : State) (r : Record) → state_behind base records ≡ Some s → state_behind base (records ++ r ∷ []) ≡ applied s r
of_push (After count bytes) records s r is = fold-append applied_after (state_at bytes) records (r ∷ []) ∙ ap (λ o. applied_after o r) is
of_push Nothing [] s r is = absurd (let no : None ≡ Some s = is in cc)
of_push Nothing (entry.Identity identity ∷ records) s r is = fold-append applied_after (Some (empty identity)) records (r ∷ []) ∙ ap (λ o. applied_after o r) is
of_push Nothing (entry.Peer peer ∷ records) s r is = absurd (let no : None ≡ Some s = is in cc)
of_push Nothing (entry.CreateQueue number plan ∷ records) s r is = absurd (let no : None ≡ Some s = is in cc)
of_push Nothing (entry.Commit now ops ∷ records) s r is = absurd (let no : None ≡ Some s = is in cc)
of_push Nothing (entry.Plain now p ∷ records) s r is = absurd (let no : None ≡ Some s = is in cc)
of_push Nothing (entry.Offered marks ∷ records) s r is = absurd (let no : None ≡ Some s = is in cc)
of_push Nothing (entry.Arrived now numbers part ∷ records) s r is = absurd (let no : None ≡ Some s = is in cc)
of_push Nothing (entry.Taken now at id ∷ records) s r is = absurd (let no : None ≡ Some s = is in cc)
of_push Nothing (entry.Purged now at ∷ records) s r is = absurd (let no : None ≡ Some s = is in cc)
of_push Nothing (entry.Ticked now ∷ records) s r is = absurd (let no : None ≡ Some s = is in cc)
of_push Nothing (entry.Set setting ∷ records) s r is = absurd (let no : None ≡ Some s = is in cc)

-- in a store too
by_push : (guid : Guid) (base : Base) (records : List Record) (s : State) (r : Record) → state_by guid base records ≡ Some s
    → state_by guid base (records ++ r ∷ []) ≡ applied s r
by_push guid (After count bytes) records s r is =
    fold-append applied_after (option_and_then (of_guid guid) (state_at bytes)) records (r ∷ []) ∙ ap (λ o. applied_after o r) is
by_push guid Nothing [] s r is = absurd (let no : None ≡ Some s = is in cc)
by_push guid Nothing (entry.Identity identity ∷ records) s r is = at (same_guid identity.guid guid) is
  where
    at : (b : Bool) → cond b (fold applied_after (Some (empty identity)) records) None ≡ Some s
        → cond b (fold applied_after (Some (empty identity)) (records ++ r ∷ [])) None ≡ applied s r
    at false none = absurd (let no : None ≡ Some s = none in cc)
    at true folds = fold-append applied_after (Some (empty identity)) records (r ∷ []) ∙ ap (λ o. applied_after o r) folds
by_push guid Nothing (entry.Peer peer ∷ records) s r is = absurd (let no : None ≡ Some s = is in cc)
by_push guid Nothing (entry.CreateQueue number plan ∷ records) s r is = absurd (let no : None ≡ Some s = is in cc)
by_push guid Nothing (entry.Commit now ops ∷ records) s r is = absurd (let no : None ≡ Some s = is in cc)
by_push guid Nothing (entry.Plain now p ∷ records) s r is = absurd (let no : None ≡ Some s = is in cc)
by_push guid Nothing (entry.Offered marks ∷ records) s r is = absurd (let no : None ≡ Some s = is in cc)
by_push guid Nothing (entry.Arrived now numbers part ∷ records) s r is = absurd (let no : None ≡ Some s = is in cc)
by_push guid Nothing (entry.Taken now at id ∷ records) s r is = absurd (let no : None ≡ Some s = is in cc)
by_push guid Nothing (entry.Purged now at ∷ records) s r is = absurd (let no : None ≡ Some s = is in cc)
by_push guid Nothing (entry.Ticked now ∷ records) s r is = absurd (let no : None ≡ Some s = is in cc)
by_push guid Nothing (entry.Set setting ∷ records) s r is = absurd (let no : None ≡ Some s = is in cc)

all_some_none : {X : Type 0} (xs : List (Option X)) → all_some (xs ++ None ∷ []) ≡ None
all_some_none [] = refl
all_some_none (None ∷ xs) = refl
all_some_none (Some y ∷ xs) = ap (λ o. option_map (λ ys. y ∷ ys) o) (all_some_none xs)

-- what was no record
records_none : (entries : List (List ℕ)) (more : List ℕ) → record_of more ≡ None → records_in (entries ++ more ∷ []) ≡ None
records_none entries more is = ap all_some (mapped_push record_of entries more) ∙ ap (λ o. all_some (map record_of entries ++ o ∷ [])) is ∙ all_some_none (map record_of entries)

-- a record joins entries that stand for a state
with_record : (guid : Guid) (base : Base) (entries : List (List ℕ)) (more : List ℕ) (s : State) (r : Record) → state_in guid base entries ≡ Some s
    → record_of more ≡ Some r → state_in guid base (entries ++ more ∷ []) ≡ applied s r
with_record guid base entries more s r is reads = ap (option_and_then (state_by guid base)) (records_push entries more r reads) ∙ at (records_in entries) is
  where
    at : (o : Option (List Record)) → option_and_then (state_by guid base) o ≡ Some s → option_and_then (state_by guid base) (option_map (push r) o) ≡ applied s r
    at None none = absurd (let no : None ≡ Some s = none in cc)
    at (Some records) by = by_push guid base records s r by

-- whatever GUID the store has
with_any : (base : Base) (entries : List (List ℕ)) (more : List ℕ) (s : State) (r : Record) → state_from base entries ≡ Some s → record_of more ≡ Some r
    → state_from base (entries ++ more ∷ []) ≡ applied s r
with_any base entries more s r is reads = ap (option_and_then (state_behind base)) (records_push entries more r reads) ∙ at (records_in entries) is
  where
    at : (o : Option (List Record)) → option_and_then (state_behind base) o ≡ Some s → option_and_then (state_behind base) (option_map (push r) o) ≡ applied s r
    at None none = absurd (let no : None ≡ Some s = none in cc)
    at (Some records) of = of_push base records s r of

-- behind no state there is none
pub fold_none : (records : List Record) → fold applied_after None records ≡ None
fold_none [] = refl
fold_none (r ∷ records) = fold_none records

-- what records stand for in a store they stand for
by_is : (guid : Guid) (base : Base) (records : List Record) (s : State) → state_by guid base records ≡ Some s → state_behind base records ≡ Some s
by_is guid Nothing records s is = tested (begins_as guid records) is
  where
    tested : (b : Bool) → cond b (state_of records) None ≡ Some s → state_of records ≡ Some s
    tested false none = absurd (let no : None ≡ Some s = none in cc)
    tested true of = of
by_is guid (After count bytes) records s is = at (state_at bytes) is
  where
    tested : (t : State) (b : Bool) → fold applied_after (cond b (Some t) None) records ≡ Some s → fold applied_after (Some t) records ≡ Some s
    tested t true of = of
    tested t false none = absurd (let no : None ≡ Some s = sym (fold_none records) ∙ none in cc)

    at : (o : Option State) → fold applied_after (option_and_then (of_guid guid) o) records ≡ Some s → fold applied_after o records ≡ Some s
    at None none = none
    at (Some t) of = tested t (same_guid t.identity.guid guid) of

-- what entries stand for in a store they stand for
pub from_store : (guid : Guid) (base : Base) (entries : List (List ℕ)) (s : State) → state_in guid base entries ≡ Some s → state_from base entries ≡ Some s
from_store guid base entries s is = at (records_in entries) is
  where
    at : (o : Option (List Record)) → option_and_then (state_by guid base) o ≡ Some s → option_and_then (state_behind base) o ≡ Some s
    at None none = absurd (let no : None ≡ Some s = none in cc)
    at (Some records) by = by_is guid base records s by

go_on_anywhere : (guid : Guid) (base : Base) (entries : List (List ℕ)) (more : List ℕ) (s : State) → state_in guid base entries ≡ Some s
    → state_from base (entries ++ more ∷ []) ≡ option_and_then (applied s) (record_of more)
go_on_anywhere guid base entries more s is = at (record_of more) refl
  where
    at : (o : Option Record) → record_of more ≡ o → state_from base (entries ++ more ∷ []) ≡ option_and_then (applied s) o
    at None none = ap (option_and_then (state_behind base)) (records_none entries more none)
    at (Some r) reads = with_any base entries more s r (from_store guid base entries s is) reads

go_on_in_store : (guid : Guid) (base : Base) (entries : List (List ℕ)) (more : List ℕ) (s : State) → state_in guid base entries ≡ Some s
    → state_in guid base (entries ++ more ∷ []) ≡ option_and_then (applied s) (record_of more)
go_on_in_store guid base entries more s is = at (record_of more) refl
  where
    at : (o : Option Record) → record_of more ≡ o → state_in guid base (entries ++ more ∷ []) ≡ option_and_then (applied s) o
    at None none = ap (option_and_then (state_by guid base)) (records_none entries more none)
    at (Some r) reads = with_record guid base entries more s r is reads

-- the last of some entries is the last behind those before it
last_push : (guid : Guid) (base : Base) (before entries : List (List ℕ)) (more : List ℕ)
    → last_added guid base before (entries ++ more ∷ []) ≡ lines_added guid base (before ++ entries) more
last_push guid base before [] more = ap (λ (l : List (List ℕ)). lines_added guid base l more) (sym (append-nil before))
last_push guid base before (entry ∷ []) more = refl
last_push guid base before (entry ∷ next ∷ entries) more = last_push guid base (before ++ entry ∷ []) (next ∷ entries) more
    ∙ ap (λ (l : List (List ℕ)). lines_added guid base l more) (append_assoc before (entry ∷ []) (next ∷ entries))

-- its lines are those in the state that they stand for
lines_behind : (guid : Guid) (base : Base) (entries : List (List ℕ)) (more : List ℕ) (s : State) → state_in guid base entries ≡ Some s
    → last_lines guid base (entries ++ more ∷ []) ≡ option_map_or (lines_of s) (record_of more) []
lines_behind guid base entries more s is =
    last_push guid base [] entries more ∙ ap (λ o. option_map_or (λ t. option_map_or (lines_of t) (record_of more) []) o []) is

pub entries_go_on : EntriesGoOn
entries_go_on = record { anywhere = go_on_anywhere; in_store = go_on_in_store; lines = lines_behind }

applied_where : (s : State) (r : Record) → fits s r ≡ true → applied s r ≡ Some (apply s r)
applied_where s r fit = ap (λ b. cond b (Some (apply s r)) None) fit

pub records_join : DurableIsApplied → DurableIsFitted → RecordsJoin
records_join same fitted = record {
  state = λ guid base entries more s r valid is reads fit. with_record guid base entries more (durable s) r is reads
      ∙ applied_where (durable s) r (fitted s r valid ∙ fit) ∙ ap (λ (e : Effect). Some e.state) (same s r valid fit);
  lines = λ guid base entries more s r valid is reads fit. sym (lines_behind guid base entries more (durable s) is
      ∙ ap (λ o. option_map_or (lines_of (durable s)) o []) reads ∙ ap (λ (e : Effect). e.lines) (same s r valid fit));
}

begin_anywhere : (first : List ℕ) → state_from Nothing (first ∷ []) ≡ option_map empty (identity_in (record_of first))
begin_anywhere first = at (record_of first)
  where
    at : (o : Option Record) → option_and_then (state_behind Nothing) (all_some (o ∷ [])) ≡ option_map empty (identity_in o)
    at None = refl
    at (Some (entry.Identity identity)) = refl
    at o = refl

begin_in_store : (guid : Guid) (first : List ℕ)
    → state_in guid Nothing (first ∷ []) ≡ option_map empty (option_and_then (with_guid guid) (identity_in (record_of first)))
begin_in_store guid first = at (record_of first)
  where
    tested : (identity : Identity) (b : Bool) → cond b (Some (empty identity)) None ≡ option_map empty (cond b (Some identity) None)
    tested identity true = refl
    tested identity false = refl

    at : (o : Option Record) → option_and_then (state_by guid Nothing) (all_some (o ∷ [])) ≡ option_map empty (option_and_then (with_guid guid) (identity_in o))
    at (Some (entry.Identity identity)) = tested identity (same_guid identity.guid guid)
    at o = refl

pub entries_begin : EntriesBegin
entries_begin = record { anywhere = begin_anywhere; in_store = begin_in_store }
