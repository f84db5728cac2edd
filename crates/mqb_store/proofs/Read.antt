-- What was read of a store, record by record.
use Rattle.std.proofs.Common.{◌∙◌, ap, inr, refl, subst, sym}
use Rattle.std.specs.Option.{option_map_or}
use Rattle.std.specs.Prelude.{[], ◌++◌, ◌≡◌, ◌∷◌, IsSomeAnd, List, None, Option, Some, cond, false, is_some, option_and_then, true, ℕ}
use Rattle.mqb_base.specs.Same.{same_guid}
use Rattle.mqb_base.specs.declared.ids.Guid.{Guid}
use Rattle.mqb_base.specs.declared.ids.Identity.{Identity}
use Rattle.mqb_base.specs.declared.ledger.Line.{Line}
use Rattle.mqb_outside.specs.Disk.{View}
use Rattle.mqb_outside.specs.Images.{Each}
use Rattle.mqb_journal.specs.lemmas.Carrying.{goes_on_stands, lent_goes_on}
use Rattle.mqb_journal.specs.States.{ScanState, finished}
use Rattle.mqb_journal.specs.Store.{After, Base, Nothing}
use Rattle.mqb_model.specs.laws.Durable.{DurableIsApplied}
use Rattle.mqb_model.specs.records.Applying.{apply, effect_of, fits, lines_of}
use Rattle.mqb_model.specs.records.Folding.{applied}
use Rattle.mqb_model.specs.records.Reading.{record_of}
use Rattle.mqb_model.specs.records.Record.{Record}
use Rattle.mqb_model.specs.rules.Effects.{Effect}
use Rattle.mqb_model.specs.state.Durable.{durable}
use Rattle.mqb_model.specs.state.State.{State, empty}
use Rattle.mqb_model.specs.state.Valid.{IsValidState}
use Rattle.mqb_state.specs.Unfit.{is_fit}
use Rattle.mqb_store.proofs.Beginning.{base_stands, first_state}
use Rattle.mqb_store.proofs.Faulty.{StandsBehind}
use Rattle.mqb_store.specs.Replaying.{IsReadUpTo}
use Rattle.mqb_store_laws.specs.lemmas.Carrying.{opens_now}
use Rattle.mqb_store_laws.specs.lemmas.Settling.{lent_settled}
use Rattle.mqb_store_laws.specs.Faults.{MayGoOn}
use Rattle.mqb_store_laws.specs.Images.{HasLastLines, IsOn, OpensTo, identity_in, last_lines, state_at, state_from, state_in}
use Rattle.mqb_store_laws.specs.Laws.{EntriesBegin, EntriesGoOn}
use Rattle.mqb_store_laws.specs.Settling.{OnlySettles}

pub stands_behind : {d : View} {scan : ScanState} {s : State} {lines : List Line} (read : IsReadUpTo d scan s lines) → StandsBehind d scan read.base read.entries
stands_behind read = record { whole = read.whole; within = read.within; lent = read.lent }

-- the first one was read
pub read_first : EntriesBegin → (d : View) (t : ScanState) (first : List ℕ) (identity : Identity) → StandsBehind d t Nothing (first ∷ [])
    → identity_in (record_of first) ≡ Some identity → same_guid identity.guid t.guid ≡ true → IsReadUpTo d t (empty identity) []
read_first law d t first identity behind is same = record {
  whole = behind.whole;
  within = behind.within;
  base = Nothing;
  entries = first ∷ [];
  lent = behind.lent;
  state = first_state law t.guid first identity is same;
  kept = refl;
  added = refl;
}

-- the base was read
pub read_base : (d : View) (t : ScanState) (count : ℕ) (bytes : List ℕ) (s : State) → StandsBehind d t (After count bytes) [] → state_at bytes ≡ Some s
    → durable s ≡ s → same_guid s.identity.guid t.guid ≡ true → IsReadUpTo d t s []
read_base d t count bytes s behind is kept same = record {
  whole = behind.whole;
  within = behind.within;
  base = After count bytes;
  entries = [];
  lent = behind.lent;
  state = base_stands t.guid count bytes s is same;
  kept = kept;
  added = refl;
}

-- A record that was read was made on a state, with these lines.
abbrev pub IsMade : State → Option Record → State → List Line → Type 0
IsMade s o t lines = IsSomeAnd o (λ r. (fits s r ≡ true) × (effect_of s r ≡ record { state = t; lines = lines }))

applied_as : (s t : State) (lines : List Line) (o : Option Record) → IsMade s o t lines → option_and_then (applied s) o ≡ Some t
applied_as s t lines None made = absurd made
applied_as s t lines (Some r) made =
    ap (λ b. cond b (Some (apply s r)) None) made.0 ∙ ap (λ (e : Effect). Some e.state) made.1

kept_as : DurableIsApplied → (s t : State) (lines : List Line) (o : Option Record) → IsValidState s → durable s ≡ s → IsMade s o t lines → durable t ≡ t
kept_as law s t lines None valid same made = absurd made
kept_as law s t lines (Some r) valid same made =
    ap (λ (e : Effect). durable e.state) (sym made.1)
    ∙ (sym (ap (λ (e : Effect). e.state) (law s r valid made.0))
    ∙ (ap (λ (u : State). (effect_of u r).state) same ∙ ap (λ (e : Effect). e.state) made.1))

lines_as : (s t : State) (lines : List Line) (o : Option Record) → IsMade s o t lines → lines ≡ option_map_or (lines_of s) o []
lines_as s t lines None made = absurd made
lines_as s t lines (Some r) made = sym (ap (λ (e : Effect). e.lines) made.1)

-- one more was read
pub read_more : EntriesGoOn → DurableIsApplied → (d e : View) (scan next : ScanState) (s t : State) (old new : List Line) (entry : List ℕ)
    → (read : IsReadUpTo d scan s old) → IsValidState s → next.guid ≡ scan.guid → StandsBehind e next read.base (read.entries ++ entry ∷ [])
    → IsMade s (record_of entry) t new → IsReadUpTo e next t new
read_more law kept d e scan next s t old new entry read valid guid behind made = record {
  whole = behind.whole;
  within = behind.within;
  base = read.base;
  entries = read.entries ++ entry ∷ [];
  lent = behind.lent;
  state = subst (λ (g : Guid). state_in g read.base (read.entries ++ entry ∷ []) ≡ Some t) (sym guid)
      (law.in_store scan.guid read.base read.entries entry s read.state ∙ applied_as s t new (record_of entry) made);
  kept = kept_as kept s t new (record_of entry) valid read.kept made;
  added = subst (λ (g : Guid). new ≡ last_lines g read.base (read.entries ++ entry ∷ [])) (sym guid)
      (lines_as s t new (record_of entry) made ∙ sym (law.lines scan.guid read.base read.entries entry s read.state));
}

-- there is no more
pub read_all : (d e : View) (scan next : ScanState) (s : State) (lines : List Line) (read : IsReadUpTo d scan s lines) → next.guid ≡ scan.guid
    → StandsBehind e next read.base read.entries → IsReadUpTo e next s lines
read_all d e scan next s lines read guid behind = record {
  whole = behind.whole;
  within = behind.within;
  base = read.base;
  entries = read.entries;
  lent = behind.lent;
  state = subst (λ (g : Guid). state_in g read.base read.entries ≡ Some s) (sym guid) read.state;
  kept = read.kept;
  added = subst (λ (g : Guid). lines ≡ last_lines g read.base read.entries) (sym guid) read.added;
}

pub may_go_on : {d : View} {scan : ScanState} {s : State} {lines : List Line} (read : IsReadUpTo d scan s lines) → MayGoOn scan.guid read.base read.entries
may_go_on read = inr (ap is_some read.state)

not_applied : (s : State) (o : Option Record) → is_fit s o ≡ false → option_and_then (applied s) o ≡ None
not_applied s None unfit = refl
not_applied s (Some r) unfit = ap (λ b. cond b (Some (apply s r)) None) unfit

-- what was read stands for no state with an entry that is no record, or one that does not fit
pub unfit_from : EntriesGoOn → (guid : Guid) (base : Base) (entries : List (List ℕ)) (entry : List ℕ) (s : State) → state_in guid base entries ≡ Some s
    → is_fit s (record_of entry) ≡ false → state_from base (entries ++ entry ∷ []) ≡ None
unfit_from law guid base entries entry s is unfit = law.anywhere guid base entries entry s is ∙ not_applied s (record_of entry) unfit

-- it was read still behind calls that read and sync
pub read_settled : (d e : View) (scan : ScanState) (s : State) (lines : List Line) → IsReadUpTo d scan s lines → OnlySettles d e → IsReadUpTo e scan s lines
read_settled d e scan s lines read settles = record {
  whole = read.whole;
  within = read.within;
  base = read.base;
  entries = read.entries;
  lent = lent_settled d e scan read.base read.entries read.lent settles;
  state = read.state;
  kept = read.kept;
  added = read.added;
}

-- the store that was read to its end
pub read_on : (d : View) (scan : ScanState) (room : ℕ) (s : State) (lines : List Line) → IsReadUpTo d scan s lines → scan.ended ≡ true → IsOn d (finished scan room) s
read_on d scan room s lines read ended = record {
  base = read.base;
  entries = read.entries;
  goes_on = lent_goes_on d scan room read.base read.entries read.lent ended;
  state = read.state ∙ ap Some (sym read.kept);
}

pub read_opens : (d e : View) (scan : ScanState) (s : State) (lines : List Line) → IsReadUpTo e scan s lines → scan.ended ≡ true → OnlySettles d e
    → Each d.reads (OpensTo scan.guid scan.count s)
read_opens d e scan s lines read ended settles c told =
    subst (λ (t : State). OpensTo scan.guid scan.count t c) read.kept
    (opens_now e (finished scan 0) s (read_on e scan 0 s lines read ended) c (settles.reads.none_lost c told))

pub read_lines : (d e : View) (scan : ScanState) (s : State) (lines : List Line) → IsReadUpTo e scan s lines → scan.ended ≡ true → OnlySettles d e
    → Each d.reads (HasLastLines scan.guid lines)
read_lines d e scan s lines read ended settles c told = record {
  base = read.base;
  entries = read.entries;
  stands = goes_on_stands e (finished scan 0) read.base read.entries (lent_goes_on e scan 0 read.base read.entries read.lent ended) c
      (settles.reads.none_lost c told);
  added = read.added;
}
