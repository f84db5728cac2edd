-- What is offered never expires: marks do not fall, and what expires stands above them.
use Rattle.std.proofs.Common.{refl, ap, sym, subst, ◌∙◌, arith}
use Rattle.std.specs.List.{AllByRecursion, cons_option, enumerate_from}
use Rattle.std.specs.Option.{option_map_or}
use Rattle.std.specs.Prelude.{[], ◌+◌, ◌++◌, ◌<◌, ◌∷◌, ◌≡◌, ◌≤◌, Bool, List, None, Option, Some, cond, false, filter_map, fold, nat_lt, true, ℕ}
use Rattle.mqb_base.specs.declared.ids.MessageId.{MessageId}
use Rattle.mqb_base.specs.declared.ids.SequenceId.{SequenceId}
use Rattle.mqb_base.specs.declared.ledger.Line.{Line}
use Rattle.mqb_base.specs.declared.ledger.Line.TheVariants as line
use Rattle.mqb_base.specs.declared.ledger.Stream.{Stream}
use Rattle.mqb_base.specs.declared.message.Message.{Message}
use Rattle.mqb_entries.specs.declared.members.Mark.{Mark}
use Rattle.mqb_model.specs.calls.pump.Candidates.{Candidate}
use Rattle.mqb_model.specs.calls.pump.Pump.{greatest_sent, mark_for}
use Rattle.mqb_model.specs.declared.target.Target.{Target}
use Rattle.mqb_model.specs.declared.target.Target.TheVariants.{AtPeer, Here, Nowhere}
use Rattle.mqb_model.specs.records.Applying.{apply, lines_of}
use Rattle.mqb_model.specs.records.Commit.{send_made, sends_of, takes_made}
use Rattle.mqb_model.specs.records.Offered.{mark_raised, with_offered}
use Rattle.mqb_model.specs.records.Record.{Record}
use Rattle.mqb_model.specs.records.Record as entry
use Rattle.mqb_model.specs.rules.Effects.{Effect}
use Rattle.mqb_model.specs.rules.Sends.{committed_to, journalled}
use Rattle.mqb_model.specs.rules.Sequences.{join, new_sequence, sequence_in_use, with_kept, with_sequence}
use Rattle.mqb_model.specs.state.Resolving.{resolved}
use Rattle.mqb_model.specs.state.Rows.{has_ordinal, with_row}
use Rattle.mqb_model.specs.state.State.{State}
use Rattle.mqb_network.specs.Courses.{Course, Written}
use Rattle.mqb_network.specs.Doubts.{settled}
use Rattle.mqb_network.specs.Laws.{lines_written}
use Rattle.mqb_network.specs.Network.{manager_at}
use Rattle.mqb_network.specs.Runs.{after_run}
use Rattle.mqb_orders.specs.Rows.{Row}
use Rattle.mqb_history.specs.Decided.{written_of}
use Rattle.mqb_history.specs.Expired.{AreOffersKept, MayExpire}
use Rattle.mqb_history.specs.Laws.{AlwaysOffersKept}
use Rattle.mqb_history.specs.Made.{IsMade}
use Rattle.mqb_history.proofs.Applying.{takes_made_rows}
use Rattle.mqb_history.proofs.Committing.{OrdinalsRise, all_in, first_changed, is_first_changed}
use Rattle.mqb_history.proofs.Expiring.{IsReasoned, record_reasoned}
use Rattle.mqb_history.proofs.Lists.{all_append, all_weaker, apart_numbers, equal_numbers}
use Rattle.mqb_history.proofs.Marking.{Raise, raise_then}
use Rattle.mqb_history.proofs.Numbering.{AreCounted, changed_all, counted_by_records, made_offers, rise_no_more, rows_no_more}
use Rattle.mqb_history.proofs.Outside.{CommitsNothing, HasNoMore, HaveNoMore, NoMore, applied_no_more, marks_no_more, raised_no_more}
use Rattle.mqb_history.proofs.Staying.{HasSameRows, delivered_rows, journalled_rows}
use Rattle.mqb_history.proofs.Telling.{lines_more}
use Rattle.mqb_history.proofs.Written.{IsByRecords, always_by_records}

-- a row that has a mark's ordinal was offered no less
abbrev pub WasOffered : Mark → Row → Type 0
WasOffered mark row = row.sequence.ordinal ≡ mark.ordinal → mark.number ≤ row.offered

-- a mark stands: its ordinal is given, and its row was offered no less
pub record Stands (next : ℕ) (rows : List Row) (mark : Mark) : Type 0 where
  pub given : mark.ordinal < next
  pub offered : AllByRecursion (WasOffered mark) rows

abbrev pub StandsIn : State → Mark → Type 0
StandsIn s mark = Stands s.next_ordinal s.outs mark

offered_no_less : (mark : Mark) (olds news : List Row) → HaveNoMore olds news → AllByRecursion (WasOffered mark) olds → AllByRecursion (WasOffered mark) news
offered_no_less mark olds news less h = rows_no_more (WasOffered mark) keeps olds news less h
  where
    keeps : (a b : Row) → HasNoMore a b → WasOffered mark a → WasOffered mark b
    keeps a b less h = λ same. let low = h (sym (ap (λ (q : SequenceId). q.ordinal) less.sequence) ∙ same) in let le = less.offered in omega (arith, low, le)

-- Transactions.

pub same_stands : (a b : State) (mark : Mark) → HasSameRows a b → StandsIn a mark → StandsIn b mark
same_stands a b mark same h = record {
  given = let e = same.next_ordinal in let less = h.given in omega (arith, e, less);
  offered = subst (AllByRecursion (WasOffered mark)) (sym same.outs) h.offered;
}

join_stands : (s : State) (peer now : ℕ) (m : Message) (mark : Mark) → StandsIn s mark → StandsIn (join s peer now m) mark
join_stands s peer now m mark h = at (sequence_in_use s peer m.destination)
  where
    new : Row
    new = new_sequence s peer m.destination now

    at : (o : Option Row) → StandsIn (option_map_or (λ row. with_row (with_kept m) s row.sequence.ordinal) o (with_sequence s (with_kept m new))) mark
    at None = record {
      given = let less = h.given in omega (arith, less);
      offered = all_append (WasOffered mark) s.outs (with_kept m new ∷ []) h.offered ((λ same. let less = h.given in absurd (omega (arith, less, same))), tt);
    }
    at (Some row) = record {
      given = h.given;
      offered = subst (AllByRecursion (WasOffered mark)) (sym (is_first_changed (with_kept m) (has_ordinal row.sequence.ordinal) s.outs))
          (changed_all (WasOffered mark) (with_kept m) (has_ordinal row.sequence.ordinal) s.outs (λ a g. g) h.offered);
    }

to_stands : (now : ℕ) (s : State) (t : Target) (m : Message) (mark : Mark) → StandsIn s mark → StandsIn (committed_to now s t m).state mark
to_stands now s (AtPeer k) m mark h = join_stands s k now m mark h
to_stands now s (Here queue) m mark h = same_stands s (committed_to now s (Here queue) m).state mark (delivered_rows s (Here queue) m now) h
to_stands now s Nowhere m mark h = same_stands s (committed_to now s Nowhere m).state mark (delivered_rows s Nowhere m now) h

sends_stand : (now : ℕ) (e : Effect) (ms : List Message) (mark : Mark) → StandsIn e.state mark → StandsIn (fold (send_made now) e ms).state mark
sends_stand now e [] mark h = h
sends_stand now e (m ∷ ms) mark h = sends_stand now (send_made now e m) ms mark (to_stands now (journalled e.state m) (resolved e.state m.destination) m mark
    (same_stands e.state (journalled e.state m) mark (journalled_rows e.state m) h))

-- Records.

pub record_stands : (s : State) (r : Record) → OrdinalsRise s.outs → IsMade s r → (mark : Mark) → StandsIn s mark → StandsIn (apply s r) mark
record_stands s r rise made mark h = at r made
  where
    quiet : (x : Record) → IsMade s x → CommitsNothing x → StandsIn (apply s x) mark
    quiet x made nothing = let less = applied_no_more s x nothing (made_offers s x rise made) in record {
      given = let e = less.next_ordinal in let low = h.given in omega (arith, e, low);
      offered = offered_no_less mark s.outs (apply s x).outs less.outs h.offered;
    }

    at : (x : Record) → IsMade s x → StandsIn (apply s x) mark
    at (entry.Peer peer) made = absurd made
    at (entry.Commit now ops) made = sends_stand now (takes_made s now ops) (sends_of ops) mark (same_stands s (takes_made s now ops).state mark (takes_made_rows s now ops) h)
    at x made = quiet x made tt

-- the marks of a record
abbrev pub marks_in : Record → List Mark
marks_in (entry.Offered marks) = marks
marks_in _ = []

first_offered : (mark : Mark) (rows : List Row) → OrdinalsRise rows
    → AllByRecursion (WasOffered mark) (first_changed (with_offered mark.number) (has_ordinal mark.ordinal) rows)
first_offered mark [] rise = tt
first_offered mark (row ∷ rows) rise = at (has_ordinal mark.ordinal row) refl (first_offered mark rows rise.1)
  where
    at : (b : Bool) → has_ordinal mark.ordinal row ≡ b → AllByRecursion (WasOffered mark) (first_changed (with_offered mark.number) (has_ordinal mark.ordinal) rows)
        → AllByRecursion (WasOffered mark) (cond b (with_offered mark.number row ∷ rows) (row ∷ first_changed (with_offered mark.number) (has_ordinal mark.ordinal) rows))
    at true e rest = (
      λ same. omega arith,
      all_weaker (λ (x : Row). row.sequence.ordinal < x.sequence.ordinal) (WasOffered mark)
          (λ x less same. let own = equal_numbers row.sequence.ordinal mark.ordinal e in absurd (omega (arith, less, same, own))) rows rise.0,
    )
    at false e rest = (λ same. absurd (apart_numbers row.sequence.ordinal mark.ordinal e same), rest)

raised_stand : (s : State) (marks : List Mark) → OrdinalsRise s.outs → Raise s.outs marks → AllByRecursion (λ mark. mark.ordinal < s.next_ordinal) marks
    → AllByRecursion (StandsIn (fold mark_raised s marks)) marks
raised_stand s [] rise h given = tt
raised_stand s (mark ∷ marks) rise h given = (
  record {
    given = let e = later.next_ordinal in let less = given.0 in omega (arith, e, less);
    offered = offered_no_less mark one.outs (fold mark_raised one marks).outs later.outs (subst (AllByRecursion (WasOffered mark)) same (first_offered mark s.outs rise));
  },
  raised_stand one marks (rise_no_more s.outs one.outs (subst (HaveNoMore s.outs) same (raised_no_more mark s.outs h.0.0)) rise) raise given.1,
)
  where
    one : State
    one = mark_raised s mark

    same : first_changed (with_offered mark.number) (has_ordinal mark.ordinal) s.outs ≡ one.outs
    same = sym (is_first_changed (with_offered mark.number) (has_ordinal mark.ordinal) s.outs)

    raise : Raise one.outs marks
    raise = subst (λ rows. Raise rows marks) same (raise_then mark marks s.outs h.1.0 (h.0.1, h.1.1))

    later : NoMore one (fold mark_raised one marks)
    later = marks_no_more one marks raise

marks_given : (next : ℕ) (cs : List Candidate) (n : ℕ) (rows : List Row) → AllByRecursion (λ row. row.sequence.ordinal < next) rows
    → AllByRecursion (λ mark. mark.ordinal < next) (filter_map (mark_for cs) (enumerate_from n rows))
marks_given next cs n [] h = tt
marks_given next cs n (row ∷ rows) h = at (nat_lt row.offered (greatest_sent cs n)) (marks_given next cs (n + 1) rows h.1)
  where
    at : (b : Bool) → AllByRecursion (λ (mark : Mark). mark.ordinal < next) (filter_map (mark_for cs) (enumerate_from (n + 1) rows))
        → AllByRecursion (λ (mark : Mark). mark.ordinal < next) (cons_option (cond b (Some (record { ordinal = row.sequence.ordinal; number = greatest_sent cs n })) None)
        (filter_map (mark_for cs) (enumerate_from (n + 1) rows)))
    at true rest = (h.0, rest)
    at false rest = rest

pub new_stand : (s : State) (r : Record) → OrdinalsRise s.outs → AllByRecursion (λ row. row.sequence.ordinal < s.next_ordinal) s.outs → IsMade s r
    → AllByRecursion (StandsIn (apply s r)) (marks_in r)
new_stand s (entry.Offered marks) rise below made = raised_stand s marks rise (made_offers s (entry.Offered marks) rise made)
    (subst (AllByRecursion (λ (mark : Mark). mark.ordinal < s.next_ordinal)) (sym made.1) (marks_given s.next_ordinal made.0 0 s.outs below))
new_stand s r rise below made = tt

-- What expires.

abbrev pub IsAbove : Mark → Line → Type 0
IsAbove mark (line.Expired stream number id moment) = stream.sequence.ordinal ≡ mark.ordinal → mark.number < number
IsAbove mark _ = Unit {0}

expiry_above : (s : State) (mark : Mark) (stream : Stream) (number : ℕ) (id : MessageId) (moment : ℕ) → AllByRecursion (WasOffered mark) s.outs → MayExpire s stream number id moment
    → stream.sequence.ordinal ≡ mark.ordinal → mark.number < number
expiry_above s mark stream number id moment offered h same = let le = (all_in (WasOffered mark) s.outs h.row offered h.there) (sym (ap (λ (x : Stream). x.sequence.ordinal) h.of_row) ∙ same) in
    let low = h.unoffered in let e = h.of_kept in omega (arith, le, low, e)

pub line_above : (s : State) (mark : Mark) → AllByRecursion (WasOffered mark) s.outs → (l : Line) → IsReasoned s l → IsAbove mark l
line_above s mark offered (line.Expired stream number id moment) h = expiry_above s mark stream number id moment offered h
line_above s mark offered x h = tt

-- what lines say of expiries stands above marks
abbrev AreAbove : List Mark → List Line → Type 0
AreAbove marks ls = AllByRecursion (λ mark. AllByRecursion (IsAbove mark) ls) marks

above_nothing : (marks : List Mark) → AreAbove marks []
above_nothing [] = tt
above_nothing (mark ∷ marks) = (tt, above_nothing marks)

above_more : (s : State) (r : Record) (marks : List Mark) (ls : List Line) → AllByRecursion (StandsIn s) marks → AreAbove marks ls → AreAbove marks (ls ++ lines_of s r)
above_more s r [] ls stand h = tt
above_more s r (mark ∷ marks) ls stand h = (
  all_append (IsAbove mark) ls (lines_of s r) h.0 (all_weaker (IsReasoned s) (IsAbove mark) (line_above s mark stand.0.offered) (lines_of s r) (record_reasoned s r)),
  above_more s r marks ls stand.1 h.1,
)

-- the marks of these records stand
abbrev pub AllStand : State → List Written → Type 0
AllStand s [] = Unit {0}
AllStand s (w ∷ ws) = AllByRecursion (StandsIn s) (marks_in w.entry) × AllStand s ws

-- what later records let expire stands above the marks of each
abbrev NoneExpires : List Written → Type 0
NoneExpires [] = Unit {0}
NoneExpires (w ∷ ws) = AreAbove (marks_in w.entry) (lines_written ws) × NoneExpires ws

none_more : (i : ℕ) (s : State) (r : Record) (ws : List Written) → AllStand s ws → NoneExpires ws → NoneExpires (ws ++ record { by = i; before = s; entry = r } ∷ [])
none_more i s r [] stand h = (above_nothing (marks_in r), tt)
none_more i s r (x ∷ ws) stand h = (
  subst (AreAbove (marks_in x.entry)) (sym (lines_more ws (record { by = i; before = s; entry = r }))) (above_more s r (marks_in x.entry) (lines_written ws) stand.0 h.0),
  none_more i s r ws stand.1 h.1,
)

stand_more : (a b : State) (w : Written) (ws : List Written) → ((mark : Mark) → StandsIn a mark → StandsIn b mark) → AllByRecursion (StandsIn b) (marks_in w.entry) → AllStand a ws
    → AllStand b (ws ++ w ∷ [])
stand_more a b w [] keeps new h = (new, tt)
stand_more a b w (x ∷ ws) keeps new h = (all_weaker (StandsIn a) (StandsIn b) keeps (marks_in x.entry) h.0, stand_more a b w ws keeps new h.1)

stand_same : (a b : State) (ws : List Written) → ((mark : Mark) → StandsIn a mark → StandsIn b mark) → AllStand a ws → AllStand b ws
stand_same a b [] keeps h = tt
stand_same a b (x ∷ ws) keeps h = (all_weaker (StandsIn a) (StandsIn b) keeps (marks_in x.entry) h.0, stand_same a b ws keeps h.1)

-- what holds of a manager's state and its records
pub record AreOffered (s : State) (ws : List Written) : Type 0 where
  pub counted : AreCounted s ws
  pub stand : AllStand s ws
  pub none : NoneExpires ws

pub offered_by_records : IsByRecords AreOffered
offered_by_records = record {
  starts = λ own peers. record { counted = counted_by_records.starts own peers; stand = tt; none = tt };
  quiet = λ a b ws same h. record {
    counted = counted_by_records.quiet a b ws same h.counted;
    stand = stand_same a b ws (λ mark. same_stands a b mark same) h.stand;
    none = h.none;
  };
  grows = λ i s r ws made h. record {
    counted = counted_by_records.grows i s r ws made h.counted;
    stand = stand_more s (apply s r) (record { by = i; before = s; entry = r }) ws (record_stands s r h.counted.rise made) (new_stand s r h.counted.rise h.counted.below made) h.stand;
    none = none_more i s r ws h.stand h.none;
  };
}

-- The law.

above_at : (before behind : List Written) (w : Written) → NoneExpires (before ++ w ∷ behind) → AreAbove (marks_in w.entry) (lines_written behind)
above_at [] behind w h = h.0
above_at (x ∷ before) behind w h = above_at before behind w h.1

pub offers_kept : (c : Course) → ((i : ℕ) → AreOffered (manager_at c.network i).state (written_of i c.written)) → AreOffersKept c
offers_kept c h i before behind w marks mark split offers inside stream number id moment told same =
    let above = subst (λ xs. AreAbove xs (lines_written behind)) (ap marks_in offers) (above_at before behind w (subst NoneExpires split (h i).none)) in
    (all_in (IsAbove mark) (lines_written behind) (line.Expired stream number id moment)
    (all_in (λ (x : Mark). AllByRecursion (IsAbove x) (lines_written behind)) marks mark above inside) told) same

pub always_offers_kept : AlwaysOffersKept
always_offers_kept known ms apart run kept = offers_kept (settled kept (after_run known ms)) (always_by_records AreOffered offered_by_records known ms apart run kept)
