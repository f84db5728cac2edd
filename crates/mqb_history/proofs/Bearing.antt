-- Each message that is not express bears a number that its manager gave, and so does the message of which a notice tells; no notice bears that of a message which joined a stream; and
-- whatever left a journal or a dead-letter queue bears such a number.
use Rattle.std.proofs.Common.{refl, ap, sym, subst, ◌∙◌, arith, inl, inr}
use Rattle.std.specs.List.{AllByRecursion}
use Rattle.std.specs.Prelude.{[], ◌+◌, ◌++◌, ◌<◌, ◌∷◌, ◌≡◌, ◌≤◌, ◌⊎◌, List, false, length, true, ℕ}
use Rattle.mqb_base.specs.declared.ids.Identity.{Identity}
use Rattle.mqb_base.specs.declared.ids.MessageId.{MessageId}
use Rattle.mqb_base.specs.declared.ledger.Line.TheVariants as line
use Rattle.mqb_base.specs.declared.message.Message.{Message}
use Rattle.mqb_exactly_once.specs.Words.{In}
use Rattle.mqb_exactly_once.specs.World.{Commitment}
use Rattle.mqb_fate.specs.Asking.{is_ordinary}
use Rattle.mqb_model.specs.records.Applying.{apply, lines_of}
use Rattle.mqb_model.specs.records.Commit.{sends_of}
use Rattle.mqb_model.specs.records.Record.{Part, Record}
use Rattle.mqb_model.specs.records.Record as entry
use Rattle.mqb_model.specs.state.Places.{is_express}
use Rattle.mqb_model.specs.state.State.{State}
use Rattle.mqb_network.specs.Courses.{Course, Written}
use Rattle.mqb_network.specs.Laws.{lines_written}
use Rattle.mqb_history.specs.Committed.{commitments, commitments_in}
use Rattle.mqb_history.specs.Made.{AreNumbered, IsMade}
use Rattle.mqb_history.specs.Numbers.{HasNumber}
use Rattle.mqb_history.specs.Sent.{sends_in}
use Rattle.mqb_history.proofs.Applying.{applied_manager, made_of_no_peer}
use Rattle.mqb_history.proofs.Between.{all_in}
use Rattle.mqb_history.proofs.Bringing.{IsBrought}
use Rattle.mqb_history.proofs.Committing.{in_append, in_end, in_split}
use Rattle.mqb_history.proofs.Containing.{IsFine, PartFine, next_behind, record_holds}
use Rattle.mqb_history.proofs.Contents.{Holds, IsCarried, Now, holds_weaker, next_id}
use Rattle.mqb_history.proofs.Emptying.{emptied_of}
use Rattle.mqb_history.proofs.Fresh.{commits_within, record_rises, sent_by}
use Rattle.mqb_history.proofs.Later.{IsUnused, Unused, unused_grows}
use Rattle.mqb_history.proofs.Lists.{clash}
use Rattle.mqb_history.proofs.Numbering.{AreCounted, commitments_more, counted_by_records}
use Rattle.mqb_history.proofs.Staying.{HasSameRows}
use Rattle.mqb_history.proofs.Steady.{IsSteady, OfExpress}
use Rattle.mqb_history.proofs.Telling.{lines_more}

-- What is known of a message in a course.

-- its number was given; and where it is a notice, no transaction has its number, and that of the message of which it tells was given
pub record IsBorne (known : List Identity) (c : Course) (m : Message) : Type 0 where
  pub numbered : HasNumber c m.id
  pub notice : is_ordinary m ≡ false → Unused known c m.id × HasNumber c m.correlation

abbrev pub Bears : List Identity → Course → Message → Type 0
Bears known c m = is_express m.delivery ≡ false → IsBorne known c m

pub bears_brought : (known : List Identity) (c : Course) → IsBrought (Bears known c)
bears_brought known c = record {
  acks = λ a host id now e. absurd (clash e);
  left = λ m n g e. let b = g e in record { numbered = b.numbered; notice = b.notice };
}

-- a record sends ordinary messages alone
abbrev pub SendsOrdinary : Record → Type 0
SendsOrdinary r = AllByRecursion (λ m. is_ordinary m ≡ true) (sends_in r)

module _ (known : List Identity) (c : Course) where
  -- What is known of it at a manager that gives an identifier next, and wrote records: what was known in the course, or that the number is its own.

  abbrev pub IsGiven : MessageId → MessageId → Type 0
  IsGiven next id = HasNumber c id ⊎ ((id.qm ≡ next.qm) × (id.number < next.number))

  abbrev pub IsFree : State → List Written → MessageId → Type 0
  IsFree s ws id = Unused known c id ⊎ ((id.qm ≡ s.identity.guid) × IsUnused s ws id.number)

  pub record IsLocal (s : State) (ws : List Written) (m : Message) : Type 0 where
    pub numbered : IsGiven (next_id s) m.id
    pub notice : is_ordinary m ≡ false → IsFree s ws m.id × IsGiven (next_id s) m.correlation

  abbrev pub Local : State → List Written → Message → Type 0
  Local s ws m = is_express m.delivery ≡ false → IsLocal s ws m

  given_later : (next : MessageId) (n : ℕ) (id : MessageId) → next.number ≤ n → IsGiven next id → IsGiven (record { qm = next.qm; number = n }) id
  given_later next n id le (inl h) = inl h
  given_later next n id le (inr h) = inr (h.0, let lt = h.1 in omega (arith, le, lt))

  -- While a record is applied, or something is done beside: notices take numbers from a base on.
  module _ (s : State) (ws : List Written) (base : ℕ) where
    abbrev IsFreeOn : MessageId → MessageId → Type 0
    IsFreeOn next id = IsFree s ws id ⊎ ((id.qm ≡ next.qm) × (base ≤ id.number) × (id.number < next.number))

    record IsOn (next : MessageId) (m : Message) : Type 0 where
      pub late : base ≤ next.number
      pub numbered : IsGiven next m.id
      pub notice : is_ordinary m ≡ false → IsFreeOn next m.id × IsGiven next m.correlation

    abbrev On : MessageId → Message → Type 0
    On next m = is_express m.delivery ≡ false → IsOn next m

    free_later : (next : MessageId) (n : ℕ) (id : MessageId) → next.number ≤ n → IsFreeOn next id → IsFreeOn (record { qm = next.qm; number = n }) id
    free_later next n id le (inl h) = inl h
    free_later next n id le (inr h) = inr (h.0, h.1, let lt = h.2 in omega (arith, le, lt))

    on_carried : IsCarried On
    on_carried = record {
      later = λ next n m le g e. let b = g e in record {
        late = let low = b.late in omega (arith, low, le);
        numbered = given_later next n m.id le b.numbered;
        notice = λ other. let x = b.notice other in (free_later next n m.id le x.0, given_later next n m.correlation le x.1);
      };
      express = λ next m class to id now o other g e. absurd (clash e);
      durable = λ next m class to now o d other g e. let b = g d in record {
        late = let low = b.late in omega (arith, low);
        numbered = inr (refl, omega arith);
        notice = λ is. (inr (refl, b.late, omega arith), given_later next (next.number + 1) m.id (omega arith) b.numbered);
      };
    }

    on_express : OfExpress On
    on_express next m e d = absurd (clash (sym e ∙ d))

    -- what was known before
    on_begins : (next : MessageId) → next.qm ≡ s.identity.guid → s.next_number ≤ next.number → base ≤ next.number → (m : Message) → Local s ws m → On next m
    on_begins next own up late m g e = let b = g e in record { late = late; numbered = given m.id b.numbered; notice = λ other. let x = b.notice other in (inl x.0, given m.correlation x.1) }
      where
        given : (id : MessageId) → IsGiven (next_id s) id → IsGiven next id
        given id (inl h) = inl h
        given id (inr h) = inr (h.0 ∙ sym own, let lt = h.1 in omega (arith, lt, up))

    -- and what is known behind it
    on_ends : (t : State) (vs : List Written) → t.identity.guid ≡ s.identity.guid → ((n : ℕ) → IsUnused s ws n → IsUnused t vs n)
        → ((m : Commitment) → In m (commitments vs) → m.message.id.number < base) → (m : Message) → On (next_id t) m → Local t vs m
    on_ends t vs same unused below m g e = let b = g e in record { numbered = b.numbered; notice = λ other. let x = b.notice other in (free m.id x.0, x.1) }
      where
        free : (id : MessageId) → IsFreeOn (next_id t) id → IsFree t vs id
        free id (inl (inl h)) = inl h
        free id (inl (inr h)) = inr (h.0 ∙ sym same, unused id.number h.1)
        free id (inr h) = inr (h.0, record { below = h.2; uncommitted = λ x inside f. let low = h.1 in let lt = below x inside in omega (arith, low, lt, f) })

    -- what a record sends bears numbers below the base
    sends_on : (low : ℕ) (ms : List Message) → AreNumbered s.identity.guid low ms → low + length ms ≤ base → AllByRecursion (λ m. is_ordinary m ≡ true) ms
        → AllByRecursion (On (record { qm = s.identity.guid; number = base })) ms
    sends_on low [] ids le is = tt
    sends_on low (m ∷ ms) ids le is = (
      λ e. record {
        late = omega arith;
        numbered = inr (ap (λ (i : MessageId). i.qm) ids.0, let n = ap (λ (i : MessageId). i.number) ids.0 in omega (arith, n, le));
        notice = λ other. absurd (clash (sym is.0 ∙ other));
      },
      sends_on (low + 1) ms ids.1 (omega (arith, le)) is.1,
    )

    heard_on : (next : MessageId) → base ≤ next.number → (m : Message) → Bears known c m → On next m
    heard_on next late m g e = let b = g e in record { late = late; numbered = inl b.numbered; notice = λ other. let x = b.notice other in (inl (inl x.0), inl x.1) }

  -- Records.

  -- what arrived is borne, and what is sent is ordinary
  abbrev pub Arrives : Record → Type 0
  Arrives (entry.Arrived now numbers part) = PartFine (Bears known c) part
  Arrives _ = Unit {0}

  abbrev pub IsRight : Record → Type 0
  IsRight r = Arrives r × SendsOrdinary r

  behind_own : (s : State) (r : Record) → (next_behind s r).qm ≡ s.identity.guid
  behind_own s (entry.Identity identity) = refl
  behind_own s r = refl

  behind_up : (s : State) (r : Record) → s.next_number + sent_by r ≤ (next_behind s r).number
  behind_up s (entry.Identity identity) = omega arith
  behind_up s r = omega arith

  part_on : (s : State) (ws : List Written) (part : Part) → PartFine (Bears known c) part → PartFine (On s ws s.next_number (next_id s)) part
  part_on s ws (entry.Decided p) g = heard_on s ws s.next_number (next_id s) (omega arith) p.message g
  part_on s ws (entry.Stored p) g = heard_on s ws s.next_number (next_id s) (omega arith) p.message g
  part_on s ws part g = tt

  fine_on : (s : State) (ws : List Written) (r : Record) → IsMade s r → IsRight r → IsFine (On s ws (next_behind s r).number (next_behind s r)) r
  fine_on s ws (entry.Commit now ops) made right = sends_on s ws (s.next_number + length (sends_of ops)) s.next_number (sends_of ops) made.numbered (omega arith) right.1
  fine_on s ws (entry.Plain now p) made right = (sends_on s ws (s.next_number + 1) s.next_number (p.message ∷ []) (made.id, tt) (omega arith) right.1).0
  fine_on s ws (entry.Arrived now numbers part) made right = part_on s ws part right.0
  fine_on s ws r made right = tt

  -- What holds of a manager, as long as its records are right.

  abbrev pub AreEmptied : State → List Written → Type 0
  AreEmptied s ws = (id : MessageId) → In (line.Emptied id) (lines_written ws) → IsGiven (next_id s) id

  abbrev pub Follows : ℕ → State → List Written → Type 0
  Follows i s ws = AreCounted s ws × (((w : Written) → In w ws → IsRight w.entry) → Holds (Local s ws) s × AreEmptied s ws)

  given_on : (s t : State) → t.identity.guid ≡ s.identity.guid → s.next_number ≤ t.next_number → (id : MessageId) → IsGiven (next_id s) id → IsGiven (next_id t) id
  given_on s t same le id (inl h) = inl h
  given_on s t same le id (inr h) = inr (h.0 ∙ sym same, let lt = h.1 in omega (arith, lt, le))

  below_next : (s : State) (ws : List Written) → AreCounted s ws → (m : Commitment) → In m (commitments ws) → m.message.id.number < s.next_number
  below_next s ws counted m inside = (all_in _ (commitments ws) m counted.own_ids inside).1

  follows_quiet : (i : ℕ) (a b : State) (ws : List Written) (same : HasSameRows a b) → ((P : MessageId → Message → Type 0) (q : IsCarried P) → OfExpress P → Now P q a → Now P q b)
      → Follows i a ws → Follows i b ws
  follows_quiet i a b ws same keeps h = (
    counted_by_records.quiet a b ws same h.0,
    λ right. let g = h.1 right in (
      holds_weaker (On a ws a.next_number (next_id b)) (Local b ws)
          (on_ends a ws a.next_number b ws own (λ n u. record { below = let lt = u.below in let le = same.numbers in omega (arith, lt, le); uncommitted = u.uncommitted }) (below_next a ws h.0)) b
          (keeps (On a ws a.next_number) (on_carried a ws a.next_number) (on_express a ws a.next_number)
          (holds_weaker (Local a ws) (On a ws a.next_number (next_id a)) (on_begins a ws a.next_number (next_id a) refl (omega arith) (omega arith)) a g.0)),
      λ id inside. given_on a b own same.numbers id (g.1 id inside),
    ),
  )
    where
      own : b.identity.guid ≡ a.identity.guid
      own = ap (λ (x : Identity). x.guid) same.manager.identity

  follows_grows : (i : ℕ) (s : State) (r : Record) (ws : List Written) → IsMade s r → Follows i s ws → Follows i (apply s r) (ws ++ record { by = i; before = s; entry = r } ∷ [])
  follows_grows i s r ws made h = (
    counted_by_records.grows i s r ws made h.0,
    λ right. let g = h.1 (λ v inside. right v (in_append ws (w ∷ []) v inside)) in (
      holds_weaker (On s ws base (next_id t)) (Local t (ws ++ w ∷ [])) (on_ends s ws base t (ws ++ w ∷ []) own (λ n. unused_grows i s r ws n made) below) t
          (record_holds (On s ws base) (on_carried s ws base) s r (fine_on s ws r made (right w (in_end ws w)))
          (holds_weaker (Local s ws) (On s ws base (next_behind s r)) (on_begins s ws base (next_behind s r) (behind_own s r) (let up = behind_up s r in omega (arith, up)) (omega arith)) s g.0)),
      λ id inside. emptied g id (in_split (lines_written ws) (lines_of s r) (line.Emptied id) (subst (In (line.Emptied id)) (lines_more ws w) inside)),
    ),
  )
    where
      t : State
      t = apply s r

      w : Written
      w = record { by = i; before = s; entry = r }

      base : ℕ
      base = (next_behind s r).number

      own : t.identity.guid ≡ s.identity.guid
      own = ap (λ (x : Identity). x.guid) (applied_manager s r (made_of_no_peer s r made)).identity

      below : (m : Commitment) → In m (commitments (ws ++ w ∷ [])) → m.message.id.number < base
      below m inside = at (in_split (commitments ws) (commitments_in s r) m (subst (In m) (commitments_more ws w) inside))
        where
          at : In m (commitments ws) ⊎ In m (commitments_in s r) → m.message.id.number < base
          at (inl j) = let lt = below_next s ws h.0 m j in let up = behind_up s r in omega (arith, lt, up)
          at (inr j) = let lt = (commits_within s r m made j).1 in let up = behind_up s r in omega (arith, lt, up)

      emptied : Holds (Local s ws) s × AreEmptied s ws → (id : MessageId) → In (line.Emptied id) (lines_written ws) ⊎ In (line.Emptied id) (lines_of s r) → IsGiven (next_id t) id
      emptied g id (inl j) = given_on s t own (record_rises s r made).numbers id (g.1 id j)
      emptied g id (inr j) = let one = emptied_of (Local s ws) s r id g.0 j in
          given_on s t own (record_rises s r made).numbers id (subst (IsGiven (next_id s)) one.names (one.holds one.durable).numbered)

  pub follows_steady : IsSteady Follows
  follows_steady = record { quiet = λ i a b ws q h. follows_quiet i a b ws q.0 q.2 h; grows = λ i s r ws made h. follows_grows i s r ws made h }
