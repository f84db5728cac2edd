-- The messages of each stream are committed as 1, 2, and so on, by the lines of the whole ledger; and the law.
use Rattle.std.proofs.Common.{refl, ap, sym, subst, ◌∙◌, arith, inl, inr}
use Rattle.std.specs.List.{cons_option, range_with_len}
use Rattle.std.specs.Prelude.{[], ◌&&◌, ◌∷◌, ◌≡◌, Bool, List, None, Option, Some, cond, false, filter_map, length, map, option_and_then, true, ℕ}
use Rattle.mqb_base.specs.Same.{same_guid, same_name}
use Rattle.mqb_base.specs.Sequences.{same_sequence}
use Rattle.mqb_base.specs.declared.ids.Guid.{Guid}
use Rattle.mqb_base.specs.declared.ids.Identity.{Identity}
use Rattle.mqb_base.specs.declared.ids.SequenceId.{SequenceId}
use Rattle.mqb_base.specs.declared.ledger.Line.{Line}
use Rattle.mqb_base.specs.declared.ledger.Line.TheVariants as line
use Rattle.mqb_base.specs.declared.ledger.Stream.{Stream}
use Rattle.mqb_exactly_once.proofs.Positions.{same_sequence_is}
use Rattle.mqb_exactly_once.specs.Words.{In}
use Rattle.mqb_exactly_once.specs.World.{Commitment}
use Rattle.mqb_model.specs.records.Applying.{lines_of}
use Rattle.mqb_network.specs.Courses.{Course, Written}
use Rattle.mqb_network.specs.Doubts.{settled}
use Rattle.mqb_network.specs.Laws.{AreApart, lines_written}
use Rattle.mqb_network.specs.Network.{manager_at}
use Rattle.mqb_network.specs.Runs.{after_run}
use Rattle.mqb_orders.specs.Streams.{number_committed, same_stream}
use Rattle.mqb_history.specs.Committed.{AreCommittedInOrder, commitments, number_in, numbers_in}
use Rattle.mqb_history.specs.Copies.{sent_in}
use Rattle.mqb_history.specs.Decided.{written_of}
use Rattle.mqb_history.specs.Leading.{AreCommitmentsLed}
use Rattle.mqb_history.specs.Ledger.{AlwaysExactlyOnceTold, IsExactlyOnceTold}
use Rattle.mqb_history.specs.Orderly.{IsOrderly}
use Rattle.mqb_history.specs.Shown.{AreExactlyOnce}
use Rattle.mqb_history.specs.Told.{AreCommitmentsTold, Joined, commitment_told, joined_by}
use Rattle.mqb_history.proofs.Agreeing.{agreeing}
use Rattle.mqb_history.proofs.Balance.{begun_once}
use Rattle.mqb_history.proofs.Carrying.{always_decided_truly}
use Rattle.mqb_history.proofs.Counted.{sent_word}
use Rattle.mqb_history.proofs.Courses.{Agrees}
use Rattle.mqb_history.proofs.Deciding.{always_decided_in_order}
use Rattle.mqb_history.proofs.Due.{always_expired_duly}
use Rattle.mqb_history.proofs.Finding.{mapped_from, only_by}
use Rattle.mqb_history.proofs.Gone.{IsAccounted, always_accounted}
use Rattle.mqb_history.proofs.Leading.{always_commitments_led}
use Rattle.mqb_history.proofs.Led.{always_decided_by_one}
use Rattle.mqb_history.proofs.Ledger.{IsKnown, committed_before, expired_apart, in_order, none_skipped, one_destination, one_writer}
use Rattle.mqb_history.proofs.Lists.{clash, join_and, none_some, same_number, split_and}
use Rattle.mqb_history.proofs.Names.{same_guid_is, same_guid_refl, same_name_is, same_name_refl}
use Rattle.mqb_history.proofs.Noticed.{own_line, told_from, written_in}
use Rattle.mqb_history.proofs.Numbering.{always_committed_in_order}
use Rattle.mqb_history.proofs.Offering.{always_offers_kept}
use Rattle.mqb_history.proofs.Puts.{told_in}
use Rattle.mqb_history.proofs.Rising.{committed_rises}
use Rattle.mqb_history.proofs.Rows.{AreRowed, rowed_by_records}
use Rattle.mqb_history.proofs.Skipping.{always_unskipped}
use Rattle.mqb_history.proofs.Sums.{times_is}
use Rattle.mqb_history.proofs.Telling.{always_told_commitments}
use Rattle.mqb_history.proofs.Undecided.{always_undecided}
use Rattle.mqb_history.proofs.Witnessing.{always_exactly_once, always_one_stream_world}
use Rattle.mqb_history.proofs.Written.{always_by_records}

-- Streams.

pub same_stream_is : (s t : Stream) → same_stream s t ≡ true → t ≡ s
same_stream_is s t e = let first = split_and (same_guid s.source t.source) (same_name s.destination t.destination && same_sequence s.sequence t.sequence) e in
    let second = split_and (same_name s.destination t.destination) (same_sequence s.sequence t.sequence) first.1 in
    ap (λ g. record { source = g; destination = t.destination; sequence = t.sequence }) (sym (same_guid_is s.source t.source first.0))
    ∙ ap (λ d. record { source = s.source; destination = d; sequence = t.sequence }) (sym (same_name_is s.destination t.destination second.0))
    ∙ ap (λ q. record { source = s.source; destination = s.destination; sequence = q }) (sym (same_sequence_is s.sequence t.sequence second.1))

same_sequence_refl : (q : SequenceId) → same_sequence q q ≡ true
same_sequence_refl q = join_and _ _ (same_number q.ordinal) (same_number q.stamp)

pub same_stream_refl : (s : Stream) → same_stream s s ≡ true
same_stream_refl s = join_and (same_guid s.source s.source) (same_name s.destination s.destination && same_sequence s.sequence s.sequence) (same_guid_refl s.source)
    (join_and (same_name s.destination s.destination) (same_sequence s.sequence s.sequence) (same_name_refl s.destination) (same_sequence_refl s.sequence))

-- The number of a stream that a message joins.

abbrev number_of : Stream → Joined → Option ℕ
number_of s j = cond (same_stream s j.stream) (Some j.number) None

-- a line that commits tells it
by_joined : (s : Stream) (l : Line) → number_committed s l ≡ option_and_then (number_of s) (commitment_told l)
by_joined s (line.Committed stream number other) = refl
by_joined s l = refl

through : (s : Stream) (ls : List Line) → filter_map (number_committed s) ls ≡ filter_map (number_of s) (filter_map commitment_told ls)
through s [] = refl
through s (l ∷ ls) = ap (λ o. cons_option o (filter_map (number_committed s) ls)) (by_joined s l) ∙ ap (cons_option (option_and_then (number_of s) (commitment_told l))) (through s ls) ∙ at (commitment_told l)
  where
    at : (o : Option Joined) → cons_option (option_and_then (number_of s) o) (filter_map (number_of s) (filter_map commitment_told ls)) ≡ filter_map (number_of s) (cons_option o (filter_map commitment_told ls))
    at None = refl
    at (Some j) = refl

-- whose line it is
commits_in : (s : Stream) (l : Line) (n : ℕ) → number_committed s l ≡ Some n → (j : Joined) × (commitment_told l ≡ Some j) × (j.stream ≡ s)
commits_in s l n e = at (commitment_told l) refl (sym (by_joined s l) ∙ e)
  where
    at : (o : Option Joined) → commitment_told l ≡ o → option_and_then (number_of s) o ≡ Some n → (j : Joined) × (commitment_told l ≡ Some j) × (j.stream ≡ s)
    at None f g = absurd (none_some g)
    at (Some j) f g = by (same_stream s j.stream) refl g
      where
        by : (b : Bool) → same_stream s j.stream ≡ b → cond b (Some j.number) None ≡ Some n → (i : Joined) × (commitment_told l ≡ Some i) × (i.stream ≡ s)
        by true same x = (j, f, same_stream_is s j.stream same)
        by false same x = absurd (none_some x)

module _ (known : List Identity) (apart : AreApart known) (c : Course) (k : IsKnown known c) (told : AreCommitmentsTold c) (ordered : AreCommittedInOrder c) (led : AreCommitmentsLed c) (once : AreExactlyOnce c) where
  abbrev o : IsOrderly known c
  o = k.orderly

  abbrev h : Agrees known c
  h = k.agrees

  abbrev all : List Line
  all = lines_written c.written

  abbrev guid_at : ℕ → Guid
  guid_at i = (manager_at c.network i).state.identity.guid

  abbrev made : ℕ → List Commitment
  made i = commitments (written_of i c.written)

  -- the commitment that a line tells
  commitment_of : (w : Written) (l : Line) (j : Joined) → In w c.written → In l (lines_of w.before w.entry) → commitment_told l ≡ Some j → (m : Commitment) × In m (made w.by) × (joined_by (guid_at w.by) m ≡ j)
  commitment_of w l j i inside e = mapped_from (joined_by (guid_at w.by)) (made w.by) j
      (subst (In j) (told w.by) (told_in commitment_told (lines_written (written_of w.by c.written)) l j (own_line known apart c o h w l i inside) e))

  -- Those of a manager that committed one of the stream.
  module _ (s : Stream) (i : ℕ) (own : guid_at i ≡ s.source) (first : Commitment) (there : In first (made i)) (sequence : first.position.sequence ≡ s.sequence) (destination : first.message.destination ≡ s.destination) where
    -- its sequence tells the stream
    same_as : (m : Commitment) → In m (made i) → same_stream s (joined_by (guid_at i) m).stream ≡ same_sequence m.position.sequence s.sequence
    same_as m inside = at (same_sequence m.position.sequence s.sequence) refl
      where
        t : Stream
        t = record { source = guid_at i; destination = m.message.destination; sequence = m.position.sequence }

        at : (b : Bool) → same_sequence m.position.sequence s.sequence ≡ b → same_stream s t ≡ b
        at true e = let same = same_sequence_is m.position.sequence s.sequence e in subst (λ (x : Stream). same_stream s x ≡ true) (sym (
            ap (λ g. record { source = g; destination = m.message.destination; sequence = m.position.sequence }) own
            ∙ ap (λ d. record { source = s.source; destination = d; sequence = m.position.sequence }) (one_destination known apart c k i m first inside there (same ∙ sym sequence) ∙ destination)
            ∙ ap (λ q. record { source = s.source; destination = s.destination; sequence = q }) same
            )) (same_stream_refl s)
        at false e = by (same_stream s t) refl
          where
            by : (b : Bool) → same_stream s t ≡ b → b ≡ false
            by false f = refl
            by true f = absurd (clash (sym (subst (λ (q : SequenceId). same_sequence q s.sequence ≡ true) (sym (ap (λ (x : Stream). x.sequence) (same_stream_is s t f))) (same_sequence_refl s.sequence)) ∙ e))

    numbers_are : (cs : List Commitment) → ((m : Commitment) → In m cs → In m (made i)) → filter_map (number_of s) (map (joined_by (guid_at i)) cs) ≡ numbers_in s.sequence cs
    numbers_are [] sub = refl
    numbers_are (m ∷ cs) sub = ap (λ b. cons_option (cond b (Some m.position.number) None) (filter_map (number_of s) (map (joined_by (guid_at i)) cs))) (same_as m (sub m (inl refl)))
        ∙ ap (cons_option (number_in s.sequence m)) (numbers_are cs (λ x j. sub x (inr j)))

    numbered_by : filter_map (number_committed s) all ≡ filter_map (number_committed s) (lines_written (written_of i c.written)) → filter_map (number_committed s) all ≡ range_with_len 1 (length (filter_map (number_committed s) all))
    numbered_by only = let same = only ∙ through s (lines_written (written_of i c.written)) ∙ ap (filter_map (number_of s)) (told i) ∙ numbers_are (made i) (λ m j. j) in
        subst (λ ns. ns ≡ range_with_len 1 (length ns)) (sym same) ((ordered i).numbered s.sequence)

  numbered : (s : Stream) → filter_map (number_committed s) all ≡ range_with_len 1 (length (filter_map (number_committed s) all))
  numbered s = at (filter_map (number_committed s) all) refl
    where
      from : (n : ℕ) → In n (filter_map (number_committed s) all) → filter_map (number_committed s) all ≡ range_with_len 1 (length (filter_map (number_committed s) all))
      from n i = numbered_by s w.0.by own m.0 m.1 (ap (λ (j : Joined). j.stream.sequence) m.2 ∙ ap (λ (x : Stream). x.sequence) g.2) (ap (λ (j : Joined). j.stream.destination) m.2 ∙ ap (λ (x : Stream). x.destination) g.2)
          (only_by (number_committed s) w.0.by c.written one)
        where
          l : (l : Line) × In l all × (number_committed s l ≡ Some n)
          l = told_from (number_committed s) all n i

          w : (w : Written) × In w c.written × In l.0 (lines_of w.before w.entry)
          w = written_in known apart c o h l.0 l.1

          g : (j : Joined) × (commitment_told l.0 ≡ Some j) × (j.stream ≡ s)
          g = commits_in s l.0 n l.2

          m : (m : Commitment) × In m (made w.0.by) × (joined_by (guid_at w.0.by) m ≡ g.0)
          m = commitment_of w.0 l.0 g.0 w.1 w.2 g.1

          own : guid_at w.0.by ≡ s.source
          own = ap (λ (j : Joined). j.stream.source) m.2 ∙ ap (λ (x : Stream). x.source) g.2

          one : (v : Written) (x : Line) (p : ℕ) → In v c.written → In x (lines_of v.before v.entry) → number_committed s x ≡ Some p → v.by ≡ w.0.by
          one v x p j inside e = let f = commits_in s x p e in let y = commitment_of v x f.0 j inside f.1 in
              one_writer known apart c k v w.0 j w.1 (ap (λ (z : Joined). z.stream.source) y.2 ∙ ap (λ (z : Stream). z.source) f.2 ∙ sym own)

      at : (ns : List ℕ) → filter_map (number_committed s) all ≡ ns → filter_map (number_committed s) all ≡ range_with_len 1 (length (filter_map (number_committed s) all))
      at [] e = subst (λ ns. ns ≡ range_with_len 1 (length ns)) (sym e) refl
      at (n ∷ ns) e = from n (subst (In n) (sym e) (inl refl))

  pub exactly_once_told : IsAccounted known c → IsExactlyOnceTold all
  exactly_once_told t = record {
    numbered = numbered;
    committed_in_order = committed_rises known apart c k told led once;
    apart = λ id. let one = begun_once known apart c t id in let a = times_is sent_in id all in let same = sent_word id all in omega (arith, one, a, same);
    in_order = in_order known apart c k;
    committed = λ before behind l s n id split says. committed_before known apart c k before behind l s n id split says;
    none_skipped = λ before behind l s n m id split says positive less. none_skipped known apart c k before behind l s n id split says m positive less;
    expired = expired_apart known apart c k;
  }

-- The law.
pub ledger_is_exactly_once : AlwaysExactlyOnceTold
ledger_is_exactly_once known ms apart run kept = let c = settled kept (after_run known ms) in let h = agreeing known apart ms run kept in exactly_once_told known apart c (record {
  orderly = h.0;
  agrees = h.1;
  rowed = always_by_records AreRowed rowed_by_records known ms apart run kept;
  truly = always_decided_truly known ms apart run kept;
  rise = always_decided_in_order known ms apart run kept;
  by_one = always_decided_by_one known ms apart run kept;
  unskipped = always_unskipped known ms apart run kept;
  duly = always_expired_duly known ms apart run kept;
  kept = always_offers_kept known ms apart run kept;
  undecided = always_undecided known ms apart run kept;
}) (always_told_commitments known ms apart run kept) (always_committed_in_order known ms apart run kept) (always_commitments_led known ms apart run kept)
    (always_exactly_once always_one_stream_world known ms apart run kept) (always_accounted known apart ms run kept)
