-- The two halves of a checkpoint, as the journal makes them.
use Rattle.std.proofs.Common.{◌≡◌, inl, ℕ, ◌+◌, ◌^◌, ◌<◌, ◌≤◌, false, ◌&&◌, List, [], ◌∷◌, length, take, Some, is_none, sym, ◌∙◌, ap, subst, arith}
use Rattle.std.specs.Prelude.{nat_lt}
use Rattle.std.proofs.lemmas.Bool.{or_parts, ltb-false}
use Rattle.mqb_fields.specs.Writing.{put_at}
use Rattle.mqb_outside.specs.Images.{Each, Follows}
use Rattle.mqb_outside.specs.Disk.{View, IsSettled, LeavesOnly}
use Rattle.mqb_outside.specs.lemmas.Runs.{weaker, then_on}
use Rattle.mqb_layout.specs.declared.limits.TheConstants.{MAX_BASE, MOST_HEAD, AREA}
use Rattle.mqb_layout.specs.declared.layout.Layout.{Layout}
use Rattle.mqb_journal.specs.Store.{Base, After, StandsFor, IsOldOrNew}
use Rattle.mqb_journal.specs.States.{JournalState, is_too_far}
use Rattle.mqb_layout.specs.Layouts.{IsWithinStore, head_behind, layout_then, area_size}
use Rattle.mqb_journal.specs.Journals.{GoesOn, StandsIn}
use Rattle.mqb_journal.specs.Gates.{IsTornFrom, IsSwitchedFrom}
use Rattle.mqb_layout.specs.Checkpoints.{block_for, block_place, mark_for, mark_place, switch_place, switch_byte}
use Rattle.mqb_journal.specs.Checkpoints.{IsStaged, IsRewritten}
use Rattle.mqb_journal.proofs.Regions.{length-chained}
use Rattle.mqb_journal.proofs.Writes.{HasWritten}
use Rattle.mqb_journal.proofs.Moments.{block_ends, switch_before, staged, first_half, second_half, as_made, written_for, stands_at_end, length-switched}

-- what is written for a base, and where
pub record Made (j : JournalState) (base : List ℕ) (next : Layout) (at : ℕ) (block : List ℕ) (mark : ℕ) (bytes : List ℕ) : Type 0 where
  pub next_is : next ≡ layout_then j.later j.end (length base)
  pub at_is : at ≡ block_place j.later j.end (length base)
  pub block_is : block ≡ block_for j.later j.end j.count base
  pub mark_is : mark ≡ mark_place j.later
  pub bytes_is : bytes ≡ mark_for j.later j.end (length base)
  pub within : IsWithinStore j.later j.end
  pub bound : j.end < 2 ^ 62
  pub near : is_too_far j ≡ false
  pub small : length base ≤ MAX_BASE

pub made : (i j : JournalState) (base : List ℕ) (next : Layout) (at : ℕ) (block : List ℕ) (mark : ℕ) (bytes : List ℕ) → i ≡ j
    → next ≡ layout_then j.later j.end (length base) → block ≡ block_for j.later j.end j.count base
    → ((b : ℕ) → next ≡ layout_then i.later i.end b → at ≡ block_place i.later i.end b) → mark ≡ mark_place i.later
    → ((e b : ℕ) → next ≡ layout_then i.later e b → bytes ≡ mark_for i.later e b)
    → IsWithinStore i.later i.end → i.end < 2 ^ 62 → is_too_far j ≡ false → length base ≤ MAX_BASE → Made j base next at block mark bytes
made i j base next at block mark bytes same next_is block_is at_of mark_is bytes_of within bound near small =
    subst (λ (k : JournalState). Made k base next at block mark bytes) same (record {
      next_is = next_i;
      at_is = at_of (length base) next_i;
      block_is = subst (λ (k : JournalState). block ≡ block_for k.later k.end k.count base) (sym same) block_is;
      mark_is = mark_is;
      bytes_is = bytes_of i.end (length base) next_i;
      within = within;
      bound = bound;
      near = subst (λ (k : JournalState). is_too_far k ≡ false) (sym same) near;
      small = small;
    })
  where
    next_i : next ≡ layout_then i.later i.end (length base)
    next_i = subst (λ (k : JournalState). next ≡ layout_then k.later k.end (length base)) (sym same) next_is

module _ (j : JournalState) (base : List ℕ) (next : Layout) (at : ℕ) (block : List ℕ) (mark : ℕ) (bytes : List ℕ) (m : Made j base next at block mark bytes) where
  abbrev end : ℕ
  end = next.place + AREA + length base

  written : (image mid : List ℕ) → j.end < length image → mid ≡ put_at (put_at image at block) mark bytes
      → HasWritten (block_place j.later j.end (length base)) (block_for j.later j.end j.count base) (mark_place j.later) (mark_for j.later j.end (length base)) image mid
  written image mid long is = written_for j.later j.end j.count base at block mark bytes image mid m.at_is m.block_is m.mark_is m.bytes_is m.within long is

  ends : block_place j.later j.end (length base) + length (block_for j.later j.end j.count base) ≡ end + 1
  ends = block_ends j.later j.end j.count base ∙ ap (λ (k : Layout). k.place + AREA + length base + 1) (sym m.next_is)

  pub long_enough : (image mid : List ℕ) → j.end < length image → mid ≡ put_at (put_at image at block) mark bytes → end + 1 ≤ length mid
  long_enough image mid long is = let room = (written image mid long is).long in omega (arith, room, ends)

  pub area_within : (most : ℕ) → at + length block ≤ most → end + 1 ≤ most
  area_within most fits = omega (arith, fits, ends, m.at_is, ap length m.block_is)

  pub below : switch_place j.later < end
  below = let there = switch_before j.later j.end (length base) m.within in omega (arith, there, ap (λ (k : Layout). k.place) m.next_is)

  pub ready : (guid : List ℕ) (d e : View) (old : Base) (records : List (List ℕ)) → guid ≡ j.guid.0 → GoesOn d j old records
      → Follows (λ image mid. mid ≡ put_at (put_at image at block) mark bytes) d.reads e.reads → Each e.reads (IsStaged guid j.later old records next end (After j.count base))
  ready guid d e old records guid_is on follows mid told =
      let from = follows mid told in
      let is = on.stands from.0 from.1 in
      let long : j.end < length from.0 = omega (arith, on.end, length-chained on.first records from.0 is.stands) in
      let near = or_parts (is_none j.later && nat_lt MOST_HEAD (head_behind j.end)) (nat_lt (2 ^ 63) j.count) m.near in
      subst (λ (g : List ℕ). IsStaged g j.later old records next end (After j.count base) mid) (sym guid_is)
      (subst (λ (k : Layout). IsStaged j.guid.0 j.later old records k (k.place + AREA + length base) (After j.count base) mid) (sym m.next_is)
      (staged j.guid.0 j.later on.first j.end old records j.count base from.0 mid on.small is on.end (written from.0 mid long from.2) (ltb-false (2 ^ 63) j.count near.1) m.small m.bound near.0))

  pub old_stands : (d e : View) (old : Base) (records : List (List ℕ)) (k n : ℕ) → k ≡ length block → n ≡ length bytes → GoesOn d j old records → IsSettled d
      → LeavesOnly d e (IsTornFrom mark n (IsTornFrom at k d.leaves)) → LeavesOnly d e (IsOldOrNew j.guid.0 old (After j.count base) records)
  old_stands d e old records k n k_is n_is on settled run =
      weaker d e (StandsFor j.guid.0 old records) (IsOldOrNew j.guid.0 old (After j.count base) records)
      (first_half d e j.guid.0 j.later on.first j.end old records j.count base at k mark n m.at_is (k_is ∙ ap length m.block_is) m.mark_is (n_is ∙ ap length m.bytes_is) on.small on.stands on.end settled run)
      (λ c stands. inl stands)

  pub either_stands : (d e f : View) (old : Base) (records : List (List ℕ)) (k n s b stop : ℕ) → k ≡ length block → n ≡ length bytes → s ≡ switch_place j.later → b ≡ switch_byte j.later → stop ≡ end + 1
      → GoesOn d j old records → IsSettled d
      → LeavesOnly d e (IsTornFrom mark n (IsTornFrom at k d.leaves)) → Follows (λ image mid. mid ≡ put_at (put_at image at block) mark bytes) d.reads e.reads
      → LeavesOnly e f (IsSwitchedFrom s b stop e.reads) → LeavesOnly d f (IsOldOrNew j.guid.0 old (After j.count base) records)
  either_stands d e f old records k n s b stop k_is n_is s_is b_is stop_is on settled run follows later =
      then_on d e f (IsOldOrNew j.guid.0 old (After j.count base) records) (old_stands d e old records k n k_is n_is on settled run)
      (second_half e f j.guid.0 j.later old records next end j.count base s b stop s_is b_is stop_is below (ready j.guid.0 d e old records (λ _. j.guid.0) on follows) later)

  pub new_stands : (d e f : View) (old : Base) (records : List (List ℕ)) (s b stop : ℕ) → s ≡ switch_place j.later → b ≡ switch_byte j.later → stop ≡ end + 1
      → GoesOn d j old records → Follows (λ image mid. mid ≡ put_at (put_at image at block) mark bytes) d.reads e.reads
      → Follows (λ mid c. c ≡ take stop (put_at mid s (b ∷ []))) e.reads f.reads → Each f.reads (StandsIn j.guid.0 (Some next) end (After j.count base) [])
  new_stands d e f old records s b stop s_is b_is stop_is on follows switched c told =
      let from = switched c told in
      stands_at_end j.guid.0 j.later old records next end j.count base s b stop from.0 c s_is b_is stop_is below (ready j.guid.0 d e old records (λ _. j.guid.0) on follows from.0 from.1) from.2

  pub lengths : (d e f : View) (s b stop : ℕ) → s ≡ switch_place j.later → stop ≡ end + 1 → Each d.reads (λ c. j.end < length c)
      → Follows (λ image mid. mid ≡ put_at (put_at image at block) mark bytes) d.reads e.reads
      → Follows (λ mid c. c ≡ take stop (put_at mid s (b ∷ []))) e.reads f.reads → Each f.reads (λ c. length c ≡ next.place + area_size (length base))
  lengths d e f s b stop s_is stop_is place follows switched c told =
      let mid = switched c told in
      let image = follows mid.0 mid.1 in
      let long : end + 1 ≤ length mid.0 = long_enough image.0 mid.0 (place image.0 image.1) image.2 in
      let low : switch_place j.later < end = below in
      length-switched s b stop mid.0 c (omega (arith, s_is, stop_is)) (omega (arith, stop_is)) mid.2 ∙ omega (arith, stop_is)

  pub rewritten : (d e f : View) (s b stop : ℕ) → s ≡ switch_place j.later → b ≡ switch_byte j.later → stop ≡ end + 1
      → Follows (λ image mid. mid ≡ put_at (put_at image at block) mark bytes) d.reads e.reads
      → Follows (λ mid c. c ≡ take stop (put_at mid s (b ∷ []))) e.reads f.reads → Follows (IsRewritten j.later j.end j.count base) d.reads f.reads
  rewritten d e f s b stop s_is b_is stop_is follows switched c told =
      let mid = switched c told in
      let image = follows mid.0 mid.1 in
      let size : ℕ = length base in
      let laid : List ℕ = put_at (put_at image.0 (block_place j.later j.end size) (block_for j.later j.end j.count base)) (mark_place j.later) (mark_for j.later j.end size) in
      let laid_is : mid.0 ≡ laid = as_made j.later j.end j.count base at block mark bytes image.0 mid.0 m.at_is m.block_is m.mark_is m.bytes_is image.2 in
      let whole : stop ≡ (layout_then j.later j.end size).place + area_size size =
      stop_is ∙ ap (λ (k : Layout). k.place + AREA + size + 1) m.next_is ∙ (let same : (layout_then j.later j.end size).place + AREA + size + 1 ≡ (layout_then j.later j.end size).place + area_size size = omega arith in same) in (
        image.0,
        image.1,
        mid.2
            ∙ ap (λ (l : List ℕ). take stop (put_at l s (b ∷ []))) laid_is
            ∙ ap (λ (k : ℕ). take k (put_at laid s (b ∷ []))) whole
            ∙ ap (λ (k : ℕ). take ((layout_then j.later j.end size).place + area_size size) (put_at laid k (b ∷ []))) s_is
            ∙ ap (λ (k : ℕ). take ((layout_then j.later j.end size).place + area_size size) (put_at laid (switch_place j.later) (k ∷ []))) b_is,
      )
