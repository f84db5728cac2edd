-- What two writes leave, of which the second stands before the first.
use Rattle.std.proofs.Common.{◌≡◌, inr, ◌⊎◌, ℕ, ◌+◌, ◌-◌, ◌<◌, ◌≤◌, List, length, slice_index, refl, ◌∙◌, arith}
use Rattle.mqb_fields.specs.Writing.{put_at}
use Rattle.mqb_outside.specs.Images.{Torn}
use Rattle.mqb_outside.specs.lemmas.Steps.{length-written, written_torn}
use Rattle.mqb_layout.specs.Store.{part}
use Rattle.mqb_journal.proofs.Bytes.{same_part, torn_same, written_part, written_same}

-- new is old but for m bytes at one place and n at another, and is no shorter
pub record Differs (at m mark n : ℕ) (old new : List ℕ) : Type 0 where
  pub same : (i : ℕ) → (i < at) ⊎ (at + m ≤ i) → (i < mark) ⊎ (mark + n ≤ i) → slice_index new i ≡ slice_index old i
  pub long : length old ≤ length new

-- the block and the mark stand there
pub record HasWritten (at : ℕ) (block : List ℕ) (mark : ℕ) (bytes old new : List ℕ) : Type 0 where
  pub differs : Differs at (length block) mark (length bytes) old new
  pub has_block : part at (length block) new ≡ block
  pub has_mark : part mark (length bytes) new ≡ bytes
  pub long : at + length block ≤ length new

pub torn_both : (at m mark n : ℕ) (old mid new : List ℕ) → Torn at m old mid → Torn mark n mid new → Differs at m mark n old new
torn_both at m mark n old mid new first second = record {
  same = λ i apart beside. torn_same mark n mid new second i beside ∙ torn_same at m old mid first i apart;
  long = omega (arith, first.no_shorter, second.no_shorter);
}

pub written_both : (at : ℕ) (block : List ℕ) (mark : ℕ) (bytes old new : List ℕ) → at ≤ length old → mark + length bytes ≤ at → new ≡ put_at (put_at old at block) mark bytes
    → HasWritten at block mark bytes old new
written_both at block mark bytes old new place apart is =
    let mid : List ℕ = put_at old at block in
    let size : length mid ≡ at + length block + (length old - (at + length block)) = length-written at block old mid place refl in
    let more : length new ≡ mark + length bytes + (length mid - (mark + length bytes)) = length-written mark bytes mid new (omega (arith, size)) is in
    record {
      differs = torn_both at (length block) mark (length bytes) old mid new (written_torn at (length block) block old mid place (omega arith) refl)
          (written_torn mark (length bytes) bytes mid new (omega (arith, size)) (omega arith) is);
      has_block = same_part mid new at (length block) (omega (arith, size)) (omega (arith, size, more)) (λ i lo hi. written_same mark bytes mid new (omega (arith, size)) is i (inr (omega (arith, lo))))
          ∙ written_part at block old mid place refl;
      has_mark = written_part mark bytes mid new (omega (arith, size)) is;
      long = omega (arith, size, more);
    }
