-- Parts that join one after the other, as loops do.
use Rattle.std.proofs.Common.{◌≡◌, ◌≤◌, ◌<◌, ◌+◌, ◌-◌, ℕ, suc, Result, Ok, sym, ap, ◌∙◌, arith}
use Rattle.mqb_entries.specs.declared.faults.EntryFault.{EntryFault}
use Rattle.mqb_fields.specs.Reading.{◌>>=◌, Reading}
use Rattle.mqb_snapshot.specs.Parts.{Parts, each_joined, joined}

abbrev pub Part : Type 0
Part = Parts → Reading → Result (Parts × Reading) EntryFault

-- so far the first ones of so many joined: those that are left give what all give
pub record JoinedSoFar (part : Part) (count k : ℕ) (old : Parts) (start : Reading) (new : Parts) (now : Reading) : Type 0 where
  pub within : k ≤ count
  pub left : joined (count - k) part new now ≡ joined count part old start

pub join_more : {part : Part} {count k : ℕ} {old : Parts} {start : Reading} {new : Parts} {now : Reading} (newer : Parts) (later : Reading)
    → JoinedSoFar part count k old start new now → k < count → part new now ≡ Ok (newer, later) → JoinedSoFar part count (k + 1) old start newer later
join_more {part} {count} {k} {old} {start} {new} {now} newer later s within is =
    let next : count - k ≡ suc (count - (k + 1)) = omega (arith, within) in
    record {
      within = omega (arith, within);
      left = sym (ap (λ n. joined n part new now) next ∙ ap (λ (given : Result (Parts × Reading) EntryFault). given >>= λ x. joined (count - (k + 1)) part x.0 x.1) is) ∙ s.left;
    }

-- the same of parts of which there is one for each index
pub record EachSoFar (part : ℕ → Part) (count k : ℕ) (old : Parts) (start : Reading) (new : Parts) (now : Reading) : Type 0 where
  pub within : k ≤ count
  pub left : each_joined (count - k) k part new now ≡ each_joined count 0 part old start

pub each_more : {part : ℕ → Part} {count k : ℕ} {old : Parts} {start : Reading} {new : Parts} {now : Reading} (newer : Parts) (later : Reading)
    → EachSoFar part count k old start new now → k < count → part k new now ≡ Ok (newer, later) → EachSoFar part count (k + 1) old start newer later
each_more {part} {count} {k} {old} {start} {new} {now} newer later s within is =
    let next : count - k ≡ suc (count - (k + 1)) = omega (arith, within) in
    let behind : suc k ≡ k + 1 = omega arith in
    record {
      within = omega (arith, within);
      left = sym (ap (λ n. each_joined n k part new now) next ∙ (ap (λ (given : Result (Parts × Reading) EntryFault). given >>= λ x. each_joined (count - (k + 1)) (suc k) part x.0 x.1) is
          ∙ ap (λ n. each_joined (count - (k + 1)) n part newer later) behind)) ∙ s.left;
    }
