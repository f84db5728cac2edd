-- Members that are passed one after the other, as a loop does.
use Rattle.std.proofs.Common.{◌≡◌, ℕ, suc, ◌-◌, ◌+◌, ◌≤◌, ◌<◌, List, ◌∷◌, Result, Ok, Err, refl, sym, ◌∙◌, arith}
use Rattle.mqb_fields.specs.Reading.{◌>>=◌, Reading}
use Rattle.mqb_entries.specs.declared.faults.EntryFault.{EntryFault}
use Rattle.mqb_entries.specs.Lists.{many, passed}

abbrev pub Member : Type 0 → Type 0
Member X = Reading → Result (X × Reading) EntryFault

abbrev consed : {X : Type 0} → X → List X × Reading → Result (List X × Reading) EntryFault
consed x xs = Ok (x ∷ xs.0, xs.1)

abbrev ended : {X : Type 0} → List X × Reading → Result Reading EntryFault
ended xs = Ok xs.1

same_end : {X : Type 0} (x : X) (others : Result (List X × Reading) EntryFault) → ((others >>= consed x) >>= ended) ≡ (others >>= ended)
same_end x (Ok xs) = refl
same_end x (Err fault) = refl

pub goes_on : {X : Type 0} (member : Member X) (count i : ℕ) (r after : Reading) (x : X) (total : Result Reading EntryFault)
    → i < count → member r ≡ Ok (x, after) → passed member (count - i) r ≡ total → passed member (count - (i + 1)) after ≡ total
unfolding passed
goes_on member count i r after x total lt one so_far =
    let k : count - i ≡ suc (count - (i + 1)) = omega arith in
    let step : passed member (count - i) r ≡ passed member (count - (i + 1)) after = rw (k, one) (same_end x (many member (count - (i + 1)) after)) in
    sym step ∙ so_far

pub ends : {X : Type 0} (member : Member X) (count i : ℕ) (r : Reading) (fault : EntryFault) (total : Result Reading EntryFault)
    → i < count → member r ≡ Err fault → passed member (count - i) r ≡ total → total ≡ Err fault
unfolding passed
ends member count i r fault total lt one so_far =
    let k : count - i ≡ suc (count - (i + 1)) = omega arith in
    let step : passed member (count - i) r ≡ Err fault = rw (k, one) refl in
    sym so_far ∙ step

pub is_done : {X : Type 0} (member : Member X) (count i : ℕ) (r : Reading) (total : Result Reading EntryFault)
    → count ≤ i → passed member (count - i) r ≡ total → total ≡ Ok r
unfolding passed
is_done member count i r total le so_far =
    let k : count - i ≡ 0 = omega arith in
    let step : passed member (count - i) r ≡ Ok r = rw k refl in
    sym so_far ∙ step
