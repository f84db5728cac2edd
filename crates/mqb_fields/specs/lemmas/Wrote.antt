-- What is written part by part is written as one.
use Rattle.std.proofs.Common.{◌≡◌, ◌≤◌, ℕ, ◌+◌, List, ◌++◌, length, ap, subst, ◌∙◌}
use Rattle.std.proofs.Common.{arith, length-append}
use Rattle.mqb_fields.specs.Writing.{put_at, Wrote}
use Rattle.mqb_fields.specs.lemmas.Again.{length-put_at, put_then, put_all}

infixl 10 ◌>>◌
pub ◌>>◌ : {old mid new : List ℕ} {at split stop : ℕ} {x y : List ℕ} → Wrote old at x mid split
    → Wrote mid split y new stop → Wrote old at (x ++ y) new stop
◌>>◌ {old = old} {mid = mid} {new = new} {at = at} {split = split} {stop = stop} {x = x}
    {y = y} first second =
    let same : length mid ≡ length old = ap length first.put ∙ length-put_at old x at first.room in
    let both : length (x ++ y) ≡ length x + length y = length-append x y in
    record {
      room = omega (arith, first.end, second.room);
      put = second.put ∙ ap (λ (list : List ℕ). put_at list split y) first.put
          ∙ ap (λ (n : ℕ). put_at (put_at old at x) n y) first.end ∙ put_then old x y at first.room;
      end = omega (arith, first.end, second.end);
    }

-- the same bytes, said otherwise
pub said : {old bytes new : List ℕ} {at stop : ℕ} (same : List ℕ) → bytes ≡ same
    → Wrote old at bytes new stop → Wrote old at same new stop
said {old = old} {new = new} {at = at} {stop = stop} same e wrote =
    subst (λ (list : List ℕ). Wrote old at list new stop) e wrote

-- a buffer that was filled
pub filled : {old bytes new : List ℕ} {stop : ℕ} → length old ≡ length bytes
    → Wrote old 0 bytes new stop → new ≡ bytes
filled {old = old} {bytes = bytes} all wrote = wrote.put ∙ put_all old bytes all
