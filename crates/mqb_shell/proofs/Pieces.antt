-- Pieces that were taken one after another.
use Rattle.std.proofs.Common.{[], ◌+◌, ◌++◌, ◌-◌, ◌≡◌, ◌∙◌, List, Option, ap, append-nil, drop, length, refl, subst, sym, take, ℕ}
use Rattle.std.proofs.Math.Seq.{take-add}
use Rattle.std.proofs.lemmas.List.{take-append-drop, take_rest}
use Rattle.mqb_commands.specs.declared.status.Status.{Status}
use Rattle.mqb_shell.specs.Answered.{GoesOver, Keeps, StopsIn}
use Rattle.mqb_shell.specs.Lines.{IsOneLine}
use Rattle.mqb_shell.specs.Standing.{Standing}
use Rattle.mqb_shell.specs.declared.asking.TheConstants.{MAX_LINE}
use Rattle.mqb_shell.proofs.Chains.{goes_then, stops_then}

-- nothing yet
pub keeps_none : {steady : Option ℕ} {held kept : List ℕ} {b : Standing} {before : Option (List ℕ)} → kept ≡ take (MAX_LINE + 1) held → IsOneLine held
    → Keeps steady held [] kept b b before before
keeps_none {steady} {held} is one = record {
  held_now = held;
  kept_of = is;
  goes = record { done = []; cut = record { whole = append-nil held; each = tt }; one = one; answers = (refl, refl) };
}

module _ {steady steady_now : Option ℕ} {held x y kept : List ℕ} {b m a : Standing} {before told after : Option (List ℕ)} (same : steady_now ≡ steady)
    (first : Keeps steady held x kept b m before told) where
  pub keeps_then : {kept_now : List ℕ} → ((text : List ℕ) → kept ≡ take (MAX_LINE + 1) text → IsOneLine text → Keeps steady_now text y kept_now m a told after)
      → Keeps steady held (x ++ y) kept_now b a before after
  keeps_then second =
      let next = second first.held_now first.kept_of first.goes.one in
      record {
        held_now = next.held_now;
        kept_of = next.kept_of;
        goes = goes_then first.goes (subst (λ (s : Option ℕ). GoesOver s first.held_now y next.held_now m a told after) same next.goes);
      }

  pub stops_behind : {r : Status} → ((text : List ℕ) → kept ≡ take (MAX_LINE + 1) text → IsOneLine text → StopsIn steady_now text y m a told after r)
      → StopsIn steady held (x ++ y) b a before after r
  stops_behind {r} second =
      stops_then first.goes (subst (λ (s : Option ℕ). StopsIn s first.held_now y m a told after r) same (second first.held_now first.kept_of first.goes.one))

-- as parts of one piece

pub front_more : (piece : List ℕ) (at n : ℕ) → take at piece ++ take n (take (length piece - at) (drop at piece)) ≡ take (at + n) piece
front_more piece at n = ap (λ (rest : List ℕ). take at piece ++ take n rest) (take_rest piece at) ∙ sym (take-add at n piece)

pub all_behind : (piece : List ℕ) (at : ℕ) → take at piece ++ take (length piece - at) (drop at piece) ≡ piece
all_behind piece at = ap (λ (rest : List ℕ). take at piece ++ rest) (take_rest piece at) ∙ take-append-drop at piece
