use Rattle.std.proofs.Common.{◌≡◌, ℕ, ◌-◌, ◌++◌, Bor, IfOk, List, drop, is_some, length, map, take, ap, arith, subst, ◌∙◌}
use Rattle.mqb_words.specs.Words.{command_of}
use Rattle.mqb_words.proofs.Fronts.{alone, joined, whole}
use Rattle.mqb_words.proofs.misfits.begins.Goals.{then-count-sample+in_ok-extend_from_slice-2, else-count-sample}
use Rattle.mqb_words.proofs.misfits.begins.Goals as goal

pub returns : goal.returns
returns c =
    let bytes : Bor (List ℕ) → List ℕ = λ word. word.now in
    let words : List (Bor (List ℕ)) = c.args.words.now in
    let sample : List (Bor (List ℕ)) = c.args.sample.now in
    let count : ℕ = c.args.count in
    let front = c.in_ok-extend_from_slice.ensures.items ∙ ap (λ (l : List (Bor (List ℕ))). l ++ take count words) c.new-tried.ensures.items in
    let tried : map bytes c.if-count-sample.tried.items ≡ take count (map bytes words) ++ drop count (map bytes sample) =
    elim c.if-count-sample.branch [
      | then-count-sample+in_ok-extend_from_slice-2 w ↦
          let behind = w.in_ok-extend_from_slice-2.ensures.items ∙ ap (λ (l : List (Bor (List ℕ))). l ++ take (length sample - count) (drop count sample)) front in
          rw w.tried-is (ap (map bytes) (behind ∙ ap (λ (l : List (Bor (List ℕ))). take count words ++ l) (whole count sample)) ∙ joined bytes words sample count)
      | else-count-sample w ↦
          rw w.tried-is (ap (map bytes) front ∙ alone bytes words sample count (omega (arith, w.if-count-sample.false)))
    ] in
    let same : map bytes c.deref.result.now ≡ take count (map bytes words) ++ drop count (map bytes sample) =
    ap (map bytes) c.deref.ensures.value ∙ tried in
    subst (λ (w : List (List ℕ)). IfOk c.is_command.result (λ is. is ≡ is_some (command_of w))) same c.is_command.ensures
