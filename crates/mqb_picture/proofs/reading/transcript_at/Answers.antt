use Rattle.std.proofs.Common.{◌≡◌, ◌∙◌, List, ℕ, codes, sym, rules, tests, Bor}
use Rattle.std.specs.List.{position}
use Rattle.std.proofs.lemmas.Iterator.{YieldsList-from_slice}
use Rattle.std.proofs.lemmas.Iterator.Search.{position_from_yields_List}
use Rattle.mqb_base.specs.Same.{same_bytes}
use Rattle.mqb_picture.proofs.Found.{position-map}
use Rattle.mqb_picture.proofs.reading.transcript_at.Goals as goal

pub returns : goal.returns
returns c =
    let at : c.position.result ≡ position (λ (line : Bor (List ℕ)). same_bytes line.now (codes "transcript")) c.args.lines.now =
    position_from_yields_List (λ (line : Bor (List ℕ)). same_bytes line.now (codes "transcript")) _ _ c.position.result c.position.ensures.ran
    (YieldsList-from_slice c.args.lines.now c.iter.ensures.rest) (λ x b q k. search (rules, tests)) in
    at ∙ sym (position-map (λ (line : List ℕ). same_bytes line (codes "transcript")) (λ (line : Bor (List ℕ)). line.now) c.args.lines.now)
