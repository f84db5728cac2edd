use Rattle.std.proofs.Common.{◌≡◌, ◌<◌, ℕ, List, length, get_or, set, ap, ◌∙◌, subst}
use Rattle.std.specs.Char.{to_ascii_lowercase}
use Rattle.mqb_queue.proofs.Keys.{name_is_short, one_more_byte}
use Rattle.mqb_queue.proofs.name_keys.name_key.Goals as goal

pub loop-k-preserved : goal.loop-k-preserved
loop-k-preserved c =
    let same : c.as_slice-byte-items.result.now ≡ c.args.name.now = c.as_slice-byte-items.ensures.bytes in
    let within : c.loop-k.k < length c.args.name.now = subst (λ (l : List ℕ). c.loop-k.k < length l) same c.loop-k-test.true in
    ap (λ x. set c.loop-k.key c.loop-k.k x) (c.to_ascii_lowercase.ensures.value ∙ ap (λ (l : List ℕ). to_ascii_lowercase (get_or l c.loop-k.k 0)) same)
    ∙ one_more_byte c.args.name.now c.loop-k.key c.loop-k.k within (name_is_short c.args.name.now c.as_slice-byte-items.ensures.name) c.loop-k.invariant
