use Rattle.std.proofs.Common.{List, ℕ, [], ◌∷◌, ap, length}
use Rattle.mqb_fields.specs.Writing.{bytes_of}
use Rattle.mqb_fields.specs.lemmas.Wrote.{◌>>◌, said}
use Rattle.mqb_heads.proofs.properties.put_fields.Goals as goal

pub returns : goal.returns
returns c =
    let size : List ℕ → List ℕ = λ part. bytes_of 4 (length part) in
    said _ (ap (λ (label : List ℕ). c.args.message.now.ack ∷ length label ∷ []) c.as_slice.ensures) c.put_bytes-class.ensures
    >> c.put_half-correlation.ensures >> c.put_id-body_type.ensures >> c.put_word-tag.ensures >> c.put_word-body.ensures
    >> said _ (ap size c.as_slice-2.ensures) c.put_word-allocated.ensures >> said _ (ap size c.as_slice-2.ensures) c.put_word-privacy.ensures
    >> c.put_zeros-extension.ensures >> said _ (ap size c.as_slice-3.ensures) c.put_word.ensures
