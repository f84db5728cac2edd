-- Base and transaction headers, both ways.
use Rattle.std.proofs.Common.{◌≡◌, ◌≤◌, ◌<◌, ℕ, ◌+◌, ◌==◌, ◌&&◌, Bool, true, false, cond, leb, List, ◌++◌, length, Result, Ok, Err, refl, sym, ap, subst, ◌∙◌, arith}
use Rattle.std.proofs.lemmas.Bool.{leb-true, le-leb, eqb-true, and_parts}
use Rattle.mqb_base.specs.declared.heads.TxHead.{TxHead}
use Rattle.mqb_fields.specs.Faults.{fault_at}
use Rattle.mqb_fields.specs.Packets.{field_at, skipped}
use Rattle.mqb_fields.specs.Reading.{◌>>=◌, Reading, rest_of, moved}
use Rattle.mqb_heads.specs.mqb_names.Grammar.{◌then◌}
use Rattle.mqb_heads.specs.declared.base.BaseHead.{BaseHead}
use Rattle.mqb_heads.specs.Base.{version_at, flags_at, signature_at, size_at, base_at}
use Rattle.mqb_heads.specs.Flags.{bit, bits}
use Rattle.mqb_heads.specs.Transactions.{tx_at}
use Rattle.mqb_heads.specs.lemmas.ReadLaws.{bind_ok, if_ok, unless_ok}
use Rattle.mqb_packet.specs.Forms.{Free, Number}
use Rattle.mqb_packet.specs.Grammar.{BaseForm, BaseFlags, TxForm}
use Rattle.mqb_packet.proofs.Steps.{ok_is, Took, ◌&◌, in_form, Gives, Passes, gives_then, passes_then, gives_last}
use Rattle.mqb_packet.proofs.Fields.{field_took, skip_took, field_gives, skip_passes}

pub tx_took : (r : Reading) (x : TxHead × Reading) → tx_at r ≡ Ok x → Took (TxForm x.0) r x.1
unfolding tx_at
tx_took r x e =
    let flags = bind_ok (skipped 4 r) _ x e in
    let ordinal = bind_ok (field_at 4 flags.0) _ x flags.2 in
    let stamp = bind_ok (field_at 4 ordinal.0.1) _ x ordinal.2 in
    let number = bind_ok (field_at 4 stamp.0.1) _ x stamp.2 in
    let previous = bind_ok (field_at 4 number.0.1) _ x number.2 in
    subst (λ (x : TxHead × Reading). Took (TxForm x.0) r x.1) (ok_is _ x previous.2)
    (skip_took 4 r flags.0 flags.1 & field_took 4 flags.0 ordinal.0 ordinal.1 & field_took 4 ordinal.0.1 stamp.0 stamp.1
    & field_took 4 stamp.0.1 number.0 number.1 & field_took 4 number.0.1 previous.0 previous.1)

pub tx_gives : (head : TxHead) → Gives tx_at (TxForm head) head
unfolding tx_at
tx_gives head =
    passes_then (skipped 4) _ (Free 4) _ head (skip_passes 4)
    (gives_then (field_at 4) _ (Number 4 head.sequence.ordinal) _ head.sequence.ordinal head (field_gives 4 head.sequence.ordinal)
    (gives_then (field_at 4) _ (Number 4 head.sequence.stamp) _ head.sequence.stamp head (field_gives 4 head.sequence.stamp)
    (gives_then (field_at 4) _ (Number 4 head.number) _ head.number head (field_gives 4 head.number)
    (gives_last (field_at 4) (λ (previous : ℕ). record { sequence = head.sequence; number = head.number; previous = previous })
    (Number 4 head.previous) head.previous (field_gives 4 head.previous)))))

-- a number that has to be this one
version_took : (r end : Reading) → version_at r ≡ Ok end → Took (Number 1 0x10) r end
version_took r end e =
    let field = bind_ok (field_at 1 r) _ end e in
    let right = if_ok (field.0.0 == 0x10) _ field.0.1 end field.2 in
    subst (λ (end : Reading). Took (Number 1 0x10) r end) right.1
    (in_form (λ bytes is. (is.0, is.1 ∙ eqb-true _ _ right.0)) (field_took 1 r field.0 field.1))

signature_took : (r end : Reading) → signature_at r ≡ Ok end → Took (Number 4 0x524F494C) r end
signature_took r end e =
    let field = bind_ok (field_at 4 r) _ end e in
    let right = if_ok (field.0.0 == 0x524F494C) _ field.0.1 end field.2 in
    subst (λ (end : Reading). Took (Number 4 0x524F494C) r end) right.1
    (in_form (λ bytes is. (is.0, is.1 ∙ eqb-true _ _ right.0)) (field_took 4 r field.0 field.1))

flags_took : (r : Reading) (x : ℕ × Reading) → flags_at r ≡ Ok x → (bit 5 x.0 ≡ false) × Took (Number 2 x.0) r x.1
flags_took r x e =
    let field = bind_ok (field_at 2 r) _ x e in
    let none = unless_ok (bit 5 field.0.0) _ (Ok field.0) x field.2 in
    subst (λ (x : ℕ × Reading). (bit 5 x.0 ≡ false) × Took (Number 2 x.0) r x.1) (ok_is _ x none.1) (none.0, field_took 2 r field.0 field.1)

size_took : (r : Reading) (x : ℕ × Reading) → size_at r ≡ Ok x → (20 ≤ x.0) × (x.0 ≤ 4194304) × Took (Number 4 x.0) r x.1
size_took r x e =
    let field = bind_ok (field_at 4 r) _ x e in
    let fits = if_ok (leb 20 field.0.0 && leb field.0.0 4194304) _ field.0 x field.2 in
    let both = and_parts (leb 20 field.0.0) (leb field.0.0 4194304) fits.0 in
    subst (λ (x : ℕ × Reading). (20 ≤ x.0) × (x.0 ≤ 4194304) × Took (Number 4 x.0) r x.1) fits.1
    (leb-true _ _ both.0, leb-true _ _ both.1, field_took 4 r field.0 field.1)

pub base_took : (r : Reading) (x : BaseHead × Reading) → base_at r ≡ Ok x → Took (BaseForm x.0) r x.1
unfolding base_at
base_took r x e =
    let version = bind_ok (version_at r) _ x e in
    let reserved = bind_ok (skipped 1 version.0) _ x version.2 in
    let flags = bind_ok (flags_at reserved.0) _ x reserved.2 in
    let signature = bind_ok (signature_at flags.0.1) _ x flags.2 in
    let size = bind_ok (size_at signature.0) _ x signature.2 in
    let reach = bind_ok (field_at 4 size.0.1) _ x size.2 in
    let word = flags_took reserved.0 flags.0 flags.1 in
    let sized = size_took signature.0 size.0 size.1 in
    subst (λ (x : BaseHead × Reading). Took (BaseForm x.0) r x.1) (ok_is _ x reach.2)
    (in_form (λ bytes is. (flags.0.0, record { priority = refl; internal = refl; session = refl; debug = word.0 }, sized.0, sized.1, is))
    (version_took r version.0 version.1 & skip_took 1 version.0 reserved.0 reserved.1 & word.1
    & signature_took flags.0.1 signature.0 signature.1 & sized.2 & field_took 4 size.0.1 reach.0 reach.1))

version_passes : Passes version_at (Number 1 0x10)
version_passes r bytes rest e form = rw (field_gives 1 0x10 r bytes rest e form) refl

signature_passes : Passes signature_at (Number 4 0x524F494C)
signature_passes r bytes rest e form = rw (field_gives 4 0x524F494C r bytes rest e form) refl

flags_gives : (word : ℕ) → bit 5 word ≡ false → Gives flags_at (Number 2 word) word
flags_gives word none r bytes rest e form = rw (field_gives 2 word r bytes rest e form, none) refl

size_gives : (size : ℕ) → 20 ≤ size → size ≤ 4194304 → Gives size_at (Number 4 size) size
size_gives size least most r bytes rest e form = rw (field_gives 4 size r bytes rest e form, le-leb _ _ least, le-leb _ _ most) refl

pub base_gives : (head : BaseHead) → Gives base_at (BaseForm head) head
unfolding base_at
base_gives head r bytes rest e (flags, word, least, most, form) =
    let made : BaseHead = record { priority = bits 0 3 flags; internal = bit 3 flags; session = bit 4 flags; size = head.size; reach = head.reach } in
    let same : made ≡ head = ap (λ (x : ℕ × Bool × Bool). record { priority = x.0; internal = x.1; session = x.2; size = head.size; reach = head.reach }) (rw (word.priority, word.internal, word.session) refl) in
    (passes_then version_at _ (Number 1 0x10) _ made version_passes
    (passes_then (skipped 1) _ (Free 1) _ made (skip_passes 1)
    (gives_then flags_at _ (Number 2 flags) _ flags made (flags_gives flags word.debug)
    (passes_then signature_at _ (Number 4 0x524F494C) _ made signature_passes
    (gives_then size_at _ (Number 4 head.size) _ head.size made (size_gives head.size least most)
    (gives_last (field_at 4) (λ (reach : ℕ). record { priority = bits 0 3 flags; internal = bit 3 flags; session = bit 4 flags; size = head.size; reach = reach })
    (Number 4 head.reach) head.reach (field_gives 4 head.reach))))))) r bytes rest e form
    ∙ ap (λ (h : BaseHead). Ok (h, moved (length bytes) r)) same
