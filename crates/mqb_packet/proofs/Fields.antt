-- Fields of a packet, both ways.
use Rattle.std.proofs.Common.{◌≡◌, ◌≤◌, ◌<◌, ℕ, ◌+◌, ◌-◌, ◌==◌, Bool, true, false, cond, ltb, List, [], ◌++◌, length, take, drop, is_some, Option, Some, None, Result, Ok, Err, refl, sym, ap, subst, ◌∙◌, arith, length-drop}
use Rattle.std.proofs.lemmas.Bool.{ltb-false, le-ltb}
use Rattle.std.proofs.lemmas.List.{length-take-le, take_at}
use Rattle.mqb_base.specs.declared.ids.Guid.{Guid}
use Rattle.mqb_base.specs.declared.ids.MessageId.{MessageId}
use Rattle.mqb_fields.specs.declared.faults.HeadFault.{HeadFault}
use Rattle.mqb_fields.specs.declared.faults.Short as fields
use Rattle.mqb_fields.specs.Faults.{in_packet}
use Rattle.mqb_fields.specs.Guids.{swapped}
use Rattle.mqb_fields.specs.Packets.{field_at, lent_at, skipped}
use Rattle.mqb_fields.specs.Reading.{◌>>=◌, Reading, rest_of, moved, part_at, after, number_of, number_at, guid_at}
use Rattle.mqb_heads.specs.mqb_names.Grammar.{◌then◌, Exactly}
use Rattle.mqb_heads.specs.Fields.{source_at, id_at}
use Rattle.mqb_heads.specs.lemmas.FieldsAgain.{part_again}
use Rattle.mqb_heads.specs.lemmas.ReadLaws.{bind_ok, unless_ok}
use Rattle.mqb_packet.specs.Forms.{Free, Number, GuidForm, IdForm}
use Rattle.mqb_packet.proofs.Steps.{ok_is, Took, ◌&◌, in_form, taken, Gives, Passes, gives_then, gives_last}

packet_ok : {X : Type 0} (r : Result X fields.Short) (x : X) → in_packet r ≡ Ok x → r ≡ Ok x
packet_ok (Ok y) x e = cc
packet_ok (Err d) x e = absurd cc

-- so many bytes, as they stand
part_took : (count : ℕ) (r : Reading) (x : List ℕ × Reading) → part_at count r ≡ Ok x → Took (λ bytes. (bytes ≡ x.0) × (length bytes ≡ count)) r x.1
part_took count r x e =
    let read = unless_ok (ltb (length r.bytes - r.at) count) _ (Ok (take count (rest_of r), moved count r)) x e in
    let enough : count ≤ length r.bytes - r.at = ltb-false _ _ read.0 in
    subst (λ (x : List ℕ × Reading). Took (λ bytes. (bytes ≡ x.0) × (length bytes ≡ count)) r x.1) (ok_is _ x read.1)
    (taken count r (length-take-le count (rest_of r) (omega (arith, enough, length-drop r.at r.bytes))))

pub lent_took : (count : ℕ) (r : Reading) (x : List ℕ × Reading) → lent_at count r ≡ Ok x → Took (λ bytes. (bytes ≡ x.0) × (length bytes ≡ count)) r x.1
lent_took count r x e = part_took count r x (packet_ok (part_at count r) x e)

pub skip_took : (count : ℕ) (r end : Reading) → skipped count r ≡ Ok end → Took (Free count) r end
skip_took count r end e =
    let part = bind_ok (part_at count r) _ end (packet_ok (after count r) end e) in
    subst (λ (end : Reading). Took (Free count) r end) (ok_is _ end part.2) (in_form (λ bytes is. is.1) (part_took count r part.0 part.1))

pub field_took : (width : ℕ) (r : Reading) (x : ℕ × Reading) → field_at width r ≡ Ok x → Took (Number width x.0) r x.1
field_took width r x e =
    let part = bind_ok (part_at width r) _ x (packet_ok (number_at width r) x e) in
    subst (λ (x : ℕ × Reading). Took (Number width x.0) r x.1) (ok_is _ x part.2)
    (in_form (λ bytes is. (is.1, ap (number_of width) is.0)) (part_took width r part.0 part.1))

pub guid_took : (r : Reading) (x : List ℕ × Reading) → in_packet (guid_at r) ≡ Ok x → Took (GuidForm (record { 0 = x.0 })) r x.1
guid_took r x e =
    let part = bind_ok (part_at 16 r) _ x (packet_ok (guid_at r) x e) in
    subst (λ (x : List ℕ × Reading). Took (GuidForm (record { 0 = x.0 })) r x.1) (ok_is _ x part.2)
    (in_form (λ bytes is. (is.1, ap swapped is.0)) (part_took 16 r part.0 part.1))

pub source_took : (r : Reading) (x : Guid × Reading) → source_at r ≡ Ok x → Took (GuidForm x.0) r x.1
source_took r x e =
    let guid = bind_ok (in_packet (guid_at r)) _ x e in
    subst (λ (x : Guid × Reading). Took (GuidForm x.0) r x.1) (ok_is _ x guid.2) (guid_took r guid.0 guid.1)

pub id_took : (r : Reading) (x : MessageId × Reading) → id_at r ≡ Ok x → Took (IdForm x.0) r x.1
id_took r x e =
    let qm = bind_ok (source_at r) _ x e in
    let number = bind_ok (field_at 4 qm.0.1) _ x qm.2 in
    subst (λ (x : MessageId × Reading). Took (IdForm x.0) r x.1) (ok_is _ x number.2) (source_took r qm.0 qm.1 & field_took 4 qm.0.1 number.0 number.1)

pub field_gives : (width n : ℕ) → Gives (field_at width) (Number width n) n
field_gives width n r bytes rest e form =
    rw (part_again r bytes rest width form.0 e, form.1) (ap (λ (k : ℕ). Ok (n, moved k r)) (sym form.0))

pub skip_passes : (count : ℕ) → Passes (skipped count) (Free count)
skip_passes count r bytes rest e form = rw (part_again r bytes rest count form e) (ap (λ (k : ℕ). Ok (moved k r)) (sym form))

pub lent_gives : (count : ℕ) (part : List ℕ) → length part ≡ count → Gives (lent_at count) (Exactly part) part
lent_gives count part len r bytes rest e form =
    let is_long : length bytes ≡ count = ap length form ∙ len in
    rw (part_again r bytes rest count is_long e, form) (ap (λ (k : ℕ). Ok (part, moved k r)) (sym len))

pub guid_gives : (guid : Guid) → Gives (λ r. in_packet (guid_at r)) (GuidForm guid) guid.0
guid_gives guid r bytes rest e form =
    rw (part_again r bytes rest 16 form.0 e, form.1) (ap (λ (k : ℕ). Ok (guid.0, moved k r)) (sym form.0))

pub source_gives : (guid : Guid) → Gives source_at (GuidForm guid) guid
source_gives guid = gives_last (λ r. in_packet (guid_at r)) (λ (bytes : List ℕ). record { 0 = bytes }) (GuidForm guid) guid.0 (guid_gives guid)

pub id_gives : (id : MessageId) → Gives id_at (IdForm id) id
id_gives id =
    gives_then source_at _ (GuidForm id.qm) (Number 4 id.number) id.qm id (source_gives id.qm)
    (gives_last (field_at 4) (λ number. record { qm = id.qm; number = number }) (Number 4 id.number) id.number (field_gives 4 id.number))
