-- Properties headers, both ways.
use Rattle.std.proofs.Common.{◌≡◌, ◌≤◌, ◌<◌, ℕ, ◌+◌, ◌*◌, ◌-◌, ◌==◌, Bool, true, false, cond, ltb, List, [], ◌++◌, length, take, drop, Result, Ok, Err, refl, sym, ap, subst, ◌∙◌, arith, length-append, length-drop}
use Rattle.std.specs.Prelude.{IsTrue}
use Rattle.std.proofs.lemmas.Bool.{le-ltb}
use Rattle.std.proofs.lemmas.List.{length-take-le, take-append-drop, take_at}
use Rattle.mqb_base.specs.declared.class.Class.{Class}
use Rattle.mqb_base.specs.Classes.{is_class}
use Rattle.mqb_fields.specs.Packets.{field_at, lent_at}
use Rattle.mqb_fields.specs.Reading.{◌>>=◌, Reading, rest_of, moved}
use Rattle.mqb_heads.specs.mqb_names.Grammar.{◌then◌, Exactly}
use Rattle.mqb_heads.specs.Fields.{id_at, padding, padded_at}
use Rattle.mqb_heads.specs.Flags.{bits}
use Rattle.mqb_heads.specs.Properties.{Props, label_len_at, class_at, marks_at, allocated_at, unsecured_at, sizes_at, parts_at, props_at}
use Rattle.mqb_heads.specs.lemmas.ReadLaws.{bind_ok, marks_in_turn, sizes_in_turn, parts_in_turn}
use Rattle.mqb_packet.specs.Forms.{Free, Number, IdForm, Padded}
use Rattle.mqb_packet.specs.Grammar.{MarksForm, SizesForm, PartsForm, PropsFields, PropsForm}
use Rattle.mqb_packet.proofs.Steps.{ok_is, Took, ◌&◌, in_form, Gives, Passes, gives_then, passes_then, gives_last, opened}
use Rattle.mqb_packet.proofs.Fields.{field_took, lent_took, id_took, field_gives, lent_gives, id_gives}
use Rattle.mqb_packet.proofs.Users.{padded_took, padded_passes}

exactly_took : (count : ℕ) (r end : Reading) (part : List ℕ) → lent_at count r ≡ Ok (part, end) → (length part ≡ count) × Took (Exactly part) r end
exactly_took count r end part e =
    let read = lent_took count r (part, end) e in
    (sym (ap length read.form.0) ∙ read.form.1, in_form (λ bytes is. is.0) read)

counted_took : (n m : ℕ) (r end : Reading) → n ≡ m → field_at 4 r ≡ Ok (n, end) → Took (Number 4 m) r end
counted_took n m r end same e = in_form (λ bytes is. (is.0, is.1 ∙ same)) (field_took 4 r (n, end) e)

-- the body, and the rest of what was kept for it
kept_took : (size allocated : ℕ) (kept : List ℕ) (r end : Reading) → size ≤ allocated → lent_at allocated r ≡ Ok (kept, end)
    → (length (take size kept) ≡ size) × Took (Exactly (take size kept) then Free (allocated - length (take size kept))) r end
kept_took size allocated kept r end fits e =
    let read = exactly_took allocated r end kept e in
    let len : length (take size kept) ≡ size = length-take-le size kept (omega (arith, fits, read.0)) in (
      len,
      in_form (λ bytes is. (take size kept, drop size kept, take-append-drop size kept ∙ sym is, refl, omega (arith, length-drop size kept, read.0, len))) read.1,
    )

pub props_took : (r : Reading) (x : Props × Reading) → props_at r ≡ Ok x → Took (PropsForm x.0) r x.1
unfolding props_at
props_took r x e =
    let marks = bind_ok (marks_at r) _ x e in
    let correlation = bind_ok (id_at marks.0.1) _ x marks.2 in
    let body_type = bind_ok (field_at 4 correlation.0.1) _ x correlation.2 in
    let tag = bind_ok (field_at 4 body_type.0.1) _ x body_type.2 in
    let sizes = bind_ok (sizes_at tag.0.1) _ x tag.2 in
    let parts = bind_ok (parts_at marks.0.0.label_len sizes.0.0 sizes.0.1) _ x sizes.2 in
    let end = bind_ok (padded_at r.at parts.0.1) _ x parts.2 in
    let m = marks_in_turn r marks.0.0 marks.0.1 marks.1 in
    let s = sizes_in_turn tag.0.1 sizes.0.0 sizes.0.1 sizes.1 in
    let p = parts_in_turn marks.0.0.label_len sizes.0.0 sizes.0.1 parts.0.0 parts.0.1 parts.1 in
    let label = exactly_took (2 * marks.0.0.label_len) sizes.0.1 p.first parts.0.0.label p.label in
    let extension = exactly_took sizes.0.0.extension p.first p.second parts.0.0.extension p.extension in
    let kept = subst (λ (body : List ℕ). (length body ≡ sizes.0.0.body) × Took (Exactly body then Free (sizes.0.0.allocated - length body)) p.second parts.0.1) (sym p.body)
    (kept_took sizes.0.0.body sizes.0.0.allocated p.kept p.second parts.0.1 s.enough p.allocated) in
    let fits : length parts.0.0.body ≤ sizes.0.0.allocated = subst (λ (n : ℕ). n ≤ sizes.0.0.allocated) (sym kept.0) s.enough in
    subst (λ (x : Props × Reading). Took (PropsForm x.0) r x.1) (ok_is _ x end.2)
    (padded_took (in_form (λ bytes is. (marks.0.0.label_len, sizes.0.0.allocated, is))
    (in_form (λ bytes is. (m.ack, m.ack_bits, m.most, m.class, is))
    (field_took 1 r (m.ack, m.behind_ack) m.read_ack & field_took 1 m.behind_ack (marks.0.0.label_len, m.behind_len) m.read_len
    & field_took 2 m.behind_len (marks.0.0.class.0, marks.0.1) m.read_class)
    & id_took marks.0.1 correlation.0 correlation.1 & field_took 4 correlation.0.1 body_type.0 body_type.1 & field_took 4 body_type.0.1 tag.0 tag.1
    & in_form (λ bytes is. (fits, is))
    (counted_took sizes.0.0.body (length parts.0.0.body) tag.0.1 s.first (sym kept.0) s.body & field_took 4 s.first (sizes.0.0.allocated, s.second) s.allocated
    & field_took 4 s.second (0, s.third) s.privacy & field_took 4 s.third (0, s.fourth) s.hash & field_took 4 s.fourth (0, s.fifth) s.cipher
    & counted_took sizes.0.0.extension (length parts.0.0.extension) s.fifth sizes.0.1 (sym extension.0) s.extension)
    & in_form (λ bytes is. (label.0, is)) (label.1 & extension.1 & kept.1))) end.1)

label_len_gives : (units : ℕ) → units ≤ 250 → Gives label_len_at (Number 1 units) units
label_len_gives units few r bytes rest e form = rw (field_gives 1 units r bytes rest e form, le-ltb _ _ few) refl

class_gives : (class : Class) → IsTrue (is_class class.0) → Gives class_at (Number 2 class.0) class
class_gives class known r bytes rest e form =
    let yes : is_class class.0 ≡ true = known in
    rw (field_gives 2 class.0 r bytes rest e form, yes) refl

marks_give : (ack units : ℕ) (class : Class) → units ≤ 250 → IsTrue (is_class class.0)
    → Gives marks_at (Number 1 ack then Number 1 units then Number 2 class.0) (record { ack = bits 0 4 ack; label_len = units; class = class })
marks_give ack units class few known =
    gives_then (field_at 1) _ (Number 1 ack) _ ack _ (field_gives 1 ack)
    (gives_then label_len_at _ (Number 1 units) _ units _ (label_len_gives units few)
    (gives_last class_at (λ (class : Class). record { ack = bits 0 4 ack; label_len = units; class = class }) (Number 2 class.0) class (class_gives class known)))

allocated_gives : (body allocated : ℕ) → body ≤ allocated → Gives (allocated_at body) (Number 4 allocated) allocated
allocated_gives body allocated fits r bytes rest e form = rw (field_gives 4 allocated r bytes rest e form, le-ltb _ _ fits) refl

unsecured_passes : Passes unsecured_at (Number 4 0)
unsecured_passes r bytes rest e form = rw (field_gives 4 0 r bytes rest e form) refl

sizes_give : (body allocated extension : ℕ) → body ≤ allocated
    → Gives sizes_at (Number 4 body then Number 4 allocated then Number 4 0 then Number 4 0 then Number 4 0 then Number 4 extension)
    (record { body = body; allocated = allocated; extension = extension })
sizes_give body allocated extension fits =
    gives_then (field_at 4) _ (Number 4 body) _ body _ (field_gives 4 body)
    (gives_then (allocated_at body) _ (Number 4 allocated) _ allocated _ (allocated_gives body allocated fits)
    (passes_then unsecured_at _ (Number 4 0) _ _ unsecured_passes
    (passes_then unsecured_at _ (Number 4 0) _ _ unsecured_passes
    (passes_then unsecured_at _ (Number 4 0) _ _ unsecured_passes
    (gives_last (field_at 4) (λ (extension : ℕ). record { body = body; allocated = allocated; extension = extension }) (Number 4 extension) extension (field_gives 4 extension))))))

parts_give : (units allocated : ℕ) (label extension body : List ℕ) → length label ≡ 2 * units → length body ≤ allocated
    → Gives (parts_at units (record { body = length body; allocated = allocated; extension = length extension }))
    (Exactly label then Exactly extension then Exactly body then Free (allocated - length body)) (record { label = label; extension = extension; body = body })
parts_give units allocated label extension body len fits =
    gives_then (lent_at (2 * units)) _ (Exactly label) _ label _ (lent_gives (2 * units) label len)
    (gives_then (lent_at (length extension)) _ (Exactly extension) _ extension _ (lent_gives (length extension) extension refl)
    (λ r bytes rest e form.
    let whole : body ++ form.1 ≡ bytes = ap (λ (t : List ℕ). t ++ form.1) (sym form.3) ∙ form.2 in
    let all : length bytes ≡ allocated = sym (ap length whole) ∙ omega (arith, length-append body form.1, form.4, fits) in
    let front : take (length body) bytes ≡ body = ap (take (length body)) (sym whole) ∙ take_at body form.1 (length body) refl in
    rw (lent_gives allocated bytes all r bytes rest e refl, front) refl))

pub props_gives : (props : Props) → Gives props_at (PropsForm props) props
unfolding props_at
props_gives props r bytes rest e (head, pad, whole, (units, allocated, form), len) =
    let tail = pad ++ rest in
    let all = opened r bytes rest head pad e whole in
    let marks = opened r head tail form.0 form.1 all.here form.2 in
    let r1 = moved (length form.0) r in
    let f1 = form.4 in
    let correlation = opened r1 form.1 tail f1.0 f1.1 marks.behind f1.2 in
    let r2 = moved (length f1.0) r1 in
    let f2 = f1.4 in
    let body_type = opened r2 f1.1 tail f2.0 f2.1 correlation.behind f2.2 in
    let r3 = moved (length f2.0) r2 in
    let f3 = f2.4 in
    let tag = opened r3 f2.1 tail f3.0 f3.1 body_type.behind f3.2 in
    let r4 = moved (length f3.0) r3 in
    let f4 = f3.4 in
    let sizes = opened r4 f3.1 tail f4.0 f4.1 tag.behind f4.2 in
    let r5 = moved (length f4.0) r4 in
    let m = form.3 in
    let s = f4.3 in
    let p = f4.4 in
    let ends : moved (length f4.1) r5 ≡ moved (length head) r = sizes.ends ∙ tag.ends ∙ body_type.ends ∙ correlation.ends ∙ marks.ends in
    let padded : padded_at r.at (moved (length f4.1) r5) ≡ Ok (moved (length pad) (moved (length head) r)) =
    ap (padded_at r.at) ends ∙ padded_passes r head pad rest all.behind len in
    rw (
      marks_give m.0 units props.class m.2 m.3 r form.0 (form.1 ++ tail) marks.here m.4,
      id_gives props.correlation r1 f1.0 (f1.1 ++ tail) correlation.here f1.3,
      field_gives 4 props.body_type r2 f2.0 (f2.1 ++ tail) body_type.here f2.3,
      field_gives 4 props.tag r3 f3.0 (f3.1 ++ tail) tag.here f3.3,
      sizes_give (length props.body) allocated (length props.extension) s.0 r4 f4.0 (f4.1 ++ tail) sizes.here s.1,
      parts_give units allocated props.label props.extension props.body p.0 s.0 r5 f4.1 tail sizes.behind p.1,
      padded,
      ← m.1,
    ) (ap (λ (end : Reading). Ok (props, end)) all.ends)
