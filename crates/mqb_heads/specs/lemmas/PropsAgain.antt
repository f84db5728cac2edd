-- A properties header that is written is read again.
use Rattle.std.proofs.Common.{◌≡◌, ◌<◌, ℕ, ◌*◌, ◌-◌, ◌^◌, true, false, ltb, List, [], ◌∷◌, ◌++◌}
use Rattle.std.proofs.Common.{length, take, replicate, Ok, refl, sym, ap, ◌∙◌, arith, append_assoc}
use Rattle.std.proofs.lemmas.Bool.{le-ltb}
use Rattle.std.proofs.lemmas.List.{take_all}
use Rattle.mqb_base.specs.declared.message.Message.{Message}
use Rattle.mqb_base.specs.Classes.{is_class}
use Rattle.mqb_fields.specs.Guids.{swapped}
use Rattle.mqb_fields.specs.Reading.{Reading, rest_of, moved}
use Rattle.mqb_fields.specs.Writing.{bytes_of}
use Rattle.mqb_names.specs.lemmas.Again.{rest_again}
use Rattle.mqb_heads.specs.Fields.{padding, plain_id}
use Rattle.mqb_heads.specs.Flags.{bits}
use Rattle.mqb_heads.specs.Properties.{label_len_at, class_at, marks_at, allocated_at, unsecured_at}
use Rattle.mqb_heads.specs.Properties.{sizes_at, parts_at, props_at, FitsProps, label_bytes}
use Rattle.mqb_heads.specs.Properties.{props_fields, props_parts, plain_props, props_of}
use Rattle.mqb_heads.specs.Values.{IsMessage}
use Rattle.mqb_heads.specs.lemmas.FieldsAgain.{field_again, id_again, lent_again}
use Rattle.mqb_heads.specs.lemmas.FieldsAgain.{padding_again, moved_to}
use Rattle.mqb_heads.specs.lemmas.Put.{length_padded, length_props, length_label}

marks_again : (r : Reading) (m : Message) (rest : List ℕ) → FitsProps m → IsMessage m
    → rest_of r ≡ (m.ack ∷ length m.label ∷ []) ++ (bytes_of 2 m.class.0 ++ rest)
    → marks_at r ≡ Ok (
      record { ack = m.ack; label_len = length m.label; class = m.class },
      moved 2 (moved 1 (moved 1 r)),
    )
marks_again r m rest valid value e =
    let class = bytes_of 2 m.class.0 ++ rest in
    let ack_byte : bytes_of 1 m.ack ≡ m.ack ∷ [] =
    ap (λ (b : ℕ). b ∷ []) (omega (arith, valid.ack)) in
    let len_byte : bytes_of 1 (length m.label) ≡ length m.label ∷ [] =
    ap (λ (b : ℕ). b ∷ []) (omega (arith, valid.label)) in
    let at_ack : rest_of r ≡ bytes_of 1 m.ack ++ (length m.label ∷ class) =
    e ∙ ap (λ (b : List ℕ). b ++ (length m.label ∷ class)) (sym ack_byte) in
    let r1 = moved 1 r in
    let at_len : rest_of r1 ≡ length m.label ∷ class =
    rest_again r (bytes_of 1 m.ack) (length m.label ∷ class) 1 refl at_ack in
    let at_label_len : rest_of r1 ≡ bytes_of 1 (length m.label) ++ class =
    at_len ∙ ap (λ (b : List ℕ). b ++ class) (sym len_byte) in
    let r2 = moved 1 r1 in
    let at_class : rest_of r2 ≡ class =
    rest_again r1 (bytes_of 1 (length m.label)) class 1 refl at_label_len in
    let few : ltb 250 (length m.label) ≡ false = le-ltb _ _ valid.label in
    let low : bits 0 4 m.ack ≡ m.ack = omega (arith, valid.ack) in
    let known : is_class m.class.0 ≡ true = valid.class in
    let len_is : label_len_at r1 ≡ Ok (length m.label, r2) = rw (
      field_again r1 1 (length m.label) class refl (omega (arith, valid.label)) at_label_len,
      few,
    ) refl in
    let class_is : class_at r2 ≡ Ok (m.class, moved 2 r2) =
    rw (field_again r2 2 m.class.0 rest refl (omega (arith, value.class)) at_class, known)
    refl in
    rw (
      field_again r 1 m.ack (length m.label ∷ class) refl (omega (arith, valid.ack)) at_ack,
      len_is,
      class_is,
      low,
    ) refl

unsecured_again : (r : Reading) (rest : List ℕ) → rest_of r ≡ bytes_of 4 0 ++ rest
    → unsecured_at r ≡ Ok (moved 4 r)
unsecured_again r rest e = rw (field_again r 4 0 rest refl (omega arith) e) refl

-- where the sizes end
abbrev behind_sizes : Reading → Reading
behind_sizes r = moved 4 (moved 4 (moved 4 (moved 4 (moved 4 (moved 4 r)))))

sizes_again : (r : Reading) (body extension : ℕ) (rest : List ℕ) → body < 2 ^ 32
    → extension < 2 ^ 32
    → rest_of r
    ≡ bytes_of 4 body ++ (bytes_of 4 body ++ (replicate 12 0 ++ (bytes_of 4 extension ++ rest)))
    → (sizes_at r
    ≡ Ok (record { body = body; allocated = body; extension = extension }, behind_sizes r))
    × (rest_of (behind_sizes r) ≡ rest)
sizes_again r body extension rest body_fits extension_fits e =
    let last = bytes_of 4 extension ++ rest in
    let cipher = bytes_of 4 0 ++ last in
    let hash = bytes_of 4 0 ++ cipher in
    let privacy = bytes_of 4 0 ++ hash in
    let allocated = bytes_of 4 body ++ privacy in
    let r1 = moved 4 r in
    let at_allocated : rest_of r1 ≡ allocated = rest_again r (bytes_of 4 body) allocated 4 refl e in
    let r2 = moved 4 r1 in
    let at_privacy : rest_of r2 ≡ privacy =
    rest_again r1 (bytes_of 4 body) privacy 4 refl at_allocated in
    let r3 = moved 4 r2 in
    let at_hash : rest_of r3 ≡ hash = rest_again r2 (bytes_of 4 0) hash 4 refl at_privacy in
    let r4 = moved 4 r3 in
    let at_cipher : rest_of r4 ≡ cipher = rest_again r3 (bytes_of 4 0) cipher 4 refl at_hash in
    let r5 = moved 4 r4 in
    let at_last : rest_of r5 ≡ last = rest_again r4 (bytes_of 4 0) last 4 refl at_cipher in
    let enough : ltb body body ≡ false = le-ltb _ _ (omega arith) in
    let allocated_is : allocated_at body r1 ≡ Ok (body, r2) =
    rw (field_again r1 4 body privacy refl (omega arith) at_allocated, enough) refl in (
      rw (
        field_again r 4 body allocated refl (omega arith) e,
        allocated_is,
        unsecured_again r2 hash at_privacy,
        unsecured_again r3 cipher at_hash,
        unsecured_again r4 last at_cipher,
        field_again r5 4 extension rest refl (omega arith) at_last,
      ) refl,
      rest_again r5 (bytes_of 4 extension) rest 4 refl at_last,
    )

-- where the parts end
abbrev behind_parts : Message → Reading → Reading
behind_parts m r = moved (length m.body) (moved (length m.extension) (moved (2 * length m.label) r))

parts_again : (r : Reading) (m : Message) (rest : List ℕ)
    → rest_of r ≡ label_bytes m.label ++ (m.extension ++ (m.body ++ rest))
    → (parts_at (length m.label)
    (record { body = length m.body; allocated = length m.body; extension = length m.extension })
    r
    ≡ Ok (
      record { label = label_bytes m.label; extension = m.extension; body = m.body },
      behind_parts m r,
    ))
    × (rest_of (behind_parts m r) ≡ rest)
parts_again r m rest e =
    let body = m.body ++ rest in
    let extension = m.extension ++ body in
    let r1 = moved (2 * length m.label) r in
    let at_extension = rest_again r (label_bytes m.label) extension (2 * length m.label)
    (length_label m.label) e in
    let r2 = moved (length m.extension) r1 in
    let at_body = rest_again r1 m.extension body (length m.extension) refl at_extension in
    let whole : take (length m.body) m.body ≡ m.body =
    take_all (length m.body) m.body (omega arith) in (
      rw (
        lent_again r (label_bytes m.label) extension (2 * length m.label) (length_label m.label) e,
        lent_again r1 m.extension body (length m.extension) refl at_extension,
        lent_again r2 m.body rest (length m.body) refl at_body,
        whole,
      ) refl,
      rest_again r2 m.body rest (length m.body) refl at_body,
    )

regrouped : (a b c z rest : List ℕ) → ((a ++ b ++ c) ++ z) ++ rest ≡ a ++ (b ++ (c ++ (z ++ rest)))
regrouped a b c z rest = simp append_assoc

pub props_again : (r : Reading) (m : Message) (rest : List ℕ) → FitsProps m → IsMessage m
    → rest_of r ≡ plain_props m ++ rest
    → props_at r ≡ Ok (props_of m, moved (length (plain_props m)) r)
unfolding props_at
props_again r m rest valid value e =
    let len = length (props_fields m ++ props_parts m) in
    let zeros = replicate {A = ℕ} (padding len) 0 in
    let parts = (props_parts m ++ zeros) ++ rest in
    let sizes = bytes_of 4 (length m.body) ++ (bytes_of 4 (length m.body)
    ++ (replicate 12 0 ++ (bytes_of 4 (length m.extension) ++ parts))) in
    let tag = bytes_of 4 m.tag ++ sizes in
    let body_type = bytes_of 4 m.body_type ++ tag in
    let correlation = plain_id m.correlation ++ body_type in
    let r4 = moved 2 (moved 1 (moved 1 r)) in
    let r2 = moved 1 (moved 1 r) in
    let at_two : rest_of (moved 1 r) ≡ length m.label ∷ (bytes_of 2 m.class.0 ++ correlation) =
    rest_again r (m.ack ∷ [])
    (length m.label ∷ (bytes_of 2 m.class.0 ++ correlation)) 1 refl e in
    let at_class : rest_of r2 ≡ bytes_of 2 m.class.0 ++ correlation = rest_again (moved 1 r)
    (length m.label ∷ []) (bytes_of 2 m.class.0 ++ correlation) 1 refl at_two in
    let at_correlation : rest_of r4 ≡ correlation =
    rest_again r2 (bytes_of 2 m.class.0) correlation 2 refl at_class in
    let r24 = moved 4 (moved 16 r4) in
    let at_number : rest_of (moved 16 r4) ≡ bytes_of 4 m.correlation.number ++ body_type =
    rest_again r4 (swapped m.correlation.qm.0)
    (bytes_of 4 m.correlation.number ++ body_type) 16 refl at_correlation in
    let at_body_type : rest_of r24 ≡ body_type =
    rest_again (moved 16 r4) (bytes_of 4 m.correlation.number) body_type 4 refl at_number in
    let r28 = moved 4 r24 in
    let at_tag : rest_of r28 ≡ tag =
    rest_again r24 (bytes_of 4 m.body_type) tag 4 refl at_body_type in
    let r32 = moved 4 r28 in
    let at_sizes : rest_of r32 ≡ sizes = rest_again r28 (bytes_of 4 m.tag) sizes 4 refl at_tag in
    let sized = sizes_again r32 (length m.body)
    (length m.extension) parts valid.body valid.extension at_sizes in
    let r56 = behind_sizes r32 in
    let parted = parts_again r56 m (zeros ++ rest)
    (sized.1 ∙ regrouped (label_bytes m.label) m.extension m.body zeros rest) in
    let counts = length_props m in
    let behind : (behind_parts m r56).at - r.at ≡ len = omega (arith, counts) in
    rw (
      marks_again r m correlation valid value e,
      id_again r4 m.correlation body_type value.correlation at_correlation,
      field_again r24 4 m.body_type tag refl (omega (arith, value.body_type)) at_body_type,
      field_again r28 4 m.tag sizes refl (omega (arith, value.tag)) at_tag,
      sized.0,
      parted.0,
      padding_again (behind_parts m r56) r.at len rest behind parted.1,
    )
    (ap (λ (end : Reading). Ok (props_of m, end)) (moved_to r _ (length (plain_props m))
    (omega (arith, counts, length_padded (props_fields m ++ props_parts m)))))
