-- Base and transaction headers that are written are read again.
use Rattle.std.proofs.Common.{◌≡◌, ◌<◌, ℕ, ◌^◌, true, false, leb, ltb, List, [], ◌∷◌, ◌++◌, length}
use Rattle.std.proofs.Common.{Ok, refl, ap, arith, length-append}
use Rattle.std.proofs.lemmas.Bool.{le-ltb, le-leb}
use Rattle.mqb_base.specs.declared.heads.TxHead.{TxHead}
use Rattle.mqb_fields.specs.Reading.{Reading, rest_of, moved}
use Rattle.mqb_fields.specs.Writing.{bytes_of}
use Rattle.mqb_names.specs.Wire.{start}
use Rattle.mqb_names.specs.lemmas.Again.{rest_again}
use Rattle.mqb_heads.specs.declared.base.BaseHead.{BaseHead}
use Rattle.mqb_heads.specs.Base.{version_at, flags_at, signature_at, size_at, base_at, base_of}
use Rattle.mqb_heads.specs.Base.{head_of, IsBaseHead, base_flags, plain_base}
use Rattle.mqb_fields.specs.Packets.{skipped}
use Rattle.mqb_heads.specs.Transactions.{tx_at, plain_tx}
use Rattle.mqb_heads.specs.Values.{IsTxHead}
use Rattle.mqb_heads.specs.lemmas.FieldsAgain.{field_again, skip_again, moved_to}
use Rattle.mqb_heads.specs.lemmas.Words.{base_bits}

pub base_at_again : (r : Reading) (head : BaseHead) (rest : List ℕ) → IsBaseHead head
    → head.reach < 2 ^ 32 → rest_of r ≡ plain_base head ++ rest → base_at r ≡ Ok (head, moved 16 r)
unfolding base_at
base_at_again r head rest valid fits e =
    let back = base_bits head.priority head.internal head.session valid.priority in
    let f = base_flags head in
    let reach = bytes_of 4 head.reach ++ rest in
    let size = bytes_of 4 head.size ++ reach in
    let signature = bytes_of 4 0x524F494C ++ size in
    let flags = bytes_of 2 f ++ signature in
    let at_reserved : rest_of (moved 1 r) ≡ (0 ∷ []) ++ flags =
    rest_again r (0x10 ∷ []) ((0 ∷ []) ++ flags) 1 refl e in
    let at_flags : rest_of (moved 1 (moved 1 r)) ≡ flags =
    rest_again (moved 1 r) (0 ∷ []) flags 1 refl at_reserved in
    let r2 = moved 1 (moved 1 r) in
    let at_signature : rest_of (moved 2 r2) ≡ signature =
    rest_again r2 (bytes_of 2 f) signature 2 refl at_flags in
    let r4 = moved 2 r2 in
    let at_size : rest_of (moved 4 r4) ≡ size =
    rest_again r4 (bytes_of 4 0x524F494C) size 4 refl at_signature in
    let r8 = moved 4 r4 in
    let at_reach : rest_of (moved 4 r8) ≡ reach =
    rest_again r8 (bytes_of 4 head.size) reach 4 refl at_size in
    let r12 = moved 4 r8 in
    let least : leb 20 head.size ≡ true = le-leb _ _ valid.least in
    let most : leb head.size 4194304 ≡ true = le-leb _ _ valid.most in
    let version : version_at r ≡ Ok (moved 1 r) =
    rw (field_again r 1 0x10 ((0 ∷ []) ++ flags) refl (omega arith) e) refl in
    let reserved : skipped 1 (moved 1 r) ≡ Ok r2 =
    skip_again (moved 1 r) (0 ∷ []) flags 1 refl at_reserved in
    let flags_is : flags_at r2 ≡ Ok (f, r4) =
    rw (field_again r2 2 f signature refl back.fits at_flags, back.fifth) refl in
    let signature_is : signature_at r4 ≡ Ok r8 =
    rw (field_again r4 4 0x524F494C size refl (omega arith) at_signature) refl in
    let size_is : size_at r8 ≡ Ok (head.size, r12) =
    rw (field_again r8 4 head.size reach refl (omega (arith, valid.most)) at_size, least, most)
    refl in
    rw (
      version,
      reserved,
      flags_is,
      signature_is,
      size_is,
      field_again r12 4 head.reach rest refl (omega arith) at_reach,
      back.low,
      back.third,
      back.fourth,
    )
    (ap (λ (end : Reading). Ok (head, end)) (moved_to r _ 16 (omega arith)))

pub base_again : (head : BaseHead) (rest : List ℕ) → IsBaseHead head → head.reach < 2 ^ 32
    → base_of (plain_base head ++ rest) ≡ Ok head
base_again head rest valid fits =
    let long : ltb (length (plain_base head ++ rest)) 16 ≡ false =
    le-ltb _ _ (omega (arith, length-append (plain_base head) rest)) in
    rw long (ap head_of (base_at_again (start (plain_base head ++ rest)) head rest valid fits refl))

pub tx_again : (r : Reading) (head : TxHead) (rest : List ℕ) → IsTxHead head
    → rest_of r ≡ plain_tx head ++ rest → tx_at r ≡ Ok (head, moved 20 r)
unfolding tx_at
tx_again r head rest valid e =
    let previous = bytes_of 4 head.previous ++ rest in
    let number = bytes_of 4 head.number ++ previous in
    let stamp = bytes_of 4 head.sequence.stamp ++ number in
    let ordinal = bytes_of 4 head.sequence.ordinal ++ stamp in
    let r4 = moved 4 r in
    let at_ordinal : rest_of r4 ≡ ordinal = rest_again r (bytes_of 4 0) ordinal 4 refl e in
    let r8 = moved 4 r4 in
    let at_stamp : rest_of r8 ≡ stamp =
    rest_again r4 (bytes_of 4 head.sequence.ordinal) stamp 4 refl at_ordinal in
    let r12 = moved 4 r8 in
    let at_number : rest_of r12 ≡ number =
    rest_again r8 (bytes_of 4 head.sequence.stamp) number 4 refl at_stamp in
    let r16 = moved 4 r12 in
    let at_previous : rest_of r16 ≡ previous =
    rest_again r12 (bytes_of 4 head.number) previous 4 refl at_number in
    rw (
      skip_again r (bytes_of 4 0) ordinal 4 refl e,
      field_again r4 4 head.sequence.ordinal stamp refl (omega (arith, valid.ordinal)) at_ordinal,
      field_again r8 4 head.sequence.stamp number refl (omega (arith, valid.stamp)) at_stamp,
      field_again r12 4 head.number previous refl (omega (arith, valid.number)) at_number,
      field_again r16 4 head.previous rest refl (omega (arith, valid.previous)) at_previous,
    )
    (ap (λ (end : Reading). Ok (head, end)) (moved_to r _ 20 (omega arith)))
