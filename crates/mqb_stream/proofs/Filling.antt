-- How a packet is filled, whatever the pieces are.
use Rattle.std.proofs.Common.{◌≡◌, ◌≤◌, ◌<◌, ℕ, cond, ltb, leb, List, [], ◌++◌, length, take, drop, Result, Ok, Err, refl, sym, ap, subst, ◌∙◌, inl, inr, arith, length-append}
use Rattle.std.proofs.lemmas.Bool.{cases_lt, ltb-false, le-ltb, lt-ltb, leb-true}
use Rattle.std.proofs.lemmas.List.{take-append-le, take-append-drop, take_all, length-take, append-nil}
use Rattle.mqb_fields.specs.declared.faults.HeadFault.{HeadFault}
use Rattle.mqb_fields.specs.Faults.{past_end}
use Rattle.mqb_fields.specs.Reading.{◌>>=◌}
use Rattle.mqb_heads.specs.declared.base.BaseHead.{BaseHead}
use Rattle.mqb_heads.specs.Base.{base_of}
use Rattle.mqb_heads.specs.lemmas.ReadLaws.{bind_ok, if_ok, unless_ok, base_read}
use Rattle.mqb_stream.specs.Cutting.{packet_size}
use Rattle.mqb_stream.specs.Framing.{end_by, packet_end}

-- the size is that of the first 16 bytes
pub same_size : (limit : ℕ) (held more : List ℕ) → 16 ≤ length held → packet_size limit (held ++ more) ≡ packet_size limit held
unfolding packet_size
same_size limit held more long = ap (λ (front : List ℕ). base_of front >>= λ head. cond (leb head.size limit) (Ok head.size) (Err past_end)) (take-append-le 16 held more long)

-- what holds of a size that was read
pub record IsSize (limit : ℕ) (bytes : List ℕ) (size : ℕ) : Type 0 where
  pub least : 20 ≤ size
  pub most : size ≤ limit
  pub head : 16 ≤ length bytes

long_enough : (bytes : List ℕ) (head : BaseHead) → base_of (take 16 bytes) ≡ Ok head → 16 ≤ length bytes
long_enough bytes head e =
    let enough = ltb-false (length (take 16 bytes)) 16 (unless_ok (ltb (length (take 16 bytes)) 16) _ _ head e).0 in
    omega (arith, enough, length-take 16 bytes)

pub size_is : (limit : ℕ) (bytes : List ℕ) (size : ℕ) → packet_size limit bytes ≡ Ok size → IsSize limit bytes size
unfolding packet_size
size_is limit bytes size e =
    let read = bind_ok (base_of (take 16 bytes)) (λ head. cond (leb head.size limit) (Ok head.size) (Err past_end)) size e in
    let head = read.0 in
    let within = if_ok (leb head.size limit) past_end head.size size read.2 in
    let is = base_read (take 16 bytes) head read.1 in
    record {
      least = omega (arith, is.least, within.1);
      most = omega (arith, leb-true _ _ within.0, within.1);
      head = long_enough bytes head read.1;
    }

-- where the packet ends
pub end_short : (limit : ℕ) (bytes : List ℕ) → length bytes < 16 → packet_end limit bytes ≡ 16
unfolding packet_end
end_short limit bytes short = rw (lt-ltb (length bytes) 16 short) refl

pub end_long : (limit : ℕ) (bytes : List ℕ) → 16 ≤ length bytes → packet_end limit bytes ≡ end_by (packet_size limit bytes)
unfolding packet_end
end_long limit bytes long = rw (le-ltb (length bytes) 16 long) refl

end_by_least : (limit : ℕ) (bytes : List ℕ) (read : Result ℕ HeadFault) → packet_size limit bytes ≡ read → 16 ≤ end_by read
end_by_least limit bytes (Ok size) e = omega (arith, (size_is limit bytes size e).least)
end_by_least limit bytes (Err fault) e = omega arith

end_by_most : (limit : ℕ) (bytes : List ℕ) (read : Result ℕ HeadFault) → packet_size limit bytes ≡ read → 20 ≤ limit → end_by read ≤ limit
end_by_most limit bytes (Ok size) e least = (size_is limit bytes size e).most
end_by_most limit bytes (Err fault) e least = omega (arith, least)

pub end_least : (limit : ℕ) (bytes : List ℕ) → 16 ≤ packet_end limit bytes
end_least limit bytes = elim (cases_lt (length bytes) 16) [
  | inl short ↦ omega (arith, end_short limit bytes short)
  | inr long ↦ omega (arith, end_long limit bytes long, end_by_least limit bytes (packet_size limit bytes) refl)
]

pub end_most : (limit : ℕ) (bytes : List ℕ) → 20 ≤ limit → packet_end limit bytes ≤ limit
end_most limit bytes least = elim (cases_lt (length bytes) 16) [
  | inl short ↦ omega (arith, end_short limit bytes short, least)
  | inr long ↦ omega (arith, end_long limit bytes long, end_by_most limit bytes (packet_size limit bytes) refl least)
]

-- the end of a packet, once it is known, stays
pub same_end : (limit : ℕ) (held more : List ℕ) → 16 ≤ length held → packet_end limit (held ++ more) ≡ packet_end limit held
same_end limit held more long =
    end_long limit (held ++ more) (omega (arith, long, length-append held more)) ∙ ap end_by (same_size limit held more long) ∙ sym (end_long limit held long)

-- what is held after a piece is of one packet again
pub held_end : (limit : ℕ) (stream : List ℕ) → length (take (packet_end limit stream) stream) ≤ packet_end limit (take (packet_end limit stream) stream)
held_end limit stream = elim (cases_lt (length stream) 16) [
  | inl short ↦
      let all : take (packet_end limit stream) stream ≡ stream = take_all (packet_end limit stream) stream (omega (arith, end_short limit stream short, short)) in
      rw all (omega (arith, end_short limit stream short, short))
  | inr long ↦
      let n = packet_end limit stream in
      let held = take n stream in
      let enough : 16 ≤ length held = omega (arith, length-take n stream, end_least limit stream, long) in
      let parts : held ++ drop n stream ≡ stream = take-append-drop n stream in
      let same : packet_end limit held ≡ n = sym (same_end limit held (drop n stream) enough) ∙ ap (packet_end limit) parts in
      omega (arith, same, length-take n stream)
]

-- the end that is known once the base header is filled
pub head_end : (limit : ℕ) (stream head rest : List ℕ) → head ++ rest ≡ stream → (length head < 16 → rest ≡ []) → packet_end limit head ≡ packet_end limit stream
head_end limit stream head rest parts all = elim (cases_lt (length head) 16) [
  | inl short ↦ ap (packet_end limit) (sym (append-nil head) ∙ ap (λ (t : List ℕ). head ++ t) (sym (all short)) ∙ parts)
  | inr long ↦ sym (same_end limit head rest long) ∙ ap (packet_end limit) parts
]

-- the base header is no longer than the packet
pub head_within : (limit : ℕ) (held head : List ℕ) → length held ≤ packet_end limit held → (length held < 16 → length head ≤ 16) → (16 ≤ length held → head ≡ held)
    → length head ≤ packet_end limit head
head_within limit held head one short long = elim (cases_lt (length held) 16) [
  | inl begun ↦ omega (arith, short begun, end_least limit head)
  | inr there ↦ subst (λ (t : List ℕ). length t ≤ packet_end limit t) (sym (long there)) one
]
