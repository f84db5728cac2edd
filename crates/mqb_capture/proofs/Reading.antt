-- Where the reading of a capture goes on, and where it ends.
use Rattle.std.proofs.Common.{◌≡◌, ◌<◌, ◌≤◌, ℕ, zero, suc, ◌+◌, ◌-◌, Bool, true, false, ◌&&◌, cond, List, [], ◌∷◌, length, take, Result, Ok, Err, nat_lt, nat_le, refl, sym, ap, subst, ◌∙◌, arith, inl, inr, ◌⊎◌, length-drop, length-take}
use Rattle.std.specs.Prelude.{if◌then◌else◌}
use Rattle.std.proofs.lemmas.Bool.{ltb-false}
use Rattle.mqb_fields.specs.declared.faults.Short.{Short}
use Rattle.mqb_fields.specs.Reading.{◌>>=◌, Reading, rest_of, moved, part_at, number_at, guid_at}
use Rattle.mqb_heads.specs.lemmas.ReadLaws.{bind_ok, if_ok, unless_ok}
use Rattle.mqb_capture.specs.declared.answers.TheConstants.{MAX_PIECE}
use Rattle.mqb_capture.specs.Grammar.{ArePieces, Head, Piece, head_at, or_end, piece_at, within_at}
use Rattle.mqb_capture.specs.Judged.{Found, found_before, found_by, pieces_in}
use Rattle.mqb_capture.proofs.Exclusive.{no_more}

abbrev done : {X E : Type 0} → X → Result X E
done x = Ok x

ok_is : {X E : Type 0} (x y : X) → done {X = X} {E = E} x ≡ done y → x ≡ y
ok_is x y e = cc

abbrev failed : {X : Type 0} → ℕ → Result X ℕ
failed at = Err at

err_is : {X : Type 0} (a b : ℕ) → failed {X = X} a ≡ failed b → a ≡ b
err_is a b e = cc

-- a failure stands in the first step or in what follows it
bind_err : {A B E : Type 0} (r : Result A E) (f : A → Result B E) (d : E) → (r >>= f) ≡ Err d → (r ≡ Err d) ⊎ ((x : A) × (r ≡ Ok x) × (f x ≡ Err d))
bind_err (Ok x) f d e = inr (x, refl, e)
bind_err (Err c) f d e = inl (cc)

-- A place of the same bytes, so many further on.
pub record GoesOn (count : ℕ) (r s : Reading) : Type 0 where
  pub bytes : s.bytes ≡ r.bytes
  pub at : s.at ≡ r.at + count
  pub within : s.at ≤ length s.bytes

-- a place within its bytes
abbrev pub IsIn : Reading → Type 0
IsIn r = r.at ≤ length r.bytes

part_goes : (count : ℕ) (r : Reading) (t : List ℕ × Reading) → IsIn r → part_at count r ≡ Ok t → GoesOn count r t.1
part_goes count r t is_in e =
    let read = unless_ok (nat_lt (length r.bytes - r.at) count) _ (Ok (take count (rest_of r), moved count r)) t e in
    let enough : count ≤ length r.bytes - r.at = ltb-false _ _ read.0 in
    subst (λ (x : List ℕ × Reading). GoesOn count r x.1) (ok_is _ _ read.1) (record { bytes = refl; at = refl; within = omega (arith, enough, is_in) })

part_long : (count : ℕ) (r : Reading) (t : List ℕ × Reading) → part_at count r ≡ Ok t → length t.0 ≤ count
part_long count r t e =
    let read = unless_ok (nat_lt (length r.bytes - r.at) count) _ (Ok (take count (rest_of r), moved count r)) t e in
    subst (λ (x : List ℕ × Reading). length x.0 ≤ count) (ok_is _ _ read.1) (omega (arith, length-take count (rest_of r)))

end_ok : {X : Type 0} (r : Reading) (x : Result X Short) (y : X) → or_end r x ≡ Ok y → x ≡ Ok y
end_ok r (Ok x) y e = cc
end_ok r (Err d) y e = absurd (cc)

end_err : {X : Type 0} (r : Reading) (x : Result X Short) (at : ℕ) → or_end r x ≡ Err at → at ≡ length r.bytes
end_err r (Ok x) at e = absurd (cc)
end_err r (Err d) at e = sym (err_is _ _ e)

number_goes : (width : ℕ) (r : Reading) (t : ℕ × Reading) → IsIn r → number_at width r ≡ Ok t → GoesOn width r t.1
number_goes width r t is_in e =
    let part = bind_ok (part_at width r) _ t e in
    subst (λ (x : ℕ × Reading). GoesOn width r x.1) (ok_is _ _ part.2) (part_goes width r part.0 is_in part.1)

guid_goes : (r : Reading) (t : List ℕ × Reading) → IsIn r → guid_at r ≡ Ok t → GoesOn 16 r t.1
guid_goes r t is_in e =
    let part = bind_ok (part_at 16 r) _ t e in
    subst (λ (x : List ℕ × Reading). GoesOn 16 r x.1) (ok_is _ _ part.2) (part_goes 16 r part.0 is_in part.1)

within_goes : (width least most : ℕ) (r : Reading) (t : ℕ × Reading) → IsIn r → within_at width least most r ≡ Ok t → GoesOn width r t.1
within_goes width least most r t is_in e =
    let number = bind_ok (or_end r (number_at width r)) _ t e in
    let is = if_ok (nat_le least number.0.0 && nat_le number.0.0 most) r.at number.0 t number.2 in
    subst (λ (x : ℕ × Reading). GoesOn width r x.1) is.1 (number_goes width r number.0 is_in (end_ok r (number_at width r) number.0 number.1))

-- a field that is none is told by a place of the bytes
if_err : {X : Type 0} (b : Bool) (d a : ℕ) (x : X) → cond b (Ok x) (Err d) ≡ Err a → a ≡ d
if_err true d a x e = absurd (cc)
if_err false d a x e = sym (err_is _ _ e)

within_tells : (width least most : ℕ) (r : Reading) (at : ℕ) → IsIn r → within_at width least most r ≡ Err at → at ≤ length r.bytes
within_tells width least most r at is_in e = by (bind_err (or_end r (number_at width r)) _ at e)
  where
    by : (or_end r (number_at width r) ≡ Err at) ⊎ ((x : ℕ × Reading) × (or_end r (number_at width r) ≡ Ok x) × ((if nat_le least x.0 && nat_le x.0 most then Ok x else Err r.at) ≡ Err at)) → at ≤ length r.bytes
    by (inl short) = omega (arith, end_err r (number_at width r) at short)
    by (inr outside) = omega (arith, is_in, if_err (nat_le least outside.0.0 && nat_le outside.0.0 most) r.at at outside.0 outside.2)

goes_in : (count : ℕ) (r s : Reading) → GoesOn count r s → IsIn s
goes_in count r s g = g.within

goes_both : (m n : ℕ) (r s t : Reading) → GoesOn m r s → GoesOn n s t → GoesOn (m + n) r t
goes_both m n r s t g h = record { bytes = h.bytes ∙ g.bytes; at = omega (arith, g.at, h.at); within = h.within }

-- A piece goes on, at least by as many bytes as it has.
pub record PieceGoes (r : Reading) (t : Piece × Reading) : Type 0 where
  pub count : ℕ
  pub some : 0 < count
  pub long : length t.0.bytes ≤ count
  pub goes : GoesOn count r t.1

pub piece_goes : (r : Reading) (t : Piece × Reading) → IsIn r → piece_at r ≡ Ok t → PieceGoes r t
unfolding piece_at
piece_goes r t is_in e =
    let way = bind_ok (within_at 1 0 1 r) _ t e in
    let one = within_goes 1 0 1 r way.0 is_in way.1 in
    let size = bind_ok (within_at 4 1 MAX_PIECE way.0.1) _ t way.2 in
    let two = within_goes 4 1 MAX_PIECE way.0.1 size.0 one.within size.1 in
    let bytes = bind_ok (or_end size.0.1 (part_at size.0.0 size.0.1)) _ t size.2 in
    let three = part_goes size.0.0 size.0.1 bytes.0 two.within (end_ok size.0.1 (part_at size.0.0 size.0.1) bytes.0 bytes.1) in
    let all : GoesOn (1 + 4 + size.0.0) r bytes.0.1 = goes_both (1 + 4) size.0.0 r size.0.1 bytes.0.1 (goes_both 1 4 r way.0.1 size.0.1 one two) three in
    let long = part_long size.0.0 size.0.1 bytes.0 (end_ok size.0.1 (part_at size.0.0 size.0.1) bytes.0 bytes.1) in
    subst (PieceGoes r) (ok_is _ _ bytes.2) (record { count = 1 + 4 + size.0.0; some = omega arith; long = omega (arith, long); goes = all })

-- a failure of two steps, by what each of them says
err_by : {A B : Type 0} (P : Type 0) (r : Result A ℕ) (f : A → Result B ℕ) (d : ℕ) → (r >>= f) ≡ Err d → (r ≡ Err d → P) → ((x : A) → r ≡ Ok x → f x ≡ Err d → P) → P
err_by P (Ok x) f d e first then_ = then_ x refl e
err_by P (Err c) f d e first then_ = first (cc)

-- The place that is told for a piece is one of its bytes, or their end.
pub piece_tells : (r : Reading) (at : ℕ) → IsIn r → piece_at r ≡ Err at → at ≤ length r.bytes
unfolding piece_at
piece_tells r at is_in e = err_by (at ≤ length r.bytes) (within_at 1 0 1 r) _ at e (within_tells 1 0 1 r at is_in)
    (λ way read e. (let one = within_goes 1 0 1 r way is_in read in
    err_by (at ≤ length r.bytes) (within_at 4 1 MAX_PIECE way.1) _ at e
    (λ none. (let tells = within_tells 4 1 MAX_PIECE way.1 at one.within none in omega (arith, tells, ap length one.bytes)))
    (λ size read e. (let two = within_goes 4 1 MAX_PIECE way.1 size one.within read in
    err_by (at ≤ length r.bytes) (or_end size.1 (part_at size.0 size.1)) _ at e
    (λ none. omega (arith, end_err size.1 (part_at size.0 size.1) at none, ap length two.bytes, ap length one.bytes))
    (λ bytes read e. absurd (ok_apart _ at e))))))
  where
    ok_apart : (x : Piece × Reading) (at : ℕ) → done {X = Piece × Reading} {E = ℕ} x ≡ Err at → ⊥
    ok_apart x at e = cc

-- A head goes on too.
pub record HeadGoes (r s : Reading) : Type 0 where
  pub bytes : s.bytes ≡ r.bytes
  pub within : s.at ≤ length s.bytes

pub head_goes : (r : Reading) (t : Head × Reading) → IsIn r → head_at r ≡ Ok t → HeadGoes r t.1
unfolding head_at
head_goes r t is_in e =
    let magic = bind_ok (within_at 4 0x4342514D 0x4342514D r) _ t e in
    let one = within_goes 4 0x4342514D 0x4342514D r magic.0 is_in magic.1 in
    let role = bind_ok (within_at 1 0 1 magic.0.1) _ t magic.2 in
    let two = within_goes 1 0 1 magic.0.1 role.0 one.within role.1 in
    let own = bind_ok (or_end role.0.1 (guid_at role.0.1)) _ t role.2 in
    let three = guid_goes role.0.1 own.0 two.within (end_ok role.0.1 (guid_at role.0.1) own.0 own.1) in
    let peer = bind_ok (or_end own.0.1 (guid_at own.0.1)) _ t own.2 in
    let four = guid_goes own.0.1 peer.0 three.within (end_ok own.0.1 (guid_at own.0.1) peer.0 peer.1) in
    let window = bind_ok (within_at 2 1 65535 peer.0.1) _ t peer.2 in
    let five = within_goes 2 1 65535 peer.0.1 window.0 four.within window.1 in
    subst (λ (x : Head × Reading). HeadGoes r x.1) (ok_is _ _ window.2)
    (record { bytes = five.bytes ∙ four.bytes ∙ three.bytes ∙ two.bytes ∙ one.bytes; within = five.within })

-- The pieces that are found stand there, and no piece stands behind them.
pub record IsFound (r : Reading) (f : Found) : Type 0 where
  pub are : ArePieces f.pieces r f.end
  pub stops : piece_at f.end ≡ Err f.stop
  pub bytes : f.end.bytes ≡ r.bytes
  pub within : f.end.at ≤ length f.end.bytes

found_here : (r : Reading) (at : ℕ) → IsIn r → piece_at r ≡ Err at → IsFound r (record { pieces = []; end = r; stop = at })
found_here r at is_in e = record { are = refl; stops = e; bytes = refl; within = is_in }

found_next : (r : Reading) (t : Piece × Reading) (f : Found) → piece_at r ≡ Ok t → t.1.bytes ≡ r.bytes → IsFound t.1 f → IsFound r (found_before t.0 f)
found_next r t f e same is = record { are = (t.1, e, is.are); stops = is.stops; bytes = is.bytes ∙ same; within = is.within }

left_none : (r : Reading) → length r.bytes ≤ r.at → rest_of r ≡ []
left_none r end = none (rest_of r) (omega (arith, end, length-drop r.at r.bytes))
  where
    none : (xs : List ℕ) → length xs ≤ 0 → xs ≡ []
    none [] e = refl
    none (x ∷ xs) e = absurd (omega (arith, e))

found_by_right : (steps : ℕ) (r : Reading) → IsIn r → length r.bytes ≤ r.at + suc steps → (o : Result (Piece × Reading) ℕ) → piece_at r ≡ o → ((s : Reading) → IsIn s → length s.bytes ≤ s.at + steps → IsFound s (pieces_in steps s)) → IsFound r (found_by (λ next. pieces_in steps next) r o)
found_by_right steps r is_in enough (Err at) e more = found_here r at is_in e
found_by_right steps r is_in enough (Ok t) e more =
    let goes = piece_goes r t is_in e in
    let g = goes.goes in
    found_next r t (pieces_in steps t.1) e g.bytes (more t.1 g.within (omega (arith, enough, g.at, goes.some, ap length g.bytes)))

pub found_right : (steps : ℕ) (r : Reading) → IsIn r → length r.bytes ≤ r.at + steps → IsFound r (pieces_in steps r)
found_right zero r is_in enough = found_here r (length r.bytes) is_in (no_more r (left_none r (omega (arith, enough))))
found_right (suc steps) r is_in enough = found_by_right steps r is_in enough (piece_at r) refl (found_right steps)
