-- What was put is read again, whatever follows.
use Rattle.std.proofs.Common.{◌≡◌, ℕ, ◌+◌, ◌-◌, ◌^◌, ◌<◌, Bool, true, false, cond, ltb, List, ◌++◌}
use Rattle.std.proofs.Common.{length, drop, Ok, refl, sym, ap, ◌∙◌, arith}
use Rattle.std.proofs.Common.{length-append, length-drop}
use Rattle.std.proofs.lemmas.Bool.{le-ltb}
use Rattle.std.proofs.lemmas.List.{take_at, drop_at, drop-drop}
use Rattle.mqb_base.specs.declared.heads.SessionHead.{SessionHead}
use Rattle.mqb_fields.specs.Reading.{Reading, rest_of, moved, part_at, number_at, guid_at, after}
use Rattle.mqb_fields.specs.Writing.{bytes_of}
use Rattle.mqb_fields.specs.Guids.{swapped}
use Rattle.mqb_fields.specs.lemmas.Again.{number_back, swapped_twice}
use Rattle.mqb_setup.specs.declared.internal.Establish.{Establish}
use Rattle.mqb_setup.specs.declared.internal.Parameters.{Parameters}
use Rattle.mqb_setup.specs.declared.internal.Internal.{Internal}
use Rattle.mqb_setup.specs.declared.internal.Internal.TheVariants as part
use Rattle.mqb_setup.specs.Internals.{establish_at, filler, internal_at, parameters_at}
use Rattle.mqb_setup.specs.Internals.{plain_establish, plain_internal, plain_parameters}
use Rattle.mqb_setup.specs.Internals.{type_of, is_refused}
use Rattle.mqb_setup.specs.Sessions.{session_at, plain_session}
use Rattle.mqb_setup.specs.Widths.{IsSessionHead, IsEstablish, IsParameters, IsInternal}
use Rattle.mqb_setup.specs.lemmas.Parts.{length_filler}

-- what stands at a place, and what follows it
abbrev pub Stands : Reading → List ℕ → List ℕ → Type 0
Stands r part rest = rest_of r ≡ part ++ rest

part_again : (r : Reading) (part rest : List ℕ) (count : ℕ) → length part ≡ count
    → Stands r part rest → part_at count r ≡ Ok (part, moved count r)
part_again r part rest count len e =
    let left : length r.bytes - r.at ≡ length part + length rest =
    sym (length-drop r.at r.bytes) ∙ ap length e ∙ length-append part rest in
    let enough : ltb (length r.bytes - r.at) count ≡ false =
    le-ltb _ _ (omega (arith, left, len)) in
    rw (enough, e, take_at part rest count len) refl

rest_again : (r : Reading) (part rest : List ℕ) (count : ℕ) → length part ≡ count
    → Stands r part rest → rest_of (moved count r) ≡ rest
rest_again r part rest count len e =
    sym (drop-drop count r.at r.bytes) ∙ ap (drop count) e ∙ drop_at part rest count len

number_again : (r : Reading) (width number : ℕ) (rest : List ℕ) → length (bytes_of width number)
    ≡ width → number < 256 ^ width → Stands r (bytes_of width number) rest
    → number_at width r ≡ Ok (number, moved width r)
number_again r width number rest len fits e =
    rw (part_again r (bytes_of width number) rest width len e, number_back width number fits) refl

guid_again : (r : Reading) (guid rest : List ℕ) → length guid ≡ 16 → Stands r (swapped guid) rest
    → guid_at r ≡ Ok (guid, moved 16 r)
guid_again r guid rest len e =
    rw (part_again r (swapped guid) rest 16 refl e, swapped_twice guid len) refl

after_again : (r : Reading) (part rest : List ℕ) (count : ℕ) → length part ≡ count
    → Stands r part rest → after count r ≡ Ok (moved count r)
after_again r part rest count len e = rw (part_again r part rest count len e) refl

pub session_again : (r : Reading) (h : SessionHead) (rest : List ℕ) → IsSessionHead h
    → Stands r (plain_session h) rest → session_at r ≡ Ok (h, moved 16 r)
unfolding session_at
session_again r h rest fits e =
    let t6 = bytes_of 2 0 ++ rest in
    let t5 = bytes_of 2 h.window ++ t6 in
    let t4 = bytes_of 2 h.recoverable ++ t5 in
    let t3 = bytes_of 2 h.user ++ t4 in
    let t2 = bytes_of 4 h.stored_flags ++ t3 in
    let t1 = bytes_of 2 h.stored ++ t2 in
    let r1 = moved 2 r in
    let r2 = moved 2 r1 in
    let r3 = moved 4 r2 in
    let r4 = moved 2 r3 in
    let r5 = moved 2 r4 in
    let r6 = moved 2 r5 in
    let e1 = rest_again r (bytes_of 2 h.ack) t1 2 refl e in
    let e2 = rest_again r1 (bytes_of 2 h.stored) t2 2 refl e1 in
    let e3 = rest_again r2 (bytes_of 4 h.stored_flags) t3 4 refl e2 in
    let e4 = rest_again r3 (bytes_of 2 h.user) t4 2 refl e3 in
    let e5 = rest_again r4 (bytes_of 2 h.recoverable) t5 2 refl e4 in
    let e6 = rest_again r5 (bytes_of 2 h.window) t6 2 refl e5 in
    rw (
      number_again r 2 h.ack t1 refl (omega (arith, fits.ack)) e,
      number_again r1 2 h.stored t2 refl (omega (arith, fits.stored)) e1,
      number_again r2 4 h.stored_flags t3 refl (omega (arith, fits.stored_flags)) e2,
      number_again r3 2 h.user t4 refl (omega (arith, fits.user)) e3,
      number_again r4 2 h.recoverable t5 refl (omega (arith, fits.recoverable)) e4,
      number_again r5 2 h.window t6 refl (omega (arith, fits.window)) e5,
      after_again r6 (bytes_of 2 0) rest 2 refl e6,
    )
    (ap (λ (at : ℕ). Ok (h, record { bytes = r.bytes; at = at })) (omega arith))

establish_again : (r : Reading) (e : Establish) (rest : List ℕ) → IsEstablish e
    → Stands r (plain_establish e) rest → establish_at e.refused r ≡ Ok (e, moved 552 r)
unfolding establish_at
establish_again r e rest fits s =
    let t4 = filler ++ rest in
    let t3 = bytes_of 4 0 ++ t4 in
    let t2 = bytes_of 4 e.stamp ++ t3 in
    let t1 = swapped e.server.0 ++ t2 in
    let r1 = moved 16 r in
    let r2 = moved 16 r1 in
    let r3 = moved 4 r2 in
    let r4 = moved 4 r3 in
    let s1 = rest_again r (swapped e.client.0) t1 16 refl s in
    let s2 = rest_again r1 (swapped e.server.0) t2 16 refl s1 in
    let s3 = rest_again r2 (bytes_of 4 e.stamp) t3 4 refl s2 in
    let s4 = rest_again r3 (bytes_of 4 0) t4 4 refl s3 in
    rw (
      guid_again r e.client.0 t1 fits.client s,
      guid_again r1 e.server.0 t2 fits.server s1,
      number_again r2 4 e.stamp t3 refl (omega (arith, fits.stamp)) s2,
      after_again r3 (bytes_of 4 0) t4 4 refl s3,
      after_again r4 filler rest 512 length_filler s4,
    )
    (ap (λ (at : ℕ). Ok (e, record { bytes = r.bytes; at = at })) (omega arith))

parameters_again : (r : Reading) (p : Parameters) (rest : List ℕ) → IsParameters p
    → Stands r (plain_parameters p) rest → parameters_at r ≡ Ok (p, moved 12 r)
unfolding parameters_at
parameters_again r p rest fits e =
    let t3 = bytes_of 2 p.window ++ rest in
    let t2 = bytes_of 2 0 ++ t3 in
    let t1 = bytes_of 4 p.ack_time ++ t2 in
    let r1 = moved 4 r in
    let r2 = moved 4 r1 in
    let r3 = moved 2 r2 in
    let e1 = rest_again r (bytes_of 4 p.storage_time) t1 4 refl e in
    let e2 = rest_again r1 (bytes_of 4 p.ack_time) t2 4 refl e1 in
    let e3 = rest_again r2 (bytes_of 2 0) t3 2 refl e2 in
    rw (
      number_again r 4 p.storage_time t1 refl (omega (arith, fits.storage_time)) e,
      number_again r1 4 p.ack_time t2 refl (omega (arith, fits.ack_time)) e1,
      after_again r2 (bytes_of 2 0) t3 2 refl e2,
      number_again r3 2 p.window rest refl (omega (arith, fits.window)) e3,
    )
    (ap (λ (at : ℕ). Ok (p, record { bytes = r.bytes; at = at })) (omega arith))

-- the flags of an Establish
abbrev establish_flags : Bool → ℕ
establish_flags refused = cond refused 18 2

flags_fit : (refused : Bool) → establish_flags refused < 256 ^ 2
flags_fit true = omega arith
flags_fit false = omega arith

type_again : (refused : Bool) → type_of (establish_flags refused) ≡ 2
type_again true = refl
type_again false = refl

refused_again : (refused : Bool) → is_refused (establish_flags refused) ≡ refused
refused_again true = refl
refused_again false = refl

pub internal_again : (r : Reading) (p : Internal) (rest : List ℕ) → IsInternal p
    → Stands r (plain_internal p) rest
    → internal_at r ≡ Ok (p, moved (length (plain_internal p)) r)
unfolding internal_at
internal_again r (part.Ack h) rest fits e =
    let t2 = plain_session h ++ rest in
    let t1 = bytes_of 2 0 ++ t2 in
    let r1 = moved 2 r in
    let e1 = rest_again r (bytes_of 2 1) t1 2 refl e in
    let e2 = rest_again r1 (bytes_of 2 0) t2 2 refl e1 in
    rw (
      number_again r 2 1 t1 refl (omega arith) e,
      after_again r1 (bytes_of 2 0) t2 2 refl e1,
      session_again (moved 2 r1) h rest fits e2,
    )
    (ap (λ (at : ℕ). Ok (part.Ack h, record { bytes = r.bytes; at = at })) (omega arith))
internal_again r (part.Establish e) rest fits s =
    let flags = establish_flags e.refused in
    let t2 = plain_establish e ++ rest in
    let t1 = bytes_of 2 0 ++ t2 in
    let r1 = moved 2 r in
    let s1 = rest_again r (bytes_of 2 flags) t1 2 refl s in
    let s2 = rest_again r1 (bytes_of 2 0) t2 2 refl s1 in
    rw (
      number_again r 2 flags t1 refl (flags_fit e.refused) s,
      type_again e.refused,
      refused_again e.refused,
      after_again r1 (bytes_of 2 0) t2 2 refl s1,
      establish_again (moved 2 r1) e rest fits s2,
    )
    (ap (λ (at : ℕ). Ok (part.Establish e, record { bytes = r.bytes; at = at }))
    (omega (arith, length_filler)))
internal_again r (part.Parameters p) rest fits e =
    let t2 = plain_parameters p ++ rest in
    let t1 = bytes_of 2 0 ++ t2 in
    let r1 = moved 2 r in
    let e1 = rest_again r (bytes_of 2 3) t1 2 refl e in
    let e2 = rest_again r1 (bytes_of 2 0) t2 2 refl e1 in
    rw (
      number_again r 2 3 t1 refl (omega arith) e,
      after_again r1 (bytes_of 2 0) t2 2 refl e1,
      parameters_again (moved 2 r1) p rest fits e2,
    )
    (ap (λ (at : ℕ). Ok (part.Parameters p, record { bytes = r.bytes; at = at })) (omega arith))
