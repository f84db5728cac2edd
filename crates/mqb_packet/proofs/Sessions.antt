-- Session and internal headers, both ways.
use Rattle.std.proofs.Common.{◌≡◌, ◌≤◌, ◌<◌, ℕ, ◌+◌, ◌/◌, ◌%◌, ◌==◌, Bool, true, false, cond, List, ◌++◌, length, Result, Ok, Err, refl, sym, ap, subst, ◌∙◌, ◌⊎◌, inl, inr, arith}
use Rattle.std.proofs.lemmas.Bool.{eqb-true}
use Rattle.mqb_base.specs.declared.heads.SessionHead.{SessionHead}
use Rattle.mqb_base.specs.declared.ids.Guid.{Guid}
use Rattle.mqb_fields.specs.declared.faults.HeadFault.{HeadFault}
use Rattle.mqb_fields.specs.Faults.{in_packet}
use Rattle.mqb_fields.specs.Packets.{field_at, skipped}
use Rattle.mqb_fields.specs.Reading.{◌>>=◌, Reading, rest_of, moved, guid_at}
use Rattle.mqb_heads.specs.mqb_names.Grammar.{◌then◌}
use Rattle.mqb_heads.specs.Fields.{source_at}
use Rattle.mqb_heads.specs.Flags.{bit, bits}
use Rattle.mqb_heads.specs.lemmas.ReadLaws.{bind_ok}
use Rattle.mqb_setup.specs.declared.internal.Establish.{Establish}
use Rattle.mqb_setup.specs.declared.internal.Internal.{Internal}
use Rattle.mqb_setup.specs.declared.internal.Internal.TheVariants as part
use Rattle.mqb_setup.specs.declared.internal.Parameters.{Parameters}
use Rattle.mqb_setup.specs.Internals.{type_of, is_refused, establish_at, parameters_at, ack_from, establish_from, parameters_from, internal_at}
use Rattle.mqb_setup.specs.Sessions.{session_at}
use Rattle.mqb_packet.specs.Forms.{Free, Number, GuidForm}
use Rattle.mqb_packet.specs.Grammar.{SessionForm, EstablishForm, ParametersForm, InternalFlags, PartForm, InternalForm}
use Rattle.mqb_packet.proofs.Steps.{ok_is, Took, ◌&◌, in_form, Gives, Passes, gives_then, passes_then, gives_last, passes_last}
use Rattle.mqb_packet.proofs.Fields.{field_took, skip_took, guid_took, field_gives, skip_passes, guid_gives}

pub session_took : (r : Reading) (x : SessionHead × Reading) → session_at r ≡ Ok x → Took (SessionForm x.0) r x.1
unfolding session_at
session_took r x e =
    let ack = bind_ok (field_at 2 r) _ x e in
    let stored = bind_ok (field_at 2 ack.0.1) _ x ack.2 in
    let stored_flags = bind_ok (field_at 4 stored.0.1) _ x stored.2 in
    let user = bind_ok (field_at 2 stored_flags.0.1) _ x stored_flags.2 in
    let recoverable = bind_ok (field_at 2 user.0.1) _ x user.2 in
    let window = bind_ok (field_at 2 recoverable.0.1) _ x recoverable.2 in
    let end = bind_ok (skipped 2 window.0.1) _ x window.2 in
    subst (λ (x : SessionHead × Reading). Took (SessionForm x.0) r x.1) (ok_is _ x end.2)
    (field_took 2 r ack.0 ack.1 & field_took 2 ack.0.1 stored.0 stored.1 & field_took 4 stored.0.1 stored_flags.0 stored_flags.1
    & field_took 2 stored_flags.0.1 user.0 user.1 & field_took 2 user.0.1 recoverable.0 recoverable.1
    & field_took 2 recoverable.0.1 window.0 window.1 & skip_took 2 window.0.1 end.0 end.1)

pub session_gives : (h : SessionHead) → Gives session_at (SessionForm h) h
unfolding session_at
session_gives h =
    gives_then (field_at 2) _ (Number 2 h.ack) _ h.ack h (field_gives 2 h.ack)
    (gives_then (field_at 2) _ (Number 2 h.stored) _ h.stored h (field_gives 2 h.stored)
    (gives_then (field_at 4) _ (Number 4 h.stored_flags) _ h.stored_flags h (field_gives 4 h.stored_flags)
    (gives_then (field_at 2) _ (Number 2 h.user) _ h.user h (field_gives 2 h.user)
    (gives_then (field_at 2) _ (Number 2 h.recoverable) _ h.recoverable h (field_gives 2 h.recoverable)
    (gives_then (field_at 2) _ (Number 2 h.window) _ h.window h (field_gives 2 h.window)
    (passes_last (skipped 2) h (Free 2) (skip_passes 2)))))))

pub establish_took : (refused : Bool) (r : Reading) (x : Establish × Reading) → establish_at refused r ≡ Ok x → (x.0.refused ≡ refused) × Took (EstablishForm x.0) r x.1
unfolding establish_at
establish_took refused r x e =
    let client = bind_ok (in_packet (guid_at r)) _ x e in
    let server = bind_ok (in_packet (guid_at client.0.1)) _ x client.2 in
    let stamp = bind_ok (field_at 4 server.0.1) _ x server.2 in
    let reserved = bind_ok (skipped 4 stamp.0.1) _ x stamp.2 in
    let filler = bind_ok (skipped 512 reserved.0) _ x reserved.2 in
    subst (λ (x : Establish × Reading). (x.0.refused ≡ refused) × Took (EstablishForm x.0) r x.1) (ok_is _ x filler.2) (
      refl,
      guid_took r client.0 client.1 & guid_took client.0.1 server.0 server.1 & field_took 4 server.0.1 stamp.0 stamp.1
          & skip_took 4 stamp.0.1 reserved.0 reserved.1 & skip_took 512 reserved.0 filler.0 filler.1,
    )

pub establish_gives : (e : Establish) → Gives (establish_at e.refused) (EstablishForm e) e
unfolding establish_at
establish_gives e =
    gives_then (λ r. in_packet (guid_at r)) _ (GuidForm e.client) _ e.client.0 e (guid_gives e.client)
    (gives_then (λ r. in_packet (guid_at r)) _ (GuidForm e.server) _ e.server.0 e (guid_gives e.server)
    (gives_then (field_at 4) _ (Number 4 e.stamp) _ e.stamp e (field_gives 4 e.stamp)
    (passes_then (skipped 4) _ (Free 4) _ e (skip_passes 4)
    (passes_last (skipped 512) e (Free 512) (skip_passes 512)))))

pub parameters_took : (r : Reading) (x : Parameters × Reading) → parameters_at r ≡ Ok x → Took (ParametersForm x.0) r x.1
unfolding parameters_at
parameters_took r x e =
    let storage_time = bind_ok (field_at 4 r) _ x e in
    let ack_time = bind_ok (field_at 4 storage_time.0.1) _ x storage_time.2 in
    let reserved = bind_ok (skipped 2 ack_time.0.1) _ x ack_time.2 in
    let window = bind_ok (field_at 2 reserved.0) _ x reserved.2 in
    subst (λ (x : Parameters × Reading). Took (ParametersForm x.0) r x.1) (ok_is _ x window.2)
    (field_took 4 r storage_time.0 storage_time.1 & field_took 4 storage_time.0.1 ack_time.0 ack_time.1
    & skip_took 2 ack_time.0.1 reserved.0 reserved.1 & field_took 2 reserved.0 window.0 window.1)

pub parameters_gives : (p : Parameters) → Gives parameters_at (ParametersForm p) p
unfolding parameters_at
parameters_gives p =
    gives_then (field_at 4) _ (Number 4 p.storage_time) _ p.storage_time p (field_gives 4 p.storage_time)
    (gives_then (field_at 4) _ (Number 4 p.ack_time) _ p.ack_time p (field_gives 4 p.ack_time)
    (passes_then (skipped 2) _ (Free 2) _ p (skip_passes 2)
    (gives_last (field_at 2) (λ (window : ℕ). record { storage_time = p.storage_time; ack_time = p.ack_time; window = window })
    (Number 2 p.window) p.window (field_gives 2 p.window))))

one_of : {X E : Type 0} (a b c : Bool) (x y z : Result X E) (d : E) (out : X) → cond a x (cond b y (cond c z (Err d))) ≡ Ok out
    → ((a ≡ true) × (x ≡ Ok out)) ⊎ (((b ≡ true) × (y ≡ Ok out)) ⊎ ((c ≡ true) × (z ≡ Ok out)))
one_of true b c x y z d out e = inl (refl, e)
one_of false true c x y z d out e = inr (inl (refl, e))
one_of false false true x y z d out e = inr (inr (refl, e))
one_of false false false x y z d out e = absurd cc

-- what stands behind the flags
abbrev Behind : ℕ → Reading → Internal × Reading → Type 0
Behind word r x = InternalFlags word x.0 × Took (Free 2 then PartForm x.0) r x.1

ack_took : (word : ℕ) (r : Reading) (x : Internal × Reading) → type_of word ≡ 1 → ack_from r ≡ Ok x → Behind word r x
ack_took word r x kind e =
    let reserved = bind_ok (skipped 2 r) _ x e in
    let head = bind_ok (session_at reserved.0) _ x reserved.2 in
    subst (Behind word r) (ok_is _ x head.2) (omega (arith, kind), skip_took 2 r reserved.0 reserved.1 & session_took reserved.0 head.0 head.1)

refused_took : (word : ℕ) (r : Reading) (x : Internal × Reading) → type_of word ≡ 2 → establish_from (is_refused word) r ≡ Ok x → Behind word r x
refused_took word r x kind e =
    let reserved = bind_ok (skipped 2 r) _ x e in
    let establish = bind_ok (establish_at (is_refused word) reserved.0) _ x reserved.2 in
    let read = establish_took (is_refused word) reserved.0 establish.0 establish.1 in
    subst (Behind word r) (ok_is _ x establish.2) ((omega (arith, kind), read.0), skip_took 2 r reserved.0 reserved.1 & read.1)

window_took : (word : ℕ) (r : Reading) (x : Internal × Reading) → type_of word ≡ 3 → parameters_from r ≡ Ok x → Behind word r x
window_took word r x kind e =
    let reserved = bind_ok (skipped 2 r) _ x e in
    let parameters = bind_ok (parameters_at reserved.0) _ x reserved.2 in
    subst (Behind word r) (ok_is _ x parameters.2) (omega (arith, kind), skip_took 2 r reserved.0 reserved.1 & parameters_took reserved.0 parameters.0 parameters.1)

pub internal_took : (r : Reading) (x : Internal × Reading) → internal_at r ≡ Ok x → Took (InternalForm x.0) r x.1
unfolding internal_at
internal_took r x e =
    let flags = bind_ok (field_at 2 r) _ x e in
    let word = flags.0.0 in
    let behind : Behind word flags.0.1 x = elim (one_of (type_of word == 1) (type_of word == 2) (type_of word == 3) _ _ _ _ x flags.2) [
      | inl ack ↦ ack_took word flags.0.1 x (eqb-true _ _ ack.0) ack.1
      | inr (inl establish) ↦ refused_took word flags.0.1 x (eqb-true _ _ establish.0) establish.1
      | inr (inr parameters) ↦ window_took word flags.0.1 x (eqb-true _ _ parameters.0) parameters.1
    ] in
    in_form (λ bytes is. (word, behind.0, is)) (field_took 2 r flags.0 flags.1 & behind.1)

ack_gives : (h : SessionHead) → Gives ack_from (Free 2 then SessionForm h) (part.Ack h)
ack_gives h =
    passes_then (skipped 2) _ (Free 2) _ (part.Ack h) (skip_passes 2) (gives_last session_at (λ (head : SessionHead). part.Ack head) (SessionForm h) h (session_gives h))

refused_gives : (e : Establish) → Gives (establish_from e.refused) (Free 2 then EstablishForm e) (part.Establish e)
refused_gives e =
    passes_then (skipped 2) _ (Free 2) _ (part.Establish e) (skip_passes 2)
    (gives_last (establish_at e.refused) (λ (establish : Establish). part.Establish establish) (EstablishForm e) e (establish_gives e))

window_gives : (p : Parameters) → Gives parameters_from (Free 2 then ParametersForm p) (part.Parameters p)
window_gives p =
    passes_then (skipped 2) _ (Free 2) _ (part.Parameters p) (skip_passes 2)
    (gives_last parameters_at (λ (parameters : Parameters). part.Parameters parameters) (ParametersForm p) p (parameters_gives p))

pub internal_gives : (i : Internal) → Gives internal_at (InternalForm i) i
unfolding internal_at
internal_gives (part.Ack h) r bytes rest e (word, kind, form) =
    let is : type_of word ≡ 1 = omega (arith, kind) in
    gives_then (field_at 2) _ (Number 2 word) (Free 2 then SessionForm h) word (part.Ack h) (field_gives 2 word)
    (λ r bytes rest e form. rw is (ack_gives h r bytes rest e form)) r bytes rest e form
internal_gives (part.Establish s) r bytes rest e (word, kind, form) =
    let is : type_of word ≡ 2 = omega (arith, kind.0) in
    gives_then (field_at 2) _ (Number 2 word) (Free 2 then EstablishForm s) word (part.Establish s) (field_gives 2 word)
    (λ r bytes rest e form. rw (is, ← kind.1) (refused_gives s r bytes rest e form)) r bytes rest e form
internal_gives (part.Parameters p) r bytes rest e (word, kind, form) =
    let is : type_of word ≡ 3 = omega (arith, kind) in
    gives_then (field_at 2) _ (Number 2 word) (Free 2 then ParametersForm p) word (part.Parameters p) (field_gives 2 word)
    (λ r bytes rest e form. rw is (window_gives p r bytes rest e form)) r bytes rest e form
