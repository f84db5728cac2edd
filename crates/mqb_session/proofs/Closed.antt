-- A closed session stays closed.
use Rattle.std.proofs.Common.{◌≡◌, List, [], ◌∷◌, refl}
use Rattle.mqb_base.specs.declared.heard.Cause.{Cause}
use Rattle.mqb_session.specs.declared.heads.Kind.TheVariants.{Plain, Recoverable, Ack}
use Rattle.mqb_session.specs.declared.phase.Phase.TheVariants.{Closed}
use Rattle.mqb_session.specs.State.{State}
use Rattle.mqb_session.specs.Calls.{Call, HearEstablish, HearParameters, HearHead, Owed, Stamp, NoteStored, Close, after, after_all}

stays_closed : (call : Call) (cause : Cause) (s : State) → s.phase ≡ Closed cause → (after call s).phase ≡ Closed cause
stays_closed (HearEstablish e known) cause s closed = rw closed refl
stays_closed (HearParameters p) cause s closed = rw closed refl
stays_closed (HearHead h) cause s closed = rw closed refl
stays_closed (Owed now) cause s closed = rw closed refl
stays_closed (Stamp Plain) cause s closed = closed
stays_closed (Stamp Recoverable) cause s closed = closed
stays_closed (Stamp Ack) cause s closed = closed
stays_closed NoteStored cause s closed = closed
stays_closed (Close other) cause s closed = rw closed refl

pub all_closed : (calls : List Call) (cause : Cause) (s : State) → s.phase ≡ Closed cause → (after_all calls s).phase ≡ Closed cause
all_closed [] cause s closed = closed
all_closed (call ∷ calls) cause s closed = all_closed calls cause (after call s) (stays_closed call cause s closed)
