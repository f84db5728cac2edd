-- Each number comes once.
use Rattle.std.proofs.Common.{◌≡◌, ℕ, ◌+◌, Bool, true, false, if◌then◌else◌, List, [], ◌∷◌, length, map, refl, ap, ◌∙◌}
use Rattle.mqb_base.specs.declared.heads.SessionHead.{SessionHead}
use Rattle.mqb_base.specs.declared.heard.Cause.TheVariants.{BadAck}
use Rattle.mqb_session.specs.declared.heads.HeadHeard.{HeadHeard}
use Rattle.mqb_session.specs.declared.heads.HeadHeard.TheVariants as heard
use Rattle.mqb_session.specs.declared.heads.Kind.TheVariants.{Plain, Recoverable, Ack}
use Rattle.mqb_session.specs.declared.phase.Phase.{Phase}
use Rattle.mqb_session.specs.declared.phase.Phase.TheVariants.{Start, WaitEstablish, OweEstablish, OweRefusal, OweParameters, WaitParameters, Ready, Closed}
use Rattle.mqb_session.specs.State.{State}
use Rattle.mqb_session.specs.Hearing.{closing, counted, acknowledged, is_bad_ack, order_of, head_in}
use Rattle.mqb_session.specs.Calls.{Call, HearEstablish, HearParameters, HearHead, Owed, Stamp, NoteStored, Close, after, user_heads, recoverable_heads, heads_of, from}

-- the counts of what was sent
abbrev sent_of : State → ℕ × ℕ
sent_of s = (s.sent, s.recoverable_sent)

counted_sends : (order : HeadHeard) (s : State) → sent_of (counted order s) ≡ sent_of s
counted_sends (heard.Closed cause) s = refl
counted_sends heard.InOrder s = refl
counted_sends heard.OutOfOrder s = refl
counted_sends heard.AckOnly s = refl

ready_sends : (bad : Bool) (h : SessionHead) (s : State)
    → sent_of (if bad then closing BadAck s else (order_of h s, counted (order_of h s) (acknowledged h s))).1 ≡ sent_of s
ready_sends true h s = refl
ready_sends false h s = counted_sends (order_of h s) (acknowledged h s)

-- a header that is heard sends nothing
head_sends : (phase : Phase) (h : SessionHead) (s : State) → sent_of (head_in phase h s).1 ≡ sent_of s
head_sends Start h s = refl
head_sends WaitEstablish h s = refl
head_sends OweEstablish h s = refl
head_sends OweRefusal h s = refl
head_sends OweParameters h s = refl
head_sends WaitParameters h s = refl
head_sends Ready h s = ready_sends (is_bad_ack h s) h s
head_sends (Closed cause) h s = refl

pub user_numbers : (calls : List Call) (s : State) → map (λ h. h.user) (heads_of user_heads calls s) ≡ from (s.sent + 1) (length (heads_of user_heads calls s))
user_numbers [] s = refl
user_numbers (HearEstablish e known ∷ calls) s = user_numbers calls (after (HearEstablish e known) s)
user_numbers (HearParameters p ∷ calls) s = user_numbers calls (after (HearParameters p) s)
user_numbers (HearHead h ∷ calls) s = user_numbers calls (after (HearHead h) s)
    ∙ ap (λ (counts : ℕ × ℕ). from (counts.0 + 1) (length (heads_of user_heads calls (after (HearHead h) s)))) (head_sends s.phase h s)
user_numbers (Owed now ∷ calls) s = user_numbers calls (after (Owed now) s)
user_numbers (Stamp Plain ∷ calls) s = ap (λ (numbers : List ℕ). (s.sent + 1) ∷ numbers) (user_numbers calls (after (Stamp Plain) s))
user_numbers (Stamp Recoverable ∷ calls) s = ap (λ (numbers : List ℕ). (s.sent + 1) ∷ numbers) (user_numbers calls (after (Stamp Recoverable) s))
user_numbers (Stamp Ack ∷ calls) s = user_numbers calls (after (Stamp Ack) s)
user_numbers (NoteStored ∷ calls) s = user_numbers calls (after NoteStored s)
user_numbers (Close cause ∷ calls) s = user_numbers calls (after (Close cause) s)

pub recoverable_numbers : (calls : List Call) (s : State) → map (λ h. h.recoverable) (heads_of recoverable_heads calls s) ≡ from (s.recoverable_sent + 1) (length (heads_of recoverable_heads calls s))
recoverable_numbers [] s = refl
recoverable_numbers (HearEstablish e known ∷ calls) s = recoverable_numbers calls (after (HearEstablish e known) s)
recoverable_numbers (HearParameters p ∷ calls) s = recoverable_numbers calls (after (HearParameters p) s)
recoverable_numbers (HearHead h ∷ calls) s = recoverable_numbers calls (after (HearHead h) s)
    ∙ ap (λ (counts : ℕ × ℕ). from (counts.1 + 1) (length (heads_of recoverable_heads calls (after (HearHead h) s)))) (head_sends s.phase h s)
recoverable_numbers (Owed now ∷ calls) s = recoverable_numbers calls (after (Owed now) s)
recoverable_numbers (Stamp Plain ∷ calls) s = recoverable_numbers calls (after (Stamp Plain) s)
recoverable_numbers (Stamp Recoverable ∷ calls) s = ap (λ (numbers : List ℕ). (s.recoverable_sent + 1) ∷ numbers) (recoverable_numbers calls (after (Stamp Recoverable) s))
recoverable_numbers (Stamp Ack ∷ calls) s = recoverable_numbers calls (after (Stamp Ack) s)
recoverable_numbers (NoteStored ∷ calls) s = recoverable_numbers calls (after NoteStored s)
recoverable_numbers (Close cause ∷ calls) s = recoverable_numbers calls (after (Close cause) s)
