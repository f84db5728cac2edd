-- What a call more makes of a history.
use Rattle.std.proofs.Common.{◌≡◌, inl, inr, ℕ, ◌≤◌, true, List, [], ◌∷◌, ◌++◌, length, take, drop, map, reverse, refl, sym, ◌∙◌, ap, subst, arith, length-drop}
use Rattle.std.specs.List.{All}
use Rattle.std.proofs.lemmas.List.{map-append, reverse-append, take-append-le, drop-append-le, drop_at, take_all}
use Rattle.std.proofs.lemmas.List.Elements.{All-head, All-tail, All-push, All-weaker}
use Rattle.mqb_outside.specs.Images.{Each, Torn, MayBeCut, Follows}
use Rattle.mqb_outside.specs.Disk.{Unchanged, Elapses, OnlyReads}
use Rattle.mqb_outside.specs.lemmas.Steps.{written_torn, nothing_torn}
use Rattle.mqb_outside.specs.lemmas.Runs.{reads_once}
use Rattle.mqb_disk.specs.declared.trace_disk.Call.{Call}
use Rattle.mqb_disk.specs.declared.trace_disk.Call.TheVariants as call
use Rattle.mqb_disk.specs.TraceViews.{view_of}
use Rattle.mqb_disk.specs.lemmas.TraceViews.{is_left, lawful_of}
use Rattle.mqb_outside.specs.declared.disk.TheConstants.{MAX_DISK}
use Rattle.mqb_disk.specs.History.{Event, Wrote, WasCut, Synced, end_of, fits, event_of, history, held, ImageAt, reaches_within}

same_event : (bytes more : List ℕ) (one : Call) → fits (length bytes) one → event_of (bytes ++ more) one ≡ event_of bytes one
same_event bytes more (call.Wrote at from n) within =
    ap (λ (l : List ℕ). Wrote at (take n l)) (drop-append-le from bytes more (omega arith))
    ∙ ap (λ (l : List ℕ). Wrote at l) (take-append-le n (drop from bytes) more (omega (arith, length-drop from bytes)))
same_event bytes more (call.Cut n) within = refl
same_event bytes more call.Synced within = refl

same_events : (bytes more : List ℕ) (calls : List Call) → All (fits (length bytes)) calls → map (event_of (bytes ++ more)) calls ≡ map (event_of bytes) calls
same_events bytes more [] all = refl
same_events bytes more (one ∷ calls) all =
    ap (λ (e : Event). e ∷ map (event_of (bytes ++ more)) calls) (same_event bytes more one (All-head (fits (length bytes)) one calls all))
    ∙ ap (λ (l : List Event). event_of bytes one ∷ l) (same_events bytes more calls (All-tail (fits (length bytes)) one calls all))

-- the last call comes first
pub history_push : (bytes more : List ℕ) (calls : List Call) (last : Call) → All (fits (length bytes)) calls → history (bytes ++ more) (calls ++ last ∷ []) ≡ event_of (bytes ++ more) last ∷ history bytes calls
history_push bytes more calls last all =
    ap reverse (map-append (event_of (bytes ++ more)) calls (last ∷ []))
    ∙ reverse-append (map (event_of (bytes ++ more)) calls) (event_of (bytes ++ more) last ∷ [])
    ∙ ap (λ (l : List Event). event_of (bytes ++ more) last ∷ reverse l) (same_events bytes more calls all)

-- the bytes that were kept last are those of the last write
pub last_wrote : (at : ℕ) (bytes more : List ℕ) → event_of (bytes ++ more) (call.Wrote at (length bytes) (length more)) ≡ Wrote at more
last_wrote at bytes more = ap (λ (l : List ℕ). Wrote at (take (length more) l)) (drop_at bytes more (length bytes) refl) ∙ ap (λ (l : List ℕ). Wrote at l) (take_all (length more) more (omega arith))

pub wrote_leaves_events : (events : List Event) (at : ℕ) (bytes : List ℕ) → at ≤ length (held events) → Follows (Torn at (length bytes)) (ImageAt events) (ImageAt (Wrote at bytes ∷ events))
wrote_leaves_events events at bytes place c (inl is) = (held events, is_left events, written_torn at (length bytes) bytes (held events) c place (omega arith) is)
wrote_leaves_events events at bytes place c (inr from) = from

pub cut_leaves_events : (events : List Event) (n : ℕ) → Follows (MayBeCut n) (ImageAt events) (ImageAt (WasCut n ∷ events))
cut_leaves_events events n c (inl is) = (held events, is_left events, inr is)
cut_leaves_events events n c (inr from) = from

-- a call that was not kept
pub quiet_time : (events later : List Event) (calls calls_later before after reached further : ℕ) → later ≡ events → Elapses (view_of events calls before reached) (view_of later calls_later after further)
quiet_time events later calls calls_later before after reached further is = subst (λ (l : List Event). Elapses (view_of events calls before reached) (view_of l calls_later after further)) (sym is) (record {
  later = omega arith;
  nothing_else = λ t c le left. inl left;
  keeps = λ t c le left. left;
  keeping = λ _. true;
})

quiet_unchanged : (events : List Event) (calls calls_later before after reached further : ℕ) → Unchanged (view_of events calls before reached) (view_of events calls_later after further)
quiet_unchanged events calls calls_later before after reached further = record {
  reads = record { none_new = λ c told. told; none_lost = λ c told. told };
  leaves = record { none_new = λ c told. told; none_lost = λ c told. told };
}

pub quiet_reads : (room : ℕ) (events later : List Event) (calls calls_later before after reached further : ℕ) → All (reaches_within room) events → room ≤ MAX_DISK → later ≡ events → OnlyReads (view_of events calls before reached) (view_of later calls_later after further)
quiet_reads room events later calls calls_later before after reached further within small is = subst (λ (l : List Event). OnlyReads (view_of events calls before reached) (view_of l calls_later after further)) (sym is)
    (reads_once (view_of events calls before reached) (view_of events calls_later after further) (lawful_of room events calls before reached within small)
    (quiet_unchanged events calls calls_later before after reached further) (quiet_time events events calls calls_later before after reached further refl) refl)

pub quiet_torn : (events later : List Event) (at n : ℕ) → later ≡ events → Follows (Torn at n) (ImageAt events) (ImageAt later)
quiet_torn events later at n is c image = (c, subst (λ (l : List Event). ImageAt l c) is image, nothing_torn at n c)

pub quiet_cut : (events later : List Event) (n : ℕ) → later ≡ events → Follows (MayBeCut n) (ImageAt events) (ImageAt later)
quiet_cut events later n is c image = (c, subst (λ (l : List Event). ImageAt l c) is image, inl refl)

-- a call that was kept
pub kept_torn : (events later : List Event) (at : ℕ) (bytes : List ℕ) → later ≡ Wrote at bytes ∷ events → at ≤ length (held events) → Follows (Torn at (length bytes)) (ImageAt events) (ImageAt later)
kept_torn events later at bytes is place c image = wrote_leaves_events events at bytes place c (subst (λ (l : List Event). ImageAt l c) is image)

pub kept_cut : (events later : List Event) (n : ℕ) → later ≡ WasCut n ∷ events → Follows (MayBeCut n) (ImageAt events) (ImageAt later)
kept_cut events later n is c image = cut_leaves_events events n c (subst (λ (l : List Event). ImageAt l c) is image)

-- the history after a write that was kept
pub history_wrote : (bytes later more : List ℕ) (calls later_calls : List Call) (at from : ℕ) → All (fits (length bytes)) calls → from ≡ length bytes → later ≡ bytes ++ more → later_calls ≡ calls ++ call.Wrote at from (length more) ∷ [] → history later later_calls ≡ Wrote at more ∷ history bytes calls
history_wrote bytes later more calls later_calls at from all place is calls_are =
    ap (λ (l : List ℕ). history l later_calls) is
    ∙ ap (λ (l : List Call). history (bytes ++ more) l) (calls_are ∙ ap (λ (k : ℕ). calls ++ call.Wrote at k (length more) ∷ []) place)
    ∙ history_push bytes more calls (call.Wrote at (length bytes) (length more)) all
    ∙ ap (λ (e : Event). e ∷ history bytes calls) (last_wrote at bytes more)

pub fits_more : (size larger : ℕ) (calls : List Call) (last : Call) → size ≤ larger → All (fits size) calls → fits larger last → All (fits larger) (calls ++ last ∷ [])
fits_more size larger calls last le all fit = All-push (fits larger) calls last (All-weaker (fits size) (fits larger) (λ one within. (let w : end_of one ≤ size = within in omega arith)) calls all) fit

-- after a sync that was kept a crash leaves what a read gives
pub synced_leaves : (bytes : List ℕ) (calls later : List Call) → later ≡ calls ++ call.Synced ∷ [] → Each (ImageAt (history bytes later)) (ImageAt (history bytes calls))
synced_leaves bytes calls later is c image =
    let kept : history bytes later ≡ Synced ∷ history bytes calls =
    ap (history bytes) is ∙ ap reverse (map-append (event_of bytes) calls (call.Synced ∷ [])) ∙ reverse-append (map (event_of bytes) calls) (Synced ∷ []) in
    subst (ImageAt (history bytes calls)) (sym (subst (λ (l : List Event). ImageAt l c) kept image)) (is_left (history bytes calls))
