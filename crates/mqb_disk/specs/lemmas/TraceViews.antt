-- Lemmas of TraceViews.
use Rattle.std.specs.Prelude.{ℕ, ◌≤◌, List, [], ◌∷◌, length, refl}
use Rattle.std.proofs.Common.{inl, ⊎_elim, sym, ◌∙◌, subst, arith}
use Rattle.mqb_outside.specs.Disk.{Lawful}
use Rattle.std.specs.List.{All}
use Rattle.mqb_outside.specs.declared.disk.TheConstants.{MAX_DISK}
use Rattle.mqb_disk.specs.History.{Event, Wrote, WasCut, Synced, held, ImageAt}
use Rattle.mqb_disk.specs.History.{Since, reaches_within}
use Rattle.mqb_disk.specs.lemmas.History.{image_within}
use Rattle.mqb_disk.specs.declared.trace_disk.TraceDisk.{TraceDisk}
use Rattle.mqb_disk.specs.TraceViews.{view_of, history_of, trace_view, room}

pub is_left : (events : List Event) → ImageAt events (held events)
is_left [] = refl
is_left (Wrote at bytes ∷ events) = inl refl
is_left (WasCut n ∷ events) = inl refl
is_left (Synced ∷ events) = refl

pub since_within : (events : List Event) (t : ℕ) (c : List ℕ) → Since events t c → t ≤ length events
since_within [] t c since = since.0
since_within (event ∷ events) t c since = ⊎_elim (λ now. now.0)
    (λ before. (let le : t ≤ length events = since_within events t c before in omega arith)) since

pub since_now : (events : List Event) (c : List ℕ) → Since events (length events) c
    → ImageAt events c
since_now [] c since = since.1
since_now (event ∷ events) c since =
    ⊎_elim (λ now. now.1) (λ before. absurd (let le : length (event ∷ events) ≤ length events =
    since_within events (length (event ∷ events)) c before in omega arith)) since

pub counts_now : (events : List Event) (t : ℕ) (c : List ℕ) → t ≤ length events → ImageAt events c
    → Since events t c
counts_now [] t c le image = (le, image)
counts_now (event ∷ events) t c le image = inl (le, image)

pub lawful_of : (room : ℕ) (events : List Event) (calls faults reached : ℕ)
    → All (reaches_within room) events → room ≤ MAX_DISK
    → Lawful (view_of events calls faults reached)
lawful_of room events calls faults reached within small = record {
  one = λ a b is other. is ∙ sym other;
  is_left = λ c is. subst (ImageAt events) (sym is) (is_left events);
  only_now = λ c left. since_now events c left;
  counts_now = λ keeps t le c left. counts_now events t c le left;
  tells = λ keeps. (held events, refl);
  bound = λ c left. (let fits : length c ≤ room = image_within room events c within left in
      omega (arith, fits, small));
}

pub trace_lawful : (d : TraceDisk) → Lawful (trace_view d)
trace_lawful d = lawful_of d.current.room (history_of d) d.made d.faults d.reached d.bounded d.small
