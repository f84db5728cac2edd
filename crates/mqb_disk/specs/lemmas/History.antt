-- Lemmas of History.
use Rattle.std.specs.Prelude.{◌⊎◌, ℕ, ◌+◌, ◌≤◌, max, List, [], ◌∷◌, ◌++◌, length, take, drop}
use Rattle.std.specs.List.{All}
use Rattle.std.proofs.Common.{⊎_elim, ap, arith, length-append, length-drop}
use Rattle.std.proofs.lemmas.List.{length-take}
use Rattle.std.proofs.lemmas.List.Elements.{All-head, All-tail}
use Rattle.mqb_disk.specs.History.{Event, fits, held, ImageAt, reaches_within, Wrote}
use Rattle.mqb_disk.specs.History.{WasCut, Synced}

length-over : (at : ℕ) (bytes c : List ℕ)
    → length (take at c ++ bytes ++ drop (at + length bytes) c) ≤ max (length c) (at + length bytes)
length-over at bytes c = omega (
  arith,
  length-append (take at c ++ bytes) (drop (at + length bytes) c),
  length-append (take at c) bytes,
  length-take at c,
  length-drop (at + length bytes) c,
)

-- no event makes a disk longer than it reaches
pub held_within : (room : ℕ) (events : List Event) → All (reaches_within room) events
    → length (held events) ≤ room
held_within room [] all = omega arith
held_within room (Wrote at bytes ∷ events) all =
    let fits : at + length bytes ≤ room =
    All-head (reaches_within room) (Wrote at bytes) events all in
    omega (
      arith,
      fits,
      length-over at bytes (held events),
      held_within room events (All-tail (reaches_within room) (Wrote at bytes) events all),
    )
held_within room (WasCut n ∷ events) all = omega (
  arith,
  length-take n (held events),
  held_within room events (All-tail (reaches_within room) (WasCut n) events all),
)
held_within room (Synced ∷ events) all =
    held_within room events (All-tail (reaches_within room) Synced events all)

-- nor what a crash may leave
pub image_within : (room : ℕ) (events : List Event) (c : List ℕ) → All (reaches_within room) events
    → ImageAt events c → length c ≤ room
image_within room [] c all image = omega (arith, ap length image)
image_within room (Wrote at bytes ∷ events) c all image =
    ⊎_elim (λ is. omega (arith, ap length is, held_within room (Wrote at bytes ∷ events) all))
    (λ from.
    let fits : at + length bytes ≤ room =
    All-head (reaches_within room) (Wrote at bytes) events all in
    let was : length from.0 ≤ room = image_within room events from.0
    (All-tail (reaches_within room) (Wrote at bytes) events all) from.1 in
    omega (arith, fits, was, from.2.no_longer)) image
image_within room (WasCut n ∷ events) c all image =
    ⊎_elim (λ is. omega (arith, ap length is, held_within room (WasCut n ∷ events) all))
    (λ from.
    let was : length from.0 ≤ room = image_within room events from.0
    (All-tail (reaches_within room) (WasCut n) events all) from.1 in
    ⊎_elim (λ same. omega (arith, was, ap length same))
    (λ cut. omega (arith, was, ap length cut, length-take n from.0)) from.2) image
image_within room (Synced ∷ events) c all image = omega (
  arith,
  ap length image,
  held_within room events (All-tail (reaches_within room) Synced events all),
)
