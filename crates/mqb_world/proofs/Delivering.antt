-- The packet of a number is delivered.
use Rattle.std.proofs.Common.{◌≡◌, ◌≤◌, ◌==◌, ℕ, zero, suc, Bool, false, List, [], ◌∷◌, Option, Some, length, refl, sym, ap, subst, ◌∙◌, arith}
use Rattle.std.proofs.lemmas.Bool.Decides.{nat_tests}
use Rattle.std.proofs.lemmas.List.{length-map}
use Rattle.std.specs.Option.{option_map_or}
use Rattle.std.specs.Prelude.{IsSome, map, option_map, slice_get}
use Rattle.mqb_deliveries.specs.lemmas.Delivered.{delivers_so, gone_delivers}
use Rattle.mqb_deliveries.specs.Delivers.{WasDelivered}
use Rattle.mqb_deliveries.specs.Failing.{is_for}
use Rattle.mqb_outside.specs.Disk.{View}
use Rattle.mqb_network.specs.Network as network
use Rattle.mqb_network.specs.Network.{is_underway}
use Rattle.mqb_packet.specs.Plain.{plain_spelling}
use Rattle.mqb_packet.specs.declared.packet.Packet.{Packet}
use Rattle.mqb_queue.specs.Places.{numbered}
use Rattle.mqb_script.specs.Managers.{other}
use Rattle.mqb_script.specs.declared.managers.Which.{Which}
use Rattle.mqb_traffic.specs.Networks.{index_of, note_of, notes_of}
use Rattle.mqb_traffic.specs.States.{TrafficState}
use Rattle.mqb_traffic.specs.declared.notes.Note.{Note}
use Rattle.mqb_transcript.specs.declared.arrivals.Outcome.{Outcome}
use Rattle.mqb_transcript.specs.declared.arrivals.Outcome.TheVariants as outcome
use Rattle.mqb_turns.specs.Counts.{counts_at}
use Rattle.mqb_turns.specs.Passes.{IsPassed}
use Rattle.mqb_turns.specs.Sides.{Side, network_at}
use Rattle.mqb_world.specs.Worlds.{WorldState, counts_of, network_of}

-- Numbers.

got_within : {X : Type 0} (xs : List X) (k : ℕ) (x : X) → slice_get xs k ≡ Some x → suc k ≤ length xs
got_within [] k x is = absurd (let none : ⊥ = cc in none)
got_within (y ∷ xs) zero x is = omega arith
got_within (y ∷ xs) (suc k) x is = let less = got_within xs k x is in omega (arith, less)

got_there : {X : Type 0} (xs : List X) (k : ℕ) → suc k ≤ length xs → (x : X) × (slice_get xs k ≡ Some x)
got_there [] k less = absurd (omega (arith, less))
got_there (y ∷ xs) zero less = (y, refl)
got_there (y ∷ xs) (suc k) less = got_there xs k (omega (arith, less))

by_number : {X : Type 0} (xs : List X) (k : ℕ) → numbered xs (suc k) ≡ slice_get xs k
by_number xs k = let some : (suc k == 0) ≡ false = grind (arith, nat_tests) in rw some (ap (slice_get xs) (omega arith))

pub number_within : {X : Type 0} (xs : List X) (k : ℕ) (x : X) → numbered xs k ≡ Some x → k ≤ length xs
number_within xs zero x is = omega arith
number_within xs (suc k) x is = got_within xs k x (sym (by_number xs k) ∙ is)

pub number_there : {X : Type 0} (xs : List X) (k : ℕ) → 1 ≤ k → k ≤ length xs → (x : X) × (numbered xs k ≡ Some x)
number_there xs zero some less = absurd (omega (arith, some))
number_there xs (suc k) some less = let there = got_there xs k less in (there.0, by_number xs k ∙ there.1)

-- The note of a packet.

pub sent_numbered : (t : TrafficState) (k : ℕ) (o : Option Note) (sent : Note) → option_map note_of o ≡ numbered (notes_of t) k → o ≡ Some sent → numbered (notes_of t) k ≡ Some (note_of sent)
sent_numbered t k o sent said is = sym said ∙ ap (option_map note_of) is

-- it is on the medium
pub note_within : (t : TrafficState) (k : ℕ) (sent : Note) (count : ℕ) → numbered (notes_of t) k ≡ Some (note_of sent) → length t.notes ≡ count → k ≤ count
note_within t k sent count is noted = let less = number_within (notes_of t) k (note_of sent) is in let same = length-map t.notes note_of in omega (arith, less, same, noted)

-- for whom it is
pub is_for_other : (t : TrafficState) (k i : ℕ) (sent : Note) (which : Which) → numbered (notes_of t) k ≡ Some (note_of sent) → sent.sender ≡ which
    → is_for (notes_of t) i k ≡ (index_of (other which) == i)
is_for_other t k i sent which is by = ap (λ (o : Option network.Note). option_map_or (λ note. note.receiver == i) o false) is ∙ ap (λ (w : Which). index_of (other w) == i) by

-- the packet itself
pub packet_there : (t : TrafficState) (k : ℕ) (sent : Note) (strings : List (List ℕ)) (packets : List Packet) → 1 ≤ k → numbered (notes_of t) k ≡ Some (note_of sent)
    → length t.notes ≡ length strings → strings ≡ map plain_spelling packets → (p : Packet) × (numbered packets k ≡ Some p)
packet_there t k sent strings packets some is noted are =
    let less = note_within t k sent (length strings) is noted in let spelled = ap length are in let same = length-map packets plain_spelling in
    number_there packets k some (omega (arith, less, spelled, same))

some_note : {X : Type 0} (o : Option X) (x : X) → o ≡ Some x → IsSome o
some_note o x is = subst (λ p. IsSome p) (sym is) refl

pub gone_delivered : (w : WorldState) (k now : ℕ) (sent : Note) (packets : List Packet) → numbered (notes_of w.traffic) k ≡ Some (note_of sent)
    → (p : Packet) × (numbered packets k ≡ Some p) → is_underway (network_of w) (note_of sent) ≡ false → WasDelivered (network_of w) (counts_of w) (network_of w) (counts_of w) packets k now (Some outcome.Gone)
gone_delivered w k now sent packets is (p, there) gone = (p, there, some_note (numbered (notes_of w.traffic) k) (note_of sent) is, gone_delivers (network_of w) (counts_of w) (note_of sent) k p now is gone)

pub passed_delivered : (which : Which) (x y : Side) (d e : View) (stopped : Bool) (k now : ℕ) (sent : Note) (p : Packet) (given : Outcome) (packets : List Packet)
    → numbered (network_at which x).notes k ≡ Some (note_of sent) → numbered packets k ≡ Some p → IsPassed which x y d e stopped (note_of sent) p now given
    → WasDelivered (network_at which x) (counts_at which x) (network_at which y) (counts_at which y) packets k now (Some given)
passed_delivered which x y d e stopped k now sent p given packets is there one = (
  p,
  there,
  some_note (numbered (network_at which x).notes k) (note_of sent) is,
  delivers_so which x y d e stopped (note_of sent) p k now given is one,
)
