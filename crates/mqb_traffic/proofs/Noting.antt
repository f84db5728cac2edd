-- Notes are those of the network.
use Rattle.std.proofs.Common.{◌≡◌, ◌-◌, ◌≤◌, ◌==◌, ℕ, zero, suc, false, List, [], ◌∷◌, ◌++◌, Option, None, Some, length, refl, sym, ap, ◌∙◌, arith}
use Rattle.std.proofs.lemmas.Bool.Decides.{nat_tests}
use Rattle.std.proofs.lemmas.List.{map-append, map-set}
use Rattle.std.specs.Option.{option_map_or}
use Rattle.std.specs.Prelude.{Err, Ok, OnOk, Result, is_some, map, nat_lt, option_map, replicate, slice_get, slice_set}
use Rattle.mqb_model.specs.Lists.{with_changed}
use Rattle.mqb_model.specs.managers.Manager.{Manager}
use Rattle.mqb_network.specs.Changes.{as_dropped, dropped, noted}
use Rattle.mqb_network.specs.Network as network
use Rattle.mqb_queue.specs.Places.{numbered, with_numbered}
use Rattle.mqb_script.specs.declared.managers.Which.{Which}
use Rattle.mqb_script.specs.declared.managers.Which.TheVariants.{Alpha, Beta}
use Rattle.mqb_traffic.specs.Networks.{index_of, marked, network_with, note_of, notes_of}
use Rattle.mqb_traffic.specs.States.{TrafficState}
use Rattle.mqb_traffic.specs.declared.notes.Link.{Link}
use Rattle.mqb_traffic.specs.declared.notes.Note.{Note}

replicated : (count : ℕ) (n : Note) → map note_of (replicate count n) ≡ replicate count (note_of n)
replicated zero n = refl
replicated (suc count) n = ap (λ (ns : List network.Note). note_of n ∷ ns) (replicated count n)

more_notes : (notes : List Note) (count : ℕ) (n : Note) → map note_of (notes ++ replicate count n) ≡ map note_of notes ++ replicate count (note_of n)
more_notes notes count n = map-append note_of notes (replicate count n) ∙ ap (λ (ns : List network.Note). map note_of notes ++ ns) (replicated count n)

-- a packet that is sent in a connection
abbrev pub note_in : Which → ℕ → Link → Note
note_in sender now l = record { sender = sender; connection = l.number; moment = now; dropped = false }

-- with more notes of packets
abbrev pub with_notes : List network.Note → network.Network → network.Network
with_notes notes n = record n { notes = notes }

noted_by : (alpha beta : Manager) (t : TrafficState) (number now count : ℕ) (initiator sender : Which) → let l : Link = record { number = number; initiator = initiator } in
    network_with alpha beta (record t { link = Some l; notes = t.notes ++ replicate count (note_in sender now l) })
    ≡ noted (index_of sender) now count (network_with alpha beta (record t { link = Some l }))
noted_by alpha beta t number now count Alpha Alpha = let l : Link = record { number = number; initiator = Alpha } in
    ap (λ ns. with_notes ns (network_with alpha beta (record t { link = Some l }))) (more_notes t.notes count (note_in Alpha now l))
noted_by alpha beta t number now count Alpha Beta = let l : Link = record { number = number; initiator = Alpha } in
    ap (λ ns. with_notes ns (network_with alpha beta (record t { link = Some l }))) (more_notes t.notes count (note_in Beta now l))
noted_by alpha beta t number now count Beta Alpha = let l : Link = record { number = number; initiator = Beta } in
    ap (λ ns. with_notes ns (network_with alpha beta (record t { link = Some l }))) (more_notes t.notes count (note_in Alpha now l))
noted_by alpha beta t number now count Beta Beta = let l : Link = record { number = number; initiator = Beta } in
    ap (λ ns. with_notes ns (network_with alpha beta (record t { link = Some l }))) (more_notes t.notes count (note_in Beta now l))

-- packets are noted in the connection that stands
pub noted_in : (alpha beta : Manager) (t : TrafficState) (l : Link) (now count : ℕ) (sender : Which) → t.link ≡ Some l
    → network_with alpha beta (record t { notes = t.notes ++ replicate count (note_in sender now l) }) ≡ noted (index_of sender) now count (network_with alpha beta t)
noted_in alpha beta t l now count sender is =
    ap (λ (o : Option Link). network_with alpha beta (record t { link = o; notes = t.notes ++ replicate count (note_in sender now l) })) is
    ∙ noted_by alpha beta t l.number now count l.initiator sender
    ∙ ap (λ (o : Option Link). noted (index_of sender) now count (network_with alpha beta (record t { link = o }))) (sym is)

-- Dropped packets.

get_map : (notes : List Note) (n : ℕ) → slice_get (map note_of notes) n ≡ option_map note_of (slice_get notes n)
get_map [] n = refl
get_map (x ∷ notes) zero = refl
get_map (x ∷ notes) (suc n) = get_map notes n

numbered_there : {X : Type 0} (xs : List X) (k : ℕ) → 1 ≤ k → numbered xs k ≡ slice_get xs (k - 1)
numbered_there xs k some = rw (not_zero k some) refl
  where
    not_zero : (k : ℕ) → 1 ≤ k → (k == 0) ≡ false
    not_zero zero some = absurd (omega arith)
    not_zero (suc k) some = grind (arith, nat_tests)

marked_notes : (notes : List Note) (k : ℕ) → 1 ≤ k → map note_of (with_changed marked notes (k - 1)) ≡ with_numbered (map note_of notes) k as_dropped
marked_notes notes k some = at (slice_get notes (k - 1))
    ∙ ap (λ (o : Option network.Note). option_map_or (λ (x : network.Note). slice_set (map note_of notes) (k - 1) (as_dropped x)) o (map note_of notes))
    (sym (get_map notes (k - 1)) ∙ sym (numbered_there (map note_of notes) k some))
  where
    at : (o : Option Note) → map note_of (option_map_or (λ (x : Note). slice_set notes (k - 1) (marked x)) o notes)
        ≡ option_map_or (λ (x : network.Note). slice_set (map note_of notes) (k - 1) (as_dropped x)) (option_map note_of o) (map note_of notes)
    at None = refl
    at (Some x) = map-set note_of notes (k - 1) (marked x)

-- a packet is dropped
pub dropped_there : (alpha beta : Manager) (t : TrafficState) (k : ℕ) → 1 ≤ k
    → network_with alpha beta (record t { notes = with_changed marked t.notes (k - 1) }) ≡ dropped k (network_with alpha beta t)
dropped_there alpha beta t k some = ap (λ ns. with_notes ns (network_with alpha beta t)) (marked_notes t.notes k some)

there_by : (notes : List Note) (n : ℕ) → nat_lt n (length notes) ≡ is_some (slice_get (map note_of notes) n)
there_by [] zero = refl
there_by [] (suc n) = grind (arith, nat_tests)
there_by (x ∷ notes) zero = grind (arith, nat_tests)
there_by (x ∷ notes) (suc n) = shifted ∙ there_by notes n
  where
    shifted : nat_lt (suc n) (length (x ∷ notes)) ≡ nat_lt n (length notes)
    shifted = grind (arith, nat_tests)

-- whether it is there
pub is_there : (t : TrafficState) (k : ℕ) → 1 ≤ k → nat_lt (k - 1) (length t.notes) ≡ is_some (numbered (notes_of t) k)
is_there t k some = there_by t.notes (k - 1) ∙ ap is_some (sym (numbered_there (notes_of t) k some))

-- what follows where a call answered well
pub on_ok : {V E : Type 0} (r : Result V E) (P Q : Type 0) → OnOk r P → (P → Q) → OnOk r Q
on_ok (Ok x) P Q h f = f h
on_ok (Err e) P Q h f = h
