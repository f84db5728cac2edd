-- What one step adds to what was read.
use Rattle.std.proofs.Common.{◌≡◌, ℕ, ◌+◌, ◌<◌, ◌≤◌, Bool, List, length, drop, map, get_or, Result, Ok, Err, refl, ap, ◌∙◌, Bor}
use Rattle.std.proofs.lemmas.List.{at_drop_more, drop_all}
use Rattle.mqb_svg.specs.declared.sides.Side.{Side}
use Rattle.mqb_picture.specs.declared.packets.Packet.{Packet}
use Rattle.mqb_picture.specs.declared.faults.Kind.{Kind}
use Rattle.mqb_picture.specs.declared.faults.Fault.{Fault}
use Rattle.mqb_picture.specs.Faults.{IsFaultOf}
use Rattle.mqb_picture.specs.Fates.{posted_one, next_sender, posted}

-- Packets that words number.

-- The words before a place were read: the whole is what those from there on give.
abbrev pub IsPostedTo : Result (List Packet) Kind → ℕ → Bool → Side → ℕ → List (Bor (List ℕ)) → List Packet → Type 0
IsPostedTo whole n set_up sender place words packets = whole ≡ posted n set_up sender packets (map (λ word. word.now) (drop place words))

pub posted_more : (whole : Result (List Packet) Kind) (n : ℕ) (set_up : Bool) (sender : Side) (place : ℕ) (words : List (Bor (List ℕ)))
    (packets after : List Packet) (d : Bor (List ℕ)) → IsPostedTo whole n set_up sender place words packets → place < length words
    → posted_one n set_up sender packets (get_or words place d).now ≡ Ok after
    → IsPostedTo whole n set_up (next_sender set_up sender) (place + 1) words after
posted_more whole n set_up sender place words packets after d read within is =
    read ∙ at_drop_more (λ rest. posted n set_up sender packets (map (λ word. word.now) rest)) words place d within ∙ rw is refl

posted_stop : (whole : Result (List Packet) Kind) (n : ℕ) (set_up : Bool) (sender : Side) (place : ℕ) (words : List (Bor (List ℕ)))
    (packets : List Packet) (d : Bor (List ℕ)) (kind : Kind) → IsPostedTo whole n set_up sender place words packets → place < length words
    → posted_one n set_up sender packets (get_or words place d).now ≡ Err kind → whole ≡ Err kind
posted_stop whole n set_up sender place words packets d kind read within is =
    read ∙ at_drop_more (λ rest. posted n set_up sender packets (map (λ word. word.now) rest)) words place d within ∙ rw is refl

pub posted_refused : (whole : Result (List Packet) Kind) (n : ℕ) (set_up : Bool) (sender : Side) (place : ℕ) (words : List (Bor (List ℕ)))
    (packets : List Packet) (d : Bor (List ℕ)) (e : Fault) → IsPostedTo whole n set_up sender place words packets → place < length words
    → IsFaultOf (posted_one n set_up sender packets (get_or words place d).now) e → IsFaultOf whole e
posted_refused whole n set_up sender place words packets d e read within refused =
    λ kind is. posted_stop whole n set_up sender place words packets d kind read within (refused kind is)

pub posted_end : (whole : Result (List Packet) Kind) (n : ℕ) (set_up : Bool) (sender : Side) (place : ℕ) (words : List (Bor (List ℕ)))
    (packets : List Packet) → IsPostedTo whole n set_up sender place words packets → length words ≤ place → whole ≡ Ok packets
posted_end whole n set_up sender place words packets read end =
    read ∙ ap (λ rest. posted n set_up sender packets (map (λ (word : Bor (List ℕ)). word.now) rest)) (drop_all place words end)
