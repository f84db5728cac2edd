-- How many elements a line and its reply add.
use Rattle.std.proofs.Common.{◌≡◌, ℕ, suc, ◌+◌, Bool, true, false, List, [], ◌∷◌, ◌++◌, length, Option, Some, None, Result, Ok, Err, refl, sym, ap, ◌∙◌, arith, length-append, unwrap_or}
use Rattle.std.specs.Prelude.{codes}
use Rattle.std.specs.Fmt.{decimal}
use Rattle.mqb_fields.specs.Reading.{◌>>=◌}
use Rattle.mqb_svg.specs.declared.sides.Side.{Side}
use Rattle.mqb_svg.specs.declared.elements.Element.{Element}
use Rattle.mqb_picture.specs.declared.faults.Kind.{Kind}
use Rattle.mqb_picture.specs.declared.packets.Packet.{Packet}
use Rattle.mqb_picture.specs.declared.asked.Asked.{Asked}
use Rattle.mqb_picture.specs.declared.asked.Asked.TheVariants as asked
use Rattle.mqb_picture.specs.Words.{parts_by, words_of, behind}
use Rattle.mqb_picture.specs.Asked.{asked_of}
use Rattle.mqb_picture.specs.Fates.{post, packet_at}
use Rattle.mqb_picture.specs.Texts.{request_of}
use Rattle.mqb_picture.specs.Elements.{Progress}
use Rattle.mqb_picture.specs.Picture.{note, between, arrived, heard_from, heard, told_packets, sent, said_in, heard_next, flowed, flow_from, flow, answered, said_to, drawn}
use Rattle.mqb_picture.specs.Laws.{answers_in, OneElementAnAnswer}

one_more : (elements : List Element) (element : Element) → length (elements ++ element ∷ []) ≡ length elements + 1
one_more elements element = length-append elements (element ∷ [])

note_one : (n : ℕ) (side : Side) (request said : List ℕ) (p : Progress) → length (note n side request said p).elements ≡ length p.elements + 1
unfolding note
note_one n side request said p = one_more p.elements _

between_one : (n : ℕ) (request said : List ℕ) (p : Progress) → length (between n request said p).elements ≡ length p.elements + 1
unfolding between
between_one n request said p = one_more p.elements _

arrived_one : (n k : ℕ) (packet : Packet) (said : List ℕ) (p : Progress) → length (arrived n k packet said p).elements ≡ length p.elements + 1
unfolding arrived
arrived_one n k packet said p = one_more p.elements _

from_one : (n k : ℕ) (said : List ℕ) (p : Progress) (o : Option Packet) → length (heard_from n k said p o).elements ≡ length p.elements + 1
from_one n k said p None = between_one n (codes "packet " ++ decimal k) said p
from_one n k said p (Some packet) = arrived_one n k packet said p

heard_one : (n k : ℕ) (said : List ℕ) (p : Progress) → length (heard n k said p).elements ≡ length p.elements + 1
unfolding heard
heard_one n k said p = from_one n k said p (packet_at k p.packets)

next_one : (n : ℕ) (side : Side) (said : List ℕ) (p : Progress) → length (heard_next n side said p).elements ≡ length p.elements + 1
unfolding heard_next
next_one n side said p =
    heard_one n (length p.packets + 1) (unwrap_or (behind (codes " ") said) said) (record p { packets = post side false p.packets })

abbrev good : Progress → Result Progress Kind
good p = Ok p

same_ok : (x y : Progress) → good x ≡ good y → x ≡ y
same_ok x y same = cc

sent_keeps : (read : Result (List Packet) Kind) (p q : Progress) → (read >>= λ packets. Ok (record p { packets = packets })) ≡ Ok q
    → q.elements ≡ p.elements
sent_keeps (Ok packets) p q same = ap (λ (r : Progress). r.elements) (sym (same_ok _ _ same))
sent_keeps (Err kind) p q same = absurd cc

sent_then : (read : Result Progress Kind) (p q : Progress) (next : Progress → Progress) → ((r : Progress) → read ≡ Ok r → r.elements ≡ p.elements)
    → ((r : Progress) → length (next r).elements ≡ length r.elements + 1) → (read >>= λ r. Ok (next r)) ≡ Ok q → length q.elements ≡ length p.elements + 1
sent_then (Err kind) p q next keeps one same = absurd cc
sent_then (Ok r) p q next keeps one same =
    ap (λ (x : Progress). length x.elements) (sym (same_ok (next r) q same)) ∙ one r ∙ ap (λ (es : List Element). length es + 1) (keeps r refl)

flowed_then : (read : Result (List ℕ) Kind) (p q : Progress) (count : ℕ) (one : List ℕ → Progress) (rest : Progress → Result Progress Kind)
    → ((said : List ℕ) → length (one said).elements ≡ length p.elements + 1)
    → ((r : Progress) → rest r ≡ Ok q → length q.elements ≡ length r.elements + count)
    → (read >>= λ said. rest (one said)) ≡ Ok q → length q.elements ≡ length p.elements + suc count
flowed_then (Err kind) p q count one rest more counted same = absurd cc
flowed_then (Ok said) p q count one rest more counted same =
    let first : length (one said).elements ≡ length p.elements + 1 = more said in
    let all : length q.elements ≡ length (one said).elements + count = counted (one said) same in
    omega (arith, first, all)

flowed_counted : (n : ℕ) (side : Side) (parts : List (List ℕ)) (p q : Progress) → flowed n side p parts ≡ Ok q
    → length q.elements ≡ length p.elements + length parts
flowed_counted n side [] p q same =
    let is : length q.elements ≡ length p.elements = ap (λ (r : Progress). length r.elements) (sym (same_ok p q same)) in omega (arith, is)
flowed_counted n side (part ∷ parts) p q same =
    flowed_then (said_in n (length p.packets + 2) part parts) p q (length parts) (λ said. heard_next n side said p) (λ r. flowed n side r parts)
    (λ said. next_one n side said p) (λ r. flowed_counted n side parts r q) same

from_counted : (n : ℕ) (side : Side) (request : List ℕ) (parts : List (List ℕ)) (p q : Progress) → flow_from n side request p parts ≡ Ok q
    → length q.elements ≡ length p.elements + length parts
from_counted n side request [] p q same = absurd cc
from_counted n side request (part ∷ parts) p q same =
    flowed_then (said_in n (length p.packets + 1) part parts) p q (length parts) (λ said. note n side request said p) (λ r. flowed n side r parts)
    (λ said. note_one n side request said p) (λ r. flowed_counted n side parts r q) same

flow_counted : (n : ℕ) (side : Side) (request said : List ℕ) (p q : Progress) → flow n side request said p ≡ Ok q
    → length q.elements ≡ length p.elements + length (parts_by 58 said)
unfolding flow
flow_counted n side request said p q same = from_counted n side request (parts_by 58 said) p q same

sent_same : (n : ℕ) (set_up : Bool) (side : Side) (word said : List ℕ) (p r : Progress) → sent n set_up side word said p ≡ Ok r → r.elements ≡ p.elements
unfolding sent
sent_same n set_up side word said p r same = sent_keeps (told_packets n set_up side word (words_of said) p.packets) p r same

at_once : (p q r : Progress) → length r.elements ≡ length p.elements + 1 → good r ≡ good q
    → length q.elements ≡ length p.elements + 1
at_once p q r one same = ap (λ (x : Progress). length x.elements) (sym (same_ok r q same)) ∙ one

answered_counted : (n : ℕ) (what : Asked) (request said : List ℕ) (p q : Progress) → answered n what request said p ≡ Ok q
    → length q.elements ≡ length p.elements + answers_in what said
unfolding answered
answered_counted n (asked.Connect side) request said p q same =
    sent_then (sent n true side (codes "connected") said p) p q (between n request said) (λ r. sent_same n true side (codes "connected") said p r)
    (between_one n request said) same
answered_counted n asked.Disconnect request said p q same = at_once p q (between n request said p) (between_one n request said p) same
answered_counted n (asked.Pump side) request said p q same =
    sent_then (sent n false side (codes "pumped") said p) p q (note n side request said) (λ r. sent_same n false side (codes "pumped") said p r)
    (note_one n side request said) same
answered_counted n (asked.Flow side) request said p q same = flow_counted n side request said p q same
answered_counted n (asked.Packet k) request said p q same = at_once p q (heard n k said p) (heard_one n k said p) same
answered_counted n (asked.At side) request said p q same = at_once p q (note n side request said p) (note_one n side request said p) same

drawn_is : (n : ℕ) (line reply : List ℕ) (p : Progress) (what : Asked) (said : List ℕ) → said_to n reply ≡ Ok said → asked_of (words_of line) ≡ Some what
    → drawn n line reply p ≡ answered n what (request_of (words_of line)) said p
unfolding drawn
drawn_is n line reply p what said told asks = rw (told, asks) refl

pub drawn_counted : (n : ℕ) (line reply : List ℕ) (p q : Progress) → OneElementAnAnswer n line reply p q
drawn_counted n line reply p q = λ what said told asks is.
    answered_counted n what (request_of (words_of line)) said p q (sym (drawn_is n line reply p what said told asks) ∙ is)
