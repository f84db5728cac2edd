-- The size in a packet's base header, and how far a pump's packets were added.
use Rattle.std.proofs.Common.{◌≡◌, false, true, Err, Some, suc, zero, ◌+◌, ◌<◌, ◌≤◌, ◌^◌, ℕ, List, [], ◌∷◌, ◌++◌, Ok, Result, length, take, drop, refl, sym, ap, subst, ◌∙◌, append_assoc, append-nil, arith, length-append}
use Rattle.std.proofs.lemmas.List.{take_at, drop_at, drop-drop, length-drop, map-append}
use Rattle.std.specs.Prelude.{◌==◌, ◌-◌, flat_map, map, slice_get}
use Rattle.std.proofs.lemmas.Bool.Decides.{nat_tests}
use Rattle.std.proofs.lemmas.Slice.{between_to_end}
use Rattle.mqb_fields.specs.declared.faults.HeadFault.{HeadFault}
use Rattle.mqb_heads.specs.Base.{IsBaseHead, base_of, plain_base}
use Rattle.mqb_heads.specs.User.{plain_user}
use Rattle.mqb_heads.specs.Properties.{plain_props}
use Rattle.mqb_heads.specs.declared.base.BaseHead.{BaseHead}
use Rattle.mqb_heads.specs.lemmas.HeadsAgain.{base_again}
use Rattle.mqb_packet.specs.Plain.{base_for, internal_base, packet_size, parts_of, plain_spelling, session_or_none, tx_or_none}
use Rattle.mqb_packet.specs.declared.packet.Packet.{Packet}
use Rattle.mqb_packet.specs.declared.packet.Packet.TheVariants as packet
use Rattle.mqb_packet.proofs.Behind.{plain_length}
use Rattle.mqb_packet.proofs.PacketAgain.{packet_again, said_again}
use Rattle.mqb_packet.specs.Parts.{PacketParts, packet_of}
use Rattle.mqb_packet.specs.Spelled.{packet_in}
use Rattle.mqb_queue.specs.Places.{numbered}
use Rattle.mqb_setup.specs.Internals.{plain_internal}
use Rattle.mqb_setup.specs.declared.internal.Internal.TheVariants as part
use Rattle.mqb_posts.specs.declared.faults.PostFault.{PostFault}
use Rattle.mqb_posts.specs.Posting.{PostedBy}
use Rattle.mqb_posts.proofs.Adding.{refused_behind}
use Rattle.mqb_posts.specs.Packets.{AreWritable, BeginWithPacket, IsWritable}

-- The header of a packet, with which these bytes begin, is read, and has its length.
pub record IsHeaded (p : Packet) (bytes : List ℕ) : Type 0 where
  pub base : BaseHead
  pub read : base_of bytes ≡ Ok base
  pub size : base.size ≡ length (plain_spelling p)
  pub least : 20 ≤ base.size

headed_by : (p : Packet) (base : BaseHead) (behind rest : List ℕ) → plain_spelling p ≡ plain_base base ++ behind → IsBaseHead base → base.reach < 2 ^ 32
    → base.size ≡ packet_size p → IsHeaded p (plain_spelling p ++ rest)
headed_by p base behind rest whole valid fits size = record {
  base = base;
  read = ap base_of (ap (λ (l : List ℕ). l ++ rest) whole ∙ append_assoc (plain_base base) behind rest) ∙ base_again base (behind ++ rest) valid fits;
  size = size ∙ sym (plain_length p);
  least = valid.least;
}

pub packet_headed : (p : Packet) (rest : List ℕ) → IsWritable p → IsHeaded p (plain_spelling p ++ rest)
packet_headed (packet.User u) rest w = headed_by (packet.User u) (base_for u) (plain_user u.message u.to ++ tx_or_none u.tx ++ plain_props u.message ++ session_or_none u.session) rest
    (simp append_assoc) (record { priority = w.well_formed.message.priority; least = omega arith; most = w.size; internal = λ internal. absurd cc }) w.numbers.remaining refl
packet_headed (packet.Establish e) rest w = headed_by (packet.Establish e) (internal_base false 572) (plain_internal (part.Establish e)) rest refl
    (record { priority = omega arith; least = omega arith; most = omega arith; internal = λ internal. (refl, refl) }) (omega arith) refl
packet_headed (packet.Parameters p) rest w = headed_by (packet.Parameters p) (internal_base false 32) (plain_internal (part.Parameters p)) rest refl
    (record { priority = omega arith; least = omega arith; most = omega arith; internal = λ internal. (refl, refl) }) (omega arith) refl
packet_headed (packet.Ack head) rest w = headed_by (packet.Ack head) (internal_base true 36) (plain_internal (part.Ack head)) rest refl
    (record { priority = omega arith; least = omega arith; most = omega arith; internal = λ internal. (refl, refl) }) (omega arith) refl

-- so it is of bytes that are these
pub begin_headed : (bytes rest : List ℕ) (p : Packet) → IsWritable p → bytes ≡ plain_spelling p ++ rest → IsHeaded p bytes
begin_headed bytes rest p w are = subst (IsHeaded p) (sym are) (packet_headed p rest w)

-- The packet of a string.
pub record IsAt (packets : List Packet) (n : ℕ) (bytes : List ℕ) : Type 0 where
  pub packet : Packet
  pub there : slice_get packets n ≡ Some packet
  pub writable : IsWritable packet
  pub spelled : plain_spelling packet ≡ bytes

string_at : (packets : List Packet) (n : ℕ) (bytes : List ℕ) → AreWritable packets → slice_get (map plain_spelling packets) n ≡ Some bytes → IsAt packets n bytes
string_at [] n bytes w there = absurd (let none : ⊥ = cc in none)
string_at (p ∷ packets) zero bytes w there = record { packet = p; there = refl; writable = w.0; spelled = some_is there }
  where
    some_is : Some (plain_spelling p) ≡ Some bytes → plain_spelling p ≡ bytes
    some_is e = cc
string_at (p ∷ packets) (suc n) bytes w there = let at = string_at packets n bytes w.1 there in
    record { packet = at.packet; there = at.there; writable = at.writable; spelled = at.spelled }

pub packet_is_at : (strings : List (List ℕ)) (packets : List Packet) (n : ℕ) (bytes : List ℕ) → AreWritable packets → strings ≡ map plain_spelling packets
    → slice_get strings n ≡ Some bytes → IsAt packets n bytes
packet_is_at strings packets n bytes w are there = string_at packets n bytes w (ap (λ (ss : List (List ℕ)). slice_get ss n) (sym are) ∙ there)

pub at_read : (packets : List Packet) (n : ℕ) (bytes : List ℕ) (at : IsAt packets n bytes) → packet_of bytes ≡ Ok (parts_of at.packet)
at_read packets n bytes at = ap packet_of (sym at.spelled) ∙ packet_again at.packet at.writable.well_formed at.writable.numbers at.writable.size

pub at_said : (packets : List Packet) (n : ℕ) (bytes : List ℕ) (at : IsAt packets n bytes) (parts : PacketParts) → parts ≡ parts_of at.packet → packet_in parts ≡ slice_get packets n
at_said packets n bytes at parts is = ap packet_in is ∙ said_again at.packet at.writable.well_formed at.writable.numbers ∙ sym at.there

pub numbered_there : (packets : List Packet) (k : ℕ) → 1 ≤ k → numbered packets k ≡ slice_get packets (k - 1)
numbered_there packets k some = rw (not_zero k some) refl
  where
    not_zero : (k : ℕ) → 1 ≤ k → (k == 0) ≡ false
    not_zero zero some = absurd (omega arith)
    not_zero (suc k) some = grind (arith, nat_tests)

-- How far packets were added.

-- So many bytes of them were: those of the first ones.
pub record IsPartly (packets : List Packet) (bytes : List ℕ) (at : ℕ) (before after : List (List ℕ)) : Type 0 where
  pub front : List Packet
  pub back : List Packet
  pub writable : AreWritable back
  pub whole : packets ≡ front ++ back
  pub rest : drop at bytes ≡ flat_map plain_spelling back
  pub added : after ≡ before ++ map plain_spelling front

-- the next one, where bytes are left
pub record HasNext (packets : List Packet) (bytes : List ℕ) (at : ℕ) (before after : List (List ℕ)) : Type 0 where
  pub front : List Packet
  pub next : Packet
  pub back : List Packet
  pub writable : IsWritable next
  pub others : AreWritable back
  pub whole : packets ≡ front ++ next ∷ back
  pub rest : drop at bytes ≡ plain_spelling next ++ flat_map plain_spelling back
  pub added : after ≡ before ++ map plain_spelling front

next_of : (packets front back : List Packet) (bytes : List ℕ) (at : ℕ) (before after : List (List ℕ)) → AreWritable back → packets ≡ front ++ back
    → drop at bytes ≡ flat_map plain_spelling back → after ≡ before ++ map plain_spelling front → at < length bytes → HasNext packets bytes at before after
next_of packets front [] bytes at before after w whole rest added more = absurd (omega (arith, ap (λ (l : List ℕ). length l) rest, length-drop at bytes))
next_of packets front (p ∷ back) bytes at before after w whole rest added more = record {
  front = front;
  next = p;
  back = back;
  writable = w.0;
  others = w.1;
  whole = whole;
  rest = rest;
  added = added;
}

pub has_next : (packets : List Packet) (bytes : List ℕ) (at : ℕ) (before after : List (List ℕ)) → IsPartly packets bytes at before after → at < length bytes
    → HasNext packets bytes at before after
has_next packets bytes at before after so_far more = next_of packets so_far.front so_far.back bytes at before after so_far.writable so_far.whole so_far.rest so_far.added more

-- a packet is not empty
pub some_bytes : (p : Packet) → IsWritable p → 0 < length (plain_spelling p)
some_bytes p w = let h = packet_headed p [] w in omega (arith, h.size, h.least)

-- all were added
pub all_added : (packets : List Packet) (bytes : List ℕ) (at : ℕ) (before after : List (List ℕ)) → IsPartly packets bytes at before after → length bytes ≤ at
    → after ≡ before ++ map plain_spelling packets
all_added packets bytes at before after so_far end = of so_far.back so_far.writable so_far.whole (omega (arith, ap (λ (l : List ℕ). length l) so_far.rest, length-drop at bytes))
  where
    of : (back : List Packet) → AreWritable back → packets ≡ so_far.front ++ back → length (flat_map plain_spelling back) ≡ 0
        → after ≡ before ++ map plain_spelling packets
    of [] w whole none = so_far.added ∙ ap (λ (ps : List Packet). before ++ map plain_spelling ps) (sym (whole ∙ append-nil so_far.front))
    of (p ∷ back) w whole none = absurd (omega (arith, length-append (plain_spelling p) (flat_map plain_spelling back), some_bytes p w.0))

-- bytes from a place to their end
from_place : (bytes : List ℕ) (at : ℕ) → take (length bytes - at) (drop at bytes) ≡ drop at bytes
from_place bytes at = between_to_end bytes at (length bytes) (omega arith)

-- what the first size is asked for
pub begins_so : (packets : List Packet) (bytes : List ℕ) (at : ℕ) (before after : List (List ℕ)) → IsPartly packets bytes at before after → at < length bytes
    → BeginWithPacket (take (length bytes - at) (drop at bytes))
begins_so packets bytes at before after so_far more = let x = has_next packets bytes at before after so_far more in
    record { packet = x.next; rest = flat_map plain_spelling x.back; writable = x.writable; are = from_place bytes at ∙ x.rest }

-- what the first size tells
abbrev pub TellsSize : List ℕ → ℕ → Type 0
TellsSize bytes size = (p : Packet) (rest : List ℕ) → IsWritable p → bytes ≡ plain_spelling p ++ rest → size ≡ length (plain_spelling p)

-- the next packet and its size
pub record IsStep (packets : List Packet) (bytes : List ℕ) (at size : ℕ) (before after : List (List ℕ)) : Type 0 where
  pub at_hand : HasNext packets bytes at before after
  pub long : size ≡ length (plain_spelling at_hand.next)
  pub fits : at + size ≤ length bytes
  pub some : 0 < size
  pub slice : take (at + size - at) (drop at bytes) ≡ plain_spelling at_hand.next

pub step_of : (packets : List Packet) (bytes : List ℕ) (at size : ℕ) (before after : List (List ℕ)) → IsPartly packets bytes at before after → at < length bytes
    → TellsSize (take (length bytes - at) (drop at bytes)) size → IsStep packets bytes at size before after
step_of packets bytes at size before after so_far more tells =
    let x = has_next packets bytes at before after so_far more in
    let is : size ≡ length (plain_spelling x.next) = tells x.next (flat_map plain_spelling x.back) x.writable (from_place bytes at ∙ x.rest) in
    let same : at + size - at ≡ size = omega arith in
    record {
      at_hand = x;
      long = is;
      fits = omega (arith, is, length-drop at bytes, ap (λ (l : List ℕ). length l) x.rest, length-append (plain_spelling x.next) (flat_map plain_spelling x.back));
      some = omega (arith, is, some_bytes x.next x.writable);
      slice = ap (λ (n : ℕ). take n (drop at bytes)) same ∙ ap (take size) x.rest ∙ take_at (plain_spelling x.next) (flat_map plain_spelling x.back) size (sym is);
    }

-- it is added
pub step_added : (packets : List Packet) (bytes : List ℕ) (at size : ℕ) (before after more : List (List ℕ)) → IsStep packets bytes at size before after
    → more ≡ after ++ take (at + size - at) (drop at bytes) ∷ [] → IsPartly packets bytes (at + size) before more
step_added packets bytes at size before after more step added = let x = step.at_hand in record {
  front = x.front ++ x.next ∷ [];
  back = x.back;
  writable = x.others;
  whole = x.whole ∙ sym (append_assoc x.front (x.next ∷ []) x.back);
  rest = sym (drop-drop size at bytes) ∙ ap (drop size) x.rest ∙ drop_at (plain_spelling x.next) (flat_map plain_spelling x.back) size (sym step.long);
  added = added ∙ ap (λ (one : List ℕ). after ++ one ∷ []) step.slice
      ∙ ap (λ (ss : List (List ℕ)). ss ++ plain_spelling x.next ∷ []) x.added
      ∙ append_assoc before (map plain_spelling x.front) (plain_spelling x.next ∷ [])
      ∙ ap (λ (ss : List (List ℕ)). before ++ ss) (sym (map-append plain_spelling x.front (x.next ∷ [])));
}

-- it is not
pub step_refused : (packets : List Packet) (bytes : List ℕ) (at size : ℕ) (before after more : List (List ℕ)) (fault : PostFault) → IsStep packets bytes at size before after
    → PostedBy {T = Unit {0}} after more (take (at + size - at) (drop at bytes) ∷ []) (Err fault) → PostedBy {T = Unit {0}} before more (map plain_spelling packets) (Err fault)
step_refused packets bytes at size before after more fault step refused = let x = step.at_hand in
    refused_behind before after more (map plain_spelling x.front) (map plain_spelling x.back) (map plain_spelling packets) (plain_spelling x.next) fault x.added
    (ap (map plain_spelling) x.whole ∙ map-append plain_spelling x.front (x.next ∷ x.back))
    (subst (λ (one : List ℕ). PostedBy {T = Unit {0}} after more (one ∷ []) (Err fault)) step.slice refused)

-- A string that is read.

pub no_fault : (strings : List (List ℕ)) (packets : List Packet) (n : ℕ) (bytes : List ℕ) (read : Result PacketParts HeadFault) (fault : HeadFault) → AreWritable packets
    → strings ≡ map plain_spelling packets → slice_get strings n ≡ Some bytes → read ≡ packet_of bytes → read ≡ Err fault → ⊥
no_fault strings packets n bytes read fault w are there is bad = let at = packet_is_at strings packets n bytes w are there in
    clash (parts_of at.packet) fault (sym (is ∙ at_read packets n bytes at) ∙ bad)
  where
    clash : (parts : PacketParts) (fault : HeadFault) → ◌≡◌ {A = Result PacketParts HeadFault} (Ok parts) (Err fault) → ⊥
    clash parts fault e = cc

pub read_said : (strings : List (List ℕ)) (packets : List Packet) (k : ℕ) (bytes : List ℕ) (read : Result PacketParts HeadFault) (parts : PacketParts) → 1 ≤ k → AreWritable packets
    → strings ≡ map plain_spelling packets → slice_get strings (k - 1) ≡ Some bytes → read ≡ packet_of bytes → read ≡ Ok parts → packet_in parts ≡ numbered packets k
read_said strings packets k bytes read parts some w are there is well = let at = packet_is_at strings packets (k - 1) bytes w are there in
    at_said packets (k - 1) bytes at parts (one parts (parts_of at.packet) (sym well ∙ is ∙ at_read packets (k - 1) bytes at)) ∙ sym (numbered_there packets k some)
  where
    one : (a b : PacketParts) → ◌≡◌ {A = Result PacketParts HeadFault} (Ok a) (Ok b) → a ≡ b
    one a b e = cc
