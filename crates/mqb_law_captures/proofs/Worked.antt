-- Whole packets are events, one by one; and a small connection.
use Rattle.std.proofs.Common.{◌≡◌, ◌<◌, ◌+◌, ◌^◌, ℕ, true, false, ltb, List, [], ◌∷◌, ◌++◌, length, None, Ok, Option, refl, sym, ap, subst, ◌∙◌, arith, length-append, append_assoc, append-nil, take, Result}
use Rattle.std.specs.Prelude.{All, replicate}
use Rattle.std.specs.List.{list_all}
use Rattle.std.specs.Option.{option_map_or}
use Rattle.std.proofs.lemmas.Bool.{leb-true, ltb-true}
use Rattle.std.proofs.lemmas.List.Elements.{All-nil}
use Rattle.std.proofs.lemmas.List.Sums.{AllPass-from_list_all}
use Rattle.mqb_fields.specs.declared.faults.HeadFault.{HeadFault}
use Rattle.mqb_heads.specs.declared.base.TheConstants.{MAX_PACKET}
use Rattle.mqb_names.specs.Values.{AreBytes}
use Rattle.mqb_packet.specs.Plain.{base_for, internal_base, plain_spelling, session_or_none, tx_or_none}
use Rattle.mqb_packet.specs.declared.packet.Packet.TheVariants as packet
use Rattle.mqb_packet.proofs.Behind.{plain_length}
use Rattle.mqb_heads.specs.Base.{IsBaseHead, base_of, plain_base}
use Rattle.mqb_heads.specs.Properties.{plain_props}
use Rattle.mqb_heads.specs.User.{plain_user}
use Rattle.mqb_heads.specs.declared.base.BaseHead.{BaseHead}
use Rattle.mqb_heads.specs.lemmas.HeadsAgain.{base_again}
use Rattle.mqb_setup.specs.Internals.{plain_internal}
use Rattle.mqb_setup.specs.declared.internal.Internal.TheVariants as part
use Rattle.std.proofs.lemmas.Bool.{le-leb}
use Rattle.std.proofs.lemmas.List.{take_at}
use Rattle.mqb_packet.specs.Spelled.{Spells}
use Rattle.mqb_packet.specs.declared.packet.Packet.{Packet}
use Rattle.mqb_packet.proofs.PacketAgain.{spelling_again}
use Rattle.mqb_stream.specs.Cutting.{IsFrame, packet_size}
use Rattle.mqb_stream.proofs.Filling.{size_is}
use Rattle.mqb_stream.specs.Framing.{Answer, Broken, Wants, Whole, next, wants_more}
use Rattle.mqb_serving.specs.Conversations.{Conversation, byte_read, count_read, holding, looked_at, opened, read_on}
use Rattle.mqb_serving.specs.Laws.{IsBetween, IsWritable, packet_heard}
use Rattle.mqb_serving.specs.Worked.{establish, order_ack, parameters, pushing}
use Rattle.mqb_serving.specs.declared.limits.TheConstants.{MAX_READ}
use Rattle.mqb_serving.specs.declared.purpose.Errand.TheVariants as errand
use Rattle.mqb_serving.specs.declared.purpose.Purpose.TheVariants as purpose
use Rattle.mqb_serving.proofs.Filling.{look_wants}
use Rattle.mqb_serving.proofs.Hearing.{packets_are_heard}
use Rattle.mqb_model.specs.runs.Samples.{alpha, beta}
use Rattle.mqb_capture.specs.Events.{Event, Heard}
use Rattle.mqb_law_captures.specs.Traces.{events_from, given, given_since, heard_at, heard_in, heard_of}
use Rattle.mqb_law_captures.specs.Worked.{OneIsTraced}
use Rattle.mqb_law_captures.proofs.Lists.{append_nothing}
use Rattle.mqb_law_captures.proofs.Pieces.{frame_waits, framer_wants}
use Rattle.mqb_law_captures.proofs.Tracing.{given_is}

-- What is written is a frame.

headed_by : (base : BaseHead) (bytes rest : List ℕ) → bytes ≡ plain_base base ++ rest → IsBaseHead base → base.reach < 2 ^ 32 → base.size ≡ length bytes → IsFrame MAX_PACKET bytes
unfolding packet_size
headed_by base bytes rest whole valid fits size =
    let front : take 16 bytes ≡ plain_base base = ap (take 16) whole ∙ take_at (plain_base base) rest 16 refl in
    let read : base_of (take 16 bytes) ≡ Ok base = ap base_of (front ∙ sym (append-nil (plain_base base))) ∙ base_again base [] valid fits in
    rw (read, le-leb base.size MAX_PACKET valid.most) (ap (λ (n : ℕ). as_size n) size)
  where
    as_size : ℕ → Result ℕ HeadFault
    as_size n = Ok n

frame_is : (p : Packet) → IsWritable p → IsFrame MAX_PACKET (plain_spelling p)
frame_is (packet.User u) w =
    let rest = plain_user u.message u.to ++ tx_or_none u.tx ++ plain_props u.message ++ session_or_none u.session in
    headed_by (base_for u) (plain_spelling (packet.User u)) rest (simp append_assoc)
    (record { priority = w.well_formed.message.priority; least = omega arith; most = w.size; internal = λ internal. absurd cc }) w.numbers.remaining (sym (plain_length (packet.User u)))
frame_is (packet.Establish e) w = headed_by (internal_base false 572) (plain_spelling (packet.Establish e)) (plain_internal (part.Establish e)) refl
    (record { priority = omega arith; least = omega arith; most = omega arith; internal = λ internal. (refl, refl) }) (omega arith) (sym (plain_length (packet.Establish e)))
frame_is (packet.Parameters p) w = headed_by (internal_base false 32) (plain_spelling (packet.Parameters p)) (plain_internal (part.Parameters p)) refl
    (record { priority = omega arith; least = omega arith; most = omega arith; internal = λ internal. (refl, refl) }) (omega arith) refl
frame_is (packet.Ack head) w = headed_by (internal_base true 36) (plain_spelling (packet.Ack head)) (plain_internal (part.Ack head)) refl
    (record { priority = omega arith; least = omega arith; most = omega arith; internal = λ internal. (refl, refl) }) (omega arith) refl

-- A byte that completes nothing.

waits_unheard : (a : Answer) → wants_more a ≡ true → heard_in a ≡ []
waits_unheard (Whole bytes) e = absurd cc
waits_unheard (Broken fault place) e = refl
waits_unheard (Wants need) e = refl

heard_open : (c : Conversation) (b : ℕ) → c.end ≡ None → heard_at c b ≡ heard_in (next (holding c (b ∷ [])).framing)
heard_open c b e = rw e refl

read_open : (c : Conversation) (b : ℕ) → c.end ≡ None → byte_read c b ≡ looked_at (holding c (b ∷ []))
read_open c b e = rw e refl

none_since : (c : Conversation) → given_since c c ≡ []
none_since c = given_is c c [] (sym (append_nothing c.given))

-- What is heard once all bytes of a packet came.

-- what a conversation that goes on holds
record Holds (c : Conversation) (front : List ℕ) : Type 0 where
  pub end : c.end ≡ None
  pub limit : c.framing.limit ≡ MAX_PACKET
  pub held : c.framing.held ≡ front

abbrev Heeds : Packet → Conversation → List ℕ → List ℕ → Type 0
Heeds p c more rest = events_from c (more ++ rest) ≡ (Heard p ∷ []) ++ given_since c (read_on c more) ++ events_from (read_on c more) rest

packet_traced : (p : Packet) (frame : List ℕ) → IsFrame MAX_PACKET frame → Spells p frame → (c : Conversation) (front more rest : List ℕ) → front ++ more ≡ frame → 0 < length more → Holds c front
    → count_read c + length more < MAX_READ → Heeds p c more rest
packet_traced p frame is s c front [] rest whole some h few = absurd (omega (arith, some))
packet_traced p frame is s c front (b ∷ []) rest whole some h few =
    let held : (holding c (b ∷ [])).framing.held ≡ frame = ap (λ (t : List ℕ). t ++ b ∷ []) h.held ∙ whole in
    let waits = frame_waits (holding c (b ∷ [])).framing frame held (subst (λ (n : ℕ). IsFrame n frame) (sym h.limit) is) in
    let one : heard_at c b ≡ Heard p ∷ [] = heard_open c b h.end ∙ ap heard_in waits ∙ ap heard_of s.read ∙ ap (λ (o : Option Packet). option_map_or (λ p. Heard p ∷ []) o []) s.said in
    ap (λ (es : List Event). es ++ given_since c (byte_read c b) ++ events_from (byte_read c b) rest) one
packet_traced p frame is s c front (b ∷ x ∷ more) rest whole some h few =
    let d = holding c (b ∷ []) in
    let over : (front ++ b ∷ []) ++ x ∷ more ≡ frame = append_assoc front (b ∷ []) (x ∷ more) ∙ whole in
    let held : d.framing.held ≡ front ++ b ∷ [] = ap (λ (t : List ℕ). t ++ b ∷ []) h.held in
    let wants = framer_wants d.framing (front ++ b ∷ []) (x ∷ more) frame held h.limit is over (omega arith) in
    let count : count_read d ≡ count_read c + 1 = omega (arith, length-append c.framing.held (b ∷ [])) in
    let stays : byte_read c b ≡ d = read_open c b h.end ∙ look_wants d wants (omega (arith, count, few)) in
    let one : heard_at c b ≡ [] = heard_open c b h.end ∙ waits_unheard (next d.framing) wants in
    ap (λ (es : List Event). es ++ given_since c (byte_read c b) ++ events_from (byte_read c b) ((x ∷ more) ++ rest)) one
    ∙ ap (λ (e : Conversation). given_since c e ++ events_from e ((x ∷ more) ++ rest)) stays
    ∙ ap (λ (es : List Event). es ++ events_from d ((x ∷ more) ++ rest)) (none_since c)
    ∙ packet_traced p frame is s d (front ++ b ∷ []) (x ∷ more) rest over (omega arith) (record { end = h.end; limit = h.limit; held = held }) (omega (arith, count, few))
    ∙ ap (λ (e : Conversation). (Heard p ∷ []) ++ given_since c (read_on e (x ∷ more)) ++ events_from (read_on e (x ∷ more)) rest) (sym stays)

-- A whole packet of a connection that is between packets.
whole_traced : (c : Conversation) (p : Packet) (rest : List ℕ) → IsBetween c → IsWritable p → IsFrame MAX_PACKET (plain_spelling p) → c.end ≡ None → count_read c + length (plain_spelling p) < MAX_READ
    → events_from c (plain_spelling p ++ rest) ≡ (Heard p ∷ []) ++ given_since c (packet_heard c p) ++ events_from (packet_heard c p) rest
whole_traced c p rest between w is going few =
    let frame = plain_spelling p in
    let long = (size_is MAX_PACKET frame (length frame) is).head in
    let read : read_on c frame ≡ packet_heard c p = ap (read_on c) (sym (append-nil frame))
    ∙ packets_are_heard c (p ∷ []) between (w, tt) (omega (arith, few, ap (λ (t : List ℕ). length t) (append-nil frame))) in
    packet_traced p frame is (spelling_again p w.well_formed w.numbers w.size) c [] frame rest refl (omega (arith, long))
    (record { end = going; limit = between.limit; held = between.held }) few
    ∙ ap (λ (d : Conversation). (Heard p ∷ []) ++ given_since c d ++ events_from d rest) read

-- The small connection.

small : (bytes : List ℕ) → list_all (λ b. ltb b 256) bytes ≡ true → All (λ b. b < 256) bytes
small bytes e k d less = ltb-true _ _ (AllPass-from_list_all (λ b. ltb b 256) bytes e k d less)

guids : (All (λ b. b < 256) alpha.guid.0) × (All (λ b. b < 256) beta.guid.0)
guids = (small alpha.guid.0 refl, small beta.guid.0 refl)

nobody : AreBytes 16 (replicate 16 0)
nobody = (refl, small (replicate 16 0) refl)

establish_writable : (now : ℕ) → now < 2 ^ 32 → IsWritable (establish alpha beta now)
establish_writable now fits = record { well_formed = tt; numbers = record { client = refl; server = refl; stamp = fits }; size = omega arith }

parameters_writable : IsWritable parameters
parameters_writable = record { well_formed = tt; numbers = record { storage_time = omega arith; ack_time = omega arith; window = omega arith }; size = omega arith }

ack_writable : IsWritable order_ack
ack_writable = record {
  well_formed = record {
    message = record { priority = leb-true _ _ refl; ack = leb-true _ _ refl; journal = leb-true _ _ refl; label = leb-true _ _ refl; class = refl; destination = refl; admin = refl; response = refl };
    tx = refl;
    reach = refl;
  };
  numbers = record {
    message = record {
      id = record { qm = (refl, guids.1); number = ltb-true _ _ refl };
      class = ltb-true _ _ refl;
      sent = ltb-true _ _ refl;
      life = ltb-true _ _ refl;
      destination = (refl, refl);
      admin = tt;
      response = tt;
      correlation = record { qm = nobody; number = ltb-true _ _ refl };
      body_type = ltb-true _ _ refl;
      tag = ltb-true _ _ refl;
      label = All-nil _;
    };
    to = (refl, guids.0);
    remaining = ltb-true _ _ refl;
    tx = tt;
    session = record { ack = ltb-true _ _ refl; stored = ltb-true _ _ refl; stored_flags = ltb-true _ _ refl; user = ltb-true _ _ refl; recoverable = ltb-true _ _ refl; window = ltb-true _ _ refl };
  };
  size = leb-true _ _ refl;
}

abbrev begun : Conversation
begun = opened pushing (purpose.Reach errand.Push 0) 1001

abbrev behind_establish : Conversation
behind_establish = packet_heard begun (establish alpha beta 1001)

abbrev behind_parameters : Conversation
behind_parameters = packet_heard behind_establish parameters

abbrev behind_ack : Conversation
behind_ack = packet_heard behind_parameters order_ack

lengths : (length (plain_spelling (establish alpha beta 1001)) ≡ 572) × (length (plain_spelling parameters) ≡ 32) × (length (plain_spelling order_ack) ≡ 216)
lengths = (plain_length (establish alpha beta 1001), plain_length parameters, plain_length order_ack)

counts : (count_read begun ≡ 0)
    × (count_read behind_establish ≡ (0 + length (plain_spelling (establish alpha beta 1001))) + 0)
    × (count_read behind_parameters ≡ ((0 + length (plain_spelling (establish alpha beta 1001))) + length (plain_spelling parameters)) + 0)
counts = (refl, refl, refl)

pub one_is_traced : OneIsTraced
one_is_traced =
    ap (λ (es : List Event). given begun.given ++ es) (
    whole_traced begun (establish alpha beta 1001) (plain_spelling parameters ++ (plain_spelling order_ack ++ [])) (record { limit = refl; held = refl })
    (establish_writable 1001 (omega arith)) (frame_is (establish alpha beta 1001) (establish_writable 1001 (omega arith))) refl (let few = counts.0 in let long = lengths.0 in omega (arith, few, long))
    ∙ ap (λ (es : List Event). (Heard (establish alpha beta 1001) ∷ []) ++ given_since begun behind_establish ++ es) (
    whole_traced behind_establish parameters (plain_spelling order_ack ++ []) (record { limit = refl; held = refl }) parameters_writable (frame_is parameters parameters_writable) refl
    (let few = counts.1 in let first = lengths.0 in let long = lengths.1 in omega (arith, few, first, long))
    ∙ ap (λ (es : List Event). (Heard parameters ∷ []) ++ given_since behind_establish behind_parameters ++ es)
    (whole_traced behind_parameters order_ack [] (record { limit = refl; held = refl }) ack_writable (frame_is order_ack ack_writable) refl (let few = counts.2 in let first = lengths.0 in let second = lengths.1 in let long = lengths.2 in omega (arith, few, first, second, long)))
    )
    )
    ∙ refl
