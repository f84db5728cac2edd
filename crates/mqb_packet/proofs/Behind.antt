-- Parts that are written behind one another.
use Rattle.std.proofs.Common.{◌≡◌, ◌≤◌, ℕ, ◌+◌, ◌-◌, false, List, [], ◌++◌, length, take, drop, Option, Some, None, refl, sym, ap, ◌∙◌, arith, append_assoc, length-append, length-drop}
use Rattle.std.proofs.lemmas.List.{append-nil, drop-drop, drop_all, take_all}
use borrow.Rule.Slice.PartMut.{put_mid}
use Rattle.mqb_base.specs.declared.heads.SessionHead.{SessionHead}
use Rattle.mqb_base.specs.declared.heads.TxHead.{TxHead}
use Rattle.mqb_fields.specs.Writing.{put_at}
use Rattle.mqb_heads.specs.Base.{plain_base}
use Rattle.mqb_heads.specs.Properties.{plain_props, props_size}
use Rattle.mqb_heads.specs.User.{plain_user, user_size}
use Rattle.mqb_fields.specs.Writing.{Wrote}
use Rattle.mqb_heads.specs.lemmas.Put.{user_sizes, props_sizes}
use Rattle.mqb_setup.specs.declared.internal.Establish.{Establish}
use Rattle.mqb_setup.specs.declared.internal.Internal.TheVariants as part
use Rattle.mqb_setup.specs.Internals.{filler, plain_internal}
use Rattle.mqb_setup.specs.lemmas.Parts.{length_filler}
use Rattle.mqb_packet.specs.declared.packet.Packet.{Packet}
use Rattle.mqb_packet.specs.declared.packet.Packet.TheVariants as packet
use Rattle.mqb_packet.specs.declared.packet.UserPacket.{UserPacket}
use Rattle.mqb_packet.specs.Plain.{tx_or_none, session_or_none, tx_size, session_size, user_packet_size, packet_size, base_for, internal_base, plain_user_packet, plain_spelling}

-- what is put into the rest is put behind
put_behind : (to part : List ℕ) (at : ℕ) → at ≤ length to → put_mid at (length to - at) to (put_at (drop at to) 0 part) ≡ put_at to at part
put_behind to part at room =
    let none : drop (length to - at) (drop at to) ≡ [] = drop_all (length to - at) (drop at to) (omega (arith, length-drop at to)) in
    let place : at + (0 + length part) ≡ at + length part = omega arith in
    let rest : drop (0 + length part) (drop at to) ≡ drop (at + length part) to = drop-drop (0 + length part) at to ∙ ap (λ (n : ℕ). drop n to) place in
    rw (none, rest, append-nil (part ++ drop (at + length part) to)) (sym (append_assoc (take at to) part (drop (at + length part) to)))

pub wrote_behind : (to new part : List ℕ) (at count : ℕ) → at + length part ≤ length to → new ≡ put_at (take (length to - at) (drop at to)) 0 part → count ≡ length part
    → Wrote to at part (put_mid at (length to - at) to new) (at + count)
wrote_behind to new part at count room put len =
    let whole : take (length to - at) (drop at to) ≡ drop at to = take_all (length to - at) (drop at to) (omega (arith, length-drop at to)) in
    record {
      room = room;
      put = ap (put_mid at (length to - at) to) (put ∙ ap (λ (list : List ℕ). put_at list 0 part) whole) ∙ put_behind to part at (omega arith);
      end = ap (λ (n : ℕ). at + n) len;
    }

pub wrote_first : (to new part : List ℕ) (count : ℕ) → length part ≤ length to → new ≡ put_at to 0 part → count ≡ length part → Wrote to 0 part new count
wrote_first to new part count room put len = record { room = omega arith; put = put; end = omega (arith, len) }

pub length_tx : (head : Option TxHead) → length (tx_or_none head) ≡ tx_size head
length_tx None = refl
length_tx (Some head) = refl

pub length_session : (head : Option SessionHead) → length (session_or_none head) ≡ session_size head
length_session None = refl
length_session (Some head) = refl

lengths_of_four : (a b c d : List ℕ) (k l m n : ℕ) → length a ≡ k → length b ≡ l → length c ≡ m → length d ≡ n → length (a ++ b ++ c ++ d) ≡ k + l + m + n
lengths_of_four a b c d k l m n is_k is_l is_m is_n = omega (arith, length-append (a ++ b ++ c) d, length-append (a ++ b) c, length-append a b, is_k, is_l, is_m, is_n)

-- the headers before the session header
abbrev pub before_session : UserPacket → List ℕ
before_session user = plain_base (base_for user) ++ plain_user user.message user.to ++ tx_or_none user.tx ++ plain_props user.message

pub length_before : (user : UserPacket) → length (before_session user) ≡ 16 + user_size user.message + tx_size user.tx + props_size user.message
length_before user =
    lengths_of_four (plain_base (base_for user)) (plain_user user.message user.to) (tx_or_none user.tx) (plain_props user.message) 16 (user_size user.message) (tx_size user.tx) (props_size user.message)
    refl (user_sizes user.message user.to) (length_tx user.tx) (props_sizes user.message)

lengths_of_two : (a b : List ℕ) (k l : ℕ) → length a ≡ k → length b ≡ l → length (a ++ b) ≡ k + l
lengths_of_two a b k l is_k is_l = omega (arith, length-append a b, is_k, is_l)

pub user_length : (user : UserPacket) → length (plain_user_packet user) ≡ user_packet_size user
user_length user = lengths_of_two (before_session user) (session_or_none user.session) _ (session_size user.session) (length_before user) (length_session user.session)

pub length_establish : (establish : Establish) → length (plain_internal (part.Establish establish)) ≡ 556
length_establish establish = omega (arith, length_filler)

pub plain_length : (p : Packet) → length (plain_spelling p) ≡ packet_size p
plain_length (packet.User user) = user_length user
plain_length (packet.Establish establish) = lengths_of_two (plain_base (internal_base false 572)) (plain_internal (part.Establish establish)) 16 556 refl (length_establish establish)
plain_length (packet.Parameters parameters) = refl
plain_length (packet.Ack head) = refl
