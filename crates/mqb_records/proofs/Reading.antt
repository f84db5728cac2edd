-- Ops whose packets can all be read are tried as the ops of a record.
use Rattle.std.proofs.Common.{refl, ap, sym, ◌∙◌, arith}
use Rattle.std.proofs.lemmas.Bool.{and_parts}
use Rattle.std.proofs.lemmas.Bool.Decides.{nat_tests}
use Rattle.std.proofs.lemmas.List.{length-map}
use Rattle.std.specs.List.{cons_option}
use Rattle.std.specs.Option.{option_map_or}
use Rattle.std.specs.Prelude.{◌&&◌, ◌+◌, ◌∷◌, ◌≡◌, [], Bool, List, None, Option, Some, cond, false, length, map, nat_le, option_and_then, option_map, suc, true, ◌≤◌, ℕ}
use Rattle.mqb_base.specs.declared.queues.EntryPlace.TheVariants as place
use Rattle.mqb_entries.specs.declared.members.OpView.{OpView}
use Rattle.mqb_entries.specs.declared.members.OpView.TheVariants as view
use Rattle.mqb_packet.specs.declared.packet.Headers.{Headers}
use Rattle.mqb_packet.specs.declared.packet.Headers.TheVariants as headers
use Rattle.mqb_packet.specs.declared.packet.UserPacket.{UserPacket}
use Rattle.mqb_model.specs.records.Commit.{sends_fit, sends_of, take_fits}
use Rattle.mqb_model.specs.records.Packets.{in_transaction, is_sendable}
use Rattle.mqb_model.specs.records.Reading.{all_some, op_of, user_packet_of}
use Rattle.mqb_model.specs.records.Record.{RecordOp, Send, Take}
use Rattle.mqb_model.specs.records.Stepwise.{takes_stepwise}
use Rattle.mqb_model.specs.rules.Effects.{Effect}
use Rattle.mqb_model.specs.rules.Takes.{taken}
use Rattle.mqb_model.specs.state.State.{State}
use Rattle.mqb_model.specs.declared.limits.TheConstants.{MAX_NUMBER}
use Rattle.mqb_records.specs.Ops.{bytes_fit, packets_fit, packets_shown, takes_tried}

-- the ops that views show
abbrev pub shown : List OpView → Option (List RecordOp)
shown ops = all_some (map op_of ops)

pub packets_are : (s : State) (n : ℕ) (ops : List OpView) → packets_fit s n ops ≡ option_map_or (sends_fit s n) (shown ops) false
packets_are s n [] = refl
packets_are s n (view.Take queue id ∷ ops) = packets_are s n ops ∙ at (shown ops)
  where
    at : (o : Option (List RecordOp)) → option_map_or (sends_fit s n) o false ≡ option_map_or (sends_fit s n) (option_map (λ ops. Take queue id ∷ ops) o) false
    at None = refl
    at (Some ops) = refl
packets_are s n (view.Send bytes ∷ ops) = ap (λ b. option_map_or (is_sendable s headers.TxAndSession n) (user_packet_of bytes) false && b) (packets_are s (n + 1) ops)
    ∙ at (user_packet_of bytes) (shown ops)
  where
    at : (p : Option UserPacket) (o : Option (List RecordOp)) → (option_map_or (is_sendable s headers.TxAndSession n) p false && option_map_or (sends_fit s (n + 1)) o false)
        ≡ option_map_or (sends_fit s n) (option_and_then (λ op. option_map (λ ops. op ∷ ops) o) (option_map (λ p. Send p) p)) false
    at None o = refl
    at (Some p) None = last (is_sendable s headers.TxAndSession n p)
      where
        last : (b : Bool) → (b && false) ≡ false
        last true = refl
        last false = refl
    at (Some p) (Some ops) = refl

-- The ops that views show, as far as the first one.

pub takes_are : (now : ℕ) (e : Effect) (ops : List OpView) (shows : List RecordOp) → shown ops ≡ Some shows → takes_tried now e ops ≡ takes_stepwise now e shows
takes_are now e [] shows h = ap (λ o. option_map_or (takes_stepwise now e) o None) h
takes_are now e (view.Take queue id ∷ ops) shows h = at (shown ops) (λ rest is. takes_are now (taken (place.Queue queue) id now e) ops rest is) h
  where
    at : (o : Option (List RecordOp)) → ((rest : List RecordOp) → o ≡ Some rest
        → takes_tried now (taken (place.Queue queue) id now e) ops ≡ takes_stepwise now (taken (place.Queue queue) id now e) rest)
        → option_map (λ ops. Take queue id ∷ ops) o ≡ Some shows → takes_tried now e (view.Take queue id ∷ ops) ≡ takes_stepwise now e shows
    at None others h = absurd (let none : ⊥ = cc in none)
    at (Some rest) others h = ap (λ t. cond (take_fits e.state now (place.Queue queue) id) t None) (others rest refl)
        ∙ ap (λ o. option_map_or (takes_stepwise now e) o None) h
takes_are now e (view.Send bytes ∷ ops) shows h = at (user_packet_of bytes) (shown ops) (λ rest is. takes_are now e ops rest is) h
  where
    at : (p : Option UserPacket) (o : Option (List RecordOp)) → ((rest : List RecordOp) → o ≡ Some rest → takes_tried now e ops ≡ takes_stepwise now e rest)
        → option_and_then (λ op. option_map (λ ops. op ∷ ops) o) (option_map (λ p. Send p) p) ≡ Some shows
        → takes_tried now e ops ≡ takes_stepwise now e shows
    at None o others h = absurd (let none : ⊥ = cc in none)
    at (Some p) None others h = absurd (let none : ⊥ = cc in none)
    at (Some p) (Some rest) others h = others rest refl ∙ ap (λ o. option_map_or (takes_stepwise now e) o None) h

-- the messages of their packets are those that they send
pub sends_shown : (ops : List OpView) (shows : List RecordOp) → shown ops ≡ Some shows → map in_transaction (packets_shown ops) ≡ sends_of shows
sends_shown [] shows h = ap (λ o. option_map_or sends_of o []) h
sends_shown (view.Take queue id ∷ ops) shows h = at (shown ops) (λ rest is. sends_shown ops rest is) h
  where
    at : (o : Option (List RecordOp)) → ((rest : List RecordOp) → o ≡ Some rest → map in_transaction (packets_shown ops) ≡ sends_of rest)
        → option_map (λ ops. Take queue id ∷ ops) o ≡ Some shows → map in_transaction (packets_shown ops) ≡ sends_of shows
    at None others h = absurd (let none : ⊥ = cc in none)
    at (Some rest) others h = others rest refl ∙ ap (λ o. option_map_or sends_of o []) h
sends_shown (view.Send bytes ∷ ops) shows h = at (user_packet_of bytes) (shown ops) (λ rest is. sends_shown ops rest is) h
  where
    at : (p : Option UserPacket) (o : Option (List RecordOp)) → ((rest : List RecordOp) → o ≡ Some rest → map in_transaction (packets_shown ops) ≡ sends_of rest)
        → option_and_then (λ op. option_map (λ ops. op ∷ ops) o) (option_map (λ p. Send p) p) ≡ Some shows
        → map in_transaction (cons_option p (packets_shown ops)) ≡ sends_of shows
    at None o others h = absurd (let none : ⊥ = cc in none)
    at (Some p) None others h = absurd (let none : ⊥ = cc in none)
    at (Some p) (Some rest) others h = ap (λ ms. in_transaction p ∷ ms) (others rest refl) ∙ ap (λ o. option_map_or sends_of o []) h

pub sends_count : (ops : List OpView) (shows : List RecordOp) → shown ops ≡ Some shows → length (packets_shown ops) ≡ length (sends_of shows)
sends_count ops shows h = sym (length-map (packets_shown ops) in_transaction) ∙ ap length (sends_shown ops shows h)

pub ops_count : (ops : List OpView) (shows : List RecordOp) → shown ops ≡ Some shows → length ops ≡ length shows
ops_count [] shows h = ap (λ o. option_map_or length o 0) h
ops_count (op ∷ ops) shows h = at (op_of op) (shown ops) (λ rest is. ops_count ops rest is) h
  where
    at : (p : Option RecordOp) (o : Option (List RecordOp)) → ((rest : List RecordOp) → o ≡ Some rest → length ops ≡ length rest) → option_and_then (λ op. option_map (λ ops. op ∷ ops) o) p ≡ Some shows
        → length (op ∷ ops) ≡ length shows
    at None o others h = absurd (let none : ⊥ = cc in none)
    at (Some p) None others h = absurd (let none : ⊥ = cc in none)
    at (Some p) (Some rest) others h = ap suc (others rest refl) ∙ ap (λ o. option_map_or length o 0) h

-- The number of a packet that can be sent is left.
pub sendable_left : (s : State) (beside : Headers) (n : ℕ) (p : UserPacket) → is_sendable s beside n p ≡ true → n ≤ MAX_NUMBER
sendable_left s beside n p h =
    let own = (and_parts _ _ h).0 in
    let found = (and_parts _ _ own).0 in
    let session = (and_parts _ _ found).0 in
    let tx = (and_parts _ _ session).0 in
    let delivery = (and_parts _ _ tx).0 in
    let left : nat_le n MAX_NUMBER ≡ true = (and_parts _ _ ((and_parts _ _ delivery).0)).1 in
    grind (arith, nat_tests)

-- Numbers of packets that fit are left.
pub number_left : (s : State) (n : ℕ) (bytes : List ℕ) → bytes_fit s n bytes ≡ true → n ≤ MAX_NUMBER
number_left s n bytes h = at (user_packet_of bytes) h
  where
    at : (p : Option UserPacket) → option_map_or (is_sendable s headers.TxAndSession n) p false ≡ true → n ≤ MAX_NUMBER
    at None h = absurd (let none : ⊥ = cc in none)
    at (Some p) h = sendable_left s headers.TxAndSession n p h
