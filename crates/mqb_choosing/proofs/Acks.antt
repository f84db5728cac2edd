-- Order acknowledgements, of which some are left.
use Rattle.std.proofs.Common.{◌≡◌, ℕ, ◌+◌, ◌<◌, ◌≤◌, Bool, true, false, cond, List, [], ◌∷◌, ◌++◌, length, drop, Option, Some, None, refl, ap, ◌∙◌, arith}
use Rattle.std.proofs.lemmas.Bool.Decides.{nat_tests}
use Rattle.std.proofs.lemmas.List.{append-nil}
use Rattle.std.specs.List.{cons_option, enumerate_from}
use Rattle.std.specs.Prelude.{◌&&◌, IsSomeAnd, codes, filter_map, nat_lt, slice_get, zip}
use Rattle.mqb_base.specs.Same.{same_guid}
use Rattle.mqb_base.specs.declared.ids.Guid.{Guid}
use Rattle.mqb_base.specs.declared.ids.Identity.{Identity}
use Rattle.mqb_base.specs.declared.message.Message.{Message}
use Rattle.mqb_base.specs.declared.queue_names.Host.TheVariants.{Os}
use Rattle.mqb_fate.specs.Orders.{order_acknowledgement, order_layer}
use Rattle.mqb_heads.specs.User.{user_names}
use Rattle.mqb_heads.specs.declared.base.TheConstants.{MAX_PACKET}
use Rattle.mqb_names.specs.Printed.{printed_direct}
use Rattle.mqb_names.specs.Values.{IsName}
use Rattle.mqb_names.specs.Wire.{wire}
use Rattle.mqb_names.specs.lemmas.DirectAgain.{direct_most}
use Rattle.mqb_names.specs.lemmas.Units.{length_direct}
use Rattle.mqb_orders.specs.declared.rows.InRow.{InRow}
use Rattle.mqb_packet.specs.Plain.{message_size}
use Rattle.mqb_packet.specs.declared.packet.Headers.TheVariants as headers
use Rattle.mqb_model.specs.calls.pump.Candidates.{Candidate, ack_candidate, ack_of, acks, owed_to}
use Rattle.mqb_model.specs.records.Packets.{is_too_large}
use Rattle.mqb_model.specs.rules.Numbers.{express_after, own_id}
use Rattle.mqb_model.specs.state.State.{State}
use Rattle.mqb_choosing.specs.Choices.{IsSendable}
use Rattle.mqb_choosing.specs.Going.{Going, Offers}
use Rattle.mqb_choosing.proofs.Left.{AreLeft, left_more, left_none, left_same, zip_front, zip_past}
use Rattle.mqb_choosing.proofs.Members.{there_holds}

small : (size limit : ℕ) → size ≤ limit → nat_lt limit size ≡ false
small size limit h = grind (arith, nat_tests)

-- an acknowledgement can be sent
pub ack_sendable : (s : State) (peer : Identity) (now number : ℕ) (row : ℕ × InRow) → IsName peer.host → IsSendable (ack_candidate s peer now number row)
ack_sendable s peer now number row host = record {
  carried = record {
    well_formed = record {
      priority = omega arith;
      ack = omega arith;
      journal = omega arith;
      label = omega arith;
      class = refl;
      destination = refl;
      admin = refl;
      response = refl;
    };
    named = record { destination = (host, refl); admin = tt; response = tt };
    size = little;
  };
  kind = refl;
}
  where
    told : Message
    told = order_acknowledgement (ack_of row.1) peer.host (own_id s number) now

    queue : List ℕ
    queue = codes "order_queue$"

    text : List ℕ
    text = printed_direct (Os peer.host) queue

    little : is_too_large headers.Session told ≡ false
    little =
        let most = direct_most (Os peer.host) queue host refl in
        let two = length_direct (length text) text in
        let names : length (user_names told) ≡ length (wire (order_layer peer.host)) =
        ap length (append-nil (wire (order_layer peer.host) ++ []) ∙ append-nil (wire (order_layer peer.host))) in
        let body : length told.body ≡ 16 = refl in
        let size : message_size headers.Session told ≤ MAX_PACKET = omega (arith, most, two, names, body) in
        small (message_size headers.Session told) MAX_PACKET size

-- One row of those that are left.

row_left : (guid : Guid) (k : ℕ) (row : InRow) (owed : Bool) (ins : List InRow) (owes : List Bool) → slice_get ins k ≡ Some row → slice_get owes k ≡ Some owed
    → filter_map (owed_to guid) (enumerate_from k (drop k (zip ins owes)))
    ≡ cons_option (owed_to guid (k, (row, owed))) (filter_map (owed_to guid) (enumerate_from (k + 1) (drop (k + 1) (zip ins owes))))
row_left guid k row owed ins owes is mark = ap (λ (rows : List (InRow × Bool)). filter_map (owed_to guid) (enumerate_from k rows)) (zip_front ins owes k row owed is mark)

-- its acknowledgement was offered
pub ack_offered : (s : State) (start now after : Going) (peer : Identity) (moment number k : ℕ) (row : InRow) (owes : List Bool) (all : List Candidate)
    → slice_get s.ins k ≡ Some row → slice_get owes k ≡ Some true → same_guid row.source peer.guid ≡ true
    → Offers s now after (ack_candidate s peer moment number (k, row) ∷ [])
    → AreLeft s start now (acks s peer moment number (filter_map (owed_to peer.guid) (enumerate_from k (drop k (zip s.ins owes))))) all
    → AreLeft s start after (acks s peer moment (express_after number) (filter_map (owed_to peer.guid) (enumerate_from (k + 1) (drop (k + 1) (zip s.ins owes))))) all
ack_offered s start now after peer moment number k row owes all is mark same offers left =
    left_more s start now after (ack_candidate s peer moment number (k, row) ∷ []) (acks s peer moment (express_after number) behind) all
    (left_same s start now (acks s peer moment number (filter_map (owed_to peer.guid) (enumerate_from k (drop k (zip s.ins owes)))))
    (acks s peer moment number ((k, row) ∷ behind)) all (ap (acks s peer moment number) (row_left peer.guid k row true s.ins owes is mark ∙ owed)) left) offers
  where
    behind : List (ℕ × InRow)
    behind = filter_map (owed_to peer.guid) (enumerate_from (k + 1) (drop (k + 1) (zip s.ins owes)))

    owed : cons_option (owed_to peer.guid (k, (row, true))) behind ≡ (k, row) ∷ behind
    owed = ap (λ (b : Bool). cons_option (cond (true && b) (Some (k, row)) None) behind) same

-- it owes none
pub ack_passed : (s : State) (start now : Going) (peer : Identity) (moment number k : ℕ) (row : InRow) (owed : Bool) (owes : List Bool) (all : List Candidate)
    → slice_get s.ins k ≡ Some row → slice_get owes k ≡ Some owed → (owed && same_guid row.source peer.guid) ≡ false
    → AreLeft s start now (acks s peer moment number (filter_map (owed_to peer.guid) (enumerate_from k (drop k (zip s.ins owes))))) all
    → AreLeft s start now (acks s peer moment number (filter_map (owed_to peer.guid) (enumerate_from (k + 1) (drop (k + 1) (zip s.ins owes))))) all
ack_passed s start now peer moment number k row owed owes all is mark none left =
    left_same s start now (acks s peer moment number (filter_map (owed_to peer.guid) (enumerate_from k (drop k (zip s.ins owes)))))
    (acks s peer moment number behind) all (ap (acks s peer moment number) (row_left peer.guid k row owed s.ins owes is mark ∙ passed)) left
  where
    behind : List (ℕ × InRow)
    behind = filter_map (owed_to peer.guid) (enumerate_from (k + 1) (drop (k + 1) (zip s.ins owes)))

    passed : cons_option (owed_to peer.guid (k, (row, owed))) behind ≡ behind
    passed = ap (λ (b : Bool). cons_option (cond b (Some (k, row)) None) behind) none

-- it has no mark
pub ack_unmarked : (s : State) (start now : Going) (peer : Identity) (moment number k : ℕ) (owes : List Bool) (all : List Candidate)
    → k < length s.ins → slice_get owes k ≡ Some false
    → AreLeft s start now (acks s peer moment number (filter_map (owed_to peer.guid) (enumerate_from k (drop k (zip s.ins owes))))) all
    → AreLeft s start now (acks s peer moment number (filter_map (owed_to peer.guid) (enumerate_from (k + 1) (drop (k + 1) (zip s.ins owes))))) all
ack_unmarked s start now peer moment number k owes all within mark left = at (slice_get s.ins k) refl (there_holds (λ r. Unit {0}) s.ins k (λ i d less. tt) within)
  where
    at : (o : Option InRow) → slice_get s.ins k ≡ o → IsSomeAnd o (λ r. Unit {0})
        → AreLeft s start now (acks s peer moment number (filter_map (owed_to peer.guid) (enumerate_from (k + 1) (drop (k + 1) (zip s.ins owes))))) all
    at None is some = absurd some
    at (Some row) is some = ack_passed s start now peer moment number k row false owes all is mark refl left

pub acks_done : (s : State) (start now : Going) (peer : Identity) (moment number k : ℕ) (owes : List Bool) (all : List Candidate) → length owes ≤ k
    → AreLeft s start now (acks s peer moment number (filter_map (owed_to peer.guid) (enumerate_from k (drop k (zip s.ins owes))))) all → Offers s start now all
acks_done s start now peer moment number k owes all past left =
    left_none s start now (acks s peer moment number (filter_map (owed_to peer.guid) (enumerate_from k (drop k (zip s.ins owes))))) all
    (ap (λ (rows : List (InRow × Bool)). acks s peer moment number (filter_map (owed_to peer.guid) (enumerate_from k rows))) (zip_past s.ins owes k past)) left
