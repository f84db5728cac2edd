-- A message is pushed from alpha to beta.
use Rattle.std.proofs.Common.{◌≡◌, ◌≤◌, ◌<◌, ◌+◌, ◌^◌, ℕ, Bool, true, List, [], ◌∷◌, ◌++◌, ltb, length, Err, None, Ok, Option, Some, refl, ap, ◌∙◌, arith, length-append}
use Rattle.std.specs.Prelude.{All, fold, map, replicate, unwrap_or}
use Rattle.std.specs.List.{AllByRecursion, list_all}
use Rattle.std.proofs.lemmas.Bool.{leb-true, ltb-true}
use Rattle.std.proofs.lemmas.List.Elements.{All-nil}
use Rattle.std.proofs.lemmas.List.Sums.{AllPass-from_list_all}
use Rattle.mqb_heads.specs.declared.base.TheConstants.{MAX_PACKET}
use Rattle.mqb_heads.specs.Values.{IsMessage}
use Rattle.mqb_names.specs.Values.{AreBytes}
use Rattle.mqb_orders.specs.KeptLists.{numbers}
use Rattle.mqb_packet.specs.Plain.{IsWellFormedPacket, packet_size, plain_spelling}
use Rattle.mqb_packet.specs.Values.{IsPacket}
use Rattle.mqb_packet.specs.declared.packet.Packet.{Packet}
use Rattle.mqb_packet.specs.declared.packet.Packet.TheVariants as packet
use Rattle.mqb_serving.specs.declared.purpose.Errand.TheVariants as errand
use Rattle.mqb_serving.specs.declared.purpose.Purpose.TheVariants as purpose
use Rattle.mqb_model.specs.runs.Samples.{alpha, beta, ids_of}
use Rattle.mqb_serving.specs.Conversations.{Conversation, bytes_of, closed, end_of_bytes, opened, read_on}
use Rattle.mqb_serving.specs.Laws.{IsWritable, packet_heard}
use Rattle.mqb_serving.specs.Worked.{OneIsPushed, establish, from_alpha, from_beta, last_ack, order, order_ack, parameters, pushing, receiving}
use Rattle.mqb_serving.proofs.Hearing.{packets_served}

small : (bytes : List ℕ) → list_all (λ b. ltb b 256) bytes ≡ true → All (λ b. b < 256) bytes
small bytes e k d less = ltb-true _ _ (AllPass-from_list_all (λ b. ltb b 256) bytes e k d less)

guids : (All (λ b. b < 256) alpha.guid.0) × (All (λ b. b < 256) beta.guid.0)
guids = (small alpha.guid.0 refl, small beta.guid.0 refl)

nobody : AreBytes 16 (replicate 16 0)
nobody = (refl, small (replicate 16 0) refl)

establish_writable : (now : ℕ) → now < 2 ^ 32 → IsWritable (establish alpha beta now)
establish_writable now fits = record { well_formed = tt; numbers = record { client = refl; server = refl; stamp = fits }; size = omega arith }

parameters_writable : IsWritable parameters
parameters_writable = record { well_formed = tt; numbers = record { storage_time = omega arith; ack_time = omega arith; window = omega arith }; size = omega arith }

last_writable : IsWritable (packet.Ack last_ack)
last_writable = record {
  well_formed = tt;
  numbers = record { ack = omega arith; stored = omega arith; stored_flags = omega arith; user = omega arith; recoverable = omega arith; window = omega arith };
  size = omega arith;
}

order_writable : IsWritable order
order_writable = record {
  well_formed = record {
    message = record { priority = leb-true _ _ refl; ack = leb-true _ _ refl; journal = leb-true _ _ refl; label = leb-true _ _ refl; class = refl; destination = refl; admin = refl; response = refl };
    tx = refl;
    reach = refl;
  };
  numbers = record {
    message = record {
      id = record { qm = (refl, guids.0); number = ltb-true _ _ refl };
      class = ltb-true _ _ refl;
      sent = ltb-true _ _ refl;
      life = ltb-true _ _ refl;
      destination = (refl, refl);
      admin = tt;
      response = tt;
      correlation = record { qm = nobody; number = ltb-true _ _ refl };
      body_type = ltb-true _ _ refl;
      tag = ltb-true _ _ refl;
      label = All-nil _;
    };
    to = (refl, guids.1);
    remaining = ltb-true _ _ refl;
    tx = record { ordinal = ltb-true _ _ refl; stamp = ltb-true _ _ refl; number = ltb-true _ _ refl; previous = ltb-true _ _ refl };
    session = record { ack = ltb-true _ _ refl; stored = ltb-true _ _ refl; stored_flags = ltb-true _ _ refl; user = ltb-true _ _ refl; recoverable = ltb-true _ _ refl; window = ltb-true _ _ refl };
  };
  size = leb-true _ _ refl;
}

ack_writable : IsWritable order_ack
ack_writable = record {
  well_formed = record {
    message = record { priority = leb-true _ _ refl; ack = leb-true _ _ refl; journal = leb-true _ _ refl; label = leb-true _ _ refl; class = refl; destination = refl; admin = refl; response = refl };
    tx = refl;
    reach = refl;
  };
  numbers = record {
    message = record {
      id = record { qm = (refl, guids.1); number = ltb-true _ _ refl };
      class = ltb-true _ _ refl;
      sent = ltb-true _ _ refl;
      life = ltb-true _ _ refl;
      destination = (refl, refl);
      admin = tt;
      response = tt;
      correlation = record { qm = nobody; number = ltb-true _ _ refl };
      body_type = ltb-true _ _ refl;
      tag = ltb-true _ _ refl;
      label = All-nil _;
    };
    to = (refl, guids.0);
    remaining = ltb-true _ _ refl;
    tx = tt;
    session = record { ack = ltb-true _ _ refl; stored = ltb-true _ _ refl; stored_flags = ltb-true _ _ refl; user = ltb-true _ _ refl; recoverable = ltb-true _ _ refl; window = ltb-true _ _ refl };
  };
  size = leb-true _ _ refl;
}

abbrev alpha_begun : Conversation
alpha_begun = opened pushing (purpose.Reach errand.Push 0) 1001

abbrev beta_begun : Conversation
beta_begun = opened receiving purpose.Serve 1003

-- alpha over beta's packets
abbrev alpha_after : Conversation
alpha_after = fold packet_heard alpha_begun from_beta

-- beta over alpha's
abbrev beta_after : Conversation
beta_after = fold packet_heard beta_begun from_alpha

alpha_heard : read_on alpha_begun (bytes_of from_beta) ≡ alpha_after
alpha_heard = packets_served pushing (purpose.Reach errand.Push 0) 1001 from_beta (establish_writable 1001 (omega arith), (parameters_writable, (ack_writable, tt))) (omega arith)

beta_heard : read_on beta_begun (bytes_of from_alpha) ≡ beta_after
beta_heard = packets_served receiving purpose.Serve 1003 from_alpha (establish_writable 1001 (omega arith), (parameters_writable, (order_writable, (last_writable, tt)))) (omega arith)

alpha_given : alpha_after.given ≡ from_alpha
alpha_given = refl

beta_given : beta_after.given ≡ from_beta
beta_given = refl

pub one_is_pushed : OneIsPushed
one_is_pushed = record {
  asks = ap (λ (c : Conversation). bytes_of c.given) alpha_heard ∙ ap bytes_of alpha_given;
  pushes = ap (λ (c : Conversation). unwrap_or c.end (end_of_bytes c)) alpha_heard ∙ refl;
  answers = ap (λ (c : Conversation). bytes_of c.given) beta_heard ∙ ap bytes_of beta_given;
  serves = ap (λ (c : Conversation). unwrap_or c.end (end_of_bytes c)) beta_heard ∙ refl;
  put = ap (λ (c : Conversation). map (λ q. ids_of q.lists.durable) (closed c).stored.manager.state.places.queues) beta_heard ∙ refl;
  left = ap (λ (c : Conversation). map (λ row. numbers row.kept) (closed c).stored.manager.state.outs) alpha_heard ∙ refl;
  one_record = ap (λ (c : Conversation). (closed c).stored.count) beta_heard ∙ refl;
  two_records = ap (λ (c : Conversation). (closed c).stored.count) alpha_heard ∙ refl;
}
