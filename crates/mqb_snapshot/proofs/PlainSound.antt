-- Plain messages that join those before them.
use Rattle.std.proofs.Common.{ℕ, false, List, [], ◌∷◌, ◌++◌, refl, sym, ap, subst, ◌∙◌, inl}
use Rattle.std.proofs.lemmas.List.{map-append}
use Rattle.std.specs.Prelude.{not}
use Rattle.mqb_base.specs.declared.message.Lane.TheVariants.{Durable}
use Rattle.mqb_base.specs.declared.message.Message.{Message}
use Rattle.mqb_model.specs.records.Packets.{is_recoverable}
use Rattle.mqb_model.specs.state.Places.{with_plain}
use Rattle.mqb_model.specs.state.State.{State}
use Rattle.mqb_model.specs.state.Valid.{kept_messages, recoverable_messages}
use Rattle.mqb_packet.specs.declared.packet.Headers.TheVariants.{Session}
use Rattle.mqb_plain.specs.Lists.{messages_of, unsent}
use Rattle.mqb_plain.specs.Plain.{PlainLists, pushed}
use Rattle.mqb_snapshot.specs.Parts.{Parts}
use Rattle.mqb_snapshot.specs.Reading.{plain_joined, waiting_joined}
use Rattle.mqb_snapshot.proofs.FieldsRead.{flag_reads}
use Rattle.mqb_snapshot.proofs.Lists.{IsGrown, all_grown, changed_long, changed_to, grown_at_end, grown_behind, set_grown}
use Rattle.mqb_snapshot.proofs.MessagesRead.{IsOwnStored, own_reads}
use Rattle.mqb_snapshot.proofs.Readers.{Reads, behind, finished, list_reads, tested_reads}
use Rattle.mqb_snapshot.proofs.Sound.{IsSound, IsWaiting, own_more}

abbrev recoverable_in : PlainLists → List Message
recoverable_in l = messages_of l.recoverable

one_pushed : (m : Message) (l : PlainLists) → IsGrown m (recoverable_in l) (recoverable_in (pushed Durable m l))
one_pushed m l = subst (IsGrown m (recoverable_in l)) (sym (map-append (λ o. o.message) l.recoverable (unsent m ∷ []))) (grown_at_end m (recoverable_in l))

waiting_grown : (s : State) (k : ℕ) (m : Message) → IsGrown m (recoverable_messages s) (recoverable_messages (with_plain (pushed Durable m) s k))
waiting_grown s k m = changed_to (λ ls. IsGrown m (recoverable_messages s) (recoverable_messages (record s { plain = ls }))) (pushed Durable m) s.plain k (inl refl)
    (λ l got. set_grown recoverable_in m s.plain k l (pushed Durable m l) got (one_pushed m l))

plain_more : (k : ℕ) (p : Parts) (m : Message) → IsSound p → IsOwnStored p Session false m
    → IsSound (record p { state = with_plain (pushed Durable m) p.state k; numbers = p.numbers ++ m.id.number ∷ [] })
plain_more k p m is new = record {
  identity = is.identity;
  peers = is.peers;
  lists = changed_long (pushed Durable m) p.state.plain k ∙ is.lists;
  queues = is.queues;
  placed = is.placed;
  outs = is.outs;
  ins = is.ins;
  kept = is.kept;
  waiting = all_grown IsWaiting m _ _ (waiting_grown p.state k m) is.waiting ((new.0.carried, new.0.held), ap is_recoverable new.0.delivery);
  own = own_more p m _ _ (grown_behind m (kept_messages p.state) _ _ (waiting_grown p.state k m)) new.1 is.own;
}

plain_joins : (k : ℕ) (p : Parts) → IsSound p → Reads (plain_joined k p) IsSound
unfolding plain_joined
plain_joins k p is = record {
  gives = λ r x all e.
      behind IsSound (tested_reads not flag_reads) r _ x all e (λ transactional transactional_end is_flag transactional_left transactional_rest.
      behind IsSound (own_reads p Session false) transactional_end _ x transactional_left transactional_rest (λ message message_end is_message message_left message_rest.
      let m = message in
      finished IsSound (record p { state = with_plain (pushed Durable m) p.state k; numbers = p.numbers ++ m.id.number ∷ [] }) message_end x
      (plain_more k p m is is_message) message_left message_rest));
}

pub waiting_joins : (k : ℕ) (p : Parts) → IsSound p → Reads (waiting_joined k p) IsSound
unfolding waiting_joined
waiting_joins k p is = list_reads (λ n. IsSound) (λ n. plain_joins k) p (λ n few. is)
