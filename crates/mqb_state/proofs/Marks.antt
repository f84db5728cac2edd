-- Whether plain messages count as sent, and which express number is next, makes no difference to whether a state is valid.
use Rattle.std.proofs.Common.{◌≡◌, ℕ, zero, suc, List, [], ◌∷◌, ◌++◌, length, map, set, Option, Some, None, refl, sym, ap, ◌∙◌, subst, cond, Bool, true, false}
use Rattle.std.proofs.lemmas.List.{length-map, length-set}
use Rattle.std.proofs.lemmas.Option.{same_Some}
use Rattle.std.specs.List.{All, AllPairs, flat_map}
use Rattle.std.specs.Option.{option_map_or}
use Rattle.std.specs.Prelude.{is_none, slice_get}
use Rattle.mqb_base.specs.Same.{same_id}
use Rattle.mqb_base.specs.declared.heads.SessionHead.{SessionHead}
use Rattle.mqb_base.specs.declared.message.Lane.TheVariants as lane
use Rattle.mqb_base.specs.declared.message.Message.{Message}
use Rattle.mqb_model.specs.Lists.{with_changed}
use Rattle.mqb_model.specs.managers.Beside.{Origin, all_unmarked, beside_done, noted_as, with_marked}
use Rattle.mqb_model.specs.managers.Beside as beside
use Rattle.mqb_model.specs.records.Packets.{is_recoverable}
use Rattle.mqb_model.specs.rules.Numbers.{express_after}
use Rattle.mqb_model.specs.state.State.{State}
use Rattle.mqb_model.specs.state.Valid.{IsCarried, IsOwn, IsValidState, kept_messages, recoverable_messages}
use Rattle.mqb_packet.specs.declared.packet.Headers.TheVariants as headers
use Rattle.mqb_plain.specs.Lists.{marked_next, messages_of, unmarked}
use Rattle.mqb_plain.specs.Plain.{PlainLists}
use Rattle.mqb_plain.specs.declared.outgoing.Outgoing.{Outgoing}

abbrev waiting : PlainLists → List Message
waiting p = messages_of p.recoverable

valid_with : (s : State) (ps : List PlainLists) (number : ℕ) → length ps ≡ length s.plain → flat_map waiting ps ≡ recoverable_messages s → IsValidState s
    → IsValidState (record s { plain = ps; next_express = number })
valid_with s ps number long same v = record {
  few_peers = v.few_peers;
  few_queues = v.few_queues;
  peers_differ = v.peers_differ;
  queues_differ = v.queues_differ;
  plain_lists = long ∙ v.plain_lists;
  hosts = v.hosts;
  ordinals_rise = v.ordinals_rise;
  ordinals_given = v.ordinals_given;
  rows = v.rows;
  sources_differ = v.sources_differ;
  outs_to_queues = v.outs_to_queues;
  ins_to_queues = v.ins_to_queues;
  kept = v.kept;
  plain = subst (λ ms. All (IsCarried headers.Session) ms) (sym same) v.plain;
  placed = v.placed;
  recoverable = subst (λ ms. All (λ m. is_recoverable m.delivery ≡ true) ms) (sym same) v.recoverable;
  durable = v.durable;
  next_number = v.next_number;
  next_ordinal = v.next_ordinal;
  settings = v.settings;
  own = subst (λ ms. All (IsOwn s.identity.guid s.next_number) (kept_messages s ++ ms)) (sym same) v.own;
  ids_differ = subst (λ ms. AllPairs (λ a b. same_id a.id b.id ≡ false) (kept_messages s ++ ms)) (sym same) v.ids_differ;
}

-- No message counts as sent.

unmarked_stay : (items : List Outgoing) → messages_of (unmarked items) ≡ messages_of items
unmarked_stay [] = refl
unmarked_stay (o ∷ items) = ap (λ ms. o.message ∷ ms) (unmarked_stay items)

all_stay : (ps : List PlainLists) → flat_map waiting (map all_unmarked ps) ≡ flat_map waiting ps
all_stay [] = refl
all_stay (p ∷ ps) = ap (λ ms. ms ++ flat_map waiting (map all_unmarked ps)) (unmarked_stay p.recoverable) ∙ ap (λ ms. waiting p ++ ms) (all_stay ps)

pub unmarked_valid : (s : State) → IsValidState s → IsValidState (beside_done beside.Unmarks s)
unmarked_valid s v = valid_with s (map all_unmarked s.plain) s.next_express (length-map s.plain all_unmarked) (all_stay s.plain) v

-- One message more does.

marked_stay : (number : ℕ) (items : List Outgoing) → messages_of (marked_next number items) ≡ messages_of items
marked_stay number [] = refl
marked_stay number (o ∷ items) = by (is_none o.mark) (marked_stay number items)
  where
    by : (b : Bool) → messages_of (marked_next number items) ≡ messages_of items
        → messages_of (cond b (record o { mark = Some number } ∷ items) (o ∷ marked_next number items)) ≡ messages_of (o ∷ items)
    by true rest = refl
    by false rest = ap (λ ms. o.message ∷ ms) rest

set_stays : (ps : List PlainLists) (k : ℕ) (p q : PlainLists) → slice_get ps k ≡ Some p → waiting q ≡ waiting p → flat_map waiting (set ps k q) ≡ flat_map waiting ps
set_stays [] k p q is same = refl
set_stays (x ∷ ps) zero p q is same = ap (λ ms. ms ++ flat_map waiting ps) (same ∙ ap waiting (sym (same_Some x p is)))
set_stays (x ∷ ps) (suc k) p q is same = ap (λ ms. waiting x ++ ms) (set_stays ps k p q is same)

changed_stays : (change : PlainLists → PlainLists) → ((p : PlainLists) → waiting (change p) ≡ waiting p) → (ps : List PlainLists) (k : ℕ)
    → flat_map waiting (with_changed change ps k) ≡ flat_map waiting ps
changed_stays change same ps k = by (slice_get ps k) refl
  where
    by : (o : Option PlainLists) → slice_get ps k ≡ o → flat_map waiting (option_map_or (λ p. set ps k (change p)) o ps) ≡ flat_map waiting ps
    by None is = refl
    by (Some p) is = set_stays ps k p (change p) is (same p)

changed_long : (change : PlainLists → PlainLists) (ps : List PlainLists) (k : ℕ) → length (with_changed change ps k) ≡ length ps
changed_long change ps k = by (slice_get ps k)
  where
    by : (o : Option PlainLists) → length (option_map_or (λ p. set ps k (change p)) o ps) ≡ length ps
    by None = refl
    by (Some p) = length-set ps k (change p)

changed_valid : (s : State) (change : PlainLists → PlainLists) (k : ℕ) → ((p : PlainLists) → waiting (change p) ≡ waiting p) → IsValidState s
    → IsValidState (record s { plain = with_changed change s.plain k })
changed_valid s change k same v =
    valid_with s (with_changed change s.plain k) s.next_express (changed_long change s.plain k) (changed_stays change same s.plain k) v

pub noted_valid : (peer : ℕ) (head : SessionHead) (s : State) (from : Origin) → IsValidState s → IsValidState (noted_as peer head s from)
noted_valid peer head s (beside.Owed row) v = valid_with s s.plain (express_after s.next_express) refl refl v
noted_valid peer head s beside.OfRecoverable v =
    changed_valid s (with_marked lane.Durable head.recoverable) peer (λ p. marked_stay head.recoverable p.recoverable) v
noted_valid peer head s beside.OfExpress v = changed_valid s (with_marked lane.Express head.user) peer (λ p. refl) v
noted_valid peer head s (beside.OfRow row number) v = v
