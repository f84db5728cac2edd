-- What is read of a queue by its number.
use Rattle.std.proofs.Common.{refl, ap, ap₂, sym, ◌∙◌, arith, length, zero, suc}
use Rattle.std.proofs.lemmas.Option.{none-some, same_Some}
use Rattle.std.proofs.lemmas.List.Elements.{All-push}
use Rattle.std.specs.Option.{option_map_or}
use Rattle.std.specs.Prelude.{[], ◌++◌, ◌<◌, ◌∷◌, ◌≡◌, All, Err, List, None, Option, Some, is_some, option_and_then, option_map, slice_get, true, ℕ}
use Rattle.mqb_base.specs.declared.message.Lane.TheVariants as lane
use Rattle.mqb_base.specs.declared.message.Message.{Message}
use Rattle.mqb_base.specs.declared.queues.QueuePlan.{QueuePlan}
use Rattle.mqb_queue.specs.Lists.{count, messages_in}
use Rattle.mqb_queue.specs.Places.{Queue}
use Rattle.mqb_model.specs.declared.faults.OpFault.TheVariants as op_fault
use Rattle.mqb_trying.specs.declared.notes.PlannedOp.{PlannedOp}
use Rattle.mqb_trying.specs.declared.notes.Take.{Take}
use Rattle.mqb_trying.specs.Notes.{IsWritable}
use Rattle.mqb_trying.specs.Sends.{put_by, put_route}
use Rattle.mqb_trying.specs.Takes.{durable, take_by, take_from}

pub none_is : {X Y Z : Type 0} (f : X → Y) (g : X → Z) (d : Z) (o : Option X) → None ≡ option_map f o → d ≡ option_map_or g o d
none_is f g d None e = refl
none_is f g d (Some x) e = absurd (none-some (f x) e)

pub route_is : (puts : List ℕ) (n : ℕ) (plan : QueuePlan) (len : ℕ) (o : Option Queue) → Some plan ≡ option_map (λ q. q.plan) o → Some len ≡ option_map count (option_map (λ q. q.lists) o)
    → put_by plan len puts n ≡ option_map_or (put_route puts n) o (Err op_fault.NoQueue)
route_is puts n plan len None a b = absurd (none-some plan (sym a))
route_is puts n plan len (Some q) a b = ap₂ (λ (plan : QueuePlan) (len : ℕ). put_by plan len puts n) (same_Some plan q.plan a) (same_Some len (count q.lists) b)

pub take_is : (takes : List Take) (now n : ℕ) (plan : QueuePlan) (ms : List Message) (o : Option Queue) → Some plan ≡ option_map (λ q. q.plan) o → Some ms ≡ option_map durable o
    → take_by takes now n plan.transactional ms ≡ option_map_or (take_from takes now n) o (Err op_fault.NoQueue)
take_is takes now n plan ms None a b = absurd (none-some plan (sym a))
take_is takes now n plan ms (Some q) a b = ap₂ (λ (plan : QueuePlan) (ms : List Message). take_by takes now n plan.transactional ms) (same_Some plan q.plan a) (same_Some ms (durable q) b)

within_is : {X : Type 0} (xs : List X) (k : ℕ) → k < length xs → is_some (slice_get xs k) ≡ true
within_is [] k lt = absurd (omega (arith, lt))
within_is (x ∷ xs) zero lt = refl
within_is (x ∷ xs) (suc k) lt = within_is xs k (omega (arith, lt))

pub message_there : (k : ℕ) (ms : List Message) (o : Option Queue) → Some ms ≡ option_map durable o → k < length ms → is_some (option_and_then (λ q. slice_get q.lists.durable k) o) ≡ true
message_there k ms None a lt = absurd (none-some ms (sym a))
message_there k ms (Some q) a lt = ap (λ ms. is_some (slice_get ms k)) (sym (same_Some ms (durable q) a)) ∙ within_is ms k lt

pub durable_is : (o : Option Queue) → option_map (messages_in lane.Durable) (option_map (λ q. q.lists) o) ≡ option_map durable o
durable_is None = refl
durable_is (Some q) = refl

pub written : (ops : List PlannedOp) (op : PlannedOp) → All IsWritable ops → IsWritable op → All IsWritable (ops ++ op ∷ [])
written ops op h one = All-push IsWritable ops op h one
