-- The last queue has a name that no other has.
use Rattle.std.proofs.Common.{◌≡◌, ℕ, ◌<◌, ◌-◌, false, List, length, get_or, map, take, None, Some, sym, ap, ◌∙◌, arith}
use Rattle.std.proofs.lemmas.List.{get_or-map, get_or-take, length-map, length-take}
use Rattle.std.proofs.lemmas.List.Elements.{All-from_get_or}
use Rattle.std.proofs.lemmas.Option.{get_or_from_slice_get, slice_get_within}
use Rattle.mqb_base.specs.Same.{same_ignoring_case}
use Rattle.mqb_base.specs.declared.queues.QueuePlan.{QueuePlan}
use Rattle.mqb_queue.proofs.Positions.{passes_none}
use Rattle.mqb_queue.specs.Places.{NamesDiffer, Queue, found, new_queue}
use Rattle.mqb_tables.specs.Ends.{last_of, without_last}

pub last_name : (queues : List Queue) (plan : QueuePlan) → NamesDiffer queues → last_of queues ≡ Some (new_queue plan) → found (without_last queues) plan.name ≡ None
last_name queues plan differ last =
    passes_none (λ q. same_ignoring_case q.plan.name plan.name) (without_last queues)
    (All-from_get_or (λ q. same_ignoring_case q.plan.name plan.name ≡ false) (without_last queues) (new_queue plan) (λ i within. apart i within))
  where
    n : ℕ
    n = length queues - 1

    name_of : Queue → List ℕ
    name_of q = q.plan.name

    inside : n < length queues
    inside = slice_get_within queues n (new_queue plan) last

    last_is : get_or (map name_of queues) n plan.name ≡ plan.name
    last_is = get_or-map name_of queues n (new_queue plan) plan.name inside ∙ ap name_of (get_or_from_slice_get queues n (new_queue plan) (new_queue plan) last)

    apart : (i : ℕ) → i < length (take n queues) → same_ignoring_case (name_of (get_or (take n queues) i (new_queue plan))) plan.name ≡ false
    apart i within =
        let before : i < n = omega (arith, within, length-take n queues, inside) in
        let there : i < length queues = omega (arith, before, inside) in
        ap (λ (q : Queue). same_ignoring_case q.plan.name plan.name) (get_or-take n queues i (new_queue plan) before)
        ∙ (ap (λ (name : List ℕ). same_ignoring_case name plan.name) (sym (get_or-map name_of queues i (new_queue plan) plan.name there))
        ∙ (ap (λ (name : List ℕ). same_ignoring_case (get_or (map name_of queues) i plan.name) name) (sym last_is)
        ∙ differ i n plan.name before (omega (arith, inside, length-map queues name_of))))
