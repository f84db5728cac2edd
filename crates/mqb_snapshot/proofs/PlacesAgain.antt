-- The messages of all places are read as they are spelled.
use Rattle.std.proofs.Common.{◌≡◌, ◌<◌, ◌+◌, ◌^◌, ℕ, false, List, [], ◌∷◌, ◌++◌, length, map, Option, Ok, refl, sym, ap, subst, ◌∙◌, append_assoc}
use Rattle.std.proofs.lemmas.List.{append-nil, length-map, map-append}
use Rattle.std.proofs.lemmas.List.Elements.{recursion_from_All}
use Rattle.std.specs.List.{AllByRecursion, flat_map}
use Rattle.std.specs.Option.{option_map, option_map_or}
use Rattle.std.specs.Prelude.{All}
use Rattle.mqb_base.specs.Lanes.{lane_of}
use Rattle.mqb_base.specs.declared.message.Delivery.{Delivery}
use Rattle.mqb_base.specs.declared.message.Delivery.TheVariants as delivery
use Rattle.mqb_base.specs.declared.message.Lane.{Lane}
use Rattle.mqb_base.specs.declared.message.Lane.TheVariants as lane
use Rattle.mqb_base.specs.declared.message.Message.{Message}
use Rattle.mqb_base.specs.declared.queues.EntryPlace.{EntryPlace}
use Rattle.mqb_base.specs.declared.queues.EntryPlace.TheVariants as place
use Rattle.mqb_base.specs.declared.queues.QueuePlan.{QueuePlan}
use Rattle.mqb_entries.specs.lemmas.FieldFormats.{flag_format}
use Rattle.mqb_entries.specs.Fields.{flag_at}
use Rattle.mqb_entries.specs.Spelled.{spelled_flag, spelled_packet}
use Rattle.mqb_fate.specs.Asking.{is_transactional}
use Rattle.mqb_fields.specs.Reading.{◌>>=◌}
use Rattle.mqb_model.specs.state.Durable.{durable_places, durable_queue}
use Rattle.mqb_model.specs.state.Places.{is_express, put_at}
use Rattle.mqb_model.specs.state.State.{State}
use Rattle.mqb_model.specs.state.Valid.{IsCarried}
use Rattle.mqb_packet.specs.Plain.{plain_user_packet}
use Rattle.mqb_packet.specs.declared.packet.Headers.TheVariants.{Bare}
use Rattle.mqb_queue.specs.Lists.{Lists, put}
use Rattle.mqb_queue.specs.Places.{Places, Queue, changed_at, nothing, with_lists}
use Rattle.mqb_snapshot.proofs.Backs.{IsReadAs, JoinsEach, append_push, each_joined_read, list_joined_read, of_format, same_text, same_value, seen_read, then_read}
use Rattle.mqb_snapshot.proofs.Carried.{append_left, append_right, each_of}
use Rattle.mqb_snapshot.proofs.FieldsAgain.{message_read, not_express}
use Rattle.mqb_snapshot.proofs.Members.{all_here, here, numbered_changed, numbered_here}
use Rattle.mqb_snapshot.proofs.PeersAgain.{emptied}
use Rattle.mqb_snapshot.specs.Fields.{message_at}
use Rattle.mqb_snapshot.specs.Parts.{Parts, each_joined}
use Rattle.mqb_snapshot.specs.Reading.{held_joined, place_joined, placed_joined, places_joined}
use Rattle.mqb_snapshot.specs.Spelled.{spelled_message, spelled_messages, spelled_places, spelled_queue, stored}
use Rattle.mqb_snapshot.specs.Values.{AreHeld, ArePlaces, IsHeld, IsQueue}

-- Messages of places.

abbrev pub IsPlaced : Message → Type 0
IsPlaced m = IsCarried Bare m × (is_express m.delivery ≡ false)

-- a message of a place that can be read
abbrev IsStanding : Message → Type 0
IsStanding m = IsPlaced m × IsHeld m

-- messages of a place that can be read, and their count
abbrev AreStanding : List Message → Type 0
AreStanding ms = (length ms < 2 ^ 32) × AllByRecursion IsStanding ms

stand : (ms : List Message) → All IsPlaced ms → AreHeld ms → AreStanding ms
stand ms p h = (h.few, recursion_from_All IsStanding ms (λ k d lt. (p k d lt, h.each k d lt)))

placed_read : (at : EntryPlace) (p : Parts) (m : Message) → IsStanding m → IsReadAs (placed_joined at p) (spelled_message m) (record p { state = put_at p.state at m })
unfolding placed_joined
placed_read at p m s = then_read {Y = Parts} flag_at (λ flag r. message_at Bare flag r >>= λ message. Ok (record p { state = put_at p.state at message.0 }, message.1))
    (spelled_flag (is_transactional m.delivery)) (spelled_packet (plain_user_packet (stored m))) (is_transactional m.delivery) (record p { state = put_at p.state at m })
    (of_format flag_format (is_transactional m.delivery) tt)
    (seen_read {Y = Parts} (message_at Bare (is_transactional m.delivery)) (λ message. record p { state = put_at p.state at message }) (spelled_packet (plain_user_packet (stored m))) m
    (message_read Bare m s.0.0 s.1 (not_express m.delivery s.0.1)))

lane_is : (d : Delivery) → is_express d ≡ false → lane_of d ≡ lane.Durable
lane_is delivery.Express e = absurd (let none : ⊥ = cc in none)
lane_is delivery.Recoverable e = refl
lane_is delivery.Transactional e = refl

-- parts with these places
abbrev pub with_places : State → List ℕ → Places → Parts
with_places s numbers p = record { state = record s { places = p }; numbers = numbers }

put_durably : (s : State) (numbers : List ℕ) (p q : Places) (at : EntryPlace) (m : Message) → is_express m.delivery ≡ false → changed_at p at (put lane.Durable m) ≡ q
    → with_places s numbers (changed_at p at (put (lane_of m.delivery) m)) ≡ with_places s numbers q
put_durably s numbers p q at m e grows = ap (λ (l : Lane). with_places s numbers (changed_at p at (put l m))) (lane_is m.delivery e) ∙ ap (with_places s numbers) grows

-- one place after another message joins it
abbrev Grows : EntryPlace → (List Message → Places) → Type 0
Grows at P = (ms : List Message) (m : Message) → changed_at (P ms) at (put lane.Durable m) ≡ P (ms ++ m ∷ [])

place_read : (at : EntryPlace) (P : List Message → Places) → Grows at P → (s : State) (numbers : List ℕ) (ds : List Message) → AreStanding ds
    → IsReadAs (place_joined at (with_places s numbers (P []))) (spelled_messages ds) (with_places s numbers (P ds))
unfolding place_joined
place_read at P grows s numbers ds are = list_joined_read (placed_joined at) spelled_message (λ ms behind. with_places s numbers (P ms)) ds are.0 (λ before m behind e.
    let one = all_here IsStanding before m behind (subst (AllByRecursion IsStanding) e are.1) in
    same_value (placed_joined at (with_places s numbers (P before))) (spelled_message m) _ _ (put_durably s numbers (P before) (P (before ++ m ∷ [])) at m one.0.1 (grows before m))
    (placed_read at (with_places s numbers (P before)) m one))

-- Queues.

abbrev pub held : List Message → Lists
held ms = record { durable = ms; express = [] }

abbrev queue_with : QueuePlan → List Message → List Message → Queue
queue_with plan a b = record { plan = plan; lists = held a; journal = held b }

abbrev among : List Queue → Queue → List Queue → Places
among front q behind = record nothing { queues = front ++ (q ∷ behind) }

queue_grows : (front behind : List Queue) (plan : QueuePlan) → Grows (place.Queue (length front + 1)) (λ ms. among front (queue_with plan ms []) behind)
queue_grows front behind plan ms m =
    ap (λ (o : Option Queue). option_map_or (λ l. with_lists (among front (queue_with plan ms []) behind) (place.Queue (length front + 1)) (put lane.Durable m l)) (option_map (λ q. q.lists) o)
    (among front (queue_with plan ms []) behind)) (numbered_here front (queue_with plan ms []) behind)
    ∙ ap (λ (qs : List Queue). record nothing { queues = qs }) (numbered_changed (λ q. record q { lists = held (ms ++ m ∷ []) }) front (queue_with plan ms []) behind)

journal_grows : (front behind : List Queue) (plan : QueuePlan) (a : List Message) → Grows (place.JournalOf (length front + 1)) (λ ms. among front (queue_with plan a ms) behind)
journal_grows front behind plan a ms m =
    ap (λ (o : Option Queue). option_map_or (λ l. with_lists (among front (queue_with plan a ms) behind) (place.JournalOf (length front + 1)) (put lane.Durable m l)) (option_map (λ q. q.journal) o)
    (among front (queue_with plan a ms) behind)) (numbered_here front (queue_with plan a ms) behind)
    ∙ ap (λ (qs : List Queue). record nothing { queues = qs }) (numbered_changed (λ q. record q { journal = held (ms ++ m ∷ []) }) front (queue_with plan a ms) behind)

queue_read : (s : State) (numbers : List ℕ) (front behind : List Queue) (plan : QueuePlan) (a b : List Message) → AreStanding a → AreStanding b
    → IsReadAs (held_joined (length front) (with_places s numbers (among front (queue_with plan [] []) behind))) (spelled_messages a ++ spelled_messages b)
    (with_places s numbers (among front (queue_with plan a b) behind))
unfolding held_joined
queue_read s numbers front behind plan a b one two = then_read (place_joined (place.Queue (length front + 1)) (with_places s numbers (among front (queue_with plan [] []) behind)))
    (place_joined (place.JournalOf (length front + 1))) (spelled_messages a) (spelled_messages b) (with_places s numbers (among front (queue_with plan a []) behind))
    (with_places s numbers (among front (queue_with plan a b) behind))
    (place_read (place.Queue (length front + 1)) (λ ms. among front (queue_with plan ms []) behind) (queue_grows front behind plan) s numbers a one)
    (place_read (place.JournalOf (length front + 1)) (λ ms. among front (queue_with plan a ms) behind) (journal_grows front behind plan a) s numbers b two)

-- places with these queues, of which those behind have no messages yet
abbrev queues_with : State → List ℕ → List Queue → List Queue → Parts
queues_with s numbers before behind = with_places s numbers (record nothing { queues = map durable_queue before ++ map emptied behind })

-- what a queue and its journal hold can be read
abbrev HasStanding : Queue → Type 0
HasStanding q = AreStanding q.lists.durable × AreStanding q.journal.durable

one_more : (before : List Queue) (q : Queue) (behind : List Queue) → map durable_queue before ++ (durable_queue q ∷ map emptied behind) ≡ map durable_queue (before ++ q ∷ []) ++ map emptied behind
one_more before q behind = append_push (map durable_queue before) (durable_queue q) (map emptied behind)
    ∙ ap (λ (qs : List Queue). qs ++ map emptied behind) (sym (map-append durable_queue before (q ∷ [])))

queue_joins : (s : State) (numbers : List ℕ) (queues : List Queue) → All HasStanding queues → JoinsEach held_joined spelled_queue (queues_with s numbers) queues
queue_joins s numbers queues are before q behind e =
    subst (λ (n : ℕ). IsReadAs (held_joined n (queues_with s numbers before (q ∷ behind))) (spelled_queue q) (queues_with s numbers (before ++ q ∷ []) behind)) (length-map before durable_queue)
    (same_value (held_joined (length (map durable_queue before)) (queues_with s numbers before (q ∷ behind))) (spelled_queue q) _ _
    (ap (λ (qs : List Queue). with_places s numbers (record nothing { queues = qs })) (one_more before q behind))
    (queue_read s numbers (map durable_queue before) (map emptied behind) q.plan q.lists.durable q.journal.durable has.0 has.1))
  where
    has : HasStanding q
    has = here HasStanding queues before q behind e are

queues_read : (s : State) (numbers : List ℕ) (queues : List Queue) → All HasStanding queues
    → IsReadAs (each_joined (length (map emptied queues)) 0 held_joined (with_places s numbers (record nothing { queues = map emptied queues }))) (flat_map spelled_queue queues)
    (with_places s numbers (record nothing { queues = map durable_queue queues }))
queues_read s numbers queues are =
    subst (λ (n : ℕ). IsReadAs (each_joined n 0 held_joined (queues_with s numbers [] queues)) (flat_map spelled_queue queues)
    (with_places s numbers (record nothing { queues = map durable_queue queues }))) (sym (length-map queues emptied))
    (same_value (each_joined (length queues) 0 held_joined (queues_with s numbers [] queues)) (flat_map spelled_queue queues) _ _
    (ap (λ (qs : List Queue). with_places s numbers (record nothing { queues = qs })) (append-nil (map durable_queue queues)))
    (each_joined_read held_joined spelled_queue (queues_with s numbers) queues (queue_joins s numbers queues are)))

-- All places.

four_parts : (a b c d : List ℕ) → a ++ (b ++ (c ++ d)) ≡ a ++ b ++ c ++ d
four_parts a b c d = simp append_assoc

queue_stands : (q : Queue) → All IsPlaced (q.lists.durable ++ q.journal.durable) → IsQueue q → HasStanding q
queue_stands q p h = (
  stand q.lists.durable (append_left IsPlaced q.lists.durable q.journal.durable p) h.lists,
  stand q.journal.durable (append_right IsPlaced q.lists.durable q.journal.durable p) h.journal,
)

-- the places whose queues have these messages, and that have these besides
abbrev places_with : List Queue → List Message → List Message → List Message → Places
places_with queues dead dead_xact journal = record { queues = queues; dead = held dead; dead_xact = held dead_xact; journal = held journal }

-- the durable messages of places
abbrev messages_of : Places → List Message
messages_of p = flat_map (λ q. q.lists.durable ++ q.journal.durable) p.queues ++ p.dead.durable ++ p.dead_xact.durable ++ p.journal.durable

pub places_read : (s : State) (numbers : List ℕ) (p : Places) → All IsPlaced (messages_of p) → ArePlaces p
    → IsReadAs (places_joined (with_places s numbers (record nothing { queues = map emptied p.queues }))) (spelled_places p) (with_places s numbers (durable_places p))
unfolding places_joined
places_read s numbers p are values = same_text (places_joined (with_places s numbers (record nothing { queues = map emptied p.queues }))) _ (spelled_places p) (with_places s numbers (durable_places p))
    (four_parts (flat_map spelled_queue p.queues) (spelled_messages p.dead.durable) (spelled_messages p.dead_xact.durable) (spelled_messages p.journal.durable))
    (then_read _ (λ queues r. place_joined place.Dead queues r >>= λ dead. place_joined place.DeadXact dead.0 dead.1 >>= λ dead_xact. place_joined place.Journal dead_xact.0 dead_xact.1)
    _ _ _ _ (queues_read s numbers p.queues in_queues)
    (then_read _ (λ dead r. place_joined place.DeadXact dead r >>= λ dead_xact. place_joined place.Journal dead_xact.0 dead_xact.1)
    (spelled_messages p.dead.durable) (spelled_messages p.dead_xact.durable ++ spelled_messages p.journal.durable) _ _ (place_read place.Dead (λ ms. places_with queues ms [] []) (λ ms m. refl) s numbers p.dead.durable (stand p.dead.durable two values.dead))
    (then_read _ (place_joined place.Journal)
    (spelled_messages p.dead_xact.durable) (spelled_messages p.journal.durable) _ _ (place_read place.DeadXact (λ ms. places_with queues p.dead.durable ms []) (λ ms m. refl) s numbers p.dead_xact.durable (stand p.dead_xact.durable three values.dead_xact))
    (place_read place.Journal (λ ms. places_with queues p.dead.durable p.dead_xact.durable ms) (λ ms m. refl) s numbers p.journal.durable (stand p.journal.durable four values.journal)))))
  where
    queues : List Queue
    queues = map durable_queue p.queues

    up_to_three : All IsPlaced (flat_map (λ q. q.lists.durable ++ q.journal.durable) p.queues ++ p.dead.durable ++ p.dead_xact.durable)
    up_to_three = append_left IsPlaced (flat_map (λ q. q.lists.durable ++ q.journal.durable) p.queues ++ p.dead.durable ++ p.dead_xact.durable) p.journal.durable are

    up_to_two : All IsPlaced (flat_map (λ q. q.lists.durable ++ q.journal.durable) p.queues ++ p.dead.durable)
    up_to_two = append_left IsPlaced (flat_map (λ q. q.lists.durable ++ q.journal.durable) p.queues ++ p.dead.durable) p.dead_xact.durable up_to_three

    four : All IsPlaced p.journal.durable
    four = append_right IsPlaced (flat_map (λ q. q.lists.durable ++ q.journal.durable) p.queues ++ p.dead.durable ++ p.dead_xact.durable) p.journal.durable are

    three : All IsPlaced p.dead_xact.durable
    three = append_right IsPlaced (flat_map (λ q. q.lists.durable ++ q.journal.durable) p.queues ++ p.dead.durable) p.dead_xact.durable up_to_three

    two : All IsPlaced p.dead.durable
    two = append_right IsPlaced (flat_map (λ q. q.lists.durable ++ q.journal.durable) p.queues) p.dead.durable up_to_two

    in_queues : All HasStanding p.queues
    in_queues k d lt = queue_stands _ (each_of IsPlaced (λ q. q.lists.durable ++ q.journal.durable) p.queues
        (append_left IsPlaced (flat_map (λ q. q.lists.durable ++ q.journal.durable) p.queues) p.dead.durable up_to_two) k d lt) (values.queues k d lt)
