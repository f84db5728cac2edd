-- What a store stands for, behind the words that read and change a state.
use Rattle.std.proofs.Common.{refl, ap, sym, ◌∙◌}
use Rattle.std.proofs.lemmas.List.{map-append}
use Rattle.std.specs.Option.{option_map_or}
use Rattle.std.specs.Prelude.{◌+◌, ◌∷◌, ◌≡◌, [], List, None, Option, Some, cond, false, map, option_map, true, ℕ}
use Rattle.mqb_base.specs.Lanes.{lane_of}
use Rattle.mqb_base.specs.Same.{same_guid, same_ignoring_case}
use Rattle.mqb_base.specs.declared.class.TheConstants.Class.{BAD_DESTINATION}
use Rattle.mqb_base.specs.declared.message.Delivery.{Delivery}
use Rattle.mqb_base.specs.declared.message.Delivery.TheVariants as delivery
use Rattle.mqb_base.specs.declared.message.Lane.TheVariants as lane
use Rattle.mqb_base.specs.declared.message.Message.{Message}
use Rattle.mqb_base.specs.declared.queue_names.QueueName.{QueueName}
use Rattle.mqb_base.specs.declared.queue_names.QueueName.TheVariants.{Direct, Private, Public}
use Rattle.mqb_base.specs.declared.queues.EntryPlace.{EntryPlace}
use Rattle.mqb_base.specs.declared.queues.EntryPlace.TheVariants as place
use Rattle.mqb_base.specs.declared.queues.Place.{Place}
use Rattle.mqb_base.specs.declared.queues.Place.TheVariants as named
use Rattle.mqb_queue.specs.Lists.{Lists, put}
use Rattle.mqb_queue.specs.Places.{Places, Queue, changed_at, found, lists_at, numbered, place_named, with_numbered}
use Rattle.mqb_plain.specs.Lists.{unsent}
use Rattle.mqb_plain.specs.Plain.{PlainLists, pushed}
use Rattle.mqb_plain.specs.declared.outgoing.Outgoing.{Outgoing}
use Rattle.mqb_model.specs.declared.target.Target.{Target}
use Rattle.mqb_model.specs.declared.target.Target.TheVariants.{AtPeer, Here, Nowhere}
use Rattle.mqb_model.specs.Lists.{number_at}
use Rattle.mqb_model.specs.rules.Arrivals.{target_refusal, refusal_by}
use Rattle.mqb_model.specs.state.Durable.{durable, durable_lists, durable_places, durable_plain, durable_queue}
use Rattle.mqb_model.specs.state.Places.{is_express, placed, put_at, with_place, with_plain}
use Rattle.mqb_model.specs.state.Resolving.{at_peer, at_queue, is_own_host, is_registered, peer_at, peer_known, resolved}
use Rattle.mqb_model.specs.state.State.{State}
use Rattle.mqb_model.proofs.Mapped.{changed_mapped, numbered_mapped, position_mapped, with_numbered_mapped}

-- Names lead to where they led.

pub found_same : (qs : List Queue) (name : List ℕ) → found (map durable_queue qs) name ≡ found qs name
found_same qs name = position_mapped (λ q. same_ignoring_case q.plan.name name) durable_queue qs

numbered_same : (qs : List Queue) (n : ℕ) → option_map (λ q. n) (numbered (map durable_queue qs) n) ≡ option_map (λ q. n) (numbered qs n)
numbered_same qs n = ap (option_map (λ q. n)) (numbered_mapped durable_queue qs n) ∙ at (numbered qs n)
  where
    at : (o : Option Queue) → option_map (λ q. n) (option_map durable_queue o) ≡ option_map (λ q. n) o
    at None = refl
    at (Some q) = refl

pub resolved_same : (s : State) (name : QueueName) → resolved (durable s) name ≡ resolved s name
resolved_same s (Public guid false) = ap (λ o. at_queue (number_at o)) (position_mapped (is_registered guid) durable_queue s.places.queues)
resolved_same s (Private qm number false) = ap (λ o. cond (same_guid qm s.identity.guid) (Here o) (at_peer (peer_known s qm))) (numbered_same s.places.queues number)
resolved_same s (Direct host queue false) = ap (λ o. cond (is_own_host s.identity host) (Here (number_at o)) (at_peer (peer_at s host))) (found_same s.places.queues queue)
resolved_same s name = refl

pub place_same : (s : State) (p : Place) → place_named (durable s).places.queues p ≡ place_named s.places.queues p
place_same s (named.Queue name) = ap (option_map (λ k. place.Queue (k + 1))) (found_same s.places.queues name)
place_same s (named.JournalOf name) = ap (option_map (λ k. place.JournalOf (k + 1))) (found_same s.places.queues name)
place_same s p = refl

-- Places.

of_queues : (read : Queue → Lists) → ((q : Queue) → read (durable_queue q) ≡ durable_lists (read q)) → (o : Option Queue)
    → option_map read (option_map durable_queue o) ≡ option_map durable_lists (option_map read o)
of_queues read same None = refl
of_queues read same (Some q) = ap Some (same q)

pub lists_same : (p : Places) (at : EntryPlace) → lists_at (durable_places p) at ≡ option_map durable_lists (lists_at p at)
lists_same p (place.Queue number) = ap (option_map (λ q. q.lists)) (numbered_mapped durable_queue p.queues number) ∙ of_queues (λ q. q.lists) (λ q. refl) (numbered p.queues number)
lists_same p (place.JournalOf number) = ap (option_map (λ q. q.journal)) (numbered_mapped durable_queue p.queues number) ∙ of_queues (λ q. q.journal) (λ q. refl) (numbered p.queues number)
lists_same p at = refl

-- a place of a queue is changed by lists that are given
with_queue_lists : (p : Places) (n : ℕ) (g : Lists → Lists) → ((l : Lists) → g (durable_lists l) ≡ durable_lists (g l)) → (o : Option Queue)
    → option_map_or (λ l. record (durable_places p) { queues = with_numbered (map durable_queue p.queues) n (λ q. record q { lists = g l }) })
    (option_map (λ q. q.lists) (option_map durable_queue o)) (durable_places p)
    ≡ durable_places (option_map_or (λ l. record p { queues = with_numbered p.queues n (λ q. record q { lists = g l }) }) (option_map (λ q. q.lists) o) p)
with_queue_lists p n g same None = refl
with_queue_lists p n g same (Some q) = ap (λ qs. record (durable_places p) { queues = qs })
    (with_numbered_mapped durable_queue (λ x. record x { lists = g q.lists }) (λ x. record x { lists = g (durable_lists q.lists) }) p.queues n
    (λ x. ap (λ l. record (durable_queue x) { lists = l }) (same q.lists)))

with_queue_journal : (p : Places) (n : ℕ) (g : Lists → Lists) → ((l : Lists) → g (durable_lists l) ≡ durable_lists (g l)) → (o : Option Queue)
    → option_map_or (λ l. record (durable_places p) { queues = with_numbered (map durable_queue p.queues) n (λ q. record q { journal = g l }) })
    (option_map (λ q. q.journal) (option_map durable_queue o)) (durable_places p)
    ≡ durable_places (option_map_or (λ l. record p { queues = with_numbered p.queues n (λ q. record q { journal = g l }) }) (option_map (λ q. q.journal) o) p)
with_queue_journal p n g same None = refl
with_queue_journal p n g same (Some q) = ap (λ qs. record (durable_places p) { queues = qs })
    (with_numbered_mapped durable_queue (λ x. record x { journal = g q.journal }) (λ x. record x { journal = g (durable_lists q.journal) }) p.queues n
    (λ x. ap (λ l. record (durable_queue x) { journal = l }) (same q.journal)))

pub changed_same : (p : Places) (at : EntryPlace) (g : Lists → Lists) → ((l : Lists) → g (durable_lists l) ≡ durable_lists (g l))
    → changed_at (durable_places p) at g ≡ durable_places (changed_at p at g)
changed_same p (place.Queue n) g same = ap (λ o. option_map_or (λ l. record (durable_places p) { queues = with_numbered (map durable_queue p.queues) n (λ q. record q { lists = g l }) })
    (option_map (λ q. q.lists) o) (durable_places p)) (numbered_mapped durable_queue p.queues n) ∙ with_queue_lists p n g same (numbered p.queues n)
changed_same p (place.JournalOf n) g same = ap (λ o. option_map_or (λ l. record (durable_places p) { queues = with_numbered (map durable_queue p.queues) n (λ q. record q { journal = g l }) })
    (option_map (λ q. q.journal) o) (durable_places p)) (numbered_mapped durable_queue p.queues n) ∙ with_queue_journal p n g same (numbered p.queues n)
changed_same p place.Dead g same = ap (λ l. record (durable_places p) { dead = l }) (same p.dead)
changed_same p place.DeadXact g same = ap (λ l. record (durable_places p) { dead_xact = l }) (same p.dead_xact)
changed_same p place.Journal g same = ap (λ l. record (durable_places p) { journal = l }) (same p.journal)

pub place_changed_same : (s : State) (at : EntryPlace) (g : Lists → Lists) → ((l : Lists) → g (durable_lists l) ≡ durable_lists (g l))
    → with_place g (durable s) at ≡ durable (with_place g s at)
place_changed_same s at g same = ap (λ p. record (durable s) { places = p }) (changed_same s.places at g same)

-- Messages that are not express.

pub clash : true ≡ false → ⊥
clash h = cc

pub put_same : (s : State) (at : EntryPlace) (m : Message) → is_express m.delivery ≡ false → put_at (durable s) at m ≡ durable (put_at s at m)
put_same s at m h = by m.delivery h
  where
    by : (d : Delivery) → is_express d ≡ false → with_place (put (lane_of d) m) (durable s) at ≡ durable (with_place (put (lane_of d) m) s at)
    by delivery.Express h = absurd (clash h)
    by delivery.Recoverable h = place_changed_same s at (put lane.Durable m) (λ l. refl)
    by delivery.Transactional h = place_changed_same s at (put lane.Durable m) (λ l. refl)

pub plain_changed_same : (s : State) (k : ℕ) (g : PlainLists → PlainLists) → ((p : PlainLists) → g (durable_plain p) ≡ durable_plain (g p))
    → with_plain g (durable s) k ≡ durable (with_plain g s k)
plain_changed_same s k g same = ap (λ ps. record (durable s) { plain = ps }) (changed_mapped durable_plain g g s.plain k same)

pushed_durable : (m : Message) (p : PlainLists) → pushed lane.Durable m (durable_plain p) ≡ durable_plain (pushed lane.Durable m p)
pushed_durable m p = ap with_recoverable (sym (map-append (λ (o : Outgoing). unsent o.message) p.recoverable (unsent m ∷ [])))
  where
    with_recoverable : List Outgoing → PlainLists
    with_recoverable items = record { recoverable = items; express = [] }

pushed_same : (s : State) (k : ℕ) (m : Message) → is_express m.delivery ≡ false
    → with_plain (pushed (lane_of m.delivery) m) (durable s) k ≡ durable (with_plain (pushed (lane_of m.delivery) m) s k)
pushed_same s k m h = by m.delivery h
  where
    by : (d : Delivery) → is_express d ≡ false → with_plain (pushed (lane_of d) m) (durable s) k ≡ durable (with_plain (pushed (lane_of d) m) s k)
    by delivery.Express h = absurd (clash h)
    by delivery.Recoverable h = plain_changed_same s k (pushed lane.Durable m) (pushed_durable m)
    by delivery.Transactional h = plain_changed_same s k (pushed lane.Durable m) (pushed_durable m)

pub placed_same : (s : State) (t : Target) (m : Message) → is_express m.delivery ≡ false → placed (durable s) t m ≡ durable (placed s t m)
placed_same s (Here None) m h = refl
placed_same s (Here (Some n)) m h = put_same s (place.Queue n) m h
placed_same s (AtPeer k) m h = pushed_same s k m h
placed_same s Nowhere m h = refl

-- Refusals.

by_same : (d : Delivery) (q : Queue) → is_express d ≡ false → refusal_by d (durable_queue q) ≡ refusal_by d q
by_same delivery.Express q h = absurd (clash h)
by_same delivery.Recoverable q h = refl
by_same delivery.Transactional q h = refl

pub refusal_same : (s : State) (t : Target) (d : Delivery) → is_express d ≡ false → target_refusal (durable s) t d ≡ target_refusal s t d
refusal_same s (Here (Some n)) d h = ap (λ o. option_map_or (refusal_by d) o (Some BAD_DESTINATION)) (numbered_mapped durable_queue s.places.queues n) ∙ at (numbered s.places.queues n)
  where
    at : (o : Option Queue) → option_map_or (refusal_by d) (option_map durable_queue o) (Some BAD_DESTINATION) ≡ option_map_or (refusal_by d) o (Some BAD_DESTINATION)
    at None = refl
    at (Some q) = by_same d q h
refusal_same s t d h = refl
