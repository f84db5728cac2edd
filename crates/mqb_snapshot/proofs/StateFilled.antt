-- The state that bytes are read as has nothing beside what a store stands for, and its lists are counted.
use Rattle.std.proofs.Common.{◌≡◌, ℕ, List, [], ◌∷◌, map, refl, sym, ap, ap₂, ◌∙◌}
use Rattle.std.specs.List.{AllByRecursion}
use Rattle.mqb_base.specs.declared.ids.Identity.{Identity}
use Rattle.mqb_model.specs.declared.limits.TheConstants.{FIRST_EXPRESS, MAX_PEERS, MAX_QUEUES, MAX_ROLL}
use Rattle.mqb_model.specs.records.Peer.{with_new_queue, with_peer}
use Rattle.mqb_model.specs.state.Durable.{durable, durable_lists, durable_places, durable_plain, durable_queue}
use Rattle.mqb_model.specs.state.State.{empty}
use Rattle.mqb_plain.specs.Plain.{PlainLists, no_plain}
use Rattle.mqb_queue.specs.Lists.{Lists}
use Rattle.mqb_queue.specs.Places.{Places, Queue, new_queue}
use Rattle.mqb_snapshot.specs.Parts.{Parts}
use Rattle.mqb_snapshot.specs.Reading.{counters_joined, is_next, is_next_ordinal, parts_joined, peer_joined, peers_joined, queue_joined, queues_joined}
use Rattle.mqb_snapshot.specs.Values.{IsCounted}
use Rattle.mqb_snapshot.proofs.FieldsRead.{within_reads, word_reads}
use Rattle.mqb_snapshot.proofs.Lists.{all_pushed}
use Rattle.mqb_snapshot.proofs.PeersSound.{peer_reads, plan_reads}
use Rattle.mqb_snapshot.proofs.PlacesFilled.{HasFew, IsEmpty, IsEmptyQueue, IsFilled, IsFullQueue, places_fill}
use Rattle.mqb_snapshot.proofs.PlainFilled.{IsEmptyPlain, IsFullPlain, all_waiting_fill}
use Rattle.mqb_snapshot.proofs.Readers.{Reads, behind, finished, joined_reads, tested_reads}
use Rattle.mqb_snapshot.proofs.RowsFilled.{AreCountedOuts, RowsFilled, rows_fill, sources_fill}

-- Peers and queues: nothing is filled.

abbrev NoRows : {X : Type 0} → List X → Type 0
NoRows rows = rows ≡ []

abbrev IsFresh : Parts → Type 0
IsFresh p = IsFilled (AllByRecursion IsEmptyQueue) IsEmpty IsEmpty IsEmpty (AllByRecursion IsEmptyPlain) NoRows NoRows p

peer_fresh : (n : ℕ) (p : Parts) → IsFresh p → Reads (peer_joined p) IsFresh
unfolding peer_joined
peer_fresh n p is = record {
  gives = λ r x all e.
      behind IsFresh (peer_reads p.state) r _ x all e (λ peer peer_end is_peer peer_left peer_rest.
      finished IsFresh (record p { state = with_peer p.state peer }) peer_end x (record {
        queues = is.queues;
        dead = is.dead;
        dead_xact = is.dead_xact;
        journal = is.journal;
        plain = all_pushed IsEmptyPlain p.state.plain no_plain is.plain refl;
        outs = is.outs;
        ins = is.ins;
        express = is.express;
      }) peer_left peer_rest);
}

peers_fresh : (p : Parts) → IsFresh p → Reads (peers_joined p) IsFresh
unfolding peers_joined
peers_fresh p is = record {
  gives = λ r x all e.
      behind IsFresh (within_reads 0 MAX_PEERS) r _ x all e (λ count count_end is_count count_left count_rest.
      (joined_reads (λ n. IsFresh) peer_fresh count p is).gives count_end x count_left count_rest);
}

queue_fresh : (n : ℕ) (p : Parts) → IsFresh p → Reads (queue_joined p) IsFresh
unfolding queue_joined
queue_fresh n p is = record {
  gives = λ r x all e.
      behind IsFresh (plan_reads p.state) r _ x all e (λ plan plan_end is_plan plan_left plan_rest.
      finished IsFresh (record p { state = with_new_queue p.state plan }) plan_end x (record {
        queues = all_pushed IsEmptyQueue p.state.places.queues (new_queue plan) is.queues (refl, refl);
        dead = is.dead;
        dead_xact = is.dead_xact;
        journal = is.journal;
        plain = is.plain;
        outs = is.outs;
        ins = is.ins;
        express = is.express;
      }) plan_left plan_rest);
}

queues_fresh : (p : Parts) → IsFresh p → Reads (queues_joined p) IsFresh
unfolding queues_joined
queues_fresh p is = record {
  gives = λ r x all e.
      behind IsFresh (within_reads 0 MAX_QUEUES) r _ x all e (λ count count_end is_count count_left count_rest.
      (joined_reads (λ n. IsFresh) queue_fresh count p is).gives count_end x count_left count_rest);
}

-- All parts.

-- all is filled
abbrev pub IsComplete : Parts → Type 0
IsComplete = RowsFilled AreCountedOuts IsCounted

counters_complete : (p : Parts) → IsComplete p → Reads (counters_joined p) IsComplete
unfolding counters_joined
counters_complete p is = record {
  gives = λ r x all e.
      behind IsComplete (tested_reads (is_next p.numbers) word_reads) r _ x all e (λ number number_end is_number number_left number_rest.
      behind IsComplete (tested_reads (is_next_ordinal p.state) word_reads) number_end _ x number_left number_rest (λ ordinal ordinal_end is_ordinal ordinal_left ordinal_rest.
      behind IsComplete (within_reads 1 MAX_ROLL) ordinal_end _ x ordinal_left ordinal_rest (λ roll roll_end is_roll roll_left roll_rest.
      finished IsComplete (record p { state = record p.state { next_number = number; next_ordinal = ordinal; roll = roll } }) roll_end x (record {
        queues = is.queues;
        dead = is.dead;
        dead_xact = is.dead_xact;
        journal = is.journal;
        plain = is.plain;
        outs = is.outs;
        ins = is.ins;
        express = is.express;
      }) roll_left roll_rest)));
}

pub parts_complete : (own : Identity) → Reads (parts_joined (record { state = empty own; numbers = [] })) IsComplete
unfolding parts_joined
parts_complete own = record {
  gives = λ r x all e.
      behind IsComplete (peers_fresh (record { state = empty own; numbers = [] }) nothing_filled) r _ x all e (λ peers peers_end is_peers peers_left peers_rest.
      behind IsComplete (queues_fresh peers is_peers) peers_end _ x peers_left peers_rest (λ queues queues_end is_queues queues_left queues_rest.
      behind IsComplete (places_fill (AllByRecursion IsEmptyPlain) NoRows NoRows queues is_queues) queues_end _ x queues_left queues_rest (λ places places_end is_places places_left places_rest.
      behind IsComplete (all_waiting_fill NoRows NoRows places is_places) places_end _ x places_left places_rest (λ plain plain_end is_plain plain_left plain_rest.
      behind IsComplete (rows_fill NoRows plain is_plain) plain_end _ x plain_left plain_rest (λ outs outs_end is_outs outs_left outs_rest.
      behind IsComplete (sources_fill outs is_outs) outs_end _ x outs_left outs_rest (λ ins ins_end is_ins ins_left ins_rest.
      (counters_complete ins is_ins).gives ins_end x ins_left ins_rest))))));
}
  where
    nothing_filled : IsFresh (record { state = empty own; numbers = [] })
    nothing_filled = record {
      queues = tt;
      dead = refl;
      dead_xact = refl;
      journal = refl;
      plain = tt;
      outs = refl;
      ins = refl;
      express = refl;
    }

-- Nothing is left out of a store.

map_same : {X : Type 0} (P : X → Type 0) (f : X → X) → ((x : X) → P x → f x ≡ x) → (xs : List X) → AllByRecursion P xs → map f xs ≡ xs
map_same P f same [] h = refl
map_same P f same (x ∷ xs) h = ap₂ (λ y ys. y ∷ ys) (same x h.0) (map_same P f same xs h.1)

lists_stay : (l : Lists) → HasFew l → durable_lists l ≡ l
lists_stay l h = ap (λ ms. record l { express = ms }) (sym h.1)

queue_stays : (q : Queue) → IsFullQueue q → durable_queue q ≡ q
queue_stays q h = ap₂ (λ l j. record q { lists = l; journal = j }) (lists_stay q.lists h.0) (lists_stay q.journal h.1)

plain_stays : (l : PlainLists) → IsFullPlain l → durable_plain l ≡ l
plain_stays l h = ap₂ (λ os es. record { recoverable = os; express = es }) h.1.0 (sym h.1.1)

pub state_stays : (p : Parts) → IsComplete p → durable p.state ≡ p.state
state_stays p is =
    ap₂ (λ (plain : List PlainLists) (places : Places). record p.state { plain = plain; places = places; next_express = FIRST_EXPRESS })
    (map_same IsFullPlain durable_plain plain_stays p.state.plain is.plain) places
    ∙ ap (λ (n : ℕ). record p.state { next_express = n }) (sym is.express)
  where
    places : durable_places p.state.places ≡ p.state.places
    places =
        ap₂ (λ (qs : List Queue) (d : Lists). record { queues = qs; dead = d; dead_xact = durable_lists p.state.places.dead_xact; journal = durable_lists p.state.places.journal })
        (map_same IsFullQueue durable_queue queue_stays p.state.places.queues is.queues) (lists_stay p.state.places.dead is.dead)
        ∙ ap₂ (λ (x j : Lists). record p.state.places { dead_xact = x; journal = j }) (lists_stay p.state.places.dead_xact is.dead_xact) (lists_stay p.state.places.journal is.journal)
