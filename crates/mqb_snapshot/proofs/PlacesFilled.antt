-- Places are filled one after the other, with messages of which none is express.
use Rattle.std.proofs.Common.{◌≡◌, ◌<◌, ◌+◌, ◌-◌, ◌^◌, ℕ, suc, List, [], length, Option, Some, None, refl, sym, ap, subst, ◌∙◌, arith}
use Rattle.std.proofs.lemmas.Bool.Decides.{nat_tests}
use Rattle.std.proofs.lemmas.List.{length_push}
use Rattle.std.specs.List.{AllByRecursion}
use Rattle.std.specs.Option.{option_map, option_map_or}
use Rattle.std.specs.Prelude.{slice_get, slice_set}
use Rattle.mqb_base.specs.Lanes.{lane_of}
use Rattle.mqb_base.specs.declared.message.Lane.{Lane}
use Rattle.mqb_base.specs.declared.message.Lane.TheVariants as lane
use Rattle.mqb_base.specs.declared.message.Message.{Message}
use Rattle.mqb_base.specs.declared.queues.EntryPlace.{EntryPlace}
use Rattle.mqb_base.specs.declared.queues.EntryPlace.TheVariants as place
use Rattle.mqb_model.specs.Lists.{with_changed}
use Rattle.mqb_model.specs.declared.limits.TheConstants.{FIRST_EXPRESS}
use Rattle.mqb_model.specs.state.Places.{put_at}
use Rattle.mqb_orders.specs.Rows.{Row}
use Rattle.mqb_orders.specs.declared.rows.InRow.{InRow}
use Rattle.mqb_packet.specs.declared.packet.Headers.TheVariants.{Bare}
use Rattle.mqb_plain.specs.Plain.{PlainLists}
use Rattle.mqb_queue.proofs.Lens.{numbered_is}
use Rattle.mqb_queue.specs.Lists.{Lists, no_messages, put}
use Rattle.mqb_queue.specs.Places.{Places, Queue, changed_at, numbered, with_lists}
use Rattle.mqb_snapshot.specs.Parts.{Parts, each_joined}
use Rattle.mqb_snapshot.specs.Reading.{held_joined, place_joined, placed_joined, places_joined}
use Rattle.mqb_snapshot.specs.Values.{IsCounted}
use Rattle.mqb_snapshot.proofs.FieldsRead.{flag_reads}
use Rattle.mqb_snapshot.proofs.Filled.{UpTo, all_full, filled_more, next_one, none_full, opened}
use Rattle.mqb_snapshot.proofs.MessagesRead.{message_reads}
use Rattle.mqb_snapshot.proofs.PlacesSound.{durable_lane}
use Rattle.mqb_snapshot.proofs.Readers.{Reads, behind, each_reads, finished, list_reads, weaker}

-- no messages
abbrev pub IsEmpty : Lists → Type 0
IsEmpty l = l ≡ no_messages

-- durable messages alone, and room for so many more
abbrev pub HasRoomFor : ℕ → Lists → Type 0
HasRoomFor n l = (length l.durable + n < 2 ^ 32) × (l.express ≡ [])

-- durable messages alone, which are counted
abbrev pub HasFew : Lists → Type 0
HasFew l = IsCounted l.durable × (l.express ≡ [])

abbrev pub IsEmptyQueue : Queue → Type 0
IsEmptyQueue q = IsEmpty q.lists × IsEmpty q.journal

abbrev IsFillingQueue : ℕ → Queue → Type 0
IsFillingQueue n q = HasRoomFor n q.lists × IsEmpty q.journal

abbrev IsFillingJournal : ℕ → Queue → Type 0
IsFillingJournal n q = HasFew q.lists × HasRoomFor n q.journal

abbrev pub IsFullQueue : Queue → Type 0
IsFullQueue q = HasFew q.lists × HasFew q.journal

room_put : (n : ℕ) (m : Message) (l : Lists) → HasRoomFor (suc n) l → HasRoomFor n (put lane.Durable m l)
room_put n m l h = let room : length l.durable + suc n < 2 ^ 32 = h.0 in (omega (arith, room, length_push l.durable m), h.1)

room_in : (n : ℕ) (l : Lists) → n < 2 ^ 32 → IsEmpty l → HasRoomFor n l
room_in n l few none = subst (HasRoomFor n) (sym none) (omega (arith, few), refl)

few_in : (l : Lists) → HasRoomFor 0 l → HasFew l
few_in l h = let room : length l.durable + 0 < 2 ^ 32 = h.0 in (omega (arith, room), h.1)

-- The parts of a state, each as far as it is filled.
pub record IsFilled (Q : List Queue → Type 0) (D X J : Lists → Type 0) (P : List PlainLists → Type 0) (O : List Row → Type 0) (I : List InRow → Type 0) (p : Parts) : Type 0 where
  pub queues : Q p.state.places.queues
  pub dead : D p.state.places.dead
  pub dead_xact : X p.state.places.dead_xact
  pub journal : J p.state.places.journal
  pub plain : P p.state.plain
  pub outs : O p.state.outs
  pub ins : I p.state.ins
  pub express : p.state.next_express ≡ FIRST_EXPRESS

-- One place.

-- parts whose places are these
abbrev placed_as : Parts → Places → Parts
placed_as p places = record p { state = record p.state { places = places } }

-- one message more leaves room for one less
abbrev Fills : EntryPlace → (ℕ → Parts → Type 0) → Type 0
Fills at Holds = (n : ℕ) (p : Parts) (m : Message) → Holds (suc n) p → Holds n (placed_as p (changed_at p.state.places at (put lane.Durable m)))

placed_fills : (at : EntryPlace) (Holds : ℕ → Parts → Type 0) → Fills at Holds → (n : ℕ) (p : Parts) → Holds (suc n) p → Reads (placed_joined at p) (Holds n)
unfolding placed_joined
placed_fills at Holds more n p is = record {
  gives = λ r x all e.
      behind (Holds n) flag_reads r _ x all e (λ transactional transactional_end is_flag transactional_left transactional_rest.
      behind (Holds n) (message_reads Bare transactional) transactional_end _ x transactional_left transactional_rest (λ message message_end is_message message_left message_rest.
      let m = message in
      let durable = ap lane_of (is_message).delivery ∙ durable_lane transactional in
      finished (Holds n) (record p { state = put_at p.state at m }) message_end x
      (subst (λ (l : Lane). Holds n (placed_as p (changed_at p.state.places at (put l m)))) (sym durable) (more n p m is)) message_left message_rest));
}

place_fills : (at : EntryPlace) (Holds : ℕ → Parts → Type 0) → Fills at Holds → (p : Parts) → ((n : ℕ) → n < 2 ^ 32 → Holds n p) → Reads (place_joined at p) (Holds 0)
unfolding place_joined
place_fills at Holds more p is = list_reads Holds (placed_fills at Holds more) p is

-- The queue at an index.

queue_changed : (p : Places) (k : ℕ) (change : Lists → Lists)
    → changed_at p (place.Queue (k + 1)) change ≡ record p { queues = with_changed (λ q. record q { lists = change q.lists }) p.queues k }
queue_changed p k change = ap (λ (o : Option Queue). option_map_or (λ l. with_lists p (place.Queue (k + 1)) (change l)) (option_map (λ q. q.lists) o) p) there ∙ at (slice_get p.queues k) refl
  where
    back : (k + 1) - 1 ≡ k
    back = omega arith

    there : numbered p.queues (k + 1) ≡ slice_get p.queues k
    there = numbered_is p.queues (k + 1) (grind (arith, nat_tests)) ∙ ap (slice_get p.queues) back

    at : (o : Option Queue) → slice_get p.queues k ≡ o → option_map_or (λ l. with_lists p (place.Queue (k + 1)) (change l)) (option_map (λ q. q.lists) o) p
        ≡ record p { queues = option_map_or (λ q. slice_set p.queues k (record q { lists = change q.lists })) o p.queues }
    at None got = refl
    at (Some q) got = ap (λ (qs : List Queue). record p { queues = qs })
        (ap (λ (o : Option Queue). option_map_or (λ r. slice_set p.queues ((k + 1) - 1) (record r { lists = change q.lists })) o p.queues) (there ∙ got)
        ∙ ap (λ (j : ℕ). slice_set p.queues j (record q { lists = change q.lists })) back)

journal_changed : (p : Places) (k : ℕ) (change : Lists → Lists)
    → changed_at p (place.JournalOf (k + 1)) change ≡ record p { queues = with_changed (λ q. record q { journal = change q.journal }) p.queues k }
journal_changed p k change =
    ap (λ (o : Option Queue). option_map_or (λ l. with_lists p (place.JournalOf (k + 1)) (change l)) (option_map (λ q. q.journal) o) p) there ∙ at (slice_get p.queues k) refl
  where
    back : (k + 1) - 1 ≡ k
    back = omega arith

    there : numbered p.queues (k + 1) ≡ slice_get p.queues k
    there = numbered_is p.queues (k + 1) (grind (arith, nat_tests)) ∙ ap (slice_get p.queues) back

    at : (o : Option Queue) → slice_get p.queues k ≡ o → option_map_or (λ l. with_lists p (place.JournalOf (k + 1)) (change l)) (option_map (λ q. q.journal) o) p
        ≡ record p { queues = option_map_or (λ q. slice_set p.queues k (record q { journal = change q.journal })) o p.queues }
    at None got = refl
    at (Some q) got = ap (λ (qs : List Queue). record p { queues = qs })
        (ap (λ (o : Option Queue). option_map_or (λ r. slice_set p.queues ((k + 1) - 1) (record r { journal = change q.journal })) o p.queues) (there ∙ got)
        ∙ ap (λ (j : ℕ). slice_set p.queues j (record q { journal = change q.journal })) back)

-- All places, of so many queues, where these are the plain lists and rows.
module _ (long : ℕ) (P : List PlainLists → Type 0) (O : List Row → Type 0) (I : List InRow → Type 0) where
  -- parts whose queues up to an index are full, and whose other places are empty
  abbrev FilledTo : (Queue → Type 0) → ℕ → Parts → Type 0
  FilledTo Open k p = IsFilled (UpTo long IsFullQueue Open IsEmptyQueue k) IsEmpty IsEmpty IsEmpty P O I p

  with_queues_filled : (Open Next : Queue → Type 0) (j k : ℕ) (p : Parts) (queues : List Queue) → FilledTo Open j p → UpTo long IsFullQueue Next IsEmptyQueue k queues
      → FilledTo Next k (placed_as p (record p.state.places { queues = queues }))
  with_queues_filled Open Next j k p queues is filled = record {
    queues = filled;
    dead = is.dead;
    dead_xact = is.dead_xact;
    journal = is.journal;
    plain = is.plain;
    outs = is.outs;
    ins = is.ins;
    express = is.express;
  }

  queue_fills : (k : ℕ) → Fills (place.Queue (k + 1)) (λ n. FilledTo (IsFillingQueue n) k)
  queue_fills k n p m is = subst (λ (places : Places). FilledTo (IsFillingQueue n) k (placed_as p places)) (sym (queue_changed p.state.places k (put lane.Durable m)))
      (with_queues_filled (IsFillingQueue (suc n)) (IsFillingQueue n) k k p _ is (filled_more (IsFillingQueue n) (λ q. record q { lists = put lane.Durable m q.lists })
      (λ q h. (room_put n m q.lists h.0, h.1)) k p.state.places.queues is.queues))

  journal_fills : (k : ℕ) → Fills (place.JournalOf (k + 1)) (λ n. FilledTo (IsFillingJournal n) k)
  journal_fills k n p m is = subst (λ (places : Places). FilledTo (IsFillingJournal n) k (placed_as p places)) (sym (journal_changed p.state.places k (put lane.Durable m)))
      (with_queues_filled (IsFillingJournal (suc n)) (IsFillingJournal n) k k p _ is (filled_more (IsFillingJournal n) (λ q. record q { journal = put lane.Durable m q.journal })
      (λ q h. (h.0, room_put n m q.journal h.1)) k p.state.places.queues is.queues))

  queue_fill : (k : ℕ) (p : Parts) → FilledTo IsEmptyQueue k p → Reads (place_joined (place.Queue (k + 1)) p) (FilledTo (IsFillingQueue 0) k)
  queue_fill k p is = place_fills (place.Queue (k + 1)) (λ n. FilledTo (IsFillingQueue n) k) (queue_fills k) p (λ n few. with_queues_filled IsEmptyQueue (IsFillingQueue n) k k p _ is
      (opened (IsFillingQueue n) (λ q h. (room_in n q.lists few h.0, h.1)) k p.state.places.queues is.queues))

  journal_of_fill : (k : ℕ) (p : Parts) → FilledTo (IsFillingQueue 0) k p → Reads (place_joined (place.JournalOf (k + 1)) p) (FilledTo IsEmptyQueue (suc k))
  journal_of_fill k p is = weaker (FilledTo IsEmptyQueue (suc k))
      (λ q h. with_queues_filled (IsFillingJournal 0) IsEmptyQueue k (suc k) q _ h (next_one (λ c few. (few.0, few_in c.journal few.1)) k q.state.places.queues h.queues))
      (place_fills (place.JournalOf (k + 1)) (λ n. FilledTo (IsFillingJournal n) k) (journal_fills k) p (λ n few. with_queues_filled (IsFillingQueue 0) (IsFillingJournal n) k k p _ is
      (opened (IsFillingJournal n) (λ c h. (few_in c.lists h.0, room_in n c.journal few h.1)) k p.state.places.queues is.queues)))

  held_fills : (k : ℕ) (p : Parts) → FilledTo IsEmptyQueue k p → Reads (held_joined k p) (FilledTo IsEmptyQueue (suc k))
  unfolding held_joined
  held_fills k p is = record {
    gives = λ r x all e. behind (FilledTo IsEmptyQueue (suc k)) (queue_fill k p is) r _ x all e (λ queue queue_end is_queue queue_left queue_rest.
        (journal_of_fill k queue is_queue).gives queue_end x queue_left queue_rest);
  }

-- Where these are the plain lists and rows.
module _ (P : List PlainLists → Type 0) (O : List Row → Type 0) (I : List InRow → Type 0) where
  -- parts of which the places behind the queues are filled so
  abbrev pub Filled : (D X J : Lists → Type 0) → Parts → Type 0
  Filled D X J p = IsFilled (AllByRecursion IsFullQueue) D X J P O I p

  with_others_filled : (D X J E Y K : Lists → Type 0) (p : Parts) (dead dead_xact journal : Lists) → Filled D X J p → E dead → Y dead_xact → K journal
      → Filled E Y K (placed_as p (record p.state.places { dead = dead; dead_xact = dead_xact; journal = journal }))
  with_others_filled D X J E Y K p dead dead_xact journal is one two three = record {
    queues = is.queues;
    dead = one;
    dead_xact = two;
    journal = three;
    plain = is.plain;
    outs = is.outs;
    ins = is.ins;
    express = is.express;
  }

  queues_full : (long : ℕ) (p : Parts) → FilledTo long P O I IsEmptyQueue (0 + long) p → Filled IsEmpty IsEmpty IsEmpty p
  queues_full long p is = record {
    queues = all_full (0 + long) p.state.places.queues (omega arith) is.queues;
    dead = is.dead;
    dead_xact = is.dead_xact;
    journal = is.journal;
    plain = is.plain;
    outs = is.outs;
    ins = is.ins;
    express = is.express;
  }

  queues_fill : (p : Parts) → IsFilled (AllByRecursion IsEmptyQueue) IsEmpty IsEmpty IsEmpty P O I p
      → Reads (each_joined (length p.state.places.queues) 0 held_joined p) (Filled IsEmpty IsEmpty IsEmpty)
  queues_fill p is = let long = length p.state.places.queues in
      weaker (Filled IsEmpty IsEmpty IsEmpty) (queues_full long) (each_reads (FilledTo long P O I IsEmptyQueue) (held_fills long P O I) long 0 p (record {
        queues = none_full IsFullQueue IsEmptyQueue p.state.places.queues is.queues;
        dead = is.dead;
        dead_xact = is.dead_xact;
        journal = is.journal;
        plain = is.plain;
        outs = is.outs;
        ins = is.ins;
        express = is.express;
      }))

  dead_fills : Fills place.Dead (λ n. Filled (HasRoomFor n) IsEmpty IsEmpty)
  dead_fills n p m is = with_others_filled _ _ _ (HasRoomFor n) IsEmpty IsEmpty p _ _ _ is (room_put n m p.state.places.dead is.dead) is.dead_xact is.journal

  dead_fill : (p : Parts) → Filled IsEmpty IsEmpty IsEmpty p → Reads (place_joined place.Dead p) (Filled HasFew IsEmpty IsEmpty)
  dead_fill p is = weaker (Filled HasFew IsEmpty IsEmpty)
      (λ q h. with_others_filled _ _ _ HasFew IsEmpty IsEmpty q _ _ _ h (few_in q.state.places.dead h.dead) h.dead_xact h.journal)
      (place_fills place.Dead (λ n. Filled (HasRoomFor n) IsEmpty IsEmpty) dead_fills p
      (λ n few. with_others_filled _ _ _ (HasRoomFor n) IsEmpty IsEmpty p _ _ _ is (room_in n p.state.places.dead few is.dead) is.dead_xact is.journal))

  dead_xact_fills : Fills place.DeadXact (λ n. Filled HasFew (HasRoomFor n) IsEmpty)
  dead_xact_fills n p m is = with_others_filled _ _ _ HasFew (HasRoomFor n) IsEmpty p _ _ _ is is.dead (room_put n m p.state.places.dead_xact is.dead_xact) is.journal

  dead_xact_fill : (p : Parts) → Filled HasFew IsEmpty IsEmpty p → Reads (place_joined place.DeadXact p) (Filled HasFew HasFew IsEmpty)
  dead_xact_fill p is = weaker (Filled HasFew HasFew IsEmpty)
      (λ q h. with_others_filled _ _ _ HasFew HasFew IsEmpty q _ _ _ h h.dead (few_in q.state.places.dead_xact h.dead_xact) h.journal)
      (place_fills place.DeadXact (λ n. Filled HasFew (HasRoomFor n) IsEmpty) dead_xact_fills p
      (λ n few. with_others_filled _ _ _ HasFew (HasRoomFor n) IsEmpty p _ _ _ is is.dead (room_in n p.state.places.dead_xact few is.dead_xact) is.journal))

  journals_fill : Fills place.Journal (λ n. Filled HasFew HasFew (HasRoomFor n))
  journals_fill n p m is = with_others_filled _ _ _ HasFew HasFew (HasRoomFor n) p _ _ _ is is.dead is.dead_xact (room_put n m p.state.places.journal is.journal)

  journal_fill : (p : Parts) → Filled HasFew HasFew IsEmpty p → Reads (place_joined place.Journal p) (Filled HasFew HasFew HasFew)
  journal_fill p is = weaker (Filled HasFew HasFew HasFew)
      (λ q h. with_others_filled _ _ _ HasFew HasFew HasFew q _ _ _ h h.dead h.dead_xact (few_in q.state.places.journal h.journal))
      (place_fills place.Journal (λ n. Filled HasFew HasFew (HasRoomFor n)) journals_fill p
      (λ n few. with_others_filled _ _ _ HasFew HasFew (HasRoomFor n) p _ _ _ is is.dead is.dead_xact (room_in n p.state.places.journal few is.journal)))

  pub places_fill : (p : Parts) → IsFilled (AllByRecursion IsEmptyQueue) IsEmpty IsEmpty IsEmpty P O I p → Reads (places_joined p) (Filled HasFew HasFew HasFew)
  unfolding places_joined
  places_fill p is = record {
    gives = λ r x all e.
        behind (Filled HasFew HasFew HasFew) (queues_fill p is) r _ x all e (λ queues queues_end is_queues queues_left queues_rest.
        behind (Filled HasFew HasFew HasFew) (dead_fill queues is_queues) queues_end _ x queues_left queues_rest (λ dead dead_end is_dead dead_left dead_rest.
        behind (Filled HasFew HasFew HasFew) (dead_xact_fill dead is_dead) dead_end _ x dead_left dead_rest (λ dead_xact dead_xact_end is_dead_xact dead_xact_left dead_xact_rest.
        (journal_fill dead_xact is_dead_xact).gives dead_xact_end x dead_xact_left dead_xact_rest)));
  }
