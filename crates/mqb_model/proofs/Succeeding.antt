-- A valid manager has beside its state what accords with it, and is valid again where a call leaves what does.
use Rattle.std.proofs.Common.{refl, sym, subst, length, arith, length-append}
use Rattle.std.proofs.lemmas.List.{length-replicate}
use Rattle.std.proofs.lemmas.List.Elements.{All-from_recursion, recursion_from_All}
use Rattle.std.specs.List.{AllByRecursion, flat_map}
use Rattle.std.specs.Option.{option_map_or}
use Rattle.std.specs.Prelude.{◌-◌, ◌∷◌, ◌≡◌, ◌≤◌, [], Err, IfSome, List, None, Option, Result, Some, false, replicate, true, ℕ}
use Rattle.mqb_base.specs.declared.message.Lane.TheVariants as lane
use Rattle.mqb_base.specs.declared.message.Message.{Message}
use Rattle.mqb_orders.specs.Rows.{Row}
use Rattle.mqb_packet.specs.declared.packet.Headers.TheVariants as headers
use Rattle.mqb_plain.specs.Lists.{messages_of}
use Rattle.mqb_plain.specs.Plain.{PlainLists}
use Rattle.mqb_plain.specs.declared.outgoing.Outgoing.{Outgoing}
use Rattle.mqb_session.specs.State as one_end
use Rattle.mqb_model.specs.Lists.{grown}
use Rattle.mqb_model.specs.laws.Durable.{LeavesStore}
use Rattle.mqb_model.specs.laws.Fitting.{IsAsRead, IsFitting}
use Rattle.mqb_model.specs.managers.Manager.{Condition, Down, Manager, Rest, Up, is_down, rest_for}
use Rattle.mqb_model.specs.managers.Outcomes.{Outcome, answering, recorded, state_after, succeeded, unless}
use Rattle.mqb_model.specs.managers.Valid.{IsExpressValid, IsLinkedWell, IsUnsent, IsValidManager, IsWritable, MarksRise, express_placed, express_waiting}
use Rattle.mqb_model.specs.records.Applying.{fits}
use Rattle.mqb_model.specs.records.Carrying.{IsRead}
use Rattle.mqb_model.specs.records.Packets.{is_recoverable}
use Rattle.mqb_model.specs.records.Record.{Record}
use Rattle.mqb_model.specs.state.Durable.{durable}
use Rattle.mqb_model.specs.state.Places.{is_express}
use Rattle.mqb_model.specs.state.State.{State}
use Rattle.mqb_model.specs.state.Valid.{IsCarried, IsValidState, placed_messages, recoverable_messages}
use Rattle.mqb_model.proofs.Accord.{Accords, IsHeld, IsLinked, ListsHeld, PlainHeld, RowHeld}
use Rattle.mqb_model.proofs.Applied.{applied_is_valid}
use Rattle.mqb_model.proofs.Calling.{no_doubt}
use Rattle.mqb_model.proofs.Durable.{durable_is_valid, stands_for_valid}
use Rattle.mqb_model.proofs.Having.{both_have, join_places, split_places, weaker_have}
use Rattle.mqb_model.proofs.Holding.{RowHolds, not_express, valid_holds}
use Rattle.mqb_model.proofs.Members.{all_append, all_left, all_right, all_weaker}
use Rattle.mqb_model.proofs.Standing.{refused_is_same}

-- The express messages for peers.

items_messages : (P : Message → Type 0) (items : List Outgoing) → AllByRecursion (λ o. P o.message) items → AllByRecursion P (messages_of items)
items_messages P [] h = tt
items_messages P (o ∷ items) h = (h.0, items_messages P items h.1)

messages_items : (P : Message → Type 0) (items : List Outgoing) → AllByRecursion P (messages_of items) → AllByRecursion (λ o. P o.message) items
messages_items P [] h = tt
messages_items P (o ∷ items) h = (h.0, messages_items P items h.1)

-- a fact of the express messages for peers
abbrev waiting_in : List PlainLists → List Message
waiting_in ps = flat_map (λ p. messages_of p.express) ps

waiting_have : (P : Message → Type 0) → ((m : Message) → IsHeld lane.Express headers.Session m → P m) → (ps : List PlainLists) → AllByRecursion PlainHeld ps
    → AllByRecursion P (waiting_in ps)
waiting_have P f [] h = tt
waiting_have P f (p ∷ ps) h = all_append P (messages_of p.express) (waiting_in ps)
    (items_messages P p.express (all_weaker (λ o. IsHeld lane.Express headers.Session o.message) (λ o. P o.message) (λ o. f o.message) p.express (h.0).1)) (waiting_have P f ps h.1)

plain_held : (ps : List PlainLists) → AllByRecursion (λ m. is_recoverable m.delivery ≡ true) (flat_map (λ p. messages_of p.recoverable) ps)
    → AllByRecursion (IsHeld lane.Express headers.Session) (waiting_in ps) → AllByRecursion PlainHeld ps
plain_held [] r e = tt
plain_held (p ∷ ps) r e = (
  (
    all_weaker (λ o. is_recoverable o.message.delivery ≡ true) (λ o. is_express o.message.delivery ≡ false) (λ o h. not_express o.message.delivery h) p.recoverable
        (messages_items Recoverable p.recoverable (all_left Recoverable (messages_of p.recoverable) (flat_map (λ p. messages_of p.recoverable) ps) r)),
    messages_items (IsHeld lane.Express headers.Session) p.express (all_left (IsHeld lane.Express headers.Session) (messages_of p.express) (waiting_in ps) e),
  ),
  plain_held ps (all_right Recoverable (messages_of p.recoverable) (flat_map (λ p. messages_of p.recoverable) ps) r)
      (all_right (IsHeld lane.Express headers.Session) (messages_of p.express) (waiting_in ps) e),
)
  where
    Recoverable : Message → Type 0
    Recoverable m = is_recoverable m.delivery ≡ true

-- Valid managers.

linked_of : (s : State) (c : Condition) (o : Option one_end.State) → (elim c [ Up ↦ false | Down doubt ↦ true ]) ≡ false → IsLinkedWell s c o → IsLinked s.identity s.peers s.plain o
linked_of s (Down doubt) o up h = absurd (let none : ⊥ = cc in none)
linked_of s Up None up h = recursion_from_All IsUnsent s.plain h
linked_of s Up (Some session) up h = record { kept = h.kept; own = h.own; peer = h.peer; first = h.first; marks = h.marks }

linked_again : (s : State) (c : Condition) (o : Option one_end.State) → (elim c [ Up ↦ false | Down doubt ↦ true ]) ≡ false → IsLinked s.identity s.peers s.plain o → IsLinkedWell s c o
linked_again s (Down doubt) o up h = absurd (let none : ⊥ = cc in none)
linked_again s Up None up h = All-from_recursion IsUnsent s.plain h
linked_again s Up (Some session) up h = record { kept = h.kept; own = h.own; peer = h.peer; first = h.first; marks = h.marks }

rows_held : (rows : List Row) → AllByRecursion RowHolds rows → AllByRecursion RowHeld rows
rows_held [] h = tt
rows_held (row ∷ rows) h = (recursion_from_All (λ k. is_express k.message.delivery ≡ false) row.kept h.0, rows_held rows h.1)

pub valid_accords : (m : Manager) → is_down m ≡ false → IsValidManager m → Accords m.rest m.state
valid_accords m up v = record {
  places = both_have (λ l. AllByRecursion (IsHeld lane.Durable headers.Bare) l.durable) (λ l. AllByRecursion (IsHeld lane.Express headers.Bare) l.express) m.state.places
      (split_places (λ l. l.durable) (IsHeld lane.Durable headers.Bare) m.state.places (recursion_from_All (IsHeld lane.Durable headers.Bare) (placed_messages m.state) v.state.durable))
      (split_places (λ l. l.express) (IsHeld lane.Express headers.Bare) m.state.places
      (recursion_from_All (IsHeld lane.Express headers.Bare) (express_placed m.state) (λ k d lt. (v.express.placed k d lt, v.express.placed_express k d lt))));
  plain = plain_held m.state.plain (recursion_from_All (λ m. is_recoverable m.delivery ≡ true) (recoverable_messages m.state) v.state.recoverable)
      (recursion_from_All (IsHeld lane.Express headers.Session) (express_waiting m.state) (λ k d lt. (v.express.waiting k d lt, v.express.waiting_express k d lt)));
  rows = rows_held m.state.outs (valid_holds m.state v.state).rows;
  marks = recursion_from_All MarksRise m.state.plain v.marks;
  next = v.express.next_express;
  linked = linked_of m.state m.condition m.rest.session up v.session;
  cursors = let counted = v.cursors in omega (arith, counted);
  owes = let counted = v.owes in omega (arith, counted);
}

grown_most : {X : Type 0} (blank : X) (n : ℕ) (xs : List X) → length xs ≤ n → length (grown blank n xs) ≡ n
grown_most blank n xs le = let whole = length-append xs (replicate (n - length xs) blank) in let more = length-replicate (n - length xs) blank in
    omega (arith, le, whole, more)

express_valid : (rest : Rest) (s : State) → Accords rest s → IsExpressValid s
express_valid rest s a = record {
  placed = All-from_recursion (IsCarried headers.Bare) (express_placed s) (join_places (λ l. l.express) (IsCarried headers.Bare) s.places
      (weaker_have ListsHeld (λ l. AllByRecursion (IsCarried headers.Bare) l.express)
      (λ l h. all_weaker (IsHeld lane.Express headers.Bare) (IsCarried headers.Bare) (λ m one. one.0) l.express h.1) s.places a.places));
  waiting = All-from_recursion (IsCarried headers.Session) (express_waiting s) (waiting_have (IsCarried headers.Session) (λ m h. h.0) s.plain a.plain);
  placed_express = All-from_recursion IsExpress (express_placed s) (join_places (λ l. l.express) IsExpress s.places
      (weaker_have ListsHeld (λ l. AllByRecursion IsExpress l.express) (λ l h. all_weaker (IsHeld lane.Express headers.Bare) IsExpress (λ m one. one.1) l.express h.1) s.places a.places));
  waiting_express = All-from_recursion IsExpress (express_waiting s) (waiting_have IsExpress (λ m h. h.1) s.plain a.plain);
  next_express = a.next;
}
  where
    IsExpress : Message → Type 0
    IsExpress m = is_express m.delivery ≡ true

pub valid_again : (m : Manager) (rest : Rest) (s : State) → is_down m ≡ false → IsValidState s → Accords rest s → IsValidManager (record m { state = s; rest = rest_for s rest })
valid_again m rest s up v a = record {
  state = v;
  express = express_valid rest s a;
  marks = All-from_recursion MarksRise s.plain a.marks;
  session = linked_again s m.condition rest.session up a.linked;
  cursors = grown_most 0 (length s.outs) rest.cursors a.cursors;
  owes = grown_most false (length s.ins) rest.owes a.owes;
  doubt = no_doubt m.condition (IsWritable s) up;
}

-- Calls.

-- the record of a call fits and is as one that was read, where there is one
pub record IsWritten {A : Type 0} (m : Manager) (outcome : Outcome A) : Type 0 where
  pub fits : IsFitting m outcome
  pub read : IsAsRead outcome

recorded_valid : (s : State) (o : Option Record) → IsValidState s → IfSome o (λ r. fits s r ≡ true) → IfSome o IsRead → IsValidState (recorded s o)
recorded_valid s None v f r = v
recorded_valid s (Some entry) v f r = applied_is_valid s entry v r f

-- what a call leaves where it goes well: it accords, and beside the record nothing durable was done
pub record GoesWell {A : Type 0} (m : Manager) (outcome : Outcome A) : Type 0 where
  pub accords : Accords outcome.rest (state_after m outcome)
  pub volatile : durable (state_after m outcome) ≡ durable (recorded m.state outcome.entry)

-- the manager is valid after it, and its store stands for what the record left
pub record IsKept {A : Type 0} (m : Manager) (outcome : Outcome A) : Type 0 where
  pub valid : IsValidManager (succeeded m outcome)
  pub volatile : LeavesStore m outcome

pub well_kept : {A : Type 0} (m : Manager) (outcome : Outcome A) → is_down m ≡ false → IsValidManager m → IsWritten m outcome → GoesWell m outcome → IsKept m outcome
well_kept m outcome up v w g = record {
  valid = valid_again m outcome.rest (state_after m outcome) up
      (stands_for_valid (state_after m outcome) (subst IsValidState (sym g.volatile)
      (durable_is_valid (recorded m.state outcome.entry) (recorded_valid m.state outcome.entry v.state w.fits w.read)))) g.accords;
  volatile = g.volatile;
}

pub same_kept : {A : Type 0} (m : Manager) (answer : A) → IsValidManager m → IsKept m (answering m answer)
same_kept m answer v = record { valid = subst IsValidManager (sym (refused_is_same m true v)) v; volatile = refl }

pub unless_written : {V E : Type 0} (m : Manager) (refusal : Option E) (outcome : Outcome (Result V E)) → IsValidManager m → IsWritten m (unless m refusal outcome)
    → (refusal ≡ None → IsWritten m outcome → IsKept m outcome) → IsKept m (unless m refusal outcome)
unless_written {V} {E} m (Some fault) outcome v w h = same_kept {A = Result V E} m (Err fault) v
unless_written m None outcome v w h = h refl (record { fits = w.fits; read = w.read })

pub or_written : {X A : Type 0} (m : Manager) (f : X → Outcome A) (o : Option X) (other : Outcome A) → IsKept m other → IsWritten m (option_map_or f o other)
    → ((x : X) → o ≡ Some x → IsWritten m (f x) → IsKept m (f x)) → IsKept m (option_map_or f o other)
or_written m f None other none w h = none
or_written m f (Some x) other none w h = h x refl (record { fits = w.fits; read = w.read })
