-- What stands beside the durable part of a state: express lists have express messages alone, marks are in order and bounded by what the session
-- sent, and what the connection knows fits the rows. Which changes leave this so.
use Rattle.std.proofs.Common.{refl, sym, subst, length, arith}
use Rattle.std.proofs.lemmas.Bool.Decides.{nat_tests}
use Rattle.std.specs.List.{AllByRecursion}
use Rattle.std.specs.Prelude.{◌+◌, ◌++◌, ◌∷◌, ◌==◌, ◌≡◌, ◌≤◌, [], Bool, IfSome, IsSome, List, None, Option, Some, cond, false, option_and_then, position, slice_get, true, unwrap_or, ℕ}
use Rattle.mqb_base.specs.Lanes.{lane_of}
use Rattle.mqb_base.specs.Same.{same_guid}
use Rattle.mqb_base.specs.declared.ids.Identity.{Identity}
use Rattle.mqb_base.specs.declared.message.Delivery.{Delivery}
use Rattle.mqb_base.specs.declared.message.Delivery.TheVariants as delivery
use Rattle.mqb_base.specs.declared.message.Lane.{Lane}
use Rattle.mqb_base.specs.declared.message.Lane.TheVariants as lane
use Rattle.mqb_base.specs.declared.message.Message.{Message}
use Rattle.mqb_base.specs.declared.queues.EntryPlace.{EntryPlace}
use Rattle.mqb_orders.specs.Rows.{Row}
use Rattle.mqb_orders.specs.declared.rows.InRow.{InRow}
use Rattle.mqb_packet.specs.declared.packet.Headers.{Headers}
use Rattle.mqb_packet.specs.declared.packet.Headers.TheVariants as headers
use Rattle.mqb_plain.specs.Lists.{unsent}
use Rattle.mqb_plain.specs.Plain.{PlainLists, pushed, without}
use Rattle.mqb_queue.specs.Lists.{Lists, messages_in, put}
use Rattle.mqb_queue.specs.Lists as places
use Rattle.mqb_queue.specs.Places.{Places, lists_at}
use Rattle.mqb_session.specs.Calls.{IsSettingUp}
use Rattle.mqb_session.specs.State.{IsKept}
use Rattle.mqb_session.specs.State as one_end
use Rattle.mqb_model.specs.declared.limits.TheConstants.{FIRST_EXPRESS, MAX_EXPRESS}
use Rattle.mqb_model.specs.Lists.{with_changed}
use Rattle.mqb_model.specs.managers.Manager.{Rest}
use Rattle.mqb_model.specs.managers.Valid.{BearMarks, IsUnsent, MarksRise}
use Rattle.mqb_model.specs.rules.Numbers.{express_after, number_taken}
use Rattle.mqb_model.specs.rules.Takes.{message_at}
use Rattle.mqb_model.specs.state.Places.{is_express, put_at, with_place, with_plain, without_at}
use Rattle.mqb_model.specs.state.State.{State}
use Rattle.mqb_model.specs.state.Valid.{IsCarried}
use Rattle.mqb_model.proofs.Having.{PlacesHave, changed_have, lists_have}
use Rattle.mqb_model.proofs.Holding.{changed_holds, get_holds}
use Rattle.mqb_model.proofs.Marks.{Thinned, bear_changed, gained, lost, thinned_rise, thinned_unsent}
use Rattle.mqb_model.proofs.Members.{all_append, fewer_all, fewer_remove, same}

-- Messages of lanes.

-- a message of the durable lane is not express, and one of the express lane is, and can be carried
abbrev pub IsHeld : Lane → Headers → Message → Type 0
IsHeld lane.Durable beside m = is_express m.delivery ≡ false
IsHeld lane.Express beside m = IsCarried beside m × (is_express m.delivery ≡ true)

-- a message of its own lane
abbrev pub IsApt : Headers → Message → Type 0
IsApt beside m = IsHeld (lane_of m.delivery) beside m

-- what a place holds
abbrev pub ListsHeld : Lists → Type 0
ListsHeld l = AllByRecursion (IsHeld lane.Durable headers.Bare) l.durable × AllByRecursion (IsHeld lane.Express headers.Bare) l.express

-- what waits for a peer
abbrev pub PlainHeld : PlainLists → Type 0
PlainHeld p = AllByRecursion (λ o. IsHeld lane.Durable headers.Session o.message) p.recoverable
    × AllByRecursion (λ o. IsHeld lane.Express headers.Session o.message) p.express

-- what a row keeps
abbrev pub RowHeld : Row → Type 0
RowHeld row = AllByRecursion (λ k. is_express k.message.delivery ≡ false) row.kept

-- the peer of a session, among these
abbrev pub peer_in : List Identity → one_end.State → ℕ
peer_in peers session = unwrap_or (option_and_then (λ guid. position (λ p. same_guid p.guid guid) peers) session.peer) (length peers)

-- a session of the manager with this identity, and these peers and plain lists
pub record IsLinkedTo (identity : Identity) (peers : List Identity) (plain : List PlainLists) (session : one_end.State) : Type 0 where
  pub kept : IsKept session
  pub own : session.own ≡ identity.guid
  pub peer : IfSome session.peer (λ guid. IsSome (position (λ p. same_guid p.guid guid) peers))
  pub first : IsSettingUp session.phase → session.sent ≡ 0
  pub marks : BearMarks session (peer_in peers session) 0 plain

-- such a session, or none, and then nothing counts as sent
abbrev pub IsLinked : Identity → List Identity → List PlainLists → Option one_end.State → Type 0
IsLinked identity peers plain (Some session) = IsLinkedTo identity peers plain session
IsLinked identity peers plain None = AllByRecursion IsUnsent plain

pub record Accords (rest : Rest) (s : State) : Type 0 where
  pub places : PlacesHave ListsHeld s.places
  pub plain : AllByRecursion PlainHeld s.plain
  pub rows : AllByRecursion RowHeld s.outs
  pub marks : AllByRecursion MarksRise s.plain
  pub next : (FIRST_EXPRESS ≤ s.next_express) × (s.next_express ≤ MAX_EXPRESS)
  pub linked : IsLinked s.identity s.peers s.plain rest.session
  pub cursors : length rest.cursors ≤ length s.outs
  pub owes : length rest.owes ≤ length s.ins

-- Lanes.

pub apt_held : (kind : Lane) (beside : Headers) (m : Message) → IsHeld kind beside m → IsApt beside m
apt_held lane.Durable beside m h = by m.delivery h
  where
    by : (x : Delivery) → is_express x ≡ false → IsHeld (lane_of x) beside m
    by delivery.Express e = absurd (let none : ⊥ = cc in none)
    by delivery.Recoverable e = h
    by delivery.Transactional e = h
apt_held lane.Express beside m h = by m.delivery h.1
  where
    by : (x : Delivery) → is_express x ≡ true → IsHeld (lane_of x) beside m
    by delivery.Express e = h
    by delivery.Recoverable e = absurd (let none : ⊥ = cc in none)
    by delivery.Transactional e = absurd (let none : ⊥ = cc in none)

pub durable_apt : (beside : Headers) (m : Message) → is_express m.delivery ≡ false → IsApt beside m
durable_apt beside m h = apt_held lane.Durable beside m h

-- Lists of a lane.

put_held : (kind : Lane) (m : Message) (l : Lists) → IsHeld kind headers.Bare m → ListsHeld l → ListsHeld (put kind m l)
put_held lane.Durable m l one h = (all_append (IsHeld lane.Durable headers.Bare) l.durable (m ∷ []) h.0 (one, tt), h.1)
put_held lane.Express m l one h = (h.0, all_append (IsHeld lane.Express headers.Bare) l.express (m ∷ []) h.1 (one, tt))

without_held : (kind : Lane) (k : ℕ) (l : Lists) → ListsHeld l → ListsHeld (places.without kind k l)
without_held lane.Durable k l h = (fewer_all (IsHeld lane.Durable headers.Bare) (fewer_remove l.durable k) h.0, h.1)
without_held lane.Express k l h = (h.0, fewer_all (IsHeld lane.Express headers.Bare) (fewer_remove l.express k) h.1)

pub lists_apt : (kind : Lane) (l : Lists) → ListsHeld l → AllByRecursion (IsApt headers.Bare) (messages_in kind l)
lists_apt lane.Durable l h = each l.durable h.0
  where
    each : (ms : List Message) → AllByRecursion (IsHeld lane.Durable headers.Bare) ms → AllByRecursion (IsApt headers.Bare) ms
    each [] a = tt
    each (m ∷ ms) a = (apt_held lane.Durable headers.Bare m a.0, each ms a.1)
lists_apt lane.Express l h = each l.express h.1
  where
    each : (ms : List Message) → AllByRecursion (IsHeld lane.Express headers.Bare) ms → AllByRecursion (IsApt headers.Bare) ms
    each [] a = tt
    each (m ∷ ms) a = (apt_held lane.Express headers.Bare m a.0, each ms a.1)

pushed_held : (kind : Lane) (m : Message) (p : PlainLists) → IsHeld kind headers.Session m → PlainHeld p → PlainHeld (pushed kind m p)
pushed_held lane.Durable m p one h = (all_append (λ o. IsHeld lane.Durable headers.Session o.message) p.recoverable (unsent m ∷ []) h.0 (one, tt), h.1)
pushed_held lane.Express m p one h = (h.0, all_append (λ o. IsHeld lane.Express headers.Session o.message) p.express (unsent m ∷ []) h.1 (one, tt))

pushed_thins : (kind : Lane) (m : Message) (p : PlainLists) → Thinned (pushed kind m p) p
pushed_thins lane.Durable m p = record { recoverable = gained m (p.recoverable ++ unsent m ∷ []) p.recoverable refl; express = lost (same p.express) }
pushed_thins lane.Express m p = record { recoverable = lost (same p.recoverable); express = gained m (p.express ++ unsent m ∷ []) p.express refl }

dropped_held : (kind : Lane) (k : ℕ) (p : PlainLists) → PlainHeld p → PlainHeld (without kind k p)
dropped_held lane.Durable k p h = (fewer_all (λ o. IsHeld lane.Durable headers.Session o.message) (fewer_remove p.recoverable k) h.0, h.1)
dropped_held lane.Express k p h = (h.0, fewer_all (λ o. IsHeld lane.Express headers.Session o.message) (fewer_remove p.express k) h.1)

dropped_thins : (kind : Lane) (k : ℕ) (p : PlainLists) → Thinned (without kind k p) p
dropped_thins lane.Durable k p = record { recoverable = lost (fewer_remove p.recoverable k); express = lost (same p.express) }
dropped_thins lane.Express k p = record { recoverable = lost (same p.recoverable); express = lost (fewer_remove p.express k) }

-- States.
module _ (rest : Rest) where
  pub places_accord : (s : State) (p : Places) → PlacesHave ListsHeld p → Accords rest s → Accords rest (record s { places = p })
  places_accord s p have a = record { places = have; plain = a.plain; rows = a.rows; marks = a.marks; next = a.next; linked = a.linked; cursors = a.cursors; owes = a.owes }

  pub place_accords : (s : State) (at : EntryPlace) (g : Lists → Lists) → ((l : Lists) → ListsHeld l → ListsHeld (g l)) → Accords rest s → Accords rest (with_place g s at)
  place_accords s at g keeps a = places_accord s (with_place g s at).places (changed_have ListsHeld s.places at g keeps a.places) a

  pub put_accords : (s : State) (at : EntryPlace) (m : Message) → IsApt headers.Bare m → Accords rest s → Accords rest (put_at s at m)
  put_accords s at m apt a = place_accords s at (put (lane_of m.delivery) m) (λ l h. put_held (lane_of m.delivery) m l apt h) a

  pub without_accords : (kind : Lane) (s : State) (at : EntryPlace) (k : ℕ) → Accords rest s → Accords rest (without_at kind s at k)
  without_accords kind s at k a = place_accords s at (places.without kind k) (λ l h. without_held kind k l h) a

  pub lists_accord : (kind : Lane) (s : State) (at : EntryPlace) → Accords rest s → IfSome (lists_at s.places at) (λ l. AllByRecursion (IsApt headers.Bare) (messages_in kind l))
  lists_accord kind s at a = of (lists_at s.places at) (lists_have ListsHeld s.places at a.places)
    where
      of : (o : Option Lists) → IfSome o ListsHeld → IfSome o (λ l. AllByRecursion (IsApt headers.Bare) (messages_in kind l))
      of None h = tt
      of (Some l) h = lists_apt kind l h

  pub item_accords : (kind : Lane) (s : State) (at : EntryPlace) (k : ℕ) → Accords rest s → IfSome (message_at kind s at k) (IsApt headers.Bare)
  item_accords kind s at k a = of (lists_at s.places at) (lists_accord kind s at a)
    where
      of : (o : Option Lists) → IfSome o (λ l. AllByRecursion (IsApt headers.Bare) (messages_in kind l)) → IfSome (option_and_then (λ l. slice_get (messages_in kind l) k) o) (IsApt headers.Bare)
      of None h = tt
      of (Some l) h = get_holds (IsApt headers.Bare) (messages_in kind l) k h

  pub plain_accords : (s : State) (ps : List PlainLists) → AllByRecursion PlainHeld ps → AllByRecursion MarksRise ps → IsLinked s.identity s.peers ps rest.session
      → Accords rest s → Accords rest (record s { plain = ps })
  plain_accords s ps held rise linked a = record {
    places = a.places;
    plain = held;
    rows = a.rows;
    marks = rise;
    next = a.next;
    linked = linked;
    cursors = a.cursors;
    owes = a.owes;
  }

  linked_changed : (identity : Identity) (peers : List Identity) (change : PlainLists → PlainLists) (ps : List PlainLists) (k : ℕ) (o : Option one_end.State)
      → ((p : PlainLists) → Thinned (change p) p) → IsLinked identity peers ps o → IsLinked identity peers (with_changed change ps k) o
  linked_changed identity peers change ps k None thins h = changed_holds IsUnsent change ps k (λ p u. thinned_unsent (change p) p (thins p) u) h
  linked_changed identity peers change ps k (Some session) thins h = record {
    kept = h.kept;
    own = h.own;
    peer = h.peer;
    first = h.first;
    marks = bear_changed session (peer_in peers session) 0 change ps k thins h.marks;
  }

  pub thinned_accords : (s : State) (change : PlainLists → PlainLists) (k : ℕ) → ((p : PlainLists) → PlainHeld p → PlainHeld (change p)) → ((p : PlainLists) → Thinned (change p) p)
      → Accords rest s → Accords rest (with_plain change s k)
  thinned_accords s change k held thins a = plain_accords s (with_changed change s.plain k) (changed_holds PlainHeld change s.plain k held a.plain)
      (changed_holds MarksRise change s.plain k (λ p r. thinned_rise (change p) p (thins p) r) a.marks)
      (linked_changed s.identity s.peers change s.plain k rest.session thins a.linked) a

  pub pushed_accords : (s : State) (k : ℕ) (m : Message) → IsApt headers.Session m → Accords rest s → Accords rest (with_plain (pushed (lane_of m.delivery) m) s k)
  pushed_accords s k m apt a = thinned_accords s (pushed (lane_of m.delivery) m) k (λ p h. pushed_held (lane_of m.delivery) m p apt h) (λ p. pushed_thins (lane_of m.delivery) m p) a

  pub dropped_accords : (kind : Lane) (index : ℕ) (s : State) (k : ℕ) → Accords rest s → Accords rest (with_plain (without kind index) s k)
  dropped_accords kind index s k a = thinned_accords s (without kind index) k (λ p h. dropped_held kind index p h) (λ p. dropped_thins kind index p) a

  pub number_accords : (s : State) (x : Delivery) → Accords rest s → Accords rest (number_taken s x)
  number_accords s delivery.Express a = record {
    places = a.places;
    plain = a.plain;
    rows = a.rows;
    marks = a.marks;
    next = let low = a.next.0 in let high = a.next.1 in after s.next_express low high;
    linked = a.linked;
    cursors = a.cursors;
    owes = a.owes;
  }
    where
      other : (n limit : ℕ) → (n == limit) ≡ false → n ≤ limit → n + 1 ≤ limit
      other n limit e le = grind (arith, nat_tests)

      by : (n : ℕ) (b : Bool) → (n == MAX_EXPRESS) ≡ b → FIRST_EXPRESS ≤ n → n ≤ MAX_EXPRESS
          → (FIRST_EXPRESS ≤ cond b FIRST_EXPRESS (n + 1)) × (cond b FIRST_EXPRESS (n + 1) ≤ MAX_EXPRESS)
      by n true e low high = (omega arith, omega arith)
      by n false e low high = (omega (arith, low), other n MAX_EXPRESS e high)

      after : (n : ℕ) → FIRST_EXPRESS ≤ n → n ≤ MAX_EXPRESS → (FIRST_EXPRESS ≤ express_after n) × (express_after n ≤ MAX_EXPRESS)
      after n low high = by n (n == MAX_EXPRESS) refl low high
  number_accords s delivery.Recoverable a = record { places = a.places; plain = a.plain; rows = a.rows; marks = a.marks; next = a.next; linked = a.linked; cursors = a.cursors; owes = a.owes }
  number_accords s delivery.Transactional a = record { places = a.places; plain = a.plain; rows = a.rows; marks = a.marks; next = a.next; linked = a.linked; cursors = a.cursors; owes = a.owes }

  pub numbers_accord : (s : State) (n : ℕ) → Accords rest s → Accords rest (record s { next_number = n })
  numbers_accord s n a = record { places = a.places; plain = a.plain; rows = a.rows; marks = a.marks; next = a.next; linked = a.linked; cursors = a.cursors; owes = a.owes }

  -- other rows stand in the state, at least as many
  pub rows_accord : (s : State) (outs : List Row) → AllByRecursion RowHeld outs → length s.outs ≤ length outs → Accords rest s → Accords rest (record s { outs = outs })
  rows_accord s outs held le a = record {
    places = a.places;
    plain = a.plain;
    rows = held;
    marks = a.marks;
    next = a.next;
    linked = a.linked;
    cursors = let few = a.cursors in omega (arith, le, few);
    owes = a.owes;
  }

  pub ordinal_accords : (s : State) (n : ℕ) → Accords rest s → Accords rest (record s { next_ordinal = n })
  ordinal_accords s n a = record { places = a.places; plain = a.plain; rows = a.rows; marks = a.marks; next = a.next; linked = a.linked; cursors = a.cursors; owes = a.owes }

-- another rest accords where its session is one, and what it knows of rows is not more than the rows
pub rests_accord : (rest after : Rest) (s : State) → IsLinked s.identity s.peers s.plain after.session → length after.cursors ≤ length s.outs → length after.owes ≤ length s.ins
    → Accords rest s → Accords after s
rests_accord rest after s linked cursors owes a = record {
  places = a.places;
  plain = a.plain;
  rows = a.rows;
  marks = a.marks;
  next = a.next;
  linked = linked;
  cursors = cursors;
  owes = owes;
}

-- other incoming rows stand in the state
pub ins_accord : (rest after : Rest) (s : State) (ins : List InRow) → after.session ≡ rest.session → length after.cursors ≤ length s.outs → length after.owes ≤ length ins
    → Accords rest s → Accords after (record s { ins = ins })
ins_accord rest after s ins e cursors owes a = record {
  places = a.places;
  plain = a.plain;
  rows = a.rows;
  marks = a.marks;
  next = a.next;
  linked = subst (IsLinked s.identity s.peers s.plain) (sym e) a.linked;
  cursors = cursors;
  owes = owes;
}
