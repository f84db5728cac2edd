-- What a start of a manager over its disk comes to.
use Rattle.std.proofs.Common.{inl, inr, ap, cond, refl, sym, subst, ◌∙◌, arith, ⊎_elim}
use Rattle.std.proofs.lemmas.Bool.Decides.{nat_tests}
use Rattle.std.specs.Cmp.Lexicographic.{bytes_decides}
use Rattle.std.specs.Option.{option_map_or}
use Rattle.std.specs.Prelude.{[], ◌+◌, ◌==◌, ◌∷◌, ◌≡◌, ◌⊎◌, Bool, IfSome, IsSome, List, None}
use Rattle.std.specs.Prelude.{Option, Some, false, fold, length, map, not, option_and_then, true, ℕ}
use Rattle.mqb_base.specs.Same.{same_guid}
use Rattle.mqb_base.specs.declared.ids.Guid.{Guid}
use Rattle.mqb_base.specs.declared.ledger.Line.{Line}
use Rattle.mqb_outside.specs.Disk.{IsSettled, View}
use Rattle.mqb_outside.specs.Images.{Each}
use Rattle.mqb_journal.specs.Store.{After, Base, Nothing, StandsFor}
use Rattle.mqb_model.specs.laws.Durable.{DurableIsApplied}
use Rattle.mqb_model.specs.managers.Manager.{Condition, Down, Up, doubt_of, is_down, unlinked}
use Rattle.mqb_model.specs.managers.Outcomes.{recorded}
use Rattle.mqb_model.specs.managers.Restarts.{lines_in_doubt, restarted, unread}
use Rattle.mqb_model.specs.managers.Valid.{IsValidManager, IsWritable}
use Rattle.mqb_model.specs.records.Applying.{apply, fits, lines_of}
use Rattle.mqb_model.specs.records.Folding.{applied_after, state_of}
use Rattle.mqb_model.specs.records.Record.{Record}
use Rattle.mqb_model.specs.records.Record as entry
use Rattle.mqb_model.specs.rules.Effects.{Effect}
use Rattle.mqb_model.specs.state.Durable.{durable, durable_places, durable_plain, durable_queue}
use Rattle.mqb_model.specs.state.State.{State}
use Rattle.mqb_model.specs.state.Valid.{IsValidState}
use Rattle.mqb_plain.specs.Lists.{unmarked, unsent}
use Rattle.mqb_plain.specs.Plain.{PlainLists}
use Rattle.mqb_plain.specs.declared.outgoing.Outgoing.{Outgoing}
use Rattle.mqb_queue.specs.Places.{Queue}
use Rattle.mqb_network.specs.mqb_store_laws.lemmas.Carrying.{opens_now}
use Rattle.mqb_network.specs.mqb_store_laws.Images.{HasLastLines, Opens, OpensTo, begins_as}
use Rattle.mqb_network.specs.mqb_store_laws.Images.{last_lines, of_guid, records_in, state_at}
use Rattle.mqb_network.specs.mqb_store_laws.Images.{state_by, state_in}
use Rattle.mqb_network.specs.mqb_store_laws.Faults.{IsBadStore}
use Rattle.mqb_network.specs.mqb_store_laws.Laws.{ImagesOpenToOne, OpenedIsNotBad}
use Rattle.mqb_network.specs.mqb_store_laws.Settling.{OnlySettles}
use Rattle.mqb_manager.specs.States.{IsOnDisk, IsUp, ManagerState, manager_of}
use Rattle.mqb_moves.specs.Calling.{seat_of}
use Rattle.mqb_moves.specs.lemmas.Calling.{not_up_of}
use Rattle.mqb_moves.specs.Seats.{IsHeldOn, SeatState, seated}

-- What a store has of a state is what it has of that again.

unmarked_again : (items : List Outgoing) → unmarked (unmarked items) ≡ unmarked items
unmarked_again [] = refl
unmarked_again (o ∷ items) = ap (λ os. unsent o.message ∷ os) (unmarked_again items)

abbrev recoverable_alone : List Outgoing → PlainLists
recoverable_alone os = record { recoverable = os; express = [] }

plain_again : (ps : List PlainLists)
    → map durable_plain (map durable_plain ps) ≡ map durable_plain ps
plain_again [] = refl
plain_again (p ∷ ps) = ap (λ os. recoverable_alone os ∷ map durable_plain (map durable_plain ps))
    (unmarked_again p.recoverable)
    ∙ ap (λ rest. durable_plain p ∷ rest) (plain_again ps)

queues_again : (qs : List Queue) → map durable_queue (map durable_queue qs) ≡ map durable_queue qs
queues_again [] = refl
queues_again (q ∷ qs) = ap (λ rest. durable_queue q ∷ rest) (queues_again qs)

abbrev with_lists : State → List PlainLists → List Queue → State
with_lists s ps qs =
    record (durable s) { plain = ps; places = record (durable_places s.places) { queues = qs } }

pub durable_again : (s : State) → durable (durable s) ≡ durable s
durable_again s = ap (λ ps. with_lists s ps (map durable_queue (map durable_queue s.places.queues)))
    (plain_again s.plain)
    ∙ ap (λ qs. with_lists s (map durable_plain s.plain) qs) (queues_again s.places.queues)

-- One GUID, and one list of lines.

-- an image stands for one base and one list of records (`stands_for_one_list`)
abbrev pub StandsForOneList : Type 0
StandsForOneList = (guid other image : List ℕ) (base later : Base) (records more : List (List ℕ))
    → StandsFor guid base records image
    → StandsFor other later more image → (base ≡ later) × (records ≡ more)

guid_is : (a b : Guid) → same_guid a b ≡ true → a ≡ b
guid_is a b same = ap (λ (x : List ℕ). record { 0 = x }) ((bytes_decides a.0 b.0).0 same)

begins_one : (g h : Guid) (rs : List Record) → begins_as g rs ≡ true → begins_as h rs ≡ true → g ≡ h
begins_one g h (entry.Identity identity ∷ rs) one other =
    sym (guid_is identity.guid g one) ∙ guid_is identity.guid h other
begins_one g h rs one other = absurd (let none : ⊥ = cc in none)

-- records that stand for a state in a store begin with its GUID
begins_by : (g : Guid) (rs : List Record) (s : State) → state_by g Nothing rs ≡ Some s
    → begins_as g rs ≡ true
begins_by g rs s is = at (begins_as g rs) refl is
  where
    at : (b : Bool) → begins_as g rs ≡ b → cond b (state_of rs) None ≡ Some s
        → begins_as g rs ≡ true
    at true e is = e
    at false e is = absurd (let none : ⊥ = cc in none)

-- behind no state there is none
none_stays : (rs : List Record) → fold applied_after None rs ≡ None
none_stays [] = refl
none_stays (r ∷ rs) = none_stays rs

-- a state on which records stand for one has the store's GUID
base_by : (g : Guid) (t : State) (rs : List Record) (s : State)
    → fold applied_after (of_guid g t) rs ≡ Some s → same_guid t.identity.guid g ≡ true
base_by g t rs s is = at (same_guid t.identity.guid g) refl is
  where
    at : (b : Bool) → same_guid t.identity.guid g ≡ b
        → fold applied_after (cond b (Some t) None) rs ≡ Some s → same_guid t.identity.guid g ≡ true
    at true e is = e
    at false e is = absurd (let no : None ≡ Some s = sym (none_stays rs) ∙ is in cc)

base_one : (g h : Guid) (o : Option State) (rs : List Record) (s t : State)
    → fold applied_after (option_and_then (of_guid g) o) rs ≡ Some s
    → fold applied_after (option_and_then (of_guid h) o) rs ≡ Some t → g ≡ h
base_one g h None rs s t one other =
    absurd (let no : None ≡ Some s = sym (none_stays rs) ∙ one in cc)
base_one g h (Some u) rs s t one other = sym (guid_is u.identity.guid g (base_by g u rs s one))
    ∙ guid_is u.identity.guid h (base_by h u rs t other)

one_by : (g h : Guid) (base : Base) (o : Option (List Record)) (s t : State)
    → option_and_then (state_by g base) o ≡ Some s
    → option_and_then (state_by h base) o ≡ Some t → g ≡ h
one_by g h base None s t one other = absurd (let none : ⊥ = cc in none)
one_by g h Nothing (Some rs) s t one other =
    begins_one g h rs (begins_by g rs s one) (begins_by h rs t other)
one_by g h (After count bytes) (Some rs) s t one other =
    base_one g h (state_at bytes) rs s t one other

-- an image opens under one GUID
pub one_guid : StandsForOneList → (g h : Guid) (count more : ℕ) (s t : State) (c : List ℕ)
    → OpensTo g count s c → OpensTo h more t c → g ≡ h
one_guid lists g h count more s t c one other =
    let same =
    lists g.0 h.0 c one.base other.base one.entries other.entries one.stands other.stands in
    one_by g h one.base (records_in one.entries) s t one.state
    (ap (λ (b : Base). state_in h b one.entries) same.0 ∙ ap (state_in h other.base) same.1
    ∙ other.state)

-- an image has one list of last lines
pub one_lines : StandsForOneList → (g h : Guid) (a b : List Line) (c : List ℕ) → g ≡ h
    → HasLastLines g a c → HasLastLines h b c → a ≡ b
one_lines lists g h a b c guid one other =
    let same =
    lists g.0 h.0 c one.base other.base one.entries other.entries one.stands other.stands in
    one.added ∙ ap (λ (k : Guid). last_lines k one.base one.entries) guid
    ∙ ap (λ (b : Base). last_lines h b one.entries) same.0
    ∙ ap (last_lines h other.base) same.1 ∙ sym other.added

-- What an image of a disk that is held opens to.

-- It has the record in doubt.
pub record HasDoubt (s : SeatState) (c : List ℕ) : Type 0 where
  pub doubt : Record
  pub is : doubt_of (seated s).condition ≡ Some doubt
  pub down : is_down (seated s) ≡ true
  pub opens : OpensTo s.manager.store.journal.guid (s.manager.store.journal.count + 1)
      (durable (apply s.manager.store.state doubt)) c
  pub lines : HasLastLines s.manager.store.journal.guid (lines_of s.manager.store.state doubt) c

-- it has what there was, or the record in doubt besides
abbrev pub IsFound : SeatState → List ℕ → Type 0
IsFound s c = OpensTo s.manager.store.journal.guid s.manager.store.journal.count
    (durable s.manager.store.state) c ⊎ HasDoubt s c

found_by : (s : SeatState) (c : List ℕ) (o : Option Record) → doubt_of (seated s).condition ≡ o
    → is_down (seated s) ≡ true
    → Opens s.manager.store.journal s.manager.store.state o c → IsFound s c
found_by s c None is down opens = inl opens
found_by s c (Some r) is down opens = ⊎_elim (λ old. inl old)
    (λ new. inr (record { doubt = r; is = is; down = down; opens = new.0; lines = new.1 })) opens

-- each image is found so
pub found : (d : View) (s : SeatState) (c : List ℕ) → IsHeldOn d s → d.leaves c → IsFound s c
found d s c held left = at (is_down (seated s)) refl
  where
    at : (b : Bool) → is_down (seated s) ≡ b → IsFound s c
    at true down = found_by s c (doubt_of (seated s).condition) refl down (held.opens down c left)
    at false up = inl (opens_now d s.manager.store.journal s.manager.store.state (held.on up) c
        (held.settled up c left))

-- The manager that is held has the state of its store, and what that has with a record.

seated_state : (s : SeatState) → durable (seated s).state ≡ durable s.manager.store.state
seated_state s = at s.unread
  where
    at : (b : Bool) → durable (cond b (unread (manager_of s.manager)) (manager_of s.manager)).state
        ≡ durable s.manager.store.state
    at true = durable_again s.manager.store.state
    at false = refl

applied_again : DurableIsApplied → (s : State) (r : Record) → IsValidState s → fits s r ≡ true
    → durable (apply (durable s) r) ≡ durable (apply s r)
applied_again law s r valid fit =
    ap (λ (e : Effect). durable e.state) (law s r valid fit) ∙ durable_again (apply s r)

seated_applied : DurableIsApplied → (s : SeatState) (r : Record)
    → IsValidState s.manager.store.state → fits s.manager.store.state r ≡ true
    → durable (apply (seated s).state r) ≡ durable (apply s.manager.store.state r)
seated_applied law s r valid fit = at s.unread
  where
    at : (b : Bool)
        → durable (apply (cond b (unread (manager_of s.manager)) (manager_of s.manager)).state r)
        ≡ durable (apply s.manager.store.state r)
    at true = applied_again law s.manager.store.state r valid fit
    at false = refl

seated_doubt : (s : SeatState)
    → doubt_of (seated s).condition ≡ doubt_of (manager_of s.manager).condition
seated_doubt s = at s.unread
  where
    at : (b : Bool)
        → doubt_of (cond b (unread (manager_of s.manager)) (manager_of s.manager)).condition
        ≡ doubt_of (manager_of s.manager).condition
    at true = refl
    at false = refl

fits_in_doubt : (s : SeatState) (r : Record) → IsValidManager (manager_of s.manager)
    → doubt_of (seated s).condition ≡ Some r → fits s.manager.store.state r ≡ true
fits_in_doubt s r valid is =
    (subst (λ (o : Option Record). IfSome o (IsWritable s.manager.store.state))
    (sym (seated_doubt s) ∙ is) valid.doubt).fits

lines_seated : DurableIsApplied → (s : SeatState) (r : Record) → IsValidState s.manager.store.state
    → fits s.manager.store.state r ≡ true
    → lines_of (seated s).state r ≡ lines_of s.manager.store.state r
lines_seated law s r valid fit = at s.unread
  where
    at : (b : Bool)
        → lines_of (cond b (unread (manager_of s.manager)) (manager_of s.manager)).state r
        ≡ lines_of s.manager.store.state r
    at true = ap (λ (e : Effect). e.lines) (law s.manager.store.state r valid fit)
    at false = refl

-- What a start tells of the manager on a disk.
pub record Starts (e f : View) (n : ManagerState) : Type 0 where
  pub manager : manager_of n ≡ unlinked n.store.state
  pub on : IsOnDisk f n
  pub up : IsUp n
  pub opens : Each e.reads (OpensTo n.store.journal.guid n.store.journal.count n.store.state)
  pub lines : Each e.reads (HasLastLines n.store.journal.guid n.store.lines)
  pub settled : IsSettled f

-- A manager was started again over a store that has the record in doubt, or not.
pub record Restarts (f : View) (s : SeatState) (n : ManagerState) (kept : Bool) : Type 0 where
  pub manager : manager_of n ≡ restarted (seated s) kept
  pub count : n.store.journal.count ≡ s.manager.store.journal.count + cond kept 1 0
  pub doubt : kept ≡ true → IsSome (doubt_of (seated s).condition)
  pub lines : kept ≡ true → n.store.lines ≡ lines_in_doubt (seated s)
  pub held : IsHeldOn f (seat_of n)

clash : (b : Bool) → b ≡ true → b ≡ false → ⊥
clash true is not = let none : ⊥ = cc in none
clash false is not = let none : ⊥ = cc in none

-- the disk of a manager that was started is held
held_then : (e f : View) (n : ManagerState) → length n.store.journal.guid.0 ≡ 16 → Starts e f n
    → IsHeldOn f (seat_of n)
held_then e f n whole starts = record {
  whole = whole;
  on = λ _. starts.on;
  settled = λ _. starts.settled;
  opens = λ down. absurd (not_up_of n down starts.up);
}

module _ (opened : ImagesOpenToOne) (lists : StandsForOneList) (law : DurableIsApplied)
    (d e f : View) (s : SeatState) (n : ManagerState)
    (valid : IsValidManager (manager_of s.manager))
    (held : IsHeldOn d s) (starts : Starts e f n) (c : List ℕ) (told : e.reads c)
    (left : d.leaves c) where
  abbrev kept : Bool
  kept = not (n.store.journal.count == s.manager.store.journal.count)

  with_old : OpensTo s.manager.store.journal.guid s.manager.store.journal.count
      (durable s.manager.store.state) c → Restarts f s n kept
  with_old old =
      let one = opened n.store.journal.guid s.manager.store.journal.guid n.store.journal.count
      s.manager.store.journal.count n.store.state (durable s.manager.store.state) c
      (starts.opens c told) old in
      let guid = one_guid lists n.store.journal.guid s.manager.store.journal.guid
      n.store.journal.count s.manager.store.journal.count n.store.state
      (durable s.manager.store.state) c (starts.opens c told) old in
      let not_kept : kept ≡ false = let count = one.0 in grind (arith, nat_tests) in
      subst (Restarts f s n) (sym not_kept) (record {
        manager = starts.manager ∙ ap unlinked (one.1 ∙ sym (seated_state s));
        count = omega (arith, one.0);
        doubt = λ kept. absurd (clash true refl (sym kept));
        lines = λ kept. absurd (clash true refl (sym kept));
        held = held_then e f n (ap (λ (g : Guid). length g.0) guid ∙ held.whole) starts;
      })

  with_doubt : HasDoubt s c → Restarts f s n kept
  with_doubt x =
      let one = opened n.store.journal.guid s.manager.store.journal.guid n.store.journal.count
      (s.manager.store.journal.count + 1) n.store.state
      (durable (apply s.manager.store.state x.doubt)) c (starts.opens c told) x.opens in
      let guid =
      one_guid lists n.store.journal.guid s.manager.store.journal.guid n.store.journal.count
      (s.manager.store.journal.count + 1) n.store.state
      (durable (apply s.manager.store.state x.doubt)) c (starts.opens c told) x.opens in
      let fit = fits_in_doubt s x.doubt valid x.is in
      let is_kept : kept ≡ true = let count = one.0 in grind (arith, nat_tests) in
      let told_lines =
      one_lines lists n.store.journal.guid s.manager.store.journal.guid n.store.lines
      (lines_of s.manager.store.state x.doubt) c guid (starts.lines c told) x.lines in
      subst (Restarts f s n) (sym is_kept) (record {
        manager = starts.manager
            ∙ ap unlinked (one.1 ∙ sym (seated_applied law s x.doubt valid.state fit))
            ∙ ap (λ (o : Option Record). unlinked (durable (recorded (seated s).state o)))
            (sym x.is);
        count = omega (arith, one.0);
        doubt = λ kept. subst (λ (o : Option Record). IsSome o) (sym x.is) refl;
        lines = λ kept. told_lines
            ∙ sym (lines_seated law s x.doubt valid.state fit)
            ∙ ap (λ (o : Option Record). option_map_or (lines_of (seated s).state) o []) (sym x.is);
        held = held_then e f n (ap (λ (g : Guid). length g.0) guid ∙ held.whole) starts;
      })

  -- The count of records tells whether the record in doubt was kept.
  pub restarts_so : Restarts f s n kept
  restarts_so = ⊎_elim with_old with_doubt (found d s c held left)

-- Where the start fails.

abbrev pub unread_seat : SeatState → SeatState
unread_seat s = record s { unread = true }

-- it is as one that cannot read its store
pub unread_is : (s : SeatState) → seated (unread_seat s) ≡ unread (seated s)
unread_is s = at s.unread
  where
    at : (b : Bool) → unread (manager_of s.manager)
        ≡ unread (cond b (unread (manager_of s.manager)) (manager_of s.manager))
    at true = ap (λ (t : State).
        record (unlinked t) { condition = Down (doubt_of (manager_of s.manager).condition) })
        (sym (durable_again s.manager.store.state))
    at false = refl

no_doubt_by : (c : Condition) → elim c [ Up ↦ false | Down doubt ↦ true ] ≡ false
    → doubt_of c ≡ None
no_doubt_by Up up = refl
no_doubt_by (Down doubt) up = absurd (clash true refl up)

no_doubt : (s : SeatState) → is_down (seated s) ≡ false
    → doubt_of (manager_of s.manager).condition ≡ None
no_doubt s up = sym (seated_doubt s) ∙ no_doubt_by (seated s).condition up

module _ (d e f : View) (s : SeatState) (held : IsHeldOn d s) (settled : IsSettled e)
    (one_of : Each e.reads d.leaves) (settles : OnlySettles e f) where
  before : (c : List ℕ) → f.leaves c → d.leaves c
  before c left = one_of c (settled c (settles.run.now c left))

  opens_still : (c : List ℕ) → f.leaves c → Opens s.manager.store.journal s.manager.store.state
      (doubt_of (manager_of s.manager).condition) c
  opens_still c left = at (is_down (seated s)) refl
    where
      at : (b : Bool) → is_down (seated s) ≡ b → Opens s.manager.store.journal s.manager.store.state
          (doubt_of (manager_of s.manager).condition) c
      at true down =
          subst (λ (o : Option Record). Opens s.manager.store.journal s.manager.store.state o c)
          (seated_doubt s) (held.opens down c (before c left))
      at false up =
          subst (λ (o : Option Record). Opens s.manager.store.journal s.manager.store.state o c)
          (sym (no_doubt s up))
          (opens_now d s.manager.store.journal s.manager.store.state (held.on up) c
          (held.settled up c (before c left)))

  -- The disk of a manager whose start failed is held.
  pub held_unread : IsHeldOn f (unread_seat s)
  held_unread = record {
    whole = held.whole;
    on = λ up. absurd (clash true refl up);
    settled = λ up. absurd (clash true refl up);
    opens = λ down. opens_still;
  }

-- A disk that is held is a store.
pub not_bad : OpenedIsNotBad → (d e : View) (s : SeatState) → IsHeldOn d s → Each e.reads d.leaves
    → (c : List ℕ) → e.reads c → (at : ℕ) → Each e.reads (IsBadStore at) → ⊥
not_bad law d e s held one_of c told at bad = ⊎_elim
    (λ old. law s.manager.store.journal.guid s.manager.store.journal.count at
    (durable s.manager.store.state) c held.whole old (bad c told))
    (λ (x : HasDoubt s c). law s.manager.store.journal.guid (s.manager.store.journal.count + 1) at
    (durable (apply s.manager.store.state x.doubt)) c held.whole x.opens (bad c told))
    (found d s c held (one_of c told))
