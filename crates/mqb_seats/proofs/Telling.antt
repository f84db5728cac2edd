-- What a call of the manager in a seat comes to.
use Rattle.std.proofs.Common.{◌≡◌, ◌==◌, ℕ, inl, inr, Bool, true, false, cond, List, [], None, Some, Result, Ok, Err, refl, sym, ap, subst, ◌∙◌}
use Rattle.std.specs.Prelude.{not}
use Rattle.mqb_base.specs.declared.heard.Heard.{Heard}
use Rattle.mqb_base.specs.declared.ledger.Line.{Line}
use Rattle.mqb_outside.specs.Disk.{Lawful, View}
use Rattle.mqb_moves.specs.Calls.{IsCall}
use Rattle.mqb_moves.specs.States.{ManagerState, manager_of}
use Rattle.mqb_model.specs.calls.hear.Hear.{hear}
use Rattle.mqb_model.specs.declared.faults.HearFault.{HearFault}
use Rattle.mqb_model.specs.declared.faults.HearFault.TheVariants as hears
use Rattle.mqb_model.specs.laws.Validity.{UnreadIsValid}
use Rattle.mqb_model.specs.managers.Manager.{Manager, is_down}
use Rattle.mqb_model.specs.managers.Outcomes.{Outcome, lines_after}
use Rattle.mqb_model.specs.managers.Restarts.{unread}
use Rattle.mqb_model.specs.managers.Valid.{IsValidManager}
use Rattle.mqb_moves.specs.Calling.{seat_of}
use Rattle.mqb_moves.specs.lemmas.Calling.{broke, lines_told, went_well}
use Rattle.mqb_moves.specs.Moves.{IsMove}
use Rattle.mqb_moves.specs.Seats.{IsHeldOn, SeatState, seated}
use Rattle.mqb_store_laws.specs.Laws.{ImagesOpenToOne}
use Rattle.mqb_packet.specs.declared.packet.Packet.{Packet}
use Rattle.mqb_seats.proofs.Lasting.{call_ends}
use Rattle.mqb_seats.specs.Called.{failure_of}
use Rattle.mqb_seats.specs.Lasting.{Lasts}
use Rattle.mqb_seats.specs.Passed.{IsHeard, TellsHeard}
use Rattle.mqb_seats.specs.declared.called.Failure.{Failure}
use Rattle.mqb_seats.specs.declared.packets.Passed.{Passed}
use Rattle.mqb_seats.specs.declared.packets.Passed.TheVariants as passed

-- The manager that is held is valid.

valid_by : UnreadIsValid → (m : ManagerState) (u : Bool) → IsValidManager (manager_of m) → IsValidManager (cond u (unread (manager_of m)) (manager_of m))
valid_by law m true valid = law (manager_of m) valid
valid_by law m false valid = valid

pub seated_valid : UnreadIsValid → (m : ManagerState) (u : Bool) (s : SeatState) → record { manager = m; unread = u } ≡ s → IsValidManager (manager_of m) → IsValidManager (seated s)
seated_valid law m u s is valid = subst (λ (s : SeatState). IsValidManager (seated s)) is (valid_by law m u valid)

-- One that is up was read.

read_by : (m : ManagerState) (u : Bool) → is_down (cond u (unread (manager_of m)) (manager_of m)) ≡ false → u ≡ false
read_by m true up = up
read_by m false up = refl

module _ (d e : View) (m n : ManagerState) (u stopped : Bool) (s : SeatState) (is : record { manager = m; unread = u } ≡ s) (up : is_down (seated s) ≡ false) where
  read : u ≡ false
  read = read_by m u (ap (λ (s : SeatState). is_down (seated s)) is ∙ up)

  pub seat_is : seat_of m ≡ s
  seat_is = ap (λ (b : Bool). seat_with m b) (sym read) ∙ is
    where
      seat_with : ManagerState → Bool → SeatState
      seat_with m b = record { manager = m; unread = b }

  pub manager_up : is_down (manager_of m) ≡ false
  manager_up = ap (λ (s : SeatState). is_down (seated s)) seat_is ∙ up

  abbrev pub after : SeatState
  after = record { manager = n; unread = u }

  pub after_is : seat_of n ≡ after
  after_is = ap (λ (b : Bool). seat_after b) (sym read)
    where
      seat_after : Bool → SeatState
      seat_after b = record { manager = n; unread = b }

  -- however it ends, what the store has lasts
  pub call_lasts : {V E : Type 0} (memory broken : E) (make : Manager → Outcome (Result V E)) (r : Result V E) → IsCall memory broken d e m n (make (manager_of m)) r
      → (memory ≡ broken → ⊥) → ((k : Manager) → (make k).answer ≡ Err broken → ⊥) → ImagesOpenToOne → Lawful e → (c : List ℕ) → e.reads c → IsHeldOn d s → Lasts d e s after
  call_lasts memory broken make r call differ never opened lawful c told held =
      subst (Lasts d e s) after_is
      (subst (λ (k : SeatState). Lasts d e k (seat_of n)) seat_is
      (call_ends opened memory broken d e m n (make (manager_of m)) r call manager_up differ (never (manager_of m)) lawful c told (subst (IsHeldOn d) (sym seat_is) held)))

  -- it is a move, and answers as the definition does
  pub call_went : {V E : Type 0} (memory broken : E) (make : Manager → Outcome (Result V E)) (r : Result V E) → IsCall memory broken d e m n (make (manager_of m)) r
      → (r ≡ Err memory → ⊥) → (r ≡ Err broken → ⊥)
      → IsMove d e s after (make (seated s)) None × (r ≡ (make (seated s)).answer)
      × ((before : ℕ) → before ≡ m.store.journal.count → cond (not (n.store.journal.count == before)) n.store.lines [] ≡ lines_after (seated s) (make (seated s)))
  call_went {V} {E} memory broken make r call rich whole =
      let went = went_well memory broken d e m n (make (manager_of m)) r call manager_up rich whole in (
        subst (λ (t : SeatState). IsMove d e s t (make (seated s)) None) after_is
            (subst (λ (k : SeatState). IsMove d e k (seat_of n) (make (seated k)) None) seat_is went.move),
        subst (λ (k : SeatState). r ≡ (make (seated k)).answer) seat_is went.answer,
        λ before counted. subst (λ (k : SeatState). cond (not (n.store.journal.count == before)) n.store.lines [] ≡ lines_after (seated k) (make (seated k))) seat_is
            (ap (λ (x : ℕ). cond (not (n.store.journal.count == x)) n.store.lines []) counted
            ∙ turned_round (n.store.journal.count == m.store.journal.count) n.store.lines ∙ lines_told m n (make (manager_of m)) went.left),
      )
    where
      turned_round : (b : Bool) (ls : List Line) → cond (not b) ls [] ≡ cond b [] ls
      turned_round true ls = refl
      turned_round false ls = refl

  -- or its disk failed in it
  pub call_failed : {V E : Type 0} (memory broken : E) (make : Manager → Outcome (Result V E)) (r : Result V E) (how : Failure) → IsCall memory broken d e m n (make (manager_of m)) r
      → (memory ≡ broken → ⊥) → ((k : Manager) → (make k).answer ≡ Err broken → ⊥) → r ≡ Err broken
      → IsMove d e s after (make (seated s)) (Some (failure_of how))
  call_failed memory broken make r how call differ never failed =
      subst (λ (t : SeatState). IsMove d e s t (make (seated s)) (Some (failure_of how))) after_is
      (subst (λ (k : SeatState). IsMove d e k (seat_of n) (make (seated k)) (Some (failure_of how))) seat_is
      (broke memory broken d e m n (make (manager_of m)) r call manager_up differ (never (manager_of m)) failed (failure_of how)))

  -- a packet was heard, and is told so
  pub hear_told : (p : Packet) (now : ℕ) (r : Result Heard HearFault) → IsCall hears.Memory hears.DiskFault d e m n (hear (manager_of m) p now) r
      → ((k : Manager) → (hear k p now).answer ≡ Err hears.DiskFault → ⊥) → (before : ℕ) → before ≡ m.store.journal.count
      → (q : Passed) → TellsHeard stopped r (not (n.store.journal.count == before)) q → IsHeard d e stopped s after (hear (seated s) p now) q
  hear_told p now r call never before counted (passed.Heard heard told) (is, recorded) =
      let went = call_went hears.Memory hears.DiskFault (λ k. hear k p now) r call (λ e. clash heard hears.Memory (sym is ∙ e)) (λ e. clash heard hears.DiskFault (sym is ∙ e)) in
      (went.0, sym went.1 ∙ is, ap (λ (b : Bool). cond b n.store.lines []) recorded ∙ went.2 before counted)
    where
      clash : (heard : Heard) (fault : HearFault) → ◌≡◌ {A = Result Heard HearFault} (Ok heard) (Err fault) → ⊥
      clash heard fault same = let none : ⊥ = cc in none
  hear_told p now r call never before counted passed.Gone (inl down) =
      let went = call_went hears.Memory hears.DiskFault (λ k. hear k p now) r call (λ e. wants (sym down ∙ e)) (λ e. fails (sym down ∙ e)) in
      (went.0, (hears.Down, sym went.1 ∙ down))
    where
      wants : ◌≡◌ {A = Result Heard HearFault} (Err hears.Down) (Err hears.Memory) → ⊥
      wants same = let none : ⊥ = cc in none

      fails : ◌≡◌ {A = Result Heard HearFault} (Err hears.Down) (Err hears.DiskFault) → ⊥
      fails same = let none : ⊥ = cc in none
  hear_told p now r call never before counted passed.Gone (inr apart) =
      let went = call_went hears.Memory hears.DiskFault (λ k. hear k p now) r call (λ e. wants (sym apart ∙ e)) (λ e. fails (sym apart ∙ e)) in
      (went.0, (hears.NotLinked, sym went.1 ∙ apart))
    where
      wants : ◌≡◌ {A = Result Heard HearFault} (Err hears.NotLinked) (Err hears.Memory) → ⊥
      wants same = let none : ⊥ = cc in none

      fails : ◌≡◌ {A = Result Heard HearFault} (Err hears.NotLinked) (Err hears.DiskFault) → ⊥
      fails same = let none : ⊥ = cc in none
  hear_told p now r call never before counted (passed.Broke how) (failed, stops) = (
    call_failed hears.Memory hears.DiskFault (λ k. hear k p now) r how call (λ e. let none : ⊥ = cc in none) never failed,
    stops,
  )
