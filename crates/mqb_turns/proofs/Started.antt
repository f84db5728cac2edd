-- A manager that is started again.
use Rattle.std.proofs.Common.{◌≡◌, ℕ, Bool, true, false, cond, List, [], None, Ok, Option, Some, refl, sym, ap, subst, ◌∙◌}
use Rattle.std.proofs.lemmas.List.{append-nil}
use Rattle.std.specs.Option.{option_map_or}
use Rattle.std.specs.Prelude.{◌+◌, is_some, not}
use Rattle.mqb_base.specs.declared.ledger.Line.{Line}
use Rattle.mqb_outside.specs.Disk.{View}
use Rattle.mqb_journal.specs.States.{JournalState}
use Rattle.mqb_model.specs.managers.Manager.{Condition, Down, Manager, Up, doubt_of, is_down}
use Rattle.mqb_model.specs.managers.Restarts.{lines_in_doubt, restarted, unread}
use Rattle.mqb_model.specs.records.Record.{Record}
use Rattle.mqb_seats.specs.Holding.{StaysStored}
use Rattle.mqb_seats.specs.Seats.{IsHeldOn, SeatState, records_of, seated}
use Rattle.mqb_network.specs.Changes.{ended, with_lines}
use Rattle.mqb_network.specs.Choices as choice
use Rattle.mqb_network.specs.Courses.{Course, course_from, moved}
use Rattle.mqb_network.specs.Network.{Network, manager_at, with_manager}
use Rattle.mqb_network.specs.Replies as network
use Rattle.mqb_network.specs.Restarting.{reopen}
use Rattle.mqb_script.specs.declared.managers.Which.{Which}
use Rattle.mqb_seats.specs.Opened.{IsOpened, NotOpened, OpenedKept, OpenedSame}
use Rattle.mqb_seats.specs.declared.restarting.Opened.{Opened}
use Rattle.mqb_seats.specs.declared.restarting.Opened.TheVariants as opened
use Rattle.mqb_traffic.specs.Networks.{index_of}
use Rattle.mqb_traffic.specs.States.{TrafficState}
use Rattle.mqb_transcript.specs.declared.replies.Reply.{Reply}
use Rattle.mqb_transcript.specs.declared.replies.Reply.TheVariants as reply
use Rattle.mqb_turns.specs.Replies.{told}
use Rattle.mqb_turns.specs.Settling.{IsNoted, IsParted}
use Rattle.mqb_turns.specs.Starts.{FailsInStart, IsStarted, IsToldByRecords, opened_reply, was_kept}
use Rattle.mqb_turns.specs.Sides.{Side, network_at, side}
use Rattle.mqb_turns.specs.lemmas.Counting.{counts_called, counts_quiet}
use Rattle.mqb_turns.proofs.Turning.{own_at, with_own}

no_lines : (m : Network) → with_lines [] m ≡ m
no_lines m = ap (λ (ls : List Line). record m { ledger = ls }) (append-nil m.ledger)

-- a record that there is, is one
one_record : (q : Option Record) → is_some q ≡ true → ◌≡◌ {A = ℕ} (option_map_or (λ _. 1) q 0) 1
one_record (Some r) some = refl
one_record None some = absurd (let none : ⊥ = cc in none)

-- one that is up has no doubt
up_has_none : (c : Condition) → elim c [ Up ↦ false | Down doubt ↦ true ] ≡ false → is_some (doubt_of c) ≡ true → ⊥
up_has_none Up up some = let none : ⊥ = cc in none
up_has_none (Down doubt) up some = let none : ⊥ = cc in none

-- where the doubt stays
doubt_before : (s t : SeatState) → StaysStored s t → is_some (doubt_of (seated t).condition) ≡ true → is_some (doubt_of (seated s).condition) ≡ true
doubt_before s t stays some = at (is_down (seated s)) refl
  where
    at : (b : Bool) → is_down (seated s) ≡ b → is_some (doubt_of (seated s).condition) ≡ true
    at true down = subst (λ (k : SeatState). is_some (doubt_of (seated k).condition) ≡ true) (stays.same down) some
    at false up = absurd (up_has_none (seated t).condition (stays.down ∙ up) some)

module _ (which : Which) (s s1 t o o1 : SeatState) (u u1 : TrafficState) (y : Side) (d e : View) (given : Reply) (parted : IsParted which (side s o u) (side s1 o1 u1)) where
  abbrev n : Network
  n = network_at which (side s o u)

  abbrev i : ℕ
  i = index_of which

  -- its connection has ended
  abbrev c1 : Course
  c1 = moved (ended i) (course_from n)

  abbrev own : Manager
  own = manager_at c1.network i

  own_is : own ≡ seated s1
  own_is = ap (λ (k : Network). manager_at k i) (parted.network which) ∙ own_at which (side s1 o1 u1)

  -- another manager in its place
  abbrev left : Network
  left = network_at which (side t o1 u1)

  placed : with_manager c1.network i (seated t) ≡ left
  placed = ap (λ (k : Network). with_manager k i (seated t)) (parted.network which) ∙ with_own which s1 t o1 u1

  before_down : is_down (manager_at n i) ≡ is_down (seated s1)
  before_down = ap is_down (own_at which (side s o u)) ∙ sym parted.own.down

  beside_so : y.other ≡ o1 → StaysStored o y.other
  beside_so is = subst (StaysStored o) (sym is) parted.beside

  held_so : IsHeldOn e t → y.own ≡ t → IsHeldOn e y.own
  held_so held is = subst (IsHeldOn e) (sym is) held

  -- the records of what was started, by those from before the connection ended
  records_so : (k : ℕ) → records_of t ≡ records_of s1 + k → y.own ≡ t → records_of y.own ≡ records_of s + k
  records_so k is same = ap records_of same ∙ is ∙ ap (λ (j : JournalState). j.count + k) parted.own.journal

  same_records : records_of t ≡ records_of s1 → y.own ≡ t → records_of y.own ≡ records_of s
  same_records is same = ap records_of same ∙ is ∙ ap (λ (j : JournalState). j.count) parted.own.journal

  opened_same : (was_down : Bool) → was_down ≡ is_down (seated s1) → OpenedSame d e s1 t → IsNoted which (side t o1 u1) y false
      → given ≡ opened_reply was_down y.own.manager.store.lines opened.Same → IsStarted which (side s o u) y d e given
  opened_same true is same noted given_is = record {
    choice = choice.Lost;
    may = before_down ∙ sym is;
    reply = ap told told_lost ∙ ap Ok (sym given_is);
    network = ap (λ (m : Manager). with_manager c1.network i (restarted m false)) own_is ∙ ap (with_manager c1.network i) (sym same.manager) ∙ placed ∙ sym (no_lines left) ∙ sym noted.0;
    sent = refl;
    counted = counts_quiet which (side s o u) y (same_records same.count noted.1) (beside_so noted.2);
    held = held_so same.held noted.1;
    beside = beside_so noted.2;
    records = subst (λ (r : Reply). IsToldByRecords r (records_of s) (records_of y.own)) (sym given_is) (same_records same.count noted.1);
    faults = subst (FailsInStart d.faults e.faults) (sym told_lost) same.faults;
  }
    where
      told_lost : (reopen i choice.Lost c1).reply ≡ network.OpenedLost
      told_lost = ap (λ (b : Bool). cond b network.OpenedLost network.Opened) (ap is_down own_is ∙ sym is)
  opened_same false is same noted given_is = record {
    choice = choice.Well;
    may = ap not (before_down ∙ sym is);
    reply = ap told told_opened ∙ ap Ok (sym given_is);
    network = ap (λ (m : Manager). with_manager c1.network i (restarted m false)) own_is ∙ ap (with_manager c1.network i) (sym same.manager) ∙ placed ∙ sym (no_lines left) ∙ sym noted.0;
    sent = refl;
    counted = counts_quiet which (side s o u) y (same_records same.count noted.1) (beside_so noted.2);
    held = held_so same.held noted.1;
    beside = beside_so noted.2;
    records = subst (λ (r : Reply). IsToldByRecords r (records_of s) (records_of y.own)) (sym given_is) (same_records same.count noted.1);
    faults = subst (FailsInStart d.faults e.faults) (sym told_opened) same.faults;
  }
    where
      told_opened : (reopen i choice.Well c1).reply ≡ network.Opened
      told_opened = ap (λ (b : Bool). cond b network.OpenedLost network.Opened) (ap is_down own_is ∙ sym is)

  opened_kept : (was_down : Bool) → OpenedKept d e s1 t → IsNoted which (side t o1 u1) y true
      → given ≡ opened_reply was_down y.own.manager.store.lines opened.Kept → IsStarted which (side s o u) y d e given
  opened_kept was_down kept noted given_is = record {
    choice = choice.Kept;
    may = ap (λ (m : Manager). is_some (doubt_of m.condition)) (own_at which (side s o u)) ∙ doubt_before s s1 parted.own kept.doubt;
    reply = ap (λ (m : Manager). told (network.OpenedKept (lines_in_doubt m))) own_is ∙ ap (λ (ls : List Line). Ok (reply.OpenedKept ls)) (sym kept.lines)
        ∙ ap (λ (k : SeatState). Ok (reply.OpenedKept k.manager.store.lines)) (sym noted.1) ∙ ap Ok (sym given_is);
    network = ap (λ (m : Manager). with_lines (lines_in_doubt m) (with_manager c1.network i (restarted m true))) own_is
        ∙ ap (λ (m : Manager). with_lines (lines_in_doubt (seated s1)) (with_manager c1.network i m)) (sym kept.manager)
        ∙ ap (with_lines (lines_in_doubt (seated s1))) placed ∙ ap (λ (ls : List Line). with_lines ls left) (sym kept.lines) ∙ sym noted.0;
    sent = refl;
    counted = counts_called which (side s o u) y own (doubt_of own.condition) (records_so 1 kept.count noted.1 ∙ ap (λ (k : ℕ). records_of s + k) (sym one)) (beside_so noted.2);
    held = held_so kept.held noted.1;
    beside = beside_so noted.2;
    records = subst (λ (r : Reply). IsToldByRecords r (records_of s) (records_of y.own)) (sym given_is) (records_so 1 kept.count noted.1);
    faults = kept.faults;
  }
    where
      one : ◌≡◌ {A = ℕ} (option_map_or (λ _. 1) (doubt_of own.condition) 0) 1
      one = one_record (doubt_of own.condition) (subst (λ (m : Manager). is_some (doubt_of m.condition) ≡ true) (sym own_is) kept.doubt)

  not_opened : (was_down : Bool) → NotOpened d e s1 t → IsNoted which (side t o1 u1) y false
      → given ≡ opened_reply was_down y.own.manager.store.lines opened.Unread → IsStarted which (side s o u) y d e given
  not_opened was_down failed noted given_is = record {
    choice = choice.Unread;
    may = refl;
    reply = ap Ok (sym given_is);
    network = ap (λ (m : Manager). with_manager c1.network i (unread m)) own_is ∙ ap (with_manager c1.network i) (sym failed.manager) ∙ placed ∙ sym (no_lines left) ∙ sym noted.0;
    sent = refl;
    counted = counts_quiet which (side s o u) y (same_records failed.count noted.1) (beside_so noted.2);
    held = held_so failed.held noted.1;
    beside = beside_so noted.2;
    records = subst (λ (r : Reply). IsToldByRecords r (records_of s) (records_of y.own)) (sym given_is) (same_records failed.count noted.1);
    faults = failed.faults;
  }

  -- whatever the start came to
  pub started_so : (was_down : Bool) → was_down ≡ is_down (seated s1) → (what : Opened) → IsOpened d e s1 t what → IsNoted which (side t o1 u1) y (was_kept what)
      → given ≡ opened_reply was_down y.own.manager.store.lines what → IsStarted which (side s o u) y d e given
  started_so was_down is opened.Same so noted given_is = opened_same was_down is so noted given_is
  started_so was_down is opened.Kept so noted given_is = opened_kept was_down so noted given_is
  started_so was_down is opened.Unread so noted given_is = not_opened was_down so noted given_is
