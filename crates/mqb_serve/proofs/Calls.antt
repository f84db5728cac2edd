-- What a call of a manager leaves, by what it answers.
use Rattle.std.proofs.Common.{◌≡◌, ◌+◌, Bool, true, false, cond, List, [], ◌++◌, None, Option, Some, Result, Ok, Err, ℕ, refl, sym, ap, subst, inl, inr, ◌∙◌}
use Rattle.std.specs.Option.{option_map_or}
use Rattle.std.specs.Prelude.{IfErr, IsSome, OnErr, OnOk, flat_map}
use Rattle.mqb_journal.specs.States.{JournalState}
use Rattle.mqb_base.specs.declared.heard.Heard.{Heard}
use Rattle.mqb_packet.specs.Plain.{plain_spelling}
use Rattle.mqb_packet.specs.declared.packet.Packet.{Packet}
use Rattle.mqb_model.specs.calls.hear.Hear.{hear}
use Rattle.mqb_model.specs.calls.pump.Pump.{PumpOutcome, pump}
use Rattle.mqb_model.specs.declared.faults.HearFault.{HearFault}
use Rattle.mqb_model.specs.declared.faults.HearFault.TheVariants as hear_fault
use Rattle.mqb_model.specs.declared.faults.PumpFault.{PumpFault}
use Rattle.mqb_model.specs.declared.faults.PumpFault.TheVariants as pump_fault
use Rattle.mqb_model.specs.laws.Refusals.{RefusalsChangeNothing}
use Rattle.mqb_model.specs.managers.Manager.{Down, Manager, Up}
use Rattle.mqb_model.specs.managers.Outcomes.{Outcome, answering, failed_under, succeeded}
use Rattle.mqb_model.specs.records.Reading.{record_of}
use Rattle.mqb_model.specs.records.Record.{Record}
use Rattle.mqb_manager.specs.Calls.{Ends, FailsUnder, Succeeds}
use Rattle.mqb_manager.specs.States.{IsSame, IsUp, ManagerState, condition_of, manager_of}
use Rattle.mqb_serving.specs.Conversations.{StoredManager, stored_after, stored_under}
use Rattle.mqb_serve.specs.Talking.{stored_of}
use Rattle.mqb_serving.proofs.Never.{IsHearAnswer, IsPumpAnswer, is_hear_answer, is_pump_answer}

errs : {V E : Type 0} (a b : E) → (a ≡ b → ⊥) → ◌≡◌ {A = Result V E} (Err a) (Err b) → ⊥
errs a b differ same = differ (let e : a ≡ b = cc in e)

-- A manager with its records.

both : (a b : Manager) (x y : ℕ) → a ≡ b → x ≡ y → ◌≡◌ {A = StoredManager} (record { manager = a; count = x }) (record { manager = b; count = y })
both a b x y same count =
    ap {B = StoredManager} (λ (k : Manager). record { manager = k; count = x }) same ∙ ap {B = StoredManager} (λ (i : ℕ). record { manager = b; count = i }) count

pub stored_so : {A : Type 0} (m n : ManagerState) (o : Outcome A) → Succeeds m n o → stored_of n ≡ stored_after (stored_of m) o
stored_so m n o s = both (manager_of n) (succeeded (manager_of m) o) n.store.journal.count (m.store.journal.count + option_map_or (λ _. 1) o.entry 0) s.manager s.count

stored_same : (m n : ManagerState) → IsSame m n → stored_of n ≡ stored_of m
stored_same m n s = both (manager_of n) (manager_of m) n.store.journal.count m.store.journal.count s.manager (ap (λ (j : JournalState). j.count) s.store.journal)

some_entry : (o : Option Record) → IsSome o → (r : Record) × (o ≡ Some r)
some_entry (Some r) some = (r, refl)
some_entry None some = absurd (let wrong : ⊥ = cc some in wrong)

-- the record that is in doubt
abbrev pub InDoubt : {A : Type 0} → ManagerState → ManagerState → Outcome A → Type 0
InDoubt m n o = (r : Record) × (o.entry ≡ Some r) × (stored_of n ≡ stored_under (stored_of m) r)

in_doubt : {A : Type 0} (m n : ManagerState) (o : Outcome A) → FailsUnder m n o → InDoubt m n o
in_doubt m n o f = let r = some_entry o.entry f.entry in (
  r.0,
  r.1,
  both (manager_of n) (failed_under (manager_of m) (Some r.0)) n.store.journal.count m.store.journal.count
      (f.manager ∙ ap (λ (e : Option Record). failed_under (manager_of m) e) r.1) f.count,
)

-- neither memory nor the disk was wanting
pub answered_so : {V E : Type 0} (memory broken : E) (m n : ManagerState) (o : Outcome (Result V E)) (r : Result V E) → Ends memory broken m n o r
    → (r ≡ Err memory → ⊥) → (r ≡ Err broken → ⊥) → (r ≡ o.answer) × (stored_of n ≡ stored_after (stored_of m) o)
answered_so memory broken m n o r (inl h) some works = (h.0, stored_so m n o h.1)
answered_so memory broken m n o r (inr (inl h)) some works = absurd (some h.0)
answered_so memory broken m n o r (inr (inr h)) some works = absurd (works h.0)

-- memory was
pub memory_so : {V E : Type 0} (memory broken : E) (m n : ManagerState) (o : Outcome (Result V E)) (r : Result V E) → Ends memory broken m n o r
    → r ≡ Err memory → (memory ≡ broken → ⊥) → (o.answer ≡ Err memory → ⊥) → stored_of n ≡ stored_of m
memory_so memory broken m n o r (inl h) is differ never = absurd (never (sym h.0 ∙ is))
memory_so memory broken m n o r (inr (inl h)) is differ never = stored_same m n h.1
memory_so {V} memory broken m n o r (inr (inr h)) is differ never = absurd (errs {V = V} memory broken differ (sym is ∙ h.0))

-- the disk failed
pub broken_so : {V E : Type 0} (memory broken : E) (m n : ManagerState) (o : Outcome (Result V E)) (r : Result V E) → Ends memory broken m n o r
    → r ≡ Err broken → (memory ≡ broken → ⊥) → (o.answer ≡ Err broken → ⊥) → InDoubt m n o
broken_so memory broken m n o r (inl h) is differ never = absurd (never (sym h.0 ∙ is))
broken_so {V} memory broken m n o r (inr (inl h)) is differ never = absurd (errs {V = V} memory broken differ (sym h.0 ∙ is))
broken_so memory broken m n o r (inr (inr h)) is differ never = in_doubt m n o h.1

-- A manager stays up unless the disk fails.

up_of : (b : Bool) (r : Option Record) → cond b (Down r) Up ≡ Up → b ≡ false
up_of true r same = absurd (let none : ⊥ = cc in none)
up_of false r same = refl

up_if : (m n : ManagerState) → condition_of n.store ≡ condition_of m.store → IsUp m → IsUp n
up_if m n same up = up_of n.store.journal.down (record_of n.store.entry)
    (same ∙ ap (λ (b : Bool). cond b (Down (record_of m.store.entry)) Up) up)

pub stays_up : {V E : Type 0} (memory broken : E) (m n : ManagerState) (o : Outcome (Result V E)) (r : Result V E) → Ends memory broken m n o r
    → (r ≡ Err broken → ⊥) → IsUp m → IsUp n
stays_up memory broken m n o r (inl h) works up = up_if m n (ap (λ (k : Manager). k.condition) h.1.manager) up
stays_up memory broken m n o r (inr (inl h)) works up = up_if m n (ap (λ (k : Manager). k.condition) h.1.manager) up
stays_up memory broken m n o r (inr (inr h)) works up = absurd (works h.0)

-- a call without a disk leaves it so too
pub quietly_up : {A : Type 0} (m n : ManagerState) (o : Outcome A) → manager_of n ≡ succeeded (manager_of m) o → IsUp m → IsUp n
quietly_up m n o left up = up_if m n (ap (λ (k : Manager). k.condition) left) up

-- Answers that are never given.

pub never_wants : (m : Manager) (now : ℕ) → (pump m now).answer ≡ Err pump_fault.Memory → ⊥
never_wants m now is = subst IsPumpAnswer is (is_pump_answer m now)

pub never_fails : (m : Manager) (now : ℕ) → (pump m now).answer ≡ Err pump_fault.DiskFault → ⊥
never_fails m now is = subst IsPumpAnswer is (is_pump_answer m now)

pub never_wants_to_hear : (m : Manager) (p : Packet) (now : ℕ) → (hear m p now).answer ≡ Err hear_fault.Memory → ⊥
never_wants_to_hear m p now is = subst (λ (r : Result Heard HearFault). IsHearAnswer r) is (is_hear_answer m p now)

pub never_fails_to_hear : (m : Manager) (p : Packet) (now : ℕ) → (hear m p now).answer ≡ Err hear_fault.DiskFault → ⊥
never_fails_to_hear m p now is = subst (λ (r : Result Heard HearFault). IsHearAnswer r) is (is_hear_answer m p now)

-- What a pump adds is what its packets are, also where it is refused: then there are none.

refused_packets : (m : Manager) (o : PumpOutcome) (r : Result ℕ PumpFault) → o.answer ≡ r → IfErr r (λ why. o ≡ answering m (Err why)) → OnErr r (o.packets ≡ [])
refused_packets m o (Ok count) is same = tt
refused_packets m o (Err why) is same = ap (λ (p : PumpOutcome). p.packets) same

pub pump_adds : (m : Manager) (now : ℕ) (before after : List ℕ) (r : Result ℕ PumpFault) → RefusalsChangeNothing → before ≡ [] → r ≡ (pump m now).answer
    → OnOk r (after ≡ before ++ flat_map plain_spelling (pump m now).packets) → OnErr r (after ≡ before) → after ≡ flat_map plain_spelling (pump m now).packets
pump_adds m now before after (Ok count) law none is sent refused =
    sent ∙ ap (λ (t : List ℕ). t ++ flat_map plain_spelling (pump m now).packets) none
pump_adds m now before after (Err why) law none is sent refused =
    refused ∙ none ∙ ap (λ (ps : List Packet). flat_map plain_spelling ps) (sym (refused_packets m (pump m now) (Err why) (sym is)
    (subst (λ (r : Result ℕ PumpFault). IfErr r (λ w. pump m now ≡ answering m (Err w))) (sym is) ((law m).pump_whole now).refused)))
