-- Calls that were made, and calls that were not.
use Rattle.std.proofs.Common.{◌≡◌, false, List, [], ◌++◌, None, Option, Result, Some, Ok, Err, ℕ, refl, sym, ap, subst, inl, inr, ◌∙◌}
use Rattle.std.specs.Prelude.{IsSomeAnd, OnErr, OnOk, flat_map}
use Rattle.mqb_base.specs.declared.heard.Heard.{Heard}
use Rattle.mqb_outside.specs.Disk.{View}
use Rattle.mqb_manager.specs.mqb_hearing.Plans.{ShowsReadable}
use Rattle.mqb_outside.specs.Told.{Took}
use Rattle.mqb_packet.specs.Parts.{packet_of, seen_packet}
use Rattle.mqb_packet.specs.Plain.{plain_spelling}
use Rattle.mqb_packet.specs.Spelled.{packet_in}
use Rattle.mqb_packet.specs.declared.lent.PacketView.{PacketView}
use Rattle.mqb_packet.specs.declared.packet.Packet.{Packet}
use Rattle.mqb_model.specs.calls.hear.Hear.{IsReadable, hear}
use Rattle.mqb_model.specs.calls.pump.Pump.{pump}
use Rattle.mqb_model.specs.declared.faults.HearFault.{HearFault}
use Rattle.mqb_model.specs.declared.faults.HearFault.TheVariants as hear_fault
use Rattle.mqb_model.specs.declared.faults.PumpFault.{PumpFault}
use Rattle.mqb_model.specs.declared.faults.PumpFault.TheVariants as pump_fault
use Rattle.mqb_model.specs.laws.Refusals.{RefusalsChangeNothing}
use Rattle.mqb_serving.specs.Conversations.{stored_after}
use Rattle.mqb_manager.specs.Calls.{IsCall}
use Rattle.mqb_manager.specs.States.{IsUp, ManagerState, manager_of}
use Rattle.mqb_serving.specs.declared.faults.ConnFault.{ConnFault}
use Rattle.mqb_serving.specs.declared.faults.ConnFault.TheVariants as fault
use Rattle.mqb_serving.specs.Serving.{is_read_fault, is_write_fault}
use Rattle.mqb_serving.specs.Steps.{HearsBy, IsHeard, IsPumped, LeftBy, PumpStops, TookFront}
use Rattle.mqb_serve.specs.Talking.{Keeps, stopped_hearing, stopped_pumping, stored_of}
use Rattle.mqb_serve.proofs.Calls.{answered_so, broken_so, memory_so, never_fails, never_fails_to_hear, never_wants, never_wants_to_hear, pump_adds}
use Rattle.mqb_serve.proofs.Keeps.{keeps_call, keeps_fault, keeps_memory}

some_is : (a b : ConnFault) → Some a ≡ Some b → a ≡ b
some_is a b e = cc

-- Pumps.

went : (r : Result ℕ PumpFault) → stopped_pumping r ≡ None → (r ≡ Err pump_fault.Memory → ⊥) × (r ≡ Err pump_fault.DiskFault → ⊥)
went r none = (λ is. let wrong : ⊥ = none_some (ap stopped_pumping (sym is) ∙ none) in wrong, λ is. let wrong : ⊥ = none_some (ap stopped_pumping (sym is) ∙ none) in wrong)
  where
    none_some : {a : ConnFault} → Some a ≡ None → ⊥
    none_some e = cc

module _ (d e : View) (m n : ManagerState) (now : ℕ) (up : IsUp m) where
  pub pump_stopped : (r : Result ℕ PumpFault) (why : ConnFault) (x : Option (List ℕ)) → IsCall pump_fault.Memory pump_fault.DiskFault d e m n (pump (manager_of m) now) r
      → stopped_pumping r ≡ Some why → PumpStops (stored_of m) now (stored_of n) x x why
  pump_stopped (Err pump_fault.Memory) why x call is =
      subst (λ (w : ConnFault). PumpStops (stored_of m) now (stored_of n) x x w) (some_is fault.Memory why is)
      (inl (memory_so pump_fault.Memory pump_fault.DiskFault m n (pump (manager_of m) now) (Err pump_fault.Memory) call.ends refl (λ same. let wrong : ⊥ = cc in wrong) (never_wants (manager_of m) now), refl))
  pump_stopped (Err pump_fault.DiskFault) why x call is =
      subst (λ (w : ConnFault). PumpStops (stored_of m) now (stored_of n) x x w) (some_is fault.DiskFault why is)
      (inl (
        (
            broken_so pump_fault.Memory pump_fault.DiskFault m n (pump (manager_of m) now) (Err pump_fault.DiskFault) call.ends refl (λ same. let wrong : ⊥ = cc in wrong) (never_fails (manager_of m) now)
            ),
        refl,
      ))
  pump_stopped r why x call is = absurd (let wrong : ⊥ = cc in wrong)

  pub pump_keeps : {T : Type 0} (r : Result ℕ PumpFault) (why : ConnFault) → IsCall pump_fault.Memory pump_fault.DiskFault d e m n (pump (manager_of m) now) r
      → stopped_pumping r ≡ Some why → Keeps {T = T} d e m n (Err why)
  pump_keeps (Ok count) why call is = absurd (let wrong : ⊥ = cc in wrong)
  pump_keeps (Err pump_fault.Down) why call is = absurd (let wrong : ⊥ = cc in wrong)
  pump_keeps (Err pump_fault.NotLinked) why call is = absurd (let wrong : ⊥ = cc in wrong)
  pump_keeps (Err pump_fault.Spent) why call is = absurd (let wrong : ⊥ = cc in wrong)
  pump_keeps {T} (Err pump_fault.Memory) why call is =
      subst (λ (w : ConnFault). Keeps {T = T} d e m n (Err w)) (some_is fault.Memory why is)
      (keeps_memory pump_fault.Memory pump_fault.DiskFault d e m n (pump (manager_of m) now) (Err pump_fault.Memory) call up (λ same. let wrong : ⊥ = cc in wrong))
  pump_keeps {T} (Err pump_fault.DiskFault) why call is =
      subst (λ (w : ConnFault). Keeps {T = T} d e m n (Err w)) (some_is fault.DiskFault why is)
      (keeps_fault pump_fault.Memory pump_fault.DiskFault d e m n (pump (manager_of m) now) (Err pump_fault.DiskFault) call up refl)

  -- a pump that was made
  module _ (r : Result ℕ PumpFault) (call : IsCall pump_fault.Memory pump_fault.DiskFault d e m n (pump (manager_of m) now) r) (none : stopped_pumping r ≡ None) where
    made : (r ≡ (pump (manager_of m) now).answer) × (stored_of n ≡ stored_after (stored_of m) (pump (manager_of m) now))
    made = answered_so pump_fault.Memory pump_fault.DiskFault m n (pump (manager_of m) now) r call.ends (went r none).0 (went r none).1

    pub pump_kept : {T : Type 0} (x : T) → Keeps d e m n (Ok x)
    pump_kept x = keeps_call pump_fault.Memory pump_fault.DiskFault d e m n (pump (manager_of m) now) r call up x (went r none).1

    module _ (law : RefusalsChangeNothing) (before after : List ℕ) (empty : before ≡ []) (sent : OnOk r (after ≡ before ++ flat_map plain_spelling (pump (manager_of m) now).packets))
        (refused : OnErr r (after ≡ before)) where
      added : after ≡ flat_map plain_spelling (pump (manager_of m) now).packets
      added = pump_adds (manager_of m) now before after r law empty made.0 sent refused

      pub pump_sent : (x y : Option (List ℕ)) → Took x y after → IsPumped (stored_of m) now (stored_of n) x y r
      pump_sent x y took = record { answer = made.0; manager = made.1; took = subst (λ (t : List ℕ). Took x y t) added took }

      pub pump_cut : (x y : Option (List ℕ)) → TookFront x y after → PumpStops (stored_of m) now (stored_of n) x y fault.WriteFault
      pump_cut x y front = inr (made.1, subst (λ (t : List ℕ). TookFront x y t) added front)

-- Packets that are heard.

went_on : (r : Result Heard HearFault) → stopped_hearing r ≡ None → (r ≡ Err hear_fault.Memory → ⊥) × (r ≡ Err hear_fault.DiskFault → ⊥)
went_on r none = (λ is. let wrong : ⊥ = none_some (ap stopped_hearing (sym is) ∙ none) in wrong, λ is. let wrong : ⊥ = none_some (ap stopped_hearing (sym is) ∙ none) in wrong)
  where
    none_some : {a : ConnFault} → Some a ≡ None → ⊥
    none_some e = cc

-- the packet that a view shows
pub shown : (o : Option Packet) → IsSomeAnd o IsReadable → (p : Packet) × (o ≡ Some p)
shown (Some p) readable = (p, refl)
shown None readable = absurd readable

module _ (d e : View) (m n : ManagerState) (v : PacketView) (now : ℕ) (up : IsUp m) (readable : ShowsReadable v) (r : Result Heard HearFault)
    (call : (p : Packet) → packet_in (seen_packet v) ≡ Some p → IsCall hear_fault.Memory hear_fault.DiskFault d e m n (hear (manager_of m) p now) r) where
  p : Packet
  p = (shown (packet_in (seen_packet v)) readable).0

  is_shown : packet_in (seen_packet v) ≡ Some p
  unfolding p
  is_shown = (shown (packet_in (seen_packet v)) readable).1

  one : IsCall hear_fault.Memory hear_fault.DiskFault d e m n (hear (manager_of m) p now) r
  one = call p is_shown

  module _ (frame : List ℕ) (read : packet_of frame ≡ Ok (seen_packet v)) where
    by_fault : (why : ConnFault) (q : Result Heard HearFault) → r ≡ q → stopped_hearing q ≡ Some why → LeftBy why (HearsBy frame (stored_of m) now) (stored_of m) (stored_of n)
    by_fault why (Err hear_fault.Memory) same is =
        subst (λ (w : ConnFault). LeftBy w (HearsBy frame (stored_of m) now) (stored_of m) (stored_of n)) (some_is fault.Memory why is)
        (memory_so hear_fault.Memory hear_fault.DiskFault m n (hear (manager_of m) p now) r one.ends same (λ same. let wrong : ⊥ = cc in wrong) (never_wants_to_hear (manager_of m) p now))
    by_fault why (Err hear_fault.DiskFault) same is =
        let doubt = broken_so hear_fault.Memory hear_fault.DiskFault m n (hear (manager_of m) p now) r one.ends same (λ same. let wrong : ⊥ = cc in wrong) (never_fails_to_hear (manager_of m) p now) in
        subst (λ (w : ConnFault). LeftBy w (HearsBy frame (stored_of m) now) (stored_of m) (stored_of n)) (some_is fault.DiskFault why is)
        (doubt.0, record { packet = p; spells = record { parts = seen_packet v; read = read; said = is_shown }; comes_to = doubt.1 }, doubt.2)
    by_fault why q same is = absurd (let wrong : ⊥ = cc in wrong)

    pub hear_stopped : (why : ConnFault) → stopped_hearing r ≡ Some why → LeftBy why (HearsBy frame (stored_of m) now) (stored_of m) (stored_of n)
    hear_stopped why is = by_fault why r refl is

  keeps_by : {T : Type 0} (why : ConnFault) (q : Result Heard HearFault) → r ≡ q → stopped_hearing q ≡ Some why → Keeps {T = T} d e m n (Err why)
  keeps_by why (Ok heard) same is = absurd (let wrong : ⊥ = cc in wrong)
  keeps_by why (Err hear_fault.Down) same is = absurd (let wrong : ⊥ = cc in wrong)
  keeps_by why (Err hear_fault.NotLinked) same is = absurd (let wrong : ⊥ = cc in wrong)
  keeps_by {T} why (Err hear_fault.Memory) same is =
      subst (λ (w : ConnFault). Keeps {T = T} d e m n (Err w)) (some_is fault.Memory why is)
      (keeps_memory hear_fault.Memory hear_fault.DiskFault d e m n (hear (manager_of m) p now) r one up (λ broken. let wrong : ⊥ = memory_not_disk (sym same ∙ broken) in wrong))
    where
      memory_not_disk : ◌≡◌ {A = Result Heard HearFault} (Err hear_fault.Memory) (Err hear_fault.DiskFault) → ⊥
      memory_not_disk e = cc
  keeps_by {T} why (Err hear_fault.DiskFault) same is =
      subst (λ (w : ConnFault). Keeps {T = T} d e m n (Err w)) (some_is fault.DiskFault why is)
      (keeps_fault hear_fault.Memory hear_fault.DiskFault d e m n (hear (manager_of m) p now) r one up same)

  pub hear_keeps : {T : Type 0} (why : ConnFault) → stopped_hearing r ≡ Some why → Keeps {T = T} d e m n (Err why)
  hear_keeps why is = keeps_by why r refl is

  -- it was heard
  pub hear_made : (frame : List ℕ) → packet_of frame ≡ Ok (seen_packet v) → stopped_hearing r ≡ None → IsHeard frame (stored_of m) now (stored_of n)
  hear_made frame read none = record {
    packet = p;
    spells = record { parts = seen_packet v; read = read; said = is_shown };
    manager = (answered_so hear_fault.Memory hear_fault.DiskFault m n (hear (manager_of m) p now) r one.ends (went_on r none).0 (went_on r none).1).1;
  }

  pub hear_kept : {T : Type 0} (x : T) → stopped_hearing r ≡ None → Keeps d e m n (Ok x)
  hear_kept x none = keeps_call hear_fault.Memory hear_fault.DiskFault d e m n (hear (manager_of m) p now) r one up x (went_on r none).1

-- No such call reads or writes the connection.

pub hear_never_writes : (r : Result Heard HearFault) (why : ConnFault) → stopped_hearing r ≡ Some why → is_write_fault why ≡ false
hear_never_writes (Err hear_fault.Memory) why is = ap is_write_fault (sym (some_is fault.Memory why is))
hear_never_writes (Err hear_fault.DiskFault) why is = ap is_write_fault (sym (some_is fault.DiskFault why is))
hear_never_writes r why is = absurd (let wrong : ⊥ = cc in wrong)

pub hear_never_reads : (r : Result Heard HearFault) (why : ConnFault) → stopped_hearing r ≡ Some why → is_read_fault why ≡ false
hear_never_reads (Err hear_fault.Memory) why is = ap is_read_fault (sym (some_is fault.Memory why is))
hear_never_reads (Err hear_fault.DiskFault) why is = ap is_read_fault (sym (some_is fault.DiskFault why is))
hear_never_reads r why is = absurd (let wrong : ⊥ = cc in wrong)

pub pump_never_reads : (r : Result ℕ PumpFault) (why : ConnFault) → stopped_pumping r ≡ Some why → is_read_fault why ≡ false
pump_never_reads (Err pump_fault.Memory) why is = ap is_read_fault (sym (some_is fault.Memory why is))
pump_never_reads (Err pump_fault.DiskFault) why is = ap is_read_fault (sym (some_is fault.DiskFault why is))
pump_never_reads r why is = absurd (let wrong : ⊥ = cc in wrong)
