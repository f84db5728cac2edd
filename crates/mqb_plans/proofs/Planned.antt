-- What follows for a plan to which a call comes.
use Rattle.std.proofs.Common.{◌≡◌, None, Ok, Option, Result, Some, refl, subst, true}
use Rattle.std.specs.Prelude.{IfSome}
use Rattle.mqb_model.specs.calls.Call.{Answer, answered}
use Rattle.mqb_model.specs.declared.faults.SendFault.{SendFault}
use Rattle.mqb_model.specs.declared.faults.SendFault.TheVariants as fault
use Rattle.mqb_model.specs.laws.Durable.{LeavesStore}
use Rattle.mqb_model.specs.laws.Fitting.{IsAsRead, IsFitting}
use Rattle.mqb_model.specs.laws.Keeping.{StaysValid}
use Rattle.mqb_model.specs.managers.Manager.{Manager, unlinked}
use Rattle.mqb_model.specs.managers.Outcomes.{Outcome, recorded}
use Rattle.mqb_model.specs.managers.Valid.{IsValidManager, IsWritable}
use Rattle.mqb_model.specs.records.Applying.{fits}
use Rattle.mqb_model.specs.records.Carrying.{IsRead}
use Rattle.mqb_model.specs.records.Record.{Record}
use Rattle.mqb_model.specs.state.Durable.{durable}
use Rattle.mqb_model.specs.state.State.{State}
use Rattle.mqb_plans.specs.Plans.{CanWrite, ComesTo, KeepsStore, KeepsValid, Plan, Refuses, RefusesSend, outcome_of, state_left}

both : (s : State) (o : Option Record) → IfSome o (λ r. fits s r ≡ true) → IfSome o IsRead → IfSome o (IsWritable s)
both s None f r = tt
both s (Some x) f r = record { fits = f; read = r }

module _ {V E : Type 0} (s : State) (call : Manager → Outcome (Result V E)) (p : Plan) (answer : V) (made : ComesTo s call p answer) where
  -- its record is that of a manager that knows nothing else
  pub writes : ((m : Manager) → IsFitting m (call m)) → ((m : Manager) → IsAsRead (call m)) → CanWrite s p
  writes fitting read =
      let m : Manager = unlinked s in
      let is : call m ≡ outcome_of m p (Ok answer) = made m refl refl in
      both s p.written (subst (λ (o : Outcome (Result V E)). IsFitting m o) is (fitting m)) (subst (λ (o : Outcome (Result V E)). IsAsRead o) is (read m))

  -- it keeps managers valid, as the request does
  pub keeps_valid : (says : Result V E → Answer) → ((m : Manager) → IsValidManager m → StaysValid m (answered says (call m))) → KeepsValid s p
  keeps_valid says stays m v same up =
      let h : StaysValid m (answered says (outcome_of m p (Ok answer))) = subst (λ (o : Outcome (Result V E)). StaysValid m (answered says o)) (made m same up) (stays m v) in
      record { succeeds = h.succeeds; fails = h.fails }

  -- and leaves what the store stands for
  pub keeps_store : (says : Result V E → Answer) → ((m : Manager) → IsValidManager m → LeavesStore m (answered says (call m))) → KeepsStore s p
  keeps_store says leaves m v same up =
      let h : LeavesStore m (answered says (outcome_of m p (Ok answer))) = subst (λ (o : Outcome (Result V E)). LeavesStore m (answered says o)) (made m same up) (leaves m v) in
      subst (λ (t : State). durable (state_left t p) ≡ durable (recorded t p.written)) same h

-- a refusal of a send, whatever the reason
pub refuses_send : {V : Type 0} (s : State) (call : Manager → Outcome (Result V SendFault)) (why : SendFault) → Refuses s call why → RefusesSend s call why
refuses_send s call fault.Memory h = tt
refuses_send s call fault.Down h = h
refuses_send s call fault.UnknownPeer h = h
refuses_send s call fault.NoQueue h = h
refuses_send s call fault.Transactional h = h
refuses_send s call fault.QueueFull h = h
refuses_send s call fault.NumbersSpent h = h
refuses_send s call fault.TooLarge h = h
refuses_send s call fault.DiskFault h = h
